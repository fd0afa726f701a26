use Rattle.murphi_grammar.proofs.Agreement.{spelled_there, spelled_back, begun_there, begun_back}
use Rattle.murphi_grammar.proofs.laws.grammars_agree.Goals as goal

pub returns-clause-spelled : goal.returns-clause-spelled
returns-clause-spelled c = λ r m us v. (λ p. spelled_back p, λ p. spelled_there p)

pub returns-clause-begun : goal.returns-clause-begun
returns-clause-begun c = λ r m us. (λ p. begun_back p, λ p. begun_there p)
