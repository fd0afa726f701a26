use Rattle.murphi_typed.proofs.ExpressionLemmas.{value_typed, got_facts}
use Rattle.murphi_typed.proofs.TopLemmas.{top_valued}
use Rattle.murphi_typed.proofs.laws.expressions_have_values_of_their_types.Goals as goal

pub returns-clause-inner : goal.returns-clause-inner
returns-clause-inner c = λ types calls scope scene at cells fits fine bound results kept e type v typed is. got_facts scene.nodes type _ v (value_typed types calls scope scene at cells fits fine bound results kept e type typed) is

pub returns-clause-top : goal.returns-clause-top
returns-clause-top c = top_valued
