use Rattle.murphi_ast.proofs.Reached.{inductive_is_safe}
use Rattle.murphi_ast.proofs.laws.inductive_is_safe.Goals as goal

pub returns : goal.returns
returns c = inductive_is_safe
