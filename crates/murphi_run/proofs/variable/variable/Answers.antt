use Rattle.std.proofs.Common.{sym, ap, ◌∙◌}
use Rattle.std.specs.Prelude.{slice_get}
use Rattle.murphi_run.proofs.VariableLemmas.{block_some}
use Rattle.murphi_run.proofs.variable.variable.Goals as goal

pub returns : goal.returns
returns c = λ N first is.
    sym (block_some N first c.args.number c.first_at-first.result c.args.all.now c.variable_at-one.result.now c.variable_at-one.ensures
    (ap (λ xs. slice_get xs c.args.number) (sym is) ∙ c.first_at-first.ensures))
