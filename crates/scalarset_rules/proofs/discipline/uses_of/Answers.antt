use Rattle.std.proofs.Common.{refl, [], ◌∷◌}
use Rattle.std.specs.Prelude.{slice_index_or}
use Rattle.murphi_ast.specs.declared.token.Span.{Span}
use Rattle.scalarset_rules.specs.Rules.{first_break, breaks_at}
use Rattle.scalarset_rules.specs.Verdicts.{first_uses}
use Rattle.scalarset_rules.proofs.ScanEquations.{fold_step, item_there}
use Rattle.scalarset_rules.proofs.discipline.uses_of.Goals as goal

pub loop-at-preserved : goal.loop-at-preserved
loop-at-preserved c =
    let none : Span = record { line = 0; column = 0 } in
    fold_step (λ at. first_break (breaks_at 1 (at ∷ []))) first_uses (λ x xs. refl) c.args.uses.now c.loop-at.at-index (slice_index_or c.args.uses.now c.loop-at.at-index none)
    c.loop-at.first c.one.result c.first_of-first.result c.loop-at-test.true (item_there c.args.uses.now c.loop-at.at-index none (slice_index_or c.args.uses.now c.loop-at.at-index none) c.loop-at-test.true) c.first_of-first.ensures c.one.ensures c.loop-at.invariant
