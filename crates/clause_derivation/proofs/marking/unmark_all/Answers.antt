use Rattle.std.proofs.Common.{◌<◌, length, arith}
use Rattle.std.proofs.lemmas.List.{take_more}
use Rattle.clause_derivation.proofs.MarkLemmas.{unmarks_one, unmarks_none}
use Rattle.clause_derivation.proofs.marking.unmark_all.Goals as goal
use Rattle.clause_derivation.proofs.marking.unmark_all.Goals.{then-is_marked, else-is_marked}

pub loop-l-preserved : goal.loop-l-preserved
loop-l-preserved c =
    let inside : c.loop-l.l-index < length c.args.lits.now = omega arith in
    elim c.if-is_marked.branch [
      | then-is_marked w ↦ rw (w.marked-is, w.clean-is, take_more c.args.lits.now c.loop-l.l-index (record { code = 0 }) inside) (unmarks_one _ _ _ _ _ c.loop-l.invariant (cc))
      | else-is_marked w ↦ rw (w.marked-is, w.clean-is, take_more c.args.lits.now c.loop-l.l-index (record { code = 0 }) inside) (unmarks_none _ _ _ _ _ c.loop-l.invariant (cc))
    ]
