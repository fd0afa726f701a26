use Rattle.std.proofs.Common.{sym, ◌∙◌, subst, take, ◌+◌}
use Rattle.std.proofs.Common.{Option}
use Rattle.clause_core.specs.declared.literal.Lit.{Lit}
use Rattle.sat_solver.specs.Assigned.{literals_of}
use Rattle.sat_solver.proofs.ScanLemmas.{Scanned, open_two_at, scanned_false_at, scanned_free_at, scanned_none}
use Rattle.sat_solver.proofs.scan.scan.Goals as goal
use Rattle.sat_solver.proofs.scan.scan.Goals.{then-not-is_false+else-is_true+else-is_other, else-not-is_false}

pub returns-then-is_other : goal.returns-then-is_other
returns-then-is_other c =
    open_two_at (literals_of c.args.trail.now.entries) c.args.lits.now c.loop-l.l-index _ c.loop-l.free c.loop-l-test.true c.loop-l.invariant
    (sym c.is_other.ensures ∙ c.if-is_other.true) (sym c.is_false.ensures ∙ c.if-not-is_false.true)

pub loop-l-preserved : goal.loop-l-preserved
loop-l-preserved c = elim c.if-not-is_false.branch [
  | then-not-is_false+else-is_true+else-is_other w ↦
      subst (λ (o : Option Lit). Scanned (literals_of c.args.trail.now.entries) (take (c.loop-l.l-index + 1) c.args.lits.now) o) (sym w.free-is)
      (scanned_free_at (literals_of c.args.trail.now.entries) c.args.lits.now c.loop-l.l-index _ c.loop-l.free c.loop-l-test.true c.loop-l.invariant
      (sym w.is_other.ensures ∙ w.if-is_other.false) (sym w.is_true.ensures.value ∙ w.if-is_true.false) (sym c.is_false.ensures ∙ w.if-not-is_false.true))
  | else-not-is_false w ↦
      subst (λ (o : Option Lit). Scanned (literals_of c.args.trail.now.entries) (take (c.loop-l.l-index + 1) c.args.lits.now) o) (sym w.free-is)
      (scanned_false_at (literals_of c.args.trail.now.entries) c.args.lits.now c.loop-l.l-index _ c.loop-l.free c.loop-l-test.true c.loop-l.invariant
      (sym c.is_false.ensures ∙ w.if-not-is_false.false))
]

pub returns-in-None : goal.returns-in-None
returns-in-None c = scanned_none (literals_of c.args.trail.now.entries) c.args.lits.now c.loop-l.l-index c.loop-l.free c.loop-l-test.false c.in-None.is c.loop-l.invariant
