use Rattle.std.proofs.Common.{◌∙◌, sym, ap}
use Rattle.sat_solver.specs.Assigned.{reason_in}
use Rattle.sat_solver.proofs.DecideLemmas.{refused_reason, reason_known}
use Rattle.sat_solver.proofs.advance.assume.Goals as goal

pub unreachable-requires : goal.unreachable-requires
unreachable-requires c =
    refused_reason c.args.assumptions.now c.args.trail.now.entries c.args.l c.requires.decided c.requires.consistent c.requires.assumed c.requires.not_true
    (sym c.is_false.ensures ∙ c.if-is_false.true)
    (ap (reason_in c.args.trail.now.entries) (sym c.negated.ensures.value) ∙ sym c.reason.ensures ∙ c.in-None.is)

pub returns-then-is_false : goal.returns-then-is_false
returns-then-is_false c n k known = reason_known n k c.args.trail.now.entries c.negated.result c.in-Some.origin known (sym c.reason.ensures ∙ c.in-Some.is)
