use Rattle.std.proofs.Common.{sym, subst, length, drop, arith}
use Rattle.sat_solver.specs.Assigned.{IsTrail}
use Rattle.sat_solver.proofs.TrailLemmas.{trail_written}
use Rattle.sat_solver.proofs.trail.Trail.keep_facts.Goals as goal

pub invariant_of-self : goal.invariant_of-self
invariant_of-self c =
    trail_written c.self.inside.variables c.self.inside.values.len c.undo.new.entries.items c.undo.new.values (drop (length c.undo.new.values) c.self.inside.values.items) (omega arith)
    (c.undo.ensures.trail c.self.inside.variables (subst (IsTrail c.self.inside.variables c.self.inside.entries.items) (sym c.as_mut_slice.ensures.value) c.self.invariant))
