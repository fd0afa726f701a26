use Rattle.std.proofs.Common.{◌≡◌, ◌+◌, ◌++◌, ◌∷◌, [], arith, sym, subst, vec_len, rules}
use Rattle.sat_solver.specs.Assigned.{IsTrail}
use Rattle.sat_solver.proofs.TrailLemmas.{trail_popped, take_popped}
use Rattle.sat_solver.proofs.entries.undo.Goals as goal

pub loop-entries-preserved-in-Some : goal.loop-entries-preserved-in-Some
loop-entries-preserved-in-Some c =
    let split : c.loop-entries.entries.items ≡ c.pop.new.self.items ++ c.in-Some.entry ∷ [] = c.in-Some.ensures.items in
    let fewer : vec_len c.pop.new.self + 1 ≡ vec_len c.loop-entries.entries = c.in-Some.ensures.cases in
    record {
      trail = λ n t. subst (IsTrail n c.pop.new.self.items) (sym c.unmark.ensures.write) (trail_popped n c.pop.new.self.items c.loop-entries.values c.in-Some.entry (subst (λ es. IsTrail n es c.loop-entries.values) split (c.loop-entries.invariant.trail n t)));
      front = take_popped c.args.entries.now.items c.loop-entries.entries.items c.pop.new.self.items c.in-Some.entry (vec_len c.loop-entries.entries) (vec_len c.pop.new.self) c.loop-entries.invariant.front split (search rules) (omega arith);
      low = omega arith;
    }
