use Rattle.std.proofs.Common.{ℕ, ◌≡◌, ◌<◌, ◌≤◌, ◌+◌, ◌-◌, ◌*◌, ◌∙◌, length, take, arith}
use Rattle.sat_solver.proofs.advance.advance.Goals as goal

falls : (v w u n m k : ℕ) → w ≡ u → u ≡ v → k ≡ m + 1 → n ≤ m → k ≤ 2 * w → 2 * w - k < 2 * v - n
falls v w u n m k e f g h b = omega arith

pub loop-origin-smaller : goal.loop-origin-smaller
loop-origin-smaller c =
    let made = c.in_ok-make_true-in-Decide.ensures in
    falls c.loop-origin.trail.variables c.make_true.new.trail.variables c.follow.new.trail.variables (length c.loop-origin.trail.entries) (length c.follow.new.trail.entries) (length c.make_true.new.trail.entries)
    made.variables c.follow.ensures.variables made.longer c.follow.ensures.longer made.bound

pub loop-origin-preserved : goal.loop-origin-preserved
loop-origin-preserved c =
    let made = c.in_ok-make_true-in-Decide.ensures in
    record {
      variables = made.variables ∙ c.follow.ensures.variables ∙ c.loop-origin.invariant.variables;
      arena = c.follow.ensures.arena ∙ c.loop-origin.invariant.arena;
      reasons = made.reasons (length c.args.known.now.given.now) (length c.args.known.now.chains.now) c.follow.ensures.reasons;
      decided = made.decided;
      before = made.kept (take c.first_open-assumed.result c.args.assumptions.now) c.first_open-assumed.ensures.before;
      within = c.first_open-assumed.ensures.within;
    }
