use Rattle.std.proofs.Common.{◌∙◌, ◌≡◌, length, arith}
use Rattle.cnf_emit.proofs.ReachLemmas.{reached_within, written}
use Rattle.cnf_emit.proofs.reach.reached.Goals as goal

pub returns-clause-least : goal.returns-clause-least
returns-clause-least c = λ p closed.
    let second : length c.mark_roots.new.marks ≡ c.in_ok-marks.marks.len = omega arith in
    let third : length c.mark_below.new.marks ≡ c.in_ok-marks.marks.len = omega arith in
    reached_within c.args.c.now.gates c.args.roots.now c.in_ok-marks.marks.items c.as_mut_slice.result.now c.mark_roots.new.marks c.as_mut_slice-2.result.now c.mark_below.new.marks _ _ _ p
    (c.in_ok-marks.ensures.items_if_clones_equal (λ y h. h)) c.as_mut_slice.ensures.value (c.as_mut_slice-2.ensures.value ∙ written _ c.mark_roots.new.marks _ second) third
    (c.mark_roots.ensures.within p) (c.mark_below.ensures.within p closed)
