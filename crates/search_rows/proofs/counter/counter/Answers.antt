use Rattle.std.proofs.Common.{◌≡◌, ◌∙◌, ◌<◌, ◌≤◌, sym, subst, arith}
use Rattle.clause_core.specs.Formula.{IsInRange}
use Rattle.search_rows.proofs.SystemLemmas.{AreEight, eight_range, eight_distinct}
use Rattle.search_rows.proofs.counter.counter.Goals as goal

pub make-requires : goal.make-requires
make-requires c =
    let cs = c.in_ok-current.current.items in
    let ns = c.in_ok-next.next.items in
    let current : AreEight 0 cs = record { size = c.in_ok-current.ensures.length; each = c.in_ok-current.ensures.each } in
    let next : AreEight 8 ns = record { size = c.in_ok-next.ensures.length; each = c.in_ok-next.ensures.each } in
    record {
      lengths = current.size ∙ sym next.size;
      distinct = eight_distinct cs ns current next;
      current_in_start = eight_range 0 c.in_ok-start.start.variables cs (omega (arith, c.in_ok-start.ensures)) current;
      current_in_step = eight_range 0 c.in_ok-step.step.variables cs (omega (arith, c.in_ok-step.ensures)) current;
      next_in_step = eight_range 8 c.in_ok-step.step.variables ns (omega (arith, c.in_ok-step.ensures)) next;
      bad_in_start = omega (arith, c.in_ok-start.ensures);
      bad_in_step = omega (arith, c.in_ok-step.ensures);
      bad_next_in_step = omega (arith, c.in_ok-step.ensures);
    }
