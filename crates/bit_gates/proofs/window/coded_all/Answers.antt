use Rattle.std.proofs.Common.{◌≡◌, ◌+◌, suc, ◌∙◌, ap, subst, arith}
use Rattle.bit_layout.specs.Layout.{window_place}
use Rattle.bit_gates.specs.Inputs.{AreWindows}
use Rattle.bit_gates.proofs.Growing.{keeps_all}
use Rattle.bit_gates.proofs.window.coded_all.Goals as goal

pub loop-fired-preserved : goal.loop-fired-preserved
loop-fired-preserved c =
    let s : suc c.loop-fired.fired ≡ c.loop-fired.fired + 1 = omega arith in
    record {
      keeps = keeps_all _ _ _ c.loop-fired.invariant.keeps c.add_window.ensures.keeps;
      place = c.in_ok-add_window.ensures.inputs ∙ ap (window_place c.args.machine.now) s;
      windows = subst (AreWindows c.args.machine.now c.add_window.new.circuit c.add_window.new.out.items) s c.in_ok-add_window.ensures.windows;
    }
