use Rattle.std.proofs.Common.{◌≡◌, ◌+◌, suc, ◌∙◌, sym, ap, subst, arith}
use Rattle.other_abstract.specs.Lists.{window_in}
use Rattle.other_abstract.specs.Machines.{window}
use Rattle.bit_layout.specs.Layout.{window_place}
use Rattle.bit_gates.specs.declared.window.CodedWindow.{CodedWindow}
use Rattle.bit_gates.specs.Inputs.{IsWindowOf, IsOpened, AreOpened}
use Rattle.bit_gates.proofs.Growing.{keeps_all}
use Rattle.bit_gates.proofs.WindowLemmas.{window_after, opened_more, get_same}
use Rattle.bit_gates.proofs.StepLemmas.{asked_opened}
use Rattle.bit_gates.proofs.steps.open_all.Goals as goal

pub loop-at-preserved : goal.loop-at-preserved
loop-at-preserved c =
    let s : suc c.loop-at.at ≡ c.loop-at.at + 1 = omega arith in
    let w : CodedWindow = c.index-windows-at.result in
    let is : IsWindowOf c.args.machine.now c.args.circuit.now w c.loop-at.at (window_place c.args.machine.now c.loop-at.at) =
    subst (λ (v : CodedWindow). IsWindowOf c.args.machine.now c.args.circuit.now v c.loop-at.at (window_place c.args.machine.now c.loop-at.at)) (sym c.index-windows-at.is) (c.requires.windows.each c.loop-at.at _ c.loop-at-test.true) in
    let one : IsOpened c.args.machine.now c.asked.new.circuit c.in_ok-one.one w.cells.items c.args.kept.now.cells.items c.loop-at.at (window_place c.args.machine.now c.loop-at.at) =
    asked_opened c.codes_show_states.ensures.legal c.args.machine.now c.loop-at.circuit c.asked.new.circuit w c.loop-at.at c.in_ok-one.one c.scene-wide.result.cells.now c.scene-before.result.cells.now c.args.kept.now.cells.items (window_in c.scene-wide.result.window) (window_in c.scene-before.result.window) c.args.places.now
    (window_after c.args.machine.now c.args.circuit.now c.loop-at.circuit w c.loop-at.at (window_place c.args.machine.now c.loop-at.at) c.loop-at.invariant.keeps is) c.asked.ensures.keeps
    c.scene-wide.ensures.cells c.scene-before.ensures.cells (c.scene-wide.ensures.window ∙ ap (window c.args.machine.now) is.number) (c.scene-before.ensures.window ∙ ap (window c.args.machine.now) c.requires.kept.number) c.requires.places
    c.in_ok-one.ensures.legal_edge c.in_ok-one.ensures.ready_edge c.in_ok-one.ensures.legal c.in_ok-one.ensures.opens in
    record {
      keeps = keeps_all _ _ _ c.loop-at.invariant.keeps c.asked.ensures.keeps;
      opened = subst (AreOpened c.args.machine.now c.asked.new.circuit c.push.new.self.items c.args.windows.now c.args.kept.now.cells.items) s
          (opened_more c.args.machine.now c.loop-at.circuit c.asked.new.circuit c.loop-at.out.items c.push.new.self.items c.args.windows.now c.in_ok-one.one c.args.kept.now.cells.items c.loop-at.at c.loop-at.invariant.opened c.asked.ensures.keeps
          (λ d. subst (λ (v : CodedWindow). IsOpened c.args.machine.now c.asked.new.circuit c.in_ok-one.one v.cells.items c.args.kept.now.cells.items c.loop-at.at (window_place c.args.machine.now c.loop-at.at)) (c.index-windows-at.is ∙ get_same c.args.windows.now c.loop-at.at _ d c.loop-at-test.true) one)
          c.in_ok-push.ensures.items);
    }
