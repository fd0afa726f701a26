use Rattle.std.proofs.Common.{◌+◌, ◌∙◌, ap}
use Rattle.bit_layout.specs.Layout.{bits_in}
use Rattle.bit_gates.proofs.WindowLemmas.{windows_more}
use Rattle.bit_gates.proofs.window.add_window.Goals as goal

pub returns-clause-windows : goal.returns-clause-windows
returns-clause-windows c =
    windows_more c.args.machine.now c.args.circuit.now _ c.args.out.now.items _ c.in_ok-window.window c.args.fired c.args.circuit.now.inputs c.requires.windows c.coded.ensures.keeps c.in_ok-window.ensures.window c.requires.place c.in_ok-push.ensures.items

pub returns-clause-inputs : goal.returns-clause-inputs
returns-clause-inputs c = c.in_ok-window.ensures.inputs ∙ ap (λ n. n + bits_in c.args.machine.now c.args.fired) c.requires.place
