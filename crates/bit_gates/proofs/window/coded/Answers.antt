use Rattle.std.proofs.Common.{◌+◌, ◌++◌, ◌∙◌, map, ap, refl}
use Rattle.term_core.specs.Nodes.{nodes}
use Rattle.other_abstract.specs.declared.node.AbsNode.TheVariants.{Kept, Fired}
use Rattle.other_abstract.specs.Lists.{window_in}
use Rattle.bit_encode.specs.Codes.{bit_count, cell_lists}
use Rattle.bit_gates.proofs.WindowLemmas.{window_made}
use Rattle.bit_gates.proofs.window.coded.Goals as goal

pub returns-clause-window : goal.returns-clause-window
returns-clause-window c =
    window_made c.args.machine.now _ _ (window_in c.bare_scene-bare.result) c.args.fired _ c.in_ok-cells.cells.items refl (c.in-Ok.ensures ∙ ap (λ k. map Kept (nodes k) ++ map Fired (nodes c.args.fired)) c.kept.ensures) refl c.bare_scene-bare.ensures.window c.in_ok-cells.ensures.edges c.in_ok-cells.ensures.coded

pub returns-clause-inputs : goal.returns-clause-inputs
returns-clause-inputs c = c.in_ok-cells.ensures.inputs ∙ ap (λ k. c.args.circuit.now.inputs + bit_count (cell_lists k)) c.bare_scene-bare.ensures.window
