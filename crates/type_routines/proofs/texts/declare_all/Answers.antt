use Rattle.std.proofs.Common.{true, arith, ap, ◌∙◌}
use Rattle.std.proofs.lemmas.List.{take_all}
use Rattle.murphi_types.specs.Routines.{globally_declared, text_declared}
use Rattle.type_declarations.specs.Declaring.{declaring}
use Rattle.type_routines.proofs.TurnLemmas.{turn}
use Rattle.type_routines.proofs.TextLemmas.{text-last}
use Rattle.type_routines.proofs.texts.declare_all.Goals as goal

pub loop-one-preserved : goal.loop-one-preserved
loop-one-preserved c =
    turn true text_declared globally_declared text-last c.args.all.now c.loop-one.one-index c.one-item.result c.args.start c.loop-one.done c.in_ok-done.done
    (omega arith) c.one-item.is c.loop-one.invariant c.in_ok-done.ensures

pub returns : goal.returns
returns c =
    λ d h.
    c.loop-one.invariant d h
    ∙ ap (λ xs. declaring true (text_declared xs d)) (take_all c.loop-one.one-index c.args.all.now (omega arith))
