use Rattle.std.proofs.Common.{true, ◌∙◌, ap}
use Rattle.std.specs.List.{list_all}
use Rattle.other_abstract.specs.Tests.{passes, may, lists_of}
use Rattle.other_abstract.specs.Lists.{window_in}
use Rattle.bit_encode.proofs.FactLemmas.{lists_told}
use Rattle.bit_encode.proofs.facts.may_hold.Goals as goal

pub returns-clause-tells : goal.returns-clause-tells
returns-clause-tells c =
    lists_told _ c.args.scene.now.cells.now _ (λ w ls. list_all (λ ns. may (window_in c.args.scene.now.window) w ns c.args.formula.now.body (passes true)) ls) _ _
    (c.as_slice.ensures.value ∙ c.in_ok-lists.ensures ∙ ap (λ ns. lists_of ns c.args.formula.now.prefix) c.requires.scene.nodes) c.in_ok-e.ensures.tells
