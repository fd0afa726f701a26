use Rattle.std.proofs.Common.{List, map, ◌++◌, sym, ap, ◌∙◌, Some}
use Rattle.std.proofs.lemmas.Option.{slice_get-get_or}
use Rattle.other_abstract.specs.declared.node.AbsNode.{AbsNode}
use Rattle.other_abstract.specs.declared.place.Place.{Place}
use Rattle.term_core.specs.declared.machine.CellFamily.{CellFamily}
use Rattle.other_abstract.specs.Tests.{lists_of}
use Rattle.other_abstract.specs.Places.{places_in}
use Rattle.other_abstract.proofs.PlaceLemmas.{places_more}
use Rattle.other_abstract.proofs.places.places_in.Goals as goal

-- one family more
pub loop-at-preserved : goal.loop-at-preserved
loop-at-preserved c =
    let named : List AbsNode → Place = λ (xs : List AbsNode). record { family = c.loop-at.at; at = xs } in
    places_more c.args.nodes.now c.args.families.now c.loop-at.at c.index-families-at.result c.loop-at.out.items c.add_places.new.out.items (places_in c.args.nodes.now 0 c.args.families.now)
    (slice_get-get_or c.args.families.now c.loop-at.at c.index-families-at.result c.loop-at-test.true ∙ ap Some (sym c.index-families-at.is))
    (c.in_ok-add_places.ensures ∙ ap (λ ls. c.loop-at.out.items ++ map named ls) (c.as_slice.ensures.value ∙ c.in_ok-lists.ensures ∙ ap (λ (f : CellFamily). lists_of c.args.nodes.now f.axes) (sym c.index-families-at.is)))
    c.loop-at.invariant
