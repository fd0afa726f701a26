use Rattle.std.proofs.Common.{sym, ap, ◌∙◌}
use Rattle.murphi_typed.specs.declared.types.AnyType.{Array}
use Rattle.murphi_run.proofs.PlaceEquations.{item_found}
use Rattle.murphi_run.proofs.place.Spot.item.Goals as goal

pub returns-in_ok-first-in-Array : goal.returns-in_ok-first-in-Array
returns-in_ok-first-in-Array c =
    item_found c.args.nodes c.args.self.first c.in_ok-each-in-Array.each c.in_ok-before-in-Array.before
    c.in_ok-first-in-Array.first c.args.self.of.now c.in-Array.index c.get-of.result.now c.args.value
    (c.in-Array.is ∙ ap (Array c.in-Array.index) (sym c.get-of.ensures)) (sym c.has.ensures ∙ c.if-not-has.false)
    c.in_ok-each-in-Array.ensures c.in_ok-before-in-Array.ensures c.in_ok-first-in-Array.ensures
