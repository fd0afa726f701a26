use Rattle.std.proofs.Common.{◌≡◌, drop}
use Rattle.type_items.specs.Gathering.{list_with}
use Rattle.type_items.proofs.items.+items.Given as goal

abbrev pub invariant-list-loop-one : goal.invariant-list-loop-one
invariant-list-loop-one l =
    list_with l.opened l.past l.size (drop l.one-index l.all) l.done
    ≡ list_with l.opened l.past l.size l.all l.fn.done
