use Rattle.std.proofs.Common.{◌≡◌, drop}
use Rattle.type_names.specs.Wholes.{list_items}
use Rattle.type_names.proofs.texts.+items.Given as goal

abbrev pub invariant-walk_items-loop-one : goal.invariant-walk_items-loop-one
invariant-walk_items-loop-one l =
    list_items l.name l.hidden (drop l.one-index l.all) l.g ≡ list_items l.name l.hidden l.all l.fn.so_far
