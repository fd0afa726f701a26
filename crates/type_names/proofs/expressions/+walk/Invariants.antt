use Rattle.std.proofs.Common.{◌≡◌, drop}
use Rattle.type_names.specs.Gathering.{list_links, list_selectors, list_exprs, list_fields, in_record}
use Rattle.type_names.proofs.expressions.+walk.Given as goal

abbrev pub invariant-walk_links-loop-one : goal.invariant-walk_links-loop-one
invariant-walk_links-loop-one l =
    list_links l.name l.hidden (drop l.one-index l.all) l.g ≡ list_links l.name l.hidden l.all l.fn.so_far

abbrev pub invariant-walk_selectors-loop-one : goal.invariant-walk_selectors-loop-one
invariant-walk_selectors-loop-one l =
    list_selectors l.name l.hidden (drop l.one-index l.all) l.g ≡ list_selectors l.name l.hidden l.all l.fn.so_far

abbrev pub invariant-walk_exprs-loop-one : goal.invariant-walk_exprs-loop-one
invariant-walk_exprs-loop-one l =
    list_exprs l.name l.hidden (drop l.one-index l.all) l.g ≡ list_exprs l.name l.hidden l.all l.fn.so_far

abbrev pub invariant-walk_record-loop-one : goal.invariant-walk_record-loop-one
invariant-walk_record-loop-one l =
    list_fields l.name l.hidden (drop l.one-index l.all) l.g ≡ in_record l.name l.hidden l.all l.fn.so_far
