use Rattle.std.proofs.Common.{◌≡◌, drop}
use Rattle.type_prefixes.specs.WalkLists.{list_links, list_indices, list_args}
use Rattle.type_prefixes.proofs.expressions.+walk.Given as goal

abbrev pub invariant-walk_links-loop-one : goal.invariant-walk_links-loop-one
invariant-walk_links-loop-one l =
    list_links l.routines (drop l.one-index l.all) l.inside l.depth ≡ list_links l.routines l.all l.inside l.fn.so_far

abbrev pub invariant-walk_indices-loop-one : goal.invariant-walk_indices-loop-one
invariant-walk_indices-loop-one l =
    list_indices l.routines (drop l.one-index l.all) l.inside l.depth ≡ list_indices l.routines l.all l.inside l.fn.so_far

abbrev pub invariant-walk_list-loop-one : goal.invariant-walk_list-loop-one
invariant-walk_list-loop-one l =
    list_args l.routines l.left (drop l.one-index l.all) l.inside l.depth
    ≡ list_args l.routines l.places l.all l.inside l.fn.so_far
