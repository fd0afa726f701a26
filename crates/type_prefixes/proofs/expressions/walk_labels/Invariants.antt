use Rattle.std.proofs.Common.{◌≡◌, drop}
use Rattle.type_prefixes.specs.Walks.{labels_walked}
use Rattle.type_prefixes.proofs.expressions.walk_labels.Given as goal

abbrev pub invariant-loop-one : goal.invariant-loop-one
invariant-loop-one l =
    labels_walked l.routines (drop l.one-index l.all) l.inside l.depth ≡ labels_walked l.routines l.all l.inside l.fn.so_far
