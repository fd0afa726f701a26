use Rattle.std.proofs.Common.{◌≡◌, drop}
use Rattle.type_names.specs.Wholes.{list_decls}
use Rattle.type_names.proofs.texts.walk_decls.Given as goal

abbrev pub invariant-loop-one : goal.invariant-loop-one
invariant-loop-one l = list_decls l.node l.name (drop l.one-index l.all) l.g ≡ list_decls l.node l.name l.all l.fn.so_far
