use Rattle.std.proofs.Common.{◌≡◌, drop}
use Rattle.type_parts.specs.TypeLists.{each_of}
use Rattle.type_parts.proofs.types.+parts.Given as goal

abbrev pub invariant-each_field-loop-one : goal.invariant-each_field-loop-one
invariant-each_field-loop-one l = each_of (drop l.one-index l.fields) l.others ≡ each_of l.fields l.others
