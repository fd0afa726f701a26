use Rattle.std.proofs.Common.{◌≡◌, drop}
use Rattle.type_parts.specs.TypeLists.{list_field}
use Rattle.type_parts.proofs.types.field_type.Given as goal

abbrev pub invariant-loop-one : goal.invariant-loop-one
invariant-loop-one l = list_field (drop l.one-index l.fields) l.name ≡ list_field l.fields l.name
