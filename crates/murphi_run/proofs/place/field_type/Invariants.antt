use Rattle.std.proofs.Common.{◌≡◌, drop}
use Rattle.murphi_run.specs.Lists.{list_field}
use Rattle.murphi_run.proofs.place.field_type.Given as goal

abbrev pub invariant-loop-one : goal.invariant-loop-one
invariant-loop-one l = list_field (drop l.one-index l.fields) l.name ≡ list_field l.fields l.name
