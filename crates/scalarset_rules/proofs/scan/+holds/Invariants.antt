use Rattle.std.proofs.Common.{◌≡◌, drop}
use Rattle.scalarset_rules.specs.Scanning.{list_holds}
use Rattle.scalarset_rules.proofs.scan.+holds.Given as goal

abbrev pub invariant-any_holds-loop-field : goal.invariant-any_holds-loop-field
invariant-any_holds-loop-field l = list_holds (drop l.field-index l.fields) ≡ list_holds l.fields
