use Rattle.std.proofs.Common.{◌≡◌, drop}
use Rattle.murphi_run.specs.Lists.{list_offset}
use Rattle.murphi_run.proofs.layout.+number.Given as goal

abbrev pub invariant-field_number-loop-one : goal.invariant-field_number-loop-one
invariant-field_number-loop-one l = list_offset l.nodes (drop l.one-index l.all) l.name (drop l.from l.path) (drop l.next l.at) ≡ list_offset l.nodes l.all l.name (drop l.from l.path) (drop l.next l.at)
