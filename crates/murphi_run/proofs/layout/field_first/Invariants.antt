use Rattle.std.proofs.Common.{◌≡◌, ◌+◌, drop}
use Rattle.murphi_run.specs.Lists.{list_first}
use Rattle.murphi_run.proofs.layout.field_first.Given as goal

abbrev pub invariant-loop-one : goal.invariant-loop-one
invariant-loop-one l = l.count + list_first l.nodes (drop l.one-index l.all) l.name ≡ list_first l.nodes l.all l.name
