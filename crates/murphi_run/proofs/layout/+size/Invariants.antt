use Rattle.std.proofs.Common.{◌≡◌, ◌+◌, drop}
use Rattle.murphi_run.specs.Lists.{list_size}
use Rattle.murphi_run.proofs.layout.+size.Given as goal

abbrev pub invariant-fields_size-loop-one : goal.invariant-fields_size-loop-one
invariant-fields_size-loop-one l = l.count + list_size l.nodes (drop l.one-index l.all) ≡ list_size l.nodes l.all
