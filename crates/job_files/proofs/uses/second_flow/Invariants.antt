use Rattle.std.proofs.Common.{◌≡◌, map, drop}
use Rattle.job_files.specs.Told.{flow_name, second_among, second_use}
use Rattle.job_files.specs.Uses.{names_in}
use Rattle.job_files.proofs.uses.second_flow.Given as goal

abbrev pub invariant-loop-flow : goal.invariant-loop-flow
invariant-loop-flow l = second_among (names_in l.used.entries) (map flow_name (drop l.flow-index l.all)) ≡ second_use (map flow_name l.all)
