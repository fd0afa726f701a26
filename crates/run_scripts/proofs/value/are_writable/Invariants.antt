use Rattle.std.proofs.Common.{◌≡◌, drop, map}
use Rattle.run_scripts.specs.Values.{over_of}
use Rattle.run_scripts.specs.Usable.{are_writable}
use Rattle.run_scripts.proofs.value.are_writable.Given as goal

abbrev pub invariant-loop-param : goal.invariant-loop-param
invariant-loop-param l =
    are_writable l.nodes l.kinds (map over_of (drop l.param-index l.params)) ≡ are_writable l.nodes l.kinds (map over_of l.params)
