use Rattle.std.proofs.Common.{◌+◌, ◌*◌}
use Rattle.flat_check.proofs.known.+build.Given as goal

abbrev pub decreases-build : goal.decreases-build
decreases-build l = 2 * l.left

abbrev pub decreases-build_with : goal.decreases-build_with
decreases-build_with l = 2 * l.left + 1
