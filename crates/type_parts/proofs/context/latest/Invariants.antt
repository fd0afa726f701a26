use Rattle.std.proofs.Common.{◌≡◌, ◌≤◌, length, take}
use Rattle.murphi_types.specs.Scopes.{latest}
use Rattle.type_parts.proofs.context.latest.Given as goal

abbrev pub invariant-loop-left : goal.invariant-loop-left
invariant-loop-left l = (latest (take l.left l.entries) l.name ≡ latest l.entries l.name) × (l.left ≤ length l.entries)

abbrev pub decreases-loop-left : goal.decreases-loop-left
decreases-loop-left l = l.left
