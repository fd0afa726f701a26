-- What looking at a watched clause came to.
use Rattle.std.specs.Prelude.{Option, Some, None}
use Rattle.sat_solver.specs.declared.origin.Origin.{Origin}
use Rattle.sat_solver.specs.declared.propagate.Seen.{Seen}
use Rattle.sat_solver.specs.declared.propagate.Seen.TheVariants.{Moved, Stays, Conflict}

-- the clause that is false, if one is
abbrev pub conflict_of : Seen → Option Origin
conflict_of Moved = None
conflict_of Stays = None
conflict_of (Conflict origin) = Some origin
