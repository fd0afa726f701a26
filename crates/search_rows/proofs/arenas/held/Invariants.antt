use Rattle.std.proofs.Common.{All}
use Rattle.sat_arena.specs.Live.{IsLive}
use Rattle.search_rows.proofs.arenas.held.Given as goal

abbrev pub invariant-loop-id : goal.invariant-loop-id
invariant-loop-id l = All (IsLive l.arena.live) l.held.items
