use Rattle.std.proofs.Common.{arith}
use Rattle.sat_arena.proofs.ArenaLemmas.{arena_none}
use Rattle.sat_arena.proofs.arena.Arena.make.Goals as goal

pub invariant_of-result : goal.invariant_of-result
invariant_of-result c = arena_none c.args.variables c.new.result.items c.in_ok-watched.watched.items (omega arith) c.new.ensures.items c.in_ok-watched.ensures
