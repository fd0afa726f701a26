use Rattle.sat_arena.specs.Linking.{lits_of}
use Rattle.sat_arena.proofs.ArenaLemmas.{seen_differ}
use Rattle.sat_arena.proofs.arena.Arena.variables.Goals as goal

pub returns-clause-differ : goal.returns-clause-differ
returns-clause-differ c = seen_differ c.self.inside.variables (lits_of c.self.inside.slots.items) c.args.self.now c.self.view_is
