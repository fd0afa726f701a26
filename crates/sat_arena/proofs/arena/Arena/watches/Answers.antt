use Rattle.std.proofs.Common.{◌≡◌, ◌<◌, ◌*◌, [], get_or, ◌∙◌, arith}
use Rattle.std.proofs.lemmas.List.{get_or_default}
use Rattle.sat_arena.proofs.ArenaLemmas.{seen_variables}
use Rattle.sat_arena.proofs.ClauseLemmas.{code_range}
use Rattle.sat_arena.specs.Linking.{lits_of}
use Rattle.sat_arena.proofs.ReadLemmas.{watched_once, watched_live, watched_watched}
use Rattle.sat_arena.proofs.arena.Arena.watches.Goals as goal

-- what is returned is the watch list
is : (c : goal.After-items) → c.items.result.now ≡ get_or c.self.inside.watched.items c.args.l.code []
is c =
    let n : c.self.inside.variables ≡ c.args.self.now.variables = seen_variables c.self.inside.variables (lits_of c.self.inside.slots.items) c.args.self.now c.self.view_is in
    let r : c.args.l.code < 2 * c.self.inside.variables = code_range c.args.l c.self.inside.variables (omega arith) in
    c.items.ensures ∙ c.index.ensures ∙ get_or_default c.self.inside.watched.items c.args.l.code c.index.result.now [] (omega (arith, c.self.invariant.lists))

pub returns-clause-once : goal.returns-clause-once
returns-clause-once c = watched_once c.self.inside.variables c.self.inside.slots.items c.self.inside.watched.items c.self.invariant c.args.self.now c.self.view_is c.args.l c.items.result.now (is c)

pub returns-clause-live : goal.returns-clause-live
returns-clause-live c = watched_live c.self.inside.variables c.self.inside.slots.items c.self.inside.watched.items c.self.invariant c.args.self.now c.self.view_is c.args.l c.items.result.now (is c)

pub returns-clause-watched : goal.returns-clause-watched
returns-clause-watched c = watched_watched c.self.inside.variables c.self.inside.slots.items c.self.inside.watched.items c.self.invariant c.args.self.now c.self.view_is c.args.l c.items.result.now (is c)
