use Rattle.std.proofs.Common.{◌<◌, not, eqb, length, ap, ◌∙◌, arith}
use Rattle.std.proofs.lemmas.Bool.{false≢true}
use Rattle.sat_arena.proofs.ReadLemmas.{place_within, live_where}
use Rattle.sat_arena.proofs.arena.Arena.is_live.Goals as goal

pub returns-then-place-len : goal.returns-then-place-len
returns-then-place-len c =
    live_where c.self.inside.variables c.self.inside.slots.items c.self.inside.watched.items c.self.invariant c.args.self.now c.self.view_is c.args.id c.index.result.now (not c.is_empty.result) (omega arith) c.index.ensures
    (ap not c.is_empty.ensures ∙ ap (λ n. not (eqb n 0)) (omega arith))

pub returns-else-place-len : goal.returns-else-place-len
returns-else-place-len c =
    (λ t. absurd (false≢true t), λ l. absurd (let w : c.args.id.place < length c.self.inside.slots.items = place_within c.self.inside.variables c.self.inside.slots.items c.self.inside.watched.items c.self.invariant c.args.self.now c.self.view_is c.args.id l in omega arith))
