use Rattle.std.proofs.Common.{◌≡◌, ◌<◌, [], length, get_or, ap, sym, ◌∙◌, arith}
use Rattle.sat_arena.specs.Linking.{lits_of}
use Rattle.sat_arena.specs.declared.slot.Slot.{Slot}
use Rattle.sat_arena.proofs.ReadLemmas.{place_within, literals_are, lits_at, clause_two, clause_once, clause_range}
use Rattle.sat_arena.proofs.arena.Arena.clause.Goals as goal

-- what is returned are the literals of the slot
is : (c : goal.After-as_slice) → c.as_slice.result.now ≡ get_or (lits_of c.self.inside.slots.items) c.args.id.place []
is c =
    let h : c.args.id.place < length c.self.inside.slots.items = place_within c.self.inside.variables c.self.inside.slots.items c.self.inside.watched.items c.self.invariant c.args.self.now c.self.view_is c.args.id c.requires in
    c.as_slice.ensures.value ∙ ap (λ (s : Slot). s.lits.items) c.index.ensures ∙ sym (lits_at c.self.inside.slots.items c.args.id.place c.index.result.now h)

pub index-requires : goal.index-requires
index-requires c =
    let h : c.args.id.place < length c.self.inside.slots.items = place_within c.self.inside.variables c.self.inside.slots.items c.self.inside.watched.items c.self.invariant c.args.self.now c.self.view_is c.args.id c.requires in
    omega arith

pub returns-clause-value : goal.returns-clause-value
returns-clause-value c = is c ∙ sym (literals_are c.self.inside.variables c.self.inside.slots.items c.self.inside.watched.items c.self.invariant c.args.self.now c.self.view_is c.args.id)

pub returns-clause-two : goal.returns-clause-two
returns-clause-two c = clause_two c.self.inside.variables c.self.inside.slots.items c.self.inside.watched.items c.self.invariant c.args.self.now c.self.view_is c.args.id c.as_slice.result.now c.requires (is c)

pub returns-clause-once : goal.returns-clause-once
returns-clause-once c = clause_once c.self.inside.variables c.self.inside.slots.items c.self.inside.watched.items c.self.invariant c.args.self.now c.self.view_is c.args.id c.as_slice.result.now c.requires (is c)

pub returns-clause-range : goal.returns-clause-range
returns-clause-range c = clause_range c.self.inside.variables c.self.inside.slots.items c.self.inside.watched.items c.self.invariant c.args.self.now c.self.view_is c.args.id c.as_slice.result.now c.requires (is c)
