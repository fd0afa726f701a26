use Rattle.std.proofs.Common.{◌≡◌, ◌<◌, ◌≤◌, [], ◌∷◌, ◌++◌, length, get_or, set, take, drop, refl, sym, ap, subst, ◌∙◌, arith}
use Rattle.std.specs.List.{swap}
use Rattle.std.proofs.lemmas.List.{take_at, length-set, get_or-set_other, get_or_default}
use Rattle.sat_arena.specs.Live.{with_swapped}
use Rattle.sat_arena.specs.Linking.{lits_of, live_from, position, stands_at, IsLinkedBut, IsArena, says_swapped}
use Rattle.sat_arena.specs.declared.slot.Slot.{Slot}
use Rattle.sat_arena.proofs.LiveLemmas.{ids_differ, live_swapped}
use Rattle.sat_arena.proofs.SlotLemmas.{lits_set}
use Rattle.sat_arena.proofs.ArenaLemmas.{seen_live}
use Rattle.sat_arena.proofs.ReadLemmas.{place_within, lits_at, slot_long, slot_literals}
use Rattle.sat_arena.proofs.ClauseLemmas.{list_read}
use Rattle.sat_arena.proofs.HalfLemmas.{IsHalf, slot_code, slot_once, watch_within, watch_hidden, half_swapped, half_last, swapped_hidden, swapped_differ}
use Rattle.sat_arena.proofs.arena.Arena.move_watch.Goals as goal

pub index-slot-requires : goal.index-slot-requires
index-slot-requires c =
    let h : c.args.id.place < length c.self.inside.slots.items = place_within c.self.inside.variables c.self.inside.slots.items c.self.inside.watched.items c.self.invariant c.args.self.now c.self.view_is c.args.id c.requires.live in
    omega arith

pub index-old-requires : goal.index-old-requires
index-old-requires c =
    let long : 2 ≤ length c.index-slot.result.now.lits.items = slot_long c.self.inside.variables c.self.inside.slots.items c.self.inside.watched.items c.self.invariant c.args.self.now c.self.view_is c.args.id c.index-slot.result.now c.requires.live c.index-slot.ensures in
    omega arith

pub index-new-requires : goal.index-new-requires
index-new-requires c =
    let k : c.args.to < length c.index-slot.result.now.lits.items = subst (λ ls. c.args.to < length ls) (slot_literals c.self.inside.variables c.self.inside.slots.items c.self.inside.watched.items c.self.invariant c.args.self.now c.self.view_is c.args.id c.index-slot.result.now c.requires.live c.index-slot.ensures) c.requires.within in
    omega arith

pub index-requires : goal.index-requires
index-requires c =
    let k : c.args.to < length c.index-slot.result.now.lits.items = subst (λ ls. c.args.to < length ls) (slot_literals c.self.inside.variables c.self.inside.slots.items c.self.inside.watched.items c.self.invariant c.args.self.now c.self.view_is c.args.id c.index-slot.result.now c.requires.live c.index-slot.ensures) c.requires.within in
    let m : c.index-new.result.now.code < length c.self.inside.watched.items = slot_code c.self.inside.variables c.self.inside.slots.items c.self.inside.watched.items c.self.invariant c.args.id.place (place_within c.self.inside.variables c.self.inside.slots.items c.self.inside.watched.items c.self.invariant c.args.self.now c.self.view_is c.args.id c.requires.live) c.index-slot.result.now c.index-slot.ensures c.args.to c.index-new.result.now k c.index-new.ensures in
    omega arith

pub index_mut-requires : goal.index_mut-requires
index_mut-requires c =
    let k : c.args.to < length c.index-slot.result.now.lits.items = subst (λ ls. c.args.to < length ls) (slot_literals c.self.inside.variables c.self.inside.slots.items c.self.inside.watched.items c.self.invariant c.args.self.now c.self.view_is c.args.id c.index-slot.result.now c.requires.live c.index-slot.ensures) c.requires.within in
    let m : c.index-new.result.now.code < length c.self.inside.watched.items = slot_code c.self.inside.variables c.self.inside.slots.items c.self.inside.watched.items c.self.invariant c.args.id.place (place_within c.self.inside.variables c.self.inside.slots.items c.self.inside.watched.items c.self.invariant c.args.self.now c.self.view_is c.args.id c.requires.live) c.index-slot.result.now c.index-slot.ensures c.args.to c.index-new.result.now k c.index-new.ensures in
    omega arith

pub returns-in_err-push-clause-differ : goal.returns-in_err-push-clause-differ
returns-in_err-push-clause-differ c = ids_differ (lits_of c.self.inside.slots.items)

pub index_mut-requires-2 : goal.index_mut-requires-2
index_mut-requires-2 c =
    let h : c.args.id.place < length c.self.inside.slots.items = place_within c.self.inside.variables c.self.inside.slots.items c.self.inside.watched.items c.self.invariant c.args.self.now c.self.view_is c.args.id c.requires.live in
    omega arith

pub move_watch-requires-clause-within : goal.move_watch-requires-clause-within
move_watch-requires-clause-within c =
    subst (λ (u : Slot). c.args.to < length u.lits.items) (sym (c.index_mut-2.ensures.value ∙ get_or_default c.self.inside.slots.items c.args.id.place c.index_mut-2.result.now c.index-slot.result.now (place_within c.self.inside.variables c.self.inside.slots.items c.self.inside.watched.items c.self.invariant c.args.self.now c.self.view_is c.args.id c.requires.live) ∙ sym c.index-slot.ensures)) (subst (λ ls. c.args.to < length ls) (slot_literals c.self.inside.variables c.self.inside.slots.items c.self.inside.watched.items c.self.invariant c.args.self.now c.self.view_is c.args.id c.index-slot.result.now c.requires.live c.index-slot.ensures) c.requires.within)

pub move_watch-requires-clause-once : goal.move_watch-requires-clause-once
move_watch-requires-clause-once c = slot_once c.self.inside.variables c.self.inside.slots.items c.self.inside.watched.items c.self.invariant c.args.id.place (place_within c.self.inside.variables c.self.inside.slots.items c.self.inside.watched.items c.self.invariant c.args.self.now c.self.view_is c.args.id c.requires.live) c.index_mut-2.result.now c.index_mut-2.ensures.value

pub index_mut-requires-3 : goal.index_mut-requires-3
index_mut-requires-3 c =
    let long : 2 ≤ length c.index-slot.result.now.lits.items = slot_long c.self.inside.variables c.self.inside.slots.items c.self.inside.watched.items c.self.invariant c.args.self.now c.self.view_is c.args.id c.index-slot.result.now c.requires.live c.index-slot.ensures in
    let m : c.index-old.result.now.code < length c.self.inside.watched.items = slot_code c.self.inside.variables c.self.inside.slots.items c.self.inside.watched.items c.self.invariant c.args.id.place (place_within c.self.inside.variables c.self.inside.slots.items c.self.inside.watched.items c.self.invariant c.args.self.now c.self.view_is c.args.id c.requires.live) c.index-slot.result.now c.index-slot.ensures c.args.from c.index-old.result.now (omega arith) c.index-old.ensures in
    omega arith

pub drop_watch-requires-clause-within : goal.drop_watch-requires-clause-within
drop_watch-requires-clause-within c =
    let long : 2 ≤ length c.index-slot.result.now.lits.items = slot_long c.self.inside.variables c.self.inside.slots.items c.self.inside.watched.items c.self.invariant c.args.self.now c.self.view_is c.args.id c.index-slot.result.now c.requires.live c.index-slot.ensures in
    let k : c.args.to < length c.index-slot.result.now.lits.items = subst (λ ls. c.args.to < length ls) (slot_literals c.self.inside.variables c.self.inside.slots.items c.self.inside.watched.items c.self.invariant c.args.self.now c.self.view_is c.args.id c.index-slot.result.now c.requires.live c.index-slot.ensures) c.requires.within in
    subst (λ n. n < length c.index_mut-3.result.now) (sym c.position_of-old_at.ensures)
    (watch_within c.self.inside.variables c.self.inside.slots.items c.self.inside.watched.items c.self.invariant c.args.id.place (place_within c.self.inside.variables c.self.inside.slots.items c.self.inside.watched.items c.self.invariant c.args.self.now c.self.view_is c.args.id c.requires.live) c.index-slot.result.now c.index-slot.ensures long c.args.from c.index-old.result.now c.index_mut-3.result.now c.requires.from c.index-old.ensures (list_read (set c.self.inside.watched.items c.index-new.result.now.code c.push.new.self) c.index-old.result.now.code c.index_mut-3.result.now c.index_mut-3.result.now refl c.index_mut-3.ensures.value (let e : length (set c.self.inside.watched.items c.index-new.result.now.code c.push.new.self) ≡ length c.self.inside.watched.items = length-set c.self.inside.watched.items c.index-new.result.now.code c.push.new.self in let f : c.index-old.result.now.code < length c.self.inside.watched.items = slot_code c.self.inside.variables c.self.inside.slots.items c.self.inside.watched.items c.self.invariant c.args.id.place (place_within c.self.inside.variables c.self.inside.slots.items c.self.inside.watched.items c.self.invariant c.args.self.now c.self.view_is c.args.id c.requires.live) c.index-slot.result.now c.index-slot.ensures c.args.from c.index-old.result.now (omega arith) c.index-old.ensures in omega arith) ∙ get_or-set_other c.self.inside.watched.items c.index-new.result.now.code c.index-old.result.now.code c.push.new.self [] (swapped_differ c.self.inside.variables c.self.inside.slots.items c.self.inside.watched.items c.self.invariant c.args.id.place (place_within c.self.inside.variables c.self.inside.slots.items c.self.inside.watched.items c.self.invariant c.args.self.now c.self.view_is c.args.id c.requires.live) c.index-slot.result.now c.index-slot.ensures long c.move_watch.new.self c.args.from c.args.to (length c.items-new_at.result.now) c.index-old.result.now c.index-new.result.now c.requires.from c.requires.to k c.index-old.ensures c.index-new.ensures (λ d e. c.move_watch.ensures.position d e ∙ ap (λ (u : Slot). says_swapped (get_or u.lits.items c.args.from d).code (get_or u.lits.items c.args.to d).code (length c.items-new_at.result.now) e (position e u)) (c.index_mut-2.ensures.value ∙ get_or_default c.self.inside.slots.items c.args.id.place c.index_mut-2.result.now c.index-slot.result.now (place_within c.self.inside.variables c.self.inside.slots.items c.self.inside.watched.items c.self.invariant c.args.self.now c.self.view_is c.args.id c.requires.live) ∙ sym c.index-slot.ensures)))))

pub drop_watch-requires-clause-linked : goal.drop_watch-requires-clause-linked
drop_watch-requires-clause-linked c =
    let long : 2 ≤ length c.index-slot.result.now.lits.items = slot_long c.self.inside.variables c.self.inside.slots.items c.self.inside.watched.items c.self.invariant c.args.self.now c.self.view_is c.args.id c.index-slot.result.now c.requires.live c.index-slot.ensures in
    let k : c.args.to < length c.index-slot.result.now.lits.items = subst (λ ls. c.args.to < length ls) (slot_literals c.self.inside.variables c.self.inside.slots.items c.self.inside.watched.items c.self.invariant c.args.self.now c.self.view_is c.args.id c.index-slot.result.now c.requires.live c.index-slot.ensures) c.requires.within in
    subst (λ ss. IsLinkedBut (stands_at ss c.index-old.result.now.code) c.index_mut-3.result.now c.position_of-old_at.result) (sym c.as_mut_slice-slots.ensures.value)
    (subst (IsLinkedBut (stands_at (set c.self.inside.slots.items c.args.id.place c.move_watch.new.self) c.index-old.result.now.code) c.index_mut-3.result.now) (sym c.position_of-old_at.ensures)
    (watch_hidden c.self.inside.variables c.self.inside.slots.items c.self.inside.watched.items c.self.invariant c.args.id.place (place_within c.self.inside.variables c.self.inside.slots.items c.self.inside.watched.items c.self.invariant c.args.self.now c.self.view_is c.args.id c.requires.live) c.index-slot.result.now c.index-slot.ensures long c.move_watch.new.self c.args.from c.index-old.result.now c.index_mut-3.result.now c.requires.from c.index-old.ensures (list_read (set c.self.inside.watched.items c.index-new.result.now.code c.push.new.self) c.index-old.result.now.code c.index_mut-3.result.now c.index_mut-3.result.now refl c.index_mut-3.ensures.value (let e : length (set c.self.inside.watched.items c.index-new.result.now.code c.push.new.self) ≡ length c.self.inside.watched.items = length-set c.self.inside.watched.items c.index-new.result.now.code c.push.new.self in let f : c.index-old.result.now.code < length c.self.inside.watched.items = slot_code c.self.inside.variables c.self.inside.slots.items c.self.inside.watched.items c.self.invariant c.args.id.place (place_within c.self.inside.variables c.self.inside.slots.items c.self.inside.watched.items c.self.invariant c.args.self.now c.self.view_is c.args.id c.requires.live) c.index-slot.result.now c.index-slot.ensures c.args.from c.index-old.result.now (omega arith) c.index-old.ensures in omega arith) ∙ get_or-set_other c.self.inside.watched.items c.index-new.result.now.code c.index-old.result.now.code c.push.new.self [] (swapped_differ c.self.inside.variables c.self.inside.slots.items c.self.inside.watched.items c.self.invariant c.args.id.place (place_within c.self.inside.variables c.self.inside.slots.items c.self.inside.watched.items c.self.invariant c.args.self.now c.self.view_is c.args.id c.requires.live) c.index-slot.result.now c.index-slot.ensures long c.move_watch.new.self c.args.from c.args.to (length c.items-new_at.result.now) c.index-old.result.now c.index-new.result.now c.requires.from c.requires.to k c.index-old.ensures c.index-new.ensures (λ d e. c.move_watch.ensures.position d e ∙ ap (λ (u : Slot). says_swapped (get_or u.lits.items c.args.from d).code (get_or u.lits.items c.args.to d).code (length c.items-new_at.result.now) e (position e u)) (c.index_mut-2.ensures.value ∙ get_or_default c.self.inside.slots.items c.args.id.place c.index_mut-2.result.now c.index-slot.result.now (place_within c.self.inside.variables c.self.inside.slots.items c.self.inside.watched.items c.self.invariant c.args.self.now c.self.view_is c.args.id c.requires.live) ∙ sym c.index-slot.ensures))))
    (swapped_hidden c.self.inside.variables c.self.inside.slots.items c.self.inside.watched.items c.self.invariant c.args.id.place (place_within c.self.inside.variables c.self.inside.slots.items c.self.inside.watched.items c.self.invariant c.args.self.now c.self.view_is c.args.id c.requires.live) c.index-slot.result.now c.index-slot.ensures long c.move_watch.new.self c.args.from c.args.to (length c.items-new_at.result.now) c.index-old.result.now c.index-new.result.now c.requires.from c.requires.to k c.index-old.ensures c.index-new.ensures (λ d e. c.move_watch.ensures.position d e ∙ ap (λ (u : Slot). says_swapped (get_or u.lits.items c.args.from d).code (get_or u.lits.items c.args.to d).code (length c.items-new_at.result.now) e (position e u)) (c.index_mut-2.ensures.value ∙ get_or_default c.self.inside.slots.items c.args.id.place c.index_mut-2.result.now c.index-slot.result.now (place_within c.self.inside.variables c.self.inside.slots.items c.self.inside.watched.items c.self.invariant c.args.self.now c.self.view_is c.args.id c.requires.live) ∙ sym c.index-slot.ensures)))))

pub invariant_of-self-2 : goal.invariant_of-self-2
invariant_of-self-2 c =
    let long : 2 ≤ length c.index-slot.result.now.lits.items = slot_long c.self.inside.variables c.self.inside.slots.items c.self.inside.watched.items c.self.invariant c.args.self.now c.self.view_is c.args.id c.index-slot.result.now c.requires.live c.index-slot.ensures in
    let k : c.args.to < length c.index-slot.result.now.lits.items = subst (λ ls. c.args.to < length ls) (slot_literals c.self.inside.variables c.self.inside.slots.items c.self.inside.watched.items c.self.invariant c.args.self.now c.self.view_is c.args.id c.index-slot.result.now c.requires.live c.index-slot.ensures) c.requires.within in
    let m : c.index-old.result.now.code < length (set c.self.inside.watched.items c.index-new.result.now.code c.push.new.self) = (let e : length (set c.self.inside.watched.items c.index-new.result.now.code c.push.new.self) ≡ length c.self.inside.watched.items = length-set c.self.inside.watched.items c.index-new.result.now.code c.push.new.self in let f : c.index-old.result.now.code < length c.self.inside.watched.items = slot_code c.self.inside.variables c.self.inside.slots.items c.self.inside.watched.items c.self.invariant c.args.id.place (place_within c.self.inside.variables c.self.inside.slots.items c.self.inside.watched.items c.self.invariant c.args.self.now c.self.view_is c.args.id c.requires.live) c.index-slot.result.now c.index-slot.ensures c.args.from c.index-old.result.now (omega arith) c.index-old.ensures in omega arith) in
    let half : IsHalf c.self.inside.variables (set c.self.inside.slots.items c.args.id.place c.move_watch.new.self) (set c.self.inside.watched.items c.index-new.result.now.code c.push.new.self) c.index-old.result.now.code c.index-old.result.now.code =
    half_swapped c.self.inside.variables c.self.inside.slots.items c.self.inside.watched.items c.self.invariant c.args.id.place (place_within c.self.inside.variables c.self.inside.slots.items c.self.inside.watched.items c.self.invariant c.args.self.now c.self.view_is c.args.id c.requires.live) c.index-slot.result.now c.index-slot.ensures long c.move_watch.new.self c.args.from c.args.to (length c.items-new_at.result.now) c.index-old.result.now c.index-new.result.now c.requires.from c.requires.to k c.index-old.ensures c.index-new.ensures (λ d e. c.move_watch.ensures.position d e ∙ ap (λ (u : Slot). says_swapped (get_or u.lits.items c.args.from d).code (get_or u.lits.items c.args.to d).code (length c.items-new_at.result.now) e (position e u)) (c.index_mut-2.ensures.value ∙ get_or_default c.self.inside.slots.items c.args.id.place c.index_mut-2.result.now c.index-slot.result.now (place_within c.self.inside.variables c.self.inside.slots.items c.self.inside.watched.items c.self.invariant c.args.self.now c.self.view_is c.args.id c.requires.live) ∙ sym c.index-slot.ensures)) (set c.self.inside.watched.items c.index-new.result.now.code c.push.new.self) (ap (set c.self.inside.watched.items c.index-new.result.now.code) (c.in_ok-push.ensures.ok ∙ ap (λ xs. xs ++ c.args.id ∷ []) (list_read c.self.inside.watched.items c.index-new.result.now.code c.index_mut.result.now c.index_mut.result.now refl c.index_mut.ensures.value (slot_code c.self.inside.variables c.self.inside.slots.items c.self.inside.watched.items c.self.invariant c.args.id.place (place_within c.self.inside.variables c.self.inside.slots.items c.self.inside.watched.items c.self.invariant c.args.self.now c.self.view_is c.args.id c.requires.live) c.index-slot.result.now c.index-slot.ensures c.args.to c.index-new.result.now k c.index-new.ensures))))
    (ap length (c.items-new_at.ensures ∙ c.index.ensures ∙ get_or_default c.self.inside.watched.items c.index-new.result.now.code c.index.result.now [] (slot_code c.self.inside.variables c.self.inside.slots.items c.self.inside.watched.items c.self.invariant c.args.id.place (place_within c.self.inside.variables c.self.inside.slots.items c.self.inside.watched.items c.self.invariant c.args.self.now c.self.view_is c.args.id c.requires.live) c.index-slot.result.now c.index-slot.ensures c.args.to c.index-new.result.now k c.index-new.ensures)))
    (c.move_watch.ensures.lits ∙ ap (λ (u : Slot). swap u.lits.items c.args.from c.args.to) (c.index_mut-2.ensures.value ∙ get_or_default c.self.inside.slots.items c.args.id.place c.index_mut-2.result.now c.index-slot.result.now (place_within c.self.inside.variables c.self.inside.slots.items c.self.inside.watched.items c.self.invariant c.args.self.now c.self.view_is c.args.id c.requires.live) ∙ sym c.index-slot.ensures)) in
    subst (λ ss. IsArena c.self.inside.variables ss (set (set c.self.inside.watched.items c.index-new.result.now.code c.push.new.self) c.index-old.result.now.code c.drop_watch.new.ids)) (sym (take_at c.drop_watch.new.slots _ c.self.inside.slots.len (omega arith)))
    (half_last c.self.inside.variables (set c.self.inside.slots.items c.args.id.place c.move_watch.new.self) c.drop_watch.new.slots (set c.self.inside.watched.items c.index-new.result.now.code c.push.new.self) (set (set c.self.inside.watched.items c.index-new.result.now.code c.push.new.self) c.index-old.result.now.code c.drop_watch.new.ids) c.index-old.result.now.code c.drop_watch.new.ids half
    (c.drop_watch.ensures.lits ∙ ap lits_of c.as_mut_slice-slots.ensures.value) refl m c.drop_watch.ensures.linked
    (λ d q n. c.drop_watch.ensures.others d q n ∙ ap (λ ss. stands_at ss d q) c.as_mut_slice-slots.ensures.value))

pub returns-clause-ok : goal.returns-clause-ok
returns-clause-ok c =
    ap (λ ss. live_from 0 (lits_of ss)) (take_at c.drop_watch.new.slots _ c.self.inside.slots.len (omega arith))
    ∙ ap (live_from 0) (c.drop_watch.ensures.lits ∙ ap lits_of c.as_mut_slice-slots.ensures.value ∙ lits_set c.self.inside.slots.items c.args.id.place c.move_watch.new.self
    ∙ ap (set (lits_of c.self.inside.slots.items) c.args.id.place) (c.move_watch.ensures.lits ∙ ap (λ ls. swap ls c.args.from c.args.to) (ap (λ (u : Slot). u.lits.items) c.index_mut-2.ensures.value ∙ sym (lits_at c.self.inside.slots.items c.args.id.place c.index_mut-2.result.now (place_within c.self.inside.variables c.self.inside.slots.items c.self.inside.watched.items c.self.invariant c.args.self.now c.self.view_is c.args.id c.requires.live)))))
    ∙ live_swapped (lits_of c.self.inside.slots.items) c.args.id.place c.args.from c.args.to ∙ ap (λ es. with_swapped es c.args.id c.args.from c.args.to) (seen_live c.self.inside.variables (lits_of c.self.inside.slots.items) c.args.self.now c.self.view_is)

pub returns-clause-differ : goal.returns-clause-differ
returns-clause-differ c = ids_differ (lits_of (take c.self.inside.slots.len (c.drop_watch.new.slots ++ drop (length c.drop_watch.new.slots) (set c.self.inside.slots.items c.args.id.place c.move_watch.new.self))))
