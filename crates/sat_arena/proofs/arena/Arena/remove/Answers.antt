use Rattle.std.proofs.Common.{◌≡◌, ◌<◌, ◌≤◌, [], ◌++◌, length, set, take, drop, refl, sym, ap, subst, ◌∙◌, arith}
use Rattle.std.proofs.lemmas.List.{take_at, length-set, get_or-set_other}
use Rattle.sat_arena.specs.Live.{without}
use Rattle.sat_arena.specs.Linking.{lits_of, live_from, stands_at, IsLinkedBut, IsArena}
use Rattle.sat_arena.proofs.LiveLemmas.{ids_differ, live_without}
use Rattle.sat_arena.proofs.LinkLemmas.{but_same}
use Rattle.sat_arena.proofs.SlotLemmas.{lits_set}
use Rattle.sat_arena.proofs.ArenaLemmas.{seen_live}
use Rattle.sat_arena.proofs.ReadLemmas.{place_within, slot_long}
use Rattle.sat_arena.proofs.ClauseLemmas.{list_read}
use Rattle.sat_arena.proofs.HalfLemmas.{IsHalf, slot_code, says_nothing, watch_within, watch_hidden, half_cleared, half_drop, half_last, watched_differ}
use Rattle.sat_arena.proofs.arena.Arena.remove.Goals as goal

pub index_mut-slot-requires : goal.index_mut-slot-requires
index_mut-slot-requires c =
    let h : c.args.id.place < length c.self.inside.slots.items = place_within c.self.inside.variables c.self.inside.slots.items c.self.inside.watched.items c.self.invariant c.args.self.now c.self.view_is c.args.id c.requires in
    omega arith

pub index-first-requires : goal.index-first-requires
index-first-requires c =
    let long : 2 ≤ length c.index_mut-slot.result.now.lits.items = slot_long c.self.inside.variables c.self.inside.slots.items c.self.inside.watched.items c.self.invariant c.args.self.now c.self.view_is c.args.id c.index_mut-slot.result.now c.requires c.index_mut-slot.ensures.value in
    omega arith

pub index-second-requires : goal.index-second-requires
index-second-requires c =
    let long : 2 ≤ length c.index_mut-slot.result.now.lits.items = slot_long c.self.inside.variables c.self.inside.slots.items c.self.inside.watched.items c.self.invariant c.args.self.now c.self.view_is c.args.id c.index_mut-slot.result.now c.requires c.index_mut-slot.ensures.value in
    omega arith

pub index_mut-requires : goal.index_mut-requires
index_mut-requires c =
    let long : 2 ≤ length c.index_mut-slot.result.now.lits.items = slot_long c.self.inside.variables c.self.inside.slots.items c.self.inside.watched.items c.self.invariant c.args.self.now c.self.view_is c.args.id c.index_mut-slot.result.now c.requires c.index_mut-slot.ensures.value in
    let k : c.index-first.result.now.code < length c.self.inside.watched.items = slot_code c.self.inside.variables c.self.inside.slots.items c.self.inside.watched.items c.self.invariant c.args.id.place (place_within c.self.inside.variables c.self.inside.slots.items c.self.inside.watched.items c.self.invariant c.args.self.now c.self.view_is c.args.id c.requires) c.index_mut-slot.result.now c.index_mut-slot.ensures.value 0 c.index-first.result.now (omega arith) c.index-first.ensures in
    omega arith

pub drop_watch-requires-clause-within : goal.drop_watch-requires-clause-within
drop_watch-requires-clause-within c =
    let long : 2 ≤ length c.index_mut-slot.result.now.lits.items = slot_long c.self.inside.variables c.self.inside.slots.items c.self.inside.watched.items c.self.invariant c.args.self.now c.self.view_is c.args.id c.index_mut-slot.result.now c.requires c.index_mut-slot.ensures.value in
    watch_within c.self.inside.variables c.self.inside.slots.items c.self.inside.watched.items c.self.invariant c.args.id.place (place_within c.self.inside.variables c.self.inside.slots.items c.self.inside.watched.items c.self.invariant c.args.self.now c.self.view_is c.args.id c.requires) c.index_mut-slot.result.now c.index_mut-slot.ensures.value long 0 c.index-first.result.now c.index_mut.result.now (omega arith) c.index-first.ensures (list_read c.self.inside.watched.items c.index-first.result.now.code c.index_mut.result.now c.index_mut.result.now refl c.index_mut.ensures.value (slot_code c.self.inside.variables c.self.inside.slots.items c.self.inside.watched.items c.self.invariant c.args.id.place (place_within c.self.inside.variables c.self.inside.slots.items c.self.inside.watched.items c.self.invariant c.args.self.now c.self.view_is c.args.id c.requires) c.index_mut-slot.result.now c.index_mut-slot.ensures.value 0 c.index-first.result.now (omega arith) c.index-first.ensures))

pub drop_watch-requires-clause-linked : goal.drop_watch-requires-clause-linked
drop_watch-requires-clause-linked c =
    let long : 2 ≤ length c.index_mut-slot.result.now.lits.items = slot_long c.self.inside.variables c.self.inside.slots.items c.self.inside.watched.items c.self.invariant c.args.self.now c.self.view_is c.args.id c.index_mut-slot.result.now c.requires c.index_mut-slot.ensures.value in
    subst (λ ss. IsLinkedBut (stands_at ss c.index-first.result.now.code) c.index_mut.result.now c.index_mut-slot.result.now.first) (sym c.as_mut_slice-slots.ensures.value)
    (watch_hidden c.self.inside.variables c.self.inside.slots.items c.self.inside.watched.items c.self.invariant c.args.id.place (place_within c.self.inside.variables c.self.inside.slots.items c.self.inside.watched.items c.self.invariant c.args.self.now c.self.view_is c.args.id c.requires) c.index_mut-slot.result.now c.index_mut-slot.ensures.value long (record { lits = c.clear.new.self; first = c.index_mut-slot.result.now.first; second = c.index_mut-slot.result.now.second; moved = c.index_mut-slot.result.now.moved }) 0 c.index-first.result.now c.index_mut.result.now (omega arith) c.index-first.ensures (list_read c.self.inside.watched.items c.index-first.result.now.code c.index_mut.result.now c.index_mut.result.now refl c.index_mut.ensures.value (slot_code c.self.inside.variables c.self.inside.slots.items c.self.inside.watched.items c.self.invariant c.args.id.place (place_within c.self.inside.variables c.self.inside.slots.items c.self.inside.watched.items c.self.invariant c.args.self.now c.self.view_is c.args.id c.requires) c.index_mut-slot.result.now c.index_mut-slot.ensures.value 0 c.index-first.result.now (omega arith) c.index-first.ensures)) (says_nothing c.index-first.result.now.code (record { lits = c.clear.new.self; first = c.index_mut-slot.result.now.first; second = c.index_mut-slot.result.now.second; moved = c.index_mut-slot.result.now.moved }) c.clear.ensures.items))

pub index_mut-requires-2 : goal.index_mut-requires-2
index_mut-requires-2 c =
    let long : 2 ≤ length c.index_mut-slot.result.now.lits.items = slot_long c.self.inside.variables c.self.inside.slots.items c.self.inside.watched.items c.self.invariant c.args.self.now c.self.view_is c.args.id c.index_mut-slot.result.now c.requires c.index_mut-slot.ensures.value in
    let k : c.index-second.result.now.code < length c.self.inside.watched.items = slot_code c.self.inside.variables c.self.inside.slots.items c.self.inside.watched.items c.self.invariant c.args.id.place (place_within c.self.inside.variables c.self.inside.slots.items c.self.inside.watched.items c.self.invariant c.args.self.now c.self.view_is c.args.id c.requires) c.index_mut-slot.result.now c.index_mut-slot.ensures.value 1 c.index-second.result.now (omega arith) c.index-second.ensures in
    omega arith

pub drop_watch-requires-2-clause-within : goal.drop_watch-requires-2-clause-within
drop_watch-requires-2-clause-within c =
    let long : 2 ≤ length c.index_mut-slot.result.now.lits.items = slot_long c.self.inside.variables c.self.inside.slots.items c.self.inside.watched.items c.self.invariant c.args.self.now c.self.view_is c.args.id c.index_mut-slot.result.now c.requires c.index_mut-slot.ensures.value in
    let k : c.index-second.result.now.code < length (set c.self.inside.watched.items c.index-first.result.now.code c.drop_watch.new.ids) = (let e : length (set c.self.inside.watched.items c.index-first.result.now.code c.drop_watch.new.ids) ≡ length c.self.inside.watched.items = length-set c.self.inside.watched.items c.index-first.result.now.code c.drop_watch.new.ids in let f : c.index-second.result.now.code < length c.self.inside.watched.items = slot_code c.self.inside.variables c.self.inside.slots.items c.self.inside.watched.items c.self.invariant c.args.id.place (place_within c.self.inside.variables c.self.inside.slots.items c.self.inside.watched.items c.self.invariant c.args.self.now c.self.view_is c.args.id c.requires) c.index_mut-slot.result.now c.index_mut-slot.ensures.value 1 c.index-second.result.now (omega arith) c.index-second.ensures in omega arith) in
    watch_within c.self.inside.variables c.self.inside.slots.items c.self.inside.watched.items c.self.invariant c.args.id.place (place_within c.self.inside.variables c.self.inside.slots.items c.self.inside.watched.items c.self.invariant c.args.self.now c.self.view_is c.args.id c.requires) c.index_mut-slot.result.now c.index_mut-slot.ensures.value long 1 c.index-second.result.now c.index_mut-2.result.now (omega arith) c.index-second.ensures (list_read (set c.self.inside.watched.items c.index-first.result.now.code c.drop_watch.new.ids) c.index-second.result.now.code c.index_mut-2.result.now c.index_mut-2.result.now refl c.index_mut-2.ensures.value k ∙ get_or-set_other c.self.inside.watched.items c.index-first.result.now.code c.index-second.result.now.code c.drop_watch.new.ids [] (λ e. (watched_differ c.self.inside.variables c.self.inside.slots.items c.self.inside.watched.items c.self.invariant c.args.id.place (place_within c.self.inside.variables c.self.inside.slots.items c.self.inside.watched.items c.self.invariant c.args.self.now c.self.view_is c.args.id c.requires) c.index_mut-slot.result.now c.index_mut-slot.ensures.value long c.index-first.result.now c.index-second.result.now c.index-first.ensures c.index-second.ensures) (sym e)))

pub drop_watch-requires-2-clause-linked : goal.drop_watch-requires-2-clause-linked
drop_watch-requires-2-clause-linked c =
    let long : 2 ≤ length c.index_mut-slot.result.now.lits.items = slot_long c.self.inside.variables c.self.inside.slots.items c.self.inside.watched.items c.self.invariant c.args.self.now c.self.view_is c.args.id c.index_mut-slot.result.now c.requires c.index_mut-slot.ensures.value in
    let k : c.index-second.result.now.code < length (set c.self.inside.watched.items c.index-first.result.now.code c.drop_watch.new.ids) = (let e : length (set c.self.inside.watched.items c.index-first.result.now.code c.drop_watch.new.ids) ≡ length c.self.inside.watched.items = length-set c.self.inside.watched.items c.index-first.result.now.code c.drop_watch.new.ids in let f : c.index-second.result.now.code < length c.self.inside.watched.items = slot_code c.self.inside.variables c.self.inside.slots.items c.self.inside.watched.items c.self.invariant c.args.id.place (place_within c.self.inside.variables c.self.inside.slots.items c.self.inside.watched.items c.self.invariant c.args.self.now c.self.view_is c.args.id c.requires) c.index_mut-slot.result.now c.index_mut-slot.ensures.value 1 c.index-second.result.now (omega arith) c.index-second.ensures in omega arith) in
    but_same (stands_at (set c.self.inside.slots.items c.args.id.place (record { lits = c.clear.new.self; first = c.index_mut-slot.result.now.first; second = c.index_mut-slot.result.now.second; moved = c.index_mut-slot.result.now.moved })) c.index-second.result.now.code) (stands_at c.drop_watch.new.slots c.index-second.result.now.code) c.index_mut-2.result.now c.index_mut-slot.result.now.second
    (λ q. c.drop_watch.ensures.others c.index-second.result.now.code q (watched_differ c.self.inside.variables c.self.inside.slots.items c.self.inside.watched.items c.self.invariant c.args.id.place (place_within c.self.inside.variables c.self.inside.slots.items c.self.inside.watched.items c.self.invariant c.args.self.now c.self.view_is c.args.id c.requires) c.index_mut-slot.result.now c.index_mut-slot.ensures.value long c.index-first.result.now c.index-second.result.now c.index-first.ensures c.index-second.ensures) ∙ ap (λ ss. stands_at ss c.index-second.result.now.code q) c.as_mut_slice-slots.ensures.value)
    (watch_hidden c.self.inside.variables c.self.inside.slots.items c.self.inside.watched.items c.self.invariant c.args.id.place (place_within c.self.inside.variables c.self.inside.slots.items c.self.inside.watched.items c.self.invariant c.args.self.now c.self.view_is c.args.id c.requires) c.index_mut-slot.result.now c.index_mut-slot.ensures.value long (record { lits = c.clear.new.self; first = c.index_mut-slot.result.now.first; second = c.index_mut-slot.result.now.second; moved = c.index_mut-slot.result.now.moved }) 1 c.index-second.result.now c.index_mut-2.result.now (omega arith) c.index-second.ensures (list_read (set c.self.inside.watched.items c.index-first.result.now.code c.drop_watch.new.ids) c.index-second.result.now.code c.index_mut-2.result.now c.index_mut-2.result.now refl c.index_mut-2.ensures.value k ∙ get_or-set_other c.self.inside.watched.items c.index-first.result.now.code c.index-second.result.now.code c.drop_watch.new.ids [] (λ e. (watched_differ c.self.inside.variables c.self.inside.slots.items c.self.inside.watched.items c.self.invariant c.args.id.place (place_within c.self.inside.variables c.self.inside.slots.items c.self.inside.watched.items c.self.invariant c.args.self.now c.self.view_is c.args.id c.requires) c.index_mut-slot.result.now c.index_mut-slot.ensures.value long c.index-first.result.now c.index-second.result.now c.index-first.ensures c.index-second.ensures) (sym e))) (says_nothing c.index-second.result.now.code (record { lits = c.clear.new.self; first = c.index_mut-slot.result.now.first; second = c.index_mut-slot.result.now.second; moved = c.index_mut-slot.result.now.moved }) c.clear.ensures.items))

pub invariant_of-self : goal.invariant_of-self
invariant_of-self c =
    let long : 2 ≤ length c.index_mut-slot.result.now.lits.items = slot_long c.self.inside.variables c.self.inside.slots.items c.self.inside.watched.items c.self.invariant c.args.self.now c.self.view_is c.args.id c.index_mut-slot.result.now c.requires c.index_mut-slot.ensures.value in
    let k : c.index-second.result.now.code < length (set c.self.inside.watched.items c.index-first.result.now.code c.drop_watch.new.ids) = (let e : length (set c.self.inside.watched.items c.index-first.result.now.code c.drop_watch.new.ids) ≡ length c.self.inside.watched.items = length-set c.self.inside.watched.items c.index-first.result.now.code c.drop_watch.new.ids in let f : c.index-second.result.now.code < length c.self.inside.watched.items = slot_code c.self.inside.variables c.self.inside.slots.items c.self.inside.watched.items c.self.invariant c.args.id.place (place_within c.self.inside.variables c.self.inside.slots.items c.self.inside.watched.items c.self.invariant c.args.self.now c.self.view_is c.args.id c.requires) c.index_mut-slot.result.now c.index_mut-slot.ensures.value 1 c.index-second.result.now (omega arith) c.index-second.ensures in omega arith) in
    let half : IsHalf c.self.inside.variables (set c.self.inside.slots.items c.args.id.place (record { lits = c.clear.new.self; first = c.index_mut-slot.result.now.first; second = c.index_mut-slot.result.now.second; moved = c.index_mut-slot.result.now.moved })) c.self.inside.watched.items c.index-first.result.now.code c.index-second.result.now.code = half_cleared c.self.inside.variables c.self.inside.slots.items c.self.inside.watched.items c.self.invariant c.args.id.place (place_within c.self.inside.variables c.self.inside.slots.items c.self.inside.watched.items c.self.invariant c.args.self.now c.self.view_is c.args.id c.requires) c.index_mut-slot.result.now c.index_mut-slot.ensures.value long (record { lits = c.clear.new.self; first = c.index_mut-slot.result.now.first; second = c.index_mut-slot.result.now.second; moved = c.index_mut-slot.result.now.moved }) c.index-first.result.now c.index-second.result.now c.clear.ensures.items c.index-first.ensures c.index-second.ensures in
    let rest : IsHalf c.self.inside.variables c.drop_watch.new.slots (set c.self.inside.watched.items c.index-first.result.now.code c.drop_watch.new.ids) c.index-second.result.now.code c.index-second.result.now.code =
    half_drop c.self.inside.variables (set c.self.inside.slots.items c.args.id.place (record { lits = c.clear.new.self; first = c.index_mut-slot.result.now.first; second = c.index_mut-slot.result.now.second; moved = c.index_mut-slot.result.now.moved })) c.drop_watch.new.slots c.self.inside.watched.items (set c.self.inside.watched.items c.index-first.result.now.code c.drop_watch.new.ids) c.index-first.result.now.code c.index-second.result.now.code c.drop_watch.new.ids half
    (c.drop_watch.ensures.lits ∙ ap lits_of c.as_mut_slice-slots.ensures.value) refl (slot_code c.self.inside.variables c.self.inside.slots.items c.self.inside.watched.items c.self.invariant c.args.id.place (place_within c.self.inside.variables c.self.inside.slots.items c.self.inside.watched.items c.self.invariant c.args.self.now c.self.view_is c.args.id c.requires) c.index_mut-slot.result.now c.index_mut-slot.ensures.value 0 c.index-first.result.now (omega arith) c.index-first.ensures) c.drop_watch.ensures.linked
    (λ d q n. c.drop_watch.ensures.others d q n ∙ ap (λ ss. stands_at ss d q) c.as_mut_slice-slots.ensures.value) in
    subst (λ ss. IsArena c.self.inside.variables ss (set (set c.self.inside.watched.items c.index-first.result.now.code c.drop_watch.new.ids) c.index-second.result.now.code c.drop_watch-2.new.ids)) (sym (take_at c.drop_watch-2.new.slots _ c.self.inside.slots.len (omega arith)))
    (half_last c.self.inside.variables c.drop_watch.new.slots c.drop_watch-2.new.slots (set c.self.inside.watched.items c.index-first.result.now.code c.drop_watch.new.ids) (set (set c.self.inside.watched.items c.index-first.result.now.code c.drop_watch.new.ids) c.index-second.result.now.code c.drop_watch-2.new.ids) c.index-second.result.now.code c.drop_watch-2.new.ids rest
    c.drop_watch-2.ensures.lits refl k c.drop_watch-2.ensures.linked c.drop_watch-2.ensures.others)

pub returns-clause-live : goal.returns-clause-live
returns-clause-live c =
    ap (λ ss. live_from 0 (lits_of ss)) (take_at c.drop_watch-2.new.slots _ c.self.inside.slots.len (omega arith))
    ∙ ap (live_from 0) (c.drop_watch-2.ensures.lits ∙ c.drop_watch.ensures.lits ∙ ap lits_of c.as_mut_slice-slots.ensures.value ∙ lits_set c.self.inside.slots.items c.args.id.place (record { lits = c.clear.new.self; first = c.index_mut-slot.result.now.first; second = c.index_mut-slot.result.now.second; moved = c.index_mut-slot.result.now.moved }) ∙ ap (set (lits_of c.self.inside.slots.items) c.args.id.place) c.clear.ensures.items)
    ∙ live_without (lits_of c.self.inside.slots.items) c.args.id.place ∙ ap (λ es. without es c.args.id) (seen_live c.self.inside.variables (lits_of c.self.inside.slots.items) c.args.self.now c.self.view_is)

pub returns-clause-differ : goal.returns-clause-differ
returns-clause-differ c = ids_differ (lits_of (take c.self.inside.slots.len (c.drop_watch-2.new.slots ++ drop (length c.drop_watch-2.new.slots) (set c.self.inside.slots.items c.args.id.place (record { lits = c.clear.new.self; first = c.index_mut-slot.result.now.first; second = c.index_mut-slot.result.now.second; moved = c.index_mut-slot.result.now.moved })))))
