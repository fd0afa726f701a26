use Rattle.std.proofs.Common.{◌≡◌, ◌<◌, ◌++◌, length, get_or, take, drop, map, sym, ap, subst, ◌∙◌, arith}
use Rattle.std.specs.Prelude.{All, filter}
use Rattle.std.proofs.lemmas.List.{take_at}
use Rattle.sat_arena.specs.declared.id.ClauseId.{ClauseId}
use Rattle.sat_arena.specs.Live.{IsLive, literals, clauses_of, renamed}
use Rattle.sat_arena.specs.Linking.{lits_of, live_from, moved_id, moved_of, numbered, holds_clause}
use Rattle.sat_arena.proofs.LiveLemmas.{ids_differ}
use Rattle.sat_arena.proofs.ArenaLemmas.{seen_live}
use Rattle.sat_arena.proofs.ReadLemmas.{place_within}
use Rattle.sat_arena.proofs.NumberLemmas.{moved_numbered, length_numbered}
use Rattle.sat_arena.proofs.FilterLemmas.{same_clauses}
use Rattle.sat_arena.proofs.CompactLemmas.{places, new_live, lits_left, arena_compacted, listed_within, moved_renamed, moved_live, moved_named}
use Rattle.sat_arena.proofs.arena.Arena.compact.Goals as goal

pub rename_all-requires : goal.rename_all-requires
rename_all-requires c =
    subst (λ ss. All (All (λ (k : ClauseId). k.place < length ss)) c.as_mut_slice-2.result.now) (sym (c.as_slice-slots.ensures.value ∙ take_at c.number.new.slots _ c.self.inside.slots.len (omega arith) ∙ c.number.ensures ∙ ap (numbered 0) c.as_mut_slice.ensures.value))
    (subst (All (All (λ (k : ClauseId). k.place < length (numbered 0 c.self.inside.slots.items)))) (sym c.as_mut_slice-2.ensures.value) (listed_within c.self.inside.variables c.self.inside.slots.items c.self.inside.watched.items c.self.invariant))

pub rename-requires : goal.rename-requires
rename-requires c =
    subst (λ ss. All (λ (k : ClauseId). k.place < length ss) c.as_mut_slice-3.result.now) (sym (c.as_slice-slots.ensures.value ∙ take_at c.number.new.slots _ c.self.inside.slots.len (omega arith) ∙ c.number.ensures ∙ ap (numbered 0) c.as_mut_slice.ensures.value))
    (subst (All (λ (k : ClauseId). k.place < length (numbered 0 c.self.inside.slots.items))) (sym c.as_mut_slice-3.ensures.value)
    (λ i d l. let h : (get_or c.args.held.now.items i d).place < length c.self.inside.slots.items = place_within c.self.inside.variables c.self.inside.slots.items c.self.inside.watched.items c.self.invariant c.args.self.now c.self.view_is (get_or c.args.held.now.items i d) (c.requires i d l) in
    let k : length (numbered 0 c.self.inside.slots.items) ≡ length c.self.inside.slots.items = length_numbered c.self.inside.slots.items 0 in
    omega arith))

pub invariant_of-self : goal.invariant_of-self
invariant_of-self c =
    arena_compacted c.self.inside.variables c.self.inside.slots.items c.drop_empty.new.slots.items c.self.inside.watched.items _ c.self.invariant (c.drop_empty.ensures ∙ ap (filter holds_clause) (take_at c.number.new.slots _ c.self.inside.slots.len (omega arith) ∙ c.number.ensures ∙ ap (numbered 0) c.as_mut_slice.ensures.value))
    (take_at c.rename_all.new.watched _ c.self.inside.watched.len (omega arith) ∙ c.rename_all.ensures
    ∙ ap (λ m. map (map (moved_id m)) c.as_mut_slice-2.result.now) (ap moved_of (c.as_slice-slots.ensures.value ∙ take_at c.number.new.slots _ c.self.inside.slots.len (omega arith) ∙ c.number.ensures ∙ ap (numbered 0) c.as_mut_slice.ensures.value) ∙ moved_numbered c.self.inside.slots.items 0) ∙ ap (map (map (moved_id (places c.self.inside.slots.items)))) c.as_mut_slice-2.ensures.value)

pub returns-clause-clauses : goal.returns-clause-clauses
returns-clause-clauses c = ap clauses_of (ap (λ ss. live_from 0 (lits_of ss)) (c.drop_empty.ensures ∙ ap (filter holds_clause) (take_at c.number.new.slots _ c.self.inside.slots.len (omega arith) ∙ c.number.ensures ∙ ap (numbered 0) c.as_mut_slice.ensures.value)) ∙ ap (live_from 0) (lits_left c.self.inside.slots.items)) ∙ same_clauses (lits_of c.self.inside.slots.items) 0 0 ∙ ap clauses_of (seen_live c.self.inside.variables (lits_of c.self.inside.slots.items) c.args.self.now c.self.view_is)

pub returns-clause-held : goal.returns-clause-held
returns-clause-held c =
    take_at c.rename.new.ids _ c.args.held.now.len (omega arith) ∙ c.rename.ensures ∙ ap (λ m. map (moved_id m) c.as_mut_slice-3.result.now) (ap moved_of (c.as_slice-slots.ensures.value ∙ take_at c.number.new.slots _ c.self.inside.slots.len (omega arith) ∙ c.number.ensures ∙ ap (numbered 0) c.as_mut_slice.ensures.value) ∙ moved_numbered c.self.inside.slots.items 0) ∙ ap (map (moved_id (places c.self.inside.slots.items))) c.as_mut_slice-3.ensures.value ∙ moved_renamed (lits_of c.self.inside.slots.items) c.args.held.now.items (subst (λ es. All (IsLive es) c.args.held.now.items) (sym (seen_live c.self.inside.variables (lits_of c.self.inside.slots.items) c.args.self.now c.self.view_is)) c.requires)
    ∙ ap (λ es. map (renamed es (new_live (lits_of c.self.inside.slots.items))) c.args.held.now.items) (seen_live c.self.inside.variables (lits_of c.self.inside.slots.items) c.args.self.now c.self.view_is) ∙ ap (λ es. map (renamed c.args.self.now.live es) c.args.held.now.items) (sym (ap (λ ss. live_from 0 (lits_of ss)) (c.drop_empty.ensures ∙ ap (filter holds_clause) (take_at c.number.new.slots _ c.self.inside.slots.len (omega arith) ∙ c.number.ensures ∙ ap (numbered 0) c.as_mut_slice.ensures.value)) ∙ ap (live_from 0) (lits_left c.self.inside.slots.items)))

pub returns-clause-differ : goal.returns-clause-differ
returns-clause-differ c = ids_differ (lits_of c.drop_empty.new.slots.items)

pub returns-clause-live : goal.returns-clause-live
returns-clause-live c =
    subst (λ es. All (IsLive es) (take c.args.held.now.len (c.rename.new.ids ++ drop (length c.rename.new.ids) c.args.held.now.items))) (sym (ap (λ ss. live_from 0 (lits_of ss)) (c.drop_empty.ensures ∙ ap (filter holds_clause) (take_at c.number.new.slots _ c.self.inside.slots.len (omega arith) ∙ c.number.ensures ∙ ap (numbered 0) c.as_mut_slice.ensures.value)) ∙ ap (live_from 0) (lits_left c.self.inside.slots.items))) (subst (All (IsLive (new_live (lits_of c.self.inside.slots.items)))) (sym (take_at c.rename.new.ids _ c.args.held.now.len (omega arith) ∙ c.rename.ensures ∙ ap (λ m. map (moved_id m) c.as_mut_slice-3.result.now) (ap moved_of (c.as_slice-slots.ensures.value ∙ take_at c.number.new.slots _ c.self.inside.slots.len (omega arith) ∙ c.number.ensures ∙ ap (numbered 0) c.as_mut_slice.ensures.value) ∙ moved_numbered c.self.inside.slots.items 0) ∙ ap (map (moved_id (places c.self.inside.slots.items))) c.as_mut_slice-3.ensures.value)) (moved_live (lits_of c.self.inside.slots.items) c.args.held.now.items (subst (λ es. All (IsLive es) c.args.held.now.items) (sym (seen_live c.self.inside.variables (lits_of c.self.inside.slots.items) c.args.self.now c.self.view_is)) c.requires)))

pub returns-clause-named : goal.returns-clause-named
returns-clause-named c =
    ap (λ es. map (literals es) (take c.args.held.now.len (c.rename.new.ids ++ drop (length c.rename.new.ids) c.args.held.now.items))) (ap (λ ss. live_from 0 (lits_of ss)) (c.drop_empty.ensures ∙ ap (filter holds_clause) (take_at c.number.new.slots _ c.self.inside.slots.len (omega arith) ∙ c.number.ensures ∙ ap (numbered 0) c.as_mut_slice.ensures.value)) ∙ ap (live_from 0) (lits_left c.self.inside.slots.items)) ∙ ap (map (literals (new_live (lits_of c.self.inside.slots.items)))) (take_at c.rename.new.ids _ c.args.held.now.len (omega arith) ∙ c.rename.ensures ∙ ap (λ m. map (moved_id m) c.as_mut_slice-3.result.now) (ap moved_of (c.as_slice-slots.ensures.value ∙ take_at c.number.new.slots _ c.self.inside.slots.len (omega arith) ∙ c.number.ensures ∙ ap (numbered 0) c.as_mut_slice.ensures.value) ∙ moved_numbered c.self.inside.slots.items 0) ∙ ap (map (moved_id (places c.self.inside.slots.items))) c.as_mut_slice-3.ensures.value)
    ∙ moved_named (lits_of c.self.inside.slots.items) c.args.held.now.items (subst (λ es. All (IsLive es) c.args.held.now.items) (sym (seen_live c.self.inside.variables (lits_of c.self.inside.slots.items) c.args.self.now c.self.view_is)) c.requires) ∙ ap (λ es. map (literals es) c.args.held.now.items) (seen_live c.self.inside.variables (lits_of c.self.inside.slots.items) c.args.self.now c.self.view_is)
