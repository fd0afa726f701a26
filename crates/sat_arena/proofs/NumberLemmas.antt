-- The places that slots say for their clauses, and ids renamed by them.
use Rattle.std.proofs.Common.{◌≡◌, ℕ, ◌+◌, ◌-◌, ◌<◌, zero, suc, List, [], ◌∷◌, ◌++◌, length, get_or, set, take, drop, map, refl, sym, ◌∙◌, ap, subst, arith}
use Rattle.std.specs.Prelude.{All}
use Rattle.std.proofs.lemmas.List.{length-map, length-take-le, length-drop, length-append, get_or-append_right, get_or-drop, get_or-map, get_or_default}
use Rattle.std.proofs.lemmas.List.Elements.{All-get_or}
use Rattle.std.proofs.lemmas.List.Edits.{map_over_more}
use Rattle.sat_arena.specs.declared.id.ClauseId.{ClauseId}
use Rattle.sat_arena.specs.declared.slot.Slot.{Slot}
use Rattle.sat_arena.specs.Linking.{lits_of, stands_at, next_place, places_from, numbered, moved_of, moved_id}

-- a loop that changes each element: what it has not come to is as it was
pub still : {X : Type 0} (f : X → X) (xs ys : List X) (i : ℕ) (d : X) → i < length xs → ys ≡ map f (take i xs) ++ drop i xs → get_or ys i d ≡ get_or xs i d
still f xs ys i d h e =
    let m : length (map f (take i xs)) ≡ i = length-map (take i xs) f ∙ length-take-le i xs (omega arith) in
    ap (λ zs. get_or zs i d) e ∙ get_or-append_right (map f (take i xs)) (drop i xs) i i d m (omega arith)
    ∙ get_or-drop i xs (i - i) d ∙ ap (λ k. get_or xs k d) (omega arith)

-- one more id renamed
pub renames_more : (slots : List Slot) (xs ys : List ClauseId) (i : ℕ) (d : ClauseId) (s : Slot) → i < length xs → All (λ (k : ClauseId). k.place < length slots) xs
    → ys ≡ map (moved_id (moved_of slots)) (take i xs) ++ drop i xs
    → set ys i (record { place = (get_or slots (get_or ys i d).place s).moved }) ≡ map (moved_id (moved_of slots)) (take (i + 1) xs) ++ drop (i + 1) xs
renames_more slots xs ys i d s h all e =
    let p : (get_or ys i d).place < length slots = subst (λ (k : ClauseId). k.place < length slots) (sym (still (moved_id (moved_of slots)) xs ys i d h e)) (All-get_or (λ (k : ClauseId). k.place < length slots) xs i d h all) in
    ap (λ n. set ys i (record { place = n })) (sym (get_or-map (λ (s : Slot). s.moved) slots (get_or ys i d).place s 0 p))
    ∙ map_over_more (moved_id (moved_of slots)) xs ys i (get_or ys i d) h e (get_or_default ys i d (get_or ys i d) (long ys xs i h e))
  where
    long : (ys xs : List ClauseId) (i : ℕ) → i < length xs → ys ≡ map (moved_id (moved_of slots)) (take i xs) ++ drop i xs → i < length ys
    long ys xs i h e =
        let m : length (map (moved_id (moved_of slots)) (take i xs)) ≡ i = length-map (take i xs) (moved_id (moved_of slots)) ∙ length-take-le i xs (omega arith) in
        let n : length (drop i xs) ≡ length xs - i = length-drop i xs in
        let o : length ys ≡ length (map (moved_id (moved_of slots)) (take i xs) ++ drop i xs) = ap length e in
        let q : length (map (moved_id (moved_of slots)) (take i xs) ++ drop i xs) ≡ length (map (moved_id (moved_of slots)) (take i xs)) + length (drop i xs) = length-append (map (moved_id (moved_of slots)) (take i xs)) (drop i xs) in
        omega arith

-- what numbering leaves

pub lits_numbered : (slots : List Slot) (n : ℕ) → lits_of (numbered n slots) ≡ lits_of slots
lits_numbered [] n = refl
lits_numbered (s ∷ ss) n = ap (λ cs. s.lits.items ∷ cs) (lits_numbered ss (next_place n s.lits.items))

pub says_numbered : (slots : List Slot) (n c p : ℕ) → stands_at (numbered n slots) c p ≡ stands_at slots c p
says_numbered [] n c p = refl
says_numbered (s ∷ ss) n c zero = refl
says_numbered (s ∷ ss) n c (suc p) = says_numbered ss (next_place n s.lits.items) c p

pub moved_numbered : (slots : List Slot) (n : ℕ) → moved_of (numbered n slots) ≡ places_from n (lits_of slots)
moved_numbered [] n = refl
moved_numbered (s ∷ ss) n = ap (λ ps. n ∷ ps) (moved_numbered ss (next_place n s.lits.items))

pub length_numbered : (slots : List Slot) (n : ℕ) → length (numbered n slots) ≡ length slots
length_numbered [] n = refl
length_numbered (s ∷ ss) n = ap suc (length_numbered ss (next_place n s.lits.items))
