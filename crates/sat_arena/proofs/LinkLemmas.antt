-- Watch lists and slots that stay linked.
use Rattle.std.proofs.Common.{◌≡◌, ℕ, ◌+◌, ◌-◌, ◌<◌, zero, suc, List, [], ◌∷◌, ◌++◌, length, get_or, set, replicate, refl, sym, ◌∙◌, ap, subst, arith, inl, inr, ◌⊎◌, Option, Some, None}
use Rattle.std.specs.Prelude.{slice_get}
use Rattle.std.specs.List.{swap_remove}
use Rattle.std.proofs.lemmas.Bool.{cases_eq}
use Rattle.std.proofs.lemmas.List.{get_or-set_same, set-set, set-get_or}
use Rattle.std.proofs.lemmas.Option.{slice_get_within, none-some, same_Some}
use Rattle.sat_arena.specs.declared.id.ClauseId.{ClauseId}
use Rattle.sat_arena.specs.Linking.{IsLinked, IsLinkedBut, added}
use Rattle.sat_arena.proofs.PlaceLemmas.{get_left, get_end, get_push, get_gone, get_moved, length_gone}

abbrev pub id_at : ℕ → ClauseId
id_at p = record { place = p }

pub same_place : (p q : ℕ) → id_at p ≡ id_at q → p ≡ q
same_place p q e = ap (λ (i : ClauseId). i.place) e

pub linked_same : (f g : ℕ → Option ℕ) (ids : List ClauseId) → ((p : ℕ) → g p ≡ f p) → IsLinked f ids → IsLinked g ids
linked_same f g ids e h = record { both = λ p i. ((λ s. (h.both p i).0 (sym (e p) ∙ s)), (λ s. e p ∙ (h.both p i).1 s)) }

-- one more id, that of a clause that now says where it stands
pub linked_push : (f g : ℕ → Option ℕ) (ids : List ClauseId) (p : ℕ) → IsLinked f ids → f p ≡ None → g p ≡ Some (length ids) → ((q : ℕ) → (q ≡ p → ⊥) → g q ≡ f q) → IsLinked g (ids ++ id_at p ∷ [])
linked_push f g ids p h none here others = record { both = λ q i. (forth q i, back q i) } where
  forth : (q i : ℕ) → g q ≡ Some i → slice_get (ids ++ id_at p ∷ []) i ≡ Some (id_at q)
  forth q i s = go (cases_eq q p) where
    go : (q ≡ p) ⊎ (q ≡ p → ⊥) → slice_get (ids ++ id_at p ∷ []) i ≡ Some (id_at q)
    go (inl e) =
        let n : length ids ≡ i = same_Some (length ids) i (sym here ∙ ap g (sym e) ∙ s) in
        subst (λ j. slice_get (ids ++ id_at p ∷ []) j ≡ Some (id_at q)) n (get_end ids (id_at p) ∙ ap (λ r. Some (id_at r)) (sym e))
    go (inr n) =
        let old : slice_get ids i ≡ Some (id_at q) = (h.both q i).0 (sym (others q n) ∙ s) in
        get_left ids (id_at p ∷ []) i (slice_get_within ids i (id_at q) old) ∙ old

  back : (q i : ℕ) → slice_get (ids ++ id_at p ∷ []) i ≡ Some (id_at q) → g q ≡ Some i
  back q i s = go (get_push ids (id_at p) i (id_at q) s) where
    go : (slice_get ids i ≡ Some (id_at q)) ⊎ ((i ≡ length ids) × (id_at p ≡ id_at q)) → g q ≡ Some i
    go (inl old) =
        let said : f q ≡ Some i = (h.both q i).1 old in
        others q (λ e. none-some i (sym none ∙ ap f (sym e) ∙ said)) ∙ said
    go (inr last) = ap g (sym (same_place p q last.1)) ∙ here ∙ ap Some (sym last.0)

-- the last id goes
pub linked_cut : (f g : ℕ → Option ℕ) (ids : List ClauseId) (at : ℕ) (d : ClauseId) → IsLinkedBut f ids at → at + 1 ≡ length ids → ((q : ℕ) → g q ≡ f q) → IsLinked g (swap_remove ids at d)
linked_cut f g ids at d h last same = record { both = λ q i. (forth q i, back q i) } where
  forth : (q i : ℕ) → g q ≡ Some i → slice_get (swap_remove ids at d) i ≡ Some (id_at q)
  forth q i s =
      let old : (slice_get ids i ≡ Some (id_at q)) × (i ≡ at → ⊥) = (h.both q i).0 (sym (same q) ∙ s) in
      let n : i < length ids = slice_get_within ids i (id_at q) old.0 in
      get_gone ids at i d (below i at (length ids) last n old.1) old.1 ∙ old.0
    where
      below : (i at n : ℕ) → at + 1 ≡ n → i < n → (i ≡ at → ⊥) → i < n - 1
      below i at n e l h = omega arith

  back : (q i : ℕ) → slice_get (swap_remove ids at d) i ≡ Some (id_at q) → g q ≡ Some i
  back q i s =
      let n : i < length (swap_remove ids at d) = slice_get_within (swap_remove ids at d) i (id_at q) s in
      let m : length (swap_remove ids at d) ≡ length ids - 1 = length_gone ids at d (omega arith) in
      let k : i < length ids - 1 = omega arith in
      let o : i ≡ at → ⊥ = λ e. omega arith in
      same q ∙ (h.both q i).1 (sym (get_gone ids at i d k o) ∙ s, o)

-- an id goes, and the last one, of the clause at place r, takes its position
pub linked_moved : (f g : ℕ → Option ℕ) (ids : List ClauseId) (at r : ℕ) (d : ClauseId) → IsLinkedBut f ids at → at + 1 < length ids → slice_get (swap_remove ids at d) at ≡ Some (id_at r) → g r ≡ Some at → ((q : ℕ) → (q ≡ r → ⊥) → g q ≡ f q) → IsLinked g (swap_remove ids at d)
linked_moved f g ids at r d h more here said others = record { both = λ q i. (forth q i, back q i) } where
  was : f r ≡ Some (length ids - 1)
  was = (h.both r (length ids - 1)).1 (sym (get_moved ids at d (omega arith)) ∙ here, (λ e. omega arith))

  forth : (q i : ℕ) → g q ≡ Some i → slice_get (swap_remove ids at d) i ≡ Some (id_at q)
  forth q i s = go (cases_eq q r) where
    go : (q ≡ r) ⊎ (q ≡ r → ⊥) → slice_get (swap_remove ids at d) i ≡ Some (id_at q)
    go (inl e) =
        let n : at ≡ i = same_Some at i (sym said ∙ ap g (sym e) ∙ s) in
        subst (λ j. slice_get (swap_remove ids at d) j ≡ Some (id_at q)) n (here ∙ ap (λ k. Some (id_at k)) (sym e))
    go (inr n) =
        let old : (slice_get ids i ≡ Some (id_at q)) × (i ≡ at → ⊥) = (h.both q i).0 (sym (others q n) ∙ s) in
        let l : i < length ids = slice_get_within ids i (id_at q) old.0 in
        let o : i ≡ length ids - 1 → ⊥ = λ e. n (same_place q r (same_Some (id_at q) (id_at r) (sym old.0 ∙ ap (slice_get ids) e ∙ sym (get_moved ids at d (omega arith)) ∙ here))) in
        get_gone ids at i d (below i (length ids) l o) old.1 ∙ old.0
      where
        below : (i n : ℕ) → i < n → (i ≡ n - 1 → ⊥) → i < n - 1
        below i n l h = omega arith

  back : (q i : ℕ) → slice_get (swap_remove ids at d) i ≡ Some (id_at q) → g q ≡ Some i
  back q i s = go (cases_eq i at) where
    go : (i ≡ at) ⊎ (i ≡ at → ⊥) → g q ≡ Some i
    go (inl e) =
        let p : r ≡ q = same_place r q (same_Some (id_at r) (id_at q) (sym here ∙ ap (slice_get (swap_remove ids at d)) (sym e) ∙ s)) in
        ap g (sym p) ∙ said ∙ ap Some (sym e)
    go (inr o) =
        let n : i < length (swap_remove ids at d) = slice_get_within (swap_remove ids at d) i (id_at q) s in
        let m : length (swap_remove ids at d) ≡ length ids - 1 = length_gone ids at d (omega arith) in
        let k : i < length ids - 1 = omega arith in
        let old : f q ≡ Some i = (h.both q i).1 (sym (get_gone ids at i d k o) ∙ s, o) in
        let w : q ≡ r → ⊥ = λ e. absurd (let j : length ids - 1 ≡ i = same_Some (length ids - 1) i (sym was ∙ ap f (sym e) ∙ old) in omega arith) in
        others q w ∙ old

-- an id that was added and taken out again
pub taken_back : (watched after : List (List ClauseId)) (c : ℕ) (id : ClauseId) (ids d : List ClauseId) → after ≡ added watched c id → c < length watched → (get_or after c d ≡ get_or watched c [] ++ id ∷ [] → ids ≡ get_or watched c []) → set after c ids ≡ watched
taken_back watched after c id ids d e h f =
    let back : ids ≡ get_or watched c [] = f (ap (λ w. get_or w c d) e ∙ get_or-set_same watched c (get_or watched c [] ++ id ∷ []) d h) in
    ap (λ w. set w c ids) e ∙ set-set watched c (get_or watched c [] ++ id ∷ []) ids ∙ ap (set watched c) back ∙ set-get_or watched c []

-- nothing is linked with nothing
pub linked_none : (f : ℕ → Option ℕ) → ((p : ℕ) → f p ≡ None) → IsLinked f []
linked_none f n = record { both = λ p i. ((λ s. absurd (none-some i (sym (n p) ∙ s))), (λ s. absurd (none-some (id_at p) s))) }

pub no_ids : (n c : ℕ) → get_or (replicate {A = List ClauseId} n []) c [] ≡ []
no_ids zero c = refl
no_ids (suc n) zero = refl
no_ids (suc n) (suc c) = no_ids n c

-- the clause at place p, which stands at one position, no longer says so
pub linked_hidden : (f g : ℕ → Option ℕ) (ids : List ClauseId) (p at : ℕ) → IsLinked f ids → f p ≡ Some at → g p ≡ None → ((q : ℕ) → (q ≡ p → ⊥) → g q ≡ f q) → IsLinkedBut g ids at
linked_hidden f g ids p at h was none others = record { both = λ q i. (forth q i, back q i) } where
  there : slice_get ids at ≡ Some (id_at p)
  there = (h.both p at).0 was

  forth : (q i : ℕ) → g q ≡ Some i → (slice_get ids i ≡ Some (id_at q)) × (i ≡ at → ⊥)
  forth q i s = go (cases_eq q p) where
    go : (q ≡ p) ⊎ (q ≡ p → ⊥) → (slice_get ids i ≡ Some (id_at q)) × (i ≡ at → ⊥)
    go (inl e) = absurd (none-some i (sym none ∙ ap g (sym e) ∙ s))
    go (inr n) =
        let old : slice_get ids i ≡ Some (id_at q) = (h.both q i).0 (sym (others q n) ∙ s) in
        (old, λ e. n (same_place q p (same_Some (id_at q) (id_at p) (sym old ∙ ap (slice_get ids) e ∙ there))))

  back : (q i : ℕ) → (slice_get ids i ≡ Some (id_at q)) × (i ≡ at → ⊥) → g q ≡ Some i
  back q i s = go (cases_eq q p) where
    said : f q ≡ Some i
    said = (h.both q i).1 s.0

    go : (q ≡ p) ⊎ (q ≡ p → ⊥) → g q ≡ Some i
    go (inl e) = absurd (s.1 (same_Some i at (sym said ∙ ap f e ∙ was)))
    go (inr n) = others q n ∙ said

pub linked_within : (f : ℕ → Option ℕ) (ids : List ClauseId) (p at : ℕ) → IsLinked f ids → f p ≡ Some at → at < length ids
linked_within f ids p at h was = slice_get_within ids at (id_at p) ((h.both p at).0 was)

pub but_same : (f g : ℕ → Option ℕ) (ids : List ClauseId) (at : ℕ) → ((p : ℕ) → g p ≡ f p) → IsLinkedBut f ids at → IsLinkedBut g ids at
but_same f g ids at e h = record { both = λ p i. ((λ s. (h.both p i).0 (sym (e p) ∙ s)), (λ s. e p ∙ (h.both p i).1 s)) }
