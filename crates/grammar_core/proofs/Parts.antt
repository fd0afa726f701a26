-- How readings of the parts of a form make the reading of the form.
use Rattle.std.proofs.Common.{◌≡◌, true, List, [], ◌∷◌, ◌++◌, ◌⊎◌, inl, inr, sym, ap, ◌∙◌, append_assoc, append-nil}
use Rattle.grammar_core.specs.Forms.{Tree, Grammar, FormOf}
use Rattle.grammar_core.specs.Spelling.{Room, Any, Spells, Begins}
use Rattle.grammar_core.specs.Reading.{Ends}
use Rattle.grammar_core.specs.Test.{apart, firsts, nexts, decides, fits, Tables, key}
use Rattle.grammar_core.proofs.Lists.{compare}
use Rattle.grammar_core.proofs.Fronts.{front, front_spelled, spells_any, begins_any}
use Rattle.grammar_core.proofs.Sets.{not_apart}
use Rattle.grammar_core.proofs.Sides.{Side, same, longer, shorter, cancel, beyond}
use Rattle.grammar_core.proofs.Sound.{first_spelled, first_begins}
use Rattle.grammar_core.proofs.Determined.{side}

module _ (g : Grammar) (tab : Tables g) (fit : (n : g.Name) → fits tab n ≡ true) where
  -- a part that was read, and what was read behind it
  -- the first part alone does not begin with more
  pub first_ends : (a : FormOf g) (us vs rest mid : List g.Token) (r : Room) → Ends g Any a us mid → mid ≡ vs ++ rest → (c : g.Token) (d : List g.Token) → rest ≡ c ∷ d → Begins g r a ((us ++ vs) ++ c ∷ []) → ⊥
  first_ends a us [] rest mid r ends e c d k p = ends c d (e ∙ k) (front (begins_any p) (us ++ c ∷ []) [] (ap (λ z. z ++ c ∷ []) (append-nil us) ∙ sym (append-nil (us ++ c ∷ []))))
  first_ends a us (v ∷ vs) rest mid r ends e c d k p = ends v (vs ++ rest) e (front (begins_any p) (us ++ v ∷ []) (vs ++ c ∷ []) (append_assoc us (v ∷ vs) (c ∷ []) ∙ sym (append_assoc us (v ∷ []) (vs ++ c ∷ []))))

  -- the head of what was read behind a part is the next token there
  head_behind : (vs rest mid : List g.Token) (c x : g.Token) (d xs : List g.Token) → mid ≡ vs ++ rest → rest ≡ c ∷ d → vs ++ c ∷ [] ≡ x ∷ xs → (l : List g.Token) × (mid ≡ x ∷ l)
  head_behind [] rest mid c x d xs e k h = (d, e ∙ k ∙ ap (λ z. z ∷ d) (cc))
  head_behind (v ∷ vs) rest mid c x d xs e k h = (vs ++ rest, e ∙ ap (λ z. z ∷ (vs ++ rest)) (cc))

  -- another cut of the same tokens does not begin with more
  pub cut_ends : (a f : FormOf g) (us vs rest mid us' ws' : List g.Token) (r q : Room) {x x' : Tree g a} → decides tab a ≡ true → apart (nexts tab a) (firsts tab f) ≡ true → Spells g r a us x → Ends g Any a us mid → mid ≡ vs ++ rest → (c : g.Token) (d : List g.Token) → rest ≡ c ∷ d → Spells g q a us' x' → Begins g q f ws' → (us ++ vs) ++ c ∷ [] ≡ us' ++ ws' → (ws' ≡ vs ++ c ∷ [] → ⊥) → ⊥
  cut_ends a f us vs rest mid us' ws' r q t ap1 p ends e c d k p' w h not_this = go (side g tab fit p p' t (vs ++ c ∷ []) ws' h')
    where
      h' : us ++ (vs ++ c ∷ []) ≡ us' ++ ws'
      h' = sym (append_assoc us vs (c ∷ [])) ∙ h

      go : Side (key tab) (nexts tab a) us us' → ⊥
      go (same z) = not_this (sym (cancel us' _ _ (ap (λ y. y ++ (vs ++ c ∷ [])) (sym z) ∙ h')))
      go (longer c' d' z i) =
          let m = head_behind vs rest mid c c' d _ e k (beyond us _ us' ws' c' d' h' z) in
          ends c' m.0 m.1 (front_spelled (spells_any p') (us ++ c' ∷ []) d' (z ∙ sym (append_assoc us (c' ∷ []) d')))
      go (shorter c' d' z i) = not_apart (key tab c') (nexts tab a) (firsts tab f) ap1 i (first_begins g tab fit w c' _ (beyond us' ws' us _ c' d' (sym h') z))

  -- another cut of the same tokens spells no more
  pub cut_unspelled : (a f : FormOf g) (us vs rest mid us' vs' : List g.Token) (r q : Room) {x x' : Tree g a} {y : Tree g f} → decides tab a ≡ true → apart (nexts tab a) (firsts tab f) ≡ true → Spells g r a us x → Ends g Any a us mid → mid ≡ vs ++ rest → Spells g q a us' x' → Spells g q f vs' y → us ++ vs ≡ us' ++ vs' → (vs' ≡ vs → ⊥) → ⊥
  cut_unspelled a f us vs rest mid us' vs' r q t ap1 p ends e p' w h not_this = go (side g tab fit p p' t vs vs' h)
    where
      go : Side (key tab) (nexts tab a) us us' → ⊥
      go (same z) = not_this (sym (cancel us' _ _ (ap (λ y. y ++ vs) (sym z) ∙ h)))
      go (longer c' d' z i) =
          ends c' ((d' ++ vs') ++ rest) (e ∙ ap (λ y. y ++ rest) (beyond us vs us' vs' c' d' h z)) (front_spelled (spells_any p') (us ++ c' ∷ []) d' (z ∙ sym (append_assoc us (c' ∷ []) d')))
      go (shorter c' d' z i) = not_apart (key tab c') (nexts tab a) (firsts tab f) ap1 i (first_spelled g tab fit w c' _ (beyond us' vs' us vs c' d' (sym h) z))

  -- the last token of a longer list
  pub last_cut : (us us' ws' : List g.Token) (c : g.Token) → us ++ c ∷ [] ≡ us' ++ ws' → ((us ++ c ∷ [] ≡ us') × (ws' ≡ [])) ⊎ ((l : List g.Token) × (us ≡ us' ++ l) × (ws' ≡ l ++ c ∷ []))
  last_cut us us' ws' c e = go (compare us (c ∷ []) us' ws' e)
    where
      go : ((l : List g.Token) × (us' ≡ us ++ l) × (c ∷ [] ≡ l ++ ws')) ⊎ ((l : List g.Token) × (us ≡ us' ++ l) × (ws' ≡ l ++ c ∷ [])) → ((us ++ c ∷ [] ≡ us') × (ws' ≡ [])) ⊎ ((l : List g.Token) × (us ≡ us' ++ l) × (ws' ≡ l ++ c ∷ []))
      go (inr m) = inr m
      go (inl ([], k, h)) = inr ([], sym (append-nil us) ∙ sym k ∙ sym (append-nil us'), sym h)
      go (inl (x ∷ [], k, h)) = inl (ap (λ z. us ++ z ∷ []) (cc) ∙ sym k, cc)
      go (inl (x ∷ y ∷ l, k, h)) = absurd (cc)
