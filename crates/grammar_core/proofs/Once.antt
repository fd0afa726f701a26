-- A list is read in one way: the front that is read, and what it is read as.
use Rattle.std.proofs.Common.{◌≡◌, true, List, [], ◌∷◌, ◌++◌, ◌⊎◌, inl, inr, refl, sym, ap, ◌∙◌, subst, append_assoc, append-nil}
use Rattle.grammar_core.specs.Forms.{Grammar, FormOf, Tree}
use Rattle.grammar_core.specs.Spelling.{Room, Any, Spells, Begins}
use Rattle.grammar_core.specs.Reading.{Ends, IsGot, IsWrong, IsDeep, Wrong, Deep, Reading, Got, Stop, Reads}
use Rattle.grammar_core.specs.Test.{Tables, fits, decides}
use Rattle.grammar_core.proofs.Lists.{compare}
use Rattle.grammar_core.proofs.Fronts.{begun, front, spells_any, begins_any}
use Rattle.grammar_core.proofs.Determined.{unique}

-- a front that begins the form, and with the next token does so no longer
record Stops (g : Grammar) (r : Room) (f : FormOf g) (ts rest : List g.Token) : Type 0 where
  front : List g.Token
  is : ts ≡ front ++ rest
  begun : Begins g r f front
  ends : Ends g r f front rest

abbrev stops_got : {g : Grammar} {r : Room} {f : FormOf g} {ts rest : List g.Token} {v : Tree g f} → IsGot g r f ts v rest → Stops g r f ts rest
stops_got p = record { front = p.front; is = p.is; begun = begun p.spelled; ends = λ c d e z. p.ends c d e (begins_any z) }

abbrev stops_wrong : {g : Grammar} {r : Room} {f : FormOf g} {ts rest : List g.Token} → IsWrong g r f ts rest → Stops g r f ts rest
stops_wrong p = record { front = p.front; is = p.is; begun = p.begun; ends = λ c d e z. p.ends c d e (begins_any z) }

abbrev stops_deep : {g : Grammar} {r : Room} {f : FormOf g} {ts rest : List g.Token} → IsDeep g r f ts rest → Stops g r f ts rest
stops_deep p = record { front = p.front; is = p.is; begun = p.begun; ends = p.ends }

-- a longer front does not begin the form
not_further : {g : Grammar} {r : Room} {f : FormOf g} (us vs rest rest' d : List g.Token) → Ends g r f us rest → Begins g r f vs → vs ≡ us ++ d → rest ≡ d ++ rest' → d ≡ []
not_further us vs rest rest' [] ends p e h = refl
not_further us vs rest rest' (c ∷ d) ends p e h = absurd (ends c (d ++ rest') h (front p (us ++ c ∷ []) d (e ∙ sym (append_assoc us (c ∷ []) d))))

same_front : {g : Grammar} {r : Room} {f : FormOf g} {ts rest rest' : List g.Token} (p : Stops g r f ts rest) (q : Stops g r f ts rest') → (p.front ≡ q.front) × (rest ≡ rest')
same_front {g} {r} {f} {ts} {rest} {rest'} p q = go (compare p.front rest q.front rest' (sym p.is ∙ q.is))
  where
    go : ((d : List g.Token) × (q.front ≡ p.front ++ d) × (rest ≡ d ++ rest')) ⊎ ((d : List g.Token) × (p.front ≡ q.front ++ d) × (rest' ≡ d ++ rest)) → (p.front ≡ q.front) × (rest ≡ rest')
    go (inl (d, e, h)) =
        let z = not_further p.front q.front rest rest' d p.ends q.begun e h in
        (sym (e ∙ ap (λ l. p.front ++ l) z ∙ append-nil p.front), h ∙ ap (λ l. l ++ rest') z)
    go (inr (d, e, h)) =
        let z = not_further q.front p.front rest' rest d q.ends p.begun e h in
        (e ∙ ap (λ l. q.front ++ l) z ∙ append-nil q.front, sym (h ∙ ap (λ l. l ++ rest) z))

module _ (g : Grammar) (tab : Tables g) (fit : (n : g.Name) → fits tab n ≡ true) where
  got_wrong : {r : Room} {f : FormOf g} {ts rest rest' : List g.Token} {v : Tree g f} → IsGot g r f ts v rest → IsWrong g r f ts rest' → ⊥
  got_wrong {f = f} {v = v} p q = q.unspelled v (subst (λ z. Spells g Any f z v) (same_front (stops_got p) (stops_wrong q)).0 (spells_any p.spelled))

  got_deep : {r : Room} {f : FormOf g} {ts rest rest' : List g.Token} {v : Tree g f} → IsGot g r f ts v rest → IsDeep g r f ts rest' → ⊥
  got_deep {f = f} p q =
      let w = same_front (stops_got p) (stops_deep q) in
      p.ends q.opens q.behind (w.1 ∙ q.next) (subst (λ z. Begins g Any f (z ++ q.opens ∷ [])) (sym w.0) q.deeper)

  wrong_deep : {r : Room} {f : FormOf g} {ts rest rest' : List g.Token} → IsWrong g r f ts rest → IsDeep g r f ts rest' → ⊥
  wrong_deep {f = f} p q =
      let w = same_front (stops_wrong p) (stops_deep q) in
      p.ends q.opens q.behind (w.1 ∙ q.next) (subst (λ z. Begins g Any f (z ++ q.opens ∷ [])) (sym w.0) q.deeper)

  got_is : {A B : Type 0} {x y : A} {l m : List B} → x ≡ y → l ≡ m → Got x l ≡ Got y m
  got_is h k = cc

  -- what a list is read as
  pub once : (r : Room) (f : FormOf g) (ts : List g.Token) {x y : Reading (Tree g f) g.Token} → decides tab f ≡ true → Reads g r f ts x → Reads g r f ts y → x ≡ y
  unfolding Reads
  once r f ts {x = Got v l} {y = Got w m} t p q =
      let z = same_front (stops_got p) (stops_got q) in got_is (unique g tab fit p.spelled q.spelled t z.0) z.1
  once r f ts {x = Got v l} {y = Stop Wrong m} t p q = absurd (got_wrong p q)
  once r f ts {x = Got v l} {y = Stop Deep m} t p q = absurd (got_deep p q)
  once r f ts {x = Stop Wrong l} {y = Got w m} t p q = absurd (got_wrong q p)
  once r f ts {x = Stop Wrong l} {y = Stop Wrong m} t p q = ap (λ z. Stop Wrong z) (same_front (stops_wrong p) (stops_wrong q)).1
  once r f ts {x = Stop Wrong l} {y = Stop Deep m} t p q = absurd (wrong_deep p q)
  once r f ts {x = Stop Deep l} {y = Got w m} t p q = absurd (got_deep q p)
  once r f ts {x = Stop Deep l} {y = Stop Wrong m} t p q = absurd (wrong_deep q p)
  once r f ts {x = Stop Deep l} {y = Stop Deep m} t p q = ap (λ z. Stop Deep z) (same_front (stops_deep p) (stops_deep q)).1
