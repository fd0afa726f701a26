-- The rules of reading: what the parts of a form read makes what the form reads.
use Rattle.std.specs.Prelude.{not}
use Rattle.std.proofs.Common.{◌≡◌, ℕ, zero, Bool, true, false, List, [], ◌∷◌, ◌++◌, ◌⊎◌, inl, inr, refl, sym, ap, ◌∙◌, subst, append_assoc, append-nil}
use Rattle.grammar_core.specs.Forms.{One, Empty, Seq, Choice, Many, Nest, Call, Tree, Grammar, FormOf}
use Rattle.grammar_core.specs.Spelling.{Room, Any, Limit, Inside, any_more, one_less, Spells, Begins}
use Rattle.grammar_core.specs.Reading.{Ends, IsGot, IsWrong, IsDeep}
use Rattle.grammar_core.specs.Test.{is_in, apart, nullable, firsts, nexts, decides, head_in, IsDecided, Tables, key}
use Rattle.grammar_core.specs.Spelling.{Spells as s}
use Rattle.grammar_core.specs.Spelling.{Begins as b}
use Rattle.grammar_core.proofs.Fronts.{begun, one_more, spells_any, begins_any}
use Rattle.grammar_core.proofs.Sets.{not_both, not_apart}
use Rattle.grammar_core.proofs.Sides.{not_longer}
use Rattle.grammar_core.proofs.Sound.{null_sound, first_spelled, first_begins}
use Rattle.grammar_core.proofs.Determined.{next, seq_test, choice_test, many_test}
use Rattle.grammar_core.proofs.Tight.{begins_with, in_none}
use Rattle.grammar_core.proofs.Parts.{first_ends, cut_ends, cut_unspelled, last_cut}

pub clash : (x : Bool) → x ≡ true → x ≡ false → ⊥
clash x h k = absurd (cc)

-- a list that begins two forms, one behind the other
data View (g : Grammar) (r : Room) (a f : FormOf g) (all : List g.Token) : Type 0 where
  none : all ≡ [] → View g r a f all
  one : Begins g r a all → View g r a f all
  two : {us ws : List g.Token} {x : Tree g a} → Spells g r a us x → Begins g r f ws → all ≡ us ++ ws → View g r a f all

view_seq : {g : Grammar} {r : Room} {a f : FormOf g} {all : List g.Token} → Begins g r (Seq a f) all → View g r a f all
view_seq b.nothing = none refl
view_seq (b.first p) = one p
view_seq (b.second p q h) = two p q h

view_many : {g : Grammar} {r : Room} {a : FormOf g} {all : List g.Token} → Begins g r (Many a) all → View g r a (Many a) all
view_many b.nothing = none refl
view_many {g} {r} {a} (b.some s.none q h) = one (subst (λ z. Begins g r a z) (sym h) q)
view_many (b.some {ws = ws} (s.more {vs = vs1} {ws = vs2} p q k) w h) = two p (b.some q w refl) (h ∙ ap (λ z. z ++ ws) k ∙ append_assoc vs1 vs2 ws)

no_choice_left : {g : Grammar} {r : Room} {a f : FormOf g} {all : List g.Token} → Begins g r (Choice a f) all → (all ≡ [] → ⊥) → Begins g r a all ⊎ Begins g r f all
no_choice_left b.nothing h = absurd (h refl)
no_choice_left (b.left p) h = inl p
no_choice_left (b.right p) h = inr p

nest_inside : {g : Grammar} {r : Room} {x : g.Symbol} {a : FormOf g} {all : List g.Token} → Begins g r (Nest x a) all → (c : g.Token) (us : List g.Token) → all ≡ c ∷ us → (q : Room) × Inside r q × Begins g q a us
nest_inside b.nothing c us e = absurd (cc)
nest_inside {g} {a = a} (b.nest {q = q} {us = vs} y h i p) c us e = let k : vs ≡ us = cc in (q, i, subst (λ z. Begins g q a z) k p)

nest_spelled : {g : Grammar} {r : Room} {x : g.Symbol} {a : FormOf g} {all : List g.Token} {t : Tree g (Nest x a)} → Spells g r (Nest x a) all t → (c : g.Token) (us : List g.Token) → all ≡ c ∷ us → (y : Tree g a) × Spells g Any a us y
nest_spelled {g} {a = a} (s.nest {us = vs} {y = t} y h i p) c us e = let k : vs ≡ us = cc in (t, subst (λ z. Spells g Any a z t) k (spells_any p))

no_room : {r q : Room} → Inside r q → r ≡ Limit zero → ⊥
no_room any_more e = absurd (cc)
no_room one_less e = absurd (cc)

not_empty_nest : {g : Grammar} {r : Room} {x : g.Symbol} {a : FormOf g} {all : List g.Token} {t : Tree g (Nest x a)} → Spells g r (Nest x a) all t → all ≡ [] → ⊥
not_empty_nest (s.nest y h i p) e = cc

not_empty_token : {g : Grammar} {r : Room} {x : g.Symbol} {all : List g.Token} {t : g.Token} → Spells g r (One x) all t → all ≡ [] → ⊥
not_empty_token (s.token y h) e = cc

one_token : {g : Grammar} {r : Room} {x : g.Symbol} {all : List g.Token} → Begins g r (One x) all → (c d : g.Token) (us : List g.Token) → all ≡ c ∷ d ∷ us → ⊥
one_token b.nothing c d us e = cc
one_token (b.token y h) c d us e = cc

call_begun : {g : Grammar} {r : Room} {n : g.Name} {all : List g.Token} → Begins g r (Call n) all → Begins g r (g.rule n) all
call_begun b.nothing = b.nothing
call_begun (b.call p) = p

call_spelled : {g : Grammar} {r : Room} {n : g.Name} {all : List g.Token} {v : g.Value n} → Spells g r (Call n) all v → (t : Tree g (g.rule n)) × Spells g r (g.rule n) all t
call_spelled (s.call {t = t} p e) = (t, p)

module _ (g : Grammar) (tab : Tables g) (k : ℕ) (is : IsDecided tab k) where
  -- the next token begins nothing of the form
  not_begun : {r : Room} (f : FormOf g) (ts : List g.Token) → head_in tab (firsts tab f) ts ≡ false → Ends g r f [] ts
  not_begun f ts h c d e p = clash _ (first_begins g tab is.fit p c [] refl) (subst (λ z. head_in tab (firsts tab f) z ≡ false) e h)

  -- the next token begins the form
  begins_head : (f : FormOf g) (ts : List g.Token) → head_in tab (firsts tab f) ts ≡ true → Ends g Any f [] ts → ⊥
  begins_head f [] h e = absurd (cc)
  begins_head f (c ∷ d) h e = e c d refl (begins_with g tab is.differ k is f c h)

  head_at : (f : List ℕ) (us rest ts : List g.Token) (c : g.Token) (d : List g.Token) (x : Bool) → ts ≡ us ++ rest → rest ≡ c ∷ d → head_in tab f ts ≡ x → (z : g.Token) × (l : List g.Token) × (us ++ c ∷ [] ≡ z ∷ l) × (is_in (key tab z) f ≡ x)
  head_at f [] rest ts c d x e k h = (c, [], refl, subst (λ z. head_in tab f z ≡ x) (e ∙ k) h)
  head_at f (u ∷ us) rest ts c d x e k h = (u, us ++ c ∷ [], refl, subst (λ z. head_in tab f z ≡ x) e h)

  -- two forms, the first of which was read
  parts_end : (r q : Room) (a f : FormOf g) (us vs rest mid all : List g.Token) {x : Tree g a} → decides tab a ≡ true → apart (nexts tab a) (firsts tab f) ≡ true → Spells g r a us x → Ends g Any a us mid → mid ≡ vs ++ rest → Ends g q f vs rest → (c : g.Token) (d : List g.Token) → rest ≡ c ∷ d → all ≡ (us ++ vs) ++ c ∷ [] → View g q a f all → ⊥
  parts_end r q a f us vs rest mid all t ap1 p ends e ends2 c d k h (none z) = not_longer (us ++ vs) c [] (sym z ∙ h)
  parts_end r q a f us vs rest mid all t ap1 p ends e ends2 c d k h (one z) = first_ends g tab is.fit a us vs rest mid q ends e c d k (subst (λ y. Begins g q a y) h z)
  parts_end r q a f us vs rest mid all t ap1 p ends e ends2 c d k h (two {us = us'} {ws = ws'} z w j) =
      cut_ends g tab is.fit a f us vs rest mid us' ws' r q t ap1 p ends e c d k z w (sym h ∙ j) (λ y. ends2 c d k (subst (λ l. Begins g q f l) y w))

  -- two forms, where reading the first stopped
  first_part_ends : (q : Room) (a f : FormOf g) (us rest all : List g.Token) → decides tab a ≡ true → apart (nexts tab a) (firsts tab f) ≡ true → Begins g Any a us → Ends g q a us rest → (c : g.Token) (d : List g.Token) → rest ≡ c ∷ d → ((x : Tree g a) → Spells g Any a us x → is_in (key tab c) (firsts tab f) ≡ true → ⊥) → all ≡ us ++ c ∷ [] → View g q a f all → ⊥
  first_part_ends q a f us rest all t ap1 p ends c d k none_is h (none z) = not_longer us c [] (sym z ∙ h)
  first_part_ends q a f us rest all t ap1 p ends c d k none_is h (one z) = ends c d k (subst (λ y. Begins g q a y) h z)
  first_part_ends q a f us rest all t ap1 p ends c d k none_is h (two {us = us'} {ws = ws'} {x = x} z w j) = go (last_cut g tab is.fit us us' ws' c (sym h ∙ j))
    where
      go : ((us ++ c ∷ [] ≡ us') × (ws' ≡ [])) ⊎ ((l : List g.Token) × (us ≡ us' ++ l) × (ws' ≡ l ++ c ∷ [])) → ⊥
      go (inl (m, _)) = ends c d k (subst (λ y. Begins g q a y) (sym m) (begun z))
      go (inr ([], m, n)) = none_is x (subst (λ y. Spells g Any a y x) (sym (m ∙ append-nil us')) (spells_any z)) (first_begins g tab is.fit w c [] n)
      go (inr (y ∷ l, m, n)) = not_apart (key tab y) (nexts tab a) (firsts tab f) ap1 (next g tab is.fit z p t y l m) (first_begins g tab is.fit w y _ n)

  -- two forms, where reading the first stopped at a wrong token: nothing is spelled
  first_part_unspelled : (a f : FormOf g) (us us' vs' : List g.Token) {x : Tree g a} {y : Tree g f} → decides tab a ≡ true → apart (nexts tab a) (firsts tab f) ≡ true → Begins g Any a us → ((x : Tree g a) → Spells g Any a us x → ⊥) → Spells g Any a us' x → Spells g Any f vs' y → us ≡ us' ++ vs' → ⊥
  first_part_unspelled a f us us' [] {x} t ap1 p none_is z w e = none_is x (subst (λ y. Spells g Any a y x) (sym (e ∙ append-nil us')) z)
  first_part_unspelled a f us us' (v ∷ vs) t ap1 p none_is z w e = not_apart (key tab v) (nexts tab a) (firsts tab f) ap1 (next g tab is.fit z p t v vs e) (first_spelled g tab is.fit w v vs refl)

  pub token_got : {r : Room} (x : g.Symbol) (ts rest : List g.Token) (c : g.Token) → ts ≡ c ∷ rest → g.symbol c ≡ x → IsGot g r (One x) ts c rest
  token_got x ts rest c e h = record { front = c ∷ []; is = e; spelled = s.token c h; ends = λ d l k p. one_token p c d [] refl }

  pub token_wrong : {r : Room} (x : g.Symbol) (ts : List g.Token) → head_in tab (tab.number x ∷ []) ts ≡ false → IsWrong g r (One x) ts ts
  token_wrong x ts h = record { front = []; is = refl; begun = b.nothing; unspelled = λ v p. not_empty_token p refl; ends = not_begun (One x) ts h }

  pub empty_got : {r : Room} (ts : List g.Token) → IsGot g r Empty ts tt ts
  empty_got ts = record { front = []; is = refl; spelled = s.empty; ends = λ c d e p. in_none _ (first_begins g tab is.fit p c [] refl) }

  pub seq_got : {r : Room} (a f : FormOf g) (ts mid rest : List g.Token) {x : Tree g a} {y : Tree g f} → decides tab (Seq a f) ≡ true → IsGot g r a ts x mid → IsGot g r f mid y rest → IsGot g r (Seq a f) ts (x, y) rest
  seq_got {r} a f ts mid rest t p q =
      let w = seq_test g tab a f t in
      record {
        front = p.front ++ q.front;
        is = p.is ∙ ap (λ z. p.front ++ z) q.is ∙ sym (append_assoc p.front q.front rest);
        spelled = s.seq p.spelled q.spelled refl;
        ends = λ c d e z. parts_end r Any a f p.front q.front rest mid _ w.0 w.2 p.spelled p.ends q.is q.ends c d e refl (view_seq z);
      }

  pub seq_first_wrong : {r : Room} (a f : FormOf g) (ts rest : List g.Token) → decides tab (Seq a f) ≡ true → IsWrong g r a ts rest → IsWrong g r (Seq a f) ts rest
  seq_first_wrong a f ts rest t p =
      let w = seq_test g tab a f t in
      record {
        front = p.front;
        is = p.is;
        begun = b.first p.begun;
        unspelled = λ v z. seq_cases v z;
        ends = λ c d e z. first_part_ends Any a f p.front rest _ w.0 w.2 (begins_any p.begun) p.ends c d e (λ x y i. p.unspelled x y) refl (view_seq z);
      }
    where
      go : {us : List g.Token} {v : Tree g (Seq a f)} → Spells g Any (Seq a f) us v → us ≡ p.front → ⊥
      go (s.seq {vs = us'} {ws = vs'} z w h) e = let u = seq_test g tab a f t in first_part_unspelled a f p.front us' vs' u.0 u.2 (begins_any p.begun) p.unspelled z w (sym e ∙ h)

      seq_cases : (v : Tree g (Seq a f)) → Spells g Any (Seq a f) p.front v → ⊥
      seq_cases v z = go z refl

  -- where reading the first went too deep, the opening token begins no second form
  pub seq_first_deep : {r : Room} (a f : FormOf g) (ts rest : List g.Token) → decides tab (Seq a f) ≡ true → IsDeep g r a ts rest → IsDeep g r (Seq a f) ts rest
  seq_first_deep {r} a f ts rest t p =
      let w = seq_test g tab a f t in
      record {
        front = p.front;
        opens = p.opens;
        behind = p.behind;
        is = p.is;
        next = p.next;
        begun = b.first p.begun;
        deeper = b.first p.deeper;
        ends = λ c d e z. first_part_ends r a f p.front rest _ w.0 w.2 (begins_any p.begun) p.ends c d e
            (λ x y i. not_apart (key tab c) (nexts tab a) (firsts tab f) w.2 (next g tab is.fit y p.deeper w.0 c [] (ap (λ l. p.front ++ l ∷ []) (same_head p.opens c p.behind d rest p.next e))) i) refl (view_seq z);
      }
    where
      same_head : (x y : g.Token) (l m n : List g.Token) → n ≡ x ∷ l → n ≡ y ∷ m → x ≡ y
      same_head x y l m n h j = cc

  pub seq_second_wrong : {r : Room} (a f : FormOf g) (ts mid rest : List g.Token) {x : Tree g a} → decides tab (Seq a f) ≡ true → IsGot g r a ts x mid → IsWrong g r f mid rest → IsWrong g r (Seq a f) ts rest
  seq_second_wrong {r} a f ts mid rest t p q =
      let w = seq_test g tab a f t in
      record {
        front = p.front ++ q.front;
        is = p.is ∙ ap (λ z. p.front ++ z) q.is ∙ sym (append_assoc p.front q.front rest);
        begun = b.second p.spelled q.begun refl;
        unspelled = λ v z. go z refl;
        ends = λ c d e z. parts_end r Any a f p.front q.front rest mid _ w.0 w.2 p.spelled p.ends q.is q.ends c d e refl (view_seq z);
      }
    where
      go : {us : List g.Token} {v : Tree g (Seq a f)} → Spells g Any (Seq a f) us v → us ≡ p.front ++ q.front → ⊥
      go (s.seq {vs = us'} {ws = vs'} {y = y} z w h) e =
          let u = seq_test g tab a f t in
          cut_unspelled g tab is.fit a f p.front q.front rest mid us' vs' r Any u.0 u.2 p.spelled p.ends q.is z w (sym e ∙ h) (λ m. q.unspelled y (subst (λ l. Spells g Any f l y) m w))

  pub seq_second_deep : {r : Room} (a f : FormOf g) (ts mid rest : List g.Token) {x : Tree g a} → decides tab (Seq a f) ≡ true → IsGot g r a ts x mid → IsDeep g r f mid rest → IsDeep g r (Seq a f) ts rest
  seq_second_deep {r} a f ts mid rest t p q =
      let w = seq_test g tab a f t in
      record {
        front = p.front ++ q.front;
        opens = q.opens;
        behind = q.behind;
        next = q.next;
        is = p.is ∙ ap (λ z. p.front ++ z) q.is ∙ sym (append_assoc p.front q.front rest);
        begun = b.second p.spelled q.begun refl;
        deeper = b.second (spells_any p.spelled) q.deeper (append_assoc p.front q.front (q.opens ∷ []));
        ends = λ c d e z. parts_end r r a f p.front q.front rest mid _ w.0 w.2 p.spelled p.ends q.is q.ends c d e refl (view_seq z);
      }

  left_ends : (r : Room) (a f : FormOf g) (ts us rest : List g.Token) → decides tab (Choice a f) ≡ true → head_in tab (firsts tab a) ts ≡ true → ts ≡ us ++ rest → Ends g r a us rest → Ends g r (Choice a f) us rest
  left_ends r a f ts us rest t h e ends c d j z =
      let w = choice_test g tab a f t in let m = head_at (firsts tab a) us rest ts c d true e j h in
      elim (no_choice_left z (λ n. not_longer us c [] (sym n))) [ inl y ↦ ends c d j y | inr y ↦ not_apart (key tab m.0) (firsts tab a) (firsts tab f) w.3 m.3 (first_begins g tab is.fit y m.0 m.1 m.2) ]

  right_ends : (r : Room) (a f : FormOf g) (ts us rest : List g.Token) → decides tab (Choice a f) ≡ true → head_in tab (firsts tab a) ts ≡ false → ts ≡ us ++ rest → Ends g r f us rest → Ends g r (Choice a f) us rest
  right_ends r a f ts us rest t h e ends c d j z =
      let m = head_at (firsts tab a) us rest ts c d false e j h in
      elim (no_choice_left z (λ n. not_longer us c [] (sym n))) [ inl y ↦ clash _ (first_begins g tab is.fit y m.0 m.1 m.2) m.3 | inr y ↦ ends c d j y ]

  pub left_got : {r : Room} (a f : FormOf g) (ts rest : List g.Token) {x : Tree g a} → decides tab (Choice a f) ≡ true → head_in tab (firsts tab a) ts ≡ true → IsGot g r a ts x rest → IsGot g r (Choice a f) ts (inl x) rest
  left_got a f ts rest t h p = record { front = p.front; is = p.is; spelled = s.left p.spelled; ends = left_ends Any a f ts p.front rest t h p.is p.ends }

  pub left_deep : {r : Room} (a f : FormOf g) (ts rest : List g.Token) → decides tab (Choice a f) ≡ true → head_in tab (firsts tab a) ts ≡ true → IsDeep g r a ts rest → IsDeep g r (Choice a f) ts rest
  left_deep {r} a f ts rest t h p = record { front = p.front; opens = p.opens; behind = p.behind; is = p.is; next = p.next; begun = b.left p.begun; deeper = b.left p.deeper; ends = left_ends r a f ts p.front rest t h p.is p.ends }

  left_unspelled : (a f : FormOf g) (ts us rest : List g.Token) → decides tab (Choice a f) ≡ true → head_in tab (firsts tab a) ts ≡ true → ts ≡ us ++ rest → Ends g Any a us rest → {y : Tree g f} → Spells g Any f us y → ⊥
  left_unspelled a f ts [] rest t h e ends p = begins_head a ts h (subst (λ z. Ends g Any a [] z) (sym e) ends)
  left_unspelled a f ts (u ∷ us) rest t h e ends p =
      not_apart (key tab u) (firsts tab a) (firsts tab f) (choice_test g tab a f t).3 (subst (λ z. head_in tab (firsts tab a) z ≡ true) e h) (first_spelled g tab is.fit p u us refl)

  pub left_wrong : {r : Room} (a f : FormOf g) (ts rest : List g.Token) → decides tab (Choice a f) ≡ true → head_in tab (firsts tab a) ts ≡ true → IsWrong g r a ts rest → IsWrong g r (Choice a f) ts rest
  left_wrong {r} a f ts rest t h p =
      record { front = p.front; is = p.is; begun = b.left p.begun; unspelled = λ v z. go z refl; ends = left_ends Any a f ts p.front rest t h p.is p.ends }
    where
      go : {us : List g.Token} {v : Tree g (Choice a f)} → Spells g Any (Choice a f) us v → us ≡ p.front → ⊥
      go (s.left {x = x} z) e = p.unspelled x (subst (λ l. Spells g Any a l x) e z)
      go (s.right {y = y} z) e = left_unspelled a f ts p.front rest t h p.is p.ends (subst (λ l. Spells g Any f l y) e z)

  pub right_got : {r : Room} (a f : FormOf g) (ts rest : List g.Token) {y : Tree g f} → decides tab (Choice a f) ≡ true → head_in tab (firsts tab a) ts ≡ false → IsGot g r f ts y rest → IsGot g r (Choice a f) ts (inr y) rest
  right_got a f ts rest t h p = record { front = p.front; is = p.is; spelled = s.right p.spelled; ends = right_ends Any a f ts p.front rest t h p.is p.ends }

  pub right_deep : {r : Room} (a f : FormOf g) (ts rest : List g.Token) → decides tab (Choice a f) ≡ true → head_in tab (firsts tab a) ts ≡ false → IsDeep g r f ts rest → IsDeep g r (Choice a f) ts rest
  right_deep {r} a f ts rest t h p = record { front = p.front; opens = p.opens; behind = p.behind; is = p.is; next = p.next; begun = b.right p.begun; deeper = b.right p.deeper; ends = right_ends r a f ts p.front rest t h p.is p.ends }

  right_unspelled : (a f : FormOf g) (ts us rest : List g.Token) → decides tab (Choice a f) ≡ true → head_in tab (firsts tab a) ts ≡ false → ts ≡ us ++ rest → {x : Tree g a} → Spells g Any a us x → ⊥
  right_unspelled a f ts [] rest t h e p = not_both _ (null_sound g tab is.fit p refl) (choice_test g tab a f t).2
  right_unspelled a f ts (u ∷ us) rest t h e p = clash _ (first_spelled g tab is.fit p u us refl) (subst (λ z. head_in tab (firsts tab a) z ≡ false) e h)

  pub right_wrong : {r : Room} (a f : FormOf g) (ts rest : List g.Token) → decides tab (Choice a f) ≡ true → head_in tab (firsts tab a) ts ≡ false → IsWrong g r f ts rest → IsWrong g r (Choice a f) ts rest
  right_wrong {r} a f ts rest t h p =
      record { front = p.front; is = p.is; begun = b.right p.begun; unspelled = λ v z. go z refl; ends = right_ends Any a f ts p.front rest t h p.is p.ends }
    where
      go : {us : List g.Token} {v : Tree g (Choice a f)} → Spells g Any (Choice a f) us v → us ≡ p.front → ⊥
      go (s.left {x = x} z) e = right_unspelled a f ts p.front rest t h p.is (subst (λ l. Spells g Any a l x) e z)
      go (s.right {y = y} z) e = p.unspelled y (subst (λ l. Spells g Any f l y) e z)

  -- any number
  pub many_none : {r : Room} (a : FormOf g) (ts : List g.Token) → head_in tab (firsts tab a) ts ≡ false → IsGot g r (Many a) ts [] ts
  many_none a ts h = record { front = []; is = refl; spelled = s.none; ends = not_begun (Many a) ts h }

  pub many_got : {r : Room} (a : FormOf g) (ts mid rest : List g.Token) {x : Tree g a} {xs : List (Tree g a)} → decides tab (Many a) ≡ true → IsGot g r a ts x mid → IsGot g r (Many a) mid xs rest → IsGot g r (Many a) ts (x ∷ xs) rest
  many_got {r} a ts mid rest t p q =
      let w = many_test g tab a t in
      record {
        front = p.front ++ q.front;
        is = p.is ∙ ap (λ z. p.front ++ z) q.is ∙ sym (append_assoc p.front q.front rest);
        spelled = s.more p.spelled q.spelled refl;
        ends = λ c d e z. parts_end r Any a (Many a) p.front q.front rest mid _ w.0 w.2 p.spelled p.ends q.is q.ends c d e refl (view_many z);
      }

  pub many_first_deep : {r : Room} (a : FormOf g) (ts rest : List g.Token) → decides tab (Many a) ≡ true → IsDeep g r a ts rest → IsDeep g r (Many a) ts rest
  many_first_deep {r} a ts rest t p =
      let w = many_test g tab a t in
      record {
        front = p.front;
        opens = p.opens;
        behind = p.behind;
        is = p.is;
        next = p.next;
        begun = b.some s.none p.begun refl;
        deeper = b.some s.none p.deeper refl;
        ends = λ c d e z. first_part_ends r a (Many a) p.front rest _ w.0 w.2 (begins_any p.begun) p.ends c d e
            (λ x y i. not_apart (key tab c) (nexts tab a) (firsts tab a) w.2 (next g tab is.fit y p.deeper w.0 c [] (ap (λ l. p.front ++ l ∷ []) (same_head p.opens c p.behind d rest p.next e))) i) refl (view_many z);
      }
    where
      same_head : (x y : g.Token) (l m n : List g.Token) → n ≡ x ∷ l → n ≡ y ∷ m → x ≡ y
      same_head x y l m n h j = cc

  -- an item that stops at a wrong token has begun
  some_front : (a : FormOf g) (ts us rest : List g.Token) → head_in tab (firsts tab a) ts ≡ true → ts ≡ us ++ rest → Ends g Any a us rest → us ≡ [] → ⊥
  some_front a ts [] rest h e ends n = begins_head a ts h (subst (λ z. Ends g Any a [] z) (sym e) ends)
  some_front a ts (u ∷ us) rest h e ends n = cc

  pub many_first_wrong : {r : Room} (a : FormOf g) (ts rest : List g.Token) → decides tab (Many a) ≡ true → head_in tab (firsts tab a) ts ≡ true → IsWrong g r a ts rest → IsWrong g r (Many a) ts rest
  many_first_wrong a ts rest t h p =
      let w = many_test g tab a t in
      record {
        front = p.front;
        is = p.is;
        begun = b.some s.none p.begun refl;
        unspelled = λ v z. go z refl;
        ends = λ c d e z. first_part_ends Any a (Many a) p.front rest _ w.0 w.2 (begins_any p.begun) p.ends c d e (λ x y i. p.unspelled x y) refl (view_many z);
      }
    where
      go : {us : List g.Token} {v : List (Tree g a)} → Spells g Any (Many a) us v → us ≡ p.front → ⊥
      go s.none e = some_front a ts p.front rest h p.is p.ends (sym e)
      go (s.more {vs = us'} {ws = vs'} z w l) e = let u = many_test g tab a t in first_part_unspelled a (Many a) p.front us' vs' u.0 u.2 (begins_any p.begun) p.unspelled z w (sym e ∙ l)

  not_no_item : (a : FormOf g) (us vs : List g.Token) {r : Room} {x : Tree g a} → not (nullable tab a) ≡ true → Spells g r a us x → [] ≡ us ++ vs → ⊥
  not_no_item a [] vs n p e = not_both _ (null_sound g tab is.fit p refl) n
  not_no_item a (u ∷ us) vs n p e = cc

  pub many_rest_wrong : {r : Room} (a : FormOf g) (ts mid rest : List g.Token) {x : Tree g a} → decides tab (Many a) ≡ true → IsGot g r a ts x mid → IsWrong g r (Many a) mid rest → IsWrong g r (Many a) ts rest
  many_rest_wrong {r} a ts mid rest t p q =
      let w = many_test g tab a t in
      record {
        front = p.front ++ q.front;
        is = p.is ∙ ap (λ z. p.front ++ z) q.is ∙ sym (append_assoc p.front q.front rest);
        begun = one_more p.spelled q.begun refl;
        unspelled = λ v z. go z refl;
        ends = λ c d e z. parts_end r Any a (Many a) p.front q.front rest mid _ w.0 w.2 p.spelled p.ends q.is q.ends c d e refl (view_many z);
      }
    where
      go : {us : List g.Token} {v : List (Tree g a)} → Spells g Any (Many a) us v → us ≡ p.front ++ q.front → ⊥
      go s.none e = not_no_item a p.front q.front (many_test g tab a t).1 p.spelled e
      go (s.more {vs = us'} {ws = vs'} {xs = y} z w l) e =
          let u = many_test g tab a t in
          cut_unspelled g tab is.fit a (Many a) p.front q.front rest mid us' vs' r Any u.0 u.2 p.spelled p.ends q.is z w (sym e ∙ l) (λ m. q.unspelled y (subst (λ l. Spells g Any (Many a) l y) m w))

  pub many_rest_deep : {r : Room} (a : FormOf g) (ts mid rest : List g.Token) {x : Tree g a} → decides tab (Many a) ≡ true → IsGot g r a ts x mid → IsDeep g r (Many a) mid rest → IsDeep g r (Many a) ts rest
  many_rest_deep {r} a ts mid rest t p q =
      let w = many_test g tab a t in
      record {
        front = p.front ++ q.front;
        opens = q.opens;
        behind = q.behind;
        next = q.next;
        is = p.is ∙ ap (λ z. p.front ++ z) q.is ∙ sym (append_assoc p.front q.front rest);
        begun = one_more p.spelled q.begun refl;
        deeper = one_more (spells_any p.spelled) q.deeper (append_assoc p.front q.front (q.opens ∷ []));
        ends = λ c d e z. parts_end r r a (Many a) p.front q.front rest mid _ w.0 w.2 p.spelled p.ends q.is q.ends c d e refl (view_many z);
      }

  -- nestings
  nest_ends : (r q : Room) (x : g.Symbol) (a : FormOf g) (c : g.Token) (us rest : List g.Token) → ((o : Room) → Inside r o → o ≡ q) → Ends g q a us rest → Ends g r (Nest x a) (c ∷ us) rest
  nest_ends r q x a c us rest lone ends d l e z =
      let m = nest_inside z c (us ++ d ∷ []) refl in ends d l e (subst (λ o. Begins g o a (us ++ d ∷ [])) (lone m.0 m.1) m.2)

  any_inside : (o : Room) → Inside Any o → o ≡ Any
  any_inside o any_more = refl

  one_inside : (r q o : Room) → Inside r q → Inside r o → o ≡ q
  one_inside r q o any_more any_more = refl
  one_inside r q o one_less one_less = refl

  pub nest_wrong : {r : Room} (x : g.Symbol) (a : FormOf g) (ts : List g.Token) → head_in tab (tab.number x ∷ []) ts ≡ false → IsWrong g r (Nest x a) ts ts
  nest_wrong x a ts h = record { front = []; is = refl; begun = b.nothing; unspelled = λ v p. not_empty_nest p refl; ends = not_begun (Nest x a) ts h }

  pub nest_deep : (x : g.Symbol) (a : FormOf g) (ts rest : List g.Token) (c : g.Token) → ts ≡ c ∷ rest → g.symbol c ≡ x → IsDeep g (Limit zero) (Nest x a) ts ts
  nest_deep x a ts rest c e h =
      record {
        front = [];
        opens = c;
        behind = rest;
        is = refl;
        next = e;
        begun = b.nothing;
        deeper = b.nest c h any_more b.nothing;
        ends = λ d l k z. no_room (nest_inside z d [] refl).1 refl;
      }

  pub nest_got : {r q : Room} (x : g.Symbol) (a : FormOf g) (ts mid rest : List g.Token) (c : g.Token) {y : Tree g a} → ts ≡ c ∷ mid → g.symbol c ≡ x → Inside r q → IsGot g q a mid y rest → IsGot g r (Nest x a) ts (c, y) rest
  nest_got {r} {q} x a ts mid rest c e h i p =
      record { front = c ∷ p.front; is = e ∙ ap (λ z. c ∷ z) p.is; spelled = s.nest c h i p.spelled; ends = nest_ends Any Any x a c p.front rest any_inside p.ends }

  pub nest_in_wrong : {r q : Room} (x : g.Symbol) (a : FormOf g) (ts mid rest : List g.Token) (c : g.Token) → ts ≡ c ∷ mid → g.symbol c ≡ x → Inside r q → IsWrong g q a mid rest → IsWrong g r (Nest x a) ts rest
  nest_in_wrong {r} {q} x a ts mid rest c e h i p =
      record {
        front = c ∷ p.front;
        is = e ∙ ap (λ z. c ∷ z) p.is;
        begun = b.nest c h i p.begun;
        unspelled = λ v z. let m = nest_spelled z c p.front refl in p.unspelled m.0 m.1;
        ends = nest_ends Any Any x a c p.front rest any_inside p.ends;
      }

  pub nest_in_deep : {r q : Room} (x : g.Symbol) (a : FormOf g) (ts mid rest : List g.Token) (c : g.Token) → ts ≡ c ∷ mid → g.symbol c ≡ x → Inside r q → IsDeep g q a mid rest → IsDeep g r (Nest x a) ts rest
  nest_in_deep {r} {q} x a ts mid rest c e h i p =
      record {
        front = c ∷ p.front;
        opens = p.opens;
        behind = p.behind;
        is = e ∙ ap (λ z. c ∷ z) p.is;
        next = p.next;
        begun = b.nest c h i p.begun;
        deeper = b.nest c h any_more p.deeper;
        ends = nest_ends r q x a c p.front rest (λ o j. one_inside r q o i j) p.ends;
      }

  -- named forms
  pub call_got : {r : Room} (n : g.Name) (ts rest : List g.Token) {t : Tree g (g.rule n)} → IsGot g r (g.rule n) ts t rest → IsGot g r (Call n) ts (g.build n t) rest
  call_got n ts rest p = record { front = p.front; is = p.is; spelled = s.call p.spelled refl; ends = λ c d e z. p.ends c d e (call_begun z) }

  pub call_wrong : {r : Room} (n : g.Name) (ts rest : List g.Token) → IsWrong g r (g.rule n) ts rest → IsWrong g r (Call n) ts rest
  call_wrong n ts rest p = record { front = p.front; is = p.is; begun = b.call p.begun; unspelled = λ v z. let m = call_spelled z in p.unspelled m.0 m.1; ends = λ c d e z. p.ends c d e (call_begun z) }

  pub call_deep : {r : Room} (n : g.Name) (ts rest : List g.Token) → IsDeep g r (g.rule n) ts rest → IsDeep g r (Call n) ts rest
  call_deep n ts rest p = record { front = p.front; opens = p.opens; behind = p.behind; is = p.is; next = p.next; begun = b.call p.begun; deeper = b.call p.deeper; ends = λ c d e z. p.ends c d e (call_begun z) }
