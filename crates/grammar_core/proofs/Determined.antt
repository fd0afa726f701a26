-- Where one token decides: what carries on a whole form is in its table, and tokens spell one value.
use Rattle.std.specs.Prelude.{not}
use Rattle.std.proofs.Common.{◌≡◌, true, List, [], ◌∷◌, ◌++◌, inl, inr, refl, sym, ap, ◌∙◌, subst, append_assoc}
use Rattle.grammar_core.specs.Forms.{Seq, Choice, Many, Tree, Grammar, FormOf}
use Rattle.grammar_core.specs.Spelling.{Room, Spells, Begins}
use Rattle.grammar_core.specs.Test.{is_in, apart, nullable, firsts, nexts, decides, fits, Tables, key}
use Rattle.grammar_core.specs.Spelling.{Spells as s}
use Rattle.grammar_core.specs.Spelling.{Begins as b}
use Rattle.grammar_core.proofs.Sets.{both, not_both, in_left, in_right, in_given, in_within, not_apart}
use Rattle.grammar_core.proofs.Sides.{Side, same, longer, shorter, Heads, Sub, not_longer, wider, flip, side_at, under, glue, agree, carried_first, carried}
use Rattle.grammar_core.proofs.Sound.{fit_of, null_sound, first_spelled, first_begins}

-- the parts of the test
pub seq_test : (g : Grammar) (tab : Tables g) (a c : FormOf g) → decides tab (Seq a c) ≡ true → (decides tab a ≡ true) × (decides tab c ≡ true) × (apart (nexts tab a) (firsts tab c) ≡ true)
seq_test g tab a c h = let p = both (decides tab a) _ h in let q = both (decides tab c) _ p.1 in (p.0, q.0, q.1)

pub choice_test : (g : Grammar) (tab : Tables g) (a c : FormOf g) → decides tab (Choice a c) ≡ true → (decides tab a ≡ true) × (decides tab c ≡ true) × (not (nullable tab a) ≡ true) × (apart (firsts tab a) (firsts tab c) ≡ true)
choice_test g tab a c h = let p = both (decides tab a) _ h in let q = both (decides tab c) _ p.1 in let w = both (not (nullable tab a)) _ q.1 in (p.0, q.0, w.0, w.1)

pub many_test : (g : Grammar) (tab : Tables g) (a : FormOf g) → decides tab (Many a) ≡ true → (decides tab a ≡ true) × (not (nullable tab a) ≡ true) × (apart (nexts tab a) (firsts tab a) ≡ true)
many_test g tab a h = let p = both (decides tab a) _ h in let w = both (not (nullable tab a)) _ p.1 in (p.0, w.0, w.1)

pair_is : {A B : Type 0} {x x' : A} {y y' : B} → x ≡ x' → y ≡ y' → ◌≡◌ {A = A × B} (x, y) (x', y')
pair_is h k = cc

cons_is : {A : Type 0} {x x' : A} {xs xs' : List A} → x ≡ x' → xs ≡ xs' → x ∷ xs ≡ x' ∷ xs'
cons_is h k = cc

module _ (g : Grammar) (tab : Tables g) (fit : (n : g.Name) → fits tab n ≡ true) where
  heads : {r : Room} {f : FormOf g} {us : List g.Token} {t : Tree g f} → Spells g r f us t → Heads (key tab) (firsts tab f) us
  heads p x xs e = first_spelled g tab fit p x xs e

  -- where a first part is carried on, so is a sequence whose rest is empty
  sub_seq : {r : Room} (a : FormOf g) {c : FormOf g} {us : List g.Token} {t : Tree g c} → Spells g r c us t → us ≡ [] → Sub (nexts tab a) (nexts tab (Seq a c))
  sub_seq a {c = c} p e k i = in_right k (nexts tab c) _ (in_given k (nullable tab c) _ (null_sound g tab fit p e) i)

  sub_many : (a : FormOf g) → Sub (nexts tab a) (nexts tab (Many a))
  sub_many a k i = in_right k (firsts tab a) _ i

  -- one of two forms, read both ways
  cross : {r q : Room} {a c : FormOf g} (us vs : List g.Token) {x : Tree g a} {y : Tree g c} → Spells g r a us x → Spells g q c vs y → not (nullable tab a) ≡ true → apart (firsts tab a) (firsts tab c) ≡ true → (l m : List g.Token) → us ++ l ≡ vs ++ m → Side (key tab) (nexts tab (Choice a c)) us vs
  cross [] vs p q ne ap1 l m e = absurd (not_both _ (null_sound g tab fit p refl) ne)
  cross {a = a} {c = c} (u ∷ us) [] p q ne ap1 l m e =
      shorter u us refl (in_right (key tab u) (nexts tab a) _ (in_right (key tab u) (nexts tab c) _ (in_given (key tab u) (nullable tab c) _ (null_sound g tab fit q refl) (heads p u us refl))))
  cross {a = a} {c = c} (u ∷ us) (v ∷ vs) p q ne ap1 l m e =
      absurd (not_apart (key tab u) (firsts tab a) (firsts tab c) ap1 (heads p u us refl) (subst (λ z. is_in (key tab z) (firsts tab c) ≡ true) (cc) (heads q v vs refl)))

  -- an item where none was read
  none_some : {r : Room} {a : FormOf g} (vs ws : List g.Token) {x : Tree g a} → Spells g r a vs x → not (nullable tab a) ≡ true → Side (key tab) (nexts tab (Many a)) [] (vs ++ ws)
  none_some [] ws p ne = absurd (not_both _ (null_sound g tab fit p refl) ne)
  none_some (v ∷ vs) ws p ne = longer v (vs ++ ws) refl (in_left _ _ _ (heads p v vs refl))

  not_cross : {r q : Room} {a c : FormOf g} (us vs : List g.Token) {x : Tree g a} {y : Tree g c} → Spells g r a us x → Spells g q c vs y → not (nullable tab a) ≡ true → apart (firsts tab a) (firsts tab c) ≡ true → us ≡ vs → ⊥
  not_cross [] vs p q ne ap1 e = not_both _ (null_sound g tab fit p refl) ne
  not_cross {a = a} {c = c} (u ∷ us) vs p q ne ap1 e = not_apart (key tab u) (firsts tab a) (firsts tab c) ap1 (heads p u us refl) (heads q u us (sym e))

  not_none : {r : Room} {a : FormOf g} (vs ws : List g.Token) {x : Tree g a} → Spells g r a vs x → not (nullable tab a) ≡ true → [] ≡ vs ++ ws → ⊥
  not_none [] ws p ne e = not_both _ (null_sound g tab fit p refl) ne
  not_none (v ∷ vs) ws p ne e = absurd (cc)

  -- one of two forms is whole, and the other is begun
  left_right : {r : Room} {a : FormOf g} (f : FormOf g) (us : List g.Token) {x : Tree g a} → Spells g r a us x → not (nullable tab a) ≡ true → apart (firsts tab a) (firsts tab f) ≡ true → (c : g.Token) (d all : List g.Token) → all ≡ us ++ c ∷ d → Heads (key tab) (firsts tab f) all → ⊥
  left_right f [] p ne ap1 c d all e h = not_both _ (null_sound g tab fit p refl) ne
  left_right {a = a} f (u ∷ us) p ne ap1 c d all e h = not_apart (key tab u) (firsts tab a) (firsts tab f) ap1 (heads p u us refl) (h u _ e)

  right_left : {r : Room} (a : FormOf g) {f : FormOf g} (us : List g.Token) {x : Tree g f} → Spells g r f us x → apart (firsts tab a) (firsts tab f) ≡ true → (c : g.Token) (d all : List g.Token) → all ≡ us ++ c ∷ d → Heads (key tab) (firsts tab a) all → is_in (key tab c) (nexts tab (Choice a f)) ≡ true
  right_left a {f = f} [] p ap1 c d all e h = in_right _ (nexts tab a) _ (in_right _ (nexts tab f) _ (in_given _ (nullable tab f) _ (null_sound g tab fit p refl) (h c d e)))
  right_left a {f = f} (u ∷ us) p ap1 c d all e h = absurd (not_apart (key tab u) (firsts tab a) (firsts tab f) ap1 (h u _ e) (heads p u us refl))

  -- two readings of fronts of one list
  pub side : {r q : Room} {f : FormOf g} {us vs : List g.Token} {t t' : Tree g f} → Spells g r f us t → Spells g q f vs t' → decides tab f ≡ true → (l m : List g.Token) → us ++ l ≡ vs ++ m → Side (key tab) (nexts tab f) us vs
  side (s.token x h) (s.token y k) d l m e = same (cc)
  side s.empty s.empty d l m e = same refl
  side (s.seq {a = a} {b = c} {vs = us1} {ws = us2} p1 p2 h) (s.seq {vs = vs1} {ws = vs2} q1 q2 k) d l m e =
      let w = seq_test g tab a c d in
      let e' : (us1 ++ us2) ++ l ≡ (vs1 ++ vs2) ++ m = ap (λ z. z ++ l) (sym h) ∙ e ∙ ap (λ z. z ++ m) k in
      side_at h k (glue (key tab) (nexts tab a) (firsts tab c) (nexts tab (Seq a c)) us1 us2 vs1 vs2 l m e' w.2 (heads p2) (heads q2) (sub_seq a p2) (sub_seq a q2)
      (side p1 q1 w.0 (us2 ++ l) (vs2 ++ m) (sym (append_assoc us1 us2 l) ∙ e' ∙ append_assoc vs1 vs2 m))
      (λ e2. wider (λ k i. in_left k _ _ i) (side p2 q2 w.1 l m e2)))
  side (s.left {a = a} {b = c} p) (s.left q) d l m e = wider (λ k i. in_left k _ _ i) (side p q (choice_test g tab a c d).0 l m e)
  side (s.left {a = a} {b = c} p) (s.right q) d l m e = let w = choice_test g tab a c d in cross _ _ p q w.2 w.3 l m e
  side (s.right {a = a} {b = c} p) (s.left q) d l m e = let w = choice_test g tab a c d in flip (cross _ _ q p w.2 w.3 m l (sym e))
  side (s.right {a = a} {b = c} p) (s.right q) d l m e = wider (λ k i. in_right k (nexts tab a) _ (in_left k _ _ i)) (side p q (choice_test g tab a c d).1 l m e)
  side s.none s.none d l m e = same refl
  side (s.none {a = a}) (s.more q1 q2 k) d l m e = side_at refl k (none_some _ _ q1 (many_test g tab a d).1)
  side (s.more {a = a} p1 p2 h) s.none d l m e = flip (side_at refl h (none_some _ _ p1 (many_test g tab a d).1))
  side (s.more {a = a} {vs = us1} {ws = us2} p1 p2 h) (s.more {vs = vs1} {ws = vs2} q1 q2 k) d l m e =
      let w = many_test g tab a d in
      let e' : (us1 ++ us2) ++ l ≡ (vs1 ++ vs2) ++ m = ap (λ z. z ++ l) (sym h) ∙ e ∙ ap (λ z. z ++ m) k in
      side_at h k (glue (key tab) (nexts tab a) (firsts tab a) (nexts tab (Many a)) us1 us2 vs1 vs2 l m e' w.2 (heads p2) (heads q2) (λ z. sub_many a) (λ z. sub_many a)
      (side p1 q1 w.0 (us2 ++ l) (vs2 ++ m) (sym (append_assoc us1 us2 l) ∙ e' ∙ append_assoc vs1 vs2 m))
      (λ e2. side p2 q2 d l m e2))
  side (s.nest x h i p) (s.nest y k j q) d l m e = under x y (cc) (side p q d l m (cc))
  side (s.call {n = n} p h) (s.call q k) d l m e = let w = fit_of g tab n (fit n) in wider (λ k i. in_within k _ _ w.next i) (side p q w.decided l m e)

  -- tokens spell one value
  pub unique : {r q : Room} {f : FormOf g} {us vs : List g.Token} {t t' : Tree g f} → Spells g r f us t → Spells g q f vs t' → decides tab f ≡ true → us ≡ vs → t ≡ t'
  unique (s.token x h) (s.token y k) d e = cc
  unique s.empty s.empty d e = refl
  unique (s.seq {a = a} {b = c} {vs = us1} {ws = us2} p1 p2 h) (s.seq {vs = vs1} {ws = vs2} q1 q2 k) d e =
      let w = seq_test g tab a c d in
      let e' : us1 ++ us2 ≡ vs1 ++ vs2 = sym h ∙ e ∙ k in
      let z = agree (key tab) (nexts tab a) (firsts tab c) us1 us2 vs1 vs2 e' w.2 (heads p2) (heads q2) (side p1 q1 w.0 us2 vs2 e') in
      pair_is (unique p1 q1 w.0 z.0) (unique p2 q2 w.1 z.1)
  unique (s.left {a = a} {b = c} p) (s.left q) d e = ap inl (unique p q (choice_test g tab a c d).0 e)
  unique (s.left {a = a} {b = c} p) (s.right q) d e = let w = choice_test g tab a c d in absurd (not_cross _ _ p q w.2 w.3 e)
  unique (s.right {a = a} {b = c} p) (s.left q) d e = let w = choice_test g tab a c d in absurd (not_cross _ _ q p w.2 w.3 (sym e))
  unique (s.right {a = a} {b = c} p) (s.right q) d e = ap inr (unique p q (choice_test g tab a c d).1 e)
  unique s.none s.none d e = refl
  unique (s.none {a = a}) (s.more q1 q2 k) d e = absurd (not_none _ _ q1 (many_test g tab a d).1 (e ∙ k))
  unique (s.more {a = a} p1 p2 h) s.none d e = absurd (not_none _ _ p1 (many_test g tab a d).1 (sym e ∙ h))
  unique (s.more {a = a} {vs = us1} {ws = us2} p1 p2 h) (s.more {vs = vs1} {ws = vs2} q1 q2 k) d e =
      let w = many_test g tab a d in
      let e' : us1 ++ us2 ≡ vs1 ++ vs2 = sym h ∙ e ∙ k in
      let z = agree (key tab) (nexts tab a) (firsts tab a) us1 us2 vs1 vs2 e' w.2 (heads p2) (heads q2) (side p1 q1 w.0 us2 vs2 e') in
      cons_is (unique p1 q1 w.0 z.0) (unique p2 q2 d z.1)
  unique (s.nest x h i p) (s.nest y k j q) d e = pair_is (cc) (unique p q d (cc))
  unique (s.call {n = n} p h) (s.call q k) d e = h ∙ ap (g.build n) (unique p q (fit_of g tab n (fit n)).decided e) ∙ sym k

  -- what carries on a whole form is in its table
  pub next : {r q : Room} {f : FormOf g} {us all : List g.Token} {t : Tree g f} → Spells g r f us t → Begins g q f all → decides tab f ≡ true → (c : g.Token) (d : List g.Token) → all ≡ us ++ c ∷ d → is_in (key tab c) (nexts tab f) ≡ true
  next p b.nothing t c d e = absurd (not_longer _ c d e)
  next (s.token x h) (b.token y k) t c d e = absurd (cc)
  next (s.seq {a = a} {b = f} {vs = us1} {ws = us2} p1 p2 h) (b.first q) t c d e =
      let w = seq_test g tab a f t in
      carried_first (key tab) (nexts tab a) (firsts tab f) (nexts tab (Seq a f)) us1 us2 _ c d (e ∙ ap (λ z. z ++ c ∷ d) h) w.2 (heads p2) (sub_seq a p2) (λ x xs k. next p1 q w.0 x xs k)
  next (s.seq {a = a} {b = f} {vs = us1} {ws = us2} p1 p2 h) (b.second {vs = vs1} {ws = vs2} q1 q2 k) t c d e =
      let w = seq_test g tab a f t in
      let e' : vs1 ++ vs2 ≡ (us1 ++ us2) ++ c ∷ d = sym k ∙ e ∙ ap (λ z. z ++ c ∷ d) h in
      carried (key tab) (nexts tab a) (firsts tab f) (nexts tab (Seq a f)) us1 us2 vs1 vs2 c d e' w.2 (heads p2) (first_begins g tab fit q2) (sub_seq a p2)
      (side p1 q1 w.0 (us2 ++ c ∷ d) vs2 (sym (append_assoc us1 us2 (c ∷ d)) ∙ sym e'))
      (λ e2. in_left _ _ _ (next p2 q2 w.1 c d e2))
  next (s.left {a = a} {b = f} p) (b.left q) t c d e = in_left _ _ _ (next p q (choice_test g tab a f t).0 c d e)
  next (s.left {a = a} {b = f} p) (b.right q) t c d e = let w = choice_test g tab a f t in absurd (left_right f _ p w.2 w.3 c d _ e (first_begins g tab fit q))
  next (s.right {a = a} {b = f} p) (b.left q) t c d e = let w = choice_test g tab a f t in right_left a _ p w.3 c d _ e (first_begins g tab fit q)
  next (s.right {a = a} {b = f} p) (b.right q) t c d e = in_right _ (nexts tab a) _ (in_left _ _ _ (next p q (choice_test g tab a f t).1 c d e))
  next (s.none {a = a}) (b.some q1 q2 k) t c d e = in_left _ _ _ (first_begins g tab fit (b.some q1 q2 k) c d e)
  next (s.more {a = a} {vs = us1} {ws = us2} p1 p2 h) (b.some s.none q k) t c d e =
      let w = many_test g tab a t in
      carried_first (key tab) (nexts tab a) (firsts tab a) (nexts tab (Many a)) us1 us2 _ c d (sym k ∙ e ∙ ap (λ z. z ++ c ∷ d) h) w.2 (heads p2) (λ z. sub_many a) (λ x xs k. next p1 q w.0 x xs k)
  next (s.more {a = a} {vs = us1} {ws = us2} p1 p2 h) (b.some {ws = vs3} (s.more {vs = vs1} {ws = vs2} q1 q2 k') q3 k) t c d e =
      let w = many_test g tab a t in
      let q' : Begins g _ (Many a) (vs2 ++ vs3) = b.some q2 q3 refl in
      let e' : vs1 ++ (vs2 ++ vs3) ≡ (us1 ++ us2) ++ c ∷ d = sym (append_assoc vs1 vs2 vs3) ∙ ap (λ z. z ++ vs3) (sym k') ∙ sym k ∙ e ∙ ap (λ z. z ++ c ∷ d) h in
      carried (key tab) (nexts tab a) (firsts tab a) (nexts tab (Many a)) us1 us2 vs1 (vs2 ++ vs3) c d e' w.2 (heads p2) (first_begins g tab fit q') (λ z. sub_many a)
      (side p1 q1 w.0 (us2 ++ c ∷ d) (vs2 ++ vs3) (sym (append_assoc us1 us2 (c ∷ d)) ∙ sym e'))
      (λ e2. next p2 q' t c d e2)
  next (s.nest x h i p) (b.nest y k j q) t c d e = next p q t c d (cc)
  next (s.call {n = n} p h) (b.call q) t c d e = let w = fit_of g tab n (fit n) in in_within _ _ _ w.next (next p q w.decided c d e)
