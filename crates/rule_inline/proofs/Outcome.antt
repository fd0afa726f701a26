-- What the demands of a part that may fault say: where it faults one of them is false for some nodes, else all are
-- true for all nodes and something holds of what it gives. One statement gives both directions, and goes from the
-- parts to the whole.
use Rattle.std.proofs.Common.{◌≡◌, ℕ, suc, Bool, true, false, not, ◌&&◌, ◌||◌, List, [], ◌∷◌, ◌++◌, length, map, ◌⊎◌, inl, inr, refl, sym, ap, ◌∙◌, append_assoc, arith}
use Rattle.std.specs.Prelude.{if◌then◌else◌}
use Rattle.std.specs.List.{list_all}
use Rattle.std.proofs.lemmas.Bool.{and_parts}
use Rattle.term_core.specs.declared.value.Value.TheVariants as v
use Rattle.term_core.specs.declared.term.Term as t
use Rattle.term_core.specs.declared.term.Term.{Term}
use Rattle.term_core.specs.Nodes.{is_node}
use Rattle.term_core.specs.Values.{truth}
use Rattle.term_core.specs.Meaning.{Cells, value_of}
use Rattle.term_core.specs.Substitution.{lifted}
use Rattle.murphi_typed.specs.Outcome.{Outcome, Got, Fault, given}
use Rattle.rule_inline.specs.Demands.{Demand, demand, one_under, under_test, is_constant_false, one_unless, unless_left, one_binding, binding, negated, path_of, body_of}
use Rattle.rule_inline.proofs.TermLemmas.{value-Known, value-Not, value-And, value-Or, is_true, or_of, lifted_by, append_nothing}

-- a part that faults, or gives something
abbrev pub Either : {A : Type 0} → Type 0 → Type 0 → Outcome A → (A → Type 0) → Type 0
Either good bad (Fault at) P = bad
Either good bad (Got a) P = good × P a

pub either_given : {A B : Type 0} (G H F I : Type 0) (o : Outcome A) (f : A → Outcome B) (P : A → Type 0) (Q : B → Type 0) → Either G F o P → ((a : A) → o ≡ Got a → P a → Either H I (f a) Q) → Either (G × H) (F ⊎ I) (given o f) Q
either_given G H F I (Fault at) f P Q bad next = inl bad
either_given {A} {B} G H F I (Got a) f P Q (good, p) next = go (f a) (next a refl p)
  where
    go : (o : Outcome _) → Either H I o Q → Either (G × H) (F ⊎ I) o Q
    go (Fault at) bad = inr bad
    go (Got b) (good', q) = ((good, good'), q)

pub either_map : {A : Type 0} (G H F I : Type 0) (o : Outcome A) (P Q : A → Type 0) → Either G F o P → (G → H) → (F → I) → ((a : A) → P a → Q a) → Either H I o Q
either_map G H F I (Fault at) P Q bad g f h = f bad
either_map G H F I (Got a) P Q (good, p) g f h = (g good, h a p)

pub constant_false : (N : ℕ) (s : Cells) (fr : List ℕ) (x : Term) → is_constant_false x ≡ true → is_true N s fr x ≡ false
constant_false N s fr (t.Known (v.Truth true)) e = cc
constant_false N s fr (t.Known (v.Truth false)) e = ap truth (value-Known N s fr (v.Truth false))
constant_false N s fr x e = cc

module _ (N : ℕ) (s : Cells) where
  abbrev pub Nodes : List ℕ → Type 0
  Nodes ns = list_all (is_node N) ns ≡ true

  abbrev pub demand_holds : List ℕ → Demand → List ℕ → Bool
  demand_holds fr q bound = truth (value_of N s (fr ++ bound) (body_of q))

  abbrev pub Holds : List ℕ → Demand → Type 0
  Holds fr q = (bound : List ℕ) → length bound ≡ q.binders → Nodes bound → demand_holds fr q bound ≡ true

  abbrev pub Fails : List ℕ → Demand → Type 0
  Fails fr q = (bound : List ℕ) × (length bound ≡ q.binders) × Nodes bound × (demand_holds fr q bound ≡ false)

  abbrev pub AllHold : List ℕ → List Demand → Type 0
  AllHold fr [] = Unit {0}
  AllHold fr (q ∷ qs) = Holds fr q × AllHold fr qs

  abbrev pub SomeFails : List ℕ → List Demand → Type 0
  SomeFails fr [] = ⊥
  SomeFails fr (q ∷ qs) = Fails fr q ⊎ SomeFails fr qs

  -- a part with its demands
  abbrev pub Tells : {A : Type 0} → List ℕ → Outcome A → List Demand → (A → Type 0) → Type 0
  Tells fr o qs P = Either (AllHold fr qs) (SomeFails fr qs) o P

  pub all_joined : (fr : List ℕ) (ps qs : List Demand) → AllHold fr ps → AllHold fr qs → AllHold fr (ps ++ qs)
  all_joined fr [] qs a b = b
  all_joined fr (p ∷ ps) qs (h, a) b = (h, all_joined fr ps qs a b)

  pub fails_first : (fr : List ℕ) (ps qs : List Demand) → SomeFails fr ps → SomeFails fr (ps ++ qs)
  fails_first fr [] qs a = absurd a
  fails_first fr (p ∷ ps) qs (inl a) = inl a
  fails_first fr (p ∷ ps) qs (inr a) = inr (fails_first fr ps qs a)

  pub fails_second : (fr : List ℕ) (ps qs : List Demand) → SomeFails fr qs → SomeFails fr (ps ++ qs)
  fails_second fr [] qs a = a
  fails_second fr (p ∷ ps) qs a = inr (fails_second fr ps qs a)

  pub fails_joined : (fr : List ℕ) (ps qs : List Demand) → SomeFails fr ps ⊎ SomeFails fr qs → SomeFails fr (ps ++ qs)
  fails_joined fr ps qs (inl a) = fails_first fr ps qs a
  fails_joined fr ps qs (inr a) = fails_second fr ps qs a

  -- one part after another
  pub tells_given : {A B : Type 0} (fr : List ℕ) (ps qs : List Demand) (o : Outcome A) (f : A → Outcome B) (P : A → Type 0) (Q : B → Type 0) → Tells fr o ps P → ((a : A) → o ≡ Got a → P a → Tells fr (f a) qs Q) → Tells fr (given o f) (ps ++ qs) Q
  tells_given fr ps qs o f P Q first next =
      either_map _ _ _ _ (given o f) Q Q (either_given _ _ _ _ o f P Q first next) (λ both. let (a, b) = both in all_joined fr ps qs a b) (fails_joined fr ps qs) (λ a q. q)

  -- a part with no demands of its own comes after
  pub tells_then : {A B : Type 0} (fr : List ℕ) (ps : List Demand) (o : Outcome A) (f : A → B) (P : A → Type 0) (Q : B → Type 0) → Tells fr o ps P → ((a : A) → P a → Q (f a)) → Tells fr (given o (λ a. Got (f a))) ps Q
  tells_then fr ps (Fault at) f P Q bad next = bad
  tells_then fr ps (Got a) f P Q (good, p) next = (good, next a p)

  pub tells_map : {A : Type 0} (fr : List ℕ) (ps : List Demand) (o : Outcome A) (P Q : A → Type 0) → Tells fr o ps P → ((a : A) → P a → Q a) → Tells fr o ps Q
  tells_map fr ps o P Q told next = either_map _ _ _ _ o P Q told (λ g. g) (λ f. f) next

  -- the value of a demand, by its parts
  pub body_value : (fr : List ℕ) (q : Demand) → truth (value_of N s fr (body_of q)) ≡ (not (list_all (is_true N s fr) (q.tests ++ negated q.lefts)) || is_true N s fr q.must)
  body_value fr q =
      ap truth (value-Or N s fr (t.Not (path_of q) ∷ q.must ∷ []))
      ∙ or_of (ap truth (value-Not N s fr (path_of q) ∙ ap (λ x. v.Truth (not (truth x))) (value-And N s fr (q.tests ++ negated q.lefts)))) (nothing (is_true N s fr q.must))
    where
      nothing : (b : Bool) → (b || false) ≡ b
      nothing true = refl
      nothing false = refl

  -- a part that demands one thing
  pub one_holds : (fr : List ℕ) (must : Term) → is_true N s fr must ≡ true → AllHold fr (demand must ∷ [])
  one_holds fr must is = (λ bound long ns. holds bound long, tt)
    where
      holds : (bound : List ℕ) → length bound ≡ 0 → demand_holds fr (demand must) bound ≡ true
      holds [] long = ap (λ xs. truth (value_of N s xs (body_of (demand must)))) (append_nothing fr) ∙ body_value fr (demand must) ∙ is
      holds (n ∷ bound) long = absurd (omega (arith, long))

  pub one_fails : (fr : List ℕ) (must : Term) → is_true N s fr must ≡ false → SomeFails fr (demand must ∷ [])
  one_fails fr must is = inl ([], refl, refl, ap (λ xs. truth (value_of N s xs (body_of (demand must)))) (append_nothing fr) ∙ body_value fr (demand must) ∙ is)

  -- a part that is to pass a test
  pub tells_test : {A : Type 0} (fr : List ℕ) (must : Term) (o : Outcome A) (P : A → Type 0) → Either (is_true N s fr must ≡ true) (is_true N s fr must ≡ false) o P → Tells fr o (demand must ∷ []) P
  tells_test fr must o P told = either_map _ _ _ _ o P P told (one_holds fr must) (one_fails fr must) (λ a p. p)

  -- Tests under which a part is reached

  module _ (fr : List ℕ) (test : Term) where
    lifted_test : (bound : List ℕ) (count : ℕ) → length bound ≡ count → is_true N s (fr ++ bound) (lifted (length fr) count test) ≡ is_true N s fr test
    lifted_test bound count long = ap truth (lifted_by N s fr bound count test long)

    under_same : (bound : List ℕ) (q : Demand) → length bound ≡ q.binders → is_true N s fr test ≡ true → demand_holds fr (one_under (length fr) test q) bound ≡ demand_holds fr q bound
    under_same bound q long is =
        body_value (fr ++ bound) (one_under (length fr) test q)
        ∙ ap (λ x. not (x && list_all (is_true N s (fr ++ bound)) (q.tests ++ negated q.lefts)) || is_true N s (fr ++ bound) q.must) (lifted_test bound q.binders long ∙ is)
        ∙ sym (body_value (fr ++ bound) q)

    under_none : (bound : List ℕ) (q : Demand) → length bound ≡ q.binders → is_true N s fr test ≡ false → demand_holds fr (one_under (length fr) test q) bound ≡ true
    under_none bound q long is =
        body_value (fr ++ bound) (one_under (length fr) test q)
        ∙ ap (λ x. not (x && list_all (is_true N s (fr ++ bound)) (q.tests ++ negated q.lefts)) || is_true N s (fr ++ bound) q.must) (lifted_test bound q.binders long ∙ is)

    pub all_under : (qs : List Demand) → is_true N s fr test ≡ true → AllHold fr qs → AllHold fr (under_test (length fr) test qs)
    all_under [] is a = tt
    all_under (q ∷ qs) is (h, a) = (λ bound long ns. under_same bound q long is ∙ h bound long ns, all_under qs is a)

    fails_under : (qs : List Demand) → is_true N s fr test ≡ true → SomeFails fr qs → SomeFails fr (under_test (length fr) test qs)
    fails_under [] is a = absurd a
    fails_under (q ∷ qs) is (inl (bound, long, ns, h)) = inl (bound, long, ns, under_same bound q long is ∙ h)
    fails_under (q ∷ qs) is (inr a) = inr (fails_under qs is a)

    -- a part that is not reached demands nothing
    pub all_beside : (qs : List Demand) → is_true N s fr test ≡ false → AllHold fr (under_test (length fr) test qs)
    all_beside [] is = tt
    all_beside (q ∷ qs) is = (λ bound long ns. under_none bound q long is, all_beside qs is)

    pub tells_under : {A : Type 0} (qs : List Demand) (o : Outcome A) (P : A → Type 0) → is_true N s fr test ≡ true → Tells fr o qs P → Tells fr o (under_test (length fr) test qs) P
    tells_under qs o P is told = either_map _ _ _ _ o P P told (all_under qs is) (fails_under qs is) (λ a p. p)

  -- Returns

  module _ (fr : List ℕ) (left : Term) where
    all_of_parts : (xs ys : List Term) (bound : List ℕ) → list_all (is_true N s bound) (xs ++ ys) ≡ (list_all (is_true N s bound) xs && list_all (is_true N s bound) ys)
    all_of_parts [] ys bound = refl
    all_of_parts (x ∷ xs) ys bound = ap (λ b. is_true N s bound x && b) (all_of_parts xs ys bound) ∙ assoc (is_true N s bound x) _ _
      where
        assoc : (a b c : Bool) → (a && (b && c)) ≡ ((a && b) && c)
        assoc true b c = refl
        assoc false b c = refl

    unless_value : (bound : List ℕ) (q : Demand) (b : Bool) → length bound ≡ q.binders → is_true N s fr left ≡ b → demand_holds fr (one_unless (length fr) left q) bound ≡ (not (list_all (is_true N s (fr ++ bound)) q.tests && (not b && list_all (is_true N s (fr ++ bound)) (negated q.lefts))) || is_true N s (fr ++ bound) q.must)
    unless_value bound q b long is =
        body_value (fr ++ bound) (one_unless (length fr) left q)
        ∙ ap (λ x. not x || is_true N s (fr ++ bound) q.must) (all_of_parts q.tests (negated (lifted (length fr) q.binders left ∷ q.lefts)) (fr ++ bound)
        ∙ ap (λ x. list_all (is_true N s (fr ++ bound)) q.tests && (x && list_all (is_true N s (fr ++ bound)) (negated q.lefts))) (ap truth (value-Not N s (fr ++ bound) (lifted (length fr) q.binders left)) ∙ ap not (ap truth (lifted_by N s fr bound q.binders left long) ∙ is)))

    unless_same : (bound : List ℕ) (q : Demand) → length bound ≡ q.binders → is_true N s fr left ≡ false → demand_holds fr (one_unless (length fr) left q) bound ≡ demand_holds fr q bound
    unless_same bound q long is =
        unless_value bound q false long is
        ∙ ap (λ x. not x || is_true N s (fr ++ bound) q.must) (sym (all_of_parts q.tests (negated q.lefts) (fr ++ bound)))
        ∙ sym (body_value (fr ++ bound) q)

    unless_none : (bound : List ℕ) (q : Demand) → length bound ≡ q.binders → is_true N s fr left ≡ true → demand_holds fr (one_unless (length fr) left q) bound ≡ true
    unless_none bound q long is = unless_value bound q true long is ∙ go (list_all (is_true N s (fr ++ bound)) q.tests)
      where
        go : (b : Bool) → (not (b && false) || is_true N s (fr ++ bound) q.must) ≡ true
        go true = refl
        go false = refl

    all_unless : (qs : List Demand) → is_true N s fr left ≡ false → AllHold fr qs → AllHold fr (map (one_unless (length fr) left) qs)
    all_unless [] is a = tt
    all_unless (q ∷ qs) is (h, a) = (λ bound long ns. unless_same bound q long is ∙ h bound long ns, all_unless qs is a)

    fails_unless : (qs : List Demand) → is_true N s fr left ≡ false → SomeFails fr qs → SomeFails fr (map (one_unless (length fr) left) qs)
    fails_unless [] is a = absurd a
    fails_unless (q ∷ qs) is (inl (bound, long, ns, h)) = inl (bound, long, ns, unless_same bound q long is ∙ h)
    fails_unless (q ∷ qs) is (inr a) = inr (fails_unless qs is a)

    all_after : (qs : List Demand) → is_true N s fr left ≡ true → AllHold fr (map (one_unless (length fr) left) qs)
    all_after [] is = tt
    all_after (q ∷ qs) is = (λ bound long ns. unless_none bound q long is, all_after qs is)

    -- where no `return` was met
    pub tells_unless : {A : Type 0} (qs : List Demand) (o : Outcome A) (P : A → Type 0) → is_true N s fr left ≡ false → Tells fr o qs P → Tells fr o (unless_left (length fr) left qs) P
    tells_unless qs o P is told = go (is_constant_false left)
      where
        go : (b : Bool) → Tells fr o (if b then qs else map (one_unless (length fr) left) qs) P
        go true = told
        go false = either_map _ _ _ _ o P P told (all_unless qs is) (fails_unless qs is) (λ a p. p)

    -- where one was met nothing is demanded
    pub all_left : (qs : List Demand) → is_true N s fr left ≡ true → AllHold fr (unless_left (length fr) left qs)
    all_left qs is = go (is_constant_false left) refl
      where
        go : (b : Bool) → is_constant_false left ≡ b → AllHold fr (if b then qs else map (one_unless (length fr) left) qs)
        go true was = let both : false ≡ true = sym (constant_false N s fr left was) ∙ is in cc
        go false was = all_after qs is

  -- Variables over all nodes

  one_then : (fr : List ℕ) (n : ℕ) (bound : List ℕ) → (fr ++ n ∷ []) ++ bound ≡ fr ++ n ∷ bound
  one_then fr n bound = append_assoc fr (n ∷ []) bound

  holds_bound : (fr : List ℕ) (q : Demand) → ((n : ℕ) → is_node N n ≡ true → Holds (fr ++ n ∷ []) q) → Holds fr (one_binding q)
  holds_bound fr q each [] long ns = absurd (omega (arith, long))
  holds_bound fr q each (n ∷ bound) long ns =
      let (first, rest) = and_parts (is_node N n) (list_all (is_node N) bound) ns in
      ap (λ xs. truth (value_of N s xs (body_of q))) (sym (one_then fr n bound)) ∙ each n first bound (omega (arith, long)) rest

  pub all_binding : (fr : List ℕ) (qs : List Demand) → ((n : ℕ) → is_node N n ≡ true → AllHold (fr ++ n ∷ []) qs) → AllHold fr (binding qs)
  all_binding fr [] each = tt
  all_binding fr (q ∷ qs) each = (holds_bound fr q (λ n is. (each n is).0), all_binding fr qs (λ n is. (each n is).1))

  pub fails_binding : (fr : List ℕ) (qs : List Demand) (n : ℕ) → is_node N n ≡ true → SomeFails (fr ++ n ∷ []) qs → SomeFails fr (binding qs)
  fails_binding fr [] n is a = absurd a
  fails_binding fr (q ∷ qs) n is (inl (bound, long, ns, h)) = inl (n ∷ bound, ap suc long, ap (λ b. b && list_all (is_node N) bound) is ∙ ns, ap (λ xs. truth (value_of N s xs (body_of q))) (sym (one_then fr n bound)) ∙ h)
  fails_binding fr (q ∷ qs) n is (inr a) = inr (fails_binding fr qs n is a)
