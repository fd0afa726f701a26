-- Quantifiers, and parts that follow parts.
use Rattle.std.proofs.Common.{◌≡◌, ℕ, zero, suc, ◌+◌, ◌<◌, ◌≤◌, Bool, true, false, ◌&&◌, ◌||◌, List, [], ◌∷◌, ◌++◌, map, refl, sym, ap, ◌∙◌, subst, arith}
use Rattle.std.specs.Prelude.{nat_le, nat_eq, if◌then◌else◌}
use Rattle.std.specs.List.{list_all, list_any}
use Rattle.std.proofs.lemmas.Bool.{and_parts}
use Rattle.term_core.specs.declared.value.Value.{Value}
use Rattle.term_core.specs.declared.value.Value.TheVariants as v
use Rattle.term_core.specs.Nodes.{is_node, nodes, nodes_from}
use Rattle.term_core.specs.Values.{truth}
use Rattle.term_core.specs.Meaning.{Cells, value_of, holds_at}
use Rattle.murphi_typed.specs.Outcome.{Outcome, Got, Fault, given}
use Rattle.murphi_typed.specs.Expressions.{over_all}
use Rattle.rule_inline.specs.Demands.{Demand, binding}
use Rattle.rule_inline.specs.Parts.{Valued, terms_of, demands_of}
use Rattle.rule_inline.proofs.TermLemmas.{is_true, and_of}
use Rattle.rule_inline.proofs.Outcome.{Either, either_map, AllHold, SomeFails, Tells, all_joined, fails_first, fails_second, tells_given, tells_then, all_binding, fails_binding}
use Rattle.rule_inline.proofs.TypeLemmas.{EachValue}

pub given_twice : {A B C : Type 0} (o : Outcome A) (f : A → Outcome B) (g : B → Outcome C) → given (given o f) g ≡ given o (λ a. given (f a) g)
given_twice (Got a) f g = refl
given_twice (Fault at) f g = refl

-- demands that all hold may stand before or after
pub tells_before : (N : ℕ) (s : Cells) {A : Type 0} (fr : List ℕ) (ps qs : List Demand) (o : Outcome A) (P : A → Type 0) → AllHold N s fr ps → Tells N s fr o qs P → Tells N s fr o (ps ++ qs) P
tells_before N s fr ps qs o P all told = either_map _ _ _ _ o P P told (all_joined N s fr ps qs all) (fails_second N s fr ps qs) (λ a p. p)

pub tells_after : (N : ℕ) (s : Cells) {A : Type 0} (fr : List ℕ) (ps qs : List Demand) (o : Outcome A) (P : A → Type 0) → AllHold N s fr qs → Tells N s fr o ps P → Tells N s fr o (ps ++ qs) P
tells_after N s fr ps qs o P all told = either_map _ _ _ _ o P P told (λ a. all_joined N s fr ps qs a all) (fails_first N s fr ps qs) (λ a p. p)

abbrev pub combined : Bool → Bool → Bool → Bool
combined all a b = if all then a && b else a || b

pub node_within : (N n first count : ℕ) → 1 ≤ first → first + count ≤ suc N → first ≤ n → n < first + count → is_node N n ≡ true
node_within N n first count low high a b =
    let above : nat_le 1 n ≡ true = grind (arith, low, a) in
    let below : nat_le n N ≡ true = grind (arith, high, b) in
    and_of above below

module _ (N : ℕ) (s : Cells) (fr : List ℕ) (all : Bool) where
  holds_none : (test : ℕ → Bool) → all ≡ holds_at all test []
  holds_none test = go all
    where
      go : (b : Bool) → b ≡ holds_at b test []
      go true = refl
      go false = refl

  holds_more : (test : ℕ → Bool) (n : ℕ) (ns : List ℕ) → combined all (test n) (holds_at all test ns) ≡ holds_at all test (n ∷ ns)
  holds_more test n ns = go all
    where
      go : (b : Bool) → combined b (test n) (holds_at b test ns) ≡ holds_at b test (n ∷ ns)
      go true = refl
      go false = refl

  module _ (instance : Value → Outcome Value) (test : ℕ → Bool) (qs : List Demand) (each : (n : ℕ) → is_node N n ≡ true → Tells N s (fr ++ n ∷ []) (instance (v.Node n)) qs (λ x. truth x ≡ test n)) where
    abbrev Good : ℕ → ℕ → Type 0
    Good first count = (n : ℕ) → first ≤ n → n < first + count → AllHold N s (fr ++ n ∷ []) qs

    abbrev Bad : Type 0
    Bad = (n : ℕ) × (is_node N n ≡ true) × SomeFails N s (fr ++ n ∷ []) qs

    nodes_go : (first count : ℕ) → 1 ≤ first → first + count ≤ suc N → Either (Good first count) Bad (over_all all instance (map v.Node (nodes_from first count))) (λ b. b ≡ holds_at all test (nodes_from first count))
    nodes_go first zero low high = (λ n a b. absurd (omega (arith, a, b)), holds_none test)
    nodes_go first (suc count) low high = go (instance (v.Node first)) (each first here) (over_all all instance (map v.Node (nodes_from (suc first) count))) (nodes_go (suc first) count (omega (arith, low)) (omega (arith, high)))
      where
        here : is_node N first ≡ true
        here = node_within N first first (suc count) low high (omega arith) (omega arith)

        good : AllHold N s (fr ++ first ∷ []) qs → Good (suc first) count → Good first (suc count)
        good a b n low' high' = pick (nat_eq n first) refl
          where
            pick : (c : Bool) → nat_eq n first ≡ c → AllHold N s (fr ++ n ∷ []) qs
            pick true was = let e : first ≡ n = grind (arith, was) in subst (λ m. AllHold N s (fr ++ m ∷ []) qs) e a
            pick false was = b n (grind (arith, was, low')) (omega (arith, high'))

        go : (o : Outcome Value) → Tells N s (fr ++ first ∷ []) o qs (λ x. truth x ≡ test first) → (p : Outcome Bool) → Either (Good (suc first) count) Bad p (λ b. b ≡ holds_at all test (nodes_from (suc first) count)) → Either (Good first (suc count)) Bad (given o (λ x. given p (λ rest. Got (if all then truth x && rest else truth x || rest)))) (λ b. b ≡ holds_at all test (nodes_from first (suc count)))
        go (Fault at) bad p told = (first, here, bad)
        go (Got x) (a, e) (Fault at) bad = bad
        go (Got x) (a, e) (Got rest) (b, f) = (good a b, ap (λ y. combined all y rest) e ∙ ap (combined all (test first)) f ∙ holds_more test first (nodes_from (suc first) count))

    -- a quantifier over nodes faults where an instance does
    pub tells_nodes : Tells N s fr (over_all all instance (map v.Node (nodes N))) (binding qs) (λ b. b ≡ holds_at all test (nodes N))
    tells_nodes =
        either_map _ _ _ _ (over_all all instance (map v.Node (nodes N))) _ _ (nodes_go 1 N (omega arith) (omega arith))
        (λ good. all_binding N s fr qs (λ n is. (let (a, b) = and_parts (nat_le 1 n) (nat_le n N) is in good n (grind (arith, a)) (grind (arith, b)))))
        (λ bad. (let (n, is, fails) = bad in fails_binding N s fr qs n is fails))
        (λ b e. e)

  -- whether the terms of instances are all true, or one of them
  abbrev pub quantified : List Valued → Bool
  quantified es = if all then list_all (is_true N s fr) (terms_of es) else list_any (is_true N s fr) (terms_of es)

  quantified_none : all ≡ quantified []
  quantified_none = go all
    where
      go : (b : Bool) → b ≡ (if b then true else false)
      go true = refl
      go false = refl

  quantified_more : (e : Valued) (es : List Valued) → combined all (is_true N s fr e.term) (quantified es) ≡ quantified (e ∷ es)
  quantified_more e es = go all
    where
      go : (b : Bool) → combined b (is_true N s fr e.term) (if b then list_all (is_true N s fr) (terms_of es) else list_any (is_true N s fr) (terms_of es)) ≡ (if b then list_all (is_true N s fr) (terms_of (e ∷ es)) else list_any (is_true N s fr) (terms_of (e ∷ es)))
      go true = refl
      go false = refl

  -- a quantifier over values that are listed
  pub tells_values : (instance : Value → Outcome Value) (f : Value → Valued) (xs : List Value) → EachValue (λ x. Tells N s fr (instance x) ((f x).demands) (λ y. value_of N s fr (f x).term ≡ y)) xs → Tells N s fr (over_all all instance xs) (demands_of (map f xs)) (λ b. b ≡ quantified (map f xs))
  tells_values instance f [] each = (tt, quantified_none)
  tells_values instance f (x ∷ xs) (first, rest) =
      tells_given N s fr ((f x).demands) (demands_of (map f xs)) (instance x) _ (λ y. value_of N s fr (f x).term ≡ y) (λ b. b ≡ quantified (map f (x ∷ xs))) first
      (λ y was is. tells_then N s fr (demands_of (map f xs)) (over_all all instance xs) (λ b. if all then truth y && b else truth y || b) (λ b. b ≡ quantified (map f xs)) (λ b. b ≡ quantified (map f (x ∷ xs)))
      (tells_values instance f xs rest) (λ b e. ap (λ z. combined all (truth z) b) (sym is) ∙ ap (combined all (is_true N s fr (f x).term)) e ∙ quantified_more (f x) (map f xs)))
