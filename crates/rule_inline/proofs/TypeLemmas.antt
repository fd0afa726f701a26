-- Types of parts, the values of a type in their list, and what an index and a range ask.
use Rattle.std.proofs.Common.{◌≡◌, ℕ, zero, suc, ◌+◌, ◌<◌, ◌≤◌, Bool, true, false, not, ◌&&◌, List, [], ◌∷◌, map, Option, None, Some, inl, inr, refl, sym, ap, ◌∙◌, subst, arith}
use Rattle.std.specs.Prelude.{ℤ, pos, negsuc, ◌+ℤ◌, ◌-ℤ◌, int_lt, int_le, nat_eq, nat_lt, if◌then◌else◌}
use Rattle.std.specs.List.{list_all}
use Rattle.std.proofs.lemmas.Int.{ints}
use Rattle.std.proofs.lemmas.Bool.{and_parts}
use Rattle.term_core.specs.declared.value.Value.{Value}
use Rattle.term_core.specs.declared.value.Value.TheVariants as v
use Rattle.term_core.specs.declared.term.Term as t
use Rattle.term_core.specs.declared.term.Term.{Term}
use Rattle.term_core.specs.Nodes.{is_node, nodes_from}
use Rattle.term_core.specs.Values.{truth, number, same_value, same_number, is_number}
use Rattle.term_core.specs.Meaning.{Cells, value_of}
use Rattle.term_core.specs.Variables.{is_no_node}
use Rattle.murphi_typed.specs.declared.types.Simple.{Simple}
use Rattle.murphi_typed.specs.declared.types.Simple.TheVariants as simple
use Rattle.murphi_typed.specs.Values.{is_value, numbers_from, numbers_within, members, values}
use Rattle.murphi_typed.specs.Prefix.{is_over_nodes}
use Rattle.murphi_typed.specs.WellTyped.{numbers, widened, same_simple, is_of, only_if}
use Rattle.rule_inline.specs.Tables.{Index}
use Rattle.rule_inline.specs.Parts.{fixed_values, undefined, is_defined, at_most, bounds, index_fits, index_over}
use Rattle.rule_inline.proofs.ValueLemmas.{absurd_false, nats_one, nat_itself}
use Rattle.rule_inline.proofs.TermLemmas.{value-Known, value-Not, value-And, value-Same, value-Less, is_true, and_of}
use Rattle.rule_inline.proofs.PlaceLemmas.{Has, IndexIs}

pub not_some : {A X : Type 0} {a : A} → None ≡ Some a → X
not_some e = cc

pub some_one : {A : Type 0} {a b : A} → Some a ≡ Some b → a ≡ b
some_one e = cc

pub only_parts : {A : Type 0} (b : Bool) (o : Option A) (a : A) → only_if b o ≡ Some a → (b ≡ true) × (o ≡ Some a)
only_parts true o a e = (refl, e)
only_parts false o a e = not_some e

integers_one : (a b : ℤ) → same_number a b ≡ true → a ≡ b
integers_one (pos a) (pos b) e = ap pos (nats_one a b e)
integers_one (pos a) (negsuc b) e = cc
integers_one (negsuc a) (pos b) e = cc
integers_one (negsuc a) (negsuc b) e = ap negsuc (nats_one a b e)

pub simples_one : (a b : Simple) → same_simple a b ≡ true → a ≡ b
simples_one simple.Truth simple.Truth e = refl
simples_one (simple.Range l h) (simple.Range m k) e =
    let (first, second) = and_parts (same_number l m) (same_number h k) e in
    ap (λ x. simple.Range x h) (integers_one l m first) ∙ ap (simple.Range m) (integers_one h k second)
simples_one (simple.Listed l h) (simple.Listed m k) e =
    let (first, second) = and_parts (nat_eq l m) (nat_eq h k) e in
    ap (λ x. simple.Listed x h) (nats_one l m first) ∙ ap (simple.Listed m) (nats_one h k second)
simples_one (simple.Scalarset l h) (simple.Scalarset m k) e =
    let (first, second) = and_parts (nat_eq l m) (nat_eq h k) e in
    ap (λ x. simple.Scalarset x h) (nats_one l m first) ∙ ap (simple.Scalarset m) (nats_one h k second)
simples_one simple.Node simple.Node e = refl
simples_one simple.Truth (simple.Range m k) e = cc
simples_one simple.Truth (simple.Listed m k) e = cc
simples_one simple.Truth (simple.Scalarset m k) e = cc
simples_one simple.Truth simple.Node e = cc
simples_one (simple.Range l h) simple.Truth e = cc
simples_one (simple.Range l h) (simple.Listed m k) e = cc
simples_one (simple.Range l h) (simple.Scalarset m k) e = cc
simples_one (simple.Range l h) simple.Node e = cc
simples_one (simple.Listed l h) simple.Truth e = cc
simples_one (simple.Listed l h) (simple.Range m k) e = cc
simples_one (simple.Listed l h) (simple.Scalarset m k) e = cc
simples_one (simple.Listed l h) simple.Node e = cc
simples_one (simple.Scalarset l h) simple.Truth e = cc
simples_one (simple.Scalarset l h) (simple.Range m k) e = cc
simples_one (simple.Scalarset l h) (simple.Listed m k) e = cc
simples_one (simple.Scalarset l h) simple.Node e = cc
simples_one simple.Node simple.Truth e = cc
simples_one simple.Node (simple.Range m k) e = cc
simples_one simple.Node (simple.Listed m k) e = cc
simples_one simple.Node (simple.Scalarset m k) e = cc

pub of_type : (type : Simple) (o : Option Simple) → is_of type o ≡ true → o ≡ Some (widened type)
of_type type None e = cc
of_type type (Some u) e = ap Some (sym (simples_one (widened type) u e))

-- Values

pub is_a_number : (N : ℕ) (x : Value) → is_value N numbers x ≡ true → (z : ℤ) × (x ≡ v.Number z) × (is_number z ≡ true)
is_a_number N v.Undefined e = cc
is_a_number N (v.Truth b) e = cc
is_a_number N (v.Member k i) e = cc
is_a_number N (v.Node n) e = cc
is_a_number N (v.Number (pos z)) e = (pos z, refl, grind arith)
is_a_number N (v.Number (negsuc z)) e = (negsuc z, refl, grind arith)

pub not_undefined : (N : ℕ) (type : Simple) (x : Value) → is_value N type x ≡ true → same_value x v.Undefined ≡ false
not_undefined N simple.Truth v.Undefined e = cc
not_undefined N (simple.Range l h) v.Undefined e = cc
not_undefined N (simple.Listed l h) v.Undefined e = cc
not_undefined N (simple.Scalarset l h) v.Undefined e = cc
not_undefined N simple.Node v.Undefined e = cc
not_undefined N type (v.Truth b) e = refl
not_undefined N type (v.Number z) e = refl
not_undefined N type (v.Member k i) e = refl
not_undefined N type (v.Node n) e = refl

order_test : (a b : ℤ) → not (int_lt b a) ≡ int_le a b
order_test (pos a) (pos b) = grind arith
order_test (pos a) (negsuc b) = refl
order_test (negsuc a) (pos b) = refl
order_test (negsuc a) (negsuc b) = grind arith

module _ (N : ℕ) (s : Cells) (fr : List ℕ) where
  pub defined_is : (e : Term) (x : Value) → value_of N s fr e ≡ x → is_true N s fr (is_defined e) ≡ not (same_value x v.Undefined)
  defined_is e x is =
      ap truth (value-Not N s fr (t.Same e undefined) ∙ ap (λ y. v.Truth (not (truth y))) (value-Same N s fr e undefined ∙ ap (λ y. v.Truth (same_value y (value_of N s fr undefined))) is ∙ ap (λ y. v.Truth (same_value x y)) (value-Known N s fr v.Undefined)))

  pub at_most_is : (a b : Term) (x y : Value) → value_of N s fr a ≡ x → value_of N s fr b ≡ y → is_true N s fr (at_most a b) ≡ not (int_lt (number y) (number x))
  at_most_is a b x y e f =
      ap truth (value-Not N s fr (t.Less b a) ∙ ap (λ u. v.Truth (not (truth u))) (value-Less N s fr b a ∙ ap (λ u. v.Truth (int_lt (number u) (number (value_of N s fr a)))) f ∙ ap (λ u. v.Truth (int_lt (number y) (number u))) e))

  -- where a value is of a type as far as bounds go, the bounds say whether it is of the type
  pub bounds_are : (type : Simple) (e : Term) (x : Value) → value_of N s fr e ≡ x → is_value N (widened type) x ≡ true → list_all (is_true N s fr) (bounds type e) ≡ is_value N type x
  bounds_are simple.Truth e x is fine = sym fine
  bounds_are (simple.Listed k n) e x is fine = sym fine
  bounds_are (simple.Scalarset k n) e x is fine = sym fine
  bounds_are simple.Node e x is fine = sym fine
  bounds_are (simple.Range low high) e x is fine =
      let (z, x_is, fits) = is_a_number N x fine in
      ap (λ b. b && (is_true N s fr (at_most e (t.Known (v.Number high))) && true)) (at_most_is (t.Known (v.Number low)) e (v.Number low) (v.Number z) (value-Known N s fr (v.Number low)) (is ∙ x_is) ∙ order_test low z)
      ∙ ap (λ b. int_le low z && (b && true)) (at_most_is e (t.Known (v.Number high)) (v.Number z) (v.Number high) (is ∙ x_is) (value-Known N s fr (v.Number high)) ∙ order_test z high)
      ∙ nothing (int_le low z) (int_le z high)
      ∙ sym (ap (is_value N (simple.Range low high)) x_is)
    where
      nothing : (a b : Bool) → (a && (b && true)) ≡ (a && b)
      nothing a true = refl
      nothing a false = refl

  pub index_is : (over : Simple) (e : Term) (x : Value) → value_of N s fr e ≡ x → is_value N (widened over) x ≡ true → is_true N s fr (index_fits over e) ≡ is_value N over x
  index_is over e x is fine =
      ap truth (value-And N s fr (is_defined e ∷ bounds over e))
      ∙ ap (λ b. b && list_all (is_true N s fr) (bounds over e)) (defined_is e x is ∙ ap not (not_undefined N (widened over) x fine))
      ∙ bounds_are over e x is fine

-- The values of a type in their list

pub member_there : (kind first count k : ℕ) → first ≤ k → k < first + count → Has (map (λ i. v.Member kind i) (nodes_from first count)) (v.Member kind k)
member_there kind first zero k low high = absurd (omega (arith, low, high))
member_there kind first (suc count) k low high = go (member_there kind (suc first) count k) (nat_eq first k) refl
  where
    go : (suc first ≤ k → k < suc first + count → Has (map (λ i. v.Member kind i) (nodes_from (suc first) count)) (v.Member kind k)) → (b : Bool) → nat_eq first k ≡ b → Has (map (λ i. v.Member kind i) (nodes_from first (suc count))) (v.Member kind k)
    go again true was = inl (ap (v.Member kind) (nats_one first k was))
    go again false was = inr (again (grind (arith, low, was)) (omega (arith, high)))

next_number : (low : ℤ) (count : ℕ) → (low +ℤ pos 1) +ℤ pos count ≡ low +ℤ pos (suc count)
next_number low count = omega (arith, ints)

number_there : (low : ℤ) (count : ℕ) (z : ℤ) → int_le low z ≡ true → int_lt z (low +ℤ pos count) ≡ true → Has (map v.Number (numbers_from low count)) (v.Number z)
number_there low zero z above below = absurd (grind (arith, ints, above, below))
number_there low (suc count) z above below = go (number_there (low +ℤ pos 1) count z) (same_number low z) refl
  where
    go : (int_le (low +ℤ pos 1) z ≡ true → int_lt z ((low +ℤ pos 1) +ℤ pos count) ≡ true → Has (map v.Number (numbers_from (low +ℤ pos 1) count)) (v.Number z)) → (b : Bool) → same_number low z ≡ b → Has (map v.Number (numbers_from low (suc count))) (v.Number z)
    go again true was = inl (ap v.Number (integers_one low z was))
    go again false was = inr (again (next low z above was) (ap (int_lt z) (next_number low count) ∙ below))
      where
        next : (low z : ℤ) → int_le low z ≡ true → same_number low z ≡ false → int_le (low +ℤ pos 1) z ≡ true
        next (pos a) (pos b) above was = grind (arith, ints)
        next (pos a) (negsuc b) above was = grind (arith, ints)
        next (negsuc a) (pos b) above was = grind (arith, ints)
        next (negsuc a) (negsuc b) above was = grind (arith, ints)

number_in : (low high z : ℤ) (o : ℤ) → high -ℤ low ≡ o → int_le low z ≡ true → int_le z high ≡ true → int_lt z (low +ℤ pos (numbers_within o)) ≡ true
number_in low high z (pos far) e above below = grind (arith, ints, e, above, below)
number_in low high z (negsuc far) e above below = absurd (grind (arith, ints, e, above, below))

-- a value of a type that is not of nodes is in its list
pub in_values : (N : ℕ) (over : Simple) (x : Value) → is_over_nodes over ≡ false → is_value N over x ≡ true → Has (fixed_values over) x
in_values N simple.Truth (v.Truth false) nn e = inl refl
in_values N simple.Truth (v.Truth true) nn e = inr (inl refl)
in_values N simple.Truth v.Undefined nn e = cc
in_values N simple.Truth (v.Number z) nn e = cc
in_values N simple.Truth (v.Member k i) nn e = cc
in_values N simple.Truth (v.Node n) nn e = cc
in_values N (simple.Range low high) (v.Number z) nn e =
    let (above, below) = and_parts (int_le low z) (int_le z high) e in
    number_there low (numbers_within (high -ℤ low)) z above (number_in low high z (high -ℤ low) refl above below)
in_values N (simple.Range low high) v.Undefined nn e = cc
in_values N (simple.Range low high) (v.Truth b) nn e = cc
in_values N (simple.Range low high) (v.Member k i) nn e = cc
in_values N (simple.Range low high) (v.Node n) nn e = cc
in_values N (simple.Listed kind count) (v.Member k i) nn e =
    let (same, below) = and_parts (nat_eq kind k) (nat_lt i count) e in
    subst (λ j. Has (members kind count) (v.Member j i)) (nats_one kind k same) (member_there kind 0 count i (omega arith) (grind (arith, below)))
in_values N (simple.Listed kind count) v.Undefined nn e = cc
in_values N (simple.Listed kind count) (v.Truth b) nn e = cc
in_values N (simple.Listed kind count) (v.Number z) nn e = cc
in_values N (simple.Listed kind count) (v.Node n) nn e = cc
in_values N (simple.Scalarset kind count) (v.Member k i) nn e =
    let (same, below) = and_parts (nat_eq kind k) (nat_lt i count) e in
    subst (λ j. Has (members kind count) (v.Member j i)) (nats_one kind k same) (member_there kind 0 count i (omega arith) (grind (arith, below)))
in_values N (simple.Scalarset kind count) v.Undefined nn e = cc
in_values N (simple.Scalarset kind count) (v.Truth b) nn e = cc
in_values N (simple.Scalarset kind count) (v.Number z) nn e = cc
in_values N (simple.Scalarset kind count) (v.Node n) nn e = cc
in_values N simple.Node x nn e = absurd_false (sym nn)

-- a fact of each value of a list
abbrev pub EachValue : (Value → Type 0) → List Value → Type 0
EachValue P [] = Unit {0}
EachValue P (x ∷ xs) = P x × EachValue P xs

each_member : (P : Value → Type 0) (kind first count : ℕ) → ((k : ℕ) → first ≤ k → k < first + count → P (v.Member kind k)) → EachValue P (map (λ i. v.Member kind i) (nodes_from first count))
each_member P kind first zero each = tt
each_member P kind first (suc count) each = (each first (omega arith) (omega arith), each_member P kind (suc first) count (λ k low high. each k (omega (arith, low)) (omega (arith, high))))

each_number : (P : Value → Type 0) (low : ℤ) (count : ℕ) → ((z : ℤ) → int_le low z ≡ true → int_lt z (low +ℤ pos count) ≡ true → P (v.Number z)) → EachValue P (map v.Number (numbers_from low count))
each_number P low zero each = tt
each_number P low (suc count) each = (
  each low (itself low) (further low count),
  each_number P (low +ℤ pos 1) count (λ z above below. each z (less low z above) (sym (ap (int_lt z) (next_number low count)) ∙ below)),
)
  where
    itself : (z : ℤ) → int_le z z ≡ true
    itself (pos z) = grind arith
    itself (negsuc z) = grind arith

    further : (z : ℤ) (count : ℕ) → int_lt z (z +ℤ pos (suc count)) ≡ true
    further z count = grind (arith, ints)

    less : (low z : ℤ) → int_le (low +ℤ pos 1) z ≡ true → int_le low z ≡ true
    less low z above = grind (arith, ints, above)

number_out : (low high z : ℤ) (o : ℤ) → high -ℤ low ≡ o → int_le low z ≡ true → int_lt z (low +ℤ pos (numbers_within o)) ≡ true → int_le z high ≡ true
number_out low high z (pos far) e above below = grind (arith, ints, e, above, below)
number_out low high z (negsuc far) e above below = absurd (grind (arith, ints, e, above, below))

-- what is in the list of a type is a value of it
pub are_values : (N : ℕ) (over : Simple) → is_over_nodes over ≡ false → EachValue (λ x. is_value N over x ≡ true) (fixed_values over)
are_values N simple.Truth nn = (refl, (refl, tt))
are_values N (simple.Range low high) nn = each_number (λ x. is_value N (simple.Range low high) x ≡ true) low (numbers_within (high -ℤ low)) (λ z above below. and_of above (number_out low high z (high -ℤ low) refl above below))
are_values N (simple.Listed kind count) nn = each_member (λ x. is_value N (simple.Listed kind count) x ≡ true) kind 0 count (λ k low high. and_of (nat_itself kind) (grind (arith, high)))
are_values N (simple.Scalarset kind count) nn = each_member (λ x. is_value N (simple.Scalarset kind count) x ≡ true) kind 0 count (λ k low high. and_of (nat_itself kind) (grind (arith, high)))
are_values N simple.Node nn = absurd_false (sym nn)

pub values_fixed : (N : ℕ) (over : Simple) → is_over_nodes over ≡ false → values N over ≡ fixed_values over
values_fixed N simple.Truth nn = refl
values_fixed N (simple.Range low high) nn = refl
values_fixed N (simple.Listed kind count) nn = refl
values_fixed N (simple.Scalarset kind count) nn = refl
values_fixed N simple.Node nn = absurd_false (sym nn)

all_no_nodes : (xs : List Value) → EachValue (λ x. is_no_node x ≡ true) xs → list_all is_no_node xs ≡ true
all_no_nodes [] e = refl
all_no_nodes (x ∷ xs) (e, es) = and_of e (all_no_nodes xs es)

pub fixed_no_nodes : (over : Simple) → is_over_nodes over ≡ false → list_all is_no_node (fixed_values over) ≡ true
fixed_no_nodes simple.Truth nn = refl
fixed_no_nodes (simple.Range low high) nn = all_no_nodes _ (each_number (λ x. is_no_node x ≡ true) low (numbers_within (high -ℤ low)) (λ z above below. refl))
fixed_no_nodes (simple.Listed kind count) nn = all_no_nodes _ (each_member (λ x. is_no_node x ≡ true) kind 0 count (λ k low high. refl))
fixed_no_nodes (simple.Scalarset kind count) nn = all_no_nodes _ (each_member (λ x. is_no_node x ≡ true) kind 0 count (λ k low high. refl))
fixed_no_nodes simple.Node nn = absurd_false (sym nn)

-- an index that is of its type leads to the value
pub index_leads : (N : ℕ) (s : Cells) (fr : List ℕ) (over : Simple) (mark : Option ℕ) (e : Term) (x : Value) → value_of N s fr e ≡ x → is_value N over x ≡ true → IndexIs N s fr (index_over over mark e) x
index_leads N s fr over mark e x is fine = go (is_over_nodes over) refl
  where
    node_of : (over : Simple) → is_over_nodes over ≡ true → (x : Value) → is_value N over x ≡ true → (n : ℕ) × (x ≡ v.Node n) × (is_node N n ≡ true)
    node_of simple.Node nn (v.Node n) fine = (n, refl, fine)
    node_of simple.Node nn v.Undefined fine = absurd_false fine
    node_of simple.Node nn (v.Truth b) fine = absurd_false fine
    node_of simple.Node nn (v.Number z) fine = absurd_false fine
    node_of simple.Node nn (v.Member k i) fine = absurd_false fine
    node_of simple.Truth nn x fine = absurd_false nn
    node_of (simple.Range l h) nn x fine = absurd_false nn
    node_of (simple.Listed l h) nn x fine = absurd_false nn
    node_of (simple.Scalarset l h) nn x fine = absurd_false nn

    go : (b : Bool) → is_over_nodes over ≡ b → IndexIs N s fr (if b then Index.Axis mark e else Index.Among (fixed_values over) e) x
    go true nn = let (n, x_is, node) = node_of over nn x fine in (n, x_is, is ∙ x_is, node)
    go false nn = (is, in_values N over x nn fine, fixed_no_nodes over nn)
