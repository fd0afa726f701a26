-- Values that are one.
use Rattle.std.proofs.Common.{◌≡◌, ℕ, Bool, true, false, ◌&&◌, refl, ap, ◌∙◌, arith}
use Rattle.std.specs.Prelude.{ℤ, pos, negsuc, nat_eq}
use Rattle.std.proofs.lemmas.Bool.{and_parts}
use Rattle.term_core.specs.declared.value.Value.{Value}
use Rattle.term_core.specs.declared.value.Value.TheVariants as v
use Rattle.term_core.specs.Values.{same_value, same_number, same_truth}

pub absurd_false : {A : Type 0} → false ≡ true → A
absurd_false e = cc

pub nats_one : (a b : ℕ) → nat_eq a b ≡ true → a ≡ b
nats_one a b e = grind (arith, e)

pub nat_itself : (a : ℕ) → nat_eq a a ≡ true
nat_itself a = grind arith

numbers_one : (a b : ℤ) → same_number a b ≡ true → a ≡ b
numbers_one (pos a) (pos b) e = ap pos (nats_one a b e)
numbers_one (pos a) (negsuc b) e = cc
numbers_one (negsuc a) (pos b) e = cc
numbers_one (negsuc a) (negsuc b) e = ap negsuc (nats_one a b e)

number_itself : (a : ℤ) → same_number a a ≡ true
number_itself (pos a) = nat_itself a
number_itself (negsuc a) = nat_itself a

truths_one : (a b : Bool) → same_truth a b ≡ true → a ≡ b
truths_one true true e = refl
truths_one true false e = cc
truths_one false true e = cc
truths_one false false e = refl

pub values_one : (a b : Value) → same_value a b ≡ true → a ≡ b
values_one v.Undefined v.Undefined e = refl
values_one (v.Truth a) (v.Truth b) e = ap v.Truth (truths_one a b e)
values_one (v.Number a) (v.Number b) e = ap v.Number (numbers_one a b e)
values_one (v.Member k a) (v.Member l b) e =
    let (first, second) = and_parts (nat_eq k l) (nat_eq a b) e in
    ap (λ x. v.Member x a) (nats_one k l first) ∙ ap (v.Member l) (nats_one a b second)
values_one (v.Node a) (v.Node b) e = ap v.Node (nats_one a b e)
values_one v.Undefined (v.Truth b) e = cc
values_one v.Undefined (v.Number b) e = cc
values_one v.Undefined (v.Member l b) e = cc
values_one v.Undefined (v.Node b) e = cc
values_one (v.Truth a) v.Undefined e = cc
values_one (v.Truth a) (v.Number b) e = cc
values_one (v.Truth a) (v.Member l b) e = cc
values_one (v.Truth a) (v.Node b) e = cc
values_one (v.Number a) v.Undefined e = cc
values_one (v.Number a) (v.Truth b) e = cc
values_one (v.Number a) (v.Member l b) e = cc
values_one (v.Number a) (v.Node b) e = cc
values_one (v.Member k a) v.Undefined e = cc
values_one (v.Member k a) (v.Truth b) e = cc
values_one (v.Member k a) (v.Number b) e = cc
values_one (v.Member k a) (v.Node b) e = cc
values_one (v.Node a) v.Undefined e = cc
values_one (v.Node a) (v.Truth b) e = cc
values_one (v.Node a) (v.Number b) e = cc
values_one (v.Node a) (v.Member l b) e = cc

pub value_itself : (a : Value) → same_value a a ≡ true
value_itself v.Undefined = refl
value_itself (v.Truth true) = refl
value_itself (v.Truth false) = refl
value_itself (v.Number a) = number_itself a
value_itself (v.Member k a) = ap (λ x. x && nat_eq a a) (nat_itself k) ∙ nat_itself a
value_itself (v.Node a) = nat_itself a
