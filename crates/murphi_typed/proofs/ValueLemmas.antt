-- The value of a well-typed expression is one of its type.
use Rattle.std.proofs.Common.{◌≡◌, ℕ, Bool, true, false, ◌&&◌, List, length, Option, None, Some, refl, sym, ap, ◌∙◌, arith}
use Rattle.std.specs.Prelude.{nat_eq, nat_lt, if◌then◌else◌, slice_get, ℤ, pos, negsuc, int_le, nat_le, ◌-ℤ◌}
use Rattle.std.proofs.lemmas.Bool.{and_parts, eq-eqb}
use Rattle.term_core.specs.declared.value.Value.{Value}
use Rattle.term_core.specs.declared.value.Value.TheVariants as value
use Rattle.term_core.specs.declared.value.ArithOp.{ArithOp}
use Rattle.term_core.specs.declared.value.ArithOp.TheVariants as arith'
use Rattle.term_core.specs.Values.{truth, number, is_number}
use Rattle.murphi_ast.specs.declared.token.Span.{Span}
use Rattle.murphi_ast.specs.declared.expr.ChainOp.{ChainOp}
use Rattle.murphi_ast.specs.declared.expr.ChainOp.TheVariants as op
use Rattle.murphi_typed.specs.declared.types.Simple.{Simple}
use Rattle.murphi_typed.specs.declared.types.Simple.TheVariants as simple
use Rattle.murphi_typed.specs.declared.types.Kind.{Kind}
use Rattle.murphi_typed.specs.declared.types.Kind.TheVariants as kind
use Rattle.murphi_typed.specs.Values.{is_value, may_hold, numbers_within}
use Rattle.murphi_typed.specs.Outcome.{Outcome, Got, Fault, given, or_fault}
use Rattle.murphi_typed.specs.Expressions.{in_range, calculated, result_of, joined, defined, as_truth}
use Rattle.murphi_typed.specs.WellTyped.{numbers, widened, is_simple_type, only_if, enum_type, known_type, operand_type}
use Rattle.murphi_typed.proofs.LeafLemmas.{some_same, not_some}
use Rattle.murphi_typed.proofs.KeepLemmas.{IfGot, if_after}

order : (a b c : ℤ) → int_le a b ≡ true → int_le b c ≡ true → int_le a c ≡ true
order (pos a) (pos b) (pos c) e f = grind (arith)
order (pos a) (pos b) (negsuc c) e f = cc
order (pos a) (negsuc b) (pos c) e f = cc
order (pos a) (negsuc b) (negsuc c) e f = cc
order (negsuc a) (pos b) (pos c) e f = refl
order (negsuc a) (pos b) (negsuc c) e f = cc
order (negsuc a) (negsuc b) (pos c) e f = refl
order (negsuc a) (negsuc b) (negsuc c) e f = grind (arith)

low_number : (z : ℤ) → is_number z ≡ true → int_le (negsuc 32767) z ≡ true
low_number (pos a) e = refl
low_number (negsuc a) e = grind (arith)

high_number : (z : ℤ) → is_number z ≡ true → int_le z (pos 32767) ≡ true
high_number (pos a) e = grind (arith)
high_number (negsuc a) e = refl

both_true : (a b : Bool) → a ≡ true → b ≡ true → (a && b) ≡ true
both_true a b e f = ap (λ x. x && b) e ∙ f

pub number_typed : (N : ℕ) (z : ℤ) → is_number z ≡ true → is_value N numbers (value.Number z) ≡ true
number_typed N z e = both_true (int_le (negsuc 32767) z) (int_le z (pos 32767)) (low_number z e) (high_number z e)

pub widened_value : (N : ℕ) (kinds : List Kind) (s : Simple) (v : Value) → is_simple_type kinds s ≡ true → is_value N s v ≡ true → is_value N (widened s) v ≡ true
widened_value N kinds simple.Truth v fine e = e
widened_value N kinds (simple.Listed k count) v fine e = e
widened_value N kinds (simple.Scalarset k count) v fine e = e
widened_value N kinds simple.Node v fine e = e
widened_value N kinds (simple.Range low high) value.Undefined fine e = cc
widened_value N kinds (simple.Range low high) (value.Truth b) fine e = cc
widened_value N kinds (simple.Range low high) (value.Member k b) fine e = cc
widened_value N kinds (simple.Range low high) (value.Node n) fine e = cc
widened_value N kinds (simple.Range low high) (value.Number z) fine e =
    let (l, rest) = and_parts (is_number low) (is_number high && (int_le low high && nat_le (numbers_within (high -ℤ low)) 256)) fine in
    let (h, ordered) = and_parts (is_number high) (int_le low high && nat_le (numbers_within (high -ℤ low)) 256) rest in
    let (above, below) = and_parts (int_le low z) (int_le z high) e in
    both_true (int_le (negsuc 32767) z) (int_le z (pos 32767)) (order (negsuc 32767) low z (low_number low l) above) (order z high (pos 32767) below (high_number high h))

pub defined_typed : (N : ℕ) (at : Span) (s : Simple) (v : Value) → may_hold N s v ≡ true → IfGot (λ w. is_value N s w ≡ true) (defined at v)
defined_typed N at s value.Undefined e = tt
defined_typed N at s (value.Truth b) e = e
defined_typed N at s (value.Number z) e = e
defined_typed N at s (value.Member k i) e = e
defined_typed N at s (value.Node n) e = e

pub calculated_typed : (N : ℕ) (at : Span) (o : ArithOp) (a b : Value) → IfGot (λ v. is_value N numbers v ≡ true) (calculated at o a b)
calculated_typed N at o a b = if_after (λ v. is_value N numbers v ≡ true) (or_fault at (result_of o (number a) (number b))) (in_range at) (λ z. go z (is_number z) refl)
  where
    go : (z : ℤ) (b : Bool) → is_number z ≡ b → IfGot (λ v. is_value N numbers v ≡ true) (if b then Got (value.Number z) else Fault at)
    go z true was = number_typed N z was
    go z false was = tt

pub joined_typed : (N : ℕ) (at : Span) (o : ChainOp) (left : Value) (right : Outcome Value) → IfGot (λ v. is_value N (operand_type o) v ≡ true) (joined at o left right)
joined_typed N at op.Or left right = go (truth left)
  where
    go : (b : Bool) → IfGot (λ v. is_value N simple.Truth v ≡ true) (if b then Got (value.Truth true) else given right (λ b. Got (as_truth b)))
    go true = refl
    go false = if_after (λ v. is_value N simple.Truth v ≡ true) right (λ b. Got (as_truth b)) (λ b. refl)
joined_typed N at op.And left right = go (truth left)
  where
    go : (b : Bool) → IfGot (λ v. is_value N simple.Truth v ≡ true) (if b then given right (λ b. Got (as_truth b)) else Got (value.Truth false))
    go true = if_after (λ v. is_value N simple.Truth v ≡ true) right (λ b. Got (as_truth b)) (λ b. refl)
    go false = refl
joined_typed N at op.Add left right = if_after (λ v. is_value N numbers v ≡ true) right (calculated at arith'.Add left) (λ b. calculated_typed N at arith'.Add left b)
joined_typed N at op.Subtract left right = if_after (λ v. is_value N numbers v ≡ true) right (calculated at arith'.Subtract left) (λ b. calculated_typed N at arith'.Subtract left b)
joined_typed N at op.Times left right = if_after (λ v. is_value N numbers v ≡ true) right (calculated at arith'.Times left) (λ b. calculated_typed N at arith'.Times left b)
joined_typed N at op.Divide left right = if_after (λ v. is_value N numbers v ≡ true) right (calculated at arith'.Divide left) (λ b. calculated_typed N at arith'.Divide left b)
joined_typed N at op.Modulo left right = if_after (λ v. is_value N numbers v ≡ true) right (calculated at arith'.Modulo left) (λ b. calculated_typed N at arith'.Modulo left b)

pub only_some : {A : Type 0} (b : Bool) (a c : A) → only_if b (Some a) ≡ Some c → a ≡ c
only_some true a c e = some_same e
only_some false a c e = absurd (not_some e)

pub known_typed : (N : ℕ) (kinds : List Kind) (v : Value) (s : Simple) → known_type kinds v ≡ Some s → is_value N s v ≡ true
known_typed N kinds value.Undefined s e = absurd (not_some e)
known_typed N kinds (value.Node n) s e = absurd (not_some e)
known_typed N kinds (value.Truth b) s e = ap (λ u. is_value N u (value.Truth b)) (sym (some_same e))
known_typed N kinds (value.Number z) s e = go (is_number z) refl e
  where
    go : (b : Bool) → is_number z ≡ b → only_if b (Some numbers) ≡ Some s → is_value N s (value.Number z) ≡ true
    go true was e = ap (λ u. is_value N u (value.Number z)) (sym (some_same e)) ∙ number_typed N z was
    go false was e = absurd (not_some e)
known_typed N kinds (value.Member k i) s e = go (slice_get kinds k) e
  where
    fits : (count : ℕ) → (b : Bool) → nat_lt i count ≡ b → only_if b (Some (simple.Listed k count)) ≡ Some s → is_value N s (value.Member k i) ≡ true
    fits count true was e = ap (λ u. is_value N u (value.Member k i)) (sym (some_same e)) ∙ both_true (nat_eq k k) (nat_lt i count) (eq-eqb k k refl) was
    fits count false was e = absurd (not_some e)

    go : (o : Option Kind) → enum_type k i o ≡ Some s → is_value N s (value.Member k i) ≡ true
    go None e = absurd (not_some e)
    go (Some (kind.Scalarset name count)) e = absurd (not_some e)
    go (Some (kind.Listed names)) e = fits (length names) (nat_lt i (length names)) refl e
