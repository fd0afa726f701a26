-- What tests and lists of faults say.
use Rattle.std.proofs.Common.{◌≡◌, ℕ, Bool, true, false, List, [], ◌∷◌, ◌++◌, Option, None, Some, refl, ap, ◌∙◌}
use Rattle.std.specs.Prelude.{ℤ, pos, negsuc, nat_eq}
use Rattle.std.proofs.lemmas.Bool.{and_parts, and_from, eqb-true, eq-eqb}
use Rattle.term_core.specs.Values.{same_number}
use Rattle.murphi_ast.specs.declared.token.Span.{Span}
use Rattle.murphi_ast.specs.declared.expr.ChainOp.{ChainOp}
use Rattle.murphi_ast.specs.declared.expr.ChainOp.TheVariants as op
use Rattle.murphi_typed.specs.declared.types.Simple.{Simple}
use Rattle.murphi_typed.specs.declared.types.Simple.TheVariants as simple
use Rattle.murphi_typed.specs.declared.types.AnyType as t
use Rattle.murphi_typed.specs.declared.types.AnyType.{AnyType}
use Rattle.murphi_typed.specs.WellTyped.{numbers, widened, same_simple, operand_type}
use Rattle.murphi_types.specs.declared.fault.Cause.{Cause}
use Rattle.murphi_types.specs.Faults.{unless}
use Rattle.murphi_types.specs.Fitting.{is_simple, has_values_of, is_comparable, left_fits, right_fits}

-- Lists of faults

pub nil-parts : {A : Type 0} (xs ys : List A) → xs ++ ys ≡ [] → (xs ≡ []) × (ys ≡ [])
nil-parts [] ys e = (refl, e)
nil-parts (x ∷ xs) ys e = cc

pub unless-passes : (b : Bool) (cause : Cause) (at : Span) → unless b cause at ≡ [] → b ≡ true
unless-passes true cause at e = refl
unless-passes false cause at e = cc

-- Tests

pub some-same : {A : Type 0} {a b : A} → Some a ≡ Some b → a ≡ b
some-same e = cc

pub nats-same : (n : ℕ) → nat_eq n n ≡ true
nats-same n = eq-eqb n n refl

pub numbers-same : (z : ℤ) → same_number z z ≡ true
numbers-same (pos n) = nats-same n
numbers-same (negsuc n) = nats-same n

pub same-self : (u : Simple) → same_simple u u ≡ true
same-self simple.Truth = refl
same-self (simple.Range low high) = and_from _ _ (numbers-same low) (numbers-same high)
same-self (simple.Listed kind count) = and_from _ _ (nats-same kind) (nats-same count)
same-self (simple.Scalarset kind count) = and_from _ _ (nats-same kind) (nats-same count)
same-self simple.Node = refl

numbers-true : (a b : ℤ) → same_number a b ≡ true → a ≡ b
numbers-true (pos a) (pos b) e = ap pos (eqb-true a b e)
numbers-true (negsuc a) (negsuc b) e = ap negsuc (eqb-true a b e)
numbers-true (pos a) (negsuc b) e = cc
numbers-true (negsuc a) (pos b) e = cc

both : {A B C : Type 0} {a a' : A} {b b' : B} (f : A → B → C) → a ≡ a' → b ≡ b' → f a b ≡ f a' b'
both {a = a} {a' = a'} {b = b} {b' = b'} f e g = ap (λ x. f x b) e ∙ ap (f a') g

pub simples-true : (a b : Simple) → same_simple a b ≡ true → a ≡ b
simples-true simple.Truth simple.Truth e = refl
simples-true (simple.Range a b) (simple.Range c d) e = let (k, i) = and_parts (same_number a c) (same_number b d) e in both simple.Range (numbers-true a c k) (numbers-true b d i)
simples-true (simple.Listed a b) (simple.Listed c d) e = let (k, i) = and_parts (nat_eq a c) (nat_eq b d) e in both simple.Listed (eqb-true a c k) (eqb-true b d i)
simples-true (simple.Scalarset a b) (simple.Scalarset c d) e = let (k, i) = and_parts (nat_eq a c) (nat_eq b d) e in both simple.Scalarset (eqb-true a c k) (eqb-true b d i)
simples-true simple.Node simple.Node e = refl
simples-true simple.Truth (simple.Range c d) e = cc
simples-true simple.Truth (simple.Listed c d) e = cc
simples-true simple.Truth (simple.Scalarset c d) e = cc
simples-true simple.Truth simple.Node e = cc
simples-true (simple.Range a b) simple.Truth e = cc
simples-true (simple.Range a b) (simple.Listed c d) e = cc
simples-true (simple.Range a b) (simple.Scalarset c d) e = cc
simples-true (simple.Range a b) simple.Node e = cc
simples-true (simple.Listed a b) simple.Truth e = cc
simples-true (simple.Listed a b) (simple.Range c d) e = cc
simples-true (simple.Listed a b) (simple.Scalarset c d) e = cc
simples-true (simple.Listed a b) simple.Node e = cc
simples-true (simple.Scalarset a b) simple.Truth e = cc
simples-true (simple.Scalarset a b) (simple.Range c d) e = cc
simples-true (simple.Scalarset a b) (simple.Listed c d) e = cc
simples-true (simple.Scalarset a b) simple.Node e = cc
simples-true simple.Node simple.Truth e = cc
simples-true simple.Node (simple.Range c d) e = cc
simples-true simple.Node (simple.Listed c d) e = cc
simples-true simple.Node (simple.Scalarset c d) e = cc

pub wide-twice : (u : Simple) → widened (widened u) ≡ widened u
wide-twice simple.Truth = refl
wide-twice (simple.Range low high) = refl
wide-twice (simple.Listed kind count) = refl
wide-twice (simple.Scalarset kind count) = refl
wide-twice simple.Node = refl

pub wide-operand : (o : ChainOp) → widened (operand_type o) ≡ operand_type o
wide-operand op.Or = refl
wide-operand op.And = refl
wide-operand op.Add = refl
wide-operand op.Subtract = refl
wide-operand op.Times = refl
wide-operand op.Divide = refl
wide-operand op.Modulo = refl

-- Tests that values of simple type alone pass

abbrev pub OnlySimple : (AnyType → Bool) → Type 0
OnlySimple test = (type : AnyType) → test type ≡ true → is_simple type ≡ true

pub only-simple : OnlySimple is_simple
only-simple type e = e

pub only-values : (u : Simple) → OnlySimple (has_values_of u)
only-values u (t.Simple of) e = refl
only-values u (t.Record' shape fields) e = cc
only-values u (t.Array' index shape item) e = cc

pub only-comparable : (o : Option AnyType) → OnlySimple (is_comparable o)
only-comparable None type e = e
only-comparable (Some (t.Simple u)) type e = only-values u type e
only-comparable (Some (t.Record' shape fields)) type e = e
only-comparable (Some (t.Array' index shape item)) type e = e

pub only-left : (b : Bool) → OnlySimple (left_fits b)
only-left true type e = e
only-left false type e = only-values numbers type e

pub only-right : (b : Bool) (o : Option AnyType) → OnlySimple (right_fits b o)
only-right true o type e = only-comparable o type e
only-right false o type e = only-values numbers type e

pub simple-is : (type : AnyType) → is_simple type ≡ true → (u : Simple) × (type ≡ t.Simple u)
simple-is (t.Simple u) e = (u, refl)
simple-is (t.Record' shape fields) e = cc
simple-is (t.Array' index shape item) e = cc
