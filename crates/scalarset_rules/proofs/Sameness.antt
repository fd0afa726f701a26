-- What tests into truth values say, and outcomes one after another.
use Rattle.std.proofs.Common.{◌≡◌, ℕ, Bool, true, false, List, [], ◌∷◌, ◌++◌, None, Some, refl, sym, ap, ◌∙◌, subst}
use Rattle.std.specs.Prelude.{nat_eq, ℤ, pos, negsuc, if◌then◌else◌}
use Rattle.std.specs.Str.{bytes_eq}
use Rattle.std.proofs.lemmas.Bool.{and_parts, and_from, eqb-true, eq-eqb}
use Rattle.term_core.specs.declared.value.Value.{Value}
use Rattle.term_core.specs.declared.value.Value.TheVariants.{Undefined, Truth, Number, Member, Node}
use Rattle.term_core.specs.Values.{same_value, same_truth, same_number}
use Rattle.murphi_ast.specs.declared.token.Span.{Span}
use Rattle.murphi_typed.specs.Store.{Owner, Global, Local, Formal, same_owner, beyond}
use Rattle.murphi_typed.specs.Outcome.{Outcome, Got, Fault, given}

pub both : {A B C : Type 0} {a a' : A} {b b' : B} (f : A → B → C) → a ≡ a' → b ≡ b' → f a b ≡ f a' b'
both {a = a} {a' = a'} {b = b} {b' = b'} f e g = ap (λ x. f x b) e ∙ ap (f a') g

pub false-true : {A : Type 0} → false ≡ true → A
false-true e = cc

pub some_same : {A : Type 0} {a b : A} → Some a ≡ Some b → a ≡ b
some_same e = cc

pub got_same : {A : Type 0} {a b : A} → Got a ≡ Got b → a ≡ b
got_same e = cc

pub fault_got : {A B : Type 0} {at : Span} {a : A} → Fault at ≡ Got a → B
fault_got e = cc

numbers_true : (a b : ℤ) → same_number a b ≡ true → a ≡ b
numbers_true (pos a) (pos b) e = ap pos (eqb-true a b e)
numbers_true (negsuc a) (negsuc b) e = ap negsuc (eqb-true a b e)
numbers_true (pos a) (negsuc b) e = cc
numbers_true (negsuc a) (pos b) e = cc

truths_true : (a b : Bool) → same_truth a b ≡ true → a ≡ b
truths_true true true e = refl
truths_true true false e = cc
truths_true false true e = cc
truths_true false false e = refl

pub values_true : (v w : Value) → same_value v w ≡ true → v ≡ w
values_true Undefined Undefined e = refl
values_true (Truth a) (Truth b) e = ap Truth (truths_true a b e)
values_true (Number a) (Number b) e = ap Number (numbers_true a b e)
values_true (Member kind a) (Member other b) e = let (k, i) = and_parts (nat_eq kind other) (nat_eq a b) e in both Member (eqb-true kind other k) (eqb-true a b i)
values_true (Node a) (Node b) e = ap Node (eqb-true a b e)
values_true Undefined (Truth b) e = cc
values_true Undefined (Number b) e = cc
values_true Undefined (Member k b) e = cc
values_true Undefined (Node b) e = cc
values_true (Truth a) Undefined e = cc
values_true (Truth a) (Number b) e = cc
values_true (Truth a) (Member k b) e = cc
values_true (Truth a) (Node b) e = cc
values_true (Number a) Undefined e = cc
values_true (Number a) (Truth b) e = cc
values_true (Number a) (Member k b) e = cc
values_true (Number a) (Node b) e = cc
values_true (Member k a) Undefined e = cc
values_true (Member k a) (Truth b) e = cc
values_true (Member k a) (Number b) e = cc
values_true (Member k a) (Node b) e = cc
values_true (Node a) Undefined e = cc
values_true (Node a) (Truth b) e = cc
values_true (Node a) (Number b) e = cc
values_true (Node a) (Member k b) e = cc

pub node_itself : (n : ℕ) → same_value (Node n) (Node n) ≡ true
node_itself n = eq-eqb n n refl

pub owners_true : (a b : Owner) → same_owner a b ≡ true → a ≡ b
owners_true (Global a) (Global b) e = ap Global (eqb-true a b e)
owners_true (Local d a) (Local d' b) e = let (k, i) = and_parts (nat_eq d d') (nat_eq a b) e in both Local (eqb-true d d' k) (eqb-true a b i)
owners_true (Formal d a) (Formal d' b) e = let (k, i) = and_parts (nat_eq d d') (nat_eq a b) e in both Formal (eqb-true d d' k) (eqb-true a b i)
owners_true (Global a) (Local d' b) e = cc
owners_true (Global a) (Formal d' b) e = cc
owners_true (Local d a) (Global b) e = cc
owners_true (Local d a) (Formal d' b) e = cc
owners_true (Formal d a) (Global b) e = cc
owners_true (Formal d a) (Local d' b) e = cc

pub owner_itself : (a : Owner) → same_owner a a ≡ true
owner_itself (Global a) = eq-eqb a a refl
owner_itself (Local d a) = and_from (nat_eq d d) (nat_eq a a) (eq-eqb d d refl) (eq-eqb a a refl)
owner_itself (Formal d a) = and_from (nat_eq d d) (nat_eq a a) (eq-eqb d d refl) (eq-eqb a a refl)

pub names_true : (xs ys : List ℕ) → bytes_eq xs ys ≡ true → xs ≡ ys
names_true [] [] e = refl
names_true [] (y ∷ ys) e = cc
names_true (x ∷ xs) [] e = cc
names_true (x ∷ xs) (y ∷ ys) e = let (h, t) = and_parts (nat_eq x y) (bytes_eq xs ys) e in both (λ z zs. z ∷ zs) (eqb-true x y h) (names_true xs ys t)

pub name_itself : (xs : List ℕ) → bytes_eq xs xs ≡ true
name_itself [] = refl
name_itself (x ∷ xs) = and_from (nat_eq x x) (bytes_eq xs xs) (eq-eqb x x refl) (name_itself xs)

-- a list that goes beyond a front part
pub beyond_some : {A : Type 0} (same : A → A → Bool) → ((x y : A) → same x y ≡ true → x ≡ y) → (front all rest : List A) → beyond same front all ≡ Some rest → all ≡ front ++ rest
beyond_some same sound [] all rest e = cc
beyond_some same sound (x ∷ front) [] rest e = cc
beyond_some same sound (x ∷ front) (y ∷ all) rest e = go (same x y) refl e (beyond_some same sound front all rest)
  where
    go : (b : Bool) → same x y ≡ b → (if b then beyond same front all else None) ≡ Some rest → (beyond same front all ≡ Some rest → all ≡ front ++ rest) → (y ∷ all) ≡ (x ∷ front) ++ rest
    go true was e more = both (λ z zs. z ∷ zs) (sym (sound x y was)) (more e)
    go false was e more = cc

-- Outcomes

pub given_same : {A B : Type 0} (o p : Outcome A) (f g : A → Outcome B) → o ≡ p → ((a : A) → o ≡ Got a → f a ≡ g a) → given o f ≡ given p g
given_same o p f g e same = subst (λ q. given o f ≡ given q g) e (go o same)
  where
    go : (o : Outcome _) → ((a : _) → o ≡ Got a → f a ≡ g a) → given o f ≡ given o g
    go (Got a) same = same a refl
    go (Fault at) same = refl

pub given_got : {A B : Type 0} (o : Outcome A) (f : A → Outcome B) (b : B) → given o f ≡ Got b → (a : A) × ((o ≡ Got a) × (f a ≡ Got b))
given_got (Got a) f b e = (a, (refl, e))
given_got (Fault at) f b e = cc
