-- The first fault of lists.
use Rattle.std.proofs.Common.{◌≡◌, ℕ, Bool, true, false, cond, ◌&&◌, ◌||◌, List, [], ◌∷◌, ◌++◌, Option, None, Some, refl, ap, sym, ◌∙◌, arith}
use Rattle.std.specs.Prelude.{nat_lt, nat_eq, is_none}
use Rattle.std.proofs.lemmas.Bool.Decides.{nat_tests}
use Rattle.murphi_ast.specs.declared.token.Span.{Span}
use Rattle.murphi_types.specs.declared.fault.Cause.{Cause}
use Rattle.murphi_types.specs.declared.fault.Fault.{Fault}
use Rattle.murphi_types.specs.Faults.{code_of, is_before, sooner, first_fault, is_clear, unless, lone}
use Rattle.type_parts.specs.Judging.{own}

-- by lines, then columns, then codes
abbrev lex : ℕ → ℕ → ℕ → ℕ → ℕ → ℕ → Bool
lex a b c x y z = nat_lt a x || (nat_eq a x && (nat_lt b y || (nat_eq b y && nat_lt c z)))

lex-trans : (a b c x y z u v w : ℕ) → lex x y z a b c ≡ true → lex u v w x y z ≡ true → lex u v w a b c ≡ true
lex-trans a b c x y z u v w h k = grind (arith, nat_tests)

lex-none : (a b c x y z u v w : ℕ) → lex x y z a b c ≡ false → lex u v w x y z ≡ false → lex u v w a b c ≡ false
lex-none a b c x y z u v w h k = grind (arith, nat_tests)

regrouped : (p q r s t : Bool) → ((p || (q && r)) || ((q && s) && t)) ≡ (p || (q && (r || (s && t))))
regrouped true q r s t = refl
regrouped false true true s t = refl
regrouped false true false s t = refl
regrouped false false r s t = refl

before-is : (f g : Fault) → is_before f g ≡ lex f.at.line f.at.column (code_of f.cause) g.at.line g.at.column (code_of g.cause)
before-is f g =
    regrouped (nat_lt f.at.line g.at.line) (nat_eq f.at.line g.at.line) (nat_lt f.at.column g.at.column)
    (nat_eq f.at.column g.at.column) (nat_lt (code_of f.cause) (code_of g.cause))

before-trans : (f g h : Fault) → is_before g f ≡ true → is_before h g ≡ true → is_before h f ≡ true
before-trans f g h p q = before-is h f ∙ lex-trans f.at.line f.at.column (code_of f.cause) g.at.line g.at.column (code_of g.cause) h.at.line h.at.column (code_of h.cause) (sym (before-is g f) ∙ p) (sym (before-is h g) ∙ q)

before-none : (f g h : Fault) → is_before g f ≡ false → is_before h g ≡ false → is_before h f ≡ false
before-none f g h p q = before-is h f ∙ lex-none f.at.line f.at.column (code_of f.cause) g.at.line g.at.column (code_of g.cause) h.at.line h.at.column (code_of h.cause) (sym (before-is g f) ∙ p) (sym (before-is h g) ∙ q)

some-assoc : (f g h : Fault) (b c : Bool) → is_before g f ≡ b → is_before h g ≡ c → sooner (sooner (Some f) (Some g)) (Some h) ≡ sooner (Some f) (sooner (Some g) (Some h))
some-assoc f g h true true p q = simp (p, q, before-trans f g h p q)
some-assoc f g h true false p q = simp (p, q)
some-assoc f g h false true p q = simp (p, q)
some-assoc f g h false false p q = simp (p, q, before-none f g h p q)

pub sooner-assoc : (a b c : Option Fault) → sooner (sooner a b) c ≡ sooner a (sooner b c)
sooner-assoc None b c = refl
sooner-assoc (Some f) None c = refl
sooner-assoc (Some f) (Some g) None = go (is_before g f)
  where
    go : (b : Bool) → sooner (cond b (Some g) (Some f)) None ≡ cond b (Some g) (Some f)
    go true = refl
    go false = refl
sooner-assoc (Some f) (Some g) (Some h) = some-assoc f g h (is_before g f) (is_before h g) refl refl

pub first-append : (xs ys : List Fault) → first_fault (xs ++ ys) ≡ sooner (first_fault xs) (first_fault ys)
first-append [] ys = refl
first-append (x ∷ xs) ys = ap (sooner (Some x)) (first-append xs ys) ∙ sym (sooner-assoc (Some x) (first_fault xs) (first_fault ys))

pub sooner-none : (o : Option Fault) → sooner o None ≡ o
sooner-none None = refl
sooner-none (Some f) = refl

pub first-unless : (b : Bool) (c : Cause) (at : Span) → first_fault (unless b c at) ≡ own b c at
first-unless true c at = refl
first-unless false c at = refl

-- there is a first fault exactly where there is one
pub first-clear : (xs : List Fault) → is_none (first_fault xs) ≡ is_clear xs
first-clear [] = refl
first-clear (x ∷ xs) = go (first_fault xs)
  where
    both : (b : Bool) (g : Fault) → is_none (cond b (Some g) (Some x)) ≡ false
    both true g = refl
    both false g = refl

    go : (o : Option Fault) → is_none (sooner (Some x) o) ≡ false
    go None = refl
    go (Some g) = both (is_before g x) g
