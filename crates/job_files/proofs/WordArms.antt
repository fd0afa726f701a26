-- Words and the number 1, at an index.
use Rattle.std.specs.Prelude.{slice_get, nat_eq, ◌&&◌}
use Rattle.std.specs.Str.{bytes_eq}
use Rattle.std.proofs.Common.{◌≡◌, ℕ, zero, suc, ◌+◌, Bool, true, false, List, [], ◌∷◌, drop, Option, Some, None, refl, sym, ap, ◌∙◌, subst}
use Rattle.std.proofs.lemmas.Bool.{eqb-true, eq-eqb}
use Rattle.murphi_ast.specs.declared.token.Token.{Token}
use Rattle.murphi_grammar.specs.declared.symbol.Symbol.{Symbol}
use Rattle.murphi_grammar.specs.declared.symbol.Symbol.TheVariants as t
use Rattle.murphi_grammar.specs.Symbols.{symbol_of}
use Rattle.murphi_grammar.specs.Tables.{code}
use Rattle.murphi_grammar.specs.Parts.{one}
use Rattle.murphi_expressions.specs.Says.{can_begin}
use Rattle.murphi_expressions.proofs.Heads.{token_here, drop_some, drop_none, at_some}
use Rattle.job_files.specs.Files.{IsOne, IsWord}
use Rattle.job_files.specs.Walks.{IsNext, IsNotNext, Has}

-- the token at an index is the next one

same_next : (x y : Token) (rest more : List Token) → x ∷ rest ≡ y ∷ more → x ≡ y
same_next x y rest more h = cc

pub nothing_next : (So : Token → Type 0) (ts : List Token) (at : ℕ) → slice_get ts at ≡ None → IsNotNext So (drop at ts)
nothing_next So ts at h x rest k q = absurd (never (sym (drop_none ts at h) ∙ k))
  where
    never : [] ≡ x ∷ rest → ⊥
    never m = cc

pub next_is_not : (So : Token → Type 0) (ts : List Token) (at : ℕ) (x : Token) → slice_get ts at ≡ Some x → (So x → ⊥) → IsNotNext So (drop at ts)
next_is_not So ts at x h never y rest k q = never (subst (λ z. So z) (sym (same_next x y (drop (at + 1) ts) rest (sym (drop_some ts at x h) ∙ k))) q)

-- the symbol of the token at an index
pub symbol_here : (s : Symbol) (ts : List Token) (at : ℕ) (x : Token) → slice_get ts at ≡ Some x → can_begin (one s) ts at ≡ true → symbol_of x ≡ s
symbol_here s ts at x h k =
    let w = token_here s ts at k in
    ap symbol_of (same_next x w.0 (drop (at + 1) ts) (drop (at + 1) ts) (sym (drop_some ts at x h) ∙ w.1)) ∙ w.2

true_false : {A : Type 0} {b : Bool} → b ≡ true → b ≡ false → A
true_false h k = absurd (cc)

pub symbol_not : (s : Symbol) (ts : List Token) (at : ℕ) (x : Token) → slice_get ts at ≡ Some x → can_begin (one s) ts at ≡ false → symbol_of x ≡ s → ⊥
symbol_not s ts at x h k q = true_false (sym (at_some s ts at x h) ∙ self (symbol_of x) s q) k
  where
    code_self : (n : ℕ) → nat_eq n n ≡ true
    code_self n = eq-eqb n n refl

    self : (a b : Symbol) → a ≡ b → nat_eq (code a) (code b) ≡ true
    self a b q = subst (λ z. nat_eq (code a) (code z) ≡ true) q (code_self (code a))

-- names that are equal byte by byte

pub bytes_self : (xs : List ℕ) → bytes_eq xs xs ≡ true
bytes_self [] = refl
bytes_self (x ∷ xs) = go (nat_eq x x) (one_self x) (bytes_self xs)
  where
    one_self : (n : ℕ) → nat_eq n n ≡ true
    one_self n = eq-eqb n n refl

    go : (b : Bool) → b ≡ true → bytes_eq xs xs ≡ true → b && bytes_eq xs xs ≡ true
    go true h k = k
    go false h k = absurd (cc)

pub bytes_true : (xs ys : List ℕ) → bytes_eq xs ys ≡ true → xs ≡ ys
bytes_true [] [] e = refl
bytes_true [] (y ∷ ys) e = cc
bytes_true (x ∷ xs) [] e = cc
bytes_true (x ∷ xs) (y ∷ ys) e = go (nat_eq x y) refl e (λ k. bytes_true xs ys k)
  where
    go : (b : Bool) → nat_eq x y ≡ b → b && bytes_eq xs ys ≡ true → (bytes_eq xs ys ≡ true → xs ≡ ys) → x ∷ xs ≡ y ∷ ys
    go true h k later = let a : x ≡ y = eqb-true x y h in let b : xs ≡ ys = later k in cc
    go false h k later = absurd (cc)

pub bytes_not : (xs ys : List ℕ) → bytes_eq xs ys ≡ false → xs ≡ ys → ⊥
bytes_not xs ys h k = true_false (subst (λ z. bytes_eq xs z ≡ true) k (bytes_self xs)) h

pub one_not : (x : Token) → nat_eq x.number 1 ≡ false → x.number ≡ 1 → ⊥
one_not x h k = true_false (ap (λ n. nat_eq n 1) k) h

pub ruleset wording = (nothing_next, next_is_not, symbol_here, symbol_not, bytes_true, bytes_not)
