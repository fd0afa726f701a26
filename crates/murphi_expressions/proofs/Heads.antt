-- The tokens from an index on.
use Rattle.std.proofs.Common.{inl, inr, ◌≡◌, ℕ, zero, suc, ◌+◌, true, false, List, [], ◌∷◌, drop, Some, None, refl, sym, ap, ◌∙◌, add-one}
use Rattle.std.specs.Prelude.{slice_get, nat_eq, ◌||◌}
use Rattle.std.proofs.lemmas.Bool.{eqb-true}
use Rattle.grammar_core.specs.Test.{is_in, head_in}
use Rattle.grammar_core.proofs.Sets.{one_of}
use Rattle.murphi_ast.specs.declared.token.Token.{Token}
use Rattle.murphi_grammar.specs.declared.symbol.Symbol.{Symbol}
use Rattle.murphi_grammar.specs.Symbols.{symbol_of}
use Rattle.murphi_grammar.specs.Parts.{one}
use Rattle.murphi_grammar.specs.Tables.{code, tables}
use Rattle.murphi_grammar.proofs.Decided.{differ}
use Rattle.murphi_expressions.specs.Says.{can_begin, place_of, number_of}

drop_here : (ts : List Token) (at : ℕ) (x : Token) → slice_get ts at ≡ Some x → drop at ts ≡ x ∷ drop (suc at) ts
drop_here [] at x h = cc
drop_here (y ∷ ys) zero x h = let e : y ≡ x = cc in ap (λ z. z ∷ ys) e
drop_here (y ∷ ys) (suc at) x h = drop_here ys at x h

pub drop_some : (ts : List Token) (at : ℕ) (x : Token) → slice_get ts at ≡ Some x → drop at ts ≡ x ∷ drop (at + 1) ts
drop_some ts at x h = rw add-one (drop_here ts at x h)

pub drop_none : (ts : List Token) (at : ℕ) → slice_get ts at ≡ None → drop at ts ≡ []
drop_none [] zero h = refl
drop_none [] (suc at) h = refl
drop_none (x ∷ xs) zero h = cc
drop_none (x ∷ xs) (suc at) h = drop_none xs at h

pub at_some : (s : Symbol) (ts : List Token) (at : ℕ) (x : Token) → slice_get ts at ≡ Some x → nat_eq (code (symbol_of x)) (code s) ≡ can_begin (one s) ts at
unfolding can_begin is_in
at_some s ts at x h = or_false (nat_eq (code (symbol_of x)) (code s)) ∙ ap (head_in tables (code s ∷ [])) (sym (drop_some ts at x h))
  where
    or_false : (b : _) → b ≡ b || false
    or_false true = refl
    or_false false = refl

pub at_none : (s : Symbol) (ts : List Token) (at : ℕ) → slice_get ts at ≡ None → false ≡ can_begin (one s) ts at
unfolding can_begin
at_none s ts at h = ap (head_in tables (code s ∷ [])) (sym (drop_none ts at h))

pub place_some : (ts : List Token) (at : ℕ) (x : Token) → slice_get ts at ≡ Some x → x.at ≡ place_of (drop at ts)
place_some ts at x h = ap place_of (sym (drop_some ts at x h))

pub place_none : (ts : List Token) (at : ℕ) → slice_get ts at ≡ None → record { line = 1; column = 1 } ≡ place_of (drop at ts)
place_none ts at h = ap place_of (sym (drop_none ts at h))

pub number_some : (ts : List Token) (at : ℕ) (x : Token) → slice_get ts at ≡ Some x → x.number ≡ number_of (drop at ts)
number_some ts at x h = ap number_of (sym (drop_some ts at x h))

pub number_none : (ts : List Token) (at : ℕ) → slice_get ts at ≡ None → 0 ≡ number_of (drop at ts)
number_none ts at h = ap number_of (sym (drop_none ts at h))

pub ruleset heads = (at_some, at_none, place_some, place_none, number_some, number_none)

-- where a symbol stands, a token with this symbol stands first
has_head : (s : Symbol) (rest : List Token) → head_in tables (code s ∷ []) rest ≡ true → (x : Token) × (l : List Token) × (rest ≡ x ∷ l) × (symbol_of x ≡ s)
unfolding is_in
has_head s [] h = absurd (cc)
has_head s (x ∷ l) h = elim (one_of (nat_eq (code (symbol_of x)) (code s)) false h) [ inl k ↦ (x, l, refl, differ _ _ (eqb-true _ _ k)) | inr k ↦ absurd (cc) ]

drop_tail : (ts : List Token) (at : ℕ) (x : Token) (l : List Token) → drop at ts ≡ x ∷ l → l ≡ drop (suc at) ts
drop_tail [] zero x l e = cc
drop_tail [] (suc at) x l e = cc
drop_tail (y ∷ ys) zero x l e = cc
drop_tail (y ∷ ys) (suc at) x l e = drop_tail ys at x l e

pub token_here : (s : Symbol) (ts : List Token) (at : ℕ) → can_begin (one s) ts at ≡ true → (x : Token) × (drop at ts ≡ x ∷ drop (at + 1) ts) × (symbol_of x ≡ s)
unfolding can_begin
token_here s ts at h =
    let w = has_head s (drop at ts) h in
    (w.0, w.2 ∙ ap (λ z. w.0 ∷ z) (drop_tail ts at w.0 w.1 w.2 ∙ ap (λ z. drop z ts) (sym (add-one at))), w.3)
