-- The tokens from an index on.
use Rattle.std.proofs.Common.{◌≡◌, ℕ, zero, suc, ◌+◌, true, false, List, [], ◌∷◌, drop, Some, None, refl, sym, ap, ◌∙◌, add-one}
use Rattle.std.specs.Prelude.{slice_get}
use Rattle.murphi_ast.specs.declared.token.Token.{Token}
use Rattle.murphi_ast.specs.declared.terminal.Terminal.{Terminal}
use Rattle.murphi_ast.specs.declared.terminal.Terminal.TheVariants as t
use Rattle.murphi_ast.specs.Terminal.{terminal_of}
use Rattle.murphi_syntax.specs.Reading.{head, tail}
use Rattle.murphi_syntax.specs.Protocols.{is_last, is_end}

-- the token at an index stands first from there on
drop_here : (tokens : List Token) (at : ℕ) (token : Token) → slice_get tokens at ≡ Some token → drop at tokens ≡ token ∷ drop (suc at) tokens
drop_here [] at token h = cc
drop_here (x ∷ xs) zero token h = let e : x ≡ token = cc in ap (λ y. y ∷ xs) e
drop_here (x ∷ xs) (suc at) token h = drop_here xs at token h

pub drop_some : (tokens : List Token) (at : ℕ) (token : Token) → slice_get tokens at ≡ Some token → drop at tokens ≡ token ∷ drop (at + 1) tokens
drop_some tokens at token h = rw add-one (drop_here tokens at token h)

pub drop_none : (tokens : List Token) (at : ℕ) → slice_get tokens at ≡ None → drop at tokens ≡ []
drop_none [] zero h = refl
drop_none [] (suc at) h = refl
drop_none (x ∷ xs) zero h = cc
drop_none (x ∷ xs) (suc at) h = drop_none xs at h

pub head_some : (tokens : List Token) (at : ℕ) (token : Token) → slice_get tokens at ≡ Some token → terminal_of token ≡ head (drop at tokens)
head_some tokens at token h = ap head (sym (drop_some tokens at token h))

pub head_none : (tokens : List Token) (at : ℕ) → slice_get tokens at ≡ None → t.EndOfText ≡ head (drop at tokens)
head_none tokens at h = ap head (sym (drop_none tokens at h))

-- behind the first token
tail_here : (tokens : List Token) (at : ℕ) → tail (drop at tokens) ≡ drop (suc at) tokens
tail_here [] zero = refl
tail_here [] (suc at) = refl
tail_here (x ∷ xs) zero = refl
tail_here (x ∷ xs) (suc at) = tail_here xs at

pub tail_drop : (tokens : List Token) (at : ℕ) → tail (drop at tokens) ≡ drop (at + 1) tokens
tail_drop tokens at = rw add-one (tail_here tokens at)

-- the end of a text, and nothing behind it

is_last_not : (symbol : Terminal) (rest : List Token) → (symbol ≡ t.EndOfText → ⊥) → is_last symbol rest ≡ false
is_last_not t.EndOfText rest h = absurd (h refl)
is_last_not _ rest h = refl

pub end_other : (tokens : List Token) (at : ℕ) (token : Token) → slice_get tokens at ≡ Some token → (terminal_of token ≡ t.EndOfText → ⊥) → false ≡ is_end (drop at tokens)
end_other tokens at token here h = sym (ap is_end (drop_some tokens at token here) ∙ is_last_not (terminal_of token) (drop (at + 1) tokens) h)

pub end_none : (tokens : List Token) (at : ℕ) → slice_get tokens at ≡ None → false ≡ is_end (drop at tokens)
end_none tokens at here = sym (ap is_end (drop_none tokens at here))

-- the last token stands here, and these behind it
end_with : (tokens : List Token) (at : ℕ) (token : Token) (rest : List Token) → slice_get tokens at ≡ Some token → t.EndOfText ≡ terminal_of token → drop (at + 1) tokens ≡ rest → is_last t.EndOfText rest ≡ is_end (drop at tokens)
end_with tokens at token rest here is behind =
    sym (ap is_end (drop_some tokens at token here) ∙ ap (λ s. is_last s (drop (at + 1) tokens)) (sym is) ∙ ap (is_last t.EndOfText) behind)

pub end_last : (tokens : List Token) (at : ℕ) (token : Token) → slice_get tokens at ≡ Some token → t.EndOfText ≡ terminal_of token → slice_get tokens (at + 1) ≡ None → true ≡ is_end (drop at tokens)
end_last tokens at token here is next = end_with tokens at token [] here is (drop_none tokens (at + 1) next)

pub end_more : (tokens : List Token) (at : ℕ) (token other : Token) → slice_get tokens at ≡ Some token → t.EndOfText ≡ terminal_of token → slice_get tokens (at + 1) ≡ Some other → false ≡ is_end (drop at tokens)
end_more tokens at token other here is next = end_with tokens at token (other ∷ drop (at + 1 + 1) tokens) here is (drop_some tokens (at + 1) other next)

pub ruleset heads = (head_some, head_none)

pub ruleset ends = (end_other, end_none, end_last, end_more)
