-- One lemma for each way through the steps over single tokens.
use Rattle.std.proofs.Common.{inl, inr, ◌≡◌, ℕ, ◌+◌, true, false, List, ◌∷◌, drop, Some, None, Ok, Err, Result, sym, ap, ◌∙◌, subst}
use Rattle.std.specs.Prelude.{slice_get}
use Rattle.grammar_core.specs.Forms.{TreeOf}
use Rattle.grammar_core.specs.Walk as u
use Rattle.grammar_core.specs.Walk.{Run}
use Rattle.murphi_ast.specs.declared.token.Token.{Token}
use Rattle.murphi_grammar.specs.declared.symbol.Symbol.{Symbol}
use Rattle.murphi_grammar.specs.declared.symbol.Symbol.TheVariants as t
use Rattle.murphi_grammar.specs.Parts.{Part, one, nest, ending}
use Rattle.murphi_grammar.specs.Values.{Value, named}
use Rattle.murphi_expressions.specs.Says.{Stops, Passes, Takes, Opens, Enters, can_begin}
use Rattle.murphi_expressions.specs.declared.step.Stop.{Stop}
use Rattle.murphi_expressions.specs.declared.step.Stop.TheVariants.{Wrong, Deep, Memory}
use Rattle.murphi_expressions.proofs.Heads.{token_here, drop_some, at_none}

pub pass_here : (s : Symbol) (ts : List Token) (at : ℕ) → can_begin (one s) ts at ≡ true → Passes (one s) ts at (Ok (at + 1))
unfolding Passes
pass_here s ts at h = let w = token_here s ts at h in (w.0, λ n. u.token w.1 w.2)

pub pass_not : (s : Symbol) (ts : List Token) (at : ℕ) → can_begin (one s) ts at ≡ false → Passes (one s) ts at (Err (Wrong at))
unfolding Passes Stops can_begin
pass_not s ts at h = λ n. u.token_not h

pub end_here : (s : Symbol) (ts : List Token) (at : ℕ) → can_begin (one t.End) ts at ≡ true → Passes (ending s) ts at (Ok (at + 1))
unfolding Passes can_begin
end_here s ts at h = let w = token_here t.End ts at h in (inl w.0, λ n. u.left h (u.token w.1 w.2))

pub word_here : (s : Symbol) (ts : List Token) (at : ℕ) → can_begin (one t.End) ts at ≡ false → can_begin (one s) ts at ≡ true → Passes (ending s) ts at (Ok (at + 1))
unfolding Passes can_begin
word_here s ts at g h = let w = token_here s ts at h in (inr w.0, λ n. u.right g (u.token w.1 w.2))

pub end_not : (s : Symbol) (ts : List Token) (at : ℕ) → can_begin (one t.End) ts at ≡ false → can_begin (one s) ts at ≡ false → Passes (ending s) ts at (Err (Wrong at))
unfolding Passes Stops can_begin
end_not s ts at g h = λ n. u.right_stop g (u.token_not h)

-- a nesting that may not be opened
pub full : (s : Symbol) (n : ℕ) (ts : List Token) (at : ℕ) (e : Stop) → can_begin (one s) ts at ≡ true → Enters at n (Err e) → (f : Part) → Stops (nest s f) n ts at e
unfolding Stops
full s n ts at e h (z, q) f =
    let w = token_here s ts at h in
    subst (λ m. Stops (nest s f) m ts at e) (sym z) (subst (λ j. Stops (nest s f) 0 ts at j) (sym q) (u.nest_full w.1 w.2))

pub open_not : (s : Symbol) (n : ℕ) (ts : List Token) (at : ℕ) → can_begin (one s) ts at ≡ false → Opens s n ts at (Err (Wrong at))
unfolding Opens Stops can_begin
open_not s n ts at h = λ f. u.nest_not h

pub open_here : (s : Symbol) (n : ℕ) (ts : List Token) (at : ℕ) (r : Result ℕ Stop) → can_begin (one s) ts at ≡ true → Enters at n r → Opens s n ts at r
unfolding Opens
open_here s n ts at (Ok m) h e = (h, e)
open_here s n ts at (Err k) h e = λ f. full s n ts at k h e f

pub ruleset expecting = (pass_here, pass_not, end_here, word_here, end_not, open_not, open_here)

pub no_name : (ts : List Token) (at : ℕ) → can_begin (one t.Name) ts at ≡ false → Takes (one t.Name) named ts at (Err (Wrong at))
unfolding Takes Stops can_begin
no_name ts at h = λ n. u.token_not h

pub no_token : (ts : List Token) (at : ℕ) → slice_get ts at ≡ None → Takes (one t.Name) named ts at (Err (Wrong at))
no_token ts at h = no_name ts at (sym (at_none t.Name ts at h))

pub name_here : (ts : List Token) (at : ℕ) (x : Token) → slice_get ts at ≡ Some x → can_begin (one t.Name) ts at ≡ true → Takes (one t.Name) named ts at (Ok (named x, at + 1))
unfolding Takes
name_here ts at x e h =
    let w = token_here t.Name ts at h in
    let q : x ∷ drop (at + 1) ts ≡ w.0 ∷ drop (at + 1) ts = sym (drop_some ts at x e) ∙ w.1 in
    let k : x ≡ w.0 = cc in
    (w.0, ap named k, λ n. u.token w.1 w.2)

pub takes_no_memory : {V : Type 0} (f : Part) (made : TreeOf Token Value f → V) (ts : List Token) (at : ℕ) (e : Stop) → e ≡ Memory → Takes f made ts at (Err e)
unfolding Takes Stops
takes_no_memory f made ts at (Wrong j) h = absurd (cc)
takes_no_memory f made ts at (Deep j) h = absurd (cc)
takes_no_memory f made ts at Memory h = λ n. tt

pub ruleset naming = (no_name, no_token, name_here, takes_no_memory)
