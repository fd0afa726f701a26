-- Signs between operands, and the symbols that begin a form.
use Rattle.std.specs.Prelude.{Bool, Option, slice_get, nat_eq, ◌||◌, map}
use Rattle.std.specs.List.{list_any}
use Rattle.std.proofs.Common.{◌≡◌, ℕ, true, false, List, [], ◌∷◌, drop, Some, None, refl, sym, ap, ◌∙◌, subst}
use Rattle.grammar_core.specs.Test.{is_in, apart, within, head_in}
use Rattle.grammar_core.specs.Walk as u
use Rattle.grammar_core.specs.Walk.{Run}
use Rattle.murphi_ast.specs.declared.token.Token.{Token}
use Rattle.murphi_ast.specs.declared.expr.CompareOp.TheVariants as compare
use Rattle.murphi_ast.specs.declared.expr.ChainOp.{ChainOp}
use Rattle.murphi_ast.specs.declared.expr.ChainOp.TheVariants as chain
use Rattle.murphi_grammar.specs.declared.symbol.Symbol.{Symbol}
use Rattle.murphi_grammar.specs.declared.symbol.Symbol.TheVariants as t
use Rattle.murphi_grammar.specs.Names as n
use Rattle.murphi_grammar.specs.Parts.{one}
use Rattle.murphi_grammar.specs.Pieces.{cut}
use Rattle.murphi_grammar.specs.Tables.{tables, code}
use Rattle.murphi_grammar.specs.Symbols.{symbol_of}
use Rattle.murphi_expressions.specs.Says.{always, IsSign, can_begin, itself}
use Rattle.murphi_expressions.specs.Levels.{IsLinkSign}
use Rattle.murphi_expressions.specs.declared.sign.Level.{Level}
use Rattle.murphi_expressions.specs.declared.sign.Level.TheVariants as level
use Rattle.murphi_expressions.proofs.Heads.{token_here, drop_some, drop_none}
use Rattle.murphi_expressions.proofs.Ways.{included, excluded}

-- whether one of some symbols stands first
among : (a : Symbol) (ss : List Symbol) → list_any (λ s. nat_eq (code a) (code s)) ss ≡ is_in (code a) (map code ss)
unfolding is_in
among a [] = refl
among a (s ∷ ss) = ap (λ z. nat_eq (code a) (code s) || z) (among a ss)

pub among_some : (ts : List Token) (at : ℕ) (x : Token) (ss : List Symbol) → slice_get ts at ≡ Some x → list_any (λ s. nat_eq (code (symbol_of x)) (code s)) ss ≡ head_in tables (map code ss) (drop at ts)
among_some ts at x ss h = among (symbol_of x) ss ∙ ap (head_in tables (map code ss)) (sym (drop_some ts at x h))

pub among_none : (ts : List Token) (at : ℕ) (ss : List Symbol) → slice_get ts at ≡ None → false ≡ head_in tables (map code ss) (drop at ts)
among_none ts at ss h = ap (head_in tables (map code ss)) (sym (drop_none ts at h))

pub ruleset among_all = (among_some, among_none)

-- where none of some symbols stands first
nothing : (rest : List Token) → head_in tables [] rest ≡ false
unfolding is_in
nothing [] = refl
nothing (x ∷ rest) = refl

neither : (s : ℕ) (xs : List ℕ) (rest : List Token) → head_in tables (s ∷ []) rest ≡ false → head_in tables xs rest ≡ false → head_in tables (s ∷ xs) rest ≡ false
unfolding is_in
neither s xs [] g h = refl
neither s xs (x ∷ rest) g h = go (nat_eq (code (symbol_of x)) s) g
  where
    go : (b : Bool) → b || false ≡ false → b || is_in (code (symbol_of x)) xs ≡ false
    go true e = absurd (cc)
    go false e = h

pub one_sign_here : (s : Symbol) (op : ChainOp) (ts : List Token) (at : ℕ) → can_begin (one s) ts at ≡ true → IsSign (one s) (always op) ts at (Some op)
unfolding IsSign
one_sign_here s op ts at h = let w = token_here s ts at h in (w.0, refl, λ k. u.token w.1 w.2, h)

pub one_sign_not : (s : Symbol) (op : ChainOp) (ts : List Token) (at : ℕ) → can_begin (one s) ts at ≡ false → IsSign (one s) (always op) ts at None
unfolding IsSign
one_sign_not s op ts at h = h

pub ruleset one_sign = (one_sign_here, one_sign_not)

pub compared_equal : (ts : List Token) (at : ℕ) → can_begin (one t.Equal) ts at ≡ true →
    IsSign (cut n.CompareSign) itself ts at (Some compare.Equal)
unfolding IsSign can_begin is_in apart within
compared_equal ts at h =
    let w = token_here t.Equal ts at h in
    (_, refl, λ k. u.call refl (u.left h (u.token w.1 w.2)), included (one t.Equal) (cut n.CompareSign) ts at h refl)

pub compared_notequal : (ts : List Token) (at : ℕ) → can_begin (one t.NotEqual) ts at ≡ true →
    IsSign (cut n.CompareSign) itself ts at (Some compare.NotEqual)
unfolding IsSign can_begin is_in apart within
compared_notequal ts at h =
    let w = token_here t.NotEqual ts at h in
    (_, refl, λ k. u.call refl (u.right (excluded (one t.NotEqual) (one t.Equal) ts at h refl) (u.left h (u.token w.1 w.2))), included (one t.NotEqual) (cut n.CompareSign) ts at h refl)

pub compared_less : (ts : List Token) (at : ℕ) → can_begin (one t.Less) ts at ≡ true →
    IsSign (cut n.CompareSign) itself ts at (Some compare.Less)
unfolding IsSign can_begin is_in apart within
compared_less ts at h =
    let w = token_here t.Less ts at h in
    (_, refl, λ k. u.call refl (u.right (excluded (one t.Less) (one t.Equal) ts at h refl) (u.right (excluded (one t.Less) (one t.NotEqual) ts at h refl) (u.left h (u.token w.1 w.2)))), included (one t.Less) (cut n.CompareSign) ts at h refl)

pub compared_lessequal : (ts : List Token) (at : ℕ) → can_begin (one t.LessEqual) ts at ≡ true →
    IsSign (cut n.CompareSign) itself ts at (Some compare.LessEqual)
unfolding IsSign can_begin is_in apart within
compared_lessequal ts at h =
    let w = token_here t.LessEqual ts at h in
    (_, refl, λ k. u.call refl (u.right (excluded (one t.LessEqual) (one t.Equal) ts at h refl) (u.right (excluded (one t.LessEqual) (one t.NotEqual) ts at h refl) (u.right (excluded (one t.LessEqual) (one t.Less) ts at h refl) (u.left h (u.token w.1 w.2))))), included (one t.LessEqual) (cut n.CompareSign) ts at h refl)

pub compared_greater : (ts : List Token) (at : ℕ) → can_begin (one t.Greater) ts at ≡ true →
    IsSign (cut n.CompareSign) itself ts at (Some compare.Greater)
unfolding IsSign can_begin is_in apart within
compared_greater ts at h =
    let w = token_here t.Greater ts at h in
    (_, refl, λ k. u.call refl (u.right (excluded (one t.Greater) (one t.Equal) ts at h refl) (u.right (excluded (one t.Greater) (one t.NotEqual) ts at h refl) (u.right (excluded (one t.Greater) (one t.Less) ts at h refl) (u.right (excluded (one t.Greater) (one t.LessEqual) ts at h refl) (u.left h (u.token w.1 w.2)))))), included (one t.Greater) (cut n.CompareSign) ts at h refl)

pub compared_greaterequal : (ts : List Token) (at : ℕ) → can_begin (one t.GreaterEqual) ts at ≡ true →
    IsSign (cut n.CompareSign) itself ts at (Some compare.GreaterEqual)
unfolding IsSign can_begin is_in apart within
compared_greaterequal ts at h =
    let w = token_here t.GreaterEqual ts at h in
    (_, refl, λ k. u.call refl (u.right (excluded (one t.GreaterEqual) (one t.Equal) ts at h refl) (u.right (excluded (one t.GreaterEqual) (one t.NotEqual) ts at h refl) (u.right (excluded (one t.GreaterEqual) (one t.Less) ts at h refl) (u.right (excluded (one t.GreaterEqual) (one t.LessEqual) ts at h refl) (u.right (excluded (one t.GreaterEqual) (one t.Greater) ts at h refl) (u.token w.1 w.2)))))), included (one t.GreaterEqual) (cut n.CompareSign) ts at h refl)

pub compared_none : (ts : List Token) (at : ℕ) → can_begin (one t.Equal) ts at ≡ false → can_begin (one t.NotEqual) ts at ≡ false → can_begin (one t.Less) ts at ≡ false → can_begin (one t.LessEqual) ts at ≡ false → can_begin (one t.Greater) ts at ≡ false → can_begin (one t.GreaterEqual) ts at ≡ false → IsSign (cut n.CompareSign) itself ts at None
unfolding IsSign can_begin
compared_none ts at h1 h2 h3 h4 h5 h6 =
    neither (code t.NotEqual) _ (drop at ts) h2 (neither (code t.LessEqual) _ (drop at ts) h4 (neither (code t.GreaterEqual) _ (drop at ts) h6 (neither (code t.Equal) _ (drop at ts) h1 (neither (code t.Less) _ (drop at ts) h3 (neither (code t.Greater) _ (drop at ts) h5 (nothing (drop at ts)))))))

pub ruleset comparing = (compared_equal, compared_notequal, compared_less, compared_lessequal, compared_greater, compared_greaterequal, compared_none)

pub added_add : (ts : List Token) (at : ℕ) → can_begin (one t.Plus) ts at ≡ true →
    IsSign (cut n.SumSign) itself ts at (Some chain.Add)
unfolding IsSign can_begin is_in apart within
added_add ts at h =
    let w = token_here t.Plus ts at h in
    (_, refl, λ k. u.call refl (u.left h (u.token w.1 w.2)), included (one t.Plus) (cut n.SumSign) ts at h refl)

pub added_subtract : (ts : List Token) (at : ℕ) → can_begin (one t.Minus) ts at ≡ true →
    IsSign (cut n.SumSign) itself ts at (Some chain.Subtract)
unfolding IsSign can_begin is_in apart within
added_subtract ts at h =
    let w = token_here t.Minus ts at h in
    (_, refl, λ k. u.call refl (u.right (excluded (one t.Minus) (one t.Plus) ts at h refl) (u.token w.1 w.2)), included (one t.Minus) (cut n.SumSign) ts at h refl)

pub added_none : (ts : List Token) (at : ℕ) → can_begin (one t.Plus) ts at ≡ false → can_begin (one t.Minus) ts at ≡ false → IsSign (cut n.SumSign) itself ts at None
unfolding IsSign can_begin
added_none ts at h1 h2 =
    neither (code t.Plus) _ (drop at ts) h1 (neither (code t.Minus) _ (drop at ts) h2 (nothing (drop at ts)))

pub ruleset adding = (added_add, added_subtract, added_none)

pub multiplied_times : (ts : List Token) (at : ℕ) → can_begin (one t.Star) ts at ≡ true →
    IsSign (cut n.ProductSign) itself ts at (Some chain.Times)
unfolding IsSign can_begin is_in apart within
multiplied_times ts at h =
    let w = token_here t.Star ts at h in
    (_, refl, λ k. u.call refl (u.left h (u.token w.1 w.2)), included (one t.Star) (cut n.ProductSign) ts at h refl)

pub multiplied_divide : (ts : List Token) (at : ℕ) → can_begin (one t.Slash) ts at ≡ true →
    IsSign (cut n.ProductSign) itself ts at (Some chain.Divide)
unfolding IsSign can_begin is_in apart within
multiplied_divide ts at h =
    let w = token_here t.Slash ts at h in
    (_, refl, λ k. u.call refl (u.right (excluded (one t.Slash) (one t.Star) ts at h refl) (u.left h (u.token w.1 w.2))), included (one t.Slash) (cut n.ProductSign) ts at h refl)

pub multiplied_modulo : (ts : List Token) (at : ℕ) → can_begin (one t.Percent) ts at ≡ true →
    IsSign (cut n.ProductSign) itself ts at (Some chain.Modulo)
unfolding IsSign can_begin is_in apart within
multiplied_modulo ts at h =
    let w = token_here t.Percent ts at h in
    (_, refl, λ k. u.call refl (u.right (excluded (one t.Percent) (one t.Star) ts at h refl) (u.right (excluded (one t.Percent) (one t.Slash) ts at h refl) (u.token w.1 w.2))), included (one t.Percent) (cut n.ProductSign) ts at h refl)

pub multiplied_none : (ts : List Token) (at : ℕ) → can_begin (one t.Star) ts at ≡ false → can_begin (one t.Slash) ts at ≡ false → can_begin (one t.Percent) ts at ≡ false → IsSign (cut n.ProductSign) itself ts at None
unfolding IsSign can_begin
multiplied_none ts at h1 h2 h3 =
    neither (code t.Star) _ (drop at ts) h1 (neither (code t.Slash) _ (drop at ts) h2 (neither (code t.Percent) _ (drop at ts) h3 (nothing (drop at ts))))

pub ruleset multiplying = (multiplied_times, multiplied_divide, multiplied_modulo, multiplied_none)

pub or_sign : (l : Level) (ts : List Token) (at : ℕ) (r : Option ChainOp) → l ≡ level.Or → IsSign (one t.Bar) (always chain.Or) ts at r → IsLinkSign l ts at r
unfolding IsLinkSign
or_sign l ts at r e h = subst (λ z. IsLinkSign z ts at r) (sym e) h

pub and_sign : (l : Level) (ts : List Token) (at : ℕ) (r : Option ChainOp) → l ≡ level.And → IsSign (one t.Ampersand) (always chain.And) ts at r → IsLinkSign l ts at r
unfolding IsLinkSign
and_sign l ts at r e h = subst (λ z. IsLinkSign z ts at r) (sym e) h

pub sum_link_sign : (l : Level) (ts : List Token) (at : ℕ) (r : Option ChainOp) → l ≡ level.Sum → IsSign (cut n.SumSign) itself ts at r → IsLinkSign l ts at r
unfolding IsLinkSign
sum_link_sign l ts at r e h = subst (λ z. IsLinkSign z ts at r) (sym e) h

pub product_link_sign : (l : Level) (ts : List Token) (at : ℕ) (r : Option ChainOp) → l ≡ level.Product → IsSign (cut n.ProductSign) itself ts at r → IsLinkSign l ts at r
unfolding IsLinkSign
product_link_sign l ts at r e h = subst (λ z. IsLinkSign z ts at r) (sym e) h

pub ruleset linking = (or_sign, and_sign, sum_link_sign, product_link_sign)
