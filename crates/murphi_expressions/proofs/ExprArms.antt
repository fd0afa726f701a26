-- One lemma for each way through the readers of expressions: what was read of the parts is read of the whole.
use Rattle.std.proofs.Common.{◌≡◌, ℕ, ◌+◌, true, false, List, [], drop, Ok, Err, Result, refl, ap, ◌∙◌}
use Rattle.grammar_core.specs.Test.{is_in, apart, within}
use Rattle.grammar_core.specs.Walk as u
use Rattle.grammar_core.specs.Walk.{Run}
use Rattle.murphi_ast.specs.declared.token.Token.{Token}
use Rattle.murphi_ast.specs.declared.expr.Named.{Named}
use Rattle.murphi_ast.specs.declared.expr.Designator.{Designator}
use Rattle.murphi_ast.specs.declared.expr.Selector as selector
use Rattle.murphi_ast.specs.declared.expr.Selector.{Selector}
use Rattle.murphi_ast.specs.declared.expr.Bind.{Bind}
use Rattle.murphi_ast.specs.declared.expr.TypeExpr as type
use Rattle.murphi_ast.specs.declared.expr.TypeExpr.{TypeExpr}
use Rattle.murphi_ast.specs.declared.expr.Expr as e
use Rattle.murphi_ast.specs.declared.expr.Expr.{Expr}
use Rattle.murphi_grammar.specs.declared.symbol.Symbol.{Symbol}
use Rattle.murphi_grammar.specs.declared.symbol.Symbol.TheVariants as t
use Rattle.murphi_grammar.specs.Names as n
use Rattle.murphi_grammar.specs.Parts.{one, form, ending}
use Rattle.murphi_grammar.specs.Pieces.{cut}
use Rattle.murphi_grammar.specs.Values.{named}
use Rattle.murphi_expressions.specs.Says.{Says, Gives, Takes, Passes, Opens, Enters, can_begin, place_of, number_of}
use Rattle.murphi_expressions.specs.Levels.{SaysChain, SaysLinks}
use Rattle.murphi_expressions.specs.Parts.{bound, bound_parts, primary_of}
use Rattle.murphi_expressions.specs.declared.sign.Level.TheVariants as level
use Rattle.murphi_expressions.specs.declared.step.Stop.{Stop}
use Rattle.murphi_expressions.proofs.Heads.{token_here}
use Rattle.murphi_expressions.proofs.Steps.{full}
use Rattle.murphi_expressions.proofs.Ways.{stops_as, inside, included, excluded, shrunk, no_memory, gives_no_memory}
use Rattle.murphi_expressions.proofs.Loops.{primary_named, unary_other}

pub expr_1 : (k : ℕ) (ts : List Token) (at : ℕ) (s : Stop) → Says n.Implies k ts at (Err s) →
    Says n.Expr k ts at (Err s)
unfolding primary_of Says SaysChain SaysLinks Gives Takes Passes Opens can_begin is_in apart within
expr_1 k ts at s h1 = stops_as ts at at s (λ why rest q. u.call_stop (u.seq_first q)) h1

pub expr_2 : (k : ℕ) (ts : List Token) (at : ℕ) (x : Expr) (next : ℕ) (s : Stop) →
    Says n.Implies k ts at (Ok (x, next)) → can_begin (one t.Question) ts next ≡ true → Enters next k (Err s) →
    Says n.Expr k ts at (Err s)
unfolding primary_of Says SaysChain SaysLinks Gives Takes Passes Opens can_begin is_in apart within
expr_2 k ts at x next s h1 h2 h3 =
    stops_as ts next at s (λ why rest q. u.call_stop (u.seq_second h1 (u.left_stop h2 q))) (full t.Question k ts next s h2 h3 _)

pub expr_3 : (k : ℕ) (ts : List Token) (at : ℕ) (x : Expr) (next : ℕ) (m : ℕ) (s : Stop) →
    Says n.Implies k ts at (Ok (x, next)) → can_begin (one t.Question) ts next ≡ true → k ≡ m + 1 →
    Says n.Expr m ts (next + 1) (Err s) → Says n.Expr k ts at (Err s)
unfolding primary_of Says SaysChain SaysLinks Gives Takes Passes Opens can_begin is_in apart within
expr_3 k ts at x next m s h1 h2 h3 h4 =
    let w1 = token_here t.Question ts next h2 in
    stops_as ts (next + 1) at s (λ why rest q. u.call_stop (u.seq_second h1 (u.left_stop h2 (u.nest_stop w1.1 w1.2 (inside k m h3) (u.seq_first q))))) h4

pub expr_4 : (k : ℕ) (ts : List Token) (at : ℕ) (x : Expr) (next : ℕ) (m : ℕ) (y : Expr) (colon : ℕ) (s : Stop) →
    Says n.Implies k ts at (Ok (x, next)) → can_begin (one t.Question) ts next ≡ true → k ≡ m + 1 →
    Says n.Expr m ts (next + 1) (Ok (y, colon)) → Passes (one t.Colon) ts colon (Err s) →
    Says n.Expr k ts at (Err s)
unfolding primary_of Says SaysChain SaysLinks Gives Takes Passes Opens can_begin is_in apart within
expr_4 k ts at x next m y colon s h1 h2 h3 h4 h5 =
    let w1 = token_here t.Question ts next h2 in
    stops_as ts colon at s (λ why rest q. u.call_stop (u.seq_second h1 (u.left_stop h2 (u.nest_stop w1.1 w1.2 (inside k m h3) (u.seq_second h4 (u.seq_first q)))))) (h5 m)

pub expr_5 :
    (k : ℕ) (ts : List Token) (at : ℕ) (x : Expr) (next : ℕ) (m : ℕ) (y : Expr) (colon : ℕ) (behind : ℕ) (s : Stop) →
    Says n.Implies k ts at (Ok (x, next)) → can_begin (one t.Question) ts next ≡ true → k ≡ m + 1 →
    Says n.Expr m ts (next + 1) (Ok (y, colon)) → Passes (one t.Colon) ts colon (Ok behind) →
    Says n.Expr m ts behind (Err s) → Says n.Expr k ts at (Err s)
unfolding primary_of Says SaysChain SaysLinks Gives Takes Passes Opens can_begin is_in apart within
expr_5 k ts at x next m y colon behind s h1 h2 h3 h4 h5 h6 =
    let w1 = token_here t.Question ts next h2 in
    stops_as ts behind at s (λ why rest q. u.call_stop (u.seq_second h1 (u.left_stop h2 (u.nest_stop w1.1 w1.2 (inside k m h3) (u.seq_second h4 (u.seq_second (h5.1 m) q)))))) h6

pub expr_6 :
    (k : ℕ) (ts : List Token) (at : ℕ) (x : Expr) (next : ℕ) (m : ℕ) (y : Expr) (colon : ℕ) (behind : ℕ) (z : Expr) (end : ℕ) →
    Says n.Implies k ts at (Ok (x, next)) → can_begin (one t.Question) ts next ≡ true → k ≡ m + 1 →
    Says n.Expr m ts (next + 1) (Ok (y, colon)) → Passes (one t.Colon) ts colon (Ok behind) →
    Says n.Expr m ts behind (Ok (z, end)) → Says n.Expr k ts at (Ok (e.Choice x y z, end))
unfolding primary_of Says SaysChain SaysLinks Gives Takes Passes Opens can_begin is_in apart within
expr_6 k ts at x next m y colon behind z end h1 h2 h3 h4 h5 h6 =
    let w1 = token_here t.Question ts next h2 in
    u.call refl (u.seq h1 (u.left h2 (u.nest w1.1 w1.2 (inside k m h3) (u.seq h4 (u.seq (h5.1 m) h6)))))

pub expr_7 : (k : ℕ) (ts : List Token) (at : ℕ) (x : Expr) (next : ℕ) → Says n.Implies k ts at (Ok (x, next)) →
    can_begin (one t.Question) ts next ≡ false → Says n.Expr k ts at (Ok (x, next))
unfolding primary_of Says SaysChain SaysLinks Gives Takes Passes Opens can_begin is_in apart within
expr_7 k ts at x next h1 h2 = u.call refl (u.seq h1 (u.right h2 u.empty))

pub ruleset expr_arms = (expr_1, expr_2, expr_3, expr_4, expr_5, expr_6, expr_7, no_memory)

pub implies_1 : (k : ℕ) (ts : List Token) (at : ℕ) (s : Stop) → SaysChain level.Or k ts at (Err s) →
    Says n.Implies k ts at (Err s)
unfolding primary_of Says SaysChain SaysLinks Gives Takes Passes Opens can_begin is_in apart within
implies_1 k ts at s h1 = stops_as ts at at s (λ why rest q. u.call_stop (u.seq_first q)) h1

pub implies_2 : (k : ℕ) (ts : List Token) (at : ℕ) (x : Expr) (next : ℕ) (s : Stop) →
    SaysChain level.Or k ts at (Ok (x, next)) → can_begin (one t.Arrow) ts next ≡ true → Enters next k (Err s) →
    Says n.Implies k ts at (Err s)
unfolding primary_of Says SaysChain SaysLinks Gives Takes Passes Opens can_begin is_in apart within
implies_2 k ts at x next s h1 h2 h3 =
    stops_as ts next at s (λ why rest q. u.call_stop (u.seq_second h1 (u.left_stop h2 q))) (full t.Arrow k ts next s h2 h3 _)

pub implies_3 : (k : ℕ) (ts : List Token) (at : ℕ) (x : Expr) (next : ℕ) (m : ℕ) (s : Stop) →
    SaysChain level.Or k ts at (Ok (x, next)) → can_begin (one t.Arrow) ts next ≡ true → k ≡ m + 1 →
    SaysChain level.Or m ts (next + 1) (Err s) → Says n.Implies k ts at (Err s)
unfolding primary_of Says SaysChain SaysLinks Gives Takes Passes Opens can_begin is_in apart within
implies_3 k ts at x next m s h1 h2 h3 h4 =
    let w1 = token_here t.Arrow ts next h2 in
    stops_as ts (next + 1) at s (λ why rest q. u.call_stop (u.seq_second h1 (u.left_stop h2 (u.nest_stop w1.1 w1.2 (inside k m h3) q)))) h4

pub implies_4 : (k : ℕ) (ts : List Token) (at : ℕ) (x : Expr) (next : ℕ) (m : ℕ) (y : Expr) (end : ℕ) →
    SaysChain level.Or k ts at (Ok (x, next)) → can_begin (one t.Arrow) ts next ≡ true → k ≡ m + 1 →
    SaysChain level.Or m ts (next + 1) (Ok (y, end)) → Says n.Implies k ts at (Ok (e.Implies x y, end))
unfolding primary_of Says SaysChain SaysLinks Gives Takes Passes Opens can_begin is_in apart within
implies_4 k ts at x next m y end h1 h2 h3 h4 =
    let w1 = token_here t.Arrow ts next h2 in
    u.call refl (u.seq h1 (u.left h2 (u.nest w1.1 w1.2 (inside k m h3) h4)))

pub implies_5 : (k : ℕ) (ts : List Token) (at : ℕ) (x : Expr) (next : ℕ) →
    SaysChain level.Or k ts at (Ok (x, next)) → can_begin (one t.Arrow) ts next ≡ false →
    Says n.Implies k ts at (Ok (x, next))
unfolding primary_of Says SaysChain SaysLinks Gives Takes Passes Opens can_begin is_in apart within
implies_5 k ts at x next h1 h2 = u.call refl (u.seq h1 (u.right h2 u.empty))

pub ruleset implies_arms = (implies_1, implies_2, implies_3, implies_4, implies_5, no_memory)

pub not_1 : (k : ℕ) (ts : List Token) (at : ℕ) (s : Stop) → can_begin (one t.Bang) ts at ≡ true →
    Enters at k (Err s) → Says n.Not k ts at (Err s)
unfolding primary_of Says SaysChain SaysLinks Gives Takes Passes Opens can_begin is_in apart within
not_1 k ts at s h1 h2 =
    stops_as ts at at s (λ why rest q. u.call_stop (u.left_stop h1 q)) (full t.Bang k ts at s h1 h2 _)

pub not_2 : (k : ℕ) (ts : List Token) (at : ℕ) (m : ℕ) (s : Stop) → can_begin (one t.Bang) ts at ≡ true →
    k ≡ m + 1 → Says n.Not m ts (at + 1) (Err s) → Says n.Not k ts at (Err s)
unfolding primary_of Says SaysChain SaysLinks Gives Takes Passes Opens can_begin is_in apart within
not_2 k ts at m s h1 h2 h3 =
    let w1 = token_here t.Bang ts at h1 in
    stops_as ts (at + 1) at s (λ why rest q. u.call_stop (u.left_stop h1 (u.nest_stop w1.1 w1.2 (inside k m h2) q))) h3

pub not_3 : (k : ℕ) (ts : List Token) (at : ℕ) (m : ℕ) (x : Expr) (next : ℕ) → can_begin (one t.Bang) ts at ≡ true →
    k ≡ m + 1 → Says n.Not m ts (at + 1) (Ok (x, next)) →
    Says n.Not k ts at (Ok (e.Not x (place_of (drop at ts)), next))
unfolding primary_of Says SaysChain SaysLinks Gives Takes Passes Opens can_begin is_in apart within
not_3 k ts at m x next h1 h2 h3 =
    let w1 = token_here t.Bang ts at h1 in
    u.call (ap (λ z. (e.Not x (place_of z))) w1.1) (u.left h1 (u.nest w1.1 w1.2 (inside k m h2) h3))

pub not_4 : (k : ℕ) (ts : List Token) (at : ℕ) (r : Result (Expr × ℕ) Stop) → can_begin (one t.Bang) ts at ≡ false →
    Says n.Compare k ts at r → Says n.Not k ts at r
unfolding primary_of Says SaysChain SaysLinks Gives Takes Passes Opens can_begin is_in apart within
not_4 k ts at (Ok (x, next)) h1 h2 = u.call refl (u.right h1 h2)
not_4 k ts at (Err s) h1 h2 = stops_as ts at at s (λ why rest q. u.call_stop (u.right_stop h1 q)) h2

pub ruleset not_arms = (not_1, not_2, not_3, not_4, no_memory)

pub other_unary_1 : (k : ℕ) (ts : List Token) (at : ℕ) (s : Stop) → can_begin (one t.Minus) ts at ≡ true →
    Enters at k (Err s) → Says (n.Cut n.OtherUnary) k ts at (Err s)
unfolding primary_of Says SaysChain SaysLinks Gives Takes Passes Opens can_begin is_in apart within
other_unary_1 k ts at s h1 h2 =
    stops_as ts at at s (λ why rest q. u.call_stop (u.left_stop h1 q)) (full t.Minus k ts at s h1 h2 _)

pub other_unary_2 : (k : ℕ) (ts : List Token) (at : ℕ) (m : ℕ) (s : Stop) → can_begin (one t.Minus) ts at ≡ true →
    k ≡ m + 1 → Says n.Unary m ts (at + 1) (Err s) → Says (n.Cut n.OtherUnary) k ts at (Err s)
unfolding primary_of Says SaysChain SaysLinks Gives Takes Passes Opens can_begin is_in apart within
other_unary_2 k ts at m s h1 h2 h3 =
    let w1 = token_here t.Minus ts at h1 in
    stops_as ts (at + 1) at s (λ why rest q. u.call_stop (u.left_stop h1 (u.nest_stop w1.1 w1.2 (inside k m h2) q))) h3

pub other_unary_3 : (k : ℕ) (ts : List Token) (at : ℕ) (m : ℕ) (x : Expr) (next : ℕ) →
    can_begin (one t.Minus) ts at ≡ true → k ≡ m + 1 → Says n.Unary m ts (at + 1) (Ok (x, next)) →
    Says (n.Cut n.OtherUnary) k ts at (Ok (e.Minus x (place_of (drop at ts)), next))
unfolding primary_of Says SaysChain SaysLinks Gives Takes Passes Opens can_begin is_in apart within
other_unary_3 k ts at m x next h1 h2 h3 =
    let w1 = token_here t.Minus ts at h1 in
    u.call (ap (λ z. (e.Minus x (place_of z))) w1.1) (u.left h1 (u.nest w1.1 w1.2 (inside k m h2) h3))

pub other_unary_4 : (k : ℕ) (ts : List Token) (at : ℕ) (r : Result (Expr × ℕ) Stop) →
    can_begin (one t.Minus) ts at ≡ false → Says (n.Cut n.OtherPrimary) k ts at r →
    Says (n.Cut n.OtherUnary) k ts at r
unfolding primary_of Says SaysChain SaysLinks Gives Takes Passes Opens can_begin is_in apart within
other_unary_4 k ts at (Ok (x, next)) h1 h2 = u.call refl (u.right h1 h2)
other_unary_4 k ts at (Err s) h1 h2 = stops_as ts at at s (λ why rest q. u.call_stop (u.right_stop h1 q)) h2

pub ruleset other_unary_arms = (other_unary_1, other_unary_2, other_unary_3, other_unary_4, no_memory)

pub unary_1 : (k : ℕ) (ts : List Token) (at : ℕ) (s : Stop) → can_begin (one t.Name) ts at ≡ true →
    Takes (one t.Name) named ts at (Err s) → Says n.Unary k ts at (Err s)
unfolding primary_of Says SaysChain SaysLinks Gives Takes Passes Opens can_begin is_in apart within
unary_1 k ts at s h1 h2 =
    stops_as ts at at s (λ why rest q. u.call_stop (u.right_stop (excluded (one t.Name) (one t.Minus) ts at h1 refl) (u.call_stop (u.left_stop h1 (u.call_stop (u.seq_first q)))))) (h2 k)

pub unary_2 : (k : ℕ) (ts : List Token) (at : ℕ) (root : Named) (next : ℕ) (s : Stop) →
    can_begin (one t.Name) ts at ≡ true → Takes (one t.Name) named ts at (Ok (root, next)) →
    Gives (cut n.NameRest) (primary_of root) k ts next (Err s) → Says n.Unary k ts at (Err s)
unfolding primary_of Says SaysChain SaysLinks Gives Takes Passes Opens can_begin is_in apart within
unary_2 k ts at root next s h1 h2 h3 =
    stops_as ts next at s (λ why rest q. u.call_stop (u.right_stop (excluded (one t.Name) (one t.Minus) ts at h1 refl) (u.call_stop (u.left_stop h1 (u.call_stop (u.seq_second (h2.2 k) q)))))) h3

pub unary_3 : (k : ℕ) (ts : List Token) (at : ℕ) (root : Named) (next : ℕ) (x : Expr) (end : ℕ) →
    can_begin (one t.Name) ts at ≡ true → Takes (one t.Name) named ts at (Ok (root, next)) →
    Gives (cut n.NameRest) (primary_of root) k ts next (Ok (x, end)) → Says n.Unary k ts at (Ok (x, end))
unfolding primary_of Says SaysChain SaysLinks Gives Takes Passes Opens can_begin is_in apart within
unary_3 k ts at root next x end h1 h2 h3 =
    u.call (h3.1 ∙ ap (λ z. primary_of z h3.0) h2.1 ∙ primary_named h2.0 h3.0) (u.right (excluded (one t.Name) (one t.Minus) ts at h1 refl) (u.call refl (u.left h1 (u.call refl (u.seq (h2.2 k) h3.2)))))

pub ruleset unary_arms = (unary_1, unary_2, unary_3, no_memory, unary_other)

pub name_rest_1 : (k : ℕ) (ts : List Token) (at : ℕ) (root : Named) (s : Stop) →
    can_begin (one t.Open) ts at ≡ true → Says (n.Cut n.Arguments) k ts at (Err s) →
    Gives (cut n.NameRest) (primary_of root) k ts at (Err s)
unfolding primary_of Says SaysChain SaysLinks Gives Takes Passes Opens can_begin is_in apart within
name_rest_1 k ts at root s h1 h2 = stops_as ts at at s (λ why rest q. u.call_stop (u.left_stop h1 q)) h2

pub name_rest_2 : (k : ℕ) (ts : List Token) (at : ℕ) (root : Named) (xs : List Expr) (end : ℕ) →
    can_begin (one t.Open) ts at ≡ true → Says (n.Cut n.Arguments) k ts at (Ok (xs, end)) →
    Gives (cut n.NameRest) (primary_of root) k ts at (Ok (e.Call root xs, end))
unfolding primary_of Says SaysChain SaysLinks Gives Takes Passes Opens can_begin is_in apart within
name_rest_2 k ts at root xs end h1 h2 = (_, refl, u.call refl (u.left h1 h2))

pub name_rest_3 : (k : ℕ) (ts : List Token) (at : ℕ) (root : Named) (s : Stop) →
    can_begin (one t.Open) ts at ≡ false → Says (n.Cut n.Selectors) k ts at (Err s) →
    Gives (cut n.NameRest) (primary_of root) k ts at (Err s)
unfolding primary_of Says SaysChain SaysLinks Gives Takes Passes Opens can_begin is_in apart within
name_rest_3 k ts at root s h1 h2 = stops_as ts at at s (λ why rest q. u.call_stop (u.right_stop h1 q)) h2

pub name_rest_4 : (k : ℕ) (ts : List Token) (at : ℕ) (root : Named) (xs : List Selector) (end : ℕ) →
    can_begin (one t.Open) ts at ≡ false → Says (n.Cut n.Selectors) k ts at (Ok (xs, end)) →
    Gives (cut n.NameRest) (primary_of root) k ts at (Ok (e.Place (record { root = root; selectors = xs }), end))
unfolding primary_of Says SaysChain SaysLinks Gives Takes Passes Opens can_begin is_in apart within
name_rest_4 k ts at root xs end h1 h2 = (_, refl, u.call refl (u.right h1 h2))

pub ruleset name_rest_arms = (name_rest_1, name_rest_2, name_rest_3, name_rest_4, gives_no_memory)

pub arguments_1 : (k : ℕ) (ts : List Token) (at : ℕ) (s : Stop) → Opens t.Open k ts at (Err s) →
    Says (n.Cut n.Arguments) k ts at (Err s)
unfolding primary_of Says SaysChain SaysLinks Gives Takes Passes Opens can_begin is_in apart within
arguments_1 k ts at s h1 = stops_as ts at at s (λ why rest q. u.call_stop q) (h1 _)

pub arguments_2 : (k : ℕ) (ts : List Token) (at : ℕ) (m : ℕ) (s : Stop) → Opens t.Open k ts at (Ok m) →
    can_begin (form n.Expr) ts (at + 1) ≡ true → Says n.Args m ts (at + 1) (Err s) →
    Says (n.Cut n.Arguments) k ts at (Err s)
unfolding primary_of Says SaysChain SaysLinks Gives Takes Passes Opens can_begin is_in apart within
arguments_2 k ts at m s h1 h2 h3 =
    let w1 = token_here t.Open ts at h1.0 in
    stops_as ts (at + 1) at s (λ why rest q. u.call_stop (u.nest_stop w1.1 w1.2 (inside k m h1.1) (u.seq_first (u.left_stop h2 q)))) h3

pub arguments_3 : (k : ℕ) (ts : List Token) (at : ℕ) (m : ℕ) (xs : List Expr) (next : ℕ) (s : Stop) →
    Opens t.Open k ts at (Ok m) → can_begin (form n.Expr) ts (at + 1) ≡ true →
    Says n.Args m ts (at + 1) (Ok (xs, next)) → Passes (one t.Close) ts next (Err s) →
    Says (n.Cut n.Arguments) k ts at (Err s)
unfolding primary_of Says SaysChain SaysLinks Gives Takes Passes Opens can_begin is_in apart within
arguments_3 k ts at m xs next s h1 h2 h3 h4 =
    let w1 = token_here t.Open ts at h1.0 in
    stops_as ts next at s (λ why rest q. u.call_stop (u.nest_stop w1.1 w1.2 (inside k m h1.1) (u.seq_second (u.left h2 h3) q))) (h4 m)

pub arguments_4 : (k : ℕ) (ts : List Token) (at : ℕ) (m : ℕ) (xs : List Expr) (next : ℕ) (end : ℕ) →
    Opens t.Open k ts at (Ok m) → can_begin (form n.Expr) ts (at + 1) ≡ true →
    Says n.Args m ts (at + 1) (Ok (xs, next)) → Passes (one t.Close) ts next (Ok end) →
    Says (n.Cut n.Arguments) k ts at (Ok (xs, end))
unfolding primary_of Says SaysChain SaysLinks Gives Takes Passes Opens can_begin is_in apart within
arguments_4 k ts at m xs next end h1 h2 h3 h4 =
    let w1 = token_here t.Open ts at h1.0 in
    u.call refl (u.nest w1.1 w1.2 (inside k m h1.1) (u.seq (u.left h2 h3) (h4.1 m)))

pub arguments_5 : (k : ℕ) (ts : List Token) (at : ℕ) (m : ℕ) (s : Stop) → Opens t.Open k ts at (Ok m) →
    can_begin (form n.Expr) ts (at + 1) ≡ false → Passes (one t.Close) ts (at + 1) (Err s) →
    Says (n.Cut n.Arguments) k ts at (Err s)
unfolding primary_of Says SaysChain SaysLinks Gives Takes Passes Opens can_begin is_in apart within
arguments_5 k ts at m s h1 h2 h3 =
    let w1 = token_here t.Open ts at h1.0 in
    stops_as ts (at + 1) at s (λ why rest q. u.call_stop (u.nest_stop w1.1 w1.2 (inside k m h1.1) (u.seq_second (u.right h2 u.empty) q))) (h3 m)

pub arguments_6 : (k : ℕ) (ts : List Token) (at : ℕ) (m : ℕ) (end : ℕ) → Opens t.Open k ts at (Ok m) →
    can_begin (form n.Expr) ts (at + 1) ≡ false → Passes (one t.Close) ts (at + 1) (Ok end) →
    Says (n.Cut n.Arguments) k ts at (Ok ([], end))
unfolding primary_of Says SaysChain SaysLinks Gives Takes Passes Opens can_begin is_in apart within
arguments_6 k ts at m end h1 h2 h3 =
    let w1 = token_here t.Open ts at h1.0 in
    u.call refl (u.nest w1.1 w1.2 (inside k m h1.1) (u.seq (u.right h2 u.empty) (h3.1 m)))

pub ruleset arguments_arms = (arguments_1, arguments_2, arguments_3, arguments_4, arguments_5, arguments_6, no_memory)

pub place_1 : (k : ℕ) (ts : List Token) (at : ℕ) (s : Stop) → Takes (one t.Name) named ts at (Err s) →
    Says n.Place k ts at (Err s)
unfolding primary_of Says SaysChain SaysLinks Gives Takes Passes Opens can_begin is_in apart within
place_1 k ts at s h1 = stops_as ts at at s (λ why rest q. u.call_stop (u.seq_first q)) (h1 k)

pub place_2 : (k : ℕ) (ts : List Token) (at : ℕ) (root : Named) (next : ℕ) (s : Stop) →
    Takes (one t.Name) named ts at (Ok (root, next)) → Says (n.Cut n.Selectors) k ts next (Err s) →
    Says n.Place k ts at (Err s)
unfolding primary_of Says SaysChain SaysLinks Gives Takes Passes Opens can_begin is_in apart within
place_2 k ts at root next s h1 h2 = stops_as ts next at s (λ why rest q. u.call_stop (u.seq_second (h1.2 k) q)) h2

pub place_3 : (k : ℕ) (ts : List Token) (at : ℕ) (root : Named) (next : ℕ) (xs : List Selector) (end : ℕ) →
    Takes (one t.Name) named ts at (Ok (root, next)) → Says (n.Cut n.Selectors) k ts next (Ok (xs, end)) →
    Says n.Place k ts at (Ok (record { root = root; selectors = xs }, end))
unfolding primary_of Says SaysChain SaysLinks Gives Takes Passes Opens can_begin is_in apart within
place_3 k ts at root next xs end h1 h2 =
    u.call (ap (λ z. (record { root = z; selectors = xs })) h1.1) (u.seq (h1.2 k) h2)

pub ruleset place_arms = (place_1, place_2, place_3, no_memory)

pub selector_1 : (k : ℕ) (ts : List Token) (at : ℕ) (s : Stop) → can_begin (one t.Dot) ts at ≡ true →
    Takes (one t.Name) named ts (at + 1) (Err s) → Says (n.Cut n.OneSelector) k ts at (Err s)
unfolding primary_of Says SaysChain SaysLinks Gives Takes Passes Opens can_begin is_in apart within
selector_1 k ts at s h1 h2 =
    let w1 = token_here t.Dot ts at h1 in
    stops_as ts (at + 1) at s (λ why rest q. u.call_stop (u.left_stop h1 (u.seq_second (u.token w1.1 w1.2) q))) (h2 k)

pub selector_2 : (k : ℕ) (ts : List Token) (at : ℕ) (x : Named) (end : ℕ) → can_begin (one t.Dot) ts at ≡ true →
    Takes (one t.Name) named ts (at + 1) (Ok (x, end)) →
    Says (n.Cut n.OneSelector) k ts at (Ok (selector.Field x, end))
unfolding primary_of Says SaysChain SaysLinks Gives Takes Passes Opens can_begin is_in apart within
selector_2 k ts at x end h1 h2 =
    let w1 = token_here t.Dot ts at h1 in
    u.call (ap (λ z. (selector.Field z)) h2.1) (u.left h1 (u.seq (u.token w1.1 w1.2) (h2.2 k)))

pub selector_3 : (k : ℕ) (ts : List Token) (at : ℕ) (s : Stop) → can_begin (one t.Dot) ts at ≡ false →
    Opens t.OpenBracket k ts at (Err s) → Says (n.Cut n.OneSelector) k ts at (Err s)
unfolding primary_of Says SaysChain SaysLinks Gives Takes Passes Opens can_begin is_in apart within
selector_3 k ts at s h1 h2 = stops_as ts at at s (λ why rest q. u.call_stop (u.right_stop h1 q)) (h2 _)

pub selector_4 : (k : ℕ) (ts : List Token) (at : ℕ) (m : ℕ) (s : Stop) → can_begin (one t.Dot) ts at ≡ false →
    Opens t.OpenBracket k ts at (Ok m) → Says n.Expr m ts (at + 1) (Err s) →
    Says (n.Cut n.OneSelector) k ts at (Err s)
unfolding primary_of Says SaysChain SaysLinks Gives Takes Passes Opens can_begin is_in apart within
selector_4 k ts at m s h1 h2 h3 =
    let w1 = token_here t.OpenBracket ts at h2.0 in
    stops_as ts (at + 1) at s (λ why rest q. u.call_stop (u.right_stop (excluded (one t.OpenBracket) (one t.Dot) ts at h2.0 refl) (u.nest_stop w1.1 w1.2 (inside k m h2.1) (u.seq_first q)))) h3

pub selector_5 : (k : ℕ) (ts : List Token) (at : ℕ) (m : ℕ) (x : Expr) (next : ℕ) (s : Stop) →
    can_begin (one t.Dot) ts at ≡ false → Opens t.OpenBracket k ts at (Ok m) →
    Says n.Expr m ts (at + 1) (Ok (x, next)) → Passes (one t.CloseBracket) ts next (Err s) →
    Says (n.Cut n.OneSelector) k ts at (Err s)
unfolding primary_of Says SaysChain SaysLinks Gives Takes Passes Opens can_begin is_in apart within
selector_5 k ts at m x next s h1 h2 h3 h4 =
    let w1 = token_here t.OpenBracket ts at h2.0 in
    stops_as ts next at s (λ why rest q. u.call_stop (u.right_stop (excluded (one t.OpenBracket) (one t.Dot) ts at h2.0 refl) (u.nest_stop w1.1 w1.2 (inside k m h2.1) (u.seq_second h3 q)))) (h4 m)

pub selector_6 : (k : ℕ) (ts : List Token) (at : ℕ) (m : ℕ) (x : Expr) (next : ℕ) (end : ℕ) →
    can_begin (one t.Dot) ts at ≡ false → Opens t.OpenBracket k ts at (Ok m) →
    Says n.Expr m ts (at + 1) (Ok (x, next)) → Passes (one t.CloseBracket) ts next (Ok end) →
    Says (n.Cut n.OneSelector) k ts at (Ok (selector.Index x, end))
unfolding primary_of Says SaysChain SaysLinks Gives Takes Passes Opens can_begin is_in apart within
selector_6 k ts at m x next end h1 h2 h3 h4 =
    let w1 = token_here t.OpenBracket ts at h2.0 in
    u.call refl (u.right (excluded (one t.OpenBracket) (one t.Dot) ts at h2.0 refl) (u.nest w1.1 w1.2 (inside k m h2.1) (u.seq h3 (h4.1 m))))

pub ruleset selector_arms = (selector_1, selector_2, selector_3, selector_4, selector_5, selector_6, no_memory)

pub other_primary_1 : (k : ℕ) (ts : List Token) (at : ℕ) → can_begin (one t.Number) ts at ≡ true →
    Says (n.Cut n.OtherPrimary) k ts at (Ok (e.Number (number_of (drop at ts)) (place_of (drop at ts)), (at + 1)))
unfolding primary_of Says SaysChain SaysLinks Gives Takes Passes Opens can_begin is_in apart within
other_primary_1 k ts at h1 =
    let w1 = token_here t.Number ts at h1 in
    u.call (ap (λ z. (e.Number (number_of z) (place_of z))) w1.1) (u.left h1 (u.token w1.1 w1.2))

pub other_primary_2 : (k : ℕ) (ts : List Token) (at : ℕ) → can_begin (one t.Number) ts at ≡ false →
    can_begin (one t.True) ts at ≡ true →
    Says (n.Cut n.OtherPrimary) k ts at (Ok (e.Truth true (place_of (drop at ts)), (at + 1)))
unfolding primary_of Says SaysChain SaysLinks Gives Takes Passes Opens can_begin is_in apart within
other_primary_2 k ts at h1 h2 =
    let w1 = token_here t.True ts at h2 in
    u.call (ap (λ z. (e.Truth true (place_of z))) w1.1) (u.right (excluded (one t.True) (one t.Number) ts at h2 refl) (u.left h2 (u.token w1.1 w1.2)))

pub other_primary_3 : (k : ℕ) (ts : List Token) (at : ℕ) → can_begin (one t.Number) ts at ≡ false →
    can_begin (one t.True) ts at ≡ false → can_begin (one t.False) ts at ≡ true →
    Says (n.Cut n.OtherPrimary) k ts at (Ok (e.Truth false (place_of (drop at ts)), (at + 1)))
unfolding primary_of Says SaysChain SaysLinks Gives Takes Passes Opens can_begin is_in apart within
other_primary_3 k ts at h1 h2 h3 =
    let w1 = token_here t.False ts at h3 in
    u.call (ap (λ z. (e.Truth false (place_of z))) w1.1) (u.right (excluded (one t.False) (one t.Number) ts at h3 refl) (u.right (excluded (one t.False) (one t.True) ts at h3 refl) (u.left h3 (u.token w1.1 w1.2))))

pub other_primary_4 : (k : ℕ) (ts : List Token) (at : ℕ) (s : Stop) → can_begin (one t.Number) ts at ≡ false →
    can_begin (one t.True) ts at ≡ false → can_begin (one t.False) ts at ≡ false →
    can_begin (one t.Open) ts at ≡ true → Enters at k (Err s) → Says (n.Cut n.OtherPrimary) k ts at (Err s)
unfolding primary_of Says SaysChain SaysLinks Gives Takes Passes Opens can_begin is_in apart within
other_primary_4 k ts at s h1 h2 h3 h4 h5 =
    stops_as ts at at s (λ why rest q. u.call_stop (u.right_stop (excluded (one t.Open) (one t.Number) ts at h4 refl) (u.right_stop (excluded (one t.Open) (one t.True) ts at h4 refl) (u.right_stop (excluded (one t.Open) (one t.False) ts at h4 refl) (u.left_stop h4 q))))) (full t.Open k ts at s h4 h5 _)

pub other_primary_5 : (k : ℕ) (ts : List Token) (at : ℕ) (m : ℕ) (s : Stop) →
    can_begin (one t.Number) ts at ≡ false → can_begin (one t.True) ts at ≡ false →
    can_begin (one t.False) ts at ≡ false → can_begin (one t.Open) ts at ≡ true → k ≡ m + 1 →
    Says n.Expr m ts (at + 1) (Err s) → Says (n.Cut n.OtherPrimary) k ts at (Err s)
unfolding primary_of Says SaysChain SaysLinks Gives Takes Passes Opens can_begin is_in apart within
other_primary_5 k ts at m s h1 h2 h3 h4 h5 h6 =
    let w1 = token_here t.Open ts at h4 in
    stops_as ts (at + 1) at s (λ why rest q. u.call_stop (u.right_stop (excluded (one t.Open) (one t.Number) ts at h4 refl) (u.right_stop (excluded (one t.Open) (one t.True) ts at h4 refl) (u.right_stop (excluded (one t.Open) (one t.False) ts at h4 refl) (u.left_stop h4 (u.nest_stop w1.1 w1.2 (inside k m h5) (u.seq_first q))))))) h6

pub other_primary_6 : (k : ℕ) (ts : List Token) (at : ℕ) (m : ℕ) (x : Expr) (next : ℕ) (s : Stop) →
    can_begin (one t.Number) ts at ≡ false → can_begin (one t.True) ts at ≡ false →
    can_begin (one t.False) ts at ≡ false → can_begin (one t.Open) ts at ≡ true → k ≡ m + 1 →
    Says n.Expr m ts (at + 1) (Ok (x, next)) → Passes (one t.Close) ts next (Err s) →
    Says (n.Cut n.OtherPrimary) k ts at (Err s)
unfolding primary_of Says SaysChain SaysLinks Gives Takes Passes Opens can_begin is_in apart within
other_primary_6 k ts at m x next s h1 h2 h3 h4 h5 h6 h7 =
    let w1 = token_here t.Open ts at h4 in
    stops_as ts next at s (λ why rest q. u.call_stop (u.right_stop (excluded (one t.Open) (one t.Number) ts at h4 refl) (u.right_stop (excluded (one t.Open) (one t.True) ts at h4 refl) (u.right_stop (excluded (one t.Open) (one t.False) ts at h4 refl) (u.left_stop h4 (u.nest_stop w1.1 w1.2 (inside k m h5) (u.seq_second h6 q))))))) (h7 m)

pub other_primary_7 : (k : ℕ) (ts : List Token) (at : ℕ) (m : ℕ) (x : Expr) (next : ℕ) (end : ℕ) →
    can_begin (one t.Number) ts at ≡ false → can_begin (one t.True) ts at ≡ false →
    can_begin (one t.False) ts at ≡ false → can_begin (one t.Open) ts at ≡ true → k ≡ m + 1 →
    Says n.Expr m ts (at + 1) (Ok (x, next)) → Passes (one t.Close) ts next (Ok end) →
    Says (n.Cut n.OtherPrimary) k ts at (Ok (x, end))
unfolding primary_of Says SaysChain SaysLinks Gives Takes Passes Opens can_begin is_in apart within
other_primary_7 k ts at m x next end h1 h2 h3 h4 h5 h6 h7 =
    let w1 = token_here t.Open ts at h4 in
    u.call refl (u.right (excluded (one t.Open) (one t.Number) ts at h4 refl) (u.right (excluded (one t.Open) (one t.True) ts at h4 refl) (u.right (excluded (one t.Open) (one t.False) ts at h4 refl) (u.left h4 (u.nest w1.1 w1.2 (inside k m h5) (u.seq h6 (h7.1 m)))))))

pub other_primary_8 : (k : ℕ) (ts : List Token) (at : ℕ) (r : Result (Expr × ℕ) Stop) →
    can_begin (one t.Number) ts at ≡ false → can_begin (one t.True) ts at ≡ false →
    can_begin (one t.False) ts at ≡ false → can_begin (one t.Open) ts at ≡ false → Says (n.Cut n.Binder) k ts at r →
    Says (n.Cut n.OtherPrimary) k ts at r
unfolding primary_of Says SaysChain SaysLinks Gives Takes Passes Opens can_begin is_in apart within
other_primary_8 k ts at (Ok (x, next)) h1 h2 h3 h4 h5 =
    u.call refl (u.right h1 (u.right h2 (u.right h3 (u.right h4 h5))))
other_primary_8 k ts at (Err s) h1 h2 h3 h4 h5 =
    stops_as ts at at s (λ why rest q. u.call_stop (u.right_stop h1 (u.right_stop h2 (u.right_stop h3 (u.right_stop h4 q))))) h5

pub ruleset other_primary_arms = (
  other_primary_1,
  other_primary_2,
  other_primary_3,
  other_primary_4,
  other_primary_5,
  other_primary_6,
  other_primary_7,
  other_primary_8,
  no_memory,
)

pub binder_1 : (k : ℕ) (ts : List Token) (at : ℕ) (s : Stop) → can_begin (one t.IsUndefined) ts at ≡ true →
    Opens t.Open k ts (at + 1) (Err s) → Says (n.Cut n.Binder) k ts at (Err s)
unfolding primary_of Says SaysChain SaysLinks Gives Takes Passes Opens can_begin is_in apart within
binder_1 k ts at s h1 h2 =
    let w1 = token_here t.IsUndefined ts at h1 in
    stops_as ts (at + 1) at s (λ why rest q. u.call_stop (u.left_stop h1 (u.seq_second (u.token w1.1 w1.2) q))) (h2 _)

pub binder_2 : (k : ℕ) (ts : List Token) (at : ℕ) (m : ℕ) (s : Stop) → can_begin (one t.IsUndefined) ts at ≡ true →
    Opens t.Open k ts (at + 1) (Ok m) → Says n.Place m ts ((at + 1) + 1) (Err s) →
    Says (n.Cut n.Binder) k ts at (Err s)
unfolding primary_of Says SaysChain SaysLinks Gives Takes Passes Opens can_begin is_in apart within
binder_2 k ts at m s h1 h2 h3 =
    let w1 = token_here t.IsUndefined ts at h1 in
    let w2 = token_here t.Open ts (at + 1) h2.0 in
    stops_as ts ((at + 1) + 1) at s (λ why rest q. u.call_stop (u.left_stop h1 (u.seq_second (u.token w1.1 w1.2) (u.nest_stop w2.1 w2.2 (inside k m h2.1) (u.seq_first q))))) h3

pub binder_3 : (k : ℕ) (ts : List Token) (at : ℕ) (m : ℕ) (x : Designator) (next : ℕ) (s : Stop) →
    can_begin (one t.IsUndefined) ts at ≡ true → Opens t.Open k ts (at + 1) (Ok m) →
    Says n.Place m ts ((at + 1) + 1) (Ok (x, next)) → Passes (one t.Close) ts next (Err s) →
    Says (n.Cut n.Binder) k ts at (Err s)
unfolding primary_of Says SaysChain SaysLinks Gives Takes Passes Opens can_begin is_in apart within
binder_3 k ts at m x next s h1 h2 h3 h4 =
    let w1 = token_here t.IsUndefined ts at h1 in
    let w2 = token_here t.Open ts (at + 1) h2.0 in
    stops_as ts next at s (λ why rest q. u.call_stop (u.left_stop h1 (u.seq_second (u.token w1.1 w1.2) (u.nest_stop w2.1 w2.2 (inside k m h2.1) (u.seq_second h3 q))))) (h4 m)

pub binder_4 : (k : ℕ) (ts : List Token) (at : ℕ) (m : ℕ) (x : Designator) (next : ℕ) (end : ℕ) →
    can_begin (one t.IsUndefined) ts at ≡ true → Opens t.Open k ts (at + 1) (Ok m) →
    Says n.Place m ts ((at + 1) + 1) (Ok (x, next)) → Passes (one t.Close) ts next (Ok end) →
    Says (n.Cut n.Binder) k ts at (Ok (e.IsUndefined x (place_of (drop at ts)), end))
unfolding primary_of Says SaysChain SaysLinks Gives Takes Passes Opens can_begin is_in apart within
binder_4 k ts at m x next end h1 h2 h3 h4 =
    let w1 = token_here t.IsUndefined ts at h1 in
    let w2 = token_here t.Open ts (at + 1) h2.0 in
    u.call (ap (λ z. (e.IsUndefined x (place_of z))) w1.1) (u.left h1 (u.seq (u.token w1.1 w1.2) (u.nest w2.1 w2.2 (inside k m h2.1) (u.seq h3 (h4.1 m)))))

pub binder_5 : (k : ℕ) (ts : List Token) (at : ℕ) (s : Stop) → can_begin (one t.IsUndefined) ts at ≡ false →
    can_begin (one t.Forall) ts at ≡ true → Enters at k (Err s) → Says (n.Cut n.Binder) k ts at (Err s)
unfolding primary_of Says SaysChain SaysLinks Gives Takes Passes Opens can_begin is_in apart within
binder_5 k ts at s h1 h2 h3 =
    stops_as ts at at s (λ why rest q. u.call_stop (u.right_stop (excluded (one t.Forall) (one t.IsUndefined) ts at h2 refl) (u.left_stop h2 q))) (full t.Forall k ts at s h2 h3 _)

pub binder_6 : (k : ℕ) (ts : List Token) (at : ℕ) (m : ℕ) (s : Stop) → can_begin (one t.IsUndefined) ts at ≡ false →
    can_begin (one t.Forall) ts at ≡ true → k ≡ m + 1 →
    Gives (bound t.EndForall) (bound_parts t.EndForall) m ts (at + 1) (Err s) →
    Says (n.Cut n.Binder) k ts at (Err s)
unfolding primary_of Says SaysChain SaysLinks Gives Takes Passes Opens can_begin is_in apart within
binder_6 k ts at m s h1 h2 h3 h4 =
    let w1 = token_here t.Forall ts at h2 in
    stops_as ts (at + 1) at s (λ why rest q. u.call_stop (u.right_stop (excluded (one t.Forall) (one t.IsUndefined) ts at h2 refl) (u.left_stop h2 (u.nest_stop w1.1 w1.2 (inside k m h3) q)))) h4

pub binder_7 : (k : ℕ) (ts : List Token) (at : ℕ) (m : ℕ) (b : Bind) (x : Expr) (end : ℕ) →
    can_begin (one t.IsUndefined) ts at ≡ false → can_begin (one t.Forall) ts at ≡ true → k ≡ m + 1 →
    Gives (bound t.EndForall) (bound_parts t.EndForall) m ts (at + 1) (Ok ((b, x), end)) →
    Says (n.Cut n.Binder) k ts at (Ok (e.Quantified true b x (place_of (drop at ts)), end))
unfolding primary_of Says SaysChain SaysLinks Gives Takes Passes Opens can_begin is_in apart within
binder_7 k ts at m b x end h1 h2 h3 h4 =
    let w1 = token_here t.Forall ts at h2 in
    u.call (ap (λ z. (e.Quantified true b x (place_of z))) w1.1 ∙ ap (λ z. (e.Quantified true z.0 z.1 (w1.0).at)) h4.1) (u.right (excluded (one t.Forall) (one t.IsUndefined) ts at h2 refl) (u.left h2 (u.nest w1.1 w1.2 (inside k m h3) h4.2)))

pub binder_8 : (k : ℕ) (ts : List Token) (at : ℕ) (s : Stop) → can_begin (one t.IsUndefined) ts at ≡ false →
    can_begin (one t.Forall) ts at ≡ false → Opens t.Exists k ts at (Err s) → Says (n.Cut n.Binder) k ts at (Err s)
unfolding primary_of Says SaysChain SaysLinks Gives Takes Passes Opens can_begin is_in apart within
binder_8 k ts at s h1 h2 h3 =
    stops_as ts at at s (λ why rest q. u.call_stop (u.right_stop h1 (u.right_stop h2 q))) (h3 _)

pub binder_9 : (k : ℕ) (ts : List Token) (at : ℕ) (m : ℕ) (s : Stop) → can_begin (one t.IsUndefined) ts at ≡ false →
    can_begin (one t.Forall) ts at ≡ false → Opens t.Exists k ts at (Ok m) →
    Gives (bound t.EndExists) (bound_parts t.EndExists) m ts (at + 1) (Err s) →
    Says (n.Cut n.Binder) k ts at (Err s)
unfolding primary_of Says SaysChain SaysLinks Gives Takes Passes Opens can_begin is_in apart within
binder_9 k ts at m s h1 h2 h3 h4 =
    let w1 = token_here t.Exists ts at h3.0 in
    stops_as ts (at + 1) at s (λ why rest q. u.call_stop (u.right_stop (excluded (one t.Exists) (one t.IsUndefined) ts at h3.0 refl) (u.right_stop (excluded (one t.Exists) (one t.Forall) ts at h3.0 refl) (u.nest_stop w1.1 w1.2 (inside k m h3.1) q)))) h4

pub binder_10 : (k : ℕ) (ts : List Token) (at : ℕ) (m : ℕ) (b : Bind) (x : Expr) (end : ℕ) →
    can_begin (one t.IsUndefined) ts at ≡ false → can_begin (one t.Forall) ts at ≡ false →
    Opens t.Exists k ts at (Ok m) →
    Gives (bound t.EndExists) (bound_parts t.EndExists) m ts (at + 1) (Ok ((b, x), end)) →
    Says (n.Cut n.Binder) k ts at (Ok (e.Quantified false b x (place_of (drop at ts)), end))
unfolding primary_of Says SaysChain SaysLinks Gives Takes Passes Opens can_begin is_in apart within
binder_10 k ts at m b x end h1 h2 h3 h4 =
    let w1 = token_here t.Exists ts at h3.0 in
    u.call (ap (λ z. (e.Quantified false b x (place_of z))) w1.1 ∙ ap (λ z. (e.Quantified false z.0 z.1 (w1.0).at)) h4.1) (u.right (excluded (one t.Exists) (one t.IsUndefined) ts at h3.0 refl) (u.right (excluded (one t.Exists) (one t.Forall) ts at h3.0 refl) (u.nest w1.1 w1.2 (inside k m h3.1) h4.2)))

pub ruleset binder_arms = (
  binder_1,
  binder_2,
  binder_3,
  binder_4,
  binder_5,
  binder_6,
  binder_7,
  binder_8,
  binder_9,
  binder_10,
  no_memory,
)

pub bound_1 : (k : ℕ) (ts : List Token) (at : ℕ) (word : Symbol) (s : Stop) → Says n.Bind k ts at (Err s) →
    Gives (bound word) (bound_parts word) k ts at (Err s)
unfolding primary_of Says SaysChain SaysLinks Gives Takes Passes Opens can_begin is_in apart within
bound_1 k ts at word s h1 = stops_as ts at at s (λ why rest q. u.seq_first q) h1

pub bound_2 : (k : ℕ) (ts : List Token) (at : ℕ) (word : Symbol) (b : Bind) (next : ℕ) (s : Stop) →
    Says n.Bind k ts at (Ok (b, next)) → Passes (one t.Do) ts next (Err s) →
    Gives (bound word) (bound_parts word) k ts at (Err s)
unfolding primary_of Says SaysChain SaysLinks Gives Takes Passes Opens can_begin is_in apart within
bound_2 k ts at word b next s h1 h2 = stops_as ts next at s (λ why rest q. u.seq_second h1 (u.seq_first q)) (h2 k)

pub bound_3 : (k : ℕ) (ts : List Token) (at : ℕ) (word : Symbol) (b : Bind) (next : ℕ) (behind : ℕ) (s : Stop) →
    Says n.Bind k ts at (Ok (b, next)) → Passes (one t.Do) ts next (Ok behind) → Says n.Expr k ts behind (Err s) →
    Gives (bound word) (bound_parts word) k ts at (Err s)
unfolding primary_of Says SaysChain SaysLinks Gives Takes Passes Opens can_begin is_in apart within
bound_3 k ts at word b next behind s h1 h2 h3 =
    stops_as ts behind at s (λ why rest q. u.seq_second h1 (u.seq_second (h2.1 k) (u.seq_first q))) h3

pub bound_4 :
    (k : ℕ) (ts : List Token) (at : ℕ) (word : Symbol) (b : Bind) (next : ℕ) (behind : ℕ) (x : Expr) (last : ℕ) (s : Stop) →
    Says n.Bind k ts at (Ok (b, next)) → Passes (one t.Do) ts next (Ok behind) →
    Says n.Expr k ts behind (Ok (x, last)) → Passes (ending word) ts last (Err s) →
    Gives (bound word) (bound_parts word) k ts at (Err s)
unfolding primary_of Says SaysChain SaysLinks Gives Takes Passes Opens can_begin is_in apart within
bound_4 k ts at word b next behind x last s h1 h2 h3 h4 =
    stops_as ts last at s (λ why rest q. u.seq_second h1 (u.seq_second (h2.1 k) (u.seq_second h3 q))) (h4 k)

pub bound_5 :
    (k : ℕ) (ts : List Token) (at : ℕ) (word : Symbol) (b : Bind) (next : ℕ) (behind : ℕ) (x : Expr) (last : ℕ) (end : ℕ) →
    Says n.Bind k ts at (Ok (b, next)) → Passes (one t.Do) ts next (Ok behind) →
    Says n.Expr k ts behind (Ok (x, last)) → Passes (ending word) ts last (Ok end) →
    Gives (bound word) (bound_parts word) k ts at (Ok ((b, x), end))
unfolding primary_of Says SaysChain SaysLinks Gives Takes Passes Opens can_begin is_in apart within
bound_5 k ts at word b next behind x last end h1 h2 h3 h4 = (_, refl, u.seq h1 (u.seq (h2.1 k) (u.seq h3 (h4.1 k))))

pub ruleset bound_arms = (bound_1, bound_2, bound_3, bound_4, bound_5, gives_no_memory)

pub bind_1 : (k : ℕ) (ts : List Token) (at : ℕ) (s : Stop) → Takes (one t.Name) named ts at (Err s) →
    Says n.Bind k ts at (Err s)
unfolding primary_of Says SaysChain SaysLinks Gives Takes Passes Opens can_begin is_in apart within
bind_1 k ts at s h1 = stops_as ts at at s (λ why rest q. u.call_stop (u.seq_first q)) (h1 k)

pub bind_2 : (k : ℕ) (ts : List Token) (at : ℕ) (x : Named) (next : ℕ) (s : Stop) →
    Takes (one t.Name) named ts at (Ok (x, next)) → can_begin (one t.Colon) ts next ≡ true →
    Says n.TypeForm k ts (next + 1) (Err s) → Says n.Bind k ts at (Err s)
unfolding primary_of Says SaysChain SaysLinks Gives Takes Passes Opens can_begin is_in apart within
bind_2 k ts at x next s h1 h2 h3 =
    let w1 = token_here t.Colon ts next h2 in
    stops_as ts (next + 1) at s (λ why rest q. u.call_stop (u.seq_second (h1.2 k) (u.call_stop (u.left_stop h2 (u.seq_second (u.token w1.1 w1.2) q))))) h3

pub bind_3 : (k : ℕ) (ts : List Token) (at : ℕ) (x : Named) (next : ℕ) (body : TypeExpr) (end : ℕ) →
    Takes (one t.Name) named ts at (Ok (x, next)) → can_begin (one t.Colon) ts next ≡ true →
    Says n.TypeForm k ts (next + 1) (Ok (body, end)) →
    Says n.Bind k ts at (Ok (record { name = x; over = body }, end))
unfolding primary_of Says SaysChain SaysLinks Gives Takes Passes Opens can_begin is_in apart within
bind_3 k ts at x next body end h1 h2 h3 =
    let w1 = token_here t.Colon ts next h2 in
    u.call (ap (λ z. (record { name = z; over = body })) h1.1) (u.seq (h1.2 k) (u.call refl (u.left h2 (u.seq (u.token w1.1 w1.2) h3))))

pub bind_4 : (k : ℕ) (ts : List Token) (at : ℕ) (x : Named) (next : ℕ) (s : Stop) →
    Takes (one t.Name) named ts at (Ok (x, next)) → can_begin (one t.Colon) ts next ≡ false →
    Passes (one t.Becomes) ts next (Err s) → Says n.Bind k ts at (Err s)
unfolding primary_of Says SaysChain SaysLinks Gives Takes Passes Opens can_begin is_in apart within
bind_4 k ts at x next s h1 h2 h3 =
    stops_as ts next at s (λ why rest q. u.call_stop (u.seq_second (h1.2 k) (u.call_stop (u.right_stop h2 (u.seq_first q))))) (h3 k)

pub bind_5 : (k : ℕ) (ts : List Token) (at : ℕ) (x : Named) (next : ℕ) (behind : ℕ) (s : Stop) →
    Takes (one t.Name) named ts at (Ok (x, next)) → can_begin (one t.Colon) ts next ≡ false →
    Passes (one t.Becomes) ts next (Ok behind) → SaysChain level.Sum k ts behind (Err s) →
    Says n.Bind k ts at (Err s)
unfolding primary_of Says SaysChain SaysLinks Gives Takes Passes Opens can_begin is_in apart within
bind_5 k ts at x next behind s h1 h2 h3 h4 =
    stops_as ts behind at s (λ why rest q. u.call_stop (u.seq_second (h1.2 k) (u.call_stop (u.right_stop h2 (u.seq_second (h3.1 k) (u.seq_first q)))))) h4

pub bind_6 :
    (k : ℕ) (ts : List Token) (at : ℕ) (x : Named) (next : ℕ) (behind : ℕ) (low : Expr) (word : ℕ) (s : Stop) →
    Takes (one t.Name) named ts at (Ok (x, next)) → can_begin (one t.Colon) ts next ≡ false →
    Passes (one t.Becomes) ts next (Ok behind) → SaysChain level.Sum k ts behind (Ok (low, word)) →
    Passes (one t.To) ts word (Err s) → Says n.Bind k ts at (Err s)
unfolding primary_of Says SaysChain SaysLinks Gives Takes Passes Opens can_begin is_in apart within
bind_6 k ts at x next behind low word s h1 h2 h3 h4 h5 =
    stops_as ts word at s (λ why rest q. u.call_stop (u.seq_second (h1.2 k) (u.call_stop (u.right_stop h2 (u.seq_second (h3.1 k) (u.seq_second h4 (u.seq_first q))))))) (h5 k)

pub bind_7 :
    (k : ℕ) (ts : List Token) (at : ℕ) (x : Named) (next : ℕ) (behind : ℕ) (low : Expr) (word : ℕ) (last : ℕ) (s : Stop) →
    Takes (one t.Name) named ts at (Ok (x, next)) → can_begin (one t.Colon) ts next ≡ false →
    Passes (one t.Becomes) ts next (Ok behind) → SaysChain level.Sum k ts behind (Ok (low, word)) →
    Passes (one t.To) ts word (Ok last) → SaysChain level.Sum k ts last (Err s) → Says n.Bind k ts at (Err s)
unfolding primary_of Says SaysChain SaysLinks Gives Takes Passes Opens can_begin is_in apart within
bind_7 k ts at x next behind low word last s h1 h2 h3 h4 h5 h6 =
    stops_as ts last at s (λ why rest q. u.call_stop (u.seq_second (h1.2 k) (u.call_stop (u.right_stop h2 (u.seq_second (h3.1 k) (u.seq_second h4 (u.seq_second (h5.1 k) q))))))) h6

pub bind_8 :
    (k : ℕ) (ts : List Token) (at : ℕ) (x : Named) (next : ℕ) (behind : ℕ) (low : Expr) (word : ℕ) (last : ℕ) (high : Expr) (end : ℕ) →
    Takes (one t.Name) named ts at (Ok (x, next)) → can_begin (one t.Colon) ts next ≡ false →
    Passes (one t.Becomes) ts next (Ok behind) → SaysChain level.Sum k ts behind (Ok (low, word)) →
    Passes (one t.To) ts word (Ok last) → SaysChain level.Sum k ts last (Ok (high, end)) →
    Says n.Bind k ts at (Ok (record { name = x; over = type.Range low high }, end))
unfolding primary_of Says SaysChain SaysLinks Gives Takes Passes Opens can_begin is_in apart within
bind_8 k ts at x next behind low word last high end h1 h2 h3 h4 h5 h6 =
    u.call (ap (λ z. (record { name = z; over = type.Range low high })) h1.1) (u.seq (h1.2 k) (u.call refl (u.right h2 (u.seq (h3.1 k) (u.seq h4 (u.seq (h5.1 k) h6))))))

pub ruleset bind_arms = (bind_1, bind_2, bind_3, bind_4, bind_5, bind_6, bind_7, bind_8, no_memory)
