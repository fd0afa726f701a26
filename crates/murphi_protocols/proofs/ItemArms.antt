-- One lemma for each way through the readers of items.
use Rattle.std.specs.Prelude.{Option, map}
use Rattle.std.proofs.Common.{inl, inr, ◌≡◌, ℕ, zero, suc, ◌+◌, Bool, true, false, List, [], ◌∷◌, ◌++◌, ◌⊎◌, drop, Some, None, Ok, Err, Result, refl, sym, ap, ◌∙◌, subst}
use Rattle.grammar_core.specs.Forms.{Call, Seq, Choice, Empty, TreeOf}
use Rattle.grammar_core.specs.Spelling.{Limit}
use Rattle.grammar_core.specs.Reading as read
use Rattle.grammar_core.specs.Reading.{Fault, Got}
use Rattle.grammar_core.specs.Test.{is_in, apart, within}
use Rattle.grammar_core.specs.Walk as u
use Rattle.grammar_core.specs.Walk.{Run}
use Rattle.murphi_ast.specs.declared.text.Text.{Text}
use Rattle.murphi_ast.specs.declared.token.Token.{Token}
use Rattle.murphi_ast.specs.declared.expr.Named.{Named}
use Rattle.murphi_ast.specs.declared.expr.Designator.{Designator}
use Rattle.murphi_ast.specs.declared.expr.Selector.{Selector}
use Rattle.murphi_ast.specs.declared.expr.Bind.{Bind}
use Rattle.murphi_ast.specs.declared.expr.TypeExpr.{TypeExpr}
use Rattle.murphi_ast.specs.declared.expr.Expr.{Expr}
use Rattle.murphi_ast.specs.declared.stmt.Stmt as s
use Rattle.murphi_ast.specs.declared.stmt.Stmt.{Stmt}
use Rattle.murphi_ast.specs.declared.stmt.Arm.{Arm}
use Rattle.murphi_ast.specs.declared.stmt.Case.{Case}
use Rattle.murphi_ast.specs.declared.decl.Decl as d
use Rattle.murphi_ast.specs.declared.decl.Decl.{Decl}
use Rattle.murphi_ast.specs.declared.decl.Formal.{Formal}
use Rattle.murphi_ast.specs.declared.rule.RuleDecl as r
use Rattle.murphi_ast.specs.declared.rule.RuleDecl.{RuleDecl}
use Rattle.murphi_ast.specs.declared.rule.Protocol.{Protocol}
use Rattle.murphi_grammar.specs.declared.symbol.Symbol.{Symbol}
use Rattle.murphi_grammar.specs.declared.symbol.Symbol.TheVariants as t
use Rattle.murphi_grammar.specs.Names as n
use Rattle.murphi_grammar.specs.Parts.{Part, ◌▸◌, ◌∥◌, one, form, many, optional, nest, ending, in_parentheses}
use Rattle.murphi_grammar.specs.Pieces.{cut, piece, piece_build}
use Rattle.murphi_grammar.specs.Values as v
use Rattle.murphi_grammar.specs.Values.{Value, named, seconds, present, joined, declared}
use Rattle.murphi_grammar.specs.Tables.{tables}
use Rattle.murphi_expressions.specs.Says.{Stops, Says, Gives, Takes, Passes, Opens, Enters, SoFar, can_begin, place_of, number_of, itself, with_front}
use Rattle.murphi_expressions.specs.declared.step.Stop.{Stop}
use Rattle.murphi_expressions.specs.declared.step.Stop.TheVariants.{Wrong, Deep, Memory}
use Rattle.murphi_expressions.proofs.Heads.{token_here}
use Rattle.murphi_expressions.proofs.Steps.{full, takes_no_memory}
use Rattle.murphi_expressions.proofs.Ways.{stops_as, inside, included, excluded, shrunk, no_memory, gives_no_memory, read_more, read_all, read_stops, renamed, said}
use Rattle.murphi_protocols.specs.Parts.{SaysTitle, constant_form, type_name_form, variables_form, after, added, option_of, stmt_option, item_option, decls_of, named_stmt_of, simple_form, simple_of, if_form, if_of, switch_form, switch_of, for_form, for_of, formal_rest, formal_of, procedure_form, procedure_of, function_form, function_of, group_form, group_of}

pub rule_rest_1 : (k : ℕ) (ts : List Token) (at : ℕ) (s : Stop) → can_begin (form n.Expr) ts at ≡ true →
    Says n.Expr k ts at (Err s) → Says (n.Cut n.RuleRest) k ts at (Err s)
unfolding SaysTitle after stmt_option item_option named_stmt_of Stops Says Gives Takes Passes Opens can_begin is_in apart within
rule_rest_1 k ts at s h1 h2 = stops_as ts at at s (λ why rest q. u.call_stop (u.left_stop h1 (u.seq_first q))) h2

pub rule_rest_2 : (k : ℕ) (ts : List Token) (at : ℕ) (guard : Expr) (next : ℕ) (s : Stop) →
    can_begin (form n.Expr) ts at ≡ true → Says n.Expr k ts at (Ok (guard, next)) →
    Passes (one t.DoubleArrow) ts next (Err s) → Says (n.Cut n.RuleRest) k ts at (Err s)
unfolding SaysTitle after stmt_option item_option named_stmt_of Stops Says Gives Takes Passes Opens can_begin is_in apart within
rule_rest_2 k ts at guard next s h1 h2 h3 =
    stops_as ts next at s (λ why rest q. u.call_stop (u.left_stop h1 (u.seq_second h2 (u.seq_first q)))) (h3 k)

pub rule_rest_3 : (k : ℕ) (ts : List Token) (at : ℕ) (guard : Expr) (next : ℕ) (behind : ℕ) (s : Stop) →
    can_begin (form n.Expr) ts at ≡ true → Says n.Expr k ts at (Ok (guard, next)) →
    Passes (one t.DoubleArrow) ts next (Ok behind) → Says n.Body k ts behind (Err s) →
    Says (n.Cut n.RuleRest) k ts at (Err s)
unfolding SaysTitle after stmt_option item_option named_stmt_of Stops Says Gives Takes Passes Opens can_begin is_in apart within
rule_rest_3 k ts at guard next behind s h1 h2 h3 h4 =
    stops_as ts behind at s (λ why rest q. u.call_stop (u.left_stop h1 (u.seq_second h2 (u.seq_second (h3.1 k) (u.seq_first q))))) h4

pub rule_rest_4 :
    (k : ℕ) (ts : List Token) (at : ℕ) (guard : Expr) (next : ℕ) (behind : ℕ) (body : List Decl × List Stmt) (last : ℕ) (s : Stop) →
    can_begin (form n.Expr) ts at ≡ true → Says n.Expr k ts at (Ok (guard, next)) →
    Passes (one t.DoubleArrow) ts next (Ok behind) → Says n.Body k ts behind (Ok (body, last)) →
    Passes (ending t.EndRule) ts last (Err s) → Says (n.Cut n.RuleRest) k ts at (Err s)
unfolding SaysTitle after stmt_option item_option named_stmt_of Stops Says Gives Takes Passes Opens can_begin is_in apart within
rule_rest_4 k ts at guard next behind body last s h1 h2 h3 h4 h5 =
    stops_as ts last at s (λ why rest q. u.call_stop (u.left_stop h1 (u.seq_second h2 (u.seq_second (h3.1 k) (u.seq_second h4 q))))) (h5 k)

pub rule_rest_5 :
    (k : ℕ) (ts : List Token) (at : ℕ) (guard : Expr) (next : ℕ) (behind : ℕ) (body : List Decl × List Stmt) (last : ℕ) (end : ℕ) →
    can_begin (form n.Expr) ts at ≡ true → Says n.Expr k ts at (Ok (guard, next)) →
    Passes (one t.DoubleArrow) ts next (Ok behind) → Says n.Body k ts behind (Ok (body, last)) →
    Passes (ending t.EndRule) ts last (Ok end) → Says (n.Cut n.RuleRest) k ts at (Ok ((Some guard, body), end))
unfolding SaysTitle after stmt_option item_option named_stmt_of Stops Says Gives Takes Passes Opens can_begin is_in apart within
rule_rest_5 k ts at guard next behind body last end h1 h2 h3 h4 h5 =
    u.call refl (u.left h1 (u.seq h2 (u.seq (h3.1 k) (u.seq h4 (h5.1 k)))))

pub rule_rest_6 : (k : ℕ) (ts : List Token) (at : ℕ) (s : Stop) → can_begin (form n.Expr) ts at ≡ false →
    Says (n.Cut n.Locals) k ts at (Err s) → Says (n.Cut n.RuleRest) k ts at (Err s)
unfolding SaysTitle after stmt_option item_option named_stmt_of Stops Says Gives Takes Passes Opens can_begin is_in apart within
rule_rest_6 k ts at s h1 h2 = stops_as ts at at s (λ why rest q. u.call_stop (u.right_stop h1 (u.seq_first q))) h2

pub rule_rest_7 : (k : ℕ) (ts : List Token) (at : ℕ) (ds : List Decl) (next : ℕ) (s : Stop) →
    can_begin (form n.Expr) ts at ≡ false → Says (n.Cut n.Locals) k ts at (Ok (ds, next)) →
    Passes (one t.Begin) ts next (Err s) → Says (n.Cut n.RuleRest) k ts at (Err s)
unfolding SaysTitle after stmt_option item_option named_stmt_of Stops Says Gives Takes Passes Opens can_begin is_in apart within
rule_rest_7 k ts at ds next s h1 h2 h3 =
    stops_as ts next at s (λ why rest q. u.call_stop (u.right_stop h1 (u.seq_second h2 (u.seq_first q)))) (h3 k)

pub rule_rest_8 : (k : ℕ) (ts : List Token) (at : ℕ) (ds : List Decl) (next : ℕ) (behind : ℕ) (s : Stop) →
    can_begin (form n.Expr) ts at ≡ false → Says (n.Cut n.Locals) k ts at (Ok (ds, next)) →
    Passes (one t.Begin) ts next (Ok behind) → Says n.Stmts k ts behind (Err s) →
    Says (n.Cut n.RuleRest) k ts at (Err s)
unfolding SaysTitle after stmt_option item_option named_stmt_of Stops Says Gives Takes Passes Opens can_begin is_in apart within
rule_rest_8 k ts at ds next behind s h1 h2 h3 h4 =
    stops_as ts behind at s (λ why rest q. u.call_stop (u.right_stop h1 (u.seq_second h2 (u.seq_second (h3.1 k) (u.seq_first q))))) h4

pub rule_rest_9 :
    (k : ℕ) (ts : List Token) (at : ℕ) (ds : List Decl) (next : ℕ) (behind : ℕ) (ss : List Stmt) (last : ℕ) (s : Stop) →
    can_begin (form n.Expr) ts at ≡ false → Says (n.Cut n.Locals) k ts at (Ok (ds, next)) →
    Passes (one t.Begin) ts next (Ok behind) → Says n.Stmts k ts behind (Ok (ss, last)) →
    Passes (ending t.EndRule) ts last (Err s) → Says (n.Cut n.RuleRest) k ts at (Err s)
unfolding SaysTitle after stmt_option item_option named_stmt_of Stops Says Gives Takes Passes Opens can_begin is_in apart within
rule_rest_9 k ts at ds next behind ss last s h1 h2 h3 h4 h5 =
    stops_as ts last at s (λ why rest q. u.call_stop (u.right_stop h1 (u.seq_second h2 (u.seq_second (h3.1 k) (u.seq_second h4 q))))) (h5 k)

pub rule_rest_10 :
    (k : ℕ) (ts : List Token) (at : ℕ) (ds : List Decl) (next : ℕ) (behind : ℕ) (ss : List Stmt) (last : ℕ) (end : ℕ) →
    can_begin (form n.Expr) ts at ≡ false → Says (n.Cut n.Locals) k ts at (Ok (ds, next)) →
    Passes (one t.Begin) ts next (Ok behind) → Says n.Stmts k ts behind (Ok (ss, last)) →
    Passes (ending t.EndRule) ts last (Ok end) → Says (n.Cut n.RuleRest) k ts at (Ok ((None, (ds, ss)), end))
unfolding SaysTitle after stmt_option item_option named_stmt_of Stops Says Gives Takes Passes Opens can_begin is_in apart within
rule_rest_10 k ts at ds next behind ss last end h1 h2 h3 h4 h5 =
    u.call refl (u.right h1 (u.seq h2 (u.seq (h3.1 k) (u.seq h4 (h5.1 k)))))

pub ruleset rule_rest_arms = (
  rule_rest_1,
  rule_rest_2,
  rule_rest_3,
  rule_rest_4,
  rule_rest_5,
  rule_rest_6,
  rule_rest_7,
  rule_rest_8,
  rule_rest_9,
  rule_rest_10,
  no_memory,
)

pub item_1 : (k : ℕ) (ts : List Token) (at : ℕ) (s : Stop) → can_begin (one t.Rule) ts at ≡ true →
    Opens t.Rule k ts at (Err s) → Says n.Item k ts at (Err s)
unfolding SaysTitle after stmt_option item_option named_stmt_of Stops Says Gives Takes Passes Opens can_begin is_in apart within
item_1 k ts at s h1 h2 = stops_as ts at at s (λ why rest q. u.call_stop (u.left_stop h1 q)) (h2 _)

pub item_2 : (k : ℕ) (ts : List Token) (at : ℕ) (m : ℕ) (s : Stop) → can_begin (one t.Rule) ts at ≡ true →
    Opens t.Rule k ts at (Ok m) → SaysTitle ts (at + 1) (Err s) → Says n.Item k ts at (Err s)
unfolding SaysTitle after stmt_option item_option named_stmt_of Stops Says Gives Takes Passes Opens can_begin is_in apart within
item_2 k ts at m s h1 h2 h3 =
    let w1 = token_here t.Rule ts at h2.0 in
    stops_as ts (at + 1) at s (λ why rest q. u.call_stop (u.left_stop h2.0 (u.nest_stop w1.1 w1.2 (inside k m h2.1) (u.seq_first q)))) (h3 m)

pub item_3 : (k : ℕ) (ts : List Token) (at : ℕ) (m : ℕ) (title : Option Text) (next : ℕ) (s : Stop) →
    can_begin (one t.Rule) ts at ≡ true → Opens t.Rule k ts at (Ok m) → SaysTitle ts (at + 1) (Ok (title, next)) →
    Says (n.Cut n.RuleRest) m ts next (Err s) → Says n.Item k ts at (Err s)
unfolding SaysTitle after stmt_option item_option named_stmt_of Stops Says Gives Takes Passes Opens can_begin is_in apart within
item_3 k ts at m title next s h1 h2 h3 h4 =
    let w1 = token_here t.Rule ts at h2.0 in
    stops_as ts next at s (λ why rest q. u.call_stop (u.left_stop h2.0 (u.nest_stop w1.1 w1.2 (inside k m h2.1) (u.seq_second (h3.2 m) q)))) h4

pub item_4 :
    (k : ℕ) (ts : List Token) (at : ℕ) (m : ℕ) (title : Option Text) (next : ℕ) (guard : Option Expr) (ds : List Decl) (ss : List Stmt) (end : ℕ) →
    can_begin (one t.Rule) ts at ≡ true → Opens t.Rule k ts at (Ok m) → SaysTitle ts (at + 1) (Ok (title, next)) →
    Says (n.Cut n.RuleRest) m ts next (Ok ((guard, (ds, ss)), end)) →
    Says n.Item k ts at (Ok (r.Rule title guard ds ss (place_of (drop at ts)), end))
unfolding SaysTitle after stmt_option item_option named_stmt_of Stops Says Gives Takes Passes Opens can_begin is_in apart within
item_4 k ts at m title next guard ds ss end h1 h2 h3 h4 =
    let w1 = token_here t.Rule ts at h2.0 in
    u.call (ap (λ z. (r.Rule title guard ds ss (place_of z))) w1.1 ∙ ap (λ z. (r.Rule z guard ds ss (w1.0).at)) h3.1) (u.left h2.0 (u.nest w1.1 w1.2 (inside k m h2.1) (u.seq (h3.2 m) h4)))

pub item_5 : (k : ℕ) (ts : List Token) (at : ℕ) (s : Stop) → can_begin (one t.Rule) ts at ≡ false →
    can_begin (one t.StartState) ts at ≡ true → Opens t.StartState k ts at (Err s) → Says n.Item k ts at (Err s)
unfolding SaysTitle after stmt_option item_option named_stmt_of Stops Says Gives Takes Passes Opens can_begin is_in apart within
item_5 k ts at s h1 h2 h3 =
    stops_as ts at at s (λ why rest q. u.call_stop (u.right_stop (excluded (one t.StartState) (one t.Rule) ts at h2 refl) (u.left_stop h2 q))) (h3 _)

pub item_6 : (k : ℕ) (ts : List Token) (at : ℕ) (m : ℕ) (s : Stop) → can_begin (one t.Rule) ts at ≡ false →
    can_begin (one t.StartState) ts at ≡ true → Opens t.StartState k ts at (Ok m) → SaysTitle ts (at + 1) (Err s) →
    Says n.Item k ts at (Err s)
unfolding SaysTitle after stmt_option item_option named_stmt_of Stops Says Gives Takes Passes Opens can_begin is_in apart within
item_6 k ts at m s h1 h2 h3 h4 =
    let w1 = token_here t.StartState ts at h3.0 in
    stops_as ts (at + 1) at s (λ why rest q. u.call_stop (u.right_stop (excluded (one t.StartState) (one t.Rule) ts at h3.0 refl) (u.left_stop h3.0 (u.nest_stop w1.1 w1.2 (inside k m h3.1) (u.seq_first q))))) (h4 m)

pub item_7 : (k : ℕ) (ts : List Token) (at : ℕ) (m : ℕ) (title : Option Text) (next : ℕ) (s : Stop) →
    can_begin (one t.Rule) ts at ≡ false → can_begin (one t.StartState) ts at ≡ true →
    Opens t.StartState k ts at (Ok m) → SaysTitle ts (at + 1) (Ok (title, next)) → Says n.Body m ts next (Err s) →
    Says n.Item k ts at (Err s)
unfolding SaysTitle after stmt_option item_option named_stmt_of Stops Says Gives Takes Passes Opens can_begin is_in apart within
item_7 k ts at m title next s h1 h2 h3 h4 h5 =
    let w1 = token_here t.StartState ts at h3.0 in
    stops_as ts next at s (λ why rest q. u.call_stop (u.right_stop (excluded (one t.StartState) (one t.Rule) ts at h3.0 refl) (u.left_stop h3.0 (u.nest_stop w1.1 w1.2 (inside k m h3.1) (u.seq_second (h4.2 m) (u.seq_first q)))))) h5

pub item_8 :
    (k : ℕ) (ts : List Token) (at : ℕ) (m : ℕ) (title : Option Text) (next : ℕ) (ds : List Decl) (ss : List Stmt) (last : ℕ) (s : Stop) →
    can_begin (one t.Rule) ts at ≡ false → can_begin (one t.StartState) ts at ≡ true →
    Opens t.StartState k ts at (Ok m) → SaysTitle ts (at + 1) (Ok (title, next)) →
    Says n.Body m ts next (Ok ((ds, ss), last)) → Passes (ending t.EndStartState) ts last (Err s) →
    Says n.Item k ts at (Err s)
unfolding SaysTitle after stmt_option item_option named_stmt_of Stops Says Gives Takes Passes Opens can_begin is_in apart within
item_8 k ts at m title next ds ss last s h1 h2 h3 h4 h5 h6 =
    let w1 = token_here t.StartState ts at h3.0 in
    stops_as ts last at s (λ why rest q. u.call_stop (u.right_stop (excluded (one t.StartState) (one t.Rule) ts at h3.0 refl) (u.left_stop h3.0 (u.nest_stop w1.1 w1.2 (inside k m h3.1) (u.seq_second (h4.2 m) (u.seq_second h5 q)))))) (h6 m)

pub item_9 :
    (k : ℕ) (ts : List Token) (at : ℕ) (m : ℕ) (title : Option Text) (next : ℕ) (ds : List Decl) (ss : List Stmt) (last : ℕ) (end : ℕ) →
    can_begin (one t.Rule) ts at ≡ false → can_begin (one t.StartState) ts at ≡ true →
    Opens t.StartState k ts at (Ok m) → SaysTitle ts (at + 1) (Ok (title, next)) →
    Says n.Body m ts next (Ok ((ds, ss), last)) → Passes (ending t.EndStartState) ts last (Ok end) →
    Says n.Item k ts at (Ok (r.Start title ds ss (place_of (drop at ts)), end))
unfolding SaysTitle after stmt_option item_option named_stmt_of Stops Says Gives Takes Passes Opens can_begin is_in apart within
item_9 k ts at m title next ds ss last end h1 h2 h3 h4 h5 h6 =
    let w1 = token_here t.StartState ts at h3.0 in
    u.call (ap (λ z. (r.Start title ds ss (place_of z))) w1.1 ∙ ap (λ z. (r.Start z ds ss (w1.0).at)) h4.1) (u.right (excluded (one t.StartState) (one t.Rule) ts at h3.0 refl) (u.left h3.0 (u.nest w1.1 w1.2 (inside k m h3.1) (u.seq (h4.2 m) (u.seq h5 (h6.1 m))))))

pub item_10 : (k : ℕ) (ts : List Token) (at : ℕ) (s : Stop) → can_begin (one t.Rule) ts at ≡ false →
    can_begin (one t.StartState) ts at ≡ false → can_begin (one t.Invariant) ts at ≡ true →
    Opens t.Invariant k ts at (Err s) → Says n.Item k ts at (Err s)
unfolding SaysTitle after stmt_option item_option named_stmt_of Stops Says Gives Takes Passes Opens can_begin is_in apart within
item_10 k ts at s h1 h2 h3 h4 =
    stops_as ts at at s (λ why rest q. u.call_stop (u.right_stop (excluded (one t.Invariant) (one t.Rule) ts at h3 refl) (u.right_stop (excluded (one t.Invariant) (one t.StartState) ts at h3 refl) (u.left_stop h3 q)))) (h4 _)

pub item_11 : (k : ℕ) (ts : List Token) (at : ℕ) (m : ℕ) (s : Stop) → can_begin (one t.Rule) ts at ≡ false →
    can_begin (one t.StartState) ts at ≡ false → can_begin (one t.Invariant) ts at ≡ true →
    Opens t.Invariant k ts at (Ok m) → SaysTitle ts (at + 1) (Err s) → Says n.Item k ts at (Err s)
unfolding SaysTitle after stmt_option item_option named_stmt_of Stops Says Gives Takes Passes Opens can_begin is_in apart within
item_11 k ts at m s h1 h2 h3 h4 h5 =
    let w1 = token_here t.Invariant ts at h4.0 in
    stops_as ts (at + 1) at s (λ why rest q. u.call_stop (u.right_stop (excluded (one t.Invariant) (one t.Rule) ts at h4.0 refl) (u.right_stop (excluded (one t.Invariant) (one t.StartState) ts at h4.0 refl) (u.left_stop h4.0 (u.nest_stop w1.1 w1.2 (inside k m h4.1) (u.seq_first q)))))) (h5 m)

pub item_12 : (k : ℕ) (ts : List Token) (at : ℕ) (m : ℕ) (title : Option Text) (next : ℕ) (s : Stop) →
    can_begin (one t.Rule) ts at ≡ false → can_begin (one t.StartState) ts at ≡ false →
    can_begin (one t.Invariant) ts at ≡ true → Opens t.Invariant k ts at (Ok m) →
    SaysTitle ts (at + 1) (Ok (title, next)) → Says n.Expr m ts next (Err s) → Says n.Item k ts at (Err s)
unfolding SaysTitle after stmt_option item_option named_stmt_of Stops Says Gives Takes Passes Opens can_begin is_in apart within
item_12 k ts at m title next s h1 h2 h3 h4 h5 h6 =
    let w1 = token_here t.Invariant ts at h4.0 in
    stops_as ts next at s (λ why rest q. u.call_stop (u.right_stop (excluded (one t.Invariant) (one t.Rule) ts at h4.0 refl) (u.right_stop (excluded (one t.Invariant) (one t.StartState) ts at h4.0 refl) (u.left_stop h4.0 (u.nest_stop w1.1 w1.2 (inside k m h4.1) (u.seq_second (h5.2 m) q)))))) h6

pub item_13 : (k : ℕ) (ts : List Token) (at : ℕ) (m : ℕ) (title : Option Text) (next : ℕ) (x : Expr) (end : ℕ) →
    can_begin (one t.Rule) ts at ≡ false → can_begin (one t.StartState) ts at ≡ false →
    can_begin (one t.Invariant) ts at ≡ true → Opens t.Invariant k ts at (Ok m) →
    SaysTitle ts (at + 1) (Ok (title, next)) → Says n.Expr m ts next (Ok (x, end)) →
    Says n.Item k ts at (Ok (r.Invariant title x (place_of (drop at ts)), end))
unfolding SaysTitle after stmt_option item_option named_stmt_of Stops Says Gives Takes Passes Opens can_begin is_in apart within
item_13 k ts at m title next x end h1 h2 h3 h4 h5 h6 =
    let w1 = token_here t.Invariant ts at h4.0 in
    u.call (ap (λ z. (r.Invariant title x (place_of z))) w1.1 ∙ ap (λ z. (r.Invariant z x (w1.0).at)) h5.1) (u.right (excluded (one t.Invariant) (one t.Rule) ts at h4.0 refl) (u.right (excluded (one t.Invariant) (one t.StartState) ts at h4.0 refl) (u.left h4.0 (u.nest w1.1 w1.2 (inside k m h4.1) (u.seq (h5.2 m) h6)))))

pub item_14 : (k : ℕ) (ts : List Token) (at : ℕ) (r : Result (RuleDecl × ℕ) Stop) →
    can_begin (one t.Rule) ts at ≡ false → can_begin (one t.StartState) ts at ≡ false →
    can_begin (one t.Invariant) ts at ≡ false → Gives group_form group_of k ts at r → Says n.Item k ts at r
unfolding SaysTitle after stmt_option item_option named_stmt_of Stops Says Gives Takes Passes Opens can_begin is_in apart within
item_14 k ts at (Ok (x, next)) h1 h2 h3 h4 = u.call h4.1 (u.right h1 (u.right h2 (u.right h3 h4.2)))
item_14 k ts at (Err s) h1 h2 h3 h4 =
    stops_as ts at at s (λ why rest q. u.call_stop (u.right_stop h1 (u.right_stop h2 (u.right_stop h3 q)))) h4

pub ruleset item_arms = (
  item_1,
  item_2,
  item_3,
  item_4,
  item_5,
  item_6,
  item_7,
  item_8,
  item_9,
  item_10,
  item_11,
  item_12,
  item_13,
  item_14,
  no_memory,
)

pub group_1 : (k : ℕ) (ts : List Token) (at : ℕ) (s : Stop) → Opens t.RuleSet k ts at (Err s) →
    Gives group_form group_of k ts at (Err s)
unfolding SaysTitle after stmt_option item_option named_stmt_of Stops Says Gives Takes Passes Opens can_begin is_in apart within
group_1 k ts at s h1 = stops_as ts at at s (λ why rest q. q) (h1 _)

pub group_2 : (k : ℕ) (ts : List Token) (at : ℕ) (m : ℕ) (s : Stop) → Opens t.RuleSet k ts at (Ok m) →
    Says n.Bind m ts (at + 1) (Err s) → Gives group_form group_of k ts at (Err s)
unfolding SaysTitle after stmt_option item_option named_stmt_of Stops Says Gives Takes Passes Opens can_begin is_in apart within
group_2 k ts at m s h1 h2 =
    let w1 = token_here t.RuleSet ts at h1.0 in
    stops_as ts (at + 1) at s (λ why rest q. u.nest_stop w1.1 w1.2 (inside k m h1.1) (u.seq_first q)) h2

pub group_3 : (k : ℕ) (ts : List Token) (at : ℕ) (m : ℕ) (b : Bind) (next : ℕ) (s : Stop) →
    Opens t.RuleSet k ts at (Ok m) → Says n.Bind m ts (at + 1) (Ok (b, next)) →
    Gives (cut n.MoreBinds) (after (b ∷ [])) m ts next (Err s) → Gives group_form group_of k ts at (Err s)
unfolding SaysTitle after stmt_option item_option named_stmt_of Stops Says Gives Takes Passes Opens can_begin is_in apart within
group_3 k ts at m b next s h1 h2 h3 =
    let w1 = token_here t.RuleSet ts at h1.0 in
    stops_as ts next at s (λ why rest q. u.nest_stop w1.1 w1.2 (inside k m h1.1) (u.seq_second h2 (u.seq_first q))) h3

pub group_4 :
    (k : ℕ) (ts : List Token) (at : ℕ) (m : ℕ) (b : Bind) (next : ℕ) (bs : List Bind) (word : ℕ) (s : Stop) →
    Opens t.RuleSet k ts at (Ok m) → Says n.Bind m ts (at + 1) (Ok (b, next)) →
    Gives (cut n.MoreBinds) (after (b ∷ [])) m ts next (Ok (bs, word)) → Passes (one t.Do) ts word (Err s) →
    Gives group_form group_of k ts at (Err s)
unfolding SaysTitle after stmt_option item_option named_stmt_of Stops Says Gives Takes Passes Opens can_begin is_in apart within
group_4 k ts at m b next bs word s h1 h2 h3 h4 =
    let w1 = token_here t.RuleSet ts at h1.0 in
    stops_as ts word at s (λ why rest q. u.nest_stop w1.1 w1.2 (inside k m h1.1) (u.seq_second h2 (u.seq_second h3.2 (u.seq_first q)))) (h4 m)

pub group_5 :
    (k : ℕ) (ts : List Token) (at : ℕ) (m : ℕ) (b : Bind) (next : ℕ) (bs : List Bind) (word : ℕ) (behind : ℕ) (s : Stop) →
    Opens t.RuleSet k ts at (Ok m) → Says n.Bind m ts (at + 1) (Ok (b, next)) →
    Gives (cut n.MoreBinds) (after (b ∷ [])) m ts next (Ok (bs, word)) → Passes (one t.Do) ts word (Ok behind) →
    Says n.Items m ts behind (Err s) → Gives group_form group_of k ts at (Err s)
unfolding SaysTitle after stmt_option item_option named_stmt_of Stops Says Gives Takes Passes Opens can_begin is_in apart within
group_5 k ts at m b next bs word behind s h1 h2 h3 h4 h5 =
    let w1 = token_here t.RuleSet ts at h1.0 in
    stops_as ts behind at s (λ why rest q. u.nest_stop w1.1 w1.2 (inside k m h1.1) (u.seq_second h2 (u.seq_second h3.2 (u.seq_second (h4.1 m) (u.seq_first q))))) h5

pub group_6 :
    (k : ℕ) (ts : List Token) (at : ℕ) (m : ℕ) (b : Bind) (next : ℕ) (bs : List Bind) (word : ℕ) (behind : ℕ) (is : List RuleDecl) (last : ℕ) (s : Stop) →
    Opens t.RuleSet k ts at (Ok m) → Says n.Bind m ts (at + 1) (Ok (b, next)) →
    Gives (cut n.MoreBinds) (after (b ∷ [])) m ts next (Ok (bs, word)) → Passes (one t.Do) ts word (Ok behind) →
    Says n.Items m ts behind (Ok (is, last)) → Passes (ending t.EndRuleSet) ts last (Err s) →
    Gives group_form group_of k ts at (Err s)
unfolding SaysTitle after stmt_option item_option named_stmt_of Stops Says Gives Takes Passes Opens can_begin is_in apart within
group_6 k ts at m b next bs word behind is last s h1 h2 h3 h4 h5 h6 =
    let w1 = token_here t.RuleSet ts at h1.0 in
    stops_as ts last at s (λ why rest q. u.nest_stop w1.1 w1.2 (inside k m h1.1) (u.seq_second h2 (u.seq_second h3.2 (u.seq_second (h4.1 m) (u.seq_second h5 q))))) (h6 m)

pub group_7 :
    (k : ℕ) (ts : List Token) (at : ℕ) (m : ℕ) (b : Bind) (next : ℕ) (bs : List Bind) (word : ℕ) (behind : ℕ) (is : List RuleDecl) (last : ℕ) (end : ℕ) →
    Opens t.RuleSet k ts at (Ok m) → Says n.Bind m ts (at + 1) (Ok (b, next)) →
    Gives (cut n.MoreBinds) (after (b ∷ [])) m ts next (Ok (bs, word)) → Passes (one t.Do) ts word (Ok behind) →
    Says n.Items m ts behind (Ok (is, last)) → Passes (ending t.EndRuleSet) ts last (Ok end) →
    Gives group_form group_of k ts at (Ok (r.Group bs is (place_of (drop at ts)), end))
unfolding SaysTitle after stmt_option item_option named_stmt_of Stops Says Gives Takes Passes Opens can_begin is_in apart within
group_7 k ts at m b next bs word behind is last end h1 h2 h3 h4 h5 h6 =
    let w1 = token_here t.RuleSet ts at h1.0 in
    (_, ap (λ z. (r.Group bs is (place_of z))) w1.1 ∙ ap (λ z. (r.Group z is (w1.0).at)) h3.1, u.nest w1.1 w1.2 (inside k m h1.1) (u.seq h2 (u.seq h3.2 (u.seq (h4.1 m) (u.seq h5 (h6.1 m))))))

pub ruleset group_arms = (group_1, group_2, group_3, group_4, group_5, group_6, group_7, gives_no_memory)

pub optional_item_1 : (k : ℕ) (ts : List Token) (at : ℕ) (s : Stop) → can_begin (form n.Item) ts at ≡ true →
    Says n.Item k ts at (Err s) → Gives (optional (form n.Item)) item_option k ts at (Err s)
unfolding SaysTitle after stmt_option item_option named_stmt_of Stops Says Gives Takes Passes Opens can_begin is_in apart within
optional_item_1 k ts at s h1 h2 = stops_as ts at at s (λ why rest q. u.left_stop h1 q) h2

pub optional_item_2 : (k : ℕ) (ts : List Token) (at : ℕ) (x : RuleDecl) (end : ℕ) →
    can_begin (form n.Item) ts at ≡ true → Says n.Item k ts at (Ok (x, end)) →
    Gives (optional (form n.Item)) item_option k ts at (Ok (Some x, end))
unfolding SaysTitle after stmt_option item_option named_stmt_of Stops Says Gives Takes Passes Opens can_begin is_in apart within
optional_item_2 k ts at x end h1 h2 = (_, refl, u.left h1 h2)

pub optional_item_3 : (k : ℕ) (ts : List Token) (at : ℕ) → can_begin (form n.Item) ts at ≡ false →
    Gives (optional (form n.Item)) item_option k ts at (Ok (None, at))
unfolding SaysTitle after stmt_option item_option named_stmt_of Stops Says Gives Takes Passes Opens can_begin is_in apart within
optional_item_3 k ts at h1 = (_, refl, u.right h1 u.empty)

pub ruleset optional_item_arms = (optional_item_1, optional_item_2, optional_item_3, gives_no_memory)
