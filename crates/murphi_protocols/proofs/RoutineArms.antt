-- One lemma for each way through the readers of routines.
use Rattle.std.specs.Prelude.{Option, map}
use Rattle.std.proofs.Common.{inl, inr, ◌≡◌, ℕ, zero, suc, ◌+◌, Bool, true, false, List, [], ◌∷◌, ◌++◌, ◌⊎◌, drop, Some, None, Ok, Err, Result, refl, sym, ap, ◌∙◌, subst}
use Rattle.grammar_core.specs.Forms.{Call, Seq, Choice, Empty, TreeOf}
use Rattle.grammar_core.specs.Spelling.{Limit}
use Rattle.grammar_core.specs.Reading as read
use Rattle.grammar_core.specs.Reading.{Fault, Got}
use Rattle.grammar_core.specs.Test.{is_in, apart, within}
use Rattle.grammar_core.specs.Walk as u
use Rattle.grammar_core.specs.Walk.{Run}
use Rattle.murphi_ast.specs.declared.text.Text.{Text}
use Rattle.murphi_ast.specs.declared.token.Token.{Token}
use Rattle.murphi_ast.specs.declared.expr.Named.{Named}
use Rattle.murphi_ast.specs.declared.expr.Designator.{Designator}
use Rattle.murphi_ast.specs.declared.expr.Selector.{Selector}
use Rattle.murphi_ast.specs.declared.expr.Bind.{Bind}
use Rattle.murphi_ast.specs.declared.expr.TypeExpr.{TypeExpr}
use Rattle.murphi_ast.specs.declared.expr.Expr.{Expr}
use Rattle.murphi_ast.specs.declared.stmt.Stmt as s
use Rattle.murphi_ast.specs.declared.stmt.Stmt.{Stmt}
use Rattle.murphi_ast.specs.declared.stmt.Arm.{Arm}
use Rattle.murphi_ast.specs.declared.stmt.Case.{Case}
use Rattle.murphi_ast.specs.declared.decl.Decl as d
use Rattle.murphi_ast.specs.declared.decl.Decl.{Decl}
use Rattle.murphi_ast.specs.declared.decl.Formal.{Formal}
use Rattle.murphi_ast.specs.declared.rule.RuleDecl as r
use Rattle.murphi_ast.specs.declared.rule.RuleDecl.{RuleDecl}
use Rattle.murphi_ast.specs.declared.rule.Protocol.{Protocol}
use Rattle.murphi_grammar.specs.declared.symbol.Symbol.{Symbol}
use Rattle.murphi_grammar.specs.declared.symbol.Symbol.TheVariants as t
use Rattle.murphi_grammar.specs.Names as n
use Rattle.murphi_grammar.specs.Parts.{Part, ◌▸◌, ◌∥◌, one, form, many, optional, nest, ending, in_parentheses}
use Rattle.murphi_grammar.specs.Pieces.{cut, piece, piece_build}
use Rattle.murphi_grammar.specs.Values as v
use Rattle.murphi_grammar.specs.Values.{Value, named, seconds, present, joined, declared}
use Rattle.murphi_grammar.specs.Tables.{tables}
use Rattle.murphi_expressions.specs.Says.{Stops, Says, Gives, Takes, Passes, Opens, Enters, SoFar, can_begin, place_of, number_of, itself, with_front}
use Rattle.murphi_expressions.specs.declared.step.Stop.{Stop}
use Rattle.murphi_expressions.specs.declared.step.Stop.TheVariants.{Wrong, Deep, Memory}
use Rattle.murphi_expressions.proofs.Heads.{token_here}
use Rattle.murphi_expressions.proofs.Steps.{full, takes_no_memory}
use Rattle.murphi_expressions.proofs.Ways.{stops_as, inside, included, excluded, shrunk, no_memory, gives_no_memory, read_more, read_all, read_stops, renamed, said}
use Rattle.murphi_protocols.specs.Parts.{SaysTitle, constant_form, type_name_form, variables_form, after, added, option_of, stmt_option, item_option, decls_of, named_stmt_of, simple_form, simple_of, if_form, if_of, switch_form, switch_of, for_form, for_of, formal_rest, formal_of, procedure_form, procedure_of, function_form, function_of, group_form, group_of}

pub body_1 : (k : ℕ) (ts : List Token) (at : ℕ) (s : Stop) → can_begin (cut n.Locals ▸ one t.Begin) ts at ≡ true →
    Says (n.Cut n.Locals) k ts at (Err s) → Says n.Body k ts at (Err s)
unfolding SaysTitle after stmt_option item_option named_stmt_of Stops Says Gives Takes Passes Opens can_begin is_in apart within
body_1 k ts at s h1 h2 =
    stops_as ts at at s (λ why rest q. u.call_stop (u.seq_first (u.left_stop h1 (u.seq_first q)))) h2

pub body_2 : (k : ℕ) (ts : List Token) (at : ℕ) (ds : List Decl) (next : ℕ) (s : Stop) →
    can_begin (cut n.Locals ▸ one t.Begin) ts at ≡ true → Says (n.Cut n.Locals) k ts at (Ok (ds, next)) →
    Passes (one t.Begin) ts next (Err s) → Says n.Body k ts at (Err s)
unfolding SaysTitle after stmt_option item_option named_stmt_of Stops Says Gives Takes Passes Opens can_begin is_in apart within
body_2 k ts at ds next s h1 h2 h3 =
    stops_as ts next at s (λ why rest q. u.call_stop (u.seq_first (u.left_stop h1 (u.seq_second h2 q)))) (h3 k)

pub body_3 : (k : ℕ) (ts : List Token) (at : ℕ) (ds : List Decl) (next : ℕ) (behind : ℕ) (s : Stop) →
    can_begin (cut n.Locals ▸ one t.Begin) ts at ≡ true → Says (n.Cut n.Locals) k ts at (Ok (ds, next)) →
    Passes (one t.Begin) ts next (Ok behind) → Says n.Stmts k ts behind (Err s) → Says n.Body k ts at (Err s)
unfolding SaysTitle after stmt_option item_option named_stmt_of Stops Says Gives Takes Passes Opens can_begin is_in apart within
body_3 k ts at ds next behind s h1 h2 h3 h4 =
    stops_as ts behind at s (λ why rest q. u.call_stop (u.seq_second (u.left h1 (u.seq h2 (h3.1 k))) q)) h4

pub body_4 :
    (k : ℕ) (ts : List Token) (at : ℕ) (ds : List Decl) (next : ℕ) (behind : ℕ) (ss : List Stmt) (end : ℕ) →
    can_begin (cut n.Locals ▸ one t.Begin) ts at ≡ true → Says (n.Cut n.Locals) k ts at (Ok (ds, next)) →
    Passes (one t.Begin) ts next (Ok behind) → Says n.Stmts k ts behind (Ok (ss, end)) →
    Says n.Body k ts at (Ok ((ds, ss), end))
unfolding SaysTitle after stmt_option item_option named_stmt_of Stops Says Gives Takes Passes Opens can_begin is_in apart within
body_4 k ts at ds next behind ss end h1 h2 h3 h4 = u.call refl (u.seq (u.left h1 (u.seq h2 (h3.1 k))) h4)

pub body_5 : (k : ℕ) (ts : List Token) (at : ℕ) (s : Stop) → can_begin (cut n.Locals ▸ one t.Begin) ts at ≡ false →
    Says n.Stmts k ts at (Err s) → Says n.Body k ts at (Err s)
unfolding SaysTitle after stmt_option item_option named_stmt_of Stops Says Gives Takes Passes Opens can_begin is_in apart within
body_5 k ts at s h1 h2 = stops_as ts at at s (λ why rest q. u.call_stop (u.seq_second (u.right h1 u.empty) q)) h2

pub body_6 : (k : ℕ) (ts : List Token) (at : ℕ) (ss : List Stmt) (end : ℕ) →
    can_begin (cut n.Locals ▸ one t.Begin) ts at ≡ false → Says n.Stmts k ts at (Ok (ss, end)) →
    Says n.Body k ts at (Ok (([], ss), end))
unfolding SaysTitle after stmt_option item_option named_stmt_of Stops Says Gives Takes Passes Opens can_begin is_in apart within
body_6 k ts at ss end h1 h2 = u.call refl (u.seq (u.right h1 u.empty) h2)

pub ruleset body_arms = (body_1, body_2, body_3, body_4, body_5, body_6, no_memory)

pub formal_1 : (k : ℕ) (ts : List Token) (at : ℕ) (s : Stop) → can_begin (one t.Var) ts at ≡ true →
    Gives formal_rest (formal_of true) k ts (at + 1) (Err s) → Says n.Formal k ts at (Err s)
unfolding SaysTitle after stmt_option item_option named_stmt_of Stops Says Gives Takes Passes Opens can_begin is_in apart within
formal_1 k ts at s h1 h2 =
    let w1 = token_here t.Var ts at h1 in
    stops_as ts (at + 1) at s (λ why rest q. u.call_stop (u.seq_second (u.left h1 (u.token w1.1 w1.2)) q)) h2

pub formal_2 : (k : ℕ) (ts : List Token) (at : ℕ) (x : Formal) (end : ℕ) → can_begin (one t.Var) ts at ≡ true →
    Gives formal_rest (formal_of true) k ts (at + 1) (Ok (x, end)) → Says n.Formal k ts at (Ok (x, end))
unfolding SaysTitle after stmt_option item_option named_stmt_of Stops Says Gives Takes Passes Opens can_begin is_in apart within
formal_2 k ts at x end h1 h2 =
    let w1 = token_here t.Var ts at h1 in
    u.call (ap (λ z. z) h2.1) (u.seq (u.left h1 (u.token w1.1 w1.2)) h2.2)

pub formal_3 : (k : ℕ) (ts : List Token) (at : ℕ) (s : Stop) → can_begin (one t.Var) ts at ≡ false →
    Gives formal_rest (formal_of false) k ts at (Err s) → Says n.Formal k ts at (Err s)
unfolding SaysTitle after stmt_option item_option named_stmt_of Stops Says Gives Takes Passes Opens can_begin is_in apart within
formal_3 k ts at s h1 h2 = stops_as ts at at s (λ why rest q. u.call_stop (u.seq_second (u.right h1 u.empty) q)) h2

pub formal_4 : (k : ℕ) (ts : List Token) (at : ℕ) (x : Formal) (end : ℕ) → can_begin (one t.Var) ts at ≡ false →
    Gives formal_rest (formal_of false) k ts at (Ok (x, end)) → Says n.Formal k ts at (Ok (x, end))
unfolding SaysTitle after stmt_option item_option named_stmt_of Stops Says Gives Takes Passes Opens can_begin is_in apart within
formal_4 k ts at x end h1 h2 = u.call (ap (λ z. z) h2.1) (u.seq (u.right h1 u.empty) h2.2)

pub ruleset formal_arms = (formal_1, formal_2, formal_3, formal_4, no_memory)

pub formal_behind_1 : (k : ℕ) (ts : List Token) (at : ℕ) (by_place : Bool) (s : Stop) →
    Takes (form n.NameList) itself ts at (Err s) → Gives formal_rest (formal_of by_place) k ts at (Err s)
unfolding SaysTitle after stmt_option item_option named_stmt_of Stops Says Gives Takes Passes Opens can_begin is_in apart within
formal_behind_1 k ts at by_place s h1 = stops_as ts at at s (λ why rest q. u.seq_first q) (h1 k)

pub formal_behind_2 : (k : ℕ) (ts : List Token) (at : ℕ) (by_place : Bool) (xs : List Named) (next : ℕ) (s : Stop) →
    Takes (form n.NameList) itself ts at (Ok (xs, next)) → Passes (one t.Colon) ts next (Err s) →
    Gives formal_rest (formal_of by_place) k ts at (Err s)
unfolding SaysTitle after stmt_option item_option named_stmt_of Stops Says Gives Takes Passes Opens can_begin is_in apart within
formal_behind_2 k ts at by_place xs next s h1 h2 =
    stops_as ts next at s (λ why rest q. u.seq_second (h1.2 k) (u.seq_first q)) (h2 k)

pub formal_behind_3 :
    (k : ℕ) (ts : List Token) (at : ℕ) (by_place : Bool) (xs : List Named) (next : ℕ) (behind : ℕ) (s : Stop) →
    Takes (form n.NameList) itself ts at (Ok (xs, next)) → Passes (one t.Colon) ts next (Ok behind) →
    Says n.TypeForm k ts behind (Err s) → Gives formal_rest (formal_of by_place) k ts at (Err s)
unfolding SaysTitle after stmt_option item_option named_stmt_of Stops Says Gives Takes Passes Opens can_begin is_in apart within
formal_behind_3 k ts at by_place xs next behind s h1 h2 h3 =
    stops_as ts behind at s (λ why rest q. u.seq_second (h1.2 k) (u.seq_second (h2.1 k) q)) h3

pub formal_behind_4 :
    (k : ℕ) (ts : List Token) (at : ℕ) (by_place : Bool) (xs : List Named) (next : ℕ) (behind : ℕ) (body : TypeExpr) (end : ℕ) →
    Takes (form n.NameList) itself ts at (Ok (xs, next)) → Passes (one t.Colon) ts next (Ok behind) →
    Says n.TypeForm k ts behind (Ok (body, end)) →
    Gives formal_rest (formal_of by_place) k ts at (Ok (record { by_place = by_place; names = xs; body = body }, end))
unfolding SaysTitle after stmt_option item_option named_stmt_of Stops Says Gives Takes Passes Opens can_begin is_in apart within
formal_behind_4 k ts at by_place xs next behind body end h1 h2 h3 =
    (_, ap (λ z. (record { by_place = by_place; names = z; body = body })) h1.1, u.seq (h1.2 k) (u.seq (h2.1 k) h3))

pub ruleset formal_behind_arms = (formal_behind_1, formal_behind_2, formal_behind_3, formal_behind_4, gives_no_memory)

pub formals_1 : (k : ℕ) (ts : List Token) (at : ℕ) (s : Stop) → Says n.Formal k ts at (Err s) →
    Says n.Formals k ts at (Err s)
unfolding SaysTitle after stmt_option item_option named_stmt_of Stops Says Gives Takes Passes Opens can_begin is_in apart within
formals_1 k ts at s h1 = stops_as ts at at s (λ why rest q. u.call_stop (u.seq_first q)) h1

pub formals_2 : (k : ℕ) (ts : List Token) (at : ℕ) (x : Formal) (next : ℕ) (s : Stop) →
    Says n.Formal k ts at (Ok (x, next)) → Gives (cut n.MoreFormals) (after (x ∷ [])) k ts next (Err s) →
    Says n.Formals k ts at (Err s)
unfolding SaysTitle after stmt_option item_option named_stmt_of Stops Says Gives Takes Passes Opens can_begin is_in apart within
formals_2 k ts at x next s h1 h2 = stops_as ts next at s (λ why rest q. u.call_stop (u.seq_second h1 q)) h2

pub formals_3 : (k : ℕ) (ts : List Token) (at : ℕ) (x : Formal) (next : ℕ) (xs : List Formal) (end : ℕ) →
    Says n.Formal k ts at (Ok (x, next)) → Gives (cut n.MoreFormals) (after (x ∷ [])) k ts next (Ok (xs, end)) →
    Says n.Formals k ts at (Ok (xs, end))
unfolding SaysTitle after stmt_option item_option named_stmt_of Stops Says Gives Takes Passes Opens can_begin is_in apart within
formals_3 k ts at x next xs end h1 h2 = u.call (ap (λ z. z) h2.1) (u.seq h1 h2.2)

pub ruleset formals_arms = (formals_1, formals_2, formals_3, no_memory)

pub formals_in_1 : (k : ℕ) (ts : List Token) (at : ℕ) (s : Stop) → Opens t.Open k ts at (Err s) →
    Says (n.Cut n.FormalsIn) k ts at (Err s)
unfolding SaysTitle after stmt_option item_option named_stmt_of Stops Says Gives Takes Passes Opens can_begin is_in apart within
formals_in_1 k ts at s h1 = stops_as ts at at s (λ why rest q. u.call_stop q) (h1 _)

pub formals_in_2 : (k : ℕ) (ts : List Token) (at : ℕ) (m : ℕ) (s : Stop) → Opens t.Open k ts at (Ok m) →
    can_begin (form n.Formals) ts (at + 1) ≡ true → Says n.Formals m ts (at + 1) (Err s) →
    Says (n.Cut n.FormalsIn) k ts at (Err s)
unfolding SaysTitle after stmt_option item_option named_stmt_of Stops Says Gives Takes Passes Opens can_begin is_in apart within
formals_in_2 k ts at m s h1 h2 h3 =
    let w1 = token_here t.Open ts at h1.0 in
    stops_as ts (at + 1) at s (λ why rest q. u.call_stop (u.nest_stop w1.1 w1.2 (inside k m h1.1) (u.seq_first (u.left_stop h2 q)))) h3

pub formals_in_3 : (k : ℕ) (ts : List Token) (at : ℕ) (m : ℕ) (xs : List Formal) (next : ℕ) (s : Stop) →
    Opens t.Open k ts at (Ok m) → can_begin (form n.Formals) ts (at + 1) ≡ true →
    Says n.Formals m ts (at + 1) (Ok (xs, next)) → Passes (one t.Close) ts next (Err s) →
    Says (n.Cut n.FormalsIn) k ts at (Err s)
unfolding SaysTitle after stmt_option item_option named_stmt_of Stops Says Gives Takes Passes Opens can_begin is_in apart within
formals_in_3 k ts at m xs next s h1 h2 h3 h4 =
    let w1 = token_here t.Open ts at h1.0 in
    stops_as ts next at s (λ why rest q. u.call_stop (u.nest_stop w1.1 w1.2 (inside k m h1.1) (u.seq_second (u.left h2 h3) q))) (h4 m)

pub formals_in_4 : (k : ℕ) (ts : List Token) (at : ℕ) (m : ℕ) (xs : List Formal) (next : ℕ) (end : ℕ) →
    Opens t.Open k ts at (Ok m) → can_begin (form n.Formals) ts (at + 1) ≡ true →
    Says n.Formals m ts (at + 1) (Ok (xs, next)) → Passes (one t.Close) ts next (Ok end) →
    Says (n.Cut n.FormalsIn) k ts at (Ok (xs, end))
unfolding SaysTitle after stmt_option item_option named_stmt_of Stops Says Gives Takes Passes Opens can_begin is_in apart within
formals_in_4 k ts at m xs next end h1 h2 h3 h4 =
    let w1 = token_here t.Open ts at h1.0 in
    u.call refl (u.nest w1.1 w1.2 (inside k m h1.1) (u.seq (u.left h2 h3) (h4.1 m)))

pub formals_in_5 : (k : ℕ) (ts : List Token) (at : ℕ) (m : ℕ) (s : Stop) → Opens t.Open k ts at (Ok m) →
    can_begin (form n.Formals) ts (at + 1) ≡ false → Passes (one t.Close) ts (at + 1) (Err s) →
    Says (n.Cut n.FormalsIn) k ts at (Err s)
unfolding SaysTitle after stmt_option item_option named_stmt_of Stops Says Gives Takes Passes Opens can_begin is_in apart within
formals_in_5 k ts at m s h1 h2 h3 =
    let w1 = token_here t.Open ts at h1.0 in
    stops_as ts (at + 1) at s (λ why rest q. u.call_stop (u.nest_stop w1.1 w1.2 (inside k m h1.1) (u.seq_second (u.right h2 u.empty) q))) (h3 m)

pub formals_in_6 : (k : ℕ) (ts : List Token) (at : ℕ) (m : ℕ) (end : ℕ) → Opens t.Open k ts at (Ok m) →
    can_begin (form n.Formals) ts (at + 1) ≡ false → Passes (one t.Close) ts (at + 1) (Ok end) →
    Says (n.Cut n.FormalsIn) k ts at (Ok ([], end))
unfolding SaysTitle after stmt_option item_option named_stmt_of Stops Says Gives Takes Passes Opens can_begin is_in apart within
formals_in_6 k ts at m end h1 h2 h3 =
    let w1 = token_here t.Open ts at h1.0 in
    u.call refl (u.nest w1.1 w1.2 (inside k m h1.1) (u.seq (u.right h2 u.empty) (h3.1 m)))

pub ruleset formals_in_arms = (
  formals_in_1,
  formals_in_2,
  formals_in_3,
  formals_in_4,
  formals_in_5,
  formals_in_6,
  no_memory,
)

pub routine_1 : (k : ℕ) (ts : List Token) (at : ℕ) (r : Result (Decl × ℕ) Stop) →
    can_begin (one t.Procedure) ts at ≡ true → Gives procedure_form procedure_of k ts at r →
    Says n.Routine k ts at r
unfolding SaysTitle after stmt_option item_option named_stmt_of Stops Says Gives Takes Passes Opens can_begin is_in apart within
routine_1 k ts at (Ok (x, next)) h1 h2 = u.call h2.1 (u.left h1 h2.2)
routine_1 k ts at (Err s) h1 h2 = stops_as ts at at s (λ why rest q. u.call_stop (u.left_stop h1 q)) h2

pub routine_2 : (k : ℕ) (ts : List Token) (at : ℕ) (r : Result (Decl × ℕ) Stop) →
    can_begin (one t.Procedure) ts at ≡ false → Gives function_form function_of k ts at r → Says n.Routine k ts at r
unfolding SaysTitle after stmt_option item_option named_stmt_of Stops Says Gives Takes Passes Opens can_begin is_in apart within
routine_2 k ts at (Ok (x, next)) h1 h2 = u.call h2.1 (u.right h1 h2.2)
routine_2 k ts at (Err s) h1 h2 = stops_as ts at at s (λ why rest q. u.call_stop (u.right_stop h1 q)) h2

pub ruleset routine_arms = (routine_1, routine_2, no_memory)

pub procedure_1 : (k : ℕ) (ts : List Token) (at : ℕ) (s : Stop) → Opens t.Procedure k ts at (Err s) →
    Gives procedure_form procedure_of k ts at (Err s)
unfolding SaysTitle after stmt_option item_option named_stmt_of Stops Says Gives Takes Passes Opens can_begin is_in apart within
procedure_1 k ts at s h1 = stops_as ts at at s (λ why rest q. q) (h1 _)

pub procedure_2 : (k : ℕ) (ts : List Token) (at : ℕ) (m : ℕ) (s : Stop) → Opens t.Procedure k ts at (Ok m) →
    Takes (one t.Name) named ts (at + 1) (Err s) → Gives procedure_form procedure_of k ts at (Err s)
unfolding SaysTitle after stmt_option item_option named_stmt_of Stops Says Gives Takes Passes Opens can_begin is_in apart within
procedure_2 k ts at m s h1 h2 =
    let w1 = token_here t.Procedure ts at h1.0 in
    stops_as ts (at + 1) at s (λ why rest q. u.nest_stop w1.1 w1.2 (inside k m h1.1) (u.seq_first q)) (h2 m)

pub procedure_3 : (k : ℕ) (ts : List Token) (at : ℕ) (m : ℕ) (x : Named) (next : ℕ) (s : Stop) →
    Opens t.Procedure k ts at (Ok m) → Takes (one t.Name) named ts (at + 1) (Ok (x, next)) →
    Says (n.Cut n.FormalsIn) m ts next (Err s) → Gives procedure_form procedure_of k ts at (Err s)
unfolding SaysTitle after stmt_option item_option named_stmt_of Stops Says Gives Takes Passes Opens can_begin is_in apart within
procedure_3 k ts at m x next s h1 h2 h3 =
    let w1 = token_here t.Procedure ts at h1.0 in
    stops_as ts next at s (λ why rest q. u.nest_stop w1.1 w1.2 (inside k m h1.1) (u.seq_second (h2.2 m) (u.seq_first q))) h3

pub procedure_4 :
    (k : ℕ) (ts : List Token) (at : ℕ) (m : ℕ) (x : Named) (next : ℕ) (fs : List Formal) (behind : ℕ) (s : Stop) →
    Opens t.Procedure k ts at (Ok m) → Takes (one t.Name) named ts (at + 1) (Ok (x, next)) →
    Says (n.Cut n.FormalsIn) m ts next (Ok (fs, behind)) → Passes (one t.Semicolon) ts behind (Err s) →
    Gives procedure_form procedure_of k ts at (Err s)
unfolding SaysTitle after stmt_option item_option named_stmt_of Stops Says Gives Takes Passes Opens can_begin is_in apart within
procedure_4 k ts at m x next fs behind s h1 h2 h3 h4 =
    let w1 = token_here t.Procedure ts at h1.0 in
    stops_as ts behind at s (λ why rest q. u.nest_stop w1.1 w1.2 (inside k m h1.1) (u.seq_second (h2.2 m) (u.seq_second h3 (u.seq_first q)))) (h4 m)

pub procedure_5 :
    (k : ℕ) (ts : List Token) (at : ℕ) (m : ℕ) (x : Named) (next : ℕ) (fs : List Formal) (behind : ℕ) (start : ℕ) (s : Stop) →
    Opens t.Procedure k ts at (Ok m) → Takes (one t.Name) named ts (at + 1) (Ok (x, next)) →
    Says (n.Cut n.FormalsIn) m ts next (Ok (fs, behind)) → Passes (one t.Semicolon) ts behind (Ok start) →
    Says n.Body m ts start (Err s) → Gives procedure_form procedure_of k ts at (Err s)
unfolding SaysTitle after stmt_option item_option named_stmt_of Stops Says Gives Takes Passes Opens can_begin is_in apart within
procedure_5 k ts at m x next fs behind start s h1 h2 h3 h4 h5 =
    let w1 = token_here t.Procedure ts at h1.0 in
    stops_as ts start at s (λ why rest q. u.nest_stop w1.1 w1.2 (inside k m h1.1) (u.seq_second (h2.2 m) (u.seq_second h3 (u.seq_second (h4.1 m) (u.seq_first q))))) h5

pub procedure_6 :
    (k : ℕ) (ts : List Token) (at : ℕ) (m : ℕ) (x : Named) (next : ℕ) (fs : List Formal) (behind : ℕ) (start : ℕ) (ds : List Decl) (ss : List Stmt) (last : ℕ) (s : Stop) →
    Opens t.Procedure k ts at (Ok m) → Takes (one t.Name) named ts (at + 1) (Ok (x, next)) →
    Says (n.Cut n.FormalsIn) m ts next (Ok (fs, behind)) → Passes (one t.Semicolon) ts behind (Ok start) →
    Says n.Body m ts start (Ok ((ds, ss), last)) → Passes (ending t.EndProcedure) ts last (Err s) →
    Gives procedure_form procedure_of k ts at (Err s)
unfolding SaysTitle after stmt_option item_option named_stmt_of Stops Says Gives Takes Passes Opens can_begin is_in apart within
procedure_6 k ts at m x next fs behind start ds ss last s h1 h2 h3 h4 h5 h6 =
    let w1 = token_here t.Procedure ts at h1.0 in
    stops_as ts last at s (λ why rest q. u.nest_stop w1.1 w1.2 (inside k m h1.1) (u.seq_second (h2.2 m) (u.seq_second h3 (u.seq_second (h4.1 m) (u.seq_second h5 (u.seq_first q)))))) (h6 m)

pub procedure_7 :
    (k : ℕ) (ts : List Token) (at : ℕ) (m : ℕ) (x : Named) (next : ℕ) (fs : List Formal) (behind : ℕ) (start : ℕ) (ds : List Decl) (ss : List Stmt) (last : ℕ) (word : ℕ) (s : Stop) →
    Opens t.Procedure k ts at (Ok m) → Takes (one t.Name) named ts (at + 1) (Ok (x, next)) →
    Says (n.Cut n.FormalsIn) m ts next (Ok (fs, behind)) → Passes (one t.Semicolon) ts behind (Ok start) →
    Says n.Body m ts start (Ok ((ds, ss), last)) → Passes (ending t.EndProcedure) ts last (Ok word) →
    Passes (one t.Semicolon) ts word (Err s) → Gives procedure_form procedure_of k ts at (Err s)
unfolding SaysTitle after stmt_option item_option named_stmt_of Stops Says Gives Takes Passes Opens can_begin is_in apart within
procedure_7 k ts at m x next fs behind start ds ss last word s h1 h2 h3 h4 h5 h6 h7 =
    let w1 = token_here t.Procedure ts at h1.0 in
    stops_as ts word at s (λ why rest q. u.nest_stop w1.1 w1.2 (inside k m h1.1) (u.seq_second (h2.2 m) (u.seq_second h3 (u.seq_second (h4.1 m) (u.seq_second h5 (u.seq_second (h6.1 m) q)))))) (h7 m)

pub procedure_8 :
    (k : ℕ) (ts : List Token) (at : ℕ) (m : ℕ) (x : Named) (next : ℕ) (fs : List Formal) (behind : ℕ) (start : ℕ) (ds : List Decl) (ss : List Stmt) (last : ℕ) (word : ℕ) (end : ℕ) →
    Opens t.Procedure k ts at (Ok m) → Takes (one t.Name) named ts (at + 1) (Ok (x, next)) →
    Says (n.Cut n.FormalsIn) m ts next (Ok (fs, behind)) → Passes (one t.Semicolon) ts behind (Ok start) →
    Says n.Body m ts start (Ok ((ds, ss), last)) → Passes (ending t.EndProcedure) ts last (Ok word) →
    Passes (one t.Semicolon) ts word (Ok end) →
    Gives procedure_form procedure_of k ts at (Ok (d.Routine (record { name = x; formals = fs; result = None; locals = ds; body = ss }), end))
unfolding SaysTitle after stmt_option item_option named_stmt_of Stops Says Gives Takes Passes Opens can_begin is_in apart within
procedure_8 k ts at m x next fs behind start ds ss last word end h1 h2 h3 h4 h5 h6 h7 =
    let w1 = token_here t.Procedure ts at h1.0 in
    (_, ap (λ z. (d.Routine (record { name = z; formals = fs; result = None; locals = ds; body = ss }))) h2.1, u.nest w1.1 w1.2 (inside k m h1.1) (u.seq (h2.2 m) (u.seq h3 (u.seq (h4.1 m) (u.seq h5 (u.seq (h6.1 m) (h7.1 m)))))))

pub ruleset procedure_arms = (
  procedure_1,
  procedure_2,
  procedure_3,
  procedure_4,
  procedure_5,
  procedure_6,
  procedure_7,
  procedure_8,
  gives_no_memory,
)

pub function_1 : (k : ℕ) (ts : List Token) (at : ℕ) (s : Stop) → Opens t.Function k ts at (Err s) →
    Gives function_form function_of k ts at (Err s)
unfolding SaysTitle after stmt_option item_option named_stmt_of Stops Says Gives Takes Passes Opens can_begin is_in apart within
function_1 k ts at s h1 = stops_as ts at at s (λ why rest q. q) (h1 _)

pub function_2 : (k : ℕ) (ts : List Token) (at : ℕ) (m : ℕ) (s : Stop) → Opens t.Function k ts at (Ok m) →
    Takes (one t.Name) named ts (at + 1) (Err s) → Gives function_form function_of k ts at (Err s)
unfolding SaysTitle after stmt_option item_option named_stmt_of Stops Says Gives Takes Passes Opens can_begin is_in apart within
function_2 k ts at m s h1 h2 =
    let w1 = token_here t.Function ts at h1.0 in
    stops_as ts (at + 1) at s (λ why rest q. u.nest_stop w1.1 w1.2 (inside k m h1.1) (u.seq_first q)) (h2 m)

pub function_3 : (k : ℕ) (ts : List Token) (at : ℕ) (m : ℕ) (x : Named) (next : ℕ) (s : Stop) →
    Opens t.Function k ts at (Ok m) → Takes (one t.Name) named ts (at + 1) (Ok (x, next)) →
    Says (n.Cut n.FormalsIn) m ts next (Err s) → Gives function_form function_of k ts at (Err s)
unfolding SaysTitle after stmt_option item_option named_stmt_of Stops Says Gives Takes Passes Opens can_begin is_in apart within
function_3 k ts at m x next s h1 h2 h3 =
    let w1 = token_here t.Function ts at h1.0 in
    stops_as ts next at s (λ why rest q. u.nest_stop w1.1 w1.2 (inside k m h1.1) (u.seq_second (h2.2 m) (u.seq_first q))) h3

pub function_4 :
    (k : ℕ) (ts : List Token) (at : ℕ) (m : ℕ) (x : Named) (next : ℕ) (fs : List Formal) (behind : ℕ) (s : Stop) →
    Opens t.Function k ts at (Ok m) → Takes (one t.Name) named ts (at + 1) (Ok (x, next)) →
    Says (n.Cut n.FormalsIn) m ts next (Ok (fs, behind)) → Passes (one t.Colon) ts behind (Err s) →
    Gives function_form function_of k ts at (Err s)
unfolding SaysTitle after stmt_option item_option named_stmt_of Stops Says Gives Takes Passes Opens can_begin is_in apart within
function_4 k ts at m x next fs behind s h1 h2 h3 h4 =
    let w1 = token_here t.Function ts at h1.0 in
    stops_as ts behind at s (λ why rest q. u.nest_stop w1.1 w1.2 (inside k m h1.1) (u.seq_second (h2.2 m) (u.seq_second h3 (u.seq_first q)))) (h4 m)

pub function_5 :
    (k : ℕ) (ts : List Token) (at : ℕ) (m : ℕ) (x : Named) (next : ℕ) (fs : List Formal) (behind : ℕ) (start : ℕ) (s : Stop) →
    Opens t.Function k ts at (Ok m) → Takes (one t.Name) named ts (at + 1) (Ok (x, next)) →
    Says (n.Cut n.FormalsIn) m ts next (Ok (fs, behind)) → Passes (one t.Colon) ts behind (Ok start) →
    Says n.TypeForm m ts start (Err s) → Gives function_form function_of k ts at (Err s)
unfolding SaysTitle after stmt_option item_option named_stmt_of Stops Says Gives Takes Passes Opens can_begin is_in apart within
function_5 k ts at m x next fs behind start s h1 h2 h3 h4 h5 =
    let w1 = token_here t.Function ts at h1.0 in
    stops_as ts start at s (λ why rest q. u.nest_stop w1.1 w1.2 (inside k m h1.1) (u.seq_second (h2.2 m) (u.seq_second h3 (u.seq_second (h4.1 m) (u.seq_first q))))) h5

pub function_6 :
    (k : ℕ) (ts : List Token) (at : ℕ) (m : ℕ) (x : Named) (next : ℕ) (fs : List Formal) (behind : ℕ) (start : ℕ) (result : TypeExpr) (semicolon : ℕ) (s : Stop) →
    Opens t.Function k ts at (Ok m) → Takes (one t.Name) named ts (at + 1) (Ok (x, next)) →
    Says (n.Cut n.FormalsIn) m ts next (Ok (fs, behind)) → Passes (one t.Colon) ts behind (Ok start) →
    Says n.TypeForm m ts start (Ok (result, semicolon)) → Passes (one t.Semicolon) ts semicolon (Err s) →
    Gives function_form function_of k ts at (Err s)
unfolding SaysTitle after stmt_option item_option named_stmt_of Stops Says Gives Takes Passes Opens can_begin is_in apart within
function_6 k ts at m x next fs behind start result semicolon s h1 h2 h3 h4 h5 h6 =
    let w1 = token_here t.Function ts at h1.0 in
    stops_as ts semicolon at s (λ why rest q. u.nest_stop w1.1 w1.2 (inside k m h1.1) (u.seq_second (h2.2 m) (u.seq_second h3 (u.seq_second (h4.1 m) (u.seq_second h5 (u.seq_first q)))))) (h6 m)

pub function_7 :
    (k : ℕ) (ts : List Token) (at : ℕ) (m : ℕ) (x : Named) (next : ℕ) (fs : List Formal) (behind : ℕ) (start : ℕ) (result : TypeExpr) (semicolon : ℕ) (first : ℕ) (s : Stop) →
    Opens t.Function k ts at (Ok m) → Takes (one t.Name) named ts (at + 1) (Ok (x, next)) →
    Says (n.Cut n.FormalsIn) m ts next (Ok (fs, behind)) → Passes (one t.Colon) ts behind (Ok start) →
    Says n.TypeForm m ts start (Ok (result, semicolon)) → Passes (one t.Semicolon) ts semicolon (Ok first) →
    Says n.Body m ts first (Err s) → Gives function_form function_of k ts at (Err s)
unfolding SaysTitle after stmt_option item_option named_stmt_of Stops Says Gives Takes Passes Opens can_begin is_in apart within
function_7 k ts at m x next fs behind start result semicolon first s h1 h2 h3 h4 h5 h6 h7 =
    let w1 = token_here t.Function ts at h1.0 in
    stops_as ts first at s (λ why rest q. u.nest_stop w1.1 w1.2 (inside k m h1.1) (u.seq_second (h2.2 m) (u.seq_second h3 (u.seq_second (h4.1 m) (u.seq_second h5 (u.seq_second (h6.1 m) (u.seq_first q))))))) h7

pub function_8 :
    (k : ℕ) (ts : List Token) (at : ℕ) (m : ℕ) (x : Named) (next : ℕ) (fs : List Formal) (behind : ℕ) (start : ℕ) (result : TypeExpr) (semicolon : ℕ) (first : ℕ) (ds : List Decl) (ss : List Stmt) (last : ℕ) (s : Stop) →
    Opens t.Function k ts at (Ok m) → Takes (one t.Name) named ts (at + 1) (Ok (x, next)) →
    Says (n.Cut n.FormalsIn) m ts next (Ok (fs, behind)) → Passes (one t.Colon) ts behind (Ok start) →
    Says n.TypeForm m ts start (Ok (result, semicolon)) → Passes (one t.Semicolon) ts semicolon (Ok first) →
    Says n.Body m ts first (Ok ((ds, ss), last)) → Passes (ending t.EndFunction) ts last (Err s) →
    Gives function_form function_of k ts at (Err s)
unfolding SaysTitle after stmt_option item_option named_stmt_of Stops Says Gives Takes Passes Opens can_begin is_in apart within
function_8 k ts at m x next fs behind start result semicolon first ds ss last s h1 h2 h3 h4 h5 h6 h7 h8 =
    let w1 = token_here t.Function ts at h1.0 in
    stops_as ts last at s (λ why rest q. u.nest_stop w1.1 w1.2 (inside k m h1.1) (u.seq_second (h2.2 m) (u.seq_second h3 (u.seq_second (h4.1 m) (u.seq_second h5 (u.seq_second (h6.1 m) (u.seq_second h7 (u.seq_first q)))))))) (h8 m)

pub function_9 :
    (k : ℕ) (ts : List Token) (at : ℕ) (m : ℕ) (x : Named) (next : ℕ) (fs : List Formal) (behind : ℕ) (start : ℕ) (result : TypeExpr) (semicolon : ℕ) (first : ℕ) (ds : List Decl) (ss : List Stmt) (last : ℕ) (word : ℕ) (s : Stop) →
    Opens t.Function k ts at (Ok m) → Takes (one t.Name) named ts (at + 1) (Ok (x, next)) →
    Says (n.Cut n.FormalsIn) m ts next (Ok (fs, behind)) → Passes (one t.Colon) ts behind (Ok start) →
    Says n.TypeForm m ts start (Ok (result, semicolon)) → Passes (one t.Semicolon) ts semicolon (Ok first) →
    Says n.Body m ts first (Ok ((ds, ss), last)) → Passes (ending t.EndFunction) ts last (Ok word) →
    Passes (one t.Semicolon) ts word (Err s) → Gives function_form function_of k ts at (Err s)
unfolding SaysTitle after stmt_option item_option named_stmt_of Stops Says Gives Takes Passes Opens can_begin is_in apart within
function_9 k ts at m x next fs behind start result semicolon first ds ss last word s h1 h2 h3 h4 h5 h6 h7 h8 h9 =
    let w1 = token_here t.Function ts at h1.0 in
    stops_as ts word at s (λ why rest q. u.nest_stop w1.1 w1.2 (inside k m h1.1) (u.seq_second (h2.2 m) (u.seq_second h3 (u.seq_second (h4.1 m) (u.seq_second h5 (u.seq_second (h6.1 m) (u.seq_second h7 (u.seq_second (h8.1 m) q)))))))) (h9 m)

pub function_10 :
    (k : ℕ) (ts : List Token) (at : ℕ) (m : ℕ) (x : Named) (next : ℕ) (fs : List Formal) (behind : ℕ) (start : ℕ) (result : TypeExpr) (semicolon : ℕ) (first : ℕ) (ds : List Decl) (ss : List Stmt) (last : ℕ) (word : ℕ) (end : ℕ) →
    Opens t.Function k ts at (Ok m) → Takes (one t.Name) named ts (at + 1) (Ok (x, next)) →
    Says (n.Cut n.FormalsIn) m ts next (Ok (fs, behind)) → Passes (one t.Colon) ts behind (Ok start) →
    Says n.TypeForm m ts start (Ok (result, semicolon)) → Passes (one t.Semicolon) ts semicolon (Ok first) →
    Says n.Body m ts first (Ok ((ds, ss), last)) → Passes (ending t.EndFunction) ts last (Ok word) →
    Passes (one t.Semicolon) ts word (Ok end) →
    Gives function_form function_of k ts at (Ok (d.Routine (record { name = x; formals = fs; result = Some result; locals = ds; body = ss }), end))
unfolding SaysTitle after stmt_option item_option named_stmt_of Stops Says Gives Takes Passes Opens can_begin is_in apart within
function_10 k ts at m x next fs behind start result semicolon first ds ss last word end h1 h2 h3 h4 h5 h6 h7 h8 h9 =
    let w1 = token_here t.Function ts at h1.0 in
    (_, ap (λ z. (d.Routine (record { name = z; formals = fs; result = Some result; locals = ds; body = ss }))) h2.1, u.nest w1.1 w1.2 (inside k m h1.1) (u.seq (h2.2 m) (u.seq h3 (u.seq (h4.1 m) (u.seq h5 (u.seq (h6.1 m) (u.seq h7 (u.seq (h8.1 m) (h9.1 m)))))))))

pub ruleset function_arms = (
  function_1,
  function_2,
  function_3,
  function_4,
  function_5,
  function_6,
  function_7,
  function_8,
  function_9,
  function_10,
  gives_no_memory,
)
