-- One lemma for each way through the loops over statements.
use Rattle.std.specs.Prelude.{Option, map}
use Rattle.std.proofs.Common.{inl, inr, ◌≡◌, ℕ, zero, suc, ◌+◌, Bool, true, false, List, [], ◌∷◌, ◌++◌, ◌⊎◌, drop, Some, None, Ok, Err, Result, refl, sym, ap, ◌∙◌, subst}
use Rattle.grammar_core.specs.Forms.{Call, Seq, Choice, Empty, TreeOf}
use Rattle.grammar_core.specs.Spelling.{Limit}
use Rattle.grammar_core.specs.Reading as read
use Rattle.grammar_core.specs.Reading.{Fault, Got}
use Rattle.grammar_core.specs.Test.{is_in, apart, within}
use Rattle.grammar_core.specs.Walk as u
use Rattle.grammar_core.specs.Walk.{Run}
use Rattle.murphi_ast.specs.declared.text.Text.{Text}
use Rattle.murphi_ast.specs.declared.token.Token.{Token}
use Rattle.murphi_ast.specs.declared.expr.Named.{Named}
use Rattle.murphi_ast.specs.declared.expr.Designator.{Designator}
use Rattle.murphi_ast.specs.declared.expr.Selector.{Selector}
use Rattle.murphi_ast.specs.declared.expr.Bind.{Bind}
use Rattle.murphi_ast.specs.declared.expr.TypeExpr.{TypeExpr}
use Rattle.murphi_ast.specs.declared.expr.Expr.{Expr}
use Rattle.murphi_ast.specs.declared.stmt.Stmt as s
use Rattle.murphi_ast.specs.declared.stmt.Stmt.{Stmt}
use Rattle.murphi_ast.specs.declared.stmt.Arm.{Arm}
use Rattle.murphi_ast.specs.declared.stmt.Case.{Case}
use Rattle.murphi_ast.specs.declared.decl.Decl as d
use Rattle.murphi_ast.specs.declared.decl.Decl.{Decl}
use Rattle.murphi_ast.specs.declared.decl.Formal.{Formal}
use Rattle.murphi_ast.specs.declared.rule.RuleDecl as r
use Rattle.murphi_ast.specs.declared.rule.RuleDecl.{RuleDecl}
use Rattle.murphi_ast.specs.declared.rule.Protocol.{Protocol}
use Rattle.murphi_grammar.specs.declared.symbol.Symbol.{Symbol}
use Rattle.murphi_grammar.specs.declared.symbol.Symbol.TheVariants as t
use Rattle.murphi_grammar.specs.Names as n
use Rattle.murphi_grammar.specs.Parts.{Part, ◌▸◌, ◌∥◌, one, form, many, optional, nest, ending, in_parentheses}
use Rattle.murphi_grammar.specs.Pieces.{cut, piece, piece_build}
use Rattle.murphi_grammar.specs.Values as v
use Rattle.murphi_grammar.specs.Values.{Value, named, seconds, present, joined, declared}
use Rattle.murphi_grammar.specs.Tables.{tables}
use Rattle.murphi_expressions.specs.Says.{Stops, Says, Gives, Takes, Passes, Opens, Enters, SoFar, can_begin, place_of, number_of, itself, with_front}
use Rattle.murphi_expressions.specs.declared.step.Stop.{Stop}
use Rattle.murphi_expressions.specs.declared.step.Stop.TheVariants.{Wrong, Deep, Memory}
use Rattle.murphi_expressions.proofs.Heads.{token_here}
use Rattle.murphi_expressions.proofs.Steps.{full, takes_no_memory}
use Rattle.murphi_expressions.proofs.Ways.{stops_as, inside, included, excluded, shrunk, no_memory, gives_no_memory, read_more, read_all, read_stops, renamed, said}
use Rattle.murphi_protocols.specs.Parts.{SaysTitle, constant_form, type_name_form, variables_form, after, added, option_of, stmt_option, item_option, decls_of, named_stmt_of, simple_form, simple_of, if_form, if_of, switch_form, switch_of, for_form, for_of, formal_rest, formal_of, procedure_form, procedure_of, function_form, function_of, group_form, group_of}
use Rattle.murphi_expressions.proofs.Ways.{with_none}
use Rattle.murphi_protocols.proofs.Fronts.{fronted, present_more}
use Rattle.murphi_grammar.specs.Factored.{build}

pub labels_start : (front : List Expr) (k : ℕ) (ts : List Token) (at : ℕ) →
    SoFar (piece n.MoreLabels) (piece_build n.MoreLabels) (cut n.MoreLabels) (after front) k ts at at front
unfolding SoFar after
labels_start front k ts at = λ r p. fronted (cut n.MoreLabels) itself front k ts at r (renamed (n.Cut n.MoreLabels) k ts at r p)

pub labels_more : (front : List Expr) (k : ℕ) (ts : List Token) (from at : ℕ) (list : List Expr) (x : Expr) (next : ℕ) →
    SoFar (piece n.MoreLabels) (piece_build n.MoreLabels) (cut n.MoreLabels) (after front) k ts from at list → can_begin (one t.Comma) ts at ≡ true → Says n.Implies k ts (at + 1) (Ok (x, next)) →
    SoFar (piece n.MoreLabels) (piece_build n.MoreLabels) (cut n.MoreLabels) (after front) k ts from next (list ++ (x ∷ []))
unfolding SaysTitle after stmt_option item_option named_stmt_of Stops Says Gives Takes Passes Opens can_begin is_in apart within
labels_more front k ts from at list x next so h p =
    let w = token_here t.Comma ts at h in
    read_more (one t.Comma ▸ form n.Implies) (piece_build n.MoreLabels) (cut n.MoreLabels) (after front) k ts from at next list (x ∷ []) (w.0, x) so (λ xs. refl) (u.seq (u.token w.1 w.2) p)

pub labels_done : (front : List Expr) (k : ℕ) (ts : List Token) (from at : ℕ) (list : List Expr) →
    SoFar (piece n.MoreLabels) (piece_build n.MoreLabels) (cut n.MoreLabels) (after front) k ts from at list → can_begin (one t.Comma) ts at ≡ false → Gives (cut n.MoreLabels) (after front) k ts from (Ok (list, at))
unfolding SaysTitle after stmt_option item_option named_stmt_of Stops Says Gives Takes Passes Opens can_begin is_in apart within
labels_done front k ts from at list so h = read_all (one t.Comma ▸ form n.Implies) (piece_build n.MoreLabels) (cut n.MoreLabels) (after front) k ts from at list so refl h

pub labels_stop : (front : List Expr) (k : ℕ) (ts : List Token) (from at : ℕ) (list : List Expr) (s : Stop) →
    SoFar (piece n.MoreLabels) (piece_build n.MoreLabels) (cut n.MoreLabels) (after front) k ts from at list → can_begin (one t.Comma) ts at ≡ true → Says n.Implies k ts (at + 1) (Err s) → Gives (cut n.MoreLabels) (after front) k ts from (Err s)
unfolding SaysTitle after stmt_option item_option named_stmt_of Stops Says Gives Takes Passes Opens can_begin is_in apart within
labels_stop front k ts from at list s so h p =
    let w = token_here t.Comma ts at h in
    read_stops (one t.Comma ▸ form n.Implies) (form n.Implies) (piece_build n.MoreLabels) (cut n.MoreLabels) (after front) k k ts from at (at + 1) list s so h (λ why rest q. u.seq_second (u.token w.1 w.2) q) p

pub ruleset labels_arms = (labels_start, labels_more, labels_done, labels_stop, gives_no_memory)

pub more_arms_start : (front : List Arm) (k : ℕ) (ts : List Token) (at : ℕ) →
    SoFar (piece n.MoreArms) (piece_build n.MoreArms) (cut n.MoreArms) (after front) k ts at at front
unfolding SoFar after
more_arms_start front k ts at = λ r p. fronted (cut n.MoreArms) itself front k ts at r (renamed (n.Cut n.MoreArms) k ts at r p)

pub more_arms_more : (front : List Arm) (k : ℕ) (ts : List Token) (from at : ℕ) (list : List Arm) (x : Arm) (next : ℕ) →
    SoFar (piece n.MoreArms) (piece_build n.MoreArms) (cut n.MoreArms) (after front) k ts from at list → can_begin (one t.Elsif) ts at ≡ true → Says (n.Cut n.IfArm) k ts (at + 1) (Ok (x, next)) →
    SoFar (piece n.MoreArms) (piece_build n.MoreArms) (cut n.MoreArms) (after front) k ts from next (list ++ (x ∷ []))
unfolding SaysTitle after stmt_option item_option named_stmt_of Stops Says Gives Takes Passes Opens can_begin is_in apart within
more_arms_more front k ts from at list x next so h p =
    let w = token_here t.Elsif ts at h in
    read_more (one t.Elsif ▸ cut n.IfArm) (piece_build n.MoreArms) (cut n.MoreArms) (after front) k ts from at next list (x ∷ []) (w.0, x) so (λ xs. refl) (u.seq (u.token w.1 w.2) p)

pub more_arms_done : (front : List Arm) (k : ℕ) (ts : List Token) (from at : ℕ) (list : List Arm) →
    SoFar (piece n.MoreArms) (piece_build n.MoreArms) (cut n.MoreArms) (after front) k ts from at list → can_begin (one t.Elsif) ts at ≡ false → Gives (cut n.MoreArms) (after front) k ts from (Ok (list, at))
unfolding SaysTitle after stmt_option item_option named_stmt_of Stops Says Gives Takes Passes Opens can_begin is_in apart within
more_arms_done front k ts from at list so h = read_all (one t.Elsif ▸ cut n.IfArm) (piece_build n.MoreArms) (cut n.MoreArms) (after front) k ts from at list so refl h

pub more_arms_stop : (front : List Arm) (k : ℕ) (ts : List Token) (from at : ℕ) (list : List Arm) (s : Stop) →
    SoFar (piece n.MoreArms) (piece_build n.MoreArms) (cut n.MoreArms) (after front) k ts from at list → can_begin (one t.Elsif) ts at ≡ true → Says (n.Cut n.IfArm) k ts (at + 1) (Err s) → Gives (cut n.MoreArms) (after front) k ts from (Err s)
unfolding SaysTitle after stmt_option item_option named_stmt_of Stops Says Gives Takes Passes Opens can_begin is_in apart within
more_arms_stop front k ts from at list s so h p =
    let w = token_here t.Elsif ts at h in
    read_stops (one t.Elsif ▸ cut n.IfArm) (cut n.IfArm) (piece_build n.MoreArms) (cut n.MoreArms) (after front) k k ts from at (at + 1) list s so h (λ why rest q. u.seq_second (u.token w.1 w.2) q) p

pub ruleset more_arms_arms = (more_arms_start, more_arms_more, more_arms_done, more_arms_stop, gives_no_memory)

pub cases_start : (k : ℕ) (ts : List Token) (at : ℕ) → SoFar (piece n.Cases) (piece_build n.Cases) (cut n.Cases) itself k ts at at []
unfolding SoFar
cases_start k ts at = λ r p. subst (λ z. Gives (cut n.Cases) itself k ts at z) (sym (with_none r)) (renamed (n.Cut n.Cases) k ts at r p)

pub cases_more : (k : ℕ) (ts : List Token) (from at : ℕ) (list : List Case) (x : Case) (next : ℕ) →
    SoFar (piece n.Cases) (piece_build n.Cases) (cut n.Cases) itself k ts from at list → can_begin (one t.Case) ts at ≡ true → Says (n.Cut n.CaseArm) k ts at (Ok (x, next)) →
    SoFar (piece n.Cases) (piece_build n.Cases) (cut n.Cases) itself k ts from next (list ++ (x ∷ []))
unfolding SaysTitle after stmt_option item_option named_stmt_of Stops Says Gives Takes Passes Opens can_begin is_in apart within
cases_more k ts from at list x next so h p =
    read_more (cut n.CaseArm) (piece_build n.Cases) (cut n.Cases) itself k ts from at next list (x ∷ []) x so (λ xs. refl) p

pub cases_done : (k : ℕ) (ts : List Token) (from at : ℕ) (list : List Case) →
    SoFar (piece n.Cases) (piece_build n.Cases) (cut n.Cases) itself k ts from at list → can_begin (one t.Case) ts at ≡ false → Says (n.Cut n.Cases) k ts from (Ok (list, at))
unfolding SaysTitle after stmt_option item_option named_stmt_of Stops Says Gives Takes Passes Opens can_begin is_in apart within
cases_done k ts from at list so h = said (n.Cut n.Cases) k ts from (Ok (list, at)) (read_all (cut n.CaseArm) (piece_build n.Cases) (cut n.Cases) itself k ts from at list so refl h)

pub cases_stop : (k : ℕ) (ts : List Token) (from at : ℕ) (list : List Case) (s : Stop) →
    SoFar (piece n.Cases) (piece_build n.Cases) (cut n.Cases) itself k ts from at list → can_begin (one t.Case) ts at ≡ true → Says (n.Cut n.CaseArm) k ts at (Err s) → Says (n.Cut n.Cases) k ts from (Err s)
unfolding SaysTitle after stmt_option item_option named_stmt_of Stops Says Gives Takes Passes Opens can_begin is_in apart within
cases_stop k ts from at list s so h p =
    said (n.Cut n.Cases) k ts from (Err s) (read_stops (cut n.CaseArm) (cut n.CaseArm) (piece_build n.Cases) (cut n.Cases) itself k k ts from at at list s so h (λ why rest q. q) p)

pub ruleset cases_arms = (cases_start, cases_more, cases_done, cases_stop, no_memory)

pub stmts_first_stops : (k : ℕ) (ts : List Token) (at : ℕ) (s : Stop) → Gives (optional (form n.Stmt)) stmt_option k ts at (Err s) →
    Says n.Stmts k ts at (Err s)
unfolding Says Gives stmt_option
stmts_first_stops k ts at s p = stops_as ts at at s (λ why rest q. u.call_stop (u.seq_first q)) p

stmts_first_is : (p : Stmt ⊎ Unit {0}) (x : Option Stmt) → x ≡ stmt_option p → (xs ys : List Stmt) → xs ≡ ys → added x ++ xs ≡ build n.Stmts (p, ys)
unfolding stmt_option
stmts_first_is (inl y) x e xs ys d = ap (λ z. added z ++ xs) e ∙ ap (λ z. y ∷ z) d
stmts_first_is (inr y) x e xs ys d = ap (λ z. added z ++ xs) e ∙ d

stmts_one : (k : ℕ) (ts : List Token) (at : ℕ) (x : Option Stmt) (next : ℕ) → Gives (optional (form n.Stmt)) stmt_option k ts at (Ok (x, next)) →
    (r : Result (List Stmt × ℕ) Stop) → Gives (cut n.MoreStmts) itself k ts next r → Gives (form n.Stmts) itself k ts at (with_front (added x) r)
unfolding Gives stmt_option
stmts_one k ts at x next (parts, e, p) (Ok (xs, end)) (ys, d, q) = (_, stmts_first_is parts x e xs ys d, u.call refl (u.seq p q))
stmts_one k ts at x next (parts, e, p) (Err s) q = stops_as ts next at s (λ why rest z. u.call_stop (u.seq_second p z)) q

pub stmts_first : (k : ℕ) (ts : List Token) (at : ℕ) (x : Option Stmt) (next : ℕ) → Gives (optional (form n.Stmt)) stmt_option k ts at (Ok (x, next)) →
    SoFar (piece n.MoreStmts) (piece_build n.MoreStmts) (form n.Stmts) itself k ts at next (added x)
unfolding SoFar
stmts_first k ts at x next p = λ r q. stmts_one k ts at x next p r (renamed (n.Cut n.MoreStmts) k ts next r q)

pub stmts_more : (k : ℕ) (ts : List Token) (from at : ℕ) (list : List Stmt) (x : Option Stmt) (next : ℕ) →
    SoFar (piece n.MoreStmts) (piece_build n.MoreStmts) (form n.Stmts) itself k ts from at list → can_begin (one t.Semicolon) ts at ≡ true → Gives (optional (form n.Stmt)) stmt_option k ts (at + 1) (Ok (x, next)) →
    SoFar (piece n.MoreStmts) (piece_build n.MoreStmts) (form n.Stmts) itself k ts from next (list ++ (added x))
unfolding SaysTitle after stmt_option item_option named_stmt_of Stops Says Gives Takes Passes Opens can_begin is_in apart within
stmts_more k ts from at list x next so h p =
    let w = token_here t.Semicolon ts at h in
    read_more (one t.Semicolon ▸ optional (form n.Stmt)) (piece_build n.MoreStmts) (form n.Stmts) itself k ts from at next list (added x) (w.0, p.0) so (λ xs. present_more p.0 x p.1 w.0 xs) (u.seq (u.token w.1 w.2) p.2)

pub stmts_done : (k : ℕ) (ts : List Token) (from at : ℕ) (list : List Stmt) →
    SoFar (piece n.MoreStmts) (piece_build n.MoreStmts) (form n.Stmts) itself k ts from at list → can_begin (one t.Semicolon) ts at ≡ false → Says n.Stmts k ts from (Ok (list, at))
unfolding SaysTitle after stmt_option item_option named_stmt_of Stops Says Gives Takes Passes Opens can_begin is_in apart within
stmts_done k ts from at list so h = said n.Stmts k ts from (Ok (list, at)) (read_all (one t.Semicolon ▸ optional (form n.Stmt)) (piece_build n.MoreStmts) (form n.Stmts) itself k ts from at list so refl h)

pub stmts_stop : (k : ℕ) (ts : List Token) (from at : ℕ) (list : List Stmt) (s : Stop) →
    SoFar (piece n.MoreStmts) (piece_build n.MoreStmts) (form n.Stmts) itself k ts from at list → can_begin (one t.Semicolon) ts at ≡ true → Gives (optional (form n.Stmt)) stmt_option k ts (at + 1) (Err s) → Says n.Stmts k ts from (Err s)
unfolding SaysTitle after stmt_option item_option named_stmt_of Stops Says Gives Takes Passes Opens can_begin is_in apart within
stmts_stop k ts from at list s so h p =
    let w = token_here t.Semicolon ts at h in
    said n.Stmts k ts from (Err s) (read_stops (one t.Semicolon ▸ optional (form n.Stmt)) (optional (form n.Stmt)) (piece_build n.MoreStmts) (form n.Stmts) itself k k ts from at (at + 1) list s so h (λ why rest q. u.seq_second (u.token w.1 w.2) q) p)

pub ruleset stmts_arms = (stmts_first_stops, stmts_first, stmts_more, stmts_done, stmts_stop, no_memory)
