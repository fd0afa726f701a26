-- One lemma for each way through the loops over binds and items.
use Rattle.std.specs.Prelude.{Option, map}
use Rattle.std.proofs.Common.{inl, inr, ◌≡◌, ℕ, zero, suc, ◌+◌, Bool, true, false, List, [], ◌∷◌, ◌++◌, ◌⊎◌, drop, Some, None, Ok, Err, Result, refl, sym, ap, ◌∙◌, subst}
use Rattle.grammar_core.specs.Forms.{Call, Seq, Choice, Empty, TreeOf}
use Rattle.grammar_core.specs.Spelling.{Limit}
use Rattle.grammar_core.specs.Reading as read
use Rattle.grammar_core.specs.Reading.{Fault, Got}
use Rattle.grammar_core.specs.Test.{is_in, apart, within}
use Rattle.grammar_core.specs.Walk as u
use Rattle.grammar_core.specs.Walk.{Run}
use Rattle.murphi_ast.specs.declared.text.Text.{Text}
use Rattle.murphi_ast.specs.declared.token.Token.{Token}
use Rattle.murphi_ast.specs.declared.expr.Named.{Named}
use Rattle.murphi_ast.specs.declared.expr.Designator.{Designator}
use Rattle.murphi_ast.specs.declared.expr.Selector.{Selector}
use Rattle.murphi_ast.specs.declared.expr.Bind.{Bind}
use Rattle.murphi_ast.specs.declared.expr.TypeExpr.{TypeExpr}
use Rattle.murphi_ast.specs.declared.expr.Expr.{Expr}
use Rattle.murphi_ast.specs.declared.stmt.Stmt as s
use Rattle.murphi_ast.specs.declared.stmt.Stmt.{Stmt}
use Rattle.murphi_ast.specs.declared.stmt.Arm.{Arm}
use Rattle.murphi_ast.specs.declared.stmt.Case.{Case}
use Rattle.murphi_ast.specs.declared.decl.Decl as d
use Rattle.murphi_ast.specs.declared.decl.Decl.{Decl}
use Rattle.murphi_ast.specs.declared.decl.Formal.{Formal}
use Rattle.murphi_ast.specs.declared.rule.RuleDecl as r
use Rattle.murphi_ast.specs.declared.rule.RuleDecl.{RuleDecl}
use Rattle.murphi_ast.specs.declared.rule.Protocol.{Protocol}
use Rattle.murphi_grammar.specs.declared.symbol.Symbol.{Symbol}
use Rattle.murphi_grammar.specs.declared.symbol.Symbol.TheVariants as t
use Rattle.murphi_grammar.specs.Names as n
use Rattle.murphi_grammar.specs.Parts.{Part, ◌▸◌, ◌∥◌, one, form, many, optional, nest, ending, in_parentheses}
use Rattle.murphi_grammar.specs.Pieces.{cut, piece, piece_build}
use Rattle.murphi_grammar.specs.Values as v
use Rattle.murphi_grammar.specs.Values.{Value, named, seconds, present, joined, declared}
use Rattle.murphi_grammar.specs.Tables.{tables}
use Rattle.murphi_expressions.specs.Says.{Stops, Says, Gives, Takes, Passes, Opens, Enters, SoFar, can_begin, place_of, number_of, itself, with_front}
use Rattle.murphi_expressions.specs.declared.step.Stop.{Stop}
use Rattle.murphi_expressions.specs.declared.step.Stop.TheVariants.{Wrong, Deep, Memory}
use Rattle.murphi_expressions.proofs.Heads.{token_here}
use Rattle.murphi_expressions.proofs.Steps.{full, takes_no_memory}
use Rattle.murphi_expressions.proofs.Ways.{stops_as, inside, included, excluded, shrunk, no_memory, gives_no_memory, read_more, read_all, read_stops, renamed, said}
use Rattle.murphi_protocols.specs.Parts.{SaysTitle, constant_form, type_name_form, variables_form, after, added, option_of, stmt_option, item_option, decls_of, named_stmt_of, simple_form, simple_of, if_form, if_of, switch_form, switch_of, for_form, for_of, formal_rest, formal_of, procedure_form, procedure_of, function_form, function_of, group_form, group_of}
use Rattle.murphi_expressions.proofs.Ways.{with_none}
use Rattle.murphi_protocols.proofs.Fronts.{fronted, present_more}
use Rattle.murphi_grammar.specs.Factored.{build}

pub more_binds_start : (front : List Bind) (k : ℕ) (ts : List Token) (at : ℕ) →
    SoFar (piece n.MoreBinds) (piece_build n.MoreBinds) (cut n.MoreBinds) (after front) k ts at at front
unfolding SoFar after
more_binds_start front k ts at = λ r p. fronted (cut n.MoreBinds) itself front k ts at r (renamed (n.Cut n.MoreBinds) k ts at r p)

pub more_binds_more : (front : List Bind) (k : ℕ) (ts : List Token) (from at : ℕ) (list : List Bind) (x : Bind) (next : ℕ) →
    SoFar (piece n.MoreBinds) (piece_build n.MoreBinds) (cut n.MoreBinds) (after front) k ts from at list → can_begin (one t.Semicolon) ts at ≡ true → Says n.Bind k ts (at + 1) (Ok (x, next)) →
    SoFar (piece n.MoreBinds) (piece_build n.MoreBinds) (cut n.MoreBinds) (after front) k ts from next (list ++ (x ∷ []))
unfolding SaysTitle after stmt_option item_option named_stmt_of Stops Says Gives Takes Passes Opens can_begin is_in apart within
more_binds_more front k ts from at list x next so h p =
    let w = token_here t.Semicolon ts at h in
    read_more (one t.Semicolon ▸ form n.Bind) (piece_build n.MoreBinds) (cut n.MoreBinds) (after front) k ts from at next list (x ∷ []) (w.0, x) so (λ xs. refl) (u.seq (u.token w.1 w.2) p)

pub more_binds_done : (front : List Bind) (k : ℕ) (ts : List Token) (from at : ℕ) (list : List Bind) →
    SoFar (piece n.MoreBinds) (piece_build n.MoreBinds) (cut n.MoreBinds) (after front) k ts from at list → can_begin (one t.Semicolon) ts at ≡ false → Gives (cut n.MoreBinds) (after front) k ts from (Ok (list, at))
unfolding SaysTitle after stmt_option item_option named_stmt_of Stops Says Gives Takes Passes Opens can_begin is_in apart within
more_binds_done front k ts from at list so h = read_all (one t.Semicolon ▸ form n.Bind) (piece_build n.MoreBinds) (cut n.MoreBinds) (after front) k ts from at list so refl h

pub more_binds_stop : (front : List Bind) (k : ℕ) (ts : List Token) (from at : ℕ) (list : List Bind) (s : Stop) →
    SoFar (piece n.MoreBinds) (piece_build n.MoreBinds) (cut n.MoreBinds) (after front) k ts from at list → can_begin (one t.Semicolon) ts at ≡ true → Says n.Bind k ts (at + 1) (Err s) → Gives (cut n.MoreBinds) (after front) k ts from (Err s)
unfolding SaysTitle after stmt_option item_option named_stmt_of Stops Says Gives Takes Passes Opens can_begin is_in apart within
more_binds_stop front k ts from at list s so h p =
    let w = token_here t.Semicolon ts at h in
    read_stops (one t.Semicolon ▸ form n.Bind) (form n.Bind) (piece_build n.MoreBinds) (cut n.MoreBinds) (after front) k k ts from at (at + 1) list s so h (λ why rest q. u.seq_second (u.token w.1 w.2) q) p

pub ruleset more_binds_arms = (more_binds_start, more_binds_more, more_binds_done, more_binds_stop, gives_no_memory)

pub more_items_start : (first : Option RuleDecl) (k : ℕ) (ts : List Token) (at : ℕ) →
    SoFar (piece n.MoreItems) (piece_build n.MoreItems) (cut n.MoreItems) (after (added first)) k ts at at (added first)
unfolding SoFar after
more_items_start first k ts at = λ r p. fronted (cut n.MoreItems) itself (added first) k ts at r (renamed (n.Cut n.MoreItems) k ts at r p)

pub more_items_more : (first : Option RuleDecl) (k : ℕ) (ts : List Token) (from at : ℕ) (list : List RuleDecl) (x : Option RuleDecl) (next : ℕ) →
    SoFar (piece n.MoreItems) (piece_build n.MoreItems) (cut n.MoreItems) (after (added first)) k ts from at list → can_begin (one t.Semicolon) ts at ≡ true → Gives (optional (form n.Item)) item_option k ts (at + 1) (Ok (x, next)) →
    SoFar (piece n.MoreItems) (piece_build n.MoreItems) (cut n.MoreItems) (after (added first)) k ts from next (list ++ (added x))
unfolding SaysTitle after stmt_option item_option named_stmt_of Stops Says Gives Takes Passes Opens can_begin is_in apart within
more_items_more first k ts from at list x next so h p =
    let w = token_here t.Semicolon ts at h in
    read_more (one t.Semicolon ▸ optional (form n.Item)) (piece_build n.MoreItems) (cut n.MoreItems) (after (added first)) k ts from at next list (added x) (w.0, p.0) so (λ xs. present_more p.0 x p.1 w.0 xs) (u.seq (u.token w.1 w.2) p.2)

pub more_items_done : (first : Option RuleDecl) (k : ℕ) (ts : List Token) (from at : ℕ) (list : List RuleDecl) →
    SoFar (piece n.MoreItems) (piece_build n.MoreItems) (cut n.MoreItems) (after (added first)) k ts from at list → can_begin (one t.Semicolon) ts at ≡ false → Gives (cut n.MoreItems) (after (added first)) k ts from (Ok (list, at))
unfolding SaysTitle after stmt_option item_option named_stmt_of Stops Says Gives Takes Passes Opens can_begin is_in apart within
more_items_done first k ts from at list so h = read_all (one t.Semicolon ▸ optional (form n.Item)) (piece_build n.MoreItems) (cut n.MoreItems) (after (added first)) k ts from at list so refl h

pub more_items_stop : (first : Option RuleDecl) (k : ℕ) (ts : List Token) (from at : ℕ) (list : List RuleDecl) (s : Stop) →
    SoFar (piece n.MoreItems) (piece_build n.MoreItems) (cut n.MoreItems) (after (added first)) k ts from at list → can_begin (one t.Semicolon) ts at ≡ true → Gives (optional (form n.Item)) item_option k ts (at + 1) (Err s) → Gives (cut n.MoreItems) (after (added first)) k ts from (Err s)
unfolding SaysTitle after stmt_option item_option named_stmt_of Stops Says Gives Takes Passes Opens can_begin is_in apart within
more_items_stop first k ts from at list s so h p =
    let w = token_here t.Semicolon ts at h in
    read_stops (one t.Semicolon ▸ optional (form n.Item)) (optional (form n.Item)) (piece_build n.MoreItems) (cut n.MoreItems) (after (added first)) k k ts from at (at + 1) list s so h (λ why rest q. u.seq_second (u.token w.1 w.2) q) p

pub ruleset more_items_arms = (more_items_start, more_items_more, more_items_done, more_items_stop, gives_no_memory)

items_first_is : (p : RuleDecl ⊎ Unit {0}) (x : Option RuleDecl) → x ≡ item_option p → (xs : List RuleDecl) → added x ++ xs ≡ build n.Items (p, xs)
unfolding item_option
items_first_is (inl y) x e xs = ap (λ z. added z ++ xs) e
items_first_is (inr y) x e xs = ap (λ z. added z ++ xs) e

pub items_first_stops : (k : ℕ) (ts : List Token) (at : ℕ) (s : Stop) → Gives (optional (form n.Item)) item_option k ts at (Err s) →
    Says n.Items k ts at (Err s)
unfolding Says Gives after item_option
items_first_stops k ts at s p = stops_as ts at at s (λ why rest q. u.call_stop (u.seq_first q)) p

pub items_rest_stops : (k : ℕ) (ts : List Token) (at : ℕ) (x : Option RuleDecl) (next : ℕ) (s : Stop) →
    Gives (optional (form n.Item)) item_option k ts at (Ok (x, next)) → Gives (cut n.MoreItems) (after (added x)) k ts next (Err s) →
    Says n.Items k ts at (Err s)
unfolding Says Gives after item_option
items_rest_stops k ts at x next s p h = stops_as ts next at s (λ why rest q. u.call_stop (u.seq_second p.2 q)) h

pub items_goes : (k : ℕ) (ts : List Token) (at : ℕ) (x : Option RuleDecl) (next : ℕ) (xs : List RuleDecl) (end : ℕ) →
    Gives (optional (form n.Item)) item_option k ts at (Ok (x, next)) → Gives (cut n.MoreItems) (after (added x)) k ts next (Ok (xs, end)) →
    Says n.Items k ts at (Ok (xs, end))
unfolding Says Gives after item_option
items_goes k ts at x next xs end (parts, e, p) (ys, d, q) = u.call (d ∙ items_first_is parts x e ys) (u.seq p q)

pub ruleset items_arms = (items_first_stops, items_rest_stops, items_goes, no_memory)
