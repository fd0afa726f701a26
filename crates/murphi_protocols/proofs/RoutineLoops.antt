-- One lemma for each way through the loop over formals.
use Rattle.std.specs.Prelude.{Option, map}
use Rattle.std.proofs.Common.{inl, inr, ◌≡◌, ℕ, zero, suc, ◌+◌, Bool, true, false, List, [], ◌∷◌, ◌++◌, ◌⊎◌, drop, Some, None, Ok, Err, Result, refl, sym, ap, ◌∙◌, subst}
use Rattle.grammar_core.specs.Forms.{Call, Seq, Choice, Empty, TreeOf}
use Rattle.grammar_core.specs.Spelling.{Limit}
use Rattle.grammar_core.specs.Reading as read
use Rattle.grammar_core.specs.Reading.{Fault, Got}
use Rattle.grammar_core.specs.Test.{is_in, apart, within}
use Rattle.grammar_core.specs.Walk as u
use Rattle.grammar_core.specs.Walk.{Run}
use Rattle.murphi_ast.specs.declared.text.Text.{Text}
use Rattle.murphi_ast.specs.declared.token.Token.{Token}
use Rattle.murphi_ast.specs.declared.expr.Named.{Named}
use Rattle.murphi_ast.specs.declared.expr.Designator.{Designator}
use Rattle.murphi_ast.specs.declared.expr.Selector.{Selector}
use Rattle.murphi_ast.specs.declared.expr.Bind.{Bind}
use Rattle.murphi_ast.specs.declared.expr.TypeExpr.{TypeExpr}
use Rattle.murphi_ast.specs.declared.expr.Expr.{Expr}
use Rattle.murphi_ast.specs.declared.stmt.Stmt as s
use Rattle.murphi_ast.specs.declared.stmt.Stmt.{Stmt}
use Rattle.murphi_ast.specs.declared.stmt.Arm.{Arm}
use Rattle.murphi_ast.specs.declared.stmt.Case.{Case}
use Rattle.murphi_ast.specs.declared.decl.Decl as d
use Rattle.murphi_ast.specs.declared.decl.Decl.{Decl}
use Rattle.murphi_ast.specs.declared.decl.Formal.{Formal}
use Rattle.murphi_ast.specs.declared.rule.RuleDecl as r
use Rattle.murphi_ast.specs.declared.rule.RuleDecl.{RuleDecl}
use Rattle.murphi_ast.specs.declared.rule.Protocol.{Protocol}
use Rattle.murphi_grammar.specs.declared.symbol.Symbol.{Symbol}
use Rattle.murphi_grammar.specs.declared.symbol.Symbol.TheVariants as t
use Rattle.murphi_grammar.specs.Names as n
use Rattle.murphi_grammar.specs.Parts.{Part, ◌▸◌, ◌∥◌, one, form, many, optional, nest, ending, in_parentheses}
use Rattle.murphi_grammar.specs.Pieces.{cut, piece, piece_build}
use Rattle.murphi_grammar.specs.Values as v
use Rattle.murphi_grammar.specs.Values.{Value, named, seconds, present, joined, declared}
use Rattle.murphi_grammar.specs.Tables.{tables}
use Rattle.murphi_expressions.specs.Says.{Stops, Says, Gives, Takes, Passes, Opens, Enters, SoFar, can_begin, place_of, number_of, itself, with_front}
use Rattle.murphi_expressions.specs.declared.step.Stop.{Stop}
use Rattle.murphi_expressions.specs.declared.step.Stop.TheVariants.{Wrong, Deep, Memory}
use Rattle.murphi_expressions.proofs.Heads.{token_here}
use Rattle.murphi_expressions.proofs.Steps.{full, takes_no_memory}
use Rattle.murphi_expressions.proofs.Ways.{stops_as, inside, included, excluded, shrunk, no_memory, gives_no_memory, read_more, read_all, read_stops, renamed, said}
use Rattle.murphi_protocols.specs.Parts.{SaysTitle, constant_form, type_name_form, variables_form, after, added, option_of, stmt_option, item_option, decls_of, named_stmt_of, simple_form, simple_of, if_form, if_of, switch_form, switch_of, for_form, for_of, formal_rest, formal_of, procedure_form, procedure_of, function_form, function_of, group_form, group_of}
use Rattle.murphi_expressions.proofs.Ways.{with_none}
use Rattle.murphi_protocols.proofs.Fronts.{fronted, present_more}

pub more_formals_start : (front : List Formal) (k : ℕ) (ts : List Token) (at : ℕ) →
    SoFar (piece n.MoreFormals) (piece_build n.MoreFormals) (cut n.MoreFormals) (after front) k ts at at front
unfolding SoFar after
more_formals_start front k ts at = λ r p. fronted (cut n.MoreFormals) itself front k ts at r (renamed (n.Cut n.MoreFormals) k ts at r p)

pub more_formals_more : (front : List Formal) (k : ℕ) (ts : List Token) (from at : ℕ) (list : List Formal) (x : Formal) (next : ℕ) →
    SoFar (piece n.MoreFormals) (piece_build n.MoreFormals) (cut n.MoreFormals) (after front) k ts from at list → can_begin (one t.Semicolon) ts at ≡ true → Says n.Formal k ts (at + 1) (Ok (x, next)) →
    SoFar (piece n.MoreFormals) (piece_build n.MoreFormals) (cut n.MoreFormals) (after front) k ts from next (list ++ (x ∷ []))
unfolding SaysTitle after stmt_option item_option named_stmt_of Stops Says Gives Takes Passes Opens can_begin is_in apart within
more_formals_more front k ts from at list x next so h p =
    let w = token_here t.Semicolon ts at h in
    read_more (one t.Semicolon ▸ form n.Formal) (piece_build n.MoreFormals) (cut n.MoreFormals) (after front) k ts from at next list (x ∷ []) (w.0, x) so (λ xs. refl) (u.seq (u.token w.1 w.2) p)

pub more_formals_done : (front : List Formal) (k : ℕ) (ts : List Token) (from at : ℕ) (list : List Formal) →
    SoFar (piece n.MoreFormals) (piece_build n.MoreFormals) (cut n.MoreFormals) (after front) k ts from at list → can_begin (one t.Semicolon) ts at ≡ false → Gives (cut n.MoreFormals) (after front) k ts from (Ok (list, at))
unfolding SaysTitle after stmt_option item_option named_stmt_of Stops Says Gives Takes Passes Opens can_begin is_in apart within
more_formals_done front k ts from at list so h = read_all (one t.Semicolon ▸ form n.Formal) (piece_build n.MoreFormals) (cut n.MoreFormals) (after front) k ts from at list so refl h

pub more_formals_stop : (front : List Formal) (k : ℕ) (ts : List Token) (from at : ℕ) (list : List Formal) (s : Stop) →
    SoFar (piece n.MoreFormals) (piece_build n.MoreFormals) (cut n.MoreFormals) (after front) k ts from at list → can_begin (one t.Semicolon) ts at ≡ true → Says n.Formal k ts (at + 1) (Err s) → Gives (cut n.MoreFormals) (after front) k ts from (Err s)
unfolding SaysTitle after stmt_option item_option named_stmt_of Stops Says Gives Takes Passes Opens can_begin is_in apart within
more_formals_stop front k ts from at list s so h p =
    let w = token_here t.Semicolon ts at h in
    read_stops (one t.Semicolon ▸ form n.Formal) (form n.Formal) (piece_build n.MoreFormals) (cut n.MoreFormals) (after front) k k ts from at (at + 1) list s so h (λ why rest q. u.seq_second (u.token w.1 w.2) q) p

pub ruleset more_formals_arms = (more_formals_start, more_formals_more, more_formals_done, more_formals_stop, gives_no_memory)
