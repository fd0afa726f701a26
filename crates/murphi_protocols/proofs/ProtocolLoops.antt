-- One lemma for each way through the loops over declarations, routines and semicolons.
use Rattle.std.specs.Prelude.{Option, map}
use Rattle.std.proofs.Common.{inl, inr, ◌≡◌, ℕ, zero, suc, ◌+◌, Bool, true, false, List, [], ◌∷◌, ◌++◌, ◌⊎◌, drop, Some, None, Ok, Err, Result, refl, sym, ap, ◌∙◌, subst}
use Rattle.grammar_core.specs.Forms.{Call, Seq, Choice, Empty, TreeOf}
use Rattle.grammar_core.specs.Spelling.{Limit}
use Rattle.grammar_core.specs.Reading as read
use Rattle.grammar_core.specs.Reading.{Fault, Got}
use Rattle.grammar_core.specs.Test.{is_in, apart, within}
use Rattle.grammar_core.specs.Walk as u
use Rattle.grammar_core.specs.Walk.{Run}
use Rattle.murphi_ast.specs.declared.text.Text.{Text}
use Rattle.murphi_ast.specs.declared.token.Token.{Token}
use Rattle.murphi_ast.specs.declared.expr.Named.{Named}
use Rattle.murphi_ast.specs.declared.expr.Designator.{Designator}
use Rattle.murphi_ast.specs.declared.expr.Selector.{Selector}
use Rattle.murphi_ast.specs.declared.expr.Bind.{Bind}
use Rattle.murphi_ast.specs.declared.expr.TypeExpr.{TypeExpr}
use Rattle.murphi_ast.specs.declared.expr.Expr.{Expr}
use Rattle.murphi_ast.specs.declared.stmt.Stmt as s
use Rattle.murphi_ast.specs.declared.stmt.Stmt.{Stmt}
use Rattle.murphi_ast.specs.declared.stmt.Arm.{Arm}
use Rattle.murphi_ast.specs.declared.stmt.Case.{Case}
use Rattle.murphi_ast.specs.declared.decl.Decl as d
use Rattle.murphi_ast.specs.declared.decl.Decl.{Decl}
use Rattle.murphi_ast.specs.declared.decl.Formal.{Formal}
use Rattle.murphi_ast.specs.declared.rule.RuleDecl as r
use Rattle.murphi_ast.specs.declared.rule.RuleDecl.{RuleDecl}
use Rattle.murphi_ast.specs.declared.rule.Protocol.{Protocol}
use Rattle.murphi_grammar.specs.declared.symbol.Symbol.{Symbol}
use Rattle.murphi_grammar.specs.declared.symbol.Symbol.TheVariants as t
use Rattle.murphi_grammar.specs.Names as n
use Rattle.murphi_grammar.specs.Parts.{Part, ◌▸◌, ◌∥◌, one, form, many, optional, nest, ending, in_parentheses}
use Rattle.murphi_grammar.specs.Pieces.{cut, piece, piece_build}
use Rattle.murphi_grammar.specs.Values as v
use Rattle.murphi_grammar.specs.Values.{Value, named, seconds, present, joined, declared}
use Rattle.murphi_grammar.specs.Tables.{tables}
use Rattle.murphi_expressions.specs.Says.{Stops, Says, Gives, Takes, Passes, Opens, Enters, SoFar, can_begin, place_of, number_of, itself, with_front}
use Rattle.murphi_expressions.specs.declared.step.Stop.{Stop}
use Rattle.murphi_expressions.specs.declared.step.Stop.TheVariants.{Wrong, Deep, Memory}
use Rattle.murphi_expressions.proofs.Heads.{token_here}
use Rattle.murphi_expressions.proofs.Steps.{full, takes_no_memory}
use Rattle.murphi_expressions.proofs.Ways.{stops_as, inside, included, excluded, shrunk, no_memory, gives_no_memory, read_more, read_all, read_stops, renamed, said}
use Rattle.murphi_protocols.specs.Parts.{SaysTitle, constant_form, type_name_form, variables_form, after, added, option_of, stmt_option, item_option, decls_of, named_stmt_of, simple_form, simple_of, if_form, if_of, switch_form, switch_of, for_form, for_of, formal_rest, formal_of, procedure_form, procedure_of, function_form, function_of, group_form, group_of}
use Rattle.murphi_expressions.proofs.Ways.{with_none}
use Rattle.murphi_protocols.proofs.Fronts.{fronted, present_more, declared_more}
use Rattle.murphi_protocols.specs.Parts.{GapsSoFar}

pub declarations_start : (k : ℕ) (ts : List Token) (at : ℕ) → SoFar (piece n.Declarations) (piece_build n.Declarations) (cut n.Declarations) itself k ts at at []
unfolding SoFar
declarations_start k ts at = λ r p. subst (λ z. Gives (cut n.Declarations) itself k ts at z) (sym (with_none r)) (renamed (n.Cut n.Declarations) k ts at r p)

pub declarations_more : (k : ℕ) (ts : List Token) (from at : ℕ) (list : List Decl) (x : List Decl) (next : ℕ) →
    SoFar (piece n.Declarations) (piece_build n.Declarations) (cut n.Declarations) itself k ts from at list → Gives (form n.Declare ∥ form n.Routine) decls_of k ts at (Ok (x, next)) →
    SoFar (piece n.Declarations) (piece_build n.Declarations) (cut n.Declarations) itself k ts from next (list ++ x)
unfolding SaysTitle after stmt_option item_option named_stmt_of Stops Says Gives Takes Passes Opens can_begin is_in apart within
declarations_more k ts from at list x next so p =
    read_more (form n.Declare ∥ form n.Routine) (piece_build n.Declarations) (cut n.Declarations) itself k ts from at next list x p.0 so (λ xs. declared_more p.0 x p.1 xs) p.2

pub declarations_done : (k : ℕ) (ts : List Token) (from at : ℕ) (list : List Decl) →
    SoFar (piece n.Declarations) (piece_build n.Declarations) (cut n.Declarations) itself k ts from at list → can_begin (form n.Declare ∥ form n.Routine) ts at ≡ false → Says (n.Cut n.Declarations) k ts from (Ok (list, at))
unfolding SaysTitle after stmt_option item_option named_stmt_of Stops Says Gives Takes Passes Opens can_begin is_in apart within
declarations_done k ts from at list so h = said (n.Cut n.Declarations) k ts from (Ok (list, at)) (read_all (form n.Declare ∥ form n.Routine) (piece_build n.Declarations) (cut n.Declarations) itself k ts from at list so refl h)

pub declarations_stop : (k : ℕ) (ts : List Token) (from at : ℕ) (list : List Decl) (s : Stop) →
    SoFar (piece n.Declarations) (piece_build n.Declarations) (cut n.Declarations) itself k ts from at list → can_begin (form n.Declare ∥ form n.Routine) ts at ≡ true → Gives (form n.Declare ∥ form n.Routine) decls_of k ts at (Err s) → Says (n.Cut n.Declarations) k ts from (Err s)
unfolding SaysTitle after stmt_option item_option named_stmt_of Stops Says Gives Takes Passes Opens can_begin is_in apart within
declarations_stop k ts from at list s so h p =
    said (n.Cut n.Declarations) k ts from (Err s) (read_stops (form n.Declare ∥ form n.Routine) (form n.Declare ∥ form n.Routine) (piece_build n.Declarations) (cut n.Declarations) itself k k ts from at at list s so h (λ why rest q. q) p)

pub ruleset declarations_arms = (declarations_start, declarations_more, declarations_done, declarations_stop, no_memory)

one_gap : {k : ℕ} {x : Unit {0}} {rest : List Token} (ts : List Token) (at : ℕ) → can_begin (one t.Semicolon) ts at ≡ true →
    Run tables (Limit k) (cut n.Gaps) (drop (at + 1) ts) (Got x rest) → Run tables (Limit k) (cut n.Gaps) (drop at ts) (Got tt rest)
one_gap ts at h (u.call e p) = let w = token_here t.Semicolon ts at h in u.call refl (u.more (u.token w.1 w.2) p)

pub gaps_start : (ts : List Token) (at : ℕ) → GapsSoFar ts at at
unfolding GapsSoFar
gaps_start ts at = λ end p. p

pub gaps_more : (ts : List Token) (from at : ℕ) → GapsSoFar ts from at → can_begin (one t.Semicolon) ts at ≡ true → GapsSoFar ts from (at + 1)
unfolding GapsSoFar Passes
gaps_more ts from at so h = λ end p. so end (tt, λ k. one_gap ts at h (p.1 k))

pub gaps_done : (ts : List Token) (from at : ℕ) → GapsSoFar ts from at → can_begin (one t.Semicolon) ts at ≡ false → Passes (cut n.Gaps) ts from (Ok at)
unfolding GapsSoFar Passes can_begin
gaps_done ts from at so h = so at (tt, λ k. u.call refl (u.none h))

pub ruleset gaps_arms = (gaps_start, gaps_more, gaps_done)
