-- One lemma for each way through the reader of titles.
use Rattle.std.specs.Prelude.{slice_get}
use Rattle.std.specs.Prelude.{Option, map}
use Rattle.std.proofs.Common.{inl, inr, ◌≡◌, ℕ, zero, suc, ◌+◌, Bool, true, false, List, [], ◌∷◌, ◌++◌, ◌⊎◌, drop, Some, None, Ok, Err, Result, refl, sym, ap, ◌∙◌, subst}
use Rattle.grammar_core.specs.Forms.{Call, Seq, Choice, Empty, TreeOf}
use Rattle.grammar_core.specs.Spelling.{Limit}
use Rattle.grammar_core.specs.Reading as read
use Rattle.grammar_core.specs.Reading.{Fault, Got}
use Rattle.grammar_core.specs.Test.{is_in, apart, within}
use Rattle.grammar_core.specs.Walk as u
use Rattle.grammar_core.specs.Walk.{Run}
use Rattle.murphi_ast.specs.declared.text.Text.{Text}
use Rattle.murphi_ast.specs.declared.token.Token.{Token}
use Rattle.murphi_ast.specs.declared.expr.Named.{Named}
use Rattle.murphi_ast.specs.declared.expr.Designator.{Designator}
use Rattle.murphi_ast.specs.declared.expr.Selector.{Selector}
use Rattle.murphi_ast.specs.declared.expr.Bind.{Bind}
use Rattle.murphi_ast.specs.declared.expr.TypeExpr.{TypeExpr}
use Rattle.murphi_ast.specs.declared.expr.Expr.{Expr}
use Rattle.murphi_ast.specs.declared.stmt.Stmt as s
use Rattle.murphi_ast.specs.declared.stmt.Stmt.{Stmt}
use Rattle.murphi_ast.specs.declared.stmt.Arm.{Arm}
use Rattle.murphi_ast.specs.declared.stmt.Case.{Case}
use Rattle.murphi_ast.specs.declared.decl.Decl as d
use Rattle.murphi_ast.specs.declared.decl.Decl.{Decl}
use Rattle.murphi_ast.specs.declared.decl.Formal.{Formal}
use Rattle.murphi_ast.specs.declared.rule.RuleDecl as r
use Rattle.murphi_ast.specs.declared.rule.RuleDecl.{RuleDecl}
use Rattle.murphi_ast.specs.declared.rule.Protocol.{Protocol}
use Rattle.murphi_grammar.specs.declared.symbol.Symbol.{Symbol}
use Rattle.murphi_grammar.specs.declared.symbol.Symbol.TheVariants as t
use Rattle.murphi_grammar.specs.Names as n
use Rattle.murphi_grammar.specs.Parts.{Part, ◌▸◌, ◌∥◌, one, form, many, optional, nest, ending, in_parentheses}
use Rattle.murphi_grammar.specs.Pieces.{cut, piece, piece_build}
use Rattle.murphi_grammar.specs.Values as v
use Rattle.murphi_grammar.specs.Values.{Value, named, seconds, present, joined, declared}
use Rattle.murphi_grammar.specs.Tables.{tables}
use Rattle.murphi_expressions.specs.Says.{Stops, Says, Gives, Takes, Passes, Opens, Enters, SoFar, can_begin, place_of, number_of, itself, with_front}
use Rattle.murphi_expressions.specs.declared.step.Stop.{Stop}
use Rattle.murphi_expressions.specs.declared.step.Stop.TheVariants.{Wrong, Deep, Memory}
use Rattle.murphi_expressions.proofs.Heads.{token_here, drop_some, at_none}
use Rattle.murphi_expressions.proofs.Steps.{full, takes_no_memory}
use Rattle.murphi_expressions.proofs.Ways.{stops_as, inside, included, excluded, shrunk, no_memory, gives_no_memory, read_more, read_all, read_stops, renamed, said}
use Rattle.murphi_protocols.specs.Parts.{SaysTitle, constant_form, type_name_form, variables_form, after, added, option_of, stmt_option, item_option, decls_of, named_stmt_of, simple_form, simple_of, if_form, if_of, switch_form, switch_of, for_form, for_of, formal_rest, formal_of, procedure_form, procedure_of, function_form, function_of, group_form, group_of}

pub untitled : (ts : List Token) (at : ℕ) → can_begin (one t.Quoted) ts at ≡ false → SaysTitle ts at (Ok (None, at))
unfolding SaysTitle Takes can_begin
untitled ts at h = (None, refl, λ k. u.call refl (u.right h u.empty))

pub no_token : (ts : List Token) (at : ℕ) → slice_get ts at ≡ None → SaysTitle ts at (Ok (None, at))
no_token ts at h = untitled ts at (sym (at_none t.Quoted ts at h))

pub titled : (ts : List Token) (at : ℕ) (x : Token) → slice_get ts at ≡ Some x → can_begin (one t.Quoted) ts at ≡ true →
    SaysTitle ts at (Ok (Some x.text, at + 1))
unfolding SaysTitle Takes can_begin
titled ts at x e h =
    let w = token_here t.Quoted ts at h in
    let q : x ∷ drop (at + 1) ts ≡ w.0 ∷ drop (at + 1) ts = sym (drop_some ts at x e) ∙ w.1 in
    let same : x ≡ w.0 = cc in
    (Some (w.0).text, ap (λ z. Some z.text) same, λ k. u.call refl (u.left h (u.token w.1 w.2)))

pub no_title : (ts : List Token) (at : ℕ) (s : Stop) → s ≡ Memory → SaysTitle ts at (Err s)
unfolding SaysTitle
no_title ts at s h = takes_no_memory (cut n.Title) itself ts at s h

pub ruleset title_arms = (untitled, no_token, titled, no_title)
