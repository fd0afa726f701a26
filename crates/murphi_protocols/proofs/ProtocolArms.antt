-- One lemma for each way through the reader of protocols.
use Rattle.std.specs.Prelude.{Option, map}
use Rattle.std.proofs.Common.{inl, inr, ◌≡◌, ℕ, zero, suc, ◌+◌, Bool, true, false, List, [], ◌∷◌, ◌++◌, ◌⊎◌, drop, Some, None, Ok, Err, Result, refl, sym, ap, ◌∙◌, subst}
use Rattle.grammar_core.specs.Forms.{Call, Seq, Choice, Empty, TreeOf}
use Rattle.grammar_core.specs.Spelling.{Limit}
use Rattle.grammar_core.specs.Reading as read
use Rattle.grammar_core.specs.Reading.{Fault, Got}
use Rattle.grammar_core.specs.Test.{is_in, apart, within}
use Rattle.grammar_core.specs.Walk as u
use Rattle.grammar_core.specs.Walk.{Run}
use Rattle.murphi_ast.specs.declared.text.Text.{Text}
use Rattle.murphi_ast.specs.declared.token.Token.{Token}
use Rattle.murphi_ast.specs.declared.expr.Named.{Named}
use Rattle.murphi_ast.specs.declared.expr.Designator.{Designator}
use Rattle.murphi_ast.specs.declared.expr.Selector.{Selector}
use Rattle.murphi_ast.specs.declared.expr.Bind.{Bind}
use Rattle.murphi_ast.specs.declared.expr.TypeExpr.{TypeExpr}
use Rattle.murphi_ast.specs.declared.expr.Expr.{Expr}
use Rattle.murphi_ast.specs.declared.stmt.Stmt as s
use Rattle.murphi_ast.specs.declared.stmt.Stmt.{Stmt}
use Rattle.murphi_ast.specs.declared.stmt.Arm.{Arm}
use Rattle.murphi_ast.specs.declared.stmt.Case.{Case}
use Rattle.murphi_ast.specs.declared.decl.Decl as d
use Rattle.murphi_ast.specs.declared.decl.Decl.{Decl}
use Rattle.murphi_ast.specs.declared.decl.Formal.{Formal}
use Rattle.murphi_ast.specs.declared.rule.RuleDecl as r
use Rattle.murphi_ast.specs.declared.rule.RuleDecl.{RuleDecl}
use Rattle.murphi_ast.specs.declared.rule.Protocol.{Protocol}
use Rattle.murphi_grammar.specs.declared.symbol.Symbol.{Symbol}
use Rattle.murphi_grammar.specs.declared.symbol.Symbol.TheVariants as t
use Rattle.murphi_grammar.specs.Names as n
use Rattle.murphi_grammar.specs.Parts.{Part, ◌▸◌, ◌∥◌, one, form, many, optional, nest, ending, in_parentheses}
use Rattle.murphi_grammar.specs.Pieces.{cut, piece, piece_build}
use Rattle.murphi_grammar.specs.Values as v
use Rattle.murphi_grammar.specs.Values.{Value, named, seconds, present, joined, declared}
use Rattle.murphi_grammar.specs.Tables.{tables}
use Rattle.murphi_expressions.specs.Says.{Stops, Says, Gives, Takes, Passes, Opens, Enters, SoFar, can_begin, place_of, number_of, itself, with_front}
use Rattle.murphi_expressions.specs.declared.step.Stop.{Stop}
use Rattle.murphi_expressions.specs.declared.step.Stop.TheVariants.{Wrong, Deep, Memory}
use Rattle.murphi_expressions.proofs.Heads.{token_here}
use Rattle.murphi_expressions.proofs.Steps.{full, takes_no_memory}
use Rattle.murphi_expressions.proofs.Ways.{stops_as, inside, included, excluded, shrunk, no_memory, gives_no_memory, read_more, read_all, read_stops, renamed, said}
use Rattle.murphi_protocols.specs.Parts.{SaysTitle, constant_form, type_name_form, variables_form, after, added, option_of, stmt_option, item_option, decls_of, named_stmt_of, simple_form, simple_of, if_form, if_of, switch_form, switch_of, for_form, for_of, formal_rest, formal_of, procedure_form, procedure_of, function_form, function_of, group_form, group_of}

pub declared_1 : (k : ℕ) (ts : List Token) (at : ℕ) (s : Stop) → can_begin (form n.Declare) ts at ≡ true →
    Says n.Declare k ts at (Err s) → Gives (form n.Declare ∥ form n.Routine) decls_of k ts at (Err s)
unfolding SaysTitle after stmt_option item_option named_stmt_of Stops Says Gives Takes Passes Opens can_begin is_in apart within
declared_1 k ts at s h1 h2 = stops_as ts at at s (λ why rest q. u.left_stop h1 q) h2

pub declared_2 : (k : ℕ) (ts : List Token) (at : ℕ) (ds : List Decl) (end : ℕ) →
    can_begin (form n.Declare) ts at ≡ true → Says n.Declare k ts at (Ok (ds, end)) →
    Gives (form n.Declare ∥ form n.Routine) decls_of k ts at (Ok (ds, end))
unfolding SaysTitle after stmt_option item_option named_stmt_of Stops Says Gives Takes Passes Opens can_begin is_in apart within
declared_2 k ts at ds end h1 h2 = (_, refl, u.left h1 h2)

pub declared_3 : (k : ℕ) (ts : List Token) (at : ℕ) (s : Stop) → can_begin (form n.Declare) ts at ≡ false →
    Says n.Routine k ts at (Err s) → Gives (form n.Declare ∥ form n.Routine) decls_of k ts at (Err s)
unfolding SaysTitle after stmt_option item_option named_stmt_of Stops Says Gives Takes Passes Opens can_begin is_in apart within
declared_3 k ts at s h1 h2 = stops_as ts at at s (λ why rest q. u.right_stop h1 q) h2

pub declared_4 : (k : ℕ) (ts : List Token) (at : ℕ) (x : Decl) (end : ℕ) →
    can_begin (form n.Declare) ts at ≡ false → Says n.Routine k ts at (Ok (x, end)) →
    Gives (form n.Declare ∥ form n.Routine) decls_of k ts at (Ok (x ∷ [], end))
unfolding SaysTitle after stmt_option item_option named_stmt_of Stops Says Gives Takes Passes Opens can_begin is_in apart within
declared_4 k ts at x end h1 h2 = (_, refl, u.right h1 h2)

pub ruleset declared_arms = (declared_1, declared_2, declared_3, declared_4, gives_no_memory)

pub protocol_1 : (k : ℕ) (ts : List Token) (at : ℕ) (s : Stop) → Says (n.Cut n.Declarations) k ts at (Err s) →
    Says n.Protocol k ts at (Err s)
unfolding SaysTitle after stmt_option item_option named_stmt_of Stops Says Gives Takes Passes Opens can_begin is_in apart within
protocol_1 k ts at s h1 = stops_as ts at at s (λ why rest q. u.call_stop (u.seq_first q)) h1

pub protocol_2 : (k : ℕ) (ts : List Token) (at : ℕ) (ds : List Decl) (next : ℕ) (start : ℕ) (s : Stop) →
    Says (n.Cut n.Declarations) k ts at (Ok (ds, next)) → Passes (cut n.Gaps) ts next (Ok start) →
    Says n.Item k ts start (Err s) → Says n.Protocol k ts at (Err s)
unfolding SaysTitle after stmt_option item_option named_stmt_of Stops Says Gives Takes Passes Opens can_begin is_in apart within
protocol_2 k ts at ds next start s h1 h2 h3 =
    stops_as ts start at s (λ why rest q. u.call_stop (u.seq_second h1 (u.seq_second (h2.1 k) (u.seq_first q)))) h3

pub protocol_3 :
    (k : ℕ) (ts : List Token) (at : ℕ) (ds : List Decl) (next : ℕ) (start : ℕ) (i : RuleDecl) (behind : ℕ) (s : Stop) →
    Says (n.Cut n.Declarations) k ts at (Ok (ds, next)) → Passes (cut n.Gaps) ts next (Ok start) →
    Says n.Item k ts start (Ok (i, behind)) → Gives (cut n.MoreItems) (after (i ∷ [])) k ts behind (Err s) →
    Says n.Protocol k ts at (Err s)
unfolding SaysTitle after stmt_option item_option named_stmt_of Stops Says Gives Takes Passes Opens can_begin is_in apart within
protocol_3 k ts at ds next start i behind s h1 h2 h3 h4 =
    stops_as ts behind at s (λ why rest q. u.call_stop (u.seq_second h1 (u.seq_second (h2.1 k) (u.seq_second h3 (u.seq_first q))))) h4

pub protocol_4 :
    (k : ℕ) (ts : List Token) (at : ℕ) (ds : List Decl) (next : ℕ) (start : ℕ) (i : RuleDecl) (behind : ℕ) (is : List RuleDecl) (last : ℕ) (s : Stop) →
    Says (n.Cut n.Declarations) k ts at (Ok (ds, next)) → Passes (cut n.Gaps) ts next (Ok start) →
    Says n.Item k ts start (Ok (i, behind)) → Gives (cut n.MoreItems) (after (i ∷ [])) k ts behind (Ok (is, last)) →
    Passes (one t.EndOfText) ts last (Err s) → Says n.Protocol k ts at (Err s)
unfolding SaysTitle after stmt_option item_option named_stmt_of Stops Says Gives Takes Passes Opens can_begin is_in apart within
protocol_4 k ts at ds next start i behind is last s h1 h2 h3 h4 h5 =
    stops_as ts last at s (λ why rest q. u.call_stop (u.seq_second h1 (u.seq_second (h2.1 k) (u.seq_second h3 (u.seq_second h4.2 q))))) (h5 k)

pub protocol_5 :
    (k : ℕ) (ts : List Token) (at : ℕ) (ds : List Decl) (next : ℕ) (start : ℕ) (i : RuleDecl) (behind : ℕ) (is : List RuleDecl) (last : ℕ) (end : ℕ) →
    Says (n.Cut n.Declarations) k ts at (Ok (ds, next)) → Passes (cut n.Gaps) ts next (Ok start) →
    Says n.Item k ts start (Ok (i, behind)) → Gives (cut n.MoreItems) (after (i ∷ [])) k ts behind (Ok (is, last)) →
    Passes (one t.EndOfText) ts last (Ok end) →
    Says n.Protocol k ts at (Ok (record { decls = ds; rules = is }, end))
unfolding SaysTitle after stmt_option item_option named_stmt_of Stops Says Gives Takes Passes Opens can_begin is_in apart within
protocol_5 k ts at ds next start i behind is last end h1 h2 h3 h4 h5 =
    u.call (ap (λ z. (record { decls = ds; rules = z })) h4.1) (u.seq h1 (u.seq (h2.1 k) (u.seq h3 (u.seq h4.2 (h5.1 k)))))

pub ruleset protocol_arms = (protocol_1, protocol_2, protocol_3, protocol_4, protocol_5, no_memory)
