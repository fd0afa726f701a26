-- One lemma for each way through the readers of declarations.
use Rattle.std.specs.Prelude.{Option, map}
use Rattle.std.proofs.Common.{inl, inr, ◌≡◌, ℕ, zero, suc, ◌+◌, Bool, true, false, List, [], ◌∷◌, ◌++◌, ◌⊎◌, drop, Some, None, Ok, Err, Result, refl, sym, ap, ◌∙◌, subst}
use Rattle.grammar_core.specs.Forms.{Call, Seq, Choice, Empty, TreeOf}
use Rattle.grammar_core.specs.Spelling.{Limit}
use Rattle.grammar_core.specs.Reading as read
use Rattle.grammar_core.specs.Reading.{Fault, Got}
use Rattle.grammar_core.specs.Test.{is_in, apart, within}
use Rattle.grammar_core.specs.Walk as u
use Rattle.grammar_core.specs.Walk.{Run}
use Rattle.murphi_ast.specs.declared.text.Text.{Text}
use Rattle.murphi_ast.specs.declared.token.Token.{Token}
use Rattle.murphi_ast.specs.declared.expr.Named.{Named}
use Rattle.murphi_ast.specs.declared.expr.Designator.{Designator}
use Rattle.murphi_ast.specs.declared.expr.Selector.{Selector}
use Rattle.murphi_ast.specs.declared.expr.Bind.{Bind}
use Rattle.murphi_ast.specs.declared.expr.TypeExpr.{TypeExpr}
use Rattle.murphi_ast.specs.declared.expr.Expr.{Expr}
use Rattle.murphi_ast.specs.declared.stmt.Stmt as s
use Rattle.murphi_ast.specs.declared.stmt.Stmt.{Stmt}
use Rattle.murphi_ast.specs.declared.stmt.Arm.{Arm}
use Rattle.murphi_ast.specs.declared.stmt.Case.{Case}
use Rattle.murphi_ast.specs.declared.decl.Decl as d
use Rattle.murphi_ast.specs.declared.decl.Decl.{Decl}
use Rattle.murphi_ast.specs.declared.decl.Formal.{Formal}
use Rattle.murphi_ast.specs.declared.rule.RuleDecl as r
use Rattle.murphi_ast.specs.declared.rule.RuleDecl.{RuleDecl}
use Rattle.murphi_ast.specs.declared.rule.Protocol.{Protocol}
use Rattle.murphi_grammar.specs.declared.symbol.Symbol.{Symbol}
use Rattle.murphi_grammar.specs.declared.symbol.Symbol.TheVariants as t
use Rattle.murphi_grammar.specs.Names as n
use Rattle.murphi_grammar.specs.Parts.{Part, ◌▸◌, ◌∥◌, one, form, many, optional, nest, ending, in_parentheses}
use Rattle.murphi_grammar.specs.Pieces.{cut, piece, piece_build}
use Rattle.murphi_grammar.specs.Values as v
use Rattle.murphi_grammar.specs.Values.{Value, named, seconds, present, joined, declared}
use Rattle.murphi_grammar.specs.Tables.{tables}
use Rattle.murphi_expressions.specs.Says.{Stops, Says, Gives, Takes, Passes, Opens, Enters, SoFar, can_begin, place_of, number_of, itself, with_front}
use Rattle.murphi_expressions.specs.declared.step.Stop.{Stop}
use Rattle.murphi_expressions.specs.declared.step.Stop.TheVariants.{Wrong, Deep, Memory}
use Rattle.murphi_expressions.proofs.Heads.{token_here}
use Rattle.murphi_expressions.proofs.Steps.{full, takes_no_memory}
use Rattle.murphi_expressions.proofs.Ways.{stops_as, inside, included, excluded, shrunk, no_memory, gives_no_memory, read_more, read_all, read_stops, renamed, said}
use Rattle.murphi_protocols.specs.Parts.{SaysTitle, constant_form, type_name_form, variables_form, after, added, option_of, stmt_option, item_option, decls_of, named_stmt_of, simple_form, simple_of, if_form, if_of, switch_form, switch_of, for_form, for_of, formal_rest, formal_of, procedure_form, procedure_of, function_form, function_of, group_form, group_of}

pub declare_1 : (k : ℕ) (ts : List Token) (at : ℕ) (s : Stop) → can_begin (one t.Const) ts at ≡ true →
    Says (n.Cut n.Constants) k ts (at + 1) (Err s) → Says n.Declare k ts at (Err s)
unfolding SaysTitle after stmt_option item_option named_stmt_of Stops Says Gives Takes Passes Opens can_begin is_in apart within
declare_1 k ts at s h1 h2 =
    let w1 = token_here t.Const ts at h1 in
    stops_as ts (at + 1) at s (λ why rest q. u.call_stop (u.left_stop h1 (u.seq_second (u.token w1.1 w1.2) q))) h2

pub declare_2 : (k : ℕ) (ts : List Token) (at : ℕ) (ds : List Decl) (end : ℕ) →
    can_begin (one t.Const) ts at ≡ true → Says (n.Cut n.Constants) k ts (at + 1) (Ok (ds, end)) →
    Says n.Declare k ts at (Ok (ds, end))
unfolding SaysTitle after stmt_option item_option named_stmt_of Stops Says Gives Takes Passes Opens can_begin is_in apart within
declare_2 k ts at ds end h1 h2 =
    let w1 = token_here t.Const ts at h1 in
    u.call refl (u.left h1 (u.seq (u.token w1.1 w1.2) h2))

pub declare_3 : (k : ℕ) (ts : List Token) (at : ℕ) (s : Stop) → can_begin (one t.Const) ts at ≡ false →
    can_begin (one t.Type) ts at ≡ true → Says (n.Cut n.TypeNames) k ts (at + 1) (Err s) →
    Says n.Declare k ts at (Err s)
unfolding SaysTitle after stmt_option item_option named_stmt_of Stops Says Gives Takes Passes Opens can_begin is_in apart within
declare_3 k ts at s h1 h2 h3 =
    let w1 = token_here t.Type ts at h2 in
    stops_as ts (at + 1) at s (λ why rest q. u.call_stop (u.right_stop (excluded (one t.Type) (one t.Const) ts at h2 refl) (u.left_stop h2 (u.seq_second (u.token w1.1 w1.2) q)))) h3

pub declare_4 : (k : ℕ) (ts : List Token) (at : ℕ) (ds : List Decl) (end : ℕ) →
    can_begin (one t.Const) ts at ≡ false → can_begin (one t.Type) ts at ≡ true →
    Says (n.Cut n.TypeNames) k ts (at + 1) (Ok (ds, end)) → Says n.Declare k ts at (Ok (ds, end))
unfolding SaysTitle after stmt_option item_option named_stmt_of Stops Says Gives Takes Passes Opens can_begin is_in apart within
declare_4 k ts at ds end h1 h2 h3 =
    let w1 = token_here t.Type ts at h2 in
    u.call refl (u.right (excluded (one t.Type) (one t.Const) ts at h2 refl) (u.left h2 (u.seq (u.token w1.1 w1.2) h3)))

pub declare_5 : (k : ℕ) (ts : List Token) (at : ℕ) (s : Stop) → can_begin (one t.Const) ts at ≡ false →
    can_begin (one t.Type) ts at ≡ false → Passes (one t.Var) ts at (Err s) → Says n.Declare k ts at (Err s)
unfolding SaysTitle after stmt_option item_option named_stmt_of Stops Says Gives Takes Passes Opens can_begin is_in apart within
declare_5 k ts at s h1 h2 h3 =
    stops_as ts at at s (λ why rest q. u.call_stop (u.right_stop h1 (u.right_stop h2 (u.seq_first q)))) (h3 k)

pub declare_6 : (k : ℕ) (ts : List Token) (at : ℕ) (next : ℕ) (s : Stop) → can_begin (one t.Const) ts at ≡ false →
    can_begin (one t.Type) ts at ≡ false → Passes (one t.Var) ts at (Ok next) →
    Says (n.Cut n.VariableLists) k ts next (Err s) → Says n.Declare k ts at (Err s)
unfolding SaysTitle after stmt_option item_option named_stmt_of Stops Says Gives Takes Passes Opens can_begin is_in apart within
declare_6 k ts at next s h1 h2 h3 h4 =
    stops_as ts next at s (λ why rest q. u.call_stop (u.right_stop h1 (u.right_stop h2 (u.seq_second (h3.1 k) q)))) h4

pub declare_7 : (k : ℕ) (ts : List Token) (at : ℕ) (next : ℕ) (ds : List Decl) (end : ℕ) →
    can_begin (one t.Const) ts at ≡ false → can_begin (one t.Type) ts at ≡ false →
    Passes (one t.Var) ts at (Ok next) → Says (n.Cut n.VariableLists) k ts next (Ok (ds, end)) →
    Says n.Declare k ts at (Ok (ds, end))
unfolding SaysTitle after stmt_option item_option named_stmt_of Stops Says Gives Takes Passes Opens can_begin is_in apart within
declare_7 k ts at next ds end h1 h2 h3 h4 = u.call refl (u.right h1 (u.right h2 (u.seq (h3.1 k) h4)))

pub ruleset declare_arms = (declare_1, declare_2, declare_3, declare_4, declare_5, declare_6, declare_7, no_memory)

pub constant_1 : (k : ℕ) (ts : List Token) (at : ℕ) (s : Stop) → Takes (one t.Name) named ts at (Err s) →
    Gives constant_form v.constant k ts at (Err s)
unfolding SaysTitle after stmt_option item_option named_stmt_of Stops Says Gives Takes Passes Opens can_begin is_in apart within
constant_1 k ts at s h1 = stops_as ts at at s (λ why rest q. u.seq_first q) (h1 k)

pub constant_2 : (k : ℕ) (ts : List Token) (at : ℕ) (x : Named) (next : ℕ) (s : Stop) →
    Takes (one t.Name) named ts at (Ok (x, next)) → Passes (one t.Colon) ts next (Err s) →
    Gives constant_form v.constant k ts at (Err s)
unfolding SaysTitle after stmt_option item_option named_stmt_of Stops Says Gives Takes Passes Opens can_begin is_in apart within
constant_2 k ts at x next s h1 h2 = stops_as ts next at s (λ why rest q. u.seq_second (h1.2 k) (u.seq_first q)) (h2 k)

pub constant_3 : (k : ℕ) (ts : List Token) (at : ℕ) (x : Named) (next : ℕ) (behind : ℕ) (s : Stop) →
    Takes (one t.Name) named ts at (Ok (x, next)) → Passes (one t.Colon) ts next (Ok behind) →
    Says n.Expr k ts behind (Err s) → Gives constant_form v.constant k ts at (Err s)
unfolding SaysTitle after stmt_option item_option named_stmt_of Stops Says Gives Takes Passes Opens can_begin is_in apart within
constant_3 k ts at x next behind s h1 h2 h3 =
    stops_as ts behind at s (λ why rest q. u.seq_second (h1.2 k) (u.seq_second (h2.1 k) (u.seq_first q))) h3

pub constant_4 :
    (k : ℕ) (ts : List Token) (at : ℕ) (x : Named) (next : ℕ) (behind : ℕ) (value : Expr) (last : ℕ) (s : Stop) →
    Takes (one t.Name) named ts at (Ok (x, next)) → Passes (one t.Colon) ts next (Ok behind) →
    Says n.Expr k ts behind (Ok (value, last)) → Passes (one t.Semicolon) ts last (Err s) →
    Gives constant_form v.constant k ts at (Err s)
unfolding SaysTitle after stmt_option item_option named_stmt_of Stops Says Gives Takes Passes Opens can_begin is_in apart within
constant_4 k ts at x next behind value last s h1 h2 h3 h4 =
    stops_as ts last at s (λ why rest q. u.seq_second (h1.2 k) (u.seq_second (h2.1 k) (u.seq_second h3 q))) (h4 k)

pub constant_5 :
    (k : ℕ) (ts : List Token) (at : ℕ) (x : Named) (next : ℕ) (behind : ℕ) (value : Expr) (last : ℕ) (end : ℕ) →
    Takes (one t.Name) named ts at (Ok (x, next)) → Passes (one t.Colon) ts next (Ok behind) →
    Says n.Expr k ts behind (Ok (value, last)) → Passes (one t.Semicolon) ts last (Ok end) →
    Gives constant_form v.constant k ts at (Ok (d.Constant x value, end))
unfolding SaysTitle after stmt_option item_option named_stmt_of Stops Says Gives Takes Passes Opens can_begin is_in apart within
constant_5 k ts at x next behind value last end h1 h2 h3 h4 =
    (_, ap (λ z. (d.Constant z value)) h1.1, u.seq (h1.2 k) (u.seq (h2.1 k) (u.seq h3 (h4.1 k))))

pub ruleset constant_arms = (constant_1, constant_2, constant_3, constant_4, constant_5, gives_no_memory)

pub type_name_1 : (k : ℕ) (ts : List Token) (at : ℕ) (s : Stop) → Takes (one t.Name) named ts at (Err s) →
    Gives type_name_form v.type_name k ts at (Err s)
unfolding SaysTitle after stmt_option item_option named_stmt_of Stops Says Gives Takes Passes Opens can_begin is_in apart within
type_name_1 k ts at s h1 = stops_as ts at at s (λ why rest q. u.seq_first q) (h1 k)

pub type_name_2 : (k : ℕ) (ts : List Token) (at : ℕ) (x : Named) (next : ℕ) (s : Stop) →
    Takes (one t.Name) named ts at (Ok (x, next)) → Passes (one t.Colon) ts next (Err s) →
    Gives type_name_form v.type_name k ts at (Err s)
unfolding SaysTitle after stmt_option item_option named_stmt_of Stops Says Gives Takes Passes Opens can_begin is_in apart within
type_name_2 k ts at x next s h1 h2 =
    stops_as ts next at s (λ why rest q. u.seq_second (h1.2 k) (u.seq_first q)) (h2 k)

pub type_name_3 : (k : ℕ) (ts : List Token) (at : ℕ) (x : Named) (next : ℕ) (behind : ℕ) (s : Stop) →
    Takes (one t.Name) named ts at (Ok (x, next)) → Passes (one t.Colon) ts next (Ok behind) →
    Says n.TypeForm k ts behind (Err s) → Gives type_name_form v.type_name k ts at (Err s)
unfolding SaysTitle after stmt_option item_option named_stmt_of Stops Says Gives Takes Passes Opens can_begin is_in apart within
type_name_3 k ts at x next behind s h1 h2 h3 =
    stops_as ts behind at s (λ why rest q. u.seq_second (h1.2 k) (u.seq_second (h2.1 k) (u.seq_first q))) h3

pub type_name_4 :
    (k : ℕ) (ts : List Token) (at : ℕ) (x : Named) (next : ℕ) (behind : ℕ) (body : TypeExpr) (last : ℕ) (s : Stop) →
    Takes (one t.Name) named ts at (Ok (x, next)) → Passes (one t.Colon) ts next (Ok behind) →
    Says n.TypeForm k ts behind (Ok (body, last)) → Passes (one t.Semicolon) ts last (Err s) →
    Gives type_name_form v.type_name k ts at (Err s)
unfolding SaysTitle after stmt_option item_option named_stmt_of Stops Says Gives Takes Passes Opens can_begin is_in apart within
type_name_4 k ts at x next behind body last s h1 h2 h3 h4 =
    stops_as ts last at s (λ why rest q. u.seq_second (h1.2 k) (u.seq_second (h2.1 k) (u.seq_second h3 q))) (h4 k)

pub type_name_5 :
    (k : ℕ) (ts : List Token) (at : ℕ) (x : Named) (next : ℕ) (behind : ℕ) (body : TypeExpr) (last : ℕ) (end : ℕ) →
    Takes (one t.Name) named ts at (Ok (x, next)) → Passes (one t.Colon) ts next (Ok behind) →
    Says n.TypeForm k ts behind (Ok (body, last)) → Passes (one t.Semicolon) ts last (Ok end) →
    Gives type_name_form v.type_name k ts at (Ok (d.TypeName x body, end))
unfolding SaysTitle after stmt_option item_option named_stmt_of Stops Says Gives Takes Passes Opens can_begin is_in apart within
type_name_5 k ts at x next behind body last end h1 h2 h3 h4 =
    (_, ap (λ z. (d.TypeName z body)) h1.1, u.seq (h1.2 k) (u.seq (h2.1 k) (u.seq h3 (h4.1 k))))

pub ruleset type_name_arms = (type_name_1, type_name_2, type_name_3, type_name_4, type_name_5, gives_no_memory)

pub variables_1 : (k : ℕ) (ts : List Token) (at : ℕ) (s : Stop) → Takes (form n.NameList) itself ts at (Err s) →
    Gives variables_form v.variables k ts at (Err s)
unfolding SaysTitle after stmt_option item_option named_stmt_of Stops Says Gives Takes Passes Opens can_begin is_in apart within
variables_1 k ts at s h1 = stops_as ts at at s (λ why rest q. u.seq_first q) (h1 k)

pub variables_2 : (k : ℕ) (ts : List Token) (at : ℕ) (xs : List Named) (next : ℕ) (s : Stop) →
    Takes (form n.NameList) itself ts at (Ok (xs, next)) → Passes (one t.Colon) ts next (Err s) →
    Gives variables_form v.variables k ts at (Err s)
unfolding SaysTitle after stmt_option item_option named_stmt_of Stops Says Gives Takes Passes Opens can_begin is_in apart within
variables_2 k ts at xs next s h1 h2 =
    stops_as ts next at s (λ why rest q. u.seq_second (h1.2 k) (u.seq_first q)) (h2 k)

pub variables_3 : (k : ℕ) (ts : List Token) (at : ℕ) (xs : List Named) (next : ℕ) (behind : ℕ) (s : Stop) →
    Takes (form n.NameList) itself ts at (Ok (xs, next)) → Passes (one t.Colon) ts next (Ok behind) →
    Says n.TypeForm k ts behind (Err s) → Gives variables_form v.variables k ts at (Err s)
unfolding SaysTitle after stmt_option item_option named_stmt_of Stops Says Gives Takes Passes Opens can_begin is_in apart within
variables_3 k ts at xs next behind s h1 h2 h3 =
    stops_as ts behind at s (λ why rest q. u.seq_second (h1.2 k) (u.seq_second (h2.1 k) (u.seq_first q))) h3

pub variables_4 :
    (k : ℕ) (ts : List Token) (at : ℕ) (xs : List Named) (next : ℕ) (behind : ℕ) (body : TypeExpr) (last : ℕ) (s : Stop) →
    Takes (form n.NameList) itself ts at (Ok (xs, next)) → Passes (one t.Colon) ts next (Ok behind) →
    Says n.TypeForm k ts behind (Ok (body, last)) → Passes (one t.Semicolon) ts last (Err s) →
    Gives variables_form v.variables k ts at (Err s)
unfolding SaysTitle after stmt_option item_option named_stmt_of Stops Says Gives Takes Passes Opens can_begin is_in apart within
variables_4 k ts at xs next behind body last s h1 h2 h3 h4 =
    stops_as ts last at s (λ why rest q. u.seq_second (h1.2 k) (u.seq_second (h2.1 k) (u.seq_second h3 q))) (h4 k)

pub variables_5 :
    (k : ℕ) (ts : List Token) (at : ℕ) (xs : List Named) (next : ℕ) (behind : ℕ) (body : TypeExpr) (last : ℕ) (end : ℕ) →
    Takes (form n.NameList) itself ts at (Ok (xs, next)) → Passes (one t.Colon) ts next (Ok behind) →
    Says n.TypeForm k ts behind (Ok (body, last)) → Passes (one t.Semicolon) ts last (Ok end) →
    Gives variables_form v.variables k ts at (Ok (d.Variables xs body, end))
unfolding SaysTitle after stmt_option item_option named_stmt_of Stops Says Gives Takes Passes Opens can_begin is_in apart within
variables_5 k ts at xs next behind body last end h1 h2 h3 h4 =
    (_, ap (λ z. (d.Variables z body)) h1.1, u.seq (h1.2 k) (u.seq (h2.1 k) (u.seq h3 (h4.1 k))))

pub ruleset variables_arms = (variables_1, variables_2, variables_3, variables_4, variables_5, gives_no_memory)
