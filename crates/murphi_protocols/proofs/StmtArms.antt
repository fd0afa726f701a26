-- One lemma for each way through the readers of statements.
use Rattle.std.specs.Prelude.{Option, map}
use Rattle.std.proofs.Common.{inl, inr, ◌≡◌, ℕ, zero, suc, ◌+◌, Bool, true, false, List, [], ◌∷◌, ◌++◌, ◌⊎◌, drop, Some, None, Ok, Err, Result, refl, sym, ap, ◌∙◌, subst}
use Rattle.grammar_core.specs.Forms.{Call, Seq, Choice, Empty, TreeOf}
use Rattle.grammar_core.specs.Spelling.{Limit}
use Rattle.grammar_core.specs.Reading as read
use Rattle.grammar_core.specs.Reading.{Fault, Got}
use Rattle.grammar_core.specs.Test.{is_in, apart, within}
use Rattle.grammar_core.specs.Walk as u
use Rattle.grammar_core.specs.Walk.{Run}
use Rattle.murphi_ast.specs.declared.text.Text.{Text}
use Rattle.murphi_ast.specs.declared.token.Token.{Token}
use Rattle.murphi_ast.specs.declared.expr.Named.{Named}
use Rattle.murphi_ast.specs.declared.expr.Designator.{Designator}
use Rattle.murphi_ast.specs.declared.expr.Selector.{Selector}
use Rattle.murphi_ast.specs.declared.expr.Bind.{Bind}
use Rattle.murphi_ast.specs.declared.expr.TypeExpr.{TypeExpr}
use Rattle.murphi_ast.specs.declared.expr.Expr.{Expr}
use Rattle.murphi_ast.specs.declared.stmt.Stmt as s
use Rattle.murphi_ast.specs.declared.stmt.Stmt.{Stmt}
use Rattle.murphi_ast.specs.declared.stmt.Arm.{Arm}
use Rattle.murphi_ast.specs.declared.stmt.Case.{Case}
use Rattle.murphi_ast.specs.declared.decl.Decl as d
use Rattle.murphi_ast.specs.declared.decl.Decl.{Decl}
use Rattle.murphi_ast.specs.declared.decl.Formal.{Formal}
use Rattle.murphi_ast.specs.declared.rule.RuleDecl as r
use Rattle.murphi_ast.specs.declared.rule.RuleDecl.{RuleDecl}
use Rattle.murphi_ast.specs.declared.rule.Protocol.{Protocol}
use Rattle.murphi_grammar.specs.declared.symbol.Symbol.{Symbol}
use Rattle.murphi_grammar.specs.declared.symbol.Symbol.TheVariants as t
use Rattle.murphi_grammar.specs.Names as n
use Rattle.murphi_grammar.specs.Parts.{Part, ◌▸◌, ◌∥◌, one, form, many, optional, nest, ending, in_parentheses}
use Rattle.murphi_grammar.specs.Pieces.{cut, piece, piece_build}
use Rattle.murphi_grammar.specs.Values as v
use Rattle.murphi_grammar.specs.Values.{Value, named, seconds, present, joined, declared}
use Rattle.murphi_grammar.specs.Tables.{tables}
use Rattle.murphi_expressions.specs.Says.{Stops, Says, Gives, Takes, Passes, Opens, Enters, SoFar, can_begin, place_of, number_of, itself, with_front}
use Rattle.murphi_expressions.specs.declared.step.Stop.{Stop}
use Rattle.murphi_expressions.specs.declared.step.Stop.TheVariants.{Wrong, Deep, Memory}
use Rattle.murphi_expressions.proofs.Heads.{token_here}
use Rattle.murphi_expressions.proofs.Steps.{full, takes_no_memory}
use Rattle.murphi_expressions.proofs.Ways.{stops_as, inside, included, excluded, shrunk, no_memory, gives_no_memory, read_more, read_all, read_stops, renamed, said}
use Rattle.murphi_protocols.specs.Parts.{SaysTitle, constant_form, type_name_form, variables_form, after, added, option_of, stmt_option, item_option, decls_of, named_stmt_of, simple_form, simple_of, if_form, if_of, switch_form, switch_of, for_form, for_of, formal_rest, formal_of, procedure_form, procedure_of, function_form, function_of, group_form, group_of}
use Rattle.murphi_grammar.specs.Factored.{build}

-- a statement that begins with a name
stmt_named : (x : Token) (rest : Value (n.Cut n.StmtRest)) → named_stmt_of (named x) rest ≡ build n.Stmt (inl (x, rest))
unfolding named_stmt_of
stmt_named x (inl args) = refl
stmt_named x (inr (sels, value)) = refl

pub named_stmt_1 : (k : ℕ) (ts : List Token) (at : ℕ) (root : Named) (s : Stop) →
    can_begin (one t.Open) ts at ≡ true → Says (n.Cut n.Arguments) k ts at (Err s) →
    Gives (cut n.StmtRest) (named_stmt_of root) k ts at (Err s)
unfolding SaysTitle after stmt_option item_option named_stmt_of Stops Says Gives Takes Passes Opens can_begin is_in apart within
named_stmt_1 k ts at root s h1 h2 = stops_as ts at at s (λ why rest q. u.call_stop (u.left_stop h1 q)) h2

pub named_stmt_2 : (k : ℕ) (ts : List Token) (at : ℕ) (root : Named) (xs : List Expr) (end : ℕ) →
    can_begin (one t.Open) ts at ≡ true → Says (n.Cut n.Arguments) k ts at (Ok (xs, end)) →
    Gives (cut n.StmtRest) (named_stmt_of root) k ts at (Ok (s.Call root xs, end))
unfolding SaysTitle after stmt_option item_option named_stmt_of Stops Says Gives Takes Passes Opens can_begin is_in apart within
named_stmt_2 k ts at root xs end h1 h2 = (_, refl, u.call refl (u.left h1 h2))

pub named_stmt_3 : (k : ℕ) (ts : List Token) (at : ℕ) (root : Named) (s : Stop) →
    can_begin (one t.Open) ts at ≡ false → Says (n.Cut n.Selectors) k ts at (Err s) →
    Gives (cut n.StmtRest) (named_stmt_of root) k ts at (Err s)
unfolding SaysTitle after stmt_option item_option named_stmt_of Stops Says Gives Takes Passes Opens can_begin is_in apart within
named_stmt_3 k ts at root s h1 h2 =
    stops_as ts at at s (λ why rest q. u.call_stop (u.right_stop h1 (u.seq_first q))) h2

pub named_stmt_4 : (k : ℕ) (ts : List Token) (at : ℕ) (root : Named) (sels : List Selector) (next : ℕ) (s : Stop) →
    can_begin (one t.Open) ts at ≡ false → Says (n.Cut n.Selectors) k ts at (Ok (sels, next)) →
    Passes (one t.Becomes) ts next (Err s) → Gives (cut n.StmtRest) (named_stmt_of root) k ts at (Err s)
unfolding SaysTitle after stmt_option item_option named_stmt_of Stops Says Gives Takes Passes Opens can_begin is_in apart within
named_stmt_4 k ts at root sels next s h1 h2 h3 =
    stops_as ts next at s (λ why rest q. u.call_stop (u.right_stop h1 (u.seq_second h2 (u.seq_first q)))) (h3 k)

pub named_stmt_5 :
    (k : ℕ) (ts : List Token) (at : ℕ) (root : Named) (sels : List Selector) (next : ℕ) (behind : ℕ) (s : Stop) →
    can_begin (one t.Open) ts at ≡ false → Says (n.Cut n.Selectors) k ts at (Ok (sels, next)) →
    Passes (one t.Becomes) ts next (Ok behind) → Says n.Expr k ts behind (Err s) →
    Gives (cut n.StmtRest) (named_stmt_of root) k ts at (Err s)
unfolding SaysTitle after stmt_option item_option named_stmt_of Stops Says Gives Takes Passes Opens can_begin is_in apart within
named_stmt_5 k ts at root sels next behind s h1 h2 h3 h4 =
    stops_as ts behind at s (λ why rest q. u.call_stop (u.right_stop h1 (u.seq_second h2 (u.seq_second (h3.1 k) q)))) h4

pub named_stmt_6 :
    (k : ℕ) (ts : List Token) (at : ℕ) (root : Named) (sels : List Selector) (next : ℕ) (behind : ℕ) (value : Expr) (end : ℕ) →
    can_begin (one t.Open) ts at ≡ false → Says (n.Cut n.Selectors) k ts at (Ok (sels, next)) →
    Passes (one t.Becomes) ts next (Ok behind) → Says n.Expr k ts behind (Ok (value, end)) →
    Gives (cut n.StmtRest) (named_stmt_of root) k ts at (Ok (s.Assign (record { root = root; selectors = sels }) value, end))
unfolding SaysTitle after stmt_option item_option named_stmt_of Stops Says Gives Takes Passes Opens can_begin is_in apart within
named_stmt_6 k ts at root sels next behind value end h1 h2 h3 h4 =
    (_, refl, u.call refl (u.right h1 (u.seq h2 (u.seq (h3.1 k) h4))))

pub ruleset named_stmt_arms = (
  named_stmt_1,
  named_stmt_2,
  named_stmt_3,
  named_stmt_4,
  named_stmt_5,
  named_stmt_6,
  gives_no_memory,
)

pub simple_1 : (k : ℕ) (ts : List Token) (at : ℕ) (s : Stop) → can_begin (one t.Error) ts at ≡ true →
    Passes (one t.Quoted) ts (at + 1) (Err s) → Gives simple_form simple_of k ts at (Err s)
unfolding SaysTitle after stmt_option item_option named_stmt_of Stops Says Gives Takes Passes Opens can_begin is_in apart within
simple_1 k ts at s h1 h2 =
    let w1 = token_here t.Error ts at h1 in
    stops_as ts (at + 1) at s (λ why rest q. u.left_stop h1 (u.seq_second (u.token w1.1 w1.2) q)) (h2 k)

pub simple_2 : (k : ℕ) (ts : List Token) (at : ℕ) (end : ℕ) → can_begin (one t.Error) ts at ≡ true →
    Passes (one t.Quoted) ts (at + 1) (Ok end) →
    Gives simple_form simple_of k ts at (Ok (s.Error (place_of (drop at ts)), end))
unfolding SaysTitle after stmt_option item_option named_stmt_of Stops Says Gives Takes Passes Opens can_begin is_in apart within
simple_2 k ts at end h1 h2 =
    let w1 = token_here t.Error ts at h1 in
    (_, ap (λ z. (s.Error (place_of z))) w1.1, u.left h1 (u.seq (u.token w1.1 w1.2) (h2.1 k)))

pub simple_3 : (k : ℕ) (ts : List Token) (at : ℕ) (s : Stop) → can_begin (one t.Error) ts at ≡ false →
    can_begin (one t.Assert) ts at ≡ true → Says n.Expr k ts (at + 1) (Err s) →
    Gives simple_form simple_of k ts at (Err s)
unfolding SaysTitle after stmt_option item_option named_stmt_of Stops Says Gives Takes Passes Opens can_begin is_in apart within
simple_3 k ts at s h1 h2 h3 =
    let w1 = token_here t.Assert ts at h2 in
    stops_as ts (at + 1) at s (λ why rest q. u.right_stop (excluded (one t.Assert) (one t.Error) ts at h2 refl) (u.left_stop h2 (u.seq_second (u.token w1.1 w1.2) (u.seq_first q)))) h3

pub simple_4 : (k : ℕ) (ts : List Token) (at : ℕ) (x : Expr) (end : ℕ) → can_begin (one t.Error) ts at ≡ false →
    can_begin (one t.Assert) ts at ≡ true → Says n.Expr k ts (at + 1) (Ok (x, end)) →
    can_begin (one t.Quoted) ts end ≡ true →
    Gives simple_form simple_of k ts at (Ok (s.Assert x (place_of (drop at ts)), (end + 1)))
unfolding SaysTitle after stmt_option item_option named_stmt_of Stops Says Gives Takes Passes Opens can_begin is_in apart within
simple_4 k ts at x end h1 h2 h3 h4 =
    let w1 = token_here t.Assert ts at h2 in
    let w2 = token_here t.Quoted ts end h4 in
    (_, ap (λ z. (s.Assert x (place_of z))) w1.1, u.right (excluded (one t.Assert) (one t.Error) ts at h2 refl) (u.left h2 (u.seq (u.token w1.1 w1.2) (u.seq h3 (u.left h4 (u.token w2.1 w2.2))))))

pub simple_5 : (k : ℕ) (ts : List Token) (at : ℕ) (x : Expr) (end : ℕ) → can_begin (one t.Error) ts at ≡ false →
    can_begin (one t.Assert) ts at ≡ true → Says n.Expr k ts (at + 1) (Ok (x, end)) →
    can_begin (one t.Quoted) ts end ≡ false →
    Gives simple_form simple_of k ts at (Ok (s.Assert x (place_of (drop at ts)), end))
unfolding SaysTitle after stmt_option item_option named_stmt_of Stops Says Gives Takes Passes Opens can_begin is_in apart within
simple_5 k ts at x end h1 h2 h3 h4 =
    let w1 = token_here t.Assert ts at h2 in
    (_, ap (λ z. (s.Assert x (place_of z))) w1.1, u.right (excluded (one t.Assert) (one t.Error) ts at h2 refl) (u.left h2 (u.seq (u.token w1.1 w1.2) (u.seq h3 (u.right h4 u.empty)))))

pub simple_6 : (k : ℕ) (ts : List Token) (at : ℕ) → can_begin (one t.Error) ts at ≡ false →
    can_begin (one t.Assert) ts at ≡ false → can_begin (one t.Put) ts at ≡ true →
    can_begin (one t.Quoted) ts (at + 1) ≡ true →
    Gives simple_form simple_of k ts at (Ok (s.Put None (place_of (drop at ts)), ((at + 1) + 1)))
unfolding SaysTitle after stmt_option item_option named_stmt_of Stops Says Gives Takes Passes Opens can_begin is_in apart within
simple_6 k ts at h1 h2 h3 h4 =
    let w1 = token_here t.Put ts at h3 in
    let w2 = token_here t.Quoted ts (at + 1) h4 in
    (_, ap (λ z. (s.Put None (place_of z))) w1.1, u.right (excluded (one t.Put) (one t.Error) ts at h3 refl) (u.right (excluded (one t.Put) (one t.Assert) ts at h3 refl) (u.left h3 (u.seq (u.token w1.1 w1.2) (u.left h4 (u.token w2.1 w2.2))))))

pub simple_7 : (k : ℕ) (ts : List Token) (at : ℕ) (s : Stop) → can_begin (one t.Error) ts at ≡ false →
    can_begin (one t.Assert) ts at ≡ false → can_begin (one t.Put) ts at ≡ true →
    can_begin (one t.Quoted) ts (at + 1) ≡ false → Says n.Expr k ts (at + 1) (Err s) →
    Gives simple_form simple_of k ts at (Err s)
unfolding SaysTitle after stmt_option item_option named_stmt_of Stops Says Gives Takes Passes Opens can_begin is_in apart within
simple_7 k ts at s h1 h2 h3 h4 h5 =
    let w1 = token_here t.Put ts at h3 in
    stops_as ts (at + 1) at s (λ why rest q. u.right_stop (excluded (one t.Put) (one t.Error) ts at h3 refl) (u.right_stop (excluded (one t.Put) (one t.Assert) ts at h3 refl) (u.left_stop h3 (u.seq_second (u.token w1.1 w1.2) (u.right_stop h4 q))))) h5

pub simple_8 : (k : ℕ) (ts : List Token) (at : ℕ) (x : Expr) (end : ℕ) → can_begin (one t.Error) ts at ≡ false →
    can_begin (one t.Assert) ts at ≡ false → can_begin (one t.Put) ts at ≡ true →
    can_begin (one t.Quoted) ts (at + 1) ≡ false → Says n.Expr k ts (at + 1) (Ok (x, end)) →
    Gives simple_form simple_of k ts at (Ok (s.Put (Some x) (place_of (drop at ts)), end))
unfolding SaysTitle after stmt_option item_option named_stmt_of Stops Says Gives Takes Passes Opens can_begin is_in apart within
simple_8 k ts at x end h1 h2 h3 h4 h5 =
    let w1 = token_here t.Put ts at h3 in
    (_, ap (λ z. (s.Put (Some x) (place_of z))) w1.1, u.right (excluded (one t.Put) (one t.Error) ts at h3 refl) (u.right (excluded (one t.Put) (one t.Assert) ts at h3 refl) (u.left h3 (u.seq (u.token w1.1 w1.2) (u.right h4 h5)))))

pub simple_9 : (k : ℕ) (ts : List Token) (at : ℕ) (s : Stop) → can_begin (one t.Error) ts at ≡ false →
    can_begin (one t.Assert) ts at ≡ false → can_begin (one t.Put) ts at ≡ false →
    can_begin (one t.Return) ts at ≡ true → can_begin (form n.Expr) ts (at + 1) ≡ true →
    Says n.Expr k ts (at + 1) (Err s) → Gives simple_form simple_of k ts at (Err s)
unfolding SaysTitle after stmt_option item_option named_stmt_of Stops Says Gives Takes Passes Opens can_begin is_in apart within
simple_9 k ts at s h1 h2 h3 h4 h5 h6 =
    let w1 = token_here t.Return ts at h4 in
    stops_as ts (at + 1) at s (λ why rest q. u.right_stop (excluded (one t.Return) (one t.Error) ts at h4 refl) (u.right_stop (excluded (one t.Return) (one t.Assert) ts at h4 refl) (u.right_stop (excluded (one t.Return) (one t.Put) ts at h4 refl) (u.seq_second (u.token w1.1 w1.2) (u.left_stop h5 q))))) h6

pub simple_10 : (k : ℕ) (ts : List Token) (at : ℕ) (x : Expr) (end : ℕ) → can_begin (one t.Error) ts at ≡ false →
    can_begin (one t.Assert) ts at ≡ false → can_begin (one t.Put) ts at ≡ false →
    can_begin (one t.Return) ts at ≡ true → can_begin (form n.Expr) ts (at + 1) ≡ true →
    Says n.Expr k ts (at + 1) (Ok (x, end)) →
    Gives simple_form simple_of k ts at (Ok (s.Return (Some x) (place_of (drop at ts)), end))
unfolding SaysTitle after stmt_option item_option named_stmt_of Stops Says Gives Takes Passes Opens can_begin is_in apart within
simple_10 k ts at x end h1 h2 h3 h4 h5 h6 =
    let w1 = token_here t.Return ts at h4 in
    (_, ap (λ z. (s.Return (Some x) (place_of z))) w1.1, u.right (excluded (one t.Return) (one t.Error) ts at h4 refl) (u.right (excluded (one t.Return) (one t.Assert) ts at h4 refl) (u.right (excluded (one t.Return) (one t.Put) ts at h4 refl) (u.seq (u.token w1.1 w1.2) (u.left h5 h6)))))

pub simple_11 : (k : ℕ) (ts : List Token) (at : ℕ) → can_begin (one t.Error) ts at ≡ false →
    can_begin (one t.Assert) ts at ≡ false → can_begin (one t.Put) ts at ≡ false →
    can_begin (one t.Return) ts at ≡ true → can_begin (form n.Expr) ts (at + 1) ≡ false →
    Gives simple_form simple_of k ts at (Ok (s.Return None (place_of (drop at ts)), (at + 1)))
unfolding SaysTitle after stmt_option item_option named_stmt_of Stops Says Gives Takes Passes Opens can_begin is_in apart within
simple_11 k ts at h1 h2 h3 h4 h5 =
    let w1 = token_here t.Return ts at h4 in
    (_, ap (λ z. (s.Return None (place_of z))) w1.1, u.right (excluded (one t.Return) (one t.Error) ts at h4 refl) (u.right (excluded (one t.Return) (one t.Assert) ts at h4 refl) (u.right (excluded (one t.Return) (one t.Put) ts at h4 refl) (u.seq (u.token w1.1 w1.2) (u.right h5 u.empty)))))

pub simple_12 : (k : ℕ) (ts : List Token) (at : ℕ) → can_begin (one t.Error) ts at ≡ false →
    can_begin (one t.Assert) ts at ≡ false → can_begin (one t.Put) ts at ≡ false →
    can_begin (one t.Return) ts at ≡ false → Gives simple_form simple_of k ts at (Err (Wrong at))
unfolding SaysTitle after stmt_option item_option named_stmt_of Stops Says Gives Takes Passes Opens can_begin is_in apart within
simple_12 k ts at h1 h2 h3 h4 = u.right_stop h1 (u.right_stop h2 (u.right_stop h3 (u.seq_first (u.token_not h4))))

pub ruleset simple_arms = (
  simple_1,
  simple_2,
  simple_3,
  simple_4,
  simple_5,
  simple_6,
  simple_7,
  simple_8,
  simple_9,
  simple_10,
  simple_11,
  simple_12,
  gives_no_memory,
)

pub optional_stmt_1 : (k : ℕ) (ts : List Token) (at : ℕ) (s : Stop) → can_begin (form n.Stmt) ts at ≡ true →
    Says n.Stmt k ts at (Err s) → Gives (optional (form n.Stmt)) stmt_option k ts at (Err s)
unfolding SaysTitle after stmt_option item_option named_stmt_of Stops Says Gives Takes Passes Opens can_begin is_in apart within
optional_stmt_1 k ts at s h1 h2 = stops_as ts at at s (λ why rest q. u.left_stop h1 q) h2

pub optional_stmt_2 : (k : ℕ) (ts : List Token) (at : ℕ) (x : Stmt) (end : ℕ) →
    can_begin (form n.Stmt) ts at ≡ true → Says n.Stmt k ts at (Ok (x, end)) →
    Gives (optional (form n.Stmt)) stmt_option k ts at (Ok (Some x, end))
unfolding SaysTitle after stmt_option item_option named_stmt_of Stops Says Gives Takes Passes Opens can_begin is_in apart within
optional_stmt_2 k ts at x end h1 h2 = (_, refl, u.left h1 h2)

pub optional_stmt_3 : (k : ℕ) (ts : List Token) (at : ℕ) → can_begin (form n.Stmt) ts at ≡ false →
    Gives (optional (form n.Stmt)) stmt_option k ts at (Ok (None, at))
unfolding SaysTitle after stmt_option item_option named_stmt_of Stops Says Gives Takes Passes Opens can_begin is_in apart within
optional_stmt_3 k ts at h1 = (_, refl, u.right h1 u.empty)

pub ruleset optional_stmt_arms = (optional_stmt_1, optional_stmt_2, optional_stmt_3, gives_no_memory)

pub stmt_1 : (k : ℕ) (ts : List Token) (at : ℕ) (s : Stop) → can_begin (one t.Name) ts at ≡ true →
    Takes (one t.Name) named ts at (Err s) → Says n.Stmt k ts at (Err s)
unfolding SaysTitle after stmt_option item_option named_stmt_of Stops Says Gives Takes Passes Opens can_begin is_in apart within
stmt_1 k ts at s h1 h2 = stops_as ts at at s (λ why rest q. u.call_stop (u.left_stop h1 (u.seq_first q))) (h2 k)

pub stmt_2 : (k : ℕ) (ts : List Token) (at : ℕ) (root : Named) (next : ℕ) (s : Stop) →
    can_begin (one t.Name) ts at ≡ true → Takes (one t.Name) named ts at (Ok (root, next)) →
    Gives (cut n.StmtRest) (named_stmt_of root) k ts next (Err s) → Says n.Stmt k ts at (Err s)
unfolding SaysTitle after stmt_option item_option named_stmt_of Stops Says Gives Takes Passes Opens can_begin is_in apart within
stmt_2 k ts at root next s h1 h2 h3 =
    stops_as ts next at s (λ why rest q. u.call_stop (u.left_stop h1 (u.seq_second (h2.2 k) q))) h3

pub stmt_3 : (k : ℕ) (ts : List Token) (at : ℕ) (root : Named) (next : ℕ) (x : Stmt) (end : ℕ) →
    can_begin (one t.Name) ts at ≡ true → Takes (one t.Name) named ts at (Ok (root, next)) →
    Gives (cut n.StmtRest) (named_stmt_of root) k ts next (Ok (x, end)) → Says n.Stmt k ts at (Ok (x, end))
unfolding SaysTitle after stmt_option item_option named_stmt_of Stops Says Gives Takes Passes Opens can_begin is_in apart within
stmt_3 k ts at root next x end h1 h2 h3 =
    u.call (h3.1 ∙ ap (λ z. named_stmt_of z h3.0) h2.1 ∙ stmt_named h2.0 h3.0) (u.left h1 (u.seq (h2.2 k) h3.2))

pub stmt_4 : (k : ℕ) (ts : List Token) (at : ℕ) (s : Stop) → can_begin (one t.Name) ts at ≡ false →
    can_begin (one t.Clear) ts at ≡ true → Says n.Place k ts (at + 1) (Err s) → Says n.Stmt k ts at (Err s)
unfolding SaysTitle after stmt_option item_option named_stmt_of Stops Says Gives Takes Passes Opens can_begin is_in apart within
stmt_4 k ts at s h1 h2 h3 =
    let w1 = token_here t.Clear ts at h2 in
    stops_as ts (at + 1) at s (λ why rest q. u.call_stop (u.right_stop (excluded (one t.Clear) (one t.Name) ts at h2 refl) (u.left_stop h2 (u.seq_second (u.token w1.1 w1.2) q)))) h3

pub stmt_5 : (k : ℕ) (ts : List Token) (at : ℕ) (to : Designator) (end : ℕ) → can_begin (one t.Name) ts at ≡ false →
    can_begin (one t.Clear) ts at ≡ true → Says n.Place k ts (at + 1) (Ok (to, end)) →
    Says n.Stmt k ts at (Ok (s.Clear to (place_of (drop at ts)), end))
unfolding SaysTitle after stmt_option item_option named_stmt_of Stops Says Gives Takes Passes Opens can_begin is_in apart within
stmt_5 k ts at to end h1 h2 h3 =
    let w1 = token_here t.Clear ts at h2 in
    u.call (ap (λ z. (s.Clear to (place_of z))) w1.1) (u.right (excluded (one t.Clear) (one t.Name) ts at h2 refl) (u.left h2 (u.seq (u.token w1.1 w1.2) h3)))

pub stmt_6 : (k : ℕ) (ts : List Token) (at : ℕ) (s : Stop) → can_begin (one t.Name) ts at ≡ false →
    can_begin (one t.Clear) ts at ≡ false → can_begin (one t.Undefine) ts at ≡ true →
    Says n.Place k ts (at + 1) (Err s) → Says n.Stmt k ts at (Err s)
unfolding SaysTitle after stmt_option item_option named_stmt_of Stops Says Gives Takes Passes Opens can_begin is_in apart within
stmt_6 k ts at s h1 h2 h3 h4 =
    let w1 = token_here t.Undefine ts at h3 in
    stops_as ts (at + 1) at s (λ why rest q. u.call_stop (u.right_stop (excluded (one t.Undefine) (one t.Name) ts at h3 refl) (u.right_stop (excluded (one t.Undefine) (one t.Clear) ts at h3 refl) (u.left_stop h3 (u.seq_second (u.token w1.1 w1.2) q))))) h4

pub stmt_7 : (k : ℕ) (ts : List Token) (at : ℕ) (to : Designator) (end : ℕ) → can_begin (one t.Name) ts at ≡ false →
    can_begin (one t.Clear) ts at ≡ false → can_begin (one t.Undefine) ts at ≡ true →
    Says n.Place k ts (at + 1) (Ok (to, end)) →
    Says n.Stmt k ts at (Ok (s.Undefine to (place_of (drop at ts)), end))
unfolding SaysTitle after stmt_option item_option named_stmt_of Stops Says Gives Takes Passes Opens can_begin is_in apart within
stmt_7 k ts at to end h1 h2 h3 h4 =
    let w1 = token_here t.Undefine ts at h3 in
    u.call (ap (λ z. (s.Undefine to (place_of z))) w1.1) (u.right (excluded (one t.Undefine) (one t.Name) ts at h3 refl) (u.right (excluded (one t.Undefine) (one t.Clear) ts at h3 refl) (u.left h3 (u.seq (u.token w1.1 w1.2) h4))))

pub stmt_8 : (k : ℕ) (ts : List Token) (at : ℕ) (r : Result (Stmt × ℕ) Stop) →
    can_begin (one t.Name) ts at ≡ false → can_begin (one t.Clear) ts at ≡ false →
    can_begin (one t.Undefine) ts at ≡ false → can_begin (one t.If) ts at ≡ true → Gives if_form if_of k ts at r →
    Says n.Stmt k ts at r
unfolding SaysTitle after stmt_option item_option named_stmt_of Stops Says Gives Takes Passes Opens can_begin is_in apart within
stmt_8 k ts at (Ok (x, next)) h1 h2 h3 h4 h5 =
    u.call h5.1 (u.right (excluded (one t.If) (one t.Name) ts at h4 refl) (u.right (excluded (one t.If) (one t.Clear) ts at h4 refl) (u.right (excluded (one t.If) (one t.Undefine) ts at h4 refl) (u.left h4 h5.2))))
stmt_8 k ts at (Err s) h1 h2 h3 h4 h5 =
    stops_as ts at at s (λ why rest q. u.call_stop (u.right_stop (excluded (one t.If) (one t.Name) ts at h4 refl) (u.right_stop (excluded (one t.If) (one t.Clear) ts at h4 refl) (u.right_stop (excluded (one t.If) (one t.Undefine) ts at h4 refl) (u.left_stop h4 q))))) h5

pub stmt_9 : (k : ℕ) (ts : List Token) (at : ℕ) (r : Result (Stmt × ℕ) Stop) →
    can_begin (one t.Name) ts at ≡ false → can_begin (one t.Clear) ts at ≡ false →
    can_begin (one t.Undefine) ts at ≡ false → can_begin (one t.If) ts at ≡ false →
    can_begin (one t.Switch) ts at ≡ true → Gives switch_form switch_of k ts at r → Says n.Stmt k ts at r
unfolding SaysTitle after stmt_option item_option named_stmt_of Stops Says Gives Takes Passes Opens can_begin is_in apart within
stmt_9 k ts at (Ok (x, next)) h1 h2 h3 h4 h5 h6 =
    u.call h6.1 (u.right (excluded (one t.Switch) (one t.Name) ts at h5 refl) (u.right (excluded (one t.Switch) (one t.Clear) ts at h5 refl) (u.right (excluded (one t.Switch) (one t.Undefine) ts at h5 refl) (u.right (excluded (one t.Switch) (one t.If) ts at h5 refl) (u.left h5 h6.2)))))
stmt_9 k ts at (Err s) h1 h2 h3 h4 h5 h6 =
    stops_as ts at at s (λ why rest q. u.call_stop (u.right_stop (excluded (one t.Switch) (one t.Name) ts at h5 refl) (u.right_stop (excluded (one t.Switch) (one t.Clear) ts at h5 refl) (u.right_stop (excluded (one t.Switch) (one t.Undefine) ts at h5 refl) (u.right_stop (excluded (one t.Switch) (one t.If) ts at h5 refl) (u.left_stop h5 q)))))) h6

pub stmt_10 : (k : ℕ) (ts : List Token) (at : ℕ) (r : Result (Stmt × ℕ) Stop) →
    can_begin (one t.Name) ts at ≡ false → can_begin (one t.Clear) ts at ≡ false →
    can_begin (one t.Undefine) ts at ≡ false → can_begin (one t.If) ts at ≡ false →
    can_begin (one t.Switch) ts at ≡ false → can_begin (one t.For) ts at ≡ true → Gives for_form for_of k ts at r →
    Says n.Stmt k ts at r
unfolding SaysTitle after stmt_option item_option named_stmt_of Stops Says Gives Takes Passes Opens can_begin is_in apart within
stmt_10 k ts at (Ok (x, next)) h1 h2 h3 h4 h5 h6 h7 =
    u.call h7.1 (u.right (excluded (one t.For) (one t.Name) ts at h6 refl) (u.right (excluded (one t.For) (one t.Clear) ts at h6 refl) (u.right (excluded (one t.For) (one t.Undefine) ts at h6 refl) (u.right (excluded (one t.For) (one t.If) ts at h6 refl) (u.right (excluded (one t.For) (one t.Switch) ts at h6 refl) (u.left h6 h7.2))))))
stmt_10 k ts at (Err s) h1 h2 h3 h4 h5 h6 h7 =
    stops_as ts at at s (λ why rest q. u.call_stop (u.right_stop (excluded (one t.For) (one t.Name) ts at h6 refl) (u.right_stop (excluded (one t.For) (one t.Clear) ts at h6 refl) (u.right_stop (excluded (one t.For) (one t.Undefine) ts at h6 refl) (u.right_stop (excluded (one t.For) (one t.If) ts at h6 refl) (u.right_stop (excluded (one t.For) (one t.Switch) ts at h6 refl) (u.left_stop h6 q))))))) h7

pub stmt_11 : (k : ℕ) (ts : List Token) (at : ℕ) (r : Result (Stmt × ℕ) Stop) →
    can_begin (one t.Name) ts at ≡ false → can_begin (one t.Clear) ts at ≡ false →
    can_begin (one t.Undefine) ts at ≡ false → can_begin (one t.If) ts at ≡ false →
    can_begin (one t.Switch) ts at ≡ false → can_begin (one t.For) ts at ≡ false →
    Gives simple_form simple_of k ts at r → Says n.Stmt k ts at r
unfolding SaysTitle after stmt_option item_option named_stmt_of Stops Says Gives Takes Passes Opens can_begin is_in apart within
stmt_11 k ts at (Ok (x, next)) h1 h2 h3 h4 h5 h6 h7 =
    u.call h7.1 (u.right h1 (u.right h2 (u.right h3 (u.right h4 (u.right h5 (u.right h6 h7.2))))))
stmt_11 k ts at (Err s) h1 h2 h3 h4 h5 h6 h7 =
    stops_as ts at at s (λ why rest q. u.call_stop (u.right_stop h1 (u.right_stop h2 (u.right_stop h3 (u.right_stop h4 (u.right_stop h5 (u.right_stop h6 q))))))) h7

pub ruleset stmt_arms = (
  stmt_1,
  stmt_2,
  stmt_3,
  stmt_4,
  stmt_5,
  stmt_6,
  stmt_7,
  stmt_8,
  stmt_9,
  stmt_10,
  stmt_11,
  no_memory,
)

pub if_1 : (k : ℕ) (ts : List Token) (at : ℕ) (s : Stop) → Opens t.If k ts at (Err s) →
    Gives if_form if_of k ts at (Err s)
unfolding SaysTitle after stmt_option item_option named_stmt_of Stops Says Gives Takes Passes Opens can_begin is_in apart within
if_1 k ts at s h1 = stops_as ts at at s (λ why rest q. q) (h1 _)

pub if_2 : (k : ℕ) (ts : List Token) (at : ℕ) (m : ℕ) (s : Stop) → Opens t.If k ts at (Ok m) →
    Says (n.Cut n.IfArm) m ts (at + 1) (Err s) → Gives if_form if_of k ts at (Err s)
unfolding SaysTitle after stmt_option item_option named_stmt_of Stops Says Gives Takes Passes Opens can_begin is_in apart within
if_2 k ts at m s h1 h2 =
    let w1 = token_here t.If ts at h1.0 in
    stops_as ts (at + 1) at s (λ why rest q. u.nest_stop w1.1 w1.2 (inside k m h1.1) (u.seq_first q)) h2

pub if_3 : (k : ℕ) (ts : List Token) (at : ℕ) (m : ℕ) (arm : Arm) (next : ℕ) (s : Stop) →
    Opens t.If k ts at (Ok m) → Says (n.Cut n.IfArm) m ts (at + 1) (Ok (arm, next)) →
    Gives (cut n.MoreArms) (after (arm ∷ [])) m ts next (Err s) → Gives if_form if_of k ts at (Err s)
unfolding SaysTitle after stmt_option item_option named_stmt_of Stops Says Gives Takes Passes Opens can_begin is_in apart within
if_3 k ts at m arm next s h1 h2 h3 =
    let w1 = token_here t.If ts at h1.0 in
    stops_as ts next at s (λ why rest q. u.nest_stop w1.1 w1.2 (inside k m h1.1) (u.seq_second h2 (u.seq_first q))) h3

pub if_4 :
    (k : ℕ) (ts : List Token) (at : ℕ) (m : ℕ) (arm : Arm) (next : ℕ) (arms : List Arm) (behind : ℕ) (s : Stop) →
    Opens t.If k ts at (Ok m) → Says (n.Cut n.IfArm) m ts (at + 1) (Ok (arm, next)) →
    Gives (cut n.MoreArms) (after (arm ∷ [])) m ts next (Ok (arms, behind)) →
    Says (n.Cut n.Otherwise) m ts behind (Err s) → Gives if_form if_of k ts at (Err s)
unfolding SaysTitle after stmt_option item_option named_stmt_of Stops Says Gives Takes Passes Opens can_begin is_in apart within
if_4 k ts at m arm next arms behind s h1 h2 h3 h4 =
    let w1 = token_here t.If ts at h1.0 in
    stops_as ts behind at s (λ why rest q. u.nest_stop w1.1 w1.2 (inside k m h1.1) (u.seq_second h2 (u.seq_second h3.2 (u.seq_first q)))) h4

pub if_5 :
    (k : ℕ) (ts : List Token) (at : ℕ) (m : ℕ) (arm : Arm) (next : ℕ) (arms : List Arm) (behind : ℕ) (last : List Stmt) (word : ℕ) (s : Stop) →
    Opens t.If k ts at (Ok m) → Says (n.Cut n.IfArm) m ts (at + 1) (Ok (arm, next)) →
    Gives (cut n.MoreArms) (after (arm ∷ [])) m ts next (Ok (arms, behind)) →
    Says (n.Cut n.Otherwise) m ts behind (Ok (last, word)) → Passes (ending t.EndIf) ts word (Err s) →
    Gives if_form if_of k ts at (Err s)
unfolding SaysTitle after stmt_option item_option named_stmt_of Stops Says Gives Takes Passes Opens can_begin is_in apart within
if_5 k ts at m arm next arms behind last word s h1 h2 h3 h4 h5 =
    let w1 = token_here t.If ts at h1.0 in
    stops_as ts word at s (λ why rest q. u.nest_stop w1.1 w1.2 (inside k m h1.1) (u.seq_second h2 (u.seq_second h3.2 (u.seq_second h4 q)))) (h5 m)

pub if_6 :
    (k : ℕ) (ts : List Token) (at : ℕ) (m : ℕ) (arm : Arm) (next : ℕ) (arms : List Arm) (behind : ℕ) (last : List Stmt) (word : ℕ) (end : ℕ) →
    Opens t.If k ts at (Ok m) → Says (n.Cut n.IfArm) m ts (at + 1) (Ok (arm, next)) →
    Gives (cut n.MoreArms) (after (arm ∷ [])) m ts next (Ok (arms, behind)) →
    Says (n.Cut n.Otherwise) m ts behind (Ok (last, word)) → Passes (ending t.EndIf) ts word (Ok end) →
    Gives if_form if_of k ts at (Ok (s.If arms last (place_of (drop at ts)), end))
unfolding SaysTitle after stmt_option item_option named_stmt_of Stops Says Gives Takes Passes Opens can_begin is_in apart within
if_6 k ts at m arm next arms behind last word end h1 h2 h3 h4 h5 =
    let w1 = token_here t.If ts at h1.0 in
    (_, ap (λ z. (s.If arms last (place_of z))) w1.1 ∙ ap (λ z. (s.If z last (w1.0).at)) h3.1, u.nest w1.1 w1.2 (inside k m h1.1) (u.seq h2 (u.seq h3.2 (u.seq h4 (h5.1 m)))))

pub ruleset if_arms = (if_1, if_2, if_3, if_4, if_5, if_6, gives_no_memory)

pub arm_1 : (k : ℕ) (ts : List Token) (at : ℕ) (s : Stop) → Says n.Expr k ts at (Err s) →
    Says (n.Cut n.IfArm) k ts at (Err s)
unfolding SaysTitle after stmt_option item_option named_stmt_of Stops Says Gives Takes Passes Opens can_begin is_in apart within
arm_1 k ts at s h1 = stops_as ts at at s (λ why rest q. u.call_stop (u.seq_first q)) h1

pub arm_2 : (k : ℕ) (ts : List Token) (at : ℕ) (test : Expr) (next : ℕ) (s : Stop) →
    Says n.Expr k ts at (Ok (test, next)) → Passes (one t.Then) ts next (Err s) →
    Says (n.Cut n.IfArm) k ts at (Err s)
unfolding SaysTitle after stmt_option item_option named_stmt_of Stops Says Gives Takes Passes Opens can_begin is_in apart within
arm_2 k ts at test next s h1 h2 =
    stops_as ts next at s (λ why rest q. u.call_stop (u.seq_second h1 (u.seq_first q))) (h2 k)

pub arm_3 : (k : ℕ) (ts : List Token) (at : ℕ) (test : Expr) (next : ℕ) (behind : ℕ) (s : Stop) →
    Says n.Expr k ts at (Ok (test, next)) → Passes (one t.Then) ts next (Ok behind) →
    Says n.Stmts k ts behind (Err s) → Says (n.Cut n.IfArm) k ts at (Err s)
unfolding SaysTitle after stmt_option item_option named_stmt_of Stops Says Gives Takes Passes Opens can_begin is_in apart within
arm_3 k ts at test next behind s h1 h2 h3 =
    stops_as ts behind at s (λ why rest q. u.call_stop (u.seq_second h1 (u.seq_second (h2.1 k) q))) h3

pub arm_4 : (k : ℕ) (ts : List Token) (at : ℕ) (test : Expr) (next : ℕ) (behind : ℕ) (body : List Stmt) (end : ℕ) →
    Says n.Expr k ts at (Ok (test, next)) → Passes (one t.Then) ts next (Ok behind) →
    Says n.Stmts k ts behind (Ok (body, end)) →
    Says (n.Cut n.IfArm) k ts at (Ok (record { test = test; body = body }, end))
unfolding SaysTitle after stmt_option item_option named_stmt_of Stops Says Gives Takes Passes Opens can_begin is_in apart within
arm_4 k ts at test next behind body end h1 h2 h3 = u.call refl (u.seq h1 (u.seq (h2.1 k) h3))

pub ruleset arm_arms = (arm_1, arm_2, arm_3, arm_4, no_memory)

pub otherwise_1 : (k : ℕ) (ts : List Token) (at : ℕ) (s : Stop) → can_begin (one t.Else) ts at ≡ true →
    Says n.Stmts k ts (at + 1) (Err s) → Says (n.Cut n.Otherwise) k ts at (Err s)
unfolding SaysTitle after stmt_option item_option named_stmt_of Stops Says Gives Takes Passes Opens can_begin is_in apart within
otherwise_1 k ts at s h1 h2 =
    let w1 = token_here t.Else ts at h1 in
    stops_as ts (at + 1) at s (λ why rest q. u.call_stop (u.left_stop h1 (u.seq_second (u.token w1.1 w1.2) q))) h2

pub otherwise_2 : (k : ℕ) (ts : List Token) (at : ℕ) (body : List Stmt) (end : ℕ) →
    can_begin (one t.Else) ts at ≡ true → Says n.Stmts k ts (at + 1) (Ok (body, end)) →
    Says (n.Cut n.Otherwise) k ts at (Ok (body, end))
unfolding SaysTitle after stmt_option item_option named_stmt_of Stops Says Gives Takes Passes Opens can_begin is_in apart within
otherwise_2 k ts at body end h1 h2 =
    let w1 = token_here t.Else ts at h1 in
    u.call refl (u.left h1 (u.seq (u.token w1.1 w1.2) h2))

pub otherwise_3 : (k : ℕ) (ts : List Token) (at : ℕ) → can_begin (one t.Else) ts at ≡ false →
    Says (n.Cut n.Otherwise) k ts at (Ok ([], at))
unfolding SaysTitle after stmt_option item_option named_stmt_of Stops Says Gives Takes Passes Opens can_begin is_in apart within
otherwise_3 k ts at h1 = u.call refl (u.right h1 u.empty)

pub ruleset otherwise_arms = (otherwise_1, otherwise_2, otherwise_3, no_memory)

pub switch_1 : (k : ℕ) (ts : List Token) (at : ℕ) (s : Stop) → Opens t.Switch k ts at (Err s) →
    Gives switch_form switch_of k ts at (Err s)
unfolding SaysTitle after stmt_option item_option named_stmt_of Stops Says Gives Takes Passes Opens can_begin is_in apart within
switch_1 k ts at s h1 = stops_as ts at at s (λ why rest q. q) (h1 _)

pub switch_2 : (k : ℕ) (ts : List Token) (at : ℕ) (m : ℕ) (s : Stop) → Opens t.Switch k ts at (Ok m) →
    Says n.Expr m ts (at + 1) (Err s) → Gives switch_form switch_of k ts at (Err s)
unfolding SaysTitle after stmt_option item_option named_stmt_of Stops Says Gives Takes Passes Opens can_begin is_in apart within
switch_2 k ts at m s h1 h2 =
    let w1 = token_here t.Switch ts at h1.0 in
    stops_as ts (at + 1) at s (λ why rest q. u.nest_stop w1.1 w1.2 (inside k m h1.1) (u.seq_first q)) h2

pub switch_3 : (k : ℕ) (ts : List Token) (at : ℕ) (m : ℕ) (x : Expr) (next : ℕ) (s : Stop) →
    Opens t.Switch k ts at (Ok m) → Says n.Expr m ts (at + 1) (Ok (x, next)) →
    Says (n.Cut n.Cases) m ts next (Err s) → Gives switch_form switch_of k ts at (Err s)
unfolding SaysTitle after stmt_option item_option named_stmt_of Stops Says Gives Takes Passes Opens can_begin is_in apart within
switch_3 k ts at m x next s h1 h2 h3 =
    let w1 = token_here t.Switch ts at h1.0 in
    stops_as ts next at s (λ why rest q. u.nest_stop w1.1 w1.2 (inside k m h1.1) (u.seq_second h2 (u.seq_first q))) h3

pub switch_4 :
    (k : ℕ) (ts : List Token) (at : ℕ) (m : ℕ) (x : Expr) (next : ℕ) (cases : List Case) (behind : ℕ) (s : Stop) →
    Opens t.Switch k ts at (Ok m) → Says n.Expr m ts (at + 1) (Ok (x, next)) →
    Says (n.Cut n.Cases) m ts next (Ok (cases, behind)) → Says (n.Cut n.Otherwise) m ts behind (Err s) →
    Gives switch_form switch_of k ts at (Err s)
unfolding SaysTitle after stmt_option item_option named_stmt_of Stops Says Gives Takes Passes Opens can_begin is_in apart within
switch_4 k ts at m x next cases behind s h1 h2 h3 h4 =
    let w1 = token_here t.Switch ts at h1.0 in
    stops_as ts behind at s (λ why rest q. u.nest_stop w1.1 w1.2 (inside k m h1.1) (u.seq_second h2 (u.seq_second h3 (u.seq_first q)))) h4

pub switch_5 :
    (k : ℕ) (ts : List Token) (at : ℕ) (m : ℕ) (x : Expr) (next : ℕ) (cases : List Case) (behind : ℕ) (last : List Stmt) (word : ℕ) (s : Stop) →
    Opens t.Switch k ts at (Ok m) → Says n.Expr m ts (at + 1) (Ok (x, next)) →
    Says (n.Cut n.Cases) m ts next (Ok (cases, behind)) → Says (n.Cut n.Otherwise) m ts behind (Ok (last, word)) →
    Passes (ending t.EndSwitch) ts word (Err s) → Gives switch_form switch_of k ts at (Err s)
unfolding SaysTitle after stmt_option item_option named_stmt_of Stops Says Gives Takes Passes Opens can_begin is_in apart within
switch_5 k ts at m x next cases behind last word s h1 h2 h3 h4 h5 =
    let w1 = token_here t.Switch ts at h1.0 in
    stops_as ts word at s (λ why rest q. u.nest_stop w1.1 w1.2 (inside k m h1.1) (u.seq_second h2 (u.seq_second h3 (u.seq_second h4 q)))) (h5 m)

pub switch_6 :
    (k : ℕ) (ts : List Token) (at : ℕ) (m : ℕ) (x : Expr) (next : ℕ) (cases : List Case) (behind : ℕ) (last : List Stmt) (word : ℕ) (end : ℕ) →
    Opens t.Switch k ts at (Ok m) → Says n.Expr m ts (at + 1) (Ok (x, next)) →
    Says (n.Cut n.Cases) m ts next (Ok (cases, behind)) → Says (n.Cut n.Otherwise) m ts behind (Ok (last, word)) →
    Passes (ending t.EndSwitch) ts word (Ok end) →
    Gives switch_form switch_of k ts at (Ok (s.Switch x cases last (place_of (drop at ts)), end))
unfolding SaysTitle after stmt_option item_option named_stmt_of Stops Says Gives Takes Passes Opens can_begin is_in apart within
switch_6 k ts at m x next cases behind last word end h1 h2 h3 h4 h5 =
    let w1 = token_here t.Switch ts at h1.0 in
    (_, ap (λ z. (s.Switch x cases last (place_of z))) w1.1, u.nest w1.1 w1.2 (inside k m h1.1) (u.seq h2 (u.seq h3 (u.seq h4 (h5.1 m)))))

pub ruleset switch_arms = (switch_1, switch_2, switch_3, switch_4, switch_5, switch_6, gives_no_memory)

pub case_1 : (k : ℕ) (ts : List Token) (at : ℕ) (s : Stop) → Passes (one t.Case) ts at (Err s) →
    Says (n.Cut n.CaseArm) k ts at (Err s)
unfolding SaysTitle after stmt_option item_option named_stmt_of Stops Says Gives Takes Passes Opens can_begin is_in apart within
case_1 k ts at s h1 = stops_as ts at at s (λ why rest q. u.call_stop (u.seq_first q)) (h1 k)

pub case_2 : (k : ℕ) (ts : List Token) (at : ℕ) (next : ℕ) (s : Stop) → Passes (one t.Case) ts at (Ok next) →
    Says n.Implies k ts next (Err s) → Says (n.Cut n.CaseArm) k ts at (Err s)
unfolding SaysTitle after stmt_option item_option named_stmt_of Stops Says Gives Takes Passes Opens can_begin is_in apart within
case_2 k ts at next s h1 h2 =
    stops_as ts next at s (λ why rest q. u.call_stop (u.seq_second (h1.1 k) (u.seq_first q))) h2

pub case_3 : (k : ℕ) (ts : List Token) (at : ℕ) (next : ℕ) (x : Expr) (behind : ℕ) (s : Stop) →
    Passes (one t.Case) ts at (Ok next) → Says n.Implies k ts next (Ok (x, behind)) →
    Gives (cut n.MoreLabels) (after (x ∷ [])) k ts behind (Err s) → Says (n.Cut n.CaseArm) k ts at (Err s)
unfolding SaysTitle after stmt_option item_option named_stmt_of Stops Says Gives Takes Passes Opens can_begin is_in apart within
case_3 k ts at next x behind s h1 h2 h3 =
    stops_as ts behind at s (λ why rest q. u.call_stop (u.seq_second (h1.1 k) (u.seq_second h2 (u.seq_first q)))) h3

pub case_4 :
    (k : ℕ) (ts : List Token) (at : ℕ) (next : ℕ) (x : Expr) (behind : ℕ) (xs : List Expr) (colon : ℕ) (s : Stop) →
    Passes (one t.Case) ts at (Ok next) → Says n.Implies k ts next (Ok (x, behind)) →
    Gives (cut n.MoreLabels) (after (x ∷ [])) k ts behind (Ok (xs, colon)) → Passes (one t.Colon) ts colon (Err s) →
    Says (n.Cut n.CaseArm) k ts at (Err s)
unfolding SaysTitle after stmt_option item_option named_stmt_of Stops Says Gives Takes Passes Opens can_begin is_in apart within
case_4 k ts at next x behind xs colon s h1 h2 h3 h4 =
    stops_as ts colon at s (λ why rest q. u.call_stop (u.seq_second (h1.1 k) (u.seq_second h2 (u.seq_second h3.2 (u.seq_first q))))) (h4 k)

pub case_5 :
    (k : ℕ) (ts : List Token) (at : ℕ) (next : ℕ) (x : Expr) (behind : ℕ) (xs : List Expr) (colon : ℕ) (last : ℕ) (s : Stop) →
    Passes (one t.Case) ts at (Ok next) → Says n.Implies k ts next (Ok (x, behind)) →
    Gives (cut n.MoreLabels) (after (x ∷ [])) k ts behind (Ok (xs, colon)) →
    Passes (one t.Colon) ts colon (Ok last) → Says n.Stmts k ts last (Err s) →
    Says (n.Cut n.CaseArm) k ts at (Err s)
unfolding SaysTitle after stmt_option item_option named_stmt_of Stops Says Gives Takes Passes Opens can_begin is_in apart within
case_5 k ts at next x behind xs colon last s h1 h2 h3 h4 h5 =
    stops_as ts last at s (λ why rest q. u.call_stop (u.seq_second (h1.1 k) (u.seq_second h2 (u.seq_second h3.2 (u.seq_second (h4.1 k) q))))) h5

pub case_6 :
    (k : ℕ) (ts : List Token) (at : ℕ) (next : ℕ) (x : Expr) (behind : ℕ) (xs : List Expr) (colon : ℕ) (last : ℕ) (body : List Stmt) (end : ℕ) →
    Passes (one t.Case) ts at (Ok next) → Says n.Implies k ts next (Ok (x, behind)) →
    Gives (cut n.MoreLabels) (after (x ∷ [])) k ts behind (Ok (xs, colon)) →
    Passes (one t.Colon) ts colon (Ok last) → Says n.Stmts k ts last (Ok (body, end)) →
    Says (n.Cut n.CaseArm) k ts at (Ok (record { labels = xs; body = body }, end))
unfolding SaysTitle after stmt_option item_option named_stmt_of Stops Says Gives Takes Passes Opens can_begin is_in apart within
case_6 k ts at next x behind xs colon last body end h1 h2 h3 h4 h5 =
    u.call (ap (λ z. (record { labels = z; body = body })) h3.1) (u.seq (h1.1 k) (u.seq h2 (u.seq h3.2 (u.seq (h4.1 k) h5))))

pub ruleset case_arms = (case_1, case_2, case_3, case_4, case_5, case_6, no_memory)

pub for_1 : (k : ℕ) (ts : List Token) (at : ℕ) (s : Stop) → Opens t.For k ts at (Err s) →
    Gives for_form for_of k ts at (Err s)
unfolding SaysTitle after stmt_option item_option named_stmt_of Stops Says Gives Takes Passes Opens can_begin is_in apart within
for_1 k ts at s h1 = stops_as ts at at s (λ why rest q. q) (h1 _)

pub for_2 : (k : ℕ) (ts : List Token) (at : ℕ) (m : ℕ) (s : Stop) → Opens t.For k ts at (Ok m) →
    Says n.Bind m ts (at + 1) (Err s) → Gives for_form for_of k ts at (Err s)
unfolding SaysTitle after stmt_option item_option named_stmt_of Stops Says Gives Takes Passes Opens can_begin is_in apart within
for_2 k ts at m s h1 h2 =
    let w1 = token_here t.For ts at h1.0 in
    stops_as ts (at + 1) at s (λ why rest q. u.nest_stop w1.1 w1.2 (inside k m h1.1) (u.seq_first q)) h2

pub for_3 : (k : ℕ) (ts : List Token) (at : ℕ) (m : ℕ) (bind : Bind) (next : ℕ) (s : Stop) →
    Opens t.For k ts at (Ok m) → Says n.Bind m ts (at + 1) (Ok (bind, next)) → Passes (one t.Do) ts next (Err s) →
    Gives for_form for_of k ts at (Err s)
unfolding SaysTitle after stmt_option item_option named_stmt_of Stops Says Gives Takes Passes Opens can_begin is_in apart within
for_3 k ts at m bind next s h1 h2 h3 =
    let w1 = token_here t.For ts at h1.0 in
    stops_as ts next at s (λ why rest q. u.nest_stop w1.1 w1.2 (inside k m h1.1) (u.seq_second h2 (u.seq_first q))) (h3 m)

pub for_4 : (k : ℕ) (ts : List Token) (at : ℕ) (m : ℕ) (bind : Bind) (next : ℕ) (behind : ℕ) (s : Stop) →
    Opens t.For k ts at (Ok m) → Says n.Bind m ts (at + 1) (Ok (bind, next)) →
    Passes (one t.Do) ts next (Ok behind) → Says n.Stmts m ts behind (Err s) → Gives for_form for_of k ts at (Err s)
unfolding SaysTitle after stmt_option item_option named_stmt_of Stops Says Gives Takes Passes Opens can_begin is_in apart within
for_4 k ts at m bind next behind s h1 h2 h3 h4 =
    let w1 = token_here t.For ts at h1.0 in
    stops_as ts behind at s (λ why rest q. u.nest_stop w1.1 w1.2 (inside k m h1.1) (u.seq_second h2 (u.seq_second (h3.1 m) (u.seq_first q)))) h4

pub for_5 :
    (k : ℕ) (ts : List Token) (at : ℕ) (m : ℕ) (bind : Bind) (next : ℕ) (behind : ℕ) (body : List Stmt) (last : ℕ) (s : Stop) →
    Opens t.For k ts at (Ok m) → Says n.Bind m ts (at + 1) (Ok (bind, next)) →
    Passes (one t.Do) ts next (Ok behind) → Says n.Stmts m ts behind (Ok (body, last)) →
    Passes (ending t.EndFor) ts last (Err s) → Gives for_form for_of k ts at (Err s)
unfolding SaysTitle after stmt_option item_option named_stmt_of Stops Says Gives Takes Passes Opens can_begin is_in apart within
for_5 k ts at m bind next behind body last s h1 h2 h3 h4 h5 =
    let w1 = token_here t.For ts at h1.0 in
    stops_as ts last at s (λ why rest q. u.nest_stop w1.1 w1.2 (inside k m h1.1) (u.seq_second h2 (u.seq_second (h3.1 m) (u.seq_second h4 q)))) (h5 m)

pub for_6 :
    (k : ℕ) (ts : List Token) (at : ℕ) (m : ℕ) (bind : Bind) (next : ℕ) (behind : ℕ) (body : List Stmt) (last : ℕ) (end : ℕ) →
    Opens t.For k ts at (Ok m) → Says n.Bind m ts (at + 1) (Ok (bind, next)) →
    Passes (one t.Do) ts next (Ok behind) → Says n.Stmts m ts behind (Ok (body, last)) →
    Passes (ending t.EndFor) ts last (Ok end) →
    Gives for_form for_of k ts at (Ok (s.For bind body (place_of (drop at ts)), end))
unfolding SaysTitle after stmt_option item_option named_stmt_of Stops Says Gives Takes Passes Opens can_begin is_in apart within
for_6 k ts at m bind next behind body last end h1 h2 h3 h4 h5 =
    let w1 = token_here t.For ts at h1.0 in
    (_, ap (λ z. (s.For bind body (place_of z))) w1.1, u.nest w1.1 w1.2 (inside k m h1.1) (u.seq h2 (u.seq (h3.1 m) (u.seq h4 (h5.1 m)))))

pub ruleset for_arms = (for_1, for_2, for_3, for_4, for_5, for_6, gives_no_memory)
