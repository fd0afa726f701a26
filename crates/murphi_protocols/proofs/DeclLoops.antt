-- One lemma for each way through the loops over declarations.
use Rattle.std.specs.Prelude.{Option, map}
use Rattle.std.proofs.Common.{inl, inr, ◌≡◌, ℕ, zero, suc, ◌+◌, Bool, true, false, List, [], ◌∷◌, ◌++◌, ◌⊎◌, drop, Some, None, Ok, Err, Result, refl, sym, ap, ◌∙◌, subst}
use Rattle.grammar_core.specs.Forms.{Call, Seq, Choice, Empty, TreeOf}
use Rattle.grammar_core.specs.Spelling.{Limit}
use Rattle.grammar_core.specs.Reading as read
use Rattle.grammar_core.specs.Reading.{Fault, Got}
use Rattle.grammar_core.specs.Test.{is_in, apart, within}
use Rattle.grammar_core.specs.Walk as u
use Rattle.grammar_core.specs.Walk.{Run}
use Rattle.murphi_ast.specs.declared.text.Text.{Text}
use Rattle.murphi_ast.specs.declared.token.Token.{Token}
use Rattle.murphi_ast.specs.declared.expr.Named.{Named}
use Rattle.murphi_ast.specs.declared.expr.Designator.{Designator}
use Rattle.murphi_ast.specs.declared.expr.Selector.{Selector}
use Rattle.murphi_ast.specs.declared.expr.Bind.{Bind}
use Rattle.murphi_ast.specs.declared.expr.TypeExpr.{TypeExpr}
use Rattle.murphi_ast.specs.declared.expr.Expr.{Expr}
use Rattle.murphi_ast.specs.declared.stmt.Stmt as s
use Rattle.murphi_ast.specs.declared.stmt.Stmt.{Stmt}
use Rattle.murphi_ast.specs.declared.stmt.Arm.{Arm}
use Rattle.murphi_ast.specs.declared.stmt.Case.{Case}
use Rattle.murphi_ast.specs.declared.decl.Decl as d
use Rattle.murphi_ast.specs.declared.decl.Decl.{Decl}
use Rattle.murphi_ast.specs.declared.decl.Formal.{Formal}
use Rattle.murphi_ast.specs.declared.rule.RuleDecl as r
use Rattle.murphi_ast.specs.declared.rule.RuleDecl.{RuleDecl}
use Rattle.murphi_ast.specs.declared.rule.Protocol.{Protocol}
use Rattle.murphi_grammar.specs.declared.symbol.Symbol.{Symbol}
use Rattle.murphi_grammar.specs.declared.symbol.Symbol.TheVariants as t
use Rattle.murphi_grammar.specs.Names as n
use Rattle.murphi_grammar.specs.Parts.{Part, ◌▸◌, ◌∥◌, one, form, many, optional, nest, ending, in_parentheses}
use Rattle.murphi_grammar.specs.Pieces.{cut, piece, piece_build}
use Rattle.murphi_grammar.specs.Values as v
use Rattle.murphi_grammar.specs.Values.{Value, named, seconds, present, joined, declared}
use Rattle.murphi_grammar.specs.Tables.{tables}
use Rattle.murphi_expressions.specs.Says.{Stops, Says, Gives, Takes, Passes, Opens, Enters, SoFar, can_begin, place_of, number_of, itself, with_front}
use Rattle.murphi_expressions.specs.declared.step.Stop.{Stop}
use Rattle.murphi_expressions.specs.declared.step.Stop.TheVariants.{Wrong, Deep, Memory}
use Rattle.murphi_expressions.proofs.Heads.{token_here}
use Rattle.murphi_expressions.proofs.Steps.{full, takes_no_memory}
use Rattle.murphi_expressions.proofs.Ways.{stops_as, inside, included, excluded, shrunk, no_memory, gives_no_memory, read_more, read_all, read_stops, renamed, said}
use Rattle.murphi_protocols.specs.Parts.{SaysTitle, constant_form, type_name_form, variables_form, after, added, option_of, stmt_option, item_option, decls_of, named_stmt_of, simple_form, simple_of, if_form, if_of, switch_form, switch_of, for_form, for_of, formal_rest, formal_of, procedure_form, procedure_of, function_form, function_of, group_form, group_of}
use Rattle.murphi_expressions.proofs.Ways.{with_none}
use Rattle.murphi_protocols.proofs.Fronts.{fronted, present_more}

pub constants_start : (k : ℕ) (ts : List Token) (at : ℕ) → SoFar (piece n.Constants) (piece_build n.Constants) (cut n.Constants) itself k ts at at []
unfolding SoFar
constants_start k ts at = λ r p. subst (λ z. Gives (cut n.Constants) itself k ts at z) (sym (with_none r)) (renamed (n.Cut n.Constants) k ts at r p)

pub constants_more : (k : ℕ) (ts : List Token) (from at : ℕ) (list : List Decl) (x : Decl) (next : ℕ) →
    SoFar (piece n.Constants) (piece_build n.Constants) (cut n.Constants) itself k ts from at list → can_begin (one t.Name) ts at ≡ true → Gives constant_form v.constant k ts at (Ok (x, next)) →
    SoFar (piece n.Constants) (piece_build n.Constants) (cut n.Constants) itself k ts from next (list ++ (x ∷ []))
unfolding SaysTitle after stmt_option item_option named_stmt_of Stops Says Gives Takes Passes Opens can_begin is_in apart within
constants_more k ts from at list x next so h p =
    read_more constant_form (piece_build n.Constants) (cut n.Constants) itself k ts from at next list (x ∷ []) p.0 so (λ xs. ap (λ z. z ∷ map v.constant xs) p.1) p.2

pub constants_done : (k : ℕ) (ts : List Token) (from at : ℕ) (list : List Decl) →
    SoFar (piece n.Constants) (piece_build n.Constants) (cut n.Constants) itself k ts from at list → can_begin (one t.Name) ts at ≡ false → Says (n.Cut n.Constants) k ts from (Ok (list, at))
unfolding SaysTitle after stmt_option item_option named_stmt_of Stops Says Gives Takes Passes Opens can_begin is_in apart within
constants_done k ts from at list so h = said (n.Cut n.Constants) k ts from (Ok (list, at)) (read_all constant_form (piece_build n.Constants) (cut n.Constants) itself k ts from at list so refl h)

pub constants_stop : (k : ℕ) (ts : List Token) (from at : ℕ) (list : List Decl) (s : Stop) →
    SoFar (piece n.Constants) (piece_build n.Constants) (cut n.Constants) itself k ts from at list → can_begin (one t.Name) ts at ≡ true → Gives constant_form v.constant k ts at (Err s) → Says (n.Cut n.Constants) k ts from (Err s)
unfolding SaysTitle after stmt_option item_option named_stmt_of Stops Says Gives Takes Passes Opens can_begin is_in apart within
constants_stop k ts from at list s so h p =
    said (n.Cut n.Constants) k ts from (Err s) (read_stops constant_form constant_form (piece_build n.Constants) (cut n.Constants) itself k k ts from at at list s so h (λ why rest q. q) p)

pub ruleset constants_arms = (constants_start, constants_more, constants_done, constants_stop, no_memory)

pub type_names_start : (k : ℕ) (ts : List Token) (at : ℕ) → SoFar (piece n.TypeNames) (piece_build n.TypeNames) (cut n.TypeNames) itself k ts at at []
unfolding SoFar
type_names_start k ts at = λ r p. subst (λ z. Gives (cut n.TypeNames) itself k ts at z) (sym (with_none r)) (renamed (n.Cut n.TypeNames) k ts at r p)

pub type_names_more : (k : ℕ) (ts : List Token) (from at : ℕ) (list : List Decl) (x : Decl) (next : ℕ) →
    SoFar (piece n.TypeNames) (piece_build n.TypeNames) (cut n.TypeNames) itself k ts from at list → can_begin (one t.Name) ts at ≡ true → Gives type_name_form v.type_name k ts at (Ok (x, next)) →
    SoFar (piece n.TypeNames) (piece_build n.TypeNames) (cut n.TypeNames) itself k ts from next (list ++ (x ∷ []))
unfolding SaysTitle after stmt_option item_option named_stmt_of Stops Says Gives Takes Passes Opens can_begin is_in apart within
type_names_more k ts from at list x next so h p =
    read_more type_name_form (piece_build n.TypeNames) (cut n.TypeNames) itself k ts from at next list (x ∷ []) p.0 so (λ xs. ap (λ z. z ∷ map v.type_name xs) p.1) p.2

pub type_names_done : (k : ℕ) (ts : List Token) (from at : ℕ) (list : List Decl) →
    SoFar (piece n.TypeNames) (piece_build n.TypeNames) (cut n.TypeNames) itself k ts from at list → can_begin (one t.Name) ts at ≡ false → Says (n.Cut n.TypeNames) k ts from (Ok (list, at))
unfolding SaysTitle after stmt_option item_option named_stmt_of Stops Says Gives Takes Passes Opens can_begin is_in apart within
type_names_done k ts from at list so h = said (n.Cut n.TypeNames) k ts from (Ok (list, at)) (read_all type_name_form (piece_build n.TypeNames) (cut n.TypeNames) itself k ts from at list so refl h)

pub type_names_stop : (k : ℕ) (ts : List Token) (from at : ℕ) (list : List Decl) (s : Stop) →
    SoFar (piece n.TypeNames) (piece_build n.TypeNames) (cut n.TypeNames) itself k ts from at list → can_begin (one t.Name) ts at ≡ true → Gives type_name_form v.type_name k ts at (Err s) → Says (n.Cut n.TypeNames) k ts from (Err s)
unfolding SaysTitle after stmt_option item_option named_stmt_of Stops Says Gives Takes Passes Opens can_begin is_in apart within
type_names_stop k ts from at list s so h p =
    said (n.Cut n.TypeNames) k ts from (Err s) (read_stops type_name_form type_name_form (piece_build n.TypeNames) (cut n.TypeNames) itself k k ts from at at list s so h (λ why rest q. q) p)

pub ruleset type_names_arms = (type_names_start, type_names_more, type_names_done, type_names_stop, no_memory)

pub variable_lists_start : (k : ℕ) (ts : List Token) (at : ℕ) → SoFar (piece n.VariableLists) (piece_build n.VariableLists) (cut n.VariableLists) itself k ts at at []
unfolding SoFar
variable_lists_start k ts at = λ r p. subst (λ z. Gives (cut n.VariableLists) itself k ts at z) (sym (with_none r)) (renamed (n.Cut n.VariableLists) k ts at r p)

pub variable_lists_more : (k : ℕ) (ts : List Token) (from at : ℕ) (list : List Decl) (x : Decl) (next : ℕ) →
    SoFar (piece n.VariableLists) (piece_build n.VariableLists) (cut n.VariableLists) itself k ts from at list → can_begin (one t.Name) ts at ≡ true → Gives variables_form v.variables k ts at (Ok (x, next)) →
    SoFar (piece n.VariableLists) (piece_build n.VariableLists) (cut n.VariableLists) itself k ts from next (list ++ (x ∷ []))
unfolding SaysTitle after stmt_option item_option named_stmt_of Stops Says Gives Takes Passes Opens can_begin is_in apart within
variable_lists_more k ts from at list x next so h p =
    read_more variables_form (piece_build n.VariableLists) (cut n.VariableLists) itself k ts from at next list (x ∷ []) p.0 so (λ xs. ap (λ z. z ∷ map v.variables xs) p.1) p.2

pub variable_lists_done : (k : ℕ) (ts : List Token) (from at : ℕ) (list : List Decl) →
    SoFar (piece n.VariableLists) (piece_build n.VariableLists) (cut n.VariableLists) itself k ts from at list → can_begin (one t.Name) ts at ≡ false → Says (n.Cut n.VariableLists) k ts from (Ok (list, at))
unfolding SaysTitle after stmt_option item_option named_stmt_of Stops Says Gives Takes Passes Opens can_begin is_in apart within
variable_lists_done k ts from at list so h = said (n.Cut n.VariableLists) k ts from (Ok (list, at)) (read_all variables_form (piece_build n.VariableLists) (cut n.VariableLists) itself k ts from at list so refl h)

pub variable_lists_stop : (k : ℕ) (ts : List Token) (from at : ℕ) (list : List Decl) (s : Stop) →
    SoFar (piece n.VariableLists) (piece_build n.VariableLists) (cut n.VariableLists) itself k ts from at list → can_begin (one t.Name) ts at ≡ true → Gives variables_form v.variables k ts at (Err s) → Says (n.Cut n.VariableLists) k ts from (Err s)
unfolding SaysTitle after stmt_option item_option named_stmt_of Stops Says Gives Takes Passes Opens can_begin is_in apart within
variable_lists_stop k ts from at list s so h p =
    said (n.Cut n.VariableLists) k ts from (Err s) (read_stops variables_form variables_form (piece_build n.VariableLists) (cut n.VariableLists) itself k k ts from at at list s so h (λ why rest q. q) p)

pub ruleset variable_lists_arms = (variable_lists_start, variable_lists_more, variable_lists_done, variable_lists_stop, no_memory)

pub locals_start : (k : ℕ) (ts : List Token) (at : ℕ) → SoFar (piece n.Locals) (piece_build n.Locals) (cut n.Locals) itself k ts at at []
unfolding SoFar
locals_start k ts at = λ r p. subst (λ z. Gives (cut n.Locals) itself k ts at z) (sym (with_none r)) (renamed (n.Cut n.Locals) k ts at r p)

pub locals_more : (k : ℕ) (ts : List Token) (from at : ℕ) (list : List Decl) (x : List Decl) (next : ℕ) →
    SoFar (piece n.Locals) (piece_build n.Locals) (cut n.Locals) itself k ts from at list → Says n.Declare k ts at (Ok (x, next)) →
    SoFar (piece n.Locals) (piece_build n.Locals) (cut n.Locals) itself k ts from next (list ++ x)
unfolding SaysTitle after stmt_option item_option named_stmt_of Stops Says Gives Takes Passes Opens can_begin is_in apart within
locals_more k ts from at list x next so p =
    read_more (form n.Declare) (piece_build n.Locals) (cut n.Locals) itself k ts from at next list x x so (λ xs. refl) p

pub locals_done : (k : ℕ) (ts : List Token) (from at : ℕ) (list : List Decl) →
    SoFar (piece n.Locals) (piece_build n.Locals) (cut n.Locals) itself k ts from at list → can_begin (form n.Declare) ts at ≡ false → Says (n.Cut n.Locals) k ts from (Ok (list, at))
unfolding SaysTitle after stmt_option item_option named_stmt_of Stops Says Gives Takes Passes Opens can_begin is_in apart within
locals_done k ts from at list so h = said (n.Cut n.Locals) k ts from (Ok (list, at)) (read_all (form n.Declare) (piece_build n.Locals) (cut n.Locals) itself k ts from at list so refl h)

pub locals_stop : (k : ℕ) (ts : List Token) (from at : ℕ) (list : List Decl) (s : Stop) →
    SoFar (piece n.Locals) (piece_build n.Locals) (cut n.Locals) itself k ts from at list → can_begin (form n.Declare) ts at ≡ true → Says n.Declare k ts at (Err s) → Says (n.Cut n.Locals) k ts from (Err s)
unfolding SaysTitle after stmt_option item_option named_stmt_of Stops Says Gives Takes Passes Opens can_begin is_in apart within
locals_stop k ts from at list s so h p =
    said (n.Cut n.Locals) k ts from (Err s) (read_stops (form n.Declare) (form n.Declare) (piece_build n.Locals) (cut n.Locals) itself k k ts from at at list s so h (λ why rest q. q) p)

pub ruleset locals_arms = (locals_start, locals_more, locals_done, locals_stop, no_memory)
