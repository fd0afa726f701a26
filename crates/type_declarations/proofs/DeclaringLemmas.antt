-- What code gives of declarations, from what the definition leaves.
use Rattle.std.proofs.Common.{◌≡◌, ℕ, ◌+◌, Bool, true, false, List, [], ◌∷◌, ◌++◌, length, Option, None, Some, refl, ap, sym, subst, ◌∙◌, arith}
use Rattle.std.specs.Prelude.{nat_le}
use Rattle.std.proofs.lemmas.Bool.Decides.{nat_tests}
use Rattle.murphi_ast.specs.declared.expr.Named.{Named}
use Rattle.murphi_ast.specs.declared.expr.Expr.{Expr}
use Rattle.murphi_ast.specs.declared.expr.TypeExpr.{TypeExpr}
use Rattle.murphi_ast.specs.declared.decl.Decl as decl
use Rattle.murphi_ast.specs.declared.decl.Decl.{Decl}
use Rattle.murphi_typed.specs.Families.{Name}
use Rattle.murphi_typed.specs.declared.types.AnyType.{AnyType}
use Rattle.murphi_typed.specs.declared.protocol.Variable.{Variable}
use Rattle.murphi_types.specs.declared.fault.Quantity.TheVariants as quantity
use Rattle.murphi_types.specs.declared.fault.Cause.TheVariants as cause
use Rattle.murphi_types.specs.declared.fault.Fault.{Fault}
use Rattle.murphi_types.specs.declared.scope.Meaning.{Meaning}
use Rattle.murphi_types.specs.declared.scope.Meaning.TheVariants as meaning
use Rattle.murphi_types.specs.declared.scope.Known.{Known}
use Rattle.murphi_types.specs.Faults.{sooner, first_fault, unless}
use Rattle.murphi_types.specs.Places.{place_of}
use Rattle.murphi_types.specs.Weights.{stopped}
use Rattle.murphi_types.specs.Leaves.{leaves, leaves_of, most_leaves, leaf_faults}
use Rattle.murphi_types.specs.Constants.{is_constant}
use Rattle.murphi_types.specs.Types.{FoundNumber, FoundType, Unnamed, number_found}
use Rattle.murphi_types.specs.Typing.{found, type_found}
use Rattle.murphi_types.specs.Declarations.{Declared, declare, constant_meaning, type_meaning, naming_of, next_root, with_variable, declare_variable, declare_variables, counted, with_limit, declared}
use Rattle.type_parts.specs.Contexts.{moved}
use Rattle.type_parts.specs.Judging.{own}
use Rattle.type_parts.proofs.FaultLemmas.{first-append, first-unless, sooner-none}
use Rattle.type_parts.proofs.WeightLemmas.{stopped-left, stopped-stopped}
use Rattle.type_expressions.specs.PartsGiven.{number_part, type_part}
use Rattle.type_declarations.specs.declared.state.Declaring.{Declaring}
use Rattle.type_declarations.specs.Declaring.{declaring, named, advanced, limit_of, variable_with, variables_with, declared_with, constant_with, type_with, names_with}
use Rattle.type_declarations.specs.Declaring as code
use Rattle.type_declarations.proofs.GlobalsLemmas.{globals_of, found-globals, type-globals}

named-is : (g : Bool) (name : Name) (what : Meaning) (d : Declared) → declaring g (declare g name what d) ≡ named g name what (declaring g d)
unfolding declaring
named-is true name what d = refl
named-is false name what d = refl

advanced-is : (g : Bool) (k : Known) (fs : List Fault) (d : Declared) → globals_of k ≡ globals_of d.known → declaring g (record d { known = k; faults = d.faults ++ fs }) ≡ advanced k (first_fault fs) (declaring g d)
unfolding declaring
advanced-is true k fs d same =
    ap (λ gs. record { context = record { scope = d.scope; known = k }; locals = d.locals; leaves = stopped (leaves_of gs); fault = first_fault (d.faults ++ fs); limit = first_fault d.limits }) same
    ∙ ap (λ o. record { context = record { scope = d.scope; known = k }; locals = d.locals; leaves = stopped (leaves_of (globals_of d.known)); fault = o; limit = first_fault d.limits }) (first-append d.faults fs)
advanced-is false k fs d same =
    ap (λ o. record { context = record { scope = d.scope; known = k }; locals = d.locals; leaves = stopped (leaves_of d.locals); fault = o; limit = first_fault d.limits }) (first-append d.faults fs)

leaves-last : (vs : List Variable) (v : Variable) → leaves_of (vs ++ v ∷ []) ≡ leaves_of vs + leaves v.of
leaves-last [] v = omega arith
leaves-last (u ∷ vs) v =
    let p : leaves u.of + (leaves_of vs + leaves v.of) ≡ (leaves u.of + leaves_of vs) + leaves v.of = omega arith in
    ap (λ n. leaves u.of + n) (leaves-last vs v) ∙ p

stopped-last : (vs : List Variable) (v : Variable) → stopped (leaves_of (vs ++ v ∷ [])) ≡ stopped (stopped (leaves_of vs) + leaves v.of)
stopped-last vs v = ap stopped (leaves-last vs v) ∙ sym (stopped-left (leaves_of vs) (leaves v.of))

with-variable-is : (g : Bool) (v : Variable) (d : Declared) → declaring g (with_variable g v d) ≡ code.with_variable g v (declaring g d)
unfolding declaring
with-variable-is true v d =
    ap (λ n. record { context = record { scope = d.scope; known = record d.known { globals = d.known.globals ++ v ∷ [] } }; locals = d.locals; leaves = n; fault = first_fault d.faults; limit = first_fault d.limits }) (stopped-last d.known.globals v)
with-variable-is false v d =
    ap (λ n. record { context = record { scope = d.scope; known = d.known }; locals = d.locals ++ v ∷ []; leaves = n; fault = first_fault d.faults; limit = first_fault d.limits }) (stopped-last d.locals v)

root-is : (g : Bool) (d : Declared) → next_root g d ≡ code.next_root g (declaring g d)
unfolding declaring
root-is true d = refl
root-is false d = refl

variable-is : (g : Bool) (name : Name) (type : Option AnyType) (d : Declared) → declaring g (declare_variable g name type d) ≡ variable_with g name type (declaring g d)
variable-is g name None d = named-is g name meaning.Refused d
variable-is g name (Some type) d =
    let v : Variable = record { name = name; of = type } in
    named-is g name (meaning.Variable (next_root g d) type) (with_variable g v d)
    ∙ ap (named g name (meaning.Variable (next_root g d) type)) (with-variable-is g v d)
    ∙ ap (λ r. named g name (meaning.Variable r type) (code.with_variable g v (declaring g d))) (root-is g d)

variables-are : (g : Bool) (names : List Named) (type : Option AnyType) (d : Declared) → declaring g (declare_variables g names type d) ≡ variables_with g names type (declaring g d)
variables-are g [] type d = refl
variables-are g (n ∷ ns) type d =
    variables-are g ns type (declare_variable g n.name type d) ∙ ap (variables_with g ns type) (variable-is g n.name type d)

few-is : (n : ℕ) → nat_le (stopped n) most_leaves ≡ nat_le n most_leaves
few-is n = grind (arith, nat_tests)

limit-is : (names : List Named) (vs : List Variable) → first_fault (leaf_faults names vs) ≡ limit_of names (stopped (leaves_of vs))
limit-is [] vs = refl
limit-is (n ∷ ns) vs =
    first-unless (nat_le (leaves_of vs) most_leaves) (cause.E16 quantity.Leaves (stopped (leaves_of vs)) most_leaves) n.at
    ∙ ap (λ b. own b (cause.E16 quantity.Leaves (stopped (leaves_of vs)) most_leaves) n.at) (sym (few-is (leaves_of vs)))

with-limit-is : (g : Bool) (names : List Named) (d : Declared) → declaring g (with_limit g names d) ≡ code.with_limit names (declaring g d)
unfolding declaring
with-limit-is true names d =
    ap (λ o. record { context = record { scope = d.scope; known = d.known }; locals = d.locals; leaves = stopped (leaves_of d.known.globals); fault = first_fault d.faults; limit = o })
    (first-append d.limits (leaf_faults names d.known.globals) ∙ ap (sooner (first_fault d.limits)) (limit-is names d.known.globals))
with-limit-is false names d =
    ap (λ o. record { context = record { scope = d.scope; known = d.known }; locals = d.locals; leaves = stopped (leaves_of d.locals); fault = first_fault d.faults; limit = o })
    (first-append d.limits (leaf_faults names d.locals) ∙ ap (sooner (first_fault d.limits)) (limit-is names d.locals))

pub declared-is : (g : Bool) (one : Decl) (d : Declared) → declaring g (declared g one d) ≡ declared_with g one (declaring g d)
unfolding declaring declared_with number_part type_part
declared-is g (decl.Constant name e) d =
    let f = number_found (is_constant d.scope d.known e) (place_of e) (found d.scope d.known e) in
    named-is g name.name (constant_meaning f.number) (record d { known = f.known; faults = d.faults ++ f.faults })
    ∙ ap (named g name.name (constant_meaning f.number)) (advanced-is g f.known f.faults d (found-globals d.scope d.known e))
declared-is g (decl.TypeName name t) d =
    let f = type_found d.scope d.known (naming_of g d.scope.node name.name) t in
    named-is g name.name (type_meaning f.type) (record d { known = f.known; faults = d.faults ++ f.faults })
    ∙ ap (named g name.name (type_meaning f.type)) (advanced-is g f.known f.faults d (type-globals d.scope d.known (naming_of g d.scope.node name.name) t))
declared-is g (decl.Variables names t) d =
    let f = type_found d.scope d.known Unnamed t in
    let d' : Declared = record d { known = f.known; faults = d.faults ++ f.faults } in
    with-limit-is g names (declare_variables g names f.type d')
    ∙ ap (code.with_limit names) (variables-are g names f.type d' ∙ ap (variables_with g names f.type) (advanced-is g f.known f.faults d (type-globals d.scope d.known Unnamed t)))
declared-is g (decl.Routine' name formals result shape locals body) d = refl

pub declared-turn : (g : Bool) (one : Decl) (d : Declared) (p p' : Declaring) → p ≡ declaring g d → p' ≡ declared_with g one p → p' ≡ declaring g (declared g one d)
declared-turn g one d p p' h m = m ∙ ap (declared_with g one) h ∙ sym (declared-is g one d)
