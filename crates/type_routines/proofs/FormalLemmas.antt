-- What code gives of formals and results, from what the definition leaves.
use Rattle.std.proofs.Common.{◌≡◌, Bool, not, ◌&&◌, List, [], ◌∷◌, ◌++◌, Option, None, Some, refl, ap, ◌∙◌}
use Rattle.murphi_ast.specs.declared.expr.Named.{Named}
use Rattle.murphi_ast.specs.declared.expr.TypeExpr.{TypeExpr}
use Rattle.murphi_ast.specs.declared.decl.Formal.{Formal}
use Rattle.murphi_typed.specs.Families.{Name}
use Rattle.murphi_typed.specs.declared.types.AnyType.{AnyType}
use Rattle.murphi_types.specs.declared.fault.Cause.TheVariants as cause
use Rattle.murphi_types.specs.declared.fault.Fault.{Fault}
use Rattle.murphi_types.specs.declared.scope.Known.{Known}
use Rattle.murphi_types.specs.declared.scope.Scope.{Scope}
use Rattle.murphi_types.specs.Faults.{sooner, first_fault}
use Rattle.murphi_types.specs.Places.{type_place_of}
use Rattle.murphi_types.specs.Fitting.{simple_part}
use Rattle.murphi_types.specs.Types.{FoundType, Unnamed}
use Rattle.murphi_types.specs.Typing.{type_found}
use Rattle.murphi_types.specs.Routines.{FoundFormals, one_formal, formals_of_names, formal_faults, group_found, formals_found, no_formals, result_found}
use Rattle.type_parts.specs.declared.judged.JudgedType.{JudgedType}
use Rattle.type_parts.proofs.FaultLemmas.{first-append, first-unless}
use Rattle.type_forms.specs.Writing.{simply}
use Rattle.type_expressions.specs.PartsGiven.{type_part}
use Rattle.type_expressions.proofs.PartLemmas.{simple-is}
use Rattle.type_routines.specs.declared.state.JudgedFormals.{JudgedFormals}
use Rattle.type_routines.specs.declared.state.JudgedResult.{JudgedResult}
use Rattle.type_routines.specs.Formals.{formals_left, formal_with, formals_with, var_fault, group_with, groups_with, result_part}

formal-is : (b : Bool) (t : Option AnyType) (name : Name) (f : FoundFormals) → formals_left (one_formal b t name f) ≡ formal_with b t name (formals_left f)
unfolding formals_left
formal-is b t name f = refl

formals-are : (b : Bool) (t : Option AnyType) (ns : List Named) (f : FoundFormals) → formals_left (formals_of_names b t ns f) ≡ formals_with b t ns (formals_left f)
formals-are b t [] f = refl
formals-are b t (n ∷ ns) f = formals-are b t ns (one_formal b t n.name f) ∙ ap (formals_with b t ns) (formal-is b t n.name f)

var-is : (g b : Bool) (ns : List Named) → first_fault (formal_faults g b ns) ≡ var_fault g b ns
var-is g b [] = refl
var-is g b (n ∷ ns) = first-unless (not (g && b)) cause.E10 n.at

-- what is left where the faults so far have this first one
abbrev with_first : FoundFormals → Known → Option Fault → JudgedFormals
with_first f k o = record { context = record { scope = f.scope; known = k }; formals = f.formals; fault = o }

begun-is : (one : Formal) (f : FoundFormals) (t : FoundType) → formals_left (record f { known = t.known; faults = f.faults ++ (formal_faults f.scope.in_function one.by_place one.names ++ t.faults) }) ≡ with_first f t.known (sooner (first_fault f.faults) (sooner (var_fault f.scope.in_function one.by_place one.names) (first_fault t.faults)))
unfolding formals_left
begun-is one f t =
    let vs = formal_faults f.scope.in_function one.by_place one.names in
    ap (with_first f t.known)
    (first-append f.faults (vs ++ t.faults)
    ∙ ap (sooner (first_fault f.faults)) (first-append vs t.faults ∙ ap (λ o. sooner o (first_fault t.faults)) (var-is f.scope.in_function one.by_place one.names)))

group-is : (one : Formal) (f : FoundFormals) → formals_left (group_found one f (type_found f.scope f.known Unnamed one.body)) ≡ group_with one (formals_left f)
unfolding formals_left type_part
group-is one f =
    let t = type_found f.scope f.known Unnamed one.body in
    formals-are one.by_place t.type one.names (record f { known = t.known; faults = f.faults ++ (formal_faults f.scope.in_function one.by_place one.names ++ t.faults) })
    ∙ ap (formals_with one.by_place t.type one.names) (begun-is one f t)

pub groups-are : (all : List Formal) (f : FoundFormals) → formals_left (formals_found all f) ≡ groups_with all (formals_left f)
groups-are [] f = refl
groups-are (one ∷ rest) f =
    groups-are rest (group_found one f (type_found f.scope f.known Unnamed one.body)) ∙ ap (groups_with rest) (group-is one f)

-- where formals begin
pub formals-begin : (all : List Formal) (s : Scope) (b : Bool) (k : Known) → formals_left (formals_found all (no_formals s b k)) ≡ groups_with all (record { context = record { scope = record s { in_function = b }; known = k }; formals = []; fault = None })
unfolding formals_left
formals-begin all s b k = groups-are all (no_formals s b k)

pub result-None : (s : Scope) (k : Known) → result_part (result_found s k None) ≡ record { of = None; fault = None }
result-None s k = refl

-- the type that a result has, and its fault
abbrev simple_result : JudgedType → JudgedResult
simple_result j = record { of = simple_part j.of; fault = j.fault }

pub result-Some : (s : Scope) (k : Known) (t : TypeExpr) → result_part (result_found s k (Some t)) ≡ simple_result (simply (type_place_of t) (type_part (type_found s k Unnamed t)))
unfolding type_part
result-Some s k t = ap simple_result (simple-is (type_place_of t) (type_found s k Unnamed t))

pub known-result-Some : (s : Scope) (k : Known) (t : TypeExpr) → (result_found s k (Some t)).known ≡ (type_found s k Unnamed t).known
known-result-Some s k t = refl

pub ruleset formals = (formals-begin, result-None, result-Some, known-result-Some)
