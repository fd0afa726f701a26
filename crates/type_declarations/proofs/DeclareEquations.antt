-- Each form of declaration, and types that stand directly behind a name, in terms of the parts that code reads.
use Rattle.std.proofs.Common.{◌≡◌, ℕ, Bool, List, Option, refl, ap, sym, ◌∙◌}
use denote.Hole.Carrier.{hidden}
use Rattle.murphi_ast.specs.declared.token.Span.{Span}
use Rattle.murphi_ast.specs.declared.expr.Named.{Named}
use Rattle.murphi_ast.specs.declared.expr.FieldDecl.{FieldDecl}
use Rattle.murphi_ast.specs.declared.expr.Expr.{Expr}
use Rattle.murphi_ast.specs.declared.expr.TypeExpr as w
use Rattle.murphi_ast.specs.declared.expr.TypeExpr.{TypeExpr}
use Rattle.murphi_ast.specs.declared.expr.Expr.TheBlock.{shape-the_row-Expr-2, hidden-the_row-Expr-2, shape-the_row-TypeExpr-6, hidden-the_row-TypeExpr-6}
use Rattle.murphi_ast.specs.declared.decl.Decl as decl
use Rattle.murphi_ast.specs.declared.decl.Routine.{Routine}
use Rattle.murphi_types.specs.declared.scope.Known.{Known}
use Rattle.murphi_types.specs.declared.scope.Scope.{Scope}
use Rattle.murphi_types.specs.Faults.{first_fault}
use Rattle.murphi_types.specs.Places.{place_of}
use Rattle.murphi_types.specs.Constants.{is_constant}
use Rattle.murphi_types.specs.Types.{Naming, Unnamed, number_found, scalarset_found, scalarset_type}
use Rattle.murphi_types.specs.Typing.{found, type_found}
use Rattle.type_parts.proofs.FaultLemmas.{first-append}
use Rattle.type_forms.specs.declared.written.Naming as code
use Rattle.type_forms.specs.Writing.{judged_type, judged_number, named_as, scalarset_judged}
use Rattle.type_expressions.specs.PartsGiven.{type_part, number_part}
use Rattle.type_declarations.specs.declared.state.Declaring.{Declaring}
use Rattle.type_declarations.specs.Declaring.{declared_with, constant_with, type_with, names_with}

pub declared-Constant : (g : Bool) (name : Named) (v : Expr) (p : Declaring) → declared_with g (decl.Constant name v) p ≡ constant_with g name.name v p
unfolding declared_with
declared-Constant g name v p = refl

pub declared-TypeName : (g : Bool) (name : Named) (t : TypeExpr) (p : Declaring) → declared_with g (decl.TypeName name t) p ≡ type_with g name.name t p
unfolding declared_with
declared-TypeName g name t p = refl

pub declared-Variables : (g : Bool) (names : List Named) (t : TypeExpr) (p : Declaring) → declared_with g (decl.Variables names t) p ≡ names_with g names t p
unfolding declared_with
declared-Variables g names t p = refl

pub declared-Routine : (g : Bool) (r : Routine) (p : Declaring) → declared_with g (decl.Routine r) p ≡ p
unfolding declared_with
declared-Routine g r p = refl

pub naming-Known : (s : Scope) (k : Known) (n : Naming) (name : Named) → type_found s k n (w.Known name) ≡ type_found s k Unnamed (w.Known name)
unfolding found
naming-Known s k n name = refl

pub naming-Truth : (s : Scope) (k : Known) (n : Naming) (at : Span) → type_found s k n (w.Truth at) ≡ type_found s k Unnamed (w.Truth at)
unfolding found
naming-Truth s k n at = refl

pub naming-Range : (s : Scope) (k : Known) (n : Naming) (a b : Expr) → type_found s k n (w.Range a b) ≡ type_found s k Unnamed (w.Range a b)
unfolding found shape-the_row-Expr-2 hidden-the_row-Expr-2 hidden
naming-Range s k n a b = refl

pub naming-Listed : (s : Scope) (k : Known) (n : Naming) (names : List Named) (at : Span) → type_found s k n (w.Listed names at) ≡ type_found s k Unnamed (w.Listed names at)
unfolding found
naming-Listed s k n names at = refl

pub naming-Fields : (s : Scope) (k : Known) (n : Naming) (fs : List FieldDecl) (at : Span) → type_found s k n (w.Fields fs at) ≡ type_found s k Unnamed (w.Fields fs at)
unfolding found
naming-Fields s k n fs at = refl

pub naming-Array : (s : Scope) (k : Known) (n : Naming) (a b : TypeExpr) (at : Span) → type_found s k n (w.Array a b at) ≡ type_found s k Unnamed (w.Array a b at)
unfolding found shape-the_row-TypeExpr-6 hidden-the_row-TypeExpr-6 hidden
naming-Array s k n a b at = refl

pub named-Scalarset : (s : Scope) (k : Known) (n : code.Naming) (a : Expr) (at : Span) → type_part (type_found s k (named_as n) (w.Scalarset a at)) ≡ scalarset_judged n at (found s k a).known (number_part (number_found (is_constant s k a) (place_of a) (found s k a)))
unfolding found type_part number_part shape-the_row-Expr-2 hidden-the_row-Expr-2 hidden
named-Scalarset s k n a at =
    let f = number_found (is_constant s k a) (place_of a) (found s k a) in
    ap (λ o. record { of = (scalarset_type (named_as n) at f.known f.number).type; fault = o })
    (first-append f.faults (scalarset_type (named_as n) at f.known f.number).faults)

pub known-named-Scalarset : (s : Scope) (k : Known) (n : code.Naming) (a : Expr) (at : Span) → (type_found s k (named_as n) (w.Scalarset a at)).known ≡ (scalarset_type (named_as n) at (found s k a).known (number_part (number_found (is_constant s k a) (place_of a) (found s k a))).number).known
unfolding found number_part shape-the_row-Expr-2 hidden-the_row-Expr-2 hidden
known-named-Scalarset s k n a at = refl

pub ruleset declares = (declared-Constant, declared-TypeName, declared-Variables, declared-Routine, naming-Known, naming-Truth, naming-Range, naming-Listed, naming-Fields, naming-Array, named-Scalarset, known-named-Scalarset)
