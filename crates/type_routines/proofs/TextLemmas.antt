-- All declarations of a text.
use Rattle.std.proofs.Common.{◌≡◌, true, List, [], ◌∷◌, ◌++◌, Option, refl, ap, ◌∙◌}
use Rattle.std.specs.List.{flat_map}
use Rattle.murphi_ast.specs.declared.expr.Named.{Named}
use Rattle.murphi_ast.specs.declared.expr.Expr.{Expr}
use Rattle.murphi_ast.specs.declared.expr.TypeExpr.{TypeExpr}
use Rattle.murphi_ast.specs.declared.decl.Decl as decl
use Rattle.murphi_ast.specs.declared.decl.Decl.{Decl}
use Rattle.murphi_ast.specs.declared.decl.Routine.{Routine}
use Rattle.murphi_ast.specs.declared.rule.Protocol.{Protocol}
use Rattle.murphi_typed.specs.Families.{Name}
use Rattle.murphi_types.specs.Declarations.{Declared, declared}
use Rattle.murphi_types.specs.Routines.{globally_declared, text_declared}
use Rattle.murphi_types.specs.Texts.{routine_name, text_scope, nothing_known, declarations_of}
use Rattle.type_declarations.specs.declared.state.Declaring.{Declaring}
use Rattle.type_declarations.specs.Declaring.{declaring}
use Rattle.type_routines.specs.Routines.{text_begun}

pub name-Routine : (one : Routine) → routine_name (decl.Routine one) ≡ one.name.name ∷ []
name-Routine one = refl

pub globally-Constant : (name : Named) (e : Expr) (d : Declared) → globally_declared (decl.Constant name e) d ≡ declared true (decl.Constant name e) d
globally-Constant name e d = refl

pub globally-TypeName : (name : Named) (t : TypeExpr) (d : Declared) → globally_declared (decl.TypeName name t) d ≡ declared true (decl.TypeName name t) d
globally-TypeName name t d = refl

pub globally-Variables : (names : List Named) (t : TypeExpr) (d : Declared) → globally_declared (decl.Variables names t) d ≡ declared true (decl.Variables names t) d
globally-Variables names t d = refl

pub ruleset texts = (name-Routine, globally-Constant, globally-TypeName, globally-Variables)

pub text-last : (xs : List Decl) (x : Decl) (d : Declared) → text_declared (xs ++ x ∷ []) d ≡ globally_declared x (text_declared xs d)
text-last [] x d = refl
text-last (y ∷ ys) x d = text-last ys x (globally_declared y d)

abbrev text_start : Option Name → Protocol → Declared
text_start named P = record { scope = text_scope named P; known = nothing_known; locals = []; faults = []; limits = [] }

text-begins : (named : Option Name) (P : Protocol) → text_begun named (flat_map routine_name P.decls) ≡ declaring true (text_start named P)
unfolding declaring
text-begins named P = refl

pub text-done : (named : Option Name) (P : Protocol) (xs : List Decl) (names : List Name) (start done : Declaring) →
    xs ≡ P.decls → names ≡ flat_map routine_name xs → start ≡ text_begun named names →
    ((d : Declared) → start ≡ declaring true d → done ≡ declaring true (text_declared xs d)) →
    done ≡ declaring true (declarations_of named P)
text-done named P xs names start done e n s f =
    f (text_start named P) (s ∙ ap (text_begun named) (n ∙ ap (flat_map routine_name) e) ∙ text-begins named P)
    ∙ ap (λ ys. declaring true (text_declared ys (text_start named P))) e
