-- A type that is declared, put together from what its calls say.
use Rattle.std.proofs.Common.{◌≡◌, Bool, Option, ap, ◌∙◌}
use Rattle.murphi_ast.specs.declared.expr.TypeExpr.{TypeExpr}
use Rattle.murphi_typed.specs.Families.{Name}
use Rattle.murphi_types.specs.declared.fault.Fault.{Fault}
use Rattle.murphi_types.specs.declared.scope.Meaning.{Meaning}
use Rattle.murphi_types.specs.Faults.{sooner}
use Rattle.murphi_types.specs.Types.{Naming}
use Rattle.murphi_types.specs.Typing.{type_found}
use Rattle.murphi_types.specs.Declarations.{type_meaning, naming_of}
use Rattle.type_parts.specs.declared.context.Context.{Context}
use Rattle.type_parts.specs.declared.judged.JudgedType.{JudgedType}
use Rattle.type_parts.specs.Contexts.{moved}
use Rattle.type_expressions.specs.PartsGiven.{type_part}
use Rattle.type_declarations.specs.declared.state.Declaring.{Declaring}
use Rattle.type_declarations.specs.Declaring.{named, type_named, type_with}

-- what is left where the type is named so
abbrev left : Bool → Name → TypeExpr → Declaring → Naming → Declaring
left g name t p n =
    type_named g name (type_part (type_found p.context.scope p.context.known n t))
    (type_found p.context.scope p.context.known n t).known p

pub type-done : (g : Bool) (name : Name) (t : TypeExpr) (p p' : Declaring) (n : Naming) (x : Context) (made : JudgedType) (fault : Option Fault) (what : Meaning) →
    n ≡ naming_of g p.context.scope.node name →
    made ≡ type_part (type_found p.context.scope p.context.known n t) →
    x ≡ moved p.context (type_found p.context.scope p.context.known n t).known →
    fault ≡ sooner p.fault made.fault → what ≡ type_meaning made.of →
    p' ≡ named g name what (record p { context = x; fault = fault }) →
    p' ≡ type_with g name t p
type-done g name t p p' n x made fault what is j c f w m =
    m
    ∙ ap (λ z. named g name z (record p { context = x; fault = fault })) w
    ∙ ap (λ z. named g name (type_meaning made.of) (record p { context = x; fault = z })) f
    ∙ ap (λ z. named g name (type_meaning made.of) (record p { context = z; fault = sooner p.fault made.fault })) c
    ∙ ap (λ (z : JudgedType). named g name (type_meaning z.of) (record p { context = moved p.context (type_found p.context.scope p.context.known n t).known; fault = sooner p.fault z.fault })) j
    ∙ ap (left g name t p) is
