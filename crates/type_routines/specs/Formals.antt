-- What code gives of formals and results: what they leave, with the first of their faults.
use Rattle.std.specs.Prelude.{Bool, not, ◌&&◌, List, [], ◌∷◌, ◌++◌, length, Option, None}
use Rattle.murphi_ast.specs.declared.expr.Named.{Named}
use Rattle.murphi_ast.specs.declared.decl.Formal.{Formal}
use Rattle.murphi_typed.specs.Families.{Name}
use Rattle.murphi_typed.specs.declared.types.AnyType.{AnyType}
use Rattle.murphi_types.specs.declared.fault.Cause.TheVariants as cause
use Rattle.murphi_types.specs.declared.fault.Fault.{Fault}
use Rattle.murphi_types.specs.declared.scope.Known.{Known}
use Rattle.murphi_types.specs.Faults.{sooner, first_fault}
use Rattle.murphi_types.specs.Scopes.{entry}
use Rattle.murphi_types.specs.Types.{Unnamed}
use Rattle.murphi_types.specs.Typing.{type_found}
use Rattle.murphi_types.specs.Routines.{FoundFormals, FoundResult, formal_meaning, with_formal}
use Rattle.type_parts.specs.declared.judged.JudgedType.{JudgedType}
use Rattle.type_parts.specs.Contexts.{moved, in_scope}
use Rattle.type_parts.specs.Judging.{own}
use Rattle.type_expressions.specs.PartsGiven.{type_part}
use Rattle.type_routines.specs.declared.state.JudgedFormals.{JudgedFormals}
use Rattle.type_routines.specs.declared.state.JudgedResult.{JudgedResult}

-- what formals leave, as code has it
unfoldable pub formals_left : FoundFormals → JudgedFormals
formals_left f =
    record {
      context = record { scope = f.scope; known = f.known };
      formals = f.formals;
      fault = first_fault f.faults;
    }

-- one formal more
abbrev pub formal_with : Bool → Option AnyType → Name → JudgedFormals → JudgedFormals
formal_with by_place type name p =
    record p {
      context = in_scope p.context
          (record p.context.scope {
            inner = p.context.scope.inner ++ entry name (formal_meaning by_place (length p.formals) type) ∷ [];
          });
      formals = with_formal by_place name type p.formals;
    }

abbrev pub formals_with : Bool → Option AnyType → List Named → JudgedFormals → JudgedFormals
formals_with by_place type [] p = p
formals_with by_place type (n ∷ ns) p = formals_with by_place type ns (formal_with by_place type n.name p)

-- a function has no `var` formals
abbrev pub var_fault : Bool → Bool → List Named → Option Fault
var_fault in_function by_place [] = None
var_fault in_function by_place (n ∷ ns) = own (not (in_function && by_place)) cause.E10 n.at

-- the formals of one type
abbrev pub group_named : Formal → JudgedType → Known → JudgedFormals → JudgedFormals
group_named one j k p =
    formals_with one.by_place j.of one.names
    (record p {
      context = moved p.context k;
      fault = sooner p.fault (sooner (var_fault p.context.scope.in_function one.by_place one.names) j.fault);
    })

abbrev pub group_with : Formal → JudgedFormals → JudgedFormals
group_with one p =
    group_named one (type_part (type_found p.context.scope p.context.known Unnamed one.body))
    (type_found p.context.scope p.context.known Unnamed one.body).known p

abbrev pub groups_with : List Formal → JudgedFormals → JudgedFormals
groups_with [] p = p
groups_with (one ∷ rest) p = groups_with rest (group_with one p)

-- what code gives of a result
abbrev pub result_part : FoundResult → JudgedResult
result_part r = record { of = r.result; fault = first_fault r.faults }
