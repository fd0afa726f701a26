-- What code gives of what is found. The words do not unfold by themselves.
use Rattle.std.specs.Prelude.{◌+◌, List, [], ◌∷◌, ◌++◌, Option, None, Some, ◌&&◌, is_some}
use Rattle.murphi_ast.specs.declared.expr.ChainOp.{ChainOp}
use Rattle.murphi_ast.specs.declared.expr.Designator.{Designator}
use Rattle.murphi_typed.specs.declared.expr.Link.{Link}
use Rattle.murphi_types.specs.declared.scope.Known.{Known}
use Rattle.murphi_types.specs.declared.scope.Scope.{Scope}
use Rattle.murphi_types.specs.Faults.{sooner}
use Rattle.murphi_types.specs.Weights.{stopped}
use Rattle.murphi_ast.specs.declared.expr.Named.{Named}
use Rattle.murphi_ast.specs.declared.expr.Expr.{Expr}
use Rattle.murphi_types.specs.Scopes.{looked}
use Rattle.murphi_types.specs.Found.{Found, FoundLinks, with_more}
use Rattle.murphi_types.specs.Designators.{FoundSelectors, FoundPlace}
use Rattle.murphi_types.specs.Calls.{FoundArguments, callee_of, formals_of, call_found}
use Rattle.murphi_types.specs.Types.{FoundType, FoundNumber, FoundFields}
use Rattle.murphi_types.specs.Lists.{place_found, list_arguments}
use Rattle.type_parts.specs.declared.judged.Judged.{Judged}
use Rattle.type_parts.specs.declared.judged.JudgedLinks.{JudgedLinks}
use Rattle.type_parts.specs.declared.judged.JudgedSelectors.{JudgedSelectors}
use Rattle.type_parts.specs.declared.judged.JudgedPlace.{JudgedPlace}
use Rattle.type_parts.specs.declared.judged.JudgedArguments.{JudgedArguments}
use Rattle.type_parts.specs.declared.judged.JudgedType.{JudgedType}
use Rattle.type_parts.specs.declared.judged.JudgedNumber.{JudgedNumber}
use Rattle.type_parts.specs.declared.judged.JudgedFields.{JudgedFields}
use Rattle.type_parts.specs.Judging.{judged, judged_links}
use Rattle.type_forms.specs.Designating.{judged_selectors, judged_place}
use Rattle.type_forms.specs.Calling.{judged_arguments}
use Rattle.type_forms.specs.Writing.{judged_type, judged_number, judged_fields}

-- the part, with the first of its faults and with the weight that stops at the greatest u64
unfoldable pub part_of : Found → Judged
part_of f = judged f

unfoldable pub links_of : FoundLinks → JudgedLinks
links_of f = judged_links f

unfoldable pub selectors_of : FoundSelectors → JudgedSelectors
selectors_of f = judged_selectors f

unfoldable pub place_part : FoundPlace → JudgedPlace
place_part f = judged_place f

unfoldable pub arguments_of : FoundArguments → JudgedArguments
arguments_of f = judged_arguments f

unfoldable pub type_part : FoundType → JudgedType
type_part f = judged_type f

unfoldable pub number_part : FoundNumber → JudgedNumber
number_part f = judged_number f

unfoldable pub fields_part : FoundFields → JudgedFields
fields_part f = judged_fields f

-- what is found of a designator
unfoldable pub designated : Scope → Known → Designator → FoundPlace
designated s k d = place_found s k d

-- what is found of a call as an expression
unfoldable pub call_part : Scope → Known → Named → List Expr → Found
call_part s k name args =
    with_more (callee_of s k name (looked s k name.name))
    (λ c. list_arguments s k name.at (formals_of c) args) (call_found s.in_function name.at)

-- one operand of a chain more
abbrev pub linked_by : ChainOp → Judged → JudgedLinks → JudgedLinks
linked_by op j d =
    record {
      typed = d.typed && is_some j.of;
      trees = d.trees ++ record { op = op; operand = j.tree } ∷ [];
      weight = stopped (d.weight + j.weight);
      fault = sooner d.fault j.fault;
    }
