-- The tests of an `if` and the cases of a `switch`, over the lists that code reads.
use Rattle.std.specs.Prelude.{List, [], ◌∷◌, Option}
use Rattle.murphi_ast.specs.declared.stmt.Arm.{Arm}
use Rattle.murphi_ast.specs.declared.stmt.Case.{Case}
use Rattle.murphi_typed.specs.declared.types.AnyType.{AnyType}
use Rattle.murphi_types.specs.declared.scope.Known.{Known}
use Rattle.murphi_types.specs.declared.scope.Scope.{Scope}
use Rattle.murphi_types.specs.Places.{place_of}
use Rattle.murphi_types.specs.Fitting.{is_truth}
use Rattle.murphi_types.specs.Found.{with_more, wanted}
use Rattle.murphi_types.specs.Typing.{found}
use Rattle.murphi_types.specs.Statements.{Leaving, FoundArms, FoundCases, no_arms, arm_made, no_cases, case_made, labels_found, body_found}

abbrev pub list_arms : Leaving → Scope → Known → List Arm → FoundArms
list_arms leaving s k [] = no_arms k
list_arms leaving s k (arm ∷ rest) =
    with_more (wanted is_truth (place_of arm.test) (found s k arm.test))
    (λ f. with_more (body_found leaving s f.known arm.body) (λ b. list_arms leaving s b.known rest)
    (arm_made f)) (λ f g. g)

abbrev pub list_cases : Leaving → Scope → Known → Option AnyType → List Case → FoundCases
list_cases leaving s k on [] = no_cases k
list_cases leaving s k on (case ∷ rest) =
    with_more (labels_found s k on case.labels)
    (λ f. with_more (body_found leaving s f.known case.body) (λ b. list_cases leaving s b.known on rest)
    (case_made f)) (λ f g. g)
