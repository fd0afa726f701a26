-- What is gathered, in the words of typing.
use Rattle.std.specs.Prelude.{◌≡◌, Bool, List, [], Option, None, Some, is_some}
use Rattle.murphi_ast.specs.declared.expr.Named.{Named}
use Rattle.murphi_typed.specs.Families.{Name}
use Rattle.murphi_types.specs.Faults.{sooner, first_fault}
use Rattle.murphi_types.specs.Repeats.{is_among, repeats}
use Rattle.murphi_types.specs.Scopes.{earliest}
use Rattle.type_names.specs.declared.scope.Scoped.{Scoped}
use Rattle.type_names.specs.Scoping.{all_declared}

-- these entries are for these names
abbrev pub HasNames : Scoped → List Name → Type 0
HasNames D before = (name : Name) → is_some (earliest D.names name) ≡ is_among name before

-- names that come after others of one scope: the first that was there has its fault
abbrev pub RepeatsAreFound : Type 0
RepeatsAreFound =
    (D : Scoped) (before : List Name) → HasNames D before → (names : List Named) →
    (all_declared D names).fault ≡ sooner D.fault (first_fault (repeats before names))
