-- Names of a typed protocol, beside which a lemma stands.
use Rattle.std.specs.Prelude.{false, List, [], ◌∷◌, ◌++◌, None}
use Rattle.murphi_ast.specs.declared.expr.Expr.{Expr}
use Rattle.murphi_typed.specs.declared.protocol.Declared.{Declared}
use Rattle.murphi_typed.specs.Families.{Name}
use Rattle.murphi_types.specs.declared.scope.Meaning.TheVariants as meaning
use Rattle.murphi_types.specs.declared.scope.Entry.{Entry}
use Rattle.murphi_types.specs.Scopes.{entry}
use Rattle.type_names.specs.declared.scope.Scoped.{Scoped}
use Rattle.type_names.specs.declared.gathered.Gathered.{Gathered}
use Rattle.type_names.specs.Gathering.{in_expr}

abbrev pub with_known : List Entry → List Declared → List Entry
with_known es [] = es
with_known es (g ∷ gs) = with_known (es ++ entry g.name meaning.Refused ∷ []) gs

abbrev pub known_scope : List Declared → Scoped
known_scope global = record { names = with_known [] global; fault = None }

abbrev pub gathered_of : Name → Expr → Scoped → Gathered
gathered_of name e D = in_expr name false e (record { uses = []; global = D; fault = None })
