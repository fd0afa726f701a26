-- Names in scope. The scopes are: all globals with all enum names; the formals and locals of one routine; the
-- locals of one rule or start state; each bound variable; the fields of one record. Names keep their case.
use Rattle.std.specs.Prelude.{ℕ, suc, Bool, List, [], ◌∷◌, ◌++◌, Option, None, Some, if◌then◌else◌}
use Rattle.std.specs.List.{list_any}
use Rattle.std.specs.Str.{bytes_eq}
use Rattle.murphi_typed.specs.Families.{Name}
use Rattle.murphi_typed.specs.declared.types.Simple.{Simple}
use Rattle.murphi_types.specs.declared.scope.Meaning.{Meaning}
use Rattle.murphi_types.specs.declared.scope.Meaning.TheVariants as meaning
use Rattle.murphi_types.specs.declared.scope.Entry.{Entry}
use Rattle.murphi_types.specs.declared.scope.Known.{Known}
use Rattle.murphi_types.specs.declared.scope.Scope.{Scope}

-- what the first entry of a name says: names of the whole text hide nothing
abbrev pub earliest : List Entry → Name → Option Meaning
earliest [] name = None
earliest (e ∷ es) name = if bytes_eq e.name name then Some e.what else earliest es name

abbrev pub or_else : {A : Type 0} → Option A → Option A → Option A
or_else (Some a) other = Some a
or_else None other = other

-- what the last entry of a name says: an inner name hides the outer ones
abbrev pub latest : List Entry → Name → Option Meaning
latest [] name = None
latest (e ∷ es) name = or_else (latest es name) (if bytes_eq e.name name then Some e.what else None)

-- what a name stands for where a part stands: the innermost declaration of it, if there is one. A name that is
-- declared only later stands for nothing yet.
abbrev pub looked : Scope → Known → Name → Option Meaning
looked s k name = or_else (latest s.inner name) (earliest k.names name)

-- whether some routine of the text has a name, before or after the place where it is used
abbrev pub is_routine_name : Scope → Name → Bool
is_routine_name s name = list_any (λ r. bytes_eq r name) s.routines

abbrev pub entry : Name → Meaning → Entry
entry name what = record { name = name; what = what }

-- what a bound variable stands for: one of its type
abbrev pub bound_meaning : ℕ → Option Simple → Meaning
bound_meaning number (Some over) = meaning.Bound number over
bound_meaning number None = meaning.Refused

-- the scope inside a quantifier or a `for`: one more variable is bound
abbrev pub binding : Scope → Name → Option Simple → Scope
binding s name over =
    record s { inner = s.inner ++ entry name (bound_meaning s.bound over) ∷ []; bound = suc s.bound }

-- one more name for the whole text
abbrev pub with_name : Known → Name → Meaning → Known
with_name k name what = record k { names = k.names ++ entry name what ∷ [] }
