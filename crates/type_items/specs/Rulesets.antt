-- What code gives of rulesets: their parameters, and what is left when they end.
use Rattle.std.specs.Prelude.{ℕ, Bool, false, List, [], ◌∷◌, length, take, Option, None, Some, if◌then◌else◌}
use Rattle.std.specs.List.{list_any}
use Rattle.std.specs.Str.{bytes_eq}
use Rattle.murphi_ast.specs.declared.expr.Bind.{Bind}
use Rattle.murphi_typed.specs.Families.{Name}
use Rattle.murphi_types.specs.declared.scope.Known.{Known}
use Rattle.murphi_types.specs.declared.scope.Scope.{Scope}
use Rattle.murphi_types.specs.Faults.{sooner}
use Rattle.murphi_types.specs.Places.{type_place_of}
use Rattle.murphi_types.specs.Scopes.{binding}
use Rattle.murphi_types.specs.Fitting.{simple_part}
use Rattle.murphi_types.specs.Types.{Unnamed}
use Rattle.murphi_types.specs.Typing.{type_found}
use Rattle.murphi_types.specs.Items.{with_parameter}
use Rattle.type_parts.specs.declared.judged.JudgedType.{JudgedType}
use Rattle.type_forms.specs.Writing.{simply}
use Rattle.type_expressions.specs.PartsGiven.{type_part}
use Rattle.type_items.specs.declared.gathered.Inside.{Inside}
use Rattle.type_items.specs.declared.rulesets.Mark.{Mark}

-- one parameter more
abbrev pub bind_done : Name → JudgedType → Known → Inside → Inside
bind_done name j k I =
    record {
      context = record { scope = binding I.context.scope name (simple_part j.of); known = k };
      params = with_parameter name (simple_part j.of) I.params;
      fault = sooner I.fault j.fault;
    }

abbrev pub bind_with : Bind → Inside → Inside
bind_with one I =
    bind_done one.name.name
    (simply (type_place_of one.over) (type_part (type_found I.context.scope I.context.known Unnamed one.over)))
    (type_found I.context.scope I.context.known Unnamed one.over).known I

abbrev pub list_binds : List Bind → Inside → Inside
list_binds [] I = I
list_binds (one ∷ rest) I = list_binds rest (bind_with one I)

-- whether a parameter hides a name
abbrev pub is_bound : List Bind → Name → Bool
is_bound binds name = list_any (λ (b : Bind). bytes_eq b.name.name name) binds

abbrev pub is_hidden : List Bind → Option Name → Bool
is_hidden binds (Some name) = is_bound binds name
is_hidden binds None = false

-- the name, where no parameter hides it
abbrev pub seen : List Bind → Option Name → Option Name → Option Name
seen binds size none = if is_hidden binds size then none else size

-- how much there is before a ruleset
abbrev pub mark_of : Inside → Mark
mark_of I =
    record {
      entries = length I.context.scope.inner;
      bound = I.context.scope.bound;
      params = length I.params;
    }

abbrev pub cut_scope : ℕ → ℕ → Scope → Scope
cut_scope entries bound s = record s { inner = take entries s.inner; bound = bound }

-- and as much after it
abbrev pub cut : Mark → Inside → Inside
cut m I =
    record {
      context = record { scope = cut_scope m.entries m.bound I.context.scope; known = I.context.known };
      params = take m.params I.params;
      fault = I.fault;
    }
