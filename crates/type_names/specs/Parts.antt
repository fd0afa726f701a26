-- What a part of a text adds to what was gathered before it: the places where a name is used in it, unless something
-- inner hides that name; the names that it declares for the whole text; and the faults of its own scopes.
use Rattle.std.specs.Prelude.{Bool, ◌||◌, List, [], ◌++◌, None, if◌then◌else◌}
use Rattle.std.specs.Str.{bytes_eq}
use Rattle.murphi_ast.specs.declared.token.Span.{Span}
use Rattle.murphi_ast.specs.declared.expr.Named.{Named}
use Rattle.murphi_ast.specs.declared.expr.Expr.{Expr}
use Rattle.murphi_ast.specs.declared.expr.TypeExpr.{TypeExpr}
use Rattle.murphi_typed.specs.Families.{Name}
use Rattle.murphi_types.specs.declared.fault.Fault.{Fault}
use Rattle.murphi_types.specs.Faults.{sooner, first_fault}
use Rattle.murphi_types.specs.Repeats.{enum_names, type_enums, field_repeats, type_repeats}
use Rattle.murphi_types.specs.Uses.{uses_in, type_uses}
use Rattle.type_names.specs.declared.gathered.Gathered.{Gathered}
use Rattle.type_names.specs.Scoping.{all_declared}

pub record Part : Type 0 where
  pub uses : List Span
  pub names : List Named
  pub faults : List Fault

abbrev pub no_part : Part
no_part = record { uses = []; names = []; faults = [] }

-- two parts, the first before the second
abbrev pub join : Part → Part → Part
join p q = record { uses = p.uses ++ q.uses; names = p.names ++ q.names; faults = p.faults ++ q.faults }

abbrev pub seen : Bool → List Span → List Span
seen hidden uses = if hidden then [] else uses

-- a part after what was gathered before it
abbrev pub added : Bool → Part → Gathered → Gathered
added hidden p G =
    record {
      uses = G.uses ++ seen hidden p.uses;
      global = all_declared G.global p.names;
      fault = sooner G.fault (first_fault p.faults);
    }

-- inside of a name that is declared
abbrev pub hidden_by : Bool → Name → Named → Bool
hidden_by hidden name bound = hidden || bytes_eq bound.name name

abbrev pub expr_part : Name → Expr → Part
expr_part name e = record { uses = uses_in name e; names = enum_names e; faults = field_repeats e }

abbrev pub type_part : Name → TypeExpr → Part
type_part name t = record { uses = type_uses name t; names = type_enums t; faults = type_repeats t }
