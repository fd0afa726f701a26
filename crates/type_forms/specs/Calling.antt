-- What code gives of calls.
use Rattle.std.specs.Prelude.{ℕ, suc, ◌+◌, Bool, true, false, not, ◌&&◌, ◌||◌, List, [], ◌∷◌, ◌++◌, length, Option, None, Some, is_some, is_none, option_map, slice_get, unwrap_or, if◌then◌else◌}
use Rattle.term_core.specs.declared.value.Value.TheVariants as value
use Rattle.murphi_ast.specs.declared.token.Span.{Span}
use Rattle.murphi_typed.specs.declared.types.Simple.{Simple}
use Rattle.murphi_typed.specs.declared.types.AnyType as t
use Rattle.murphi_typed.specs.declared.types.AnyType.{AnyType}
use Rattle.murphi_typed.specs.declared.expr.Root.TheVariants as root
use Rattle.murphi_typed.specs.declared.expr.Expr as x
use Rattle.murphi_typed.specs.declared.expr.Designator as d
use Rattle.murphi_typed.specs.declared.expr.Selector as select
use Rattle.murphi_typed.specs.declared.expr.Arguments as a
use Rattle.murphi_typed.specs.declared.expr.Argument as argument
use Rattle.std.specs.Option.{option_map_or}
use Rattle.murphi_typed.specs.declared.protocol.Formal.{Formal}
use Rattle.murphi_typed.specs.declared.protocol.Routine.{Routine}
use Rattle.murphi_typed.specs.WellTyped.{widened, same_type, only_if}
use Rattle.murphi_types.specs.declared.fault.Cause.TheVariants as cause
use Rattle.murphi_types.specs.declared.fault.Fault.{Fault}
use Rattle.murphi_types.specs.declared.scope.Known.{Known}
use Rattle.murphi_types.specs.Faults.{sooner, first_fault}
use Rattle.murphi_types.specs.Weights.{stopped}
use Rattle.murphi_types.specs.Fitting.{fits}
use Rattle.murphi_types.specs.Calls.{Callee, FoundArguments, value_faults, count_fits, value_fits, is_simple_formal, result_of}
use Rattle.type_parts.specs.declared.judged.Judged.{Judged}
use Rattle.type_parts.specs.declared.judged.JudgedCallee.{JudgedCallee}
use Rattle.type_parts.specs.declared.judged.JudgedArguments.{JudgedArguments}
use Rattle.type_parts.specs.declared.judged.JudgedPlace.{JudgedPlace}
use Rattle.type_parts.specs.declared.judged.Start.{Start}
use Rattle.type_parts.specs.declared.judged.Start.TheVariants as start
use Rattle.type_parts.specs.Judging.{own}
use Rattle.type_forms.specs.declared.calls.JudgedArgument.{JudgedArgument}

abbrev pub judged_callee : Callee → JudgedCallee
judged_callee c =
    record { number = c.number; routine = c.routine; weight = c.weight; fault = first_fault c.faults }

-- the formals of the routine that is called, if one is
abbrev pub formals_in : Option Routine → List Formal
formals_in routine = option_map_or (λ (r : Routine). r.formals) routine []

-- the routine of a number
abbrev pub numbered_callee : Known → ℕ → JudgedCallee
numbered_callee k number =
    record {
      number = number;
      routine = slice_get k.routines number;
      weight = unwrap_or (slice_get k.weights number) 0;
      fault = None;
    }

abbrev pub judged_arguments : FoundArguments → JudgedArguments
judged_arguments f =
    record { typed = f.typed; trees = f.trees; weight = stopped f.weight; fault = first_fault f.faults }

-- one argument: ill-typed where it has a fault
abbrev pub argument_judged : Bool → argument.Argument → ℕ → Option Fault → JudgedArgument
argument_judged typed tree weight fault =
    record { typed = typed && is_none fault; tree = tree; weight = weight; fault = fault }

-- a value that is known, as that of a constant or an enum name
abbrev pub known : x.Expr → Bool
known (x.Known v) = true
known _ = false

abbrev pub is_known : Start → Bool
is_known (start.Fixed tree) = known tree
is_known _ = false

abbrev pub place_fits : AnyType → Start → AnyType → Bool
place_fits type first found = if is_known first then value_fits type found else same_type type found

abbrev pub may_write : Start → Bool
may_write (start.Fixed tree) = false
may_write (start.Rooted (root.Formal k)) = false
may_write _ = true

abbrev pub copy_of : Bool → Start → List select.Selector → Span → argument.Argument
copy_of simple (start.Rooted root) selectors at =
    if simple then argument.Copy (d.Of root selectors at) else argument.CopyAll (d.Of root selectors at)
copy_of simple (start.Fixed tree) selectors at = argument.Value tree
copy_of simple start.Nowhere selectors at = argument.Value (x.Known value.Undefined)

abbrev pub handed_of : Start → List select.Selector → Span → argument.Argument
handed_of (start.Rooted root) selectors at = argument.Place (d.Of root selectors at)
handed_of (start.Fixed tree) selectors at = argument.Value tree
handed_of start.Nowhere selectors at = argument.Value (x.Known value.Undefined)

abbrev pub copied_fits : Option Formal → Option AnyType → Bool
copied_fits None found = true
copied_fits (Some f) found = fits (value_fits f.of) found

abbrev pub copied : Option Formal → JudgedPlace → JudgedArgument
copied formal p =
    argument_judged (is_some p.of) (copy_of (is_simple_formal formal) p.start p.selectors p.at) p.weight
    (sooner p.fault (own (copied_fits formal p.of) cause.E07 p.at))

abbrev pub handed : Formal → JudgedPlace → JudgedArgument
handed f p =
    argument_judged (is_some p.of) (handed_of p.start p.selectors p.at) p.weight
    (sooner p.fault
    (sooner (own (fits (place_fits f.of p.start) p.of) cause.E07 p.at) (own (may_write p.start) cause.E14 p.at)))

abbrev pub placed : Option Formal → JudgedPlace → JudgedArgument
placed None p = copied None p
placed (Some f) p = if f.by_place then handed f p else copied (Some f) p

abbrev pub own_value : Span → Span → Option Formal → Option AnyType → Option Fault
own_value name at None type = None
own_value name at (Some f) type =
    if f.by_place then own false cause.E11 name else own (fits (value_fits f.of) type) cause.E07 at

abbrev pub valued : Span → Span → Option Formal → Judged → JudgedArgument
valued name at formal j =
    argument_judged (is_some j.of) (argument.Value j.tree) j.weight (sooner j.fault (own_value name at formal j.of))

-- one argument more
abbrev pub argued : JudgedArguments → JudgedArgument → JudgedArguments
argued d j =
    record {
      typed = d.typed && j.typed;
      trees = d.trees ++ j.tree ∷ [];
      weight = stopped (d.weight + j.weight);
      fault = sooner d.fault j.fault;
    }

-- what is done of the arguments, together with what the rest gives
pub record Given : Type 0 where
  pub part : JudgedArguments
  pub known : Known

abbrev pub given : JudgedArguments → FoundArguments → Given
given d f =
    record {
      part = record {
        typed = d.typed && f.typed;
        trees = d.trees ++ f.trees;
        weight = stopped (d.weight + f.weight);
        fault = sooner d.fault (first_fault f.faults);
      };
      known = f.known;
    }

-- a call of a function as an expression
abbrev pub call_judged : Bool → Span → JudgedCallee → JudgedArguments → Judged
call_judged in_function at c g =
    record {
      of = only_if (g.typed && count_fits c.routine (length g.trees))
          (option_map (λ type. t.Simple (widened type)) (result_of c.routine));
      tree = x.Call c.number (a.Of g.trees) at;
      weight = stopped (suc (stopped (g.weight + c.weight)));
      fault = sooner c.fault (sooner (first_fault (value_faults in_function at c.routine))
          (sooner (own (count_fits c.routine (length g.trees)) cause.E11 at) g.fault));
    }
