-- Calls: the called routine and what its formals are given.
use Rattle.std.specs.Prelude.{ℕ, suc, ◌+◌, unwrap_or, Bool, true, false, not, ◌&&◌, ◌||◌, List, [], ◌∷◌, ◌++◌, length, nat_eq, Option, None, Some, is_some, if◌then◌else◌, slice_get, option_and_then, option_map}
use Rattle.std.specs.Option.{option_map_or}
use Rattle.murphi_ast.specs.declared.token.Span.{Span}
use Rattle.murphi_ast.specs.declared.expr.Named.{Named}
use Rattle.murphi_typed.specs.declared.types.Simple.{Simple}
use Rattle.murphi_typed.specs.declared.types.AnyType as t
use Rattle.murphi_typed.specs.declared.types.AnyType.{AnyType}
use Rattle.murphi_typed.specs.declared.expr.Root.TheVariants as root
use Rattle.murphi_typed.specs.declared.expr.Expr as x
use Rattle.murphi_typed.specs.declared.expr.Arguments as a
use Rattle.murphi_typed.specs.declared.expr.Argument as argument
use Rattle.murphi_typed.specs.declared.protocol.Formal.{Formal}
use Rattle.murphi_typed.specs.declared.protocol.Routine.{Routine}
use Rattle.murphi_typed.specs.WellTyped.{widened, same_type, only_if}
use Rattle.murphi_types.specs.declared.fault.Cause.TheVariants as cause
use Rattle.murphi_types.specs.declared.fault.Fault.{Fault}
use Rattle.murphi_types.specs.declared.scope.Meaning.{Meaning}
use Rattle.murphi_types.specs.declared.scope.Meaning.TheVariants as meaning
use Rattle.murphi_types.specs.declared.scope.Known.{Known}
use Rattle.murphi_types.specs.declared.scope.Scope.{Scope}
use Rattle.murphi_types.specs.Faults.{lone, unless, is_clear}
use Rattle.murphi_types.specs.Scopes.{is_routine_name}
use Rattle.murphi_types.specs.Fitting.{fits, is_simple, has_values_of}
use Rattle.murphi_types.specs.Found.{Found}
use Rattle.murphi_types.specs.Designators.{Start, Rooted, Fixed, FoundPlace, designator_of, read_tree}

-- the called routine, if the name stands for one, and the weight of its body
pub record Callee : Type 0 where
  pub number : ℕ
  pub routine : Option Routine
  pub weight : ℕ
  pub faults : List Fault

abbrev pub no_callee : List Fault → Callee
no_callee faults = record { number = 0; routine = None; weight = 0; faults = faults }

-- routines are declared before they are called: a call of one inside itself or ahead of its declaration is E10,
-- a name that no routine of the text has is E05, and a name that stands for something else is E07
abbrev pub callee_of : Scope → Known → Named → Option Meaning → Callee
callee_of s k name (Some (meaning.Routine number)) =
    record {
      number = number;
      routine = slice_get k.routines number;
      weight = unwrap_or (slice_get k.weights number) 0;
      faults = [];
    }
callee_of s k name (Some meaning.Refused) = no_callee []
callee_of s k name (Some _) = no_callee (lone cause.E07 name.at)
callee_of s k name None = no_callee (lone (if is_routine_name s name.name then cause.E10 else cause.E05) name.at)

abbrev pub formals_of : Callee → List Formal
formals_of c = option_map_or (λ (r : Routine). r.formals) c.routine []

abbrev pub is_function : Routine → Bool
is_function r = is_some r.result

-- a procedure is no value: E11, and inside a function E10, since a function calls no procedure
abbrev pub value_faults : Bool → Span → Option Routine → List Fault
value_faults in_function at (Some r) =
    unless (is_function r) cause.E11 at ++ unless (is_function r || not in_function) cause.E10 at
value_faults in_function at None = []

-- there is one argument for each formal: E11 at the called name where there is not
abbrev pub count_fits : Option Routine → ℕ → Bool
count_fits (Some r) count = nat_eq (length r.formals) count
count_fits None count = true

-- what is given to the formals
pub record FoundArguments : Type 0 where
  pub typed : Bool
  pub trees : List argument.Argument
  pub weight : ℕ
  pub known : Known
  pub faults : List Fault

abbrev pub no_arguments : Known → FoundArguments
no_arguments k = record { typed = true; trees = []; weight = 0; known = k; faults = [] }

abbrev pub arguments_made : FoundArguments → FoundArguments → FoundArguments
arguments_made f g =
    record {
      typed = f.typed && g.typed;
      trees = f.trees ++ g.trees;
      weight = f.weight + g.weight;
      known = g.known;
      faults = f.faults ++ g.faults;
    }

abbrev pub argument_made : Bool → argument.Argument → ℕ → Known → List Fault → FoundArguments
argument_made typed tree weight known faults =
    record {
      typed = typed && is_clear faults;
      trees = tree ∷ [];
      weight = weight;
      known = known;
      faults = faults;
    }

-- by value, a simple formal takes values of its type, where subranges count as one, and a compound one a
-- designator of the same type
abbrev pub value_fits : AnyType → AnyType → Bool
value_fits (t.Simple type) found = has_values_of type found
value_fits type found = same_type type found

-- a `var` formal takes a place of the same type. A constant is a value of all numbers, so it is held against the
-- formal as a value: it is wrong since it may not be written.
abbrev pub place_fits : AnyType → Start → AnyType → Bool
place_fits type (Fixed (x.Known v)) found = value_fits type found
place_fits type _ found = same_type type found

-- a constant, an enum name, a parameter, a bound variable and a formal by value may not be written
abbrev pub may_write : Start → Bool
may_write (Fixed tree) = false
may_write (Rooted (root.Formal k)) = false
may_write _ = true

abbrev pub is_simple_formal : Option Formal → Bool
is_simple_formal (Some f) = is_simple f.of
is_simple_formal None = true

-- a designator that is handed over by value: a copy, which may be undefined
abbrev pub copy_tree : Option Formal → FoundPlace → Start → argument.Argument
copy_tree formal p (Rooted root) =
    if is_simple_formal formal then argument.Copy (designator_of root p) else argument.CopyAll (designator_of root p)
copy_tree formal p start = argument.Value (read_tree p start)

-- a designator that is handed to a `var` formal
abbrev pub place_tree : FoundPlace → Start → argument.Argument
place_tree p (Rooted root) = argument.Place (designator_of root p)
place_tree p start = argument.Value (read_tree p start)

-- a designator by value: E07 at its first token where it does not fit
abbrev pub copied : Option Formal → FoundPlace → FoundArguments
copied None p = argument_made (is_some p.type) (copy_tree None p p.start) p.weight p.known p.faults
copied (Some f) p =
    argument_made (is_some p.type) (copy_tree (Some f) p p.start) p.weight p.known
    (p.faults ++ unless (fits (value_fits f.of) p.type) cause.E07 p.at)

-- a designator for a `var` formal: E07 at its first token where it does not fit, E14 there where it may not be
-- written
abbrev pub handed : Formal → FoundPlace → FoundArguments
handed f p =
    argument_made (is_some p.type) (place_tree p p.start) p.weight p.known
    (p.faults ++ (unless (fits (place_fits f.of p.start) p.type) cause.E07 p.at
    ++ unless (may_write p.start) cause.E14 p.at))

abbrev pub placed : Option Formal → FoundPlace → FoundArguments
placed None p = copied None p
placed (Some f) p = if f.by_place then handed f p else copied (Some f) p

-- what is wrong with any other expression as an argument: by value E07 at its first token where it does not fit;
-- for a `var` formal E11 at the called name, since it is no designator
abbrev pub value_faults_of : Span → Span → Formal → Option AnyType → List Fault
value_faults_of name at f type =
    if f.by_place then lone cause.E11 name else unless (fits (value_fits f.of) type) cause.E07 at

abbrev pub valued : Span → Span → Option Formal → Found → FoundArguments
valued name at None f = argument_made (is_some f.type) (argument.Value f.tree) f.weight f.known f.faults
valued name at (Some formal) f =
    argument_made (is_some f.type) (argument.Value f.tree) f.weight f.known
    (f.faults ++ value_faults_of name at formal f.type)

-- the type of a call is that of the result; that of a procedure says nothing
abbrev pub result_of : Option Routine → Option Simple
result_of called = option_and_then (λ (r : Routine). r.result) called

-- a call of a function as an expression
abbrev pub call_found : Bool → Span → Callee → FoundArguments → Found
call_found in_function at c g =
    record {
      type = only_if (g.typed && count_fits c.routine (length g.trees))
          (option_map (λ type. t.Simple (widened type)) (result_of c.routine));
      tree = x.Call c.number (a.Of g.trees) at;
      weight = suc (g.weight + c.weight);
      known = g.known;
      faults = c.faults ++ (value_faults in_function at c.routine
          ++ (unless (count_fits c.routine (length g.trees)) cause.E11 at ++ g.faults));
    }
