-- What code gives of designators.
use Rattle.std.specs.Prelude.{ℕ, suc, ◌+◌, Bool, true, false, ◌&&◌, List, [], ◌∷◌, ◌++◌, Option, None, Some, is_some, option_map}
use Rattle.term_core.specs.declared.value.Value.TheVariants as value
use Rattle.murphi_ast.specs.declared.token.Span.{Span}
use Rattle.murphi_ast.specs.declared.expr.Named.{Named}
use Rattle.murphi_typed.specs.declared.types.Simple.{Simple}
use Rattle.murphi_typed.specs.declared.types.Simple.TheVariants as simple
use Rattle.murphi_typed.specs.declared.types.AnyType as t
use Rattle.murphi_typed.specs.declared.types.AnyType.{AnyType}
use Rattle.murphi_typed.specs.declared.expr.Root.{Root}
use Rattle.murphi_typed.specs.declared.expr.Expr as x
use Rattle.murphi_typed.specs.declared.expr.Expr.{Expr}
use Rattle.murphi_typed.specs.declared.expr.Designator as d
use Rattle.murphi_typed.specs.declared.expr.Designator.{Designator}
use Rattle.murphi_typed.specs.declared.expr.Selector as select
use Rattle.murphi_typed.specs.WellTyped.{only_if}
use Rattle.murphi_types.specs.declared.fault.Cause.TheVariants as cause
use Rattle.murphi_types.specs.declared.fault.Fault.{Fault}
use Rattle.murphi_types.specs.declared.scope.Meaning.{Meaning}
use Rattle.murphi_types.specs.declared.scope.Known.{Known}
use Rattle.murphi_types.specs.Faults.{sooner, first_fault}
use Rattle.murphi_types.specs.Weights.{stopped}
use Rattle.murphi_types.specs.Fitting.{fits, is_simple, as_value}
use Rattle.murphi_types.specs.Designators.{Chosen, FoundSelectors, FoundPlace, start_of, start_type, index_type, index_fits, index_tree, item_chosen}
use Rattle.murphi_types.specs.Designators as found
use Rattle.type_parts.specs.declared.judged.Judged.{Judged}
use Rattle.type_parts.specs.declared.judged.Start.{Start}
use Rattle.type_parts.specs.declared.judged.Start.TheVariants as start
use Rattle.type_parts.specs.declared.judged.JudgedPlace.{JudgedPlace}
use Rattle.type_parts.specs.declared.judged.JudgedSelectors.{JudgedSelectors}
use Rattle.type_parts.specs.Judging.{own, kept, all_judged}
use Rattle.type_forms.specs.declared.designators.Begun.{Begun}
use Rattle.type_forms.specs.declared.designators.Walked.{Walked}

abbrev pub started : found.Start → Start
started (found.Rooted root) = start.Rooted root
started (found.Fixed tree) = start.Fixed tree
started found.Nowhere = start.Nowhere

abbrev pub begun : Span → Option Meaning → Begun
begun at what =
    record {
      start = started (start_of what);
      of = (start_type at what).type;
      fault = first_fault (start_type at what).faults;
    }

abbrev pub fixed_begun : Expr → Simple → Begun
fixed_begun tree of = record { start = start.Fixed tree; of = Some (t.Simple of); fault = None }

abbrev pub nothing_begun : Option Fault → Begun
nothing_begun fault = record { start = start.Nowhere; of = None; fault = fault }

-- one field more
abbrev pub field_walked : Named → Option Fault → Walked → Walked
field_walked name fault d =
    record { trees = d.trees ++ select.Field name.name ∷ []; weight = d.weight; fault = sooner d.fault fault }

-- one index more, at this place, in the designator at another
abbrev pub index_kept : Span → Judged → Option AnyType → Judged
index_kept place part of = kept (fits (index_fits (index_type of)) part.of) place part

abbrev pub item_after : Span → Span → Judged → Option AnyType → Chosen
item_after at place part of = item_chosen at (is_some (index_kept place part of).of) of

abbrev pub index_walked : Span → Span → Judged → Option AnyType → Walked → Walked
index_walked at place part of d =
    record {
      trees = d.trees ++ index_tree (index_type of) part.tree ∷ [];
      weight = stopped (d.weight + part.weight);
      fault = sooner d.fault (sooner (index_kept place part of).fault (first_fault (item_after at place part of).faults));
    }

-- what is done of a designator, together with what the rest gives
pub record Selected : Type 0 where
  pub of : Option AnyType
  pub part : Walked
  pub known : Known

abbrev pub selected : Walked → FoundSelectors → Selected
selected d f =
    record {
      of = f.type;
      part = record {
        trees = d.trees ++ f.trees;
        weight = stopped (d.weight + f.weight);
        fault = sooner d.fault (first_fault f.faults);
      };
      known = f.known;
    }

abbrev pub judged_place : FoundPlace → JudgedPlace
judged_place p =
    record {
      start = started p.start;
      at = p.at;
      of = p.type;
      selectors = p.selectors;
      weight = stopped p.weight;
      fault = first_fault p.faults;
    }

abbrev pub selectors_judged : Option AnyType → Walked → JudgedSelectors
selectors_judged of d = record { of = of; trees = d.trees; weight = d.weight; fault = d.fault }

abbrev pub judged_selectors : FoundSelectors → JudgedSelectors
judged_selectors f =
    record { of = f.type; trees = f.trees; weight = stopped f.weight; fault = first_fault f.faults }

abbrev pub placed_judged : Span → Start → Option Fault → JudgedSelectors → JudgedPlace
placed_judged at first fault d =
    record {
      start = first;
      at = at;
      of = d.of;
      selectors = d.trees;
      weight = stopped (suc d.weight);
      fault = sooner fault d.fault;
    }

-- the tree of a designator as an expression
abbrev pub read_of : Start → List select.Selector → Span → Expr
read_of (start.Rooted root) selectors at = x.Read (d.Of root selectors at)
read_of (start.Fixed tree) selectors at = tree
read_of start.Nowhere selectors at = x.Known value.Undefined

abbrev pub read_judged : JudgedPlace → Judged
read_judged p =
    record {
      of = option_map as_value p.of;
      tree = read_of p.start p.selectors p.at;
      weight = p.weight;
      fault = p.fault;
    }

-- the tree of `isundefined`
abbrev pub undefined_of : Start → List select.Selector → Span → Expr
undefined_of (start.Rooted root) selectors at = x.IsUndefined (d.Of root selectors at)
undefined_of (start.Fixed tree) selectors at = x.Known (value.Truth false)
undefined_of start.Nowhere selectors at = x.Known (value.Truth false)

abbrev pub undefined_judged : JudgedPlace → Judged
undefined_judged p =
    all_judged (is_some p.of && fits is_simple p.of) simple.Truth (undefined_of p.start p.selectors p.at)
    (stopped (suc p.weight)) (sooner p.fault (own (fits is_simple p.of) cause.E07 p.at))
