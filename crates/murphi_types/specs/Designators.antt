-- Designators: a name that stands for a variable or for a value, and fields and indices after it.
use Rattle.std.specs.Prelude.{ℕ, suc, ◌+◌, Bool, true, false, ◌&&◌, List, [], ◌∷◌, ◌++◌, Option, None, Some, is_some, option_map}
use Rattle.term_core.specs.declared.value.Value.TheVariants as value
use Rattle.murphi_ast.specs.declared.token.Span.{Span}
use Rattle.murphi_ast.specs.declared.expr.Named.{Named}
use Rattle.murphi_typed.specs.declared.types.Simple.{Simple}
use Rattle.murphi_typed.specs.declared.types.Simple.TheVariants as simple
use Rattle.murphi_typed.specs.declared.types.AnyType as t
use Rattle.murphi_typed.specs.declared.types.AnyType.{AnyType}
use Rattle.murphi_typed.specs.declared.expr.Root.{Root}
use Rattle.murphi_typed.specs.declared.expr.Expr as x
use Rattle.murphi_typed.specs.declared.expr.Expr.{Expr}
use Rattle.murphi_typed.specs.declared.expr.Designator as d
use Rattle.murphi_typed.specs.declared.expr.Designator.{Designator}
use Rattle.murphi_typed.specs.declared.expr.Selector as select
use Rattle.murphi_typed.specs.Forms.{ArrayForm}
use Rattle.murphi_typed.specs.WellTyped.{numbers, row_field, only_if}
use Rattle.murphi_types.specs.declared.fault.Cause.TheVariants as cause
use Rattle.murphi_types.specs.declared.fault.Fault.{Fault}
use Rattle.murphi_types.specs.declared.scope.Meaning.{Meaning}
use Rattle.murphi_types.specs.declared.scope.Meaning.TheVariants as meaning
use Rattle.murphi_types.specs.declared.scope.Known.{Known}
use Rattle.murphi_types.specs.Faults.{lone, unless}
use Rattle.murphi_types.specs.Fitting.{fits, is_simple, has_values_of, as_value}
use Rattle.murphi_types.specs.Found.{Found}

-- what a designator starts with: a variable; a value that may not be written, which is that of a constant, an
-- enum name or a bound variable; or nothing that has a value
pub data Start : Type 0 where
  Rooted : Root → Start
  Fixed : Expr → Start
  Nowhere : Start

-- a start or a step of a designator: the type after it
pub record Chosen : Type 0 where
  pub type : Option AnyType
  pub faults : List Fault

abbrev pub chosen : AnyType → Chosen
chosen type = record { type = Some type; faults = [] }

-- nothing is chosen, with these faults or because something before it is wrong
abbrev pub nothing : List Fault → Chosen
nothing faults = record { type = None; faults = faults }

-- what a name starts, by what it stands for
abbrev pub start_of : Option Meaning → Start
start_of (Some (meaning.Variable root of)) = Rooted root
start_of (Some (meaning.Constant n)) = Fixed (x.Known (value.Number n))
start_of (Some (meaning.Member kind index count)) = Fixed (x.Known (value.Member kind index))
start_of (Some (meaning.Bound number over)) = Fixed (x.Bound number)
start_of _ = Nowhere

-- the type of a name where a value or a designator stands: E05 where it is not declared, E07 where it is the name
-- of a type, or of a routine without parentheses
abbrev pub start_type : Span → Option Meaning → Chosen
start_type at (Some (meaning.Variable root of)) = chosen of
start_type at (Some (meaning.Constant n)) = chosen (t.Simple numbers)
start_type at (Some (meaning.Member kind index count)) = chosen (t.Simple (simple.Listed kind count))
start_type at (Some (meaning.Bound number over)) = chosen (t.Simple over)
start_type at (Some (meaning.TypeName type)) = nothing (lone cause.E07 at)
start_type at (Some (meaning.Routine number)) = nothing (lone cause.E07 at)
start_type at (Some meaning.Refused) = nothing []
start_type at None = nothing (lone cause.E05 at)

abbrev pub field_or : Span → Option AnyType → Chosen
field_or at (Some type) = chosen type
field_or at None = nothing (lone cause.E05 at)

-- `.name`: E05 at the name where the record has no such field, E07 at the first token of the designator where
-- there is no record
abbrev pub field_chosen : Span → Named → Option AnyType → Chosen
field_chosen at name (Some (t.Record' _ fields)) = field_or name.at (row_field fields name.name)
field_chosen at name (Some _) = nothing (lone cause.E07 at)
field_chosen at name None = nothing []

-- the index type of an array
unfoldable pub index_type : Option AnyType → Option Simple
index_type (Some (ArrayForm over item)) = Some over
index_type _ = None

-- an index is of the index type, or ill-typed
abbrev pub index_fits : Option Simple → AnyType → Bool
index_fits (Some over) type = has_values_of over type
index_fits None type = true

-- `[index]`: E07 at the first token of the designator where there is no array; a wrong index has E07 of its own
unfoldable pub item_chosen : Span → Bool → Option AnyType → Chosen
item_chosen at typed (Some (ArrayForm over item)) = record { type = only_if typed (Some item); faults = [] }
item_chosen at typed (Some _) = nothing (lone cause.E07 at)
item_chosen at typed None = nothing []

-- the fields and indices after a name
pub record FoundSelectors : Type 0 where
  pub type : Option AnyType
  pub trees : List select.Selector
  pub weight : ℕ
  pub known : Known
  pub faults : List Fault

abbrev pub no_selectors : Option AnyType → Known → FoundSelectors
no_selectors type k = record { type = type; trees = []; weight = 0; known = k; faults = [] }

abbrev pub field_found : Named → Chosen → FoundSelectors → FoundSelectors
field_found name c g =
    record {
      type = g.type;
      trees = select.Field name.name ∷ g.trees;
      weight = g.weight;
      known = g.known;
      faults = c.faults ++ g.faults;
    }

-- the tree of an index; where there is no array it says nothing
abbrev pub index_tree : Option Simple → Expr → select.Selector
index_tree (Some over) index = select.Index over index
index_tree None index = select.Index simple.Truth index

abbrev pub index_found : Option Simple → Found → Chosen → FoundSelectors → FoundSelectors
index_found over f c g =
    record {
      type = g.type;
      trees = index_tree over f.tree ∷ g.trees;
      weight = f.weight + g.weight;
      known = g.known;
      faults = f.faults ++ (c.faults ++ g.faults);
    }

-- an index that is found, and then the rest of the designator
abbrev pub item_selected : Span → Option AnyType → Found → (Chosen → FoundSelectors) → FoundSelectors
item_selected at type f rest =
    index_found (index_type type) f (item_chosen at (is_some f.type) type) (rest (item_chosen at (is_some f.type) type))

-- a whole designator, with the place of its first token
pub record FoundPlace : Type 0 where
  pub start : Start
  pub at : Span
  pub type : Option AnyType
  pub selectors : List select.Selector
  pub weight : ℕ
  pub known : Known
  pub faults : List Fault

abbrev pub place_made : Span → Option Meaning → Chosen → FoundSelectors → FoundPlace
place_made at what c g =
    record {
      start = start_of what;
      at = at;
      type = g.type;
      selectors = g.trees;
      weight = suc g.weight;
      known = g.known;
      faults = c.faults ++ g.faults;
    }

abbrev pub designator_of : Root → FoundPlace → Designator
designator_of root p = d.Of root p.selectors p.at

-- a designator as an expression: the value that it is, or a read of its cell
abbrev pub read_tree : FoundPlace → Start → Expr
read_tree p (Rooted root) = x.Read (designator_of root p)
read_tree p (Fixed tree) = tree
read_tree p Nowhere = x.Known value.Undefined

abbrev pub read_found : FoundPlace → Found
read_found p =
    record {
      type = option_map as_value p.type;
      tree = read_tree p p.start;
      weight = p.weight;
      known = p.known;
      faults = p.faults;
    }

-- `isundefined(d)`: of a constant, an enum name, a parameter or a bound variable it is false
abbrev pub undefined_tree : FoundPlace → Start → Expr
undefined_tree p (Rooted root) = x.IsUndefined (designator_of root p)
undefined_tree p _ = x.Known (value.Truth false)

-- its designator has a simple type: E07 at the first token of the designator where it has not
abbrev pub undefined_found : FoundPlace → Found
undefined_found p =
    record {
      type = only_if (is_some p.type && fits is_simple p.type) (Some (t.Simple simple.Truth));
      tree = undefined_tree p p.start;
      weight = suc p.weight;
      known = p.known;
      faults = p.faults ++ unless (fits is_simple p.type) cause.E07 p.at;
    }
