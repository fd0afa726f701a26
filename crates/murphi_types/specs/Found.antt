-- What is found of an expression: its type, the typed expression, its weight, what is declared for the whole text
-- after it, and all its faults. A part in which anything is wrong has no type; its tree then says nothing.
use Rattle.std.specs.Prelude.{ℕ, suc, ◌+◌, Bool, true, ◌&&◌, List, [], ◌∷◌, ◌++◌, Option, Some, is_some}
use Rattle.term_core.specs.declared.value.Value.{Value}
use Rattle.murphi_ast.specs.declared.token.Span.{Span}
use Rattle.murphi_ast.specs.declared.expr.ChainOp.{ChainOp}
use Rattle.murphi_ast.specs.declared.expr.CompareOp.{CompareOp}
use Rattle.murphi_typed.specs.declared.types.Simple.{Simple}
use Rattle.murphi_typed.specs.declared.types.Simple.TheVariants as simple
use Rattle.murphi_typed.specs.declared.types.AnyType as t
use Rattle.murphi_typed.specs.declared.types.AnyType.{AnyType}
use Rattle.murphi_typed.specs.declared.expr.Expr as x
use Rattle.murphi_typed.specs.declared.expr.Expr.{Expr}
use Rattle.murphi_typed.specs.declared.expr.Link.{Link}
use Rattle.murphi_typed.specs.WellTyped.{numbers, only_if}
use Rattle.murphi_types.specs.declared.fault.Cause.TheVariants as cause
use Rattle.murphi_types.specs.declared.fault.Fault.{Fault}
use Rattle.murphi_types.specs.declared.scope.Known.{Known}
use Rattle.murphi_types.specs.Faults.{unless}
use Rattle.murphi_types.specs.Fitting.{fits}

pub record Found : Type 0 where
  pub type : Option AnyType
  pub tree : Expr
  pub weight : ℕ
  pub known : Known
  pub faults : List Fault

-- one part, the next with what is known after it, and what the two make
abbrev pub with_more : {A B C : Type 0} → A → (A → B) → (A → B → C) → C
with_more first next made = made first (next first)

-- a part that has to pass a test of its type: E07 at its first token where it does not
abbrev pub wanted : (AnyType → Bool) → Span → Found → Found
wanted test at f =
    record {
      type = only_if (fits test f.type) f.type;
      tree = f.tree;
      weight = f.weight;
      known = f.known;
      faults = f.faults ++ unless (fits test f.type) cause.E07 at;
    }

-- a whole of this type, where all its parts are well typed
abbrev pub whole : Bool → Simple → Expr → ℕ → Known → List Fault → Found
whole typed type tree weight known faults =
    record {
      type = only_if typed (Some (t.Simple type));
      tree = tree;
      weight = weight;
      known = known;
      faults = faults;
    }

-- a value as it is written
abbrev pub literal : Simple → Value → Known → Found
literal type v k = whole true type (x.Known v) 1 k []

-- `! body`
abbrev pub not_found : Found → Found
not_found f = whole (is_some f.type) simple.Truth (x.Not f.tree) (suc f.weight) f.known f.faults

-- `- body`
abbrev pub minus_found : Found → Found
minus_found f = whole (is_some f.type) numbers (x.Minus f.tree) (suc f.weight) f.known f.faults

-- `left -> right`
abbrev pub implies_found : Found → Found → Found
implies_found f g =
    whole (is_some f.type && is_some g.type) simple.Truth (x.Implies f.tree g.tree)
    (suc (f.weight + g.weight)) g.known (f.faults ++ g.faults)

-- `left = right` and the other comparisons
abbrev pub compare_found : CompareOp → Found → Found → Found
compare_found op f g =
    whole (is_some f.type && is_some g.type) simple.Truth (x.Compare op f.tree g.tree)
    (suc (f.weight + g.weight)) g.known (f.faults ++ g.faults)

-- the two parts of `?:`, which are of one type: that of the left one
pub record FoundParts : Type 0 where
  pub type : Option AnyType
  pub then' : Expr
  pub else' : Expr
  pub weight : ℕ
  pub known : Known
  pub faults : List Fault

abbrev pub parts_found : Found → Found → FoundParts
parts_found f g =
    record {
      type = only_if (is_some g.type) f.type;
      then' = f.tree;
      else' = g.tree;
      weight = f.weight + g.weight;
      known = g.known;
      faults = f.faults ++ g.faults;
    }

-- `test ? then : else`
abbrev pub choice_found : Found → FoundParts → Found
choice_found f g =
    record {
      type = only_if (is_some f.type) g.type;
      tree = x.Choice f.tree g.then' g.else';
      weight = suc (f.weight + g.weight);
      known = g.known;
      faults = f.faults ++ g.faults;
    }

-- the further operands of a chain
pub record FoundLinks : Type 0 where
  pub typed : Bool
  pub trees : List Link
  pub weight : ℕ
  pub known : Known
  pub faults : List Fault

abbrev pub no_links : Known → FoundLinks
no_links k = record { typed = true; trees = []; weight = 0; known = k; faults = [] }

abbrev pub link_found : ChainOp → Found → FoundLinks → FoundLinks
link_found op f g =
    record {
      typed = is_some f.type && g.typed;
      trees = record { op = op; operand = f.tree } ∷ g.trees;
      weight = f.weight + g.weight;
      known = g.known;
      faults = f.faults ++ g.faults;
    }

-- operands of one level, from left to right: the whole is of the type of the operands
abbrev pub chain_found : Simple → Found → FoundLinks → Found
chain_found type f g =
    whole (is_some f.type && g.typed) type (x.Chain f.tree g.trees) (suc (f.weight + g.weight)) g.known
    (f.faults ++ g.faults)
