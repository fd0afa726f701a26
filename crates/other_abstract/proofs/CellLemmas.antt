-- Cells by their families and nodes, and what is known of cells, states and steps.
use Rattle.std.proofs.Common.{◌≡◌, ℕ, true, false, ◌&&◌, cond, List, length, Option, Some, None, refl, sym, ap, ◌∙◌}
use Rattle.std.specs.Prelude.{nat_eq, slice_get, unwrap_or, IsTrue}
use Rattle.std.specs.List.{All, list_all}
use Rattle.std.specs.Option.{option_map_or}
use Rattle.std.proofs.lemmas.Bool.{and_parts}
use Rattle.term_core.specs.declared.value.Value.TheVariants as v
use Rattle.term_core.specs.declared.machine.CellFamily.{CellFamily}
use Rattle.term_core.specs.declared.machine.TermRule.{TermRule}
use Rattle.term_core.specs.declared.machine.TermMachine.{TermMachine}
use Rattle.term_core.specs.Nodes.{is_node}
use Rattle.term_core.specs.Variables.{has_axes}
use Rattle.term_core.specs.Meaning.{Cells}
use Rattle.term_core.specs.Cells.{State, IsState, cells, is_cell, place_of, cell_value, filled, blank_value, blank_state}
use Rattle.term_core.specs.Firing.{IsStep, IsReached, Starts, new_value}
use Rattle.term_core.specs.Whole.{IsWhole, HasBlank}
use Rattle.term_core.specs.Laws.{PlacesHaveCells}

-- what the crate of terms ensures of cells, states and steps
pub record Known : Type 0 where
  pub places : (N : ℕ) (families : List CellFamily) (f : ℕ) (at : List ℕ) → IsTrue (is_cell N families f at) → slice_get (cells N families) (place_of N families f at) ≡ Some (record { family = f; at = at })
  pub cells_there : PlacesHaveCells
  pub filled : (N : ℕ) (families : List CellFamily) (g : Cells) (f : ℕ) (at : List ℕ) → IsTrue (is_cell N families f at) → cell_value N families (filled N families g) f at ≡ g f at
  pub blank : (N : ℕ) (families : List CellFamily) (family : CellFamily) (f : ℕ) (at : List ℕ) → slice_get families f ≡ Some family → IsTrue (is_cell N families f at) → cell_value N families (blank_state N families) f at ≡ blank_value family
  pub stepped : (N : ℕ) (families : List CellFamily) (s : State) (r : TermRule) (p : List ℕ) (t : State) (f : ℕ) (at : List ℕ) → IsStep N families s r p t → IsTrue (is_cell N families f at) → cell_value N families t f at ≡ new_value N (cell_value N families s) r p f at
  pub next : (N : ℕ) (families : List CellFamily) (s : State) (r : TermRule) (p : List ℕ) (t : State) → IsState N families s → IsStep N families s r p t → IsState N families t
  pub started : (N : ℕ) (m : TermMachine) (k : ℕ) (p : List ℕ) (t : State) → IsWhole m → Starts N m k p t → IsState N m.families t
  pub blank_state : (N : ℕ) (families : List CellFamily) → All HasBlank families → IsState N families (blank_state N families)
  pub reached : (N : ℕ) (m : TermMachine) (s : State) → IsWhole m → IsReached N m s → IsState N m.families s

-- a cell is a choice of nodes for the axes of its family
pub is_cell_is : (N : ℕ) (fs : List CellFamily) (k : ℕ) (at : List ℕ) → is_cell N fs k at ≡ has_axes fs k (length at) && list_all (is_node N) at
is_cell_is N fs k at = go (slice_get fs k)
  where
    go : (o : Option CellFamily) → option_map_or (λ (family : CellFamily). nat_eq (length at) family.axes && list_all (is_node N) at) o false ≡ option_map_or (λ (family : CellFamily). nat_eq (length at) family.axes) o false && list_all (is_node N) at
    go None = refl
    go (Some f) = refl

pub cell_axes : (N : ℕ) (fs : List CellFamily) (k : ℕ) (at : List ℕ) → is_cell N fs k at ≡ true → has_axes fs k (length at) ≡ true
cell_axes N fs k at h = (and_parts (has_axes fs k (length at)) (list_all (is_node N) at) (sym (is_cell_is N fs k at) ∙ h)).0

pub cell_nodes : (N : ℕ) (fs : List CellFamily) (k : ℕ) (at : List ℕ) → is_cell N fs k at ≡ true → list_all (is_node N) at ≡ true
cell_nodes N fs k at h = (and_parts (has_axes fs k (length at)) (list_all (is_node N) at) (sym (is_cell_is N fs k at) ∙ h)).1

-- where there is no cell the value is undefined
pub no_cell_value : (N : ℕ) (fs : List CellFamily) (s : State) (k : ℕ) (at : List ℕ) → is_cell N fs k at ≡ false → v.Undefined ≡ cell_value N fs s k at
no_cell_value N fs s k at h = sym (ap (λ b. cond b (unwrap_or (slice_get s (place_of N fs k at)) v.Undefined) v.Undefined) h)
