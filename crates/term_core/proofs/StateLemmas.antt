-- What stays a state: the blank one, one with a cell written, and each that a run reaches.
use Rattle.std.proofs.Common.{◌≡◌, ℕ, Bool, true, false, List, [], ◌∷◌, length, Option, Some, None, refl, sym, ap, ◌∙◌, subst}
use Rattle.std.specs.Prelude.{nat_eq, slice_get}
use Rattle.std.specs.List.{All}
use Rattle.std.specs.Option.{option_map_or}
use Rattle.std.proofs.lemmas.Option.{slice_get_within, get_or_from_slice_get}
use Rattle.std.proofs.lemmas.List.{length-set}
use Rattle.term_core.specs.declared.value.Value.{Value}
use Rattle.term_core.specs.declared.machine.CellFamily.{CellFamily}
use Rattle.term_core.specs.declared.machine.TermMachine.{TermMachine}
use Rattle.term_core.specs.Variables.{has_axes}
use Rattle.term_core.specs.Cells.{State, IsState, is_cell, place_of, cell_value, with_cell, may_have, family_may_have, blank_value, blank_state}
use Rattle.term_core.specs.Firing.{IsRun, IsReached}
use Rattle.term_core.specs.Whole.{IsWhole, HasBlank}
use Rattle.term_core.proofs.CellLemmas.{one_cell, blank_cell}
use Rattle.term_core.proofs.TableLemmas.{written_value, beside_value}
use Rattle.term_core.proofs.OrderLemmas.{length-cells}
use Rattle.term_core.proofs.PlaceLemmas.{cell_axes, length-blank_state}
use Rattle.term_core.proofs.StepLemmas.{blank_allowed, step_state, start_is_state}

blank_cell_allowed : (N : ℕ) (fs : List CellFamily) → All HasBlank fs → (f : ℕ) (at : List ℕ) → is_cell N fs f at ≡ true → may_have N fs f (cell_value N fs (blank_state N fs) f at) ≡ true
blank_cell_allowed N fs blanks f at cell = known (slice_get fs f) refl
  where
    known : (o : Option CellFamily) → slice_get fs f ≡ o → may_have N fs f (cell_value N fs (blank_state N fs) f at) ≡ true
    known None was =
        let e : has_axes fs f (length at) ≡ false = ap (λ o. option_map_or (λ (g : CellFamily). nat_eq (length at) g.axes) o false) was in
        let both : false ≡ true = sym e ∙ cell_axes N fs f at cell in
        cc
    known (Some family) was =
        let has : HasBlank family = subst HasBlank (get_or_from_slice_get fs f family family was) (blanks f family (slice_get_within fs f family was)) in
        ap (may_have N fs f) (blank_cell N fs family f at was cell)
        ∙ ap (λ o. option_map_or (λ (g : CellFamily). family_may_have N g (blank_value family)) o false) was
        ∙ blank_allowed N family has

-- the state before anything is written is one
pub blank_is_state : (N : ℕ) (fs : List CellFamily) → All HasBlank fs → IsState N fs (blank_state N fs)
blank_is_state N fs blanks = record { count = length-blank_state N fs ∙ sym (length-cells N fs); values = blank_cell_allowed N fs blanks }

-- a state with a cell written is one
pub written_is_state : (N : ℕ) (fs : List CellFamily) (s : State) (f : ℕ) (at : List ℕ) (x : Value) → IsState N fs s → is_cell N fs f at ≡ true → may_have N fs f x ≡ true → IsState N fs (with_cell N fs s f at x)
written_is_state N fs s f at x is cell may = record { count = length-set s (place_of N fs f at) x ∙ is.count; values = λ g other there. go g other there (nat_eq (place_of N fs g other) (place_of N fs f at)) refl }
  where
    go : (g : ℕ) (other : List ℕ) → is_cell N fs g other ≡ true → (b : Bool) → nat_eq (place_of N fs g other) (place_of N fs f at) ≡ b → may_have N fs g (cell_value N fs (with_cell N fs s f at x) g other) ≡ true
    go g other there false was = ap (may_have N fs g) (beside_value N fs s f g at other x there was) ∙ is.values g other there
    go g other there true was =
        let (family, nodes) = one_cell N fs f g at other cell there was in
        ap (may_have N fs g)
        (ap (λ k. cell_value N fs (with_cell N fs s f at x) k other) (sym family)
        ∙ ap (cell_value N fs (with_cell N fs s f at x) f) (sym nodes)
        ∙ written_value N fs s f at x is.count cell)
        ∙ ap (λ k. may_have N fs k x) (sym family)
        ∙ may

-- each state that a whole machine reaches is one
pub run_is_state : (N : ℕ) (m : TermMachine) (s : State) (earlier : List State) → IsWhole m → IsRun N m (s ∷ earlier) → IsState N m.families s
run_is_state N m s [] whole (k, p, start) = start_is_state N m k p s whole start
run_is_state N m t (s ∷ earlier) whole (last, before) =
    let (k, p, fires) = last in
    let (r, is_rule, chosen, step) = fires in
    step_state N m.families s r p t (run_is_state N m s earlier whole before) step

pub reached_is_state : (N : ℕ) (m : TermMachine) (s : State) → IsWhole m → IsReached N m s → IsState N m.families s
reached_is_state N m s whole (earlier, run) = run_is_state N m s earlier whole run
