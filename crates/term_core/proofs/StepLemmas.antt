-- Steps and starts: what a state after one holds.
use Rattle.std.proofs.Common.{◌≡◌, ℕ, suc, Bool, true, false, cond, List, [], ◌∷◌, ◌++◌, length, Option, Some, None, refl, sym, ap, ◌∙◌, subst, arith, pos}
use Rattle.std.specs.Prelude.{nat_eq, slice_get}
use Rattle.std.specs.List.{All}
use Rattle.std.specs.Option.{option_map_or}
use Rattle.std.proofs.lemmas.Option.{slice_get_within, get_or_from_slice_get}
use Rattle.std.proofs.lemmas.List.{length-map}
use Rattle.term_core.specs.declared.value.Value.{Value}
use Rattle.term_core.specs.declared.value.Value.TheVariants as v
use Rattle.term_core.specs.declared.value.Sort.{Sort}
use Rattle.term_core.specs.declared.value.Sort.TheVariants as sort
use Rattle.term_core.specs.declared.machine.CellFamily.{CellFamily}
use Rattle.term_core.specs.declared.machine.Update.{Update}
use Rattle.term_core.specs.declared.term.Term.{Term}
use Rattle.term_core.specs.declared.machine.TermRule.{TermRule}
use Rattle.term_core.specs.declared.machine.TermMachine.{TermMachine}
use Rattle.term_core.specs.Meaning.{value_of}
use Rattle.term_core.specs.Values.{is_of_sort}
use Rattle.term_core.specs.Variables.{has_axes}
use Rattle.term_core.specs.Cells.{Cell, State, IsState, cells, is_cell, cell_value, filled, may_have, family_may_have, blank_value, blank_state}
use Rattle.term_core.specs.Firing.{IsEnabled, IsStep, is_written, new_value, next_state, start_value, settled, update_for, Starts}
use Rattle.term_core.specs.Whole.{IsWhole, HasBlank, LeavesDefined, holds_zero}
use Rattle.term_core.proofs.CellLemmas.{blank_cell}
use Rattle.term_core.proofs.TableLemmas.{filled_value}
use Rattle.term_core.proofs.PlaceLemmas.{cell_axes}

-- values that the cells may have make a step
pub step_taken : (N : ℕ) (families : List CellFamily) (s : State) (r : TermRule) (p : List ℕ) → IsEnabled N (cell_value N families s) r p
    → ((f : ℕ) (at : List ℕ) → is_cell N families f at ≡ true → is_written r f ≡ true → may_have N families f (new_value N (cell_value N families s) r p f at) ≡ true)
    → IsStep N families s r p (next_state N families s r p)
step_taken N families s r p on may = record { enabled = on; next = refl; allowed = may }

-- any other value makes none
pub step_refused : (N : ℕ) (families : List CellFamily) (s : State) (r : TermRule) (p : List ℕ) (t : State) (f : ℕ) (at : List ℕ)
    → is_cell N families f at ≡ true → is_written r f ≡ true → may_have N families f (new_value N (cell_value N families s) r p f at) ≡ false → IsStep N families s r p t → ⊥
step_refused N families s r p t f at cell write no' step = let both : false ≡ true = sym no' ∙ step.allowed f at cell write in cc

-- a cell has its new value
pub step_cells : (N : ℕ) (families : List CellFamily) (s : State) (r : TermRule) (p : List ℕ) (t : State) (f : ℕ) (at : List ℕ) → IsStep N families s r p t → is_cell N families f at ≡ true → cell_value N families t f at ≡ new_value N (cell_value N families s) r p f at
step_cells N families s r p t f at step cell = ap (λ u. cell_value N families u f at) step.next ∙ filled_value N families (new_value N (cell_value N families s) r p) f at cell

-- there is a value for each cell
length-filled : (N : ℕ) (families : List CellFamily) (g : ℕ → List ℕ → Value) → length (filled N families g) ≡ length (cells N families)
length-filled N families g = length-map (cells N families) (λ (c : Cell). g c.family c.at)

-- the value that a cell gets is one that it may have: a written one as the step asks, another as the state has it
step_allowed : (N : ℕ) (families : List CellFamily) (s : State) (r : TermRule) (p : List ℕ) (t : State) → IsState N families s → IsStep N families s r p t
    → (f : ℕ) (at : List ℕ) → is_cell N families f at ≡ true → may_have N families f (new_value N (cell_value N families s) r p f at) ≡ true
step_allowed N families s r p t is step f at cell = go (update_for r.updates f) refl
  where
    go : (o : Option Term) → update_for r.updates f ≡ o → may_have N families f (new_value N (cell_value N families s) r p f at) ≡ true
    go (Some body) e = step.allowed f at cell (ap (λ u. option_map_or (λ _. true) u false) e)
    go None e = ap (λ u. may_have N families f (option_map_or (λ body. value_of N (cell_value N families s) (p ++ at) body) u (cell_value N families s f at))) e ∙ is.values f at cell

-- a state comes after a step
pub step_state : (N : ℕ) (families : List CellFamily) (s : State) (r : TermRule) (p : List ℕ) (t : State) → IsState N families s → IsStep N families s r p t → IsState N families t
step_state N families s r p t is step = record {
  count = ap length step.next ∙ length-filled N families (new_value N (cell_value N families s) r p);
  values = λ f at cell. ap (may_have N families f) (step_cells N families s r p t f at step cell) ∙ step_allowed N families s r p t is step f at cell;
}

-- where each update is of a family that can be undefined, one that cannot has none
no_update : (families : List CellFamily) (us : List Update) (f : ℕ) → All (λ u. option_map_or (λ (family : CellFamily). family.undefined) (slice_get families u.family) false ≡ true) us → option_map_or (λ (family : CellFamily). family.undefined) (slice_get families f) false ≡ false → update_for us f ≡ None
no_update families [] f all h = refl
no_update families (u ∷ us) f all h = go (nat_eq u.family f) refl (no_update families us f (λ k d less. all (suc k) d (omega (arith, less))) h)
  where
    go : (b : Bool) → nat_eq u.family f ≡ b → update_for us f ≡ None → cond b (Some u.body) (update_for us f) ≡ None
    go false was again = again
    go true was again =
        let e : u.family ≡ f = grind (arith, was) in
        let this : option_map_or (λ (family : CellFamily). family.undefined) (slice_get families u.family) false ≡ true = all 0 u (omega arith) in
        let both : false ≡ true = sym h ∙ ap (λ k. option_map_or (λ (family : CellFamily). family.undefined) (slice_get families k) false) (sym e) ∙ this in
        cc

-- 0 is of a range that holds it
zero_of_sort : (N : ℕ) (s : Sort) → holds_zero s ≡ true → is_of_sort N s (v.Number (pos 0)) ≡ true
zero_of_sort N (sort.Range low high) h = h
zero_of_sort N _ h = cc

-- a cell that cannot be undefined may be blank
pub blank_allowed : (N : ℕ) (family : CellFamily) → HasBlank family → family_may_have N family (blank_value family) ≡ true
blank_allowed N family has = go family.undefined refl
  where
    go : (b : Bool) → family.undefined ≡ b → family_may_have N family (cond b v.Undefined (v.Number (pos 0))) ≡ true
    go true was = was
    go false was = zero_of_sort N family.sort (has was)

-- after a start a cell has a value that it may have
start_allowed : (N : ℕ) (families : List CellFamily) (r : TermRule) (p : List ℕ) → All HasBlank families → LeavesDefined families r → (f : ℕ) (at : List ℕ) → is_cell N families f at ≡ true → may_have N families f (start_value N families r p f at) ≡ true
start_allowed N families r p blanks leaves f at cell = known (slice_get families f) refl
  where
    known : (o : Option CellFamily) → slice_get families f ≡ o → may_have N families f (settled N families f (new_value N (cell_value N families (blank_state N families)) r p f at)) ≡ true
    known None was = let e : has_axes families f (length at) ≡ false = ap (λ o. option_map_or (λ (g : CellFamily). nat_eq (length at) g.axes) o false) was in let both : false ≡ true = sym e ∙ cell_axes N families f at cell in cc
    known (Some family) was = settle (may_have N families f (new_value N (cell_value N families (blank_state N families)) r p f at)) refl
      where
        settle : (b : Bool) → may_have N families f (new_value N (cell_value N families (blank_state N families)) r p f at) ≡ b → may_have N families f (cond b (new_value N (cell_value N families (blank_state N families)) r p f at) v.Undefined) ≡ true
        settle true may = may
        settle false may = undefined' family.undefined refl
          where
            undefined' : (b : Bool) → family.undefined ≡ b → may_have N families f v.Undefined ≡ true
            undefined' true can = ap (λ o. option_map_or (λ (g : CellFamily). family_may_have N g v.Undefined) o false) was ∙ can
            undefined' false can =
                let no_one = no_update families r.updates f leaves (ap (λ o. option_map_or (λ (g : CellFamily). g.undefined) o false) was ∙ can) in
                let blank : new_value N (cell_value N families (blank_state N families)) r p f at ≡ blank_value family = ap (λ o. option_map_or (λ body. value_of N (cell_value N families (blank_state N families)) (p ++ at) body) o (cell_value N families (blank_state N families) f at)) no_one ∙ blank_cell N families family f at was cell in
                let has : HasBlank family = subst HasBlank (get_or_from_slice_get families f family family was) (blanks f family (slice_get_within families f family was)) in
                let allowed : may_have N families f (blank_value family) ≡ true = ap (λ o. option_map_or (λ (g : CellFamily). family_may_have N g (blank_value family)) o false) was ∙ blank_allowed N family has in
                let both : false ≡ true = sym may ∙ ap (may_have N families f) blank ∙ allowed in
                cc

-- a start of a whole machine leaves a state
pub start_is_state : (N : ℕ) (m : TermMachine) (k : ℕ) (p : List ℕ) (t : State) → IsWhole m → Starts N m k p t → IsState N m.families t
start_is_state N m k p t whole start =
    let (r, is_start, chosen, left) = start in
    let leaves : LeavesDefined m.families r = subst (LeavesDefined m.families) (get_or_from_slice_get m.starts k r r is_start) (whole.blanks.1 k r (slice_get_within m.starts k r is_start)) in
    record {
      count = ap length left ∙ length-filled N m.families (start_value N m.families r p);
      values = λ f at cell. ap (λ u. may_have N m.families f (cell_value N m.families u f at)) left
          ∙ ap (may_have N m.families f) (filled_value N m.families (start_value N m.families r p) f at cell)
          ∙ start_allowed N m.families r p whole.blanks.0 leaves f at cell;
    }

-- a state filled with values that the cells may have is one
pub filled_is_state : (N : ℕ) (families : List CellFamily) (g : ℕ → List ℕ → Value) → ((f : ℕ) (at : List ℕ) → is_cell N families f at ≡ true → may_have N families f (g f at) ≡ true) → IsState N families (filled N families g)
filled_is_state N families g may = record {
  count = length-filled N families g;
  values = λ f at cell. ap (may_have N families f) (filled_value N families g f at cell) ∙ may f at cell;
}
