-- Where the last terms represent a store, the updates lead to the state of this store.
use Rattle.std.proofs.Common.{◌≡◌, ℕ, zero, suc, true, false, ◌&&◌, List, [], ◌∷◌, length, map, Some, refl, sym, ap, ◌∙◌}
use Rattle.std.specs.Prelude.{nat_eq, slice_get, IsTrue}
use Rattle.std.specs.List.{list_all}
use Rattle.std.specs.Option.{option_map_or}
use Rattle.std.proofs.lemmas.Bool.{and_parts}
use Rattle.term_core.specs.declared.value.Value.{Value}
use Rattle.term_core.specs.declared.value.Value.TheVariants as v
use Rattle.term_core.specs.declared.machine.CellFamily.{CellFamily}
use Rattle.term_core.specs.declared.machine.TermRule.{TermRule}
use Rattle.term_core.specs.Nodes.{is_node}
use Rattle.term_core.specs.Cells.{State as MachineState, cells, is_cell, cell_value, family_may_have, may_have}
use Rattle.term_core.specs.Firing.{new_value, next_state}
use Rattle.murphi_typed.specs.declared.protocol.Typed.{Typed}
use Rattle.murphi_typed.specs.Store.{Cells as Store}
use Rattle.murphi_typed.specs.Values.{may_hold}
use Rattle.murphi_typed.specs.Families.{cells as store_cells}
use Rattle.murphi_typed.specs.Keeping.{IsState}
use Rattle.murphi_typed.specs.Steps.{State, cells_of, state_of, value_in}
use Rattle.murphi_typed.specs.Laws.{StatesHaveValues}
use Rattle.rule_inline.specs.Tables.{holes, Terms, Change}
use Rattle.rule_inline.specs.Presents.{cell_in, state_over}
use Rattle.rule_inline.specs.Machine.{CellsOf, families_of, cell_family, updates_from, trans}
use Rattle.rule_inline.proofs.ValueLemmas.{absurd_false, nats_one}
use Rattle.rule_inline.proofs.PlaceLemmas.{Rep}
use Rattle.rule_inline.proofs.ChangeLemmas.{Unwritten}
use Rattle.rule_inline.proofs.FirstTerms.{FilledValues, machine_value, get_map}
use Rattle.rule_inline.proofs.StepLemmas.{each_at, each_found, OfFamily, each_family, new_is, state_value}

-- states that have one value at each cell are one
abbrev pub StatesAreOne : Type 0
StatesAreOne =
    (N : ℕ) (families : List CellFamily) (s t : MachineState) → length s ≡ length (cells N families) → length t ≡ length (cells N families)
    → ((f : ℕ) (at : List ℕ) → IsTrue (is_cell N families f at) → cell_value N families s f at ≡ cell_value N families t f at) → s ≡ t

pub long_map : {X Y : Type 0} (g : X → Y) (xs : List X) → length (map g xs) ≡ length xs
long_map g [] = refl
long_map g (y ∷ ys) = ap suc (long_map g ys)

abbrev pub IsFamilyCell : ℕ → List CellsOf → ℕ → List ℕ → Type 0
IsFamilyCell N ds f at = (d : CellsOf) × (slice_get ds f ≡ Some d) × (length at ≡ holes d.key) × (list_all (is_node N) at ≡ true)

pub cell_there : (N : ℕ) (T : Typed) (ds : List CellsOf) (f : ℕ) (at : List ℕ) → option_map_or (λ (family : CellFamily). nat_eq (length at) family.axes && list_all (is_node N) at) (slice_get (map (cell_family T) ds) f) false ≡ true → IsFamilyCell N ds f at
cell_there N T [] f at e = absurd_false e
cell_there N T (d ∷ ds) zero at e =
    let (long, nodes) = and_parts (nat_eq (length at) (holes d.key)) (list_all (is_node N) at) e in
    (d, refl, nats_one (length at) (holes d.key) long, nodes)
cell_there N T (d ∷ ds) (suc f) at e = cell_there N T ds f at e

pub next_is : StatesAreOne → FilledValues → StatesHaveValues → (N : ℕ) (T : Typed) (s : State) (r : TermRule) (ns : List ℕ) (first : Terms) (change : Change) (final : Store)
    → r.updates ≡ updates_from 0 (families_of T) change
    → Rep N (cell_value N (trans T).families (state_over N T (trans T).families s)) 0 ns first (cells_of N T s)
    → Rep N (cell_value N (trans T).families (state_over N T (trans T).families s)) 0 ns change.now final
    → Unwritten 0 first change
    → state_over N T (trans T).families (state_of N T final) ≡ next_state N (trans T).families (state_over N T (trans T).families s) r ns
next_is one fill have N T s r ns first change final updates before after unwritten =
    one N (trans T).families (state_over N T (trans T).families (state_of N T final)) (next_state N (trans T).families (state_over N T (trans T).families s) r ns)
    (long_map _ (cells N (trans T).families)) (long_map _ (cells N (trans T).families)) same
  where
    same : (f : ℕ) (at : List ℕ) → IsTrue (is_cell N (trans T).families f at) → cell_value N (trans T).families (state_over N T (trans T).families (state_of N T final)) f at ≡ cell_value N (trans T).families (next_state N (trans T).families (state_over N T (trans T).families s) r ns) f at
    same f at is =
        let (d, found, long, nodes) = cell_there N T (families_of T) f at is in
        machine_value fill N T (state_of N T final) f d at found long nodes
        ∙ state_value N have T final f d at found long nodes
        ∙ sym (new_is N T (cell_value N (trans T).families (state_over N T (trans T).families s)) ns first change (cells_of N T s) final before after unwritten f d at found long nodes (machine_value fill N T s f d at found long nodes))
        ∙ sym (ap (λ us. new_value N (cell_value N (trans T).families (state_over N T (trans T).families s)) (record r { updates = us }) ns f at) updates)
        ∙ sym (fill N (trans T).families (new_value N (cell_value N (trans T).families (state_over N T (trans T).families s)) r ns) f at is)

-- Each cell of the state after a body may have its value

family_holds : (N : ℕ) (T : Typed) (d : CellsOf) (w : Value) → may_hold N d.of w ≡ true → family_may_have N (cell_family T d) w ≡ true
family_holds N T d v.Undefined e = refl
family_holds N T d (v.Truth b) e = e
family_holds N T d (v.Number z) e = e
family_holds N T d (v.Member k i) e = e
family_holds N T d (v.Node n) e = e

pub may_have_value : (N : ℕ) (T : Typed) (final : Store) → IsState N T (state_of N T final) → (f : ℕ) (at : List ℕ) → IsTrue (is_cell N (trans T).families f at) → IsFamilyCell N (families_of T) f at
    → (w : Value) → ((d : CellsOf) → slice_get (families_of T) f ≡ Some d → w ≡ cell_in final d at) → IsTrue (may_have N (trans T).families f w)
may_have_value N T final state f at is (d, found, long, nodes) w same =
    ap (λ o. option_map_or (λ family. family_may_have N family w) o false) (get_map (cell_family T) (families_of T) f d found)
    ∙ family_holds N T d w (ap (may_hold N d.of) (same d found)
    ∙ each_at (OfFamily N (λ c. may_hold N c.way.leaf (value_in final c) ≡ true)) (families_of T)
    (each_family N T (λ c. may_hold N c.way.leaf (value_in final c) ≡ true) (each_found N (λ c. may_hold N c.way.leaf (value_in final c) ≡ true) (store_cells N T) (λ k c there. state.values k c (value_in final c) there (get_map (value_in final) (store_cells N T) k c there))))
    f d found at long nodes)
