-- A read, by the place to which its indices lead.
use Rattle.std.proofs.Common.{◌≡◌, ℕ, suc, ◌+◌, ◌-◌, ◌*◌, Bool, true, false, ◌&&◌, cond, List, [], ◌∷◌, length, Option, Some, None, refl, sym, ap, ◌∙◌, subst}
use Rattle.std.specs.Prelude.{slice_get, unwrap_or}
use Rattle.std.specs.List.{list_all}
use Rattle.std.specs.Option.{option_map}
use Rattle.term_core.specs.declared.value.Value.{Value}
use Rattle.term_core.specs.declared.value.Value.TheVariants as v
use Rattle.term_core.specs.declared.machine.CellFamily.{CellFamily}
use Rattle.term_core.specs.declared.term.Term.{Term}
use Rattle.term_core.specs.Nodes.{is_node}
use Rattle.term_core.specs.Meaning.{Cells, value_of, index_of, with_index, cell_at}
use Rattle.term_core.specs.Variables.{has_axes}
use Rattle.term_core.specs.Cells.{State, is_cell, first_place, choice_place, cell_value}
use Rattle.term_core.specs.Lists.{list_indices, list_place, led_on, nodes_place}
use Rattle.term_core.proofs.PlaceLemmas.{nodes_place_0, cell_from, no_cell_from, cell_value_is, no_cell_value}

-- the place of the indices is that of the nodes
list_place_is : (N : ℕ) (c : Cells) (fr : List ℕ) (p : ℕ) (ts : List Term) → list_place N c fr p ts ≡ option_map (nodes_place N p) (list_indices N c fr ts)
list_place_is N c fr p [] = refl
list_place_is N c fr p (t ∷ ts) = go (index_of N (value_of N c fr t)) (λ q. list_place_is N c fr q ts)
  where
    then' : (n : ℕ) (o : Option (List ℕ)) → option_map (nodes_place N (p * N + (n - 1))) o ≡ option_map (nodes_place N p) (with_index (Some n) o)
    then' n None = refl
    then' n (Some ns) = refl

    go : (o : Option ℕ) → ((q : ℕ) → list_place N c fr q ts ≡ option_map (nodes_place N q) (list_indices N c fr ts)) → led_on N p o (λ q. list_place N c fr q ts) ≡ option_map (nodes_place N p) (with_index o (list_indices N c fr ts))
    go None again = refl
    go (Some n) again = again (p * N + (n - 1)) ∙ then' n (list_indices N c fr ts)

-- an index is one of the nodes
pub index_is_node : (N : ℕ) (x : Value) (n : ℕ) → index_of N x ≡ Some n → is_node N n ≡ true
index_is_node N (v.Node m) n h = go (is_node N m) refl h
  where
    some_is : {a b : ℕ} → Some a ≡ Some b → a ≡ b
    some_is e = cc

    go : (b : Bool) → is_node N m ≡ b → cond b (Some m) None ≡ Some n → is_node N n ≡ true
    go true was e = subst (λ k. is_node N k ≡ true) (some_is e) was
    go false was e = cc
index_is_node N _ n h = cc

-- the indices are nodes, one for each term
record AreIndices (N : ℕ) (ts : List Term) (ns : List ℕ) : Type 0 where
  count : length ns ≡ length ts
  nodes : list_all (is_node N) ns ≡ true

indices_are : (N : ℕ) (c : Cells) (fr : List ℕ) (ts : List Term) (ns : List ℕ) → list_indices N c fr ts ≡ Some ns → AreIndices N ts ns
indices_are N c fr [] ns h = let e : [] ≡ ns = some_is h in record { count = ap length (sym e); nodes = ap (list_all (is_node N)) (sym e) }
  where
    some_is : {a b : List ℕ} → Some a ≡ Some b → a ≡ b
    some_is e = cc
indices_are N c fr (t ∷ ts) ns h = go (index_of N (value_of N c fr t)) (list_indices N c fr ts) (index_is_node N (value_of N c fr t)) (indices_are N c fr ts) h
  where
    some_is : {a b : List ℕ} → Some a ≡ Some b → a ≡ b
    some_is e = cc

    go : (o : Option ℕ) (os : Option (List ℕ)) → ((n : ℕ) → o ≡ Some n → is_node N n ≡ true) → ((ms : List ℕ) → os ≡ Some ms → AreIndices N ts ms) → with_index o os ≡ Some ns → AreIndices N (t ∷ ts) ns
    go None os one more e = cc
    go (Some n) None one more e = cc
    go (Some n) (Some ms) one more e =
        let same : n ∷ ms ≡ ns = some_is e in
        let all = more ms refl in
        record { count = ap length (sym same) ∙ ap suc all.count; nodes = subst (λ xs. list_all (is_node N) xs ≡ true) same (ap (λ b. b && list_all (is_node N) ms) (one n refl) ∙ all.nodes) }

-- at a family that has not as many axes the read is undefined
pub read_nothing : (N : ℕ) (fs : List CellFamily) (s : State) (fr : List ℕ) (f : ℕ) (ts : List Term) → has_axes fs f (length ts) ≡ false → v.Undefined ≡ cell_at (cell_value N fs s) f (list_indices N (cell_value N fs s) fr ts)
read_nothing N fs s fr f ts h = go (list_indices N (cell_value N fs s) fr ts) (indices_are N (cell_value N fs s) fr ts)
  where
    go : (o : Option (List ℕ)) → ((ns : List ℕ) → o ≡ Some ns → AreIndices N ts ns) → v.Undefined ≡ cell_at (cell_value N fs s) f o
    go None are = refl
    go (Some ns) are = no_cell_value N fs s f ns (sym (no_cell_from N fs f ns (ap (has_axes fs f) (are ns refl).count ∙ h)))

-- where an index is undefined the read is
pub read_undefined : (N : ℕ) (fs : List CellFamily) (s : State) (fr : List ℕ) (f : ℕ) (ts : List Term) → None ≡ list_place N (cell_value N fs s) fr 0 ts → v.Undefined ≡ cell_at (cell_value N fs s) f (list_indices N (cell_value N fs s) fr ts)
read_undefined N fs s fr f ts h = go (list_indices N (cell_value N fs s) fr ts) (h ∙ list_place_is N (cell_value N fs s) fr 0 ts)
  where
    go : (o : Option (List ℕ)) → None ≡ option_map (nodes_place N 0) o → v.Undefined ≡ cell_at (cell_value N fs s) f o
    go None e = refl
    go (Some ns) e = cc

-- else it is the value at the place
pub read_there : (N : ℕ) (fs : List CellFamily) (s : State) (fr : List ℕ) (f p : ℕ) (ts : List Term) → has_axes fs f (length ts) ≡ true → Some p ≡ list_place N (cell_value N fs s) fr 0 ts → unwrap_or (slice_get s (first_place N fs f + p)) v.Undefined ≡ cell_at (cell_value N fs s) f (list_indices N (cell_value N fs s) fr ts)
read_there N fs s fr f p ts axes h = go (list_indices N (cell_value N fs s) fr ts) (indices_are N (cell_value N fs s) fr ts) (h ∙ list_place_is N (cell_value N fs s) fr 0 ts)
  where
    some_is : {a b : ℕ} → Some a ≡ Some b → a ≡ b
    some_is e = cc

    go : (o : Option (List ℕ)) → ((ns : List ℕ) → o ≡ Some ns → AreIndices N ts ns) → Some p ≡ option_map (nodes_place N 0) o → unwrap_or (slice_get s (first_place N fs f + p)) v.Undefined ≡ cell_at (cell_value N fs s) f o
    go None are e = cc
    go (Some ns) are e =
        let all = are ns refl in
        let place : p ≡ choice_place N ns = some_is e ∙ nodes_place_0 N ns in
        let cell : is_cell N fs f ns ≡ true = sym (cell_from N fs f ns (ap (has_axes fs f) all.count ∙ axes)) ∙ all.nodes in
        ap (λ q. unwrap_or (slice_get s (first_place N fs f + q)) v.Undefined) place ∙ sym (cell_value_is N fs s f ns cell)
