-- What a term that fits reads are cells; so cells alone give it its value, and more families change nothing.
use Rattle.std.proofs.Common.{◌≡◌, ℕ, suc, Bool, true, false, ◌&&◌, List, [], ◌∷◌, ◌++◌, length, Option, Some, None, refl, sym, ap, ◌∙◌}
use Rattle.std.specs.Prelude.{nat_eq}
use Rattle.std.specs.List.{list_all, flat_map, All}
use Rattle.std.specs.Option.{option_map_or}
use Rattle.std.proofs.lemmas.List.Folds.{list_all-append}
use Rattle.std.proofs.lemmas.List.Sums.{AllPass-from_list_all}
use Rattle.std.proofs.lemmas.Bool.{and_parts}
use Rattle.term_core.specs.declared.machine.CellFamily.{CellFamily}
use Rattle.term_core.specs.declared.term.Term as t
use Rattle.term_core.specs.declared.term.Term.{Term, Row_of-Term, end_of-Term, more_of-Term}
use Rattle.term_core.specs.Nodes.{nodes, is_node}
use Rattle.term_core.specs.Forms.{NotForm, IfForm, SameForm, LessForm, ArithForm, QuantifiedForm}
use Rattle.term_core.specs.Meaning.{Cells, value_of, row_indices, index_of, with_index}
use Rattle.term_core.specs.Cells.{Cell, is_cell}
use Rattle.term_core.specs.Variables.{fits, row_fits, row_count, has_axes}
use Rattle.term_core.specs.Reading.{cells_read, row_read, cell_read}
use Rattle.term_core.proofs.DependLemmas.{cells_matter}
use Rattle.term_core.proofs.FrameLemmas.{get_first}
use Rattle.term_core.proofs.PlaceLemmas.{is_cell_is, family_known}
use Rattle.term_core.proofs.ReadLemmas.{index_is_node}

-- two tests that both hold
both_hold : (a b : Bool) → a ≡ true → b ≡ true → (a && b) ≡ true
both_hold true b e f = f
both_hold false b e f = e

-- the indices of a read are nodes, one for each term
record AreNodesOf (N count : ℕ) (ns : List ℕ) : Type 0 where
  count_is : length ns ≡ count
  nodes_are : list_all (is_node N) ns ≡ true

with_nodes : (N count : ℕ) (o : Option ℕ) (os : Option (List ℕ)) (ns : List ℕ) → ((n : ℕ) → o ≡ Some n → is_node N n ≡ true) → ((ms : List ℕ) → os ≡ Some ms → AreNodesOf N count ms) → with_index o os ≡ Some ns → AreNodesOf N (suc count) ns
with_nodes N count None os ns one more e = cc
with_nodes N count (Some n) None ns one more e = cc
with_nodes N count (Some n) (Some ms) ns one more e =
    let rest = more ms refl in
    let same : n ∷ ms ≡ ns = some_is e in
    record {
      count_is = ap length (sym same) ∙ ap suc rest.count_is;
      nodes_are = ap (list_all (is_node N)) (sym same) ∙ both_hold (is_node N n) (list_all (is_node N) ms) (one n refl) rest.nodes_are;
    }
  where
    some_is : {a b : List ℕ} → Some a ≡ Some b → a ≡ b
    some_is e = cc

row_nodes : {n : _} (N : ℕ) (c : Cells) (fr : List ℕ) (row : Row_of-Term n) (ns : List ℕ) → row_indices N c fr row ≡ Some ns → AreNodesOf N (row_count row) ns
unfolding value_of fits
row_nodes N c fr end_of-Term ns e = let same : [] ≡ ns = some_is e in record { count_is = ap length (sym same); nodes_are = ap (list_all (is_node N)) (sym same) }
  where
    some_is : {a b : List ℕ} → Some a ≡ Some b → a ≡ b
    some_is e = cc
row_nodes N c fr (more_of-Term x rest) ns e =
    with_nodes N (row_count rest) (index_of N (value_of N c fr x)) (row_indices N c fr rest) ns (index_is_node N (value_of N c fr x)) (λ ms f. row_nodes N c fr rest ms f) e

abbrev are_cells : ℕ → List CellFamily → List Cell → Bool
are_cells N fs cs = list_all (λ (d : Cell). is_cell N fs d.family d.at) cs

joined_cells : (N : ℕ) (fs : List CellFamily) (xs ys : List Cell) → are_cells N fs xs ≡ true → are_cells N fs ys ≡ true → are_cells N fs (xs ++ ys) ≡ true
joined_cells N fs xs ys e f = list_all-append (λ (d : Cell). is_cell N fs d.family d.at) xs ys ∙ both_hold (are_cells N fs xs) (are_cells N fs ys) e f

each_cells : (N : ℕ) (fs : List CellFamily) (g : ℕ → List Cell) (ns : List ℕ) → ((n : ℕ) → are_cells N fs (g n) ≡ true) → are_cells N fs (flat_map g ns) ≡ true
each_cells N fs g [] each = refl
each_cells N fs g (n ∷ ns) each = joined_cells N fs (g n) (flat_map g ns) (each n) (each_cells N fs g ns each)

one_read : (N : ℕ) (fs : List CellFamily) (f count : ℕ) (o : Option (List ℕ)) → has_axes fs f count ≡ true → ((ns : List ℕ) → o ≡ Some ns → AreNodesOf N count ns) → are_cells N fs (cell_read f o) ≡ true
one_read N fs f count None axes are = refl
one_read N fs f count (Some ns) axes are =
    let r = are ns refl in
    let h : has_axes fs f (length ns) ≡ true = ap (has_axes fs f) r.count_is ∙ axes in
    both_hold (is_cell N fs f ns) true (is_cell_is N fs f ns ∙ both_hold (has_axes fs f (length ns)) (list_all (is_node N) ns) h r.nodes_are) refl

mutual
  unfolding cells_read fits

  reads_cells : (N : ℕ) (fs : List CellFamily) (c : Cells) (fr : List ℕ) (x : Term) → fits fs x ≡ true → are_cells N fs (cells_read N c fr x) ≡ true
  reads_cells N fs c fr (t.Known x) h = refl
  reads_cells N fs c fr (t.Var k) h = refl
  reads_cells N fs c fr (t.Read' f _ at) h =
      let p = and_parts (has_axes fs f (row_count at)) (row_fits fs at) h in
      joined_cells N fs (row_read N c fr at) (cell_read f (row_indices N c fr at)) (row_reads_cells N fs c fr at p.1) (one_read N fs f (row_count at) (row_indices N c fr at) p.0 (row_nodes N c fr at))
  reads_cells N fs c fr (NotForm a) h = reads_cells N fs c fr a h
  reads_cells N fs c fr (t.And' _ parts) h = row_reads_cells N fs c fr parts h
  reads_cells N fs c fr (t.Or' _ parts) h = row_reads_cells N fs c fr parts h
  reads_cells N fs c fr (IfForm a b d) h =
      let p = and_parts (fits fs a) (fits fs b && fits fs d) h in
      let q = and_parts (fits fs b) (fits fs d) p.1 in
      joined_cells N fs (cells_read N c fr a) (cells_read N c fr b ++ cells_read N c fr d) (reads_cells N fs c fr a p.0) (joined_cells N fs (cells_read N c fr b) (cells_read N c fr d) (reads_cells N fs c fr b q.0) (reads_cells N fs c fr d q.1))
  reads_cells N fs c fr (SameForm a b) h = let p = and_parts (fits fs a) (fits fs b) h in joined_cells N fs (cells_read N c fr a) (cells_read N c fr b) (reads_cells N fs c fr a p.0) (reads_cells N fs c fr b p.1)
  reads_cells N fs c fr (LessForm a b) h = let p = and_parts (fits fs a) (fits fs b) h in joined_cells N fs (cells_read N c fr a) (cells_read N c fr b) (reads_cells N fs c fr a p.0) (reads_cells N fs c fr b p.1)
  reads_cells N fs c fr (ArithForm op a b) h = let p = and_parts (fits fs a) (fits fs b) h in joined_cells N fs (cells_read N c fr a) (cells_read N c fr b) (reads_cells N fs c fr a p.0) (reads_cells N fs c fr b p.1)
  reads_cells N fs c fr (QuantifiedForm all a) h = each_cells N fs (λ n. cells_read N c (fr ++ n ∷ []) a) (nodes N) (λ n. reads_cells N fs c (fr ++ n ∷ []) a h)

  row_reads_cells : {n : _} (N : ℕ) (fs : List CellFamily) (c : Cells) (fr : List ℕ) (row : Row_of-Term n) → row_fits fs row ≡ true → are_cells N fs (row_read N c fr row) ≡ true
  row_reads_cells N fs c fr end_of-Term h = refl
  row_reads_cells N fs c fr (more_of-Term x rest) h = let p = and_parts (fits fs x) (row_fits fs rest) h in joined_cells N fs (cells_read N c fr x) (row_read N c fr rest) (reads_cells N fs c fr x p.0) (row_reads_cells N fs c fr rest p.1)

-- what a fitting term reads are cells
pub reads_are_cells : (N : ℕ) (fs : List CellFamily) (c : Cells) (fr : List ℕ) (x : Term) → fits fs x ≡ true → All (λ (d : Cell). is_cell N fs d.family d.at ≡ true) (cells_read N c fr x)
reads_are_cells N fs c fr x h = AllPass-from_list_all (λ (d : Cell). is_cell N fs d.family d.at) (cells_read N c fr x) (reads_cells N fs c fr x h)

-- so it has one value wherever the cells agree
pub cells_give_values : (N : ℕ) (fs : List CellFamily) (c d : Cells) (fr : List ℕ) (x : Term) → fits fs x ≡ true → ((f : ℕ) (at : List ℕ) → is_cell N fs f at ≡ true → c f at ≡ d f at) → value_of N c fr x ≡ value_of N d fr x
cells_give_values N fs c d fr x h agree = cells_matter N c d fr x (λ k e less. agree _ _ (reads_are_cells N fs c fr x h k e less))

more_axes : (fs gs : List CellFamily) (f count : ℕ) → has_axes fs f count ≡ true → has_axes (fs ++ gs) f count ≡ true
more_axes fs gs f count h = ap (λ o. option_map_or (λ (g : CellFamily). nat_eq count g.axes) o false) (get_first fs gs f (family_known fs f count h)) ∙ h

mutual
  unfolding fits

  -- a term that fits families fits more of them
  pub more_fit : (fs gs : List CellFamily) (x : Term) → fits fs x ≡ true → fits (fs ++ gs) x ≡ true
  more_fit fs gs (t.Known x) h = h
  more_fit fs gs (t.Var k) h = h
  more_fit fs gs (t.Read' f _ at) h = let p = and_parts (has_axes fs f (row_count at)) (row_fits fs at) h in both_hold (has_axes (fs ++ gs) f (row_count at)) (row_fits (fs ++ gs) at) (more_axes fs gs f (row_count at) p.0) (more_row_fits fs gs at p.1)
  more_fit fs gs (NotForm a) h = more_fit fs gs a h
  more_fit fs gs (t.And' _ parts) h = more_row_fits fs gs parts h
  more_fit fs gs (t.Or' _ parts) h = more_row_fits fs gs parts h
  more_fit fs gs (IfForm a b d) h =
      let p = and_parts (fits fs a) (fits fs b && fits fs d) h in
      let q = and_parts (fits fs b) (fits fs d) p.1 in
      both_hold (fits (fs ++ gs) a) (fits (fs ++ gs) b && fits (fs ++ gs) d) (more_fit fs gs a p.0) (both_hold (fits (fs ++ gs) b) (fits (fs ++ gs) d) (more_fit fs gs b q.0) (more_fit fs gs d q.1))
  more_fit fs gs (SameForm a b) h = let p = and_parts (fits fs a) (fits fs b) h in both_hold (fits (fs ++ gs) a) (fits (fs ++ gs) b) (more_fit fs gs a p.0) (more_fit fs gs b p.1)
  more_fit fs gs (LessForm a b) h = let p = and_parts (fits fs a) (fits fs b) h in both_hold (fits (fs ++ gs) a) (fits (fs ++ gs) b) (more_fit fs gs a p.0) (more_fit fs gs b p.1)
  more_fit fs gs (ArithForm op a b) h = let p = and_parts (fits fs a) (fits fs b) h in both_hold (fits (fs ++ gs) a) (fits (fs ++ gs) b) (more_fit fs gs a p.0) (more_fit fs gs b p.1)
  more_fit fs gs (QuantifiedForm all a) h = more_fit fs gs a h

  more_row_fits : {n : _} (fs gs : List CellFamily) (row : Row_of-Term n) → row_fits fs row ≡ true → row_fits (fs ++ gs) row ≡ true
  more_row_fits fs gs end_of-Term h = refl
  more_row_fits fs gs (more_of-Term x rest) h = let p = and_parts (fits fs x) (row_fits fs rest) h in both_hold (fits (fs ++ gs) x) (row_fits (fs ++ gs) rest) (more_fit fs gs x p.0) (more_row_fits fs gs rest p.1)
