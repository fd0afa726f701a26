-- The value of a term depends on the variables that occur in it and on the cells that it reads.
use Rattle.std.proofs.Common.{◌≡◌, ℕ, zero, suc, ◌+◌, ◌-◌, ◌<◌, ◌≤◌, Bool, true, false, not, ◌&&◌, ◌||◌, List, [], ◌∷◌, ◌++◌, length, Option, Some, None, refl, sym, ap, ◌∙◌, subst, arith}
use Rattle.std.specs.Prelude.{nat_lt, nat_eq, slice_get}
use Rattle.std.specs.List.{list_all, list_any, flat_map, All}
use Rattle.std.specs.Option.{option_map_or}
use Rattle.std.proofs.lemmas.Option.{slice_get_past}
use Rattle.std.proofs.lemmas.List.{length-append, get_or_append_left, get_or-append-add}
use Rattle.term_core.specs.declared.value.Value.TheVariants as v
use Rattle.term_core.specs.declared.term.Term as t
use Rattle.term_core.specs.declared.term.Term.{Term, Row_of-Term, end_of-Term, more_of-Term}
use Rattle.term_core.specs.Nodes.{nodes, nodes_from}
use Rattle.term_core.specs.Values.{truth}
use Rattle.term_core.specs.Forms.{NotForm, IfForm, SameForm, LessForm, ArithForm, QuantifiedForm}
use Rattle.term_core.specs.Meaning.{Cells, value_of, row_all, row_any, row_indices, bound_node, cell_at, holds_at, index_of}
use Rattle.term_core.specs.Reading.{occurs, row_occurs, cells_read, row_read, cell_read}
use Rattle.term_core.specs.Cells.{Cell}
use Rattle.term_core.proofs.FrameLemmas.{holds_same, get_first, get_past, length-one_more}
use Rattle.term_core.proofs.SubstitutionLemmas.{if_of, same_of, less_of, arith_on, with_of, first_of, second_of}

-- two frames of one length agree where a test holds
abbrev Agree : List ℕ → List ℕ → (ℕ → Bool) → Type 0
Agree frame other test = (k : ℕ) → k < length frame → test k ≡ true → slice_get frame k ≡ slice_get other k

variable_same : (frame other : List ℕ) (k : ℕ) → length frame ≡ length other → Agree frame other (λ j. nat_eq k j) → bound_node frame k ≡ bound_node other k
variable_same frame other k long agree = go (nat_lt k (length frame)) refl
  where
    go : (b : Bool) → nat_lt k (length frame) ≡ b → bound_node frame k ≡ bound_node other k
    go true was = ap (λ o. option_map_or v.Node o v.Undefined) (agree k (grind (arith, was)) (grind arith))
    go false was =
        let past : length frame ≤ k = grind (arith, was) in
        ap (λ o. option_map_or v.Node o v.Undefined) (slice_get_past frame k past ∙ sym (slice_get_past other k (subst (λ m. m ≤ k) long past)))

one_more_agrees : (frame other : List ℕ) (n : ℕ) (test : ℕ → Bool) → length frame ≡ length other → Agree frame other test → Agree (frame ++ n ∷ []) (other ++ n ∷ []) test
one_more_agrees frame other n test long agree k less passes = go (nat_lt k (length frame)) refl
  where
    go : (b : Bool) → nat_lt k (length frame) ≡ b → slice_get (frame ++ n ∷ []) k ≡ slice_get (other ++ n ∷ []) k
    go true was =
        let h : k < length frame = grind (arith, was) in
        get_first frame (n ∷ []) k h ∙ agree k h passes ∙ sym (get_first other (n ∷ []) k (subst (λ m. k < m) long h))
    go false was =
        let h : length frame ≤ k = grind (arith, was) in
        get_past frame (n ∷ []) k h ∙ ap (λ m. slice_get (n ∷ []) (k - m)) long ∙ sym (get_past other (n ∷ []) k (subst (λ m. m ≤ k) long h))

one_more_long : (frame other : List ℕ) (n : ℕ) → length frame ≡ length other → length (frame ++ n ∷ []) ≡ length (other ++ n ∷ [])
one_more_long frame other n long = length-one_more frame n ∙ ap suc long ∙ sym (length-one_more other n)

mutual
  unfolding value_of occurs

  -- frames that agree on the variables of a term give it one value
  pub variables_matter : (N : ℕ) (c : Cells) (frame other : List ℕ) (x : Term) → length frame ≡ length other → Agree frame other (λ k. occurs k x) → value_of N c frame x ≡ value_of N c other x
  variables_matter N c frame other (t.Known x) long agree = refl
  variables_matter N c frame other (t.Var k) long agree = variable_same frame other k long agree
  variables_matter N c frame other (t.Read' f _ at) long agree = ap (cell_at c f) (indices_matter N c frame other at long agree)
  variables_matter N c frame other (NotForm a) long agree = ap (λ x. v.Truth (not (truth x))) (variables_matter N c frame other a long agree)
  variables_matter N c frame other (t.And' _ parts) long agree = ap v.Truth (all_matter N c frame other parts long agree)
  variables_matter N c frame other (t.Or' _ parts) long agree = ap v.Truth (any_matter N c frame other parts long agree)
  variables_matter N c frame other (IfForm a b d) long agree =
      if_of (variables_matter N c frame other a long (λ k less o. agree k less (first_of _ _ o)))
      (variables_matter N c frame other b long (λ k less o. agree k less (second_of _ _ (first_of _ _ o))))
      (variables_matter N c frame other d long (λ k less o. agree k less (second_of _ _ (second_of _ _ o))))
  variables_matter N c frame other (SameForm a b) long agree = same_of (variables_matter N c frame other a long (λ k less o. agree k less (first_of _ _ o))) (variables_matter N c frame other b long (λ k less o. agree k less (second_of _ _ o)))
  variables_matter N c frame other (LessForm a b) long agree = less_of (variables_matter N c frame other a long (λ k less o. agree k less (first_of _ _ o))) (variables_matter N c frame other b long (λ k less o. agree k less (second_of _ _ o)))
  variables_matter N c frame other (ArithForm op a b) long agree = arith_on op (variables_matter N c frame other a long (λ k less o. agree k less (first_of _ _ o))) (variables_matter N c frame other b long (λ k less o. agree k less (second_of _ _ o)))
  variables_matter N c frame other (QuantifiedForm all a) long agree =
      ap v.Truth (holds_same all (λ n. truth (value_of N c (frame ++ n ∷ []) a)) (λ n. truth (value_of N c (other ++ n ∷ []) a)) (nodes N)
      (λ n. ap truth (variables_matter N c (frame ++ n ∷ []) (other ++ n ∷ []) a (one_more_long frame other n long) (one_more_agrees frame other n (λ k. occurs k a) long agree))))

  indices_matter : {n : _} (N : ℕ) (c : Cells) (frame other : List ℕ) (row : Row_of-Term n) → length frame ≡ length other → Agree frame other (λ k. row_occurs k row) → row_indices N c frame row ≡ row_indices N c other row
  indices_matter N c frame other end_of-Term long agree = refl
  indices_matter N c frame other (more_of-Term x rest) long agree =
      with_of (ap (index_of N) (variables_matter N c frame other x long (λ k less o. agree k less (first_of _ _ o)))) (indices_matter N c frame other rest long (λ k less o. agree k less (second_of _ _ o)))

  all_matter : {n : _} (N : ℕ) (c : Cells) (frame other : List ℕ) (row : Row_of-Term n) → length frame ≡ length other → Agree frame other (λ k. row_occurs k row) → row_all N c frame row ≡ row_all N c other row
  all_matter N c frame other end_of-Term long agree = refl
  all_matter N c frame other (more_of-Term x rest) long agree =
      ap (λ b. truth b && row_all N c frame rest) (variables_matter N c frame other x long (λ k less o. agree k less (first_of _ _ o)))
      ∙ ap (λ b. truth (value_of N c other x) && b) (all_matter N c frame other rest long (λ k less o. agree k less (second_of _ _ o)))

  any_matter : {n : _} (N : ℕ) (c : Cells) (frame other : List ℕ) (row : Row_of-Term n) → length frame ≡ length other → Agree frame other (λ k. row_occurs k row) → row_any N c frame row ≡ row_any N c other row
  any_matter N c frame other end_of-Term long agree = refl
  any_matter N c frame other (more_of-Term x rest) long agree =
      ap (λ b. truth b || row_any N c frame rest) (variables_matter N c frame other x long (λ k less o. agree k less (first_of _ _ o)))
      ∙ ap (λ b. truth (value_of N c other x) || b) (any_matter N c frame other rest long (λ k less o. agree k less (second_of _ _ o)))

-- two ways to read agree on a list of cells
abbrev Same : Cells → Cells → List Cell → Type 0
Same c d cs = All (λ (e : Cell). c e.family e.at ≡ d e.family e.at) cs

same_first : (c d : Cells) (xs ys : List Cell) → Same c d (xs ++ ys) → Same c d xs
same_first c d xs ys same k e less = subst (λ (f : Cell). c f.family f.at ≡ d f.family f.at) (get_or_append_left xs ys e k less) (same k e (subst (λ m. k < m) (sym (length-append xs ys)) (omega (arith, less))))

same_second : (c d : Cells) (xs ys : List Cell) → Same c d (xs ++ ys) → Same c d ys
same_second c d xs ys same k e less = subst (λ (f : Cell). c f.family f.at ≡ d f.family f.at) (get_or-append-add xs ys k e) (same (length xs + k) e (subst (λ m. length xs + k < m) (sym (length-append xs ys)) (omega (arith, less))))

-- a test that is the same wherever cells agree is the same at all nodes, or at one
holds_where : (all : Bool) (p q : ℕ → Bool) (g : ℕ → List Cell) (c d : Cells) (first count : ℕ) → ((n : ℕ) → Same c d (g n) → p n ≡ q n) → Same c d (flat_map g (nodes_from first count)) → holds_at all p (nodes_from first count) ≡ holds_at all q (nodes_from first count)
holds_where true p q g c d first zero each same = refl
holds_where false p q g c d first zero each same = refl
holds_where true p q g c d first (suc count) each same =
    ap (λ b. b && list_all p (nodes_from (suc first) count)) (each first (same_first c d (g first) (flat_map g (nodes_from (suc first) count)) same))
    ∙ ap (λ b. q first && b) (holds_where true p q g c d (suc first) count each (same_second c d (g first) (flat_map g (nodes_from (suc first) count)) same))
holds_where false p q g c d first (suc count) each same =
    ap (λ b. b || list_any p (nodes_from (suc first) count)) (each first (same_first c d (g first) (flat_map g (nodes_from (suc first) count)) same))
    ∙ ap (λ b. q first || b) (holds_where false p q g c d (suc first) count each (same_second c d (g first) (flat_map g (nodes_from (suc first) count)) same))

read_same : (c d : Cells) (f : ℕ) (o : Option (List ℕ)) → Same c d (cell_read f o) → cell_at c f o ≡ cell_at d f o
read_same c d f None same = refl
read_same c d f (Some ns) same = same 0 (record { family = f; at = ns }) (omega arith)

mutual
  unfolding value_of cells_read

  -- where the cells that a term reads agree it has one value
  pub cells_matter : (N : ℕ) (c d : Cells) (frame : List ℕ) (x : Term) → Same c d (cells_read N c frame x) → value_of N c frame x ≡ value_of N d frame x
  cells_matter N c d frame (t.Known x) same = refl
  cells_matter N c d frame (t.Var k) same = refl
  cells_matter N c d frame (t.Read' f _ at) same =
      read_same c d f (row_indices N c frame at) (same_second c d (row_read N c frame at) (cell_read f (row_indices N c frame at)) same)
      ∙ ap (cell_at d f) (cells_indices N c d frame at (same_first c d (row_read N c frame at) (cell_read f (row_indices N c frame at)) same))
  cells_matter N c d frame (NotForm a) same = ap (λ x. v.Truth (not (truth x))) (cells_matter N c d frame a same)
  cells_matter N c d frame (t.And' _ parts) same = ap v.Truth (cells_all N c d frame parts same)
  cells_matter N c d frame (t.Or' _ parts) same = ap v.Truth (cells_any N c d frame parts same)
  cells_matter N c d frame (IfForm a b e) same =
      let rest = same_second c d (cells_read N c frame a) (cells_read N c frame b ++ cells_read N c frame e) same in
      if_of (cells_matter N c d frame a (same_first c d (cells_read N c frame a) (cells_read N c frame b ++ cells_read N c frame e) same))
      (cells_matter N c d frame b (same_first c d (cells_read N c frame b) (cells_read N c frame e) rest))
      (cells_matter N c d frame e (same_second c d (cells_read N c frame b) (cells_read N c frame e) rest))
  cells_matter N c d frame (SameForm a b) same = same_of (cells_matter N c d frame a (same_first c d (cells_read N c frame a) (cells_read N c frame b) same)) (cells_matter N c d frame b (same_second c d (cells_read N c frame a) (cells_read N c frame b) same))
  cells_matter N c d frame (LessForm a b) same = less_of (cells_matter N c d frame a (same_first c d (cells_read N c frame a) (cells_read N c frame b) same)) (cells_matter N c d frame b (same_second c d (cells_read N c frame a) (cells_read N c frame b) same))
  cells_matter N c d frame (ArithForm op a b) same = arith_on op (cells_matter N c d frame a (same_first c d (cells_read N c frame a) (cells_read N c frame b) same)) (cells_matter N c d frame b (same_second c d (cells_read N c frame a) (cells_read N c frame b) same))
  cells_matter N c d frame (QuantifiedForm all a) same =
      ap v.Truth (holds_where all (λ n. truth (value_of N c (frame ++ n ∷ []) a)) (λ n. truth (value_of N d (frame ++ n ∷ []) a)) (λ n. cells_read N c (frame ++ n ∷ []) a) c d 1 N
      (λ n there. ap truth (cells_matter N c d (frame ++ n ∷ []) a there)) same)

  cells_indices : {n : _} (N : ℕ) (c d : Cells) (frame : List ℕ) (row : Row_of-Term n) → Same c d (row_read N c frame row) → row_indices N c frame row ≡ row_indices N d frame row
  cells_indices N c d frame end_of-Term same = refl
  cells_indices N c d frame (more_of-Term x rest) same =
      with_of (ap (index_of N) (cells_matter N c d frame x (same_first c d (cells_read N c frame x) (row_read N c frame rest) same))) (cells_indices N c d frame rest (same_second c d (cells_read N c frame x) (row_read N c frame rest) same))

  cells_all : {n : _} (N : ℕ) (c d : Cells) (frame : List ℕ) (row : Row_of-Term n) → Same c d (row_read N c frame row) → row_all N c frame row ≡ row_all N d frame row
  cells_all N c d frame end_of-Term same = refl
  cells_all N c d frame (more_of-Term x rest) same =
      ap (λ b. truth b && row_all N c frame rest) (cells_matter N c d frame x (same_first c d (cells_read N c frame x) (row_read N c frame rest) same))
      ∙ ap (λ b. truth (value_of N d frame x) && b) (cells_all N c d frame rest (same_second c d (cells_read N c frame x) (row_read N c frame rest) same))

  cells_any : {n : _} (N : ℕ) (c d : Cells) (frame : List ℕ) (row : Row_of-Term n) → Same c d (row_read N c frame row) → row_any N c frame row ≡ row_any N d frame row
  cells_any N c d frame end_of-Term same = refl
  cells_any N c d frame (more_of-Term x rest) same =
      ap (λ b. truth b || row_any N c frame rest) (cells_matter N c d frame x (same_first c d (cells_read N c frame x) (row_read N c frame rest) same))
      ∙ ap (λ b. truth (value_of N d frame x) || b) (cells_any N c d frame rest (same_second c d (cells_read N c frame x) (row_read N c frame rest) same))
