-- The value of each form of term, and how deep it nests, in terms of the parts that code reads.
use Rattle.std.proofs.Common.{◌≡◌, ℕ, suc, Bool, not, cond, ◌&&◌, ◌||◌, max, List, [], ◌∷◌, ◌++◌, refl, ap, ◌∙◌}
use Rattle.std.specs.Prelude.{int_lt}
use Rattle.std.specs.List.{list_all, list_any}
use denote.Hole.Carrier.{hidden}
use Rattle.term_core.specs.declared.value.Value.{Value}
use Rattle.term_core.specs.declared.value.Value.TheVariants as v
use Rattle.term_core.specs.declared.value.ArithOp.{ArithOp}
use Rattle.term_core.specs.declared.term.Term as t
use Rattle.term_core.specs.declared.term.Term.{Term, Row_of-Term, end_of-Term, more_of-Term, items-the_row-Term, items_hidden-the_row-Term-0, the_lemmas}
use Rattle.term_core.specs.declared.term.Term.TheBlock.{hidden-the_row-Term-0, shape-the_row-Term-1, hidden-the_row-Term-1}
use Rattle.term_core.specs.Nodes.{nodes}
use Rattle.term_core.specs.Values.{truth, number, same_value, arith}
use Rattle.term_core.specs.Meaning.{Cells, value_of, row_all, row_any, row_indices, bound_node, cell_at, holds_at, with_index, index_of}
use Rattle.term_core.specs.Variables.{nesting, row_nesting}
use Rattle.term_core.specs.Lists.{list_nesting, list_indices}
use Rattle.term_core.proofs.PlaceLemmas.{nodes_more, nodes_none, lead_bound, lead_fits, family_known}
use Rattle.term_core.proofs.ReadLemmas.{read_nothing, read_undefined, read_there}

pub value-Known : (N : ℕ) (c : Cells) (fr : List ℕ) (x : Value) → value_of N c fr (t.Known x) ≡ x
unfolding value_of
value-Known N c fr x = refl

pub value-Var : (N : ℕ) (c : Cells) (fr : List ℕ) (k : ℕ) → value_of N c fr (t.Var k) ≡ bound_node fr k
unfolding value_of
value-Var N c fr k = refl

row_indices_is : {n : _} (N : ℕ) (c : Cells) (fr : List ℕ) (row : Row_of-Term n) → row_indices N c fr row ≡ list_indices N c fr (items-the_row-Term n row)
unfolding value_of
row_indices_is N c fr end_of-Term = refl
row_indices_is N c fr (more_of-Term x rest) = ap (with_index (index_of N (value_of N c fr x))) (row_indices_is N c fr rest)

pub value-Read : (N : ℕ) (c : Cells) (fr : List ℕ) (f : ℕ) (ts : List Term) → value_of N c fr (t.Read f ts) ≡ cell_at c f (list_indices N c fr ts)
unfolding value_of
value-Read N c fr f ts = ap (cell_at c f) (row_indices_is N c fr (hidden-the_row-Term-0 ts) ∙ ap (list_indices N c fr) (items_hidden-the_row-Term-0 ts))

pub value-Not : (N : ℕ) (c : Cells) (fr : List ℕ) (a : Term) → value_of N c fr (t.Not a) ≡ v.Truth (not (truth (value_of N c fr a)))
unfolding value_of shape-the_row-Term-1 hidden-the_row-Term-1 hidden
value-Not N c fr a = refl

row_all_is : {n : _} (N : ℕ) (c : Cells) (fr : List ℕ) (row : Row_of-Term n) → row_all N c fr row ≡ list_all (λ x. truth (value_of N c fr x)) (items-the_row-Term n row)
unfolding value_of
row_all_is N c fr end_of-Term = refl
row_all_is N c fr (more_of-Term x rest) = ap (λ b. truth (value_of N c fr x) && b) (row_all_is N c fr rest)

pub value-And : (N : ℕ) (c : Cells) (fr : List ℕ) (ts : List Term) → value_of N c fr (t.And ts) ≡ v.Truth (list_all (λ x. truth (value_of N c fr x)) ts)
unfolding value_of
value-And N c fr ts = ap v.Truth (row_all_is N c fr (hidden-the_row-Term-0 ts) ∙ ap (list_all (λ x. truth (value_of N c fr x))) (items_hidden-the_row-Term-0 ts))

row_any_is : {n : _} (N : ℕ) (c : Cells) (fr : List ℕ) (row : Row_of-Term n) → row_any N c fr row ≡ list_any (λ x. truth (value_of N c fr x)) (items-the_row-Term n row)
unfolding value_of
row_any_is N c fr end_of-Term = refl
row_any_is N c fr (more_of-Term x rest) = ap (λ b. truth (value_of N c fr x) || b) (row_any_is N c fr rest)

pub value-Or : (N : ℕ) (c : Cells) (fr : List ℕ) (ts : List Term) → value_of N c fr (t.Or ts) ≡ v.Truth (list_any (λ x. truth (value_of N c fr x)) ts)
unfolding value_of
value-Or N c fr ts = ap v.Truth (row_any_is N c fr (hidden-the_row-Term-0 ts) ∙ ap (list_any (λ x. truth (value_of N c fr x))) (items_hidden-the_row-Term-0 ts))

pub value-If : (N : ℕ) (c : Cells) (fr : List ℕ) (a b d : Term) → value_of N c fr (t.If a b d) ≡ cond (truth (value_of N c fr a)) (value_of N c fr b) (value_of N c fr d)
unfolding value_of shape-the_row-Term-1 hidden-the_row-Term-1 hidden
value-If N c fr a b d = refl

pub value-Same : (N : ℕ) (c : Cells) (fr : List ℕ) (a b : Term) → value_of N c fr (t.Same a b) ≡ v.Truth (same_value (value_of N c fr a) (value_of N c fr b))
unfolding value_of shape-the_row-Term-1 hidden-the_row-Term-1 hidden
value-Same N c fr a b = refl

pub value-Less : (N : ℕ) (c : Cells) (fr : List ℕ) (a b : Term) → value_of N c fr (t.Less a b) ≡ v.Truth (int_lt (number (value_of N c fr a)) (number (value_of N c fr b)))
unfolding value_of shape-the_row-Term-1 hidden-the_row-Term-1 hidden
value-Less N c fr a b = refl

pub value-Arith : (N : ℕ) (c : Cells) (fr : List ℕ) (op : ArithOp) (a b : Term) → value_of N c fr (t.Arith op a b) ≡ v.Number (arith op (number (value_of N c fr a)) (number (value_of N c fr b)))
unfolding value_of shape-the_row-Term-1 hidden-the_row-Term-1 hidden
value-Arith N c fr op a b = refl

pub value-Quantified : (N : ℕ) (c : Cells) (fr : List ℕ) (all : Bool) (a : Term) → value_of N c fr (t.Quantified all a) ≡ v.Truth (holds_at all (λ n. truth (value_of N c (fr ++ n ∷ []) a)) (nodes N))
unfolding value_of shape-the_row-Term-1 hidden-the_row-Term-1 hidden
value-Quantified N c fr all a = refl

row_nesting_is : {n : _} (row : Row_of-Term n) → row_nesting row ≡ list_nesting (items-the_row-Term n row)
unfolding nesting
row_nesting_is end_of-Term = refl
row_nesting_is (more_of-Term x rest) = ap (max (nesting x)) (row_nesting_is rest)

pub nesting-Read : (f : ℕ) (ts : List Term) → nesting (t.Read f ts) ≡ list_nesting ts
unfolding nesting
nesting-Read f ts = row_nesting_is (hidden-the_row-Term-0 ts) ∙ ap list_nesting (items_hidden-the_row-Term-0 ts)

pub nesting-And : (ts : List Term) → nesting (t.And ts) ≡ list_nesting ts
unfolding nesting
nesting-And ts = row_nesting_is (hidden-the_row-Term-0 ts) ∙ ap list_nesting (items_hidden-the_row-Term-0 ts)

pub nesting-Or : (ts : List Term) → nesting (t.Or ts) ≡ list_nesting ts
unfolding nesting
nesting-Or ts = row_nesting_is (hidden-the_row-Term-0 ts) ∙ ap list_nesting (items_hidden-the_row-Term-0 ts)

pub nesting-Not : (a : Term) → nesting (t.Not a) ≡ nesting a
unfolding nesting shape-the_row-Term-1 hidden-the_row-Term-1 hidden
nesting-Not a = refl

pub nesting-If : (a b d : Term) → nesting (t.If a b d) ≡ max (nesting a) (max (nesting b) (nesting d))
unfolding nesting shape-the_row-Term-1 hidden-the_row-Term-1 hidden
nesting-If a b d = refl

pub nesting-Same : (a b : Term) → nesting (t.Same a b) ≡ max (nesting a) (nesting b)
unfolding nesting shape-the_row-Term-1 hidden-the_row-Term-1 hidden
nesting-Same a b = refl

pub nesting-Less : (a b : Term) → nesting (t.Less a b) ≡ max (nesting a) (nesting b)
unfolding nesting shape-the_row-Term-1 hidden-the_row-Term-1 hidden
nesting-Less a b = refl

pub nesting-Arith : (op : ArithOp) (a b : Term) → nesting (t.Arith op a b) ≡ max (nesting a) (nesting b)
unfolding nesting shape-the_row-Term-1 hidden-the_row-Term-1 hidden
nesting-Arith op a b = refl

pub nesting-Quantified : (all : Bool) (a : Term) → nesting (t.Quantified all a) ≡ suc (nesting a)
unfolding nesting shape-the_row-Term-1 hidden-the_row-Term-1 hidden
nesting-Quantified all a = refl

pub ruleset steps = (value-Known, value-Var, value-Read, value-Not, value-And, value-Or, value-If, value-Same, value-Less, value-Arith, value-Quantified, nesting-Read, nesting-And, nesting-Or, nesting-Not, nesting-If, nesting-Same, nesting-Less, nesting-Arith, nesting-Quantified, nodes_more, nodes_none, family_known, read_nothing, read_undefined, read_there, the_lemmas)
