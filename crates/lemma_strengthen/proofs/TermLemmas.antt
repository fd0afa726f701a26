-- The value of the forms of terms that opening makes, and variables of frames in parts.
use Rattle.std.proofs.Common.{◌≡◌, ℕ, zero, suc, ◌-◌, ◌<◌, ◌≤◌, Bool, not, ◌&&◌, ◌||◌, List, [], ◌∷◌, ◌++◌, length, Some, refl, ap, ◌∙◌, subst, arith}
use Rattle.std.specs.Prelude.{slice_get}
use Rattle.std.specs.List.{list_all, list_any, All}
use Rattle.std.proofs.lemmas.Option.{slice_get_within, get_or_from_slice_get, slice_get-get_or}
use denote.Hole.Carrier.{hidden}
use Rattle.term_core.specs.declared.value.Value.TheVariants as v
use Rattle.term_core.specs.declared.term.Term as t
use Rattle.term_core.specs.declared.term.Term.{Term, Row_of-Term, end_of-Term, more_of-Term, items-the_row-Term, items_hidden-the_row-Term-0}
use Rattle.term_core.specs.declared.term.Term.TheBlock.{hidden-the_row-Term-0, shape-the_row-Term-1, hidden-the_row-Term-1}
use Rattle.term_core.specs.Nodes.{nodes}
use Rattle.term_core.specs.Values.{truth}
use Rattle.term_core.specs.Meaning.{Cells, value_of, row_all, row_any, bound_node, holds_at}

pub value-Var : (N : ℕ) (c : Cells) (fr : List ℕ) (k : ℕ) → value_of N c fr (t.Var k) ≡ bound_node fr k
unfolding value_of
value-Var N c fr k = refl

pub value-Not : (N : ℕ) (c : Cells) (fr : List ℕ) (a : Term) → value_of N c fr (t.Not a) ≡ v.Truth (not (truth (value_of N c fr a)))
unfolding value_of shape-the_row-Term-1 hidden-the_row-Term-1 hidden
value-Not N c fr a = refl

row_all_is : {n : _} (N : ℕ) (c : Cells) (fr : List ℕ) (row : Row_of-Term n) → row_all N c fr row ≡ list_all (λ x. truth (value_of N c fr x)) (items-the_row-Term n row)
unfolding value_of
row_all_is N c fr end_of-Term = refl
row_all_is N c fr (more_of-Term x rest) = ap (λ b. truth (value_of N c fr x) && b) (row_all_is N c fr rest)

pub value-And : (N : ℕ) (c : Cells) (fr : List ℕ) (ts : List Term) → value_of N c fr (t.And ts) ≡ v.Truth (list_all (λ x. truth (value_of N c fr x)) ts)
unfolding value_of
value-And N c fr ts = ap v.Truth (row_all_is N c fr (hidden-the_row-Term-0 ts) ∙ ap (list_all (λ x. truth (value_of N c fr x))) (items_hidden-the_row-Term-0 ts))

row_any_is : {n : _} (N : ℕ) (c : Cells) (fr : List ℕ) (row : Row_of-Term n) → row_any N c fr row ≡ list_any (λ x. truth (value_of N c fr x)) (items-the_row-Term n row)
unfolding value_of
row_any_is N c fr end_of-Term = refl
row_any_is N c fr (more_of-Term x rest) = ap (λ b. truth (value_of N c fr x) || b) (row_any_is N c fr rest)

pub value-Or : (N : ℕ) (c : Cells) (fr : List ℕ) (ts : List Term) → value_of N c fr (t.Or ts) ≡ v.Truth (list_any (λ x. truth (value_of N c fr x)) ts)
unfolding value_of
value-Or N c fr ts = ap v.Truth (row_any_is N c fr (hidden-the_row-Term-0 ts) ∙ ap (list_any (λ x. truth (value_of N c fr x))) (items_hidden-the_row-Term-0 ts))

pub value-Quantified : (N : ℕ) (c : Cells) (fr : List ℕ) (all : Bool) (a : Term) → value_of N c fr (t.Quantified all a) ≡ v.Truth (holds_at all (λ n. truth (value_of N c (fr ++ n ∷ []) a)) (nodes N))
unfolding value_of shape-the_row-Term-1 hidden-the_row-Term-1 hidden
value-Quantified N c fr all a = refl

pub list_all_same : {X : Type 0} (p q : X → Bool) (ns : List X) → ((n : X) → p n ≡ q n) → list_all p ns ≡ list_all q ns
list_all_same p q [] same = refl
list_all_same p q (n ∷ ns) same = ap (λ b. b && list_all p ns) (same n) ∙ ap (λ b. q n && b) (list_all_same p q ns same)

pub get_first : {X : Type 0} (xs ys : List X) (k : ℕ) → k < length xs → slice_get (xs ++ ys) k ≡ slice_get xs k
get_first [] ys k h = absurd (omega (arith, h))
get_first (x ∷ xs) ys zero h = refl
get_first (x ∷ xs) ys (suc k) h = get_first xs ys k (omega (arith, h))

pub get_past : {X : Type 0} (xs ys : List X) (k : ℕ) → length xs ≤ k → slice_get (xs ++ ys) k ≡ slice_get ys (k - length xs)
get_past [] ys k h = ap (slice_get ys) (omega arith)
get_past (x ∷ xs) ys zero h = absurd (omega (arith, h))
get_past (x ∷ xs) ys (suc k) h = get_past xs ys k (omega (arith, h)) ∙ ap (slice_get ys) (omega arith)

pub length-one_more : {X : Type 0} (xs : List X) (n : X) → length (xs ++ n ∷ []) ≡ suc (length xs)
length-one_more [] n = refl
length-one_more (x ∷ xs) n = ap suc (length-one_more xs n)

-- a fact of each element of a list
pub each_at : {X : Type 0} (P : X → Type 0) (xs : List X) (k : ℕ) (x : X) → All P xs → slice_get xs k ≡ Some x → P x
each_at P xs k x all e = subst P (get_or_from_slice_get xs k x x e) (all k x (slice_get_within xs k x e))

pub each_from : {X : Type 0} (P : X → Type 0) (xs : List X) → ((k : ℕ) (x : X) → slice_get xs k ≡ Some x → P x) → All P xs
each_from P xs at k d less = at k _ (slice_get-get_or xs k d less)
