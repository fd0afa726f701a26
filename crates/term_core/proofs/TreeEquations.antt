-- What replacing variables makes of each form of term, in terms of the parts that code reads.
use Rattle.std.proofs.Common.{◌≡◌, ℕ, suc, ◌+◌, ◌-◌, ◌<◌, ◌≤◌, Bool, List, ◌∷◌, length, map, get_or, refl, sym, ap, ◌∙◌}
use Rattle.std.specs.Option.{option_map_or}
use Rattle.std.proofs.lemmas.Option.{slice_get-get_or, slice_get_past}
use denote.Hole.Carrier.{hidden}
use Rattle.term_core.specs.declared.value.Value.{Value}
use Rattle.term_core.specs.declared.value.ArithOp.{ArithOp}
use Rattle.term_core.specs.declared.term.Term as t
use Rattle.term_core.specs.declared.term.Term.{Term, Row_of-Term, end_of-Term, more_of-Term, items-the_row-Term, items_hidden-the_row-Term-0, the_lemmas}
use Rattle.term_core.specs.declared.term.Term.TheBlock.{hidden-the_row-Term-0, shape-the_row-Term-1, hidden-the_row-Term-1}
use Rattle.term_core.specs.Substitution.{replaced, row_replaced, lifted, placed_variable}

row_replaced_is : {n : _} (by : ℕ → ℕ → Term) (under : ℕ) (row : Row_of-Term n) → row_replaced by under row ≡ map (replaced by under) (items-the_row-Term n row)
unfolding replaced
row_replaced_is by under end_of-Term = refl
row_replaced_is by under (more_of-Term x rest) = ap (λ xs. replaced by under x ∷ xs) (row_replaced_is by under rest)

pub replaced-Known : (by : ℕ → ℕ → Term) (under : ℕ) (x : Value) → replaced by under (t.Known x) ≡ t.Known x
unfolding replaced
replaced-Known by under x = refl

pub replaced-Var : (by : ℕ → ℕ → Term) (under k : ℕ) → replaced by under (t.Var k) ≡ by under k
unfolding replaced
replaced-Var by under k = refl

pub replaced-Read : (by : ℕ → ℕ → Term) (under : ℕ) (f : ℕ) (ts : List Term) → replaced by under (t.Read f ts) ≡ t.Read f (map (replaced by under) ts)
unfolding replaced
replaced-Read by under f ts = ap (t.Read f) (row_replaced_is by under (hidden-the_row-Term-0 ts) ∙ ap (map (replaced by under)) (items_hidden-the_row-Term-0 ts))

pub replaced-And : (by : ℕ → ℕ → Term) (under : ℕ) (ts : List Term) → replaced by under (t.And ts) ≡ t.And (map (replaced by under) ts)
unfolding replaced
replaced-And by under ts = ap t.And (row_replaced_is by under (hidden-the_row-Term-0 ts) ∙ ap (map (replaced by under)) (items_hidden-the_row-Term-0 ts))

pub replaced-Or : (by : ℕ → ℕ → Term) (under : ℕ) (ts : List Term) → replaced by under (t.Or ts) ≡ t.Or (map (replaced by under) ts)
unfolding replaced
replaced-Or by under ts = ap t.Or (row_replaced_is by under (hidden-the_row-Term-0 ts) ∙ ap (map (replaced by under)) (items_hidden-the_row-Term-0 ts))

pub replaced-Not : (by : ℕ → ℕ → Term) (under : ℕ) (a : Term) → replaced by under (t.Not a) ≡ t.Not (replaced by under a)
unfolding replaced shape-the_row-Term-1 hidden-the_row-Term-1 hidden
replaced-Not by under a = refl

pub replaced-If : (by : ℕ → ℕ → Term) (under : ℕ) (a b d : Term) → replaced by under (t.If a b d) ≡ t.If (replaced by under a) (replaced by under b) (replaced by under d)
unfolding replaced shape-the_row-Term-1 hidden-the_row-Term-1 hidden
replaced-If by under a b d = refl

pub replaced-Same : (by : ℕ → ℕ → Term) (under : ℕ) (a b : Term) → replaced by under (t.Same a b) ≡ t.Same (replaced by under a) (replaced by under b)
unfolding replaced shape-the_row-Term-1 hidden-the_row-Term-1 hidden
replaced-Same by under a b = refl

pub replaced-Less : (by : ℕ → ℕ → Term) (under : ℕ) (a b : Term) → replaced by under (t.Less a b) ≡ t.Less (replaced by under a) (replaced by under b)
unfolding replaced shape-the_row-Term-1 hidden-the_row-Term-1 hidden
replaced-Less by under a b = refl

pub replaced-Arith : (by : ℕ → ℕ → Term) (under : ℕ) (op : ArithOp) (a b : Term) → replaced by under (t.Arith op a b) ≡ t.Arith op (replaced by under a) (replaced by under b)
unfolding replaced shape-the_row-Term-1 hidden-the_row-Term-1 hidden
replaced-Arith by under op a b = refl

pub replaced-Quantified : (by : ℕ → ℕ → Term) (under : ℕ) (all : Bool) (a : Term) → replaced by under (t.Quantified all a) ≡ t.Quantified all (replaced by (suc under) a)
unfolding replaced shape-the_row-Term-1 hidden-the_row-Term-1 hidden
replaced-Quantified by under all a = refl

-- what comes in place of a variable of the list, and of one past it
pub placed_there : (to : ℕ) (ts : List Term) (under k : ℕ) (d : Term) → k < length ts → lifted to under (get_or ts k d) ≡ placed_variable to ts under k
placed_there to ts under k d h = ap (λ o. option_map_or (lifted to under) o (t.Var (to + (k - length ts)))) (sym (slice_get-get_or ts k d h))

pub placed_past : (to : ℕ) (ts : List Term) (under k : ℕ) → length ts ≤ k → t.Var (to + (k - length ts)) ≡ placed_variable to ts under k
placed_past to ts under k h = ap (λ o. option_map_or (lifted to under) o (t.Var (to + (k - length ts)))) (sym (slice_get_past ts k h))

pub ruleset trees = (replaced-Known, replaced-Var, replaced-Read, replaced-Not, replaced-And, replaced-Or, replaced-If, replaced-Same, replaced-Less, replaced-Arith, replaced-Quantified, placed_there, placed_past, the_lemmas)
