-- Making a machine: what its acceptance says, and how many cells its windows have.
use Rattle.std.proofs.Common.{◌≡◌, ℕ, zero, suc, ◌+◌, ◌-◌, ◌*◌, ◌^◌, ◌≤◌, min, Bool, true, false, cond, List, [], ◌∷◌, map, length, drop, Option, Some, None, refl, sym, ap, ◌∙◌, arith, length-append}
use Rattle.std.specs.Prelude.{nat_lt, slice_get}
use Rattle.std.specs.List.{All, flat_map}
use Rattle.std.proofs.lemmas.List.{length-map}
use Rattle.std.proofs.Math.Nat.{suc-mul, pow-zero, pow-succ'}
use Rattle.term_core.specs.declared.machine.CellFamily.{CellFamily}
use Rattle.term_core.specs.declared.machine.TermRule.{TermRule}
use Rattle.term_core.specs.Nodes.{nodes, nodes_from, choices}
use Rattle.term_core.specs.Cells.{cells_from}
use Rattle.term_core.specs.Variables.{fits}
use Rattle.lemma_strengthen.specs.declared.formula.Formula.{Formula}
use Rattle.other_abstract.specs.declared.making.MakeStop.{MakeStop}
use Rattle.other_abstract.specs.declared.machine.AbstractMachine.{AbstractMachine}
use Rattle.other_abstract.specs.Machines.{PrefixesFit, FormulasFit}
use Rattle.other_abstract.specs.Making.{long_formula, long_start, cell_count, counted, largest_window, too_many, or_else, refusal}
use Rattle.term_core.specs.Whole.{IsWhole}
use Rattle.other_abstract.specs.Laws.{StepsAreCovered, StartsAreCovered, CoversSteps, CoversStarts}
use Rattle.other_abstract.proofs.SimulationLemmas.{all_get}

-- how many cells families have
abbrev pub count_sum : ℕ → List CellFamily → ℕ
count_sum N [] = 0
count_sum N (f ∷ fs) = N ^ f.axes + count_sum N fs

nodes_length : (first count : ℕ) → length (nodes_from first count) ≡ count
nodes_length first zero = refl
nodes_length first (suc count) = ap suc (nodes_length (suc first) count)

-- so many lists, each as long
flat_length : {A B : Type 0} (f : A → List B) (n : ℕ) (xs : List A) → ((x : A) → length (f x) ≡ n) → length (flat_map f xs) ≡ length xs * n
flat_length f n [] h = omega arith
flat_length f n (x ∷ xs) h =
    length-append (f x) (flat_map f xs) ∙ ap (λ a. a + length (flat_map f xs)) (h x) ∙ ap (λ b. n + b) (flat_length f n xs h)
    ∙ sym (suc-mul (length xs) n ∙ swap (length xs * n) n)
  where
    swap : (a b : ℕ) → a + b ≡ b + a
    swap a b = omega arith

choices_length : (N count : ℕ) → length (choices N count) ≡ N ^ count
choices_length N zero = sym (pow-zero N)
choices_length N (suc count) =
    flat_length (λ n. map (λ ns. n ∷ ns) (choices N count)) (N ^ count) (nodes N) (λ n. length-map (choices N count) (λ ns. n ∷ ns) ∙ choices_length N count)
    ∙ ap (λ k. k * N ^ count) (nodes_length 1 N)
    ∙ sym (pow-succ' N count)

cells_length : (N first : ℕ) (fs : List CellFamily) → length (cells_from N first fs) ≡ count_sum N fs
cells_length N first [] = refl
cells_length N first (f ∷ fs) =
    length-append (map (λ at. record { family = first; at = at }) (choices N f.axes)) (cells_from N (suc first) fs)
    ∙ ap (λ k. k + length (cells_from N (suc first) fs)) (length-map (choices N f.axes) (λ at. record { family = first; at = at }) ∙ choices_length N f.axes)
    ∙ ap (λ k. N ^ f.axes + k) (cells_length N (suc first) fs)

pub cells_counted : (N : ℕ) (fs : List CellFamily) → cell_count N fs ≡ count_sum N fs
cells_counted N fs = cells_length N 0 fs

-- one family more
pub sum_more : (limit sum own rest : ℕ) → min (min (sum + min own limit) limit + rest) limit ≡ min (sum + (own + rest)) limit
sum_more limit sum own rest = omega arith

-- acceptance
or_none : (a b : Option MakeStop) → or_else a b ≡ None → (a ≡ None) × (b ≡ None)
or_none None b e = (refl, e)
or_none (Some stop) b e = cc

below_first : (m k : ℕ) (a b : Option MakeStop) (s : MakeStop) → cond (nat_lt m k) (Some s) b ≡ None → (k ≤ m) × (b ≡ None)
below_first m k a b s e = go (nat_lt m k) refl e
  where
    go : (q : Bool) → nat_lt m k ≡ q → cond q (Some s) b ≡ None → (k ≤ m) × (b ≡ None)
    go true was h = cc
    go false was h = (grind (arith, was), h)

some_is : {X : Type 0} {a b : X} → Some a ≡ Some b → a ≡ b
some_is e = cc

formulas_below : (m : ℕ) (fs : List Formula) → long_formula m fs ≡ None → (k : ℕ) (f : Formula) → slice_get fs k ≡ Some f → f.prefix ≤ m
formulas_below m [] none k f e = cc
formulas_below m (g ∷ gs) none zero f e = let p = below_first m g.prefix None (long_formula m gs) _ none in let same : g ≡ f = some_is e in let q : g.prefix ≡ f.prefix = ap (λ (h : Formula). h.prefix) same in omega (arith, p.0, q)
formulas_below m (g ∷ gs) none (suc k) f e = formulas_below m gs (below_first m g.prefix None (long_formula m gs) _ none).1 k f e

starts_below : (m : ℕ) (rs : List TermRule) → long_start m rs ≡ None → (k : ℕ) (r : TermRule) → slice_get rs k ≡ Some r → r.prefix ≤ m
starts_below m [] none k r e = cc
starts_below m (g ∷ gs) none zero r e = let p = below_first m g.prefix None (long_start m gs) _ none in let same : g ≡ r = some_is e in let q : g.prefix ≡ r.prefix = ap (λ (h : TermRule). h.prefix) same in omega (arith, p.0, q)
starts_below m (g ∷ gs) none (suc k) r e = starts_below m gs (below_first m g.prefix None (long_start m gs) _ none).1 k r e

pub prefixes_fit : (M : AbstractMachine) → refusal M.kept M.machine M.formulas ≡ None → PrefixesFit M
prefixes_fit M none =
    let p = or_none (long_formula M.kept M.formulas) (or_else (long_start M.kept M.machine.starts) (too_many (largest_window M.kept M.machine))) none in
    let q = or_none (long_start M.kept M.machine.starts) (too_many (largest_window M.kept M.machine)) p.1 in
    record { formulas = formulas_below M.kept M.formulas p.0; starts = starts_below M.kept M.machine.starts q.0 }

pub formulas_fit : (M : AbstractMachine) → All (λ (f : Formula). fits M.machine.families f.body ≡ true) M.formulas → FormulasFit M
formulas_fit M all k f e = all_get (λ (f : Formula). fits M.machine.families f.body ≡ true) M.formulas k f all e

-- what a machine covers that is whole and has fitting formulas
pub covers_steps : (M : AbstractMachine) → StepsAreCovered → IsWhole M.machine → All (λ (f : Formula). fits M.machine.families f.body ≡ true) M.formulas → CoversSteps M
covers_steps M covered whole fit = λ N c p s t k choice long state hold fires. covered N M c p s t k whole (formulas_fit M fit) choice long state hold fires

pub covers_starts : (M : AbstractMachine) → StartsAreCovered → IsWhole M.machine → CoversStarts M
covers_starts M covered whole = λ N c p s k choice long starts. covered N M c p s k whole choice long starts

-- the last sum is the count
drop_past : {X : Type 0} (xs : List X) (i : ℕ) → length xs ≤ i → drop i xs ≡ []
drop_past [] zero h = refl
drop_past [] (suc i) h = refl
drop_past (y ∷ ys) zero h = absurd (omega (arith, h))
drop_past (y ∷ ys) (suc i) h = drop_past ys i (omega (arith, h))

bounded : (limit sum rest : ℕ) → rest ≡ 0 → sum ≤ limit → sum ≡ min (sum + rest) limit
bounded limit sum rest e h = omega (arith, e, h)

pub sums_done : (N : ℕ) (fs : List CellFamily) (i sum : ℕ) → length fs ≤ i → counted (sum + count_sum N (drop i fs)) ≡ counted (count_sum N fs) → sum ≤ 2 ^ 64 - 1 → sum ≡ counted (cell_count N fs)
sums_done N fs i sum past before within =
    bounded (2 ^ 64 - 1) sum (count_sum N (drop i fs)) (ap (count_sum N) (drop_past fs i past)) within
    ∙ before
    ∙ ap counted (sym (cells_counted N fs))

pub ruleset making = (cells_counted, sum_more)
