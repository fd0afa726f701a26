-- Paths come to one thing, and what the steps of the code find out is that.
use Rattle.std.proofs.Common.{◌≡◌, ◌↔◌, ◌⊎◌, ℕ, zero, suc, ◌+◌, ◌-◌, ◌<◌, ◌≤◌, Bool, true, false, List, [], ◌∷◌, length, get_or, drop, Option, Some, None, inl, inr, refl, sym, ap, ◌∙◌, subst, true≢false, arith}
use Rattle.std.specs.Prelude.{◌==◌, slice_get, IsTrue}
use Rattle.std.proofs.lemmas.Bool.{cases_lt, eqb-true, eqb-false}
use Rattle.std.proofs.lemmas.List.{drop_more, drop_all}
use Rattle.std.proofs.lemmas.Option.{slice_get-get_or}
use Rattle.term_core.specs.declared.machine.TermRule.{TermRule}
use Rattle.lemma_strengthen.specs.declared.formula.Formula.{Formula}
use Rattle.other_abstract.specs.declared.machine.AbstractMachine.{AbstractMachine}
use Rattle.other_abstract.specs.declared.state.AbsStep.{AbsStep}
use Rattle.other_abstract.specs.May.{AbsCells}
use Rattle.other_abstract.specs.Machines.{IsClean, Violates, MayFault}
use Rattle.abstract_replay.specs.declared.path.Path.{Path}
use Rattle.abstract_replay.specs.declared.path.ReplayEnd.{ReplayEnd}
use Rattle.abstract_replay.specs.declared.path.ReplayEnd.TheVariants.{Broken, Violates as EndsViolating, Clean}
use Rattle.abstract_replay.specs.Paths.{state_after, last_state, IsAllowed, AreAllowed, IsFirstBroken, IsFirstViolated, Begins, IsBroken, IsRun, StepFits, StartFaults, IsJudged, ComesTo}
use Rattle.abstract_replay.specs.Laws.{EndsAreSingle}
use Rattle.abstract_replay.specs.Steps.{BrokenIs, ViolatedIs, IsReached}

-- A path comes to one thing

none_broken : (M : AbstractMachine) (s : AbsCells) (steps : List AbsStep) (k : ℕ) → AreAllowed M s steps → IsFirstBroken M s steps k → ⊥
none_broken M s [] k all broken = broken
none_broken M s (step ∷ steps) zero all broken = broken all.0
none_broken M s (step ∷ steps) (suc k) all broken = none_broken M step.to.values steps k all.1 broken.1

broken_once : (M : AbstractMachine) (s : AbsCells) (steps : List AbsStep) (j k : ℕ) → IsFirstBroken M s steps j → IsFirstBroken M s steps k → j ≡ k
broken_once M s [] j k a b = absurd a
broken_once M s (step ∷ steps) zero zero a b = refl
broken_once M s (step ∷ steps) zero (suc k) a b = absurd (a b.0)
broken_once M s (step ∷ steps) (suc j) zero a b = absurd (b a.0)
broken_once M s (step ∷ steps) (suc j) (suc k) a b = ap suc (broken_once M step.to.values steps j k a.1 b.1)

violated_once : (M : AbstractMachine) (s : AbsCells) (j k : ℕ) → IsFirstViolated M s j → IsFirstViolated M s k → j ≡ k
violated_once M s j k a b = go (cases_lt j k) (cases_lt k j)
  where
    go : (j < k) ⊎ (k ≤ j) → (k < j) ⊎ (j ≤ k) → j ≡ k
    go (inl less) _ = absurd (b.earlier j a.formula less a.there a.violated)
    go (inr _) (inl less) = absurd (a.earlier k b.formula less b.there b.violated)
    go (inr low) (inr high) = omega arith

not_clean : (M : AbstractMachine) (s : AbsCells) (k : ℕ) → IsFirstViolated M s k → IsClean M s → ⊥
not_clean M s k violated clean = clean k violated.formula violated.there violated.violated

judged_once : (M : AbstractMachine) (path : Path) (j k : ℕ) → IsJudged M path (EndsViolating j) → IsJudged M path (EndsViolating k) → j ≡ k
judged_once M path j k (inl a) (inl b) = violated_once M (last_state path) j k a b
judged_once M path j k (inl a) (inr b) = absurd (not_clean M (last_state path) j a b.1)
judged_once M path j k (inr a) (inl b) = absurd (not_clean M (last_state path) k b a.1)
judged_once M path j k (inr a) (inr b) = a.0 ∙ sym b.0

judged_not_clean : (M : AbstractMachine) (path : Path) (k : ℕ) → IsJudged M path (EndsViolating k) → IsJudged M path Clean → ⊥
judged_not_clean M path k (inl a) clean = not_clean M (last_state path) k a clean.0
judged_not_clean M path k (inr a) clean = clean.1 a.2

whole_not_broken : (M : AbstractMachine) (path : Path) (k : ℕ) → IsBroken M path k → IsRun M path → ⊥
whole_not_broken M path zero broken run = broken run.0
whole_not_broken M path (suc k) broken run = none_broken M path.first.values path.steps k run.1 broken.1

start_once : (M : AbstractMachine) (path : Path) (j k : ℕ) → IsBroken M path j → IsBroken M path k → j ≡ k
start_once M path zero zero a b = refl
start_once M path zero (suc k) a b = absurd (a b.0)
start_once M path (suc j) zero a b = absurd (b a.0)
start_once M path (suc j) (suc k) a b = ap suc (broken_once M path.first.values path.steps j k a.1 b.1)

pub ends_single : EndsAreSingle
ends_single M path (Broken j) (Broken k) a b = ap Broken (start_once M path j k a b)
ends_single M path (Broken j) (EndsViolating k) a b = absurd (whole_not_broken M path j a b.0)
ends_single M path (Broken j) Clean a b = absurd (whole_not_broken M path j a b.0)
ends_single M path (EndsViolating j) (Broken k) a b = absurd (whole_not_broken M path k b a.0)
ends_single M path (EndsViolating j) (EndsViolating k) a b = ap EndsViolating (judged_once M path j k a.1 b.1)
ends_single M path (EndsViolating j) Clean a b = absurd (judged_not_clean M path j a.1 b.1)
ends_single M path Clean (Broken k) a b = absurd (whole_not_broken M path k b a.0)
ends_single M path Clean (EndsViolating k) a b = absurd (judged_not_clean M path k b.1 a.1)
ends_single M path Clean Clean a b = refl

pub exactly : (M : AbstractMachine) (path : Path) (end : ReplayEnd) → ComesTo M path end → (other : ReplayEnd) → (end ≡ other) ↔ ComesTo M path other
exactly M path end comes other = ((λ e. subst (ComesTo M path) e comes), (λ it. ends_single M path end other comes it))

-- Steps gone through

pub reached_start : (M : AbstractMachine) (s : AbsCells) (steps : List AbsStep) → IsReached M s steps 0 s steps
reached_start M s steps = record { allowed = λ all. all; broken = λ j broken. let e : j ≡ 0 + j = omega arith in subst (IsFirstBroken M s steps) e broken }

reached_more : (M : AbstractMachine) (s : AbsCells) (steps : List AbsStep) (gone : ℕ) (t : AbsCells) (step : AbsStep) (rest : List AbsStep) → IsReached M s steps gone t (step ∷ rest) → IsAllowed M t step → IsReached M s steps (gone + 1) step.to.values rest
reached_more M s steps gone t step rest reached allowed = record {
  allowed = λ all. reached.allowed ((allowed, all));
  broken = λ j broken. let e : gone + suc j ≡ gone + 1 + j = omega arith in subst (IsFirstBroken M s steps) e (reached.broken (suc j) ((allowed, broken)));
}

reached_none : (M : AbstractMachine) (s : AbsCells) (steps : List AbsStep) (gone : ℕ) (t : AbsCells) → IsReached M s steps gone t [] → BrokenIs M s steps None
reached_none M s steps gone t reached = reached.allowed tt

reached_here : (M : AbstractMachine) (s : AbsCells) (steps : List AbsStep) (gone : ℕ) (t : AbsCells) (step : AbsStep) (rest : List AbsStep) → IsReached M s steps gone t (step ∷ rest) → (IsAllowed M t step → ⊥) → BrokenIs M s steps (Some (gone + 1))
reached_here M s steps gone t step rest reached broken = (gone, omega arith, (let e : gone + 0 ≡ gone = omega arith in subst (IsFirstBroken M s steps) e (reached.broken zero broken)))

-- The last state

pub last_is : (s : AbsCells) (steps : List AbsStep) (n : ℕ) (step : AbsStep) → slice_get steps n ≡ Some step → length steps ≡ suc n → state_after s steps ≡ step.to.values
last_is s [] n step there long = cc
last_is s (x ∷ []) zero step there long = let e : x ≡ step = cc in ap (λ y. y.to.values) e
last_is s (x ∷ y ∷ steps) zero step there long = cc
last_is s (x ∷ steps) (suc n) step there long = let e : length steps ≡ suc n = cc in last_is x.to.values steps n step there e

pub last_at : (s : AbsCells) (steps : List AbsStep) (step : AbsStep) → 0 < length steps → step ≡ get_or steps (length steps - 1) step → (get_or steps (length steps - 1) step).to.values ≡ state_after s steps
last_at s steps step some is =
    ap (λ x. x.to.values) (sym is) ∙ sym (last_is s steps (length steps - 1) step (slice_get-get_or steps (length steps - 1) step (omega arith) ∙ ap Some (sym is)) (omega arith))

none_there : {X : Type 0} (xs : List X) (k : ℕ) → k < length xs → slice_get xs k ≡ None → ⊥
none_there [] k less e = omega arith
none_there (x ∷ xs) zero less e = cc
none_there (x ∷ xs) (suc k) less e = none_there xs k (omega arith) e

no_items : {X : Type 0} (xs : List X) → length xs ≡ 0 → xs ≡ []
no_items [] e = refl
no_items (x ∷ xs) e = cc

pub is_empty : {X : Type 0} (xs : List X) (b : Bool) → b ≡ (length xs == 0) → b ≡ true → length xs ≡ 0
is_empty xs b e so = eqb-true (length xs) 0 (sym e ∙ so)

pub is_some : {X : Type 0} (xs : List X) (b : Bool) → b ≡ (length xs == 0) → b ≡ false → 0 < length xs
is_some xs b e so = let ne : (length xs ≡ 0 → ⊥) = eqb-false (length xs) 0 (sym e ∙ so) in go (length xs) ne
  where
    go : (n : ℕ) → (n ≡ 0 → ⊥) → 0 < n
    go zero ne = absurd (ne refl)
    go (suc n) ne = omega arith

pub first_is : (s : AbsCells) (steps : List AbsStep) → length steps ≡ 0 → s ≡ state_after s steps
first_is s [] e = refl
first_is s (step ∷ steps) e = absurd (omega arith)

-- What a turn of the loops over steps and formulas finds

pub fits_at : (M : AbstractMachine) (steps : List AbsStep) (i : ℕ) (step : AbsStep) → ((k : ℕ) (x : AbsStep) → slice_get steps k ≡ Some x → StepFits M x) → i < length steps → step ≡ get_or steps i step → StepFits M step
fits_at M steps i step fits less is = fits i step (slice_get-get_or steps i step less ∙ ap Some (sym is))

at_step : (steps : List AbsStep) (i : ℕ) (step : AbsStep) → i < length steps → step ≡ get_or steps i step → drop i steps ≡ step ∷ drop (i + 1) steps
at_step steps i step less is = drop_more steps i step less ∙ ap (λ x. x ∷ drop (i + 1) steps) (sym is)

pub broken_there : (M : AbstractMachine) (s : AbsCells) (steps : List AbsStep) (n i : ℕ) (t : AbsCells) (step : AbsStep) (allowed : Bool) → n ≡ i → IsReached M s steps i t (drop i steps) → i < length steps → step ≡ get_or steps i step → allowed ≡ false → IsTrue allowed ↔ IsAllowed M t step → BrokenIs M s steps (Some (n + 1))
broken_there M s steps n i t step allowed same reached less is not_allowed means =
    let here : BrokenIs M s steps (Some (i + 1)) = reached_here M s steps i t step (drop (i + 1) steps) (subst (IsReached M s steps i t) (at_step steps i step less is) reached) (λ it. true≢false (sym (means.1 it) ∙ not_allowed)) in
    subst (λ k. BrokenIs M s steps (Some (k + 1))) (sym same) here

pub kept_there : (M : AbstractMachine) (s : AbsCells) (steps : List AbsStep) (n i : ℕ) (t : AbsCells) (step : AbsStep) (allowed : Bool) → n ≡ i → IsReached M s steps i t (drop i steps) → i < length steps → step ≡ get_or steps i step → allowed ≡ true → IsTrue allowed ↔ IsAllowed M t step → (n + 1 ≡ i + 1) × IsReached M s steps (i + 1) step.to.values (drop (i + 1) steps)
kept_there M s steps n i t step allowed same reached less is so means =
    (ap (λ k. k + 1) same, reached_more M s steps i t step (drop (i + 1) steps) (subst (IsReached M s steps i t) (at_step steps i step less is) reached) (means.0 so))

pub all_there : (M : AbstractMachine) (s : AbsCells) (steps : List AbsStep) (i : ℕ) (t : AbsCells) → IsReached M s steps i t (drop i steps) → length steps ≤ i → AreAllowed M s steps
all_there M s steps i t reached most = reached_none M s steps i t (subst (IsReached M s steps i t) (drop_all i steps most) reached)

pub violated_there : (M : AbstractMachine) (s : AbsCells) (k i : ℕ) (violated : Bool) → k ≡ i → i < length M.formulas → ((j : ℕ) (f : Formula) → j < i → slice_get M.formulas j ≡ Some f → Violates M s f → ⊥) → violated ≡ true → ((f : Formula) → slice_get M.formulas k ≡ Some f → IsTrue violated ↔ Violates M s f) → IsFirstViolated M s k
violated_there M s k i violated same less earlier so means = go (slice_get M.formulas k) refl
  where
    go : (found : Option Formula) → slice_get M.formulas k ≡ found → IsFirstViolated M s k
    go None e = absurd (none_there M.formulas k (subst (λ n. n < length M.formulas) (sym same) less) e)
    go (Some f) e = record { formula = f; there = e; violated = (means f e).0 so; earlier = λ j g low. earlier j g (subst (λ n. j < n) same low) }

some_below : {X : Type 0} (xs : List X) (k : ℕ) (x : X) → slice_get xs k ≡ Some x → k < length xs
some_below [] k x e = cc
some_below (y ∷ ys) zero x e = omega arith
some_below (y ∷ ys) (suc k) x e = let low = some_below ys k x e in omega arith

pub clean_there : (M : AbstractMachine) (s : AbsCells) (i : ℕ) → ((j : ℕ) (f : Formula) → j < i → slice_get M.formulas j ≡ Some f → Violates M s f → ⊥) → length M.formulas ≤ i → IsClean M s
clean_there M s i earlier most k f there = let low = some_below M.formulas k f there in earlier k f (omega arith) there

pub start_there : (M : AbstractMachine) (path : Path) (faults : Bool) → length path.steps ≡ 0 → path.start < length M.machine.starts → ((r : TermRule) → slice_get M.machine.starts path.start ≡ Some r → IsTrue faults ↔ MayFault M r path.pattern) → IsTrue faults ↔ StartFaults M path
start_there M path faults none less means = go (slice_get M.machine.starts path.start) refl
  where
    go : (found : Option TermRule) → slice_get M.machine.starts path.start ≡ found → IsTrue faults ↔ StartFaults M path
    go None e = absurd (none_there M.machine.starts path.start less e)
    go (Some r) e = (
      (λ so. record { alone = no_items path.steps none; rule = r; there = e; faults = (means r e).0 so }),
      (λ it. (means it.rule it.there).1 it.faults),
    )

pub long_there : (M : AbstractMachine) (path : Path) → 0 < length path.steps → IsTrue false ↔ StartFaults M path
long_there M path some = ((λ it. absurd (true≢false (sym it))), (λ it. absurd (let e : length path.steps ≡ 0 = ap length it.alone in omega arith)))

-- What a run and a path come to

pub no_faults : (M : AbstractMachine) (path : Path) (faults : Bool) → faults ≡ false → IsTrue faults ↔ StartFaults M path → StartFaults M path → ⊥
no_faults M path faults so means it = true≢false (sym (means.1 it) ∙ so)

pub violates_in : (M : AbstractMachine) (path : Path) (s : AbsCells) (k : ℕ) → s ≡ last_state path → IsFirstViolated M s k → IsJudged M path (EndsViolating k)
violates_in M path s k same violated = inl (subst (λ t. IsFirstViolated M t k) same violated)

pub clean_in : (M : AbstractMachine) (path : Path) (s : AbsCells) (violated : Option ℕ) → s ≡ last_state path → violated ≡ None → ViolatedIs M s violated → IsClean M (last_state path)
clean_in M path s violated same none is = subst (IsClean M) same (subst (ViolatedIs M s) none is)

judged_comes : (M : AbstractMachine) (path : Path) (end : ReplayEnd) → IsRun M path → IsJudged M path end → ComesTo M path end
judged_comes M path (Broken k) run judged = absurd judged
judged_comes M path (EndsViolating k) run judged = (run, judged)
judged_comes M path Clean run judged = (run, judged)

broken_comes : (M : AbstractMachine) (path : Path) (k : ℕ) → Begins M path → BrokenIs M path.first.values path.steps (Some k) → ComesTo M path (Broken k)
broken_comes M path k begins broken = subst (IsBroken M path) (sym broken.1) ((begins, broken.2))

pub comes_broken : (M : AbstractMachine) (path : Path) (steps : List AbsStep) (broken : Option ℕ) (k : ℕ) → steps ≡ path.steps → broken ≡ Some k → Begins M path → BrokenIs M path.first.values steps broken → ComesTo M path (Broken k)
comes_broken M path steps broken k same found begins is =
    broken_comes M path k begins (subst (BrokenIs M path.first.values path.steps) found (subst (λ xs. BrokenIs M path.first.values xs broken) same is))

pub comes_judged : (M : AbstractMachine) (path : Path) (steps : List AbsStep) (broken : Option ℕ) (end : ReplayEnd) → steps ≡ path.steps → broken ≡ None → Begins M path → BrokenIs M path.first.values steps broken → IsJudged M path end → ComesTo M path end
comes_judged M path steps broken end same none begins is judged =
    judged_comes M path end ((begins, subst (BrokenIs M path.first.values path.steps) none (subst (λ xs. BrokenIs M path.first.values xs broken) same is))) judged

pub ruleset paths = (ends_single, exactly, reached_start, last_at, fits_at, all_there)
