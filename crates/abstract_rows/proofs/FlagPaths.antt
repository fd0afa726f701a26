-- Paths of the machine of the flag fit it.
use Rattle.std.proofs.Common.{◌≡◌, ℕ, zero, suc, ◌<◌, Bool, List, [], ◌∷◌, ◌++◌, length, get_or, Some, sym, ◌∙◌, subst, arith}
use Rattle.std.specs.Prelude.{slice_get}
use Rattle.std.specs.List.{All}
use Rattle.std.proofs.lemmas.Option.{slice_get-get_or}
use Rattle.other_abstract.specs.declared.node.AbsNode.{AbsNode}
use Rattle.other_abstract.specs.declared.node.AbsNode.TheVariants.{Fired}
use Rattle.other_abstract.specs.declared.value.AbsValue.TheVariants.{Truth}
use Rattle.other_abstract.specs.declared.machine.AbstractMachine.{AbstractMachine}
use Rattle.other_abstract.specs.declared.state.AbsState.{AbsState}
use Rattle.other_abstract.specs.declared.state.AbsStep.{AbsStep}
use Rattle.other_abstract.specs.Machines.{fired_of}
use Rattle.abstract_replay.specs.Paths.{StepFits, PathFits}
use Rattle.abstract_rows.specs.Flag.{IsFlag}
use Rattle.abstract_rows.proofs.FlagLemmas.{has_rule, has_start, pattern_of_rule, pattern_of_start, state_fits, is_made}

some_below : {X : Type 0} (xs : List X) (k : ℕ) (x : X) → slice_get xs k ≡ Some x → k < length xs
some_below [] k x e = cc
some_below (y ∷ ys) zero x e = omega arith
some_below (y ∷ ys) (suc k) x e = let low = some_below ys k x e in omega arith

each : {X : Type 0} (P : X → Type 0) (xs : List X) (k : ℕ) (x : X) → All P xs → slice_get xs k ≡ Some x → P x
each P xs k x all there =
    let low = some_below xs k x there in
    let is : get_or xs k x ≡ x = some_is (sym (slice_get-get_or xs k x low) ∙ there) in
    subst P is (all k x low)
  where
    some_is : {Y : Type 0} {y z : Y} → Some y ≡ Some z → y ≡ z
    some_is e = cc

all_joined : {X : Type 0} (P : X → Type 0) (x : X) → P x → (xs : List X) → All P xs → All P (xs ++ x ∷ [])
all_joined P x here [] all zero d low = here
all_joined P x here [] all (suc k) d low = absurd (omega arith)
all_joined P x here (y ∷ ys) all zero d low = all zero d (omega arith)
all_joined P x here (y ∷ ys) all (suc k) d low = all_joined P x here ys (λ j e less. all (suc j) e (omega arith)) k d (omega arith)

pub all_more : {X : Type 0} (P : X → Type 0) (xs ys : List X) (x : X) → All P xs → P x → ys ≡ xs ++ x ∷ [] → All P ys
all_more P xs ys x all here is = subst (All P) (sym is) (all_joined P x here xs all)

pub step_fits : (M : AbstractMachine) (pattern : List AbsNode) (wide to : AbsState) (b c : Bool) → IsFlag M → pattern ≡ Fired 1 ∷ [] → wide.values ≡ Truth b ∷ [] → to.values ≡ Truth c ∷ [] → StepFits M (record { rule = 0; pattern = pattern; wide = wide; to = to })
step_fits M pattern wide to b c h is was then = record {
  rule = has_rule M h;
  pattern = λ r there. pattern_of_rule M r pattern h is there;
  wide = state_fits M (fired_of pattern) wide.values b h was;
  to = state_fits M 0 to.values c h then;
}

pub path_fits : (M : AbstractMachine) (pattern : List AbsNode) (first : AbsState) (steps : List AbsStep) (b : Bool) → IsFlag M → pattern ≡ [] → first.values ≡ Truth b ∷ [] → All (StepFits M) steps → PathFits M (record { start = 0; pattern = pattern; first = first; steps = steps })
path_fits M pattern first steps b h is was all = record {
  start = has_start M h;
  pattern = λ r there. pattern_of_start M r pattern h is there;
  first = state_fits M 0 first.values b h was;
  steps = λ k step there. each (StepFits M) steps k step all there;
}

pub ruleset paths = (is_made, step_fits, path_fits)
