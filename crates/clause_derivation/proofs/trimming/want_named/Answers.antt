use Rattle.std.proofs.Common.{◌∙◌, ◌+◌, ◌≤◌, List, length, map, take, sym, subst}
use Rattle.std.specs.Prelude.{All}
use Rattle.std.proofs.lemmas.List.{take_all}
use Rattle.std.proofs.lemmas.List.Elements.{All-more, All-weaker, All-cons, All-map}
use Rattle.clause_derivation.specs.declared.chain.Resolve.{Resolve}
use Rattle.clause_derivation.specs.Trimming.{IsWanted}
use Rattle.clause_derivation.proofs.TrimLemmas.{wanted_kept}
use Rattle.clause_derivation.proofs.trimming.want_named.Goals as goal

pub loop-step-preserved : goal.loop-step-preserved
loop-step-preserved c =
    let old = c.loop-step.needed in
    let new = c.want-in-loop-step.new.needed in
    let inv = c.loop-step.invariant in
    let more = c.want-in-loop-step.ensures in
    record {
      size = c.want-in-loop-step.auto.needed ∙ inv.size;
      first = wanted_kept c.args.base c.args.below old new c.args.chain.now.first more.kept inv.first;
      steps = subst (λ (xs : List Resolve). All (λ s. IsWanted c.args.base c.args.below new s.with) (take (c.loop-step.step-index + 1) xs)) c.items-step-items.ensures
          (All-more (λ s. IsWanted c.args.base c.args.below new s.with) c.items-step-items.result.now c.loop-step.step-index (record { with = 0; pivot = 0 }) c.loop-step-test.true
          (All-weaker (λ s. IsWanted c.args.base c.args.below old s.with) (λ s. IsWanted c.args.base c.args.below new s.with) (λ s w. wanted_kept c.args.base c.args.below old new s.with more.kept w) (take c.loop-step.step-index c.items-step-items.result.now) (subst (λ (xs : List Resolve). All (λ s. IsWanted c.args.base c.args.below old s.with) (take c.loop-step.step-index xs)) (sym c.items-step-items.ensures) inv.steps))
          more.wanted);
      kept = λ k t. more.kept k (inv.kept k t);
      later = λ k h. more.later k h ∙ inv.later k h;
    }

pub returns-clause-wanted : goal.returns-clause-wanted
returns-clause-wanted c =
    All-cons (IsWanted c.args.base c.args.below c.loop-step.needed) c.args.chain.now.first (map (λ s. s.with) c.args.chain.now.steps) c.loop-step.invariant.first
    (All-map (IsWanted c.args.base c.args.below c.loop-step.needed) (λ (s : Resolve). s.with) c.args.chain.now.steps
    (subst (All (λ s. IsWanted c.args.base c.args.below c.loop-step.needed s.with)) (take_all c.loop-step.step-index c.args.chain.now.steps (subst (λ (xs : List Resolve). length xs ≤ c.loop-step.step-index) c.items-step-items.ensures c.loop-step-test.false)) c.loop-step.invariant.steps))
