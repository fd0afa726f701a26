use Rattle.clause_derivation.specs.Numbering.{clauses_of}
use Rattle.clause_derivation.proofs.ChainLemmas.{ran_within, no_first, stopped}
use Rattle.clause_derivation.proofs.checking.take_steps.Goals as goal

pub returns-in-None-clause-ended : goal.returns-in-None-clause-ended
returns-in-None-clause-ended c = no_first c.args.marked.now (clauses_of c.args.numbered.now) c.args.chain.now c.in-None.ensures

pub returns-then-not-take_step-clause-ended : goal.returns-then-not-take_step-clause-ended
returns-then-not-take_step-clause-ended c =
    (stopped (clauses_of c.args.numbered.now) c.args.chain.now c.items-step-items.result.now c.loop-step.step-index _ _ _ _ c.items-step-items.ensures c.loop-step-test.true c.loop-step.invariant c.if-not-take_step.true c.take_step.ensures).0

pub returns-then-not-take_step-clause-within : goal.returns-then-not-take_step-clause-within
returns-then-not-take_step-clause-within c =
    (stopped (clauses_of c.args.numbered.now) c.args.chain.now c.items-step-items.result.now c.loop-step.step-index _ _ _ _ c.items-step-items.ensures c.loop-step-test.true c.loop-step.invariant c.if-not-take_step.true c.take_step.ensures).1

pub returns-clause-within : goal.returns-clause-within
returns-clause-within c = ran_within (clauses_of c.args.numbered.now) c.args.chain.now c.loop-step.step-index c.loop-step.marked c.loop-step.invariant
