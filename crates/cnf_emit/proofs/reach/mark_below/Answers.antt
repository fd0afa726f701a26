use Rattle.std.proofs.Common.{◌+◌, ◌-◌, ◌<◌, ◌≡◌, length, sym, subst, arith}
use Rattle.circuit_core.specs.declared.edge.Gate.TheVariants.{Input}
use Rattle.cnf_emit.specs.Reach.{IsClosedSet}
use Rattle.cnf_emit.proofs.ReachLemmas.{closed_step}
use Rattle.cnf_emit.proofs.reach.mark_below.Goals as goal

pub loop-i-preserved : goal.loop-i-preserved
loop-i-preserved c =
    let inside : c.loop-i.i - 1 < length c.gates-gates.result.now = omega (arith, c.loop-i.auto.i) in
    let next : c.loop-i.i - 1 + 1 ≡ c.loop-i.i = omega arith in
    record {
      kept = λ n m. c.mark_gate.ensures.marks.kept n (c.loop-i.invariant.kept n m);
      closed = closed_step c.gates-gates.result.now c.loop-i.marks c.mark_gate.new.marks c.loop-i.i (c.loop-i.i - 1) (Input 0) next inside c.loop-i.invariant.closed c.mark_gate.ensures.marks c.mark_gate.ensures.has;
      within = λ p closed was. c.mark_gate.ensures.within p (closed (c.loop-i.i - 1) (Input 0) inside) (c.loop-i.invariant.within p closed was);
    }

pub returns-clause-within : goal.returns-clause-within
returns-clause-within c = λ p closed. c.loop-i.invariant.within p (subst (λ gs. IsClosedSet gs p) (sym c.gates-gates.ensures.items) closed)
