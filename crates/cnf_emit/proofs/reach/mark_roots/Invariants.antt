use Rattle.cnf_emit.proofs.ReachLemmas.{RootsMarked}
use Rattle.cnf_emit.proofs.reach.mark_roots.Given as goal

abbrev pub invariant-loop-root : goal.invariant-loop-root
invariant-loop-root l = RootsMarked l.fn.marks l.marks l.roots l.root-index
