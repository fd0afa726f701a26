use Rattle.std.proofs.Common.{◌≡◌, take, map}
use Rattle.cnf_emit.specs.Drafts.{edge_lit}
use Rattle.cnf_emit.proofs.draft.Draft.literals.Given as goal

abbrev pub invariant-loop-e : goal.invariant-loop-e
invariant-loop-e l = l.lits.items ≡ map (edge_lit l.self.lits) (take l.e-index l.edges)
