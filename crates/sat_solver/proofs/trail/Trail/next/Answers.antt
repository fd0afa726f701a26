use Rattle.std.proofs.Common.{◌<◌, sym, subst, arith}
use Rattle.clause_core.specs.Literal.{variable_of}
use Rattle.sat_solver.specs.Assigned.{Path}
use Rattle.sat_solver.specs.declared.entry.Entry.{Entry}
use Rattle.sat_solver.proofs.TrailLemmas.{entry_range}
use Rattle.sat_solver.proofs.trail.Trail.next.Goals as goal

pub returns-then-self-len-clause-range : goal.returns-then-self-len-clause-range
returns-then-self-len-clause-range c =
    subst (λ (p : Path). variable_of c.index.result.now.lit < p.variables) c.self.view_is
    (subst (λ (e : Entry). variable_of e.lit < c.self.inside.variables) (sym c.index.ensures)
    (entry_range c.self.inside.variables c.self.inside.entries.items c.self.inside.values.items c.self.inside.propagated c.index.result.now c.self.invariant (omega arith)))
