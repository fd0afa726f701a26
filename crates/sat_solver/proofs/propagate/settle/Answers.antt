use Rattle.std.proofs.Common.{◌<◌, length}
use Rattle.clause_core.specs.declared.literal.Lit.{Lit}
use Rattle.clause_core.specs.Literal.{variable_of}
use Rattle.sat_solver.specs.Naming.{number_of}
use Rattle.sat_solver.proofs.NamingLemmas.{usable_range}
use Rattle.sat_solver.proofs.ScanLemmas.{all_has}
use Rattle.sat_solver.proofs.propagate.settle.Goals as goal

pub enqueue-requires-clause-range : goal.enqueue-requires-clause-range
enqueue-requires-clause-range c =
    all_has (λ (l : Lit). variable_of l < c.args.trail.now.variables) c.in-Some.lits.now
    (usable_range c.args.trail.now.variables c.args.known.now.given.now c.args.known.now.chains.now (number_of (length c.args.known.now.given.now) c.args.origin) c.in-Some.lits.now c.requires c.in-Some.ensures.named)
    c.in-Forced.l c.in-Forced.ensures.own
