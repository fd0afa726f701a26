use Rattle.std.proofs.Common.{◌∙◌, length}
use Rattle.sat_solver.proofs.GrowLemmas.{grows_then}
use Rattle.sat_solver.proofs.search.settle_each.Goals as goal

pub returns-in_err-settle-clause-grows : goal.returns-in_err-settle-clause-grows
returns-in_err-settle-clause-grows c =
    grows_then (length c.args.known.now.given.now) (length c.args.known.now.chains.now) c.args.trail.now.entries c.loop-origin.trail.entries c.settle.new.trail.entries c.loop-origin.invariant.grows c.in_err-settle.ensures.grows

pub loop-origin-preserved : goal.loop-origin-preserved
loop-origin-preserved c = record {
  variables = c.in_ok-settle.ensures.variables ∙ c.loop-origin.invariant.variables;
  grows = grows_then (length c.args.known.now.given.now) (length c.args.known.now.chains.now) c.args.trail.now.entries c.loop-origin.trail.entries c.settle.new.trail.entries c.loop-origin.invariant.grows c.in_ok-settle.ensures.grows;
}
