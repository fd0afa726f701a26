use Rattle.std.proofs.Common.{◌∙◌, sym, length}
use Rattle.term_core.proofs.PlaceLemmas.{lead_fits}
use Rattle.term_core.proofs.ReadLemmas.{index_is_node}
use Rattle.term_core.proofs.+value.Goals as goal

pub eval::place-lead_on-place-requires-clause-fits : goal.eval::place-lead_on-place-requires-clause-fits
eval::place-lead_on-place-requires-clause-fits t c =
    let node = index_is_node c.args.state.now.nodes c.value-value.result c.in-Some.node (sym c.index.ensures ∙ c.in-Some.is) in
    lead_fits c.args.state.now.nodes c.loop-term.place c.in-Some.node c.loop-term.term-index (length c.args.at.now) c.loop-term.invariant.3 node c.loop-term-test.true c.requires.fits
