use Rattle.clause_derivation.specs.Renumbering.{moved_chain}
use Rattle.clause_derivation.proofs.RenumberLemmas.{place_more}
use Rattle.clause_derivation.proofs.chain.move_chains.Goals as goal

pub loop-chain-preserved : goal.loop-chain-preserved
loop-chain-preserved c =
    place_more (moved_chain c.args.at) c.args.chains.now c.loop-chain.chains c.loop-chain.chain-index c.chain-item.result c.move_chain.new.chain c.loop-chain-test.true c.loop-chain.invariant c.move_chain.ensures
