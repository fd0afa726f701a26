use Rattle.std.proofs.Common.{◌≡◌, ◌++◌, take, drop, map}
use Rattle.clause_derivation.specs.Renumbering.{moved_chain}
use Rattle.clause_derivation.proofs.chain.move_chains.Given as goal

abbrev pub invariant-loop-chain : goal.invariant-loop-chain
invariant-loop-chain l = l.chains ≡ map (moved_chain l.at) (take l.chain-index l.fn.chains) ++ drop l.chain-index l.fn.chains
