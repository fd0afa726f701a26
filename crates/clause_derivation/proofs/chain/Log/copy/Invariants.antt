use Rattle.std.proofs.Common.{◌≡◌, take}
use Rattle.clause_derivation.proofs.chain.Log.copy.Given as goal

abbrev pub invariant-loop-chain : goal.invariant-loop-chain
invariant-loop-chain l = l.chains.items ≡ take l.chain-index l.self
