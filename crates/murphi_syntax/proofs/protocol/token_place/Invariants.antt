use Rattle.murphi_syntax.specs.Stop.{IsNamed}
use Rattle.murphi_syntax.proofs.protocol.token_place.Given as goal

abbrev pub invariant-loop-token : goal.invariant-loop-token
invariant-loop-token l = IsNamed l.tokens l.place
