use Rattle.std.proofs.Common.{◌≡◌, drop}
use Rattle.murphi_ast.specs.Flat.{first_other_word}
use Rattle.murphi_syntax.proofs.protocol.first_other_word.Given as goal

abbrev pub invariant-loop-token : goal.invariant-loop-token
invariant-loop-token l = first_other_word (drop l.token-index l.tokens) ≡ first_other_word l.tokens
