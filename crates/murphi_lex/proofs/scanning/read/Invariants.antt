-- What was read so far, and the reading of the bytes that are left, give the whole reading.
use Rattle.std.proofs.Common.{◌≡◌, length}
use Rattle.murphi_lex.specs.Scanning.{joined, reading, text_reading}
use Rattle.murphi_lex.proofs.scanning.read.Given as goal

abbrev pub invariant-loop-rest : goal.invariant-loop-rest
invariant-loop-rest l = joined l.tokens.items (reading 0 l.at l.rest) ≡ text_reading l.fn.bytes

abbrev pub decreases-loop-rest : goal.decreases-loop-rest
decreases-loop-rest l = length l.rest
