-- No `*/` stands among the bytes so far, so what is left gives where it ends.
use Rattle.std.proofs.Common.{◌≡◌, ◌+◌, drop}
use Rattle.std.specs.Prelude.{option_map}
use Rattle.murphi_lex.specs.Scanning.{closing}
use Rattle.murphi_lex.proofs.bytes.closing.Given as goal

abbrev pub invariant-loop-i : goal.invariant-loop-i
invariant-loop-i l = option_map (λ n. n + l.i) (closing (drop l.i l.bytes)) ≡ closing l.bytes
