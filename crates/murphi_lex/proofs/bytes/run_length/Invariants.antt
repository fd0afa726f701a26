-- Every byte so far belongs to the run, so what is left gives the rest of its length.
use Rattle.std.proofs.Common.{◌≡◌, ◌+◌, drop}
use Rattle.std.specs.List.{prefix_len}
use Rattle.murphi_lex.specs.Scanning.{belongs}
use Rattle.murphi_lex.proofs.bytes.run_length.Given as goal

abbrev pub invariant-loop-b : goal.invariant-loop-b
invariant-loop-b l = (l.n ≡ l.b-index) × (l.n + prefix_len (belongs l.run) (drop l.b-index l.bytes) ≡ prefix_len (belongs l.run) l.bytes)
