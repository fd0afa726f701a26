use Rattle.std.proofs.Common.{◌≤◌, vec_len}
use Rattle.cmp_outside.proofs.real_files.read_whole.Given as goal

-- what came so far is within the limit
abbrev pub invariant-reads : goal.invariant-reads
invariant-reads g l = vec_len l.bytes ≤ l.limit
