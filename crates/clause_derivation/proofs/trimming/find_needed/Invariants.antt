use Rattle.std.proofs.Common.{◌≡◌, ◌-◌, ◌<◌, true, false, length, get_or}
use Rattle.clause_derivation.specs.Trimming.{AreClosed}
use Rattle.clause_derivation.proofs.trimming.find_needed.Given as goal

abbrev pub invariant-loop-done : goal.invariant-loop-done
invariant-loop-done l = record {
  size : length l.needed.items ≡ length l.chains;
  closed : AreClosed l.base (length l.chains - l.done) l.chains l.needed.items;
  last : 0 < length l.chains → get_or l.needed.items (length l.chains - 1) false ≡ true;
}
