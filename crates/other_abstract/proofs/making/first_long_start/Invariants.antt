use Rattle.std.proofs.Common.{◌≡◌, drop}
use Rattle.other_abstract.specs.Making.{long_start}
use Rattle.other_abstract.proofs.making.first_long_start.Given as goal

abbrev pub invariant-loop-start : goal.invariant-loop-start
invariant-loop-start l = long_start l.m (drop l.start-index l.starts) ≡ long_start l.m l.starts
