use Rattle.std.proofs.Common.{take}
use Rattle.run_scripts.specs.Scripts.{titles}
use Rattle.run_scripts.specs.Reading.{IsTable}
use Rattle.run_scripts.proofs.titles.firsts.Given as goal

abbrev pub invariant-loop-at : goal.invariant-loop-at
invariant-loop-at l = IsTable (take l.at (titles l.typed l.firing)) l.first.entries
