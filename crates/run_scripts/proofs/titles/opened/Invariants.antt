use Rattle.std.proofs.Common.{◌≡◌, drop}
use Rattle.run_scripts.specs.Scripts.{titles}
use Rattle.run_scripts.specs.Reading.{opens, opens_from}
use Rattle.run_scripts.proofs.titles.opened.Given as goal

abbrev pub invariant-loop-at : goal.invariant-loop-at
invariant-loop-at l =
    opens_from l.nodes l.typed l.firing l.at (drop l.at (titles l.typed l.firing)) ≡ opens l.nodes l.typed l.firing
