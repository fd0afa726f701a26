-- Laws of paths.
use Rattle.std.specs.Prelude.{◌≡◌}
use Rattle.other_abstract.specs.declared.machine.AbstractMachine.{AbstractMachine}
use Rattle.abstract_replay.specs.declared.path.Path.{Path}
use Rattle.abstract_replay.specs.declared.path.ReplayEnd.{ReplayEnd}
use Rattle.abstract_replay.specs.Paths.{ComesTo}

-- a path comes to one thing
abbrev pub EndsAreSingle : Type 0
EndsAreSingle = (M : AbstractMachine) (path : Path) (one other : ReplayEnd) → ComesTo M path one
    → ComesTo M path other → one ≡ other
