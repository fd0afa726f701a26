use Rattle.std.proofs.Common.{◌≡◌, drop}
use Rattle.type_names.specs.Wholes.{hidden_after}
use Rattle.type_names.proofs.wholes.hidden_after.Given as goal

abbrev pub invariant-loop-one : goal.invariant-loop-one
invariant-loop-one l = hidden_after l.name l.inside (drop l.one-index l.all) ≡ hidden_after l.name l.hidden l.all
