use Rattle.std.proofs.Common.{◌≡◌, drop}
use Rattle.type_names.specs.Wholes.{hidden_in_binds}
use Rattle.type_names.proofs.wholes.hidden_in_binds.Given as goal

abbrev pub invariant-loop-one : goal.invariant-loop-one
invariant-loop-one l = hidden_in_binds l.name l.inside (drop l.one-index l.all) ≡ hidden_in_binds l.name l.hidden l.all
