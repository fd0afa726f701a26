use Rattle.std.proofs.Common.{◌≡◌, drop}
use Rattle.type_names.specs.Wholes.{hidden_in_locals}
use Rattle.type_names.proofs.wholes.hidden_in_locals.Given as goal

abbrev pub invariant-loop-one : goal.invariant-loop-one
invariant-loop-one l = hidden_in_locals l.name l.inside (drop l.one-index l.all) ≡ hidden_in_locals l.name l.hidden l.all
