use Rattle.std.proofs.Common.{◌≡◌, drop, None}
use Rattle.type_names.specs.Wholes.{list_local_faults}
use Rattle.type_names.proofs.texts.+locals.Given as goal

abbrev pub invariant-local_faults-loop-one : goal.invariant-local_faults-loop-one
invariant-local_faults-loop-one l =
    list_local_faults (drop l.one-index l.all) l.fault ≡ list_local_faults l.all None
