use Rattle.std.proofs.Common.{◌≡◌, drop}
use Rattle.type_routines.specs.Formals.{formals_with}
use Rattle.type_routines.proofs.formals.add_formals.Given as goal

abbrev pub invariant-loop-one : goal.invariant-loop-one
invariant-loop-one l =
    formals_with l.by_place l.of (drop l.one-index l.names) l.done ≡ formals_with l.by_place l.of l.names l.fn.done
