use Rattle.std.proofs.Common.{◌≡◌, drop}
use Rattle.type_names.specs.Wholes.{formals_declared}
use Rattle.type_names.proofs.wholes.declare_formals.Given as goal

abbrev pub invariant-loop-one : goal.invariant-loop-one
invariant-loop-one l = formals_declared l.scope (drop l.one-index l.all) ≡ formals_declared l.fn.so_far l.all
