use Rattle.std.proofs.Common.{◌≡◌, drop}
use Rattle.type_names.specs.Wholes.{locals_declared}
use Rattle.type_names.proofs.wholes.declare_locals.Given as goal

abbrev pub invariant-loop-one : goal.invariant-loop-one
invariant-loop-one l = locals_declared l.scope (drop l.one-index l.all) ≡ locals_declared l.fn.so_far l.all
