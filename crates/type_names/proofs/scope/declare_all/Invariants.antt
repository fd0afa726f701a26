use Rattle.std.proofs.Common.{◌≡◌, drop}
use Rattle.type_names.specs.Scoping.{all_declared}
use Rattle.type_names.proofs.scope.declare_all.Given as goal

abbrev pub invariant-loop-one : goal.invariant-loop-one
invariant-loop-one l = all_declared l.scope (drop l.one-index l.all) ≡ all_declared l.fn.so_far l.all
