use Rattle.std.proofs.Common.{◌≡◌, drop}
use Rattle.type_names.specs.Scoping.{fields_declared}
use Rattle.type_names.proofs.scope.declare_fields.Given as goal

abbrev pub invariant-loop-one : goal.invariant-loop-one
invariant-loop-one l = fields_declared l.scope (drop l.one-index l.all) ≡ fields_declared l.fn.so_far l.all
