use Rattle.std.proofs.Common.{◌≡◌, drop}
use Rattle.type_declarations.specs.Declaring.{variables_with}
use Rattle.type_declarations.proofs.declare.declare_names.Given as goal

abbrev pub invariant-loop-one : goal.invariant-loop-one
invariant-loop-one l =
    variables_with l.globally (drop l.one-index l.names) l.of l.done ≡ variables_with l.globally l.names l.of l.fn.done
