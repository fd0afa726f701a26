use Rattle.std.proofs.Common.{◌≡◌, take}
use Rattle.type_items.specs.Bodies.{locals_with}
use Rattle.type_items.proofs.bodies.judge_locals.Given as goal

abbrev pub invariant-loop-one : goal.invariant-loop-one
invariant-loop-one l = l.done ≡ locals_with l.fn.context (take l.one-index l.all)
