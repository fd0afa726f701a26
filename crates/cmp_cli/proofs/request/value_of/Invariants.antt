use Rattle.std.proofs.Common.{◌≡◌, drop}
use Rattle.cmp_cli.specs.Words.{value_of}
use Rattle.cmp_cli.proofs.request.value_of.Given as goal

-- what is left gives the whole
abbrev pub invariant-loop-one : goal.invariant-loop-one
invariant-loop-one l = value_of l.option (drop l.one-index l.given) ≡ value_of l.fn.option l.fn.given
