use Rattle.std.proofs.Common.{◌≡◌, drop}
use Rattle.cmp_cli.specs.Words.{is_given}
use Rattle.cmp_cli.proofs.request.is_given.Given as goal

-- what is left gives the whole
abbrev pub invariant-loop-one : goal.invariant-loop-one
invariant-loop-one l = is_given (drop l.one-index l.given) l.option ≡ is_given l.fn.given l.fn.option
