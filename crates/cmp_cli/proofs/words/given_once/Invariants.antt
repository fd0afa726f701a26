use Rattle.std.proofs.Common.{◌≡◌, drop}
use Rattle.cmp_cli.specs.Words.{given_once}
use Rattle.cmp_cli.proofs.words.given_once.Given as goal

-- what is left gives the whole
abbrev pub invariant-loop-k : goal.invariant-loop-k
invariant-loop-k l = given_once (drop l.k l.given) ≡ given_once l.fn.given
