use Rattle.std.proofs.Common.{◌≡◌, ◌++◌, map, drop}
use Rattle.scalarset_rules.specs.Rules.{own_stands}
use Rattle.scalarset_rules.specs.Seen.{seen_stand}
use Rattle.scalarset_rules.proofs.discipline.own_stands.Given as goal

abbrev pub invariant-loop-formal : goal.invariant-loop-formal
invariant-loop-formal l = (map seen_stand l.out ++ own_stands l.number (drop l.formal-index l.formals)) ≡ own_stands 0 l.formals
