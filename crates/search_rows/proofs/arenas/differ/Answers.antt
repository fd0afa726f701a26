use Rattle.std.proofs.Common.{sym, subst, ◌∙◌}
use Rattle.std.proofs.lemmas.List.{take_all}
use Rattle.clause_core.specs.Members.{NoneTwice}
use Rattle.search_rows.proofs.ClauseLemmas.{none_twice_more}
use Rattle.search_rows.proofs.arenas.differ.Goals as goal

pub loop-i-preserved : goal.loop-i-preserved
loop-i-preserved c =
    none_twice_more c.args.lits.now c.loop-i.i (record { code = 0 }) c.loop-i-test.true c.loop-i.invariant (sym c.contains.ensures ∙ c.if-contains.false)

pub returns : goal.returns
returns c t = subst NoneTwice (take_all c.loop-i.i c.args.lits.now c.loop-i-test.false) c.loop-i.invariant
