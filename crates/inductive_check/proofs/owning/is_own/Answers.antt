use Rattle.std.proofs.Common.{◌≡◌, ◌∙◌, true, sym, refl}
use Rattle.std.proofs.lemmas.List.Elements.{All-more}
use Rattle.inductive_check.specs.Certificates.{is_over}
use Rattle.inductive_check.proofs.OwnLemmas.{once_more, twice, own_all}
use Rattle.inductive_check.proofs.owning.is_own.Goals as goal

pub returns-then-contains : goal.returns-then-contains
returns-then-contains c = (
  λ t. cc,
  λ own. absurd (twice c.args.clause.now c.loop-i.i (record { code = 0 }) c.loop-i-test.true (sym c.contains.ensures ∙ c.if-contains.true) own.once),
)

pub loop-i-preserved : goal.loop-i-preserved
loop-i-preserved c = record {
  over = All-more (λ k. is_over c.args.lits.now k ≡ true) c.args.clause.now c.loop-i.i (record { code = 0 }) c.loop-i-test.true c.loop-i.invariant.over (sym c.is_over.ensures ∙ c.if-not-is_over.false);
  once = once_more c.args.clause.now c.loop-i.i (record { code = 0 }) c.loop-i-test.true c.loop-i.invariant.once (sym c.contains.ensures ∙ c.if-contains.false);
}

pub returns : goal.returns
returns c = (
  λ t. own_all c.args.lits.now c.args.clause.now c.loop-i.i c.loop-i-test.false c.loop-i.invariant.over c.loop-i.invariant.once,
  λ own. refl,
)
