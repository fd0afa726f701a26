use Rattle.std.proofs.Common.{◌∙◌, sym, refl, subst}
use Rattle.std.specs.Prelude.{All, IsTrue}
use Rattle.std.proofs.lemmas.List.{take_all}
use Rattle.std.proofs.lemmas.List.Elements.{All-more}
use Rattle.inductive_check.specs.Certificates.{IsOwn}
use Rattle.inductive_check.proofs.owning.are_own.Goals as goal

pub returns-then-not-is_own : goal.returns-then-not-is_own
returns-then-not-is_own c = (
  λ t. cc,
  λ own. subst IsTrue c.if-not-is_own.true (c.is_own.ensures.1 (subst (IsOwn c.args.lits.now) (sym (c.items.ensures ∙ c.clause-item.is)) (own c.loop-clause.clause-index c.clause-item.result c.loop-clause-test.true))),
)

pub loop-clause-preserved : goal.loop-clause-preserved
loop-clause-preserved c =
    All-more (IsOwn c.args.lits.now) c.args.clauses.now c.loop-clause.clause-index c.clause-item.result c.loop-clause-test.true c.loop-clause.invariant
    (subst (IsOwn c.args.lits.now) (c.items.ensures ∙ c.clause-item.is) (c.is_own.ensures.0 c.if-not-is_own.false))

pub returns : goal.returns
returns c = (
  λ t. subst (All (IsOwn c.args.lits.now)) (take_all c.loop-clause.clause-index c.args.clauses.now c.loop-clause-test.false) c.loop-clause.invariant,
  λ own. refl,
)
