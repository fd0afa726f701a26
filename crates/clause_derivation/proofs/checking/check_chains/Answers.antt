use Rattle.std.proofs.Common.{sym, ◌∙◌}
use Rattle.std.proofs.lemmas.Bool.{false≢true}
use Rattle.clause_derivation.specs.Numbering.{base_of}
use Rattle.clause_derivation.proofs.DerivationLemmas.{checked_more, checked_stop}
use Rattle.clause_derivation.proofs.checking.check_chains.Goals as goal

pub returns-then-not-derives-clause-exact : goal.returns-then-not-derives-clause-exact
returns-then-not-derives-clause-exact c =
    checked_stop (base_of c.args.base.now) c.args.chains.now c.loop-i.i c.index-chains-i.result c.loop-i-test.true c.index-chains-i.is
    (λ d. false≢true (sym c.if-not-derives.true ∙ c.derives.ensures.exact.1 d))

pub loop-i-preserved : goal.loop-i-preserved
loop-i-preserved c =
    checked_more (base_of c.args.base.now) c.args.chains.now c.loop-i.i c.loop-i.marked c.derives.new.marked c.index-chains-i.result c.loop-i-test.true c.index-chains-i.is c.derives.auto.marked c.loop-i.invariant
    (c.derives.ensures.exact.0 c.if-not-derives.false) (c.derives.ensures.range c.if-not-derives.false) c.derives.ensures.clear
