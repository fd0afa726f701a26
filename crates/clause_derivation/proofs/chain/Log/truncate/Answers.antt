use Rattle.std.proofs.Common.{◌∙◌, ap, sym, subst, take}
use Rattle.clause_derivation.specs.Derivation.{IsDerivation}
use Rattle.clause_derivation.proofs.TrimLemmas.{front_derived}
use Rattle.clause_derivation.proofs.chain.Log.truncate.Goals as goal

pub returns-clause-stays : goal.returns-clause-stays
returns-clause-stays c clauses d =
    subst (IsDerivation clauses) (ap (take c.args.count) (sym c.self.view_is) ∙ sym c.truncate.ensures.items) (front_derived clauses c.args.self.now c.args.count d)
