use Rattle.std.proofs.Common.{◌∷◌, [], ◌++◌, sym, ap, subst, ◌∙◌}
use Rattle.clause_derivation.specs.Derivation.{IsDerivation}
use Rattle.clause_derivation.proofs.DerivationLemmas.{grows}
use Rattle.clause_derivation.proofs.chain.Log.push.Goals as goal

pub returns-clause-grows : goal.returns-clause-grows
returns-clause-grows c clauses d r =
    subst (IsDerivation clauses) (ap (λ xs. xs ++ c.args.chain ∷ []) (sym c.self.view_is) ∙ sym c.in_ok-push.ensures.items)
    (grows clauses c.args.self.now c.args.chain d r)
