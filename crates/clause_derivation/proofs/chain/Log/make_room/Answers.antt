use Rattle.std.proofs.Common.{◌∷◌, [], ◌++◌, ap, subst, sym, ◌∙◌}
use Rattle.clause_derivation.specs.Derivation.{IsDerivation, results}
use Rattle.clause_derivation.proofs.RenumberLemmas.{results_moved, stays}
use Rattle.clause_derivation.proofs.chain.Log.make_room.Goals as goal

pub returns-clause-results : goal.returns-clause-results
returns-clause-results c = ap results c.move_numbers.ensures ∙ results_moved c.args.at c.args.self.now

pub returns-clause-stays : goal.returns-clause-stays
returns-clause-stays c clauses k e few d = subst (IsDerivation (clauses ++ k ∷ [])) (sym c.move_numbers.ensures) (stays clauses k c.args.at c.args.self.now e few d)
