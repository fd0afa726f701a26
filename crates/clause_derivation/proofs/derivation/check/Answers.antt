use Rattle.std.proofs.Common.{◌++◌, [], ◌∙◌}
use Rattle.std.proofs.lemmas.List.{append-nil}
use Rattle.clause_derivation.proofs.SoundLemmas.{sound_as, refuted_as}
use Rattle.clause_derivation.proofs.derivation.check.Goals as goal

pub returns-clause-sound : goal.returns-clause-sound
returns-clause-sound c t =
    sound_as (c.clauses.result.now ++ [] ++ []) c.args.cnf.now.clauses c.items.result.now c.args.log.now
    (append-nil (c.clauses.result.now ++ []) ∙ append-nil c.clauses.result.now ∙ c.clauses.ensures.items) c.items.ensures (c.check_chains.ensures.exact.0 t)

pub returns-clause-refuted : goal.returns-clause-refuted
returns-clause-refuted c t =
    refuted_as (c.clauses.result.now ++ [] ++ []) c.args.cnf.now.clauses c.items.result.now c.args.log.now
    (append-nil (c.clauses.result.now ++ []) ∙ append-nil c.clauses.result.now ∙ c.clauses.ensures.items) c.items.ensures (c.check_chains.ensures.exact.0 t)
