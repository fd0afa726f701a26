use Rattle.std.proofs.Common.{◌≡◌, ◌++◌, length, sym, ap, subst, ◌∙◌, arith}
use Rattle.clause_core.specs.Formula.{IsInRange, AreInRange}
use Rattle.clause_derivation.specs.Ready.{MarkScope}
use Rattle.clause_derivation.proofs.DerivationLemmas.{base_places}
use Rattle.clause_derivation.proofs.SoundLemmas.{sound_as, refuted_as, under_true}
use Rattle.clause_derivation.specs.Derivation.{singles}
use Rattle.clause_derivation.proofs.derivation.check_under.Goals as goal

pub check_chains-requires-clause-places : goal.check_chains-requires-clause-places
check_chains-requires-clause-places c =
    let seen : c.marks.inside.variables ≡ c.args.marks.now.variables = ap (λ (s : MarkScope). s.variables) c.marks.view_is in
    base_places c.args.cnf.now.variables c.marks.inside.variables (length c.as_mut_slice.result.now) c.clauses.result.now c.args.more.now c.as_slice.result.now
    (omega (arith, seen, c.requires.cnf_fits))
    (ap length c.as_mut_slice.ensures.value ∙ c.marks.invariant.places)
    (subst (AreInRange c.args.cnf.now.variables) (sym c.clauses.ensures.items) c.clauses.ensures.range)
    (subst (λ w. AreInRange w c.args.more.now) (sym seen) c.requires.more_fits)
    (subst (IsInRange c.marks.inside.variables) (sym c.as_slice.ensures.value) c.marks.invariant.range)

pub returns-clause-sound : goal.returns-clause-sound
returns-clause-sound c t a h =
    sound_as (c.clauses.result.now ++ c.args.more.now ++ singles c.as_slice.result.now) (c.args.cnf.now.clauses ++ c.args.more.now ++ singles c.args.marks.now.units) c.items.result.now c.args.log.now
    (ap (λ cs. cs ++ c.args.more.now ++ singles c.as_slice.result.now) c.clauses.ensures.items ∙ ap (λ us. c.args.cnf.now.clauses ++ c.args.more.now ++ singles us) (c.as_slice.ensures.value ∙ ap (λ (s : MarkScope). s.units) c.marks.view_is))
    c.items.ensures (c.check_chains.ensures.exact.0 t) a
    (under_true a c.args.cnf.now.clauses c.args.more.now c.args.marks.now.units h)

pub returns-clause-refuted : goal.returns-clause-refuted
returns-clause-refuted c t e a h =
    refuted_as (c.clauses.result.now ++ c.args.more.now ++ singles c.as_slice.result.now) (c.args.cnf.now.clauses ++ c.args.more.now ++ singles c.args.marks.now.units) c.items.result.now c.args.log.now
    (ap (λ cs. cs ++ c.args.more.now ++ singles c.as_slice.result.now) c.clauses.ensures.items ∙ ap (λ us. c.args.cnf.now.clauses ++ c.args.more.now ++ singles us) (c.as_slice.ensures.value ∙ ap (λ (s : MarkScope). s.units) c.marks.view_is))
    c.items.ensures (c.check_chains.ensures.exact.0 t) e a
    (under_true a c.args.cnf.now.clauses c.args.more.now c.args.marks.now.units h)
