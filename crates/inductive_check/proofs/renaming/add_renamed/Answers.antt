use Rattle.std.proofs.Common.{◌∙◌, ◌<◌, ap, sym, subst, get_or}
use Rattle.clause_core.specs.Literal.{variable_of}
use Rattle.inductive_check.specs.Certificates.{renamed}
use Rattle.inductive_check.proofs.OwnLemmas.{renamed_range}
use Rattle.inductive_check.proofs.renaming.add_renamed.Goals as goal

pub add_unit-requires-clause-range : goal.add_unit-requires-clause-range
add_unit-requires-clause-range c =
    subst (λ k. k < c.loop-l.marks.variables) (sym (c.negated.ensures.variable ∙ ap variable_of c.renamed.ensures))
    (subst (λ n. variable_of (renamed c.args.current.now c.args.next.now (get_or c.args.lits.now c.loop-l.l-index (record { code = 0 }))) < n) (sym c.loop-l.invariant.variables)
    (renamed_range c.args.current.now c.args.next.now (get_or c.args.lits.now c.loop-l.l-index (record { code = 0 })) c.args.marks.now.variables c.requires.lengths c.requires.range (c.requires.over c.loop-l.l-index (record { code = 0 }) c.loop-l-test.true)))
