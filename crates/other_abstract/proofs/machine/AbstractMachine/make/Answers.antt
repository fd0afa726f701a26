use Rattle.std.proofs.Common.{◌≡◌, true, sym, ap, ◌∙◌, subst}
use Rattle.std.specs.List.{All}
use Rattle.term_core.specs.Variables.{fits}
use Rattle.lemma_strengthen.specs.declared.formula.Formula.{Formula}
use Rattle.other_abstract.specs.declared.machine.AbstractMachine.{AbstractMachine}
use Rattle.other_abstract.specs.Making.{refusal}
use Rattle.other_abstract.proofs.MakingLemmas.{prefixes_fit, covers_steps, covers_starts}
use Rattle.other_abstract.proofs.machine.AbstractMachine.make.Goals as goal

pub returns-in-None-clause-prefixes : goal.returns-in-None-clause-prefixes
returns-in-None-clause-prefixes c =
    let M : AbstractMachine = record { machine = c.args.machine; formulas = c.from_vec.result; kept = c.args.m; alloc = c.args.alloc } in
    prefixes_fit M (ap (refusal c.args.m c.args.machine) (c.from_vec.ensures ∙ sym c.as_slice.ensures.value) ∙ sym c.in_ok-stop.ensures.stop ∙ c.in-None.is)

pub returns-in-None-clause-steps : goal.returns-in-None-clause-steps
returns-in-None-clause-steps c =
    let M : AbstractMachine = record { machine = c.args.machine; formulas = c.from_vec.result; kept = c.args.m; alloc = c.args.alloc } in
    covers_steps M c.steps_are_covered.ensures.steps c.requires.whole
    (subst (λ fs. All (λ (f : Formula). fits c.args.machine.families f.body ≡ true) fs) (sym c.from_vec.ensures) c.requires.fit)

pub returns-in-None-clause-starts : goal.returns-in-None-clause-starts
returns-in-None-clause-starts c =
    let M : AbstractMachine = record { machine = c.args.machine; formulas = c.from_vec.result; kept = c.args.m; alloc = c.args.alloc } in
    covers_starts M c.steps_are_covered.ensures.starts c.requires.whole
