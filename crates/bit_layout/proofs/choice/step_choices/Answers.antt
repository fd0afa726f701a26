use Rattle.std.proofs.Common.{◌≡◌, ◌≤◌, ◌∙◌, length, ap, sym, subst, arith}
use Rattle.std.specs.List.{All}
use Rattle.term_core.specs.declared.machine.TermMachine.{TermMachine}
use Rattle.bit_layout.specs.declared.choice.Choice.{Choice}
use Rattle.bit_layout.proofs.ChoiceLemmas.{rules_more, rules_done, short_choices}
use Rattle.bit_layout.proofs.choice.step_choices.Goals as goal

pub loop-number-preserved : goal.loop-number-preserved
loop-number-preserved c =
    let count : c.in_ok-count.count ≡ length c.args.machine.now.machine.rules = c.in_ok-count.ensures ∙ ap length (c.as_slice.ensures ∙ ap (λ (m : TermMachine). m.rules) c.machine.ensures) in
    rules_more c.args.machine.now.kept c.args.machine.now.machine.rules c.loop-number.number _ _ _ (omega (arith, count, c.loop-number-test.true)) c.in_ok-add_rule.ensures c.loop-number.invariant

pub returns-clause-short : goal.returns-clause-short
returns-clause-short c =
    let count : c.in_ok-count.count ≡ length c.args.machine.now.machine.rules = c.in_ok-count.ensures ∙ ap length (c.as_slice.ensures ∙ ap (λ (m : TermMachine). m.rules) c.machine.ensures) in
    subst (All (λ (d : Choice). length d.pattern ≤ 3))
    (sym (rules_done c.args.machine.now.kept c.args.machine.now.machine.rules c.loop-number.number _ _ (omega (arith, count, c.loop-number-test.false)) c.loop-number.invariant))
    (short_choices c.choices_are_listed.ensures c.args.machine.now.kept c.args.machine.now.machine.rules c.requires.whole.parameters.1)
