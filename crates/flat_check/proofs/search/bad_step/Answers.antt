use Rattle.std.proofs.Common.{length, ◌≡◌, ◌∙◌, ap, None, Some}
use Rattle.flat_check.specs.Walk.{firing_of, violated_in}
use Rattle.flat_check.proofs.TableLemmas.{known_at}
use Rattle.flat_check.proofs.SearchLemmas.{fired_is, step_disabled, step_faults, step_moves, step_found}
use Rattle.flat_check.proofs.search.bad_step.Goals as goal

pub returns-in_ok-from-in-Some : goal.returns-in_ok-from-in-Some
returns-in_ok-from-in-Some c =
    let fires = fired_is c.args.names.now c.args.items.now c.args.from.now c.args.rule c.index-items-rule.result c.in_ok-to.field-0 c.requires.within c.index-items-rule.is c.in_ok-to.ensures.firing in
    let size : length c.in-Moves.to ≡ length c.args.names.now = (rw c.in-Moves.is at c.in_ok-to.ensures.keeps) ∙ c.requires.is_state in
    let knows = known_at c.args.names.now c.args.items.now c.args.known.now c.in-Moves.to c.requires.known size in
    let violates : violated_in c.args.names.now c.args.items.now c.in-Moves.to ≡ Some c.in-Some.item = cc (c.in-Some.ensures, c.as_slice.ensures, knows) in
    step_found c.args.names.now c.args.items.now c.in_ok-from-in-Some.from c.args.from.now c.args.rule c.in-Moves.to c.in-Some.item
    c.in_ok-from-in-Some.ensures c.requires.is_state c.requires.fine (fires ∙ ap firing_of c.in-Moves.is) violates

pub returns-in-None : goal.returns-in-None
returns-in-None c =
    let fires = fired_is c.args.names.now c.args.items.now c.args.from.now c.args.rule c.index-items-rule.result c.in_ok-to.field-0 c.requires.within c.index-items-rule.is c.in_ok-to.ensures.firing in
    let size : length c.in-Moves.to ≡ length c.args.names.now = (rw c.in-Moves.is at c.in_ok-to.ensures.keeps) ∙ c.requires.is_state in
    let knows = known_at c.args.names.now c.args.items.now c.args.known.now c.in-Moves.to c.requires.known size in
    let fine : violated_in c.args.names.now c.args.items.now c.in-Moves.to ≡ None = cc (c.in-None.ensures, c.as_slice.ensures, knows) in
    step_moves c.args.names.now c.args.items.now c.args.from.now c.args.rule c.in-Moves.to (fires ∙ ap firing_of c.in-Moves.is) fine

pub returns-in-Disabled : goal.returns-in-Disabled
returns-in-Disabled c =
    let fires = fired_is c.args.names.now c.args.items.now c.args.from.now c.args.rule c.index-items-rule.result c.in_ok-to.field-0 c.requires.within c.index-items-rule.is c.in_ok-to.ensures.firing in
    step_disabled c.args.names.now c.args.items.now c.args.from.now c.args.rule (fires ∙ ap firing_of c.in-Disabled.is)

pub returns-in-Faults : goal.returns-in-Faults
returns-in-Faults c =
    let fires = fired_is c.args.names.now c.args.items.now c.args.from.now c.args.rule c.index-items-rule.result c.in_ok-to.field-0 c.requires.within c.index-items-rule.is c.in_ok-to.ensures.firing in
    step_faults c.args.names.now c.args.items.now c.args.from.now c.args.rule (fires ∙ ap firing_of c.in-Faults.is)
