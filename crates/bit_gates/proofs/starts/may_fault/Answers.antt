use Rattle.std.proofs.Common.{◌∙◌}
use Rattle.bit_gates.proofs.StartLemmas.{fault_is, rule_at}
use Rattle.bit_gates.proofs.starts.may_fault.Goals as goal

pub returns-in-Ok : goal.returns-in-Ok
returns-in-Ok c =
    let r = rule_at c.args.machine.now.machine.starts c.args.choice.now.number c.requires.start in
    fault_is c.definitions_are_decided.ensures.faults c.args.machine.now c.args.choice.now r.0 c.of-pattern.result c.in-Ok.b r.1 (c.of-pattern.ensures ∙ c.as_slice.ensures) c.in-Ok.ensures
