use Rattle.std.proofs.Common.{◌↔◌, IsTrue, sym, subst}
use Rattle.other_abstract.specs.Machines.{AbsFires, window, fired_of}
use Rattle.bit_encode.specs.Codes.{cell_lists, coded_state}
use Rattle.bit_encode.proofs.OrderLemmas.{coded_firing}
use Rattle.bit_encode.proofs.FitLemmas.{legal_fits}
use Rattle.bit_encode.proofs.BadLemmas.{coded_violation}
use Rattle.bit_encode.proofs.laws.coded_steps_are_steps.Goals as goal

pub returns-clause-steps : goal.returns-clause-steps
returns-clause-steps c = λ M k r p net x val a b d wide before after e there pattern agrees ca la cb lb cd ld tells.
    subst (λ t. IsTrue t ↔ AbsFires M (coded_state x b (cell_lists (window M 0))) k p (coded_state x a (cell_lists (window M (fired_of p)))) (coded_state x d (cell_lists (window M 0))))
    (sym (coded_firing M r p net x val a b d wide before after e agrees ca la cb lb cd ld tells))
    (c.definitions_are_decided.ensures.steps M (coded_state x b (cell_lists (window M 0))) k r p (coded_state x a (cell_lists (window M (fired_of p)))) (coded_state x d (cell_lists (window M 0))) there pattern
    (legal_fits (window M (fired_of p)) x a la) (legal_fits (window M 0) x d ld))

pub returns-clause-violations : goal.returns-clause-violations
returns-clause-violations c = λ M net x val a cells e agrees coded legal tells. coded_violation M net x val a cells e (c.definitions_are_decided.ensures.violations M) agrees coded legal tells
