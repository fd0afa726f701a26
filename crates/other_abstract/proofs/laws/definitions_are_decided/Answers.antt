use Rattle.std.proofs.Common.{refl}
use Rattle.other_abstract.specs.Stepping.{is_step, is_start}
use Rattle.other_abstract.proofs.DecidingLemmas.{fires_decided, starts_decided, fault_in, fault_has}
use Rattle.other_abstract.proofs.ViolationLemmas.{violates_in, violates_has}
use Rattle.other_abstract.proofs.laws.definitions_are_decided.Goals as goal

pub returns-clause-steps : goal.returns-clause-steps
returns-clause-steps c M s k r p w t there pattern wide next =
    fires_decided c.places_are_those_of_the_cells.ensures.places c.lists_are_in_order.ensures.cells M s k r p w t
    (is_step M s r p w t) there pattern wide next refl

pub returns-clause-starts : goal.returns-clause-starts
returns-clause-starts c M k r p t there pattern next =
    starts_decided c.places_are_those_of_the_cells.ensures.places c.lists_are_in_order.ensures.cells M k r p t
    (is_start M r p t) there pattern next refl

pub returns-clause-violations : goal.returns-clause-violations
returns-clause-violations c M s f = (violates_in M s f, violates_has M s f)

pub returns-clause-faults : goal.returns-clause-faults
returns-clause-faults c M r p = (fault_in M r p, fault_has M r p)
