use Rattle.std.proofs.Common.{map}
use Rattle.bit_encode.specs.Codes.{matches}
use Rattle.bit_gates.proofs.Growing.{choice_told}
use Rattle.bit_gates.proofs.choosing.with_choice.Goals as goal

pub returns-clause-value : goal.returns-clause-value
returns-clause-value c =
    choice_told c.args.circuit.now _ _ _ c.args.any c.args.holds c.in_ok-here.here c.in_ok-one.one c.in_ok-e.e (λ val. matches c.args.position (map val c.args.bits.now))
    c.both.ensures.keeps c.either.ensures.keeps c.in_ok-here.ensures.value c.in_ok-one.ensures.value c.in_ok-e.ensures.value
