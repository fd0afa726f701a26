use Rattle.std.proofs.Common.{◌≡◌, ◌≤◌, ◌-◌, ◌^◌, ℕ}
use Rattle.bit_encode.specs.Codes.{width_from, width}
use Rattle.bit_encode.proofs.code.width.Given as goal

abbrev pub invariant-loop-bits : goal.invariant-loop-bits
invariant-loop-bits l = record {
  room : l.room ≡ 2 ^ l.bits;
  width : width_from (l.values - l.bits) l.bits l.values ≡ width l.values;
  least : (b : ℕ) → l.values ≤ 2 ^ b → l.bits ≤ b;
}
