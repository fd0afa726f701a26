-- Sums and products that stop at the greatest u64.
use Rattle.std.proofs.Common.{◌≡◌, ℕ, zero, suc, ◌+◌, ◌*◌, ◌≤◌, ◌<◌, ◌^◌, ◌-◌, Bool, true, false, refl, ap, sym, ◌∙◌, arith}
use Rattle.std.specs.Prelude.{nat_le}
use Rattle.std.proofs.lemmas.Bool.Decides.{nat_tests}
use Rattle.murphi_types.specs.Weights.{stopped}

pub stopped-low : (n : ℕ) → n < 2 ^ 64 → stopped n ≡ n
stopped-low n h = grind (arith, nat_tests)

pub stopped-high : (n : ℕ) → 2 ^ 64 ≤ n → stopped n ≡ 2 ^ 64 - 1
stopped-high n h = grind (arith, nat_tests)

pub stopped-stopped : (n : ℕ) → stopped (stopped n) ≡ stopped n
stopped-stopped n = grind (arith, nat_tests)

pub stopped-suc : (n : ℕ) → stopped (suc (stopped n)) ≡ stopped (suc n)
stopped-suc n = grind (arith, nat_tests)

pub stopped-left : (m n : ℕ) → stopped (stopped m + n) ≡ stopped (m + n)
stopped-left m n = grind (arith, nat_tests)

pub stopped-right : (m n : ℕ) → stopped (m + stopped n) ≡ stopped (m + n)
stopped-right m n = grind (arith, nat_tests)
