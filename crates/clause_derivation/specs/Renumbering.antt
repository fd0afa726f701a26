-- The numbers of a log after a clause has come in before its chains.
use Rattle.std.specs.Prelude.{◌+◌, ℕ, nat_lt, min, map, if◌then◌else◌}
use Rattle.clause_derivation.specs.declared.chain.Chain.{Chain}
use Rattle.clause_derivation.specs.declared.chain.Resolve.{Resolve}

-- A number from `at` on rises by one. The greatest number of 32 bits stays.
abbrev pub moved : ℕ → ℕ → ℕ
moved at n = if nat_lt n at then n else min (n + 1) 4294967295

abbrev pub moved_step : ℕ → Resolve → Resolve
moved_step at s = record { with = moved at s.with; pivot = s.pivot }

abbrev pub moved_chain : ℕ → Chain → Chain
moved_chain at ch =
    record { first = moved at ch.first; steps = map (moved_step at) ch.steps; result = ch.result }
