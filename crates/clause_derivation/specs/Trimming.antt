-- Which chains of a log its last one stands on, and their numbers once the others are taken out.
use Rattle.std.specs.Prelude.{◌≡◌, ◌+◌, ◌-◌, ◌<◌, ◌≤◌, ℕ, nat_lt, Bool, true, false, List, ◌∷◌, map, Some, slice_get, slice_index, slice_index_or, if◌then◌else◌, All}
use Rattle.clause_derivation.specs.declared.chain.Chain.{Chain}
use Rattle.clause_derivation.specs.declared.chain.Resolve.{Resolve}

-- the numbers that a chain uses, in order
abbrev pub numbers : Chain → List ℕ
numbers ch = ch.first ∷ map (λ s. s.with) ch.steps

-- A number is wanted where it names one of the first `below` chains: then that chain is needed.
abbrev pub IsWanted : (base below : ℕ) → List Bool → ℕ → Type 0
IsWanted base below needed n =
    base ≤ n → n < base + below → slice_index_or needed (n - base) false ≡ true

-- each needed chain from the i-th on wants what it names before itself
abbrev pub AreClosed : (base i : ℕ) → List Chain → List Bool → Type 0
AreClosed base i chains needed = (j : ℕ) (ch : Chain) → i ≤ j → slice_get chains j ≡ Some ch
    → slice_index_or needed j false ≡ true → All (IsWanted base j needed) (numbers ch)

-- A number after chains were taken out, where `dropped` says for each chain how many before it were.
abbrev pub lowered : (base : ℕ) → (dropped : List ℕ) → ℕ → ℕ
lowered base dropped n = if nat_lt n base then n else n - slice_index dropped (n - base)

abbrev pub lowered_step : ℕ → List ℕ → Resolve → Resolve
lowered_step base dropped s = record { with = lowered base dropped s.with; pivot = s.pivot }

abbrev pub lowered_chain : ℕ → List ℕ → Chain → Chain
lowered_chain base dropped ch = record {
  first = lowered base dropped ch.first;
  steps = map (lowered_step base dropped) ch.steps;
  result = ch.result;
}
