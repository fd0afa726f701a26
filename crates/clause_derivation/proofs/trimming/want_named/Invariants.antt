use Rattle.std.proofs.Common.{◌≡◌, ◌≤◌, ℕ, true, false, length, get_or, take}
use Rattle.std.specs.Prelude.{All}
use Rattle.clause_derivation.specs.Trimming.{IsWanted}
use Rattle.clause_derivation.proofs.trimming.want_named.Given as goal

abbrev pub invariant-loop-step : goal.invariant-loop-step
invariant-loop-step l = record {
  size : length l.needed ≡ length l.fn.needed;
  first : IsWanted l.base l.below l.needed l.chain.first;
  steps : All (λ s. IsWanted l.base l.below l.needed s.with) (take l.step-index l.chain.steps);
  kept : (k : ℕ) → get_or l.fn.needed k false ≡ true → get_or l.needed k false ≡ true;
  later : (k : ℕ) → l.below ≤ k → get_or l.needed k false ≡ get_or l.fn.needed k false;
}
