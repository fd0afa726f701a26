-- Counting faults. A count of faults is a u64: it starts at 0, rises at each fault, never falls, and
-- stops at the greatest u64. So "the count rose" is said with one exception: a count that has
-- stopped cannot rise.
use Rattle.std.specs.Prelude.{◌≡◌, ℕ, ◌+◌, ◌-◌, ◌^◌, ◌<◌, ◌⊎◌, min, List, Option, None, Some}

-- where a count stops: the greatest u64
abbrev pub last_count : ℕ
last_count = 2 ^ 64 - 1

-- the count after one more
abbrev pub next_count : ℕ → ℕ
next_count n = min (n + 1) last_count

-- the count rose, or stands where it stops
abbrev pub Rose : ℕ → ℕ → Type 0
Rose before now = (before < now) ⊎ (now ≡ last_count)

-- what a source in this crate remembers of the reads that failed: how many there were, and the name
-- that the last of them asked for
pub record FaultLog : Type 0 where
  pub faults : ℕ
  pub last_failed : Option (List ℕ)

-- no read has failed yet
abbrev pub no_faults : FaultLog
no_faults = record { faults = 0; last_failed = None }

-- one more read failed, of this name
abbrev pub with_fault : FaultLog → List ℕ → FaultLog
with_fault log name = record { faults = next_count log.faults; last_failed = Some name }
