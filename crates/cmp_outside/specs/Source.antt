-- What the answers of `Source::read_file` say. The clauses of the trait are made of these words.
use Rattle.std.specs.Prelude.{◌≡◌, ℕ, List, Option, Result, Ok, Err, ⊤, Some}
use Rattle.cmp_outside.specs.declared.source.ReadEnd.{ReadEnd}
use Rattle.cmp_outside.specs.declared.source.ReadEnd.TheVariants.{Failed, TooLong, Memory}
use Rattle.cmp_outside.specs.Faults.{FaultLog, with_fault}

-- what a source tells: of a name the bytes of that file, or nothing
abbrev pub Told : Type 0
Told = List ℕ → Option (List ℕ)

-- the source tells of each name what it told before
abbrev pub SameFiles : Told → Told → Type 0
SameFiles old new = (name : List ℕ) → new name ≡ old name

-- if the file is told, P of its bytes
abbrev pub IfTold : Option (List ℕ) → (List ℕ → Type 0) → Type 0
IfTold file P = (bytes : List ℕ) → file ≡ Some bytes → P bytes

-- P, if the read failed
abbrev pub OnFailed : {T : Type 0} → Result T ReadEnd → Type 0 → Type 0
OnFailed (Ok v) P = ⊤
OnFailed (Err Failed) P = P
OnFailed (Err TooLong) P = ⊤
OnFailed (Err Memory) P = ⊤

-- P, if the read did not fail
abbrev pub UnlessFailed : {T : Type 0} → Result T ReadEnd → Type 0 → Type 0
UnlessFailed (Ok v) P = P
UnlessFailed (Err Failed) P = ⊤
UnlessFailed (Err TooLong) P = P
UnlessFailed (Err Memory) P = P

-- P, if the answer is that the file is too long
abbrev pub OnTooLong : {T : Type 0} → Result T ReadEnd → Type 0 → Type 0
OnTooLong (Ok v) P = ⊤
OnTooLong (Err Failed) P = ⊤
OnTooLong (Err TooLong) P = P
OnTooLong (Err Memory) P = ⊤

-- P, if the answer is not want of memory
abbrev pub UnlessMemory : {T : Type 0} → Result T ReadEnd → Type 0 → Type 0
UnlessMemory (Ok v) P = P
UnlessMemory (Err Failed) P = P
UnlessMemory (Err TooLong) P = P
UnlessMemory (Err Memory) P = ⊤

-- the log after a read of this name: a read that failed is counted, and its name kept
abbrev pub log_after : {T : Type 0} → FaultLog → List ℕ → Result T ReadEnd → FaultLog
log_after log name (Ok v) = log
log_after log name (Err Failed) = with_fault log name
log_after log name (Err TooLong) = log
log_after log name (Err Memory) = log
