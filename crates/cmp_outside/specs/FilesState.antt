-- Files in memory: what they are, what a read of them answers, and what it leaves.
use Rattle.std.specs.Prelude.{ℕ, Bool, ◌==◌, nat_lt, if◌then◌else◌, List, [], ◌∷◌, length, Option, None, Some, Result, Ok, Err, ◌≡◌, ⊤}
use Rattle.std.specs.declared.alloc.Global.{Global}
use Rattle.std.specs.declared.vec.Vec.{Vec}
use Rattle.std.specs.List.{list_any}
use Rattle.std.specs.Str.{bytes_eq}
use Rattle.cmp_outside.specs.declared.source.ReadEnd.{ReadEnd}
use Rattle.cmp_outside.specs.declared.source.ReadEnd.TheVariants.{Failed, TooLong, Memory}
use Rattle.cmp_outside.specs.Faults.{FaultLog, no_faults, next_count}
use Rattle.cmp_outside.specs.Source.{log_after}

-- a file: its name and its bytes
pub record File : Type 0 where
  pub name : List ℕ
  pub bytes : List ℕ

-- the bytes of the first file of this name
abbrev pub first_named : List ℕ → List File → Option (List ℕ)
first_named name [] = None
first_named name (file ∷ files) =
    if bytes_eq file.name name then Some file.bytes else first_named name files

-- files in memory
pub record FilesState : Type 0 where
  pub files : List File
  -- the numbers of the calls that fail; the first call has the number 1
  pub failing : List ℕ
  -- how many calls there were
  pub calls : ℕ
  pub log : FaultLog

-- before the first call
abbrev pub fresh_files : List File → List ℕ → FilesState
fresh_files files failing = record { files = files; failing = failing; calls = 0; log = no_faults }

-- what the files tell of a name
abbrev pub told_of : FilesState → List ℕ → Option (List ℕ)
told_of s name = first_named name s.files

-- the next call is one of those that fail
abbrev pub is_failing : List ℕ → ℕ → Bool
is_failing failing calls = list_any (λ n. n == next_count calls) failing

-- the file that the next call finds: none in a call that is to fail
abbrev pub next_found : FilesState → List ℕ → Option (List ℕ)
next_found s name = if is_failing s.failing s.calls then None else told_of s name

-- the answer where this was found: a file that was not found is a fault
abbrev pub answer_for : Option (List ℕ) → ℕ → Result (List ℕ) ReadEnd
answer_for None limit = Err Failed
answer_for (Some bytes) limit = if nat_lt limit (length bytes) then Err TooLong else Ok bytes

-- what the next read answers where there is memory for it
abbrev pub read_answer : FilesState → List ℕ → ℕ → Result (List ℕ) ReadEnd
read_answer s name limit = answer_for (next_found s name) limit

-- the answer takes memory: the bytes are copied, and of a fault the name; that a file is too long
-- takes none
abbrev pub TakesMemory : Result (List ℕ) ReadEnd → Type 0
TakesMemory (Ok bytes) = ⊤
TakesMemory (Err Failed) = ⊤
TakesMemory (Err TooLong) = ⊥
TakesMemory (Err Memory) = ⊤

-- the read answers as it is to, or wants memory where the answer takes memory
abbrev pub IsAnswer : Result (List ℕ) ReadEnd → Result (Vec ℕ Global) ReadEnd → Type 0
IsAnswer expected (Ok v) = expected ≡ Ok v.items
IsAnswer expected (Err Failed) = expected ≡ Err Failed
IsAnswer expected (Err TooLong) = expected ≡ Err TooLong
IsAnswer expected (Err Memory) = TakesMemory expected

-- what a read leaves: each call is counted, and a fault is noted
abbrev pub after_read : {T : Type 0} → FilesState → List ℕ → Result T ReadEnd → FilesState
after_read s name answer =
    record s { calls = next_count s.calls; log = log_after s.log name answer }
