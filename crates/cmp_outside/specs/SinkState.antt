-- A sink in memory: what it is, what a write to it answers, and what it leaves.
use Rattle.std.specs.Prelude.{ℕ, ◌+◌, Bool, not, ◌&&◌, nat_le, if◌then◌else◌, List, [], ◌++◌, length}
use Rattle.cmp_outside.specs.Faults.{next_count}
use Rattle.cmp_outside.specs.FilesState.{is_failing}

-- a sink in memory
pub record SinkState : Type 0 where
  pub written : List ℕ
  -- how many bytes it takes in all
  pub room : ℕ
  -- the numbers of the calls that fail; the first call has the number 1
  pub failing : List ℕ
  -- how many calls there were
  pub calls : ℕ
  pub faults : ℕ

-- before the first call
abbrev pub fresh_sink : ℕ → List ℕ → SinkState
fresh_sink room failing =
    record { written = []; room = room; failing = failing; calls = 0; faults = 0 }

-- the next write takes this piece: its number is not listed, and there is room
abbrev pub takes : SinkState → List ℕ → Bool
takes s piece =
    not (is_failing s.failing s.calls) && nat_le (length s.written + length piece) s.room

-- what a write leaves: each call is counted, and it takes the piece or is a fault
abbrev pub after_write : SinkState → List ℕ → SinkState
after_write s piece =
    if takes s piece
    then record s { written = s.written ++ piece; calls = next_count s.calls }
    else record s { calls = next_count s.calls; faults = next_count s.faults }
