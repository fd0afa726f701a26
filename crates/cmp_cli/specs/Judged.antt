-- What the parts of the program say to one another.
use Rattle.std.specs.Prelude.{◌≡◌, ℕ, List, Option, Some, Result, Ok, Err}
use Rattle.murphi_ast.specs.Flat.{IsBuilt}
use Rattle.murphi_ast.specs.Safety.{IsInductive, IsSafe}
use Rattle.flat_check.specs.Verdict.{IsFinding}
use Rattle.cmp_outside.specs.Faults.{Rose}
use Rattle.cmp_outside.specs.Source.{IfTold}
use Rattle.cmp_outside.specs.Sink.{Gains, GainsPrefix}
use Rattle.cmp_cli.specs.declared.outcome.Refusal.TheVariants.{E01, Placed, Bytes}
use Rattle.cmp_cli.specs.declared.outcome.Role.TheVariants as whose
use Rattle.cmp_cli.specs.declared.outcome.Outcome.{Outcome}
use Rattle.cmp_cli.specs.declared.outcome.Outcome.TheVariants as outcome
use Rattle.cmp_cli.specs.declared.outcome.Ending.{Ending}
use Rattle.cmp_cli.specs.declared.outcome.Ending.TheVariants as ending
use Rattle.cmp_cli.specs.declared.program.Stop.{Stop}
use Rattle.cmp_cli.specs.declared.program.Stop.TheVariants as stop
use Rattle.cmp_cli.specs.Words.{Word, AskFor}
use Rattle.cmp_cli.specs.Report.{report}
use Rattle.cmp_cli.specs.Run.{Spells, RefusesText, RefusesFile}

-- what an outcome says of a text that is not too long
abbrev pub IsJudged : List ℕ → Outcome → Type 0
IsJudged bytes (outcome.Proved p) = IsBuilt bytes p × IsInductive p × IsSafe p
IsJudged bytes (outcome.NotInductive p finding formula) = IsBuilt bytes p × IsFinding p finding formula × (IsInductive p → ⊥)
IsJudged bytes (outcome.Refused E01) = ⊥
IsJudged bytes (outcome.Refused (Bytes role limit)) = ⊥
IsJudged bytes (outcome.Refused (Placed code role at)) = (role ≡ whose.Protocol) × RefusesText code bytes at

-- what an outcome says of a file, if it is told
abbrev pub IsOfFile : Option (List ℕ) → Outcome → Type 0
IsOfFile told (outcome.Proved p) = IfTold told (Spells p) × IsInductive p × IsSafe p
IsOfFile told (outcome.NotInductive p finding formula) = IfTold told (Spells p) × IsFinding p finding formula × (IsInductive p → ⊥)
IsOfFile told (outcome.Refused E01) = ⊥
IsOfFile told (outcome.Refused (Bytes role limit)) = IfTold told (RefusesFile (Bytes role limit))
IsOfFile told (outcome.Refused (Placed code role at)) = IfTold told (RefusesFile (Placed code role at))

-- the outcome decides a protocol
abbrev pub IsVerdict : Outcome → Type 0
IsVerdict (outcome.Proved p) = Unit {0}
IsVerdict (outcome.NotInductive p finding formula) = Unit {0}
IsVerdict (outcome.Refused refusal) = ⊥

-- the outcome is a refusal
abbrev pub IsRefused : Outcome → Type 0
IsRefused (outcome.Proved p) = ⊥
IsRefused (outcome.NotInductive p finding formula) = ⊥
IsRefused (outcome.Refused refusal) = Unit {0}

-- P, if the read failed
abbrev pub OnReadFailed : Result Outcome Stop → Type 0 → Type 0
OnReadFailed (Ok o) P = Unit {0}
OnReadFailed (Err stop.ReadFailed) P = P
OnReadFailed (Err stop.Memory) P = Unit {0}

-- P, unless the read failed
abbrev pub UnlessStopped : Result Outcome Stop → Type 0 → Type 0
UnlessStopped (Ok o) P = P
UnlessStopped (Err stop.ReadFailed) P = Unit {0}
UnlessStopped (Err stop.Memory) P = P

-- the words ask for a file, and it is the last whose read failed
pub record IsLastFailed (words : List Word) (last_failed : Option Word) : Type 0 where
  pub file : Word
  pub asked : AskFor words file
  pub named : last_failed ≡ Some file

-- the words are refused, unless memory runs out
abbrev pub IsUnasked : Result Outcome Stop → Type 0
IsUnasked (Ok o) = IsRefused o
IsUnasked (Err stop.ReadFailed) = ⊥
IsUnasked (Err stop.Memory) = Unit {0}

-- the ending that tells that this outcome was reported
abbrev pub ending_of : Outcome → Ending
ending_of (outcome.Proved p) = ending.Proved
ending_of (outcome.NotInductive p finding formula) = ending.NotInductive
ending_of (outcome.Refused refusal) = ending.Refused

-- the whole report was written, no write failed, and this is the ending that tells so
pub record IsWhole (written written_then : Option (List ℕ)) (failed failed_then : ℕ) (o : Outcome) (e : Ending) : Type 0 where
  pub gained : Gains written written_then (report o)
  pub quiet : failed_then ≡ failed
  pub ending : ending_of o ≡ e

-- what the writing of the report of an outcome ends with: the whole report, a part of it and a fault, or
-- nothing, for want of memory
abbrev pub IsTold : Option (List ℕ) → Option (List ℕ) → ℕ → ℕ → Outcome → Ending → Type 0
IsTold written written_then failed failed_then o ending.Proved = IsWhole written written_then failed failed_then o ending.Proved
IsTold written written_then failed failed_then o ending.NotInductive = IsWhole written written_then failed failed_then o ending.NotInductive
IsTold written written_then failed failed_then o ending.Refused = IsWhole written written_then failed failed_then o ending.Refused
IsTold written written_then failed failed_then o ending.ReadFailed = ⊥
IsTold written written_then failed failed_then o ending.WriteFailed = Rose failed failed_then × GainsPrefix written written_then (report o)
IsTold written written_then failed failed_then o ending.Memory = (written_then ≡ written) × (failed_then ≡ failed)
