-- What is claimed of a call of the program, by the status that it ends with.
use Rattle.std.specs.Prelude.{◌≡◌, ℕ, ◌<◌, ◌≤◌, List, Option, None, Some, length}
use Rattle.murphi_ast.specs.declared.token.Span.{Span}
use Rattle.murphi_ast.specs.declared.rule.Protocol.{Protocol}
use Rattle.murphi_ast.specs.Flat.{IsBuilt, IsUnbuilt, IsNotFlat}
use Rattle.murphi_ast.specs.Safety.{IsInductive, IsSafe}
use Rattle.murphi_lex.specs.Places.{IsPlace}
use Rattle.flat_check.specs.declared.Finding.{Finding}
use Rattle.flat_check.specs.declared.Formula.{Formula}
use Rattle.flat_check.specs.Verdict.{IsFinding}
use Rattle.cmp_outside.specs.Faults.{Rose}
use Rattle.cmp_outside.specs.Source.{Told, IfTold, SameFiles}
use Rattle.cmp_outside.specs.Sink.{Gains, GainsPrefix}
use Rattle.cmp_cli.specs.declared.outcome.Refusal.{Refusal}
use Rattle.cmp_cli.specs.declared.outcome.Refusal.TheVariants.{E01, Placed, Bytes}
use Rattle.cmp_cli.specs.declared.outcome.Role.TheVariants as whose
use Rattle.cmp_cli.specs.declared.outcome.Code.{Code}
use Rattle.cmp_cli.specs.declared.outcome.Code.TheVariants as code
use Rattle.cmp_cli.specs.declared.outcome.Outcome.{Outcome}
use Rattle.cmp_cli.specs.declared.outcome.Outcome.TheVariants as outcome
use Rattle.cmp_cli.specs.declared.outcome.Ending.{Ending}
use Rattle.cmp_cli.specs.declared.outcome.Ending.TheVariants as ending
use Rattle.cmp_cli.specs.Words.{Word, AskFor, IsNoRequest}
use Rattle.cmp_cli.specs.Report.{report}

-- how many bytes a file may have
abbrev pub greatest_file : ℕ
greatest_file = 1048576

-- the words ask for a file, and P holds of its bytes, if the source tells them
pub record AsksFor (words : List Word) (told : Told) (P : List ℕ → Type 0) : Type 0 where
  pub file : Word
  pub asked : AskFor words file
  pub bytes : IfTold (told file) P

-- a file of these bytes is read, and they spell the protocol
abbrev pub Spells : Protocol → List ℕ → Type 0
Spells p bytes = (length bytes ≤ greatest_file) × IsBuilt bytes p

-- a text is refused at a place: something in it is not built; or it spells no flat protocol, where the
-- place that is named is one of the text's, behind some front of its bytes
abbrev pub RefusesText : Code → List ℕ → Span → Type 0
RefusesText code.E10 bytes at = IsUnbuilt bytes at
RefusesText code.E04 bytes at = IsNotFlat bytes × IsPlace bytes at

-- a file of the protocol that has these bytes is refused: it is too long, or else its text is refused
abbrev pub RefusesFile : Refusal → List ℕ → Type 0
RefusesFile E01 bytes = ⊥
RefusesFile (Bytes role limit) bytes =
    (role ≡ whose.Protocol) × (limit ≡ greatest_file) × (greatest_file < length bytes)
RefusesFile (Placed code role at) bytes =
    (role ≡ whose.Protocol) × (length bytes ≤ greatest_file) × RefusesText code bytes at

-- the first refusal of these words and of what is told of files: that the words are no request, or else
-- that of the file that they ask for
abbrev pub IsRefusal : List Word → Told → Refusal → Type 0
IsRefusal words told E01 = IsNoRequest words
IsRefusal words told (Bytes role limit) = AsksFor words told (RefusesFile (Bytes role limit))
IsRefusal words told (Placed code role at) = AsksFor words told (RefusesFile (Placed code role at))

-- the file spells a protocol, which is inductive and therefore safe
pub record IsProved (words : List Word) (told : Told) (p : Protocol) : Type 0 where
  pub spelled : AsksFor words told (Spells p)
  pub inductive : IsInductive p
  pub safe : IsSafe p

-- the file spells a protocol, of which this was found, and so it is not inductive
pub record IsDisproved (words : List Word) (told : Told) (p : Protocol) (finding : Finding) (formula : Formula) : Type 0 where
  pub spelled : AsksFor words told (Spells p)
  pub found : IsFinding p finding formula
  pub not_inductive : IsInductive p → ⊥

-- what is claimed of an outcome
abbrev pub IsOutcome : List Word → Told → Outcome → Type 0
IsOutcome words told (outcome.Proved p) = IsProved words told p
IsOutcome words told (outcome.NotInductive p finding formula) = IsDisproved words told p finding formula
IsOutcome words told (outcome.Refused refusal) = IsRefusal words told refusal

-- a call of the program, as it is seen from outside
pub record Call : Type 0 where
  -- the words of the command line
  pub words : List Word
  -- what the source told of files before the call, and what it tells after it
  pub told : Told
  pub told_then : Told
  -- how many reads had failed before the call and after it
  pub reads_failed : ℕ
  pub reads_failed_then : ℕ
  -- the name of the last read that had failed before the call, and after it
  pub last_failed : Option Word
  pub last_failed_then : Option Word
  -- how many writes had failed before the call and after it
  pub writes_failed : ℕ
  pub writes_failed_then : ℕ
  -- what had been written before the call and after it
  pub written : Option (List ℕ)
  pub written_then : Option (List ℕ)

-- the report of this outcome was written
pub record Reports (c : Call) (o : Outcome) : Type 0 where
  pub holds : IsOutcome c.words c.told o
  pub wrote : Gains c.written c.written_then (report o)

-- nothing was written
abbrev pub WroteNothing : Call → Type 0
WroteNothing c = c.written_then ≡ c.written

-- the file that the words ask for could not be read
pub record ReadFault (c : Call) : Type 0 where
  pub rose : Rose c.reads_failed c.reads_failed_then
  pub file : Word
  pub asked : AskFor c.words file
  pub named : c.last_failed_then ≡ Some file
  pub wrote : WroteNothing c

-- the report of this outcome could not be written to its end
pub record WriteFault (c : Call) (o : Outcome) : Type 0 where
  pub rose : Rose c.writes_failed c.writes_failed_then
  pub holds : IsOutcome c.words c.told o
  pub wrote : GainsPrefix c.written c.written_then (report o)

-- the status of an ending
abbrev pub status_of : Ending → ℕ
status_of ending.Proved = 0
status_of ending.NotInductive = 1
status_of ending.Refused = 3
status_of ending.ReadFailed = 4
status_of ending.WriteFailed = 5
status_of ending.Memory = 6

-- what is claimed of a call that ends so
abbrev pub EndsAs : Call → Ending → Type 0
EndsAs c ending.Proved = (p : Protocol) × Reports c (outcome.Proved p)
EndsAs c ending.NotInductive =
    (p : Protocol) × (finding : Finding) × (formula : Formula) × Reports c (outcome.NotInductive p finding formula)
EndsAs c ending.Refused = (refusal : Refusal) × Reports c (outcome.Refused refusal)
EndsAs c ending.ReadFailed = ReadFault c
EndsAs c ending.WriteFailed = (o : Outcome) × WriteFault c o
EndsAs c ending.Memory = WroteNothing c

-- no read failed: the source counts no further fault, and names the same one as its last
pub record NoReadFailed (c : Call) : Type 0 where
  pub count : c.reads_failed_then ≡ c.reads_failed
  pub name : c.last_failed_then ≡ c.last_failed

-- no write failed: the sink counts no further fault
abbrev pub NoWriteFailed : Call → Type 0
NoWriteFailed c = c.writes_failed_then ≡ c.writes_failed

-- P, unless the ending is a read that failed
abbrev pub UnlessReadFailed : Ending → Type 0 → Type 0
UnlessReadFailed ending.ReadFailed P = Unit {0}
UnlessReadFailed _ P = P

-- P, unless the ending is a write that failed
abbrev pub UnlessWriteFailed : Ending → Type 0 → Type 0
UnlessWriteFailed ending.WriteFailed P = Unit {0}
UnlessWriteFailed _ P = P

-- no read and no write failed
pub record NothingFailed (c : Call) : Type 0 where
  pub reads : Rose c.reads_failed c.reads_failed_then → ⊥
  pub writes : Rose c.writes_failed c.writes_failed_then → ⊥

-- proved, not inductive, or want of memory
abbrev pub IsVerdictEnding : Ending → Type 0
IsVerdictEnding ending.Proved = Unit {0}
IsVerdictEnding ending.NotInductive = Unit {0}
IsVerdictEnding ending.Memory = Unit {0}
IsVerdictEnding _ = ⊥

-- refused, or want of memory
abbrev pub IsRefusedEnding : Ending → Type 0
IsRefusedEnding ending.Refused = Unit {0}
IsRefusedEnding ending.Memory = Unit {0}
IsRefusedEnding _ = ⊥

-- refused, a write that failed, or want of memory
abbrev pub IsUnaskedEnding : Ending → Type 0
IsUnaskedEnding ending.Refused = Unit {0}
IsUnaskedEnding ending.WriteFailed = Unit {0}
IsUnaskedEnding ending.Memory = Unit {0}
IsUnaskedEnding _ = ⊥

-- what is claimed of a call with this ending
pub record IsEnding (c : Call) (e : Ending) : Type 0 where
  pub ends : EndsAs c e
  -- the source tells of each file what it told before, so that one call can follow another
  pub files : SameFiles c.told c.told_then
  -- a read that failed is the ending, whatever is read and however often
  pub reads : UnlessReadFailed e (NoReadFailed c)
  -- and so is a write that failed
  pub writes : UnlessWriteFailed e (NoWriteFailed c)
  -- where the words ask for a file of these bytes and nothing fails, a protocol that is spelled is decided,
  -- unless memory runs out
  pub decided : (file : Word) (bytes : List ℕ) (p : Protocol) → AskFor c.words file →
      c.told file ≡ Some bytes → NothingFailed c → Spells p bytes → IsVerdictEnding e
  -- and what is to be refused is refused, unless memory runs out
  pub refused : (file : Word) (bytes : List ℕ) (refusal : Refusal) → AskFor c.words file →
      c.told file ≡ Some bytes → NothingFailed c → RefusesFile refusal bytes → IsRefusedEnding e
  -- words that are no request are refused, unless a write fails or memory runs out
  pub unasked : IsNoRequest c.words → IsUnaskedEnding e

-- what is claimed of a call that ends with this status: it is that of one of the six endings
abbrev pub IsAnswered : Call → ℕ → Type 0
IsAnswered c status = (e : Ending) × (status ≡ status_of e) × IsEnding c e
