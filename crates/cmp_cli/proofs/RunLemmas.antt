-- From what the parts of the program say to what is claimed of a call.
use Rattle.std.proofs.Common.{◌≡◌, ℕ, List, None, Some, Result, Ok, Err, ◌∙◌, sym, ap}
use Rattle.std.specs.Prelude.{IfOk}
use Rattle.murphi_ast.specs.declared.rule.Protocol.{Protocol}
use Rattle.cmp_outside.specs.Faults.{Rose}
use Rattle.cmp_outside.specs.Source.{Told, SameFiles}
use Rattle.cmp_cli.specs.declared.request.Request.{Request}
use Rattle.cmp_cli.specs.declared.table.OptionName.TheVariants as option
use Rattle.cmp_cli.specs.declared.outcome.Refusal.{Refusal}
use Rattle.cmp_cli.specs.declared.outcome.Refusal.TheVariants.{E01, Placed, Bytes}
use Rattle.cmp_cli.specs.declared.outcome.Outcome.{Outcome}
use Rattle.cmp_cli.specs.declared.outcome.Outcome.TheVariants as outcome
use Rattle.cmp_cli.specs.declared.outcome.Ending.{Ending}
use Rattle.cmp_cli.specs.declared.outcome.Ending.TheVariants as ending
use Rattle.cmp_cli.specs.declared.program.Stop.{Stop}
use Rattle.cmp_cli.specs.Words.{Word, IsRequest, IsNoRequest, AskFor, value_of}
use Rattle.cmp_cli.proofs.ReadingLemmas.{same_request}
use Rattle.cmp_cli.specs.Run.{Spells, RefusesFile, IsOutcome, Call, WroteNothing, EndsAs, NoReadFailed, NoWriteFailed, UnlessReadFailed, UnlessWriteFailed, NothingFailed, IsVerdictEnding, IsRefusedEnding, IsUnaskedEnding, IsEnding}
use Rattle.cmp_cli.specs.Judged.{IsOfFile, IsVerdict, IsRefused, IsTold, IsLastFailed}

-- what holds of the file that the words ask for
pub of_file : (words : List Word) (told : Told) (file : Word) (o : Outcome) →
    AskFor words file → IsOfFile (told file) o → IsOutcome words told o
of_file words told file (outcome.Proved p) asked h =
    record { spelled = record { file = file; asked = asked; bytes = h.0 }; inductive = h.1; safe = h.2 }
of_file words told file (outcome.NotInductive p finding formula) asked h =
    record { spelled = record { file = file; asked = asked; bytes = h.0 }; found = h.1; not_inductive = h.2 }
of_file words told file (outcome.Refused E01) asked h = absurd h
of_file words told file (outcome.Refused (Bytes role limit)) asked h = record { file = file; asked = asked; bytes = h }
of_file words told file (outcome.Refused (Placed code role at)) asked h = record { file = file; asked = asked; bytes = h }

-- the same of an answer
pub answer_of_file : (words : List Word) (told : Told) (file : Word) (r : Result Outcome Stop) →
    AskFor words file → IfOk r (λ o. IsOfFile (told file) o) → IfOk r (λ o. IsOutcome words told o)
answer_of_file words told file (Ok o) asked h = of_file words told file o asked h
answer_of_file words told file (Err e) asked h = tt

-- the words ask for one file
pub same_file : (words : List Word) (a b : Word) → AskFor words a → AskFor words b → a ≡ b
same_file words a b p q =
    let same : p.request ≡ q.request = same_request words p.request q.request p.asked q.asked in
    let values : Some a ≡ Some b = sym p.named ∙ ap (λ (r : Request). value_of option.Protocol r.given) same ∙ q.named in
    cc

-- a protocol that the file spells is decided
pub verdict_of_file : (words : List Word) (told : Told) (own : Word) (r : Result Outcome Stop) →
    AskFor words own →
    ((bytes : List ℕ) (p : Protocol) → told own ≡ Some bytes → Spells p bytes → IfOk r IsVerdict) →
    (file : Word) (bytes : List ℕ) (p : Protocol) → AskFor words file → told file ≡ Some bytes → Spells p bytes → IfOk r IsVerdict
verdict_of_file words told own r asked h file bytes p other is spells =
    h bytes p (ap told (same_file words own file asked other) ∙ is) spells

-- and what is to be refused is refused
pub refused_of_file : (words : List Word) (told : Told) (own : Word) (r : Result Outcome Stop) →
    AskFor words own →
    ((bytes : List ℕ) (refusal : Refusal) → told own ≡ Some bytes → RefusesFile refusal bytes → IfOk r IsRefused) →
    (file : Word) (bytes : List ℕ) (refusal : Refusal) → AskFor words file → told file ≡ Some bytes → RefusesFile refusal bytes → IfOk r IsRefused
refused_of_file words told own r asked h file bytes refusal other is refuses =
    h bytes refusal (ap told (same_file words own file asked other) ∙ is) refuses

module _ (c : Call) where
  ends_whole : (o : Outcome) (e : Ending) → IsOutcome c.words c.told o →
      IsTold c.written c.written_then c.writes_failed c.writes_failed_then o e → EndsAs c e
  ends_whole (outcome.Proved p) ending.Proved h t = (p, record { holds = h; wrote = t.gained })
  ends_whole (outcome.NotInductive p finding formula) ending.Proved h t = let e = t.ending in cc
  ends_whole (outcome.Refused refusal) ending.Proved h t = let e = t.ending in cc
  ends_whole (outcome.Proved p) ending.NotInductive h t = let e = t.ending in cc
  ends_whole (outcome.NotInductive p finding formula) ending.NotInductive h t = (p, finding, formula, record { holds = h; wrote = t.gained })
  ends_whole (outcome.Refused refusal) ending.NotInductive h t = let e = t.ending in cc
  ends_whole (outcome.Proved p) ending.Refused h t = let e = t.ending in cc
  ends_whole (outcome.NotInductive p finding formula) ending.Refused h t = let e = t.ending in cc
  ends_whole (outcome.Refused refusal) ending.Refused h t = (refusal, record { holds = h; wrote = t.gained })
  ends_whole o ending.ReadFailed h t = absurd t
  ends_whole o ending.WriteFailed h t = (o, record { rose = t.0; holds = h; wrote = t.1 })
  ends_whole o ending.Memory h t = t.0

  told_verdict : (o : Outcome) (e : Ending) → IsVerdict o → NothingFailed c →
      IsTold c.written c.written_then c.writes_failed c.writes_failed_then o e → IsVerdictEnding e
  told_verdict o ending.Proved v n t = tt
  told_verdict o ending.NotInductive v n t = tt
  told_verdict (outcome.Proved p) ending.Refused v n t = let e = t.ending in cc
  told_verdict (outcome.NotInductive p finding formula) ending.Refused v n t = let e = t.ending in cc
  told_verdict (outcome.Refused refusal) ending.Refused v n t = v
  told_verdict o ending.ReadFailed v n t = t
  told_verdict o ending.WriteFailed v n t = n.writes t.0
  told_verdict o ending.Memory v n t = tt

  told_refused : (o : Outcome) (e : Ending) → IsRefused o → NothingFailed c →
      IsTold c.written c.written_then c.writes_failed c.writes_failed_then o e → IsRefusedEnding e
  told_refused o ending.Refused v n t = tt
  told_refused (outcome.Proved p) ending.Proved v n t = v
  told_refused (outcome.NotInductive p finding formula) ending.Proved v n t = v
  told_refused (outcome.Refused refusal) ending.Proved v n t = let e = t.ending in cc
  told_refused (outcome.Proved p) ending.NotInductive v n t = v
  told_refused (outcome.NotInductive p finding formula) ending.NotInductive v n t = v
  told_refused (outcome.Refused refusal) ending.NotInductive v n t = let e = t.ending in cc
  told_refused o ending.ReadFailed v n t = t
  told_refused o ending.WriteFailed v n t = n.writes t.0
  told_refused o ending.Memory v n t = tt

  told_unasked : (o : Outcome) (e : Ending) → IsRefused o →
      IsTold c.written c.written_then c.writes_failed c.writes_failed_then o e → IsUnaskedEnding e
  told_unasked o ending.Refused v t = tt
  told_unasked (outcome.Proved p) ending.Proved v t = v
  told_unasked (outcome.NotInductive p finding formula) ending.Proved v t = v
  told_unasked (outcome.Refused refusal) ending.Proved v t = let e = t.ending in cc
  told_unasked (outcome.Proved p) ending.NotInductive v t = v
  told_unasked (outcome.NotInductive p finding formula) ending.NotInductive v t = v
  told_unasked (outcome.Refused refusal) ending.NotInductive v t = let e = t.ending in cc
  told_unasked o ending.ReadFailed v t = t
  told_unasked o ending.WriteFailed v t = tt
  told_unasked o ending.Memory v t = tt

  told_quiet : (o : Outcome) (e : Ending) →
      IsTold c.written c.written_then c.writes_failed c.writes_failed_then o e → UnlessWriteFailed e (NoWriteFailed c)
  told_quiet o ending.Proved t = t.quiet
  told_quiet o ending.NotInductive t = t.quiet
  told_quiet o ending.Refused t = t.quiet
  told_quiet o ending.ReadFailed t = absurd t
  told_quiet o ending.WriteFailed t = tt
  told_quiet o ending.Memory t = t.1

  -- what holds where no read failed holds of each ending
  unless_read : (e : Ending) → NoReadFailed c → UnlessReadFailed e (NoReadFailed c)
  unless_read ending.Proved r = r
  unless_read ending.NotInductive r = r
  unless_read ending.Refused r = r
  unless_read ending.ReadFailed r = tt
  unless_read ending.WriteFailed r = r
  unless_read ending.Memory r = r

  -- an outcome was found, and its report written
  pub told_ending : (o : Outcome) (e : Ending) → IsOutcome c.words c.told o →
      ((file : Word) (bytes : List ℕ) (p : Protocol) → AskFor c.words file → c.told file ≡ Some bytes → Spells p bytes → IsVerdict o) →
      ((file : Word) (bytes : List ℕ) (refusal : Refusal) → AskFor c.words file → c.told file ≡ Some bytes → RefusesFile refusal bytes → IsRefused o) →
      (IsNoRequest c.words → IsRefused o) →
      SameFiles c.told c.told_then → c.reads_failed_then ≡ c.reads_failed → c.last_failed_then ≡ c.last_failed →
      IsTold c.written c.written_then c.writes_failed c.writes_failed_then o e → IsEnding c e
  told_ending o e h spelled refused unasked files count name t = record {
    ends = ends_whole o e h t;
    files = files;
    reads = unless_read e (record { count = count; name = name });
    writes = told_quiet o e t;
    decided = λ file bytes p a b n s. told_verdict o e (spelled file bytes p a b s) n t;
    refused = λ file bytes r a b n s. told_refused o e (refused file bytes r a b s) n t;
    unasked = λ none. told_unasked o e (unasked none) t;
  }

  -- the file could not be read
  pub read_ending : Rose c.reads_failed c.reads_failed_then → IsLastFailed c.words c.last_failed_then → WroteNothing c →
      SameFiles c.told c.told_then → NoWriteFailed c →
      (IsNoRequest c.words → ⊥) → IsEnding c ending.ReadFailed
  read_ending rose named wrote files quiet unasked = record {
    files = files;
    reads = tt;
    writes = quiet;
    ends = record { rose = rose; file = named.file; asked = named.asked; named = named.named; wrote = wrote };
    decided = λ file bytes p a b n s. n.reads rose;
    refused = λ file bytes r a b n s. n.reads rose;
    unasked = unasked;
  }

  -- memory ran out before anything was written
  pub memory_ending : WroteNothing c → SameFiles c.told c.told_then → c.reads_failed_then ≡ c.reads_failed →
      c.last_failed_then ≡ c.last_failed → NoWriteFailed c → IsEnding c ending.Memory
  memory_ending wrote files count name quiet = record {
    ends = wrote;
    files = files;
    reads = record { count = count; name = name };
    writes = quiet;
    decided = λ file bytes p a b n s. tt;
    refused = λ file bytes r a b n s. tt;
    unasked = λ none. tt;
  }
