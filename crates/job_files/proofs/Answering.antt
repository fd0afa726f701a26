-- What is told of files of lemmas and of flows, from what their readers answer.
use Rattle.std.proofs.Common.{◌≡◌, ℕ, Bool, true, false, List, [], ◌∷◌, ◌++◌, drop, map, Option, None, Some, Result, Ok, Err, refl, sym, ap, ◌∙◌, subst}
use Rattle.grammar_core.specs.Spelling.{Room, Any, Limit}
use Rattle.grammar_core.specs.Reading as read
use Rattle.murphi_ast.specs.Spelling as bytes
use Rattle.murphi_ast.specs.Spelling.{ends_once, FaultsFirst}
use Rattle.murphi_ast.specs.declared.token.Token.{Token}
use Rattle.murphi_ast.specs.declared.token.Span.{Span}
use Rattle.murphi_ast.specs.declared.token.Fault.{Fault}
use Rattle.murphi_ast.specs.declared.token.Fault.TheVariants as fault
use Rattle.murphi_ast.specs.declared.expr.Named.{Named}
use Rattle.murphi_ast.specs.declared.job.Flow.{Flow}
use Rattle.murphi_ast.specs.declared.job.Lemma.{Lemma}
use Rattle.murphi_grammar.specs.Names as n
use Rattle.murphi_expressions.specs.Says.{place_of}
use Rattle.murphi_expressions.specs.Expression.{first_refused}
use Rattle.murphi_expressions.specs.declared.step.Stop.TheVariants.{Wrong, Deep, Memory}
use Rattle.murphi_expressions.proofs.NoEnd.{of_text, avoids}
use Rattle.murphi_lex.specs.declared.scanning.LexRefusal.{LexRefusal}
use Rattle.murphi_lex.specs.declared.scanning.LexRefusal.TheVariants as lex
use Rattle.murphi_lex.specs.Refusals.{IsRefusal}
use Rattle.murphi_lex.specs.Refusals.{Tells as TellsFault}
use Rattle.job_files.specs.declared.refusal.JobRefusal.{JobRefusal}
use Rattle.job_files.specs.declared.refusal.JobRefusal.TheVariants as refusal
use Rattle.job_files.specs.Files.{lemma_word, SpellsLemmas, BeginsLemmas, SpellsFlows, BeginsFlows}
use Rattle.job_files.specs.Told.{TellsFile, TellsBytes, TellsLemmas, TellsFlows, lemma_name, flow_name, IsAnswered, second_use}
use Rattle.job_files.specs.Uses.{IsDistinct, lexed}
use Rattle.job_files.specs.Walks.{SaysText, SaysFlows}
use Rattle.job_files.proofs.Texts.{text_begun, text_any, text_front, one_text}
use Rattle.job_files.proofs.TextStops.{stops_wrong, stops_deep, got_last, got_spelled}
use Rattle.job_files.proofs.Flows.{flows_begun, flows_any, flows_front, one_flows, flows_wrong, flows_deep, flows_last, flows_spelled}
use Rattle.job_files.proofs.Telling.{IsReadable, none_left, halts_wrong, halts_deep, answers_once}

pub readable_lemmas : IsReadable SpellsLemmas BeginsLemmas
readable_lemmas = record { begun = λ r us vs p. text_begun p; any = λ r us b. text_any b; fronts = λ r us b vs ws h. text_front b vs ws h; one = λ r q us vs ws p z. one_text refl p z }

pub readable_flows : IsReadable SpellsFlows BeginsFlows
readable_flows = record { begun = λ r us vs p. flows_begun p; any = λ r us b. flows_any b; fronts = λ r us b vs ws h. flows_front b vs ws h; one = λ r q us vs ws p z. one_flows p z }

-- a list that is spelled, and names that are used twice or not
distinct : {V : Type 0} (spells : Room → List Token → List V → Type 0) (begins : Room → List Token → Type 0) (name : V → Named) (ts : List Token) (all : List V) (r : Result (List V) JobRefusal) →
    first_refused ts ≡ None → spells (Limit 100) ts all → IsDistinct name all r → TellsFile spells begins name ts r
distinct spells begins name ts all (Ok items) h p (e, d) = (h, subst (λ l. spells (Limit 100) ts l) (sym e) p, ap (λ l. second_use (map name l)) e ∙ d)
distinct spells begins name ts all (Err (refusal.E06 at)) h p d = (all, h, p, d)
distinct spells begins name ts all (Err refusal.Memory) h p d = tt
distinct spells begins name ts all (Err (refusal.E02 at)) h p d = absurd d
distinct spells begins name ts all (Err (refusal.E03 at)) h p d = absurd d
distinct spells begins name ts all (Err (refusal.E04 at)) h p d = absurd d
distinct spells begins name ts all (Err (refusal.E10 at)) h p d = absurd d
distinct spells begins name ts all (Err (refusal.E15 at)) h p d = absurd d

pub lemmas_refused : (ts : List Token) (at : Span) → first_refused ts ≡ Some at → TellsLemmas ts (Err (refusal.E10 at))
lemmas_refused ts at h = h

pub lemmas_done : (ts : List Token) (all : List Lemma) (next : ℕ) (r : Result (List Lemma) JobRefusal) → ends_once ts ≡ true → first_refused ts ≡ None → SaysText lemma_word n.LemmaItem 100 ts 0 (Ok (all, next)) → IsDistinct lemma_name all r → TellsLemmas ts r
unfolding SaysText
lemmas_done ts all next r text h walk d =
    let q = got_last walk in
    distinct SpellsLemmas BeginsLemmas lemma_name ts all r h (got_spelled (none_left ts q.0 q.1 (drop next ts) (of_text ts text) q.2 q.3) walk) d

pub lemmas_wrong : (ts : List Token) (j : ℕ) (at : Span) → ends_once ts ≡ true → first_refused ts ≡ None → SaysText lemma_word n.LemmaItem 100 ts 0 (Err (Wrong j)) → at ≡ place_of (drop j ts) → TellsLemmas ts (Err (refusal.E04 at))
unfolding SaysText avoids
lemmas_wrong ts j at text h walk e = subst (λ z. TellsLemmas ts (Err (refusal.E04 z))) (sym e) (h, halts_wrong BeginsLemmas ts (drop j ts) (of_text ts text) (stops_wrong refl refl walk))

pub lemmas_deep : (ts : List Token) (j : ℕ) (at : Span) → first_refused ts ≡ None → SaysText lemma_word n.LemmaItem 100 ts 0 (Err (Deep j)) → at ≡ place_of (drop j ts) → TellsLemmas ts (Err (refusal.E15 at))
unfolding SaysText
lemmas_deep ts j at h walk e = subst (λ z. TellsLemmas ts (Err (refusal.E15 z))) (sym e) (h, halts_deep BeginsLemmas ts (drop j ts) (stops_deep refl walk))

pub ruleset lemmas = (lemmas_refused, lemmas_done, lemmas_wrong, lemmas_deep)

pub flows_refused : (ts : List Token) (at : Span) → first_refused ts ≡ Some at → TellsFlows ts (Err (refusal.E10 at))
flows_refused ts at h = h

pub flows_done : (ts : List Token) (all : List Flow) (next : ℕ) (r : Result (List Flow) JobRefusal) → ends_once ts ≡ true → first_refused ts ≡ None → SaysFlows 100 ts (Ok (all, next)) → IsDistinct flow_name all r → TellsFlows ts r
unfolding SaysFlows
flows_done ts all next r text h walk d =
    let q = flows_last walk in
    distinct SpellsFlows BeginsFlows flow_name ts all r h (flows_spelled (none_left ts q.0 q.1 (drop next ts) (of_text ts text) q.2 q.3) walk) d

pub flows_stop : (ts : List Token) (j : ℕ) (at : Span) → ends_once ts ≡ true → first_refused ts ≡ None → SaysFlows 100 ts (Err (Wrong j)) → at ≡ place_of (drop j ts) → TellsFlows ts (Err (refusal.E04 at))
unfolding SaysFlows
flows_stop ts j at text h walk e = subst (λ z. TellsFlows ts (Err (refusal.E04 z))) (sym e) (h, halts_wrong BeginsFlows ts (drop j ts) (of_text ts text) (flows_wrong walk))

pub flows_deeper : (ts : List Token) (j : ℕ) (at : Span) → first_refused ts ≡ None → SaysFlows 100 ts (Err (Deep j)) → at ≡ place_of (drop j ts) → TellsFlows ts (Err (refusal.E15 at))
unfolding SaysFlows
flows_deeper ts j at h walk e = subst (λ z. TellsFlows ts (Err (refusal.E15 z))) (sym e) (h, halts_deep BeginsFlows ts (drop j ts) (flows_deep walk))

pub ruleset flows = (flows_refused, flows_done, flows_stop, flows_deeper)

-- Bytes

module _ {V : Type 0} (spells : Room → List Token → List V → Type 0) (begins : Room → List Token → Type 0) (name : V → Named) (can : IsReadable spells begins) where
  abbrev Tells : List Token → Result (List V) JobRefusal → Type 0
  Tells ts answer = TellsFile spells begins name ts answer

  pub bytes_told : (bs : List ℕ) (ts : List Token) (r : Result (List V) JobRefusal) → bytes.Spells bs ts → Tells ts r → TellsBytes Tells bs r
  bytes_told bs ts (Ok items) s p = (ts, s, p)
  bytes_told bs ts (Err (refusal.E02 at)) s p = absurd p
  bytes_told bs ts (Err (refusal.E03 at)) s p = absurd p
  bytes_told bs ts (Err (refusal.E04 at)) s p = (ts, s, p)
  bytes_told bs ts (Err (refusal.E06 at)) s p = (ts, s, p)
  bytes_told bs ts (Err (refusal.E10 at)) s p = (ts, s, p)
  bytes_told bs ts (Err (refusal.E15 at)) s p = (ts, s, p)
  bytes_told bs ts (Err refusal.Memory) s p = tt

  same_tokens : (ts other : List Token) (r a : Result (List V) JobRefusal) → ts ≡ other → Tells ts r → Tells other a → IsAnswered r a
  same_tokens ts other r a h p q = answers_once spells begins name can ts r a p (subst (λ z. Tells z a) (sym h) q)

  -- the tokens are one list, and where there are tokens there is no fault
  pub bytes_only : (bs : List ℕ) (ts : List Token) (r a : Result (List V) JobRefusal) → ((other : List Token) → bytes.Spells bs other → ts ≡ other) → ((f : Fault) → FaultsFirst bs f → ⊥) → Tells ts r → TellsBytes Tells bs a → IsAnswered r a
  bytes_only bs ts r (Ok items) one never p (other, s, q) = same_tokens ts other r (Ok items) (one other s) p q
  bytes_only bs ts r (Err (refusal.E02 at)) one never p q = absurd (never (fault.E02 at) q)
  bytes_only bs ts r (Err (refusal.E03 at)) one never p q = absurd (never (fault.E03 at) q)
  bytes_only bs ts r (Err (refusal.E04 at)) one never p (other, s, q) = same_tokens ts other r (Err (refusal.E04 at)) (one other s) p q
  bytes_only bs ts r (Err (refusal.E06 at)) one never p (other, s, q) = same_tokens ts other r (Err (refusal.E06 at)) (one other s) p q
  bytes_only bs ts r (Err (refusal.E10 at)) one never p (other, s, q) = same_tokens ts other r (Err (refusal.E10 at)) (one other s) p q
  bytes_only bs ts r (Err (refusal.E15 at)) one never p (other, s, q) = same_tokens ts other r (Err (refusal.E15 at)) (one other s) p q
  bytes_only bs ts r (Err refusal.Memory) one never p q = tt

  -- the fault is one, and where there is one there are no tokens
  pub fault_only_E02 : (bs : List ℕ) (at : Span) (a : Result (List V) JobRefusal) → ((ts : List Token) → bytes.Spells bs ts → ⊥) → ((f : Fault) → FaultsFirst bs f → f ≡ fault.E02 at) → TellsBytes Tells bs a → IsAnswered (Err (refusal.E02 at)) a
  fault_only_E02 bs at (Ok items) never one (ts, s, q) = absurd (never ts s)
  fault_only_E02 bs at (Err (refusal.E02 to)) never one q = ap (λ z. Err (refusal.E02 z)) (place_is (one (fault.E02 to) q))
    where
      place_is : fault.E02 to ≡ fault.E02 at → at ≡ to
      place_is h = cc
  fault_only_E02 bs at (Err (refusal.E03 to)) never one q = absurd (apart (one (fault.E03 to) q))
    where
      apart : fault.E03 to ≡ fault.E02 at → ⊥
      apart h = cc
  fault_only_E02 bs at (Err (refusal.E04 to)) never one (ts, s, q) = absurd (never ts s)
  fault_only_E02 bs at (Err (refusal.E06 to)) never one (ts, s, q) = absurd (never ts s)
  fault_only_E02 bs at (Err (refusal.E10 to)) never one (ts, s, q) = absurd (never ts s)
  fault_only_E02 bs at (Err (refusal.E15 to)) never one (ts, s, q) = absurd (never ts s)
  fault_only_E02 bs at (Err refusal.Memory) never one q = tt

  pub fault_only_E03 : (bs : List ℕ) (at : Span) (a : Result (List V) JobRefusal) → ((ts : List Token) → bytes.Spells bs ts → ⊥) → ((f : Fault) → FaultsFirst bs f → f ≡ fault.E03 at) → TellsBytes Tells bs a → IsAnswered (Err (refusal.E03 at)) a
  fault_only_E03 bs at (Ok items) never one (ts, s, q) = absurd (never ts s)
  fault_only_E03 bs at (Err (refusal.E03 to)) never one q = ap (λ z. Err (refusal.E03 z)) (place_is (one (fault.E03 to) q))
    where
      place_is : fault.E03 to ≡ fault.E03 at → at ≡ to
      place_is h = cc
  fault_only_E03 bs at (Err (refusal.E02 to)) never one q = absurd (apart (one (fault.E02 to) q))
    where
      apart : fault.E02 to ≡ fault.E03 at → ⊥
      apart h = cc
  fault_only_E03 bs at (Err (refusal.E04 to)) never one (ts, s, q) = absurd (never ts s)
  fault_only_E03 bs at (Err (refusal.E06 to)) never one (ts, s, q) = absurd (never ts s)
  fault_only_E03 bs at (Err (refusal.E10 to)) never one (ts, s, q) = absurd (never ts s)
  fault_only_E03 bs at (Err (refusal.E15 to)) never one (ts, s, q) = absurd (never ts s)
  fault_only_E03 bs at (Err refusal.Memory) never one q = tt

  pub memory_only : (a : Result (List V) JobRefusal) → IsAnswered {A = List V} (Err refusal.Memory) a
  memory_only (Ok items) = tt
  memory_only (Err refusal.Memory) = tt
  memory_only (Err (refusal.E02 to)) = tt
  memory_only (Err (refusal.E03 to)) = tt
  memory_only (Err (refusal.E04 to)) = tt
  memory_only (Err (refusal.E06 to)) = tt
  memory_only (Err (refusal.E10 to)) = tt
  memory_only (Err (refusal.E15 to)) = tt

  pub lexed_told : (bs : List ℕ) (e : LexRefusal) → IsRefusal bs e → TellsBytes Tells bs (Err (lexed e))
  lexed_told bs (lex.E02 at) h = h
  lexed_told bs (lex.E03 at) h = h
  lexed_told bs lex.Memory h = tt

  pub lexed_only : (bs : List ℕ) (e : LexRefusal) (a : Result (List V) JobRefusal) → ((ts : List Token) → bytes.Spells bs ts → e ≡ lex.Memory) → ((f : Fault) → FaultsFirst bs f → TellsFault e f) → TellsBytes Tells bs a → IsAnswered {A = List V} (Err (lexed e)) a
  lexed_only bs (lex.E02 at) a never one q = fault_only_E02 bs at a (λ ts s. apart (never ts s)) one q
    where
      apart : lex.E02 at ≡ lex.Memory → ⊥
      apart h = cc
  lexed_only bs (lex.E03 at) a never one q = fault_only_E03 bs at a (λ ts s. apart (never ts s)) one q
    where
      apart : lex.E03 at ≡ lex.Memory → ⊥
      apart h = cc
  lexed_only bs lex.Memory a never one q = memory_only a
