-- What is told of a file of lemmas or of flows: the list that its bytes spell, or why they spell none, or the
-- second use of a name.
use Rattle.std.specs.Prelude.{◌≡◌, ℕ, List, [], ◌∷◌, ◌++◌, map, Option, None, Some, Result, Ok, Err, if◌then◌else◌}
use Rattle.std.specs.List.{list_any}
use Rattle.std.specs.Str.{bytes_eq}
use Rattle.grammar_core.specs.Spelling.{Room, Any, Limit}
use Rattle.murphi_ast.specs.Spelling as bytes
use Rattle.murphi_ast.specs.Spelling.{FaultsFirst}
use Rattle.murphi_ast.specs.declared.token.Token.{Token}
use Rattle.murphi_ast.specs.declared.token.Span.{Span}
use Rattle.murphi_ast.specs.declared.token.Fault.TheVariants as fault
use Rattle.murphi_ast.specs.declared.expr.Named.{Named}
use Rattle.murphi_ast.specs.declared.job.Lemma.{Lemma}
use Rattle.murphi_ast.specs.declared.job.Flow.{Flow}
use Rattle.murphi_expressions.specs.Expression.{greatest_nesting, first_refused}
use Rattle.job_files.specs.declared.refusal.JobRefusal.{JobRefusal}
use Rattle.job_files.specs.declared.refusal.JobRefusal.TheVariants as refusal
use Rattle.job_files.specs.Files.{SpellsLemmas, BeginsLemmas, SpellsFlows, BeginsFlows}

-- reading stops at the token that stands here: the tokens before it begin the file, and with it they do so no
-- longer, however many nestings may be open
pub record StopsWrong (begins : Room → List Token → Type 0) (ts : List Token) (at : Span) : Type 0 where
  pub front : List Token
  pub token : Token
  pub behind : List Token
  pub are : ts ≡ front ++ token ∷ behind
  pub place : at ≡ token.at
  pub begun : begins (Limit greatest_nesting) front
  pub ends : begins Any (front ++ token ∷ []) → ⊥

-- reading stops at the token that stands here: the tokens before it begin the file, and with it they do so only
-- where more nestings may be open
pub record StopsDeep (begins : Room → List Token → Type 0) (ts : List Token) (at : Span) : Type 0 where
  pub front : List Token
  pub token : Token
  pub behind : List Token
  pub are : ts ≡ front ++ token ∷ behind
  pub place : at ≡ token.at
  pub begun : begins (Limit greatest_nesting) front
  pub deeper : begins Any (front ++ token ∷ [])
  pub ends : begins (Limit greatest_nesting) (front ++ token ∷ []) → ⊥

-- the place of the first name that is one of those before it
abbrev pub second_among : List (List ℕ) → List Named → Option Span
second_among seen [] = None
second_among seen (x ∷ xs) =
    if list_any (bytes_eq x.name) seen then Some x.at else second_among (seen ++ x.name ∷ []) xs

abbrev pub second_use : List Named → Option Span
second_use names = second_among [] names

-- what is told of the tokens of a file, where it is known what spells it and what begins it, and what its items
-- are named
abbrev pub TellsFile : {V : Type 0} → (Room → List Token → List V → Type 0) → (Room → List Token → Type 0) → (V → Named) →
    List Token → Result (List V) JobRefusal → Type 0
TellsFile spells begins name ts (Ok items) =
    (first_refused ts ≡ None) × spells (Limit greatest_nesting) ts items × (second_use (map name items) ≡ None)
TellsFile spells begins name ts (Err (refusal.E10 at)) = first_refused ts ≡ Some at
TellsFile spells begins name ts (Err (refusal.E04 at)) = (first_refused ts ≡ None) × StopsWrong begins ts at
TellsFile spells begins name ts (Err (refusal.E15 at)) = (first_refused ts ≡ None) × StopsDeep begins ts at
TellsFile {V} spells begins name ts (Err (refusal.E06 at)) =
    (items : List V) × (first_refused ts ≡ None) × spells (Limit greatest_nesting) ts items × (second_use (map name items) ≡ Some at)
TellsFile spells begins name ts (Err (refusal.E02 at)) = ⊥
TellsFile spells begins name ts (Err (refusal.E03 at)) = ⊥
TellsFile spells begins name ts (Err refusal.Memory) = Unit {0}

-- the same of its bytes: first what is no token
abbrev pub TellsBytes : {V : Type 0} → (List Token → Result (List V) JobRefusal → Type 0) → List ℕ → Result (List V) JobRefusal → Type 0
TellsBytes tells bs (Err (refusal.E02 at)) = FaultsFirst bs (fault.E02 at)
TellsBytes tells bs (Err (refusal.E03 at)) = FaultsFirst bs (fault.E03 at)
TellsBytes tells bs (Err refusal.Memory) = Unit {0}
TellsBytes tells bs (Err (refusal.E04 at)) = (ts : List Token) × bytes.Spells bs ts × tells ts (Err (refusal.E04 at))
TellsBytes tells bs (Err (refusal.E06 at)) = (ts : List Token) × bytes.Spells bs ts × tells ts (Err (refusal.E06 at))
TellsBytes tells bs (Err (refusal.E10 at)) = (ts : List Token) × bytes.Spells bs ts × tells ts (Err (refusal.E10 at))
TellsBytes tells bs (Err (refusal.E15 at)) = (ts : List Token) × bytes.Spells bs ts × tells ts (Err (refusal.E15 at))
TellsBytes tells bs (Ok items) = (ts : List Token) × bytes.Spells bs ts × tells ts (Ok items)

abbrev pub lemma_name : Lemma → Named
lemma_name l = l.name

abbrev pub flow_name : Flow → Named
flow_name f = f.name

-- what is told of the tokens and of the bytes of a file of lemmas, and of one of flows
abbrev pub TellsLemmas : List Token → Result (List Lemma) JobRefusal → Type 0
TellsLemmas ts answer = TellsFile SpellsLemmas BeginsLemmas lemma_name ts answer

abbrev pub TellsFlows : List Token → Result (List Flow) JobRefusal → Type 0
TellsFlows ts answer = TellsFile SpellsFlows BeginsFlows flow_name ts answer

-- what may be answered is answered, unless memory runs out
abbrev pub IsAnswered : {A : Type 0} → Result A JobRefusal → Result A JobRefusal → Type 0
IsAnswered result (Err refusal.Memory) = Unit {0}
IsAnswered (Err refusal.Memory) (Ok x) = Unit {0}
IsAnswered (Err refusal.Memory) (Err e) = Unit {0}
IsAnswered result answer = result ≡ answer
