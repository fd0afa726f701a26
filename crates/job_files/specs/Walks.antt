-- Reading a file as it goes, word by word and item by item: what the functions of the reader answer. Mechanism:
-- that this is what the file spells, or where it stops, is proved.
use Rattle.std.specs.Prelude.{◌≡◌, ℕ, ◌≤◌, List, [], ◌∷◌, drop, length, Result, Ok, Err}
use Rattle.grammar_core.specs.Forms.{Call}
use Rattle.grammar_core.specs.Spelling.{Limit}
use Rattle.grammar_core.specs.Reading as read
use Rattle.grammar_core.specs.Reading.{Fault, Reading, Got}
use Rattle.grammar_core.specs.Walk.{Run}
use Rattle.murphi_ast.specs.declared.token.Token.{Token}
use Rattle.murphi_ast.specs.declared.job.Flow.{Flow}
use Rattle.murphi_grammar.specs.declared.symbol.Symbol.{Symbol}
use Rattle.murphi_grammar.specs.declared.symbol.Symbol.TheVariants as t
use Rattle.murphi_grammar.specs.Symbols.{symbol_of}
use Rattle.murphi_grammar.specs.Names as n
use Rattle.murphi_grammar.specs.Names.{Name}
use Rattle.murphi_grammar.specs.Values.{Value}
use Rattle.murphi_grammar.specs.Tables.{tables}
use Rattle.murphi_expressions.specs.Says.{with_front}
use Rattle.murphi_expressions.specs.declared.step.Stop.{Stop}
use Rattle.murphi_expressions.specs.declared.step.Stop.TheVariants.{Wrong, Deep, Memory}
use Rattle.job_files.specs.Files.{IsWord, IsOne, flow_word, flows_word}

-- there is a next token, and it is so; or it is not so, or there is none
abbrev pub IsNext : (Token → Type 0) → List Token → Type 0
IsNext So ts = (x : Token) × (rest : List Token) × (ts ≡ x ∷ rest) × So x

abbrev pub IsNotNext : (Token → Type 0) → List Token → Type 0
IsNotNext So ts = (x : Token) (rest : List Token) → ts ≡ x ∷ rest → So x → ⊥

-- a token has this symbol
abbrev pub Has : Symbol → Token → Type 0
Has s x = symbol_of x ≡ s

-- reading a text of items
pub data Walk (word : List ℕ) (entry : Name) (k : ℕ) : List Token → Reading (List (Value entry)) Token → Type 0 where
  ended : {ts rest : List Token} {x : Token} → ts ≡ x ∷ rest → symbol_of x ≡ t.EndOfText → Walk word entry k ts (Got [] rest)
  other : {ts : List Token} → IsNotNext (IsWord word) ts → IsNotNext (Has t.EndOfText) ts →
      Walk word entry k ts (read.Stop read.Wrong ts)
  more : {ts mid left rest : List Token} {x : Token} {v : Value entry} {vs : List (Value entry)} → ts ≡ x ∷ mid →
      IsWord word x → Run tables (Limit k) (Call entry) mid (Got v left) → Walk word entry k left (Got vs rest) →
      Walk word entry k ts (Got (v ∷ vs) rest)
  stop : {ts mid rest : List Token} {x : Token} {why : Fault} → ts ≡ x ∷ mid → IsWord word x →
      Run tables (Limit k) (Call entry) mid (read.Stop why rest) → Walk word entry k ts (read.Stop why rest)
  behind : {ts mid left rest : List Token} {x : Token} {v : Value entry} {why : Fault} → ts ≡ x ∷ mid →
      IsWord word x → Run tables (Limit k) (Call entry) mid (Got v left) →
      Walk word entry k left (read.Stop why rest) → Walk word entry k ts (read.Stop why rest)

-- reading a file of flows
pub data FlowsWalk (k : ℕ) : List Token → Reading (List Flow) Token → Type 0 where
  nothing : {ts rest : List Token} {x : Token} → ts ≡ x ∷ rest → symbol_of x ≡ t.EndOfText → FlowsWalk k ts (Got [] rest)
  no_word : {ts : List Token} → IsNotNext (IsWord flows_word) ts → IsNotNext (Has t.EndOfText) ts →
      FlowsWalk k ts (read.Stop read.Wrong ts)
  no_number : {ts mid : List Token} {x : Token} → ts ≡ x ∷ mid → IsWord flows_word x → IsNotNext IsOne mid →
      FlowsWalk k ts (read.Stop read.Wrong mid)
  no_sign : {ts mid : List Token} {x y : Token} → ts ≡ x ∷ y ∷ mid → IsWord flows_word x → IsOne y →
      IsNotNext (Has t.Semicolon) mid → FlowsWalk k ts (read.Stop read.Wrong mid)
  version : {ts mid rest : List Token} {x y z : Token} {fs : List Flow} → ts ≡ x ∷ y ∷ z ∷ mid →
      IsWord flows_word x → IsOne y → symbol_of z ≡ t.Semicolon →
      Walk flow_word n.FlowItem k mid (Got fs rest) → FlowsWalk k ts (Got fs rest)
  stop : {ts mid rest : List Token} {x y z : Token} {why : Fault} → ts ≡ x ∷ y ∷ z ∷ mid →
      IsWord flows_word x → IsOne y → symbol_of z ≡ t.Semicolon →
      Walk flow_word n.FlowItem k mid (read.Stop why rest) → FlowsWalk k ts (read.Stop why rest)

-- what is answered of a text of items, from an index on
unfoldable pub SaysText : (word : List ℕ) (entry : Name) → ℕ → List Token → ℕ → Result (List (Value entry) × ℕ) Stop → Type 0
SaysText word entry k ts at (Ok (vs, next)) = Walk word entry k (drop at ts) (Got vs (drop next ts))
SaysText word entry k ts at (Err (Wrong j)) = Walk word entry k (drop at ts) (read.Stop read.Wrong (drop j ts))
SaysText word entry k ts at (Err (Deep j)) = Walk word entry k (drop at ts) (read.Stop read.Deep (drop j ts))
SaysText word entry k ts at (Err Memory) = Unit {0}

-- these items were read so far
unfoldable pub TextSoFar : (word : List ℕ) (entry : Name) → ℕ → List Token → ℕ → ℕ → List (Value entry) → Type 0
TextSoFar word entry k ts from at front =
    (r : Result (List (Value entry) × ℕ) Stop) → SaysText word entry k ts at r → SaysText word entry k ts from (with_front front r)

-- what is answered of `flows 1 ;` at the front of the tokens
unfoldable pub SaysVersion : List Token → Result ℕ Stop → Type 0
SaysVersion ts (Ok next) =
    (x y z : Token) × (ts ≡ x ∷ y ∷ z ∷ drop next ts) × IsWord flows_word x × IsOne y × (symbol_of z ≡ t.Semicolon)
SaysVersion ts (Err (Wrong j)) =
    (k : ℕ) → IsNotNext (Has t.EndOfText) ts → FlowsWalk k ts (read.Stop read.Wrong (drop j ts))
SaysVersion ts (Err (Deep j)) = ⊥
SaysVersion ts (Err Memory) = ⊥

-- what is answered of a file of flows
unfoldable pub SaysFlows : ℕ → List Token → Result (List Flow × ℕ) Stop → Type 0
SaysFlows k ts (Ok (fs, next)) = FlowsWalk k ts (Got fs (drop next ts))
SaysFlows k ts (Err (Wrong j)) = FlowsWalk k ts (read.Stop read.Wrong (drop j ts))
SaysFlows k ts (Err (Deep j)) = FlowsWalk k ts (read.Stop read.Deep (drop j ts))
SaysFlows k ts (Err Memory) = Unit {0}

-- the index behind `flows 1 ;` is within the tokens
abbrev pub WithinVersion : List Token → Result ℕ Stop → Type 0
WithinVersion ts (Ok next) = next ≤ length ts
WithinVersion ts (Err s) = Unit {0}
