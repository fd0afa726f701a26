-- What spells a file of lemmas or of flows, and what begins one: items, each behind its word, and the end of the
-- text. `lemma`, `flow` and `flows` are names to the grammar, and words only where an item begins. They are
-- written in small letters.
use Rattle.std.specs.Prelude.{◌≡◌, ℕ, List, [], ◌∷◌, ◌++◌, codes}
use Rattle.grammar_core.specs.Spelling.{Room, Spells, Begins}
use Rattle.murphi_ast.specs.declared.token.Token.{Token}
use Rattle.murphi_ast.specs.declared.job.Lemma.{Lemma}
use Rattle.murphi_ast.specs.declared.job.Flow.{Flow}
use Rattle.murphi_grammar.specs.declared.symbol.Symbol.TheVariants as t
use Rattle.murphi_grammar.specs.Symbols.{symbol_of}
use Rattle.murphi_grammar.specs.Names as n
use Rattle.murphi_grammar.specs.Names.{Name}
use Rattle.murphi_grammar.specs.Parts.{form}
use Rattle.murphi_grammar.specs.Values.{Value}
use Rattle.murphi_grammar.specs.Grammar.{murphi}

-- a token is this word
abbrev pub IsWord : List ℕ → Token → Type 0
IsWord word x = (symbol_of x ≡ t.Name) × (x.text ≡ word)

-- a token is the number 1
abbrev pub IsOne : Token → Type 0
IsOne x = (symbol_of x ≡ t.Number) × (x.number ≡ 1)

-- a text of items is spelled by the end of the text, or by the word of an item, behind it what spells the item,
-- and behind that what spells a text of items
pub data SpellsText (word : List ℕ) (entry : Name) (r : Room) : List Token → List (Value entry) → Type 0 where
  ended : (x : Token) → symbol_of x ≡ t.EndOfText → SpellsText word entry r (x ∷ []) []
  more : {all us vs : List Token} {v : Value entry} {items : List (Value entry)} (x : Token) → IsWord word x →
      Spells murphi r (form entry) us v → SpellsText word entry r vs items → all ≡ x ∷ (us ++ vs) →
      SpellsText word entry r all (v ∷ items)

-- no token begins a text of items, and so does its end; and so does the word of an item with what begins the item
-- behind it, or with what spells the item and behind that what begins a text of items
pub data BeginsText (word : List ℕ) (entry : Name) (r : Room) : List Token → Type 0 where
  nothing : BeginsText word entry r []
  ended : (x : Token) → symbol_of x ≡ t.EndOfText → BeginsText word entry r (x ∷ [])
  part : {us : List Token} (x : Token) → IsWord word x → Begins murphi r (form entry) us →
      BeginsText word entry r (x ∷ us)
  more : {all us vs : List Token} {v : Value entry} (x : Token) → IsWord word x →
      Spells murphi r (form entry) us v → BeginsText word entry r vs → all ≡ x ∷ (us ++ vs) → BeginsText word entry r all

-- a file of lemmas: `{ lemma name : expr ; }`
abbrev pub lemma_word : List ℕ
lemma_word = codes "lemma"

abbrev pub SpellsLemmas : Room → List Token → List Lemma → Type 0
SpellsLemmas r ts ls = SpellsText lemma_word n.LemmaItem r ts ls

abbrev pub BeginsLemmas : Room → List Token → Type 0
BeginsLemmas r ts = BeginsText lemma_word n.LemmaItem r ts

-- a file of flows: nothing, or `flows 1 ; { flow name : event , event { , event } ; }`
abbrev pub flow_word : List ℕ
flow_word = codes "flow"

abbrev pub flows_word : List ℕ
flows_word = codes "flows"

pub data SpellsFlows (r : Room) : List Token → List Flow → Type 0 where
  nothing : (x : Token) → symbol_of x ≡ t.EndOfText → SpellsFlows r (x ∷ []) []
  version : {us : List Token} {fs : List Flow} (x y z : Token) → IsWord flows_word x → IsOne y →
      symbol_of z ≡ t.Semicolon → SpellsText flow_word n.FlowItem r us fs → SpellsFlows r (x ∷ y ∷ z ∷ us) fs

pub data BeginsFlows (r : Room) : List Token → Type 0 where
  nothing : BeginsFlows r []
  ended : (x : Token) → symbol_of x ≡ t.EndOfText → BeginsFlows r (x ∷ [])
  word : (x : Token) → IsWord flows_word x → BeginsFlows r (x ∷ [])
  number : (x y : Token) → IsWord flows_word x → IsOne y → BeginsFlows r (x ∷ y ∷ [])
  version : {us : List Token} (x y z : Token) → IsWord flows_word x → IsOne y →
      symbol_of z ≡ t.Semicolon → BeginsText flow_word n.FlowItem r us → BeginsFlows r (x ∷ y ∷ z ∷ us)
