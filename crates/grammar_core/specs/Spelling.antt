-- What spells a form, and what begins it. Both go by cases on the form: whole lists of tokens, cut into
-- the parts that the form names. They count how many nestings are open.
use Rattle.std.specs.Prelude.{◌≡◌, ℕ, suc, List, [], ◌∷◌, ◌++◌}
use Rattle.std.proofs.Common.{inl, inr}
use Rattle.grammar_core.specs.Forms.{One, Empty, Seq, Choice, Many, Nest, Call, Grammar, FormOf, Tree}

-- how many nestings may still be opened: any number, or so many
pub data Room : Type 0 where
  Any : Room
  Limit : ℕ → Room

-- the room inside a nesting
pub data Inside : Room → Room → Type 0 where
  any_more : Inside Any Any
  one_less : {n : ℕ} → Inside (Limit (suc n)) (Limit n)

-- tokens spell a form and give this tree, within a room
pub data Spells (g : Grammar) : Room → (f : FormOf g) → List g.Token → Tree g f → Type 0 where
  -- a single token spells its own form
  token : {r : Room} {s : g.Symbol} (x : g.Token) → g.symbol x ≡ s → Spells g r (One s) (x ∷ []) x
  -- no token spells the empty form
  empty : {r : Room} → Spells g r Empty [] tt
  -- a sequence is spelled by what spells the first part, and behind it what spells the rest
  seq : {r : Room} {a b : FormOf g} {all vs ws : List g.Token} {x : Tree g a} {y : Tree g b} →
      Spells g r a vs x → Spells g r b ws y → all ≡ vs ++ ws → Spells g r (Seq a b) all (x, y)
  -- a choice is spelled by what spells either
  left : {r : Room} {a b : FormOf g} {us : List g.Token} {x : Tree g a} →
      Spells g r a us x → Spells g r (Choice a b) us (inl x)
  right : {r : Room} {a b : FormOf g} {us : List g.Token} {y : Tree g b} →
      Spells g r b us y → Spells g r (Choice a b) us (inr y)
  -- a repetition is spelled by no token, or by what spells one, and behind it what spells the others
  none : {r : Room} {a : FormOf g} → Spells g r (Many a) [] []
  more : {r : Room} {a : FormOf g} {all vs ws : List g.Token} {x : Tree g a} {xs : List (Tree g a)} →
      Spells g r a vs x → Spells g r (Many a) ws xs → all ≡ vs ++ ws → Spells g r (Many a) all (x ∷ xs)
  -- a nesting is spelled by its token, and behind it what spells the rest with one nesting less to open
  nest : {r q : Room} {s : g.Symbol} {a : FormOf g} {us : List g.Token} {y : Tree g a} (x : g.Token) →
      g.symbol x ≡ s → Inside r q → Spells g q a us y → Spells g r (Nest s a) (x ∷ us) (x, y)
  -- a named form is spelled by what spells its right side, and gives what is built of that
  call : {r : Room} {n : g.Name} {us : List g.Token} {t : Tree g (g.rule n)} {v : g.Value n} →
      Spells g r (g.rule n) us t → v ≡ g.build n t → Spells g r (Call n) us v

-- tokens begin a form within a room: they are the front of a list that may yet spell it
pub data Begins (g : Grammar) : Room → FormOf g → List g.Token → Type 0 where
  -- no token begins every form
  nothing : {r : Room} {f : FormOf g} → Begins g r f []
  -- a single token begins its own form
  token : {r : Room} {s : g.Symbol} (x : g.Token) → g.symbol x ≡ s → Begins g r (One s) (x ∷ [])
  -- what begins the first part begins a sequence
  first : {r : Room} {a b : FormOf g} {us : List g.Token} → Begins g r a us → Begins g r (Seq a b) us
  -- and so does what spells the first part, with what begins the rest behind it
  second : {r : Room} {a b : FormOf g} {all vs ws : List g.Token} {x : Tree g a} →
      Spells g r a vs x → Begins g r b ws → all ≡ vs ++ ws → Begins g r (Seq a b) all
  -- what begins either begins a choice
  left : {r : Room} {a b : FormOf g} {us : List g.Token} → Begins g r a us → Begins g r (Choice a b) us
  right : {r : Room} {a b : FormOf g} {us : List g.Token} → Begins g r b us → Begins g r (Choice a b) us
  -- what spells some of a repetition, with what begins one more behind it, begins the repetition
  some : {r : Room} {a : FormOf g} {all vs ws : List g.Token} {xs : List (Tree g a)} →
      Spells g r (Many a) vs xs → Begins g r a ws → all ≡ vs ++ ws → Begins g r (Many a) all
  -- the token of a nesting, with what begins the rest within the room inside
  nest : {r q : Room} {s : g.Symbol} {a : FormOf g} {us : List g.Token} (x : g.Token) →
      g.symbol x ≡ s → Inside r q → Begins g q a us → Begins g r (Nest s a) (x ∷ us)
  -- what begins its right side begins a named form
  call : {r : Room} {n : g.Name} {us : List g.Token} → Begins g r (g.rule n) us → Begins g r (Call n) us
