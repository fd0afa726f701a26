-- Reading as it goes, one token deciding at each choice: what the functions of a reader answer, step by
-- step. Mechanism: that this is reading is proved for every grammar that passes the test.
use Rattle.std.specs.Prelude.{◌≡◌, zero, true, false, List, [], ◌∷◌}
use Rattle.std.proofs.Common.{inl, inr}
use Rattle.grammar_core.specs.Forms.{One, Empty, Seq, Choice, Many, Nest, Call, Grammar, FormOf, Tree}
use Rattle.grammar_core.specs.Spelling.{Room, Limit, Inside}
use Rattle.grammar_core.specs.Reading.{Fault, Wrong, Deep, Reading, Got, Stop}
use Rattle.grammar_core.specs.Test.{Tables, head_in, firsts}

-- reading as it goes: one token decides at each choice
pub data Run {g : Grammar} (tab : Tables g) : Room → (f : FormOf g) → List g.Token → Reading (Tree g f) g.Token → Type 0 where
  token : {r : Room} {s : g.Symbol} {ts rest : List g.Token} {x : g.Token} → ts ≡ x ∷ rest → g.symbol x ≡ s →
      Run tab r (One s) ts (Got x rest)
  token_not : {r : Room} {s : g.Symbol} {ts : List g.Token} → head_in tab (tab.number s ∷ []) ts ≡ false →
      Run tab r (One s) ts (Stop Wrong ts)
  empty : {r : Room} {ts : List g.Token} → Run tab r Empty ts (Got tt ts)
  seq : {r : Room} {a b : FormOf g} {ts mid rest : List g.Token} {x : Tree g a} {y : Tree g b} →
      Run tab r a ts (Got x mid) → Run tab r b mid (Got y rest) → Run tab r (Seq a b) ts (Got (x, y) rest)
  seq_first : {r : Room} {a b : FormOf g} {k : Fault} {ts rest : List g.Token} → Run tab r a ts (Stop k rest) →
      Run tab r (Seq a b) ts (Stop k rest)
  seq_second : {r : Room} {a b : FormOf g} {k : Fault} {ts mid rest : List g.Token} {x : Tree g a} →
      Run tab r a ts (Got x mid) → Run tab r b mid (Stop k rest) → Run tab r (Seq a b) ts (Stop k rest)
  left : {r : Room} {a b : FormOf g} {ts rest : List g.Token} {x : Tree g a} →
      head_in tab (firsts tab a) ts ≡ true → Run tab r a ts (Got x rest) →
      Run tab r (Choice a b) ts (Got (inl x) rest)
  left_stop : {r : Room} {a b : FormOf g} {k : Fault} {ts rest : List g.Token} →
      head_in tab (firsts tab a) ts ≡ true → Run tab r a ts (Stop k rest) →
      Run tab r (Choice a b) ts (Stop k rest)
  right : {r : Room} {a b : FormOf g} {ts rest : List g.Token} {y : Tree g b} →
      head_in tab (firsts tab a) ts ≡ false → Run tab r b ts (Got y rest) →
      Run tab r (Choice a b) ts (Got (inr y) rest)
  right_stop : {r : Room} {a b : FormOf g} {k : Fault} {ts rest : List g.Token} →
      head_in tab (firsts tab a) ts ≡ false → Run tab r b ts (Stop k rest) →
      Run tab r (Choice a b) ts (Stop k rest)
  none : {r : Room} {a : FormOf g} {ts : List g.Token} → head_in tab (firsts tab a) ts ≡ false →
      Run tab r (Many a) ts (Got [] ts)
  more : {r : Room} {a : FormOf g} {ts mid rest : List g.Token} {x : Tree g a} {xs : List (Tree g a)} →
      Run tab r a ts (Got x mid) → Run tab r (Many a) mid (Got xs rest) →
      Run tab r (Many a) ts (Got (x ∷ xs) rest)
  more_stop : {r : Room} {a : FormOf g} {k : Fault} {ts rest : List g.Token} →
      head_in tab (firsts tab a) ts ≡ true → Run tab r a ts (Stop k rest) → Run tab r (Many a) ts (Stop k rest)
  more_behind : {r : Room} {a : FormOf g} {k : Fault} {ts mid rest : List g.Token} {x : Tree g a} →
      Run tab r a ts (Got x mid) → Run tab r (Many a) mid (Stop k rest) → Run tab r (Many a) ts (Stop k rest)
  nest : {r q : Room} {s : g.Symbol} {a : FormOf g} {ts mid rest : List g.Token} {x : g.Token} {y : Tree g a} →
      ts ≡ x ∷ mid → g.symbol x ≡ s → Inside r q → Run tab q a mid (Got y rest) →
      Run tab r (Nest s a) ts (Got (x, y) rest)
  nest_not : {r : Room} {s : g.Symbol} {a : FormOf g} {ts : List g.Token} →
      head_in tab (tab.number s ∷ []) ts ≡ false → Run tab r (Nest s a) ts (Stop Wrong ts)
  nest_full : {s : g.Symbol} {a : FormOf g} {ts mid : List g.Token} {x : g.Token} → ts ≡ x ∷ mid →
      g.symbol x ≡ s → Run tab (Limit zero) (Nest s a) ts (Stop Deep ts)
  nest_stop : {r q : Room} {s : g.Symbol} {a : FormOf g} {k : Fault} {ts mid rest : List g.Token} {x : g.Token} →
      ts ≡ x ∷ mid → g.symbol x ≡ s → Inside r q → Run tab q a mid (Stop k rest) →
      Run tab r (Nest s a) ts (Stop k rest)
  call : {r : Room} {n : g.Name} {ts rest : List g.Token} {t : Tree g (g.rule n)} {v : g.Value n} →
      v ≡ g.build n t → Run tab r (g.rule n) ts (Got t rest) → Run tab r (Call n) ts (Got v rest)
  call_stop : {r : Room} {n : g.Name} {k : Fault} {ts rest : List g.Token} →
      Run tab r (g.rule n) ts (Stop k rest) → Run tab r (Call n) ts (Stop k rest)
