-- Which blocks the variables have that are in scope in the body of a rule or of a start state.
use Rattle.std.specs.Prelude.{◌≡◌, ℕ, zero, suc, ◌+◌, List, [], ◌∷◌, ◌++◌, None, length, replicate, slice_get}
use Rattle.term_core.specs.declared.value.Value.{Value}
use Rattle.term_core.specs.declared.value.Value.TheVariants.{Undefined}
use Rattle.murphi_typed.specs.declared.protocol.Variable.{Variable}
use Rattle.murphi_typed.specs.declared.protocol.Typed.{Typed}
use Rattle.murphi_typed.specs.Families.{Path}
use Rattle.murphi_typed.specs.Store.{Global, Local, Formal, Cells, blank}
use Rattle.murphi_run.specs.Layout.{size}
use Rattle.murphi_run.specs.Holding.{Block, Layout, Holds, IsLayout}

-- how many cells variables have together
abbrev pub sizes : ℕ → List Variable → ℕ
sizes N [] = 0
sizes N (v ∷ vs) = size N v.of + sizes N vs

-- the blocks of variables one behind the other, from this number on
abbrev pub blocks_from : ℕ → ℕ → List Variable → List Block
blocks_from N first [] = []
blocks_from N first (v ∷ vs) = record { first = first; of = v.of } ∷ blocks_from N (first + size N v.of) vs

-- the number of the first cell of each
abbrev pub firsts_from : ℕ → ℕ → List Variable → List ℕ
firsts_from N first [] = []
firsts_from N first (v ∷ vs) = first ∷ firsts_from N (first + size N v.of) vs

-- the variables of a body of a rule or of a start state: the globals, and behind them its locals
abbrev pub top_layout : ℕ → Typed → List Variable → Layout
top_layout N T locals (Global k) = slice_get (blocks_from N 0 T.globals) k
top_layout N T locals (Local zero k) = slice_get (blocks_from N (sizes N T.globals) locals) k
top_layout N T locals (Local (suc depth) k) = None
top_layout N T locals (Formal depth k) = None

-- their blocks have no cell in common
abbrev pub BlocksAreApart : Type 0
BlocksAreApart =
    (N : ℕ) (T : Typed) (locals : List Variable)
    → IsLayout N (top_layout N T locals) (sizes N T.globals + sizes N locals)

-- a list of undefined values holds the cells of a state with every cell undefined
abbrev pub BlanksAreHeld : Type 0
BlanksAreHeld =
    (N : ℕ) (T : Typed) (locals : List Variable)
    → Holds N (top_layout N T locals) (replicate (sizes N T.globals + sizes N locals) Undefined) blank

-- a list that holds the globals, with undefined values behind it, holds the cells at the entry of a body: the same
-- globals, and locals that are undefined
abbrev pub EntriesAreHeld : Type 0
EntriesAreHeld =
    (N : ℕ) (T : Typed) (locals : List Variable) (values : List Value) (cells : Cells)
    → length values ≡ sizes N T.globals → Holds N (top_layout N T []) values cells
    → ((k : ℕ) (path : Path) (at : List Value) → cells (Local zero k) path at ≡ Undefined)
    → Holds N (top_layout N T locals) (values ++ replicate (sizes N locals) Undefined) cells
