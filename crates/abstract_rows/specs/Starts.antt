-- Starts: a pointer set to the parameter, a value that the cell cannot have, and pieces that may be false.
use Rattle.std.specs.Prelude.{◌≡◌, ℕ, Bool, true, false, pos, [], ◌∷◌}
use Rattle.std.specs.declared.alloc.Global.{Global}
use Rattle.term_core.specs.declared.value.Value.TheVariants as value
use Rattle.term_core.specs.declared.term.Term as t
use Rattle.term_core.specs.declared.term.Term.{Term}
use Rattle.term_core.specs.declared.machine.TermRule.{TermRule}
use Rattle.other_abstract.specs.declared.node.AbsNode.{AbsNode}
use Rattle.other_abstract.specs.declared.node.AbsNode.TheVariants.{Kept, Fired, Other}
use Rattle.other_abstract.specs.declared.value.AbsValue.TheVariants.{Undefined, Truth, Node}
use Rattle.other_abstract.specs.declared.machine.AbstractMachine.{AbstractMachine}
use Rattle.other_abstract.specs.May.{AbsCells}
use Rattle.other_abstract.specs.Stepping.{is_start, may_fault}
use Rattle.abstract_rows.specs.Terms.{truth, update}
use Rattle.abstract_rows.specs.Values.{only}

-- a start of one node parameter, with these pieces
abbrev pub start : Term → ℕ → Term → TermRule
start flag binders piece = record {
  title = [];
  values = value.Node 1 ∷ [];
  params = [];
  prefix = 2;
  guard = truth true;
  ok = record { binders = 0; body = truth true } ∷ record { binders = binders; body = piece } ∷ [];
  updates = update 0 (t.Var 0) ∷ update 1 flag ∷ [];
}

abbrev pub kept : ℕ → Global → AbstractMachine
kept m alloc = record { machine = record { kinds = []; families = only; starts = []; rules = [] }; formulas = []; kept = m; alloc = alloc }

abbrev pub leaves : Global → Term → AbsNode → AbsCells → Bool
leaves alloc flag n s = is_start (kept 1 alloc) (start flag 0 (truth true)) (n ∷ []) s

-- The pointer is the parameter, and a fired node is read as Other. A number is no truth value, so the flag is
-- undefined where it is written. A flag of an undefined cell is what that cell is before the start: undefined.
abbrev pub StartsAreAsWorked : Type 0
StartsAreAsWorked = (alloc : Global) →
    (leaves alloc (truth true) (Kept 1) (Node (Kept 1) ∷ Truth true ∷ []) ≡ true)
    × (leaves alloc (truth true) (Kept 1) (Node Other ∷ Truth true ∷ []) ≡ false)
    × (leaves alloc (truth true) (Fired 1) (Node Other ∷ Truth true ∷ []) ≡ true)
    × (leaves alloc (truth true) (Fired 1) (Node (Kept 1) ∷ Truth true ∷ []) ≡ false)
    × (leaves alloc (truth true) (Kept 1) (Node (Kept 1) ∷ Truth false ∷ []) ≡ false)
    × (leaves alloc (t.Known (value.Number (pos 1))) (Kept 1) (Node (Kept 1) ∷ Undefined ∷ []) ≡ true)
    × (leaves alloc (t.Known (value.Number (pos 1))) (Kept 1) (Node (Kept 1) ∷ Truth true ∷ []) ≡ false)
    × (leaves alloc (t.Read 1 []) (Kept 1) (Node (Kept 1) ∷ Undefined ∷ []) ≡ true)

-- the piece says that the parameter is the bound node
abbrev pub faults : ℕ → Global → AbsNode → Bool
faults m alloc n = may_fault (kept m alloc) (start (truth true) 1 (t.Same (t.Var 0) (t.Var 1))) (n ∷ [])

-- With one kept node the piece is true where that is the parameter, and false where a fired node is; with two kept
-- nodes it is false for the other one. Of the pieces one that may be false is enough.
abbrev pub FaultsAreAsWorked : Type 0
FaultsAreAsWorked = (alloc : Global) →
    (faults 1 alloc (Kept 1) ≡ false)
    × (faults 1 alloc (Fired 1) ≡ true)
    × (faults 2 alloc (Kept 1) ≡ true)
