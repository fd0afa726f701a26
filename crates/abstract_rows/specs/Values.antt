-- What terms may be: a pointer to a node and a flag; Other against Other; reads at indices that may be Other.
use Rattle.std.specs.Prelude.{◌≡◌, ℕ, Bool, true, false, List, [], ◌∷◌}
use Rattle.term_core.specs.declared.value.Value.TheVariants as value
use Rattle.term_core.specs.declared.value.Sort.TheVariants as sort
use Rattle.term_core.specs.declared.term.Term as t
use Rattle.term_core.specs.declared.term.Term.{Term}
use Rattle.term_core.specs.declared.machine.CellFamily.{CellFamily}
use Rattle.other_abstract.specs.declared.node.AbsNode.{AbsNode}
use Rattle.other_abstract.specs.declared.node.AbsNode.TheVariants.{Kept, Fired, Other}
use Rattle.other_abstract.specs.declared.value.AbsValue.{AbsValue}
use Rattle.other_abstract.specs.declared.value.AbsValue.TheVariants.{Undefined, Truth, Node}
use Rattle.other_abstract.specs.Windows.{Window, same_value}
use Rattle.other_abstract.specs.May.{AbsCells}
use Rattle.other_abstract.specs.Tests.{may, passes}
use Rattle.abstract_rows.specs.Terms.{cell, family}

-- a pointer to a node, and a flag
abbrev pub only : List CellFamily
only = family sort.Node 0 ∷ family sort.Truth 0 ∷ []

-- one kept node, and so many fired ones
abbrev pub with_fired : List CellFamily → ℕ → Window
with_fired families fired = record { kept = 1; fired = fired; families = families }

-- every node is the one that is pointed to
abbrev pub alone : Term
alone = t.Quantified true (t.Same (t.Var 0) (cell 0))

abbrev pub pointing : AbsNode → AbsCells
pointing n = Node n ∷ Truth true ∷ []

-- With one fired node in the window the guard may be false and not true, whether the pointer is Other or the kept
-- node, since no node of the window is Other, and the fired node is not the kept one. In the window of the kept
-- node alone it may be true where the pointer is that node, and because of Other it may be false too; where the
-- pointer is Other it may be false and not true.
abbrev pub OnlyIsAsWorked : Type 0
OnlyIsAsWorked =
    (may (with_fired only 1) (pointing Other) [] alone (passes true) ≡ false)
    × (may (with_fired only 1) (pointing Other) [] alone (passes false) ≡ true)
    × (may (with_fired only 1) (pointing (Kept 1)) [] alone (passes true) ≡ false)
    × (may (with_fired only 1) (pointing (Kept 1)) [] alone (passes false) ≡ true)
    × (may (with_fired only 0) (pointing (Kept 1)) [] alone (passes true) ≡ true)
    × (may (with_fired only 0) (pointing (Kept 1)) [] alone (passes false) ≡ true)
    × (may (with_fired only 0) (pointing Other) [] alone (passes true) ≡ false)
    × (may (with_fired only 0) (pointing Other) [] alone (passes false) ≡ true)

-- Other against Other may be one node or two; Other is none of the window's nodes, and these are all different.
abbrev pub same_two : AbsNode → AbsNode → Bool → Bool
same_two a b wanted = may (with_fired only 1) (pointing Other) (a ∷ b ∷ []) (t.Same (t.Var 0) (t.Var 1)) (passes wanted)

abbrev pub OthersAreAsWorked : Type 0
OthersAreAsWorked =
    (same_two Other Other true ≡ true)
    × (same_two Other Other false ≡ true)
    × (same_two Other (Kept 1) true ≡ false)
    × (same_two (Fired 1) Other true ≡ false)
    × (same_two (Kept 1) (Fired 1) true ≡ false)
    × (same_two (Kept 1) (Kept 1) true ≡ true)
    × (same_two (Kept 1) (Kept 1) false ≡ false)

-- truth values at pairs of nodes
abbrev pub pairs : List CellFamily
pairs = family sort.Truth 2 ∷ []

-- with one kept and one fired node, only the cell of the kept and the fired one is true
abbrev pub one_pair : AbsCells
one_pair = Truth false ∷ Truth true ∷ Truth false ∷ Truth false ∷ []

abbrev pub read_at : Term → Term → AbsValue → Bool
read_at a b x = may (with_fired pairs 1) one_pair (Kept 1 ∷ Fired 1 ∷ Other ∷ []) (t.Read 0 (a ∷ b ∷ [])) (same_value x)

-- A cell of the window has its value. A cell at an index that is Other may be anything of its sort, and undefined.
-- A cell at an undefined index is undefined, also where the other index is Other.
abbrev pub ReadsAreAsWorked : Type 0
ReadsAreAsWorked =
    (read_at (t.Var 0) (t.Var 1) (Truth true) ≡ true)
    × (read_at (t.Var 0) (t.Var 1) (Truth false) ≡ false)
    × (read_at (t.Var 1) (t.Var 0) (Truth true) ≡ false)
    × (read_at (t.Var 0) (t.Var 2) (Truth true) ≡ true)
    × (read_at (t.Var 0) (t.Var 2) (Truth false) ≡ true)
    × (read_at (t.Var 0) (t.Var 2) Undefined ≡ true)
    × (read_at (t.Var 0) (t.Var 2) (Node Other) ≡ false)
    × (read_at (t.Known value.Undefined) (t.Var 2) Undefined ≡ true)
    × (read_at (t.Known value.Undefined) (t.Var 2) (Truth true) ≡ false)
