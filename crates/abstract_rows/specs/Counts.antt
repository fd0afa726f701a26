-- How many patterns and cells there are, and when a machine is refused.
use Rattle.std.specs.Prelude.{◌≡◌, codes, ℕ, true, List, [], ◌∷◌, length, Some, None}
use Rattle.term_core.specs.declared.value.Value.{Value}
use Rattle.term_core.specs.declared.value.Value.TheVariants as value
use Rattle.term_core.specs.declared.value.Sort.TheVariants as sort
use Rattle.term_core.specs.declared.machine.CellFamily.{CellFamily}
use Rattle.lemma_strengthen.specs.declared.formula.FormulaKind.TheVariants.{Invariant}
use Rattle.other_abstract.specs.declared.node.AbsNode.TheVariants.{Kept, Fired}
use Rattle.other_abstract.specs.declared.making.MakeStop.TheVariants.{Prefix}
use Rattle.other_abstract.specs.Patterns.{patterns_of}
use Rattle.other_abstract.specs.Making.{cell_count, counted, refusal}
use Rattle.abstract_rows.specs.Terms.{truth, family, rule}
use Rattle.abstract_rows.specs.Mutex.{lock, phi}

-- the patterns of a rule with these parameters
abbrev pub pattern_count : ℕ → List Value → ℕ
pattern_count m values = length (patterns_of m (rule [] values (truth true) []))

abbrev pub one_node : List Value
one_node = value.Node 1 ∷ []

abbrev pub two_nodes : List Value
two_nodes = value.Node 1 ∷ value.Truth true ∷ value.Node 2 ∷ []

abbrev pub three_nodes : List Value
three_nodes = value.Node 1 ∷ value.Node 2 ∷ value.Node 3 ∷ []

-- With one kept node and two parameters: both kept, one of them fired, both the same fired node, two fired nodes.
abbrev pub PatternsAreAsCounted : Type 0
PatternsAreAsCounted =
    (pattern_count 1 [] ≡ 1)
    × (pattern_count 1 one_node ≡ 2)
    × (pattern_count 1 two_nodes ≡ 5)
    × (pattern_count 1 three_nodes ≡ 15)
    × (pattern_count 2 [] ≡ 1)
    × (pattern_count 2 one_node ≡ 3)
    × (pattern_count 2 two_nodes ≡ 10)
    × (pattern_count 2 three_nodes ≡ 37)
    × (patterns_of 1 (rule [] two_nodes (truth true) [])
    ≡ (Kept 1 ∷ Kept 1 ∷ []) ∷ (Kept 1 ∷ Fired 1 ∷ []) ∷ (Fired 1 ∷ Kept 1 ∷ []) ∷ (Fired 1 ∷ Fired 1 ∷ []) ∷ (Fired 1 ∷ Fired 2 ∷ []) ∷ [])

-- German's protocol: the state and the data of each node's cache, command and data of its three channels, and two
-- sets; and for all nodes a flag, a command, a pointer and two data
abbrev pub german : List CellFamily
german =
    family (sort.Members 0 3) 1
    ∷ family (sort.Members 1 2) 1
    ∷ family (sort.Members 2 7) 1
    ∷ family (sort.Members 1 2) 1
    ∷ family (sort.Members 2 7) 1
    ∷ family (sort.Members 1 2) 1
    ∷ family (sort.Members 2 7) 1
    ∷ family (sort.Members 1 2) 1
    ∷ family sort.Truth 1
    ∷ family sort.Truth 1
    ∷ family sort.Truth 0
    ∷ family (sort.Members 2 7) 0
    ∷ family sort.Node 0
    ∷ family (sort.Members 1 2) 0
    ∷ family (sort.Members 1 2) 0
    ∷ []

-- Two kept nodes have 25 cells, and one fired node makes them 35.
abbrev pub CellsAreAsCounted : Type 0
CellsAreAsCounted =
    (counted (cell_count 2 german) ≡ 25)
    × (counted (cell_count 3 german) ≡ 35)

-- The lock with one kept node is refused for its invariant, of prefix 2; with two it is not.
abbrev pub RefusalsAreAsWorked : Type 0
RefusalsAreAsWorked =
    (refusal 1 lock phi ≡ Some (Prefix (Invariant (codes "Mutex")) 2 1))
    × (refusal 2 lock phi ≡ None)
