-- The abstract machine: patterns, starts, steps, violations and runs.
use Rattle.std.specs.Prelude.{◌≡◌, ◌≤◌, ℕ, suc, max, Bool, true, false, ◌&&◌, pos, List, [], ◌∷◌, ◌++◌, map, length, Option, None, Some, if◌then◌else◌, slice_get, IsTrue}
use Rattle.std.specs.List.{list_all}
use Rattle.std.specs.Option.{option_map_or}
use Rattle.term_core.specs.declared.term.Term.{Term}
use Rattle.term_core.specs.declared.machine.CellFamily.{CellFamily}
use Rattle.term_core.specs.declared.machine.Piece.{Piece}
use Rattle.term_core.specs.declared.machine.TermRule.{TermRule}
use Rattle.term_core.specs.Nodes.{is_node}
use Rattle.term_core.specs.Variables.{fits}
use Rattle.term_core.specs.Cells.{State, cells, is_cell, cell_value}
use Rattle.term_core.specs.Firing.{node_parameters, update_for}
use Rattle.other_abstract.specs.declared.node.AbsNode.{AbsNode}
use Rattle.other_abstract.specs.declared.node.AbsNode.TheVariants.{Kept, Fired, Other}
use Rattle.other_abstract.specs.declared.value.AbsValue.{AbsValue}
use Rattle.other_abstract.specs.declared.value.AbsValue.TheVariants.{Undefined, Number, Node}
use Rattle.other_abstract.specs.Windows.{Window, size, is_in_window, may_have}
use Rattle.term_core.specs.Cells.{table, table_value}
use Rattle.other_abstract.specs.May.{AbsCells, value_at, May, MayBe}
use Rattle.lemma_strengthen.specs.Opening.{HoldsForAll}
use Rattle.lemma_strengthen.specs.declared.formula.Formula.{Formula}
use Rattle.other_abstract.specs.declared.machine.AbstractMachine.{AbstractMachine}

-- the window of so many fired nodes, and the kept nodes alone
abbrev pub window : AbstractMachine → ℕ → Window
window M fired = record { kept = M.kept; fired = fired; families = M.machine.families }

-- whether each node of a pattern is kept or fired, and the fired ones are numbered in the order of
-- their first use, where so many have been used
abbrev pub is_numbered : ℕ → ℕ → List AbsNode → Bool
is_numbered m fired [] = true
is_numbered m fired (Kept k ∷ ns) = is_node m k && is_numbered m fired ns
is_numbered m fired (Fired k ∷ ns) = is_node (suc fired) k && is_numbered m (max fired k) ns
is_numbered m fired (Other ∷ ns) = false

-- how many fired nodes are used
abbrev pub fired_after : ℕ → List AbsNode → ℕ
fired_after fired [] = fired
fired_after fired (Fired k ∷ ns) = fired_after (max fired k) ns
fired_after fired (Kept k ∷ ns) = fired_after fired ns
fired_after fired (Other ∷ ns) = fired_after fired ns

abbrev pub fired_of : List AbsNode → ℕ
fired_of p = fired_after 0 p

pub record IsPattern (m : ℕ) (r : TermRule) (p : List AbsNode) : Type 0 where
  pub count : length p ≡ node_parameters r
  pub numbered : IsTrue (is_numbered m 0 p)

-- a state of a window has a value for each cell, and each is one that the cell may have
pub record FitsWindow (W : Window) (w : AbsCells) : Type 0 where
  pub count : length w ≡ length (cells (size W) W.families)
  pub values : (f : ℕ) (at : List ℕ) → IsTrue (is_cell (size W) W.families f at)
      → IsTrue (may_have W f (table_value (size W) W.families Undefined w f at))

-- a fired node is read as Other
abbrev pub read_kept : AbsValue → AbsValue
read_kept (Node (Fired k)) = Node Other
read_kept x = x

-- the kept part of a state of a window
abbrev pub kept_part : Window → AbsCells → AbsCells
kept_part W w = table W.kept W.families (λ f at. read_kept (value_at W w f (map Kept at)))

-- the body may be true for all nodes of the window
abbrev pub MayHold : Window → AbsCells → Formula → Type 0
MayHold W w f = (ns : List AbsNode) → length ns ≡ f.prefix → IsTrue (list_all (is_in_window W) ns)
    → MayBe true (May W w ns f.body)

-- what a kept cell may become
abbrev pub MayBecome : Window → AbsCells → List AbsNode → Option Term → ℕ → List ℕ → AbsValue → Type 0
MayBecome W w p (Some body) f at y = (x : AbsValue) × May W w (p ++ map Kept at) body x × (y ≡ read_kept x)
MayBecome W w p None f at y = y ≡ read_kept (value_at W w f (map Kept at))

-- firing a rule may lead from one kept state to the other, by this wide state
pub record IsAbsStep (M : AbstractMachine) (s : AbsCells) (r : TermRule) (p : List AbsNode) (w t : AbsCells) :
    Type 0 where
  pub pattern : IsPattern M.kept r p
  pub wide : FitsWindow (window M (fired_of p)) w
  pub next : FitsWindow (window M 0) t
  pub before : s ≡ kept_part (window M (fired_of p)) w
  pub assumed : (k : ℕ) (f : Formula) → slice_get M.formulas k ≡ Some f → MayHold (window M (fired_of p)) w f
  pub guard : MayBe true (May (window M (fired_of p)) w p r.guard)
  pub becomes : (f : ℕ) (at : List ℕ) → IsTrue (is_cell M.kept M.machine.families f at)
      → MayBecome (window M (fired_of p)) w p (update_for r.updates f) f at (table_value M.kept
      M.machine.families Undefined t f at)

-- the state of a window before anything is written
abbrev pub blank_of : List CellFamily → ℕ → AbsValue
blank_of families f = option_map_or (λ (family : CellFamily). if family.undefined then Undefined else Number
    (pos 0)) (slice_get families f) Undefined

abbrev pub blank : Window → AbsCells
blank W = table (size W) W.families (λ f at. blank_of W.families f)

-- a value that a cell cannot have counts as undefined
abbrev pub settled : Window → ℕ → AbsValue → AbsValue
settled W f x = if may_have W f x then x else Undefined

abbrev pub MayStart : Window → Window → List AbsNode → Option Term → ℕ → List ℕ → AbsValue → Type 0
MayStart K W p (Some body) f at y = (x : AbsValue) × May W (blank W) (p ++ map Kept at) body x
    × (y ≡ settled K f (read_kept x))
MayStart K W p None f at y = y ≡ blank_of W.families f

pub record IsAbsStart (M : AbstractMachine) (r : TermRule) (p : List AbsNode) (t : AbsCells) : Type 0 where
  pub pattern : IsPattern M.kept r p
  pub next : FitsWindow (window M 0) t
  pub becomes : (f : ℕ) (at : List ℕ) → IsTrue (is_cell M.kept M.machine.families f at)
      → MayStart (window M 0) (window M (fired_of p)) p (update_for r.updates f) f at (table_value M.kept
      M.machine.families Undefined t f at)

-- a kept state violates a formula: its body may be false for some kept nodes
pub record Violates (M : AbstractMachine) (s : AbsCells) (f : Formula) : Type 0 where
  pub nodes : List AbsNode
  pub count : length nodes ≡ f.prefix
  pub are : IsTrue (list_all (is_in_window (window M 0)) nodes)
  pub false_there : MayBe false (May (window M 0) s nodes f.body)

-- a piece of a start may be false for some kept nodes
pub record MayFault (M : AbstractMachine) (r : TermRule) (p : List AbsNode) : Type 0 where
  pub index : ℕ
  pub piece : Piece
  pub there : slice_get r.ok index ≡ Some piece
  pub nodes : List AbsNode
  pub count : length nodes ≡ piece.binders
  pub are : IsTrue (list_all (is_in_window (window M 0)) nodes)
  pub false_there : MayBe false (May (window M (fired_of p)) (blank (window M (fired_of p))) (p
      ++ nodes) piece.body)

-- runs, the last state first
abbrev pub AbsStarts : AbstractMachine → ℕ → List AbsNode → AbsCells → Type 0
AbsStarts M k p t = (r : TermRule) × (slice_get M.machine.starts k ≡ Some r) × IsAbsStart M r p t

abbrev pub AbsFires : AbstractMachine → AbsCells → ℕ → List AbsNode → AbsCells → AbsCells → Type 0
AbsFires M s k p w t = (r : TermRule) × (slice_get M.machine.rules k ≡ Some r) × IsAbsStep M s r p w t

abbrev pub IsAbsRun : AbstractMachine → List AbsCells → Type 0
IsAbsRun M [] = ⊥
IsAbsRun M (s ∷ []) = (k : ℕ) × (p : List AbsNode) × AbsStarts M k p s
IsAbsRun M (t ∷ s ∷ earlier) = ((k : ℕ) × (p : List AbsNode) × (w : AbsCells) × AbsFires M s k p w t)
    × IsAbsRun M (s ∷ earlier)

-- a kept state that violates no formula
abbrev pub IsClean : AbstractMachine → AbsCells → Type 0
IsClean M s = (k : ℕ) (f : Formula) → slice_get M.formulas k ≡ Some f → Violates M s f → ⊥

abbrev pub NoStartFaults : AbstractMachine → Type 0
NoStartFaults M = (k : ℕ) (r : TermRule) (p : List AbsNode) (t : AbsCells) → slice_get M.machine.starts k
    ≡ Some r → IsAbsStart M r p t → MayFault M r p → ⊥

-- no run ends in a violation
pub record IsSafe (M : AbstractMachine) : Type 0 where
  pub runs : (s : AbsCells) (earlier : List AbsCells) → IsAbsRun M (s ∷ earlier) → IsClean M s
  pub starts : NoStartFaults M

-- no start violates, and no step leads from a state that violates nothing to one that violates a formula
pub record IsInductive (M : AbstractMachine) : Type 0 where
  pub starts : (k : ℕ) (p : List AbsNode) (t : AbsCells) → AbsStarts M k p t → IsClean M t
  pub faults : NoStartFaults M
  pub steps : (s : AbsCells) (k : ℕ) (p : List AbsNode) (w t : AbsCells) → FitsWindow (window M 0) s
      → IsClean M s → AbsFires M s k p w t → IsClean M t

-- all formulas hold in a state for all nodes
abbrev pub AllHold : ℕ → AbstractMachine → State → Type 0
AllHold N M s = (k : ℕ) (f : Formula) → slice_get M.formulas k ≡ Some f
    → HoldsForAll N (cell_value N M.machine.families s) f.prefix f.body

-- each formula reads cells of the machine, and no constant of it is a node
abbrev pub FormulasFit : AbstractMachine → Type 0
FormulasFit M = (k : ℕ) (f : Formula) → slice_get M.formulas k ≡ Some f
    → IsTrue (fits M.machine.families f.body)

-- the prefixes of formulas and of starts are at most the number of kept nodes
pub record PrefixesFit (M : AbstractMachine) : Type 0 where
  pub formulas : (k : ℕ) (f : Formula) → slice_get M.formulas k ≡ Some f → f.prefix ≤ M.kept
  pub starts : (k : ℕ) (r : TermRule) → slice_get M.machine.starts k ≡ Some r → r.prefix ≤ M.kept
