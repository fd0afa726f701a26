-- What holds of the abstract machine of every machine of terms. Each statement is the contract of a public
-- function of `laws` that does nothing.
use Rattle.std.specs.Prelude.{◌≡◌, ◌↔◌, ℕ, ◌≤◌, Bool, List, map, length, Some, slice_get, IsTrue}
use Rattle.std.specs.List.{list_all, Contains}
use Rattle.term_core.specs.declared.term.Term.{Term}
use Rattle.term_core.specs.declared.term.Term as t
use Rattle.term_core.specs.declared.machine.CellFamily.{CellFamily}
use Rattle.term_core.specs.declared.machine.Piece.{Piece}
use Rattle.term_core.specs.declared.machine.TermRule.{TermRule}
use Rattle.term_core.specs.Meaning.{value_of}
use Rattle.term_core.specs.Variables.{fits}
use Rattle.term_core.specs.Cells.{State, IsState, cell_value, blank_state}
use Rattle.term_core.specs.Firing.{IsReached, Fires, Starts, HasFalsePiece, IsFalseFor}
use Rattle.term_core.specs.Firing as firing
use Rattle.term_core.specs.Whole.{IsWhole}
use Rattle.lemma_strengthen.specs.declared.formula.Formula.{Formula}
use Rattle.other_abstract.specs.declared.node.AbsNode.{AbsNode}
use Rattle.other_abstract.specs.declared.value.AbsValue.{AbsValue}
use Rattle.other_abstract.specs.declared.value.AbsValue.TheVariants.{Truth}
use Rattle.other_abstract.specs.declared.machine.AbstractMachine.{AbstractMachine}
use Rattle.other_abstract.specs.Windows.{Window}
use Rattle.other_abstract.specs.May.{AbsCells, May}
use Rattle.other_abstract.specs.Tests.{may, may_fail}
use Rattle.other_abstract.specs.Images.{IsChoice, is_chosen, renamed_node, renamed, window_of, image, pattern_of, extended}
use Rattle.other_abstract.specs.Machines.{AbsFires, AbsStarts, MayFault, AllHold, FormulasFit, PrefixesFit, IsSafe, IsInductive, NoStartFaults, IsPattern, FitsWindow, Violates, window, fired_of}
use Rattle.other_abstract.specs.Stepping.{is_step, is_start, may_fault}
use Rattle.other_abstract.specs.Joining.{MayAnd, MayOr}
use Rattle.other_abstract.specs.Patterns.{patterns_of}

-- What a term may be

-- The value of a term, renamed by a choice of nodes, is one that the term may have in the image of the state.
-- The nodes of the frame may be any, those that are not chosen too.
abbrev pub ValuesMayBeHad : Type 0
ValuesMayBeHad =
    (N m : ℕ) (families : List CellFamily) (c : List ℕ) (s : State) (frame : List ℕ) (t : Term)
    → IsChoice N m c
    → IsState N families s
    → IsTrue (fits families t)
    → May (window_of m families c) (image m families c (cell_value N families s)) (map (renamed_node m c) frame)
    t
    (renamed m c (value_of N (cell_value N families s) frame t))

-- The test says of each term whether it may have a value that passes.
abbrev pub TestsSayWhatMayBe : Type 0
TestsSayWhatMayBe =
    (W : Window) (w : AbsCells) (env : List AbsNode) (t : Term) (p : AbsValue → Bool)
    → IsTrue (may W w env t p) ↔ ((x : AbsValue) × May W w env t x × IsTrue (p x))

-- A conjunction may have each result of values that its parts may have, and no other,
abbrev pub ConjunctionsJoin : Type 0
ConjunctionsJoin =
    (W : Window) (w : AbsCells) (env : List AbsNode) (parts : List Term) (b : Bool)
    → May W w env (t.And parts) (Truth b) ↔ MayAnd W w env parts b

-- and so may a disjunction.
abbrev pub DisjunctionsJoin : Type 0
DisjunctionsJoin =
    (W : Window) (w : AbsCells) (env : List AbsNode) (parts : List Term) (b : Bool)
    → May W w env (t.Or parts) (Truth b) ↔ MayOr W w env parts b

-- Steps

-- A step of N nodes, seen through any choice of kept nodes, is one of the abstract machine, where all formulas
-- hold before it. The state of its window is the image under the choice with the nodes of the firing that it
-- lacks, so the nodes that are not in the window may hold anything.
abbrev pub StepsAreCovered : Type 0
StepsAreCovered =
    (N : ℕ) (M : AbstractMachine) (c p : List ℕ) (s t : State) (k : ℕ)
    → IsWhole M.machine
    → FormulasFit M
    → IsChoice N M.kept c
    → length c ≡ M.kept
    → IsState N M.machine.families s
    → AllHold N M s
    → Fires N M.machine s k p t
    → AbsFires M (image M.kept M.machine.families c (cell_value N M.machine.families s)) k (pattern_of M.kept c
    p)
    (image M.kept M.machine.families (extended c p) (cell_value N M.machine.families s))
    (image M.kept M.machine.families c (cell_value N M.machine.families t))

-- The same of starts, for which nothing is assumed.
abbrev pub StartsAreCovered : Type 0
StartsAreCovered =
    (N : ℕ) (M : AbstractMachine) (c p : List ℕ) (s : State) (k : ℕ)
    → IsWhole M.machine
    → IsChoice N M.kept c
    → length c ≡ M.kept
    → Starts N M.machine k p s
    → AbsStarts M k (pattern_of M.kept c p) (image M.kept M.machine.families c (cell_value N M.machine.families
    s))

-- Both of one machine.
abbrev pub CoversSteps : AbstractMachine → Type 0
CoversSteps M =
    (N : ℕ) (c p : List ℕ) (s t : State) (k : ℕ)
    → IsChoice N M.kept c
    → length c ≡ M.kept
    → IsState N M.machine.families s
    → AllHold N M s
    → Fires N M.machine s k p t
    → AbsFires M (image M.kept M.machine.families c (cell_value N M.machine.families s)) k (pattern_of M.kept c
    p)
    (image M.kept M.machine.families (extended c p) (cell_value N M.machine.families s))
    (image M.kept M.machine.families c (cell_value N M.machine.families t))

abbrev pub CoversStarts : AbstractMachine → Type 0
CoversStarts M =
    (N : ℕ) (c p : List ℕ) (s : State) (k : ℕ)
    → IsChoice N M.kept c
    → length c ≡ M.kept
    → Starts N M.machine k p s
    → AbsStarts M k (pattern_of M.kept c p) (image M.kept M.machine.families c (cell_value N M.machine.families
    s))

-- A piece of a start that is false for chosen nodes may be false in the image.
abbrev pub StartFaultsAreCovered : Type 0
StartFaultsAreCovered =
    (N : ℕ) (M : AbstractMachine) (c p : List ℕ) (k : ℕ) (r : TermRule) (j : ℕ) (piece : Piece) (bound : List ℕ)
    → IsWhole M.machine
    → IsChoice N M.kept c
    → length c ≡ M.kept
    → slice_get M.machine.starts k ≡ Some r
    → firing.IsChoice N r p
    → slice_get r.ok j ≡ Some piece
    → IsFalseFor N (cell_value N M.machine.families (blank_state N M.machine.families)) p piece bound
    → IsTrue (list_all (is_chosen c) bound)
    → MayFault M r (pattern_of M.kept c p)

-- Runs

-- Where no abstract run ends in a violation, all formulas hold in each reached state for all nodes, with every
-- number of nodes from the kept ones up.
abbrev pub SafeRunsAreCovered : Type 0
SafeRunsAreCovered =
    (N : ℕ) (M : AbstractMachine) (s : State)
    → IsWhole M.machine
    → FormulasFit M
    → PrefixesFit M
    → M.kept ≤ N
    → IsSafe M
    → IsReached N M.machine s
    → AllHold N M s

-- So they do where the machine is inductive.
abbrev pub InductiveRunsAreCovered : Type 0
InductiveRunsAreCovered =
    (N : ℕ) (M : AbstractMachine) (s : State)
    → IsWhole M.machine
    → FormulasFit M
    → PrefixesFit M
    → M.kept ≤ N
    → IsInductive M
    → IsReached N M.machine s
    → AllHold N M s

-- Where no abstract start may fault, no start faults with any such number of nodes.
abbrev pub NoStartFaulty : Type 0
NoStartFaulty =
    (N : ℕ) (M : AbstractMachine) (k : ℕ) (r : TermRule) (p : List ℕ)
    → IsWhole M.machine
    → FormulasFit M
    → PrefixesFit M
    → M.kept ≤ N
    → NoStartFaults M
    → slice_get M.machine.starts k ≡ Some r
    → firing.IsChoice N r p
    → HasFalsePiece N (cell_value N M.machine.families (blank_state N M.machine.families)) r.ok p
    → ⊥

-- Patterns

-- The list of patterns has each pattern of a rule, and nothing else; none stands in it twice.
abbrev pub PatternsAreListed : Type 0
PatternsAreListed =
    (m : ℕ) (r : TermRule)
    → ((p : List AbsNode) → IsPattern m r p ↔ Contains (patterns_of m r) p)
    × ((i j : ℕ) (p : List AbsNode) → slice_get (patterns_of m r) i ≡ Some p → slice_get (patterns_of m r) j
    ≡ Some p → i ≡ j)

-- Tests

-- With a pattern of a rule and states that fit their windows, the test says whether firing the rule may lead from
-- one kept state to the other by the wide state;
abbrev pub StepsAreDecided : Type 0
StepsAreDecided =
    (M : AbstractMachine) (s : AbsCells) (k : ℕ) (r : TermRule) (p : List AbsNode) (w t : AbsCells)
    → slice_get M.machine.rules k ≡ Some r
    → IsPattern M.kept r p
    → FitsWindow (window M (fired_of p)) w
    → FitsWindow (window M 0) t
    → IsTrue (is_step M s r p w t) ↔ AbsFires M s k p w t

-- so does that of starts, for what a start may leave,
abbrev pub StartsAreDecided : Type 0
StartsAreDecided =
    (M : AbstractMachine) (k : ℕ) (r : TermRule) (p : List AbsNode) (t : AbsCells)
    → slice_get M.machine.starts k ≡ Some r
    → IsPattern M.kept r p
    → FitsWindow (window M 0) t
    → IsTrue (is_start M r p t) ↔ AbsStarts M k p t

-- that of violations,
abbrev pub ViolationsAreDecided : Type 0
ViolationsAreDecided =
    (M : AbstractMachine) (s : AbsCells) (f : Formula)
    → IsTrue (may_fail (window M 0) s f.prefix f.body) ↔ Violates M s f

-- and that of faults.
abbrev pub FaultsAreDecided : Type 0
FaultsAreDecided =
    (M : AbstractMachine) (r : TermRule) (p : List AbsNode)
    → IsTrue (may_fault M r p) ↔ MayFault M r p
