-- What the parts of the checker that run a protocol say: the meaning of flat trees, which stands in
-- murphi_ast, over lists where the trees have rows, and on cells that are changed in place.
use Rattle.std.specs.Prelude.{◌≡◌, ℕ, Bool, true, false, List, [], ◌∷◌, Option, None, Some, length}
use Rattle.std.specs.List.{position_from}
use Rattle.murphi_ast.specs.declared.expr.Link.{Link}
use Rattle.murphi_ast.specs.declared.expr.Selector.{Selector}
use Rattle.murphi_ast.specs.declared.rule.RuleDecl.{RuleDecl}
use Rattle.murphi_ast.specs.State.{Name, State}
use Rattle.murphi_ast.specs.Meaning.{Value, value_of, joined}
use Rattle.murphi_ast.specs.Step as step
use Rattle.murphi_ast.specs.Step.{Firing, breaks, faults}
use Rattle.murphi_ast.specs.Safety.{or_else}
use Rattle.flat_check.specs.declared.firing.Outcome.{Outcome}
use Rattle.flat_check.specs.declared.firing.Outcome.TheVariants.{Disabled, Faults, Moves}

-- whether a designator has neither fields nor indices
abbrev pub has_no_selectors : List Selector → Bool
has_no_selectors [] = true
has_no_selectors (s ∷ ss) = false

-- the value of a chain, given that of the operands before these links
abbrev pub links_value : List Name → State → Value → List Link → Value
links_value vs cells left [] = left
links_value vs cells left (l ∷ ls) = links_value vs cells (joined l.op left (value_of vs cells l.operand)) ls

-- what a run on cells in place leaves, and whether it ended: where it faults, the cells are free
abbrev pub HasRun : Option State → State → Bool → Type 0
HasRun None new ended = ended ≡ false
HasRun (Some t) new ended = (ended ≡ true) × (new ≡ t)

-- the firing that the checker's outcome stands for
abbrev pub firing_of : Outcome → Firing
firing_of Disabled = step.Disabled
firing_of Faults = step.Faults
firing_of (Moves s) = step.Moves s

-- a state that is moved to has so many cells
abbrev pub HasLength : Outcome → ℕ → Type 0
HasLength (Moves s) n = length s ≡ n
HasLength _ n = Unit {0}

-- the first item whose formula a state violates
abbrev pub violated_in : List Name → List RuleDecl → State → Option ℕ
violated_in vs items s = or_else (position_from (breaks vs s) 0 items) (position_from (faults vs s) 0 items)
