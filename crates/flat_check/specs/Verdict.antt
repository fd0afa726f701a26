-- What is found where a flat protocol is not inductive, and the formula that it violates.
use Rattle.std.specs.Prelude.{◌≡◌, ℕ, Option, None, Some}
use Rattle.murphi_ast.specs.declared.rule.Protocol.{Protocol}
use Rattle.murphi_ast.specs.State.{State, variables, undefined_state}
use Rattle.murphi_ast.specs.Step.{Firing, Disabled, Faults, Moves, rule_at, start_at}
use Rattle.murphi_ast.specs.Safety.{IsState, IsInductive, violated}
use Rattle.flat_check.specs.declared.Formula.{Formula}
use Rattle.flat_check.specs.declared.Formula.TheVariants.{Item, StartFault}
use Rattle.flat_check.specs.declared.Finding.{Finding}
use Rattle.flat_check.specs.declared.Finding.TheVariants.{BadStart, BadStep}
use Rattle.flat_check.specs.declared.Verdict.{Verdict}
use Rattle.flat_check.specs.declared.Verdict.TheVariants.{Inductive, Found}

-- the formula of an item that a state violates
abbrev pub item_formula : Option ℕ → Option Formula
item_formula None = None
item_formula (Some k) = Some (Item k)

-- the first formula that a state after a step violates: the invariants come first, in text order, then
-- for each rule in text order that it does not fault
abbrev pub violated_formula : Protocol → State → Option Formula
violated_formula p s = item_formula (violated p s)

-- the first of two
abbrev pub first_formula : Option Formula → Option Formula → Option Formula
first_formula (Some f) later = Some f
first_formula None later = later

-- the state that a start state leaves: one that faults counts as leaving every variable undefined
abbrev pub state_of : Protocol → Firing → Option State
state_of p Disabled = None
state_of p Faults = Some (undefined_state (variables p))
state_of p (Moves s) = Some s

-- that start state k does not fault, where it does
abbrev pub start_fault : ℕ → Firing → Option Formula
start_fault k Faults = Some (StartFault k)
start_fault k _ = None

-- the first formula that a start violates in the state that it leaves; its own fault comes last
abbrev pub start_formula : Protocol → ℕ → State → Option Formula
start_formula p k s = first_formula (violated_formula p s) (start_fault k (start_at p k))

-- a start that violates a formula, or a step from a state that violates nothing into one that violates
abbrev pub IsFinding : Protocol → Finding → Formula → Type 0
IsFinding p (BadStart k s) formula = (state_of p (start_at p k) ≡ Some s) × (start_formula p k s ≡ Some formula)
IsFinding p (BadStep from k to) formula =
    IsState p from × (violated p from ≡ None) × (rule_at p k from ≡ Moves to) × (violated_formula p to ≡ Some formula)

-- what a verdict says of a protocol
abbrev pub IsVerdict : Protocol → Verdict → Type 0
IsVerdict p Inductive = IsInductive p
IsVerdict p (Found finding formula) = IsFinding p finding formula
