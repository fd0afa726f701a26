-- When there is no abstract machine: a prefix that is longer than the kept nodes are many, the first formula's
-- before the first start's; else a window with too many cells.
use Rattle.std.specs.Prelude.{◌≡◌, ℕ, ◌+◌, ◌-◌, ◌^◌, ◌≤◌, max, min, nat_lt, List, [], ◌∷◌, length, Option, None, Some, if◌then◌else◌, IsTrue}
use Rattle.std.specs.List.{All}
use Rattle.term_core.specs.declared.machine.CellFamily.{CellFamily}
use Rattle.term_core.specs.declared.machine.TermRule.{TermRule}
use Rattle.term_core.specs.declared.machine.TermMachine.{TermMachine}
use Rattle.term_core.specs.Cells.{cells}
use Rattle.term_core.specs.Firing.{node_parameters}
use Rattle.term_core.specs.Variables.{fits}
use Rattle.term_core.specs.Whole.{IsWhole}
use Rattle.lemma_strengthen.specs.declared.formula.Formula.{Formula}
use Rattle.lemma_strengthen.specs.declared.formula.FormulaKind.TheVariants.{StartFault}
use Rattle.other_abstract.specs.declared.making.MakeStop.{MakeStop}
use Rattle.other_abstract.specs.declared.making.MakeStop.TheVariants.{Prefix, Cells}
use Rattle.other_abstract.specs.declared.machine.AbstractMachine.{AbstractMachine}

-- the first formula whose prefix is longer than this
abbrev pub long_formula : ℕ → List Formula → Option MakeStop
long_formula m [] = None
long_formula m (f ∷ fs) = if nat_lt m f.prefix then Some (Prefix f.kind f.prefix m) else long_formula m fs

-- the first start whose prefix is
abbrev pub long_start : ℕ → List TermRule → Option MakeStop
long_start m [] = None
long_start m (r ∷ rs) = if nat_lt m r.prefix then Some (Prefix (StartFault r.title) r.prefix m) else long_start m rs

-- the most node parameters that one of these has
abbrev pub most_parameters : List TermRule → ℕ
most_parameters [] = 0
most_parameters (r ∷ rs) = max (node_parameters r) (most_parameters rs)

-- a count, or the greatest u64 where that is less
abbrev pub counted : ℕ → ℕ
counted n = min n (2 ^ 64 - 1)

-- how many cells a window of so many nodes has
abbrev pub cell_count : ℕ → List CellFamily → ℕ
cell_count nodes families = length (cells nodes families)

-- how many cells the window of the rule or start with the most node parameters has
abbrev pub largest_window : ℕ → TermMachine → ℕ
largest_window m machine =
    cell_count (m + max (most_parameters machine.starts) (most_parameters machine.rules)) machine.families

abbrev pub too_many : ℕ → Option MakeStop
too_many count = if nat_lt 4000 count then Some (Cells (counted count)) else None

abbrev pub or_else : Option MakeStop → Option MakeStop → Option MakeStop
or_else (Some stop) next = Some stop
or_else None next = next

-- why there is no machine, if there is none
abbrev pub refusal : ℕ → TermMachine → List Formula → Option MakeStop
refusal m machine phi =
    or_else (long_formula m phi) (or_else (long_start m machine.starts) (too_many (largest_window m machine)))

-- an abstract machine of a whole machine, with formulas that read its cells, that was not refused
pub record IsMade (M : AbstractMachine) : Type 0 where
  pub whole : IsWhole M.machine
  pub fit : All (λ (f : Formula). IsTrue (fits M.machine.families f.body)) M.formulas
  pub some : 1 ≤ M.kept
  pub few : M.kept ≤ 4
  pub accepted : refusal M.kept M.machine M.formulas ≡ None
