-- A machine of one flag, which is false at first, and which a node sets where it is not set.
use Rattle.std.specs.Prelude.{◌≡◌, true, false, [], ◌∷◌}
use Rattle.term_core.specs.declared.value.Value.TheVariants as value
use Rattle.term_core.specs.declared.value.Sort.TheVariants as sort
use Rattle.term_core.specs.declared.term.Term as t
use Rattle.term_core.specs.declared.term.Term.{Term}
use Rattle.term_core.specs.declared.machine.TermRule.{TermRule}
use Rattle.term_core.specs.declared.machine.TermMachine.{TermMachine}
use Rattle.lemma_strengthen.specs.declared.formula.FormulaKind.TheVariants.{Invariant}
use Rattle.lemma_strengthen.specs.declared.formula.Formula.{Formula}
use Rattle.other_abstract.specs.declared.machine.AbstractMachine.{AbstractMachine}
use Rattle.other_abstract.specs.Making.{IsMade}
use Rattle.abstract_rows.specs.Terms.{truth, cell, family, update, rule}

-- the flag is not set
abbrev pub off : Term
off = t.Not (cell 0)

abbrev pub begins : TermRule
begins = rule [] [] (truth true) (update 0 (truth false) ∷ [])

-- of one node parameter
abbrev pub sets : TermRule
sets = rule [] (value.Node 1 ∷ []) off (update 0 (truth true) ∷ [])

abbrev pub flag : TermMachine
flag = record { kinds = []; families = family sort.Truth 0 ∷ []; starts = begins ∷ []; rules = sets ∷ [] }

-- that the flag is never set
abbrev pub never : Formula
never = record { kind = Invariant []; prefix = 0; body = off }

-- the abstract machine of the flag with one kept node
pub record IsFlag (M : AbstractMachine) : Type 0 where
  pub made : IsMade M
  pub machine : M.machine ≡ flag
  pub formulas : M.formulas ≡ never ∷ []
  pub kept : M.kept ≡ 1
