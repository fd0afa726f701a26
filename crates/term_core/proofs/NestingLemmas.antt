-- Free variables and the nesting of quantifiers, as code counts them.
use Rattle.std.proofs.Common.{◌≡◌, ℕ, suc, ◌-◌, ◌<◌, true, false, max, refl, arith}
use Rattle.std.specs.Prelude.{nat_le}
use Rattle.term_core.specs.declared.value.Value.{Value}
use Rattle.term_core.specs.declared.term.Term as t
use Rattle.term_core.specs.declared.term.Term.{Term, the_lemmas}
use Rattle.term_core.specs.Variables.{nesting, free_variables}
use Rattle.term_core.proofs.Equations.{nesting-Read, nesting-And, nesting-Or, nesting-Not, nesting-If, nesting-Same, nesting-Less, nesting-Arith, nesting-Quantified}
use Rattle.term_core.proofs.VariableLemmas.{variables-Read, variables-And, variables-Or, variables-Not, variables-If, variables-Same, variables-Less, variables-Arith, variables-Quantified}

pub nesting-Known : (x : Value) → nesting (t.Known x) ≡ 0
unfolding nesting
nesting-Known x = refl

pub nesting-Var : (k : ℕ) → nesting (t.Var k) ≡ 0
unfolding nesting
nesting-Var k = refl

pub variables-Known : (x : Value) → free_variables (t.Known x) ≡ 0
unfolding free_variables
variables-Known x = refl

pub variables-Var : (k : ℕ) → free_variables (t.Var k) ≡ suc k
unfolding free_variables
variables-Var k = refl

pub nests_both : (a b d : ℕ) → nat_le a d ≡ true → nat_le (max a b) d ≡ nat_le b d
nests_both a b d h = grind (arith, h)

pub nests_not : (a b d : ℕ) → nat_le a d ≡ false → nat_le (max a b) d ≡ false
nests_not a b d h = grind (arith, h)

pub nests_less : (a d : ℕ) → 0 < d → nat_le (suc a) d ≡ nat_le a (d - 1)
nests_less a d h = grind (arith, h)

pub ruleset nested = (nesting-Known, nesting-Var, nesting-Read, nesting-And, nesting-Or, nesting-Not, nesting-If, nesting-Same, nesting-Less, nesting-Arith, nesting-Quantified, nests_both, nests_not, nests_less, variables-Known, variables-Var, variables-Read, variables-And, variables-Or, variables-Not, variables-If, variables-Same, variables-Less, variables-Arith, variables-Quantified, the_lemmas)
