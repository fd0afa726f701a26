-- Words for what code has done so far.
use Rattle.std.specs.Prelude.{ℕ, Bool, false, nat_eq, List, [], ◌∷◌, ◌++◌, if◌then◌else◌}
use Rattle.term_core.specs.declared.term.Term as t
use Rattle.term_core.specs.declared.term.Term.{Term}
use Rattle.rule_inline.specs.Tables.{is_comparison, dropped}

-- whether a term is this variable
abbrev pub is_variable : ℕ → Term → Bool
is_variable k (t.Var j) = nat_eq j k
is_variable k _ = false

-- a part of a conjunction but for the comparison of an axis with the variable of a loop
abbrev pub kept_part : ℕ → ℕ → Term → List Term
kept_part axis variable x = if is_comparison axis variable x then [] else dropped axis variable x ∷ []

abbrev pub list_without : ℕ → ℕ → List Term → List Term
list_without axis variable [] = []
list_without axis variable (x ∷ xs) = kept_part axis variable x ++ list_without axis variable xs
