-- What a literal says: its variable, its sign and its opposite.
use Rattle.std.specs.Prelude.{◌==◌, ℕ, ◌+◌, ◌-◌, ◌*◌, ◌/◌, ◌%◌, Bool, if◌then◌else◌}
use Rattle.clause_core.specs.declared.literal.Lit.{Lit}

-- the code is twice the variable, plus one where the literal is negated
abbrev pub variable_of : Lit → ℕ
variable_of l = l.code / 2

abbrev pub is_negated : Lit → Bool
is_negated l = l.code % 2 == 1

-- the literal that is true where the variable is, and the one that is true where it is false
abbrev pub positive : ℕ → Lit
positive v = record { code = 2 * v }

abbrev pub negative : ℕ → Lit
negative v = record { code = 2 * v + 1 }

-- the literal of the same variable that is true where this one is false
abbrev pub opposite : Lit → Lit
opposite l = record { code = if is_negated l then l.code - 1 else l.code + 1 }
