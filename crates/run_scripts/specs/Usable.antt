-- Which types have a value that tokens write, and which one that begins with `-`: so it is known at a title
-- whether a script goes on behind it. Mechanism.
use Rattle.std.specs.Prelude.{ℕ, Bool, true, false, ◌&&◌, nat_lt, List, length, ℤ, pos, negsuc, int_le}
use Rattle.std.specs.List.{list_all}
use Rattle.murphi_typed.specs.declared.types.Simple.{Simple}
use Rattle.murphi_typed.specs.declared.types.Simple.TheVariants as simple
use Rattle.murphi_typed.specs.declared.types.Kind.{Kind}

-- whether there is a number from -32,767 to 32,767 in a range
abbrev pub can_range : ℤ → ℤ → Bool
can_range low high = int_le low high && (int_le (negsuc 32766) high && int_le low (pos 32767))

abbrev pub can_write : ℕ → List Kind → Simple → Bool
can_write N kinds simple.Truth = true
can_write N kinds (simple.Range low high) = can_range low high
can_write N kinds (simple.Listed number count) = nat_lt 0 count && nat_lt number (length kinds)
can_write N kinds (simple.Scalarset number count) = nat_lt 0 count && nat_lt number (length kinds)
can_write N kinds simple.Node = nat_lt 0 N

abbrev pub takes_minus : Simple → Bool
takes_minus (simple.Range low high) = int_le low (pos 0) && can_range low high
takes_minus simple.Truth = false
takes_minus (simple.Listed number count) = false
takes_minus (simple.Scalarset number count) = false
takes_minus simple.Node = false

abbrev pub are_writable : ℕ → List Kind → List Simple → Bool
are_writable N kinds overs = list_all (can_write N kinds) overs
