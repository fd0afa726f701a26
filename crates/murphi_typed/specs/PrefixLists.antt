-- What chains move to the front, over the lists that code reads.
use Rattle.std.specs.Prelude.{ℕ, List, [], ◌∷◌}
use Rattle.murphi_typed.specs.declared.expr.Link.{Link}
use Rattle.murphi_typed.specs.Prefix.{up, down, joined_up, joined_down}

abbrev pub list_up : ℕ → List Link → ℕ
list_up before [] = before
list_up before (l ∷ ls) = list_up (joined_up l.op before (up l.operand)) ls

abbrev pub list_down : ℕ → List Link → ℕ
list_down before [] = before
list_down before (l ∷ ls) = list_down (joined_down l.op before (down l.operand)) ls
