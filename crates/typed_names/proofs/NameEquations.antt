-- Printed names, one equation for each step of the code.
use Rattle.std.proofs.Common.{◌≡◌, ℕ, ◌<◌, List, [], ◌∷◌, length, refl, arith}
use Rattle.std.specs.List.{list_all}
use Rattle.murphi_typed.specs.Names.{is_digit, is_number_text}

pub number_text_some : (text : List ℕ) → 0 < length text → is_number_text text ≡ list_all is_digit text
number_text_some [] some = absurd (omega arith)
number_text_some (b ∷ bs) some = refl

pub ruleset naming = (number_text_some)
