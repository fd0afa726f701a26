use Rattle.std.proofs.Common.{◌≡◌, drop}
use Rattle.std.specs.List.{list_all}
use Rattle.murphi_typed.specs.Names.{is_digit}
use Rattle.typed_names.proofs.doubtful.is_number_text.Given as goal

abbrev pub invariant-loop-b : goal.invariant-loop-b
invariant-loop-b l = list_all is_digit (drop l.b-index l.text) ≡ list_all is_digit l.text
