use Rattle.std.proofs.Common.{◌≡◌, drop}
use Rattle.murphi_typed.specs.Names.{ends_in_number}
use Rattle.typed_names.proofs.doubtful.ends_in_number.Given as goal

abbrev pub invariant-loop-i : goal.invariant-loop-i
invariant-loop-i l = ends_in_number (drop l.i l.text) ≡ ends_in_number l.text
