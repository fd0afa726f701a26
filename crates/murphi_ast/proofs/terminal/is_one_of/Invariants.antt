use Rattle.std.proofs.Common.{◌≡◌, drop}
use Rattle.std.specs.List.{list_any}
use Rattle.std.specs.Str.{bytes_eq}
use Rattle.murphi_ast.specs.Bytes.{lowered}
use Rattle.murphi_ast.proofs.terminal.is_one_of.Given as goal

abbrev pub invariant-loop-word : goal.invariant-loop-word
invariant-loop-word l =
    list_any (λ w. bytes_eq (lowered l.text) w.now) (drop l.word-index l.words) ≡ list_any (λ w. bytes_eq (lowered l.text) w.now) l.words
