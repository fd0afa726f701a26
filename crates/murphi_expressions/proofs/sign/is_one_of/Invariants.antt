use Rattle.std.proofs.Common.{◌≡◌, drop}
use Rattle.std.specs.Prelude.{nat_eq}
use Rattle.std.specs.List.{list_any}
use Rattle.murphi_grammar.specs.Tables.{code}
use Rattle.murphi_expressions.proofs.sign.is_one_of.Given as goal

abbrev pub invariant-loop-s : goal.invariant-loop-s
invariant-loop-s l =
    list_any (λ s. nat_eq (code l.symbol) (code s)) (drop l.s-index l.symbols) ≡ list_any (λ s. nat_eq (code l.symbol) (code s)) l.symbols
