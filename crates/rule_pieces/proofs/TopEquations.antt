-- What stands at the top, in terms of the parts that code reads.
use Rattle.std.proofs.Common.{◌≡◌, ℕ, suc, ◌+◌, List, [], ◌∷◌, ◌++◌, None, refl, ap, arith}
use Rattle.term_core.specs.declared.term.Term as t
use Rattle.rule_inline.specs.Tables.{Key, unchanged}
use Rattle.rule_inline.specs.Machine.{CellsOf, first_terms, parameter_terms}
use Rattle.rule_parts.specs.declared.layer.Layer as l
use Rattle.rule_parts.specs.Layers.{seen_layer}
use Rattle.rule_pieces.proofs.ListLemmas.{after_after, nothing_after}

pub parameters-hole : (next : ℕ) (key : Key) → parameter_terms next (None ∷ key) ≡ t.Var next ∷ parameter_terms (next + 1) key
parameters-hole next key = let h : suc next ≡ next + 1 = omega arith in ap (λ k. t.Var next ∷ parameter_terms k key) h

pub layer-First : (frame : ℕ) (fs : List CellsOf) → seen_layer (l.First frame) fs ≡ unchanged (first_terms fs frame)
unfolding seen_layer
layer-First frame fs = refl

pub ruleset topping = (after_after, nothing_after, parameters-hole, layer-First)
