-- Cells and choices of nodes, as code goes through them.
use Rattle.std.proofs.Common.{◌≡◌, ℕ, zero, suc, ◌+◌, ◌-◌, ◌<◌, ◌≤◌, List, [], ◌∷◌, ◌++◌, map, drop, Some, sym, ap, ◌∙◌, append_assoc, append-nil, arith}
use Rattle.std.specs.Prelude.{slice_get}
use Rattle.std.specs.List.{flat_map}
use Rattle.term_core.specs.declared.machine.CellFamily.{CellFamily}
use Rattle.term_core.specs.Nodes.{nodes_from}
use Rattle.other_abstract.specs.declared.node.AbsNode.{AbsNode}
use Rattle.other_abstract.specs.declared.place.Place.{Place}
use Rattle.other_abstract.specs.Tests.{lists_of}
use Rattle.other_abstract.specs.Places.{places_in}
use Rattle.other_abstract.proofs.ReadLemmas.{drop_more}
use Rattle.other_abstract.proofs.ListLemmas.{counts_more}

-- one list more before lists
pub lists_more : (ns : List AbsNode) (count step : ℕ) → step ≡ count → lists_of ns (step + 1) ≡ flat_map (λ n. map (λ rest. n ∷ rest) (lists_of ns count)) ns
lists_more ns count step e = let f : step + 1 ≡ suc count = omega (arith, e) in ap (lists_of ns) f

-- one numbered node more
pub names_more : (name : ℕ → AbsNode) (out out' whole : List AbsNode) (n count : ℕ) → n < count → out' ≡ out ++ name (n + 1) ∷ [] → out ++ map name (nodes_from (n + 1) (count - n)) ≡ whole → out' ++ map name (nodes_from (n + 1 + 1) (count - (n + 1))) ≡ whole
names_more name out out' whole n count less is all =
    ap (λ o. o ++ map name (nodes_from (n + 1 + 1) (count - (n + 1)))) is
    ∙ append_assoc out (name (n + 1) ∷ []) (map name (nodes_from (n + 1 + 1) (count - (n + 1))))
    ∙ ap (λ ks. out ++ map name ks) (sym (counts_more n count less))
    ∙ all

pub names_none : (name : ℕ → AbsNode) (out whole : List AbsNode) (n count : ℕ) → count ≤ n → out ++ map name (nodes_from (n + 1) (count - n)) ≡ whole → out ≡ whole
names_none name out whole n count past all =
    let e : count - n ≡ zero = omega arith in
    sym (append-nil out) ∙ ap (λ k. out ++ map name (nodes_from (n + 1) k)) (sym e) ∙ all

-- one family more
pub places_more : (ns : List AbsNode) (fs : List CellFamily) (at : ℕ) (f : CellFamily) (out out' whole : List Place) → slice_get fs at ≡ Some f
    → out' ≡ out ++ map (λ (xs : List AbsNode). record { family = at; at = xs }) (lists_of ns f.axes)
    → out ++ places_in ns at (drop at fs) ≡ whole → out' ++ places_in ns (at + 1) (drop (at + 1) fs) ≡ whole
places_more ns fs at f out out' whole there is all =
    let next : at + 1 ≡ suc at = omega arith in
    let here : List Place = map (λ (xs : List AbsNode). record { family = at; at = xs }) (lists_of ns f.axes) in
    ap (λ k. out' ++ places_in ns k (drop k fs)) next
    ∙ ap (λ o. o ++ places_in ns (suc at) (drop (suc at) fs)) is
    ∙ append_assoc out here (places_in ns (suc at) (drop (suc at) fs))
    ∙ ap (λ gs. out ++ places_in ns at gs) (sym (drop_more fs at f there))
    ∙ all

pub ruleset placing = (lists_more, names_none)
