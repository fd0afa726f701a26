-- Firing as one edge.
use Rattle.std.proofs.Common.{◌≡◌, ℕ, Bool, true, ◌&&◌, List, [], ◌++◌, ◌∙◌, ap, append-nil}
use Rattle.std.specs.List.{list_all}
use Rattle.circuit_core.specs.declared.edge.Edge.{Edge}
use Rattle.circuit_core.specs.Network.{Network}
use Rattle.circuit_core.specs.Growth.{KeepsEdges}
use Rattle.term_core.specs.declared.machine.TermRule.{TermRule}
use Rattle.term_core.specs.declared.machine.Update.{Update}
use Rattle.lemma_strengthen.specs.declared.formula.Formula.{Formula}
use Rattle.other_abstract.specs.declared.node.AbsNode.{AbsNode}
use Rattle.other_abstract.specs.declared.place.Place.{Place}
use Rattle.other_abstract.specs.Windows.{Window}
use Rattle.other_abstract.specs.Tests.{passes, may}
use Rattle.other_abstract.specs.Stepping.{all_may_hold, becomes}
use Rattle.bit_encode.specs.declared.set.Possible.{Possible}
use Rattle.bit_encode.specs.MaySets.{Agrees}
use Rattle.bit_encode.specs.Terms.{TellsIn}
use Rattle.bit_encode.specs.Steps.{TellsBoth, TellsSides, are_left, fires}
use Rattle.bit_encode.proofs.Growing.{agrees_before}

pub fires_tells : (c1 c2 c3 c4 c5 : Network) (wide before after : List (List Possible)) (W K L : Window) (phi : List Formula) (r : TermRule) (p : List AbsNode) (ps : List Place) (us : List Update) (more : List AbsNode) (a b g d e : Edge)
    → TellsBoth c1 wide before a (λ w s. are_left W K w s ps) → KeepsEdges c1 c2 → TellsIn c2 wide b (λ w. all_may_hold W w phi) → KeepsEdges c2 c3 → more ≡ [] → TellsIn c3 wide g (λ w. may W w (p ++ more) r.guard (passes true)) → KeepsEdges c3 c4
    → us ≡ r.updates → TellsBoth c4 wide after d (λ w t. list_all (becomes L W w t us p) ps) → KeepsEdges c4 c5
    → ((x : ℕ → Bool) (val : Edge → Bool) → Agrees c5 x val → val e ≡ (val a && (val b && (val g && val d)))) → TellsSides c5 wide before after e (fires W K L phi r p ps)
unfolding TellsBoth TellsIn TellsSides
fires_tells c1 c2 c3 c4 c5 wide before after W K L phi r p ps us more a b g d e left k assumed l none guard m same next n value x val ag w s t shw shs sht =
    let a4 : Agrees c4 x val = agrees_before c4 c5 x val n ag in
    let a3 : Agrees c3 x val = agrees_before c3 c4 x val m a4 in
    let a2 : Agrees c2 x val = agrees_before c2 c3 x val l a3 in
    let a1 : Agrees c1 x val = agrees_before c1 c2 x val k a2 in
    value x val ag
    ∙ ap (λ z. z && (val b && (val g && val d))) (left x val a1 w s shw shs)
    ∙ ap (λ z. are_left W K w s ps && (z && (val g && val d))) (assumed x val a2 w shw)
    ∙ ap (λ z. are_left W K w s ps && (all_may_hold W w phi && (z && val d))) (guard x val a3 w shw ∙ ap (λ ns. may W w (p ++ ns) r.guard (passes true)) none ∙ ap (λ ns. may W w ns r.guard (passes true)) (append-nil p))
    ∙ ap (λ z. are_left W K w s ps && (all_may_hold W w phi && (may W w p r.guard (passes true) && z))) (next x val a4 w t shw sht ∙ ap (λ us. list_all (becomes L W w t us p) ps) same)
