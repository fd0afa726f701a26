-- Steps as edges.
use Rattle.std.proofs.Common.{◌≡◌, ℕ, ◌<◌, ◌&&◌, Bool, true, false, List, [], ◌++◌, length, map, get_or, Some, refl, sym, ◌∙◌, ap, subst, append-nil}
use Rattle.std.specs.Prelude.{slice_get}
use Rattle.std.specs.List.{list_all}
use Rattle.std.specs.Option.{option_map_or}
use Rattle.std.proofs.lemmas.Bool.{and_parts}
use Rattle.term_core.specs.declared.machine.Update.{Update}
use Rattle.term_core.specs.declared.machine.TermRule.{TermRule}
use Rattle.term_core.specs.Values.{same_truth}
use Rattle.lemma_strengthen.specs.declared.formula.Formula.{Formula}
use Rattle.circuit_core.specs.declared.edge.Edge.{Edge}
use Rattle.circuit_core.specs.Network.{Network, IsEdge}
use Rattle.circuit_core.specs.Growth.{KeepsEdges}
use Rattle.other_abstract.specs.declared.node.AbsNode.{AbsNode}
use Rattle.other_abstract.specs.declared.place.Place.{Place}
use Rattle.other_abstract.specs.declared.machine.AbstractMachine.{AbstractMachine}
use Rattle.other_abstract.specs.Windows.{Window}
use Rattle.other_abstract.specs.Tests.{passes, may}
use Rattle.other_abstract.specs.Machines.{window, fired_of}
use Rattle.other_abstract.specs.Places.{places}
use Rattle.other_abstract.specs.Stepping.{all_may_hold, becomes, is_step}
use Rattle.bit_encode.specs.declared.set.Possible.{Possible}
use Rattle.bit_encode.specs.Codes.{width, number_of, coded_state, is_legal}
use Rattle.bit_encode.specs.MaySets.{Agrees}
use Rattle.bit_encode.specs.Coding.{legal_edges}
use Rattle.bit_encode.specs.Terms.{TellsIn}
use Rattle.bit_encode.specs.Steps.{TellsBoth, TellsSides, are_left, fires}
use Rattle.bit_encode.specs.Laws.{CodedFiringIsAStep, LegalCodesAreSeen}
use Rattle.bit_layout.specs.declared.choice.Choice.{Choice}
use Rattle.bit_layout.specs.Choices.{step_choices, passes_at}
use Rattle.bit_layout.specs.Layout.{lists_in, next_place, window_place, step_choice_place}
use Rattle.bit_layout.specs.Coded.{choice_at, is_bad, may_step, is_step_code, tells_bad, tells_bad_next}
use Rattle.bit_gates.specs.declared.window.CodedWindow.{CodedWindow}
use Rattle.bit_gates.specs.declared.window.Opened.{Opened}
use Rattle.bit_gates.specs.Facts.{IsFact, IsFactWhere, both_legal}
use Rattle.bit_gates.specs.Inputs.{IsWindowOf, AreBits, IsOpened, AreOpened, AreWithin}
use Rattle.bit_gates.proofs.Growing.{agrees_before}
use Rattle.bit_gates.proofs.ChoosingLemmas.{picked_none, picked_all, bits_after}
use Rattle.bit_gates.proofs.WindowLemmas.{cells_after, window_after, windows_after, opened_after, all_opened_after, opened_none, fact_after}
use Rattle.bit_gates.proofs.StartLemmas.{passes_if, chosen_at, and_where, legal_told}

and_assoc : (a b c : Bool) → ((a && b) && c) ≡ (a && (b && c))
and_assoc true b c = refl
and_assoc false b c = refl

-- firing in a window that is ready
pub fires_tells : (c0 c1 c2 c3 c4 : Network) (wide before after : List (List Possible)) (W K L : Window) (phi : List Formula) (r : TermRule) (p : List AbsNode) (ps : List Place) (us : List Update) (more : List AbsNode) (o g d h e : Edge)
    → TellsBoth c0 wide before o (λ w s. are_left W K w s ps && all_may_hold W w phi) → KeepsEdges c0 c1
    → more ≡ [] → TellsIn c1 wide g (λ w. may W w (p ++ more) r.guard (passes true)) → KeepsEdges c1 c2
    → us ≡ r.updates → TellsBoth c2 wide after d (λ w t. list_all (becomes L W w t us p) ps) → KeepsEdges c2 c3
    → ((x : ℕ → Bool) (val : Edge → Bool) → Agrees c3 x val → val h ≡ (val g && val d)) → KeepsEdges c3 c4
    → ((x : ℕ → Bool) (val : Edge → Bool) → Agrees c4 x val → val e ≡ (val o && val h)) → TellsSides c4 wide before after e (fires W K L phi r p ps)
unfolding TellsBoth TellsIn TellsSides
fires_tells c0 c1 c2 c3 c4 wide before after W K L phi r p ps us more o g d h e ready k none guard l same next m goes n value x val a4 w s t shw shs sht =
    let a3 : Agrees c3 x val = agrees_before c3 c4 x val n a4 in
    let a2 : Agrees c2 x val = agrees_before c2 c3 x val m a3 in
    let a1 : Agrees c1 x val = agrees_before c1 c2 x val l a2 in
    let a0 : Agrees c0 x val = agrees_before c0 c1 x val k a1 in
    let left : Bool = are_left W K w s ps in
    let held : Bool = all_may_hold W w phi in
    value x val a4 ∙ ap (λ z. val o && z) (goes x val a3)
    ∙ ap (λ z. z && (val g && val d)) (ready x val a0 w s shw shs)
    ∙ and_assoc left held (val g && val d)
    ∙ ap (λ z. left && (held && (z && val d))) (guard x val a1 w shw ∙ ap (λ ns. may W w (p ++ ns) r.guard (passes true)) none ∙ ap (λ ns. may W w ns r.guard (passes true)) (append-nil p))
    ∙ ap (λ z. left && (held && (may W w p r.guard (passes true) && z))) (next x val a2 w t shw sht ∙ ap (λ us. list_all (becomes L W w t us p) ps) same)

-- a step under one choice
same_where : (L S T : Bool) → (L ≡ true → S ≡ T) → (L && S) ≡ (L && T)
same_where true S T s = s refl
same_where false S T s = refl

-- the windows in which firing is told are those of the machine
pub sides_as : (c : Network) (wide before after wide' before' after' : List (List Possible)) (e : Edge) (W K L W' K' L' : Window) (phi : List Formula) (r : TermRule) (p p' : List AbsNode) (ps ps' : List Place)
    → wide ≡ wide' → before ≡ before' → after ≡ after' → W ≡ W' → K ≡ K' → L ≡ L' → p ≡ p' → ps ≡ ps' → TellsSides c wide before after e (fires W K L phi r p ps) → TellsSides c wide' before' after' e (fires W' K' L' phi r p' ps')
sides_as c wide before after wide' before' after' e W K L W' K' L' phi r p p' ps ps' e1 e2 e3 e4 e5 e6 e7 e8 h =
    subst (λ q. TellsSides c wide' before' after' e (fires W' K' L' phi r p' q)) e8
    (subst (λ q. TellsSides c wide' before' after' e (fires W' K' L' phi r q ps)) e7
    (subst (λ q. TellsSides c wide' before' after' e (fires W' K' q phi r p ps)) e6
    (subst (λ q. TellsSides c wide' before' after' e (fires W' q L phi r p ps)) e5
    (subst (λ q. TellsSides c wide' before' after' e (fires q K L phi r p ps)) e4
    (subst (λ q. TellsSides c wide' before' q e (fires W K L phi r p ps)) e3
    (subst (λ q. TellsSides c wide' q after e (fires W K L phi r p ps)) e2
    (subst (λ q. TellsSides c q before after e (fires W K L phi r p ps)) e1 h)))))))

pub step_tells : CodedFiringIsAStep → (M : AbstractMachine) (c0 c1 c2 : Network) (kept next wide : CodedWindow) (o : Opened) (c : Choice) (r : TermRule) (e g : Edge)
    → IsWindowOf M c0 kept 0 0 → IsWindowOf M c0 next 0 (next_place M) → IsWindowOf M c0 wide (fired_of c.pattern) (window_place M (fired_of c.pattern))
    → IsOpened M c0 o wide.cells.items kept.cells.items (fired_of c.pattern) (window_place M (fired_of c.pattern)) → KeepsEdges c0 c1 → slice_get M.machine.rules c.number ≡ Some r
    → TellsSides c1 wide.cells.items kept.cells.items next.cells.items e (fires (window M (fired_of c.pattern)) (window M 0) (window M 0) M.formulas r c.pattern (places (window M 0))) → KeepsEdges c1 c2
    → ((x : ℕ → Bool) (val : Edge → Bool) → Agrees c2 x val → val g ≡ (val o.legal && val e)) → IsFactWhere c2 (both_legal M) g (λ x. may_step M x c)
unfolding IsFactWhere IsFact
step_tells law M c0 c1 c2 kept next wide o c r e g iskept isnext iswide isopened k there tells l value x val a2 legal =
    let a1 : Agrees c1 x val = agrees_before c1 c2 x val l a2 in
    let a0 : Agrees c0 x val = agrees_before c0 c1 x val k a1 in
    let j : ℕ = fired_of c.pattern in
    let wp : ℕ = window_place M j in
    let parts = and_parts (is_legal x 0 (lists_in M 0)) (is_legal x (next_place M) (lists_in M 0)) legal in
    let q : TermRule → Bool = λ (r : TermRule). is_step M (coded_state x 0 (lists_in M 0)) r c.pattern (coded_state x wp (lists_in M j)) (coded_state x (next_place M) (lists_in M 0)) in
    value x val a2 ∙ ap (λ z. z && val e) (isopened.legal x val a0)
    ∙ same_where (is_legal x wp (lists_in M j)) (val e) (option_map_or q (slice_get M.machine.rules c.number) false)
    (λ h. law M r c.pattern c1 x val wp 0 (next_place M) wide.cells.items kept.cells.items next.cells.items e a1 (iswide.coded x val a0) h (iskept.coded x val a0) parts.0 (isnext.coded x val a0) parts.1 tells
    ∙ sym (passes_if q (slice_get M.machine.rules c.number) r there))

-- a bit that says whether a state is bad
pub told_where : (M : AbstractMachine) (c0 c1 c2 : Network) (place flag : ℕ) (bit v e : Edge) → IsFact c0 bit (λ x. x flag) → KeepsEdges c0 c1
    → ((x : ℕ → Bool) (val : Edge → Bool) → Agrees c1 x val → is_legal x place (lists_in M 0) ≡ true → val v ≡ is_bad M (coded_state x place (lists_in M 0))) → KeepsEdges c1 c2
    → ((x : ℕ → Bool) (val : Edge → Bool) → Agrees c2 x val → val e ≡ same_truth (val bit) (val v)) → ((x : ℕ → Bool) → both_legal M x ≡ true → is_legal x place (lists_in M 0) ≡ true)
    → IsFactWhere c2 (both_legal M) e (λ x. same_truth (x flag) (is_bad M (coded_state x place (lists_in M 0))))
unfolding IsFact IsFactWhere
told_where M c0 c1 c2 place flag bit v e isbit k violates l value part x val a2 legal =
    let a1 : Agrees c1 x val = agrees_before c1 c2 x val l a2 in
    value x val a2 ∙ ap (λ z. same_truth z (val v)) (isbit x val (agrees_before c0 c1 x val k a1)) ∙ ap (same_truth (x flag)) (violates x val a1 (part x legal))

pub legal_before : (M : AbstractMachine) (x : ℕ → Bool) → both_legal M x ≡ true → is_legal x 0 (lists_in M 0) ≡ true
legal_before M x h = (and_parts (is_legal x 0 (lists_in M 0)) (is_legal x (next_place M) (lists_in M 0)) h).0

pub legal_after : (M : AbstractMachine) (x : ℕ → Bool) → both_legal M x ≡ true → is_legal x (next_place M) (lists_in M 0) ≡ true
legal_after M x h = (and_parts (is_legal x 0 (lists_in M 0)) (is_legal x (next_place M) (lists_in M 0)) h).1

-- all together
pub step_told : (M : AbstractMachine) (c0 c1 c2 c3 c4 c5 c6 c7 c8 c9 : Network) (bits : List Edge) (choices : List Choice) (lb la s n m t i l e : Edge)
    → IsFact c1 lb (λ x. is_legal x 0 (lists_in M 0)) → KeepsEdges c0 c1 → IsFact c2 la (λ x. is_legal x (next_place M) (lists_in M 0)) → KeepsEdges c1 c2
    → ((x : ℕ → Bool) (val : Edge → Bool) → Agrees c3 x val → both_legal M x ≡ true → val s ≡ passes_at (may_step M x) choices (number_of (map val bits))) → KeepsEdges c2 c3
    → AreBits c0 bits (step_choice_place M) (width (length choices)) → choices ≡ step_choices M
    → IsFactWhere c4 (both_legal M) n (tells_bad M) → KeepsEdges c3 c4 → IsFactWhere c5 (both_legal M) m (tells_bad_next M) → KeepsEdges c4 c5
    → ((x : ℕ → Bool) (val : Edge → Bool) → Agrees c6 x val → val t ≡ (val n && val m)) → KeepsEdges c5 c6
    → ((x : ℕ → Bool) (val : Edge → Bool) → Agrees c7 x val → val i ≡ (val s && val t)) → KeepsEdges c6 c7
    → ((x : ℕ → Bool) (val : Edge → Bool) → Agrees c8 x val → val l ≡ (val lb && val la)) → KeepsEdges c7 c8
    → ((x : ℕ → Bool) (val : Edge → Bool) → Agrees c9 x val → val e ≡ (val l && val i)) → KeepsEdges c8 c9
    → IsFact c9 e (λ x. is_step_code M x && (tells_bad M x && tells_bad_next M x))
unfolding IsFact IsFactWhere
step_told M c0 c1 c2 c3 c4 c5 c6 c7 c8 c9 bits choices lb la s n m t i l e before k1 after k2 steps k3 are same now k4 next k5 tie k6 inner k7 legal k8 outer k9 x val a9 =
    let a8 : Agrees c8 x val = agrees_before c8 c9 x val k9 a9 in
    let a7 : Agrees c7 x val = agrees_before c7 c8 x val k8 a8 in
    let a6 : Agrees c6 x val = agrees_before c6 c7 x val k7 a7 in
    let a5 : Agrees c5 x val = agrees_before c5 c6 x val k6 a6 in
    let a4 : Agrees c4 x val = agrees_before c4 c5 x val k5 a5 in
    let a3 : Agrees c3 x val = agrees_before c3 c4 x val k4 a4 in
    let a2 : Agrees c2 x val = agrees_before c2 c3 x val k3 a3 in
    let a1 : Agrees c1 x val = agrees_before c1 c2 x val k2 a2 in
    let a0 : Agrees c0 x val = agrees_before c0 c1 x val k1 a1 in
    let P : Bool = passes_at (may_step M x) (step_choices M) (choice_at x (step_choice_place M) (step_choices M)) in
    outer x val a9
    ∙ ap (λ z. z && val i) (legal x val a8 ∙ ap (λ z. z && val la) (before x val a1) ∙ ap (λ z. is_legal x 0 (lists_in M 0) && z) (after x val a2))
    ∙ ap (λ z. both_legal M x && z) (inner x val a7)
    ∙ and_where (both_legal M x) (val s) (val t) P (tells_bad M x && tells_bad_next M x)
    (λ h. steps x val a3 h ∙ chosen_at x val (may_step M x) choices (step_choices M) bits (step_choice_place M) same (are.value x val a0))
    (λ h. tie x val a6 ∙ ap (λ z. z && val m) (now x val a4 h) ∙ ap (λ z. tells_bad M x && z) (next x val a5 h))
    ∙ ap (λ z. z && (tells_bad M x && tells_bad_next M x)) (and_assoc (is_legal x 0 (lists_in M 0)) (is_legal x (next_place M) (lists_in M 0)) P)

-- what a window asks, by the sets of its scene
asks_as : (c : Network) (wide before wide' before' : List (List Possible)) (e : Edge) (W K W' K' : Window) (phi : List Formula) (ps ps' : List Place) → wide ≡ wide' → before ≡ before' → W ≡ W' → K ≡ K' → ps ≡ ps'
    → TellsBoth c wide before e (λ w s. are_left W K w s ps && all_may_hold W w phi) → TellsBoth c wide' before' e (λ w s. are_left W' K' w s ps' && all_may_hold W' w phi)
asks_as c wide before wide' before' e W K W' K' phi ps ps' e1 e2 e3 e4 e5 h =
    subst (λ q. TellsBoth c wide' before' e (λ w s. are_left W' K' w s q && all_may_hold W' w phi)) e5
    (subst (λ q. TellsBoth c wide' before' e (λ w s. are_left W' q w s ps && all_may_hold W' w phi)) e4
    (subst (λ q. TellsBoth c wide' before' e (λ w s. are_left q K w s ps && all_may_hold q w phi)) e3
    (subst (λ q. TellsBoth c wide' q e (λ w s. are_left W K w s ps && all_may_hold W w phi)) e2
    (subst (λ q. TellsBoth c q before e (λ w s. are_left W K w s ps && all_may_hold W w phi)) e1 h))))

pub asked_opened : LegalCodesAreSeen → (M : AbstractMachine) (old new : Network) (w : CodedWindow) (fired : ℕ) (o : Opened) (wide before cells : List (List Possible)) (W K : Window) (ps : List Place)
    → IsWindowOf M old w fired (window_place M fired) → KeepsEdges old new → wide ≡ w.cells.items → before ≡ cells → W ≡ window M fired → K ≡ window M 0 → ps ≡ places (window M 0) → IsEdge new o.legal → IsEdge new o.ready
    → ((x : ℕ → Bool) (val : Edge → Bool) → Agrees new x val → val o.legal ≡ legal_edges val wide)
    → TellsBoth new wide before o.ready (λ w s. are_left W K w s ps && all_may_hold W w M.formulas) → IsOpened M new o w.cells.items cells fired (window_place M fired)
asked_opened seen M old new w fired o wide before cells W K ps is k e1 e2 e3 e4 e5 le re legal asks = record {
  legal_edge = le;
  ready_edge = re;
  legal = legal_told seen M old new w wide fired (window_place M fired) o.legal is k e1 legal;
  opens = asks_as new wide before w.cells.items cells o.ready W K (window M fired) (window M 0) M.formulas ps (places (window M 0)) e1 e2 e3 e4 e5 asks;
}

pub within_at : (rules windows : ℕ) (cs : List Choice) (i : ℕ) (d c : Choice) → AreWithin rules windows cs → i < length cs → c ≡ get_or cs i d → fired_of c.pattern < windows
within_at rules windows cs i d c h l is = subst (λ (e : Choice). fired_of e.pattern < windows) (sym is) (h i d l).1

pub choice_opened : (M : AbstractMachine) (old new : Network) (os : List Opened) (ws : List CodedWindow) (before : List (List Possible)) (o : Opened) (d : CodedWindow) (j k n : ℕ) → AreOpened M old os ws before n → KeepsEdges old new → j ≡ k → k < n
    → IsOpened M new (get_or os j o) (get_or ws j d).cells.items before k (window_place M k)
choice_opened M old new os ws before o d j k n is keeps same l =
    subst (λ i. IsOpened M new (get_or os i o) (get_or ws i d).cells.items before k (window_place M k)) (sym same) (opened_after M old new (get_or os k o) (get_or ws k d).cells.items before k (window_place M k) keeps (is.each k o d l))

pub ruleset stepping = (picked_none, picked_all, bits_after, cells_after, window_after, windows_after, opened_after, all_opened_after, opened_none, fact_after)
