-- Starts as edges.
use Rattle.std.proofs.Common.{◌≡◌, ◌↔◌, ℕ, zero, suc, ◌<◌, ◌&&◌, ◌||◌, Bool, true, false, List, [], ◌∷◌, length, map, get_or, Option, Some, refl, sym, ◌∙◌, ap, subst, arith}
use Rattle.std.specs.Prelude.{slice_get, IsTrue}
use Rattle.std.specs.List.{list_all, list_any}
use Rattle.std.specs.Option.{option_map_or}
use Rattle.term_core.specs.declared.machine.Update.{Update}
use Rattle.term_core.specs.declared.machine.TermRule.{TermRule}
use Rattle.term_core.specs.Values.{same_truth}
use Rattle.circuit_core.specs.declared.edge.Edge.{Edge}
use Rattle.circuit_core.specs.Network.{Network, IsEdge}
use Rattle.circuit_core.specs.Value.{edge_value}
use Rattle.std.proofs.lemmas.Option.{slice_get-get_or}
use Rattle.circuit_core.specs.Growth.{KeepsEdges}
use Rattle.lemma_strengthen.specs.declared.formula.Formula.{Formula}
use Rattle.other_abstract.specs.declared.node.AbsNode.{AbsNode}
use Rattle.other_abstract.specs.declared.place.Place.{Place}
use Rattle.other_abstract.specs.declared.machine.AbstractMachine.{AbstractMachine}
use Rattle.other_abstract.specs.Windows.{Window}
use Rattle.other_abstract.specs.May.{AbsCells}
use Rattle.other_abstract.specs.Tests.{may_fail}
use Rattle.other_abstract.specs.Machines.{window, fired_of, MayFault}
use Rattle.other_abstract.specs.Places.{places}
use Rattle.other_abstract.specs.Stepping.{begins, is_start, may_fault}
use Rattle.other_abstract.specs.Laws.{FaultsAreDecided}
use Rattle.bit_encode.specs.declared.set.Possible.{Possible}
use Rattle.bit_encode.specs.Codes.{width, number_of, bits_at, coded_state, is_legal}
use Rattle.bit_encode.specs.MaySets.{Agrees}
use Rattle.bit_encode.specs.Coding.{Shows, legal_edges}
use Rattle.bit_encode.specs.Terms.{TellsIn}
use Rattle.bit_encode.specs.Laws.{LegalCodesShowStates, LegalCodesAreSeen}
use Rattle.bit_layout.specs.declared.choice.Choice.{Choice}
use Rattle.bit_layout.specs.Choices.{start_choices, passes_at}
use Rattle.bit_layout.specs.Layout.{lists_in, bad_place, start_choice_place}
use Rattle.bit_layout.specs.Coded.{choice_at, is_bad, may_start, may_fault_at, is_start_code, state_is_bad, start_faults, tells_bad_start}
use Rattle.bit_gates.specs.declared.window.CodedWindow.{CodedWindow}
use Rattle.bit_gates.specs.Facts.{IsFact, IsFactWhere, kept_legal}
use Rattle.bit_gates.specs.Inputs.{IsWindowOf, AreBits}
use Rattle.bit_gates.proofs.Growing.{agrees_before}
use Rattle.bit_gates.proofs.ChoosingLemmas.{picked_none, picked_all, bits_after}
use Rattle.bit_gates.proofs.WindowLemmas.{cells_after, window_after}

pub passes_if : {X : Type 0} (q : X → Bool) (o : Option X) (x : X) → o ≡ Some x → option_map_or q o false ≡ q x
passes_if q o x e = ap (λ p. option_map_or q p false) e

-- the sets of a window show the state that its code is of
pub window_shows : LegalCodesShowStates → (M : AbstractMachine) (c : Network) (w : CodedWindow) (fired place : ℕ) → IsWindowOf M c w fired place → (x : ℕ → Bool) (val : Edge → Bool) → Agrees c x val → is_legal x place (lists_in M fired) ≡ true
    → Shows val w.cells.items (coded_state x place (lists_in M fired))
window_shows show M c w fired place is x val a legal = show val x place (lists_in M fired) w.cells.items (is.coded x val a) legal

-- what a start may leave
pub start_tells : LegalCodesShowStates → (M : AbstractMachine) (old new : Network) (w : CodedWindow) (cells : List (List Possible)) (K : Window) (f : ℕ) (us : List Update) (p : List AbsNode) (ps : List Place) (c : Choice) (r : TermRule) (e : Edge)
    → IsWindowOf M old w 0 0 → KeepsEdges old new → cells ≡ w.cells.items → K ≡ window M 0 → f ≡ fired_of c.pattern → us ≡ r.updates → p ≡ c.pattern → ps ≡ places (window M 0) → slice_get M.machine.starts c.number ≡ Some r
    → TellsIn new cells e (λ t. list_all (begins K (window M f) t us p) ps) → IsFactWhere new (kept_legal M) e (λ x. may_start M x c)
unfolding TellsIn IsFactWhere
start_tells show M old new w cells K f us p ps c r e is k sc sk sf su sp ss there tells x val a legal =
    let t : AbsCells = coded_state x 0 (lists_in M 0) in
    tells x val a t (subst (λ cs. Shows val cs t) (sym sc) (window_shows show M old w 0 0 is x val (agrees_before old new x val k a) legal))
    ∙ ap (λ q. list_all (begins q (window M f) t us p) ps) sk
    ∙ ap (λ q. list_all (begins (window M 0) (window M q) t us p) ps) sf
    ∙ ap (λ q. list_all (begins (window M 0) (window M (fired_of c.pattern)) t q p) ps) su
    ∙ ap (λ q. list_all (begins (window M 0) (window M (fired_of c.pattern)) t r.updates q) ps) sp
    ∙ ap (λ q. list_all (begins (window M 0) (window M (fired_of c.pattern)) t r.updates c.pattern) q) ss
    ∙ sym (passes_if (λ (r : TermRule). is_start M r c.pattern t) (slice_get M.machine.starts c.number) r there)

-- the rule of a number
pub rule_at : (rs : List TermRule) (k : ℕ) → k < length rs → (r : TermRule) × (slice_get rs k ≡ Some r)
rule_at [] k l = absurd (omega (arith, l))
rule_at (r ∷ rs) zero l = (r, refl)
rule_at (r ∷ rs) (suc k) l = rule_at rs k (omega (arith, l))

pub at_index : (xs all : List TermRule) (k : ℕ) (d r : TermRule) → xs ≡ all → k < length all → r ≡ get_or xs k d → slice_get all k ≡ Some r
at_index xs all k d r same inside is =
    let l : k < length xs = subst (λ (ys : List TermRule). k < length ys) (sym same) inside in
    ap (λ (ys : List TermRule). slice_get ys k) (sym same) ∙ slice_get-get_or xs k d l ∙ ap Some (sym is)

pub truth_where : (c : Network) (ok : (ℕ → Bool) → Bool) (e : Edge) (b v : Bool) → IsEdge c e → ((x : ℕ → Bool) → edge_value c x e ≡ b) → b ≡ v → IsFactWhere c ok e (λ x. v)
unfolding IsFactWhere
truth_where c ok e b v h value same x val a k = a.at e h ∙ value x ∙ same

-- whether a start may fault
same_by : (a b : Bool) → (a ≡ true → b ≡ true) → (b ≡ true → a ≡ true) → a ≡ b
same_by true b f g = sym (f refl)
same_by false true f g = g refl
same_by false false f g = refl

pub fault_is : FaultsAreDecided → (M : AbstractMachine) (c : Choice) (r : TermRule) (p : List AbsNode) (b : Bool) → slice_get M.machine.starts c.number ≡ Some r → p ≡ c.pattern
    → ((s : TermRule) → slice_get M.machine.starts c.number ≡ Some s → IsTrue b ↔ MayFault M s p) → b ≡ may_fault_at M c
fault_is decided M c r p b there same says =
    let d = decided M r c.pattern in
    let s : IsTrue b ↔ MayFault M r c.pattern = subst (λ q. IsTrue b ↔ MayFault M r q) same (says r there) in
    same_by b (may_fault M r c.pattern) (λ h. d.1 (s.0 h)) (λ h. s.1 (d.0 h)) ∙ sym (passes_if (λ (r : TermRule). may_fault M r c.pattern) (slice_get M.machine.starts c.number) r there)

-- whether the state is bad
pub violates_tells : LegalCodesShowStates → (M : AbstractMachine) (old new : Network) (w : CodedWindow) (place : ℕ) (cells : List (List Possible)) (K : Window) (fs : List Formula) (e : Edge) → IsWindowOf M old w 0 place → KeepsEdges old new → cells ≡ w.cells.items → K ≡ window M 0 → fs ≡ M.formulas
    → TellsIn new cells e (λ s. list_any (λ (f : Formula). may_fail K s f.prefix f.body) fs)
    → (x : ℕ → Bool) (val : Edge → Bool) → Agrees new x val → is_legal x place (lists_in M 0) ≡ true → val e ≡ is_bad M (coded_state x place (lists_in M 0))
unfolding TellsIn
violates_tells show M old new w place cells K fs e is k sc sk sf tells x val a legal =
    let t : AbsCells = coded_state x place (lists_in M 0) in
    tells x val a t (subst (λ cs. Shows val cs t) (sym sc) (window_shows show M old w 0 place is x val (agrees_before old new x val k a) legal))
    ∙ ap (λ q. list_any (λ (f : Formula). may_fail q t f.prefix f.body) fs) sk ∙ ap (list_any (λ (f : Formula). may_fail (window M 0) t f.prefix f.body)) sf

pub chosen_at : (x : ℕ → Bool) (val : Edge → Bool) (f : Choice → Bool) (choices all : List Choice) (bits : List Edge) (place : ℕ) → choices ≡ all → map val bits ≡ bits_at x place (width (length choices))
    → passes_at f choices (number_of (map val bits)) ≡ passes_at f all (choice_at x place all)
chosen_at x val f choices all bits place same is =
    ap (λ bs. passes_at f choices (number_of bs)) is ∙ ap (λ cs. passes_at f cs (number_of (bits_at x place (width (length cs))))) same

pub bad_tells : (M : AbstractMachine) (c0 c1 c2 c3 : Network) (bits : List Edge) (choices : List Choice) (a b e : Edge)
    → ((x : ℕ → Bool) (val : Edge → Bool) → Agrees c1 x val → is_legal x 0 (lists_in M 0) ≡ true → val a ≡ state_is_bad M x) → KeepsEdges c1 c2
    → ((x : ℕ → Bool) (val : Edge → Bool) → Agrees c2 x val → val b ≡ passes_at (may_fault_at M) choices (number_of (map val bits))) → KeepsEdges c2 c3
    → AreBits c0 bits (start_choice_place M) (width (length choices)) → KeepsEdges c0 c1 → choices ≡ start_choices M
    → ((x : ℕ → Bool) (val : Edge → Bool) → Agrees c3 x val → val e ≡ (val a || val b)) → IsFactWhere c3 (kept_legal M) e (λ x. state_is_bad M x || start_faults M x)
unfolding IsFactWhere
bad_tells M c0 c1 c2 c3 bits choices a b e left k right l are j same value x val ag legal =
    let a2 : Agrees c2 x val = agrees_before c2 c3 x val l ag in
    let a1 : Agrees c1 x val = agrees_before c1 c2 x val k a2 in
    let a0 : Agrees c0 x val = agrees_before c0 c1 x val j a1 in
    value x val ag ∙ ap (λ z. z || val b) (left x val a1 legal)
    ∙ ap (λ z. state_is_bad M x || z) (right x val a2 ∙ chosen_at x val (may_fault_at M) choices (start_choices M) bits (start_choice_place M) same (are.value x val a0))

-- Facts of which the others are asked only where the first holds
pub and_where : (L S T S' T' : Bool) → (L ≡ true → S ≡ S') → (L ≡ true → T ≡ T') → (L && (S && T)) ≡ ((L && S') && T')
and_where true S T S' T' s t = ap (λ z. z && T) (s refl) ∙ ap (λ z. S' && z) (t refl)
and_where false S T S' T' s t = refl

pub legal_told : LegalCodesAreSeen → (M : AbstractMachine) (old new : Network) (w : CodedWindow) (cells : List (List Possible)) (fired place : ℕ) (e : Edge) → IsWindowOf M old w fired place → KeepsEdges old new → cells ≡ w.cells.items
    → ((x : ℕ → Bool) (val : Edge → Bool) → Agrees new x val → val e ≡ legal_edges val cells) → IsFact new e (λ x. is_legal x place (lists_in M fired))
unfolding IsFact
legal_told seen M old new w cells fired place e is k same value x val a =
    value x val a ∙ ap (legal_edges val) same ∙ seen val x place (lists_in M fired) w.cells.items (is.coded x val (agrees_before old new x val k a))

pub start_told : (M : AbstractMachine) (c0 c1 c2 c3 c4 c5 c6 : Network) (bits : List Edge) (choices : List Choice) (l s d bad t i e : Edge)
    → IsFact c1 l (kept_legal M) → KeepsEdges c0 c1
    → ((x : ℕ → Bool) (val : Edge → Bool) → Agrees c2 x val → kept_legal M x ≡ true → val s ≡ passes_at (may_start M x) choices (number_of (map val bits))) → KeepsEdges c1 c2
    → IsFactWhere c3 (kept_legal M) d (λ x. state_is_bad M x || start_faults M x) → KeepsEdges c2 c3
    → IsFact c0 bad (λ x. x (bad_place M)) → AreBits c0 bits (start_choice_place M) (width (length choices)) → choices ≡ start_choices M
    → ((x : ℕ → Bool) (val : Edge → Bool) → Agrees c4 x val → val t ≡ same_truth (val bad) (val d)) → KeepsEdges c3 c4
    → ((x : ℕ → Bool) (val : Edge → Bool) → Agrees c5 x val → val i ≡ (val s && val t)) → KeepsEdges c4 c5
    → ((x : ℕ → Bool) (val : Edge → Bool) → Agrees c6 x val → val e ≡ (val l && val i)) → KeepsEdges c5 c6
    → IsFact c6 e (λ x. is_start_code M x && tells_bad_start M x)
unfolding IsFact IsFactWhere
start_told M c0 c1 c2 c3 c4 c5 c6 bits choices l s d bad t i e legal k1 starts k2 isbad k3 flag are same tie k4 inner k5 outer k6 x val a6 =
    let a5 : Agrees c5 x val = agrees_before c5 c6 x val k6 a6 in
    let a4 : Agrees c4 x val = agrees_before c4 c5 x val k5 a5 in
    let a3 : Agrees c3 x val = agrees_before c3 c4 x val k4 a4 in
    let a2 : Agrees c2 x val = agrees_before c2 c3 x val k3 a3 in
    let a1 : Agrees c1 x val = agrees_before c1 c2 x val k2 a2 in
    let a0 : Agrees c0 x val = agrees_before c0 c1 x val k1 a1 in
    outer x val a6 ∙ ap (λ z. val l && z) (inner x val a5) ∙ ap (λ z. z && (val s && val t)) (legal x val a1)
    ∙ and_where (kept_legal M x) (val s) (val t) (passes_at (may_start M x) (start_choices M) (choice_at x (start_choice_place M) (start_choices M))) (tells_bad_start M x)
    (λ h. starts x val a2 h ∙ chosen_at x val (may_start M x) choices (start_choices M) bits (start_choice_place M) same (are.value x val a0))
    (λ h. tie x val a4 ∙ ap (λ z. same_truth z (val d)) (flag x val a0) ∙ ap (same_truth (x (bad_place M))) (isbad x val a3 h))

pub ruleset starting = (picked_none, picked_all, bits_after, cells_after, window_after)
