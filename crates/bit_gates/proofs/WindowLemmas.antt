-- Coded windows as a circuit grows.
use Rattle.std.proofs.Common.{◌≡◌, ℕ, zero, suc, ◌<◌, ◌&&◌, Bool, true, false, List, [], ◌∷◌, ◌++◌, length, get_or, refl, sym, ◌∙◌, ap, subst, arith}
use Rattle.std.specs.Prelude.{nat_eq}
use Rattle.std.proofs.lemmas.Bool.Decides.{nat_tests}
use Rattle.circuit_core.specs.declared.edge.Edge.{Edge}
use Rattle.circuit_core.specs.Network.{Network}
use Rattle.circuit_core.specs.Growth.{KeepsEdges}
use Rattle.other_abstract.specs.declared.machine.AbstractMachine.{AbstractMachine}
use Rattle.other_abstract.specs.Windows.{Window}
use Rattle.other_abstract.specs.May.{AbsCells}
use Rattle.other_abstract.specs.Machines.{window}
use Rattle.other_abstract.specs.Tests.{window_nodes}
use Rattle.bit_encode.specs.declared.set.Possible.{Possible}
use Rattle.bit_encode.specs.MaySets.{Agrees}
use Rattle.bit_encode.specs.Codes.{cell_lists}
use Rattle.bit_encode.specs.Coding.{HasCells, AreCoded}
use Rattle.bit_encode.specs.Terms.{TellsIn}
use Rattle.bit_encode.specs.Steps.{TellsBoth}
use Rattle.bit_layout.specs.Layout.{lists_in, window_place}
use Rattle.bit_gates.specs.declared.window.CodedWindow.{CodedWindow}
use Rattle.bit_gates.specs.declared.window.Opened.{Opened}
use Rattle.bit_gates.specs.Facts.{IsFact}
use Rattle.bit_gates.specs.Inputs.{IsWindowOf, AreWindows, AreBits, IsOpened, AreOpened}
use Rattle.bit_gates.proofs.Growing.{agrees_before}

pub cells_after : (old new : Network) (cells : List (List Possible)) → KeepsEdges old new → HasCells old cells → HasCells new cells
cells_after old new cells k h n d l = λ i e m. k.edges _ (h n d l i e m)

pub window_after : (M : AbstractMachine) (old new : Network) (w : CodedWindow) (fired place : ℕ) → KeepsEdges old new → IsWindowOf M old w fired place → IsWindowOf M new w fired place
window_after M old new w fired place k h = record {
  number = h.number;
  nodes = h.nodes;
  edges = cells_after old new w.cells.items k h.edges;
  coded = λ x val a. h.coded x val (agrees_before old new x val k a);
}

pub windows_after : (M : AbstractMachine) (old new : Network) (ws : List CodedWindow) (count : ℕ) → KeepsEdges old new → AreWindows M old ws count → AreWindows M new ws count
windows_after M old new ws count k h = record { many = h.many; each = λ j d l. window_after M old new (get_or ws j d) j (window_place M j) k (h.each j d l) }

pub fact_after : (old new : Network) (e : Edge) (f : (ℕ → Bool) → Bool) → KeepsEdges old new → IsFact old e f → IsFact new e f
unfolding IsFact
fact_after old new e f k h x val a = h x val (agrees_before old new x val k a)

tells_after : (old new : Network) (wide before : List (List Possible)) (e : Edge) (f : AbsCells → AbsCells → Bool) → KeepsEdges old new → TellsBoth old wide before e f → TellsBoth new wide before e f
unfolding TellsBoth
tells_after old new wide before e f k h x val a = h x val (agrees_before old new x val k a)

pub opened_after : (M : AbstractMachine) (old new : Network) (o : Opened) (wide before : List (List Possible)) (fired place : ℕ) → KeepsEdges old new → IsOpened M old o wide before fired place → IsOpened M new o wide before fired place
opened_after M old new o wide before fired place k h = record {
  legal_edge = k.edges o.legal h.legal_edge;
  ready_edge = k.edges o.ready h.ready_edge;
  legal = fact_after old new o.legal _ k h.legal;
  opens = tells_after old new wide before o.ready _ k h.opens;
}

pub all_opened_after : (M : AbstractMachine) (old new : Network) (os : List Opened) (ws : List CodedWindow) (before : List (List Possible)) (count : ℕ) → KeepsEdges old new → AreOpened M old os ws before count → AreOpened M new os ws before count
all_opened_after M old new os ws before count k h = record { many = h.many; each = λ j o d l. opened_after M old new (get_or os j o) (get_or ws j d).cells.items before j (window_place M j) k (h.each j o d l) }

pub are_bits_after : (old new : Network) (bits : List Edge) (place count : ℕ) → KeepsEdges old new → AreBits old bits place count → AreBits new bits place count
are_bits_after old new bits place count k h = record { edges = λ n d l. k.edges _ (h.edges n d l); value = λ x val a. h.value x val (agrees_before old new x val k a) }

pub get_same : {X : Type 0} (xs : List X) (i : ℕ) (d e : X) → i < length xs → get_or xs i d ≡ get_or xs i e
get_same [] i d e l = absurd (omega (arith, l))
get_same (x ∷ xs) zero d e l = refl
get_same (x ∷ xs) (suc i) d e l = get_same xs i d e (omega (arith, l))

-- lists with one more
get_before : {X : Type 0} (xs : List X) (x : X) (j : ℕ) (d : X) → j < length xs → get_or (xs ++ x ∷ []) j d ≡ get_or xs j d
get_before [] x j d l = absurd (omega (arith, l))
get_before (y ∷ xs) x zero d l = refl
get_before (y ∷ xs) x (suc j) d l = get_before xs x j d (omega (arith, l))

get_last : {X : Type 0} (xs : List X) (x : X) (d : X) → get_or (xs ++ x ∷ []) (length xs) d ≡ x
get_last [] x d = refl
get_last (y ∷ xs) x d = get_last xs x d

length_more : {X : Type 0} (xs : List X) (x : X) → length (xs ++ x ∷ []) ≡ suc (length xs)
length_more [] x = refl
length_more (y ∷ xs) x = ap suc (length_more xs x)

by_last : (P : ℕ → Type 0) (count : ℕ) → ((j : ℕ) → j < count → P j) → P count → (j : ℕ) → j < suc count → P j
by_last P count before last j l = go (nat_eq j count) refl
  where
    go : (b : Bool) → nat_eq j count ≡ b → P j
    go true e = let same : count ≡ j = grind (arith, nat_tests, e) in subst P same last
    go false e = let less : j < count = grind (arith, nat_tests, e, l) in before j less

-- one more window
pub windows_none : (M : AbstractMachine) (c : Network) → AreWindows M c [] 0
windows_none M c = record { many = refl; each = λ j d l. absurd (omega (arith, l)) }

pub windows_more : (M : AbstractMachine) (old new : Network) (ws out : List CodedWindow) (w : CodedWindow) (count place : ℕ) → AreWindows M old ws count → KeepsEdges old new → IsWindowOf M new w count place → place ≡ window_place M count → out ≡ ws ++ w ∷ []
    → AreWindows M new out (suc count)
windows_more M old new ws out w count place had k is at pushed =
    subst (λ o. AreWindows M new o (suc count)) (sym pushed)
    (record {
      many = length_more ws w ∙ ap suc had.many;
      each = λ j d l. by_last (λ j. IsWindowOf M new (get_or (ws ++ w ∷ []) j d) j (window_place M j)) count
          (λ j l. subst (λ v. IsWindowOf M new v j (window_place M j)) (sym (get_before ws w j d (subst (λ n. j < n) (sym had.many) l))) (window_after M old new (get_or ws j d) j (window_place M j) k (had.each j d l)))
          (subst (λ v. IsWindowOf M new v count (window_place M count)) (sym (ap (λ n. get_or (ws ++ w ∷ []) n d) (sym had.many) ∙ get_last ws w d)) (subst (IsWindowOf M new w count) at is))
          j l;
    })

-- one more window that is opened
pub opened_none : (M : AbstractMachine) (c : Network) (ws : List CodedWindow) (before : List (List Possible)) → AreOpened M c [] ws before 0
opened_none M c ws before = record { many = refl; each = λ j o d l. absurd (omega (arith, l)) }

pub opened_more : (M : AbstractMachine) (old new : Network) (os out : List Opened) (ws : List CodedWindow) (o : Opened) (before : List (List Possible)) (count : ℕ) → AreOpened M old os ws before count → KeepsEdges old new
    → ((d : CodedWindow) → IsOpened M new o (get_or ws count d).cells.items before count (window_place M count)) → out ≡ os ++ o ∷ [] → AreOpened M new out ws before (suc count)
opened_more M old new os out ws o before count had k is pushed =
    subst (λ l. AreOpened M new l ws before (suc count)) (sym pushed)
    (record {
      many = length_more os o ∙ ap suc had.many;
      each = λ j p d l. by_last (λ j. IsOpened M new (get_or (os ++ o ∷ []) j p) (get_or ws j d).cells.items before j (window_place M j)) count
          (λ j l. subst (λ v. IsOpened M new v (get_or ws j d).cells.items before j (window_place M j)) (sym (get_before os o j p (subst (λ n. j < n) (sym had.many) l))) (opened_after M old new (get_or os j p) (get_or ws j d).cells.items before j (window_place M j) k (had.each j p d l)))
          (subst (λ v. IsOpened M new v (get_or ws count d).cells.items before count (window_place M count)) (sym (ap (λ n. get_or (os ++ o ∷ []) n p) (sym had.many) ∙ get_last os o p)) (is d))
          j l;
    })

-- a window that was coded
pub window_made : (M : AbstractMachine) (new : Network) (w : CodedWindow) (K : Window) (fired place : ℕ) (cells : List (List Possible)) → w.fired ≡ fired → w.nodes.items ≡ window_nodes (window M fired) → w.cells.items ≡ cells → K ≡ window M fired
    → HasCells new cells → ((x : ℕ → Bool) (val : Edge → Bool) → Agrees new x val → AreCoded val x place (cell_lists K) cells) → IsWindowOf M new w fired place
window_made M new w K fired place cells f n same is edges coded = record {
  number = f;
  nodes = n;
  edges = subst (HasCells new) (sym same) edges;
  coded = λ x val a. subst (λ cs. AreCoded val x place (lists_in M fired) cs) (sym same) (subst (λ k. AreCoded val x place (cell_lists k) cells) is (coded x val a));
}

-- two facts at once
pub opens_both : (mid mid2 new : Network) (wide before : List (List Possible)) (a b e : Edge) (f : AbsCells → AbsCells → Bool) (g : AbsCells → Bool) → TellsBoth mid wide before a f → KeepsEdges mid mid2 → TellsIn mid2 wide b g → KeepsEdges mid2 new
    → ((x : ℕ → Bool) (val : Edge → Bool) → Agrees new x val → val e ≡ (val a && val b)) → TellsBoth new wide before e (λ w s. f w s && g w)
unfolding TellsBoth TellsIn
opens_both mid mid2 new wide before a b e f g is k are l value x val ag w s shw shs =
    let a2 : Agrees mid2 x val = agrees_before mid2 new x val l ag in
    value x val ag ∙ ap (λ z. z && val b) (is x val (agrees_before mid mid2 x val k a2) w s shw shs) ∙ ap (λ z. f w s && z) (are x val a2 w shw)

pub ruleset windows = (cells_after, window_after, windows_after, windows_none, opened_none)
