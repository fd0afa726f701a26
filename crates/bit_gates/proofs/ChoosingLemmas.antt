-- Which choice the bits of a position name.
use Rattle.std.proofs.Common.{◌≡◌, ℕ, zero, suc, ◌+◌, ◌/◌, ◌%◌, ◌<◌, ◌≤◌, ◌&&◌, ◌||◌, Bool, true, false, cond, List, [], ◌∷◌, ◌++◌, map, length, get_or, take, refl, sym, ◌∙◌, ap, subst, arith}
use Rattle.std.specs.Prelude.{nat_eq, IsTrue}
use Rattle.std.proofs.lemmas.Bool.{ne_eqb}
use Rattle.std.proofs.lemmas.Bool.Decides.{nat_tests}
use Rattle.std.proofs.lemmas.List.{take_more, take_all, length-take-le}
use Rattle.circuit_core.specs.declared.edge.Edge.{Edge}
use Rattle.circuit_core.specs.Network.{Network, IsEdge}
use Rattle.circuit_core.specs.Growth.{KeepsEdges}
use Rattle.bit_encode.specs.Codes.{number_of, matches}
use Rattle.bit_encode.specs.MaySets.{Agrees}
use Rattle.bit_layout.specs.declared.choice.Choice.{Choice}
use Rattle.bit_layout.specs.Choices.{passes_at}
use Rattle.bit_gates.specs.Facts.{IsFactWhere}
use Rattle.bit_gates.proofs.Growing.{keeps_all, keeps_self, agrees_before}

or_false : (a : Bool) → (a || false) ≡ a
or_false true = refl
or_false false = refl

and_false : (a : Bool) → (a && false) ≡ false
and_false true = refl
and_false false = refl

and_true : (a : Bool) → (a && true) ≡ a
and_true true = refl
and_true false = refl

-- bits match a number exactly where they stand for it
matches_is : (n : ℕ) (bs : List Bool) → matches n bs ≡ nat_eq (number_of bs) n
matches_is n [] = grind (arith, nat_tests)
matches_is n (true ∷ bs) = ap (λ b. cond (nat_eq (n % 2) 1) true false && b) (matches_is (n / 2) bs) ∙ grind (arith, nat_tests)
matches_is n (false ∷ bs) = ap (λ b. cond (nat_eq (n % 2) 1) false true && b) (matches_is (n / 2) bs) ∙ grind (arith, nat_tests)

same_suc : (n m : ℕ) → nat_eq n m ≡ nat_eq (suc n) (suc m)
same_suc n m = grind (arith, nat_tests)

-- one more choice
passes_one : (f : Choice → Bool) (c : Choice) (n : ℕ) → passes_at f (c ∷ []) n ≡ (f c && nat_eq n 0)
passes_one f c zero = sym (and_true (f c))
passes_one f c (suc n) = sym (ap (λ b. f c && b) (ne_eqb (suc n) 0 (λ e. absurd (omega arith))) ∙ and_false (f c))

passes_push : (f : Choice → Bool) (cs : List Choice) (c : Choice) (n : ℕ) → passes_at f (cs ++ c ∷ []) n ≡ (passes_at f cs n || (f c && nat_eq n (length cs)))
passes_push f [] c n = passes_one f c n
passes_push f (d ∷ cs) c zero = sym (or_false (f d)) ∙ ap (λ b. f d || b) (sym (ap (λ b. f c && b) (ne_eqb 0 (suc (length cs)) (λ e. absurd (omega arith))) ∙ and_false (f c)))
passes_push f (d ∷ cs) c (suc n) = passes_push f cs c n ∙ ap (λ b. passes_at f cs n || (f c && b)) (same_suc n (length cs))

passes_more : (f : Choice → Bool) (cs : List Choice) (i : ℕ) (d : Choice) (bs : List Bool) → i < length cs → passes_at f (take (i + 1) cs) (number_of bs) ≡ (passes_at f (take i cs) (number_of bs) || (f (get_or cs i d) && matches i bs))
passes_more f cs i d bs h =
    ap (λ s. passes_at f s (number_of bs)) (take_more cs i d h)
    ∙ passes_push f (take i cs) (get_or cs i d) (number_of bs)
    ∙ ap (λ k. passes_at f (take i cs) (number_of bs) || (f (get_or cs i d) && nat_eq (number_of bs) k)) (length-take-le i cs (omega arith))
    ∙ ap (λ b. passes_at f (take i cs) (number_of bs) || (f (get_or cs i d) && b)) (sym (matches_is i bs))

-- what holds of the first choices
pub record AnyPicked (old new : Network) (ok : (ℕ → Bool) → Bool) (e : Edge) (f : (ℕ → Bool) → Choice → Bool) (bits : List Edge) (cs : List Choice) : Type 0 where
  pub keeps : KeepsEdges old new
  pub edge : IsEdge new e
  pub value : (x : ℕ → Bool) (val : Edge → Bool) → Agrees new x val → IsTrue (ok x) → val e ≡ passes_at (f x) cs (number_of (map val bits))

pub picked_none : (c : Network) (ok : (ℕ → Bool) → Bool) (e : Edge) (f : (ℕ → Bool) → Choice → Bool) (bits : List Edge) → IsEdge c e → ((x : ℕ → Bool) (val : Edge → Bool) → Agrees c x val → val e ≡ false) → AnyPicked c c ok e f bits []
picked_none c ok e f bits h g = record { keeps = keeps_self c; edge = h; value = λ x val a k. g x val a }

pub picked_more : (old mid mid2 new : Network) (ok : (ℕ → Bool) → Bool) (e one g : Edge) (f : (ℕ → Bool) → Choice → Bool) (bits : List Edge) (cs : List Choice) (i : ℕ) (d c : Choice) → i < length cs → c ≡ get_or cs i d
    → AnyPicked old mid ok e f bits (take i cs) → KeepsEdges mid mid2 → IsFactWhere mid2 ok one (λ x. f x c) → KeepsEdges mid2 new → IsEdge new g
    → ((x : ℕ → Bool) (val : Edge → Bool) → Agrees new x val → val g ≡ (val e || (val one && matches i (map val bits)))) → AnyPicked old new ok g f bits (take (i + 1) cs)
unfolding IsFactWhere
picked_more old mid mid2 new ok e one g f bits cs i d c inside is had k fact l edge value = record {
  keeps = keeps_all old mid2 new (keeps_all old mid mid2 had.keeps k) l;
  edge = edge;
  value = λ x val a h.
      let a2 : Agrees mid2 x val = agrees_before mid2 new x val l a in
      value x val a
      ∙ ap (λ b. b || (val one && matches i (map val bits))) (had.value x val (agrees_before mid mid2 x val k a2) h)
      ∙ ap (λ b. passes_at (f x) (take i cs) (number_of (map val bits)) || (b && matches i (map val bits))) (fact x val a2 h ∙ ap (f x) is)
      ∙ sym (passes_more (f x) cs i d (map val bits) inside);
}

pub picked_all : (old new : Network) (ok : (ℕ → Bool) → Bool) (e : Edge) (f : (ℕ → Bool) → Choice → Bool) (bits : List Edge) (cs : List Choice) (i : ℕ) → length cs ≤ i → AnyPicked old new ok e f bits (take i cs) → AnyPicked old new ok e f bits cs
picked_all old new ok e f bits cs i past had = subst (AnyPicked old new ok e f bits) (take_all i cs past) had

pub bits_after : (old new : Network) (bits : List Edge) → KeepsEdges old new → ((n : ℕ) (d : Edge) → n < length bits → IsEdge old (get_or bits n d)) → (n : ℕ) (d : Edge) → n < length bits → IsEdge new (get_or bits n d)
bits_after old new bits k h n d l = k.edges _ (h n d l)

pub ruleset choosing = (picked_none, picked_all, bits_after)
