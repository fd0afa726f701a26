-- Members of sets of values with edges.
use Rattle.std.proofs.Common.{◌≡◌, ℕ, zero, suc, ◌<◌, ◌&&◌, ◌||◌, Bool, true, false, List, [], ◌∷◌, ◌++◌, length, get_or, set, refl, sym, ◌∙◌, ap, arith}
use Rattle.circuit_core.specs.declared.edge.Edge.{Edge}
use Rattle.other_abstract.specs.declared.value.AbsValue.{AbsValue}
use Rattle.bit_encode.specs.declared.set.Possible.{Possible}
use Rattle.bit_encode.specs.MaySets.{held}

or_swap : (a b c : Bool) → ((a || b) || c) ≡ ((a || c) || b)
or_swap true b c = refl
or_swap false true true = refl
or_swap false true false = refl
or_swap false false true = refl
or_swap false false false = refl

pub or_assoc : (a b c : Bool) → ((a || b) || c) ≡ (a || (b || c))
or_assoc true b c = refl
or_assoc false b c = refl

pub or_false : (a : Bool) → (a || false) ≡ a
or_false true = refl
or_false false = refl

pub and_false : (a : Bool) → (a && false) ≡ false
and_false true = refl
and_false false = refl

pub and_true : (a : Bool) → (a && true) ≡ a
and_true true = refl
and_true false = refl

and_or : (p a b : Bool) → (p && (a || b)) ≡ ((p && a) || (p && b))
and_or true a b = refl
and_or false a b = refl

-- the edge of a value is widened
pub held_set : (val : Edge → Bool) (p : AbsValue → Bool) (s : List Possible) (i : ℕ) (d : Possible) (v : AbsValue) (e f : Edge)
    → i < length s → (get_or s i d).value ≡ v → val f ≡ (val (get_or s i d).edge || val e)
    → held val p (set s i (record { value = v; edge = f })) ≡ (held val p s || (p v && val e))
held_set val p [] i d v e f h same wide = absurd (omega arith)
held_set val p (o ∷ s) zero d v e f h same wide =
    ap (λ b. (p v && b) || held val p s) wide
    ∙ ap (λ b. b || held val p s) (and_or (p v) (val o.edge) (val e))
    ∙ or_swap (p v && val o.edge) (p v && val e) (held val p s)
    ∙ ap (λ w. ((p w && val o.edge) || held val p s) || (p v && val e)) (sym same)
held_set val p (o ∷ s) (suc i) d v e f h same wide =
    ap (λ b. (p o.value && val o.edge) || b) (held_set val p s i d v e f (omega arith) same wide)
    ∙ sym (or_assoc (p o.value && val o.edge) (held val p s) (p v && val e))

-- one member more
pub held_push : (val : Edge → Bool) (p : AbsValue → Bool) (s : List Possible) (v : AbsValue) (e : Edge)
    → held val p (s ++ record { value = v; edge = e } ∷ []) ≡ (held val p s || (p v && val e))
held_push val p [] v e = or_false (p v && val e)
held_push val p (o ∷ s) v e = ap (λ b. (p o.value && val o.edge) || b) (held_push val p s v e) ∙ sym (or_assoc (p o.value && val o.edge) (held val p s) (p v && val e))

pub ruleset members = (held_set, held_push, or_assoc)
