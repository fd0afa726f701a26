-- Operations on numbers and ranges: their demands say where they fault.
use Rattle.std.proofs.Common.{◌≡◌, ℕ, Bool, true, false, not, ◌&&◌, ◌||◌, cond, List, [], ◌∷◌, map, None, Some, ◌⊎◌, inl, inr, refl, sym, ap, ◌∙◌, subst, arith}
use Rattle.std.specs.Prelude.{ℤ, pos, negsuc, ◌+ℤ◌, ◌-ℤ◌, ◌*ℤ◌, int_lt, int_div, int_rem, if◌then◌else◌}
use Rattle.term_core.specs.declared.value.Value.{Value}
use Rattle.term_core.specs.declared.value.Value.TheVariants as v
use Rattle.term_core.specs.declared.value.ArithOp.{ArithOp}
use Rattle.term_core.specs.declared.value.ArithOp.TheVariants as op
use Rattle.term_core.specs.declared.term.Term as t
use Rattle.term_core.specs.declared.term.Term.{Term}
use Rattle.term_core.specs.Values.{truth, number, same_value, same_number, is_number, is_zero, in_range as kept_in_range, arith as arith_of}
use Rattle.term_core.specs.Meaning.{Cells, value_of}
use Rattle.murphi_ast.specs.declared.token.Span.{Span}
use Rattle.murphi_typed.specs.declared.types.Simple.{Simple}
use Rattle.murphi_typed.specs.declared.types.Simple.TheVariants as simple
use Rattle.murphi_typed.specs.Values.{is_value, may_hold}
use Rattle.murphi_typed.specs.Outcome.{Got, Fault, given, or_fault}
use Rattle.murphi_typed.specs.Expressions.{result_of, in_range, calculated, fitting}
use Rattle.murphi_typed.specs.Execution.{stored}
use Rattle.murphi_typed.specs.WellTyped.{numbers, widened}
use Rattle.rule_inline.specs.Demands.{Demand, demand}
use Rattle.rule_inline.specs.Parts.{undefined, at_most, bounds, stored_fits, whole, lowest, highest, minus_one, product_fits, result_fits}
use Rattle.rule_inline.proofs.ValueLemmas.{absurd_false}
use Rattle.rule_inline.proofs.TermLemmas.{value-Known, value-Not, value-And, value-Or, value-If, value-Same, value-Less, value-Arith, is_true, and_of, or_of}
use Rattle.rule_inline.proofs.Outcome.{Either, either_map, AllHold, SomeFails, Tells, one_holds, one_fails, tells_test, all_joined, fails_first, fails_second}
use Rattle.rule_inline.proofs.NumberLemmas.{sum_fits, difference_fits, product_fits as product_is, quotient_fits, remainder_fits}
use Rattle.rule_inline.proofs.TypeLemmas.{is_a_number, not_undefined, at_most_is, bounds_are}

cond_of : {A : Type 0} {a a' : Bool} {b b' c c' : A} → a ≡ a' → b ≡ b' → c ≡ c' → cond a b c ≡ cond a' b' c'
cond_of {A} {a} {a'} {b} {b'} {c} {c'} e f g = ap (λ x. cond x b c) e ∙ ap (λ x. cond a' x c) f ∙ ap (λ x. cond a' b' x) g

truth_cond : (a : Bool) (b c : Value) → truth (cond a b c) ≡ cond a (truth b) (truth c)
truth_cond true b c = refl
truth_cond false b c = refl

pub number_value : (N : ℕ) (z : ℤ) → is_number z ≡ true → is_value N numbers (v.Number z) ≡ true
number_value N (pos z) e = grind (arith, e)
number_value N (negsuc z) e = grind (arith, e)

module _ (N : ℕ) (s : Cells) (fr : List ℕ) where
  if_true : (a b c : Term) → is_true N s fr (t.If a b c) ≡ cond (is_true N s fr a) (is_true N s fr b) (is_true N s fr c)
  if_true a b c = ap truth (value-If N s fr a b c) ∙ truth_cond (is_true N s fr a) (value_of N s fr b) (value_of N s fr c)

  not_true : (a : Term) → is_true N s fr (t.Not a) ≡ not (is_true N s fr a)
  not_true a = ap truth (value-Not N s fr a)

  same_true : (a b : Term) (x y : Value) → value_of N s fr a ≡ x → value_of N s fr b ≡ y → is_true N s fr (t.Same a b) ≡ same_value x y
  same_true a b x y e f = ap truth (value-Same N s fr a b) ∙ ap (λ u. same_value u (value_of N s fr b)) e ∙ ap (same_value x) f

  known : (z : ℤ) → value_of N s fr (t.Known (v.Number z)) ≡ v.Number z
  known z = value-Known N s fr (v.Number z)

  module _ (at : Span) (left right : Term) (x y : ℤ) (left_is : value_of N s fr left ≡ v.Number x) (right_is : value_of N s fr right ≡ v.Number y) (fx : is_number x ≡ true) (fy : is_number y ≡ true) where
    with_right : (o : ArithOp) (c : ℤ) → value_of N s fr (t.Arith o (t.Known (v.Number c)) right) ≡ v.Number (arith_of o c y)
    with_right o c = value-Arith N s fr o (t.Known (v.Number c)) right ∙ ap (λ u. v.Number (arith_of o (number u) (number (value_of N s fr right)))) (known c) ∙ ap (λ u. v.Number (arith_of o c (number u))) right_is

    value_is : (o : ArithOp) → value_of N s fr (t.Arith o left right) ≡ v.Number (arith_of o x y)
    value_is o = value-Arith N s fr o left right ∙ ap (λ u. v.Number (arith_of o (number u) (number (value_of N s fr right)))) left_is ∙ ap (λ u. v.Number (arith_of o x (number u))) right_is

    over_zero : is_true N s fr (t.Less (whole 0) right) ≡ int_lt (pos 0) y
    over_zero = ap truth (value-Less N s fr (whole 0) right) ∙ ap (λ u. int_lt (number u) (number (value_of N s fr right))) (known (pos 0)) ∙ ap (λ u. int_lt (pos 0) (number u)) right_is

    least : (e : Term) (z : ℤ) → value_of N s fr e ≡ v.Number z → is_true N s fr (at_most e left) ≡ not (int_lt x z)
    least e z is = at_most_is N s fr e left (v.Number z) (v.Number x) is left_is

    most : (e : Term) (z : ℤ) → value_of N s fr e ≡ v.Number z → is_true N s fr (at_most left e) ≡ not (int_lt z x)
    most e z is = at_most_is N s fr left e (v.Number x) (v.Number z) left_is is

    -- what an operation gives, and what its operands' term has
    abbrev Calculates : ArithOp → Value → Type 0
    Calculates o w = (value_of N s fr (t.Arith o left right) ≡ w) × (is_value N numbers w ≡ true)

    ranged : (o : ArithOp) (must : Term) (z : ℤ) → arith_of o x y ≡ kept_in_range z → is_true N s fr must ≡ is_number z → Tells N s fr (in_range at z) (demand must ∷ []) (Calculates o)
    ranged o must z e test = tells_test N s fr must (in_range at z) (Calculates o) (go (is_number z) refl)
      where
        go : (b : Bool) → is_number z ≡ b → Either (is_true N s fr must ≡ true) (is_true N s fr must ≡ false) (if b then Got (v.Number z) else Fault at) (Calculates o)
        go true was = (test ∙ was, (value_is o ∙ ap v.Number (e ∙ ap (λ b. if b then z else pos 0) was), number_value N z was))
        go false was = test ∙ was

    sum_test : is_true N s fr (t.If (t.Less (whole 0) right) (at_most left (t.Arith op.Subtract highest right)) (at_most (t.Arith op.Subtract lowest right) left)) ≡ is_number (x +ℤ y)
    sum_test =
        if_true (t.Less (whole 0) right) (at_most left (t.Arith op.Subtract highest right)) (at_most (t.Arith op.Subtract lowest right) left)
        ∙ cond_of over_zero (most (t.Arith op.Subtract highest right) (arith_of op.Subtract (pos 32767) y) (with_right op.Subtract (pos 32767))) (least (t.Arith op.Subtract lowest right) (arith_of op.Subtract (negsuc 32767) y) (with_right op.Subtract (negsuc 32767)))
        ∙ sum_fits x y fx fy

    difference_test : is_true N s fr (t.If (t.Less (whole 0) right) (at_most (t.Arith op.Add lowest right) left) (at_most left (t.Arith op.Add highest right))) ≡ is_number (x -ℤ y)
    difference_test =
        if_true (t.Less (whole 0) right) (at_most (t.Arith op.Add lowest right) left) (at_most left (t.Arith op.Add highest right))
        ∙ cond_of over_zero (least (t.Arith op.Add lowest right) (arith_of op.Add (negsuc 32767) y) (with_right op.Add (negsuc 32767))) (most (t.Arith op.Add highest right) (arith_of op.Add (pos 32767) y) (with_right op.Add (pos 32767)))
        ∙ difference_fits x y fx fy

    two_true : (a b : Term) (p q : Bool) → is_true N s fr a ≡ p → is_true N s fr b ≡ q → is_true N s fr (t.And (a ∷ b ∷ [])) ≡ (p && (q && true))
    two_true a b p q e f = ap truth (value-And N s fr (a ∷ b ∷ [])) ∙ and_of e (and_of f refl)

    right_same : (c : ℤ) → is_true N s fr (t.Same right (t.Known (v.Number c))) ≡ same_number y c
    right_same c = same_true right (t.Known (v.Number c)) (v.Number y) (v.Number c) right_is (known c)

    left_same : (c : ℤ) → is_true N s fr (t.Same left (t.Known (v.Number c))) ≡ same_number x c
    left_same c = same_true left (t.Known (v.Number c)) (v.Number x) (v.Number c) left_is (known c)

    product_true : is_true N s fr (product_fits left right) ≡ is_number (x *ℤ y)
    product_true =
        if_true (t.Less (whole 0) right) _ _
        ∙ cond_of over_zero
        (two_true _ _ _ _ (most (t.Arith op.Divide highest right) (arith_of op.Divide (pos 32767) y) (with_right op.Divide (pos 32767))) (least (t.Arith op.Divide lowest right) (arith_of op.Divide (negsuc 32767) y) (with_right op.Divide (negsuc 32767))))
        (if_true (t.Same right (whole 0)) _ _
        ∙ cond_of (right_same (pos 0)) (ap truth (value-Known N s fr (v.Truth true)))
        (if_true (t.Same right minus_one) _ _
        ∙ cond_of (right_same (negsuc 0)) (not_true (t.Same left lowest) ∙ ap not (left_same (negsuc 32767)))
        (two_true _ _ _ _ (least (t.Arith op.Divide highest right) (arith_of op.Divide (pos 32767) y) (with_right op.Divide (pos 32767))) (most (t.Arith op.Divide lowest right) (arith_of op.Divide (negsuc 32767) y) (with_right op.Divide (negsuc 32767))))))
        ∙ product_is x y fx fy

    divisor_true : is_true N s fr (t.Not (t.Same right (whole 0))) ≡ not (is_zero y)
    divisor_true = not_true (t.Same right (whole 0)) ∙ ap not (right_same (pos 0))

    quotient_true : is_zero y ≡ false → is_true N s fr (t.Not (t.And (t.Same left lowest ∷ t.Same right minus_one ∷ []))) ≡ is_number (int_div x y)
    quotient_true nz = not_true (t.And (t.Same left lowest ∷ t.Same right minus_one ∷ [])) ∙ ap not (two_true (t.Same left lowest) (t.Same right minus_one) _ _ (left_same (negsuc 32767)) (right_same (negsuc 0))) ∙ quotient_fits x y fx fy nz

    other : {A : Type 0} (b : Bool) (p q : A) → b ≡ false → cond b p q ≡ q
    other true p q e = absurd_false (sym e)
    other false p q e = refl

    -- an operation faults where one of its demands is false
    pub tells_numbers : (o : ArithOp) → Tells N s fr (given (or_fault at (result_of o x y)) (in_range at)) (map demand (result_fits o left right)) (Calculates o)
    tells_numbers op.Add = ranged op.Add _ (x +ℤ y) refl sum_test
    tells_numbers op.Subtract = ranged op.Subtract _ (x -ℤ y) refl difference_test
    tells_numbers op.Times = ranged op.Times _ (x *ℤ y) refl product_true
    tells_numbers op.Divide = go (is_zero y) refl
      where
        go : (b : Bool) → is_zero y ≡ b → Tells N s fr (given (or_fault at (if b then None else Some (int_div x y))) (in_range at)) (map demand (result_fits op.Divide left right)) (Calculates op.Divide)
        go true was = fails_first N s fr (demand (t.Not (t.Same right (whole 0))) ∷ []) (demand (t.Not (t.And (t.Same left lowest ∷ t.Same right minus_one ∷ []))) ∷ []) (one_fails N s fr (t.Not (t.Same right (whole 0))) (divisor_true ∙ ap not was))
        go false was =
            either_map _ _ _ _ (in_range at (int_div x y)) (Calculates op.Divide) (Calculates op.Divide) (ranged op.Divide (t.Not (t.And (t.Same left lowest ∷ t.Same right minus_one ∷ []))) (int_div x y) (other (is_zero y) (pos 0) (kept_in_range (int_div x y)) was) (quotient_true was))
            (all_joined N s fr (demand (t.Not (t.Same right (whole 0))) ∷ []) (demand (t.Not (t.And (t.Same left lowest ∷ t.Same right minus_one ∷ []))) ∷ []) (one_holds N s fr (t.Not (t.Same right (whole 0))) (divisor_true ∙ ap not was)))
            (fails_second N s fr (demand (t.Not (t.Same right (whole 0))) ∷ []) (demand (t.Not (t.And (t.Same left lowest ∷ t.Same right minus_one ∷ []))) ∷ []))
            (λ w p. p)
    tells_numbers op.Modulo = go (is_zero y) refl
      where
        go : (b : Bool) → is_zero y ≡ b → Tells N s fr (given (or_fault at (if b then None else Some (int_rem x y))) (in_range at)) (map demand (result_fits op.Modulo left right)) (Calculates op.Modulo)
        go true was = one_fails N s fr (t.Not (t.Same right (whole 0))) (divisor_true ∙ ap not was)
        go false was =
            let fits : is_number (int_rem x y) ≡ true = remainder_fits x y fx in
            let e : arith_of op.Modulo x y ≡ int_rem x y = other (is_zero y) (pos 0) (kept_in_range (int_rem x y)) was ∙ ap (λ b. if b then int_rem x y else pos 0) fits in
            subst (λ b. Tells N s fr (if b then Got (v.Number (int_rem x y)) else Fault at) (map demand (result_fits op.Modulo left right)) (Calculates op.Modulo)) (sym fits)
            (one_holds N s fr (t.Not (t.Same right (whole 0))) (divisor_true ∙ ap not was), (value_is op.Modulo ∙ ap v.Number e, number_value N (int_rem x y) fits))

  -- the same of values that are numbers
  pub tells_calculated : (at : Span) (o : ArithOp) (left right : Term) (p q : Value) → value_of N s fr left ≡ p → value_of N s fr right ≡ q → is_value N numbers p ≡ true → is_value N numbers q ≡ true → Tells N s fr (calculated at o p q) (map demand (result_fits o left right)) (λ w. (value_of N s fr (t.Arith o left right) ≡ w) × (is_value N numbers w ≡ true))
  tells_calculated at o left right p q e f fp fq =
      let (x, p_is, fx) = is_a_number N p fp in
      let (y, q_is, fy) = is_a_number N q fq in
      subst (λ u. Tells N s fr (calculated at o u q) (map demand (result_fits o left right)) (λ w. (value_of N s fr (t.Arith o left right) ≡ w) × (is_value N numbers w ≡ true))) (sym p_is)
      (subst (λ u. Tells N s fr (calculated at o (v.Number x) u) (map demand (result_fits o left right)) (λ w. (value_of N s fr (t.Arith o left right) ≡ w) × (is_value N numbers w ≡ true))) (sym q_is)
      (tells_numbers at left right x y (e ∙ p_is) (f ∙ q_is) fx fy o))

  -- Ranges

  -- a value that is stored is undefined, if that may be, or of the type
  abbrev pub Storable : Bool → Simple → Value → Type 0
  Storable plain into x = (is_value N (widened into) x ≡ true) ⊎ ((plain ≡ true) × (x ≡ v.Undefined))

  pub may_is : (into : Simple) (x : Value) → same_value x v.Undefined ≡ false → may_hold N into x ≡ is_value N into x
  may_is into v.Undefined e = absurd_false (sym e)
  may_is into (v.Truth b) e = refl
  may_is into (v.Number z) e = refl
  may_is into (v.Member k i) e = refl
  may_is into (v.Node n) e = refl

  -- what holds of a value that is stored where it fits
  fitted : (at : Span) (b : Bool) (x : Value) (qs : List Demand) (e : Term) → value_of N s fr e ≡ x → (b ≡ true → AllHold N s fr qs) → (b ≡ false → SomeFails N s fr qs) → Tells N s fr (fitting b at x) qs (λ w. value_of N s fr e ≡ w)
  fitted at true x qs e is good bad = (good refl, is)
  fitted at false x qs e is good bad = bad refl

  -- where nothing is demanded the value fits
  unranged : (at : Span) (plain : Bool) (into : Simple) (e : Term) (x : Value) → value_of N s fr e ≡ x → widened into ≡ into → Storable plain into x → Tells N s fr (stored N at into x) [] (λ w. value_of N s fr e ≡ w)
  unranged at plain into e x is same (inl fine) =
      let fits : is_value N into x ≡ true = ap (λ u. is_value N u x) (sym same) ∙ fine in
      fitted at (may_hold N into x) x [] e is (λ h. tt) (λ h. absurd_false (sym h ∙ may_is into x (not_undefined N into x fits) ∙ fits))
  unranged at plain into e x is same (inr (p, undef)) = fitted at (may_hold N into x) x [] e is (λ h. tt) (λ h. absurd_false (sym h ∙ ap (may_hold N into) undef))

  module _ (at : Span) (low high : ℤ) (e : Term) (x : Value) (is : value_of N s fr e ≡ x) where
    abbrev range : Simple
    range = simple.Range low high

    abbrev tests : Term
    tests = t.And (bounds range e)

    tests_true : is_value N numbers x ≡ true → is_true N s fr tests ≡ may_hold N range x
    tests_true fine = ap truth (value-And N s fr (bounds range e)) ∙ bounds_are N s fr range e x is fine ∙ sym (may_is range x (not_undefined N numbers x fine))

    abbrev or_undefined : Term
    or_undefined = t.Or (t.Same e undefined ∷ tests ∷ [])

    or_true : (b : Bool) → same_value x v.Undefined ≡ b → is_true N s fr or_undefined ≡ (if b then true else is_true N s fr tests)
    or_true b was =
        ap truth (value-Or N s fr (t.Same e undefined ∷ tests ∷ []))
        ∙ or_of (same_true e undefined x v.Undefined is (value-Known N s fr v.Undefined) ∙ was) (nothing (is_true N s fr tests))
        ∙ go b
      where
        nothing : (b : Bool) → (b || false) ≡ b
        nothing true = refl
        nothing false = refl

        go : (b : Bool) → (b || is_true N s fr tests) ≡ (if b then true else is_true N s fr tests)
        go true = refl
        go false = refl

    ranged_false : Storable false range x → Tells N s fr (stored N at range x) (demand tests ∷ []) (λ w. value_of N s fr e ≡ w)
    ranged_false (inl fine) = fitted at (may_hold N range x) x (demand tests ∷ []) e is (λ h. one_holds N s fr tests (tests_true fine ∙ h)) (λ h. one_fails N s fr tests (tests_true fine ∙ h))
    ranged_false (inr (p, undef)) = absurd_false p

    ranged_true : Storable true range x → Tells N s fr (stored N at range x) (demand or_undefined ∷ []) (λ w. value_of N s fr e ≡ w)
    ranged_true (inl fine) =
        let same : is_true N s fr or_undefined ≡ may_hold N range x = or_true false (not_undefined N numbers x fine) ∙ tests_true fine in
        fitted at (may_hold N range x) x (demand or_undefined ∷ []) e is (λ h. one_holds N s fr or_undefined (same ∙ h)) (λ h. one_fails N s fr or_undefined (same ∙ h))
    ranged_true (inr (p, undef)) =
        fitted at (may_hold N range x) x (demand or_undefined ∷ []) e is (λ h. one_holds N s fr or_undefined (or_true true (ap (λ u. same_value u v.Undefined) undef))) (λ h. absurd_false (sym h ∙ ap (may_hold N range) undef))

  -- a value that does not fit the place that it is stored in faults
  pub tells_stored : (at : Span) (plain : Bool) (into : Simple) (e : Term) (x : Value) → value_of N s fr e ≡ x → Storable plain into x → Tells N s fr (stored N at into x) (stored_fits plain into e) (λ w. value_of N s fr e ≡ w)
  tells_stored at plain simple.Truth e x is fine = unranged at plain simple.Truth e x is refl fine
  tells_stored at plain (simple.Listed k n) e x is fine = unranged at plain (simple.Listed k n) e x is refl fine
  tells_stored at plain (simple.Scalarset k n) e x is fine = unranged at plain (simple.Scalarset k n) e x is refl fine
  tells_stored at plain simple.Node e x is fine = unranged at plain simple.Node e x is refl fine
  tells_stored at true (simple.Range low high) e x is fine = ranged_true at low high e x is fine
  tells_stored at false (simple.Range low high) e x is fine = ranged_false at low high e x is fine
