-- The clause that a number names, by the list in which it stands.
use Rattle.std.proofs.Common.{◌≡◌, ℕ, ◌+◌, ◌-◌, ◌<◌, ◌≤◌, ◌++◌, zero, suc, List, [], ◌∷◌, length, get_or, take, drop, refl, sym, ◌∙◌, ap, arith, Some, None}
use Rattle.std.specs.Prelude.{slice_get, option_map}
use Rattle.std.proofs.lemmas.List.{length-append, length-map, drop_more}
use Rattle.std.proofs.lemmas.Option.{slice_get-map, slice_get_past, slice_get-get_or}
use Rattle.clause_core.specs.declared.literal.Lit.{Lit}
use Rattle.clause_derivation.specs.declared.chain.Chain.{Chain}
use Rattle.clause_derivation.specs.Derivation.{results, singles}

-- a place of the first list
pub slice_get-append_left : {A : Type 0} (xs ys : List A) (n : ℕ) → n < length xs → slice_get (xs ++ ys) n ≡ slice_get xs n
slice_get-append_left [] ys n h = absurd (omega arith)
slice_get-append_left (x ∷ xs) ys zero h = refl
slice_get-append_left (x ∷ xs) ys (suc n) h = slice_get-append_left xs ys n (omega arith)

-- a place past the first list
pub slice_get-append_right : {A : Type 0} (xs ys : List A) (n : ℕ) → slice_get (xs ++ ys) (length xs + n) ≡ slice_get ys n
slice_get-append_right [] ys n = ap (slice_get ys) (omega arith)
slice_get-append_right (x ∷ xs) ys n =
    let e : length (x ∷ xs) + n ≡ suc (length xs + n) = omega arith in
    ap (λ k. slice_get (x ∷ (xs ++ ys)) k) e ∙ slice_get-append_right xs ys n

-- what is numbered, in the order of code
abbrev numbered_of : List (List Lit) → List (List Lit) → List Lit → List Chain → List (List Lit)
numbered_of cnf more units chains = (cnf ++ more ++ singles units) ++ results chains

-- the place of one unit, as a slice of the units
unit_slice : (units : List Lit) (at : ℕ) → at < length units → Some (take (at + 1 - at) (drop at units)) ≡ slice_get (singles units) at
unit_slice units at h =
    let one : at + 1 - at ≡ suc 0 = omega arith in
    rw (one, drop_more units at (record { code = 0 }) h) (sym (slice_get-map (λ l. l ∷ []) units at ∙ ap (option_map (λ l. l ∷ [])) (slice_get-get_or units at (record { code = 0 }) h)))

-- a unit's number
pub unit_named : (cnf more : List (List Lit)) (units : List Lit) (chains : List Chain) (n at : ℕ) → n ≡ length cnf + length more + at → at < length units → Some (take (at + 1 - at) (drop at units)) ≡ slice_get (numbered_of cnf more units chains) n
unit_named cnf more units chains n at e h =
    let place : n ≡ length (cnf ++ more) + at = omega (arith, length-append cnf more) in
    let inside : n < length (cnf ++ more ++ singles units) = omega (arith, length-append (cnf ++ more) (singles units), length-append cnf more, length-map units (λ l. l ∷ [])) in
    unit_slice units at h
    ∙ sym (slice_get-append_right (cnf ++ more) (singles units) at)
    ∙ ap (slice_get (cnf ++ more ++ singles units)) (sym place)
    ∙ sym (slice_get-append_left (cnf ++ more ++ singles units) (results chains) n inside)

base_length : (cnf more : List (List Lit)) (units : List Lit) → length (cnf ++ more ++ singles units) ≡ length cnf + length more + length units
base_length cnf more units = omega (arith, length-append (cnf ++ more) (singles units), length-append cnf more, length-map units (λ l. l ∷ []))

-- the number of an earlier chain's result
pub chain_named : (cnf more : List (List Lit)) (units : List Lit) (chains : List Chain) (n at : ℕ) (d : Chain) → n ≡ length cnf + length more + length units + at → at < length chains → Some (get_or chains at d).result ≡ slice_get (numbered_of cnf more units chains) n
chain_named cnf more units chains n at d e h =
    let place : n ≡ length (cnf ++ more ++ singles units) + at = omega (arith, base_length cnf more units) in
    sym (slice_get-map (λ c. c.result) chains at ∙ ap (option_map (λ c. c.result)) (slice_get-get_or chains at d h))
    ∙ sym (slice_get-append_right (cnf ++ more ++ singles units) (results chains) at)
    ∙ ap (slice_get (numbered_of cnf more units chains)) (sym place)

-- a number past the end
pub none_named : (cnf more : List (List Lit)) (units : List Lit) (chains : List Chain) (n : ℕ) → length cnf + length more + length units + length chains ≤ n → None ≡ slice_get (numbered_of cnf more units chains) n
none_named cnf more units chains n h =
    let past : length (numbered_of cnf more units chains) ≤ n = omega (arith, length-append (cnf ++ more ++ singles units) (results chains), base_length cnf more units, length-map chains (λ c. c.result)) in
    sym (slice_get_past (numbered_of cnf more units chains) n past)
