-- The values of a sort, and those that a cell may have, as lists.
use Rattle.std.proofs.Common.{◌≡◌, ℕ, zero, suc, ◌+◌, ◌-◌, ◌<◌, Bool, true, false, ◌&&◌, cond, List, [], ◌∷◌, map, Option, Some, None, ◌⊎◌, inl, inr, refl, sym, ap, ◌∙◌, subst, arith, pos}
use Rattle.std.proofs.lemmas.Int.{ints}
use Rattle.std.specs.Prelude.{◌↔◌, ℤ, negsuc, ◌+ℤ◌, ◌-ℤ◌, int_le, nat_eq, nat_lt, slice_get}
use Rattle.std.specs.List.{Contains}
use Rattle.std.specs.Option.{option_map}
use Rattle.std.proofs.lemmas.Bool.{and_parts}
use Rattle.std.proofs.lemmas.Option.{slice_get-map}
use Rattle.std.proofs.lemmas.List.Elements.{Contains-append_left, Contains-append_right, Contains-append_cases}
use Rattle.term_core.specs.declared.value.Value.{Value}
use Rattle.term_core.specs.declared.value.Value.TheVariants as v
use Rattle.term_core.specs.declared.value.Sort.{Sort}
use Rattle.term_core.specs.declared.value.Sort.TheVariants as sort
use Rattle.term_core.specs.declared.machine.CellFamily.{CellFamily}
use Rattle.term_core.specs.Nodes.{is_node, nodes_from}
use Rattle.term_core.specs.Values.{is_of_sort, values_of_sort, spanned}
use Rattle.term_core.specs.Cells.{family_may_have, family_values}
use Rattle.term_core.proofs.FrameLemmas.{stands_in, place_in_list}
use Rattle.term_core.proofs.PlaceLemmas.{node_bounds}

get_counted : (first count k : ℕ) → k < count → slice_get (nodes_from first count) k ≡ Some (first + k)
get_counted first zero k h = absurd (omega (arith, h))
get_counted first (suc count) zero h = ap Some (omega arith)
get_counted first (suc count) (suc k) h = get_counted (suc first) count k (omega (arith, h)) ∙ ap Some (omega arith)

counted_back : (first count k i : ℕ) → slice_get (nodes_from first count) k ≡ Some i → (i ≡ first + k) × (k < count)
counted_back first zero k i e = cc
counted_back first (suc count) zero i e = let same : first ≡ i = cc in (omega (arith, same), omega arith)
counted_back first (suc count) (suc k) i e = let r = counted_back (suc first) count k i e in let a = r.0 in let b = r.1 in (omega (arith, a), omega (arith, b))

-- what is made of the numbers from one on
listed : (f : ℕ → Value) (first count k : ℕ) → k < count → Contains (map f (nodes_from first count)) (f (first + k))
listed f first count k h = stands_in (map f (nodes_from first count)) k (f (first + k)) (slice_get-map f (nodes_from first count) k ∙ ap (option_map f) (get_counted first count k h))

listed_back : (f : ℕ → Value) (first count : ℕ) (x : Value) → Contains (map f (nodes_from first count)) x → (k : ℕ) × (k < count) × (f (first + k) ≡ x)
listed_back f first count x c =
    let (k, e) = place_in_list (map f (nodes_from first count)) x c in
    go k (slice_get (nodes_from first count) k) refl (sym (slice_get-map f (nodes_from first count) k) ∙ e)
  where
    some_is : {a b : Value} → Some a ≡ Some b → a ≡ b
    some_is e = cc

    go : (k : ℕ) (o : Option ℕ) → slice_get (nodes_from first count) k ≡ o → option_map f o ≡ Some x → (k : ℕ) × (k < count) × (f (first + k) ≡ x)
    go k None was e = cc
    go k (Some i) was e = let r = counted_back first count k i was in (k, r.1, ap f (sym r.0) ∙ some_is e)

-- whole numbers between two others
span_holds : (low high z : ℤ) (k n : ℕ) → z -ℤ low ≡ pos k → high -ℤ low ≡ pos n → int_le z high ≡ true → k < suc n
span_holds low high z k n e f h = grind (arith, ints, e, f, h)

span_some : (low high z : ℤ) (m : ℕ) → high -ℤ low ≡ negsuc m → int_le low z ≡ true → int_le z high ≡ true → ⊥
span_some low high z m f g h = grind (arith, ints, f, g, h)

reaches : (low z : ℤ) (k : ℕ) → z -ℤ low ≡ pos k → low +ℤ pos k ≡ z
reaches low z k e = omega (arith, ints, e)

reaches_not : (low z : ℤ) (m : ℕ) → z -ℤ low ≡ negsuc m → int_le low z ≡ true → ⊥
reaches_not low z m e h = grind (arith, ints, e, h)

between : (low high z : ℤ) → int_le low z ≡ true → int_le z high ≡ true → (k : ℕ) × (k < spanned (high -ℤ low)) × (low +ℤ pos k ≡ z)
between low high z g h = go (z -ℤ low) (high -ℤ low) refl refl
  where
    go : (d w : ℤ) → z -ℤ low ≡ d → high -ℤ low ≡ w → (k : ℕ) × (k < spanned w) × (low +ℤ pos k ≡ z)
    go (pos k) (pos n) e f = (k, span_holds low high z k n e f h, reaches low z k e)
    go (pos k) (negsuc m) e f = absurd (span_some low high z m f g h)
    go (negsuc m) w e f = absurd (reaches_not low z m e g)

above_low : (low : ℤ) (k : ℕ) → int_le low (low +ℤ pos k) ≡ true
above_low low k = grind (arith, ints)

below_high : (low high : ℤ) (k n : ℕ) → high -ℤ low ≡ pos n → k < suc n → int_le (low +ℤ pos k) high ≡ true
below_high low high k n e h = grind (arith, ints, e, h)

within : (low high : ℤ) (k : ℕ) → k < spanned (high -ℤ low) → (int_le low (low +ℤ pos k) && int_le (low +ℤ pos k) high) ≡ true
within low high k h = go (high -ℤ low) refl h
  where
    go : (w : ℤ) → high -ℤ low ≡ w → k < spanned w → (int_le low (low +ℤ pos k) && int_le (low +ℤ pos k) high) ≡ true
    go (pos n) e less = ap (λ b. b && int_le (low +ℤ pos k) high) (above_low low k) ∙ below_high low high k n e less
    go (negsuc m) e less = absurd (omega (arith, less))

-- the values of a sort are listed, and no others
sort_listed : (N : ℕ) (s : Sort) (x : Value) → is_of_sort N s x ≡ true → Contains (values_of_sort N s) x
sort_listed N sort.Truth (v.Truth false) h = stands_in (v.Truth false ∷ v.Truth true ∷ []) 0 (v.Truth false) refl
sort_listed N sort.Truth (v.Truth true) h = stands_in (v.Truth false ∷ v.Truth true ∷ []) 1 (v.Truth true) refl
sort_listed N (sort.Range low high) (v.Number z) h =
    let p = and_parts (int_le low z) (int_le z high) h in
    let r = between low high z p.0 p.1 in
    let c = listed (λ k. v.Number (low +ℤ pos k)) 0 (spanned (high -ℤ low)) r.0 r.1 in
    let e : 0 + r.0 ≡ r.0 = omega arith in
    subst (Contains (values_of_sort N (sort.Range low high))) (ap (λ k. v.Number (low +ℤ pos k)) e ∙ ap v.Number r.2) c
sort_listed N (sort.Members kind count) (v.Member other index) h =
    let p = and_parts (nat_eq kind other) (nat_lt index count) h in
    let same : kind ≡ other = grind (arith, p.0) in
    let less : index < count = grind (arith, p.1) in
    let c = listed (λ i. v.Member kind i) 0 count index less in
    let e : 0 + index ≡ index = omega arith in
    subst (Contains (values_of_sort N (sort.Members kind count))) (ap (λ i. v.Member kind i) e ∙ ap (λ k. v.Member k index) same) c
sort_listed N sort.Node (v.Node n) h =
    let (low, high) = node_bounds N n h in
    let less : n - 1 < N = omega (arith, low, high) in
    let c = listed (λ m. v.Node m) 1 N (n - 1) less in
    let e : 1 + (n - 1) ≡ n = omega (arith, low) in
    subst (Contains (values_of_sort N sort.Node)) (ap (λ m. v.Node m) e) c
sort_listed N sort.Truth v.Undefined h = cc
sort_listed N sort.Truth (v.Number z) h = cc
sort_listed N sort.Truth (v.Member k i) h = cc
sort_listed N sort.Truth (v.Node n) h = cc
sort_listed N (sort.Range low high) v.Undefined h = cc
sort_listed N (sort.Range low high) (v.Truth b) h = cc
sort_listed N (sort.Range low high) (v.Member k i) h = cc
sort_listed N (sort.Range low high) (v.Node n) h = cc
sort_listed N (sort.Members kind count) v.Undefined h = cc
sort_listed N (sort.Members kind count) (v.Truth b) h = cc
sort_listed N (sort.Members kind count) (v.Number z) h = cc
sort_listed N (sort.Members kind count) (v.Node n) h = cc
sort_listed N sort.Node v.Undefined h = cc
sort_listed N sort.Node (v.Truth b) h = cc
sort_listed N sort.Node (v.Number z) h = cc
sort_listed N sort.Node (v.Member k i) h = cc

sort_back : (N : ℕ) (s : Sort) (x : Value) → Contains (values_of_sort N s) x → is_of_sort N s x ≡ true
sort_back N sort.Truth x c = go (place_in_list (v.Truth false ∷ v.Truth true ∷ []) x c)
  where
    is : {a b : Value} → Some a ≡ Some b → a ≡ b
    is e = cc

    go : (k : ℕ) × (slice_get (v.Truth false ∷ v.Truth true ∷ []) k ≡ Some x) → is_of_sort N sort.Truth x ≡ true
    go (zero, e) = ap (is_of_sort N sort.Truth) (sym (is e))
    go (suc zero, e) = ap (is_of_sort N sort.Truth) (sym (is e))
    go (suc (suc k), e) = cc
sort_back N (sort.Range low high) x c =
    let r = listed_back (λ k. v.Number (low +ℤ pos k)) 0 (spanned (high -ℤ low)) x c in
    let e : 0 + r.0 ≡ r.0 = omega arith in
    ap (is_of_sort N (sort.Range low high)) (sym r.2) ∙ ap (λ k. is_of_sort N (sort.Range low high) (v.Number (low +ℤ pos k))) e ∙ within low high r.0 r.1
sort_back N (sort.Members kind count) x c =
    let r = listed_back (λ i. v.Member kind i) 0 count x c in
    let e : 0 + r.0 ≡ r.0 = omega arith in
    let less = r.1 in
    let same : nat_eq kind kind ≡ true = grind arith in
    let small : nat_lt r.0 count ≡ true = grind (arith, less) in
    ap (is_of_sort N (sort.Members kind count)) (sym r.2) ∙ ap (λ k. is_of_sort N (sort.Members kind count) (v.Member kind k)) e ∙ ap (λ b. b && nat_lt r.0 count) same ∙ small
sort_back N sort.Node x c =
    let r = listed_back (λ m. v.Node m) 1 N x c in
    let less = r.1 in
    let node : is_node N (1 + r.0) ≡ true = grind (arith, less) in
    ap (is_of_sort N sort.Node) (sym r.2) ∙ node

pub sort_values : (N : ℕ) (s : Sort) (x : Value) → (is_of_sort N s x ≡ true) ↔ Contains (values_of_sort N s) x
sort_values N s x = (sort_listed N s x, sort_back N s x)

-- undefined is of no sort
not_undefined : (N : ℕ) (s : Sort) → is_of_sort N s v.Undefined ≡ false
not_undefined N sort.Truth = refl
not_undefined N (sort.Range low high) = refl
not_undefined N (sort.Members kind count) = refl
not_undefined N sort.Node = refl

abbrev first_values : Bool → List Value
first_values b = cond b (v.Undefined ∷ []) []

first_is : (b : Bool) (x : Value) → Contains (first_values b) x → (b ≡ true) × (x ≡ v.Undefined)
first_is true x c = go (place_in_list (v.Undefined ∷ []) x c)
  where
    is : {a b : Value} → Some a ≡ Some b → a ≡ b
    is e = cc

    go : (k : ℕ) × (slice_get (v.Undefined ∷ []) k ≡ Some x) → (true ≡ true) × (x ≡ v.Undefined)
    go (zero, e) = (refl, sym (is e))
    go (suc k, e) = cc
first_is false x c = let (k, e) = place_in_list [] x c in none k e
  where
    none : (k : ℕ) → slice_get [] k ≡ Some x → (false ≡ true) × (x ≡ v.Undefined)
    none k e = cc

-- and so are the values that a cell may have
may_undefined : (N : ℕ) (family : CellFamily) → (family.undefined ≡ true) ↔ Contains (family_values N family) v.Undefined
may_undefined N family = (λ h. Contains-append_left (first_values family.undefined) (values_of_sort N family.sort) v.Undefined (subst (λ b. Contains (first_values b) v.Undefined) (sym h) (stands_in (v.Undefined ∷ []) 0 v.Undefined refl)), λ c. go (Contains-append_cases (first_values family.undefined) (values_of_sort N family.sort) v.Undefined c))
  where
    go : Contains (first_values family.undefined) v.Undefined ⊎ Contains (values_of_sort N family.sort) v.Undefined → family.undefined ≡ true
    go (inl c) = (first_is family.undefined v.Undefined c).0
    go (inr c) = let both : true ≡ false = sym (sort_back N family.sort v.Undefined c) ∙ not_undefined N family.sort in cc

may_defined : (N : ℕ) (family : CellFamily) (x : Value) → (x ≡ v.Undefined → ⊥) → (is_of_sort N family.sort x ≡ true) ↔ Contains (family_values N family) x
may_defined N family x other = (λ h. Contains-append_right (first_values family.undefined) (values_of_sort N family.sort) x (sort_listed N family.sort x h), λ c. go (Contains-append_cases (first_values family.undefined) (values_of_sort N family.sort) x c))
  where
    go : Contains (first_values family.undefined) x ⊎ Contains (values_of_sort N family.sort) x → is_of_sort N family.sort x ≡ true
    go (inl c) = absurd (other (first_is family.undefined x c).1)
    go (inr c) = sort_back N family.sort x c

pub may_values : (N : ℕ) (family : CellFamily) (x : Value) → (family_may_have N family x ≡ true) ↔ Contains (family_values N family) x
may_values N family v.Undefined = may_undefined N family
may_values N family (v.Truth b) = may_defined N family (v.Truth b) (λ e. cc)
may_values N family (v.Number z) = may_defined N family (v.Number z) (λ e. cc)
may_values N family (v.Member k i) = may_defined N family (v.Member k i) (λ e. cc)
may_values N family (v.Node n) = may_defined N family (v.Node n) (λ e. cc)
