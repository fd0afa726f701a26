-- Families, in terms of the parts that code reads.
use Rattle.std.proofs.Common.{◌≡◌, ℕ, zero, suc, ◌+◌, ◌<◌, ◌≤◌, Bool, true, false, List, [], ◌∷◌, drop, length, Some, refl, ap, ◌∙◌, arith}
use Rattle.std.specs.Prelude.{slice_get, nat_le, ◌&&◌, if◌then◌else◌}
use Rattle.std.specs.Str.{bytes_eq}
use Rattle.std.proofs.lemmas.Bool.{leb-true, leb-false}
use Rattle.murphi_typed.specs.Families.{Path}
use Rattle.murphi_typed.specs.Store.{Owner}
use Rattle.murphi_typed.specs.Steps.{same_list}
use Rattle.rule_inline.specs.Tables.{Key}
use Rattle.rule_inline.specs.Machine.{CellsOf, slot_of, is_slot, number_from}
use Rattle.rule_parts.proofs.ListLemmas.{drop_at, drop_end}

pub same_at : {A : Type 0} (same : A → A → Bool) (xs ys : List A) (i : ℕ) (p q : A) → slice_get xs i ≡ Some p → slice_get ys i ≡ Some q → same_list same (drop i xs) (drop i ys) ≡ (same p q && same_list same (drop (i + 1) xs) (drop (i + 1) ys))
same_at same xs ys i p q e f = ap (λ zs. same_list same zs (drop i ys)) (drop_at xs i p e) ∙ ap (λ zs. same_list same (p ∷ drop (i + 1) xs) zs) (drop_at ys i q f)

lacking : {A : Type 0} (same : A → A → Bool) (xs : List A) (i : ℕ) → i < length xs → same_list same (drop i xs) [] ≡ false
lacking same [] i e = absurd (omega (arith, e))
lacking same (x ∷ xs) zero e = refl
lacking same (x ∷ xs) (suc i) e = lacking same xs i (omega (arith, e))

pub same_out : {A : Type 0} (same : A → A → Bool) (xs ys : List A) (i : ℕ) → i < length xs → length ys ≤ i → same_list same (drop i xs) (drop i ys) ≡ false
same_out same xs ys i e f = ap (same_list same (drop i xs)) (drop_end ys i f) ∙ lacking same xs i e

some_left : {A : Type 0} (same : A → A → Bool) (ys : List A) (i : ℕ) → i < length ys → same_list same [] (drop i ys) ≡ false
some_left same [] i e = absurd (omega (arith, e))
some_left same (y ∷ ys) zero e = refl
some_left same (y ∷ ys) (suc i) e = some_left same ys i (omega (arith, e))

pub none_left : {A : Type 0} (same : A → A → Bool) (ys : List A) (i : ℕ) → same_list same [] (drop i ys) ≡ nat_le (length ys) i
none_left same ys i = go (nat_le (length ys) i) refl
  where
    go : (b : Bool) → nat_le (length ys) i ≡ b → same_list same [] (drop i ys) ≡ b
    go true e = ap (same_list same []) (drop_end ys i (leb-true (length ys) i e))
    go false e = some_left same ys i (leb-false (length ys) i e)

pub same_end : {A : Type 0} (same : A → A → Bool) (xs ys : List A) (i : ℕ) → length xs ≤ i → same_list same (drop i xs) (drop i ys) ≡ nat_le (length ys) i
same_end same xs ys i e = ap (λ zs. same_list same zs (drop i ys)) (drop_end xs i e) ∙ none_left same ys i

pub into_at : (p : List ℕ) (rest path : Path) (i : ℕ) (q : List ℕ) → slice_get path i ≡ Some q → same_list bytes_eq (p ∷ rest) (drop i path) ≡ (bytes_eq p q && same_list bytes_eq rest (drop (i + 1) path))
into_at p rest path i q e = ap (same_list bytes_eq (p ∷ rest)) (drop_at path i q e)

pub into_out : (p : List ℕ) (rest path : Path) (i : ℕ) → length path ≤ i → same_list bytes_eq (p ∷ rest) (drop i path) ≡ false
into_out p rest path i e = ap (same_list bytes_eq (p ∷ rest)) (drop_end path i e)

pub number_here : (n : ℕ) (c : CellsOf) (cs : List CellsOf) (owner : Owner) (path : Path) (key : Key) → is_slot (slot_of c) owner path key ≡ true → number_from n (c ∷ cs) owner path key ≡ Some n
number_here n c cs owner path key e = ap (λ b. if b then Some n else number_from (suc n) cs owner path key) e

pub number_next : (n : ℕ) (c : CellsOf) (cs : List CellsOf) (owner : Owner) (path : Path) (key : Key) → is_slot (slot_of c) owner path key ≡ false → number_from n (c ∷ cs) owner path key ≡ number_from (n + 1) cs owner path key
number_next n c cs owner path key e =
    let h : suc n ≡ n + 1 = omega arith in
    ap (λ b. if b then Some n else number_from (suc n) cs owner path key) e ∙ ap (λ k. number_from k cs owner path key) h

pub ruleset families = (same_at, same_out, none_left, same_end, into_at, into_out, number_here, number_next)
