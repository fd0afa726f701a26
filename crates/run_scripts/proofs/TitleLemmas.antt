-- Titles found by hash, and lines that can be opened.
use Rattle.std.specs.Prelude.{option_map, is_some, slice_get, ◌&&◌, ◌||◌}
use Rattle.std.proofs.Common.{◌≡◌, ℕ, zero, suc, ◌+◌, ◌<◌, Bool, true, false, cond, List, [], ◌∷◌, ◌++◌, length, take, drop, Option, None, Some, refl, ap, sym, subst, ◌∙◌, arith}
use Rattle.std.proofs.lemmas.Slice.Eq.{bytes_eq-Decides}
use Rattle.std.proofs.lemmas.Bool.Decides.{same_from_decides}
use Rattle.std.specs.Str.{bytes_eq}
use Rattle.std.specs.Global.{Vec}
use Rattle.std.specs.Map.{lookup}
use Rattle.indexmap.specs.IndexMap.{insert_entry}
use Rattle.murphi_typed.specs.declared.protocol.Typed.{Typed}
use Rattle.run_scripts.specs.Usable.{are_writable}
use Rattle.run_scripts.specs.Scripts.{first_of, params, titles}
use Rattle.run_scripts.specs.Reading.{IsTable, is_number_of, opens_from}
use Rattle.run_scripts.proofs.SymbolFacts.{some_drop}

abbrev or_else : {A : Type 0} → Option A → Option A → Option A
or_else (Some a) other = Some a
or_else None other = other

within-go : (n : ℕ) (at : ℕ) (b : Bool) (o : Option ℕ) → ((k : ℕ) → o ≡ Some k → k < n) → cond b (Some 0) (option_map suc o) ≡ Some at → at < suc n
within-go n at true o ih q = let z : 0 ≡ at = cc in omega (arith, z)
within-go n at false None ih q = absurd cc
within-go n at false (Some k) ih q = let z : suc k ≡ at = cc in let w = ih k refl in omega (arith, z, w)

pub first_within : (xs : List (List ℕ)) (name : List ℕ) (at : ℕ) → first_of xs name ≡ Some at → at < length xs
first_within [] name at h = absurd cc
first_within (x ∷ xs) name at h = within-go (length xs) at (bytes_eq x name) (first_of xs name) (λ k p. first_within xs name k p) h

-- one more title at the end
first_of-last : (xs : List (List ℕ)) (x name : List ℕ) → first_of (xs ++ x ∷ []) name ≡ or_else (first_of xs name) (cond (bytes_eq x name) (Some (length xs)) None)
first_of-last [] x name = refl
first_of-last (y ∷ xs) x name = ap (λ o. cond (bytes_eq y name) (Some 0) (option_map suc o)) (first_of-last xs x name) ∙ go (bytes_eq y name) (first_of xs name) (bytes_eq x name)
  where
    go : (b : Bool) (o : Option ℕ) (c : Bool) → cond b (Some 0) (option_map suc (or_else o (cond c (Some (length xs)) None))) ≡ or_else (cond b (Some 0) (option_map suc o)) (cond c (Some (suc (length xs))) None)
    go true o c = refl
    go false None true = refl
    go false None false = refl
    go false (Some k) c = refl

lookup-last : (m : List (Vec ℕ × ℕ)) (k : Vec ℕ) (v : ℕ) (name : List ℕ) → lookup (λ x. bytes_eq name x.items) (m ++ (k, v) ∷ []) ≡ or_else (lookup (λ x. bytes_eq name x.items) m) (cond (bytes_eq name k.items) (Some v) None)
lookup-last [] k v name = refl
lookup-last (x ∷ m) k v name = ap (cond (bytes_eq name x.0.items) (Some x.1)) (lookup-last m k v name) ∙ go (bytes_eq name x.0.items)
  where
    go : (b : Bool) → cond b (Some x.1) (or_else (lookup (λ x. bytes_eq name x.items) m) (cond (bytes_eq name k.items) (Some v) None)) ≡ or_else (cond b (Some x.1) (lookup (λ x. bytes_eq name x.items) m)) (cond (bytes_eq name k.items) (Some v) None)
    go true = refl
    go false = refl

or_none : {A : Type 0} (o : Option A) → or_else o None ≡ o
or_none None = refl
or_none (Some a) = refl

or_some : {A : Type 0} (o p : Option A) → is_some o ≡ true → or_else o p ≡ o
or_some None p h = absurd cc
or_some (Some a) p h = refl

same-bytes : (a b : List ℕ) → bytes_eq a b ≡ true → a ≡ b
same-bytes a b h = (bytes_eq-Decides a b).0 h

bytes-sym : (a b : List ℕ) → bytes_eq a b ≡ bytes_eq b a
bytes-sym a b =
    same_from_decides (bytes_eq a b) (bytes_eq b a) (bytes_eq-Decides a b)
    ((λ h. sym ((bytes_eq-Decides b a).0 h)), (λ e. (bytes_eq-Decides b a).1 (sym e)))

-- a title that is there keeps its first number
pub table-again : (xs : List (List ℕ)) (m : List (Vec ℕ × ℕ)) (x : List ℕ) → IsTable xs m → is_some (lookup (λ k. bytes_eq x k.items) m) ≡ true → IsTable (xs ++ x ∷ []) m
table-again xs m x h there name = h name ∙ sym (first_of-last xs x name ∙ go (bytes_eq x name) refl)
  where
    go : (b : Bool) → bytes_eq x name ≡ b → or_else (first_of xs name) (cond b (Some (length xs)) None) ≡ first_of xs name
    go false eq = or_none (first_of xs name)
    go true eq =
        let is : x ≡ name = same-bytes x name eq in
        or_some (first_of xs name) (Some (length xs)) (sym (ap is_some (h name)) ∙ ap (λ n. is_some (lookup (λ k. bytes_eq n k.items) m)) (sym is) ∙ there)

-- a new title has its number at the end
pub table-new : (xs : List (List ℕ)) (m : List (Vec ℕ × ℕ)) (x : List ℕ) (k : Vec ℕ) → k.items ≡ x → IsTable xs m → IsTable (xs ++ x ∷ []) (m ++ (k, length xs) ∷ [])
table-new xs m x k spells h name =
    lookup-last m k (length xs) name
    ∙ ap (λ o. or_else o (cond (bytes_eq name k.items) (Some (length xs)) None)) (h name)
    ∙ ap (λ n. or_else (first_of xs name) (cond (bytes_eq name n) (Some (length xs)) None)) spells
    ∙ ap (λ b. or_else (first_of xs name) (cond b (Some (length xs)) None)) (bytes-sym name x)
    ∙ sym (first_of-last xs x name)

-- a new key goes last
new-go : (b : Bool) (x : Vec ℕ × ℕ) (m rest : List (Vec ℕ × ℕ)) (n : Vec ℕ) (v : ℕ) (o : Option ℕ) → (is_some o ≡ false → rest ≡ m ++ (n, v) ∷ []) → is_some (cond b (Some x.1) o) ≡ false → cond b ((x.0, v) ∷ m) (x ∷ rest) ≡ x ∷ (m ++ (n, v) ∷ [])
new-go true x m rest n v o ih h = absurd cc
new-go false x m rest n v o ih h = ap (λ xs. x ∷ xs) (ih h)

pub new_last : (m : List (Vec ℕ × ℕ)) (n : Vec ℕ) (v : ℕ) → is_some (lookup (λ k. bytes_eq n.items k.items) m) ≡ false → insert_entry (λ a b. bytes_eq a.items b.items) m n v ≡ m ++ (n, v) ∷ []
new_last [] n v h = refl
new_last (x ∷ m) n v h = new-go (bytes_eq n.items x.0.items) x m (insert_entry (λ a b. bytes_eq a.items b.items) m n v) n v (lookup (λ k. bytes_eq n.items k.items) m) (λ k. new_last m n v k) h

-- the first titles, and one more
take_one : (names : List (List ℕ)) (at : ℕ) (x : List ℕ) → slice_get names at ≡ Some x → (take (suc at) names ≡ take at names ++ x ∷ []) × (at ≡ length (take at names))
take_one [] at x h = absurd cc
take_one (y ∷ names) zero x h = let e : y ≡ x = cc in (ap (λ z. z ∷ []) e, refl)
take_one (y ∷ names) (suc at) x h = let r = take_one names at x h in (ap (λ l. y ∷ l) r.0, ap suc r.1)

pub table_more : (names : List (List ℕ)) (at : ℕ) (x : List ℕ) (m new : List (Vec ℕ × ℕ)) → Some x ≡ slice_get names at → ((ns : List (List ℕ)) → at ≡ length ns → IsTable ns m → IsTable (ns ++ x ∷ []) new) → IsTable (take at names) m → IsTable (take (at + 1) names) new
table_more names at x m new e keeps h =
    let r = take_one names at x (sym e) in
    let s : suc at ≡ at + 1 = omega arith in
    subst (λ n. IsTable (take n names) new) s (subst (λ l. IsTable l new) (sym r.0) (keeps (take at names) r.1 h))

module _ (N : ℕ) (T : Typed) (f : Bool) where
  abbrev opens_here : ℕ → List ℕ → Bool
  opens_here at name = is_number_of (first_of (titles T f) name) at && are_writable N T.kinds (params T f at)

  there_is : (names : List (List ℕ)) (at : ℕ) → at < length names → (name : List ℕ) × (slice_get names at ≡ Some name)
  there_is [] at h = absurd (omega (arith, h))
  there_is (x ∷ names) zero h = (x, refl)
  there_is (x ∷ names) (suc at) h = there_is names at (omega (arith, h))

  pub opens_yes : (names : List (List ℕ)) (at : ℕ) (b : Bool) → at < length names → ((name : List ℕ) → slice_get names at ≡ Some name → b ≡ opens_here at name) → b ≡ true → true ≡ opens_from N T f at (drop at names)
  opens_yes names at b h is e =
      let (name, there) = there_is names at h in
      sym (ap (opens_from N T f at) (some_drop at names name there) ∙ ap (λ b. b || opens_from N T f (suc at) (drop (suc at) names)) (sym (is name there) ∙ e))

  pub opens_no : (names : List (List ℕ)) (at : ℕ) (b : Bool) → at < length names → ((name : List ℕ) → slice_get names at ≡ Some name → b ≡ opens_here at name) → b ≡ false → opens_from N T f (at + 1) (drop (at + 1) names) ≡ opens_from N T f at (drop at names)
  opens_no names at b h is e =
      let (name, there) = there_is names at h in
      let s : at + 1 ≡ suc at = omega arith in
      ap (λ n. opens_from N T f n (drop n names)) s
      ∙ sym (ap (opens_from N T f at) (some_drop at names name there) ∙ ap (λ b. b || opens_from N T f (suc at) (drop (suc at) names)) (sym (is name there) ∙ e))
