-- Entries found by hash.
use Rattle.std.proofs.Common.{◌≡◌, ℕ, zero, suc, ◌+◌, ◌<◌, Bool, true, false, cond, List, [], ◌∷◌, ◌++◌, length, get_or, Option, None, Some, refl, ap, sym, subst, ◌∙◌, true≢false, arith}
use Rattle.std.specs.Prelude.{option_map, is_some}
use Rattle.std.proofs.lemmas.Slice.Eq.{bytes_eq-Decides}
use Rattle.std.proofs.lemmas.Bool.Decides.{same_from_decides}
use Rattle.std.specs.Str.{bytes_eq}
use Rattle.std.specs.Global.{Vec}
use Rattle.std.specs.Map.{lookup}
use Rattle.indexmap.specs.IndexMap.{insert_entry}
use Rattle.murphi_types.specs.declared.scope.Entry.{Entry}
use Rattle.murphi_types.specs.declared.scope.Meaning.{Meaning}
use Rattle.murphi_types.specs.Scopes.{earliest, or_else}
use Rattle.murphi_types.specs.Table.{first_of, what_at, IsTable}

-- the first entry that is found is one of them
within-go : (n : ℕ) (at : ℕ) (b : Bool) (o : Option ℕ) → ((k : ℕ) → o ≡ Some k → k < n) → cond b (Some 0) (option_map suc o) ≡ Some at → at < suc n
within-go n at true o ih q = let z : 0 ≡ at = cc in omega (arith, z)
within-go n at false None ih q = absurd cc
within-go n at false (Some k) ih q = let z : suc k ≡ at = cc in let w = ih k refl in omega (arith, z, w)

pub first_within : (es : List Entry) (name : List ℕ) (at : ℕ) → first_of es name ≡ Some at → at < length es
first_within [] name at h = absurd cc
first_within (e ∷ es) name at h = within-go (length es) at (bytes_eq e.name name) (first_of es name) (λ k p. first_within es name k p) h

none-go : (b : Bool) (o : Option ℕ) (m : Option Meaning) (x : Meaning) → (o ≡ None → m ≡ None) → cond b (Some 0) (option_map suc o) ≡ None → cond b (Some x) m ≡ None
none-go true o m x ih q = absurd cc
none-go false None m x ih q = ih refl
none-go false (Some k) m x ih q = absurd cc

pub earliest_none : (es : List Entry) (name : List ℕ) → first_of es name ≡ None → earliest es name ≡ None
earliest_none [] name h = refl
earliest_none (e ∷ es) name h = none-go (bytes_eq e.name name) (first_of es name) (earliest es name) e.what (λ p. earliest_none es name p) h

at-go : (x : Entry) (es : List Entry) (at : ℕ) (b : Bool) (o : Option ℕ) (m : Option Meaning) → ((k : ℕ) → o ≡ Some k → m ≡ what_at es k) → cond b (Some 0) (option_map suc o) ≡ Some at → cond b (Some x.what) m ≡ what_at (x ∷ es) at
at-go x es at true o m ih q = let z : at ≡ 0 = cc in ap (what_at (x ∷ es)) (sym z)
at-go x es at false None m ih q = absurd cc
at-go x es at false (Some k) m ih q = let z : at ≡ suc k = cc in ih k refl ∙ ap (what_at (x ∷ es)) (sym z)

pub earliest_at : (es : List Entry) (name : List ℕ) (at : ℕ) → first_of es name ≡ Some at → earliest es name ≡ what_at es at
earliest_at [] name at h = absurd cc
earliest_at (x ∷ es) name at h = at-go x es at (bytes_eq x.name name) (first_of es name) (earliest es name) (λ k p. earliest_at es name k p) h

-- one more entry at the end
pub first_of-last : (es : List Entry) (e : Entry) (name : List ℕ) → first_of (es ++ e ∷ []) name ≡ or_else (first_of es name) (cond (bytes_eq e.name name) (Some (length es)) None)
first_of-last [] e name = refl
first_of-last (x ∷ es) e name = ap (λ o. cond (bytes_eq x.name name) (Some 0) (option_map suc o)) (first_of-last es e name) ∙ go (bytes_eq x.name name) (first_of es name) (bytes_eq e.name name)
  where
    go : (b : Bool) (o : Option ℕ) (c : Bool) → cond b (Some 0) (option_map suc (or_else o (cond c (Some (length es)) None))) ≡ or_else (cond b (Some 0) (option_map suc o)) (cond c (Some (suc (length es))) None)
    go true o c = refl
    go false None true = refl
    go false None false = refl
    go false (Some k) c = refl

lookup-last : (m : List (Vec ℕ × ℕ)) (k : Vec ℕ) (v : ℕ) (name : List ℕ) → lookup (λ x. bytes_eq name x.items) (m ++ (k, v) ∷ []) ≡ or_else (lookup (λ x. bytes_eq name x.items) m) (cond (bytes_eq name k.items) (Some v) None)
lookup-last [] k v name = refl
lookup-last (x ∷ m) k v name = ap (cond (bytes_eq name x.0.items) (Some x.1)) (lookup-last m k v name) ∙ go (bytes_eq name x.0.items)
  where
    go : (b : Bool) → cond b (Some x.1) (or_else (lookup (λ x. bytes_eq name x.items) m) (cond (bytes_eq name k.items) (Some v) None)) ≡ or_else (cond b (Some x.1) (lookup (λ x. bytes_eq name x.items) m)) (cond (bytes_eq name k.items) (Some v) None)
    go true = refl
    go false = refl

or_none : {A : Type 0} (o : Option A) → or_else o None ≡ o
or_none None = refl
or_none (Some a) = refl

or_some : {A : Type 0} (o p : Option A) → is_some o ≡ true → or_else o p ≡ o
or_some None p h = absurd cc
or_some (Some a) p h = refl

or_left_none : {A : Type 0} (o p : Option A) → is_some o ≡ false → or_else o p ≡ p
or_left_none None p h = refl
or_left_none (Some a) p h = absurd cc

same-bytes : (a b : List ℕ) → bytes_eq a b ≡ true → a ≡ b
same-bytes a b h = (bytes_eq-Decides a b).0 h

bytes-sym : (a b : List ℕ) → bytes_eq a b ≡ bytes_eq b a
bytes-sym a b =
    same_from_decides (bytes_eq a b) (bytes_eq b a) (bytes_eq-Decides a b)
    ((λ h. sym ((bytes_eq-Decides b a).0 h)), (λ e. (bytes_eq-Decides b a).1 (sym e)))

-- a name that is there keeps its first entry
pub table-again : (es : List Entry) (m : List (Vec ℕ × ℕ)) (e : Entry) → IsTable es m → is_some (lookup (λ k. bytes_eq e.name k.items) m) ≡ true → IsTable (es ++ e ∷ []) m
table-again es m e h there name = h name ∙ sym (first_of-last es e name ∙ go (bytes_eq e.name name) refl)
  where
    go : (b : Bool) → bytes_eq e.name name ≡ b → or_else (first_of es name) (cond b (Some (length es)) None) ≡ first_of es name
    go false eq = or_none (first_of es name)
    go true eq =
        let is : e.name ≡ name = same-bytes e.name name eq in
        or_some (first_of es name) (Some (length es)) (sym (ap is_some (h name)) ∙ ap (λ n. is_some (lookup (λ k. bytes_eq n k.items) m)) (sym is) ∙ there)

-- a new name has its entry at the end
pub table-new : (es : List Entry) (m : List (Vec ℕ × ℕ)) (e : Entry) (k : Vec ℕ) → k.items ≡ e.name → IsTable es m → is_some (lookup (λ k. bytes_eq e.name k.items) m) ≡ false → IsTable (es ++ e ∷ []) (m ++ (k, length es) ∷ [])
table-new es m e k spells h there name =
    lookup-last m k (length es) name
    ∙ ap (λ o. or_else o (cond (bytes_eq name k.items) (Some (length es)) None)) (h name)
    ∙ ap (λ n. or_else (first_of es name) (cond (bytes_eq name n) (Some (length es)) None)) spells
    ∙ ap (λ b. or_else (first_of es name) (cond b (Some (length es)) None)) (bytes-sym name e.name)
    ∙ sym (first_of-last es e name)

pub table-none : IsTable [] []
table-none name = refl

-- a new key goes last
new-go : (b : Bool) (x : Vec ℕ × ℕ) (m rest : List (Vec ℕ × ℕ)) (n : Vec ℕ) (v : ℕ) (o : Option ℕ) → (is_some o ≡ false → rest ≡ m ++ (n, v) ∷ []) → is_some (cond b (Some x.1) o) ≡ false → cond b ((x.0, v) ∷ m) (x ∷ rest) ≡ x ∷ (m ++ (n, v) ∷ [])
new-go true x m rest n v o ih h = absurd cc
new-go false x m rest n v o ih h = ap (λ xs. x ∷ xs) (ih h)

pub new_last : (m : List (Vec ℕ × ℕ)) (n : Vec ℕ) (v : ℕ) → is_some (lookup (λ k. bytes_eq n.items k.items) m) ≡ false → insert_entry (λ a b. bytes_eq a.items b.items) m n v ≡ m ++ (n, v) ∷ []
new_last [] n v h = refl
new_last (x ∷ m) n v h = new-go (bytes_eq n.items x.0.items) x m (insert_entry (λ a b. bytes_eq a.items b.items) m n v) n v (lookup (λ k. bytes_eq n.items k.items) m) (λ k. new_last m n v k) h
