-- Names that are kept by hash.
use Rattle.std.specs.Prelude.{is_some, ◌||◌, if◌then◌else◌}
use Rattle.std.proofs.Common.{◌≡◌, ℕ, Bool, true, false, cond, List, [], ◌∷◌, ◌++◌, map, Option, None, Some, refl, sym, ap, ◌∙◌, subst}
use Rattle.std.specs.List.{list_any}
use Rattle.std.specs.Str.{bytes_eq}
use Rattle.std.specs.Global.{Vec}
use Rattle.std.specs.Map.{lookup}
use Rattle.indexmap.specs.IndexMap.{insert_entry}
use Rattle.job_files.specs.Uses.{name_in, names_in}

pub found_is : (name : List ℕ) (m : List (Vec ℕ × Bool)) → is_some (lookup (λ (k : Vec ℕ). bytes_eq name k.items) m) ≡ list_any (bytes_eq name) (names_in m)
found_is name [] = refl
found_is name ((k, v) ∷ m) = go (bytes_eq name k.items) (found_is name m)
  where
    go : (b : Bool) → is_some (lookup (λ (k : Vec ℕ). bytes_eq name k.items) m) ≡ list_any (bytes_eq name) (names_in m) → is_some (cond b (Some v) (lookup (λ (k : Vec ℕ). bytes_eq name k.items) m)) ≡ (b || list_any (bytes_eq name) (names_in m))
    go true h = refl
    go false h = h

pub kept_is : (key : Vec ℕ) (v : Bool) (m : List (Vec ℕ × Bool)) → list_any (bytes_eq key.items) (names_in m) ≡ false → names_in (insert_entry (λ a b. bytes_eq a.items b.items) m key v) ≡ names_in m ++ key.items ∷ []
kept_is key v [] h = refl
kept_is key v ((k, w) ∷ m) h = go (bytes_eq key.items k.items) h (λ p. kept_is key v m p)
  where
    go : (b : Bool) → (b || list_any (bytes_eq key.items) (names_in m)) ≡ false → (list_any (bytes_eq key.items) (names_in m) ≡ false → names_in (insert_entry (λ a b. bytes_eq a.items b.items) m key v) ≡ names_in m ++ key.items ∷ []) →
        names_in (if b then (k, v) ∷ m else (k, w) ∷ insert_entry (λ a b. bytes_eq a.items b.items) m key v) ≡ k.items ∷ (names_in m ++ key.items ∷ [])
    go true p later = absurd (cc)
    go false p later = ap (λ l. k.items ∷ l) (later p)

pub ruleset using_names = (found_is, kept_is)
