-- The list of cells: what each of them is, and the values that a state gives to them.
use Rattle.std.proofs.Common.{◌≡◌, ℕ, zero, suc, Bool, true, false, not, ◌&&◌, List, [], ◌∷◌, ◌++◌, map, Option, None, Some, refl, ap, ◌∙◌, subst, arith}
use Rattle.std.specs.Prelude.{nat_eq, if◌then◌else◌, slice_get, is_some}
use Rattle.std.specs.List.{flat_map}
use Rattle.std.specs.Str.{bytes_eq}
use Rattle.std.proofs.lemmas.Bool.{and_parts}
use Rattle.murphi_typed.specs.declared.types.Simple.{Simple}
use Rattle.murphi_typed.specs.declared.types.AnyType as t
use Rattle.murphi_typed.specs.declared.types.AnyType.{AnyType, Row_of-Field, end_of-Field, more_of-Field}
use Rattle.murphi_typed.specs.declared.types.Kind.{Kind}
use Rattle.murphi_typed.specs.Forms.{ArrayForm}
use Rattle.murphi_typed.specs.Families.{Name, Path, Into, Over, Way, one_more, ways, row_ways, path_of, leaf_at, row_leaf}
use Rattle.murphi_typed.specs.WellTyped.{is_simple_type, is_type, are_fields, row_field}
use Rattle.murphi_typed.proofs.TestLemmas.{names_true}
use Rattle.murphi_typed.proofs.LeafLemmas.{some_same, not_some}

-- a fact of each item of a list
abbrev pub Each : {A : Type 0} → (A → Type 0) → List A → Type 0
Each P [] = Unit {0}
Each P (x ∷ xs) = P x × Each P xs

pub each_append : {A : Type 0} (P : A → Type 0) (xs ys : List A) → Each P xs → Each P ys → Each P (xs ++ ys)
each_append P [] ys a b = b
each_append P (x ∷ xs) ys a b = (a.0, each_append P xs ys a.1 b)

pub each_map : {A B : Type 0} (P : B → Type 0) (f : A → B) (xs : List A) → Each (λ x. P (f x)) xs → Each P (map f xs)
each_map P f [] a = tt
each_map P f (x ∷ xs) a = (a.0, each_map P f xs a.1)

pub each_flat : {A B : Type 0} (P : B → Type 0) (f : A → List B) (xs : List A) → Each (λ x. Each P (f x)) xs → Each P (flat_map f xs)
each_flat P f [] a = tt
each_flat P f (x ∷ xs) a = each_append P (f x) (flat_map f xs) a.0 (each_flat P f xs a.1)

pub each_all : {A : Type 0} (P : A → Type 0) (xs : List A) → ((x : A) → P x) → Each P xs
each_all P [] all = tt
each_all P (x ∷ xs) all = (all x, each_all P xs all)

pub each_other : {A : Type 0} (P Q : A → Type 0) (xs : List A) → ((x : A) → P x → Q x) → Each P xs → Each Q xs
each_other P Q [] next a = tt
each_other P Q (x ∷ xs) next a = (next x a.0, each_other P Q xs next a.1)

pub each_at : {A : Type 0} (P : A → Type 0) (xs : List A) (k : ℕ) (x : A) → Each P xs → slice_get xs k ≡ Some x → P x
each_at P [] k x a e = absurd (not_some e)
each_at P (y ∷ xs) zero x a e = subst P (some_same e) a.0
each_at P (y ∷ xs) (suc k) x a e = each_at P xs k x a.1 e

-- a way down leads to its simple type
abbrev pub Leads : AnyType → Way → Type 0
Leads type way = leaf_at type (path_of way.steps) ≡ Some way.leaf

-- a way through a field of a row; the first field of a name is found
abbrev pub LeadsIn : {n : _} → Row_of-Field n → Way → Type 0
LeadsIn fields way = (name : Name) × (path : Path) × ((path_of way.steps ≡ name ∷ path) × (row_leaf fields name path ≡ Some way.leaf) × (is_some (row_field fields name) ≡ true))

some_field : (b : Bool) (type : AnyType) (o : Option AnyType) → is_some o ≡ true → is_some (if b then Some type else o) ≡ true
some_field true type o e = refl
some_field false type o e = e

not_some_some : (b : Bool) → not b ≡ true → b ≡ true → ⊥
not_some_some true e s = cc
not_some_some false e s = cc

own_name : (xs : List ℕ) → bytes_eq xs xs ≡ true
own_name [] = refl
own_name (x ∷ xs) = ap (λ b. b && bytes_eq xs xs) (same x) ∙ own_name xs
  where
    same : (x : ℕ) → nat_eq x x ≡ true
    same x = grind (arith)

-- what a record leads to
row_path_leaf : {n : _} → Row_of-Field n → Path → Option Simple
row_path_leaf fields [] = None
row_path_leaf fields (name ∷ path) = row_leaf fields name path

mutual
  unfolding ways leaf_at is_type row_path_leaf

  pub ways_lead : (kinds : List Kind) (type : AnyType) → is_type kinds type ≡ true → Each (Leads type) (ways type)
  ways_lead kinds (t.Simple type) fine = (refl, tt)
  ways_lead kinds (t.Record' _ fields) fine = each_other (LeadsIn fields) (Leads (t.Record' _ fields)) (row_ways fields) (λ way leads. through way leads) (row_leads kinds fields fine)
    where
      through : (way : Way) → LeadsIn fields way → row_path_leaf fields (path_of way.steps) ≡ Some way.leaf
      through way leads = let (name, path, facts) = leads in ap (row_path_leaf fields) facts.0 ∙ facts.1
  ways_lead kinds (ArrayForm index item) fine =
      let (i, rest) = and_parts (is_simple_type kinds index) (is_type kinds item) fine in
      each_map (Leads (ArrayForm index item)) (one_more (Over index)) (ways item) (ways_lead kinds item rest)

  row_leads : {n : _} (kinds : List Kind) (fields : Row_of-Field n) → are_fields kinds fields ≡ true → Each (LeadsIn fields) (row_ways fields)
  row_leads kinds end_of-Field fine = tt
  row_leads kinds (more_of-Field first type rest) fine =
      let (here, later) = and_parts (is_type kinds type) (not (is_some (row_field rest first)) && are_fields kinds rest) fine in
      let (once, others) = and_parts (not (is_some (row_field rest first))) (are_fields kinds rest) later in
      each_append (LeadsIn (more_of-Field first type rest)) (map (one_more (Into first)) (ways type)) (row_ways rest)
      (each_map (LeadsIn (more_of-Field first type rest)) (one_more (Into first)) (ways type) (each_other (Leads type) _ (ways type) (λ way leads. (first, path_of way.steps, (refl, ap (λ b. if b then leaf_at type (path_of way.steps) else row_leaf rest first (path_of way.steps)) (own_name first) ∙ leads, ap (λ b. is_some (if b then Some type else row_field rest first)) (own_name first)))) (ways_lead kinds type here)))
      (each_other (LeadsIn rest) (LeadsIn (more_of-Field first type rest)) (row_ways rest) (λ way leads. further way leads once) (row_leads kinds rest others))
    where
      further : (way : Way) → LeadsIn rest way → not (is_some (row_field rest first)) ≡ true → LeadsIn (more_of-Field first type rest) way
      further way leads once =
          let (name, path, facts) = leads in
          (name, path, (facts.0, go name path facts.1 facts.2 (bytes_eq first name) refl once, some_field (bytes_eq first name) type (row_field rest name) facts.2))
        where
          go : (name : Name) (path : Path) → row_leaf rest name path ≡ Some way.leaf → is_some (row_field rest name) ≡ true → (b : Bool) → bytes_eq first name ≡ b → not (is_some (row_field rest first)) ≡ true → (if b then leaf_at type path else row_leaf rest name path) ≡ Some way.leaf
          go name path leads there false was once = leads
          go name path leads there true was once = absurd (not_some_some (is_some (row_field rest first)) once (ap (λ n. is_some (row_field rest n)) (names_true first name was) ∙ there))
