-- Writing into a list that holds the cells.
use Rattle.std.proofs.Common.{◌≡◌, ℕ, zero, suc, ◌+◌, ◌<◌, ◌≤◌, Bool, true, false, ◌&&◌, ◌⊎◌, inl, inr, List, [], ◌∷◌, ◌++◌, length, Option, None, Some, refl, sym, ap, ◌∙◌, arith, append-nil}
use Rattle.std.specs.Prelude.{if◌then◌else◌, slice_get, slice_set, nat_eq, pos, negsuc}
use Rattle.std.specs.Str.{bytes_eq}
use Rattle.std.proofs.lemmas.Bool.{eq-eqb}
use Rattle.term_core.specs.declared.value.Value.{Value}
use Rattle.term_core.specs.declared.value.Value.TheVariants as v
use Rattle.term_core.specs.Values.{same_value}
use Rattle.murphi_typed.specs.Families.{Path}
use Rattle.murphi_typed.specs.Store.{Owner, same_owner, Place, Cells, beyond, renewed, written, only}
use Rattle.murphi_typed.proofs.TestLemmas.{owners_true, names_true, values_true, beyond_some}
use Rattle.murphi_run.specs.Layout.{size, has_cell, offset}
use Rattle.murphi_run.specs.Holding.{Block, Layout, number_in, Holds, IsLayout}
use Rattle.murphi_run.proofs.NumberLemmas.{cell_within, cells_apart, cell_ends}

pub get_set_same : {A : Type 0} (xs : List A) (k : ℕ) (x : A) → k < length xs → slice_get (slice_set xs k x) k ≡ Some x
get_set_same [] k x e = absurd (omega (arith, e))
get_set_same (y ∷ xs) zero x e = refl
get_set_same (y ∷ xs) (suc k) x e = get_set_same xs k x (omega (arith, e))

pub get_set_other : {A : Type 0} (xs : List A) (k j : ℕ) (x : A) → (k ≡ j → ⊥) → slice_get (slice_set xs k x) j ≡ slice_get xs j
get_set_other [] k j x e = refl
get_set_other (y ∷ xs) zero zero x e = absurd (e refl)
get_set_other (y ∷ xs) zero (suc j) x e = refl
get_set_other (y ∷ xs) (suc k) zero x e = refl
get_set_other (y ∷ xs) (suc k) (suc j) x e = get_set_other xs k j x (λ same. e (ap suc same))

pub same_self : (x : Value) → same_value x x ≡ true
same_self v.Undefined = refl
same_self (v.Truth true) = refl
same_self (v.Truth false) = refl
same_self (v.Number (pos n)) = eq-eqb n n refl
same_self (v.Number (negsuc n)) = eq-eqb n n refl
same_self (v.Member k n) = ap (λ b. b && nat_eq n n) (eq-eqb k k refl) ∙ eq-eqb n n refl
same_self (v.Node n) = eq-eqb n n refl

name_self : (xs : List ℕ) → bytes_eq xs xs ≡ true
name_self [] = refl
name_self (x ∷ xs) = ap (λ b. b && bytes_eq xs xs) (eq-eqb x x refl) ∙ name_self xs

-- a list goes beyond itself by nothing
beyond_itself : {A : Type 0} (same : A → A → Bool) → ((x : A) → same x x ≡ true) → (xs : List A) → beyond same xs xs ≡ Some []
beyond_itself same self [] = refl
beyond_itself same self (x ∷ xs) = ap (λ b. if b then beyond same xs xs else None) (self x) ∙ beyond_itself same self xs

none_some : {A : Type 0} {a : A} → None ≡ Some a → ⊥
none_some e = cc

some_one : {A : Type 0} {a b : A} → Some a ≡ Some b → a ≡ b
some_one e = cc

-- cells of two variables have two numbers
others_apart : (a b c d s u : ℕ) → b < s → d < u → (a + s ≤ c) ⊎ (c + u ≤ a) → a + b ≡ c + d → ⊥
others_apart a b c d s u low high (inl apart) e = omega (arith, low, high, apart, e)
others_apart a b c d s u low high (inr apart) e = omega (arith, low, high, apart, e)

same_number : (a b c : ℕ) → a + b ≡ a + c → b ≡ c
same_number a b c e = omega (arith, e)

number_below : (a b s n : ℕ) → b < s → a + s ≤ n → a + b < n
number_below a b s n low whole = omega (arith, low, whole)

not_same : (a b : Bool) → a ≡ b → a ≡ false → b ≡ false
not_same a b e f = sym e ∙ f

module _ (N : ℕ) (layout : Layout) (values : List Value) (cells : Cells) (b : Block) (place : Place) (new : Value) (fits : IsLayout N layout (length values)) (holds : Holds N layout values cells) (there : layout place.owner ≡ Some b) (has : has_cell N b.of place.path place.at ≡ true) where
  there_below : number_in N b place.path place.at < length values
  there_below = number_below b.first (offset N b.of place.path place.at) (size N b.of) (length values) (cell_within N b.of place.path place.at has) (fits.within place.owner b there)

  -- the cell of another variable
  other_owner : (owner : Owner) (c : Block) → layout owner ≡ Some c → same_owner owner place.owner ≡ false → (path : Path) (at : List Value) → has_cell N c.of path at ≡ true → slice_get (slice_set values (number_in N b place.path place.at) new) (number_in N c path at) ≡ Some (cells owner path at)
  other_owner owner c found apart path at e =
      get_set_other values (number_in N b place.path place.at) (number_in N c path at) new
      (λ same. others_apart c.first (offset N c.of path at) b.first (offset N b.of place.path place.at) (size N c.of) (size N b.of) (cell_within N c.of path at e) (cell_within N b.of place.path place.at has) (fits.apart owner place.owner c b found there apart) (sym same))
      ∙ holds owner c found path at e

  -- another cell of the variable
  other_cell : (owner : Owner) → owner ≡ place.owner → (path : Path) (at : List Value) → has_cell N b.of path at ≡ true → (path ≡ place.path → at ≡ place.at → ⊥) → slice_get (slice_set values (number_in N b place.path place.at) new) (number_in N b path at) ≡ Some (cells owner path at)
  other_cell owner is path at e apart =
      get_set_other values (number_in N b place.path place.at) (number_in N b path at) new
      (λ same. let (p, q) = cells_apart N b.of path place.path at place.at e has (sym (same_number b.first (offset N b.of place.path place.at) (offset N b.of path at) same)) in apart p q)
      ∙ holds owner b (ap layout is ∙ there) path at e

  -- the cell itself
  this_cell : (path : Path) (at : List Value) → path ≡ place.path → at ≡ place.at → slice_get (slice_set values (number_in N b place.path place.at) new) (number_in N b path at) ≡ Some new
  this_cell path at p q =
      ap (λ x. slice_get (slice_set values (number_in N b place.path place.at) new) (number_in N b x at)) p
      ∙ ap (λ x. slice_get (slice_set values (number_in N b place.path place.at) new) (number_in N b place.path x)) q
      ∙ get_set_same values (number_in N b place.path place.at) new there_below

  in_variable : (owner : Owner) → owner ≡ place.owner → (path : Path) (at : List Value) → has_cell N b.of path at ≡ true → (o : Option Path) → beyond bytes_eq place.path path ≡ o → (q : Option (List Value)) → beyond same_value place.at at ≡ q → slice_get (slice_set values (number_in N b place.path place.at) new) (number_in N b path at) ≡ Some (renewed (only new) (cells owner path at) o q)
  in_variable owner is path at e None was q now =
      other_cell owner is path at e (λ p r. none_some (sym was ∙ ap (beyond bytes_eq place.path) p ∙ beyond_itself bytes_eq name_self place.path))
  in_variable owner is path at e (Some rest) was None now =
      other_cell owner is path at e (λ p r. none_some (sym now ∙ ap (beyond same_value place.at) r ∙ beyond_itself same_value same_self place.at))
  in_variable owner is path at e (Some rest) was (Some further) now =
      let longer : path ≡ place.path ++ rest = beyond_some bytes_eq names_true place.path path rest was in
      let wider : at ≡ place.at ++ further = beyond_some same_value values_true place.at at further now in
      let whole : has_cell N b.of (place.path ++ rest) (place.at ++ further) ≡ true = ap (λ x. has_cell N b.of x (place.at ++ further)) (sym longer) ∙ ap (has_cell N b.of path) (sym wider) ∙ e in
      let (p, q) = cell_ends N b.of place.path rest place.at further has whole in
      this_cell path at (longer ∙ ap (λ x. place.path ++ x) p ∙ append-nil place.path) (wider ∙ ap (λ x. place.at ++ x) q ∙ append-nil place.at)

  pub set_holds : Holds N layout (slice_set values (number_in N b place.path place.at) new) (written cells place (only new))
  set_holds owner c found path at e = go (same_owner owner place.owner) refl
    where
      go : (s : Bool) → same_owner owner place.owner ≡ s → slice_get (slice_set values (number_in N b place.path place.at) new) (number_in N c path at) ≡ Some (if s then renewed (only new) (cells owner path at) (beyond bytes_eq place.path path) (beyond same_value place.at at) else cells owner path at)
      go false was = other_owner owner c found was path at e
      go true was =
          let is : owner ≡ place.owner = owners_true owner place.owner was in
          let one : b ≡ c = some_one (sym there ∙ ap layout (sym is) ∙ found) in
          let inside : has_cell N b.of path at ≡ true = ap (λ x. has_cell N x.of path at) one ∙ e in
          ap (λ x. slice_get (slice_set values (number_in N b place.path place.at) new) (number_in N x path at)) (sym one)
          ∙ in_variable owner is path at inside (beyond bytes_eq place.path path) refl (beyond same_value place.at at) refl
