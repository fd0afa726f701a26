-- What a body may read and write by families, and what it knows of where its formals stand.
use Rattle.std.proofs.Common.{◌≡◌, ℕ, true, false, List, [], ◌∷◌, ◌++◌, Option, None, Some, refl, sym, ap, ◌∙◌, subst, arith}
use Rattle.std.specs.Prelude.{nat_lt, slice_get, if◌then◌else◌}
use Rattle.term_core.specs.declared.value.Value.{Value}
use Rattle.murphi_ast.specs.declared.token.Span.{Span}
use Rattle.murphi_typed.specs.declared.expr.Root.{Root}
use Rattle.murphi_typed.specs.declared.expr.Root.TheVariants as root
use Rattle.murphi_typed.specs.declared.expr.Designator.{Row_of-Selector, end_of-Selector, more_of-Selector}
use Rattle.murphi_typed.specs.declared.expr.Selector as select
use Rattle.murphi_typed.specs.Families.{Path}
use Rattle.murphi_typed.specs.Store.{Owner, Global, Local, Formal, Place, Cells}
use Rattle.murphi_typed.specs.Expressions.{Given, Filled, Standing, Scene, whole, root_place, stood_for, under, row_path}
use Rattle.scalarset_rules.specs.declared.shape.Part.{Part}
use Rattle.scalarset_rules.specs.declared.shape.Part.TheVariants.{Field, Index}
use Rattle.scalarset_rules.specs.Accesses.{Shape, Stand, Valued, Placed, Scope, whole_shape, placed_shape, root_shape, row_parts, under as shape_under, Access, from_call}
use Rattle.scalarset_rules.specs.Rules.{is_deeper}
use Rattle.scalarset_rules.specs.Turns.{fields, is_front}
use Rattle.typed_laws.specs.Regions.{Region}

pub both : {A B C : Type 0} {a a' : A} {b b' : B} (f : A → B → C) → a ≡ a' → b ≡ b' → f a b ≡ f a' b'
both {a = a} {a' = a'} {b = b} {b' = b'} f e g = ap (λ x. f x b) e ∙ ap (f a') g

pub some_same : {A : Type 0} {a b : A} → Some a ≡ Some b → a ≡ b
some_same e = cc

pub false-true : {A : Type 0} → false ≡ true → A
false-true e = cc

-- an access is to what may be read, or to what may be written
abbrev pub Good : Region → Region → Access → Type 0
Good R W a = (path : Path) → is_front (fields a.shape.parts) path ≡ true → (if a.write then W else R) a.shape.owner path ≡ true

abbrev pub AllGood : Region → Region → List Access → Type 0
AllGood R W [] = Unit {0}
AllGood R W (a ∷ all) = Good R W a × AllGood R W all

pub good_front : (R W : Region) (xs ys : List Access) → AllGood R W (xs ++ ys) → AllGood R W xs
good_front R W [] ys good = tt
good_front R W (x ∷ xs) ys (one, more) = (one, good_front R W xs ys more)

pub good_back : (R W : Region) (xs ys : List Access) → AllGood R W (xs ++ ys) → AllGood R W ys
good_back R W [] ys good = good
good_back R W (x ∷ xs) ys (one, more) = good_back R W xs ys more

-- who is to blame does not matter
pub good_called : (R W : Region) (call : Span) (xs : List Access) → AllGood R W (from_call call xs) → AllGood R W xs
good_called R W call [] good = tt
good_called R W call (x ∷ xs) (one, more) = (one, good_called R W call xs more)

-- cells that agree on what may be read, of the variables in scope at a depth
abbrev pub Agree : Region → ℕ → Cells → Cells → Type 0
Agree R depth c d =
    (owner : Owner) (path : Path) (at : List Value) → is_deeper depth owner ≡ false → R owner path ≡ true
    → c owner path at ≡ d owner path at

-- cells that differ from those before at most in what may be written
abbrev pub Kept : Region → ℕ → Cells → Cells → Type 0
Kept W depth c u =
    (owner : Owner) (path : Path) (at : List Value) → is_deeper depth owner ≡ false → W owner path ≡ false
    → u owner path at ≡ c owner path at

pub fields_joined : (ps qs : List Part) → fields (ps ++ qs) ≡ fields ps ++ fields qs
fields_joined [] qs = refl
fields_joined (Field name ∷ ps) qs = ap (λ path. name ∷ path) (fields_joined ps qs)
fields_joined (Index m ∷ ps) qs = fields_joined ps qs

pub row_fields : {n : _} (scope : Scope) (selectors : Row_of-Selector n) → row_path selectors ≡ fields (row_parts scope selectors)
row_fields scope end_of-Selector = refl
row_fields scope (more_of-Selector (select.Field name) rest) = ap (λ path. name ∷ path) (row_fields scope rest)
row_fields scope (more_of-Selector (select.Index over index) rest) = row_fields scope rest

-- Where a body stands

-- a place is that of a shape
pub record IsAt (depth : ℕ) (shape : Shape) (place : Place) : Type 0 where
  pub owner : place.owner ≡ shape.owner
  pub path : place.path ≡ fields shape.parts
  pub near : is_deeper depth shape.owner ≡ false

abbrev pub PlaceStands : ℕ → Option Stand → Option Given → Type 0
PlaceStands depth s None = Unit {0}
PlaceStands depth s (Some (Filled contents)) = Unit {0}
PlaceStands depth (Some (Placed shape)) (Some (Standing place)) = IsAt depth shape place
PlaceStands depth (Some (Valued m)) (Some (Standing place)) = ⊥
PlaceStands depth None (Some (Standing place)) = ⊥

pub record Fits (scope : Scope) (scene : Scene) : Type 0 where
  pub depth : scene.depth ≡ scope.depth
  pub places : (k : ℕ) → PlaceStands scope.depth (slice_get scope.stands k) (slice_get scene.formals k)

not_less : (d : ℕ) → nat_lt d d ≡ false
not_less d = grind arith

whole_at : (depth : ℕ) (a b : Owner) → a ≡ b → is_deeper depth b ≡ false → IsAt depth (whole_shape b) (whole a)
whole_at depth a b e near = record { owner = e; path = refl; near = near }

pub root_at : (scope : Scope) (scene : Scene) (r : Root) (p : Place) → Fits scope scene → root_place scene r ≡ Some p → IsAt scope.depth (root_shape scope r) p
root_at scope scene (root.Global k) p fit e = subst (IsAt scope.depth (whole_shape (Global k))) (some_same e) (whole_at scope.depth (Global k) (Global k) refl refl)
root_at scope scene (root.Local k) p fit e = subst (IsAt scope.depth (whole_shape (Local scope.depth k))) (some_same e) (whole_at scope.depth (Local scene.depth k) (Local scope.depth k) (ap (λ d. Local d k) fit.depth) (not_less scope.depth))
root_at scope scene (root.Formal k) p fit e = subst (IsAt scope.depth (whole_shape (Formal scope.depth k))) (some_same e) (whole_at scope.depth (Formal scene.depth k) (Formal scope.depth k) (ap (λ d. Formal d k) fit.depth) (not_less scope.depth))
root_at scope scene (root.Place k) p fit e = go (slice_get scope.stands k) (slice_get scene.formals k) (fit.places k) e
  where
    go : (s : Option Stand) (g : Option Given) → PlaceStands scope.depth s g → stood_for g ≡ Some p → IsAt scope.depth (placed_shape (Formal scope.depth k) s) p
    go s None stands e = cc
    go s (Some (Filled contents)) stands e = cc
    go (Some (Placed shape)) (Some (Standing place)) stands e = subst (IsAt scope.depth shape) (some_same e) stands
    go (Some (Valued m)) (Some (Standing place)) stands e = absurd stands
    go None (Some (Standing place)) stands e = absurd stands

pub selected_at : {l : _} (scope : Scope) (shape : Shape) (p : Place) (selectors : Row_of-Selector l) (indices : List Value) → IsAt scope.depth shape p → IsAt scope.depth (shape_under shape (row_parts scope selectors)) (under p (row_path selectors) indices)
selected_at scope shape p selectors indices at =
    record {
      owner = at.owner;
      path = both (λ a b. a ++ b) at.path (row_fields scope selectors) ∙ sym (fields_joined shape.parts (row_parts scope selectors));
      near = at.near;
    }
