-- What the turn of a node may read and write, and what a body that stands in a scope knows of its indices.
use Rattle.std.proofs.Common.{◌≡◌, ℕ, zero, suc, ◌≤◌, Bool, true, false, not, ◌&&◌, ◌||◌, List, [], ◌∷◌, ◌++◌, Option, None, Some, refl, sym, ap, ◌∙◌, subst, arith}
use Rattle.std.specs.Prelude.{nat_lt, slice_get}
use Rattle.term_core.specs.declared.value.Value.{Value}
use Rattle.term_core.specs.declared.value.Value.TheVariants as value
use Rattle.term_core.specs.Values.{same_value}
use Rattle.murphi_ast.specs.declared.token.Span.{Span}
use Rattle.murphi_typed.specs.declared.expr.Root.{Root}
use Rattle.murphi_typed.specs.declared.expr.Root.TheVariants as root
use Rattle.murphi_typed.specs.declared.expr.Designator.{Row_of-Selector, end_of-Selector, more_of-Selector}
use Rattle.murphi_typed.specs.declared.expr.Selector as select
use Rattle.murphi_typed.specs.Families.{Path}
use Rattle.murphi_typed.specs.Store.{Owner, Global, Local, Formal, Place, Cells}
use Rattle.murphi_typed.specs.Expressions.{Given, Filled, Standing, Scene, whole, root_place, stood_for, under, row_path}
use Rattle.scalarset_rules.specs.Accesses.{Binder, same_binder, Part, Field, Index, Shape, Stand, Valued, Placed, Scope, stand_mark, whole_shape, placed_shape, root_shape, row_parts, under as shape_under, Access, from_call}
use Rattle.scalarset_rules.specs.Rules.{marks, is_it, has_at, is_deeper}
use Rattle.scalarset_rules.specs.Turns.{fields, is_front, node_at, is_own, is_formal, is_writable}
use Rattle.scalarset_rules.proofs.Sameness.{both, false-true, some_same, node_itself}

-- the place of each family in the loop, or none where the loop does not write it
abbrev pub Places : Type 0
Places = Owner → Path → Option ℕ

-- a write is to a family with a place; where there is a place, the variable is there
abbrev pub fine_at : Bool → Binder → Option ℕ → List (Option Binder) → Bool
fine_at write v None ms = not write
fine_at write v (Some k) ms = has_at v k ms

-- an access keeps to the places of the families that it is to
pub record Good (v : Binder) (keep : Places) (a : Access) : Type 0 where
  pub writable : is_writable a ≡ true
  pub keeps : (path : Path) → is_deeper v.depth a.shape.owner ≡ false → is_front (fields a.shape.parts) path ≡ true
      → fine_at a.write v (keep a.shape.owner path) (marks a.shape.parts) ≡ true

abbrev pub AllGood : Binder → Places → List Access → Type 0
AllGood v keep [] = Unit {0}
AllGood v keep (a ∷ all) = Good v keep a × AllGood v keep all

pub good_front : (v : Binder) (keep : Places) (xs ys : List Access) → AllGood v keep (xs ++ ys) → AllGood v keep xs
good_front v keep [] ys good = tt
good_front v keep (x ∷ xs) ys (one, more) = (one, good_front v keep xs ys more)

pub good_back : (v : Binder) (keep : Places) (xs ys : List Access) → AllGood v keep (xs ++ ys) → AllGood v keep ys
good_back v keep [] ys good = good
good_back v keep (x ∷ xs) ys (one, more) = good_back v keep xs ys more

-- who is to blame does not matter
pub good_called : (v : Binder) (keep : Places) (call : Span) (xs : List Access) → AllGood v keep (from_call call xs) → AllGood v keep xs
good_called v keep call [] good = tt
good_called v keep call (x ∷ xs) (one, more) = (record { writable = one.writable; keeps = one.keeps }, good_called v keep call xs more)

-- what the turn of a node may read of a family
abbrev pub is_shared : ℕ → Option ℕ → List Value → Bool
is_shared n None at = true
is_shared n (Some k) at = node_at n k at

-- what it may read: locals of routines that it calls, its own cells, and the families that the loop does not write
abbrev pub readable : Binder → Places → ℕ → Owner → Path → List Value → Bool
readable v keep n owner path at = is_deeper v.depth owner || is_shared n (keep owner path) at

-- what it may write: locals of routines that it calls and its own cells
abbrev pub writable : Binder → Places → ℕ → Owner → Path → List Value → Bool
writable v keep n owner path at = not (is_formal owner) && (is_deeper v.depth owner || is_own n (keep owner path) at)

-- cells that agree on what the turn may read, of the variables in scope at a depth
abbrev pub Agree : Binder → Places → ℕ → ℕ → Cells → Cells → Type 0
Agree v keep n depth c d =
    (owner : Owner) (path : Path) (at : List Value) → is_deeper depth owner ≡ false → readable v keep n owner path at ≡ true
    → c owner path at ≡ d owner path at

-- cells that differ from those before at most in what the turn may write
abbrev pub Kept : Binder → Places → ℕ → ℕ → Cells → Cells → Type 0
Kept v keep n depth c u =
    (owner : Owner) (path : Path) (at : List Value) → is_deeper depth owner ≡ false → writable v keep n owner path at ≡ false
    → u owner path at ≡ c owner path at

-- Indices

-- an index whose mark is the variable is the node
abbrev pub Marked : Binder → ℕ → List (Option Binder) → List Value → Type 0
Marked v n [] [] = Unit {0}
Marked v n [] (x ∷ xs) = ⊥
Marked v n (m ∷ ms) [] = ⊥
Marked v n (m ∷ ms) (x ∷ xs) = (is_it v m ≡ true → x ≡ value.Node n) × Marked v n ms xs

pub marked_joined : (v : Binder) (n : ℕ) (ms ks : List (Option Binder)) (xs ys : List Value) → Marked v n ms xs → Marked v n ks ys → Marked v n (ms ++ ks) (xs ++ ys)
marked_joined v n [] ks [] ys a b = b
marked_joined v n [] ks (x ∷ xs) ys a b = absurd a
marked_joined v n (m ∷ ms) ks [] ys a b = absurd a
marked_joined v n (m ∷ ms) ks (x ∷ xs) ys (e, a) b = (e, marked_joined v n ms ks xs ys a b)

pub has_node : (v : Binder) (n k : ℕ) (ms : List (Option Binder)) (xs more : List Value) → Marked v n ms xs → has_at v k ms ≡ true → node_at n k (xs ++ more) ≡ true
has_node v n k [] xs more a e = false-true e
has_node v n k (m ∷ ms) [] more a e = absurd a
has_node v n zero (m ∷ ms) (x ∷ xs) more (is, a) e = ap (λ y. same_value y (value.Node n)) (is e) ∙ node_itself n
has_node v n (suc k) (m ∷ ms) (x ∷ xs) more (is, a) e = has_node v n k ms xs more a e

pub marks_joined : (ps qs : List Part) → marks (ps ++ qs) ≡ marks ps ++ marks qs
marks_joined [] qs = refl
marks_joined (Field name ∷ ps) qs = marks_joined ps qs
marks_joined (Index m ∷ ps) qs = ap (λ ms. m ∷ ms) (marks_joined ps qs)

pub fields_joined : (ps qs : List Part) → fields (ps ++ qs) ≡ fields ps ++ fields qs
fields_joined [] qs = refl
fields_joined (Field name ∷ ps) qs = ap (λ path. name ∷ path) (fields_joined ps qs)
fields_joined (Index m ∷ ps) qs = fields_joined ps qs

pub row_fields : {n : _} (scope : Scope) (selectors : Row_of-Selector n) → row_path selectors ≡ fields (row_parts scope selectors)
row_fields scope end_of-Selector = refl
row_fields scope (more_of-Selector (select.Field name) rest) = ap (λ path. name ∷ path) (row_fields scope rest)
row_fields scope (more_of-Selector (select.Index over index) rest) = row_fields scope rest

-- Where a body stands

-- a place is that of a shape, and its marked indices are the node
pub record IsAt (v : Binder) (n depth : ℕ) (shape : Shape) (place : Place) : Type 0 where
  pub owner : place.owner ≡ shape.owner
  pub path : place.path ≡ fields shape.parts
  pub near : is_deeper depth shape.owner ≡ false
  pub marked : Marked v n (marks shape.parts) place.at

abbrev pub PlaceStands : Binder → ℕ → ℕ → Option Stand → Option Given → Type 0
PlaceStands v n depth s None = Unit {0}
PlaceStands v n depth s (Some (Filled contents)) = Unit {0}
PlaceStands v n depth (Some (Placed shape)) (Some (Standing place)) = IsAt v n depth shape place
PlaceStands v n depth (Some (Valued m)) (Some (Standing place)) = ⊥
PlaceStands v n depth None (Some (Standing place)) = ⊥

pub record Fits (v : Binder) (n : ℕ) (scope : Scope) (scene : Scene) (c : Cells) : Type 0 where
  pub depth : scene.depth ≡ scope.depth
  pub inside : v.depth ≤ scope.depth
  pub bound : (k : ℕ) → same_binder v (record { depth = scope.depth; number = k }) ≡ true
      → slice_get scene.bound k ≡ Some (value.Node n)
  pub formals : (k : ℕ) → is_it v (stand_mark (slice_get scope.stands k)) ≡ true
      → c (Formal scope.depth k) [] [] ≡ value.Node n
  pub places : (k : ℕ) → PlaceStands v n scope.depth (slice_get scope.stands k) (slice_get scene.formals k)

not_less : (d : ℕ) → nat_lt d d ≡ false
not_less d = grind arith

whole_at : (v : Binder) (n depth : ℕ) (a b : Owner) → a ≡ b → is_deeper depth b ≡ false → IsAt v n depth (whole_shape b) (whole a)
whole_at v n depth a b e near = record { owner = e; path = refl; near = near; marked = tt }

pub root_at : (v : Binder) (n : ℕ) (scope : Scope) (scene : Scene) (c : Cells) (r : Root) (p : Place) → Fits v n scope scene c → root_place scene r ≡ Some p → IsAt v n scope.depth (root_shape scope r) p
root_at v n scope scene c (root.Global k) p fit e = subst (IsAt v n scope.depth (whole_shape (Global k))) (some_same e) (whole_at v n scope.depth (Global k) (Global k) refl refl)
root_at v n scope scene c (root.Local k) p fit e = subst (IsAt v n scope.depth (whole_shape (Local scope.depth k))) (some_same e) (whole_at v n scope.depth (Local scene.depth k) (Local scope.depth k) (ap (λ d. Local d k) fit.depth) (not_less scope.depth))
root_at v n scope scene c (root.Formal k) p fit e = subst (IsAt v n scope.depth (whole_shape (Formal scope.depth k))) (some_same e) (whole_at v n scope.depth (Formal scene.depth k) (Formal scope.depth k) (ap (λ d. Formal d k) fit.depth) (not_less scope.depth))
root_at v n scope scene c (root.Place k) p fit e = go (slice_get scope.stands k) (slice_get scene.formals k) (fit.places k) e
  where
    go : (s : Option Stand) (g : Option Given) → PlaceStands v n scope.depth s g → stood_for g ≡ Some p → IsAt v n scope.depth (placed_shape (Formal scope.depth k) s) p
    go s None stands e = cc
    go s (Some (Filled contents)) stands e = cc
    go (Some (Placed shape)) (Some (Standing place)) stands e = subst (IsAt v n scope.depth shape) (some_same e) stands
    go (Some (Valued m)) (Some (Standing place)) stands e = absurd stands
    go None (Some (Standing place)) stands e = absurd stands

pub selected_at : {l : _} (v : Binder) (n : ℕ) (scope : Scope) (shape : Shape) (p : Place) (selectors : Row_of-Selector l) (indices : List Value) → IsAt v n scope.depth shape p → Marked v n (marks (row_parts scope selectors)) indices → IsAt v n scope.depth (shape_under shape (row_parts scope selectors)) (under p (row_path selectors) indices)
selected_at v n scope shape p selectors indices at marked =
    record {
      owner = at.owner;
      path = both (λ a b. a ++ b) at.path (row_fields scope selectors) ∙ sym (fields_joined shape.parts (row_parts scope selectors));
      near = at.near;
      marked = subst (λ ms. Marked v n ms (p.at ++ indices)) (sym (marks_joined shape.parts (row_parts scope selectors))) (marked_joined v n (marks shape.parts) (marks (row_parts scope selectors)) p.at indices at.marked marked);
    }
