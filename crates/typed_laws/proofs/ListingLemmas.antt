-- No cell is listed twice, and so a change of a cell is a change at one place of the list.
use Rattle.std.proofs.Common.{◌≡◌, ℕ, zero, suc, ◌≤◌, Bool, true, false, not, ◌&&◌, List, [], ◌∷◌, ◌++◌, map, Option, None, Some, refl, sym, ap, ◌∙◌, subst, arith}
use Rattle.std.specs.Prelude.{nat_eq, if◌then◌else◌, slice_get, is_some, option_map, ℤ, pos, negsuc, ◌+ℤ◌, ◌-ℤ◌, int_lt, IsTrue}
use Rattle.std.specs.List.{flat_map}
use Rattle.std.specs.Str.{bytes_eq}
use Rattle.std.proofs.lemmas.Int.{ints}
use Rattle.std.proofs.lemmas.Bool.{and_parts, and_from, eqb-true, eq-eqb}
use Rattle.term_core.specs.declared.value.Value.{Value}
use Rattle.term_core.specs.declared.value.Value.TheVariants as value
use Rattle.term_core.specs.Nodes.{nodes_from}
use Rattle.term_core.specs.Values.{same_value, same_number, same_truth}
use Rattle.murphi_typed.specs.declared.types.Simple.{Simple}
use Rattle.murphi_typed.specs.declared.types.Simple.TheVariants as simple
use Rattle.murphi_typed.specs.declared.types.AnyType as t
use Rattle.murphi_typed.specs.declared.types.AnyType.{AnyType, Row_of-Field, end_of-Field, more_of-Field}
use Rattle.murphi_typed.specs.declared.types.Kind.{Kind}
use Rattle.murphi_typed.specs.declared.protocol.Variable.{Variable}
use Rattle.murphi_typed.specs.declared.protocol.Typed.{Typed}
use Rattle.murphi_typed.specs.Forms.{ArrayForm}
use Rattle.murphi_typed.specs.Values.{numbers_from, numbers_within, values}
use Rattle.murphi_typed.specs.Families.{Name, Path, Into, Over, Way, one_more, ways, row_ways, path_of, axes_of, choices, Cell, cells_on, cells_from, cells}
use Rattle.murphi_typed.specs.Store.{Owner, Global, same_owner, Place, Cells, beyond, renewed, written, only}
use Rattle.murphi_typed.specs.Steps.{same_list, is_cell, value_in}
use Rattle.murphi_typed.specs.WellTyped.{is_simple_type, is_type, are_fields, row_field, are_variables, is_well_typed}
use Rattle.typed_laws.specs.Regions.{is_under}
use Rattle.typed_laws.specs.Listing.{place_in, changed, CellsHavePlaces, ChangesAreListed}
use Rattle.typed_laws.proofs.Standing.{both, false-true, some_same}
use Rattle.typed_laws.proofs.Reading.{name_itself}
use Rattle.typed_laws.proofs.Running.{names_true, owners_true}
use Rattle.typed_laws.proofs.RegionLemmas.{unchanged, owner_itself}

-- Two by two

abbrev pub Later : {A : Type 0} → (A → A → Type 0) → A → List A → Type 0
Later R x [] = Unit {0}
Later R x (y ∷ ys) = R x y × Later R x ys

abbrev pub Pairs : {A : Type 0} → (A → A → Type 0) → List A → Type 0
Pairs R [] = Unit {0}
Pairs R (x ∷ xs) = Later R x xs × Pairs R xs

abbrev pub Across : {A : Type 0} → (A → A → Type 0) → List A → List A → Type 0
Across R [] ys = Unit {0}
Across R (x ∷ xs) ys = Later R x ys × Across R xs ys

later_joined : {A : Type 0} (R : A → A → Type 0) (x : A) (ys zs : List A) → Later R x ys → Later R x zs → Later R x (ys ++ zs)
later_joined R x [] zs a b = b
later_joined R x (y ∷ ys) zs (r, a) b = (r, later_joined R x ys zs a b)

pairs_joined : {A : Type 0} (R : A → A → Type 0) (xs ys : List A) → Pairs R xs → Pairs R ys → Across R xs ys → Pairs R (xs ++ ys)
pairs_joined R [] ys a b c = b
pairs_joined R (x ∷ xs) ys (l, a) b (d, c) = (later_joined R x xs ys l d, pairs_joined R xs ys a b c)

later_map : {A B : Type 0} (R : A → A → Type 0) (S : B → B → Type 0) (f : A → B) → ((a b : A) → R a b → S (f a) (f b)) → (x : A) (xs : List A) → Later R x xs → Later S (f x) (map f xs)
later_map R S f next x [] a = tt
later_map R S f next x (y ∷ ys) (r, a) = (next x y r, later_map R S f next x ys a)

pairs_map : {A B : Type 0} (R : A → A → Type 0) (S : B → B → Type 0) (f : A → B) → ((a b : A) → R a b → S (f a) (f b)) → (xs : List A) → Pairs R xs → Pairs S (map f xs)
pairs_map R S f next [] a = tt
pairs_map R S f next (x ∷ xs) (l, a) = (later_map R S f next x xs l, pairs_map R S f next xs a)

-- one against all of a mapped list
later_all : {A B : Type 0} (S : B → B → Type 0) (f : A → B) (x : B) → ((a : A) → S x (f a)) → (xs : List A) → Later S x (map f xs)
later_all S f x all [] = tt
later_all S f x all (a ∷ xs) = (all a, later_all S f x all xs)

across_maps : {A B C : Type 0} (S : C → C → Type 0) (f : A → C) (g : B → C) → ((a : A) (b : B) → S (f a) (g b)) → (xs : List A) (ys : List B) → Across S (map f xs) (map g ys)
across_maps S f g all [] ys = tt
across_maps S f g all (x ∷ xs) ys = (later_all S g (f x) (all x) ys, across_maps S f g all xs ys)

-- a list against what is made of later ones
across_flat : {A B : Type 0} (R : A → A → Type 0) (S : B → B → Type 0) (f : A → List B) → ((a b : A) → R a b → Across S (f a) (f b)) → (x : A) (xs : List A) → Later R x xs → Across S (f x) (flat_map f xs)
across_flat R S f next x [] a = nothing (f x)
  where
    nothing : (ys : List _) → Across S ys []
    nothing [] = tt
    nothing (y ∷ ys) = (tt, nothing ys)
across_flat R S f next x (y ∷ ys) (r, a) = joined (f x) (f y) (flat_map f ys) (next x y r) (across_flat R S f next x ys a)
  where
    joined : (xs ys zs : List _) → Across S xs ys → Across S xs zs → Across S xs (ys ++ zs)
    joined [] ys zs a b = tt
    joined (x ∷ xs) ys zs (l, a) (m, b) = (later_joined S x ys zs l m, joined xs ys zs a b)

pairs_flat : {A B : Type 0} (R : A → A → Type 0) (S : B → B → Type 0) (f : A → List B) → ((a b : A) → R a b → Across S (f a) (f b)) → ((a : A) → Pairs S (f a)) → (xs : List A) → Pairs R xs → Pairs S (flat_map f xs)
pairs_flat R S f next each [] a = tt
pairs_flat R S f next each (x ∷ xs) (l, a) =
    pairs_joined S (f x) (flat_map f xs) (each x) (pairs_flat R S f next each xs a) (across_flat R S f next x xs l)

-- Values of a type differ

abbrev pub Differ : Value → Value → Type 0
Differ v w = (same_value v w ≡ false) × (same_value w v ≡ false)

less_differs : (a b : ℤ) → int_lt a b ≡ true → (same_number a b ≡ false) × (same_number b a ≡ false)
less_differs (pos a) (pos b) e = (grind (arith, e), grind (arith, e))
less_differs (pos a) (negsuc b) e = (refl, refl)
less_differs (negsuc a) (pos b) e = (refl, refl)
less_differs (negsuc a) (negsuc b) e = (grind (arith, e), grind (arith, e))

later_numbers : (a low : ℤ) (count : ℕ) → int_lt a low ≡ true → Later Differ (value.Number a) (map value.Number (numbers_from low count))
later_numbers a low zero e = tt
later_numbers a low (suc count) e = (less_differs a low e, later_numbers a (low +ℤ pos 1) count (more a low e))
  where
    more : (a b : ℤ) → int_lt a b ≡ true → int_lt a (b +ℤ pos 1) ≡ true
    more a b e = grind (arith, ints, e)

numbers_differ : (low : ℤ) (count : ℕ) → Pairs Differ (map value.Number (numbers_from low count))
numbers_differ low zero = tt
numbers_differ low (suc count) = (later_numbers low (low +ℤ pos 1) count (next low), numbers_differ (low +ℤ pos 1) count)
  where
    next : (z : ℤ) → int_lt z (z +ℤ pos 1) ≡ true
    next z = grind (arith, ints)

apart_numbers : (a b : ℕ) → suc a ≤ b → (nat_eq a b ≡ false) × (nat_eq b a ≡ false)
apart_numbers a b e = (grind (arith, e), grind (arith, e))

later_from : (f : ℕ → Value) → ((a b : ℕ) → suc a ≤ b → Differ (f a) (f b)) → (a first count : ℕ) → suc a ≤ first → Later Differ (f a) (map f (nodes_from first count))
later_from f next a first zero e = tt
later_from f next a first (suc count) e = (next a first e, later_from f next a (suc first) count (omega (arith, e)))

from_differ : (f : ℕ → Value) → ((a b : ℕ) → suc a ≤ b → Differ (f a) (f b)) → (first count : ℕ) → Pairs Differ (map f (nodes_from first count))
from_differ f next first zero = tt
from_differ f next first (suc count) = (later_from f next first (suc first) count (omega arith), from_differ f next (suc first) count)

members_apart : (kind a b : ℕ) → suc a ≤ b → Differ (value.Member kind a) (value.Member kind b)
members_apart kind a b e =
    let same : nat_eq kind kind ≡ true = eq-eqb kind kind refl in
    (ap (λ x. x && nat_eq a b) same ∙ (apart_numbers a b e).0, ap (λ x. x && nat_eq b a) same ∙ (apart_numbers a b e).1)

values_differ : (N : ℕ) (type : Simple) → Pairs Differ (values N type)
values_differ N simple.Truth = (((refl, refl), tt), (tt, tt))
values_differ N (simple.Range low high) = numbers_differ low (numbers_within (high -ℤ low))
values_differ N (simple.Listed kind count) = from_differ (λ index. value.Member kind index) (members_apart kind) 0 count
values_differ N (simple.Scalarset kind count) = from_differ (λ index. value.Member kind index) (members_apart kind) 0 count
values_differ N simple.Node = from_differ value.Node apart_numbers 1 N

-- Lists of indices differ

abbrev pub Off : List Value → List Value → Type 0
Off xs ys = (beyond same_value xs ys ≡ None) × (beyond same_value ys xs ≡ None)

same_itself : (v : Value) → same_value v v ≡ true
same_itself value.Undefined = refl
same_itself (value.Truth true) = refl
same_itself (value.Truth false) = refl
same_itself (value.Number (pos n)) = eq-eqb n n refl
same_itself (value.Number (negsuc n)) = eq-eqb n n refl
same_itself (value.Member kind index) = and_from (nat_eq kind kind) (nat_eq index index) (eq-eqb kind kind refl) (eq-eqb index index refl)
same_itself (value.Node n) = eq-eqb n n refl

heads_off : (v w : Value) (xs ys : List Value) → Differ v w → Off (v ∷ xs) (w ∷ ys)
heads_off v w xs ys (a, b) =
    (ap (λ x. if x then beyond same_value xs ys else None) a, ap (λ x. if x then beyond same_value ys xs else None) b)

tails_off : (v : Value) (xs ys : List Value) → Off xs ys → Off (v ∷ xs) (v ∷ ys)
tails_off v xs ys (a, b) =
    (ap (λ x. if x then beyond same_value xs ys else None) (same_itself v) ∙ a, ap (λ x. if x then beyond same_value ys xs else None) (same_itself v) ∙ b)

choices_off : (N : ℕ) (types : List Simple) → Pairs Off (choices N types)
choices_off N [] = (tt, tt)
choices_off N (type ∷ types) =
    pairs_flat Differ Off (λ v. map (λ vs. v ∷ vs) (choices N types))
    (λ v w differ. across_maps Off (λ vs. v ∷ vs) (λ vs. w ∷ vs) (λ xs ys. heads_off v w xs ys differ) (choices N types) (choices N types))
    (λ v. pairs_map Off Off (λ vs. v ∷ vs) (λ xs ys off. tails_off v xs ys off) (choices N types) (choices_off N types))
    (values N type) (values_differ N type)

-- Ways differ

abbrev pub Parted : Way → Way → Type 0
Parted v w = (beyond bytes_eq (path_of v.steps) (path_of w.steps) ≡ None) × (beyond bytes_eq (path_of w.steps) (path_of v.steps) ≡ None)

-- a way begins with another name
abbrev pub Without : Name → Way → Type 0
Without name way =
    (path : Path)
    → (beyond bytes_eq (name ∷ path) (path_of way.steps) ≡ None) × (beyond bytes_eq (path_of way.steps) (name ∷ path) ≡ None)

abbrev pub Each : {A : Type 0} → (A → Type 0) → List A → Type 0
Each P [] = Unit {0}
Each P (x ∷ xs) = P x × Each P xs

each_joined : {A : Type 0} (P : A → Type 0) (xs ys : List A) → Each P xs → Each P ys → Each P (xs ++ ys)
each_joined P [] ys a b = b
each_joined P (x ∷ xs) ys (p, a) b = (p, each_joined P xs ys a b)

each_map : {A B : Type 0} (P : B → Type 0) (f : A → B) → ((a : A) → P (f a)) → (xs : List A) → Each P (map f xs)
each_map P f all [] = tt
each_map P f all (x ∷ xs) = (all x, each_map P f all xs)

other_name : (field name : Name) → bytes_eq field name ≡ false → (way : Way) → Without name (one_more (Into field) way)
other_name field name e way path = (
  ap (λ b. if b then beyond bytes_eq path (path_of way.steps) else None) (turned (bytes_eq name field) refl),
  ap (λ b. if b then beyond bytes_eq (path_of way.steps) path else None) e,
)
  where
    turned : (b : Bool) → bytes_eq name field ≡ b → bytes_eq name field ≡ false
    turned false was = was
    turned true was =
        false-true (sym e ∙ ap (λ n. bytes_eq n name) (sym (names_true name field was)) ∙ name_itself name)

hidden_field : (b : Bool) (type : AnyType) (o : Option AnyType) → not (is_some (if b then Some type else o)) ≡ true → (b ≡ false) × (not (is_some o) ≡ true)
hidden_field true type o e = false-true e
hidden_field false type o e = (refl, e)

without : {n : _} (rest : Row_of-Field n) (name : Name) → not (is_some (row_field rest name)) ≡ true → Each (Without name) (row_ways rest)
unfolding ways
without end_of-Field name e = tt
without (more_of-Field field type rest) name e =
    let (here, later) = hidden_field (bytes_eq field name) type (row_field rest name) e in
    each_joined (Without name) (map (one_more (Into field)) (ways type)) (row_ways rest)
    (each_map (Without name) (one_more (Into field)) (other_name field name here) (ways type)) (without rest name later)

under_name : (name : Name) (v w : Way) → Parted v w → Parted (one_more (Into name) v) (one_more (Into name) w)
under_name name v w (a, b) = (
  ap (λ x. if x then beyond bytes_eq (path_of v.steps) (path_of w.steps) else None) (name_itself name) ∙ a,
  ap (λ x. if x then beyond bytes_eq (path_of w.steps) (path_of v.steps) else None) (name_itself name) ∙ b,
)

across_without : (name : Name) (vs ws : List Way) → Each (Without name) ws → Across Parted (map (one_more (Into name)) vs) ws
across_without name [] ws each = tt
across_without name (v ∷ vs) ws each = (go ws each, across_without name vs ws each)
  where
    go : (ws : List Way) → Each (Without name) ws → Later Parted (one_more (Into name) v) ws
    go [] each = tt
    go (w ∷ ws) (p, each) = (p (path_of v.steps), go ws each)

mutual
  unfolding ways is_type

  ways_parted : (kinds : List Kind) (type : AnyType) → is_type kinds type ≡ true → Pairs Parted (ways type)
  ways_parted kinds (t.Simple type) fine = (tt, tt)
  ways_parted kinds (t.Record' _ fields) fine = row_parted kinds fields fine
  ways_parted kinds (ArrayForm index item) fine =
      let (i, rest) = and_parts (is_simple_type kinds index) (is_type kinds item) fine in
      pairs_map Parted Parted (one_more (Over index)) (λ v w parted. parted) (ways item) (ways_parted kinds item rest)

  row_parted : {n : _} (kinds : List Kind) (fields : Row_of-Field n) → are_fields kinds fields ≡ true → Pairs Parted (row_ways fields)
  row_parted kinds end_of-Field fine = tt
  row_parted kinds (more_of-Field name type rest) fine =
      let (here, later) = and_parts (is_type kinds type) (not (is_some (row_field rest name)) && are_fields kinds rest) fine in
      let (once, others) = and_parts (not (is_some (row_field rest name))) (are_fields kinds rest) later in
      pairs_joined Parted (map (one_more (Into name)) (ways type)) (row_ways rest)
      (pairs_map Parted Parted (one_more (Into name)) (under_name name) (ways type) (ways_parted kinds type here))
      (row_parted kinds rest others) (across_without name (ways type) (row_ways rest) (without rest name once))

-- Cells differ

abbrev pub meets : Cell → Cell → Bool
meets c d =
    is_under (record { owner = Global c.global; path = path_of c.way.steps; at = c.at }) (Global d.global)
    (path_of d.way.steps) d.at

abbrev pub Separate : Cell → Cell → Type 0
Separate c d = (meets c d ≡ false) × (meets d c ≡ false)

and_last : (b : Bool) → (b && false) ≡ false
and_last true = refl
and_last false = refl

on_ways : (N g : ℕ) (v w : Way) → Parted v w → Across Separate (cells_on N g v) (cells_on N g w)
on_ways N g v w (a, b) =
    across_maps Separate (λ at. record { global = g; way = v; at = at }) (λ at. record { global = g; way = w; at = at })
    (λ xs ys. (
      ap (λ o. same_owner (Global g) (Global g) && (is_some o && is_some (beyond same_value xs ys))) a ∙ and_last (nat_eq g g),
      ap (λ o. same_owner (Global g) (Global g) && (is_some o && is_some (beyond same_value ys xs))) b ∙ and_last (nat_eq g g),
    )) (choices N (axes_of v.steps)) (choices N (axes_of w.steps))

on_way : (N g : ℕ) (w : Way) → Pairs Separate (cells_on N g w)
on_way N g w =
    pairs_map Off Separate (λ at. record { global = g; way = w; at = at })
    (λ xs ys off. (
      ap (λ o. same_owner (Global g) (Global g) && (is_some (beyond bytes_eq (path_of w.steps) (path_of w.steps)) && is_some o)) off.0
          ∙ last (nat_eq g g) (is_some (beyond bytes_eq (path_of w.steps) (path_of w.steps))),
      ap (λ o. same_owner (Global g) (Global g) && (is_some (beyond bytes_eq (path_of w.steps) (path_of w.steps)) && is_some o)) off.1
          ∙ last (nat_eq g g) (is_some (beyond bytes_eq (path_of w.steps) (path_of w.steps))),
    )) (choices N (axes_of w.steps)) (choices_off N (axes_of w.steps))
  where
    last : (a b : Bool) → (a && (b && false)) ≡ false
    last true true = refl
    last true false = refl
    last false b = refl

-- the cells of later globals have greater numbers
abbrev pub Above : ℕ → Cell → Type 0
Above g c = suc g ≤ c.global

each_flat : {A B : Type 0} (P : B → Type 0) (f : A → List B) → ((a : A) → Each P (f a)) → (xs : List A) → Each P (flat_map f xs)
each_flat P f all [] = tt
each_flat P f all (x ∷ xs) = each_joined P (f x) (flat_map f xs) (all x) (each_flat P f all xs)

all_above : (N g h : ℕ) (vs : List Variable) → suc g ≤ h → Each (Above g) (cells_from N h vs)
all_above N g h [] e = tt
all_above N g h (v ∷ vs) e =
    each_joined (Above g) (flat_map (cells_on N h) (ways v.of)) (cells_from N (suc h) vs)
    (each_flat (Above g) (cells_on N h) (λ w. each_map (Above g) (λ at. record { global = h; way = w; at = at }) (λ at. e) (choices N (axes_of w.steps))) (ways v.of))
    (all_above N g (suc h) vs (omega (arith, e)))

later_above : (g : ℕ) (c : Cell) → c.global ≡ g → (ds : List Cell) → Each (Above g) ds → Later Separate c ds
later_above g c is [] each = tt
later_above g c is (d ∷ ds) (above, each) =
    let (a, b) = apart_numbers c.global d.global (subst (λ n. suc n ≤ d.global) (sym is) above) in (
      (
        ap (λ x. x && (is_some (beyond bytes_eq (path_of c.way.steps) (path_of d.way.steps)) && is_some (beyond same_value c.at d.at))) b,
        ap (λ x. x && (is_some (beyond bytes_eq (path_of d.way.steps) (path_of c.way.steps)) && is_some (beyond same_value d.at c.at))) a,
      ),
      later_above g c is ds each,
    )

across_above : (g : ℕ) (cs ds : List Cell) → Each (λ c. c.global ≡ g) cs → Each (Above g) ds → Across Separate cs ds
across_above g [] ds is each = tt
across_above g (c ∷ cs) ds (e, is) each = (later_above g c e ds each, across_above g cs ds is each)

cells_separate : (N g : ℕ) (kinds : List Kind) (vs : List Variable) → are_variables kinds vs ≡ true → Pairs Separate (cells_from N g vs)
cells_separate N g kinds [] fine = tt
cells_separate N g kinds (v ∷ vs) fine =
    let (here, later) = and_parts (is_type kinds v.of) (are_variables kinds vs) fine in
    pairs_joined Separate (flat_map (cells_on N g) (ways v.of)) (cells_from N (suc g) vs)
    (pairs_flat Parted Separate (cells_on N g) (λ v w parted. on_ways N g v w parted) (λ w. on_way N g w) (ways v.of) (ways_parted kinds v.of here))
    (cells_separate N (suc g) kinds vs later)
    (across_above g (flat_map (cells_on N g) (ways v.of)) (cells_from N (suc g) vs)
    (each_flat (λ c. c.global ≡ g) (cells_on N g) (λ w. each_map (λ c. c.global ≡ g) (λ at. record { global = g; way = w; at = at }) (λ at. refl) (choices N (axes_of w.steps))) (ways v.of))
    (all_above N g (suc g) vs (omega arith)))

-- Places

numbers_true : (a b : ℤ) → same_number a b ≡ true → a ≡ b
numbers_true (pos a) (pos b) e = ap pos (eqb-true a b e)
numbers_true (negsuc a) (negsuc b) e = ap negsuc (eqb-true a b e)
numbers_true (pos a) (negsuc b) e = cc
numbers_true (negsuc a) (pos b) e = cc

truths_true : (a b : Bool) → same_truth a b ≡ true → a ≡ b
truths_true true true e = refl
truths_true true false e = cc
truths_true false true e = cc
truths_true false false e = refl

values_true : (v w : Value) → same_value v w ≡ true → v ≡ w
values_true value.Undefined value.Undefined e = refl
values_true (value.Truth a) (value.Truth b) e = ap value.Truth (truths_true a b e)
values_true (value.Number a) (value.Number b) e = ap value.Number (numbers_true a b e)
values_true (value.Member kind a) (value.Member other b) e = let (k, i) = and_parts (nat_eq kind other) (nat_eq a b) e in both value.Member (eqb-true kind other k) (eqb-true a b i)
values_true (value.Node a) (value.Node b) e = ap value.Node (eqb-true a b e)
values_true value.Undefined (value.Truth b) e = cc
values_true value.Undefined (value.Number b) e = cc
values_true value.Undefined (value.Member k b) e = cc
values_true value.Undefined (value.Node b) e = cc
values_true (value.Truth a) value.Undefined e = cc
values_true (value.Truth a) (value.Number b) e = cc
values_true (value.Truth a) (value.Member k b) e = cc
values_true (value.Truth a) (value.Node b) e = cc
values_true (value.Number a) value.Undefined e = cc
values_true (value.Number a) (value.Truth b) e = cc
values_true (value.Number a) (value.Member k b) e = cc
values_true (value.Number a) (value.Node b) e = cc
values_true (value.Member k a) value.Undefined e = cc
values_true (value.Member k a) (value.Truth b) e = cc
values_true (value.Member k a) (value.Number b) e = cc
values_true (value.Member k a) (value.Node b) e = cc
values_true (value.Node a) value.Undefined e = cc
values_true (value.Node a) (value.Truth b) e = cc
values_true (value.Node a) (value.Number b) e = cc
values_true (value.Node a) (value.Member k b) e = cc

lists_true : {A : Type 0} (same : A → A → Bool) → ((x y : A) → same x y ≡ true → x ≡ y) → (xs ys : List A) → same_list same xs ys ≡ true → xs ≡ ys
lists_true same sound [] [] e = refl
lists_true same sound (x ∷ xs) (y ∷ ys) e = let (h, t) = and_parts (same x y) (same_list same xs ys) e in both (λ z zs. z ∷ zs) (sound x y h) (lists_true same sound xs ys t)
lists_true same sound [] (y ∷ ys) e = cc
lists_true same sound (x ∷ xs) [] e = cc

list_itself : {A : Type 0} (same : A → A → Bool) → ((x : A) → same x x ≡ true) → (xs : List A) → same_list same xs xs ≡ true
list_itself same own [] = refl
list_itself same own (x ∷ xs) = and_from (same x x) (same_list same xs xs) (own x) (list_itself same own xs)

beyond_itself : {A : Type 0} (same : A → A → Bool) → ((x : A) → same x x ≡ true) → (xs : List A) → beyond same xs xs ≡ Some []
beyond_itself same own [] = refl
beyond_itself same own (x ∷ xs) = ap (λ b. if b then beyond same xs xs else None) (own x) ∙ beyond_itself same own xs

-- a cell is found by its variable, field names and indices alone
record Found (c : Cell) (owner : Owner) (path : Path) (at : List Value) : Type 0 where
  pub owned : Global c.global ≡ owner
  pub named : path_of c.way.steps ≡ path
  pub there : c.at ≡ at

found : (c : Cell) (owner : Owner) (path : Path) (at : List Value) → is_cell c owner path at ≡ true → Found c owner path at
found c owner path at e =
    let (a, rest) = and_parts (same_owner (Global c.global) owner) (same_list bytes_eq (path_of c.way.steps) path && same_list same_value c.at at) e in
    let (b, d) = and_parts (same_list bytes_eq (path_of c.way.steps) path) (same_list same_value c.at at) rest in
    record {
      owned = owners_true (Global c.global) owner a;
      named = lists_true bytes_eq names_true (path_of c.way.steps) path b;
      there = lists_true same_value values_true c.at at d;
    }

own_cell : (c : Cell) → is_cell c (Global c.global) (path_of c.way.steps) c.at ≡ true
own_cell c =
    and_from (nat_eq c.global c.global) _ (eq-eqb c.global c.global refl)
    (and_from (same_list bytes_eq (path_of c.way.steps) (path_of c.way.steps)) (same_list same_value c.at c.at)
    (list_itself bytes_eq name_itself (path_of c.way.steps)) (list_itself same_value same_itself c.at))

own_meets : (c : Cell) → meets c c ≡ true
own_meets c =
    and_from (nat_eq c.global c.global) _ (eq-eqb c.global c.global refl)
    (and_from (is_some (beyond bytes_eq (path_of c.way.steps) (path_of c.way.steps))) (is_some (beyond same_value c.at c.at))
    (ap is_some (beyond_itself bytes_eq name_itself (path_of c.way.steps))) (ap is_some (beyond_itself same_value same_itself c.at)))

-- cells that are separate are two
not_cell : (d c : Cell) → meets d c ≡ false → is_cell d (Global c.global) (path_of c.way.steps) c.at ≡ false
not_cell d c off = go (is_cell d (Global c.global) (path_of c.way.steps) c.at) refl
  where
    go : (b : Bool) → is_cell d (Global c.global) (path_of c.way.steps) c.at ≡ b → is_cell d (Global c.global) (path_of c.way.steps) c.at ≡ false
    go false was = was
    go true was =
        let f = found d (Global c.global) (path_of c.way.steps) c.at was in
        let p : Place = record { owner = Global d.global; path = path_of d.way.steps; at = d.at } in
        false-true (sym off
        ∙ sym (ap (λ o. is_under p o (path_of d.way.steps) d.at) f.owned ∙ ap (λ q. is_under p (Global c.global) q d.at) f.named
        ∙ ap (λ a. is_under p (Global c.global) (path_of c.way.steps) a) f.there) ∙ own_meets d)

slice_none : {A X : Type 0} {x : A} → None ≡ Some x → X
slice_none e = cc

-- the cell at an index is found there
place_of_cell : (cs : List Cell) (k : ℕ) (c : Cell) → Pairs Separate cs → slice_get cs k ≡ Some c → place_in cs (Global c.global) (path_of c.way.steps) c.at ≡ Some k
place_of_cell [] k c pairs e = slice_none e
place_of_cell (d ∷ ds) zero c pairs e =
    ap (λ b. if b then Some zero else option_map suc (place_in ds (Global c.global) (path_of c.way.steps) c.at))
    (ap (λ z. is_cell z (Global c.global) (path_of c.way.steps) c.at) (some_same e) ∙ own_cell c)
place_of_cell (d ∷ ds) (suc k) c (later, pairs) e =
    ap (λ b. if b then Some zero else option_map suc (place_in ds (Global c.global) (path_of c.way.steps) c.at))
    (not_cell d c (apart ds k later e)) ∙ ap (option_map suc) (place_of_cell ds k c pairs e)
  where
    apart : (ds : List Cell) (k : ℕ) → Later Separate d ds → slice_get ds k ≡ Some c → meets d c ≡ false
    apart [] k later e = slice_none e
    apart (x ∷ xs) zero (s, later) e = ap (meets d) (sym (some_same e)) ∙ s.0
    apart (x ∷ xs) (suc k) (s, later) e = apart xs k later e

-- a cell that is separate from the one that is found is not under its place
not_under : (c : Cell) (cs : List Cell) (owner : Owner) (path : Path) (at : List Value) (k : ℕ) → Later Separate c cs → place_in cs owner path at ≡ Some k → is_under (record { owner = owner; path = path; at = at }) (Global c.global) (path_of c.way.steps) c.at ≡ false
not_under c [] owner path at k later e = slice_none e
not_under c (d ∷ ds) owner path at k (s, later) e = go (λ j g. not_under c ds owner path at j later g) (is_cell d owner path at) refl (place_in ds owner path at) refl e
  where
    go : ((j : ℕ) → place_in ds owner path at ≡ Some j → is_under (record { owner = owner; path = path; at = at }) (Global c.global) (path_of c.way.steps) c.at ≡ false) → (b : Bool) → is_cell d owner path at ≡ b → (o : Option ℕ) → place_in ds owner path at ≡ o → (if b then Some zero else option_map suc o) ≡ Some k → is_under (record { owner = owner; path = path; at = at }) (Global c.global) (path_of c.way.steps) c.at ≡ false
    go again true was o place e =
        let f = found d owner path at was in
        ap (λ z. is_under (record { owner = z; path = path; at = at }) (Global c.global) (path_of c.way.steps) c.at) (sym f.owned)
        ∙ ap (λ z. is_under (record { owner = Global d.global; path = z; at = at }) (Global c.global) (path_of c.way.steps) c.at) (sym f.named)
        ∙ ap (λ z. is_under (record { owner = Global d.global; path = path_of d.way.steps; at = z }) (Global c.global) (path_of c.way.steps) c.at) (sym f.there) ∙ s.1
    go again false was (Some j) place e = again j place
    go again false was None place e = slice_none e

suc_same : (o : Option ℕ) (k : ℕ) → option_map suc o ≡ Some k → (j : ℕ) × ((o ≡ Some j) × (k ≡ suc j))
suc_same None k e = slice_none e
suc_same (Some j) k e = (j, (refl, sym (some_same e)))

-- what is written at the place of a cell is its value
written_here : (now : Cells) (p : Place) (v : Value) → written now p (only v) p.owner p.path p.at ≡ v
written_here now p v =
    ap (λ b. if b then renewed (only v) (now p.owner p.path p.at) (beyond bytes_eq p.path p.path) (beyond same_value p.at p.at) else now p.owner p.path p.at) (owner_itself p.owner)
    ∙ both (renewed (only v) (now p.owner p.path p.at)) (beyond_itself bytes_eq name_itself p.path) (beyond_itself same_value same_itself p.at)

change_listed : (now : Cells) (cs : List Cell) (owner : Owner) (path : Path) (at : List Value) (v : Value) (k : ℕ) → Pairs Separate cs → place_in cs owner path at ≡ Some k → map (value_in (written now (record { owner = owner; path = path; at = at }) (only v))) cs ≡ changed k v (map (value_in now) cs)
change_listed now [] owner path at v k pairs e = slice_none e
change_listed now (c ∷ cs) owner path at v k (later, pairs) e =
    go (λ j g. change_listed now cs owner path at v j pairs g) (is_cell c owner path at) refl e
  where
    p : Place
    p = record { owner = owner; path = path; at = at }

    same_rest : (ds : List Cell) → Later Separate c ds → Found c owner path at → map (value_in (written now (record { owner = owner; path = path; at = at }) (only v))) ds ≡ map (value_in now) ds
    same_rest [] later f = refl
    same_rest (d ∷ ds) (s, later) f =
        both (λ y ys. y ∷ ys)
        (unchanged now (record { owner = owner; path = path; at = at }) (only v) (Global d.global) (path_of d.way.steps) d.at
        (ap (λ z. is_under (record { owner = z; path = path; at = at }) (Global d.global) (path_of d.way.steps) d.at) (sym f.owned)
        ∙ ap (λ z. is_under (record { owner = Global c.global; path = z; at = at }) (Global d.global) (path_of d.way.steps) d.at) (sym f.named)
        ∙ ap (λ z. is_under (record { owner = Global c.global; path = path_of c.way.steps; at = z }) (Global d.global) (path_of d.way.steps) d.at) (sym f.there) ∙ s.0))
        (same_rest ds later f)

    here : Found c owner path at → value_in (written now (record { owner = owner; path = path; at = at }) (only v)) c ≡ v
    here f =
        ap (λ z. written now (record { owner = owner; path = path; at = at }) (only v) z (path_of c.way.steps) c.at) f.owned
        ∙ ap (λ z. written now (record { owner = owner; path = path; at = at }) (only v) owner z c.at) f.named
        ∙ ap (λ z. written now (record { owner = owner; path = path; at = at }) (only v) owner path z) f.there
        ∙ written_here now (record { owner = owner; path = path; at = at }) v

    go : ((j : ℕ) → place_in cs owner path at ≡ Some j → map (value_in (written now (record { owner = owner; path = path; at = at }) (only v))) cs ≡ changed j v (map (value_in now) cs)) → (b : Bool) → is_cell c owner path at ≡ b → (if b then Some zero else option_map suc (place_in cs owner path at)) ≡ Some k → map (value_in (written now (record { owner = owner; path = path; at = at }) (only v))) (c ∷ cs) ≡ changed k v (map (value_in now) (c ∷ cs))
    go again true was e =
        let f = found c owner path at was in
        subst (λ j. map (value_in (written now (record { owner = owner; path = path; at = at }) (only v))) (c ∷ cs) ≡ changed j v (map (value_in now) (c ∷ cs))) (some_same e)
        (both (λ y ys. y ∷ ys) (here f) (same_rest cs later f))
    go again false was e =
        let (j, rest) = suc_same (place_in cs owner path at) k e in
        subst (λ i. map (value_in (written now (record { owner = owner; path = path; at = at }) (only v))) (c ∷ cs) ≡ changed i v (map (value_in now) (c ∷ cs))) (sym rest.1)
        (both (λ y ys. y ∷ ys)
        (unchanged now (record { owner = owner; path = path; at = at }) (only v) (Global c.global) (path_of c.way.steps) c.at (not_under c cs owner path at j later rest.0))
        (again j rest.0))

separate_cells : (N : ℕ) (T : Typed) → IsTrue (is_well_typed T) → Pairs Separate (cells N T)
separate_cells N T fine = cells_separate N 0 T.kinds T.globals (and_parts (are_variables T.kinds T.globals) _ (told fine)).0
  where
    told : {b : Bool} → IsTrue b → b ≡ true
    told e = e

pub cells_have_places : CellsHavePlaces
cells_have_places N T k c fine e = place_of_cell (cells N T) k c (separate_cells N T fine) e

pub changes_are_listed : ChangesAreListed
changes_are_listed N T now owner path at v k fine e = change_listed now (cells N T) owner path at v k (separate_cells N T fine) e
