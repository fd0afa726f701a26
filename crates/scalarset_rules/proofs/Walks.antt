-- In a well-typed text the shape of each designator goes down the type of its variable, and no formal by value is
-- written.
use Rattle.std.proofs.Common.{◌≡◌, ℕ, ◌≤◌, Bool, true, false, not, ◌&&◌, ◌⊎◌, inl, inr, List, [], ◌∷◌, ◌++◌, Option, None, Some, refl, sym, ap, ◌∙◌, append_assoc, append-nil}
use Rattle.std.specs.Prelude.{slice_get, if◌then◌else◌, is_some}
use Rattle.std.specs.Option.{option_map_or}
use Rattle.std.specs.Str.{bytes_eq}
use Rattle.std.proofs.lemmas.Bool.{and_parts}
use Rattle.murphi_ast.specs.declared.token.Span.{Span}
use Rattle.murphi_typed.specs.declared.types.Simple.{Simple}
use Rattle.murphi_typed.specs.declared.types.AnyType as t
use Rattle.murphi_typed.specs.declared.types.AnyType.{AnyType, Row_of-Field, end_of-Field, more_of-Field}
use Rattle.murphi_typed.specs.declared.expr.Root.{Root}
use Rattle.murphi_typed.specs.declared.expr.Root.TheVariants as root
use Rattle.murphi_typed.specs.declared.expr.Designator as d
use Rattle.murphi_typed.specs.declared.expr.Designator.{Designator, Row_of-Selector, end_of-Selector, more_of-Selector}
use Rattle.murphi_typed.specs.declared.expr.Selector as select
use Rattle.murphi_typed.specs.declared.expr.Arguments as a
use Rattle.murphi_typed.specs.declared.expr.Arguments.{Arguments, Row_of-Argument, end_of-Argument, more_of-Argument}
use Rattle.murphi_typed.specs.declared.expr.Argument as argument
use Rattle.murphi_typed.specs.declared.protocol.Formal.{Formal as DeclaredFormal}
use Rattle.murphi_typed.specs.declared.protocol.Routine.{Routine}
use Rattle.murphi_typed.specs.Forms.{ArrayForm}
use Rattle.murphi_typed.specs.Families.{Name}
use Rattle.murphi_typed.specs.WellTyped.{Scope as Typing, binding as typing_inside, same_simple, row_field, has_parts, each_field, same_type, root_type, may_write, root_of, field_part, item_part, is_of, only_if, place_fits, type_of, place_type, selected_type, arguments_fit, row_fits, argument_fits}
use Rattle.murphi_typed.specs.Keeping.{Declared}
use Rattle.scalarset_rules.specs.Accesses.{Part, Field, Index, Stand, Valued, Placed, Scope, binding, called, root_shape, shape_of, row_parts, argument_stand, row_stands, stands_of, Access, accessed, from_call, Opened}
use Rattle.scalarset_rules.specs.Rules.{is_deeper}
use Rattle.scalarset_rules.specs.Turns.{array_item, part_type, goes_down, is_formal, is_writable}
use Rattle.scalarset_rules.proofs.Sameness.{false-true, some_same, names_true}
use Rattle.scalarset_rules.proofs.Judging.{nothing_down}

-- Types down which the same parts lead

abbrev pub walks : Option AnyType → List Part → Bool
walks found ps = is_some (part_type found ps)

row_same : {n : _} (fields : Row_of-Field n) (name : Name) (T : AnyType) (g : Name → Option AnyType) → row_field fields name ≡ Some T → each_field fields g ≡ true → (U : AnyType) × ((g name ≡ Some U) × (has_parts T U ≡ true))
unfolding has_parts
row_same end_of-Field name T g e f = cc
row_same (more_of-Field field type rest) name T g e f =
    let (one, more) = and_parts (option_map_or (has_parts type) (g field) false) (each_field rest g) f in
    go (bytes_eq field name) refl e one (λ e. row_same rest name T g e more)
  where
    found : (o : Option AnyType) → option_map_or (has_parts type) o false ≡ true → (U : AnyType) × ((o ≡ Some U) × (has_parts type U ≡ true))
    found None e = false-true e
    found (Some U) e = (U, (refl, e))

    go : (b : Bool) → bytes_eq field name ≡ b → (if b then Some type else row_field rest name) ≡ Some T → option_map_or (has_parts type) (g field) false ≡ true → (row_field rest name ≡ Some T → (U : AnyType) × ((g name ≡ Some U) × (has_parts T U ≡ true))) → (U : AnyType) × ((g name ≡ Some U) × (has_parts T U ≡ true))
    go true was e one again =
        let (U, is) = found (g field) one in
        (U, (sym (ap g (names_true field name was)) ∙ is.0, ap (λ V. has_parts V U) (sym (some_same e)) ∙ is.1))
    go false was e one again = again e

walk_same : (ps : List Part) (T U : AnyType) → has_parts T U ≡ true → walks (Some T) ps ≡ true → walks (Some U) ps ≡ true
unfolding has_parts
walk_same [] T U e f = refl
walk_same (Field name ∷ ps) (t.Record' _ fields) (t.Record' _ others) e f = go (row_field fields name) refl f (walk_same ps)
  where
    go : (o : Option AnyType) → row_field fields name ≡ o → walks o ps ≡ true → ((T U : AnyType) → has_parts T U ≡ true → walks (Some T) ps ≡ true → walks (Some U) ps ≡ true) → walks (row_field others name) ps ≡ true
    go None was f again = nothing_down ps f
    go (Some T) was f again =
        let (U, is) = row_same fields name T (row_field others) was e in
        ap (λ o. walks o ps) is.0 ∙ again T U is.1 f
walk_same (Index m ∷ ps) (ArrayForm index item) (ArrayForm other more) e f = walk_same ps item more (and_parts (same_simple index other) (has_parts item more) e).1 f
walk_same (Field name ∷ ps) (t.Simple type) U e f = nothing_down ps f
walk_same (Field name ∷ ps) (ArrayForm index item) U e f = nothing_down ps f
walk_same (Index m ∷ ps) (t.Simple type) U e f = nothing_down ps f
walk_same (Index m ∷ ps) (t.Record' _ fields) U e f = nothing_down ps f
walk_same (Field name ∷ ps) (t.Record' _ fields) (t.Simple type) e f = false-true e
walk_same (Field name ∷ ps) (t.Record' _ fields) (ArrayForm index item) e f = false-true e
walk_same (Index m ∷ ps) (ArrayForm index item) (t.Simple type) e f = false-true e
walk_same (Index m ∷ ps) (ArrayForm index item) (t.Record' _ fields) e f = false-true e

-- Designators

pub some_of : {A : Type 0} (o : Option A) → is_some o ≡ true → (a : A) × (o ≡ Some a)
some_of None e = false-true e
some_of (Some a) e = (a, refl)

pub is_there : {A : Type 0} (o : Option A) (a : A) → o ≡ Some a → is_some o ≡ true
is_there o a e = ap is_some e

pub none_selected : {n : _} (ts : Typing) (selectors : Row_of-Selector n) → selected_type ts None selectors ≡ None
unfolding type_of
none_selected ts end_of-Selector = refl
none_selected ts (more_of-Selector (select.Field name) rest) = none_selected ts rest
none_selected ts (more_of-Selector (select.Index over index) rest) = go (is_of over (type_of ts index)) (none_selected ts rest)
  where
    go : (b : Bool) → selected_type ts None rest ≡ None → selected_type ts (only_if b None) rest ≡ None
    go true none = none
    go false none = none

-- an index leads to the item type, or to nothing
pub item_or_none : (b : Bool) (found : Option AnyType) (over : Simple) → (only_if b (item_part found over) ≡ None) ⊎ ((only_if b (item_part found over) ≡ array_item found) × (b ≡ true))
item_or_none false found over = inl refl
item_or_none true None over = inl refl
item_or_none true (Some (t.Simple type)) over = inl refl
item_or_none true (Some (t.Record' _ fields)) over = inl refl
item_or_none true (Some (ArrayForm index item)) over = go (same_simple index over)
  where
    go : (c : Bool) → ((if c then Some item else None) ≡ None) ⊎ (((if c then Some item else None) ≡ Some item) × (true ≡ true))
    go true = inr (refl, refl)
    go false = inl refl

nothing_selected : {n : _} {A : Type 0} (ts : Typing) (o : Option AnyType) (selectors : Row_of-Selector n) (U : AnyType) → o ≡ None → selected_type ts o selectors ≡ Some U → A
nothing_selected ts o selectors U none e = absurd (no_some (sym (none_selected ts selectors) ∙ sym (ap (λ p. selected_type ts p selectors) none) ∙ e))
  where
    no_some : None ≡ Some U → ⊥
    no_some e = cc

selected_walk : {n : _} (ts : Typing) (found : Option AnyType) (U : AnyType) (selectors : Row_of-Selector n) (scope : Scope) (qs : List Part) → selected_type ts found selectors ≡ Some U → walks (Some U) qs ≡ true → walks found (row_parts scope selectors ++ qs) ≡ true
unfolding type_of
selected_walk ts found U end_of-Selector scope qs e f = ap (λ o. walks o qs) e ∙ f
selected_walk ts found U (more_of-Selector (select.Field name) rest) scope qs e f = selected_walk ts (field_part found name) U rest scope qs e f
selected_walk ts found U (more_of-Selector (select.Index over index) rest) scope qs e f =
    go (item_or_none (is_of over (type_of ts index)) found over) (λ o e. selected_walk ts o U rest scope qs e f)
  where
    go : (only_if (is_of over (type_of ts index)) (item_part found over) ≡ None) ⊎ ((only_if (is_of over (type_of ts index)) (item_part found over) ≡ array_item found) × (is_of over (type_of ts index) ≡ true)) → ((o : Option AnyType) → selected_type ts o rest ≡ Some U → walks o (row_parts scope rest ++ qs) ≡ true) → walks (array_item found) (row_parts scope rest ++ qs) ≡ true
    go (inl none) again = nothing_selected ts _ rest U none e
    go (inr some) again = again (array_item found) (sym (ap (λ o. selected_type ts o rest) some.0) ∙ e)

selected_root : {n : _} (ts : Typing) (o : Option AnyType) (U : AnyType) (selectors : Row_of-Selector n) → selected_type ts o selectors ≡ Some U → (T : AnyType) × (o ≡ Some T)
selected_root ts None U selectors e = nothing_selected ts None selectors U refl e
selected_root ts (Some T) U selectors e = (T, refl)

-- a body whose variables have types stands in a scope
pub record InScope (e : ℕ) (types : Declared) (ts : Typing) (scope : Scope) : Type 0 where
  pub inside : e ≤ scope.depth
  pub near : (r : Root) (U : AnyType) → root_type ts r ≡ Some U → is_deeper scope.depth (root_shape scope r).owner ≡ false
  pub leads : (r : Root) (U : AnyType) → root_type ts r ≡ Some U → is_deeper e (root_shape scope r).owner ≡ false
      → (qs : List Part) → walks (Some U) qs ≡ true → walks (types (root_shape scope r).owner) ((root_shape scope r).parts ++ qs) ≡ true
  pub writes : (r : Root) (U : AnyType) → root_type ts r ≡ Some U → may_write ts r ≡ true → is_formal (root_shape scope r).owner ≡ false

pub place_near : (e : ℕ) (types : Declared) (ts : Typing) (scope : Scope) (place : Designator) (U : AnyType) → InScope e types ts scope → place_type ts place ≡ Some U → is_deeper scope.depth (shape_of scope place).owner ≡ false
unfolding type_of
place_near e types ts scope (d.Of' r _ selectors at) U stands is = let (T, rooted) = selected_root ts (root_type ts r) U selectors is in stands.near r T rooted

pub place_leads : (e : ℕ) (types : Declared) (ts : Typing) (scope : Scope) (place : Designator) (U : AnyType) → InScope e types ts scope → place_type ts place ≡ Some U → is_deeper e (shape_of scope place).owner ≡ false → (qs : List Part) → walks (Some U) qs ≡ true → walks (types (shape_of scope place).owner) ((shape_of scope place).parts ++ qs) ≡ true
unfolding type_of
place_leads e types ts scope (d.Of' r _ selectors at) U stands is near qs f =
    let (T, rooted) = selected_root ts (root_type ts r) U selectors is in
    ap (walks (types (root_shape scope r).owner)) (append_assoc (root_shape scope r).parts (row_parts scope selectors) qs)
    ∙ stands.leads r T rooted near (row_parts scope selectors ++ qs) (selected_walk ts (Some T) U selectors scope qs (sym (ap (λ o. selected_type ts o selectors) rooted) ∙ is) f)

pub place_writes : (e : ℕ) (types : Declared) (ts : Typing) (scope : Scope) (place : Designator) (U : AnyType) → InScope e types ts scope → place_type ts place ≡ Some U → may_write ts (root_of place) ≡ true → is_formal (shape_of scope place).owner ≡ false
unfolding type_of
place_writes e types ts scope (d.Of' r _ selectors at) U stands is may = let (T, rooted) = selected_root ts (root_type ts r) U selectors is in stands.writes r T rooted may

pub inside_scope : (e : ℕ) (types : Declared) (ts : Typing) (scope : Scope) (over : Simple) → InScope e types ts scope → InScope e types (typing_inside ts over) (binding scope)
inside_scope e types ts scope over stands = record { inside = stands.inside; near = near; leads = leads; writes = writes }
  where
    near : (r : Root) (U : AnyType) → root_type (typing_inside ts over) r ≡ Some U → is_deeper scope.depth (root_shape (binding scope) r).owner ≡ false
    near (root.Global k) = stands.near (root.Global k)
    near (root.Local k) = stands.near (root.Local k)
    near (root.Formal k) = stands.near (root.Formal k)
    near (root.Place k) = stands.near (root.Place k)

    leads : (r : Root) (U : AnyType) → root_type (typing_inside ts over) r ≡ Some U → is_deeper e (root_shape (binding scope) r).owner ≡ false → (qs : List Part) → walks (Some U) qs ≡ true → walks (types (root_shape (binding scope) r).owner) ((root_shape (binding scope) r).parts ++ qs) ≡ true
    leads (root.Global k) = stands.leads (root.Global k)
    leads (root.Local k) = stands.leads (root.Local k)
    leads (root.Formal k) = stands.leads (root.Formal k)
    leads (root.Place k) = stands.leads (root.Place k)

    writes : (r : Root) (U : AnyType) → root_type (typing_inside ts over) r ≡ Some U → may_write (typing_inside ts over) r ≡ true → is_formal (root_shape (binding scope) r).owner ≡ false
    writes (root.Global k) = stands.writes (root.Global k)
    writes (root.Local k) = stands.writes (root.Local k)
    writes (root.Formal k) = stands.writes (root.Formal k)
    writes (root.Place k) = stands.writes (root.Place k)

-- Accesses

abbrev pub Down : ℕ → Declared → Access → Type 0
Down e types a = (is_deeper e a.shape.owner ≡ false → goes_down types a ≡ true) × (is_writable a ≡ true)

abbrev pub AllDown : ℕ → Declared → List Access → Type 0
AllDown e types [] = Unit {0}
AllDown e types (a ∷ all) = Down e types a × AllDown e types all

pub down_both : (e : ℕ) (types : Declared) (xs ys : List Access) → AllDown e types xs → AllDown e types ys → AllDown e types (xs ++ ys)
down_both e types [] ys first second = second
down_both e types (x ∷ xs) ys first second = (first.0, down_both e types xs ys first.1 second)

pub down_called : (e : ℕ) (types : Declared) (call : Span) (xs : List Access) → AllDown e types xs → AllDown e types (from_call call xs)
down_called e types call [] all = tt
down_called e types call (x ∷ xs) all = (all.0, down_called e types call xs all.1)

whole_walk : (e : ℕ) (types : Declared) (ts : Typing) (scope : Scope) (place : Designator) (U : AnyType) → InScope e types ts scope → place_type ts place ≡ Some U → is_deeper e (shape_of scope place).owner ≡ false → walks (types (shape_of scope place).owner) (shape_of scope place).parts ≡ true
whole_walk e types ts scope place U stands is near =
    ap (walks (types (shape_of scope place).owner)) (sym (append-nil (shape_of scope place).parts)) ∙ place_leads e types ts scope place U stands is near [] refl

pub read_down : (e : ℕ) (types : Declared) (ts : Typing) (scope : Scope) (place : Designator) (U : AnyType) → InScope e types ts scope → place_type ts place ≡ Some U → Down e types (accessed false scope place)
read_down e types ts scope (d.Of' r sh selectors at) U stands is = (λ near. whole_walk e types ts scope (d.Of' r sh selectors at) U stands is near, refl)

pub write_down : (e : ℕ) (types : Declared) (ts : Typing) (scope : Scope) (place : Designator) (U : AnyType) → InScope e types ts scope → place_type ts place ≡ Some U → may_write ts (root_of place) ≡ true → Down e types (accessed true scope place)
write_down e types ts scope (d.Of' r sh selectors at) U stands is may =
    (λ near. whole_walk e types ts scope (d.Of' r sh selectors at) U stands is near, ap not (place_writes e types ts scope (d.Of' r sh selectors at) U stands is may))

-- what is given to a formal by place goes down its type
abbrev pub FormalStands : ℕ → Declared → ℕ → DeclaredFormal → Stand → Type 0
FormalStands e types depth f (Valued m) = f.by_place ≡ false
FormalStands e types depth f (Placed shape) =
    (f.by_place ≡ true) × ((is_deeper depth shape.owner ≡ false) × ((is_formal shape.owner ≡ false)
    × (is_deeper e shape.owner ≡ false → (qs : List Part) → walks (Some f.of) qs ≡ true → walks (types shape.owner) (shape.parts ++ qs) ≡ true)))

abbrev pub FormalsStand : ℕ → Declared → ℕ → List DeclaredFormal → List Stand → Type 0
FormalsStand e types depth [] [] = Unit {0}
FormalsStand e types depth (f ∷ fs) (s ∷ ss) = FormalStands e types depth f s × FormalsStand e types depth fs ss
FormalsStand e types depth [] (s ∷ ss) = ⊥
FormalsStand e types depth (f ∷ fs) [] = ⊥

-- what the routines of a list, in text order, read and write goes down the types of its variables
abbrev pub OpenedDown : ℕ → Declared → Opened → List Routine → Type 0
OpenedDown e types opened routines =
    (k : ℕ) (r : Routine) → slice_get routines k ≡ Some r → (scope : Scope) (stands : List Stand) → e ≤ scope.depth
    → FormalsStand e types scope.depth r.formals stands → AllDown e types (opened k (called scope stands))

not_true : (b : Bool) → not b ≡ true → b ≡ false
not_true true e = false-true e
not_true false e = refl

module _ (e : ℕ) (types : Declared) where
  fit_found : (f : DeclaredFormal) (found : Option AnyType) → place_fits f.of found ≡ true → (U : AnyType) × ((found ≡ Some U) × (same_type f.of U ≡ true))
  fit_found f None is = false-true is
  fit_found f (Some U) is = (U, (refl, is))

  argument_stands : (ts : Typing) (scope : Scope) (f : DeclaredFormal) (arg : argument.Argument) → InScope e types ts scope → argument_fits ts (Some f) arg ≡ true → FormalStands e types scope.depth f (argument_stand scope arg)
  unfolding type_of
  argument_stands ts scope f (argument.Copy place) stands is = not_true f.by_place (and_parts (not f.by_place) _ is).0
  argument_stands ts scope f (argument.CopyAll place) stands is = not_true f.by_place (and_parts (not f.by_place) _ is).0
  argument_stands ts scope f (argument.Value body) stands is = not_true f.by_place (and_parts (not f.by_place) _ is).0
  argument_stands ts scope f (argument.Place place) stands is =
      let (may, rest) = and_parts (may_write ts (root_of place)) (f.by_place && place_fits f.of (place_type ts place)) is in
      let (by, fits) = and_parts f.by_place (place_fits f.of (place_type ts place)) rest in
      let (U, found) = fit_found f (place_type ts place) fits in (
        by,
        (
          place_near e types ts scope place U stands found.0,
          (
            place_writes e types ts scope place U stands found.0 may,
            λ near qs f'. place_leads e types ts scope place U stands found.0 near qs (walk_same qs f.of U (and_parts (has_parts f.of U) (has_parts U f.of) found.1).0 f'),
          ),
        ),
      )

  no_formal : {A : Type 0} (ts : Typing) (arg : argument.Argument) → argument_fits ts None arg ≡ true → A
  unfolding type_of
  no_formal ts (argument.Copy place) is = false-true is
  no_formal ts (argument.CopyAll place) is = false-true is
  no_formal ts (argument.Value body) is = false-true is
  no_formal ts (argument.Place place) is = false-true (and_parts (may_write ts (root_of place)) false is).1

  row_stand : {n : _} (ts : Typing) (scope : Scope) (formals : List DeclaredFormal) (args : Row_of-Argument n) → InScope e types ts scope → row_fits ts formals args ≡ true → FormalsStand e types scope.depth formals (row_stands scope args)
  unfolding type_of
  row_stand ts scope [] end_of-Argument stands is = tt
  row_stand ts scope (f ∷ fs) end_of-Argument stands is = false-true is
  row_stand ts scope [] (more_of-Argument first rest) stands is = no_formal ts first (and_parts (argument_fits ts None first) (row_fits ts [] rest) is).0
  row_stand ts scope (f ∷ fs) (more_of-Argument first rest) stands is =
      let (one, more) = and_parts (argument_fits ts (Some f) first) (row_fits ts fs rest) is in
      (argument_stands ts scope f first stands one, row_stand ts scope fs rest stands more)

  pub formals_stand : (ts : Typing) (scope : Scope) (formals : List DeclaredFormal) (args : Arguments) → InScope e types ts scope → arguments_fit ts formals args ≡ true → FormalsStand e types scope.depth formals (stands_of scope args)
  unfolding type_of
  formals_stand ts scope formals (a.Of' _ args) stands is = row_stand ts scope formals args stands is
