-- What is found of parts without faults, and steps from parts to wholes.
use Rattle.std.proofs.Common.{◌≡◌, ℕ, Bool, true, false, not, ◌&&◌, List, [], ◌∷◌, ◌++◌, Option, None, Some, refl, sym, ap, subst, ◌∙◌}
use Rattle.std.specs.Prelude.{nat_lt, is_some, option_map, if◌then◌else◌}
use Rattle.std.specs.Option.{option_map_or}
use Rattle.std.specs.Str.{bytes_eq}
use Rattle.std.proofs.lemmas.Bool.{and_parts, and_from}
use Rattle.term_core.specs.declared.value.Value.TheVariants as value
use Rattle.murphi_ast.specs.declared.token.Span.{Span}
use Rattle.murphi_ast.specs.declared.expr.Named.{Named}
use Rattle.murphi_ast.specs.declared.expr.CompareOp.{CompareOp}
use Rattle.murphi_ast.specs.declared.expr.CompareOp.TheVariants as compare
use Rattle.murphi_ast.specs.declared.expr.ChainOp.{ChainOp}
use Rattle.murphi_ast.specs.declared.expr.Expr as e
use Rattle.murphi_ast.specs.declared.expr.Expr.{Expr}
use Rattle.murphi_typed.specs.Families.{Name}
use Rattle.murphi_typed.specs.declared.types.Kind.{Kind}
use Rattle.murphi_typed.specs.declared.types.Simple.{Simple}
use Rattle.murphi_typed.specs.declared.types.Simple.TheVariants as simple
use Rattle.murphi_typed.specs.declared.types.AnyType as t
use Rattle.murphi_typed.specs.declared.types.AnyType.{AnyType, Row_of-Field, end_of-Field, more_of-Field}
use Rattle.murphi_typed.specs.declared.expr.Expr as x
use Rattle.murphi_typed.specs.declared.expr.Selector as select
use Rattle.murphi_typed.specs.declared.expr.Selector.{Selector}
use Rattle.murphi_typed.specs.declared.expr.Designator.{Designator}
use Rattle.murphi_typed.specs.Forms.{ArrayForm}
use Rattle.murphi_typed.specs.WellTyped.{numbers, widened, same_simple, is_simple_type, row_field, is_type, are_fields, root_type, simple_part, field_part, item_part, is_of, only_if, enum_type, operand_type, comparable, type_of, place_type}
use Rattle.murphi_typed.specs.WellTyped as well
use Rattle.murphi_types.specs.declared.fault.Cause.TheVariants as cause
use Rattle.murphi_types.specs.declared.fault.Fault.{Fault}
use Rattle.murphi_types.specs.declared.scope.Meaning.{Meaning}
use Rattle.murphi_types.specs.declared.scope.Meaning.TheVariants as meaning
use Rattle.murphi_types.specs.declared.scope.Known.{Known}
use Rattle.murphi_types.specs.Faults.{unless, lone}
use Rattle.murphi_types.specs.Fitting.{fits, is_simple, has_values_of, is_truth, left_fits, right_fits, is_equality, as_value}
use Rattle.murphi_types.specs.Fitting as fitting
use Rattle.murphi_types.specs.Found.{Found, wanted, whole, FoundLinks, link_found}
use Rattle.murphi_types.specs.Designators.{Start, Rooted, Fixed, Nowhere, start_type, field_or, field_chosen, index_type, index_fits, item_chosen, FoundSelectors, field_found, item_selected, FoundPlace, place_made, designator_of, read_tree, read_found, undefined_tree, undefined_found}
use Rattle.typing_sound.proofs.Grown.{Held}
use Rattle.typing_sound.proofs.Fits.{NamesFit, MeaningFits, WhatFits}
use Rattle.typing_sound.proofs.TypeEquations.{list_chain, list_selected, of-Known, of-Bound, of-Read, of-IsUndefined, place-Of}
use Rattle.typing_sound.proofs.Tests.{nil-parts, unless-passes, some-same, same-self, simples-true, wide-twice, OnlySimple, only-values}

-- Expressions

abbrev pub is_place : Expr → Bool
is_place (e.Place' name shape row) = true
is_place _ = false

-- what a type that was found says of the tree
abbrev pub Says : well.Scope → AnyType → x.Expr → Type 0
Says W (t.Simple of) tree = (type_of W tree ≡ Some of) × (widened of ≡ of)
Says W (t.Record' shape fields) tree = (place : Designator) × (tree ≡ x.Read place)
Says W (t.Array' index shape item) tree = (place : Designator) × (tree ≡ x.Read place)

pub record IsFound (W : well.Scope) (at : Expr) (f : Found) : Type 0 where
  pub type : AnyType
  pub is : f.type ≡ Some type
  pub says : Says W type f.tree
  pub value : is_place at ≡ false → is_simple type ≡ true
  pub names : NamesFit W f.known

-- a part that has to be a value that passes a test
pub record IsValue (W : well.Scope) (test : AnyType → Bool) (f : Found) : Type 0 where
  pub of : Simple
  pub type : f.type ≡ Some (t.Simple of)
  pub is : type_of W f.tree ≡ Some of
  pub wide : widened of ≡ of
  pub passes : test (t.Simple of) ≡ true
  pub names : NamesFit W f.known

wanted-of : (W : well.Scope) (test : AnyType → Bool) (at : Span) (f : Found) (type : AnyType) → f.type ≡ Some type → Says W type f.tree → NamesFit W f.known → is_simple type ≡ true → fits test f.type ≡ true → IsValue W test (wanted test at f)
wanted-of W test at f (t.Simple of) is says names simple passed =
    record {
      of = of;
      type = ap (λ b. only_if b f.type) passed ∙ is;
      is = says.0;
      wide = says.1;
      passes = sym (ap (fits test) is) ∙ passed;
      names = names;
    }
wanted-of W test at f (t.Record' shape fields) is says names simple passed = cc
wanted-of W test at f (t.Array' index shape item) is says names simple passed = cc

pub wanted-value : (W : well.Scope) (one : Expr) (test : AnyType → Bool) (at : Span) (f : Found) → OnlySimple test → (f.faults ≡ [] → IsFound W one f) → (wanted test at f).faults ≡ [] → IsValue W test (wanted test at f)
wanted-value W one test at f only found none =
    let (clear, passes) = nil-parts f.faults (unless (fits test f.type) cause.E07 at) none in
    let passed = unless-passes (fits test f.type) cause.E07 at passes in
    let r = found clear in
    wanted-of W test at f r.type r.is r.says r.names (only r.type (sym (ap (fits test) r.is) ∙ passed)) passed

-- a whole of one type
pub whole-found : (W : well.Scope) (one : Expr) (typed : Bool) (of : Simple) (tree : x.Expr) (weight : ℕ) (k : Known) (faults : List Fault) → typed ≡ true → type_of W tree ≡ Some of → widened of ≡ of → NamesFit W k → IsFound W one (whole typed of tree weight k faults)
whole-found W one typed of tree weight k faults all is wide names =
    record {
      type = t.Simple of;
      is = ap (λ b. only_if b (Some (t.Simple of))) all;
      says = (is, wide);
      value = λ h. refl;
      names = names;
    }

-- the values are of a type
pub is-of : (W : well.Scope) (u : Simple) (f : Found) → IsValue W (has_values_of u) f → is_of u (type_of W f.tree) ≡ true
is-of W u f v = ap (is_of u) v.is ∙ (ap (same_simple (widened u)) (sym v.wide) ∙ v.passes)

pub is-some : (W : well.Scope) (test : AnyType → Bool) (f : Found) → IsValue W test f → is_some f.type ≡ true
is-some W test f v = ap is_some v.type

pub comparable-is : (W : well.Scope) (op : CompareOp) (f g : Found) → IsValue W (left_fits (is_equality op)) f → IsValue W (right_fits (is_equality op) f.type) g → comparable op (type_of W f.tree) (type_of W g.tree) ≡ true
comparable-is W op f g u v = go op u.passes (sym (ap (λ o. right_fits (is_equality op) o (t.Simple v.of)) u.type) ∙ v.passes)
  where
    equal : has_values_of u.of (t.Simple v.of) ≡ true → same_simple u.of v.of ≡ true
    equal right = ap (same_simple u.of) (sym v.wide) ∙ (ap (λ l. same_simple l (widened v.of)) (sym u.wide) ∙ right)

    number : (o : Simple) → widened o ≡ o → fitting.is_number (t.Simple o) ≡ true → is_of numbers (Some o) ≡ true
    number o wide passes = ap (same_simple numbers) (sym wide) ∙ passes

    go : (op : CompareOp) → left_fits (is_equality op) (t.Simple u.of) ≡ true → right_fits (is_equality op) (Some (t.Simple u.of)) (t.Simple v.of) ≡ true → comparable op (type_of W f.tree) (type_of W g.tree) ≡ true
    go compare.Equal left right = ap (λ o. comparable compare.Equal o (type_of W g.tree)) u.is ∙ (ap (λ o. option_map_or (same_simple u.of) o false) v.is ∙ equal right)
    go compare.NotEqual left right = ap (λ o. comparable compare.NotEqual o (type_of W g.tree)) u.is ∙ (ap (λ o. option_map_or (same_simple u.of) o false) v.is ∙ equal right)
    go compare.Less left right = and_from _ _ (ap (is_of numbers) u.is ∙ number u.of u.wide left) (ap (is_of numbers) v.is ∙ number v.of v.wide right)
    go compare.LessEqual left right = and_from _ _ (ap (is_of numbers) u.is ∙ number u.of u.wide left) (ap (is_of numbers) v.is ∙ number v.of v.wide right)
    go compare.Greater left right = and_from _ _ (ap (is_of numbers) u.is ∙ number u.of u.wide left) (ap (is_of numbers) v.is ∙ number v.of v.wide right)
    go compare.GreaterEqual left right = and_from _ _ (ap (is_of numbers) u.is ∙ number u.of u.wide left) (ap (is_of numbers) v.is ∙ number v.of v.wide right)

-- Chains

-- the further operands of a chain of a type
pub record AreLinks (W : well.Scope) (type : Simple) (g : FoundLinks) : Type 0 where
  pub typed : g.typed ≡ true
  pub is : list_chain W (Some type) g.trees ≡ Some type
  pub names : NamesFit W g.known

pub first-type : (W : well.Scope) (type : Simple) (f : Found) → widened type ≡ type → IsValue W (has_values_of type) f → type_of W f.tree ≡ Some type
first-type W type f wide v = v.is ∙ ap Some (sym v.wide ∙ (sym (simples-true (widened type) (widened v.of) v.passes) ∙ wide))

pub link-step : (W : well.Scope) (type : Simple) (op : ChainOp) (f : Found) (g : FoundLinks) → widened type ≡ type → same_simple (operand_type op) type ≡ true → IsValue W (has_values_of type) f → AreLinks W type g → AreLinks W type (link_found op f g)
link-step W type op f g wide level v links =
    let same : operand_type op ≡ type = simples-true (operand_type op) type level in
    let own : is_of type (Some type) ≡ true = ap (λ u. same_simple u type) wide ∙ same-self type in
    record {
      typed = and_from _ _ (is-some W (has_values_of type) f v) links.typed;
      is = ap (λ u. list_chain W (only_if (is_of u (Some type) && is_of u (type_of W f.tree)) (Some u)) g.trees) same
          ∙ (ap (λ b. list_chain W (only_if (b && is_of type (type_of W f.tree)) (Some type)) g.trees) own
          ∙ (ap (λ b. list_chain W (only_if b (Some type)) g.trees) (is-of W type f v) ∙ links.is));
      names = links.names;
    }

-- Designators

pub record AreSelected (W : well.Scope) (type : AnyType) (g : FoundSelectors) : Type 0 where
  pub of : AnyType
  pub is : g.type ≡ Some of
  pub selects : list_selected W (Some type) g.trees ≡ Some of
  pub fine : is_type W.kinds type ≡ true → is_type W.kinds of ≡ true
  pub names : NamesFit W g.known

-- what is claimed of the rest of a designator, whatever stands before it
abbrev pub RestClaim : well.Scope → (Option AnyType → FoundSelectors) → Type 0
RestClaim W rest = (of : AnyType) → Held (rest (Some of)).known.kinds W.kinds → (rest (Some of)).faults ≡ [] → AreSelected W of (rest (Some of))

fields-fine : {n : _} (kinds : List Kind) (row : Row_of-Field n) (name : Name) (of : AnyType) → are_fields kinds row ≡ true → row_field row name ≡ Some of → is_type kinds of ≡ true
unfolding is_type
fields-fine kinds end_of-Field name of fine is = cc
fields-fine kinds (more_of-Field field type rest) name of fine is =
    let (first, more) = and_parts (is_type kinds type) (not (is_some (row_field rest field)) && are_fields kinds rest) fine in
    let (alone, others) = and_parts (not (is_some (row_field rest field))) (are_fields kinds rest) more in
    go (bytes_eq field name) is first (fields-fine kinds rest name of others)
  where
    go : (b : Bool) → (if b then Some type else row_field rest name) ≡ Some of → is_type kinds type ≡ true → (row_field rest name ≡ Some of → is_type kinds of ≡ true) → is_type kinds of ≡ true
    go true is first more = sym (ap (is_type kinds) (some-same is)) ∙ first
    go false is first more = more is

-- `.name`
pub field-step : (W : well.Scope) (at : Span) (name : Named) (type : AnyType) (rest : Option AnyType → FoundSelectors) → RestClaim W rest
    → Held (rest (field_chosen at name (Some type)).type).known.kinds W.kinds → (field_found name (field_chosen at name (Some type)) (rest (field_chosen at name (Some type)).type)).faults ≡ []
    → AreSelected W type (field_found name (field_chosen at name (Some type)) (rest (field_chosen at name (Some type)).type))
unfolding is_type
field-step W at name (t.Simple u) rest claim held none = cc
field-step W at name (t.Array' index shape item) rest claim held none = cc
field-step W at name (t.Record' shape fields) rest claim held none = go (row_field fields name.name) refl held none
  where
    go : (o : Option AnyType) → row_field fields name.name ≡ o → Held (rest (field_or name.at o).type).known.kinds W.kinds → (field_found name (field_or name.at o) (rest (field_or name.at o).type)).faults ≡ [] → AreSelected W (t.Record' shape fields) (field_found name (field_or name.at o) (rest (field_or name.at o).type))
    go None is held none = cc
    go (Some of) is held none =
        let r = claim of held none in
        record {
          of = r.of;
          is = r.is;
          selects = ap (λ o. list_selected W o (rest (Some of)).trees) is ∙ r.selects;
          fine = λ h. r.fine (fields-fine W.kinds fields name.name of h is);
          names = r.names;
        }

-- `[index]`
pub item-step : (W : well.Scope) (at : Span) (place : Span) (type : AnyType) (f : Found) (rest : Option AnyType → FoundSelectors)
    → ((test : AnyType → Bool) → OnlySimple test → (wanted test place f).faults ≡ [] → IsValue W test (wanted test place f)) → RestClaim W rest
    → Held (item_selected at (Some type) (wanted (index_fits (index_type (Some type))) place f) (λ c. rest c.type)).known.kinds W.kinds
    → (item_selected at (Some type) (wanted (index_fits (index_type (Some type))) place f) (λ c. rest c.type)).faults ≡ []
    → AreSelected W type (item_selected at (Some type) (wanted (index_fits (index_type (Some type))) place f) (λ c. rest c.type))
unfolding is_type index_type item_chosen
item-step W at place (t.Simple u) f rest value claim held none =
    let (own, more) = nil-parts (wanted (index_fits None) place f).faults (lone cause.E07 at ++ (rest None).faults) none in cc
item-step W at place (t.Record' shape fields) f rest value claim held none =
    let (own, more) = nil-parts (wanted (index_fits None) place f).faults (lone cause.E07 at ++ (rest None).faults) none in cc
item-step W at place (ArrayForm over item) f rest value claim held none =
    let F = wanted (has_values_of over) place f in
    let (own, more) = nil-parts F.faults (rest (only_if (is_some F.type) (Some item))).faults none in
    let v = value (has_values_of over) (only-values over) own in
    let there : only_if (is_some F.type) (Some item) ≡ Some item = ap (λ b. only_if b (Some item)) (ap is_some v.type) in
    let r = claim item (subst (λ o. Held (rest o).known.kinds W.kinds) there held) (sym (ap (λ o. (rest o).faults) there) ∙ more) in
    let g = rest (only_if (is_some F.type) (Some item)) in
    record {
      of = r.of;
      is = ap (λ o. (rest o).type) there ∙ r.is;
      selects = ap (λ b. list_selected W (only_if b (if same_simple over over then Some item else None)) g.trees) (is-of W over F v)
          ∙ (ap (λ b. list_selected W (if b then Some item else None) g.trees) (same-self over)
          ∙ (ap (λ o. list_selected W (Some item) (rest o).trees) there ∙ r.selects));
      fine = λ h. r.fine ((and_parts (is_simple_type W.kinds over) (is_type W.kinds item) h).1);
      names = subst (λ o. NamesFit W (rest o).known) (sym there) r.names;
    }

none-selected : (W : well.Scope) (sels : List Selector) → list_selected W None sels ≡ None
none-selected W [] = refl
none-selected W (select.Field name ∷ rest) = none-selected W rest
none-selected W (select.Index over index ∷ rest) = go (is_of over (type_of W index)) (none-selected W rest)
  where
    go : (b : Bool) → list_selected W None rest ≡ None → list_selected W (only_if b None) rest ≡ None
    go true e = e
    go false e = e

-- nothing stands behind a value of simple type
pub simple-selected : (W : well.Scope) (u : Simple) (sels : List Selector) (of : AnyType) → list_selected W (Some (t.Simple u)) sels ≡ Some of → of ≡ t.Simple u
simple-selected W u [] of e = cc
simple-selected W u (select.Field name ∷ rest) of e = let n = none-selected W rest in cc
simple-selected W u (select.Index over index ∷ rest) of e = go (is_of over (type_of W index)) e
  where
    go : (b : Bool) → list_selected W (only_if b None) rest ≡ Some of → of ≡ t.Simple u
    go true e = let n = none-selected W rest in cc
    go false e = let n = none-selected W rest in cc

-- what a designator starts with
abbrev pub StartFits : well.Scope → FoundPlace → Start → AnyType → Type 0
StartFits W p (Rooted root) type = (place_type W (designator_of root p) ≡ Some type) × (is_type W.kinds type ≡ true)
StartFits W p (Fixed tree) type = (u : Simple) × ((type ≡ t.Simple u) × (type_of W tree ≡ Some (widened u)))
StartFits W p Nowhere type = ⊥

pub record IsPlace (W : well.Scope) (p : FoundPlace) : Type 0 where
  pub type : AnyType
  pub is : p.type ≡ Some type
  pub starts : StartFits W p p.start type
  pub names : NamesFit W p.known

member-type : (W : well.Scope) (number index count : ℕ) → MeaningFits W (meaning.Member number index count) → type_of W (x.Known (value.Member number index)) ≡ Some (simple.Listed number count)
member-type W number index count (names, is, long, below) =
    of-Known W (value.Member number index)
    ∙ (ap (enum_type number index) is
    ∙ (ap (λ n. only_if (nat_lt index n) (Some (simple.Listed number n))) long ∙ ap (λ b. only_if b (Some (simple.Listed number count))) below))

-- a whole designator
pub place-step : (W : well.Scope) (at : Span) (what : Option Meaning) (rest : Option AnyType → FoundSelectors) → WhatFits W what → RestClaim W rest
    → Held (place_made at what (start_type at what) (rest (start_type at what).type)).known.kinds W.kinds
    → (place_made at what (start_type at what) (rest (start_type at what).type)).faults ≡ []
    → IsPlace W (place_made at what (start_type at what) (rest (start_type at what).type))
place-step W at None rest what claim held none = cc
place-step W at (Some meaning.Refused) rest what claim held none = absurd what
place-step W at (Some (meaning.TypeName type)) rest what claim held none = cc
place-step W at (Some (meaning.Routine number)) rest what claim held none = cc
place-step W at (Some (meaning.Variable root of)) rest what claim held none =
    let r = claim of held none in
    record {
      type = r.of;
      is = r.is;
      starts = (place-Of W root (rest (Some of)).trees at ∙ (ap (λ o. list_selected W o (rest (Some of)).trees) what.0 ∙ r.selects), r.fine what.1);
      names = r.names;
    }
place-step W at (Some (meaning.Constant n)) rest what claim held none =
    let r = claim (t.Simple numbers) held none in
    record {
      type = r.of;
      is = r.is;
      starts = (numbers, (simple-selected W numbers (rest (Some (t.Simple numbers))).trees r.of r.selects, of-Known W (value.Number n) ∙ ap (λ b. only_if b (Some numbers)) what));
      names = r.names;
    }
place-step W at (Some (meaning.Member number index count)) rest what claim held none =
    let u = simple.Listed number count in
    let r = claim (t.Simple u) held none in
    record {
      type = r.of;
      is = r.is;
      starts = (u, (simple-selected W u (rest (Some (t.Simple u))).trees r.of r.selects, member-type W number index count what));
      names = r.names;
    }
place-step W at (Some (meaning.Bound number over)) rest what claim held none =
    let r = claim (t.Simple over) held none in
    record {
      type = r.of;
      is = r.is;
      starts = (over, (simple-selected W over (rest (Some (t.Simple over))).trees r.of r.selects, of-Bound W number ∙ ap (option_map widened) what.0));
      names = r.names;
    }

-- a designator as an expression
pub read-says : (W : well.Scope) (p : FoundPlace) (start : Start) (type : AnyType) → StartFits W p start type → Says W (as_value type) (read_tree p start)
read-says W p (Rooted root) (t.Simple u) h = (of-Read W (designator_of root p) ∙ ap (λ o. option_map widened (simple_part o)) h.0, wide-twice u)
read-says W p (Rooted root) (t.Record' shape fields) h = (designator_of root p, refl)
read-says W p (Rooted root) (t.Array' index shape item) h = (designator_of root p, refl)
read-says W p (Fixed tree) (t.Simple v) (u, h) = let is = h.0 in let same : v ≡ u = cc in (h.1 ∙ ap (λ w. Some (widened w)) (sym same), wide-twice v)
read-says W p (Fixed tree) (t.Record' shape fields) (u, h) = let is = h.0 in cc
read-says W p (Fixed tree) (t.Array' index shape item) (u, h) = let is = h.0 in cc
read-says W p Nowhere type h = absurd h

pub read-step : (W : well.Scope) (one : Expr) (p : FoundPlace) → is_place one ≡ true → IsPlace W p → IsFound W one (read_found p)
read-step W one p is r =
    record {
      type = as_value r.type;
      is = ap (option_map as_value) r.is;
      says = read-says W p p.start r.type r.starts;
      value = λ h. cc;
      names = r.names;
    }

undefined-of : (W : well.Scope) (p : FoundPlace) (start : Start) (type : AnyType) → StartFits W p start type → is_simple type ≡ true → type_of W (undefined_tree p start) ≡ Some simple.Truth
undefined-of W p (Rooted root) (t.Simple u) h one = of-IsUndefined W (designator_of root p) ∙ ap (λ o. only_if (is_some (simple_part o)) (Some simple.Truth)) h.0
undefined-of W p (Rooted root) (t.Record' shape fields) h simple = cc
undefined-of W p (Rooted root) (t.Array' index shape item) h simple = cc
undefined-of W p (Fixed tree) type h one = of-Known W (value.Truth false)
undefined-of W p Nowhere type h one = absurd h

pub undefined-step : (W : well.Scope) (one : Expr) (p : FoundPlace) → is_place one ≡ false → (p.faults ≡ [] → IsPlace W p) → (undefined_found p).faults ≡ [] → IsFound W one (undefined_found p)
undefined-step W one p other place none =
    let (clear, passes) = nil-parts p.faults (unless (fits is_simple p.type) cause.E07 p.at) none in
    let passed = unless-passes (fits is_simple p.type) cause.E07 p.at passes in
    let r = place clear in
    record {
      type = t.Simple simple.Truth;
      is = ap (λ b. only_if b (Some (t.Simple simple.Truth))) (and_from _ _ (ap is_some r.is) passed);
      says = (undefined-of W p p.start r.type r.starts (sym (ap (fits is_simple) r.is) ∙ passed), refl);
      value = λ h. refl;
      names = r.names;
    }
