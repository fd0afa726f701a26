-- What is found of types without faults: steps from parts to wholes.
use Rattle.std.proofs.Common.{◌≡◌, ℕ, zero, suc, ◌+◌, Bool, true, false, not, ◌&&◌, ◌||◌, List, [], ◌∷◌, ◌++◌, map, length, Option, None, Some, refl, sym, ap, subst, ◌∙◌, arith}
use Rattle.std.specs.Prelude.{ℤ, pos, negsuc, ◌-ℤ◌, nat_eq, nat_lt, nat_le, int_lt, int_le, is_some, slice_get, if◌then◌else◌}
use Rattle.std.specs.List.{list_all}
use Rattle.std.specs.Str.{bytes_eq}
use Rattle.std.proofs.lemmas.Bool.{and_parts, and_from, or_parts, eqb-true, eq-eqb, lt-ltb}
use Rattle.std.proofs.lemmas.List.{length-map}
use Rattle.term_core.specs.Values.{is_number}
use Rattle.murphi_ast.specs.declared.token.Span.{Span}
use Rattle.murphi_ast.specs.declared.expr.Named.{Named}
use Rattle.murphi_ast.specs.declared.expr.Expr.{Expr}
use Rattle.murphi_typed.specs.Families.{Name}
use Rattle.murphi_typed.specs.Values.{numbers_within}
use Rattle.murphi_typed.specs.declared.types.Kind.{Kind}
use Rattle.murphi_typed.specs.declared.types.Kind.TheVariants as kind
use Rattle.murphi_typed.specs.declared.types.Simple.{Simple}
use Rattle.murphi_typed.specs.declared.types.Simple.TheVariants as simple
use Rattle.murphi_typed.specs.declared.types.Field.{Field}
use Rattle.murphi_typed.specs.declared.types.AnyType as t
use Rattle.murphi_typed.specs.declared.types.AnyType.{AnyType}
use Rattle.murphi_typed.specs.declared.expr.Expr as x
use Rattle.murphi_typed.specs.WellTyped.{is_listed, is_scalarset, is_simple_type, is_type, only_if}
use Rattle.murphi_typed.specs.WellTyped as well
use Rattle.murphi_types.specs.declared.fault.Cause.TheVariants as cause
use Rattle.murphi_types.specs.declared.fault.Quantity.TheVariants as quantity
use Rattle.murphi_types.specs.declared.scope.Meaning.{Meaning}
use Rattle.murphi_types.specs.declared.scope.Meaning.TheVariants as meaning
use Rattle.murphi_types.specs.declared.scope.Entry.{Entry}
use Rattle.murphi_types.specs.declared.scope.Known.{Known}
use Rattle.murphi_types.specs.Faults.{unless, lone}
use Rattle.murphi_types.specs.Fitting.{fits, is_simple, simple_part}
use Rattle.murphi_types.specs.Constants.{constant_number}
use Rattle.murphi_types.specs.Found.{Found}
use Rattle.murphi_types.specs.Designators.{Chosen}
use Rattle.murphi_types.specs.Types.{FoundType, type_made, FoundNumber, number_of, number_found, named_type, limited, range_type, range_found, with_kind, enum_entries, member, with_members, enum_found, Naming, Unnamed, As, AsNodes, scalarset_type, scalarset_found, simple_wanted, array_type, array_found, FoundFields, fields_named, more_fields, field_made, record_type, record_found}
use Rattle.murphi_types.specs.Repeats.{is_among, repeats}
use Rattle.typing_sound.specs.Spelled.{has_one}
use Rattle.typing_sound.proofs.Grown.{Held}
use Rattle.typing_sound.proofs.Fits.{Each, each-more, get-last, NameFits, NamesFit, WhatFits}
use Rattle.typing_sound.proofs.TypeEquations.{list_field, list_fields, type-Record, type-Array}
use Rattle.typing_sound.proofs.Tests.{nil-parts, unless-passes, simple-is}
use Rattle.typing_sound.proofs.ConstantLemmas.{some-of, only-some, constant-fine, read-none}
use Rattle.typing_sound.proofs.Parts.{Says, IsFound}

pub record IsType (W : well.Scope) (f : FoundType) : Type 0 where
  pub type : AnyType
  pub is : f.type ≡ Some type
  pub fine : is_type W.kinds type ≡ true
  pub names : NamesFit W f.known

-- a type that has to be simple
pub record IsSimple (W : well.Scope) (f : FoundType) : Type 0 where
  pub of : Simple
  pub is : f.type ≡ Some (t.Simple of)
  pub fine : is_simple_type W.kinds of ≡ true
  pub names : NamesFit W f.known

pub simple-step : (W : well.Scope) (at : Span) (f : FoundType) → (f.faults ≡ [] → IsType W f) → (simple_wanted at f).faults ≡ [] → IsSimple W (simple_wanted at f)
unfolding is_type
simple-step W at f found none =
    let (clear, passes) = nil-parts f.faults (unless (fits is_simple f.type) cause.E07 at) none in
    let passed = unless-passes (fits is_simple f.type) cause.E07 at passes in
    let r = found clear in
    let (u, same) = simple-is r.type (sym (ap (fits is_simple) r.is) ∙ passed) in
    record {
      of = u;
      is = ap (λ b. only_if b f.type) passed ∙ (r.is ∙ ap Some same);
      fine = sym (ap (is_type W.kinds) same) ∙ r.fine;
      names = r.names;
    }

-- Names

pub named-step : (W : well.Scope) (k : Known) (at : Span) (what : Option Meaning) → WhatFits W what → NamesFit W k → (type_made k [] (named_type at what)).faults ≡ [] → IsType W (type_made k [] (named_type at what))
named-step W k at None what names none = cc
named-step W k at (Some meaning.Refused) what names none = absurd what
named-step W k at (Some (meaning.Constant n)) what names none = cc
named-step W k at (Some (meaning.TypeName type)) what names none = record { type = type; is = refl; fine = what; names = names }
named-step W k at (Some (meaning.Variable root of)) what names none = cc
named-step W k at (Some (meaning.Bound number over)) what names none = cc
named-step W k at (Some (meaning.Member number index count)) what names none = cc
named-step W k at (Some (meaning.Routine number)) what names none = cc

-- Constants

pub record IsNumber (W : well.Scope) (f : FoundNumber) : Type 0 where
  pub number : ℤ
  pub is : f.number ≡ Some number
  pub fine : is_number number ≡ true
  pub names : NamesFit W f.known

says-fine : (W : well.Scope) (at : Span) (type : AnyType) (tree : x.Expr) (z : ℤ) → Says W type tree → constant_number at tree ≡ Some z → is_number z ≡ true
says-fine W at (t.Simple u) tree z says is = constant-fine W at tree u z says.0 is
says-fine W at (t.Record' shape fields) tree z says is = read-none at says.0 z (sym (ap (constant_number at) says.1) ∙ is)
says-fine W at (t.Array' index shape item) tree z says is = read-none at says.0 z (sym (ap (constant_number at) says.1) ∙ is)

pub number-step : (W : well.Scope) (one : Expr) (written : Bool) (at : Span) (f : Found) → (f.faults ≡ [] → IsFound W one f) → (number_found written at f).faults ≡ [] → IsNumber W (number_found written at f)
number-step W one written at f found none =
    let (clear, passes) = nil-parts f.faults (unless (not (is_some f.type) || is_some (number_of written at f)) cause.E08 at) none in
    let passed = unless-passes (not (is_some f.type) || is_some (number_of written at f)) cause.E08 at passes in
    let r = found clear in
    let there : is_some (number_of written at f) ≡ true = sym (ap (λ o. not (is_some o) || is_some (number_of written at f)) r.is) ∙ passed in
    let (z, is) = some-of (number_of written at f) there in
    record {
      number = z;
      is = is;
      fine = says-fine W at r.type f.tree z r.says (only-some (written && is_some f.type) (constant_number at f.tree) z is).1;
      names = r.names;
    }

-- Finite types

limited-is : (at : Span) (count : ℕ) (u : Simple) → (limited at count u).faults ≡ [] → ((limited at count u).type ≡ Some (t.Simple u)) × (nat_le count 256 ≡ true)
limited-is at count u none = go (nat_le count 256) refl none
  where
    c : Bool → Chosen
    c b = if b then record { type = Some (t.Simple u); faults = [] } else record { type = None; faults = lone (cause.E16 quantity.Values count 256) at }

    go : (b : Bool) → nat_le count 256 ≡ b → (c b).faults ≡ [] → ((c b).type ≡ Some (t.Simple u)) × (nat_le count 256 ≡ true)
    go true e none = (refl, e)
    go false e none = cc

not-above : (low high : ℤ) → int_lt high low ≡ false → int_le low high ≡ true
not-above low high e = grind (arith, e)

range-is : (kinds : List Kind) (at : Span) (low high : ℤ) → is_number low ≡ true → is_number high ≡ true → (range_type at (Some low) (Some high)).faults ≡ []
    → ((range_type at (Some low) (Some high)).type ≡ Some (t.Simple (simple.Range low high))) × (is_simple_type kinds (simple.Range low high) ≡ true)
range-is kinds at low high first second none = go (int_lt high low) refl none
  where
    u : Simple
    u = simple.Range low high

    count : ℕ
    count = numbers_within (high -ℤ low)

    c : Bool → Chosen
    c b = if b then record { type = None; faults = lone cause.E08 at } else limited at count u

    go : (b : Bool) → int_lt high low ≡ b → (c b).faults ≡ [] → ((c b).type ≡ Some (t.Simple u)) × (is_simple_type kinds u ≡ true)
    go true e none = cc
    go false e none =
        let (is, small) = limited-is at count u none in
        (is, and_from _ _ first (and_from _ _ second (and_from _ _ (not-above low high e) small)))

pub range-step : (W : well.Scope) (at : Span) (f g : FoundNumber) → IsNumber W f → IsNumber W g → (range_found at f g).faults ≡ [] → IsType W (range_found at f g)
unfolding is_type
range-step W at f g u v none =
    let (more, own) = nil-parts (f.faults ++ g.faults) (range_type at f.number g.number).faults none in
    let same : range_type at f.number g.number ≡ range_type at (Some u.number) (Some v.number) = ap (λ o. range_type at o g.number) u.is ∙ ap (range_type at (Some u.number)) v.is in
    let (is, fine) = range-is W.kinds at u.number v.number u.fine v.fine (sym (ap (λ (c : Chosen). c.faults) same) ∙ own) in
    record {
      type = t.Simple (simple.Range u.number v.number);
      is = ap (λ (c : Chosen). c.type) same ∙ is;
      fine = fine;
      names = v.names;
    }

-- Enums

positive : {A : Type 0} (xs : List A) → has_one xs ≡ true → nat_lt 0 (length xs) ≡ true
positive [] e = cc
positive (x ∷ xs) e = lt-ltb 0 (suc (length xs)) (omega arith)

entries-fit : (W : well.Scope) (small : Bool) (number count : ℕ) (all : List Name) → small ≡ true → slice_get W.kinds number ≡ Some (kind.Listed all) → length all ≡ count
    → (index : ℕ) (names : List Named) → index + length names ≡ count
    → Each (λ (e : Entry). NameFits W.kinds W.globals W.routines e.what) (enum_entries (member small number count) index names)
entries-fit W small number count all few is long index [] e = tt
entries-fit W small number count all few is long index (n ∷ ns) e =
    let below : nat_lt index count ≡ true = lt-ltb index count (omega (arith, e)) in (
      subst (λ b. NameFits W.kinds W.globals W.routines (if b then meaning.Member number index count else meaning.Refused)) (sym few) (all, is, long, below),
      entries-fit W small number count all few is long (suc index) ns (omega (arith, e)),
    )

pub enum-step : (W : well.Scope) (at : Span) (names : List Named) (k : Known) → has_one names ≡ true → NamesFit W k → Held (with_members names k).kinds W.kinds → (enum_found at names k).faults ≡ [] → IsType W (enum_found at names k)
unfolding is_type
enum-step W at names k one fit held none =
    let count = length names in
    let number = length k.kinds in
    let texts : List Name = map (λ (n : Named). n.name) names in
    let (is, small) = limited-is at count (simple.Listed number count) none in
    let there : slice_get W.kinds number ≡ Some (kind.Listed texts) = held number (kind.Listed texts) (get-last k.kinds (kind.Listed texts)) in
    let long : length texts ≡ count = length-map names (λ (n : Named). n.name) in
    record {
      type = t.Simple (simple.Listed number count);
      is = is;
      fine = and_from _ _ (ap (λ o. is_listed o count) there ∙ eq-eqb (length texts) count long) (and_from _ _ (positive names one) small);
      names = each-more (λ (e : Entry). NameFits W.kinds W.globals W.routines e.what) k.names _ fit (entries-fit W (nat_le count 256) number count texts small there long 0 names (omega arith));
    }

-- Scalarsets

sized-is : (W : well.Scope) (at : Span) (k : Known) (text : Option Name) (n : ℕ) → NamesFit W k → Held (k.kinds ++ kind.Scalarset text (suc n) ∷ []) W.kinds
    → (limited at (suc n) (simple.Scalarset (length k.kinds) (suc n))).faults ≡ [] → IsType W (type_made (with_kind k (kind.Scalarset text (suc n))) [] (limited at (suc n) (simple.Scalarset (length k.kinds) (suc n))))
unfolding is_type
sized-is W at k text n fit held none =
    let u = simple.Scalarset (length k.kinds) (suc n) in
    let (is, small) = limited-is at (suc n) u none in
    let there = held (length k.kinds) (kind.Scalarset text (suc n)) (get-last k.kinds (kind.Scalarset text (suc n))) in
    record {
      type = t.Simple u;
      is = is;
      fine = and_from _ _ (ap (λ o. is_scalarset o (suc n)) there ∙ eq-eqb (suc n) (suc n) refl) (and_from _ _ (lt-ltb 0 (suc n) (omega arith)) small);
      names = fit;
    }

sizes-is : (W : well.Scope) (naming : Naming) (at : Span) (k : Known) (z : ℤ) → NamesFit W k → Held (scalarset_type naming at k (Some z)).known.kinds W.kinds → (scalarset_type naming at k (Some z)).faults ≡ [] → IsType W (scalarset_type naming at k (Some z))
unfolding is_type
sizes-is W naming at k (negsuc n) fit held none = cc
sizes-is W naming at k (pos zero) fit held none = cc
sizes-is W Unnamed at k (pos (suc n)) fit held none = sized-is W at k None n fit held none
sizes-is W (As name) at k (pos (suc n)) fit held none = sized-is W at k (Some name) n fit held none
sizes-is W AsNodes at k (pos (suc n)) fit held none = record { type = t.Simple simple.Node; is = refl; fine = refl; names = fit }

pub scalarset-step : (W : well.Scope) (naming : Naming) (at : Span) (f : FoundNumber) → IsNumber W f → Held (scalarset_found naming at f).known.kinds W.kinds → (scalarset_found naming at f).faults ≡ [] → IsType W (scalarset_found naming at f)
scalarset-step W naming at f u held none =
    let (more, own) = nil-parts f.faults (scalarset_type naming at f.known f.number).faults none in
    let r = sizes-is W naming at f.known u.number u.names (subst (λ o. Held (scalarset_type naming at f.known o).known.kinds W.kinds) u.is held) (sym (ap (λ o. (scalarset_type naming at f.known o).faults) u.is) ∙ own) in
    record {
      type = r.type;
      is = ap (λ o. (scalarset_type naming at f.known o).type) u.is ∙ r.is;
      fine = r.fine;
      names = subst (λ o. NamesFit W (scalarset_type naming at f.known o).known) (sym u.is) r.names;
    }

-- Arrays

pub array-step : (W : well.Scope) (f g : FoundType) → IsSimple W f → IsType W g → IsType W (array_found f g)
array-step W f g u v =
    record {
      type = t.Array u.of v.type;
      is = ap (λ o. array_type (simple_part o) g.type) u.is ∙ ap (array_type (Some u.of)) v.is;
      fine = type-Array W.kinds u.of v.type ∙ and_from _ _ u.fine v.fine;
      names = v.names;
    }

-- Records

abbrev pub names_of : List Named → List Name
names_of names = map (λ (n : Named). n.name) names

abbrev pub field_names_of : List Field → List Name
field_names_of fields = map (λ (f : Field). f.name) fields

pub record AreFields (W : well.Scope) (named : List Named) (f : FoundFields) : Type 0 where
  pub fields : List Field
  pub is : f.fields ≡ Some fields
  pub fine : list_all (λ (g : Field). is_type W.kinds g.of) fields ≡ true
  pub same : field_names_of fields ≡ names_of named
  pub names : NamesFit W f.known

all-more : {A : Type 0} (p : A → Bool) (xs ys : List A) → list_all p xs ≡ true → list_all p ys ≡ true → list_all p (xs ++ ys) ≡ true
all-more p [] ys u v = v
all-more p (x ∷ xs) ys u v = let (first, rest) = and_parts (p x) (list_all p xs) u in and_from _ _ first (all-more p xs ys rest v)

named-fine : (kinds : List Kind) (names : List Named) (type : AnyType) → is_type kinds type ≡ true → list_all (λ (g : Field). is_type kinds g.of) (fields_named names type) ≡ true
named-fine kinds [] type h = refl
named-fine kinds (n ∷ ns) type h = and_from _ _ h (named-fine kinds ns type h)

named-same : (names : List Named) (type : AnyType) (fields : List Field) (rest : List Named) → field_names_of fields ≡ names_of rest → field_names_of (fields_named names type ++ fields) ≡ names_of (names ++ rest)
named-same [] type fields rest e = e
named-same (n ∷ ns) type fields rest e = ap (λ l. n.name ∷ l) (named-same ns type fields rest e)

pub fields-step : (W : well.Scope) (names : List Named) (f : FoundType) (g : FoundFields) (rest : List Named) → IsType W f → AreFields W rest g → AreFields W (names ++ rest) (field_made names f g)
fields-step W names f g rest u v =
    record {
      fields = fields_named names u.type ++ v.fields;
      is = ap (λ o. more_fields names o g.fields) u.is ∙ ap (more_fields names (Some u.type)) v.is;
      fine = all-more (λ (g : Field). is_type W.kinds g.of) (fields_named names u.type) v.fields (named-fine W.kinds names u.type u.fine) v.fine;
      same = named-same names u.type v.fields rest v.same;
      names = v.names;
    }

pub bytes-true : (a b : Name) → bytes_eq a b ≡ true → a ≡ b
bytes-true [] [] e = refl
bytes-true [] (y ∷ ys) e = cc
bytes-true (x ∷ xs) [] e = cc
bytes-true (x ∷ xs) (y ∷ ys) e = let (h, t) = and_parts (nat_eq x y) (bytes_eq xs ys) e in ap (λ z. z ∷ xs) (eqb-true x y h) ∙ ap (λ zs. y ∷ zs) (bytes-true xs ys t)

pub bytes-self : (a : Name) → bytes_eq a a ≡ true
bytes-self [] = refl
bytes-self (x ∷ xs) = and_from _ _ (eq-eqb x x refl) (bytes-self xs)

-- a name that stood before is none of those that come, where no fault says so
absent : (x : Name) (before : List Name) (ns : List Named) → ((name : Name) → is_among name before ≡ false → bytes_eq x name ≡ false) → repeats before ns ≡ [] → Each (λ y. bytes_eq x y ≡ false) (names_of ns)
absent x before [] h none = tt
absent x before (n ∷ ns) h none =
    let (own, more) = nil-parts (unless (not (is_among n.name before)) cause.E06 n.at) (repeats (n.name ∷ before) ns) none in (
      h n.name (is-not (is_among n.name before) (unless-passes (not (is_among n.name before)) cause.E06 n.at own)),
      absent x (n.name ∷ before) ns (λ name e. h name (or_parts (bytes_eq n.name name) (is_among name before) e).1) more,
    )
  where
    is-not : (b : Bool) → not b ≡ true → b ≡ false
    is-not true e = cc
    is-not false e = refl

no-field : (x : Name) (fields : List Field) → Each (λ y. bytes_eq x y ≡ false) (field_names_of fields) → list_field fields x ≡ None
no-field x [] u = refl
no-field x (f ∷ fs) u = go (bytes_eq f.name x) refl (no-field x fs u.1)
  where
    go : (b : Bool) → bytes_eq f.name x ≡ b → list_field fs x ≡ None → (if b then Some f.of else list_field fs x) ≡ None
    go true e rest = let same : f.name ≡ x = bytes-true f.name x e in let own : bytes_eq x x ≡ false = ap (bytes_eq x) (sym same) ∙ u.0 in let self = bytes-self x in cc
    go false e rest = rest

distinct : (kinds : List Kind) (fields : List Field) (ns : List Named) (before : List Name) → field_names_of fields ≡ names_of ns → list_all (λ (g : Field). is_type kinds g.of) fields ≡ true → repeats before ns ≡ [] → list_fields kinds fields ≡ true
distinct kinds [] ns before same fine none = refl
distinct kinds (f ∷ fs) [] before same fine none = cc
distinct kinds (f ∷ fs) (n ∷ ns) before same fine none =
    let (first, rest) = and_parts (is_type kinds f.of) (list_all (λ (g : Field). is_type kinds g.of) fs) fine in
    let (own, more) = nil-parts (unless (not (is_among n.name before)) cause.E06 n.at) (repeats (n.name ∷ before) ns) none in
    let head : f.name ≡ n.name = cc in
    let tail : field_names_of fs ≡ names_of ns = cc in
    let gone = absent n.name (n.name ∷ before) ns (λ name e. (or_parts (bytes_eq n.name name) (is_among name before) e).0) more in
    let alone : list_field fs f.name ≡ None = no-field f.name fs (subst (λ l. Each (λ y. bytes_eq f.name y ≡ false) l) (sym tail) (subst (λ x. Each (λ y. bytes_eq x y ≡ false) (names_of ns)) (sym head) gone)) in
    and_from _ _ first (and_from _ _ (ap (λ o. not (is_some o)) alone) (distinct kinds fs ns (n.name ∷ before) tail rest more))

pub record-step : (W : well.Scope) (named : List Named) (f : FoundFields) → AreFields W named f → repeats [] named ≡ [] → IsType W (record_found f)
record-step W named f u none =
    record {
      type = t.Record u.fields;
      is = ap record_type u.is;
      fine = type-Record W.kinds u.fields ∙ distinct W.kinds u.fields named [] u.same u.fine none;
      names = u.names;
    }
