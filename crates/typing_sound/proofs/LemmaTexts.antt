-- Lemmas without faults beside a text that is not refused are well typed.
use Rattle.std.proofs.Common.{◌≡◌, ℕ, zero, suc, true, not, ◌&&◌, List, [], ◌∷◌, ◌++◌, map, length, drop, Option, None, Some, refl, sym, ap, ◌∙◌}
use Rattle.std.specs.Prelude.{slice_get, is_some, nat_lt, nat_le}
use Rattle.std.proofs.lemmas.Bool.{and_parts, and_from}
use Rattle.murphi_typed.specs.declared.types.Kind.{Kind}
use Rattle.murphi_typed.specs.declared.types.Kind.TheVariants as kind
use Rattle.murphi_typed.specs.declared.types.Simple.{Simple}
use Rattle.murphi_typed.specs.declared.types.Simple.TheVariants as simple
use Rattle.murphi_typed.specs.declared.types.AnyType as t
use Rattle.murphi_typed.specs.declared.types.AnyType.{AnyType, Row_of-Field, end_of-Field, more_of-Field}
use Rattle.murphi_typed.specs.Forms.{ArrayForm}
use Rattle.murphi_typed.specs.declared.expr.Root.TheVariants as root
use Rattle.murphi_typed.specs.declared.protocol.Variable.{Variable}
use Rattle.murphi_typed.specs.declared.protocol.Routine.{Routine}
use Rattle.murphi_typed.specs.declared.protocol.Declared.{Declared}
use Rattle.murphi_typed.specs.declared.protocol.Typed.{Typed}
use Rattle.murphi_typed.specs.WellTyped.{is_listed, is_scalarset, is_simple_type, row_field, is_type, are_fields, variable_type, with_kinds, lemma_fits}
use Rattle.murphi_typed.specs.WellTyped as well
use Rattle.murphi_types.specs.declared.scope.Meaning.{Meaning}
use Rattle.murphi_types.specs.declared.scope.Meaning.TheVariants as meaning
use Rattle.murphi_types.specs.declared.scope.Entry.{Entry}
use Rattle.murphi_types.specs.Places.{place_of}
use Rattle.murphi_types.specs.Scopes.{entry}
use Rattle.murphi_types.specs.Fitting.{is_truth}
use Rattle.murphi_types.specs.Typing.{found}
use Rattle.murphi_types.specs.Repeats.{repeats, enum_names, field_repeats}
use Rattle.murphi_types.specs.Lemmas.{variable_meaning, global_meaning, known_of, lemma_scope, lemma_found, weight_faults_of, global_names}
use Rattle.murphi_types.specs.Texts.{items_of, entity_of, declared_name, typed_text}
use Rattle.typing_sound.specs.Sound.{LemmasAreWellTyped}
use Rattle.typing_sound.proofs.Grown.{Held, held-more, found-grown}
use Rattle.typing_sound.proofs.Fits.{Each, NameFits, Fits}
use Rattle.typing_sound.proofs.Tests.{nil-parts, some-same}
use Rattle.typing_sound.proofs.Parts.{wanted-value, is-of}
use Rattle.typing_sound.proofs.Expressions.{truth-only, found-fits}
use Rattle.typing_sound.proofs.Items.{inside}
use Rattle.typing_sound.proofs.Texts.{functions, items}

-- What fits the kinds of a text fits them with more behind

simple-held : (few many : List Kind) (u : Simple) → Held few many → is_simple_type few u ≡ true → is_simple_type many u ≡ true
simple-held few many simple.Truth held fine = fine
simple-held few many (simple.Range low high) held fine = fine
simple-held few many (simple.Listed number count) held fine =
    let (there, rest) = and_parts (is_listed (slice_get few number) count) (nat_lt 0 count && nat_le count 256) fine in
    and_from _ _ (go (slice_get few number) refl there) rest
  where
    go : (o : Option Kind) → slice_get few number ≡ o → is_listed o count ≡ true → is_listed (slice_get many number) count ≡ true
    go None is there = cc
    go (Some one) is there = ap (λ o. is_listed o count) (held number one is) ∙ there
simple-held few many (simple.Scalarset number count) held fine =
    let (there, rest) = and_parts (is_scalarset (slice_get few number) count) (nat_lt 0 count && nat_le count 256) fine in
    and_from _ _ (go (slice_get few number) refl there) rest
  where
    go : (o : Option Kind) → slice_get few number ≡ o → is_scalarset o count ≡ true → is_scalarset (slice_get many number) count ≡ true
    go None is there = cc
    go (Some one) is there = ap (λ o. is_scalarset o count) (held number one is) ∙ there
simple-held few many simple.Node held fine = fine

mutual
  unfolding is_type

  type-held : (few many : List Kind) (type : AnyType) → Held few many → is_type few type ≡ true → is_type many type ≡ true
  type-held few many (t.Simple u) held fine = simple-held few many u held fine
  type-held few many (t.Record' shape fields) held fine = fields-held few many fields held fine
  type-held few many (ArrayForm index item) held fine =
      let (one, two) = and_parts (is_simple_type few index) (is_type few item) fine in
      and_from _ _ (simple-held few many index held one) (type-held few many item held two)

  fields-held : {n : _} (few many : List Kind) (fields : Row_of-Field n) → Held few many → are_fields few fields ≡ true → are_fields many fields ≡ true
  fields-held few many end_of-Field held fine = fine
  fields-held few many (more_of-Field name type rest) held fine =
      let (one, more) = and_parts (is_type few type) (not (is_some (row_field rest name)) && are_fields few rest) fine in
      let (alone, others) = and_parts (not (is_some (row_field rest name))) (are_fields few rest) more in
      and_from _ _ (type-held few many type held one) (and_from _ _ alone (fields-held few many rest held others))

name-held : (few many : List Kind) (globals : List Variable) (routines : List Routine) (m : Meaning) → Held few many → NameFits few globals routines m → NameFits many globals routines m
name-held few many globals routines meaning.Refused held h = absurd h
name-held few many globals routines (meaning.Constant n) held h = h
name-held few many globals routines (meaning.TypeName type) held h = type-held few many type held h
name-held few many globals routines (meaning.Variable (root.Global j) of) held h = (h.0, type-held few many of held h.1)
name-held few many globals routines (meaning.Variable (root.Local j) of) held h = absurd h
name-held few many globals routines (meaning.Variable (root.Formal j) of) held h = absurd h
name-held few many globals routines (meaning.Variable (root.Place j) of) held h = absurd h
name-held few many globals routines (meaning.Bound number over) held h = absurd h
name-held few many globals routines (meaning.Member number index count) held (names, is, long, below) = (names, held number (kind.Listed names) is, long, below)
name-held few many globals routines (meaning.Routine number) held h = h

-- a list is its front, and what is left of it
held-front : {A : Type 0} (xs ys : List A) → Held xs ys → Held ys (xs ++ drop (length xs) ys)
held-front [] ys held = λ i x e. e
held-front (x ∷ xs) [] held = λ i y e. let there = held zero x refl in cc
held-front (x ∷ xs) (y ∷ ys) held = go (held-front xs ys (λ i z e. held (suc i) z e))
  where
    go : Held ys (xs ++ drop (length xs) ys) → Held (y ∷ ys) (x ∷ xs ++ drop (length xs) ys)
    go rest zero z e = let first : Some y ≡ Some x = held zero x refl in sym first ∙ e
    go rest (suc i) z e = rest i z e

-- A global name means what it was declared as

variable-again : (T : Typed) (j : ℕ) (of : AnyType) (o : Option Variable) → slice_get T.globals j ≡ o → variable_type o ≡ Some of → is_type T.kinds of ≡ true → NameFits T.kinds T.globals T.routines (variable_meaning j o)
variable-again T j of None is there fine = cc
variable-again T j of (Some v) is there fine = (ap variable_type is, ap (is_type T.kinds) (some-same there) ∙ fine)

again : (T : Typed) (m : Meaning) → NameFits T.kinds T.globals T.routines m → NameFits T.kinds T.globals T.routines (global_meaning T (entity_of m))
again T meaning.Refused h = absurd h
again T (meaning.Constant n) h = h
again T (meaning.TypeName type) h = h
again T (meaning.Variable (root.Global j) of) h = variable-again T j of (slice_get T.globals j) refl h.0 h.1
again T (meaning.Variable (root.Local j) of) h = absurd h
again T (meaning.Variable (root.Formal j) of) h = absurd h
again T (meaning.Variable (root.Place j) of) h = absurd h
again T (meaning.Bound number over) h = absurd h
again T (meaning.Member number index count) h = h
again T (meaning.Routine number) h = h

names-again : (T : Typed) (many : List Kind) (es : List Entry) → Held T.kinds many → Each (λ (e : Entry). NameFits T.kinds T.globals T.routines e.what) es
    → Each (λ (e : Entry). NameFits many T.globals T.routines e.what) (map (λ (n : Declared). entry n.name (global_meaning T n.what)) (map declared_name es))
names-again T many [] held u = tt
names-again T many (e ∷ es) held u = (name-held T.kinds many T.globals T.routines (global_meaning T (entity_of e.what)) held (again T e.what u.0), names-again T many es held u.1)

pub lemmas : LemmasAreWellTyped
lemmas node P body spelled fine written none =
    let T = typed_text node P in
    let F = lemma_found T body in
    let more = drop (length T.kinds) F.known.kinds in
    let kinds = T.kinds ++ more in
    let W : well.Scope = inside (with_kinds T more) [] [] in
    let g = found-grown lemma_scope (known_of T) body in
    let held : Held F.known.kinds kinds = held-front T.kinds F.known.kinds g.kinds in
    let (clear, rest) = nil-parts F.faults (repeats (global_names T) (enum_names body) ++ (field_repeats body ++ weight_faults_of (place_of body) F)) none in
    let (names, last) = nil-parts (repeats (global_names T) (enum_names body)) (field_repeats body ++ weight_faults_of (place_of body) F) rest in
    let once = (nil-parts (field_repeats body) (weight_faults_of (place_of body) F) last).0 in
    let fits : Fits W lemma_scope (known_of T) =
    record {
      inner = tt;
      names = names-again T kinds (items_of node P).known.names (held-more T.kinds more) ((items node P spelled fine).names);
      routines = refl;
      function = refl;
      bound = refl;
      formals = functions node P spelled fine;
    } in
    let u = wanted-value W body is_truth (place_of body) (found lemma_scope (known_of T) body) truth-only (λ clear. found-fits W lemma_scope (known_of T) body fits written once held clear) clear in
    and_from _ _ refl (is-of W simple.Truth F u)
