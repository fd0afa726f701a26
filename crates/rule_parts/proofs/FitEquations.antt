-- How a family lies under a place, in terms of the parts that code reads.
use Rattle.std.proofs.Common.{◌≡◌, ℕ, zero, suc, ◌+◌, ◌<◌, ◌≤◌, Bool, true, false, List, [], ◌∷◌, ◌++◌, map, drop, length, Option, None, Some, refl, sym, ap, ◌∙◌, arith, append_assoc, append-nil}
use Rattle.std.specs.Prelude.{slice_get, option_map, option_and_then, if◌then◌else◌}
use Rattle.std.specs.Str.{bytes_eq}
use Rattle.term_core.specs.declared.value.Value.{Value}
use Rattle.term_core.specs.declared.term.Term as t
use Rattle.term_core.specs.declared.term.Term.{Term}
use Rattle.term_core.specs.Substitution.{lifted}
use Rattle.murphi_typed.specs.Families.{Path}
use Rattle.murphi_typed.specs.Store.{Owner, same_owner, beyond}
use Rattle.rule_inline.specs.Tables.{Key, holes, Index, Axis, Among, Spot, Match, on_axis, on_value, matched}
use Rattle.rule_parts.specs.declared.place.Index.{Index as HeldIndex}
use Rattle.rule_parts.specs.Seen.{seen_index}
use Rattle.rule_parts.specs.Steps.{no_match, axis_matched, value_matched, step_match, matched_to, matched_on, fit_with, fitted}
use Rattle.rule_parts.proofs.ListLemmas.{mapped_joined, after_after, nothing_after, drop_end, drop_at}

pub got_none : {A : Type 0} (xs : List A) (n : ℕ) → slice_get xs n ≡ None → drop n xs ≡ []
got_none [] zero e = refl
got_none [] (suc n) e = refl
got_none (x ∷ xs) zero e = cc
got_none (x ∷ xs) (suc n) e = got_none xs n e

-- the front of a list

pub beyond_at : (front all : Path) (at : ℕ) (p q : List ℕ) → slice_get front at ≡ Some p → slice_get all at ≡ Some q → beyond bytes_eq (drop at front) (drop at all) ≡ (if bytes_eq p q then beyond bytes_eq (drop (at + 1) front) (drop (at + 1) all) else None)
beyond_at front all at p q e f = ap (λ xs. beyond bytes_eq xs (drop at all)) (drop_at front at p e) ∙ ap (λ ys. beyond bytes_eq (p ∷ drop (at + 1) front) ys) (drop_at all at q f)

missing : (front : Path) (at : ℕ) → at < length front → beyond bytes_eq (drop at front) [] ≡ None
missing [] at e = absurd (omega (arith, e))
missing (x ∷ front) zero e = refl
missing (x ∷ front) (suc at) e = missing front at (omega (arith, e))

pub beyond_out : (front all : Path) (at : ℕ) → at < length front → length all ≤ at → beyond bytes_eq (drop at front) (drop at all) ≡ None
beyond_out front all at e f = ap (beyond bytes_eq (drop at front)) (drop_end all at f) ∙ missing front at e

pub beyond_end : (front all : Path) (at : ℕ) → length front ≤ at → beyond bytes_eq (drop at front) (drop at all) ≡ Some (drop at all)
beyond_end front all at e = ap (λ xs. beyond bytes_eq xs (drop at all)) (drop_end front at e)

pub beyond_long : (front all : Path) → length all < length front → beyond bytes_eq front all ≡ None
beyond_long [] all e = absurd (omega (arith, e))
beyond_long (x ∷ front) [] e = refl
beyond_long (x ∷ front) (y ∷ all) e = go (bytes_eq x y) (beyond_long front all (omega (arith, e)))
  where
    go : (b : Bool) → beyond bytes_eq front all ≡ None → (if b then beyond bytes_eq front all else None) ≡ None
    go true h = h
    go false h = refl

-- matches

abbrev match_on : Match → Match → Match
match_on m n = record { tests = m.tests ++ n.tests; sames = m.sames ++ n.sames; count = m.count + n.count; rest = n.rest }

axis_one : (lift : Term → Term) (frame : ℕ) (m : Match) (index : Term) (o : Option Match) → option_map (match_on (axis_matched lift frame m index)) o ≡ option_map (match_on m) (option_map (on_axis (frame + m.count) (lift index)) o)
axis_one lift frame m index None = refl
axis_one lift frame m index (Some n) =
    let count : (m.count + 1) + n.count ≡ m.count + suc n.count = omega arith in
    ap (λ ss. Some (record { tests = m.tests ++ n.tests; sames = ss; count = (m.count + 1) + n.count; rest = n.rest })) (append_assoc m.sames (t.Same (t.Var (frame + m.count)) (lift index) ∷ []) n.sames)
    ∙ ap (λ k. Some (record { tests = m.tests ++ n.tests; sames = m.sames ++ t.Same (t.Var (frame + m.count)) (lift index) ∷ n.sames; count = k; rest = n.rest })) count

value_one : (lift : Term → Term) (m : Match) (index : Term) (v : Value) (o : Option Match) → option_map (match_on (value_matched lift m index v)) o ≡ option_map (match_on m) (option_map (on_value (lift index) v) o)
value_one lift m index v None = refl
value_one lift m index v (Some n) =
    ap (λ ts. Some (record { tests = ts; sames = m.sames ++ n.sames; count = m.count + n.count; rest = n.rest })) (append_assoc m.tests (t.Same (lift index) (t.Known v) ∷ []) n.tests)

matched_after : (lift : Term → Term) (frame : ℕ) (m : Match) (at : List Index) (key : Key) → matched_to lift frame m at key ≡ option_map (match_on m) (matched lift (frame + m.count) at key)
matched_after lift frame m [] key =
    let count : m.count ≡ m.count + 0 = omega arith in
    ap (λ ts. Some (record { tests = ts; sames = m.sames; count = m.count; rest = key })) (sym (append-nil m.tests))
    ∙ ap (λ ss. Some (record { tests = m.tests ++ []; sames = ss; count = m.count; rest = key })) (sym (append-nil m.sames))
    ∙ ap (λ k. Some (record { tests = m.tests ++ []; sames = m.sames ++ []; count = k; rest = key })) count
matched_after lift frame m (Axis mark index ∷ at) [] = refl
matched_after lift frame m (Axis mark index ∷ at) (Some v ∷ key) = refl
matched_after lift frame m (Axis mark index ∷ at) (None ∷ key) =
    let next : frame + (m.count + 1) ≡ suc (frame + m.count) = omega arith in
    matched_after lift frame (axis_matched lift frame m index) at key
    ∙ ap (λ k. option_map (match_on (axis_matched lift frame m index)) (matched lift k at key)) next
    ∙ axis_one lift frame m index (matched lift (suc (frame + m.count)) at key)
matched_after lift frame m (Among vs index ∷ at) [] = refl
matched_after lift frame m (Among vs index ∷ at) (None ∷ key) = refl
matched_after lift frame m (Among vs index ∷ at) (Some v ∷ key) =
    matched_after lift frame (value_matched lift m index v) at key
    ∙ value_one lift m index v (matched lift (frame + m.count) at key)

alone : (o : Option Match) → option_map (match_on no_match) o ≡ o
alone None = refl
alone (Some n) = let e : 0 + n.count ≡ n.count = omega arith in ap (λ k. Some (record { tests = n.tests; sames = n.sames; count = k; rest = n.rest })) e

pub matched_first : (lift : Term → Term) (frame : ℕ) (at : List Index) (key : Key) → matched_to lift frame no_match at key ≡ matched lift frame at key
matched_first lift frame at key =
    let start : frame + 0 ≡ frame = omega arith in
    matched_after lift frame no_match at key ∙ ap (λ k. option_map (match_on no_match) (matched lift k at key)) start ∙ alone (matched lift frame at key)

one_step : (lift : Term → Term) (frame : ℕ) (m : Match) (x : Index) (p : Option Value) (at : List Index) (key : Key) → matched_to lift frame m (x ∷ at) (p ∷ key) ≡ matched_on lift frame (step_match lift frame m x p) at key
one_step lift frame m (Axis mark index) None at key = refl
one_step lift frame m (Axis mark index) (Some v) at key = refl
one_step lift frame m (Among vs index) None at key = refl
one_step lift frame m (Among vs index) (Some v) at key = refl

pub matched_at : (lift : Term → Term) (frame : ℕ) (m : Match) (at : List HeldIndex) (key : Key) (i : ℕ) (x : HeldIndex) (p : Option Value) → slice_get at i ≡ Some x → slice_get key i ≡ Some p → matched_to lift frame m (map seen_index (drop i at)) (drop i key) ≡ matched_on lift frame (step_match lift frame m (seen_index x) p) (map seen_index (drop (i + 1) at)) (drop (i + 1) key)
matched_at lift frame m at key i x p e f =
    ap (λ xs. matched_to lift frame m (map seen_index xs) (drop i key)) (drop_at at i x e)
    ∙ ap (λ ps. matched_to lift frame m (seen_index x ∷ map seen_index (drop (i + 1) at)) ps) (drop_at key i p f)
    ∙ one_step lift frame m (seen_index x) p (map seen_index (drop (i + 1) at)) (drop (i + 1) key)

missing_part : (lift : Term → Term) (frame : ℕ) (m : Match) (at : List HeldIndex) (i : ℕ) → i < length at → matched_to lift frame m (map seen_index (drop i at)) [] ≡ None
missing_part lift frame m [] i e = absurd (omega (arith, e))
missing_part lift frame m (x ∷ at) zero e = short (seen_index x) (map seen_index at)
  where
    short : (y : Index) (ys : List Index) → matched_to lift frame m (y ∷ ys) [] ≡ None
    short (Axis mark index) ys = refl
    short (Among vs index) ys = refl
missing_part lift frame m (x ∷ at) (suc i) e = missing_part lift frame m at i (omega (arith, e))

pub matched_none : (lift : Term → Term) (frame : ℕ) (m : Match) (at : List HeldIndex) (key : Key) (i : ℕ) → i < length at → slice_get key i ≡ None → matched_to lift frame m (map seen_index (drop i at)) (drop i key) ≡ None
matched_none lift frame m at key i e f = ap (λ ps. matched_to lift frame m (map seen_index (drop i at)) ps) (got_none key i f) ∙ missing_part lift frame m at i e

pub matched_end : (lift : Term → Term) (frame : ℕ) (m : Match) (at : List HeldIndex) (key : Key) (i : ℕ) → length at ≤ i → matched_to lift frame m (map seen_index (drop i at)) key ≡ Some (record m { rest = key })
matched_end lift frame m at key i e = ap (λ xs. matched_to lift frame m (map seen_index xs) key) (drop_end at i e)

-- the whole

pub fit_apart : (frame : ℕ) (spot : Spot) (owner : Owner) (path : Path) (key : Key) → same_owner owner spot.owner ≡ false → fitted frame spot owner path key ≡ None
fit_apart frame spot owner path key e = ap (λ b. if b then option_and_then (λ further. option_map (fit_with further) (matched (lifted frame (holes key)) frame spot.at key)) (beyond bytes_eq spot.path path) else None) e

pub fit_under : (frame : ℕ) (spot : Spot) (owner : Owner) (path : Path) (key : Key) (o : Option Path) → same_owner owner spot.owner ≡ true → beyond bytes_eq spot.path path ≡ o → fitted frame spot owner path key ≡ option_and_then (λ further. option_map (fit_with further) (matched (lifted frame (holes key)) frame spot.at key)) o
fit_under frame spot owner path key o e f =
    ap (λ b. if b then option_and_then (λ further. option_map (fit_with further) (matched (lifted frame (holes key)) frame spot.at key)) (beyond bytes_eq spot.path path) else None) e
    ∙ ap (option_and_then (λ further. option_map (fit_with further) (matched (lifted frame (holes key)) frame spot.at key))) f

pub ruleset fits = (mapped_joined, after_after, nothing_after, drop_end, beyond_at, beyond_out, beyond_end, beyond_long, matched_first, matched_at, matched_none, matched_end, fit_apart, fit_under)
