-- The terms of slots, layer by layer.
use Rattle.std.proofs.Common.{◌≡◌, ℕ, Bool, true, false, List, [], ◌∷◌, map, zero, suc, Option, None, Some, refl, ap, ◌∙◌}
use Rattle.std.specs.Prelude.{slice_get, nat_eq, is_some, unwrap_or, option_map, option_and_then, if◌then◌else◌}
use Rattle.std.specs.Option.{option_map_or}
use Rattle.std.specs.Str.{bytes_eq}
use Rattle.term_core.specs.declared.term.Term as t
use Rattle.term_core.specs.Substitution.{lifted}
use Rattle.murphi_typed.specs.declared.types.AnyType.{AnyType}
use Rattle.murphi_typed.specs.Families.{Path}
use Rattle.murphi_typed.specs.Store.{Owner, same_owner, beyond}
use Rattle.std.specs.declared.rc.Rc.{Rc}
use Rattle.std.specs.declared.alloc.Global.{Global}
use Rattle.term_core.specs.declared.term.Term.{Term}
use Rattle.rule_parts.specs.declared.place.Spot.{Spot as HeldSpot}
use Rattle.rule_parts.specs.declared.layer.Layer as l
use Rattle.rule_parts.specs.declared.layer.Layer.{Layer, the_lemmas}
use Rattle.rule_parts.specs.declared.layer.Shown as s
use Rattle.rule_parts.specs.declared.layer.Given as g
use Rattle.rule_parts.specs.declared.layer.Layer.{Row_of-Given, end_of-Given, more_of-Given, items-the_row-Given, items_hidden-the_row-Given-0}
use Rattle.rule_parts.specs.declared.layer.Given.TheBlock.{hidden-the_row-Given-0}
use Rattle.rule_parts.specs.declared.place.Owner.{Owner as HeldOwner}
use Rattle.rule_parts.specs.declared.place.Owner.TheVariants as owner
use Rattle.rule_parts.specs.declared.now.Own.TheVariants as own
use Rattle.rule_parts.specs.Seen.{seen_owner, seen_spot}
use Rattle.rule_parts.specs.Steps.{fit_with, chained}
use Rattle.rule_parts.specs.Layers.{givens, left_change, seen_layer, seen_shown, seen_given, row_given, new_if_fit, new_or_old, marks_if_fit, written_first, left_first, left_term, if_family, if_own_axis, first_of, own_variable, read_entry}
use Rattle.rule_inline.specs.Tables.{Key, holes, Slot, Family, Leaving, Result, axes, Terms, marks_of, axis_in, Spot, Entry, chain_of, shown_at, Shown, Match, matched, renewed_term, new_terms, Change, or_else, closed}
use Rattle.rule_inline.specs.Parts.{Given, Filled, Standing, undefined}
use Rattle.rule_inline.specs.Bodies.{cleared, given_terms, entered, back, back_first}
use Rattle.rule_inline.specs.Machine.{CellsOf, first_terms}
use Rattle.rule_parts.proofs.LayerWeights.{weight-Under, weight-Nothing, weight-Then, weight-Written, weight-Left, weight-Branch, weight-Chosen, weight-Kept, weight-Closed, weight-Entered, weight-Back, weight-At, weight-Filled, in_givens}
use Rattle.rule_parts.proofs.ListLemmas.{mapped_joined, after_after, nothing_after}

pub got_mapped : {A B : Type 0} (f : A → B) (xs : List A) (k : ℕ) → slice_get (map f xs) k ≡ option_map f (slice_get xs k)
got_mapped f [] k = refl
got_mapped f (x ∷ xs) zero = refl
got_mapped f (x ∷ xs) (suc k) = got_mapped f xs k

-- what is written

module _ (frame : ℕ) (spot : Spot) (new : Shown) (T : Terms) where
  once : (b : Bool) (o : Option Path) (owner : Owner) (path : Path) (key : Key)
      → unwrap_or (if b then option_and_then (λ further. option_map (renewed_term frame new further (T (Family owner path key))) (matched (lifted frame (holes key)) frame spot.at key)) o else None) (T (Family owner path key))
      ≡ new_if_fit frame new (T (Family owner path key)) (if b then option_and_then (λ further. option_map (fit_with further) (matched (lifted frame (holes key)) frame spot.at key)) o else None)
  once false o owner path key = refl
  once true None owner path key = refl
  once true (Some further) owner path key = go (matched (lifted frame (holes key)) frame spot.at key)
    where
      go : (m : Option Match) → unwrap_or (option_map (renewed_term frame new further (T (Family owner path key))) m) (T (Family owner path key)) ≡ new_if_fit frame new (T (Family owner path key)) (option_map (fit_with further) m)
      go None = refl
      go (Some m) = refl

  written_is : (slot : Slot) → unwrap_or (new_terms frame T spot new slot) (T slot) ≡ new_or_old frame spot new slot (T slot)
  written_is (Family owner path key) = once (same_owner owner spot.owner) (beyond bytes_eq spot.path path) owner path key
  written_is Leaving = refl
  written_is Result = refl

  marked : (b : Bool) (o : Option Path) (owner : Owner) (path : Path) (key : Key)
      → option_map (λ _. marks_of spot.at) (if b then option_and_then (λ further. option_map (renewed_term frame new further (T (Family owner path key))) (matched (lifted frame (holes key)) frame spot.at key)) o else None)
      ≡ marks_if_fit spot (if b then option_and_then (λ further. option_map (fit_with further) (matched (lifted frame (holes key)) frame spot.at key)) o else None)
  marked false o owner path key = refl
  marked true None owner path key = refl
  marked true (Some further) owner path key = go (matched (lifted frame (holes key)) frame spot.at key)
    where
      go : (m : Option Match) → option_map (λ _. marks_of spot.at) (option_map (renewed_term frame new further (T (Family owner path key))) m) ≡ marks_if_fit spot (option_map (fit_with further) m)
      go None = refl
      go (Some m) = refl

  marked_is : (slot : Slot) → option_map (λ _. marks_of spot.at) (new_terms frame T spot new slot) ≡ written_first frame spot slot
  marked_is (Family owner path key) = marked (same_owner owner spot.owner) (beyond bytes_eq spot.path path) owner path key
  marked_is Leaving = refl
  marked_is Result = refl

left_is : (T : Terms) (of : Option Term) (slot : Slot) → (left_change T of).now slot ≡ left_term of slot (T slot)
left_is T None (Family owner path key) = refl
left_is T None Leaving = refl
left_is T None Result = refl
left_is T (Some e) (Family owner path key) = refl
left_is T (Some e) Leaving = refl
left_is T (Some e) Result = refl

left_first_is : (T : Terms) (of : Option Term) (slot : Slot) → (left_change T of).first slot ≡ left_first of slot
left_first_is T None (Family owner path key) = refl
left_first_is T None Leaving = refl
left_first_is T None Result = refl
left_first_is T (Some e) (Family owner path key) = refl
left_first_is T (Some e) Leaving = refl
left_first_is T (Some e) Result = refl

back_is : (slot : Slot) (body : Change) → back_first body slot ≡ if_family slot (body.first slot)
back_is (Family owner path key) body = refl
back_is Leaving body = refl
back_is Result body = refl

-- what is written first does not depend on the terms
pub firsts_are : (fs : List CellsOf) (x : Layer) (slot : Slot) → (seen_layer x fs).first slot ≡ first_of x slot
unfolding seen_layer first_of
firsts_are fs (l.First frame) slot = refl
firsts_are fs (l.Under' frame _ before) slot = refl
firsts_are fs (l.Nothing' _ before) slot = refl
firsts_are fs (l.Then' _ first _ second) slot = ap (λ o. or_else o ((seen_layer second fs).first slot)) (firsts_are fs first slot) ∙ ap (or_else (first_of first slot)) (firsts_are fs second slot)
firsts_are fs (l.Written' frame _ before spot new) slot = marked_is frame (seen_spot spot) (seen_shown new fs) (seen_layer before fs).now slot
firsts_are fs (l.Left' _ before result) slot = left_first_is (seen_layer before fs).now result slot
firsts_are fs (l.Branch' frame test _ taken _ other) slot = ap (λ o. or_else o ((seen_layer other fs).first slot)) (firsts_are fs taken slot) ∙ ap (or_else (first_of taken slot)) (firsts_are fs other slot)
firsts_are fs (l.Chosen' _ before _ chain) slot = firsts_are fs chain slot
firsts_are fs (l.Kept' frame _ before _ after) slot = firsts_are fs after slot
firsts_are fs (l.Closed' frame _ before _ body) slot = ap (if_own_axis frame) (firsts_are fs body slot)
firsts_are fs (l.Entered' depth _ given _ before) slot = refl
firsts_are fs (l.Back' _ before _ body) slot = back_is slot (seen_layer body fs) ∙ ap (if_family slot) (firsts_are fs body slot)

row_given_is : {n : _} (fs : List CellsOf) (row : Row_of-Given n) → row_given row fs ≡ givens fs (items-the_row-Given n row)
unfolding seen_layer
row_given_is fs end_of-Given = refl
row_given_is fs (more_of-Given first rest) = ap (λ gs. seen_given first fs ∷ gs) (row_given_is fs rest)

pub now-First : (fs : List CellsOf) (frame : ℕ) (slot : Slot) → (seen_layer (l.First frame) fs).now slot ≡ first_terms fs frame slot
unfolding seen_layer
now-First fs frame slot = refl

pub now-Under : (fs : List CellsOf) (frame : ℕ) (before : Rc Layer Global) (slot : Slot) → (seen_layer (l.Under frame before) fs).now slot ≡ lifted frame 1 ((seen_layer before.value fs).now slot)
unfolding seen_layer
now-Under fs frame before slot = refl

pub now-Nothing : (fs : List CellsOf) (before : Rc Layer Global) (slot : Slot) → (seen_layer (l.Nothing before) fs).now slot ≡ (seen_layer before.value fs).now slot
unfolding seen_layer
now-Nothing fs before slot = refl

pub now-Then : (fs : List CellsOf) (first second : Rc Layer Global) (slot : Slot) → (seen_layer (l.Then first second) fs).now slot ≡ (seen_layer second.value fs).now slot
unfolding seen_layer
now-Then fs first second slot = refl

pub now-Left : (fs : List CellsOf) (before : Rc Layer Global) (result : Option Term) (slot : Slot) → (seen_layer (l.Left before result) fs).now slot ≡ left_term result slot ((seen_layer before.value fs).now slot)
unfolding seen_layer
now-Left fs before result slot = left_is (seen_layer before.value fs).now result slot

pub now-Branch : (fs : List CellsOf) (frame : ℕ) (test : Term) (taken other : Rc Layer Global) (slot : Slot) → (seen_layer (l.Branch frame test taken other) fs).now slot ≡ t.If (lifted frame (axes slot) test) ((seen_layer taken.value fs).now slot) ((seen_layer other.value fs).now slot)
unfolding seen_layer
now-Branch fs frame test taken other slot = refl

pub now-Entered : (fs : List CellsOf) (depth : ℕ) (given : List g.Given) (before : Rc Layer Global) (slot : Slot) → (seen_layer (l.Entered depth given before) fs).now slot ≡ entered depth (givens fs given) (seen_layer before.value fs).now slot
unfolding seen_layer
now-Entered fs depth given before slot = ap (λ gs. entered depth gs (seen_layer before.value fs).now slot) (row_given_is fs (hidden-the_row-Given-0 given) ∙ ap (givens fs) (items_hidden-the_row-Given-0 given))

pub now-Back : (fs : List CellsOf) (before body : Rc Layer Global) (slot : Slot) → (seen_layer (l.Back before body) fs).now slot ≡ back (seen_layer before.value fs).now (seen_layer body.value fs) slot
unfolding seen_layer
now-Back fs before body slot = refl

pub now-Written : (fs : List CellsOf) (frame : ℕ) (before : Rc Layer Global) (spot : HeldSpot) (new : s.Shown) (slot : Slot) → (seen_layer (l.Written frame before spot new) fs).now slot ≡ new_or_old frame (seen_spot spot) (seen_shown new fs) slot ((seen_layer before.value fs).now slot)
unfolding seen_layer
now-Written fs frame before spot new slot = written_is frame (seen_spot spot) (seen_shown new fs) (seen_layer before.value fs).now slot

pub now-Chosen : (fs : List CellsOf) (before chain : Rc Layer Global) (slot : Slot) → (seen_layer (l.Chosen before chain) fs).now slot ≡ (if is_some (first_of chain.value slot) then (seen_layer chain.value fs).now slot else (seen_layer before.value fs).now slot)
unfolding seen_layer
now-Chosen fs before chain slot = ap (λ o. if is_some o then (seen_layer chain.value fs).now slot else (seen_layer before.value fs).now slot) (firsts_are fs chain.value slot)

pub now-Kept : (fs : List CellsOf) (frame : ℕ) (before after : Rc Layer Global) (slot : Slot) → (seen_layer (l.Kept frame before after) fs).now slot ≡ (if is_some (first_of after.value slot) then t.If (lifted frame (axes slot) ((seen_layer before.value fs).now Leaving)) ((seen_layer before.value fs).now slot) ((seen_layer after.value fs).now slot) else (seen_layer after.value fs).now slot)
unfolding seen_layer
now-Kept fs frame before after slot = ap (λ o. if is_some o then t.If (lifted frame (axes slot) ((seen_layer before.value fs).now Leaving)) ((seen_layer before.value fs).now slot) ((seen_layer after.value fs).now slot) else (seen_layer after.value fs).now slot) (firsts_are fs after.value slot)

pub now-Closed : (fs : List CellsOf) (frame : ℕ) (before body : Rc Layer Global) (slot : Slot) → (seen_layer (l.Closed frame before body) fs).now slot ≡ option_map_or (λ k. closed frame (axes slot) k ((seen_layer body.value fs).now slot)) (option_and_then (axis_in frame) (first_of body.value slot)) ((seen_layer before.value fs).now slot)
unfolding seen_layer
now-Closed fs frame before body slot = ap (λ o. option_map_or (λ k. closed frame (axes slot) k ((seen_layer body.value fs).now slot)) (option_and_then (axis_in frame) o) ((seen_layer before.value fs).now slot)) (firsts_are fs body.value slot)

pub shown-Only : (fs : List CellsOf) (frame : ℕ) (term : Term) (path : Path) (key : Key) → seen_shown (s.Only frame term) fs path key ≡ lifted frame (holes key) term
unfolding seen_layer
shown-Only fs frame term path key = refl

pub shown-At : (fs : List CellsOf) (frame : ℕ) (from : Rc Layer Global) (spot : HeldSpot) (path : Path) (key : Key) → seen_shown (s.At frame from spot) fs path key ≡ shown_at frame (seen_layer from.value fs).now (seen_spot spot) path key
unfolding seen_layer
shown-At fs frame from spot path key = refl

pub shown-Cleared : (fs : List CellsOf) (of : AnyType) (path : Path) (key : Key) → seen_shown (s.Cleared of) fs path key ≡ cleared of path key
unfolding seen_layer
shown-Cleared fs of path key = refl

pub shown-Undefined : (fs : List CellsOf) (path : Path) (key : Key) → seen_shown s.Undefined fs path key ≡ undefined
unfolding seen_layer
shown-Undefined fs path key = refl

pub given-Filled : (fs : List CellsOf) (mark : Option ℕ) (plain : Bool) (shown : Rc s.Shown Global) → seen_given (g.Filled mark plain shown) fs ≡ Filled mark plain (seen_shown shown.value fs)
unfolding seen_layer
given-Filled fs mark plain shown = refl

pub given-Standing : (fs : List CellsOf) (spot : HeldSpot) → seen_given (g.Standing spot) fs ≡ Standing (seen_spot spot)
unfolding seen_layer
given-Standing fs spot = refl

-- the entry of a body

pub entered_other : (depth : ℕ) (gs : List Given) (T : Terms) (o : HeldOwner) (path : Path) (key : Key) → own_variable depth o ≡ own.Other → entered depth gs T (Family (seen_owner o) path key) ≡ T (Family (seen_owner o) path key)
entered_other depth gs T (owner.Global k) path key e = refl
entered_other depth gs T (owner.Local of k) path key e = go (nat_eq of depth) e
  where
    go : (b : Bool) → (if b then own.Local else own.Other) ≡ own.Other → (if b then undefined else T (Family (seen_owner (owner.Local of k)) path key)) ≡ T (Family (seen_owner (owner.Local of k)) path key)
    go true e = cc
    go false e = refl
entered_other depth gs T (owner.Formal of k) path key e = go (nat_eq of depth) e
  where
    go : (b : Bool) → (if b then own.Formal k else own.Other) ≡ own.Other → (if b then given_terms (slice_get gs k) path key else T (Family (seen_owner (owner.Formal of k)) path key)) ≡ T (Family (seen_owner (owner.Formal of k)) path key)
    go true e = cc
    go false e = refl

pub entered_local : (depth : ℕ) (gs : List Given) (T : Terms) (o : HeldOwner) (path : Path) (key : Key) → own_variable depth o ≡ own.Local → entered depth gs T (Family (seen_owner o) path key) ≡ undefined
entered_local depth gs T (owner.Global k) path key e = cc
entered_local depth gs T (owner.Local of k) path key e = go (nat_eq of depth) e
  where
    go : (b : Bool) → (if b then own.Local else own.Other) ≡ own.Local → (if b then undefined else T (Family (seen_owner (owner.Local of k)) path key)) ≡ undefined
    go true e = refl
    go false e = cc
entered_local depth gs T (owner.Formal of k) path key e = go (nat_eq of depth) e
  where
    go : (b : Bool) → (if b then own.Formal k else own.Other) ≡ own.Local → (if b then given_terms (slice_get gs k) path key else T (Family (seen_owner (owner.Formal of k)) path key)) ≡ undefined
    go true e = cc
    go false e = cc

pub entered_formal : (depth : ℕ) (gs : List Given) (T : Terms) (o : HeldOwner) (path : Path) (key : Key) (j : ℕ) → own_variable depth o ≡ own.Formal j → entered depth gs T (Family (seen_owner o) path key) ≡ given_terms (slice_get gs j) path key
entered_formal depth gs T (owner.Global k) path key j e = cc
entered_formal depth gs T (owner.Local of k) path key j e = go (nat_eq of depth) e
  where
    go : (b : Bool) → (if b then own.Local else own.Other) ≡ own.Formal j → (if b then undefined else T (Family (seen_owner (owner.Local of k)) path key)) ≡ given_terms (slice_get gs j) path key
    go true e = cc
    go false e = cc
entered_formal depth gs T (owner.Formal of k) path key j e = go (nat_eq of depth) e
  where
    go : (b : Bool) → (if b then own.Formal k else own.Other) ≡ own.Formal j → (if b then given_terms (slice_get gs k) path key else T (Family (seen_owner (owner.Formal of k)) path key)) ≡ given_terms (slice_get gs j) path key
    go true e = let h : k ≡ j = cc in ap (λ i. given_terms (slice_get gs i) path key) h
    go false e = cc

-- what is read

pub chained_reads : (frame : ℕ) (T : Terms) (spot : Spot) (path : Path) (key : Key) (es : List Entry) → chained (map (read_entry frame T spot path key) es) ≡ chain_of frame T spot path key es
chained_reads frame T spot path key [] = refl
chained_reads frame T spot path key (e ∷ []) = refl
chained_reads frame T spot path key (e ∷ f ∷ es) = ap (t.If (read_entry frame T spot path key e).test (read_entry frame T spot path key e).term) (chained_reads frame T spot path key (f ∷ es))

pub ruleset nows = (mapped_joined, after_after, nothing_after, got_mapped, now-First, now-Under, now-Nothing, now-Then, now-Written, now-Left, now-Branch, now-Chosen, now-Kept, now-Closed, now-Entered, now-Back, shown-Only, shown-At, shown-Cleared, shown-Undefined, given-Filled, given-Standing, entered_other, entered_local, entered_formal, chained_reads, weight-Under, weight-Nothing, weight-Then, weight-Written, weight-Left, weight-Branch, weight-Chosen, weight-Kept, weight-Closed, weight-Entered, weight-Back, weight-At, weight-Filled, in_givens, the_lemmas)
