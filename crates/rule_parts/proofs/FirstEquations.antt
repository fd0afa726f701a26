-- The first designator that writes a slot, layer by layer.
use Rattle.std.proofs.Common.{◌≡◌, ℕ, List, Option, None, refl}
use Rattle.std.specs.declared.rc.Rc.{Rc}
use Rattle.std.specs.declared.alloc.Global.{Global}
use Rattle.term_core.specs.declared.term.Term.{Term}
use Rattle.rule_parts.specs.declared.place.Spot.{Spot as HeldSpot}
use Rattle.rule_parts.specs.declared.layer.Layer as l
use Rattle.rule_parts.specs.declared.layer.Layer.{Layer, the_lemmas}
use Rattle.rule_parts.specs.declared.layer.Shown as s
use Rattle.rule_parts.specs.declared.layer.Given as g
use Rattle.rule_inline.specs.Tables.{Slot, or_else}
use Rattle.rule_parts.specs.Seen.{seen_spot}
use Rattle.rule_parts.specs.Layers.{written_first, left_first, if_family, if_own_axis, first_of}

pub first-First : (frame : ℕ) (slot : Slot) → first_of (l.First frame) slot ≡ None
unfolding first_of
first-First frame slot = refl

pub first-Under : (frame : ℕ) (before : Rc Layer Global) (slot : Slot) → first_of (l.Under frame before) slot ≡ None
unfolding first_of
first-Under frame before slot = refl

pub first-Nothing : (before : Rc Layer Global) (slot : Slot) → first_of (l.Nothing before) slot ≡ None
unfolding first_of
first-Nothing before slot = refl

pub first-Then : (first second : Rc Layer Global) (slot : Slot) → first_of (l.Then first second) slot ≡ or_else (first_of first.value slot) (first_of second.value slot)
unfolding first_of
first-Then first second slot = refl

pub first-Written : (frame : ℕ) (before : Rc Layer Global) (spot : HeldSpot) (new : s.Shown) (slot : Slot) → first_of (l.Written frame before spot new) slot ≡ written_first frame (seen_spot spot) slot
unfolding first_of
first-Written frame before spot new slot = refl

pub first-Left : (before : Rc Layer Global) (result : Option Term) (slot : Slot) → first_of (l.Left before result) slot ≡ left_first result slot
unfolding first_of
first-Left before result slot = refl

pub first-Branch : (frame : ℕ) (test : Term) (taken other : Rc Layer Global) (slot : Slot) → first_of (l.Branch frame test taken other) slot ≡ or_else (first_of taken.value slot) (first_of other.value slot)
unfolding first_of
first-Branch frame test taken other slot = refl

pub first-Chosen : (before chain : Rc Layer Global) (slot : Slot) → first_of (l.Chosen before chain) slot ≡ first_of chain.value slot
unfolding first_of
first-Chosen before chain slot = refl

pub first-Kept : (frame : ℕ) (before after : Rc Layer Global) (slot : Slot) → first_of (l.Kept frame before after) slot ≡ first_of after.value slot
unfolding first_of
first-Kept frame before after slot = refl

pub first-Closed : (frame : ℕ) (before body : Rc Layer Global) (slot : Slot) → first_of (l.Closed frame before body) slot ≡ if_own_axis frame (first_of body.value slot)
unfolding first_of
first-Closed frame before body slot = refl

pub first-Entered : (depth : ℕ) (given : List g.Given) (before : Rc Layer Global) (slot : Slot) → first_of (l.Entered depth given before) slot ≡ None
unfolding first_of
first-Entered depth given before slot = refl

pub first-Back : (before body : Rc Layer Global) (slot : Slot) → first_of (l.Back before body) slot ≡ if_family slot (first_of body.value slot)
unfolding first_of
first-Back before body slot = refl

pub ruleset firsts = (first-First, first-Under, first-Nothing, first-Then, first-Written, first-Left, first-Branch, first-Chosen, first-Kept, first-Closed, first-Entered, first-Back, the_lemmas)
