-- Demands and layers, form by form, as this crate makes them.
use Rattle.std.proofs.Common.{◌≡◌, ℕ, Bool, true, false, List, [], ◌∷◌, ◌++◌, map, Option, None, Some, refl, ap, ◌∙◌}
use Rattle.std.specs.Prelude.{if◌then◌else◌}
use Rattle.std.specs.declared.rc.Rc.{Rc}
use Rattle.std.specs.declared.alloc.Global.{Global}
use Rattle.term_core.specs.declared.term.Term.{Term}
use Rattle.murphi_typed.specs.declared.types.AnyType.{AnyType}
use Rattle.rule_inline.specs.Demands.{demand, is_constant_false}
use Rattle.rule_inline.specs.Tables.{Terms, Leaving, Change, unchanged, and_then, under_variable, shown_at, only_term, written, over_nodes, unless_returned}
use Rattle.rule_inline.specs.Parts.{Site, Done}
use Rattle.rule_inline.specs.Bodies.{cleared, all_undefined, taken}
use Rattle.rule_inline.specs.Machine.{CellsOf}
use Rattle.rule_terms.specs.declared.demand.Demands as d
use Rattle.rule_terms.specs.Gathered.{seen_demands}
use Rattle.rule_parts.specs.declared.place.Spot.{Spot as HeldSpot}
use Rattle.rule_parts.specs.declared.layer.Layer as l
use Rattle.rule_parts.specs.declared.layer.Layer.{Layer}
use Rattle.rule_parts.specs.declared.layer.Shown as s
use Rattle.rule_parts.specs.Seen.{seen_spot}
use Rattle.rule_parts.specs.Layers.{left_change, branch_change, chosen_change, kept_change, back_change, seen_layer, seen_shown}

pub seen-Nothing : seen_demands d.Nothing ≡ []
unfolding seen_demands
seen-Nothing = refl

pub seen-One : (must : Term) → seen_demands (d.One must) ≡ demand must ∷ []
unfolding seen_demands
seen-One must = refl

pub layer-Under : (frame : ℕ) (before : Rc Layer Global) (fs : List CellsOf) → seen_layer (l.Under frame before) fs ≡ unchanged (under_variable frame (seen_layer before.value fs).now)
unfolding seen_layer
layer-Under frame before fs = refl

pub layer-Nothing : (before : Rc Layer Global) (fs : List CellsOf) → seen_layer (l.Nothing before) fs ≡ unchanged (seen_layer before.value fs).now
unfolding seen_layer
layer-Nothing before fs = refl

pub layer-Then : (first second : Rc Layer Global) (fs : List CellsOf) → seen_layer (l.Then first second) fs ≡ and_then (seen_layer first.value fs) (seen_layer second.value fs)
unfolding seen_layer
layer-Then first second fs = refl

pub layer-Written : (frame : ℕ) (before : Rc Layer Global) (spot : HeldSpot) (new : s.Shown) (fs : List CellsOf) → seen_layer (l.Written frame before spot new) fs ≡ written frame (seen_layer before.value fs).now (seen_spot spot) (seen_shown new fs)
unfolding seen_layer
layer-Written frame before spot new fs = refl

pub layer-Left : (before : Rc Layer Global) (of : Option Term) (fs : List CellsOf) → seen_layer (l.Left before of) fs ≡ left_change (seen_layer before.value fs).now of
unfolding seen_layer
layer-Left before of fs = refl

pub layer-Branch : (frame : ℕ) (test : Term) (taken other : Rc Layer Global) (fs : List CellsOf) → seen_layer (l.Branch frame test taken other) fs ≡ branch_change frame test (seen_layer taken.value fs) (seen_layer other.value fs)
unfolding seen_layer
layer-Branch frame test taken other fs = refl

pub layer-Chosen : (before chain : Rc Layer Global) (fs : List CellsOf) → seen_layer (l.Chosen before chain) fs ≡ chosen_change (seen_layer before.value fs).now (seen_layer chain.value fs)
unfolding seen_layer
layer-Chosen before chain fs = refl

pub layer-Kept : (frame : ℕ) (before after : Rc Layer Global) (fs : List CellsOf) → seen_layer (l.Kept frame before after) fs ≡ kept_change frame (seen_layer before.value fs).now (seen_layer after.value fs)
unfolding seen_layer
layer-Kept frame before after fs = refl

pub layer-Closed : (frame : ℕ) (before body : Rc Layer Global) (fs : List CellsOf) → seen_layer (l.Closed frame before body) fs ≡ over_nodes frame (seen_layer before.value fs).now (seen_layer body.value fs)
unfolding seen_layer
layer-Closed frame before body fs = refl

pub layer-Back : (before body : Rc Layer Global) (fs : List CellsOf) → seen_layer (l.Back before body) fs ≡ back_change (seen_layer before.value fs).now (seen_layer body.value fs)
unfolding seen_layer
layer-Back before body fs = refl

pub shown-Only : (frame : ℕ) (term : Term) (fs : List CellsOf) → seen_shown (s.Only frame term) fs ≡ only_term frame term
unfolding seen_layer
shown-Only frame term fs = refl

pub shown-At : (frame : ℕ) (from : Rc Layer Global) (spot : HeldSpot) (fs : List CellsOf) → seen_shown (s.At frame from spot) fs ≡ shown_at frame (seen_layer from.value fs).now (seen_spot spot)
unfolding seen_layer
shown-At frame from spot fs = refl

pub shown-Cleared : (of : AnyType) (fs : List CellsOf) → seen_shown (s.Cleared of) fs ≡ cleared of
unfolding seen_layer
shown-Cleared of fs = refl

pub shown-Undefined : (fs : List CellsOf) → seen_shown s.Undefined fs ≡ all_undefined
unfolding seen_layer
shown-Undefined fs = refl

-- what is done where no `return` was met before, and where one may have been

pub taken_straight : (site : Site) (T : Terms) (body : Done) → is_constant_false (T Leaving) ≡ true → taken site T body ≡ body
taken_straight site T body e = ap (λ b. record body { change = if b then body.change else kept_change site.frame T body.change }) e

pub taken_open : (site : Site) (T : Terms) (body : Done) → is_constant_false (T Leaving) ≡ false → taken site T body ≡ record body { change = kept_change site.frame T body.change }
taken_open site T body e = ap (λ b. record body { change = if b then body.change else kept_change site.frame T body.change }) e

pub ruleset forming = (seen-Nothing, seen-One, layer-Under, layer-Nothing, layer-Then, layer-Written, layer-Left, layer-Branch, layer-Chosen, layer-Kept, layer-Closed, layer-Back, shown-Only, shown-At, shown-Cleared, shown-Undefined, taken_straight, taken_open)
