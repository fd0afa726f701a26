-- How much of layers is left to be looked at: each part weighs less than the whole.
use Rattle.std.proofs.Common.{◌≡◌, ℕ, zero, suc, ◌+◌, ◌<◌, Bool, List, [], ◌∷◌, Option, Some, refl, ap, ◌∙◌, arith}
use Rattle.std.specs.Prelude.{slice_get}
use Rattle.std.specs.declared.rc.Rc.{Rc}
use Rattle.std.specs.declared.alloc.Global.{Global}
use Rattle.term_core.specs.declared.term.Term.{Term}
use Rattle.rule_parts.specs.declared.place.Spot.{Spot as HeldSpot}
use Rattle.rule_parts.specs.declared.layer.Layer as l
use Rattle.rule_parts.specs.declared.layer.Layer.{Layer}
use Rattle.rule_parts.specs.declared.layer.Shown as s
use Rattle.rule_parts.specs.declared.layer.Given as g
use Rattle.rule_parts.specs.declared.layer.Layer.{Row_of-Given, end_of-Given, more_of-Given, items-the_row-Given, items_hidden-the_row-Given-0}
use Rattle.rule_parts.specs.declared.layer.Given.TheBlock.{hidden-the_row-Given-0}

unfoldable mutual
  pub layer_weight : Layer → ℕ
  layer_weight (l.First frame) = 1
  layer_weight (l.Under' frame _ before) = suc (layer_weight before)
  layer_weight (l.Nothing' _ before) = suc (layer_weight before)
  layer_weight (l.Then' _ first _ second) = suc (layer_weight first + layer_weight second)
  layer_weight (l.Written' frame _ before spot new) = suc (layer_weight before + shown_weight new)
  layer_weight (l.Left' _ before result) = suc (layer_weight before)
  layer_weight (l.Branch' frame test _ taken _ other) = suc (layer_weight taken + layer_weight other)
  layer_weight (l.Chosen' _ before _ chain) = suc (layer_weight before + layer_weight chain)
  layer_weight (l.Kept' frame _ before _ after) = suc (layer_weight before + layer_weight after)
  layer_weight (l.Closed' frame _ before _ body) = suc (layer_weight before + layer_weight body)
  layer_weight (l.Entered' depth _ given _ before) = suc (layer_weight before + row_weight given)
  layer_weight (l.Back' _ before _ body) = suc (layer_weight before + layer_weight body)

  pub shown_weight : s.Shown → ℕ
  shown_weight (s.Only frame term) = 1
  shown_weight (s.At' frame _ from spot) = suc (layer_weight from)
  shown_weight (s.Cleared of) = 1
  shown_weight s.Undefined = 1

  pub given_weight : g.Given → ℕ
  given_weight (g.Filled' mark plain _ shown) = suc (shown_weight shown)
  given_weight (g.Standing spot) = 1

  row_weight : {n : _} → Row_of-Given n → ℕ
  row_weight end_of-Given = 1
  row_weight (more_of-Given first rest) = suc (given_weight first + row_weight rest)

abbrev pub givens_weight : List g.Given → ℕ
givens_weight [] = 1
givens_weight (first ∷ rest) = suc (given_weight first + givens_weight rest)

row_is : {n : _} (row : Row_of-Given n) → row_weight row ≡ givens_weight (items-the_row-Given n row)
unfolding layer_weight
row_is end_of-Given = refl
row_is (more_of-Given first rest) = ap (λ k. suc (given_weight first + k)) (row_is rest)

pub weight-Under : (frame : ℕ) (before : Rc Layer Global) → layer_weight (l.Under frame before) ≡ suc (layer_weight before.value)
unfolding layer_weight
weight-Under frame before = refl

pub weight-Nothing : (before : Rc Layer Global) → layer_weight (l.Nothing before) ≡ suc (layer_weight before.value)
unfolding layer_weight
weight-Nothing before = refl

pub weight-Then : (first second : Rc Layer Global) → layer_weight (l.Then first second) ≡ suc (layer_weight first.value + layer_weight second.value)
unfolding layer_weight
weight-Then first second = refl

pub weight-Written : (frame : ℕ) (before : Rc Layer Global) (spot : HeldSpot) (new : s.Shown) → layer_weight (l.Written frame before spot new) ≡ suc (layer_weight before.value + shown_weight new)
unfolding layer_weight
weight-Written frame before spot new = refl

pub weight-Left : (before : Rc Layer Global) (of : Option Term) → layer_weight (l.Left before of) ≡ suc (layer_weight before.value)
unfolding layer_weight
weight-Left before of = refl

pub weight-Branch : (frame : ℕ) (test : Term) (taken other : Rc Layer Global) → layer_weight (l.Branch frame test taken other) ≡ suc (layer_weight taken.value + layer_weight other.value)
unfolding layer_weight
weight-Branch frame test taken other = refl

pub weight-Chosen : (before chain : Rc Layer Global) → layer_weight (l.Chosen before chain) ≡ suc (layer_weight before.value + layer_weight chain.value)
unfolding layer_weight
weight-Chosen before chain = refl

pub weight-Kept : (frame : ℕ) (before after : Rc Layer Global) → layer_weight (l.Kept frame before after) ≡ suc (layer_weight before.value + layer_weight after.value)
unfolding layer_weight
weight-Kept frame before after = refl

pub weight-Closed : (frame : ℕ) (before body : Rc Layer Global) → layer_weight (l.Closed frame before body) ≡ suc (layer_weight before.value + layer_weight body.value)
unfolding layer_weight
weight-Closed frame before body = refl

pub weight-Entered : (depth : ℕ) (given : List g.Given) (before : Rc Layer Global) → layer_weight (l.Entered depth given before) ≡ suc (layer_weight before.value + givens_weight given)
unfolding layer_weight
weight-Entered depth given before = ap (λ k. suc (layer_weight before.value + k)) (row_is (hidden-the_row-Given-0 given) ∙ ap givens_weight (items_hidden-the_row-Given-0 given))

pub weight-Back : (before body : Rc Layer Global) → layer_weight (l.Back before body) ≡ suc (layer_weight before.value + layer_weight body.value)
unfolding layer_weight
weight-Back before body = refl

pub weight-At : (frame : ℕ) (from : Rc Layer Global) (spot : HeldSpot) → shown_weight (s.At frame from spot) ≡ suc (layer_weight from.value)
unfolding layer_weight
weight-At frame from spot = refl

pub weight-Filled : (mark : Option ℕ) (plain : Bool) (shown : Rc s.Shown Global) → given_weight (g.Filled mark plain shown) ≡ suc (shown_weight shown.value)
unfolding layer_weight
weight-Filled mark plain shown = refl

pub in_givens : (xs : List g.Given) (i : ℕ) (x : g.Given) → slice_get xs i ≡ Some x → given_weight x < givens_weight xs
in_givens [] i x e = cc
in_givens (y ∷ xs) zero x e = let same : y ≡ x = cc in let h : given_weight y ≡ given_weight x = ap given_weight same in omega (arith, h)
in_givens (y ∷ xs) (suc i) x e = let h = in_givens xs i x e in omega (arith, h)

pub ruleset weights = (weight-Under, weight-Nothing, weight-Then, weight-Written, weight-Left, weight-Branch, weight-Chosen, weight-Kept, weight-Closed, weight-Entered, weight-Back, weight-At, weight-Filled, in_givens)
