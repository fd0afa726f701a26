-- What a term may be in a state of a window.
use Rattle.std.specs.Prelude.{◌≡◌, ◌⊎◌, ℕ, Bool, true, false, not, int_lt, List, [], ◌∷◌, ◌++◌, map, slice_get, IsTrue}
use Rattle.std.specs.Option.{option_map_or}
use Rattle.term_core.specs.declared.term.Term as t
use Rattle.term_core.specs.declared.term.Term.{Term, Row_of-Term, end_of-Term, more_of-Term}
use Rattle.term_core.specs.Values.{arith}
use Rattle.term_core.specs.Forms.{NotForm, IfForm, SameForm, LessForm, ArithForm, QuantifiedForm}
use Rattle.other_abstract.specs.declared.node.AbsNode.{AbsNode}
use Rattle.other_abstract.specs.declared.node.AbsNode.TheVariants.{Other}
use Rattle.other_abstract.specs.declared.value.AbsValue.{AbsValue}
use Rattle.other_abstract.specs.declared.value.AbsValue.TheVariants.{Undefined, Truth, Number, Node}
use Rattle.other_abstract.specs.declared.lead.Lead.{Lead}
use Rattle.other_abstract.specs.declared.lead.Lead.TheVariants.{At, Anywhere, Nowhere}
use Rattle.other_abstract.specs.Windows.{Window, size, node_number, is_in_window, is_abs_node, truth, number, same_value, constant, is_any_value}
use Rattle.term_core.specs.Cells.{table_value}

-- a state of a window: a value for each cell at window nodes, in the order of the cells
abbrev pub AbsCells : Type 0
AbsCells = List AbsValue

-- the value of a cell at window nodes; undefined where there is no such cell
abbrev pub value_at : Window → AbsCells → ℕ → List AbsNode → AbsValue
value_at W w f at = table_value (size W) W.families Undefined w f (map (node_number W.kept) at)

-- the node of a variable
abbrev pub bound : List AbsNode → ℕ → AbsValue
bound env k = option_map_or Node (slice_get env k) Undefined

-- one index before others: an undefined one leads to none, and else Other leads to some cell
abbrev pub led_to : AbsValue → Lead → Lead
led_to (Node Other) Nowhere = Nowhere
led_to (Node Other) r = Anywhere
led_to (Node n) (At ns) = At (n ∷ ns)
led_to (Node n) Anywhere = Anywhere
led_to (Node n) Nowhere = Nowhere
led_to x r = Nowhere

-- what a read may give there
abbrev pub MayRead : Window → AbsCells → ℕ → Lead → AbsValue → Type 0
MayRead W w f (At ns) x = x ≡ value_at W w f ns
MayRead W w f Anywhere x = IsTrue (is_any_value W f x)
MayRead W w f Nowhere x = x ≡ Undefined

-- what comparing two values may give: Other and Other may be one node or two
abbrev pub MaySame : AbsValue → AbsValue → AbsValue → Type 0
MaySame (Node Other) (Node Other) x = (x ≡ Truth true) ⊎ (x ≡ Truth false)
MaySame a b x = x ≡ Truth (same_value a b)

-- something may be true, or may be anything else
abbrev pub MayBe : Bool → (AbsValue → Type 0) → Type 0
MayBe b M = (a : AbsValue) × M a × (truth a ≡ b)

unfoldable mutual
  -- the term may have this value, with these nodes for its variables
  pub May : Window → AbsCells → List AbsNode → Term → AbsValue → Type 0
  May W w env (t.Known value) x = x ≡ constant value
  May W w env (t.Var k) x = x ≡ bound env k
  May W w env (t.Read' family _ at) x = (r : Lead) × MayLead W w env at r × MayRead W w family r x
  May W w env (NotForm body) x = (a : AbsValue) × May W w env body a × (x ≡ Truth (not (truth a)))
  May W w env (t.And' _ parts) x = ((x ≡ Truth true) × MayEach W w env parts true)
      ⊎ ((x ≡ Truth false) × MaySome W w env parts false)
  May W w env (t.Or' _ parts) x = ((x ≡ Truth false) × MayEach W w env parts false)
      ⊎ ((x ≡ Truth true) × MaySome W w env parts true)
  May W w env (IfForm test then' else') x = (MayBe true (May W w env test) × May W w env then' x)
      ⊎ (MayBe false (May W w env test) × May W w env else' x)
  May W w env (SameForm left right) x = (a b : AbsValue) × May W w env left a × May W w env right b
      × MaySame a b x
  May W w env (LessForm left right) x = (a b : AbsValue) × May W w env left a × May W w env right b
      × (x ≡ Truth (int_lt (number a) (number b)))
  May W w env (ArithForm op left right) x = (a b : AbsValue) × May W w env left a × May W w env right b
      × (x ≡ Number (arith op (number a) (number b)))
  May W w env (QuantifiedForm all body) x =
      ((x ≡ Truth all) × ((n : AbsNode) → IsTrue (is_in_window W n) → MayBe all (May W w (env ++ n ∷ []) body)))
      ⊎ ((x ≡ Truth (not all)) × (n : AbsNode) × IsTrue (is_abs_node W n)
      × MayBe (not all) (May W w (env ++ n ∷ []) body))

  -- where indices may lead
  pub MayLead : {n : _} → Window → AbsCells → List AbsNode → Row_of-Term n → Lead → Type 0
  MayLead W w env end_of-Term r = r ≡ At []
  MayLead W w env (more_of-Term first rest) r = (x : AbsValue) × (q : Lead) × May W w env first x
      × MayLead W w env rest q × (r ≡ led_to x q)

  -- each of the terms may be this, and some of them may be
  pub MayEach : {n : _} → Window → AbsCells → List AbsNode → Row_of-Term n → Bool → Type 0
  MayEach W w env end_of-Term b = Unit {0}
  MayEach W w env (more_of-Term first rest) b = MayBe b (May W w env first) × MayEach W w env rest b

  pub MaySome : {n : _} → Window → AbsCells → List AbsNode → Row_of-Term n → Bool → Type 0
  MaySome W w env end_of-Term b = ⊥
  MaySome W w env (more_of-Term first rest) b = MayBe b (May W w env first) ⊎ MaySome W w env rest b
