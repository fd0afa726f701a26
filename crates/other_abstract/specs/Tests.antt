-- Whether a term may have a value that passes a test: the same as the relation, computed.
use Rattle.std.specs.Prelude.{ℕ, zero, suc, Bool, true, false, not, ◌&&◌, ◌||◌, int_lt, ℤ, pos, negsuc, ◌+ℤ◌, ◌-ℤ◌, List, [], ◌∷◌, ◌++◌, map, slice_get}
use Rattle.std.specs.List.{list_all, list_any, flat_map}
use Rattle.std.specs.Option.{option_map_or}
use Rattle.term_core.specs.declared.term.Term as t
use Rattle.term_core.specs.declared.term.Term.{Term, Row_of-Term, end_of-Term, more_of-Term}
use Rattle.term_core.specs.declared.value.Sort.{Sort}
use Rattle.term_core.specs.declared.value.Sort.TheVariants as sort
use Rattle.term_core.specs.declared.machine.CellFamily.{CellFamily}
use Rattle.term_core.specs.Nodes.{nodes, nodes_from}
use Rattle.term_core.specs.Values.{arith, same_truth}
use Rattle.term_core.specs.Forms.{NotForm, IfForm, SameForm, LessForm, ArithForm, QuantifiedForm}
use Rattle.other_abstract.specs.declared.node.AbsNode.{AbsNode}
use Rattle.other_abstract.specs.declared.node.AbsNode.TheVariants.{Kept, Fired, Other}
use Rattle.other_abstract.specs.declared.value.AbsValue.{AbsValue}
use Rattle.other_abstract.specs.declared.value.AbsValue.TheVariants.{Undefined, Truth, Number, Member, Node}
use Rattle.other_abstract.specs.Windows.{Window, truth, number, same_value, constant}
use Rattle.other_abstract.specs.May.{AbsCells, value_at, bound, led_to}
use Rattle.other_abstract.specs.declared.lead.Lead.{Lead}
use Rattle.other_abstract.specs.declared.lead.Lead.TheVariants.{At, Anywhere, Nowhere}

-- the nodes of a window, kept ones first
abbrev pub window_nodes : Window → List AbsNode
window_nodes W = map Kept (nodes W.kept) ++ map Fired (nodes W.fired)

-- so many numbers in order
abbrev pub ints_from : ℤ → ℕ → List ℤ
ints_from z zero = []
ints_from z (suc n) = z ∷ ints_from (z +ℤ pos 1) n

abbrev pub count_of : ℤ → ℕ
count_of (pos n) = n
count_of (negsuc n) = 0

-- the values of a sort in a window
abbrev pub values_of : Window → Sort → List AbsValue
values_of W sort.Truth = Truth false ∷ Truth true ∷ []
values_of W (sort.Range low high) = map Number (ints_from low (count_of (high -ℤ low +ℤ pos 1)))
values_of W (sort.Members kind count) = map (λ index. Member kind index) (nodes_from 0 count)
values_of W sort.Node = map Node (window_nodes W ++ Other ∷ [])

abbrev pub any_values : Window → ℕ → List AbsValue
any_values W f = Undefined ∷ option_map_or (λ (family : CellFamily). values_of W family.sort) (slice_get
    W.families f) []

-- whether a value is true, or is anything else
abbrev pub passes : Bool → AbsValue → Bool
passes b x = same_truth b (truth x)

abbrev pub read_passes : Window → AbsCells → ℕ → (AbsValue → Bool) → Lead → Bool
read_passes W w f p (At ns) = p (value_at W w f ns)
read_passes W w f p Anywhere = list_any p (any_values W f)
read_passes W w f p Nowhere = p Undefined

abbrev pub same_passes : (AbsValue → Bool) → AbsValue → AbsValue → Bool
same_passes p (Node Other) (Node Other) = p (Truth true) || p (Truth false)
same_passes p a b = p (Truth (same_value a b))

-- a verdict: all hold, or some fail
abbrev pub either_way : (AbsValue → Bool) → Bool → Bool → Bool → Bool
either_way p all each some = (p (Truth all) && each) || (p (Truth (not all)) && some)

unfoldable mutual
  pub may : Window → AbsCells → List AbsNode → Term → (AbsValue → Bool) → Bool
  may W w env (t.Known value) p = p (constant value)
  may W w env (t.Var k) p = p (bound env k)
  may W w env (t.Read' family _ at) p = may_lead W w env at (read_passes W w family p)
  may W w env (NotForm body) p = may W w env body (λ x. p (Truth (not (truth x))))
  may W w env (t.And' _ parts) p =
      either_way p true (may_each W w env parts true) (may_some W w env parts false)
  may W w env (t.Or' _ parts) p =
      either_way p false (may_each W w env parts false) (may_some W w env parts true)
  may W w env (IfForm test then' else') p = (may W w env test (passes true) && may W w env then' p)
      || (may W w env test (passes false) && may W w env else' p)
  may W w env (SameForm left right) p = may W w env left (λ a. may W w env right (same_passes p a))
  may W w env (LessForm left right) p =
      may W w env left (λ a. may W w env right (λ b. p (Truth (int_lt (number a) (number b)))))
  may W w env (ArithForm op left right) p =
      may W w env left (λ a. may W w env right (λ b. p (Number (arith op (number a) (number b)))))
  may W w env (QuantifiedForm all body) p =
      either_way p all (list_all (λ n. may W w (env
      ++ n ∷ []) body (passes all)) (window_nodes W)) (list_any (λ n. may W w (env
      ++ n ∷ []) body (passes (not all))) (window_nodes W ++ Other ∷ []))

  pub may_lead : {n : _} → Window → AbsCells → List AbsNode → Row_of-Term n → (Lead → Bool) → Bool
  may_lead W w env end_of-Term q = q (At [])
  may_lead W w env (more_of-Term first rest) q =
      may W w env first (λ x. may_lead W w env rest (λ r. q (led_to x r)))

  pub may_each : {n : _} → Window → AbsCells → List AbsNode → Row_of-Term n → Bool → Bool
  may_each W w env end_of-Term b = true
  may_each W w env (more_of-Term first rest) b = may W w env first (passes b) && may_each W w env rest b

  pub may_some : {n : _} → Window → AbsCells → List AbsNode → Row_of-Term n → Bool → Bool
  may_some W w env end_of-Term b = false
  may_some W w env (more_of-Term first rest) b = may W w env first (passes b) || may_some W w env rest b

-- the lists of so many of these nodes, the first slowest
abbrev pub lists_of : List AbsNode → ℕ → List (List AbsNode)
lists_of ns zero = [] ∷ []
lists_of ns (suc count) = flat_map (λ n. map (λ rest. n ∷ rest) (lists_of ns count)) ns

-- whether a body may be false for some nodes of the window, and may be true for all of them
abbrev pub may_fail : Window → AbsCells → ℕ → Term → Bool
may_fail W w prefix body = list_any (λ ns. may W w ns body (passes false)) (lists_of (window_nodes W) prefix)

abbrev pub may_hold : Window → AbsCells → ℕ → Term → Bool
may_hold W w prefix body = list_all (λ ns. may W w ns body (passes true)) (lists_of (window_nodes W) prefix)
