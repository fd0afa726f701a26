-- What each form of term may be, by the sets of what its parts may be, under one valuation.
use Rattle.std.specs.Prelude.{◌≡◌, ℕ, Bool, true, false, not, ◌&&◌, ◌||◌, List, [], ◌∷◌, ◌++◌}
use Rattle.std.specs.List.{list_all, list_any}
use Rattle.term_core.specs.declared.value.Value.{Value}
use Rattle.term_core.specs.declared.value.ArithOp.{ArithOp}
use Rattle.term_core.specs.declared.term.Term as t
use Rattle.term_core.specs.declared.term.Term.{Term}
use Rattle.circuit_core.specs.declared.edge.Edge.{Edge}
use Rattle.other_abstract.specs.declared.node.AbsNode.{AbsNode}
use Rattle.other_abstract.specs.declared.node.AbsNode.TheVariants.{Other}
use Rattle.other_abstract.specs.declared.value.AbsValue.{AbsValue}
use Rattle.other_abstract.specs.declared.value.AbsValue.TheVariants.{Truth}
use Rattle.other_abstract.specs.Windows.{Window, truth, constant}
use Rattle.other_abstract.specs.May.{AbsCells, bound}
use Rattle.other_abstract.specs.Tests.{window_nodes, passes, either_way, may}
use Rattle.bit_encode.specs.declared.set.Possible.{Possible}
use Rattle.bit_encode.specs.declared.combine.PairOp.{PairOp}
use Rattle.bit_encode.specs.declared.combine.PairOp.TheVariants.{Same, Less, Arith}
use Rattle.bit_encode.specs.MaySets.{held, pair_passes}
use Rattle.bit_encode.specs.declared.leads.PossibleLead.{PossibleLead}
use Rattle.bit_encode.specs.Coding.{Shows, IsMay}
use Rattle.bit_encode.specs.Leads.{held_lead, read_held, IsLed}

-- an edge is true exactly where a fact of the shown state holds
abbrev pub Tells : (Edge → Bool) → List (List Possible) → Edge → (AbsCells → Bool) → Type 0
Tells val cells e f = (w : AbsCells) → Shows val cells w → val e ≡ f w

-- the set has what an operator makes of those of two terms
abbrev pub Pairs : (Edge → Bool) → PairOp → List Possible → List Possible → List Possible → Type 0
Pairs val op ls rs s = (p : AbsValue → Bool) → held val p s ≡ held val (λ a. held val (pair_passes op p a) rs) ls

-- the set has a verdict
abbrev pub IsVerdict : (Edge → Bool) → Bool → Edge → Edge → List Possible → Type 0
IsVerdict val all each other s = (p : AbsValue → Bool) → held val p s ≡ either_way p all (val each) (val other)

pub record FormsAreSaid (val : Edge → Bool) (cells : List (List Possible)) (W : Window) (env : List AbsNode) : Type 0 where
  pub known : (v : Value) (s : List Possible) → ((p : AbsValue → Bool) → held val p s ≡ p (constant v)) → IsMay val cells W env (t.Known v) s
  pub variable : (k : ℕ) (s : List Possible) → ((p : AbsValue → Bool) → held val p s ≡ p (bound env k)) → IsMay val cells W env (t.Var k) s
  pub reading : (f : ℕ) (ts : List Term) (rs : List PossibleLead) (s : List Possible) → IsLed val cells W env ts rs
      → ((p : AbsValue → Bool) → held val p s ≡ held_lead val (read_held val cells W f p) rs) → IsMay val cells W env (t.Read f ts) s
  pub negation : (a : Term) (r s : List Possible) → IsMay val cells W env a r
      → ((p : AbsValue → Bool) → held val p s ≡ held val (λ v. p (Truth (not (truth v)))) r) → IsMay val cells W env (t.Not a) s
  pub choice : (a b d : Term) (hold fail : Edge) (ra rb rd s : List Possible)
      → IsMay val cells W env a ra → IsMay val cells W env b rb → IsMay val cells W env d rd
      → val hold ≡ held val (passes true) ra → val fail ≡ held val (passes false) ra
      → ((p : AbsValue → Bool) → held val p s ≡ ((held val p rb && val hold) || (held val p rd && val fail)))
      → IsMay val cells W env (t.If a b d) s
  pub comparison : (a b : Term) (ra rb s : List Possible) → IsMay val cells W env a ra → IsMay val cells W env b rb
      → Pairs val Same ra rb s → IsMay val cells W env (t.Same a b) s
  pub order : (a b : Term) (ra rb s : List Possible) → IsMay val cells W env a ra → IsMay val cells W env b rb
      → Pairs val Less ra rb s → IsMay val cells W env (t.Less a b) s
  pub result : (op : ArithOp) (a b : Term) (ra rb s : List Possible) → IsMay val cells W env a ra → IsMay val cells W env b rb
      → Pairs val (Arith op) ra rb s → IsMay val cells W env (t.Arith op a b) s
  pub conjunction : (ts : List Term) (each other : Edge) (s : List Possible)
      → Tells val cells each (λ w. list_all (λ x. may W w env x (passes true)) ts)
      → Tells val cells other (λ w. list_any (λ x. may W w env x (passes false)) ts)
      → IsVerdict val true each other s → IsMay val cells W env (t.And ts) s
  pub disjunction : (ts : List Term) (each other : Edge) (s : List Possible)
      → Tells val cells each (λ w. list_all (λ x. may W w env x (passes false)) ts)
      → Tells val cells other (λ w. list_any (λ x. may W w env x (passes true)) ts)
      → IsVerdict val false each other s → IsMay val cells W env (t.Or ts) s
  pub quantified : (all : Bool) (a : Term) (each other : Edge) (s : List Possible)
      → Tells val cells each (λ w. list_all (λ n. may W w (env ++ n ∷ []) a (passes all)) (window_nodes W))
      → Tells val cells other (λ w. list_any (λ n. may W w (env ++ n ∷ []) a (passes (not all))) (window_nodes W ++ Other ∷ []))
      → IsVerdict val all each other s → IsMay val cells W env (t.Quantified all a) s
