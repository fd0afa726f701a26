-- What is true of terms in a circuit: under every valuation that agrees with it.
use Rattle.std.specs.Prelude.{ℕ, ◌≡◌, Bool, List}
use Rattle.term_core.specs.declared.term.Term.{Term}
use Rattle.circuit_core.specs.declared.edge.Edge.{Edge}
use Rattle.circuit_core.specs.Network.{Network}
use Rattle.other_abstract.specs.declared.node.AbsNode.{AbsNode}
use Rattle.other_abstract.specs.declared.lead.Lead.{Lead}
use Rattle.other_abstract.specs.Windows.{Window}
use Rattle.other_abstract.specs.May.{AbsCells}
use Rattle.other_abstract.specs.Lists.{list_lead, joined_lead}
use Rattle.bit_encode.specs.declared.set.Possible.{Possible}
use Rattle.bit_encode.specs.declared.leads.PossibleLead.{PossibleLead}
use Rattle.bit_encode.specs.MaySets.{Agrees}
use Rattle.bit_encode.specs.Coding.{Shows, IsMay}
use Rattle.bit_encode.specs.Leads.{held_lead, IsLed}
use Rattle.bit_encode.specs.Forms.{Tells}

-- the set is that of what a term may be
unfoldable pub IsMayIn : Network → List (List Possible) → Window → List AbsNode → Term → List Possible → Type 0
IsMayIn c cells W env t s = (x : ℕ → Bool) (val : Edge → Bool) → Agrees c x val → IsMay val cells W env t s

-- the leads are those of indices
unfoldable pub IsLedIn : Network → List (List Possible) → Window → List AbsNode → List Term → List PossibleLead → Type 0
IsLedIn c cells W env ts rs = (x : ℕ → Bool) (val : Edge → Bool) → Agrees c x val → IsLed val cells W env ts rs

-- an edge is true exactly where a fact of the coded state holds
unfoldable pub TellsIn : Network → List (List Possible) → Edge → (AbsCells → Bool) → Type 0
TellsIn c cells e f = (x : ℕ → Bool) (val : Edge → Bool) → Agrees c x val → Tells val cells e f

-- the leads of the first indices, joined to where the rest may lead, are where all may lead
unfoldable pub IsLedSoFar : Network → List (List Possible) → Window → List AbsNode → List Term → List PossibleLead → List Term → Type 0
IsLedSoFar c cells W env rest rs all =
    (x : ℕ → Bool) (val : Edge → Bool) → Agrees c x val → (w : AbsCells) → Shows val cells w
    → (q : Lead → Bool) → held_lead val (λ r. list_lead W w env rest (λ s. q (joined_lead r s))) rs ≡ list_lead W w env all q
