-- What a term may be, over the lists of terms that code goes through; and where indices lead, from the first on.
use Rattle.std.specs.Prelude.{◌≡◌, ℕ, ◌+◌, ◌-◌, ◌*◌, ◌≤◌, IsTrue, Bool, List, [], ◌∷◌, ◌++◌}
use Rattle.std.specs.List.{list_any, All}
use Rattle.term_core.specs.declared.term.Term.{Term}
use Rattle.term_core.specs.declared.machine.CellFamily.{CellFamily}
use Rattle.term_core.specs.Whole.{members_in_range}
use Rattle.other_abstract.specs.declared.node.AbsNode.{AbsNode}
use Rattle.other_abstract.specs.declared.node.AbsNode.TheVariants.{Other}
use Rattle.other_abstract.specs.declared.value.AbsValue.{AbsValue}
use Rattle.other_abstract.specs.declared.value.AbsValue.TheVariants.{Node}
use Rattle.other_abstract.specs.declared.lead.Lead.{Lead}
use Rattle.other_abstract.specs.declared.lead.Lead.TheVariants.{At, Anywhere, Nowhere}
use Rattle.other_abstract.specs.declared.scene.Scene.{Scene}
use Rattle.other_abstract.specs.Windows.{Window, node_number}
use Rattle.other_abstract.specs.May.{AbsCells, led_to}
use Rattle.other_abstract.specs.Tests.{window_nodes, may}

-- the window of a scene
abbrev pub window_in : Scene → Window
window_in s = record { kept = s.kept; fired = s.fired; families = s.families.now }

-- a scene has the nodes of its window, some of them kept, and no sort has more than 256 members
pub record IsScene (s : Scene) : Type 0 where
  pub nodes : s.nodes.now ≡ window_nodes (window_in s)
  pub some : 1 ≤ s.kept
  pub members : All (λ (family : CellFamily). IsTrue (members_in_range family.sort)) s.families.now

-- whether indices may lead to what passes a test
abbrev pub list_lead : Window → AbsCells → List AbsNode → List Term → (Lead → Bool) → Bool
list_lead W w env [] q = q (At [])
list_lead W w env (x ∷ xs) q = may W w env x (λ v. list_lead W w env xs (λ r. q (led_to v r)))

-- where indices lead after one more, given where those before it lead
abbrev pub led_by : Lead → AbsNode → Lead
led_by Nowhere n = Nowhere
led_by Anywhere n = Anywhere
led_by (At ns) Other = Anywhere
led_by (At ns) n = At (ns ++ n ∷ [])

abbrev pub led_after : Lead → AbsValue → Lead
led_after r (Node n) = led_by r n
led_after r x = Nowhere

-- leads joined to leads behind them
abbrev pub joined_lead : Lead → Lead → Lead
joined_lead Nowhere s = Nowhere
joined_lead Anywhere Nowhere = Nowhere
joined_lead Anywhere s = Anywhere
joined_lead (At ns) Nowhere = Nowhere
joined_lead (At ns) Anywhere = Anywhere
joined_lead (At ns) (At ms) = At (ns ++ ms)

-- the values are those that the term may have: as many pass each test
unfoldable pub AreValues : Window → AbsCells → List AbsNode → Term → List AbsValue → Type 0
AreValues W w env t xs = (p : AbsValue → Bool) → list_any p xs ≡ may W w env t p

-- the leads are those that indices may lead to
unfoldable pub AreLeads : Window → AbsCells → List AbsNode → List Term → List Lead → Type 0
AreLeads W w env ts rs = (q : Lead → Bool) → list_any q rs ≡ list_lead W w env ts q

-- where the first indices lead, joined to where the rest may lead, is where all may lead
unfoldable pub AreLed : Window → AbsCells → List AbsNode → List Term → List Lead → List Term → Type 0
AreLed W w env rest rs all =
    (q : Lead → Bool) → list_any (λ r. list_lead W w env rest (λ s. q (joined_lead r s))) rs ≡ list_lead W w env all q

-- how many choices stand before that of these nodes, after so many for the nodes before them
abbrev pub choices_before : ℕ → ℕ → ℕ → List AbsNode → ℕ
choices_before N m before [] = before
choices_before N m before (n ∷ ns) = choices_before N m (before * N + (node_number m n - 1)) ns
