-- Steps of loops that add leads with edges, and leads joined one after the other.
use Rattle.std.proofs.Common.{◌≡◌, ℕ, zero, suc, ◌+◌, ◌<◌, ◌≤◌, ◌&&◌, ◌||◌, Bool, true, false, List, [], ◌∷◌, ◌++◌, length, get_or, set, take, refl, sym, ◌∙◌, ap, subst, arith}
use Rattle.std.specs.List.{list_any}
use Rattle.std.proofs.lemmas.List.{take_more, take_all}
use Rattle.circuit_core.specs.declared.edge.Edge.{Edge}
use Rattle.circuit_core.specs.Network.{Network}
use Rattle.circuit_core.specs.Growth.{KeepsEdges}
use Rattle.other_abstract.specs.declared.lead.Lead.{Lead}
use Rattle.bit_encode.specs.declared.leads.PossibleLead.{PossibleLead}
use Rattle.bit_encode.specs.MaySets.{Agrees}
use Rattle.bit_encode.specs.Leads.{held_lead, HasLeadEdges}
use Rattle.bit_encode.proofs.Growing.{keeps_all, keeps_self, agrees_before}
use Rattle.bit_encode.proofs.SetLemmas.{or_assoc, or_false}
use Rattle.bit_encode.proofs.Gaining.{any_push}

or_swap : (a b c : Bool) → ((a || b) || c) ≡ ((a || c) || b)
or_swap true b c = refl
or_swap false true true = refl
or_swap false true false = refl
or_swap false false true = refl
or_swap false false false = refl

and_or : (p a b : Bool) → (p && (a || b)) ≡ ((p && a) || (p && b))
and_or true a b = refl
and_or false a b = refl

-- the edge of a lead is widened
pub lead_set : (val : Edge → Bool) (q : Lead → Bool) (s : List PossibleLead) (i : ℕ) (d : PossibleLead) (r l : Lead) (e f : Edge)
    → i < length s → (get_or s i d).lead ≡ r → l ≡ r → val f ≡ (val (get_or s i d).edge || val e)
    → held_lead val q (set s i (record { lead = l; edge = f })) ≡ (held_lead val q s || (q r && val e))
lead_set val q [] i d r l e f h same is wide = absurd (omega arith)
lead_set val q (o ∷ s) zero d r l e f h same is wide =
    ap (λ m. (q m && val f) || held_lead val q s) is
    ∙ ap (λ b. (q r && b) || held_lead val q s) wide
    ∙ ap (λ b. b || held_lead val q s) (and_or (q r) (val o.edge) (val e))
    ∙ or_swap (q r && val o.edge) (q r && val e) (held_lead val q s)
    ∙ ap (λ m. ((q m && val o.edge) || held_lead val q s) || (q r && val e)) (sym same)
lead_set val q (o ∷ s) (suc i) d r l e f h same is wide =
    ap (λ b. (q o.lead && val o.edge) || b) (lead_set val q s i d r l e f (omega arith) same is wide)
    ∙ sym (or_assoc (q o.lead && val o.edge) (held_lead val q s) (q r && val e))

get_same : (s : List PossibleLead) (i : ℕ) (d e : PossibleLead) → i < length s → get_or s i d ≡ get_or s i e
get_same [] i d e h = absurd (omega arith)
get_same (o ∷ s) zero d e h = refl
get_same (o ∷ s) (suc i) d e h = get_same s i d e (omega arith)

pub lead_widened : (val : Edge → Bool) (q : Lead → Bool) (now items after : List PossibleLead) (i : ℕ) (d o : PossibleLead) (r : Lead) (e f : Edge) → now ≡ items
    → after ≡ set items i (record { lead = d.lead; edge = f }) → i < length now → ((b : PossibleLead) → (get_or now i b).lead ≡ r) → d ≡ get_or items i d → o ≡ get_or items i o → val f ≡ (val o.edge || val e)
    → held_lead val q after ≡ (held_lead val q now || (q r && val e))
lead_widened val q now items after i d o r e f same is inside here at was wide =
    ap (held_lead val q) (is ∙ ap (λ s. set s i (record { lead = d.lead; edge = f })) (sym same))
    ∙ lead_set val q now i d r d.lead e f inside (here d) (ap (λ (b : PossibleLead). b.lead) (at ∙ ap (λ s. get_or s i d) (sym same)) ∙ here d)
    (wide ∙ ap (λ (b : PossibleLead). val b.edge || val e) (was ∙ ap (λ s. get_or s i o) (sym same) ∙ get_same now i o d inside))

-- one lead more
pub lead_push : (val : Edge → Bool) (q : Lead → Bool) (s : List PossibleLead) (r : Lead) (e : Edge)
    → held_lead val q (s ++ record { lead = r; edge = e } ∷ []) ≡ (held_lead val q s || (q r && val e))
lead_push val q [] r e = or_false (q r && val e)
lead_push val q (o ∷ s) r e = ap (λ b. (q o.lead && val o.edge) || b) (lead_push val q s r e) ∙ sym (or_assoc (q o.lead && val o.edge) (held_lead val q s) (q r && val e))

pub leads_after : (old new : Network) (s : List PossibleLead) → KeepsEdges old new → HasLeadEdges old s → HasLeadEdges new s
leads_after old new s k h n d l = k.edges _ (h n d l)

-- what each of some items adds to leads, under a valuation and for a test
abbrev pub LeadRule : Type 0 → Type 0
LeadRule T = (Edge → Bool) → (Lead → Bool) → T → Bool

-- what a loop that adds leads has gained of some items
pub record Leads {T : Type 0} (old new : Network) (before after : List PossibleLead) (g : LeadRule T) (s : List T) : Type 0 where
  pub keeps : KeepsEdges old new
  pub edges : HasLeadEdges new after
  pub value : (x : ℕ → Bool) (val : Edge → Bool) (q : Lead → Bool) → Agrees new x val → held_lead val q after ≡ (held_lead val q before || list_any (g val q) s)

pub leads_none : {T : Type 0} (c : Network) (out : List PossibleLead) (g : LeadRule T) → HasLeadEdges c out → Leads c c out out g []
leads_none c out g h = record { keeps = keeps_self c; edges = h; value = λ x val q a. sym (or_false (held_lead val q out)) }

pub leads_more : {T : Type 0} (old mid new : Network) (before out after : List PossibleLead) (g : LeadRule T) (s : List T) (i : ℕ) (d t : T) → i < length s → t ≡ get_or s i d
    → Leads old mid before out g (take i s) → KeepsEdges mid new → HasLeadEdges new after
    → ((x : ℕ → Bool) (val : Edge → Bool) (q : Lead → Bool) → Agrees new x val → held_lead val q after ≡ (held_lead val q out || g val q t))
    → Leads old new before after g (take (i + 1) s)
leads_more old mid new before out after g s i d t h is had keeps edges value = record {
  keeps = keeps_all old mid new had.keeps keeps;
  edges = edges;
  value = λ x val q a.
      value x val q a
      ∙ ap (λ b. b || g val q t) (had.value x val q (agrees_before mid new x val keeps a))
      ∙ or_assoc (held_lead val q before) (list_any (g val q) (take i s)) (g val q t)
      ∙ ap (λ b. held_lead val q before || b)
      (ap (λ u. list_any (g val q) (take i s) || g val q u) is ∙ sym (ap (list_any (g val q)) (take_more s i d h) ∙ any_push (g val q) (take i s) (get_or s i d)));
}

pub leads_all : {T : Type 0} (old new : Network) (before after : List PossibleLead) (g : LeadRule T) (s : List T) (i : ℕ) → length s ≤ i → Leads old new before after g (take i s) → Leads old new before after g s
leads_all old new before after g s i h had = subst (Leads old new before after g) (take_all i s h) had

pub ruleset leading = (lead_push, leads_after, leads_none, leads_all)
