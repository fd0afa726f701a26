-- What stays as reads are put together.
use Rattle.std.proofs.Common.{◌≡◌, ℕ, ◌+◌, ◌<◌, ◌||◌, Bool, List, length, get_or, take, sym, ◌∙◌, ap}
use Rattle.std.specs.Prelude.{slice_get}
use Rattle.circuit_core.specs.declared.edge.Edge.{Edge}
use Rattle.circuit_core.specs.Network.{Network}
use Rattle.circuit_core.specs.Growth.{KeepsEdges}
use Rattle.other_abstract.specs.declared.value.AbsValue.{AbsValue}
use Rattle.bit_encode.specs.declared.set.Possible.{Possible}
use Rattle.bit_encode.specs.declared.leads.PossibleLead.{PossibleLead}
use Rattle.bit_encode.specs.MaySets.{Agrees, HasEdges, held}
use Rattle.bit_encode.specs.Coding.{HasCells}
use Rattle.bit_encode.specs.Leads.{HasLeadEdges, set_passes}
use Rattle.bit_encode.proofs.Gaining.{Rule, Gains, gains_more}
use Rattle.bit_encode.proofs.PlacingLemmas.{found, past_end}

pub cells_after : (old new : Network) (cells : List (List Possible)) → KeepsEdges old new → HasCells old cells → HasCells new cells
cells_after old new cells k h n d l = λ i e m. k.edges _ (h n d l i e m)

pub leads_after : (old new : Network) (s : List PossibleLead) → KeepsEdges old new → HasLeadEdges old s → HasLeadEdges new s
leads_after old new s k h n d l = k.edges _ (h n d l)

-- a set at a place
pub at_place : (val : Edge → Bool) (p : AbsValue → Bool) (cells : List (List Possible)) (k : ℕ) (s d : List Possible) → k < length cells → s ≡ get_or cells k d → held val p s ≡ set_passes val p (slice_get cells k)
at_place val p cells k s d inside is = ap (held val p) is ∙ ap (set_passes val p) (sym (found cells k d inside))

pub gains_item : {T : Type 0} (old mid new : Network) (before out after : List Possible) (g : Rule T) (s : List T) (i : ℕ) (d t : T) → i < length s → t ≡ get_or s i d
    → Gains old mid before out g (take i s) → KeepsEdges mid new → HasEdges new after
    → ((x : ℕ → Bool) (val : Edge → Bool) (p : AbsValue → Bool) → Agrees new x val → held val p after ≡ (held val p out || g val p t))
    → Gains old new before after g (take (i + 1) s)
gains_item old mid new before out after g s i d t h is had keeps edges value =
    gains_more old mid new before out after g s i d h had keeps edges (λ x val p a. value x val p a ∙ ap (λ u. held val p out || g val p u) is)

pub ruleset reading = (cells_after, leads_after, past_end)
