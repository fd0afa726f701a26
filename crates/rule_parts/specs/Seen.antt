-- What contracts see of the values that the code works with: the same, in the words of the translation.
use Rattle.std.specs.Prelude.{map}
use Rattle.murphi_typed.specs.Families.{Path, Step, Into, Over}
use Rattle.murphi_typed.specs.Store.{Owner, Global, Local, Formal}
use Rattle.rule_inline.specs.Machine.{CellsOf}
use Rattle.rule_inline.specs.Tables.{Key, Index, Axis, Among, Spot, Slot, Family, Leaving, Result, Entry, Match}
use Rattle.rule_inline.specs.Parts.{fixed_values}
use Rattle.rule_parts.specs.Steps.{Tested, Fit}
use Rattle.rule_parts.specs.declared.entry.Entry.{Entry as HeldEntry}
use Rattle.rule_parts.specs.declared.entry.Tested.{Tested as HeldTested}
use Rattle.rule_parts.specs.declared.family.Step.{Step as HeldStep}
use Rattle.rule_parts.specs.declared.family.Step.TheVariants as step
use Rattle.rule_parts.specs.declared.family.Family.{Family as HeldFamily}
use Rattle.rule_parts.specs.declared.fit.Match.{Match as HeldMatch}
use Rattle.rule_parts.specs.declared.fit.Fit.{Fit as HeldFit}
use Rattle.rule_parts.specs.declared.place.Owner.{Owner as HeldOwner}
use Rattle.rule_parts.specs.declared.place.Owner.TheVariants as owner
use Rattle.rule_parts.specs.declared.place.Index.{Index as HeldIndex}
use Rattle.rule_parts.specs.declared.place.Index.TheVariants as index
use Rattle.rule_parts.specs.declared.place.Spot.{Spot as HeldSpot}
use Rattle.rule_parts.specs.declared.place.Slot.{Slot as HeldSlot}
use Rattle.rule_parts.specs.declared.place.Slot.TheVariants as slot

abbrev pub seen_owner : HeldOwner → Owner
seen_owner (owner.Global k) = Global k
seen_owner (owner.Local depth k) = Local depth k
seen_owner (owner.Formal depth k) = Formal depth k

abbrev pub seen_index : HeldIndex → Index
seen_index (index.Axis mark term) = Axis mark term
seen_index (index.Among over term) = Among (fixed_values over) term

abbrev pub seen_spot : HeldSpot → Spot
seen_spot s = record { owner = seen_owner s.owner; path = s.path; at = map seen_index s.at }

abbrev pub seen_slot : HeldSlot → Slot
seen_slot (slot.Family owner path key) = Family (seen_owner owner) path key
seen_slot slot.Leaving = Leaving
seen_slot slot.Result = Result

-- a family of cells
abbrev pub family_slot : HeldOwner → Path → Key → Slot
family_slot owner path key = Family (seen_owner owner) path key

abbrev pub seen_entry : HeldEntry → Entry
seen_entry e = record { tests = e.tests; key = e.key; nodes = e.nodes }

abbrev pub seen_tested : HeldTested → Tested
seen_tested x = record { test = x.test; term = x.term }

abbrev pub seen_match : HeldMatch → Match
seen_match m = record { tests = m.tests; sames = m.sames; count = m.count; rest = m.rest }

abbrev pub seen_fit : HeldFit → Fit
seen_fit f = record { further = f.further; matches = seen_match f.matches }

abbrev pub seen_step : HeldStep → Step
seen_step (step.Into name) = Into name
seen_step (step.Over index) = Over index

abbrev pub seen_family : HeldFamily → CellsOf
seen_family f = record { global = f.global; steps = map seen_step f.steps; key = f.key; of = f.of }
