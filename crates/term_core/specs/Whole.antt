-- When a machine is whole, which every call above takes for granted.
use Rattle.std.specs.Prelude.{◌≡◌, ℕ, ◌+◌, ◌<◌, ◌≤◌, Bool, true, false, ◌&&◌, nat_eq, nat_le, pos, int_le, List, map, length, slice_get, IsTrue}
use Rattle.std.specs.List.{All, IsDistinct}
use Rattle.std.specs.Option.{option_map_or}
use Rattle.term_core.specs.declared.value.Sort.{Sort}
use Rattle.term_core.specs.declared.value.Sort.TheVariants.{Range, Members}
use Rattle.term_core.specs.declared.machine.CellFamily.{CellFamily}
use Rattle.term_core.specs.declared.machine.Update.{Update}
use Rattle.term_core.specs.declared.machine.TermRule.{TermRule}
use Rattle.term_core.specs.declared.machine.TermMachine.{TermMachine}
use Rattle.term_core.specs.Variables.{free_variables, fits}
use Rattle.term_core.specs.Firing.{node_parameters}

-- a fact of each rule and of each start
abbrev pub EachRule : TermMachine → (TermRule → Type 0) → Type 0
EachRule m P = All P m.starts × All P m.rules

-- the updates are of families of the machine, and of none twice
abbrev pub UpdatesOnce : List CellFamily → TermRule → Type 0
UpdatesOnce families r = All (λ u. u.family < length families) r.updates × IsDistinct nat_eq (map (λ (u : Update). u.family) r.updates)

-- the node parameters are at most the prefix, and so are the binders of each piece together with them
abbrev pub IsWithinPrefix : TermRule → Type 0
IsWithinPrefix r = (node_parameters r ≤ r.prefix) × All (λ piece. node_parameters r + piece.binders ≤ r.prefix) r.ok

-- how many axes a family has
abbrev pub axes_of : List CellFamily → ℕ → ℕ
axes_of families f = option_map_or (λ family. family.axes) (slice_get families f) 0

-- the free variables of the guard are the node parameters, those of an update are also the axes of its
-- family, and those of a piece are also its binders
pub record BindsVariables (families : List CellFamily) (r : TermRule) : Type 0 where
  pub guard : free_variables r.guard ≤ node_parameters r
  pub updates : All (λ u. free_variables u.body ≤ node_parameters r + axes_of families u.family) r.updates
  pub pieces : All (λ piece. free_variables piece.body ≤ node_parameters r + piece.binders) r.ok

-- whether a sort is a range that holds 0
abbrev pub holds_zero : Sort → Bool
holds_zero (Range low high) = int_le low (pos 0) && int_le (pos 0) high
holds_zero _ = false

-- where the cells of the family cannot be undefined, they are of a range that holds 0
abbrev pub HasBlank : CellFamily → Type 0
HasBlank family = family.undefined ≡ false → IsTrue (holds_zero family.sort)

-- a start updates families that may be undefined
abbrev pub LeavesDefined : List CellFamily → TermRule → Type 0
LeavesDefined families r = All (λ u. IsTrue (option_map_or (λ family. family.undefined) (slice_get families u.family) false)) r.updates

-- each cell that a rule's terms read is one of the machine's, and no constant in them is a node
pub record ReadsCells (families : List CellFamily) (r : TermRule) : Type 0 where
  pub guard : IsTrue (fits families r.guard)
  pub updates : All (λ u. IsTrue (fits families u.body)) r.updates
  pub pieces : All (λ piece. IsTrue (fits families piece.body)) r.ok

-- whether a sort of members has at most 256 of them
abbrev pub members_in_range : Sort → Bool
members_in_range (Members kind count) = nat_le count 256
members_in_range _ = true

-- a machine is whole
pub record IsWhole (m : TermMachine) : Type 0 where
  -- each rule and each start has at most three node parameters
  pub parameters : EachRule m (λ r. node_parameters r ≤ 3)
  -- each updates families of the machine alone, and none twice
  pub updates : EachRule m (λ r. UpdatesOnce m.families r)
  -- in each, the node parameters are at most its prefix, and so are the binders of a piece with them
  pub prefixes : EachRule m IsWithinPrefix
  -- the free variables of each guard, update and piece are among those that are numbered for it
  pub variables : EachRule m (λ r. BindsVariables m.families r)
  -- a family that cannot be undefined has a range that holds 0, and no start updates it
  pub blanks : All HasBlank m.families × All (λ r. LeavesDefined m.families r) m.starts
  -- each read names a family of the machine with one index per axis, and no constant of a term is a node
  pub reads : EachRule m (λ r. ReadsCells m.families r)
  -- each kind of members that a family holds has at most 256 of them
  pub members : All (λ family. IsTrue (members_in_range family.sort)) m.families
