-- The changes that layers stand for.
use Rattle.std.specs.Prelude.{ℕ, nat_eq, true, List, [], ◌∷◌, map, Option, None, Some, is_some, option_and_then, if◌then◌else◌}
use Rattle.rule_inline.specs.Demands.{truth_term}
use Rattle.term_core.specs.declared.term.Term as t
use Rattle.term_core.specs.declared.term.Term.{Term}
use Rattle.term_core.specs.Substitution.{lifted}
use Rattle.rule_inline.specs.Tables.{Key, Terms, Slot, Family, Leaving, Result, axes, Marks, marks_of, axis_in, Spot, Entry, tested, read_at, renewed_term, Change, unchanged, and_then, or_else, renewed_by, under_variable, Shown, shown_at, only_term, written, kept_if_left, over_nodes}
use Rattle.rule_inline.specs.Parts.{Given, Filled, Standing}
use Rattle.rule_inline.specs.Bodies.{cleared, all_undefined, left_body, left_with, entered, back, back_first}
use Rattle.rule_inline.specs.Machine.{CellsOf, first_terms}
use Rattle.murphi_typed.specs.Families.{Path}
use Rattle.rule_parts.specs.Steps.{Tested, Fit, fitted}
use Rattle.rule_parts.specs.declared.place.Owner.{Owner as HeldOwner}
use Rattle.rule_parts.specs.declared.place.Owner.TheVariants as owner
use Rattle.rule_parts.specs.declared.now.Own.{Own}
use Rattle.rule_parts.specs.declared.now.Own.TheVariants as own
use Rattle.rule_parts.specs.Seen.{seen_spot, seen_family}
use Rattle.rule_parts.specs.declared.family.Family.{Family as HeldFamily}
use Rattle.rule_parts.specs.declared.layer.Layer as l
use Rattle.rule_parts.specs.declared.layer.Layer.{Layer}
use Rattle.rule_parts.specs.declared.layer.Shown as s
use Rattle.rule_parts.specs.declared.layer.Given as g
use Rattle.rule_parts.specs.declared.layer.Layer.{Row_of-Given, end_of-Given, more_of-Given}

-- a `return`
abbrev pub left_change : Terms → Option Term → Change
left_change T None = renewed_by [] left_body T
left_change T (Some e) = renewed_by [] (left_with e) T

-- what either changes is a choice
abbrev pub branch_change : ℕ → Term → Change → Change → Change
branch_change frame test taken other =
    record {
      now = λ slot. t.If (lifted frame (axes slot) test) (taken.now slot) (other.now slot);
      first = λ slot. or_else (taken.first slot) (other.first slot);
    }

-- what is not changed stays
abbrev pub chosen_change : Terms → Change → Change
chosen_change T chain =
    record { now = λ slot. if is_some (chain.first slot) then chain.now slot else T slot; first = chain.first }

abbrev pub kept_change : ℕ → Terms → Change → Change
kept_change frame T after = record after { now = kept_if_left frame T after }

abbrev pub back_change : Terms → Change → Change
back_change T body = record { now = back T body; first = back_first body }

-- the term once the cells under a place have new values
abbrev pub new_if_fit : ℕ → Shown → Term → Option Fit → Term
new_if_fit frame new old None = old
new_if_fit frame new old (Some f) = renewed_term frame new f.further old f.matches

abbrev pub new_or_old : ℕ → Spot → Shown → Slot → Term → Term
new_or_old frame spot new (Family owner path key) old = new_if_fit frame new old (fitted frame spot owner path key)
new_or_old frame spot new Leaving old = old
new_or_old frame spot new Result old = old

-- the marks of a place where it writes the slot
abbrev pub marks_if_fit : Spot → Option Fit → Option Marks
marks_if_fit spot None = None
marks_if_fit spot (Some f) = Some (marks_of spot.at)

abbrev pub written_first : ℕ → Spot → Slot → Option Marks
written_first frame spot (Family owner path key) = marks_if_fit spot (fitted frame spot owner path key)
written_first frame spot Leaving = None
written_first frame spot Result = None

-- a `return` writes that it was met, and the result in a function
abbrev pub left_first : Option Term → Slot → Option Marks
left_first of (Family owner path key) = None
left_first of Leaving = Some []
left_first None Result = None
left_first (Some e) Result = Some []

-- whose variable a family is of, for a body that is entered at a depth
abbrev pub own_variable : ℕ → HeldOwner → Own
own_variable depth (owner.Global k) = own.Other
own_variable depth (owner.Local of k) = if nat_eq of depth then own.Local else own.Other
own_variable depth (owner.Formal of k) = if nat_eq of depth then own.Formal k else own.Other

-- what is read through a family of a place
abbrev pub read_entry : ℕ → Terms → Spot → Path → Key → Entry → Tested
read_entry frame T spot path key e = record { test = tested frame key e; term = read_at frame T spot path key e }

unfoldable mutual
  pub seen_layer : Layer → List CellsOf → Change
  seen_layer (l.First frame) fs = unchanged (first_terms fs frame)
  seen_layer (l.Under' frame _ before) fs = unchanged (under_variable frame (seen_layer before fs).now)
  seen_layer (l.Nothing' _ before) fs = unchanged (seen_layer before fs).now
  seen_layer (l.Then' _ first _ second) fs = and_then (seen_layer first fs) (seen_layer second fs)
  seen_layer (l.Written' frame _ before spot new) fs =
      written frame (seen_layer before fs).now (seen_spot spot) (seen_shown new fs)
  seen_layer (l.Left' _ before result) fs = left_change (seen_layer before fs).now result
  seen_layer (l.Branch' frame test _ taken _ other) fs =
      branch_change frame test (seen_layer taken fs) (seen_layer other fs)
  seen_layer (l.Chosen' _ before _ chain) fs = chosen_change (seen_layer before fs).now (seen_layer chain fs)
  seen_layer (l.Kept' frame _ before _ after) fs =
      kept_change frame (seen_layer before fs).now (seen_layer after fs)
  seen_layer (l.Closed' frame _ before _ body) fs = over_nodes frame (seen_layer before fs).now (seen_layer body fs)
  seen_layer (l.Entered' depth _ given _ before) fs =
      unchanged (entered depth (row_given given fs) (seen_layer before fs).now)
  seen_layer (l.Back' _ before _ body) fs = back_change (seen_layer before fs).now (seen_layer body fs)

  pub seen_shown : s.Shown → List CellsOf → Shown
  seen_shown (s.Only frame term) fs = only_term frame term
  seen_shown (s.At' frame _ from spot) fs = shown_at frame (seen_layer from fs).now (seen_spot spot)
  seen_shown (s.Cleared of) fs = cleared of
  seen_shown s.Undefined fs = all_undefined

  pub seen_given : g.Given → List CellsOf → Given
  seen_given (g.Filled' mark plain _ shown) fs = Filled mark plain (seen_shown shown fs)
  seen_given (g.Standing spot) fs = Standing (seen_spot spot)

  pub row_given : {n : _} → Row_of-Given n → List CellsOf → List Given
  row_given end_of-Given fs = []
  row_given (more_of-Given first rest) fs = seen_given first fs ∷ row_given rest fs

-- the term of a slot after the parts that a layer stands for
abbrev pub term_in : List HeldFamily → Layer → Slot → Term
term_in families layer slot = (seen_layer layer (map seen_family families)).now slot

-- what is given, once the families are known
abbrev pub over : List CellsOf → (List CellsOf → Given) → Given
over fs given = given fs

abbrev pub givens : List CellsOf → List g.Given → List Given
givens fs gs = map (over fs) (map seen_given gs)

-- the marks of a place where it writes a family of cells
abbrev pub if_family : Slot → Option Marks → Option Marks
if_family (Family owner path key) marks = marks
if_family Leaving marks = None
if_family Result marks = None

-- the marks where the loop's variable is one of them
abbrev pub if_own_axis : ℕ → Option Marks → Option Marks
if_own_axis variable marks = option_and_then (λ k. marks) (option_and_then (axis_in variable) marks)

unfoldable mutual
  -- the marks of the first designator that writes a slot: they do not depend on the terms before
  pub first_of : Layer → Slot → Option Marks
  first_of (l.First frame) slot = None
  first_of (l.Under' frame _ before) slot = None
  first_of (l.Nothing' _ before) slot = None
  first_of (l.Then' _ first _ second) slot = or_else (first_of first slot) (first_of second slot)
  first_of (l.Written' frame _ before spot new) slot = written_first frame (seen_spot spot) slot
  first_of (l.Left' _ before result) slot = left_first result slot
  first_of (l.Branch' frame test _ taken _ other) slot = or_else (first_of taken slot) (first_of other slot)
  first_of (l.Chosen' _ before _ chain) slot = first_of chain slot
  first_of (l.Kept' frame _ before _ after) slot = first_of after slot
  first_of (l.Closed' frame _ before _ body) slot = if_own_axis frame (first_of body slot)
  first_of (l.Entered' depth _ given _ before) slot = None
  first_of (l.Back' _ before _ body) slot = if_family slot (first_of body slot)

-- the term after a `return`
abbrev pub left_term : Option Term → Slot → Term → Term
left_term of (Family owner path key) old = old
left_term of Leaving old = truth_term true
left_term None Result old = old
left_term (Some e) Result old = e
