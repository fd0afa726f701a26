-- What the translation keeps of a running body: a term for the value of each family of cells, as far as it is
-- known from the state before. A family is a variable with its field names and a value for each index that is no
-- node; its node indices are its axes. With `frame` variables bound, the axes of a family are the variables from
-- `frame` on.
use Rattle.std.specs.Prelude.{ℕ, suc, ◌+◌, Bool, false, ◌&&◌, nat_eq, List, [], ◌∷◌, ◌++◌, map, Option, None, Some, option_map, option_and_then, is_some, unwrap_or, if◌then◌else◌}
use Rattle.std.specs.List.{flat_map}
use Rattle.std.specs.Option.{option_map_or}
use Rattle.std.specs.Str.{bytes_eq}
use Rattle.term_core.specs.declared.value.Value.{Value}
use Rattle.term_core.specs.declared.value.Value.TheVariants as value
use Rattle.term_core.specs.declared.term.Term as t
use Rattle.term_core.specs.declared.term.Term.{Term, Row_of-Term, end_of-Term, more_of-Term}
use Rattle.term_core.specs.Nodes.{nodes_from}
use Rattle.term_core.specs.Substitution.{lifted, placed}
use Rattle.term_core.specs.Forms.{NotForm, IfForm, SameForm, LessForm, ArithForm, QuantifiedForm}
use Rattle.murphi_typed.specs.Families.{Path}
use Rattle.murphi_typed.specs.Store.{Owner, same_owner, beyond}
use Rattle.rule_inline.specs.Demands.{is_constant_false}

-- the indices of a family: the value of each that is no node, and a hole for each axis
abbrev pub Key : Type 0
Key = List (Option Value)

abbrev pub holes : Key → ℕ
holes [] = 0
holes (None ∷ key) = suc (holes key)
holes (Some v ∷ key) = holes key

-- what has a term: a family of cells, that a `return` was met in the body that is running, and the result of
-- this body
pub data Slot : Type 0 where
  Family : Owner → Path → Key → Slot
  Leaving : Slot
  Result : Slot

abbrev pub axes : Slot → ℕ
axes (Family owner path key) = holes key
axes Leaving = 0
axes Result = 0

-- a term for each, over its axes
abbrev pub Terms : Type 0
Terms = Slot → Term

-- for each node index of a designator, the bound variable that it is itself, if it is one
abbrev pub Marks : Type 0
Marks = List (Option ℕ)

-- what a part of a body makes of the terms: the terms after it, and of what it writes the marks of the first
-- designator that writes it
pub record Change : Type 0 where
  pub now : Terms
  pub first : Slot → Option Marks

abbrev pub unchanged : Terms → Change
unchanged T = record { now = T; first = λ slot. None }

abbrev pub or_else : {A : Type 0} → Option A → Option A → Option A
or_else None b = b
or_else (Some a) b = Some a

-- one part after another
abbrev pub and_then : Change → Change → Change
and_then a b = record { now = b.now; first = λ slot. or_else (a.first slot) (b.first slot) }

-- what is given new terms by one designator
abbrev pub renewed_by : Marks → (Slot → Option Term) → Terms → Change
renewed_by marks new T = record { now = λ slot. unwrap_or (new slot) (T slot); first = λ slot. option_map (λ _. marks) (new slot) }

-- so many variables, from this one on
abbrev pub variables : ℕ → ℕ → List Term
variables first count = map t.Var (nodes_from first count)

abbrev pub lifted_all : ℕ → ℕ → List Term → List Term
lifted_all frame more ts = map (lifted frame more) ts

-- the terms under one more variable
abbrev pub under_variable : ℕ → Terms → Terms
under_variable frame T slot = lifted frame 1 (T slot)

-- Places

-- an index of a designator: a node, with the bound variable that it is itself; or one of the values of another
-- type
pub data Index : Type 0 where
  Axis : Option ℕ → Term → Index
  Among : List Value → Term → Index

-- what a designator stands for: the cells of a variable under these fields and indices
pub record Spot : Type 0 where
  pub owner : Owner
  pub path : Path
  pub at : List Index

abbrev pub marks_of : List Index → Marks
marks_of [] = []
marks_of (Axis mark index ∷ rest) = mark ∷ marks_of rest
marks_of (Among vs index ∷ rest) = marks_of rest

abbrev pub lifted_index : ℕ → Index → Index
lifted_index frame (Axis mark index) = Axis mark (lifted frame 1 index)
lifted_index frame (Among vs index) = Among vs (lifted frame 1 index)

-- the same place under one more variable
abbrev pub lifted_spot : ℕ → Spot → Spot
lifted_spot frame spot = record spot { at = map (lifted_index frame) spot.at }

-- Reading

-- one of the families of a place: the tests that its indices are those, and the terms of the node indices
pub record Entry : Type 0 where
  pub tests : List Term
  pub key : Key
  pub nodes : List Term

abbrev pub with_axis : Term → Entry → Entry
with_axis index e = record { tests = e.tests; key = None ∷ e.key; nodes = index ∷ e.nodes }

abbrev pub with_value : Term → Value → Entry → Entry
with_value index v e = record { tests = t.Same index (t.Known v) ∷ e.tests; key = Some v ∷ e.key; nodes = e.nodes }

-- the families of a place, the first index slowest
abbrev pub entries : List Index → List Entry
entries [] = record { tests = []; key = []; nodes = [] } ∷ []
entries (Axis mark index ∷ rest) = map (with_axis index) (entries rest)
entries (Among vs index ∷ rest) = flat_map (λ v. map (with_value index v) (entries rest)) vs

-- the term of a family under a place, at the terms of the place's node indices; what follows the place are fields
-- and indices of its own, and the term is over the axes of these
abbrev pub read_at : ℕ → Terms → Spot → Path → Key → Entry → Term
read_at frame T spot path key e =
    placed (frame + holes key)
    (variables 0 frame ++ (lifted_all frame (holes key) e.nodes ++ variables frame (holes key)))
    (T (Family spot.owner (spot.path ++ path) (e.key ++ key)))

abbrev pub tested : ℕ → Key → Entry → Term
tested frame key e = t.And (lifted_all frame (holes key) e.tests)

-- whichever family it is, the last without its test
abbrev pub chain_of : ℕ → Terms → Spot → Path → Key → List Entry → Term
chain_of frame T spot path key [] = t.Known value.Undefined
chain_of frame T spot path key (e ∷ []) = read_at frame T spot path key e
chain_of frame T spot path key (e ∷ f ∷ es) =
    t.If (tested frame key e) (read_at frame T spot path key e) (chain_of frame T spot path key (f ∷ es))

-- terms for the cells under a place, each over the axes that follow the place
abbrev pub Shown : Type 0
Shown = Path → Key → Term

abbrev pub shown_at : ℕ → Terms → Spot → Shown
shown_at frame T spot path key = chain_of frame T spot path key (entries spot.at)

-- the value of a place of simple type
abbrev pub read_of : ℕ → Terms → Spot → Term
read_of frame T spot = shown_at frame T spot [] []

-- one term, whatever the fields and indices are
abbrev pub only_term : ℕ → Term → Shown
only_term frame term path key = lifted frame (holes key) term

-- Writing

-- how a family lies under a place: the tests that the place is this family, the tests that its axes are the node
-- indices of the place, how many these are, and the indices that follow
pub record Match : Type 0 where
  pub tests : List Term
  pub sames : List Term
  pub count : ℕ
  pub rest : Key

abbrev pub on_axis : ℕ → Term → Match → Match
on_axis axis index m = record m { sames = t.Same (t.Var axis) index ∷ m.sames; count = suc m.count }

abbrev pub on_value : Term → Value → Match → Match
on_value index v m = record m { tests = t.Same index (t.Known v) ∷ m.tests }

-- the axes are the variables from `axis` on, and the indices are lifted over them
abbrev pub matched : (Term → Term) → ℕ → List Index → Key → Option Match
matched lift axis [] key = Some (record { tests = []; sames = []; count = 0; rest = key })
matched lift axis (Axis mark index ∷ at) (None ∷ key) = option_map (on_axis axis (lift index)) (matched lift (suc axis) at key)
matched lift axis (Among vs index ∷ at) (Some v ∷ key) = option_map (on_value (lift index) v) (matched lift axis at key)
matched lift axis (_ ∷ at) _ = None

-- the new term where the place is this family at this cell, else the old one
abbrev pub renewed_term : ℕ → Shown → Path → Term → Match → Term
renewed_term frame new path old m = t.If (t.And (m.tests ++ m.sames)) (lifted frame m.count (new path m.rest)) old

-- the terms of the families under a place once its cells have new values
abbrev pub new_terms : ℕ → Terms → Spot → Shown → Slot → Option Term
new_terms frame T spot new (Family owner path key) =
    if same_owner owner spot.owner
    then option_and_then (λ further. option_map (renewed_term frame new further (T (Family owner path key)))
    (matched (lifted frame (holes key)) frame spot.at key)) (beyond bytes_eq spot.path path) else None
new_terms frame T spot new Leaving = None
new_terms frame T spot new Result = None

abbrev pub written : ℕ → Terms → Spot → Shown → Change
written frame T spot new = renewed_by (marks_of spot.at) (new_terms frame T spot new) T

-- Branches and returns

-- a branch that is taken where its test is true and no earlier one is
pub record Branch : Type 0 where
  pub test : Term
  pub change : Change

abbrev pub writes : Slot → Change → Bool
writes slot change = is_some (change.first slot)

abbrev pub branch_chain : ℕ → Slot → List Branch → Change → Term
branch_chain frame slot [] otherwise = otherwise.now slot
branch_chain frame slot (b ∷ bs) otherwise =
    t.If (lifted frame (axes slot) b.test) (b.change.now slot) (branch_chain frame slot bs otherwise)

abbrev pub first_of_branches : Slot → List Branch → Change → Option Marks
first_of_branches slot [] otherwise = otherwise.first slot
first_of_branches slot (b ∷ bs) otherwise = or_else (b.change.first slot) (first_of_branches slot bs otherwise)

-- what a branch changes is given a choice over all tests in order
abbrev pub chosen : ℕ → Terms → List Branch → Change → Change
chosen frame T branches otherwise =
    record {
      now = λ slot. if is_some (first_of_branches slot branches otherwise)
          then branch_chain frame slot branches otherwise else T slot;
      first = λ slot. first_of_branches slot branches otherwise;
    }

abbrev pub kept_if_left : ℕ → Terms → Change → Slot → Term
kept_if_left frame T change slot =
    if writes slot change then t.If (lifted frame (axes slot) (T Leaving)) (T slot) (change.now slot) else change.now slot

-- where a `return` may have been met before, what a statement changes keeps its old term if one was
abbrev pub unless_returned : ℕ → Terms → Change → Change
unless_returned frame T change =
    if is_constant_false (T Leaving) then change else record change { now = kept_if_left frame T change }

-- Loops over all nodes

-- whether a term is the comparison of an axis with the variable of a loop
abbrev pub is_comparison : ℕ → ℕ → Term → Bool
is_comparison axis variable (SameForm (t.Var j) (t.Var k)) = nat_eq j axis && nat_eq k variable
is_comparison axis variable _ = false

unfoldable mutual
  -- a term in which no conjunction has the comparison of an axis with the variable of a loop
  pub dropped : ℕ → ℕ → Term → Term
  dropped axis variable (t.Known v) = t.Known v
  dropped axis variable (t.Var k) = t.Var k
  dropped axis variable (t.Read' family _ at) = t.Read family (row_dropped axis variable at)
  dropped axis variable (NotForm body) = t.Not (dropped axis variable body)
  dropped axis variable (t.And' _ parts) = t.And (row_without axis variable parts)
  dropped axis variable (t.Or' _ parts) = t.Or (row_dropped axis variable parts)
  dropped axis variable (IfForm test then' else') =
      t.If (dropped axis variable test) (dropped axis variable then') (dropped axis variable else')
  dropped axis variable (SameForm left right) = t.Same (dropped axis variable left) (dropped axis variable right)
  dropped axis variable (LessForm left right) = t.Less (dropped axis variable left) (dropped axis variable right)
  dropped axis variable (ArithForm op left right) =
      t.Arith op (dropped axis variable left) (dropped axis variable right)
  dropped axis variable (QuantifiedForm all body) = t.Quantified all (dropped axis variable body)

  pub row_dropped : {n : _} → ℕ → ℕ → Row_of-Term n → List Term
  row_dropped axis variable end_of-Term = []
  row_dropped axis variable (more_of-Term first rest) =
      dropped axis variable first ∷ row_dropped axis variable rest

  -- the parts of a conjunction but for the comparison
  pub row_without : {n : _} → ℕ → ℕ → Row_of-Term n → List Term
  row_without axis variable end_of-Term = []
  row_without axis variable (more_of-Term first rest) =
      if is_comparison axis variable first then row_without axis variable rest
      else dropped axis variable first ∷ row_without axis variable rest

-- the term of a family after all turns: that after the body, with the cell's own index at axis `k` in place of
-- the variable of the loop, which is the first after `frame`, and without the comparison of the two
abbrev pub closed : ℕ → ℕ → ℕ → Term → Term
closed frame count k body =
    placed (frame + count) (variables 0 frame ++ (t.Var (frame + k) ∷ variables frame count))
    (dropped (suc (frame + k)) frame body)

-- the first index that is the variable itself
abbrev pub axis_in : ℕ → Marks → Option ℕ
axis_in variable [] = None
axis_in variable (None ∷ marks) = option_map suc (axis_in variable marks)
axis_in variable (Some k ∷ marks) = if nat_eq k variable then Some 0 else option_map suc (axis_in variable marks)

-- the axis of a written family at which a loop keeps to its own cells
abbrev pub own_axis : ℕ → Change → Slot → Option ℕ
own_axis variable change slot = option_and_then (axis_in variable) (change.first slot)

-- what a loop over all nodes makes of the terms, given what its body does once: a family that the loop's variable
-- is no index of, as a local of a routine that it calls, keeps its term
abbrev pub over_nodes : ℕ → Terms → Change → Change
over_nodes frame T body =
    record {
      now = λ slot. option_map_or (λ k. closed frame (axes slot) k (body.now slot)) (own_axis frame body slot) (T slot);
      first = λ slot. option_and_then (λ k. body.first slot) (own_axis frame body slot);
    }
