-- The value of a term with N nodes. Every term has one: a part of a wrong kind counts as false, as 0 or
-- as an undefined index, and reading at an undefined index, or at a node that is none of the N, gives
-- undefined. A frame lists the nodes of the variables, from variable 0 on; a quantifier binds the
-- variable after those of the frame.
use Rattle.std.specs.Prelude.{ℕ, Bool, true, false, not, ◌&&◌, ◌||◌, int_lt, List, [], ◌∷◌, ◌++◌, Option, None, Some, if◌then◌else◌, slice_get}
use Rattle.std.specs.List.{list_all, list_any}
use Rattle.std.specs.Option.{option_map_or}
use Rattle.term_core.specs.declared.value.Value.{Value}
use Rattle.term_core.specs.declared.value.Value.TheVariants.{Undefined, Truth, Number, Node}
use Rattle.term_core.specs.declared.term.Term as t
use Rattle.term_core.specs.declared.term.Term.{Term, Row_of-Term, end_of-Term, more_of-Term}
use Rattle.term_core.specs.Nodes.{is_node, nodes}
use Rattle.term_core.specs.Values.{truth, number, same_value, arith}
use Rattle.term_core.specs.Forms.{NotForm, IfForm, SameForm, LessForm, ArithForm, QuantifiedForm}

-- the values of the cells: of each family, at the node indices
abbrev pub Cells : Type 0
Cells = ℕ → List ℕ → Value

-- the node of a variable; one that the frame does not bind is undefined
abbrev pub bound_node : List ℕ → ℕ → Value
bound_node frame k = option_map_or Node (slice_get frame k) Undefined

-- the node that a value is as an index, or none where it is undefined, of a wrong kind or no node of the N
abbrev pub index_of : ℕ → Value → Option ℕ
index_of N (Node n) = if is_node N n then Some n else None
index_of N _ = None

-- one index before others
abbrev pub with_index : Option ℕ → Option (List ℕ) → Option (List ℕ)
with_index (Some n) (Some ns) = Some (n ∷ ns)
with_index _ _ = None

-- the cell of a family at these indices; undefined where one of them is
abbrev pub cell_at : Cells → ℕ → Option (List ℕ) → Value
cell_at cells family None = Undefined
cell_at cells family (Some ns) = cells family ns

-- whether a test holds at all of these nodes, or at one of them
abbrev pub holds_at : Bool → (ℕ → Bool) → List ℕ → Bool
holds_at true test ns = list_all test ns
holds_at false test ns = list_any test ns

unfoldable mutual
  -- the value of a term
  pub value_of : ℕ → Cells → List ℕ → Term → Value
  value_of N cells frame (t.Known value) = value
  value_of N cells frame (t.Var k) = bound_node frame k
  value_of N cells frame (t.Read' family _ at) = cell_at cells family (row_indices N cells frame at)
  value_of N cells frame (NotForm body) = Truth (not (truth (value_of N cells frame body)))
  value_of N cells frame (t.And' _ parts) = Truth (row_all N cells frame parts)
  value_of N cells frame (t.Or' _ parts) = Truth (row_any N cells frame parts)
  value_of N cells frame (IfForm test then' else') =
      if truth (value_of N cells frame test) then value_of N cells frame then' else value_of N cells frame else'
  value_of N cells frame (SameForm left right) = Truth (same_value (value_of N cells frame left) (value_of N cells frame right))
  value_of N cells frame (LessForm left right) =
      Truth (int_lt (number (value_of N cells frame left)) (number (value_of N cells frame right)))
  value_of N cells frame (ArithForm op left right) =
      Number (arith op (number (value_of N cells frame left)) (number (value_of N cells frame right)))
  value_of N cells frame (QuantifiedForm all body) = Truth (holds_at all (λ n. truth (value_of N cells (frame ++ n ∷ []) body)) (nodes N))

  -- the indices that terms stand for, or none where one of them stands for no node
  pub row_indices : {n : _} → ℕ → Cells → List ℕ → Row_of-Term n → Option (List ℕ)
  row_indices N cells frame end_of-Term = Some []
  row_indices N cells frame (more_of-Term first rest) =
      with_index (index_of N (value_of N cells frame first)) (row_indices N cells frame rest)

  -- whether all terms are true
  pub row_all : {n : _} → ℕ → Cells → List ℕ → Row_of-Term n → Bool
  row_all N cells frame end_of-Term = true
  row_all N cells frame (more_of-Term first rest) = truth (value_of N cells frame first) && row_all N cells frame rest

  -- whether one of the terms is true
  pub row_any : {n : _} → ℕ → Cells → List ℕ → Row_of-Term n → Bool
  row_any N cells frame end_of-Term = false
  row_any N cells frame (more_of-Term first rest) = truth (value_of N cells frame first) || row_any N cells frame rest

-- whether a term is true
abbrev pub holds : ℕ → Cells → List ℕ → Term → Bool
holds N cells frame body = truth (value_of N cells frame body)
