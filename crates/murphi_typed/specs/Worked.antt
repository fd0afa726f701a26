-- Worked cases of the meaning, each evaluated: what these say is proved by computing it.
-- The globals are `b, c : boolean; r : 0..3; q : -2..5; e : enum { A, B, C }; n, p : NODE;
-- a : array [NODE] of boolean; x : array [0..1] of 0..3; w, v : record f : boolean; g : 0..3; end; y as x`,
-- with two nodes. What a case does not name is undefined.
use Rattle.std.specs.Prelude.{◌≡◌, codes, ℕ, true, false, List, [], ◌∷◌, ℤ, pos, negsuc}
use Rattle.term_core.specs.declared.value.Value.{Value}
use Rattle.term_core.specs.declared.value.Value.TheVariants as value
use Rattle.murphi_ast.specs.declared.token.Span.{Span}
use Rattle.murphi_ast.specs.declared.expr.ChainOp.{ChainOp}
use Rattle.murphi_ast.specs.declared.expr.ChainOp.TheVariants as op
use Rattle.murphi_ast.specs.declared.expr.CompareOp.TheVariants as compare
use Rattle.murphi_typed.specs.declared.types.Simple.{Simple}
use Rattle.murphi_typed.specs.declared.types.Simple.TheVariants as simple
use Rattle.murphi_typed.specs.declared.expr.Root.TheVariants as root
use Rattle.murphi_typed.specs.declared.expr.Expr as x
use Rattle.murphi_typed.specs.declared.expr.Expr.{Expr, end_of-Expr, more_of-Expr, end_of-Link, more_of-Link}
use Rattle.murphi_typed.specs.declared.expr.Designator as d
use Rattle.murphi_typed.specs.declared.expr.Designator.{Designator, end_of-Selector, more_of-Selector}
use Rattle.murphi_typed.specs.declared.expr.Selector as select
use Rattle.murphi_typed.specs.declared.types.AnyType as t
use Rattle.murphi_typed.specs.declared.types.AnyType.{AnyType, end_of-Field, more_of-Field}
use Rattle.murphi_typed.specs.declared.protocol.Routine.{Routine}
use Rattle.murphi_typed.specs.declared.stmt.Stmt as s
use Rattle.murphi_typed.specs.declared.stmt.Stmt.{Stmt, Row_of-Stmt, end_of-Stmt, more_of-Stmt, end_of-Arm, more_of-Arm, end_of-Case, more_of-Case}
use Rattle.murphi_typed.specs.Forms.{NotForm, MinusForm, CompareForm, ImpliesForm, ChoiceForm, QuantifiedForm}
use Rattle.murphi_typed.specs.Store.{Global, Cells, blank, written, only}
use Rattle.murphi_typed.specs.Outcome.{Outcome, Got, Fault}
use Rattle.murphi_typed.specs.Expressions.{Scene, Calls, value_of}
use Rattle.murphi_typed.specs.Execution.{Ending, cells_after, run, routine_calls}

-- the place of the statement or guard that is running
abbrev pub here : Span
here = record { line = 1; column = 1 }

-- no routines
abbrev pub no_calls : Calls
no_calls k scene at gs cells = Fault at

abbrev pub two_nodes : Scene
two_nodes = record { nodes = 2; depth = 0; bound = []; formals = [] }

-- a global, one of its fields, and the cell of an index of it
abbrev pub global : ℕ → Designator
global k = d.Of' (root.Global k) [] end_of-Selector here

abbrev pub field : ℕ → List ℕ → Designator
field k name = d.Of' (root.Global k) (tt ∷ []) (more_of-Selector (select.Field name) end_of-Selector) here

abbrev pub item : ℕ → Simple → Expr → Designator
item k over index =
    d.Of' (root.Global k) (tt ∷ []) (more_of-Selector (select.Index over index) end_of-Selector) here

-- reads
abbrev pub the : ℕ → Expr
the k = x.Read (global k)

abbrev pub number : ℤ → Expr
number z = x.Known (value.Number z)

abbrev pub chain : Expr → ChainOp → Expr → Expr
chain left op right = x.Chain' tt (more_of-Expr left end_of-Expr) (tt ∷ []) (more_of-Link op right end_of-Link)

-- the cells in which one more cell of a global has a value
abbrev pub set : ℕ → List Value → Value → Cells → Cells
set k at v cells = written cells (record { owner = Global k; path = []; at = at }) (only v)

abbrev pub set_field : ℕ → List ℕ → Value → Cells → Cells
set_field k name v cells = written cells (record { owner = Global k; path = name ∷ []; at = [] }) (only v)

abbrev pub worked : Cells → Expr → Outcome Value
worked cells e = value_of no_calls two_nodes here cells e

abbrev pub is_true : Outcome Value
is_true = Got (value.Truth true)

abbrev pub is_false : Outcome Value
is_false = Got (value.Truth false)

abbrev pub faults : Outcome Value
faults = Fault here

abbrev pub is_number : ℤ → Outcome Value
is_number z = Got (value.Number z)

abbrev pub yes_ : Value
yes_ = value.Truth true

abbrev pub no_ : Value
no_ = value.Truth false

-- values of expressions
abbrev pub ExpressionsAreAsWorked : Type 0
ExpressionsAreAsWorked =
    -- `b & c`, b false and c undefined
    (worked (set 0 [] no_ blank) (chain (the 0) op.And (the 1)) ≡ is_false)
    -- `c & b`, the same
    × (worked (set 0 [] no_ blank) (chain (the 1) op.And (the 0)) ≡ faults)
    -- `b | c`, b true
    × (worked (set 0 [] yes_ blank) (chain (the 0) op.Or (the 1)) ≡ is_true)
    -- `b -> c`, b false
    × (worked (set 0 [] no_ blank) (ImpliesForm (the 0) (the 1)) ≡ is_true)
    -- `b ? r : q`, b true, r 1
    × (worked (set 0 [] yes_ (set 2 [] (value.Number (pos 1)) blank)) (ChoiceForm (the 0) (the 2) (the 3)) ≡ is_number
    (pos 1))
    -- `b = c`, c undefined
    × (worked (set 0 [] yes_ blank) (CompareForm compare.Equal (the 0) (the 1)) ≡ faults)
    -- `b != b`, b undefined
    × (worked blank (CompareForm compare.NotEqual (the 0) (the 0)) ≡ faults)
    -- `r = q`, both 2
    × (worked (set 2 [] (value.Number (pos 2)) (set 3 [] (value.Number (pos 2)) blank))
    (CompareForm compare.Equal (the 2) (the 3)) ≡ is_true)
    -- `r + q`, 3 and -2
    × (worked (set 2 [] (value.Number (pos 3)) (set 3 [] (value.Number (negsuc 1)) blank))
    (chain (the 2) op.Add (the 3)) ≡ is_number (pos 1))
    -- `-7 / 2`, `-7 % 2`, `7 / -2`
    × (worked blank (chain (MinusForm (number (pos 7))) op.Divide (number (pos 2))) ≡ is_number (negsuc 2))
    × (worked blank (chain (MinusForm (number (pos 7))) op.Modulo (number (pos 2))) ≡ is_number (negsuc 0))
    × (worked blank (chain (number (pos 7)) op.Divide (MinusForm (number (pos 2)))) ≡ is_number (negsuc 2))
    -- `1 / 0`, `1 % 0`
    × (worked blank (chain (number (pos 1)) op.Divide (number (pos 0))) ≡ faults)
    × (worked blank (chain (number (pos 1)) op.Modulo (number (pos 0))) ≡ faults)
    -- `32767 + 1`, `-32767 - 2`
    × (worked blank (chain (number (pos 32767)) op.Add (number (pos 1))) ≡ faults)
    × (worked blank (chain (MinusForm (number (pos 32767))) op.Subtract (number (pos 2))) ≡ faults)
    -- `(-32767 - 1) / -1`, `(-32767 - 1) % -1`
    × (worked blank (chain (chain (MinusForm (number (pos 32767))) op.Subtract (number (pos 1))) op.Divide
    (MinusForm (number (pos 1)))) ≡ faults)
    × (worked blank (chain (chain (MinusForm (number (pos 32767))) op.Subtract (number (pos 1))) op.Modulo
    (MinusForm (number (pos 1)))) ≡ is_number (pos 0))

-- the simple types of the globals
abbrev pub r_type : Simple
r_type = simple.Range (pos 0) (pos 3)

abbrev pub x_index : Simple
x_index = simple.Range (pos 0) (pos 1)

abbrev pub node : ℕ → Value
node n = value.Node n

abbrev pub num : ℕ → Value
num n = value.Number (pos n)

-- quantifiers, indices and undefined cells
abbrev pub QuantifiersAreAsWorked : Type 0
QuantifiersAreAsWorked =
    -- `forall i : NODE do a[i] end`, a[1] false and a[2] undefined: one instance faults
    (worked (set 7 (node 1 ∷ []) no_ blank)
    (QuantifiedForm true simple.Node (x.Read (item 7 simple.Node (x.Bound 0)))) ≡ faults)
    -- `exists i : NODE do a[i] end`, a[1] true and a[2] undefined
    × (worked (set 7 (node 1 ∷ []) yes_ blank)
    (QuantifiedForm false simple.Node (x.Read (item 7 simple.Node (x.Bound 0)))) ≡ faults)
    -- `exists i : NODE do a[i] end`, a[1] true and a[2] false
    × (worked (set 7 (node 1 ∷ []) yes_ (set 7 (node 2 ∷ []) no_ blank))
    (QuantifiedForm false simple.Node (x.Read (item 7 simple.Node (x.Bound 0)))) ≡ is_true)
    -- `forall i : 0..1 do x[i] >= 0 end`, x[0] = 1 and x[1] undefined
    × (worked (set 8 (num 0 ∷ []) (num 1) blank)
    (QuantifiedForm true x_index (CompareForm compare.GreaterEqual (x.Read (item 8 x_index (x.Bound 0)))
    (number (pos 0)))) ≡ faults)
    -- `isundefined(a[p])`, p undefined
    × (worked blank (x.IsUndefined (item 7 simple.Node (the 6))) ≡ faults)
    -- `isundefined(a[p])`, p = 1 and a[1] undefined
    × (worked (set 6 [] (node 1) blank) (x.IsUndefined (item 7 simple.Node (the 6))) ≡ is_true)
    -- `isundefined(i)` for a bound i is the constant false
    × (worked blank (QuantifiedForm true simple.Node (NotForm (x.Known no_))) ≡ is_true)
    -- `x[r]`, r = 3, then r undefined
    × (worked (set 2 [] (num 3) blank) (x.Read (item 8 x_index (the 2))) ≡ faults)
    × (worked blank (x.Read (item 8 x_index (the 2))) ≡ faults)
    -- `e = B`
    × (worked (set 4 [] (value.Member 0 1) blank) (CompareForm compare.Equal (the 4) (x.Known (value.Member 0 1)))
    ≡ is_true)

-- what runs
abbrev pub ran : List Routine → Cells → Stmt → Outcome Ending
ran routines cells body = run (routine_calls routines) two_nodes cells body

-- the value of a cell of a global after it
abbrev pub cell_after : ℕ → List Value → Outcome Ending → Outcome Value
cell_after k at (Got ending) = Got (cells_after ending (Global k) [] at)
cell_after k at (Fault place) = Fault place

abbrev pub field_after : ℕ → List ℕ → Outcome Ending → Outcome Value
field_after k name (Got ending) = Got (cells_after ending (Global k) (name ∷ []) [])
field_after k name (Fault place) = Fault place

abbrev pub undefined_cell : Outcome Value
undefined_cell = Got value.Undefined

abbrev pub assign : ℕ → Simple → Expr → Stmt
assign k into e = s.Assign (global k) into e

abbrev pub copy : ℕ → Simple → ℕ → Stmt
copy k into from = s.Copy (global k) into (global from)

abbrev pub f : List ℕ
f = codes "f"

abbrev pub g : List ℕ
g = codes "g"

-- the type of w and of v
abbrev pub pair_type : AnyType
pair_type =
    t.Record' (tt ∷ tt ∷ [])
    (more_of-Field f (t.Simple simple.Truth) (more_of-Field g (t.Simple r_type) end_of-Field))

abbrev pub e_type : Simple
e_type = simple.Listed 0 3

-- a place further down the text
abbrev pub there : Span
there = record { line = 2; column = 1 }

-- two statements in turn
abbrev pub two : Stmt → Stmt → Stmt
two a b = s.Block' (tt ∷ tt ∷ []) (more_of-Stmt a (more_of-Stmt b end_of-Stmt))

abbrev pub one : Stmt → Stmt
one a = s.Block' (tt ∷ []) (more_of-Stmt a end_of-Stmt)

-- assignments, `clear` and `undefine`
abbrev pub AssignmentsAreAsWorked : Type 0
AssignmentsAreAsWorked =
    -- `b := c`, c undefined
    (cell_after 0 [] (ran [] (set 0 [] yes_ blank) (copy 0 simple.Truth 1)) ≡ undefined_cell)
    -- `b := !c`, c undefined
    × (cell_after 0 [] (ran [] blank (assign 0 simple.Truth (NotForm (the 1)))) ≡ faults)
    -- `r := q`, q = 5, then q undefined
    × (cell_after 2 [] (ran [] (set 3 [] (num 5) blank) (copy 2 r_type 3)) ≡ faults)
    × (cell_after 2 [] (ran [] (set 2 [] (num 1) blank) (copy 2 r_type 3)) ≡ undefined_cell)
    -- `w := v`, v.f undefined and v.g = 2
    × (field_after 9 f (ran [] (set_field 9 f yes_ (set_field 10 g (num 2) blank)) (s.CopyAll (global 9) (global 10)))
    ≡ undefined_cell)
    × (field_after 9 g (ran [] (set_field 9 f yes_ (set_field 10 g (num 2) blank)) (s.CopyAll (global 9) (global 10)))
    ≡ is_number (pos 2))
    -- `x := y`, y[0] = 3 and y[1] undefined
    × (cell_after 8 (num 0 ∷ []) (ran [] (set 11 (num 0 ∷ []) (num 3) blank) (s.CopyAll (global 8) (global 11)))
    ≡ is_number (pos 3))
    × (cell_after 8 (num 1 ∷ []) (ran [] (set 8 (num 1 ∷ []) (num 1) (set 11 (num 0 ∷ []) (num 3) blank))
    (s.CopyAll (global 8) (global 11))) ≡ undefined_cell)
    -- `a[p] := b`, p undefined
    × (cell_after 7 (node 1 ∷ []) (ran [] blank (s.Copy (item 7 simple.Node (the 6)) simple.Truth (global 0)))
    ≡ faults)
    -- `clear` of r, q, b, e and w
    × (cell_after 2 [] (ran [] blank (s.Clear (global 2) (t.Simple r_type) here)) ≡ is_number (pos 0))
    × (cell_after 3 [] (ran [] blank (s.Clear (global 3) (t.Simple (simple.Range (negsuc 1) (pos 5))) here))
    ≡ is_number (negsuc 1))
    × (cell_after 0 [] (ran [] blank (s.Clear (global 0) (t.Simple simple.Truth) here)) ≡ is_false)
    × (cell_after 4 [] (ran [] blank (s.Clear (global 4) (t.Simple e_type) here)) ≡ Got (value.Member 0 0))
    × (field_after 9 f (ran [] blank (s.Clear (global 9) pair_type here)) ≡ is_false)
    × (field_after 9 g (ran [] blank (s.Clear (global 9) pair_type here)) ≡ is_number (pos 0))
    -- `clear n` leaves a node undefined
    × (cell_after 5 [] (ran [] (set 5 [] (node 1) blank) (s.Clear (global 5) (t.Simple simple.Node) here))
    ≡ undefined_cell)
    -- `undefine x`
    × (cell_after 8 (num 1 ∷ []) (ran [] (set 8 (num 1 ∷ []) (num 3) blank) (s.Undefine (global 8) here))
    ≡ undefined_cell)
    -- `error`, `assert b` with b undefined, false, true, and `put 1 / 0`
    × (cell_after 0 [] (ran [] blank (s.Error there)) ≡ Fault there)
    × (cell_after 0 [] (ran [] blank (s.Assert (the 0) there)) ≡ Fault there)
    × (cell_after 0 [] (ran [] (set 0 [] no_ blank) (s.Assert (the 0) there)) ≡ Fault there)
    × (cell_after 0 [] (ran [] (set 0 [] yes_ blank) (s.Assert (the 0) there)) ≡ is_true)
    × (cell_after 0 []
    (ran [] (set 0 [] yes_ blank) (s.Put (chain (number (pos 1)) op.Divide (number (pos 0))) there)) ≡ is_true)
