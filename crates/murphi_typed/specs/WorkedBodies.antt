-- Worked cases of bodies, calls and rules, each evaluated. The globals are those of the cases of expressions,
-- and `A : array [NODE] of NODE` as number 12.
use Rattle.std.specs.Prelude.{◌≡◌, codes, ℕ, true, false, List, [], ◌∷◌, pos, Option, None, Some}
use Rattle.term_core.specs.declared.value.Value.TheVariants as value
use Rattle.murphi_typed.specs.declared.types.Simple.{Simple}
use Rattle.murphi_typed.specs.declared.types.Simple.TheVariants as simple
use Rattle.murphi_typed.specs.declared.types.AnyType as t
use Rattle.murphi_typed.specs.declared.types.AnyType.{AnyType}
use Rattle.murphi_typed.specs.declared.expr.Root.TheVariants as root
use Rattle.murphi_typed.specs.declared.expr.Expr as x
use Rattle.murphi_typed.specs.declared.expr.Expr.{Expr}
use Rattle.murphi_typed.specs.declared.expr.Designator as d
use Rattle.murphi_typed.specs.declared.expr.Designator.{Designator, end_of-Selector, more_of-Selector}
use Rattle.murphi_typed.specs.declared.expr.Arguments as a
use Rattle.murphi_typed.specs.declared.expr.Arguments.{Arguments, end_of-Argument, more_of-Argument}
use Rattle.murphi_typed.specs.declared.expr.Argument as argument
use Rattle.murphi_typed.specs.declared.expr.Argument.{Argument}
use Rattle.murphi_typed.specs.declared.stmt.Stmt as s
use Rattle.murphi_typed.specs.declared.stmt.Stmt.{Stmt, end_of-Stmt, more_of-Stmt, end_of-Arm, more_of-Arm, end_of-Case, more_of-Case}
use Rattle.murphi_typed.specs.declared.protocol.Formal.{Formal as DeclaredFormal}
use Rattle.murphi_typed.specs.declared.protocol.Variable.{Variable}
use Rattle.murphi_typed.specs.declared.protocol.Routine.{Routine}
use Rattle.murphi_typed.specs.Forms.{NotForm}
use Rattle.murphi_typed.specs.Store.{blank}
use Rattle.murphi_typed.specs.Outcome.{Got, Fault}
use Rattle.murphi_typed.specs.Worked.{here, there, the, number, global, item, set, node, num, yes_, no_, r_type, e_type, ran, cell_after, undefined_cell, is_true, is_false, is_number, faults, assign, one, two}

abbrev pub if_one : Expr → Stmt → Stmt
if_one test body =
    s.If' (tt ∷ []) (more_of-Arm test (tt ∷ []) (more_of-Stmt body end_of-Stmt) end_of-Arm) [] end_of-Stmt there

abbrev pub if_two : Expr → Stmt → Expr → Stmt → Stmt
if_two test body other last =
    s.If' (tt ∷ tt ∷ [])
    (more_of-Arm test (tt ∷ []) (more_of-Stmt body end_of-Stmt)
    (more_of-Arm other (tt ∷ []) (more_of-Stmt last end_of-Stmt) end_of-Arm)) [] end_of-Stmt there

abbrev pub switch_two : Expr → Expr → Stmt → Expr → Stmt → Stmt
switch_two on label body other last =
    s.Switch' on (tt ∷ tt ∷ []) (more_of-Case (label ∷ []) (tt ∷ []) (more_of-Stmt body end_of-Stmt)
    (more_of-Case (other ∷ []) (tt ∷ []) (more_of-Stmt last end_of-Stmt) end_of-Case)) [] end_of-Stmt there

abbrev pub for_each : Simple → Stmt → Stmt
for_each over body = s.For' over (tt ∷ []) (more_of-Stmt body end_of-Stmt) there

-- `b := true` and `b := false`
abbrev pub set_b : Stmt
set_b = assign 0 simple.Truth (x.Known yes_)

abbrev pub clear_b : Stmt
clear_b = assign 0 simple.Truth (x.Known no_)

abbrev pub to_item : ℕ → Simple → Expr → Simple → Expr → Stmt
to_item k over index into body = s.Assign (item k over index) into body

-- tests, cases and loops
abbrev pub ChoicesAreAsWorked : Type 0
ChoicesAreAsWorked =
    -- `A[p] := q; a[A[p]] := true`, p = 1, q = 2 and A[1] = 1: the index of the second write is read after the first
    (cell_after 7 (node 2 ∷ []) (ran [] (set 6 [] (node 1) (set 5 [] (node 2) (set 12 (node 1 ∷ []) (node 1) blank)))
    (two (to_item 12 simple.Node (the 6) simple.Node (the 5))
    (to_item 7 simple.Node (x.Read (item 12 simple.Node (the 6))) simple.Truth (x.Known yes_)))) ≡ is_true)
    × (cell_after 7 (node 1 ∷ [])
    (ran [] (set 6 [] (node 1) (set 5 [] (node 2) (set 12 (node 1 ∷ []) (node 1) blank)))
    (two (to_item 12 simple.Node (the 6) simple.Node (the 5))
    (to_item 7 simple.Node (x.Read (item 12 simple.Node (the 6))) simple.Truth (x.Known yes_)))) ≡ undefined_cell)
    -- `if c then b := true; end`, c undefined, then c false
    × (cell_after 0 [] (ran [] blank (if_one (the 1) set_b)) ≡ Fault there)
    × (cell_after 0 [] (ran [] (set 1 [] no_ blank) (if_one (the 1) set_b)) ≡ undefined_cell)
    -- `if b then b := false; elsif c then b := true; end`, b true and c undefined
    × (cell_after 0 [] (ran [] (set 0 [] yes_ blank) (if_two (the 0) clear_b (the 1) set_b)) ≡ is_false)
    -- `switch r case 1 : b := false; case q : b := true; end`, r = 1 and q undefined; then the cases turned over
    × (cell_after 0 [] (ran [] (set 2 [] (num 1) blank) (switch_two (the 2) (number (pos 1)) clear_b (the 3) set_b))
    ≡ is_false)
    × (cell_after 0 [] (ran [] (set 2 [] (num 1) blank) (switch_two (the 2) (the 3) set_b (number (pos 1)) clear_b))
    ≡ Fault there)
    -- `for i : NODE do a[i] := false; end`
    × (cell_after 7 (node 1 ∷ [])
    (ran [] blank (for_each simple.Node (to_item 7 simple.Node (x.Bound 0) simple.Truth (x.Known no_))))
    ≡ is_false)
    × (cell_after 7 (node 2 ∷ [])
    (ran [] blank (for_each simple.Node (to_item 7 simple.Node (x.Bound 0) simple.Truth (x.Known no_))))
    ≡ is_false)
    -- `for e1 : E do e := e1; end` ends with C, `for c1 : boolean do b := c1; end` with true, and `for i : 0..3` with 3
    × (cell_after 4 [] (ran [] blank (for_each e_type (assign 4 e_type (x.Bound 0)))) ≡ Got (value.Member 0 2))
    × (cell_after 0 [] (ran [] blank (for_each simple.Truth (assign 0 simple.Truth (x.Bound 0)))) ≡ is_true)
    × (cell_after 2 [] (ran [] blank (for_each r_type (assign 2 r_type (x.Bound 0)))) ≡ is_number (pos 3))

abbrev pub by_value : Simple → DeclaredFormal
by_value type = record { name = codes "s"; by_place = false; of = t.Simple type }

abbrev pub by_place : Simple → DeclaredFormal
by_place type = record { name = codes "t"; by_place = true; of = t.Simple type }

abbrev pub routine : List DeclaredFormal → Option Simple → List Variable → Stmt → Routine
routine formals result locals body =
    record { name = codes "P"; formals = formals; result = result; locals = locals; body = body }

abbrev pub with_one : Argument → Arguments
with_one first = a.Of' (tt ∷ []) (more_of-Argument first end_of-Argument)

abbrev pub with_two : Argument → Argument → Arguments
with_two first second = a.Of' (tt ∷ tt ∷ []) (more_of-Argument first (more_of-Argument second end_of-Argument))

abbrev pub with_none : Arguments
with_none = a.Of' [] end_of-Argument

-- formals and locals as designators, further down the text
abbrev pub standing : ℕ → Designator
standing k = d.Of' (root.Place k) [] end_of-Selector there

abbrev pub formal : ℕ → Designator
formal k = d.Of' (root.Formal k) [] end_of-Selector there

abbrev pub local : ℕ → Designator
local k = d.Of' (root.Local k) [] end_of-Selector there

-- `b`, further down the text
abbrev pub late_b : Designator
late_b = d.Of' (root.Global 0) [] end_of-Selector there

abbrev pub call : Arguments → Stmt
call args = s.Call 0 args here

-- `procedure P(var t : boolean; s : boolean); t := true; b := s; end;`
abbrev pub aliasing : Routine
aliasing =
    routine (by_place simple.Truth ∷ by_value simple.Truth ∷ []) None []
    (two (s.Assign (standing 0) simple.Truth (x.Known yes_)) (s.Copy late_b simple.Truth (formal 1)))

-- `procedure P(var t : boolean; k : NODE); p := k; t := true; end;`
abbrev pub moving : Routine
moving =
    routine (by_place simple.Truth ∷ by_value simple.Node ∷ []) None []
    (two (s.Copy (global 6) simple.Node (formal 1)) (s.Assign (standing 0) simple.Truth (x.Known yes_)))

-- `procedure P(s : boolean); b := s; end;`, and with `b := !s`
abbrev pub copying : Routine
copying = routine (by_value simple.Truth ∷ []) None [] (one (s.Copy late_b simple.Truth (formal 0)))

abbrev pub turning : Routine
turning =
    routine (by_value simple.Truth ∷ []) None [] (one (s.Assign late_b simple.Truth (NotForm (x.Read (formal 0)))))

-- `function F() : 0..3; return 4; end;`
abbrev pub too_much : Routine
too_much = routine [] (Some r_type) [] (one (s.Return (number (pos 4)) there))

-- `function F() : 0..3; if b then return 1; end; end;`
abbrev pub sometimes : Routine
sometimes = routine [] (Some r_type) [] (one (if_one (the 0) (s.Return (number (pos 1)) there)))

-- `function F(s : 0..3) : 0..3; return s; end;`
abbrev pub same_again : Routine
same_again = routine (by_value r_type ∷ []) (Some r_type) [] (one (s.Return (x.Read (formal 0)) there))

-- `procedure P(); var l : boolean; begin b := l; l := true; end;`
abbrev pub forgetting : Routine
forgetting =
    routine [] None (record { name = codes "l"; of = t.Simple simple.Truth } ∷ [])
    (two (s.Copy late_b simple.Truth (local 0)) (s.Assign (local 0) simple.Truth (x.Known yes_)))

-- `procedure P(); for i : 0..3 do r := i; return; end; b := true; end;`
abbrev pub leaving : Routine
leaving =
    routine [] None []
    (two
    (s.For' r_type (tt ∷ tt ∷ [])
    (more_of-Stmt (assign 2 r_type (x.Bound 0)) (more_of-Stmt (s.Leave there) end_of-Stmt)) there) set_b)

abbrev pub result : Arguments → Expr
result args = x.Call 0 args here

-- calls
abbrev pub CallsAreAsWorked : Type 0
CallsAreAsWorked =
    -- `P(b, b)`, b false: inside, t is the cell of b, and s keeps false
    (cell_after 0 []
    (ran (aliasing ∷ []) (set 0 [] no_ blank)
    (call (with_two (argument.Place (global 0)) (argument.Copy (global 0))))) ≡ is_false)
    -- `P(a[p], 2)`, p = 1: the place is taken at the call
    × (cell_after 7 (node 1 ∷ [])
    (ran (moving ∷ []) (set 6 [] (node 1) blank)
    (call (with_two (argument.Place (item 7 simple.Node (the 6))) (argument.Value (x.Known (node 2))))))
    ≡ is_true)
    × (cell_after 6 []
    (ran (moving ∷ []) (set 6 [] (node 1) blank)
    (call (with_two (argument.Place (item 7 simple.Node (the 6))) (argument.Value (x.Known (node 2)))))) ≡ Got
    (node 2))
    -- `P(c)`, c undefined: the formal is undefined, and so is b; with `!s` the fault is at that `b`
    × (cell_after 0 [] (ran (copying ∷ []) (set 0 [] no_ blank) (call (with_one (argument.Copy (global 1)))))
    ≡ undefined_cell)
    × (cell_after 0 [] (ran (turning ∷ []) blank (call (with_one (argument.Copy (global 1))))) ≡ Fault there)
    -- `r := F();` with the result 4, and where F ends without `return`: the statement that holds the call
    × (cell_after 2 [] (ran (too_much ∷ []) blank (assign 2 r_type (result with_none))) ≡ faults)
    × (cell_after 2 [] (ran (sometimes ∷ []) (set 0 [] no_ blank) (assign 2 r_type (result with_none))) ≡ faults)
    × (cell_after 2 [] (ran (sometimes ∷ []) (set 0 [] yes_ blank) (assign 2 r_type (result with_none))) ≡ is_number
    (pos 1))
    -- `r := F(r);`, r undefined: the `return`
    × (cell_after 2 [] (ran (same_again ∷ []) blank (assign 2 r_type (result (with_one (argument.Copy (global 2))))))
    ≡ Fault there)
    -- `r := F(q);`, q = 5: the formal has the type 0..3, so the call faults
    × (cell_after 2 []
    (ran (same_again ∷ []) (set 3 [] (num 5) blank)
    (assign 2 r_type (result (with_one (argument.Copy (global 3)))))) ≡ faults)
    -- `P(); P();`: a local is undefined at each entry
    × (cell_after 0 [] (ran (forgetting ∷ []) (set 0 [] no_ blank) (two (call with_none) (call with_none)))
    ≡ undefined_cell)
    -- `return` inside a `for` leaves the procedure, not only the turn
    × (cell_after 2 [] (ran (leaving ∷ []) blank (call with_none)) ≡ is_number (pos 0))
    × (cell_after 0 [] (ran (leaving ∷ []) blank (call with_none)) ≡ undefined_cell)
    -- a routine calls one before it in the text
    × (cell_after 2 [] (ran (too_much ∷ routine [] None [] (one (assign 2 r_type (result with_none))) ∷ []) blank
    (s.Call 1 with_none there)) ≡ faults)
