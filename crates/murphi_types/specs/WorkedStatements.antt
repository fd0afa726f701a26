-- Worked cases of weights and of statements, beside the text of the other worked cases.
use Rattle.std.specs.Prelude.{◌≡◌, codes, ℕ, true, List, [], ◌∷◌, Option, None, Some}
use Rattle.term_core.specs.declared.value.Value.TheVariants as value
use Rattle.murphi_ast.specs.declared.expr.ChainOp.TheVariants as op
use Rattle.murphi_ast.specs.declared.expr.Expr.{Expr}
use Rattle.murphi_ast.specs.declared.expr.Designator.{Designator}
use Rattle.murphi_ast.specs.declared.stmt.Stmt as w
use Rattle.murphi_ast.specs.declared.stmt.Stmt.{Stmt, end_of-Stmt, more_of-Stmt, end_of-Arm, more_of-Arm, end_of-Case, more_of-Case}
use Rattle.murphi_typed.specs.Families.{Name}
use Rattle.murphi_typed.specs.declared.types.Simple.TheVariants as simple
use Rattle.murphi_typed.specs.declared.expr.Root.TheVariants as root
use Rattle.murphi_typed.specs.declared.expr.Expr as x
use Rattle.murphi_typed.specs.declared.expr.Designator as d
use Rattle.murphi_typed.specs.declared.stmt.Stmt as s
use Rattle.murphi_types.specs.declared.fault.Cause.TheVariants as cause
use Rattle.murphi_types.specs.declared.fault.Fault.{Fault}
use Rattle.murphi_types.specs.Faults.{first_fault}
use Rattle.murphi_types.specs.Typing.{found}
use Rattle.murphi_types.specs.Statements.{AtEnd, ByReturn, WithValue, stmt_found}
use Rattle.murphi_types.specs.Worked.{here, named, fault, name, number, truth, chain, item, field, range, outside, inside, known, every, undefined, call_with}

abbrev pub weight : Expr → ℕ
weight body = (found outside known body).weight

abbrev pub WeightsAreAsWorked : Type 0
WeightsAreAsWorked =
    -- `r`, `w.f`, `r + 1`, `a[r]`
    (weight (name (codes "r") 1) ≡ 1)
    × (weight (field (codes "w") 1 (codes "f") 3) ≡ 1)
    × (weight (chain (name (codes "r") 1) op.Add (number 1 5)) ≡ 3)
    × (weight (item (codes "a") 1 (name (codes "r") 3)) ≡ 2)
    -- `isundefined(C)`: an expression and a designator
    × (weight (undefined (codes "C") 13) ≡ 2)
    -- `forall i : 0..3 do b end`: once for each value; the bounds do not count
    × (weight (every (codes "i") 8 (range (number 0 12) (number 3 15)) (name (codes "b") 20)) ≡ 5)
    -- `F(1)`, where the body of F has the weight 5
    × (weight (call_with (codes "F") 1 (number 1 3)) ≡ 7)

abbrev pub plain : Name → ℕ → Designator
plain text column = record { root = named text column; selectors = [] }

abbrev pub assign : Name → Expr → Stmt
assign text body = w.Assign (plain text 1) body

-- one statement in a rule, in a procedure, and in a function whose result is a truth value
abbrev pub in_rule : Stmt → Option Fault
in_rule body = first_fault (stmt_found AtEnd outside known body).faults

abbrev pub in_procedure : Stmt → Option Fault
in_procedure body = first_fault (stmt_found ByReturn outside known body).faults

abbrev pub in_function : Stmt → Option Fault
in_function body = first_fault (stmt_found (WithValue (Some simple.Truth)) inside known body).faults

abbrev pub trees : Stmt → List s.Stmt
trees body = (stmt_found AtEnd outside known body).trees

abbrev pub global : ℕ → ℕ → d.Designator
global number column = d.Of (root.Global number) [] (here column)

-- `for i : 0..1 do body end`
abbrev pub loop : Stmt → Stmt
loop body =
    w.For' (record { name = named (codes "i") 5; over = range (number 0 9) (number 1 12) }) (tt ∷ [])
    (more_of-Stmt body end_of-Stmt) (here 1)

abbrev pub when : Expr → Stmt
when test = w.If' (tt ∷ []) (more_of-Arm test [] end_of-Stmt end_of-Arm) [] end_of-Stmt (here 1)

abbrev pub choose : Expr → Expr → Stmt
choose on label =
    w.Switch' on (tt ∷ []) (more_of-Case (label ∷ []) [] end_of-Stmt end_of-Case) [] end_of-Stmt (here 1)

abbrev pub AssignmentsAreAsWorked : Type 0
AssignmentsAreAsWorked =
    -- `b := r`, `b := true`, `b := b`, `w := w`, `o := B`
    (in_rule (assign (codes "b") (name (codes "r") 6)) ≡ fault cause.E07 6)
    × (trees (assign (codes "b") (truth true 6)) ≡ s.Assign (global 0 1) simple.Truth (x.Known (value.Truth true)) ∷ [])
    × (trees (assign (codes "b") (name (codes "b") 6)) ≡ s.Copy (global 0 1) simple.Truth (global 0 6) ∷ [])
    × (trees (assign (codes "w") (name (codes "w") 6)) ≡ s.CopyAll (global 3 1) (global 3 6) ∷ [])
    × (trees (assign (codes "o") (name (codes "B") 6))
    ≡ s.Assign (global 4 1) (simple.Listed 0 2) (x.Known (value.Member 0 1)) ∷ [])
    -- `w := true`
    × (in_rule (assign (codes "w") (truth true 6)) ≡ fault cause.E07 6)
    -- `C := 1`, `A := A`, and `i := 0` for the variable of a loop
    × (in_rule (assign (codes "C") (number 1 6)) ≡ fault cause.E14 1)
    × (in_rule (assign (codes "A") (name (codes "A") 6)) ≡ fault cause.E14 1)
    × (in_rule (loop (w.Assign (plain (codes "i") 17) (number 0 22))) ≡ fault cause.E14 17)
    -- `E := 1`: a type
    × (in_rule (assign (codes "E") (number 1 6)) ≡ fault cause.E07 1)
    -- in a function `b := true` and `undefine b` write a global, and `C := 1` a constant
    × (in_function (assign (codes "b") (truth true 6)) ≡ fault cause.E10 1)
    × (in_function (w.Undefine (plain (codes "b") 10) (here 1)) ≡ fault cause.E10 1)
    × (in_function (assign (codes "C") (number 1 6)) ≡ fault cause.E14 1)
    -- `clear C`
    × (in_rule (w.Clear (plain (codes "C") 7) (here 1)) ≡ fault cause.E14 7)

abbrev pub BodiesAreAsWorked : Type 0
BodiesAreAsWorked =
    -- `P(b)` in a rule and in a function; `F(1)` as a statement
    (in_rule (w.Call (named (codes "P") 1) (name (codes "b") 3 ∷ [])) ≡ None)
    × (in_function (w.Call (named (codes "P") 1) (name (codes "b") 3 ∷ [])) ≡ fault cause.E10 1)
    × (in_rule (w.Call (named (codes "F") 1) (number 1 3 ∷ [])) ≡ fault cause.E11 1)
    -- `if r then end`, `switch w ..`, `switch r case b : ..`, `switch r case 2 : ..`
    × (in_rule (when (name (codes "r") 4)) ≡ fault cause.E07 4)
    × (in_rule (choose (name (codes "w") 8) (number 2 15)) ≡ fault cause.E07 8)
    × (in_rule (choose (name (codes "r") 8) (name (codes "b") 15)) ≡ fault cause.E07 15)
    × (in_rule (choose (name (codes "r") 8) (number 2 15)) ≡ None)
    -- `return` and `return b` in a rule, a procedure and a function; `return r` in the function
    × (in_rule (w.Return None (here 1)) ≡ fault cause.E11 1)
    × (in_procedure (w.Return None (here 1)) ≡ None)
    × (in_procedure (w.Return (Some (name (codes "b") 8)) (here 1)) ≡ fault cause.E11 1)
    × (in_function (w.Return None (here 1)) ≡ fault cause.E11 1)
    × (in_function (w.Return (Some (name (codes "b") 8)) (here 1)) ≡ None)
    × (in_function (w.Return (Some (name (codes "r") 8)) (here 1)) ≡ fault cause.E07 8)
    -- `assert r`, `put w`
    × (in_rule (w.Assert (name (codes "r") 8) (here 1)) ≡ fault cause.E07 8)
    × (in_rule (w.Put (Some (name (codes "w") 5)) (here 1)) ≡ fault cause.E07 5)
    -- the weight of `for i : 0..1 do b := true end`
    × ((stmt_found AtEnd outside known (loop (w.Assign (plain (codes "b") 17) (truth true 22)))).weight ≡ 7)
