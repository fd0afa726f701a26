-- Worked cases of typing, each evaluated: what these say is proved by computing it. A place is a column of line 1.
-- The text has declared `const C : 3; M : -32767 - 1; type E : enum { A, B }; var b : boolean; r : 0..3;
-- a : array [0..1] of boolean; w : record f : boolean; g : 0..3 end; o : E;
-- function F(s : 0..3) : boolean; procedure P(var v : boolean);`, and further on it declares a routine G.
use Rattle.std.specs.Prelude.{◌≡◌, codes, ℕ, Bool, true, false, List, [], ◌∷◌, ℤ, pos, negsuc, Option, None, Some}
use Rattle.term_core.specs.declared.value.Value.TheVariants as value
use Rattle.murphi_ast.specs.declared.token.Span.{Span}
use Rattle.murphi_ast.specs.declared.expr.Named.{Named}
use Rattle.murphi_ast.specs.declared.expr.ChainOp.{ChainOp}
use Rattle.murphi_ast.specs.declared.expr.ChainOp.TheVariants as op
use Rattle.murphi_ast.specs.declared.expr.CompareOp.TheVariants as compare
use Rattle.murphi_ast.specs.declared.expr.Expr as e
use Rattle.murphi_ast.specs.declared.expr.Expr.{Expr, end_of-Expr, more_of-Expr, end_of-Link, more_of-Link, end_of-Selector, more_of-Selector}
use Rattle.murphi_ast.specs.declared.expr.Selector as part
use Rattle.murphi_ast.specs.declared.expr.TypeExpr as t
use Rattle.murphi_ast.specs.declared.expr.TypeExpr.{TypeExpr, end_of-FieldDecl, more_of-FieldDecl}
use Rattle.murphi_ast.specs.Forms.{NameForm, NotForm, CompareForm, ImpliesForm}
use Rattle.murphi_typed.specs.Families.{Name}
use Rattle.murphi_typed.specs.declared.types.Simple.{Simple}
use Rattle.murphi_typed.specs.declared.types.Simple.TheVariants as simple
use Rattle.murphi_typed.specs.declared.types.AnyType as typ
use Rattle.murphi_typed.specs.declared.types.AnyType.{AnyType, end_of-Field, more_of-Field}
use Rattle.murphi_typed.specs.declared.types.Kind.TheVariants as kind
use Rattle.murphi_typed.specs.declared.expr.Root.TheVariants as root
use Rattle.murphi_typed.specs.declared.expr.Expr as x
use Rattle.murphi_typed.specs.declared.expr.Designator as d
use Rattle.murphi_typed.specs.declared.expr.Arguments as arguments
use Rattle.murphi_typed.specs.declared.expr.Argument as argument
use Rattle.murphi_typed.specs.declared.expr.Selector as select
use Rattle.murphi_typed.specs.declared.stmt.Stmt as s
use Rattle.murphi_typed.specs.declared.protocol.Routine.{Routine}
use Rattle.murphi_typed.specs.declared.protocol.Formal.{Formal}
use Rattle.murphi_types.specs.declared.fault.Quantity.TheVariants as quantity
use Rattle.murphi_types.specs.declared.fault.Cause.{Cause}
use Rattle.murphi_types.specs.declared.fault.Cause.TheVariants as cause
use Rattle.murphi_types.specs.declared.fault.Fault.{Fault}
use Rattle.murphi_types.specs.declared.scope.Meaning.TheVariants as meaning
use Rattle.murphi_types.specs.declared.scope.Known.{Known}
use Rattle.murphi_types.specs.declared.scope.Scope.{Scope}
use Rattle.murphi_types.specs.Forms.{MinusForm, ChoiceForm, QuantifiedForm, RangeForm, ScalarsetForm, ArrayForm}
use Rattle.murphi_typed.specs.Forms as typed
use Rattle.murphi_types.specs.Constants.{is_constant, constant_number}
use Rattle.murphi_types.specs.Scopes.{entry}
use Rattle.murphi_types.specs.Faults.{first_fault}
use Rattle.murphi_types.specs.Typing.{found, type_found}
use Rattle.murphi_types.specs.Types.{Unnamed, AsNodes}

abbrev pub here : ℕ → Span
here column = record { line = 1; column = column }

abbrev pub named : Name → ℕ → Named
named name column = record { name = name; at = here column }

-- what the text has declared

abbrev pub pair : AnyType
pair =
    typ.Record' (tt ∷ tt ∷ []) (more_of-Field (codes "f") (typ.Simple simple.Truth)
    (more_of-Field (codes "g") (typ.Simple (simple.Range (pos 0) (pos 3))) end_of-Field))

abbrev pub nothing_done : s.Stmt
nothing_done = s.Block []

abbrev pub formal : Name → Bool → AnyType → Formal
formal name by_place type = record { name = name; by_place = by_place; of = type }

abbrev pub routine : Name → List Formal → Option Simple → Routine
routine name formals result =
    record { name = name; formals = formals; result = result; locals = []; body = nothing_done }

abbrev pub known : Known
known =
    record {
      names = entry (codes "C") (meaning.Constant (pos 3))
          ∷ entry (codes "M") (meaning.Constant (negsuc 32767))
          ∷ entry (codes "A") (meaning.Member 0 0 2)
          ∷ entry (codes "B") (meaning.Member 0 1 2)
          ∷ entry (codes "E") (meaning.TypeName (typ.Simple (simple.Listed 0 2)))
          ∷ entry (codes "b") (meaning.Variable (root.Global 0) (typ.Simple simple.Truth))
          ∷ entry (codes "r") (meaning.Variable (root.Global 1) (typ.Simple (simple.Range (pos 0) (pos 3))))
          ∷ entry (codes "a") (meaning.Variable (root.Global 2)
          (typed.ArrayForm (simple.Range (pos 0) (pos 1)) (typ.Simple simple.Truth)))
          ∷ entry (codes "w") (meaning.Variable (root.Global 3) pair)
          ∷ entry (codes "o") (meaning.Variable (root.Global 4) (typ.Simple (simple.Listed 0 2)))
          ∷ entry (codes "F") (meaning.Routine 0)
          ∷ entry (codes "P") (meaning.Routine 1) ∷ [];
      kinds = kind.Listed (codes "A" ∷ codes "B" ∷ []) ∷ [];
      globals = [];
      routines = routine (codes "F") (formal (codes "s") false (typ.Simple (simple.Range (pos 0) (pos 3))) ∷ [])
          (Some simple.Truth)
          ∷ routine (codes "P") (formal (codes "v") true (typ.Simple simple.Truth) ∷ []) None ∷ [];
      weights = 5 ∷ 7 ∷ [];
    }

-- outside all bodies, and in the body of a function
abbrev pub outside : Scope
outside =
    record {
      inner = [];
      bound = 0;
      in_function = false;
      routines = codes "F" ∷ codes "P" ∷ codes "G" ∷ [];
      node = None;
    }

abbrev pub inside : Scope
inside = record outside { in_function = true }

-- expressions as they are written, each with the columns of its names and numbers

abbrev pub name : Name → ℕ → Expr
name text column = NameForm (named text column)

abbrev pub number : ℕ → ℕ → Expr
number n column = e.Number n (here column)

abbrev pub truth : Bool → ℕ → Expr
truth b column = e.Truth b (here column)

abbrev pub chain : Expr → ChainOp → Expr → Expr
chain left op right =
    e.Chain' tt (more_of-Expr left end_of-Expr) (tt ∷ []) (more_of-Link op right end_of-Link)

abbrev pub equal : Expr → Expr → Expr
equal left right = CompareForm compare.Equal left right

abbrev pub item : Name → ℕ → Expr → Expr
item text column index =
    e.Place' (named text column) (tt ∷ []) (more_of-Selector (part.Index index) end_of-Selector)

abbrev pub field : Name → ℕ → Name → ℕ → Expr
field text column of at =
    e.Place' (named text column) (tt ∷ []) (more_of-Selector (part.Field (named of at)) end_of-Selector)

-- a call without arguments, and with one
abbrev pub call : Name → ℕ → Expr
call text column = e.Call' (named text column) [] end_of-Expr

abbrev pub call_with : Name → ℕ → Expr → Expr
call_with text column arg = e.Call' (named text column) (tt ∷ []) (more_of-Expr arg end_of-Expr)

-- what is found: the first fault, or the typed expression
abbrev pub first : Expr → Option Fault
first body = first_fault (found outside known body).faults

abbrev pub tree : Expr → x.Expr
tree body = (found outside known body).tree

abbrev pub fault : Cause → ℕ → Option Fault
fault cause column = Some (record { cause = cause; at = here column })

abbrev pub read : ℕ → ℕ → x.Expr
read number column = x.Read (d.Of (root.Global number) [] (here column))

abbrev pub ExpressionsAreAsWorked : Type 0
ExpressionsAreAsWorked =
    -- `r + 1`
    (tree (chain (name (codes "r") 1) op.Add (number 1 5)) ≡ x.Chain (read 1 1)
    (record { op = op.Add; operand = x.Known (value.Number (pos 1)) } ∷ []))
    × (first (chain (name (codes "r") 1) op.Add (number 1 5)) ≡ None)
    -- `b & r`: the operand that is no truth value
    × (first (chain (name (codes "b") 1) op.And (name (codes "r") 5)) ≡ fault cause.E07 5)
    -- `r & b`
    × (first (chain (name (codes "r") 1) op.And (name (codes "b") 5)) ≡ fault cause.E07 1)
    -- `b = 1`: of two unlike operands the right
    × (first (equal (name (codes "b") 1) (number 1 5)) ≡ fault cause.E07 5)
    -- `b = 1 + true`: the right side is ill-typed, so only what is wrong in it is named
    × (first (equal (name (codes "b") 1) (chain (number 1 5) op.Add (truth true 9))) ≡ fault cause.E07 9)
    -- `w = w`: a compound is wrong by itself
    × (first (equal (name (codes "w") 1) (name (codes "w") 5)) ≡ fault cause.E07 1)
    -- `o = A`, `o = C`
    × (first (equal (name (codes "o") 1) (name (codes "A") 5)) ≡ None)
    × (first (equal (name (codes "o") 1) (name (codes "C") 5)) ≡ fault cause.E07 5)
    -- `b ? 1 : true` and `b ? w : w`
    × (first (ChoiceForm (name (codes "b") 1) (number 1 5) (truth true 9)) ≡ fault cause.E07 9)
    × (first (ChoiceForm (name (codes "b") 1) (name (codes "w") 5) (name (codes "w") 9)) ≡ fault cause.E07 5)
    -- `-b`, `!r`, `b -> r`
    × (first (MinusForm (name (codes "b") 2) (here 1)) ≡ fault cause.E07 2)
    × (first (NotForm (name (codes "r") 2) (here 1)) ≡ fault cause.E07 2)
    × (first (ImpliesForm (name (codes "b") 1) (name (codes "r") 6)) ≡ fault cause.E07 6)

abbrev pub undefined : Name → ℕ → Expr
undefined text column = e.IsUndefined' (named text column) [] end_of-Selector (here 1)

abbrev pub DesignatorsAreAsWorked : Type 0
DesignatorsAreAsWorked =
    -- `z`, `E`, `F`: not declared, a type, a routine without parentheses
    (first (name (codes "z") 1) ≡ fault cause.E05 1)
    × (first (name (codes "E") 1) ≡ fault cause.E07 1)
    × (first (name (codes "F") 1) ≡ fault cause.E07 1)
    -- `C` is 3, `B` is the second enum name
    × (tree (name (codes "C") 1) ≡ x.Known (value.Number (pos 3)))
    × (tree (name (codes "B") 1) ≡ x.Known (value.Member 0 1))
    -- `w.h`: a field that the record has not; `b.f` and `b[1]`: no record, no array
    × (first (field (codes "w") 1 (codes "h") 3) ≡ fault cause.E05 3)
    × (first (field (codes "b") 1 (codes "f") 3) ≡ fault cause.E07 1)
    × (first (item (codes "b") 1 (number 1 3)) ≡ fault cause.E07 1)
    -- `a[b]`: an index of a wrong type
    × (first (item (codes "a") 1 (name (codes "b") 3)) ≡ fault cause.E07 3)
    -- `a[7]`: an index out of range is a fault of the run
    × (tree (item (codes "a") 1 (number 7 3)) ≡ x.Read (d.Of (root.Global 2)
    (select.Index (simple.Range (pos 0) (pos 1)) (x.Known (value.Number (pos 7))) ∷ []) (here 1)))
    × (first (item (codes "a") 1 (number 7 3)) ≡ None)
    -- `C.f`
    × (first (field (codes "C") 1 (codes "f") 3) ≡ fault cause.E07 1)
    -- `isundefined(C)`, `isundefined(b)`, `isundefined(w)`
    × (tree (undefined (codes "C") 13) ≡ x.Known (value.Truth false))
    × (tree (undefined (codes "b") 13) ≡ x.IsUndefined (d.Of (root.Global 0) [] (here 13)))
    × (first (undefined (codes "w") 13) ≡ fault cause.E07 13)

-- what is found in the body of a function
abbrev pub first_inside : Expr → Option Fault
first_inside body = first_fault (found inside known body).faults

abbrev pub CallsAreAsWorked : Type 0
CallsAreAsWorked =
    -- `F(r)`, `F(1)`
    (tree (call_with (codes "F") 1 (name (codes "r") 3)) ≡ x.Call 0
    (arguments.Of (argument.Copy (d.Of (root.Global 1) [] (here 3)) ∷ [])) (here 1))
    × (tree (call_with (codes "F") 1 (number 1 3)) ≡ x.Call 0
    (arguments.Of (argument.Value (x.Known (value.Number (pos 1))) ∷ [])) (here 1))
    × (first (call_with (codes "F") 1 (number 1 3)) ≡ None)
    -- `F()`, `F(b)`
    × (first (call (codes "F") 1) ≡ fault cause.E11 1)
    × (first (call_with (codes "F") 1 (name (codes "b") 3)) ≡ fault cause.E07 3)
    -- `P(b)`: a procedure as a value, and the same in a function
    × (first (call_with (codes "P") 1 (name (codes "b") 3)) ≡ fault cause.E11 1)
    × (first_inside (call_with (codes "P") 1 (name (codes "b") 3)) ≡ fault cause.E10 1)
    -- `G()`: ahead; `z()`: no routine of the text; `b()`: no routine
    × (first (call (codes "G") 1) ≡ fault cause.E10 1)
    × (first (call (codes "z") 1) ≡ fault cause.E05 1)
    × (first (call (codes "b") 1) ≡ fault cause.E07 1)

abbrev pub every : Name → ℕ → TypeExpr → Expr → Expr
every text column over body = QuantifiedForm true (named text column) over body (here 1)

abbrev pub range : Expr → Expr → TypeExpr
range low high = RangeForm low high

abbrev pub enum : ℕ → List Named → TypeExpr
enum column names = t.Listed names (here column)

abbrev pub QuantifiersAreAsWorked : Type 0
QuantifiersAreAsWorked =
    -- `forall b : 0..1 do b = 1 end`: an inner name hides the outer
    (tree (every (codes "b") 8 (range (number 0 12) (number 1 15)) (equal (name (codes "b") 20) (number 1 24)))
    ≡ x.Quantified true (simple.Range (pos 0) (pos 1))
    (x.Compare compare.Equal (x.Bound 0) (x.Known (value.Number (pos 1)))))
    -- `forall i : enum { X } do i = X end`: the names of an enum are declared from its end on
    × (tree (every (codes "i") 8 (enum 12 (named (codes "X") 19 ∷ []))
    (equal (name (codes "i") 26) (name (codes "X") 30))) ≡ x.Quantified true (simple.Listed 1 1)
    (x.Compare compare.Equal (x.Bound 0) (x.Known (value.Member 1 0))))
    -- `forall i : i..1 do b end`: not in its own type
    × (first (every (codes "i") 8 (range (name (codes "i") 12) (number 1 15)) (name (codes "b") 20))
    ≡ fault cause.E05 12)
    -- `forall i : record f : boolean end do b end`: a compound type
    × (first (every (codes "i") 8 (t.Fields' (tt ∷ [])
    (more_of-FieldDecl (named (codes "f") 19 ∷ []) (t.Truth (here 23)) end_of-FieldDecl) (here 12))
    (name (codes "b") 40)) ≡ fault cause.E07 12)

-- the numbers of typed constants
abbrev pub value_in : x.Expr → Option ℤ
value_in tree = constant_number (here 1) tree

abbrev pub lowest : x.Expr
lowest = x.Known (value.Number (negsuc 32767))

abbrev pub three : x.Expr
three = x.Known (value.Number (pos 3))

abbrev pub ConstantsAreAsWorked : Type 0
ConstantsAreAsWorked =
    -- `-C`, `-M`, which passes the range of numbers, and `true`
    (value_in (typed.MinusForm three) ≡ Some (negsuc 2))
    × (value_in (typed.MinusForm lowest) ≡ None)
    × (value_in (x.Known (value.Truth true)) ≡ None)
    -- `(false -> 3 = -M) ? 3 : M`: short cuts hold in constants
    × (value_in (typed.ChoiceForm (typed.ImpliesForm (x.Known (value.Truth false))
    (typed.CompareForm compare.Equal three (typed.MinusForm lowest))) three lowest) ≡ Some (pos 3))
    -- `C -> C`, `r`, `isundefined(C)`, `F(1)` and a quantifier: which of them are written as constants
    × (is_constant outside known (ImpliesForm (name (codes "C") 1) (name (codes "C") 6)) ≡ true)
    × (is_constant outside known (name (codes "r") 1) ≡ false)
    × (is_constant outside known (undefined (codes "C") 13) ≡ false)
    × (is_constant outside known (call_with (codes "F") 1 (number 1 3)) ≡ false)
    × (is_constant outside known (every (codes "i") 8 (t.Truth (here 12)) (truth true 23)) ≡ false)

-- the first fault of a type
abbrev pub first_of_type : TypeExpr → Option Fault
first_of_type type = first_fault (type_found outside known Unnamed type).faults

abbrev pub too_many : ℕ → ℕ → Option Fault
too_many count column = fault (cause.E16 quantity.Values count 256) column

abbrev pub TypesAreAsWorked : Type 0
TypesAreAsWorked =
    -- `3..2`, `0..C`, `0..r`, `0..true`
    (first_of_type (range (number 3 1) (number 2 4)) ≡ fault cause.E08 1)
    × ((type_found outside known Unnamed (range (number 0 1) (name (codes "C") 4))).type
    ≡ Some (typ.Simple (simple.Range (pos 0) (pos 3))))
    × (first_of_type (range (number 0 1) (name (codes "r") 4)) ≡ fault cause.E08 4)
    × (first_of_type (range (number 0 1) (truth true 4)) ≡ fault cause.E08 4)
    -- `0..255`, `0..256`
    × (first_of_type (range (number 0 1) (number 255 4)) ≡ None)
    × (first_of_type (range (number 0 1) (number 256 4)) ≡ too_many 257 1)
    -- `scalarset(0)`, `scalarset(300)`; of the node type any size from 1 on
    × (first_of_type (ScalarsetForm (number 0 11) (here 1)) ≡ fault cause.E08 1)
    × (first_of_type (ScalarsetForm (number 300 11) (here 1)) ≡ too_many 300 1)
    × ((type_found outside known AsNodes (ScalarsetForm (number 300 11) (here 1))).type
    ≡ Some (typ.Simple simple.Node))
    × (first_fault (type_found outside known AsNodes (ScalarsetForm (number 0 11) (here 1))).faults
    ≡ fault cause.E08 1)
    -- `array [w] of boolean` with `w` no type; `array [array [boolean] of boolean] of boolean`
    × (first_of_type (ArrayForm (t.Known (named (codes "w") 8)) (t.Truth (here 14)) (here 1)) ≡ fault cause.E07 8)
    × (first_of_type (ArrayForm (ArrayForm (t.Truth (here 15)) (t.Truth (here 27)) (here 8)) (t.Truth (here 40))
    (here 1)) ≡ fault cause.E07 8)
