-- More worked cases of the translation, each evaluated: indices of finite types, functions, `switch`, records and
-- loops over finite types. The globals are `r : 0..1; x : array [0..1] of 0..3; w, v : record f : boolean;
-- g : 0..3; end; q : -2..5`, so the families are r, x[0], x[1], w.f, w.g, v.f, v.g, q.
use Rattle.std.specs.Prelude.{◌≡◌, codes, ℕ, List, [], ◌∷◌, map, pos, negsuc, None, Some}
use Rattle.term_core.specs.declared.value.Value.TheVariants as value
use Rattle.term_core.specs.declared.value.ArithOp.TheVariants as arith
use Rattle.term_core.specs.declared.term.Term as t
use Rattle.term_core.specs.declared.term.Term.{Term}
use Rattle.murphi_ast.specs.declared.expr.ChainOp.TheVariants as op
use Rattle.murphi_typed.specs.declared.types.Simple.TheVariants as simple
use Rattle.murphi_typed.specs.declared.types.AnyType as type
use Rattle.murphi_typed.specs.declared.expr.Expr as x
use Rattle.murphi_typed.specs.declared.expr.Expr.{Expr}
use Rattle.murphi_typed.specs.declared.expr.Argument as argument
use Rattle.murphi_typed.specs.declared.stmt.Stmt as s
use Rattle.murphi_typed.specs.declared.stmt.Stmt.{Stmt}
use Rattle.murphi_typed.specs.declared.protocol.Routine.{Routine}
use Rattle.murphi_typed.specs.declared.protocol.Rule.{Rule}
use Rattle.murphi_typed.specs.declared.protocol.Typed.{Typed}
use Rattle.murphi_typed.specs.Forms.{ArrayForm}
use Rattle.murphi_typed.specs.Worked.{there, the, number, global, item, chain, assign, one, pair_type, r_type, x_index}
use Rattle.murphi_typed.specs.WorkedBodies.{to_item, for_each, switch_two, routine, by_value, with_one, formal, result}
use Rattle.murphi_typed.specs.WorkedSteps.{variable, protocol, rule}
use Rattle.rule_inline.specs.Tables.{Key}
use Rattle.rule_inline.specs.Machine.{families_of, rule_at}
use Rattle.rule_inline.specs.Worked.{yes_, no_, undefined, cell, is_defined, piece, update, assigned, plain}

abbrev pub mixed : List Routine → List Rule → Typed
mixed routines rules =
    record (protocol []
    (variable (codes "r") (type.Simple x_index) ∷ variable (codes "x") (ArrayForm x_index (type.Simple r_type))
    ∷ variable (codes "w") pair_type ∷ variable (codes "v") pair_type ∷ variable (codes "q")
    (type.Simple (simple.Range (negsuc 1) (pos 5))) ∷ []) [] rules) {
      routines = routines;
      weights = [];
    }

abbrev pub plain_rule : Stmt → Rule
plain_rule body = rule [] None (one body)

abbrev pub num : ℕ → Term
num n = t.Known (value.Number (pos n))

abbrev pub at_most : Term → Term → Term
at_most left right = t.Not (t.Less right left)

abbrev pub within : ℕ → ℕ → Term → List Term
within low high e = at_most (num low) e ∷ at_most e (num high) ∷ []

-- `x[r]`
abbrev pub x_at_r : Term
x_at_r = t.If (t.And (t.Same (cell 0) (num 0) ∷ [])) (cell 1) (cell 2)

-- `x[r] + 1`, and what it demands
abbrev pub one_more : Term
one_more = t.Arith arith.Add x_at_r (num 1)

abbrev pub sum_fits : Term
sum_fits =
    t.If (t.Less (num 0) (num 1)) (at_most x_at_r (t.Arith arith.Subtract (num 32767) (num 1)))
    (at_most (t.Arith arith.Subtract (t.Known (value.Number (negsuc 32767))) (num 1)) x_at_r)

abbrev pub if_index : ℕ → Term → Term → Term
if_index k new old = t.If (t.And (t.Same (cell 0) (num k) ∷ [])) new old

-- `x[r] := x[r] + 1`
abbrev pub add_one : Rule
add_one =
    plain_rule (to_item 1 x_index (the 0) r_type (chain (x.Read (item 1 x_index (the 0))) op.Add (number (pos 1))))

-- `function F(s : 0..3) : 0..3; return s; end;`, and `r := F(q)`
abbrev pub same_again : Routine
same_again = routine (by_value r_type ∷ []) (Some r_type) [] (one (s.Return (x.Read (formal 0)) there))

abbrev pub from_function : Rule
from_function = plain_rule (assign 0 x_index (result (with_one (argument.Copy (global 4)))))

-- `switch r case 0 : r := 1; case q : r := 0; end`
abbrev pub turn_over : Rule
turn_over =
    plain_rule
    (switch_two (the 0) (number (pos 0)) (assign 0 x_index (number (pos 1))) (the 4)
    (assign 0 x_index (number (pos 0))))

-- `for i : 0..1 do x[i] := i; end`
abbrev pub count_up : Rule
count_up = plain_rule (for_each x_index (to_item 1 x_index (x.Bound 0) r_type (x.Bound 0)))

abbrev pub below : Term → List Term → Term → Term
below test rest must = t.Or (t.Not (t.And (test ∷ rest)) ∷ must ∷ [])

-- the families x[0] and x[1]
abbrev pub at : ℕ → Key
at n = Some (value.Number (pos n)) ∷ []

abbrev pub MixedAreAsWorked : Type 0
MixedAreAsWorked =
    (map (λ c. c.key) (families_of (mixed [] [])) ≡ [] ∷ at 0 ∷ at 1 ∷ [] ∷ [] ∷ [] ∷ [] ∷ [] ∷ [])
    -- an index of a finite type: a family for each value, with a test
    × ((rule_at (mixed [] []) add_one plain).updates ≡ update 1 (if_index 0 one_more (cell 1)) ∷ update 2
    (if_index 1 one_more (cell 2)) ∷ [])
    × ((rule_at (mixed [] []) add_one plain).ok ≡ piece 0 (yes_ ∷ []) (is_defined (cell 0)) ∷ piece 0 (yes_ ∷ [])
    (t.And (is_defined (cell 0) ∷ within 0 1 (cell 0))) ∷ piece 0 (yes_ ∷ []) (is_defined (cell 0)) ∷ piece 0
    (yes_ ∷ []) (t.And (is_defined (cell 0) ∷ within 0 1 (cell 0))) ∷ piece 0 (yes_ ∷ []) (is_defined x_at_r) ∷ piece
    0 (yes_ ∷ []) sum_fits ∷ piece 0 (yes_ ∷ []) (t.And (within 0 3 one_more)) ∷ [])
    -- a function: the formal may be undefined, the `return` reads it
    × ((rule_at (mixed (same_again ∷ []) []) from_function plain).updates ≡ update 0 (assigned (cell 7) (cell 0))
    ∷ [])
    × ((rule_at (mixed (same_again ∷ []) []) from_function plain).ok ≡ piece 0 (yes_ ∷ [])
    (t.Or (t.Same (cell 7) undefined ∷ t.And (within 0 3 (cell 7)) ∷ [])) ∷ piece 0 (yes_ ∷ []) (is_defined (cell 7))
    ∷ piece 0 (yes_ ∷ []) (t.And (within 0 3 (cell 7))) ∷ piece 0 (yes_ ∷ []) yes_ ∷ piece 0 (yes_ ∷ [])
    (t.And (within 0 1 (cell 7))) ∷ [])
    -- `switch`: the second label is worked out where the first is not the value
    × ((rule_at (mixed [] []) turn_over plain).updates ≡ update 0
    (t.If (t.Same (cell 0) (num 0)) (assigned (num 1) (cell 0))
    (t.If (t.Same (cell 0) (cell 7)) (assigned (num 0) (cell 0)) (cell 0))) ∷ [])
    × ((rule_at (mixed [] []) turn_over plain).ok ≡ piece 0 (yes_ ∷ []) (is_defined (cell 0)) ∷ piece 0
    (yes_ ∷ t.Same (cell 0) (num 0) ∷ []) (t.And (within 0 1 (num 1))) ∷ piece 0
    (yes_ ∷ t.Not (t.Same (cell 0) (num 0)) ∷ []) (is_defined (cell 7)) ∷ piece 0
    (yes_ ∷ t.Not (t.Same (cell 0) (num 0)) ∷ t.Same (cell 0) (cell 7) ∷ []) (t.And (within 0 1 (num 0))) ∷ [])
    -- a record is copied field by field, and `clear` gives each cell its own constant
    × ((rule_at (mixed [] []) (plain_rule (s.CopyAll (global 2) (global 3))) plain).updates ≡ update 3
    (assigned (cell 5) (cell 3)) ∷ update 4 (assigned (cell 6) (cell 4)) ∷ [])
    × ((rule_at (mixed [] []) (plain_rule (s.Clear (global 2) pair_type there)) plain).updates ≡ update 3
    (assigned no_ (cell 3)) ∷ update 4 (assigned (num 0) (cell 4)) ∷ [])
    -- a loop over a finite type is its turns
    × ((rule_at (mixed [] []) count_up plain).updates ≡ update 1
    (t.If (t.And (t.Same (num 1) (num 0) ∷ [])) (num 1)
    (t.If (t.And (t.Same (num 0) (num 0) ∷ [])) (num 0) (cell 1))) ∷ update 2
    (t.If (t.And (t.Same (num 1) (num 1) ∷ [])) (num 1)
    (t.If (t.And (t.Same (num 0) (num 1) ∷ [])) (num 0) (cell 2))) ∷ [])
