-- Leaves: the cells of variables with one node. Those of all globals, and those of the locals of one routine, rule or
-- start state, are limited; formals do not count.
use Rattle.std.specs.Prelude.{ℕ, ◌+◌, ◌*◌, nat_le, List, [], ◌∷◌}
use Rattle.murphi_ast.specs.declared.expr.Named.{Named}
use Rattle.murphi_typed.specs.declared.types.AnyType as t
use Rattle.murphi_typed.specs.declared.types.AnyType.{AnyType, Row_of-Field, end_of-Field, more_of-Field}
use Rattle.murphi_typed.specs.declared.protocol.Variable.{Variable}
use Rattle.murphi_typed.specs.Forms.{ArrayForm}
use Rattle.murphi_types.specs.declared.fault.Quantity.TheVariants as quantity
use Rattle.murphi_types.specs.declared.fault.Cause.TheVariants as cause
use Rattle.murphi_types.specs.declared.fault.Fault.{Fault}
use Rattle.murphi_types.specs.Faults.{unless}
use Rattle.murphi_types.specs.Weights.{turns, stopped}

unfoldable mutual
  -- the cells of a variable of some type, with one node
  pub leaves : AnyType → ℕ
  leaves (t.Simple type) = 1
  leaves (t.Record' _ fields) = row_leaves fields
  leaves (ArrayForm index item) = turns index * leaves item

  pub row_leaves : {n : _} → Row_of-Field n → ℕ
  row_leaves end_of-Field = 0
  row_leaves (more_of-Field name type rest) = leaves type + row_leaves rest

abbrev pub leaves_of : List Variable → ℕ
leaves_of [] = 0
leaves_of (v ∷ vs) = leaves v.of + leaves_of vs

abbrev pub most_leaves : ℕ
most_leaves = 4000

-- the variables of one body up to a declaration `names : type`: E16 at its first name where they have too many
abbrev pub leaf_faults : List Named → List Variable → List Fault
leaf_faults [] variables = []
leaf_faults (n ∷ ns) variables =
    unless (nat_le (leaves_of variables) most_leaves)
    (cause.E16 quantity.Leaves (stopped (leaves_of variables)) most_leaves) n.at
