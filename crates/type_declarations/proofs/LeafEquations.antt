-- The leaves of each form of type, in terms of the parts that code reads.
use Rattle.std.proofs.Common.{◌≡◌, ℕ, ◌+◌, ◌*◌, List, [], ◌∷◌, refl, ap, ◌∙◌}
use denote.Hole.Carrier.{hidden}
use Rattle.murphi_typed.specs.declared.types.Simple.{Simple}
use Rattle.murphi_typed.specs.declared.types.Field.{Field}
use Rattle.murphi_typed.specs.declared.types.AnyType as t
use Rattle.murphi_typed.specs.declared.types.AnyType.{AnyType, Row_of-Field, end_of-Field, more_of-Field, items-the_row-Field, items_hidden-the_row-Field-0, the_lemmas}
use Rattle.murphi_typed.specs.declared.types.AnyType.TheBlock.{shape-the_row-AnyType-1, hidden-the_row-AnyType-1, hidden-the_row-Field-0}
use Rattle.murphi_types.specs.Weights.{turns, stopped}
use Rattle.murphi_types.specs.Leaves.{leaves, row_leaves}
use Rattle.type_declarations.specs.LeafLists.{list_leaves}
use Rattle.type_parts.proofs.WeightLemmas.{stopped-stopped, stopped-left, stopped-right}
use Rattle.type_expressions.proofs.PartLemmas.{stopped-times}

pub leaves-Simple : (s : Simple) → leaves (t.Simple s) ≡ 1
unfolding leaves
leaves-Simple s = refl

row_leaves_is : {n : _} (row : Row_of-Field n) → row_leaves row ≡ list_leaves (items-the_row-Field n row)
unfolding leaves
row_leaves_is end_of-Field = refl
row_leaves_is (more_of-Field name type rest) = ap (λ n. leaves type + n) (row_leaves_is rest)

pub leaves-Record : (fs : List Field) → leaves (t.Record fs) ≡ list_leaves fs
unfolding leaves
leaves-Record fs = row_leaves_is (hidden-the_row-Field-0 fs) ∙ ap list_leaves (items_hidden-the_row-Field-0 fs)

pub leaves-Array : (i : Simple) (a : AnyType) → leaves (t.Array i a) ≡ turns i * leaves a
unfolding leaves shape-the_row-AnyType-1 hidden-the_row-AnyType-1 hidden
leaves-Array i a = refl

pub ruleset counts = (leaves-Simple, leaves-Record, leaves-Array, stopped-stopped, stopped-left, stopped-right, stopped-times, the_lemmas)
