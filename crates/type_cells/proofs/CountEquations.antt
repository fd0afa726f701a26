-- The cells of each form of type, in terms of the parts that code reads.
use Rattle.std.proofs.Common.{◌≡◌, ℕ, ◌+◌, ◌*◌, List, [], ◌∷◌, refl, ap, ◌∙◌}
use denote.Hole.Carrier.{hidden}
use Rattle.murphi_typed.specs.declared.types.Simple.{Simple}
use Rattle.murphi_typed.specs.declared.types.Field.{Field}
use Rattle.murphi_typed.specs.declared.types.AnyType as t
use Rattle.murphi_typed.specs.declared.types.AnyType.{AnyType, Row_of-Field, end_of-Field, more_of-Field, items-the_row-Field, items_hidden-the_row-Field-0, the_lemmas}
use Rattle.murphi_typed.specs.declared.types.AnyType.TheBlock.{shape-the_row-AnyType-1, hidden-the_row-AnyType-1, hidden-the_row-Field-0}
use Rattle.type_cells.specs.Counts.{value_count, cell_count, row_count, list_count}
use Rattle.type_parts.proofs.WeightLemmas.{stopped-stopped, stopped-left, stopped-right}
use Rattle.type_expressions.proofs.PartLemmas.{stopped-times}

pub count-Simple : (N : ℕ) (s : Simple) → cell_count N (t.Simple s) ≡ 1
unfolding cell_count
count-Simple N s = refl

row_count_is : {n : _} (N : ℕ) (row : Row_of-Field n) → row_count N row ≡ list_count N (items-the_row-Field n row)
unfolding cell_count
row_count_is N end_of-Field = refl
row_count_is N (more_of-Field name type rest) = ap (λ n. cell_count N type + n) (row_count_is N rest)

pub count-Record : (N : ℕ) (fs : List Field) → cell_count N (t.Record fs) ≡ list_count N fs
unfolding cell_count
count-Record N fs = row_count_is N (hidden-the_row-Field-0 fs) ∙ ap (list_count N) (items_hidden-the_row-Field-0 fs)

pub count-Array : (N : ℕ) (i : Simple) (a : AnyType) → cell_count N (t.Array i a) ≡ value_count N i * cell_count N a
unfolding cell_count shape-the_row-AnyType-1 hidden-the_row-AnyType-1 hidden
count-Array N i a = refl

pub ruleset counts = (count-Simple, count-Record, count-Array, stopped-stopped, stopped-left, stopped-right, stopped-times, the_lemmas)
