-- The simple types that field names lead to, in terms of the parts that code reads.
use Rattle.std.proofs.Common.{◌≡◌, ℕ, zero, suc, ◌+◌, ◌<◌, ◌≤◌, List, [], ◌∷◌, drop, length, None, Some, refl, ap, ◌∙◌, arith}
use Rattle.std.specs.Prelude.{slice_get}
use denote.Hole.Carrier.{hidden}
use Rattle.murphi_typed.specs.declared.types.Simple.{Simple}
use Rattle.murphi_typed.specs.declared.types.Field.{Field}
use Rattle.murphi_typed.specs.declared.types.AnyType as t
use Rattle.murphi_typed.specs.declared.types.AnyType.{AnyType, Row_of-Field, end_of-Field, more_of-Field, items-the_row-Field, items_hidden-the_row-Field-0, the_lemmas}
use Rattle.murphi_typed.specs.declared.types.AnyType.TheBlock.{hidden-the_row-Field-0, shape-the_row-AnyType-1, hidden-the_row-AnyType-1}
use Rattle.murphi_typed.specs.Families.{Name, Path, leaf_at, row_leaf}
use Rattle.std.specs.Str.{bytes_eq}
use Rattle.std.specs.Prelude.{if◌then◌else◌}
use Rattle.rule_parts.specs.Steps.{list_leaf}
use Rattle.rule_parts.proofs.ListLemmas.{drop_at, drop_end}

row_leaf_is : {n : _} (row : Row_of-Field n) (name : Name) (path : Path) → row_leaf row name path ≡ list_leaf (items-the_row-Field n row) name path
unfolding leaf_at
row_leaf_is end_of-Field name path = refl
row_leaf_is (more_of-Field field type rest) name path = ap (λ o. if bytes_eq field name then leaf_at type path else o) (row_leaf_is rest name path)

pub leaf-Simple : (one : Simple) (path : Path) (from : ℕ) → length path ≤ from → leaf_at (t.Simple one) (drop from path) ≡ Some one
unfolding leaf_at
leaf-Simple one path from e = ap (leaf_at (t.Simple one)) (drop_end path from e)

some_left : (path : Path) (from : ℕ) (one : Simple) → from < length path → leaf_at (t.Simple one) (drop from path) ≡ None
unfolding leaf_at
some_left [] from one e = absurd (omega (arith, e))
some_left (name ∷ path) zero one e = refl
some_left (name ∷ path) (suc from) one e = some_left path from one (omega (arith, e))

pub leaf-Simple-more : (one : Simple) (path : Path) (from : ℕ) → from < length path → leaf_at (t.Simple one) (drop from path) ≡ None
leaf-Simple-more one path from e = some_left path from one e

pub leaf-Record : (fields : List Field) (path : Path) (from : ℕ) (name : Name) → slice_get path from ≡ Some name → leaf_at (t.Record fields) (drop from path) ≡ list_leaf fields name (drop (from + 1) path)
unfolding leaf_at
leaf-Record fields path from name e =
    ap (leaf_at (t.Record fields)) (drop_at path from name e)
    ∙ row_leaf_is (hidden-the_row-Field-0 fields) name (drop (from + 1) path) ∙ ap (λ fs. list_leaf fs name (drop (from + 1) path)) (items_hidden-the_row-Field-0 fields)

pub leaf-Record-end : (fields : List Field) (path : Path) (from : ℕ) → length path ≤ from → leaf_at (t.Record fields) (drop from path) ≡ None
unfolding leaf_at
leaf-Record-end fields path from e = ap (leaf_at (t.Record fields)) (drop_end path from e)

pub leaf-Array : (index : Simple) (item : AnyType) (path : Path) → leaf_at (t.Array index item) path ≡ leaf_at item path
unfolding leaf_at shape-the_row-AnyType-1 hidden-the_row-AnyType-1 hidden
leaf-Array index item path = refl

pub ruleset leaves = (leaf-Simple, leaf-Simple-more, leaf-Record, leaf-Record-end, leaf-Array, the_lemmas)
