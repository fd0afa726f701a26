-- The numbers of cells of each form of type, in terms of the parts that code reads.
use Rattle.std.proofs.Common.{◌≡◌, ℕ, zero, suc, ◌+◌, ◌*◌, ◌≤◌, List, [], ◌∷◌, drop, length, Some, refl, ap, ◌∙◌, arith}
use Rattle.std.specs.Prelude.{slice_get, if◌then◌else◌}
use Rattle.std.specs.Str.{bytes_eq}
use denote.Hole.Carrier.{hidden}
use Rattle.term_core.specs.declared.value.Value.{Value}
use Rattle.murphi_typed.specs.declared.types.Simple.{Simple}
use Rattle.murphi_typed.specs.declared.types.Field.{Field}
use Rattle.murphi_typed.specs.declared.types.AnyType as t
use Rattle.murphi_typed.specs.declared.types.AnyType.{AnyType, Row_of-Field, end_of-Field, more_of-Field, items-the_row-Field, items_hidden-the_row-Field-0, the_lemmas}
use Rattle.murphi_typed.specs.declared.types.AnyType.TheBlock.{hidden-the_row-Field-0, shape-the_row-AnyType-1, hidden-the_row-AnyType-1}
use Rattle.murphi_typed.specs.Families.{Name, Path}
use Rattle.murphi_run.specs.Layout.{name_before, value_count, rank, size, row_size, row_first, offset, row_offset}
use Rattle.murphi_run.specs.Lists.{list_size, list_first, list_offset}

drop_end : {A : Type 0} (xs : List A) (n : ℕ) → length xs ≤ n → drop n xs ≡ []
drop_end [] zero e = refl
drop_end [] (suc n) e = refl
drop_end (x ∷ xs) zero e = absurd (omega (arith, e))
drop_end (x ∷ xs) (suc n) e = drop_end xs n (omega (arith, e))

drop_at : {A : Type 0} (xs : List A) (n : ℕ) (x : A) → slice_get xs n ≡ Some x → drop n xs ≡ x ∷ drop (n + 1) xs
drop_at [] n x e = cc
drop_at (y ∷ xs) zero x e = let s : y ≡ x = cc in ap (λ z. z ∷ xs) s
drop_at (y ∷ xs) (suc n) x e =
    let h : suc (n + 1) ≡ suc n + 1 = omega arith in
    drop_at xs n x e ∙ ap (λ k. x ∷ drop k (y ∷ xs)) h

pub size-Simple : (N : ℕ) (s : Simple) → size N (t.Simple s) ≡ 1
unfolding size
size-Simple N s = refl

row_size_is : {n : _} (N : ℕ) (row : Row_of-Field n) → row_size N row ≡ list_size N (items-the_row-Field n row)
unfolding size
row_size_is N end_of-Field = refl
row_size_is N (more_of-Field name type rest) = ap (λ k. size N type + k) (row_size_is N rest)

pub size-Record : (N : ℕ) (fs : List Field) → size N (t.Record fs) ≡ list_size N fs
unfolding size
size-Record N fs = row_size_is N (hidden-the_row-Field-0 fs) ∙ ap (list_size N) (items_hidden-the_row-Field-0 fs)

pub size-Array : (N : ℕ) (i : Simple) (a : AnyType) → size N (t.Array i a) ≡ size N a * value_count N i
unfolding size shape-the_row-AnyType-1 hidden-the_row-AnyType-1 hidden
size-Array N i a = refl

row_first_is : {n : _} (N : ℕ) (row : Row_of-Field n) (name : Name) → row_first N row name ≡ list_first N (items-the_row-Field n row) name
row_first_is N end_of-Field name = refl
row_first_is N (more_of-Field field type rest) name = ap (λ k. if name_before field name then size N type + k else k) (row_first_is N rest name)

row_offset_is : {n : _} (N : ℕ) (row : Row_of-Field n) (name : Name) (path : Path) (at : List Value) → row_offset N row name path at ≡ list_offset N (items-the_row-Field n row) name path at
unfolding offset
row_offset_is N end_of-Field name path at = refl
row_offset_is N (more_of-Field field type rest) name path at = ap (λ k. if bytes_eq field name then offset N type path at else k) (row_offset_is N rest name path at)

pub offset-Simple : (N : ℕ) (s : Simple) (path : Path) (at : List Value) → offset N (t.Simple s) path at ≡ 0
unfolding offset
offset-Simple N s path at = refl

pub offset-Record : (N : ℕ) (fs : List Field) (path : Path) (from : ℕ) (name : Name) (at : List Value) → slice_get path from ≡ Some name → offset N (t.Record fs) (drop from path) at ≡ list_first N fs name + list_offset N fs name (drop (from + 1) path) at
unfolding offset
offset-Record N fs path from name at e =
    ap (λ p. offset N (t.Record fs) p at) (drop_at path from name e)
    ∙ ap (λ k. k + row_offset N (hidden-the_row-Field-0 fs) name (drop (from + 1) path) at) (row_first_is N (hidden-the_row-Field-0 fs) name)
    ∙ ap (λ k. list_first N (items-the_row-Field _ (hidden-the_row-Field-0 fs)) name + k) (row_offset_is N (hidden-the_row-Field-0 fs) name (drop (from + 1) path) at)
    ∙ ap (λ gs. list_first N gs name + list_offset N gs name (drop (from + 1) path) at) (items_hidden-the_row-Field-0 fs)

pub offset-Record-end : (N : ℕ) (fs : List Field) (path : Path) (from : ℕ) (at : List Value) → length path ≤ from → offset N (t.Record fs) (drop from path) at ≡ 0
unfolding offset
offset-Record-end N fs path from at e = ap (λ p. offset N (t.Record fs) p at) (drop_end path from e)

pub offset-Array : (N : ℕ) (i : Simple) (a : AnyType) (path : Path) (at : List Value) (next : ℕ) (v : Value) → slice_get at next ≡ Some v → offset N (t.Array i a) path (drop next at) ≡ rank i v * size N a + offset N a path (drop (next + 1) at)
unfolding offset shape-the_row-AnyType-1 hidden-the_row-AnyType-1 hidden
offset-Array N i a path at next v e = ap (offset N (t.Array i a) path) (drop_at at next v e)

pub offset-Array-end : (N : ℕ) (i : Simple) (a : AnyType) (path : Path) (at : List Value) (next : ℕ) → length at ≤ next → offset N (t.Array i a) path (drop next at) ≡ 0
unfolding offset shape-the_row-AnyType-1 hidden-the_row-AnyType-1 hidden
offset-Array-end N i a path at next e = ap (offset N (t.Array i a) path) (drop_end at next e)

pub ruleset layouts = (size-Simple, size-Record, size-Array, offset-Simple, offset-Record, offset-Record-end, offset-Array, offset-Array-end, the_lemmas)
