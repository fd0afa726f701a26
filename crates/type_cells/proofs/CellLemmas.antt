-- The count is the length of the list of cells.
use Rattle.std.proofs.Common.{◌≡◌, ℕ, zero, suc, ◌+◌, ◌*◌, List, [], ◌∷◌, ◌++◌, map, length, refl, ap, sym, subst, ◌∙◌, arith, length-append}
use Rattle.std.specs.Prelude.{◌+ℤ◌, ◌-ℤ◌, ℤ, pos}
use Rattle.std.specs.List.{flat_map}
use Rattle.std.proofs.Math.Nat.{suc-mul}
use Rattle.term_core.specs.declared.value.Value.{Value}
use Rattle.term_core.specs.Nodes.{nodes, nodes_from}
use Rattle.murphi_typed.specs.declared.types.Simple.{Simple}
use Rattle.murphi_typed.specs.declared.types.Simple.TheVariants as simple
use Rattle.murphi_typed.specs.declared.types.AnyType as t
use Rattle.murphi_typed.specs.declared.types.AnyType.{AnyType, Row_of-Field, end_of-Field, more_of-Field}
use Rattle.murphi_typed.specs.declared.protocol.Variable.{Variable}
use Rattle.murphi_typed.specs.Forms.{ArrayForm}
use Rattle.murphi_typed.specs.Values.{values, members, numbers_from, numbers_within}
use Rattle.murphi_typed.specs.Families.{Way, Step, Into, Over, one_more, ways, row_ways, axes_of, choices, cells_on, cells_from, Cell}
use Rattle.type_cells.specs.Counts.{value_count, cell_count, row_count, variables_count}

length-map : {A B : Type 0} (f : A → B) (xs : List A) → length (map f xs) ≡ length xs
length-map f [] = refl
length-map f (x ∷ xs) = ap suc (length-map f xs)

numbers-length : (low : ℤ) (count : ℕ) → length (numbers_from low count) ≡ count
numbers-length low zero = refl
numbers-length low (suc count) = ap suc (numbers-length (low +ℤ pos 1) count)

nodes-length : (first count : ℕ) → length (nodes_from first count) ≡ count
nodes-length first zero = refl
nodes-length first (suc count) = ap suc (nodes-length (suc first) count)

values-length : (N : ℕ) (type : Simple) → length (values N type) ≡ value_count N type
values-length N simple.Truth = refl
values-length N (simple.Range low high) = length-map _ (numbers_from low (numbers_within (high -ℤ low))) ∙ numbers-length low (numbers_within (high -ℤ low))
values-length N (simple.Listed kind count) = length-map _ (nodes_from 0 count) ∙ nodes-length 0 count
values-length N (simple.Scalarset kind count) = length-map _ (nodes_from 0 count) ∙ nodes-length 0 count
values-length N simple.Node = length-map _ (nodes N) ∙ nodes-length 1 N

-- so many times as many
flat-length : {A B : Type 0} (f : A → List B) (n : ℕ) (xs : List A) → ((x : A) → length (f x) ≡ n) → length (flat_map f xs) ≡ length xs * n
flat-length f n [] h = omega arith
flat-length f n (x ∷ xs) h =
    length-append (f x) (flat_map f xs) ∙ ap (λ a. a + length (flat_map f xs)) (h x) ∙ ap (λ b. n + b) (flat-length f n xs h)
    ∙ sym (suc-mul (length xs) n ∙ swap (length xs * n) n)
  where
    swap : (a b : ℕ) → a + b ≡ b + a
    swap a b = omega arith

-- the cells on ways
abbrev pub ways_count : ℕ → List Way → ℕ
ways_count N [] = 0
ways_count N (w ∷ ws) = length (choices N (axes_of w.steps)) + ways_count N ws

ways-append : (N : ℕ) (us ws : List Way) → ways_count N (us ++ ws) ≡ ways_count N us + ways_count N ws
ways-append N [] ws = let e : ways_count N ws ≡ 0 + ways_count N ws = omega arith in e
ways-append N (u ∷ us) ws =
    let p : length (choices N (axes_of u.steps)) + (ways_count N us + ways_count N ws) ≡ (length (choices N (axes_of u.steps)) + ways_count N us) + ways_count N ws = omega arith in
    ap (λ n. length (choices N (axes_of u.steps)) + n) (ways-append N us ws) ∙ p

ways-into : (N : ℕ) (name : List ℕ) (ws : List Way) → ways_count N (map (one_more (Into name)) ws) ≡ ways_count N ws
ways-into N name [] = refl
ways-into N name (w ∷ ws) = ap (λ n. length (choices N (axes_of w.steps)) + n) (ways-into N name ws)

choices-more : (N : ℕ) (type : Simple) (types : List Simple) → length (choices N (type ∷ types)) ≡ value_count N type * length (choices N types)
choices-more N type types =
    flat-length (λ v. map (λ vs. v ∷ vs) (choices N types)) (length (choices N types)) (values N type) (λ v. length-map (λ vs. v ∷ vs) (choices N types))
    ∙ ap (λ n. n * length (choices N types)) (values-length N type)

times-sum : (a b c : ℕ) → a * b + a * c ≡ a * (b + c)
times-sum zero b c = let e : 0 * b + 0 * c ≡ 0 * (b + c) = omega arith in e
times-sum (suc a) b c =
    let p : (suc a * b) + (suc a * c) ≡ (a * b + b) + (a * c + c) = ap (λ n. n + suc a * c) (suc-mul a b) ∙ ap (λ n. (a * b + b) + n) (suc-mul a c) in
    let q : (a * b + b) + (a * c + c) ≡ (a * b + a * c) + (b + c) = omega arith in
    p ∙ q ∙ ap (λ n. n + (b + c)) (times-sum a b c) ∙ sym (suc-mul a (b + c))

ways-over : (N : ℕ) (index : Simple) (ws : List Way) → ways_count N (map (one_more (Over index)) ws) ≡ value_count N index * ways_count N ws
ways-over N index [] = let e : 0 ≡ value_count N index * 0 = omega arith in e
ways-over N index (w ∷ ws) =
    ap (λ n. n + ways_count N (map (one_more (Over index)) ws)) (choices-more N index (axes_of w.steps))
    ∙ ap (λ n. value_count N index * length (choices N (axes_of w.steps)) + n) (ways-over N index ws)
    ∙ times-sum (value_count N index) (length (choices N (axes_of w.steps))) (ways_count N ws)

mutual
  unfolding ways cell_count

  pub ways-are : (N : ℕ) (type : AnyType) → ways_count N (ways type) ≡ cell_count N type
  ways-are N (t.Simple type) = refl
  ways-are N (t.Record' u fields) = row-ways-are N fields
  ways-are N (ArrayForm index item) = ways-over N index (ways item) ∙ ap (λ n. value_count N index * n) (ways-are N item)

  row-ways-are : {n : _} (N : ℕ) (row : Row_of-Field n) → ways_count N (row_ways row) ≡ row_count N row
  row-ways-are N end_of-Field = refl
  row-ways-are N (more_of-Field name type rest) =
      ways-append N (map (one_more (Into name)) (ways type)) (row_ways rest)
      ∙ ap (λ n. n + ways_count N (row_ways rest)) (ways-into N name (ways type) ∙ ways-are N type)
      ∙ ap (λ n. cell_count N type + n) (row-ways-are N rest)

cells-length : (N global : ℕ) (ws : List Way) → length (flat_map (cells_on N global) ws) ≡ ways_count N ws
cells-length N global [] = refl
cells-length N global (w ∷ ws) =
    length-append (cells_on N global w) (flat_map (cells_on N global) ws)
    ∙ ap (λ n. n + length (flat_map (cells_on N global) ws)) (length-map _ (choices N (axes_of w.steps)))
    ∙ ap (λ n. length (choices N (axes_of w.steps)) + n) (cells-length N global ws)

pub cells-are : (N global : ℕ) (vs : List Variable) → length (cells_from N global vs) ≡ variables_count N vs
cells-are N global [] = refl
cells-are N global (v ∷ vs) =
    length-append (flat_map (cells_on N global) (ways v.of)) (cells_from N (suc global) vs)
    ∙ ap (λ n. n + length (cells_from N (suc global) vs)) (cells-length N global (ways v.of) ∙ ways-are N v.of)
    ∙ ap (λ n. cell_count N v.of + n) (cells-are N (suc global) vs)
