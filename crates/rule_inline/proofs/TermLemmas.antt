-- The value of each form of term over the lists of its parts, and terms for longer frames.
use Rattle.std.proofs.Common.{◌≡◌, ℕ, zero, suc, ◌+◌, ◌-◌, ◌<◌, ◌≤◌, Bool, true, false, not, ◌&&◌, ◌||◌, cond, List, [], ◌∷◌, ◌++◌, length, map, Option, refl, sym, ap, ◌∙◌, append_assoc, arith}
use Rattle.std.specs.Prelude.{nat_lt, int_lt, slice_get}
use Rattle.std.specs.List.{list_all, list_any}
use Rattle.std.specs.Option.{option_map_or}
use denote.Hole.Carrier.{hidden}
use Rattle.term_core.specs.declared.value.Value.{Value}
use Rattle.term_core.specs.declared.value.Value.TheVariants as v
use Rattle.term_core.specs.declared.value.ArithOp.{ArithOp}
use Rattle.term_core.specs.declared.term.Term as t
use Rattle.term_core.specs.declared.term.Term.{Term, Row_of-Term, end_of-Term, more_of-Term, items-the_row-Term, items_hidden-the_row-Term-0}
use Rattle.term_core.specs.declared.term.Term.TheBlock.{hidden-the_row-Term-0, shape-the_row-Term-1, hidden-the_row-Term-1}
use Rattle.term_core.specs.Nodes.{nodes}
use Rattle.term_core.specs.Values.{truth, number, same_value, arith as arith_of}
use Rattle.term_core.specs.Forms.{NotForm, IfForm, SameForm, LessForm, ArithForm, QuantifiedForm}
use Rattle.term_core.specs.Meaning.{Cells, value_of, row_all, row_any, row_indices, bound_node, cell_at, holds_at, with_index, index_of}
use Rattle.term_core.specs.Substitution.{replaced, row_replaced, lifted_variable, lifted}
use Rattle.term_core.specs.Lists.{list_indices}

-- Equations

pub value-Known : (N : ℕ) (c : Cells) (fr : List ℕ) (x : Value) → value_of N c fr (t.Known x) ≡ x
unfolding value_of
value-Known N c fr x = refl

pub value-Var : (N : ℕ) (c : Cells) (fr : List ℕ) (k : ℕ) → value_of N c fr (t.Var k) ≡ bound_node fr k
unfolding value_of
value-Var N c fr k = refl

row_indices_is : {n : _} (N : ℕ) (c : Cells) (fr : List ℕ) (row : Row_of-Term n) → row_indices N c fr row ≡ list_indices N c fr (items-the_row-Term n row)
unfolding value_of
row_indices_is N c fr end_of-Term = refl
row_indices_is N c fr (more_of-Term x rest) = ap (with_index (index_of N (value_of N c fr x))) (row_indices_is N c fr rest)

pub value-Read : (N : ℕ) (c : Cells) (fr : List ℕ) (f : ℕ) (ts : List Term) → value_of N c fr (t.Read f ts) ≡ cell_at c f (list_indices N c fr ts)
unfolding value_of
value-Read N c fr f ts = ap (cell_at c f) (row_indices_is N c fr (hidden-the_row-Term-0 ts) ∙ ap (list_indices N c fr) (items_hidden-the_row-Term-0 ts))

pub value-Not : (N : ℕ) (c : Cells) (fr : List ℕ) (a : Term) → value_of N c fr (t.Not a) ≡ v.Truth (not (truth (value_of N c fr a)))
unfolding value_of shape-the_row-Term-1 hidden-the_row-Term-1 hidden
value-Not N c fr a = refl

abbrev pub is_true : ℕ → Cells → List ℕ → Term → Bool
is_true N c fr x = truth (value_of N c fr x)

row_all_is : {n : _} (N : ℕ) (c : Cells) (fr : List ℕ) (row : Row_of-Term n) → row_all N c fr row ≡ list_all (is_true N c fr) (items-the_row-Term n row)
unfolding value_of
row_all_is N c fr end_of-Term = refl
row_all_is N c fr (more_of-Term x rest) = ap (λ b. truth (value_of N c fr x) && b) (row_all_is N c fr rest)

pub value-And : (N : ℕ) (c : Cells) (fr : List ℕ) (ts : List Term) → value_of N c fr (t.And ts) ≡ v.Truth (list_all (is_true N c fr) ts)
unfolding value_of
value-And N c fr ts = ap v.Truth (row_all_is N c fr (hidden-the_row-Term-0 ts) ∙ ap (list_all (is_true N c fr)) (items_hidden-the_row-Term-0 ts))

row_any_is : {n : _} (N : ℕ) (c : Cells) (fr : List ℕ) (row : Row_of-Term n) → row_any N c fr row ≡ list_any (is_true N c fr) (items-the_row-Term n row)
unfolding value_of
row_any_is N c fr end_of-Term = refl
row_any_is N c fr (more_of-Term x rest) = ap (λ b. truth (value_of N c fr x) || b) (row_any_is N c fr rest)

pub value-Or : (N : ℕ) (c : Cells) (fr : List ℕ) (ts : List Term) → value_of N c fr (t.Or ts) ≡ v.Truth (list_any (is_true N c fr) ts)
unfolding value_of
value-Or N c fr ts = ap v.Truth (row_any_is N c fr (hidden-the_row-Term-0 ts) ∙ ap (list_any (is_true N c fr)) (items_hidden-the_row-Term-0 ts))

pub value-If : (N : ℕ) (c : Cells) (fr : List ℕ) (a b d : Term) → value_of N c fr (t.If a b d) ≡ cond (truth (value_of N c fr a)) (value_of N c fr b) (value_of N c fr d)
unfolding value_of shape-the_row-Term-1 hidden-the_row-Term-1 hidden
value-If N c fr a b d = refl

pub value-Same : (N : ℕ) (c : Cells) (fr : List ℕ) (a b : Term) → value_of N c fr (t.Same a b) ≡ v.Truth (same_value (value_of N c fr a) (value_of N c fr b))
unfolding value_of shape-the_row-Term-1 hidden-the_row-Term-1 hidden
value-Same N c fr a b = refl

pub value-Less : (N : ℕ) (c : Cells) (fr : List ℕ) (a b : Term) → value_of N c fr (t.Less a b) ≡ v.Truth (int_lt (number (value_of N c fr a)) (number (value_of N c fr b)))
unfolding value_of shape-the_row-Term-1 hidden-the_row-Term-1 hidden
value-Less N c fr a b = refl

pub value-Arith : (N : ℕ) (c : Cells) (fr : List ℕ) (op : ArithOp) (a b : Term) → value_of N c fr (t.Arith op a b) ≡ v.Number (arith_of op (number (value_of N c fr a)) (number (value_of N c fr b)))
unfolding value_of shape-the_row-Term-1 hidden-the_row-Term-1 hidden
value-Arith N c fr op a b = refl

pub value-Quantified : (N : ℕ) (c : Cells) (fr : List ℕ) (all : Bool) (a : Term) → value_of N c fr (t.Quantified all a) ≡ v.Truth (holds_at all (λ n. truth (value_of N c (fr ++ n ∷ []) a)) (nodes N))
unfolding value_of shape-the_row-Term-1 hidden-the_row-Term-1 hidden
value-Quantified N c fr all a = refl

-- Lists and frames

pub list_all_same : {X : Type 0} (p q : X → Bool) (ns : List X) → ((n : X) → p n ≡ q n) → list_all p ns ≡ list_all q ns
list_all_same p q [] same = refl
list_all_same p q (n ∷ ns) same = ap (λ b. b && list_all p ns) (same n) ∙ ap (λ b. q n && b) (list_all_same p q ns same)

pub list_any_same : {X : Type 0} (p q : X → Bool) (ns : List X) → ((n : X) → p n ≡ q n) → list_any p ns ≡ list_any q ns
list_any_same p q [] same = refl
list_any_same p q (n ∷ ns) same = ap (λ b. b || list_any p ns) (same n) ∙ ap (λ b. q n || b) (list_any_same p q ns same)

pub holds_same : (all : Bool) (p q : ℕ → Bool) (ns : List ℕ) → ((n : ℕ) → p n ≡ q n) → holds_at all p ns ≡ holds_at all q ns
holds_same true p q ns same = list_all_same p q ns same
holds_same false p q ns same = list_any_same p q ns same

pub get_first : {X : Type 0} (xs ys : List X) (k : ℕ) → k < length xs → slice_get (xs ++ ys) k ≡ slice_get xs k
get_first [] ys k h = absurd (omega (arith, h))
get_first (x ∷ xs) ys zero h = refl
get_first (x ∷ xs) ys (suc k) h = get_first xs ys k (omega (arith, h))

pub get_past : {X : Type 0} (xs ys : List X) (k : ℕ) → length xs ≤ k → slice_get (xs ++ ys) k ≡ slice_get ys (k - length xs)
get_past [] ys k h = ap (slice_get ys) (omega arith)
get_past (x ∷ xs) ys zero h = absurd (omega (arith, h))
get_past (x ∷ xs) ys (suc k) h = get_past xs ys k (omega (arith, h)) ∙ ap (slice_get ys) (omega arith)

get_around : (front more inner : List ℕ) (k : ℕ) → slice_get (front ++ (more ++ inner)) (cond (nat_lt k (length front)) k (k + length more)) ≡ slice_get (front ++ inner) k
get_around front more inner k = go (nat_lt k (length front)) refl
  where
    go : (b : Bool) → nat_lt k (length front) ≡ b → slice_get (front ++ (more ++ inner)) (cond b k (k + length more)) ≡ slice_get (front ++ inner) k
    go true was = let h : k < length front = grind (arith, was) in get_first front (more ++ inner) k h ∙ sym (get_first front inner k h)
    go false was =
        let h : length front ≤ k = grind (arith, was) in
        get_past front (more ++ inner) (k + length more) (omega (arith, h))
        ∙ get_past more inner (k + length more - length front) (omega (arith, h))
        ∙ ap (slice_get inner) (omega (arith, h))
        ∙ sym (get_past front inner k h)

pub length-one_more : {X : Type 0} (xs : List X) (n : X) → length (xs ++ n ∷ []) ≡ suc (length xs)
length-one_more [] n = refl
length-one_more (x ∷ xs) n = ap suc (length-one_more xs n)

pub append_nothing : {X : Type 0} (xs : List X) → xs ++ [] ≡ xs
append_nothing [] = refl
append_nothing (x ∷ xs) = ap (λ ys. x ∷ ys) (append_nothing xs)

-- Parts of values

pub same_of : {a b a' b' : Value} → a ≡ a' → b ≡ b' → v.Truth (same_value a b) ≡ v.Truth (same_value a' b')
same_of {a} {b} {a'} {b'} e f = ap (λ x. v.Truth (same_value x b)) e ∙ ap (λ x. v.Truth (same_value a' x)) f

pub less_of : {a b a' b' : Value} → a ≡ a' → b ≡ b' → v.Truth (int_lt (number a) (number b)) ≡ v.Truth (int_lt (number a') (number b'))
less_of {a} {b} {a'} {b'} e f = ap (λ x. v.Truth (int_lt (number x) (number b))) e ∙ ap (λ x. v.Truth (int_lt (number a') (number x))) f

pub arith_on : (op : ArithOp) {a b a' b' : Value} → a ≡ a' → b ≡ b' → v.Number (arith_of op (number a) (number b)) ≡ v.Number (arith_of op (number a') (number b'))
arith_on op {a} {b} {a'} {b'} e f = ap (λ x. v.Number (arith_of op (number x) (number b))) e ∙ ap (λ x. v.Number (arith_of op (number a') (number x))) f

pub if_of : {a b d a' b' d' : Value} → a ≡ a' → b ≡ b' → d ≡ d' → cond (truth a) b d ≡ cond (truth a') b' d'
if_of {a} {b} {d} {a'} {b'} {d'} e f g = ap (λ x. cond (truth x) b d) e ∙ ap (λ x. cond (truth a') x d) f ∙ ap (λ x. cond (truth a') b' x) g

with_of : {a a' : Option ℕ} {b b' : Option (List ℕ)} → a ≡ a' → b ≡ b' → with_index a b ≡ with_index a' b'
with_of {a} {a'} {b} {b'} e f = ap (λ x. with_index x b) e ∙ ap (with_index a') f

pub and_of : {a b a' b' : Bool} → a ≡ a' → b ≡ b' → (a && b) ≡ (a' && b')
and_of {a} {b} {a'} {b'} e f = ap (λ x. x && b) e ∙ ap (λ x. a' && x) f

pub or_of : {a b a' b' : Bool} → a ≡ a' → b ≡ b' → (a || b) ≡ (a' || b')
or_of {a} {b} {a'} {b'} e f = ap (λ x. x || b) e ∙ ap (λ x. a' || x) f

-- a term for longer frames has the value that it has without the variables more, which stand anywhere behind
-- the first ones
module _ (N : ℕ) (c : Cells) (front mid inner : List ℕ) where
  abbrev by : ℕ → ℕ → Term
  by = lifted_variable (length front) (length mid)

  abbrev long : List ℕ → List ℕ
  long qs = (front ++ (mid ++ inner)) ++ qs

  abbrev short : List ℕ → List ℕ
  short qs = (front ++ inner) ++ qs

  variable_value : (qs : List ℕ) (k : ℕ) → value_of N c (long qs) (by (length qs) k) ≡ bound_node (short qs) k
  variable_value qs k =
      value-Var N c (long qs) (cond (nat_lt k (length front)) k (k + length mid))
      ∙ ap (λ fr. bound_node fr (cond (nat_lt k (length front)) k (k + length mid))) (append_assoc front (mid ++ inner) qs ∙ ap (λ xs. front ++ xs) (append_assoc mid inner qs))
      ∙ ap (λ o. option_map_or v.Node o v.Undefined) (get_around front mid (inner ++ qs) k)
      ∙ ap (λ fr. bound_node fr k) (sym (append_assoc front inner qs))

  mutual
    unfolding value_of replaced

    replaced_value : (qs : List ℕ) (x : Term) → value_of N c (long qs) (replaced by (length qs) x) ≡ value_of N c (short qs) x
    replaced_value qs (t.Known x) = refl
    replaced_value qs (t.Var k) = variable_value qs k
    replaced_value qs (t.Read' f _ at) = value-Read N c (long qs) f (row_replaced by (length qs) at) ∙ ap (cell_at c f) (replaced_indices qs at)
    replaced_value qs (NotForm a) = value-Not N c (long qs) (replaced by (length qs) a) ∙ ap (λ x. v.Truth (not (truth x))) (replaced_value qs a)
    replaced_value qs (t.And' _ parts) = value-And N c (long qs) (row_replaced by (length qs) parts) ∙ ap v.Truth (replaced_all qs parts)
    replaced_value qs (t.Or' _ parts) = value-Or N c (long qs) (row_replaced by (length qs) parts) ∙ ap v.Truth (replaced_any qs parts)
    replaced_value qs (IfForm a b d) =
        value-If N c (long qs) (replaced by (length qs) a) (replaced by (length qs) b) (replaced by (length qs) d)
        ∙ if_of (replaced_value qs a) (replaced_value qs b) (replaced_value qs d)
    replaced_value qs (SameForm a b) =
        value-Same N c (long qs) (replaced by (length qs) a) (replaced by (length qs) b) ∙ same_of (replaced_value qs a) (replaced_value qs b)
    replaced_value qs (LessForm a b) =
        value-Less N c (long qs) (replaced by (length qs) a) (replaced by (length qs) b) ∙ less_of (replaced_value qs a) (replaced_value qs b)
    replaced_value qs (ArithForm op a b) =
        value-Arith N c (long qs) op (replaced by (length qs) a) (replaced by (length qs) b) ∙ arith_on op (replaced_value qs a) (replaced_value qs b)
    replaced_value qs (QuantifiedForm all a) =
        value-Quantified N c (long qs) all (replaced by (suc (length qs)) a)
        ∙ ap v.Truth (holds_same all (λ n. truth (value_of N c (long qs ++ n ∷ []) (replaced by (suc (length qs)) a))) (λ n. truth (value_of N c (short qs ++ n ∷ []) a)) (nodes N)
        (λ n. ap truth (ap (λ fr. value_of N c fr (replaced by (suc (length qs)) a)) (append_assoc (front ++ (mid ++ inner)) qs (n ∷ []))
        ∙ ap (λ u. value_of N c (long (qs ++ n ∷ [])) (replaced by u a)) (sym (length-one_more qs n))
        ∙ replaced_value (qs ++ n ∷ []) a
        ∙ ap (λ fr. value_of N c fr a) (sym (append_assoc (front ++ inner) qs (n ∷ []))))))

    replaced_indices : {n : _} (qs : List ℕ) (row : Row_of-Term n) → list_indices N c (long qs) (row_replaced by (length qs) row) ≡ row_indices N c (short qs) row
    replaced_indices qs end_of-Term = refl
    replaced_indices qs (more_of-Term x rest) = with_of (ap (index_of N) (replaced_value qs x)) (replaced_indices qs rest)

    replaced_all : {n : _} (qs : List ℕ) (row : Row_of-Term n) → list_all (is_true N c (long qs)) (row_replaced by (length qs) row) ≡ row_all N c (short qs) row
    replaced_all qs end_of-Term = refl
    replaced_all qs (more_of-Term x rest) = and_of (ap truth (replaced_value qs x)) (replaced_all qs rest)

    replaced_any : {n : _} (qs : List ℕ) (row : Row_of-Term n) → list_any (is_true N c (long qs)) (row_replaced by (length qs) row) ≡ row_any N c (short qs) row
    replaced_any qs end_of-Term = refl
    replaced_any qs (more_of-Term x rest) = or_of (ap truth (replaced_value qs x)) (replaced_any qs rest)

  pub lifted_between : (x : Term) → value_of N c (front ++ (mid ++ inner)) (lifted (length front) (length mid) x) ≡ value_of N c (front ++ inner) x
  lifted_between x =
      ap (λ fr. value_of N c fr (lifted (length front) (length mid) x)) (sym (append_nothing (front ++ (mid ++ inner))))
      ∙ replaced_value [] x
      ∙ ap (λ fr. value_of N c fr x) (append_nothing (front ++ inner))

-- at the end of the frame
pub lifted_end : (N : ℕ) (c : Cells) (fr more : List ℕ) (x : Term) → value_of N c (fr ++ more) (lifted (length fr) (length more) x) ≡ value_of N c fr x
lifted_end N c fr more x =
    ap (λ ns. value_of N c (fr ++ ns) (lifted (length fr) (length more) x)) (sym (append_nothing more))
    ∙ lifted_between N c fr more [] x
    ∙ ap (λ ns. value_of N c ns x) (append_nothing fr)

-- the same where the numbers are given otherwise
pub lifted_by : (N : ℕ) (c : Cells) (fr more : List ℕ) (count : ℕ) (x : Term) → length more ≡ count → value_of N c (fr ++ more) (lifted (length fr) count x) ≡ value_of N c fr x
lifted_by N c fr more count x long = ap (λ m. value_of N c (fr ++ more) (lifted (length fr) m x)) (sym long) ∙ lifted_end N c fr more x

-- a list of terms
pub lifted_terms : (N : ℕ) (c : Cells) (fr more : List ℕ) (count : ℕ) (xs : List Term) → length more ≡ count → list_all (is_true N c (fr ++ more)) (map (lifted (length fr) count) xs) ≡ list_all (is_true N c fr) xs
lifted_terms N c fr more count [] long = refl
lifted_terms N c fr more count (x ∷ xs) long = and_of (ap truth (lifted_by N c fr more count x long)) (lifted_terms N c fr more count xs long)
