-- Replacing variables by terms that have their values keeps the value; so lifting keeps it, substituting is
-- binding the variable to the other term's node, and placing is binding all variables to the terms' nodes.
use Rattle.std.proofs.Common.{◌≡◌, ℕ, suc, ◌+◌, ◌-◌, ◌<◌, ◌≤◌, Bool, true, false, not, ◌&&◌, ◌||◌, cond, List, [], ◌∷◌, ◌++◌, length, set, get_or, Option, None, Some, refl, sym, ap, ◌∙◌, subst, append_assoc, arith}
use Rattle.std.specs.Prelude.{nat_lt, nat_eq, int_lt, slice_get}
use Rattle.std.specs.List.{list_all, list_any}
use Rattle.std.specs.Option.{option_map_or}
use Rattle.std.proofs.lemmas.Option.{slice_get-get_or, slice_get_past}
use Rattle.term_core.specs.declared.value.Value.{Value}
use Rattle.term_core.specs.declared.value.Value.TheVariants as v
use Rattle.term_core.specs.declared.value.ArithOp.{ArithOp}
use Rattle.term_core.specs.declared.term.Term as t
use Rattle.term_core.specs.declared.term.Term.{Term, Row_of-Term, end_of-Term, more_of-Term}
use Rattle.term_core.specs.Nodes.{nodes}
use Rattle.term_core.specs.Values.{truth, number, same_value, arith as arith_of}
use Rattle.term_core.specs.Forms.{NotForm, IfForm, SameForm, LessForm, ArithForm, QuantifiedForm}
use Rattle.term_core.specs.Meaning.{Cells, value_of, row_all, row_any, row_indices, bound_node, cell_at, with_index, index_of}
use Rattle.term_core.specs.Reading.{occurs, row_occurs}
use Rattle.term_core.specs.Substitution.{replaced, row_replaced, lifted_variable, lifted, substituted_variable, substituted, placed_variable, placed}
use Rattle.term_core.specs.Lists.{list_indices}
use Rattle.term_core.proofs.FrameLemmas.{holds_same, get_first, get_past, get_around, get_beside, get_replaced, length-one_more, append_nothing}
use Rattle.term_core.proofs.Equations.{value-Var, value-Read, value-Not, value-And, value-Or, value-If, value-Same, value-Less, value-Arith, value-Quantified}

-- the value of an operator, by those of its parts
pub same_of : {a b a' b' : Value} → a ≡ a' → b ≡ b' → v.Truth (same_value a b) ≡ v.Truth (same_value a' b')
same_of {a} {b} {a'} {b'} e f = ap (λ x. v.Truth (same_value x b)) e ∙ ap (λ x. v.Truth (same_value a' x)) f

pub less_of : {a b a' b' : Value} → a ≡ a' → b ≡ b' → v.Truth (int_lt (number a) (number b)) ≡ v.Truth (int_lt (number a') (number b'))
less_of {a} {b} {a'} {b'} e f = ap (λ x. v.Truth (int_lt (number x) (number b))) e ∙ ap (λ x. v.Truth (int_lt (number a') (number x))) f

pub arith_on : (op : ArithOp) {a b a' b' : Value} → a ≡ a' → b ≡ b' → v.Number (arith_of op (number a) (number b)) ≡ v.Number (arith_of op (number a') (number b'))
arith_on op {a} {b} {a'} {b'} e f = ap (λ x. v.Number (arith_of op (number x) (number b))) e ∙ ap (λ x. v.Number (arith_of op (number a') (number x))) f

pub if_of : {a b d a' b' d' : Value} → a ≡ a' → b ≡ b' → d ≡ d' → cond (truth a) b d ≡ cond (truth a') b' d'
if_of {a} {b} {d} {a'} {b'} {d'} e f g = ap (λ x. cond (truth x) b d) e ∙ ap (λ x. cond (truth a') x d) f ∙ ap (λ x. cond (truth a') b' x) g

pub with_of : {a a' : Option ℕ} {b b' : Option (List ℕ)} → a ≡ a' → b ≡ b' → with_index a b ≡ with_index a' b'
with_of {a} {a'} {b} {b'} e f = ap (λ x. with_index x b) e ∙ ap (with_index a') f

pub first_of : (a b : Bool) → a ≡ true → (a || b) ≡ true
first_of true b e = refl
first_of false b e = cc

pub second_of : (a b : Bool) → b ≡ true → (a || b) ≡ true
second_of true b e = refl
second_of false b e = e

module _ (N : ℕ) (c : Cells) (by : ℕ → ℕ → Term) (front old : List ℕ) where
  -- under any quantifiers, what comes in place of a variable that passes the test has its value
  abbrev pub Stands : (ℕ → Bool) → Type 0
  Stands test = (inner : List ℕ) (k : ℕ) → test k ≡ true → value_of N c (front ++ inner) (by (length inner) k) ≡ bound_node (old ++ inner) k

  mutual
    unfolding value_of replaced occurs

    pub replaced_value : (inner : List ℕ) (x : Term) → Stands (λ k. occurs k x) → value_of N c (front ++ inner) (replaced by (length inner) x) ≡ value_of N c (old ++ inner) x
    replaced_value inner (t.Known x) st = refl
    replaced_value inner (t.Var k) st = st inner k (grind arith)
    replaced_value inner (t.Read' f _ at) st = value-Read N c (front ++ inner) f (row_replaced by (length inner) at) ∙ ap (cell_at c f) (replaced_indices inner at st)
    replaced_value inner (NotForm a) st = value-Not N c (front ++ inner) (replaced by (length inner) a) ∙ ap (λ x. v.Truth (not (truth x))) (replaced_value inner a st)
    replaced_value inner (t.And' _ parts) st = value-And N c (front ++ inner) (row_replaced by (length inner) parts) ∙ ap v.Truth (replaced_all inner parts st)
    replaced_value inner (t.Or' _ parts) st = value-Or N c (front ++ inner) (row_replaced by (length inner) parts) ∙ ap v.Truth (replaced_any inner parts st)
    replaced_value inner (IfForm a b d) st =
        value-If N c (front ++ inner) (replaced by (length inner) a) (replaced by (length inner) b) (replaced by (length inner) d)
        ∙ if_of (replaced_value inner a (λ i k o. st i k (first_of _ _ o)))
        (replaced_value inner b (λ i k o. st i k (second_of _ _ (first_of _ _ o))))
        (replaced_value inner d (λ i k o. st i k (second_of _ _ (second_of _ _ o))))
    replaced_value inner (SameForm a b) st =
        value-Same N c (front ++ inner) (replaced by (length inner) a) (replaced by (length inner) b)
        ∙ same_of (replaced_value inner a (λ i k o. st i k (first_of _ _ o))) (replaced_value inner b (λ i k o. st i k (second_of _ _ o)))
    replaced_value inner (LessForm a b) st =
        value-Less N c (front ++ inner) (replaced by (length inner) a) (replaced by (length inner) b)
        ∙ less_of (replaced_value inner a (λ i k o. st i k (first_of _ _ o))) (replaced_value inner b (λ i k o. st i k (second_of _ _ o)))
    replaced_value inner (ArithForm op a b) st =
        value-Arith N c (front ++ inner) op (replaced by (length inner) a) (replaced by (length inner) b)
        ∙ arith_on op (replaced_value inner a (λ i k o. st i k (first_of _ _ o))) (replaced_value inner b (λ i k o. st i k (second_of _ _ o)))
    replaced_value inner (QuantifiedForm all a) st =
        value-Quantified N c (front ++ inner) all (replaced by (suc (length inner)) a)
        ∙ ap v.Truth (holds_same all (λ n. truth (value_of N c ((front ++ inner) ++ n ∷ []) (replaced by (suc (length inner)) a))) (λ n. truth (value_of N c ((old ++ inner) ++ n ∷ []) a)) (nodes N)
        (λ n. ap truth (ap (λ fr. value_of N c fr (replaced by (suc (length inner)) a)) (append_assoc front inner (n ∷ []))
        ∙ ap (λ u. value_of N c (front ++ (inner ++ n ∷ [])) (replaced by u a)) (sym (length-one_more inner n))
        ∙ replaced_value (inner ++ n ∷ []) a st
        ∙ ap (λ fr. value_of N c fr a) (sym (append_assoc old inner (n ∷ []))))))

    replaced_indices : {n : _} (inner : List ℕ) (row : Row_of-Term n) → Stands (λ k. row_occurs k row) → list_indices N c (front ++ inner) (row_replaced by (length inner) row) ≡ row_indices N c (old ++ inner) row
    replaced_indices inner end_of-Term st = refl
    replaced_indices inner (more_of-Term x rest) st =
        with_of (ap (index_of N) (replaced_value inner x (λ i k o. st i k (first_of _ _ o)))) (replaced_indices inner rest (λ i k o. st i k (second_of _ _ o)))

    replaced_all : {n : _} (inner : List ℕ) (row : Row_of-Term n) → Stands (λ k. row_occurs k row) → list_all (λ x. truth (value_of N c (front ++ inner) x)) (row_replaced by (length inner) row) ≡ row_all N c (old ++ inner) row
    replaced_all inner end_of-Term st = refl
    replaced_all inner (more_of-Term x rest) st =
        ap (λ b. truth b && list_all (λ x. truth (value_of N c (front ++ inner) x)) (row_replaced by (length inner) rest)) (replaced_value inner x (λ i k o. st i k (first_of _ _ o)))
        ∙ ap (λ b. truth (value_of N c (old ++ inner) x) && b) (replaced_all inner rest (λ i k o. st i k (second_of _ _ o)))

    replaced_any : {n : _} (inner : List ℕ) (row : Row_of-Term n) → Stands (λ k. row_occurs k row) → list_any (λ x. truth (value_of N c (front ++ inner) x)) (row_replaced by (length inner) row) ≡ row_any N c (old ++ inner) row
    replaced_any inner end_of-Term st = refl
    replaced_any inner (more_of-Term x rest) st =
        ap (λ b. truth b || list_any (λ x. truth (value_of N c (front ++ inner) x)) (row_replaced by (length inner) rest)) (replaced_value inner x (λ i k o. st i k (first_of _ _ o)))
        ∙ ap (λ b. truth (value_of N c (old ++ inner) x) || b) (replaced_any inner rest (λ i k o. st i k (second_of _ _ o)))

  -- under no quantifier
  pub replaced_is : (x : Term) → Stands (λ k. occurs k x) → value_of N c front (replaced by 0 x) ≡ value_of N c old x
  replaced_is x st =
      ap (λ fr. value_of N c fr (replaced by 0 x)) (sym (append_nothing front))
      ∙ replaced_value [] x st
      ∙ ap (λ fr. value_of N c fr x) (append_nothing old)

-- a term for longer frames has the value that it has without the variables more
pub lifted_value : (N : ℕ) (c : Cells) (front more : List ℕ) (x : Term) → value_of N c (front ++ more) (lifted (length front) (length more) x) ≡ value_of N c front x
lifted_value N c front more x = replaced_is N c (lifted_variable (length front) (length more)) (front ++ more) front x stands
  where
    stands : Stands N c (lifted_variable (length front) (length more)) (front ++ more) front (λ k. occurs k x)
    stands inner k o =
        value-Var N c ((front ++ more) ++ inner) (cond (nat_lt k (length front)) k (k + length more))
        ∙ ap (λ fr. bound_node fr (cond (nat_lt k (length front)) k (k + length more))) (append_assoc front more inner)
        ∙ ap (λ o. option_map_or v.Node o v.Undefined) (get_around front more inner k)

module _ (N : ℕ) (c : Cells) (front : List ℕ) (var node : ℕ) (by : Term) (within : var < length front) (stands : value_of N c front by ≡ v.Node node) where
  variable_value : (inner : List ℕ) (k : ℕ) → value_of N c (front ++ inner) (substituted_variable (length front) var by (length inner) k) ≡ bound_node (set front var node ++ inner) k
  variable_value inner k = go (nat_eq k var) refl
    where
      go : (b : Bool) → nat_eq k var ≡ b → value_of N c (front ++ inner) (cond b (lifted (length front) (length inner) by) (t.Var k)) ≡ bound_node (set front var node ++ inner) k
      go true was =
          let e : k ≡ var = grind (arith, was) in
          lifted_value N c front inner by ∙ stands ∙ ap (λ o. option_map_or v.Node o v.Undefined) (sym (get_replaced front inner var node within)) ∙ ap (bound_node (set front var node ++ inner)) (sym e)
      go false was = value-Var N c (front ++ inner) k ∙ ap (λ o. option_map_or v.Node o v.Undefined) (get_beside front inner var k node was)

-- in a frame of the depth, substituting is binding the variable to the node
pub substitution_binds : (N : ℕ) (c : Cells) (frame : List ℕ) (depth var node : ℕ) (by x : Term) → var < depth → length frame ≡ depth → value_of N c frame by ≡ v.Node node → value_of N c frame (substituted depth var by x) ≡ value_of N c (set frame var node) x
substitution_binds N c frame depth var node by x within long stands =
    ap (λ d. value_of N c frame (substituted d var by x)) (sym long)
    ∙ replaced_is N c (substituted_variable (length frame) var by) frame (set frame var node) x
    (λ inner k o. variable_value N c frame var node by (subst (λ m. var < m) (sym long) within) stands inner k)

-- the terms that come in place of variables that pass a test have these nodes in a frame
abbrev pub HaveNodes : ℕ → Cells → List ℕ → List Term → List ℕ → (ℕ → Bool) → Type 0
HaveNodes N c frame terms ns test = (k : ℕ) (by : Term) (n : ℕ) → test k ≡ true → slice_get terms k ≡ Some by → slice_get ns k ≡ Some n → value_of N c frame by ≡ v.Node n

placed_stands : (N : ℕ) (c : Cells) (frame ns : List ℕ) (terms : List Term) (test : ℕ → Bool) → length ns ≡ length terms → HaveNodes N c frame terms ns test → Stands N c (placed_variable (length frame) terms) frame ns test
placed_stands N c frame ns terms test long have inner k passes = go (nat_lt k (length terms)) refl
  where
    at : (o : Option Term) (p : Option ℕ) → slice_get terms k ≡ o → slice_get ns k ≡ p → k < length terms → value_of N c (frame ++ inner) (option_map_or (lifted (length frame) (length inner)) o (t.Var (length frame + (k - length terms)))) ≡ option_map_or v.Node p v.Undefined
    at (Some by) (Some n) e f less = lifted_value N c frame inner by ∙ have k by n passes e f
    at (Some by) None e f less = let both : None ≡ Some (get_or ns k 0) = sym f ∙ slice_get-get_or ns k 0 (subst (λ m. k < m) (sym long) less) in cc
    at None p e f less = let both : None ≡ Some (get_or terms k (t.Var 0)) = sym e ∙ slice_get-get_or terms k (t.Var 0) less in cc

    go : (b : Bool) → nat_lt k (length terms) ≡ b → value_of N c (frame ++ inner) (placed_variable (length frame) terms (length inner) k) ≡ bound_node (ns ++ inner) k
    go true was =
        let less : k < length terms = grind (arith, was) in
        at (slice_get terms k) (slice_get ns k) refl refl less
        ∙ ap (λ o. option_map_or v.Node o v.Undefined) (sym (get_first ns inner k (subst (λ m. k < m) (sym long) less)))
    go false was =
        let beyond : length terms ≤ k = grind (arith, was) in
        ap (λ o. value_of N c (frame ++ inner) (option_map_or (lifted (length frame) (length inner)) o (t.Var (length frame + (k - length terms))))) (slice_get_past terms k beyond)
        ∙ value-Var N c (frame ++ inner) (length frame + (k - length terms))
        ∙ ap (λ o. option_map_or v.Node o v.Undefined)
        (get_past frame inner (length frame + (k - length terms)) (omega arith)
        ∙ ap (slice_get inner) (omega (arith, long, beyond))
        ∙ sym (get_past ns inner k (subst (λ m. m ≤ k) (sym long) beyond)))

-- in a frame, placing is binding all variables to the nodes of the terms
pub placing_binds : (N : ℕ) (c : Cells) (frame ns : List ℕ) (to : ℕ) (terms : List Term) (x : Term) → length frame ≡ to → length ns ≡ length terms → HaveNodes N c frame terms ns (λ k. occurs k x) → value_of N c frame (placed to terms x) ≡ value_of N c ns x
placing_binds N c frame ns to terms x is long have =
    ap (λ d. value_of N c frame (placed d terms x)) (sym is)
    ∙ replaced_is N c (placed_variable (length frame) terms) frame ns x (placed_stands N c frame ns terms (λ k. occurs k x) long have)
