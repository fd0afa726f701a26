-- Terms whose free variables are below a number and that read cells of the families alone, with no node as a constant:
-- so are the terms that are made of them.
use denote.Hole.Carrier.{hidden}
use Rattle.std.proofs.Common.{◌≡◌, ℕ, zero, suc, ◌+◌, ◌-◌, ◌<◌, ◌≤◌, Bool, true, false, ◌&&◌, List, [], ◌∷◌, ◌++◌, length, None, Some, refl, sym, ap, ◌∙◌, subst, arith}
use Rattle.std.specs.Prelude.{nat_lt, slice_get, if◌then◌else◌}
use Rattle.std.specs.Option.{option_map_or}
use Rattle.std.proofs.lemmas.Bool.{and_parts}
use Rattle.term_core.specs.declared.value.Value.{Value}
use Rattle.term_core.specs.declared.value.ArithOp.{ArithOp}
use Rattle.term_core.specs.declared.machine.CellFamily.{CellFamily}
use Rattle.term_core.specs.declared.term.Term as t
use Rattle.term_core.specs.declared.term.Term.{Term, Row_of-Term, end_of-Term, more_of-Term, items-the_row-Term, items_hidden-the_row-Term-0}
use Rattle.term_core.specs.declared.term.Term.TheBlock.{hidden-the_row-Term-0, shape-the_row-Term-1, hidden-the_row-Term-1}
use Rattle.term_core.specs.Forms.{NotForm, IfForm, SameForm, LessForm, ArithForm, QuantifiedForm}
use Rattle.term_core.specs.Variables.{free_variables, row_variables, is_no_node, has_axes, fits, row_fits, row_count}
use Rattle.term_core.specs.Substitution.{replaced, row_replaced, lifted_variable, lifted, placed_variable, placed}
use Rattle.rule_inline.specs.Tables.{is_comparison, dropped, row_dropped, row_without}
use Rattle.rule_inline.proofs.TermLemmas.{and_of}

module _ (families : List CellFamily) where
  abbrev pub Fine : ℕ → Term → Type 0
  Fine n e = (free_variables e ≤ n) × (fits families e ≡ true)

  abbrev pub AllFine : ℕ → List Term → Type 0
  AllFine n [] = Unit {0}
  AllFine n (e ∷ es) = Fine n e × AllFine n es

  abbrev RowFine : ℕ → {l : _} → Row_of-Term l → Type 0
  RowFine n row = (row_variables row ≤ n) × (row_fits families row ≡ true)

  pub fine_more : (n m : ℕ) (e : Term) → n ≤ m → Fine n e → Fine m e
  fine_more n m e less f = (let a = f.0 in omega (arith, a, less), f.1)

  pub all_fine_more : (n m : ℕ) (es : List Term) → n ≤ m → AllFine n es → AllFine m es
  all_fine_more n m [] less a = tt
  all_fine_more n m (e ∷ es) less (f, a) = (fine_more n m e less f, all_fine_more n m es less a)

  pub all_fine_joined : (n : ℕ) (xs ys : List Term) → AllFine n xs → AllFine n ys → AllFine n (xs ++ ys)
  all_fine_joined n [] ys a b = b
  all_fine_joined n (x ∷ xs) ys (f, a) b = (f, all_fine_joined n xs ys a b)

  -- Forms

  row_of : {l : _} (n : ℕ) (row : Row_of-Term l) → AllFine n (items-the_row-Term l row) → RowFine n row
  unfolding free_variables fits
  row_of n end_of-Term a = (omega arith, refl)
  row_of n (more_of-Term x rest) (f, a) =
      let r = row_of n rest a in
      ((let p = f.0 in let q = r.0 in omega (arith, p, q)), and_of f.1 r.1)

  row_all : (n : ℕ) (ts : List Term) → AllFine n ts → RowFine n (hidden-the_row-Term-0 ts)
  row_all n ts a = row_of n (hidden-the_row-Term-0 ts) (subst (AllFine n) (sym (items_hidden-the_row-Term-0 ts)) a)

  pub fine-Known : (n : ℕ) (w : Value) → is_no_node w ≡ true → Fine n (t.Known w)
  unfolding free_variables fits
  fine-Known n w none = (omega arith, none)

  pub fine-Var : (n k : ℕ) → k < n → Fine n (t.Var k)
  unfolding free_variables fits
  fine-Var n k less = (omega (arith, less), refl)

  pub fine-Not : (n : ℕ) (a : Term) → Fine n a → Fine n (t.Not a)
  unfolding free_variables fits shape-the_row-Term-1 hidden-the_row-Term-1 hidden
  fine-Not n a f = f

  pub fine-And : (n : ℕ) (ts : List Term) → AllFine n ts → Fine n (t.And ts)
  unfolding free_variables fits
  fine-And n ts a = row_all n ts a

  pub fine-Or : (n : ℕ) (ts : List Term) → AllFine n ts → Fine n (t.Or ts)
  unfolding free_variables fits
  fine-Or n ts a = row_all n ts a

  pub fine-If : (n : ℕ) (a b d : Term) → Fine n a → Fine n b → Fine n d → Fine n (t.If a b d)
  unfolding free_variables fits shape-the_row-Term-1 hidden-the_row-Term-1 hidden
  fine-If n a b d f g h = ((let p = f.0 in let q = g.0 in let r = h.0 in omega (arith, p, q, r)), and_of f.1 (and_of g.1 h.1))

  pub fine-Same : (n : ℕ) (a b : Term) → Fine n a → Fine n b → Fine n (t.Same a b)
  unfolding free_variables fits shape-the_row-Term-1 hidden-the_row-Term-1 hidden
  fine-Same n a b f g = ((let p = f.0 in let q = g.0 in omega (arith, p, q)), and_of f.1 g.1)

  pub fine-Less : (n : ℕ) (a b : Term) → Fine n a → Fine n b → Fine n (t.Less a b)
  unfolding free_variables fits shape-the_row-Term-1 hidden-the_row-Term-1 hidden
  fine-Less n a b f g = ((let p = f.0 in let q = g.0 in omega (arith, p, q)), and_of f.1 g.1)

  pub fine-Arith : (n : ℕ) (op : ArithOp) (a b : Term) → Fine n a → Fine n b → Fine n (t.Arith op a b)
  unfolding free_variables fits shape-the_row-Term-1 hidden-the_row-Term-1 hidden
  fine-Arith n op a b f g = ((let p = f.0 in let q = g.0 in omega (arith, p, q)), and_of f.1 g.1)

  pub fine-Quantified : (n : ℕ) (all : Bool) (a : Term) → Fine (suc n) a → Fine n (t.Quantified all a)
  unfolding free_variables fits shape-the_row-Term-1 hidden-the_row-Term-1 hidden
  fine-Quantified n all a f = ((let p = f.0 in omega (arith, p)), f.1)

  counted : {l : _} (row : Row_of-Term l) → row_count row ≡ length (items-the_row-Term l row)
  unfolding fits
  counted end_of-Term = refl
  counted (more_of-Term x rest) = ap suc (counted rest)

  pub fine-Read : (n f : ℕ) (ts : List Term) → has_axes families f (length ts) ≡ true → AllFine n ts → Fine n (t.Read f ts)
  unfolding free_variables fits
  fine-Read n f ts axes a =
      let r = row_all n ts a in
      (r.0, and_of (ap (has_axes families f) (counted (hidden-the_row-Term-0 ts) ∙ ap length (items_hidden-the_row-Term-0 ts)) ∙ axes) r.1)

  -- Replacing

  replaced_length : {l : _} (by : ℕ → ℕ → Term) (under : ℕ) (row : Row_of-Term l) → length (row_replaced by under row) ≡ row_count row
  unfolding replaced fits
  replaced_length by under end_of-Term = refl
  replaced_length by under (more_of-Term x rest) = ap suc (replaced_length by under rest)

  mutual
    unfolding free_variables replaced fits

    replaced_fine : (by : ℕ → ℕ → Term) (n m : ℕ) → ((under k : ℕ) → k < n + under → Fine (m + under) (by under k)) → (under : ℕ) (e : Term) → Fine (n + under) e → Fine (m + under) (replaced by under e)
    replaced_fine by n m each under (t.Known w) f = fine-Known (m + under) w f.1
    replaced_fine by n m each under (t.Var k) f = each under k (let p = f.0 in omega (arith, p))
    replaced_fine by n m each under (t.Read' g _ at) f =
        let (axes, rest) = and_parts (has_axes families g (row_count at)) (row_fits families at) f.1 in
        fine-Read (m + under) g (row_replaced by under at) (ap (has_axes families g) (replaced_length by under at) ∙ axes) (rows_fine by n m each under at (f.0, rest))
    replaced_fine by n m each under (NotForm a) f = fine-Not (m + under) (replaced by under a) (replaced_fine by n m each under a f)
    replaced_fine by n m each under (t.And' _ parts) f = fine-And (m + under) (row_replaced by under parts) (rows_fine by n m each under parts f)
    replaced_fine by n m each under (t.Or' _ parts) f = fine-Or (m + under) (row_replaced by under parts) (rows_fine by n m each under parts f)
    replaced_fine by n m each under (IfForm a b d) f =
        let (x, yz) = and_parts (fits families a) (fits families b && fits families d) f.1 in
        let (y, z) = and_parts (fits families b) (fits families d) yz in
        let p = f.0 in
        fine-If (m + under) (replaced by under a) (replaced by under b) (replaced by under d) (replaced_fine by n m each under a (omega (arith, p), x)) (replaced_fine by n m each under b (omega (arith, p), y)) (replaced_fine by n m each under d (omega (arith, p), z))
    replaced_fine by n m each under (SameForm a b) f =
        let (x, y) = and_parts (fits families a) (fits families b) f.1 in
        let p = f.0 in
        fine-Same (m + under) (replaced by under a) (replaced by under b) (replaced_fine by n m each under a (omega (arith, p), x)) (replaced_fine by n m each under b (omega (arith, p), y))
    replaced_fine by n m each under (LessForm a b) f =
        let (x, y) = and_parts (fits families a) (fits families b) f.1 in
        let p = f.0 in
        fine-Less (m + under) (replaced by under a) (replaced by under b) (replaced_fine by n m each under a (omega (arith, p), x)) (replaced_fine by n m each under b (omega (arith, p), y))
    replaced_fine by n m each under (ArithForm op a b) f =
        let (x, y) = and_parts (fits families a) (fits families b) f.1 in
        let p = f.0 in
        fine-Arith (m + under) op (replaced by under a) (replaced by under b) (replaced_fine by n m each under a (omega (arith, p), x)) (replaced_fine by n m each under b (omega (arith, p), y))
    replaced_fine by n m each under (QuantifiedForm all a) f =
        let p = f.0 in
        fine-Quantified (m + under) all (replaced by (suc under) a)
        (fine_more (m + suc under) (suc (m + under)) (replaced by (suc under) a) (omega arith) (replaced_fine by n m each (suc under) a (omega (arith, p), f.1)))

    rows_fine : {l : _} (by : ℕ → ℕ → Term) (n m : ℕ) → ((under k : ℕ) → k < n + under → Fine (m + under) (by under k)) → (under : ℕ) (row : Row_of-Term l) → RowFine (n + under) row → AllFine (m + under) (row_replaced by under row)
    rows_fine by n m each under end_of-Term f = tt
    rows_fine by n m each under (more_of-Term x rest) f =
        let (y, z) = and_parts (fits families x) (row_fits families rest) f.1 in
        let p = f.0 in
        (replaced_fine by n m each under x (omega (arith, p), y), rows_fine by n m each under rest (omega (arith, p), z))

  pub lifted_fine : (n depth more : ℕ) (e : Term) → Fine n e → Fine (n + more) (lifted depth more e)
  lifted_fine n depth more e f =
      fine_more ((n + more) + 0) (n + more) (lifted depth more e) (omega arith)
      (replaced_fine (lifted_variable depth more) n (n + more) each 0 e (fine_more n (n + 0) e (omega arith) f))
    where
      each : (under k : ℕ) → k < n + under → Fine ((n + more) + under) (lifted_variable depth more under k)
      each under k less = go (nat_lt k depth)
        where
          go : (b : Bool) → Fine ((n + more) + under) (t.Var (if b then k else k + more))
          go true = fine-Var ((n + more) + under) k (omega (arith, less))
          go false = fine-Var ((n + more) + under) (k + more) (omega (arith, less))

  all_there : (n : ℕ) (es : List Term) (k : ℕ) → AllFine n es → k < length es → (e : Term) × ((slice_get es k ≡ Some e) × Fine n e)
  all_there n [] k a less = absurd (omega (arith, less))
  all_there n (e ∷ es) zero (f, a) less = (e, (refl, f))
  all_there n (e ∷ es) (suc k) (f, a) less = all_there n es k a (omega (arith, less))

  none_past : {A : Type 0} (es : List A) (k : ℕ) → length es ≤ k → slice_get es k ≡ None
  none_past [] k past = refl
  none_past (e ∷ es) zero past = absurd (omega (arith, past))
  none_past (e ∷ es) (suc k) past = none_past es k (omega (arith, past))

  pub placed_fine : (to : ℕ) (terms : List Term) (e : Term) → AllFine to terms → Fine (length terms) e → Fine to (placed to terms e)
  placed_fine to terms e all f =
      fine_more (to + 0) to (placed to terms e) (omega arith)
      (replaced_fine (placed_variable to terms) (length terms) to each 0 e (fine_more (length terms) (length terms + 0) e (omega arith) f))
    where
      each : (under k : ℕ) → k < length terms + under → Fine (to + under) (placed_variable to terms under k)
      each under k less = go (nat_lt k (length terms)) refl
        where
          go : (b : Bool) → nat_lt k (length terms) ≡ b → Fine (to + under) (placed_variable to terms under k)
          go true was =
              let (x, there) = all_there to terms k all (grind (arith, was)) in
              subst (λ o. Fine (to + under) (option_map_or (lifted to under) o (t.Var (to + (k - length terms))))) (sym there.0) (lifted_fine to to under x there.1)
          go false was =
              let past : length terms ≤ k = grind (arith, was) in
              subst (λ o. Fine (to + under) (option_map_or (lifted to under) o (t.Var (to + (k - length terms))))) (sym (none_past terms k past)) (fine-Var (to + under) (to + (k - length terms)) (omega (arith, less, past)))

  -- Dropping

  dropped_length : {l : _} (axis variable : ℕ) (row : Row_of-Term l) → length (row_dropped axis variable row) ≡ row_count row
  unfolding dropped fits
  dropped_length axis variable end_of-Term = refl
  dropped_length axis variable (more_of-Term x rest) = ap suc (dropped_length axis variable rest)

  unless : (b : Bool) (n : ℕ) (x : Term) (xs : List Term) → Fine n x → AllFine n xs → AllFine n (if b then xs else x ∷ xs)
  unless true n x xs f a = a
  unless false n x xs f a = (f, a)

  mutual
    unfolding free_variables dropped fits

    pub dropped_fine : (axis variable n : ℕ) (e : Term) → Fine n e → Fine n (dropped axis variable e)
    dropped_fine axis variable n (t.Known w) f = fine-Known n w f.1
    dropped_fine axis variable n (t.Var k) f = fine-Var n k (let p = f.0 in omega (arith, p))
    dropped_fine axis variable n (t.Read' g _ at) f =
        let (axes, rest) = and_parts (has_axes families g (row_count at)) (row_fits families at) f.1 in
        fine-Read n g (row_dropped axis variable at) (ap (has_axes families g) (dropped_length axis variable at) ∙ axes) (rows_dropped axis variable n at (f.0, rest))
    dropped_fine axis variable n (NotForm a) f = fine-Not n (dropped axis variable a) (dropped_fine axis variable n a f)
    dropped_fine axis variable n (t.And' _ parts) f = fine-And n (row_without axis variable parts) (rows_without axis variable n parts f)
    dropped_fine axis variable n (t.Or' _ parts) f = fine-Or n (row_dropped axis variable parts) (rows_dropped axis variable n parts f)
    dropped_fine axis variable n (IfForm a b d) f =
        let (x, yz) = and_parts (fits families a) (fits families b && fits families d) f.1 in
        let (y, z) = and_parts (fits families b) (fits families d) yz in
        let p = f.0 in
        fine-If n (dropped axis variable a) (dropped axis variable b) (dropped axis variable d) (dropped_fine axis variable n a (omega (arith, p), x)) (dropped_fine axis variable n b (omega (arith, p), y)) (dropped_fine axis variable n d (omega (arith, p), z))
    dropped_fine axis variable n (SameForm a b) f =
        let (x, y) = and_parts (fits families a) (fits families b) f.1 in
        let p = f.0 in
        fine-Same n (dropped axis variable a) (dropped axis variable b) (dropped_fine axis variable n a (omega (arith, p), x)) (dropped_fine axis variable n b (omega (arith, p), y))
    dropped_fine axis variable n (LessForm a b) f =
        let (x, y) = and_parts (fits families a) (fits families b) f.1 in
        let p = f.0 in
        fine-Less n (dropped axis variable a) (dropped axis variable b) (dropped_fine axis variable n a (omega (arith, p), x)) (dropped_fine axis variable n b (omega (arith, p), y))
    dropped_fine axis variable n (ArithForm op a b) f =
        let (x, y) = and_parts (fits families a) (fits families b) f.1 in
        let p = f.0 in
        fine-Arith n op (dropped axis variable a) (dropped axis variable b) (dropped_fine axis variable n a (omega (arith, p), x)) (dropped_fine axis variable n b (omega (arith, p), y))
    dropped_fine axis variable n (QuantifiedForm all a) f =
        let p = f.0 in
        fine-Quantified n all (dropped axis variable a) (dropped_fine axis variable (suc n) a (omega (arith, p), f.1))

    rows_dropped : {l : _} (axis variable n : ℕ) (row : Row_of-Term l) → RowFine n row → AllFine n (row_dropped axis variable row)
    rows_dropped axis variable n end_of-Term f = tt
    rows_dropped axis variable n (more_of-Term x rest) f =
        let (y, z) = and_parts (fits families x) (row_fits families rest) f.1 in
        let p = f.0 in
        (dropped_fine axis variable n x (omega (arith, p), y), rows_dropped axis variable n rest (omega (arith, p), z))

    rows_without : {l : _} (axis variable n : ℕ) (row : Row_of-Term l) → RowFine n row → AllFine n (row_without axis variable row)
    rows_without axis variable n end_of-Term f = tt
    rows_without axis variable n (more_of-Term x rest) f =
        let (y, z) = and_parts (fits families x) (row_fits families rest) f.1 in
        let p = f.0 in
        unless (is_comparison axis variable x) n (dropped axis variable x) (row_without axis variable rest) (dropped_fine axis variable n x (omega (arith, p), y)) (rows_without axis variable n rest (omega (arith, p), z))
