-- Free variables, and the cells that are read, after variables are replaced.
use Rattle.std.proofs.Common.{◌≡◌, ℕ, zero, suc, ◌+◌, ◌-◌, ◌≤◌, Bool, true, false, ◌&&◌, cond, max, List, [], ◌∷◌, length, Option, None, Some, refl, sym, ap, ◌∙◌, subst, arith}
use Rattle.std.specs.Prelude.{nat_lt, nat_eq, slice_get}
use Rattle.std.specs.List.{list_all, All}
use Rattle.std.specs.Option.{option_map_or}
use denote.Hole.Carrier.{hidden}
use Rattle.term_core.specs.declared.value.ArithOp.{ArithOp}
use Rattle.term_core.specs.declared.machine.CellFamily.{CellFamily}
use Rattle.term_core.specs.declared.term.Term as t
use Rattle.term_core.specs.declared.term.Term.{Term, Row_of-Term, end_of-Term, more_of-Term, items-the_row-Term, items_hidden-the_row-Term-0}
use Rattle.term_core.specs.declared.term.Term.TheBlock.{hidden-the_row-Term-0, shape-the_row-Term-1, hidden-the_row-Term-1}
use Rattle.term_core.specs.Forms.{NotForm, IfForm, SameForm, LessForm, ArithForm, QuantifiedForm}
use Rattle.term_core.specs.Variables.{free_variables, row_variables, fits, row_fits, row_count, has_axes}
use Rattle.term_core.specs.Substitution.{replaced, row_replaced, lifted_variable, lifted, substituted_variable, substituted, placed_variable, placed}
use Rattle.term_core.specs.Lists.{list_variables}
use Rattle.term_core.proofs.FrameLemmas.{each_at}

-- the greater of two numbers
pub max_first : (a b d : ℕ) → max a b ≤ d → a ≤ d
max_first a b d h = omega arith

pub max_second : (a b d : ℕ) → max a b ≤ d → b ≤ d
max_second a b d h = omega arith

pub max_both : (a b d : ℕ) → a ≤ d → b ≤ d → max a b ≤ d
max_both a b d h k = omega arith

row_variables_is : {n : _} (row : Row_of-Term n) → row_variables row ≡ list_variables (items-the_row-Term n row)
unfolding free_variables
row_variables_is end_of-Term = refl
row_variables_is (more_of-Term x rest) = ap (max (free_variables x)) (row_variables_is rest)

row_fits_is : {n : _} (fs : List CellFamily) (row : Row_of-Term n) → row_fits fs row ≡ list_all (fits fs) (items-the_row-Term n row)
unfolding fits
row_fits_is fs end_of-Term = refl
row_fits_is fs (more_of-Term x rest) = ap (λ b. fits fs x && b) (row_fits_is fs rest)

row_count_is : {n : _} (row : Row_of-Term n) → row_count row ≡ length (items-the_row-Term n row)
unfolding fits
row_count_is end_of-Term = refl
row_count_is (more_of-Term x rest) = ap suc (row_count_is rest)

pub variables-And : (ts : List Term) → free_variables (t.And ts) ≡ list_variables ts
unfolding free_variables
variables-And ts = row_variables_is (hidden-the_row-Term-0 ts) ∙ ap list_variables (items_hidden-the_row-Term-0 ts)

pub fits-And : (fs : List CellFamily) (ts : List Term) → fits fs (t.And ts) ≡ list_all (fits fs) ts
unfolding fits
fits-And fs ts = row_fits_is fs (hidden-the_row-Term-0 ts) ∙ ap (list_all (fits fs)) (items_hidden-the_row-Term-0 ts)

pub variables-Or : (ts : List Term) → free_variables (t.Or ts) ≡ list_variables ts
unfolding free_variables
variables-Or ts = row_variables_is (hidden-the_row-Term-0 ts) ∙ ap list_variables (items_hidden-the_row-Term-0 ts)

pub fits-Or : (fs : List CellFamily) (ts : List Term) → fits fs (t.Or ts) ≡ list_all (fits fs) ts
unfolding fits
fits-Or fs ts = row_fits_is fs (hidden-the_row-Term-0 ts) ∙ ap (list_all (fits fs)) (items_hidden-the_row-Term-0 ts)

pub variables-Read : (f : ℕ) (ts : List Term) → free_variables (t.Read f ts) ≡ list_variables ts
unfolding free_variables
variables-Read f ts = row_variables_is (hidden-the_row-Term-0 ts) ∙ ap list_variables (items_hidden-the_row-Term-0 ts)

pub fits-Read : (fs : List CellFamily) (f : ℕ) (ts : List Term) → fits fs (t.Read f ts) ≡ has_axes fs f (length ts) && list_all (fits fs) ts
unfolding fits
fits-Read fs f ts =
    ap (λ n. has_axes fs f n && row_fits fs (hidden-the_row-Term-0 ts)) (row_count_is (hidden-the_row-Term-0 ts) ∙ ap length (items_hidden-the_row-Term-0 ts))
    ∙ ap (λ b. has_axes fs f (length ts) && b) (row_fits_is fs (hidden-the_row-Term-0 ts) ∙ ap (list_all (fits fs)) (items_hidden-the_row-Term-0 ts))

pub variables-Not : (a : Term) → free_variables (t.Not a) ≡ free_variables a
unfolding free_variables shape-the_row-Term-1 hidden-the_row-Term-1 hidden
variables-Not a = refl

pub fits-Not : (fs : List CellFamily) (a : Term) → fits fs (t.Not a) ≡ fits fs a
unfolding fits shape-the_row-Term-1 hidden-the_row-Term-1 hidden
fits-Not fs a = refl

pub variables-If : (a b d : Term) → free_variables (t.If a b d) ≡ max (free_variables a) (max (free_variables b) (free_variables d))
unfolding free_variables shape-the_row-Term-1 hidden-the_row-Term-1 hidden
variables-If a b d = refl

pub fits-If : (fs : List CellFamily) (a b d : Term) → fits fs (t.If a b d) ≡ fits fs a && (fits fs b && fits fs d)
unfolding fits shape-the_row-Term-1 hidden-the_row-Term-1 hidden
fits-If fs a b d = refl

pub variables-Same : (a b : Term) → free_variables (t.Same a b) ≡ max (free_variables a) (free_variables b)
unfolding free_variables shape-the_row-Term-1 hidden-the_row-Term-1 hidden
variables-Same a b = refl

pub fits-Same : (fs : List CellFamily) (a b : Term) → fits fs (t.Same a b) ≡ fits fs a && fits fs b
unfolding fits shape-the_row-Term-1 hidden-the_row-Term-1 hidden
fits-Same fs a b = refl

pub variables-Less : (a b : Term) → free_variables (t.Less a b) ≡ max (free_variables a) (free_variables b)
unfolding free_variables shape-the_row-Term-1 hidden-the_row-Term-1 hidden
variables-Less a b = refl

pub fits-Less : (fs : List CellFamily) (a b : Term) → fits fs (t.Less a b) ≡ fits fs a && fits fs b
unfolding fits shape-the_row-Term-1 hidden-the_row-Term-1 hidden
fits-Less fs a b = refl

pub variables-Arith : (op : ArithOp) (a b : Term) → free_variables (t.Arith op a b) ≡ max (free_variables a) (free_variables b)
unfolding free_variables shape-the_row-Term-1 hidden-the_row-Term-1 hidden
variables-Arith op a b = refl

pub fits-Arith : (fs : List CellFamily) (op : ArithOp) (a b : Term) → fits fs (t.Arith op a b) ≡ fits fs a && fits fs b
unfolding fits shape-the_row-Term-1 hidden-the_row-Term-1 hidden
fits-Arith fs op a b = refl

pub variables-Quantified : (all : Bool) (a : Term) → free_variables (t.Quantified all a) ≡ free_variables a - 1
unfolding free_variables shape-the_row-Term-1 hidden-the_row-Term-1 hidden
variables-Quantified all a = refl

pub fits-Quantified : (fs : List CellFamily) (all : Bool) (a : Term) → fits fs (t.Quantified all a) ≡ fits fs a
unfolding fits shape-the_row-Term-1 hidden-the_row-Term-1 hidden
fits-Quantified fs all a = refl

-- what comes in place of variables below one depth has its variables below another
abbrev pub Bounds : (ℕ → ℕ → Term) → ℕ → ℕ → Type 0
Bounds by d to = (u k : ℕ) → suc k ≤ d + u → free_variables (by u k) ≤ to + u

mutual
  unfolding free_variables replaced

  -- replacing variables keeps the free variables below the new depth
  pub replaced_variables : (by : ℕ → ℕ → Term) (d to under : ℕ) (x : Term) → Bounds by d to → free_variables x ≤ d + under → free_variables (replaced by under x) ≤ to + under
  replaced_variables by d to under (t.Known x) inside h = omega arith
  replaced_variables by d to under (t.Var k) inside h = inside under k h
  replaced_variables by d to under (t.Read' f _ at) inside h = subst (λ m. m ≤ to + under) (sym (variables-Read f (row_replaced by under at))) (replaced_row_variables by d to under at inside h)
  replaced_variables by d to under (NotForm a) inside h = subst (λ m. m ≤ to + under) (sym (variables-Not (replaced by under a))) (replaced_variables by d to under a inside h)
  replaced_variables by d to under (t.And' _ parts) inside h = subst (λ m. m ≤ to + under) (sym (variables-And (row_replaced by under parts))) (replaced_row_variables by d to under parts inside h)
  replaced_variables by d to under (t.Or' _ parts) inside h = subst (λ m. m ≤ to + under) (sym (variables-Or (row_replaced by under parts))) (replaced_row_variables by d to under parts inside h)
  replaced_variables by d to under (IfForm a b e) inside h =
      let rest = max_second _ _ (d + under) h in
      subst (λ m. m ≤ to + under) (sym (variables-If (replaced by under a) (replaced by under b) (replaced by under e)))
      (max_both _ _ (to + under) (replaced_variables by d to under a inside (max_first _ _ (d + under) h)) (max_both _ _ (to + under) (replaced_variables by d to under b inside (max_first _ _ (d + under) rest)) (replaced_variables by d to under e inside (max_second _ _ (d + under) rest))))
  replaced_variables by d to under (SameForm a b) inside h = subst (λ m. m ≤ to + under) (sym (variables-Same (replaced by under a) (replaced by under b))) (max_both _ _ (to + under) (replaced_variables by d to under a inside (max_first _ _ (d + under) h)) (replaced_variables by d to under b inside (max_second _ _ (d + under) h)))
  replaced_variables by d to under (LessForm a b) inside h = subst (λ m. m ≤ to + under) (sym (variables-Less (replaced by under a) (replaced by under b))) (max_both _ _ (to + under) (replaced_variables by d to under a inside (max_first _ _ (d + under) h)) (replaced_variables by d to under b inside (max_second _ _ (d + under) h)))
  replaced_variables by d to under (ArithForm op a b) inside h = subst (λ m. m ≤ to + under) (sym (variables-Arith op (replaced by under a) (replaced by under b))) (max_both _ _ (to + under) (replaced_variables by d to under a inside (max_first _ _ (d + under) h)) (replaced_variables by d to under b inside (max_second _ _ (d + under) h)))
  replaced_variables by d to under (QuantifiedForm all a) inside h =
      let inner = replaced_variables by d to (suc under) a inside (omega (arith, h)) in
      subst (λ m. m ≤ to + under) (sym (variables-Quantified all (replaced by (suc under) a))) (omega (arith, inner))

  replaced_row_variables : {n : _} (by : ℕ → ℕ → Term) (d to under : ℕ) (row : Row_of-Term n) → Bounds by d to → row_variables row ≤ d + under → list_variables (row_replaced by under row) ≤ to + under
  replaced_row_variables by d to under end_of-Term inside h = omega arith
  replaced_row_variables by d to under (more_of-Term x rest) inside h = max_both _ _ (to + under) (replaced_variables by d to under x inside (max_first _ _ (d + under) h)) (replaced_row_variables by d to under rest inside (max_second _ _ (d + under) h))

mutual
  unfolding fits replaced

  -- and where what comes in fits, it fits as the term did
  pub replaced_fits : (fs : List CellFamily) (by : ℕ → ℕ → Term) (under : ℕ) (x : Term) → ((u k : ℕ) → fits fs (by u k) ≡ true) → fits fs (replaced by under x) ≡ fits fs x
  replaced_fits fs by under (t.Known x) h = refl
  replaced_fits fs by under (t.Var k) h = h under k
  replaced_fits fs by under (t.Read' f _ at) h = fits-Read fs f (row_replaced by under at) ∙ ap (λ n. has_axes fs f n && list_all (fits fs) (row_replaced by under at)) (replaced_count by under at) ∙ ap (λ b. has_axes fs f (row_count at) && b) (replaced_row_fits fs by under at h)
  replaced_fits fs by under (NotForm a) h = fits-Not fs (replaced by under a) ∙ replaced_fits fs by under a h
  replaced_fits fs by under (t.And' _ parts) h = fits-And fs (row_replaced by under parts) ∙ replaced_row_fits fs by under parts h
  replaced_fits fs by under (t.Or' _ parts) h = fits-Or fs (row_replaced by under parts) ∙ replaced_row_fits fs by under parts h
  replaced_fits fs by under (IfForm a b e) h =
      fits-If fs (replaced by under a) (replaced by under b) (replaced by under e)
      ∙ ap (λ x. x && (fits fs (replaced by under b) && fits fs (replaced by under e))) (replaced_fits fs by under a h) ∙ ap (λ x. fits fs a && (x && fits fs (replaced by under e))) (replaced_fits fs by under b h) ∙ ap (λ x. fits fs a && (fits fs b && x)) (replaced_fits fs by under e h)
  replaced_fits fs by under (SameForm a b) h = fits-Same fs (replaced by under a) (replaced by under b) ∙ ap (λ x. x && fits fs (replaced by under b)) (replaced_fits fs by under a h) ∙ ap (λ x. fits fs a && x) (replaced_fits fs by under b h)
  replaced_fits fs by under (LessForm a b) h = fits-Less fs (replaced by under a) (replaced by under b) ∙ ap (λ x. x && fits fs (replaced by under b)) (replaced_fits fs by under a h) ∙ ap (λ x. fits fs a && x) (replaced_fits fs by under b h)
  replaced_fits fs by under (ArithForm op a b) h = fits-Arith fs op (replaced by under a) (replaced by under b) ∙ ap (λ x. x && fits fs (replaced by under b)) (replaced_fits fs by under a h) ∙ ap (λ x. fits fs a && x) (replaced_fits fs by under b h)
  replaced_fits fs by under (QuantifiedForm all a) h = fits-Quantified fs all (replaced by (suc under) a) ∙ replaced_fits fs by (suc under) a h

  replaced_row_fits : {n : _} (fs : List CellFamily) (by : ℕ → ℕ → Term) (under : ℕ) (row : Row_of-Term n) → ((u k : ℕ) → fits fs (by u k) ≡ true) → list_all (fits fs) (row_replaced by under row) ≡ row_fits fs row
  replaced_row_fits fs by under end_of-Term h = refl
  replaced_row_fits fs by under (more_of-Term x rest) h = ap (λ b. b && list_all (fits fs) (row_replaced by under rest)) (replaced_fits fs by under x h) ∙ ap (λ b. fits fs x && b) (replaced_row_fits fs by under rest h)

  replaced_count : {n : _} (by : ℕ → ℕ → Term) (under : ℕ) (row : Row_of-Term n) → length (row_replaced by under row) ≡ row_count row
  replaced_count by under end_of-Term = refl
  replaced_count by under (more_of-Term x rest) = ap suc (replaced_count by under rest)

variable_bound : (depth more d k : ℕ) → depth ≤ d → suc k ≤ d → free_variables (lifted_variable depth more 0 k) ≤ d + more
unfolding free_variables
variable_bound depth more d k deep h = go (nat_lt k depth)
  where
    go : (b : Bool) → suc (cond b k (k + more)) ≤ d + more
    go true = omega (arith, h)
    go false = omega (arith, h)

-- lifting moves the free variables by no more than the variables in between
pub lifted_variables : (depth more d : ℕ) (x : Term) → depth ≤ d → free_variables x ≤ d → free_variables (lifted depth more x) ≤ d + more
lifted_variables depth more d x deep h =
    let b = replaced_variables (lifted_variable depth more) d (d + more) 0 x (λ u k less. move u (variable_bound depth more (d + u) k (omega (arith, deep)) less)) (omega (arith, h)) in
    omega (arith, b)
  where
    move : {m : ℕ} (u : ℕ) → m ≤ (d + u) + more → m ≤ (d + more) + u
    move u e = omega (arith, e)

pub lifted_fits : (fs : List CellFamily) (depth more : ℕ) (x : Term) → fits fs (lifted depth more x) ≡ fits fs x
unfolding fits
lifted_fits fs depth more x = replaced_fits fs (lifted_variable depth more) 0 x (λ u k. refl)

var_bound : (k d : ℕ) → suc k ≤ d → free_variables (t.Var k) ≤ d
unfolding free_variables
var_bound k d h = h

var_fits : (fs : List CellFamily) (k : ℕ) → fits fs (t.Var k) ≡ true
unfolding fits
var_fits fs k = refl

-- after substituting all free variables are below the depth
pub substituted_below : (depth var : ℕ) (by x : Term) → free_variables by ≤ depth → free_variables x ≤ depth → free_variables (substituted depth var by x) ≤ depth
substituted_below depth var by x inside h =
    let b = replaced_variables (substituted_variable depth var by) depth depth 0 x (λ u k less. go u k less (nat_eq k var)) (omega (arith, h)) in
    omega (arith, b)
  where
    go : (u k : ℕ) → suc k ≤ depth + u → (b : Bool) → free_variables (cond b (lifted depth u by) (t.Var k)) ≤ depth + u
    go u k less true = lifted_variables depth u depth by (omega arith) inside
    go u k less false = var_bound k (depth + u) less

pub substituted_fits : (fs : List CellFamily) (depth var : ℕ) (by x : Term) → fits fs by ≡ true → fits fs (substituted depth var by x) ≡ fits fs x
substituted_fits fs depth var by x h = replaced_fits fs (substituted_variable depth var by) 0 x (λ u k. go u k (nat_eq k var))
  where
    go : (u k : ℕ) (b : Bool) → fits fs (cond b (lifted depth u by) (t.Var k)) ≡ true
    go u k true = lifted_fits fs depth u by ∙ h
    go u k false = var_fits fs k

-- after placing they are below the depth that the terms are for, and as far past it as they were past the list
pub placed_below : (to more : ℕ) (terms : List Term) (x : Term) → All (λ by. free_variables by ≤ to) terms → free_variables x ≤ length terms + more → free_variables (placed to terms x) ≤ to + more
placed_below to more terms x inside h =
    let b = replaced_variables (placed_variable to terms) (length terms + more) (to + more) 0 x (λ u k less. go u k less (slice_get terms k) refl) (omega (arith, h)) in
    omega (arith, b)
  where
    past : (ts : List Term) (j : ℕ) → slice_get ts j ≡ None → length ts ≤ j
    past [] j f = omega arith
    past (y ∷ ys) zero f = cc
    past (y ∷ ys) (suc j) f = let b = past ys j f in omega (arith, b)

    go : (u k : ℕ) → suc k ≤ (length terms + more) + u → (o : Option Term) → slice_get terms k ≡ o → free_variables (option_map_or (lifted to u) o (t.Var (to + (k - length terms)))) ≤ (to + more) + u
    go u k less (Some by) e = let b = lifted_variables to u to by (omega arith) (each_at (λ z. free_variables z ≤ to) terms k by inside e) in omega (arith, b)
    go u k less None e = let b = past terms k e in var_bound (to + (k - length terms)) ((to + more) + u) (omega (arith, less, b))

pub placed_fits : (fs : List CellFamily) (to : ℕ) (terms : List Term) (x : Term) → All (λ by. fits fs by ≡ true) terms → fits fs (placed to terms x) ≡ fits fs x
placed_fits fs to terms x h = replaced_fits fs (placed_variable to terms) 0 x (λ u k. go u k (slice_get terms k) refl)
  where
    go : (u k : ℕ) (o : Option Term) → slice_get terms k ≡ o → fits fs (option_map_or (lifted to u) o (t.Var (to + (k - length terms)))) ≡ true
    go u k (Some by) e = lifted_fits fs to u by ∙ each_at (λ z. fits fs z ≡ true) terms k by h e
    go u k None e = var_fits fs (to + (k - length terms))
