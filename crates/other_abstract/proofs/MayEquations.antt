-- What each form of term may be, in terms of the parts that code reads.
use Rattle.std.proofs.Common.{◌≡◌, ℕ, Bool, true, false, not, ◌&&◌, ◌||◌, List, [], ◌∷◌, ◌++◌, refl, sym, ap, ◌∙◌}
use Rattle.std.specs.Prelude.{int_lt}
use Rattle.std.specs.List.{list_all, list_any}
use denote.Hole.Carrier.{hidden}
use Rattle.term_core.specs.declared.value.Value.{Value}
use Rattle.term_core.specs.declared.value.ArithOp.{ArithOp}
use Rattle.term_core.specs.declared.term.Term as t
use Rattle.term_core.specs.declared.term.Term.{Term, Row_of-Term, end_of-Term, more_of-Term, items-the_row-Term, items_hidden-the_row-Term-0, the_lemmas}
use Rattle.term_core.specs.declared.term.Term.TheBlock.{hidden-the_row-Term-0, shape-the_row-Term-1, hidden-the_row-Term-1}
use Rattle.term_core.specs.Values as values
use Rattle.other_abstract.specs.declared.node.AbsNode.{AbsNode}
use Rattle.other_abstract.specs.declared.node.AbsNode.TheVariants.{Other}
use Rattle.other_abstract.specs.declared.value.AbsValue.{AbsValue}
use Rattle.other_abstract.specs.declared.value.AbsValue.TheVariants.{Truth, Number}
use Rattle.other_abstract.specs.declared.lead.Lead.{Lead}
use Rattle.other_abstract.specs.Windows.{Window, truth, number, constant}
use Rattle.other_abstract.specs.May.{AbsCells, bound, led_to}
use Rattle.other_abstract.specs.Tests.{window_nodes, passes, read_passes, same_passes, either_way, may, may_lead, may_each, may_some}
use Rattle.other_abstract.specs.Lists.{list_lead, AreValues, AreLeads}

pub fun_ext : {A B : Type 0} {f g : A → B} → ((x : A) → f x ≡ g x) → f ≡ g
fun_ext h = λ i x. h x i

pub any_same : {X : Type 0} (p q : X → Bool) (xs : List X) → ((x : X) → p x ≡ q x) → list_any p xs ≡ list_any q xs
any_same p q xs same = ap (λ f. list_any f xs) (fun_ext same)

pub or_false : (b : Bool) → (b || false) ≡ b
or_false true = refl
or_false false = refl

module _ (W : Window) (w : AbsCells) (env : List AbsNode) where
  row_lead : {n : _} (row : Row_of-Term n) (q : Lead → Bool) → may_lead W w env row q ≡ list_lead W w env (items-the_row-Term n row) q
  unfolding may
  row_lead end_of-Term q = refl
  row_lead (more_of-Term x rest) q = ap (may W w env x) (fun_ext (λ v. row_lead rest (λ r. q (led_to v r))))

  row_each : {n : _} (row : Row_of-Term n) (b : Bool) → may_each W w env row b ≡ list_all (λ x. may W w env x (passes b)) (items-the_row-Term n row)
  unfolding may
  row_each end_of-Term b = refl
  row_each (more_of-Term x rest) b = ap (λ c. may W w env x (passes b) && c) (row_each rest b)

  row_some : {n : _} (row : Row_of-Term n) (b : Bool) → may_some W w env row b ≡ list_any (λ x. may W w env x (passes b)) (items-the_row-Term n row)
  unfolding may
  row_some end_of-Term b = refl
  row_some (more_of-Term x rest) b = ap (λ c. may W w env x (passes b) || c) (row_some rest b)

  may-Read : (f : ℕ) (ts : List Term) (p : AbsValue → Bool) → may W w env (t.Read f ts) p ≡ list_lead W w env ts (read_passes W w f p)
  unfolding may
  may-Read f ts p = row_lead (hidden-the_row-Term-0 ts) (read_passes W w f p) ∙ ap (λ xs. list_lead W w env xs (read_passes W w f p)) (items_hidden-the_row-Term-0 ts)

  may-Not : (a : Term) (p : AbsValue → Bool) → may W w env (t.Not a) p ≡ may W w env a (λ x. p (Truth (not (truth x))))
  unfolding may shape-the_row-Term-1 hidden-the_row-Term-1 hidden
  may-Not a p = refl

  may-And : (ts : List Term) (p : AbsValue → Bool) → may W w env (t.And ts) p ≡ either_way p true (list_all (λ x. may W w env x (passes true)) ts) (list_any (λ x. may W w env x (passes false)) ts)
  unfolding may
  may-And ts p =
      let row = hidden-the_row-Term-0 ts in let e = items_hidden-the_row-Term-0 ts in
      ap (λ b. either_way p true b (may_some W w env row false)) (row_each row true ∙ ap (list_all (λ x. may W w env x (passes true))) e)
      ∙ ap (either_way p true (list_all (λ x. may W w env x (passes true)) ts)) (row_some row false ∙ ap (list_any (λ x. may W w env x (passes false))) e)

  may-Or : (ts : List Term) (p : AbsValue → Bool) → may W w env (t.Or ts) p ≡ either_way p false (list_all (λ x. may W w env x (passes false)) ts) (list_any (λ x. may W w env x (passes true)) ts)
  unfolding may
  may-Or ts p =
      let row = hidden-the_row-Term-0 ts in let e = items_hidden-the_row-Term-0 ts in
      ap (λ b. either_way p false b (may_some W w env row true)) (row_each row false ∙ ap (list_all (λ x. may W w env x (passes false))) e)
      ∙ ap (either_way p false (list_all (λ x. may W w env x (passes false)) ts)) (row_some row true ∙ ap (list_any (λ x. may W w env x (passes true))) e)

  may-If : (a b d : Term) (p : AbsValue → Bool) → may W w env (t.If a b d) p ≡ ((may W w env a (passes true) && may W w env b p) || (may W w env a (passes false) && may W w env d p))
  unfolding may shape-the_row-Term-1 hidden-the_row-Term-1 hidden
  may-If a b d p = refl

  may-Same : (a b : Term) (p : AbsValue → Bool) → may W w env (t.Same a b) p ≡ may W w env a (λ x. may W w env b (same_passes p x))
  unfolding may shape-the_row-Term-1 hidden-the_row-Term-1 hidden
  may-Same a b p = refl

  may-Less : (a b : Term) (p : AbsValue → Bool) → may W w env (t.Less a b) p ≡ may W w env a (λ x. may W w env b (λ y. p (Truth (int_lt (number x) (number y)))))
  unfolding may shape-the_row-Term-1 hidden-the_row-Term-1 hidden
  may-Less a b p = refl

  may-Arith : (op : ArithOp) (a b : Term) (p : AbsValue → Bool) → may W w env (t.Arith op a b) p ≡ may W w env a (λ x. may W w env b (λ y. p (Number (values.arith op (number x) (number y)))))
  unfolding may shape-the_row-Term-1 hidden-the_row-Term-1 hidden
  may-Arith op a b p = refl

  may-Quantified : (all : Bool) (a : Term) (p : AbsValue → Bool) → may W w env (t.Quantified all a) p ≡ either_way p all (list_all (λ n. may W w (env ++ n ∷ []) a (passes all)) (window_nodes W)) (list_any (λ n. may W w (env ++ n ∷ []) a (passes (not all))) (window_nodes W ++ Other ∷ []))
  unfolding may shape-the_row-Term-1 hidden-the_row-Term-1 hidden
  may-Quantified all a p = refl

  -- what code makes of the values of the parts are the values of the term
  pub is_known : (x : Value) (out : List AbsValue) → ((p : AbsValue → Bool) → list_any p out ≡ p (constant x)) → AreValues W w env (t.Known x) out
  unfolding AreValues may
  is_known x out h p = h p

  pub is_variable : (k : ℕ) (out : List AbsValue) → ((p : AbsValue → Bool) → list_any p out ≡ p (bound env k)) → AreValues W w env (t.Var k) out
  unfolding AreValues may
  is_variable k out h p = h p

  pub is_read : (f : ℕ) (ts : List Term) (rs : List Lead) (out : List AbsValue) → AreLeads W w env ts rs → ((p : AbsValue → Bool) → list_any p out ≡ list_any (read_passes W w f p) rs) → AreValues W w env (t.Read f ts) out
  unfolding AreValues AreLeads
  is_read f ts rs out are h p = h p ∙ are (read_passes W w f p) ∙ sym (may-Read f ts p)

  pub is_negation : (a : Term) (xs out : List AbsValue) → AreValues W w env a xs → ((p : AbsValue → Bool) → list_any p out ≡ list_any (λ x. p (Truth (not (truth x)))) xs) → AreValues W w env (t.Not a) out
  unfolding AreValues
  is_negation a xs out are h p = h p ∙ are (λ x. p (Truth (not (truth x)))) ∙ sym (may-Not a p)

  pub is_conjunction : (ts : List Term) (each other : Bool) (out : List AbsValue) → each ≡ list_all (λ x. may W w env x (passes true)) ts → other ≡ list_any (λ x. may W w env x (passes (not true))) ts → ((p : AbsValue → Bool) → list_any p out ≡ either_way p true each other) → AreValues W w env (t.And ts) out
  unfolding AreValues
  is_conjunction ts each other out e f h p = h p ∙ ap (λ b. either_way p true b other) e ∙ ap (either_way p true (list_all (λ x. may W w env x (passes true)) ts)) f ∙ sym (may-And ts p)

  pub is_disjunction : (ts : List Term) (each other : Bool) (out : List AbsValue) → each ≡ list_all (λ x. may W w env x (passes false)) ts → other ≡ list_any (λ x. may W w env x (passes (not false))) ts → ((p : AbsValue → Bool) → list_any p out ≡ either_way p false each other) → AreValues W w env (t.Or ts) out
  unfolding AreValues
  is_disjunction ts each other out e f h p = h p ∙ ap (λ b. either_way p false b other) e ∙ ap (either_way p false (list_all (λ x. may W w env x (passes false)) ts)) f ∙ sym (may-Or ts p)

  pub is_choice : (a b d : Term) (xs ys zs out : List AbsValue) → AreValues W w env a xs → AreValues W w env b ys → AreValues W w env d zs → ((p : AbsValue → Bool) → list_any p out ≡ ((list_any (passes true) xs && list_any p ys) || (list_any (passes false) xs && list_any p zs))) → AreValues W w env (t.If a b d) out
  unfolding AreValues
  is_choice a b d xs ys zs out f g k h p =
      h p
      ∙ ap (λ c. (c && list_any p ys) || (list_any (passes false) xs && list_any p zs)) (f (passes true))
      ∙ ap (λ c. (may W w env a (passes true) && c) || (list_any (passes false) xs && list_any p zs)) (g p)
      ∙ ap (λ c. (may W w env a (passes true) && may W w env b p) || (c && list_any p zs)) (f (passes false))
      ∙ ap (λ c. (may W w env a (passes true) && may W w env b p) || (may W w env a (passes false) && c)) (k p)
      ∙ sym (may-If a b d p)

  pub is_comparison : (a b : Term) (xs ys out : List AbsValue) → AreValues W w env a xs → AreValues W w env b ys → ((p : AbsValue → Bool) → list_any p out ≡ list_any (λ x. list_any (same_passes p x) ys) xs) → AreValues W w env (t.Same a b) out
  unfolding AreValues
  is_comparison a b xs ys out f g h p = h p ∙ any_same _ _ xs (λ x. g (same_passes p x)) ∙ f (λ x. may W w env b (same_passes p x)) ∙ sym (may-Same a b p)

  pub is_order : (a b : Term) (xs ys out : List AbsValue) → AreValues W w env a xs → AreValues W w env b ys → ((p : AbsValue → Bool) → list_any p out ≡ list_any (λ x. list_any (λ y. p (Truth (int_lt (number x) (number y)))) ys) xs) → AreValues W w env (t.Less a b) out
  unfolding AreValues
  is_order a b xs ys out f g h p = h p ∙ any_same _ _ xs (λ x. g (λ y. p (Truth (int_lt (number x) (number y))))) ∙ f (λ x. may W w env b (λ y. p (Truth (int_lt (number x) (number y))))) ∙ sym (may-Less a b p)

  pub is_result : (op : ArithOp) (a b : Term) (xs ys out : List AbsValue) → AreValues W w env a xs → AreValues W w env b ys → ((p : AbsValue → Bool) → list_any p out ≡ list_any (λ x. list_any (λ y. p (Number (values.arith op (number x) (number y)))) ys) xs) → AreValues W w env (t.Arith op a b) out
  unfolding AreValues
  is_result op a b xs ys out f g h p = h p ∙ any_same _ _ xs (λ x. g (λ y. p (Number (values.arith op (number x) (number y))))) ∙ f (λ x. may W w env b (λ y. p (Number (values.arith op (number x) (number y))))) ∙ sym (may-Arith op a b p)

  pub is_quantified : (all : Bool) (a : Term) (each other : Bool) (out : List AbsValue) → each ≡ list_all (λ n. may W w (env ++ n ∷ []) a (passes all)) (window_nodes W) → other ≡ list_any (λ n. may W w (env ++ n ∷ []) a (passes (not all))) (window_nodes W ++ Other ∷ []) → ((p : AbsValue → Bool) → list_any p out ≡ either_way p all each other) → AreValues W w env (t.Quantified all a) out
  unfolding AreValues
  is_quantified all a each other out e f h p = h p ∙ ap (λ b. either_way p all b other) e ∙ ap (either_way p all (list_all (λ n. may W w (env ++ n ∷ []) a (passes all)) (window_nodes W))) f ∙ sym (may-Quantified all a p)

  -- what passes a test among the values
  pub values_pass : (a : Term) (xs : List AbsValue) (b : Bool) → AreValues W w env a xs → list_any (passes b) xs ≡ may W w env a (passes b)
  unfolding AreValues
  values_pass a xs b are = are (passes b)
