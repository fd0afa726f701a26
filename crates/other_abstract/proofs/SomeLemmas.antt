-- Every term may have some value; so what a conjunction may be goes by each part, or by one.
use Rattle.std.proofs.Common.{◌≡◌, ◌↔◌, ◌⊎◌, subst, ℕ, Bool, true, false, not, ◌&&◌, ◌||◌, List, [], ◌∷◌, ◌++◌, inl, inr, refl, sym, ap, ◌∙◌}
use Rattle.std.specs.Prelude.{int_lt}
use Rattle.std.specs.List.{list_all}
use Rattle.term_core.specs.declared.term.Term as t
use Rattle.term_core.specs.declared.term.Term.{Term, Row_of-Term, end_of-Term, more_of-Term, items-the_row-Term, items_hidden-the_row-Term-0}
use Rattle.term_core.specs.declared.term.Term.TheBlock.{hidden-the_row-Term-0}
use Rattle.term_core.specs.Forms.{NotForm, IfForm, SameForm, LessForm, ArithForm, QuantifiedForm}
use Rattle.term_core.specs.Values as values
use Rattle.other_abstract.specs.declared.node.AbsNode.{AbsNode}
use Rattle.other_abstract.specs.declared.node.AbsNode.TheVariants.{Other}
use Rattle.other_abstract.specs.declared.value.AbsValue.{AbsValue}
use Rattle.other_abstract.specs.declared.value.AbsValue.TheVariants.{Undefined, Truth, Number, Node}
use Rattle.other_abstract.specs.Windows.{Window, truth, number, same_value, constant, is_in_window, is_abs_node}
use Rattle.other_abstract.specs.May.{AbsCells, value_at, bound, led_to, MayRead, MaySame, MayBe, May, MayLead, MayEach, MaySome}
use Rattle.other_abstract.specs.declared.lead.Lead.{Lead}
use Rattle.other_abstract.specs.declared.lead.Lead.TheVariants.{At, Anywhere, Nowhere}
use Rattle.other_abstract.specs.Tests.{window_nodes, may, passes}
use Rattle.other_abstract.specs.Joining.{MayAnd, MayOr}
use Rattle.other_abstract.proofs.ImageLemmas.{in_is_abs}
use Rattle.other_abstract.proofs.TestLemmas.{in_window, window_all, any_by, maybe, may_in, may_has, is_passes}

some_read : (W : Window) (w : AbsCells) (f : ℕ) (r : Lead) → (x : AbsValue) × MayRead W w f r x
some_read W w f (At ns) = (value_at W w f ns, refl)
some_read W w f Anywhere = (Undefined, refl)
some_read W w f Nowhere = (Undefined, refl)

some_same : (a b : AbsValue) → (x : AbsValue) × MaySame a b x
some_same (Node Other) (Node Other) = (Truth true, inl refl)
some_same a b = (Truth (same_value a b), refl)

by_truth : (b : Bool) (M : AbsValue → Type 0) (x : AbsValue) → M x → MayBe b M ⊎ MayBe (not b) M
by_truth b M x m = go b (truth x) refl
  where
    go : (b d : Bool) → truth x ≡ d → MayBe b M ⊎ MayBe (not b) M
    go true true e = inl (x, m, e)
    go true false e = inr (x, m, e)
    go false true e = inr (x, m, e)
    go false false e = inl (x, m, e)

some_if : (T D E : AbsValue → Type 0) → MayBe true T ⊎ MayBe false T → (x : AbsValue) → D x → (y : AbsValue) → E y → (z : AbsValue) × ((MayBe true T × D z) ⊎ (MayBe false T × E z))
some_if T D E (inl h) x d y e = (x, inl (h, d))
some_if T D E (inr h) x d y e = (y, inr (h, e))

some_verdict : (all : Bool) (E S : Type 0) → E ⊎ S → (x : AbsValue) × (((x ≡ Truth all) × E) ⊎ ((x ≡ Truth (not all)) × S))
some_verdict all E S (inl e) = (Truth all, inl (refl, e))
some_verdict all E S (inr e) = (Truth (not all), inr (refl, e))

module _ (W : Window) (w : AbsCells) where
  some_quantified : (env : List AbsNode) (all : Bool) (b : Term) → ((n : AbsNode) → (x : AbsValue) × May W w (env ++ n ∷ []) b x)
      → (x : AbsValue) × (((x ≡ Truth all) × ((n : AbsNode) → is_in_window W n ≡ true → MayBe all (May W w (env ++ n ∷ []) b))) ⊎ ((x ≡ Truth (not all)) × (n : AbsNode) × (is_abs_node W n ≡ true) × MayBe (not all) (May W w (env ++ n ∷ []) b)))
  some_quantified env all b each = go (list_all (λ n. may W w (env ++ n ∷ []) b (passes all)) (window_nodes W)) refl
    where
      go : (d : Bool) → list_all (λ n. may W w (env ++ n ∷ []) b (passes all)) (window_nodes W) ≡ d → (x : AbsValue) × (((x ≡ Truth all) × ((n : AbsNode) → is_in_window W n ≡ true → MayBe all (May W w (env ++ n ∷ []) b))) ⊎ ((x ≡ Truth (not all)) × (n : AbsNode) × (is_abs_node W n ≡ true) × MayBe (not all) (May W w (env ++ n ∷ []) b)))
      go true was = (Truth all, inl (refl, λ n is. maybe W w all (May W w (env ++ n ∷ []) b) (may_in W w (env ++ n ∷ []) b (passes all) (window_all W (λ n. may W w (env ++ n ∷ []) b (passes all)) was n is))))
      go false was =
          let r = in_window W (λ n. not (may W w (env ++ n ∷ []) b (passes all))) (any_by (λ n. may W w (env ++ n ∷ []) b (passes all)) (window_nodes W) was) in
          let v = each r.value in
          (Truth (not all), inr (refl, r.value, in_is_abs W r.value r.may, pick r.value r.passes (by_truth all (May W w (env ++ r.value ∷ []) b) v.0 v.1)))
        where
          pick : (n : AbsNode) → not (may W w (env ++ n ∷ []) b (passes all)) ≡ true → MayBe all (May W w (env ++ n ∷ []) b) ⊎ MayBe (not all) (May W w (env ++ n ∷ []) b) → MayBe (not all) (May W w (env ++ n ∷ []) b)
          pick n h (inr m) = m
          pick n h (inl (x, m, e)) =
              let z : may W w (env ++ n ∷ []) b (passes all) ≡ true = may_has W w (env ++ n ∷ []) b (passes all) x m (is_passes all x e) in
              absurd (let y : false ≡ true = sym (ap not z) ∙ h in cc)

  mutual
    unfolding May

    pub some_value : (env : List AbsNode) (x : Term) → (v : AbsValue) × May W w env x v
    some_value env (t.Known x) = (constant x, refl)
    some_value env (t.Var k) = (bound env k, refl)
    some_value env (t.Read' f _ at) = let l = some_lead env at in let r = some_read W w f l.0 in (r.0, (l.0, l.1, r.1))
    some_value env (NotForm b) = let r = some_value env b in (Truth (not (truth r.0)), (r.0, r.1, refl))
    some_value env (t.And' _ parts) = some_verdict true (MayEach W w env parts true) (MaySome W w env parts false) (each_or_some env parts true)
    some_value env (t.Or' _ parts) = some_verdict false (MayEach W w env parts false) (MaySome W w env parts true) (each_or_some env parts false)
    some_value env (IfForm b d e) = let r = some_value env b in let x = some_value env d in let y = some_value env e in some_if (May W w env b) (May W w env d) (May W w env e) (by_truth true (May W w env b) r.0 r.1) x.0 x.1 y.0 y.1
    some_value env (SameForm b d) = let x = some_value env b in let y = some_value env d in let s = some_same x.0 y.0 in (s.0, (x.0, y.0, x.1, y.1, s.1))
    some_value env (LessForm b d) = let x = some_value env b in let y = some_value env d in (Truth (int_lt (number x.0) (number y.0)), (x.0, y.0, x.1, y.1, refl))
    some_value env (ArithForm op b d) = let x = some_value env b in let y = some_value env d in (Number (values.arith op (number x.0) (number y.0)), (x.0, y.0, x.1, y.1, refl))
    some_value env (QuantifiedForm all b) = some_quantified env all b (λ n. some_value (env ++ n ∷ []) b)

    some_lead : {n : _} (env : List AbsNode) (row : Row_of-Term n) → (r : Lead) × MayLead W w env row r
    some_lead env end_of-Term = (At [], refl)
    some_lead env (more_of-Term x rest) = let v = some_value env x in let l = some_lead env rest in (led_to v.0 l.0, (v.0, l.0, v.1, l.1, refl))

    each_or_some : {n : _} (env : List AbsNode) (row : Row_of-Term n) (b : Bool) → MayEach W w env row b ⊎ MaySome W w env row (not b)
    each_or_some env end_of-Term b = inl tt
    each_or_some env (more_of-Term x rest) b = let v = some_value env x in both (by_truth b (May W w env x) v.0 v.1) (each_or_some env rest b)
      where
        both : MayBe b (May W w env x) ⊎ MayBe (not b) (May W w env x) → MayEach W w env rest b ⊎ MaySome W w env rest (not b) → (MayBe b (May W w env x) × MayEach W w env rest b) ⊎ (MayBe (not b) (May W w env x) ⊎ MaySome W w env rest (not b))
        both (inl m) (inl e) = inl (m, e)
        both (inr m) e = inr (inl m)
        both (inl m) (inr e) = inr (inr e)

  some_and : (env : List AbsNode) (ts : List Term) → (b : Bool) × MayAnd W w env ts b
  some_and env [] = (true, refl)
  some_and env (x ∷ xs) =
      let v = some_value env x in let r = some_and env xs in
      (truth v.0 && r.0, (v.0, r.0, v.1, r.1, refl))

  some_or : (env : List AbsNode) (ts : List Term) → (b : Bool) × MayOr W w env ts b
  some_or env [] = (false, refl)
  some_or env (x ∷ xs) =
      let v = some_value env x in let r = some_or env xs in
      (truth v.0 || r.0, (v.0, r.0, v.1, r.1, refl))

  -- a conjunction may be true where each part may be, and false where one part may be anything else
  and_has : {n : _} (env : List AbsNode) (row : Row_of-Term n) (b : Bool) → ((b ≡ true) × MayEach W w env row true) ⊎ ((b ≡ false) × MaySome W w env row false) → MayAnd W w env (items-the_row-Term n row) b
  unfolding May
  and_has env end_of-Term b (inl (e, h)) = e
  and_has env end_of-Term b (inr (e, h)) = absurd h
  and_has env (more_of-Term x rest) b (inl (e, ((v, m, is), h))) = (v, true, m, and_has env rest true (inl (refl, h)), e ∙ sym (ap (λ q. q && true) is))
  and_has {n} env (more_of-Term x rest) b (inr (e, inl (v, m, is))) = let r = some_and env (items-the_row-Term _ rest) in (v, r.0, m, r.1, e ∙ sym (ap (λ q. q && r.0) is))
  and_has env (more_of-Term x rest) b (inr (e, inr h)) = let v = some_value env x in (v.0, false, v.1, and_has env rest false (inr (refl, h)), e ∙ sym (and_false (truth v.0)))
    where
      and_false : (q : Bool) → (q && false) ≡ false
      and_false true = refl
      and_false false = refl

  -- and it may be nothing else
  and_in : {n : _} (env : List AbsNode) (row : Row_of-Term n) (b : Bool) → MayAnd W w env (items-the_row-Term n row) b → ((b ≡ true) × MayEach W w env row true) ⊎ ((b ≡ false) × MaySome W w env row false)
  unfolding May
  and_in env end_of-Term b e = inl (e, tt)
  and_in env (more_of-Term x rest) b (v, q, m, j, e) = go (truth v) refl (and_in env rest q j)
    where
      go : (d : Bool) → truth v ≡ d → ((q ≡ true) × MayEach W w env rest true) ⊎ ((q ≡ false) × MaySome W w env rest false) → ((b ≡ true) × (MayBe true (May W w env x) × MayEach W w env rest true)) ⊎ ((b ≡ false) × (MayBe false (May W w env x) ⊎ MaySome W w env rest false))
      go true is (inl (f, h)) = inl (e ∙ ap (λ d. d && q) is ∙ f, ((v, m, is), h))
      go true is (inr (f, h)) = inr (e ∙ ap (λ d. d && q) is ∙ f, inr h)
      go false is h = inr (e ∙ ap (λ d. d && q) is, inl (v, m, is))

  -- the mirror image of a disjunction
  or_has : {n : _} (env : List AbsNode) (row : Row_of-Term n) (b : Bool) → ((b ≡ false) × MayEach W w env row false) ⊎ ((b ≡ true) × MaySome W w env row true) → MayOr W w env (items-the_row-Term n row) b
  unfolding May
  or_has env end_of-Term b (inl (e, h)) = e
  or_has env end_of-Term b (inr (e, h)) = absurd h
  or_has env (more_of-Term x rest) b (inl (e, ((v, m, is), h))) = (v, false, m, or_has env rest false (inl (refl, h)), e ∙ sym (ap (λ q. q || false) is))
  or_has env (more_of-Term x rest) b (inr (e, inl (v, m, is))) = let r = some_or env (items-the_row-Term _ rest) in (v, r.0, m, r.1, e ∙ sym (ap (λ q. q || r.0) is))
  or_has env (more_of-Term x rest) b (inr (e, inr h)) = let v = some_value env x in (v.0, true, v.1, or_has env rest true (inr (refl, h)), e ∙ sym (or_true (truth v.0)))
    where
      or_true : (q : Bool) → (q || true) ≡ true
      or_true true = refl
      or_true false = refl

  or_in : {n : _} (env : List AbsNode) (row : Row_of-Term n) (b : Bool) → MayOr W w env (items-the_row-Term n row) b → ((b ≡ false) × MayEach W w env row false) ⊎ ((b ≡ true) × MaySome W w env row true)
  unfolding May
  or_in env end_of-Term b e = inl (e, tt)
  or_in env (more_of-Term x rest) b (v, q, m, j, e) = go (truth v) refl (or_in env rest q j)
    where
      go : (d : Bool) → truth v ≡ d → ((q ≡ false) × MayEach W w env rest false) ⊎ ((q ≡ true) × MaySome W w env rest true) → ((b ≡ false) × (MayBe false (May W w env x) × MayEach W w env rest false)) ⊎ ((b ≡ true) × (MayBe true (May W w env x) ⊎ MaySome W w env rest true))
      go false is (inl (f, h)) = inl (e ∙ ap (λ d. d || q) is ∙ f, ((v, m, is), h))
      go false is (inr (f, h)) = inr (e ∙ ap (λ d. d || q) is ∙ f, inr h)
      go true is h = inr (e ∙ ap (λ d. d || q) is, inl (v, m, is))

  lowered : (all b : Bool) (E S : Type 0) → ((Truth b ≡ Truth all) × E) ⊎ ((Truth b ≡ Truth (not all)) × S) → ((b ≡ all) × E) ⊎ ((b ≡ not all) × S)
  lowered all b E S (inl (e, h)) = inl (cc, h)
  lowered all b E S (inr (e, h)) = inr (cc, h)

  lifted : (all b : Bool) (E S : Type 0) → ((b ≡ all) × E) ⊎ ((b ≡ not all) × S) → ((Truth b ≡ Truth all) × E) ⊎ ((Truth b ≡ Truth (not all)) × S)
  lifted all b E S (inl (e, h)) = inl (ap Truth e, h)
  lifted all b E S (inr (e, h)) = inr (ap Truth e, h)

  pub conjunction : (env : List AbsNode) (ts : List Term) (b : Bool) → May W w env (t.And ts) (Truth b) ↔ MayAnd W w env ts b
  unfolding May
  conjunction env ts b =
      let row = hidden-the_row-Term-0 ts in
      let e = items_hidden-the_row-Term-0 ts in (
        λ h. subst (λ xs. MayAnd W w env xs b) e (and_has env row b (lowered true b (MayEach W w env row true) (MaySome W w env row false) h)),
        λ j. lifted true b (MayEach W w env row true) (MaySome W w env row false) (and_in env row b (subst (λ xs. MayAnd W w env xs b) (sym e) j)),
      )

  pub disjunction : (env : List AbsNode) (ts : List Term) (b : Bool) → May W w env (t.Or ts) (Truth b) ↔ MayOr W w env ts b
  unfolding May
  disjunction env ts b =
      let row = hidden-the_row-Term-0 ts in
      let e = items_hidden-the_row-Term-0 ts in (
        λ h. subst (λ xs. MayOr W w env xs b) e (or_has env row b (lowered false b (MayEach W w env row false) (MaySome W w env row true) h)),
        λ j. lifted false b (MayEach W w env row false) (MaySome W w env row true) (or_in env row b (subst (λ xs. MayOr W w env xs b) (sym e) j)),
      )
