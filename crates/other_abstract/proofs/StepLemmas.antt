-- Steps as code decides them: what updates give, and what is left of lists.
use Rattle.std.proofs.Common.{◌≡◌, ℕ, zero, suc, ◌+◌, ◌≤◌, Bool, true, false, ◌&&◌, cond, List, [], ◌∷◌, ◌++◌, length, drop, Option, Some, None, refl, sym, ap, ◌∙◌, subst, arith}
use Rattle.std.specs.Prelude.{slice_get, nat_eq}
use Rattle.other_abstract.proofs.ReadLemmas.{drop_more}
use Rattle.std.specs.List.{list_any}
use Rattle.term_core.specs.declared.term.Term.{Term}
use Rattle.term_core.specs.declared.machine.Update.{Update}
use Rattle.term_core.specs.Firing.{update_for}
use Rattle.other_abstract.specs.declared.node.AbsNode.{AbsNode}
use Rattle.other_abstract.specs.declared.value.AbsValue.{AbsValue}
use Rattle.other_abstract.specs.declared.place.Place.{Place}
use Rattle.other_abstract.specs.Windows.{Window, same_value}
use Rattle.other_abstract.specs.May.{AbsCells}
use Rattle.other_abstract.specs.Tests.{passes, may}
use Rattle.other_abstract.specs.Lists.{AreValues}
use Rattle.other_abstract.specs.Machines.{read_kept, settled, blank, blank_of}
use Rattle.other_abstract.specs.Stepping.{same_values, kept_value, may_become, may_begin, AreNewValues}

-- two lists of as many values, from one place on
pub same_more : (xs ys : List AbsValue) (i : ℕ) (x y : AbsValue) → slice_get xs i ≡ Some x → slice_get ys i ≡ Some y → same_value x y ≡ true → same_values (drop (i + 1) xs) (drop (i + 1) ys) ≡ same_values (drop i xs) (drop i ys)
same_more xs ys i x y e f h =
    let next : i + 1 ≡ suc i = omega arith in
    ap (λ k. same_values (drop k xs) (drop k ys)) next ∙ go xs ys i e f
  where
    head_is : {a b : AbsValue} → Some a ≡ Some b → a ≡ b
    head_is e = cc

    go : (xs ys : List AbsValue) (i : ℕ) → slice_get xs i ≡ Some x → slice_get ys i ≡ Some y → same_values (drop (suc i) xs) (drop (suc i) ys) ≡ same_values (drop i xs) (drop i ys)
    go [] ys i e f = cc
    go (a ∷ xs) [] i e f = cc
    go (a ∷ xs) (b ∷ ys) zero e f = sym (ap (λ q. q && same_values xs ys) (ap (λ z. same_value z b) (head_is e) ∙ ap (same_value x) (head_is f) ∙ h))
    go (a ∷ xs) (b ∷ ys) (suc i) e f = go xs ys i e f

pub same_stops : (xs ys : List AbsValue) (i : ℕ) (x y : AbsValue) → slice_get xs i ≡ Some x → slice_get ys i ≡ Some y → same_value x y ≡ false → same_values (drop i xs) (drop i ys) ≡ false
same_stops [] ys i x y e f h = cc
same_stops (a ∷ xs) [] i x y e f h = cc
same_stops (a ∷ xs) (b ∷ ys) zero x y e f h =
    let p : a ≡ x = cc in
    let q : b ≡ y = cc in
    ap (λ q. q && same_values xs ys) (ap (λ z. same_value z b) p ∙ ap (same_value x) q ∙ h)
same_stops (a ∷ xs) (b ∷ ys) (suc i) x y e f h = same_stops xs ys i x y e f h

pub same_ends : (xs ys : List AbsValue) (i : ℕ) → length xs ≤ i → length xs ≡ length ys → same_values (drop i xs) (drop i ys) ≡ true
same_ends [] [] zero past long = refl
same_ends [] [] (suc i) past long = refl
same_ends [] (b ∷ ys) i past long = absurd (omega (arith, long))
same_ends (a ∷ xs) [] i past long = absurd (omega (arith, long))
same_ends (a ∷ xs) (b ∷ ys) zero past long = absurd (omega (arith, past))
same_ends (a ∷ xs) (b ∷ ys) (suc i) past long = same_ends xs ys i (omega (arith, past)) (omega (arith, long))

pub same_long : (xs ys : List AbsValue) → (length xs ≡ length ys → ⊥) → same_values xs ys ≡ false
same_long [] [] h = absurd (h refl)
same_long [] (b ∷ ys) h = refl
same_long (a ∷ xs) [] h = refl
same_long (a ∷ xs) (b ∷ ys) h = go (same_value a b) (same_long xs ys (λ e. h (ap suc e)))
  where
    go : (q : Bool) → same_values xs ys ≡ false → (q && same_values xs ys) ≡ false
    go true rest = rest
    go false rest = refl

-- the update of a family where it is found, and past the last
pub update_here : (us : List Update) (i : ℕ) (u : Update) (f : ℕ) → slice_get us i ≡ Some u → u.family ≡ f → update_for (drop i us) f ≡ update_for us f → update_for us f ≡ Some u.body
update_here us i u f there same before =
    let q : nat_eq u.family f ≡ true = grind (arith, same) in
    sym before ∙ ap (λ vs. update_for vs f) (drop_more us i u there) ∙ ap (λ b. cond b (Some u.body) (update_for (drop (suc i) us) f)) q

pub update_past : (us : List Update) (i f : ℕ) → length us ≤ i → update_for (drop i us) f ≡ update_for us f → update_for us f ≡ None
update_past us i f past before = sym before ∙ ap (λ vs. update_for vs f) (drop_past us i past)
  where
    drop_past : (us : List Update) (i : ℕ) → length us ≤ i → drop i us ≡ []
    drop_past [] zero h = refl
    drop_past [] (suc i) h = refl
    drop_past (v ∷ vs) zero h = absurd (omega (arith, h))
    drop_past (v ∷ vs) (suc i) h = drop_past vs i (omega (arith, h))

module _ (W : Window) (w : AbsCells) where
  pub new_found : (env env' : List AbsNode) (us : List Update) (f : ℕ) (body : Term) (xs : List AbsValue) → update_for us f ≡ Some body → env' ≡ env → AreValues W w env' body xs → AreNewValues W w env (update_for us f) (Some xs)
  unfolding AreNewValues
  new_found env env' us f body xs e same are = subst (λ o. AreNewValues W w env o (Some xs)) (sym e) (subst (λ v. AreValues W w v body xs) same are)

  pub new_none : (env : List AbsNode) (us : List Update) (f : ℕ) → update_for us f ≡ None → AreNewValues W w env (update_for us f) None
  unfolding AreNewValues
  new_none env us f e = subst (λ o. AreNewValues W w env o None) (sym e) tt

  pub become_some : (p : List AbsNode) (o : Option Term) (place : Place) (xs : List AbsValue) (y : AbsValue) → AreNewValues W w (p ++ place.at) o (Some xs) → list_any (λ x. same_value (read_kept x) y) xs ≡ may_become W w p o place y
  unfolding AreNewValues AreValues
  become_some p (Some body) place xs y are = are (λ x. same_value (read_kept x) y)
  become_some p None place xs y are = absurd are

  pub become_none : (p : List AbsNode) (o : Option Term) (place : Place) (y : AbsValue) → AreNewValues W w (p ++ place.at) o None → same_value (kept_value W w place) y ≡ may_become W w p o place y
  unfolding AreNewValues
  become_none p (Some body) place y are = absurd are
  become_none p None place y are = refl

  pub begin_some : (K : Window) (p : List AbsNode) (o : Option Term) (place : Place) (xs : List AbsValue) (y : AbsValue) → w ≡ blank W → AreNewValues W w (p ++ place.at) o (Some xs) → list_any (λ x. same_value (settled K place.family (read_kept x)) y) xs ≡ may_begin K W p o place y
  unfolding AreNewValues AreValues
  begin_some K p (Some body) place xs y e are = are (λ x. same_value (settled K place.family (read_kept x)) y) ∙ ap (λ s. may W s (p ++ place.at) body (λ x. same_value (settled K place.family (read_kept x)) y)) e
  begin_some K p None place xs y e are = absurd are

  pub begin_none : (K : Window) (p : List AbsNode) (o : Option Term) (place : Place) (y : AbsValue) → AreNewValues W w (p ++ place.at) o None → same_value (blank_of W.families place.family) y ≡ may_begin K W p o place y
  unfolding AreNewValues
  begin_none K p (Some body) place y are = absurd are
  begin_none K p None place y are = refl

  pub become_given : (p : List AbsNode) (o : Option Term) (place : Place) (out : Option (List AbsValue)) (xs xs' : List AbsValue) (y : AbsValue) (b : Bool) → AreNewValues W w (p ++ place.at) o out → out ≡ Some xs → xs' ≡ xs
      → b ≡ list_any (λ x. same_value (read_kept x) y) xs' → b ≡ may_become W w p o place y
  become_given p o place out xs xs' y b are is same e =
      e ∙ ap (list_any (λ x. same_value (read_kept x) y)) same ∙ become_some p o place xs y (subst (AreNewValues W w (p ++ place.at) o) is are)

  pub begin_given : (K : Window) (p : List AbsNode) (o : Option Term) (place : Place) (out : Option (List AbsValue)) (xs xs' : List AbsValue) (y : AbsValue) (b : Bool) → w ≡ blank W → AreNewValues W w (p ++ place.at) o out → out ≡ Some xs → xs' ≡ xs
      → b ≡ list_any (λ x. same_value (settled K place.family (read_kept x)) y) xs' → b ≡ may_begin K W p o place y
  begin_given K p o place out xs xs' y b blank_is are is same e =
      e ∙ ap (list_any (λ x. same_value (settled K place.family (read_kept x)) y)) same ∙ begin_some K p o place xs y blank_is (subst (AreNewValues W w (p ++ place.at) o) is are)

  pub begin_past : (K : Window) (p : List AbsNode) (o : Option Term) (place : Place) (out : Option (List AbsValue)) (x y : AbsValue) (b : Bool) → AreNewValues W w (p ++ place.at) o out → out ≡ None → x ≡ blank_of W.families place.family
      → b ≡ same_value x y → b ≡ may_begin K W p o place y
  begin_past K p o place out x y b are is same e = e ∙ ap (λ z. same_value z y) same ∙ begin_none K p o place y (subst (AreNewValues W w (p ++ place.at) o) is are)

  -- what passes among the values of a term
  pub passing : (env env' : List AbsNode) (x : Term) (vs : List AbsValue) (b : Bool) → env' ≡ env → AreValues W w env' x vs → list_any (passes b) vs ≡ may W w env x (passes b)
  unfolding AreValues
  passing env env' x vs b e are = are (passes b) ∙ ap (λ v. may W w v x (passes b)) e

pub ruleset stepping = (same_more, same_stops, same_ends, same_long, new_found, new_none, become_some, become_none, begin_some, begin_none, passing)
