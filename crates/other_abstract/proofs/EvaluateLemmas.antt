-- Where indices lead, one after the other; and one lemma for each way that evaluation goes.
use Rattle.std.proofs.Common.{◌≡◌, ℕ, zero, suc, ◌+◌, ◌≤◌, Bool, true, false, not, ◌&&◌, ◌||◌, List, [], ◌∷◌, ◌++◌, drop, length, Some, refl, sym, ap, ◌∙◌, subst, append_assoc, append-nil, arith}
use Rattle.std.specs.List.{list_all, list_any}
use Rattle.term_core.specs.declared.term.Term.{Term, the_lemmas}
use Rattle.term_core.specs.declared.term.Term as t
use Rattle.term_core.specs.declared.value.ArithOp.{ArithOp}
use Rattle.term_core.specs.Values as values
use Rattle.other_abstract.specs.declared.node.AbsNode.{AbsNode}
use Rattle.other_abstract.specs.declared.node.AbsNode.TheVariants.{Kept, Fired, Other}
use Rattle.other_abstract.specs.declared.value.AbsValue.{AbsValue}
use Rattle.other_abstract.specs.declared.value.AbsValue.TheVariants.{Undefined, Truth, Number, Member, Node}
use Rattle.other_abstract.specs.declared.lead.Lead.{Lead}
use Rattle.other_abstract.specs.declared.lead.Lead.TheVariants.{At, Anywhere, Nowhere}
use Rattle.other_abstract.specs.Windows.{Window, number}
use Rattle.other_abstract.specs.May.{AbsCells, led_to}
use Rattle.other_abstract.specs.Tests.{window_nodes, passes, same_passes, either_way, may}
use Rattle.other_abstract.specs.Lists.{list_lead, led_by, led_after, joined_lead, AreValues, AreLeads, AreLed}
use Rattle.std.specs.Prelude.{slice_get, int_lt}
use Rattle.other_abstract.proofs.TestLemmas.{any_append}
use Rattle.std.proofs.Math.Bool.{or_assoc}
use Rattle.other_abstract.proofs.ReadLemmas.{drop_more}
use Rattle.other_abstract.proofs.MayEquations.{fun_ext, any_same, or_false, is_known, is_variable, is_read, is_negation, is_conjunction, is_disjunction, is_choice, is_comparison, is_order, is_result, is_quantified, values_pass}

join_nowhere : (r : Lead) → joined_lead r Nowhere ≡ Nowhere
join_nowhere Nowhere = refl
join_nowhere Anywhere = refl
join_nowhere (At ns) = refl

join_kept : (r s : Lead) (k : ℕ) → joined_lead (led_by r (Kept k)) s ≡ joined_lead r (led_to (Node (Kept k)) s)
join_kept Nowhere s k = refl
join_kept Anywhere Nowhere k = refl
join_kept Anywhere Anywhere k = refl
join_kept Anywhere (At ms) k = refl
join_kept (At ns) Nowhere k = refl
join_kept (At ns) Anywhere k = refl
join_kept (At ns) (At ms) k = ap At (append_assoc ns (Kept k ∷ []) ms)

join_fired : (r s : Lead) (k : ℕ) → joined_lead (led_by r (Fired k)) s ≡ joined_lead r (led_to (Node (Fired k)) s)
join_fired Nowhere s k = refl
join_fired Anywhere Nowhere k = refl
join_fired Anywhere Anywhere k = refl
join_fired Anywhere (At ms) k = refl
join_fired (At ns) Nowhere k = refl
join_fired (At ns) Anywhere k = refl
join_fired (At ns) (At ms) k = ap At (append_assoc ns (Fired k ∷ []) ms)

join_other : (r s : Lead) → joined_lead (led_by r Other) s ≡ joined_lead r (led_to (Node Other) s)
join_other Nowhere s = refl
join_other Anywhere Nowhere = refl
join_other Anywhere Anywhere = refl
join_other Anywhere (At ms) = refl
join_other (At ns) Nowhere = refl
join_other (At ns) Anywhere = refl
join_other (At ns) (At ms) = refl

-- an index joins the leads before it as it begins those after it
join_after : (r : Lead) (x : AbsValue) (s : Lead) → joined_lead (led_after r x) s ≡ joined_lead r (led_to x s)
join_after r Undefined s = sym (join_nowhere r)
join_after r (Truth b) s = sym (join_nowhere r)
join_after r (Number z) s = sym (join_nowhere r)
join_after r (Member k i) s = sym (join_nowhere r)
join_after r (Node (Kept k)) s = join_kept r s k
join_after r (Node (Fired k)) s = join_fired r s k
join_after r (Node Other) s = join_other r s

join_none : (s : Lead) → joined_lead (At []) s ≡ s
join_none Nowhere = refl
join_none Anywhere = refl
join_none (At ms) = refl

join_end : (r : Lead) → joined_lead r (At []) ≡ r
join_end Nowhere = refl
join_end Anywhere = refl
join_end (At ns) = ap At (append-nil ns)

module _ (W : Window) (w : AbsCells) (env : List AbsNode) where
  pub led_start : (ts : List Term) → AreLed W w env ts (At [] ∷ []) ts
  unfolding AreLed
  led_start ts q = or_false _ ∙ ap (list_lead W w env ts) (fun_ext (λ s. ap q (join_none s)))

  pub led_more : (x : Term) (rest all : List Term) (rs out : List Lead) (vs : List AbsValue) → AreLed W w env (x ∷ rest) rs all → AreValues W w env x vs
      → ((q : Lead → Bool) → list_any q out ≡ list_any (λ r. list_any (λ v. q (led_after r v)) vs) rs) → AreLed W w env rest out all
  unfolding AreLed AreValues
  led_more x rest all rs out vs led are h q =
      h (λ r. list_lead W w env rest (λ s. q (joined_lead r s)))
      ∙ any_same _ _ rs (λ r. any_same _ _ vs (λ v. ap (list_lead W w env rest) (fun_ext (λ s. ap q (join_after r v s)))) ∙ are (λ v. list_lead W w env rest (λ s. q (joined_lead r (led_to v s)))))
      ∙ led q

  pub led_end : (rs : List Lead) (all : List Term) → AreLed W w env [] rs all → AreLeads W w env all rs
  unfolding AreLed AreLeads
  led_end rs all led q = any_same q (λ r. q (joined_lead r (At []))) rs (λ r. ap q (sym (join_end r))) ∙ led q

-- what one lead more adds to the leads that are out
pub extended_more : (leads : List Lead) (vs : List AbsValue) (i : ℕ) (r : Lead) (old out : List Lead) (q : Lead → Bool) → slice_get leads i ≡ Some r
    → list_any q out ≡ (list_any q old || list_any (λ v. q (led_after r v)) vs)
    → (list_any q old || list_any (λ r. list_any (λ v. q (led_after r v)) vs) (drop i leads)) ≡ list_any (λ r. list_any (λ v. q (led_after r v)) vs) leads
    → (list_any q out || list_any (λ r. list_any (λ v. q (led_after r v)) vs) (drop (i + 1) leads)) ≡ list_any (λ r. list_any (λ v. q (led_after r v)) vs) leads
extended_more leads vs i r old out q at added before =
    let F : Lead → Bool = λ r. list_any (λ v. q (led_after r v)) vs in
    let next : suc i ≡ i + 1 = omega (arith) in
    ap (λ b. b || list_any F (drop (i + 1) leads)) added
    ∙ or_assoc (list_any q old) (F r) (list_any F (drop (i + 1) leads))
    ∙ ap (λ b. list_any q old || b) (sym (ap (list_any F) (drop_more leads i r at ∙ ap (λ j. r ∷ drop j leads) next)))
    ∙ before

-- each arm, from what its parts give
module _ (W : Window) (w : AbsCells) (env : List AbsNode) where
  moved : (env' : List AbsNode) (a a' : Term) (xs : List AbsValue) → env' ≡ env → a' ≡ a → AreValues W w env' a' xs → AreValues W w env a xs
  moved env' a a' xs e f are = subst (λ b. AreValues W w env b xs) f (subst (λ v. AreValues W w v a' xs) e are)

  pub and_done : (x : Term) (ts us : List Term) (each other : Bool) (out : List AbsValue) → x ≡ t.And ts → us ≡ ts
      → each ≡ list_all (λ x. may W w env x (passes true)) us → other ≡ list_any (λ x. may W w env x (passes false)) us
      → ((p : AbsValue → Bool) → list_any p out ≡ either_way p true each other) → AreValues W w env x out
  and_done x ts us each other out is same e f h =
      subst (λ y. AreValues W w env y out) (sym is)
      (is_conjunction W w env ts each other out (e ∙ ap (list_all (λ x. may W w env x (passes true))) same) (f ∙ ap (list_any (λ x. may W w env x (passes false))) same) h)

  pub or_done : (x : Term) (ts us : List Term) (each other : Bool) (out : List AbsValue) → x ≡ t.Or ts → us ≡ ts
      → each ≡ list_all (λ x. may W w env x (passes false)) us → other ≡ list_any (λ x. may W w env x (passes true)) us
      → ((p : AbsValue → Bool) → list_any p out ≡ either_way p false each other) → AreValues W w env x out
  or_done x ts us each other out is same e f h =
      subst (λ y. AreValues W w env y out) (sym is)
      (is_disjunction W w env ts each other out (e ∙ ap (list_all (λ x. may W w env x (passes false))) same) (f ∙ ap (list_any (λ x. may W w env x (passes true))) same) h)

  pub quantified_done : (x : Term) (all : Bool) (b b' : Term) (each other : Bool) (out : List AbsValue) → x ≡ t.Quantified all b → b' ≡ b
      → each ≡ list_all (λ n. may W w (env ++ n ∷ []) b' (passes all)) (window_nodes W) → other ≡ list_any (λ n. may W w (env ++ n ∷ []) b' (passes (not all))) (window_nodes W ++ Other ∷ [])
      → ((p : AbsValue → Bool) → list_any p out ≡ either_way p all each other) → AreValues W w env x out
  quantified_done x all b b' each other out is same e f h =
      subst (λ y. AreValues W w env y out) (sym is)
      (subst (λ c. AreValues W w env (t.Quantified all c) out) same (is_quantified W w env all b' each other out e f h))

  pub same_done : (x a b a' b' : Term) (env' : List AbsNode) (xs ys xs' ys' out : List AbsValue) → x ≡ t.Same a b → a' ≡ a → b' ≡ b
      → AreValues W w env a' xs → env' ≡ env → AreValues W w env' b' ys → xs' ≡ xs → ys' ≡ ys
      → ((p : AbsValue → Bool) → list_any p out ≡ list_any (λ x. list_any (same_passes p x) ys') xs') → AreValues W w env x out
  same_done x a b a' b' env' xs ys xs' ys' out is f g are e more l r h =
      subst (λ y. AreValues W w env y out) (sym is)
      (is_comparison W w env a b xs ys out (moved env a a' xs refl f are) (moved env' b b' ys e g more)
      (λ p. h p ∙ ap (λ zs. list_any (λ x. list_any (same_passes p x) zs) xs') r ∙ ap (list_any (λ x. list_any (same_passes p x) ys)) l))

  pub less_done : (x a b a' b' : Term) (env' : List AbsNode) (xs ys xs' ys' out : List AbsValue) → x ≡ t.Less a b → a' ≡ a → b' ≡ b
      → AreValues W w env a' xs → env' ≡ env → AreValues W w env' b' ys → xs' ≡ xs → ys' ≡ ys
      → ((p : AbsValue → Bool) → list_any p out ≡ list_any (λ x. list_any (λ y. p (Truth (int_lt (number x) (number y)))) ys') xs') → AreValues W w env x out
  less_done x a b a' b' env' xs ys xs' ys' out is f g are e more l r h =
      subst (λ y. AreValues W w env y out) (sym is)
      (is_order W w env a b xs ys out (moved env a a' xs refl f are) (moved env' b b' ys e g more)
      (λ p. h p ∙ ap (λ zs. list_any (λ x. list_any (λ y. p (Truth (int_lt (number x) (number y)))) zs) xs') r ∙ ap (list_any (λ x. list_any (λ y. p (Truth (int_lt (number x) (number y)))) ys)) l))

  pub arith_done : (x : Term) (op : ArithOp) (a b a' b' : Term) (env' : List AbsNode) (xs ys xs' ys' out : List AbsValue) → x ≡ t.Arith op a b → a' ≡ a → b' ≡ b
      → AreValues W w env a' xs → env' ≡ env → AreValues W w env' b' ys → xs' ≡ xs → ys' ≡ ys
      → ((p : AbsValue → Bool) → list_any p out ≡ list_any (λ x. list_any (λ y. p (Number (values.arith op (number x) (number y)))) ys') xs') → AreValues W w env x out
  arith_done x op a b a' b' env' xs ys xs' ys' out is f g are e more l r h =
      subst (λ y. AreValues W w env y out) (sym is)
      (is_result W w env op a b xs ys out (moved env a a' xs refl f are) (moved env' b b' ys e g more)
      (λ p. h p ∙ ap (λ zs. list_any (λ x. list_any (λ y. p (Number (values.arith op (number x) (number y)))) zs) xs') r ∙ ap (list_any (λ x. list_any (λ y. p (Number (values.arith op (number x) (number y)))) ys)) l))

  -- one index more
  pub led_step : (at : List Term) (i : ℕ) (x : Term) (env' : List AbsNode) (rs rs' out : List Lead) (vs vs' : List AbsValue) → slice_get at i ≡ Some x
      → AreLed W w env (drop i at) rs at → env' ≡ env → AreValues W w env' x vs → rs' ≡ rs → vs' ≡ vs
      → ((q : Lead → Bool) → list_any q out ≡ list_any (λ r. list_any (λ v. q (led_after r v)) vs') rs') → AreLed W w env (drop (i + 1) at) out at
  led_step at i x env' rs rs' out vs vs' there led e are l r h =
      let next : suc i ≡ i + 1 = omega (arith) in
      led_more W w env x (drop (i + 1) at) at rs out vs
      (subst (λ ts. AreLed W w env ts rs at) (drop_more at i x there ∙ ap (λ j. x ∷ drop j at) next) led)
      (moved env' x x vs e refl are)
      (λ q. h q ∙ ap (λ zs. list_any (λ r. list_any (λ v. q (led_after r v)) zs) rs') r ∙ ap (list_any (λ r. list_any (λ v. q (led_after r v)) vs)) l)

  pub led_done : (at : List Term) (i : ℕ) (rs : List Lead) → length at ≤ i → AreLed W w env (drop i at) rs at → AreLeads W w env at rs
  led_done at i rs past led = led_end W w env rs at (subst (λ ts. AreLed W w env ts rs at) (drop_past at i past) led)
    where
      drop_past : {X : Type 0} (xs : List X) (i : ℕ) → length xs ≤ i → drop i xs ≡ []
      drop_past [] zero h = refl
      drop_past [] (suc i) h = refl
      drop_past (y ∷ ys) zero h = absurd (omega (arith, h))
      drop_past (y ∷ ys) (suc i) h = drop_past ys i (omega (arith, h))

  -- what one part more says
  pub passed : (env' : List AbsNode) (x : Term) (vs : List AbsValue) (b : Bool) → env' ≡ env → AreValues W w env' x vs → list_any (passes b) vs ≡ may W w env x (passes b)
  passed env' x vs b e are = values_pass W w env x vs b (moved env' x x vs e refl are)

and_assoc : (a b c : Bool) → ((a && b) && c) ≡ (a && (b && c))
and_assoc true b c = refl
and_assoc false b c = refl

pub each_step : {X : Type 0} (f : X → Bool) (xs : List X) (i : ℕ) (x : X) (old new : Bool) → slice_get xs i ≡ Some x → new ≡ (old && f x)
    → (old && list_all f (drop i xs)) ≡ list_all f xs → (new && list_all f (drop (i + 1) xs)) ≡ list_all f xs
each_step f xs i x old new there is before =
    let next : suc i ≡ i + 1 = omega (arith) in
    ap (λ b. b && list_all f (drop (i + 1) xs)) is
    ∙ and_assoc old (f x) (list_all f (drop (i + 1) xs))
    ∙ ap (λ ys. old && list_all f ys) (sym (drop_more xs i x there ∙ ap (λ j. x ∷ drop j xs) next))
    ∙ before

pub other_step : {X : Type 0} (f : X → Bool) (xs : List X) (i : ℕ) (x : X) (old new : Bool) → slice_get xs i ≡ Some x → new ≡ (old || f x)
    → (old || list_any f (drop i xs)) ≡ list_any f xs → (new || list_any f (drop (i + 1) xs)) ≡ list_any f xs
other_step f xs i x old new there is before =
    let next : suc i ≡ i + 1 = omega (arith) in
    ap (λ b. b || list_any f (drop (i + 1) xs)) is
    ∙ or_assoc old (f x) (list_any f (drop (i + 1) xs))
    ∙ ap (λ ys. old || list_any f ys) (sym (drop_more xs i x there ∙ ap (λ j. x ∷ drop j xs) next))
    ∙ before

-- one part more, and one node more
module _ (W : Window) (w : AbsCells) (env : List AbsNode) where
  pub parts_step : (b : Bool) (parts : List Term) (i : ℕ) (x : Term) (env' : List AbsNode) (vs : List AbsValue) (each each' other other' : Bool) → slice_get parts i ≡ Some x
      → env' ≡ env → AreValues W w env' x vs → each' ≡ (each && list_any (passes b) vs) → other' ≡ (other || list_any (passes (not b)) vs)
      → (each && list_all (λ x. may W w env x (passes b)) (drop i parts)) ≡ list_all (λ x. may W w env x (passes b)) parts
      → (other || list_any (λ x. may W w env x (passes (not b))) (drop i parts)) ≡ list_any (λ x. may W w env x (passes (not b))) parts
      → ((each' && list_all (λ x. may W w env x (passes b)) (drop (i + 1) parts)) ≡ list_all (λ x. may W w env x (passes b)) parts)
      × ((other' || list_any (λ x. may W w env x (passes (not b))) (drop (i + 1) parts)) ≡ list_any (λ x. may W w env x (passes (not b))) parts)
  parts_step b parts i x env' vs each each' other other' there e are f g before after = (
    each_step (λ x. may W w env x (passes b)) parts i x each each' there (f ∙ ap (λ q. each && q) (passed W w env env' x vs b e are)) before,
    other_step (λ x. may W w env x (passes (not b))) parts i x other other' there (g ∙ ap (λ q. other || q) (passed W w env env' x vs (not b) e are)) after,
  )

  pub nodes_step : (b : Bool) (body : Term) (nodes : List AbsNode) (i : ℕ) (n : AbsNode) (env' : List AbsNode) (vs : List AbsValue) (each each' other other' : Bool) → slice_get nodes i ≡ Some n
      → env' ≡ env → AreValues W w (env' ++ n ∷ []) body vs → each' ≡ (each && list_any (passes b) vs) → other' ≡ (other || list_any (passes (not b)) vs)
      → (each && list_all (λ n. may W w (env ++ n ∷ []) body (passes b)) (drop i nodes)) ≡ list_all (λ n. may W w (env ++ n ∷ []) body (passes b)) nodes
      → (other || list_any (λ n. may W w (env ++ n ∷ []) body (passes (not b))) (drop i nodes)) ≡ list_any (λ n. may W w (env ++ n ∷ []) body (passes (not b))) nodes
      → ((each' && list_all (λ n. may W w (env ++ n ∷ []) body (passes b)) (drop (i + 1) nodes)) ≡ list_all (λ n. may W w (env ++ n ∷ []) body (passes b)) nodes)
      × ((other' || list_any (λ n. may W w (env ++ n ∷ []) body (passes (not b))) (drop (i + 1) nodes)) ≡ list_any (λ n. may W w (env ++ n ∷ []) body (passes (not b))) nodes)
  nodes_step b body nodes i n env' vs each each' other other' there e are f g before after =
      let same : env' ++ n ∷ [] ≡ env ++ n ∷ [] = ap (λ v. v ++ n ∷ []) e in (
        each_step (λ n. may W w (env ++ n ∷ []) body (passes b)) nodes i n each each' there (f ∙ ap (λ q. each && q) (passed W w (env ++ n ∷ []) (env' ++ n ∷ []) body vs b same are)) before,
        other_step (λ n. may W w (env ++ n ∷ []) body (passes (not b))) nodes i n other other' there (g ∙ ap (λ q. other || q) (passed W w (env ++ n ∷ []) (env' ++ n ∷ []) body vs (not b) same are)) after,
      )

-- Other after all nodes of the window
pub other_last : (f : AbsNode → Bool) (xs ns : List AbsNode) (i : ℕ) (old new : Bool) → length xs ≤ i → xs ≡ ns → (old || list_any f (drop i xs)) ≡ list_any f xs → new ≡ (old || f Other) → new ≡ list_any f (ns ++ Other ∷ [])
other_last f xs ns i old new past same before is =
    is ∙ ap (λ b. b || f Other) (sym (or_none old (drop_past xs i past)) ∙ before ∙ ap (list_any f) same)
    ∙ ap (λ b. list_any f ns || b) (sym (or_end (f Other)))
    ∙ sym (any_append f ns (Other ∷ []))
  where
    or_end : (b : Bool) → (b || false) ≡ b
    or_end true = refl
    or_end false = refl

    or_none : (b : Bool) {ys : List AbsNode} → ys ≡ [] → (b || list_any f ys) ≡ b
    or_none b e = ap (λ ys. b || list_any f ys) e ∙ or_end b

    drop_past : (xs : List AbsNode) (i : ℕ) → length xs ≤ i → drop i xs ≡ []
    drop_past [] zero h = refl
    drop_past [] (suc i) h = refl
    drop_past (y ∷ ys) zero h = absurd (omega (arith, h))
    drop_past (y ∷ ys) (suc i) h = drop_past ys i (omega (arith, h))

module _ (W : Window) (w : AbsCells) (env : List AbsNode) where
  pub nodes_last : (b : Bool) (body : Term) (nodes ns : List AbsNode) (i : ℕ) (env' : List AbsNode) (vs : List AbsValue) (other other' : Bool) → length nodes ≤ i → nodes ≡ ns
      → env' ≡ env → AreValues W w (env' ++ Other ∷ []) body vs → other' ≡ (other || list_any (passes (not b)) vs)
      → (other || list_any (λ n. may W w (env ++ n ∷ []) body (passes (not b))) (drop i nodes)) ≡ list_any (λ n. may W w (env ++ n ∷ []) body (passes (not b))) nodes
      → other' ≡ list_any (λ n. may W w (env ++ n ∷ []) body (passes (not b))) (ns ++ Other ∷ [])
  nodes_last b body nodes ns i env' vs other other' past same e are g before =
      other_last (λ n. may W w (env ++ n ∷ []) body (passes (not b))) nodes ns i other other' past same before
      (g ∙ ap (λ q. other || q) (passed W w (env ++ Other ∷ []) (env' ++ Other ∷ []) body vs (not b) (ap (λ v. v ++ Other ∷ []) e) are))

pub ruleset arms = (is_known, is_variable, is_read, is_negation, is_conjunction, is_disjunction, is_choice, is_comparison, is_order, is_result, is_quantified, values_pass, led_start, led_more, led_end, the_lemmas)
