-- Parameters: each choice of values is an instance with nodes in its holes, and the other way round.
use Rattle.std.proofs.Common.{◌≡◌, ℕ, suc, Bool, true, false, List, [], ◌∷◌, ◌++◌, length, map, Option, None, Some, inl, inr, refl, sym, ap, ◌∙◌, subst, arith, append_assoc}
use Rattle.std.specs.List.{list_all}
use Rattle.std.proofs.lemmas.Bool.{and_parts}
use Rattle.std.proofs.lemmas.List.{length-append}
use Rattle.term_core.specs.declared.value.Value.{Value}
use Rattle.term_core.specs.declared.value.Value.TheVariants as v
use Rattle.term_core.specs.Nodes.{is_node}
use Rattle.term_core.specs.Variables.{is_no_node}
use Rattle.term_core.specs.Meaning.{Cells}
use Rattle.murphi_typed.specs.declared.types.Simple.{Simple}
use Rattle.murphi_typed.specs.declared.types.Simple.TheVariants as simple
use Rattle.murphi_typed.specs.declared.protocol.Parameter.{Parameter}
use Rattle.murphi_typed.specs.Prefix.{is_over_nodes}
use Rattle.murphi_typed.specs.Values.{is_value, values}
use Rattle.murphi_typed.specs.Families.{choices}
use Rattle.murphi_typed.specs.Steps.{are_parameters}
use Rattle.rule_inline.specs.Tables.{Key, holes}
use Rattle.rule_inline.specs.Parts.{fixed_values}
use Rattle.rule_inline.specs.Presents.{at_nodes, nodes_in}
use Rattle.rule_inline.specs.Machine.{fixed, instances, parameter_terms}
use Rattle.rule_inline.proofs.ValueLemmas.{absurd_false}
use Rattle.rule_inline.proofs.TermLemmas.{value-Known, and_of}
use Rattle.rule_inline.proofs.PlaceLemmas.{Has, variable_there}
use Rattle.rule_inline.proofs.TypeLemmas.{in_values, EachValue, are_values, values_fixed, fixed_no_nodes}
use Rattle.rule_inline.proofs.SceneLemmas.{BoundAre}
use Rattle.rule_inline.proofs.FirstTerms.{Each, each_weaker, each_map, each_under, each_flat, each_flat_parts}

abbrev overs : List Parameter → List Simple
overs params = map (λ (p : Parameter). p.over) params

-- A choice is among the instances

at_has : (P : Value → Type 0) (xs : List Value) (x : Value) → Each P xs → Has xs x → P x
at_has P [] x e has = absurd has
at_has P (y ∷ ys) x (p, e) (inl same) = subst P same p
at_has P (y ∷ ys) x (p, e) (inr there) = at_has P ys x e there

at_value : (N : ℕ) (u : Simple) (w : Value) → is_value N u w ≡ true → (Q : Option Value → Type 0) → Each (λ x. Q (fixed x)) (values 1 u) → Q (fixed w)
at_value N u w is Q e = go (is_over_nodes u) refl
  where
    node : (u : Simple) (w : Value) → is_over_nodes u ≡ true → is_value N u w ≡ true → Each (λ x. Q (fixed x)) (values 1 u) → Q (fixed w)
    node simple.Node (v.Node n) o is (q, rest) = q
    node simple.Node v.Undefined o is e = absurd_false is
    node simple.Node (v.Truth b) o is e = absurd_false is
    node simple.Node (v.Number z) o is e = absurd_false is
    node simple.Node (v.Member k i) o is e = absurd_false is
    node simple.Truth w o is e = absurd_false o
    node (simple.Range low high) w o is e = absurd_false o
    node (simple.Listed kind count) w o is e = absurd_false o
    node (simple.Scalarset kind count) w o is e = absurd_false o

    go : (b : Bool) → is_over_nodes u ≡ b → Q (fixed w)
    go true o = node u w o is e
    go false o = at_has (λ x. Q (fixed x)) (fixed_values u) w (subst (Each (λ x. Q (fixed x))) (values_fixed 1 u o) e) (in_values N u w o is)

chosen_value : (N : ℕ) (params : List Parameter) (p : List Value) → are_parameters N params p ≡ true → (Q : Key → Type 0) → Each (λ at. Q (map fixed at)) (choices 1 (overs params)) → Q (map fixed p)
chosen_value N [] [] fits Q (q, rest) = q
chosen_value N [] (w ∷ p) fits Q e = absurd_false fits
chosen_value N (d ∷ params) [] fits Q e = absurd_false fits
chosen_value N (d ∷ params) (w ∷ p) fits Q e =
    let (one, rest) = and_parts (is_value N d.over w) (are_parameters N params p) fits in
    chosen_value N params p rest (λ key. Q (fixed w ∷ key))
    (at_value N d.over w one (λ o. Each (λ vs. Q (o ∷ map fixed vs)) (choices 1 (overs params)))
    (each_weaker (λ x. Each (λ at. Q (map fixed at)) (map (λ vs. x ∷ vs) (choices 1 (overs params)))) (λ x. Each (λ vs. Q (fixed x ∷ map fixed vs)) (choices 1 (overs params)))
    (λ x all. each_under (λ at. Q (map fixed at)) (λ vs. x ∷ vs) (choices 1 (overs params)) all) (values 1 d.over)
    (each_flat_parts (λ at. Q (map fixed at)) (λ x. map (λ vs. x ∷ vs) (choices 1 (overs params))) (values 1 d.over) e)))

-- what holds of each instance holds of that of a choice
pub at_instance : (N : ℕ) (params : List Parameter) (p : List Value) → are_parameters N params p ≡ true → (Q : Key → Type 0) → Each Q (instances params) → Q (map fixed p)
at_instance N params p fits Q e = chosen_value N params p fits Q (each_under Q (map fixed) (choices 1 (overs params)) e)

-- An instance with nodes in its holes is a choice

module _ (N : ℕ) where
  abbrev One : Simple → Option Value → Type 0
  One u None = (n : ℕ) → is_node N n ≡ true → is_value N u (v.Node n) ≡ true
  One u (Some w) = is_value N u w ≡ true

  abbrev pub Fits : List Parameter → Key → Type 0
  Fits params key = (ns : List ℕ) → length ns ≡ holes key → list_all (is_node N) ns ≡ true → are_parameters N params (at_nodes key ns) ≡ true

  one_more : (d : Parameter) (params : List Parameter) (o : Option Value) (key : Key) → One d.over o → Fits params key → Fits (d ∷ params) (o ∷ key)
  one_more d params None key one fits [] long nodes = absurd (omega (arith, long))
  one_more d params None key one fits (n ∷ ns) long nodes =
      let (first, rest) = and_parts (is_node N n) (list_all (is_node N) ns) nodes in
      and_of (one n first) (fits ns (omega (arith, long)) rest)
  one_more d params (Some w) key one fits ns long nodes = and_of one (fits ns long nodes)

  one_fixed : (u : Simple) (w : Value) → is_value N u w ≡ true → is_no_node w ≡ true → One u (fixed w)
  one_fixed u v.Undefined is nn = is
  one_fixed u (v.Truth b) is nn = is
  one_fixed u (v.Number z) is nn = is
  one_fixed u (v.Member k i) is nn = is
  one_fixed u (v.Node n) is nn = absurd_false nn

  ones : (u : Simple) (xs : List Value) → EachValue (λ x. is_value N u x ≡ true) xs → list_all is_no_node xs ≡ true → Each (λ x. One u (fixed x)) xs
  ones u [] e nn = tt
  ones u (x ∷ xs) (is, e) nn = let (one, rest) = and_parts (is_no_node x) (list_all is_no_node xs) nn in (one_fixed u x is one, ones u xs e rest)

  value_ones : (u : Simple) → Each (λ x. One u (fixed x)) (values 1 u)
  value_ones u = go (is_over_nodes u) refl
    where
      node : (u : Simple) → is_over_nodes u ≡ true → Each (λ x. One u (fixed x)) (values 1 u)
      node simple.Node o = ((λ n is. is), tt)
      node simple.Truth o = absurd_false o
      node (simple.Range low high) o = absurd_false o
      node (simple.Listed kind count) o = absurd_false o
      node (simple.Scalarset kind count) o = absurd_false o

      go : (b : Bool) → is_over_nodes u ≡ b → Each (λ x. One u (fixed x)) (values 1 u)
      go true o = node u o
      go false o = subst (Each (λ x. One u (fixed x))) (sym (values_fixed 1 u o)) (ones u (fixed_values u) (are_values N u o) (fixed_no_nodes u o))

  choice_fits : (params : List Parameter) → Each (λ at. Fits params (map fixed at)) (choices 1 (overs params))
  choice_fits [] = ((λ ns long nodes. refl), tt)
  choice_fits (d ∷ params) =
      each_flat (λ at. Fits (d ∷ params) (map fixed at)) (λ x. map (λ vs. x ∷ vs) (choices 1 (overs params))) (values 1 d.over)
      (each_weaker (λ x. One d.over (fixed x)) (λ x. Each (λ at. Fits (d ∷ params) (map fixed at)) (map (λ vs. x ∷ vs) (choices 1 (overs params))))
      (λ x one. each_map (λ at. Fits (d ∷ params) (map fixed at)) (λ vs. x ∷ vs) (choices 1 (overs params))
      (each_weaker (λ vs. Fits params (map fixed vs)) (λ vs. Fits (d ∷ params) (fixed x ∷ map fixed vs)) (λ vs fits. one_more d params (fixed x) (map fixed vs) one fits) (choices 1 (overs params)) (choice_fits params)))
      (values 1 d.over) (value_ones d.over))

  pub instances_fit : (params : List Parameter) → Each (Fits params) (instances params)
  instances_fit params = each_map (Fits params) (map fixed) (choices 1 (overs params)) (choice_fits params)

  -- a choice is its instance with its nodes in the holes
  node_value : (u : Simple) (n : ℕ) → is_value N u (v.Node n) ≡ true → is_node N n ≡ true
  node_value simple.Node n is = is
  node_value simple.Truth n is = absurd_false is
  node_value (simple.Range low high) n is = absurd_false is
  node_value (simple.Listed kind count) n is = absurd_false is
  node_value (simple.Scalarset kind count) n is = absurd_false is

  abbrev pub ChoiceIs : List Value → Type 0
  ChoiceIs p = (at_nodes (map fixed p) (nodes_in p) ≡ p) × (length (nodes_in p) ≡ holes (map fixed p)) × (list_all (is_node N) (nodes_in p) ≡ true)

  pub choice_is : (params : List Parameter) (p : List Value) → are_parameters N params p ≡ true → ChoiceIs p
  choice_is [] [] fits = (refl, refl, refl)
  choice_is [] (w ∷ p) fits = absurd_false fits
  choice_is (d ∷ params) [] fits = absurd_false fits
  choice_is (d ∷ params) (w ∷ p) fits =
      let (one, rest) = and_parts (is_value N d.over w) (are_parameters N params p) fits in
      more w one (choice_is params p rest)
    where
      more : (w : Value) → is_value N d.over w ≡ true → ChoiceIs p → ChoiceIs (w ∷ p)
      more v.Undefined is (same, long, nodes) = (ap (λ q. v.Undefined ∷ q) same, long, nodes)
      more (v.Truth b) is (same, long, nodes) = (ap (λ q. v.Truth b ∷ q) same, long, nodes)
      more (v.Number z) is (same, long, nodes) = (ap (λ q. v.Number z ∷ q) same, long, nodes)
      more (v.Member k i) is (same, long, nodes) = (ap (λ q. v.Member k i ∷ q) same, long, nodes)
      more (v.Node n) is (same, long, nodes) = (ap (λ q. v.Node n ∷ q) same, ap suc long, and_of (node_value d.over n is) nodes)

-- the terms of the parameters have their values
module _ (N : ℕ) (c : Cells) where
  pub parameters_bound : (key : Key) (front ns : List ℕ) → length ns ≡ holes key → BoundAre N c (front ++ ns) (parameter_terms (length front) key) (at_nodes key ns)
  parameters_bound [] front ns long = tt
  parameters_bound (Some w ∷ key) front ns long = (value-Known N c (front ++ ns) w, tt, parameters_bound key front ns long)
  parameters_bound (None ∷ key) front [] long = absurd (omega (arith, long))
  parameters_bound (None ∷ key) front (n ∷ ns) long = (
    variable_there N c front n ns,
    (let l = length-append front (n ∷ ns) in omega (arith, l)),
    subst (λ fr. BoundAre N c fr (parameter_terms (suc (length front)) key) (at_nodes key ns)) (append_assoc front (n ∷ []) ns)
        (subst (λ k. BoundAre N c ((front ++ n ∷ []) ++ ns) (parameter_terms k key) (at_nodes key ns)) (length-append front (n ∷ []) ∙ omega arith) (parameters_bound key (front ++ n ∷ []) ns (omega (arith, long)))),
  )
