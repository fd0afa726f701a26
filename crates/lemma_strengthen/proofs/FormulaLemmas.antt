-- The formula of a piece says what the piece says, and instances say what a body says.
use Rattle.std.proofs.Common.{◌≡◌, ◌↔◌, ℕ, zero, suc, ◌+◌, ◌-◌, ◌<◌, ◌≤◌, Bool, true, false, ◌&&◌, List, [], ◌∷◌, ◌++◌, length, map, get_or, take, drop, length-append, length-take-le, take-append-drop, Option, Some, None, refl, sym, ap, ◌∙◌, subst, arith}
use Rattle.std.specs.Prelude.{slice_get}
use Rattle.std.specs.List.{list_all, All}
use Rattle.std.specs.Option.{option_map}
use Rattle.std.proofs.lemmas.List.{length-map}
use Rattle.std.proofs.lemmas.Option.{slice_get-map, slice_get-get_or}
use Rattle.std.proofs.lemmas.Bool.{and_parts}
use Rattle.term_core.specs.declared.value.Value.TheVariants as v
use Rattle.term_core.specs.declared.term.Term as t
use Rattle.term_core.specs.declared.term.Term.{Term}
use Rattle.term_core.specs.declared.machine.Piece.{Piece}
use Rattle.term_core.specs.Nodes.{is_node, choices}
use Rattle.term_core.specs.Values.{truth}
use Rattle.term_core.specs.Meaning.{Cells, value_of, holds}
use Rattle.term_core.specs.Firing.{AllPiecesHold}
use Rattle.term_core.specs.Cells.{choice_place}
use Rattle.term_core.specs.Laws.{PlacingBinds, ChoicesHavePlaces, PlacesHaveChoices}
use Rattle.lemma_strengthen.specs.Opening.{taken, variables, formula_body, HoldsForAll, instance, instances}
use Rattle.lemma_strengthen.specs.Laws.{chosen}
use Rattle.lemma_strengthen.proofs.TermLemmas.{get_past, each_at, each_from}
use Rattle.lemma_strengthen.proofs.PlacingLemmas.{Picks, placed_is, front_picks, variable_node}
use Rattle.lemma_strengthen.proofs.OpeningLemmas.{opened_true, opened_false, taken_within}

assigned : (ℕ → ℕ) → ℕ → ℕ → List ℕ
assigned a first zero = []
assigned a first (suc count) = a first ∷ assigned a (suc first) count

length-assigned : (a : ℕ → ℕ) (first count : ℕ) → length (assigned a first count) ≡ count
unfolding assigned
length-assigned a first zero = refl
length-assigned a first (suc count) = ap suc (length-assigned a (suc first) count)

assigned_nodes : (N : ℕ) (a : ℕ → ℕ) (first count : ℕ) → ((i : ℕ) → is_node N (a i) ≡ true) → list_all (is_node N) (assigned a first count) ≡ true
unfolding assigned
assigned_nodes N a first zero are = refl
assigned_nodes N a first (suc count) are = ap (λ b. b && list_all (is_node N) (assigned a (suc first) count)) (are first) ∙ assigned_nodes N a (suc first) count are

assigned_get : (a : ℕ → ℕ) (first count k : ℕ) → k < count → slice_get (assigned a first count) k ≡ Some (a (first + k))
unfolding assigned
assigned_get a first zero k h = absurd (omega (arith, h))
assigned_get a first (suc count) zero h = ap (λ j. Some (a j)) (omega arith)
assigned_get a first (suc count) (suc k) h = assigned_get a (suc first) count k (omega (arith, h)) ∙ ap (λ j. Some (a j)) (omega arith)

all_append : (N : ℕ) (xs ys : List ℕ) → list_all (is_node N) xs ≡ true → list_all (is_node N) ys ≡ true → list_all (is_node N) (xs ++ ys) ≡ true
all_append N [] ys f g = g
all_append N (x ∷ xs) ys f g = let h = and_parts (is_node N x) (list_all (is_node N) xs) f in ap (λ b. b && list_all (is_node N) (xs ++ ys)) h.0 ∙ all_append N xs ys h.1 g

take_nodes : (N k : ℕ) (xs : List ℕ) → list_all (is_node N) xs ≡ true → list_all (is_node N) (take k xs) ≡ true
take_nodes N zero xs f = refl
take_nodes N (suc k) [] f = refl
take_nodes N (suc k) (x ∷ xs) f = let h = and_parts (is_node N x) (list_all (is_node N) xs) f in ap (λ b. b && list_all (is_node N) (take k xs)) h.0 ∙ take_nodes N k xs h.1

module _ (binds : PlacingBinds) where
  -- where a piece holds, so does its formula
  pub piece_opens : (N : ℕ) (c : Cells) (prefix : ℕ) (piece : Piece) → piece.binders ≤ prefix → HoldsForAll N c piece.binders piece.body → HoldsForAll N c prefix (formula_body prefix piece)
  piece_opens N c prefix piece less all ns long are =
      let front = take piece.binders ns in
      let e : length front ≡ piece.binders = length-take-le piece.binders ns (omega (arith, less, long)) in
      let p : Picks N c ns (variables piece.binders) front = subst (λ f. Picks N c f (variables piece.binders) front) (take-append-drop piece.binders ns) (subst (λ b. Picks N c (front ++ drop piece.binders ns) (variables b) front) e (front_picks N c front (drop piece.binders ns))) in
      opened_true binds N c prefix ns long are true (variables piece.binders) front piece.binders (prefix - piece.binders) piece.body p (omega arith) (all front e (take_nodes N piece.binders ns are))

  -- and where the formula does, so does the piece
  pub formula_closes : (N : ℕ) (c : Cells) (prefix : ℕ) (piece : Piece) → 1 ≤ N → piece.binders ≤ prefix → HoldsForAll N c prefix (formula_body prefix piece) → HoldsForAll N c piece.binders piece.body
  formula_closes N c prefix piece some less all ns long are = go (truth (value_of N c ns piece.body)) refl
    where
      go : (b : Bool) → truth (value_of N c ns piece.body) ≡ b → truth (value_of N c ns piece.body) ≡ true
      go true was = was
      go false was =
          let r = opened_false binds N c some prefix true (variables piece.binders) ns piece.binders (prefix - piece.binders) piece.body was in
          let more = assigned r.nodes piece.binders (prefix - piece.binders) in
          let frame = ns ++ more in
          let count : length frame ≡ prefix = omega (arith, length-append ns more, length-assigned r.nodes piece.binders (prefix - piece.binders), long, less) in
          let p : Picks N c frame (variables piece.binders) ns = subst (λ b. Picks N c frame (variables b) ns) long (front_picks N c ns more) in
          let u : taken true (prefix - piece.binders) piece.body ≤ prefix - piece.binders = taken_within true (prefix - piece.binders) piece.body in
          let no_way : truth (value_of N c frame (formula_body prefix piece)) ≡ false = r.false_there frame count p (λ i low high.
          get_past ns more i (omega (arith, long, low)) ∙ ap (slice_get more) (let q : i - length ns ≡ i - piece.binders = omega (arith, long) in q)
          ∙ assigned_get r.nodes piece.binders (prefix - piece.binders) (i - piece.binders) (omega (arith, low, high, u)) ∙ ap (λ j. Some (r.nodes j)) (omega (arith, low))) in
          let is : truth (value_of N c frame (formula_body prefix piece)) ≡ true = all frame count (all_append N ns more are (assigned_nodes N r.nodes piece.binders (prefix - piece.binders) r.are)) in
          absurd cc

  -- so pieces hold together exactly where their formulas do
  pub formulas_say : (N : ℕ) (c : Cells) (prefix : ℕ) (pieces : List Piece) → 1 ≤ N → All (λ piece. piece.binders ≤ prefix) pieces
      → AllPiecesHold N c pieces [] ↔ All (λ piece. HoldsForAll N c prefix (formula_body prefix piece)) pieces
  formulas_say N c prefix pieces some within = (
    λ all k d less. piece_opens N c prefix (get_or pieces k d) (within k d less) (all k d less),
    λ all k d less. formula_closes N c prefix (get_or pieces k d) some (within k d less) (all k d less),
  )

  -- the node of a window that a chosen variable stands for
  node_under : (window n : ℕ) → is_node window n ≡ true → n - 1 < window
  node_under window n h = grind (arith, h)

  chosen_picks : (N : ℕ) (c : Cells) (window ns : List ℕ) → list_all (is_node (length window)) ns ≡ true → (k : ℕ) (by : Term) (m : ℕ) → slice_get (map (λ n. t.Var (n - 1)) ns) k ≡ Some by → slice_get (chosen window ns) k ≡ Some m → value_of N c window by ≡ v.Node m
  chosen_picks N c window [] are k by m e f = cc
  chosen_picks N c window (n ∷ ns) are zero by m e f =
      let this : t.Var (n - 1) ≡ by = cc in
      let node : get_or window (n - 1) 0 ≡ m = cc in
      ap (value_of N c window) (sym this)
      ∙ variable_node N c window (n - 1) (get_or window (n - 1) 0) (slice_get-get_or window (n - 1) 0 (node_under (length window) n (and_parts (is_node (length window) n) (list_all (is_node (length window)) ns) are).0))
      ∙ ap v.Node node
  chosen_picks N c window (n ∷ ns) are (suc k) by m e f = chosen_picks N c window ns (and_parts (is_node (length window) n) (list_all (is_node (length window)) ns) are).1 k by m e f

  -- an instance says in the frame of the window what the body says of the chosen nodes
  pub instance_value : (N : ℕ) (c : Cells) (window ns : List ℕ) (body : Term) → list_all (is_node (length window)) ns ≡ true → value_of N c window (instance (length window) body ns) ≡ value_of N c (chosen window ns) body
  instance_value N c window ns body are = placed_is binds N c (length window) window (map (λ n. t.Var (n - 1)) ns) (chosen window ns) body refl (length-map ns _ ∙ sym (length-map ns _), chosen_picks N c window ns are)

  module _ (there : ChoicesHavePlaces) (back : PlacesHaveChoices) where
    -- all instances are true exactly where the body is for each choice
    pub instances_say : (N : ℕ) (c : Cells) (window : List ℕ) (prefix : ℕ) (body : Term)
        → All (λ x. holds N c window x ≡ true) (instances (length window) prefix body) ↔ ((ns : List ℕ) → length ns ≡ prefix → list_all (is_node (length window)) ns ≡ true → holds N c (chosen window ns) body ≡ true)
    instances_say N c window prefix body = (forth, and_back)
      where
        of : List ℕ → Term
        of ns = instance (length window) body ns

        forth : All (λ x. holds N c window x ≡ true) (instances (length window) prefix body) → (ns : List ℕ) → length ns ≡ prefix → list_all (is_node (length window)) ns ≡ true → holds N c (chosen window ns) body ≡ true
        forth all ns long are =
            sym (ap truth (instance_value N c window ns body are))
            ∙ each_at (λ x. holds N c window x ≡ true) (instances (length window) prefix body) (choice_place (length window) ns) (instance (length window) body ns) all
            (slice_get-map (instance (length window) body) (choices (length window) prefix) (choice_place (length window) ns) ∙ ap (option_map (instance (length window) body)) (there (length window) prefix ns long are))

        one : ((ns : List ℕ) → length ns ≡ prefix → list_all (is_node (length window)) ns ≡ true → holds N c (chosen window ns) body ≡ true) → (k : ℕ) (x : Term) → (o : Option (List ℕ)) → slice_get (choices (length window) prefix) k ≡ o → option_map (instance (length window) body) o ≡ Some x → holds N c window x ≡ true
        one each k x None was e = cc
        one each k x (Some ns) was e =
            let r = back (length window) prefix k ns was in
            let this : instance (length window) body ns ≡ x = some_is e in
            ap (holds N c window) (sym this) ∙ ap truth (instance_value N c window ns body r.1) ∙ each ns r.0 r.1
          where
            some_is : {a b : Term} → Some a ≡ Some b → a ≡ b
            some_is g = cc

        and_back : ((ns : List ℕ) → length ns ≡ prefix → list_all (is_node (length window)) ns ≡ true → holds N c (chosen window ns) body ≡ true) → All (λ x. holds N c window x ≡ true) (instances (length window) prefix body)
        and_back each = each_from (λ x. holds N c window x ≡ true) (instances (length window) prefix body)
            (λ k x e. one each k x (slice_get (choices (length window) prefix) k) refl (sym (slice_get-map (instance (length window) body) (choices (length window) prefix) k) ∙ e))
