-- One lemma for each form of term.
use Rattle.std.proofs.Common.{◌≡◌, ℕ, Bool, true, false, not, ◌&&◌, ◌||◌, List, [], ◌∷◌, ◌++◌, refl, sym, ap, ◌∙◌}
use Rattle.std.specs.Prelude.{int_lt}
use Rattle.std.specs.List.{list_all, list_any}
use denote.Hole.Carrier.{hidden}
use Rattle.term_core.specs.declared.value.Value.{Value}
use Rattle.term_core.specs.declared.value.ArithOp.{ArithOp}
use Rattle.term_core.specs.declared.term.Term as t
use Rattle.term_core.specs.declared.term.Term.{Term, Row_of-Term, end_of-Term, more_of-Term, items-the_row-Term, items_hidden-the_row-Term-0}
use Rattle.term_core.specs.declared.term.Term.TheBlock.{hidden-the_row-Term-0, shape-the_row-Term-1, hidden-the_row-Term-1}
use Rattle.term_core.specs.Values as values
use Rattle.circuit_core.specs.declared.edge.Edge.{Edge}
use Rattle.other_abstract.specs.declared.node.AbsNode.{AbsNode}
use Rattle.other_abstract.specs.declared.node.AbsNode.TheVariants.{Other}
use Rattle.other_abstract.specs.declared.value.AbsValue.{AbsValue}
use Rattle.other_abstract.specs.declared.value.AbsValue.TheVariants.{Truth, Number}
use Rattle.other_abstract.specs.Windows.{Window, truth, number, constant}
use Rattle.other_abstract.specs.declared.lead.Lead.{Lead}
use Rattle.other_abstract.specs.May.{AbsCells, bound, led_to}
use Rattle.other_abstract.specs.Lists.{list_lead}
use Rattle.other_abstract.specs.Tests.{window_nodes, passes, same_passes, either_way, read_passes, may, may_lead, may_each, may_some}
use Rattle.bit_encode.specs.declared.set.Possible.{Possible}
use Rattle.bit_encode.specs.declared.combine.PairOp.TheVariants.{Same, Less, Arith}
use Rattle.bit_encode.specs.MaySets.{held}
use Rattle.bit_encode.specs.Coding.{IsMay}
use Rattle.bit_encode.specs.declared.leads.PossibleLead.{PossibleLead}
use Rattle.bit_encode.specs.Leads.{held_lead, read_held, IsLed}
use Rattle.bit_encode.proofs.PlacingLemmas.{read_is_seen}
use Rattle.bit_encode.specs.Forms.{Tells, Pairs, IsVerdict, FormsAreSaid}

pub fun_ext : {A B : Type 0} {f g : A → B} → ((x : A) → f x ≡ g x) → f ≡ g
fun_ext h = λ i x. h x i

held_same : (val : Edge → Bool) (p q : AbsValue → Bool) (s : List Possible) → ((v : AbsValue) → p v ≡ q v) → held val p s ≡ held val q s
held_same val p q s same = ap (λ f. held val f s) (fun_ext same)

and_swap : (a b : Bool) → (a && b) ≡ (b && a)
and_swap true true = refl
and_swap true false = refl
and_swap false true = refl
and_swap false false = refl

module _ (W : Window) (w : AbsCells) (env : List AbsNode) where
  row_each : {n : _} (row : Row_of-Term n) (b : Bool) → may_each W w env row b ≡ list_all (λ x. may W w env x (passes b)) (items-the_row-Term n row)
  unfolding may
  row_each end_of-Term b = refl
  row_each (more_of-Term x rest) b = ap (λ c. may W w env x (passes b) && c) (row_each rest b)

  row_some : {n : _} (row : Row_of-Term n) (b : Bool) → may_some W w env row b ≡ list_any (λ x. may W w env x (passes b)) (items-the_row-Term n row)
  unfolding may
  row_some end_of-Term b = refl
  row_some (more_of-Term x rest) b = ap (λ c. may W w env x (passes b) || c) (row_some rest b)

  row_lead : {n : _} (row : Row_of-Term n) (q : Lead → Bool) → may_lead W w env row q ≡ list_lead W w env (items-the_row-Term n row) q
  unfolding may
  row_lead end_of-Term q = refl
  row_lead (more_of-Term x rest) q = ap (may W w env x) (fun_ext (λ v. row_lead rest (λ r. q (led_to v r))))

  may-Read : (f : ℕ) (ts : List Term) (p : AbsValue → Bool) → may W w env (t.Read f ts) p ≡ list_lead W w env ts (read_passes W w f p)
  unfolding may
  may-Read f ts p = row_lead (hidden-the_row-Term-0 ts) (read_passes W w f p) ∙ ap (λ xs. list_lead W w env xs (read_passes W w f p)) (items_hidden-the_row-Term-0 ts)

  may-Not : (a : Term) (p : AbsValue → Bool) → may W w env (t.Not a) p ≡ may W w env a (λ x. p (Truth (not (truth x))))
  unfolding may shape-the_row-Term-1 hidden-the_row-Term-1 hidden
  may-Not a p = refl

  may-And : (ts : List Term) (p : AbsValue → Bool) → may W w env (t.And ts) p ≡ either_way p true (list_all (λ x. may W w env x (passes true)) ts) (list_any (λ x. may W w env x (passes false)) ts)
  unfolding may
  may-And ts p =
      let row = hidden-the_row-Term-0 ts in let e = items_hidden-the_row-Term-0 ts in
      ap (λ b. either_way p true b (may_some W w env row false)) (row_each row true ∙ ap (list_all (λ x. may W w env x (passes true))) e)
      ∙ ap (either_way p true (list_all (λ x. may W w env x (passes true)) ts)) (row_some row false ∙ ap (list_any (λ x. may W w env x (passes false))) e)

  may-Or : (ts : List Term) (p : AbsValue → Bool) → may W w env (t.Or ts) p ≡ either_way p false (list_all (λ x. may W w env x (passes false)) ts) (list_any (λ x. may W w env x (passes true)) ts)
  unfolding may
  may-Or ts p =
      let row = hidden-the_row-Term-0 ts in let e = items_hidden-the_row-Term-0 ts in
      ap (λ b. either_way p false b (may_some W w env row true)) (row_each row false ∙ ap (list_all (λ x. may W w env x (passes false))) e)
      ∙ ap (either_way p false (list_all (λ x. may W w env x (passes false)) ts)) (row_some row true ∙ ap (list_any (λ x. may W w env x (passes true))) e)

  may-If : (a b d : Term) (p : AbsValue → Bool) → may W w env (t.If a b d) p ≡ ((may W w env a (passes true) && may W w env b p) || (may W w env a (passes false) && may W w env d p))
  unfolding may shape-the_row-Term-1 hidden-the_row-Term-1 hidden
  may-If a b d p = refl

  may-Same : (a b : Term) (p : AbsValue → Bool) → may W w env (t.Same a b) p ≡ may W w env a (λ x. may W w env b (same_passes p x))
  unfolding may shape-the_row-Term-1 hidden-the_row-Term-1 hidden
  may-Same a b p = refl

  may-Less : (a b : Term) (p : AbsValue → Bool) → may W w env (t.Less a b) p ≡ may W w env a (λ x. may W w env b (λ y. p (Truth (int_lt (number x) (number y)))))
  unfolding may shape-the_row-Term-1 hidden-the_row-Term-1 hidden
  may-Less a b p = refl

  may-Arith : (op : ArithOp) (a b : Term) (p : AbsValue → Bool) → may W w env (t.Arith op a b) p ≡ may W w env a (λ x. may W w env b (λ y. p (Number (values.arith op (number x) (number y)))))
  unfolding may shape-the_row-Term-1 hidden-the_row-Term-1 hidden
  may-Arith op a b p = refl

  may-Quantified : (all : Bool) (a : Term) (p : AbsValue → Bool) → may W w env (t.Quantified all a) p ≡ either_way p all (list_all (λ n. may W w (env ++ n ∷ []) a (passes all)) (window_nodes W)) (list_any (λ n. may W w (env ++ n ∷ []) a (passes (not all))) (window_nodes W ++ Other ∷ []))
  unfolding may shape-the_row-Term-1 hidden-the_row-Term-1 hidden
  may-Quantified all a p = refl

  pub choose : (a b d : Term) (h f x y : Bool) (p : AbsValue → Bool) → h ≡ may W w env a (passes true) → f ≡ may W w env a (passes false) → x ≡ may W w env b p → y ≡ may W w env d p
      → ((x && h) || (y && f)) ≡ may W w env (t.If a b d) p
  choose a b d h f x y p eh ef ex ey =
      ap (λ z. z || (y && f)) (and_swap x h) ∙ ap (λ z. (h && x) || z) (and_swap y f)
      ∙ ap (λ z. (z && x) || (f && y)) eh
      ∙ ap (λ z. (may W w env a (passes true) && z) || (f && y)) ex
      ∙ ap (λ z. (may W w env a (passes true) && may W w env b p) || (z && y)) ef
      ∙ ap (λ z. (may W w env a (passes true) && may W w env b p) || (may W w env a (passes false) && z)) ey
      ∙ sym (may-If a b d p)

module _ (val : Edge → Bool) (cells : List (List Possible)) (W : Window) (env : List AbsNode) where
  is_known : (v : Value) (s : List Possible) → ((p : AbsValue → Bool) → held val p s ≡ p (constant v)) → IsMay val cells W env (t.Known v) s
  unfolding IsMay may
  is_known v s h w sh p = h p

  is_variable : (k : ℕ) (s : List Possible) → ((p : AbsValue → Bool) → held val p s ≡ p (bound env k)) → IsMay val cells W env (t.Var k) s
  unfolding IsMay may
  is_variable k s h w sh p = h p

  is_reading : (f : ℕ) (ts : List Term) (rs : List PossibleLead) (s : List Possible) → IsLed val cells W env ts rs → ((p : AbsValue → Bool) → held val p s ≡ held_lead val (read_held val cells W f p) rs) → IsMay val cells W env (t.Read f ts) s
  unfolding IsMay IsLed
  is_reading f ts rs s led h w sh p =
      h p ∙ ap (λ q. held_lead val q rs) (fun_ext (λ r. read_is_seen val cells W w f p r sh))
      ∙ led w sh (read_passes W w f p) ∙ sym (may-Read W w env f ts p)

  is_negation : (a : Term) (r s : List Possible) → IsMay val cells W env a r → ((p : AbsValue → Bool) → held val p s ≡ held val (λ v. p (Truth (not (truth v)))) r) → IsMay val cells W env (t.Not a) s
  unfolding IsMay
  is_negation a r s had h w sh p = h p ∙ had w sh (λ v. p (Truth (not (truth v)))) ∙ sym (may-Not W w env a p)

  is_choice : (a b d : Term) (hold fail : Edge) (ra rb rd s : List Possible) → IsMay val cells W env a ra → IsMay val cells W env b rb → IsMay val cells W env d rd
      → val hold ≡ held val (passes true) ra → val fail ≡ held val (passes false) ra
      → ((p : AbsValue → Bool) → held val p s ≡ ((held val p rb && val hold) || (held val p rd && val fail))) → IsMay val cells W env (t.If a b d) s
  unfolding IsMay
  is_choice a b d hold fail ra rb rd s ia ib id eh ef h w sh p =
      h p ∙ choose W w env a b d (val hold) (val fail) (held val p rb) (held val p rd) p (eh ∙ ia w sh (passes true)) (ef ∙ ia w sh (passes false)) (ib w sh p) (id w sh p)

  is_comparison : (a b : Term) (ra rb s : List Possible) → IsMay val cells W env a ra → IsMay val cells W env b rb → Pairs val Same ra rb s → IsMay val cells W env (t.Same a b) s
  unfolding IsMay
  is_comparison a b ra rb s ia ib h w sh p =
      h p ∙ held_same val (λ x. held val (same_passes p x) rb) (λ x. may W w env b (same_passes p x)) ra (λ x. ib w sh (same_passes p x))
      ∙ ia w sh (λ x. may W w env b (same_passes p x)) ∙ sym (may-Same W w env a b p)

  is_order : (a b : Term) (ra rb s : List Possible) → IsMay val cells W env a ra → IsMay val cells W env b rb → Pairs val Less ra rb s → IsMay val cells W env (t.Less a b) s
  unfolding IsMay
  is_order a b ra rb s ia ib h w sh p =
      h p ∙ held_same val (λ x. held val (λ y. p (Truth (int_lt (number x) (number y)))) rb) (λ x. may W w env b (λ y. p (Truth (int_lt (number x) (number y))))) ra (λ x. ib w sh (λ y. p (Truth (int_lt (number x) (number y)))))
      ∙ ia w sh (λ x. may W w env b (λ y. p (Truth (int_lt (number x) (number y))))) ∙ sym (may-Less W w env a b p)

  is_result : (op : ArithOp) (a b : Term) (ra rb s : List Possible) → IsMay val cells W env a ra → IsMay val cells W env b rb → Pairs val (Arith op) ra rb s → IsMay val cells W env (t.Arith op a b) s
  unfolding IsMay
  is_result op a b ra rb s ia ib h w sh p =
      h p ∙ held_same val (λ x. held val (λ y. p (Number (values.arith op (number x) (number y)))) rb) (λ x. may W w env b (λ y. p (Number (values.arith op (number x) (number y))))) ra (λ x. ib w sh (λ y. p (Number (values.arith op (number x) (number y)))))
      ∙ ia w sh (λ x. may W w env b (λ y. p (Number (values.arith op (number x) (number y))))) ∙ sym (may-Arith W w env op a b p)

  is_conjunction : (ts : List Term) (each other : Edge) (s : List Possible) → Tells val cells each (λ w. list_all (λ x. may W w env x (passes true)) ts) → Tells val cells other (λ w. list_any (λ x. may W w env x (passes false)) ts)
      → IsVerdict val true each other s → IsMay val cells W env (t.And ts) s
  unfolding IsMay
  is_conjunction ts each other s e f h w sh p = h p ∙ ap (λ b. either_way p true b (val other)) (e w sh) ∙ ap (either_way p true (list_all (λ x. may W w env x (passes true)) ts)) (f w sh) ∙ sym (may-And W w env ts p)

  is_disjunction : (ts : List Term) (each other : Edge) (s : List Possible) → Tells val cells each (λ w. list_all (λ x. may W w env x (passes false)) ts) → Tells val cells other (λ w. list_any (λ x. may W w env x (passes true)) ts)
      → IsVerdict val false each other s → IsMay val cells W env (t.Or ts) s
  unfolding IsMay
  is_disjunction ts each other s e f h w sh p = h p ∙ ap (λ b. either_way p false b (val other)) (e w sh) ∙ ap (either_way p false (list_all (λ x. may W w env x (passes false)) ts)) (f w sh) ∙ sym (may-Or W w env ts p)

  is_quantified : (all : Bool) (a : Term) (each other : Edge) (s : List Possible) → Tells val cells each (λ w. list_all (λ n. may W w (env ++ n ∷ []) a (passes all)) (window_nodes W)) → Tells val cells other (λ w. list_any (λ n. may W w (env ++ n ∷ []) a (passes (not all))) (window_nodes W ++ Other ∷ []))
      → IsVerdict val all each other s → IsMay val cells W env (t.Quantified all a) s
  unfolding IsMay
  is_quantified all a each other s e f h w sh p = h p ∙ ap (λ b. either_way p all b (val other)) (e w sh) ∙ ap (either_way p all (list_all (λ n. may W w (env ++ n ∷ []) a (passes all)) (window_nodes W))) (f w sh) ∙ sym (may-Quantified W w env all a p)

  pub forms_said : FormsAreSaid val cells W env
  forms_said = record {
    known = is_known;
    variable = is_variable;
    reading = is_reading;
    negation = is_negation;
    choice = is_choice;
    comparison = is_comparison;
    order = is_order;
    result = is_result;
    conjunction = is_conjunction;
    disjunction = is_disjunction;
    quantified = is_quantified;
  }
