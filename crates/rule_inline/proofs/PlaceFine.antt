-- Demands, tables of terms and writes whose terms are fine: all free variables are bound and all reads are of cells.
use Rattle.std.proofs.Common.{◌≡◌, ℕ, zero, suc, ◌+◌, ◌<◌, ◌≤◌, Bool, true, false, List, [], ◌∷◌, ◌++◌, length, map, Option, None, Some, ◌⊎◌, inl, inr, refl, sym, ap, ◌∙◌, subst, arith}
use Rattle.std.specs.Prelude.{nat_eq, option_map, option_and_then, unwrap_or, is_some, if◌then◌else◌}
use Rattle.std.specs.List.{flat_map, list_all}
use Rattle.std.specs.Option.{option_map_or}
use Rattle.std.specs.Str.{bytes_eq}
use Rattle.std.proofs.lemmas.Bool.{and_parts}
use Rattle.std.proofs.lemmas.List.{length-append}
use Rattle.term_core.specs.declared.value.Value.{Value}
use Rattle.term_core.specs.declared.value.Value.TheVariants as v
use Rattle.term_core.specs.declared.machine.CellFamily.{CellFamily}
use Rattle.term_core.specs.declared.term.Term as t
use Rattle.term_core.specs.declared.term.Term.{Term}
use Rattle.term_core.specs.Variables.{is_no_node}
use Rattle.term_core.specs.Substitution.{lifted}
use Rattle.murphi_typed.specs.Families.{Path}
use Rattle.murphi_typed.specs.Store.{same_owner, beyond}
use Rattle.rule_inline.specs.Demands.{Demand, demand, under_test, is_constant_false, one_unless, unless_left, binding, negated, path_of, body_of, truth_term}
use Rattle.rule_inline.specs.Tables.{Key, holes, Slot, Family, Leaving, Result, axes, Terms, Marks, Change, unchanged, and_then, renewed_by, variables, lifted_all, under_variable, Index, Axis, Among, Spot, marks_of, lifted_index, Entry, with_axis, with_value, entries, read_at, tested, chain_of, Shown, shown_at, read_of, only_term, Match, on_axis, on_value, matched, renewed_term, new_terms, written, Branch, writes, branch_chain, first_of_branches, chosen, kept_if_left, unless_returned, dropped, closed, axis_in, own_axis, over_nodes}
use Rattle.rule_inline.proofs.TypeLemmas.{not_some, some_one}
use Rattle.rule_inline.proofs.PlaceLemmas.{NoNodes, no_nodes_joined, holes_joined}
use Rattle.rule_inline.proofs.MarkLemmas.{mapped_some, either_some}
use Rattle.rule_inline.proofs.FineLemmas.{Fine, AllFine, fine_more, all_fine_more, all_fine_joined, fine-Known, fine-Var, fine-Not, fine-And, fine-Or, fine-If, fine-Same, lifted_fine, placed_fine, dropped_fine}

pub variables_length : (first count : ℕ) → length (variables first count) ≡ count
variables_length first zero = refl
variables_length first (suc count) = ap suc (variables_length (suc first) count)

lifted_length : (frame more : ℕ) (ts : List Term) → length (lifted_all frame more ts) ≡ length ts
lifted_length frame more [] = refl
lifted_length frame more (e ∷ ts) = ap suc (lifted_length frame more ts)

module _ (families : List CellFamily) where
  -- Demands

  abbrev pub DemandFine : ℕ → Demand → Type 0
  DemandFine n q = AllFine families (n + q.binders) q.tests × (AllFine families (n + q.binders) q.lefts × Fine families (n + q.binders) q.must)

  abbrev pub DemandsFine : ℕ → List Demand → Type 0
  DemandsFine n [] = Unit {0}
  DemandsFine n (q ∷ qs) = DemandFine n q × DemandsFine n qs

  pub demands_joined : (n : ℕ) (ps qs : List Demand) → DemandsFine n ps → DemandsFine n qs → DemandsFine n (ps ++ qs)
  demands_joined n [] qs a b = b
  demands_joined n (p ∷ ps) qs (f, a) b = (f, demands_joined n ps qs a b)

  pub demand_fine : (n : ℕ) (must : Term) → Fine families n must → DemandFine n (demand must)
  demand_fine n must f = (tt, (tt, fine_more families n (n + 0) must (omega arith) f))

  pub one_demand : (n : ℕ) (must : Term) → Fine families n must → DemandsFine n (demand must ∷ [])
  one_demand n must f = (demand_fine n must f, tt)

  pub each_demand : (n : ℕ) (es : List Term) → AllFine families n es → DemandsFine n (map demand es)
  each_demand n [] a = tt
  each_demand n (e ∷ es) (f, a) = (demand_fine n e f, each_demand n es a)

  pub under_fine : (n : ℕ) (test : Term) (qs : List Demand) → Fine families n test → DemandsFine n qs → DemandsFine n (under_test n test qs)
  under_fine n test [] f a = tt
  under_fine n test (q ∷ qs) f (one, a) = (((lifted_fine families n n q.binders test f, one.0), one.1), under_fine n test qs f a)

  each_unless : (n : ℕ) (left : Term) (qs : List Demand) → Fine families n left → DemandsFine n qs → DemandsFine n (map (one_unless n left) qs)
  each_unless n left [] f a = tt
  each_unless n left (q ∷ qs) f (one, a) = ((one.0, ((lifted_fine families n n q.binders left f, one.1.0), one.1.1)), each_unless n left qs f a)

  pub unless_fine : (n : ℕ) (left : Term) (qs : List Demand) → Fine families n left → DemandsFine n qs → DemandsFine n (unless_left n left qs)
  unless_fine n left qs f a = go (is_constant_false left)
    where
      go : (b : Bool) → DemandsFine n (if b then qs else map (one_unless n left) qs)
      go true = a
      go false = each_unless n left qs f a

  pub binding_fine : (n : ℕ) (qs : List Demand) → DemandsFine (suc n) qs → DemandsFine n (binding qs)
  binding_fine n [] a = tt
  binding_fine n (q ∷ qs) (one, a) =
      let less : suc n + q.binders ≤ n + suc q.binders = omega arith in
      ((all_fine_more families (suc n + q.binders) (n + suc q.binders) q.tests less one.0, (all_fine_more families (suc n + q.binders) (n + suc q.binders) q.lefts less one.1.0, fine_more families (suc n + q.binders) (n + suc q.binders) q.must less one.1.1)), binding_fine n qs a)

  negated_fine : (n : ℕ) (ts : List Term) → AllFine families n ts → AllFine families n (negated ts)
  negated_fine n [] a = tt
  negated_fine n (e ∷ ts) (f, a) = (fine-Not families n e f, negated_fine n ts a)

  pub body_fine : (n : ℕ) (q : Demand) → DemandFine n q → Fine families (n + q.binders) (body_of q)
  body_fine n q one =
      fine-Or families (n + q.binders) (t.Not (path_of q) ∷ q.must ∷ [])
      (fine-Not families (n + q.binders) (path_of q) (fine-And families (n + q.binders) (q.tests ++ negated q.lefts) (all_fine_joined families (n + q.binders) q.tests (negated q.lefts) one.0 (negated_fine (n + q.binders) q.lefts one.1.0))), (one.1.1, tt))

  pub truth_fine : (n : ℕ) (b : Bool) → Fine families n (truth_term b)
  truth_fine n b = fine-Known families n (v.Truth b) refl

  -- Tables

  -- no index of the family that is fixed is a node
  abbrev pub NoNodeIn : Slot → Type 0
  NoNodeIn (Family owner path key) = NoNodes key
  NoNodeIn Leaving = Unit {0}
  NoNodeIn Result = Unit {0}

  abbrev pub TermsFine : ℕ → Terms → Type 0
  TermsFine n T = (slot : Slot) → NoNodeIn slot → Fine families (n + axes slot) (T slot)

  abbrev pub ShownFine : ℕ → Shown → Type 0
  ShownFine n new = (path : Path) (key : Key) → NoNodes key → Fine families (n + holes key) (new path key)

  abbrev pub IndexFine : ℕ → Index → Type 0
  IndexFine n (Axis m e) = Fine families n e
  IndexFine n (Among ws e) = Fine families n e × (list_all is_no_node ws ≡ true)

  abbrev pub IndicesFine : ℕ → List Index → Type 0
  IndicesFine n [] = Unit {0}
  IndicesFine n (i ∷ is) = IndexFine n i × IndicesFine n is

  pub indices_joined : (n : ℕ) (is js : List Index) → IndicesFine n is → IndicesFine n js → IndicesFine n (is ++ js)
  indices_joined n [] js a b = b
  indices_joined n (i ∷ is) js (f, a) b = (f, indices_joined n is js a b)

  index_lifted : (n : ℕ) (i : Index) → IndexFine n i → IndexFine (suc n) (lifted_index n i)
  index_lifted n (Axis m e) f = fine_more families (n + 1) (suc n) (lifted n 1 e) (omega arith) (lifted_fine families n n 1 e f)
  index_lifted n (Among ws e) f = (fine_more families (n + 1) (suc n) (lifted n 1 e) (omega arith) (lifted_fine families n n 1 e f.0), f.1)

  pub indices_under : (n : ℕ) (is : List Index) → IndicesFine n is → IndicesFine (suc n) (map (lifted_index n) is)
  indices_under n [] a = tt
  indices_under n (i ∷ is) (f, a) = (index_lifted n i f, indices_under n is a)

  pub terms_under : (n : ℕ) (T : Terms) → TermsFine n T → TermsFine (suc n) (under_variable n T)
  terms_under n T fine slot none = fine_more families ((n + axes slot) + 1) (suc n + axes slot) (lifted n 1 (T slot)) (omega arith) (lifted_fine families (n + axes slot) n 1 (T slot) (fine slot none))

  pub variables_fine : (n first count : ℕ) → first + count ≤ n → AllFine families n (variables first count)
  variables_fine n first zero less = tt
  variables_fine n first (suc count) less = (fine-Var families n first (omega (arith, less)), variables_fine n (suc first) count (omega (arith, less)))

  pub lifted_all_fine : (n depth more : ℕ) (ts : List Term) → AllFine families n ts → AllFine families (n + more) (lifted_all depth more ts)
  lifted_all_fine n depth more [] a = tt
  lifted_all_fine n depth more (e ∷ ts) (f, a) = (lifted_fine families n depth more e f, lifted_all_fine n depth more ts a)

  -- Reading

  abbrev EntryFine : ℕ → Entry → Type 0
  EntryFine n e = AllFine families n e.tests × (AllFine families n e.nodes × ((length e.nodes ≡ holes e.key) × NoNodes e.key))

  abbrev EntriesFine : ℕ → List Entry → Type 0
  EntriesFine n [] = Unit {0}
  EntriesFine n (e ∷ es) = EntryFine n e × EntriesFine n es

  entries_joined : (n : ℕ) (es fs : List Entry) → EntriesFine n es → EntriesFine n fs → EntriesFine n (es ++ fs)
  entries_joined n [] fs a b = b
  entries_joined n (e ∷ es) fs (f, a) b = (f, entries_joined n es fs a b)

  entries_axis : (n : ℕ) (i : Term) (es : List Entry) → Fine families n i → EntriesFine n es → EntriesFine n (map (with_axis i) es)
  entries_axis n i [] f a = tt
  entries_axis n i (e ∷ es) f (one, a) = ((one.0, ((f, one.1.0), (ap suc one.1.1.0, one.1.1.1))), entries_axis n i es f a)

  entries_value : (n : ℕ) (i : Term) (w : Value) (es : List Entry) → Fine families n i → is_no_node w ≡ true → EntriesFine n es → EntriesFine n (map (with_value i w) es)
  entries_value n i w [] f nn a = tt
  entries_value n i w (e ∷ es) f nn (one, a) = (((fine-Same families n i (t.Known w) f (fine-Known families n w nn), one.0), (one.1.0, (one.1.1.0, (nn, one.1.1.1)))), entries_value n i w es f nn a)

  entries_values : (n : ℕ) (i : Term) (ws : List Value) (es : List Entry) → Fine families n i → list_all is_no_node ws ≡ true → EntriesFine n es → EntriesFine n (flat_map (λ w. map (with_value i w) es) ws)
  entries_values n i [] es f nn a = tt
  entries_values n i (w ∷ ws) es f nn a =
      let (one, rest) = and_parts (is_no_node w) (list_all is_no_node ws) nn in
      entries_joined n (map (with_value i w) es) (flat_map (λ w. map (with_value i w) es) ws) (entries_value n i w es f one a) (entries_values n i ws es f rest a)

  entries_fine : (n : ℕ) (is : List Index) → IndicesFine n is → EntriesFine n (entries is)
  entries_fine n [] a = ((tt, (tt, (refl, tt))), tt)
  entries_fine n (Axis m i ∷ is) (f, a) = entries_axis n i (entries is) f (entries_fine n is a)
  entries_fine n (Among ws i ∷ is) (f, a) = entries_values n i ws (entries is) f.0 f.1 (entries_fine n is a)

  module _ (n : ℕ) (T : Terms) (fine : TermsFine n T) (spot : Spot) (path : Path) (key : Key) (none : NoNodes key) where
    abbrev all_terms : Entry → List Term
    all_terms e = variables 0 n ++ (lifted_all n (holes key) e.nodes ++ variables n (holes key))

    terms_length : (e : Entry) → length e.nodes ≡ holes e.key → length (all_terms e) ≡ n + (holes e.key + holes key)
    terms_length e long =
        let a = length-append (variables 0 n) (lifted_all n (holes key) e.nodes ++ variables n (holes key)) in
        let b = length-append (lifted_all n (holes key) e.nodes) (variables n (holes key)) in
        let c = variables_length 0 n in
        let d = lifted_length n (holes key) e.nodes in
        let g = variables_length n (holes key) in
        omega (arith, a, b, c, d, g, long)

    read_fine : (e : Entry) → EntryFine n e → Fine families (n + holes key) (read_at n T spot path key e)
    read_fine e one =
        let h = holes_joined e.key key in
        let l = terms_length e one.1.1.0 in
        placed_fine families (n + holes key) (all_terms e) (T (Family spot.owner (spot.path ++ path) (e.key ++ key)))
        (all_fine_joined families (n + holes key) (variables 0 n) (lifted_all n (holes key) e.nodes ++ variables n (holes key)) (variables_fine (n + holes key) 0 n (omega arith))
        (all_fine_joined families (n + holes key) (lifted_all n (holes key) e.nodes) (variables n (holes key)) (lifted_all_fine n n (holes key) e.nodes one.1.0) (variables_fine (n + holes key) n (holes key) (omega arith))))
        (fine_more families (n + holes (e.key ++ key)) (length (all_terms e)) (T (Family spot.owner (spot.path ++ path) (e.key ++ key))) (omega (arith, h, l)) (fine (Family spot.owner (spot.path ++ path) (e.key ++ key)) (no_nodes_joined e.key key one.1.1.1 none)))

    chain_fine : (es : List Entry) → EntriesFine n es → Fine families (n + holes key) (chain_of n T spot path key es)
    chain_fine [] a = fine-Known families (n + holes key) v.Undefined refl
    chain_fine (e ∷ []) (one, a) = read_fine e one
    chain_fine (e ∷ f ∷ es) (one, a) =
        fine-If families (n + holes key) (tested n key e) (read_at n T spot path key e) (chain_of n T spot path key (f ∷ es))
        (fine-And families (n + holes key) (lifted_all n (holes key) e.tests) (lifted_all_fine n n (holes key) e.tests one.0)) (read_fine e one) (chain_fine (f ∷ es) a)

  pub shown_fine : (n : ℕ) (T : Terms) (spot : Spot) → TermsFine n T → IndicesFine n spot.at → ShownFine n (shown_at n T spot)
  shown_fine n T spot fine a path key none = chain_fine n T fine spot path key none (entries spot.at) (entries_fine n spot.at a)

  pub read_of_fine : (n : ℕ) (T : Terms) (spot : Spot) → TermsFine n T → IndicesFine n spot.at → Fine families n (read_of n T spot)
  read_of_fine n T spot fine a = fine_more families (n + 0) n (read_of n T spot) (omega arith) (shown_fine n T spot fine a [] [] tt)

  pub only_fine : (n : ℕ) (e : Term) → Fine families n e → ShownFine n (only_term n e)
  only_fine n e f path key none = lifted_fine families n n (holes key) e f

  pub known_shown : (n : ℕ) (w : Value) → is_no_node w ≡ true → (k : ℕ) → Fine families (n + k) (t.Known w)
  known_shown n w nn k = fine-Known families (n + k) w nn

  -- Changes

  -- the marks of a first write are no more than the axes
  abbrev pub FirstFits : Change → Type 0
  FirstFits change = (slot : Slot) (ms : Marks) → change.first slot ≡ Some ms → length ms ≤ axes slot

  abbrev pub ChangeFine : ℕ → Change → Type 0
  ChangeFine n change = TermsFine n change.now × FirstFits change

  pub unchanged_fine : (n : ℕ) (T : Terms) → TermsFine n T → ChangeFine n (unchanged T)
  unchanged_fine n T fine = (fine, λ slot ms e. not_some e)

  pub then_fine : (n : ℕ) (a b : Change) → ChangeFine n a → ChangeFine n b → ChangeFine n (and_then a b)
  then_fine n a b first second = (second.0, λ slot ms e. go slot ms (either_some (a.first slot) (b.first slot) ms e))
    where
      go : (slot : Slot) (ms : Marks) → (a.first slot ≡ Some ms) ⊎ (b.first slot ≡ Some ms) → length ms ≤ axes slot
      go slot ms (inl e) = first.1 slot ms e
      go slot ms (inr e) = second.1 slot ms e

  -- the marks of a place that a family lies under are no more than the axes
  matched_marks : (lift : Term → Term) (axis : ℕ) (is : List Index) (key : Key) (m : Match) → matched lift axis is key ≡ Some m → length (marks_of is) ≤ holes key
  matched_marks lift axis [] key m e = omega arith
  matched_marks lift axis (Axis mark i ∷ is) [] m e = not_some e
  matched_marks lift axis (Axis mark i ∷ is) (Some w ∷ key) m e = not_some e
  matched_marks lift axis (Axis mark i ∷ is) (None ∷ key) m e =
      let (o, was) = mapped_some (on_axis axis (lift i)) (matched lift (suc axis) is key) m e in
      let less : length (marks_of is) ≤ holes key = matched_marks lift (suc axis) is key o was in
      omega (arith, less)
  matched_marks lift axis (Among ws i ∷ is) [] m e = not_some e
  matched_marks lift axis (Among ws i ∷ is) (None ∷ key) m e = not_some e
  matched_marks lift axis (Among ws i ∷ is) (Some w ∷ key) m e =
      let (o, was) = mapped_some (on_value (lift i) w) (matched lift axis is key) m e in
      matched_marks lift axis is key o was

  -- how a family lies under a place
  abbrev MatchFine : ℕ → ℕ → List Index → Key → Match → Type 0
  MatchFine n total is key m = AllFine families (n + total) m.tests × (AllFine families (n + total) m.sames × ((m.count + holes m.rest ≡ holes key) × ((length (marks_of is) ≡ m.count) × NoNodes m.rest)))

  match_fine : (n total axis : ℕ) (is : List Index) (key : Key) (m : Match) → IndicesFine n is → NoNodes key → axis + holes key ≤ n + total → matched (lifted n total) axis is key ≡ Some m → MatchFine n total is key m
  match_fine n total axis [] key m a none less e = subst (MatchFine n total [] key) (some_one e) (tt, (tt, (omega arith, (refl, none))))
  match_fine n total axis (Axis mark i ∷ is) [] m a none less e = not_some e
  match_fine n total axis (Axis mark i ∷ is) (Some w ∷ key) m a none less e = not_some e
  match_fine n total axis (Axis mark i ∷ is) (None ∷ key) m (f, a) none less e =
      let (o, was) = mapped_some (on_axis axis (lifted n total i)) (matched (lifted n total) (suc axis) is key) m e in
      let same : on_axis axis (lifted n total i) o ≡ m = some_one (sym (ap (option_map (on_axis axis (lifted n total i))) was) ∙ e) in
      let rest = match_fine n total (suc axis) is key o a none (omega (arith, less)) was in
      let sum : o.count + holes o.rest ≡ holes key = rest.1.1.0 in
      subst (MatchFine n total (Axis mark i ∷ is) (None ∷ key)) same
      (rest.0, ((fine-Same families (n + total) (t.Var axis) (lifted n total i) (fine-Var families (n + total) axis (omega (arith, less))) (lifted_fine families n n total i f), rest.1.0), (omega (arith, sum), (ap suc rest.1.1.1.0, rest.1.1.1.1))))
  match_fine n total axis (Among ws i ∷ is) [] m a none less e = not_some e
  match_fine n total axis (Among ws i ∷ is) (None ∷ key) m a none less e = not_some e
  match_fine n total axis (Among ws i ∷ is) (Some w ∷ key) m (f, a) (nn, none) less e =
      let (o, was) = mapped_some (on_value (lifted n total i) w) (matched (lifted n total) axis is key) m e in
      let same : on_value (lifted n total i) w o ≡ m = some_one (sym (ap (option_map (on_value (lifted n total i) w)) was) ∙ e) in
      let rest = match_fine n total axis is key o a none less was in
      subst (MatchFine n total (Among ws i ∷ is) (Some w ∷ key)) same
      ((fine-Same families (n + total) (lifted n total i) (t.Known w) (lifted_fine families n n total i f.0) (fine-Known families (n + total) w nn), rest.0), rest.1)

  renewed_fine : (n : ℕ) (T : Terms) (marks : Marks) (new : Slot → Option Term) → TermsFine n T → ((slot : Slot) (e : Term) → NoNodeIn slot → new slot ≡ Some e → Fine families (n + axes slot) e) → ((slot : Slot) (e : Term) → new slot ≡ Some e → length marks ≤ axes slot) → ChangeFine n (renewed_by marks new T)
  renewed_fine n T marks new fine each most = (λ slot none. now slot none (new slot) refl, λ slot ms e. first slot ms (new slot) refl e)
    where
      now : (slot : Slot) → NoNodeIn slot → (o : Option Term) → new slot ≡ o → Fine families (n + axes slot) (unwrap_or o (T slot))
      now slot none None was = fine slot none
      now slot none (Some e) was = each slot e none was

      first : (slot : Slot) (ms : Marks) (o : Option Term) → new slot ≡ o → option_map (λ _. marks) o ≡ Some ms → length ms ≤ axes slot
      first slot ms None was e = not_some e
      first slot ms (Some x) was e = subst (λ xs. length xs ≤ axes slot) (some_one e) (most slot x was)

  pub left_fine : (n : ℕ) (T : Terms) (new : Slot → Option Term) → TermsFine n T → ((slot : Slot) (e : Term) → NoNodeIn slot → new slot ≡ Some e → Fine families (n + axes slot) e) → ChangeFine n (renewed_by [] new T)
  left_fine n T new fine each = renewed_fine n T [] new fine each (λ slot e was. omega arith)

  module _ (n : ℕ) (T : Terms) (fine : TermsFine n T) (spot : Spot) (at : IndicesFine n spot.at) (new : Shown) (shown : ShownFine n new) where
    -- what is known of a match, if there is one
    there : (owner : _) (path : Path) (key : Key) (e : Term) → new_terms n T spot new (Family owner path key) ≡ Some e → (further : Path) × ((m : Match) × ((matched (lifted n (holes key)) n spot.at key ≡ Some m) × (e ≡ renewed_term n new further (T (Family owner path key)) m)))
    there owner path key e was = go (same_owner owner spot.owner) was
      where
        keyed : (further : Path) (o : Option Match) → matched (lifted n (holes key)) n spot.at key ≡ o → option_map (renewed_term n new further (T (Family owner path key))) o ≡ Some e → (further : Path) × ((m : Match) × ((matched (lifted n (holes key)) n spot.at key ≡ Some m) × (e ≡ renewed_term n new further (T (Family owner path key)) m)))
        keyed further None is f = not_some f
        keyed further (Some m) is f = (further, (m, (is, sym (some_one f))))

        under : (o : Option Path) → option_and_then (λ further. option_map (renewed_term n new further (T (Family owner path key))) (matched (lifted n (holes key)) n spot.at key)) o ≡ Some e → (further : Path) × ((m : Match) × ((matched (lifted n (holes key)) n spot.at key ≡ Some m) × (e ≡ renewed_term n new further (T (Family owner path key)) m)))
        under None f = not_some f
        under (Some further) f = keyed further (matched (lifted n (holes key)) n spot.at key) refl f

        go : (b : Bool) → (if b then option_and_then (λ further. option_map (renewed_term n new further (T (Family owner path key))) (matched (lifted n (holes key)) n spot.at key)) (beyond bytes_eq spot.path path) else None) ≡ Some e → (further : Path) × ((m : Match) × ((matched (lifted n (holes key)) n spot.at key ≡ Some m) × (e ≡ renewed_term n new further (T (Family owner path key)) m)))
        go true f = under (beyond bytes_eq spot.path path) f
        go false f = not_some f

    term_fine : (slot : Slot) (e : Term) → NoNodeIn slot → new_terms n T spot new slot ≡ Some e → Fine families (n + axes slot) e
    term_fine (Family owner path key) e none was =
        let (further, (m, found)) = there owner path key e was in
        let (tests, (sames, (sum, (long, rest)))) = match_fine n (holes key) n spot.at key m at none (omega arith) found.0 in
        subst (Fine families (n + holes key)) (sym found.1)
        (fine-If families (n + holes key) (t.And (m.tests ++ m.sames)) (lifted n m.count (new further m.rest)) (T (Family owner path key))
        (fine-And families (n + holes key) (m.tests ++ m.sames) (all_fine_joined families (n + holes key) m.tests m.sames tests sames))
        (fine_more families ((n + holes m.rest) + m.count) (n + holes key) (lifted n m.count (new further m.rest)) (omega (arith, sum)) (lifted_fine families (n + holes m.rest) n m.count (new further m.rest) (shown further m.rest rest))) (fine (Family owner path key) none))
    term_fine Leaving e none was = not_some was
    term_fine Result e none was = not_some was

    marks_fit : (slot : Slot) (e : Term) → new_terms n T spot new slot ≡ Some e → length (marks_of spot.at) ≤ axes slot
    marks_fit (Family owner path key) e was =
        let (further, (m, found)) = there owner path key e was in
        matched_marks (lifted n (holes key)) n spot.at key m found.0
    marks_fit Leaving e was = not_some was
    marks_fit Result e was = not_some was

    pub written_fine : ChangeFine n (written n T spot new)
    written_fine = renewed_fine n T (marks_of spot.at) (new_terms n T spot new) fine term_fine marks_fit

  -- Branches

  abbrev pub BranchesFine : ℕ → List Branch → Type 0
  BranchesFine n [] = Unit {0}
  BranchesFine n (b ∷ bs) = (Fine families n b.test × ChangeFine n b.change) × BranchesFine n bs

  chain_branches : (n : ℕ) (slot : Slot) (bs : List Branch) (otherwise : Change) → NoNodeIn slot → BranchesFine n bs → ChangeFine n otherwise → Fine families (n + axes slot) (branch_chain n slot bs otherwise)
  chain_branches n slot [] otherwise none a last = last.0 slot none
  chain_branches n slot (b ∷ bs) otherwise none (one, a) last =
      fine-If families (n + axes slot) (lifted n (axes slot) b.test) (b.change.now slot) (branch_chain n slot bs otherwise) (lifted_fine families n n (axes slot) b.test one.0) (one.1.0 slot none) (chain_branches n slot bs otherwise none a last)

  first_branches : (n : ℕ) (slot : Slot) (bs : List Branch) (otherwise : Change) (ms : Marks) → BranchesFine n bs → ChangeFine n otherwise → first_of_branches slot bs otherwise ≡ Some ms → length ms ≤ axes slot
  first_branches n slot [] otherwise ms a last e = last.1 slot ms e
  first_branches n slot (b ∷ bs) otherwise ms (one, a) last e = go (either_some (b.change.first slot) (first_of_branches slot bs otherwise) ms e) (λ f. first_branches n slot bs otherwise ms a last f)
    where
      go : (b.change.first slot ≡ Some ms) ⊎ (first_of_branches slot bs otherwise ≡ Some ms) → (first_of_branches slot bs otherwise ≡ Some ms → length ms ≤ axes slot) → length ms ≤ axes slot
      go (inl f) again = one.1.1 slot ms f
      go (inr f) again = again f

  pub chosen_fine : (n : ℕ) (T : Terms) (bs : List Branch) (otherwise : Change) → TermsFine n T → BranchesFine n bs → ChangeFine n otherwise → ChangeFine n (chosen n T bs otherwise)
  chosen_fine n T bs otherwise fine a last = (λ slot none. go slot none (is_some (first_of_branches slot bs otherwise)), λ slot ms e. first_branches n slot bs otherwise ms a last e)
    where
      go : (slot : Slot) → NoNodeIn slot → (b : Bool) → Fine families (n + axes slot) (if b then branch_chain n slot bs otherwise else T slot)
      go slot none true = chain_branches n slot bs otherwise none a last
      go slot none false = fine slot none

  pub returned_fine : (n : ℕ) (T : Terms) (change : Change) → TermsFine n T → ChangeFine n change → ChangeFine n (unless_returned n T change)
  returned_fine n T change fine c = go (is_constant_false (T Leaving))
    where
      kept : (slot : Slot) → NoNodeIn slot → (b : Bool) → Fine families (n + axes slot) (if b then t.If (lifted n (axes slot) (T Leaving)) (T slot) (change.now slot) else change.now slot)
      kept slot none true = fine-If families (n + axes slot) (lifted n (axes slot) (T Leaving)) (T slot) (change.now slot) (lifted_fine families n n (axes slot) (T Leaving) (fine_more families (n + 0) n (T Leaving) (omega arith) (fine Leaving tt))) (fine slot none) (c.0 slot none)
      kept slot none false = c.0 slot none

      go : (b : Bool) → ChangeFine n (if b then change else record change { now = kept_if_left n T change })
      go true = c
      go false = (λ slot none. kept slot none (writes slot change), c.1)

  -- Loops

  axis_below : (variable : ℕ) (ms : Marks) (k : ℕ) → axis_in variable ms ≡ Some k → k < length ms
  axis_below variable [] k e = not_some e
  axis_below variable (None ∷ ms) k e =
      let (j, was) = mapped_some suc (axis_in variable ms) k e in
      let same : suc j ≡ k = some_one (sym (ap (option_map suc) was) ∙ e) in
      let less : j < length ms = axis_below variable ms j was in
      omega (arith, same, less)
  axis_below variable (Some m ∷ ms) k e = go (nat_eq m variable) e (λ j was. axis_below variable ms j was)
    where
      go : (b : Bool) → (if b then Some 0 else option_map suc (axis_in variable ms)) ≡ Some k → ((j : ℕ) → axis_in variable ms ≡ Some j → j < length ms) → k < suc (length ms)
      go true e again = let same : 0 ≡ k = some_one e in omega (arith, same)
      go false e again =
          let (j, was) = mapped_some suc (axis_in variable ms) k e in
          let same : suc j ≡ k = some_one (sym (ap (option_map suc) was) ∙ e) in
          let less : j < length ms = again j was in
          omega (arith, same, less)

  closed_fine : (n count k : ℕ) (e : Term) → k < count → Fine families (suc n + count) e → Fine families (n + count) (closed n count k e)
  closed_fine n count k e less f =
      let a = length-append (variables 0 n) (t.Var (n + k) ∷ variables n count) in
      let b = variables_length 0 n in
      let c = variables_length n count in
      placed_fine families (n + count) (variables 0 n ++ (t.Var (n + k) ∷ variables n count)) (dropped (suc (n + k)) n e)
      (all_fine_joined families (n + count) (variables 0 n) (t.Var (n + k) ∷ variables n count) (variables_fine (n + count) 0 n (omega arith)) (fine-Var families (n + count) (n + k) (omega (arith, less)), variables_fine (n + count) n count (omega arith)))
      (fine_more families (suc n + count) (length (variables 0 n ++ (t.Var (n + k) ∷ variables n count))) (dropped (suc (n + k)) n e) (omega (arith, a, b, c)) (dropped_fine families (suc (n + k)) n (suc n + count) e f))

  pub loop_fine : (n : ℕ) (T : Terms) (body : Change) → TermsFine n T → ChangeFine (suc n) body → ChangeFine n (over_nodes n T body)
  loop_fine n T body fine c = (λ slot none. now slot none (body.first slot) refl, λ slot ms e. first slot ms (own_axis n body slot) e)
    where
      axis : (slot : Slot) → NoNodeIn slot → (o : Option ℕ) → ((k : ℕ) → o ≡ Some k → k < axes slot) → Fine families (n + axes slot) (option_map_or (λ k. closed n (axes slot) k (body.now slot)) o (T slot))
      axis slot none None each = fine slot none
      axis slot none (Some k) each = closed_fine n (axes slot) k (body.now slot) (each k refl) (c.0 slot none)

      now : (slot : Slot) → NoNodeIn slot → (o : Option Marks) → body.first slot ≡ o → Fine families (n + axes slot) (option_map_or (λ k. closed n (axes slot) k (body.now slot)) (option_and_then (axis_in n) o) (T slot))
      now slot none None was = fine slot none
      now slot none (Some ms) was = axis slot none (axis_in n ms) (λ k e. (let less : k < length ms = axis_below n ms k e in let most : length ms ≤ axes slot = c.1 slot ms was in omega (arith, less, most)))

      first : (slot : Slot) (ms : Marks) (o : Option ℕ) → option_and_then (λ k. body.first slot) o ≡ Some ms → length ms ≤ axes slot
      first slot ms None e = not_some e
      first slot ms (Some k) e = c.1 slot ms e
