-- The machine of a well-typed protocol that keeps the symmetry rules presents it.
use Rattle.std.proofs.Common.{◌≡◌, ℕ, zero, suc, ◌+◌, Bool, true, false, ◌&&◌, List, [], ◌∷◌, ◌++◌, length, map, reverse, None, Some, ◌⊎◌, inl, inr, refl, sym, ap, ◌∙◌, subst, arith}
use Rattle.std.specs.Prelude.{slice_get, count_by, cond, IsTrue}
use Rattle.std.specs.List.{flat_map, list_all}
use Rattle.std.proofs.lemmas.Bool.{and_parts}
use Rattle.std.proofs.lemmas.List.Sums.{sum_by-cons}
use Rattle.term_core.specs.declared.value.Value.{Value}
use Rattle.term_core.specs.declared.value.Value.TheVariants as v
use Rattle.term_core.specs.declared.machine.TermRule.{TermRule}
use Rattle.term_core.specs.Nodes.{is_node}
use Rattle.term_core.specs.Meaning.{Cells}
use Rattle.term_core.specs.Variables.{is_no_node}
use Rattle.term_core.specs.Cells.{cell_value, blank_state}
use Rattle.term_core.specs.Firing.{is_node_value}
use Rattle.term_core.specs.Laws.{PlacingBinds}
use Rattle.murphi_typed.specs.declared.protocol.Parameter.{Parameter}
use Rattle.murphi_typed.specs.declared.protocol.Routine.{Routine}
use Rattle.murphi_typed.specs.declared.protocol.Rule.{Rule}
use Rattle.murphi_typed.specs.declared.protocol.Start.{Start}
use Rattle.murphi_typed.specs.declared.protocol.Typed.{Typed}
use Rattle.murphi_typed.specs.declared.stmt.Stmt.{Stmt}
use Rattle.murphi_typed.specs.Steps.{State, are_parameters, fired, started}
use Rattle.murphi_typed.specs.WellTyped.{is_well_typed, are_variables, rule_fits, routines_fit, start_fits, formula_fits}
use Rattle.murphi_typed.specs.Keeping.{Declared, IsState, LatestFit}
use Rattle.murphi_typed.specs.Laws.{ValuesFitInBodies, BodiesKeepTypes, FunctionsGiveResults, CalledBodiesAreTyped, TopBodiesAreTyped, BlankBodiesAreTyped, StartsLeaveStates, StepsLeadToStates, StatesHaveValues}
use Rattle.scalarset_rules.specs.Turns.{LoopFaults, LoopEnds, TurnsGoOn, WritesHaveOnePlace}
use Rattle.scalarset_rules.specs.Apart.{FunctionsHaveNoLoops, UnbrokenTextsKeepApart}
use Rattle.rule_inline.specs.Tables.{Key, holes}
use Rattle.rule_inline.specs.Bodies.{calls_in}
use Rattle.rule_inline.specs.Loops.{is_loopless, KeepsRules}
use Rattle.rule_inline.specs.Laws.{TranslationPresents}
use Rattle.rule_inline.specs.Presents.{at_nodes, nodes_in, state_over, FiresAs, StartsAs, IsInstance, HasRule, HasStart, Presents}
use Rattle.rule_inline.specs.Machine.{fixed, instances, marked_values, rule_at, start_at, rules_of, starts_of, top_site, trans}
use Rattle.rule_inline.proofs.ValueLemmas.{absurd_false}
use Rattle.rule_inline.proofs.PlaceLemmas.{NoNodes}
use Rattle.rule_inline.proofs.TypeLemmas.{not_some, some_one}
use Rattle.rule_inline.proofs.StatementLemmas.{stmt_loops}
use Rattle.rule_inline.proofs.StatementLaw.{LoopsTell}
use Rattle.rule_inline.proofs.CallLaw.{fine_in, FunctionsFine}
use Rattle.rule_inline.proofs.FirstTerms.{FilledValues, Each, each_of, each_map, get_map}
use Rattle.rule_inline.proofs.ParameterLemmas.{at_instance, Fits, instances_fit, choice_is}
use Rattle.rule_inline.proofs.StepLemmas.{fixed_no, each_at}
use Rattle.rule_inline.proofs.StepLaw.{StatesAreOne}
use Rattle.rule_inline.proofs.FiringLaw.{rule_fires}
use Rattle.rule_inline.proofs.StartLaw.{BlankValues, start_begins}
use Rattle.rule_inline.proofs.LooplessLaw.{reverse_loopless, every_fine, stmt_fine}
use Rattle.rule_inline.proofs.FunctionLoops.{kept_functions}
use Rattle.rule_inline.proofs.LoopLaw.{Apart, loops_tell}
use Rattle.rule_inline.proofs.ApartLaw.{top_keeps}

-- Lists

past_front : {A : Type 0} (xs ys : List A) (k : ℕ) (y : A) → slice_get ys k ≡ Some y → (j : ℕ) × (slice_get (xs ++ ys) j ≡ Some y)
past_front [] ys k y e = (k, e)
past_front (x ∷ xs) ys k y e = let (j, found) = past_front xs ys k y e in (suc j, found)

in_front : {A : Type 0} (xs ys : List A) (k : ℕ) (x : A) → slice_get xs k ≡ Some x → slice_get (xs ++ ys) k ≡ Some x
in_front [] ys k x e = not_some e
in_front (y ∷ xs) ys zero x e = e
in_front (y ∷ xs) ys (suc k) x e = in_front xs ys k x e

in_flat : {A B : Type 0} (f : A → List B) (xs : List A) (k i : ℕ) (x : A) (y : B) → slice_get xs k ≡ Some x → slice_get (f x) i ≡ Some y → (j : ℕ) × (slice_get (flat_map f xs) j ≡ Some y)
in_flat f [] k i x y e there = not_some e
in_flat f (z ∷ xs) zero i x y e there = (i, in_front (f z) (flat_map f xs) i y (ap (λ w. slice_get (f w) i) (some_one e) ∙ there))
in_flat f (z ∷ xs) (suc k) i x y e there =
    let (j, found) = in_flat f xs k i x y e there in
    past_front (f z) (flat_map f xs) j y found

abbrev pub InPart : {A B : Type 0} → (A → List B) → List A → B → Type 0
InPart {A} {B} f xs y = (k : ℕ) × ((x : A) × ((slice_get xs k ≡ Some x) × ((i : ℕ) × (slice_get (f x) i ≡ Some y))))

part_more : {A B : Type 0} (f : A → List B) (z : A) (xs : List A) (y : B) → InPart f xs y → InPart f (z ∷ xs) y
part_more f z xs y (k, (x, rest)) = (suc k, (x, rest))

abbrev pub InEither : {A : Type 0} → List A → List A → A → Type 0
InEither xs ys y = ((i : ℕ) × (slice_get xs i ≡ Some y)) ⊎ ((i : ℕ) × (slice_get ys i ≡ Some y))

of_joined : {A : Type 0} (xs ys : List A) (j : ℕ) (y : A) → slice_get (xs ++ ys) j ≡ Some y → InEither xs ys y
of_joined [] ys j y e = inr (j, e)
of_joined (x ∷ xs) ys zero y e = inl (0, e)
of_joined (x ∷ xs) ys (suc j) y e = more (of_joined xs ys j y e)
  where
    more : InEither xs ys y → InEither (x ∷ xs) ys y
    more (inl (i, f)) = inl (suc i, f)
    more (inr (i, f)) = inr (i, f)

of_flat : {A B : Type 0} (f : A → List B) (xs : List A) (j : ℕ) (y : B) → slice_get (flat_map f xs) j ≡ Some y → InPart f xs y
of_flat f [] j y e = not_some e
of_flat {A} {B} f (z ∷ xs) j y e = go (of_joined (f z) (flat_map f xs) j y e) (λ i there. of_flat f xs i y there)
  where
    go : InEither (f z) (flat_map f xs) y → ((i : ℕ) → slice_get (flat_map f xs) i ≡ Some y → InPart f xs y) → InPart f (z ∷ xs) y
    go (inl (i, there)) again = (0, (z, (refl, (i, there))))
    go (inr (i, there)) again = part_more f z xs y (again i there)

of_map : {A B : Type 0} (f : A → B) (xs : List A) (i : ℕ) (y : B) → slice_get (map f xs) i ≡ Some y → (x : A) × ((slice_get xs i ≡ Some x) × (f x ≡ y))
of_map f [] i y e = not_some e
of_map f (x ∷ xs) zero y e = (x, (refl, some_one e))
of_map f (x ∷ xs) (suc i) y e = of_map f xs i y e

there_all : {A : Type 0} (whole xs : List A) (before : ℕ) → ((i : ℕ) (x : A) → slice_get xs i ≡ Some x → (j : ℕ) × (slice_get whole j ≡ Some x)) → Each (λ x. (j : ℕ) × (slice_get whole j ≡ Some x)) xs
there_all whole [] before in_whole = tt
there_all whole (x ∷ xs) before in_whole = (in_whole 0 x refl, there_all whole xs before (λ i y e. in_whole (suc i) y e))

pub all_fit : {A : Type 0} (test : A → Bool) (xs : List A) (k : ℕ) (x : A) → list_all test xs ≡ true → slice_get xs k ≡ Some x → test x ≡ true
all_fit test [] k x e there = not_some there
all_fit test (y ∷ xs) zero x e there = ap test (sym (some_one there)) ∙ (and_parts (test y) (list_all test xs) e).0
all_fit test (y ∷ xs) (suc k) x e there = all_fit test xs k x (and_parts (test y) (list_all test xs) e).1 there

-- Choices

instance_there : (N : ℕ) (params : List Parameter) (p : List Value) → are_parameters N params p ≡ true → (i : ℕ) × (slice_get (instances params) i ≡ Some (map fixed p))
instance_there N params p are = at_instance N params p are (λ key. (i : ℕ) × (slice_get (instances params) i ≡ Some key)) (there_all (instances params) (instances params) 0 (λ i key e. (i, e)))

counted_first : (w : Value) (ws : List Value) → count_by is_node_value (w ∷ ws) ≡ cond (is_node_value w) 1 0 + count_by is_node_value ws
counted_first w ws = sum_by-cons (λ x. cond (is_node_value x) 1 0) w ws

fixed_uncounted : (w : Value) → is_no_node w ≡ true → is_node_value w ≡ false
fixed_uncounted v.Undefined nn = refl
fixed_uncounted (v.Truth b) nn = refl
fixed_uncounted (v.Number z) nn = refl
fixed_uncounted (v.Member k i) nn = refl
fixed_uncounted (v.Node n) nn = absurd_false nn

pub marked_count : (next : ℕ) (key : Key) → NoNodes key → count_by is_node_value (marked_values next key) ≡ holes key
marked_count next [] none = refl
marked_count next (None ∷ key) none =
    let rest : count_by is_node_value (marked_values (suc next) key) ≡ holes key = marked_count (suc next) key none in
    counted_first (v.Node next) (marked_values (suc next) key) ∙ (let sum : 1 + count_by is_node_value (marked_values (suc next) key) ≡ suc (holes key) = omega (arith, rest) in sum)
marked_count next (Some w ∷ key) (nn, none) =
    let rest : count_by is_node_value (marked_values next key) ≡ holes key = marked_count next key none in
    counted_first w (marked_values next key) ∙ ap (λ b. cond b 1 0 + count_by is_node_value (marked_values next key)) (fixed_uncounted w nn)
    ∙ (let sum : 0 + count_by is_node_value (marked_values next key) ≡ holes key = omega (arith, rest) in sum)

nodes_back : (key : Key) (ns : List ℕ) → NoNodes key → length ns ≡ holes key → nodes_in (at_nodes key ns) ≡ ns
nodes_back [] [] none long = refl
nodes_back [] (n ∷ ns) none long = absurd (omega (arith, long))
nodes_back (None ∷ key) [] none long = absurd (omega (arith, long))
nodes_back (None ∷ key) (n ∷ ns) none long = ap (λ ms. n ∷ ms) (nodes_back key ns none (omega (arith, long)))
nodes_back (Some w ∷ key) ns (nn, none) long = go w nn (nodes_back key ns none long)
  where
    go : (w : Value) → is_no_node w ≡ true → nodes_in (at_nodes key ns) ≡ ns → nodes_in (w ∷ at_nodes key ns) ≡ ns
    go v.Undefined nn rest = rest
    go (v.Truth b) nn rest = rest
    go (v.Number z) nn rest = rest
    go (v.Member k i) nn rest = rest
    go (v.Node n) nn rest = absurd_false nn

pub instance_none : (params : List Parameter) (i : ℕ) (key : Key) → slice_get (instances params) i ≡ Some key → NoNodes key
instance_none params i key e = each_at NoNodes (instances params) (each_map NoNodes (map fixed) _ (each_of (λ at. NoNodes (map fixed at)) fixed_no _)) i key e

instance_fits : (N : ℕ) (params : List Parameter) (i : ℕ) (key : Key) → slice_get (instances params) i ≡ Some key → Fits N params key
instance_fits N params i key e = each_at (Fits N params) (instances params) (instances_fit N params) i key e

-- an instance with nodes for its node parameters
instance_is : (N : ℕ) (rules : List TermRule) (title : List ℕ) (key : Key) (ns : List ℕ) (p : List Value) (r : TermRule) (number : ℕ) → NoNodes key → length ns ≡ holes key → list_all (is_node N) ns ≡ true → nodes_in p ≡ ns → r.values ≡ marked_values 1 key → r.title ≡ title → slice_get rules number ≡ Some r → IsInstance N rules title p r ns
instance_is N rules title key ns p r number none long nodes back values named found = record {
  number = number;
  found = found;
  title_is = named;
  choice = record { count = long ∙ sym (ap (count_by is_node_value) values ∙ marked_count 1 key none); nodes = nodes };
  nodes_are = back;
}

module _ (binds : PlacingBinds) (fit : ValuesFitInBodies) (keep : BodiesKeepTypes) (results : FunctionsGiveResults) (enter : CalledBodiesAreTyped) (top : TopBodiesAreTyped) (blanks : BlankBodiesAreTyped) (fill : FilledValues) (blank_is : BlankValues) (one : StatesAreOne) (have : StatesHaveValues) (steps : StepsLeadToStates) (begin : StartsLeaveStates)
    (faults : LoopFaults) (ends : LoopEnds) (on : TurnsGoOn) (places : WritesHaveOnePlace) (apart : UnbrokenTextsKeepApart) (functions : FunctionsHaveNoLoops)
    (T : Typed) (well : is_well_typed T ≡ true) (rules : KeepsRules T) where
  abbrev latest : List Routine
  latest = reverse T.routines

  loop_tells : (c : Cells) (latest : List Routine) (types : Declared) → LoopsTell binds fit keep results c T latest types (calls_in latest) (fine_in Apart latest) (Apart latest)
  loop_tells c latest types = loops_tell faults ends on places binds fit keep results c T latest types (fine_in Apart latest)

  known : (N : ℕ) → LatestFit T latest
  known N = (blanks N T [] [] [] well refl refl refl).known

  fine : FunctionsFine Apart latest
  fine = kept_functions functions T T (known 1) rules Apart

  abbrev LoopsAre : Key → Stmt → Type 0
  LoopsAre key body = stmt_loops (calls_in latest) (fine_in Apart latest) (Apart latest) (top_site key) body

  rule_loops : (N k : ℕ) (r : Rule) (key : Key) (ns : List ℕ) → slice_get T.rules k ≡ Some r → length ns ≡ holes key → are_parameters N r.params (at_nodes key ns) ≡ true → LoopsAre key r.body
  rule_loops N k r key ns there long are = go rules
    where
      go : KeepsRules T → LoopsAre key r.body
      go (inl (node, (is_node, unbroken))) = top_keeps T N r.params key ns r.body long are ((apart T node well is_node unbroken).1 k r there)
      go (inr free) = stmt_fine (Apart latest) (calls_in latest) (fine_in Apart latest) (every_fine Apart latest (reverse_loopless T.routines free.routines)) (top_site key) r.body (all_fit (λ (q : Rule). is_loopless q.body) T.rules k r free.rules there)

  start_loops : (N k : ℕ) (a : Start) (key : Key) (ns : List ℕ) → slice_get T.starts k ≡ Some a → length ns ≡ holes key → are_parameters N a.params (at_nodes key ns) ≡ true → LoopsAre key a.body
  start_loops N k a key ns there long are = go rules
    where
      go : KeepsRules T → LoopsAre key a.body
      go (inl (node, (is_node, unbroken))) = top_keeps T N a.params key ns a.body long are ((apart T node well is_node unbroken).0 k a there)
      go (inr free) = stmt_fine (Apart latest) (calls_in latest) (fine_in Apart latest) (every_fine Apart latest (reverse_loopless T.routines free.routines)) (top_site key) a.body (all_fit (λ (q : Start). is_loopless q.body) T.starts k a free.starts there)

  abbrev Tests : Type 0
  Tests = (list_all (start_fits T) T.starts ≡ true) × (list_all (rule_fits T) T.rules ≡ true)

  tests : Tests
  tests =
      let (globals, rest) = and_parts (are_variables T.kinds T.globals) (routines_fit T [] T.routines && (list_all (start_fits T) T.starts && (list_all (rule_fits T) T.rules && list_all (formula_fits T) T.invariants))) well in
      let (routines, more) = and_parts (routines_fit T [] T.routines) (list_all (start_fits T) T.starts && (list_all (rule_fits T) T.rules && list_all (formula_fits T) T.invariants)) rest in
      let (starts, last) = and_parts (list_all (start_fits T) T.starts) (list_all (rule_fits T) T.rules && list_all (formula_fits T) T.invariants) more in
      (starts, (and_parts (list_all (rule_fits T) T.rules) (list_all (formula_fits T) T.invariants) last).0)

  fires : (N k : ℕ) (r : Rule) (key : Key) (ns : List ℕ) → slice_get T.rules k ≡ Some r → length ns ≡ holes key → are_parameters N r.params (at_nodes key ns) ≡ true → (s : State) → IsState N T s → FiresAs N T (trans T) s (rule_at T r key) ns (fired N T r (at_nodes key ns) s)
  fires N k r key ns there long are s state =
      rule_fires binds fit keep results enter top fill one have steps N T s well state Apart (loop_tells (cell_value N (trans T).families (state_over N T (trans T).families s))) fine
      k r there (all_fit (rule_fits T) T.rules k r tests.1 there) key ns long are (rule_loops N k r key ns there long are)

  begins : (N k : ℕ) (a : Start) (key : Key) (ns : List ℕ) → slice_get T.starts k ≡ Some a → length ns ≡ holes key → are_parameters N a.params (at_nodes key ns) ≡ true → StartsAs N T (trans T) (start_at T a key) ns (started N T a (at_nodes key ns))
  begins N k a key ns there long are =
      start_begins binds fit keep results enter blanks fill blank_is one have begin N T well Apart (loop_tells (cell_value N (trans T).families (blank_state N (trans T).families))) fine
      k a there (all_fit (start_fits T) T.starts k a tests.0 there) key ns long are (start_loops N k a key ns there long are)

  has_rule : (N k i : ℕ) (r : Rule) (key : Key) (ns : List ℕ) (p : List Value) (number : ℕ) → slice_get T.rules k ≡ Some r → slice_get (instances r.params) i ≡ Some key → length ns ≡ holes key → list_all (is_node N) ns ≡ true → at_nodes key ns ≡ p → slice_get (trans T).rules number ≡ Some (rule_at T r key) → HasRule N T (trans T) k p (rule_at T r key) ns
  has_rule N k i r key ns p number there at long nodes same found =
      let none : NoNodes key = instance_none r.params i key at in
      let are : are_parameters N r.params (at_nodes key ns) ≡ true = instance_fits N r.params i key at ns long nodes in
      record {
        rule = r;
        found = there;
        parameters = subst (λ q. IsTrue (are_parameters N r.params q)) same are;
        is_instance = instance_is N (trans T).rules r.title key ns p (rule_at T r key) number none long nodes (ap nodes_in (sym same) ∙ nodes_back key ns none long) refl refl found;
        fires = λ s state. subst (λ q. FiresAs N T (trans T) s (rule_at T r key) ns (fired N T r q s)) same (fires N k r key ns there long are s state);
      }

  has_start : (N k i : ℕ) (a : Start) (key : Key) (ns : List ℕ) (p : List Value) (number : ℕ) → slice_get T.starts k ≡ Some a → slice_get (instances a.params) i ≡ Some key → length ns ≡ holes key → list_all (is_node N) ns ≡ true → at_nodes key ns ≡ p → slice_get (trans T).starts number ≡ Some (start_at T a key) → HasStart N T (trans T) k p (start_at T a key) ns
  has_start N k i a key ns p number there at long nodes same found =
      let none : NoNodes key = instance_none a.params i key at in
      let are : are_parameters N a.params (at_nodes key ns) ≡ true = instance_fits N a.params i key at ns long nodes in
      record {
        start = a;
        found = there;
        parameters = subst (λ q. IsTrue (are_parameters N a.params q)) same are;
        is_instance = instance_is N (trans T).starts a.title key ns p (start_at T a key) number none long nodes (ap nodes_in (sym same) ∙ nodes_back key ns none long) refl refl found;
        starts = subst (λ q. StartsAs N T (trans T) (start_at T a key) ns (started N T a q)) same (begins N k a key ns there long are);
      }

  pub presents : Presents T (trans T)
  presents = record {
    rules = λ N k r p least there are. (
        let (same, long, nodes) = choice_is N r.params p are in
        let (i, at) = instance_there N r.params p are in
        let (number, found) = in_flat (rules_of T) T.rules k i r (rule_at T r (map fixed p)) there (get_map (rule_at T r) (instances r.params) i (map fixed p) at) in
        (rule_at T r (map fixed p), nodes_in p, has_rule N k i r (map fixed p) (nodes_in p) p number there at long nodes same found));
    starts = λ N k a p least there are. (
        let (same, long, nodes) = choice_is N a.params p are in
        let (i, at) = instance_there N a.params p are in
        let (number, found) = in_flat (starts_of T) T.starts k i a (start_at T a (map fixed p)) there (get_map (start_at T a) (instances a.params) i (map fixed p) at) in
        (start_at T a (map fixed p), nodes_in p, has_start N k i a (map fixed p) (nodes_in p) p number there at long nodes same found));
    other_rules = λ N number r ns least there choice. (
        let (k, part) = of_flat (rules_of T) T.rules number r there in
        let (rule, facts) = part in
        let (i, at) = facts.1 in
        let (key, made) = of_map (rule_at T rule) (instances rule.params) i r at in
        let long : length ns ≡ holes key = choice.count ∙ sym (ap (λ (q : TermRule). count_by is_node_value q.values) made.1) ∙ marked_count 1 key (instance_none rule.params i key made.0) in (
          k,
          at_nodes key ns,
          subst (λ q. HasRule N T (trans T) k (at_nodes key ns) q ns) made.1
              (has_rule N k i rule key ns (at_nodes key ns) number facts.0 made.0 long choice.nodes refl (there ∙ ap Some (sym made.1))),
        ));
    other_starts = λ N number r ns least there choice. (
        let (k, part) = of_flat (starts_of T) T.starts number r there in
        let (start, facts) = part in
        let (i, at) = facts.1 in
        let (key, made) = of_map (start_at T start) (instances start.params) i r at in
        let long : length ns ≡ holes key = choice.count ∙ sym (ap (λ (q : TermRule). count_by is_node_value q.values) made.1) ∙ marked_count 1 key (instance_none start.params i key made.0) in (
          k,
          at_nodes key ns,
          subst (λ q. HasStart N T (trans T) k (at_nodes key ns) q ns) made.1
              (has_start N k i start key ns (at_nodes key ns) number facts.0 made.0 long choice.nodes refl (there ∙ ap Some (sym made.1))),
        ));
  }

pub translation_presents : PlacingBinds → ValuesFitInBodies → BodiesKeepTypes → FunctionsGiveResults → CalledBodiesAreTyped → TopBodiesAreTyped → BlankBodiesAreTyped → FilledValues → BlankValues → StatesAreOne → StatesHaveValues → StepsLeadToStates → StartsLeaveStates
    → LoopFaults → LoopEnds → TurnsGoOn → WritesHaveOnePlace → UnbrokenTextsKeepApart → FunctionsHaveNoLoops → TranslationPresents KeepsRules
translation_presents binds fit keep results enter top blanks fill blank_is one have steps begin faults ends on places apart functions T well rules =
    presents binds fit keep results enter top blanks fill blank_is one have steps begin faults ends on places apart functions T well rules
