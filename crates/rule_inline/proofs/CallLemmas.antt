-- Calls: the entry of a routine, and what it leaves.
use Rattle.std.proofs.Common.{arith, ◌≡◌, ℕ, zero, suc, Bool, true, false, ◌&&◌, List, [], ◌∷◌, ◌++◌, length, reverse, Option, None, Some, refl, sym, ap, ◌∙◌, subst}
use Rattle.std.specs.Prelude.{slice_get, if◌then◌else◌}
use Rattle.std.specs.Option.{option_map_or}
use Rattle.term_core.specs.declared.value.Value.{Value}
use Rattle.term_core.specs.declared.value.Value.TheVariants as v
use Rattle.term_core.specs.declared.term.Term.{Term}
use Rattle.term_core.specs.Nodes.{nodes}
use Rattle.term_core.specs.Meaning.{Cells, value_of}
use Rattle.murphi_ast.specs.declared.token.Span.{Span}
use Rattle.murphi_typed.specs.declared.types.Simple.{Simple}
use Rattle.murphi_typed.specs.declared.protocol.Routine.{Routine}
use Rattle.murphi_typed.specs.declared.protocol.Formal.{Formal as DeclaredFormal}
use Rattle.murphi_typed.specs.Values.{is_value, may_hold}
use Rattle.murphi_typed.specs.Store.{Global, Local, Formal, Cells as Store, only}
use Rattle.murphi_typed.specs.Outcome.{Outcome, Got, Fault, given}
use Rattle.murphi_typed.specs.Expressions.{Given, Filled, Standing, Scene, Left, fitting}
use Rattle.murphi_typed.specs.WellTyped.{exit_of}
use Rattle.rule_inline.specs.Demands.{Demand, demand}
use Rattle.rule_inline.specs.Tables.{Family, Leaving, Result, Terms, Change}
use Rattle.rule_inline.specs.Bodies.{given_terms, entered, formal_fits, formals_fit}
use Rattle.rule_inline.specs.Parts.{Given as Gift, Filled as Filling, Standing as Placing, undefined, stored_fits}
use Rattle.rule_inline.proofs.ValueLemmas.{absurd_false}
use Rattle.rule_inline.proofs.TermLemmas.{value-Known, append_nothing}
use Rattle.rule_inline.proofs.Outcome.{AllHold, SomeFails, Tells, all_joined, fails_first, fails_second, one_holds, one_fails}
use Rattle.rule_inline.proofs.PlaceLemmas.{Rep}
use Rattle.rule_inline.proofs.WriteLemmas.{Shows}
use Rattle.rule_inline.proofs.TypeLemmas.{not_some, some_one}
use Rattle.rule_inline.proofs.ArithLemmas.{Storable, tells_stored}
use Rattle.rule_inline.proofs.SceneLemmas.{GiftsAre}
use Rattle.rule_inline.proofs.PartLemmas.{ArgIs, ArgsAre}
use Rattle.murphi_typed.specs.Execution.{simple_type, Ending, Next, Returned, ended, filled, entered as store_entered, formal_fits as store_formal_fits, formals_fit as store_formals_fit}
use Rattle.rule_inline.proofs.ChangeLemmas.{reaches_deeper}
use Rattle.rule_inline.proofs.EndLemmas.{result_of, EndsWith, checked}
use Rattle.std.proofs.lemmas.Bool.{eqb-true, eqb-false}
use Rattle.std.proofs.lemmas.List.{reverse-append, length-reverse}
use Rattle.std.specs.Prelude.{nat_eq, nat_le}
use Rattle.rule_inline.specs.Presents.{at_nodes}

-- Lists of routines

last_of : {A : Type 0} (xs : List A) (x r : A) (k : ℕ) → slice_get (xs ++ x ∷ []) k ≡ Some r → k ≡ length xs → x ≡ r
last_of [] x r zero e same = some_one e
last_of [] x r (suc k) e same = absurd (omega (arith, same))
last_of (y ∷ xs) x r zero e same = absurd (omega (arith, same))
last_of (y ∷ xs) x r (suc k) e same = last_of xs x r k e (omega (arith, same))

before_last : {A : Type 0} (xs : List A) (x r : A) (k : ℕ) → slice_get (xs ++ x ∷ []) k ≡ Some r → (k ≡ length xs → ⊥) → slice_get xs k ≡ Some r
before_last [] x r zero e other = absurd (other refl)
before_last [] x r (suc k) e other = not_some e
before_last (y ∷ xs) x r zero e other = e
before_last (y ∷ xs) x r (suc k) e other = before_last xs x r k e (λ same. other (ap suc same))

reversed : {A : Type 0} (x : A) (xs : List A) → reverse (x ∷ xs) ≡ reverse xs ++ x ∷ []
reversed x xs = reverse-append (x ∷ []) xs

pub found_in : {R : Type 0} (r0 r : Routine) (earlier : List Routine) (k : ℕ) → slice_get (reverse (r0 ∷ earlier)) k ≡ Some r → (nat_eq k (length earlier) ≡ true → r0 ≡ r → R) → (nat_eq k (length earlier) ≡ false → slice_get (reverse earlier) k ≡ Some r → R) → R
found_in {R} r0 r earlier k found here there = go (nat_eq k (length earlier)) refl
  where
    e : slice_get (reverse earlier ++ r0 ∷ []) k ≡ Some r
    e = ap (λ rs. slice_get rs k) (sym (reversed r0 earlier)) ∙ found

    go : (b : Bool) → nat_eq k (length earlier) ≡ b → R
    go true was = here was (last_of (reverse earlier) r0 r k e (eqb-true k (length earlier) was ∙ sym (length-reverse earlier)))
    go false was = there was (before_last (reverse earlier) r0 r k e (λ same. eqb-false k (length earlier) was (same ∙ length-reverse earlier)))

-- At the entry

module _ (N : ℕ) (s : Cells) (depth : ℕ) (fr : List ℕ) where
  pub gifts_deeper : (ds : List DeclaredFormal) (fs : List Gift) (gs : List Given) → ArgsAre N s depth fr ds fs gs → GiftsAre N s (suc depth) fr fs gs
  gifts_deeper [] [] [] a = tt
  gifts_deeper [] [] (g ∷ gs) a = absurd a
  gifts_deeper [] (f ∷ fs) gs a = absurd a
  gifts_deeper (d ∷ ds) [] gs a = absurd a
  gifts_deeper (d ∷ ds) (f ∷ fs) [] a = absurd a
  gifts_deeper (d ∷ ds) (Filling mark plain shown ∷ fs) (Filled contents ∷ gs) (x, a) = (tt, gifts_deeper ds fs gs a)
  gifts_deeper (d ∷ ds) (Filling mark plain shown ∷ fs) (Standing place ∷ gs) (x, a) = absurd x
  gifts_deeper (d ∷ ds) (Placing spot ∷ fs) (Filled contents ∷ gs) (x, a) = absurd x
  gifts_deeper (d ∷ ds) (Placing spot ∷ fs) (Standing place ∷ gs) (x, a) = (record { reach = reaches_deeper depth spot.owner x.reach; owner = x.owner; path = x.path; leads = x.leads }, gifts_deeper ds fs gs a)

  undefined_shows : Shows N s fr (λ path key. undefined) (only v.Undefined)
  undefined_shows path key more none long nodes = value-Known N s (fr ++ more) v.Undefined

  formal_shows : (ds : List DeclaredFormal) (fs : List Gift) (gs : List Given) (k : ℕ) → ArgsAre N s depth fr ds fs gs → Shows N s fr (given_terms (slice_get fs k)) (filled (slice_get gs k))
  formal_shows [] [] [] k a = undefined_shows
  formal_shows [] [] (g ∷ gs) k a = absurd a
  formal_shows [] (f ∷ fs) gs k a = absurd a
  formal_shows (d ∷ ds) [] gs k a = absurd a
  formal_shows (d ∷ ds) (f ∷ fs) [] k a = absurd a
  formal_shows (d ∷ ds) (Filling mark plain shown ∷ fs) (Filled contents ∷ gs) zero (x, a) = x.0
  formal_shows (d ∷ ds) (Filling mark plain shown ∷ fs) (Standing place ∷ gs) zero (x, a) = absurd x
  formal_shows (d ∷ ds) (Placing spot ∷ fs) (Filled contents ∷ gs) zero (x, a) = absurd x
  formal_shows (d ∷ ds) (Placing spot ∷ fs) (Standing place ∷ gs) zero (x, a) = undefined_shows
  formal_shows (d ∷ ds) (f ∷ fs) (g ∷ gs) (suc k) (x, a) = formal_shows ds fs gs k a

  not_own : (of : ℕ) → nat_le of (suc depth) ≡ true → nat_eq of (suc depth) ≡ false → nat_le of depth ≡ true
  not_own of e f = grind (arith, e, f)

  -- the terms at the entry represent the store at the entry
  pub entered_rep : (ds : List DeclaredFormal) (fs : List Gift) (gs : List Given) (T : Terms) (c : Store) → ArgsAre N s depth fr ds fs gs → Rep N s depth fr T c → Rep N s (suc depth) fr (entered (suc depth) fs T) (store_entered (suc depth) gs c)
  entered_rep ds fs gs T c are rep (Global k) path key ns reach none long nodes = rep (Global k) path key ns refl none long nodes
  entered_rep ds fs gs T c are rep (Local of k) path key ns reach none long nodes = go (nat_eq of (suc depth)) refl
    where
      go : (b : Bool) → nat_eq of (suc depth) ≡ b → value_of N s (fr ++ ns) (if b then undefined else T (Family (Local of k) path key)) ≡ (if b then only v.Undefined else c (Local of k)) path (at_nodes key ns)
      go true was = value-Known N s (fr ++ ns) v.Undefined
      go false was = rep (Local of k) path key ns (not_own of reach was) none long nodes
  entered_rep ds fs gs T c are rep (Formal of k) path key ns reach none long nodes = go (nat_eq of (suc depth)) refl
    where
      go : (b : Bool) → nat_eq of (suc depth) ≡ b → value_of N s (fr ++ ns) (if b then given_terms (slice_get fs k) path key else T (Family (Formal of k) path key)) ≡ (if b then filled (slice_get gs k) else c (Formal of k)) path (at_nodes key ns)
      go true was = formal_shows ds fs gs k are path key ns none long nodes
      go false was = rep (Formal of k) path key ns (not_own of reach was) none long nodes

  -- the ranges of formals
  abbrev pub Decided : Bool → List Demand → Type 0
  Decided b qs = (b ≡ true → AllHold N s fr qs) × (b ≡ false → SomeFails N s fr qs)

  decided_joined : (a b : Bool) (ps qs : List Demand) → Decided a ps → Decided b qs → Decided (a && b) (ps ++ qs)
  decided_joined true b ps qs (x, y) (z, w) = (λ e. all_joined N s fr ps qs (x refl) (z e), λ e. fails_second N s fr ps qs (w e))
  decided_joined false b ps qs (x, y) (z, w) = (λ e. absurd_false e, λ e. fails_first N s fr ps qs (y refl))

  stored_decided : (at : Span) (plain : Bool) (into : Simple) (e : Term) (w : Value) → value_of N s fr e ≡ w → Storable N s fr plain into w → Decided (may_hold N into w) (stored_fits plain into e)
  stored_decided at plain into e w is fits = go (may_hold N into w) (tells_stored N s fr at plain into e w is fits)
    where
      go : (b : Bool) → Tells N s fr (fitting b at w) (stored_fits plain into e) (λ y. value_of N s fr e ≡ y) → Decided b (stored_fits plain into e)
      go true (good, same) = (λ e. good, λ e. absurd_false (sym e))
      go false bad = (λ e. absurd_false e, λ e. bad)

  formal_decided : (at : Span) (d : DeclaredFormal) (f : Gift) (g : Given) → ArgIs N s depth fr (Some d) f g → Decided (store_formal_fits N d g) (formal_fits (simple_type d.of) f)
  formal_decided at d (Filling mark plain shown) (Standing place) x = absurd x
  formal_decided at d (Placing spot) (Filled contents) x = absurd x
  formal_decided at d (Placing spot) (Standing place) x = go (simple_type d.of)
    where
      go : (o : Option Simple) → Decided true (formal_fits o (Placing spot))
      go None = (λ e. tt, λ e. absurd_false (sym e))
      go (Some into) = (λ e. tt, λ e. absurd_false (sym e))
  formal_decided at d (Filling mark plain shown) (Filled contents) (shows, fits) = go (simple_type d.of) refl
    where
      go : (o : Option Simple) → simple_type d.of ≡ o → Decided (option_map_or (λ into. may_hold N into (contents [] [])) o true) (formal_fits o (Filling mark plain shown))
      go None was = (λ e. tt, λ e. absurd_false (sym e))
      go (Some into) was = stored_decided at plain into (shown [] []) (contents [] []) (ap (λ xs. value_of N s xs (shown [] [])) (sym (append_nothing fr)) ∙ shows [] [] [] tt refl refl) (fits d into refl was)

  pub formals_decided : (at : Span) (ds : List DeclaredFormal) (fs : List Gift) (gs : List Given) → ArgsAre N s depth fr ds fs gs → Decided (store_formals_fit N ds gs) (formals_fit ds fs)
  formals_decided at [] [] [] a = (λ e. tt, λ e. absurd_false (sym e))
  formals_decided at [] [] (g ∷ gs) a = absurd a
  formals_decided at [] (f ∷ fs) gs a = absurd a
  formals_decided at (d ∷ ds) [] gs a = absurd a
  formals_decided at (d ∷ ds) (f ∷ fs) [] a = absurd a
  formals_decided at (d ∷ ds) (f ∷ fs) (g ∷ gs) (x, a) = decided_joined _ _ _ _ (formal_decided at d f g x) (formals_decided at ds fs gs a)

rep_outer : (N : ℕ) (s : Cells) (depth : ℕ) (fr : List ℕ) (T : Terms) (c : Store) → Rep N s (suc depth) fr T c → Rep N s depth fr T c
rep_outer N s depth fr T c rep owner path key ns reach none long nodes = rep owner path key ns (reaches_deeper depth owner reach) none long nodes

pub exit_result : (o : Option Simple) → o ≡ result_of (exit_of o)
exit_result None = refl
exit_result (Some u) = refl

-- what a procedure and a function leave, given what is told of their bodies
module _ (N : ℕ) (s : Cells) (depth : ℕ) (fr : List ℕ) (scene : Scene) (nodes_are : scene.nodes ≡ N) (at : Span) (qs : List Demand) (change : Change) where
  pub procedure_left : (o : Outcome Ending) → Tells N s fr (given o (checked N s at None)) qs (EndsWith N s (suc depth) fr None change) → Tells N s fr (given o (ended None scene at)) qs (λ left. Rep N s depth fr change.now left.cells)
  procedure_left (Fault place) bad = bad
  procedure_left (Got (Next c)) (good, ends) = (good, rep_outer N s depth fr change.now c ends.0)
  procedure_left (Got (Returned c None)) (good, ends) = (good, rep_outer N s depth fr change.now c ends.0)
  procedure_left (Got (Returned c (Some w))) (good, ends) = (good, rep_outer N s depth fr change.now c ends.0)

  abbrev pub FunctionLeft : Left → Type 0
  FunctionLeft left = (w : Value) × (left.result ≡ Some w) × (value_of N s fr (change.now Result) ≡ w)

  pub function_left : (u : Simple) (o : Outcome Ending) → Tells N s fr (given o (checked N s at (Some u))) qs (EndsWith N s (suc depth) fr (Some u) change) → Tells N s fr (given o (ended (Some u) scene at)) (qs ++ demand (change.now Leaving) ∷ []) FunctionLeft
  function_left u (Fault place) bad = fails_first N s fr qs (demand (change.now Leaving) ∷ []) bad
  function_left u (Got (Next c)) (good, ends) = fails_second N s fr qs (demand (change.now Leaving) ∷ []) (one_fails N s fr (change.now Leaving) ends.1)
  function_left u (Got (Returned c None)) (good, ends) = absurd ends.2
  function_left u (Got (Returned c (Some w))) told = subst (λ M. Tells N s fr (if is_value M u w then Got (record { cells = c; result = Some w }) else Fault at) (qs ++ demand (change.now Leaving) ∷ []) FunctionLeft) (sym nodes_are) (go (is_value N u w) told)
    where
      go : (b : Bool) → Tells N s fr (if b then Got (Returned c (Some w)) else Fault at) qs (EndsWith N s (suc depth) fr (Some u) change) → Tells N s fr (if b then Got (record { cells = c; result = Some w }) else Fault at) (qs ++ demand (change.now Leaving) ∷ []) FunctionLeft
      go false bad = fails_first N s fr qs (demand (change.now Leaving) ∷ []) bad
      go true (good, ends) = (all_joined N s fr qs (demand (change.now Leaving) ∷ []) good (one_holds N s fr (change.now Leaving) ends.1), (w, refl, ends.2))
