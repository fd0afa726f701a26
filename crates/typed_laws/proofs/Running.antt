-- Statements do alike in cells that agree on what they read, and change only what they write.
use Rattle.std.proofs.Common.{◌≡◌, ℕ, Bool, true, false, List, [], ◌∷◌, ◌++◌, Option, None, Some, refl, sym, ap, ◌∙◌, subst}
use Rattle.std.specs.Prelude.{if◌then◌else◌}
use Rattle.std.specs.List.{flat_map}
use Rattle.std.specs.Str.{bytes_eq}
use Rattle.term_core.specs.declared.value.Value.{Value}
use Rattle.term_core.specs.declared.value.Value.TheVariants as value
use Rattle.term_core.specs.Values.{truth, same_value}
use Rattle.murphi_ast.specs.declared.token.Span.{Span}
use Rattle.murphi_typed.specs.declared.expr.Expr.{Expr}
use Rattle.murphi_typed.specs.declared.expr.Designator.{Designator}
use Rattle.murphi_typed.specs.declared.stmt.Stmt as s
use Rattle.murphi_typed.specs.declared.stmt.Stmt.{Stmt, Row_of-Stmt, end_of-Stmt, more_of-Stmt, Row_of-Arm, end_of-Arm, more_of-Arm, Row_of-Case, end_of-Case, more_of-Case}
use Rattle.murphi_typed.specs.Values.{values}
use Rattle.murphi_typed.specs.Families.{Path}
use Rattle.murphi_typed.specs.Store.{Formal, Owner, Global, Local, same_owner, Place, Contents, Cells, cell_at, contents_at, written, renewed, beyond, only}
use Rattle.murphi_typed.specs.Outcome.{Outcome, Got, Fault, given}
use Rattle.murphi_typed.specs.Expressions.{Scene, Left, Calls, with_bound, value_of, place_of, arguments_of}
use Rattle.murphi_typed.specs.Execution.{Ending, Next, Returned, then_on, turns, at_of, stored, cleared, is_among, run, run_all, run_arms, run_cases}
use Rattle.scalarset_rules.specs.Accesses.{Scope, binding, called, shape_of, stands_of, Access, accessed, Opened, reads, index_reads, argument_reads, accesses, all_accesses, arm_accesses, case_accesses}
use Rattle.scalarset_rules.specs.Turns.{fields, is_front}
use Rattle.typed_laws.specs.Regions.{Region}
use Rattle.typed_laws.proofs.Standing.{both, false-true, Good, AllGood, good_front, good_back, good_called, Agree, Kept, Fits, IsAt}
use Rattle.typed_laws.proofs.Reading.{front_joined, LeftAlike, CallsAlike, contents_same, cell_same, place_at, reading, accessed_at, arguments_given, bound_fits, value_same, place_same, arguments_same}
use Rattle.std.specs.Prelude.{nat_eq}
use Rattle.std.proofs.lemmas.Bool.{and_parts, eqb-true}

pub owners_true : (a b : Owner) → same_owner a b ≡ true → a ≡ b
owners_true (Global a) (Global b) e = ap Global (eqb-true a b e)
owners_true (Local d a) (Local d' b) e = let (k, i) = and_parts (nat_eq d d') (nat_eq a b) e in both Local (eqb-true d d' k) (eqb-true a b i)
owners_true (Formal d a) (Formal d' b) e = let (k, i) = and_parts (nat_eq d d') (nat_eq a b) e in both Formal (eqb-true d d' k) (eqb-true a b i)
owners_true (Global a) (Local d' b) e = cc
owners_true (Global a) (Formal d' b) e = cc
owners_true (Local d a) (Global b) e = cc
owners_true (Local d a) (Formal d' b) e = cc
owners_true (Formal d a) (Global b) e = cc
owners_true (Formal d a) (Local d' b) e = cc

pub names_true : (xs ys : List ℕ) → bytes_eq xs ys ≡ true → xs ≡ ys
names_true [] [] e = refl
names_true [] (y ∷ ys) e = cc
names_true (x ∷ xs) [] e = cc
names_true (x ∷ xs) (y ∷ ys) e = let (h, t) = and_parts (nat_eq x y) (bytes_eq xs ys) e in both (λ z zs. z ∷ zs) (eqb-true x y h) (names_true xs ys t)

-- a list that goes beyond a front part
pub beyond_some : {A : Type 0} (same : A → A → Bool) → ((x y : A) → same x y ≡ true → x ≡ y) → (front all rest : List A) → beyond same front all ≡ Some rest → all ≡ front ++ rest
beyond_some same sound [] all rest e = cc
beyond_some same sound (x ∷ front) [] rest e = cc
beyond_some same sound (x ∷ front) (y ∷ all) rest e = go (same x y) refl e (beyond_some same sound front all rest)
  where
    go : (b : Bool) → same x y ≡ b → (if b then beyond same front all else None) ≡ Some rest → (beyond same front all ≡ Some rest → all ≡ front ++ rest) → (y ∷ all) ≡ (x ∷ front) ++ rest
    go true was e more = both (λ z zs. z ∷ zs) (sym (sound x y was)) (more e)
    go false was e more = cc

-- two bodies end alike: they fault at one place, or end the same way, and leave cells that agree
abbrev pub Alike : Region → Region → ℕ → Cells → Outcome Ending → Outcome Ending → Type 0
Alike R W depth c (Fault at) (Fault other) = at ≡ other
Alike R W depth c (Got (Next u)) (Got (Next w)) = Agree R depth u w × Kept W depth c u
Alike R W depth c (Got (Returned u r)) (Got (Returned w s)) = (r ≡ s) × (Agree R depth u w × Kept W depth c u)
Alike R W depth c (Fault at) (Got e) = ⊥
Alike R W depth c (Got e) (Fault at) = ⊥
Alike R W depth c (Got (Next u)) (Got (Returned w s)) = ⊥
Alike R W depth c (Got (Returned u r)) (Got (Next w)) = ⊥

module _ (R W : Region) where
  pub kept_same : (depth : ℕ) (c : Cells) → Kept W depth c c
  kept_same depth c owner path at near out = refl

  pub kept_on : (depth : ℕ) (c u w : Cells) → Kept W depth c u → Kept W depth u w → Kept W depth c w
  kept_on depth c u w first second owner path at near out = second owner path at near out ∙ first owner path at near out

  kept_more : (depth : ℕ) (c u : Cells) (o p : Outcome Ending) → Kept W depth c u → Alike R W depth u o p → Alike R W depth c o p
  kept_more depth c u (Fault at) (Fault other) kept e = e
  kept_more depth c u (Got (Next w)) (Got (Next z)) kept (agree, after) = (agree, kept_on depth c u w kept after)
  kept_more depth c u (Got (Returned w r)) (Got (Returned z s)) kept (e, rest) = (e, (rest.0, kept_on depth c u w kept rest.1))
  kept_more depth c u (Fault at) (Got e) kept a = absurd a
  kept_more depth c u (Got e) (Fault at) kept a = absurd a
  kept_more depth c u (Got (Next w)) (Got (Returned z s)) kept a = absurd a
  kept_more depth c u (Got (Returned w r)) (Got (Next z)) kept a = absurd a

  pub alike_given : {A : Type 0} (depth : ℕ) (c : Cells) (o p : Outcome A) (f g : A → Outcome Ending) → o ≡ p → ((a : A) → o ≡ Got a → Alike R W depth c (f a) (g a)) → Alike R W depth c (given o f) (given p g)
  alike_given depth c o p f g e same = subst (λ q. Alike R W depth c (given o f) (given q g)) e (go o same)
    where
      go : (o : Outcome _) → ((a : _) → o ≡ Got a → Alike R W depth c (f a) (g a)) → Alike R W depth c (given o f) (given o g)
      go (Got a) same = same a refl
      go (Fault at) same = refl

  alike_then : (depth : ℕ) (c : Cells) (o p : Outcome Ending) (f g : Cells → Outcome Ending) → Alike R W depth c o p → ((u w : Cells) → Agree R depth u w → Kept W depth c u → Alike R W depth u (f u) (g w)) → Alike R W depth c (given o (λ e. then_on e f)) (given p (λ e. then_on e g))
  alike_then depth c (Fault at) (Fault other) f g a next = a
  alike_then depth c (Got (Next u)) (Got (Next w)) f g (agree, kept) next = kept_more depth c u (f u) (g w) kept (next u w agree kept)
  alike_then depth c (Got (Returned u r)) (Got (Returned w s)) f g a next = a
  alike_then depth c (Fault at) (Got e) f g a next = absurd a
  alike_then depth c (Got e) (Fault at) f g a next = absurd a
  alike_then depth c (Got (Next u)) (Got (Returned w s)) f g a next = absurd a
  alike_then depth c (Got (Returned u r)) (Got (Next w)) f g a next = absurd a

  alike_if : (depth : ℕ) (c : Cells) (b : Bool) (o o' p p' : Outcome Ending) → Alike R W depth c o o' → Alike R W depth c p p' → Alike R W depth c (if b then o else p) (if b then o' else p')
  alike_if depth c true o o' p p' x y = x
  alike_if depth c false o o' p p' x y = y

  left_next : (depth : ℕ) (c : Cells) (o p : Outcome Left) → LeftAlike R W depth c o p → Alike R W depth c (given o (λ left. Got (Next left.cells))) (given p (λ left. Got (Next left.cells)))
  left_next depth c (Fault at) (Fault other) e = e
  left_next depth c (Got l) (Got m) (e, rest) = rest
  left_next depth c (Fault at) (Got m) e = absurd e
  left_next depth c (Got l) (Fault at) e = absurd e

  -- what is written may be
  writable_at : (depth : ℕ) (a : Access) (p : Place) → Good R W a → a.write ≡ true → IsAt depth a.shape p → (path : Path) → W p.owner (p.path ++ path) ≡ true
  writable_at depth a p good writing at path =
      let front : is_front (fields a.shape.parts) (p.path ++ path) ≡ true = sym (ap (λ f. is_front f (p.path ++ path)) at.path) ∙ front_joined p.path path in
      ap (λ o. W o (p.path ++ path)) at.owner
      ∙ sym (ap (λ w. (if w then W else R) a.shape.owner (p.path ++ path)) writing) ∙ good (p.path ++ path) front

  kept_written : (depth : ℕ) (c : Cells) (a : Access) (p : Place) (new : Contents) → Good R W a → a.write ≡ true → IsAt depth a.shape p → Kept W depth c (written c p new)
  kept_written depth c a p new good writing at owner path more near out = go (same_owner owner p.owner) refl (beyond bytes_eq p.path path) refl (beyond same_value p.at more) refl
    where
      go : (b : Bool) → same_owner owner p.owner ≡ b → (o : Option Path) → beyond bytes_eq p.path path ≡ o → (q : Option (List Value)) → beyond same_value p.at more ≡ q → (if b then renewed new (c owner path more) o q else c owner path more) ≡ c owner path more
      go false was o path_is q at_is = refl
      go true was None path_is q at_is = refl
      go true was (Some rest) path_is None at_is = refl
      go true was (Some rest) path_is (Some further) at_is =
          let same_path : path ≡ p.path ++ rest = beyond_some bytes_eq names_true p.path path rest path_is in
          let may : W owner path ≡ true =
          ap (λ o. W o path) (owners_true owner p.owner was) ∙ ap (W p.owner) same_path ∙ writable_at depth a p good writing at rest in
          false-true (sym out ∙ may)

  agree_written : (depth : ℕ) (c d : Cells) (p : Place) (new other : Contents) → new ≡ other → Agree R depth c d → Agree R depth (written c p new) (written d p other)
  agree_written depth c d p new other e agree owner path at near may =
      both (λ (f : Contents) old. if same_owner owner p.owner then renewed f old (beyond bytes_eq p.path path) (beyond same_value p.at at) else old) e (agree owner path at near may)

  written_alike : (scope : Scope) (c d : Cells) (to : Designator) (p : Place) (new other : Contents) → new ≡ other → Agree R scope.depth c d → Good R W (accessed true scope to) → IsAt scope.depth (shape_of scope to) p → Alike R W scope.depth c (Got (Next (written c p new))) (Got (Next (written d p other)))
  written_alike scope c d to p new other e agree good at =
      (agree_written scope.depth c d p new other e agree, kept_written scope.depth c (accessed true scope to) p new good (reading true scope to) (accessed_at true scope to p at))

  module _ (calls : Calls) (opened : Opened) (same_calls : CallsAlike R W calls opened) where
    among_same : (scope : Scope) (scene : Scene) (at : Span) (c d : Cells) (w : Value) (labels : List Expr) → Fits scope scene → Agree R scope.depth c d → AllGood R W (flat_map (reads opened scope) labels) → is_among (value_of calls scene at c) w labels ≡ is_among (value_of calls scene at d) w labels
    among_same scope scene at c d w [] fit agree good = refl
    among_same scope scene at c d w (label ∷ labels) fit agree good =
        both (λ (o : Outcome Value) (rest : Outcome Bool). given o (λ u. if same_value w u then Got true else rest))
        (value_same R W calls opened same_calls c d scope scene at label fit agree (good_front R W _ _ good))
        (among_same scope scene at c d w labels fit agree (good_back R W (reads opened scope label) _ good))

    turns_alike : (scope : Scope) (scene : Scene) (body : Value → Cells → Outcome Ending) → ((w : Value) (c d : Cells) → Fits scope scene → Agree R scope.depth c d → Alike R W scope.depth c (body w c) (body w d)) → (ws : List Value) (c d : Cells) → Fits scope scene → Agree R scope.depth c d → Alike R W scope.depth c (turns body ws c) (turns body ws d)
    turns_alike scope scene body same [] c d fit agree = (agree, kept_same scope.depth c)
    turns_alike scope scene body same (w ∷ ws) c d fit agree =
        alike_then scope.depth c (body w c) (body w d) (turns body ws) (turns body ws) (same w c d fit agree)
        (λ u z after kept. turns_alike scope scene body same ws u z fit after)

    mutual
      unfolding run accesses

      pub run_alike : (scope : Scope) (scene : Scene) (c b : Cells) (stmt : Stmt) → Fits scope scene → Agree R scope.depth c b → AllGood R W (accesses opened scope stmt) → Alike R W scope.depth c (run calls scene c stmt) (run calls scene b stmt)
      run_alike scope scene c b (s.Block' _ body) fit agree good = all_alike scope scene c b body fit agree good
      run_alike scope scene c b (s.Assign to into body) fit agree good =
          alike_given scope.depth c (place_of calls scene (at_of to) c to) (place_of calls scene (at_of to) b to) _ _ (place_same R W calls opened same_calls c b scope scene (at_of to) to fit agree (good_front R W (index_reads opened scope to) _ good.1))
          (λ p is. alike_given scope.depth c (value_of calls scene (at_of to) c body) (value_of calls scene (at_of to) b body) _ _ (value_same R W calls opened same_calls c b scope scene (at_of to) body fit agree (good_back R W (index_reads opened scope to) _ good.1))
          (λ w was. alike_given scope.depth c (stored scene.nodes (at_of to) into w) (stored scene.nodes (at_of to) into w) _ _ refl
          (λ u held. written_alike scope c b to p (only u) (only u) refl agree good.0 (place_at R W calls opened same_calls scope scene (at_of to) c to p fit is))))
      run_alike scope scene c b (s.Copy to into from) fit agree good =
          let from_good : AllGood R W (accessed false scope from ∷ index_reads opened scope from) = good_back R W (index_reads opened scope to) _ good.1 in
          alike_given scope.depth c (place_of calls scene (at_of to) c to) (place_of calls scene (at_of to) b to) _ _ (place_same R W calls opened same_calls c b scope scene (at_of to) to fit agree (good_front R W (index_reads opened scope to) _ good.1))
          (λ p is. alike_given scope.depth c (place_of calls scene (at_of to) c from) (place_of calls scene (at_of to) b from) _ _ (place_same R W calls opened same_calls c b scope scene (at_of to) from fit agree from_good.1)
          (λ q was. alike_given scope.depth c (stored scene.nodes (at_of to) into (cell_at c q)) (stored scene.nodes (at_of to) into (cell_at b q)) _ _
          (ap (stored scene.nodes (at_of to) into) (cell_same R W scope.depth c b (accessed false scope from) q agree from_good.0 (reading false scope from) (accessed_at false scope from q (place_at R W calls opened same_calls scope scene (at_of to) c from q fit was))))
          (λ u held. written_alike scope c b to p (only u) (only u) refl agree good.0 (place_at R W calls opened same_calls scope scene (at_of to) c to p fit is))))
      run_alike scope scene c b (s.CopyAll to from) fit agree good =
          let from_good : AllGood R W (accessed false scope from ∷ index_reads opened scope from) = good_back R W (index_reads opened scope to) _ good.1 in
          alike_given scope.depth c (place_of calls scene (at_of to) c to) (place_of calls scene (at_of to) b to) _ _ (place_same R W calls opened same_calls c b scope scene (at_of to) to fit agree (good_front R W (index_reads opened scope to) _ good.1))
          (λ p is. alike_given scope.depth c (place_of calls scene (at_of to) c from) (place_of calls scene (at_of to) b from) _ _ (place_same R W calls opened same_calls c b scope scene (at_of to) from fit agree from_good.1)
          (λ q was. written_alike scope c b to p (contents_at c q) (contents_at b q)
          (contents_same R W scope.depth c b (accessed false scope from) q agree from_good.0 (reading false scope from) (accessed_at false scope from q (place_at R W calls opened same_calls scope scene (at_of to) c from q fit was)))
          agree good.0 (place_at R W calls opened same_calls scope scene (at_of to) c to p fit is)))
      run_alike scope scene c b (s.Call k args at) fit agree good =
          alike_given scope.depth c (arguments_of calls scene at c args) (arguments_of calls scene at b args) _ _ (arguments_same R W calls opened same_calls c b scope scene at args fit agree (good_front R W _ _ good))
          (λ gs is. left_next scope.depth c (calls k scene at gs c) (calls k scene at gs b)
          (same_calls k scope (stands_of scope args) scene at gs c b fit.depth (arguments_given R W calls opened same_calls scope scene at c args gs fit is)
          (good_called R W at (opened k (called scope (stands_of scope args))) (good_back R W (argument_reads opened scope args) _ good)) agree))
      run_alike scope scene c b (s.If' _ arms _ otherwise at) fit agree good =
          arms_alike scope scene at c b arms (run_all calls scene c otherwise) (run_all calls scene b otherwise) fit agree (good_front R W _ _ good)
          (all_alike scope scene c b otherwise fit agree (good_back R W (arm_accesses opened scope arms) _ good))
      run_alike scope scene c b (s.Switch' on _ cases _ otherwise at) fit agree good =
          alike_given scope.depth c (value_of calls scene at c on) (value_of calls scene at b on) _ _ (value_same R W calls opened same_calls c b scope scene at on fit agree (good_front R W _ _ good))
          (λ w is. cases_alike scope scene at c b w cases (run_all calls scene c otherwise) (run_all calls scene b otherwise) fit agree
          (good_front R W _ _ (good_back R W (reads opened scope on) _ good))
          (all_alike scope scene c b otherwise fit agree (good_back R W (case_accesses opened scope cases) _ (good_back R W (reads opened scope on) _ good))))
      run_alike scope scene c b (s.For' over _ body at) fit agree good =
          turns_alike scope scene (λ w cells. run_all calls (with_bound scene w) cells body)
          (λ w u z fits same. all_alike (binding scope) (with_bound scene w) u z body (bound_fits R W calls opened same_calls scope scene w fits) same good)
          (values scene.nodes over) c b fit agree
      run_alike scope scene c b (s.Clear to type at) fit agree good =
          alike_given scope.depth c (place_of calls scene at c to) (place_of calls scene at b to) _ _ (place_same R W calls opened same_calls c b scope scene at to fit agree good.1)
          (λ p is. written_alike scope c b to p (cleared type) (cleared type) refl agree good.0 (place_at R W calls opened same_calls scope scene at c to p fit is))
      run_alike scope scene c b (s.Undefine to at) fit agree good =
          alike_given scope.depth c (place_of calls scene at c to) (place_of calls scene at b to) _ _ (place_same R W calls opened same_calls c b scope scene at to fit agree good.1)
          (λ p is. written_alike scope c b to p (only value.Undefined) (only value.Undefined) refl agree good.0 (place_at R W calls opened same_calls scope scene at c to p fit is))
      run_alike scope scene c b (s.Error at) fit agree good = refl
      run_alike scope scene c b (s.Assert test at) fit agree good =
          alike_given scope.depth c (value_of calls scene at c test) (value_of calls scene at b test) _ _ (value_same R W calls opened same_calls c b scope scene at test fit agree good)
          (λ w is. alike_if scope.depth c (truth w) (Got (Next c)) (Got (Next b)) (Fault at) (Fault at) (agree, kept_same scope.depth c) refl)
      run_alike scope scene c b (s.PutText at) fit agree good = (agree, kept_same scope.depth c)
      run_alike scope scene c b (s.Put shown at) fit agree good = (agree, kept_same scope.depth c)
      run_alike scope scene c b (s.Leave at) fit agree good = (refl, (agree, kept_same scope.depth c))
      run_alike scope scene c b (s.Return body at) fit agree good =
          alike_given scope.depth c (value_of calls scene at c body) (value_of calls scene at b body) _ _ (value_same R W calls opened same_calls c b scope scene at body fit agree good)
          (λ w is. (refl, (agree, kept_same scope.depth c)))

      pub all_alike : {l : _} (scope : Scope) (scene : Scene) (c b : Cells) (body : Row_of-Stmt l) → Fits scope scene → Agree R scope.depth c b → AllGood R W (all_accesses opened scope body) → Alike R W scope.depth c (run_all calls scene c body) (run_all calls scene b body)
      all_alike scope scene c b end_of-Stmt fit agree good = (agree, kept_same scope.depth c)
      all_alike scope scene c b (more_of-Stmt first rest) fit agree good =
          alike_then scope.depth c (run calls scene c first) (run calls scene b first) (λ next. run_all calls scene next rest) (λ next. run_all calls scene next rest)
          (run_alike scope scene c b first fit agree (good_front R W _ _ good))
          (λ u w after kept. all_alike scope scene u w rest fit after (good_back R W (accesses opened scope first) _ good))

      arms_alike : {l : _} (scope : Scope) (scene : Scene) (at : Span) (c b : Cells) (arms : Row_of-Arm l) (o p : Outcome Ending) → Fits scope scene → Agree R scope.depth c b → AllGood R W (arm_accesses opened scope arms) → Alike R W scope.depth c o p → Alike R W scope.depth c (run_arms calls scene at c arms o) (run_arms calls scene at b arms p)
      arms_alike scope scene at c b end_of-Arm o p fit agree good otherwise = otherwise
      arms_alike scope scene at c b (more_of-Arm test _ body rest) o p fit agree good otherwise =
          let more = good_back R W (reads opened scope test) _ good in
          alike_given scope.depth c (value_of calls scene at c test) (value_of calls scene at b test) _ _ (value_same R W calls opened same_calls c b scope scene at test fit agree (good_front R W _ _ good))
          (λ w is. alike_if scope.depth c (truth w) _ _ _ _ (all_alike scope scene c b body fit agree (good_front R W _ _ more))
          (arms_alike scope scene at c b rest o p fit agree (good_back R W (all_accesses opened scope body) _ more) otherwise))

      cases_alike : {l : _} (scope : Scope) (scene : Scene) (at : Span) (c b : Cells) (w : Value) (cases : Row_of-Case l) (o p : Outcome Ending) → Fits scope scene → Agree R scope.depth c b → AllGood R W (case_accesses opened scope cases) → Alike R W scope.depth c o p → Alike R W scope.depth c (run_cases calls scene at c w cases o) (run_cases calls scene at b w cases p)
      cases_alike scope scene at c b w end_of-Case o p fit agree good otherwise = otherwise
      cases_alike scope scene at c b w (more_of-Case labels _ body rest) o p fit agree good otherwise =
          let more = good_back R W (flat_map (reads opened scope) labels) _ good in
          alike_given scope.depth c (is_among (value_of calls scene at c) w labels) (is_among (value_of calls scene at b) w labels) _ _ (among_same scope scene at c b w labels fit agree (good_front R W _ _ good))
          (λ found is. alike_if scope.depth c found _ _ _ _ (all_alike scope scene c b body fit agree (good_front R W _ _ more))
          (cases_alike scope scene at c b w rest o p fit agree (good_back R W (all_accesses opened scope body) _ more) otherwise))
