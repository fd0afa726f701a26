-- A site of the translation and a scope of the symmetry rules for one body, where what the formals stand for is of
-- the bodies around. From these comes what is known of the variable of a loop in its body.
use Rattle.std.proofs.Common.{◌≡◌, ℕ, zero, suc, ◌<◌, Bool, true, false, ◌&&◌, List, [], ◌∷◌, ◌++◌, length, map, Option, None, Some, refl, sym, ap, ◌∙◌, subst, arith}
use Rattle.std.specs.Prelude.{slice_get, nat_eq, nat_lt, unwrap_or, if◌then◌else◌}
use Rattle.std.proofs.lemmas.Bool.{and_parts}
use Rattle.term_core.specs.declared.value.Value.{Value}
use Rattle.term_core.specs.declared.term.Term as t
use Rattle.term_core.specs.declared.term.Term.{Term}
use Rattle.term_core.specs.Meaning.{Cells}
use Rattle.murphi_typed.specs.declared.types.Simple.{Simple}
use Rattle.murphi_typed.specs.declared.types.Simple.TheVariants as simple
use Rattle.murphi_typed.specs.declared.expr.Root.{Root}
use Rattle.murphi_typed.specs.declared.expr.Root.TheVariants as root
use Rattle.murphi_typed.specs.declared.expr.Expr as x
use Rattle.murphi_typed.specs.declared.expr.Expr.{Expr}
use Rattle.murphi_typed.specs.declared.expr.Designator as d
use Rattle.murphi_typed.specs.declared.expr.Designator.{Designator, Row_of-Selector, end_of-Selector, more_of-Selector}
use Rattle.murphi_typed.specs.declared.expr.Selector as select
use Rattle.murphi_typed.specs.declared.expr.Arguments as a
use Rattle.murphi_typed.specs.declared.expr.Arguments.{Arguments, Row_of-Argument, end_of-Argument, more_of-Argument}
use Rattle.murphi_typed.specs.declared.expr.Argument as argument
use Rattle.murphi_typed.specs.Store.{Owner, Global, Local, Formal}
use Rattle.murphi_typed.specs.Expressions.{Given, Filled as StoreFilled, Standing as StoreStanding, Scene, row_path}
use Rattle.murphi_typed.specs.Prefix.{is_over_nodes}
use Rattle.murphi_typed.specs.WellTyped.{Scope as Typing, binding as typing_inside}
use Rattle.scalarset_rules.specs.declared.shape.Binder.{Binder}
use Rattle.scalarset_rules.specs.Accesses.{Shape, Stand, Valued as ForValue, Placed as ForPlace, Scope, binding, called as called_scope, next_binder, stand_mark, root_mark as scope_root_mark, unselected, place_mark as scope_place_mark, mark, whole_shape, placed_shape, root_shape, row_parts, shape_of, row_stands, stands_of}
use Rattle.scalarset_rules.specs.Rules.{marks, is_it, is_deeper}
use Rattle.scalarset_rules.specs.Turns.{fields, is_outer, are_outer, AreStands, StandsIn}
use Rattle.rule_inline.specs.Tables.{Terms, Index, Axis, Among, Spot, lifted_index}
use Rattle.rule_inline.specs.Parts.{Given as Gift, Filled, Standing, Site, lifted_given, with_value, with_variable, Calls as TermCalls, fixed_values, undefined, variable_of, formal_mark, root_mark, mark_if_whole, place_mark, bound_term, mark_of, whole_spot, stood_for, root_spot, index_over, valued_of, placed_of, indices_of, argued_of, row_argued}
use Rattle.rule_inline.specs.Bodies.{called_site}
use Rattle.rule_inline.proofs.ValueLemmas.{absurd_false, nat_itself}
use Rattle.rule_inline.proofs.TermLemmas.{length-one_more}
use Rattle.rule_inline.proofs.TypeLemmas.{not_some, some_one}
use Rattle.rule_inline.proofs.PlaceLemmas.{Leads}
use Rattle.rule_inline.proofs.SceneLemmas.{BoundAre, GiftsAre, Sited, at_frame}
use Rattle.rule_inline.proofs.MarkLemmas.{is_loop, IndexTies}
use Rattle.rule_inline.proofs.TieLemmas.{fields_joined, marks_joined, row_fields, GiftTies, Tie, gifts_lifted}

-- the terms of bound variables, and one more
pub one_term : (P : Term → Type 0) (bound : List Term) (e : Term) (k : ℕ) → P undefined → P e → ((j : ℕ) → P (unwrap_or (slice_get bound j) undefined)) → P (unwrap_or (slice_get (bound ++ e ∷ []) k) undefined)
one_term P [] e zero none last each = last
one_term P [] e (suc k) none last each = none
one_term P (b ∷ bound) e zero none last each = each 0
one_term P (b ∷ bound) e (suc k) none last each = one_term P bound e k none last (λ j. each (suc j))

-- Marks of the bodies around

abbrev pub BelowMark : ℕ → Option ℕ → Type 0
BelowMark frame None = Unit {0}
BelowMark frame (Some k) = k < frame

abbrev pub OuterIndices : ℕ → ℕ → List Index → List (Option Binder) → Type 0
OuterIndices frame depth [] [] = Unit {0}
OuterIndices frame depth [] (b ∷ bs) = ⊥
OuterIndices frame depth (i ∷ is) [] = ⊥
OuterIndices frame depth (Axis m e ∷ is) (b ∷ bs) = (BelowMark frame m × is_outer depth b) × OuterIndices frame depth is bs
OuterIndices frame depth (Among ws e ∷ is) (b ∷ bs) = is_outer depth b × OuterIndices frame depth is bs

abbrev pub OuterPlace : ℕ → ℕ → Spot → Shape → Type 0
OuterPlace frame depth spot shape = (spot.owner ≡ shape.owner) × ((spot.path ≡ fields shape.parts) × (OuterIndices frame depth spot.at (marks shape.parts) × (is_deeper depth shape.owner ≡ false)))

abbrev pub OuterGift : ℕ → ℕ → Gift → Stand → Type 0
OuterGift frame depth (Filled m plain shown) (ForValue b) = BelowMark frame m × is_outer depth b
OuterGift frame depth (Filled m plain shown) (ForPlace shape) = ⊥
OuterGift frame depth (Standing spot) (ForValue b) = ⊥
OuterGift frame depth (Standing spot) (ForPlace shape) = OuterPlace frame depth spot shape

abbrev pub OuterGifts : ℕ → ℕ → List Gift → List Stand → Type 0
OuterGifts frame depth [] [] = Unit {0}
OuterGifts frame depth [] (s ∷ ss) = ⊥
OuterGifts frame depth (g ∷ gs) [] = ⊥
OuterGifts frame depth (g ∷ gs) (s ∷ ss) = OuterGift frame depth g s × OuterGifts frame depth gs ss

pub record Tied (sc : Scope) (site : Site) : Type 0 where
  pub depth : site.depth ≡ sc.depth
  pub long : length site.bound ≡ sc.bound
  pub bound : (k j : ℕ) → variable_of (bound_term site k) ≡ Some j → j < site.frame
  pub formals : OuterGifts site.frame sc.depth site.formals sc.stands

-- One more variable

below_more : (frame : ℕ) (m : Option ℕ) → BelowMark frame m → BelowMark (suc frame) m
below_more frame None less = tt
below_more frame (Some k) less = omega (arith, less)

indices_more : (frame depth : ℕ) (is : List Index) (bs : List (Option Binder)) → OuterIndices frame depth is bs → OuterIndices (suc frame) depth (map (lifted_index frame) is) bs
indices_more frame depth [] [] o = tt
indices_more frame depth [] (b ∷ bs) o = absurd o
indices_more frame depth (i ∷ is) [] o = absurd o
indices_more frame depth (Axis m e ∷ is) (b ∷ bs) (one, o) = ((below_more frame m one.0, one.1), indices_more frame depth is bs o)
indices_more frame depth (Among ws e ∷ is) (b ∷ bs) (one, o) = (one, indices_more frame depth is bs o)

gifts_more : (frame depth : ℕ) (gs : List Gift) (ss : List Stand) → OuterGifts frame depth gs ss → OuterGifts (suc frame) depth (map (lifted_given frame) gs) ss
gifts_more frame depth [] [] o = tt
gifts_more frame depth [] (s ∷ ss) o = absurd o
gifts_more frame depth (g ∷ gs) [] o = absurd o
gifts_more frame depth (Filled m plain shown ∷ gs) (ForValue b ∷ ss) (one, o) = ((below_more frame m one.0, one.1), gifts_more frame depth gs ss o)
gifts_more frame depth (Filled m plain shown ∷ gs) (ForPlace shape ∷ ss) (one, o) = absurd one
gifts_more frame depth (Standing spot ∷ gs) (ForValue b ∷ ss) (one, o) = absurd one
gifts_more frame depth (Standing spot ∷ gs) (ForPlace shape ∷ ss) (one, o) = ((one.0, (one.1.0, (indices_more frame depth spot.at (marks shape.parts) one.1.1.0, one.1.1.1))), gifts_more frame depth gs ss o)

pub tied_value : (sc : Scope) (site : Site) (w : Value) → Tied sc site → Tied (binding sc) (with_value site w)
tied_value sc site w tied = record {
  depth = tied.depth;
  long = length-one_more site.bound (t.Known w) ∙ ap suc tied.long;
  bound = λ k. one_term (λ e. (j : ℕ) → variable_of e ≡ Some j → j < site.frame) site.bound (t.Known w) k (λ j e. not_some e) (λ j e. not_some e) tied.bound;
  formals = tied.formals;
}

pub tied_node : (sc : Scope) (site : Site) → Tied sc site → Tied (binding sc) (with_variable site)
tied_node sc site tied = record {
  depth = tied.depth;
  long = length-one_more site.bound (t.Var site.frame) ∙ ap suc tied.long;
  bound = λ k. one_term (λ e. (j : ℕ) → variable_of e ≡ Some j → j < suc site.frame) site.bound (t.Var site.frame) k (λ j e. not_some e)
      (λ j e. (let same : site.frame ≡ j = some_one e in omega (arith, same))) (λ i j e. (let less : j < site.frame = tied.bound i j e in omega (arith, less)));
  formals = gifts_more site.frame sc.depth site.formals sc.stands tied.formals;
}

-- Calls

outer_deeper : (depth : ℕ) (b : Option Binder) → is_outer depth b → is_outer (suc depth) b
outer_deeper depth None o = tt
outer_deeper depth (Some b) o = omega (arith, o)

owner_deeper : (depth : ℕ) (owner : Owner) → is_deeper depth owner ≡ false → is_deeper (suc depth) owner ≡ false
owner_deeper depth (Global k) e = refl
owner_deeper depth (Local of k) e = grind (arith, e)
owner_deeper depth (Formal of k) e = grind (arith, e)

indices_deeper : (frame depth : ℕ) (is : List Index) (bs : List (Option Binder)) → OuterIndices frame depth is bs → OuterIndices frame (suc depth) is bs
indices_deeper frame depth [] [] o = tt
indices_deeper frame depth [] (b ∷ bs) o = absurd o
indices_deeper frame depth (i ∷ is) [] o = absurd o
indices_deeper frame depth (Axis m e ∷ is) (b ∷ bs) (one, o) = ((one.0, outer_deeper depth b one.1), indices_deeper frame depth is bs o)
indices_deeper frame depth (Among ws e ∷ is) (b ∷ bs) (one, o) = (outer_deeper depth b one, indices_deeper frame depth is bs o)

indices_both : (frame depth : ℕ) (is js : List Index) (bs cs : List (Option Binder)) → OuterIndices frame depth is bs → OuterIndices frame depth js cs → OuterIndices frame depth (is ++ js) (bs ++ cs)
indices_both frame depth [] js [] cs o p = p
indices_both frame depth [] js (b ∷ bs) cs o p = absurd o
indices_both frame depth (i ∷ is) js [] cs o p = absurd o
indices_both frame depth (Axis m e ∷ is) js (b ∷ bs) cs (one, o) p = (one, indices_both frame depth is js bs cs o p)
indices_both frame depth (Among ws e ∷ is) js (b ∷ bs) cs (one, o) p = (one, indices_both frame depth is js bs cs o p)

abbrev pub OuterMark : ℕ → ℕ → Option ℕ → Option Binder → Type 0
OuterMark frame depth m b = BelowMark frame m × is_outer (suc depth) b

formal_outer : (frame depth : ℕ) (gs : List Gift) (ss : List Stand) (k : ℕ) → OuterGifts frame depth gs ss → OuterMark frame depth (formal_mark (slice_get gs k)) (stand_mark (slice_get ss k))
formal_outer frame depth [] [] k o = (tt, tt)
formal_outer frame depth [] (s ∷ ss) k o = absurd o
formal_outer frame depth (g ∷ gs) [] k o = absurd o
formal_outer frame depth (Filled m plain shown ∷ gs) (ForValue b ∷ ss) zero (one, o) = (one.0, outer_deeper depth b one.1)
formal_outer frame depth (Filled m plain shown ∷ gs) (ForPlace shape ∷ ss) zero (one, o) = absurd one
formal_outer frame depth (Standing spot ∷ gs) (ForValue b ∷ ss) zero (one, o) = absurd one
formal_outer frame depth (Standing spot ∷ gs) (ForPlace shape ∷ ss) zero (one, o) = (tt, tt)
formal_outer frame depth (g ∷ gs) (s ∷ ss) (suc k) (one, o) = formal_outer frame depth gs ss k o

place_outer : (frame depth : ℕ) (other : Spot) (owner : Owner) (gs : List Gift) (ss : List Stand) (k : ℕ) → OuterPlace frame (suc depth) other (whole_shape owner) → OuterGifts frame depth gs ss → OuterPlace frame (suc depth) (stood_for other (slice_get gs k)) (placed_shape owner (slice_get ss k))
place_outer frame depth other owner [] [] k own o = own
place_outer frame depth other owner [] (s ∷ ss) k own o = absurd o
place_outer frame depth other owner (g ∷ gs) [] k own o = absurd o
place_outer frame depth other owner (Filled m plain shown ∷ gs) (ForValue b ∷ ss) zero own (one, o) = own
place_outer frame depth other owner (Filled m plain shown ∷ gs) (ForPlace shape ∷ ss) zero own (one, o) = absurd one
place_outer frame depth other owner (Standing spot ∷ gs) (ForValue b ∷ ss) zero own (one, o) = absurd one
place_outer frame depth other owner (Standing spot ∷ gs) (ForPlace shape ∷ ss) zero own (one, o) = (one.0, (one.1.0, (indices_deeper frame depth spot.at (marks shape.parts) one.1.1.0, owner_deeper depth shape.owner one.1.1.1)))
place_outer frame depth other owner (g ∷ gs) (s ∷ ss) (suc k) own (one, o) = place_outer frame depth other owner gs ss k own o

not_deeper : (depth : ℕ) → nat_lt (suc depth) depth ≡ false
not_deeper depth = grind arith

module _ (sc : Scope) (site : Site) (tied : Tied sc site) where
  root_outer : (r : Root) → OuterPlace site.frame (suc sc.depth) (root_spot site r) (root_shape sc r)
  root_outer (root.Global k) = (refl, (refl, (tt, refl)))
  root_outer (root.Local k) = (ap (λ n. Local n k) tied.depth, (refl, (tt, not_deeper sc.depth)))
  root_outer (root.Formal k) = (ap (λ n. Formal n k) tied.depth, (refl, (tt, not_deeper sc.depth)))
  root_outer (root.Place k) = place_outer site.frame sc.depth (whole_spot site (root.Place k)) (Formal sc.depth k) site.formals sc.stands k (ap (λ n. Formal n k) tied.depth, (refl, (tt, not_deeper sc.depth))) tied.formals

  root_mark_outer : (r : Root) → OuterMark site.frame sc.depth (root_mark site r) (scope_root_mark sc r)
  root_mark_outer (root.Global k) = (tt, tt)
  root_mark_outer (root.Local k) = (tt, tt)
  root_mark_outer (root.Formal k) = formal_outer site.frame sc.depth site.formals sc.stands k tied.formals
  root_mark_outer (root.Place k) = (tt, tt)

  whole_outer : {n : _} (selectors : Row_of-Selector n) (m : Option ℕ) (b : Option Binder) → OuterMark site.frame sc.depth m b → OuterMark site.frame sc.depth (mark_if_whole m selectors) (unselected selectors b)
  whole_outer end_of-Selector m b o = o
  whole_outer (more_of-Selector first rest) m b o = (tt, tt)

  mark_outer : (place : Designator) → OuterMark site.frame sc.depth (place_mark site place) (scope_place_mark sc place)
  mark_outer (d.Of' r _ selectors at) = whole_outer selectors (root_mark site r) (scope_root_mark sc r) (root_mark_outer r)

  below_mark : (o : Option ℕ) → ((j : ℕ) → o ≡ Some j → j < site.frame) → BelowMark site.frame o
  below_mark None each = tt
  below_mark (Some k) each = each k refl

  expr_outer : (e : Expr) → OuterMark site.frame sc.depth (mark_of site e) (mark sc e)
  expr_outer (x.Bound k) = (below_mark (variable_of (bound_term site k)) (tied.bound k), omega arith)
  expr_outer (x.Read place) = mark_outer place
  expr_outer e = (tt, tt)

  index_outer : (over : Simple) (index : Expr) (e : Term) (is : List Index) (bs : List (Option Binder)) → OuterIndices site.frame (suc sc.depth) is bs → OuterIndices site.frame (suc sc.depth) (index_over over (mark_of site index) e ∷ is) (mark sc index ∷ bs)
  index_outer over index e is bs rest = go (is_over_nodes over)
    where
      go : (b : Bool) → OuterIndices site.frame (suc sc.depth) ((if b then Axis (mark_of site index) e else Among (fixed_values over) e) ∷ is) (mark sc index ∷ bs)
      go true = (expr_outer index, rest)
      go false = ((expr_outer index).1, rest)

  indices_outer : {n : _} (tcalls : TermCalls) (T : Terms) (selectors : Row_of-Selector n) → OuterIndices site.frame (suc sc.depth) (indices_of tcalls site T selectors).indices (marks (row_parts sc selectors))
  unfolding valued_of
  indices_outer tcalls T end_of-Selector = tt
  indices_outer tcalls T (more_of-Selector (select.Field name) rest) = indices_outer tcalls T rest
  indices_outer tcalls T (more_of-Selector (select.Index over index) rest) =
      index_outer over index (valued_of tcalls site T index).term (indices_of tcalls site T rest).indices (marks (row_parts sc rest)) (indices_outer tcalls T rest)

  designator_outer : (tcalls : TermCalls) (T : Terms) (place : Designator) → OuterPlace site.frame (suc sc.depth) (placed_of tcalls site T place).spot (shape_of sc place)
  unfolding valued_of
  designator_outer tcalls T (d.Of' r _ selectors at) =
      let base = root_outer r in (
        base.0,
        (
          ap (λ q. q ++ row_path selectors) base.1.0 ∙ ap (λ q. fields (root_shape sc r).parts ++ q) (row_fields sc selectors) ∙ sym (fields_joined (root_shape sc r).parts (row_parts sc selectors)),
          (
            subst (λ bs. OuterIndices site.frame (suc sc.depth) ((root_spot site r).at ++ (indices_of tcalls site T selectors).indices) bs) (sym (marks_joined (root_shape sc r).parts (row_parts sc selectors)))
                (indices_both site.frame (suc sc.depth) (root_spot site r).at (indices_of tcalls site T selectors).indices (marks (root_shape sc r).parts) (marks (row_parts sc selectors)) base.1.1.0 (indices_outer tcalls T selectors)),
            base.1.1.1,
          ),
        ),
      )

  row_outer : {n : _} (tcalls : TermCalls) (T : Terms) (args : Row_of-Argument n) → OuterGifts site.frame (suc sc.depth) (row_argued tcalls site T args).given (row_stands sc args)
  unfolding valued_of
  row_outer tcalls T end_of-Argument = tt
  row_outer tcalls T (more_of-Argument (argument.Copy place) rest) = (mark_outer place, row_outer tcalls T rest)
  row_outer tcalls T (more_of-Argument (argument.CopyAll place) rest) = ((tt, tt), row_outer tcalls T rest)
  row_outer tcalls T (more_of-Argument (argument.Value body) rest) = (expr_outer body, row_outer tcalls T rest)
  row_outer tcalls T (more_of-Argument (argument.Place place) rest) = (designator_outer tcalls T place, row_outer tcalls T rest)

  arguments_outer : (tcalls : TermCalls) (T : Terms) (args : Arguments) → OuterGifts site.frame (suc sc.depth) (argued_of tcalls site T args).given (stands_of sc args)
  unfolding valued_of
  arguments_outer tcalls T (a.Of' _ args) = row_outer tcalls T args

  pub tied_call : (tcalls : TermCalls) (T : Terms) (args : Arguments) (result : Option Simple) → Tied (called_scope sc (stands_of sc args)) (called_site site result (argued_of tcalls site T args).given)
  tied_call tcalls T args result = record { depth = ap suc tied.depth; long = refl; bound = λ k j e. not_some e; formals = arguments_outer tcalls T args }

-- The scene of a body

bound_length : (N : ℕ) (s : Cells) (fr : List ℕ) (es : List Term) (xs : List Value) → BoundAre N s fr es xs → length xs ≡ length es
bound_length N s fr [] [] a = refl
bound_length N s fr [] (x ∷ xs) a = absurd a
bound_length N s fr (e ∷ es) [] a = absurd a
bound_length N s fr (e ∷ es) (x ∷ xs) (is, below, a) = ap suc (bound_length N s fr es xs a)

leads_length : (N : ℕ) (s : Cells) (fr : List ℕ) (is : List Index) (xs : List Value) → Leads N s fr is xs → length xs ≡ length is
leads_length N s fr [] [] a = refl
leads_length N s fr [] (x ∷ xs) a = absurd a
leads_length N s fr (i ∷ is) [] a = absurd a
leads_length N s fr (i ∷ is) (x ∷ xs) (one, a) = ap suc (leads_length N s fr is xs a)

outer_length : (frame depth : ℕ) (is : List Index) (bs : List (Option Binder)) → OuterIndices frame depth is bs → length is ≡ length bs
outer_length frame depth [] [] o = refl
outer_length frame depth [] (b ∷ bs) o = absurd o
outer_length frame depth (i ∷ is) [] o = absurd o
outer_length frame depth (Axis m e ∷ is) (b ∷ bs) (one, o) = ap suc (outer_length frame depth is bs o)
outer_length frame depth (Among ws e ∷ is) (b ∷ bs) (one, o) = ap suc (outer_length frame depth is bs o)

outer_marks : (frame depth : ℕ) (is : List Index) (bs : List (Option Binder)) → OuterIndices frame depth is bs → are_outer depth bs
outer_marks frame depth [] [] o = tt
outer_marks frame depth [] (b ∷ bs) o = absurd o
outer_marks frame depth (i ∷ is) [] o = absurd o
outer_marks frame depth (Axis m e ∷ is) (b ∷ bs) (one, o) = (one.1, outer_marks frame depth is bs o)
outer_marks frame depth (Among ws e ∷ is) (b ∷ bs) (one, o) = (one, outer_marks frame depth is bs o)

are_stands : (N : ℕ) (s : Cells) (of frame depth : ℕ) (fr : List ℕ) (gs : List Gift) (ss : List Stand) (given : List Given) → OuterGifts frame depth gs ss → GiftsAre N s of fr gs given → AreStands depth ss given
are_stands N s of frame depth fr [] [] [] o a = tt
are_stands N s of frame depth fr [] [] (x ∷ xs) o a = absurd a
are_stands N s of frame depth fr [] (s' ∷ ss) xs o a = absurd o
are_stands N s of frame depth fr (g ∷ gs) [] xs o a = absurd o
are_stands N s of frame depth fr (g ∷ gs) (s' ∷ ss) [] o a = absurd a
are_stands N s of frame depth fr (Filled m plain shown ∷ gs) (ForValue b ∷ ss) (StoreFilled contents ∷ xs) (one, o) (is, a) = (one.1, are_stands N s of frame depth fr gs ss xs o a)
are_stands N s of frame depth fr (Filled m plain shown ∷ gs) (ForValue b ∷ ss) (StoreStanding place ∷ xs) (one, o) (is, a) = absurd is
are_stands N s of frame depth fr (Filled m plain shown ∷ gs) (ForPlace shape ∷ ss) (x ∷ xs) (one, o) (is, a) = absurd one
are_stands N s of frame depth fr (Standing spot ∷ gs) (ForValue b ∷ ss) (x ∷ xs) (one, o) (is, a) = absurd one
are_stands N s of frame depth fr (Standing spot ∷ gs) (ForPlace shape ∷ ss) (StoreFilled contents ∷ xs) (one, o) (is, a) = absurd is
are_stands N s of frame depth fr (Standing spot ∷ gs) (ForPlace shape ∷ ss) (StoreStanding place ∷ xs) (one, o) (is, a) = (
  (
    record { owner = sym is.owner ∙ one.0; path = sym is.path ∙ one.1.0; indices = leads_length N s fr spot.at place.at is.leads ∙ outer_length frame depth spot.at (marks shape.parts) one.1.1.0 },
    (one.1.1.1, outer_marks frame depth spot.at (marks shape.parts) one.1.1.0),
  ),
  are_stands N s of frame depth fr gs ss xs o a,
)

pub stands_in : (s : Cells) (fr : List ℕ) (site : Site) (scene : Scene) (sc : Scope) → Sited s fr site scene → Tied sc (at_frame fr site) → StandsIn sc scene
stands_in s fr site scene sc sited tied = record {
  depth = sym sited.depth ∙ tied.depth;
  bound = bound_length scene.nodes s fr site.bound scene.bound sited.bound ∙ tied.long;
  formals = are_stands scene.nodes s scene.depth (length fr) sc.depth fr site.formals sc.stands scene.formals tied.formals sited.formals;
}

-- The variable of a loop

not_loop : (v : Binder) (F : ℕ) (m : Option ℕ) → BelowMark F m → is_loop v F m ≡ false
not_loop v F None less = refl
not_loop v F (Some k) less = grind (arith, less)

not_it : (depth number : ℕ) (b : Option Binder) → is_outer depth b → is_it (record { depth = depth; number = number }) b ≡ false
not_it depth number None o = refl
not_it depth number (Some b) o = go (nat_eq depth b.depth) refl
  where
    go : (c : Bool) → nat_eq depth b.depth ≡ c → (c && nat_eq number b.number) ≡ false
    go true was = absurd (grind (arith, was, o))
    go false was = refl

outer_ties : (depth number F : ℕ) (is : List Index) (bs : List (Option Binder)) → OuterIndices F depth is bs → IndexTies (record { depth = depth; number = number }) F is bs
outer_ties depth number F [] [] o = tt
outer_ties depth number F [] (b ∷ bs) o = absurd o
outer_ties depth number F (i ∷ is) [] o = absurd o
outer_ties depth number F (Axis m e ∷ is) (b ∷ bs) (one, o) = (not_loop (record { depth = depth; number = number }) F m one.0 ∙ sym (not_it depth number b one.1), outer_ties depth number F is bs o)
outer_ties depth number F (Among ws e ∷ is) (b ∷ bs) (one, o) = (not_it depth number b one, outer_ties depth number F is bs o)

gifts_tie : (depth number F : ℕ) (gs : List Gift) (ss : List Stand) → OuterGifts F depth gs ss → GiftTies (record { depth = depth; number = number }) F gs ss
gifts_tie depth number F [] [] o = tt
gifts_tie depth number F [] (s ∷ ss) o = absurd o
gifts_tie depth number F (g ∷ gs) [] o = absurd o
gifts_tie depth number F (Filled m plain shown ∷ gs) (ForValue b ∷ ss) (one, o) = (not_loop (record { depth = depth; number = number }) F m one.0 ∙ sym (not_it depth number b one.1), gifts_tie depth number F gs ss o)
gifts_tie depth number F (Filled m plain shown ∷ gs) (ForPlace shape ∷ ss) (one, o) = absurd one
gifts_tie depth number F (Standing spot ∷ gs) (ForValue b ∷ ss) (one, o) = absurd one
gifts_tie depth number F (Standing spot ∷ gs) (ForPlace shape ∷ ss) (one, o) = ((one.0, (one.1.0, outer_ties depth number F spot.at (marks shape.parts) one.1.1.0)), gifts_tie depth number F gs ss o)

no_stand : (depth number F : ℕ) (gs : List Gift) (ss : List Stand) (k : ℕ) → OuterGifts F depth gs ss → is_it (record { depth = depth; number = number }) (stand_mark (slice_get ss k)) ≡ false
no_stand depth number F [] [] k o = refl
no_stand depth number F [] (s ∷ ss) k o = absurd o
no_stand depth number F (g ∷ gs) [] k o = absurd o
no_stand depth number F (Filled m plain shown ∷ gs) (ForValue b ∷ ss) zero (one, o) = not_it depth number b one.1
no_stand depth number F (Filled m plain shown ∷ gs) (ForPlace shape ∷ ss) zero (one, o) = absurd one
no_stand depth number F (Standing spot ∷ gs) (ForValue b ∷ ss) zero (one, o) = absurd one
no_stand depth number F (Standing spot ∷ gs) (ForPlace shape ∷ ss) zero (one, o) = refl
no_stand depth number F (g ∷ gs) (s ∷ ss) (suc k) (one, o) = no_stand depth number F gs ss k o

loop_bound : (v : Binder) (F : ℕ) (bound : List Term) (k : ℕ) → ((i j : ℕ) → variable_of (unwrap_or (slice_get bound i) undefined) ≡ Some j → j < F) → is_loop v F (variable_of (unwrap_or (slice_get (bound ++ t.Var F ∷ []) k) undefined)) ≡ nat_eq (length bound) k
loop_bound v F [] zero each = nat_itself F ∙ sym (nat_itself 0)
loop_bound v F [] (suc k) each = grind arith
loop_bound v F (b ∷ bound) zero each = go (variable_of b) (each 0) ∙ (let other : false ≡ nat_eq (suc (length bound)) 0 = grind arith in other)
  where
    go : (o : Option ℕ) → ((j : ℕ) → o ≡ Some j → j < F) → is_loop v F o ≡ false
    go None each = refl
    go (Some j) each = let less : j < F = each j refl in grind (arith, less)
loop_bound v F (b ∷ bound) (suc k) each = loop_bound v F bound k (λ i j e. each (suc i) j e) ∙ (let same : nat_eq (length bound) k ≡ nat_eq (suc (length bound)) (suc k) = grind arith in same)

last_type : (xs : List Simple) (y : Simple) (k : ℕ) → length xs ≡ k → slice_get (xs ++ y ∷ []) k ≡ Some y
last_type [] y zero e = refl
last_type [] y (suc k) e = absurd (omega (arith, e))
last_type (x ∷ xs) y zero e = absurd (omega (arith, e))
last_type (x ∷ xs) y (suc k) e = last_type xs y k (omega (arith, e))

pub loop_tie : (ts : Typing) (sc : Scope) (site : Site) → Tied sc site → length ts.bound ≡ sc.bound → Tie (next_binder sc) site.frame (typing_inside ts simple.Node) (binding sc) (with_variable site)
loop_tie ts sc site tied typed = record {
  depth = tied.depth;
  near = omega arith;
  before = λ e. omega arith;
  below = omega arith;
  long = length-one_more site.bound (t.Var site.frame) ∙ ap suc tied.long;
  bound = λ k. loop_bound (next_binder sc) site.frame site.bound k tied.bound ∙ ap (λ n. nat_eq n k) tied.long ∙ sym (ap (λ b. b && nat_eq sc.bound k) (nat_itself sc.depth));
  node = λ k is. last_type ts.bound simple.Node k (typed ∙ (let both = and_parts (nat_eq sc.depth sc.depth) (nat_eq sc.bound k) is in let e = both.1 in grind (arith, e)));
  formals = gifts_lifted (next_binder sc) site.frame site.frame site.formals sc.stands (gifts_tie sc.depth sc.bound site.frame site.formals sc.stands tied.formals);
  nodes = λ k is. absurd_false (sym (no_stand sc.depth sc.bound site.frame site.formals sc.stands k tied.formals) ∙ is);
}
