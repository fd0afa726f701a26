-- A site of the translation and a scope of the symmetry rules for one body: for the variable of a loop, which indices
-- it is in the one are those that it is in the other.
use Rattle.std.proofs.Common.{◌≡◌, ℕ, zero, suc, ◌<◌, ◌≤◌, Bool, true, false, not, ◌&&◌, List, [], ◌∷◌, ◌++◌, length, map, Option, None, Some, refl, sym, ap, ◌∙◌, subst, arith}
use Rattle.std.specs.Prelude.{slice_get, nat_eq, nat_lt, option_map, unwrap_or, is_some, if◌then◌else◌}
use Rattle.std.specs.Option.{option_map_or}
use Rattle.std.proofs.lemmas.Bool.{and_parts}
use Rattle.term_core.specs.declared.value.Value.{Value}
use Rattle.term_core.specs.declared.term.Term as t
use Rattle.term_core.specs.declared.term.Term.{Term}
use Rattle.murphi_typed.specs.declared.types.Simple.{Simple}
use Rattle.murphi_typed.specs.declared.types.Simple.TheVariants as simple
use Rattle.murphi_typed.specs.declared.types.AnyType as type
use Rattle.murphi_typed.specs.declared.types.AnyType.{AnyType}
use Rattle.murphi_typed.specs.declared.expr.Root.{Root}
use Rattle.murphi_typed.specs.declared.expr.Root.TheVariants as root
use Rattle.murphi_typed.specs.declared.expr.Expr as x
use Rattle.murphi_typed.specs.declared.expr.Expr.{Expr}
use Rattle.murphi_typed.specs.declared.expr.Designator as d
use Rattle.murphi_typed.specs.declared.expr.Designator.{Designator, Row_of-Selector, end_of-Selector, more_of-Selector}
use Rattle.murphi_typed.specs.declared.expr.Selector as select
use Rattle.murphi_typed.specs.declared.expr.Arguments as a
use Rattle.murphi_typed.specs.declared.expr.Arguments.{Arguments, Row_of-Argument, end_of-Argument, more_of-Argument}
use Rattle.murphi_typed.specs.declared.expr.Argument as argument
use Rattle.murphi_typed.specs.declared.protocol.Formal.{Formal as DeclaredFormal}
use Rattle.murphi_typed.specs.Store.{Owner, Local, Formal}
use Rattle.murphi_typed.specs.Expressions.{row_path}
use Rattle.murphi_typed.specs.Prefix.{is_over_nodes}
use Rattle.murphi_typed.specs.WellTyped.{Scope as Typing, binding as typing_inside, widened, simple_part, item_part, field_part, formal_type, root_type, is_of, only_if, may_write, root_of, given_value, given_place, first_of, rest_of, type_of, place_type, selected_type, arguments_fit, row_fits, argument_fits}
use Rattle.scalarset_rules.specs.declared.shape.Binder.{Binder}
use Rattle.scalarset_rules.specs.declared.shape.Part.{Part}
use Rattle.scalarset_rules.specs.declared.shape.Part.TheVariants.{Field, Index as Indexed}
use Rattle.scalarset_rules.specs.Accesses.{Stand, Valued as ForValue, Placed as ForPlace, Scope, binding, stand_mark, root_mark as scope_root_mark, unselected, place_mark as scope_place_mark, mark, whole_shape, placed_shape, root_shape, row_parts, shape_of, row_stands, stands_of}
use Rattle.scalarset_rules.specs.Rules.{marks, is_it}
use Rattle.scalarset_rules.specs.Turns.{fields}
use Rattle.rule_inline.specs.Tables.{Terms, Index, Axis, Among, Spot, lifted_index}
use Rattle.rule_inline.specs.Parts.{Given as Gift, Filled, Standing, Site, lifted_given, with_value, with_variable, Calls as TermCalls, fixed_values, undefined, variable_of, formal_mark, root_mark, mark_if_whole, place_mark, bound_term, mark_of, whole_spot, stood_for, root_spot, index_over, valued_of, placed_of, indices_of, argued_of, row_argued}
use Rattle.rule_inline.proofs.ValueLemmas.{absurd_false}
use Rattle.rule_inline.proofs.TermLemmas.{get_first, length-one_more}
use Rattle.rule_inline.proofs.TypeLemmas.{not_some, some_one}
use Rattle.rule_inline.proofs.ClosedLemmas.{get_kept}
use Rattle.rule_inline.proofs.MarkLemmas.{is_loop, MarkIs, IndexTies, index_joined, PlaceTie}

pub fields_joined : (ps qs : List Part) → fields (ps ++ qs) ≡ fields ps ++ fields qs
fields_joined [] qs = refl
fields_joined (Field name ∷ ps) qs = ap (λ path. name ∷ path) (fields_joined ps qs)
fields_joined (Indexed m ∷ ps) qs = fields_joined ps qs

pub marks_joined : (ps qs : List Part) → marks (ps ++ qs) ≡ marks ps ++ marks qs
marks_joined [] qs = refl
marks_joined (Field name ∷ ps) qs = marks_joined ps qs
marks_joined (Indexed m ∷ ps) qs = ap (λ ms. m ∷ ms) (marks_joined ps qs)

pub row_fields : {n : _} (sc : Scope) (selectors : Row_of-Selector n) → row_path selectors ≡ fields (row_parts sc selectors)
row_fields sc end_of-Selector = refl
row_fields sc (more_of-Selector (select.Field name) rest) = ap (λ path. name ∷ path) (row_fields sc rest)
row_fields sc (more_of-Selector (select.Index over index) rest) = row_fields sc rest

-- what only a node fits
node_index : (over : Simple) → is_of over (Some simple.Node) ≡ true → is_over_nodes over ≡ true
node_index simple.Node e = refl
node_index simple.Truth e = absurd_false e
node_index (simple.Range low high) e = absurd_false e
node_index (simple.Listed kind count) e = absurd_false e
node_index (simple.Scalarset kind count) e = absurd_false e

node_only : (u : Simple) → is_of u (Some simple.Node) ≡ true → u ≡ simple.Node
node_only simple.Node e = refl
node_only simple.Truth e = absurd_false e
node_only (simple.Range low high) e = absurd_false e
node_only (simple.Listed kind count) e = absurd_false e
node_only (simple.Scalarset kind count) e = absurd_false e

selected_none : {n : _} (ts : Typing) (selectors : Row_of-Selector n) → is_some (selected_type ts None selectors) ≡ false
unfolding type_of
selected_none ts end_of-Selector = refl
selected_none ts (more_of-Selector (select.Field name) rest) = selected_none ts rest
selected_none ts (more_of-Selector (select.Index over index) rest) = go (is_of over (type_of ts index)) (selected_none ts rest)
  where
    go : (b : Bool) → is_some (selected_type ts None rest) ≡ false → is_some (selected_type ts (only_if b None) rest) ≡ false
    go true e = e
    go false e = e

pub only_is : {A : Type 0} (b : Bool) (o : Option A) (P : Option A → Bool) → P None ≡ false → P (only_if b o) ≡ true → (b ≡ true) × (P o ≡ true)
only_is true o P none e = (refl, e)
only_is false o P none e = absurd_false (sym none ∙ e)

module _ (v : Binder) (F : ℕ) where
  abbrev pub GiftTie : Gift → Stand → Type 0
  GiftTie (Filled m plain shown) (ForValue b) = MarkIs v F m b
  GiftTie (Filled m plain shown) (ForPlace shape) = ⊥
  GiftTie (Standing spot) (ForValue b) = ⊥
  GiftTie (Standing spot) (ForPlace shape) = PlaceTie v F spot shape

  abbrev pub GiftTies : List Gift → List Stand → Type 0
  GiftTies [] [] = Unit {0}
  GiftTies [] (s ∷ ss) = ⊥
  GiftTies (g ∷ gs) [] = ⊥
  GiftTies (g ∷ gs) (s ∷ ss) = GiftTie g s × GiftTies gs ss

  pub record Tie (ts : Typing) (sc : Scope) (site : Site) : Type 0 where
    pub depth : site.depth ≡ sc.depth
    pub near : v.depth ≤ sc.depth
    pub before : v.depth ≡ sc.depth → v.number < sc.bound
    pub below : F < site.frame
    pub long : length site.bound ≡ sc.bound
    pub bound : (k : ℕ) → MarkIs v F (variable_of (bound_term site k)) (Some (record { depth = sc.depth; number = k }))
    pub node : (k : ℕ) → is_it v (Some (record { depth = sc.depth; number = k })) ≡ true → slice_get ts.bound k ≡ Some simple.Node
    pub formals : GiftTies site.formals sc.stands
    pub nodes : (k : ℕ) → is_it v (stand_mark (slice_get sc.stands k)) ≡ true → formal_type false (slice_get ts.formals k) ≡ Some (type.Simple simple.Node)

  -- One more variable

  past_bound : (bound : List Term) (e : Term) (k : ℕ) → length bound ≤ k → is_loop v F (variable_of e) ≡ false → is_loop v F (variable_of (unwrap_or (slice_get (bound ++ e ∷ []) k) undefined)) ≡ false
  past_bound [] e zero past none = none
  past_bound [] e (suc k) past none = refl
  past_bound (b ∷ bound) e zero past none = absurd (omega (arith, past))
  past_bound (b ∷ bound) e (suc k) past none = past_bound bound e k (omega (arith, past)) none

  past_number : (ts : Typing) (sc : Scope) (site : Site) → Tie ts sc site → (k : ℕ) → sc.bound ≤ k → is_it v (Some (record { depth = sc.depth; number = k })) ≡ false
  past_number ts sc site tie k past = go (nat_eq v.depth sc.depth) refl
    where
      go : (b : Bool) → nat_eq v.depth sc.depth ≡ b → (b && nat_eq v.number k) ≡ false
      go true was =
          let same : v.depth ≡ sc.depth = grind (arith, was) in
          let less : v.number < sc.bound = tie.before same in
          grind (arith, less, past)
      go false was = refl

  one_more : (ts : Typing) (sc : Scope) (site : Site) (e : Term) → Tie ts sc site → is_loop v F (variable_of e) ≡ false → (k : ℕ) → MarkIs v F (variable_of (unwrap_or (slice_get (site.bound ++ e ∷ []) k) undefined)) (Some (record { depth = sc.depth; number = k }))
  one_more ts sc site e tie none k = go (nat_lt k (length site.bound)) refl
    where
      go : (b : Bool) → nat_lt k (length site.bound) ≡ b → MarkIs v F (variable_of (unwrap_or (slice_get (site.bound ++ e ∷ []) k) undefined)) (Some (record { depth = sc.depth; number = k }))
      go true was =
          let less : k < length site.bound = grind (arith, was) in
          ap (λ o. is_loop v F (variable_of (unwrap_or o undefined))) (get_first site.bound (e ∷ []) k less) ∙ tie.bound k
      go false was =
          let past : length site.bound ≤ k = grind (arith, was) in
          past_bound site.bound e k past none ∙ sym (past_number ts sc site tie k (subst (λ n. n ≤ k) tie.long past))

  pub tie_value : (ts : Typing) (sc : Scope) (site : Site) (over : Simple) (w : Value) → Tie ts sc site → Tie (typing_inside ts over) (binding sc) (with_value site w)
  tie_value ts sc site over w tie = record {
    depth = tie.depth;
    near = tie.near;
    before = λ e. (let less : v.number < sc.bound = tie.before e in omega (arith, less));
    below = tie.below;
    long = length-one_more site.bound (t.Known w) ∙ ap suc tie.long;
    bound = λ k. one_more ts sc site (t.Known w) tie refl k;
    node = λ k is. get_kept ts.bound (over ∷ []) k simple.Node (tie.node k is);
    formals = tie.formals;
    nodes = tie.nodes;
  }

  indices_lifted : (frame : ℕ) (is : List Index) (bs : List (Option Binder)) → IndexTies v F is bs → IndexTies v F (map (lifted_index frame) is) bs
  indices_lifted frame [] [] a = tt
  indices_lifted frame [] (b ∷ bs) a = absurd a
  indices_lifted frame (i ∷ is) [] a = absurd a
  indices_lifted frame (Axis m e ∷ is) (b ∷ bs) (one, a) = (one, indices_lifted frame is bs a)
  indices_lifted frame (Among ws e ∷ is) (b ∷ bs) (one, a) = (one, indices_lifted frame is bs a)

  pub gifts_lifted : (frame : ℕ) (gs : List Gift) (ss : List Stand) → GiftTies gs ss → GiftTies (map (lifted_given frame) gs) ss
  gifts_lifted frame [] [] a = tt
  gifts_lifted frame [] (s ∷ ss) a = absurd a
  gifts_lifted frame (g ∷ gs) [] a = absurd a
  gifts_lifted frame (Filled m plain shown ∷ gs) (ForValue b ∷ ss) (one, a) = (one, gifts_lifted frame gs ss a)
  gifts_lifted frame (Filled m plain shown ∷ gs) (ForPlace shape ∷ ss) (one, a) = absurd one
  gifts_lifted frame (Standing spot ∷ gs) (ForValue b ∷ ss) (one, a) = absurd one
  gifts_lifted frame (Standing spot ∷ gs) (ForPlace shape ∷ ss) (one, a) = ((one.0, (one.1.0, indices_lifted frame spot.at (marks shape.parts) one.1.1)), gifts_lifted frame gs ss a)

  pub tie_node : (ts : Typing) (sc : Scope) (site : Site) (over : Simple) → Tie ts sc site → Tie (typing_inside ts over) (binding sc) (with_variable site)
  tie_node ts sc site over tie = record {
    depth = tie.depth;
    near = tie.near;
    before = λ e. (let less : v.number < sc.bound = tie.before e in omega (arith, less));
    below = let less : F < site.frame = tie.below in omega (arith, less);
    long = length-one_more site.bound (t.Var site.frame) ∙ ap suc tie.long;
    bound = λ k. one_more ts sc site (t.Var site.frame) tie (let less : F < site.frame = tie.below in grind (arith, less)) k;
    node = λ k is. get_kept ts.bound (over ∷ []) k simple.Node (tie.node k is);
    formals = gifts_lifted site.frame site.formals sc.stands tie.formals;
    nodes = tie.nodes;
  }

  -- Places

  gift_mark : (gs : List Gift) (ss : List Stand) (k : ℕ) → GiftTies gs ss → MarkIs v F (formal_mark (slice_get gs k)) (stand_mark (slice_get ss k))
  gift_mark [] [] k a = refl
  gift_mark [] (s ∷ ss) k a = absurd a
  gift_mark (g ∷ gs) [] k a = absurd a
  gift_mark (Filled m plain shown ∷ gs) (ForValue b ∷ ss) zero (one, a) = one
  gift_mark (Filled m plain shown ∷ gs) (ForPlace shape ∷ ss) zero (one, a) = absurd one
  gift_mark (Standing spot ∷ gs) (ForValue b ∷ ss) zero (one, a) = absurd one
  gift_mark (Standing spot ∷ gs) (ForPlace shape ∷ ss) zero (one, a) = refl
  gift_mark (g ∷ gs) (s ∷ ss) (suc k) (one, a) = gift_mark gs ss k a

  gift_place : (other : Spot) (owner : Owner) (gs : List Gift) (ss : List Stand) (k : ℕ) → PlaceTie v F other (whole_shape owner) → GiftTies gs ss → PlaceTie v F (stood_for other (slice_get gs k)) (placed_shape owner (slice_get ss k))
  gift_place other owner [] [] k own a = own
  gift_place other owner [] (s ∷ ss) k own a = absurd a
  gift_place other owner (g ∷ gs) [] k own a = absurd a
  gift_place other owner (Filled m plain shown ∷ gs) (ForValue b ∷ ss) zero own (one, a) = own
  gift_place other owner (Filled m plain shown ∷ gs) (ForPlace shape ∷ ss) zero own (one, a) = absurd one
  gift_place other owner (Standing spot ∷ gs) (ForValue b ∷ ss) zero own (one, a) = absurd one
  gift_place other owner (Standing spot ∷ gs) (ForPlace shape ∷ ss) zero own (one, a) = one
  gift_place other owner (g ∷ gs) (s ∷ ss) (suc k) own (one, a) = gift_place other owner gs ss k own a

  module _ (ts : Typing) (sc : Scope) (site : Site) (tie : Tie ts sc site) where
    root_tie : (r : Root) → PlaceTie v F (root_spot site r) (root_shape sc r)
    root_tie (root.Global k) = (refl, (refl, tt))
    root_tie (root.Local k) = (ap (λ n. Local n k) tie.depth, (refl, tt))
    root_tie (root.Formal k) = (ap (λ n. Formal n k) tie.depth, (refl, tt))
    root_tie (root.Place k) = gift_place (whole_spot site (root.Place k)) (Formal sc.depth k) site.formals sc.stands k (ap (λ n. Formal n k) tie.depth, (refl, tt)) tie.formals

    whole_mark : {n : _} (selectors : Row_of-Selector n) (m : Option ℕ) (b : Option Binder) → MarkIs v F m b → MarkIs v F (mark_if_whole m selectors) (unselected selectors b)
    whole_mark end_of-Selector m b is = is
    whole_mark (more_of-Selector first rest) m b is = refl

    root_marks : (r : Root) → MarkIs v F (root_mark site r) (scope_root_mark sc r)
    root_marks (root.Global k) = refl
    root_marks (root.Local k) = refl
    root_marks (root.Formal k) = gift_mark site.formals sc.stands k tie.formals
    root_marks (root.Place k) = refl

    place_marks : (place : Designator) → MarkIs v F (place_mark site place) (scope_place_mark sc place)
    place_marks (d.Of' r _ selectors at) = whole_mark selectors (root_mark site r) (scope_root_mark sc r) (root_marks r)

    pub expr_marks : (e : Expr) → MarkIs v F (mark_of site e) (mark sc e)
    expr_marks (x.Bound k) = tie.bound k
    expr_marks (x.Read place) = place_marks place
    expr_marks e = refl

    whole_node : {n : _} (r : Root) (selectors : Row_of-Selector n) → is_it v (unselected selectors (scope_root_mark sc r)) ≡ true → selected_type ts (root_type ts r) selectors ≡ Some (type.Simple simple.Node)
    unfolding type_of
    whole_node (root.Formal k) end_of-Selector is = tie.nodes k is
    whole_node (root.Global k) end_of-Selector is = absurd_false is
    whole_node (root.Local k) end_of-Selector is = absurd_false is
    whole_node (root.Place k) end_of-Selector is = absurd_false is
    whole_node r (more_of-Selector first rest) is = absurd_false is

    place_node : (place : Designator) → is_it v (scope_place_mark sc place) ≡ true → place_type ts place ≡ Some (type.Simple simple.Node)
    unfolding type_of
    place_node (d.Of' r _ selectors at) is = whole_node r selectors is

    -- what is the variable has the type of nodes
    pub expr_node : (e : Expr) → is_it v (mark sc e) ≡ true → type_of ts e ≡ Some simple.Node
    unfolding type_of
    expr_node (x.Bound k) is = ap (option_map widened) (tie.node k is)
    expr_node (x.Read place) is = ap (λ o. option_map widened (simple_part o)) (place_node place is)
    expr_node e is = absurd_false is

    index_tie : (over : Simple) (index : Expr) (e : Term) (is : List Index) (bs : List (Option Binder)) → is_of over (type_of ts index) ≡ true → IndexTies v F is bs → IndexTies v F (index_over over (mark_of site index) e ∷ is) (mark sc index ∷ bs)
    index_tie over index e is bs fits rest = go (is_over_nodes over) refl
      where
        no_mark : (b : Bool) → is_it v (mark sc index) ≡ b → is_over_nodes over ≡ false → b ≡ false
        no_mark false was not_nodes = refl
        no_mark true was not_nodes = sym (node_index over (sym (ap (is_of over) (expr_node index was)) ∙ fits)) ∙ not_nodes

        go : (b : Bool) → is_over_nodes over ≡ b → IndexTies v F ((if b then Axis (mark_of site index) e else Among (fixed_values over) e) ∷ is) (mark sc index ∷ bs)
        go true was = (expr_marks index, rest)
        go false was = (no_mark (is_it v (mark sc index)) refl was, rest)

    pub indices_tie : {n : _} (tcalls : TermCalls) (T : Terms) (selectors : Row_of-Selector n) (o : Option AnyType) → is_some (selected_type ts o selectors) ≡ true → IndexTies v F (indices_of tcalls site T selectors).indices (marks (row_parts sc selectors))
    unfolding type_of valued_of
    indices_tie tcalls T end_of-Selector o typed = tt
    indices_tie tcalls T (more_of-Selector (select.Field name) rest) o typed = indices_tie tcalls T rest (field_part o name) typed
    indices_tie tcalls T (more_of-Selector (select.Index over index) rest) o typed =
        let (fits, more) = only_is (is_of over (type_of ts index)) (item_part o over) (λ p. is_some (selected_type ts p rest)) (selected_none ts rest) typed in
        index_tie over index (valued_of tcalls site T index).term (indices_of tcalls site T rest).indices (marks (row_parts sc rest)) fits (indices_tie tcalls T rest (item_part o over) more)

    pub place_tie : (tcalls : TermCalls) (T : Terms) (place : Designator) → is_some (place_type ts place) ≡ true → PlaceTie v F (placed_of tcalls site T place).spot (shape_of sc place)
    unfolding type_of valued_of
    place_tie tcalls T (d.Of' r _ selectors at) typed =
        let base = root_tie r in (
          base.0,
          (
            ap (λ q. q ++ row_path selectors) base.1.0 ∙ ap (λ q. fields (root_shape sc r).parts ++ q) (row_fields sc selectors) ∙ sym (fields_joined (root_shape sc r).parts (row_parts sc selectors)),
            subst (λ bs. IndexTies v F ((root_spot site r).at ++ (indices_of tcalls site T selectors).indices) bs) (sym (marks_joined (root_shape sc r).parts (row_parts sc selectors)))
                (index_joined v F (root_spot site r).at (indices_of tcalls site T selectors).indices (marks (root_shape sc r).parts) (marks (row_parts sc selectors)) base.1.1 (indices_tie tcalls T selectors (root_type ts r) typed)),
          ),
        )

    -- Arguments

    given_some : (f : Option DeclaredFormal) (o : Option AnyType) → given_place f o ≡ true → is_some o ≡ true
    given_some None o e = absurd_false e
    given_some (Some f) None e = absurd_false (sym (and_false f.by_place) ∙ e)
      where
        and_false : (b : Bool) → (b && false) ≡ false
        and_false true = refl
        and_false false = refl
    given_some (Some f) (Some U) e = refl

    row_tie : {n : _} (tcalls : TermCalls) (T : Terms) (formals : List DeclaredFormal) (args : Row_of-Argument n) → row_fits ts formals args ≡ true → GiftTies (row_argued tcalls site T args).given (row_stands sc args)
    unfolding type_of valued_of
    row_tie tcalls T formals end_of-Argument fits = tt
    row_tie tcalls T formals (more_of-Argument (argument.Copy place) rest) fits =
        let (one, more) = and_parts (argument_fits ts (first_of formals) (argument.Copy place)) (row_fits ts (rest_of formals) rest) fits in
        (place_marks place, row_tie tcalls T (rest_of formals) rest more)
    row_tie tcalls T formals (more_of-Argument (argument.CopyAll place) rest) fits =
        let (one, more) = and_parts (argument_fits ts (first_of formals) (argument.CopyAll place)) (row_fits ts (rest_of formals) rest) fits in
        (refl, row_tie tcalls T (rest_of formals) rest more)
    row_tie tcalls T formals (more_of-Argument (argument.Value body) rest) fits =
        let (one, more) = and_parts (argument_fits ts (first_of formals) (argument.Value body)) (row_fits ts (rest_of formals) rest) fits in
        (expr_marks body, row_tie tcalls T (rest_of formals) rest more)
    row_tie tcalls T formals (more_of-Argument (argument.Place place) rest) fits =
        let (one, more) = and_parts (may_write ts (root_of place) && given_place (first_of formals) (place_type ts place)) (row_fits ts (rest_of formals) rest) fits in
        let (may, given) = and_parts (may_write ts (root_of place)) (given_place (first_of formals) (place_type ts place)) one in
        (place_tie tcalls T place (given_some (first_of formals) (place_type ts place) given), row_tie tcalls T (rest_of formals) rest more)

    pub arguments_tie : (tcalls : TermCalls) (T : Terms) (formals : List DeclaredFormal) (args : Arguments) → arguments_fit ts formals args ≡ true → GiftTies (argued_of tcalls site T args).given (stands_of sc args)
    unfolding type_of valued_of
    arguments_tie tcalls T formals (a.Of' _ args) fits = row_tie tcalls T formals args fits

    -- a formal that stands for the variable has the type of nodes
    value_node : (f : Option DeclaredFormal) (o : Option Simple) → given_value f o ≡ true → o ≡ Some simple.Node → formal_type false f ≡ Some (type.Simple simple.Node)
    value_node None o e is = absurd_false e
    value_node (Some f) o e is = go f.by_place (simple_part (Some f.of)) refl e
      where
        simple_is : (U : AnyType) (u : Simple) → simple_part (Some U) ≡ Some u → U ≡ type.Simple u
        simple_is (type.Simple w) u e = ap type.Simple (some_one e)
        simple_is U u e = not_some e

        go : (b : Bool) (p : Option Simple) → simple_part (Some f.of) ≡ p → (not b && option_map_or (λ u. is_of u o) p false) ≡ true → (if b then None else Some f.of) ≡ Some (type.Simple simple.Node)
        go true p was e = absurd_false e
        go false None was e = absurd_false e
        go false (Some u) was e = ap Some (simple_is f.of u was ∙ ap type.Simple (node_only u (sym (ap (is_of u) is) ∙ e)))

    first_formal : (formals : List DeclaredFormal) (k : ℕ) → slice_get (rest_of formals) k ≡ slice_get formals (suc k)
    first_formal [] k = refl
    first_formal (f ∷ fs) k = refl

    head_formal : (formals : List DeclaredFormal) → first_of formals ≡ slice_get formals 0
    head_formal [] = refl
    head_formal (f ∷ fs) = refl

    row_nodes : {n : _} (formals : List DeclaredFormal) (args : Row_of-Argument n) → row_fits ts formals args ≡ true → (k : ℕ) → is_it v (stand_mark (slice_get (row_stands sc args) k)) ≡ true → formal_type false (slice_get formals k) ≡ Some (type.Simple simple.Node)
    unfolding type_of
    row_nodes formals end_of-Argument fits k is = absurd_false is
    row_nodes formals (more_of-Argument first rest) fits (suc k) is =
        let (one, more) = and_parts (argument_fits ts (first_of formals) first) (row_fits ts (rest_of formals) rest) fits in
        ap (formal_type false) (sym (first_formal formals k)) ∙ row_nodes (rest_of formals) rest more k is
    row_nodes formals (more_of-Argument (argument.Copy place) rest) fits zero is =
        let (one, more) = and_parts (argument_fits ts (first_of formals) (argument.Copy place)) (row_fits ts (rest_of formals) rest) fits in
        ap (formal_type false) (sym (head_formal formals)) ∙ value_node (first_of formals) _ one (ap (λ o. option_map widened (simple_part o)) (place_node place is))
    row_nodes formals (more_of-Argument (argument.CopyAll place) rest) fits zero is = absurd_false is
    row_nodes formals (more_of-Argument (argument.Value body) rest) fits zero is =
        let (one, more) = and_parts (argument_fits ts (first_of formals) (argument.Value body)) (row_fits ts (rest_of formals) rest) fits in
        ap (formal_type false) (sym (head_formal formals)) ∙ value_node (first_of formals) _ one (expr_node body is)
    row_nodes formals (more_of-Argument (argument.Place place) rest) fits zero is = absurd_false is

    pub argument_nodes : (formals : List DeclaredFormal) (args : Arguments) → arguments_fit ts formals args ≡ true → (k : ℕ) → is_it v (stand_mark (slice_get (stands_of sc args) k)) ≡ true → formal_type false (slice_get formals k) ≡ Some (type.Simple simple.Node)
    unfolding type_of
    argument_nodes formals (a.Of' _ args) fits k is = row_nodes formals args fits k is
