-- Expressions that read only what the turn of a node may read have the same value in cells that agree on it.
use Rattle.std.proofs.Common.{◌≡◌, ℕ, zero, suc, ◌≤◌, Bool, true, false, not, ◌&&◌, ◌||◌, List, [], ◌∷◌, ◌++◌, Option, None, Some, refl, sym, ap, ◌∙◌, subst, append-nil}
use Rattle.std.specs.Prelude.{slice_get, if◌then◌else◌, pos}
use Rattle.std.proofs.Math.Path.{fun_ext}
use Rattle.term_core.specs.declared.value.Value.{Value}
use Rattle.term_core.specs.declared.value.Value.TheVariants as value
use Rattle.term_core.specs.declared.value.ArithOp.TheVariants as operation
use Rattle.term_core.specs.Values.{truth, same_value}
use Rattle.murphi_ast.specs.declared.token.Span.{Span}
use Rattle.murphi_ast.specs.declared.expr.ChainOp.{ChainOp}
use Rattle.murphi_typed.specs.declared.expr.Root.{Root}
use Rattle.murphi_typed.specs.declared.expr.Root.TheVariants as root
use Rattle.murphi_typed.specs.declared.expr.Expr as x
use Rattle.murphi_typed.specs.declared.expr.Expr.{Expr, end_of-Expr, more_of-Expr, Row_of-Link, end_of-Link, more_of-Link}
use Rattle.murphi_typed.specs.declared.expr.Designator as d
use Rattle.murphi_typed.specs.declared.expr.Designator.{Designator, Row_of-Selector, end_of-Selector, more_of-Selector}
use Rattle.murphi_typed.specs.declared.expr.Selector as select
use Rattle.murphi_typed.specs.declared.expr.Arguments as a
use Rattle.murphi_typed.specs.declared.expr.Arguments.{Arguments, Row_of-Argument, end_of-Argument, more_of-Argument}
use Rattle.murphi_typed.specs.declared.expr.Argument as argument
use Rattle.murphi_typed.specs.Forms.{NotForm, MinusForm, CompareForm, ImpliesForm, ChoiceForm, QuantifiedForm}
use Rattle.murphi_typed.specs.Values.{is_value, values}
use Rattle.murphi_typed.specs.Families.{Path}
use Rattle.murphi_typed.specs.Store.{Formal, Place, Cells, cell_at, contents_at, only}
use Rattle.murphi_typed.specs.Outcome.{Outcome, Got, Fault, given, or_fault}
use Rattle.murphi_typed.specs.Expressions.{Given, Filled, Standing, Scene, Left, Calls, as_truth, calculated, joined, compared, defined, over_all, with_bound, root_place, under, row_path, fitting, value_of, chain_value, place_of, indices_of, arguments_of, row_arguments, argument_of}
use Rattle.scalarset_rules.specs.Accesses.{Binder, Stand, Valued, Placed, Scope, binding, called, root_mark, unselected, place_mark, mark, root_shape, shape_of, row_parts, under as shape_under, argument_stand, row_stands, stands_of, Access, accessed, Opened, reads, chain_reads, index_reads, row_reads, argument_reads, row_argument_reads, one_argument_reads}
use Rattle.scalarset_rules.specs.Rules.{marks, is_it, is_deeper}
use Rattle.scalarset_rules.specs.Turns.{fields, is_front}
use Rattle.scalarset_rules.proofs.Sameness.{both, false-true, got_same, fault_got, name_itself, given_same, given_got}
use Rattle.scalarset_rules.proofs.Keeping.{Places, fine_at, Good, AllGood, good_front, good_back, good_called, is_shared, readable, Agree, Kept, Marked, has_node, Fits, IsAt, root_at, selected_at}

pub front_joined : (xs ys : Path) → is_front xs (xs ++ ys) ≡ true
front_joined [] ys = refl
front_joined (x ∷ xs) ys = ap (λ b. b && is_front xs (xs ++ ys)) (name_itself x) ∙ front_joined xs ys

-- what is given to a formal is what it stands for
abbrev pub GivenStand : Binder → ℕ → ℕ → Stand → Given → Type 0
GivenStand v n depth (Valued m) (Filled contents) = is_it v m ≡ true → contents [] [] ≡ value.Node n
GivenStand v n depth (Placed shape) (Standing place) = IsAt v n depth shape place
GivenStand v n depth (Valued m) (Standing place) = ⊥
GivenStand v n depth (Placed shape) (Filled contents) = ⊥

abbrev pub AreGiven : Binder → ℕ → ℕ → List Stand → List Given → Type 0
AreGiven v n depth [] [] = Unit {0}
AreGiven v n depth (s ∷ ss) (g ∷ gs) = GivenStand v n depth s g × AreGiven v n depth ss gs
AreGiven v n depth [] (g ∷ gs) = ⊥
AreGiven v n depth (s ∷ ss) [] = ⊥

-- two calls end alike: they fault at one place, or have one result, and leave cells that agree
abbrev pub LeftAlike : Binder → Places → ℕ → ℕ → Cells → Outcome Left → Outcome Left → Type 0
LeftAlike v keep n depth c (Fault at) (Fault other) = at ≡ other
LeftAlike v keep n depth c (Got l) (Got m) = (l.result ≡ m.result) × (Agree v keep n depth l.cells m.cells × Kept v keep n depth c l.cells)
LeftAlike v keep n depth c (Fault at) (Got m) = ⊥
LeftAlike v keep n depth c (Got l) (Fault at) = ⊥

abbrev pub CallsAlike : Binder → Places → ℕ → Calls → Opened → Type 0
CallsAlike v keep n calls opened =
    (k : ℕ) (scope : Scope) (stands : List Stand) (scene : Scene) (at : Span) (gs : List Given) (c d : Cells)
    → scene.depth ≡ scope.depth → v.depth ≤ scope.depth → AreGiven v n scope.depth stands gs
    → AllGood v keep (opened k (called scope stands)) → Agree v keep n scope.depth c d
    → LeftAlike v keep n scope.depth c (calls k scene at gs c) (calls k scene at gs d)

-- a read of what the loop does not write, or of an own cell
shared_here : (v : Binder) (n : ℕ) (o : Option ℕ) (ms : List (Option Binder)) (xs more : List Value) → fine_at false v o ms ≡ true → Marked v n ms xs → is_shared n o (xs ++ more) ≡ true
shared_here v n None ms xs more e a = refl
shared_here v n (Some k) ms xs more e a = has_node v n k ms xs more a e

or_free : (b c : Bool) → (b ≡ false → c ≡ true) → (b || c) ≡ true
or_free true c e = refl
or_free false c e = e refl

pub reading : (write : Bool) (scope : Scope) (place : Designator) → (accessed write scope place).write ≡ write
reading write scope (d.Of' r _ selectors from) = refl

pub accessed_at : (v : Binder) (n : ℕ) (write : Bool) (scope : Scope) (place : Designator) (p : Place) → IsAt v n scope.depth (shape_of scope place) p → IsAt v n scope.depth (accessed write scope place).shape p
accessed_at v n write scope (d.Of' r _ selectors from) p at = at

module _ (v : Binder) (keep : Places) (n : ℕ) where
  pub readable_at : (depth : ℕ) (a : Access) (p : Place) → Good v keep a → a.write ≡ false → IsAt v n depth a.shape p → (path : Path) (at : List Value) → readable v keep n p.owner (p.path ++ path) (p.at ++ at) ≡ true
  readable_at depth a p good reading at path more =
      or_free (is_deeper v.depth p.owner) (is_shared n (keep p.owner (p.path ++ path)) (p.at ++ more)) (λ near.
      let near' : is_deeper v.depth a.shape.owner ≡ false = sym (ap (is_deeper v.depth) at.owner) ∙ near in
      let front : is_front (fields a.shape.parts) (p.path ++ path) ≡ true = sym (ap (λ f. is_front f (p.path ++ path)) at.path) ∙ front_joined p.path path in
      let fine : fine_at a.write v (keep a.shape.owner (p.path ++ path)) (marks a.shape.parts) ≡ true = good.keeps (p.path ++ path) near' front in
      shared_here v n (keep p.owner (p.path ++ path)) (marks a.shape.parts) p.at more
      (ap (λ o. fine_at false v (keep o (p.path ++ path)) (marks a.shape.parts)) at.owner
      ∙ sym (ap (λ w. fine_at w v (keep a.shape.owner (p.path ++ path)) (marks a.shape.parts)) reading) ∙ fine) at.marked)

  -- the cells under a place that is read
  pub contents_same : (depth : ℕ) (c d : Cells) (a : Access) (p : Place) → Agree v keep n depth c d → Good v keep a → a.write ≡ false → IsAt v n depth a.shape p → contents_at c p ≡ contents_at d p
  contents_same depth c d a p agree good reading at =
      fun_ext (λ path. fun_ext (λ more.
      agree p.owner (p.path ++ path) (p.at ++ more) (ap (is_deeper depth) at.owner ∙ at.near)
      (readable_at depth a p good reading at path more)))

  pub cell_same : (depth : ℕ) (c d : Cells) (a : Access) (p : Place) → Agree v keep n depth c d → Good v keep a → a.write ≡ false → IsAt v n depth a.shape p → cell_at c p ≡ cell_at d p
  cell_same depth c d a p agree good reading at =
      sym (both (c p.owner) (append-nil p.path) (append-nil p.at))
      ∙ ap (λ f. f [] []) (contents_same depth c d a p agree good reading at)
      ∙ both (d p.owner) (append-nil p.path) (append-nil p.at)

  module _ (calls : Calls) (opened : Opened) (alike : CallsAlike v keep n calls opened) where
    -- a designator that is a formal by value, and the mark of it is the variable: its cell is the node
    selected_mark : {l : _} (scope : Scope) (scene : Scene) (at : Span) (c : Cells) (r : Root) (selectors : Row_of-Selector l) (p : Place) → Fits v n scope scene c → is_it v (unselected selectors (root_mark scope r)) ≡ true → given (or_fault at (root_place scene r)) (λ q. given (indices_of calls scene at c selectors) (λ indices. Got (under q (row_path selectors) indices))) ≡ Got p → cell_at c p ≡ value.Node n
    unfolding value_of
    selected_mark scope scene at c (root.Formal k) end_of-Selector p fit is e =
        ap (cell_at c) (sym (got_same e)) ∙ (ap (λ depth. c (Formal depth k) [] []) fit.depth ∙ fit.formals k is)
    selected_mark scope scene at c (root.Global k) end_of-Selector p fit is e = false-true is
    selected_mark scope scene at c (root.Local k) end_of-Selector p fit is e = false-true is
    selected_mark scope scene at c (root.Place k) end_of-Selector p fit is e = false-true is
    selected_mark scope scene at c r (more_of-Selector first rest) p fit is e = false-true is

    pub place_mark_cell : (scope : Scope) (scene : Scene) (at : Span) (c : Cells) (place : Designator) (p : Place) → Fits v n scope scene c → is_it v (place_mark scope place) ≡ true → place_of calls scene at c place ≡ Got p → cell_at c p ≡ value.Node n
    unfolding value_of
    place_mark_cell scope scene at c (d.Of' r _ selectors from) p fit is e = selected_mark scope scene at c r selectors p fit is e

    -- the value of an index whose mark is the variable
    pub mark_value : (scope : Scope) (scene : Scene) (at : Span) (c : Cells) (e : Expr) (w : Value) → Fits v n scope scene c → is_it v (mark scope e) ≡ true → value_of calls scene at c e ≡ Got w → w ≡ value.Node n
    unfolding value_of
    mark_value scope scene at c (x.Bound k) w fit is e = sym (got_same (sym (ap (or_fault at) (fit.bound k is)) ∙ e))
    mark_value scope scene at c (x.Read place) w fit is e =
        let (p, e1) = given_got (place_of calls scene at c place) (λ p. defined at (cell_at c p)) w e in
        sym (got_same (sym (ap (defined at) (place_mark_cell scope scene at c place p fit is e1.0)) ∙ e1.1))
    mark_value scope scene at c (x.Known u) w fit is e = false-true is
    mark_value scope scene at c (x.Call k args from) w fit is e = false-true is
    mark_value scope scene at c (NotForm body) w fit is e = false-true is
    mark_value scope scene at c (MinusForm body) w fit is e = false-true is
    mark_value scope scene at c (x.Chain' _ (more_of-Expr first end_of-Expr) _ rest) w fit is e = false-true is
    mark_value scope scene at c (CompareForm op left right) w fit is e = false-true is
    mark_value scope scene at c (ImpliesForm left right) w fit is e = false-true is
    mark_value scope scene at c (ChoiceForm test yes_ no_) w fit is e = false-true is
    mark_value scope scene at c (QuantifiedForm all over body) w fit is e = false-true is
    mark_value scope scene at c (x.IsUndefined place) w fit is e = false-true is

    fitted : (b : Bool) (at : Span) (u w : Value) → fitting b at u ≡ Got w → u ≡ w
    fitted true at u w e = got_same e
    fitted false at u w e = fault_got e

    pub indices_marked : {l : _} (scope : Scope) (scene : Scene) (at : Span) (c : Cells) (selectors : Row_of-Selector l) (vs : List Value) → Fits v n scope scene c → indices_of calls scene at c selectors ≡ Got vs → Marked v n (marks (row_parts scope selectors)) vs
    unfolding value_of
    indices_marked scope scene at c end_of-Selector vs fit e = subst (Marked v n []) (got_same e) tt
    indices_marked scope scene at c (more_of-Selector (select.Field name) rest) vs fit e = indices_marked scope scene at c rest vs fit e
    indices_marked scope scene at c (more_of-Selector (select.Index over index) rest) vs fit e =
        let (u, e1) = given_got (value_of calls scene at c index) (λ v. given (fitting (is_value scene.nodes over v) at v) (λ v. given (indices_of calls scene at c rest) (λ vs. Got (v ∷ vs)))) vs e in
        let (w, e2) = given_got (fitting (is_value scene.nodes over u) at u) (λ v. given (indices_of calls scene at c rest) (λ vs. Got (v ∷ vs))) vs e1.1 in
        let (ws, e3) = given_got (indices_of calls scene at c rest) (λ vs. Got (w ∷ vs)) vs e2.1 in
        subst (Marked v n (mark scope index ∷ marks (row_parts scope rest))) (got_same {a = w ∷ ws} e3.1) (
          (λ is. sym (fitted (is_value scene.nodes over u) at u w e2.0) ∙ mark_value scope scene at c index u fit is e1.0),
          indices_marked scope scene at c rest ws fit e3.0,
        )

    -- the place of a designator is that of its shape
    pub place_at : (scope : Scope) (scene : Scene) (at : Span) (c : Cells) (place : Designator) (p : Place) → Fits v n scope scene c → place_of calls scene at c place ≡ Got p → IsAt v n scope.depth (shape_of scope place) p
    unfolding value_of
    place_at scope scene at c (d.Of' r _ selectors from) p fit e =
        let (q, e1) = given_got (or_fault at (root_place scene r)) (λ p. given (indices_of calls scene at c selectors) (λ indices. Got (under p (row_path selectors) indices))) p e in
        let (vs, e2) = given_got (indices_of calls scene at c selectors) (λ indices. Got (under q (row_path selectors) indices)) p e1.1 in
        subst (IsAt v n scope.depth (shape_under (root_shape scope r) (row_parts scope selectors))) (got_same e2.1)
        (selected_at v n scope (root_shape scope r) q selectors vs (root_at v n scope scene c r q fit (found (root_place scene r) q e1.0)) (indices_marked scope scene at c selectors vs fit e2.0))
      where
        found : (o : Option Place) (q : Place) → or_fault at o ≡ Got q → o ≡ Some q
        found None q e = fault_got e
        found (Some p) q e = ap Some (got_same e)

    -- what a call gives is what the formals stand for
    argument_given : (scope : Scope) (scene : Scene) (at : Span) (c : Cells) (arg : argument.Argument) (g : Given) → Fits v n scope scene c → argument_of calls scene at c arg ≡ Got g → GivenStand v n scope.depth (argument_stand scope arg) g
    unfolding value_of
    argument_given scope scene at c (argument.Copy place) g fit e =
        let (p, e1) = given_got (place_of calls scene at c place) (λ p. Got (Filled (only (cell_at c p)))) g e in
        subst (GivenStand v n scope.depth (Valued (place_mark scope place))) (got_same e1.1) (λ is. place_mark_cell scope scene at c place p fit is e1.0)
    argument_given scope scene at c (argument.CopyAll place) g fit e =
        let (p, e1) = given_got (place_of calls scene at c place) (λ p. Got (Filled (contents_at c p))) g e in
        subst (GivenStand v n scope.depth (Valued None)) (got_same e1.1) (λ is. false-true is)
    argument_given scope scene at c (argument.Value body) g fit e =
        let (w, e1) = given_got (value_of calls scene at c body) (λ w. Got (Filled (only w))) g e in
        subst (GivenStand v n scope.depth (Valued (mark scope body))) (got_same e1.1) (λ is. mark_value scope scene at c body w fit is e1.0)
    argument_given scope scene at c (argument.Place place) g fit e =
        let (p, e1) = given_got (place_of calls scene at c place) (λ p. Got (Standing p)) g e in
        subst (GivenStand v n scope.depth (Placed (shape_of scope place))) (got_same e1.1) (place_at scope scene at c place p fit e1.0)

    row_given : {l : _} (scope : Scope) (scene : Scene) (at : Span) (c : Cells) (args : Row_of-Argument l) (gs : List Given) → Fits v n scope scene c → row_arguments calls scene at c args ≡ Got gs → AreGiven v n scope.depth (row_stands scope args) gs
    unfolding value_of
    row_given scope scene at c end_of-Argument gs fit e = subst (AreGiven v n scope.depth []) (got_same e) tt
    row_given scope scene at c (more_of-Argument first rest) gs fit e =
        let (g, e1) = given_got (argument_of calls scene at c first) (λ g. given (row_arguments calls scene at c rest) (λ gs. Got (g ∷ gs))) gs e in
        let (hs, e2) = given_got (row_arguments calls scene at c rest) (λ gs. Got (g ∷ gs)) gs e1.1 in
        subst (AreGiven v n scope.depth (argument_stand scope first ∷ row_stands scope rest)) (got_same e2.1)
        (argument_given scope scene at c first g fit e1.0, row_given scope scene at c rest hs fit e2.0)

    pub arguments_given : (scope : Scope) (scene : Scene) (at : Span) (c : Cells) (args : Arguments) (gs : List Given) → Fits v n scope scene c → arguments_of calls scene at c args ≡ Got gs → AreGiven v n scope.depth (stands_of scope args) gs
    unfolding value_of
    arguments_given scope scene at c (a.Of' _ args) gs fit e = row_given scope scene at c args gs fit e

    -- values are the same

    all_same : (all : Bool) (f g : Value → Outcome Value) (vs : List Value) → ((w : Value) → f w ≡ g w) → over_all all f vs ≡ over_all all g vs
    all_same all f g [] same = refl
    all_same all f g (w ∷ ws) same =
        given_same (f w) (g w) _ _ (same w) (λ first is. given_same (over_all all f ws) (over_all all g ws) _ _ (all_same all f g ws same) (λ rest was. refl))

    called_result : (depth : ℕ) (c : Cells) (at : Span) (o p : Outcome Left) → LeftAlike v keep n depth c o p → given o (λ left. or_fault at left.result) ≡ given p (λ left. or_fault at left.result)
    called_result depth c at (Fault from) (Fault other) e = ap Fault e
    called_result depth c at (Got l) (Got m) (e, rest) = ap (or_fault at) e
    called_result depth c at (Fault from) (Got m) e = absurd e
    called_result depth c at (Got l) (Fault from) e = absurd e

    if_same : {A : Type 0} (b : Bool) (o o' p p' : A) → o ≡ o' → p ≡ p' → (if b then o else p) ≡ (if b then o' else p')
    if_same true o o' p p' e f = e
    if_same false o o' p p' e f = f

    joined_same : (at : Span) (op : ChainOp) (left : Value) (o p : Outcome Value) → o ≡ p → joined at op left o ≡ joined at op left p
    joined_same at op left o p e = ap (joined at op left) e

    -- inside a quantifier or a `for`
    pub bound_fits : (scope : Scope) (scene : Scene) (c : Cells) (w : Value) → Fits v n scope scene c → Fits v n (binding scope) (with_bound scene w) c
    bound_fits scope scene c w fit = record { depth = fit.depth; inside = fit.inside; bound = λ k is. further scene.bound k (fit.bound k is); formals = fit.formals; places = fit.places }
      where
        further : (bs : List Value) (k : ℕ) → slice_get bs k ≡ Some (value.Node n) → slice_get (bs ++ w ∷ []) k ≡ Some (value.Node n)
        further [] k e = cc
        further (b ∷ bs) zero e = e
        further (b ∷ bs) (suc k) e = further bs k e

    module _ (c b : Cells) where
      mutual
        unfolding value_of reads

        pub value_same : (scope : Scope) (scene : Scene) (at : Span) (e : Expr) → Fits v n scope scene c → Agree v keep n scope.depth c b → AllGood v keep (reads opened scope e) → value_of calls scene at c e ≡ value_of calls scene at b e
        value_same scope scene at (x.Known u) fit agree good = refl
        value_same scope scene at (x.Bound k) fit agree good = refl
        value_same scope scene at (x.Read place) fit agree good =
            given_same (place_of calls scene at c place) (place_of calls scene at b place) _ _ (place_same scope scene at place fit agree good.1)
            (λ p is. ap (defined at) (cell_same scope.depth c b (accessed false scope place) p agree good.0 (reading false scope place) (accessed_at v n false scope place p (place_at scope scene at c place p fit is))))
        value_same scope scene at (x.Call k args from) fit agree good =
            given_same (arguments_of calls scene at c args) (arguments_of calls scene at b args) _ _ (arguments_same scope scene at args fit agree (good_front v keep _ _ good))
            (λ gs is. called_result scope.depth c at (calls k scene at gs c) (calls k scene at gs b)
            (alike k scope (stands_of scope args) scene at gs c b fit.depth fit.inside (arguments_given scope scene at c args gs fit is)
            (good_called v keep from (opened k (called scope (stands_of scope args))) (good_back v keep (argument_reads opened scope args) _ good)) agree))
        value_same scope scene at (NotForm body) fit agree good =
            ap (λ o. given o (λ w. Got (value.Truth (not (truth w))))) (value_same scope scene at body fit agree good)
        value_same scope scene at (MinusForm body) fit agree good =
            ap (λ o. given o (calculated at operation.Subtract (value.Number (pos 0)))) (value_same scope scene at body fit agree good)
        value_same scope scene at (x.Chain' _ (more_of-Expr first end_of-Expr) _ rest) fit agree good =
            given_same (value_of calls scene at c first) (value_of calls scene at b first) _ _ (value_same scope scene at first fit agree (good_front v keep _ _ good))
            (λ w is. chain_same scope scene at w rest fit agree (good_back v keep (reads opened scope first) _ good))
        value_same scope scene at (CompareForm op left right) fit agree good =
            given_same (value_of calls scene at c left) (value_of calls scene at b left) _ _ (value_same scope scene at left fit agree (good_front v keep _ _ good))
            (λ w is. ap (λ o. given o (λ u. Got (value.Truth (compared op w u)))) (value_same scope scene at right fit agree (good_back v keep (reads opened scope left) _ good)))
        value_same scope scene at (ImpliesForm left right) fit agree good =
            given_same (value_of calls scene at c left) (value_of calls scene at b left) _ _ (value_same scope scene at left fit agree (good_front v keep _ _ good))
            (λ w is. if_same (truth w) _ _ _ _ (ap (λ o. given o (λ u. Got (as_truth u))) (value_same scope scene at right fit agree (good_back v keep (reads opened scope left) _ good))) refl)
        value_same scope scene at (ChoiceForm test first second) fit agree good =
            given_same (value_of calls scene at c test) (value_of calls scene at b test) _ _ (value_same scope scene at test fit agree (good_front v keep _ _ good))
            (λ w is. if_same (truth w) _ _ _ _
            (value_same scope scene at first fit agree (good_front v keep _ _ (good_back v keep (reads opened scope test) _ good)))
            (value_same scope scene at second fit agree (good_back v keep (reads opened scope first) _ (good_back v keep (reads opened scope test) _ good))))
        value_same scope scene at (QuantifiedForm all over body) fit agree good =
            ap (λ o. given o (λ w. Got (value.Truth w)))
            (all_same all (λ w. value_of calls (with_bound scene w) at c body) (λ w. value_of calls (with_bound scene w) at b body) (values scene.nodes over)
            (λ w. value_same (binding scope) (with_bound scene w) at body (bound_fits scope scene c w fit) agree good))
        value_same scope scene at (x.IsUndefined place) fit agree good =
            given_same (place_of calls scene at c place) (place_of calls scene at b place) _ _ (place_same scope scene at place fit agree good.1)
            (λ p is. ap (λ u. Got (value.Truth (same_value u value.Undefined))) (cell_same scope.depth c b (accessed false scope place) p agree good.0 (reading false scope place) (accessed_at v n false scope place p (place_at scope scene at c place p fit is))))

        pub chain_same : {l : _} (scope : Scope) (scene : Scene) (at : Span) (left : Value) (rest : Row_of-Link l) → Fits v n scope scene c → Agree v keep n scope.depth c b → AllGood v keep (chain_reads opened scope rest) → chain_value calls scene at c left rest ≡ chain_value calls scene at b left rest
        chain_same scope scene at left end_of-Link fit agree good = refl
        chain_same scope scene at left (more_of-Link op operand rest) fit agree good =
            given_same (joined at op left (value_of calls scene at c operand)) (joined at op left (value_of calls scene at b operand)) _ _
            (joined_same at op left _ _ (value_same scope scene at operand fit agree (good_front v keep _ _ good)))
            (λ w is. chain_same scope scene at w rest fit agree (good_back v keep (reads opened scope operand) _ good))

        pub place_same : (scope : Scope) (scene : Scene) (at : Span) (place : Designator) → Fits v n scope scene c → Agree v keep n scope.depth c b → AllGood v keep (index_reads opened scope place) → place_of calls scene at c place ≡ place_of calls scene at b place
        place_same scope scene at (d.Of' r _ selectors from) fit agree good =
            given_same (or_fault at (root_place scene r)) (or_fault at (root_place scene r)) _ _ refl
            (λ p is. ap (λ o. given o (λ indices. Got (under p (row_path selectors) indices))) (indices_same scope scene at selectors fit agree good))

        pub indices_same : {l : _} (scope : Scope) (scene : Scene) (at : Span) (selectors : Row_of-Selector l) → Fits v n scope scene c → Agree v keep n scope.depth c b → AllGood v keep (row_reads opened scope selectors) → indices_of calls scene at c selectors ≡ indices_of calls scene at b selectors
        indices_same scope scene at end_of-Selector fit agree good = refl
        indices_same scope scene at (more_of-Selector (select.Field name) rest) fit agree good = indices_same scope scene at rest fit agree good
        indices_same scope scene at (more_of-Selector (select.Index over index) rest) fit agree good =
            given_same (value_of calls scene at c index) (value_of calls scene at b index) _ _ (value_same scope scene at index fit agree (good_front v keep _ _ good))
            (λ w is. ap (λ o. given (fitting (is_value scene.nodes over w) at w) (λ u. given o (λ us. Got (u ∷ us)))) (indices_same scope scene at rest fit agree (good_back v keep (reads opened scope index) _ good)))

        pub arguments_same : (scope : Scope) (scene : Scene) (at : Span) (args : Arguments) → Fits v n scope scene c → Agree v keep n scope.depth c b → AllGood v keep (argument_reads opened scope args) → arguments_of calls scene at c args ≡ arguments_of calls scene at b args
        arguments_same scope scene at (a.Of' _ args) fit agree good = row_same scope scene at args fit agree good

        pub row_same : {l : _} (scope : Scope) (scene : Scene) (at : Span) (args : Row_of-Argument l) → Fits v n scope scene c → Agree v keep n scope.depth c b → AllGood v keep (row_argument_reads opened scope args) → row_arguments calls scene at c args ≡ row_arguments calls scene at b args
        row_same scope scene at end_of-Argument fit agree good = refl
        row_same scope scene at (more_of-Argument first rest) fit agree good =
            given_same (argument_of calls scene at c first) (argument_of calls scene at b first) _ _ (argument_same scope scene at first fit agree (good_front v keep _ _ good))
            (λ g is. ap (λ o. given o (λ gs. Got (g ∷ gs))) (row_same scope scene at rest fit agree (good_back v keep (one_argument_reads opened scope first) _ good)))

        pub argument_same : (scope : Scope) (scene : Scene) (at : Span) (arg : argument.Argument) → Fits v n scope scene c → Agree v keep n scope.depth c b → AllGood v keep (one_argument_reads opened scope arg) → argument_of calls scene at c arg ≡ argument_of calls scene at b arg
        argument_same scope scene at (argument.Copy place) fit agree good =
            given_same (place_of calls scene at c place) (place_of calls scene at b place) _ _ (place_same scope scene at place fit agree good.1)
            (λ p is. ap (λ w. Got (Filled (only w))) (cell_same scope.depth c b (accessed false scope place) p agree good.0 (reading false scope place) (accessed_at v n false scope place p (place_at scope scene at c place p fit is))))
        argument_same scope scene at (argument.CopyAll place) fit agree good =
            given_same (place_of calls scene at c place) (place_of calls scene at b place) _ _ (place_same scope scene at place fit agree good.1)
            (λ p is. ap (λ w. Got (Filled w)) (contents_same scope.depth c b (accessed false scope place) p agree good.0 (reading false scope place) (accessed_at v n false scope place p (place_at scope scene at c place p fit is))))
        argument_same scope scene at (argument.Value body) fit agree good =
            ap (λ o. given o (λ w. Got (Filled (only w)))) (value_same scope scene at body fit agree good)
        argument_same scope scene at (argument.Place place) fit agree good =
            ap (λ o. given o (λ p. Got (Standing p))) (place_same scope scene at place fit agree good)
