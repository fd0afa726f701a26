-- An expression has the same value in cells that agree on what it reads.
use Rattle.std.proofs.Common.{◌≡◌, ℕ, Bool, true, false, not, ◌&&◌, List, [], ◌∷◌, ◌++◌, Option, None, Some, refl, sym, ap, ◌∙◌, subst, append-nil}
use Rattle.std.specs.Prelude.{if◌then◌else◌, pos, nat_eq}
use Rattle.std.specs.Str.{bytes_eq}
use Rattle.std.proofs.Math.Path.{fun_ext}
use Rattle.std.proofs.lemmas.Bool.{and_from, eq-eqb}
use Rattle.term_core.specs.declared.value.Value.{Value}
use Rattle.term_core.specs.declared.value.Value.TheVariants as value
use Rattle.term_core.specs.declared.value.ArithOp.TheVariants as operation
use Rattle.term_core.specs.Values.{truth, same_value}
use Rattle.murphi_ast.specs.declared.token.Span.{Span}
use Rattle.murphi_ast.specs.declared.expr.ChainOp.{ChainOp}
use Rattle.murphi_typed.specs.declared.expr.Expr as x
use Rattle.murphi_typed.specs.declared.expr.Expr.{Expr, end_of-Expr, more_of-Expr, Row_of-Link, end_of-Link, more_of-Link}
use Rattle.murphi_typed.specs.declared.expr.Designator as d
use Rattle.murphi_typed.specs.declared.expr.Designator.{Designator, Row_of-Selector, end_of-Selector, more_of-Selector}
use Rattle.murphi_typed.specs.declared.expr.Selector as select
use Rattle.murphi_typed.specs.declared.expr.Arguments as a
use Rattle.murphi_typed.specs.declared.expr.Arguments.{Arguments, Row_of-Argument, end_of-Argument, more_of-Argument}
use Rattle.murphi_typed.specs.declared.expr.Argument as argument
use Rattle.murphi_typed.specs.Forms.{NotForm, MinusForm, CompareForm, ImpliesForm, ChoiceForm, QuantifiedForm}
use Rattle.murphi_typed.specs.Values.{is_value, values}
use Rattle.murphi_typed.specs.Families.{Path}
use Rattle.murphi_typed.specs.Store.{Place, Cells, cell_at, contents_at, only}
use Rattle.murphi_typed.specs.Outcome.{Outcome, Got, Fault, given, or_fault}
use Rattle.murphi_typed.specs.Expressions.{Given, Filled, Standing, Scene, Left, Calls, as_truth, calculated, joined, compared, defined, over_all, with_bound, root_place, under, row_path, fitting, value_of, chain_value, place_of, indices_of, arguments_of, row_arguments, argument_of}
use Rattle.scalarset_rules.specs.Accesses.{Stand, Valued, Placed, Scope, binding, called, place_mark, mark, root_shape, shape_of, row_parts, under as shape_under, argument_stand, row_stands, stands_of, Access, accessed, Opened, reads, chain_reads, index_reads, row_reads, argument_reads, row_argument_reads, one_argument_reads}
use Rattle.scalarset_rules.specs.Rules.{is_deeper}
use Rattle.scalarset_rules.specs.Turns.{fields, is_front}
use Rattle.typed_laws.specs.Regions.{Region}
use Rattle.typed_laws.proofs.Standing.{both, Good, AllGood, good_front, good_back, good_called, Agree, Kept, Fits, IsAt, root_at, selected_at}

pub got_same : {A : Type 0} {a b : A} → Got a ≡ Got b → a ≡ b
got_same e = cc

pub fault_got : {A B : Type 0} {at : Span} {a : A} → Fault at ≡ Got a → B
fault_got e = cc

pub given_same : {A B : Type 0} (o p : Outcome A) (f g : A → Outcome B) → o ≡ p → ((a : A) → o ≡ Got a → f a ≡ g a) → given o f ≡ given p g
given_same o p f g e same = subst (λ q. given o f ≡ given q g) e (go o same)
  where
    go : (o : Outcome _) → ((a : _) → o ≡ Got a → f a ≡ g a) → given o f ≡ given o g
    go (Got a) same = same a refl
    go (Fault at) same = refl

pub given_got : {A B : Type 0} (o : Outcome A) (f : A → Outcome B) (b : B) → given o f ≡ Got b → (a : A) × ((o ≡ Got a) × (f a ≡ Got b))
given_got (Got a) f b e = (a, (refl, e))
given_got (Fault at) f b e = cc

pub name_itself : (xs : List ℕ) → bytes_eq xs xs ≡ true
name_itself [] = refl
name_itself (x ∷ xs) = and_from (nat_eq x x) (bytes_eq xs xs) (eq-eqb x x refl) (name_itself xs)

pub front_joined : (xs ys : Path) → is_front xs (xs ++ ys) ≡ true
front_joined [] ys = refl
front_joined (x ∷ xs) ys = ap (λ b. b && is_front xs (xs ++ ys)) (name_itself x) ∙ front_joined xs ys

-- what is given to a formal is what it stands for
abbrev pub GivenStand : ℕ → Stand → Given → Type 0
GivenStand depth (Valued m) (Filled contents) = Unit {0}
GivenStand depth (Placed shape) (Standing place) = IsAt depth shape place
GivenStand depth (Valued m) (Standing place) = ⊥
GivenStand depth (Placed shape) (Filled contents) = ⊥

abbrev pub AreGiven : ℕ → List Stand → List Given → Type 0
AreGiven depth [] [] = Unit {0}
AreGiven depth (s ∷ ss) (g ∷ gs) = GivenStand depth s g × AreGiven depth ss gs
AreGiven depth [] (g ∷ gs) = ⊥
AreGiven depth (s ∷ ss) [] = ⊥

-- two calls end alike: they fault at one place, or have one result, and leave cells that agree
abbrev pub LeftAlike : Region → Region → ℕ → Cells → Outcome Left → Outcome Left → Type 0
LeftAlike R W depth c (Fault at) (Fault other) = at ≡ other
LeftAlike R W depth c (Got l) (Got m) = (l.result ≡ m.result) × (Agree R depth l.cells m.cells × Kept W depth c l.cells)
LeftAlike R W depth c (Fault at) (Got m) = ⊥
LeftAlike R W depth c (Got l) (Fault at) = ⊥

abbrev pub CallsAlike : Region → Region → Calls → Opened → Type 0
CallsAlike R W calls opened =
    (k : ℕ) (scope : Scope) (stands : List Stand) (scene : Scene) (at : Span) (gs : List Given) (c d : Cells)
    → scene.depth ≡ scope.depth → AreGiven scope.depth stands gs
    → AllGood R W (opened k (called scope stands)) → Agree R scope.depth c d
    → LeftAlike R W scope.depth c (calls k scene at gs c) (calls k scene at gs d)

pub reading : (write : Bool) (scope : Scope) (place : Designator) → (accessed write scope place).write ≡ write
reading write scope (d.Of' r _ selectors from) = refl

pub accessed_at : (write : Bool) (scope : Scope) (place : Designator) (p : Place) → IsAt scope.depth (shape_of scope place) p → IsAt scope.depth (accessed write scope place).shape p
accessed_at write scope (d.Of' r _ selectors from) p at = at

module _ (R W : Region) where
  readable_at : (depth : ℕ) (a : Access) (p : Place) → Good R W a → a.write ≡ false → IsAt depth a.shape p → (path : Path) → R p.owner (p.path ++ path) ≡ true
  readable_at depth a p good reading at path =
      let front : is_front (fields a.shape.parts) (p.path ++ path) ≡ true = sym (ap (λ f. is_front f (p.path ++ path)) at.path) ∙ front_joined p.path path in
      ap (λ o. R o (p.path ++ path)) at.owner
      ∙ sym (ap (λ w. (if w then W else R) a.shape.owner (p.path ++ path)) reading) ∙ good (p.path ++ path) front

  -- the cells under a place that is read
  pub contents_same : (depth : ℕ) (c d : Cells) (a : Access) (p : Place) → Agree R depth c d → Good R W a → a.write ≡ false → IsAt depth a.shape p → contents_at c p ≡ contents_at d p
  contents_same depth c d a p agree good reading at =
      fun_ext (λ path. fun_ext (λ more.
      agree p.owner (p.path ++ path) (p.at ++ more) (ap (is_deeper depth) at.owner ∙ at.near)
      (readable_at depth a p good reading at path)))

  pub cell_same : (depth : ℕ) (c d : Cells) (a : Access) (p : Place) → Agree R depth c d → Good R W a → a.write ≡ false → IsAt depth a.shape p → cell_at c p ≡ cell_at d p
  cell_same depth c d a p agree good reading at =
      sym (both (c p.owner) (append-nil p.path) (append-nil p.at))
      ∙ ap (λ f. f [] []) (contents_same depth c d a p agree good reading at)
      ∙ both (d p.owner) (append-nil p.path) (append-nil p.at)

  module _ (calls : Calls) (opened : Opened) (alike : CallsAlike R W calls opened) where
    -- the place of a designator is that of its shape
    pub place_at : (scope : Scope) (scene : Scene) (at : Span) (c : Cells) (place : Designator) (p : Place) → Fits scope scene → place_of calls scene at c place ≡ Got p → IsAt scope.depth (shape_of scope place) p
    unfolding value_of
    place_at scope scene at c (d.Of' r _ selectors from) p fit e =
        let (q, e1) = given_got (or_fault at (root_place scene r)) (λ p. given (indices_of calls scene at c selectors) (λ indices. Got (under p (row_path selectors) indices))) p e in
        let (vs, e2) = given_got (indices_of calls scene at c selectors) (λ indices. Got (under q (row_path selectors) indices)) p e1.1 in
        subst (IsAt scope.depth (shape_under (root_shape scope r) (row_parts scope selectors))) (got_same e2.1)
        (selected_at scope (root_shape scope r) q selectors vs (root_at scope scene r q fit (found (root_place scene r) q e1.0)))
      where
        found : (o : Option Place) (q : Place) → or_fault at o ≡ Got q → o ≡ Some q
        found None q e = fault_got e
        found (Some p) q e = ap Some (got_same e)

    -- what a call gives is what the formals stand for
    argument_given : (scope : Scope) (scene : Scene) (at : Span) (c : Cells) (arg : argument.Argument) (g : Given) → Fits scope scene → argument_of calls scene at c arg ≡ Got g → GivenStand scope.depth (argument_stand scope arg) g
    unfolding value_of
    argument_given scope scene at c (argument.Copy place) g fit e =
        let (p, e1) = given_got (place_of calls scene at c place) (λ p. Got (Filled (only (cell_at c p)))) g e in
        subst (GivenStand scope.depth (Valued (place_mark scope place))) (got_same e1.1) tt
    argument_given scope scene at c (argument.CopyAll place) g fit e =
        let (p, e1) = given_got (place_of calls scene at c place) (λ p. Got (Filled (contents_at c p))) g e in
        subst (GivenStand scope.depth (Valued None)) (got_same e1.1) tt
    argument_given scope scene at c (argument.Value body) g fit e =
        let (w, e1) = given_got (value_of calls scene at c body) (λ w. Got (Filled (only w))) g e in
        subst (GivenStand scope.depth (Valued (mark scope body))) (got_same e1.1) tt
    argument_given scope scene at c (argument.Place place) g fit e =
        let (p, e1) = given_got (place_of calls scene at c place) (λ p. Got (Standing p)) g e in
        subst (GivenStand scope.depth (Placed (shape_of scope place))) (got_same e1.1) (place_at scope scene at c place p fit e1.0)

    row_given : {l : _} (scope : Scope) (scene : Scene) (at : Span) (c : Cells) (args : Row_of-Argument l) (gs : List Given) → Fits scope scene → row_arguments calls scene at c args ≡ Got gs → AreGiven scope.depth (row_stands scope args) gs
    unfolding value_of
    row_given scope scene at c end_of-Argument gs fit e = subst (AreGiven scope.depth []) (got_same e) tt
    row_given scope scene at c (more_of-Argument first rest) gs fit e =
        let (g, e1) = given_got (argument_of calls scene at c first) (λ g. given (row_arguments calls scene at c rest) (λ gs. Got (g ∷ gs))) gs e in
        let (hs, e2) = given_got (row_arguments calls scene at c rest) (λ gs. Got (g ∷ gs)) gs e1.1 in
        subst (AreGiven scope.depth (argument_stand scope first ∷ row_stands scope rest)) (got_same e2.1)
        (argument_given scope scene at c first g fit e1.0, row_given scope scene at c rest hs fit e2.0)

    pub arguments_given : (scope : Scope) (scene : Scene) (at : Span) (c : Cells) (args : Arguments) (gs : List Given) → Fits scope scene → arguments_of calls scene at c args ≡ Got gs → AreGiven scope.depth (stands_of scope args) gs
    unfolding value_of
    arguments_given scope scene at c (a.Of' _ args) gs fit e = row_given scope scene at c args gs fit e

    -- values are the same

    all_same : (all : Bool) (f g : Value → Outcome Value) (vs : List Value) → ((w : Value) → f w ≡ g w) → over_all all f vs ≡ over_all all g vs
    all_same all f g [] same = refl
    all_same all f g (w ∷ ws) same =
        given_same (f w) (g w) _ _ (same w) (λ first is. given_same (over_all all f ws) (over_all all g ws) _ _ (all_same all f g ws same) (λ rest was. refl))

    called_result : (depth : ℕ) (c : Cells) (at : Span) (o p : Outcome Left) → LeftAlike R W depth c o p → given o (λ left. or_fault at left.result) ≡ given p (λ left. or_fault at left.result)
    called_result depth c at (Fault from) (Fault other) e = ap Fault e
    called_result depth c at (Got l) (Got m) (e, rest) = ap (or_fault at) e
    called_result depth c at (Fault from) (Got m) e = absurd e
    called_result depth c at (Got l) (Fault from) e = absurd e

    if_same : {A : Type 0} (b : Bool) (o o' p p' : A) → o ≡ o' → p ≡ p' → (if b then o else p) ≡ (if b then o' else p')
    if_same true o o' p p' e f = e
    if_same false o o' p p' e f = f

    joined_same : (at : Span) (op : ChainOp) (left : Value) (o p : Outcome Value) → o ≡ p → joined at op left o ≡ joined at op left p
    joined_same at op left o p e = ap (joined at op left) e

    -- inside a quantifier or a `for`
    pub bound_fits : (scope : Scope) (scene : Scene) (w : Value) → Fits scope scene → Fits (binding scope) (with_bound scene w)
    bound_fits scope scene w fit = record { depth = fit.depth; places = fit.places }

    module _ (c b : Cells) where
      mutual
        unfolding value_of reads

        pub value_same : (scope : Scope) (scene : Scene) (at : Span) (e : Expr) → Fits scope scene → Agree R scope.depth c b → AllGood R W (reads opened scope e) → value_of calls scene at c e ≡ value_of calls scene at b e
        value_same scope scene at (x.Known u) fit agree good = refl
        value_same scope scene at (x.Bound k) fit agree good = refl
        value_same scope scene at (x.Read place) fit agree good =
            given_same (place_of calls scene at c place) (place_of calls scene at b place) _ _ (place_same scope scene at place fit agree good.1)
            (λ p is. ap (defined at) (cell_same scope.depth c b (accessed false scope place) p agree good.0 (reading false scope place) (accessed_at false scope place p (place_at scope scene at c place p fit is))))
        value_same scope scene at (x.Call k args from) fit agree good =
            given_same (arguments_of calls scene at c args) (arguments_of calls scene at b args) _ _ (arguments_same scope scene at args fit agree (good_front R W _ _ good))
            (λ gs is. called_result scope.depth c at (calls k scene at gs c) (calls k scene at gs b)
            (alike k scope (stands_of scope args) scene at gs c b fit.depth (arguments_given scope scene at c args gs fit is)
            (good_called R W from (opened k (called scope (stands_of scope args))) (good_back R W (argument_reads opened scope args) _ good)) agree))
        value_same scope scene at (NotForm body) fit agree good =
            ap (λ o. given o (λ w. Got (value.Truth (not (truth w))))) (value_same scope scene at body fit agree good)
        value_same scope scene at (MinusForm body) fit agree good =
            ap (λ o. given o (calculated at operation.Subtract (value.Number (pos 0)))) (value_same scope scene at body fit agree good)
        value_same scope scene at (x.Chain' _ (more_of-Expr first end_of-Expr) _ rest) fit agree good =
            given_same (value_of calls scene at c first) (value_of calls scene at b first) _ _ (value_same scope scene at first fit agree (good_front R W _ _ good))
            (λ w is. chain_same scope scene at w rest fit agree (good_back R W (reads opened scope first) _ good))
        value_same scope scene at (CompareForm op left right) fit agree good =
            given_same (value_of calls scene at c left) (value_of calls scene at b left) _ _ (value_same scope scene at left fit agree (good_front R W _ _ good))
            (λ w is. ap (λ o. given o (λ u. Got (value.Truth (compared op w u)))) (value_same scope scene at right fit agree (good_back R W (reads opened scope left) _ good)))
        value_same scope scene at (ImpliesForm left right) fit agree good =
            given_same (value_of calls scene at c left) (value_of calls scene at b left) _ _ (value_same scope scene at left fit agree (good_front R W _ _ good))
            (λ w is. if_same (truth w) _ _ _ _ (ap (λ o. given o (λ u. Got (as_truth u))) (value_same scope scene at right fit agree (good_back R W (reads opened scope left) _ good))) refl)
        value_same scope scene at (ChoiceForm test first second) fit agree good =
            given_same (value_of calls scene at c test) (value_of calls scene at b test) _ _ (value_same scope scene at test fit agree (good_front R W _ _ good))
            (λ w is. if_same (truth w) _ _ _ _
            (value_same scope scene at first fit agree (good_front R W _ _ (good_back R W (reads opened scope test) _ good)))
            (value_same scope scene at second fit agree (good_back R W (reads opened scope first) _ (good_back R W (reads opened scope test) _ good))))
        value_same scope scene at (QuantifiedForm all over body) fit agree good =
            ap (λ o. given o (λ w. Got (value.Truth w)))
            (all_same all (λ w. value_of calls (with_bound scene w) at c body) (λ w. value_of calls (with_bound scene w) at b body) (values scene.nodes over)
            (λ w. value_same (binding scope) (with_bound scene w) at body (bound_fits scope scene w fit) agree good))
        value_same scope scene at (x.IsUndefined place) fit agree good =
            given_same (place_of calls scene at c place) (place_of calls scene at b place) _ _ (place_same scope scene at place fit agree good.1)
            (λ p is. ap (λ u. Got (value.Truth (same_value u value.Undefined))) (cell_same scope.depth c b (accessed false scope place) p agree good.0 (reading false scope place) (accessed_at false scope place p (place_at scope scene at c place p fit is))))

        pub chain_same : {l : _} (scope : Scope) (scene : Scene) (at : Span) (left : Value) (rest : Row_of-Link l) → Fits scope scene → Agree R scope.depth c b → AllGood R W (chain_reads opened scope rest) → chain_value calls scene at c left rest ≡ chain_value calls scene at b left rest
        chain_same scope scene at left end_of-Link fit agree good = refl
        chain_same scope scene at left (more_of-Link op operand rest) fit agree good =
            given_same (joined at op left (value_of calls scene at c operand)) (joined at op left (value_of calls scene at b operand)) _ _
            (joined_same at op left _ _ (value_same scope scene at operand fit agree (good_front R W _ _ good)))
            (λ w is. chain_same scope scene at w rest fit agree (good_back R W (reads opened scope operand) _ good))

        pub place_same : (scope : Scope) (scene : Scene) (at : Span) (place : Designator) → Fits scope scene → Agree R scope.depth c b → AllGood R W (index_reads opened scope place) → place_of calls scene at c place ≡ place_of calls scene at b place
        place_same scope scene at (d.Of' r _ selectors from) fit agree good =
            given_same (or_fault at (root_place scene r)) (or_fault at (root_place scene r)) _ _ refl
            (λ p is. ap (λ o. given o (λ indices. Got (under p (row_path selectors) indices))) (indices_same scope scene at selectors fit agree good))

        pub indices_same : {l : _} (scope : Scope) (scene : Scene) (at : Span) (selectors : Row_of-Selector l) → Fits scope scene → Agree R scope.depth c b → AllGood R W (row_reads opened scope selectors) → indices_of calls scene at c selectors ≡ indices_of calls scene at b selectors
        indices_same scope scene at end_of-Selector fit agree good = refl
        indices_same scope scene at (more_of-Selector (select.Field name) rest) fit agree good = indices_same scope scene at rest fit agree good
        indices_same scope scene at (more_of-Selector (select.Index over index) rest) fit agree good =
            given_same (value_of calls scene at c index) (value_of calls scene at b index) _ _ (value_same scope scene at index fit agree (good_front R W _ _ good))
            (λ w is. ap (λ o. given (fitting (is_value scene.nodes over w) at w) (λ u. given o (λ us. Got (u ∷ us)))) (indices_same scope scene at rest fit agree (good_back R W (reads opened scope index) _ good)))

        pub arguments_same : (scope : Scope) (scene : Scene) (at : Span) (args : Arguments) → Fits scope scene → Agree R scope.depth c b → AllGood R W (argument_reads opened scope args) → arguments_of calls scene at c args ≡ arguments_of calls scene at b args
        arguments_same scope scene at (a.Of' _ args) fit agree good = row_same scope scene at args fit agree good

        pub row_same : {l : _} (scope : Scope) (scene : Scene) (at : Span) (args : Row_of-Argument l) → Fits scope scene → Agree R scope.depth c b → AllGood R W (row_argument_reads opened scope args) → row_arguments calls scene at c args ≡ row_arguments calls scene at b args
        row_same scope scene at end_of-Argument fit agree good = refl
        row_same scope scene at (more_of-Argument first rest) fit agree good =
            given_same (argument_of calls scene at c first) (argument_of calls scene at b first) _ _ (argument_same scope scene at first fit agree (good_front R W _ _ good))
            (λ g is. ap (λ o. given o (λ gs. Got (g ∷ gs))) (row_same scope scene at rest fit agree (good_back R W (one_argument_reads opened scope first) _ good)))

        pub argument_same : (scope : Scope) (scene : Scene) (at : Span) (arg : argument.Argument) → Fits scope scene → Agree R scope.depth c b → AllGood R W (one_argument_reads opened scope arg) → argument_of calls scene at c arg ≡ argument_of calls scene at b arg
        argument_same scope scene at (argument.Copy place) fit agree good =
            given_same (place_of calls scene at c place) (place_of calls scene at b place) _ _ (place_same scope scene at place fit agree good.1)
            (λ p is. ap (λ w. Got (Filled (only w))) (cell_same scope.depth c b (accessed false scope place) p agree good.0 (reading false scope place) (accessed_at false scope place p (place_at scope scene at c place p fit is))))
        argument_same scope scene at (argument.CopyAll place) fit agree good =
            given_same (place_of calls scene at c place) (place_of calls scene at b place) _ _ (place_same scope scene at place fit agree good.1)
            (λ p is. ap (λ w. Got (Filled w)) (contents_same scope.depth c b (accessed false scope place) p agree good.0 (reading false scope place) (accessed_at false scope place p (place_at scope scene at c place p fit is))))
        argument_same scope scene at (argument.Value body) fit agree good =
            ap (λ o. given o (λ w. Got (Filled (only w)))) (value_same scope scene at body fit agree good)
        argument_same scope scene at (argument.Place place) fit agree good =
            ap (λ o. given o (λ p. Got (Standing p))) (place_same scope scene at place fit agree good)
