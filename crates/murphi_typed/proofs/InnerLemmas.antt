-- The variables of a called routine: their types, their cells at the entry, and what they stand for.
use Rattle.std.proofs.Common.{◌≡◌, ℕ, zero, suc, ◌<◌, Bool, true, false, ◌⊎◌, inl, inr, List, [], ◌∷◌, Option, None, Some, refl, sym, ap, ◌∙◌, subst, arith}
use Rattle.std.specs.Prelude.{nat_eq, nat_lt, if◌then◌else◌, slice_get}
use Rattle.std.proofs.lemmas.Bool.{and_parts, eq-eqb, eqb-true, lt-ltb, ltb-true}
use Rattle.term_core.specs.declared.value.Value.TheVariants as value
use Rattle.murphi_typed.specs.declared.types.AnyType as t
use Rattle.murphi_typed.specs.declared.types.AnyType.{AnyType}
use Rattle.murphi_typed.specs.declared.expr.Root.TheVariants as root
use Rattle.murphi_typed.specs.declared.protocol.Formal.{Formal as DeclaredFormal}
use Rattle.murphi_typed.specs.declared.protocol.Variable.{Variable}
use Rattle.murphi_typed.specs.Values.{may_hold}
use Rattle.murphi_typed.specs.Families.{leaf_at}
use Rattle.murphi_typed.specs.Store.{Owner, Global, Local, Formal, Place, Contents, Cells, only}
use Rattle.murphi_typed.specs.Expressions.{Given, Filled, Standing, Scene, root_place, stood_for, whole}
use Rattle.murphi_typed.specs.Execution.{formal_holds, formal_fits, formals_fit, filled, entered, called_scene}
use Rattle.murphi_typed.specs.WellTyped.{Scope, variable_type, formal_type}
use Rattle.murphi_typed.specs.Keeping.{Declared, AreKept, HasType, SceneFits}
pub use Rattle.murphi_typed.specs.Keeping.{IsShallow, HasGlobals, inner_types}
use Rattle.murphi_typed.proofs.LeafLemmas.{some_same, not_some}
use Rattle.murphi_typed.proofs.KeepLemmas.{HoldsFor, only_holds}
use Rattle.murphi_typed.proofs.EntryLemmas.{IsOne, FormalGiven, GivenFit}

same_if : {A : Type 0} (x y : A) (b : Bool) → b ≡ true → (if b then x else y) ≡ x
same_if x y true e = refl
same_if x y false e = cc

-- what was declared still is
pub widen : (depth : ℕ) (formals : List DeclaredFormal) (locals : List Variable) (types : Declared) → IsShallow types depth → (owner : Owner) (T : AnyType) → types owner ≡ Some T → inner_types (suc depth) formals locals types owner ≡ Some T
widen depth formals locals types shallow (Global k) T e = e
widen depth formals locals types shallow (Local of k) T e = go (nat_eq of (suc depth)) refl
  where
    go : (b : Bool) → nat_eq of (suc depth) ≡ b → (if b then variable_type (slice_get locals k) else types (Local of k)) ≡ Some T
    go false was = e
    go true was =
        let deeper : nat_lt depth of ≡ true = lt-ltb depth of (subst (λ n. depth < n) (sym (eqb-true of (suc depth) was)) (omega arith)) in
        let (none, other) = shallow of k deeper in
        absurd (not_some (sym none ∙ e))
widen depth formals locals types shallow (Formal of k) T e = go (nat_eq of (suc depth)) refl
  where
    go : (b : Bool) → nat_eq of (suc depth) ≡ b → (if b then formal_type false (slice_get formals k) else types (Formal of k)) ≡ Some T
    go false was = e
    go true was =
        let deeper : nat_lt depth of ≡ true = lt-ltb depth of (subst (λ n. depth < n) (sym (eqb-true of (suc depth) was)) (omega arith)) in
        let (other, none) = shallow of k deeper in
        absurd (not_some (sym none ∙ e))

pub inner_shallow : (depth : ℕ) (formals : List DeclaredFormal) (locals : List Variable) (types : Declared) → IsShallow types depth → IsShallow (inner_types (suc depth) formals locals types) (suc depth)
inner_shallow depth formals locals types shallow of k deep =
    let further : suc depth < of = ltb-true (suc depth) of deep in
    let deeper : nat_lt depth of ≡ true = lt-ltb depth of (omega arith) in
    let (a, b) = shallow of k deeper in
    (go (nat_eq of (suc depth)) refl (variable_type (slice_get locals k)) (types (Local of k)) a, go (nat_eq of (suc depth)) refl (formal_type false (slice_get formals k)) (types (Formal of k)) b)
  where
    go : (c : Bool) → nat_eq of (suc depth) ≡ c → (o p : Option AnyType) → p ≡ None → (if c then o else p) ≡ None
    go false was o p none = none
    go true was o p none =
        let same : of ≡ suc depth = eqb-true of (suc depth) was in
        let further : suc depth < of = ltb-true (suc depth) of deep in
        absurd (omega arith)

-- the formal of a number, and what it is given
formal_there : (N : ℕ) (types : Declared) (fs : List DeclaredFormal) (gs : List Given) (k : ℕ) (f : DeclaredFormal) → GivenFit N types fs gs → slice_get fs k ≡ Some f → (g : Given) × (slice_get gs k ≡ Some g) × FormalGiven N types f g
formal_there N types [] [] k f fit e = absurd (not_some e)
formal_there N types [] (g ∷ gs) k f fit e = absurd fit
formal_there N types (h ∷ fs) [] k f fit e = absurd fit
formal_there N types (h ∷ fs) (g ∷ gs) zero f fit e = let (first, rest) = fit in (g, refl, subst (λ x. FormalGiven N types x g) (some_same e) first)
formal_there N types (h ∷ fs) (g ∷ gs) (suc k) f fit e = let (first, rest) = fit in formal_there N types fs gs k f rest e

formal_tested : (N : ℕ) (fs : List DeclaredFormal) (gs : List Given) (k : ℕ) (f : DeclaredFormal) (g : Given) → formals_fit N fs gs ≡ true → slice_get fs k ≡ Some f → slice_get gs k ≡ Some g → formal_fits N f g ≡ true
formal_tested N [] gs k f g fit e there = absurd (not_some e)
formal_tested N (h ∷ fs) [] k f g fit e there = absurd (not_some there)
formal_tested N (h ∷ fs) (i ∷ gs) zero f g fit e there =
    let (first, rest) = and_parts (formal_fits N h i) (formals_fit N fs gs) fit in
    ap (λ x. formal_fits N x g) (sym (some_same e)) ∙ ap (formal_fits N h) (sym (some_same there)) ∙ first
formal_tested N (h ∷ fs) (i ∷ gs) (suc k) f g fit e there =
    let (first, rest) = and_parts (formal_fits N h i) (formals_fit N fs gs) fit in
    formal_tested N fs gs k f g rest e there

-- a formal by value of simple type holds its value, since that was tested
filled_holds : (N : ℕ) (types : Declared) (f : DeclaredFormal) (contents : Contents) → FormalGiven N types f (Filled contents) → formal_fits N f (Filled contents) ≡ true → HoldsFor N f.of contents
filled_holds N types f contents has tested = go has.1
  where
    go : HoldsFor N f.of contents ⊎ IsOne f.of contents → HoldsFor N f.of contents
    go (inl holds) = holds
    go (inr one) =
        let (v, is, simple) = one in
        let (s, type) = simple in
        let may : may_hold N s v ≡ true = sym (ap (λ U. formal_holds N U contents) type ∙ ap (λ c. formal_holds N (t.Simple s) c) is) ∙ tested in
        subst (λ U. HoldsFor N U contents) (sym type) (subst (λ c. HoldsFor N (t.Simple s) c) (sym is) (only_holds N s v may))

by_value_of : (o : Option DeclaredFormal) (T : AnyType) → formal_type false o ≡ Some T → (f : DeclaredFormal) × (o ≡ Some f) × ((f.by_place ≡ false) × (f.of ≡ T))
by_value_of None T e = absurd (not_some e)
by_value_of (Some f) T e = go f.by_place refl e
  where
    go : (b : Bool) → f.by_place ≡ b → (if b then None else Some f.of) ≡ Some T → (f' : DeclaredFormal) × (Some f ≡ Some f') × ((f'.by_place ≡ false) × (f'.of ≡ T))
    go true was e = absurd (not_some e)
    go false was e = (f, refl, (was, some_same e))

by_place_of : (o : Option DeclaredFormal) (T : AnyType) → formal_type true o ≡ Some T → (f : DeclaredFormal) × (o ≡ Some f) × ((f.by_place ≡ true) × (f.of ≡ T))
by_place_of None T e = absurd (not_some e)
by_place_of (Some f) T e = go f.by_place refl e
  where
    go : (b : Bool) → f.by_place ≡ b → (if b then Some f.of else None) ≡ Some T → (f' : DeclaredFormal) × (Some f ≡ Some f') × ((f'.by_place ≡ true) × (f'.of ≡ T))
    go true was e = (f, refl, (was, some_same e))
    go false was e = absurd (not_some e)

-- the formals by value and the locals at the entry are within their types
pub entered_kept : (N depth : ℕ) (formals : List DeclaredFormal) (locals : List Variable) (types : Declared) (gs : List Given) (cells : Cells) → GivenFit N types formals gs → formals_fit N formals gs ≡ true → AreKept N types cells → AreKept N (inner_types depth formals locals types) (entered depth gs cells)
entered_kept N depth formals locals types gs cells fit tested kept (Global k) T e path leaf leads at = kept (Global k) T e path leaf leads at
entered_kept N depth formals locals types gs cells fit tested kept (Local of k) T e path leaf leads at = go (nat_eq of depth) e
  where
    go : (b : Bool) → (if b then variable_type (slice_get locals k) else types (Local of k)) ≡ Some T → may_hold N leaf ((if b then only value.Undefined else cells (Local of k)) path at) ≡ true
    go true e = refl
    go false e = kept (Local of k) T e path leaf leads at
entered_kept N depth formals locals types gs cells fit tested kept (Formal of k) T e path leaf leads at = go (nat_eq of depth) e
  where
    given_one : (f : DeclaredFormal) (g : Given) → f.by_place ≡ false → f.of ≡ T → slice_get gs k ≡ Some g → FormalGiven N types f g → formal_fits N f g ≡ true → may_hold N leaf (filled (slice_get gs k) path at) ≡ true
    given_one f (Filled contents) by of' there has test = ap (λ o. may_hold N leaf (filled o path at)) there ∙ filled_holds N types f contents has test path leaf (ap (λ U. leaf_at U path) of' ∙ leads) at
    given_one f (Standing p) by of' there has test = let wrong : true ≡ false = sym (has.0) ∙ by in cc

    go : (b : Bool) → (if b then formal_type false (slice_get formals k) else types (Formal of k)) ≡ Some T → may_hold N leaf ((if b then filled (slice_get gs k) else cells (Formal of k)) path at) ≡ true
    go false e = kept (Formal of k) T e path leaf leads at
    go true e =
        let (f, is, facts) = by_value_of (slice_get formals k) T e in
        let (g, there, has) = formal_there N types formals gs k f fit is in
        given_one f g facts.0 facts.1 there has (formal_tested N formals gs k f g tested is there)

-- each variable of a called routine stands for a place of its type
pub inner_fits : (types : Declared) (globals : List Variable) (formals : List DeclaredFormal) (locals : List Variable) (scene : Scene) (gs : List Given) (scope : Scope) → IsShallow types scene.depth → HasGlobals types globals → GivenFit scene.nodes types formals gs → scope.globals ≡ globals → scope.formals ≡ formals → scope.locals ≡ locals → SceneFits (inner_types (suc scene.depth) formals locals types) scope (called_scene scene gs)
inner_fits types globals formals locals scene gs scope shallow has fit g_is f_is l_is (root.Global k) U e = (whole (Global k), refl, (U, has k ∙ ap (λ vs. variable_type (slice_get vs k)) (sym g_is) ∙ e, λ path. refl))
inner_fits types globals formals locals scene gs scope shallow has fit g_is f_is l_is (root.Local k) U e = (whole (Local (suc scene.depth) k), refl, (U, same_if _ _ (nat_eq (suc scene.depth) (suc scene.depth)) (eq-eqb (suc scene.depth) (suc scene.depth) refl) ∙ ap (λ vs. variable_type (slice_get vs k)) (sym l_is) ∙ e, λ path. refl))
inner_fits types globals formals locals scene gs scope shallow has fit g_is f_is l_is (root.Formal k) U e = (whole (Formal (suc scene.depth) k), refl, (U, same_if _ _ (nat_eq (suc scene.depth) (suc scene.depth)) (eq-eqb (suc scene.depth) (suc scene.depth) refl) ∙ ap (λ fs. formal_type false (slice_get fs k)) (sym f_is) ∙ e, λ path. refl))
inner_fits types globals formals locals scene gs scope shallow has fit g_is f_is l_is (root.Place k) U e =
    let (f, is, facts) = by_place_of (slice_get formals k) U (ap (λ fs. formal_type true (slice_get fs k)) (sym f_is) ∙ e) in
    let (g, there, is_given) = formal_there scene.nodes types formals gs k f fit is in
    go f g facts.0 facts.1 there is_given
  where
    go : (f : DeclaredFormal) (g : Given) → f.by_place ≡ true → f.of ≡ U → slice_get gs k ≡ Some g → FormalGiven scene.nodes types f g → (p : Place) × (root_place (called_scene scene gs) (root.Place k) ≡ Some p) × HasType (inner_types (suc scene.depth) formals locals types) p U
    go f (Filled contents) by of' there given_is = let wrong : true ≡ false = sym by ∙ given_is.0 in cc
    go f (Standing p) by of' there given_is =
        let (T, declared, leads) = given_is.1 in
        (p, ap stood_for there, (T, widen scene.depth formals locals types shallow p.owner T declared, λ path. leads path ∙ ap (λ V. leaf_at V path) of'))
