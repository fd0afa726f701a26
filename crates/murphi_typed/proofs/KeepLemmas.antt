-- What a place is, and that writing there keeps every cell within its type.
use Rattle.std.proofs.Common.{◌≡◌, ℕ, Bool, true, false, List, [], ◌∷◌, ◌++◌, Option, None, Some, refl, sym, ap, ◌∙◌, subst, append_assoc}
use Rattle.std.specs.Prelude.{if◌then◌else◌}
use Rattle.std.specs.Str.{bytes_eq}
use Rattle.term_core.specs.declared.value.Value.{Value}
use Rattle.term_core.specs.declared.value.Value.TheVariants as value
use Rattle.term_core.specs.Values.{same_value}
use Rattle.murphi_ast.specs.declared.token.Span.{Span}
use Rattle.murphi_typed.specs.declared.types.Simple.{Simple}
use Rattle.murphi_typed.specs.declared.types.AnyType as t
use Rattle.murphi_typed.specs.declared.types.AnyType.{AnyType, Row_of-Field, end_of-Field, more_of-Field}
use Rattle.murphi_typed.specs.declared.expr.Designator as d
use Rattle.murphi_typed.specs.declared.expr.Designator.{Designator}
use Rattle.murphi_typed.specs.Forms.{ArrayForm}
use Rattle.murphi_typed.specs.Values.{may_hold}
use Rattle.murphi_typed.specs.Families.{Path, leaf_at}
use Rattle.murphi_typed.specs.Store.{same_owner, Place, Contents, Cells, contents_at, written, renewed, beyond, only}
use Rattle.murphi_typed.specs.Outcome.{Outcome, Got, Fault, given, or_fault}
use Rattle.murphi_typed.specs.Expressions.{Scene, Calls, row_path, under, value_of, place_of, indices_of}
use Rattle.murphi_typed.specs.WellTyped.{Scope, root_type, type_of, place_type, selected_type, is_cell_of}
use Rattle.murphi_typed.specs.Keeping.{Declared, AreKept, HasType, SceneFits}
use Rattle.murphi_typed.proofs.TestLemmas.{owners_true, names_true, simples_true, beyond_some}
use Rattle.murphi_typed.proofs.LeafLemmas.{some_same, not_some, selected_leaf, selected_root}

-- a fact of what is got, if anything is
abbrev pub IfGot : {A : Type 0} → (A → Type 0) → Outcome A → Type 0
IfGot P (Got a) = P a
IfGot P (Fault at) = Unit {0}

pub if_given : {A B : Type 0} (Q : A → Type 0) (P : B → Type 0) (o : Outcome A) (f : A → Outcome B) → IfGot Q o → ((a : A) → Q a → IfGot P (f a)) → IfGot P (given o f)
if_given Q P (Got a) f q next = next a q
if_given Q P (Fault at) f q next = tt

pub if_any : {A : Type 0} (o : Outcome A) → IfGot (λ a. Unit {0}) o
if_any (Got a) = tt
if_any (Fault at) = tt

pub if_after : {A B : Type 0} (P : B → Type 0) (o : Outcome A) (f : A → Outcome B) → ((a : A) → IfGot P (f a)) → IfGot P (given o f)
if_after P o f next = if_given (λ a. Unit {0}) P o f (if_any o) (λ a nothing. next a)

-- contents that a type allows
abbrev pub HoldsFor : ℕ → AnyType → Contents → Type 0
HoldsFor N U new = (path : Path) (leaf : Simple) → leaf_at U path ≡ Some leaf → (at : List Value) → may_hold N leaf (new path at) ≡ true

pub place_has : (types : Declared) (calls : Calls) (scope : Scope) (scene : Scene) (at : Span) (cells : Cells) (place : Designator) (U : AnyType) → SceneFits types scope scene → place_type scope place ≡ Some U → IfGot (λ p. HasType types p U) (place_of calls scene at cells place)
unfolding value_of type_of
place_has types calls scope scene at cells (d.Of' root _ selectors from) U fits e =
    let (T, rooted) = selected_root scope (root_type scope root) U selectors e in
    let (p, found, has) = fits root T rooted in
    let (V, declared, leads) = has in
    let leaf : (path : Path) → leaf_at T (row_path selectors ++ path) ≡ leaf_at U path = selected_leaf scope T U selectors (subst (λ o. selected_type scope o selectors ≡ Some U) rooted e) in
    subst (λ o. IfGot (λ p. HasType types p U) (given (or_fault at o) (λ p. given (indices_of calls scene at cells selectors) (λ indices. Got (under p (row_path selectors) indices))))) (sym found)
    (if_after (λ p. HasType types p U) (indices_of calls scene at cells selectors) (λ indices. Got (under p (row_path selectors) indices)) (λ indices. (V, declared, λ path. ap (leaf_at V) (append_assoc p.path (row_path selectors) path) ∙ leads (row_path selectors ++ path) ∙ leaf path)))

-- writing what a place's type allows keeps the cells
pub written_kept : (N : ℕ) (types : Declared) (cells : Cells) (p : Place) (U : AnyType) (new : Contents) → AreKept N types cells → HasType types p U → HoldsFor N U new → AreKept N types (written cells p new)
written_kept N types cells p U new kept has holds owner type declared path leaf leads at = go (same_owner owner p.owner) refl (beyond bytes_eq p.path path) refl (beyond same_value p.at at)
  where
    old : may_hold N leaf (cells owner path at) ≡ true
    old = kept owner type declared path leaf leads at

    go : (b : Bool) → same_owner owner p.owner ≡ b → (o : Option Path) → beyond bytes_eq p.path path ≡ o → (q : Option (List Value)) → may_hold N leaf (if b then renewed new (cells owner path at) o q else cells owner path at) ≡ true
    go false was o beyond_is q = old
    go true was None beyond_is q = old
    go true was (Some rest) beyond_is None = old
    go true was (Some rest) beyond_is (Some further) =
        let (T, there, leaves) = has in
        let one : type ≡ T = some_same (sym declared ∙ ap types (owners_true owner p.owner was) ∙ there) in
        let same : path ≡ p.path ++ rest = beyond_some bytes_eq names_true p.path path rest beyond_is in
        holds rest leaf (sym (leaves rest) ∙ ap (leaf_at T) (sym same) ∙ ap (λ u. leaf_at u path) (sym one) ∙ leads) further

pub contents_hold : (N : ℕ) (types : Declared) (cells : Cells) (q : Place) (U : AnyType) → AreKept N types cells → HasType types q U → HoldsFor N U (contents_at cells q)
contents_hold N types cells q U kept has path leaf leads at =
    let (T, there, leaves) = has in
    kept q.owner T there (q.path ++ path) leaf (leaves path ∙ leads) (q.at ++ at)

-- one value for the cell of a simple type
pub only_holds : (N : ℕ) (into : Simple) (v : Value) → may_hold N into v ≡ true → HoldsFor N (t.Simple into) (only v)
unfolding leaf_at
only_holds N into v may [] leaf leads at = ap (λ s. may_hold N s v) (sym (some_same leads)) ∙ may
only_holds N into v may (name ∷ path) leaf leads at = absurd (not_some leads)

pub undefined_holds : (N : ℕ) (U : AnyType) → HoldsFor N U (only value.Undefined)
undefined_holds N U path leaf leads at = refl

pub cell_type : (into : Simple) (found : Option AnyType) → is_cell_of into found ≡ true → found ≡ Some (t.Simple into)
cell_type into None e = cc
cell_type into (Some (t.Simple type)) e = ap (λ s. Some (t.Simple s)) (sym (simples_true into type e))
cell_type into (Some (t.Record' _ fields)) e = cc
cell_type into (Some (ArrayForm index item)) e = cc
