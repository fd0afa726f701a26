-- What the calls of each turn say, put together.
use Rattle.std.proofs.Common.{◌≡◌, ℕ, zero, suc, ◌+◌, ◌<◌, ◌≤◌, List, [], ◌∷◌, ◌++◌, length, drop, get_or, Option, None, Some, refl, ap, sym, subst, ◌∙◌, arith, add-one, drop-cons}
use Rattle.std.specs.Prelude.{slice_get}
use Rattle.murphi_ast.specs.declared.token.Span.{Span}
use Rattle.murphi_ast.specs.declared.expr.Named.{Named}
use Rattle.murphi_ast.specs.declared.expr.Link.{Link}
use Rattle.murphi_ast.specs.declared.expr.FieldDecl.{FieldDecl}
use Rattle.murphi_ast.specs.declared.expr.Designator.{Designator}
use Rattle.murphi_ast.specs.declared.expr.Selector as pick
use Rattle.murphi_ast.specs.declared.expr.Selector.{Selector}
use Rattle.murphi_ast.specs.declared.expr.Expr as e
use Rattle.murphi_ast.specs.declared.expr.Expr.{Expr}
use Rattle.murphi_typed.specs.declared.types.Simple.{Simple}
use Rattle.murphi_typed.specs.declared.types.AnyType.{AnyType}
use Rattle.murphi_typed.specs.declared.protocol.Formal.{Formal}
use Rattle.murphi_typed.specs.WellTyped.{first_of, rest_of}
use Rattle.murphi_types.specs.declared.fault.Fault.{Fault}
use Rattle.murphi_types.specs.declared.scope.Known.{Known}
use Rattle.murphi_types.specs.declared.scope.Scope.{Scope}
use Rattle.murphi_types.specs.Faults.{first_fault}
use Rattle.murphi_types.specs.Weights.{stopped}
use Rattle.murphi_types.specs.Places.{place_of}
use Rattle.murphi_types.specs.Fitting.{fits, has_values_of}
use Rattle.murphi_types.specs.Found.{FoundLinks}
use Rattle.murphi_types.specs.Designators.{FoundSelectors, field_chosen}
use Rattle.murphi_types.specs.Calls.{FoundArguments}
use Rattle.murphi_types.specs.Calls as calls
use Rattle.murphi_types.specs.Types.{FoundFields, Unnamed}
use Rattle.murphi_types.specs.Typing.{found, type_found}
use Rattle.murphi_types.specs.Lists.{list_selectors, list_arguments, argument_found}
use Rattle.type_parts.specs.declared.context.Context.{Context}
use Rattle.type_parts.specs.declared.judged.Judged.{Judged}
use Rattle.type_parts.specs.declared.judged.JudgedLinks.{JudgedLinks}
use Rattle.type_parts.specs.declared.judged.JudgedPlace.{JudgedPlace}
use Rattle.type_parts.specs.declared.judged.JudgedArguments.{JudgedArguments}
use Rattle.type_parts.specs.declared.judged.JudgedType.{JudgedType}
use Rattle.type_parts.specs.declared.judged.JudgedFields.{JudgedFields}
use Rattle.type_parts.specs.Contexts.{moved}
use Rattle.type_parts.specs.Judging.{kept, linked}
use Rattle.type_forms.specs.declared.designators.Walked.{Walked}
use Rattle.type_forms.specs.declared.calls.JudgedArgument.{JudgedArgument}
use Rattle.type_forms.specs.Designating.{field_walked, item_after, index_walked, selected, selectors_judged}
use Rattle.type_forms.specs.Calling.{placed, valued, argued, Given, given}
use Rattle.type_forms.specs.Writing.{fielded_by, fielded}
use Rattle.type_expressions.specs.PartLists.{list_links, list_fields}
use Rattle.type_expressions.specs.PartsGiven.{part_of, links_of, selectors_of, place_part, arguments_of, type_part, fields_part, designated, linked_by}
use Rattle.type_expressions.specs.Turns.{nothing_linked, nothing_walked, nothing_given, nothing_fielded}
use Rattle.type_expressions.proofs.TurnLemmas.{link-turn, links-end, field-turn, index-turn, selectors-end, field-more, fields-end}
use Rattle.type_expressions.proofs.ArgumentLemmas.{place-turn, other-turn, arguments-end, formal-first, formal-rest}

-- what is left of a list, and the one before it
drop_more : {A : Type 0} (xs : List A) (i : ℕ) (x : A) → i < length xs → x ≡ get_or xs i x → drop i xs ≡ x ∷ drop (i + 1) xs
drop_more xs i x lt is = drop-cons xs i x lt ∙ ap (λ y. y ∷ drop (suc i) xs) (sym is) ∙ ap (λ j. x ∷ drop j xs) (sym (add-one i))

drop_none : {A : Type 0} (xs : List A) (i : ℕ) → length xs ≤ i → drop i xs ≡ []
drop_none [] zero h = refl
drop_none [] (suc i) h = refl
drop_none (x ∷ xs) zero h = absurd (omega (arith, h))
drop_none (x ∷ xs) (suc i) h = drop_none xs i (omega (arith, h))

pub link-done : (x x' : Context) (of : Simple) (l : Link) (d d' : JudgedLinks) (part fit : Judged) (at : Span) (rest : List Link) →
    part ≡ part_of (found x.scope x.known l.operand) → x' ≡ moved x (found x.scope x.known l.operand).known → at ≡ place_of l.operand →
    fit ≡ kept (fits (has_values_of of) part.of) at part → d' ≡ linked_by l.op fit d →
    linked d' (list_links x'.scope x'.known of rest) ≡ linked d (list_links x.scope x.known of (l ∷ rest))
link-done x x' of l d d' part fit at rest p c w o m =
    ap (λ z. linked z (list_links x'.scope x'.known of rest)) m
    ∙ ap (λ z. linked (linked_by l.op z d) (list_links x'.scope x'.known of rest)) o
    ∙ ap (λ z. linked (linked_by l.op (kept (fits (has_values_of of) part.of) z part) d) (list_links x'.scope x'.known of rest)) w
    ∙ ap (λ (z : Judged). linked (linked_by l.op (kept (fits (has_values_of of) z.of) (place_of l.operand) z) d) (list_links x'.scope x'.known of rest)) p
    ∙ ap (λ (z : Context). linked (linked_by l.op (kept (fits (has_values_of of) (part_of (found x.scope x.known l.operand)).of) (place_of l.operand) (part_of (found x.scope x.known l.operand))) d) (list_links z.scope z.known of rest)) c
    ∙ link-turn x.scope x.known of l d rest

pub links-stop : (s : Scope) (k : Known) (of : Simple) (all : List Link) (i : ℕ) (d : JudgedLinks) (whole : FoundLinks) → length all ≤ i → linked d (list_links s k of (drop i all)) ≡ linked nothing_linked whole → stopped d.weight ≡ d.weight → d ≡ links_of whole
links-stop s k of all i d whole le h w =
    (links-end d k whole w (sym (ap (λ xs. linked d (list_links s k of xs)) (drop_none all i le)) ∙ h)).0

pub field-done : (x : Context) (at : Span) (of of' : Option AnyType) (name : Named) (one : Selector) (d d' : Walked) (fault : Option Fault) (rest : List Selector) →
    one ≡ pick.Field name → of' ≡ (field_chosen at name of).type → fault ≡ first_fault (field_chosen at name of).faults → d' ≡ field_walked name fault d →
    selected d' (list_selectors x.scope x.known at of' rest) ≡ selected d (list_selectors x.scope x.known at of (one ∷ rest))
field-done x at of of' name one d d' fault rest is t f m =
    ap (λ z. selected z (list_selectors x.scope x.known at of' rest)) m
    ∙ ap (λ z. selected (field_walked name z d) (list_selectors x.scope x.known at of' rest)) f
    ∙ ap (λ z. selected (field_walked name (first_fault (field_chosen at name of).faults) d) (list_selectors x.scope x.known at z rest)) t
    ∙ field-turn x.scope x.known at of name d rest
    ∙ ap (λ z. selected d (list_selectors x.scope x.known at of (z ∷ rest))) (sym is)

pub index-done : (x x' : Context) (at place : Span) (of of' : Option AnyType) (index : Expr) (one : Selector) (d d' : Walked) (part : Judged) (rest : List Selector) →
    one ≡ pick.Index index → part ≡ part_of (found x.scope x.known index) → x' ≡ moved x (found x.scope x.known index).known → place ≡ place_of index →
    of' ≡ (item_after at place part of).type → d' ≡ index_walked at place part of d →
    selected d' (list_selectors x'.scope x'.known at of' rest) ≡ selected d (list_selectors x.scope x.known at of (one ∷ rest))
index-done x x' at place of of' index one d d' part rest is p c w t m =
    ap (λ z. selected z (list_selectors x'.scope x'.known at of' rest)) m
    ∙ ap (λ z. selected (index_walked at place part of d) (list_selectors x'.scope x'.known at z rest)) t
    ∙ ap (λ z. selected (index_walked at z part of d) (list_selectors x'.scope x'.known at (item_after at z part of).type rest)) w
    ∙ ap (λ (z : Judged). selected (index_walked at (place_of index) z of d) (list_selectors x'.scope x'.known at (item_after at (place_of index) z of).type rest)) p
    ∙ ap (λ (z : Context). selected (index_walked at (place_of index) (part_of (found x.scope x.known index)) of d) (list_selectors z.scope z.known at (item_after at (place_of index) (part_of (found x.scope x.known index)) of).type rest)) c
    ∙ index-turn x.scope x.known at of index d rest
    ∙ ap (λ z. selected d (list_selectors x.scope x.known at of (z ∷ rest))) (sym is)

pub selectors-stop : (s : Scope) (k : Known) (at : Span) (of : Option AnyType) (all : List Selector) (i : ℕ) (d : Walked) (whole : FoundSelectors) → length all ≤ i → selected d (list_selectors s k at of (drop i all)) ≡ selected nothing_walked whole → stopped d.weight ≡ d.weight → selectors_judged of d ≡ selectors_of whole
selectors-stop s k at of all i d whole le h w =
    (selectors-end d of k whole w (sym (ap (λ xs. selected d (list_selectors s k at of xs)) (drop_none all i le)) ∙ h)).0

pub place-done : (x x' : Context) (at : Span) (formals : List Formal) (p : Designator) (one : Expr) (o : Option Formal) (d d' : JudgedArguments) (part : JudgedPlace) (j : JudgedArgument) (rest : List Expr) →
    one ≡ e.Place p → part ≡ place_part (designated x.scope x.known p) → x' ≡ moved x (designated x.scope x.known p).known → j ≡ placed o part → d' ≡ argued d j → o ≡ first_of formals →
    given d' (list_arguments x'.scope x'.known at (rest_of formals) rest) ≡ given d (list_arguments x.scope x.known at formals (one ∷ rest))
place-done x x' at formals p one o d d' part j rest is q c r m f =
    ap (λ z. given z (list_arguments x'.scope x'.known at (rest_of formals) rest)) m
    ∙ ap (λ z. given (argued d z) (list_arguments x'.scope x'.known at (rest_of formals) rest)) r
    ∙ ap (λ z. given (argued d (placed o z)) (list_arguments x'.scope x'.known at (rest_of formals) rest)) q
    ∙ ap (λ (z : Context). given (argued d (placed o (place_part (designated x.scope x.known p)))) (list_arguments z.scope z.known at (rest_of formals) rest)) c
    ∙ place-turn x.scope x.known at formals p o d rest f
    ∙ ap (λ z. given d (list_arguments x.scope x.known at formals (z ∷ rest))) (sym is)

pub other-done : (x x' : Context) (at place : Span) (formals : List Formal) (one : Expr) (o : Option Formal) (d d' : JudgedArguments) (part : Judged) (j : JudgedArgument) (rest : List Expr) →
    ((q : Option Formal) → argument_found x.scope x.known at q one ≡ calls.valued at (place_of one) q (found x.scope x.known one)) →
    part ≡ part_of (found x.scope x.known one) → x' ≡ moved x (found x.scope x.known one).known → place ≡ place_of one → j ≡ valued at place o part → d' ≡ argued d j → o ≡ first_of formals →
    given d' (list_arguments x'.scope x'.known at (rest_of formals) rest) ≡ given d (list_arguments x.scope x.known at formals (one ∷ rest))
other-done x x' at place formals one o d d' part j rest other q c w r m f =
    ap (λ z. given z (list_arguments x'.scope x'.known at (rest_of formals) rest)) m
    ∙ ap (λ z. given (argued d z) (list_arguments x'.scope x'.known at (rest_of formals) rest)) r
    ∙ ap (λ z. given (argued d (valued at z o part)) (list_arguments x'.scope x'.known at (rest_of formals) rest)) w
    ∙ ap (λ z. given (argued d (valued at (place_of one) o z)) (list_arguments x'.scope x'.known at (rest_of formals) rest)) q
    ∙ ap (λ (z : Context). given (argued d (valued at (place_of one) o (part_of (found x.scope x.known one)))) (list_arguments z.scope z.known at (rest_of formals) rest)) c
    ∙ other-turn x.scope x.known at formals one o d rest other f

pub arguments-step : (s : Scope) (x x' : Context) (at : Span) (fs : List Formal) (all : List Expr) (n n' i : ℕ) (one : Expr) (o : Option Formal) (d d' : JudgedArguments) (whole : Given) →
    i < length all → one ≡ get_or all i one → x.scope ≡ s → n ≡ i → n' ≡ n + 1 → given d (list_arguments s x.known at (drop n fs) (drop i all)) ≡ whole →
    o ≡ slice_get fs n → x'.scope ≡ x.scope →
    ((formals : List Formal) (rest : List Expr) → o ≡ first_of formals → given d' (list_arguments x'.scope x'.known at (rest_of formals) rest) ≡ given d (list_arguments x.scope x.known at formals (one ∷ rest))) →
    given d' (list_arguments s x'.known at (drop n' fs) (drop (i + 1) all)) ≡ whole
arguments-step s x x' at fs all n n' i one o d d' whole lt is sc ni nn h f sx turn =
    let t = turn (drop n fs) (drop (i + 1) all) (f ∙ formal-first fs n) in
    let next : drop n' fs ≡ rest_of (drop n fs) = ap (λ m. drop m fs) (nn ∙ add-one n) ∙ sym (formal-rest fs n) in
    ap (λ z. given d' (list_arguments s x'.known at z (drop (i + 1) all))) next
    ∙ ap (λ z. given d' (list_arguments z x'.known at (rest_of (drop n fs)) (drop (i + 1) all))) (sym (sx ∙ sc))
    ∙ t
    ∙ ap (λ z. given d (list_arguments z x.known at (drop n fs) (one ∷ drop (i + 1) all))) sc
    ∙ ap (λ z. given d (list_arguments s x.known at (drop n fs) z)) (sym (drop_more all i one lt is))
    ∙ h

pub arguments-stop : (s : Scope) (k : Known) (at : Span) (formals : List Formal) (all : List Expr) (i : ℕ) (d : JudgedArguments) (whole : FoundArguments) → length all ≤ i → given d (list_arguments s k at formals (drop i all)) ≡ given nothing_given whole → stopped d.weight ≡ d.weight → d ≡ arguments_of whole
arguments-stop s k at formals all i d whole le h w =
    (arguments-end d k whole w (sym (ap (λ xs. given d (list_arguments s k at formals xs)) (drop_none all i le)) ∙ h)).0

pub more-done : (x x' : Context) (one : FieldDecl) (names : List Named) (d d' : JudgedFields) (part : JudgedType) (rest : List FieldDecl) →
    part ≡ type_part (type_found x.scope x.known Unnamed one.body) → x' ≡ moved x (type_found x.scope x.known Unnamed one.body).known → names ≡ one.names → d' ≡ fielded_by names part d →
    fielded d' (list_fields x'.scope x'.known rest) ≡ fielded d (list_fields x.scope x.known (one ∷ rest))
more-done x x' one names d d' part rest p c n m =
    ap (λ z. fielded z (list_fields x'.scope x'.known rest)) m
    ∙ ap (λ z. fielded (fielded_by z part d) (list_fields x'.scope x'.known rest)) n
    ∙ ap (λ z. fielded (fielded_by one.names z d) (list_fields x'.scope x'.known rest)) p
    ∙ ap (λ (z : Context). fielded (fielded_by one.names (type_part (type_found x.scope x.known Unnamed one.body)) d) (list_fields z.scope z.known rest)) c
    ∙ field-more x.scope x.known one d rest

pub fields-stop : (s : Scope) (k : Known) (all : List FieldDecl) (i : ℕ) (d : JudgedFields) (whole : FoundFields) → length all ≤ i → fielded d (list_fields s k (drop i all)) ≡ fielded nothing_fielded whole → d ≡ fields_part whole
fields-stop s k all i d whole le h =
    (fields-end d k whole (sym (ap (λ xs. fielded d (list_fields s k xs)) (drop_none all i le)) ∙ h)).0
