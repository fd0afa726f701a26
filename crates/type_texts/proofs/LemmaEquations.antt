-- What is found of a lemma, from what code gives of its parts.
use Rattle.std.proofs.Common.{◌≡◌, ℕ, suc, ◌≤◌, Bool, true, false, List, [], ◌∷◌, ◌++◌, map, length, drop, Option, None, Some, refl, ap, sym, subst, ◌∙◌, arith, is_some}
use Rattle.std.specs.Prelude.{if◌then◌else◌}
use Rattle.std.proofs.lemmas.Bool.Decides.{nat_tests}
use Rattle.murphi_ast.specs.declared.token.Span.{Span}
use Rattle.murphi_ast.specs.declared.expr.Expr.{Expr}
use Rattle.murphi_typed.specs.declared.expr.Expr.{Expr as Tree}
use Rattle.murphi_typed.specs.declared.protocol.Declared.{Declared}
use Rattle.murphi_typed.specs.declared.protocol.Typed.{Typed}
use Rattle.murphi_typed.specs.declared.protocol.TypedFormula.{TypedFormula}
use Rattle.murphi_typed.specs.declared.types.AnyType.{AnyType}
use Rattle.murphi_typed.specs.declared.types.Kind.{Kind}
use Rattle.murphi_types.specs.declared.fault.Cause.TheVariants as cause
use Rattle.murphi_types.specs.declared.fault.Quantity.TheVariants as quantity
use Rattle.murphi_types.specs.declared.fault.Fault.{Fault}
use Rattle.murphi_types.specs.declared.scope.Known.{Known}
use Rattle.murphi_types.specs.declared.scope.Scope.{Scope}
use Rattle.murphi_types.specs.Faults.{is_before, sooner, first_fault}
use Rattle.murphi_types.specs.Places.{place_of}
use Rattle.murphi_types.specs.Weights.{stopped, weight_faults}
use Rattle.murphi_types.specs.Fitting.{is_truth}
use Rattle.murphi_types.specs.Found.{Found, wanted}
use Rattle.murphi_types.specs.Typing.{found}
use Rattle.murphi_types.specs.Repeats.{repeats, enum_names, field_repeats}
use Rattle.murphi_types.specs.Lemmas.{known_of, lemma_scope, lemma_found, lemma_faults, lemma_typed, weight_faults_of, global_names}
use Rattle.type_parts.specs.declared.context.Context.{Context}
use Rattle.type_parts.specs.declared.judged.Judged.{Judged}
use Rattle.type_parts.specs.Contexts.{moved}
use Rattle.type_parts.proofs.FaultLemmas.{first-append}
use Rattle.type_expressions.specs.PartsGiven.{part_of}
use Rattle.type_expressions.proofs.PartLemmas.{kept-is}
use Rattle.type_texts.specs.declared.refusal.TypeRefusal.{TypeRefusal}
use Rattle.type_texts.specs.declared.refusal.TypeRefusal.TheVariants as refusal
use Rattle.type_texts.specs.Lemmas.{truth_wanted, lemma_context, own_kinds, formula_with}
use Rattle.type_texts.specs.Refusing.{told, TellsFirst, wants_memory, first_of}

-- A part that has to be a truth value

truth-is : (at : Span) (f : Found) → truth_wanted at (part_of f) ≡ part_of (wanted is_truth at f)
unfolding part_of
truth-is at f = sym (kept-is is_truth at f)

abbrev context_of : Scope → Known → Context
context_of s k = record { scope = s; known = k }

append-assoc : {A : Type 0} (xs ys zs : List A) → (xs ++ ys) ++ zs ≡ xs ++ (ys ++ zs)
append-assoc [] ys zs = refl
append-assoc (x ∷ xs) ys zs = ap (λ ws. x ∷ ws) (append-assoc xs ys zs)

-- faults, where there is a type
abbrev faults_by : Option AnyType → List Fault → List Fault
faults_by o fs = if is_some o then fs else []

-- Weights

low : (at : Span) (w weight : ℕ) → weight ≤ 10000 → weight ≡ stopped w → None ≡ first_fault (weight_faults at w)
low at w weight h is = grind (arith, nat_tests)

high : (at : Span) (w weight : ℕ) → suc 10000 ≤ weight → weight ≡ stopped w →
    Some (record { cause = cause.E16 quantity.Weight weight 10000; at = at }) ≡ first_fault (weight_faults at w)
high at w weight h is = grind (arith, nat_tests)

pub weight_fits : (at : Span) (weight : ℕ) → weight ≤ 10000 → (w : ℕ) → weight ≡ stopped w →
    None ≡ first_fault (weight_faults at w)
weight_fits at weight h w is = low at w weight h is

pub weight_passes : (at : Span) (weight : ℕ) → suc 10000 ≤ weight → (w : ℕ) → weight ≡ stopped w →
    Some (record { cause = cause.E16 quantity.Weight weight 10000; at = at }) ≡ first_fault (weight_faults at w)
weight_passes at weight h w is = high at w weight h is

pub ruleset weights = (weight_fits, weight_passes)

-- an ill-typed part passes no limit
pub untyped : (at : Span) (j : Judged) → j.of ≡ None → (f : Found) → j ≡ part_of f →
    None ≡ first_fault (weight_faults_of at f)
unfolding part_of
untyped at j none f is =
    let no : f.type ≡ None = ap (λ (j : Judged). j.of) (sym is) ∙ none in
    subst (λ o. None ≡ first_fault (faults_by o (weight_faults at f.weight))) (sym no) refl

pub typed : (at : Span) (j : Judged) (t : AnyType) (o : Option Fault) → Some t ≡ j.of →
    ((w : ℕ) → j.weight ≡ stopped w → o ≡ first_fault (weight_faults at w)) → (f : Found) → j ≡ part_of f →
    o ≡ first_fault (weight_faults_of at f)
unfolding part_of
typed at j t o some passed f is =
    let yes : Some t ≡ f.type = some ∙ ap (λ (j : Judged). j.of) is in
    subst (λ type. o ≡ first_fault (faults_by type (weight_faults at f.weight))) yes
    (passed f.weight (ap (λ (j : Judged). j.weight) is))

pub ruleset passing = (untyped)

-- The first fault

first-of-lemma : (T : Typed) (e : Expr) (j : Judged) (g h : Option Fault) → j ≡ part_of (lemma_found T e) →
    g ≡ first_fault (repeats (global_names T) (enum_names e) ++ field_repeats e) →
    ((f : Found) → j ≡ part_of f → h ≡ first_fault (weight_faults_of (place_of e) f)) →
    sooner j.fault (sooner g h) ≡ first_fault (lemma_faults T e)
unfolding part_of
first-of-lemma T e j g h is g-is h-is =
    let f-is : j.fault ≡ first_fault (lemma_found T e).faults = ap (λ (j : Judged). j.fault) is in
    let later : sooner g h ≡ first_fault (repeats (global_names T) (enum_names e) ++ (field_repeats e ++ weight_faults_of (place_of e) (lemma_found T e))) =
    ap (λ o. sooner o h) g-is
    ∙ ap (sooner (first_fault (repeats (global_names T) (enum_names e) ++ field_repeats e))) (h-is (lemma_found T e) is)
    ∙ sym (first-append (repeats (global_names T) (enum_names e) ++ field_repeats e) (weight_faults_of (place_of e) (lemma_found T e)))
    ∙ ap first_fault (append-assoc (repeats (global_names T) (enum_names e)) (field_repeats e) (weight_faults_of (place_of e) (lemma_found T e))) in
    ap (λ o. sooner o (sooner g h)) f-is
    ∙ ap (sooner (first_fault (lemma_found T e).faults)) later
    ∙ sym (first-append (lemma_found T e).faults (repeats (global_names T) (enum_names e) ++ (field_repeats e ++ weight_faults_of (place_of e) (lemma_found T e))))

-- The typed lemma, from its steps

pub fault-done : (T : Typed) (e : Expr) (j : Judged) (names : List Declared) (g : Option Fault) (at : Span)
    (h rest first : Option Fault) → names ≡ T.names →
    g ≡ first_fault (repeats (map (λ (n : Declared). n.name) names) (enum_names e) ++ field_repeats e) →
    at ≡ place_of e → ((f : Found) → j ≡ part_of f → h ≡ first_fault (weight_faults_of at f)) →
    rest ≡ sooner g h → first ≡ sooner j.fault rest → j ≡ part_of (lemma_found T e) →
    first ≡ first_fault (lemma_faults T e)
fault-done T e j names g at h rest first names-is g-is at-is h-is rest-is first-is is =
    first-is
    ∙ ap (sooner j.fault) rest-is
    ∙ first-of-lemma T e j g h is
    (g-is ∙ ap (λ (ns : List Declared). first_fault (repeats (map (λ (n : Declared). n.name) ns) (enum_names e) ++ field_repeats e)) names-is)
    (λ f f-is. h-is f f-is ∙ ap (λ at. first_fault (weight_faults_of at f)) at-is)

pub part-done : (T : Typed) (e : Expr) (x : Context) (j : Judged) →
    j ≡ truth_wanted (place_of e) (part_of (found x.scope x.known e)) → x ≡ lemma_context T → j ≡ part_of (lemma_found T e)
part-done T e x j is there =
    is
    ∙ ap (λ (x : Context). truth_wanted (place_of e) (part_of (found x.scope x.known e))) there
    ∙ truth-is (place_of e) (found lemma_scope (known_of T) e)

pub tree-done : (T : Typed) (e : Expr) (x : Context) (j : Judged) →
    j ≡ truth_wanted (place_of e) (part_of (found x.scope x.known e)) → x ≡ lemma_context T → j.tree ≡ (lemma_found T e).tree
unfolding part_of
tree-done T e x j is there = ap (λ (j : Judged). j.tree) (part-done T e x j is there)

pub kinds-done : (T : Typed) (e : Expr) (x y : Context) (all kinds : List Kind) (count : ℕ) →
    y ≡ moved x (found x.scope x.known e).known → all ≡ y.known.kinds → count ≡ length T.kinds →
    kinds ≡ drop count all → x ≡ lemma_context T → kinds ≡ own_kinds T (lemma_found T e).known.kinds
kinds-done T e x y all kinds count y-is all-are count-is are there =
    are
    ∙ ap (λ n. drop n all) count-is
    ∙ ap (drop (length T.kinds))
    (all-are
    ∙ ap (λ (y : Context). y.known.kinds) y-is
    ∙ ap (λ (x : Context). (found x.scope x.known e).known.kinds) there)

pub context-is : (T : Typed) (s : Scope) (k : Known) → s ≡ lemma_scope → k ≡ known_of T →
    context_of s k ≡ lemma_context T
context-is T s k s-is k-is = ap (λ s. context_of s k) s-is ∙ ap (context_of lemma_scope) k-is

pub formula-done : (T : Typed) (e : Expr) (tree : Tree) (kinds : List Kind) (o : TypedFormula) →
    tree ≡ (lemma_found T e).tree → kinds ≡ own_kinds T (lemma_found T e).known.kinds → o ≡ formula_with T e tree kinds →
    o ≡ lemma_typed T e
formula-done T e tree kinds o tree-is kinds-are is =
    is
    ∙ ap (λ tree. formula_with T e tree kinds) tree-is
    ∙ ap (formula_with T e (lemma_found T e).tree) kinds-are

pub ruleset lemmas = (formula-done)

-- Answers

sooner-some : (f : Fault) (o : Option Fault) → sooner (Some f) o ≡ None → ⊥
sooner-some f None h = cc
sooner-some f (Some g) h = go (is_before g f) h
  where
    go : (b : Bool) → (if b then Some g else Some f) ≡ None → ⊥
    go true h = cc
    go false h = cc

pub no_faults : (fs : List Fault) → None ≡ first_fault fs → fs ≡ []
no_faults [] h = refl
no_faults (f ∷ fs) h = absurd (sooner-some f (first_fault fs) (sym h))

pub tells_first : (faults : List Fault) (f : Fault) (r : TypeRefusal) → r ≡ told f → Some f ≡ first_fault faults →
    TellsFirst faults r
tells_first faults f r is some = subst (λ r. TellsFirst faults r) (sym is) (first_of f (sym some))

pub tells_memory : (faults : List Fault) → TellsFirst faults refusal.Memory
tells_memory faults = wants_memory

pub ruleset answers = (no_faults, tells_first, tells_memory)
