-- The families of a place, and chains of terms, in terms of the parts that code reads.
use Rattle.std.proofs.Common.{◌≡◌, List, [], ◌∷◌, ◌++◌, map, Option, None, Some, refl, sym, ap, ◌∙◌, append_assoc, append-nil}
use Rattle.std.specs.List.{flat_map}
use Rattle.term_core.specs.declared.value.Value.{Value}
use Rattle.term_core.specs.declared.term.Term as t
use Rattle.term_core.specs.declared.term.Term.{Term}
use Rattle.rule_inline.specs.Tables.{Index, Axis, Among, Entry, with_axis, with_value, entries}
use Rattle.rule_parts.specs.Steps.{axis_on, value_on, extended, Tested, chained, chained_to}
use Rattle.rule_parts.proofs.ListLemmas.{mapped_joined, after_after, nothing_after}

-- one family after the other
abbrev entry_on : Entry → Entry → Entry
entry_on e f = record { tests = e.tests ++ f.tests; key = e.key ++ f.key; nodes = e.nodes ++ f.nodes }

abbrev all_on : List Entry → List Entry → List Entry
all_on es fs = flat_map (λ e. map (entry_on e) fs) es

pub flat_joined : {A B : Type 0} (f : A → List B) (xs ys : List A) → flat_map f (xs ++ ys) ≡ flat_map f xs ++ flat_map f ys
flat_joined f [] ys = refl
flat_joined f (x ∷ xs) ys = ap (λ zs. f x ++ zs) (flat_joined f xs ys) ∙ sym (append_assoc (f x) (flat_map f xs) (flat_map f ys))

entry_three : (e : Entry) (t : List Term) (k : List (Option Value)) (n : List Term) (f : Entry) → entry_on (record { tests = e.tests ++ t; key = e.key ++ k; nodes = e.nodes ++ n }) f ≡ entry_on e (record { tests = t ++ f.tests; key = k ++ f.key; nodes = n ++ f.nodes })
entry_three e t k n f =
    ap (λ ts. record { tests = ts; key = (e.key ++ k) ++ f.key; nodes = (e.nodes ++ n) ++ f.nodes }) (append_assoc e.tests t f.tests)
    ∙ ap (λ ks. record { tests = e.tests ++ (t ++ f.tests); key = ks; nodes = (e.nodes ++ n) ++ f.nodes }) (append_assoc e.key k f.key)
    ∙ ap (λ ns. record { tests = e.tests ++ (t ++ f.tests); key = e.key ++ (k ++ f.key); nodes = ns }) (append_assoc e.nodes n f.nodes)

same_tests : (e : Entry) → record { tests = e.tests ++ []; key = e.key ++ []; nodes = e.nodes ++ [] } ≡ e
same_tests e =
    ap (λ ts. record { tests = ts; key = e.key ++ []; nodes = e.nodes ++ [] }) (append-nil e.tests)
    ∙ ap (λ ks. record { tests = e.tests; key = ks; nodes = e.nodes ++ [] }) (append-nil e.key)
    ∙ ap (λ ns. record { tests = e.tests; key = e.key; nodes = ns }) (append-nil e.nodes)

axis_one : (e : Entry) (index : Term) (f : Entry) → entry_on (axis_on e index) f ≡ entry_on e (with_axis index f)
axis_one e index f =
    ap (λ ts. record { tests = ts ++ f.tests; key = (e.key ++ None ∷ []) ++ f.key; nodes = (e.nodes ++ index ∷ []) ++ f.nodes }) (sym (append-nil e.tests))
    ∙ entry_three e [] (None ∷ []) (index ∷ []) f

value_one : (e : Entry) (index : Term) (v : Value) (f : Entry) → entry_on (value_on index e v) f ≡ entry_on e (with_value index v f)
value_one e index v f =
    ap (λ ns. record { tests = (e.tests ++ t.Same index (t.Known v) ∷ []) ++ f.tests; key = (e.key ++ Some v ∷ []) ++ f.key; nodes = ns ++ f.nodes }) (sym (append-nil e.nodes))
    ∙ entry_three e (t.Same index (t.Known v) ∷ []) (Some v ∷ []) [] f

axis_all : (e : Entry) (index : Term) (fs : List Entry) → map (entry_on (axis_on e index)) fs ≡ map (entry_on e) (map (with_axis index) fs)
axis_all e index [] = refl
axis_all e index (f ∷ fs) = ap (λ x. x ∷ map (entry_on (axis_on e index)) fs) (axis_one e index f) ∙ ap (λ xs. entry_on e (with_axis index f) ∷ xs) (axis_all e index fs)

value_all : (e : Entry) (index : Term) (v : Value) (fs : List Entry) → map (entry_on (value_on index e v)) fs ≡ map (entry_on e) (map (with_value index v) fs)
value_all e index v [] = refl
value_all e index v (f ∷ fs) = ap (λ x. x ∷ map (entry_on (value_on index e v)) fs) (value_one e index v f) ∙ ap (λ xs. entry_on e (with_value index v f) ∷ xs) (value_all e index v fs)

values_all : (e : Entry) (index : Term) (vs : List Value) (fs : List Entry) → all_on (map (value_on index e) vs) fs ≡ map (entry_on e) (flat_map (λ v. map (with_value index v) fs) vs)
values_all e index [] fs = refl
values_all e index (v ∷ vs) fs =
    ap (λ xs. xs ++ all_on (map (value_on index e) vs) fs) (value_all e index v fs)
    ∙ ap (λ xs. map (entry_on e) (map (with_value index v) fs) ++ xs) (values_all e index vs fs)
    ∙ sym (mapped_joined (entry_on e) (map (with_value index v) fs) (flat_map (λ v. map (with_value index v) fs) vs))

axes_on : (es : List Entry) (index : Term) (fs : List Entry) → all_on (map (λ e. axis_on e index) es) fs ≡ all_on es (map (with_axis index) fs)
axes_on [] index fs = refl
axes_on (e ∷ es) index fs = ap (λ xs. xs ++ all_on (map (λ e. axis_on e index) es) fs) (axis_all e index fs) ∙ ap (λ xs. map (entry_on e) (map (with_axis index) fs) ++ xs) (axes_on es index fs)

values_on : (es : List Entry) (index : Term) (vs : List Value) (fs : List Entry) → all_on (flat_map (λ e. map (value_on index e) vs) es) fs ≡ all_on es (flat_map (λ v. map (with_value index v) fs) vs)
values_on [] index vs fs = refl
values_on (e ∷ es) index vs fs =
    flat_joined (λ e. map (entry_on e) fs) (map (value_on index e) vs) (flat_map (λ e. map (value_on index e) vs) es)
    ∙ ap (λ xs. xs ++ all_on (flat_map (λ e. map (value_on index e) vs) es) fs) (values_all e index vs fs)
    ∙ ap (λ xs. map (entry_on e) (flat_map (λ v. map (with_value index v) fs) vs) ++ xs) (values_on es index vs fs)

extended_nil : (es : List Entry) → es ≡ all_on es (entries [])
extended_nil [] = refl
extended_nil (e ∷ es) = ap (λ x. x ∷ es) (sym (same_tests e)) ∙ ap (λ xs. record { tests = e.tests ++ []; key = e.key ++ []; nodes = e.nodes ++ [] } ∷ xs) (extended_nil es)

extended_is : (es : List Entry) (at : List Index) → extended es at ≡ all_on es (entries at)
extended_is es [] = extended_nil es
extended_is es (Axis mark index ∷ at) = extended_is (map (λ e. axis_on e index) es) at ∙ axes_on es index (entries at)
extended_is es (Among vs index ∷ at) = extended_is (flat_map (λ e. map (value_on index e) vs) es) at ∙ values_on es index vs (entries at)

alone : (fs : List Entry) → map (entry_on (record { tests = []; key = []; nodes = [] })) fs ≡ fs
alone [] = refl
alone (f ∷ fs) = ap (λ xs. f ∷ xs) (alone fs)

pub extended_first : (at : List Index) → extended (entries []) at ≡ entries at
extended_first at = extended_is (entries []) at ∙ append-nil (map (entry_on (record { tests = []; key = []; nodes = [] })) (entries at)) ∙ alone (entries at)

-- chains

pub chained_to_last : (xs : List Tested) (x : Tested) (otherwise : Term) → chained_to (xs ++ x ∷ []) otherwise ≡ chained_to xs (t.If x.test x.term otherwise)
chained_to_last [] x otherwise = refl
chained_to_last (y ∷ xs) x otherwise = ap (t.If y.test y.term) (chained_to_last xs x otherwise)

pub chained_last : (xs : List Tested) (x : Tested) → chained (xs ++ x ∷ []) ≡ chained_to xs x.term
chained_last [] x = refl
chained_last (y ∷ []) x = refl
chained_last (y ∷ z ∷ xs) x = ap (t.If y.test y.term) (chained_last (z ∷ xs) x)

pub ruleset entering = (mapped_joined, after_after, nothing_after, flat_joined, extended_first, chained_to_last, chained_last)
