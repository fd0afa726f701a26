-- What code gives of a whole, from what it gives of the parts.
use Rattle.std.proofs.lemmas.Bool.Decides.{nat_tests}
use Rattle.std.proofs.Common.{◌≡◌, ℕ, zero, suc, ◌+◌, ◌*◌, ◌-◌, ◌^◌, ◌≤◌, ◌<◌, cond, arith, Bool, true, false, ◌&&◌, ◌||◌, not, List, [], ◌∷◌, ◌++◌, length, Option, None, Some, refl, ap, sym, subst, ◌∙◌, is_some}
use Rattle.std.proofs.Math.Nat.{suc-mul}
use Rattle.std.specs.Prelude.{ℤ, nat_le, is_none, option_map, unwrap_or}
use Rattle.murphi_ast.specs.declared.token.Span.{Span}
use Rattle.murphi_ast.specs.declared.expr.Named.{Named}
use Rattle.murphi_ast.specs.declared.expr.CompareOp.{CompareOp}
use Rattle.murphi_typed.specs.declared.types.Simple.{Simple}
use Rattle.murphi_typed.specs.declared.types.Simple.TheVariants as simple
use Rattle.murphi_typed.specs.declared.types.AnyType as t
use Rattle.murphi_typed.specs.declared.types.AnyType.{AnyType}
use Rattle.murphi_typed.specs.declared.types.Field.{Field}
use Rattle.murphi_typed.specs.declared.expr.Expr as x
use Rattle.murphi_typed.specs.declared.expr.Expr.{Expr}
use Rattle.murphi_typed.specs.declared.expr.Arguments as a
use Rattle.murphi_typed.specs.WellTyped.{numbers, only_if, widened}
use Rattle.murphi_types.specs.declared.fault.Cause.{Cause}
use Rattle.murphi_types.specs.declared.fault.Cause.TheVariants as cause
use Rattle.murphi_types.specs.declared.fault.Fault.{Fault}
use Rattle.murphi_types.specs.declared.scope.Meaning.{Meaning}
use Rattle.murphi_types.specs.Faults.{sooner, first_fault, unless}
use Rattle.murphi_types.specs.Weights.{stopped, turns_of}
use Rattle.murphi_types.specs.Fitting.{fits, is_simple, is_truth, as_value, simple_part}
use Rattle.murphi_types.specs.Found.{Found, FoundLinks, FoundParts, wanted, not_found, minus_found, implies_found, compare_found, parts_found, choice_found, chain_found}
use Rattle.murphi_types.specs.Designators.{FoundPlace, FoundSelectors, Chosen, start_of, start_type, place_made, read_found, undefined_found}
use Rattle.murphi_types.specs.Designators as found
use Rattle.murphi_types.specs.Calls.{Callee, FoundArguments, call_found, value_faults, count_fits, result_of}
use Rattle.murphi_types.specs.Types.{FoundType, FoundNumber, FoundFields, type_made, range_type, range_found, simple_wanted, array_found, array_type, record_found, record_type, quantified_found, scalarset_found, scalarset_type, Unnamed}
use Rattle.type_parts.specs.declared.judged.Judged.{Judged}
use Rattle.type_parts.specs.declared.judged.JudgedType.{JudgedType}
use Rattle.type_parts.specs.declared.judged.JudgedNumber.{JudgedNumber}
use Rattle.type_parts.specs.declared.judged.JudgedPlace.{JudgedPlace}
use Rattle.type_parts.specs.declared.judged.Start.{Start}
use Rattle.type_parts.specs.Judging.{own, judged, judged_links, kept, all_judged, not_judged, minus_judged, implies_judged, compare_judged, choice_judged, chain_judged}
use Rattle.type_parts.proofs.FaultLemmas.{first-append, first-unless, sooner-assoc}
use Rattle.type_parts.proofs.WeightLemmas.{stopped-stopped, stopped-suc, stopped-left, stopped-right}
use Rattle.type_forms.specs.Designating.{started, begun, judged_selectors, judged_place, placed_judged, read_of, read_judged, undefined_of, undefined_judged}
use Rattle.type_forms.specs.Calling.{judged_callee, judged_arguments, call_judged}
use Rattle.type_forms.specs.Writing.{judged_type, judged_number, judged_fields, after, range_judged, simply, array_judged, record_judged, quantified_judged, scalarset_judged}
use Rattle.type_forms.specs.declared.written.Naming.TheVariants as naming

-- Weights

pub stopped-sum : (m n : ℕ) → stopped (stopped m + stopped n) ≡ stopped (m + n)
stopped-sum m n = stopped-left m (stopped n) ∙ stopped-right m n

pub pair-weight : (m n : ℕ) → stopped (suc (m + n)) ≡ stopped (suc (stopped (stopped m + stopped n)))
pair-weight m n = sym (ap (λ w. stopped (suc w)) (stopped-sum m n) ∙ stopped-suc (m + n))

pub triple-weight : (l m n : ℕ) → stopped (suc (l + (m + n))) ≡ stopped (suc (stopped (stopped l + stopped (stopped m + stopped n))))
triple-weight l m n = pair-weight l (m + n) ∙ ap (λ w. stopped (suc (stopped (stopped l + w)))) (sym (stopped-sum m n))

-- Faults

pub first-wanted : (fs : List Fault) (b : Bool) (c : Cause) (at : Span) → first_fault (fs ++ unless b c at) ≡ sooner (first_fault fs) (own b c at)
first-wanted fs b c at = first-append fs (unless b c at) ∙ ap (sooner (first_fault fs)) (first-unless b c at)

pub first-three : (fs gs hs : List Fault) → first_fault (fs ++ (gs ++ hs)) ≡ sooner (first_fault fs) (sooner (first_fault gs) (first_fault hs))
first-three fs gs hs = first-append fs (gs ++ hs) ∙ ap (sooner (first_fault fs)) (first-append gs hs)

-- Expressions

pub kept-is : (test : AnyType → Bool) (at : Span) (f : Found) → judged (wanted test at f) ≡ kept (fits test f.type) at (judged f)
kept-is test at f =
    ap (λ o. record { of = only_if (fits test f.type) f.type; tree = f.tree; weight = stopped f.weight; fault = o })
    (first-wanted f.faults (fits test f.type) cause.E07 at)

pub not-is : (f : Found) → judged (not_found f) ≡ not_judged (judged f)
not-is f = ap (λ w. all_judged (is_some f.type) simple.Truth (x.Not f.tree) w (first_fault f.faults)) (sym (stopped-suc f.weight))

pub minus-is : (f : Found) → judged (minus_found f) ≡ minus_judged (judged f)
minus-is f = ap (λ w. all_judged (is_some f.type) numbers (x.Minus f.tree) w (first_fault f.faults)) (sym (stopped-suc f.weight))

pub implies-is : (f g : Found) → judged (implies_found f g) ≡ implies_judged (judged f) (judged g)
implies-is f g =
    ap (λ w. all_judged (is_some f.type && is_some g.type) simple.Truth (x.Implies f.tree g.tree) w (first_fault (f.faults ++ g.faults))) (pair-weight f.weight g.weight)
    ∙ ap (λ o. all_judged (is_some f.type && is_some g.type) simple.Truth (x.Implies f.tree g.tree) (stopped (suc (stopped (stopped f.weight + stopped g.weight)))) o) (first-append f.faults g.faults)

pub compare-is : (op : CompareOp) (f g : Found) → judged (compare_found op f g) ≡ compare_judged op (judged f) (judged g)
compare-is op f g =
    ap (λ w. all_judged (is_some f.type && is_some g.type) simple.Truth (x.Compare op f.tree g.tree) w (first_fault (f.faults ++ g.faults))) (pair-weight f.weight g.weight)
    ∙ ap (λ o. all_judged (is_some f.type && is_some g.type) simple.Truth (x.Compare op f.tree g.tree) (stopped (suc (stopped (stopped f.weight + stopped g.weight)))) o) (first-append f.faults g.faults)

abbrev pub choice_whole : Found → Found → Found → ℕ → Option Fault → Judged
choice_whole f g h w o =
    record {
      of = only_if (is_some f.type) (only_if (is_some h.type) g.type);
      tree = x.Choice f.tree g.tree h.tree;
      weight = w;
      fault = o;
    }

pub choice-is : (f g h : Found) → judged (choice_found f (parts_found g h)) ≡ choice_judged (judged f) (judged g) (judged h)
choice-is f g h =
    ap (λ w. choice_whole f g h w (first_fault (f.faults ++ (g.faults ++ h.faults)))) (triple-weight f.weight g.weight h.weight)
    ∙ ap (choice_whole f g h (stopped (suc (stopped (stopped f.weight + stopped (stopped g.weight + stopped h.weight)))))) (first-three f.faults g.faults h.faults)

pub chain-is : (type : Simple) (f : Found) (g : FoundLinks) → judged (chain_found type f g) ≡ chain_judged type (judged f) (judged_links g)
chain-is type f g =
    ap (λ w. all_judged (is_some f.type && g.typed) type (x.Chain f.tree g.trees) w (first_fault (f.faults ++ g.faults))) (pair-weight f.weight g.weight)
    ∙ ap (λ o. all_judged (is_some f.type && g.typed) type (x.Chain f.tree g.trees) (stopped (suc (stopped (stopped f.weight + stopped g.weight)))) o) (first-append f.faults g.faults)

-- Designators

read-tree-is : (p : FoundPlace) (s : found.Start) → found.read_tree p s ≡ read_of (started s) p.selectors p.at
read-tree-is p (found.Rooted root) = refl
read-tree-is p (found.Fixed tree) = refl
read-tree-is p found.Nowhere = refl

pub read-is : (p : FoundPlace) → judged (read_found p) ≡ read_judged (judged_place p)
read-is p = ap (λ tree. record { of = option_map as_value p.type; tree = tree; weight = stopped p.weight; fault = first_fault p.faults }) (read-tree-is p p.start)

undefined-tree-is : (p : FoundPlace) (s : found.Start) → found.undefined_tree p s ≡ undefined_of (started s) p.selectors p.at
undefined-tree-is p (found.Rooted root) = refl
undefined-tree-is p (found.Fixed tree) = refl
undefined-tree-is p found.Nowhere = refl

pub undefined-is : (p : FoundPlace) → judged (undefined_found p) ≡ undefined_judged (judged_place p)
undefined-is p =
    let typed = is_some p.type && fits is_simple p.type in
    ap (λ tree. all_judged typed simple.Truth tree (stopped (suc p.weight)) (first_fault (p.faults ++ unless (fits is_simple p.type) cause.E07 p.at))) (undefined-tree-is p p.start)
    ∙ ap (λ w. all_judged typed simple.Truth (undefined_of (started p.start) p.selectors p.at) w (first_fault (p.faults ++ unless (fits is_simple p.type) cause.E07 p.at))) (sym (stopped-suc p.weight))
    ∙ ap (all_judged typed simple.Truth (undefined_of (started p.start) p.selectors p.at) (stopped (suc (stopped p.weight)))) (first-wanted p.faults (fits is_simple p.type) cause.E07 p.at)

abbrev pub place_whole : Span → Option Meaning → FoundSelectors → ℕ → Option Fault → JudgedPlace
place_whole at what g w o =
    record { start = started (start_of what); at = at; of = g.type; selectors = g.trees; weight = w; fault = o }

pub place-is : (at : Span) (what : Option Meaning) (g : FoundSelectors) → judged_place (place_made at what (start_type at what) g) ≡ placed_judged at (begun at what).start (begun at what).fault (judged_selectors g)
place-is at what g =
    ap (λ w. place_whole at what g w (first_fault ((start_type at what).faults ++ g.faults))) (sym (stopped-suc g.weight))
    ∙ ap (place_whole at what g (stopped (suc (stopped g.weight)))) (first-append (start_type at what).faults g.faults)

-- Calls

abbrev pub call_whole : Span → Callee → FoundArguments → ℕ → Option Fault → Judged
call_whole at c g w o =
    record {
      of = only_if (g.typed && count_fits c.routine (length g.trees))
          (option_map (λ type. t.Simple (widened type)) (result_of c.routine));
      tree = x.Call c.number (a.Of g.trees) at;
      weight = w;
      fault = o;
    }

pub call-is : (b : Bool) (at : Span) (c : Callee) (g : FoundArguments) → judged (call_found b at c g) ≡ call_judged b at (judged_callee c) (judged_arguments g)
call-is b at c g =
    let own = unless (count_fits c.routine (length g.trees)) cause.E11 at in
    let vs = value_faults b at c.routine in
    ap (λ w. call_whole at c g w (first_fault (c.faults ++ (vs ++ (own ++ g.faults))))) (sym (ap (λ w. stopped (suc w)) (stopped-left g.weight c.weight) ∙ stopped-suc (g.weight + c.weight)))
    ∙ ap (call_whole at c g (stopped (suc (stopped (stopped g.weight + c.weight)))))
    (first-append c.faults (vs ++ (own ++ g.faults))
    ∙ ap (sooner (first_fault c.faults)) (first-three vs own g.faults
    ∙ ap (λ o. sooner (first_fault vs) (sooner o (first_fault g.faults))) (first-unless (count_fits c.routine (length g.trees)) cause.E11 at)))

-- Types

pub range-is : (at : Span) (f g : FoundNumber) → judged_type (range_found at f g) ≡ range_judged at (judged_number f) (judged_number g)
range-is at f g =
    ap (λ o. record { of = (range_type at f.number g.number).type; fault = o })
    (first-append (f.faults ++ g.faults) (range_type at f.number g.number).faults
    ∙ ap (λ o. sooner o (first_fault (range_type at f.number g.number).faults)) (first-append f.faults g.faults))

pub simple-is : (at : Span) (f : FoundType) → judged_type (simple_wanted at f) ≡ simply at (judged_type f)
simple-is at f = ap (λ o. record { of = only_if (fits is_simple f.type) f.type; fault = o }) (first-wanted f.faults (fits is_simple f.type) cause.E07 at)

pub array-is : (f g : FoundType) → judged_type (array_found f g) ≡ array_judged (judged_type f) (judged_type g)
array-is f g = ap (λ o. record { of = array_type (simple_part f.type) g.type; fault = o }) (first-append f.faults g.faults)

pub scalarset-is : (at : Span) (f : FoundNumber) → judged_type (scalarset_found Unnamed at f) ≡ scalarset_judged naming.Unnamed at f.known (judged_number f)
scalarset-is at f =
    ap (λ o. record { of = (scalarset_type Unnamed at f.known f.number).type; fault = o })
    (first-append f.faults (scalarset_type Unnamed at f.known f.number).faults)

by_test : (n : ℕ) → nat_le (2 ^ 64) n ≡ true → 2 ^ 64 ≤ n
by_test n h = grind (arith, nat_tests)

stopped-high : (n : ℕ) → 2 ^ 64 ≤ n → stopped n ≡ 2 ^ 64 - 1
stopped-high n h = grind (arith, nat_tests)

more-high : (m n : ℕ) → 2 ^ 64 ≤ n → 2 ^ 64 ≤ suc m * n
more-high m n h =
    let p : 2 ^ 64 ≤ m * n + n = omega arith in
    subst (λ x. 2 ^ 64 ≤ x) (sym (suc-mul m n)) p

many : (m n : ℕ) → 2 ^ 64 ≤ n → stopped (m * (2 ^ 64 - 1)) ≡ stopped (m * n)
many zero n h = let e : 0 * (2 ^ 64 - 1) ≡ 0 * n = omega arith in ap stopped e
many (suc zero) n h = grind (arith, nat_tests)
many (suc (suc m)) n h =
    stopped-high (suc (suc m) * (2 ^ 64 - 1)) (omega arith)
    ∙ sym (stopped-high (suc (suc m) * n) (more-high (suc m) n h))

pub stopped-times : (m n : ℕ) → stopped (m * stopped n) ≡ stopped (m * n)
stopped-times m n = go (nat_le (2 ^ 64) n) refl
  where
    go : (b : Bool) → nat_le (2 ^ 64) n ≡ b → stopped (m * cond b (2 ^ 64 - 1) n) ≡ stopped (m * n)
    go false h = refl
    go true h = many m n (by_test n h)

abbrev pub quantified_whole : Bool → FoundType → Found → ℕ → Option Fault → Judged
quantified_whole all f g w o =
    record {
      of = only_if (is_some f.type && is_some g.type) (Some (t.Simple simple.Truth));
      tree = x.Quantified all (unwrap_or (simple_part f.type) simple.Truth) g.tree;
      weight = w;
      fault = o;
    }

pub quantified-is : (all : Bool) (f : FoundType) (g : Found) → judged (quantified_found all f g) ≡ quantified_judged all (judged_type f) (judged g)
quantified-is all f g =
    let n = turns_of (simple_part f.type) in
    ap (λ w. quantified_whole all f g w (first_fault (f.faults ++ g.faults)))
    (sym (ap (λ w. stopped (suc w)) (stopped-times n g.weight) ∙ stopped-suc (n * g.weight)))
    ∙ ap (quantified_whole all f g (stopped (suc (stopped (n * stopped g.weight))))) (first-append f.faults g.faults)
