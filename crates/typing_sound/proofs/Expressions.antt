-- What is found of expressions and types without faults is well typed.
use Rattle.std.proofs.Common.{◌≡◌, ℕ, Bool, true, ◌&&◌, List, [], ◌∷◌, ◌++◌, Some, refl, sym, ap, subst, ◌∙◌, arith}
use Rattle.std.specs.Prelude.{◌^◌, pos, nat_le, nat_lt, is_some, unwrap_or}
use Rattle.std.proofs.lemmas.Bool.{and_parts, and_from, leb-true, lt-ltb}
use Rattle.term_core.specs.declared.value.Value.TheVariants as value
use Rattle.murphi_ast.specs.declared.token.Span.{Span}
use Rattle.murphi_ast.specs.declared.expr.CompareOp.{CompareOp}
use Rattle.murphi_ast.specs.declared.expr.CompareOp.TheVariants as compare
use Rattle.murphi_ast.specs.declared.expr.Expr as e
use Rattle.murphi_ast.specs.declared.expr.Expr.{Expr, Row_of-Expr, end_of-Expr, more_of-Expr, Row_of-Link, end_of-Link, more_of-Link, Row_of-Selector, end_of-Selector, more_of-Selector}
use Rattle.murphi_ast.specs.declared.expr.Selector as part
use Rattle.murphi_ast.specs.declared.expr.TypeExpr as w
use Rattle.murphi_ast.specs.declared.expr.TypeExpr.{TypeExpr, Row_of-FieldDecl, end_of-FieldDecl, more_of-FieldDecl}
use Rattle.murphi_ast.specs.Forms.{NotForm, CompareForm, ImpliesForm}
use Rattle.murphi_typed.specs.declared.types.Simple.{Simple}
use Rattle.murphi_typed.specs.declared.types.Simple.TheVariants as simple
use Rattle.murphi_typed.specs.declared.types.AnyType as t
use Rattle.murphi_typed.specs.declared.types.AnyType.{AnyType}
use Rattle.murphi_typed.specs.declared.expr.Expr as x
use Rattle.murphi_typed.specs.declared.protocol.Formal.{Formal}
use Rattle.murphi_typed.specs.WellTyped.{numbers, widened, same_simple, is_of, only_if, operand_type, comparable, first_of, rest_of, type_of, is_simple_type, is_type}
use Rattle.murphi_typed.specs.WellTyped as well
use Rattle.murphi_types.specs.declared.scope.Known.{Known}
use Rattle.murphi_types.specs.declared.scope.Scope.{Scope}
use Rattle.murphi_types.specs.Forms.{MinusForm, ChoiceForm, QuantifiedForm, RangeForm, ScalarsetForm, ArrayForm}
use Rattle.murphi_types.specs.Places.{place_of, type_place_of}
use Rattle.murphi_types.specs.Scopes.{looked, binding}
use Rattle.murphi_types.specs.Fitting.{is_truth, has_values_of, left_fits, right_fits, is_equality, simple_part}
use Rattle.murphi_types.specs.Fitting as fitting
use Rattle.murphi_types.specs.Constants.{is_constant}
use Rattle.murphi_types.specs.Found.{Found, wanted, FoundLinks, not_found, minus_found, implies_found, compare_found, parts_found, choice_found, chain_found}
use Rattle.murphi_types.specs.Designators.{start_type, place_made, index_type, index_fits}
use Rattle.murphi_types.specs.Calls.{callee_of, formals_of, placed, valued}
use Rattle.murphi_types.specs.Types.{FoundType, Naming, Unnamed, number_found, simple_wanted, quantified_found}
use Rattle.murphi_types.specs.Typing.{found, chain_operands, links_found, selectors_found, arguments_found, type_found, fields_found}
use Rattle.murphi_types.specs.Repeats.{repeats_in, field_names, field_repeats, link_repeats, selector_repeats, argument_repeats, type_repeats, fields_repeats}
use Rattle.typing_sound.specs.Spelled.{is_spelled, links_spelled, selectors_spelled, args_spelled, type_spelled, fields_spelled}
use Rattle.typing_sound.proofs.Grown.{Held, Grown, found-grown, links-grown, selectors-grown, arguments-grown, type-grown, fields-grown, placed-grown, valued-grown, placed-known, valued-known, scalarset-grown}
use Rattle.typing_sound.proofs.Fits.{Fits, looked-fits, moved, bound-fits}
use Rattle.typing_sound.proofs.TypeEquations.{list_chain, of-Known, of-Not, of-Minus, of-Chain, of-Compare, of-Implies, of-Choice, of-Quantified}
use Rattle.typing_sound.proofs.Tests.{nil-parts, wide-operand, OnlySimple, only-values, only-left, only-right}
use Rattle.typing_sound.proofs.Parts.{IsFound, IsValue, wanted-value, whole-found, is-of, is-some, comparable-is, AreLinks, first-type, link-step, AreSelected, field-step, item-step, place-step, read-step, undefined-step}
use Rattle.typing_sound.proofs.TypeSteps.{IsType, IsSimple, simple-step, named-step, number-step, range-step, enum-step, scalarset-step, array-step, AreFields, fields-step, record-step}
use Rattle.typing_sound.proofs.CallSteps.{AreArguments, Allowed, allowed-first, allowed-rest, placed-step, valued-step, arguments-step, callee-step, call-step}

-- Steps that do not recurse

-- what is held after more is held before it
pub before : (W : well.Scope) {k l : Known} → Grown k l → Held l.kinds W.kinds → Held k.kinds W.kinds
before W g held i x e = held i x (g.kinds i x e)

pub truth-only : OnlySimple is_truth
truth-only = only-values simple.Truth

number-only : OnlySimple fitting.is_number
number-only = only-values numbers

literal-number : (W : well.Scope) (n : ℕ) → nat_le n 32767 ≡ true → type_of W (x.Known (value.Number (pos n))) ≡ Some numbers
literal-number W n small =
    let below : nat_lt n (2 ^ 15) ≡ true = lt-ltb n (2 ^ 15) (omega (arith, leb-true n 32767 small)) in
    of-Known W (value.Number (pos n)) ∙ ap (λ b. only_if b (Some numbers)) below

not-step : (W : well.Scope) (one : Expr) (f : Found) → IsValue W is_truth f → IsFound W one (not_found f)
not-step W one f v =
    whole-found W one _ simple.Truth (x.Not f.tree) _ f.known f.faults (is-some W is_truth f v)
    (of-Not W f.tree ∙ ap (λ b. only_if b (Some simple.Truth)) (is-of W simple.Truth f v)) refl v.names

minus-step : (W : well.Scope) (one : Expr) (f : Found) → IsValue W fitting.is_number f → IsFound W one (minus_found f)
minus-step W one f v =
    whole-found W one _ numbers (x.Minus f.tree) _ f.known f.faults (is-some W fitting.is_number f v)
    (of-Minus W f.tree ∙ ap (λ b. only_if b (Some numbers)) (is-of W numbers f v)) refl v.names

implies-step : (W : well.Scope) (one : Expr) (f g : Found) → IsValue W is_truth f → IsValue W is_truth g → IsFound W one (implies_found f g)
implies-step W one f g u v =
    whole-found W one _ simple.Truth (x.Implies f.tree g.tree) _ g.known (f.faults ++ g.faults) (and_from _ _ (is-some W is_truth f u) (is-some W is_truth g v))
    (of-Implies W f.tree g.tree ∙ ap (λ b. only_if b (Some simple.Truth)) (and_from _ _ (is-of W simple.Truth f u) (is-of W simple.Truth g v))) refl v.names

compare-step : (W : well.Scope) (one : Expr) (op : CompareOp) (f g : Found) → IsValue W (left_fits (is_equality op)) f → IsValue W (right_fits (is_equality op) f.type) g → IsFound W one (compare_found op f g)
compare-step W one op f g u v =
    whole-found W one _ simple.Truth (x.Compare op f.tree g.tree) _ g.known (f.faults ++ g.faults) (and_from _ _ (is-some W (left_fits (is_equality op)) f u) (is-some W (right_fits (is_equality op) f.type) g v))
    (of-Compare W op f.tree g.tree ∙ ap (λ b. only_if b (Some simple.Truth)) (comparable-is W op f g u v)) refl v.names

choice-step : (W : well.Scope) (one : Expr) (f g h : Found) → IsValue W is_truth f → IsValue W (left_fits true) g → IsValue W (right_fits true g.type) h → IsFound W one (choice_found f (parts_found g h))
choice-step W one f g h u v w =
    record {
      type = t.Simple v.of;
      is = ap (λ b. only_if b (only_if (is_some h.type) g.type)) (is-some W is_truth f u) ∙ (ap (λ b. only_if b g.type) (is-some W (right_fits true g.type) h w) ∙ v.type);
      says = (
        of-Choice W f.tree g.tree h.tree
            ∙ (ap (λ b. only_if b (type_of W g.tree)) (and_from _ _ (is-of W simple.Truth f u) (comparable-is W compare.Equal g h v w)) ∙ v.is),
        v.wide,
      );
      value = λ e. refl;
      names = w.names;
    }

chain-step : (W : well.Scope) (one : Expr) (type : Simple) (f : Found) (g : FoundLinks) → widened type ≡ type → IsValue W (has_values_of type) f → AreLinks W type g → IsFound W one (chain_found type f g)
chain-step W one type f g wide v links =
    whole-found W one _ type (x.Chain f.tree g.trees) _ g.known (f.faults ++ g.faults) (and_from _ _ (is-some W (has_values_of type) f v) links.typed)
    (of-Chain W f.tree g.trees ∙ (ap (λ o. list_chain W o g.trees) (first-type W type f wide v) ∙ links.is)) wide links.names

wide-operands : {n : _} (row : Row_of-Link n) → widened (chain_operands row) ≡ chain_operands row
wide-operands end_of-Link = refl
wide-operands (more_of-Link op operand rest) = wide-operand op

quantified-step : (W : well.Scope) (one : Expr) (all : Bool) (f : FoundType) (g : Found) (u : IsSimple W f) → IsValue (well.binding W u.of) is_truth g → IsFound W one (quantified_found all f g)
quantified-step W one all f g u v =
    let over : unwrap_or (simple_part f.type) simple.Truth ≡ u.of = ap (λ o. unwrap_or (simple_part o) simple.Truth) u.is in
    record {
      type = t.Simple simple.Truth;
      is = ap (λ b. only_if b (Some (t.Simple simple.Truth))) (and_from _ _ (ap is_some u.is) (is-some (well.binding W u.of) is_truth g v));
      says = (
        ap (λ o. type_of W (x.Quantified all o g.tree)) over
            ∙ (of-Quantified W all u.of g.tree
            ∙ ap (λ b. only_if b (Some simple.Truth)) (and_from _ _ u.fine (is-of (well.binding W u.of) simple.Truth g v))),
        refl,
      );
      value = λ e. refl;
      names = v.names;
    }

truth-fine : (W : well.Scope) → is_type W.kinds (t.Simple simple.Truth) ≡ true
unfolding is_type
truth-fine W = refl

mutual
  unfolding found is_spelled field_repeats

  pub found-fits : (W : well.Scope) (s : Scope) (k : Known) (e : Expr) → Fits W s k → is_spelled e ≡ true → field_repeats e ≡ [] → Held (found s k e).known.kinds W.kinds → (found s k e).faults ≡ [] → IsFound W e (found s k e)
  found-fits W s k (e.Number n p) h spelled once held none =
      record { type = t.Simple numbers; is = refl; says = (literal-number W n spelled, refl); value = λ q. refl; names = h.names }
  found-fits W s k (e.Truth b p) h spelled once held none =
      record { type = t.Simple simple.Truth; is = refl; says = (of-Known W (value.Truth b), refl); value = λ q. refl; names = h.names }
  found-fits W s k (e.Place' root u row) h spelled once held none =
      let what = looked s k root.name in
      read-step W (e.Place' root u row) (place_made root.at what (start_type root.at what) (selectors_found s k root.at (start_type root.at what).type row)) refl
      (place-step W root.at what (λ o. selectors_found s k root.at o row) (looked-fits W s k root.name h)
      (λ type held none. selectors-fit W s k root.at type row h spelled once held none) held none)
  found-fits W s k (e.IsUndefined' root u row p) h spelled once held none =
      let what = looked s k root.name in
      undefined-step W (e.IsUndefined' root u row p) (place_made root.at what (start_type root.at what) (selectors_found s k root.at (start_type root.at what).type row)) refl
      (λ clear. place-step W root.at what (λ o. selectors_found s k root.at o row) (looked-fits W s k root.name h)
      (λ type held none. selectors-fit W s k root.at type row h spelled once held none) held clear) none
  found-fits W s k (e.Call' name u row) h spelled once held none =
      let c = callee_of s k name (looked s k name.name) in
      call-step W (e.Call' name u row) s.in_function name.at c (arguments_found s k name.at (formals_of c) row)
      (λ clear. callee-step W s k name (looked s k name.name) (looked-fits W s k name.name h) h.routines clear) h.formals
      (λ allowed clear. arguments-fit W s k name.at (formals_of c) row h allowed spelled once held clear) none
  found-fits W s k (NotForm body p) h spelled once held none =
      not-step W (NotForm body p) (wanted is_truth (place_of body) (found s k body))
      (wanted-value W body is_truth (place_of body) (found s k body) truth-only (λ clear. found-fits W s k body h spelled once held clear) none)
  found-fits W s k (MinusForm body p) h spelled once held none =
      minus-step W (MinusForm body p) (wanted fitting.is_number (place_of body) (found s k body))
      (wanted-value W body fitting.is_number (place_of body) (found s k body) number-only (λ clear. found-fits W s k body h spelled once held clear) none)
  found-fits W s k (e.Chain' u (more_of-Expr first end_of-Expr) v rest) h spelled once held none =
      let type = chain_operands rest in
      let F = wanted (has_values_of type) (place_of first) (found s k first) in
      let (one, two) = and_parts (is_spelled first) (links_spelled type rest) spelled in
      let (first_once, rest_once) = nil-parts (field_repeats first) (link_repeats rest) once in
      let (clear, more) = nil-parts F.faults (links_found s F.known type rest).faults none in
      let r = wanted-value W first (has_values_of type) (place_of first) (found s k first) (only-values type) (λ clear. found-fits W s k first h one first_once (before W (links-grown s F.known type rest) held) clear) clear in
      chain-step W (e.Chain' u (more_of-Expr first end_of-Expr) v rest) type F (links_found s F.known type rest) (wide-operands rest) r
      (links-fit W s F.known type rest (wide-operands rest) (moved h (found-grown s k first) r.names) two rest_once held more)
  found-fits W s k (CompareForm op left right) h spelled once held none =
      let F = wanted (left_fits (is_equality op)) (place_of left) (found s k left) in
      let G = wanted (right_fits (is_equality op) F.type) (place_of right) (found s F.known right) in
      let (one, two) = and_parts (is_spelled left) (is_spelled right) spelled in
      let (left_once, right_once) = nil-parts (field_repeats left) (field_repeats right) once in
      let (clear, more) = nil-parts F.faults G.faults none in
      let r = wanted-value W left (left_fits (is_equality op)) (place_of left) (found s k left) (only-left (is_equality op)) (λ clear. found-fits W s k left h one left_once (before W (found-grown s F.known right) held) clear) clear in
      compare-step W (CompareForm op left right) op F G r
      (wanted-value W right (right_fits (is_equality op) F.type) (place_of right) (found s F.known right) (only-right (is_equality op) F.type)
      (λ clear. found-fits W s F.known right (moved h (found-grown s k left) r.names) two right_once held clear) more)
  found-fits W s k (ImpliesForm left right) h spelled once held none =
      let F = wanted is_truth (place_of left) (found s k left) in
      let G = wanted is_truth (place_of right) (found s F.known right) in
      let (one, two) = and_parts (is_spelled left) (is_spelled right) spelled in
      let (left_once, right_once) = nil-parts (field_repeats left) (field_repeats right) once in
      let (clear, more) = nil-parts F.faults G.faults none in
      let r = wanted-value W left is_truth (place_of left) (found s k left) truth-only (λ clear. found-fits W s k left h one left_once (before W (found-grown s F.known right) held) clear) clear in
      implies-step W (ImpliesForm left right) F G r
      (wanted-value W right is_truth (place_of right) (found s F.known right) truth-only
      (λ clear. found-fits W s F.known right (moved h (found-grown s k left) r.names) two right_once held clear) more)
  found-fits W s k (ChoiceForm test a b) h spelled once held none =
      let F = wanted is_truth (place_of test) (found s k test) in
      let G = wanted (left_fits true) (place_of a) (found s F.known a) in
      let H = wanted (right_fits true G.type) (place_of b) (found s G.known b) in
      let (one, more_spelled) = and_parts (is_spelled test) (is_spelled a && is_spelled b) spelled in
      let (two, three) = and_parts (is_spelled a) (is_spelled b) more_spelled in
      let (test_once, more_once) = nil-parts (field_repeats test) (field_repeats a ++ field_repeats b) once in
      let (a_once, b_once) = nil-parts (field_repeats a) (field_repeats b) more_once in
      let (test_clear, more_clear) = nil-parts F.faults (G.faults ++ H.faults) none in
      let (a_clear, b_clear) = nil-parts G.faults H.faults more_clear in
      let a_held = before W (found-grown s G.known b) held in
      let u = wanted-value W test is_truth (place_of test) (found s k test) truth-only (λ clear. found-fits W s k test h one test_once (before W (found-grown s F.known a) a_held) clear) test_clear in
      let inner = moved h (found-grown s k test) u.names in
      let v = wanted-value W a (left_fits true) (place_of a) (found s F.known a) (only-left true) (λ clear. found-fits W s F.known a inner two a_once a_held clear) a_clear in
      choice-step W (ChoiceForm test a b) F G H u v
      (wanted-value W b (right_fits true G.type) (place_of b) (found s G.known b) (only-right true G.type)
      (λ clear. found-fits W s G.known b (moved inner (found-grown s F.known a) v.names) three b_once held clear) b_clear)
  found-fits W s k (QuantifiedForm all name over body p) h spelled once held none =
      let F = simple_wanted (type_place_of over) (type_found s k Unnamed over) in
      let inner = binding s name.name (simple_part F.type) in
      let G = wanted is_truth (place_of body) (found inner F.known body) in
      let (one, two) = and_parts (type_spelled over) (is_spelled body) spelled in
      let (over_once, body_once) = nil-parts (type_repeats over) (field_repeats body) once in
      let (over_clear, body_clear) = nil-parts F.faults G.faults none in
      let u = simple-step W (type_place_of over) (type_found s k Unnamed over) (λ clear. type-fits W s k Unnamed over h one over_once (before W (found-grown inner F.known body) held) clear) over_clear in
      let there : Fits (well.binding W u.of) inner F.known =
      subst (λ o. Fits (well.binding W u.of) (binding s name.name (simple_part o)) F.known) (sym u.is) (bound-fits name.name u.of (moved h (type-grown s k Unnamed over) u.names) u.fine) in
      quantified-step W (QuantifiedForm all name over body p) all F G u
      (wanted-value (well.binding W u.of) body is_truth (place_of body) (found inner F.known body) truth-only
      (λ clear. found-fits (well.binding W u.of) inner F.known body there two body_once held clear) body_clear)

  pub links-fit : {n : _} (W : well.Scope) (s : Scope) (k : Known) (type : Simple) (row : Row_of-Link n) → widened type ≡ type → Fits W s k → links_spelled type row ≡ true → link_repeats row ≡ [] → Held (links_found s k type row).known.kinds W.kinds → (links_found s k type row).faults ≡ [] → AreLinks W type (links_found s k type row)
  links-fit W s k type end_of-Link wide h spelled once held none = record { typed = refl; is = refl; names = h.names }
  links-fit W s k type (more_of-Link op operand rest) wide h spelled once held none =
      let F = wanted (has_values_of type) (place_of operand) (found s k operand) in
      let (level, more_spelled) = and_parts (same_simple (operand_type op) type) (is_spelled operand && links_spelled type rest) spelled in
      let (one, two) = and_parts (is_spelled operand) (links_spelled type rest) more_spelled in
      let (operand_once, rest_once) = nil-parts (field_repeats operand) (link_repeats rest) once in
      let (clear, more) = nil-parts F.faults (links_found s F.known type rest).faults none in
      let r = wanted-value W operand (has_values_of type) (place_of operand) (found s k operand) (only-values type) (λ clear. found-fits W s k operand h one operand_once (before W (links-grown s F.known type rest) held) clear) clear in
      link-step W type op F (links_found s F.known type rest) wide level r
      (links-fit W s F.known type rest wide (moved h (found-grown s k operand) r.names) two rest_once held more)

  pub selectors-fit : {n : _} (W : well.Scope) (s : Scope) (k : Known) (at : Span) (type : AnyType) (row : Row_of-Selector n) → Fits W s k → selectors_spelled row ≡ true → selector_repeats row ≡ [] → Held (selectors_found s k at (Some type) row).known.kinds W.kinds → (selectors_found s k at (Some type) row).faults ≡ [] → AreSelected W type (selectors_found s k at (Some type) row)
  selectors-fit W s k at type end_of-Selector h spelled once held none = record { of = type; is = refl; selects = refl; fine = λ f. f; names = h.names }
  selectors-fit W s k at type (more_of-Selector (part.Field name) rest) h spelled once held none =
      field-step W at name type (λ o. selectors_found s k at o rest) (λ of held none. selectors-fit W s k at of rest h spelled once held none) held none
  selectors-fit W s k at type (more_of-Selector (part.Index index) rest) h spelled once held none =
      let (one, two) = and_parts (is_spelled index) (selectors_spelled rest) spelled in
      let (index_once, rest_once) = nil-parts (field_repeats index) (selector_repeats rest) once in
      let F = found s k index in
      let own = before W (selectors-grown s F.known at _ rest) held in
      let clear = nil-parts (wanted (index_fits (index_type (Some type))) (place_of index) F).faults _ none in
      let r = found-fits W s k index h one index_once own ((nil-parts F.faults _ clear.0).0) in
      item-step W at (place_of index) type F (λ o. selectors_found s F.known at o rest)
      (λ test only none. wanted-value W index test (place_of index) F only (λ clear. r) none)
      (λ of held none. selectors-fit W s F.known at of rest (moved h (found-grown s k index) r.names) two rest_once held none) held none

  pub arguments-fit : {n : _} (W : well.Scope) (s : Scope) (k : Known) (at : Span) (formals : List Formal) (row : Row_of-Expr n) → Fits W s k → Allowed W formals → args_spelled row ≡ true → argument_repeats row ≡ [] → Held (arguments_found s k at formals row).known.kinds W.kinds → (arguments_found s k at formals row).faults ≡ [] → AreArguments W formals (arguments_found s k at formals row)
  arguments-fit W s k at [] end_of-Expr h allowed spelled once held none = record { typed = refl; fit = λ e. refl; names = h.names }
  arguments-fit W s k at (f ∷ fs) end_of-Expr h allowed spelled once held none = record { typed = refl; fit = λ e. cc; names = h.names }
  arguments-fit W s k at formals (more_of-Expr (e.Place' root u row) rest) h allowed spelled once held none =
      let what = looked s k root.name in
      let P = place_made root.at what (start_type root.at what) (selectors_found s k root.at (start_type root.at what).type row) in
      let A = placed (first_of formals) P in
      let (one, two) = and_parts (selectors_spelled row) (args_spelled rest) spelled in
      let (row_once, rest_once) = nil-parts (selector_repeats row) (argument_repeats rest) once in
      let (clear, more) = nil-parts A.faults (arguments_found s A.known at (rest_of formals) rest).faults none in
      let grown = placed-grown k (first_of formals) P (selectors-grown s k root.at (start_type root.at what).type row) in
      let own = before W (arguments-grown s A.known at (rest_of formals) rest) held in
      let p_held = subst (λ l. Held l.kinds W.kinds) (placed-known (first_of formals) P) own in
      let r = placed-step W (first_of formals) P (allowed-first W formals allowed)
      (λ clear. place-step W root.at what (λ o. selectors_found s k root.at o row) (looked-fits W s k root.name h)
      (λ type held none. selectors-fit W s k root.at type row h one row_once held none) p_held clear) clear in
      arguments-step W formals A (arguments_found s A.known at (rest_of formals) rest) r
      (arguments-fit W s A.known at (rest_of formals) rest (moved h grown r.names) (allowed-rest W formals allowed) two rest_once held more)
  arguments-fit W s k at formals (more_of-Expr (e.Number n p) rest) h allowed spelled once held none =
      let (one, two) = and_parts (is_spelled (e.Number n p)) (args_spelled rest) spelled in
      let (first_once, rest_once) = nil-parts (field_repeats (e.Number n p)) (argument_repeats rest) once in
      let A = valued at (place_of (e.Number n p)) (first_of formals) (found s k (e.Number n p)) in
      let (clear, more) = nil-parts A.faults (arguments_found s A.known at (rest_of formals) rest).faults none in
      let own = subst (λ l. Held l.kinds W.kinds) (valued-known at (place_of (e.Number n p)) (first_of formals) (found s k (e.Number n p))) (before W (arguments-grown s A.known at (rest_of formals) rest) held) in
      let r = valued-step W (e.Number n p) at (place_of (e.Number n p)) (first_of formals) (found s k (e.Number n p)) refl (λ clear. found-fits W s k (e.Number n p) h one first_once own clear) clear in
      arguments-step W formals A (arguments_found s A.known at (rest_of formals) rest) r
      (arguments-fit W s A.known at (rest_of formals) rest (moved h (valued-grown k at (place_of (e.Number n p)) (first_of formals) (found s k (e.Number n p)) (found-grown s k (e.Number n p))) r.names) (allowed-rest W formals allowed) two rest_once held more)
  arguments-fit W s k at formals (more_of-Expr (e.Truth b p) rest) h allowed spelled once held none =
      let (one, two) = and_parts (is_spelled (e.Truth b p)) (args_spelled rest) spelled in
      let (first_once, rest_once) = nil-parts (field_repeats (e.Truth b p)) (argument_repeats rest) once in
      let A = valued at (place_of (e.Truth b p)) (first_of formals) (found s k (e.Truth b p)) in
      let (clear, more) = nil-parts A.faults (arguments_found s A.known at (rest_of formals) rest).faults none in
      let own = subst (λ l. Held l.kinds W.kinds) (valued-known at (place_of (e.Truth b p)) (first_of formals) (found s k (e.Truth b p))) (before W (arguments-grown s A.known at (rest_of formals) rest) held) in
      let r = valued-step W (e.Truth b p) at (place_of (e.Truth b p)) (first_of formals) (found s k (e.Truth b p)) refl (λ clear. found-fits W s k (e.Truth b p) h one first_once own clear) clear in
      arguments-step W formals A (arguments_found s A.known at (rest_of formals) rest) r
      (arguments-fit W s A.known at (rest_of formals) rest (moved h (valued-grown k at (place_of (e.Truth b p)) (first_of formals) (found s k (e.Truth b p)) (found-grown s k (e.Truth b p))) r.names) (allowed-rest W formals allowed) two rest_once held more)
  arguments-fit W s k at formals (more_of-Expr (e.Call' name u args) rest) h allowed spelled once held none =
      let (one, two) = and_parts (is_spelled (e.Call' name u args)) (args_spelled rest) spelled in
      let (first_once, rest_once) = nil-parts (field_repeats (e.Call' name u args)) (argument_repeats rest) once in
      let A = valued at (place_of (e.Call' name u args)) (first_of formals) (found s k (e.Call' name u args)) in
      let (clear, more) = nil-parts A.faults (arguments_found s A.known at (rest_of formals) rest).faults none in
      let own = subst (λ l. Held l.kinds W.kinds) (valued-known at (place_of (e.Call' name u args)) (first_of formals) (found s k (e.Call' name u args))) (before W (arguments-grown s A.known at (rest_of formals) rest) held) in
      let r = valued-step W (e.Call' name u args) at (place_of (e.Call' name u args)) (first_of formals) (found s k (e.Call' name u args)) refl (λ clear. found-fits W s k (e.Call' name u args) h one first_once own clear) clear in
      arguments-step W formals A (arguments_found s A.known at (rest_of formals) rest) r
      (arguments-fit W s A.known at (rest_of formals) rest (moved h (valued-grown k at (place_of (e.Call' name u args)) (first_of formals) (found s k (e.Call' name u args)) (found-grown s k (e.Call' name u args))) r.names) (allowed-rest W formals allowed) two rest_once held more)
  arguments-fit W s k at formals (more_of-Expr (e.Not' u inner p) rest) h allowed spelled once held none =
      let (one, two) = and_parts (is_spelled (e.Not' u inner p)) (args_spelled rest) spelled in
      let (first_once, rest_once) = nil-parts (field_repeats (e.Not' u inner p)) (argument_repeats rest) once in
      let A = valued at (place_of (e.Not' u inner p)) (first_of formals) (found s k (e.Not' u inner p)) in
      let (clear, more) = nil-parts A.faults (arguments_found s A.known at (rest_of formals) rest).faults none in
      let own = subst (λ l. Held l.kinds W.kinds) (valued-known at (place_of (e.Not' u inner p)) (first_of formals) (found s k (e.Not' u inner p))) (before W (arguments-grown s A.known at (rest_of formals) rest) held) in
      let r = valued-step W (e.Not' u inner p) at (place_of (e.Not' u inner p)) (first_of formals) (found s k (e.Not' u inner p)) refl (λ clear. found-fits W s k (e.Not' u inner p) h one first_once own clear) clear in
      arguments-step W formals A (arguments_found s A.known at (rest_of formals) rest) r
      (arguments-fit W s A.known at (rest_of formals) rest (moved h (valued-grown k at (place_of (e.Not' u inner p)) (first_of formals) (found s k (e.Not' u inner p)) (found-grown s k (e.Not' u inner p))) r.names) (allowed-rest W formals allowed) two rest_once held more)
  arguments-fit W s k at formals (more_of-Expr (e.Minus' u inner p) rest) h allowed spelled once held none =
      let (one, two) = and_parts (is_spelled (e.Minus' u inner p)) (args_spelled rest) spelled in
      let (first_once, rest_once) = nil-parts (field_repeats (e.Minus' u inner p)) (argument_repeats rest) once in
      let A = valued at (place_of (e.Minus' u inner p)) (first_of formals) (found s k (e.Minus' u inner p)) in
      let (clear, more) = nil-parts A.faults (arguments_found s A.known at (rest_of formals) rest).faults none in
      let own = subst (λ l. Held l.kinds W.kinds) (valued-known at (place_of (e.Minus' u inner p)) (first_of formals) (found s k (e.Minus' u inner p))) (before W (arguments-grown s A.known at (rest_of formals) rest) held) in
      let r = valued-step W (e.Minus' u inner p) at (place_of (e.Minus' u inner p)) (first_of formals) (found s k (e.Minus' u inner p)) refl (λ clear. found-fits W s k (e.Minus' u inner p) h one first_once own clear) clear in
      arguments-step W formals A (arguments_found s A.known at (rest_of formals) rest) r
      (arguments-fit W s A.known at (rest_of formals) rest (moved h (valued-grown k at (place_of (e.Minus' u inner p)) (first_of formals) (found s k (e.Minus' u inner p)) (found-grown s k (e.Minus' u inner p))) r.names) (allowed-rest W formals allowed) two rest_once held more)
  arguments-fit W s k at formals (more_of-Expr (e.Chain' u inner v links) rest) h allowed spelled once held none =
      let (one, two) = and_parts (is_spelled (e.Chain' u inner v links)) (args_spelled rest) spelled in
      let (first_once, rest_once) = nil-parts (field_repeats (e.Chain' u inner v links)) (argument_repeats rest) once in
      let A = valued at (place_of (e.Chain' u inner v links)) (first_of formals) (found s k (e.Chain' u inner v links)) in
      let (clear, more) = nil-parts A.faults (arguments_found s A.known at (rest_of formals) rest).faults none in
      let own = subst (λ l. Held l.kinds W.kinds) (valued-known at (place_of (e.Chain' u inner v links)) (first_of formals) (found s k (e.Chain' u inner v links))) (before W (arguments-grown s A.known at (rest_of formals) rest) held) in
      let r = valued-step W (e.Chain' u inner v links) at (place_of (e.Chain' u inner v links)) (first_of formals) (found s k (e.Chain' u inner v links)) refl (λ clear. found-fits W s k (e.Chain' u inner v links) h one first_once own clear) clear in
      arguments-step W formals A (arguments_found s A.known at (rest_of formals) rest) r
      (arguments-fit W s A.known at (rest_of formals) rest (moved h (valued-grown k at (place_of (e.Chain' u inner v links)) (first_of formals) (found s k (e.Chain' u inner v links)) (found-grown s k (e.Chain' u inner v links))) r.names) (allowed-rest W formals allowed) two rest_once held more)
  arguments-fit W s k at formals (more_of-Expr (e.Compare' op u inner v right) rest) h allowed spelled once held none =
      let (one, two) = and_parts (is_spelled (e.Compare' op u inner v right)) (args_spelled rest) spelled in
      let (first_once, rest_once) = nil-parts (field_repeats (e.Compare' op u inner v right)) (argument_repeats rest) once in
      let A = valued at (place_of (e.Compare' op u inner v right)) (first_of formals) (found s k (e.Compare' op u inner v right)) in
      let (clear, more) = nil-parts A.faults (arguments_found s A.known at (rest_of formals) rest).faults none in
      let own = subst (λ l. Held l.kinds W.kinds) (valued-known at (place_of (e.Compare' op u inner v right)) (first_of formals) (found s k (e.Compare' op u inner v right))) (before W (arguments-grown s A.known at (rest_of formals) rest) held) in
      let r = valued-step W (e.Compare' op u inner v right) at (place_of (e.Compare' op u inner v right)) (first_of formals) (found s k (e.Compare' op u inner v right)) refl (λ clear. found-fits W s k (e.Compare' op u inner v right) h one first_once own clear) clear in
      arguments-step W formals A (arguments_found s A.known at (rest_of formals) rest) r
      (arguments-fit W s A.known at (rest_of formals) rest (moved h (valued-grown k at (place_of (e.Compare' op u inner v right)) (first_of formals) (found s k (e.Compare' op u inner v right)) (found-grown s k (e.Compare' op u inner v right))) r.names) (allowed-rest W formals allowed) two rest_once held more)
  arguments-fit W s k at formals (more_of-Expr (e.Implies' u inner v right) rest) h allowed spelled once held none =
      let (one, two) = and_parts (is_spelled (e.Implies' u inner v right)) (args_spelled rest) spelled in
      let (first_once, rest_once) = nil-parts (field_repeats (e.Implies' u inner v right)) (argument_repeats rest) once in
      let A = valued at (place_of (e.Implies' u inner v right)) (first_of formals) (found s k (e.Implies' u inner v right)) in
      let (clear, more) = nil-parts A.faults (arguments_found s A.known at (rest_of formals) rest).faults none in
      let own = subst (λ l. Held l.kinds W.kinds) (valued-known at (place_of (e.Implies' u inner v right)) (first_of formals) (found s k (e.Implies' u inner v right))) (before W (arguments-grown s A.known at (rest_of formals) rest) held) in
      let r = valued-step W (e.Implies' u inner v right) at (place_of (e.Implies' u inner v right)) (first_of formals) (found s k (e.Implies' u inner v right)) refl (λ clear. found-fits W s k (e.Implies' u inner v right) h one first_once own clear) clear in
      arguments-step W formals A (arguments_found s A.known at (rest_of formals) rest) r
      (arguments-fit W s A.known at (rest_of formals) rest (moved h (valued-grown k at (place_of (e.Implies' u inner v right)) (first_of formals) (found s k (e.Implies' u inner v right)) (found-grown s k (e.Implies' u inner v right))) r.names) (allowed-rest W formals allowed) two rest_once held more)
  arguments-fit W s k at formals (more_of-Expr (e.Choice' a b c d f g) rest) h allowed spelled once held none =
      let (one, two) = and_parts (is_spelled (e.Choice' a b c d f g)) (args_spelled rest) spelled in
      let (first_once, rest_once) = nil-parts (field_repeats (e.Choice' a b c d f g)) (argument_repeats rest) once in
      let A = valued at (place_of (e.Choice' a b c d f g)) (first_of formals) (found s k (e.Choice' a b c d f g)) in
      let (clear, more) = nil-parts A.faults (arguments_found s A.known at (rest_of formals) rest).faults none in
      let own = subst (λ l. Held l.kinds W.kinds) (valued-known at (place_of (e.Choice' a b c d f g)) (first_of formals) (found s k (e.Choice' a b c d f g))) (before W (arguments-grown s A.known at (rest_of formals) rest) held) in
      let r = valued-step W (e.Choice' a b c d f g) at (place_of (e.Choice' a b c d f g)) (first_of formals) (found s k (e.Choice' a b c d f g)) refl (λ clear. found-fits W s k (e.Choice' a b c d f g) h one first_once own clear) clear in
      arguments-step W formals A (arguments_found s A.known at (rest_of formals) rest) r
      (arguments-fit W s A.known at (rest_of formals) rest (moved h (valued-grown k at (place_of (e.Choice' a b c d f g)) (first_of formals) (found s k (e.Choice' a b c d f g)) (found-grown s k (e.Choice' a b c d f g))) r.names) (allowed-rest W formals allowed) two rest_once held more)
  arguments-fit W s k at formals (more_of-Expr (e.Quantified' all a b c d p) rest) h allowed spelled once held none =
      let (one, two) = and_parts (is_spelled (e.Quantified' all a b c d p)) (args_spelled rest) spelled in
      let (first_once, rest_once) = nil-parts (field_repeats (e.Quantified' all a b c d p)) (argument_repeats rest) once in
      let A = valued at (place_of (e.Quantified' all a b c d p)) (first_of formals) (found s k (e.Quantified' all a b c d p)) in
      let (clear, more) = nil-parts A.faults (arguments_found s A.known at (rest_of formals) rest).faults none in
      let own = subst (λ l. Held l.kinds W.kinds) (valued-known at (place_of (e.Quantified' all a b c d p)) (first_of formals) (found s k (e.Quantified' all a b c d p))) (before W (arguments-grown s A.known at (rest_of formals) rest) held) in
      let r = valued-step W (e.Quantified' all a b c d p) at (place_of (e.Quantified' all a b c d p)) (first_of formals) (found s k (e.Quantified' all a b c d p)) refl (λ clear. found-fits W s k (e.Quantified' all a b c d p) h one first_once own clear) clear in
      arguments-step W formals A (arguments_found s A.known at (rest_of formals) rest) r
      (arguments-fit W s A.known at (rest_of formals) rest (moved h (valued-grown k at (place_of (e.Quantified' all a b c d p)) (first_of formals) (found s k (e.Quantified' all a b c d p)) (found-grown s k (e.Quantified' all a b c d p))) r.names) (allowed-rest W formals allowed) two rest_once held more)
  arguments-fit W s k at formals (more_of-Expr (e.IsUndefined' root u inner p) rest) h allowed spelled once held none =
      let (one, two) = and_parts (is_spelled (e.IsUndefined' root u inner p)) (args_spelled rest) spelled in
      let (first_once, rest_once) = nil-parts (field_repeats (e.IsUndefined' root u inner p)) (argument_repeats rest) once in
      let A = valued at (place_of (e.IsUndefined' root u inner p)) (first_of formals) (found s k (e.IsUndefined' root u inner p)) in
      let (clear, more) = nil-parts A.faults (arguments_found s A.known at (rest_of formals) rest).faults none in
      let own = subst (λ l. Held l.kinds W.kinds) (valued-known at (place_of (e.IsUndefined' root u inner p)) (first_of formals) (found s k (e.IsUndefined' root u inner p))) (before W (arguments-grown s A.known at (rest_of formals) rest) held) in
      let r = valued-step W (e.IsUndefined' root u inner p) at (place_of (e.IsUndefined' root u inner p)) (first_of formals) (found s k (e.IsUndefined' root u inner p)) refl (λ clear. found-fits W s k (e.IsUndefined' root u inner p) h one first_once own clear) clear in
      arguments-step W formals A (arguments_found s A.known at (rest_of formals) rest) r
      (arguments-fit W s A.known at (rest_of formals) rest (moved h (valued-grown k at (place_of (e.IsUndefined' root u inner p)) (first_of formals) (found s k (e.IsUndefined' root u inner p)) (found-grown s k (e.IsUndefined' root u inner p))) r.names) (allowed-rest W formals allowed) two rest_once held more)

  pub type-fits : (W : well.Scope) (s : Scope) (k : Known) (n : Naming) (type : TypeExpr) → Fits W s k → type_spelled type ≡ true → type_repeats type ≡ [] → Held (type_found s k n type).known.kinds W.kinds → (type_found s k n type).faults ≡ [] → IsType W (type_found s k n type)
  type-fits W s k n (w.Known name) h spelled once held none = named-step W k name.at (looked s k name.name) (looked-fits W s k name.name h) h.names none
  type-fits W s k n (w.Truth p) h spelled once held none = record { type = t.Simple simple.Truth; is = refl; fine = truth-fine W; names = h.names }
  type-fits W s k n (RangeForm low high) h spelled once held none =
      let L = found s k low in
      let R = found s L.known high in
      let F = number_found (is_constant s k low) (place_of low) L in
      let G = number_found (is_constant s L.known high) (place_of high) R in
      let (one, two) = and_parts (is_spelled low) (is_spelled high) spelled in
      let (low_once, high_once) = nil-parts (field_repeats low) (field_repeats high) once in
      let both = (nil-parts (F.faults ++ G.faults) _ none).0 in
      let (low_clear, high_clear) = nil-parts F.faults G.faults both in
      let u = number-step W low (is_constant s k low) (place_of low) L (λ clear. found-fits W s k low h one low_once (before W (found-grown s L.known high) held) clear) low_clear in
      range-step W (place_of low) F G u
      (number-step W high (is_constant s L.known high) (place_of high) R (λ clear. found-fits W s L.known high (moved h (found-grown s k low) u.names) two high_once held clear) high_clear) none
  type-fits W s k n (w.Listed names p) h spelled once held none = enum-step W p names k spelled h.names held none
  type-fits W s k n (ScalarsetForm size p) h spelled once held none =
      let F = number_found (is_constant s k size) (place_of size) (found s k size) in
      let clear = (nil-parts F.faults _ none).0 in
      scalarset-step W n p F (number-step W size (is_constant s k size) (place_of size) (found s k size) (λ clear. found-fits W s k size h spelled once (before W (scalarset-grown n p (found s k size).known _) held) clear) clear) held none
  type-fits W s k n (w.Fields' u fields p) h spelled once held none =
      let (own, inner) = nil-parts (repeats_in (field_names fields)) (fields_repeats fields) once in
      record-step W (field_names fields) (fields_found s k fields) (fields-fit W s k fields h spelled inner held none) own
  type-fits W s k n (ArrayForm index item p) h spelled once held none =
      let F = simple_wanted (type_place_of index) (type_found s k Unnamed index) in
      let (one, two) = and_parts (type_spelled index) (type_spelled item) spelled in
      let (index_once, item_once) = nil-parts (type_repeats index) (type_repeats item) once in
      let (index_clear, item_clear) = nil-parts F.faults (type_found s F.known Unnamed item).faults none in
      let u = simple-step W (type_place_of index) (type_found s k Unnamed index) (λ clear. type-fits W s k Unnamed index h one index_once (before W (type-grown s F.known Unnamed item) held) clear) index_clear in
      array-step W F (type_found s F.known Unnamed item) u (type-fits W s F.known Unnamed item (moved h (type-grown s k Unnamed index) u.names) two item_once held item_clear)

  pub fields-fit : {n : _} (W : well.Scope) (s : Scope) (k : Known) (row : Row_of-FieldDecl n) → Fits W s k → fields_spelled row ≡ true → fields_repeats row ≡ [] → Held (fields_found s k row).known.kinds W.kinds → (fields_found s k row).faults ≡ [] → AreFields W (field_names row) (fields_found s k row)
  fields-fit W s k end_of-FieldDecl h spelled once held none = record { fields = []; is = refl; fine = refl; same = refl; names = h.names }
  fields-fit W s k (more_of-FieldDecl names body rest) h spelled once held none =
      let F = type_found s k Unnamed body in
      let (one, two) = and_parts (type_spelled body) (fields_spelled rest) spelled in
      let (body_once, rest_once) = nil-parts (type_repeats body) (fields_repeats rest) once in
      let (body_clear, rest_clear) = nil-parts F.faults (fields_found s F.known rest).faults none in
      let u = type-fits W s k Unnamed body h one body_once (before W (fields-grown s F.known rest) held) body_clear in
      fields-step W names F (fields_found s F.known rest) (field_names rest) u (fields-fit W s F.known rest (moved h (type-grown s k Unnamed body) u.names) two rest_once held rest_clear)
