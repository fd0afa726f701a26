-- What is well typed stays so where there are more kinds.
use Rattle.std.proofs.Common.{◌≡◌, ℕ, zero, suc, Bool, true, false, not, ◌&&◌, List, [], ◌∷◌, ◌++◌, Option, None, Some, refl, sym, ap, ◌∙◌}
use Rattle.std.specs.Prelude.{slice_get, option_map, option_and_then, is_some}
use Rattle.std.specs.List.{list_all}
use Rattle.std.specs.Option.{option_map_or}
use Rattle.std.proofs.lemmas.Bool.{and_parts}
use Rattle.term_core.specs.declared.value.Value.{Value}
use Rattle.term_core.specs.declared.value.Value.TheVariants as v
use Rattle.murphi_ast.specs.declared.expr.CompareOp.{CompareOp}
use Rattle.murphi_ast.specs.declared.expr.CompareOp.TheVariants as compare
use Rattle.murphi_typed.specs.declared.types.Kind.{Kind}
use Rattle.murphi_typed.specs.declared.types.Simple.{Simple}
use Rattle.murphi_typed.specs.declared.types.Simple.TheVariants as simple
use Rattle.murphi_typed.specs.declared.types.AnyType as type
use Rattle.murphi_typed.specs.declared.types.AnyType.{AnyType, Row_of-Field, end_of-Field, more_of-Field}
use Rattle.murphi_typed.specs.declared.expr.Expr as x
use Rattle.murphi_typed.specs.declared.expr.Expr.{Expr, end_of-Expr, more_of-Expr, Row_of-Link, end_of-Link, more_of-Link}
use Rattle.murphi_typed.specs.declared.expr.Designator as d
use Rattle.murphi_typed.specs.declared.expr.Designator.{Designator, Row_of-Selector, end_of-Selector, more_of-Selector}
use Rattle.murphi_typed.specs.declared.expr.Selector as select
use Rattle.murphi_typed.specs.declared.expr.Arguments as a
use Rattle.murphi_typed.specs.declared.expr.Arguments.{Arguments, Row_of-Argument, end_of-Argument, more_of-Argument}
use Rattle.murphi_typed.specs.declared.expr.Argument as argument
use Rattle.murphi_typed.specs.declared.protocol.Routine.{Routine}
use Rattle.murphi_typed.specs.declared.protocol.Parameter.{Parameter}
use Rattle.murphi_typed.specs.declared.protocol.Variable.{Variable}
use Rattle.murphi_typed.specs.declared.protocol.Guard.{Guard}
use Rattle.murphi_typed.specs.declared.protocol.Rule.{Rule}
use Rattle.murphi_typed.specs.declared.protocol.Start.{Start}
use Rattle.murphi_typed.specs.declared.protocol.TypedFormula.{TypedFormula}
use Rattle.murphi_typed.specs.declared.protocol.Typed.{Typed}
use Rattle.murphi_typed.specs.declared.protocol.Formal.{Formal as DeclaredFormal}
use Rattle.murphi_typed.specs.Forms.{NotForm, MinusForm, CompareForm, ImpliesForm, ChoiceForm, QuantifiedForm, ArrayForm}
use Rattle.murphi_typed.specs.declared.stmt.Stmt as st
use Rattle.murphi_typed.specs.declared.stmt.Stmt.{Stmt, Row_of-Stmt, end_of-Stmt, more_of-Stmt, Row_of-Arm, end_of-Arm, more_of-Arm, Row_of-Case, end_of-Case, more_of-Case}
use Rattle.murphi_typed.specs.WellTyped.{numbers, widened, is_listed, is_scalarset, is_simple_type, row_field, is_type, are_fields, Scope, Exit, AtEnd, ByReturn, WithValue, binding, root_type, is_function, may_write, root_of, simple_part, field_part, item_part, is_of, only_if, enum_type, known_type, operand_type, comparable, given_place, given_compound, given_value, is_compound, same_type, type_of, chain_type, place_type, selected_type, arguments_fit, row_fits, argument_fits, is_cell_of, holds_values_of, are_alike, labels_fit, returns, stmt_fits, body_fits, arms_fit, cases_fit, are_variables, are_parameter_types, top_scope, routine_scope, formal_allowed, routine_fits, routines_fit, guard_fits, rule_fits, start_fits, with_kinds, formula_fits, is_well_typed}
use Rattle.rule_inline.proofs.ValueLemmas.{absurd_false}
use Rattle.rule_inline.proofs.TermLemmas.{and_of}
use Rattle.rule_inline.proofs.TypeLemmas.{not_some}

-- a test that passes where another does, and what is found where something is found

abbrev Below : {A : Type 0} → Option A → Option A → Type 0
Below {A} a b = (y : A) → a ≡ Some y → b ≡ Some y

below_same : {A : Type 0} (a : Option A) → Below a a
below_same a y e = e

test_more : {A : Type 0} (f : Option A → Bool) → f None ≡ false → (a b : Option A) → Below a b → f a ≡ true → f b ≡ true
test_more f none None b below e = absurd_false (sym none ∙ e)
test_more f none (Some y) b below e = ap f (below y refl) ∙ e

part_more : {A B : Type 0} (g : Option A → Option B) → g None ≡ None → (a b : Option A) → Below a b → Below (g a) (g b)
part_more g none None b below y e = absurd (not_some (sym none ∙ e))
part_more g none (Some z) b below y e = ap g (below z refl) ∙ e

only_more : {A : Type 0} (p q : Bool) (a b : Option A) → (p ≡ true → q ≡ true) → Below a b → Below (only_if p a) (only_if q b)
only_more true q a b pq below y e = ap (λ r. only_if r b) (pq refl) ∙ below y e
only_more false q a b pq below y e = absurd (not_some e)

and_more : (p q r t : Bool) → (p ≡ true → r ≡ true) → (q ≡ true → t ≡ true) → (p && q) ≡ true → (r && t) ≡ true
and_more p q r t f g e = let (one, two) = and_parts p q e in and_of (f one) (g two)

list_more : {X : Type 0} (p q : X → Bool) → ((y : X) → p y ≡ true → q y ≡ true) → (xs : List X) → list_all p xs ≡ true → list_all q xs ≡ true
list_more p q f [] e = refl
list_more p q f (y ∷ ys) e = and_more (p y) (list_all p ys) (q y) (list_all q ys) (f y) (list_more p q f ys) e

and_false : (b : Bool) → (b && false) ≡ false
and_false true = refl
and_false false = refl

none_left : (by : CompareOp) (b : Option Simple) → comparable by None b ≡ false
none_left compare.Equal b = refl
none_left compare.NotEqual b = refl
none_left compare.Less b = refl
none_left compare.LessEqual b = refl
none_left compare.Greater b = refl
none_left compare.GreaterEqual b = refl

none_right : (by : CompareOp) (a : Option Simple) → comparable by a None ≡ false
none_right compare.Equal None = refl
none_right compare.Equal (Some u) = refl
none_right compare.NotEqual None = refl
none_right compare.NotEqual (Some u) = refl
none_right compare.Less a = and_false (is_of numbers a)
none_right compare.LessEqual a = and_false (is_of numbers a)
none_right compare.Greater a = and_false (is_of numbers a)
none_right compare.GreaterEqual a = and_false (is_of numbers a)

comparable_more : (by : CompareOp) (p q r t : Option Simple) → Below p r → Below q t → comparable by p q ≡ true → comparable by r t ≡ true
comparable_more by p q r t f g e = test_more (comparable by r) (none_right by r) q t g (test_more (λ o. comparable by o q) (none_left by q) p r f e)

nothing_given : {A : Type 0} (b : Bool) (o : Option A) → (b && option_map_or (λ y. false) o false) ≡ false
nothing_given b None = and_false b
nothing_given b (Some y) = and_false b

none_value : (formal : Option DeclaredFormal) → given_value formal None ≡ false
none_value None = refl
none_value (Some f) = nothing_given (not f.by_place) (simple_part (Some f.of))

none_compound : (formal : Option DeclaredFormal) → given_compound formal None ≡ false
none_compound None = refl
none_compound (Some f) = ap (λ b. not f.by_place && b) (and_false (is_compound f.of)) ∙ and_false (not f.by_place)

none_place : (formal : Option DeclaredFormal) → given_place formal None ≡ false
none_place None = refl
none_place (Some f) = and_false f.by_place

none_alike : (o : Option AnyType) → are_alike o None ≡ false
none_alike None = refl
none_alike (Some t) = refl

alike_more : (p q r t : Option AnyType) → Below p r → Below q t → are_alike p q ≡ true → are_alike r t ≡ true
alike_more p q r t f g e = test_more (are_alike r) (none_alike r) q t g (test_more (λ o. are_alike o q) refl p r f e)

none_returned : (exit : Exit) → returns exit None ≡ false
none_returned AtEnd = refl
none_returned ByReturn = refl
none_returned (WithValue u) = refl

module _ (more : List Kind) where
  kind_more : (kinds : List Kind) (k : ℕ) → Below (slice_get kinds k) (slice_get (kinds ++ more) k)
  kind_more [] k y e = absurd (not_some e)
  kind_more (z ∷ kinds) zero y e = e
  kind_more (z ∷ kinds) (suc k) y e = kind_more kinds k y e

  simple_more : (kinds : List Kind) (u : Simple) → is_simple_type kinds u ≡ true → is_simple_type (kinds ++ more) u ≡ true
  simple_more kinds simple.Truth e = e
  simple_more kinds (simple.Range low high) e = e
  simple_more kinds (simple.Listed kind count) e = and_more _ _ _ _ (test_more (λ o. is_listed o count) refl (slice_get kinds kind) (slice_get (kinds ++ more) kind) (kind_more kinds kind)) (λ y. y) e
  simple_more kinds (simple.Scalarset kind count) e = and_more _ _ _ _ (test_more (λ o. is_scalarset o count) refl (slice_get kinds kind) (slice_get (kinds ++ more) kind) (kind_more kinds kind)) (λ y. y) e
  simple_more kinds simple.Node e = e

  mutual
    unfolding is_type

    any_more : (kinds : List Kind) (t : AnyType) → is_type kinds t ≡ true → is_type (kinds ++ more) t ≡ true
    any_more kinds (type.Simple u) e = simple_more kinds u e
    any_more kinds (type.Record' _ fields) e = fields_more kinds fields e
    any_more kinds (ArrayForm index item) e = and_more (is_simple_type kinds index) (is_type kinds item) (is_simple_type (kinds ++ more) index) (is_type (kinds ++ more) item) (simple_more kinds index) (any_more kinds item) e

    fields_more : {n : _} (kinds : List Kind) (fields : Row_of-Field n) → are_fields kinds fields ≡ true → are_fields (kinds ++ more) fields ≡ true
    fields_more kinds end_of-Field e = e
    fields_more kinds (more_of-Field name t rest) e =
        and_more (is_type kinds t) (not (is_some (row_field rest name)) && are_fields kinds rest) (is_type (kinds ++ more) t) (not (is_some (row_field rest name)) && are_fields (kinds ++ more) rest) (any_more kinds t)
        (and_more (not (is_some (row_field rest name))) (are_fields kinds rest) (not (is_some (row_field rest name))) (are_fields (kinds ++ more) rest) (λ y. y) (fields_more kinds rest)) e

  abbrev wide : Scope → Scope
  wide S = record S { kinds = S.kinds ++ more }

  known_more : (S : Scope) (w : Value) → Below (known_type S.kinds w) (known_type (S.kinds ++ more) w)
  known_more S (v.Truth b) = below_same _
  known_more S (v.Number z) = below_same _
  known_more S (v.Member number index) = part_more (enum_type number index) refl (slice_get S.kinds number) (slice_get (S.kinds ++ more) number) (kind_more S.kinds number)
  known_more S v.Undefined = below_same _
  known_more S (v.Node n) = below_same _

  called_more : (S : Scope) (args : Arguments) → ((formals : List DeclaredFormal) → arguments_fit S formals args ≡ true → arguments_fit (wide S) formals args ≡ true) → (o : Option Routine)
      → Below (option_and_then (λ r. only_if (arguments_fit S r.formals args) (option_map widened r.result)) o) (option_and_then (λ r. only_if (arguments_fit (wide S) r.formals args) (option_map widened r.result)) o)
  called_more S args f None = below_same None
  called_more S args f (Some r) = only_more (arguments_fit S r.formals args) (arguments_fit (wide S) r.formals args) (option_map widened r.result) (option_map widened r.result) (f r.formals) (below_same _)

  mutual
    unfolding type_of

    pub type_more : (S : Scope) (e : Expr) → Below (type_of S e) (type_of (wide S) e)
    type_more S (x.Known w) = known_more S w
    type_more S (x.Bound k) = below_same _
    type_more S (x.Read place) = part_more (λ o. option_map widened (simple_part o)) refl (place_type S place) (place_type (wide S) place) (place_more S place)
    type_more S (x.Call k args at) = called_more S args (λ formals. arguments_more S formals args) (slice_get S.routines k)
    type_more S (NotForm body) = only_more _ _ _ _ (test_more (is_of simple.Truth) refl (type_of S body) (type_of (wide S) body) (type_more S body)) (below_same _)
    type_more S (MinusForm body) = only_more _ _ _ _ (test_more (is_of numbers) refl (type_of S body) (type_of (wide S) body) (type_more S body)) (below_same _)
    type_more S (x.Chain' _ (more_of-Expr first end_of-Expr) _ rest) = chain_more S (type_of S first) (type_of (wide S) first) (type_more S first) rest
    type_more S (CompareForm by left right) = only_more _ _ _ _ (comparable_more by (type_of S left) (type_of S right) (type_of (wide S) left) (type_of (wide S) right) (type_more S left) (type_more S right)) (below_same _)
    type_more S (ImpliesForm left right) = only_more _ _ _ _ (and_more (is_of simple.Truth (type_of S left)) (is_of simple.Truth (type_of S right)) (is_of simple.Truth (type_of (wide S) left)) (is_of simple.Truth (type_of (wide S) right)) (test_more (is_of simple.Truth) refl (type_of S left) (type_of (wide S) left) (type_more S left)) (test_more (is_of simple.Truth) refl (type_of S right) (type_of (wide S) right) (type_more S right))) (below_same _)
    type_more S (ChoiceForm test then' else') =
        only_more _ _ _ _ (and_more (is_of simple.Truth (type_of S test)) (comparable compare.Equal (type_of S then') (type_of S else')) (is_of simple.Truth (type_of (wide S) test)) (comparable compare.Equal (type_of (wide S) then') (type_of (wide S) else'))
        (test_more (is_of simple.Truth) refl (type_of S test) (type_of (wide S) test) (type_more S test)) (comparable_more compare.Equal (type_of S then') (type_of S else') (type_of (wide S) then') (type_of (wide S) else') (type_more S then') (type_more S else'))) (type_more S then')
    type_more S (QuantifiedForm all over body) =
        only_more _ _ _ _ (and_more (is_simple_type S.kinds over) (is_of simple.Truth (type_of (binding S over) body)) (is_simple_type (S.kinds ++ more) over) (is_of simple.Truth (type_of (binding (wide S) over) body)) (simple_more S.kinds over) (test_more (is_of simple.Truth) refl (type_of (binding S over) body) (type_of (wide (binding S over)) body) (type_more (binding S over) body))) (below_same _)
    type_more S (x.IsUndefined place) = only_more _ _ _ _ (test_more (λ o. is_some (simple_part o)) refl (place_type S place) (place_type (wide S) place) (place_more S place)) (below_same _)

    chain_more : {n : _} (S : Scope) (p q : Option Simple) → Below p q → (rest : Row_of-Link n) → Below (chain_type S p rest) (chain_type (wide S) q rest)
    chain_more S p q below end_of-Link = below
    chain_more S p q below (more_of-Link by operand rest) =
        chain_more S (only_if (is_of (operand_type by) p && is_of (operand_type by) (type_of S operand)) (Some (operand_type by))) (only_if (is_of (operand_type by) q && is_of (operand_type by) (type_of (wide S) operand)) (Some (operand_type by)))
        (only_more (is_of (operand_type by) p && is_of (operand_type by) (type_of S operand)) (is_of (operand_type by) q && is_of (operand_type by) (type_of (wide S) operand)) (Some (operand_type by)) (Some (operand_type by))
        (and_more (is_of (operand_type by) p) (is_of (operand_type by) (type_of S operand)) (is_of (operand_type by) q) (is_of (operand_type by) (type_of (wide S) operand)) (test_more (is_of (operand_type by)) refl p q below) (test_more (is_of (operand_type by)) refl (type_of S operand) (type_of (wide S) operand) (type_more S operand))) (below_same _)) rest

    pub place_more : (S : Scope) (place : Designator) → Below (place_type S place) (place_type (wide S) place)
    place_more S (d.Of' root _ selectors at) = selected_more S (root_type S root) (root_type S root) (below_same _) selectors

    selected_more : {n : _} (S : Scope) (p q : Option AnyType) → Below p q → (selectors : Row_of-Selector n) → Below (selected_type S p selectors) (selected_type (wide S) q selectors)
    selected_more S p q below end_of-Selector = below
    selected_more S p q below (more_of-Selector (select.Field name) rest) = selected_more S (field_part p name) (field_part q name) (part_more (λ o. field_part o name) refl p q below) rest
    selected_more S p q below (more_of-Selector (select.Index over index) rest) =
        selected_more S (only_if (is_of over (type_of S index)) (item_part p over)) (only_if (is_of over (type_of (wide S) index)) (item_part q over))
        (only_more (is_of over (type_of S index)) (is_of over (type_of (wide S) index)) (item_part p over) (item_part q over) (test_more (is_of over) refl (type_of S index) (type_of (wide S) index) (type_more S index)) (part_more (λ o. item_part o over) refl p q below)) rest

    arguments_more : (S : Scope) (formals : List DeclaredFormal) (args : Arguments) → arguments_fit S formals args ≡ true → arguments_fit (wide S) formals args ≡ true
    arguments_more S formals (a.Of' _ args) e = row_more S formals args e

    row_more : {n : _} (S : Scope) (formals : List DeclaredFormal) (args : Row_of-Argument n) → row_fits S formals args ≡ true → row_fits (wide S) formals args ≡ true
    row_more S [] end_of-Argument e = e
    row_more S (f ∷ fs) end_of-Argument e = absurd_false e
    row_more S [] (more_of-Argument first rest) e = and_more (argument_fits S None first) (row_fits S [] rest) (argument_fits (wide S) None first) (row_fits (wide S) [] rest) (argument_more S None first) (row_more S [] rest) e
    row_more S (f ∷ fs) (more_of-Argument first rest) e = and_more (argument_fits S (Some f) first) (row_fits S fs rest) (argument_fits (wide S) (Some f) first) (row_fits (wide S) fs rest) (argument_more S (Some f) first) (row_more S fs rest) e

    argument_more : (S : Scope) (formal : Option DeclaredFormal) (arg : argument.Argument) → argument_fits S formal arg ≡ true → argument_fits (wide S) formal arg ≡ true
    argument_more S formal (argument.Copy place) e = test_more (λ o. given_value formal (option_map widened (simple_part o))) (none_value formal) (place_type S place) (place_type (wide S) place) (place_more S place) e
    argument_more S formal (argument.CopyAll place) e = test_more (given_compound formal) (none_compound formal) (place_type S place) (place_type (wide S) place) (place_more S place) e
    argument_more S formal (argument.Value body) e = test_more (given_value formal) (none_value formal) (type_of S body) (type_of (wide S) body) (type_more S body) e
    argument_more S formal (argument.Place place) e = and_more (may_write S (root_of place)) (given_place formal (place_type S place)) (may_write S (root_of place)) (given_place formal (place_type (wide S) place)) (λ y. y) (test_more (given_place formal) (none_place formal) (place_type S place) (place_type (wide S) place) (place_more S place)) e

  labels_more : (S : Scope) (p q : Option Simple) → Below p q → (labels : List Expr) → labels_fit S p labels ≡ true → labels_fit (wide S) q labels ≡ true
  labels_more S p q below labels e = list_more (λ label. comparable compare.Equal p (type_of S label)) (λ label. comparable compare.Equal q (type_of (wide S) label)) (λ label. comparable_more compare.Equal p (type_of S label) q (type_of (wide S) label) below (type_more S label)) labels e

  procedure_more : (S : Scope) (args : Arguments) (o : Option Routine) → option_map_or (λ r. not (is_some r.result) && arguments_fit S r.formals args) o false ≡ true → option_map_or (λ r. not (is_some r.result) && arguments_fit (wide S) r.formals args) o false ≡ true
  procedure_more S args None e = e
  procedure_more S args (Some r) e = and_more (not (is_some r.result)) (arguments_fit S r.formals args) (not (is_some r.result)) (arguments_fit (wide S) r.formals args) (λ y. y) (arguments_more S r.formals args) e

  mutual
    unfolding stmt_fits

    pub stmt_more : (S : Scope) (stmt : Stmt) → stmt_fits S stmt ≡ true → stmt_fits (wide S) stmt ≡ true
    stmt_more S (st.Block' _ body) e = body_more S body e
    stmt_more S (st.Assign to into body) e =
        and_more (may_write S (root_of to)) (is_cell_of into (place_type S to) && is_of into (type_of S body)) (may_write S (root_of to)) (is_cell_of into (place_type (wide S) to) && is_of into (type_of (wide S) body)) (λ y. y)
        (and_more (is_cell_of into (place_type S to)) (is_of into (type_of S body)) (is_cell_of into (place_type (wide S) to)) (is_of into (type_of (wide S) body)) (test_more (is_cell_of into) refl (place_type S to) (place_type (wide S) to) (place_more S to)) (test_more (is_of into) refl (type_of S body) (type_of (wide S) body) (type_more S body))) e
    stmt_more S (st.Copy to into from) e =
        and_more (may_write S (root_of to)) (is_cell_of into (place_type S to) && holds_values_of into (place_type S from)) (may_write S (root_of to)) (is_cell_of into (place_type (wide S) to) && holds_values_of into (place_type (wide S) from)) (λ y. y)
        (and_more (is_cell_of into (place_type S to)) (holds_values_of into (place_type S from)) (is_cell_of into (place_type (wide S) to)) (holds_values_of into (place_type (wide S) from)) (test_more (is_cell_of into) refl (place_type S to) (place_type (wide S) to) (place_more S to)) (test_more (holds_values_of into) refl (place_type S from) (place_type (wide S) from) (place_more S from))) e
    stmt_more S (st.CopyAll to from) e = and_more (may_write S (root_of to)) (are_alike (place_type S to) (place_type S from)) (may_write S (root_of to)) (are_alike (place_type (wide S) to) (place_type (wide S) from)) (λ y. y) (alike_more (place_type S to) (place_type S from) (place_type (wide S) to) (place_type (wide S) from) (place_more S to) (place_more S from)) e
    stmt_more S (st.Call k args at) e = and_more (not (is_function S.exit)) _ (not (is_function S.exit)) _ (λ y. y) (procedure_more S args (slice_get S.routines k)) e
    stmt_more S (st.If' _ arms _ otherwise at) e = and_more (arms_fit S arms) (body_fits S otherwise) (arms_fit (wide S) arms) (body_fits (wide S) otherwise) (arms_more S arms) (body_more S otherwise) e
    stmt_more S (st.Switch' on _ cases _ otherwise at) e =
        and_more (is_some (type_of S on)) (cases_fit S (type_of S on) cases && body_fits S otherwise) (is_some (type_of (wide S) on)) (cases_fit (wide S) (type_of (wide S) on) cases && body_fits (wide S) otherwise) (test_more is_some refl (type_of S on) (type_of (wide S) on) (type_more S on))
        (and_more (cases_fit S (type_of S on) cases) (body_fits S otherwise) (cases_fit (wide S) (type_of (wide S) on) cases) (body_fits (wide S) otherwise) (cases_more S (type_of S on) (type_of (wide S) on) (type_more S on) cases) (body_more S otherwise)) e
    stmt_more S (st.For' over _ body at) e = and_more (is_simple_type S.kinds over) (body_fits (binding S over) body) (is_simple_type (S.kinds ++ more) over) (body_fits (binding (wide S) over) body) (simple_more S.kinds over) (body_more (binding S over) body) e
    stmt_more S (st.Clear place t at) e =
        and_more (may_write S (root_of place)) (is_type S.kinds t && option_map_or (same_type t) (place_type S place) false) (may_write S (root_of place)) (is_type (S.kinds ++ more) t && option_map_or (same_type t) (place_type (wide S) place) false) (λ y. y)
        (and_more (is_type S.kinds t) (option_map_or (same_type t) (place_type S place) false) (is_type (S.kinds ++ more) t) (option_map_or (same_type t) (place_type (wide S) place) false) (any_more S.kinds t) (test_more (λ o. option_map_or (same_type t) o false) refl (place_type S place) (place_type (wide S) place) (place_more S place))) e
    stmt_more S (st.Undefine place at) e = and_more (may_write S (root_of place)) (is_some (place_type S place)) (may_write S (root_of place)) (is_some (place_type (wide S) place)) (λ y. y) (test_more is_some refl (place_type S place) (place_type (wide S) place) (place_more S place)) e
    stmt_more S (st.Error at) e = e
    stmt_more S (st.Assert test at) e = test_more (is_of simple.Truth) refl (type_of S test) (type_of (wide S) test) (type_more S test) e
    stmt_more S (st.PutText at) e = e
    stmt_more S (st.Put shown at) e = test_more is_some refl (type_of S shown) (type_of (wide S) shown) (type_more S shown) e
    stmt_more S (st.Leave at) e = e
    stmt_more S (st.Return body at) e = test_more (returns S.exit) (none_returned S.exit) (type_of S body) (type_of (wide S) body) (type_more S body) e

    body_more : {n : _} (S : Scope) (body : Row_of-Stmt n) → body_fits S body ≡ true → body_fits (wide S) body ≡ true
    body_more S end_of-Stmt e = e
    body_more S (more_of-Stmt first rest) e = and_more (stmt_fits S first) (body_fits S rest) (stmt_fits (wide S) first) (body_fits (wide S) rest) (stmt_more S first) (body_more S rest) e

    arms_more : {n : _} (S : Scope) (arms : Row_of-Arm n) → arms_fit S arms ≡ true → arms_fit (wide S) arms ≡ true
    arms_more S end_of-Arm e = e
    arms_more S (more_of-Arm test _ body rest) e =
        and_more (is_of simple.Truth (type_of S test)) (body_fits S body && arms_fit S rest) (is_of simple.Truth (type_of (wide S) test)) (body_fits (wide S) body && arms_fit (wide S) rest) (test_more (is_of simple.Truth) refl (type_of S test) (type_of (wide S) test) (type_more S test))
        (and_more (body_fits S body) (arms_fit S rest) (body_fits (wide S) body) (arms_fit (wide S) rest) (body_more S body) (arms_more S rest)) e

    cases_more : {n : _} (S : Scope) (p q : Option Simple) → Below p q → (cases : Row_of-Case n) → cases_fit S p cases ≡ true → cases_fit (wide S) q cases ≡ true
    cases_more S p q below end_of-Case e = e
    cases_more S p q below (more_of-Case labels _ body rest) e =
        and_more (labels_fit S p labels) (body_fits S body && cases_fit S p rest) (labels_fit (wide S) q labels) (body_fits (wide S) body && cases_fit (wide S) q rest) (labels_more S p q below labels)
        (and_more (body_fits S body) (cases_fit S p rest) (body_fits (wide S) body) (cases_fit (wide S) q rest) (body_more S body) (cases_more S p q below rest)) e

  -- Protocols

  variables_more : (kinds : List Kind) (vs : List Variable) → are_variables kinds vs ≡ true → are_variables (kinds ++ more) vs ≡ true
  variables_more kinds vs e = list_more (λ (w : Variable). is_type kinds w.of) (λ (w : Variable). is_type (kinds ++ more) w.of) (λ w. any_more kinds w.of) vs e

  parameters_more : (kinds : List Kind) (params : List Parameter) → are_parameter_types kinds params ≡ true → are_parameter_types (kinds ++ more) params ≡ true
  parameters_more kinds params e = list_more (λ (p : Parameter). is_simple_type kinds p.over) (λ (p : Parameter). is_simple_type (kinds ++ more) p.over) (λ p. simple_more kinds p.over) params e

  result_more : (kinds : List Kind) (o : Option Simple) → option_map_or (is_simple_type kinds) o true ≡ true → option_map_or (is_simple_type (kinds ++ more)) o true ≡ true
  result_more kinds None e = e
  result_more kinds (Some u) e = simple_more kinds u e

  module _ (T : Typed) where
    abbrev W : Typed
    W = with_kinds T more

    routine_more : (earlier : List Routine) (r : Routine) → routine_fits T earlier r ≡ true → routine_fits W earlier r ≡ true
    routine_more earlier r e =
        and_more (list_all (λ (f : DeclaredFormal). is_type T.kinds f.of && formal_allowed r.result f) r.formals) _ (list_all (λ (f : DeclaredFormal). is_type W.kinds f.of && formal_allowed r.result f) r.formals) _
        (list_more (λ (f : DeclaredFormal). is_type T.kinds f.of && formal_allowed r.result f) (λ (f : DeclaredFormal). is_type W.kinds f.of && formal_allowed r.result f) (λ f. and_more (is_type T.kinds f.of) (formal_allowed r.result f) (is_type W.kinds f.of) (formal_allowed r.result f) (any_more T.kinds f.of) (λ y. y)) r.formals)
        (and_more (option_map_or (is_simple_type T.kinds) r.result true) (are_variables T.kinds r.locals && stmt_fits (routine_scope T earlier r) r.body) (option_map_or (is_simple_type W.kinds) r.result true) (are_variables W.kinds r.locals && stmt_fits (routine_scope W earlier r) r.body) (result_more T.kinds r.result)
        (and_more (are_variables T.kinds r.locals) (stmt_fits (routine_scope T earlier r) r.body) (are_variables W.kinds r.locals) (stmt_fits (routine_scope W earlier r) r.body) (variables_more T.kinds r.locals) (stmt_more (routine_scope T earlier r) r.body))) e

    routines_more : (earlier rs : List Routine) → routines_fit T earlier rs ≡ true → routines_fit W earlier rs ≡ true
    routines_more earlier [] e = e
    routines_more earlier (r ∷ rs) e = and_more (routine_fits T earlier r) (routines_fit T (earlier ++ r ∷ []) rs) (routine_fits W earlier r) (routines_fit W (earlier ++ r ∷ []) rs) (routine_more earlier r) (routines_more (earlier ++ r ∷ []) rs) e

    guard_more : (S : Scope) (g : Option Guard) → guard_fits S g ≡ true → guard_fits (wide S) g ≡ true
    guard_more S None e = e
    guard_more S (Some g) e = test_more (is_of simple.Truth) refl (type_of S g.test) (type_of (wide S) g.test) (type_more S g.test) e

    start_more : (s : Start) → start_fits T s ≡ true → start_fits W s ≡ true
    start_more s e =
        and_more (are_parameter_types T.kinds s.params) (are_variables T.kinds s.locals && stmt_fits (top_scope T s.locals s.params) s.body) (are_parameter_types W.kinds s.params) (are_variables W.kinds s.locals && stmt_fits (top_scope W s.locals s.params) s.body) (parameters_more T.kinds s.params)
        (and_more (are_variables T.kinds s.locals) (stmt_fits (top_scope T s.locals s.params) s.body) (are_variables W.kinds s.locals) (stmt_fits (top_scope W s.locals s.params) s.body) (variables_more T.kinds s.locals) (stmt_more (top_scope T s.locals s.params) s.body)) e

    rule_more : (r : Rule) → rule_fits T r ≡ true → rule_fits W r ≡ true
    rule_more r e =
        and_more (are_parameter_types T.kinds r.params) (are_variables T.kinds r.locals && (guard_fits (top_scope T r.locals r.params) r.guard && stmt_fits (top_scope T r.locals r.params) r.body)) (are_parameter_types W.kinds r.params) (are_variables W.kinds r.locals && (guard_fits (top_scope W r.locals r.params) r.guard && stmt_fits (top_scope W r.locals r.params) r.body)) (parameters_more T.kinds r.params)
        (and_more (are_variables T.kinds r.locals) (guard_fits (top_scope T r.locals r.params) r.guard && stmt_fits (top_scope T r.locals r.params) r.body) (are_variables W.kinds r.locals) (guard_fits (top_scope W r.locals r.params) r.guard && stmt_fits (top_scope W r.locals r.params) r.body) (variables_more T.kinds r.locals)
        (and_more (guard_fits (top_scope T r.locals r.params) r.guard) (stmt_fits (top_scope T r.locals r.params) r.body) (guard_fits (top_scope W r.locals r.params) r.guard) (stmt_fits (top_scope W r.locals r.params) r.body) (guard_more (top_scope T r.locals r.params) r.guard) (stmt_more (top_scope T r.locals r.params) r.body))) e

    formula_more : (f : TypedFormula) → formula_fits T f ≡ true → formula_fits W f ≡ true
    formula_more f e =
        and_more (are_parameter_types T.kinds f.params) (is_of simple.Truth (type_of (top_scope T [] f.params) f.body)) (are_parameter_types W.kinds f.params) (is_of simple.Truth (type_of (top_scope W [] f.params) f.body)) (parameters_more T.kinds f.params)
        (test_more (is_of simple.Truth) refl (type_of (top_scope T [] f.params) f.body) (type_of (top_scope W [] f.params) f.body) (type_more (top_scope T [] f.params) f.body)) e

    -- a well-typed protocol is one with more kinds
    pub well_typed_more : is_well_typed T ≡ true → is_well_typed W ≡ true
    well_typed_more e =
        and_more (are_variables T.kinds T.globals) (routines_fit T [] T.routines && (list_all (start_fits T) T.starts && (list_all (rule_fits T) T.rules && list_all (formula_fits T) T.invariants))) (are_variables W.kinds T.globals) (routines_fit W [] T.routines && (list_all (start_fits W) T.starts && (list_all (rule_fits W) T.rules && list_all (formula_fits W) T.invariants))) (variables_more T.kinds T.globals)
        (and_more (routines_fit T [] T.routines) (list_all (start_fits T) T.starts && (list_all (rule_fits T) T.rules && list_all (formula_fits T) T.invariants)) (routines_fit W [] T.routines) (list_all (start_fits W) T.starts && (list_all (rule_fits W) T.rules && list_all (formula_fits W) T.invariants)) (routines_more [] T.routines)
        (and_more (list_all (start_fits T) T.starts) (list_all (rule_fits T) T.rules && list_all (formula_fits T) T.invariants) (list_all (start_fits W) T.starts) (list_all (rule_fits W) T.rules && list_all (formula_fits W) T.invariants) (list_more (start_fits T) (start_fits W) start_more T.starts)
        (and_more (list_all (rule_fits T) T.rules) (list_all (formula_fits T) T.invariants) (list_all (rule_fits W) T.rules) (list_all (formula_fits W) T.invariants) (list_more (rule_fits T) (rule_fits W) rule_more T.rules) (list_more (formula_fits T) (formula_fits W) formula_more T.invariants)))) e
