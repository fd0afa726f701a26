-- What well-typed bodies read and write goes down the types of its variables, calls opened.
use Rattle.std.proofs.Common.{◌≡◌, ℕ, Bool, true, false, not, ◌&&◌, List, [], ◌∷◌, Option, None, Some, refl, sym, ap, ◌∙◌}
use Rattle.std.specs.Prelude.{slice_get, is_some, option_map, option_and_then}
use Rattle.std.specs.List.{flat_map}
use Rattle.std.specs.Option.{option_map_or}
use Rattle.std.proofs.lemmas.Bool.{and_parts}
use Rattle.murphi_ast.specs.declared.token.Span.{Span}
use Rattle.murphi_ast.specs.declared.expr.CompareOp.{CompareOp}
use Rattle.murphi_ast.specs.declared.expr.CompareOp.TheVariants as compare
use Rattle.murphi_typed.specs.declared.types.Simple.{Simple}
use Rattle.murphi_typed.specs.declared.types.Simple.TheVariants as simple
use Rattle.murphi_typed.specs.declared.types.AnyType.{AnyType}
use Rattle.murphi_typed.specs.declared.expr.Expr as x
use Rattle.murphi_typed.specs.declared.expr.Expr.{Expr, end_of-Expr, more_of-Expr, Row_of-Link, end_of-Link, more_of-Link}
use Rattle.murphi_typed.specs.declared.expr.Designator as d
use Rattle.murphi_typed.specs.declared.expr.Designator.{Designator, Row_of-Selector, end_of-Selector, more_of-Selector}
use Rattle.murphi_typed.specs.declared.expr.Selector as select
use Rattle.murphi_typed.specs.declared.expr.Arguments as a
use Rattle.murphi_typed.specs.declared.expr.Arguments.{Arguments, Row_of-Argument, end_of-Argument, more_of-Argument}
use Rattle.murphi_typed.specs.declared.expr.Argument as argument
use Rattle.murphi_typed.specs.declared.stmt.Stmt as s
use Rattle.murphi_typed.specs.declared.stmt.Stmt.{Stmt, Row_of-Stmt, end_of-Stmt, more_of-Stmt, Row_of-Arm, end_of-Arm, more_of-Arm, Row_of-Case, end_of-Case, more_of-Case}
use Rattle.murphi_typed.specs.declared.protocol.Formal.{Formal as DeclaredFormal}
use Rattle.murphi_typed.specs.declared.protocol.Routine.{Routine}
use Rattle.murphi_typed.specs.Forms.{NotForm, MinusForm, CompareForm, ImpliesForm, ChoiceForm, QuantifiedForm}
use Rattle.murphi_typed.specs.WellTyped.{Scope as Typing, Exit, AtEnd, ByReturn, WithValue, binding as typing_inside, numbers, root_type, may_write, root_of, simple_part, item_part, widened, is_of, only_if, operand_type, comparable as are_comparable, place_fits, given_place, given_compound, given_value, first_of, rest_of, type_of, chain_type, place_type, selected_type, arguments_fit, row_fits, argument_fits, is_function, is_cell_of, holds_values_of, are_alike, same_type, is_compound, labels_fit, returns, is_type, is_simple_type, stmt_fits, body_fits, arms_fit, cases_fit}
use Rattle.murphi_typed.specs.Keeping.{Declared}
use Rattle.scalarset_rules.specs.Accesses.{Scope, binding, called, stands_of, accessed, from_call, Opened, reads, chain_reads, index_reads, row_reads, argument_reads, row_argument_reads, one_argument_reads, accesses, all_accesses, arm_accesses, case_accesses}
use Rattle.scalarset_rules.proofs.Sameness.{false-true}
use Rattle.scalarset_rules.proofs.Walks.{some_of, none_selected, InScope, inside_scope, AllDown, down_both, down_called, read_down, write_down, OpenedDown, formals_stand}

some_mapped : {A B : Type 0} (f : A → B) (o : Option A) → is_some (option_map f o) ≡ true → is_some o ≡ true
some_mapped f None e = false-true e
some_mapped f (Some a) e = refl

some_if : {A : Type 0} (b : Bool) (o : Option A) → is_some (only_if b o) ≡ true → b ≡ true
some_if true o e = refl
some_if false o e = false-true e

some_kept : {A : Type 0} (b : Bool) (o : Option A) → is_some (only_if b o) ≡ true → is_some o ≡ true
some_kept true o e = e
some_kept false o e = false-true e

some_simple : (o : Option AnyType) → is_some (simple_part o) ≡ true → is_some o ≡ true
some_simple None e = false-true e
some_simple (Some U) e = refl

typed_of : (type : Simple) (o : Option Simple) → is_of type o ≡ true → is_some o ≡ true
typed_of type None e = false-true e
typed_of type (Some u) e = refl

left_typed : (op : CompareOp) (l r : Option Simple) → are_comparable op l r ≡ true → is_some l ≡ true
left_typed op (Some u) r e = refl
left_typed compare.Equal None r e = false-true e
left_typed compare.NotEqual None r e = false-true e
left_typed compare.Less None r e = false-true e
left_typed compare.LessEqual None r e = false-true e
left_typed compare.Greater None r e = false-true e
left_typed compare.GreaterEqual None r e = false-true e

right_typed : (op : CompareOp) (l r : Option Simple) → are_comparable op l r ≡ true → is_some r ≡ true
right_typed op l (Some u) e = refl
right_typed compare.Equal (Some w) None e = false-true e
right_typed compare.Equal None None e = false-true e
right_typed compare.NotEqual (Some w) None e = false-true e
right_typed compare.NotEqual None None e = false-true e
right_typed compare.Less l None e = false-true (and_parts (is_of numbers l) false e).1
right_typed compare.LessEqual l None e = false-true (and_parts (is_of numbers l) false e).1
right_typed compare.Greater l None e = false-true (and_parts (is_of numbers l) false e).1
right_typed compare.GreaterEqual l None e = false-true (and_parts (is_of numbers l) false e).1

some_fits : {A : Type 0} (test : A → Bool) (o : Option A) → option_map_or test o false ≡ true → is_some o ≡ true
some_fits test None e = false-true e
some_fits test (Some a) e = refl

none_chain : {n : _} (ts : Typing) (rest : Row_of-Link n) → chain_type ts None rest ≡ None
unfolding type_of
none_chain ts end_of-Link = refl
none_chain ts (more_of-Link op operand rest) = none_chain ts rest

chain_from : {n : _} (ts : Typing) (o : Option Simple) (rest : Row_of-Link n) → is_some (chain_type ts o rest) ≡ true → is_some o ≡ true
chain_from ts None rest e = false-true (sym (ap is_some (none_chain ts rest)) ∙ e)
chain_from ts (Some u) rest e = refl

selected_from : {n : _} (ts : Typing) (o : Option AnyType) (selectors : Row_of-Selector n) → is_some (selected_type ts o selectors) ≡ true → is_some o ≡ true
selected_from ts None selectors e = false-true (sym (ap is_some (none_selected ts selectors)) ∙ e)
selected_from ts (Some U) selectors e = refl

cell_typed : (into : Simple) (o : Option AnyType) → is_cell_of into o ≡ true → is_some o ≡ true
cell_typed into None e = false-true e
cell_typed into (Some U) e = refl

values_typed : (into : Simple) (o : Option AnyType) → holds_values_of into o ≡ true → is_some o ≡ true
values_typed into None e = false-true e
values_typed into (Some U) e = refl

alike_typed : (o p : Option AnyType) → are_alike o p ≡ true → (is_some o ≡ true) × (is_some p ≡ true)
alike_typed (Some U) (Some V) e = (refl, refl)
alike_typed (Some U) None e = false-true e
alike_typed None p e = false-true e

given_place_typed : (f : Option DeclaredFormal) (o : Option AnyType) → given_place f o ≡ true → is_some o ≡ true
given_place_typed None o e = false-true e
given_place_typed (Some f) None e = false-true (and_parts f.by_place false e).1
given_place_typed (Some f) (Some U) e = refl

given_compound_typed : (f : Option DeclaredFormal) (o : Option AnyType) → given_compound f o ≡ true → is_some o ≡ true
given_compound_typed None o e = false-true e
given_compound_typed (Some f) (Some U) e = refl
given_compound_typed (Some f) None e =
    let (not_by, rest) = and_parts (not f.by_place) (is_compound f.of && place_fits f.of None) e in
    false-true (and_parts (is_compound f.of) false rest).1

given_value_typed : (f : Option DeclaredFormal) (o : Option Simple) → given_value f o ≡ true → is_some o ≡ true
given_value_typed None o e = false-true e
given_value_typed (Some f) (Some u) e = refl
given_value_typed (Some f) None e =
    let (not_by, rest) = and_parts (not f.by_place) (option_map_or (λ type. is_of type None) (simple_part (Some f.of)) false) e in
    false-true (go (simple_part (Some f.of)) rest)
  where
    go : (o : Option Simple) → option_map_or (λ type. is_of type None) o false ≡ true → false ≡ true
    go None e = e
    go (Some u) e = e

returns_typed : (exit : Exit) (o : Option Simple) → returns exit o ≡ true → is_some o ≡ true
returns_typed exit (Some u) e = refl
returns_typed AtEnd None e = false-true e
returns_typed ByReturn None e = false-true e
returns_typed (WithValue type) None e = false-true e

module _ (e : ℕ) (types : Declared) (opened : Opened) where
  routine_fits_of : (o : Option Routine) (ts : Typing) (args : Arguments) → is_some (option_and_then (λ r. only_if (arguments_fit ts r.formals args) (option_map widened r.result)) o) ≡ true → (r : Routine) × ((o ≡ Some r) × (arguments_fit ts r.formals args ≡ true))
  routine_fits_of None ts args is = false-true is
  routine_fits_of (Some r) ts args is = (r, (refl, some_if (arguments_fit ts r.formals args) _ is))

  pub procedure_fits_of : (o : Option Routine) (ts : Typing) (args : Arguments) → option_map_or (λ r. not (is_some r.result) && arguments_fit ts r.formals args) o false ≡ true → (r : Routine) × ((o ≡ Some r) × (arguments_fit ts r.formals args ≡ true))
  procedure_fits_of None ts args is = false-true is
  procedure_fits_of (Some r) ts args is = (r, (refl, (and_parts (not (is_some r.result)) (arguments_fit ts r.formals args) is).1))

  call_down : (ts : Typing) (scope : Scope) (k : ℕ) (args : Arguments) (at : Span) (r : Routine) → InScope e types ts scope → OpenedDown e types opened ts.routines → slice_get ts.routines k ≡ Some r → arguments_fit ts r.formals args ≡ true → AllDown e types (from_call at (opened k (called scope (stands_of scope args))))
  call_down ts scope k args at r stands down found fits =
      down_called e types at (opened k (called scope (stands_of scope args))) (down k r found scope (stands_of scope args) stands.inside (formals_stand e types ts scope r.formals args stands fits))

  mutual
    unfolding reads type_of

    pub reads_down : (ts : Typing) (scope : Scope) (expr : Expr) → InScope e types ts scope → OpenedDown e types opened ts.routines → is_some (type_of ts expr) ≡ true → AllDown e types (reads opened scope expr)
    reads_down ts scope (x.Known v) stands down is = tt
    reads_down ts scope (x.Bound k) stands down is = tt
    reads_down ts scope (x.Read place) stands down is =
        let typed = some_simple (place_type ts place) (some_mapped widened (simple_part (place_type ts place)) is) in
        let (U, there) = some_of (place_type ts place) typed in
        (read_down e types ts scope place U stands there, indices_down ts scope place stands down typed)
    reads_down ts scope (x.Call k args at) stands down is =
        let (r, found) = routine_fits_of (slice_get ts.routines k) ts args is in
        down_both e types (argument_reads opened scope args) _ (arguments_down ts scope r.formals args stands down found.1)
        (call_down ts scope k args at r stands down found.0 found.1)
    reads_down ts scope (NotForm body) stands down is = reads_down ts scope body stands down (typed_of simple.Truth (type_of ts body) (some_if (is_of simple.Truth (type_of ts body)) _ is))
    reads_down ts scope (MinusForm body) stands down is = reads_down ts scope body stands down (typed_of numbers (type_of ts body) (some_if (is_of numbers (type_of ts body)) _ is))
    reads_down ts scope (x.Chain' _ (more_of-Expr first end_of-Expr) _ rest) stands down is =
        down_both e types (reads opened scope first) _ (reads_down ts scope first stands down (chain_from ts (type_of ts first) rest is)) (chain_down ts scope (type_of ts first) rest stands down is)
    reads_down ts scope (CompareForm op left right) stands down is =
        let fit = some_if (are_comparable op (type_of ts left) (type_of ts right)) _ is in
        down_both e types (reads opened scope left) _ (reads_down ts scope left stands down (left_typed op (type_of ts left) (type_of ts right) fit)) (reads_down ts scope right stands down (right_typed op (type_of ts left) (type_of ts right) fit))
    reads_down ts scope (ImpliesForm left right) stands down is =
        let (one, other) = and_parts (is_of simple.Truth (type_of ts left)) (is_of simple.Truth (type_of ts right)) (some_if (is_of simple.Truth (type_of ts left) && is_of simple.Truth (type_of ts right)) _ is) in
        down_both e types (reads opened scope left) _ (reads_down ts scope left stands down (typed_of simple.Truth (type_of ts left) one)) (reads_down ts scope right stands down (typed_of simple.Truth (type_of ts right) other))
    reads_down ts scope (ChoiceForm test first second) stands down is =
        let (one, other) = and_parts (is_of simple.Truth (type_of ts test)) (are_comparable compare.Equal (type_of ts first) (type_of ts second)) (some_if (is_of simple.Truth (type_of ts test) && are_comparable compare.Equal (type_of ts first) (type_of ts second)) _ is) in
        down_both e types (reads opened scope test) _ (reads_down ts scope test stands down (typed_of simple.Truth (type_of ts test) one))
        (down_both e types (reads opened scope first) _ (reads_down ts scope first stands down (left_typed compare.Equal (type_of ts first) (type_of ts second) other))
        (reads_down ts scope second stands down (right_typed compare.Equal (type_of ts first) (type_of ts second) other)))
    reads_down ts scope (QuantifiedForm all over body) stands down is =
        let (one, other) = and_parts (is_simple_type ts.kinds over) (is_of simple.Truth (type_of (typing_inside ts over) body)) (some_if (is_simple_type ts.kinds over && is_of simple.Truth (type_of (typing_inside ts over) body)) _ is) in
        reads_down (typing_inside ts over) (binding scope) body (inside_scope e types ts scope over stands) down (typed_of simple.Truth (type_of (typing_inside ts over) body) other)
    reads_down ts scope (x.IsUndefined place) stands down is =
        let typed = some_simple (place_type ts place) (some_if (is_some (simple_part (place_type ts place))) _ is) in
        let (U, there) = some_of (place_type ts place) typed in
        (read_down e types ts scope place U stands there, indices_down ts scope place stands down typed)

    chain_down : {n : _} (ts : Typing) (scope : Scope) (before : Option Simple) (rest : Row_of-Link n) → InScope e types ts scope → OpenedDown e types opened ts.routines → is_some (chain_type ts before rest) ≡ true → AllDown e types (chain_reads opened scope rest)
    chain_down ts scope before end_of-Link stands down is = tt
    chain_down ts scope before (more_of-Link op operand rest) stands down is =
        let fit = some_if (is_of (operand_type op) before && is_of (operand_type op) (type_of ts operand)) _ (chain_from ts (only_if (is_of (operand_type op) before && is_of (operand_type op) (type_of ts operand)) (Some (operand_type op))) rest is) in
        down_both e types (reads opened scope operand) _
        (reads_down ts scope operand stands down (typed_of (operand_type op) (type_of ts operand) (and_parts (is_of (operand_type op) before) (is_of (operand_type op) (type_of ts operand)) fit).1))
        (chain_down ts scope (only_if (is_of (operand_type op) before && is_of (operand_type op) (type_of ts operand)) (Some (operand_type op))) rest stands down is)

    pub indices_down : (ts : Typing) (scope : Scope) (place : Designator) → InScope e types ts scope → OpenedDown e types opened ts.routines → is_some (place_type ts place) ≡ true → AllDown e types (index_reads opened scope place)
    indices_down ts scope (d.Of' r _ selectors at) stands down is = row_down ts scope (root_type ts r) selectors stands down is

    row_down : {n : _} (ts : Typing) (scope : Scope) (found : Option AnyType) (selectors : Row_of-Selector n) → InScope e types ts scope → OpenedDown e types opened ts.routines → is_some (selected_type ts found selectors) ≡ true → AllDown e types (row_reads opened scope selectors)
    row_down ts scope found end_of-Selector stands down is = tt
    row_down ts scope found (more_of-Selector (select.Field name) rest) stands down is = row_down ts scope _ rest stands down is
    row_down ts scope found (more_of-Selector (select.Index over index) rest) stands down is =
        let fit = some_if (is_of over (type_of ts index)) (item_part found over) (selected_from ts (only_if (is_of over (type_of ts index)) (item_part found over)) rest is) in
        down_both e types (reads opened scope index) _ (reads_down ts scope index stands down (typed_of over (type_of ts index) fit))
        (row_down ts scope (only_if (is_of over (type_of ts index)) (item_part found over)) rest stands down is)

    pub arguments_down : (ts : Typing) (scope : Scope) (formals : List DeclaredFormal) (args : Arguments) → InScope e types ts scope → OpenedDown e types opened ts.routines → arguments_fit ts formals args ≡ true → AllDown e types (argument_reads opened scope args)
    arguments_down ts scope formals (a.Of' _ args) stands down is = row_arguments_down ts scope formals args stands down is

    row_arguments_down : {n : _} (ts : Typing) (scope : Scope) (formals : List DeclaredFormal) (args : Row_of-Argument n) → InScope e types ts scope → OpenedDown e types opened ts.routines → row_fits ts formals args ≡ true → AllDown e types (row_argument_reads opened scope args)
    row_arguments_down ts scope formals end_of-Argument stands down is = tt
    row_arguments_down ts scope formals (more_of-Argument first rest) stands down is =
        let (one, more) = and_parts (argument_fits ts (first_of formals) first) (row_fits ts (rest_of formals) rest) is in
        down_both e types (one_argument_reads opened scope first) _ (argument_down ts scope (first_of formals) first stands down one) (row_arguments_down ts scope (rest_of formals) rest stands down more)

    argument_down : (ts : Typing) (scope : Scope) (f : Option DeclaredFormal) (arg : argument.Argument) → InScope e types ts scope → OpenedDown e types opened ts.routines → argument_fits ts f arg ≡ true → AllDown e types (one_argument_reads opened scope arg)
    argument_down ts scope f (argument.Copy place) stands down is =
        let typed = some_simple (place_type ts place) (some_mapped widened (simple_part (place_type ts place)) (given_value_typed f (option_map widened (simple_part (place_type ts place))) is)) in
        let (U, there) = some_of (place_type ts place) typed in
        (read_down e types ts scope place U stands there, indices_down ts scope place stands down typed)
    argument_down ts scope f (argument.CopyAll place) stands down is =
        let typed = given_compound_typed f (place_type ts place) is in
        let (U, there) = some_of (place_type ts place) typed in
        (read_down e types ts scope place U stands there, indices_down ts scope place stands down typed)
    argument_down ts scope f (argument.Value body) stands down is = reads_down ts scope body stands down (given_value_typed f (type_of ts body) is)
    argument_down ts scope f (argument.Place place) stands down is =
        indices_down ts scope place stands down (given_place_typed f (place_type ts place) (and_parts (may_write ts (root_of place)) (given_place f (place_type ts place)) is).1)

  pub at_read : (ts : Typing) (scope : Scope) (place : Designator) → InScope e types ts scope → OpenedDown e types opened ts.routines → is_some (place_type ts place) ≡ true → AllDown e types (accessed false scope place ∷ index_reads opened scope place)
  at_read ts scope place stands down typed = let (U, there) = some_of (place_type ts place) typed in (read_down e types ts scope place U stands there, indices_down ts scope place stands down typed)

  pub at_write : (ts : Typing) (scope : Scope) (place : Designator) → InScope e types ts scope → OpenedDown e types opened ts.routines → is_some (place_type ts place) ≡ true → may_write ts (root_of place) ≡ true → AllDown e types (accessed true scope place ∷ index_reads opened scope place)
  at_write ts scope place stands down typed may = let (U, there) = some_of (place_type ts place) typed in (write_down e types ts scope place U stands there may, indices_down ts scope place stands down typed)

  labels_down : (ts : Typing) (scope : Scope) (on : Option Simple) (labels : List Expr) → InScope e types ts scope → OpenedDown e types opened ts.routines → labels_fit ts on labels ≡ true → AllDown e types (flat_map (reads opened scope) labels)
  labels_down ts scope on [] stands down is = tt
  labels_down ts scope on (label ∷ labels) stands down is =
      let (one, more) = and_parts (are_comparable compare.Equal on (type_of ts label)) (labels_fit ts on labels) is in
      down_both e types (reads opened scope label) _ (reads_down ts scope label stands down (right_typed compare.Equal on (type_of ts label) one)) (labels_down ts scope on labels stands down more)

  mutual
    unfolding accesses stmt_fits

    pub accesses_down : (ts : Typing) (scope : Scope) (stmt : Stmt) → InScope e types ts scope → OpenedDown e types opened ts.routines → stmt_fits ts stmt ≡ true → AllDown e types (accesses opened scope stmt)
    accesses_down ts scope (s.Block' _ body) stands down is = all_down ts scope body stands down is
    accesses_down ts scope (s.Assign to into body) stands down is =
        let (may, rest) = and_parts (may_write ts (root_of to)) (is_cell_of into (place_type ts to) && is_of into (type_of ts body)) is in
        let (cell, value) = and_parts (is_cell_of into (place_type ts to)) (is_of into (type_of ts body)) rest in
        down_both e types (accessed true scope to ∷ index_reads opened scope to) (reads opened scope body) (at_write ts scope to stands down (cell_typed into (place_type ts to) cell) may) (reads_down ts scope body stands down (typed_of into (type_of ts body) value))
    accesses_down ts scope (s.Copy to into from) stands down is =
        let (may, rest) = and_parts (may_write ts (root_of to)) (is_cell_of into (place_type ts to) && holds_values_of into (place_type ts from)) is in
        let (cell, value) = and_parts (is_cell_of into (place_type ts to)) (holds_values_of into (place_type ts from)) rest in
        down_both e types (accessed true scope to ∷ index_reads opened scope to) (accessed false scope from ∷ index_reads opened scope from) (at_write ts scope to stands down (cell_typed into (place_type ts to) cell) may) (at_read ts scope from stands down (values_typed into (place_type ts from) value))
    accesses_down ts scope (s.CopyAll to from) stands down is =
        let (may, rest) = and_parts (may_write ts (root_of to)) (are_alike (place_type ts to) (place_type ts from)) is in
        let (one, other) = alike_typed (place_type ts to) (place_type ts from) rest in
        down_both e types (accessed true scope to ∷ index_reads opened scope to) (accessed false scope from ∷ index_reads opened scope from) (at_write ts scope to stands down one may) (at_read ts scope from stands down other)
    accesses_down ts scope (s.Call k args at) stands down is =
        let (r, found) = procedure_fits_of (slice_get ts.routines k) ts args (and_parts (not (is_function ts.exit)) _ is).1 in
        down_both e types (argument_reads opened scope args) _ (arguments_down ts scope r.formals args stands down found.1) (call_down ts scope k args at r stands down found.0 found.1)
    accesses_down ts scope (s.If' _ arms _ otherwise at) stands down is =
        let (one, other) = and_parts (arms_fit ts arms) (body_fits ts otherwise) is in
        down_both e types (arm_accesses opened scope arms) _ (arms_down ts scope arms stands down one) (all_down ts scope otherwise stands down other)
    accesses_down ts scope (s.Switch' on _ cases _ otherwise at) stands down is =
        let (typed, rest) = and_parts (is_some (type_of ts on)) (cases_fit ts (type_of ts on) cases && body_fits ts otherwise) is in
        let (one, other) = and_parts (cases_fit ts (type_of ts on) cases) (body_fits ts otherwise) rest in
        down_both e types (reads opened scope on) _ (reads_down ts scope on stands down typed)
        (down_both e types (case_accesses opened scope cases) _ (cases_down ts scope (type_of ts on) cases stands down one) (all_down ts scope otherwise stands down other))
    accesses_down ts scope (s.For' over _ body at) stands down is =
        all_down (typing_inside ts over) (binding scope) body (inside_scope e types ts scope over stands) down (and_parts (is_simple_type ts.kinds over) (body_fits (typing_inside ts over) body) is).1
    accesses_down ts scope (s.Clear place type at) stands down is =
        let (may, rest) = and_parts (may_write ts (root_of place)) (is_type ts.kinds type && option_map_or (same_type type) (place_type ts place) false) is in
        at_write ts scope place stands down (some_fits (same_type type) (place_type ts place) (and_parts (is_type ts.kinds type) _ rest).1) may
    accesses_down ts scope (s.Undefine place at) stands down is =
        let (may, typed) = and_parts (may_write ts (root_of place)) (is_some (place_type ts place)) is in
        at_write ts scope place stands down typed may
    accesses_down ts scope (s.Error at) stands down is = tt
    accesses_down ts scope (s.Assert test at) stands down is = reads_down ts scope test stands down (typed_of simple.Truth (type_of ts test) is)
    accesses_down ts scope (s.PutText at) stands down is = tt
    accesses_down ts scope (s.Put shown at) stands down is = tt
    accesses_down ts scope (s.Leave at) stands down is = tt
    accesses_down ts scope (s.Return body at) stands down is = reads_down ts scope body stands down (returns_typed ts.exit (type_of ts body) is)

    pub all_down : {n : _} (ts : Typing) (scope : Scope) (body : Row_of-Stmt n) → InScope e types ts scope → OpenedDown e types opened ts.routines → body_fits ts body ≡ true → AllDown e types (all_accesses opened scope body)
    all_down ts scope end_of-Stmt stands down is = tt
    all_down ts scope (more_of-Stmt first rest) stands down is =
        let (one, more) = and_parts (stmt_fits ts first) (body_fits ts rest) is in
        down_both e types (accesses opened scope first) _ (accesses_down ts scope first stands down one) (all_down ts scope rest stands down more)

    arms_down : {n : _} (ts : Typing) (scope : Scope) (arms : Row_of-Arm n) → InScope e types ts scope → OpenedDown e types opened ts.routines → arms_fit ts arms ≡ true → AllDown e types (arm_accesses opened scope arms)
    arms_down ts scope end_of-Arm stands down is = tt
    arms_down ts scope (more_of-Arm test _ body rest) stands down is =
        let (one, more) = and_parts (is_of simple.Truth (type_of ts test)) (body_fits ts body && arms_fit ts rest) is in
        let (two, three) = and_parts (body_fits ts body) (arms_fit ts rest) more in
        down_both e types (reads opened scope test) _ (reads_down ts scope test stands down (typed_of simple.Truth (type_of ts test) one))
        (down_both e types (all_accesses opened scope body) _ (all_down ts scope body stands down two) (arms_down ts scope rest stands down three))

    cases_down : {n : _} (ts : Typing) (scope : Scope) (on : Option Simple) (cases : Row_of-Case n) → InScope e types ts scope → OpenedDown e types opened ts.routines → cases_fit ts on cases ≡ true → AllDown e types (case_accesses opened scope cases)
    cases_down ts scope on end_of-Case stands down is = tt
    cases_down ts scope on (more_of-Case labels _ body rest) stands down is =
        let (one, more) = and_parts (labels_fit ts on labels) (body_fits ts body && cases_fit ts on rest) is in
        let (two, three) = and_parts (body_fits ts body) (cases_fit ts on rest) more in
        down_both e types (flat_map (reads opened scope) labels) _ (labels_down ts scope on labels stands down one)
        (down_both e types (all_accesses opened scope body) _ (all_down ts scope body stands down two) (cases_down ts scope on rest stands down three))
