-- What an opened body reads and writes is what its pieces do, each call opened.
use Rattle.std.proofs.Common.{◌≡◌, ℕ, Bool, true, false, List, [], ◌∷◌, ◌++◌, refl, sym, ap, ◌∙◌, append_assoc, append-nil}
use Rattle.std.specs.List.{flat_map}
use Rattle.murphi_ast.specs.declared.token.Span.{Span}
use Rattle.murphi_typed.specs.declared.expr.Expr as x
use Rattle.murphi_typed.specs.declared.expr.Expr.{Expr, end_of-Expr, more_of-Expr, Row_of-Link, end_of-Link, more_of-Link}
use Rattle.murphi_typed.specs.declared.expr.Designator as d
use Rattle.murphi_typed.specs.declared.expr.Designator.{Designator, Row_of-Selector, end_of-Selector, more_of-Selector}
use Rattle.murphi_typed.specs.declared.expr.Selector as select
use Rattle.murphi_typed.specs.declared.expr.Arguments as a
use Rattle.murphi_typed.specs.declared.expr.Arguments.{Arguments, Row_of-Argument, end_of-Argument, more_of-Argument}
use Rattle.murphi_typed.specs.declared.expr.Argument as argument
use Rattle.murphi_typed.specs.declared.stmt.Stmt as s
use Rattle.murphi_typed.specs.declared.stmt.Stmt.{Stmt, Row_of-Stmt, end_of-Stmt, more_of-Stmt, Row_of-Arm, end_of-Arm, more_of-Arm, Row_of-Case, end_of-Case, more_of-Case}
use Rattle.murphi_typed.specs.Forms.{NotForm, MinusForm, CompareForm, ImpliesForm, ChoiceForm, QuantifiedForm}
use Rattle.scalarset_rules.specs.Accesses.{Scope, binding, called, stands_of, Access, accessed, from_call, Opened, reads, chain_reads, index_reads, row_reads, argument_reads, row_argument_reads, one_argument_reads, accesses, all_accesses, arm_accesses, case_accesses}
use Rattle.scalarset_rules.specs.Pieces.{Piece, Enter, opened_piece, opened_pieces, read_pieces, chain_pieces, index_pieces, row_pieces, argument_pieces, row_argument_pieces, one_argument_pieces, touch_place, pieces, all_pieces, arm_pieces, case_pieces}
use Rattle.scalarset_rules.proofs.Sameness.{both}

pub opened_joined : (opened : Opened) (depth : ℕ) (xs ys : List Piece) → opened_pieces opened depth (xs ++ ys) ≡ opened_pieces opened depth xs ++ opened_pieces opened depth ys
opened_joined opened depth [] ys = refl
opened_joined opened depth (x ∷ xs) ys = ap (λ zs. opened_piece opened depth x ++ zs) (opened_joined opened depth xs ys) ∙ sym (append_assoc (opened_piece opened depth x) (opened_pieces opened depth xs) (opened_pieces opened depth ys))

module _ (opened : Opened) where
  two : (depth : ℕ) (xs ys : List Access) (ps qs : List Piece) → xs ≡ opened_pieces opened depth ps → ys ≡ opened_pieces opened depth qs → xs ++ ys ≡ opened_pieces opened depth (ps ++ qs)
  two depth xs ys ps qs e f = both (λ us ws. us ++ ws) e f ∙ sym (opened_joined opened depth ps qs)

  call_is : (scope : Scope) (xs : List Access) (ps : List Piece) (k : ℕ) (args : Arguments) (at : Span) → xs ≡ opened_pieces opened scope.depth ps → xs ++ from_call at (opened k (called scope (stands_of scope args))) ≡ opened_pieces opened scope.depth (ps ++ Enter k (stands_of scope args) at ∷ [])
  call_is scope xs ps k args at e = two scope.depth xs (from_call at (opened k (called scope (stands_of scope args)))) ps (Enter k (stands_of scope args) at ∷ []) e (sym (append-nil (from_call at (opened k (called scope (stands_of scope args))))))

  mutual
    unfolding reads read_pieces

    pub reads_are : (scope : Scope) (e : Expr) → reads opened scope e ≡ opened_pieces opened scope.depth (read_pieces scope e)
    reads_are scope (x.Known v) = refl
    reads_are scope (x.Bound k) = refl
    reads_are scope (x.Read place) = ap (λ us. accessed false scope place ∷ us) (indices_are scope place)
    reads_are scope (x.Call k args at) = call_is scope (argument_reads opened scope args) (argument_pieces scope args) k args at (arguments_are scope args)
    reads_are scope (NotForm body) = reads_are scope body
    reads_are scope (MinusForm body) = reads_are scope body
    reads_are scope (x.Chain' _ (more_of-Expr first end_of-Expr) _ rest) = two scope.depth (reads opened scope first) (chain_reads opened scope rest) (read_pieces scope first) (chain_pieces scope rest) (reads_are scope first) (chain_is scope rest)
    reads_are scope (CompareForm op left right) = two scope.depth (reads opened scope left) (reads opened scope right) (read_pieces scope left) (read_pieces scope right) (reads_are scope left) (reads_are scope right)
    reads_are scope (ImpliesForm left right) = two scope.depth (reads opened scope left) (reads opened scope right) (read_pieces scope left) (read_pieces scope right) (reads_are scope left) (reads_are scope right)
    reads_are scope (ChoiceForm test l r) =
        two scope.depth (reads opened scope test) (reads opened scope l ++ reads opened scope r) (read_pieces scope test) (read_pieces scope l ++ read_pieces scope r) (reads_are scope test)
        (two scope.depth (reads opened scope l) (reads opened scope r) (read_pieces scope l) (read_pieces scope r) (reads_are scope l) (reads_are scope r))
    reads_are scope (QuantifiedForm all over body) = reads_are (binding scope) body
    reads_are scope (x.IsUndefined place) = ap (λ us. accessed false scope place ∷ us) (indices_are scope place)

    chain_is : {n : _} (scope : Scope) (rest : Row_of-Link n) → chain_reads opened scope rest ≡ opened_pieces opened scope.depth (chain_pieces scope rest)
    chain_is scope end_of-Link = refl
    chain_is scope (more_of-Link op operand rest) = two scope.depth (reads opened scope operand) (chain_reads opened scope rest) (read_pieces scope operand) (chain_pieces scope rest) (reads_are scope operand) (chain_is scope rest)

    pub indices_are : (scope : Scope) (place : Designator) → index_reads opened scope place ≡ opened_pieces opened scope.depth (index_pieces scope place)
    indices_are scope (d.Of' r _ selectors at) = row_is scope selectors

    row_is : {n : _} (scope : Scope) (selectors : Row_of-Selector n) → row_reads opened scope selectors ≡ opened_pieces opened scope.depth (row_pieces scope selectors)
    row_is scope end_of-Selector = refl
    row_is scope (more_of-Selector (select.Field name) rest) = row_is scope rest
    row_is scope (more_of-Selector (select.Index over index) rest) = two scope.depth (reads opened scope index) (row_reads opened scope rest) (read_pieces scope index) (row_pieces scope rest) (reads_are scope index) (row_is scope rest)

    pub arguments_are : (scope : Scope) (args : Arguments) → argument_reads opened scope args ≡ opened_pieces opened scope.depth (argument_pieces scope args)
    arguments_are scope (a.Of' _ args) = row_arguments_are scope args

    row_arguments_are : {n : _} (scope : Scope) (args : Row_of-Argument n) → row_argument_reads opened scope args ≡ opened_pieces opened scope.depth (row_argument_pieces scope args)
    row_arguments_are scope end_of-Argument = refl
    row_arguments_are scope (more_of-Argument first rest) = two scope.depth (one_argument_reads opened scope first) (row_argument_reads opened scope rest) (one_argument_pieces scope first) (row_argument_pieces scope rest) (argument_is scope first) (row_arguments_are scope rest)

    argument_is : (scope : Scope) (arg : argument.Argument) → one_argument_reads opened scope arg ≡ opened_pieces opened scope.depth (one_argument_pieces scope arg)
    argument_is scope (argument.Copy place) = ap (λ us. accessed false scope place ∷ us) (indices_are scope place)
    argument_is scope (argument.CopyAll place) = ap (λ us. accessed false scope place ∷ us) (indices_are scope place)
    argument_is scope (argument.Value body) = reads_are scope body
    argument_is scope (argument.Place place) = indices_are scope place

  at_place : (write : Bool) (scope : Scope) (place : Designator) → accessed write scope place ∷ index_reads opened scope place ≡ opened_pieces opened scope.depth (touch_place write scope place)
  at_place write scope place = ap (λ us. accessed write scope place ∷ us) (indices_are scope place)

  labels_are : (scope : Scope) (labels : List Expr) → flat_map (reads opened scope) labels ≡ opened_pieces opened scope.depth (flat_map (read_pieces scope) labels)
  labels_are scope [] = refl
  labels_are scope (e ∷ es) = two scope.depth (reads opened scope e) (flat_map (reads opened scope) es) (read_pieces scope e) (flat_map (read_pieces scope) es) (reads_are scope e) (labels_are scope es)

  mutual
    unfolding accesses pieces

    pub accesses_are : (scope : Scope) (stmt : Stmt) → accesses opened scope stmt ≡ opened_pieces opened scope.depth (pieces scope stmt)
    accesses_are scope (s.Block' _ body) = all_are scope body
    accesses_are scope (s.Assign to into body) = two scope.depth (accessed true scope to ∷ index_reads opened scope to) (reads opened scope body) (touch_place true scope to) (read_pieces scope body) (at_place true scope to) (reads_are scope body)
    accesses_are scope (s.Copy to into from) = two scope.depth (accessed true scope to ∷ index_reads opened scope to) (accessed false scope from ∷ index_reads opened scope from) (touch_place true scope to) (touch_place false scope from) (at_place true scope to) (at_place false scope from)
    accesses_are scope (s.CopyAll to from) = two scope.depth (accessed true scope to ∷ index_reads opened scope to) (accessed false scope from ∷ index_reads opened scope from) (touch_place true scope to) (touch_place false scope from) (at_place true scope to) (at_place false scope from)
    accesses_are scope (s.Call k args at) = call_is scope (argument_reads opened scope args) (argument_pieces scope args) k args at (arguments_are scope args)
    accesses_are scope (s.If' _ arms _ otherwise at) = two scope.depth (arm_accesses opened scope arms) (all_accesses opened scope otherwise) (arm_pieces scope arms) (all_pieces scope otherwise) (arms_are scope arms) (all_are scope otherwise)
    accesses_are scope (s.Switch' on _ cases _ otherwise at) =
        two scope.depth (reads opened scope on) (case_accesses opened scope cases ++ all_accesses opened scope otherwise) (read_pieces scope on) (case_pieces scope cases ++ all_pieces scope otherwise) (reads_are scope on)
        (two scope.depth (case_accesses opened scope cases) (all_accesses opened scope otherwise) (case_pieces scope cases) (all_pieces scope otherwise) (cases_are scope cases) (all_are scope otherwise))
    accesses_are scope (s.For' over _ body at) = all_are (binding scope) body
    accesses_are scope (s.Clear place type at) = at_place true scope place
    accesses_are scope (s.Undefine place at) = at_place true scope place
    accesses_are scope (s.Error at) = refl
    accesses_are scope (s.Assert test at) = reads_are scope test
    accesses_are scope (s.PutText at) = refl
    accesses_are scope (s.Put shown at) = refl
    accesses_are scope (s.Leave at) = refl
    accesses_are scope (s.Return body at) = reads_are scope body

    pub all_are : {n : _} (scope : Scope) (body : Row_of-Stmt n) → all_accesses opened scope body ≡ opened_pieces opened scope.depth (all_pieces scope body)
    all_are scope end_of-Stmt = refl
    all_are scope (more_of-Stmt first rest) = two scope.depth (accesses opened scope first) (all_accesses opened scope rest) (pieces scope first) (all_pieces scope rest) (accesses_are scope first) (all_are scope rest)

    arms_are : {n : _} (scope : Scope) (arms : Row_of-Arm n) → arm_accesses opened scope arms ≡ opened_pieces opened scope.depth (arm_pieces scope arms)
    arms_are scope end_of-Arm = refl
    arms_are scope (more_of-Arm test _ body rest) =
        two scope.depth (reads opened scope test) (all_accesses opened scope body ++ arm_accesses opened scope rest) (read_pieces scope test) (all_pieces scope body ++ arm_pieces scope rest) (reads_are scope test)
        (two scope.depth (all_accesses opened scope body) (arm_accesses opened scope rest) (all_pieces scope body) (arm_pieces scope rest) (all_are scope body) (arms_are scope rest))

    cases_are : {n : _} (scope : Scope) (cases : Row_of-Case n) → case_accesses opened scope cases ≡ opened_pieces opened scope.depth (case_pieces scope cases)
    cases_are scope end_of-Case = refl
    cases_are scope (more_of-Case labels _ body rest) =
        two scope.depth (flat_map (reads opened scope) labels) (all_accesses opened scope body ++ case_accesses opened scope rest) (flat_map (read_pieces scope) labels) (all_pieces scope body ++ case_pieces scope rest) (labels_are scope labels)
        (two scope.depth (all_accesses opened scope body) (case_accesses opened scope rest) (all_pieces scope body) (case_pieces scope rest) (all_are scope body) (cases_are scope rest))
