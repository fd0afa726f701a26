-- Statements: what is found of each where it stands. A body hands on what its enums declare for the whole text.
use Rattle.std.specs.Prelude.{suc, ◌+◌, ◌*◌, ℕ, Bool, true, false, not, ◌||◌, List, [], ◌∷◌, ◌++◌, length, Option, None, Some, unwrap_or, if◌then◌else◌}
use Rattle.murphi_ast.specs.declared.token.Span.{Span}
use Rattle.murphi_ast.specs.declared.expr.Expr as e
use Rattle.murphi_ast.specs.declared.expr.Expr.{Expr}
use Rattle.murphi_ast.specs.declared.stmt.Stmt as w
use Rattle.murphi_ast.specs.declared.stmt.Stmt.{Stmt, Row_of-Stmt, end_of-Stmt, more_of-Stmt, Row_of-Arm, end_of-Arm, more_of-Arm, Row_of-Case, end_of-Case, more_of-Case}
use Rattle.murphi_typed.specs.declared.types.Simple.{Simple}
use Rattle.murphi_typed.specs.declared.types.Simple.TheVariants as simple
use Rattle.murphi_typed.specs.declared.types.AnyType as t
use Rattle.murphi_typed.specs.declared.types.AnyType.{AnyType}
use Rattle.murphi_typed.specs.declared.expr.Root.TheVariants as root
use Rattle.murphi_typed.specs.declared.expr.Expr as x
use Rattle.murphi_typed.specs.declared.expr.Designator as d
use Rattle.murphi_typed.specs.declared.expr.Arguments as a
use Rattle.murphi_typed.specs.declared.stmt.Stmt as s
use Rattle.murphi_typed.specs.declared.stmt.Arm.{Arm}
use Rattle.murphi_typed.specs.declared.stmt.Case.{Case}
use Rattle.murphi_typed.specs.declared.protocol.Routine.{Routine}
use Rattle.murphi_types.specs.declared.fault.Cause.TheVariants as cause
use Rattle.murphi_types.specs.declared.fault.Fault.{Fault}
use Rattle.murphi_types.specs.declared.scope.Known.{Known}
use Rattle.murphi_types.specs.declared.scope.Scope.{Scope}
use Rattle.murphi_types.specs.Faults.{lone, unless}
use Rattle.murphi_types.specs.Places.{place_of, type_place_of}
use Rattle.murphi_types.specs.Scopes.{looked, binding}
use Rattle.murphi_types.specs.Fitting.{fits, is_simple, is_truth, is_comparable, simple_part}
use Rattle.murphi_types.specs.Weights.{turns_of}
use Rattle.murphi_types.specs.Found.{Found, with_more, wanted}
use Rattle.murphi_types.specs.Designators.{Start, Rooted, FoundPlace, designator_of, read_tree, start_type, place_made}
use Rattle.murphi_types.specs.Calls.{Callee, FoundArguments, callee_of, formals_of, count_fits, is_function, value_fits, may_write}
use Rattle.murphi_types.specs.Types.{FoundType, Unnamed, simple_wanted}
use Rattle.murphi_types.specs.Typing.{found, selectors_found, type_found}
use Rattle.murphi_types.specs.Lists.{place_found, list_arguments}

-- how a body may be left: a rule or a start state only at its end, a procedure by `return`, a function by `return`
-- with a value of its result type
pub data Leaving : Type 0 where
  AtEnd : Leaving
  ByReturn : Leaving
  WithValue : Option Simple → Leaving

-- statements that are found, with their weight and what is declared for the whole text after them
pub record FoundStmts : Type 0 where
  pub trees : List s.Stmt
  pub weight : ℕ
  pub known : Known
  pub faults : List Fault

abbrev pub no_stmts : Known → FoundStmts
no_stmts k = record { trees = []; weight = 0; known = k; faults = [] }

-- one statement, by the weight of what is directly in it
abbrev pub one_stmt : s.Stmt → ℕ → Known → List Fault → FoundStmts
one_stmt tree inside k faults = record { trees = tree ∷ []; weight = suc inside; known = k; faults = faults }

abbrev pub stmts_made : FoundStmts → FoundStmts → FoundStmts
stmts_made f g =
    record {
      trees = f.trees ++ g.trees;
      weight = f.weight + g.weight;
      known = g.known;
      faults = f.faults ++ g.faults;
    }

-- Writes

abbrev pub is_global : Start → Bool
is_global (Rooted (root.Global k)) = true
is_global _ = false

-- what is assigned, cleared or undefined: E14 at the root where it may not be written; a function writes no
-- global: E10 at the first token of the statement's designator
abbrev pub write_faults : Bool → Span → FoundPlace → List Fault
write_faults in_function at p =
    unless (may_write p.start) cause.E14 p.at ++ unless (not in_function || not (is_global p.start)) cause.E10 at

abbrev pub nothing_there : FoundPlace → d.Designator
nothing_there p = d.Of (root.Global 0) p.selectors p.at

-- the designator of a place; one that is no variable has its fault
abbrev pub target_of : FoundPlace → Start → d.Designator
target_of p (Rooted root) = designator_of root p
target_of p _ = nothing_there p

abbrev pub target : FoundPlace → d.Designator
target p = target_of p p.start

abbrev pub type_or : Option AnyType → AnyType
type_or type = unwrap_or type (t.Simple simple.Truth)

abbrev pub simple_or : Option AnyType → Simple
simple_or type = unwrap_or (simple_part type) simple.Truth

-- a right side: E07 at its first token where it has no value of the type of the left; two compounds are of the
-- same type
abbrev pub goes_into : Option AnyType → AnyType → Bool
goes_into (Some type) found = value_fits type found
goes_into None found = true

-- `to := from`, both plain designators: a copy, undefined cells included
abbrev pub copy_of : FoundPlace → FoundPlace → Start → s.Stmt
copy_of p q (Rooted root) =
    if fits is_simple p.type then s.Copy (target p) (simple_or p.type) (designator_of root q)
    else s.CopyAll (target p) (designator_of root q)
copy_of p q start = s.Assign (target p) (simple_or p.type) (read_tree q start)

abbrev pub copied : Bool → FoundPlace → FoundPlace → FoundStmts
copied in_function p q =
    one_stmt (copy_of p q q.start) (p.weight + q.weight) q.known (p.faults
    ++ (write_faults in_function p.at p
    ++ (q.faults ++ unless (fits (goes_into p.type) q.type) cause.E07 q.at)))

-- `to := value`, any other expression
abbrev pub stored : Bool → Span → FoundPlace → Found → FoundStmts
stored in_function at p f =
    one_stmt (s.Assign (target p) (simple_or p.type) f.tree) (p.weight + f.weight) f.known (p.faults
    ++ (write_faults in_function p.at p
    ++ (f.faults ++ unless (fits (goes_into p.type) f.type) cause.E07 at)))

abbrev pub assigned : Scope → FoundPlace → Expr → FoundStmts
assigned scope p (e.Place' name _ row) =
    copied scope.in_function p (with_more (start_type name.at (looked scope p.known name.name))
    (λ c. selectors_found scope p.known name.at c.type row) (place_made name.at (looked scope p.known name.name)))
assigned scope p other = stored scope.in_function (place_of other) p (found scope p.known other)

-- `clear` and `undefine`, at the place of the word
abbrev pub cleared : Bool → Span → FoundPlace → FoundStmts
cleared in_function at p =
    one_stmt (s.Clear (target p) (type_or p.type) at) p.weight p.known (p.faults ++ write_faults in_function at p)

abbrev pub undefined : Bool → Span → FoundPlace → FoundStmts
undefined in_function at p =
    one_stmt (s.Undefine (target p) at) p.weight p.known (p.faults ++ write_faults in_function at p)

-- Calls

-- a function is no statement: E11. A procedure is called outside functions only: E10.
abbrev pub statement_faults : Bool → Span → Option Routine → List Fault
statement_faults in_function at (Some r) =
    unless (not (is_function r)) cause.E11 at ++ unless (not in_function || is_function r) cause.E10 at
statement_faults in_function at None = []

abbrev pub called : Bool → Span → Callee → FoundArguments → FoundStmts
called in_function at c g =
    one_stmt (s.Call c.number (a.Of g.trees) at) (g.weight + c.weight) g.known (c.faults
    ++ (statement_faults in_function at c.routine
    ++ (unless (count_fits c.routine (length g.trees)) cause.E11 at ++ g.faults)))

-- Choices

pub record FoundArms : Type 0 where
  pub trees : List Arm
  pub weight : ℕ
  pub known : Known
  pub faults : List Fault

abbrev pub no_arms : Known → FoundArms
no_arms k = record { trees = []; weight = 0; known = k; faults = [] }

abbrev pub arm_made : Found → FoundStmts → FoundArms → FoundArms
arm_made f body g =
    record {
      trees = record { test = f.tree; body = body.trees } ∷ g.trees;
      weight = f.weight + (body.weight + g.weight);
      known = g.known;
      faults = f.faults ++ (body.faults ++ g.faults);
    }

abbrev pub if_made : Span → FoundArms → FoundStmts → FoundStmts
if_made at f g = one_stmt (s.If f.trees g.trees at) (f.weight + g.weight) g.known (f.faults ++ g.faults)

-- the labels of a case, each compared with what is switched on as by `=`
pub record FoundLabels : Type 0 where
  pub trees : List x.Expr
  pub weight : ℕ
  pub known : Known
  pub faults : List Fault

abbrev pub label_made : Found → FoundLabels → FoundLabels
label_made f g =
    record {
      trees = f.tree ∷ g.trees;
      weight = f.weight + g.weight;
      known = g.known;
      faults = f.faults ++ g.faults;
    }

abbrev pub labels_found : Scope → Known → Option AnyType → List Expr → FoundLabels
labels_found scope k on [] = record { trees = []; weight = 0; known = k; faults = [] }
labels_found scope k on (first ∷ rest) =
    with_more (wanted (is_comparable on) (place_of first) (found scope k first))
    (λ f. labels_found scope f.known on rest) label_made

pub record FoundCases : Type 0 where
  pub trees : List Case
  pub weight : ℕ
  pub known : Known
  pub faults : List Fault

abbrev pub no_cases : Known → FoundCases
no_cases k = record { trees = []; weight = 0; known = k; faults = [] }

abbrev pub case_made : FoundLabels → FoundStmts → FoundCases → FoundCases
case_made f body g =
    record {
      trees = record { labels = f.trees; body = body.trees } ∷ g.trees;
      weight = f.weight + (body.weight + g.weight);
      known = g.known;
      faults = f.faults ++ (body.faults ++ g.faults);
    }

abbrev pub switch_made : Span → Found → FoundCases → FoundStmts → FoundStmts
switch_made at f g h =
    one_stmt (s.Switch f.tree g.trees h.trees at) (f.weight + (g.weight + h.weight)) h.known
    (f.faults ++ (g.faults ++ h.faults))

-- Loops

abbrev pub for_made : Span → FoundType → FoundStmts → FoundStmts
for_made at f g =
    one_stmt (s.For (simple_or f.type) g.trees at) (turns_of (simple_part f.type) * g.weight) g.known
    (f.faults ++ g.faults)

-- Single words

abbrev pub asserted : Span → Found → FoundStmts
asserted at f = one_stmt (s.Assert f.tree at) f.weight f.known f.faults

abbrev pub shown : Span → Found → FoundStmts
shown at f = one_stmt (s.Put f.tree at) f.weight f.known f.faults

-- `put` of a string, or of a value of simple type
abbrev pub put : Scope → Known → Span → Option Expr → FoundStmts
put scope k at None = one_stmt (s.PutText at) 0 k []
put scope k at (Some body) = shown at (wanted is_simple (place_of body) (found scope k body))

-- the type of a result, where it is known
abbrev pub is_result : Option Simple → AnyType → Bool
is_result (Some type) found = value_fits (t.Simple type) found
is_result None found = true

abbrev pub returned : Span → Found → FoundStmts
returned at f = one_stmt (s.Return f.tree at) f.weight f.known f.faults

-- `return`: with a value in a function, without one in a procedure; anything else is E11
abbrev pub left : Scope → Known → Leaving → Span → Option Expr → FoundStmts
left scope k ByReturn at None = one_stmt (s.Leave at) 0 k []
left scope k (WithValue type) at (Some body) =
    returned at (wanted (is_result type) (place_of body) (found scope k body))
left scope k leaving at _ = one_stmt (s.Leave at) 0 k (lone cause.E11 at)

unfoldable mutual
  -- a statement, in a body that may be left so
  pub stmt_found : Leaving → Scope → Known → Stmt → FoundStmts
  -- `to := body`
  stmt_found leaving scope k (w.Assign to body) = assigned scope (place_found scope k to) body
  -- a call of a procedure that was declared before
  stmt_found leaving scope k (w.Call name args) =
      with_more (callee_of scope k name (looked scope k name.name))
      (λ c. list_arguments scope k name.at (formals_of c) args) (called scope.in_function name.at)
  -- the tests of an `if` are truth values; what a `switch` is on is simple, and its labels are of that type
  stmt_found leaving scope k (w.If' _ arms _ otherwise at) =
      with_more (arms_found leaving scope k arms) (λ f. stmts_found leaving scope f.known otherwise) (if_made at)
  stmt_found leaving scope k (w.Switch' on _ cases _ otherwise at) =
      with_more (wanted is_simple (place_of on) (found scope k on))
      (λ f. with_more (cases_found leaving scope f.known f.type cases)
      (λ g. stmts_found leaving scope g.known otherwise) (switch_made at f)) (λ f g. g)
  -- the variable of a `for` has a simple type and is seen in its body alone
  stmt_found leaving scope k (w.For' bind _ body at) =
      with_more (simple_wanted (type_place_of bind.over) (type_found scope k Unnamed bind.over))
      (λ f. stmts_found leaving (binding scope bind.name.name (simple_part f.type)) f.known body) (for_made at)
  -- the others
  stmt_found leaving scope k (w.Clear place at) = cleared scope.in_function at (place_found scope k place)
  stmt_found leaving scope k (w.Undefine place at) = undefined scope.in_function at (place_found scope k place)
  stmt_found leaving scope k (w.Error at) = one_stmt (s.Error at) 0 k []
  stmt_found leaving scope k (w.Assert test at) =
      asserted at (wanted is_truth (place_of test) (found scope k test))
  stmt_found leaving scope k (w.Put given at) = put scope k at given
  stmt_found leaving scope k (w.Return body at) = left scope k leaving at body

  pub stmts_found : {n : _} → Leaving → Scope → Known → Row_of-Stmt n → FoundStmts
  stmts_found leaving scope k end_of-Stmt = no_stmts k
  stmts_found leaving scope k (more_of-Stmt first rest) =
      with_more (stmt_found leaving scope k first) (λ f. stmts_found leaving scope f.known rest) stmts_made

  -- the tests of an `if`, each with the statements that it guards
  pub arms_found : {n : _} → Leaving → Scope → Known → Row_of-Arm n → FoundArms
  arms_found leaving scope k end_of-Arm = no_arms k
  arms_found leaving scope k (more_of-Arm test _ body rest) =
      with_more (wanted is_truth (place_of test) (found scope k test))
      (λ f. with_more (stmts_found leaving scope f.known body) (λ b. arms_found leaving scope b.known rest)
      (arm_made f)) (λ f g. g)

  -- the cases of a `switch` on a part of some type
  pub cases_found : {n : _} → Leaving → Scope → Known → Option AnyType → Row_of-Case n → FoundCases
  cases_found leaving scope k on end_of-Case = no_cases k
  cases_found leaving scope k on (more_of-Case labels _ body rest) =
      with_more (labels_found scope k on labels)
      (λ f. with_more (stmts_found leaving scope f.known body) (λ b. cases_found leaving scope b.known on rest)
      (case_made f)) (λ f g. g)

-- the statements of a body, where they stand in a list
abbrev pub body_found : Leaving → Scope → Known → List Stmt → FoundStmts
body_found leaving scope k [] = no_stmts k
body_found leaving scope k (first ∷ rest) =
    with_more (stmt_found leaving scope k first) (λ f. body_found leaving scope f.known rest) stmts_made
