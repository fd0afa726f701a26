-- What code gives of statements: the same trees, with the first of their faults, and with the weight that stops at
-- the greatest u64.
use Rattle.std.specs.Prelude.{ℕ, suc, ◌+◌, ◌*◌, Bool, true, false, not, ◌||◌, List, [], ◌∷◌, ◌++◌, length, Option, None, Some, if◌then◌else◌}
use Rattle.term_core.specs.declared.value.Value.TheVariants as value
use Rattle.murphi_ast.specs.declared.token.Span.{Span}
use Rattle.murphi_typed.specs.declared.types.Simple.{Simple}
use Rattle.murphi_typed.specs.declared.expr.Root.TheVariants as root
use Rattle.murphi_typed.specs.declared.expr.Expr as x
use Rattle.murphi_typed.specs.declared.expr.Designator as d
use Rattle.murphi_typed.specs.declared.expr.Designator.{Designator}
use Rattle.murphi_typed.specs.declared.expr.Selector.{Selector}
use Rattle.murphi_typed.specs.declared.expr.Arguments as a
use Rattle.murphi_typed.specs.declared.stmt.Stmt as s
use Rattle.murphi_typed.specs.declared.stmt.Stmt.{Stmt}
use Rattle.murphi_types.specs.declared.fault.Cause.TheVariants as cause
use Rattle.murphi_types.specs.declared.fault.Fault.{Fault}
use Rattle.murphi_types.specs.declared.scope.Known.{Known}
use Rattle.murphi_types.specs.Faults.{sooner, first_fault}
use Rattle.murphi_types.specs.Weights.{stopped, turns_of}
use Rattle.murphi_types.specs.Fitting.{fits, is_simple, simple_part}
use Rattle.murphi_types.specs.Calls.{count_fits}
use Rattle.murphi_types.specs.Statements.{FoundStmts, FoundArms, FoundLabels, FoundCases, type_or, simple_or, goes_into, statement_faults}
use Rattle.murphi_types.specs.Statements as found
use Rattle.type_parts.specs.declared.judged.Judged.{Judged}
use Rattle.type_parts.specs.declared.judged.JudgedArguments.{JudgedArguments}
use Rattle.type_parts.specs.declared.judged.JudgedCallee.{JudgedCallee}
use Rattle.type_parts.specs.declared.judged.JudgedPlace.{JudgedPlace}
use Rattle.type_parts.specs.declared.judged.JudgedType.{JudgedType}
use Rattle.type_parts.specs.declared.judged.Start.{Start}
use Rattle.type_parts.specs.declared.judged.Start.TheVariants as start
use Rattle.type_parts.specs.Judging.{own}
use Rattle.type_forms.specs.Calling.{may_write}
use Rattle.type_statements.specs.declared.judged.Leaving.{Leaving}
use Rattle.type_statements.specs.declared.judged.Leaving.TheVariants as leave
use Rattle.type_statements.specs.declared.judged.JudgedStmt.{JudgedStmt}
use Rattle.type_statements.specs.declared.judged.JudgedStmts.{JudgedStmts}
use Rattle.type_statements.specs.declared.judged.JudgedArms.{JudgedArms}
use Rattle.type_statements.specs.declared.judged.JudgedLabels.{JudgedLabels}
use Rattle.type_statements.specs.declared.judged.JudgedCases.{JudgedCases}

-- how a body may be left, as the definition says it
abbrev pub leaving_of : Leaving → found.Leaving
leaving_of leave.AtEnd = found.AtEnd
leaving_of leave.ByReturn = found.ByReturn
leaving_of (leave.WithValue type) = found.WithValue type

abbrev pub judged_stmts : FoundStmts → JudgedStmts
judged_stmts f = record { trees = f.trees; weight = stopped f.weight; fault = first_fault f.faults }

abbrev pub judged_arms : FoundArms → JudgedArms
judged_arms f = record { trees = f.trees; weight = stopped f.weight; fault = first_fault f.faults }

abbrev pub judged_labels : FoundLabels → JudgedLabels
judged_labels f = record { trees = f.trees; weight = stopped f.weight; fault = first_fault f.faults }

abbrev pub judged_cases : FoundCases → JudgedCases
judged_cases f = record { trees = f.trees; weight = stopped f.weight; fault = first_fault f.faults }

-- the one statement that is found
abbrev pub first_tree : List Stmt → Stmt
first_tree (tree ∷ trees) = tree
first_tree [] = s.Block []

abbrev pub judged_stmt : FoundStmts → JudgedStmt
judged_stmt f = record { tree = first_tree f.trees; weight = stopped f.weight; fault = first_fault f.faults }

-- one statement, by the weight of what is directly in it
abbrev pub one_judged : Stmt → ℕ → Option Fault → JudgedStmt
one_judged tree inside fault = record { tree = tree; weight = stopped (suc inside); fault = fault }

-- Writes

abbrev pub is_global : Start → Bool
is_global (start.Rooted (root.Global k)) = true
is_global _ = false

-- what is wrong with a write to the designator at a place, in the statement at another
abbrev pub write_fault : Bool → Span → Span → Start → Option Fault
write_fault in_function at place first =
    sooner (own (may_write first) cause.E14 place) (own (not in_function || not (is_global first)) cause.E10 at)

abbrev pub target_of : Start → List Selector → Span → Designator
target_of (start.Rooted root) selectors at = d.Of root selectors at
target_of _ selectors at = d.Of (root.Global 0) selectors at

abbrev pub target : JudgedPlace → Designator
target p = target_of p.start p.selectors p.at

abbrev pub copy_of : Designator → Bool → Simple → Start → List Selector → Span → Stmt
copy_of to simple into (start.Rooted root) selectors at =
    if simple then s.Copy to into (d.Of root selectors at) else s.CopyAll to (d.Of root selectors at)
copy_of to simple into (start.Fixed tree) selectors at = s.Assign to into tree
copy_of to simple into start.Nowhere selectors at = s.Assign to into (x.Known value.Undefined)

abbrev pub copied_judged : Bool → JudgedPlace → JudgedPlace → JudgedStmt
copied_judged in_function p q =
    one_judged (copy_of (target p) (fits is_simple p.of) (simple_or p.of) q.start q.selectors q.at)
    (stopped (p.weight + q.weight))
    (sooner p.fault
    (sooner (write_fault in_function p.at p.at p.start)
    (sooner q.fault (own (fits (goes_into p.of) q.of) cause.E07 q.at))))

abbrev pub stored_judged : Bool → Span → JudgedPlace → Judged → JudgedStmt
stored_judged in_function at p j =
    one_judged (s.Assign (target p) (simple_or p.of) j.tree) (stopped (p.weight + j.weight))
    (sooner p.fault
    (sooner (write_fault in_function p.at p.at p.start)
    (sooner j.fault (own (fits (goes_into p.of) j.of) cause.E07 at))))

abbrev pub cleared_judged : Bool → Span → JudgedPlace → JudgedStmt
cleared_judged in_function at p =
    one_judged (s.Clear (target p) (type_or p.of) at) p.weight
    (sooner p.fault (write_fault in_function at p.at p.start))

abbrev pub undefined_judged : Bool → Span → JudgedPlace → JudgedStmt
undefined_judged in_function at p =
    one_judged (s.Undefine (target p) at) p.weight (sooner p.fault (write_fault in_function at p.at p.start))

-- Calls

abbrev pub called_judged : Bool → Span → JudgedCallee → JudgedArguments → JudgedStmt
called_judged in_function at c g =
    one_judged (s.Call c.number (a.Of g.trees) at) (stopped (g.weight + c.weight))
    (sooner c.fault
    (sooner (first_fault (statement_faults in_function at c.routine))
    (sooner (own (count_fits c.routine (length g.trees)) cause.E11 at) g.fault)))

-- Single words

abbrev pub asserted_judged : Span → Judged → JudgedStmt
asserted_judged at j = one_judged (s.Assert j.tree at) j.weight j.fault

abbrev pub shown_judged : Span → Judged → JudgedStmt
shown_judged at j = one_judged (s.Put j.tree at) j.weight j.fault

abbrev pub returned_judged : Span → Judged → JudgedStmt
returned_judged at j = one_judged (s.Return j.tree at) j.weight j.fault

abbrev pub left_judged : Span → Option Fault → JudgedStmt
left_judged at fault = one_judged (s.Leave at) 0 fault

-- `return` where it may not stand, or not so
abbrev pub misplaced_judged : Span → JudgedStmt
misplaced_judged at = left_judged at (Some (record { cause = cause.E11; at = at }))

-- Choices and loops

abbrev pub if_judged : Span → JudgedArms → JudgedStmts → JudgedStmt
if_judged at d b = one_judged (s.If d.trees b.trees at) (stopped (d.weight + b.weight)) (sooner d.fault b.fault)

abbrev pub switch_judged : Span → Judged → JudgedCases → JudgedStmts → JudgedStmt
switch_judged at j d b =
    one_judged (s.Switch j.tree d.trees b.trees at) (stopped (j.weight + stopped (d.weight + b.weight)))
    (sooner j.fault (sooner d.fault b.fault))

abbrev pub for_judged : Span → JudgedType → JudgedStmts → JudgedStmt
for_judged at f b =
    one_judged (s.For (simple_or f.of) b.trees at) (stopped (turns_of (simple_part f.of) * b.weight))
    (sooner f.fault b.fault)

-- One part more

abbrev pub stated_by : JudgedStmt → JudgedStmts → JudgedStmts
stated_by j d =
    record {
      trees = d.trees ++ j.tree ∷ [];
      weight = stopped (d.weight + j.weight);
      fault = sooner d.fault j.fault;
    }

abbrev pub labelled_by : Judged → JudgedLabels → JudgedLabels
labelled_by j d =
    record {
      trees = d.trees ++ j.tree ∷ [];
      weight = stopped (d.weight + j.weight);
      fault = sooner d.fault j.fault;
    }

abbrev pub armed_by : Judged → JudgedStmts → JudgedArms → JudgedArms
armed_by j b d =
    record {
      trees = d.trees ++ record { test = j.tree; body = b.trees } ∷ [];
      weight = stopped (d.weight + stopped (j.weight + b.weight));
      fault = sooner d.fault (sooner j.fault b.fault);
    }

abbrev pub cased_by : JudgedLabels → JudgedStmts → JudgedCases → JudgedCases
cased_by l b d =
    record {
      trees = d.trees ++ record { labels = l.trees; body = b.trees } ∷ [];
      weight = stopped (d.weight + stopped (l.weight + b.weight));
      fault = sooner d.fault (sooner l.fault b.fault);
    }

-- What is done of the parts, together with what the rest gives

pub record Stated : Type 0 where
  pub part : JudgedStmts
  pub known : Known

abbrev pub stated : JudgedStmts → FoundStmts → Stated
stated d f =
    record {
      part = record {
        trees = d.trees ++ f.trees;
        weight = stopped (d.weight + f.weight);
        fault = sooner d.fault (first_fault f.faults);
      };
      known = f.known;
    }

pub record Labelled : Type 0 where
  pub part : JudgedLabels
  pub known : Known

abbrev pub labelled : JudgedLabels → FoundLabels → Labelled
labelled d f =
    record {
      part = record {
        trees = d.trees ++ f.trees;
        weight = stopped (d.weight + f.weight);
        fault = sooner d.fault (first_fault f.faults);
      };
      known = f.known;
    }

pub record Armed : Type 0 where
  pub part : JudgedArms
  pub known : Known

abbrev pub armed : JudgedArms → FoundArms → Armed
armed d f =
    record {
      part = record {
        trees = d.trees ++ f.trees;
        weight = stopped (d.weight + f.weight);
        fault = sooner d.fault (first_fault f.faults);
      };
      known = f.known;
    }

pub record Cased : Type 0 where
  pub part : JudgedCases
  pub known : Known

abbrev pub cased : JudgedCases → FoundCases → Cased
cased d f =
    record {
      part = record {
        trees = d.trees ++ f.trees;
        weight = stopped (d.weight + f.weight);
        fault = sooner d.fault (first_fault f.faults);
      };
      known = f.known;
    }

-- where the loops begin
abbrev pub nothing_stated : JudgedStmts
nothing_stated = record { trees = []; weight = 0; fault = None }

abbrev pub nothing_labelled : JudgedLabels
nothing_labelled = record { trees = []; weight = 0; fault = None }

abbrev pub nothing_armed : JudgedArms
nothing_armed = record { trees = []; weight = 0; fault = None }

abbrev pub nothing_cased : JudgedCases
nothing_cased = record { trees = []; weight = 0; fault = None }
