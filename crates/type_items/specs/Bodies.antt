-- What code gives of guards, of the bodies of rules and start states, and of what an invariant claims.
use Rattle.std.specs.Prelude.{ℕ, ◌+◌, false, List, [], length, take, Option, None, Some}
use Rattle.murphi_ast.specs.declared.token.Span.{Span}
use Rattle.murphi_ast.specs.declared.expr.Expr.{Expr}
use Rattle.murphi_ast.specs.declared.stmt.Stmt.{Stmt}
use Rattle.murphi_ast.specs.declared.decl.Decl.{Decl}
use Rattle.murphi_typed.specs.declared.stmt.Stmt as s
use Rattle.murphi_typed.specs.declared.protocol.Parameter.{Parameter}
use Rattle.murphi_types.specs.declared.fault.Fault.{Fault}
use Rattle.murphi_types.specs.declared.scope.Known.{Known}
use Rattle.murphi_types.specs.declared.scope.Scope.{Scope}
use Rattle.murphi_types.specs.Faults.{sooner}
use Rattle.murphi_types.specs.Weights.{stopped}
use Rattle.murphi_types.specs.Places.{place_of}
use Rattle.murphi_types.specs.Fitting.{fits, is_truth}
use Rattle.murphi_types.specs.Typing.{found}
use Rattle.murphi_types.specs.Declarations.{Declared, all_declared}
use Rattle.murphi_types.specs.Statements.{AtEnd, body_found}
use Rattle.murphi_types.specs.Items.{guard_found}
use Rattle.type_parts.specs.declared.context.Context.{Context}
use Rattle.type_parts.specs.declared.judged.Judged.{Judged}
use Rattle.type_parts.specs.Contexts.{moved}
use Rattle.type_parts.specs.Judging.{kept}
use Rattle.type_expressions.specs.PartsGiven.{part_of}
use Rattle.type_declarations.specs.declared.state.Declaring.{Declaring}
use Rattle.type_declarations.specs.Declaring.{declaring}
use Rattle.type_statements.specs.declared.judged.JudgedStmts.{JudgedStmts}
use Rattle.type_statements.specs.StatementsGiven.{stmts_part}
use Rattle.type_items.specs.declared.gathered.Inside.{Inside}
use Rattle.type_items.specs.declared.gathered.JudgedGuard.{JudgedGuard}
use Rattle.type_items.specs.declared.gathered.Stated.{Stated}
use Rattle.type_items.specs.declared.gathered.Bodied.{Bodied}
use Rattle.type_items.specs.declared.gathered.Claimed.{Claimed}

-- a part that has to be a truth value
abbrev pub truth_wanted : Span → Judged → Judged
truth_wanted at j = kept (fits is_truth j.of) at j

-- Guards

abbrev pub guard_judged : Span → Judged → JudgedGuard
guard_judged at j =
    record { guard = Some (record { test = j.tree; at = at }); weight = j.weight; fault = j.fault }

abbrev pub guard_with : Context → Option Expr → JudgedGuard
guard_with c None = record { guard = None; weight = 0; fault = None }
guard_with c (Some test) =
    guard_judged (place_of test) (truth_wanted (place_of test) (part_of (found c.scope c.known test)))

-- Bodies

-- locals are declared from nothing on
abbrev pub no_locals : Context → Declared
no_locals c = record { scope = c.scope; known = c.known; locals = []; faults = []; limits = [] }

abbrev pub locals_with : Context → List Decl → Declaring
locals_with c all = declaring false (all_declared false all (no_locals c))

-- the first names of a scope
abbrev pub shortened : ℕ → Scope → Scope
shortened entries s = record s { inner = take entries s.inner }

-- statements after locals
unfoldable pub stated_after : ℕ → Declaring → JudgedStmts → Known → Stated
stated_after entries d j k =
    record {
      context = record { scope = shortened entries d.context.scope; known = k };
      locals = d.locals;
      trees = j.trees;
      weight = j.weight;
      fault = sooner d.fault j.fault;
      limit = d.limit;
    }

abbrev pub stated_with : ℕ → Declaring → List Stmt → Stated
stated_with entries d body =
    stated_after entries d (stmts_part (body_found AtEnd d.context.scope d.context.known body))
    (body_found AtEnd d.context.scope d.context.known body).known

unfoldable pub bodied_done : List Parameter → Option Fault → JudgedGuard → Stated → Bodied
bodied_done params fault g t =
    record {
      inside = record { context = t.context; params = params; fault = fault };
      part = record {
        guard = g.guard;
        locals = t.locals;
        body = s.Block t.trees;
        weight = stopped (g.weight + t.weight);
        fault = sooner g.fault t.fault;
        limit = t.limit;
      };
    }

-- guard, locals and body
unfoldable pub bodied_with : Inside → Option Expr → List Decl → List Stmt → Bodied
bodied_with I guard locals body =
    bodied_done I.params I.fault (guard_with I.context guard)
    (stated_with (length I.context.scope.inner)
    (locals_with (moved I.context (guard_found I.context.scope I.context.known guard).known) locals) body)

-- Invariants

unfoldable pub claimed_with : Inside → Expr → Claimed
claimed_with I body =
    record {
      inside = record I { context = moved I.context (found I.context.scope I.context.known body).known };
      part = truth_wanted (place_of body) (part_of (found I.context.scope I.context.known body));
    }
