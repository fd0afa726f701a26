-- What code gives of routines and of the declarations of a text.
use Rattle.std.specs.Prelude.{ℕ, Bool, true, false, ◌&&◌, List, [], ◌∷◌, ◌++◌, take, length, Option, None, is_some, is_none}
use Rattle.murphi_ast.specs.declared.decl.Routine as w
use Rattle.murphi_typed.specs.Families.{Name}
use Rattle.murphi_typed.specs.declared.types.Simple.{Simple}
use Rattle.murphi_typed.specs.declared.stmt.Stmt as s
use Rattle.murphi_typed.specs.declared.protocol.Formal.{Formal}
use Rattle.murphi_typed.specs.declared.protocol.Routine.{Routine}
use Rattle.murphi_types.specs.declared.fault.Fault.{Fault}
use Rattle.murphi_types.specs.declared.scope.Known.{Known}
use Rattle.murphi_types.specs.declared.scope.Scope.{Scope}
use Rattle.murphi_types.specs.Faults.{sooner, first_fault}
use Rattle.murphi_types.specs.Scopes.{with_name}
use Rattle.murphi_types.specs.Declarations.{Declared, all_declared}
use Rattle.murphi_types.specs.Statements.{Leaving, ByReturn, WithValue, FoundStmts, body_found}
use Rattle.murphi_types.specs.Texts.{nothing_known}
use Rattle.murphi_types.specs.Routines.{FoundFormals, FoundResult, FoundRoutine, formals_found, no_formals, result_found, locals_of, routine_body, routine_meaning}
use Rattle.type_parts.specs.declared.context.Context.{Context}
use Rattle.type_parts.specs.Contexts.{moved, in_scope}
use Rattle.type_declarations.specs.declared.state.Declaring.{Declaring}
use Rattle.type_statements.specs.declared.judged.JudgedStmts.{JudgedStmts}
use Rattle.type_statements.specs.StatementsGiven.{stmts_part}
use Rattle.type_routines.specs.declared.state.JudgedRoutine.{JudgedRoutine}

-- The parts of a routine, over the lists that code reads

abbrev pub formals_in : Scope → Known → w.Routine → FoundFormals
formals_in s k one = formals_found one.formals (no_formals s (is_some one.result) k)

abbrev pub result_in : FoundFormals → w.Routine → FoundResult
result_in f one = result_found f.scope f.known one.result

abbrev pub locals_in : FoundFormals → w.Routine → Declared
locals_in f one = all_declared false one.locals (locals_of f.scope (result_in f one) f.faults)

abbrev pub routine_in : FoundFormals → w.Routine → FoundRoutine
routine_in f one = routine_body one.name.name f (result_in f one) one.body (locals_in f one)

-- a routine in the scope of a text
abbrev pub routine_of : Scope → Known → w.Routine → FoundRoutine
routine_of s k one = routine_in (formals_in s k one) one

-- What code gives

-- what a routine leaves, with the names that are in scope at its end
unfoldable pub routine_left : Scope → FoundRoutine → JudgedRoutine
routine_left s f = record { context = record { scope = s; known = f.known }; fault = first_fault f.faults }

-- where the locals of a body begin
abbrev pub nothing_local : Context → Option Fault → Declaring
nothing_local c fault = record { context = c; locals = []; leaves = 0; fault = fault; limit = None }

-- how the body of a routine may be left
abbrev pub leaving_by : Bool → Option Simple → Leaving
leaving_by true type = WithValue type
leaving_by false type = ByReturn

-- the name of the next routine
abbrev pub named_routine : Bool → Name → Known → Known
named_routine typed name k = with_name k name (routine_meaning typed (length k.routines))

-- one routine more, with the weight of its body
abbrev pub with_body : Routine → ℕ → Known → Known
with_body one weight k = record k { routines = k.routines ++ one ∷ []; weights = k.weights ++ weight ∷ [] }

abbrev pub finished_by : Name → List Formal → Option Simple → Declaring → JudgedStmts → Known → JudgedRoutine
finished_by name formals type p body k =
    record {
      context = moved p.context
          (with_body
          (record { name = name; formals = formals; result = type; locals = p.locals; body = s.Block body.trees })
          body.weight (named_routine (is_none p.fault && is_none body.fault) name k));
      fault = sooner p.fault (sooner p.limit body.fault);
    }

abbrev pub body_in : w.Routine → Option Simple → Context → FoundStmts
body_in one type c = body_found (leaving_by (is_some one.result) type) c.scope c.known one.body

-- a routine after its locals
abbrev pub finished : w.Routine → List Formal → Option Simple → Declaring → JudgedRoutine
finished one formals type p =
    finished_by one.name.name formals type p (stmts_part (body_in one type p.context))
    (body_in one type p.context).known

-- the scope with so many of its names
abbrev pub closed : ℕ → Bool → Scope → Scope
closed count in_function s = record s { inner = take count s.inner; in_function = in_function }

abbrev pub left_behind : ℕ → Bool → Context → Context
left_behind count in_function c = in_scope c (closed count in_function c.scope)

-- where the declarations of a text begin
abbrev pub text_begun : Option Name → List Name → Declaring
text_begun node routines =
    record {
      context = record {
        scope = record { inner = []; bound = 0; in_function = false; routines = routines; node = node };
        known = nothing_known;
      };
      locals = [];
      leaves = 0;
      fault = None;
      limit = None;
    }
