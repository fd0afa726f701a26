-- Routines: formals, result, locals and body, in text order. A routine is declared from its end on, so it is called
-- only after it.
use Rattle.std.specs.Prelude.{ℕ, Bool, true, false, not, ◌&&◌, List, [], ◌∷◌, ◌++◌, length, Option, None, Some, is_some}
use Rattle.murphi_ast.specs.declared.expr.Named.{Named}
use Rattle.murphi_ast.specs.declared.expr.TypeExpr.{TypeExpr}
use Rattle.murphi_ast.specs.declared.stmt.Stmt.{Stmt}
use Rattle.murphi_ast.specs.declared.decl.Decl as decl
use Rattle.murphi_ast.specs.declared.decl.Decl.{Decl, Row_of-Decl, end_of-Decl, more_of-Decl}
use Rattle.murphi_ast.specs.declared.decl.Formal.{Formal}
use Rattle.murphi_typed.specs.Families.{Name}
use Rattle.murphi_typed.specs.declared.types.Simple.{Simple}
use Rattle.murphi_typed.specs.declared.types.AnyType.{AnyType}
use Rattle.murphi_typed.specs.declared.expr.Root.{Root}
use Rattle.murphi_typed.specs.declared.expr.Root.TheVariants as root
use Rattle.murphi_typed.specs.declared.stmt.Stmt as s
use Rattle.murphi_typed.specs.declared.protocol.Formal as typed
use Rattle.murphi_typed.specs.declared.protocol.Routine.{Routine}
use Rattle.murphi_types.specs.declared.fault.Cause.TheVariants as cause
use Rattle.murphi_types.specs.declared.fault.Fault.{Fault}
use Rattle.murphi_types.specs.declared.scope.Meaning.{Meaning}
use Rattle.murphi_types.specs.declared.scope.Meaning.TheVariants as meaning
use Rattle.murphi_types.specs.declared.scope.Known.{Known}
use Rattle.murphi_types.specs.declared.scope.Scope.{Scope}
use Rattle.murphi_types.specs.Faults.{unless, is_clear}
use Rattle.murphi_types.specs.Places.{type_place_of}
use Rattle.murphi_types.specs.Scopes.{entry}
use Rattle.murphi_types.specs.Fitting.{simple_part}
use Rattle.murphi_types.specs.Types.{FoundType, Unnamed, simple_wanted}
use Rattle.murphi_types.specs.Typing.{type_found}
use Rattle.murphi_types.specs.Declarations.{Declared, declared}
use Rattle.murphi_types.specs.Weights.{stopped}
use Rattle.murphi_types.specs.Statements.{Leaving, ByReturn, WithValue, FoundStmts, body_found}

-- Formals

pub record FoundFormals : Type 0 where
  pub scope : Scope
  pub known : Known
  pub formals : List typed.Formal
  pub faults : List Fault

-- formals are numbered together; a `var` formal stands for a place
abbrev pub formal_root : Bool → ℕ → Root
formal_root true k = root.Place k
formal_root false k = root.Formal k

abbrev pub formal_meaning : Bool → ℕ → Option AnyType → Meaning
formal_meaning by_place k (Some type) = meaning.Variable (formal_root by_place k) type
formal_meaning by_place k None = meaning.Refused

abbrev pub with_formal : Bool → Name → Option AnyType → List typed.Formal → List typed.Formal
with_formal by_place name (Some type) formals =
    formals ++ record { name = name; by_place = by_place; of = type } ∷ []
with_formal by_place name None formals = formals

abbrev pub one_formal : Bool → Option AnyType → Name → FoundFormals → FoundFormals
one_formal by_place type name f =
    record f {
      scope = record f.scope {
        inner = f.scope.inner ++ entry name (formal_meaning by_place (length f.formals) type) ∷ [];
      };
      formals = with_formal by_place name type f.formals;
    }

abbrev pub formals_of_names : Bool → Option AnyType → List Named → FoundFormals → FoundFormals
formals_of_names by_place type [] f = f
formals_of_names by_place type (n ∷ ns) f =
    formals_of_names by_place type ns (one_formal by_place type n.name f)

-- a function has no `var` formals: E10 at the first name of one
abbrev pub formal_faults : Bool → Bool → List Named → List Fault
formal_faults in_function by_place [] = []
formal_faults in_function by_place (n ∷ ns) = unless (not (in_function && by_place)) cause.E10 n.at

abbrev pub group_found : Formal → FoundFormals → FoundType → FoundFormals
group_found one f type =
    formals_of_names one.by_place type.type one.names
    (record f {
      known = type.known;
      faults = f.faults ++ (formal_faults f.scope.in_function one.by_place one.names ++ type.faults);
    })

abbrev pub formals_found : List Formal → FoundFormals → FoundFormals
formals_found [] f = f
formals_found (one ∷ rest) f =
    formals_found rest (group_found one f (type_found f.scope f.known Unnamed one.body))

-- Results

-- the result of a function has a simple type
pub record FoundResult : Type 0 where
  pub leaving : Leaving
  pub result : Option Simple
  pub known : Known
  pub faults : List Fault

abbrev pub with_result : FoundType → FoundResult
with_result f =
    record {
      leaving = WithValue (simple_part f.type);
      result = simple_part f.type;
      known = f.known;
      faults = f.faults;
    }

abbrev pub result_found : Scope → Known → Option TypeExpr → FoundResult
result_found s k None = record { leaving = ByReturn; result = None; known = k; faults = [] }
result_found s k (Some type) = with_result (simple_wanted (type_place_of type) (type_found s k Unnamed type))

-- Whole routines

-- the locals of a body
abbrev pub row_declared : {n : _} → Row_of-Decl n → Declared → Declared
row_declared end_of-Decl d = d
row_declared (more_of-Decl one rest) d = row_declared rest (declared false one d)

abbrev pub locals_of : Scope → FoundResult → List Fault → Declared
locals_of s r faults =
    record { scope = s; known = r.known; locals = []; faults = faults ++ r.faults; limits = [] }

-- what a routine leaves for the rest of the text: its name, itself, and the weight of its body, which stops at the
-- greatest u64
abbrev pub routine_meaning : Bool → ℕ → Meaning
routine_meaning true k = meaning.Routine k
routine_meaning false k = meaning.Refused

abbrev pub with_routine : Known → Bool → Routine → ℕ → Known
with_routine k typed one weight =
    record k {
      names = k.names ++ entry one.name (routine_meaning typed (length k.routines)) ∷ [];
      routines = k.routines ++ one ∷ [];
      weights = k.weights ++ stopped weight ∷ [];
    }

abbrev pub typed_routine : Name → FoundFormals → FoundResult → Declared → FoundStmts → Routine
typed_routine name f r d body =
    record {
      name = name;
      formals = f.formals;
      result = r.result;
      locals = d.locals;
      body = s.Block body.trees;
    }

pub record FoundRoutine : Type 0 where
  pub known : Known
  pub faults : List Fault

abbrev pub routine_made : Name → FoundFormals → FoundResult → Declared → FoundStmts → FoundRoutine
routine_made name f r d body =
    record {
      known = with_routine body.known (is_clear (d.faults ++ body.faults)) (typed_routine name f r d body)
          body.weight;
      faults = d.faults ++ (d.limits ++ body.faults);
    }

abbrev pub routine_body : Name → FoundFormals → FoundResult → List Stmt → Declared → FoundRoutine
routine_body name f r body d = routine_made name f r d (body_found r.leaving d.scope d.known body)

abbrev pub routine_after : Name → FoundFormals → FoundResult → {n : _} → Row_of-Decl n → List Stmt → FoundRoutine
routine_after name f r locals body =
    routine_body name f r body (row_declared locals (locals_of f.scope r f.faults))

abbrev pub no_formals : Scope → Bool → Known → FoundFormals
no_formals s in_function k =
    record { scope = record s { in_function = in_function }; known = k; formals = []; faults = [] }

abbrev pub routine_found : {n : _} → Scope → Known → Named → List Formal → Option TypeExpr → Row_of-Decl n →
    List Stmt → FoundRoutine
routine_found s k name formals result locals body =
    routine_with name.name result locals body (formals_found formals (no_formals s (is_some result) k))
  where
    routine_with : {n : _} → Name → Option TypeExpr → Row_of-Decl n → List Stmt → FoundFormals → FoundRoutine
    routine_with name result locals body f = routine_after name f (result_found f.scope f.known result) locals body

-- all declarations of a text, routines too
abbrev pub after_routine : Declared → FoundRoutine → Declared
after_routine d r = record d { known = r.known; faults = d.faults ++ r.faults }

abbrev pub globally_declared : Decl → Declared → Declared
globally_declared (decl.Routine' name formals result _ locals body) d =
    after_routine d (routine_found d.scope d.known name formals result locals body)
globally_declared other d = declared true other d

abbrev pub text_declared : List Decl → Declared → Declared
text_declared [] d = d
text_declared (one ∷ rest) d = text_declared rest (globally_declared one d)
