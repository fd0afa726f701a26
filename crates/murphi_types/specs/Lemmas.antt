-- Lemmas: an expression that is typed beside a typed protocol. Its names are the global names of the protocol, and
-- the enum names that it writes itself, which are declared within that lemma alone.
use Rattle.std.specs.Prelude.{ℕ, false, List, [], ◌++◌, map, length, Option, None, Some, is_some, slice_get, drop, if◌then◌else◌}
use Rattle.murphi_ast.specs.declared.token.Span.{Span}
use Rattle.murphi_ast.specs.declared.expr.Expr.{Expr}
use Rattle.murphi_typed.specs.declared.expr.Root.TheVariants as root
use Rattle.murphi_typed.specs.declared.protocol.Entity.{Entity}
use Rattle.murphi_typed.specs.declared.protocol.Entity.TheVariants as entity
use Rattle.murphi_typed.specs.declared.protocol.Declared.{Declared}
use Rattle.murphi_typed.specs.declared.protocol.Variable.{Variable}
use Rattle.murphi_typed.specs.declared.protocol.NodeType.{NodeType}
use Rattle.murphi_typed.specs.declared.protocol.WrittenSize.{WrittenSize}
use Rattle.murphi_typed.specs.declared.protocol.WrittenSize.TheVariants as size
use Rattle.murphi_typed.specs.declared.protocol.TypedFormula.{TypedFormula}
use Rattle.murphi_typed.specs.declared.protocol.Typed.{Typed}
use Rattle.murphi_typed.specs.Families.{Name}
use Rattle.murphi_typed.specs.Prefix.{formula_prefix}
use Rattle.murphi_types.specs.declared.fault.Fault.{Fault}
use Rattle.murphi_types.specs.declared.scope.Meaning.{Meaning}
use Rattle.murphi_types.specs.declared.scope.Meaning.TheVariants as meaning
use Rattle.murphi_types.specs.declared.scope.Known.{Known}
use Rattle.murphi_types.specs.declared.scope.Scope.{Scope}
use Rattle.murphi_types.specs.Places.{place_of}
use Rattle.murphi_types.specs.Scopes.{entry}
use Rattle.murphi_types.specs.Fitting.{is_truth}
use Rattle.murphi_types.specs.Found.{Found, wanted}
use Rattle.murphi_types.specs.Typing.{found}
use Rattle.murphi_types.specs.Repeats.{repeats, enum_names, field_repeats}
use Rattle.murphi_types.specs.Uses.{uses_of}
use Rattle.murphi_types.specs.Weights.{weight_faults}

-- what a global name of a typed protocol stands for
abbrev pub variable_meaning : ℕ → Option Variable → Meaning
variable_meaning k (Some v) = meaning.Variable (root.Global k) v.of
variable_meaning k None = meaning.Refused

abbrev pub global_meaning : Typed → Entity → Meaning
global_meaning T (entity.Constant n) = meaning.Constant n
global_meaning T (entity.TypeName type) = meaning.TypeName type
global_meaning T (entity.Variable k) = variable_meaning k (slice_get T.globals k)
global_meaning T (entity.Member kind index count) = meaning.Member kind index count
global_meaning T (entity.Routine k) = meaning.Routine k

-- what a typed protocol has declared
abbrev pub known_of : Typed → Known
known_of T =
    record {
      names = map (λ (n : Declared). entry n.name (global_meaning T n.what)) T.names;
      kinds = T.kinds;
      globals = T.globals;
      routines = T.routines;
      weights = T.weights;
    }

-- a lemma stands in no body, and all routines of the text are declared before it
abbrev pub lemma_scope : Scope
lemma_scope = record { inner = []; bound = 0; in_function = false; routines = []; node = None }

-- a lemma is a truth value
abbrev pub lemma_found : Typed → Expr → Found
lemma_found T body =
    wanted is_truth (place_of body) (found lemma_scope (known_of T) body)

-- the weight of an ill-typed lemma is not looked at
abbrev pub weight_faults_of : Span → Found → List Fault
weight_faults_of at f = if is_some f.type then weight_faults at f.weight else []

abbrev pub global_names : Typed → List Name
global_names T = map (λ (n : Declared). n.name) T.names

-- all faults of a lemma
abbrev pub lemma_faults : Typed → Expr → List Fault
lemma_faults T body =
    (lemma_found T body).faults
    ++ (repeats (global_names T) (enum_names body)
    ++ (field_repeats body ++ weight_faults_of (place_of body) (lemma_found T body)))

-- the name of the constant that gives the size of the node type
abbrev pub size_name : WrittenSize → Option Name
size_name (size.Constant name) = Some name
size_name _ = None

abbrev pub node_size_name : Option NodeType → Option Name
node_size_name (Some node) = size_name node.size
node_size_name None = None

-- the typed lemma; its name is given to it elsewhere
abbrev pub lemma_typed : Typed → Expr → TypedFormula
lemma_typed T body =
    record {
      title = [];
      params = [];
      body = (lemma_found T body).tree;
      prefix = formula_prefix T.routines [] (lemma_found T body).tree;
      kinds = drop (length T.kinds) (lemma_found T body).known.kinds;
      uses = uses_of (node_size_name T.node) body;
    }
