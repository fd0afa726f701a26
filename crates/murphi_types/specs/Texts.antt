-- Whole texts: all faults of a protocol, its refusal, and the typed protocol that it gives.
use Rattle.std.specs.Prelude.{Bool, true, false, List, [], ◌∷◌, ◌++◌, map, Option, None, Some, is_some, if◌then◌else◌}
use Rattle.std.specs.List.{flat_map}
use Rattle.std.specs.Str.{bytes_eq}
use Rattle.murphi_ast.specs.declared.token.Span.{Span}
use Rattle.murphi_ast.specs.declared.expr.Named.{Named}
use Rattle.murphi_ast.specs.declared.expr.Expr as e
use Rattle.murphi_ast.specs.declared.expr.Expr.{Expr}
use Rattle.murphi_ast.specs.declared.expr.TypeExpr.{TypeExpr}
use Rattle.murphi_ast.specs.declared.decl.Decl as decl
use Rattle.murphi_ast.specs.declared.decl.Decl.{Decl}
use Rattle.murphi_ast.specs.declared.rule.Protocol.{Protocol}
use Rattle.murphi_ast.specs.Forms.{NameForm}
use Rattle.murphi_typed.specs.Families.{Name}
use Rattle.murphi_typed.specs.declared.expr.Root.TheVariants as root
use Rattle.murphi_typed.specs.declared.protocol.Entity.{Entity}
use Rattle.murphi_typed.specs.declared.protocol.Entity.TheVariants as entity
use Rattle.murphi_typed.specs.declared.protocol.Declared as typed
use Rattle.murphi_typed.specs.declared.protocol.NodeType.{NodeType}
use Rattle.murphi_typed.specs.declared.protocol.WrittenSize.{WrittenSize}
use Rattle.murphi_typed.specs.declared.protocol.WrittenSize.TheVariants as size
use Rattle.murphi_typed.specs.declared.protocol.Typed.{Typed}
use Rattle.murphi_types.specs.declared.fault.Fault.{Fault}
use Rattle.murphi_types.specs.declared.scope.Meaning.{Meaning}
use Rattle.murphi_types.specs.declared.scope.Meaning.TheVariants as meaning
use Rattle.murphi_types.specs.declared.scope.Entry.{Entry}
use Rattle.murphi_types.specs.declared.scope.Known.{Known}
use Rattle.murphi_types.specs.declared.scope.Scope.{Scope}
use Rattle.murphi_types.specs.Forms.{ScalarsetForm}
use Rattle.murphi_types.specs.Faults.{first_fault}
use Rattle.murphi_types.specs.Places.{place_of}
use Rattle.murphi_types.specs.Scopes.{or_else}
use Rattle.murphi_types.specs.Declarations.{Declared}
use Rattle.murphi_types.specs.Routines.{text_declared}
use Rattle.murphi_types.specs.Items.{Around, FoundItems, items_found}
use Rattle.murphi_types.specs.Written.{text_repeats}
use Rattle.murphi_types.specs.TextUses.{text_uses}

-- the names of all routines of a text
abbrev pub routine_name : Decl → List Name
routine_name (decl.Routine' name formals result _ locals body) = name.name ∷ []
routine_name _ = []

abbrev pub text_scope : Option Name → Protocol → Scope
text_scope node P =
    record { inner = []; bound = 0; in_function = false; routines = flat_map routine_name P.decls; node = node }

abbrev pub nothing_known : Known
nothing_known = record { names = []; kinds = []; globals = []; routines = []; weights = [] }

-- what the declarations of a text leave
abbrev pub declarations_of : Option Name → Protocol → Declared
declarations_of node P =
    text_declared P.decls
    (record { scope = text_scope node P; known = nothing_known; locals = []; faults = []; limits = [] })

abbrev pub no_items : Known → FoundItems
no_items k =
    record {
      known = k;
      written = [];
      rules = [];
      starts = [];
      invariants = [];
      rule_instances = 0;
      start_instances = 0;
      invariant_instances = 0;
      faults = [];
    }

abbrev pub around_nothing : Scope → Option Name → Around
around_nothing s size = record { scope = s; params = []; past = None; size = size }

-- The node type

-- how a size is written: one number, the name of one constant, or any other expression
abbrev pub written_size : Expr → WrittenSize
written_size (e.Number n at) = size.Number
written_size (NameForm name) = size.Constant name.name
written_size _ = size.Other

-- the size of a type of this name that is declared directly as a scalarset
abbrev pub size_of_type : Name → Named → TypeExpr → Option Expr
size_of_type node name (ScalarsetForm body at) = if bytes_eq name.name node then Some body else None
size_of_type node name _ = None

abbrev pub size_in : Name → Decl → Option Expr
size_in node (decl.TypeName name body) = size_of_type node name body
size_in node _ = None

abbrev pub size_among : Name → List Decl → Option Expr
size_among node [] = None
size_among node (one ∷ rest) = or_else (size_in node one) (size_among node rest)

-- the size of the node type, if its name is given and a global type of that name is declared as a scalarset
abbrev pub node_size : Option Name → Protocol → Option Expr
node_size (Some node) P = size_among node P.decls
node_size None P = None

-- the name of the constant that is the size
abbrev pub constant_in : Option Expr → Option Name
constant_in (Some (NameForm name)) = Some name.name
constant_in _ = None

abbrev pub size_name : Option Name → Protocol → Option Name
size_name node P = constant_in (node_size node P)

-- the uses of that constant, but for the declaration of the node type
abbrev pub size_uses : Name → Option Name → Protocol → List Span
size_uses node (Some name) P = text_uses node name P
size_uses node None P = []

abbrev pub node_type : Option Name → Protocol → Option Expr → Option NodeType
node_type (Some node) P (Some body) =
    Some (record {
      name = node;
      size = written_size body;
      size_at = place_of body;
      uses = size_uses node (constant_in (Some body)) P;
    })
node_type _ P _ = None

-- All faults

-- what its items leave
abbrev pub items_of : Option Name → Protocol → FoundItems
items_of node P =
    items_found (around_nothing (text_scope node P) (size_name node P)) P.rules
    (no_items (declarations_of node P).known)

-- all faults of a text that stand at a place
abbrev pub faults_of : Option Name → Protocol → List Fault
faults_of node P =
    (declarations_of node P).faults
    ++ ((declarations_of node P).limits ++ ((items_of node P).faults ++ text_repeats P.decls P.rules))

-- Refusals

-- why a text is refused: the first fault at a place; else a name for the node type that is no global type declared
-- as a scalarset, E13; else that there is no start state, E09
pub data Refusal : Type 0 where
  Placed : Fault → Refusal
  NoNodeType : Refusal
  NoStart : Refusal

abbrev pub no_node : Option Name → Protocol → Bool
no_node None P = false
no_node (Some node) P = if is_some (size_among node P.decls) then false else true

abbrev pub has_no_start : FoundItems → Bool
has_no_start items = is_none items.starts
  where
    is_none : {A : Type 0} → List A → Bool
    is_none [] = true
    is_none (x ∷ xs) = false

abbrev pub later_refusal : Option Name → Protocol → Option Refusal
later_refusal node P =
    if no_node node P then Some NoNodeType else (if has_no_start (items_of node P) then Some NoStart else None)

abbrev pub refused : Option Fault → Option Refusal → Option Refusal
refused (Some f) later = Some (Placed f)
refused None later = later

abbrev pub refusal : Option Name → Protocol → Option Refusal
refusal node P = refused (first_fault (faults_of node P)) (later_refusal node P)

-- The typed protocol

-- what a global name declares; one that has a fault declares nothing that is used
abbrev pub entity_of : Meaning → Entity
entity_of (meaning.Constant n) = entity.Constant n
entity_of (meaning.TypeName type) = entity.TypeName type
entity_of (meaning.Variable (root.Global k) type) = entity.Variable k
entity_of (meaning.Variable _ type) = entity.Variable 0
entity_of (meaning.Member kind index count) = entity.Member kind index count
entity_of (meaning.Routine k) = entity.Routine k
entity_of (meaning.Bound k over) = entity.Variable 0
entity_of meaning.Refused = entity.Variable 0

abbrev pub declared_name : Entry → typed.Declared
declared_name one = record { name = one.name; what = entity_of one.what }

-- the typed protocol of a text that is not refused
abbrev pub typed_text : Option Name → Protocol → Typed
typed_text node P =
    record {
      names = map declared_name (items_of node P).known.names;
      kinds = (items_of node P).known.kinds;
      node = node_type node P (node_size node P);
      globals = (items_of node P).known.globals;
      routines = (items_of node P).known.routines;
      weights = (items_of node P).known.weights;
      starts = (items_of node P).starts;
      rules = (items_of node P).rules;
      invariants = (items_of node P).invariants;
    }
