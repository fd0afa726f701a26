-- Declarations of constants, types and variables. A name is declared from the end of its declaration on. Globals
-- are declared for the whole text, the others in the scope of their routine, rule or start state.
use Rattle.std.specs.Prelude.{Bool, true, false, ℤ, List, [], ◌∷◌, ◌++◌, length, Option, None, Some, if◌then◌else◌}
use Rattle.std.specs.Str.{bytes_eq}
use Rattle.murphi_ast.specs.declared.expr.Named.{Named}
use Rattle.murphi_ast.specs.declared.decl.Decl as decl
use Rattle.murphi_ast.specs.declared.decl.Decl.{Decl}
use Rattle.murphi_typed.specs.Families.{Name}
use Rattle.murphi_typed.specs.declared.types.AnyType.{AnyType}
use Rattle.murphi_typed.specs.declared.expr.Root.{Root}
use Rattle.murphi_typed.specs.declared.expr.Root.TheVariants as root
use Rattle.murphi_typed.specs.declared.protocol.Variable.{Variable}
use Rattle.murphi_types.specs.declared.fault.Fault.{Fault}
use Rattle.murphi_types.specs.declared.scope.Meaning.{Meaning}
use Rattle.murphi_types.specs.declared.scope.Meaning.TheVariants as meaning
use Rattle.murphi_types.specs.declared.scope.Known.{Known}
use Rattle.murphi_types.specs.declared.scope.Scope.{Scope}
use Rattle.murphi_types.specs.Places.{place_of}
use Rattle.murphi_types.specs.Leaves.{leaf_faults}
use Rattle.murphi_types.specs.Scopes.{entry, with_name}
use Rattle.murphi_types.specs.Constants.{is_constant}
use Rattle.murphi_types.specs.Types.{FoundType, FoundNumber, Naming, As, AsNodes, Unnamed, number_found}
use Rattle.murphi_types.specs.Typing.{found, type_found}

-- what declarations leave: the names in scope, what is declared for the whole text, the locals so far, the faults
-- of typing, and those of leaves, which an ill-typed item has not
pub record Declared : Type 0 where
  pub scope : Scope
  pub known : Known
  pub locals : List Variable
  pub faults : List Fault
  pub limits : List Fault

-- one more name, for the whole text or in the innermost scope
abbrev pub declare : Bool → Name → Meaning → Declared → Declared
declare true name what d = record d { known = with_name d.known name what }
declare false name what d =
    record d { scope = record d.scope { inner = d.scope.inner ++ entry name what ∷ [] } }

-- what a constant's name stands for
abbrev pub constant_meaning : Option ℤ → Meaning
constant_meaning (Some n) = meaning.Constant n
constant_meaning None = meaning.Refused

abbrev pub after_number : Bool → Name → Declared → FoundNumber → Declared
after_number globally name d f =
    declare globally name (constant_meaning f.number) (record d { known = f.known; faults = d.faults ++ f.faults })

-- a global type that is declared as a scalarset is the node type where it has the name that is given for that
abbrev pub naming_of : Bool → Option Name → Name → Naming
naming_of true (Some node) name = if bytes_eq node name then AsNodes else As name
naming_of _ _ name = As name

abbrev pub type_meaning : Option AnyType → Meaning
type_meaning (Some type) = meaning.TypeName type
type_meaning None = meaning.Refused

abbrev pub after_type : Bool → Name → Declared → FoundType → Declared
after_type globally name d f =
    declare globally name (type_meaning f.type) (record d { known = f.known; faults = d.faults ++ f.faults })

-- variables are numbered in the order of the text: globals, and the locals of one body, each from 0
abbrev pub with_variable : Bool → Variable → Declared → Declared
with_variable true v d = record d { known = record d.known { globals = d.known.globals ++ v ∷ [] } }
with_variable false v d = record d { locals = d.locals ++ v ∷ [] }

abbrev pub next_root : Bool → Declared → Root
next_root true d = root.Global (length d.known.globals)
next_root false d = root.Local (length d.locals)

abbrev pub declare_variable : Bool → Name → Option AnyType → Declared → Declared
declare_variable globally name (Some type) d =
    declare globally name (meaning.Variable (next_root globally d) type)
    (with_variable globally (record { name = name; of = type }) d)
declare_variable globally name None d = declare globally name meaning.Refused d

-- the names before one `:` have one type
abbrev pub declare_variables : Bool → List Named → Option AnyType → Declared → Declared
declare_variables globally [] type d = d
declare_variables globally (n ∷ ns) type d =
    declare_variables globally ns type (declare_variable globally n.name type d)

-- the variables that are counted together: all globals, or the locals of one body
abbrev pub counted : Bool → Declared → List Variable
counted true d = d.known.globals
counted false d = d.locals

abbrev pub with_limit : Bool → List Named → Declared → Declared
with_limit globally names d = record d { limits = d.limits ++ leaf_faults names (counted globally d) }

abbrev pub after_variables : Bool → List Named → Declared → FoundType → Declared
after_variables globally names d f =
    with_limit globally names
    (declare_variables globally names f.type (record d { known = f.known; faults = d.faults ++ f.faults }))

-- a declaration of a constant, a type or variables; routines are declared elsewhere
abbrev pub declared : Bool → Decl → Declared → Declared
declared globally (decl.Constant name body) d =
    after_number globally name.name d (number_found (is_constant d.scope d.known body) (place_of body)
    (found d.scope d.known body))
declared globally (decl.TypeName name body) d =
    after_type globally name.name d
    (type_found d.scope d.known (naming_of globally d.scope.node name.name) body)
declared globally (decl.Variables names body) d =
    after_variables globally names d (type_found d.scope d.known Unnamed body)
declared globally _ d = d

-- declarations in turn
abbrev pub all_declared : Bool → List Decl → Declared → Declared
all_declared globally [] d = d
all_declared globally (one ∷ rest) d = all_declared globally rest (declared globally one d)
