-- States of a flat protocol: its variables, each of them undefined, false or true.
use Rattle.std.specs.Prelude.{ℕ, Bool, List, [], ◌∷◌, Option, None, if◌then◌else◌, map, flat_map, replicate, length}
use Rattle.std.specs.Str.{bytes_eq}
use Rattle.murphi_ast.specs.declared.expr.Named.{Named}
use Rattle.murphi_ast.specs.declared.decl.Decl as d
use Rattle.murphi_ast.specs.declared.decl.Decl.{Decl}
use Rattle.murphi_ast.specs.declared.rule.Protocol.{Protocol}

-- what a cell of a boolean variable holds: none where it is undefined
abbrev pub Cell : Type 0
Cell = Option Bool

-- a name is its bytes; two names are one where their bytes are
abbrev pub Name : Type 0
Name = List ℕ

-- the cells of a list of variables, in their order
abbrev pub State : Type 0
State = List Cell

-- the variables that a declaration declares
abbrev pub declared_by : Decl → List Name
declared_by (d.Variables names body) = map (λ (n : Named). n.name) names
declared_by _ = []

-- the variables of a protocol, in the order of their declarations
abbrev pub variables : Protocol → List Name
variables p = flat_map declared_by p.decls

-- the cell of a variable; a name that is none of them is undefined
abbrev pub cell_of : List Name → State → Name → Cell
cell_of [] cells name = None
cell_of (v ∷ vs) [] name = None
cell_of (v ∷ vs) (c ∷ cs) name = if bytes_eq v name then c else cell_of vs cs name

-- the state in which one variable has another cell
abbrev pub with_cell : List Name → State → Name → Cell → State
with_cell [] cells name new = cells
with_cell (v ∷ vs) [] name new = []
with_cell (v ∷ vs) (c ∷ cs) name new = if bytes_eq v name then new ∷ cs else c ∷ with_cell vs cs name new

-- every variable is undefined
abbrev pub undefined_state : List Name → State
undefined_state vs = replicate (length vs) None
