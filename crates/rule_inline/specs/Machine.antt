-- The machine of a typed protocol, and the pieces of a formula.
use Rattle.std.specs.Prelude.{ℕ, suc, ◌+◌, Bool, true, false, ◌&&◌, List, [], ◌∷◌, ◌++◌, map, length, Option, None, Some, if◌then◌else◌, slice_get}
use Rattle.std.specs.List.{flat_map}
use Rattle.std.specs.Option.{option_map_or}
use Rattle.std.specs.Str.{bytes_eq}
use Rattle.term_core.specs.declared.value.Value.{Value}
use Rattle.term_core.specs.declared.value.Value.TheVariants as value
use Rattle.term_core.specs.declared.term.Term as t
use Rattle.term_core.specs.declared.term.Term.{Term}
use Rattle.term_core.specs.declared.machine.Kind.{Kind as NamedKind}
use Rattle.term_core.specs.declared.machine.CellFamily.{CellFamily}
use Rattle.term_core.specs.declared.machine.Piece.{Piece}
use Rattle.term_core.specs.declared.machine.Update.{Update}
use Rattle.term_core.specs.declared.machine.TermRule.{TermRule}
use Rattle.term_core.specs.declared.machine.TermMachine.{TermMachine}
use Rattle.term_core.specs.Nodes.{nodes_from}
use Rattle.term_core.specs.Values.{same_value}
use Rattle.murphi_typed.specs.declared.types.Kind.{Kind}
use Rattle.murphi_typed.specs.declared.types.Kind.TheVariants as kind
use Rattle.murphi_typed.specs.declared.protocol.Parameter.{Parameter}
use Rattle.murphi_typed.specs.declared.protocol.Variable.{Variable}
use Rattle.murphi_typed.specs.declared.protocol.Guard.{Guard}
use Rattle.murphi_typed.specs.declared.protocol.Rule.{Rule}
use Rattle.murphi_typed.specs.declared.protocol.Start.{Start}
use Rattle.murphi_typed.specs.declared.protocol.TypedFormula.{TypedFormula}
use Rattle.murphi_typed.specs.declared.protocol.Typed.{Typed}
use Rattle.murphi_typed.specs.declared.stmt.Stmt.{Stmt}
use Rattle.murphi_typed.specs.declared.types.Simple.{Simple}
use Rattle.murphi_typed.specs.Values.{sort_of}
use Rattle.murphi_typed.specs.Families.{Path, Step, Into, Over, path_of, choices, Cell, cells}
use Rattle.murphi_typed.specs.Names.{member_text, value_text}
use Rattle.murphi_typed.specs.Steps.{same_list}
use Rattle.murphi_typed.specs.Store.{Owner, Global, same_owner}
use Rattle.rule_inline.specs.Demands.{truth_term, under_test, piece_of}
use Rattle.rule_inline.specs.Tables.{Key, holes, Slot, Family, Leaving, Result, Terms, Change, variables, writes}
use Rattle.rule_inline.specs.Parts.{Site, Valued, Done, Calls, undefined, valued_of}
use Rattle.rule_inline.specs.Bodies.{done_by, routine_calls}

-- Families

-- a value that is no node, or a hole
abbrev pub fixed : Value → Option Value
fixed (value.Node n) = None
fixed v = Some v

-- a family of a global: the cell of it whose node indices are all 1
pub record CellsOf : Type 0 where
  pub global : ℕ
  pub steps : List Step
  pub key : Key
  pub of : Simple

abbrev pub family_of : Cell → CellsOf
family_of c = record { global = c.global; steps = c.way.steps; key = map fixed c.at; of = c.way.leaf }

-- the families of the globals, in the order of the cells with one node
abbrev pub families_of : Typed → List CellsOf
families_of T = map family_of (cells 1 T)

abbrev pub slot_of : CellsOf → Slot
slot_of c = Family (Global c.global) (path_of c.steps) c.key

abbrev pub same_part : Option Value → Option Value → Bool
same_part None None = true
same_part (Some v) (Some w) = same_value v w
same_part _ _ = false

abbrev pub is_slot : Slot → Owner → Path → Key → Bool
is_slot (Family owner path key) owner' path' key' =
    same_owner owner owner' && (same_list bytes_eq path path' && same_list same_part key key')
is_slot _ owner path key = false

-- the number of a family in a list, whose first family has this number
abbrev pub number_from : ℕ → List CellsOf → Owner → Path → Key → Option ℕ
number_from first [] owner path key = None
number_from first (c ∷ cs) owner path key =
    if is_slot (slot_of c) owner path key then Some first else number_from (suc first) cs owner path key

abbrev pub number_of : List CellsOf → Owner → Path → Key → Option ℕ
number_of families owner path key = number_from 0 families owner path key

-- a way down, written behind a variable, with `[]` for a node index
abbrev pub way_name : List Kind → List Step → Key → List ℕ
way_name kinds [] key = []
way_name kinds (Into name ∷ steps) key = (46 ∷ name) ++ way_name kinds steps key
way_name kinds (Over index ∷ steps) [] = []
way_name kinds (Over index ∷ steps) (None ∷ key) = (91 ∷ 93 ∷ []) ++ way_name kinds steps key
way_name kinds (Over index ∷ steps) (Some v ∷ key) = (91 ∷ value_text kinds v) ++ (93 ∷ way_name kinds steps key)

abbrev pub family_name : Typed → CellsOf → List ℕ
family_name T c =
    option_map_or (λ (v : Variable). v.name) (slice_get T.globals c.global) [] ++ way_name T.kinds c.steps c.key

-- every cell of a protocol may be undefined
abbrev pub cell_family : Typed → CellsOf → CellFamily
cell_family T c =
    record { name = family_name T c; sort = sort_of c.of; axes = holes c.key; undefined = true }

-- Kinds

abbrev pub member_count : Kind → ℕ
member_count (kind.Listed names) = length names
member_count (kind.Scalarset name count) = count

abbrev pub named_kind : Kind → NamedKind
named_kind k = record { names = map (member_text (Some k)) (nodes_from 0 (member_count k)) }

-- Before anything is done

-- the cells of a family, in frames of `frame` variables
abbrev pub own_read : ℕ → Key → ℕ → Term
own_read frame key family = t.Read family (variables frame (holes key))

-- a global has its own cells; a local and the result are undefined
abbrev pub first_terms : List CellsOf → ℕ → Terms
first_terms families frame (Family owner path key) =
    option_map_or (own_read frame key) (number_of families owner path key) undefined
first_terms families frame Leaving = truth_term false
first_terms families frame Result = undefined

-- Instances

-- a value for each parameter that is no node, and a hole for each that is
abbrev pub instances : List Parameter → List Key
instances params = map (map fixed) (choices 1 (map (λ (p : Parameter). p.over) params))

-- the terms of the parameters: the node parameters are the variables from this one on
abbrev pub parameter_terms : ℕ → Key → List Term
parameter_terms next [] = []
parameter_terms next (None ∷ key) = t.Var next ∷ parameter_terms (suc next) key
parameter_terms next (Some v ∷ key) = t.Known v ∷ parameter_terms next key

-- the parameters as they stand in the machine: node parameters are numbered from 1
abbrev pub marked_values : ℕ → Key → List Value
marked_values next [] = []
marked_values next (None ∷ key) = value.Node next ∷ marked_values (suc next) key
marked_values next (Some v ∷ key) = v ∷ marked_values next key

abbrev pub top_site : Key → Site
top_site key = record { frame = holes key; depth = 0; result = None; bound = parameter_terms 0 key; formals = [] }

abbrev pub top_terms : Typed → Key → Terms
top_terms T key = first_terms (families_of T) (holes key)

abbrev pub calls_of : Typed → Calls
calls_of T = routine_calls T.routines

-- Rules, starts and formulas

-- the guard as it is written, or true
abbrev pub guard_of : Typed → Key → Option Guard → Valued
guard_of T key None = record { term = truth_term true; demands = [] }
guard_of T key (Some guard) = valued_of (calls_of T) (top_site key) (top_terms T key) guard.test

abbrev pub body_done : Typed → Key → Stmt → Done
body_done T key body = done_by (calls_of T) (top_site key) (top_terms T key) body

-- where nothing can fault, the one piece is `true`
abbrev pub or_true : List Piece → List Piece
or_true [] = record { binders = 0; body = truth_term true } ∷ []
or_true (p ∷ ps) = p ∷ ps

abbrev pub pieces_of : Key → Valued → Done → List Piece
pieces_of key guard body = or_true (map piece_of (guard.demands ++ under_test (holes key) guard.term body.demands))

-- the last terms of the families that a body writes, of which the first has this number
abbrev pub updates_from : ℕ → List CellsOf → Change → List Update
updates_from number [] change = []
updates_from number (c ∷ cs) change =
    if writes (slot_of c) change
    then record { family = number; body = change.now (slot_of c) } ∷ updates_from (suc number) cs change
    else updates_from (suc number) cs change

abbrev pub updates_of : Typed → Done → List Update
updates_of T body = updates_from 0 (families_of T) body.change

abbrev pub names_of : List Parameter → List (List ℕ)
names_of params = map (λ (p : Parameter). p.name) params

abbrev pub instance_of : Typed → List ℕ → List Parameter → ℕ → Key → Valued → Done → TermRule
instance_of T title params prefix key guard body =
    record {
      title = title;
      values = marked_values 1 key;
      params = names_of params;
      prefix = prefix;
      guard = guard.term;
      ok = pieces_of key guard body;
      updates = updates_of T body;
    }

abbrev pub rule_at : Typed → Rule → Key → TermRule
rule_at T r key =
    instance_of T r.title r.params r.prefix key (guard_of T key r.guard) (body_done T key r.body)

abbrev pub start_at : Typed → Start → Key → TermRule
start_at T a key = instance_of T a.title a.params a.prefix key (guard_of T key None) (body_done T key a.body)

abbrev pub rules_of : Typed → Rule → List TermRule
rules_of T r = map (rule_at T r) (instances r.params)

abbrev pub starts_of : Typed → Start → List TermRule
starts_of T a = map (start_at T a) (instances a.params)

-- the machine of a typed protocol
abbrev pub trans : Typed → TermMachine
trans T =
    record {
      kinds = map named_kind T.kinds;
      families = map (cell_family T) (families_of T);
      starts = flat_map (starts_of T) T.starts;
      rules = flat_map (rules_of T) T.rules;
    }

abbrev pub more_binders : ℕ → Piece → Piece
more_binders count p = record p { binders = count + p.binders }

-- the pieces of a formula for one choice of the parameters that are no nodes: its own term first. The node
-- parameters are among the binders.
abbrev pub pieces_with : ℕ → Valued → List Piece
pieces_with count e = map (more_binders count) (record { binders = 0; body = e.term } ∷ map piece_of e.demands)

abbrev pub pieces_at : Typed → TypedFormula → Key → List Piece
pieces_at T f key = pieces_with (holes key) (valued_of (calls_of T) (top_site key) (top_terms T key) f.body)

abbrev pub formula_pieces : Typed → TypedFormula → List Piece
formula_pieces T f = flat_map (pieces_at T f) (instances f.params)
