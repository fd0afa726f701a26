-- Worked cases of cells, steps and prefix lengths, each evaluated: protocols of the samples as typed trees.
use Rattle.std.specs.Prelude.{◌≡◌, codes, ℕ, Bool, true, false, List, [], ◌∷◌, map, length, take, pos, Option, None, Some}
use Rattle.term_core.specs.declared.value.Value.{Value}
use Rattle.term_core.specs.declared.value.Value.TheVariants as value
use Rattle.murphi_ast.specs.declared.expr.ChainOp.TheVariants as op
use Rattle.murphi_ast.specs.declared.expr.CompareOp.TheVariants as compare
use Rattle.murphi_typed.specs.declared.types.Simple.{Simple}
use Rattle.murphi_typed.specs.declared.types.Simple.TheVariants as simple
use Rattle.murphi_typed.specs.declared.types.AnyType as t
use Rattle.murphi_typed.specs.declared.types.AnyType.{AnyType, end_of-Field, more_of-Field}
use Rattle.murphi_typed.specs.declared.types.Kind.{Kind}
use Rattle.murphi_typed.specs.declared.types.Kind.TheVariants as kind
use Rattle.murphi_typed.specs.declared.expr.Expr as x
use Rattle.murphi_typed.specs.declared.expr.Expr.{Expr}
use Rattle.murphi_typed.specs.declared.expr.Argument as argument
use Rattle.murphi_typed.specs.declared.stmt.Stmt as s
use Rattle.murphi_typed.specs.declared.stmt.Stmt.{Stmt, end_of-Stmt, more_of-Stmt}
use Rattle.murphi_typed.specs.declared.protocol.Parameter.{Parameter}
use Rattle.murphi_typed.specs.declared.protocol.Variable.{Variable}
use Rattle.murphi_typed.specs.declared.protocol.Guard.{Guard}
use Rattle.murphi_typed.specs.declared.protocol.Rule.{Rule}
use Rattle.murphi_typed.specs.declared.protocol.Start.{Start}
use Rattle.murphi_typed.specs.declared.protocol.Typed.{Typed}
use Rattle.murphi_typed.specs.Forms.{ArrayForm, NotForm, CompareForm, ImpliesForm, ChoiceForm, QuantifiedForm}
use Rattle.murphi_typed.specs.Families.{Path, Cell, cells, path_of}
use Rattle.murphi_typed.specs.Names.{value_text, enum_text}
use Rattle.murphi_typed.specs.Outcome.{Got, Fault}
use Rattle.murphi_typed.specs.Steps.{State, started, fired}
use Rattle.murphi_typed.specs.WellTyped.{is_well_typed, rule_fits}
use Rattle.murphi_typed.specs.Prefix.{up, down, formula_prefix, rule_prefix}
use Rattle.murphi_typed.specs.Worked.{here, there, the, number, global, item, chain, node, yes_, no_, assign, copy, one, two}
use Rattle.murphi_typed.specs.WorkedBodies.{to_item, routine, with_one, by_value, formal}

abbrev pub variable : List ℕ → AnyType → Variable
variable name type = record { name = name; of = type }

abbrev pub boolean : AnyType
boolean = t.Simple simple.Truth

abbrev pub per_node : AnyType → AnyType
per_node type = ArrayForm simple.Node type

abbrev pub protocol : List Kind → List Variable → List Start → List Rule → Typed
protocol kinds globals starts rules =
    record {
      names = [];
      kinds = kinds;
      node = None;
      globals = globals;
      routines = [];
      weights = [];
      starts = starts;
      rules =
          rules;
      invariants = [];
    }

abbrev pub start : List Parameter → Stmt → Start
start params body = record { title = codes "Init"; params = params; locals = []; body = body; prefix = 0 }

abbrev pub rule : List Parameter → Option Guard → Stmt → Rule
rule params guard body =
    record { title = codes "R"; params = params; guard = guard; locals = []; body = body; prefix = 0 }

abbrev pub guard : Expr → Option Guard
guard test = Some (record { test = test; at = there })

abbrev pub node_parameter : List ℕ → Parameter
node_parameter name = record { name = name; over = simple.Node }

-- the protocol undef.m
abbrev pub undef_copy : Rule
undef_copy = rule [] (guard (the 2)) (one (copy 1 simple.Truth 0))

abbrev pub undef_read : Rule
undef_read = rule [] (guard (the 2)) (one (assign 1 simple.Truth (NotForm (the 0))))

abbrev pub undef_start : Start
undef_start = start [] (one (assign 2 simple.Truth (x.Known yes_)))

abbrev pub undef : Typed
undef =
    protocol [] (variable (codes "a") boolean ∷ variable (codes "b") boolean ∷ variable (codes "c") boolean ∷ [])
    (undef_start ∷ []) (undef_copy ∷ undef_read ∷ [])

-- the protocol alias.m
abbrev pub alias_start : Start
alias_start =
    start []
    (one
    (s.For' simple.Node (tt ∷ tt ∷ []) (more_of-Stmt (to_item 0 simple.Node (x.Bound 0) simple.Node (x.Bound 0))
    (more_of-Stmt (to_item 1 simple.Node (x.Bound 0) simple.Truth (x.Known no_)) end_of-Stmt)) here))

abbrev pub alias_link : Rule
alias_link =
    rule (node_parameter (codes "p") ∷ node_parameter (codes "q") ∷ [])
    (guard (CompareForm compare.Equal (x.Read (item 1 simple.Node (x.Bound 0))) (x.Known no_)))
    (two (to_item 0 simple.Node (x.Bound 0) simple.Node (x.Bound 1))
    (to_item 1 simple.Node (x.Read (item 0 simple.Node (x.Bound 0))) simple.Truth (x.Known yes_)))

abbrev pub alias : Typed
alias =
    protocol [] (variable (codes "A") (per_node (t.Simple simple.Node)) ∷ variable (codes "B") (per_node boolean)
    ∷ []) (alias_start ∷ []) (alias_link ∷ [])

abbrev pub bits : Bool → Bool → Bool → List Value
bits a b c = value.Truth a ∷ value.Truth b ∷ value.Truth c ∷ []

abbrev pub pointers : ℕ → ℕ → ℕ → List Value → State
pointers a b c rest = node a ∷ node b ∷ node c ∷ rest

abbrev pub StepsAreAsWorked : Type 0
StepsAreAsWorked =
    -- undef.m: the start leaves a and b undefined; "Copy" keeps b undefined; "Read" faults at its assignment
    (started 1 undef undef_start [] ≡ Got (value.Undefined ∷ value.Undefined ∷ yes_ ∷ []))
    × (fired 1 undef undef_copy [] (value.Undefined ∷ value.Undefined ∷ yes_ ∷ []) ≡ Got
    (Some (value.Undefined ∷ value.Undefined ∷ yes_ ∷ [])))
    × (fired 1 undef undef_read [] (value.Undefined ∷ value.Undefined ∷ yes_ ∷ []) ≡ Fault here)
    -- a false guard; a guard that reads an undefined cell faults at its first token
    × (fired 1 undef undef_read [] (value.Undefined ∷ value.Undefined ∷ no_ ∷ []) ≡ Got None)
    × (fired 1 undef undef_read [] (value.Undefined ∷ value.Undefined ∷ value.Undefined ∷ []) ≡ Fault there)
    -- a rule without a guard
    × (fired 1 undef (rule [] None (one (assign 0 simple.Truth (x.Known no_)))) []
    (value.Undefined ∷ value.Undefined ∷ value.Undefined ∷ []) ≡ Got
    (Some (no_ ∷ value.Undefined ∷ value.Undefined ∷ [])))
    -- alias.m with three nodes: "Init", "Link" 1 2, and then "Link" 2 1 is not enabled
    × (started 3 alias alias_start [] ≡ Got (pointers 1 2 3 (bits false false false)))
    × (fired 3 alias alias_link (node 1 ∷ node 2 ∷ []) (pointers 1 2 3 (bits false false false)) ≡ Got
    (Some (pointers 2 2 3 (bits false true false))))
    × (fired 3 alias alias_link (node 2 ∷ node 1 ∷ []) (pointers 2 2 3 (bits false true false)) ≡ Got None)

-- the globals of german.m
abbrev pub german_kinds : List Kind
german_kinds =
    kind.Scalarset (Some (codes "DATA")) 2 ∷ kind.Listed (codes "I" ∷ codes "S" ∷ codes "E" ∷ []) ∷ kind.Listed
    (codes "Empty" ∷ codes "ReqS" ∷ codes "ReqE" ∷ codes "Inv" ∷ codes "InvAck" ∷ codes "GntS" ∷ codes "GntE" ∷ [])
    ∷ []

abbrev pub data_type : Simple
data_type = simple.Scalarset 0 2

abbrev pub cache_type : AnyType
cache_type =
    t.Record' (tt ∷ tt ∷ [])
    (more_of-Field (codes "State") (t.Simple (simple.Listed 1 3))
    (more_of-Field (codes "Data") (t.Simple data_type) end_of-Field))

abbrev pub message_type : AnyType
message_type =
    t.Record' (tt ∷ tt ∷ [])
    (more_of-Field (codes "Cmd") (t.Simple (simple.Listed 2 7))
    (more_of-Field (codes "Data") (t.Simple data_type) end_of-Field))

abbrev pub german_globals : List Variable
german_globals =
    variable (codes "Cache") (per_node cache_type) ∷ variable (codes "Chan1") (per_node message_type) ∷ variable
    (codes "Chan2") (per_node message_type) ∷ variable (codes "Chan3") (per_node message_type) ∷ variable
    (codes "InvSet") (per_node boolean) ∷ variable (codes "ShrSet") (per_node boolean) ∷ variable (codes "ExGntd")
    boolean ∷ variable (codes "CurCmd") (t.Simple (simple.Listed 2 7)) ∷ variable (codes "CurPtr")
    (t.Simple simple.Node) ∷ variable (codes "MemData") (t.Simple data_type) ∷ variable (codes "AuxData")
    (t.Simple data_type) ∷ []

abbrev pub german : Typed
german = protocol german_kinds german_globals [] []

-- `a : array [0..1] of record f, g : boolean end`
abbrev pub two_fields : Typed
two_fields =
    protocol []
    (variable (codes "a")
    (ArrayForm (simple.Range (pos 0) (pos 1))
    (t.Record' (tt ∷ tt ∷ []) (more_of-Field (codes "f") boolean (more_of-Field (codes "g") boolean end_of-Field))))
    ∷ []) [] []

-- a cell by its global, its field names and its indices
pub record Key : Type 0 where
  pub global : ℕ
  pub path : Path
  pub at : List Value

abbrev pub keys_of : ℕ → Typed → List Key
keys_of N T = map (λ (c : Cell). record { global = c.global; path = path_of c.way.steps; at = c.at }) (cells N T)

abbrev pub key : ℕ → List ℕ → ℕ → Key
key global field n = record { global = global; path = field ∷ []; at = node n ∷ [] }

abbrev pub item_key : List ℕ → ℕ → Key
item_key field index = record { global = 0; path = field ∷ []; at = value.Number (pos index) ∷ [] }

abbrev pub CellsAreAsWorked : Type 0
CellsAreAsWorked =
    -- german.m: 25 cells with two nodes, 35 with three
    (length (cells 2 german) ≡ 25)
    × (length (cells 3 german) ≡ 35)
    -- the first five are Cache[1].State, Cache[2].State, Cache[1].Data, Cache[2].Data and Chan1[1].Cmd
    × (take 5 (keys_of 2 german) ≡ key 0 (codes "State") 1 ∷ key 0 (codes "State") 2 ∷ key 0 (codes "Data") 1 ∷ key 0
    (codes "Data") 2 ∷ key 1 (codes "Cmd") 1 ∷ [])
    -- fields before indices
    × (keys_of 1 two_fields ≡ item_key (codes "f") 0 ∷ item_key (codes "f") 1 ∷ item_key (codes "g") 0 ∷ item_key
    (codes "g") 1 ∷ [])
    -- an enum name
    × (value_text german_kinds (value.Member 2 3) ≡ codes "Inv")
    -- enum names that could be read as another value
    × (enum_text (codes "K1") ≡ codes "'K1")
    × (enum_text (codes "F12") ≡ codes "'F12")
    × (enum_text (codes "Other") ≡ codes "'Other")
    × (enum_text (codes "undefined") ≡ codes "'undefined")
    × (enum_text (codes "A_1") ≡ codes "'A_1")
    × (enum_text (codes "K") ≡ codes "K")
    × (enum_text (codes "K1a") ≡ codes "K1a")
    × (enum_text (codes "A_") ≡ codes "A_")

-- a quantifier over nodes whose body compares two bound variables
abbrev pub every : Expr → Expr
every body = QuantifiedForm true simple.Node body

abbrev pub some : Expr → Expr
some body = QuantifiedForm false simple.Node body

abbrev pub plain : Expr
plain = the 0

abbrev pub nested : Expr
nested = every (some plain)

-- `function F(s : boolean) : boolean; return forall i : NODE do s end; end;`
abbrev pub spreading : Stmt
spreading = one (s.Return (every (x.Read (formal 0))) there)

abbrev pub called_with : Expr → Expr
called_with body = x.Call 0 (with_one (argument.Value body)) here

abbrev pub PrefixesAreAsWorked : Type 0
PrefixesAreAsWorked =
    -- `a & b`: the parts share what is moved; `a | b`: they do not
    (up (chain (every plain) op.And (every plain)) ≡ 1)
    × (up (chain (every plain) op.Or (every plain)) ≡ 2)
    × (down (chain (some plain) op.And (some plain)) ≡ 2)
    × (down (chain (some plain) op.Or (some plain)) ≡ 1)
    -- `a -> b` and `!a`
    × (up (ImpliesForm (some plain) (every plain)) ≡ 2)
    × (up (ImpliesForm (every plain) (some plain)) ≡ 0)
    × (down (ImpliesForm (every plain) (some plain)) ≡ 1)
    × (up (NotForm (some plain)) ≡ 1)
    × (up (NotForm (every plain)) ≡ 0)
    -- `c ? a : b`
    × (up (ChoiceForm (some plain) (every plain) plain) ≡ 2)
    × (up (ChoiceForm (every plain) plain (every (every plain))) ≡ 3)
    -- `forall` over nodes, `exists`, and quantifiers over another type
    × (up (every (every plain)) ≡ 2)
    × (up (some (every plain)) ≡ 0)
    × (up (QuantifiedForm true simple.Truth (every plain)) ≡ 1)
    -- anything else
    × (up (CompareForm compare.Equal (every plain) (every plain)) ≡ 0)
    -- the whole length: node parameters, and the greater of the nesting and of what is moved
    × (formula_prefix [] (node_parameter (codes "i") ∷ node_parameter (codes "j") ∷ []) plain ≡ 2)
    × (formula_prefix [] [] (chain (every plain) op.Or (every plain)) ≡ 2)
    × (formula_prefix [] [] nested ≡ 2)
    -- a call is opened: the argument counts where it is written and wherever the formal is used
    × (formula_prefix (routine (by_value simple.Truth ∷ []) (Some simple.Truth) [] spreading ∷ []) []
    (called_with plain) ≡ 1)
    × (formula_prefix (routine (by_value simple.Truth ∷ []) (Some simple.Truth) [] spreading ∷ []) []
    (called_with (every plain)) ≡ 2)
    -- rules: alias.m's "Link" has 2, its start 1
    × (rule_prefix [] alias_link.params alias_link.guard alias_link.body ≡ 2)
    × (rule_prefix [] [] None alias_start.body ≡ 1)

-- a rule that assigns a number to a truth value
abbrev pub mistyped : Rule
mistyped = rule [] None (one (assign 0 simple.Truth (number (pos 1))))

abbrev pub TypesAreAsWorked : Type 0
TypesAreAsWorked =
    (is_well_typed undef ≡ true)
    × (is_well_typed alias ≡ true)
    × (is_well_typed german ≡ true)
    × (rule_fits undef mistyped ≡ false)
