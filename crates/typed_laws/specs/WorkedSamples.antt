-- Worked cases of two sample protocols as typed trees, each evaluated: a lock (mutex.m) and German's cache protocol
-- (german.m), in part. Both have two nodes.
use Rattle.std.specs.Prelude.{◌≡◌, codes, ℕ, Bool, true, false, List, [], ◌∷◌, length, None, Some}
use Rattle.term_core.specs.declared.value.Value.{Value}
use Rattle.term_core.specs.declared.value.Value.TheVariants as value
use Rattle.murphi_ast.specs.declared.expr.ChainOp.TheVariants as op
use Rattle.murphi_ast.specs.declared.expr.CompareOp.TheVariants as compare
use Rattle.murphi_typed.specs.declared.types.Simple.{Simple}
use Rattle.murphi_typed.specs.declared.types.Simple.TheVariants as simple
use Rattle.murphi_typed.specs.declared.types.AnyType as t
use Rattle.murphi_typed.specs.declared.types.Kind.TheVariants as kind
use Rattle.murphi_typed.specs.declared.expr.Root.TheVariants as root
use Rattle.murphi_typed.specs.declared.expr.Expr as x
use Rattle.murphi_typed.specs.declared.expr.Expr.{Expr}
use Rattle.murphi_typed.specs.declared.expr.Designator as d
use Rattle.murphi_typed.specs.declared.expr.Designator.{Designator, end_of-Selector, more_of-Selector}
use Rattle.murphi_typed.specs.declared.expr.Selector as select
use Rattle.murphi_typed.specs.declared.stmt.Stmt as s
use Rattle.murphi_typed.specs.declared.stmt.Stmt.{Stmt, end_of-Stmt, more_of-Stmt}
use Rattle.murphi_typed.specs.declared.protocol.Rule.{Rule}
use Rattle.murphi_typed.specs.declared.protocol.Start.{Start}
use Rattle.murphi_typed.specs.declared.protocol.Typed.{Typed}
use Rattle.murphi_typed.specs.Forms.{NotForm, CompareForm, ImpliesForm, QuantifiedForm}
use Rattle.murphi_typed.specs.Families.{cells}
use Rattle.murphi_typed.specs.Outcome.{Got, Fault}
use Rattle.murphi_typed.specs.Steps.{State, started, fired, outermost, cells_of, calls_in, is_true}
use Rattle.murphi_typed.specs.Expressions.{value_of}
use Rattle.murphi_typed.specs.WellTyped.{is_well_typed}
use Rattle.murphi_typed.specs.Prefix.{formula_prefix, rule_prefix}
use Rattle.murphi_typed.specs.Worked.{here, there, the, global, item, chain, node, yes_, no_, assign, one, two}
use Rattle.murphi_typed.specs.WorkedSteps.{variable, boolean, per_node, protocol, start, rule, guard, node_parameter, german_kinds, german_globals}

-- The lock: `n : array [NODE] of enum { I, T, C, E }; x : boolean`

abbrev pub loc : ℕ → Value
loc k = value.Member 0 k

abbrev pub loc_type : Simple
loc_type = simple.Listed 0 4

-- `n[i]`, for a parameter
abbrev pub at_node : ℕ → Designator
at_node i = item 0 simple.Node (x.Bound i)

abbrev pub stands_at : ℕ → ℕ → Expr
stands_at i k = CompareForm compare.Equal (x.Read (at_node i)) (x.Known (loc k))

abbrev pub goes_to : ℕ → Stmt
goes_to k = s.Assign (at_node 0) loc_type (x.Known (loc k))

abbrev pub x_is : Value → Stmt
x_is v = assign 1 simple.Truth (x.Known v)

abbrev pub mutex_start : Start
mutex_start =
    start [] (two (s.For' simple.Node (tt ∷ []) (more_of-Stmt (goes_to 0) end_of-Stmt) here) (x_is yes_))

abbrev pub try : Rule
try = rule (node_parameter (codes "i") ∷ []) (guard (stands_at 0 0)) (one (goes_to 1))

abbrev pub crit : Rule
crit =
    rule (node_parameter (codes "i") ∷ [])
    (guard (chain (stands_at 0 1) op.And (CompareForm compare.Equal (the 1) (x.Known yes_))))
    (two (goes_to 2) (x_is no_))

abbrev pub exit : Rule
exit = rule (node_parameter (codes "i") ∷ []) (guard (stands_at 0 2)) (one (goes_to 3))

abbrev pub idle : Rule
idle = rule (node_parameter (codes "i") ∷ []) (guard (stands_at 0 3)) (two (goes_to 0) (x_is yes_))

-- `i != j -> !(n[i] = C & n[j] = C)`
abbrev pub exclusion : Expr
exclusion =
    ImpliesForm (CompareForm compare.NotEqual (x.Bound 0) (x.Bound 1))
    (NotForm (chain (stands_at 0 2) op.And (stands_at 1 2)))

abbrev pub mutex : Typed
mutex =
    protocol (kind.Listed (codes "I" ∷ codes "T" ∷ codes "C" ∷ codes "E" ∷ []) ∷ [])
    (variable (codes "n") (per_node (t.Simple loc_type)) ∷ variable (codes "x") boolean ∷ []) (mutex_start ∷ [])
    (try ∷ crit ∷ exit ∷ idle ∷ [])

abbrev pub locked : ℕ → ℕ → Value → State
locked a b v = loc a ∷ loc b ∷ v ∷ []

-- the value of mutual exclusion at two nodes
abbrev pub excluded : ℕ → ℕ → State → Bool
excluded i j state =
    is_true (value_of (calls_in mutex) (outermost 2 (node i ∷ node j ∷ [])) here (cells_of 2 mutex state) exclusion)

abbrev pub MutexIsAsWorked : Type 0
MutexIsAsWorked =
    (length (cells 2 mutex) ≡ 3)
    × (is_well_typed mutex ≡ true)
    × (started 2 mutex mutex_start [] ≡ Got (locked 0 0 yes_))
    -- both try, the first enters, and the second may not
    × (fired 2 mutex try (node 1 ∷ []) (locked 0 0 yes_) ≡ Got (Some (locked 1 0 yes_)))
    × (fired 2 mutex try (node 2 ∷ []) (locked 1 0 yes_) ≡ Got (Some (locked 1 1 yes_)))
    × (fired 2 mutex crit (node 1 ∷ []) (locked 1 1 yes_) ≡ Got (Some (locked 2 1 no_)))
    × (fired 2 mutex crit (node 2 ∷ []) (locked 2 1 no_) ≡ Got None)
    -- the first leaves
    × (fired 2 mutex exit (node 1 ∷ []) (locked 2 1 no_) ≡ Got (Some (locked 3 1 no_)))
    × (fired 2 mutex idle (node 1 ∷ []) (locked 3 1 no_) ≡ Got (Some (locked 0 1 yes_)))
    -- a node that excludes itself, two that do not exclude each other, and a node without a place: the comparison
    -- of an undefined cell faults, so the invariant does not hold
    × (excluded 1 1 (locked 2 1 no_) ≡ true)
    × (excluded 1 2 (locked 2 1 no_) ≡ true)
    × (excluded 1 2 (locked 2 2 no_) ≡ false)
    × (excluded 1 2 (value.Undefined ∷ loc 1 ∷ no_ ∷ []) ≡ false)
    -- two parameters; one parameter; a `for` over nodes
    × (formula_prefix [] (node_parameter (codes "i") ∷ node_parameter (codes "j") ∷ []) exclusion ≡ 2)
    × (rule_prefix [] crit.params crit.guard crit.body ≡ 1)
    × (rule_prefix [] [] None mutex_start.body ≡ 1)

-- German's protocol: its globals are those of the cases of cells

abbrev pub cache_state : ℕ → Value
cache_state k = value.Member 1 k

abbrev pub command : ℕ → Value
command k = value.Member 2 k

abbrev pub command_type : Simple
command_type = simple.Listed 2 7

-- a field of the record that an array has at a parameter
abbrev pub field_at : ℕ → List ℕ → ℕ → Designator
field_at k name i =
    d.Of' (root.Global k) (tt ∷ tt ∷ [])
    (more_of-Selector (select.Index simple.Node (x.Bound i)) (more_of-Selector (select.Field name) end_of-Selector))
    here

abbrev pub cmd_at : ℕ → ℕ → Designator
cmd_at k i = field_at k (codes "Cmd") i

abbrev pub is_at : Designator → Value → Expr
is_at place v = CompareForm compare.Equal (x.Read place) (x.Known v)

-- `Cache[i].State = I & Chan1[i].Cmd = Empty ==> Chan1[i].Cmd := ReqS`
abbrev pub send_req : Rule
send_req =
    rule (node_parameter (codes "i") ∷ [])
    (guard (chain (is_at (field_at 0 (codes "State") 0) (cache_state 0)) op.And (is_at (cmd_at 1 0) (command 0))))
    (one (s.Assign (cmd_at 1 0) command_type (x.Known (command 1))))

-- `CurCmd = Empty & Chan1[i].Cmd = ReqS ==> CurCmd := ReqS; for j : NODE do InvSet[j] := ShrSet[j]; end`
abbrev pub recv_req : Rule
recv_req =
    rule (node_parameter (codes "i") ∷ [])
    (guard (chain (is_at (global 7) (command 0)) op.And (is_at (cmd_at 1 0) (command 1))))
    (two (assign 7 command_type (x.Known (command 1)))
    (s.For' simple.Node (tt ∷ [])
    (more_of-Stmt (s.Copy (item 4 simple.Node (x.Bound 1)) simple.Truth (item 5 simple.Node (x.Bound 1)))
    end_of-Stmt) here))

-- `CurCmd = ReqE & forall j : NODE do ShrSet[j] = false end ==> ExGntd := true`
abbrev pub grant : Rule
grant =
    rule (node_parameter (codes "i") ∷ [])
    (guard (chain (is_at (global 7) (command 2)) op.And
    (QuantifiedForm true simple.Node (is_at (item 5 simple.Node (x.Bound 1)) no_))))
    (one (assign 6 simple.Truth (x.Known yes_)))

abbrev pub german_rules : Typed
german_rules = protocol german_kinds german_globals [] (send_req ∷ recv_req ∷ grant ∷ [])

abbrev pub undefined : Value
undefined = value.Undefined

-- both caches invalid; the commands of the first channel; the nodes to invalidate and those that share; whether
-- exclusive access is granted; the current command. All else is undefined, and the other channels are empty.
abbrev pub german_state : Value → Value → Value → Value → Value → Value → Value → Value → State
german_state first second invalid one_more sharing other granted current =
    cache_state 0 ∷ cache_state 0 ∷ undefined ∷ undefined ∷ first ∷ second ∷ undefined ∷ undefined ∷ command 0
    ∷ command 0 ∷ undefined ∷ undefined ∷ command 0 ∷ command 0 ∷ undefined ∷ undefined ∷ invalid ∷ one_more
    ∷ sharing ∷ other ∷ granted ∷ current ∷ undefined ∷ undefined ∷ undefined ∷ []

abbrev pub GermanIsAsWorked : Type 0
GermanIsAsWorked =
    (is_well_typed german_rules ≡ true)
    -- the second node asks to share
    × (fired 2 german_rules send_req (node 2 ∷ []) (german_state (command 0) (command 0) no_ no_ no_ no_ no_ (command 0))
    ≡ Got (Some (german_state (command 0) (command 1) no_ no_ no_ no_ no_ (command 0))))
    -- it is heard: the set of those that share is copied for all nodes
    × (fired 2 german_rules recv_req (node 2 ∷ [])
    (german_state (command 0) (command 1) no_ no_ yes_ no_ no_ (command 0)) ≡ Got
    (Some (german_state (command 0) (command 1) yes_ no_ yes_ no_ no_ (command 1))))
    -- of the first node nothing is heard
    × (fired 2 german_rules recv_req (node 1 ∷ [])
    (german_state (command 0) (command 1) no_ no_ yes_ no_ no_ (command 0)) ≡ Got None)
    -- nothing is granted while a node shares; an undefined cell of the second node faults, since all are asked
    × (fired 2 german_rules grant (node 1 ∷ []) (german_state (command 0) (command 0) no_ no_ yes_ no_ no_ (command 2))
    ≡ Got None)
    × (fired 2 german_rules grant (node 1 ∷ []) (german_state (command 0) (command 0) no_ no_ no_ no_ no_ (command 2))
    ≡ Got (Some (german_state (command 0) (command 0) no_ no_ no_ no_ yes_ (command 2))))
    × (fired 2 german_rules grant (node 1 ∷ [])
    (german_state (command 0) (command 0) no_ no_ yes_ undefined no_ (command 2)) ≡ Fault there)
    -- one parameter, and a quantifier or a `for` over nodes
    × (rule_prefix [] send_req.params send_req.guard send_req.body ≡ 1)
    × (rule_prefix [] recv_req.params recv_req.guard recv_req.body ≡ 2)
    × (rule_prefix [] grant.params grant.guard grant.body ≡ 2)
