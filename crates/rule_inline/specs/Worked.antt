-- Worked cases of the translation, each evaluated: protocols of the samples as typed trees, and their terms as
-- they were worked out by hand.
use Rattle.std.specs.Prelude.{◌≡◌, codes, ℕ, Bool, true, false, List, [], ◌∷◌, map, None}
use Rattle.term_core.specs.declared.value.Value.{Value}
use Rattle.term_core.specs.declared.value.Value.TheVariants as value
use Rattle.term_core.specs.declared.value.Sort.TheVariants as sort
use Rattle.term_core.specs.declared.term.Term as t
use Rattle.term_core.specs.declared.term.Term.{Term}
use Rattle.term_core.specs.declared.machine.Piece.{Piece}
use Rattle.term_core.specs.declared.machine.Update.{Update}
use Rattle.murphi_ast.specs.declared.expr.ChainOp.TheVariants as op
use Rattle.murphi_ast.specs.declared.expr.CompareOp.TheVariants as compare
use Rattle.murphi_typed.specs.declared.types.Simple.{Simple}
use Rattle.murphi_typed.specs.declared.types.Simple.TheVariants as simple
use Rattle.murphi_typed.specs.declared.types.AnyType as type
use Rattle.murphi_typed.specs.declared.types.AnyType.{AnyType}
use Rattle.murphi_typed.specs.declared.types.Kind.TheVariants as kind
use Rattle.murphi_typed.specs.declared.expr.Root.TheVariants as root
use Rattle.murphi_typed.specs.declared.expr.Expr as x
use Rattle.murphi_typed.specs.declared.expr.Expr.{Expr}
use Rattle.murphi_typed.specs.declared.expr.Designator as d
use Rattle.murphi_typed.specs.declared.expr.Designator.{Designator, end_of-Selector, more_of-Selector}
use Rattle.murphi_typed.specs.declared.expr.Selector as select
use Rattle.murphi_typed.specs.declared.expr.Arguments as a
use Rattle.murphi_typed.specs.declared.expr.Arguments.{end_of-Argument, more_of-Argument}
use Rattle.murphi_typed.specs.declared.expr.Argument as argument
use Rattle.murphi_typed.specs.declared.stmt.Stmt as s
use Rattle.murphi_typed.specs.declared.stmt.Stmt.{Stmt, end_of-Stmt, more_of-Stmt}
use Rattle.murphi_typed.specs.declared.protocol.Formal.{Formal}
use Rattle.murphi_typed.specs.declared.protocol.Routine.{Routine}
use Rattle.murphi_typed.specs.declared.protocol.Rule.{Rule}
use Rattle.murphi_typed.specs.declared.protocol.Start.{Start}
use Rattle.murphi_typed.specs.declared.protocol.TypedFormula.{TypedFormula}
use Rattle.murphi_typed.specs.declared.protocol.Typed.{Typed}
use Rattle.murphi_typed.specs.Forms.{NotForm, CompareForm, ImpliesForm}
use Rattle.murphi_typed.specs.Worked.{here, there, the, global, item, chain, assign, one, two}
use Rattle.murphi_typed.specs.WorkedBodies.{if_one, to_item, for_each, with_two, standing, formal}
use Rattle.murphi_typed.specs.WorkedSteps.{variable, boolean, per_node, protocol, start, rule, guard, node_parameter, undef, undef_copy, undef_read, undef_start, alias, alias_link, alias_start}
use Rattle.rule_inline.specs.Tables.{Key}
use Rattle.rule_inline.specs.Machine.{rule_at, start_at, formula_pieces, trans}

-- terms

abbrev pub yes_ : Term
yes_ = t.Known (value.Truth true)

abbrev pub no_ : Term
no_ = t.Known (value.Truth false)

abbrev pub undefined : Term
undefined = t.Known value.Undefined

abbrev pub cell : ℕ → Term
cell family = t.Read family []

abbrev pub cell_at : ℕ → Term → Term
cell_at family index = t.Read family (index ∷ [])

abbrev pub is_defined : Term → Term
is_defined e = t.Not (t.Same e undefined)

abbrev pub piece : ℕ → List Term → Term → Piece
piece binders path must = record { binders = binders; body = t.Or (t.Not (t.And path) ∷ must ∷ []) }

-- a node index is defined
abbrev pub index : ℕ → List Term → Term → Piece
index binders path e = piece binders path (t.And (is_defined e ∷ []))

abbrev pub update : ℕ → Term → Update
update family body = record { family = family; body = body }

-- an assignment that is to one cell alone, or to the cell of an axis
abbrev pub assigned : Term → Term → Term
assigned new old = t.If (t.And []) new old

abbrev pub assigned_at : ℕ → Term → Term → Term → Term
assigned_at axis index new old = t.If (t.And (t.Same (t.Var axis) index ∷ [])) new old

-- the only piece where nothing can fault
abbrev pub no_faults : List Piece
no_faults = record { binders = 0; body = yes_ } ∷ []

-- the instance of a rule without parameters
abbrev pub plain : Key
plain = []

-- undef.m: a plain copy demands nothing of what it copies, a negation does
abbrev pub CopiesAreAsWorked : Type 0
CopiesAreAsWorked =
    ((rule_at undef undef_copy plain).guard ≡ cell 2)
    × ((rule_at undef undef_copy plain).ok ≡ piece 0 [] (is_defined (cell 2)) ∷ [])
    × ((rule_at undef undef_copy plain).updates ≡ update 1 (assigned (cell 0) (cell 1)) ∷ [])
    × ((rule_at undef undef_read plain).ok ≡ piece 0 [] (is_defined (cell 2)) ∷ piece 0 (cell 2 ∷ [])
    (is_defined (cell 0)) ∷ [])
    × ((rule_at undef undef_read plain).updates ≡ update 1 (assigned (t.Not (cell 0)) (cell 1)) ∷ [])
    × ((start_at undef undef_start plain).ok ≡ no_faults)
    × ((start_at undef undef_start plain).updates ≡ update 2 (assigned yes_ (cell 2)) ∷ [])

-- two node parameters
abbrev pub two_nodes : Key
two_nodes = None ∷ None ∷ []

-- `B[p] = false`
abbrev pub link_guard : Term
link_guard = t.Same (cell_at 1 (t.Var 0)) no_

-- A[p] after `A[p] := q`
abbrev pub linked : Term
linked = t.If (t.And (t.Same (t.Var 0) (t.Var 0) ∷ [])) (t.Var 1) (cell_at 0 (t.Var 0))

-- alias.m: the index of the second write is read after the first
abbrev pub LinkIsAsWorked : Type 0
LinkIsAsWorked =
    ((rule_at alias alias_link two_nodes).guard ≡ link_guard)
    × ((rule_at alias alias_link two_nodes).ok ≡ index 0 [] (t.Var 0) ∷ piece 0 []
    (is_defined (cell_at 1 (t.Var 0))) ∷ index 0 (link_guard ∷ []) (t.Var 0) ∷ index 0 (link_guard ∷ []) (t.Var 0)
    ∷ piece 0 (link_guard ∷ []) (is_defined linked) ∷ index 0 (link_guard ∷ []) linked ∷ [])
    × ((rule_at alias alias_link two_nodes).updates ≡ update 0
    (assigned_at 2 (t.Var 0) (t.Var 1) (cell_at 0 (t.Var 2))) ∷ update 1
    (assigned_at 2 linked yes_ (cell_at 1 (t.Var 2))) ∷ [])
    × ((rule_at alias alias_link two_nodes).values ≡ value.Node 1 ∷ value.Node 2 ∷ [])
    -- a loop over all nodes: the cell's own index stands for the variable, which is bound in the pieces
    × ((start_at alias alias_start plain).updates ≡ update 0 (assigned (t.Var 0) (cell_at 0 (t.Var 0))) ∷ update 1
    (assigned no_ (cell_at 1 (t.Var 0))) ∷ [])
    × ((start_at alias alias_start plain).ok ≡ index 1 (yes_ ∷ []) (t.Var 0) ∷ index 1 (yes_ ∷ []) (t.Var 0) ∷ [])

-- mutex.m, its two states that matter here as members 0 and 2 of the enum: `n : array [NODE] of LOC; x : boolean`
abbrev pub location : Simple
location = simple.Listed 0 4

abbrev pub member : ℕ → Value
member k = value.Member 0 k

abbrev pub is_at : ℕ → ℕ → Expr
is_at bound k = CompareForm compare.Equal (x.Read (item 0 simple.Node (x.Bound bound))) (x.Known (member k))

-- `Crit`: `n[i] = T & x = true ==> n[i] := C; x := false`
abbrev pub crit : Rule
crit =
    rule (node_parameter (codes "i") ∷ [])
    (guard (chain (is_at 0 1) op.And (CompareForm compare.Equal (the 1) (x.Known (value.Truth true)))))
    (two (to_item 0 simple.Node (x.Bound 0) location (x.Known (member 2)))
    (assign 1 simple.Truth (x.Known (value.Truth false))))

-- `Init`: `for i : NODE do n[i] := I; end; x := true`
abbrev pub mutex_start : Start
mutex_start =
    start []
    (two (for_each simple.Node (to_item 0 simple.Node (x.Bound 0) location (x.Known (member 0))))
    (assign 1 simple.Truth (x.Known (value.Truth true))))

-- `Mutex`: `i != j -> !(n[i] = C & n[j] = C)`
abbrev pub mutual_exclusion : TypedFormula
mutual_exclusion =
    record {
      title = codes "Mutex";
      params = node_parameter (codes "i") ∷ node_parameter (codes "j") ∷ [];
      body = ImpliesForm (CompareForm compare.NotEqual (x.Bound 0) (x.Bound 1))
          (NotForm (chain (is_at 0 2) op.And (is_at 1 2)));
      prefix = 2;
      kinds = [];
      uses = [];
    }

abbrev pub mutex : Typed
mutex =
    protocol (kind.Listed (codes "I" ∷ codes "T" ∷ codes "C" ∷ codes "E" ∷ []) ∷ [])
    (variable (codes "n") (per_node (type.Simple location)) ∷ variable (codes "x") boolean ∷ []) (mutex_start ∷ [])
    (crit ∷ [])

abbrev pub one_node : Key
one_node = None ∷ []

abbrev pub at_member : ℕ → ℕ → Term
at_member variable k = t.Same (cell_at 0 (t.Var variable)) (t.Known (member k))

abbrev pub crit_guard : Term
crit_guard = t.And (at_member 0 1 ∷ t.Same (cell 1) yes_ ∷ [])

abbrev pub differ : Term
differ = t.Not (t.Same (t.Var 0) (t.Var 1))

abbrev pub MutexIsAsWorked : Type 0
MutexIsAsWorked =
    ((trans mutex).families ≡ record { name = codes "n[]"; sort = sort.Members 0 4; axes = 1; undefined = true }
    ∷ record { name = codes "x"; sort = sort.Truth; axes = 0; undefined = true } ∷ [])
    × (map (λ k. k.names) (trans mutex).kinds ≡ (codes "I" ∷ codes "T" ∷ codes "C" ∷ codes "E" ∷ []) ∷ [])
    × ((rule_at mutex crit one_node).guard ≡ crit_guard)
    -- the right part of `&` is reached where the left is true
    × ((rule_at mutex crit one_node).ok ≡ index 0 [] (t.Var 0) ∷ piece 0 [] (is_defined (cell_at 0 (t.Var 0)))
    ∷ piece 0 (at_member 0 1 ∷ []) (is_defined (cell 1)) ∷ index 0 (crit_guard ∷ []) (t.Var 0) ∷ [])
    × ((rule_at mutex crit one_node).updates ≡ update 0
    (assigned_at 1 (t.Var 0) (t.Known (member 2)) (cell_at 0 (t.Var 1))) ∷ update 1 (assigned no_ (cell 1)) ∷ [])
    × ((start_at mutex mutex_start plain).updates ≡ update 0 (assigned (t.Known (member 0)) (cell_at 0 (t.Var 0)))
    ∷ update 1 (assigned yes_ (cell 1)) ∷ [])
    -- an invariant: its own term, and what it reads, with its parameters among the binders
    × (formula_pieces mutex mutual_exclusion ≡ record {
      binders = 2;
      body = t.Or
          (t.Not differ ∷ t.Not (t.And (at_member 0 2 ∷ at_member 1 2 ∷ [])) ∷ []);
    } ∷ index 2 (differ ∷ []) (t.Var 0) ∷ piece 2 (differ ∷ []) (is_defined (cell_at 0 (t.Var 0)))
    ∷ index 2 (differ ∷ at_member 0 2 ∷ []) (t.Var 1)
    ∷ piece 2 (differ ∷ at_member 0 2 ∷ []) (is_defined (cell_at 0 (t.Var 1))) ∷ [])

-- procedures over `A, B : array [NODE] of boolean`

abbrev pub arrays : List Routine → List Start → List Rule → Typed
arrays routines starts rules =
    record (protocol [] (variable (codes "A") (per_node boolean) ∷ variable (codes "B") (per_node boolean) ∷ []) starts
    rules) {
      routines = routines;
      weights = [];
    }

abbrev pub a_formal : List ℕ → Bool → AnyType → Formal
a_formal name by_place of = record { name = name; by_place = by_place; of = of }

abbrev pub a_routine : List Formal → Stmt → Routine
a_routine formals body = record { name = codes "P"; formals = formals; result = None; locals = []; body = body }

-- an item of a `var` formal
abbrev pub standing_item : ℕ → Expr → Designator
standing_item k e =
    d.Of' (root.Place k) (tt ∷ []) (more_of-Selector (select.Index simple.Node e) end_of-Selector) there

abbrev pub of_formal : ℕ → Expr
of_formal k = x.Read (formal k)

-- `procedure P(var a, b : ARR; k : NODE); for i : NODE do a[i] := !b[k]; end; end;`
abbrev pub spreading : Routine
spreading =
    a_routine
    (a_formal (codes "a") true (per_node boolean) ∷ a_formal (codes "b") true (per_node boolean)
    ∷ a_formal (codes "k") false (type.Simple simple.Node) ∷ [])
    (one
    (for_each simple.Node (s.Assign (standing_item 0 (x.Bound 0)) simple.Truth
    (NotForm (x.Read (standing_item 1 (of_formal 2)))))))

-- `ruleset p : NODE do rule P(A, B, p); end; end`
abbrev pub spread : Rule
spread =
    rule (node_parameter (codes "p") ∷ []) None
    (one
    (s.Call 0 (a.Of' (tt ∷ tt ∷ tt ∷ [])
    (more_of-Argument (argument.Place (global 0)) (more_of-Argument (argument.Place (global 1))
    (more_of-Argument (argument.Value (x.Bound 0)) end_of-Argument)))) here))

-- `procedure P(var a : boolean; k : boolean); if k then return; end; a := false; end;`
abbrev pub leaving : Routine
leaving =
    a_routine (a_formal (codes "a") true boolean ∷ a_formal (codes "k") false boolean ∷ [])
    (two (if_one (of_formal 1) (s.Leave there)) (s.Assign (standing 0) simple.Truth (x.Known (value.Truth false))))

-- `rule for i : NODE do P(A[i], B[i]); end; end`
abbrev pub leave_some : Rule
leave_some =
    rule [] None
    (one
    (for_each simple.Node (s.Call 0
    (with_two (argument.Place (item 0 simple.Node (x.Bound 0))) (argument.Copy (item 1 simple.Node (x.Bound 0))))
    here)))

-- whether the call left, in the turn of a node
abbrev pub left_at : Term → Term
left_at k = t.If (cell_at 1 k) yes_ no_

abbrev pub CallsAreAsWorked : Type 0
CallsAreAsWorked =
    ((rule_at (arrays (spreading ∷ []) [] (spread ∷ [])) spread one_node).updates ≡ update 0
    (assigned (t.Not (cell_at 1 (t.Var 0))) (cell_at 0 (t.Var 1))) ∷ [])
    × ((rule_at (arrays (spreading ∷ []) [] (spread ∷ [])) spread one_node).ok ≡ index 1 (yes_ ∷ []) (t.Var 1)
    ∷ piece 1 (yes_ ∷ []) (is_defined (t.Var 0)) ∷ index 1 (yes_ ∷ []) (t.Var 0) ∷ piece 1 (yes_ ∷ [])
    (is_defined (cell_at 1 (t.Var 0))) ∷ [])
    -- after a `return` nothing is written and nothing can fault
    × ((rule_at (arrays (leaving ∷ []) [] (leave_some ∷ [])) leave_some plain).updates ≡ update 0
    (t.If (left_at (t.Var 0)) (cell_at 0 (t.Var 0)) (assigned no_ (cell_at 0 (t.Var 0)))) ∷ [])
    × ((rule_at (arrays (leaving ∷ []) [] (leave_some ∷ [])) leave_some plain).ok ≡ index 1 (yes_ ∷ []) (t.Var 0)
    ∷ index 1 (yes_ ∷ []) (t.Var 0) ∷ piece 1 (yes_ ∷ []) (is_defined (cell_at 1 (t.Var 0))) ∷ [])
