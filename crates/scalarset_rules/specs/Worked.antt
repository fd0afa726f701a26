-- Worked cases of the symmetry rules, each evaluated. Where a case has no text of its own, the globals are
-- `A, B : array [NODE] of boolean; M : array [NODE] of array [NODE] of boolean; n : NODE; c : boolean`, numbered
-- from 0, and each designator, `for`, `return` and called name stands in a line of its own.
use Rattle.std.specs.Prelude.{◌≡◌, codes, ℕ, true, false, List, [], ◌∷◌, pos, Option, None, Some}
use Rattle.term_core.specs.declared.value.Value.TheVariants as value
use Rattle.murphi_ast.specs.declared.token.Span.{Span}
use Rattle.murphi_ast.specs.declared.expr.ChainOp.TheVariants as op
use Rattle.murphi_typed.specs.declared.types.Simple.{Simple}
use Rattle.murphi_typed.specs.declared.types.Simple.TheVariants as simple
use Rattle.murphi_typed.specs.declared.types.AnyType as t
use Rattle.murphi_typed.specs.declared.types.AnyType.{AnyType, end_of-Field, more_of-Field}
use Rattle.murphi_typed.specs.declared.expr.Root.{Root}
use Rattle.murphi_typed.specs.declared.expr.Root.TheVariants as root
use Rattle.murphi_typed.specs.declared.expr.Expr as x
use Rattle.murphi_typed.specs.declared.expr.Expr.{Expr}
use Rattle.murphi_typed.specs.declared.expr.Designator as d
use Rattle.murphi_typed.specs.declared.expr.Designator.{Designator, end_of-Selector, more_of-Selector}
use Rattle.murphi_typed.specs.declared.expr.Selector as select
use Rattle.murphi_typed.specs.declared.expr.Arguments as a
use Rattle.murphi_typed.specs.declared.expr.Arguments.{Arguments, end_of-Argument, more_of-Argument}
use Rattle.murphi_typed.specs.declared.expr.Argument as argument
use Rattle.murphi_typed.specs.declared.expr.Argument.{Argument}
use Rattle.murphi_typed.specs.declared.stmt.Stmt as s
use Rattle.murphi_typed.specs.declared.stmt.Stmt.{Stmt, end_of-Stmt, more_of-Stmt}
use Rattle.murphi_typed.specs.declared.protocol.Formal.{Formal as DeclaredFormal}
use Rattle.murphi_typed.specs.declared.protocol.Variable.{Variable}
use Rattle.murphi_typed.specs.declared.protocol.Routine.{Routine}
use Rattle.murphi_typed.specs.declared.protocol.TypedFormula.{TypedFormula}
use Rattle.murphi_typed.specs.declared.protocol.WrittenSize.{WrittenSize}
use Rattle.murphi_typed.specs.declared.protocol.WrittenSize.TheVariants as size
use Rattle.murphi_typed.specs.declared.protocol.NodeType.{NodeType}
use Rattle.murphi_typed.specs.declared.protocol.Typed.{Typed}
use Rattle.murphi_typed.specs.Forms.{NotForm, QuantifiedForm}
use Rattle.murphi_typed.specs.WorkedSteps.{start, rule, boolean, per_node, variable}
use Rattle.murphi_typed.specs.Worked.{chain}
use Rattle.scalarset_rules.specs.Rules.{Break, broken, formula_break}

abbrev pub place : ℕ → ℕ → Span
place line column = record { line = line; column = column }

-- a line that has nothing but this
abbrev pub on : ℕ → Span
on line = place line 1

-- the break of a rule in a line
abbrev pub breaks : ℕ → ℕ → Option Break
breaks number line = Some (record { rule = number; at = on line })

-- designators, in a line
abbrev pub plain : ℕ → Root → Designator
plain line of = d.Of' of [] end_of-Selector (on line)

abbrev pub item : ℕ → Root → Expr → Designator
item line of index =
    d.Of' of (tt ∷ []) (more_of-Selector (select.Index simple.Node index) end_of-Selector) (on line)

abbrev pub entry : ℕ → Root → Expr → Expr → Designator
entry line of first second =
    d.Of' of (tt ∷ tt ∷ [])
    (more_of-Selector (select.Index simple.Node first)
    (more_of-Selector (select.Index simple.Node second) end_of-Selector)) (on line)

-- the globals
abbrev pub the_a : Root
the_a = root.Global 0

abbrev pub the_b : Root
the_b = root.Global 1

abbrev pub the_m : Root
the_m = root.Global 2

abbrev pub the_n : Root
the_n = root.Global 3

abbrev pub the_c : Root
the_c = root.Global 4

-- `n` as an index, in line 99
abbrev pub n_read : Expr
n_read = x.Read (plain 99 the_n)

-- the variable of the outermost `for`, and that of the next
abbrev pub i : Expr
i = x.Bound 0

abbrev pub j : Expr
j = x.Bound 1

abbrev pub yes_ : Expr
yes_ = x.Known (value.Truth true)

abbrev pub set : Designator → Expr → Stmt
set to body = s.Assign to simple.Truth body

abbrev pub set_true : Designator → Stmt
set_true to = set to yes_

abbrev pub one : Stmt → Stmt
one first = s.Block' (tt ∷ []) (more_of-Stmt first end_of-Stmt)

abbrev pub two : Stmt → Stmt → Stmt
two first second = s.Block' (tt ∷ tt ∷ []) (more_of-Stmt first (more_of-Stmt second end_of-Stmt))

abbrev pub three : Stmt → Stmt → Stmt → Stmt
three first second third =
    s.Block' (tt ∷ tt ∷ tt ∷ []) (more_of-Stmt first (more_of-Stmt second (more_of-Stmt third end_of-Stmt)))

-- a `for` in a line
abbrev pub for_each : ℕ → Simple → Stmt → Stmt
for_each line over body = s.For' over (tt ∷ []) (more_of-Stmt body end_of-Stmt) (on line)

abbrev pub for_nodes : Stmt → Stmt
for_nodes body = for_each 50 simple.Node body

abbrev pub bits : Simple
bits = simple.Range (pos 0) (pos 1)

-- routines
abbrev pub by_place : AnyType → DeclaredFormal
by_place type = record { name = codes "a"; by_place = true; of = type }

abbrev pub by_value : AnyType → DeclaredFormal
by_value type = record { name = codes "k"; by_place = false; of = type }

abbrev pub routine : List DeclaredFormal → Option Simple → List Variable → Stmt → Routine
routine formals result locals body =
    record { name = codes "P"; formals = formals; result = result; locals = locals; body = body }

abbrev pub none : Arguments
none = a.Of' [] end_of-Argument

abbrev pub with_one : Argument → Arguments
with_one first = a.Of' (tt ∷ []) (more_of-Argument first end_of-Argument)

abbrev pub with_three : Argument → Argument → Argument → Arguments
with_three first second third =
    a.Of' (tt ∷ tt ∷ tt ∷ []) (more_of-Argument first (more_of-Argument second (more_of-Argument third end_of-Argument)))

-- a call of a routine, by its number, with its name in a line
abbrev pub call : ℕ → ℕ → Arguments → Stmt
call line number args = s.Call number args (on line)

-- texts
abbrev pub arrays : AnyType
arrays = per_node boolean

abbrev pub globals : List Variable
globals =
    variable (codes "A") arrays ∷ variable (codes "B") arrays ∷ variable (codes "M") (per_node arrays)
    ∷ variable (codes "n") (t.Simple simple.Node) ∷ variable (codes "c") boolean ∷ []

abbrev pub node_type : WrittenSize → Span → List Span → NodeType
node_type written at uses = record { name = codes "NODE"; size = written; size_at = at; uses = uses }

abbrev pub text : Option NodeType → List Routine → Stmt → Typed
text node routines body =
    record {
      names = [];
      kinds = [];
      node = node;
      globals = globals;
      routines = routines;
      weights = [];
      starts = [];
      rules = rule [] None body ∷ [];
      invariants = [];
    }

abbrev pub of_number : Option NodeType
of_number = Some (node_type size.Number (on 1) [])

-- what breaks first in a rule with these routines
abbrev pub judged_with : List Routine → Stmt → Option Break
judged_with routines body = broken (text of_number routines body)

abbrev pub judged : Stmt → Option Break
judged body = judged_with [] (one body)

-- size.m: `const NODE_NUM : 3; type NODE : scalarset(NODE_NUM); var c : 0..NODE_NUM;`, and count.m
abbrev pub size_text : List Span → Typed
size_text uses = text (Some (node_type (size.Constant (codes "NODE_NUM")) (place 2 23) uses)) [] (one (s.Error (on 4)))

abbrev pub numbers : Simple
numbers = simple.Range (pos 0) (pos 7)

abbrev pub count_at : ℕ → Designator
count_at column = d.Of' (root.Global 0) [] end_of-Selector (place 4 column)

abbrev pub counting : Stmt
counting =
    s.For' simple.Node (tt ∷ [])
    (more_of-Stmt
    (s.Assign (count_at 39) numbers (chain (x.Read (count_at 44)) op.Add (x.Known (value.Number (pos 1))))) end_of-Stmt)
    (place 4 22)

abbrev pub count_text : Typed
count_text =
    record {
      names = [];
      kinds = [];
      node = Some (node_type size.Number (place 1 23) []);
      globals = variable (codes "c") (t.Simple numbers) ∷ [];
      routines = [];
      weights = [];
      starts = start [] (one (s.Assign (count_at 1) numbers (x.Known (value.Number (pos 0))))) ∷ [];
      rules =
          rule [] None (one counting) ∷ [];
      invariants = [];
    }

abbrev pub lemma_with : List Span → TypedFormula
lemma_with uses = record { title = codes "L"; params = []; body = yes_; prefix = 0; kinds = []; uses = uses }

-- S1 to S4 and S8
abbrev pub FormsAreAsWorked : Type 0
FormsAreAsWorked =
    -- size.m: the size constant is used in `var c : 0..NODE_NUM;`; without that use there is no break
    (broken (size_text (place 3 12 ∷ [])) ≡ Some (record { rule = 1; at = place 3 12 }))
    × (broken (size_text []) ≡ None)
    -- a lemma that uses the size constant twice, and one that does not
    × (formula_break (lemma_with (place 1 30 ∷ place 2 5 ∷ [])) ≡ Some (place 1 30))
    × (formula_break (lemma_with []) ≡ None)
    -- `type NODE : scalarset(1 + 2);`, and one number
    × (broken (text (Some (node_type size.Other (place 2 23) [])) [] (one (s.Error (on 4))))
    ≡ Some (record { rule = 2; at = place 2 23 }))
    × (broken (text of_number [] (one (s.Error (on 4)))) ≡ None)
    -- `clear n`, also where no node type is named; `clear A`: its index type does not count
    × (judged (s.Clear (plain 3 the_n) (t.Simple simple.Node) (on 2)) ≡ breaks 3 3)
    × (broken (text None [] (one (s.Clear (plain 3 the_n) (t.Simple simple.Node) (on 2)))) ≡ breaks 3 3)
    × (judged (s.Clear (plain 3 the_a) arrays (on 2)) ≡ None)
    -- `clear w`, where w is a record with a scalarset in an array; `undefine n`
    × (judged (s.Clear (plain 3 the_c) (t.Record' (tt ∷ tt ∷ []) (more_of-Field (codes "f") boolean
    (more_of-Field (codes "g") (per_node (t.Simple (simple.Scalarset 0 2))) end_of-Field))) (on 2)) ≡ breaks 3 3)
    × (judged (s.Undefine (plain 3 the_n) (on 2)) ≡ None)
    -- `procedure P(); for i : NODE do return; end; end;`, and with `for i : 0..1`
    × (judged_with (routine [] None [] (one (for_nodes (s.Leave (on 3)))) ∷ []) (one (s.Error (on 9))) ≡ breaks 4 3)
    × (judged_with (routine [] None [] (one (for_each 2 bits (s.Leave (on 3)))) ∷ []) (one (s.Error (on 9))) ≡ None)
    -- the same where a `for` over 0..1 stands in one over nodes
    × (judged_with (routine [] None [] (one (for_nodes (for_each 2 bits (s.Leave (on 3))))) ∷ []) (one (s.Error (on 9)))
    ≡ breaks 4 3)
    -- `function F() : boolean; for i : NODE do end; return true; end;`, and with `for i : 0..1`
    × (judged_with (routine [] (Some simple.Truth) [] (two (for_each 2 simple.Node (s.PutText (on 3)))
    (s.Return yes_ (on 4))) ∷ []) (one (s.Error (on 9))) ≡ breaks 8 2)
    × (judged_with (routine [] (Some simple.Truth) [] (two (for_each 2 bits (s.PutText (on 3)))
    (s.Return yes_ (on 4))) ∷ []) (one (s.Error (on 9))) ≡ None)
    -- a procedure may hold a `for` over nodes
    × (judged_with (routine [] None [] (one (for_nodes (s.PutText (on 3)))) ∷ []) (one (s.Error (on 9))) ≡ None)

-- S5 to S7
abbrev pub LoopsAreAsWorked : Type 0
LoopsAreAsWorked =
    -- count.m: `for i : NODE do c := c + 1; end`
    (broken count_text ≡ Some (record { rule = 5; at = place 4 39 }))
    -- `for i : NODE do A[i] := true; end`, `A[n] := true` and `undefine A`
    × (judged (for_nodes (set_true (item 3 the_a i))) ≡ None)
    × (judged (for_nodes (set_true (item 3 the_a n_read))) ≡ breaks 5 3)
    × (judged (for_nodes (s.Undefine (plain 3 the_a) (on 2))) ≡ breaks 5 3)
    -- outside of a loop anything goes
    × (judged (set_true (item 3 the_a n_read)) ≡ None)
    × (judged (for_each 2 bits (set_true (item 3 the_a n_read))) ≡ None)
    -- two loops: `for i : NODE do for j : NODE do M[i][j] := true; end; end`; then `A[j] := true` inside
    × (judged (for_nodes (for_nodes (set_true (entry 3 the_m i j)))) ≡ None)
    × (judged (for_nodes (for_nodes (set_true (item 3 the_a j)))) ≡ breaks 5 3)
    -- `M[n][i] := true; M[i][i] := true;`: the first lacks i at the place of the second
    × (judged (for_nodes (two (set_true (entry 3 the_m n_read i)) (set_true (entry 4 the_m i i)))) ≡ breaks 6 3)
    × (judged (for_nodes (two (set_true (entry 3 the_m n_read i)) (set_true (entry 4 the_m n_read i)))) ≡ None)
    -- `M[i][n] := true; M[n][i] := true;`: both break the rule, and the first is named
    × (judged (for_nodes (two (set_true (entry 3 the_m i n_read)) (set_true (entry 4 the_m n_read i)))) ≡ breaks 6 3)
    -- `A[i] := A[n]`, `A[i] := isundefined(A[n])`, `A[i] := B[n]` and `A[i] := !A[i]`
    × (judged (for_nodes (s.Copy (item 3 the_a i) simple.Truth (item 4 the_a n_read))) ≡ breaks 7 4)
    × (judged (for_nodes (set (item 3 the_a i) (x.IsUndefined (item 4 the_a n_read)))) ≡ breaks 7 4)
    × (judged (for_nodes (s.Copy (item 3 the_a i) simple.Truth (item 4 the_b n_read))) ≡ None)
    × (judged (for_nodes (set (item 3 the_a i) (NotForm (x.Read (item 4 the_a i))))) ≡ None)
    -- `M[i] := M[n]`, copies of rows, and `M[i] := M[i]`
    × (judged (for_nodes (s.CopyAll (item 3 the_m i) (item 4 the_m n_read))) ≡ breaks 7 4)
    × (judged (for_nodes (s.CopyAll (item 3 the_m i) (item 4 the_m i))) ≡ None)
    -- a read under a quantifier: `A[i] := exists j : NODE do A[j] end`, and with `B[j]`
    × (judged (for_nodes (set (item 3 the_a i) (QuantifiedForm false simple.Node (x.Read (item 4 the_a j)))))
    ≡ breaks 7 4)
    × (judged (for_nodes (set (item 3 the_a i) (QuantifiedForm false simple.Node (x.Read (item 4 the_b j)))))
    ≡ None)
    -- `put A[n]` is no read
    × (judged (for_nodes (two (set_true (item 3 the_a i)) (s.Put (x.Read (item 4 the_a n_read)) (on 4)))) ≡ None)
    -- `clear n` in a loop breaks S3 and S5 at one place: the least rule is named
    × (judged (for_nodes (s.Clear (plain 3 the_n) (t.Simple simple.Node) (on 2))) ≡ breaks 3 3)
    -- the first break in text order, whatever its rule: here S7 in line 3, S5 in line 4
    × (judged (for_nodes (two (s.Copy (item 5 the_a i) simple.Truth (item 3 the_a n_read)) (set_true (plain 4 the_c))))
    ≡ breaks 7 3)

-- `procedure P(var a, b : ARR; k : NODE); for i : NODE do a[i] := !b[k]; end; end;`
abbrev pub crossing : Routine
crossing =
    routine (by_place arrays ∷ by_place arrays ∷ by_value (t.Simple simple.Node) ∷ []) None []
    (one (for_each 2 simple.Node
    (set (item 3 (root.Place 0) i) (NotForm (x.Read (item 4 (root.Place 1) (x.Read (plain 4 (root.Formal 2)))))))))

abbrev pub cross : Root → Root → Stmt
cross first second =
    one (call 7 0 (with_three (argument.Place (plain 8 first)) (argument.Place (plain 9 second))
    (argument.Copy (plain 10 the_n))))

-- `procedure P(k : NODE); A[k] := true; end;`
abbrev pub setting : Routine
setting =
    routine (by_value (t.Simple simple.Node) ∷ []) None []
    (one (set_true (item 3 the_a (x.Read (plain 3 (root.Formal 0))))))

-- `procedure Q(k : NODE); P(k); end;`
abbrev pub passing : Routine
passing =
    routine (by_value (t.Simple simple.Node) ∷ []) None []
    (one (call 5 0 (with_one (argument.Copy (plain 5 (root.Formal 0))))))

-- `procedure P(var t : boolean); t := true; end;`
abbrev pub marking : Routine
marking = routine (by_place boolean ∷ []) None [] (one (set_true (plain 3 (root.Place 0))))

-- `procedure P(); var l : boolean; begin l := true; end;`
abbrev pub scribbling : Routine
scribbling = routine [] None (variable (codes "l") boolean ∷ []) (one (set_true (plain 3 (root.Local 0))))

-- `procedure P(); var l : boolean; begin for i : NODE do l := true; end; end;`
abbrev pub looping : Routine
looping =
    routine [] None (variable (codes "l") boolean ∷ []) (one (for_nodes (set_true (plain 3 (root.Local 0)))))

-- `function F(k : NODE) : boolean; return A[k]; end;`
abbrev pub looking : Routine
looking =
    routine (by_value (t.Simple simple.Node) ∷ []) (Some simple.Truth) []
    (one (s.Return (x.Read (item 3 the_a (x.Read (plain 3 (root.Formal 0))))) (on 2)))

-- S9
abbrev pub CallsAreAsWorked : Type 0
CallsAreAsWorked =
    -- `P(A, B, n)` and `P(A, A, n)`
    (judged_with (crossing ∷ []) (cross the_a the_b) ≡ None)
    × (judged_with (crossing ∷ []) (cross the_a the_a) ≡ breaks 9 7)
    -- `for i : NODE do P(i); end`, `P(n)`, and the same through a second call
    × (judged_with (setting ∷ []) (one (for_nodes (call 7 0 (with_one (argument.Value i))))) ≡ None)
    × (judged_with (setting ∷ []) (one (for_nodes (call 7 0 (with_one (argument.Copy (plain 8 the_n)))))) ≡ breaks 9 7)
    × (judged_with (setting ∷ passing ∷ []) (one (for_nodes (call 7 1 (with_one (argument.Value i))))) ≡ None)
    × (judged_with (setting ∷ passing ∷ []) (one (for_nodes (call 7 1 (with_one (argument.Copy (plain 8 the_n))))))
    ≡ breaks 9 7)
    -- `P(A[i])` and `P(A[n])` with a `var` formal
    × (judged_with (marking ∷ []) (one (for_nodes (call 7 0 (with_one (argument.Place (item 8 the_a i)))))) ≡ None)
    × (judged_with (marking ∷ []) (one (for_nodes (call 7 0 (with_one (argument.Place (item 8 the_a n_read))))))
    ≡ breaks 9 7)
    -- two calls to blame: the first is named
    × (judged_with (setting ∷ []) (one (for_nodes (two (call 7 0 (with_one (argument.Value i)))
    (call 6 0 (with_one (argument.Copy (plain 8 the_n))))))) ≡ breaks 9 6)
    -- a read that the body itself writes overlaps what the call writes: the call is to blame
    × (judged_with (setting ∷ []) (one (for_nodes (two (s.Copy (item 6 the_b i) simple.Truth (item 5 the_a n_read))
    (call 7 0 (with_one (argument.Value i)))))) ≡ breaks 9 7)
    -- a local of a routine that is called in the loop is exempt; one of the routine that holds the loop is not
    × (judged_with (scribbling ∷ []) (one (for_nodes (call 7 0 none))) ≡ None)
    × (judged_with (looping ∷ []) (one (s.Error (on 9))) ≡ breaks 5 3)
    -- `A[i] := F(i)` and `A[i] := F(n)`
    × (judged_with (looking ∷ []) (one (for_nodes (set (item 6 the_a i) (x.Call 0 (with_one (argument.Value i)) (on 7)))))
    ≡ None)
    × (judged_with (looking ∷ []) (one (for_nodes (set (item 6 the_a i)
    (x.Call 0 (with_one (argument.Copy (plain 8 the_n))) (on 7))))) ≡ breaks 9 7)
    -- `A[i] := true; P(M[i][A[n]])`: an index of an argument is read where the call is written
    × (judged_with (marking ∷ []) (one (for_nodes (two (set_true (item 6 the_a i))
    (call 7 0 (with_one (argument.Place (entry 8 the_m i (x.Read (item 9 the_a n_read)))))))))
    ≡ breaks 7 9)
