-- Worked cases of whole texts: their refusals and parts of their typed protocols. A place is a column of line 1.
use Rattle.std.specs.Prelude.{◌≡◌, codes, ℕ, Bool, true, false, List, [], ◌∷◌, map, pos, Option, None, Some}
use Rattle.murphi_ast.specs.declared.token.Span.{Span}
use Rattle.murphi_ast.specs.declared.expr.Bind.{Bind}
use Rattle.murphi_ast.specs.declared.expr.Expr.{Expr}
use Rattle.murphi_ast.specs.declared.expr.TypeExpr as t
use Rattle.murphi_ast.specs.declared.expr.TypeExpr.{TypeExpr}
use Rattle.murphi_ast.specs.declared.stmt.Stmt as w
use Rattle.murphi_ast.specs.declared.stmt.Stmt.{Stmt}
use Rattle.murphi_ast.specs.declared.decl.Decl as decl
use Rattle.murphi_ast.specs.declared.decl.Decl.{Decl, end_of-Decl, more_of-Decl}
use Rattle.murphi_ast.specs.declared.decl.Formal.{Formal}
use Rattle.murphi_ast.specs.declared.rule.RuleDecl as r
use Rattle.murphi_ast.specs.declared.rule.RuleDecl.{RuleDecl, end_of-RuleDecl, more_of-RuleDecl}
use Rattle.murphi_ast.specs.declared.rule.Protocol.{Protocol}
use Rattle.murphi_typed.specs.Families.{Name}
use Rattle.murphi_typed.specs.declared.types.Simple.{Simple}
use Rattle.murphi_typed.specs.declared.types.Simple.TheVariants as simple
use Rattle.murphi_typed.specs.declared.types.AnyType as typ
use Rattle.murphi_typed.specs.declared.types.AnyType.{AnyType}
use Rattle.murphi_typed.specs.declared.protocol.Variable.{Variable}
use Rattle.murphi_typed.specs.declared.types.Kind.TheVariants as kind
use Rattle.murphi_typed.specs.declared.protocol.Entity.TheVariants as entity
use Rattle.murphi_typed.specs.declared.protocol.Typed.{Typed}
use Rattle.murphi_typed.specs.declared.protocol.Rule.{Rule}
use Rattle.murphi_typed.specs.Forms as typed
use Rattle.murphi_ast.specs.Title.{numbered}
use Rattle.murphi_types.specs.declared.fault.Fault.{Fault}
use Rattle.murphi_types.specs.Faults.{first_fault}
use Rattle.murphi_types.specs.Lemmas.{lemma_faults, lemma_typed}
use Rattle.murphi_types.specs.Leaves.{leaf_faults}
use Rattle.murphi_types.specs.declared.fault.Quantity.{Quantity}
use Rattle.murphi_types.specs.declared.fault.Quantity.TheVariants as quantity
use Rattle.murphi_types.specs.declared.fault.Cause.{Cause}
use Rattle.murphi_types.specs.declared.fault.Cause.TheVariants as cause
use Rattle.murphi_types.specs.Forms.{ScalarsetForm, ArrayForm}
use Rattle.murphi_types.specs.Texts.{Refusal, Placed, NoNodeType, NoStart, refusal, items_of, size_name}
use Rattle.murphi_types.specs.TextUses.{text_uses}
use Rattle.murphi_types.specs.Worked.{here, named, name, number, truth, equal, range, enum, every, fault}
use Rattle.murphi_types.specs.WorkedDeclarations.{type_name, variables}
use Rattle.murphi_types.specs.WorkedStatements.{plain}

abbrev pub text : List Decl → List RuleDecl → Protocol
text decls items = record { decls = decls; rules = items }

-- `var x : boolean;`
abbrev pub x_decl : Decl
x_decl = variables (named (codes "x") 5 ∷ []) (t.Truth (here 9))

-- `x := true`, at a column
abbrev pub set_x : ℕ → Stmt
set_x column = w.Assign (plain (codes "x") column) (truth true 90)

abbrev pub start : ℕ → List Stmt → RuleDecl
start column body = r.Start (Some (codes "S")) [] body (here column)

abbrev pub rule : ℕ → List Decl → List Stmt → RuleDecl
rule column locals body = r.Rule (Some (codes "R")) None locals body (here column)

-- `invariant "X" x = true`
abbrev pub invariant : RuleDecl
invariant = r.Invariant (Some (codes "X")) (equal (name (codes "x") 31) (truth true 35)) (here 18)

abbrev pub bound : Name → ℕ → TypeExpr → Bind
bound text column over = record { name = named text column; over = over }

abbrev pub under : List Bind → RuleDecl → RuleDecl
under binds inner = r.Group' binds (tt ∷ []) (more_of-RuleDecl inner end_of-RuleDecl) (here 20)

abbrev pub placed : Cause → ℕ → Option Refusal
placed cause column = Some (Placed (record { cause = cause; at = here column }))

abbrev pub over_limit : Quantity → ℕ → ℕ → ℕ → Option Refusal
over_limit quantity count limit column = placed (cause.E16 quantity count limit) column

-- without a name for the node type
abbrev pub alone : Protocol → Option Refusal
alone P = refusal None P

abbrev pub NODE : Name
NODE = codes "NODE"

-- `type NODE : scalarset(3);`
abbrev pub node_decl : Decl
node_decl = type_name NODE (ScalarsetForm (number 3 23) (here 13))

abbrev pub a_node : TypeExpr
a_node = t.Known (named NODE 40)

-- `procedure P(); begin Q() end; procedure Q(); begin end;`, or with the other called
abbrev pub procedure : Name → ℕ → List Stmt → Decl
procedure text column body = decl.Routine' (named text column) [] None [] end_of-Decl body

abbrev pub calls : Name → ℕ → Stmt
calls text column = w.Call (named text column) []

-- an array of 201 times 21 cells
abbrev pub many : TypeExpr
many =
    ArrayForm (range (number 0 20) (number 200 23)) (ArrayForm (range (number 0 40) (number 20 43)) (t.Truth (here 60))
    (here 30)) (here 10)

abbrev pub TextsAreAsWorked : Type 0
TextsAreAsWorked =
    -- nostart.m and badstart.m
    (alone (text (x_decl ∷ []) (invariant ∷ [])) ≡ Some NoStart)
    × (alone (text (x_decl ∷ []) (start 20 (set_x 30 ∷ []) ∷ invariant ∷ [])) ≡ None)
    -- a name for the node type that names nothing comes after all places and before a missing start state
    × (refusal (Some NODE) (text (x_decl ∷ []) (invariant ∷ [])) ≡ Some NoNodeType)
    × (refusal (Some NODE) (text (node_decl ∷ x_decl ∷ []) (start 20 [] ∷ [])) ≡ None)
    × (refusal (Some NODE) (text (variables (named (codes "a") 5 ∷ []) (range (number 3 9) (number 2 12)) ∷ []) [])
    ≡ placed cause.E08 9)
    -- `type X : enum { X };`
    × (alone (text (type_name (codes "X") (enum 10 (named (codes "X") 17 ∷ [])) ∷ []) []) ≡ placed cause.E06 17)
    -- a local of a rule may have the name of a global, but not twice
    × (alone (text (x_decl ∷ []) (start 20 [] ∷ rule 40 (x_decl ∷ []) [] ∷ [])) ≡ None)
    × (alone (text (x_decl ∷ []) (start 20 [] ∷ rule 40 (variables (named (codes "z") 45 ∷ named (codes "z") 48 ∷ [])
    (t.Truth (here 52)) ∷ []) [] ∷ [])) ≡ placed cause.E06 48)
    -- a procedure is called after its declaration only
    × (alone (text (procedure (codes "P") 11 (calls (codes "Q") 22 ∷ []) ∷ procedure (codes "Q") 41 [] ∷ [])
    (start 70 [] ∷ [])) ≡ placed cause.E10 22)
    × (alone (text (procedure (codes "P") 11 (calls (codes "P") 22 ∷ []) ∷ []) (start 70 [] ∷ []))
    ≡ placed cause.E10 22)
    × (alone (text (procedure (codes "P") 11 [] ∷ procedure (codes "Q") 41 (calls (codes "P") 52 ∷ []) ∷ [])
    (start 70 [] ∷ [])) ≡ None)

-- the numbers from 0 to this one, and a variable of some type
abbrev pub upto : ℕ → Simple
upto n = simple.Range (pos 0) (pos n)

abbrev pub cells_of : AnyType → Variable
cells_of type = record { name = codes "m"; of = type }

abbrev pub LimitsAreAsWorked : Type 0
LimitsAreAsWorked =
    -- 4,221 leaves: an array of 201 arrays of 21 cells; of arrays over nodes one item counts
    (first_fault (leaf_faults (named (codes "m") 5 ∷ []) (cells_of (typed.ArrayForm (upto 200)
    (typed.ArrayForm (upto 20) (typ.Simple simple.Truth))) ∷ []))
    ≡ Some (record { cause = cause.E16 quantity.Leaves 4221 4000; at = here 5 }))
    × (leaf_faults (named (codes "m") 5 ∷ []) (cells_of (typed.ArrayForm simple.Node
    (typed.ArrayForm (upto 199) (typed.ArrayForm (upto 19) (typ.Simple simple.Truth)))) ∷ []) ≡ [])
    -- an ill-typed rule has no leaves: what is wrong in it is named
    × (alone (text (x_decl ∷ []) (start 20 [] ∷ rule 40 (variables (named (codes "m") 45 ∷ []) many ∷ [])
    (w.Assign (plain (codes "x") 80) (number 1 85) ∷ []) ∷ [])) ≡ placed cause.E07 85)
    -- `ruleset i : NODE; j : NODE do ruleset k : NODE; l : NODE do rule`: four node parameters, by the inner list
    × (refusal (Some NODE) (text (node_decl ∷ []) (start 20 [] ∷ under (bound (codes "i") 30 a_node
    ∷ bound (codes "j") 40 a_node ∷ []) (under (bound (codes "k") 50 a_node ∷ bound (codes "l") 60 a_node ∷ [])
    (rule 70 [] [])) ∷ [])) ≡ over_limit quantity.Parameters 4 3 50)
    -- `ruleset i : 0..200; j : 0..9 do rule`: 2,010 instances; nodes do not count
    × (alone (text [] (start 20 [] ∷ under (bound (codes "i") 30 (range (number 0 34) (number 200 37))
    ∷ bound (codes "j") 42 (range (number 0 46) (number 9 49)) ∷ []) (rule 60 [] []) ∷ []))
    ≡ over_limit quantity.Instances 2010 1000 60)
    × (refusal (Some NODE) (text (node_decl ∷ []) (start 20 [] ∷ under (bound (codes "i") 30 a_node ∷ [])
    (rule 60 [] []) ∷ [])) ≡ None)
    -- two rules with one string: the second has its number for a title
    × (map (λ (one : Rule). one.title) (items_of None (text [] (rule 10 [] [] ∷ rule 40 [] [] ∷ []))).rules
    ≡ codes "R" ∷ numbered 2 ∷ [])

-- `const K : 3; type NODE : scalarset(K);`
abbrev pub k_decl : Decl
k_decl = decl.Constant (named (codes "K") 7) (number 3 11)

abbrev pub k_node : Decl
k_node = type_name NODE (ScalarsetForm (name (codes "K") 23) (here 13))

abbrev pub uses_of_size : Protocol → List Span
uses_of_size P = text_uses NODE (codes "K") P

abbrev pub UsesAreAsWorked : Type 0
UsesAreAsWorked =
    -- the declaration of the node type is no use; a bound is one
    (uses_of_size (text (k_decl ∷ k_node ∷ []) []) ≡ [])
    × (uses_of_size (text (k_decl ∷ k_node ∷ variables (named (codes "c") 50 ∷ [])
    (range (number 0 54) (name (codes "K") 57)) ∷ []) []) ≡ here 57 ∷ [])
    -- a local hides it from the end of its declaration on
    × (uses_of_size (text (k_decl ∷ k_node ∷ []) (rule 40 (variables (named (codes "K") 45 ∷ [])
    (range (number 0 48) (name (codes "K") 51)) ∷ []) (w.Assign (plain (codes "K") 60) (name (codes "K") 65) ∷ []) ∷ []))
    ≡ here 51 ∷ [])
    -- a name that is given for the node type, and the constant that is its size
    × (size_name (Some NODE) (text (k_decl ∷ k_node ∷ []) []) ≡ Some (codes "K"))
    × (size_name (Some NODE) (text (node_decl ∷ []) []) ≡ None)

-- `function f(formals) : type; begin end;`, and a formal
abbrev pub function : List Formal → TypeExpr → Decl
function formals type = decl.Routine' (named (codes "f") 10) formals (Some type) [] end_of-Decl []

abbrev pub formal_at : Bool → Name → ℕ → TypeExpr → Formal
formal_at by_place text column over =
    record { by_place = by_place; names = named text column ∷ []; body = over }

abbrev pub RoutinesAreAsWorked : Type 0
RoutinesAreAsWorked =
    -- a function has no `var` formals, and its result has a simple type
    (alone (text (function (formal_at true (codes "a") 16 (t.Truth (here 20)) ∷ []) (t.Truth (here 30)) ∷ [])
    (start 70 [] ∷ [])) ≡ placed cause.E10 16)
    × (alone (text (function [] (ArrayForm (t.Truth (here 37)) (t.Truth (here 49)) (here 30)) ∷ [])
    (start 70 [] ∷ [])) ≡ placed cause.E07 30)
    -- a formal and a local of one name; a formal with the name of a global
    × (alone (text (decl.Routine' (named (codes "P") 11) (formal_at false (codes "a") 13 (t.Truth (here 17)) ∷ []) None
    (tt ∷ []) (more_of-Decl (variables (named (codes "a") 31 ∷ []) (t.Truth (here 35))) end_of-Decl) [] ∷ [])
    (start 70 [] ∷ [])) ≡ placed cause.E06 31)
    × (alone (text (x_decl ∷ decl.Routine' (named (codes "P") 31) (formal_at true (codes "x") 37 (t.Truth (here 41)) ∷ [])
    None [] end_of-Decl (set_x 60 ∷ []) ∷ []) (start 70 [] ∷ [])) ≡ None)
    -- a formal by value is not assigned
    × (alone (text (decl.Routine' (named (codes "P") 31) (formal_at false (codes "x") 37 (t.Truth (here 41)) ∷ [])
    None [] end_of-Decl (set_x 60 ∷ []) ∷ []) (start 70 [] ∷ [])) ≡ placed cause.E14 60)

-- `forall i : 0..255 do forall j : 0..255 do x end end`
abbrev pub heavy : Expr
heavy =
    every (codes "i") 40 (range (number 0 44) (number 255 47))
    (every (codes "j") 60 (range (number 0 64) (number 255 67)) (name (codes "x") 80))

-- a typed protocol with one boolean global x and one enum name A
abbrev pub beside : Typed
beside =
    record {
      names = record { name = codes "x"; what = entity.Variable 0 } ∷ record {
        name = codes "A";
        what = entity.Member 0 0 1;
      } ∷ [];
      kinds = kind.Listed (codes "A" ∷ []) ∷ [];
      node = None;
      globals = record { name = codes "x"; of = typ.Simple simple.Truth } ∷ [];
      routines = [];
      weights = [];
      starts = [];
      rules = [];
      invariants = [];
    }

abbrev pub lemma : Expr → Option Fault
lemma body = first_fault (lemma_faults beside body)

abbrev pub LemmasAreAsWorked : Type 0
LemmasAreAsWorked =
    -- a weight of 65,793, in an invariant and in a lemma
    (alone (text (x_decl ∷ []) (start 1 [] ∷ r.Invariant None heavy (here 30) ∷ []))
    ≡ over_limit quantity.Weight 65793 10000 30)
    × (lemma heavy ≡ Some (record { cause = cause.E16 quantity.Weight 65793 10000; at = here 1 }))
    -- `x`, `z`, `1`
    × (lemma (name (codes "x") 5) ≡ None)
    × (lemma (name (codes "z") 5) ≡ fault cause.E05 5)
    × (lemma (number 1 5) ≡ fault cause.E07 5)
    -- `forall i : enum { B } do i = B end` has a kind of its own; with A it declares a global name again
    × (lemma (every (codes "i") 8 (enum 12 (named (codes "B") 19 ∷ [])) (equal (name (codes "i") 26) (name (codes "B") 30)))
    ≡ None)
    × ((lemma_typed beside (every (codes "i") 8 (enum 12 (named (codes "B") 19 ∷ [])) (truth true 26))).kinds
    ≡ kind.Listed (codes "B" ∷ []) ∷ [])
    × (lemma (every (codes "i") 8 (enum 12 (named (codes "A") 19 ∷ [])) (truth true 26)) ≡ fault cause.E06 19)
