-- Worked cases of declarations, of names that are declared twice, of arguments, and of lemmas.
use Rattle.std.specs.Prelude.{◌≡◌, codes, ℕ, true, false, List, [], ◌∷◌, pos, Option, None, Some}
use Rattle.murphi_ast.specs.declared.expr.Named.{Named}
use Rattle.murphi_ast.specs.declared.expr.Expr as e
use Rattle.murphi_ast.specs.declared.expr.Expr.{Expr, Row_of-Expr, end_of-Expr, more_of-Expr}
use Rattle.murphi_ast.specs.declared.expr.TypeExpr as t
use Rattle.murphi_ast.specs.declared.expr.TypeExpr.{TypeExpr, end_of-FieldDecl, more_of-FieldDecl}
use Rattle.murphi_ast.specs.declared.decl.Decl as decl
use Rattle.murphi_ast.specs.declared.decl.Decl.{Decl}
use Rattle.murphi_typed.specs.Families.{Name}
use Rattle.murphi_typed.specs.declared.types.Simple.TheVariants as simple
use Rattle.murphi_typed.specs.declared.types.AnyType as typ
use Rattle.murphi_typed.specs.declared.types.Kind.TheVariants as kind
use Rattle.murphi_typed.specs.declared.expr.Root.TheVariants as root
use Rattle.murphi_typed.specs.declared.protocol.Formal.{Formal}
use Rattle.murphi_types.specs.declared.fault.Cause.TheVariants as cause
use Rattle.murphi_types.specs.declared.fault.Fault.{Fault}
use Rattle.murphi_types.specs.declared.scope.Meaning.{Meaning}
use Rattle.murphi_types.specs.declared.scope.Meaning.TheVariants as meaning
use Rattle.murphi_types.specs.declared.scope.Known.{Known}
use Rattle.murphi_types.specs.Forms.{ScalarsetForm}
use Rattle.murphi_types.specs.Faults.{first_fault}
use Rattle.murphi_types.specs.Scopes.{looked}
use Rattle.murphi_types.specs.Typing.{arguments_found}
use Rattle.murphi_types.specs.Declarations.{Declared, all_declared}
use Rattle.murphi_types.specs.Repeats.{repeats_in, type_enums, type_repeats}
use Rattle.murphi_types.specs.Uses.{uses_in}
use Rattle.murphi_types.specs.Worked.{here, named, fault, name, number, range, enum, outside, known, every, formal}

-- declarations at the beginning of a text, with NODE for the node type
abbrev pub nothing_known : Known
nothing_known = record { names = []; kinds = []; globals = []; routines = []; weights = [] }

abbrev pub at_first : Declared
at_first =
    record {
      scope = record outside { node = Some (codes "NODE") };
      known = nothing_known;
      locals = [];
      faults = [];
      limits = [];
    }

abbrev pub after : List Decl → Declared
after decls = all_declared true decls at_first

abbrev pub first_of_all : List Decl → Option Fault
first_of_all decls = first_fault (after decls).faults

-- what a name stands for after declarations
abbrev pub means : List Decl → Name → Option Meaning
means decls text = looked (after decls).scope (after decls).known text

abbrev pub constant : Name → Expr → Decl
constant text body = decl.Constant (named text 7) body

abbrev pub type_name : Name → TypeExpr → Decl
type_name text body = decl.TypeName (named text 6) body

abbrev pub variables : List Named → TypeExpr → Decl
variables names body = decl.Variables names body

abbrev pub scalarset : ℕ → Decl
scalarset size = type_name (codes "NODE") (ScalarsetForm (number size 23) (here 13))

abbrev pub DeclarationsAreAsWorked : Type 0
DeclarationsAreAsWorked =
    -- `const C : 3;`, `const C : C;`, `const C : true;`
    (means (constant (codes "C") (number 3 11) ∷ []) (codes "C") ≡ Some (meaning.Constant (pos 3)))
    × (first_of_all (constant (codes "C") (name (codes "C") 11) ∷ []) ≡ fault cause.E05 11)
    × (first_of_all (constant (codes "C") (e.Truth true (here 11)) ∷ []) ≡ fault cause.E08 11)
    -- `type NODE : scalarset(300); D : scalarset(2);`: the node type is no kind
    × (means (scalarset 300 ∷ []) (codes "NODE") ≡ Some (meaning.TypeName (typ.Simple simple.Node)))
    × (means (scalarset 300 ∷ type_name (codes "D") (ScalarsetForm (number 2 43) (here 33)) ∷ []) (codes "D")
    ≡ Some (meaning.TypeName (typ.Simple (simple.Scalarset 0 2))))
    × ((after (scalarset 300 ∷ type_name (codes "D") (ScalarsetForm (number 2 43) (here 33)) ∷ [])).known.kinds
    ≡ kind.Scalarset (Some (codes "D")) 2 ∷ [])
    -- `var x, y : enum { A, B };`: two globals, one kind, two more names
    × (means (variables (named (codes "x") 5 ∷ named (codes "y") 8 ∷ [])
    (enum 12 (named (codes "A") 19 ∷ named (codes "B") 22 ∷ [])) ∷ []) (codes "y")
    ≡ Some (meaning.Variable (root.Global 1) (typ.Simple (simple.Listed 0 2))))
    × (means (variables (named (codes "x") 5 ∷ named (codes "y") 8 ∷ [])
    (enum 12 (named (codes "A") 19 ∷ named (codes "B") 22 ∷ [])) ∷ []) (codes "B") ≡ Some (meaning.Member 0 1 2))
    -- `var a : 3..2;`
    × (first_of_all (variables (named (codes "a") 5 ∷ []) (range (number 3 9) (number 2 12)) ∷ [])
    ≡ fault cause.E08 9)

-- locals of a body
abbrev pub inside_body : List Decl → Declared
inside_body decls = all_declared false decls at_first

abbrev pub LocalsAreAsWorked : Type 0
LocalsAreAsWorked =
    -- `var x : boolean; y : enum { A };`: the names of the enum are declared for the whole text
    (looked (inside_body (variables (named (codes "x") 5 ∷ []) (t.Truth (here 9))
    ∷ variables (named (codes "y") 18 ∷ []) (enum 22 (named (codes "A") 29 ∷ [])) ∷ [])).scope nothing_known (codes "y")
    ≡ Some (meaning.Variable (root.Local 1) (typ.Simple (simple.Listed 0 1))))
    × (looked outside (inside_body (variables (named (codes "y") 18 ∷ [])
    (enum 22 (named (codes "A") 29 ∷ [])) ∷ [])).known (codes "A") ≡ Some (meaning.Member 0 0 1))

abbrev pub RepeatsAreAsWorked : Type 0
RepeatsAreAsWorked =
    -- `type X : enum { X };`: at the inner X
    (first_fault (repeats_in (named (codes "X") 6 ∷ type_enums (enum 10 (named (codes "X") 17 ∷ []))))
    ≡ fault cause.E06 17)
    -- `record f : boolean; f : boolean end`
    × (first_fault (type_repeats (t.Fields' (tt ∷ tt ∷ []) (more_of-FieldDecl (named (codes "f") 8 ∷ [])
    (t.Truth (here 12)) (more_of-FieldDecl (named (codes "f") 21 ∷ []) (t.Truth (here 25)) end_of-FieldDecl))
    (here 1))) ≡ fault cause.E06 21)
    -- `forall C : 0..C do C = 1 end`: only the C of the bound is the outer one
    × (uses_in (codes "C") (every (codes "C") 8 (range (number 0 12) (name (codes "C") 15)) (name (codes "C") 20))
    ≡ here 15 ∷ [])

-- the first fault of one argument for one formal, in the call at column 1
abbrev pub argument_fault : Formal → Expr → Option Fault
argument_fault one arg =
    first_fault (arguments_found outside known (here 1) (one ∷ []) (more_of-Expr arg end_of-Expr)).faults

-- `var n : 0..3`
abbrev pub n_formal : Formal
n_formal = formal (codes "n") true (typ.Simple (simple.Range (pos 0) (pos 3)))

abbrev pub ArgumentsAreAsWorked : Type 0
ArgumentsAreAsWorked =
    -- r, which has the same type; b; C, which may not be written; `1`, which is no designator
    (argument_fault n_formal (name (codes "r") 3) ≡ None)
    × (argument_fault n_formal (name (codes "b") 3) ≡ fault cause.E07 3)
    × (argument_fault n_formal (name (codes "C") 3) ≡ fault cause.E14 3)
    × (argument_fault n_formal (number 1 3) ≡ fault cause.E11 1)
    -- `var n : 0..4`: subranges with other bounds are not the same type
    × (argument_fault (formal (codes "n") true (typ.Simple (simple.Range (pos 0) (pos 4)))) (name (codes "r") 3)
    ≡ fault cause.E07 3)
    -- by value they count as one
    × (argument_fault (formal (codes "n") false (typ.Simple (simple.Range (pos 0) (pos 4)))) (name (codes "r") 3)
    ≡ None)
