-- A whole protocol, evaluated: mutex.m of the samples, with its rules Try and Crit.
use Rattle.std.specs.Prelude.{◌≡◌, codes, ℕ, Bool, true, false, List, [], ◌∷◌, map, None, Some}
use Rattle.murphi_ast.specs.declared.expr.ChainOp.TheVariants as op
use Rattle.murphi_ast.specs.declared.expr.CompareOp.TheVariants as compare
use Rattle.murphi_ast.specs.declared.expr.Bind.{Bind}
use Rattle.murphi_ast.specs.declared.expr.Designator.{Designator}
use Rattle.murphi_ast.specs.declared.expr.Expr.{Expr}
use Rattle.murphi_ast.specs.declared.expr.Selector as part
use Rattle.murphi_ast.specs.declared.expr.TypeExpr as t
use Rattle.murphi_ast.specs.declared.stmt.Stmt as w
use Rattle.murphi_ast.specs.declared.stmt.Stmt.{Stmt, end_of-Stmt, more_of-Stmt}
use Rattle.murphi_ast.specs.declared.decl.Decl as decl
use Rattle.murphi_ast.specs.declared.decl.Decl.{Decl}
use Rattle.murphi_ast.specs.declared.rule.RuleDecl as r
use Rattle.murphi_ast.specs.declared.rule.RuleDecl.{RuleDecl, end_of-RuleDecl, more_of-RuleDecl}
use Rattle.murphi_ast.specs.declared.rule.Protocol.{Protocol}
use Rattle.murphi_ast.specs.Forms.{NotForm, CompareForm, ImpliesForm}
use Rattle.murphi_typed.specs.Families.{Name}
use Rattle.murphi_typed.specs.declared.protocol.Rule.{Rule}
use Rattle.murphi_typed.specs.declared.protocol.Start.{Start}
use Rattle.murphi_typed.specs.declared.protocol.TypedFormula.{TypedFormula}
use Rattle.murphi_typed.specs.WellTyped.{is_well_typed}
use Rattle.murphi_types.specs.declared.fault.Cause.TheVariants as cause
use Rattle.murphi_types.specs.Forms.{ScalarsetForm, ArrayForm}
use Rattle.murphi_types.specs.Texts.{refusal, typed_text, items_of}
use Rattle.murphi_types.specs.Worked.{here, named, name, number, truth, chain, equal, item, enum}
use Rattle.murphi_types.specs.WorkedDeclarations.{type_name, variables}
use Rattle.murphi_types.specs.WorkedStatements.{plain}
use Rattle.murphi_types.specs.WorkedTexts.{NODE, placed}

abbrev pub declarations : List Decl
declarations =
    decl.Constant (named (codes "NODE_NUM") 7) (number 2 18)
    ∷ type_name NODE (ScalarsetForm (name (codes "NODE_NUM") 37) (here 27))
    ∷ type_name (codes "LOC") (enum 53 (named (codes "I") 60 ∷ named (codes "T") 63 ∷ named (codes "C") 66
    ∷ named (codes "E") 69 ∷ []))
    ∷ variables (named (codes "n") 79 ∷ []) (ArrayForm (t.Known (named NODE 90)) (t.Known (named (codes "LOC") 99)) (here 83))
    ∷ variables (named (codes "x") 104 ∷ []) (t.Truth (here 108)) ∷ []

-- `n[k]`, as a value and where it is assigned
abbrev pub n_of : Name → ℕ → Expr
n_of k column = item (codes "n") column (name k column)

abbrev pub n_at : Name → ℕ → Designator
n_at k column = record { root = named (codes "n") column; selectors = part.Index (name k column) ∷ [] }

abbrev pub put_n : Name → ℕ → Name → Stmt
put_n k column loc = w.Assign (n_at k column) (name loc column)

abbrev pub put_x : Bool → ℕ → Stmt
put_x value column = w.Assign (plain (codes "x") column) (truth value column)

abbrev pub over_nodes : Name → ℕ → Bind
over_nodes k column = record { name = named k column; over = t.Known (named NODE column) }

abbrev pub init : RuleDecl
init =
    r.Start (Some (codes "Init")) [] (w.For' (over_nodes (codes "i") 130) (tt ∷ [])
    (more_of-Stmt (put_n (codes "i") 145 (codes "I")) end_of-Stmt) (here 126) ∷ put_x true 160 ∷ []) (here 110)

abbrev pub try : RuleDecl
try =
    r.Rule (Some (codes "Try")) (Some (equal (n_of (codes "i") 200) (name (codes "I") 207))) []
    (put_n (codes "i") 213 (codes "T") ∷ []) (here 190)

abbrev pub crit : RuleDecl
crit =
    r.Rule (Some (codes "Crit")) (Some (chain (equal (n_of (codes "i") 240) (name (codes "T") 247)) op.And
    (equal (name (codes "x") 251) (truth true 255)))) []
    (put_n (codes "i") 265 (codes "C") ∷ put_x false 275 ∷ []) (here 230)

abbrev pub mutex : RuleDecl
mutex =
    r.Invariant (Some (codes "Mutex"))
    (ImpliesForm (CompareForm compare.NotEqual (name (codes "i") 330) (name (codes "j") 335))
    (NotForm (chain (equal (n_of (codes "i") 343) (name (codes "C") 350)) op.And
    (equal (n_of (codes "j") 354) (name (codes "C") 361))) (here 340))) (here 310)

abbrev pub protocol : Protocol
protocol =
    record {
      decls = declarations;
      rules = init
          ∷ r.Group' (over_nodes (codes "i") 180 ∷ []) (tt ∷ tt ∷ [])
          (more_of-RuleDecl try (more_of-RuleDecl crit end_of-RuleDecl)) (here 172)
          ∷ r.Group' (over_nodes (codes "i") 290 ∷ over_nodes (codes "j") 300 ∷ []) (tt ∷ [])
          (more_of-RuleDecl mutex end_of-RuleDecl) (here 285) ∷ [];
    }

-- with x compared with I in the guard of Crit
abbrev pub mistyped : RuleDecl
mistyped =
    r.Rule None (Some (equal (name (codes "x") 251) (name (codes "I") 255))) [] [] (here 230)

abbrev pub ProtocolIsAsWorked : Type 0
ProtocolIsAsWorked =
    -- it is typed, and its typed tree is well typed
    (refusal (Some NODE) protocol ≡ None)
    × (is_well_typed (typed_text (Some NODE) protocol) ≡ true)
    -- prefix lengths of its rules, start state and invariant
    × (map (λ (one : Rule). one.prefix) (typed_text (Some NODE) protocol).rules ≡ 1 ∷ 1 ∷ [])
    × (map (λ (one : Start). one.prefix) (typed_text (Some NODE) protocol).starts ≡ 1 ∷ [])
    × (map (λ (one : TypedFormula). one.prefix) (typed_text (Some NODE) protocol).invariants ≡ 2 ∷ [])
    -- nodes do not count as instances; without a name for the node type NODE has two members
    × ((items_of (Some NODE) protocol).rule_instances ≡ 2)
    × ((items_of None protocol).rule_instances ≡ 4)
    × ((items_of None protocol).invariant_instances ≡ 4)
    -- one guard is wrong
    × (refusal (Some NODE) (record { decls = declarations; rules = init ∷ mistyped ∷ [] }) ≡ placed cause.E07 255)
