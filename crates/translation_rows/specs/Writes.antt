-- `var p, q : 0..1; a : array [0..1] of boolean;`
-- `rule begin p := q; a[p] := true; end`
use Rattle.std.specs.Prelude.{codes, ℕ, Bool, true, [], ◌∷◌, pos, None}
use Rattle.term_core.specs.declared.value.Value.TheVariants as value
use Rattle.term_core.specs.declared.term.Term as t
use Rattle.term_core.specs.declared.term.Term.{Term}
use Rattle.term_core.specs.declared.machine.TermRule.{TermRule}
use Rattle.term_core.specs.declared.machine.TermMachine.{TermMachine}
use Rattle.murphi_typed.specs.declared.types.Simple.{Simple}
use Rattle.murphi_typed.specs.declared.types.Simple.TheVariants as simple
use Rattle.murphi_typed.specs.declared.types.AnyType as type
use Rattle.murphi_typed.specs.declared.expr.Expr as x
use Rattle.murphi_typed.specs.declared.stmt.Stmt as s
use Rattle.murphi_typed.specs.declared.protocol.Rule.{Rule}
use Rattle.murphi_typed.specs.declared.protocol.Typed.{Typed}
use Rattle.murphi_typed.specs.Forms.{ArrayForm}
use Rattle.murphi_typed.specs.Steps.{State}
use Rattle.murphi_typed.specs.Worked.{the, global, item, two}
use Rattle.murphi_typed.specs.WorkedSteps.{variable, boolean, protocol, rule}
use Rattle.rule_inline.specs.Machine.{trans}

abbrev pub bit : Simple
bit = simple.Range (pos 0) (pos 1)

abbrev pub writing : Rule
writing =
    rule [] None
    (two (s.Copy (global 0) bit (global 1)) (s.Assign (item 2 bit (the 0)) simple.Truth (x.Known (value.Truth true))))

abbrev pub in_turn : Typed
in_turn =
    protocol [] (variable (codes "p") (type.Simple bit) ∷ variable (codes "q") (type.Simple bit)
    ∷ variable (codes "a") (ArrayForm bit boolean) ∷ []) [] (writing ∷ [])

-- p as it was before the first statement
abbrev pub first_p : Term
first_p = t.Read 0 []

-- a cell of `a` by its index: true where p had that index
abbrev pub written_at : ℕ → ℕ → Term
written_at index family =
    t.If (t.Same first_p (t.Known (value.Number (pos index)))) (t.Known (value.Truth true)) (t.Read family [])

-- the rule that reads the index of `a[p]` in the state before it
abbrev pub early : TermRule
early =
    record {
      title = codes "R";
      values = [];
      params = [];
      prefix = 0;
      guard = t.Known (value.Truth true);
      ok = [];
      updates = record { family = 0; body = t.Read 1 [] } ∷ record { family = 2; body = written_at 0 2 } ∷ record {
        family = 3;
        body = written_at 1 3;
      } ∷ [];
    }

abbrev pub read_before : TermMachine
read_before = record (trans in_turn) { rules = early ∷ [] }

-- p, q, a[0] and a[1]
abbrev pub cells : ℕ → ℕ → Bool → Bool → State
cells p q first second =
    value.Number (pos p) ∷ value.Number (pos q) ∷ value.Truth first ∷ value.Truth second ∷ []
