-- `var p, q : 0..1; a : array [0..1] of boolean;`
-- `procedure P(var t : boolean; k : 0..1); p := k; t := true; end;`
-- `rule begin P(a[p], q); end`
use Rattle.std.specs.Prelude.{codes, ℕ, Bool, true, false, [], ◌∷◌, pos, None}
use Rattle.term_core.specs.declared.value.Value.TheVariants as value
use Rattle.term_core.specs.declared.term.Term as t
use Rattle.term_core.specs.declared.term.Term.{Term}
use Rattle.term_core.specs.declared.machine.TermRule.{TermRule}
use Rattle.term_core.specs.declared.machine.TermMachine.{TermMachine}
use Rattle.murphi_typed.specs.declared.types.Simple.{Simple}
use Rattle.murphi_typed.specs.declared.types.Simple.TheVariants as simple
use Rattle.murphi_typed.specs.declared.types.AnyType as type
use Rattle.murphi_typed.specs.declared.expr.Expr as x
use Rattle.murphi_typed.specs.declared.expr.Argument as argument
use Rattle.murphi_typed.specs.declared.stmt.Stmt as s
use Rattle.murphi_typed.specs.declared.protocol.Routine.{Routine}
use Rattle.murphi_typed.specs.declared.protocol.Rule.{Rule}
use Rattle.murphi_typed.specs.declared.protocol.Typed.{Typed}
use Rattle.murphi_typed.specs.Forms.{ArrayForm}
use Rattle.murphi_typed.specs.Steps.{State}
use Rattle.murphi_typed.specs.Worked.{here, the, global, item, one, two}
use Rattle.murphi_typed.specs.WorkedBodies.{standing, formal, with_two}
use Rattle.murphi_typed.specs.WorkedSteps.{variable, boolean, protocol, rule}
use Rattle.rule_inline.specs.Machine.{trans}

abbrev pub bit : Simple
bit = simple.Range (pos 0) (pos 1)

abbrev pub procedure : Routine
procedure =
    record {
      name = codes "P";
      formals = record { name = codes "t"; by_place = true; of = boolean } ∷ record {
        name = codes "k";
        by_place = false;
        of = type.Simple bit;
      } ∷ [];
      result = None;
      locals = [];
      body = two (s.Copy (global 0) bit (formal 1))
          (s.Assign (standing 0) simple.Truth (x.Known (value.Truth true)));
    }

abbrev pub calling : Rule
calling =
    rule [] None
    (one (s.Call 0 (with_two (argument.Place (item 2 bit (the 0))) (argument.Copy (global 1))) here))

abbrev pub by_place : Typed
by_place =
    record (protocol [] (variable (codes "p") (type.Simple bit) ∷ variable (codes "q") (type.Simple bit)
    ∷ variable (codes "a") (ArrayForm bit boolean) ∷ []) [] (calling ∷ [])) { routines = procedure ∷ [] }

-- q, which p is after the first statement
abbrev pub later : Term
later = t.Read 1 []

-- a cell of `a` by its index: true where p then has that index
abbrev pub written_at : ℕ → ℕ → Term
written_at index family =
    t.If (t.Same later (t.Known (value.Number (pos index)))) (t.Known (value.Truth true)) (t.Read family [])

-- the rule that takes `a[p]` after p was written
abbrev pub anew : TermRule
anew =
    record {
      title = codes "R";
      values = [];
      params = [];
      prefix = 0;
      guard = t.Known (value.Truth true);
      ok = [];
      updates = record { family = 0; body = later } ∷ record { family = 2; body = written_at 0 2 } ∷ record {
        family = 3;
        body = written_at 1 3;
      } ∷ [];
    }

abbrev pub found_anew : TermMachine
found_anew = record (trans by_place) { rules = anew ∷ [] }

-- p, q, a[0] and a[1]
abbrev pub cells : ℕ → ℕ → Bool → Bool → State
cells p q first second =
    value.Number (pos p) ∷ value.Number (pos q) ∷ value.Truth first ∷ value.Truth second ∷ []
