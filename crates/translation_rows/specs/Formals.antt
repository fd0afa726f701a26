-- `var b, c : boolean;`
-- `procedure P(var t, u : boolean; s : boolean); t := true; u := s; end;`
-- `rule begin P(b, c, b); end`
use Rattle.std.specs.Prelude.{codes, ℕ, Bool, true, false, List, [], ◌∷◌, None}
use Rattle.term_core.specs.declared.value.Value.TheVariants as value
use Rattle.term_core.specs.declared.term.Term as t
use Rattle.term_core.specs.declared.machine.TermRule.{TermRule}
use Rattle.term_core.specs.declared.machine.TermMachine.{TermMachine}
use Rattle.murphi_typed.specs.declared.types.Simple.TheVariants as simple
use Rattle.murphi_typed.specs.declared.expr.Expr as x
use Rattle.murphi_typed.specs.declared.expr.Arguments as a
use Rattle.murphi_typed.specs.declared.expr.Arguments.{end_of-Argument, more_of-Argument}
use Rattle.murphi_typed.specs.declared.expr.Argument as argument
use Rattle.murphi_typed.specs.declared.stmt.Stmt as s
use Rattle.murphi_typed.specs.declared.protocol.Formal.{Formal}
use Rattle.murphi_typed.specs.declared.protocol.Routine.{Routine}
use Rattle.murphi_typed.specs.declared.protocol.Rule.{Rule}
use Rattle.murphi_typed.specs.declared.protocol.Typed.{Typed}
use Rattle.murphi_typed.specs.Steps.{State}
use Rattle.murphi_typed.specs.Worked.{here, global, one, two}
use Rattle.murphi_typed.specs.WorkedBodies.{standing, formal}
use Rattle.murphi_typed.specs.WorkedSteps.{variable, boolean, protocol, rule}
use Rattle.rule_inline.specs.Machine.{trans}

abbrev pub a_formal : List ℕ → Bool → Formal
a_formal name by_place = record { name = name; by_place = by_place; of = boolean }

abbrev pub procedure : Routine
procedure =
    record {
      name = codes "P";
      formals = a_formal (codes "t") true ∷ a_formal (codes "u") true ∷ a_formal (codes "s") false ∷ [];
      result = None;
      locals = [];
      body = two (s.Assign (standing 0) simple.Truth (x.Known (value.Truth true)))
          (s.Copy (standing 1) simple.Truth (formal 2));
    }

abbrev pub calling : Rule
calling =
    rule [] None
    (one (s.Call 0 (a.Of' (tt ∷ tt ∷ tt ∷ [])
    (more_of-Argument (argument.Place (global 0)) (more_of-Argument (argument.Place (global 1))
    (more_of-Argument (argument.Copy (global 0)) end_of-Argument)))) here))

abbrev pub by_value : Typed
by_value =
    record (protocol [] (variable (codes "b") boolean ∷ variable (codes "c") boolean ∷ []) [] (calling ∷ [])) {
      routines = procedure ∷ [];
    }

-- the rule that gives c what b is after the first statement
abbrev pub anew : TermRule
anew =
    record {
      title = codes "R";
      values = [];
      params = [];
      prefix = 0;
      guard = t.Known (value.Truth true);
      ok = [];
      updates = record { family = 0; body = t.Known (value.Truth true) } ∷ record {
        family = 1;
        body = t.Known (value.Truth true);
      } ∷ [];
    }

abbrev pub read_anew : TermMachine
read_anew = record (trans by_value) { rules = anew ∷ [] }

-- b and c
abbrev pub cells : Bool → Bool → State
cells b c = value.Truth b ∷ value.Truth c ∷ []
