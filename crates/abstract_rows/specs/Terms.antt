-- Terms, families and rules of the worked cases.
use Rattle.std.specs.Prelude.{ℕ, Bool, true, List, [], ◌∷◌}
use Rattle.term_core.specs.declared.value.Value.{Value}
use Rattle.term_core.specs.declared.value.Value.TheVariants as value
use Rattle.term_core.specs.declared.value.Sort.{Sort}
use Rattle.term_core.specs.declared.term.Term as t
use Rattle.term_core.specs.declared.term.Term.{Term}
use Rattle.term_core.specs.declared.machine.CellFamily.{CellFamily}
use Rattle.term_core.specs.declared.machine.Update.{Update}
use Rattle.term_core.specs.declared.machine.TermRule.{TermRule}

abbrev pub truth : Bool → Term
truth b = t.Known (value.Truth b)

-- a member of the only kind
abbrev pub member : ℕ → Term
member index = t.Known (value.Member 0 index)

abbrev pub cell : ℕ → Term
cell family = t.Read family []

abbrev pub cell_at : ℕ → Term → Term
cell_at family index = t.Read family (index ∷ [])

-- a family whose cells may be undefined
abbrev pub family : Sort → ℕ → CellFamily
family of axes = record { name = []; sort = of; axes = axes; undefined = true }

abbrev pub update : ℕ → Term → Update
update f body = record { family = f; body = body }

-- what is written at the node of the first parameter, and the old value elsewhere
abbrev pub written_at : ℕ → Term → Term
written_at f new = t.If (t.Same (t.Var 1) (t.Var 0)) new (cell_at f (t.Var 1))

-- a rule or start with so many node parameters, with nothing that faults
abbrev pub rule : List ℕ → List Value → Term → List Update → TermRule
rule title values guard updates = record {
  title = title;
  values = values;
  params = [];
  prefix = 1;
  guard = guard;
  ok = [];
  updates = updates;
}
