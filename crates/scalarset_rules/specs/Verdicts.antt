-- What the judgement of a whole protocol says, and the first breaks over the lists that code reads.
use Rattle.std.specs.Prelude.{◌≡◌, List, [], ◌∷◌, Option, None, Some, Result, Ok, Err}
use Rattle.murphi_ast.specs.declared.token.Span.{Span}
use Rattle.murphi_typed.specs.declared.protocol.Routine.{Routine}
use Rattle.murphi_typed.specs.declared.protocol.Rule.{Rule}
use Rattle.murphi_typed.specs.declared.protocol.Start.{Start}
use Rattle.murphi_typed.specs.declared.protocol.Typed.{Typed}
use Rattle.scalarset_rules.specs.declared.scan.Want.TheVariants as want
use Rattle.scalarset_rules.specs.declared.discipline.Disciplined.{Disciplined}
use Rattle.scalarset_rules.specs.declared.discipline.DisciplineStop.{DisciplineStop}
use Rattle.scalarset_rules.specs.declared.discipline.DisciplineStop.TheVariants as stop
use Rattle.scalarset_rules.specs.Rules.{Break, breaks_at, top_scope, node_breaks, routine_breaks, sooner, first_break, broken}
use Rattle.scalarset_rules.specs.Scanning.{first_in_body}

-- what is held is the protocol, and it breaks no rule; or the first break is named. Want of memory is free.
abbrev pub Says : Typed → Result Disciplined DisciplineStop → Type 0
Says T (Ok d) = (d.held ≡ T) × (broken T ≡ None)
Says T (Err (stop.Broken rule at)) = broken T ≡ Some (record { rule = rule; at = at })
Says T (Err stop.Memory) = Unit {0}

abbrev pub first_routine_clears : List Routine → Option Break
first_routine_clears [] = None
first_routine_clears (r ∷ rs) = sooner (first_in_body want.Clear r.body) (first_routine_clears rs)

abbrev pub first_start_clears : List Start → Option Break
first_start_clears [] = None
first_start_clears (a ∷ rest) = sooner (first_in_body want.Clear a.body) (first_start_clears rest)

abbrev pub first_rule_clears : List Rule → Option Break
first_rule_clears [] = None
first_rule_clears (r ∷ rs) = sooner (first_in_body want.Clear r.body) (first_rule_clears rs)

abbrev pub first_clears : Typed → Option Break
first_clears T =
    sooner (first_routine_clears T.routines) (sooner (first_start_clears T.starts) (first_rule_clears T.rules))

abbrev pub first_uses : List Span → Option Break
first_uses [] = None
first_uses (at ∷ rest) = sooner (first_break (breaks_at 1 (at ∷ []))) (first_uses rest)

abbrev pub first_routines : List Routine → List Routine → Option Break
first_routines all [] = None
first_routines all (r ∷ rs) = sooner (first_break (routine_breaks all r)) (first_routines all rs)

abbrev pub first_starts : List Routine → List Start → Option Break
first_starts all [] = None
first_starts all (a ∷ rest) =
    sooner (first_break (node_breaks all (top_scope a.params) a.body)) (first_starts all rest)

abbrev pub first_rules : List Routine → List Rule → Option Break
first_rules all [] = None
first_rules all (r ∷ rs) = sooner (first_break (node_breaks all (top_scope r.params) r.body)) (first_rules all rs)
