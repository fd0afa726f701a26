-- The worked cases, each by computing it.
use Rattle.std.specs.Prelude.{refl}
use Rattle.scalarset_rules.specs.Accesses.{reads, accesses, loops}
use Rattle.scalarset_rules.specs.Rules.{holds_scalarset, inner_statements}
use Rattle.scalarset_rules.specs.Worked.{FormsAreAsWorked, LoopsAreAsWorked, CallsAreAsWorked}

pub forms : FormsAreAsWorked
unfolding reads accesses loops holds_scalarset inner_statements
forms = (refl, refl, refl, refl, refl, refl, refl, refl, refl, refl, refl, refl, refl, refl, refl, refl, refl)

pub inner_loops : LoopsAreAsWorked
unfolding reads accesses loops holds_scalarset inner_statements
inner_loops = (refl, refl, refl, refl, refl, refl, refl, refl, refl, refl, refl, refl, refl, refl, refl, refl, refl, refl, refl, refl, refl, refl)

pub calls : CallsAreAsWorked
unfolding reads accesses loops holds_scalarset inner_statements
calls = (refl, refl, refl, refl, refl, refl, refl, refl, refl, refl, refl, refl, refl, refl, refl)
