use Rattle.std.proofs.Common.{◌≡◌, ◌*◌, ◌∙◌, sym, ap, subst, List, Bool, true, false, length, get_or}
use Rattle.clause_core.specs.Truth.{literal_true}
use Rattle.clause_core.specs.Members.{has}
use Rattle.sat_solver.specs.Assigned.{Path, literals_of}
use Rattle.sat_solver.proofs.TrailLemmas.{assigned_true}
use Rattle.sat_solver.proofs.trail.Trail.assignment.Goals as goal

pub returns-clause-keeps : goal.returns-clause-keeps
returns-clause-keeps c l h =
    subst (λ (a : List Bool). literal_true a l ≡ true) (sym c.make.ensures)
    (assigned_true c.self.inside.variables c.self.inside.entries.items c.self.inside.values.items c.in_ok-values.values.items c.self.invariant
    (λ k below. c.in_ok-values.ensures.values k below ∙ ap (λ (m : List Bool). get_or m (2 * k) false) c.as_slice.ensures.value)
    l (ap (λ (p : Path). has (literals_of p.entries) l) c.self.view_is ∙ h))

pub returns-clause-length : goal.returns-clause-length
returns-clause-length c = ap length c.make.ensures ∙ c.in_ok-values.ensures.length ∙ ap (λ (p : Path). p.variables) c.self.view_is
