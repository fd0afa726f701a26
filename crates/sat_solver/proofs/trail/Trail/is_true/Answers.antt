use Rattle.std.proofs.Common.{◌∙◌, sym, ap, List, Bool}
use Rattle.clause_core.specs.Members.{has}
use Rattle.clause_derivation.specs.Marking.{mark_of}
use Rattle.sat_solver.specs.Assigned.{Path, literals_of, is_false}
use Rattle.sat_solver.proofs.TrailLemmas.{has_mark, false_mark}
use Rattle.sat_solver.proofs.trail.Trail.is_true.Goals as goal

pub returns-clause-value : goal.returns-clause-value
returns-clause-value c =
    c.is_marked.ensures ∙ ap (λ (m : List Bool). mark_of m c.args.l) c.as_slice.ensures.value
    ∙ sym (has_mark c.self.inside.variables c.self.inside.entries.items c.self.inside.values.items c.self.invariant c.args.l)
    ∙ ap (λ (p : Path). has (literals_of p.entries) c.args.l) c.self.view_is

pub returns-clause-apart : goal.returns-clause-apart
returns-clause-apart c t =
    let n = c.self.inside.variables in
    let es = c.self.inside.entries.items in
    let m = c.self.inside.values.items in
    sym (ap (λ (p : Path). is_false (literals_of p.entries) c.args.l) c.self.view_is)
    ∙ false_mark n es m c.self.invariant c.args.l
    ∙ c.self.invariant.consistent c.args.l (ap (λ (m : List Bool). mark_of m c.args.l) (sym c.as_slice.ensures.value) ∙ sym c.is_marked.ensures ∙ t)
