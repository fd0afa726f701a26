use Rattle.std.proofs.Common.{◌≡◌, ◌∙◌, ◌++◌, ◌∷◌, [], List, Bool, sym, ap, subst, ◌<◌, set, true, false}
use Rattle.clause_core.specs.Literal.{variable_of}
use Rattle.clause_core.specs.Members.{has}
use Rattle.sat_solver.specs.Assigned.{Path, IsTrail, literals_of, is_false}
use Rattle.sat_solver.specs.declared.entry.Entry.{Entry}
use Rattle.sat_solver.proofs.TrailLemmas.{trail_pushed, trail_bound, has_mark, false_mark}
use Rattle.sat_solver.proofs.trail.Trail.enqueue.Goals as goal

-- the trail after the push, by what the caller was asked for
pushed : (p q : Path) (m : List Bool) (e : Entry) (es : List Entry) → q ≡ p → IsTrail q.variables q.entries m → variable_of e.lit < p.variables → has (literals_of p.entries) e.lit ≡ false → is_false (literals_of p.entries) e.lit ≡ false → es ≡ q.entries ++ e ∷ [] → IsTrail q.variables es (set m e.lit.code true)
pushed p q m e es same t range on off is =
    subst (λ xs. IsTrail q.variables xs (set m e.lit.code true)) (sym is)
    (trail_pushed q.variables q.entries m e t
    (subst (λ (r : Path). variable_of e.lit < r.variables) (sym same) range)
    (sym (has_mark q.variables q.entries m t e.lit) ∙ ap (λ (r : Path). has (literals_of r.entries) e.lit) same ∙ on)
    (sym (false_mark q.variables q.entries m t e.lit) ∙ ap (λ (r : Path). is_false (literals_of r.entries) e.lit) same ∙ off))

pub invariant_of-self : goal.invariant_of-self
invariant_of-self c = subst (λ es. IsTrail c.self.inside.variables es c.self.inside.values.items) (sym c.in_err-push.ensures.items) c.self.invariant

pub invariant_of-self-2 : goal.invariant_of-self-2
invariant_of-self-2 c =
    let q : Path = record { variables = c.self.inside.variables; entries = c.self.inside.entries.items; starts = c.self.inside.starts.items } in
    pushed c.args.self.now q c.self.inside.values.items (record { lit = c.args.l; reason = c.args.reason }) c.push.new.self.items c.self.view_is c.self.invariant c.requires.range c.requires.not_true c.requires.not_false c.in_ok-push.ensures.items

pub returns-clause-bound : goal.returns-clause-bound
returns-clause-bound c =
    let q : Path = record { variables = c.self.inside.variables; entries = c.self.inside.entries.items; starts = c.self.inside.starts.items } in
    trail_bound c.self.inside.variables c.push.new.self.items (set c.self.inside.values.items c.args.l.code true)
    (pushed c.args.self.now q c.self.inside.values.items (record { lit = c.args.l; reason = c.args.reason }) c.push.new.self.items c.self.view_is c.self.invariant c.requires.range c.requires.not_true c.requires.not_false c.in_ok-push.ensures.items)
