use Rattle.std.proofs.Common.{◌∙◌, ◌++◌, ◌∷◌, [], List, sym, ap, subst, None}
use Rattle.sat_solver.specs.declared.entry.Entry.{Entry}
use Rattle.sat_solver.specs.Searching.{IsDecided}
use Rattle.sat_solver.proofs.DecideLemmas.{decided_more}
use Rattle.sat_solver.proofs.advance.make_true.Goals as goal

pub returns-clause-decided : goal.returns-clause-decided
returns-clause-decided c =
    let e : Entry = record { lit = c.args.l; reason = None } in
    subst (IsDecided c.args.assumptions.now) (sym (c.in_ok-enqueue.ensures.ok ∙ ap (λ (es : List Entry). es ++ e ∷ []) c.open_level.ensures.entries))
    (decided_more c.args.assumptions.now c.args.trail.now.entries e c.requires.decided c.requires.may.turn)
