use Rattle.std.proofs.Common.{◌≡◌, ◌<◌, ◌≤◌, ◌∙◌, List, sym, ap, length, get_or, arith}
use Rattle.clause_core.specs.declared.literal.Lit.{Lit}
use Rattle.sat_arena.specs.Live.{Entry, literals}
use Rattle.sat_solver.specs.Assigned.{literals_of, is_false}
use Rattle.sat_solver.proofs.ArenaLemmas.{swapped_in}
use Rattle.sat_solver.proofs.propagate.leave.Goals as goal

pub returns-in_ok-move_watch-in-Some-clause-moved : goal.returns-in_ok-move_watch-in-Some-clause-moved
returns-in_ok-move_watch-in-Some-clause-moved c t d =
    let live = c.args.arena.now.live in
    let lits = literals live c.args.id in
    let same : length c.clause.result.now ≡ length lits = ap length c.clause.ensures.value in
    let two : 2 ≤ length c.clause.result.now = c.clause.ensures.two in
    let within : c.in-Some.to < length c.clause.result.now = c.in-Some.ensures.within in
    let some : 2 ≤ c.in-Some.to = c.in-Some.ensures.some in
    ap (λ (es : List Entry). is_false (literals_of c.args.trail.now.entries) (get_or (literals es c.args.id) c.args.from d)) c.in_ok-move_watch-in-Some.ensures.ok
    ∙ ap (is_false (literals_of c.args.trail.now.entries)) (swapped_in live c.args.id c.args.from c.in-Some.to d (omega arith) (omega arith) (omega arith) ∙ ap (λ (xs : List Lit). get_or xs c.in-Some.to d) (sym c.clause.ensures.value))
    ∙ c.in-Some.ensures.free d
