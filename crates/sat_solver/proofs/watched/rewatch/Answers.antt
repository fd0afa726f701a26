use Rattle.std.proofs.Common.{List, sym, subst}
use Rattle.sat_arena.specs.Live.{Entry, IsLive}
use Rattle.sat_solver.proofs.ArenaLemmas.{live_swapped}
use Rattle.sat_solver.proofs.watched.rewatch.Goals as goal

pub returns-in_ok-move_watch-clause-live : goal.returns-in_ok-move_watch-clause-live
returns-in_ok-move_watch-clause-live c =
    subst (λ (live : List Entry). IsLive live c.args.id) (sym c.in_ok-move_watch.ensures.ok)
    (live_swapped c.args.arena.now.live c.args.id c.args.from c.args.to c.args.id c.requires.live)
