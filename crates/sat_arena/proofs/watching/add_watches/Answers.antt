use Rattle.std.proofs.Common.{◌≡◌, get_or, [], ◌∙◌}
use Rattle.sat_arena.specs.Linking.{added}
use Rattle.sat_arena.proofs.LinkLemmas.{taken_back}
use Rattle.sat_arena.proofs.watching.add_watches.Goals as goal

pub returns-in-Err-clause-err : goal.returns-in-Err-clause-err
returns-in-Err-clause-err c =
    let same : c.add_watch-2.new.watched ≡ added c.args.watched.now c.args.first.code c.args.id = c.in-Err.ensures.err ∙ c.in_ok-add_watch.ensures.ok in
    taken_back c.args.watched.now c.add_watch-2.new.watched c.args.first.code c.args.id c.pop.new.self c.index-watched-first.result same c.requires.first (λ e. c.pop.ensures (get_or c.args.watched.now c.args.first.code []) c.args.id e)
