use Rattle.std.proofs.Common.{◌<◌, ◌≤◌, length, arith}
use Rattle.type_prefixes.proofs.DepthLemmas.{first-there, first-past}
use Rattle.type_prefixes.proofs.depth.place_at.Goals as goal

pub returns-then-at-places : goal.returns-then-at-places
returns-then-at-places c =
    let low : c.args.at < length c.args.places.now = omega (arith, c.if-at-places.true) in
    first-there c.args.places.now c.args.at 0 low

pub returns-else-at-places : goal.returns-else-at-places
returns-else-at-places c =
    let high : length c.args.places.now ≤ c.args.at = omega (arith, c.if-at-places.false) in
    first-past c.args.places.now c.args.at high
