use Rattle.std.proofs.Common.{◌<◌, ◌≤◌, length, ap, sym, arith}
use Rattle.type_prefixes.proofs.DepthLemmas.{called-there, called-past}
use Rattle.type_prefixes.proofs.depth.own_of.Goals as goal

pub returns-then-at-all : goal.returns-then-at-all
returns-then-at-all c =
    let low : c.args.routine < length c.args.all.now = omega (arith, c.if-at-all.true) in
    ap (λ d. d.own) (called-there c.args.all.now c.args.routine c.index-all-at.result low)

pub returns-else-at-all : goal.returns-else-at-all
returns-else-at-all c =
    let high : length c.args.all.now ≤ c.args.routine = omega (arith, c.if-at-all.false) in
    ap (λ d. d.own) (sym (called-past c.args.all.now c.args.routine high))
