use Rattle.std.proofs.Common.{arith}
use Rattle.flat_check.proofs.TableLemmas.{known_none, known_each}
use Rattle.flat_check.proofs.known.+build.Goals as goal

pub build-returns-then-left-eq0 : goal.build-returns-then-left-eq0
build-returns-then-left-eq0 t c =
    rw c.if-left-eq0.true (known_none c.args.names.now c.args.items.now c.args.front.now c.in_ok-violates.violates c.in_ok-violates.ensures)

pub build-returns : goal.build-returns
build-returns t c =
    known_each c.args.names.now c.args.items.now c.args.front.now c.args.left c.in_ok-undefined.undefined c.in_ok-falsity.falsity c.in_ok-truth.truth (omega arith)
    c.in_ok-undefined.ensures c.in_ok-falsity.ensures c.in_ok-truth.ensures
