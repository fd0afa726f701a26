use Rattle.std.proofs.Common.{arith, sym}
use Rattle.cmp_cli.proofs.NumberLemmas.{not_read, not_in_range, in_range}
use Rattle.cmp_cli.proofs.words.is_number.Goals as goal

pub returns-then-number-least : goal.returns-then-number-least
returns-then-number-least c =
    let out = c.if-number-least.true in
    not_in_range c.args.least c.args.greatest c.in-Ok.number c.args.value.now c.parse.result c.ranges.greatest.fits c.parse.ensures.value.0 c.in-Ok.is
    (λ low high. omega arith)

pub returns-then-greatest-number : goal.returns-then-greatest-number
returns-then-greatest-number c =
    let out = c.if-greatest-number.true in
    not_in_range c.args.least c.args.greatest c.in-Ok.number c.args.value.now c.parse.result c.ranges.greatest.fits c.parse.ensures.value.0 c.in-Ok.is
    (λ low high. omega arith)

pub returns-in-Err : goal.returns-in-Err
returns-in-Err c =
    not_read c.args.least c.args.greatest c.args.value.now c.parse.result c.in-Err.field-0 c.ranges.greatest.fits c.parse.ensures.value.0 c.in-Err.is

pub returns-in_ok-is-in-Ok : goal.returns-in_ok-is-in-Ok
returns-in_ok-is-in-Ok c =
    let low = c.if-number-least.false in
    let high = c.if-greatest-number.false in
    in_range c.args.least c.args.greatest c.in-Ok.number c.args.value.now c.parse.result c.in_ok-is-in-Ok.is' c.ranges.greatest.fits c.parse.ensures.value.0 c.in-Ok.is
    (omega arith) (omega arith) c.in_ok-is-in-Ok.ensures
