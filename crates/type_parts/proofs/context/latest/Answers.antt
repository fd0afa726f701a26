use Rattle.std.proofs.Common.{◌≡◌, ◌∙◌, Some, sym, ap, true, false, arith}
use Rattle.std.specs.Str.{bytes_eq}
use Rattle.type_parts.proofs.ScopeLemmas.{latest-same}
use Rattle.type_parts.proofs.context.latest.Goals as goal

pub returns-then-eq : goal.returns-then-eq
returns-then-eq c =
    let eq : bytes_eq c.index-entries-left.result.name c.args.name.now ≡ true = cc in
    ap Some c.in_ok-found.ensures ∙ sym (latest-same c.args.entries.now c.loop-left.left c.index-entries-left.result c.args.name.now true (omega arith) c.loop-left.invariant.1 c.index-entries-left.is eq) ∙ c.loop-left.invariant.0

pub loop-left-preserved : goal.loop-left-preserved
loop-left-preserved c =
    let eq : bytes_eq c.index-entries-left.result.name c.args.name.now ≡ false = cc in
    (sym (latest-same c.args.entries.now c.loop-left.left c.index-entries-left.result c.args.name.now false (omega arith) c.loop-left.invariant.1 c.index-entries-left.is eq) ∙ c.loop-left.invariant.0, omega arith)
