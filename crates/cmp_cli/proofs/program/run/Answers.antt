use Rattle.std.proofs.Common.{map, sym, subst}
use Rattle.std.specs.String.{string_bytes}
use Rattle.cmp_cli.specs.Words.{IsNoRequest}
use Rattle.cmp_cli.proofs.program.run.Goals as goal

pub returns-clause-unread : goal.returns-clause-unread
returns-clause-unread g c none =
    c.ending-ending.ensures.unread (subst (λ words. IsNoRequest (map string_bytes words)) (sym c.as_slice.ensures.value) none)
