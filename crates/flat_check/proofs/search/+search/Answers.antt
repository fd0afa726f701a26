use Rattle.std.proofs.Common.{arith}
use Rattle.flat_check.proofs.SearchLemmas.{below_last}
use Rattle.flat_check.proofs.search.+search.Goals as goal

pub search-returns-in_ok-found-in-None-2 : goal.search-returns-in_ok-found-in-None-2
search-returns-in_ok-found-in-None-2 t c =
    below_last c.args.names.now c.args.items.now c.args.front.now c.args.left c.in_ok-found-2.field-0 c.in_ok-found-in-None.field-0 c.in_ok-found-in-None-2.found
    (omega arith) c.in-None.is c.in-None-2.is c.in_ok-found-2.ensures c.in_ok-found-in-None.ensures c.in_ok-found-in-None-2.ensures
