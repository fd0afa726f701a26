use Rattle.std.proofs.Common.{false, true, None, Some}
use Rattle.flat_check.proofs.TableLemmas.{walk, walk_end}
use Rattle.flat_check.proofs.known.Known.+violated.Goals as goal

pub returns-in-empty : goal.returns-in-empty
returns-in-empty t c =
    walk_end c.args.self.now c.in-Cell.undefined c.in-Cell.falsity c.in-Cell.truth c.args.state.now c.in-Cell.is c.in-empty.len_below

pub returns-in-None : goal.returns-in-None
returns-in-None t c =
    walk c.args.self.now c.in-Cell.undefined c.in-Cell.falsity c.in-Cell.truth c.get.result.now c.args.state.now None c.violated.result
    c.in-Cell.is c.in-len1-up.len_at_least c.in-None.is c.get.ensures c.violated.ensures

pub returns-in-Some-true : goal.returns-in-Some-true
returns-in-Some-true t c =
    walk c.args.self.now c.in-Cell.undefined c.in-Cell.falsity c.in-Cell.truth c.get-in-Some-true.result.now c.args.state.now (Some true) c.violated-in-Some-true.result
    c.in-Cell.is c.in-len1-up.len_at_least (cc c.in-Some-true.field-0-test) c.get-in-Some-true.ensures c.violated-in-Some-true.ensures

pub returns-in-Some-false : goal.returns-in-Some-false
returns-in-Some-false t c =
    walk c.args.self.now c.in-Cell.undefined c.in-Cell.falsity c.in-Cell.truth c.get-in-Some-false.result.now c.args.state.now (Some false) c.violated-in-Some-false.result
    c.in-Cell.is c.in-len1-up.len_at_least (cc c.in-Some-false.field-0-test) c.get-in-Some-false.ensures c.violated-in-Some-false.ensures
