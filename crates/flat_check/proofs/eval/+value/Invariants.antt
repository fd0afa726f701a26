use Rattle.std.proofs.Common.{◌≡◌, drop}
use Rattle.flat_check.specs.Walk.{links_value}
use Rattle.flat_check.proofs.eval.+value.Given as goal

-- the links that are left give the value of them all
abbrev pub invariant-chain-loop-link : goal.invariant-chain-loop-link
invariant-chain-loop-link l =
    links_value l.names l.cells l.left (drop l.link-index l.rest) ≡ links_value l.names l.cells l.fn.first l.rest
