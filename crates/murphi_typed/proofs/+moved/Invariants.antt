use Rattle.std.proofs.Common.{◌≡◌, drop}
use Rattle.murphi_typed.specs.PrefixLists.{list_up, list_down}
use Rattle.murphi_typed.proofs.+moved.Given as goal

abbrev pub invariant-prefix::down_chain-loop-link :
    goal.invariant-prefix::down_chain-loop-link
invariant-prefix::down_chain-loop-link l = list_down l.sum (drop l.link-index l.rest) ≡ list_down l.before l.rest

abbrev pub invariant-prefix::up_chain-loop-link : goal.invariant-prefix::up_chain-loop-link
invariant-prefix::up_chain-loop-link l = list_up l.sum (drop l.link-index l.rest) ≡ list_up l.before l.rest
