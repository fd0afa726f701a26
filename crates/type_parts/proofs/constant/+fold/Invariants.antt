use Rattle.std.proofs.Common.{◌≡◌, drop}
use Rattle.type_parts.specs.Folding.{folded_links}
use Rattle.type_parts.proofs.constant.+fold.Given as goal

abbrev pub invariant-folded_links-loop-link : goal.invariant-folded_links-loop-link
invariant-folded_links-loop-link l = folded_links l.left (drop l.link-index l.rest) ≡ folded_links l.fn.first l.rest
