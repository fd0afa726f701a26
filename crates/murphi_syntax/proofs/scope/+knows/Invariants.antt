use Rattle.std.proofs.Common.{◌≡◌, drop}
use Rattle.murphi_syntax.specs.Scope.{names_of, links_know}
use Rattle.murphi_syntax.proofs.scope.+knows.Given as goal

abbrev pub invariant-links_know-loop-link : goal.invariant-links_know-loop-link
invariant-links_know-loop-link l = links_know (names_of l.names) (drop l.link-index l.links) ≡ links_know (names_of l.names) l.links
