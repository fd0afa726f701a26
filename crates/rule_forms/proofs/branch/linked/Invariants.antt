use Rattle.std.proofs.Common.{◌≡◌, map, length}
use Rattle.rule_forms.specs.Seen.{seen_site, seen_chain, seen_worked, terms_in}
use Rattle.rule_forms.specs.Words.{links_over}
use Rattle.rule_forms.proofs.branch.linked.Given as goal

abbrev pub invariant-loop-one : goal.invariant-loop-one
invariant-loop-one l = links_over (seen_site l.site) (terms_in l.site l.terms) (map (seen_worked l.site) l.left) (seen_chain l.site l.out) ≡ links_over (seen_site l.site) (terms_in l.site l.terms) (map (seen_worked l.site) l.fn.all) (seen_chain l.site l.fn.last)

abbrev pub decreases-loop-one : goal.decreases-loop-one
decreases-loop-one l = length l.left
