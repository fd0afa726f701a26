use Rattle.std.proofs.Common.{◌≡◌, ◌++◌, drop}
use Rattle.rule_inline.specs.Bodies.{formals_fit}
use Rattle.rule_terms.specs.Gathered.{seen_demands}
use Rattle.rule_parts.specs.Layers.{givens}
use Rattle.rule_forms.specs.Seen.{families_in}
use Rattle.rule_pieces.proofs.entry.given_fits.Given as goal

abbrev pub invariant-loop-i : goal.invariant-loop-i
invariant-loop-i l = seen_demands l.out ++ formals_fit (drop l.i l.formals) (givens (families_in l.site) (drop l.i l.given)) ≡ formals_fit l.formals (givens (families_in l.site) l.given)
