use Rattle.std.proofs.Common.{ap, ◌∙◌}
use Rattle.rule_inline.specs.Bodies.{cleared, reached}
use Rattle.rule_forms.specs.Seen.{seen_site, seen_done, terms_in, families_in}
use Rattle.rule_forms.proofs.DemandForms.{shown-Only, shown-At, shown-Cleared}
use Rattle.rule_forms.proofs.WrittenStep.{written_shown}
use Rattle.rule_forms.proofs.statement.stored.Goals as goal

pub returns : goal.returns
returns c = written_shown c.args.site.now.frame (terms_in c.args.site.now c.args.terms.now.value) _ _ _ _ (seen_done c.args.site.now c.in_ok-d.d) c.in_ok-d.ensures.change (c.in_ok-d.ensures.demands ∙ ap (reached (seen_site c.args.site.now) (terms_in c.args.site.now c.args.terms.now.value)) c.in_ok-demands.ensures) (shown-Only _ _ (families_in c.args.site.now))
