use Rattle.std.proofs.Common.{ap, ◌∙◌, ◌++◌, true}
use Rattle.rule_inline.specs.Tables.{only_term, read_of}
use Rattle.rule_inline.specs.Parts.{stored_fits}
use Rattle.rule_inline.specs.Bodies.{reached}
use Rattle.rule_terms.specs.Gathered.{seen_demands}
use Rattle.rule_parts.specs.Seen.{seen_spot}
use Rattle.rule_parts.specs.Layers.{seen_layer}
use Rattle.rule_forms.specs.Seen.{seen_site, seen_done, terms_in, families_in}
use Rattle.rule_forms.proofs.DemandForms.{shown-Only, shown-At}
use Rattle.rule_forms.proofs.WrittenStep.{written_shown}
use Rattle.rule_forms.proofs.statement.copied.Goals as goal

pub returns : goal.returns
returns c =
    let s = c.args.site.now in
    let T = terms_in s c.args.terms.now.value in
    let same = c.in_ok-term.ensures ∙ ap (λ x. read_of s.frame (terms_in s x) (seen_spot c.args.from.spot)) c.deref.ensures in
    written_shown s.frame T _ _ _ _ (seen_done s c.in_ok-d.d) c.in_ok-d.ensures.change
    (c.in_ok-d.ensures.demands ∙ ap (reached (seen_site s) T) (c.in_ok-demands.ensures ∙ ap (λ t. seen_demands c.args.to.demands ++ (seen_demands c.args.from.demands ++ stored_fits true c.args.into t)) same))
    (shown-Only _ _ (families_in s) ∙ ap (only_term s.frame) same)
