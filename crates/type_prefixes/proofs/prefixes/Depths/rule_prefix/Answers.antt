use Rattle.std.proofs.Common.{ap, ◌∙◌}
use Rattle.type_prefixes.specs.Lengths.{rule_length}
use Rattle.type_prefixes.proofs.PrefixLemmas.{rule-is}
use Rattle.type_prefixes.proofs.prefixes.Depths.rule_prefix.Goals as goal

pub returns : goal.returns
returns c = λ rs e.
    c.in_ok-n.ensures
    ∙ ap (λ cs. rule_length cs c.args.params.now c.args.guard.now c.args.body.now) (c.as_slice.ensures ∙ e)
    ∙ rule-is rs c.args.params.now c.args.guard.now c.args.body.now
