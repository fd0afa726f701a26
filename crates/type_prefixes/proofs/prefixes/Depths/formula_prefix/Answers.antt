use Rattle.std.proofs.Common.{ap, ◌∙◌}
use Rattle.type_prefixes.specs.Lengths.{formula_length}
use Rattle.type_prefixes.proofs.PrefixLemmas.{formula-is}
use Rattle.type_prefixes.proofs.prefixes.Depths.formula_prefix.Goals as goal

pub returns : goal.returns
returns c = λ rs e.
    c.in_ok-n.ensures
    ∙ ap (λ cs. formula_length cs c.args.params.now c.args.body.now) (c.as_slice.ensures ∙ e)
    ∙ formula-is rs c.args.params.now c.args.body.now
