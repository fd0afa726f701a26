use Rattle.std.proofs.Common.{◌++◌, [], ap, ◌∙◌}
use Rattle.lemma_strengthen.specs.OpenLists.{instances_after}
use Rattle.lemma_strengthen.proofs.CountLemmas.{instances_are}
use Rattle.lemma_strengthen.proofs.instance.instances.Goals as goal

pub returns : goal.returns
returns c =
    c.in_ok-choose.ensures.out
    ∙ ap (λ o. o ++ instances_after c.from.result c.args.f.now.body c.args.f.now.prefix c.new-names.result) c.new-out.ensures
    ∙ ap (instances_after c.from.result c.args.f.now.body c.args.f.now.prefix) c.new-names.ensures
    ∙ ap (λ w. instances_after w c.args.f.now.body c.args.f.now.prefix []) c.from.ensures
    ∙ instances_are c.args.window c.args.f.now.prefix c.args.f.now.body
