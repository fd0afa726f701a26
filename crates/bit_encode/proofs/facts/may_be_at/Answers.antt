use Rattle.std.proofs.Common.{◌++◌}
use Rattle.other_abstract.specs.Lists.{window_in}
use Rattle.bit_encode.proofs.FactLemmas.{may_tells}
use Rattle.bit_encode.proofs.facts.may_be_at.Goals as goal

pub returns-clause-tells : goal.returns-clause-tells
returns-clause-tells c =
    may_tells _ _ c.args.scene.now.cells.now (window_in c.args.scene.now.window) (c.args.front.now ++ c.args.back.now) _ c.args.body.now c.args.wanted _ _ _
    c.in_ok-values.ensures.may c.in_ok-env.ensures c.members.ensures c.may_be.ensures.keeps c.in_ok-e.ensures.value
