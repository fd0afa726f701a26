use Rattle.std.proofs.Common.{◌∙◌, ◌<◌, ◌++◌, [], ◌∷◌, Some, subst, ap}
use Rattle.murphi_typed.specs.Names.{member_text}
use Rattle.rule_names.proofs.NameEquations.{names_more}
use Rattle.rule_names.proofs.kinds.member_names.Goals as goal

pub loop-index-preserved : goal.loop-index-preserved
loop-index-preserved c =
    names_more (member_text (Some c.args.kind.now)) c.loop-index.names _ _ c.loop-index.index _
    (subst (λ n. c.loop-index.index < n) c.member_count-index-end.ensures c.loop-index-test.true)
    (c.in_ok-push.ensures.ok ∙ ap (λ x. c.loop-index.names ++ x ∷ []) c.in_ok-name.ensures) c.loop-index.invariant
