use Rattle.rule_inline.proofs.WholeLaw.{translation_is_whole}
use Rattle.rule_inline.proofs.laws.translation_is_whole.Goals as goal

pub returns : goal.returns
returns c = record { whole = translation_is_whole c.bodies_keep_to_their_types.ensures.blank }
