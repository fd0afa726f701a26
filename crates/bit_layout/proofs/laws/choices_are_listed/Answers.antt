use Rattle.bit_layout.proofs.ChoiceLemmas.{listed_choice, choice_listed}
use Rattle.bit_layout.proofs.laws.choices_are_listed.Goals as goal

pub returns : goal.returns
returns c m rules = (listed_choice c.patterns_are_listed.ensures m rules, choice_listed c.patterns_are_listed.ensures m rules)
