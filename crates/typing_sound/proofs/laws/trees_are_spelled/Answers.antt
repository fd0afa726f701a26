use Rattle.typing_sound.proofs.SpelledForms.{trees, expressions}
use Rattle.typing_sound.proofs.TokenLemmas.{tokens_small}
use Rattle.typing_sound.proofs.laws.trees_are_spelled.Goals as goal

pub returns-clause-protocols : goal.returns-clause-protocols
returns-clause-protocols c = trees

pub returns-clause-expressions : goal.returns-clause-expressions
returns-clause-expressions c = expressions

pub returns-clause-tokens : goal.returns-clause-tokens
returns-clause-tokens c = tokens_small
