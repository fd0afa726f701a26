use Rattle.other_abstract.proofs.PatternLemmas.{pattern_listed, listed_pattern, patterns_once}
use Rattle.other_abstract.proofs.laws.patterns_are_listed.Goals as goal

pub returns : goal.returns
returns c m r = (λ p. (pattern_listed m r p, listed_pattern m r p), patterns_once m r)
