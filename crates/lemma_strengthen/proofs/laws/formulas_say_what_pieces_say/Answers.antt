use Rattle.lemma_strengthen.proofs.FormulaLemmas.{formulas_say}
use Rattle.lemma_strengthen.proofs.laws.formulas_say_what_pieces_say.Goals as goal

pub returns : goal.returns
returns c = formulas_say c.placing_keeps_values.ensures.values
