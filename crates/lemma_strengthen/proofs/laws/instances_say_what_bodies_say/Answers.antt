use Rattle.lemma_strengthen.proofs.FormulaLemmas.{instance_value, instances_say}
use Rattle.lemma_strengthen.proofs.laws.instances_say_what_bodies_say.Goals as goal

pub returns-clause-values : goal.returns-clause-values
returns-clause-values c = instance_value c.placing_keeps_values.ensures.values

pub returns-clause-all : goal.returns-clause-all
returns-clause-all c = instances_say c.placing_keeps_values.ensures.values c.lists_are_in_order.ensures.choices c.lists_are_in_order.ensures.places
