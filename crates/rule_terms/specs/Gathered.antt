-- The demands that are gathered.
use Rattle.std.specs.Prelude.{List, [], ◌∷◌, ◌++◌, map}
use Rattle.rule_inline.specs.Demands.{Demand, demand, under_test, one_unless, binding}
use Rattle.rule_terms.specs.declared.demand.Demands as d
use Rattle.rule_terms.specs.declared.demand.Demands.{Demands, end_of-Demands, more_of-Demands}

unfoldable mutual
  pub seen_demands : Demands → List Demand
  seen_demands d.Nothing = []
  seen_demands (d.One must) = demand must ∷ []
  seen_demands (d.Both' _ (more_of-Demands first end_of-Demands) _ (more_of-Demands second end_of-Demands)) =
      seen_demands first ++ seen_demands second
  seen_demands (d.Under' frame test _ (more_of-Demands inner end_of-Demands)) = under_test frame test (seen_demands inner)
  seen_demands (d.Unless' frame left _ (more_of-Demands inner end_of-Demands)) =
      map (one_unless frame left) (seen_demands inner)
  seen_demands (d.Binding' _ (more_of-Demands inner end_of-Demands)) = binding (seen_demands inner)
