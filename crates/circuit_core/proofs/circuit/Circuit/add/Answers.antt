use Rattle.std.proofs.Common.{◌∷◌, ◌++◌, [], length, ap, ◌∙◌, arith}
use Rattle.circuit_core.specs.declared.edge.Gate.TheVariants.{And}
use Rattle.circuit_core.specs.Network.{Network}
use Rattle.circuit_core.proofs.EdgeLemmas.{pushed_value, pushed_grows, keeps_edges}
use Rattle.circuit_core.proofs.circuit.Circuit.add.Goals as goal

pub returns-clause-value : goal.returns-clause-value
returns-clause-value c = λ x.
    pushed_value c.args.self.now (record { inputs = c.self.inside.inputs; gates = c.push.new.self.items }) (And c.args.a c.args.b) (record { code = _ })
    (c.in_ok-push.ensures.items ∙ ap (λ (s : Network). s.gates ++ And c.args.a c.args.b ∷ []) c.self.view_is) (omega (arith, ap (λ (s : Network). length s.gates) c.self.view_is)) x

pub returns-clause-keeps : goal.returns-clause-keeps
returns-clause-keeps c =
    keeps_edges _ _ (pushed_grows c.args.self.now (record { inputs = c.self.inside.inputs; gates = c.push.new.self.items }) (And c.args.a c.args.b)
    (c.in_ok-push.ensures.items ∙ ap (λ (s : Network). s.gates ++ And c.args.a c.args.b ∷ []) c.self.view_is) (omega (arith, ap (λ (s : Network). s.inputs) c.self.view_is)))
