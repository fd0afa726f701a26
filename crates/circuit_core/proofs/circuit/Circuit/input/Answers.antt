use Rattle.std.proofs.Common.{◌+◌, ◌∷◌, ◌++◌, [], length, ap, subst, ◌∙◌, arith}
use Rattle.circuit_core.specs.declared.edge.Gate.TheVariants.{Input}
use Rattle.circuit_core.specs.Network.{Network, IsNetwork}
use Rattle.circuit_core.proofs.EdgeLemmas.{same_value, pushed_value, pushed_grows, keeps_edges}
use Rattle.circuit_core.proofs.circuit.Circuit.input.Goals as goal

pub returns-clause-value : goal.returns-clause-value
returns-clause-value c = λ x.
    pushed_value c.args.self.now (record { inputs = c.self.inside.inputs + 1; gates = c.push.new.self.items }) (Input c.self.inside.inputs) (record { code = _ })
    (c.in_ok-push.ensures.items ∙ ap (λ (s : Network). s.gates ++ Input c.self.inside.inputs ∷ []) c.self.view_is) (omega (arith, ap (λ (s : Network). length s.gates) c.self.view_is)) x
    ∙ ap (λ (s : Network). x s.inputs) c.self.view_is

pub returns-clause-keeps : goal.returns-clause-keeps
returns-clause-keeps c =
    keeps_edges _ _ (pushed_grows c.args.self.now (record { inputs = c.self.inside.inputs + 1; gates = c.push.new.self.items }) (Input c.self.inside.inputs)
    (c.in_ok-push.ensures.items ∙ ap (λ (s : Network). s.gates ++ Input c.self.inside.inputs ∷ []) c.self.view_is) (omega (arith, ap (λ (s : Network). s.inputs) c.self.view_is)))

pub returns-clause-apart : goal.returns-clause-apart
returns-clause-apart c = same_value c.args.self.now (subst (λ (s : Network). IsNetwork s.inputs s.gates) c.self.view_is c.self.invariant)

pub returns-then-place-ge-MOST_GATES-clause-apart : goal.returns-then-place-ge-MOST_GATES-clause-apart
returns-then-place-ge-MOST_GATES-clause-apart c = same_value c.args.self.now (subst (λ (s : Network). IsNetwork s.inputs s.gates) c.self.view_is c.self.invariant)

pub returns-in_err-push-clause-apart : goal.returns-in_err-push-clause-apart
returns-in_err-push-clause-apart c = same_value c.args.self.now (subst (λ (s : Network). IsNetwork s.inputs s.gates) c.self.view_is c.self.invariant)
