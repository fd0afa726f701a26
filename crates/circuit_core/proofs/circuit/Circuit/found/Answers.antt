use Rattle.std.proofs.Common.{◌≡◌, ◌∙◌, length, get_or, ap, sym, subst, arith, rules}
use Rattle.circuit_core.specs.declared.edge.Gate.TheVariants.{And}
use Rattle.circuit_core.specs.Network.{Network, IsNetwork}
use Rattle.circuit_core.proofs.EdgeLemmas.{found_value}
use Rattle.circuit_core.proofs.circuit.Circuit.found.Goals as goal

pub returns-then-eq-clause-value : goal.returns-then-eq-clause-value
returns-then-eq-clause-value c =
    let same : c.index.result.now ≡ And c.args.a c.args.b = search rules in
    found_value c.args.self.now (subst (λ (s : Network). IsNetwork s.inputs s.gates) c.self.view_is c.self.invariant) c.in-Some.place.now (record { code = _ }) c.args.a c.args.b (omega (arith, ap (λ (s : Network). length s.gates) c.self.view_is)) (ap (λ (s : Network). get_or s.gates c.in-Some.place.now (And c.args.a c.args.b)) (sym c.self.view_is) ∙ subst (λ g. get_or c.self.inside.gates.items c.in-Some.place.now g ≡ g) same (sym c.index.ensures)) (omega arith)
