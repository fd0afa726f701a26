use Rattle.std.proofs.Common.{◌≡◌, true}
use Rattle.std.specs.Str.{bytes_eq}
use Rattle.type_nodes.proofs.NodeEquations.{size-found}
use Rattle.type_nodes.proofs.node.size_of_type.Goals as goal

pub returns-then-eq : goal.returns-then-eq
returns-then-eq c =
    let same : bytes_eq c.args.name.now.name c.args.node.now ≡ true = cc in
    size-found c.args.node.now c.args.name.now c.args.body.now c.in-Scalarset.size c.get.result.now c.in-Scalarset.at c.in-Scalarset.is same c.get.ensures
