use Rattle.std.proofs.Common.{inl, inr, ◌∙◌, arith}
use Rattle.circuit_core.proofs.EdgeLemmas.{falsity_value, truth_value, same_code, opposite_value, folds_false, folds_true, folds_same, folds_opposite}
use Rattle.std.proofs.Math.Bool.{and_comm}
use Rattle.circuit_core.specs.Value.{edge_value}
use Rattle.circuit_core.proofs.folding.folded.Goals as goal

pub returns-then-a-eq0-clause-value : goal.returns-then-a-eq0-clause-value
returns-then-a-eq0-clause-value c = λ n x. elim c.then-a-eq0.either [
  | inl e ↦ folds_false (edge_value n x c.args.a) (edge_value n x c.args.b) (falsity_value n x c.args.a e)
  | inr r ↦ elim r [
    | inl e ↦ folds_true (edge_value n x c.args.a) (edge_value n x c.args.b) (truth_value n x c.args.b e.1)
    | inr e ↦ folds_same (edge_value n x c.args.a) (edge_value n x c.args.b) (same_code c.args.a c.args.b e.2 n x)
  ]
]

pub returns-then-b-eq0-clause-value : goal.returns-then-b-eq0-clause-value
returns-then-b-eq0-clause-value c = λ n x. elim c.then-b-eq0.either [
  | inl e ↦ folds_false (edge_value n x c.args.b) (edge_value n x c.args.a) (falsity_value n x c.args.b e) ∙ and_comm (edge_value n x c.args.b) (edge_value n x c.args.a)
  | inr e ↦ folds_true (edge_value n x c.args.b) (edge_value n x c.args.a) (truth_value n x c.args.a e.1) ∙ and_comm (edge_value n x c.args.b) (edge_value n x c.args.a)
]

pub returns-then-node-clause-value : goal.returns-then-node-clause-value
returns-then-node-clause-value c = λ n x.
    falsity_value n x (record { code = 0 }) (omega arith)
    ∙ folds_opposite (edge_value n x c.args.a) (edge_value n x c.args.b) (opposite_value c.args.a c.args.b (omega arith) (omega arith) n x)
