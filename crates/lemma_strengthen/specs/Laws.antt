-- What formulas and instances say. Each statement is the contract of a public function of `laws`.
use Rattle.std.specs.Prelude.{◌≡◌, ◌↔◌, ℕ, ◌-◌, ◌≤◌, List, [], map, length, slice_index_or, IsTrue}
use Rattle.std.specs.List.{All}
use Rattle.term_core.specs.declared.term.Term.{Term}
use Rattle.term_core.specs.declared.machine.Piece.{Piece}
use Rattle.term_core.specs.Nodes.{AreNodes}
use Rattle.term_core.specs.Meaning.{Cells, value_of, holds}
use Rattle.term_core.specs.Firing.{AllPiecesHold}
use Rattle.lemma_strengthen.specs.Opening.{formula_body, HoldsForAll, instance, instances}

-- With any number of nodes from 1 up, the formulas of pieces hold together exactly where the pieces do. No
-- piece has more binders than the prefix is long.
abbrev pub FormulasSayPieces : Type 0
FormulasSayPieces =
    (N : ℕ) (cells : Cells) (prefix : ℕ) (pieces : List Piece)
    → 1 ≤ N
    → All (λ piece. piece.binders ≤ prefix) pieces
    → AllPiecesHold N cells pieces [] ↔ All (λ piece. HoldsForAll N cells prefix (formula_body prefix piece)) pieces

-- The nodes that a choice of window nodes stands for, where these are the nodes of the window.
abbrev pub chosen : List ℕ → List ℕ → List ℕ
chosen window ns = map (λ n. slice_index_or window (n - 1) 0) ns

-- In the frame of a window's nodes an instance has the value of the body in the frame of the chosen nodes,
abbrev pub InstancesHaveValues : Type 0
InstancesHaveValues =
    (N : ℕ) (cells : Cells) (window ns : List ℕ) (body : Term)
    → AreNodes (length window) ns
    → value_of N cells window (instance (length window) body ns) ≡ value_of N cells (chosen window ns) body

-- so all instances are true exactly where the body is for each choice of window nodes.
abbrev pub InstancesSayBody : Type 0
InstancesSayBody =
    (N : ℕ) (cells : Cells) (window : List ℕ) (prefix : ℕ) (body : Term)
    → All (λ x. IsTrue (holds N cells window x)) (instances (length window) prefix body)
    ↔ ((ns : List ℕ) → length ns ≡ prefix → AreNodes (length window) ns
    → IsTrue (holds N cells (chosen window ns) body))
