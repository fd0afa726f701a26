-- What holds of the translation of every typed protocol. Whether a protocol keeps the symmetry rules is judged by
-- a crate of its own; here that is given as `Keeps`.
use Rattle.std.specs.Prelude.{◌≡◌, ◌↔◌, ℕ, ◌≤◌, List, [], IsTrue}
use Rattle.std.specs.List.{All}
use Rattle.term_core.specs.declared.machine.Piece.{Piece}
use Rattle.term_core.specs.Cells.{cell_value}
use Rattle.term_core.specs.Firing.{AllPiecesHold}
use Rattle.term_core.specs.Whole.{IsWhole}
use Rattle.murphi_typed.specs.declared.types.Kind.{Kind}
use Rattle.murphi_typed.specs.declared.protocol.Rule.{Rule}
use Rattle.murphi_typed.specs.declared.protocol.Start.{Start}
use Rattle.murphi_typed.specs.declared.protocol.TypedFormula.{TypedFormula}
use Rattle.murphi_typed.specs.declared.protocol.Typed.{Typed}
use Rattle.std.specs.Prelude.{None}
use Rattle.murphi_typed.specs.Steps.{State, Holds}
use Rattle.murphi_typed.specs.Keeping.{IsState}
use Rattle.murphi_typed.specs.WellTyped.{is_well_typed, with_kinds, formula_fits}
use Rattle.murphi_typed.specs.Prefix.{node_parameters, rule_prefix, formula_prefix}
use Rattle.rule_inline.specs.Machine.{trans, formula_pieces}
use Rattle.rule_inline.specs.Presents.{Presents, state_over}

-- The machine of a well-typed protocol that keeps the symmetry rules presents it.
abbrev pub TranslationPresents : (Typed → Type 0) → Type 0
TranslationPresents Keeps = (T : Typed) → IsTrue (is_well_typed T) → Keeps T → Presents T (trans T)

-- The pieces of a formula are all true for all nodes exactly where the formula holds. It is a formula of the
-- protocol, or a lemma with kinds of its own.
abbrev pub PiecesSayFormula : (Typed → Type 0) → Type 0
PiecesSayFormula Keeps =
    (T : Typed) (more : List Kind) (f : TypedFormula) (N : ℕ) (s : State)
    → IsTrue (is_well_typed T) → Keeps T → IsTrue (formula_fits (with_kinds T more) f)
    → 1 ≤ N
    → IsState N T s
    → AllPiecesHold N (cell_value N (trans T).families (state_over N T (trans T).families s)) (formula_pieces T f) []
    ↔ Holds N T s f

-- No piece of a formula has more binders than the prefix of the source.
abbrev pub PiecesWithinPrefix : Type 0
PiecesWithinPrefix =
    (T : Typed) (f : TypedFormula)
    → All (λ (q : Piece). q.binders ≤ formula_prefix T.routines f.params f.body) (formula_pieces T f)

-- what a rule or a start keeps to: three node parameters at most, and the prefix is that of the source
pub record RuleWithin (T : Typed) (r : Rule) : Type 0 where
  pub parameters : node_parameters r.params ≤ 3
  pub prefix : r.prefix ≡ rule_prefix T.routines r.params r.guard r.body

pub record StartWithin (T : Typed) (a : Start) : Type 0 where
  pub parameters : node_parameters a.params ≤ 3
  pub prefix : a.prefix ≡ rule_prefix T.routines a.params None a.body

pub record IsWithin (T : Typed) : Type 0 where
  pub rules : All (RuleWithin T) T.rules
  pub starts : All (StartWithin T) T.starts

-- The machine is whole.
abbrev pub TranslationIsWhole : Type 0
TranslationIsWhole = (T : Typed) → IsTrue (is_well_typed T) → IsWithin T → IsWhole (trans T)
