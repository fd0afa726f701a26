-- A lock, and a path of it into two critical sections that goes by a node that is not kept.
use Rattle.std.specs.Prelude.{◌≡◌, codes, ℕ, Bool, true, false, List, [], ◌∷◌}
use Rattle.std.specs.declared.alloc.Global.{Global}
use Rattle.term_core.specs.declared.value.Value.TheVariants as value
use Rattle.term_core.specs.declared.value.Sort.TheVariants as sort
use Rattle.term_core.specs.declared.term.Term as t
use Rattle.term_core.specs.declared.term.Term.{Term}
use Rattle.term_core.specs.declared.machine.CellFamily.{CellFamily}
use Rattle.term_core.specs.declared.machine.TermRule.{TermRule}
use Rattle.term_core.specs.declared.machine.TermMachine.{TermMachine}
use Rattle.lemma_strengthen.specs.declared.formula.Formula.{Formula}
use Rattle.lemma_strengthen.specs.declared.formula.FormulaKind.TheVariants.{Invariant, NoFault}
use Rattle.other_abstract.specs.declared.node.AbsNode.TheVariants.{Kept, Fired}
use Rattle.other_abstract.specs.declared.value.AbsValue.TheVariants.{Truth, Member}
use Rattle.other_abstract.specs.declared.machine.AbstractMachine.{AbstractMachine}
use Rattle.other_abstract.specs.May.{AbsCells}
use Rattle.other_abstract.specs.Tests.{may_fail}
use Rattle.other_abstract.specs.Machines.{window}
use Rattle.other_abstract.specs.Stepping.{is_step, is_start}
use Rattle.abstract_rows.specs.Terms.{truth, member, cell, cell_at, family, update, written_at, rule}

-- idle, trying, critical, exiting
abbrev pub I : ℕ
I = 0

abbrev pub T : ℕ
T = 1

abbrev pub C : ℕ
C = 2

abbrev pub E : ℕ
E = 3

-- `n` of each node, and `x`
abbrev pub families : List CellFamily
families = family (sort.Members 0 4) 1 ∷ family sort.Truth 0 ∷ []

abbrev pub is_at : Term → ℕ → Term
is_at node place = t.Same (cell_at 0 node) (member place)

abbrev pub init : TermRule
init = rule (codes "Init") [] (truth true) (update 0 (member I) ∷ update 1 (truth true) ∷ [])

abbrev pub try : TermRule
try = rule (codes "Try") (value.Node 1 ∷ []) (is_at (t.Var 0) I) (update 0 (written_at 0 (member T)) ∷ [])

abbrev pub crit : TermRule
crit = rule (codes "Crit") (value.Node 1 ∷ []) (t.And (is_at (t.Var 0) T ∷ t.Same (cell 1) (truth true) ∷ []))
    (update 0 (written_at 0 (member C)) ∷ update 1 (truth false) ∷ [])

abbrev pub exit : TermRule
exit = rule (codes "Exit") (value.Node 1 ∷ []) (is_at (t.Var 0) C) (update 0 (written_at 0 (member E)) ∷ [])

abbrev pub idle : TermRule
idle = rule (codes "Idle") (value.Node 1 ∷ []) (is_at (t.Var 0) E)
    (update 0 (written_at 0 (member I)) ∷ update 1 (truth true) ∷ [])

abbrev pub lock : TermMachine
lock = record { kinds = []; families = families; starts = init ∷ []; rules = try ∷ crit ∷ exit ∷ idle ∷ [] }

-- two different nodes are not both critical
abbrev pub mutex : Term
mutex = t.Or (t.Same (t.Var 0) (t.Var 1) ∷ t.Not (t.And (is_at (t.Var 0) C ∷ is_at (t.Var 1) C ∷ [])) ∷ [])

abbrev pub phi : List Formula
phi =
    record { kind = NoFault (codes "Try"); prefix = 1; body = truth true }
    ∷ record { kind = Invariant (codes "Mutex"); prefix = 2; body = mutex }
    ∷ []

abbrev pub kept_two : Global → AbstractMachine
kept_two alloc = record { machine = lock; formulas = phi; kept = 2; alloc = alloc }

-- states of two kept nodes, and of these and a fired one
abbrev pub two : ℕ → ℕ → Bool → AbsCells
two a b x = Member 0 a ∷ Member 0 b ∷ Truth x ∷ []

abbrev pub three : ℕ → ℕ → ℕ → Bool → AbsCells
three a b f x = Member 0 a ∷ Member 0 b ∷ Member 0 f ∷ Truth x ∷ []

-- The path: a start, Try and Try of the kept nodes, Crit of the first, Idle of a node that is not kept, Crit of the
-- second.
abbrev pub PathIsAsWorked : Type 0
PathIsAsWorked = (alloc : Global) →
    (is_start (kept_two alloc) init [] (two I I true) ≡ true)
    × (is_step (kept_two alloc) (two I I true) try (Kept 1 ∷ []) (two I I true) (two T I true) ≡ true)
    × (is_step (kept_two alloc) (two T I true) try (Kept 2 ∷ []) (two T I true) (two T T true) ≡ true)
    × (is_step (kept_two alloc) (two T T true) crit (Kept 1 ∷ []) (two T T true) (two C T false) ≡ true)
    × (is_step (kept_two alloc) (two C T false) idle (Fired 1 ∷ []) (three C T E false) (two C T true) ≡ true)
    × (is_step (kept_two alloc) (two C T true) crit (Kept 2 ∷ []) (two C T true) (two C C false) ≡ true)

-- Without the firing of Idle the last step is from a state that is not the kept part of its wide state. Nor is it a
-- step where the wide state is that state, since the guard is false there; nor where a cell without an update changes;
-- nor from the last state, in which the formula is false.
abbrev pub ShortPathIsNone : Type 0
ShortPathIsNone = (alloc : Global) →
    (is_step (kept_two alloc) (two C T false) crit (Kept 2 ∷ []) (two C T true) (two C C false) ≡ false)
    × (is_step (kept_two alloc) (two C T false) crit (Kept 2 ∷ []) (two C T false) (two C C false) ≡ false)
    × (is_step (kept_two alloc) (two I I true) try (Kept 1 ∷ []) (two I I true) (two T I false) ≡ false)
    × (is_step (kept_two alloc) (two C C false) exit (Kept 1 ∷ []) (two C C false) (two E C false) ≡ false)

-- Only the last state of the path violates the formula.
abbrev pub violated : Global → AbsCells → Bool
violated alloc s = may_fail (window (kept_two alloc) 0) s 2 mutex

abbrev pub ViolationsAreAsWorked : Type 0
ViolationsAreAsWorked = (alloc : Global) →
    (violated alloc (two I I true) ≡ false)
    × (violated alloc (two T T true) ≡ false)
    × (violated alloc (two C T true) ≡ false)
    × (violated alloc (two C C false) ≡ true)
