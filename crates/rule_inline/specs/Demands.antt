-- What a part demands so that it does not fault. A demand is made inside out: it is made where the part stands,
-- and each test under which the part is reached, each `return` that it comes after and each variable over all
-- nodes that is bound around it is added to it on the way out.
use Rattle.std.specs.Prelude.{ℕ, suc, Bool, false, not, List, [], ◌∷◌, ◌++◌, map, if◌then◌else◌}
use Rattle.term_core.specs.declared.value.Value.TheVariants as value
use Rattle.term_core.specs.declared.term.Term as t
use Rattle.term_core.specs.declared.term.Term.{Term}
use Rattle.term_core.specs.declared.machine.Piece.{Piece}
use Rattle.term_core.specs.Substitution.{lifted}

-- how many variables are bound around the part, the tests under which it is reached, from outside to inside, the
-- terms which say that a `return` was met before it, from outside to inside, and what has to be true
pub record Demand : Type 0 where
  pub binders : ℕ
  pub tests : List Term
  pub lefts : List Term
  pub must : Term

-- of a part that stands by itself
abbrev pub demand : Term → Demand
demand must = record { binders = 0; tests = []; lefts = []; must = must }

-- the tests and terms that are added here are for frames of `frame` variables, which the part's binders follow
abbrev pub one_under : ℕ → Term → Demand → Demand
one_under frame test q = record q { tests = lifted frame q.binders test ∷ q.tests }

-- the demands of a part that is reached where a test is true
abbrev pub under_test : ℕ → Term → List Demand → List Demand
under_test frame test qs = map (one_under frame test) qs

abbrev pub truth_term : Bool → Term
truth_term b = t.Known (value.Truth b)

-- whether a term is the constant false
abbrev pub is_constant_false : Term → Bool
is_constant_false (t.Known (value.Truth b)) = not b
is_constant_false _ = false

abbrev pub one_unless : ℕ → Term → Demand → Demand
one_unless frame left q = record q { lefts = lifted frame q.binders left ∷ q.lefts }

-- the demands of a part that is reached where no `return` was met before
abbrev pub unless_left : ℕ → Term → List Demand → List Demand
unless_left frame left qs = if is_constant_false left then qs else map (one_unless frame left) qs

abbrev pub one_binding : Demand → Demand
one_binding q = record q { binders = suc q.binders }

-- the demands of a part inside one more variable over all nodes
abbrev pub binding : List Demand → List Demand
binding qs = map one_binding qs

abbrev pub negated : List Term → List Term
negated ts = map t.Not ts

-- the path to a part: the tests, and then that no `return` was met
abbrev pub path_of : Demand → Term
path_of q = t.And (q.tests ++ negated q.lefts)

-- the part is not reached, or what it demands is true
abbrev pub body_of : Demand → Term
body_of q = t.Or (t.Not (path_of q) ∷ q.must ∷ [])

abbrev pub piece_of : Demand → Piece
piece_of q = record { binders = q.binders; body = body_of q }
