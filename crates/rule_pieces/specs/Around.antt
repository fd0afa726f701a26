-- What stands around a part, from outside to inside, and what it adds to the demands inside.
use Rattle.std.specs.Prelude.{ℕ, suc, List, [], ◌∷◌, ◌++◌, map}
use Rattle.term_core.specs.declared.term.Term as t
use Rattle.term_core.specs.declared.term.Term.{Term}
use Rattle.term_core.specs.Substitution.{lifted}
use Rattle.rule_inline.specs.Demands.{Demand, one_under, one_unless, one_binding}
use Rattle.rule_pieces.specs.declared.piece.Around.{Around}
use Rattle.rule_pieces.specs.declared.piece.Around.TheVariants as held

abbrev pub wrap : Around → Demand → Demand
wrap held.Bound q = one_binding q
wrap (held.Under frame test) q = one_under frame test q
wrap (held.Unless frame left) q = one_unless frame left q

-- one demand with these around it
abbrev pub wrapped : List Around → Demand → Demand
wrapped [] q = q
wrapped (a ∷ around) q = wrap a (wrapped around q)

abbrev pub around_all : List Around → List Demand → List Demand
around_all around qs = map (wrapped around) qs

abbrev pub binders_in : List Around → ℕ
binders_in [] = 0
binders_in (held.Bound ∷ around) = suc (binders_in around)
binders_in (held.Under frame test ∷ around) = binders_in around
binders_in (held.Unless frame left ∷ around) = binders_in around

-- the test that one of them is, with so many variables bound inside
abbrev pub test_of : ℕ → Around → List Term
test_of inner (held.Under frame test) = lifted frame inner test ∷ []
test_of inner _ = []

abbrev pub tests_in : List Around → List Term
tests_in [] = []
tests_in (a ∷ around) = test_of (binders_in around) a ++ tests_in around

-- the term of one of them that says that a `return` was met before
abbrev pub left_of : ℕ → Around → List Term
left_of inner (held.Unless frame left) = lifted frame inner left ∷ []
left_of inner _ = []

abbrev pub lefts_in : List Around → List Term
lefts_in [] = []
lefts_in (a ∷ around) = left_of (binders_in around) a ++ lefts_in around

-- all but the innermost
abbrev pub but_last : List Around → List Around
but_last [] = []
but_last (a ∷ []) = []
but_last (a ∷ b ∷ around) = a ∷ but_last (b ∷ around)
