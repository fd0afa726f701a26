-- Terms in place of the variables of a term. Under the quantifiers around a variable the term that comes in
-- stands in a longer frame, so its own quantifiers bind numbers that are as much greater. This is
-- substitution without capture, for variables that are numbered from the outside in.
use Rattle.std.specs.Prelude.{ℕ, suc, ◌+◌, ◌-◌, nat_eq, nat_lt, List, [], ◌∷◌, length, slice_get, if◌then◌else◌}
use Rattle.std.specs.Option.{option_map_or}
use Rattle.term_core.specs.declared.term.Term as t
use Rattle.term_core.specs.declared.term.Term.{Term, Row_of-Term, end_of-Term, more_of-Term}
use Rattle.term_core.specs.Forms.{NotForm, IfForm, SameForm, LessForm, ArithForm, QuantifiedForm}

unfoldable mutual
  -- the term in which each variable is replaced: `by` gives the term for a variable under so many
  -- quantifiers, and `under` is how many stand around this term
  pub replaced : (ℕ → ℕ → Term) → ℕ → Term → Term
  replaced by under (t.Known value) = t.Known value
  replaced by under (t.Var k) = by under k
  replaced by under (t.Read' family _ at) = t.Read family (row_replaced by under at)
  replaced by under (NotForm body) = t.Not (replaced by under body)
  replaced by under (t.And' _ parts) = t.And (row_replaced by under parts)
  replaced by under (t.Or' _ parts) = t.Or (row_replaced by under parts)
  replaced by under (IfForm test then' else') = t.If (replaced by under test) (replaced by under then') (replaced by under else')
  replaced by under (SameForm left right) = t.Same (replaced by under left) (replaced by under right)
  replaced by under (LessForm left right) = t.Less (replaced by under left) (replaced by under right)
  replaced by under (ArithForm op left right) = t.Arith op (replaced by under left) (replaced by under right)
  replaced by under (QuantifiedForm all body) = t.Quantified all (replaced by (suc under) body)

  pub row_replaced : {n : _} → (ℕ → ℕ → Term) → ℕ → Row_of-Term n → List Term
  row_replaced by under end_of-Term = []
  row_replaced by under (more_of-Term first rest) = replaced by under first ∷ row_replaced by under rest

-- a variable for frames of `more` variables more after the first `depth`
abbrev pub lifted_variable : ℕ → ℕ → ℕ → ℕ → Term
lifted_variable depth more under k = t.Var (if nat_lt k depth then k else k + more)

-- the term for frames of `more` variables more after the first `depth`, which it does not speak of
abbrev pub lifted : ℕ → ℕ → Term → Term
lifted depth more body = replaced (lifted_variable depth more) 0 body

-- another term in place of one variable, in frames of `depth` variables
abbrev pub substituted_variable : ℕ → ℕ → Term → ℕ → ℕ → Term
substituted_variable depth var by under k = if nat_eq k var then lifted depth under by else t.Var k

-- the term with another in place of the variable. Both are for frames of `depth` variables, and their
-- quantifiers bind the numbers from there on
abbrev pub substituted : ℕ → ℕ → Term → Term → Term
substituted depth var by body = replaced (substituted_variable depth var by) 0 body

-- variable k is the k-th term of the list, which is for frames of `to` variables. The variables past the
-- list, which quantifiers bind, are numbered from `to` up
abbrev pub placed_variable : ℕ → List Term → ℕ → ℕ → Term
placed_variable to terms under k = option_map_or (lifted to under) (slice_get terms k) (t.Var (to + (k - length terms)))

-- the term for frames of `to` variables in which all variables of its own frame are replaced at once, the
-- k-th by the k-th term of the list
abbrev pub placed : ℕ → List Term → Term → Term
placed to terms body = replaced (placed_variable to terms) 0 body
