-- Formulas: pieces opened to a prefix of node variables. A universal quantifier over nodes that can be moved to
-- the front is, and takes the next variable of the prefix; what is left is the body.
use Rattle.std.specs.Prelude.{◌≡◌, ℕ, suc, ◌+◌, ◌-◌, max, Bool, true, false, not, ◌&&◌, nat_lt, List, [], ◌∷◌, ◌++◌, map, length, if◌then◌else◌, IsTrue}
use Rattle.term_core.specs.declared.term.Term as t
use Rattle.term_core.specs.declared.term.Term.{Term, Row_of-Term, end_of-Term, more_of-Term}
use Rattle.term_core.specs.declared.machine.Piece.{Piece}
use Rattle.term_core.specs.Forms.{NotForm, IfForm, QuantifiedForm}
use Rattle.term_core.specs.Nodes.{AreNodes, choices}
use Rattle.term_core.specs.Variables.{nesting}
use Rattle.term_core.specs.Values.{same_truth, below}
use Rattle.term_core.specs.Meaning.{Cells, holds}
use Rattle.term_core.specs.Substitution.{placed}
use Rattle.lemma_strengthen.specs.declared.formula.FormulaKind.{FormulaKind}
use Rattle.lemma_strengthen.specs.declared.formula.Formula.{Formula}

-- A sign says whether a term or its negation is opened: Not turns the sign, and is gone.

-- the term, or its negation
abbrev pub signed : Bool → Term → Term
signed true x = x
signed false x = t.Not x

-- And for true, Or for false: the negation of one is the other over the negations of its parts
abbrev pub joined : Bool → List Term → Term
joined true parts = t.And parts
joined false parts = t.Or parts

-- a quantifier that stays, or its negation: Not of `exists` is `forall` of Not
abbrev pub quantified : Bool → Bool → Term → Term
quantified true all body = t.Quantified all body
quantified false true body = t.Not (t.Quantified true body)
quantified false false body = t.Quantified true (t.Not body)

-- whether a quantifier under this sign takes a variable: `forall`, or Not of `exists`, where one is left
abbrev pub takes : Bool → Bool → ℕ → Bool
takes sign all left = same_truth sign all && nat_lt 0 left

-- whether an If holds a quantifier; it is then split
abbrev pub splits : Term → Term → Term → Bool
splits test then' else' = nat_lt 0 (max (nesting test) (max (nesting then') (nesting else')))

-- how many variables two parts take: the parts of And share them, those of Or take them in order
abbrev pub both_take : Bool → ℕ → ℕ → ℕ
both_take true first rest = max first rest
both_take false first rest = first + rest

-- how many of the variables that a part takes are gone for the parts after it
abbrev pub passed : Bool → ℕ → ℕ
passed true first = 0
passed false first = first

unfoldable mutual
  -- how many of the variables that are left opening a term, or its negation, takes
  pub taken : Bool → ℕ → Term → ℕ
  taken sign left (NotForm body) = taken (not sign) left body
  taken sign left (t.And' _ parts) = row_taken sign sign left parts
  taken sign left (t.Or' _ parts) = row_taken (not sign) sign left parts
  taken sign left (IfForm test then' else') =
      if splits test then' else'
      then max (taken false left test + taken sign (left - taken false left test) then')
      (taken true left test + taken sign (left - taken true left test) else')
      else 0
  taken sign left (QuantifiedForm all body) = if takes sign all left then suc (taken sign (left - 1) body) else 0
  taken sign left other = 0

  -- the same of parts, which share the variables or take them in order
  pub row_taken : {n : _} → Bool → Bool → ℕ → Row_of-Term n → ℕ
  row_taken shares sign left end_of-Term = 0
  row_taken shares sign left (more_of-Term first rest) =
      both_take shares (taken sign left first)
      (row_taken shares sign (left - passed shares (taken sign left first)) rest)

unfoldable mutual
  -- the term, or its negation, opened for a prefix of `to` variables, of which so many are left from `next`
  -- on. The list has the term that stands for each variable of the term's own frame: a variable of the prefix.
  -- The quantifiers that stay are numbered from `to` up
  pub opened : ℕ → Bool → List Term → ℕ → ℕ → Term → Term
  opened to sign vs next left (NotForm body) = opened to (not sign) vs next left body
  opened to sign vs next left (t.And' _ parts) = joined sign (row_opened to sign sign vs next left parts)
  opened to sign vs next left (t.Or' _ parts) = joined (not sign) (row_opened to (not sign) sign vs next left parts)
  opened to sign vs next left (IfForm test then' else') =
      if splits test then' else'
      then t.And (t.Or (opened to false vs next left test
      ∷ opened to sign vs (next + taken false left test) (left - taken false left test) then' ∷ [])
      ∷ t.Or (opened to true vs next left test
      ∷ opened to sign vs (next + taken true left test) (left - taken true left test) else' ∷ []) ∷ [])
      else signed sign (placed to vs (IfForm test then' else'))
  opened to sign vs next left (QuantifiedForm all body) =
      if takes sign all left then opened to sign (vs ++ t.Var next ∷ []) (suc next) (left - 1) body
      else placed to vs (quantified sign all body)
  opened to sign vs next left other = signed sign (placed to vs other)

  -- the parts, which share the variables or take them in order
  pub row_opened : {n : _} → ℕ → Bool → Bool → List Term → ℕ → ℕ → Row_of-Term n → List Term
  row_opened to shares sign vs next left end_of-Term = []
  row_opened to shares sign vs next left (more_of-Term first rest) =
      opened to sign vs next left first
      ∷ row_opened to shares sign vs (next + passed shares (taken sign left first))
      (left - passed shares (taken sign left first)) rest

-- the variables from 0 on
abbrev pub variables : ℕ → List Term
variables count = map (λ k. t.Var k) (below count)

-- the body of the formula of a piece, with a prefix of so many variables: the first are its binders
abbrev pub formula_body : ℕ → Piece → Term
formula_body prefix piece = opened prefix true (variables piece.binders) piece.binders (prefix - piece.binders) piece.body

-- the formula of a piece
abbrev pub formula_of : FormulaKind → ℕ → Piece → Formula
formula_of kind prefix piece = record { kind = kind; prefix = prefix; body = formula_body prefix piece }

-- the body is true for every choice of so many nodes, repeats allowed
abbrev pub HoldsForAll : ℕ → Cells → ℕ → Term → Type 0
HoldsForAll N cells count body = (ns : List ℕ) → length ns ≡ count → AreNodes N ns → IsTrue (holds N cells ns body)

-- the body for a choice of window nodes: variable k stands for window node k + 1
abbrev pub instance : ℕ → Term → List ℕ → Term
instance window body ns = placed window (map (λ n. t.Var (n - 1)) ns) body

-- the body for each choice of window nodes for its prefix, the first variable slowest
abbrev pub instances : ℕ → ℕ → Term → List Term
instances window prefix body = map (instance window body) (choices window prefix)
