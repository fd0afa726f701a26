-- The free variables of a term, how deep its quantifiers nest, and whether its reads fit a machine.
use Rattle.std.specs.Prelude.{ℕ, suc, ◌-◌, max, Bool, true, false, ◌&&◌, nat_eq, List, slice_get}
use Rattle.std.specs.Option.{option_map_or}
use Rattle.term_core.specs.declared.value.Value.{Value}
use Rattle.term_core.specs.declared.value.Value.TheVariants.{Node}
use Rattle.term_core.specs.declared.machine.CellFamily.{CellFamily}
use Rattle.term_core.specs.declared.term.Term as t
use Rattle.term_core.specs.declared.term.Term.{Term, Row_of-Term, end_of-Term, more_of-Term}
use Rattle.term_core.specs.Forms.{NotForm, IfForm, SameForm, LessForm, ArithForm, QuantifiedForm}

unfoldable mutual
  -- how many variables a frame has to bind for a term, so that all its free variables are below this
  -- number and no smaller one: a quantifier binds the next variable
  pub free_variables : Term → ℕ
  free_variables (t.Known value) = 0
  free_variables (t.Var k) = suc k
  free_variables (t.Read' family _ at) = row_variables at
  free_variables (NotForm body) = free_variables body
  free_variables (t.And' _ parts) = row_variables parts
  free_variables (t.Or' _ parts) = row_variables parts
  free_variables (IfForm test then' else') = max (free_variables test) (max (free_variables then') (free_variables else'))
  free_variables (SameForm left right) = max (free_variables left) (free_variables right)
  free_variables (LessForm left right) = max (free_variables left) (free_variables right)
  free_variables (ArithForm op left right) = max (free_variables left) (free_variables right)
  free_variables (QuantifiedForm all body) = free_variables body - 1

  pub row_variables : {n : _} → Row_of-Term n → ℕ
  row_variables end_of-Term = 0
  row_variables (more_of-Term first rest) = max (free_variables first) (row_variables rest)

unfoldable mutual
  -- how deep the quantifiers of a term nest
  pub nesting : Term → ℕ
  nesting (t.Known value) = 0
  nesting (t.Var k) = 0
  nesting (t.Read' family _ at) = row_nesting at
  nesting (NotForm body) = nesting body
  nesting (t.And' _ parts) = row_nesting parts
  nesting (t.Or' _ parts) = row_nesting parts
  nesting (IfForm test then' else') = max (nesting test) (max (nesting then') (nesting else'))
  nesting (SameForm left right) = max (nesting left) (nesting right)
  nesting (LessForm left right) = max (nesting left) (nesting right)
  nesting (ArithForm op left right) = max (nesting left) (nesting right)
  nesting (QuantifiedForm all body) = suc (nesting body)

  pub row_nesting : {n : _} → Row_of-Term n → ℕ
  row_nesting end_of-Term = 0
  row_nesting (more_of-Term first rest) = max (nesting first) (row_nesting rest)

abbrev pub is_no_node : Value → Bool
is_no_node (Node n) = false
is_no_node _ = true

-- whether a family of this number has so many axes
abbrev pub has_axes : List CellFamily → ℕ → ℕ → Bool
has_axes families f count = option_map_or (λ family. nat_eq count family.axes) (slice_get families f) false

unfoldable mutual
  -- whether each cell that a term reads is named by a family of the machine, with one index for each of
  -- its axes, and no constant of the term is a node
  pub fits : List CellFamily → Term → Bool
  fits families (t.Known value) = is_no_node value
  fits families (t.Var k) = true
  fits families (t.Read' family _ at) = has_axes families family (row_count at) && row_fits families at
  fits families (NotForm body) = fits families body
  fits families (t.And' _ parts) = row_fits families parts
  fits families (t.Or' _ parts) = row_fits families parts
  fits families (IfForm test then' else') = fits families test && (fits families then' && fits families else')
  fits families (SameForm left right) = fits families left && fits families right
  fits families (LessForm left right) = fits families left && fits families right
  fits families (ArithForm op left right) = fits families left && fits families right
  fits families (QuantifiedForm all body) = fits families body

  pub row_fits : {n : _} → List CellFamily → Row_of-Term n → Bool
  row_fits families end_of-Term = true
  row_fits families (more_of-Term first rest) = fits families first && row_fits families rest

  pub row_count : {n : _} → Row_of-Term n → ℕ
  row_count end_of-Term = 0
  row_count (more_of-Term first rest) = suc (row_count rest)
