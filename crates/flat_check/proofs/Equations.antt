-- The value of each form of expression, in terms of the parts that code reads.
use Rattle.std.proofs.Common.{◌≡◌, ℕ, Bool, cond, List, [], ◌∷◌, Some, None, refl, ap, ◌∙◌}
use Rattle.murphi_ast.specs.declared.token.Span.{Span}
use Rattle.murphi_ast.specs.declared.expr.CompareOp.{CompareOp}
use Rattle.murphi_ast.specs.declared.expr.Bind.{Bind}
use Rattle.murphi_ast.specs.declared.expr.Named.{Named}
use Rattle.murphi_ast.specs.declared.expr.Designator.{Designator}
use Rattle.murphi_ast.specs.declared.expr.Link.{Link}
use Rattle.murphi_ast.specs.declared.expr.Selector.{Selector}
use Rattle.murphi_ast.specs.declared.expr.Expr as e
use Rattle.murphi_ast.specs.declared.expr.Expr.{Expr, Row_of-Expr, end_of-Expr, more_of-Expr, Row_of-Link, end_of-Link, more_of-Link, end_of-Selector, items-the_row-Link, items_hidden-the_row-Link-3, the_lemmas}
use Rattle.murphi_ast.specs.declared.expr.Expr.TheBlock.{shape-the_row-Expr-2, hidden-the_row-Expr-2, hidden-the_row-Link-3, shape-the_row-Selector-0, hidden-the_row-Selector-0}
use denote.Hole.Carrier.{hidden}
use Rattle.murphi_ast.specs.Forms.{NameForm}
use Rattle.murphi_ast.specs.State.{Name, State, cell_of}
use Rattle.std.specs.Prelude.{option_map}
use Rattle.murphi_ast.specs.Meaning.{Value, value_of, written, row_value, joined, compared, implied, not_value}
use Rattle.flat_check.specs.Walk.{has_no_selectors, links_value}

pub value-Truth : (vs : List Name) (cells : State) (b : Bool) (at : Span) → value_of vs cells (e.Truth b at) ≡ Some b
unfolding value_of
value-Truth vs cells b at = refl

place_is : (vs : List Name) (cells : State) (root : Named) (ss : List Selector) →
    value_of vs cells (e.Place' root (shape-the_row-Selector-0 ss) (hidden-the_row-Selector-0 ss)) ≡ cond (has_no_selectors ss) (cell_of vs cells root.name) None
unfolding value_of shape-the_row-Selector-0 hidden-the_row-Selector-0 hidden
place_is vs cells root [] = refl
place_is vs cells root (s ∷ ss) = refl

pub value-Place : (vs : List Name) (cells : State) (d : Designator) →
    value_of vs cells (e.Place d) ≡ cond (has_no_selectors d.selectors) (cell_of vs cells d.root.name) None
value-Place vs cells d = place_is vs cells d.root d.selectors

pub value-Not : (vs : List Name) (cells : State) (b : Expr) (at : Span) → value_of vs cells (e.Not b at) ≡ not_value (value_of vs cells b)
unfolding value_of shape-the_row-Expr-2 hidden-the_row-Expr-2 hidden
value-Not vs cells b at = refl

pub value-Compare : (vs : List Name) (cells : State) (op : CompareOp) (a b : Expr) →
    value_of vs cells (e.Compare op a b) ≡ compared op (value_of vs cells a) (value_of vs cells b)
unfolding value_of shape-the_row-Expr-2 hidden-the_row-Expr-2 hidden
value-Compare vs cells op a b = refl

pub value-Implies : (vs : List Name) (cells : State) (a b : Expr) →
    value_of vs cells (e.Implies a b) ≡ implied (value_of vs cells a) (value_of vs cells b)
unfolding value_of shape-the_row-Expr-2 hidden-the_row-Expr-2 hidden
value-Implies vs cells a b = refl

row_value_is : {n : _} (vs : List Name) (cells : State) (left : Value) (row : Row_of-Link n) →
    row_value vs cells left row ≡ links_value vs cells left (items-the_row-Link n row)
unfolding row_value
row_value_is vs cells left end_of-Link = refl
row_value_is vs cells left (more_of-Link op operand rest) = row_value_is vs cells (joined op left (value_of vs cells operand)) rest

pub value-Chain : (vs : List Name) (cells : State) (a : Expr) (ls : List Link) →
    value_of vs cells (e.Chain a ls) ≡ links_value vs cells (value_of vs cells a) ls
unfolding value_of shape-the_row-Expr-2 hidden-the_row-Expr-2 hidden
value-Chain vs cells a ls =
    row_value_is vs cells (value_of vs cells a) (hidden-the_row-Link-3 ls) ∙ ap (links_value vs cells (value_of vs cells a)) (items_hidden-the_row-Link-3 ls)

pub value-Number : (vs : List Name) (cells : State) (n : ℕ) (at : Span) → value_of vs cells (e.Number n at) ≡ None
unfolding value_of
value-Number vs cells n at = refl

pub value-Call : (vs : List Name) (cells : State) (name : Named) (args : List Expr) → value_of vs cells (e.Call name args) ≡ None
unfolding value_of
value-Call vs cells name args = refl

pub value-Minus : (vs : List Name) (cells : State) (b : Expr) (at : Span) → value_of vs cells (e.Minus b at) ≡ None
unfolding value_of
value-Minus vs cells b at = refl

pub value-Choice : (vs : List Name) (cells : State) (a b c : Expr) → value_of vs cells (e.Choice a b c) ≡ None
unfolding value_of
value-Choice vs cells a b c = refl

pub value-Quantified : (vs : List Name) (cells : State) (all : Bool) (bind : Bind) (b : Expr) (at : Span) → value_of vs cells (e.Quantified all bind b at) ≡ None
unfolding value_of
value-Quantified vs cells all bind b at = refl

pub value-IsUndefined : (vs : List Name) (cells : State) (d : Designator) (at : Span) → value_of vs cells (e.IsUndefined d at) ≡ None
unfolding value_of
value-IsUndefined vs cells d at = refl

written_place_is : (vs : List Name) (cells : State) (root : Named) (ss : List Selector) →
    written vs cells (e.Place' root (shape-the_row-Selector-0 ss) (hidden-the_row-Selector-0 ss)) ≡ cond (has_no_selectors ss) (Some (cell_of vs cells root.name)) None
unfolding value_of shape-the_row-Selector-0 hidden-the_row-Selector-0 hidden
written_place_is vs cells root [] = refl
written_place_is vs cells root (s ∷ ss) = refl

pub written-Place : (vs : List Name) (cells : State) (d : Designator) →
    written vs cells (e.Place d) ≡ cond (has_no_selectors d.selectors) (Some (cell_of vs cells d.root.name)) None
written-Place vs cells d = written_place_is vs cells d.root d.selectors

-- of anything but a name, an assignment writes the value
pub written_value : (vs : List Name) (cells : State) (value : Expr) → ((d : Designator) → value ≡ e.Place d → ⊥) → written vs cells value ≡ option_map Some (value_of vs cells value)
unfolding value_of shape-the_row-Selector-0 hidden-the_row-Selector-0 hidden
written_value vs cells (NameForm root) h = absurd (h (record { root = root; selectors = [] }) refl)
written_value vs cells _ h = refl

pub ruleset steps = (written-Place, value-Truth, value-Place, value-Not, value-Compare, value-Implies, value-Chain, value-Number, value-Call, value-Minus, value-Choice, value-Quantified, value-IsUndefined, the_lemmas)
