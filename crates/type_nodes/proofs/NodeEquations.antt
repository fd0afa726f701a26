-- Sizes as they are written, by the parts that code reads.
use Rattle.std.proofs.Common.{◌≡◌, true, false, [], ◌∷◌, None, Some, refl, ap, sym, ◌∙◌}
use Rattle.std.specs.Prelude.{if◌then◌else◌}
use Rattle.std.specs.Str.{bytes_eq}
use denote.Hole.Carrier.{hidden}
use Rattle.murphi_ast.specs.declared.token.Span.{Span}
use Rattle.murphi_ast.specs.declared.expr.Named.{Named}
use Rattle.murphi_ast.specs.declared.expr.Designator.{Designator}
use Rattle.murphi_ast.specs.declared.expr.Expr as e
use Rattle.murphi_ast.specs.declared.expr.Expr.{Expr, end_of-Selector, more_of-Selector, items-the_row-Selector, items_hidden-the_row-Selector-0}
use Rattle.murphi_ast.specs.declared.expr.TypeExpr as t
use Rattle.murphi_ast.specs.declared.expr.TypeExpr.{TypeExpr}
use Rattle.murphi_ast.specs.declared.expr.Expr.TheBlock.{shape-the_row-Expr-2, hidden-the_row-Expr-2, hidden-the_row-Selector-0}
use Rattle.murphi_typed.specs.Families.{Name}
use Rattle.murphi_types.specs.Texts.{written_size, size_of_type, constant_in}
use Rattle.type_nodes.specs.Sizes.{name_alone, name_of, is_number, size_by}

row-name-is : (root : Named) (shape : _) (row : _) → constant_in (Some (e.Place' root shape row)) ≡ name_alone root.name (items-the_row-Selector _ row)
row-name-is root [] end_of-Selector = refl
row-name-is root (u ∷ us) (more_of-Selector x rest) = refl

pub constant-Place : (d : Designator) → constant_in (Some (e.Place d)) ≡ name_of d
constant-Place d = row-name-is d.root _ (hidden-the_row-Selector-0 d.selectors) ∙ ap (name_alone d.root.name) (items_hidden-the_row-Selector-0 d.selectors)

pub size-Scalarset : (node : Name) (name : Named) (x : Expr) (at : Span) → size_of_type node name (t.Scalarset x at) ≡ (if bytes_eq name.name node then Some x else None)
unfolding shape-the_row-Expr-2 hidden-the_row-Expr-2 hidden
size-Scalarset node name x at = refl

-- the size of a scalarset that has the name of the node type
pub size-found : (node : Name) (name : Named) (body : TypeExpr) (x y : Expr) (at : Span) → body ≡ t.Scalarset x at → bytes_eq name.name node ≡ true → y ≡ x → Some y ≡ size_of_type node name body
size-found node name body x y at is same e =
    ap Some e
    ∙ sym (ap (size_of_type node name) is ∙ size-Scalarset node name x at ∙ ap (λ b. (if b then Some x else None)) same)

-- how a size is written goes by the name that it is
row-size-is : (root : Named) (shape : _) (row : _) → size_by false (constant_in (Some (e.Place' root shape row))) ≡ written_size (e.Place' root shape row)
row-size-is root [] end_of-Selector = refl
row-size-is root (u ∷ us) (more_of-Selector x rest) = refl

pub size-is : (x : Expr) → size_by (is_number x) (constant_in (Some x)) ≡ written_size x
size-is (e.Number n at) = refl
size-is (e.Truth b at) = refl
size-is (e.Place' root shape row) = row-size-is root shape row
size-is (e.Call' name u row) = refl
size-is (e.Not' u row at) = refl
size-is (e.Minus' u row at) = refl
size-is (e.Chain' u row v links) = refl
size-is (e.Compare' op u row v right) = refl
size-is (e.Implies' u row v right) = refl
size-is (e.Choice' a b c d f g) = refl
size-is (e.Quantified' all a b c d at) = refl
size-is (e.IsUndefined' root u row at) = refl

pub ruleset nodes = (constant-Place, size-Scalarset, size-is)
