-- Expressions and types declare names and kinds, but no globals and no routines.
use Rattle.std.proofs.Common.{◌≡◌, ℕ, suc, Bool, true, false, List, Option, None, Some, refl, ◌∙◌}
use Rattle.std.specs.Prelude.{ℤ, pos, negsuc, zero, if◌then◌else◌}
use Rattle.murphi_ast.specs.declared.token.Span.{Span}
use Rattle.murphi_ast.specs.declared.expr.Expr as e
use Rattle.murphi_ast.specs.declared.expr.Expr.{Expr, Row_of-Expr, end_of-Expr, more_of-Expr, Row_of-Link, end_of-Link, more_of-Link, Row_of-Selector, end_of-Selector, more_of-Selector}
use Rattle.murphi_ast.specs.declared.expr.Selector as part
use Rattle.murphi_ast.specs.declared.expr.TypeExpr as w
use Rattle.murphi_ast.specs.declared.expr.TypeExpr.{TypeExpr, Row_of-FieldDecl, end_of-FieldDecl, more_of-FieldDecl}
use Rattle.murphi_ast.specs.Forms.{NotForm, CompareForm, ImpliesForm}
use Rattle.murphi_typed.specs.declared.types.Simple.{Simple}
use Rattle.murphi_typed.specs.declared.types.AnyType.{AnyType}
use Rattle.murphi_typed.specs.declared.protocol.Formal.{Formal}
use Rattle.murphi_typed.specs.declared.protocol.Routine.{Routine}
use Rattle.murphi_typed.specs.declared.protocol.Variable.{Variable}
use Rattle.murphi_typed.specs.WellTyped.{first_of, rest_of}
use Rattle.murphi_types.specs.declared.scope.Known.{Known}
use Rattle.murphi_types.specs.declared.scope.Scope.{Scope}
use Rattle.murphi_types.specs.Forms.{MinusForm, ChoiceForm, QuantifiedForm, RangeForm, ScalarsetForm, ArrayForm}
use Rattle.murphi_types.specs.Places.{place_of, type_place_of}
use Rattle.murphi_types.specs.Scopes.{looked, binding}
use Rattle.murphi_types.specs.Fitting.{simple_part}
use Rattle.murphi_types.specs.Designators.{FoundPlace, start_type, place_made, field_chosen}
use Rattle.murphi_types.specs.Calls.{callee_of, formals_of, placed, handed, copied, valued}
use Rattle.murphi_types.specs.Types.{Naming, Unnamed, As, AsNodes, scalarset_type, simple_wanted}
use Rattle.murphi_types.specs.Typing.{found, chain_operands, links_found, selectors_found, arguments_found, type_found, fields_found}

-- the globals, and the routines with their weights
abbrev pub lasting : Known → List Variable × (List Routine × List ℕ)
lasting k = (k.globals, (k.routines, k.weights))

pub placed-kept : (o : Option Formal) (p : FoundPlace) → lasting (placed o p).known ≡ lasting p.known
placed-kept None p = refl
placed-kept (Some f) p = go f.by_place
  where
    go : (b : Bool) → lasting (if b then handed f p else copied (Some f) p).known ≡ lasting p.known
    go true = refl
    go false = refl

scalarset-kept : (n : Naming) (at : Span) (k : Known) (z : Option ℤ) → lasting (scalarset_type n at k z).known ≡ lasting k
scalarset-kept n at k None = refl
scalarset-kept n at k (Some (negsuc m)) = refl
scalarset-kept n at k (Some (pos zero)) = refl
scalarset-kept Unnamed at k (Some (pos (suc m))) = refl
scalarset-kept (As name) at k (Some (pos (suc m))) = refl
scalarset-kept AsNodes at k (Some (pos (suc m))) = refl

-- any other argument
pub other : (s : Scope) (k : Known) (at : Span) (o : Option Formal) (first : Expr) → lasting (found s k first).known ≡ lasting k → lasting (valued at (place_of first) o (found s k first)).known ≡ lasting k
other s k at None first h = h
other s k at (Some f) first h = h

mutual
  unfolding found

  pub found-kept : (s : Scope) (k : Known) (e : Expr) → lasting (found s k e).known ≡ lasting k
  found-kept s k (e.Number n p) = refl
  found-kept s k (e.Truth b p) = refl
  found-kept s k (e.Place' root u row) = selectors-kept s k root.at (start_type root.at (looked s k root.name)).type row
  found-kept s k (e.Call' name u row) = arguments-kept s k name.at (formals_of (callee_of s k name (looked s k name.name))) row
  found-kept s k (NotForm body p) = found-kept s k body
  found-kept s k (MinusForm body p) = found-kept s k body
  found-kept s k (e.Chain' u (more_of-Expr first end_of-Expr) v rest) =
      links-kept s (found s k first).known (chain_operands rest) rest ∙ found-kept s k first
  found-kept s k (CompareForm op left right) = found-kept s (found s k left).known right ∙ found-kept s k left
  found-kept s k (ImpliesForm left right) = found-kept s (found s k left).known right ∙ found-kept s k left
  found-kept s k (ChoiceForm a b c) =
      found-kept s (found s (found s k a).known b).known c ∙ found-kept s (found s k a).known b ∙ found-kept s k a
  found-kept s k (QuantifiedForm all name over body p) =
      found-kept (binding s name.name (simple_part (simple_wanted (type_place_of over) (type_found s k Unnamed over)).type)) (type_found s k Unnamed over).known body
      ∙ type-kept s k Unnamed over
  found-kept s k (e.IsUndefined' root u row p) = selectors-kept s k root.at (start_type root.at (looked s k root.name)).type row

  pub links-kept : {n : _} (s : Scope) (k : Known) (type : Simple) (row : Row_of-Link n) → lasting (links_found s k type row).known ≡ lasting k
  links-kept s k type end_of-Link = refl
  links-kept s k type (more_of-Link op operand rest) = links-kept s (found s k operand).known type rest ∙ found-kept s k operand

  pub selectors-kept : {n : _} (s : Scope) (k : Known) (at : Span) (of : Option AnyType) (row : Row_of-Selector n) → lasting (selectors_found s k at of row).known ≡ lasting k
  selectors-kept s k at of end_of-Selector = refl
  selectors-kept s k at of (more_of-Selector (part.Field name) rest) = selectors-kept s k at (field_chosen at name of).type rest
  selectors-kept s k at of (more_of-Selector (part.Index index) rest) = selectors-kept s (found s k index).known at _ rest ∙ found-kept s k index

  pub arguments-kept : {n : _} (s : Scope) (k : Known) (at : Span) (formals : List Formal) (row : Row_of-Expr n) → lasting (arguments_found s k at formals row).known ≡ lasting k
  arguments-kept s k at formals end_of-Expr = refl
  arguments-kept s k at formals (more_of-Expr (e.Place' root u row) rest) =
      let c = start_type root.at (looked s k root.name) in
      let P = place_made root.at (looked s k root.name) c (selectors_found s k root.at c.type row) in
      arguments-kept s (placed (first_of formals) P).known at (rest_of formals) rest ∙ placed-kept (first_of formals) P ∙ selectors-kept s k root.at c.type row
  arguments-kept s k at formals (more_of-Expr (e.Number n p) rest) = arguments-kept s _ at (rest_of formals) rest ∙ other s k at (first_of formals) (e.Number n p) (found-kept s k (e.Number n p))
  arguments-kept s k at formals (more_of-Expr (e.Truth b p) rest) = arguments-kept s _ at (rest_of formals) rest ∙ other s k at (first_of formals) (e.Truth b p) (found-kept s k (e.Truth b p))
  arguments-kept s k at formals (more_of-Expr (e.Call' name u row) rest) = arguments-kept s _ at (rest_of formals) rest ∙ other s k at (first_of formals) (e.Call' name u row) (found-kept s k (e.Call' name u row))
  arguments-kept s k at formals (more_of-Expr (e.Not' u row p) rest) = arguments-kept s _ at (rest_of formals) rest ∙ other s k at (first_of formals) (e.Not' u row p) (found-kept s k (e.Not' u row p))
  arguments-kept s k at formals (more_of-Expr (e.Minus' u row p) rest) = arguments-kept s _ at (rest_of formals) rest ∙ other s k at (first_of formals) (e.Minus' u row p) (found-kept s k (e.Minus' u row p))
  arguments-kept s k at formals (more_of-Expr (e.Chain' u row v links) rest) = arguments-kept s _ at (rest_of formals) rest ∙ other s k at (first_of formals) (e.Chain' u row v links) (found-kept s k (e.Chain' u row v links))
  arguments-kept s k at formals (more_of-Expr (e.Compare' op u row v right) rest) = arguments-kept s _ at (rest_of formals) rest ∙ other s k at (first_of formals) (e.Compare' op u row v right) (found-kept s k (e.Compare' op u row v right))
  arguments-kept s k at formals (more_of-Expr (e.Implies' u row v right) rest) = arguments-kept s _ at (rest_of formals) rest ∙ other s k at (first_of formals) (e.Implies' u row v right) (found-kept s k (e.Implies' u row v right))
  arguments-kept s k at formals (more_of-Expr (e.Choice' a b c d f g) rest) = arguments-kept s _ at (rest_of formals) rest ∙ other s k at (first_of formals) (e.Choice' a b c d f g) (found-kept s k (e.Choice' a b c d f g))
  arguments-kept s k at formals (more_of-Expr (e.Quantified' all a b c d p) rest) = arguments-kept s _ at (rest_of formals) rest ∙ other s k at (first_of formals) (e.Quantified' all a b c d p) (found-kept s k (e.Quantified' all a b c d p))
  arguments-kept s k at formals (more_of-Expr (e.IsUndefined' root u row p) rest) = arguments-kept s _ at (rest_of formals) rest ∙ other s k at (first_of formals) (e.IsUndefined' root u row p) (found-kept s k (e.IsUndefined' root u row p))

  pub type-kept : (s : Scope) (k : Known) (n : Naming) (t : TypeExpr) → lasting (type_found s k n t).known ≡ lasting k
  type-kept s k n (w.Known name) = refl
  type-kept s k n (w.Truth p) = refl
  type-kept s k n (RangeForm low high) = found-kept s (found s k low).known high ∙ found-kept s k low
  type-kept s k n (w.Listed names p) = refl
  type-kept s k n (ScalarsetForm size p) = scalarset-kept n p (found s k size).known _ ∙ found-kept s k size
  type-kept s k n (w.Fields' u fields p) = fields-kept s k fields
  type-kept s k n (ArrayForm index item p) = type-kept s (type_found s k Unnamed index).known Unnamed item ∙ type-kept s k Unnamed index

  pub fields-kept : {n : _} (s : Scope) (k : Known) (row : Row_of-FieldDecl n) → lasting (fields_found s k row).known ≡ lasting k
  fields-kept s k end_of-FieldDecl = refl
  fields-kept s k (more_of-FieldDecl names body rest) = fields-kept s (type_found s k Unnamed body).known rest ∙ type-kept s k Unnamed body
