-- Expressions and types declare names and kinds, but no globals.
use Rattle.std.proofs.Common.{◌≡◌, ℕ, suc, Bool, true, false, ◌&&◌, List, [], ◌∷◌, Option, None, Some, is_some, refl, ap, sym, ◌∙◌}
use Rattle.std.specs.Prelude.{ℤ, pos, negsuc, zero, if◌then◌else◌}
use Rattle.murphi_ast.specs.declared.token.Span.{Span}
use Rattle.murphi_ast.specs.declared.expr.Expr as e
use Rattle.murphi_ast.specs.declared.expr.Expr.{Expr, Row_of-Expr, end_of-Expr, more_of-Expr, Row_of-Link, end_of-Link, more_of-Link, Row_of-Selector, end_of-Selector, more_of-Selector}
use Rattle.murphi_ast.specs.declared.expr.Selector as part
use Rattle.murphi_ast.specs.declared.expr.TypeExpr as w
use Rattle.murphi_ast.specs.declared.expr.TypeExpr.{TypeExpr, Row_of-FieldDecl, end_of-FieldDecl, more_of-FieldDecl}
use Rattle.murphi_ast.specs.Forms.{NotForm, CompareForm, ImpliesForm}
use Rattle.murphi_typed.specs.declared.types.Simple.{Simple}
use Rattle.murphi_typed.specs.declared.types.AnyType.{AnyType}
use Rattle.murphi_typed.specs.declared.protocol.Formal.{Formal}
use Rattle.murphi_typed.specs.declared.protocol.Variable.{Variable}
use Rattle.murphi_typed.specs.WellTyped.{first_of, rest_of}
use Rattle.murphi_types.specs.declared.scope.Known.{Known}
use Rattle.murphi_types.specs.declared.scope.Scope.{Scope}
use Rattle.murphi_types.specs.Forms.{MinusForm, ChoiceForm, QuantifiedForm, RangeForm, ScalarsetForm, ArrayForm}
use Rattle.murphi_types.specs.Places.{place_of, type_place_of}
use Rattle.murphi_types.specs.Scopes.{looked, binding}
use Rattle.murphi_types.specs.Fitting.{simple_part}
use Rattle.murphi_types.specs.Designators.{FoundPlace, start_type, place_made, field_chosen, index_type, item_chosen}
use Rattle.murphi_types.specs.Calls.{callee_of, formals_of, placed, handed, copied, valued}
use Rattle.murphi_types.specs.Types.{Naming, Unnamed, As, AsNodes, scalarset_type, simple_wanted}
use Rattle.murphi_types.specs.Typing.{found, chain_operands, links_found, selectors_found, arguments_found, type_found, fields_found}

abbrev pub globals_of : Known → List Variable
globals_of k = k.globals

placed-globals : (o : Option Formal) (p : FoundPlace) → globals_of (placed o p).known ≡ globals_of p.known
placed-globals None p = refl
placed-globals (Some f) p = go f.by_place
  where
    go : (b : Bool) → globals_of (if b then handed f p else copied (Some f) p).known ≡ globals_of p.known
    go true = refl
    go false = refl

scalarset-globals : (n : Naming) (at : Span) (k : Known) (z : Option ℤ) → globals_of (scalarset_type n at k z).known ≡ globals_of k
scalarset-globals n at k None = refl
scalarset-globals n at k (Some (negsuc m)) = refl
scalarset-globals n at k (Some (pos zero)) = refl
scalarset-globals Unnamed at k (Some (pos (suc m))) = refl
scalarset-globals (As name) at k (Some (pos (suc m))) = refl
scalarset-globals AsNodes at k (Some (pos (suc m))) = refl

-- any other argument
other : (s : Scope) (k : Known) (at : Span) (o : Option Formal) (first : Expr) → globals_of (found s k first).known ≡ globals_of k → globals_of (valued at (place_of first) o (found s k first)).known ≡ globals_of k
other s k at None first h = h
other s k at (Some f) first h = h

mutual
  unfolding found

  pub found-globals : (s : Scope) (k : Known) (e : Expr) → globals_of (found s k e).known ≡ globals_of k
  found-globals s k (e.Number n p) = refl
  found-globals s k (e.Truth b p) = refl
  found-globals s k (e.Place' root u row) = selectors-globals s k root.at (start_type root.at (looked s k root.name)).type row
  found-globals s k (e.Call' name u row) = arguments-globals s k name.at (formals_of (callee_of s k name (looked s k name.name))) row
  found-globals s k (NotForm body p) = found-globals s k body
  found-globals s k (MinusForm body p) = found-globals s k body
  found-globals s k (e.Chain' u (more_of-Expr first end_of-Expr) v rest) =
      links-globals s (found s k first).known (chain_operands rest) rest ∙ found-globals s k first
  found-globals s k (CompareForm op left right) = found-globals s (found s k left).known right ∙ found-globals s k left
  found-globals s k (ImpliesForm left right) = found-globals s (found s k left).known right ∙ found-globals s k left
  found-globals s k (ChoiceForm a b c) =
      found-globals s (found s (found s k a).known b).known c ∙ found-globals s (found s k a).known b ∙ found-globals s k a
  found-globals s k (QuantifiedForm all name over body p) =
      found-globals (binding s name.name (simple_part (simple_wanted (type_place_of over) (type_found s k Unnamed over)).type)) (type_found s k Unnamed over).known body
      ∙ type-globals s k Unnamed over
  found-globals s k (e.IsUndefined' root u row p) = selectors-globals s k root.at (start_type root.at (looked s k root.name)).type row

  pub links-globals : {n : _} (s : Scope) (k : Known) (type : Simple) (row : Row_of-Link n) → globals_of (links_found s k type row).known ≡ globals_of k
  links-globals s k type end_of-Link = refl
  links-globals s k type (more_of-Link op operand rest) = links-globals s (found s k operand).known type rest ∙ found-globals s k operand

  pub selectors-globals : {n : _} (s : Scope) (k : Known) (at : Span) (of : Option AnyType) (row : Row_of-Selector n) → globals_of (selectors_found s k at of row).known ≡ globals_of k
  selectors-globals s k at of end_of-Selector = refl
  selectors-globals s k at of (more_of-Selector (part.Field name) rest) = selectors-globals s k at (field_chosen at name of).type rest
  selectors-globals s k at of (more_of-Selector (part.Index index) rest) = selectors-globals s (found s k index).known at _ rest ∙ found-globals s k index

  pub arguments-globals : {n : _} (s : Scope) (k : Known) (at : Span) (formals : List Formal) (row : Row_of-Expr n) → globals_of (arguments_found s k at formals row).known ≡ globals_of k
  arguments-globals s k at formals end_of-Expr = refl
  arguments-globals s k at formals (more_of-Expr (e.Place' root u row) rest) =
      let c = start_type root.at (looked s k root.name) in
      let P = place_made root.at (looked s k root.name) c (selectors_found s k root.at c.type row) in
      arguments-globals s (placed (first_of formals) P).known at (rest_of formals) rest ∙ placed-globals (first_of formals) P ∙ selectors-globals s k root.at c.type row
  arguments-globals s k at formals (more_of-Expr (e.Number n p) rest) = arguments-globals s _ at (rest_of formals) rest ∙ other s k at (first_of formals) (e.Number n p) (found-globals s k (e.Number n p))
  arguments-globals s k at formals (more_of-Expr (e.Truth b p) rest) = arguments-globals s _ at (rest_of formals) rest ∙ other s k at (first_of formals) (e.Truth b p) (found-globals s k (e.Truth b p))
  arguments-globals s k at formals (more_of-Expr (e.Call' name u row) rest) = arguments-globals s _ at (rest_of formals) rest ∙ other s k at (first_of formals) (e.Call' name u row) (found-globals s k (e.Call' name u row))
  arguments-globals s k at formals (more_of-Expr (e.Not' u row p) rest) = arguments-globals s _ at (rest_of formals) rest ∙ other s k at (first_of formals) (e.Not' u row p) (found-globals s k (e.Not' u row p))
  arguments-globals s k at formals (more_of-Expr (e.Minus' u row p) rest) = arguments-globals s _ at (rest_of formals) rest ∙ other s k at (first_of formals) (e.Minus' u row p) (found-globals s k (e.Minus' u row p))
  arguments-globals s k at formals (more_of-Expr (e.Chain' u row v links) rest) = arguments-globals s _ at (rest_of formals) rest ∙ other s k at (first_of formals) (e.Chain' u row v links) (found-globals s k (e.Chain' u row v links))
  arguments-globals s k at formals (more_of-Expr (e.Compare' op u row v right) rest) = arguments-globals s _ at (rest_of formals) rest ∙ other s k at (first_of formals) (e.Compare' op u row v right) (found-globals s k (e.Compare' op u row v right))
  arguments-globals s k at formals (more_of-Expr (e.Implies' u row v right) rest) = arguments-globals s _ at (rest_of formals) rest ∙ other s k at (first_of formals) (e.Implies' u row v right) (found-globals s k (e.Implies' u row v right))
  arguments-globals s k at formals (more_of-Expr (e.Choice' a b c d f g) rest) = arguments-globals s _ at (rest_of formals) rest ∙ other s k at (first_of formals) (e.Choice' a b c d f g) (found-globals s k (e.Choice' a b c d f g))
  arguments-globals s k at formals (more_of-Expr (e.Quantified' all a b c d p) rest) = arguments-globals s _ at (rest_of formals) rest ∙ other s k at (first_of formals) (e.Quantified' all a b c d p) (found-globals s k (e.Quantified' all a b c d p))
  arguments-globals s k at formals (more_of-Expr (e.IsUndefined' root u row p) rest) = arguments-globals s _ at (rest_of formals) rest ∙ other s k at (first_of formals) (e.IsUndefined' root u row p) (found-globals s k (e.IsUndefined' root u row p))

  pub type-globals : (s : Scope) (k : Known) (n : Naming) (t : TypeExpr) → globals_of (type_found s k n t).known ≡ globals_of k
  type-globals s k n (w.Known name) = refl
  type-globals s k n (w.Truth p) = refl
  type-globals s k n (RangeForm low high) = found-globals s (found s k low).known high ∙ found-globals s k low
  type-globals s k n (w.Listed names p) = refl
  type-globals s k n (ScalarsetForm size p) = scalarset-globals n p (found s k size).known _ ∙ found-globals s k size
  type-globals s k n (w.Fields' u fields p) = fields-globals s k fields
  type-globals s k n (ArrayForm index item p) = type-globals s (type_found s k Unnamed index).known Unnamed item ∙ type-globals s k Unnamed index

  pub fields-globals : {n : _} (s : Scope) (k : Known) (row : Row_of-FieldDecl n) → globals_of (fields_found s k row).known ≡ globals_of k
  fields-globals s k end_of-FieldDecl = refl
  fields-globals s k (more_of-FieldDecl names body rest) = fields-globals s (type_found s k Unnamed body).known rest ∙ type-globals s k Unnamed body
