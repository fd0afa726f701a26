-- Typing of expressions and types leaves globals and routines as they are, and adds kinds behind those that are there.
use Rattle.std.proofs.Common.{◌≡◌, ℕ, zero, suc, Bool, true, false, List, [], ◌∷◌, ◌++◌, Option, None, Some, refl, sym, subst, ◌∙◌}
use Rattle.std.specs.Prelude.{ℤ, pos, negsuc, if◌then◌else◌, slice_get}
use Rattle.murphi_ast.specs.declared.token.Span.{Span}
use Rattle.murphi_ast.specs.declared.expr.Expr as e
use Rattle.murphi_ast.specs.declared.expr.Expr.{Expr, Row_of-Expr, end_of-Expr, more_of-Expr, Row_of-Link, end_of-Link, more_of-Link, Row_of-Selector, end_of-Selector, more_of-Selector}
use Rattle.murphi_ast.specs.declared.expr.Selector as part
use Rattle.murphi_ast.specs.declared.expr.TypeExpr as w
use Rattle.murphi_ast.specs.declared.expr.TypeExpr.{TypeExpr, Row_of-FieldDecl, end_of-FieldDecl, more_of-FieldDecl}
use Rattle.murphi_ast.specs.Forms.{NotForm, CompareForm, ImpliesForm}
use Rattle.murphi_typed.specs.declared.types.Simple.{Simple}
use Rattle.murphi_typed.specs.declared.types.AnyType.{AnyType}
use Rattle.murphi_typed.specs.declared.protocol.Formal.{Formal}
use Rattle.murphi_typed.specs.declared.protocol.Routine.{Routine}
use Rattle.murphi_typed.specs.declared.protocol.Variable.{Variable}
use Rattle.murphi_typed.specs.WellTyped.{first_of, rest_of}
use Rattle.murphi_types.specs.declared.scope.Known.{Known}
use Rattle.murphi_types.specs.declared.scope.Scope.{Scope}
use Rattle.murphi_types.specs.Forms.{MinusForm, ChoiceForm, QuantifiedForm, RangeForm, ScalarsetForm, ArrayForm}
use Rattle.murphi_types.specs.Places.{type_place_of}
use Rattle.murphi_types.specs.Scopes.{looked, binding}
use Rattle.murphi_types.specs.Fitting.{simple_part}
use Rattle.murphi_types.specs.Found.{Found}
use Rattle.murphi_types.specs.Designators.{FoundPlace, start_type, place_made, field_chosen}
use Rattle.murphi_types.specs.Calls.{callee_of, formals_of, placed, handed, copied, valued}
use Rattle.murphi_types.specs.Types.{Naming, Unnamed, As, AsNodes, scalarset_type, simple_wanted}
use Rattle.murphi_types.specs.Typing.{found, chain_operands, links_found, selectors_found, arguments_found, type_found, fields_found}

-- each place of the one list is that of the other
abbrev pub Held : {A : Type 0} → List A → List A → Type 0
Held {A} few many = (i : ℕ) (x : A) → slice_get few i ≡ Some x → slice_get many i ≡ Some x

abbrev pub lasting : Known → List Variable × List Routine
lasting k = (k.globals, k.routines)

pub record Grown (k l : Known) : Type 0 where
  pub lasts : lasting l ≡ lasting k
  pub kinds : Held k.kinds l.kinds

pub still : (k : Known) → Grown k k
still k = record { lasts = refl; kinds = λ i x e. e }

pub next : {k l m : Known} → Grown k l → Grown l m → Grown k m
next f g = record { lasts = g.lasts ∙ f.lasts; kinds = λ i x e. g.kinds i x (f.kinds i x e) }

pub held-more : {A : Type 0} (xs ys : List A) → Held xs (xs ++ ys)
held-more [] ys i x e = cc
held-more (z ∷ xs) ys zero x e = e
held-more (z ∷ xs) ys (suc i) x e = held-more xs ys i x e

pub placed-known : (o : Option Formal) (p : FoundPlace) → (placed o p).known ≡ p.known
placed-known None p = refl
placed-known (Some f) p = go f.by_place
  where
    go : (b : Bool) → (if b then handed f p else copied (Some f) p).known ≡ p.known
    go true = refl
    go false = refl

pub valued-known : (at place : Span) (o : Option Formal) (f : Found) → (valued at place o f).known ≡ f.known
valued-known at place None f = refl
valued-known at place (Some formal) f = refl

pub placed-grown : (k : Known) (o : Option Formal) (p : FoundPlace) → Grown k p.known → Grown k (placed o p).known
placed-grown k o p h = subst (Grown k) (sym (placed-known o p)) h

pub valued-grown : (k : Known) (at place : Span) (o : Option Formal) (f : Found) → Grown k f.known → Grown k (valued at place o f).known
valued-grown k at place o f h = subst (Grown k) (sym (valued-known at place o f)) h

pub scalarset-grown : (n : Naming) (at : Span) (k : Known) (z : Option ℤ) → Grown k (scalarset_type n at k z).known
scalarset-grown n at k None = still k
scalarset-grown n at k (Some (negsuc m)) = still k
scalarset-grown n at k (Some (pos zero)) = still k
scalarset-grown Unnamed at k (Some (pos (suc m))) = record { lasts = refl; kinds = held-more k.kinds _ }
scalarset-grown (As name) at k (Some (pos (suc m))) = record { lasts = refl; kinds = held-more k.kinds _ }
scalarset-grown AsNodes at k (Some (pos (suc m))) = still k

mutual
  unfolding found

  pub found-grown : (s : Scope) (k : Known) (e : Expr) → Grown k (found s k e).known
  found-grown s k (e.Number n p) = still k
  found-grown s k (e.Truth b p) = still k
  found-grown s k (e.Place' root u row) = selectors-grown s k root.at (start_type root.at (looked s k root.name)).type row
  found-grown s k (e.Call' name u row) = arguments-grown s k name.at (formals_of (callee_of s k name (looked s k name.name))) row
  found-grown s k (NotForm body p) = found-grown s k body
  found-grown s k (MinusForm body p) = found-grown s k body
  found-grown s k (e.Chain' u (more_of-Expr first end_of-Expr) v rest) =
      next (found-grown s k first) (links-grown s (found s k first).known (chain_operands rest) rest)
  found-grown s k (CompareForm op left right) = next (found-grown s k left) (found-grown s (found s k left).known right)
  found-grown s k (ImpliesForm left right) = next (found-grown s k left) (found-grown s (found s k left).known right)
  found-grown s k (ChoiceForm a b c) =
      next (found-grown s k a) (next (found-grown s (found s k a).known b) (found-grown s (found s (found s k a).known b).known c))
  found-grown s k (QuantifiedForm all name over body p) =
      next (type-grown s k Unnamed over)
      (found-grown (binding s name.name (simple_part (simple_wanted (type_place_of over) (type_found s k Unnamed over)).type)) (type_found s k Unnamed over).known body)
  found-grown s k (e.IsUndefined' root u row p) = selectors-grown s k root.at (start_type root.at (looked s k root.name)).type row

  pub links-grown : {n : _} (s : Scope) (k : Known) (type : Simple) (row : Row_of-Link n) → Grown k (links_found s k type row).known
  links-grown s k type end_of-Link = still k
  links-grown s k type (more_of-Link op operand rest) = next (found-grown s k operand) (links-grown s (found s k operand).known type rest)

  pub selectors-grown : {n : _} (s : Scope) (k : Known) (at : Span) (of : Option AnyType) (row : Row_of-Selector n) → Grown k (selectors_found s k at of row).known
  selectors-grown s k at of end_of-Selector = still k
  selectors-grown s k at of (more_of-Selector (part.Field name) rest) = selectors-grown s k at (field_chosen at name of).type rest
  selectors-grown s k at of (more_of-Selector (part.Index index) rest) = next (found-grown s k index) (selectors-grown s (found s k index).known at _ rest)

  pub arguments-grown : {n : _} (s : Scope) (k : Known) (at : Span) (formals : List Formal) (row : Row_of-Expr n) → Grown k (arguments_found s k at formals row).known
  arguments-grown s k at formals end_of-Expr = still k
  arguments-grown s k at formals (more_of-Expr (e.Place' root u row) rest) =
      let c = start_type root.at (looked s k root.name) in
      let P = place_made root.at (looked s k root.name) c (selectors_found s k root.at c.type row) in
      next (placed-grown k (first_of formals) P (selectors-grown s k root.at c.type row)) (arguments-grown s (placed (first_of formals) P).known at (rest_of formals) rest)
  arguments-grown s k at formals (more_of-Expr (e.Number n p) rest) = next (valued-grown k at _ (first_of formals) _ (found-grown s k (e.Number n p))) (arguments-grown s _ at (rest_of formals) rest)
  arguments-grown s k at formals (more_of-Expr (e.Truth b p) rest) = next (valued-grown k at _ (first_of formals) _ (found-grown s k (e.Truth b p))) (arguments-grown s _ at (rest_of formals) rest)
  arguments-grown s k at formals (more_of-Expr (e.Call' name u row) rest) = next (valued-grown k at _ (first_of formals) _ (found-grown s k (e.Call' name u row))) (arguments-grown s _ at (rest_of formals) rest)
  arguments-grown s k at formals (more_of-Expr (e.Not' u row p) rest) = next (valued-grown k at _ (first_of formals) _ (found-grown s k (e.Not' u row p))) (arguments-grown s _ at (rest_of formals) rest)
  arguments-grown s k at formals (more_of-Expr (e.Minus' u row p) rest) = next (valued-grown k at _ (first_of formals) _ (found-grown s k (e.Minus' u row p))) (arguments-grown s _ at (rest_of formals) rest)
  arguments-grown s k at formals (more_of-Expr (e.Chain' u row v links) rest) = next (valued-grown k at _ (first_of formals) _ (found-grown s k (e.Chain' u row v links))) (arguments-grown s _ at (rest_of formals) rest)
  arguments-grown s k at formals (more_of-Expr (e.Compare' op u row v right) rest) = next (valued-grown k at _ (first_of formals) _ (found-grown s k (e.Compare' op u row v right))) (arguments-grown s _ at (rest_of formals) rest)
  arguments-grown s k at formals (more_of-Expr (e.Implies' u row v right) rest) = next (valued-grown k at _ (first_of formals) _ (found-grown s k (e.Implies' u row v right))) (arguments-grown s _ at (rest_of formals) rest)
  arguments-grown s k at formals (more_of-Expr (e.Choice' a b c d f g) rest) = next (valued-grown k at _ (first_of formals) _ (found-grown s k (e.Choice' a b c d f g))) (arguments-grown s _ at (rest_of formals) rest)
  arguments-grown s k at formals (more_of-Expr (e.Quantified' all a b c d p) rest) = next (valued-grown k at _ (first_of formals) _ (found-grown s k (e.Quantified' all a b c d p))) (arguments-grown s _ at (rest_of formals) rest)
  arguments-grown s k at formals (more_of-Expr (e.IsUndefined' root u row p) rest) = next (valued-grown k at _ (first_of formals) _ (found-grown s k (e.IsUndefined' root u row p))) (arguments-grown s _ at (rest_of formals) rest)

  pub type-grown : (s : Scope) (k : Known) (n : Naming) (t : TypeExpr) → Grown k (type_found s k n t).known
  type-grown s k n (w.Known name) = still k
  type-grown s k n (w.Truth p) = still k
  type-grown s k n (RangeForm low high) = next (found-grown s k low) (found-grown s (found s k low).known high)
  type-grown s k n (w.Listed names p) = record { lasts = refl; kinds = held-more k.kinds _ }
  type-grown s k n (ScalarsetForm size p) = next (found-grown s k size) (scalarset-grown n p (found s k size).known _)
  type-grown s k n (w.Fields' u fields p) = fields-grown s k fields
  type-grown s k n (ArrayForm index item p) = next (type-grown s k Unnamed index) (type-grown s (type_found s k Unnamed index).known Unnamed item)

  pub fields-grown : {n : _} (s : Scope) (k : Known) (row : Row_of-FieldDecl n) → Grown k (fields_found s k row).known
  fields-grown s k end_of-FieldDecl = still k
  fields-grown s k (more_of-FieldDecl names body rest) = next (type-grown s k Unnamed body) (fields-grown s (type_found s k Unnamed body).known rest)
