-- A constant declares nothing, and its number is that of the code.
use Rattle.std.proofs.Common.{◌≡◌, ℕ, Bool, true, false, ◌&&◌, ◌||◌, not, List, [], ◌∷◌, ◌++◌, Option, None, Some, is_some, refl, ap, sym, subst, ◌∙◌, true≢false}
use Rattle.std.specs.Prelude.{ℤ, pos, option_map, if◌then◌else◌}
use Rattle.term_core.specs.declared.value.Value.{Value}
use Rattle.term_core.specs.declared.value.Value.TheVariants as value
use Rattle.term_core.specs.declared.value.ArithOp.TheVariants as arith
use Rattle.term_core.specs.Values.{truth}
use Rattle.murphi_ast.specs.declared.token.Span.{Span}
use Rattle.murphi_ast.specs.declared.expr.ChainOp.{ChainOp}
use Rattle.murphi_ast.specs.declared.expr.Expr as e
use Rattle.murphi_ast.specs.declared.expr.Expr.{Expr, end_of-Expr, more_of-Expr, Row_of-Link, end_of-Link, more_of-Link, end_of-Selector, more_of-Selector}
use Rattle.murphi_ast.specs.Forms.{NotForm, CompareForm, ImpliesForm}
use Rattle.murphi_typed.specs.declared.types.Simple.{Simple}
use Rattle.murphi_typed.specs.declared.expr.Expr as x
use Rattle.murphi_typed.specs.declared.expr.Link.{Link}
use Rattle.murphi_typed.specs.WellTyped.{only_if}
use Rattle.murphi_typed.specs.Outcome.{Outcome, Got, Fault, given, or_fault}
use Rattle.murphi_typed.specs.Expressions.{as_truth, compared}
use Rattle.murphi_typed.specs.Expressions as meaning
use Rattle.murphi_types.specs.declared.fault.Cause.TheVariants as cause
use Rattle.murphi_types.specs.declared.scope.Meaning.{Meaning}
use Rattle.murphi_types.specs.declared.scope.Meaning.TheVariants as means
use Rattle.murphi_types.specs.declared.scope.Known.{Known}
use Rattle.murphi_types.specs.declared.scope.Scope.{Scope}
use Rattle.murphi_types.specs.Forms.{MinusForm, ChoiceForm}
use Rattle.murphi_types.specs.Faults.{sooner, first_fault, unless}
use Rattle.murphi_types.specs.Places.{place_of}
use Rattle.murphi_types.specs.Scopes.{looked}
use Rattle.murphi_types.specs.Constants.{is_constant, are_constants, is_constant_name, constant_number}
use Rattle.murphi_types.specs.Constants as constants
use Rattle.murphi_types.specs.Found.{Found}
use Rattle.murphi_types.specs.Designators.{start_type, place_made, no_selectors, read_found}
use Rattle.murphi_types.specs.Types.{number_of, number_found}
use Rattle.murphi_types.specs.Typing.{found, links_found, chain_operands}
use Rattle.type_parts.specs.Folding.{joined, denied, negated, compared_both, implied, picked, folded, folded_links, number_in}
use Rattle.type_parts.specs.declared.judged.JudgedNumber.{JudgedNumber}
use Rattle.type_parts.specs.Judging.{own, judged}
use Rattle.type_parts.proofs.FoldEquations.{folded-Known, folded-Not, folded-Minus, folded-Chain, folded-Compare, folded-Implies, folded-Choice}
use Rattle.type_forms.specs.Writing.{number_judged, judged_number}
use Rattle.type_expressions.specs.PartsGiven.{part_of, number_part}
use Rattle.type_expressions.proofs.PartLemmas.{first-wanted}
use Rattle.type_expressions.proofs.ConstantLemmas.{worth, list_worth, worth-Known, worth-Not, worth-Minus, worth-Chain, worth-Compare, worth-Implies, worth-Choice, calc-is, map-is, joined-is, compared-is, implied-is, picked-is}

abbrev pub IsFolded : Span → Known → Found → Type 0
IsFolded at k f = (f.known ≡ k) × (worth at f.tree ≡ or_fault at (folded f.tree))

left-part : (a b : Bool) → (a && b) ≡ true → a ≡ true
left-part true b h = refl
left-part false b h = h

right-part : (a b : Bool) → (a && b) ≡ true → b ≡ true
right-part true b h = h
right-part false b h = absurd (true≢false (sym h))

known-value : (at : Span) (k : Known) (v : Value) → worth at (x.Known v) ≡ or_fault at (folded (x.Known v))
known-value at k v = worth-Known at v ∙ ap (or_fault at) (sym (folded-Known v))

name-folds : (at p : Span) (k : Known) (what : Option Meaning) → is_constant_name what ≡ true → IsFolded at k (read_found (place_made p what (start_type p what) (no_selectors (start_type p what).type k)))
name-folds at p k (Some (means.Constant n)) h = (refl, known-value at k (value.Number n))
name-folds at p k (Some (means.Member kind index count)) h = (refl, known-value at k (value.Member kind index))
name-folds at p k (Some means.Refused) h = absurd (true≢false (sym h))
name-folds at p k (Some (means.TypeName of)) h = absurd (true≢false (sym h))
name-folds at p k (Some (means.Variable root of)) h = absurd (true≢false (sym h))
name-folds at p k (Some (means.Bound number over)) h = absurd (true≢false (sym h))
name-folds at p k (Some (means.Routine number)) h = absurd (true≢false (sym h))
name-folds at p k None h = absurd (true≢false (sym h))

no-links : (at : Span) (left : Option Value) → given (or_fault at left) (λ v. list_worth at v []) ≡ or_fault at (folded_links left [])
no-links at None = refl
no-links at (Some v) = refl

more-links : (at : Span) (op : ChainOp) (tree : x.Expr) (ls : List Link) (left : Option Value) → worth at tree ≡ or_fault at (folded tree) → ((o : Option Value) → given (or_fault at o) (λ v. list_worth at v ls) ≡ or_fault at (folded_links o ls)) →
    given (or_fault at left) (λ v. list_worth at v (record { op = op; operand = tree } ∷ ls)) ≡ or_fault at (folded_links left (record { op = op; operand = tree } ∷ ls))
more-links at op tree ls None w h = h None
more-links at op tree ls (Some v) w h =
    ap (λ o. given (meaning.joined at op v o) (λ w. list_worth at w ls)) w
    ∙ ap (λ o. given o (λ w. list_worth at w ls)) (joined-is at op v (folded tree))
    ∙ h (joined op v (folded tree))

mutual
  unfolding found is_constant

  pub constant-folds : (at : Span) (s : Scope) (k : Known) (e : Expr) → is_constant s k e ≡ true → IsFolded at k (found s k e)
  constant-folds at s k (e.Number n p) h = (refl, known-value at k (value.Number (pos n)))
  constant-folds at s k (e.Truth b p) h = (refl, known-value at k (value.Truth b))
  constant-folds at s k (e.Place' root [] end_of-Selector) h = name-folds at root.at k (looked s k root.name) h
  constant-folds at s k (e.Place' root (u ∷ us) (more_of-Selector one rest)) h = absurd (true≢false (sym h))
  constant-folds at s k (e.Call' name shape row) h = absurd (true≢false (sym h))
  constant-folds at s k (NotForm body p) h =
      let t = (found s k body).tree in
      let r = constant-folds at s k body h in (
        r.0,
        worth-Not at t ∙ ap (λ o. given o (λ v. Got (value.Truth (not (truth v))))) r.1
            ∙ map-is at (λ v. value.Truth (not (truth v))) (folded t) ∙ ap (or_fault at) (sym (folded-Not t)),
      )
  constant-folds at s k (MinusForm body p) h =
      let t = (found s k body).tree in
      let r = constant-folds at s k body h in (
        r.0,
        worth-Minus at t ∙ ap (λ o. given o (meaning.calculated at arith.Subtract (value.Number (pos 0)))) r.1
            ∙ calc-is at arith.Subtract (value.Number (pos 0)) (folded t) ∙ ap (or_fault at) (sym (folded-Minus t)),
      )
  constant-folds at s k (e.Chain' u (more_of-Expr first end_of-Expr) v rest) h =
      let f = found s k first in
      let type = chain_operands rest in
      let r = constant-folds at s k first (left-part (is_constant s k first) (are_constants s k rest) h) in
      let q = links-fold at s k type rest (right-part (is_constant s k first) (are_constants s k rest) h) in
      let g = links_found s f.known type rest in
      let q' : (g.known ≡ k) × ((o : Option Value) → given (or_fault at o) (λ v. list_worth at v g.trees) ≡ or_fault at (folded_links o g.trees)) =
      subst (λ j. ((links_found s j type rest).known ≡ k) × ((o : Option Value) → given (or_fault at o) (λ v. list_worth at v (links_found s j type rest).trees) ≡ or_fault at (folded_links o (links_found s j type rest).trees))) (sym r.0) q in (
        q'.0,
        worth-Chain at f.tree g.trees ∙ ap (λ o. given o (λ v. list_worth at v g.trees)) r.1 ∙ q'.1 (folded f.tree)
            ∙ ap (or_fault at) (sym (folded-Chain f.tree g.trees)),
      )
  constant-folds at s k (CompareForm op left right) h =
      let a = found s k left in
      let r = constant-folds at s k left (left-part (is_constant s k left) (is_constant s k right) h) in
      let b = found s a.known right in
      let q : IsFolded at k b = subst (λ j. IsFolded at k (found s j right)) (sym r.0) (constant-folds at s k right (right-part (is_constant s k left) (is_constant s k right) h)) in (
        q.0,
        worth-Compare at op a.tree b.tree
            ∙ ap (λ o. given o (λ v. given (worth at b.tree) (λ w. Got (value.Truth (compared op v w))))) r.1
            ∙ ap (λ o. given (or_fault at (folded a.tree)) (λ v. given o (λ w. Got (value.Truth (compared op v w))))) q.1
            ∙ compared-is at op (folded a.tree) (folded b.tree) ∙ ap (or_fault at) (sym (folded-Compare op a.tree b.tree)),
      )
  constant-folds at s k (ImpliesForm left right) h =
      let a = found s k left in
      let r = constant-folds at s k left (left-part (is_constant s k left) (is_constant s k right) h) in
      let b = found s a.known right in
      let q : IsFolded at k b = subst (λ j. IsFolded at k (found s j right)) (sym r.0) (constant-folds at s k right (right-part (is_constant s k left) (is_constant s k right) h)) in (
        q.0,
        worth-Implies at a.tree b.tree
            ∙ ap (λ o. given o (λ v. if truth v then given (worth at b.tree) (λ w. Got (as_truth w)) else Got (value.Truth true))) r.1
            ∙ ap (λ o. given (or_fault at (folded a.tree)) (λ v. if truth v then given o (λ w. Got (as_truth w)) else Got (value.Truth true))) q.1
            ∙ implied-is at (folded a.tree) (folded b.tree) ∙ ap (or_fault at) (sym (folded-Implies a.tree b.tree)),
      )
  constant-folds at s k (ChoiceForm test first second) h =
      let a = found s k test in
      let r = constant-folds at s k test (left-part (is_constant s k test) (is_constant s k first && is_constant s k second) h) in
      let h' = right-part (is_constant s k test) (is_constant s k first && is_constant s k second) h in
      let b = found s a.known first in
      let q : IsFolded at k b = subst (λ j. IsFolded at k (found s j first)) (sym r.0) (constant-folds at s k first (left-part (is_constant s k first) (is_constant s k second) h')) in
      let c = found s b.known second in
      let z : IsFolded at k c = subst (λ j. IsFolded at k (found s j second)) (sym q.0) (constant-folds at s k second (right-part (is_constant s k first) (is_constant s k second) h')) in (
        z.0,
        worth-Choice at a.tree b.tree c.tree
            ∙ ap (λ o. given o (λ v. if truth v then worth at b.tree else worth at c.tree)) r.1
            ∙ ap (λ o. given (or_fault at (folded a.tree)) (λ v. if truth v then o else worth at c.tree)) q.1
            ∙ ap (λ o. given (or_fault at (folded a.tree)) (λ v. if truth v then or_fault at (folded b.tree) else o)) z.1
            ∙ picked-is at (folded a.tree) (folded b.tree) (folded c.tree) ∙ ap (or_fault at) (sym (folded-Choice a.tree b.tree c.tree)),
      )
  constant-folds at s k (e.Quantified' all s1 r1 s2 r2 p) h = absurd (true≢false (sym h))
  constant-folds at s k (e.IsUndefined' root shape row p) h = absurd (true≢false (sym h))

  links-fold : {n : _} (at : Span) (s : Scope) (k : Known) (type : Simple) (row : Row_of-Link n) → are_constants s k row ≡ true → ((links_found s k type row).known ≡ k) × ((o : Option Value) → given (or_fault at o) (λ v. list_worth at v (links_found s k type row).trees) ≡ or_fault at (folded_links o (links_found s k type row).trees))
  links-fold at s k type end_of-Link h = (refl, no-links at)
  links-fold at s k type (more_of-Link op operand rest) h =
      let f = found s k operand in
      let r = constant-folds at s k operand (left-part (is_constant s k operand) (are_constants s k rest) h) in
      let g = links_found s f.known type rest in
      let q : (g.known ≡ k) × ((o : Option Value) → given (or_fault at o) (λ v. list_worth at v g.trees) ≡ or_fault at (folded_links o g.trees)) =
      subst (λ j. ((links_found s j type rest).known ≡ k) × ((o : Option Value) → given (or_fault at o) (λ v. list_worth at v (links_found s j type rest).trees) ≡ or_fault at (folded_links o (links_found s j type rest).trees))) (sym r.0)
      (links-fold at s k type rest (right-part (is_constant s k operand) (are_constants s k rest) h)) in
      (q.0, λ o. more-links at op f.tree g.trees o r.1 q.1)

-- the number that a constant is
outcome-number : (at : Span) (o : Option Value) → constants.number_in (or_fault at o) ≡ number_in o
outcome-number at None = refl
outcome-number at (Some value.Undefined) = refl
outcome-number at (Some (value.Truth b)) = refl
outcome-number at (Some (value.Number z)) = refl
outcome-number at (Some (value.Member kind index)) = refl
outcome-number at (Some (value.Node n)) = refl

number-is : (at : Span) (s : Scope) (k : Known) (e : Expr) (written : Bool) → is_constant s k e ≡ written → number_of written at (found s k e) ≡ only_if (written && is_some (found s k e).type) (number_in (folded (found s k e).tree))
number-is at s k e false h = refl
number-is at s k e true h =
    ap (only_if (is_some (found s k e).type))
    (ap constants.number_in (constant-folds at s k e h).1 ∙ outcome-number at (folded (found s k e).tree))

pub arm-number : (s : Scope) (k : Known) (e : Expr) → number_part (number_found (is_constant s k e) (place_of e) (found s k e)) ≡ number_judged (is_constant s k e) (place_of e) (part_of (found s k e))
unfolding number_part part_of
arm-number s k e =
    let at = place_of e in
    let f = found s k e in
    let n = number-is at s k e (is_constant s k e) refl in
    ap (λ (m : Option ℤ). record { number = m; fault = first_fault (f.faults ++ unless (not (is_some f.type) || is_some m) cause.E08 at) }) n
    ∙ ap (λ o. record { number = only_if (is_constant s k e && is_some f.type) (number_in (folded f.tree)); fault = o })
    (first-wanted f.faults (not (is_some f.type) || is_some (only_if (is_constant s k e && is_some f.type) (number_in (folded f.tree)))) cause.E08 at)
