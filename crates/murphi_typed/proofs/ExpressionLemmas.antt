-- Well-typed expressions, one case for each form.
use Rattle.std.proofs.Common.{◌≡◌, ℕ, Bool, true, false, ◌&&◌, [], ◌++◌, Option, None, Some, refl, sym, ap, ◌∙◌, subst, append-nil}
use Rattle.std.specs.Prelude.{if◌then◌else◌, slice_get, option_map, option_and_then, pos, is_some}
use Rattle.std.proofs.lemmas.Bool.{and_parts}
use Rattle.term_core.specs.declared.value.Value.{Value}
use Rattle.term_core.specs.declared.value.Value.TheVariants as value
use Rattle.term_core.specs.declared.value.ArithOp.TheVariants as operation
use Rattle.term_core.specs.Values.{truth}
use Rattle.murphi_ast.specs.declared.token.Span.{Span}
use Rattle.murphi_ast.specs.declared.expr.CompareOp.TheVariants as compare
use Rattle.murphi_typed.specs.declared.types.Simple.{Simple}
use Rattle.murphi_typed.specs.declared.types.Simple.TheVariants as simple
use Rattle.murphi_typed.specs.declared.types.AnyType as t
use Rattle.murphi_typed.specs.declared.types.AnyType.{AnyType}
use Rattle.murphi_typed.specs.declared.expr.Expr as x
use Rattle.murphi_typed.specs.declared.expr.Expr.{Expr, end_of-Expr, more_of-Expr, Row_of-Link, end_of-Link, more_of-Link}
use Rattle.murphi_typed.specs.declared.expr.Designator as d
use Rattle.murphi_typed.specs.declared.expr.Designator.{Designator}
use Rattle.murphi_typed.specs.declared.protocol.Routine.{Routine}
use Rattle.murphi_typed.specs.Forms.{NotForm, MinusForm, CompareForm, ImpliesForm, ChoiceForm, QuantifiedForm}
use Rattle.murphi_typed.specs.Values.{is_value, may_hold}
use Rattle.murphi_typed.specs.Families.{leaf_at}
use Rattle.murphi_typed.specs.Store.{Place, Cells, cell_at}
use Rattle.murphi_typed.specs.Outcome.{Outcome, Got, Fault, given, or_fault}
use Rattle.murphi_typed.specs.Expressions.{Scene, Left, Calls, as_truth, calculated, joined, defined, row_path, value_of, chain_value, place_of, arguments_of}
use Rattle.murphi_typed.specs.WellTyped.{Scope, numbers, widened, is_simple_type, root_type, simple_part, is_of, only_if, operand_type, comparable, type_of, chain_type, place_type, selected_type, arguments_fit}
use Rattle.murphi_typed.specs.Keeping.{Declared, AreKept, HasType, SceneFits, RootsFine, BoundFits, ResultsFit}
use Rattle.murphi_typed.proofs.TestLemmas.{simples_true}
use Rattle.murphi_typed.proofs.LeafLemmas.{some_same, not_some, selected_leaf, selected_root}
use Rattle.murphi_typed.proofs.KeepLemmas.{IfGot, if_given, if_after, place_has}
use Rattle.murphi_typed.proofs.ClearLemmas.{leaf_fine}
use Rattle.murphi_typed.proofs.ValueLemmas.{widened_value, defined_typed, calculated_typed, joined_typed, only_some, known_typed}

if_facts : (N : ℕ) (s : Simple) (o : Outcome Left) → ((left : Left) (v : Value) → o ≡ Got left → left.result ≡ Some v → is_value N s v ≡ true) → IfGot (λ left. (v : Value) → left.result ≡ Some v → is_value N s v ≡ true) o
if_facts N s (Got left) facts = λ v has. facts left v refl has
if_facts N s (Fault at) facts = tt

pub got_facts : (N : ℕ) (s : Simple) (o : Outcome Value) (v : Value) → IfGot (λ v. is_value N s v ≡ true) o → o ≡ Got v → is_value N s v ≡ true
got_facts N s o v fact is = subst (λ p. IfGot (λ v. is_value N s v ≡ true) p) is fact

simple_found : (o : Option AnyType) (s : Simple) → simple_part o ≡ Some s → o ≡ Some (t.Simple s)
simple_found None s e = absurd (not_some e)
simple_found (Some (t.Simple type)) s e = ap (λ u. Some (t.Simple u)) (some_same e)
simple_found (Some (t.Record' _ fields)) s e = absurd (not_some e)
simple_found (Some (t.Array' _ _ item)) s e = absurd (not_some e)

widened_some : (o : Option Simple) (s : Simple) → option_map widened o ≡ Some s → (u : Simple) × (o ≡ Some u) × (widened u ≡ s)
widened_some None s e = absurd (not_some e)
widened_some (Some u) s e = (u, refl, some_same e)

of_type : (left right : Option Simple) (s : Simple) → comparable compare.Equal left right ≡ true → left ≡ Some s → right ≡ Some s
of_type None right s e is = absurd (not_some is)
of_type (Some u) None s e is = cc
of_type (Some u) (Some w) s e is = ap Some (sym (simples_true u w e)) ∙ is

module _ (types : Declared) (calls : Calls) (scope : Scope) (scene : Scene) (at : Span) (cells : Cells) (fits : SceneFits types scope scene) (fine : RootsFine scope) (bound : BoundFits scope scene) (results : ResultsFit scope calls) (kept : AreKept scene.nodes types cells) where
  abbrev Valued : Simple → Outcome Value → Type 0
  Valued s o = IfGot (λ v. is_value scene.nodes s v ≡ true) o

  place_fine : (place : Designator) (s : Simple) → place_type scope place ≡ Some (t.Simple s) → is_simple_type scope.kinds s ≡ true
  unfolding type_of leaf_at
  place_fine (d.Of' root _ selectors from) s e =
      let (T, rooted) = selected_root scope (root_type scope root) (t.Simple s) selectors e in
      leaf_fine scope.kinds T (fine root T rooted) (row_path selectors ++ []) s (selected_leaf scope T (t.Simple s) selectors (subst (λ o. selected_type scope o selectors ≡ Some (t.Simple s)) rooted e) [])

  cell_typed : (p : Place) (s : Simple) → HasType types p (t.Simple s) → may_hold scene.nodes s (cell_at cells p) ≡ true
  unfolding leaf_at
  cell_typed p s has =
      let (T, declared, leads) = has in
      subst (λ path. may_hold scene.nodes s (cells p.owner path p.at) ≡ true) (append-nil p.path) (kept p.owner T declared (p.path ++ []) s (leads []) p.at)

  read_typed : (place : Designator) (s : Simple) → option_map widened (simple_part (place_type scope place)) ≡ Some s → Valued s (given (place_of calls scene at cells place) (λ p. defined at (cell_at cells p)))
  read_typed place s e =
      let (u, found, wide) = widened_some (simple_part (place_type scope place)) s e in
      let is : place_type scope place ≡ Some (t.Simple u) = simple_found (place_type scope place) u found in
      if_given (λ p. HasType types p (t.Simple u)) (λ v. is_value scene.nodes s v ≡ true) (place_of calls scene at cells place) _ (place_has types calls scope scene at cells place (t.Simple u) fits is)
      (λ p has. wider u wide (place_fine place u is) (defined at (cell_at cells p)) (defined_typed scene.nodes at u (cell_at cells p) (cell_typed p u has)))
    where
      wider : (u : Simple) → widened u ≡ s → is_simple_type scope.kinds u ≡ true → (o : Outcome Value) → Valued u o → Valued s o
      wider u wide simple_fine (Fault place') v = tt
      wider u wide simple_fine (Got v) is = ap (λ w. is_value scene.nodes w v) (sym wide) ∙ widened_value scene.nodes scope.kinds u v simple_fine is

  bound_typed : (k : ℕ) (s : Simple) → option_map widened (slice_get scope.bound k) ≡ Some s → Valued s (or_fault at (slice_get scene.bound k))
  bound_typed k s e =
      let (u, found, wide) = widened_some (slice_get scope.bound k) s e in
      go u found wide (slice_get scene.bound k) refl
    where
      go : (u : Simple) → slice_get scope.bound k ≡ Some u → widened u ≡ s → (o : Option Value) → slice_get scene.bound k ≡ o → Valued s (or_fault at o)
      go u found wide None there = tt
      go u found wide (Some v) there =
          let (is, simple_fine) = bound k u v found there in
          ap (λ w. is_value scene.nodes w v) (sym wide) ∙ widened_value scene.nodes scope.kinds u v simple_fine is

  call_typed : (k : ℕ) (args : _) (s : Simple) → option_and_then (λ r. only_if (arguments_fit scope r.formals args) (option_map widened r.result)) (slice_get scope.routines k) ≡ Some s → Valued s (given (arguments_of calls scene at cells args) (λ gs. given (calls k scene at gs cells) (λ left. or_fault at left.result)))
  call_typed k args s e = go (slice_get scope.routines k) refl e
    where
      ended : (r : Routine) (u : Simple) → slice_get scope.routines k ≡ Some r → r.result ≡ Some u → widened u ≡ s → Valued s (given (arguments_of calls scene at cells args) (λ gs. given (calls k scene at gs cells) (λ left. or_fault at left.result)))
      ended r u found is wide =
          let (simple_fine, valued) = results k r u found is in
          if_after (λ v. is_value scene.nodes s v ≡ true) (arguments_of calls scene at cells args) _
          (λ gs. if_given (λ left. (v : Value) → left.result ≡ Some v → is_value scene.nodes u v ≡ true) (λ v. is_value scene.nodes s v ≡ true) (calls k scene at gs cells) _ (if_facts scene.nodes u (calls k scene at gs cells) (valued scene at gs cells))
          (λ left has. left_typed left.result has simple_fine))
        where
          left_typed : (o : Option Value) → ((v : Value) → o ≡ Some v → is_value scene.nodes u v ≡ true) → is_simple_type scope.kinds u ≡ true → Valued s (or_fault at o)
          left_typed None has simple_fine = tt
          left_typed (Some v) has simple_fine = ap (λ w. is_value scene.nodes w v) (sym wide) ∙ widened_value scene.nodes scope.kinds u v simple_fine (has v refl)

      fit : (r : Routine) → slice_get scope.routines k ≡ Some r → (b : Bool) → only_if b (option_map widened r.result) ≡ Some s → Valued s (given (arguments_of calls scene at cells args) (λ gs. given (calls k scene at gs cells) (λ left. or_fault at left.result)))
      fit r found false e = absurd (not_some e)
      fit r found true e = let (u, is, wide) = widened_some r.result s e in ended r u found is wide

      go : (o : Option Routine) → slice_get scope.routines k ≡ o → option_and_then (λ r. only_if (arguments_fit scope r.formals args) (option_map widened r.result)) o ≡ Some s → Valued s (given (arguments_of calls scene at cells args) (λ gs. given (calls k scene at gs cells) (λ left. or_fault at left.result)))
      go None found e = absurd (not_some e)
      go (Some r) found e = fit r found (arguments_fit scope r.formals args) e

  -- a truth value
  true_typed : (b : Bool) (s : Simple) → only_if b (Some simple.Truth) ≡ Some s → (o : Outcome Value) → Valued simple.Truth o → Valued s o
  true_typed b s e o v = subst (λ u. Valued u o) (only_some b simple.Truth s e) v

  none_chain : {n : _} (rest : Row_of-Link n) → chain_type scope None rest ≡ None
  unfolding type_of
  none_chain end_of-Link = refl
  none_chain (more_of-Link op operand rest) = none_chain rest

  mutual
    unfolding value_of type_of

    pub value_typed : (e : Expr) (s : Simple) → type_of scope e ≡ Some s → Valued s (value_of calls scene at cells e)
    value_typed (x.Known v) s e = known_typed scene.nodes scope.kinds v s e
    value_typed (x.Bound k) s e = bound_typed k s e
    value_typed (x.Read place) s e = read_typed place s e
    value_typed (x.Call k args from) s e = call_typed k args s e
    value_typed (NotForm body) s e = true_typed (is_of simple.Truth (type_of scope body)) s e _ (if_after (λ v. is_value scene.nodes simple.Truth v ≡ true) (value_of calls scene at cells body) _ (λ v. refl))
    value_typed (MinusForm body) s e = subst (λ u. Valued u (given (value_of calls scene at cells body) (calculated at operation.Subtract (value.Number (pos 0))))) (only_some (is_of numbers (type_of scope body)) numbers s e) (if_after (λ v. is_value scene.nodes numbers v ≡ true) (value_of calls scene at cells body) _ (λ v. calculated_typed scene.nodes at operation.Subtract (value.Number (pos 0)) v))
    value_typed (x.Chain' _ (more_of-Expr first end_of-Expr) _ rest) s e = go (type_of scope first) refl e (value_typed first) (λ v u is e. chain_typed v u rest s is e)
      where
        go : (o : Option Simple) → type_of scope first ≡ o → chain_type scope o rest ≡ Some s → ((u : Simple) → type_of scope first ≡ Some u → Valued u (value_of calls scene at cells first)) → ((v : Value) (u : Simple) → is_value scene.nodes u v ≡ true → chain_type scope (Some u) rest ≡ Some s → Valued s (chain_value calls scene at cells v rest)) → Valued s (given (value_of calls scene at cells first) (λ v. chain_value calls scene at cells v rest))
        go None was e more on = absurd (not_some (sym (none_chain rest) ∙ e))
        go (Some u) was e more on = if_given (λ v. is_value scene.nodes u v ≡ true) (λ v. is_value scene.nodes s v ≡ true) (value_of calls scene at cells first) _ (more u was) (λ v is. on v u is e)
    value_typed (CompareForm op left right) s e = true_typed (comparable op (type_of scope left) (type_of scope right)) s e _ (if_after (λ v. is_value scene.nodes simple.Truth v ≡ true) (value_of calls scene at cells left) _ (λ v. if_after (λ v. is_value scene.nodes simple.Truth v ≡ true) (value_of calls scene at cells right) _ (λ w. refl)))
    value_typed (ImpliesForm left right) s e = true_typed (is_of simple.Truth (type_of scope left) && is_of simple.Truth (type_of scope right)) s e _ (if_after (λ v. is_value scene.nodes simple.Truth v ≡ true) (value_of calls scene at cells left) _ (λ v. go (truth v)))
      where
        go : (b : Bool) → Valued simple.Truth (if b then given (value_of calls scene at cells right) (λ w. Got (as_truth w)) else Got (value.Truth true))
        go true = if_after (λ v. is_value scene.nodes simple.Truth v ≡ true) (value_of calls scene at cells right) (λ w. Got (as_truth w)) (λ w. refl)
        go false = refl
    value_typed (ChoiceForm test a b) s e = go (is_of simple.Truth (type_of scope test) && comparable compare.Equal (type_of scope a) (type_of scope b)) refl e (value_typed a s) (value_typed b s)
      where
        pick : (c : Bool) → Valued s (value_of calls scene at cells a) → Valued s (value_of calls scene at cells b) → Valued s (if c then value_of calls scene at cells a else value_of calls scene at cells b)
        pick true first second = first
        pick false first second = second

        go : (c : Bool) → (is_of simple.Truth (type_of scope test) && comparable compare.Equal (type_of scope a) (type_of scope b)) ≡ c → only_if c (type_of scope a) ≡ Some s → (type_of scope a ≡ Some s → Valued s (value_of calls scene at cells a)) → (type_of scope b ≡ Some s → Valued s (value_of calls scene at cells b)) → Valued s (given (value_of calls scene at cells test) (λ v. if truth v then value_of calls scene at cells a else value_of calls scene at cells b))
        go false was e first second = absurd (not_some e)
        go true was e first second =
            let (is_test, alike) = and_parts (is_of simple.Truth (type_of scope test)) (comparable compare.Equal (type_of scope a) (type_of scope b)) was in
            if_after (λ v. is_value scene.nodes s v ≡ true) (value_of calls scene at cells test) _ (λ v. pick (truth v) (first e) (second (of_type (type_of scope a) (type_of scope b) s alike e)))
    value_typed (QuantifiedForm all over body) s e = true_typed _ s e _ (if_after (λ v. is_value scene.nodes simple.Truth v ≡ true) _ (λ b. Got (value.Truth b)) (λ b. refl))
    value_typed (x.IsUndefined place) s e = true_typed (is_some (simple_part (place_type scope place))) s e _ (if_after (λ v. is_value scene.nodes simple.Truth v ≡ true) (place_of calls scene at cells place) _ (λ p. refl))

    chain_typed : {n : _} (left : Value) (u : Simple) (rest : Row_of-Link n) (s : Simple) → is_value scene.nodes u left ≡ true → chain_type scope (Some u) rest ≡ Some s → Valued s (chain_value calls scene at cells left rest)
    chain_typed left u end_of-Link s is e = ap (λ w. is_value scene.nodes w left) (sym (some_same e)) ∙ is
    chain_typed left u (more_of-Link op operand rest) s is e = go (is_of (operand_type op) (Some u) && is_of (operand_type op) (type_of scope operand)) e (λ v now e. chain_typed v (operand_type op) rest s now e)
      where
        go : (b : Bool) → chain_type scope (only_if b (Some (operand_type op))) rest ≡ Some s → ((v : Value) → is_value scene.nodes (operand_type op) v ≡ true → chain_type scope (Some (operand_type op)) rest ≡ Some s → Valued s (chain_value calls scene at cells v rest)) → Valued s (given (joined at op left (value_of calls scene at cells operand)) (λ v. chain_value calls scene at cells v rest))
        go false e more = absurd (not_some (sym (none_chain rest) ∙ e))
        go true e more = if_given (λ v. is_value scene.nodes (operand_type op) v ≡ true) (λ v. is_value scene.nodes s v ≡ true) (joined at op left (value_of calls scene at cells operand)) _ (joined_typed scene.nodes at op left (value_of calls scene at cells operand)) (λ v now. more v now e)
