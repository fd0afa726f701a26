-- Expressions, designators and arguments: where one faults a demand of it is false for some nodes, else its term has
-- its value. What routines do is given.
use Rattle.std.proofs.Common.{◌≡◌, ℕ, Bool, true, false, not, ◌&&◌, ◌||◌, cond, List, [], ◌∷◌, ◌++◌, length, map, reverse, Option, None, Some, refl, sym, ap, ◌∙◌}
use Rattle.std.specs.Prelude.{pos, slice_get, option_map, is_some, if◌then◌else◌}
use Rattle.std.specs.Option.{option_map_or}
use Rattle.std.proofs.lemmas.Bool.{and_parts}
use Rattle.term_core.specs.declared.value.Value.{Value}
use Rattle.term_core.specs.declared.value.Value.TheVariants as v
use Rattle.term_core.specs.declared.value.ArithOp.TheVariants as operation
use Rattle.term_core.specs.declared.term.Term as t
use Rattle.term_core.specs.declared.term.Term.{Term}
use Rattle.term_core.specs.Values.{truth}
use Rattle.term_core.specs.Meaning.{Cells, value_of}
use Rattle.murphi_ast.specs.declared.token.Span.{Span}
use Rattle.murphi_ast.specs.declared.expr.ChainOp.{ChainOp}
use Rattle.murphi_ast.specs.declared.expr.ChainOp.TheVariants as op
use Rattle.murphi_ast.specs.declared.expr.CompareOp.{CompareOp}
use Rattle.murphi_ast.specs.declared.expr.CompareOp.TheVariants as compare
use Rattle.murphi_typed.specs.declared.types.Simple.{Simple}
use Rattle.murphi_typed.specs.declared.types.Simple.TheVariants as simple
use Rattle.murphi_typed.specs.declared.types.AnyType as type
use Rattle.murphi_typed.specs.declared.types.AnyType.{AnyType}
use Rattle.murphi_typed.specs.declared.expr.Expr.{Row_of-Link, end_of-Link, more_of-Link}
use Rattle.murphi_typed.specs.declared.expr.Designator.{Row_of-Selector, end_of-Selector, more_of-Selector}
use Rattle.murphi_typed.specs.declared.expr.Selector as select
use Rattle.murphi_typed.specs.declared.expr.Arguments.{Arguments, Row_of-Argument, more_of-Argument}
use Rattle.murphi_typed.specs.declared.expr.Argument as argument
use Rattle.murphi_typed.specs.declared.protocol.Routine.{Routine}
use Rattle.murphi_typed.specs.declared.protocol.Formal.{Formal as DeclaredFormal}
use Rattle.murphi_typed.specs.Values.{is_value}
use Rattle.murphi_typed.specs.Store.{Contents, Cells as Store}
use Rattle.murphi_typed.specs.Outcome.{Outcome, Got, Fault, given}
use Rattle.murphi_typed.specs.Expressions.{Given, Filled, Standing, Scene, as_truth, calculated, joined, compared, defined, fitting, arguments_of}
use Rattle.murphi_typed.specs.Execution.{simple_type, calls_of}
use Rattle.murphi_typed.specs.WellTyped.{Scope, numbers, widened, simple_part, item_part, is_of, only_if, operand_type, comparable, first_of, rest_of, is_compound, may_write, root_of, place_fits, given_value, given_compound, given_place, type_of, chain_type, selected_type, arguments_fit, row_fits, argument_fits}
use Rattle.murphi_typed.specs.Keeping.{Declared, IsTypedBody}
use Rattle.murphi_typed.specs.declared.protocol.Typed.{Typed}
use Rattle.rule_inline.specs.Demands.{Demand, demand, under_test}
use Rattle.rule_inline.specs.Tables.{Leaving, Result, Terms, Index}
use Rattle.rule_inline.specs.Parts.{Given as Gift, Filled as Filling, Standing as Placing, Site, Valued, Calls as TermCalls, is_defined, index_fits, whole, result_fits, calculated as calculated_term, joined as joined_term, compared as compared_term, after, negated, compared_values, implied, choice, index_over}
use Rattle.rule_inline.proofs.ValueLemmas.{absurd_false}
use Rattle.rule_inline.proofs.TermLemmas.{value-Known, value-Not, value-And, value-Or, value-If, value-Same, value-Less, is_true}
use Rattle.rule_inline.proofs.Outcome.{Either, Tells, tells_given, tells_then, tells_map, tells_test, tells_under, all_beside}
use Rattle.rule_inline.proofs.PlaceLemmas.{Rep, IndexIs, Leads}
use Rattle.rule_inline.proofs.WriteLemmas.{Shows, Spots}
use Rattle.rule_inline.proofs.TypeLemmas.{not_some, some_one, simples_one, of_type, defined_is, index_is, EachValue, index_leads}
use Rattle.rule_inline.proofs.ArithLemmas.{number_value, tells_calculated, Storable}
use Rattle.rule_inline.proofs.SceneLemmas.{Sound, at_frame, Sited}
use Rattle.rule_inline.proofs.QuantifierLemmas.{tells_before, tells_after}

-- Types of parts

pub simple_found : (o : Option AnyType) (s : Simple) → simple_part o ≡ Some s → o ≡ Some (type.Simple s)
simple_found None s e = not_some e
simple_found (Some (type.Simple u)) s e = ap (λ w. Some (type.Simple w)) (some_one e)
simple_found (Some (type.Record' _ fields)) s e = not_some e
simple_found (Some (type.Array' _ _ item)) s e = not_some e

pub found_simple : (o : Option AnyType) → is_some (simple_part o) ≡ true → (s : Simple) × (o ≡ Some (type.Simple s))
found_simple o e = go (simple_part o) refl e
  where
    go : (p : Option Simple) → simple_part o ≡ p → is_some p ≡ true → (s : Simple) × (o ≡ Some (type.Simple s))
    go None was e = absurd_false e
    go (Some s) was e = (s, simple_found o s was)

pub widened_found : (o : Option AnyType) (s : Simple) → option_map widened (simple_part o) ≡ Some s → (u : Simple) × (o ≡ Some (type.Simple u)) × (widened u ≡ s)
widened_found o s e = go (simple_part o) refl e
  where
    go : (p : Option Simple) → simple_part o ≡ p → option_map widened p ≡ Some s → (u : Simple) × (o ≡ Some (type.Simple u)) × (widened u ≡ s)
    go None was e = not_some e
    go (Some u) was e = (u, simple_found o u was, some_one e)

pub bound_found : (o : Option Simple) (s : Simple) → option_map widened o ≡ Some s → (u : Simple) × (o ≡ Some u)
bound_found None s e = not_some e
bound_found (Some u) s e = (u, refl)

pub none_selected : {n : _} (scope : Scope) (rest : Row_of-Selector n) → selected_type scope None rest ≡ None
unfolding type_of
none_selected scope end_of-Selector = refl
none_selected scope (more_of-Selector (select.Field name) rest) = none_selected scope rest
none_selected scope (more_of-Selector (select.Index over index) rest) = ap (λ o. selected_type scope o rest) (go (is_of over (type_of scope index))) ∙ none_selected scope rest
  where
    go : (b : Bool) → only_if b (item_part None over) ≡ None
    go true = refl
    go false = refl

pub none_chain : {n : _} (scope : Scope) (rest : Row_of-Link n) → chain_type scope None rest ≡ None
unfolding type_of
none_chain scope end_of-Link = refl
none_chain scope (more_of-Link by operand rest) = none_chain scope rest

-- the variable of a designator with a type has one
pub rooted : {n : _} (scope : Scope) (o : Option AnyType) (rest : Row_of-Selector n) (U : AnyType) → selected_type scope o rest ≡ Some U → (W : AnyType) × (o ≡ Some W)
rooted scope None rest U e = not_some (sym (none_selected scope rest) ∙ e)
rooted scope (Some W) rest U e = (W, refl)

-- what the operands of a comparison or a condition have in common
pub equal_types : (left right : Option Simple) (s : Simple) → comparable compare.Equal left right ≡ true → left ≡ Some s → right ≡ Some s
equal_types None right s e is = not_some is
equal_types (Some u) None s e is = absurd_false e
equal_types (Some u) (Some w) s e is = ap Some (sym (simples_one u w e)) ∙ is

numbers_of : (left right : Option Simple) → (is_of numbers left && is_of numbers right) ≡ true → (s : Simple) × (u : Simple) × (left ≡ Some s) × (right ≡ Some u)
numbers_of left right e = let (l, r) = and_parts (is_of numbers left) (is_of numbers right) e in (numbers, numbers, of_type numbers left l, of_type numbers right r)

same_types : (left right : Option Simple) → comparable compare.Equal left right ≡ true → (s : Simple) × (u : Simple) × (left ≡ Some s) × (right ≡ Some u)
same_types None right e = absurd_false e
same_types (Some s) right e = (s, s, refl, equal_types (Some s) right s e refl)

other_types : (left right : Option Simple) → comparable compare.NotEqual left right ≡ true → (s : Simple) × (u : Simple) × (left ≡ Some s) × (right ≡ Some u)
other_types None right e = absurd_false e
other_types (Some s) right e = (s, s, refl, equal_types (Some s) right s e refl)

pub comparable_types : (by : CompareOp) (left right : Option Simple) → comparable by left right ≡ true → (s : Simple) × (u : Simple) × (left ≡ Some s) × (right ≡ Some u)
comparable_types compare.Equal left right e = same_types left right e
comparable_types compare.NotEqual left right e = other_types left right e
comparable_types compare.Less left right e = numbers_of left right e
comparable_types compare.LessEqual left right e = numbers_of left right e
comparable_types compare.Greater left right e = numbers_of left right e
comparable_types compare.GreaterEqual left right e = numbers_of left right e

-- a body at a place of its run, with the terms that represent it
pub record Here (s : Cells) (P : Typed) (latest : List Routine) (types : Declared) : Type 0 where
  pub scope : Scope
  pub scene : Scene
  pub fr : List ℕ
  pub site : Site
  pub T : Terms
  pub cells : Store
  pub at : Span
  pub typed : IsTypedBody P latest types scope scene cells
  pub sound : Sound types (calls_of latest) (reverse latest) scope scene cells
  pub sited : Sited s fr site scene
  pub rep : Rep scene.nodes s scene.depth fr T cells

-- an argument as it is given to a formal: what it stands for, and that its value is one that may be stored there
abbrev pub Fitting : ℕ → Cells → List ℕ → Option DeclaredFormal → Bool → Contents → Type 0
Fitting N s fr formal plain contents = (f : DeclaredFormal) (into : Simple) → formal ≡ Some f → simple_type f.of ≡ Some into → Storable N s fr plain into (contents [] [])

abbrev pub ArgIs : ℕ → Cells → ℕ → List ℕ → Option DeclaredFormal → Gift → Given → Type 0
ArgIs N s depth fr formal (Filling mark plain shown) (Filled contents) = Shows N s fr shown contents × Fitting N s fr formal plain contents
ArgIs N s depth fr formal (Filling mark plain shown) (Standing place) = ⊥
ArgIs N s depth fr formal (Placing spot) (Filled contents) = ⊥
ArgIs N s depth fr formal (Placing spot) (Standing place) = Spots N s depth fr spot place

abbrev pub ArgsAre : ℕ → Cells → ℕ → List ℕ → List DeclaredFormal → List Gift → List Given → Type 0
ArgsAre N s depth fr [] [] [] = Unit {0}
ArgsAre N s depth fr (d ∷ ds) (f ∷ fs) (g ∷ gs) = ArgIs N s depth fr (Some d) f g × ArgsAre N s depth fr ds fs gs
ArgsAre N s depth fr _ _ _ = ⊥

-- what is asked of a call of a function with arguments that were worked out
abbrev pub FunctionTells : (s : Cells) (P : Typed) (latest : List Routine) (types : Declared) (tcalls : TermCalls) → Here s P latest types → Type 0
FunctionTells s P latest types tcalls h =
    (k : ℕ) (r : Routine) (u : Simple) (args : Arguments) (gs : List Given) (gifts : List Gift)
    → slice_get (reverse latest) k ≡ Some r → r.result ≡ Some u → arguments_fit h.scope r.formals args ≡ true
    → arguments_of (calls_of latest) h.scene h.at h.cells args ≡ Got gs
    → ArgsAre h.scene.nodes s h.scene.depth h.fr r.formals gifts gs
    → Tells h.scene.nodes s h.fr (calls_of latest k h.scene h.at gs h.cells) ((tcalls k (at_frame h.fr h.site) h.T gifts).demands ++ demand ((tcalls k (at_frame h.fr h.site) h.T gifts).change.now Leaving) ∷ [])
    (λ left. (w : Value) × (left.result ≡ Some w) × (value_of h.scene.nodes s h.fr ((tcalls k (at_frame h.fr h.site) h.T gifts).change.now Result) ≡ w))

pub operand_widened : (by : ChainOp) → widened (operand_type by) ≡ operand_type by
operand_widened op.Or = refl
operand_widened op.And = refl
operand_widened op.Add = refl
operand_widened op.Subtract = refl
operand_widened op.Times = refl
operand_widened op.Divide = refl
operand_widened op.Modulo = refl

pub row_more : {n : _} (scope : Scope) (formals : List DeclaredFormal) (first : argument.Argument) (rest : Row_of-Argument n) → row_fits scope formals (more_of-Argument first rest) ≡ (argument_fits scope (first_of formals) first && row_fits scope (rest_of formals) rest)
unfolding type_of
row_more scope [] first rest = refl
row_more scope (f ∷ fs) first rest = refl

pub value_typed : (formal : Option DeclaredFormal) (o : Option Simple) → given_value formal o ≡ true → (u : Simple) × (o ≡ Some u)
value_typed formal (Some u) e = (u, refl)
value_typed None None e = absurd_false e
value_typed (Some f) None e = absurd_false (sym (go (not f.by_place) (simple_part (Some f.of))) ∙ e)
  where
    go : (b : Bool) (p : Option Simple) → (b && option_map_or (λ u. is_of u None) p false) ≡ false
    go true None = refl
    go true (Some u) = refl
    go false p = refl

pub compound_typed : (formal : Option DeclaredFormal) (o : Option AnyType) → given_compound formal o ≡ true → (U : AnyType) × (o ≡ Some U)
compound_typed formal (Some U) e = (U, refl)
compound_typed None None e = absurd_false e
compound_typed (Some f) None e = absurd_false (sym (go (not f.by_place) (is_compound f.of)) ∙ e)
  where
    go : (b c : Bool) → (b && (c && false)) ≡ false
    go true true = refl
    go true false = refl
    go false c = refl

pub place_typed : (formal : Option DeclaredFormal) (o : Option AnyType) → given_place formal o ≡ true → (U : AnyType) × (o ≡ Some U)
place_typed formal (Some U) e = (U, refl)
place_typed None None e = absurd_false e
place_typed (Some f) None e = absurd_false (sym (go f.by_place) ∙ e)
  where
    go : (b : Bool) → (b && false) ≡ false
    go true = refl
    go false = refl

-- no argument fits where no formal is
pub none_fits : {R : Type 0} (scope : Scope) (first : argument.Argument) → argument_fits scope None first ≡ true → R
unfolding type_of
none_fits scope (argument.Copy place) e = absurd_false e
none_fits scope (argument.CopyAll place) e = absurd_false e
none_fits scope (argument.Value body) e = absurd_false e
none_fits scope (argument.Place place) e = let (writable, wrong) = and_parts (may_write scope (root_of place)) false e in absurd_false wrong

-- what is given to a formal by value of simple type is of that type, as far as bounds go
into_part : (U : AnyType) (into : Simple) → simple_type U ≡ Some into → simple_part (Some U) ≡ Some into
into_part (type.Simple w) into e = e
into_part (type.Record' _ fields) into e = not_some e
into_part (type.Array' _ _ item) into e = not_some e

no_compound : (U : AnyType) (into : Simple) → simple_type U ≡ Some into → is_compound U ≡ false
no_compound (type.Simple w) into e = refl
no_compound (type.Record' _ fields) into e = not_some e
no_compound (type.Array' _ _ item) into e = not_some e

pub given_into : (formal : Option DeclaredFormal) (found : Option Simple) (f : DeclaredFormal) (into : Simple) → given_value formal found ≡ true → formal ≡ Some f → simple_type f.of ≡ Some into → found ≡ Some (widened into)
given_into None found f into e is simple = absurd_false e
given_into (Some g) found f into e is simple =
    let same : g ≡ f = some_one is in
    let (by_value, fits) = and_parts (not g.by_place) (option_map_or (λ u. is_of u found) (simple_part (Some g.of)) false) e in
    of_type into found (ap (λ o. option_map_or (λ u. is_of u found) o false) (sym (ap (λ (h : DeclaredFormal). simple_part (Some h.of)) same ∙ into_part f.of into simple)) ∙ fits)

pub given_no_simple : {R : Type 0} (formal : Option DeclaredFormal) (found : Option AnyType) (f : DeclaredFormal) (into : Simple) → given_compound formal found ≡ true → formal ≡ Some f → simple_type f.of ≡ Some into → R
given_no_simple None found f into e is simple = absurd_false e
given_no_simple (Some g) found f into e is simple =
    let same : g ≡ f = some_one is in
    let (by_value, rest) = and_parts (not g.by_place) (is_compound g.of && place_fits g.of found) e in
    let (compound, other) = and_parts (is_compound g.of) (place_fits g.of found) rest in
    absurd_false (sym (ap (λ (h : DeclaredFormal). is_compound h.of) same ∙ no_compound f.of into simple) ∙ compound)

pub each_map : {P Q : Value → Type 0} (xs : List Value) → ((y : Value) → P y → Q y) → EachValue P xs → EachValue Q xs
each_map [] f e = tt
each_map (y ∷ xs) f (p, e) = (f y p, each_map xs f e)

pub leads_joined : (N : ℕ) (s : Cells) (fr : List ℕ) (is js : List Index) (xs ys : List Value) → Leads N s fr is xs → Leads N s fr js ys → Leads N s fr (is ++ js) (xs ++ ys)
leads_joined N s fr [] js [] ys p q = q
leads_joined N s fr [] js (y ∷ xs) ys p q = absurd p
leads_joined N s fr (i ∷ is) js [] ys p q = absurd p
leads_joined N s fr (i ∷ is) js (y ∷ xs) ys (index, p) q = (index, leads_joined N s fr is js xs ys p q)

-- what is known of a result beside what is told of it
pub tells_got : (N : ℕ) (s : Cells) {A : Type 0} (fr : List ℕ) (qs : List Demand) (o : Outcome A) (P Q : A → Type 0) → Tells N s fr o qs P → ((y : A) → o ≡ Got y → P y → Q y) → Tells N s fr o qs Q
tells_got N s fr qs (Fault at) P Q bad next = bad
tells_got N s fr qs (Got y) P Q (good, p) next = (good, next y refl p)

-- One operator

module _ (N : ℕ) (s : Cells) (fr : List ℕ) where
  abbrev pub IsTold : Outcome Value → Valued → Type 0
  IsTold o e = Tells N s fr o e.demands (λ y. value_of N s fr e.term ≡ y)

  abbrev pub IsTyped : Simple → Outcome Value → Valued → Type 0
  IsTyped u o e = Tells N s fr o e.demands (λ y. (value_of N s fr e.term ≡ y) × (is_value N u y ≡ true))

  compared_value : (by : CompareOp) (left right : Term) (p q : Value) → value_of N s fr left ≡ p → value_of N s fr right ≡ q → value_of N s fr (compared_term by left right) ≡ v.Truth (compared by p q)
  compared_value by left right p q e f = go by ∙ ap (λ y. v.Truth (compared by y (value_of N s fr right))) e ∙ ap (λ y. v.Truth (compared by p y)) f
    where
      go : (by : CompareOp) → value_of N s fr (compared_term by left right) ≡ v.Truth (compared by (value_of N s fr left) (value_of N s fr right))
      go compare.Equal = value-Same N s fr left right
      go compare.NotEqual = value-Not N s fr (t.Same left right) ∙ ap (λ y. v.Truth (not (truth y))) (value-Same N s fr left right)
      go compare.Less = value-Less N s fr left right
      go compare.LessEqual = value-Not N s fr (t.Less right left) ∙ ap (λ y. v.Truth (not (truth y))) (value-Less N s fr right left)
      go compare.Greater = value-Less N s fr right left
      go compare.GreaterEqual = value-Not N s fr (t.Less left right) ∙ ap (λ y. v.Truth (not (truth y))) (value-Less N s fr left right)

  pub told_not : (o : Outcome Value) (e : Valued) → IsTold o e → IsTold (given o (λ y. Got (v.Truth (not (truth y))))) (negated e)
  told_not o e told = tells_then N s fr e.demands o (λ y. v.Truth (not (truth y))) _ _ told (λ y is. value-Not N s fr e.term ∙ ap (λ z. v.Truth (not (truth z))) is)

  pub told_minus : (at : Span) (o : Outcome Value) (e : Valued) → IsTold o e → ((y : Value) → o ≡ Got y → is_value N numbers y ≡ true) → IsTold (given o (calculated at operation.Subtract (v.Number (pos 0)))) (calculated_term operation.Subtract (whole 0) e)
  told_minus at o e told fine =
      tells_given N s fr e.demands (map demand (result_fits operation.Subtract (whole 0) e.term)) o (calculated at operation.Subtract (v.Number (pos 0))) _ _ told
      (λ y was is. tells_map N s fr (map demand (result_fits operation.Subtract (whole 0) e.term)) (calculated at operation.Subtract (v.Number (pos 0)) y) _ _
      (tells_calculated N s fr at operation.Subtract (whole 0) e.term (v.Number (pos 0)) y (value-Known N s fr (v.Number (pos 0))) is (number_value N (pos 0) refl) (fine y was)) (λ z both. both.0))

  pub told_compared : (by : CompareOp) (o p : Outcome Value) (e f : Valued) → IsTold o e → IsTold p f → IsTold (given o (λ y. given p (λ z. Got (v.Truth (compared by y z))))) (compared_values by e f)
  told_compared by o p e f first second =
      tells_given N s fr e.demands f.demands o _ _ _ first
      (λ y was is. tells_then N s fr f.demands p (λ z. v.Truth (compared by y z)) _ _ second (λ z is'. compared_value by e.term f.term y z is is'))

  or_two : (left right : Term) → value_of N s fr (t.Or (left ∷ right ∷ [])) ≡ v.Truth (is_true N s fr left || (is_true N s fr right || false))
  or_two left right = value-Or N s fr (left ∷ right ∷ [])

  and_two : (left right : Term) → value_of N s fr (t.And (left ∷ right ∷ [])) ≡ v.Truth (is_true N s fr left && (is_true N s fr right && true))
  and_two left right = value-And N s fr (left ∷ right ∷ [])

  or_nothing : (b : Bool) → (b || false) ≡ b
  or_nothing true = refl
  or_nothing false = refl

  and_nothing : (b : Bool) → (b && true) ≡ b
  and_nothing true = refl
  and_nothing false = refl

  not_is : (left : Term) (b : Bool) → is_true N s fr left ≡ b → is_true N s fr (t.Not left) ≡ not b
  not_is left b e = ap truth (value-Not N s fr left) ∙ ap not e

  -- the second part of `|` where the first is false, and so on
  or_told : (left : Term) (y : Value) (p : Outcome Value) (f : Valued) → value_of N s fr left ≡ y → IsTold p f → Tells N s fr (if truth y then Got (v.Truth true) else given p (λ z. Got (as_truth z))) (under_test (length fr) (t.Not left) f.demands) (λ z. (value_of N s fr (t.Or (left ∷ f.term ∷ [])) ≡ z) × (is_value N simple.Truth z ≡ true))
  or_told left y p f is second = go (truth y) refl
    where
      go : (b : Bool) → truth y ≡ b → Tells N s fr (if b then Got (v.Truth true) else given p (λ z. Got (as_truth z))) (under_test (length fr) (t.Not left) f.demands) (λ z. (value_of N s fr (t.Or (left ∷ f.term ∷ [])) ≡ z) × (is_value N simple.Truth z ≡ true))
      go true was = (all_beside N s fr (t.Not left) f.demands (not_is left true (ap truth is ∙ was)), (or_two left f.term ∙ ap (λ b. v.Truth (b || (is_true N s fr f.term || false))) (ap truth is ∙ was), refl))
      go false was =
          tells_under N s fr (t.Not left) f.demands (given p (λ z. Got (as_truth z))) _ (not_is left false (ap truth is ∙ was))
          (tells_then N s fr f.demands p as_truth _ _ second (λ z is'. (or_two left f.term ∙ ap (λ b. v.Truth (b || (is_true N s fr f.term || false))) (ap truth is ∙ was) ∙ ap v.Truth (or_nothing (is_true N s fr f.term)) ∙ ap (λ u. v.Truth (truth u)) is', refl)))

  and_told : (left : Term) (y : Value) (p : Outcome Value) (f : Valued) → value_of N s fr left ≡ y → IsTold p f → Tells N s fr (if truth y then given p (λ z. Got (as_truth z)) else Got (v.Truth false)) (under_test (length fr) left f.demands) (λ z. (value_of N s fr (t.And (left ∷ f.term ∷ [])) ≡ z) × (is_value N simple.Truth z ≡ true))
  and_told left y p f is second = go (truth y) refl
    where
      go : (b : Bool) → truth y ≡ b → Tells N s fr (if b then given p (λ z. Got (as_truth z)) else Got (v.Truth false)) (under_test (length fr) left f.demands) (λ z. (value_of N s fr (t.And (left ∷ f.term ∷ [])) ≡ z) × (is_value N simple.Truth z ≡ true))
      go false was = (all_beside N s fr left f.demands (ap truth is ∙ was), (and_two left f.term ∙ ap (λ b. v.Truth (b && (is_true N s fr f.term && true))) (ap truth is ∙ was), refl))
      go true was =
          tells_under N s fr left f.demands (given p (λ z. Got (as_truth z))) _ (ap truth is ∙ was)
          (tells_then N s fr f.demands p as_truth _ _ second (λ z is'. (and_two left f.term ∙ ap (λ b. v.Truth (b && (is_true N s fr f.term && true))) (ap truth is ∙ was) ∙ ap v.Truth (and_nothing (is_true N s fr f.term)) ∙ ap (λ u. v.Truth (truth u)) is', refl)))

  pub told_implied : (o p : Outcome Value) (e f : Valued) → IsTold o e → IsTold p f → IsTold (given o (λ y. if truth y then given p (λ z. Got (as_truth z)) else Got (v.Truth true))) (implied (length fr) e f)
  told_implied o p e f first second = tells_given N s fr e.demands (under_test (length fr) e.term f.demands) o _ _ _ first (λ y was is. go y is (truth y) refl)
    where
      go : (y : Value) → value_of N s fr e.term ≡ y → (b : Bool) → truth y ≡ b → Tells N s fr (if b then given p (λ z. Got (as_truth z)) else Got (v.Truth true)) (under_test (length fr) e.term f.demands) (λ z. value_of N s fr (t.Or (t.Not e.term ∷ f.term ∷ [])) ≡ z)
      go y is false was = (all_beside N s fr e.term f.demands (ap truth is ∙ was), or_two (t.Not e.term) f.term ∙ ap (λ b. v.Truth (b || (is_true N s fr f.term || false))) (not_is e.term false (ap truth is ∙ was)))
      go y is true was =
          tells_under N s fr e.term f.demands (given p (λ z. Got (as_truth z))) _ (ap truth is ∙ was)
          (tells_then N s fr f.demands p as_truth _ _ second (λ z is'. or_two (t.Not e.term) f.term ∙ ap (λ b. v.Truth (b || (is_true N s fr f.term || false))) (not_is e.term true (ap truth is ∙ was)) ∙ ap v.Truth (or_nothing (is_true N s fr f.term)) ∙ ap (λ u. v.Truth (truth u)) is'))

  pub told_choice : (o p q : Outcome Value) (e f g : Valued) → IsTold o e → IsTold p f → IsTold q g → IsTold (given o (λ y. if truth y then p else q)) (choice (length fr) e f g)
  told_choice o p q e f g first second third = tells_given N s fr e.demands (under_test (length fr) e.term f.demands ++ under_test (length fr) (t.Not e.term) g.demands) o _ _ _ first (λ y was is. go y is (truth y) refl)
    where
      chosen_is : (b : Bool) → is_true N s fr e.term ≡ b → value_of N s fr (t.If e.term f.term g.term) ≡ cond b (value_of N s fr f.term) (value_of N s fr g.term)
      chosen_is b was = value-If N s fr e.term f.term g.term ∙ ap (λ c. cond c (value_of N s fr f.term) (value_of N s fr g.term)) was

      go : (y : Value) → value_of N s fr e.term ≡ y → (b : Bool) → truth y ≡ b → Tells N s fr (if b then p else q) (under_test (length fr) e.term f.demands ++ under_test (length fr) (t.Not e.term) g.demands) (λ z. value_of N s fr (t.If e.term f.term g.term) ≡ z)
      go y is true was =
          tells_after N s fr (under_test (length fr) e.term f.demands) (under_test (length fr) (t.Not e.term) g.demands) p _ (all_beside N s fr (t.Not e.term) g.demands (not_is e.term true (ap truth is ∙ was)))
          (tells_under N s fr e.term f.demands p _ (ap truth is ∙ was) (tells_map N s fr f.demands p _ _ second (λ z is'. chosen_is true (ap truth is ∙ was) ∙ is')))
      go y is false was =
          tells_before N s fr (under_test (length fr) e.term f.demands) (under_test (length fr) (t.Not e.term) g.demands) q _ (all_beside N s fr e.term f.demands (ap truth is ∙ was))
          (tells_under N s fr (t.Not e.term) g.demands q _ (not_is e.term false (ap truth is ∙ was)) (tells_map N s fr g.demands q _ _ third (λ z is'. chosen_is false (ap truth is ∙ was) ∙ is')))

  arith_told : (at : Span) (by : _) (left : Term) (y : Value) (p : Outcome Value) (f : Valued) → value_of N s fr left ≡ y → is_value N numbers y ≡ true → IsTold p f → ((z : Value) → p ≡ Got z → is_value N numbers z ≡ true) → Tells N s fr (given p (calculated at by y)) (f.demands ++ map demand (result_fits by left f.term)) (λ z. (value_of N s fr (t.Arith by left f.term) ≡ z) × (is_value N numbers z ≡ true))
  arith_told at by left y p f is fine second typed =
      tells_given N s fr f.demands (map demand (result_fits by left f.term)) p (calculated at by y) _ _ second
      (λ z was is'. tells_calculated N s fr at by left f.term y z is is' fine (typed z was))

  -- one more operand of a chain
  told_joined : (at : Span) (by : ChainOp) (left : Term) (y : Value) (p : Outcome Value) (f : Valued) → value_of N s fr left ≡ y → is_value N (operand_type by) y ≡ true → IsTold p f → ((z : Value) → p ≡ Got z → is_value N (operand_type by) z ≡ true) → IsTyped (operand_type by) (joined at by y p) (joined_term (length fr) by left f)
  told_joined at op.Or left y p f is fine second typed = or_told left y p f is second
  told_joined at op.And left y p f is fine second typed = and_told left y p f is second
  told_joined at op.Add left y p f is fine second typed = arith_told at operation.Add left y p f is fine second typed
  told_joined at op.Subtract left y p f is fine second typed = arith_told at operation.Subtract left y p f is fine second typed
  told_joined at op.Times left y p f is fine second typed = arith_told at operation.Times left y p f is fine second typed
  told_joined at op.Divide left y p f is fine second typed = arith_told at operation.Divide left y p f is fine second typed
  told_joined at op.Modulo left y p f is fine second typed = arith_told at operation.Modulo left y p f is fine second typed

  pub told_chain : (at : Span) (by : ChainOp) (u : Simple) (o p : Outcome Value) (e f : Valued) → is_of (operand_type by) (Some u) ≡ true → IsTyped u o e → IsTold p f → ((z : Value) → p ≡ Got z → is_value N (operand_type by) z ≡ true) → IsTyped (operand_type by) (given o (λ y. joined at by y p)) (after e.demands (joined_term (length fr) by e.term f))
  told_chain at by u o p e f fits first second typed =
      tells_given N s fr e.demands ((joined_term (length fr) by e.term f).demands) o (λ y. joined at by y p) _ _ first
      (λ y was both. told_joined at by e.term y p f both.0 (ap (λ w. is_value N w y) (sym same) ∙ both.1) second typed)
    where
      same : u ≡ operand_type by
      same = some_one (of_type (operand_type by) (Some u) fits) ∙ operand_widened by

  -- a cell that is read
  pub defined_told : (at : Span) (e : Term) (y : Value) → value_of N s fr e ≡ y → Tells N s fr (defined at y) (demand (is_defined e) ∷ []) (λ z. value_of N s fr e ≡ z)
  defined_told at e y is = tells_test N s fr (is_defined e) (defined at y) _ (go y is)
    where
      go : (y : Value) → value_of N s fr e ≡ y → Either (is_true N s fr (is_defined e) ≡ true) (is_true N s fr (is_defined e) ≡ false) (defined at y) (λ z. value_of N s fr e ≡ z)
      go v.Undefined is = defined_is N s fr e v.Undefined is
      go (v.Truth b) is = (defined_is N s fr e (v.Truth b) is, is)
      go (v.Number z) is = (defined_is N s fr e (v.Number z) is, is)
      go (v.Member k i) is = (defined_is N s fr e (v.Member k i) is, is)
      go (v.Node n) is = (defined_is N s fr e (v.Node n) is, is)

  -- an index that is in its type
  pub index_told : (at : Span) (over : Simple) (mark : Option ℕ) (e : Term) (y : Value) → value_of N s fr e ≡ y → is_value N (widened over) y ≡ true → Tells N s fr (fitting (is_value N over y) at y) (demand (index_fits over e) ∷ []) (λ z. IndexIs N s fr (index_over over mark e) z)
  index_told at over mark e y is fine = tells_test N s fr (index_fits over e) (fitting (is_value N over y) at y) _ (go (is_value N over y) refl)
    where
      go : (b : Bool) → is_value N over y ≡ b → Either (is_true N s fr (index_fits over e) ≡ true) (is_true N s fr (index_fits over e) ≡ false) (fitting b at y) (λ z. IndexIs N s fr (index_over over mark e) z)
      go true was = (index_is N s fr over e y is fine ∙ was, index_leads N s fr over mark e y is was)
      go false was = index_is N s fr over e y is fine ∙ was
