-- The value of an expression where the nodes change places.
use Rattle.std.proofs.Common.{◌≡◌, ℕ, zero, suc, Bool, true, false, not, ◌&&◌, ◌||◌, List, [], ◌∷◌, ◌++◌, map, Option, None, Some, refl, sym, ap, ◌∙◌, subst}
use Rattle.std.specs.Prelude.{slice_get, if◌then◌else◌, option_map, pos, int_lt}
use Rattle.std.proofs.Math.Path.{fun_ext}
use Rattle.std.proofs.lemmas.Bool.{and_parts}
use Rattle.term_core.specs.declared.value.Value.{Value}
use Rattle.term_core.specs.declared.value.Value.TheVariants as value
use Rattle.term_core.specs.declared.value.ArithOp.{ArithOp}
use Rattle.term_core.specs.declared.value.ArithOp.TheVariants as operation
use Rattle.term_core.specs.Nodes.{nodes, is_node}
use Rattle.term_core.specs.Values.{truth, number, same_value, is_number}
use Rattle.murphi_ast.specs.declared.token.Span.{Span}
use Rattle.murphi_ast.specs.declared.expr.ChainOp.{ChainOp}
use Rattle.murphi_ast.specs.declared.expr.ChainOp.TheVariants as op
use Rattle.murphi_ast.specs.declared.expr.CompareOp.{CompareOp}
use Rattle.murphi_ast.specs.declared.expr.CompareOp.TheVariants as compare
use Rattle.murphi_typed.specs.declared.types.Simple.{Simple}
use Rattle.murphi_typed.specs.declared.types.Simple.TheVariants as simple
use Rattle.murphi_typed.specs.declared.expr.Root.{Root}
use Rattle.murphi_typed.specs.declared.expr.Root.TheVariants as root
use Rattle.murphi_typed.specs.declared.expr.Expr as x
use Rattle.murphi_typed.specs.declared.expr.Expr.{Expr, end_of-Expr, more_of-Expr, Row_of-Link, end_of-Link, more_of-Link}
use Rattle.murphi_typed.specs.declared.expr.Designator as d
use Rattle.murphi_typed.specs.declared.expr.Designator.{Designator, Row_of-Selector, end_of-Selector, more_of-Selector}
use Rattle.murphi_typed.specs.declared.expr.Selector as select
use Rattle.murphi_typed.specs.declared.expr.Arguments as a
use Rattle.murphi_typed.specs.declared.expr.Arguments.{Arguments, Row_of-Argument, end_of-Argument, more_of-Argument}
use Rattle.murphi_typed.specs.declared.expr.Argument as argument
use Rattle.murphi_typed.specs.Forms.{NotForm, MinusForm, CompareForm, ImpliesForm, ChoiceForm, QuantifiedForm}
use Rattle.murphi_typed.specs.Values.{is_value, values}
use Rattle.murphi_typed.specs.Families.{Path}
use Rattle.murphi_typed.specs.Store.{Place, Cells, cell_at, contents_at, only}
use Rattle.murphi_typed.specs.Outcome.{Outcome, Got, Fault, given, or_fault}
use Rattle.murphi_typed.specs.Expressions.{Given, Filled, Standing, Scene, Left, Calls, as_truth, result_of, in_range, calculated, joined, compared, defined, over_all, with_bound, stood_for, root_place, under, row_path, fitting, value_of, chain_value, place_of, indices_of, arguments_of, row_arguments, argument_of}
use Rattle.typed_laws.specs.Renamings.{IsRenaming, renamed, renamed_contents, renamed_cells, renamed_place, renamed_given, renamed_scene, Alike, is_free, chain_is_free, place_is_free, selectors_are_free, arguments_are_free, row_is_free, argument_is_free}
use Rattle.typed_laws.proofs.Nodes.{false-true, both, truth_same, number_same, renamed_back, all_back, map_joined, values_same, is_value_same, AreFixed, values_fixed, renamed_in, over_all_alike}

-- what is given on where both give something that goes together
pub alike_given : {A B C D : Type 0} (P : A → B → Type 0) (Q : C → D → Type 0) (o : Outcome A) (p : Outcome B) (f : A → Outcome C) (g : B → Outcome D) → Alike P o p → ((a : A) (b : B) → P a b → Alike Q (f a) (g b)) → Alike Q (given o f) (given p g)
alike_given P Q (Got a) (Got b) f g is next = next a b is
alike_given P Q (Got a) (Fault at) f g is next = absurd is
alike_given P Q (Fault at) (Got b) f g is next = absurd is
alike_given P Q (Fault at) (Fault other) f g is next = tt

-- a value and its renamed one
abbrev pub Goes : (ℕ → ℕ) → Value → Value → Type 0
Goes to v w = w ≡ renamed to v

abbrev pub PlacesGo : (ℕ → ℕ) → Place → Place → Type 0
PlacesGo to p q = q ≡ renamed_place to p

abbrev pub ListsGo : (ℕ → ℕ) → List Value → List Value → Type 0
ListsGo to vs ws = ws ≡ map (renamed to) vs

abbrev pub GivenGo : (ℕ → ℕ) → (ℕ → ℕ) → List Given → List Given → Type 0
GivenGo to from gs hs = hs ≡ map (renamed_given to from) gs

-- what a call leaves and what the renamed call leaves
abbrev pub LeftGoes : (ℕ → ℕ) → (ℕ → ℕ) → Left → Left → Type 0
LeftGoes to from l m = (m.result ≡ option_map (renamed to) l.result) × (m.cells ≡ renamed_cells to from l.cells)

abbrev pub CallsGo : ℕ → (ℕ → ℕ) → (ℕ → ℕ) → Calls → Type 0
CallsGo N to from calls =
    (k : ℕ) (scene : Scene) (at : Span) (gs : List Given) (c : Cells) → scene.nodes ≡ N
    → Alike (LeftGoes to from) (calls k scene at gs c) (calls k (renamed_scene to from scene) at (map (renamed_given to from) gs) (renamed_cells to from c))

got : (to : ℕ → ℕ) (v w : Value) → w ≡ renamed to v → Alike (Goes to) (Got v) (Got w)
got to v w e = e

defined_go : (to : ℕ → ℕ) (at : Span) (v : Value) → Alike (Goes to) (defined at v) (defined at (renamed to v))
defined_go to at value.Undefined = tt
defined_go to at (value.Truth b) = refl
defined_go to at (value.Number z) = refl
defined_go to at (value.Member kind index) = refl
defined_go to at (value.Node n) = refl

pub slice_renamed : {A : Type 0} (f : A → A) (xs : List A) (k : ℕ) → slice_get (map f xs) k ≡ option_map f (slice_get xs k)
slice_renamed f [] k = refl
slice_renamed f (x ∷ xs) zero = refl
slice_renamed f (x ∷ xs) (suc k) = slice_renamed f xs k

found_go : (to : ℕ → ℕ) (at : Span) (o : Option Value) → Alike (Goes to) (or_fault at o) (or_fault at (option_map (renamed to) o))
found_go to at None = tt
found_go to at (Some v) = refl

in_range_goes : (to : ℕ → ℕ) (at : Span) (z : _) → Alike (Goes to) (in_range at z) (in_range at z)
in_range_goes to at z = go (is_number z)
  where
    go : (b : Bool) → Alike (Goes to) (if b then Got (value.Number z) else Fault at) (if b then Got (value.Number z) else Fault at)
    go true = refl
    go false = tt

calculated_goes : (to : ℕ → ℕ) (at : Span) (o : ArithOp) (v w v' w' : Value) → v' ≡ renamed to v → w' ≡ renamed to w → Alike (Goes to) (calculated at o v w) (calculated at o v' w')
calculated_goes to at o v w v' w' e h =
    subst (λ n. Alike (Goes to) (calculated at o v w) (given (or_fault at (result_of o n (number w'))) (in_range at))) (sym (ap number e ∙ number_same to v))
    (subst (λ m. Alike (Goes to) (calculated at o v w) (given (or_fault at (result_of o (number v) m)) (in_range at))) (sym (ap number h ∙ number_same to w))
    (go (result_of o (number v) (number w))))
  where
    go : (r : Option _) → Alike (Goes to) (given (or_fault at r) (in_range at)) (given (or_fault at r) (in_range at))
    go None = tt
    go (Some z) = in_range_goes to at z

pub truths_go : (to : ℕ → ℕ) (v w : Value) → w ≡ renamed to v → truth w ≡ truth v
truths_go to v w e = ap truth e ∙ truth_same to v

as_truth_goes : (to : ℕ → ℕ) (v w : Value) → w ≡ renamed to v → as_truth w ≡ as_truth v
as_truth_goes to v w e = ap value.Truth (truths_go to v w e)

pub if_alike : {A B : Type 0} (P : A → B → Type 0) (b c : Bool) (o o' : Outcome A) (p p' : Outcome B) → c ≡ b → Alike P o p → Alike P o' p' → Alike P (if b then o else o') (if c then p else p')
if_alike P true true o o' p p' e x y = x
if_alike P false false o o' p p' e x y = y
if_alike P true false o o' p p' e x y = cc
if_alike P false true o o' p p' e x y = cc

joined_goes : (to : ℕ → ℕ) (at : Span) (o : ChainOp) (v w : Value) (r s : Outcome Value) → w ≡ renamed to v → Alike (Goes to) r s → Alike (Goes to) (joined at o v r) (joined at o w s)
joined_goes to at op.Or v w r s e a =
    if_alike (Goes to) (truth v) (truth w) _ _ _ _ (truths_go to v w e) refl
    (alike_given (Goes to) (Goes to) r s _ _ a (λ x y is. as_truth_goes to x y is))
joined_goes to at op.And v w r s e a =
    if_alike (Goes to) (truth v) (truth w) _ _ _ _ (truths_go to v w e)
    (alike_given (Goes to) (Goes to) r s _ _ a (λ x y is. as_truth_goes to x y is)) refl
joined_goes to at op.Add v w r s e a = alike_given (Goes to) (Goes to) r s _ _ a (λ x y is. calculated_goes to at operation.Add v x w y e is)
joined_goes to at op.Subtract v w r s e a = alike_given (Goes to) (Goes to) r s _ _ a (λ x y is. calculated_goes to at operation.Subtract v x w y e is)
joined_goes to at op.Times v w r s e a = alike_given (Goes to) (Goes to) r s _ _ a (λ x y is. calculated_goes to at operation.Times v x w y e is)
joined_goes to at op.Divide v w r s e a = alike_given (Goes to) (Goes to) r s _ _ a (λ x y is. calculated_goes to at operation.Divide v x w y e is)
joined_goes to at op.Modulo v w r s e a = alike_given (Goes to) (Goes to) r s _ _ a (λ x y is. calculated_goes to at operation.Modulo v x w y e is)

module _ (N : ℕ) (to from : ℕ → ℕ) (is : IsRenaming N to from) where
  compared_goes : (o : CompareOp) (v w v' w' : Value) → v' ≡ renamed to v → w' ≡ renamed to w → compared o v' w' ≡ compared o v w
  compared_goes compare.Equal v w v' w' e h = both same_value e h ∙ values_same to from is.back v w
  compared_goes compare.NotEqual v w v' w' e h = ap not (both same_value e h ∙ values_same to from is.back v w)
  compared_goes compare.Less v w v' w' e h = both int_lt (ap number e ∙ number_same to v) (ap number h ∙ number_same to w)
  compared_goes compare.LessEqual v w v' w' e h = ap not (both int_lt (ap number h ∙ number_same to w) (ap number e ∙ number_same to v))
  compared_goes compare.Greater v w v' w' e h = both int_lt (ap number h ∙ number_same to w) (ap number e ∙ number_same to v)
  compared_goes compare.GreaterEqual v w v' w' e h = ap not (both int_lt (ap number e ∙ number_same to v) (ap number h ∙ number_same to w))

  pub cell_goes : (c : Cells) (p q : Place) → PlacesGo to p q → cell_at (renamed_cells to from c) q ≡ renamed to (cell_at c p)
  cell_goes c p q e =
      ap (cell_at (renamed_cells to from c)) e ∙ ap (λ at. renamed to (c p.owner p.path at)) (all_back to from is.back p.at)

  pub contents_go : (c : Cells) (p q : Place) → PlacesGo to p q → contents_at (renamed_cells to from c) q ≡ renamed_contents to from (contents_at c p)
  contents_go c p q e =
      ap (contents_at (renamed_cells to from c)) e
      ∙ fun_ext (λ path. fun_ext (λ at.
      ap (λ more. renamed to (c p.owner (p.path ++ path) more)) (map_joined (renamed from) (map (renamed to) p.at) at ∙ ap (λ front. front ++ map (renamed from) at) (all_back to from is.back p.at))))

  only_goes : (v w : Value) → w ≡ renamed to v → only w ≡ renamed_contents to from (only v)
  only_goes v w e = fun_ext (λ path. fun_ext (λ at. e))

  fitting_goes : (at : Span) (over : Simple) (v w : Value) → w ≡ renamed to v → Alike (Goes to) (fitting (is_value N over v) at v) (fitting (is_value N over w) at w)
  fitting_goes at over v w e = if_alike (Goes to) (is_value N over v) (is_value N over w) (Got v) (Fault at) (Got w) (Fault at) (ap (is_value N over) e ∙ is_value_same N to from is over v) e tt

  root_goes : (scene : Scene) (at : Span) (r : Root) → Alike (PlacesGo to) (or_fault at (root_place scene r)) (or_fault at (root_place (renamed_scene to from scene) r))
  root_goes scene at (root.Global k) = refl
  root_goes scene at (root.Local k) = refl
  root_goes scene at (root.Formal k) = refl
  root_goes scene at (root.Place k) =
      subst (λ g. Alike (PlacesGo to) (or_fault at (stood_for (slice_get scene.formals k))) (or_fault at (stood_for g)))
      (sym (slice_renamed (renamed_given to from) scene.formals k)) (go (slice_get scene.formals k))
    where
      go : (g : Option Given) → Alike (PlacesGo to) (or_fault at (stood_for g)) (or_fault at (stood_for (option_map (renamed_given to from) g)))
      go None = tt
      go (Some (Filled contents)) = tt
      go (Some (Standing place)) = refl

  under_goes : (p q : Place) (path : Path) (vs ws : List Value) → PlacesGo to p q → ListsGo to vs ws → PlacesGo to (under p path vs) (under q path ws)
  under_goes p q path vs ws e h =
      both (λ r us. under r path us) e h
      ∙ ap (λ at. record { owner = p.owner; path = p.path ++ path; at = at }) (sym (map_joined (renamed to) p.at vs))

  pub bound_goes : (scene : Scene) (v : Value) → renamed_scene to from (with_bound scene v) ≡ with_bound (renamed_scene to from scene) (renamed to v)
  bound_goes scene v = ap (λ b. record { nodes = scene.nodes; depth = scene.depth; bound = b; formals = map (renamed_given to from) scene.formals }) (map_joined (renamed to) scene.bound (v ∷ []))

  same_truths : (o p : Outcome Value) → Alike (Goes to) o p → Alike (λ v w. truth w ≡ truth v) o p
  same_truths (Got v) (Got w) e = truths_go to v w e
  same_truths (Got v) (Fault at) e = absurd e
  same_truths (Fault at) (Got w) e = absurd e
  same_truths (Fault at) (Fault other) e = tt

  -- instances at values that keep their names
  fixed_go : (all : Bool) (f g : Value → Outcome Value) (vs : List Value) → AreFixed to vs → ((v : Value) → Alike (Goes to) (f v) (g (renamed to v))) → Alike (λ b c. c ≡ b) (over_all all f vs) (over_all all g vs)
  fixed_go all f g [] fixed each = refl
  fixed_go all f g (v ∷ vs) (e, fixed) each =
      alike_given (Goes to) (λ b c. c ≡ b) (f v) (g v) _ _ (subst (λ w. Alike (Goes to) (f v) (g w)) e (each v))
      (λ x y go. alike_given (λ b c. c ≡ b) (λ b c. c ≡ b) (over_all all f vs) (over_all all g vs) _ _ (fixed_go all f g vs fixed each)
      (λ b c same. both (λ t r. if all then t && r else t || r) (truths_go to x y go) same))

  quantified_goes : (all : Bool) (over : Simple) (f g : Value → Outcome Value) → ((v : Value) → Alike (Goes to) (f v) (g (renamed to v))) → Alike (λ b c. c ≡ b) (over_all all f (values N over)) (over_all all g (values N over))
  quantified_goes all simple.Truth f g each = fixed_go all f g (values N simple.Truth) (values_fixed to N simple.Truth refl) each
  quantified_goes all (simple.Range low high) f g each = fixed_go all f g (values N (simple.Range low high)) (values_fixed to N (simple.Range low high) refl) each
  quantified_goes all (simple.Listed kind count) f g each = fixed_go all f g (values N (simple.Listed kind count)) (values_fixed to N (simple.Listed kind count) refl) each
  quantified_goes all (simple.Scalarset kind count) f g each = fixed_go all f g (values N (simple.Scalarset kind count)) (values_fixed to N (simple.Scalarset kind count) refl) each
  quantified_goes all simple.Node f g each =
      over_all_alike all f g (map value.Node (nodes N)) (map value.Node (nodes N))
      (λ v i. (renamed to v, (renamed_in N to from is v i, same_truths (f v) (g (renamed to v)) (each v))))
      (λ w i. (
        renamed from w,
        (
          renamed_in N from to (record { back = is.forth; forth = is.back; within = λ n. sym (is.within (from n)) ∙ ap (is_node N) (is.forth n) }) w i,
          same_truths (f (renamed from w)) (g w) (subst (λ u. Alike (Goes to) (f (renamed from w)) (g u)) (renamed_back from to is.forth w) (each (renamed from w))),
        ),
      ))

  called_goes : (at : Span) (l m : Left) → LeftGoes to from l m → Alike (Goes to) (or_fault at l.result) (or_fault at m.result)
  called_goes at l m e = subst (λ r. Alike (Goes to) (or_fault at l.result) (or_fault at r)) (sym e.0) (found_go to at l.result)

  module _ (calls : Calls) (calls_go : CallsGo N to from calls) (c : Cells) where
    mutual
      unfolding value_of is_free

      pub value_goes : (scene : Scene) (at : Span) (e : Expr) → scene.nodes ≡ N → is_free e ≡ true → Alike (Goes to) (value_of calls scene at c e) (value_of calls (renamed_scene to from scene) at (renamed_cells to from c) e)
      value_goes scene at (x.Known value.Undefined) n free = refl
      value_goes scene at (x.Known (value.Truth b)) n free = refl
      value_goes scene at (x.Known (value.Number z)) n free = refl
      value_goes scene at (x.Known (value.Member kind index)) n free = refl
      value_goes scene at (x.Known (value.Node k)) n free = false-true free
      value_goes scene at (x.Bound k) n free =
          subst (λ o. Alike (Goes to) (or_fault at (slice_get scene.bound k)) (or_fault at o)) (sym (slice_renamed (renamed to) scene.bound k))
          (found_go to at (slice_get scene.bound k))
      value_goes scene at (x.Read place) n free =
          alike_given (PlacesGo to) (Goes to) _ _ _ _ (place_goes scene at place n free)
          (λ p q e. subst (λ w. Alike (Goes to) (defined at (cell_at c p)) (defined at w)) (sym (cell_goes c p q e)) (defined_go to at (cell_at c p)))
      value_goes scene at (x.Call k args from') n free =
          alike_given (GivenGo to from) (Goes to) _ _ _ _ (arguments_go scene at args n free)
          (λ gs hs e. alike_given (LeftGoes to from) (Goes to) _ _ _ _
          (subst (λ us. Alike (LeftGoes to from) (calls k scene at gs c) (calls k (renamed_scene to from scene) at us (renamed_cells to from c))) (sym e) (calls_go k scene at gs c n))
          (λ l m goes. called_goes at l m goes))
      value_goes scene at (NotForm body) n free =
          alike_given (Goes to) (Goes to) _ _ _ _ (value_goes scene at body n free) (λ v w e. ap (λ t. value.Truth (not t)) (truths_go to v w e))
      value_goes scene at (MinusForm body) n free =
          alike_given (Goes to) (Goes to) _ _ _ _ (value_goes scene at body n free)
          (λ v w e. calculated_goes to at operation.Subtract (value.Number (pos 0)) v (value.Number (pos 0)) w refl e)
      value_goes scene at (x.Chain' _ (more_of-Expr first end_of-Expr) _ rest) n free =
          let (a, b) = and_parts (is_free first) (chain_is_free rest) free in
          alike_given (Goes to) (Goes to) _ _ _ _ (value_goes scene at first n a) (λ v w e. chain_goes scene at v w rest n b e)
      value_goes scene at (CompareForm o left right) n free =
          let (a, b) = and_parts (is_free left) (is_free right) free in
          alike_given (Goes to) (Goes to) _ _ _ _ (value_goes scene at left n a)
          (λ v v' e. alike_given (Goes to) (Goes to) _ _ _ _ (value_goes scene at right n b)
          (λ w w' h. ap value.Truth (compared_goes o v w v' w' e h)))
      value_goes scene at (ImpliesForm left right) n free =
          let (a, b) = and_parts (is_free left) (is_free right) free in
          alike_given (Goes to) (Goes to) _ _ _ _ (value_goes scene at left n a)
          (λ v w e. if_alike (Goes to) (truth v) (truth w) _ _ _ _ (truths_go to v w e)
          (alike_given (Goes to) (Goes to) _ _ _ _ (value_goes scene at right n b) (λ x y h. as_truth_goes to x y h)) refl)
      value_goes scene at (ChoiceForm test first second) n free =
          let (a, rest) = and_parts (is_free test) (is_free first && is_free second) free in
          let (b, d) = and_parts (is_free first) (is_free second) rest in
          alike_given (Goes to) (Goes to) _ _ _ _ (value_goes scene at test n a)
          (λ v w e. if_alike (Goes to) (truth v) (truth w) _ _ _ _ (truths_go to v w e) (value_goes scene at first n b) (value_goes scene at second n d))
      value_goes scene at (QuantifiedForm all over body) n free =
          alike_given (λ b c. c ≡ b) (Goes to) _ _ _ _
          (subst (λ m. Alike (λ b c. c ≡ b) (over_all all (λ v. value_of calls (with_bound scene v) at c body) (values m over)) (over_all all (λ v. value_of calls (with_bound (renamed_scene to from scene) v) at (renamed_cells to from c) body) (values m over))) (sym n)
          (quantified_goes all over (λ v. value_of calls (with_bound scene v) at c body) (λ v. value_of calls (with_bound (renamed_scene to from scene) v) at (renamed_cells to from c) body)
          (λ v. subst (λ s. Alike (Goes to) (value_of calls (with_bound scene v) at c body) (value_of calls s at (renamed_cells to from c) body)) (bound_goes scene v) (value_goes (with_bound scene v) at body n free))))
          (λ b b' e. ap value.Truth e)
      value_goes scene at (x.IsUndefined place) n free =
          alike_given (PlacesGo to) (Goes to) _ _ _ _ (place_goes scene at place n free)
          (λ p q e. ap value.Truth (ap (λ w. same_value w value.Undefined) (cell_goes c p q e) ∙ values_same to from is.back (cell_at c p) value.Undefined))

      pub chain_goes : {l : _} (scene : Scene) (at : Span) (v w : Value) (rest : Row_of-Link l) → scene.nodes ≡ N → chain_is_free rest ≡ true → w ≡ renamed to v → Alike (Goes to) (chain_value calls scene at c v rest) (chain_value calls (renamed_scene to from scene) at (renamed_cells to from c) w rest)
      chain_goes scene at v w end_of-Link n free e = e
      chain_goes scene at v w (more_of-Link o operand rest) n free e =
          let (a, b) = and_parts (is_free operand) (chain_is_free rest) free in
          alike_given (Goes to) (Goes to) _ _ _ _
          (joined_goes to at o v w (value_of calls scene at c operand) (value_of calls (renamed_scene to from scene) at (renamed_cells to from c) operand) e (value_goes scene at operand n a))
          (λ x y h. chain_goes scene at x y rest n b h)

      pub place_goes : (scene : Scene) (at : Span) (place : Designator) → scene.nodes ≡ N → place_is_free place ≡ true → Alike (PlacesGo to) (place_of calls scene at c place) (place_of calls (renamed_scene to from scene) at (renamed_cells to from c) place)
      place_goes scene at (d.Of' r _ selectors from') n free =
          alike_given (PlacesGo to) (PlacesGo to) _ _ _ _ (root_goes scene at r)
          (λ p q e. alike_given (ListsGo to) (PlacesGo to) _ _ _ _ (indices_go scene at selectors n free)
          (λ vs ws h. under_goes p q (row_path selectors) vs ws e h))

      pub indices_go : {l : _} (scene : Scene) (at : Span) (selectors : Row_of-Selector l) → scene.nodes ≡ N → selectors_are_free selectors ≡ true → Alike (ListsGo to) (indices_of calls scene at c selectors) (indices_of calls (renamed_scene to from scene) at (renamed_cells to from c) selectors)
      indices_go scene at end_of-Selector n free = refl
      indices_go scene at (more_of-Selector (select.Field name) rest) n free = indices_go scene at rest n free
      indices_go scene at (more_of-Selector (select.Index over index) rest) n free =
          let (a, b) = and_parts (is_free index) (selectors_are_free rest) free in
          alike_given (Goes to) (ListsGo to) _ _ _ _ (value_goes scene at index n a)
          (λ v w e. alike_given (Goes to) (ListsGo to) _ _ _ _
          (subst (λ m. Alike (Goes to) (fitting (is_value m over v) at v) (fitting (is_value m over w) at w)) (sym n) (fitting_goes at over v w e))
          (λ x y h. alike_given (ListsGo to) (ListsGo to) _ _ _ _ (indices_go scene at rest n b)
          (λ xs ys hs. both (λ z zs. z ∷ zs) h hs)))

      pub arguments_go : (scene : Scene) (at : Span) (args : Arguments) → scene.nodes ≡ N → arguments_are_free args ≡ true → Alike (GivenGo to from) (arguments_of calls scene at c args) (arguments_of calls (renamed_scene to from scene) at (renamed_cells to from c) args)
      arguments_go scene at (a.Of' _ args) n free = row_goes scene at args n free

      pub row_goes : {l : _} (scene : Scene) (at : Span) (args : Row_of-Argument l) → scene.nodes ≡ N → row_is_free args ≡ true → Alike (GivenGo to from) (row_arguments calls scene at c args) (row_arguments calls (renamed_scene to from scene) at (renamed_cells to from c) args)
      row_goes scene at end_of-Argument n free = refl
      row_goes scene at (more_of-Argument first rest) n free =
          let (a, b) = and_parts (argument_is_free first) (row_is_free rest) free in
          alike_given (λ g h. h ≡ renamed_given to from g) (GivenGo to from) _ _ _ _ (argument_goes scene at first n a)
          (λ g h e. alike_given (GivenGo to from) (GivenGo to from) _ _ _ _ (row_goes scene at rest n b)
          (λ gs hs es. both (λ z zs. z ∷ zs) e es))

      pub argument_goes : (scene : Scene) (at : Span) (arg : argument.Argument) → scene.nodes ≡ N → argument_is_free arg ≡ true → Alike (λ g h. h ≡ renamed_given to from g) (argument_of calls scene at c arg) (argument_of calls (renamed_scene to from scene) at (renamed_cells to from c) arg)
      argument_goes scene at (argument.Copy place) n free =
          alike_given (PlacesGo to) (λ g h. h ≡ renamed_given to from g) _ _ _ _ (place_goes scene at place n free)
          (λ p q e. ap Filled (only_goes (cell_at c p) (cell_at (renamed_cells to from c) q) (cell_goes c p q e)))
      argument_goes scene at (argument.CopyAll place) n free =
          alike_given (PlacesGo to) (λ g h. h ≡ renamed_given to from g) _ _ _ _ (place_goes scene at place n free)
          (λ p q e. ap Filled (contents_go c p q e))
      argument_goes scene at (argument.Value body) n free =
          alike_given (Goes to) (λ g h. h ≡ renamed_given to from g) _ _ _ _ (value_goes scene at body n free)
          (λ v w e. ap Filled (only_goes v w e))
      argument_goes scene at (argument.Place place) n free =
          alike_given (PlacesGo to) (λ g h. h ≡ renamed_given to from g) _ _ _ _ (place_goes scene at place n free)
          (λ p q e. ap Standing e)
