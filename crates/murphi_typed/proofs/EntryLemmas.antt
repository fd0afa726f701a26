-- Calls: what the formals are given, and the cells at the entry of a routine.
use Rattle.std.proofs.Common.{◌≡◌, ℕ, Bool, true, false, not, ◌&&◌, ◌⊎◌, inl, inr, List, [], ◌∷◌, Option, None, Some, refl, sym, ap, ◌∙◌, subst}
use Rattle.std.specs.Option.{option_map_or}
use Rattle.std.proofs.lemmas.Bool.{and_parts}
use Rattle.term_core.specs.declared.value.Value.{Value}
use Rattle.murphi_ast.specs.declared.token.Span.{Span}
use Rattle.murphi_typed.specs.declared.types.Simple.{Simple}
use Rattle.murphi_typed.specs.declared.types.AnyType as t
use Rattle.murphi_typed.specs.declared.types.AnyType.{AnyType}
use Rattle.murphi_typed.specs.declared.expr.Arguments as a
use Rattle.murphi_typed.specs.declared.expr.Arguments.{Arguments, Row_of-Argument, end_of-Argument, more_of-Argument}
use Rattle.murphi_typed.specs.declared.expr.Argument as argument
use Rattle.murphi_typed.specs.declared.protocol.Formal.{Formal as DeclaredFormal}
use Rattle.murphi_typed.specs.Store.{Contents, Cells, cell_at, contents_at, only}
use Rattle.murphi_typed.specs.Outcome.{Got, given}
use Rattle.murphi_typed.specs.Expressions.{Given, Filled, Standing, Scene, Calls, value_of, place_of, argument_of, row_arguments, arguments_of}
use Rattle.murphi_typed.specs.WellTyped.{Scope, type_of, place_type, simple_part, is_of, is_compound, place_fits, given_value, may_write, root_of, row_fits, arguments_fit, argument_fits}
use Rattle.murphi_typed.specs.Keeping.{Declared, AreKept, HasType, SceneFits}
use Rattle.murphi_typed.proofs.LeafLemmas.{some_same, not_some, same_leaf}
use Rattle.murphi_typed.proofs.KeepLemmas.{IfGot, if_given, if_after, HoldsFor, place_has, contents_hold}

-- a formal by value of simple type is given one value
abbrev pub IsOne : AnyType → Contents → Type 0
IsOne U contents = (v : Value) × (contents ≡ only v) × ((s : Simple) × (U ≡ t.Simple s))

-- what is given to a formal is of its type, but for the value of a simple one
abbrev pub FormalGiven : ℕ → Declared → DeclaredFormal → Given → Type 0
FormalGiven N types f (Standing p) = (f.by_place ≡ true) × HasType types p f.of
FormalGiven N types f (Filled contents) = (f.by_place ≡ false) × (HoldsFor N f.of contents ⊎ IsOne f.of contents)

abbrev pub GivenFit : ℕ → Declared → List DeclaredFormal → List Given → Type 0
GivenFit N types [] [] = Unit {0}
GivenFit N types (f ∷ fs) (g ∷ gs) = FormalGiven N types f g × GivenFit N types fs gs
GivenFit N types _ _ = ⊥

not_true : (b : Bool) → not b ≡ true → b ≡ false
not_true false e = refl
not_true true e = cc

simple_of : (U : AnyType) (s : Simple) → simple_part (Some U) ≡ Some s → U ≡ t.Simple s
simple_of (t.Simple type) s e = ap t.Simple (some_same e)
simple_of (t.Record' _ fields) s e = absurd (not_some e)
simple_of (t.Array' _ _ item) s e = absurd (not_some e)

value_given : (N : ℕ) (types : Declared) (f : DeclaredFormal) (found : Option Simple) (v : Value) → given_value (Some f) found ≡ true → FormalGiven N types f (Filled (only v))
value_given N types f found v e =
    let (by_value, rest) = and_parts (not f.by_place) (option_map_or (λ type. is_of type found) (simple_part (Some f.of)) false) e in
    go (not_true f.by_place by_value) (simple_part (Some f.of)) refl rest
  where
    go : f.by_place ≡ false → (o : Option Simple) → simple_part (Some f.of) ≡ o → option_map_or (λ type. is_of type found) o false ≡ true → FormalGiven N types f (Filled (only v))
    go by None was e = cc
    go by (Some s) was e = (by, inr (v, refl, (s, simple_of f.of s was)))

module _ (types : Declared) (calls : Calls) (scope : Scope) (scene : Scene) (at : Span) (cells : Cells) (fits : SceneFits types scope scene) (kept : AreKept scene.nodes types cells) where
  argument_given : (formal : Option DeclaredFormal) (arg : argument.Argument) → argument_fits scope formal arg ≡ true → IfGot (λ g. (f : DeclaredFormal) × (formal ≡ Some f) × FormalGiven scene.nodes types f g) (argument_of calls scene at cells arg)
  unfolding value_of type_of
  argument_given None (argument.Copy place) e = cc
  argument_given None (argument.CopyAll place) e = cc
  argument_given None (argument.Value body) e = cc
  argument_given None (argument.Place place) e = let (w, no_) = and_parts (may_write scope (root_of place)) false e in cc
  argument_given (Some f) (argument.Copy place) e = if_after (λ g. (f' : DeclaredFormal) × (Some f ≡ Some f') × FormalGiven scene.nodes types f' g) (place_of calls scene at cells place) (λ p. Got (Filled (only (cell_at cells p)))) (λ p. (f, refl, value_given scene.nodes types f _ (cell_at cells p) e))
  argument_given (Some f) (argument.Value body) e = if_after (λ g. (f' : DeclaredFormal) × (Some f ≡ Some f') × FormalGiven scene.nodes types f' g) (value_of calls scene at cells body) (λ v. Got (Filled (only v))) (λ v. (f, refl, value_given scene.nodes types f _ v e))
  argument_given (Some f) (argument.CopyAll place) e =
      let (by_value, rest) = and_parts (not f.by_place) (is_compound f.of && place_fits f.of (place_type scope place)) e in
      let (compound, same) = and_parts (is_compound f.of) (place_fits f.of (place_type scope place)) rest in
      go (not_true f.by_place by_value) (place_type scope place) refl same
    where
      go : f.by_place ≡ false → (o : Option AnyType) → place_type scope place ≡ o → place_fits f.of o ≡ true → IfGot (λ g. (f' : DeclaredFormal) × (Some f ≡ Some f') × FormalGiven scene.nodes types f' g) (given (place_of calls scene at cells place) (λ p. Got (Filled (contents_at cells p))))
      go by None was same = cc
      go by (Some V) was same = if_given (λ p. HasType types p V) (λ g. (f' : DeclaredFormal) × (Some f ≡ Some f') × FormalGiven scene.nodes types f' g) (place_of calls scene at cells place) (λ p. Got (Filled (contents_at cells p))) (place_has types calls scope scene at cells place V fits was) (λ p has. (f, refl, (by, inl (λ path leaf leads at'. contents_hold scene.nodes types cells p V kept has path leaf (sym (same_leaf f.of V same path) ∙ leads) at'))))
  argument_given (Some f) (argument.Place place) e =
      let (writable, rest) = and_parts (may_write scope (root_of place)) (f.by_place && place_fits f.of (place_type scope place)) e in
      let (by_place, same) = and_parts f.by_place (place_fits f.of (place_type scope place)) rest in
      go by_place (place_type scope place) refl same
    where
      go : f.by_place ≡ true → (o : Option AnyType) → place_type scope place ≡ o → place_fits f.of o ≡ true → IfGot (λ g. (f' : DeclaredFormal) × (Some f ≡ Some f') × FormalGiven scene.nodes types f' g) (given (place_of calls scene at cells place) (λ p. Got (Standing p)))
      go by None was same = cc
      go by (Some V) was same = if_given (λ p. HasType types p V) (λ g. (f' : DeclaredFormal) × (Some f ≡ Some f') × FormalGiven scene.nodes types f' g) (place_of calls scene at cells place) (λ p. Got (Standing p)) (place_has types calls scope scene at cells place V fits was) (λ p has. let (T, there, leads) = has in (f, refl, (by, (T, there, λ path. leads path ∙ sym (same_leaf f.of V same path)))))

  row_given : {n : _} (formals : List DeclaredFormal) (args : Row_of-Argument n) → row_fits scope formals args ≡ true → IfGot (GivenFit scene.nodes types formals) (row_arguments calls scene at cells args)
  unfolding value_of type_of
  row_given [] end_of-Argument e = tt
  row_given (f ∷ fs) end_of-Argument e = cc
  row_given [] (more_of-Argument first rest) e =
      let (one, others) = and_parts (argument_fits scope None first) (row_fits scope [] rest) e in
      if_given (λ g. (f : DeclaredFormal) × (None ≡ Some f) × FormalGiven scene.nodes types f g) (GivenFit scene.nodes types []) (argument_of calls scene at cells first) _ (argument_given None first one) (λ g has. let (f, wrong, fine) = has in absurd (not_some wrong))
  row_given (f ∷ fs) (more_of-Argument first rest) e =
      let (one, others) = and_parts (argument_fits scope (Some f) first) (row_fits scope fs rest) e in
      if_given (λ g. (f' : DeclaredFormal) × (Some f ≡ Some f') × FormalGiven scene.nodes types f' g) (GivenFit scene.nodes types (f ∷ fs)) (argument_of calls scene at cells first) _ (argument_given (Some f) first one)
      (λ g has. if_given (GivenFit scene.nodes types fs) (GivenFit scene.nodes types (f ∷ fs)) (row_arguments calls scene at cells rest) _ (row_given fs rest others) (λ gs more. let (f', same, fine) = has in (subst (λ h. FormalGiven scene.nodes types h g) (sym (some_same same)) fine, more)))

  pub arguments_given : (formals : List DeclaredFormal) (args : Arguments) → arguments_fit scope formals args ≡ true → IfGot (GivenFit scene.nodes types formals) (arguments_of calls scene at cells args)
  unfolding value_of type_of
  arguments_given formals (a.Of' _ args) e = row_given formals args e
