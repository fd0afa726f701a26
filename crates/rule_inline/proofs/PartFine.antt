-- Well-typed expressions, designators and arguments have fine terms and demands.
use Rattle.std.proofs.Common.{◌≡◌, ℕ, zero, suc, ◌+◌, Bool, true, false, not, ◌&&◌, List, [], ◌∷◌, map, Option, None, Some, refl, sym, ◌∙◌, arith}
use Rattle.std.specs.Prelude.{slice_get, option_map, option_and_then, is_some, if◌then◌else◌}
use Rattle.std.specs.List.{list_all}
use Rattle.std.specs.Option.{option_map_or}
use Rattle.std.proofs.lemmas.Bool.{and_parts}
use Rattle.term_core.specs.declared.value.Value.{Value}
use Rattle.term_core.specs.declared.value.Value.TheVariants as v
use Rattle.term_core.specs.declared.value.ArithOp.{ArithOp}
use Rattle.term_core.specs.declared.value.ArithOp.TheVariants as operation
use Rattle.term_core.specs.declared.machine.CellFamily.{CellFamily}
use Rattle.term_core.specs.declared.term.Term as t
use Rattle.term_core.specs.declared.term.Term.{Term}
use Rattle.term_core.specs.Variables.{is_no_node}
use Rattle.murphi_ast.specs.declared.expr.ChainOp.{ChainOp}
use Rattle.murphi_ast.specs.declared.expr.ChainOp.TheVariants as op
use Rattle.murphi_ast.specs.declared.expr.CompareOp.{CompareOp}
use Rattle.murphi_ast.specs.declared.expr.CompareOp.TheVariants as compare
use Rattle.murphi_typed.specs.declared.types.Kind.{Kind}
use Rattle.murphi_typed.specs.declared.types.Simple.{Simple}
use Rattle.murphi_typed.specs.declared.types.Simple.TheVariants as simple
use Rattle.murphi_typed.specs.declared.types.AnyType.{AnyType}
use Rattle.murphi_typed.specs.declared.expr.Root.{Root}
use Rattle.murphi_typed.specs.declared.expr.Root.TheVariants as root
use Rattle.murphi_typed.specs.declared.expr.Expr as x
use Rattle.murphi_typed.specs.declared.expr.Expr.{Expr, end_of-Expr, more_of-Expr, Row_of-Link, end_of-Link, more_of-Link}
use Rattle.murphi_typed.specs.declared.expr.Designator as d
use Rattle.murphi_typed.specs.declared.expr.Designator.{Designator, Row_of-Selector, end_of-Selector, more_of-Selector}
use Rattle.murphi_typed.specs.declared.expr.Selector as select
use Rattle.murphi_typed.specs.declared.expr.Arguments as a
use Rattle.murphi_typed.specs.declared.expr.Arguments.{Arguments, Row_of-Argument, end_of-Argument, more_of-Argument}
use Rattle.murphi_typed.specs.declared.expr.Argument as argument
use Rattle.murphi_typed.specs.declared.protocol.Formal.{Formal as DeclaredFormal}
use Rattle.murphi_typed.specs.declared.protocol.Routine.{Routine}
use Rattle.murphi_typed.specs.Forms.{NotForm, MinusForm, CompareForm, ImpliesForm, ChoiceForm, QuantifiedForm}
use Rattle.murphi_typed.specs.Prefix.{is_over_nodes}
use Rattle.murphi_typed.specs.WellTyped.{Scope as Typing, binding as typing_inside, widened, numbers, operand_type, comparable, simple_part, item_part, field_part, root_type, known_type, is_simple_type, is_of, only_if, may_write, root_of, is_compound, given_value, given_place, given_compound, first_of, rest_of, type_of, chain_type, place_type, selected_type, arguments_fit, row_fits, argument_fits}
use Rattle.rule_inline.specs.Demands.{demand, under_test}
use Rattle.rule_inline.specs.Tables.{Leaving, Result, Terms, under_variable, Axis, Among, Spot}
use Rattle.rule_inline.specs.Parts.{Given as Gift, Filled, Standing, Site, lifted_given, with_value, with_variable, Valued, Placed, Indexed, Argued, Done, Calls as TermCalls, fixed_values, undefined, is_defined, at_most, bounds, index_fits, range_fits, stored_fits, whole, lowest, highest, minus_one, product_fits, result_fits, calculated, joined, compared, over_values, demands_of, terms_of, bound_term, mark_of, whole_spot, stood_for, root_spot, one_index, valued_of, chain_of, placed_of, indices_of, argued_of, row_argued, one_argued}
use Rattle.rule_inline.proofs.ValueLemmas.{absurd_false}
use Rattle.rule_inline.proofs.TypeLemmas.{fixed_no_nodes}
use Rattle.rule_inline.proofs.TieLemmas.{only_is}
use Rattle.rule_inline.proofs.StandLemmas.{one_term}
use Rattle.rule_inline.proofs.FineLemmas.{Fine, AllFine, fine_more, fine-Known, fine-Var, fine-Not, fine-And, fine-Or, fine-If, fine-Same, fine-Less, fine-Arith, fine-Quantified}
use Rattle.rule_inline.proofs.PlaceFine.{DemandsFine, demands_joined, one_demand, each_demand, demand_fine, under_fine, binding_fine, TermsFine, ShownFine, IndicesFine, indices_joined, indices_under, terms_under, shown_fine, read_of_fine, only_fine, ChangeFine}

-- What is known of the parts of what is typed

pub some_mapped : {A B : Type 0} (f : A → B) (o : Option A) → is_some (option_map f o) ≡ true → is_some o ≡ true
some_mapped f None e = absurd_false e
some_mapped f (Some y) e = refl

pub some_simple : (o : Option AnyType) → is_some (simple_part o) ≡ true → is_some o ≡ true
some_simple None e = absurd_false e
some_simple (Some U) e = refl

pub some_if : {A : Type 0} (b : Bool) (o : Option A) → is_some (only_if b o) ≡ true → b ≡ true
some_if true o e = refl
some_if false o e = absurd_false e

pub some_of : (u : Simple) (o : Option Simple) → is_of u o ≡ true → is_some o ≡ true
some_of u None e = absurd_false e
some_of u (Some w) e = refl

same_some : (l r : Option Simple) → comparable compare.Equal l r ≡ true → (is_some l ≡ true) × (is_some r ≡ true)
same_some None r e = absurd_false e
same_some (Some l) None e = absurd_false e
same_some (Some l) (Some r) e = (refl, refl)

numbers_some : (l r : Option Simple) → (is_of numbers l && is_of numbers r) ≡ true → (is_some l ≡ true) × (is_some r ≡ true)
numbers_some l r e = let (a, b) = and_parts (is_of numbers l) (is_of numbers r) e in (some_of numbers l a, some_of numbers r b)

pub compared_some : (by : CompareOp) (l r : Option Simple) → comparable by l r ≡ true → (is_some l ≡ true) × (is_some r ≡ true)
compared_some compare.Equal l r e = same_some l r e
compared_some compare.NotEqual None r e = absurd_false e
compared_some compare.NotEqual (Some l) None e = absurd_false e
compared_some compare.NotEqual (Some l) (Some r) e = (refl, refl)
compared_some compare.Less l r e = numbers_some l r e
compared_some compare.LessEqual l r e = numbers_some l r e
compared_some compare.Greater l r e = numbers_some l r e
compared_some compare.GreaterEqual l r e = numbers_some l r e

chain_none : {n : _} (ts : Typing) (rest : Row_of-Link n) → is_some (chain_type ts None rest) ≡ false
unfolding type_of
chain_none ts end_of-Link = refl
chain_none ts (more_of-Link by operand rest) = chain_none ts rest

selected_nothing : {n : _} (ts : Typing) (selectors : Row_of-Selector n) → is_some (selected_type ts None selectors) ≡ false
unfolding type_of
selected_nothing ts end_of-Selector = refl
selected_nothing ts (more_of-Selector (select.Field name) rest) = selected_nothing ts rest
selected_nothing ts (more_of-Selector (select.Index over index) rest) = go (is_of over (type_of ts index)) (selected_nothing ts rest)
  where
    go : (b : Bool) → is_some (selected_type ts None rest) ≡ false → is_some (selected_type ts (only_if b None) rest) ≡ false
    go true e = e
    go false e = e

chain_first : {n : _} (ts : Typing) (o : Option Simple) (rest : Row_of-Link n) → is_some (chain_type ts o rest) ≡ true → is_some o ≡ true
chain_first ts None rest e = absurd_false (sym (chain_none ts rest) ∙ e)
chain_first ts (Some u) rest e = refl

known_no_node : (kinds : List Kind) (w : Value) → is_some (known_type kinds w) ≡ true → is_no_node w ≡ true
known_no_node kinds v.Undefined e = refl
known_no_node kinds (v.Truth b) e = refl
known_no_node kinds (v.Number z) e = refl
known_no_node kinds (v.Member k i) e = refl
known_no_node kinds (v.Node n) e = absurd_false e

value_some : (f : Option DeclaredFormal) (o : Option Simple) → given_value f o ≡ true → is_some o ≡ true
value_some None o e = absurd_false e
value_some (Some f) o e = go (simple_part (Some f.of)) (and_parts (not f.by_place) (option_map_or (λ u. is_of u o) (simple_part (Some f.of)) false) e).1
  where
    go : (p : Option Simple) → option_map_or (λ u. is_of u o) p false ≡ true → is_some o ≡ true
    go None e = absurd_false e
    go (Some u) e = some_of u o e

and_nothing : (b : Bool) → (b && false) ≡ true → false ≡ true
and_nothing true e = e
and_nothing false e = e

place_some : (f : Option DeclaredFormal) (o : Option AnyType) → given_place f o ≡ true → is_some o ≡ true
place_some None o e = absurd_false e
place_some (Some f) None e = absurd_false (and_nothing f.by_place e)
place_some (Some f) (Some U) e = refl

compound_some : (f : Option DeclaredFormal) (o : Option AnyType) → given_compound f o ≡ true → is_some o ≡ true
compound_some None o e = absurd_false e
compound_some (Some f) None e = absurd_false (and_nothing (is_compound f.of) (and_parts (not f.by_place) (is_compound f.of && false) e).1)
compound_some (Some f) (Some U) e = refl

routine_some : (ts : Typing) (k : ℕ) (args : Arguments) (o : Option Routine) → is_some (option_and_then (λ (r : Routine). only_if (arguments_fit ts r.formals args) (option_map widened r.result)) o) ≡ true → (formals : List DeclaredFormal) × (arguments_fit ts formals args ≡ true)
routine_some ts k args None e = absurd_false e
routine_some ts k args (Some r) e = (r.formals, some_if (arguments_fit ts r.formals args) (option_map widened r.result) e)

module _ (families : List CellFamily) where
  abbrev pub ValuedFine : ℕ → Valued → Type 0
  ValuedFine n e = Fine families n e.term × DemandsFine families n e.demands

  abbrev pub DoneFine : ℕ → Done → Type 0
  DoneFine n body = ChangeFine families n body.change × DemandsFine families n body.demands

  abbrev pub PlacedFine : ℕ → Placed → Type 0
  PlacedFine n p = IndicesFine families n p.spot.at × DemandsFine families n p.demands

  abbrev pub GiftFine : ℕ → Gift → Type 0
  GiftFine n (Filled m plain shown) = ShownFine families n shown
  GiftFine n (Standing spot) = IndicesFine families n spot.at

  abbrev pub GiftsFine : ℕ → List Gift → Type 0
  GiftsFine n [] = Unit {0}
  GiftsFine n (g ∷ gs) = GiftFine n g × GiftsFine n gs

  abbrev pub StandFine : ℕ → List Gift → Type 0
  StandFine n [] = Unit {0}
  StandFine n (Filled m plain shown ∷ gs) = StandFine n gs
  StandFine n (Standing spot ∷ gs) = IndicesFine families n spot.at × StandFine n gs

  pub gifts_stand : (n : ℕ) (gs : List Gift) → GiftsFine n gs → StandFine n gs
  gifts_stand n [] f = tt
  gifts_stand n (Filled m plain shown ∷ gs) (one, f) = gifts_stand n gs f
  gifts_stand n (Standing spot ∷ gs) (one, f) = (one, gifts_stand n gs f)

  abbrev pub SiteFine : Site → Type 0
  SiteFine site = ((k : ℕ) → Fine families site.frame (bound_term site k)) × StandFine site.frame site.formals

  undefined_fine : (n : ℕ) → Fine families n undefined
  undefined_fine n = fine-Known families n v.Undefined refl

  pub site_value : (site : Site) (w : Value) → is_no_node w ≡ true → SiteFine site → SiteFine (with_value site w)
  site_value site w nn f = (λ k. one_term (Fine families site.frame) site.bound (t.Known w) k (undefined_fine site.frame) (fine-Known families site.frame w nn) f.0, f.1)

  stand_under : (n : ℕ) (gs : List Gift) → StandFine n gs → StandFine (suc n) (map (lifted_given n) gs)
  stand_under n [] f = tt
  stand_under n (Filled m plain shown ∷ gs) f = stand_under n gs f
  stand_under n (Standing spot ∷ gs) (one, f) = (indices_under families n spot.at one, stand_under n gs f)

  pub site_node : (site : Site) → SiteFine site → SiteFine (with_variable site)
  site_node site f = (
    λ k. one_term (Fine families (suc site.frame)) site.bound (t.Var site.frame) k (undefined_fine (suc site.frame)) (fine-Var families (suc site.frame) site.frame (omega arith)) (λ j. fine_more families site.frame (suc site.frame) (bound_term site j) (omega arith) (f.0 j)),
    stand_under site.frame site.formals f.1,
  )

  -- Conditions

  pub defined_fine : (n : ℕ) (e : Term) → Fine families n e → Fine families n (is_defined e)
  defined_fine n e f = fine-Not families n (t.Same e undefined) (fine-Same families n e undefined f (undefined_fine n))

  most_fine : (n : ℕ) (a b : Term) → Fine families n a → Fine families n b → Fine families n (at_most a b)
  most_fine n a b f g = fine-Not families n (t.Less b a) (fine-Less families n b a g f)

  bounds_fine : (n : ℕ) (u : Simple) (e : Term) → Fine families n e → AllFine families n (bounds u e)
  bounds_fine n (simple.Range low high) e f = (most_fine n (t.Known (v.Number low)) e (fine-Known families n (v.Number low) refl) f, (most_fine n e (t.Known (v.Number high)) f (fine-Known families n (v.Number high) refl), tt))
  bounds_fine n simple.Truth e f = tt
  bounds_fine n (simple.Listed kind count) e f = tt
  bounds_fine n (simple.Scalarset kind count) e f = tt
  bounds_fine n simple.Node e f = tt

  index_fine : (n : ℕ) (u : Simple) (e : Term) → Fine families n e → Fine families n (index_fits u e)
  index_fine n u e f = fine-And families n (is_defined e ∷ bounds u e) (defined_fine n e f, bounds_fine n u e f)

  range_fine : (n : ℕ) (plain : Bool) (e : Term) (ts : List Term) → Fine families n e → AllFine families n ts → DemandsFine families n (range_fits plain e ts)
  range_fine n plain e [] f a = tt
  range_fine n true e (test ∷ ts) f a =
      one_demand families n (t.Or (t.Same e undefined ∷ t.And (test ∷ ts) ∷ []))
      (fine-Or families n (t.Same e undefined ∷ t.And (test ∷ ts) ∷ []) (fine-Same families n e undefined f (undefined_fine n), (fine-And families n (test ∷ ts) a, tt)))
  range_fine n false e (test ∷ ts) f a = one_demand families n (t.And (test ∷ ts)) (fine-And families n (test ∷ ts) a)

  pub stored_fine : (n : ℕ) (plain : Bool) (into : Simple) (e : Term) → Fine families n e → DemandsFine families n (stored_fits plain into e)
  stored_fine n plain into e f = range_fine n plain e (bounds into e) f (bounds_fine n into e f)

  whole_fine : (n k : ℕ) → Fine families n (whole k)
  whole_fine n k = fine-Known families n _ refl

  lowest_fine : (n : ℕ) → Fine families n lowest
  lowest_fine n = fine-Known families n _ refl

  highest_fine : (n : ℕ) → Fine families n highest
  highest_fine n = fine-Known families n _ refl

  minus_fine : (n : ℕ) → Fine families n minus_one
  minus_fine n = fine-Known families n _ refl

  divided : (n : ℕ) (bound right : Term) → Fine families n bound → Fine families n right → Fine families n (t.Arith operation.Divide bound right)
  divided n bound right f g = fine-Arith families n operation.Divide bound right f g

  product_fine : (n : ℕ) (left right : Term) → Fine families n left → Fine families n right → Fine families n (product_fits left right)
  product_fine n left right f g =
      let high = divided n highest right (highest_fine n) g in
      let low = divided n lowest right (lowest_fine n) g in
      fine-If families n _ _ _ (fine-Less families n (whole 0) right (whole_fine n 0) g)
      (fine-And families n _ (most_fine n left _ f high, (most_fine n _ left low f, tt)))
      (fine-If families n _ _ _ (fine-Same families n right (whole 0) g (whole_fine n 0)) (fine-Known families n (v.Truth true) refl)
      (fine-If families n _ _ _ (fine-Same families n right minus_one g (minus_fine n)) (fine-Not families n _ (fine-Same families n left lowest f (lowest_fine n)))
      (fine-And families n _ (most_fine n _ left high f, (most_fine n left _ f low, tt)))))

  result_fine : (n : ℕ) (by : ArithOp) (left right : Term) → Fine families n left → Fine families n right → AllFine families n (result_fits by left right)
  result_fine n operation.Add left right f g = (
    fine-If families n _ _ _ (fine-Less families n (whole 0) right (whole_fine n 0) g)
        (most_fine n left _ f (fine-Arith families n operation.Subtract highest right (highest_fine n) g))
        (most_fine n _ left (fine-Arith families n operation.Subtract lowest right (lowest_fine n) g) f),
    tt,
  )
  result_fine n operation.Subtract left right f g = (
    fine-If families n _ _ _ (fine-Less families n (whole 0) right (whole_fine n 0) g)
        (most_fine n _ left (fine-Arith families n operation.Add lowest right (lowest_fine n) g) f)
        (most_fine n left _ f (fine-Arith families n operation.Add highest right (highest_fine n) g)),
    tt,
  )
  result_fine n operation.Times left right f g = (product_fine n left right f g, tt)
  result_fine n operation.Divide left right f g = (
    fine-Not families n _ (fine-Same families n right (whole 0) g (whole_fine n 0)),
    (fine-Not families n _ (fine-And families n _ (fine-Same families n left lowest f (lowest_fine n), (fine-Same families n right minus_one g (minus_fine n), tt))), tt),
  )
  result_fine n operation.Modulo left right f g = (fine-Not families n _ (fine-Same families n right (whole 0) g (whole_fine n 0)), tt)

  calculated_fine : (n : ℕ) (by : ArithOp) (left : Term) (right : Valued) → Fine families n left → ValuedFine n right → ValuedFine n (calculated by left right)
  calculated_fine n by left right f g = (
    fine-Arith families n by left right.term f g.0,
    demands_joined families n right.demands (map demand (result_fits by left right.term)) g.1 (each_demand families n (result_fits by left right.term) (result_fine n by left right.term f g.0)),
  )

  joined_fine : (n : ℕ) (by : ChainOp) (left : Term) (right : Valued) → Fine families n left → ValuedFine n right → ValuedFine n (joined n by left right)
  joined_fine n op.Or left right f g = (fine-Or families n (left ∷ right.term ∷ []) (f, (g.0, tt)), under_fine families n (t.Not left) right.demands (fine-Not families n left f) g.1)
  joined_fine n op.And left right f g = (fine-And families n (left ∷ right.term ∷ []) (f, (g.0, tt)), under_fine families n left right.demands f g.1)
  joined_fine n op.Add left right f g = calculated_fine n operation.Add left right f g
  joined_fine n op.Subtract left right f g = calculated_fine n operation.Subtract left right f g
  joined_fine n op.Times left right f g = calculated_fine n operation.Times left right f g
  joined_fine n op.Divide left right f g = calculated_fine n operation.Divide left right f g
  joined_fine n op.Modulo left right f g = calculated_fine n operation.Modulo left right f g

  compared_fine : (n : ℕ) (by : CompareOp) (l r : Term) → Fine families n l → Fine families n r → Fine families n (compared by l r)
  compared_fine n compare.Equal l r f g = fine-Same families n l r f g
  compared_fine n compare.NotEqual l r f g = fine-Not families n (t.Same l r) (fine-Same families n l r f g)
  compared_fine n compare.Less l r f g = fine-Less families n l r f g
  compared_fine n compare.LessEqual l r f g = fine-Not families n (t.Less r l) (fine-Less families n r l g f)
  compared_fine n compare.Greater l r f g = fine-Less families n r l g f
  compared_fine n compare.GreaterEqual l r f g = fine-Not families n (t.Less l r) (fine-Less families n l r f g)

  -- instances
  instances_terms : (n : ℕ) (f : Value → Valued) (ws : List Value) → list_all is_no_node ws ≡ true → ((w : Value) → is_no_node w ≡ true → ValuedFine n (f w)) → AllFine families n (terms_of (map f ws)) × DemandsFine families n (demands_of (map f ws))
  instances_terms n f [] nn each = (tt, tt)
  instances_terms n f (w ∷ ws) nn each =
      let (one, rest) = and_parts (is_no_node w) (list_all is_no_node ws) nn in
      let first = each w one in
      let others = instances_terms n f ws rest each in
      ((first.0, others.0), demands_joined families n (f w).demands (demands_of (map f ws)) first.1 others.1)

  instances_fine : (n : ℕ) (all : Bool) (f : Value → Valued) (ws : List Value) → list_all is_no_node ws ≡ true → ((w : Value) → is_no_node w ≡ true → ValuedFine n (f w)) → ValuedFine n (over_values all (map f ws))
  instances_fine n true f ws nn each = let both = instances_terms n f ws nn each in (fine-And families n (terms_of (map f ws)) both.0, both.1)
  instances_fine n false f ws nn each = let both = instances_terms n f ws nn each in (fine-Or families n (terms_of (map f ws)) both.0, both.1)

  -- what calls do is fine where what they are given is
  abbrev pub CallsFine : TermCalls → Type 0
  CallsFine tcalls = (k : ℕ) (site : Site) (T : Terms) (gs : List Gift) → TermsFine families site.frame T → GiftsFine site.frame gs → DoneFine site.frame (tcalls k site T gs)

  stood_fine : (n : ℕ) (other : Spot) (gs : List Gift) (k : ℕ) → IndicesFine families n other.at → StandFine n gs → IndicesFine families n (stood_for other (slice_get gs k)).at
  stood_fine n other [] k own f = own
  stood_fine n other (Filled m plain shown ∷ gs) zero own f = own
  stood_fine n other (Standing spot ∷ gs) zero own (one, f) = one
  stood_fine n other (Filled m plain shown ∷ gs) (suc k) own f = stood_fine n other gs k own f
  stood_fine n other (Standing spot ∷ gs) (suc k) own (one, f) = stood_fine n other gs k own f

  root_fine : (site : Site) (r : Root) → SiteFine site → IndicesFine families site.frame (root_spot site r).at
  root_fine site (root.Global k) f = tt
  root_fine site (root.Local k) f = tt
  root_fine site (root.Formal k) f = tt
  root_fine site (root.Place k) f = stood_fine site.frame (whole_spot site (root.Place k)) site.formals k tt f.1

  one_index_fine : (n : ℕ) (over : Simple) (m : Option ℕ) (e : Valued) (rest : Indexed) → ValuedFine n e → IndicesFine families n rest.indices → DemandsFine families n rest.demands → IndicesFine families n (one_index over m e rest).indices × DemandsFine families n (one_index over m e rest).demands
  one_index_fine n over m e rest f is ds = (
    go (is_over_nodes over) refl,
    demands_joined families n e.demands (demand (index_fits over e.term) ∷ rest.demands) f.1 (demand_fine families n (index_fits over e.term) (index_fine n over e.term f.0), ds),
  )
    where
      go : (b : Bool) → is_over_nodes over ≡ b → IndicesFine families n ((if b then Axis m e.term else Among (fixed_values over) e.term) ∷ rest.indices)
      go true was = (f.0, is)
      go false was = ((f.0, fixed_no_nodes over was), is)

  module _ (tcalls : TermCalls) (calls_fine : CallsFine tcalls) where
    mutual
      unfolding valued_of type_of

      pub value_fine : (e : Expr) (ts : Typing) (site : Site) (T : Terms) → SiteFine site → TermsFine families site.frame T → is_some (type_of ts e) ≡ true → ValuedFine site.frame (valued_of tcalls site T e)
      value_fine (x.Known w) ts site T s f typed = (fine-Known families site.frame w (known_no_node ts.kinds w typed), tt)
      value_fine (x.Bound k) ts site T s f typed = (s.0 k, tt)
      value_fine (x.Read place) ts site T s f typed =
          let p = place_fine place ts site T s f (some_simple (place_type ts place) (some_mapped widened (simple_part (place_type ts place)) typed)) in
          let r = read_of_fine families site.frame T (placed_of tcalls site T place).spot f p.0 in
          (r, demands_joined families site.frame (placed_of tcalls site T place).demands _ p.1 (one_demand families site.frame _ (defined_fine site.frame _ r)))
      value_fine (x.Call k args _) ts site T s f typed =
          let (formals, fits) = routine_some ts k args (slice_get ts.routines k) typed in
          let g = arguments_fine args formals ts site T s f fits in
          let c = calls_fine k site T (argued_of tcalls site T args).given f g.0 in (
            fine_more families (site.frame + 0) site.frame _ (omega arith) (c.0.0 Result tt),
            demands_joined families site.frame (argued_of tcalls site T args).demands _ g.1
                (demands_joined families site.frame (tcalls k site T (argued_of tcalls site T args).given).demands _ c.1 (one_demand families site.frame _ (fine_more families (site.frame + 0) site.frame _ (omega arith) (c.0.0 Leaving tt)))),
          )
      value_fine (NotForm body) ts site T s f typed =
          let g = value_fine body ts site T s f (some_of simple.Truth (type_of ts body) (some_if (is_of simple.Truth (type_of ts body)) (Some simple.Truth) typed)) in
          (fine-Not families site.frame _ g.0, g.1)
      value_fine (MinusForm body) ts site T s f typed =
          calculated_fine site.frame operation.Subtract (whole 0) (valued_of tcalls site T body) (whole_fine site.frame 0) (value_fine body ts site T s f (some_of numbers (type_of ts body) (some_if (is_of numbers (type_of ts body)) (Some numbers) typed)))
      value_fine (x.Chain' _ (more_of-Expr first end_of-Expr) _ rest) ts site T s f typed =
          chain_fine rest ts site T (type_of ts first) (valued_of tcalls site T first) s f (value_fine first ts site T s f (chain_first ts (type_of ts first) rest typed)) typed
      value_fine (CompareForm by left right) ts site T s f typed =
          let (l, r) = compared_some by (type_of ts left) (type_of ts right) (some_if (comparable by (type_of ts left) (type_of ts right)) (Some simple.Truth) typed) in
          let g = value_fine left ts site T s f l in
          let h = value_fine right ts site T s f r in
          (compared_fine site.frame by _ _ g.0 h.0, demands_joined families site.frame (valued_of tcalls site T left).demands _ g.1 h.1)
      value_fine (ImpliesForm left right) ts site T s f typed =
          let (l, r) = and_parts (is_of simple.Truth (type_of ts left)) (is_of simple.Truth (type_of ts right)) (some_if (is_of simple.Truth (type_of ts left) && is_of simple.Truth (type_of ts right)) (Some simple.Truth) typed) in
          let g = value_fine left ts site T s f (some_of simple.Truth (type_of ts left) l) in
          let h = value_fine right ts site T s f (some_of simple.Truth (type_of ts right) r) in
          (fine-Or families site.frame _ (fine-Not families site.frame _ g.0, (h.0, tt)), demands_joined families site.frame (valued_of tcalls site T left).demands _ g.1 (under_fine families site.frame _ (valued_of tcalls site T right).demands g.0 h.1))
      value_fine (ChoiceForm test then' else') ts site T s f typed =
          let (one, two) = and_parts (is_of simple.Truth (type_of ts test)) (comparable compare.Equal (type_of ts then') (type_of ts else')) (some_if (is_of simple.Truth (type_of ts test) && comparable compare.Equal (type_of ts then') (type_of ts else')) (type_of ts then') typed) in
          let (l, r) = compared_some compare.Equal (type_of ts then') (type_of ts else') two in
          let q = value_fine test ts site T s f (some_of simple.Truth (type_of ts test) one) in
          let g = value_fine then' ts site T s f l in
          let h = value_fine else' ts site T s f r in (
            fine-If families site.frame _ _ _ q.0 g.0 h.0,
            demands_joined families site.frame (valued_of tcalls site T test).demands _ q.1
                (demands_joined families site.frame (under_test site.frame (valued_of tcalls site T test).term (valued_of tcalls site T then').demands) _ (under_fine families site.frame _ (valued_of tcalls site T then').demands q.0 g.1) (under_fine families site.frame _ (valued_of tcalls site T else').demands (fine-Not families site.frame _ q.0) h.1)),
          )
      value_fine (QuantifiedForm all simple.Node body) ts site T s f typed =
          let g = value_fine body (typing_inside ts simple.Node) (with_variable site) (under_variable site.frame T) (site_node site s) (terms_under families site.frame T f) (some_of simple.Truth (type_of (typing_inside ts simple.Node) body) (some_if (is_of simple.Truth (type_of (typing_inside ts simple.Node) body)) (Some simple.Truth) typed)) in
          (fine-Quantified families site.frame all _ g.0, binding_fine families site.frame _ g.1)
      value_fine (QuantifiedForm all simple.Truth body) ts site T s f typed =
          instances_fine site.frame all (λ w. valued_of tcalls (with_value site w) T body) (fixed_values simple.Truth) (fixed_no_nodes simple.Truth refl)
          (λ w nn. value_fine body (typing_inside ts simple.Truth) (with_value site w) T (site_value site w nn s) f (some_of simple.Truth (type_of (typing_inside ts simple.Truth) body) (some_if (is_of simple.Truth (type_of (typing_inside ts simple.Truth) body)) (Some simple.Truth) typed)))
      value_fine (QuantifiedForm all (simple.Range low high) body) ts site T s f typed =
          instances_fine site.frame all (λ w. valued_of tcalls (with_value site w) T body) (fixed_values (simple.Range low high)) (fixed_no_nodes (simple.Range low high) refl)
          (λ w nn. value_fine body (typing_inside ts (simple.Range low high)) (with_value site w) T (site_value site w nn s) f (some_of simple.Truth (type_of (typing_inside ts (simple.Range low high)) body) (and_parts (is_simple_type ts.kinds (simple.Range low high)) (is_of simple.Truth (type_of (typing_inside ts (simple.Range low high)) body)) (some_if (is_simple_type ts.kinds (simple.Range low high) && is_of simple.Truth (type_of (typing_inside ts (simple.Range low high)) body)) (Some simple.Truth) typed)).1))
      value_fine (QuantifiedForm all (simple.Listed kind count) body) ts site T s f typed =
          instances_fine site.frame all (λ w. valued_of tcalls (with_value site w) T body) (fixed_values (simple.Listed kind count)) (fixed_no_nodes (simple.Listed kind count) refl)
          (λ w nn. value_fine body (typing_inside ts (simple.Listed kind count)) (with_value site w) T (site_value site w nn s) f (some_of simple.Truth (type_of (typing_inside ts (simple.Listed kind count)) body) (and_parts (is_simple_type ts.kinds (simple.Listed kind count)) (is_of simple.Truth (type_of (typing_inside ts (simple.Listed kind count)) body)) (some_if (is_simple_type ts.kinds (simple.Listed kind count) && is_of simple.Truth (type_of (typing_inside ts (simple.Listed kind count)) body)) (Some simple.Truth) typed)).1))
      value_fine (QuantifiedForm all (simple.Scalarset kind count) body) ts site T s f typed =
          instances_fine site.frame all (λ w. valued_of tcalls (with_value site w) T body) (fixed_values (simple.Scalarset kind count)) (fixed_no_nodes (simple.Scalarset kind count) refl)
          (λ w nn. value_fine body (typing_inside ts (simple.Scalarset kind count)) (with_value site w) T (site_value site w nn s) f (some_of simple.Truth (type_of (typing_inside ts (simple.Scalarset kind count)) body) (and_parts (is_simple_type ts.kinds (simple.Scalarset kind count)) (is_of simple.Truth (type_of (typing_inside ts (simple.Scalarset kind count)) body)) (some_if (is_simple_type ts.kinds (simple.Scalarset kind count) && is_of simple.Truth (type_of (typing_inside ts (simple.Scalarset kind count)) body)) (Some simple.Truth) typed)).1))
      value_fine (x.IsUndefined place) ts site T s f typed =
          let p = place_fine place ts site T s f (some_simple (place_type ts place) (some_if (is_some (simple_part (place_type ts place))) (Some simple.Truth) typed)) in
          (fine-Same families site.frame _ undefined (read_of_fine families site.frame T (placed_of tcalls site T place).spot f p.0) (undefined_fine site.frame), p.1)

      chain_fine : {n : _} (rest : Row_of-Link n) (ts : Typing) (site : Site) (T : Terms) (o : Option Simple) (before : Valued) → SiteFine site → TermsFine families site.frame T → ValuedFine site.frame before → is_some (chain_type ts o rest) ≡ true → ValuedFine site.frame (chain_of tcalls site T before rest)
      chain_fine end_of-Link ts site T o before s f b typed = b
      chain_fine (more_of-Link by operand rest) ts site T o before s f b typed =
          let both = some_if (is_of (operand_type by) o && is_of (operand_type by) (type_of ts operand)) (Some (operand_type by)) (chain_first ts (only_if (is_of (operand_type by) o && is_of (operand_type by) (type_of ts operand)) (Some (operand_type by))) rest typed) in
          let (one, two) = and_parts (is_of (operand_type by) o) (is_of (operand_type by) (type_of ts operand)) both in
          let g = joined_fine site.frame by before.term (valued_of tcalls site T operand) b.0 (value_fine operand ts site T s f (some_of (operand_type by) (type_of ts operand) two)) in
          chain_fine rest ts site T _ _ s f (g.0, demands_joined families site.frame before.demands _ b.1 g.1) typed

      pub place_fine : (place : Designator) (ts : Typing) (site : Site) (T : Terms) → SiteFine site → TermsFine families site.frame T → is_some (place_type ts place) ≡ true → PlacedFine site.frame (placed_of tcalls site T place)
      place_fine (d.Of' r _ selectors _) ts site T s f typed =
          let is = indices_fine selectors ts site T (root_type ts r) s f typed in
          (indices_joined families site.frame (root_spot site r).at (indices_of tcalls site T selectors).indices (root_fine site r s) is.0, is.1)

      indices_fine : {n : _} (selectors : Row_of-Selector n) (ts : Typing) (site : Site) (T : Terms) (o : Option AnyType) → SiteFine site → TermsFine families site.frame T → is_some (selected_type ts o selectors) ≡ true → IndicesFine families site.frame (indices_of tcalls site T selectors).indices × DemandsFine families site.frame (indices_of tcalls site T selectors).demands
      indices_fine end_of-Selector ts site T o s f typed = (tt, tt)
      indices_fine (more_of-Selector (select.Field name) rest) ts site T o s f typed = indices_fine rest ts site T (field_part o name) s f typed
      indices_fine (more_of-Selector (select.Index over index) rest) ts site T o s f typed =
          let (fits, more) = only_is (is_of over (type_of ts index)) (item_part o over) (λ p. is_some (selected_type ts p rest)) (selected_nothing ts rest) typed in
          let is = indices_fine rest ts site T (item_part o over) s f more in
          one_index_fine site.frame over (mark_of site index) (valued_of tcalls site T index) (indices_of tcalls site T rest) (value_fine index ts site T s f (some_of over (type_of ts index) fits)) is.0 is.1

      pub arguments_fine : (args : Arguments) (formals : List DeclaredFormal) (ts : Typing) (site : Site) (T : Terms) → SiteFine site → TermsFine families site.frame T → arguments_fit ts formals args ≡ true → GiftsFine site.frame (argued_of tcalls site T args).given × DemandsFine families site.frame (argued_of tcalls site T args).demands
      arguments_fine (a.Of' _ args) formals ts site T s f fits = row_fine args formals ts site T s f fits

      row_fine : {n : _} (args : Row_of-Argument n) (formals : List DeclaredFormal) (ts : Typing) (site : Site) (T : Terms) → SiteFine site → TermsFine families site.frame T → row_fits ts formals args ≡ true → GiftsFine site.frame (row_argued tcalls site T args).given × DemandsFine families site.frame (row_argued tcalls site T args).demands
      row_fine end_of-Argument formals ts site T s f fits = (tt, tt)
      row_fine (more_of-Argument first rest) formals ts site T s f fits =
          let (one, more) = and_parts (argument_fits ts (first_of formals) first) (row_fits ts (rest_of formals) rest) fits in
          argument_fine first (first_of formals) ts site T (row_argued tcalls site T rest) s f one (row_fine rest (rest_of formals) ts site T s f more)

      argument_fine : (arg : argument.Argument) (formal : Option DeclaredFormal) (ts : Typing) (site : Site) (T : Terms) (rest : Argued) → SiteFine site → TermsFine families site.frame T → argument_fits ts formal arg ≡ true → GiftsFine site.frame rest.given × DemandsFine families site.frame rest.demands → GiftsFine site.frame (one_argued tcalls site T arg rest).given × DemandsFine families site.frame (one_argued tcalls site T arg rest).demands
      argument_fine (argument.Copy place) formal ts site T rest s f fits (gs, ds) =
          let p = place_fine place ts site T s f (some_simple (place_type ts place) (some_mapped widened (simple_part (place_type ts place)) (value_some formal (option_map widened (simple_part (place_type ts place))) fits))) in
          ((only_fine families site.frame _ (read_of_fine families site.frame T (placed_of tcalls site T place).spot f p.0), gs), demands_joined families site.frame (placed_of tcalls site T place).demands rest.demands p.1 ds)
      argument_fine (argument.CopyAll place) formal ts site T rest s f fits (gs, ds) =
          let p = place_fine place ts site T s f (compound_some formal (place_type ts place) fits) in
          ((shown_fine families site.frame T (placed_of tcalls site T place).spot f p.0, gs), demands_joined families site.frame (placed_of tcalls site T place).demands rest.demands p.1 ds)
      argument_fine (argument.Value body) formal ts site T rest s f fits (gs, ds) =
          let g = value_fine body ts site T s f (value_some formal (type_of ts body) fits) in
          ((only_fine families site.frame _ g.0, gs), demands_joined families site.frame (valued_of tcalls site T body).demands rest.demands g.1 ds)
      argument_fine (argument.Place place) formal ts site T rest s f fits (gs, ds) =
          let (may, given) = and_parts (may_write ts (root_of place)) (given_place formal (place_type ts place)) fits in
          let p = place_fine place ts site T s f (place_some formal (place_type ts place) given) in
          ((p.0, gs), demands_joined families site.frame (placed_of tcalls site T place).demands rest.demands p.1 ds)
