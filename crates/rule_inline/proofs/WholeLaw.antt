-- The machine of a well-typed protocol is whole.
use Rattle.std.proofs.Common.{◌≡◌, ℕ, zero, suc, ◌+◌, ◌<◌, ◌≤◌, Bool, true, false, ◌&&◌, List, [], ◌∷◌, ◌++◌, length, map, reverse, Option, None, Some, refl, sym, ap, ◌∙◌, subst, arith}
use Rattle.std.specs.Prelude.{max, nat_eq, nat_le, nat_lt, slice_get, unwrap_or, if◌then◌else◌, IsTrue}
use Rattle.std.specs.List.{All, AllByRecursion, IsDistinct, flat_map, list_all}
use Rattle.std.specs.Option.{option_map_or}
use Rattle.std.proofs.lemmas.Bool.{and_parts}
use Rattle.std.proofs.lemmas.Map.Keys.{IsDistinct-cons}
use Rattle.term_core.specs.declared.value.Value.TheVariants as v
use Rattle.term_core.specs.declared.machine.CellFamily.{CellFamily}
use Rattle.term_core.specs.declared.machine.Piece.{Piece}
use Rattle.term_core.specs.declared.machine.Update.{Update}
use Rattle.term_core.specs.declared.machine.TermRule.{TermRule}
use Rattle.term_core.specs.Variables.{free_variables, fits, has_axes}
use Rattle.term_core.specs.Firing.{node_parameters}
use Rattle.term_core.specs.Whole.{UpdatesOnce, IsWithinPrefix, axes_of, BindsVariables, HasBlank, LeavesDefined, ReadsCells, members_in_range, IsWhole}
use Rattle.murphi_typed.specs.declared.types.Kind.{Kind}
use Rattle.murphi_typed.specs.declared.types.Simple.{Simple}
use Rattle.murphi_typed.specs.declared.types.Simple.TheVariants as simple
use Rattle.murphi_typed.specs.declared.types.AnyType as type
use Rattle.murphi_typed.specs.declared.types.AnyType.{AnyType, Row_of-Field, end_of-Field, more_of-Field}
use Rattle.murphi_typed.specs.declared.protocol.Guard.{Guard}
use Rattle.murphi_typed.specs.declared.protocol.Parameter.{Parameter}
use Rattle.murphi_typed.specs.declared.protocol.Rule.{Rule}
use Rattle.murphi_typed.specs.declared.protocol.Start.{Start}
use Rattle.murphi_typed.specs.declared.protocol.Typed.{Typed}
use Rattle.murphi_typed.specs.declared.protocol.Variable.{Variable}
use Rattle.murphi_typed.specs.declared.stmt.Stmt.{Stmt}
use Rattle.murphi_typed.specs.Forms.{ArrayForm}
use Rattle.murphi_typed.specs.Values.{sort_of}
use Rattle.murphi_typed.specs.Families.{Into, Over, Way, one_more, ways, row_ways, axes_of as step_axes, choices, Cell, cells_on, cells_from, cells}
use Rattle.murphi_typed.specs.Prefix.{node_parameters as node_params, guard_depth, stmt_depth, routine_depths, rule_prefix}
use Rattle.murphi_typed.specs.WellTyped.{is_listed, is_scalarset, is_type, are_fields, is_simple_type, type_of, top_scope, guard_fits, stmt_fits, is_well_typed, are_variables, are_parameter_types, rule_fits, routines_fit, start_fits, formula_fits}
use Rattle.murphi_typed.specs.Keeping.{LatestFit}
use Rattle.murphi_typed.specs.Laws.{BlankBodiesAreTyped}
use Rattle.rule_inline.specs.Demands.{Demand, under_test, piece_of, truth_term}
use Rattle.rule_inline.specs.Tables.{Key, holes, Family, Leaving, Result, Change, variables, writes}
use Rattle.rule_inline.specs.Parts.{Valued, Done, undefined}
use Rattle.rule_inline.specs.Laws.{RuleWithin, StartWithin, IsWithin, TranslationIsWhole}
use Rattle.rule_inline.specs.Machine.{CellsOf, family_of, families_of, slot_of, number_of, cell_family, own_read, first_terms, instances, parameter_terms, top_site, top_terms, calls_of, guard_of, body_done, or_true, updates_from, instance_of, rule_at, start_at, rules_of, starts_of, trans}
use Rattle.rule_inline.proofs.ValueLemmas.{nat_itself}
use Rattle.rule_inline.proofs.TypeLemmas.{not_some}
use Rattle.rule_inline.proofs.PlaceLemmas.{NoNodes}
use Rattle.rule_inline.proofs.PrefixLemmas.{Within, more_within, both_within, under_within, value_within, stmt_within, calls_within}
use Rattle.rule_inline.proofs.FormulaPrefix.{instance_holes}
use Rattle.rule_inline.proofs.FirstTerms.{Each, each_of, each_weaker, each_joined, each_map, each_flat, get_map, IsAt, numbered, slot_is}
use Rattle.rule_inline.proofs.StepLemmas.{each_at, each_found, key_no_nodes}
use Rattle.rule_inline.proofs.FormulaLaw.{all_each, each_all}
use Rattle.rule_inline.proofs.PresentsLaw.{all_fit, marked_count, instance_none}
use Rattle.rule_inline.proofs.FineLemmas.{Fine, fine-Known, fine-Var, fine-Read}
use Rattle.rule_inline.proofs.PlaceFine.{variables_length, DemandsFine, demands_joined, under_fine, body_fine, truth_fine, TermsFine, variables_fine}
use Rattle.rule_inline.proofs.PartFine.{some_of, ValuedFine, DoneFine, SiteFine, CallsFine, value_fine}
use Rattle.rule_inline.proofs.BodyFine.{stmt_fine, calls_in_fine}

-- Kinds of at most 256 members

simple_small : (kinds : List Kind) (u : Simple) → is_simple_type kinds u ≡ true → members_in_range (sort_of u) ≡ true
simple_small kinds simple.Truth e = refl
simple_small kinds (simple.Range low high) e = refl
simple_small kinds (simple.Listed kind count) e = (and_parts (nat_lt 0 count) (nat_le count 256) (and_parts (is_listed (slice_get kinds kind) count) (nat_lt 0 count && nat_le count 256) e).1).1
simple_small kinds (simple.Scalarset kind count) e = (and_parts (nat_lt 0 count) (nat_le count 256) (and_parts (is_scalarset (slice_get kinds kind) count) (nat_lt 0 count && nat_le count 256) e).1).1
simple_small kinds simple.Node e = refl

abbrev IsSmall : Way → Type 0
IsSmall way = members_in_range (sort_of way.leaf) ≡ true

mutual
  unfolding ways is_type

  ways_small : (kinds : List Kind) (of : AnyType) → is_type kinds of ≡ true → Each IsSmall (ways of)
  ways_small kinds (type.Simple u) e = (simple_small kinds u e, tt)
  ways_small kinds (type.Record' _ fields) e = row_small kinds fields e
  ways_small kinds (ArrayForm index item) e = each_map IsSmall (one_more (Over index)) (ways item) (ways_small kinds item (and_parts (is_simple_type kinds index) (is_type kinds item) e).1)

  row_small : {n : _} (kinds : List Kind) (fields : Row_of-Field n) → are_fields kinds fields ≡ true → Each IsSmall (row_ways fields)
  row_small kinds end_of-Field e = tt
  row_small kinds (more_of-Field name of rest) e =
      let (one, more) = and_parts (is_type kinds of) _ e in
      each_joined IsSmall (map (one_more (Into name)) (ways of)) (row_ways rest) (each_map IsSmall (one_more (Into name)) (ways of) (ways_small kinds of one)) (row_small kinds rest (and_parts _ (are_fields kinds rest) more).1)

cells_small : (kinds : List Kind) (k : ℕ) (vs : List Variable) → are_variables kinds vs ≡ true → Each (λ (c : Cell). members_in_range (sort_of c.way.leaf) ≡ true) (cells_from 1 k vs)
cells_small kinds k [] e = tt
cells_small kinds k (w ∷ vs) e =
    let (one, rest) = and_parts (is_type kinds w.of) (are_variables kinds vs) e in
    each_joined (λ (c : Cell). members_in_range (sort_of c.way.leaf) ≡ true) (flat_map (cells_on 1 k) (ways w.of)) (cells_from 1 (suc k) vs)
    (each_flat (λ (c : Cell). members_in_range (sort_of c.way.leaf) ≡ true) (cells_on 1 k) (ways w.of)
    (each_weaker IsSmall (λ way. Each (λ (c : Cell). members_in_range (sort_of c.way.leaf) ≡ true) (cells_on 1 k way))
    (λ way small. each_map (λ (c : Cell). members_in_range (sort_of c.way.leaf) ≡ true) (λ at. record { global = k; way = way; at = at }) (choices 1 (step_axes way.steps)) (each_of (λ at. members_in_range (sort_of way.leaf) ≡ true) (λ at. small) (choices 1 (step_axes way.steps)))) (ways w.of) (ways_small kinds w.of one)))
    (cells_small kinds (suc k) vs rest)

-- Updates

updates_each : (P : Update → Type 0) (first : ℕ) (cs : List CellsOf) (change : Change) → ((i : ℕ) (c : CellsOf) → slice_get cs i ≡ Some c → P (record { family = first + i; body = change.now (slot_of c) })) → Each P (updates_from first cs change)
updates_each P first [] change each = tt
updates_each P first (c ∷ cs) change each = go (writes (slot_of c) change) (updates_each P (suc first) cs change (λ i d there. later i d (each (suc i) d there)))
  where
    later : (i : ℕ) (d : CellsOf) → P (record { family = first + suc i; body = change.now (slot_of d) }) → P (record { family = suc first + i; body = change.now (slot_of d) })
    later i d p = let same : first + suc i ≡ suc first + i = omega arith in subst (λ f. P (record { family = f; body = change.now (slot_of d) })) same p

    here : P (record { family = first; body = change.now (slot_of c) })
    here = let same : first + 0 ≡ first = omega arith in subst (λ f. P (record { family = f; body = change.now (slot_of c) })) same (each 0 c refl)

    go : (b : Bool) → Each P (updates_from (suc first) cs change) → Each P (if b then record { family = first; body = change.now (slot_of c) } ∷ updates_from (suc first) cs change else updates_from (suc first) cs change)
    go true rest = (here, rest)
    go false rest = rest

abbrev numbers_of : List Update → List ℕ
numbers_of us = map (λ (u : Update). u.family) us

none_again : (bound first : ℕ) (cs : List CellsOf) (change : Change) → bound < first → AllByRecursion (λ y. nat_eq bound y ≡ false) (numbers_of (updates_from first cs change))
none_again bound first [] change less = tt
none_again bound first (c ∷ cs) change less = go (writes (slot_of c) change) (none_again bound (suc first) cs change (omega (arith, less)))
  where
    go : (b : Bool) → AllByRecursion (λ y. nat_eq bound y ≡ false) (numbers_of (updates_from (suc first) cs change)) → AllByRecursion (λ y. nat_eq bound y ≡ false) (numbers_of (if b then record { family = first; body = change.now (slot_of c) } ∷ updates_from (suc first) cs change else updates_from (suc first) cs change))
    go true rest = (grind (arith, less), rest)
    go false rest = rest

updates_distinct : (first : ℕ) (cs : List CellsOf) (change : Change) → IsDistinct nat_eq (numbers_of (updates_from first cs change))
unfolding IsDistinct
updates_distinct first [] change = tt
updates_distinct first (c ∷ cs) change = go (writes (slot_of c) change) (updates_distinct (suc first) cs change)
  where
    go : (b : Bool) → IsDistinct nat_eq (numbers_of (updates_from (suc first) cs change)) → IsDistinct nat_eq (numbers_of (if b then record { family = first; body = change.now (slot_of c) } ∷ updates_from (suc first) cs change else updates_from (suc first) cs change))
    go true rest = IsDistinct-cons nat_eq first (numbers_of (updates_from (suc first) cs change)) (none_again first (suc first) cs change (omega arith)) rest
    go false rest = rest

below_length : {A : Type 0} (xs : List A) (i : ℕ) (y : A) → slice_get xs i ≡ Some y → i < length xs
below_length [] i y e = not_some e
below_length (x ∷ xs) zero y e = omega arith
below_length (x ∷ xs) (suc i) y e = let less = below_length xs i y e in omega (arith, less)

-- Pieces

or_true_each : (P : Piece → Type 0) (ps : List Piece) → P (record { binders = 0; body = truth_term true }) → Each P ps → Each P (or_true ps)
or_true_each P [] p e = (p, tt)
or_true_each P (q ∷ ps) p e = e

within_each : (m n : ℕ) (qs : List Demand) → Within n qs → Each (λ q. m + (piece_of q).binders ≤ m + n) qs
within_each m n [] w = tt
within_each m n (q ∷ qs) (one, w) = (omega (arith, one), within_each m n qs w)

module _ (T : Typed) where
  abbrev families : List CellFamily
  families = map (cell_family T) (families_of T)

  -- Before anything is done

  first_fine : (n : ℕ) → TermsFine families n (first_terms (families_of T) n)
  first_fine n (Family owner path key) none = go (number_of (families_of T) owner path key) (numbered 0 (families_of T) owner path key)
    where
      go : (o : Option ℕ) → IsAt 0 (families_of T) owner path key o → Fine families (n + holes key) (option_map_or (own_read n key) o undefined)
      go None is = fine-Known families (n + holes key) v.Undefined refl
      go (Some f) (i, d, at, found, is) =
          let (o_is, p_is, k_is) = slot_is d owner path key is in
          let same : f ≡ i = omega (arith, at) in
          fine-Read families (n + holes key) f (variables n (holes key))
          (ap (λ g. has_axes families g (length (variables n (holes key)))) same
          ∙ ap (λ o. option_map_or (λ (family : CellFamily). nat_eq (length (variables n (holes key))) family.axes) o false) (get_map (cell_family T) (families_of T) i d found)
          ∙ ap (λ l. nat_eq l (holes d.key)) (variables_length n (holes key) ∙ ap holes (sym k_is)) ∙ nat_itself (holes d.key))
          (variables_fine families (n + holes key) n (holes key) (omega arith))
  first_fine n Leaving none = truth_fine families (n + 0) false
  first_fine n Result none = fine-Known families (n + 0) v.Undefined refl

  parameters_fine : (m next : ℕ) (key : Key) (k : ℕ) → NoNodes key → next + holes key ≤ m → Fine families m (unwrap_or (slice_get (parameter_terms next key) k) undefined)
  parameters_fine m next [] k none less = fine-Known families m v.Undefined refl
  parameters_fine m next (None ∷ key) zero none less = fine-Var families m next (omega (arith, less))
  parameters_fine m next (None ∷ key) (suc k) none less = parameters_fine m (suc next) key k none (omega (arith, less))
  parameters_fine m next (Some w ∷ key) zero (nn, none) less = fine-Known families m w nn
  parameters_fine m next (Some w ∷ key) (suc k) (nn, none) less = parameters_fine m next key k none less

  site_fine : (key : Key) → NoNodes key → SiteFine families (top_site key)
  site_fine key none = (λ k. parameters_fine (holes key) 0 key k none (omega arith), tt)

  -- One instance

  pub record Good (r : TermRule) : Type 0 where
    pub parameters : node_parameters r ≤ 3
    pub updates : UpdatesOnce families r
    pub prefix : IsWithinPrefix r
    pub variables : BindsVariables families r
    pub reads : ReadsCells families r
    pub defined : LeavesDefined families r

  module _ (title : List ℕ) (params : List Parameter) (prefix : ℕ) (key : Key) (guard : Valued) (body : Done) (none : NoNodes key) (few : holes key ≤ 3) (g : ValuedFine families (holes key) guard) (b : DoneFine families (holes key) body) (depth : ℕ) (guard_within : Within depth guard.demands) (body_within : Within depth body.demands) (long : holes key + depth ≤ prefix) where
    abbrev r : TermRule
    r = instance_of T title params prefix key guard body

    abbrev demands : List Demand
    demands = guard.demands ++ under_test (holes key) guard.term body.demands

    count : node_parameters r ≡ holes key
    count = marked_count 1 key none

    demands_fine : DemandsFine families (holes key) demands
    demands_fine = demands_joined families (holes key) guard.demands (under_test (holes key) guard.term body.demands) g.1 (under_fine families (holes key) guard.term body.demands g.0 b.1)

    demands_within : Within depth demands
    demands_within = both_within depth guard.demands (under_test (holes key) guard.term body.demands) guard_within (under_within depth (holes key) guard.term body.demands body_within)

    pieces_each : (P : Piece → Type 0) → P (record { binders = 0; body = truth_term true }) → Each (λ q. P (piece_of q)) demands → Each P r.ok
    pieces_each P p e = or_true_each P (map piece_of demands) p (each_map P piece_of demands e)

    each_fine : (qs : List Demand) → DemandsFine families (holes key) qs → Each (λ q. Fine families (holes key + q.binders) (piece_of q).body) qs
    each_fine [] f = tt
    each_fine (q ∷ qs) (one, f) = (body_fine families (holes key) q one, each_fine qs f)

    piece_terms : Each (λ (p : Piece). Fine families (holes key + p.binders) p.body) r.ok
    piece_terms = pieces_each (λ (p : Piece). Fine families (holes key + p.binders) p.body) (truth_fine families (holes key + 0) true) (each_fine demands demands_fine)

    piece_binders : Each (λ (p : Piece). holes key + p.binders ≤ prefix) r.ok
    piece_binders =
        pieces_each (λ (p : Piece). holes key + p.binders ≤ prefix) (omega (arith, long))
        (each_weaker (λ q. holes key + (piece_of q).binders ≤ holes key + depth) (λ q. holes key + (piece_of q).binders ≤ prefix) (λ q less. omega (arith, less, long)) demands (within_each (holes key) depth demands demands_within))

    family_there : (i : ℕ) (c : CellsOf) → slice_get (families_of T) i ≡ Some c → slice_get families (0 + i) ≡ Some (cell_family T c)
    family_there i c there = let same : 0 + i ≡ i = omega arith in ap (slice_get families) same ∙ get_map (cell_family T) (families_of T) i c there

    updates_of_each : (P : Update → Type 0) → ((i : ℕ) (c : CellsOf) → slice_get (families_of T) i ≡ Some c → P (record { family = 0 + i; body = body.change.now (slot_of c) })) → Each P r.updates
    updates_of_each P each = updates_each P 0 (families_of T) body.change each

    update_fine : (i : ℕ) (c : CellsOf) → slice_get (families_of T) i ≡ Some c → Fine families (holes key + axes_of families (0 + i)) (body.change.now (slot_of c))
    update_fine i c there =
        subst (λ o. Fine families (holes key + option_map_or (λ (family : CellFamily). family.axes) o 0) (body.change.now (slot_of c))) (sym (family_there i c there))
        (b.0.0 (slot_of c) (key_no_nodes T i c there))

    pub good : Good r
    good = record {
      parameters = subst (λ n. n ≤ 3) (sym count) few;
      updates = (
        each_all (λ (u : Update). u.family < length families) r.updates (updates_of_each (λ (u : Update). u.family < length families) (λ i c there. below_length families (0 + i) (cell_family T c) (family_there i c there))),
        updates_distinct 0 (families_of T) body.change,
      );
      prefix = (
        subst (λ n. n ≤ prefix) (sym count) (omega (arith, long)),
        each_all (λ (p : Piece). node_parameters r + p.binders ≤ prefix) r.ok (subst (λ n. Each (λ (p : Piece). n + p.binders ≤ prefix) r.ok) (sym count) piece_binders),
      );
      variables = record {
        guard = subst (λ n. free_variables guard.term ≤ n) (sym count) g.0.0;
        updates = each_all (λ (u : Update). free_variables u.body ≤ node_parameters r + axes_of families u.family) r.updates
            (updates_of_each (λ (u : Update). free_variables u.body ≤ node_parameters r + axes_of families u.family) (λ i c there. subst (λ n. free_variables (body.change.now (slot_of c)) ≤ n + axes_of families (0 + i)) (sym count) (update_fine i c there).0));
        pieces = each_all (λ (p : Piece). free_variables p.body ≤ node_parameters r + p.binders) r.ok
            (subst (λ n. Each (λ (p : Piece). free_variables p.body ≤ n + p.binders) r.ok) (sym count) (each_weaker (λ (p : Piece). Fine families (holes key + p.binders) p.body) (λ (p : Piece). free_variables p.body ≤ holes key + p.binders) (λ p f. f.0) r.ok piece_terms));
      };
      reads = record {
        guard = g.0.1;
        updates = each_all (λ (u : Update). IsTrue (fits families u.body)) r.updates (updates_of_each (λ (u : Update). IsTrue (fits families u.body)) (λ i c there. (update_fine i c there).1));
        pieces = each_all (λ (p : Piece). IsTrue (fits families p.body)) r.ok (each_weaker (λ (p : Piece). Fine families (holes key + p.binders) p.body) (λ (p : Piece). IsTrue (fits families p.body)) (λ p f. f.1) r.ok piece_terms);
      };
      defined = each_all (λ (u : Update). IsTrue (option_map_or (λ (family : CellFamily). family.undefined) (slice_get families u.family) false)) r.updates
          (updates_of_each (λ (u : Update). IsTrue (option_map_or (λ (family : CellFamily). family.undefined) (slice_get families u.family) false)) (λ i c there. ap (λ o. option_map_or (λ (family : CellFamily). family.undefined) o false) (family_there i c there)));
    }

  -- All instances

  module _ (blanks : BlankBodiesAreTyped) (well : is_well_typed T ≡ true) (within : IsWithin T) where
    known : LatestFit T (reverse T.routines)
    known = (blanks 1 T [] [] [] well refl refl refl).known

    calls : CallsFine families (calls_of T)
    calls = calls_in_fine families T (reverse T.routines) known

    abbrev Tests : Type 0
    Tests = (are_variables T.kinds T.globals ≡ true) × ((list_all (start_fits T) T.starts ≡ true) × (list_all (rule_fits T) T.rules ≡ true))

    tests : Tests
    tests =
        let (globals, rest) = and_parts (are_variables T.kinds T.globals) (routines_fit T [] T.routines && (list_all (start_fits T) T.starts && (list_all (rule_fits T) T.rules && list_all (formula_fits T) T.invariants))) well in
        let (routines, more) = and_parts (routines_fit T [] T.routines) (list_all (start_fits T) T.starts && (list_all (rule_fits T) T.rules && list_all (formula_fits T) T.invariants)) rest in
        let (starts, last) = and_parts (list_all (start_fits T) T.starts) (list_all (rule_fits T) T.rules && list_all (formula_fits T) T.invariants) more in
        (globals, (starts, (and_parts (list_all (rule_fits T) T.rules) (list_all (formula_fits T) T.invariants) last).0))

    guard_fine : (locals : List Variable) (params : List Parameter) (key : Key) (guard : Option Guard) → NoNodes key → guard_fits (top_scope T locals params) guard ≡ true → ValuedFine families (holes key) (guard_of T key guard)
    guard_fine locals params key None none fits' = (truth_fine families (holes key) true, tt)
    guard_fine locals params key (Some guard) none fits' = value_fine families (calls_of T) calls guard.test (top_scope T locals params) (top_site key) (top_terms T key) (site_fine key none) (first_fine (holes key)) (some_of simple.Truth (type_of (top_scope T locals params) guard.test) fits')

    guard_within : (key : Key) (guard : Option Guard) → Within (guard_depth (routine_depths T.routines) guard) (guard_of T key guard).demands
    guard_within key None = tt
    guard_within key (Some guard) = value_within (calls_of T) (routine_depths T.routines) (calls_within (reverse T.routines)) [] (top_site key) (top_terms T key) guard.test

    one_good : (title : List ℕ) (locals : List Variable) (params : List Parameter) (prefix : ℕ) (guard : Option Guard) (body : Stmt) (i : ℕ) (key : Key) → slice_get (instances params) i ≡ Some key → guard_fits (top_scope T locals params) guard ≡ true → stmt_fits (top_scope T locals params) body ≡ true → node_params params ≤ 3 → prefix ≡ rule_prefix T.routines params guard body
        → Good (instance_of T title params prefix key (guard_of T key guard) (body_done T key body))
    one_good title locals params prefix guard body i key there gf bf few long =
        let none : NoNodes key = instance_none params i key there in
        let same : holes key ≡ node_params params = each_at (λ k. holes k ≡ node_params params) (instances params) (all_each (λ k. holes k ≡ node_params params) (instances params) (instance_holes params)) i key there in
        let gd : ℕ = guard_depth (routine_depths T.routines) guard in
        let sd : ℕ = stmt_depth (routine_depths T.routines) [] body in
        good title params prefix key (guard_of T key guard) (body_done T key body) none (omega (arith, same, few)) (guard_fine locals params key guard none gf)
        (stmt_fine families (calls_of T) calls body (top_scope T locals params) (top_site key) (top_terms T key) (site_fine key none) (first_fine (holes key)) bf)
        (max (guard_depth (routine_depths T.routines) guard) (stmt_depth (routine_depths T.routines) [] body))
        (more_within (guard_depth (routine_depths T.routines) guard) (max (guard_depth (routine_depths T.routines) guard) (stmt_depth (routine_depths T.routines) [] body)) (guard_of T key guard).demands (omega arith) (guard_within key guard))
        (more_within (stmt_depth (routine_depths T.routines) [] body) (max (guard_depth (routine_depths T.routines) guard) (stmt_depth (routine_depths T.routines) [] body)) (body_done T key body).demands (omega arith)
        (stmt_within (calls_of T) (routine_depths T.routines) (calls_within (reverse T.routines)) [] (top_site key) (top_terms T key) body))
        (omega (arith, same, long))

    rule_good : (k : ℕ) (q : Rule) → slice_get T.rules k ≡ Some q → Each Good (rules_of T q)
    rule_good k q there =
        let w = each_at (RuleWithin T) T.rules (all_each (RuleWithin T) T.rules within.rules) k q there in
        let (params, rest) = and_parts (are_parameter_types T.kinds q.params) (are_variables T.kinds q.locals && (guard_fits (top_scope T q.locals q.params) q.guard && stmt_fits (top_scope T q.locals q.params) q.body)) (all_fit (rule_fits T) T.rules k q tests.1.1 there) in
        let (locals, more) = and_parts (are_variables T.kinds q.locals) (guard_fits (top_scope T q.locals q.params) q.guard && stmt_fits (top_scope T q.locals q.params) q.body) rest in
        let (gf, bf) = and_parts (guard_fits (top_scope T q.locals q.params) q.guard) (stmt_fits (top_scope T q.locals q.params) q.body) more in
        each_map Good (rule_at T q) (instances q.params)
        (each_found 1 (λ key. Good (rule_at T q key)) (instances q.params) (λ i key at. one_good q.title q.locals q.params q.prefix q.guard q.body i key at gf bf w.parameters w.prefix))

    start_good : (k : ℕ) (q : Start) → slice_get T.starts k ≡ Some q → Each Good (starts_of T q)
    start_good k q there =
        let w = each_at (StartWithin T) T.starts (all_each (StartWithin T) T.starts within.starts) k q there in
        let (params, rest) = and_parts (are_parameter_types T.kinds q.params) (are_variables T.kinds q.locals && stmt_fits (top_scope T q.locals q.params) q.body) (all_fit (start_fits T) T.starts k q tests.1.0 there) in
        let (locals, bf) = and_parts (are_variables T.kinds q.locals) (stmt_fits (top_scope T q.locals q.params) q.body) rest in
        each_map Good (start_at T q) (instances q.params)
        (each_found 1 (λ key. Good (start_at T q key)) (instances q.params) (λ i key at. one_good q.title q.locals q.params q.prefix None q.body i key at refl bf w.parameters w.prefix))

    all_rules : Each Good (trans T).rules
    all_rules = each_flat Good (rules_of T) T.rules (each_found 1 (λ q. Each Good (rules_of T q)) T.rules rule_good)

    all_starts : Each Good (trans T).starts
    all_starts = each_flat Good (starts_of T) T.starts (each_found 1 (λ q. Each Good (starts_of T q)) T.starts start_good)

    of_all : (P : TermRule → Type 0) → ((q : TermRule) → Good q → P q) → All P (trans T).starts × All P (trans T).rules
    of_all P from = (each_all P (trans T).starts (each_weaker Good P from (trans T).starts all_starts), each_all P (trans T).rules (each_weaker Good P from (trans T).rules all_rules))

    has_blank : (c : CellsOf) → HasBlank (cell_family T c)
    has_blank c e = cc

    members_small : Each (λ (family : CellFamily). IsTrue (members_in_range family.sort)) families
    members_small =
        each_map (λ (family : CellFamily). IsTrue (members_in_range family.sort)) (cell_family T) (families_of T)
        (each_map (λ (d : CellsOf). members_in_range (sort_of d.of) ≡ true) family_of (cells 1 T) (cells_small T.kinds 0 T.globals tests.0))

    pub is_whole : IsWhole (trans T)
    is_whole = record {
      parameters = of_all (λ q. node_parameters q ≤ 3) (λ q one. one.parameters);
      updates = of_all (λ q. UpdatesOnce families q) (λ q one. one.updates);
      prefixes = of_all IsWithinPrefix (λ q one. one.prefix);
      variables = of_all (λ q. BindsVariables families q) (λ q one. one.variables);
      blanks = (each_all HasBlank families (each_map HasBlank (cell_family T) (families_of T) (each_of (λ c. HasBlank (cell_family T c)) has_blank (families_of T))), (of_all (λ q. LeavesDefined families q) (λ q one. one.defined)).0);
      reads = of_all (λ q. ReadsCells families q) (λ q one. one.reads);
      members = each_all (λ (family : CellFamily). IsTrue (members_in_range family.sort)) families members_small;
    }

pub translation_is_whole : BlankBodiesAreTyped → TranslationIsWhole
translation_is_whole blanks T well within = is_whole T blanks well within
