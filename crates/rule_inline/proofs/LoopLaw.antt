-- A loop over all nodes whose turns do not meet becomes one update: its demands are those of one turn for all nodes,
-- and each family that it writes has the term after one turn, for the node that is the cell's own index.
use Rattle.std.proofs.Common.{◌≡◌, ℕ, zero, suc, ◌≤◌, Bool, true, false, List, [], ◌∷◌, ◌++◌, length, reverse, Option, None, Some, ◌⊎◌, inl, inr, refl, sym, ap, ◌∙◌, subst, append_assoc, arith}
use Rattle.std.specs.Prelude.{slice_get, option_and_then, nat_le}
use Rattle.std.specs.List.{list_all}
use Rattle.std.specs.Option.{option_map_or}
use Rattle.std.proofs.lemmas.Bool.{and_parts}
use Rattle.term_core.specs.declared.value.Value.TheVariants as v
use Rattle.term_core.specs.Nodes.{is_node}
use Rattle.term_core.specs.Meaning.{Cells, value_of}
use Rattle.term_core.specs.Laws.{PlacingBinds}
use Rattle.murphi_ast.specs.declared.token.Span.{Span}
use Rattle.murphi_typed.specs.declared.types.Simple.TheVariants as simple
use Rattle.murphi_typed.specs.declared.stmt.Stmt.{Row_of-Stmt}
use Rattle.murphi_typed.specs.declared.protocol.Routine.{Routine}
use Rattle.murphi_typed.specs.declared.protocol.Typed.{Typed}
use Rattle.murphi_typed.specs.Families.{Path}
use Rattle.murphi_typed.specs.Store.{Owner, Global, Local, Formal, Cells as Store}
use Rattle.murphi_typed.specs.Outcome.{Outcome, Got, Fault, given}
use Rattle.murphi_typed.specs.Execution.{Ending, Next, Returned, cells_after, run_all, calls_of}
use Rattle.murphi_typed.specs.Expressions.{with_bound}
use Rattle.murphi_typed.specs.WellTyped.{binding as typing_inside, body_fits}
use Rattle.murphi_typed.specs.Keeping.{Declared}
use Rattle.murphi_typed.specs.Laws.{ValuesFitInBodies, BodiesKeepTypes, FunctionsGiveResults}
use Rattle.scalarset_rules.specs.Accesses.{Scope, next_binder, Loop, opened_in, binding}
use Rattle.scalarset_rules.specs.Rules.{marks}
use Rattle.scalarset_rules.specs.Turns.{family_place, is_own, in_scope, StandsIn, KeepsApart, loop_over, turn, whole, AreMerged, LoopFaults, LoopEnds, TurnsGoOn, WritesHaveOnePlace}
use Rattle.rule_inline.specs.Demands.{binding as demand_binding}
use Rattle.rule_inline.specs.Tables.{Key, holes, Slot, Family, Leaving, Terms, Marks, under_variable, axes, closed, axis_in, over_nodes}
use Rattle.rule_inline.specs.Parts.{Given as Gift, Site, with_variable, Done}
use Rattle.rule_inline.specs.Bodies.{all_done, calls_in}
use Rattle.rule_inline.specs.Presents.{at_nodes}
use Rattle.rule_inline.proofs.TermLemmas.{is_true, length-one_more}
use Rattle.rule_inline.proofs.Outcome.{AllHold, Nodes, Tells, all_binding, fails_binding}
use Rattle.rule_inline.proofs.PlaceLemmas.{NoNodes, reaches, Rep}
use Rattle.rule_inline.proofs.TypeLemmas.{not_some, some_one}
use Rattle.rule_inline.proofs.SceneLemmas.{rep_under, at_frame, inner}
use Rattle.rule_inline.proofs.ChangeLemmas.{row_unwritten, calls_unwritten}
use Rattle.rule_inline.proofs.EndLemmas.{Body, body_node, EndsWith, checked}
use Rattle.rule_inline.proofs.StatementLemmas.{Follows}
use Rattle.rule_inline.proofs.StatementLaw.{LoopsTell}
use Rattle.rule_inline.proofs.ClosedLemmas.{closed_value}
use Rattle.rule_inline.proofs.MarkLemmas.{hole_at, hole_node, no_hole, FirstIs, ties_axis, write_there}
use Rattle.rule_inline.proofs.FirstWrites.{row_first, calls_first}
use Rattle.rule_inline.proofs.StandLemmas.{Tied, stands_in, loop_tie}

-- what is asked of a loop: it stands in a scope of the symmetry rules, and its turns do not meet
abbrev pub Apart : List Routine → (n : _) → Site → Row_of-Stmt n → Type 0
Apart latest n site body = (sc : Scope) × ((types : Declared) × (KeepsApart types latest sc body × Tied sc site))

-- Nodes

node_from : (N k : ℕ) → 1 ≤ k → k ≤ N → is_node N k ≡ true
node_from N k low high = grind (arith, low, high)

node_low : (N k : ℕ) → is_node N k ≡ true → 1 ≤ k
node_low N k e = let (a, b) = and_parts (nat_le 1 k) (nat_le k N) e in grind (arith, a)

node_high : (N k : ℕ) → is_node N k ≡ true → k ≤ N
node_high N k e = let (a, b) = and_parts (nat_le 1 k) (nat_le k N) e in grind (arith, b)

node_at_place : (N : ℕ) (ns : List ℕ) (k n : ℕ) → list_all (is_node N) ns ≡ true → slice_get ns k ≡ Some n → is_node N n ≡ true
node_at_place N [] k n all e = not_some e
node_at_place N (m ∷ ns) zero n all e = ap (is_node N) (sym (some_one e)) ∙ (and_parts (is_node N m) (list_all (is_node N) ns) all).0
node_at_place N (m ∷ ns) (suc k) n all e = node_at_place N ns k n (and_parts (is_node N m) (list_all (is_node N) ns) all).1 e

-- one turn faults, or none
abbrev pub Faulty : (ℕ → Outcome Ending) → ℕ → Type 0
Faulty G N = (k : ℕ) × ((at : Span) × ((1 ≤ k) × ((k ≤ N) × (G k ≡ Fault at))))

abbrev pub Fine : (ℕ → Outcome Ending) → ℕ → Type 0
Fine G N = (k : ℕ) → 1 ≤ k → k ≤ N → (e : Ending) × (G k ≡ Got e)

faulty_or_fine : (G : ℕ → Outcome Ending) (N : ℕ) → Faulty G N ⊎ Fine G N
faulty_or_fine G zero = inr (λ k low high. absurd (omega (arith, low, high)))
faulty_or_fine G (suc N) = go (faulty_or_fine G N) (G (suc N)) refl
  where
    go : Faulty G N ⊎ Fine G N → (o : Outcome Ending) → G (suc N) ≡ o → Faulty G (suc N) ⊎ Fine G (suc N)
    go (inl (k, (at, (low, (high, e))))) o was = inl (k, (at, (low, (omega (arith, high), e))))
    go (inr fine) (Fault at) was = inl (suc N, (at, (omega arith, (omega arith, was))))
    go (inr fine) (Got e) was = inr (λ k low high. last k low high (nat_le k N) refl)
      where
        last : (k : ℕ) → 1 ≤ k → k ≤ suc N → (b : Bool) → nat_le k N ≡ b → (e : Ending) × (G k ≡ Got e)
        last k low high true was' = fine k low (grind (arith, was'))
        last k low high false was' = let same : k ≡ suc N = grind (arith, was', high) in (e, ap G same ∙ was)

abbrev ending_of : Store → Outcome Ending → Ending
ending_of c (Fault at) = Next c
ending_of c (Got e) = e

ending_is : (c : Store) (o : Outcome Ending) (e : Ending) → o ≡ Got e → o ≡ Got (ending_of c o)
ending_is c (Fault at) e was = cc
ending_is c (Got f) e was = refl

shallow : (depth : ℕ) (owner : Owner) → reaches depth owner ≡ true → in_scope depth owner ≡ true
shallow depth (Global k) e = refl
shallow depth (Local of k) e = grind (arith, e)
shallow depth (Formal of k) e = grind (arith, e)

module _ (faults : LoopFaults) (ends : LoopEnds) (on : TurnsGoOn) (places : WritesHaveOnePlace) (binds : PlacingBinds) (fit : ValuesFitInBodies) (keep : BodiesKeepTypes) (results : FunctionsGiveResults) (s : Cells) (P : Typed) (latest : List Routine) (types : Declared) (allowed : ℕ → Site → List Gift → Type 0) where
  module _ (b : Body s P latest types) (at : Span) {n : _} (body : Row_of-Stmt n) (fits : body_fits (typing_inside b.scope simple.Node) body ≡ true) (sc : Scope) (kinds : Declared) (apart : KeepsApart kinds latest sc body) (tied : Tied sc (at_frame b.fr b.site))
      (each : (k : ℕ) (is : is_node b.scene.nodes k ≡ true) → Follows binds fit keep results s P latest types (calls_in latest) allowed (body_node results s P latest types b k is) at (run_all (calls_of latest) (with_bound b.scene (v.Node k)) b.cells body) (all_done (calls_in latest) (at_frame (b.fr ++ k ∷ []) (inner b.fr b.site)) (under_variable (length b.fr) b.T) body)) where
    abbrev N : ℕ
    N = b.scene.nodes

    abbrev frame : ℕ
    frame = length b.fr

    abbrev site' : Site
    site' = with_variable (at_frame b.fr b.site)

    abbrev T' : Terms
    T' = under_variable frame b.T

    abbrev D : Done
    D = all_done (calls_in latest) site' T' body

    abbrev loop : Loop
    loop = loop_over latest sc body

    abbrev one_turn : ℕ → Outcome Ending
    one_turn k = turn latest b.scene body k b.cells

    abbrev Said : ℕ → Outcome Ending → Type 0
    Said k o = Tells N s (b.fr ++ k ∷ []) (given o (checked N s at b.site.result)) D.demands (EndsWith N s b.scene.depth (b.fr ++ k ∷ []) b.site.result D.change)

    said : (k : ℕ) → is_node N k ≡ true → Said k (one_turn k)
    said k is =
        subst (λ m. Tells N s (b.fr ++ k ∷ []) (given (one_turn k) (checked N s at b.site.result)) ((all_done (calls_in latest) (record (inner b.fr b.site) { frame = m }) T' body).demands) (EndsWith N s b.scene.depth (b.fr ++ k ∷ []) b.site.result (all_done (calls_in latest) (record (inner b.fr b.site) { frame = m }) T' body).change)) (length-one_more b.fr k) (each k is)

    stands : StandsIn sc b.scene
    stands = stands_in s b.fr b.site b.scene sc b.sited tied

    depths : b.scene.depth ≡ sc.depth
    depths = stands.depth

    -- the marks of a write are those of an access of the loop
    first_is : (slot : Slot) (ms : Marks) → D.change.first slot ≡ Some ms → FirstIs (next_binder sc) frame loop.accesses slot ms
    first_is slot ms e =
        row_first (next_binder sc) frame (calls_in latest) (opened_in latest) (reverse latest) (calls_first (next_binder sc) frame P latest b.typed.known) body (typing_inside b.scope simple.Node) (binding sc) site' T'
        (loop_tie b.scope sc (at_frame b.fr b.site) tied (b.typed.lengths ∙ stands.bound)) b.typed.routines fits slot ms e

    -- what each turn leaves
    module _ (after : ℕ → Ending) (fine : (k : ℕ) → 1 ≤ k → k ≤ N → one_turn k ≡ Got (after k)) (end : Store) (merged : AreMerged N sc.depth loop b.cells after end) where
      abbrev Left : ℕ → Store → Type 0
      Left k c = AllHold N s (b.fr ++ k ∷ []) D.demands × Rep N s b.scene.depth (b.fr ++ k ∷ []) D.change.now c

      turn_left : (k : ℕ) → is_node N k ≡ true → Left k (cells_after (after k))
      turn_left k is = go (after k) (fine k (node_low N k is) (node_high N k is)) (on _ kinds latest sc b.scene body b.cells k (after k) apart (fine k (node_low N k is) (node_high N k is)))
        where
          parts : (c : Store) → Said k (Got (Next c)) → Left k c
          parts c told = (told.0, told.1.0)

          go : (e : Ending) → one_turn k ≡ Got e → (c : Store) × (e ≡ Next c) → Left k (cells_after e)
          go (Next d) was next = parts d (subst (Said k) was (said k is))
          go (Returned d r) was (c, e) = cc

      module _ (owner : Owner) (path : Path) (key : Key) (ns : List ℕ) (reach : reaches b.scene.depth owner ≡ true) (none : NoNodes key) (long : length ns ≡ holes key) (nodes : Nodes N s ns) where
        abbrev slot : Slot
        slot = Family owner path key

        inside : in_scope sc.depth owner ≡ true
        inside = ap (λ d. in_scope d owner) (sym depths) ∙ shallow b.scene.depth owner reach

        -- a family that no turn writes is as it was
        unchanged : (k : ℕ) → is_node N k ≡ true → D.change.first slot ≡ None → cells_after (after k) owner path (at_nodes key ns) ≡ b.cells owner path (at_nodes key ns)
        unchanged k is no_write =
            sym ((turn_left k is).1 owner path key ns reach none long nodes)
            ∙ ap (value_of N s ((b.fr ++ k ∷ []) ++ ns)) (row_unwritten (calls_in latest) (calls_unwritten latest) site' T' body slot (ap (λ d. reaches d owner) b.sited.depth ∙ reach) no_write)
            ∙ rep_under N s b.scene.depth b.fr b.T b.cells k b.rep owner path key ns reach none long nodes

        end_unchanged : D.change.first slot ≡ None → end owner path (at_nodes key ns) ≡ b.cells owner path (at_nodes key ns)
        end_unchanged no_write = go (family_place loop owner path) refl
          where
            here : (p : ℕ) → family_place loop owner path ≡ Some p → (o : Option ℕ) → hole_at p key ≡ o → end owner path (at_nodes key ns) ≡ b.cells owner path (at_nodes key ns)
            here p was None hole = merged.others owner path (at_nodes key ns) inside (λ m low high. ap (λ o. is_own m o (at_nodes key ns)) was ∙ no_hole p key ns m hole none long)
            here p was (Some k) hole =
                let (m, found) = hole_node p key k ns hole long in
                let is : is_node N m ≡ true = node_at_place N ns k m nodes found.0 in
                merged.own m owner path (at_nodes key ns) (node_low N m is) (node_high N m is) inside (ap (λ o. is_own m o (at_nodes key ns)) was ∙ found.1) ∙ unchanged m is no_write

            go : (o : Option ℕ) → family_place loop owner path ≡ o → end owner path (at_nodes key ns) ≡ b.cells owner path (at_nodes key ns)
            go None was = merged.others owner path (at_nodes key ns) inside (λ m low high. ap (λ o. is_own m o (at_nodes key ns)) was)
            go (Some p) was = here p was (hole_at p key) refl

        -- a family that is written
        end_written : (ms : Marks) → D.change.first slot ≡ Some ms → (k : ℕ) × ((axis_in frame ms ≡ Some k) × (value_of N s (b.fr ++ ns) (closed frame (holes key) k (D.change.now slot)) ≡ end owner path (at_nodes key ns)))
        end_written ms was =
            let (i, (a, facts)) = write_there (next_binder sc) frame loop.accesses owner path key ms (first_is slot ms was) in
            let same : a.shape.owner ≡ owner = facts.1.1.0 in
            let (p, placed) = places _ kinds latest sc body i a path apart facts.0 facts.1.0 (ap (in_scope sc.depth) same ∙ inside) facts.1.1.1.0 in
            let (k, axis) = ties_axis (next_binder sc) frame key ms (marks a.shape.parts) p facts.1.1.1.1 placed.1 in
            let (m, found) = hole_node p key k ns axis.1 long in
            let is : is_node N m ≡ true = node_at_place N ns k m nodes found.0 in (
              k,
              (
                axis.0,
                closed_value binds N s b.fr ns (holes key) k m (D.change.now slot) long found.0
                    ∙ ap (λ xs. value_of N s xs (D.change.now slot)) (sym (append_assoc b.fr (m ∷ []) ns))
                    ∙ (turn_left m is).1 owner path key ns reach none long nodes
                    ∙ sym (merged.own m owner path (at_nodes key ns) (node_low N m is) (node_high N m is) inside (ap (λ o. is_own m (family_place loop o path) (at_nodes key ns)) (sym same) ∙ ap (λ o. is_own m o (at_nodes key ns)) placed.0 ∙ found.1)),
              ),
            )

        rep_at : value_of N s (b.fr ++ ns) ((over_nodes frame b.T D.change).now slot) ≡ end owner path (at_nodes key ns)
        rep_at = go (D.change.first slot) refl
          where
            go : (o : Option Marks) → D.change.first slot ≡ o → value_of N s (b.fr ++ ns) (option_map_or (λ k. closed frame (axes slot) k (D.change.now slot)) (option_and_then (axis_in frame) o) (b.T slot)) ≡ end owner path (at_nodes key ns)
            go None was = b.rep owner path key ns reach none long nodes ∙ sym (end_unchanged was)
            go (Some ms) was =
                let (k, both) = end_written ms was in
                ap (λ o. value_of N s (b.fr ++ ns) (option_map_or (λ k. closed frame (axes slot) k (D.change.now slot)) o (b.T slot))) both.0 ∙ both.1

      -- no turn leaves the body
      staying_after : is_true N s b.fr ((over_nodes frame b.T D.change).now Leaving) ≡ false
      staying_after = go (D.change.first Leaving) refl
        where
          go : (o : Option Marks) → D.change.first Leaving ≡ o → is_true N s b.fr (option_map_or (λ k. closed frame 0 k (D.change.now Leaving)) (option_and_then (axis_in frame) o) (b.T Leaving)) ≡ false
          go None was = b.staying
          go (Some ms) was = ap (λ xs. is_true N s b.fr (option_map_or (λ k. closed frame 0 k (D.change.now Leaving)) (axis_in frame xs) (b.T Leaving))) (first_is Leaving ms was) ∙ b.staying

      after_all : AllHold N s b.fr (demand_binding D.demands) × EndsWith N s b.scene.depth b.fr b.site.result (over_nodes frame b.T D.change) (Next end)
      after_all = (
        all_binding N s b.fr D.demands (λ k is. (turn_left k is).0),
        (λ owner path key ns reach none long nodes. rep_at owner path key ns reach none long nodes, staying_after),
      )

    abbrev Whole : Outcome Ending → Type 0
    Whole o = Tells N s b.fr (given o (checked N s at b.site.result)) (demand_binding D.demands) (EndsWith N s b.scene.depth b.fr b.site.result (over_nodes frame b.T D.change))

    one_loop : Whole (whole latest b.scene body b.cells)
    one_loop = go (faulty_or_fine one_turn N)
      where
        go : Faulty one_turn N ⊎ Fine one_turn N → Whole (whole latest b.scene body b.cells)
        go (inl (k, (fault, (low, (high, was))))) =
            let (place, is) = faults _ kinds latest sc b.scene body b.cells stands apart k fault low high was in
            subst Whole (sym is) (fails_binding N s b.fr D.demands k (node_from N k low high) (subst (Said k) was (said k (node_from N k low high))))
        go (inr fine) =
            let all : (k : ℕ) → 1 ≤ k → k ≤ N → one_turn k ≡ Got (ending_of b.cells (one_turn k)) = λ k low high. (let (e, is) = fine k low high in ending_is b.cells (one_turn k) e is) in
            let (end, found) = ends _ kinds latest sc b.scene body b.cells (λ k. ending_of b.cells (one_turn k)) stands apart all in
            subst Whole (sym found.0) (after_all (λ k. ending_of b.cells (one_turn k)) all end found.1)

  pub loops_tell : LoopsTell binds fit keep results s P latest types (calls_in latest) allowed (Apart latest)
  loops_tell b at n body fits (sc, (kinds, (apart, tied))) each = one_loop b at body fits sc kinds apart tied each
