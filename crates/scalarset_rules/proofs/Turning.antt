-- Turns that keep to their own cells: all are done as if each were the first.
use Rattle.std.proofs.Common.{◌≡◌, ℕ, zero, suc, ◌+◌, ◌≤◌, ◌<◌, Bool, true, false, not, ◌&&◌, ◌||◌, List, [], ◌∷◌, ◌++◌, map, length, Option, None, Some, refl, sym, ap, ◌∙◌, subst, arith}
use Rattle.std.specs.Prelude.{slice_get, nat_eq}
use Rattle.std.proofs.lemmas.Bool.{and_parts, eqb-true}
use Rattle.term_core.specs.declared.value.Value.{Value}
use Rattle.term_core.specs.declared.value.Value.TheVariants as value
use Rattle.term_core.specs.Values.{same_value}
use Rattle.term_core.specs.Nodes.{nodes_from}
use Rattle.murphi_ast.specs.declared.token.Span.{Span}
use Rattle.murphi_typed.specs.declared.stmt.Stmt.{Row_of-Stmt}
use Rattle.murphi_typed.specs.declared.protocol.Routine.{Routine}
use Rattle.murphi_typed.specs.Families.{Path}
use Rattle.murphi_typed.specs.Store.{Owner, Cells}
use Rattle.murphi_typed.specs.Outcome.{Outcome, Got, Fault, given}
use Rattle.murphi_typed.specs.Expressions.{Given, Filled, Standing, Scene, with_bound}
use Rattle.murphi_typed.specs.Execution.{Ending, Next, Returned, cells_after, then_on, turns, run_all, calls_of}
use Rattle.murphi_typed.specs.Keeping.{Declared}
use Rattle.scalarset_rules.specs.Accesses.{Binder, Stand, Valued, Placed, Scope, binding, next_binder, stand_mark, opened_in}
use Rattle.scalarset_rules.specs.Rules.{marks, is_it, is_deeper}
use Rattle.scalarset_rules.specs.Turns.{node_at, is_own, is_formal, family_place, is_outer, are_outer, IsStand, AreStands, StandsIn, loop_over, KeepsApart, in_scope, LoopFaults, LoopEnds, TurnsGoOn, WritesHaveOnePlace}
use Rattle.scalarset_rules.proofs.Sameness.{false-true, got_same, fault_got, values_true}
use Rattle.scalarset_rules.proofs.Keeping.{Places, is_shared, readable, writable, Agree, Kept, Marked, PlaceStands, Fits}
use Rattle.scalarset_rules.proofs.Running.{Alike, all_alike}
use Rattle.scalarset_rules.proofs.Calling.{calls_alike}
use Rattle.scalarset_rules.proofs.Judging.{in_get, write_at_place, loop_good}
use Rattle.scalarset_rules.proofs.Staying.{GoesOn, free_from, all_goes}

-- The first body of a loop stands where the loop does

not_outer : {A : Type 0} (depth bound : ℕ) (m : Option Binder) → is_outer depth m → is_it (record { depth = depth; number = bound }) m ≡ true → A
not_outer depth bound None o e = false-true e
not_outer depth bound (Some w) o e = let (x, y) = and_parts (nat_eq depth w.depth) (nat_eq bound w.number) e in absurd (grind (arith, x, o))

outer_marked : (depth bound n : ℕ) (ms : List (Option Binder)) (at : List Value) → are_outer depth ms → length at ≡ length ms → Marked (record { depth = depth; number = bound }) n ms at
outer_marked depth bound n [] [] o e = tt
outer_marked depth bound n [] (x ∷ xs) o e = absurd (omega (arith, e))
outer_marked depth bound n (m ∷ ms) [] o e = absurd (omega (arith, e))
outer_marked depth bound n (m ∷ ms) (x ∷ xs) (one, more) e = (λ is. not_outer depth bound m one is, outer_marked depth bound n ms xs more (omega (arith, e)))

outer_formal : {A : Type 0} (depth bound : ℕ) (stands : List Stand) (gs : List Given) (k : ℕ) → AreStands depth stands gs → is_it (record { depth = depth; number = bound }) (stand_mark (slice_get stands k)) ≡ true → A
outer_formal depth bound [] [] k a e = false-true e
outer_formal depth bound [] (g ∷ gs) k a e = absurd a
outer_formal depth bound (s ∷ ss) [] k a e = absurd a
outer_formal depth bound (Valued m ∷ ss) (Filled contents ∷ gs) zero (is, a) e = not_outer depth bound m is e
outer_formal depth bound (Valued m ∷ ss) (Standing place ∷ gs) zero (is, a) e = absurd is
outer_formal depth bound (Placed shape ∷ ss) (g ∷ gs) zero a e = false-true e
outer_formal depth bound (s ∷ ss) (g ∷ gs) (suc k) (is, a) e = outer_formal depth bound ss gs k a e

outer_place : (depth bound n : ℕ) (s : Stand) (g : Given) → IsStand depth s g → PlaceStands (record { depth = depth; number = bound }) n depth (Some s) (Some g)
outer_place depth bound n (Valued m) (Filled contents) is = tt
outer_place depth bound n (Placed shape) (Filled contents) is = tt
outer_place depth bound n (Valued m) (Standing place) is = is
outer_place depth bound n (Placed shape) (Standing place) is =
    record { owner = is.0.owner; path = is.0.path; near = is.1.0; marked = outer_marked depth bound n (marks shape.parts) place.at is.1.1 is.0.indices }

outer_places : (depth bound n : ℕ) (stands : List Stand) (gs : List Given) (k : ℕ) → AreStands depth stands gs → PlaceStands (record { depth = depth; number = bound }) n depth (slice_get stands k) (slice_get gs k)
outer_places depth bound n [] [] k a = tt
outer_places depth bound n [] (g ∷ gs) k a = absurd a
outer_places depth bound n (s ∷ ss) [] k a = absurd a
outer_places depth bound n (s ∷ ss) (g ∷ gs) zero (is, a) = outer_place depth bound n s g is
outer_places depth bound n (s ∷ ss) (g ∷ gs) (suc k) (is, a) = outer_places depth bound n ss gs k a

last_bound : (bs : List Value) (w : Value) (k : ℕ) → k ≡ length bs → slice_get (bs ++ w ∷ []) k ≡ Some w
last_bound [] w zero e = refl
last_bound [] w (suc k) e = absurd (omega (arith, e))
last_bound (b ∷ bs) w zero e = absurd (omega (arith, e))
last_bound (b ∷ bs) w (suc k) e = last_bound bs w k (omega (arith, e))

loop_fits : (n : ℕ) (scope : Scope) (scene : Scene) (c : Cells) → StandsIn scope scene → Fits (next_binder scope) n (binding scope) (with_bound scene (value.Node n)) c
loop_fits n scope scene c stands =
    record {
      depth = stands.depth;
      inside = omega arith;
      bound = λ k is. last_bound scene.bound (value.Node n) k (let (x, y) = and_parts (nat_eq scope.depth scope.depth) (nat_eq scope.bound k) is in sym (eqb-true scope.bound k y) ∙ sym stands.bound);
      formals = λ k is. outer_formal scope.depth scope.bound scope.stands scene.formals k stands.formals is;
      places = λ k. outer_places scope.depth scope.bound n scope.stands scene.formals k stands.formals;
    }

-- Turns

one_node : (at : List Value) (k n m : ℕ) → node_at n k at ≡ true → nat_eq n m ≡ false → node_at m k at ≡ false
one_node [] k n m e apart = false-true e
one_node (x ∷ xs) zero n m e apart = ap (λ y. same_value y (value.Node m)) (values_true x (value.Node n) e) ∙ apart
one_node (x ∷ xs) (suc k) n m e apart = one_node xs k n m e apart

-- what one turn may read another does not write
apart_turns : (o : Option ℕ) (at : List Value) (n m : ℕ) → is_shared n o at ≡ true → nat_eq n m ≡ false → is_own m o at ≡ false
apart_turns None at n m e apart = refl
apart_turns (Some k) at n m e apart = one_node at k n m e apart

own_shared : (o : Option ℕ) (at : List Value) (n : ℕ) → is_own n o at ≡ true → is_shared n o at ≡ true
own_shared None at n e = refl
own_shared (Some k) at n e = e

and_false : (a b : Bool) → b ≡ false → (a && b) ≡ false
and_false true b e = e
and_false false b e = refl

module _ (v : Binder) (keep : Places) (G : Value → Cells → Outcome Ending)
    (alikes : (m : ℕ) (c d : Cells) → Agree v keep m v.depth c d → Alike v keep m v.depth c (G (value.Node m) c) (G (value.Node m) d))
    (goes : (m : ℕ) (c : Cells) → GoesOn (G (value.Node m) c)) where
  readable_shared : (n : ℕ) (owner : Owner) (path : Path) (at : List Value) → is_deeper v.depth owner ≡ false → readable v keep n owner path at ≡ true → is_shared n (keep owner path) at ≡ true
  readable_shared n owner path at near may = sym (ap (λ b. b || is_shared n (keep owner path) at) near) ∙ may

  shared_readable : (n : ℕ) (owner : Owner) (path : Path) (at : List Value) → is_deeper v.depth owner ≡ false → is_shared n (keep owner path) at ≡ true → readable v keep n owner path at ≡ true
  shared_readable n owner path at near may = ap (λ b. b || is_shared n (keep owner path) at) near ∙ may

  unwritable : (n : ℕ) (owner : Owner) (path : Path) (at : List Value) → is_deeper v.depth owner ≡ false → is_own n (keep owner path) at ≡ false → writable v keep n owner path at ≡ false
  unwritable n owner path at near out = and_false (not (is_formal owner)) _ (ap (λ b. b || is_own n (keep owner path) at) near ∙ out)

  module _ (c0 : Cells) where
    abbrev pub Ready : ℕ → ℕ → Cells → Type 0
    Ready first count c = (n : ℕ) → first ≤ n → n < first + count → Agree v keep n v.depth c c0

    -- after a turn the later ones still find their cells as at the start
    still_ready : (first count : ℕ) (c w : Cells) → Ready first (suc count) c → Kept v keep first v.depth c w → Ready (suc first) count w
    still_ready first count c w ready kept n low high owner path at near may =
        kept owner path at near (unwritable first owner path at near (apart_turns (keep owner path) at n first (readable_shared n owner path at near may) (grind (arith, low))))
        ∙ ready n (omega (arith, low)) (omega (arith, high)) owner path at near may

    -- how one turn ends
    first_next : (first : ℕ) (c : Cells) (o p : Outcome Ending) (e : Ending) → GoesOn o → Alike v keep first v.depth c o p → p ≡ Got e → (w : Cells) × ((o ≡ Got (Next w)) × (Agree v keep first v.depth w (cells_after e) × Kept v keep first v.depth c w))
    first_next first c (Got (Next u)) (Got (Next w)) e goes a is =
        (u, (refl, (subst (λ x. Agree v keep first v.depth u (cells_after x)) (got_same is) a.0, a.1)))
    first_next first c (Got (Returned u r)) p e goes a is = absurd goes
    first_next first c (Fault at) (Fault other) e goes a is = fault_got is
    first_next first c (Fault at) (Got x) e goes a is = absurd a
    first_next first c (Got (Next u)) (Fault at) e goes a is = absurd a
    first_next first c (Got (Next u)) (Got (Returned w s)) e goes a is = absurd a

    module _ (after : ℕ → Ending) where
      pub record Final (first count : ℕ) (c u : Cells) : Type 0 where
        pub own : (n : ℕ) (owner : Owner) (path : Path) (at : List Value) → first ≤ n → n < first + count → is_deeper v.depth owner ≡ false
            → is_own n (keep owner path) at ≡ true → u owner path at ≡ cells_after (after n) owner path at
        pub rest : (owner : Owner) (path : Path) (at : List Value) → is_deeper v.depth owner ≡ false
            → ((n : ℕ) → first ≤ n → n < first + count → is_own n (keep owner path) at ≡ false) → u owner path at ≡ c owner path at

      pub all_turns : (first count : ℕ) (c : Cells) → ((n : ℕ) → first ≤ n → n < first + count → G (value.Node n) c0 ≡ Got (after n)) → Ready first count c → (u : Cells) × ((turns G (map value.Node (nodes_from first count)) c ≡ Got (Next u)) × Final first count c u)
      all_turns first zero c fine ready = (c, (refl, record { own = λ n owner path at low high near may. absurd (omega (arith, low, high)); rest = λ owner path at near out. refl }))
      all_turns first (suc count) c fine ready =
          let (w, turned) = first_next first c (G (value.Node first) c) (G (value.Node first) c0) (after first) (goes first c) (alikes first c c0 (ready first (omega arith) (omega arith))) (fine first (omega arith) (omega arith)) in
          let kept : Kept v keep first v.depth c w = turned.1.1 in
          let (u, ended) = all_turns (suc first) count w (λ n low high. fine n (omega (arith, low)) (omega (arith, high))) (still_ready first count c w ready kept) in (
            u,
            (
              ap (λ o. given o (λ e. then_on e (turns G (map value.Node (nodes_from (suc first) count))))) turned.0 ∙ ended.0,
              record {
                own = λ n owner path at low high near may. own_go w u turned.1.0 ended.1 n owner path at low high near may (nat_eq n first) refl;
                rest = λ owner path at near out. ended.1.rest owner path at near (λ n low high. out n (omega (arith, low)) (omega (arith, high))) ∙ kept owner path at near (unwritable first owner path at near (out first (omega arith) (omega arith)));
              },
            ),
          )
        where
          own_go : (w u : Cells) → Agree v keep first v.depth w (cells_after (after first)) → Final (suc first) count w u → (n : ℕ) (owner : Owner) (path : Path) (at : List Value) → first ≤ n → n < first + suc count → is_deeper v.depth owner ≡ false → is_own n (keep owner path) at ≡ true → (b : Bool) → nat_eq n first ≡ b → u owner path at ≡ cells_after (after n) owner path at
          own_go w u like final n owner path at low high near may true was =
              let h : n ≡ first = eqb-true n first was in
              let may' : is_own first (keep owner path) at ≡ true = subst (λ m. is_own m (keep owner path) at ≡ true) h may in
              let shared : is_shared first (keep owner path) at ≡ true = own_shared (keep owner path) at first may' in
              final.rest owner path at near (λ m low' high'. apart_turns (keep owner path) at first m shared (grind (arith, low')))
              ∙ like owner path at near (shared_readable first owner path at near shared) ∙ ap (λ m. cells_after (after m) owner path at) (sym h)
          own_go w u like final n owner path at low high near may false was = final.own n owner path at (grind (arith, low, was)) (omega (arith, high)) near may

    clash : {A : Type 0} (first : ℕ) (c w : Cells) (p : Outcome Ending) (at : Span) → Alike v keep first v.depth c (Got (Next w)) p → p ≡ Fault at → A
    clash first c w (Fault other) at a e = absurd a
    clash first c w (Got x) at a e = cc

    pub no_turns : (first count n : ℕ) (c : Cells) (fault : Span) → first ≤ n → n < first + count → G (value.Node n) c0 ≡ Fault fault → Ready first count c → (at : Span) × (turns G (map value.Node (nodes_from first count)) c ≡ Fault at)
    no_turns first zero n c fault low high fails ready = absurd (omega (arith, low, high))
    no_turns first (suc count) n c fault low high fails ready = go (λ w. no_turns (suc first) count n w fault) (G (value.Node first) c) refl (goes first c)
      where
        on_from : ((w : Cells) → suc first ≤ n → n < suc first + count → G (value.Node n) c0 ≡ Fault fault → Ready (suc first) count w → (at : Span) × (turns G (map value.Node (nodes_from (suc first) count)) w ≡ Fault at)) → (w : Cells) → G (value.Node first) c ≡ Got (Next w) → Alike v keep first v.depth c (Got (Next w)) (G (value.Node first) c0) → (b : Bool) → nat_eq n first ≡ b → (at : Span) × (turns G (map value.Node (nodes_from (suc first) count)) w ≡ Fault at)
        on_from again w e alike true was = clash first c w (G (value.Node first) c0) fault alike (ap (λ m. G (value.Node m) c0) (sym (eqb-true n first was)) ∙ fails)
        on_from again w e alike false was = again w (grind (arith, low, was)) (omega (arith, high)) fails (still_ready first count c w ready (kept_of (G (value.Node first) c0) alike))
          where
            kept_of : (p : Outcome Ending) → Alike v keep first v.depth c (Got (Next w)) p → Kept v keep first v.depth c w
            kept_of (Got (Next z)) a = a.1
            kept_of (Got (Returned z r)) a = absurd a
            kept_of (Fault at) a = absurd a

        go : ((w : Cells) → suc first ≤ n → n < suc first + count → G (value.Node n) c0 ≡ Fault fault → Ready (suc first) count w → (at : Span) × (turns G (map value.Node (nodes_from (suc first) count)) w ≡ Fault at)) → (o : Outcome Ending) → G (value.Node first) c ≡ o → GoesOn o → (at : Span) × (given o (λ e. then_on e (turns G (map value.Node (nodes_from (suc first) count)))) ≡ Fault at)
        go again (Fault at) e on = (at, refl)
        go again (Got (Next w)) e on =
            on_from again w e (subst (λ o. Alike v keep first v.depth c o (G (value.Node first) c0)) e (alikes first c c0 (ready first (omega arith) (omega arith)))) (nat_eq n first) refl
        go again (Got (Returned w r)) e on = absurd on

-- The law

abbrev pub turned : {l : _} → List Routine → Scene → Row_of-Stmt l → Value → Cells → Outcome Ending
turned routines scene body w now = run_all (calls_of routines) (with_bound scene w) now body

body_alikes : {l : _} (types : Declared) (routines : List Routine) (scope : Scope) (scene : Scene) (body : Row_of-Stmt l) → StandsIn scope scene → KeepsApart types routines scope body
    → (m : ℕ) (c d : Cells) → Agree (next_binder scope) (family_place (loop_over routines scope body)) m scope.depth c d
    → Alike (next_binder scope) (family_place (loop_over routines scope body)) m scope.depth c (turned routines scene body (value.Node m) c) (turned routines scene body (value.Node m) d)
body_alikes types routines scope scene body stands apart m c d agree =
    all_alike (next_binder scope) (family_place (loop_over routines scope body)) m (calls_of routines) (opened_in routines)
    (calls_alike (next_binder scope) (family_place (loop_over routines scope body)) m routines)
    (binding scope) (with_bound scene (value.Node m)) c d body (loop_fits m scope scene c stands) agree
    (loop_good types (loop_over routines scope body) apart.unbroken apart.typed apart.writable)

body_goes : {l : _} (types : Declared) (routines : List Routine) (scope : Scope) (scene : Scene) (body : Row_of-Stmt l) → KeepsApart types routines scope body → (m : ℕ) (c : Cells) → GoesOn (turned routines scene body (value.Node m) c)
body_goes types routines scope scene body apart m c = all_goes (calls_of routines) (with_bound scene (value.Node m)) c body (free_from _ apart.stays)

pub loop_faults : LoopFaults
loop_faults l types routines scope scene body cells stands apart node fault low high fails =
    no_turns (next_binder scope) (family_place (loop_over routines scope body)) (turned routines scene body)
    (body_alikes types routines scope scene body stands apart) (body_goes types routines scope scene body apart)
    cells 1 scene.nodes node cells fault low (omega (arith, high)) fails (λ n first last owner path at near may. refl)

pub loop_ends : LoopEnds
loop_ends l types routines scope scene body cells after stands apart fine =
    let (end, found) = all_turns (next_binder scope) (family_place (loop_over routines scope body)) (turned routines scene body)
    (body_alikes types routines scope scene body stands apart) (body_goes types routines scope scene body apart)
    cells after 1 scene.nodes cells (λ n low high. fine n low (omega (arith, high))) (λ n first last owner path at near may. refl) in (
      end,
      (
        found.0,
        record {
          own = λ node owner path at low high near may. found.1.own node owner path at low (omega (arith, high)) (shallow owner near) may;
          others = λ owner path at near out. found.1.rest owner path at (shallow owner near) (λ n low high. out n low (omega (arith, high)));
        },
      ),
    )
  where
    shallow : (owner : Owner) → in_scope scope.depth owner ≡ true → is_deeper scope.depth owner ≡ false
    shallow owner e = not_true (is_deeper scope.depth owner) e
      where
        not_true : (b : Bool) → not b ≡ true → b ≡ false
        not_true true e = sym e
        not_true false e = refl

pub turns_go_on : TurnsGoOn
turns_go_on l types routines scope scene body cells node after apart was =
    go after (subst GoesOn was (body_goes types routines scope scene body apart node cells))
  where
    go : (e : Ending) → GoesOn (Got e) → (end : Cells) × (e ≡ Next end)
    go (Next end) on = (end, refl)
    go (Returned end r) on = absurd on

pub writes_have_one_place : WritesHaveOnePlace
writes_have_one_place l types routines scope body k a path apart there writes near front =
    write_at_place types (loop_over routines scope body) apart.unbroken apart.typed apart.writable a path
    (in_get (loop_over routines scope body).accesses k a there) writes (shallow (is_deeper scope.depth a.shape.owner) near) front
  where
    shallow : (b : Bool) → not b ≡ true → b ≡ false
    shallow true e = sym e
    shallow false e = refl
