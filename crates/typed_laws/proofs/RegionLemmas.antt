-- The laws of what is read and written, from what bodies do in cells that agree.
use Rattle.std.proofs.Common.{◌≡◌, ℕ, zero, suc, Bool, true, false, not, ◌&&◌, ◌||◌, List, [], ◌∷◌, Option, None, Some, refl, sym, ap, ◌∙◌, subst}
use Rattle.std.specs.Prelude.{slice_get, if◌then◌else◌, is_some, nat_eq}
use Rattle.std.specs.Str.{bytes_eq}
use Rattle.std.proofs.lemmas.Bool.{and_from, eq-eqb}
use Rattle.term_core.specs.declared.value.Value.{Value}
use Rattle.term_core.specs.declared.value.Value.TheVariants as value
use Rattle.term_core.specs.Values.{same_value}
use Rattle.murphi_typed.specs.declared.expr.Designator.{Designator}
use Rattle.murphi_typed.specs.declared.stmt.Stmt as s
use Rattle.murphi_typed.specs.declared.stmt.Stmt.{Stmt}
use Rattle.murphi_typed.specs.declared.protocol.Routine.{Routine}
use Rattle.murphi_typed.specs.Families.{Path}
use Rattle.murphi_typed.specs.Store.{Owner, Global, Local, Formal, same_owner, Place, Contents, Cells, cell_at, contents_at, beyond, renewed, written, only}
use Rattle.murphi_typed.specs.Outcome.{Outcome, Got, Fault}
use Rattle.murphi_typed.specs.Expressions.{Given, Filled, Standing, Scene, value_of, place_of}
use Rattle.murphi_typed.specs.Execution.{Ending, Next, Returned, cells_after, at_of, stored, cleared, run, calls_of}
use Rattle.scalarset_rules.specs.Accesses.{Stand, Valued, Placed, Scope, Access, reads, accesses, opened_in}
use Rattle.scalarset_rules.specs.Rules.{is_deeper}
use Rattle.scalarset_rules.specs.Turns.{fields, is_front, covers, AreStands, StandsIn}
use Rattle.typed_laws.specs.Regions.{Region, is_read, is_written, with_reads, AgreeOn, ReadsGiveValues, EndAlike, ReadsGiveEndings, WritesStayInPlaces, is_under, AssignmentsStayInPlaces}
use Rattle.typed_laws.proofs.Standing.{false-true, AllGood, Agree, PlaceStands, Fits}
use Rattle.typed_laws.proofs.Reading.{given_got, got_same, value_same}
use Rattle.typed_laws.proofs.Running.{Alike, run_alike}
use Rattle.typed_laws.proofs.Calling.{calls_alike}

or_left : (a b : Bool) → a ≡ true → (a || b) ≡ true
or_left true b e = refl
or_left false b e = false-true e

or_right : (a b : Bool) → b ≡ true → (a || b) ≡ true
or_right true b e = refl
or_right false b e = e

pub owner_itself : (a : Owner) → same_owner a a ≡ true
owner_itself (Global a) = eq-eqb a a refl
owner_itself (Local d a) = and_from (nat_eq d d) (nat_eq a a) (eq-eqb d d refl) (eq-eqb a a refl)
owner_itself (Formal d a) = and_from (nat_eq d d) (nat_eq a a) (eq-eqb d d refl) (eq-eqb a a refl)

good_more : (R W R' W' : Region) (all : List Access) → ((owner : Owner) (path : Path) → R owner path ≡ true → R' owner path ≡ true) → ((owner : Owner) (path : Path) → W owner path ≡ true → W' owner path ≡ true) → AllGood R W all → AllGood R' W' all
good_more R W R' W' [] r w good = tt
good_more R W R' W' (x ∷ xs) r w (one, more) = ((λ path front. go x.write path (one path front)), good_more R W R' W' xs r w more)
  where
    go : (b : Bool) (path : Path) → (if b then W else R) x.shape.owner path ≡ true → (if b then W' else R') x.shape.owner path ≡ true
    go true path e = w x.shape.owner path e
    go false path e = r x.shape.owner path e

-- each access is to a family that is read, or written
good_own : (all : List Access) → AllGood (is_read all) (is_written all) all
good_own [] = tt
good_own (x ∷ xs) = (
  (λ path front. go x.write refl path (and_from (same_owner x.shape.owner x.shape.owner) (is_front (fields x.shape.parts) path) (owner_itself x.shape.owner) front)),
  good_more (is_read xs) (is_written xs) (is_read (x ∷ xs)) (is_written (x ∷ xs)) xs
      (λ owner path e. or_right (not x.write && covers x owner path) (is_read xs owner path) e)
      (λ owner path e. or_right (x.write && covers x owner path) (is_written xs owner path) e) (good_own xs),
)
  where
    go : (b : Bool) → x.write ≡ b → (path : Path) → covers x x.shape.owner path ≡ true → (if b then is_written (x ∷ xs) else is_read (x ∷ xs)) x.shape.owner path ≡ true
    go true e path here =
        or_left (x.write && covers x x.shape.owner path) (is_written xs x.shape.owner path) (and_from x.write (covers x x.shape.owner path) e here)
    go false e path here =
        or_left (not x.write && covers x x.shape.owner path) (is_read xs x.shape.owner path) (and_from (not x.write) (covers x x.shape.owner path) (ap not e) here)

-- where a body stands

place_stands : (depth : ℕ) (stands : List Stand) (gs : List Given) (k : ℕ) → AreStands depth stands gs → PlaceStands depth (slice_get stands k) (slice_get gs k)
place_stands depth [] [] k a = tt
place_stands depth [] (g ∷ gs) k a = absurd a
place_stands depth (s ∷ ss) [] k a = absurd a
place_stands depth (Valued v ∷ ss) (Filled contents ∷ gs) zero (is, a) = tt
place_stands depth (Placed shape ∷ ss) (Standing place ∷ gs) zero (is, a) = record { owner = is.0.owner; path = is.0.path; near = is.1.0 }
place_stands depth (Valued v ∷ ss) (Standing place ∷ gs) zero (is, a) = absurd is
place_stands depth (Placed shape ∷ ss) (Filled contents ∷ gs) zero (is, a) = absurd is
place_stands depth (s ∷ ss) (g ∷ gs) (suc k) (is, a) = place_stands depth ss gs k a

fitted : (scope : Scope) (scene : Scene) → StandsIn scope scene → Fits scope scene
fitted scope scene stands = record { depth = stands.depth; places = λ k. place_stands scope.depth scope.stands scene.formals k stands.formals }

agreeing : (R : Region) (depth : ℕ) (c d : Cells) → AgreeOn R depth c d → Agree R depth c d
agreeing R depth c d agree owner path at near may = agree owner path at (ap not near) may

not_deeper : (b : Bool) → not b ≡ true → b ≡ false
not_deeper true e = false-true e
not_deeper false e = refl

agreed : (R : Region) (depth : ℕ) (c d : Cells) → Agree R depth c d → AgreeOn R depth c d
agreed R depth c d agree owner path at near may = agree owner path at (not_deeper (is_deeper depth owner) near) may

pub reads_give_values : ReadsGiveValues
reads_give_values routines scope scene at c d e stands agree =
    let all : List Access = reads (opened_in routines) scope e in
    value_same (is_read all) (is_written all) (calls_of routines) (opened_in routines)
    (calls_alike (is_read all) (is_written all) routines) c d scope scene at e (fitted scope scene stands)
    (agreeing (is_read all) scope.depth c d agree) (good_own all)

-- how a body ends in cells that agree, with what it changes
ends : (routines : List Routine) (scope : Scope) (scene : Scene) (c d : Cells) (body : Stmt) (more : Region) → StandsIn scope scene → Agree (with_reads more (accesses (opened_in routines) scope body)) scope.depth c d
    → Alike (with_reads more (accesses (opened_in routines) scope body)) (is_written (accesses (opened_in routines) scope body)) scope.depth c (run (calls_of routines) scene c body) (run (calls_of routines) scene d body)
ends routines scope scene c d body more stands agree =
    let all : List Access = accesses (opened_in routines) scope body in
    run_alike (with_reads more all) (is_written all) (calls_of routines) (opened_in routines)
    (calls_alike (with_reads more all) (is_written all) routines) scope scene c d body (fitted scope scene stands) agree
    (good_more (is_read all) (is_written all) (with_reads more all) (is_written all) all
    (λ owner path e. or_right (more owner path) (is_read all owner path) e) (λ owner path e. e) (good_own all))

pub reads_give_endings : ReadsGiveEndings
reads_give_endings routines scope scene c d body more stands agree =
    go (run (calls_of routines) scene c body) (run (calls_of routines) scene d body)
    (ends routines scope scene c d body more stands (agreeing region scope.depth c d agree))
  where
    region : Region
    region = with_reads more (accesses (opened_in routines) scope body)

    changes : Region
    changes = is_written (accesses (opened_in routines) scope body)

    go : (o p : Outcome Ending) → Alike (with_reads more (accesses (opened_in routines) scope body)) (is_written (accesses (opened_in routines) scope body)) scope.depth c o p → EndAlike (with_reads more (accesses (opened_in routines) scope body)) scope.depth o p
    go (Fault at) (Fault other) a = a
    go (Got (Next u)) (Got (Next w)) a = agreed (with_reads more (accesses (opened_in routines) scope body)) scope.depth u w a.0
    go (Got (Returned u r)) (Got (Returned w s)) a = (a.0, agreed (with_reads more (accesses (opened_in routines) scope body)) scope.depth u w a.1.0)
    go (Fault at) (Got (Next w)) a = absurd a
    go (Fault at) (Got (Returned w s)) a = absurd a
    go (Got (Next u)) (Fault at) a = absurd a
    go (Got (Returned u r)) (Fault at) a = absurd a
    go (Got (Next u)) (Got (Returned w s)) a = absurd a
    go (Got (Returned u r)) (Got (Next w)) a = absurd a

nothing_more : Region
nothing_more owner path = false

pub writes_stay : WritesStayInPlaces
writes_stay routines scope scene c body ending stands is owner path at near out =
    go ending (run (calls_of routines) scene c body) is
    (ends routines scope scene c c body (λ owner path. false) stands (λ owner path at near may. refl))
  where
    go : (ending : Ending) (o : Outcome Ending) → o ≡ Got ending → Alike (with_reads (λ owner path. false) (accesses (opened_in routines) scope body)) (is_written (accesses (opened_in routines) scope body)) scope.depth c o o → cells_after ending owner path at ≡ c owner path at
    go ending (Fault from) e a = cc
    go ending (Got (Next u)) e a = sym (ap (λ z. cells_after z owner path at) (got_same e)) ∙ a.1 owner path at (not_deeper (is_deeper scope.depth owner) near) out
    go ending (Got (Returned u r)) e a = sym (ap (λ z. cells_after z owner path at) (got_same e)) ∙ a.1.1 owner path at (not_deeper (is_deeper scope.depth owner) near) out

-- one target

pub unchanged : (c : Cells) (p : Place) (new : Contents) (owner : Owner) (path : Path) (at : List Value) → is_under p owner path at ≡ false → written c p new owner path at ≡ c owner path at
unchanged c p new owner path at out = go (same_owner owner p.owner) (beyond bytes_eq p.path path) (beyond same_value p.at at) out
  where
    go : (b : Bool) (o : Option Path) (q : Option (List Value)) → (b && (is_some o && is_some q)) ≡ false → (if b then renewed new (c owner path at) o q else c owner path at) ≡ c owner path at
    go false o q e = refl
    go true None q e = refl
    go true (Some rest) None e = refl
    go true (Some rest) (Some further) e = false-true (sym e)

after_write : (c : Cells) (p : Place) (new : Contents) (ending : Ending) → Got (Next (written c p new)) ≡ Got ending → (owner : Owner) (path : Path) (at : List Value) → is_under p owner path at ≡ false → cells_after ending owner path at ≡ c owner path at
after_write c p new ending e owner path at out =
    sym (ap (λ z. cells_after z owner path at) (got_same e)) ∙ unchanged c p new owner path at out

some_target : {a b : Designator} → Some a ≡ Some b → a ≡ b
some_target e = cc

pub assignments_stay : AssignmentsStayInPlaces
unfolding run
assignments_stay calls scene c (s.Assign to into body) goal ending is e =
    let (p, e1) = given_got (place_of calls scene (at_of to) c to) _ ending e in
    let (v, e2) = given_got (value_of calls scene (at_of to) c body) _ ending e1.1 in
    let (w, e3) = given_got (stored scene.nodes (at_of to) into v) _ ending e2.1 in
    (p, ((at_of to, subst (λ z. place_of calls scene (at_of to) c z ≡ Got p) (some_target is) e1.0), after_write c p (only w) ending e3.1))
assignments_stay calls scene c (s.Copy to into from) goal ending is e =
    let (p, e1) = given_got (place_of calls scene (at_of to) c to) _ ending e in
    let (q, e2) = given_got (place_of calls scene (at_of to) c from) _ ending e1.1 in
    let (w, e3) = given_got (stored scene.nodes (at_of to) into (cell_at c q)) _ ending e2.1 in
    (p, ((at_of to, subst (λ z. place_of calls scene (at_of to) c z ≡ Got p) (some_target is) e1.0), after_write c p (only w) ending e3.1))
assignments_stay calls scene c (s.CopyAll to from) goal ending is e =
    let (p, e1) = given_got (place_of calls scene (at_of to) c to) _ ending e in
    let (q, e2) = given_got (place_of calls scene (at_of to) c from) _ ending e1.1 in
    (p, ((at_of to, subst (λ z. place_of calls scene (at_of to) c z ≡ Got p) (some_target is) e1.0), after_write c p (contents_at c q) ending e2.1))
assignments_stay calls scene c (s.Clear to type at) goal ending is e =
    let (p, e1) = given_got (place_of calls scene at c to) _ ending e in
    (p, ((at, subst (λ z. place_of calls scene at c z ≡ Got p) (some_target is) e1.0), after_write c p (cleared type) ending e1.1))
assignments_stay calls scene c (s.Undefine to at) goal ending is e =
    let (p, e1) = given_got (place_of calls scene at c to) _ ending e in
    (p, ((at, subst (λ z. place_of calls scene at c z ≡ Got p) (some_target is) e1.0), after_write c p (only value.Undefined) ending e1.1))
assignments_stay calls scene c (s.Block' _ body) goal ending is e = cc
assignments_stay calls scene c (s.Call k args at) goal ending is e = cc
assignments_stay calls scene c (s.If' _ arms _ otherwise at) goal ending is e = cc
assignments_stay calls scene c (s.Switch' on _ cases _ otherwise at) goal ending is e = cc
assignments_stay calls scene c (s.For' over _ body at) goal ending is e = cc
assignments_stay calls scene c (s.Error at) goal ending is e = cc
assignments_stay calls scene c (s.Assert test at) goal ending is e = cc
assignments_stay calls scene c (s.PutText at) goal ending is e = cc
assignments_stay calls scene c (s.Put shown at) goal ending is e = cc
assignments_stay calls scene c (s.Leave at) goal ending is e = cc
assignments_stay calls scene c (s.Return body at) goal ending is e = cc
