-- The routines of a list do alike, calls opened: a routine calls only those after it in the list.
use Rattle.std.proofs.Common.{◌≡◌, ℕ, zero, suc, Bool, true, false, List, [], ◌∷◌, length, Option, None, Some, refl, sym, ap, ◌∙◌, subst, arith}
use Rattle.std.specs.Prelude.{slice_get, if◌then◌else◌, nat_eq}
use Rattle.term_core.specs.declared.value.Value.{Value}
use Rattle.term_core.specs.declared.value.Value.TheVariants as value
use Rattle.murphi_ast.specs.declared.token.Span.{Span}
use Rattle.murphi_typed.specs.declared.types.Simple.{Simple}
use Rattle.murphi_typed.specs.declared.protocol.Routine.{Routine}
use Rattle.murphi_typed.specs.Values.{is_value}
use Rattle.murphi_typed.specs.Families.{Path}
use Rattle.murphi_typed.specs.Store.{Owner, Global, Local, Formal, Cells, only}
use Rattle.murphi_typed.specs.Outcome.{Outcome, Got, Fault, given}
use Rattle.murphi_typed.specs.Expressions.{Given, Filled, Standing, Scene, Calls}
use Rattle.murphi_typed.specs.Execution.{Ending, Next, Returned, run, formals_fit, filled, entered, called_scene, ended, call_of, calls_of}
use Rattle.scalarset_rules.specs.Accesses.{Stand, Valued, Placed, Scope, called, Opened, accesses, opened_in}
use Rattle.scalarset_rules.specs.Rules.{is_deeper}
use Rattle.typed_laws.specs.Regions.{Region}
use Rattle.typed_laws.proofs.Standing.{false-true, AllGood, Agree, Kept, PlaceStands, Fits}
use Rattle.typed_laws.proofs.Reading.{GivenStand, AreGiven, LeftAlike, CallsAlike}
use Rattle.typed_laws.proofs.Running.{Alike, run_alike}

-- what is in scope stays in scope further in
pub nearer : (depth : ℕ) (owner : Owner) → is_deeper depth owner ≡ false → is_deeper (suc depth) owner ≡ false
nearer depth (Global k) e = refl
nearer depth (Local of k) e = grind (arith, e)
nearer depth (Formal of k) e = grind (arith, e)

module _ (R W : Region) where
  at_nearer : (depth : ℕ) (s : Stand) (g : Given) → GivenStand depth s g → PlaceStands (suc depth) (Some s) (Some g)
  at_nearer depth (Valued m) (Filled contents) is = tt
  at_nearer depth (Placed shape) (Filled contents) is = tt
  at_nearer depth (Valued m) (Standing place) is = is
  at_nearer depth (Placed shape) (Standing place) is = record { owner = is.owner; path = is.path; near = nearer depth shape.owner is.near }

  given_place : (depth : ℕ) (stands : List Stand) (gs : List Given) (k : ℕ) → AreGiven depth stands gs → PlaceStands (suc depth) (slice_get stands k) (slice_get gs k)
  given_place depth [] [] k a = tt
  given_place depth [] (g ∷ gs) k a = absurd a
  given_place depth (s ∷ ss) [] k a = absurd a
  given_place depth (s ∷ ss) (g ∷ gs) zero (is, a) = at_nearer depth s g is
  given_place depth (s ∷ ss) (g ∷ gs) (suc k) (is, a) = given_place depth ss gs k a

  entered_agree : (depth inner : ℕ) (gs : List Given) (c d : Cells) → inner ≡ suc depth → Agree R depth c d → Agree R (suc depth) (entered inner gs c) (entered inner gs d)
  entered_agree depth inner gs c d e agree (Global k) path at near may = agree (Global k) path at refl may
  entered_agree depth inner gs c d e agree (Local of k) path at near may = go (nat_eq of inner) refl
    where
      go : (b : Bool) → nat_eq of inner ≡ b → (if b then only value.Undefined else c (Local of k)) path at ≡ (if b then only value.Undefined else d (Local of k)) path at
      go true was = refl
      go false was = agree (Local of k) path at (grind (arith, e, near, was)) may
  entered_agree depth inner gs c d e agree (Formal of k) path at near may = go (nat_eq of inner) refl
    where
      go : (b : Bool) → nat_eq of inner ≡ b → (if b then filled (slice_get gs k) else c (Formal of k)) path at ≡ (if b then filled (slice_get gs k) else d (Formal of k)) path at
      go true was = refl
      go false was = agree (Formal of k) path at (grind (arith, e, near, was)) may

  entered_outer : (depth inner : ℕ) (gs : List Given) (c : Cells) (owner : Owner) (path : Path) (at : List Value) → inner ≡ suc depth → is_deeper depth owner ≡ false → entered inner gs c owner path at ≡ c owner path at
  entered_outer depth inner gs c (Global k) path at e near = refl
  entered_outer depth inner gs c (Local of k) path at e near = go (nat_eq of inner) (grind (arith, e, near))
    where
      go : (b : Bool) → b ≡ false → (if b then only value.Undefined else c (Local of k)) path at ≡ c (Local of k) path at
      go true was = false-true (sym was)
      go false was = refl
  entered_outer depth inner gs c (Formal of k) path at e near = go (nat_eq of inner) (grind (arith, e, near))
    where
      go : (b : Bool) → b ≡ false → (if b then filled (slice_get gs k) else c (Formal of k)) path at ≡ c (Formal of k) path at
      go true was = false-true (sym was)
      go false was = refl

  entered_kept : (depth inner : ℕ) (gs : List Given) (c u : Cells) → inner ≡ suc depth → Kept W (suc depth) (entered inner gs c) u → Kept W depth c u
  entered_kept depth inner gs c u e kept owner path at near out = kept owner path at (nearer depth owner near) out ∙ entered_outer depth inner gs c owner path at e near

  -- a called routine stands where the call puts it
  entered_fits : (scope : Scope) (stands : List Stand) (scene : Scene) (gs : List Given) → scene.depth ≡ scope.depth → AreGiven scope.depth stands gs → Fits (called scope stands) (called_scene scene gs)
  entered_fits scope stands scene gs e a = record { depth = ap suc e; places = λ k. given_place scope.depth stands gs k a }

  fewer : (depth : ℕ) (u w : Cells) → Agree R (suc depth) u w → Agree R depth u w
  fewer depth u w agree owner path at near may = agree owner path at (nearer depth owner near) may

  ended_alike : (depth : ℕ) (c e : Cells) (result : Option Simple) (scene : Scene) (at : Span) (o p : Outcome Ending) → ((u : Cells) → Kept W (suc depth) e u → Kept W depth c u) → Alike R W (suc depth) e o p → LeftAlike R W depth c (given o (ended result scene at)) (given p (ended result scene at))
  ended_alike depth c e result scene at (Fault from) (Fault other) back a = a
  ended_alike depth c e None scene at (Got (Next u)) (Got (Next w)) back (agree, kept) = (refl, (fewer depth u w agree, back u kept))
  ended_alike depth c e (Some type) scene at (Got (Next u)) (Got (Next w)) back a = refl
  ended_alike depth c e None scene at (Got (Returned u r)) (Got (Returned w s)) back (same, rest) = (refl, (fewer depth u w rest.0, back u rest.1))
  ended_alike depth c e (Some type) scene at (Got (Returned u r)) (Got (Returned w s)) back (same, rest) =
      subst (λ x. LeftAlike R W depth c (ended (Some type) scene at (Returned u r)) (ended (Some type) scene at (Returned w x))) same (go r)
    where
      fits : (b : Bool) (x : Value) → LeftAlike R W depth c (if b then Got (record { cells = u; result = Some x }) else Fault at) (if b then Got (record { cells = w; result = Some x }) else Fault at)
      fits true x = (refl, (fewer depth u w rest.0, back u rest.1))
      fits false x = refl

      go : (r : Option Value) → LeftAlike R W depth c (ended (Some type) scene at (Returned u r)) (ended (Some type) scene at (Returned w r))
      go None = refl
      go (Some x) = fits (is_value scene.nodes type x) x
  ended_alike depth c e result scene at (Fault from) (Got x) back a = absurd a
  ended_alike depth c e result scene at (Got x) (Fault from) back a = absurd a
  ended_alike depth c e result scene at (Got (Next u)) (Got (Returned w s)) back a = absurd a
  ended_alike depth c e result scene at (Got (Returned u r)) (Got (Next w)) back a = absurd a

  call_alike : (calls : Calls) (opened : Opened) → CallsAlike R W calls opened → (r : Routine) (scope : Scope) (stands : List Stand) (scene : Scene) (at : Span) (gs : List Given) (c d : Cells)
      → scene.depth ≡ scope.depth → AreGiven scope.depth stands gs
      → AllGood R W (accesses opened (called scope stands) r.body) → Agree R scope.depth c d
      → LeftAlike R W scope.depth c (call_of calls r scene at gs c) (call_of calls r scene at gs d)
  call_alike calls opened alike r scope stands scene at gs c d e a good agree = go (formals_fit scene.nodes r.formals gs)
    where
      body : LeftAlike R W scope.depth c (given (run calls (called_scene scene gs) (entered (suc scene.depth) gs c) r.body) (ended r.result scene at)) (given (run calls (called_scene scene gs) (entered (suc scene.depth) gs d) r.body) (ended r.result scene at))
      body =
          ended_alike scope.depth c (entered (suc scene.depth) gs c) r.result scene at _ _
          (λ u kept. entered_kept scope.depth (suc scene.depth) gs c u (ap suc e) kept)
          (run_alike R W calls opened alike (called scope stands) (called_scene scene gs) (entered (suc scene.depth) gs c) (entered (suc scene.depth) gs d) r.body
          (entered_fits scope stands scene gs e a) (entered_agree scope.depth (suc scene.depth) gs c d (ap suc e) agree) good)

      go : (b : Bool) → LeftAlike R W scope.depth c (if b then given (run calls (called_scene scene gs) (entered (suc scene.depth) gs c) r.body) (ended r.result scene at) else Fault at) (if b then given (run calls (called_scene scene gs) (entered (suc scene.depth) gs d) r.body) (ended r.result scene at) else Fault at)
      go true = body
      go false = refl

  pub calls_alike : (routines : List Routine) → CallsAlike R W (calls_of routines) (opened_in routines)
  calls_alike [] k scope stands scene at gs c d e a good agree = refl
  calls_alike (r ∷ earlier) k scope stands scene at gs c d e a good agree =
      go (nat_eq k (length earlier)) good (calls_alike earlier)
    where
      go : (b : Bool) → AllGood R W (if b then accesses (opened_in earlier) (called scope stands) r.body else opened_in earlier k (called scope stands)) → CallsAlike R W (calls_of earlier) (opened_in earlier)
          → LeftAlike R W scope.depth c (if b then call_of (calls_of earlier) r scene at gs c else calls_of earlier k scene at gs c) (if b then call_of (calls_of earlier) r scene at gs d else calls_of earlier k scene at gs d)
      go true good before = call_alike (calls_of earlier) (opened_in earlier) before r scope stands scene at gs c d e a good agree
      go false good before = before k scope stands scene at gs c d e a good agree
