-- An inductive protocol is safe: by induction on runs, each state that is reached violates nothing.
use Rattle.std.proofs.Common.{◌≡◌, ℕ, zero, suc, ◌+◌, ◌⊎◌, inl, inr, Bool, true, false, cond, List, [], ◌∷◌, length, Option, Some, None, refl, sym, ap, ◌∙◌, subst}
use Rattle.std.specs.Prelude.{slice_get, option_and_then}
use Rattle.std.specs.List.{position_from}
use Rattle.std.specs.Str.{bytes_eq}
use Rattle.std.proofs.lemmas.List.{length-replicate}
use Rattle.murphi_ast.specs.declared.token.Span.{Span}
use Rattle.murphi_ast.specs.declared.text.Text.{Text}
use Rattle.murphi_ast.specs.declared.expr.Expr.{Expr}
use Rattle.murphi_ast.specs.declared.stmt.Stmt as st
use Rattle.murphi_ast.specs.declared.stmt.Stmt.{Stmt}
use Rattle.murphi_ast.specs.declared.rule.RuleDecl.{RuleDecl, Rule, Start, Invariant}
use Rattle.murphi_ast.specs.declared.rule.Protocol.{Protocol}
use Rattle.murphi_ast.specs.State.{Cell, Name, State, variables, with_cell, undefined_state}
use Rattle.murphi_ast.specs.Meaning.{Value, value_of, assigned, after, after_all, plain_name, written}
use Rattle.murphi_ast.specs.Step.{Firing, Faults, Moves, fired, started, at_item, rule_at, guarded, ended, guard_value, breaks, faults, is_not_true, is_fault}
use Rattle.murphi_ast.specs.Safety.{IsState, IsStart, Steps, IsRun, Holds, IsSafe, IsInductive, violated, or_else}

-- the length of a list after a choice between two lists of one length
length-cond : (b : Bool) (xs ys : State) (n : ℕ) → length xs ≡ n → length ys ≡ n → length (cond b xs ys) ≡ n
length-cond true xs ys n x y = x
length-cond false xs ys n x y = y

-- a write keeps the number of cells
pub length-with_cell : (vs : List Name) (cells : State) (name : Name) (new : Cell) → length (with_cell vs cells name new) ≡ length cells
length-with_cell [] cells name new = refl
length-with_cell (v ∷ vs) [] name new = refl
length-with_cell (v ∷ vs) (c ∷ cs) name new =
    length-cond (bytes_eq v name) (new ∷ cs) (c ∷ with_cell vs cs name new) (length (c ∷ cs)) refl (ap suc (length-with_cell vs cs name new))

-- an assignment keeps the number of cells
length-assigned : (vs : List Name) (cells : State) (name : Option Name) (new : Option Cell) (t : State) → assigned vs cells name new ≡ Some t → length t ≡ length cells
length-assigned vs cells None new t e = cc
length-assigned vs cells (Some name) None t e = cc
length-assigned vs cells (Some name) (Some new) t e = subst (λ u. length u ≡ length cells) (some_is e) (length-with_cell vs cells name new)
  where
    some_is : {x y : State} → Some x ≡ Some y → x ≡ y
    some_is e = cc

-- a statement keeps it
length-after : (vs : List Name) (cells : State) (first : Stmt) (t : State) → after vs cells first ≡ Some t → length t ≡ length cells
length-after vs cells (st.Assign to value) t e = length-assigned vs cells (plain_name to) (written vs cells value) t e
length-after vs cells _ t e = cc

-- a body keeps it
pub length-after_all : (vs : List Name) (cells : State) (body : List Stmt) (t : State) → after_all vs cells body ≡ Some t → length t ≡ length cells
length-after_all vs cells [] t e = some_is e
  where
    some_is : {x y : State} → Some x ≡ Some y → length y ≡ length x
    some_is e = let same : _ ≡ _ = cc in ap length same
length-after_all vs cells (first ∷ rest) t e =
    go (after vs cells first) refl e (λ next. length-after_all vs next rest t)
  where
    go : (o : Option State) → after vs cells first ≡ o → option_and_then (λ next. after_all vs next rest) o ≡ Some t → ((next : State) → after_all vs next rest ≡ Some t → length t ≡ length next) → length t ≡ length cells
    go None was e again = cc
    go (Some next) was e again = again next e ∙ length-after vs cells first next was

-- what a body that ends leaves
ended_is : (o : Option State) (t : State) → ended o ≡ Moves t → o ≡ Some t
ended_is None t e = cc
ended_is (Some s) t e = let same : s ≡ t = cc in ap Some same

guarded_is : (v : Value) (f : Firing) (t : State) → guarded v f ≡ Moves t → f ≡ Moves t
guarded_is None f t e = cc
guarded_is (Some false) f t e = cc
guarded_is (Some true) f t e = e

length-fired : (vs : List Name) (cells : State) (r : RuleDecl) (t : State) → fired vs cells r ≡ Moves t → length t ≡ length cells
length-fired vs cells (Rule title guard locals body at) t e =
    length-after_all vs cells body t (ended_is _ t (guarded_is (guard_value vs cells guard) _ t e))
length-fired vs cells _ t e = cc

length-started : (vs : List Name) (r : RuleDecl) (t : State) → started vs r ≡ Moves t → length t ≡ length vs
length-started vs (Start title locals body at) t e =
    length-after_all vs (undefined_state vs) body t (ended_is _ t e) ∙ length-replicate (length vs) None
length-started vs _ t e = cc

at_item_is : (f : RuleDecl → Firing) (o : Option RuleDecl) (t : State) (n : ℕ) → ((r : RuleDecl) → f r ≡ Moves t → length t ≡ n) → at_item f o ≡ Moves t → length t ≡ n
at_item_is f None t n h e = cc
at_item_is f (Some r) t n h e = h r e

-- a start has a cell for each variable
pub start_is_state : (p : Protocol) (s : State) → IsStart p s → IsState p s
start_is_state p s (k, e) = at_item_is (started (variables p)) (slice_get p.rules k) s (length (variables p)) (λ r h. length-started (variables p) r s h) e

-- a step keeps the number of cells
pub step_is_state : (p : Protocol) (s t : State) → IsState p s → Steps p s t → IsState p t
step_is_state p s t h (k, e) =
    at_item_is (fired (variables p) s) (slice_get p.rules k) t (length s) (λ r h. length-fired (variables p) s r t h) e ∙ h

-- a place of a list is its first or one of the rest
place_cases : {A : Type 0} (y : A) (ys : List A) (k : ℕ) (x : A) → slice_get (y ∷ ys) k ≡ Some x → (y ≡ x) ⊎ ((j : ℕ) × (slice_get ys j ≡ Some x))
place_cases y ys zero x h = inl cc
place_cases y ys (suc j) x h = inr (j, h)

-- where no place passes a test, no item does
none_from : {A : Type 0} (test : A → Bool) (xs : List A) (i k : ℕ) (x : A) → position_from test i xs ≡ None → slice_get xs k ≡ Some x → test x ≡ false
none_from test [] i k x e h = cc
none_from test (y ∷ ys) i k x e h = go (test y) refl e (place_cases y ys k x h) (λ j. none_from test ys (i + 1) j x)
  where
    go : (b : Bool) → test y ≡ b → cond b (Some i) (position_from test (i + 1) ys) ≡ None → (y ≡ x) ⊎ ((j : ℕ) × (slice_get ys j ≡ Some x)) → ((j : ℕ) → position_from test (i + 1) ys ≡ None → slice_get ys j ≡ Some x → test x ≡ false) → test x ≡ false
    go true was e at again = cc
    go false was e (inl same) again = ap test (sym same) ∙ was
    go false was e (inr (j, h)) again = again j e h

-- where nothing is violated, no invariant is broken and no rule faults
violated_none : (p : Protocol) (s : State) → violated p s ≡ None →
    (position_from (breaks (variables p) s) 0 p.rules ≡ None) × (position_from (faults (variables p) s) 0 p.rules ≡ None)
violated_none p s e = go (position_from (breaks (variables p) s) 0 p.rules) refl e
  where
    go : (o : Option ℕ) → position_from (breaks (variables p) s) 0 p.rules ≡ o → or_else o (position_from (faults (variables p) s) 0 p.rules) ≡ None → (position_from (breaks (variables p) s) 0 p.rules ≡ None) × (position_from (faults (variables p) s) 0 p.rules ≡ None)
    go None was e = (was, e)
    go (Some k) was e = cc

breaks_not : (vs : List Name) (s : State) (title : Option Text) (body : Expr) (at : Span) → breaks vs s (Invariant title body at) ≡ false → value_of vs s body ≡ Some true
breaks_not vs s title body at e = go (value_of vs s body) refl e
  where
    go : (v : Value) → value_of vs s body ≡ v → is_not_true v ≡ false → value_of vs s body ≡ Some true
    go None was e = cc
    go (Some false) was e = cc
    go (Some true) was e = was

faults_not : (vs : List Name) (s : State) (r : RuleDecl) → faults vs s r ≡ false → fired vs s r ≡ Faults → ⊥
faults_not vs s r e f = let same : is_fault Faults ≡ false = ap is_fault (sym f) ∙ e in cc

-- the state satisfies every invariant
pub violated_none_holds : (p : Protocol) (s : State) → violated p s ≡ None → Holds p s
violated_none_holds p s e k title body at h =
    breaks_not (variables p) s title body at (none_from (breaks (variables p) s) p.rules 0 k (Invariant title body at) (violated_none p s e).0 h)

-- no rule faults in the state
pub violated_none_faultless : (p : Protocol) (s : State) → violated p s ≡ None → (k : ℕ) → rule_at p k s ≡ Faults → ⊥
violated_none_faultless p s e k f = go (slice_get p.rules k) refl f
  where
    go : (o : Option RuleDecl) → slice_get p.rules k ≡ o → at_item (fired (variables p) s) o ≡ Faults → ⊥
    go None was f = cc
    go (Some r) was f = faults_not (variables p) s r (none_from (faults (variables p) s) p.rules 0 k r (violated_none p s e).1 was) f

-- a state that an inductive protocol reaches violates nothing
record IsFine (p : Protocol) (s : State) : Type 0 where
  is_state : IsState p s
  fine : violated p s ≡ None

run_is_fine : (p : Protocol) → IsInductive p → (s : State) (earlier : List State) → IsRun p (s ∷ earlier) → IsFine p s
run_is_fine p h s [] run = record { is_state = start_is_state p s run; fine = h.start_states s run }
run_is_fine p h t (s ∷ earlier) run =
    let before = run_is_fine p h s earlier run.1 in
    record { is_state = step_is_state p s t before.is_state run.0; fine = h.steps s t before.is_state before.fine run.0 }

-- an inductive protocol is safe
pub inductive_is_safe : (p : Protocol) → IsInductive p → IsSafe p
inductive_is_safe p h = record {
  starts = h.starts;
  invariants = λ s (earlier, run). violated_none_holds p s (run_is_fine p h s earlier run).fine;
  faultless = λ s (earlier, run). violated_none_faultless p s (run_is_fine p h s earlier run).fine;
}
