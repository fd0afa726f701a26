-- How the parts of the search make up the whole.
use Rattle.std.proofs.Common.{◌≡◌, ℕ, ◌+◌, ◌-◌, ◌<◌, ◌≤◌, ◌⊎◌, inl, inr, true, false, List, [], ◌∷◌, ◌++◌, length, get_or, Option, None, Some, refl, sym, ap, ◌∙◌, subst, arith, append_assoc}
use Rattle.std.specs.Prelude.{slice_get, MatchOption}
use Rattle.std.proofs.lemmas.Option.{slice_get-get_or, slice_get_past}
use Rattle.std.proofs.lemmas.Bool.{cases_lt}
use Rattle.std.proofs.lemmas.List.{append-nil}
use Rattle.murphi_ast.specs.declared.rule.RuleDecl.{RuleDecl}
use Rattle.murphi_ast.specs.declared.rule.Protocol.{Protocol}
use Rattle.murphi_ast.specs.State.{Name, State, Cell, variables, undefined_state}
use Rattle.murphi_ast.specs.Step as step
use Rattle.murphi_ast.specs.Step.{Firing, fired, started, at_item, start_at, rule_at}
use Rattle.murphi_ast.specs.Safety.{IsInductive, violated}
use Rattle.flat_check.specs.declared.firing.Outcome.{Outcome}
use Rattle.flat_check.specs.declared.Formula.{Formula}
use Rattle.flat_check.specs.declared.Formula.TheVariants.{Item, StartFault}
use Rattle.flat_check.specs.declared.Finding.{Finding}
use Rattle.flat_check.specs.declared.Finding.TheVariants.{BadStart, BadStep}
use Rattle.flat_check.specs.declared.Found.{Found}
use Rattle.flat_check.specs.Verdict.{IsFinding, state_of, item_formula, first_formula, start_fault}
use Rattle.flat_check.specs.Walk.{violated_in, firing_of}
use Rattle.flat_check.specs.Search.{fired_at, started_at, IsFineStep, IsClean, IsCleanBelow, IsGoodStart, AreGoodStarts, IsClear, state_in, IsFindingIn, IsFound}

-- the item at a place within the list
at_place : {A : Type 0} (xs : List A) (k : ℕ) (x : A) → k < length xs → x ≡ get_or xs k x → slice_get xs k ≡ Some x
at_place xs k x h is = slice_get-get_or xs k x h ∙ ap Some (sym is)

-- firing the item that stands there
pub fired_is : (vs : List Name) (items : List RuleDecl) (s : State) (k : ℕ) (item : RuleDecl) (o : Outcome) → k < length items → item ≡ get_or items k item → firing_of o ≡ fired vs s item → fired_at vs items k s ≡ firing_of o
fired_is vs items s k item o h is e = ap (at_item (fired vs s)) (at_place items k item h is) ∙ sym e

pub started_is : (vs : List Name) (items : List RuleDecl) (k : ℕ) (item : RuleDecl) (o : Outcome) → k < length items → item ≡ get_or items k item → firing_of o ≡ started vs item → started_at vs items k ≡ firing_of o
started_is vs items k item o h is e = ap (at_item (started vs)) (at_place items k item h is) ∙ sym e

pub step_disabled : (vs : List Name) (items : List RuleDecl) (s : State) (k : ℕ) → fired_at vs items k s ≡ step.Disabled → IsFineStep vs items s k
step_disabled vs items s k e = record { fine = λ t m. absurd (moves_not (sym e ∙ m)) }
  where
    moves_not : {t : State} → step.Disabled ≡ step.Moves t → ⊥
    moves_not e = cc

pub step_faults : (vs : List Name) (items : List RuleDecl) (s : State) (k : ℕ) → fired_at vs items k s ≡ step.Faults → IsFineStep vs items s k
step_faults vs items s k e = record { fine = λ t m. absurd (moves_not (sym e ∙ m)) }
  where
    moves_not : {t : State} → step.Faults ≡ step.Moves t → ⊥
    moves_not e = cc

same_moves : {s t : State} → step.Moves s ≡ step.Moves t → s ≡ t
same_moves e = cc

pub step_moves : (vs : List Name) (items : List RuleDecl) (s : State) (k : ℕ) (to : State) → fired_at vs items k s ≡ step.Moves to → violated_in vs items to ≡ None → IsFineStep vs items s k
step_moves vs items s k to e h = record { fine = λ t m. subst (λ u. violated_in vs items u ≡ None) (same_moves (sym e ∙ m)) h }

pub step_found : (vs : List Name) (items : List RuleDecl) (from before : State) (k : ℕ) (to : State) (item : ℕ) → from ≡ before →
    length before ≡ length vs → violated_in vs items before ≡ None → fired_at vs items k before ≡ step.Moves to → violated_in vs items to ≡ Some item →
    IsFound vs items (record { finding = BadStep from k to; formula = Item item })
step_found vs items from before k to item same l f m v =
    subst (λ s. IsFound vs items (record { finding = BadStep s k to; formula = Item item })) (sym same) (record { is = (l, f, m, ap item_formula v) })

-- a state whose every item leads nowhere bad
pub clean_all : (vs : List Name) (items : List RuleDecl) (s : State) → ((k : ℕ) → k < length items → IsFineStep vs items s k) → IsClean vs items s
clean_all vs items s h = record { steps = λ _ k. go k (cases_lt k (length items)) }
  where
    go : (k : ℕ) → (k < length items) ⊎ (length items ≤ k) → IsFineStep vs items s k
    go k (inl l) = h k l
    go k (inr l) = step_disabled vs items s k (ap (at_item (fired vs s)) (slice_get_past items k l))

-- a state that violates something is the start of no bad step
pub clean_violated : (vs : List Name) (items : List RuleDecl) (s : State) (k : ℕ) → violated_in vs items s ≡ Some k → IsClean vs items s
clean_violated vs items s k e = record { steps = λ h. absurd (some_not (sym e ∙ h)) }
  where
    some_not : {k : ℕ} → Some k ≡ None → ⊥
    some_not e = cc

-- no cell is left
pub below_none : (vs : List Name) (items : List RuleDecl) (front : State) → IsClean vs items front → IsCleanBelow vs items front 0
below_none vs items front h = record { clean = go }
  where
    go : (more : State) → length more ≡ 0 → IsClean vs items (front ++ more)
    go [] e = subst (IsClean vs items) (sym (append-nil front)) h
    go (c ∷ more) e = absurd (omega arith)

-- each value of the next cell
pub below_each : (vs : List Name) (items : List RuleDecl) (front : State) (left : ℕ) →
    IsCleanBelow vs items (front ++ None ∷ []) left → IsCleanBelow vs items (front ++ Some false ∷ []) left → IsCleanBelow vs items (front ++ Some true ∷ []) left →
    IsCleanBelow vs items front (left + 1)
below_each vs items front left u f t = record { clean = go }
  where
    with_first : (c : Cell) (more : State) → length more ≡ left → IsCleanBelow vs items (front ++ c ∷ []) left → IsClean vs items (front ++ c ∷ more)
    with_first c more e h = subst (IsClean vs items) (append_assoc front (c ∷ []) more) (h.clean more e)

    go : (more : State) → length more ≡ left + 1 → IsClean vs items (front ++ more)
    go [] e = absurd (omega arith)
    go (None ∷ more) e = with_first None more (omega arith) u
    go (Some false ∷ more) e = with_first (Some false) more (omega arith) f
    go (Some true ∷ more) e = with_first (Some true) more (omega arith) t

-- the same, as the answer of the last of the three
pub below_last : (vs : List Name) (items : List RuleDecl) (front : State) (left : ℕ) (u f t : Option Found) → 0 < left → u ≡ None → f ≡ None →
    MatchOption u (IsCleanBelow vs items (front ++ None ∷ []) (left - 1)) (λ found. IsFound vs items found) →
    MatchOption f (IsCleanBelow vs items (front ++ Some false ∷ []) (left - 1)) (λ found. IsFound vs items found) →
    MatchOption t (IsCleanBelow vs items (front ++ Some true ∷ []) (left - 1)) (λ found. IsFound vs items found) →
    MatchOption t (IsCleanBelow vs items front left) (λ found. IsFound vs items found)
below_last vs items front left (Some a) f t pos eu ef hu hf ht = cc
below_last vs items front left None (Some a) t pos eu ef hu hf ht = cc
below_last vs items front left None None (Some found) pos eu ef hu hf ht = ht
below_last vs items front left None None None pos eu ef hu hf ht =
    let e : left - 1 + 1 ≡ left = omega arith in
    subst (IsCleanBelow vs items front) e (below_each vs items front (left - 1) hu hf ht)

-- an item that is no start state is no bad one
pub start_disabled : (vs : List Name) (items : List RuleDecl) (k : ℕ) → started_at vs items k ≡ step.Disabled → IsGoodStart vs items k
start_disabled vs items k e = record { ends = λ f. faults_not (sym e ∙ f); fine = λ s m. absurd (moves_not (sym e ∙ m)) }
  where
    faults_not : step.Disabled ≡ step.Faults → ⊥
    faults_not e = cc

    moves_not : {t : State} → step.Disabled ≡ step.Moves t → ⊥
    moves_not e = cc

pub start_moves : (vs : List Name) (items : List RuleDecl) (k : ℕ) (s : State) → started_at vs items k ≡ step.Moves s → violated_in vs items s ≡ None → IsGoodStart vs items k
start_moves vs items k s e h = record { ends = λ f. faults_not (sym e ∙ f); fine = λ t m. subst (λ u. violated_in vs items u ≡ None) (same_moves (sym e ∙ m)) h }
  where
    faults_not : {t : State} → step.Moves t ≡ step.Faults → ⊥
    faults_not e = cc

pub start_found : (vs : List Name) (items : List RuleDecl) (k : ℕ) (s : State) (item : ℕ) → started_at vs items k ≡ step.Moves s → violated_in vs items s ≡ Some item →
    IsFound vs items (record { finding = BadStart k s; formula = Item item })
start_found vs items k s item e v = record { is = (ap (state_in vs) e, ap (λ o. first_formula (item_formula o) (start_fault k (started_at vs items k))) v) }

pub fault_found : (vs : List Name) (items : List RuleDecl) (k : ℕ) (s : State) (item : ℕ) → started_at vs items k ≡ step.Faults → s ≡ undefined_state vs → violated_in vs items s ≡ Some item →
    IsFound vs items (record { finding = BadStart k s; formula = Item item })
fault_found vs items k s item e u v = record { is = (ap (state_in vs) e ∙ ap Some (sym u), ap (λ o. first_formula (item_formula o) (start_fault k (started_at vs items k))) v) }

pub fault_itself : (vs : List Name) (items : List RuleDecl) (k : ℕ) (s : State) → started_at vs items k ≡ step.Faults → s ≡ undefined_state vs → violated_in vs items s ≡ None →
    IsFound vs items (record { finding = BadStart k s; formula = StartFault k })
fault_itself vs items k s e u v = record { is = (ap (state_in vs) e ∙ ap Some (sym u), ap (λ o. first_formula (item_formula o) (start_fault k (started_at vs items k))) v ∙ ap (start_fault k) e) }

pub starts_all : (vs : List Name) (items : List RuleDecl) → ((k : ℕ) → k < length items → IsGoodStart vs items k) → AreGoodStarts vs items
starts_all vs items h = record { good = λ k. go k (cases_lt k (length items)) }
  where
    go : (k : ℕ) → (k < length items) ⊎ (length items ≤ k) → IsGoodStart vs items k
    go k (inl l) = h k l
    go k (inr l) = start_disabled vs items k (ap (at_item (started vs)) (slice_get_past items k l))

-- nothing is to be found where all starts are good and all states clean
pub clear_is : (vs : List Name) (items : List RuleDecl) → AreGoodStarts vs items → IsCleanBelow vs items [] (length vs) → IsClear vs items
clear_is vs items a b = record { starts = a; states = b.clean }

-- a protocol in which nothing is to be found is inductive
pub clear_inductive : (p : Protocol) (vs : List Name) (items : List RuleDecl) → vs ≡ variables p → items ≡ p.rules → IsClear vs items → IsInductive p
clear_inductive p vs items e e' h = go (subst (λ names. IsClear names p.rules) e (subst (IsClear vs) e' h))
  where
    go : IsClear (variables p) p.rules → IsInductive p
    go h = record {
      starts = λ k. (h.starts.good k).ends;
      start_states = λ s (k, m). (h.starts.good k).fine s m;
      steps = λ s t l v (k, m). ((h.states s l).steps v k).fine t m;
    }

state_same : (p : Protocol) (f : Firing) → state_of p f ≡ state_in (variables p) f
state_same p step.Disabled = refl
state_same p step.Faults = refl
state_same p (step.Moves s) = refl

-- what is found is a finding of the protocol
finding_of : (p : Protocol) (finding : Finding) (formula : Formula) → IsFindingIn (variables p) p.rules finding formula → IsFinding p finding formula
finding_of p (BadStart k s) formula h = (state_same p (start_at p k) ∙ h.0, h.1)
finding_of p (BadStep from k to) formula h = h

pub found_finding : (p : Protocol) (vs : List Name) (items : List RuleDecl) (f : Found) → vs ≡ variables p → items ≡ p.rules → IsFound vs items f → IsFinding p f.finding f.formula
found_finding p vs items f e e' h =
    let found : IsFound (variables p) p.rules f = subst (λ names. IsFound names p.rules f) e (subst (λ all. IsFound vs all f) e' h) in
    finding_of p f.finding f.formula found.is

-- a finding shows that the protocol is not inductive
pub no_proof : (p : Protocol) (finding : Finding) (formula : Formula) → IsFinding p finding formula → IsInductive p → ⊥
no_proof p (BadStart k s) formula (left, h) ind = go (start_at p k) refl left h
  where
    none_of : {f : Formula} → None ≡ Some f → ⊥
    none_of e = cc

    go : (f : Firing) → start_at p k ≡ f → state_of p f ≡ Some s → first_formula (item_formula (violated p s)) (start_fault k f) ≡ Some formula → ⊥
    go step.Disabled was left h = none_some left
      where
        none_some : None ≡ Some s → ⊥
        none_some e = cc
    go step.Faults was left h = ind.starts k was
    go (step.Moves t) was left h =
        let same : t ≡ s = some_is left in
        none_of (sym (ap (λ o. first_formula (item_formula o) None) (ind.start_states s (k, was ∙ ap step.Moves same))) ∙ h)
      where
        some_is : Some t ≡ Some s → t ≡ s
        some_is e = cc
no_proof p (BadStep from k to) formula (is_state, fine, moves, h) ind =
    none_of (sym (ap item_formula (ind.steps from to is_state fine (k, moves))) ∙ h)
  where
    none_of : {f : Formula} → None ≡ Some f → ⊥
    none_of e = cc
