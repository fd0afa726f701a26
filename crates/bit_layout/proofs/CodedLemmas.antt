-- What assignments of the layout code, in both directions.
use Rattle.std.proofs.Common.{◌≡◌, ◌↔◌, ℕ, zero, suc, ◌+◌, ◌<◌, ◌≤◌, Bool, true, false, cond, ◌&&◌, ◌||◌, List, [], ◌∷◌, ◌++◌, length, replicate, Option, Some, None, refl, sym, ◌∙◌, ap, subst, arith}
use Rattle.std.specs.Prelude.{slice_get, nat_eq, IsTrue}
use Rattle.std.specs.List.{list_any}
use Rattle.std.specs.Option.{option_map_or}
use Rattle.std.proofs.lemmas.Bool.{and_parts}
use Rattle.std.proofs.lemmas.Bool.Decides.{nat_tests}
use Rattle.term_core.specs.declared.machine.CellFamily.{CellFamily}
use Rattle.term_core.specs.declared.machine.TermRule.{TermRule}
use Rattle.term_core.specs.Cells.{cells, is_cell, place_of}
use Rattle.term_core.specs.Laws.{PlacesHaveCells}
use Rattle.lemma_strengthen.specs.declared.formula.Formula.{Formula}
use Rattle.other_abstract.specs.declared.node.AbsNode.{AbsNode}
use Rattle.other_abstract.specs.declared.machine.AbstractMachine.{AbstractMachine}
use Rattle.other_abstract.specs.Windows.{Window}
use Rattle.other_abstract.specs.May.{AbsCells}
use Rattle.other_abstract.specs.Tests.{may_fail}
use Rattle.other_abstract.specs.Machines.{FitsWindow, AbsStarts, AbsFires, MayFault, window, fired_of}
use Rattle.other_abstract.specs.Stepping.{is_step, is_start, may_fault}
use Rattle.other_abstract.specs.Laws.{StartsAreDecided, StepsAreDecided, ViolationsAreDecided, FaultsAreDecided}
use Rattle.bit_encode.specs.Codes.{width, bits_of, cell_lists, coded_state, is_legal}
use Rattle.bit_encode.specs.Laws.{BitsStandForNumbers, WidthsAreLeast, LegalCodesFit}
use Rattle.bit_layout.specs.declared.choice.Choice.{Choice}
use Rattle.bit_layout.specs.Choices.{start_choices, step_choices, most_fired, passes_at}
use Rattle.bit_layout.specs.Layout.{lists_in, bits_in, bad_place, start_choice_place, next_place, window_place, step_choice_place, bad_next_place}
use Rattle.bit_layout.specs.Coded.{CodesState, CodesStart, CodesStep, IsBad, is_bad, choice_at, may_start, may_step, may_fault_at, is_start_code, is_step_code, start_faults}
use Rattle.bit_layout.specs.Laws.{ChoicesAreListed}
use Rattle.bit_layout.proofs.ChoiceLemmas.{passes_there, passes_here, fired_within}
use Rattle.bit_layout.proofs.SegmentLemmas.{Holds, assigned, holds_all, holds_front, holds_back, position_held, codes_of, all_stand, length_codes, length_bits, code_held}
use Rattle.bit_layout.proofs.ValueLemmas.{same_is}
use Rattle.bit_layout.proofs.FitLemmas.{fitting_stands, kept_fits}

both_true : (a b : Bool) → a ≡ true → b ≡ true → (a && b) ≡ true
both_true a b e f = ap (λ c. c && b) e ∙ f

passes_if : {X : Type 0} (q : X → Bool) (o : Option X) (x : X) → o ≡ Some x → option_map_or q o false ≡ q x
passes_if q o x e = ap (λ p. option_map_or q p false) e

-- What is coded is of the machine, and the other way round.

pub coded_start : ChoicesAreListed → LegalCodesFit → StartsAreDecided → (M : AbstractMachine) (x : ℕ → Bool) → is_start_code M x ≡ true
    → (k : ℕ) × (p : List AbsNode) × (t : AbsCells) × CodesStart M x k p t × AbsStarts M k p t
coded_start listed fit decided M x h =
    let parts = and_parts (is_legal x 0 (lists_in M 0)) (passes_at (may_start M x) (start_choices M) (choice_at x (start_choice_place M) (start_choices M))) h in
    let here = passes_here (may_start M x) (start_choices M) (choice_at x (start_choice_place M) (start_choices M)) parts.1 in
    let is = (listed M.kept M.machine.starts).0 (choice_at x (start_choice_place M) (start_choices M)) here.0 here.1 in
    let t : AbsCells = coded_state x 0 (lists_in M 0) in
    let passes : is_start M is.0 here.0.pattern t ≡ true = sym (passes_if (λ (r : TermRule). is_start M r here.0.pattern t) (slice_get M.machine.starts here.0.number) is.0 is.1) ∙ here.2 in (
      here.0.number,
      here.0.pattern,
      t,
      record { choice = here.1; to = record { legal = parts.0; state = refl } },
      (decided M here.0.number is.0 here.0.pattern t is.1 is.2 (fit (window M 0) x 0 parts.0)).0 passes,
    )

pub start_coded : ChoicesAreListed → LegalCodesFit → StartsAreDecided → (M : AbstractMachine) (x : ℕ → Bool) (k : ℕ) (p : List AbsNode) (t : AbsCells) → CodesStart M x k p t → AbsStarts M k p t → is_start_code M x ≡ true
start_coded listed fit decided M x k p t codes starts =
    let c : Choice = record { number = k; pattern = p } in
    let r : TermRule = starts.0 in
    let fits : FitsWindow (window M 0) t = subst (FitsWindow (window M 0)) codes.to.state (fit (window M 0) x 0 codes.to.legal) in
    let tests : is_start M r p t ≡ true = (decided M k r p t starts.1 starts.2.pattern fits).1 starts in
    both_true (is_legal x 0 (lists_in M 0)) (passes_at (may_start M x) (start_choices M) (choice_at x (start_choice_place M) (start_choices M))) codes.to.legal
    (passes_there (may_start M x) (start_choices M) (choice_at x (start_choice_place M) (start_choices M)) c codes.choice
    ∙ passes_if (λ (r : TermRule). is_start M r p (coded_state x 0 (lists_in M 0))) (slice_get M.machine.starts k) r starts.1
    ∙ ap (is_start M r p) codes.to.state ∙ tests)

pub coded_step : ChoicesAreListed → LegalCodesFit → StepsAreDecided → (M : AbstractMachine) (x : ℕ → Bool) → is_step_code M x ≡ true
    → (s : AbsCells) × (k : ℕ) × (p : List AbsNode) × (w : AbsCells) × (t : AbsCells) × CodesStep M x s k p w t × AbsFires M s k p w t
coded_step listed fit decided M x h =
    let n : ℕ = choice_at x (step_choice_place M) (step_choices M) in
    let outer = and_parts (is_legal x 0 (lists_in M 0)) (is_legal x (next_place M) (lists_in M 0) && passes_at (may_step M x) (step_choices M) n) h in
    let parts = and_parts (is_legal x (next_place M) (lists_in M 0)) (passes_at (may_step M x) (step_choices M) n) outer.1 in
    let here = passes_here (may_step M x) (step_choices M) n parts.1 in
    let p : List AbsNode = here.0.pattern in
    let is = (listed M.kept M.machine.rules).0 n here.0 here.1 in
    let s : AbsCells = coded_state x 0 (lists_in M 0) in
    let t : AbsCells = coded_state x (next_place M) (lists_in M 0) in
    let w : AbsCells = coded_state x (window_place M (fired_of p)) (lists_in M (fired_of p)) in
    let last = and_parts (is_legal x (window_place M (fired_of p)) (lists_in M (fired_of p))) (option_map_or (λ (r : TermRule). is_step M s r p w t) (slice_get M.machine.rules here.0.number) false) here.2 in
    let passes : is_step M s is.0 p w t ≡ true = sym (passes_if (λ (r : TermRule). is_step M s r p w t) (slice_get M.machine.rules here.0.number) is.0 is.1) ∙ last.1 in (
      s,
      here.0.number,
      p,
      w,
      t,
      record {
        from = record { legal = outer.0; state = refl };
        choice = here.1;
        wide = record { legal = last.0; state = refl };
        to = record { legal = parts.0; state = refl };
      },
      (decided M s here.0.number is.0 p w t is.1 is.2 (fit (window M (fired_of p)) x (window_place M (fired_of p)) last.0) (fit (window M 0) x (next_place M) parts.0)).0 passes,
    )

pub step_coded : ChoicesAreListed → LegalCodesFit → StepsAreDecided → (M : AbstractMachine) (x : ℕ → Bool) (s : AbsCells) (k : ℕ) (p : List AbsNode) (w t : AbsCells) → CodesStep M x s k p w t → AbsFires M s k p w t → is_step_code M x ≡ true
step_coded listed fit decided M x s k p w t codes fires =
    let c : Choice = record { number = k; pattern = p } in
    let n : ℕ = choice_at x (step_choice_place M) (step_choices M) in
    let r : TermRule = fires.0 in
    let S : AbsCells = coded_state x 0 (lists_in M 0) in
    let T : AbsCells = coded_state x (next_place M) (lists_in M 0) in
    let wp : ℕ = window_place M (fired_of p) in
    let wide : FitsWindow (window M (fired_of p)) w = subst (FitsWindow (window M (fired_of p))) codes.wide.state (fit (window M (fired_of p)) x wp codes.wide.legal) in
    let next : FitsWindow (window M 0) t = subst (FitsWindow (window M 0)) codes.to.state (fit (window M 0) x (next_place M) codes.to.legal) in
    let tests : is_step M s r p w t ≡ true = (decided M s k r p w t fires.1 fires.2.pattern wide next).1 fires in
    both_true (is_legal x 0 (lists_in M 0)) (is_legal x (next_place M) (lists_in M 0) && passes_at (may_step M x) (step_choices M) n) codes.from.legal
    (both_true (is_legal x (next_place M) (lists_in M 0)) (passes_at (may_step M x) (step_choices M) n) codes.to.legal
    (passes_there (may_step M x) (step_choices M) n c codes.choice
    ∙ both_true (is_legal x wp (lists_in M (fired_of p)))
    (option_map_or (λ (r : TermRule). is_step M S r p (coded_state x wp (lists_in M (fired_of p))) T) (slice_get M.machine.rules k) false) codes.wide.legal
    (passes_if (λ (r : TermRule). is_step M S r p (coded_state x wp (lists_in M (fired_of p))) T) (slice_get M.machine.rules k) r fires.1
    ∙ ap (λ v. is_step M S r p v T) codes.wide.state ∙ ap (is_step M S r p w) codes.to.state ∙ ap (λ v. is_step M v r p w t) codes.from.state ∙ tests)))

-- Bad states and faulty starts

any_here : {X : Type 0} (q : X → Bool) (xs : List X) → list_any q xs ≡ true → (k : ℕ) × (x : X) × (slice_get xs k ≡ Some x) × (q x ≡ true)
any_here q [] h = cc
any_here {X} q (y ∷ ys) h = go (q y) refl h (λ l. any_here q ys l)
  where
    go : (b : Bool) → q y ≡ b → (b || list_any q ys) ≡ true → (list_any q ys ≡ true → (k : ℕ) × (x : X) × (slice_get ys k ≡ Some x) × (q x ≡ true)) → (k : ℕ) × (x : X) × (slice_get (y ∷ ys) k ≡ Some x) × (q x ≡ true)
    go true e h later = (0, y, refl, e)
    go false e h later = let rest = later h in (suc rest.0, rest.1, rest.2, rest.3)

any_there : {X : Type 0} (q : X → Bool) (xs : List X) (k : ℕ) (x : X) → slice_get xs k ≡ Some x → q x ≡ true → list_any q xs ≡ true
any_there q [] k x e h = cc
any_there q (y ∷ ys) zero x e h = let same : y ≡ x = cc in ap (λ b. b || list_any q ys) (ap q same ∙ h)
any_there q (y ∷ ys) (suc k) x e h = go (q y) (any_there q ys k x e h)
  where
    go : (b : Bool) → list_any q ys ≡ true → (b || list_any q ys) ≡ true
    go true e = refl
    go false e = e

pub bad_violates : ViolationsAreDecided → (M : AbstractMachine) (s : AbsCells) → IsTrue (is_bad M s) ↔ IsBad M s
bad_violates decided M s = (
  λ h.
      let here = any_here (λ (f : Formula). may_fail (window M 0) s f.prefix f.body) M.formulas h in
      (here.0, here.1, here.2, (decided M s here.1).0 here.3),
  λ bad. any_there (λ (f : Formula). may_fail (window M 0) s f.prefix f.body) M.formulas bad.0 bad.1 bad.2 ((decided M s bad.1).1 bad.3),
)

pub faults_coded : FaultsAreDecided → (M : AbstractMachine) (x : ℕ → Bool) (k : ℕ) (p : List AbsNode) (t : AbsCells) → CodesStart M x k p t
    → IsTrue (start_faults M x) ↔ ((r : TermRule) × (slice_get M.machine.starts k ≡ Some r) × MayFault M r p)
faults_coded decided M x k p t codes =
    let c : Choice = record { number = k; pattern = p } in
    let is : start_faults M x ≡ may_fault_at M c = passes_there (may_fault_at M) (start_choices M) (choice_at x (start_choice_place M) (start_choices M)) c codes.choice in (
      λ h. has (slice_get M.machine.starts k) refl (sym is ∙ h),
      λ fault. is ∙ passes_if (λ (r : TermRule). may_fault M r p) (slice_get M.machine.starts k) fault.0 fault.1 ∙ (decided M fault.0 p).1 fault.2,
    )
  where
    has : (o : Option TermRule) → slice_get M.machine.starts k ≡ o → option_map_or (λ (r : TermRule). may_fault M r p) o false ≡ true → (r : TermRule) × (slice_get M.machine.starts k ≡ Some r) × MayFault M r p
    has None e h = cc
    has (Some r) e h = (r, e, (decided M r p).0 h)

-- Codes of starts

module _ (stand : BitsStandForNumbers) (least : WidthsAreLeast) where
  pub state_held : (M : AbstractMachine) (x : ℕ → Bool) (place fired : ℕ) (w : AbsCells) → all_stand (lists_in M fired) w ≡ true → Holds x place (codes_of (lists_in M fired) w) → CodesState M x place fired w
  state_held M x place fired w all h = let is = code_held stand least same_is x place (lists_in M fired) w all h in record { legal = is.0; state = is.1 }

  pub window_coded : PlacesHaveCells → (W : Window) (w : AbsCells) (place : ℕ) → FitsWindow W w → (x : ℕ → Bool) × IsTrue (is_legal x place (cell_lists W)) × (coded_state x place (cell_lists W) ≡ w)
  window_coded places W w place fits =
      let bits : List Bool = replicate place false ++ codes_of (cell_lists W) w in
      let h : Holds (assigned bits) (0 + length (replicate place false)) (codes_of (cell_lists W) w) = holds_back (assigned bits) 0 (replicate place false) (codes_of (cell_lists W) w) (holds_all bits) in
      let e : 0 + length (replicate place false) ≡ place = ap (λ n. 0 + n) (long place) ∙ omega arith in
      let is = code_held stand least same_is (assigned bits) place (cell_lists W) w (fitting_stands places W w fits) (subst (λ k. Holds (assigned bits) k (codes_of (cell_lists W) w)) e h) in
      (assigned bits, is.0, is.1)
    where
      long : (n : ℕ) → length (replicate n false) ≡ n
      long zero = refl
      long (suc n) = ap suc (long n)

  start_held : (M : AbstractMachine) (n : ℕ) (k : ℕ) (p : List AbsNode) (t : AbsCells) (bad : Bool) → all_stand (lists_in M 0) t ≡ true → n < length (start_choices M) → slice_get (start_choices M) n ≡ Some (record { number = k; pattern = p })
      → (x : ℕ → Bool) × CodesStart M x k p t × (x (bad_place M) ≡ bad)
  start_held M n k p t bad all inside is =
      let codes : List Bool = codes_of (lists_in M 0) t in
      let tail : List Bool = bits_of (width (length (start_choices M))) n in
      let bits : List Bool = codes ++ (bad ∷ tail) in
      let x : ℕ → Bool = assigned bits in
      let e : 0 + length codes ≡ bits_in M 0 = (let l = length_codes (lists_in M 0) t all in omega (arith, l)) in
      let s : suc (bits_in M 0) ≡ start_choice_place M = omega arith in
      let back : Holds x (bits_in M 0) (bad ∷ tail) = subst (λ q. Holds x q (bad ∷ tail)) e (holds_back x 0 codes (bad ∷ tail) (holds_all bits)) in
      let number : choice_at x (start_choice_place M) (start_choices M) ≡ n = position_held stand least x (start_choice_place M) (length (start_choices M)) n inside (subst (λ q. Holds x q tail) s back.1) in
      (x, record { choice = ap (slice_get (start_choices M)) number ∙ is; to = state_held M x 0 0 t all (holds_front x 0 codes (bad ∷ tail) (holds_all bits)) }, back.0)

  pub starts_coded : ChoicesAreListed → PlacesHaveCells → (M : AbstractMachine) (k : ℕ) (p : List AbsNode) (t : AbsCells) (bad : Bool) → AbsStarts M k p t → (x : ℕ → Bool) × CodesStart M x k p t × (x (bad_place M) ≡ bad)
  starts_coded listed places M k p t bad starts =
      let n = (listed M.kept M.machine.starts).1 k starts.0 p starts.1 starts.2.pattern in
      start_held M n.0 k p t bad (fitting_stands places (window M 0) t starts.2.next) (within (start_choices M) n.0 (record { number = k; pattern = p }) n.1) n.1
    where
      within : (cs : List Choice) (n : ℕ) (c : Choice) → slice_get cs n ≡ Some c → n < length cs
      within [] n c e = cc
      within (d ∷ cs) zero c e = omega arith
      within (d ∷ cs) (suc n) c e = let l = within cs n c e in omega (arith, l)

  -- Codes of steps: the window of the pattern has its state, and the bits of the other windows are false.

  module _ (M : AbstractMachine) (j : ℕ) (w : AbsCells) (all : all_stand (lists_in M j) w ≡ true) where
    piece : ℕ → List Bool
    piece i = cond (nat_eq i j) (codes_of (lists_in M i) w) (replicate (bits_in M i) false)

    windows : ℕ → ℕ → List Bool
    windows i zero = []
    windows i (suc n) = piece i ++ windows (suc i) n

    length_piece : (i : ℕ) → length (piece i) ≡ bits_in M i
    unfolding piece
    length_piece i = go (nat_eq i j) refl
      where
        long : (n : ℕ) → length (replicate n false) ≡ n
        long zero = refl
        long (suc n) = ap suc (long n)

        go : (b : Bool) → nat_eq i j ≡ b → length (cond b (codes_of (lists_in M i) w) (replicate (bits_in M i) false)) ≡ bits_in M i
        go true e = let same : j ≡ i = grind (arith, nat_tests, e) in length_codes (lists_in M i) w (subst (λ k. all_stand (lists_in M k) w ≡ true) same all)
        go false e = long (bits_in M i)

    length_windows : (i n : ℕ) → window_place M i + length (windows i n) ≡ window_place M (i + n)
    unfolding windows
    length_windows i zero = let e : i ≡ i + zero = omega arith in plus_none (window_place M i) ∙ ap (window_place M) e
      where
        plus_none : (a : ℕ) → a + 0 ≡ a
        plus_none a = omega arith
    length_windows i (suc n) =
        let e : suc i + n ≡ i + suc n = omega arith in
        ap (λ l. window_place M i + l) (both (piece i) (windows (suc i) n) ∙ ap (λ l. l + length (windows (suc i) n)) (length_piece i))
        ∙ assoc (window_place M i) (bits_in M i) (length (windows (suc i) n)) ∙ length_windows (suc i) n ∙ ap (window_place M) e
      where
        both : (xs ys : List Bool) → length (xs ++ ys) ≡ length xs + length ys
        both [] ys = let e : length ys ≡ 0 + length ys = omega arith in e
        both (x ∷ xs) ys = let e = both xs ys in omega (arith, e)

        assoc : (a b c : ℕ) → a + (b + c) ≡ a + b + c
        assoc a b c = omega arith

    window_held : (x : ℕ → Bool) (i n : ℕ) → Holds x (window_place M i) (windows i n) → i ≤ j → j < i + n → Holds x (window_place M j) (codes_of (lists_in M j) w)
    unfolding windows piece
    window_held x i zero h low high = absurd (omega (arith, low, high))
    window_held x i (suc n) h low high = go (nat_eq i j) refl (λ k l. window_held x (suc i) n k l (omega (arith, high)))
      where
        go : (b : Bool) → nat_eq i j ≡ b → (Holds x (window_place M (suc i)) (windows (suc i) n) → suc i ≤ j → Holds x (window_place M j) (codes_of (lists_in M j) w)) → Holds x (window_place M j) (codes_of (lists_in M j) w)
        go true e later =
            let same : i ≡ j = grind (arith, nat_tests, e) in
            subst (λ k. Holds x (window_place M k) (codes_of (lists_in M k) w)) same
            (subst (λ b. Holds x (window_place M i) (cond b (codes_of (lists_in M i) w) (replicate (bits_in M i) false))) e (holds_front x (window_place M i) (piece i) (windows (suc i) n) h))
        go false e later =
            let other : suc i ≤ j = grind (arith, nat_tests, e, low) in
            later (subst (λ l. Holds x (window_place M i + l) (windows (suc i) n)) (length_piece i) (holds_back x (window_place M i) (piece i) (windows (suc i) n) h)) other

  step_held : (M : AbstractMachine) (n : ℕ) (s : AbsCells) (k : ℕ) (p : List AbsNode) (w t : AbsCells) (bad bad_next : Bool) → all_stand (lists_in M 0) s ≡ true → (wide : all_stand (lists_in M (fired_of p)) w ≡ true) → all_stand (lists_in M 0) t ≡ true
      → n < length (step_choices M) → slice_get (step_choices M) n ≡ Some (record { number = k; pattern = p })
      → (x : ℕ → Bool) × CodesStep M x s k p w t × (x (bad_place M) ≡ bad) × (x (bad_next_place M) ≡ bad_next)
  step_held M n s k p w t bad bad_next from wide to inside is =
      let j : ℕ = fired_of p in
      let most : ℕ = most_fired (step_choices M) in
      let codes : List Bool = codes_of (lists_in M 0) s in
      let next : List Bool = codes_of (lists_in M 0) t in
      let wins : List Bool = windows M j w wide 0 (suc most) in
      let select : List Bool = bits_of (width (length (step_choices M))) n in
      let last : List Bool = select ++ (bad_next ∷ []) in
      let tail : List Bool = next ++ (wins ++ last) in
      let bits : List Bool = codes ++ (bad ∷ tail) in
      let x : ℕ → Bool = assigned bits in
      let e : 0 + length codes ≡ bits_in M 0 = (let l = length_codes (lists_in M 0) s from in omega (arith, l)) in
      let f : suc (bits_in M 0) ≡ next_place M = omega arith in
      let behind : Holds x (bits_in M 0) (bad ∷ tail) = subst (λ q. Holds x q (bad ∷ tail)) e (holds_back x 0 codes (bad ∷ tail) (holds_all bits)) in
      let after : Holds x (next_place M) tail = subst (λ q. Holds x q tail) f behind.1 in
      let rest : Holds x (window_place M 0) (wins ++ last) = subst (λ l. Holds x (next_place M + l) (wins ++ last)) (length_codes (lists_in M 0) t to) (holds_back x (next_place M) next (wins ++ last) after) in
      let z : 0 + suc most ≡ suc most = omega arith in
      let ends : window_place M 0 + length wins ≡ step_choice_place M = length_windows M j w wide 0 (suc most) ∙ ap (window_place M) z in
      let chosen : Holds x (step_choice_place M) last = subst (λ q. Holds x q last) ends (holds_back x (window_place M 0) wins last rest) in
      let flag : Holds x (bad_next_place M) (bad_next ∷ []) = subst (λ l. Holds x (step_choice_place M + l) (bad_next ∷ [])) (length_bits (width (length (step_choices M))) n) (holds_back x (step_choice_place M) select (bad_next ∷ []) chosen) in
      let number : choice_at x (step_choice_place M) (step_choices M) ≡ n = position_held stand least x (step_choice_place M) (length (step_choices M)) n inside (holds_front x (step_choice_place M) select (bad_next ∷ []) chosen) in
      let low : j ≤ most = fired_within (step_choices M) n (record { number = k; pattern = p }) is in (
        x,
        record {
          from = state_held M x 0 0 s from (holds_front x 0 codes (bad ∷ tail) (holds_all bits));
          choice = ap (slice_get (step_choices M)) number ∙ is;
          wide = state_held M x (window_place M j) j w wide (window_held M j w wide x 0 (suc most) (holds_front x (window_place M 0) wins last rest) (omega arith) (omega (arith, low)));
          to = state_held M x (next_place M) 0 t to (holds_front x (next_place M) next (wins ++ last) after);
        },
        behind.0,
        flag.0,
      )

  pub steps_coded : ChoicesAreListed → PlacesHaveCells → ((N : ℕ) (families : List CellFamily) (f : ℕ) (at : List ℕ) → is_cell N families f at ≡ true → slice_get (cells N families) (place_of N families f at) ≡ Some (record { family = f; at = at }))
      → (M : AbstractMachine) (s : AbsCells) (k : ℕ) (p : List AbsNode) (w t : AbsCells) (bad bad_next : Bool) → AbsFires M s k p w t → (x : ℕ → Bool) × CodesStep M x s k p w t × (x (bad_place M) ≡ bad) × (x (bad_next_place M) ≡ bad_next)
  steps_coded listed places there M s k p w t bad bad_next fires =
      let n = (listed M.kept M.machine.rules).1 k fires.0 p fires.1 fires.2.pattern in
      let fits : FitsWindow (window M 0) s = subst (FitsWindow (window M 0)) (sym fires.2.before) (kept_fits M (fired_of p) there w fires.2.wide) in
      step_held M n.0 s k p w t bad bad_next (fitting_stands places (window M 0) s fits) (fitting_stands places (window M (fired_of p)) w fires.2.wide) (fitting_stands places (window M 0) t fires.2.next)
      (within (step_choices M) n.0 (record { number = k; pattern = p }) n.1) n.1
    where
      within : (cs : List Choice) (n : ℕ) (c : Choice) → slice_get cs n ≡ Some c → n < length cs
      within [] n c e = cc
      within (d ∷ cs) zero c e = omega arith
      within (d ∷ cs) (suc n) c e = let l = within cs n c e in omega (arith, l)
