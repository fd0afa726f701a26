-- Pieces hold or fail, and labels give runs.
use Rattle.std.proofs.Common.{◌≡◌, ◌⊎◌, inl, inr, ℕ, zero, suc, Bool, true, false, ◌&&◌, List, [], ◌∷◌, ◌++◌, Some, refl, sym, ap, ◌∙◌, subst}
use Rattle.std.specs.Prelude.{slice_get}
use Rattle.std.specs.List.{list_all}
use Rattle.std.proofs.lemmas.Bool.{and_parts}
use Rattle.term_core.specs.declared.machine.Piece.{Piece}
use Rattle.term_core.specs.declared.machine.TermRule.{TermRule}
use Rattle.term_core.specs.declared.machine.TermMachine.{TermMachine}
use Rattle.term_core.specs.Nodes.{choices}
use Rattle.term_core.specs.Meaning.{Cells, holds}
use Rattle.term_core.specs.Cells.{State, choice_place}
use Rattle.term_core.specs.Firing.{IsFalseFor, IsTrueForAll, HasFalsePiece, AllPiecesHold, Starts, Fires, Label, IsRun, IsLabelledRun, start_state, next_state}
use Rattle.term_core.proofs.CellLemmas.{choice_there}
use Rattle.term_core.proofs.OrderLemmas.{choices_back}
use Rattle.term_core.proofs.FrameLemmas.{each_at, no_each, one_more_each}

-- a test that holds of each element holds of that at a place
passes_at : {X : Type 0} (p : X → Bool) (xs : List X) (k : ℕ) (x : X) → list_all p xs ≡ true → slice_get xs k ≡ Some x → p x ≡ true
passes_at p [] k x all e = cc
passes_at p (y ∷ ys) zero x all e = let same : y ≡ x = cc in ap p (sym same) ∙ (and_parts (p y) (list_all p ys) all).0
passes_at p (y ∷ ys) (suc k) x all e = passes_at p ys k x (and_parts (p y) (list_all p ys) all).1 e

-- and one that does not fails at some place
record FailsAt {X : Type 0} (p : X → Bool) (xs : List X) : Type 0 where
  place : ℕ
  element : X
  is : slice_get xs place ≡ Some element
  fails : p element ≡ false

some_fails : {X : Type 0} (p : X → Bool) (xs : List X) → list_all p xs ≡ false → FailsAt p xs
some_fails p [] h = cc
some_fails p (x ∷ xs) h = go (p x) refl (λ g. some_fails p xs g)
  where
    go : (b : Bool) → p x ≡ b → (list_all p xs ≡ false → FailsAt p xs) → FailsAt p (x ∷ xs)
    go false was later = record { place = 0; element = x; is = refl; fails = was }
    go true was later = let r = later (sym (ap (λ b. b && list_all p xs) was) ∙ h) in record { place = suc r.place; element = r.element; is = r.is; fails = r.fails }

one_piece : (N : ℕ) (c : Cells) (p : List ℕ) (piece : Piece) → IsTrueForAll N c p piece ⊎ ((bound : List ℕ) × IsFalseFor N c p piece bound)
one_piece N c p piece = go (list_all (λ bound. holds N c (p ++ bound) piece.body) (choices N piece.binders)) refl
  where
    go : (b : Bool) → list_all (λ bound. holds N c (p ++ bound) piece.body) (choices N piece.binders) ≡ b → IsTrueForAll N c p piece ⊎ ((bound : List ℕ) × IsFalseFor N c p piece bound)
    go true was = inl (λ bound count are. passes_at (λ ns. holds N c (p ++ ns) piece.body) (choices N piece.binders) (choice_place N bound) bound was (choice_there N piece.binders bound count are))
    go false was =
        let r = some_fails (λ ns. holds N c (p ++ ns) piece.body) (choices N piece.binders) was in
        let back = choices_back N piece.binders r.place r.element r.is in
        inr (r.element, record { count = back.0; nodes = back.1; false_there = r.fails })

-- of a list of pieces all hold, or some is false
pub pieces_one : (N : ℕ) (c : Cells) (pieces : List Piece) (p : List ℕ) → AllPiecesHold N c pieces p ⊎ HasFalsePiece N c pieces p
pieces_one N c [] p = inl (no_each (IsTrueForAll N c p))
pieces_one N c (piece ∷ pieces) p = go (one_piece N c p piece) (pieces_one N c pieces p)
  where
    go : IsTrueForAll N c p piece ⊎ ((bound : List ℕ) × IsFalseFor N c p piece bound) → AllPiecesHold N c pieces p ⊎ HasFalsePiece N c pieces p → AllPiecesHold N c (piece ∷ pieces) p ⊎ HasFalsePiece N c (piece ∷ pieces) p
    go (inl here) (inl rest) = inl (one_more_each (IsTrueForAll N c p) piece pieces here rest)
    go (inl here) (inr (k, q, e, f)) = inr (suc k, q, e, f)
    go (inr f) rest = inr (0, piece, refl, f)

-- and never both
pub pieces_not_both : (N : ℕ) (c : Cells) (pieces : List Piece) (p : List ℕ) → AllPiecesHold N c pieces p → HasFalsePiece N c pieces p → ⊥
pieces_not_both N c pieces p all (k, piece, e, (bound, fails)) =
    let both : true ≡ false = sym (each_at (IsTrueForAll N c p) pieces k piece all e bound fails.count fails.nodes) ∙ fails.false_there in
    cc

-- a start leaves one state, and a firing leads to one
one_rule : (rs : List TermRule) (k : ℕ) (a b : TermRule) → slice_get rs k ≡ Some a → slice_get rs k ≡ Some b → a ≡ b
one_rule rs k a b e f = some_is (sym e ∙ f)
  where
    some_is : Some a ≡ Some b → a ≡ b
    some_is g = cc

start_one : (N : ℕ) (m : TermMachine) (k : ℕ) (p : List ℕ) (s t : State) → Starts N m k p s → Starts N m k p t → s ≡ t
start_one N m k p s t (r, e, choice, is) (q, f, other, same) = is ∙ ap (λ x. start_state N m.families x p) (one_rule m.starts k r q e f) ∙ sym same

fire_one : (N : ℕ) (m : TermMachine) (s : State) (k : ℕ) (p : List ℕ) (t u : State) → Fires N m s k p t → Fires N m s k p u → t ≡ u
fire_one N m s k p t u (r, e, choice, step) (q, f, other, more) = step.next ∙ ap (λ x. next_state N m.families s x p) (one_rule m.rules k r q e f) ∙ sym more.next

head_is : {a b : State} {xs ys : List State} → a ∷ xs ≡ b ∷ ys → a ≡ b
head_is e = cc

-- labels give one list of states
pub labels_one : (N : ℕ) (m : TermMachine) (start : Label) (ls : List Label) (ss ts : List State) → IsLabelledRun N m start ls ss → IsLabelledRun N m start ls ts → ss ≡ ts
labels_one N m start [] (s ∷ []) (t ∷ []) a b = ap (λ x. x ∷ []) (start_one N m start.number start.nodes s t a b)
labels_one N m start (l ∷ ls) (s ∷ s' ∷ ss) (t ∷ t' ∷ ts) a b =
    let rest = labels_one N m start ls (s' ∷ ss) (t' ∷ ts) a.1 b.1 in
    let last = fire_one N m s' l.number l.nodes s t a.0 (subst (λ x. Fires N m x l.number l.nodes t) (sym (head_is rest)) b.0) in
    ap (λ x. x ∷ s' ∷ ss) last ∙ ap (λ xs. t ∷ xs) rest
labels_one N m start [] [] ts a b = absurd a
labels_one N m start [] (s ∷ s' ∷ ss) ts a b = absurd a
labels_one N m start [] (s ∷ []) [] a b = absurd b
labels_one N m start [] (s ∷ []) (t ∷ t' ∷ ts) a b = absurd b
labels_one N m start (l ∷ ls) [] ts a b = absurd a
labels_one N m start (l ∷ ls) (s ∷ []) ts a b = absurd a
labels_one N m start (l ∷ ls) (s ∷ s' ∷ ss) [] a b = absurd b
labels_one N m start (l ∷ ls) (s ∷ s' ∷ ss) (t ∷ []) a b = absurd b

-- which are a run
pub labelled_is_run : (N : ℕ) (m : TermMachine) (start : Label) (ls : List Label) (ss : List State) → IsLabelledRun N m start ls ss → IsRun N m ss
labelled_is_run N m start [] (s ∷ []) a = (start.number, start.nodes, a)
labelled_is_run N m start (l ∷ ls) (t ∷ s ∷ ss) a = ((l.number, l.nodes, a.0), labelled_is_run N m start ls (s ∷ ss) a.1)
labelled_is_run N m start [] [] a = absurd a
labelled_is_run N m start [] (s ∷ s' ∷ ss) a = absurd a
labelled_is_run N m start (l ∷ ls) [] a = absurd a
labelled_is_run N m start (l ∷ ls) (s ∷ []) a = absurd a

-- and each run is given so
pub run_has_labels : (N : ℕ) (m : TermMachine) (ss : List State) → IsRun N m ss → (start : Label) × (ls : List Label) × IsLabelledRun N m start ls ss
run_has_labels N m [] run = absurd run
run_has_labels N m (s ∷ []) (k, p, is) = (record { number = k; nodes = p }, [], is)
run_has_labels N m (t ∷ s ∷ ss) ((k, p, is), before) =
    let (start, ls, rest) = run_has_labels N m (s ∷ ss) before in
    (start, record { number = k; nodes = p } ∷ ls, (is, rest))
