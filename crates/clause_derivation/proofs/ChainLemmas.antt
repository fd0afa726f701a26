-- The steps of a chain on marks, and the literals that they leave.
use Rattle.std.proofs.Common.{◌≡◌, ℕ, ◌+◌, ◌<◌, ◌&&◌, ◌||◌, ◌++◌, zero, suc, Bool, true, false, List, [], ◌∷◌, length, get_or, take, eqb, refl, sym, ◌∙◌, ap, subst, inl, inr, Some, None, Option}
use Rattle.std.specs.Prelude.{fold, slice_get, unwrap_or, not}
use Rattle.std.specs.List.{flat_map}
use Rattle.std.specs.Option.{option_and_then}
use Rattle.std.proofs.lemmas.Bool.{or_cases, or_left, or_right}
use Rattle.std.proofs.lemmas.List.{take_more, append_assoc, append-nil}
use Rattle.std.proofs.lemmas.List.Folds.{fold_stuck, fold_stays}
use Rattle.std.proofs.lemmas.List.Sums.{fold-append}
use Rattle.clause_core.specs.declared.literal.Lit.{Lit}
use Rattle.clause_core.specs.Literal.{positive, negative}
use Rattle.clause_derivation.specs.declared.chain.Chain.{Chain}
use Rattle.clause_derivation.specs.declared.chain.Resolve.{Resolve}
use Rattle.clause_derivation.specs.Resolution.{without, clash, others, chosen, resolvent}
use Rattle.clause_core.specs.Members.{has}
use Rattle.clause_derivation.specs.Derivation.{next, chain_end}
use Rattle.clause_derivation.specs.Marking.{AreMarks, IsClear, AreWithin, Stepped, Ended, Unmarks}
use Rattle.clause_derivation.specs.Numbering.{named, touched}
use Rattle.clause_derivation.proofs.MarkLemmas.{has-append, has-without, AreMarkedToo, unmarks_then}

-- the marks are those of the clause that the steps have left so far
abbrev pub Ran : List Bool → Option (List Lit) → Type 0
Ran m (Some c) = AreMarks m c
Ran m None = ⊥

-- the first clause, marked where nothing was
pub ran_first : (old new : List Bool) (c : List Lit) (o : Option (List Lit)) → Some c ≡ o → IsClear old → AreMarkedToo old new c → Ran new o
ran_first old new c o e clear more = subst (Ran new) e (λ l. more l ∙ ap (λ b. b || has c l) (clear l))

stepped_ran : (m n : List Bool) (o : Option (List Lit)) → Stepped m n o true → Ran n o
stepped_ran m n (Some c) h = h
stepped_ran m n None h = h

ran_next : (clauses : List (List Lit)) (o : Option (List Lit)) (s : Resolve) (m n : List Bool) → Ran m o → ((c : List Lit) → AreMarks m c → Stepped m n (next clauses (Some c) s) true) → Ran n (next clauses o s)
ran_next clauses None s m n r f = absurd r
ran_next clauses (Some c) s m n r f = stepped_ran m n (next clauses (Some c) s) (f c r)

fold_more : (clauses : List (List Lit)) (o : Option (List Lit)) (steps : List Resolve) (i : ℕ) (d : Resolve) → i < length steps → fold (next clauses) o (take (i + 1) steps) ≡ next clauses (fold (next clauses) o (take i steps)) (get_or steps i d)
fold_more clauses o steps i d h = ap (fold (next clauses) o) (take_more steps i d h) ∙ fold-append (next clauses) o (take i steps) (get_or steps i d ∷ [])

-- one more step that is one
pub ran_more : (clauses : List (List Lit)) (o : Option (List Lit)) (steps : List Resolve) (i : ℕ) (d : Resolve) (m n : List Bool) → i < length steps → Ran m (fold (next clauses) o (take i steps)) → ((c : List Lit) → AreMarks m c → Stepped m n (next clauses (Some c) (get_or steps i d)) true) → Ran n (fold (next clauses) o (take (i + 1) steps))
ran_more clauses o steps i d m n h r f = subst (Ran n) (sym (fold_more clauses o steps i d h)) (ran_next clauses (fold (next clauses) o (take i steps)) (get_or steps i d) m n r f)

stepped_stop : (m n : List Bool) (o : Option (List Lit)) → Stepped m n o false → (o ≡ None) × (n ≡ m)
stepped_stop m n (Some c) h = absurd h
stepped_stop m n None h = (refl, h)

next_stop : (clauses : List (List Lit)) (o : Option (List Lit)) (s : Resolve) (m n : List Bool) → Ran m o → ((c : List Lit) → AreMarks m c → Stepped m n (next clauses (Some c) s) false) → (next clauses o s ≡ None) × (n ≡ m)
next_stop clauses None s m n r f = absurd r
next_stop clauses (Some c) s m n r f = stepped_stop m n (next clauses (Some c) s) (f c r)

-- a step that is none
pub ran_stop : (clauses : List (List Lit)) (o : Option (List Lit)) (steps : List Resolve) (i : ℕ) (d : Resolve) (m n : List Bool) → i < length steps → Ran m (fold (next clauses) o (take i steps)) → ((c : List Lit) → AreMarks m c → Stepped m n (next clauses (Some c) (get_or steps i d)) false) → (None ≡ fold (next clauses) o steps) × (n ≡ m)
ran_stop clauses o steps i d m n h r f =
    let stop : (next clauses (fold (next clauses) o (take i steps)) (get_or steps i d) ≡ None) × (n ≡ m) = next_stop clauses (fold (next clauses) o (take i steps)) (get_or steps i d) m n r f in
    (fold_stuck (next clauses) None (λ s. refl) o steps i d h stop.0, stop.1)

-- every literal of c is one of d
abbrev pub IsPart : List Lit → List Lit → Type 0
IsPart c d = (l : Lit) → has c l ≡ true → has d l ≡ true

part_left : (c d : List Lit) → IsPart c (c ++ d)
part_left c d l h = has-append c d l ∙ or_left (has c l) (has d l) h

part_right : (c d : List Lit) → IsPart d (c ++ d)
part_right c d l h = has-append c d l ∙ or_right (has c l) (has d l) h

pub part_both : (c d e : List Lit) → IsPart c e → IsPart d e → IsPart (c ++ d) e
part_both c d e f g l h = elim (or_cases (has c l) (has d l) (sym (has-append c d l) ∙ h)) [ inl i ↦ f l i | inr j ↦ g l j ]

and_first : (a b : Bool) → (a && b) ≡ true → a ≡ true
and_first true b h = refl
and_first false b h = cc

part_without : (c : List Lit) (l : Lit) → IsPart (without c l) c
part_without c l k h = and_first (has c k) (not (eqb k.code l.code)) (sym (has-without c l k) ∙ h)

part_others : (c : List Lit) (l : Lit) (d : List Lit) (m : Lit) → IsPart (others c l d m) (c ++ d)
part_others c l d m = part_both (without c l) (without d m) (c ++ d)
    (λ k h. part_left c d k (part_without c l k h)) (λ k h. part_right c d k (part_without d m k h))

-- the literals of what may be a clause
abbrev pub lits_of : Option (List Lit) → List Lit
lits_of o = unwrap_or o []

part_chosen : (f b : Bool) (x y e : List Lit) → IsPart x e → IsPart y e → IsPart (lits_of (chosen f b x y)) e
part_chosen true true x y e p q l h = cc
part_chosen true false x y e p q l h = p l h
part_chosen false true x y e p q l h = q l h
part_chosen false false x y e p q l h = cc

pub part_resolved : (p : ℕ) (c : List Lit) (o : Option (List Lit)) → IsPart (lits_of (option_and_then (resolvent p c) o)) (c ++ lits_of o)
part_resolved p c None l h = cc
part_resolved p c (Some d) l h = part_chosen (clash c (positive p) d (negative p)) (clash c (negative p) d (positive p))
    (others c (positive p) d (negative p)) (others c (negative p) d (positive p)) (c ++ d)
    (part_others c (positive p) d (negative p)) (part_others c (negative p) d (positive p)) l h

part_next : (clauses : List (List Lit)) (o : Option (List Lit)) (s : Resolve) → IsPart (lits_of (next clauses o s)) (lits_of o ++ named clauses s.with)
part_next clauses None s l h = cc
part_next clauses (Some c) s l h = part_resolved s.pivot c (slice_get clauses s.with) l h

-- the literals of all clauses that steps name
abbrev pub named_by : List (List Lit) → List Resolve → List Lit
named_by clauses steps = flat_map (λ s. named clauses s.with) steps

pub part_steps : (clauses : List (List Lit)) (o : Option (List Lit)) (steps : List Resolve) → IsPart (lits_of (fold (next clauses) o steps)) (lits_of o ++ named_by clauses steps)
part_steps clauses o [] l h = part_left (lits_of o) [] l h
part_steps clauses o (s ∷ steps) l h =
    part_both (lits_of (next clauses o s)) (named_by clauses steps) (lits_of o ++ (named clauses s.with ++ named_by clauses steps))
    (λ k i. part_both (lits_of o) (named clauses s.with) (lits_of o ++ (named clauses s.with ++ named_by clauses steps))
    (part_left (lits_of o) (named clauses s.with ++ named_by clauses steps))
    (λ k j. part_right (lits_of o) (named clauses s.with ++ named_by clauses steps) k (part_left (named clauses s.with) (named_by clauses steps) k j))
    k (part_next clauses o s k i))
    (λ k i. part_right (lits_of o) (named clauses s.with ++ named_by clauses steps) k (part_right (named clauses s.with) (named_by clauses steps) k i))
    l (part_steps clauses (next clauses o s) steps l h)

part_take : (clauses : List (List Lit)) (i : ℕ) (steps : List Resolve) → IsPart (named_by clauses (take i steps)) (named_by clauses steps)
part_take clauses zero steps l h = cc
part_take clauses (suc i) [] l h = h
part_take clauses (suc i) (s ∷ steps) l h = part_both (named clauses s.with) (named_by clauses (take i steps)) (named clauses s.with ++ named_by clauses steps)
    (part_left (named clauses s.with) (named_by clauses steps))
    (λ k j. part_right (named clauses s.with) (named_by clauses steps) k (part_take clauses i steps k j)) l h

-- what the first steps of a chain leave has only literals of clauses that the chain names
part_touched : (clauses : List (List Lit)) (ch : Chain) (i : ℕ) → IsPart (lits_of (fold (next clauses) (slice_get clauses ch.first) (take i ch.steps))) (touched clauses ch)
part_touched clauses ch i l h = part_both (named clauses ch.first) (named_by clauses (take i ch.steps)) (touched clauses ch)
    (part_left (named clauses ch.first) (named_by clauses ch.steps))
    (λ k j. part_right (named clauses ch.first) (named_by clauses ch.steps) k (part_take clauses i ch.steps k j))
    l (part_steps clauses (slice_get clauses ch.first) (take i ch.steps) l h)

ran_lits : (m : List Bool) (o : Option (List Lit)) → Ran m o → AreWithin m (lits_of o)
ran_lits m (Some c) r l t = sym (r l) ∙ t
ran_lits m None r l t = absurd r

-- the marks at any moment are within the clauses that the chain names
pub ran_within : (clauses : List (List Lit)) (ch : Chain) (i : ℕ) (m : List Bool) → Ran m (fold (next clauses) (slice_get clauses ch.first) (take i ch.steps)) → AreWithin m (touched clauses ch)
ran_within clauses ch i m r l t = part_touched clauses ch i l (ran_lits m (fold (next clauses) (slice_get clauses ch.first) (take i ch.steps)) r l t)

-- all steps were taken
pub ran_ended : (m : List Bool) (o : Option (List Lit)) → Ran m o → Ended m o true
ran_ended m (Some c) r = r
ran_ended m None r = r

-- a chain whose first number names nothing
pub no_first : (m : List Bool) (clauses : List (List Lit)) (ch : Chain) → None ≡ slice_get clauses ch.first → Ended m (chain_end clauses ch) false
no_first m clauses ch e = subst (λ o. Ended m (fold (next clauses) o ch.steps) false) e (subst (λ o. Ended m o false) (sym (fold_stays (next clauses) None (λ s. refl) ch.steps)) tt)

-- the chain stops at a step that is none
pub stopped : (clauses : List (List Lit)) (ch : Chain) (xs : List Resolve) (i : ℕ) (d : Resolve) (m n : List Bool) (r : Bool) → xs ≡ ch.steps → i < length xs → Ran m (fold (next clauses) (slice_get clauses ch.first) (take i ch.steps)) → r ≡ false → ((c : List Lit) → AreMarks m c → Stepped m n (next clauses (Some c) (get_or xs i d)) r) → Ended n (chain_end clauses ch) false × AreWithin n (touched clauses ch)
stopped clauses ch xs i d m n r same h ran failed f =
    let inside : i < length ch.steps = subst (λ ys. i < length ys) same h in
    let stop : (None ≡ chain_end clauses ch) × (n ≡ m) = ran_stop clauses (slice_get clauses ch.first) ch.steps i d m n inside ran
    (λ c g. subst (λ v. Stepped m n (next clauses (Some c) (get_or ch.steps i d)) v) failed (subst (λ ys. Stepped m n (next clauses (Some c) (get_or ys i d)) r) same (f c g))) in
    (subst (λ o. Ended n o false) stop.0 tt, subst (λ v. AreWithin v (touched clauses ch)) (sym stop.1) (ran_within clauses ch i m ran))

named_push : (clauses : List (List Lit)) (steps : List Resolve) (s : Resolve) → named_by clauses steps ++ named clauses s.with ≡ named_by clauses (steps ++ s ∷ [])
named_push clauses [] s = sym (append-nil (named clauses s.with))
named_push clauses (t ∷ steps) s = append_assoc (named clauses t.with) (named_by clauses steps) (named clauses s.with) ∙ ap (λ ys. named clauses t.with ++ ys) (named_push clauses steps s)

-- The literals of one more step's clause lose their marks.
pub unmarks_step : (clauses : List (List Lit)) (ch : Chain) (xs : List Resolve) (i : ℕ) (d : Resolve) (old mid new : List Bool) (r s : Bool) → xs ≡ ch.steps → i < length xs → Unmarks old mid (named clauses ch.first ++ named_by clauses (take i ch.steps)) r → Unmarks mid new (named clauses (get_or xs i d).with) s → Unmarks old new (named clauses ch.first ++ named_by clauses (take (i + 1) ch.steps)) (r && s)
unmarks_step clauses ch xs i d old mid new r s same h u v =
    let inside : i < length ch.steps = subst (λ ys. i < length ys) same h in
    let v' : Unmarks mid new (named clauses (get_or ch.steps i d).with) s = subst (λ ys. Unmarks mid new (named clauses (get_or ys i d).with) s) same v in
    let more : named_by clauses (take i ch.steps) ++ named clauses (get_or ch.steps i d).with ≡ named_by clauses (take (i + 1) ch.steps) =
    named_push clauses (take i ch.steps) (get_or ch.steps i d) ∙ ap (named_by clauses) (sym (take_more ch.steps i d inside)) in
    subst (λ ys. Unmarks old new ys (r && s)) (append_assoc (named clauses ch.first) (named_by clauses (take i ch.steps)) (named clauses (get_or ch.steps i d).with) ∙ ap (λ ys. named clauses ch.first ++ ys) more)
    (unmarks_then old mid new (named clauses ch.first ++ named_by clauses (take i ch.steps)) (named clauses (get_or ch.steps i d).with) r s u v')
