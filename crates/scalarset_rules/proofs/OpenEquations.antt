-- Bodies with their calls opened, in terms of the pieces and routines that code reads.
use Rattle.std.proofs.Common.{◌≡◌, ℕ, zero, suc, ◌<◌, ◌≤◌, Bool, true, false, List, [], ◌∷◌, ◌++◌, take, length, reverse, Option, None, Some, refl, sym, ap, ◌∙◌, subst, arith, append_assoc, append-nil}
use Rattle.std.specs.Prelude.{nat_eq, slice_get, if◌then◌else◌}
use Rattle.std.proofs.lemmas.Bool.{eqb-true, eqb-false}
use Rattle.std.proofs.lemmas.List.{reverse-reverse, length-reverse}
use Rattle.murphi_ast.specs.declared.token.Span.{Span}
use Rattle.murphi_typed.specs.declared.protocol.Routine.{Routine}
use Rattle.scalarset_rules.specs.Accesses.{Scope, Access, blamed, from_call, accesses, opened_in}
use Rattle.scalarset_rules.specs.Seen.{by_call, or_call}
use Rattle.scalarset_rules.specs.Pieces.{opened_pieces, pieces}
use Rattle.scalarset_rules.proofs.Texts.{get_last, get_before, reversed}
use Rattle.scalarset_rules.proofs.PlaceEquations.{mapped_joined}
use Rattle.scalarset_rules.proofs.Opening.{accesses_are}

-- who is to blame

twice : (by : Option Span) (call : Span) (xs : List Access) → by_call by (from_call call xs) ≡ from_call (or_call by call) xs
twice None call [] = refl
twice None call (x ∷ xs) = ap (λ ys. blamed call x ∷ ys) (twice None call xs)
twice (Some first) call [] = refl
twice (Some first) call (x ∷ xs) = ap (λ ys. blamed first x ∷ ys) (twice (Some first) call xs)

pub called_by : (by : Option Span) (call : Span) (xs : List Access) → from_call (or_call by call) xs ≡ by_call by (from_call call xs)
called_by by call xs = sym (twice by call xs)

pub some_call : (call : Span) (xs : List Access) → by_call (Some call) xs ≡ from_call call xs
some_call call [] = refl
some_call call (x ∷ xs) = ap (λ ys. blamed call x ∷ ys) (some_call call xs)

-- a routine of a text calls those before it

pub take_all : {A : Type 0} (xs ys : List A) (k : ℕ) → k ≡ length xs → take k (xs ++ ys) ≡ xs
take_all [] ys zero e = refl
take_all [] ys (suc k) e = absurd (omega (arith, e))
take_all (x ∷ xs) ys zero e = absurd (omega (arith, e))
take_all (x ∷ xs) ys (suc k) e = ap (λ zs. x ∷ zs) (take_all xs ys k (omega (arith, e)))

pub take_front : {A : Type 0} (xs ys : List A) (k : ℕ) → k < length xs → take k (xs ++ ys) ≡ take k xs
take_front [] ys k e = absurd (omega (arith, e))
take_front (x ∷ xs) ys zero e = refl
take_front (x ∷ xs) ys (suc k) e = ap (λ zs. x ∷ zs) (take_front xs ys k (omega (arith, e)))

pub got_less : {A : Type 0} (xs : List A) (k : ℕ) (x : A) → slice_get xs k ≡ Some x → k < length xs
got_less [] k x e = cc
got_less (y ∷ xs) zero x e = omega arith
got_less (y ∷ xs) (suc k) x e = let h = got_less xs k x e in omega (arith, h)

latest_found : (ls : List Routine) (k : ℕ) (r : Routine) (scope : Scope) → slice_get (reverse ls) k ≡ Some r → opened_in ls k scope ≡ accesses (opened_in (reverse (take k (reverse ls)))) scope r.body
latest_found [] k r scope e = cc
latest_found (l ∷ earlier) k r scope e = go (nat_eq k (length earlier)) refl (subst (λ rs. slice_get rs k ≡ Some r) (reversed l earlier) e) (latest_found earlier k r scope)
  where
    go : (b : Bool) → nat_eq k (length earlier) ≡ b → slice_get (reverse earlier ++ l ∷ []) k ≡ Some r → (slice_get (reverse earlier) k ≡ Some r → opened_in earlier k scope ≡ accesses (opened_in (reverse (take k (reverse earlier)))) scope r.body)
        → (if b then accesses (opened_in earlier) scope l.body else opened_in earlier k scope) ≡ accesses (opened_in (reverse (take k (reverse (l ∷ earlier))))) scope r.body
    go true was there again =
        let count : k ≡ length (reverse earlier) = eqb-true k (length earlier) was ∙ sym (length-reverse earlier) in
        let same : l ≡ r = get_last (reverse earlier) l r k there count in
        let front : take k (reverse (l ∷ earlier)) ≡ reverse earlier = ap (take k) (reversed l earlier) ∙ take_all (reverse earlier) (l ∷ []) k count in
        ap (λ (q : Routine). accesses (opened_in earlier) scope q.body) same
        ∙ ap (λ rs. accesses (opened_in rs) scope r.body) (sym (ap reverse front ∙ reverse-reverse earlier))
    go false was there again =
        let less : (k ≡ length (reverse earlier) → ⊥) = (λ same. eqb-false k (length earlier) was (same ∙ length-reverse earlier)) in
        let before : slice_get (reverse earlier) k ≡ Some r = get_before (reverse earlier) l r k there less in
        again before ∙ ap (λ rs. accesses (opened_in (reverse rs)) scope r.body) (sym (ap (take k) (reversed l earlier) ∙ take_front (reverse earlier) (l ∷ []) k (got_less (reverse earlier) k r before)))

latest_none : (ls : List Routine) (k : ℕ) (scope : Scope) → length ls ≤ k → opened_in ls k scope ≡ []
latest_none [] k scope e = refl
latest_none (l ∷ earlier) k scope e = go (nat_eq k (length earlier)) (grind (arith, e)) (latest_none earlier k scope (omega (arith, e)))
  where
    go : (b : Bool) → b ≡ false → opened_in earlier k scope ≡ [] → (if b then accesses (opened_in earlier) scope l.body else opened_in earlier k scope) ≡ []
    go true was again = cc
    go false was again = again

pub opened_out : (rs : List Routine) (k : ℕ) (scope : Scope) → length rs ≤ k → opened_in (reverse rs) k scope ≡ []
opened_out rs k scope e = latest_none (reverse rs) k scope (subst (λ n. n ≤ k) (sym (length-reverse rs)) e)

opened_at : (rs : List Routine) (k : ℕ) (r : Routine) (scope : Scope) → slice_get rs k ≡ Some r → opened_in (reverse rs) k scope ≡ opened_pieces (opened_in (reverse (take k rs))) scope.depth (pieces scope r.body)
opened_at rs k r scope e =
    latest_found (reverse rs) k r scope (ap (λ qs. slice_get qs k) (reverse-reverse rs) ∙ e)
    ∙ ap (λ qs. accesses (opened_in (reverse (take k qs))) scope r.body) (reverse-reverse rs)
    ∙ accesses_are (opened_in (reverse (take k rs))) scope r.body

pub entered : (rs : List Routine) (k : ℕ) (r : Routine) (scope : Scope) (call : Span) → slice_get rs k ≡ Some r → by_call (Some call) (opened_pieces (opened_in (reverse (take k rs))) scope.depth (pieces scope r.body)) ≡ from_call call (opened_in (reverse rs) k scope)
entered rs k r scope call e = some_call call _ ∙ ap (from_call call) (sym (opened_at rs k r scope e))

pub entered_not : (rs : List Routine) (k : ℕ) (scope : Scope) (call : Span) → length rs ≤ k → from_call call (opened_in (reverse rs) k scope) ≡ []
entered_not rs k scope call e = ap (from_call call) (opened_out rs k scope e)

pub got_none : (rs : List Routine) (k : ℕ) (scope : Scope) (call : Span) → slice_get rs k ≡ None → from_call call (opened_in (reverse rs) k scope) ≡ []
got_none rs k scope call e = entered_not rs k scope call (out rs k e)
  where
    out : {A : Type 0} (xs : List A) (k : ℕ) → slice_get xs k ≡ None → length xs ≤ k
    out [] k e = omega arith
    out (x ∷ xs) zero e = cc
    out (x ∷ xs) (suc k) e = let h = out xs k e in omega (arith, h)

pub after_nothing : {A : Type 0} (xs : List A) → xs ++ [] ≡ xs
after_nothing xs = append-nil xs

pub grouped : {A : Type 0} (xs ys zs : List A) → (xs ++ ys) ++ zs ≡ xs ++ (ys ++ zs)
grouped xs ys zs = append_assoc xs ys zs

pub ruleset opening = (mapped_joined, after_nothing, grouped, called_by, entered, entered_not, got_none)
