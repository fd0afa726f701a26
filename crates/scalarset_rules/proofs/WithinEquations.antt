-- The first break of the loops of an opened body, in terms of the loops and routines that code reads.
use Rattle.std.proofs.Common.{◌≡◌, ℕ, zero, suc, ◌+◌, ◌<◌, ◌≤◌, Bool, true, false, List, [], ◌∷◌, ◌++◌, map, take, drop, length, reverse, Option, None, Some, refl, sym, ap, ◌∙◌, subst, arith, append_assoc, append-nil}
use Rattle.std.specs.Prelude.{nat_eq, slice_get, slice_index_or, if◌then◌else◌}
use Rattle.std.specs.List.{flat_map}
use Rattle.std.proofs.lemmas.Bool.{eqb-true, eqb-false}
use Rattle.std.proofs.lemmas.List.{reverse-reverse, length-reverse}
use Rattle.murphi_ast.specs.declared.token.Span.{Span}
use Rattle.murphi_typed.specs.declared.types.Simple.{Simple}
use Rattle.murphi_typed.specs.declared.stmt.Stmt as s
use Rattle.murphi_typed.specs.declared.stmt.Stmt.{Stmt, Row_of-Stmt, end_of-Stmt, more_of-Stmt, Row_of-Arm, end_of-Arm, more_of-Arm, Row_of-Case, end_of-Case, more_of-Case}
use Rattle.murphi_typed.specs.declared.protocol.Routine.{Routine}
use Rattle.murphi_typed.specs.Prefix.{is_over_nodes}
use Rattle.scalarset_rules.specs.declared.shape.Access.{Access as HeldAccess}
use Rattle.scalarset_rules.specs.declared.shape.Stand.{Stand as HeldStand}
use Rattle.scalarset_rules.specs.declared.nested.LoopPiece.{LoopPiece as HeldLoop}
use Rattle.scalarset_rules.specs.declared.nested.LoopPiece.TheVariants as held_loop
use Rattle.scalarset_rules.specs.Accesses.{Binder, Scope, binding, next_binder, called, stands_of, Access, from_call, Opened, OpenedLoops, all_accesses, opened_in, Loop, loop_from, if_nodes, loops, all_loops, arm_loops, case_loops, loops_in}
use Rattle.scalarset_rules.specs.Rules.{Break, sooner, first_break, loop_breaks, body_breaks}
use Rattle.scalarset_rules.specs.Seen.{scope_at, seen_access, seen_loop, by_call, by_loop, by_loops, or_call, loop_seen}
use Rattle.scalarset_rules.specs.Pieces.{LoopPiece, Around, opened_loop, opened_loops, if_around, all_pieces, loop_pieces, all_loop_pieces, arm_loop_pieces, case_loop_pieces}
use Rattle.scalarset_rules.proofs.Sameness.{both}
use Rattle.scalarset_rules.proofs.Texts.{get_last, get_before, reversed}
use Rattle.scalarset_rules.proofs.PlaceEquations.{mapped_joined}
use Rattle.scalarset_rules.proofs.JudgeEquations.{sooner_none, sooner_on, first_joined, drop_item}
use Rattle.scalarset_rules.proofs.Opening.{all_are}
use Rattle.scalarset_rules.proofs.OpenEquations.{take_all, take_front, got_less, called_by, some_call}

-- loops are those of the pieces, each call opened

loops_joined : (opened : Opened) (inner : OpenedLoops) (depth : ℕ) (xs ys : List LoopPiece) → opened_loops opened inner depth (xs ++ ys) ≡ opened_loops opened inner depth xs ++ opened_loops opened inner depth ys
loops_joined opened inner depth [] ys = refl
loops_joined opened inner depth (x ∷ xs) ys = ap (λ zs. opened_loop opened inner depth x ++ zs) (loops_joined opened inner depth xs ys) ∙ sym (append_assoc (opened_loop opened inner depth x) (opened_loops opened inner depth xs) (opened_loops opened inner depth ys))

module _ (opened : Opened) (inner : OpenedLoops) where
  two : (depth : ℕ) (xs ys : List Loop) (ps qs : List LoopPiece) → xs ≡ opened_loops opened inner depth ps → ys ≡ opened_loops opened inner depth qs → xs ++ ys ≡ opened_loops opened inner depth (ps ++ qs)
  two depth xs ys ps qs e f = both (λ us ws. us ++ ws) e f ∙ sym (loops_joined opened inner depth ps qs)

  around_is : (scope : Scope) (over : Simple) (loop : Loop) (piece : LoopPiece) (xs : List Loop) (ps : List LoopPiece) → loop ∷ [] ≡ opened_loop opened inner scope.depth piece → xs ≡ opened_loops opened inner scope.depth ps → if_nodes over loop xs ≡ opened_loops opened inner scope.depth (if_around over piece ps)
  around_is scope over loop piece xs ps e f = go (is_over_nodes over)
    where
      go : (b : Bool) → (if b then loop ∷ xs else xs) ≡ opened_loops opened inner scope.depth (if b then piece ∷ ps else ps)
      go true = both (λ us ws. us ++ ws) e f
      go false = f

  mutual
    unfolding loops loop_pieces

    pub loops_are : (scope : Scope) (stmt : Stmt) → loops opened inner scope stmt ≡ opened_loops opened inner scope.depth (loop_pieces scope stmt)
    loops_are scope (s.Block' _ body) = all_loops_are scope body
    loops_are scope (s.Call k args at) = sym (append-nil (map (loop_from at) (inner k (called scope (stands_of scope args)))))
    loops_are scope (s.If' _ arms _ otherwise at) = two scope.depth (arm_loops opened inner scope arms) (all_loops opened inner scope otherwise) (arm_loop_pieces scope arms) (all_loop_pieces scope otherwise) (arm_loops_are scope arms) (all_loops_are scope otherwise)
    loops_are scope (s.Switch' on _ cases _ otherwise at) = two scope.depth (case_loops opened inner scope cases) (all_loops opened inner scope otherwise) (case_loop_pieces scope cases) (all_loop_pieces scope otherwise) (case_loops_are scope cases) (all_loops_are scope otherwise)
    loops_are scope (s.For' over _ body at) =
        around_is scope over (record { variable = next_binder scope; accesses = all_accesses opened (binding scope) body }) (Around (next_binder scope) (all_pieces (binding scope) body)) (all_loops opened inner (binding scope) body) (all_loop_pieces (binding scope) body)
        (ap (λ xs. record { variable = next_binder scope; accesses = xs } ∷ []) (all_are opened (binding scope) body)) (all_loops_are (binding scope) body)
    loops_are scope (s.Assign to into body) = refl
    loops_are scope (s.Copy to into from) = refl
    loops_are scope (s.CopyAll to from) = refl
    loops_are scope (s.Clear place type at) = refl
    loops_are scope (s.Undefine place at) = refl
    loops_are scope (s.Error at) = refl
    loops_are scope (s.Assert test at) = refl
    loops_are scope (s.PutText at) = refl
    loops_are scope (s.Put shown at) = refl
    loops_are scope (s.Leave at) = refl
    loops_are scope (s.Return body at) = refl

    all_loops_are : {n : _} (scope : Scope) (body : Row_of-Stmt n) → all_loops opened inner scope body ≡ opened_loops opened inner scope.depth (all_loop_pieces scope body)
    all_loops_are scope end_of-Stmt = refl
    all_loops_are scope (more_of-Stmt first rest) = two scope.depth (loops opened inner scope first) (all_loops opened inner scope rest) (loop_pieces scope first) (all_loop_pieces scope rest) (loops_are scope first) (all_loops_are scope rest)

    arm_loops_are : {n : _} (scope : Scope) (arms : Row_of-Arm n) → arm_loops opened inner scope arms ≡ opened_loops opened inner scope.depth (arm_loop_pieces scope arms)
    arm_loops_are scope end_of-Arm = refl
    arm_loops_are scope (more_of-Arm test _ body rest) = two scope.depth (all_loops opened inner scope body) (arm_loops opened inner scope rest) (all_loop_pieces scope body) (arm_loop_pieces scope rest) (all_loops_are scope body) (arm_loops_are scope rest)

    case_loops_are : {n : _} (scope : Scope) (cases : Row_of-Case n) → case_loops opened inner scope cases ≡ opened_loops opened inner scope.depth (case_loop_pieces scope cases)
    case_loops_are scope end_of-Case = refl
    case_loops_are scope (more_of-Case labels _ body rest) = two scope.depth (all_loops opened inner scope body) (case_loops opened inner scope rest) (all_loop_pieces scope body) (case_loop_pieces scope rest) (all_loops_are scope body) (case_loops_are scope rest)

-- the loops of a routine

latest_found : (ls : List Routine) (k : ℕ) (r : Routine) (scope : Scope) → slice_get (reverse ls) k ≡ Some r → loops_in ls k scope ≡ loops (opened_in (reverse (take k (reverse ls)))) (loops_in (reverse (take k (reverse ls)))) scope r.body
latest_found [] k r scope e = cc
latest_found (l ∷ earlier) k r scope e = go (nat_eq k (length earlier)) refl (subst (λ rs. slice_get rs k ≡ Some r) (reversed l earlier) e) (latest_found earlier k r scope)
  where
    go : (b : Bool) → nat_eq k (length earlier) ≡ b → slice_get (reverse earlier ++ l ∷ []) k ≡ Some r → (slice_get (reverse earlier) k ≡ Some r → loops_in earlier k scope ≡ loops (opened_in (reverse (take k (reverse earlier)))) (loops_in (reverse (take k (reverse earlier)))) scope r.body)
        → (if b then loops (opened_in earlier) (loops_in earlier) scope l.body else loops_in earlier k scope) ≡ loops (opened_in (reverse (take k (reverse (l ∷ earlier))))) (loops_in (reverse (take k (reverse (l ∷ earlier))))) scope r.body
    go true was there again =
        let count : k ≡ length (reverse earlier) = eqb-true k (length earlier) was ∙ sym (length-reverse earlier) in
        let same : l ≡ r = get_last (reverse earlier) l r k there count in
        let front : take k (reverse (l ∷ earlier)) ≡ reverse earlier = ap (take k) (reversed l earlier) ∙ take_all (reverse earlier) (l ∷ []) k count in
        ap (λ (q : Routine). loops (opened_in earlier) (loops_in earlier) scope q.body) same
        ∙ ap (λ rs. loops (opened_in rs) (loops_in rs) scope r.body) (sym (ap reverse front ∙ reverse-reverse earlier))
    go false was there again =
        let less : (k ≡ length (reverse earlier) → ⊥) = (λ same. eqb-false k (length earlier) was (same ∙ length-reverse earlier)) in
        let before : slice_get (reverse earlier) k ≡ Some r = get_before (reverse earlier) l r k there less in
        again before ∙ ap (λ rs. loops (opened_in (reverse rs)) (loops_in (reverse rs)) scope r.body) (sym (ap (take k) (reversed l earlier) ∙ take_front (reverse earlier) (l ∷ []) k (got_less (reverse earlier) k r before)))

latest_none : (ls : List Routine) (k : ℕ) (scope : Scope) → length ls ≤ k → loops_in ls k scope ≡ []
latest_none [] k scope e = refl
latest_none (l ∷ earlier) k scope e = go (nat_eq k (length earlier)) (grind (arith, e)) (latest_none earlier k scope (omega (arith, e)))
  where
    go : (b : Bool) → b ≡ false → loops_in earlier k scope ≡ [] → (if b then loops (opened_in earlier) (loops_in earlier) scope l.body else loops_in earlier k scope) ≡ []
    go true was again = cc
    go false was again = again

loops_out : (rs : List Routine) (k : ℕ) (scope : Scope) → length rs ≤ k → loops_in (reverse rs) k scope ≡ []
loops_out rs k scope e = latest_none (reverse rs) k scope (subst (λ n. n ≤ k) (sym (length-reverse rs)) e)

loops_at : (rs : List Routine) (k : ℕ) (r : Routine) (scope : Scope) → slice_get rs k ≡ Some r → loops_in (reverse rs) k scope ≡ opened_loops (opened_in (reverse (take k rs))) (loops_in (reverse (take k rs))) scope.depth (loop_pieces scope r.body)
loops_at rs k r scope e =
    latest_found (reverse rs) k r scope (ap (λ qs. slice_get qs k) (reverse-reverse rs) ∙ e)
    ∙ ap (λ qs. loops (opened_in (reverse (take k qs))) (loops_in (reverse (take k qs))) scope r.body) (reverse-reverse rs)
    ∙ loops_are (opened_in (reverse (take k rs))) (loops_in (reverse (take k rs))) scope r.body

-- The first break of loops

abbrev pub first_of_loops : List Loop → Option Break
first_of_loops all = first_break (flat_map loop_breaks all)

breaks_joined : (xs ys : List Loop) → flat_map loop_breaks (xs ++ ys) ≡ flat_map loop_breaks xs ++ flat_map loop_breaks ys
breaks_joined [] ys = refl
breaks_joined (x ∷ xs) ys = ap (λ zs. loop_breaks x ++ zs) (breaks_joined xs ys) ∙ sym (append_assoc (loop_breaks x) (flat_map loop_breaks xs) (flat_map loop_breaks ys))

pub loops_first : (xs ys : List Loop) → first_break (flat_map loop_breaks (xs ++ ys)) ≡ sooner (first_break (flat_map loop_breaks xs)) (first_break (flat_map loop_breaks ys))
loops_first xs ys = ap first_break (breaks_joined xs ys) ∙ first_joined (flat_map loop_breaks xs) (flat_map loop_breaks ys)

pub one_loop : (by : Option Span) (v : Binder) (held : List HeldAccess) (xs : List Access) → map seen_access held ≡ by_call by xs → first_break (loop_breaks (loop_seen v held)) ≡ first_break (flat_map loop_breaks (by_loops by (record { variable = v; accesses = xs } ∷ [])))
one_loop by v held xs e =
    ap (λ ys. first_break (loop_breaks (record { variable = v; accesses = ys }))) e
    ∙ ap (λ l. first_break (loop_breaks l)) (by_one by)
    ∙ ap first_break (sym (append-nil (loop_breaks (by_loop by (record { variable = v; accesses = xs })))))
  where
    by_one : (by : Option Span) → record { variable = v; accesses = by_call by xs } ≡ by_loop by (record { variable = v; accesses = xs })
    by_one None = ap (λ ys. record { variable = v; accesses = ys }) (same xs)
      where
        same : (ys : List Access) → by_call None ys ≡ ys
        same [] = refl
        same (y ∷ ys) = ap (λ zs. y ∷ zs) (same ys)
    by_one (Some call) = ap (λ ys. record { variable = v; accesses = ys }) (some_call call xs)

twice : (by : Option Span) (call : Span) (ls : List Loop) → by_loops (Some (or_call by call)) ls ≡ by_loops by (map (loop_from call) ls)
twice None call [] = refl
twice None call (l ∷ ls) = ap (λ ys. loop_from call l ∷ ys) (twice None call ls)
twice (Some first) call [] = refl
twice (Some first) call (l ∷ ls) = both (λ x ys. x ∷ ys) (ap (λ xs. record { variable = l.variable; accesses = xs }) (called_by (Some first) call l.accesses ∙ some_call first (from_call call l.accesses))) (twice (Some first) call ls)

pub within_loop : (by : Option Span) (call : Span) (ls : List Loop) → first_break (flat_map loop_breaks (by_loops (Some (or_call by call)) ls)) ≡ first_break (flat_map loop_breaks (by_loops by (map (loop_from call) ls ++ [])))
within_loop by call ls = ap (λ xs. first_break (flat_map loop_breaks xs)) (twice by call ls ∙ ap (by_loops by) (sym (append-nil (map (loop_from call) ls))))

-- a call of a procedure, as code meets it
pub within_step : (rs : List Routine) (depth : ℕ) (by : Option Span) (one : HeldLoop) (k : ℕ) (held stands : List HeldStand) (at call : Span) (b : Option Break)
    → b ≡ first_break (flat_map loop_breaks (by_loops (Some call) (loops_in (reverse rs) k (scope_at (suc depth) 0 held)))) → call ≡ or_call by at → held ≡ stands → one ≡ held_loop.Within k stands at
    → b ≡ first_break (flat_map loop_breaks (by_loops by (opened_loop (opened_in (reverse rs)) (loops_in (reverse rs)) depth (seen_loop one))))
within_step rs depth by one k held stands at call b is call_is held_is one_is =
    is ∙ ap (λ x. first_break (flat_map loop_breaks (by_loops (Some x) (loops_in (reverse rs) k (scope_at (suc depth) 0 held))))) call_is
    ∙ ap (λ xs. first_break (flat_map loop_breaks (by_loops (Some (or_call by at)) (loops_in (reverse rs) k (scope_at (suc depth) 0 xs))))) held_is
    ∙ ap (λ ls. first_break (flat_map loop_breaks ls)) (twice by at (loops_in (reverse rs) k (scope_at (suc depth) 0 stands)))
    ∙ ap (λ o. first_break (flat_map loop_breaks (by_loops by (opened_loop (opened_in (reverse rs)) (loops_in (reverse rs)) depth (seen_loop o))))) (sym one_is)

pub entered_loops : (rs : List Routine) (k : ℕ) (r : Routine) (scope : Scope) (call : Span) → slice_get rs k ≡ Some r → first_break (flat_map loop_breaks (by_loops (Some call) (opened_loops (opened_in (reverse (take k rs))) (loops_in (reverse (take k rs))) scope.depth (loop_pieces scope r.body)))) ≡ first_break (flat_map loop_breaks (by_loops (Some call) (loops_in (reverse rs) k scope)))
entered_loops rs k r scope call e = ap (λ ls. first_break (flat_map loop_breaks (by_loops (Some call) ls))) (sym (loops_at rs k r scope e))

pub entered_none : (rs : List Routine) (k : ℕ) (scope : Scope) (call : Span) → length rs ≤ k → first_break (flat_map loop_breaks (by_loops (Some call) (loops_in (reverse rs) k scope))) ≡ None
entered_none rs k scope call e = ap (λ ls. first_break (flat_map loop_breaks (by_loops (Some call) ls))) (loops_out rs k scope e)

pub entered_missing : (rs : List Routine) (k : ℕ) (scope : Scope) (call : Span) → slice_get rs k ≡ None → first_break (flat_map loop_breaks (by_loops (Some call) (loops_in (reverse rs) k scope))) ≡ None
entered_missing rs k scope call e = entered_none rs k scope call (out rs k e)
  where
    out : {A : Type 0} (xs : List A) (k : ℕ) → slice_get xs k ≡ None → length xs ≤ k
    out [] k e = omega arith
    out (x ∷ xs) zero e = cc
    out (x ∷ xs) (suc k) e = let h = out xs k e in omega (arith, h)

by_none : (ls : List Loop) → by_loops None ls ≡ ls
by_none [] = refl
by_none (l ∷ ls) = ap (λ xs. l ∷ xs) (by_none ls)

pub body_is : (rs : List Routine) (scope : Scope) (body : Stmt) → first_break (flat_map loop_breaks (by_loops None (opened_loops (opened_in (reverse rs)) (loops_in (reverse rs)) scope.depth (loop_pieces scope body)))) ≡ first_break (body_breaks rs scope body)
body_is rs scope body = ap (λ ls. first_break (flat_map loop_breaks ls)) (by_none _ ∙ sym (loops_are (opened_in (reverse rs)) (loops_in (reverse rs)) scope body))

pub joined_loops : (opened : Opened) (inner : OpenedLoops) (depth : ℕ) (by : Option Span) (p : LoopPiece) (ps : List LoopPiece) → first_break (flat_map loop_breaks (by_loops by (opened_loops opened inner depth (p ∷ ps)))) ≡ sooner (first_break (flat_map loop_breaks (by_loops by (opened_loop opened inner depth p)))) (first_break (flat_map loop_breaks (by_loops by (opened_loops opened inner depth ps))))
joined_loops opened inner depth by p ps = ap (λ ls. first_break (flat_map loop_breaks ls)) (mapped_joined (by_loop by) (opened_loop opened inner depth p) (opened_loops opened inner depth ps)) ∙ loops_first (by_loops by (opened_loop opened inner depth p)) (by_loops by (opened_loops opened inner depth ps))

abbrev pub held_first : Opened → OpenedLoops → ℕ → Option Span → List HeldLoop → Option Break
held_first opened inner depth by xs = first_break (flat_map loop_breaks (by_loops by (opened_loops opened inner depth (map seen_loop xs))))

pub judge_step : (opened : Opened) (inner : OpenedLoops) (depth : ℕ) (by : Option Span) (all : List HeldLoop) (i : ℕ) (one : HeldLoop) (first now more : Option Break)
    → i < length all → one ≡ slice_index_or all i one → now ≡ sooner first more → more ≡ first_break (flat_map loop_breaks (by_loops by (opened_loop opened inner depth (seen_loop one))))
    → sooner first (first_break (flat_map loop_breaks (by_loops by (opened_loops opened inner depth (map seen_loop (drop i all)))))) ≡ first_break (flat_map loop_breaks (by_loops by (opened_loops opened inner depth (map seen_loop all))))
    → sooner now (first_break (flat_map loop_breaks (by_loops by (opened_loops opened inner depth (map seen_loop (drop (i + 1) all)))))) ≡ first_break (flat_map loop_breaks (by_loops by (opened_loops opened inner depth (map seen_loop all))))
judge_step opened inner depth by all i one first now more low item step is before =
    ap (λ x. sooner x (held_first opened inner depth by (drop (i + 1) all))) (step ∙ ap (sooner first) is)
    ∙ sooner_on first (first_break (flat_map loop_breaks (by_loops by (opened_loop opened inner depth (seen_loop one))))) (held_first opened inner depth by (drop (i + 1) all))
    ∙ ap (sooner first) (sym (joined_loops opened inner depth by (seen_loop one) (map seen_loop (drop (i + 1) all))))
    ∙ sym (ap (λ xs. sooner first (held_first opened inner depth by xs)) (drop_item all i one low item)) ∙ before

pub ruleset within = (sooner_none, one_loop, within_loop, entered_loops, entered_none, entered_missing, body_is)
