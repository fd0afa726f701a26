-- A body without a `return` never leaves its routine.
use Rattle.std.proofs.Common.{◌≡◌, Bool, true, false, List, [], ◌∷◌, ◌++◌, refl}
use Rattle.std.specs.Prelude.{if◌then◌else◌}
use Rattle.std.specs.List.{flat_map}
use Rattle.term_core.specs.declared.value.Value.{Value}
use Rattle.term_core.specs.Values.{truth}
use Rattle.murphi_ast.specs.declared.token.Span.{Span}
use Rattle.murphi_typed.specs.declared.stmt.Stmt as s
use Rattle.murphi_typed.specs.declared.stmt.Stmt.{Stmt, Row_of-Stmt, end_of-Stmt, more_of-Stmt, Row_of-Arm, end_of-Arm, more_of-Arm, Row_of-Case, end_of-Case, more_of-Case}
use Rattle.murphi_typed.specs.Values.{values}
use Rattle.murphi_typed.specs.Store.{Cells, cell_at}
use Rattle.murphi_typed.specs.Outcome.{Outcome, Got, Fault, given}
use Rattle.murphi_typed.specs.Expressions.{Scene, Calls, with_bound, value_of, place_of, arguments_of}
use Rattle.murphi_typed.specs.Execution.{Ending, Next, Returned, then_on, turns, at_of, stored, with_value, is_among, run, run_all, run_arms, run_cases}
use Rattle.scalarset_rules.specs.Rules.{Standing, bad_return, inner_statements, row_statements, arm_statements, case_statements}

-- a body that does not fault goes on
abbrev pub GoesOn : Outcome Ending → Type 0
GoesOn (Fault at) = Unit {0}
GoesOn (Got (Next cells)) = Unit {0}
GoesOn (Got (Returned cells v)) = ⊥

-- none of these is a `return` inside a `for` over nodes
abbrev pub Free : List Standing → Type 0
Free [] = Unit {0}
Free (p ∷ ps) = (bad_return p.inside p.statement ≡ []) × Free ps

pub free_front : (ps qs : List Standing) → Free (ps ++ qs) → Free ps
free_front [] qs free = tt
free_front (p ∷ ps) qs (one, more) = (one, free_front ps qs more)

pub free_back : (ps qs : List Standing) → Free (ps ++ qs) → Free qs
free_back [] qs free = free
free_back (p ∷ ps) qs (one, more) = free_back ps qs more

none_left : {A : Type 0} (xs ys : List A) → (xs ++ ys) ≡ [] → (xs ≡ []) × (ys ≡ [])
none_left [] ys e = (refl, e)
none_left (x ∷ xs) ys e = cc

pub free_from : (ps : List Standing) → flat_map (λ (p : Standing). bad_return p.inside p.statement) ps ≡ [] → Free ps
free_from [] e = tt
free_from (p ∷ ps) e = let (one, more) = none_left (bad_return p.inside p.statement) _ e in (one, free_from ps more)

on_given : {A : Type 0} (o : Outcome A) (f : A → Outcome Ending) → ((a : A) → GoesOn (f a)) → GoesOn (given o f)
on_given (Got a) f next = next a
on_given (Fault at) f next = tt

on_then : (o : Outcome Ending) (f : Cells → Outcome Ending) → GoesOn o → ((cells : Cells) → GoesOn (f cells)) → GoesOn (given o (λ e. then_on e f))
on_then (Fault at) f first next = tt
on_then (Got (Next cells)) f first next = next cells
on_then (Got (Returned cells v)) f first next = first

on_if : (b : Bool) (o p : Outcome Ending) → GoesOn o → GoesOn p → GoesOn (if b then o else p)
on_if true o p x y = x
on_if false o p x y = y

on_turns : (body : Value → Cells → Outcome Ending) → ((w : Value) (cells : Cells) → GoesOn (body w cells)) → (ws : List Value) (cells : Cells) → GoesOn (turns body ws cells)
on_turns body goes [] cells = tt
on_turns body goes (w ∷ ws) cells = on_then (body w cells) (turns body ws) (goes w cells) (on_turns body goes ws)

module _ (calls : Calls) where
  mutual
    unfolding run inner_statements

    run_goes : (scene : Scene) (cells : Cells) (stmt : Stmt) → bad_return true stmt ≡ [] → Free (inner_statements true stmt) → GoesOn (run calls scene cells stmt)
    run_goes scene cells (s.Block' _ body) one free = all_goes scene cells body free
    run_goes scene cells (s.Assign to into body) one free =
        on_given (place_of calls scene (at_of to) cells to) _ (λ p. on_given (value_of calls scene (at_of to) cells body) _ (λ w. on_given (stored scene.nodes (at_of to) into w) (with_value cells p) (λ u. tt)))
    run_goes scene cells (s.Copy to into from) one free =
        on_given (place_of calls scene (at_of to) cells to) _ (λ p. on_given (place_of calls scene (at_of to) cells from) _ (λ q. on_given (stored scene.nodes (at_of to) into (cell_at cells q)) (with_value cells p) (λ u. tt)))
    run_goes scene cells (s.CopyAll to from) one free =
        on_given (place_of calls scene (at_of to) cells to) _ (λ p. on_given (place_of calls scene (at_of to) cells from) _ (λ w. tt))
    run_goes scene cells (s.Call k args at) one free =
        on_given (arguments_of calls scene at cells args) _ (λ gs. on_given (calls k scene at gs cells) (λ left. Got (Next left.cells)) (λ left. tt))
    run_goes scene cells (s.If' _ arms _ otherwise at) one free =
        arms_go scene at cells arms (run_all calls scene cells otherwise) (free_front (arm_statements true arms) _ free) (all_goes scene cells otherwise (free_back (arm_statements true arms) _ free))
    run_goes scene cells (s.Switch' on _ cases _ otherwise at) one free =
        on_given (value_of calls scene at cells on) _ (λ w. cases_go scene at cells w cases (run_all calls scene cells otherwise) (free_front (case_statements true cases) _ free) (all_goes scene cells otherwise (free_back (case_statements true cases) _ free)))
    run_goes scene cells (s.For' over _ body at) one free =
        on_turns (λ w now. run_all calls (with_bound scene w) now body) (λ w now. all_goes (with_bound scene w) now body free) (values scene.nodes over) cells
    run_goes scene cells (s.Clear to type at) one free = on_given (place_of calls scene at cells to) _ (λ p. tt)
    run_goes scene cells (s.Undefine to at) one free = on_given (place_of calls scene at cells to) _ (λ p. tt)
    run_goes scene cells (s.Error at) one free = tt
    run_goes scene cells (s.Assert test at) one free = on_given (value_of calls scene at cells test) _ (λ w. on_if (truth w) (Got (Next cells)) (Fault at) tt tt)
    run_goes scene cells (s.PutText at) one free = tt
    run_goes scene cells (s.Put shown at) one free = tt
    run_goes scene cells (s.Leave at) one free = cc
    run_goes scene cells (s.Return body at) one free = cc

    pub all_goes : {l : _} (scene : Scene) (cells : Cells) (body : Row_of-Stmt l) → Free (row_statements true body) → GoesOn (run_all calls scene cells body)
    all_goes scene cells end_of-Stmt free = tt
    all_goes scene cells (more_of-Stmt first rest) free =
        on_then (run calls scene cells first) (λ next. run_all calls scene next rest)
        (run_goes scene cells first free.0 (free_front (inner_statements true first) _ free.1))
        (λ next. all_goes scene next rest (free_back (inner_statements true first) _ free.1))

    arms_go : {l : _} (scene : Scene) (at : Span) (cells : Cells) (arms : Row_of-Arm l) (o : Outcome Ending) → Free (arm_statements true arms) → GoesOn o → GoesOn (run_arms calls scene at cells arms o)
    arms_go scene at cells end_of-Arm o free otherwise = otherwise
    arms_go scene at cells (more_of-Arm test _ body rest) o free otherwise =
        on_given (value_of calls scene at cells test) _ (λ w. on_if (truth w) (run_all calls scene cells body) (run_arms calls scene at cells rest o)
        (all_goes scene cells body (free_front (row_statements true body) _ free)) (arms_go scene at cells rest o (free_back (row_statements true body) _ free) otherwise))

    cases_go : {l : _} (scene : Scene) (at : Span) (cells : Cells) (w : Value) (cases : Row_of-Case l) (o : Outcome Ending) → Free (case_statements true cases) → GoesOn o → GoesOn (run_cases calls scene at cells w cases o)
    cases_go scene at cells w end_of-Case o free otherwise = otherwise
    cases_go scene at cells w (more_of-Case labels _ body rest) o free otherwise =
        on_given (is_among (value_of calls scene at cells) w labels) _ (λ found. on_if found (run_all calls scene cells body) (run_cases calls scene at cells w rest o)
        (all_goes scene cells body (free_front (row_statements true body) _ free)) (cases_go scene at cells w rest o (free_back (row_statements true body) _ free) otherwise))
