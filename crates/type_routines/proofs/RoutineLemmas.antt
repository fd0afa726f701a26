-- What code gives of routines, from what the definition leaves.
use Rattle.std.proofs.Common.{◌≡◌, ℕ, Bool, true, false, ◌&&◌, List, [], ◌∷◌, ◌++◌, length, Option, None, Some, refl, ap, sym, ◌∙◌}
use Rattle.std.specs.Prelude.{is_some, is_none}
use Rattle.murphi_ast.specs.declared.expr.TypeExpr.{TypeExpr}
use Rattle.murphi_ast.specs.declared.decl.Decl as decl
use Rattle.murphi_ast.specs.declared.decl.Decl.{Decl, Row_of-Decl, end_of-Decl, more_of-Decl, items-the_row-Decl, items_hidden-the_row-Decl-0}
use Rattle.murphi_ast.specs.declared.decl.Decl.TheBlock.{hidden-the_row-Decl-0}
use Rattle.murphi_ast.specs.declared.stmt.Stmt.{Stmt}
use Rattle.murphi_ast.specs.declared.decl.Formal.{Formal as WrittenFormal}
use Rattle.murphi_ast.specs.declared.decl.Routine.{Routine}
use Rattle.murphi_typed.specs.Families.{Name}
use Rattle.murphi_typed.specs.declared.types.Simple.{Simple}
use Rattle.murphi_typed.specs.declared.stmt.Stmt as s
use Rattle.murphi_typed.specs.declared.protocol.Formal.{Formal}
use Rattle.murphi_typed.specs.declared.protocol.Routine as typed
use Rattle.murphi_typed.specs.declared.protocol.Variable.{Variable}
use Rattle.murphi_types.specs.declared.fault.Fault.{Fault}
use Rattle.murphi_types.specs.declared.scope.Known.{Known}
use Rattle.murphi_types.specs.declared.scope.Scope.{Scope}
use Rattle.murphi_types.specs.Faults.{sooner, first_fault, is_clear}
use Rattle.murphi_types.specs.Weights.{stopped}
use Rattle.murphi_types.specs.Leaves.{leaves_of}
use Rattle.murphi_types.specs.Declarations.{Declared, declared, all_declared}
use Rattle.murphi_types.specs.Statements.{Leaving, FoundStmts, body_found}
use Rattle.murphi_types.specs.Routines.{FoundFormals, FoundResult, FoundRoutine, formals_found, no_formals, result_found, locals_of, row_declared, routine_body, typed_routine, with_routine, after_routine, globally_declared}
use Rattle.type_parts.specs.declared.context.Context.{Context}
use Rattle.type_parts.specs.Contexts.{moved}
use Rattle.type_parts.proofs.FaultLemmas.{first-append, first-clear}
use Rattle.type_declarations.specs.declared.state.Declaring.{Declaring}
use Rattle.type_declarations.specs.Declaring.{declaring}
use Rattle.type_declarations.proofs.GlobalsLemmas.{globals_of}
use Rattle.type_statements.specs.declared.judged.JudgedStmts.{JudgedStmts}
use Rattle.type_statements.specs.StatementsGiven.{stmts_part}
use Rattle.type_routines.specs.declared.state.JudgedFormals.{JudgedFormals}
use Rattle.type_routines.specs.declared.state.JudgedResult.{JudgedResult}
use Rattle.type_routines.specs.declared.state.JudgedRoutine.{JudgedRoutine}
use Rattle.type_routines.specs.Formals.{formals_left, result_part}
use Rattle.type_routines.specs.Routines.{formals_in, result_in, locals_in, routine_in, routine_of, routine_left, nothing_local, leaving_by, named_routine, with_body, finished, finished_by, body_in, left_behind}
use Rattle.type_routines.proofs.ScopeLemmas.{closed-again}
use Rattle.type_routines.proofs.GlobalsLemmas.{routine-globals}

-- Locals

pub all-last : (g : Bool) (xs : List Decl) (x : Decl) (d : Declared) → all_declared g (xs ++ x ∷ []) d ≡ declared g x (all_declared g xs d)
all-last g [] x d = refl
all-last g (y ∷ ys) x d = all-last g ys x (declared g y d)

row-declared-is : {n : _} (row : Row_of-Decl n) (d : Declared) → row_declared row d ≡ all_declared false (items-the_row-Decl n row) d
row-declared-is end_of-Decl d = refl
row-declared-is (more_of-Decl one rest) d = row-declared-is rest (declared false one d)

-- where the locals of a routine begin
pub locals-begin : (f : FoundFormals) (r : FoundResult) → nothing_local (moved (formals_left f).context r.known) (sooner (formals_left f).fault (result_part r).fault) ≡ declaring false (locals_of f.scope r f.faults)
unfolding formals_left declaring
locals-begin f r = ap (nothing_local (record { scope = f.scope; known = r.known })) (sym (first-append f.faults r.faults))

-- Bodies

both-clear : (xs ys : List Fault) → is_clear (xs ++ ys) ≡ (is_none (first_fault xs) && is_none (first_fault ys))
both-clear [] ys = sym (first-clear ys)
both-clear (x ∷ xs) ys = ap (λ b. b && is_none (first_fault ys)) (sym (first-clear (x ∷ xs)))

leaving-is : (s : Scope) (k : Known) (o : Option TypeExpr) → leaving_by (is_some o) (result_found s k o).result ≡ (result_found s k o).leaving
leaving-is s k None = refl
leaving-is s k (Some t) = refl

-- what is left where this bool says whether the routine is called, and with this first fault
abbrev ended : Routine → FoundFormals → FoundResult → Declared → FoundStmts → Bool → Option Fault → JudgedRoutine
ended one f r d body clear fault =
    record {
      context = record { scope = d.scope; known = with_routine body.known clear (typed_routine one.name.name f r d body) body.weight };
      fault = fault;
    }

made-is : (one : Routine) (f : FoundFormals) (r : FoundResult) (d : Declared) (b : FoundStmts) → finished_by one.name.name f.formals r.result (declaring false d) (stmts_part b) b.known ≡ ended one f r d b (is_clear (d.faults ++ b.faults)) (first_fault (d.faults ++ (d.limits ++ b.faults)))
unfolding declaring stmts_part
made-is one f r d b =
    sym (ap (λ z. ended one f r d b z (first_fault (d.faults ++ (d.limits ++ b.faults)))) (both-clear d.faults b.faults)
    ∙ ap (ended one f r d b (is_none (first_fault d.faults) && is_none (first_fault b.faults)))
    (first-append d.faults (d.limits ++ b.faults) ∙ ap (sooner (first_fault d.faults)) (first-append d.limits b.faults)))

finished-is : (one : Routine) (f : FoundFormals) (r : FoundResult) (d : Declared) → leaving_by (is_some one.result) r.result ≡ r.leaving → finished one f.formals r.result (declaring false d) ≡ routine_left d.scope (routine_body one.name.name f r one.body d)
unfolding declaring routine_left
finished-is one f r d h =
    ap (λ v. finished_by one.name.name f.formals r.result (declaring false d) (stmts_part (body_found v d.scope d.known one.body)) (body_found v d.scope d.known one.body).known) h
    ∙ made-is one f r d (body_found r.leaving d.scope d.known one.body)

abbrev left_with : Scope → Known → Option Fault → JudgedRoutine
left_with s k o = record { context = record { scope = s; known = k }; fault = o }

-- what is left with these names in scope
abbrev fin : Routine → List Formal → Option Simple → Declaring → Context → JudgedStmts → JudgedRoutine
fin one formals type p x body =
    record {
      context = record {
        scope = x.scope;
        known = with_body (record { name = one.name.name; formals = formals; result = type; locals = p.locals; body = s.Block body.trees }) body.weight
            (named_routine (is_none p.fault && is_none body.fault) one.name.name x.known);
      };
      fault = sooner p.fault (sooner p.limit body.fault);
    }

pub finish-done : (one : Routine) (formals : List Formal) (type : Option Simple) (p : Declaring) (b : Bool) (v : Leaving) (xs : List Stmt) (x : Context) (body : JudgedStmts) (clear : Bool) (rest fault : Option Fault) (k k' : Known) (name : Name) →
    b ≡ is_some one.result → v ≡ leaving_by b type → xs ≡ one.body →
    body ≡ stmts_part (body_found v p.context.scope p.context.known xs) →
    x ≡ moved p.context (body_found v p.context.scope p.context.known xs).known →
    clear ≡ (is_none p.fault && is_none body.fault) → rest ≡ sooner p.limit body.fault → fault ≡ sooner p.fault rest →
    k ≡ named_routine clear one.name.name x.known → name ≡ one.name.name →
    k' ≡ with_body (record { name = name; formals = formals; result = type; locals = p.locals; body = s.Block body.trees }) body.weight k →
    record { context = record { scope = x.scope; known = k' }; fault = fault } ≡ finished one formals type p
finish-done one formals type p b v xs x body clear rest fault k k' name be ve xe bodye xx ce re fe ke ne ke' =
    let made : Name → typed.Routine = λ n. record { name = n; formals = formals; result = type; locals = p.locals; body = s.Block body.trees } in
    let B = body_in one type p.context in
    let F : body_found v p.context.scope p.context.known xs ≡ B =
    ap (λ z. body_found z p.context.scope p.context.known xs) (ve ∙ ap (λ z. leaving_by z type) be)
    ∙ ap (λ ys. body_found (leaving_by (is_some one.result) type) p.context.scope p.context.known ys) xe
    in
    let K : k' ≡ with_body (made one.name.name) body.weight (named_routine (is_none p.fault && is_none body.fault) one.name.name x.known) =
    ke'
    ∙ ap (λ n. with_body (made n) body.weight k) ne
    ∙ ap (with_body (made one.name.name) body.weight) (ke ∙ ap (λ z. named_routine z one.name.name x.known) ce)
    in
    ap (λ z. left_with x.scope z fault) K
    ∙ ap (left_with x.scope (with_body (made one.name.name) body.weight (named_routine (is_none p.fault && is_none body.fault) one.name.name x.known))) (fe ∙ ap (sooner p.fault) re)
    ∙ ap (λ z. fin one formals type p z body) (xx ∙ ap (λ (z : FoundStmts). moved p.context z.known) F)
    ∙ ap (fin one formals type p (moved p.context B.known)) (bodye ∙ ap stmts_part F)

pub after-formals : (one : Routine) (taken : JudgedFormals) (c : Context) (part : JudgedResult) (o : Option Fault) (begun : Declaring) (xs : List Decl) (done : Declaring) (made : JudgedRoutine) →
    part ≡ result_part (result_found taken.context.scope taken.context.known one.result) →
    c ≡ moved taken.context (result_found taken.context.scope taken.context.known one.result).known →
    o ≡ sooner taken.fault part.fault → begun ≡ nothing_local c o → xs ≡ one.locals →
    ((d : Declared) → begun ≡ declaring false d → done ≡ declaring false (all_declared false xs d)) →
    made ≡ finished one taken.formals part.of done →
    (f : FoundFormals) → taken ≡ formals_left f → made ≡ routine_left (locals_in f one).scope (routine_in f one)
unfolding formals_left
after-formals one taken c part o begun xs done made p m oe be xe l e f h =
    let r = result_in f one in
    let p' : part ≡ result_part r = p ∙ ap (λ (x : JudgedFormals). result_part (result_found x.context.scope x.context.known one.result)) h in
    let c' : c ≡ record { scope = f.scope; known = r.known } = m ∙ ap (λ (x : JudgedFormals). moved x.context (result_found x.context.scope x.context.known one.result).known) h in
    let f' : taken.fault ≡ first_fault f.faults = ap (λ (x : JudgedFormals). x.fault) h in
    let b' : begun ≡ declaring false (locals_of f.scope r f.faults) =
    be
    ∙ ap (nothing_local c) oe
    ∙ ap (λ z. nothing_local z (sooner taken.fault part.fault)) c'
    ∙ ap (λ z. nothing_local (record { scope = f.scope; known = r.known }) (sooner z part.fault)) f'
    ∙ ap (λ (z : JudgedResult). nothing_local (record { scope = f.scope; known = r.known }) (sooner (first_fault f.faults) z.fault)) p'
    ∙ locals-begin f r
    in
    e
    ∙ ap (λ (x : JudgedFormals). finished one x.formals part.of done) h
    ∙ ap (λ (z : JudgedResult). finished one f.formals z.of done) p'
    ∙ ap (finished one f.formals r.result) (l (locals_of f.scope r f.faults) b' ∙ ap (λ ys. declaring false (all_declared false ys (locals_of f.scope r f.faults))) xe)
    ∙ finished-is one f r (locals_in f one) (leaving-is f.scope f.known one.result)

-- Whole routines

-- a routine is the same over the list of its locals
pub globally-Routine : (one : Routine) (d : Declared) → globally_declared (decl.Routine one) d ≡ after_routine d (routine_of d.scope d.known one)
globally-Routine one d =
    let f = formals_in d.scope d.known one in
    let r = result_in f one in
    let start = locals_of f.scope r f.faults in
    ap (λ x. after_routine d (routine_body one.name.name f r one.body x))
    (row-declared-is (hidden-the_row-Decl-0 one.locals) start ∙ ap (λ xs. all_declared false xs start) (items_hidden-the_row-Decl-0 one.locals))

-- what a text has declared, with these globals counted and this first fault
abbrev texted : Declared → Known → List Variable → Option Fault → Declaring
texted d k vs o =
    record { context = record { scope = d.scope; known = k }; locals = d.locals; leaves = stopped (leaves_of vs); fault = o; limit = first_fault d.limits }

text-is : (d : Declared) (r : FoundRoutine) → globals_of r.known ≡ globals_of d.known → texted d r.known (globals_of d.known) (sooner (first_fault d.faults) (first_fault r.faults)) ≡ declaring true (after_routine d r)
unfolding declaring
text-is d r h =
    ap (λ vs. texted d r.known vs (sooner (first_fault d.faults) (first_fault r.faults))) (sym h)
    ∙ ap (texted d r.known (globals_of r.known)) (sym (first-append d.faults r.faults))

pub routine-done : (one : Routine) (start : Declaring) (n : ℕ) (b : Bool) (xs : List WrittenFormal) (taken : JudgedFormals) (made : JudgedRoutine) (c : Context) (o : Option Fault) →
    n ≡ length start.context.scope.inner → b ≡ is_some one.result → xs ≡ one.formals →
    taken ≡ formals_left (formals_found xs (no_formals start.context.scope b start.context.known)) →
    ((f : FoundFormals) → taken ≡ formals_left f → made ≡ routine_left (locals_in f one).scope (routine_in f one)) →
    o ≡ sooner start.fault made.fault →
    c ≡ left_behind n start.context.scope.in_function made.context →
    (d : Declared) → start ≡ declaring true d → record start { context = c; fault = o } ≡ declaring true (globally_declared (decl.Routine one) d)
unfolding declaring routine_left
routine-done one start n b xs taken made c o ne be xe t m oe l d h =
    let k : start.context ≡ record { scope = d.scope; known = d.known } = ap (λ (x : Declaring). x.context) h in
    let f = formals_in d.scope d.known one in
    let r = routine_of d.scope d.known one in
    let t' : taken ≡ formals_left f =
    t
    ∙ ap (λ ys. formals_left (formals_found ys (no_formals start.context.scope b start.context.known))) xe
    ∙ ap (λ z. formals_left (formals_found one.formals (no_formals start.context.scope z start.context.known))) be
    ∙ ap (λ (x : Context). formals_left (formals_in x.scope x.known one)) k
    in
    let m' : made ≡ routine_left (locals_in f one).scope r = m f t' in
    let c' : c ≡ record { scope = d.scope; known = r.known } =
    l
    ∙ ap (λ z. left_behind z start.context.scope.in_function made.context) ne
    ∙ ap (λ (x : Context). left_behind (length x.scope.inner) x.scope.in_function made.context) k
    ∙ ap (λ (x : JudgedRoutine). left_behind (length d.scope.inner) d.scope.in_function x.context) m'
    ∙ ap (λ (z : Scope). record { scope = z; known = r.known }) (closed-again d.scope d.known one)
    in
    ap (λ (z : Context). record start { context = z; fault = o }) c'
    ∙ ap (λ (z : Option Fault). record start { context = record { scope = d.scope; known = r.known }; fault = z }) oe
    ∙ ap (λ (x : JudgedRoutine). record start { context = record { scope = d.scope; known = r.known }; fault = sooner start.fault x.fault }) m'
    ∙ ap (λ (x : Declaring). record x { context = record { scope = d.scope; known = r.known }; fault = sooner x.fault (first_fault r.faults) }) h
    ∙ text-is d r (routine-globals d.scope d.known one)
    ∙ ap (declaring true) (sym (globally-Routine one d))
