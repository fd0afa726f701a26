-- Guards and bodies: what code gives of them is the defined part.
use Rattle.std.proofs.Common.{◌≡◌, ℕ, ◌+◌, ◌<◌, ◌≤◌, false, List, [], ◌∷◌, ◌++◌, length, take, get_or, Option, None, Some, refl, ap, sym, ◌∙◌, add-one}
use Rattle.std.proofs.Math.Seq.{take-suc}
use Rattle.murphi_ast.specs.declared.token.Span.{Span}
use Rattle.murphi_ast.specs.declared.expr.Expr.{Expr}
use Rattle.murphi_ast.specs.declared.stmt.Stmt.{Stmt}
use Rattle.murphi_ast.specs.declared.decl.Decl.{Decl}
use Rattle.murphi_typed.specs.declared.stmt.Stmt as s
use Rattle.murphi_typed.specs.declared.protocol.Parameter.{Parameter}
use Rattle.murphi_types.specs.declared.fault.Fault.{Fault}
use Rattle.murphi_types.specs.declared.scope.Entry.{Entry}
use Rattle.murphi_types.specs.declared.scope.Known.{Known}
use Rattle.murphi_types.specs.declared.scope.Scope.{Scope}
use Rattle.murphi_types.specs.Faults.{sooner, first_fault}
use Rattle.murphi_types.specs.Weights.{stopped}
use Rattle.murphi_types.specs.Places.{place_of}
use Rattle.murphi_types.specs.Fitting.{is_truth}
use Rattle.murphi_types.specs.Found.{Found, wanted}
use Rattle.murphi_types.specs.Typing.{found}
use Rattle.murphi_types.specs.Declarations.{Declared, declared, all_declared}
use Rattle.murphi_types.specs.Statements.{FoundStmts, AtEnd, body_found}
use Rattle.murphi_types.specs.Items.{FoundGuard, FoundBody, guard_found, item_body, body_faults}
use Rattle.type_parts.specs.declared.context.Context.{Context}
use Rattle.type_parts.specs.Contexts.{moved}
use Rattle.type_parts.proofs.FaultLemmas.{first-append}
use Rattle.type_parts.proofs.WeightLemmas.{stopped-left, stopped-right}
use Rattle.type_expressions.specs.PartsGiven.{part_of}
use Rattle.type_expressions.proofs.PartLemmas.{kept-is}
use Rattle.type_declarations.specs.declared.state.Declaring.{Declaring}
use Rattle.type_declarations.specs.Declaring.{declaring}
use Rattle.type_statements.specs.declared.judged.JudgedStmts.{JudgedStmts}
use Rattle.type_statements.specs.StatementsGiven.{stmts_part}
use Rattle.type_items.specs.declared.gathered.Inside.{Inside}
use Rattle.type_items.specs.declared.gathered.JudgedGuard.{JudgedGuard}
use Rattle.type_items.specs.declared.gathered.JudgedBody.{JudgedBody}
use Rattle.type_items.specs.declared.gathered.Stated.{Stated}
use Rattle.type_items.specs.declared.gathered.Bodied.{Bodied}
use Rattle.type_items.specs.declared.gathered.Claimed.{Claimed}
use Rattle.type_items.specs.Bodies.{truth_wanted, guard_judged, guard_with, no_locals, locals_with, shortened, stated_after, stated_with, bodied_done, bodied_with, claimed_with}
use Rattle.type_items.proofs.ListLemmas.{all-taken}
use Rattle.type_items.proofs.ScopeLemmas.{locals-end}

-- Locals in turn

pub locals-begin : (c : Context) → declaring false (no_locals c) ≡ record { context = c; locals = []; leaves = 0; fault = None; limit = None }
unfolding declaring
locals-begin c = refl

declared-last : (all : List Decl) (one : Decl) (d : Declared) → all_declared false (all ++ one ∷ []) d ≡ declared false one (all_declared false all d)
declared-last [] one d = refl
declared-last (x ∷ all) one d = declared-last all one (declared false x d)

pub locals-step : (c : Context) (all : List Decl) (i : ℕ) (one : Decl) (p p' : Declaring) → i < length all → one ≡ get_or all i one → p ≡ locals_with c (take i all) →
    ((d : Declared) → p ≡ declaring false d → p' ≡ declaring false (declared false one d)) → p' ≡ locals_with c (take (i + 1) all)
locals-step c all i one p p' lt is h next =
    next (all_declared false (take i all) (no_locals c)) h
    ∙ ap (declaring false) (sym (declared-last (take i all) one (no_locals c)))
    ∙ ap (locals_with c) (sym (ap (λ j. take j all) (add-one i) ∙ take-suc all i one lt ∙ ap (λ x. take i all ++ x ∷ []) (sym is)))

pub locals-end-of : (c : Context) (all : List Decl) (i : ℕ) (p : Declaring) → length all ≤ i → p ≡ locals_with c (take i all) → p ≡ locals_with c all
locals-end-of c all i p le h = h ∙ ap (locals_with c) (all-taken i all le)

pub stated-opens : (n : ℕ) (d : Declaring) (j : JudgedStmts) (k : Known) → stated_after n d j k ≡ record { context = record { scope = shortened n d.context.scope; known = k }; locals = d.locals; trees = j.trees; weight = j.weight; fault = sooner d.fault j.fault; limit = d.limit }
unfolding stated_after
stated-opens n d j k = refl

pub bodied-opens : (params : List Parameter) (fault : Option Fault) (g : JudgedGuard) (t : Stated) → bodied_done params fault g t ≡ record {
  inside = record { context = t.context; params = params; fault = fault };
  part = record {
    guard = g.guard;
    locals = t.locals;
    body = s.Block t.trees;
    weight = stopped (g.weight + t.weight);
    fault = sooner g.fault t.fault;
    limit = t.limit;
  };
}
unfolding bodied_done
bodied-opens params fault g t = refl

pub claimed-opens : (I : Inside) (body : Expr) → claimed_with I body ≡ record {
  inside = record I { context = moved I.context (found I.context.scope I.context.known body).known };
  part = truth_wanted (place_of body) (part_of (found I.context.scope I.context.known body));
}
unfolding claimed_with
claimed-opens I body = refl

pub ruleset bodies = (locals-begin, stated-opens, bodied-opens, claimed-opens)

-- What is found, as code has it

abbrev pub guard_part : FoundGuard → JudgedGuard
guard_part g = record { guard = g.guard; weight = stopped g.weight; fault = first_fault g.faults }

abbrev pub body_part : FoundBody → JudgedBody
body_part b =
    record {
      guard = b.guard.guard;
      locals = b.locals.locals;
      body = s.Block b.body.trees;
      weight = stopped (b.guard.weight + b.body.weight);
      fault = first_fault (body_faults b);
      limit = first_fault b.locals.limits;
    }

abbrev pub bodied : Inside → FoundBody → Bodied
bodied I b = record { inside = record I { context = moved I.context b.body.known }; part = body_part b }

pub truth-is : (at : Span) (f : Found) → truth_wanted at (part_of f) ≡ part_of (wanted is_truth at f)
unfolding part_of
truth-is at f = sym (kept-is is_truth at f)

guard-is : (c : Context) (guard : Option Expr) → guard_with c guard ≡ guard_part (guard_found c.scope c.known guard)
unfolding part_of
guard-is c None = refl
guard-is c (Some test) = ap (guard_judged (place_of test)) (truth-is (place_of test) (found c.scope c.known test))

three-faults : (fs gs hs : List Fault) → sooner (first_fault fs) (sooner (first_fault gs) (first_fault hs)) ≡ first_fault (fs ++ (gs ++ hs))
three-faults fs gs hs = sym (first-append fs (gs ++ hs) ∙ ap (sooner (first_fault fs)) (first-append gs hs))

-- guard, locals and body are found so
made : (I : Inside) (g : FoundGuard) (d : Declared) (f : FoundStmts) → I.context.scope ≡ shortened (length I.context.scope.inner) d.scope →
    bodied_done I.params I.fault (guard_part g) (stated_after (length I.context.scope.inner) (declaring false d) (stmts_part f) f.known) ≡ bodied I (record { guard = g; locals = d; body = f })
unfolding declaring stmts_part stated_after bodied_done
made I g d f end =
    let whole : Scope → ℕ → Option Fault → Bodied = λ sc w o. record {
      inside = record { context = record { scope = sc; known = f.known }; params = I.params; fault = I.fault };
      part = record {
        guard = g.guard;
        locals = d.locals;
        body = s.Block f.trees;
        weight = w;
        fault = o;
        limit = first_fault d.limits;
      };
    } in
    ap (λ sc. whole sc (stopped (stopped g.weight + stopped f.weight)) (sooner (first_fault g.faults) (sooner (first_fault d.faults) (first_fault f.faults)))) (sym end)
    ∙ ap (λ w. whole I.context.scope w (sooner (first_fault g.faults) (sooner (first_fault d.faults) (first_fault f.faults)))) (stopped-left g.weight (stopped f.weight) ∙ stopped-right g.weight f.weight)
    ∙ ap (λ o. whole I.context.scope (stopped (g.weight + f.weight)) o) (three-faults g.faults d.faults f.faults)

after : (I : Inside) (g : FoundGuard) (body : List Stmt) (d : Declared) → I.context.scope ≡ shortened (length I.context.scope.inner) d.scope →
    bodied_done I.params I.fault (guard_part g) (stated_with (length I.context.scope.inner) (declaring false d) body) ≡ bodied I (record { guard = g; locals = d; body = body_found AtEnd d.scope d.known body })
unfolding declaring
after I g body d end = made I g d (body_found AtEnd d.scope d.known body) end

pub bodied-is : (I : Inside) (guard : Option Expr) (locals : List Decl) (body : List Stmt) →
    bodied_with I guard locals body ≡ bodied I (item_body I.context.scope I.context.known guard locals body)
unfolding bodied_with
bodied-is I guard locals body =
    let g = guard_found I.context.scope I.context.known guard in
    let start = no_locals (moved I.context g.known) in
    ap (λ j. bodied_done I.params I.fault j (stated_with (length I.context.scope.inner) (locals_with (moved I.context g.known) locals) body)) (guard-is I.context guard)
    ∙ after I g body (all_declared false locals start) (sym (locals-end locals start))

-- What the calls say, put together

pub stated-done : (n : ℕ) (d : Declaring) (body : List Stmt) (c : Context) (j : JudgedStmts) (es : List Entry) (o : Option Fault) →
    j ≡ stmts_part (body_found AtEnd d.context.scope d.context.known body) → c ≡ moved d.context (body_found AtEnd d.context.scope d.context.known body).known →
    es ≡ take n c.scope.inner → o ≡ sooner d.fault j.fault →
    record { context = record { scope = record c.scope { inner = es }; known = c.known }; locals = d.locals; trees = j.trees; weight = j.weight; fault = o; limit = d.limit } ≡ stated_with n d body
unfolding stated_after
stated-done n d body c j es o part moves short first =
    let f = body_found AtEnd d.context.scope d.context.known body in
    ap (λ xs. record { context = record { scope = record c.scope { inner = xs }; known = c.known }; locals = d.locals; trees = j.trees; weight = j.weight; fault = o; limit = d.limit }) short
    ∙ ap (λ x. record { context = record { scope = shortened n c.scope; known = c.known }; locals = d.locals; trees = j.trees; weight = j.weight; fault = x; limit = d.limit }) first
    ∙ ap (λ (x : Context). record { context = record { scope = shortened n x.scope; known = x.known }; locals = d.locals; trees = j.trees; weight = j.weight; fault = sooner d.fault j.fault; limit = d.limit }) moves
    ∙ ap (λ (x : JudgedStmts). record { context = record { scope = shortened n d.context.scope; known = f.known }; locals = d.locals; trees = x.trees; weight = x.weight; fault = sooner d.fault x.fault; limit = d.limit }) part

pub body-done : (I : Inside) (guard : Option Expr) (locals : List Decl) (body : List Stmt) (n : ℕ) (g : JudgedGuard) (c : Context) (d : Declaring) (t : Stated) (b : Bodied) →
    n ≡ length I.context.scope.inner → g ≡ guard_with I.context guard → c ≡ moved I.context (guard_found I.context.scope I.context.known guard).known →
    d ≡ locals_with c locals → t ≡ stated_with n d body → b ≡ bodied_done I.params I.fault g t → b ≡ bodied_with I guard locals body
unfolding bodied_with
body-done I guard locals body n g c d t b count tested moves declares done made =
    let k = (guard_found I.context.scope I.context.known guard).known in
    made
    ∙ ap (bodied_done I.params I.fault g) (done ∙ ap (λ m. stated_with m d body) count ∙ ap (λ x. stated_with (length I.context.scope.inner) x body) (declares ∙ ap (λ x. locals_with x locals) moves))
    ∙ ap (λ x. bodied_done I.params I.fault x (stated_with (length I.context.scope.inner) (locals_with (moved I.context k) locals) body)) tested

-- Invariants

abbrev pub claimed : Inside → Found → Claimed
claimed I f = record { inside = record I { context = moved I.context f.known }; part = part_of f }

pub claimed-is : (I : Inside) (body : Expr) →
    claimed_with I body ≡ claimed I (wanted is_truth (place_of body) (found I.context.scope I.context.known body))
unfolding claimed_with
claimed-is I body =
    ap (λ j. record { inside = record I { context = moved I.context (found I.context.scope I.context.known body).known }; part = j })
    (truth-is (place_of body) (found I.context.scope I.context.known body))
