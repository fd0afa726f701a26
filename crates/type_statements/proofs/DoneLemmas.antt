-- What the calls of each turn say, put together.
use Rattle.std.proofs.Common.{◌≡◌, ℕ, zero, suc, ◌≤◌, List, [], ◌∷◌, length, drop, Option, refl, ap, sym, ◌∙◌, arith}
use Rattle.murphi_ast.specs.declared.token.Span.{Span}
use Rattle.murphi_ast.specs.declared.expr.Expr.{Expr}
use Rattle.murphi_ast.specs.declared.stmt.Arm.{Arm}
use Rattle.murphi_ast.specs.declared.stmt.Case.{Case}
use Rattle.murphi_ast.specs.declared.stmt.Stmt.{Stmt}
use Rattle.murphi_typed.specs.declared.types.AnyType.{AnyType}
use Rattle.murphi_types.specs.declared.scope.Known.{Known}
use Rattle.murphi_types.specs.declared.scope.Scope.{Scope}
use Rattle.murphi_types.specs.Weights.{stopped}
use Rattle.murphi_types.specs.Places.{place_of}
use Rattle.murphi_types.specs.Fitting.{fits, is_truth, is_comparable}
use Rattle.murphi_types.specs.Typing.{found}
use Rattle.murphi_types.specs.Statements.{Leaving, FoundStmts, FoundArms, FoundLabels, FoundCases, labels_found, stmt_found, body_found}
use Rattle.type_parts.specs.declared.context.Context.{Context}
use Rattle.type_parts.specs.declared.judged.Judged.{Judged}
use Rattle.type_parts.specs.Contexts.{moved}
use Rattle.type_parts.specs.Judging.{kept}
use Rattle.type_expressions.specs.PartsGiven.{part_of}
use Rattle.type_statements.specs.declared.judged.JudgedStmt.{JudgedStmt}
use Rattle.type_statements.specs.declared.judged.JudgedStmts.{JudgedStmts}
use Rattle.type_statements.specs.declared.judged.JudgedArms.{JudgedArms}
use Rattle.type_statements.specs.declared.judged.JudgedLabels.{JudgedLabels}
use Rattle.type_statements.specs.declared.judged.JudgedCases.{JudgedCases}
use Rattle.type_statements.specs.Stating.{stated_by, labelled_by, armed_by, cased_by, stated, labelled, armed, cased, nothing_stated, nothing_labelled, nothing_armed, nothing_cased}
use Rattle.type_statements.specs.StatementsGiven.{stmts_part, arms_part, labels_part, cases_part, stmt_part}
use Rattle.type_statements.specs.StatementLists.{list_arms, list_cases}
use Rattle.type_statements.proofs.TurnLemmas.{stmt-turn, stmts-end, label-turn, labels-end, arm-turn, arms-end, case-turn, cases-end}

drop_none : {A : Type 0} (xs : List A) (i : ℕ) → length xs ≤ i → drop i xs ≡ []
drop_none [] zero h = refl
drop_none [] (suc i) h = refl
drop_none (x ∷ xs) zero h = absurd (omega (arith, h))
drop_none (x ∷ xs) (suc i) h = drop_none xs i (omega (arith, h))

-- Statements

pub stmt-done : (x x' : Context) (l : Leaving) (one : Stmt) (d d' : JudgedStmts) (j : JudgedStmt) (rest : List Stmt) →
    j ≡ stmt_part (stmt_found l x.scope x.known one) → x' ≡ moved x (stmt_found l x.scope x.known one).known → d' ≡ stated_by j d →
    stated d' (body_found l x'.scope x'.known rest) ≡ stated d (body_found l x.scope x.known (one ∷ rest))
stmt-done x x' l one d d' j rest p c m =
    ap (λ z. stated z (body_found l x'.scope x'.known rest)) m
    ∙ ap (λ (z : Context). stated (stated_by j d) (body_found l z.scope z.known rest)) c
    ∙ stmt-turn l x.scope x.known one j d rest p

pub stmts-stop : (l : Leaving) (s : Scope) (k : Known) (all : List Stmt) (i : ℕ) (d : JudgedStmts) (whole : FoundStmts) → length all ≤ i → stated d (body_found l s k (drop i all)) ≡ stated nothing_stated whole → stopped d.weight ≡ d.weight → (d ≡ stmts_part whole) × (k ≡ whole.known)
stmts-stop l s k all i d whole le h w =
    stmts-end d k whole w (sym (ap (λ xs. stated d (body_found l s k xs)) (drop_none all i le)) ∙ h)

-- Labels

pub label-done : (x x' : Context) (on : Option AnyType) (one : Expr) (d d' : JudgedLabels) (part fit : Judged) (at : Span) (rest : List Expr) →
    part ≡ part_of (found x.scope x.known one) → x' ≡ moved x (found x.scope x.known one).known → at ≡ place_of one →
    fit ≡ kept (fits (is_comparable on) part.of) at part → d' ≡ labelled_by fit d →
    labelled d' (labels_found x'.scope x'.known on rest) ≡ labelled d (labels_found x.scope x.known on (one ∷ rest))
label-done x x' on one d d' part fit at rest p c w o m =
    ap (λ z. labelled z (labels_found x'.scope x'.known on rest)) m
    ∙ ap (λ z. labelled (labelled_by z d) (labels_found x'.scope x'.known on rest)) o
    ∙ ap (λ z. labelled (labelled_by (kept (fits (is_comparable on) part.of) z part) d) (labels_found x'.scope x'.known on rest)) w
    ∙ ap (λ (z : Judged). labelled (labelled_by (kept (fits (is_comparable on) z.of) (place_of one) z) d) (labels_found x'.scope x'.known on rest)) p
    ∙ ap (λ (z : Context). labelled (labelled_by (kept (fits (is_comparable on) (part_of (found x.scope x.known one)).of) (place_of one) (part_of (found x.scope x.known one))) d) (labels_found z.scope z.known on rest)) c
    ∙ label-turn x.scope x.known on one d rest

pub labels-stop : (s : Scope) (k : Known) (on : Option AnyType) (all : List Expr) (i : ℕ) (d : JudgedLabels) (whole : FoundLabels) → length all ≤ i → labelled d (labels_found s k on (drop i all)) ≡ labelled nothing_labelled whole → stopped d.weight ≡ d.weight → (d ≡ labels_part whole) × (k ≡ whole.known)
labels-stop s k on all i d whole le h w =
    labels-end d k whole w (sym (ap (λ xs. labelled d (labels_found s k on xs)) (drop_none all i le)) ∙ h)

-- Tests

pub arm-done : (x x' x'' : Context) (l : Leaving) (one : Arm) (body : List Stmt) (d d' : JudgedArms) (part fit : Judged) (b : JudgedStmts) (at : Span) (rest : List Arm) →
    part ≡ part_of (found x.scope x.known one.test) → x' ≡ moved x (found x.scope x.known one.test).known → at ≡ place_of one.test →
    fit ≡ kept (fits is_truth part.of) at part → body ≡ one.body → b ≡ stmts_part (body_found l x'.scope x'.known body) → x'' ≡ moved x' (body_found l x'.scope x'.known body).known → d' ≡ armed_by fit b d →
    armed d' (list_arms l x''.scope x''.known rest) ≡ armed d (list_arms l x.scope x.known (one ∷ rest))
arm-done x x' x'' l one body d d' part fit b at rest p c w o e q y m =
    ap (λ z. armed z (list_arms l x''.scope x''.known rest)) m
    ∙ ap (λ z. armed (armed_by z b d) (list_arms l x''.scope x''.known rest)) o
    ∙ ap (λ z. armed (armed_by (kept (fits is_truth part.of) z part) b d) (list_arms l x''.scope x''.known rest)) w
    ∙ ap (λ (z : Judged). armed (armed_by (kept (fits is_truth z.of) (place_of one.test) z) b d) (list_arms l x''.scope x''.known rest)) p
    ∙ ap (λ (z : Context). armed (armed_by (kept (fits is_truth (part_of (found x.scope x.known one.test)).of) (place_of one.test) (part_of (found x.scope x.known one.test))) b d) (list_arms l z.scope z.known rest)) y
    ∙ ap (λ z. armed (armed_by (kept (fits is_truth (part_of (found x.scope x.known one.test)).of) (place_of one.test) (part_of (found x.scope x.known one.test))) z d) (list_arms l x'.scope (body_found l x'.scope x'.known body).known rest)) q
    ∙ ap (λ z. armed (armed_by (kept (fits is_truth (part_of (found x.scope x.known one.test)).of) (place_of one.test) (part_of (found x.scope x.known one.test))) (stmts_part (body_found l x'.scope x'.known z)) d) (list_arms l x'.scope (body_found l x'.scope x'.known z).known rest)) e
    ∙ ap (λ (z : Context). armed (armed_by (kept (fits is_truth (part_of (found x.scope x.known one.test)).of) (place_of one.test) (part_of (found x.scope x.known one.test))) (stmts_part (body_found l z.scope z.known one.body)) d) (list_arms l z.scope (body_found l z.scope z.known one.body).known rest)) c
    ∙ arm-turn l x.scope x.known one d rest

pub arms-stop : (l : Leaving) (s : Scope) (k : Known) (all : List Arm) (i : ℕ) (d : JudgedArms) (whole : FoundArms) → length all ≤ i → armed d (list_arms l s k (drop i all)) ≡ armed nothing_armed whole → stopped d.weight ≡ d.weight → (d ≡ arms_part whole) × (k ≡ whole.known)
arms-stop l s k all i d whole le h w =
    arms-end d k whole w (sym (ap (λ xs. armed d (list_arms l s k xs)) (drop_none all i le)) ∙ h)

-- Cases

pub case-done : (x x' x'' : Context) (l : Leaving) (on : Option AnyType) (one : Case) (names : List Expr) (body : List Stmt) (d d' : JudgedCases) (n : JudgedLabels) (b : JudgedStmts) (rest : List Case) →
    names ≡ one.labels → n ≡ labels_part (labels_found x.scope x.known on names) → x' ≡ moved x (labels_found x.scope x.known on names).known →
    body ≡ one.body → b ≡ stmts_part (body_found l x'.scope x'.known body) → x'' ≡ moved x' (body_found l x'.scope x'.known body).known → d' ≡ cased_by n b d →
    cased d' (list_cases l x''.scope x''.known on rest) ≡ cased d (list_cases l x.scope x.known on (one ∷ rest))
case-done x x' x'' l on one names body d d' n b rest u p c e q y m =
    ap (λ z. cased z (list_cases l x''.scope x''.known on rest)) m
    ∙ ap (λ z. cased (cased_by z b d) (list_cases l x''.scope x''.known on rest)) p
    ∙ ap (λ (z : Context). cased (cased_by (labels_part (labels_found x.scope x.known on names)) b d) (list_cases l z.scope z.known on rest)) y
    ∙ ap (λ z. cased (cased_by (labels_part (labels_found x.scope x.known on names)) z d) (list_cases l x'.scope (body_found l x'.scope x'.known body).known on rest)) q
    ∙ ap (λ z. cased (cased_by (labels_part (labels_found x.scope x.known on names)) (stmts_part (body_found l x'.scope x'.known z)) d) (list_cases l x'.scope (body_found l x'.scope x'.known z).known on rest)) e
    ∙ ap (λ (z : Context). cased (cased_by (labels_part (labels_found x.scope x.known on names)) (stmts_part (body_found l z.scope z.known one.body)) d) (list_cases l z.scope (body_found l z.scope z.known one.body).known on rest)) c
    ∙ ap (λ z. cased (cased_by (labels_part (labels_found x.scope x.known on z)) (stmts_part (body_found l x.scope (labels_found x.scope x.known on z).known one.body)) d) (list_cases l x.scope (body_found l x.scope (labels_found x.scope x.known on z).known one.body).known on rest)) u
    ∙ case-turn l x.scope x.known on one d rest

pub cases-stop : (l : Leaving) (s : Scope) (k : Known) (on : Option AnyType) (all : List Case) (i : ℕ) (d : JudgedCases) (whole : FoundCases) → length all ≤ i → cased d (list_cases l s k on (drop i all)) ≡ cased nothing_cased whole → stopped d.weight ≡ d.weight → (d ≡ cases_part whole) × (k ≡ whole.known)
cases-stop l s k on all i d whole le h w =
    cases-end d k whole w (sym (ap (λ xs. cased d (list_cases l s k on xs)) (drop_none all i le)) ∙ h)
