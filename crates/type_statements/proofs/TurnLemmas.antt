-- One turn of each loop over statements, tests, cases and labels, and its end.
use Rattle.std.proofs.Common.{◌≡◌, ℕ, ◌+◌, List, [], ◌∷◌, ◌++◌, Option, None, Some, refl, ap, sym, ◌∙◌, arith, append_assoc}
use Rattle.murphi_ast.specs.declared.token.Span.{Span}
use Rattle.murphi_ast.specs.declared.expr.Expr as e
use Rattle.murphi_ast.specs.declared.expr.Expr.{Expr}
use Rattle.murphi_ast.specs.declared.stmt.Arm as written
use Rattle.murphi_ast.specs.declared.stmt.Case as ways
use Rattle.murphi_ast.specs.declared.stmt.Stmt as w
use Rattle.murphi_ast.specs.declared.stmt.Stmt.{Stmt}
use Rattle.murphi_typed.specs.declared.types.AnyType.{AnyType}
use Rattle.murphi_typed.specs.declared.expr.Expr as x
use Rattle.murphi_typed.specs.declared.stmt.Stmt as typed
use Rattle.murphi_typed.specs.declared.stmt.Arm.{Arm}
use Rattle.murphi_typed.specs.declared.stmt.Case.{Case}
use Rattle.murphi_types.specs.declared.fault.Fault.{Fault}
use Rattle.murphi_types.specs.declared.scope.Known.{Known}
use Rattle.murphi_types.specs.declared.scope.Scope.{Scope}
use Rattle.murphi_types.specs.Faults.{sooner, first_fault}
use Rattle.murphi_types.specs.Weights.{stopped}
use Rattle.murphi_types.specs.Places.{place_of}
use Rattle.murphi_types.specs.Fitting.{fits, is_truth, is_comparable}
use Rattle.murphi_types.specs.Found.{Found, wanted}
use Rattle.murphi_types.specs.Typing.{found}
use Rattle.murphi_types.specs.Designators.{FoundPlace}
use Rattle.murphi_types.specs.Lists.{place_found}
use Rattle.murphi_types.specs.Statements.{Leaving, AtEnd, ByReturn, WithValue, assigned, left, FoundStmts, FoundArms, FoundLabels, FoundCases, no_stmts, no_arms, no_cases, stmts_made, arm_made, label_made, case_made, labels_found, stmt_found, body_found}
use Rattle.type_parts.specs.Judging.{judged, kept}
use Rattle.type_parts.proofs.FaultLemmas.{first-append, sooner-none}
use Rattle.type_expressions.specs.PartsGiven.{part_of}
use Rattle.type_expressions.proofs.PartLemmas.{kept-is, stopped-sum}
use Rattle.type_expressions.proofs.TurnLemmas.{weight-turn, fault-turn, append-nil}
use Rattle.type_statements.specs.declared.judged.JudgedStmt.{JudgedStmt}
use Rattle.type_statements.specs.declared.judged.JudgedStmts.{JudgedStmts}
use Rattle.type_statements.specs.declared.judged.JudgedArms.{JudgedArms}
use Rattle.type_statements.specs.declared.judged.JudgedLabels.{JudgedLabels}
use Rattle.type_statements.specs.declared.judged.JudgedCases.{JudgedCases}
use Rattle.type_statements.specs.Stating.{first_tree, judged_stmt, judged_stmts, judged_labels, stated_by, labelled_by, armed_by, cased_by, Stated, stated, Labelled, labelled, Armed, armed, Cased, cased, nothing_stated, nothing_labelled, nothing_armed, nothing_cased}
use Rattle.type_statements.specs.StatementsGiven.{stmts_part, arms_part, labels_part, cases_part, stmt_part}
use Rattle.type_statements.specs.StatementLists.{list_arms, list_cases}

-- the weights and faults of two parts
weight-two : (d m n g : ℕ) → stopped (stopped (d + stopped (stopped m + stopped n)) + g) ≡ stopped (d + (m + (n + g)))
weight-two d m n g =
    let q : d + ((m + n) + g) ≡ d + (m + (n + g)) = omega arith in
    ap (λ w. stopped (stopped (d + w) + g)) (stopped-sum m n) ∙ weight-turn d (m + n) g ∙ ap stopped q

fault-two : (d : Option Fault) (fs gs hs : List Fault) → sooner (sooner d (sooner (first_fault fs) (first_fault gs))) (first_fault hs) ≡ sooner d (first_fault (fs ++ (gs ++ hs)))
fault-two d fs gs hs =
    ap (λ o. sooner (sooner d o) (first_fault hs)) (sym (first-append fs gs))
    ∙ fault-turn d (fs ++ gs) hs
    ∙ ap (λ l. sooner d (first_fault l)) (append_assoc fs gs hs)

-- Statements

abbrev stated_whole : List typed.Stmt → ℕ → Option Fault → Known → Stated
stated_whole ts w o k = record { part = record { trees = ts; weight = w; fault = o }; known = k }

stated-parts : (d a : JudgedStmts) (f g : FoundStmts) → a ≡ judged_stmts f → stated_whole ((d.trees ++ a.trees) ++ g.trees) (stopped (stopped (d.weight + a.weight) + g.weight)) (sooner (sooner d.fault a.fault) (first_fault g.faults)) g.known ≡ stated d (stmts_made f g)
stated-parts d a f g h =
    ap (λ (z : JudgedStmts). stated_whole ((d.trees ++ z.trees) ++ g.trees) (stopped (stopped (d.weight + z.weight) + g.weight)) (sooner (sooner d.fault z.fault) (first_fault g.faults)) g.known) h
    ∙ ap (λ ts. stated_whole ts (stopped (stopped (d.weight + stopped f.weight) + g.weight)) (sooner (sooner d.fault (first_fault f.faults)) (first_fault g.faults)) g.known) (append_assoc d.trees f.trees g.trees)
    ∙ ap (λ w. stated_whole (d.trees ++ (f.trees ++ g.trees)) w (sooner (sooner d.fault (first_fault f.faults)) (first_fault g.faults)) g.known) (weight-turn d.weight f.weight g.weight)
    ∙ ap (λ o. stated_whole (d.trees ++ (f.trees ++ g.trees)) (stopped (d.weight + (f.weight + g.weight))) o g.known) (fault-turn d.fault f.faults g.faults)

-- one tree is found of a statement
lone-assign : (s : Scope) (p : FoundPlace) (v : Expr) → (assigned s p v).trees ≡ first_tree (assigned s p v).trees ∷ []
lone-assign s p (e.Place' root m row) = refl
lone-assign s p (e.Number n at) = refl
lone-assign s p (e.Truth b at) = refl
lone-assign s p (e.Call' name u row) = refl
lone-assign s p (e.Not' u row at) = refl
lone-assign s p (e.Minus' u row at) = refl
lone-assign s p (e.Chain' u row v links) = refl
lone-assign s p (e.Compare' op u row v right) = refl
lone-assign s p (e.Implies' u row v right) = refl
lone-assign s p (e.Choice' a b c d f g) = refl
lone-assign s p (e.Quantified' all a b c d at) = refl
lone-assign s p (e.IsUndefined' root u row at) = refl

lone-left : (l : Leaving) (s : Scope) (k : Known) (at : Span) (v : Option Expr) → (left s k l at v).trees ≡ first_tree (left s k l at v).trees ∷ []
lone-left AtEnd s k at None = refl
lone-left AtEnd s k at (Some v) = refl
lone-left ByReturn s k at None = refl
lone-left ByReturn s k at (Some v) = refl
lone-left (WithValue type) s k at None = refl
lone-left (WithValue type) s k at (Some v) = refl

lone-tree : (l : Leaving) (s : Scope) (k : Known) (one : Stmt) → (stmt_found l s k one).trees ≡ first_tree (stmt_found l s k one).trees ∷ []
unfolding stmt_found
lone-tree l s k (w.Assign to v) = lone-assign s (place_found s k to) v
lone-tree l s k (w.Call name args) = refl
lone-tree l s k (w.If' a arms b otherwise at) = refl
lone-tree l s k (w.Switch' on a cases b otherwise at) = refl
lone-tree l s k (w.For' bind a body at) = refl
lone-tree l s k (w.Clear place at) = refl
lone-tree l s k (w.Undefine place at) = refl
lone-tree l s k (w.Error at) = refl
lone-tree l s k (w.Assert test at) = refl
lone-tree l s k (w.Put None at) = refl
lone-tree l s k (w.Put (Some v) at) = refl
lone-tree l s k (w.Return v at) = lone-left l s k at v

abbrev alone : JudgedStmt → JudgedStmts
alone j = record { trees = j.tree ∷ []; weight = j.weight; fault = j.fault }

lone-is : (f : FoundStmts) (j : JudgedStmt) → f.trees ≡ first_tree f.trees ∷ [] → j ≡ judged_stmt f → alone j ≡ judged_stmts f
lone-is f j t h =
    ap alone h ∙ ap (λ ts. record { trees = ts; weight = stopped f.weight; fault = first_fault f.faults }) (sym t)

pub stmt-turn : (l : Leaving) (s : Scope) (k : Known) (one : Stmt) (j : JudgedStmt) (d : JudgedStmts) (rest : List Stmt) → j ≡ stmt_part (stmt_found l s k one) →
    stated (stated_by j d) (body_found l s (stmt_found l s k one).known rest) ≡ stated d (body_found l s k (one ∷ rest))
unfolding stmt_part
stmt-turn l s k one j d rest h =
    let f = stmt_found l s k one in
    stated-parts d (alone j) f (body_found l s f.known rest) (lone-is f j (lone-tree l s k one) h)

pub stmts-end : (d : JudgedStmts) (k : Known) (whole : FoundStmts) → stopped d.weight ≡ d.weight → stated d (no_stmts k) ≡ stated nothing_stated whole → (d ≡ stmts_part whole) × (k ≡ whole.known)
unfolding stmts_part
stmts-end d k whole w h =
    let n : d.weight + 0 ≡ d.weight = omega arith in
    let z : 0 + whole.weight ≡ whole.weight = omega arith in (
      ap (λ ts. record { trees = ts; weight = d.weight; fault = d.fault }) (sym (append-nil d.trees))
          ∙ ap (λ v. record { trees = d.trees ++ []; weight = v; fault = d.fault }) (sym (ap stopped n ∙ w))
          ∙ ap (λ o. record { trees = d.trees ++ []; weight = stopped (d.weight + 0); fault = o }) (sym (sooner-none d.fault))
          ∙ ap (λ (x : Stated). x.part) h
          ∙ ap (λ v. record { trees = whole.trees; weight = stopped v; fault = first_fault whole.faults }) z,
      ap (λ (x : Stated). x.known) h,
    )

-- Labels

abbrev labelled_whole : List x.Expr → ℕ → Option Fault → Known → Labelled
labelled_whole ts w o k = record { part = record { trees = ts; weight = w; fault = o }; known = k }

label-parts : (f : Found) (d : JudgedLabels) (g : FoundLabels) → labelled (labelled_by (judged f) d) g ≡ labelled d (label_made f g)
label-parts f d g =
    ap (λ ts. labelled_whole ts (stopped (stopped (d.weight + stopped f.weight) + g.weight)) (sooner (sooner d.fault (first_fault f.faults)) (first_fault g.faults)) g.known) (append_assoc d.trees (f.tree ∷ []) g.trees)
    ∙ ap (λ w. labelled_whole (d.trees ++ f.tree ∷ g.trees) w (sooner (sooner d.fault (first_fault f.faults)) (first_fault g.faults)) g.known) (weight-turn d.weight f.weight g.weight)
    ∙ ap (λ o. labelled_whole (d.trees ++ f.tree ∷ g.trees) (stopped (d.weight + (f.weight + g.weight))) o g.known) (fault-turn d.fault f.faults g.faults)

pub label-turn : (s : Scope) (k : Known) (on : Option AnyType) (one : Expr) (d : JudgedLabels) (rest : List Expr) →
    labelled (labelled_by (kept (fits (is_comparable on) (part_of (found s k one)).of) (place_of one) (part_of (found s k one))) d) (labels_found s (found s k one).known on rest) ≡ labelled d (labels_found s k on (one ∷ rest))
unfolding part_of
label-turn s k on one d rest =
    let f = found s k one in
    let F = wanted (is_comparable on) (place_of one) f in
    ap (λ j. labelled (labelled_by j d) (labels_found s f.known on rest)) (sym (kept-is (is_comparable on) (place_of one) f))
    ∙ label-parts F d (labels_found s f.known on rest)

pub labels-end : (d : JudgedLabels) (k : Known) (whole : FoundLabels) → stopped d.weight ≡ d.weight → labelled d (record { trees = []; weight = 0; known = k; faults = [] }) ≡ labelled nothing_labelled whole → (d ≡ labels_part whole) × (k ≡ whole.known)
unfolding labels_part
labels-end d k whole w h =
    let n : d.weight + 0 ≡ d.weight = omega arith in
    let z : 0 + whole.weight ≡ whole.weight = omega arith in (
      ap (λ ts. record { trees = ts; weight = d.weight; fault = d.fault }) (sym (append-nil d.trees))
          ∙ ap (λ v. record { trees = d.trees ++ []; weight = v; fault = d.fault }) (sym (ap stopped n ∙ w))
          ∙ ap (λ o. record { trees = d.trees ++ []; weight = stopped (d.weight + 0); fault = o }) (sym (sooner-none d.fault))
          ∙ ap (λ (x : Labelled). x.part) h
          ∙ ap (λ v. record { trees = whole.trees; weight = stopped v; fault = first_fault whole.faults }) z,
      ap (λ (x : Labelled). x.known) h,
    )

-- Tests

abbrev armed_whole : List Arm → ℕ → Option Fault → Known → Armed
armed_whole ts w o k = record { part = record { trees = ts; weight = w; fault = o }; known = k }

arm-parts : (f : Found) (b : FoundStmts) (d : JudgedArms) (g : FoundArms) → armed (armed_by (judged f) (judged_stmts b) d) g ≡ armed d (arm_made f b g)
arm-parts f b d g =
    let one : Arm = record { test = f.tree; body = b.trees } in
    ap (λ ts. armed_whole ts (stopped (stopped (d.weight + stopped (stopped f.weight + stopped b.weight)) + g.weight)) (sooner (sooner d.fault (sooner (first_fault f.faults) (first_fault b.faults))) (first_fault g.faults)) g.known) (append_assoc d.trees (one ∷ []) g.trees)
    ∙ ap (λ w. armed_whole (d.trees ++ one ∷ g.trees) w (sooner (sooner d.fault (sooner (first_fault f.faults) (first_fault b.faults))) (first_fault g.faults)) g.known) (weight-two d.weight f.weight b.weight g.weight)
    ∙ ap (λ o. armed_whole (d.trees ++ one ∷ g.trees) (stopped (d.weight + (f.weight + (b.weight + g.weight)))) o g.known) (fault-two d.fault f.faults b.faults g.faults)

pub arm-turn : (l : Leaving) (s : Scope) (k : Known) (one : written.Arm) (d : JudgedArms) (rest : List written.Arm) →
    armed (armed_by (kept (fits is_truth (part_of (found s k one.test)).of) (place_of one.test) (part_of (found s k one.test))) (stmts_part (body_found l s (found s k one.test).known one.body)) d) (list_arms l s (body_found l s (found s k one.test).known one.body).known rest) ≡ armed d (list_arms l s k (one ∷ rest))
unfolding part_of stmts_part
arm-turn l s k one d rest =
    let f = found s k one.test in
    let F = wanted is_truth (place_of one.test) f in
    let b = body_found l s f.known one.body in
    ap (λ j. armed (armed_by j (judged_stmts b) d) (list_arms l s b.known rest)) (sym (kept-is is_truth (place_of one.test) f))
    ∙ arm-parts F b d (list_arms l s b.known rest)

pub arms-end : (d : JudgedArms) (k : Known) (whole : FoundArms) → stopped d.weight ≡ d.weight → armed d (no_arms k) ≡ armed nothing_armed whole → (d ≡ arms_part whole) × (k ≡ whole.known)
unfolding arms_part
arms-end d k whole w h =
    let n : d.weight + 0 ≡ d.weight = omega arith in
    let z : 0 + whole.weight ≡ whole.weight = omega arith in (
      ap (λ ts. record { trees = ts; weight = d.weight; fault = d.fault }) (sym (append-nil d.trees))
          ∙ ap (λ v. record { trees = d.trees ++ []; weight = v; fault = d.fault }) (sym (ap stopped n ∙ w))
          ∙ ap (λ o. record { trees = d.trees ++ []; weight = stopped (d.weight + 0); fault = o }) (sym (sooner-none d.fault))
          ∙ ap (λ (x : Armed). x.part) h
          ∙ ap (λ v. record { trees = whole.trees; weight = stopped v; fault = first_fault whole.faults }) z,
      ap (λ (x : Armed). x.known) h,
    )

-- Cases

abbrev cased_whole : List Case → ℕ → Option Fault → Known → Cased
cased_whole ts w o k = record { part = record { trees = ts; weight = w; fault = o }; known = k }

case-parts : (f : FoundLabels) (b : FoundStmts) (d : JudgedCases) (g : FoundCases) → cased (cased_by (judged_labels f) (judged_stmts b) d) g ≡ cased d (case_made f b g)
case-parts f b d g =
    let one : Case = record { labels = f.trees; body = b.trees } in
    ap (λ ts. cased_whole ts (stopped (stopped (d.weight + stopped (stopped f.weight + stopped b.weight)) + g.weight)) (sooner (sooner d.fault (sooner (first_fault f.faults) (first_fault b.faults))) (first_fault g.faults)) g.known) (append_assoc d.trees (one ∷ []) g.trees)
    ∙ ap (λ w. cased_whole (d.trees ++ one ∷ g.trees) w (sooner (sooner d.fault (sooner (first_fault f.faults) (first_fault b.faults))) (first_fault g.faults)) g.known) (weight-two d.weight f.weight b.weight g.weight)
    ∙ ap (λ o. cased_whole (d.trees ++ one ∷ g.trees) (stopped (d.weight + (f.weight + (b.weight + g.weight)))) o g.known) (fault-two d.fault f.faults b.faults g.faults)

pub case-turn : (l : Leaving) (s : Scope) (k : Known) (on : Option AnyType) (one : ways.Case) (d : JudgedCases) (rest : List ways.Case) →
    cased (cased_by (labels_part (labels_found s k on one.labels)) (stmts_part (body_found l s (labels_found s k on one.labels).known one.body)) d) (list_cases l s (body_found l s (labels_found s k on one.labels).known one.body).known on rest) ≡ cased d (list_cases l s k on (one ∷ rest))
unfolding labels_part stmts_part
case-turn l s k on one d rest =
    let f = labels_found s k on one.labels in
    let b = body_found l s f.known one.body in
    case-parts f b d (list_cases l s b.known on rest)

pub cases-end : (d : JudgedCases) (k : Known) (whole : FoundCases) → stopped d.weight ≡ d.weight → cased d (no_cases k) ≡ cased nothing_cased whole → (d ≡ cases_part whole) × (k ≡ whole.known)
unfolding cases_part
cases-end d k whole w h =
    let n : d.weight + 0 ≡ d.weight = omega arith in
    let z : 0 + whole.weight ≡ whole.weight = omega arith in (
      ap (λ ts. record { trees = ts; weight = d.weight; fault = d.fault }) (sym (append-nil d.trees))
          ∙ ap (λ v. record { trees = d.trees ++ []; weight = v; fault = d.fault }) (sym (ap stopped n ∙ w))
          ∙ ap (λ o. record { trees = d.trees ++ []; weight = stopped (d.weight + 0); fault = o }) (sym (sooner-none d.fault))
          ∙ ap (λ (x : Cased). x.part) h
          ∙ ap (λ v. record { trees = whole.trees; weight = stopped v; fault = first_fault whole.faults }) z,
      ap (λ (x : Cased). x.known) h,
    )
