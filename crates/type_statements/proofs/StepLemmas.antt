-- What code gives of a statement, from what it gives of the parts.
use Rattle.std.proofs.Common.{◌≡◌, ℕ, suc, ◌+◌, ◌*◌, Bool, ◌||◌, not, List, ◌++◌, length, Option, refl, ap, sym, ◌∙◌}
use Rattle.std.specs.Prelude.{if◌then◌else◌}
use Rattle.murphi_ast.specs.declared.token.Span.{Span}
use Rattle.murphi_typed.specs.declared.expr.Root.TheVariants as root
use Rattle.murphi_typed.specs.declared.expr.Arguments as a
use Rattle.murphi_typed.specs.declared.stmt.Stmt as s
use Rattle.murphi_typed.specs.declared.stmt.Stmt.{Stmt}
use Rattle.murphi_types.specs.declared.fault.Cause.TheVariants as cause
use Rattle.murphi_types.specs.declared.fault.Fault.{Fault}
use Rattle.murphi_types.specs.declared.scope.Known.{Known}
use Rattle.murphi_types.specs.Faults.{sooner, first_fault, unless}
use Rattle.murphi_types.specs.Weights.{stopped, turns_of}
use Rattle.murphi_types.specs.Fitting.{fits, is_simple, simple_part}
use Rattle.murphi_types.specs.Found.{Found}
use Rattle.murphi_types.specs.Designators.{FoundPlace, designator_of, read_tree}
use Rattle.murphi_types.specs.Designators as place
use Rattle.murphi_types.specs.Calls.{Callee, FoundArguments, count_fits}
use Rattle.murphi_types.specs.Calls as calls
use Rattle.murphi_types.specs.Types.{FoundType}
use Rattle.murphi_types.specs.Statements.{FoundStmts, FoundArms, FoundCases, one_stmt, write_faults, goes_into, simple_or, type_or, statement_faults, cleared, undefined, called, if_made, switch_made, for_made, asserted, shown, returned}
use Rattle.murphi_types.specs.Statements as stmt
use Rattle.type_parts.specs.Judging.{own, judged}
use Rattle.type_parts.proofs.FaultLemmas.{first-append, first-unless}
use Rattle.type_parts.proofs.WeightLemmas.{stopped-suc, stopped-left}
use Rattle.type_forms.specs.Designating.{started, judged_place}
use Rattle.type_forms.specs.Calling.{judged_callee, judged_arguments}
use Rattle.type_forms.specs.Writing.{judged_type}
use Rattle.type_expressions.proofs.PartLemmas.{pair-weight, triple-weight, stopped-times, first-wanted, first-three}
use Rattle.type_statements.specs.declared.judged.JudgedStmt.{JudgedStmt}
use Rattle.type_statements.specs.Stating.{judged_stmt, judged_stmts, judged_arms, judged_cases, one_judged, write_fault, target_of, target, copy_of, copied_judged, stored_judged, cleared_judged, undefined_judged, called_judged, asserted_judged, shown_judged, returned_judged, if_judged, switch_judged, for_judged}

abbrev one_whole : Stmt → ℕ → Option Fault → JudgedStmt
one_whole tree w o = record { tree = tree; weight = w; fault = o }

one-is : (t t' : Stmt) (m m' : ℕ) (k : Known) (fs : List Fault) (o : Option Fault) → t ≡ t' → stopped (suc m) ≡ stopped (suc m') → first_fault fs ≡ o → judged_stmt (one_stmt t m k fs) ≡ one_judged t' m' o
one-is t t' m m' k fs o p q r =
    ap (λ x. one_whole x (stopped (suc m)) (first_fault fs)) p
    ∙ ap (λ x. one_whole t' x (first_fault fs)) q
    ∙ ap (one_whole t' (stopped (suc m'))) r

-- Writes

write-cases : (b : Bool) (at at' : Span) (first : place.Start) → sooner (own (calls.may_write first) cause.E14 at') (own (not b || not (stmt.is_global first)) cause.E10 at) ≡ write_fault b at at' (started first)
write-cases b at at' (place.Rooted (root.Global k)) = refl
write-cases b at at' (place.Rooted (root.Local k)) = refl
write-cases b at at' (place.Rooted (root.Formal k)) = refl
write-cases b at at' (place.Rooted (root.Place k)) = refl
write-cases b at at' (place.Fixed tree) = refl
write-cases b at at' place.Nowhere = refl

pub write-is : (b : Bool) (at : Span) (p : FoundPlace) → first_fault (write_faults b at p) ≡ write_fault b at p.at (started p.start)
write-is b at p =
    let may = calls.may_write p.start in
    let local = not b || not (stmt.is_global p.start) in
    first-wanted (unless may cause.E14 p.at) local cause.E10 at
    ∙ ap (λ o. sooner o (own local cause.E10 at)) (first-unless may cause.E14 p.at)
    ∙ write-cases b at p.at p.start

target-cases : (p : FoundPlace) (first : place.Start) → stmt.target_of p first ≡ target_of (started first) p.selectors p.at
target-cases p (place.Rooted root) = refl
target-cases p (place.Fixed tree) = refl
target-cases p place.Nowhere = refl

pub target-is : (p : FoundPlace) → stmt.target p ≡ target (judged_place p)
target-is p = target-cases p p.start

copy-cases : (p q : FoundPlace) (first : place.Start) → stmt.copy_of p q first ≡ copy_of (target (judged_place p)) (fits is_simple p.type) (simple_or p.type) (started first) q.selectors q.at
copy-cases p q (place.Rooted root) =
    ap (λ t. if fits is_simple p.type then s.Copy t (simple_or p.type) (designator_of root q) else s.CopyAll t (designator_of root q)) (target-is p)
copy-cases p q (place.Fixed tree) = ap (λ t. s.Assign t (simple_or p.type) tree) (target-is p)
copy-cases p q place.Nowhere = ap (λ t. s.Assign t (simple_or p.type) (read_tree q place.Nowhere)) (target-is p)

-- what is wrong with an assignment
right-is : (b : Bool) (p : FoundPlace) (fs : List Fault) (fit : Bool) (at : Span) → first_fault (p.faults ++ (write_faults b p.at p ++ (fs ++ unless fit cause.E07 at))) ≡ sooner (first_fault p.faults) (sooner (write_fault b p.at p.at (started p.start)) (sooner (first_fault fs) (own fit cause.E07 at)))
right-is b p fs fit at =
    first-three p.faults (write_faults b p.at p) (fs ++ unless fit cause.E07 at)
    ∙ ap (λ o. sooner (first_fault p.faults) (sooner o (first_fault (fs ++ unless fit cause.E07 at)))) (write-is b p.at p)
    ∙ ap (λ o. sooner (first_fault p.faults) (sooner (write_fault b p.at p.at (started p.start)) o)) (first-wanted fs fit cause.E07 at)

pub copied-is : (b : Bool) (p q : FoundPlace) → judged_stmt (stmt.copied b p q) ≡ copied_judged b (judged_place p) (judged_place q)
copied-is b p q =
    let fit = fits (goes_into p.type) q.type in
    one-is (stmt.copy_of p q q.start) (copy_of (target (judged_place p)) (fits is_simple p.type) (simple_or p.type) (started q.start) q.selectors q.at)
    (p.weight + q.weight) (stopped (stopped p.weight + stopped q.weight)) q.known
    (p.faults ++ (write_faults b p.at p ++ (q.faults ++ unless fit cause.E07 q.at)))
    (sooner (first_fault p.faults) (sooner (write_fault b p.at p.at (started p.start)) (sooner (first_fault q.faults) (own fit cause.E07 q.at))))
    (copy-cases p q q.start) (pair-weight p.weight q.weight) (right-is b p q.faults fit q.at)

pub stored-is : (b : Bool) (at : Span) (p : FoundPlace) (f : Found) → judged_stmt (stmt.stored b at p f) ≡ stored_judged b at (judged_place p) (judged f)
stored-is b at p f =
    let fit = fits (goes_into p.type) f.type in
    one-is (s.Assign (stmt.target p) (simple_or p.type) f.tree) (s.Assign (target (judged_place p)) (simple_or p.type) f.tree)
    (p.weight + f.weight) (stopped (stopped p.weight + stopped f.weight)) f.known
    (p.faults ++ (write_faults b p.at p ++ (f.faults ++ unless fit cause.E07 at)))
    (sooner (first_fault p.faults) (sooner (write_fault b p.at p.at (started p.start)) (sooner (first_fault f.faults) (own fit cause.E07 at))))
    (ap (λ t. s.Assign t (simple_or p.type) f.tree) (target-is p)) (pair-weight p.weight f.weight) (right-is b p f.faults fit at)

place-fault : (b : Bool) (at : Span) (p : FoundPlace) → first_fault (p.faults ++ write_faults b at p) ≡ sooner (first_fault p.faults) (write_fault b at p.at (started p.start))
place-fault b at p = first-append p.faults (write_faults b at p) ∙ ap (sooner (first_fault p.faults)) (write-is b at p)

pub cleared-is : (b : Bool) (at : Span) (p : FoundPlace) → judged_stmt (cleared b at p) ≡ cleared_judged b at (judged_place p)
cleared-is b at p =
    one-is (s.Clear (stmt.target p) (type_or p.type) at) (s.Clear (target (judged_place p)) (type_or p.type) at)
    p.weight (stopped p.weight) p.known (p.faults ++ write_faults b at p)
    (sooner (first_fault p.faults) (write_fault b at p.at (started p.start)))
    (ap (λ t. s.Clear t (type_or p.type) at) (target-is p)) (sym (stopped-suc p.weight)) (place-fault b at p)

pub undefined-is : (b : Bool) (at : Span) (p : FoundPlace) → judged_stmt (undefined b at p) ≡ undefined_judged b at (judged_place p)
undefined-is b at p =
    one-is (s.Undefine (stmt.target p) at) (s.Undefine (target (judged_place p)) at)
    p.weight (stopped p.weight) p.known (p.faults ++ write_faults b at p)
    (sooner (first_fault p.faults) (write_fault b at p.at (started p.start)))
    (ap (λ t. s.Undefine t at) (target-is p)) (sym (stopped-suc p.weight)) (place-fault b at p)

-- Calls

pub called-is : (b : Bool) (at : Span) (c : Callee) (g : FoundArguments) → judged_stmt (called b at c g) ≡ called_judged b at (judged_callee c) (judged_arguments g)
called-is b at c g =
    let fit = count_fits c.routine (length g.trees) in
    let ss = statement_faults b at c.routine in
    let tree = s.Call c.number (a.Of g.trees) at in
    one-is tree tree (g.weight + c.weight) (stopped (stopped g.weight + c.weight)) g.known
    (c.faults ++ (ss ++ (unless fit cause.E11 at ++ g.faults)))
    (sooner (first_fault c.faults) (sooner (first_fault ss) (sooner (own fit cause.E11 at) (first_fault g.faults))))
    refl
    (sym (ap (λ w. stopped (suc w)) (stopped-left g.weight c.weight) ∙ stopped-suc (g.weight + c.weight)))
    (first-append c.faults (ss ++ (unless fit cause.E11 at ++ g.faults))
    ∙ ap (sooner (first_fault c.faults)) (first-three ss (unless fit cause.E11 at) g.faults
    ∙ ap (λ o. sooner (first_fault ss) (sooner o (first_fault g.faults))) (first-unless fit cause.E11 at)))

-- Single words

pub asserted-is : (at : Span) (f : Found) → judged_stmt (asserted at f) ≡ asserted_judged at (judged f)
asserted-is at f =
    one-is (s.Assert f.tree at) (s.Assert f.tree at) f.weight (stopped f.weight) f.known f.faults (first_fault f.faults) refl (sym (stopped-suc f.weight)) refl

pub shown-is : (at : Span) (f : Found) → judged_stmt (shown at f) ≡ shown_judged at (judged f)
shown-is at f =
    one-is (s.Put f.tree at) (s.Put f.tree at) f.weight (stopped f.weight) f.known f.faults (first_fault f.faults) refl (sym (stopped-suc f.weight)) refl

pub returned-is : (at : Span) (f : Found) → judged_stmt (returned at f) ≡ returned_judged at (judged f)
returned-is at f =
    one-is (s.Return f.tree at) (s.Return f.tree at) f.weight (stopped f.weight) f.known f.faults (first_fault f.faults) refl (sym (stopped-suc f.weight)) refl

-- Choices and loops

pub if-is : (at : Span) (f : FoundArms) (g : FoundStmts) → judged_stmt (if_made at f g) ≡ if_judged at (judged_arms f) (judged_stmts g)
if-is at f g =
    let tree = s.If f.trees g.trees at in
    one-is tree tree (f.weight + g.weight) (stopped (stopped f.weight + stopped g.weight)) g.known (f.faults ++ g.faults)
    (sooner (first_fault f.faults) (first_fault g.faults)) refl (pair-weight f.weight g.weight) (first-append f.faults g.faults)

pub switch-is : (at : Span) (f : Found) (g : FoundCases) (h : FoundStmts) → judged_stmt (switch_made at f g h) ≡ switch_judged at (judged f) (judged_cases g) (judged_stmts h)
switch-is at f g h =
    let tree = s.Switch f.tree g.trees h.trees at in
    one-is tree tree (f.weight + (g.weight + h.weight)) (stopped (stopped f.weight + stopped (stopped g.weight + stopped h.weight))) h.known (f.faults ++ (g.faults ++ h.faults))
    (sooner (first_fault f.faults) (sooner (first_fault g.faults) (first_fault h.faults))) refl (triple-weight f.weight g.weight h.weight) (first-three f.faults g.faults h.faults)

pub for-is : (at : Span) (f : FoundType) (g : FoundStmts) → judged_stmt (for_made at f g) ≡ for_judged at (judged_type f) (judged_stmts g)
for-is at f g =
    let n = turns_of (simple_part f.type) in
    let tree = s.For (simple_or f.type) g.trees at in
    one-is tree tree (n * g.weight) (stopped (n * stopped g.weight)) g.known (f.faults ++ g.faults)
    (sooner (first_fault f.faults) (first_fault g.faults)) refl
    (sym (ap (λ w. stopped (suc w)) (stopped-times n g.weight) ∙ stopped-suc (n * g.weight)))
    (first-append f.faults g.faults)
