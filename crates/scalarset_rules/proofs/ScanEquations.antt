-- The breaks of single statements, in terms of the parts that code reads.
use Rattle.std.proofs.Common.{◌≡◌, ℕ, zero, suc, arith, ◌+◌, ◌<◌, length, drop, Bool, false, ◌||◌, List, [], ◌∷◌, ◌++◌, Option, None, refl, sym, ap, ◌∙◌, append_assoc}
use Rattle.std.specs.Prelude.{slice_index_or}
use Rattle.std.specs.List.{flat_map}
use denote.Hole.Carrier.{hidden}
use Rattle.murphi_ast.specs.declared.token.Span.{Span}
use Rattle.murphi_typed.specs.declared.types.Simple.{Simple}
use Rattle.murphi_typed.specs.declared.types.Field.{Field}
use Rattle.murphi_typed.specs.declared.types.AnyType as t
use Rattle.murphi_typed.specs.declared.types.AnyType.{AnyType, Row_of-Field, end_of-Field, more_of-Field, items-the_row-Field, items_hidden-the_row-Field-0, the_lemmas as type_lemmas}
use Rattle.murphi_typed.specs.declared.types.AnyType.TheBlock.{shape-the_row-AnyType-1, hidden-the_row-AnyType-1, hidden-the_row-Field-0}
use Rattle.murphi_typed.specs.declared.expr.Expr.{Expr}
use Rattle.murphi_typed.specs.declared.expr.Arguments.{Arguments}
use Rattle.murphi_typed.specs.declared.expr.Designator.{Designator}
use Rattle.murphi_typed.specs.declared.stmt.Arm.{Arm}
use Rattle.murphi_typed.specs.declared.stmt.Case.{Case}
use Rattle.murphi_typed.specs.declared.stmt.Stmt as s
use Rattle.murphi_typed.specs.declared.stmt.Stmt.{Stmt, Row_of-Stmt, end_of-Stmt, more_of-Stmt, Row_of-Arm, end_of-Arm, more_of-Arm, Row_of-Case, end_of-Case, more_of-Case, items-the_row-Stmt, items-the_row-Arm, items-the_row-Case, items_hidden-the_row-Stmt-0, items_hidden-the_row-Arm-1, items_hidden-the_row-Case-2, items_shown-the_row-Stmt-0, the_lemmas}
use Rattle.murphi_typed.specs.declared.stmt.Stmt.TheBlock.{shown-the_row-Stmt-0, hidden-the_row-Stmt-0, hidden-the_row-Arm-1, hidden-the_row-Case-2}
use Rattle.murphi_typed.specs.Prefix.{is_over_nodes}
use Rattle.scalarset_rules.specs.declared.scan.Want.{Want}
use Rattle.scalarset_rules.specs.Rules.{Break, is_scalarset_type, holds_scalarset, row_holds, Standing, inner_statements, row_statements, arm_statements, case_statements, sooner, first_break}
use Rattle.scalarset_rules.specs.Scanning.{list_holds, wanted, found, own_break, first_inner, first_all, first_arms, first_cases, first_in_body}
use Rattle.scalarset_rules.proofs.JudgeEquations.{sooner_none, sooner_on, first_joined, drop_item}

-- Folds of breaks

pub fold_step : {A : Type 0} (f : A → Option Break) (fold : List A → Option Break) → ((x : A) (xs : List A) → fold (x ∷ xs) ≡ sooner (f x) (fold xs)) → (all : List A) (i : ℕ) (x : A) (first more now : Option Break)
    → i < length all → x ≡ slice_index_or all i x → now ≡ sooner first more → more ≡ f x → sooner first (fold (drop i all)) ≡ fold all → sooner now (fold (drop (i + 1) all)) ≡ fold all
fold_step f fold opens all i x first more now low item step is before =
    ap (λ o. sooner o (fold (drop (i + 1) all))) (step ∙ ap (sooner first) is)
    ∙ sooner_on first (f x) (fold (drop (i + 1) all))
    ∙ ap (sooner first) (sym (opens x (drop (i + 1) all)))
    ∙ sym (ap (λ xs. sooner first (fold xs)) (drop_item all i x low item)) ∙ before

-- within a list no item is missing
pub item_there : {A : Type 0} (xs : List A) (i : ℕ) (d e : A) → i < length xs → slice_index_or xs i d ≡ slice_index_or xs i e
item_there [] i d e low = absurd (omega (arith, low))
item_there (x ∷ xs) zero d e low = refl
item_there (x ∷ xs) (suc i) d e low = item_there xs i d e (omega (arith, low))

founds_joined : (w : Want) (xs ys : List Standing) → flat_map (found w) (xs ++ ys) ≡ flat_map (found w) xs ++ flat_map (found w) ys
founds_joined w [] ys = refl
founds_joined w (x ∷ xs) ys = ap (λ zs. found w x ++ zs) (founds_joined w xs ys) ∙ sym (append_assoc (found w x) (flat_map (found w) xs) (flat_map (found w) ys))

first_founds : (w : Want) (xs ys : List Standing) → first_break (flat_map (found w) (xs ++ ys)) ≡ sooner (first_break (flat_map (found w) xs)) (first_break (flat_map (found w) ys))
first_founds w xs ys = ap first_break (founds_joined w xs ys) ∙ first_joined (flat_map (found w) xs) (flat_map (found w) ys)

pub body-Is : (w : Want) (body : Stmt) → first_in_body w body ≡ sooner (own_break w false body) (first_inner w false body)
body-Is w body = first_joined (wanted w false body) (flat_map (found w) (inner_statements false body))

-- Types

row_holds_is : {n : _} (row : Row_of-Field n) → row_holds row ≡ list_holds (items-the_row-Field n row)
unfolding holds_scalarset
row_holds_is end_of-Field = refl
row_holds_is (more_of-Field name type rest) = ap (λ b. holds_scalarset type || b) (row_holds_is rest)

pub holds-Simple : (type : Simple) → holds_scalarset (t.Simple type) ≡ is_scalarset_type type
unfolding holds_scalarset
holds-Simple type = refl

pub holds-Record : (fields : List Field) → holds_scalarset (t.Record fields) ≡ list_holds fields
unfolding holds_scalarset hidden-the_row-Field-0 hidden
holds-Record fields = row_holds_is (hidden-the_row-Field-0 fields) ∙ ap list_holds (items_hidden-the_row-Field-0 fields)

pub holds-Array : (index : Simple) (item : AnyType) → holds_scalarset (t.Array index item) ≡ holds_scalarset item
unfolding holds_scalarset shape-the_row-AnyType-1 hidden-the_row-AnyType-1 hidden
holds-Array index item = refl

-- Statements

row_first : {n : _} (w : Want) (inside : Bool) (row : Row_of-Stmt n) → first_break (flat_map (found w) (row_statements inside row)) ≡ first_all w inside (items-the_row-Stmt n row)
unfolding inner_statements
row_first w inside end_of-Stmt = refl
row_first w inside (more_of-Stmt first rest) =
    first_founds w (record { inside = inside; statement = first } ∷ inner_statements inside first) (row_statements inside rest)
    ∙ ap (λ o. sooner o (first_break (flat_map (found w) (row_statements inside rest)))) (first_joined (wanted w inside first) (flat_map (found w) (inner_statements inside first)))
    ∙ ap (sooner (sooner (own_break w inside first) (first_inner w inside first))) (row_first w inside rest)

arms_first : {n : _} (w : Want) (inside : Bool) (row : Row_of-Arm n) → first_break (flat_map (found w) (arm_statements inside row)) ≡ first_arms w inside (items-the_row-Arm n row)
unfolding inner_statements
arms_first w inside end_of-Arm = refl
arms_first w inside (more_of-Arm test sh body rest) =
    first_founds w (row_statements inside body) (arm_statements inside rest)
    ∙ ap (λ o. sooner o (first_break (flat_map (found w) (arm_statements inside rest)))) (row_first w inside body ∙ ap (first_all w inside) (sym (items_shown-the_row-Stmt-0 sh body)))
    ∙ ap (sooner (first_all w inside (shown-the_row-Stmt-0 sh body))) (arms_first w inside rest)

cases_first : {n : _} (w : Want) (inside : Bool) (row : Row_of-Case n) → first_break (flat_map (found w) (case_statements inside row)) ≡ first_cases w inside (items-the_row-Case n row)
unfolding inner_statements
cases_first w inside end_of-Case = refl
cases_first w inside (more_of-Case labels sh body rest) =
    first_founds w (row_statements inside body) (case_statements inside rest)
    ∙ ap (λ o. sooner o (first_break (flat_map (found w) (case_statements inside rest)))) (row_first w inside body ∙ ap (first_all w inside) (sym (items_shown-the_row-Stmt-0 sh body)))
    ∙ ap (sooner (first_all w inside (shown-the_row-Stmt-0 sh body))) (cases_first w inside rest)

shown_all : (w : Want) (inside : Bool) (body : List Stmt) → first_break (flat_map (found w) (row_statements inside (hidden-the_row-Stmt-0 body))) ≡ first_all w inside body
shown_all w inside body = row_first w inside (hidden-the_row-Stmt-0 body) ∙ ap (first_all w inside) (items_hidden-the_row-Stmt-0 body)

pub inner-Block : (w : Want) (inside : Bool) (body : List Stmt) → first_inner w inside (s.Block body) ≡ first_all w inside body
unfolding inner_statements hidden-the_row-Stmt-0 hidden
inner-Block w inside body = shown_all w inside body

pub inner-If : (w : Want) (inside : Bool) (arms : List Arm) (otherwise : List Stmt) (at : Span) → first_inner w inside (s.If arms otherwise at) ≡ sooner (first_arms w inside arms) (first_all w inside otherwise)
unfolding inner_statements hidden-the_row-Stmt-0 hidden-the_row-Arm-1 hidden
inner-If w inside arms otherwise at =
    first_founds w (arm_statements inside (hidden-the_row-Arm-1 arms)) (row_statements inside (hidden-the_row-Stmt-0 otherwise))
    ∙ ap (λ o. sooner o (first_break (flat_map (found w) (row_statements inside (hidden-the_row-Stmt-0 otherwise))))) (arms_first w inside (hidden-the_row-Arm-1 arms) ∙ ap (first_arms w inside) (items_hidden-the_row-Arm-1 arms))
    ∙ ap (sooner (first_arms w inside arms)) (shown_all w inside otherwise)

pub inner-Switch : (w : Want) (inside : Bool) (on : Expr) (cases : List Case) (otherwise : List Stmt) (at : Span) → first_inner w inside (s.Switch on cases otherwise at) ≡ sooner (first_cases w inside cases) (first_all w inside otherwise)
unfolding inner_statements hidden-the_row-Stmt-0 hidden-the_row-Case-2 hidden
inner-Switch w inside on cases otherwise at =
    first_founds w (case_statements inside (hidden-the_row-Case-2 cases)) (row_statements inside (hidden-the_row-Stmt-0 otherwise))
    ∙ ap (λ o. sooner o (first_break (flat_map (found w) (row_statements inside (hidden-the_row-Stmt-0 otherwise))))) (cases_first w inside (hidden-the_row-Case-2 cases) ∙ ap (first_cases w inside) (items_hidden-the_row-Case-2 cases))
    ∙ ap (sooner (first_cases w inside cases)) (shown_all w inside otherwise)

pub inner-For : (w : Want) (inside : Bool) (over : Simple) (body : List Stmt) (at : Span) → first_inner w inside (s.For over body at) ≡ first_all w (inside || is_over_nodes over) body
unfolding inner_statements hidden-the_row-Stmt-0 hidden
inner-For w inside over body at = shown_all w (inside || is_over_nodes over) body

pub inner-Assign : (w : Want) (inside : Bool) (to : Designator) (into : Simple) (e : Expr) → first_inner w inside (s.Assign to into e) ≡ None
unfolding inner_statements
inner-Assign w inside to into e = refl

pub inner-Copy : (w : Want) (inside : Bool) (to : Designator) (into : Simple) (from : Designator) → first_inner w inside (s.Copy to into from) ≡ None
unfolding inner_statements
inner-Copy w inside to into from = refl

pub inner-CopyAll : (w : Want) (inside : Bool) (to from : Designator) → first_inner w inside (s.CopyAll to from) ≡ None
unfolding inner_statements
inner-CopyAll w inside to from = refl

pub inner-Call : (w : Want) (inside : Bool) (k : ℕ) (args : Arguments) (at : Span) → first_inner w inside (s.Call k args at) ≡ None
unfolding inner_statements
inner-Call w inside k args at = refl

pub inner-Clear : (w : Want) (inside : Bool) (place : Designator) (type : AnyType) (at : Span) → first_inner w inside (s.Clear place type at) ≡ None
unfolding inner_statements
inner-Clear w inside place type at = refl

pub inner-Undefine : (w : Want) (inside : Bool) (place : Designator) (at : Span) → first_inner w inside (s.Undefine place at) ≡ None
unfolding inner_statements
inner-Undefine w inside place at = refl

pub inner-Error : (w : Want) (inside : Bool) (at : Span) → first_inner w inside (s.Error at) ≡ None
unfolding inner_statements
inner-Error w inside at = refl

pub inner-Assert : (w : Want) (inside : Bool) (e : Expr) (at : Span) → first_inner w inside (s.Assert e at) ≡ None
unfolding inner_statements
inner-Assert w inside e at = refl

pub inner-PutText : (w : Want) (inside : Bool) (at : Span) → first_inner w inside (s.PutText at) ≡ None
unfolding inner_statements
inner-PutText w inside at = refl

pub inner-Put : (w : Want) (inside : Bool) (e : Expr) (at : Span) → first_inner w inside (s.Put e at) ≡ None
unfolding inner_statements
inner-Put w inside e at = refl

pub inner-Leave : (w : Want) (inside : Bool) (at : Span) → first_inner w inside (s.Leave at) ≡ None
unfolding inner_statements
inner-Leave w inside at = refl

pub inner-Return : (w : Want) (inside : Bool) (e : Expr) (at : Span) → first_inner w inside (s.Return e at) ≡ None
unfolding inner_statements
inner-Return w inside e at = refl

pub ruleset scanning = (sooner_none, body-Is, holds-Simple, holds-Record, holds-Array, inner-Block, inner-If, inner-Switch, inner-For, inner-Assign, inner-Copy, inner-CopyAll, inner-Call, inner-Clear, inner-Undefine, inner-Error, inner-Assert, inner-PutText, inner-Put, inner-Leave, inner-Return, the_lemmas, type_lemmas)
