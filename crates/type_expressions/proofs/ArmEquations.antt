-- What code gives of each form, from what it gives of the parts; and what is declared after it.
use Rattle.std.proofs.Common.{◌≡◌, ℕ, Bool, true, false, List, [], ◌∷◌, Option, None, Some, refl, ap, sym, ◌∙◌}
use denote.Hole.Carrier.{hidden}
use Rattle.murphi_ast.specs.declared.token.Span.{Span}
use Rattle.murphi_ast.specs.declared.expr.Named.{Named}
use Rattle.murphi_ast.specs.declared.expr.CompareOp.{CompareOp}
use Rattle.murphi_ast.specs.declared.expr.Bind.{Bind}
use Rattle.murphi_ast.specs.declared.expr.Link.{Link}
use Rattle.murphi_ast.specs.declared.expr.FieldDecl.{FieldDecl}
use Rattle.murphi_ast.specs.declared.expr.Designator.{Designator}
use Rattle.murphi_ast.specs.declared.expr.Expr as e
use Rattle.murphi_ast.specs.declared.expr.Expr.{Expr, the_lemmas}
use Rattle.murphi_ast.specs.declared.expr.TypeExpr as w
use Rattle.murphi_ast.specs.declared.expr.TypeExpr.{TypeExpr, items_hidden-the_row-FieldDecl-5}
use Rattle.murphi_ast.specs.declared.expr.Expr.TheBlock.{shape-the_row-Expr-2, hidden-the_row-Expr-2, hidden-the_row-Link-3, hidden-the_row-Selector-0, hidden-the_row-Expr-1, shape-the_row-Bind-4, hidden-the_row-Bind-4, shape-the_row-TypeExpr-6, hidden-the_row-TypeExpr-6, hidden-the_row-FieldDecl-5}
use Rattle.murphi_typed.specs.declared.types.Simple.{Simple}
use Rattle.murphi_typed.specs.declared.types.Simple.TheVariants as simple
use Rattle.murphi_typed.specs.declared.types.AnyType as t
use Rattle.murphi_types.specs.declared.scope.Known.{Known}
use Rattle.murphi_types.specs.declared.scope.Scope.{Scope}
use Rattle.murphi_types.specs.Places.{place_of, type_place_of}
use Rattle.murphi_types.specs.Scopes.{looked, binding}
use Rattle.murphi_types.specs.Fitting.{fits, is_truth, is_number, is_equality, has_values_of, left_fits, right_fits, simple_part}
use Rattle.murphi_types.specs.Constants.{is_constant}
use Rattle.murphi_types.specs.Found.{Found, FoundLinks, wanted, chain_found, parts_found}
use Rattle.murphi_types.specs.Designators.{FoundSelectors, start_type, place_made, read_found, undefined_found}
use Rattle.murphi_types.specs.Calls.{callee_of, formals_of, call_found, FoundArguments}
use Rattle.murphi_types.specs.Types.{FoundType, FoundFields, Unnamed, number_found, named_type, enum_found, simple_wanted, scalarset_type, record_found}
use Rattle.murphi_types.specs.Typing.{found, type_found, chain_operands, selectors_found}
use Rattle.murphi_types.specs.Lists.{list_selectors, list_arguments, place_found}
use Rattle.type_parts.specs.declared.judged.Judged.{Judged}
use Rattle.type_parts.specs.Judging.{kept, judged, judged_links, not_judged, minus_judged, implies_judged, compare_judged, compared_judged, choice_judged, chosen_judged, chain_judged}
use Rattle.type_forms.specs.Designating.{begun, placed_judged, read_judged, undefined_judged}
use Rattle.type_forms.specs.Calling.{formals_in, judged_callee, call_judged}
use Rattle.type_forms.specs.Writing.{judged_type, judged_chosen, range_judged, simply, array_judged, scalarset_judged, record_judged, quantified_judged}
use Rattle.type_forms.specs.declared.written.Naming.TheVariants as naming
use Rattle.type_expressions.specs.PartLists.{list_operands, list_links, list_fields, literal_number, literal_truth}
use Rattle.type_expressions.specs.PartsGiven.{part_of, links_of, selectors_of, place_part, arguments_of, type_part, number_part, fields_part, designated, call_part}
use Rattle.type_expressions.proofs.PartLemmas.{kept-is, not-is, minus-is, implies-is, compare-is, choice-is, chain-is, read-is, undefined-is, place-is, call-is, range-is, simple-is, array-is, scalarset-is, quantified-is}
use Rattle.type_expressions.proofs.ConstantFolds.{arm-number}
use Rattle.type_expressions.proofs.ListEquations.{operands-are, links-are, selectors-are, arguments-are, row_fields_is}

-- Literals

pub arm-Number : (s : Scope) (k : Known) (n : ℕ) (at : Span) → part_of (found s k (e.Number n at)) ≡ literal_number n
unfolding found part_of
arm-Number s k n at = refl

pub known-Number : (s : Scope) (k : Known) (n : ℕ) (at : Span) → (found s k (e.Number n at)).known ≡ k
unfolding found
known-Number s k n at = refl

pub arm-Truth : (s : Scope) (k : Known) (b : Bool) (at : Span) → part_of (found s k (e.Truth b at)) ≡ literal_truth b
unfolding found part_of
arm-Truth s k b at = refl

pub known-Truth : (s : Scope) (k : Known) (b : Bool) (at : Span) → (found s k (e.Truth b at)).known ≡ k
unfolding found
known-Truth s k b at = refl

-- Operators

pub arm-wanted-truth : (at : Span) (f : Found) → part_of (wanted is_truth at f) ≡ kept (fits is_truth (part_of f).of) at (part_of f)
unfolding part_of
arm-wanted-truth at f = kept-is is_truth at f

pub arm-Not : (s : Scope) (k : Known) (b : Expr) (at : Span) → part_of (found s k (e.Not b at)) ≡ not_judged (kept (fits is_truth (part_of (found s k b)).of) (place_of b) (part_of (found s k b)))
unfolding found part_of shape-the_row-Expr-2 hidden-the_row-Expr-2 hidden
arm-Not s k b at = not-is (wanted is_truth (place_of b) (found s k b)) ∙ ap not_judged (kept-is is_truth (place_of b) (found s k b))

pub known-Not : (s : Scope) (k : Known) (b : Expr) (at : Span) → (found s k (e.Not b at)).known ≡ (found s k b).known
unfolding found shape-the_row-Expr-2 hidden-the_row-Expr-2 hidden
known-Not s k b at = refl

pub arm-Minus : (s : Scope) (k : Known) (b : Expr) (at : Span) → part_of (found s k (e.Minus b at)) ≡ minus_judged (kept (fits is_number (part_of (found s k b)).of) (place_of b) (part_of (found s k b)))
unfolding found part_of shape-the_row-Expr-2 hidden-the_row-Expr-2 hidden
arm-Minus s k b at = minus-is (wanted is_number (place_of b) (found s k b)) ∙ ap minus_judged (kept-is is_number (place_of b) (found s k b))

pub known-Minus : (s : Scope) (k : Known) (b : Expr) (at : Span) → (found s k (e.Minus b at)).known ≡ (found s k b).known
unfolding found shape-the_row-Expr-2 hidden-the_row-Expr-2 hidden
known-Minus s k b at = refl

pub arm-Implies : (s : Scope) (k : Known) (a b : Expr) → part_of (found s k (e.Implies a b)) ≡ implies_judged (kept (fits is_truth (part_of (found s k a)).of) (place_of a) (part_of (found s k a))) (kept (fits is_truth (part_of (found s (found s k a).known b)).of) (place_of b) (part_of (found s (found s k a).known b)))
unfolding found part_of shape-the_row-Expr-2 hidden-the_row-Expr-2 hidden
arm-Implies s k a b =
    let f = wanted is_truth (place_of a) (found s k a) in
    let g = wanted is_truth (place_of b) (found s (found s k a).known b) in
    implies-is f g
    ∙ ap (λ j. implies_judged j (judged g)) (kept-is is_truth (place_of a) (found s k a))
    ∙ ap (implies_judged (kept (fits is_truth (found s k a).type) (place_of a) (judged (found s k a)))) (kept-is is_truth (place_of b) (found s (found s k a).known b))

pub known-Implies : (s : Scope) (k : Known) (a b : Expr) → (found s k (e.Implies a b)).known ≡ (found s (found s k a).known b).known
unfolding found shape-the_row-Expr-2 hidden-the_row-Expr-2 hidden
known-Implies s k a b = refl

pub arm-Compare : (s : Scope) (k : Known) (op : CompareOp) (a b : Expr) → part_of (found s k (e.Compare op a b)) ≡ compared_judged op (place_of a) (place_of b) (part_of (found s k a)) (part_of (found s (found s k a).known b))
unfolding found part_of shape-the_row-Expr-2 hidden-the_row-Expr-2 hidden
arm-Compare s k op a b =
    let f = found s k a in
    let g = found s f.known b in
    let F = wanted (left_fits (is_equality op)) (place_of a) f in
    let G = wanted (right_fits (is_equality op) F.type) (place_of b) g in
    compare-is op F G
    ∙ ap (λ j. compare_judged op j (judged G)) (kept-is (left_fits (is_equality op)) (place_of a) f)
    ∙ ap (compare_judged op (kept (fits (left_fits (is_equality op)) f.type) (place_of a) (judged f))) (kept-is (right_fits (is_equality op) F.type) (place_of b) g)

pub known-Compare : (s : Scope) (k : Known) (op : CompareOp) (a b : Expr) → (found s k (e.Compare op a b)).known ≡ (found s (found s k a).known b).known
unfolding found shape-the_row-Expr-2 hidden-the_row-Expr-2 hidden
known-Compare s k op a b = refl

pub arm-Choice : (s : Scope) (k : Known) (a b c : Expr) → part_of (found s k (e.Choice a b c)) ≡ chosen_judged (part_of (found s k a), place_of a) (part_of (found s (found s k a).known b), place_of b) (part_of (found s (found s (found s k a).known b).known c), place_of c)
unfolding found part_of shape-the_row-Expr-2 hidden-the_row-Expr-2 hidden
arm-Choice s k a b c =
    let f = found s k a in
    let g = found s f.known b in
    let h = found s g.known c in
    let F = wanted is_truth (place_of a) f in
    let G = wanted (left_fits true) (place_of b) g in
    let H = wanted (right_fits true G.type) (place_of c) h in
    choice-is F G H
    ∙ ap (λ j. choice_judged j (judged G) (judged H)) (kept-is is_truth (place_of a) f)
    ∙ ap (λ j. choice_judged (kept (fits is_truth f.type) (place_of a) (judged f)) j (judged H)) (kept-is (left_fits true) (place_of b) g)
    ∙ ap (choice_judged (kept (fits is_truth f.type) (place_of a) (judged f)) (kept (fits (left_fits true) g.type) (place_of b) (judged g))) (kept-is (right_fits true G.type) (place_of c) h)

pub known-Choice : (s : Scope) (k : Known) (a b c : Expr) → (found s k (e.Choice a b c)).known ≡ (found s (found s (found s k a).known b).known c).known
unfolding found shape-the_row-Expr-2 hidden-the_row-Expr-2 hidden
known-Choice s k a b c = refl

-- a chain, by the type of its operands
abbrev chain_by : Scope → Known → Expr → List Link → Simple → Found
chain_by s k a ls type =
    chain_found type (wanted (has_values_of type) (place_of a) (found s k a)) (list_links s (found s k a).known type ls)

found-Chain : (s : Scope) (k : Known) (a : Expr) (ls : List Link) → found s k (e.Chain a ls) ≡ chain_by s k a ls (list_operands ls)
unfolding found shape-the_row-Expr-2 hidden-the_row-Expr-2 hidden
found-Chain s k a ls =
    let type = chain_operands (hidden-the_row-Link-3 ls) in
    ap (chain_found type (wanted (has_values_of type) (place_of a) (found s k a))) (links-are s (found s k a).known type ls)
    ∙ ap (chain_by s k a ls) (operands-are ls)

pub arm-Chain : (s : Scope) (k : Known) (a : Expr) (ls : List Link) → part_of (found s k (e.Chain a ls)) ≡ chain_judged (list_operands ls) (kept (fits (has_values_of (list_operands ls)) (part_of (found s k a)).of) (place_of a) (part_of (found s k a))) (links_of (list_links s (found s k a).known (list_operands ls) ls))
unfolding part_of links_of
arm-Chain s k a ls =
    let type = list_operands ls in
    let g = list_links s (found s k a).known type ls in
    ap judged (found-Chain s k a ls)
    ∙ chain-is type (wanted (has_values_of type) (place_of a) (found s k a)) g
    ∙ ap (λ j. chain_judged type j (judged_links g)) (kept-is (has_values_of type) (place_of a) (found s k a))

pub known-Chain : (s : Scope) (k : Known) (a : Expr) (ls : List Link) → (found s k (e.Chain a ls)).known ≡ (list_links s (found s k a).known (list_operands ls) ls).known
known-Chain s k a ls = ap (λ (f : Found). f.known) (found-Chain s k a ls)

-- Designators

found-place : (s : Scope) (k : Known) (d : Designator) → place_made d.root.at (looked s k d.root.name) (start_type d.root.at (looked s k d.root.name)) (selectors_found s k d.root.at (start_type d.root.at (looked s k d.root.name)).type (hidden-the_row-Selector-0 d.selectors)) ≡ place_found s k d
found-place s k d =
    let c = start_type d.root.at (looked s k d.root.name) in
    ap (place_made d.root.at (looked s k d.root.name) c) (selectors-are s k d.root.at c.type d.selectors)

found-Place : (s : Scope) (k : Known) (d : Designator) → found s k (e.Place d) ≡ read_found (place_found s k d)
unfolding found
found-Place s k d = ap read_found (found-place s k d)

pub arm-Place : (s : Scope) (k : Known) (d : Designator) → part_of (found s k (e.Place d)) ≡ read_judged (place_part (designated s k d))
unfolding part_of place_part designated
arm-Place s k d = ap judged (found-Place s k d) ∙ read-is (place_found s k d)

pub known-Place : (s : Scope) (k : Known) (d : Designator) → (found s k (e.Place d)).known ≡ (designated s k d).known
unfolding designated
known-Place s k d = ap (λ (f : Found). f.known) (found-Place s k d)

found-IsUndefined : (s : Scope) (k : Known) (d : Designator) (at : Span) → found s k (e.IsUndefined d at) ≡ undefined_found (place_found s k d)
unfolding found
found-IsUndefined s k d at = ap undefined_found (found-place s k d)

pub arm-IsUndefined : (s : Scope) (k : Known) (d : Designator) (at : Span) → part_of (found s k (e.IsUndefined d at)) ≡ undefined_judged (place_part (designated s k d))
unfolding part_of place_part designated
arm-IsUndefined s k d at = ap judged (found-IsUndefined s k d at) ∙ undefined-is (place_found s k d)

pub known-IsUndefined : (s : Scope) (k : Known) (d : Designator) (at : Span) → (found s k (e.IsUndefined d at)).known ≡ (designated s k d).known
unfolding designated
known-IsUndefined s k d at = ap (λ (f : Found). f.known) (found-IsUndefined s k d at)

pub arm-designated : (s : Scope) (k : Known) (d : Designator) → place_part (designated s k d) ≡ placed_judged d.root.at (begun d.root.at (looked s k d.root.name)).start (begun d.root.at (looked s k d.root.name)).fault (selectors_of (list_selectors s k d.root.at (begun d.root.at (looked s k d.root.name)).of d.selectors))
unfolding place_part designated selectors_of
arm-designated s k d =
    place-is d.root.at (looked s k d.root.name)
    (list_selectors s k d.root.at (start_type d.root.at (looked s k d.root.name)).type d.selectors)

pub known-designated : (s : Scope) (k : Known) (d : Designator) → (designated s k d).known ≡ (list_selectors s k d.root.at (begun d.root.at (looked s k d.root.name)).of d.selectors).known
unfolding designated
known-designated s k d = refl

-- Calls

found-Call : (s : Scope) (k : Known) (name : Named) (args : List Expr) → found s k (e.Call name args) ≡ call_part s k name args
unfolding found call_part
found-Call s k name args =
    let c = callee_of s k name (looked s k name.name) in
    ap (call_found s.in_function name.at c) (arguments-are s k name.at (formals_of c) args)

pub arm-Call : (s : Scope) (k : Known) (name : Named) (args : List Expr) → part_of (found s k (e.Call name args)) ≡ part_of (call_part s k name args)
arm-Call s k name args = ap part_of (found-Call s k name args)

pub known-Call : (s : Scope) (k : Known) (name : Named) (args : List Expr) → (found s k (e.Call name args)).known ≡ (call_part s k name args).known
known-Call s k name args = ap (λ (f : Found). f.known) (found-Call s k name args)

pub arm-call_part : (s : Scope) (k : Known) (name : Named) (args : List Expr) → part_of (call_part s k name args) ≡ call_judged s.in_function name.at (judged_callee (callee_of s k name (looked s k name.name))) (arguments_of (list_arguments s k name.at (formals_in (judged_callee (callee_of s k name (looked s k name.name))).routine) args))
unfolding part_of call_part arguments_of
arm-call_part s k name args =
    let c = callee_of s k name (looked s k name.name) in
    call-is s.in_function name.at c (list_arguments s k name.at (formals_of c) args)

pub known-call_part : (s : Scope) (k : Known) (name : Named) (args : List Expr) → (call_part s k name args).known ≡ (list_arguments s k name.at (formals_in (judged_callee (callee_of s k name (looked s k name.name))).routine) args).known
unfolding call_part
known-call_part s k name args = refl

-- Quantifiers

pub arm-Quantified : (s : Scope) (k : Known) (all : Bool) (bind : Bind) (b : Expr) (at : Span) → part_of (found s k (e.Quantified all bind b at)) ≡ quantified_judged all (simply (type_place_of bind.over) (type_part (type_found s k Unnamed bind.over))) (part_of (wanted is_truth (place_of b) (found (binding s bind.name.name (simple_part (simply (type_place_of bind.over) (type_part (type_found s k Unnamed bind.over))).of)) (type_found s k Unnamed bind.over).known b)))
unfolding found part_of type_part shape-the_row-Expr-2 hidden-the_row-Expr-2 shape-the_row-Bind-4 hidden-the_row-Bind-4 hidden
arm-Quantified s k all bind b at =
    let T = type_found s k Unnamed bind.over in
    let F = simple_wanted (type_place_of bind.over) T in
    let G = wanted is_truth (place_of b) (found (binding s bind.name.name (simple_part F.type)) T.known b) in
    quantified-is all F G ∙ ap (λ j. quantified_judged all j (judged G)) (simple-is (type_place_of bind.over) T)

pub known-Quantified : (s : Scope) (k : Known) (all : Bool) (bind : Bind) (b : Expr) (at : Span) → (found s k (e.Quantified all bind b at)).known ≡ (found (binding s bind.name.name (simple_part (simply (type_place_of bind.over) (type_part (type_found s k Unnamed bind.over))).of)) (type_found s k Unnamed bind.over).known b).known
unfolding found type_part shape-the_row-Expr-2 hidden-the_row-Expr-2 shape-the_row-Bind-4 hidden-the_row-Bind-4 hidden
known-Quantified s k all bind b at = refl

-- Types

pub arm-Known : (s : Scope) (k : Known) (name : Named) → type_part (type_found s k Unnamed (w.Known name)) ≡ judged_chosen (named_type name.at (looked s k name.name))
unfolding found type_part
arm-Known s k name = refl

pub known-Known : (s : Scope) (k : Known) (name : Named) → (type_found s k Unnamed (w.Known name)).known ≡ k
unfolding found
known-Known s k name = refl

pub arm-Boolean : (s : Scope) (k : Known) (at : Span) → type_part (type_found s k Unnamed (w.Truth at)) ≡ record { of = Some (t.Simple simple.Truth); fault = None }
unfolding found type_part
arm-Boolean s k at = refl

pub known-Boolean : (s : Scope) (k : Known) (at : Span) → (type_found s k Unnamed (w.Truth at)).known ≡ k
unfolding found
known-Boolean s k at = refl

pub arm-Range : (s : Scope) (k : Known) (a b : Expr) → type_part (type_found s k Unnamed (w.Range a b)) ≡ range_judged (place_of a) (number_part (number_found (is_constant s k a) (place_of a) (found s k a))) (number_part (number_found (is_constant s (found s k a).known b) (place_of b) (found s (found s k a).known b)))
unfolding found type_part number_part shape-the_row-Expr-2 hidden-the_row-Expr-2 hidden
arm-Range s k a b =
    range-is (place_of a) (number_found (is_constant s k a) (place_of a) (found s k a))
    (number_found (is_constant s (found s k a).known b) (place_of b) (found s (found s k a).known b))

pub known-Range : (s : Scope) (k : Known) (a b : Expr) → (type_found s k Unnamed (w.Range a b)).known ≡ (found s (found s k a).known b).known
unfolding found shape-the_row-Expr-2 hidden-the_row-Expr-2 hidden
known-Range s k a b = refl

pub arm-Listed : (s : Scope) (k : Known) (names : List Named) (at : Span) → type_part (type_found s k Unnamed (w.Listed names at)) ≡ judged_type (enum_found at names k)
unfolding found type_part
arm-Listed s k names at = refl

pub known-Listed : (s : Scope) (k : Known) (names : List Named) (at : Span) → (type_found s k Unnamed (w.Listed names at)).known ≡ (enum_found at names k).known
unfolding found
known-Listed s k names at = refl

pub arm-Scalarset : (s : Scope) (k : Known) (a : Expr) (at : Span) → type_part (type_found s k Unnamed (w.Scalarset a at)) ≡ scalarset_judged naming.Unnamed at (found s k a).known (number_part (number_found (is_constant s k a) (place_of a) (found s k a)))
unfolding found type_part number_part shape-the_row-Expr-2 hidden-the_row-Expr-2 hidden
arm-Scalarset s k a at = scalarset-is at (number_found (is_constant s k a) (place_of a) (found s k a))

pub known-Scalarset : (s : Scope) (k : Known) (a : Expr) (at : Span) → (type_found s k Unnamed (w.Scalarset a at)).known ≡ (scalarset_type Unnamed at (found s k a).known (number_part (number_found (is_constant s k a) (place_of a) (found s k a))).number).known
unfolding found number_part shape-the_row-Expr-2 hidden-the_row-Expr-2 hidden
known-Scalarset s k a at = refl

found-Fields : (s : Scope) (k : Known) (fs : List FieldDecl) (at : Span) → type_found s k Unnamed (w.Fields fs at) ≡ record_found (list_fields s k fs)
unfolding found
found-Fields s k fs at =
    ap record_found (row_fields_is s k (hidden-the_row-FieldDecl-5 fs) ∙ ap (list_fields s k) (items_hidden-the_row-FieldDecl-5 fs))

pub arm-Fields : (s : Scope) (k : Known) (fs : List FieldDecl) (at : Span) → type_part (type_found s k Unnamed (w.Fields fs at)) ≡ record_judged (fields_part (list_fields s k fs))
unfolding type_part fields_part
arm-Fields s k fs at = ap judged_type (found-Fields s k fs at)

pub known-Fields : (s : Scope) (k : Known) (fs : List FieldDecl) (at : Span) → (type_found s k Unnamed (w.Fields fs at)).known ≡ (list_fields s k fs).known
known-Fields s k fs at = ap (λ (f : FoundType). f.known) (found-Fields s k fs at)

pub arm-Array : (s : Scope) (k : Known) (a b : TypeExpr) (at : Span) → type_part (type_found s k Unnamed (w.Array a b at)) ≡ array_judged (simply (type_place_of a) (type_part (type_found s k Unnamed a))) (type_part (type_found s (type_found s k Unnamed a).known Unnamed b))
unfolding found type_part shape-the_row-TypeExpr-6 hidden-the_row-TypeExpr-6 hidden
arm-Array s k a b at =
    let A = type_found s k Unnamed a in
    let B = type_found s A.known Unnamed b in
    array-is (simple_wanted (type_place_of a) A) B ∙ ap (λ j. array_judged j (judged_type B)) (simple-is (type_place_of a) A)

pub known-Array : (s : Scope) (k : Known) (a b : TypeExpr) (at : Span) → (type_found s k Unnamed (w.Array a b at)).known ≡ (type_found s (type_found s k Unnamed a).known Unnamed b).known
unfolding found shape-the_row-TypeExpr-6 hidden-the_row-TypeExpr-6 hidden
known-Array s k a b at = refl

pub ruleset arms = (arm-number, arm-Number, known-Number, arm-Truth, known-Truth, arm-wanted-truth, arm-Not, known-Not, arm-Minus, known-Minus, arm-Implies, known-Implies, arm-Compare, known-Compare, arm-Choice, known-Choice, arm-Chain, known-Chain, arm-Place, known-Place, arm-IsUndefined, known-IsUndefined, arm-designated, known-designated, arm-Call, known-Call, arm-call_part, known-call_part, arm-Quantified, known-Quantified, arm-Known, known-Known, arm-Boolean, known-Boolean, arm-Range, known-Range, arm-Listed, known-Listed, arm-Scalarset, known-Scalarset, arm-Fields, known-Fields, arm-Array, known-Array, the_lemmas)
