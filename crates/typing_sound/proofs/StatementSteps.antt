-- What is found of statements without faults: steps from parts to wholes.
use Rattle.std.proofs.Common.{◌≡◌, ℕ, ◌+◌, Bool, true, false, not, ◌&&◌, ◌||◌, List, [], ◌∷◌, ◌++◌, length, Option, Some, refl, sym, ap, ◌∙◌}
use Rattle.std.specs.Prelude.{is_some, if◌then◌else◌}
use Rattle.std.specs.Option.{option_map_or}
use Rattle.std.specs.Str.{bytes_eq}
use Rattle.std.proofs.lemmas.Bool.{and_parts, and_from, true≢false}
use Rattle.murphi_ast.specs.declared.token.Span.{Span}
use Rattle.murphi_ast.specs.declared.expr.Expr.{Expr}
use Rattle.murphi_ast.specs.declared.expr.CompareOp.TheVariants as compare
use Rattle.murphi_typed.specs.Families.{Name}
use Rattle.murphi_typed.specs.declared.types.Kind.{Kind}
use Rattle.murphi_typed.specs.declared.types.Simple.{Simple}
use Rattle.murphi_typed.specs.declared.types.Simple.TheVariants as simple
use Rattle.murphi_typed.specs.declared.types.AnyType as t
use Rattle.murphi_typed.specs.declared.types.AnyType.{AnyType, Row_of-Field, end_of-Field, more_of-Field}
use Rattle.murphi_typed.specs.Forms.{ArrayForm}
use Rattle.murphi_typed.specs.declared.expr.Root.{Root}
use Rattle.murphi_typed.specs.declared.expr.Root.TheVariants as root
use Rattle.murphi_typed.specs.declared.expr.Expr as x
use Rattle.murphi_typed.specs.declared.expr.Arguments as a
use Rattle.murphi_typed.specs.declared.stmt.Stmt as s
use Rattle.murphi_typed.specs.declared.protocol.Routine.{Routine}
use Rattle.murphi_typed.specs.WellTyped.{widened, same_simple, is_simple_type, row_field, is_type, are_fields, has_parts, each_field, same_type, root_of, is_of, is_compound, is_cell_of, holds_values_of, are_alike, comparable, labels_fit, is_procedure, returns, simple_part, type_of, place_type, arguments_fit, stmt_fits}
use Rattle.murphi_typed.specs.WellTyped as well
use Rattle.murphi_types.specs.declared.fault.Cause.TheVariants as cause
use Rattle.murphi_types.specs.declared.fault.Fault.{Fault}
use Rattle.murphi_types.specs.declared.scope.Known.{Known}
use Rattle.murphi_types.specs.Faults.{unless}
use Rattle.murphi_types.specs.Fitting.{fits, is_simple, has_values_of, is_truth, is_comparable}
use Rattle.murphi_types.specs.Found.{Found}
use Rattle.murphi_types.specs.Designators.{Start, Rooted, Fixed, Nowhere, FoundPlace, designator_of}
use Rattle.murphi_types.specs.Calls.{Callee, formals_of, is_function, count_fits, FoundArguments, value_fits, may_write}
use Rattle.murphi_types.specs.Types.{FoundType}
use Rattle.murphi_types.specs.Statements.{Leaving, AtEnd, ByReturn, WithValue, FoundStmts, one_stmt, stmts_made, is_global, write_faults, target_of, target, type_or, simple_or, goes_into, copy_of, copied, stored, cleared, undefined, statement_faults, called, FoundArms, arm_made, if_made, FoundLabels, label_made, FoundCases, case_made, switch_made, for_made, asserted, shown, is_result, returned}
use Rattle.typing_sound.proofs.Fits.{NamesFit}
use Rattle.typing_sound.proofs.StatementEquations.{list_body, list_arms, list_cases, fits-Assign, fits-Copy, fits-CopyAll, fits-Call, fits-If, fits-Switch, fits-For, fits-Clear, fits-Undefine, fits-Assert, fits-Put, fits-Return}
use Rattle.typing_sound.proofs.Tests.{nil-parts, unless-passes, same-self}
use Rattle.typing_sound.proofs.Parts.{IsFound, IsValue, is-of, is_place, StartFits, IsPlace}
use Rattle.typing_sound.proofs.TypeSteps.{IsSimple, bytes-true, bytes-self}
use Rattle.typing_sound.proofs.CallSteps.{IsCallee, AreArguments, Allowed, write-is, found-simple, counted}

pub record AreStmts (W : well.Scope) (f : FoundStmts) : Type 0 where
  pub fit : list_body W f.trees ≡ true
  pub names : NamesFit W f.known

pub one-is : (W : well.Scope) (tree : s.Stmt) (inside : ℕ) (k : Known) (faults : List Fault) → stmt_fits W tree ≡ true → NamesFit W k → AreStmts W (one_stmt tree inside k faults)
one-is W tree inside k faults fit names = record { fit = and_from _ _ fit refl; names = names }

body-more : (W : well.Scope) (xs ys : List s.Stmt) → list_body W xs ≡ true → list_body W ys ≡ true → list_body W (xs ++ ys) ≡ true
body-more W [] ys u v = v
body-more W (x ∷ xs) ys u v = let (first, rest) = and_parts (stmt_fits W x) (list_body W xs) u in and_from _ _ first (body-more W xs ys rest v)

pub stmts-step : (W : well.Scope) (f g : FoundStmts) → AreStmts W f → AreStmts W g → AreStmts W (stmts_made f g)
stmts-step W f g u v = record { fit = body-more W f.trees g.trees u.fit v.fit; names = v.names }

-- Targets

pub record IsTarget (W : well.Scope) (p : FoundPlace) : Type 0 where
  pub type : AnyType
  pub is : p.type ≡ Some type
  pub place : place_type W (target p) ≡ Some type
  pub may : well.may_write W (root_of (target p)) ≡ true
  pub fine : is_type W.kinds type ≡ true
  pub names : NamesFit W p.known

outside-is : (W : well.Scope) (inside : Bool) (r : Root) → inside ≡ well.is_function W.exit → (not inside || not (is_global (Rooted r))) ≡ true → (k : ℕ) → r ≡ root.Global k → well.is_function W.exit ≡ false
outside-is W inside r same passes k is = sym same ∙ go inside (sym (ap (λ q. not inside || not (is_global (Rooted q))) is) ∙ passes)
  where
    go : (b : Bool) → (not b || false) ≡ true → b ≡ false
    go true e = cc
    go false e = refl

rooted-target : (W : well.Scope) (inside : Bool) (p : FoundPlace) (start : Start) (type : AnyType) → inside ≡ well.is_function W.exit → StartFits W p start type → may_write start ≡ true → (not inside || not (is_global start)) ≡ true
    → (place_type W (target_of p start) ≡ Some type) × ((well.may_write W (root_of (target_of p start)) ≡ true) × (is_type W.kinds type ≡ true))
rooted-target W inside p (Rooted r) type same h may passes = (h.0, (write-is W r may (outside-is W inside r same passes), h.1))
rooted-target W inside p (Fixed tree) type same h may passes = cc
rooted-target W inside p Nowhere type same h may passes = absurd h

pub target-step : (W : well.Scope) (inside : Bool) (at : Span) (p : FoundPlace) → inside ≡ well.is_function W.exit → write_faults inside at p ≡ [] → IsPlace W p → IsTarget W p
target-step W inside at p same none r =
    let (first, second) = nil-parts (unless (may_write p.start) cause.E14 p.at) (unless (not inside || not (is_global p.start)) cause.E10 at) none in
    let h = rooted-target W inside p p.start r.type same r.starts (unless-passes (may_write p.start) cause.E14 p.at first) (unless-passes (not inside || not (is_global p.start)) cause.E10 at second) in
    record { type = r.type; is = r.is; place = h.0; may = h.1.0; fine = h.1.1; names = r.names }

-- Assignments

assign-of : (W : well.Scope) (type : AnyType) (u : Simple) (place : Option AnyType) (body : Option Simple) → place ≡ Some type → body ≡ Some (widened u) → value_fits type (t.Simple u) ≡ true
    → (is_cell_of (simple_or (Some type)) place && is_of (simple_or (Some type)) body) ≡ true
unfolding has_parts
assign-of W (t.Simple v) u place body there is passes = and_from _ _ (ap (is_cell_of v) there ∙ same-self v) (ap (is_of v) is ∙ passes)
assign-of W (t.Record' shape fields) u place body there is passes = absurd (true≢false (sym passes))
assign-of W (ArrayForm index item) u place body there is passes = absurd (true≢false (sym passes))

assign-is : (W : well.Scope) (p : FoundPlace) (r : IsTarget W p) (u : Simple) (tree : x.Expr) → type_of W tree ≡ Some (widened u) → value_fits r.type (t.Simple u) ≡ true → stmt_fits W (s.Assign (target p) (simple_or p.type) tree) ≡ true
assign-is W p r u tree is passes =
    ap (λ o. stmt_fits W (s.Assign (target p) (simple_or o) tree)) r.is
    ∙ (fits-Assign W (target p) (simple_or (Some r.type)) tree
    ∙ and_from _ _ r.may (assign-of W r.type u (place_type W (target p)) (type_of W tree) r.place is passes))

pub stored-step : (W : well.Scope) (one : Expr) (inside : Bool) (at : Span) (p : FoundPlace) (f : Found) → inside ≡ well.is_function W.exit → is_place one ≡ false → (p.faults ≡ [] → IsPlace W p) → (IsPlace W p → f.faults ≡ [] → IsFound W one f)
    → (stored inside at p f).faults ≡ [] → AreStmts W (stored inside at p f)
stored-step W one inside at p f same other place found none =
    let (clear, more) = nil-parts p.faults (write_faults inside p.at p ++ (f.faults ++ unless (fits (goes_into p.type) f.type) cause.E07 at)) none in
    let (write, rest) = nil-parts (write_faults inside p.at p) (f.faults ++ unless (fits (goes_into p.type) f.type) cause.E07 at) more in
    let (body, last) = nil-parts f.faults (unless (fits (goes_into p.type) f.type) cause.E07 at) rest in
    let passed = unless-passes (fits (goes_into p.type) f.type) cause.E07 at last in
    let q = place clear in
    let r = target-step W inside p.at p same write q in
    let v = found q body in
    let (u, is) = found-simple W one f other v in
    let fit : value_fits r.type (t.Simple u) ≡ true = sym (ap (λ o. fits (goes_into o) (Some (t.Simple u))) r.is) ∙ (sym (ap (fits (goes_into p.type)) is.0) ∙ passed) in
    one-is W (s.Assign (target p) (simple_or p.type) f.tree) (p.weight + f.weight) f.known _ (assign-is W p r u f.tree is.1 fit) v.names

copy-of : (W : well.Scope) (p q : FoundPlace) (start : Start) (to from : AnyType) (r : IsTarget W p) → r.type ≡ to → StartFits W q start from → value_fits to from ≡ true → stmt_fits W (copy_of p q start) ≡ true
unfolding has_parts
copy-of W p q Nowhere to from r same h passes = absurd h
copy-of W p q (Fixed tree) to from r same (u, h) passes = assign-is W p r u tree h.1 (ap (λ l. value_fits l (t.Simple u)) same ∙ (sym (ap (value_fits to) h.0) ∙ passes))
copy-of W p q (Rooted q_root) (t.Simple v) (t.Simple u) r same h passes =
    let is : p.type ≡ Some (t.Simple v) = r.is ∙ ap Some same in
    ap (λ o. stmt_fits W (if fits is_simple o then s.Copy (target p) (simple_or o) (designator_of q_root q) else s.CopyAll (target p) (designator_of q_root q))) is
    ∙ (fits-Copy W (target p) v (designator_of q_root q)
    ∙ and_from _ _ r.may (and_from _ _ (ap (is_cell_of v) (r.place ∙ ap Some same) ∙ same-self v) (ap (holds_values_of v) h.0 ∙ passes)))
copy-of W p q (Rooted q_root) (t.Simple v) (t.Record' shape fields) r same h passes = cc
copy-of W p q (Rooted q_root) (t.Simple v) (t.Array' index shape item) r same h passes = cc
copy-of W p q (Rooted q_root) (t.Record' shape fields) from r same h passes =
    let is : p.type ≡ Some (t.Record' shape fields) = r.is ∙ ap Some same in
    ap (λ o. stmt_fits W (if fits is_simple o then s.Copy (target p) (simple_or o) (designator_of q_root q) else s.CopyAll (target p) (designator_of q_root q))) is
    ∙ (fits-CopyAll W (target p) (designator_of q_root q)
    ∙ and_from _ _ r.may (ap (λ o. are_alike o (place_type W (designator_of q_root q))) (r.place ∙ ap Some same) ∙ (ap (are_alike (Some (t.Record' shape fields))) h.0 ∙ and_from _ _ refl passes)))
copy-of W p q (Rooted q_root) (t.Array' index shape item) from r same h passes =
    let is : p.type ≡ Some (t.Array' index shape item) = r.is ∙ ap Some same in
    ap (λ o. stmt_fits W (if fits is_simple o then s.Copy (target p) (simple_or o) (designator_of q_root q) else s.CopyAll (target p) (designator_of q_root q))) is
    ∙ (fits-CopyAll W (target p) (designator_of q_root q)
    ∙ and_from _ _ r.may (ap (λ o. are_alike o (place_type W (designator_of q_root q))) (r.place ∙ ap Some same) ∙ (ap (are_alike (Some (t.Array' index shape item))) h.0 ∙ and_from _ _ refl passes)))

pub copied-step : (W : well.Scope) (inside : Bool) (p q : FoundPlace) → inside ≡ well.is_function W.exit → (p.faults ≡ [] → IsPlace W p) → (IsPlace W p → q.faults ≡ [] → IsPlace W q) → (copied inside p q).faults ≡ [] → AreStmts W (copied inside p q)
copied-step W inside p q same place from none =
    let (clear, more) = nil-parts p.faults (write_faults inside p.at p ++ (q.faults ++ unless (fits (goes_into p.type) q.type) cause.E07 q.at)) none in
    let (write, rest) = nil-parts (write_faults inside p.at p) (q.faults ++ unless (fits (goes_into p.type) q.type) cause.E07 q.at) more in
    let (body, last) = nil-parts q.faults (unless (fits (goes_into p.type) q.type) cause.E07 q.at) rest in
    let passed = unless-passes (fits (goes_into p.type) q.type) cause.E07 q.at last in
    let u = place clear in
    let r = target-step W inside p.at p same write u in
    let v = from u body in
    let fit : value_fits r.type v.type ≡ true = sym (ap (λ o. fits (goes_into o) (Some v.type)) r.is) ∙ (sym (ap (fits (goes_into p.type)) v.is) ∙ passed) in
    one-is W (copy_of p q q.start) (p.weight + q.weight) q.known _ (copy-of W p q q.start r.type v.type r refl v.starts fit) v.names

-- A type is the same as itself, since no record has two fields of one name

apart : {n : _} (fields : Row_of-Field n) (name other : Name) (type : AnyType) → not (is_some (row_field fields name)) ≡ true → row_field fields other ≡ Some type → bytes_eq name other ≡ false
apart fields name other type alone is = go (bytes_eq name other) refl
  where
    go : (b : Bool) → bytes_eq name other ≡ b → b ≡ false
    go true e = let there : row_field fields name ≡ Some type = ap (row_field fields) (bytes-true name other e) ∙ is in absurd (true≢false (sym alone ∙ ap (λ o. not (is_some o)) there))
    go false e = refl

mutual
  unfolding is_type has_parts

  pub same-parts : (kinds : List Kind) (type : AnyType) → is_type kinds type ≡ true → has_parts type type ≡ true
  same-parts kinds (t.Simple u) fine = same-self u
  same-parts kinds (t.Record' shape fields) fine = same-fields kinds fields (row_field fields) fine (λ name type e. e)
  same-parts kinds (ArrayForm index item) fine = and_from _ _ (same-self index) (same-parts kinds item ((and_parts (is_simple_type kinds index) (is_type kinds item) fine).1))

  same-fields : {n : _} (kinds : List Kind) (fields : Row_of-Field n) (all : Name → Option AnyType) → are_fields kinds fields ≡ true → ((name : Name) (type : AnyType) → row_field fields name ≡ Some type → all name ≡ Some type) → each_field fields all ≡ true
  same-fields kinds end_of-Field all fine held = refl
  same-fields kinds (more_of-Field name type rest) all fine held =
      let (first, more) = and_parts (is_type kinds type) (not (is_some (row_field rest name)) && are_fields kinds rest) fine in
      let (alone, others) = and_parts (not (is_some (row_field rest name))) (are_fields kinds rest) more in
      and_from _ _ (ap (λ o. option_map_or (has_parts type) o false) (held name type (ap (λ b. if b then Some type else row_field rest name) (bytes-self name))) ∙ same-parts kinds type first)
      (same-fields kinds rest all others (λ other of e. held other of (ap (λ b. if b then Some type else row_field rest other) (apart rest name other of alone e) ∙ e)))

-- `clear` and `undefine`

pub cleared-step : (W : well.Scope) (inside : Bool) (at : Span) (p : FoundPlace) → inside ≡ well.is_function W.exit → (p.faults ≡ [] → IsPlace W p) → (cleared inside at p).faults ≡ [] → AreStmts W (cleared inside at p)
cleared-step W inside at p same place none =
    let (clear, write) = nil-parts p.faults (write_faults inside at p) none in
    let r = target-step W inside at p same write (place clear) in
    let itself = same-parts W.kinds r.type r.fine in
    one-is W (s.Clear (target p) (type_or p.type) at) p.weight p.known _
    (ap (λ o. stmt_fits W (s.Clear (target p) (type_or o) at)) r.is
    ∙ (fits-Clear W (target p) r.type at
    ∙ and_from _ _ r.may (and_from _ _ r.fine (ap (λ o. option_map_or (same_type r.type) o false) r.place ∙ and_from _ _ itself itself)))) r.names

pub undefined-step : (W : well.Scope) (inside : Bool) (at : Span) (p : FoundPlace) → inside ≡ well.is_function W.exit → (p.faults ≡ [] → IsPlace W p) → (undefined inside at p).faults ≡ [] → AreStmts W (undefined inside at p)
undefined-step W inside at p same place none =
    let (clear, write) = nil-parts p.faults (write_faults inside at p) none in
    let r = target-step W inside at p same write (place clear) in
    one-is W (s.Undefine (target p) at) p.weight p.known _ (fits-Undefine W (target p) at ∙ and_from _ _ r.may (ap is_some r.place)) r.names

-- Calls

procedure-is : (inside : Bool) (at : Span) (r : Routine) → statement_faults inside at (Some r) ≡ [] → (is_some r.result ≡ false) × (inside ≡ false)
procedure-is inside at r none =
    let (first, second) = nil-parts (unless (not (is_function r)) cause.E11 at) (unless (not inside || is_function r) cause.E10 at) none in
    let none_given = is-not (is_function r) (unless-passes (not (is_function r)) cause.E11 at first) in
    let passes = unless-passes (not inside || is_function r) cause.E10 at second in
    (none_given, go inside (sym (ap (λ b. not inside || b) none_given) ∙ passes))
  where
    is-not : (b : Bool) → not b ≡ true → b ≡ false
    is-not true e = cc
    is-not false e = refl

    go : (b : Bool) → (not b || false) ≡ true → b ≡ false
    go true e = cc
    go false e = refl

pub called-step : (W : well.Scope) (inside : Bool) (at : Span) (c : Callee) (g : FoundArguments) → inside ≡ well.is_function W.exit → (c.faults ≡ [] → IsCallee W c)
    → (Allowed W (formals_of c) → g.faults ≡ [] → AreArguments W (formals_of c) g) → (called inside at c g).faults ≡ [] → AreStmts W (called inside at c g)
called-step W inside at c g same callee args none =
    let (clear, more) = nil-parts c.faults (statement_faults inside at c.routine ++ (unless (count_fits c.routine (length g.trees)) cause.E11 at ++ g.faults)) none in
    let (stated, rest) = nil-parts (statement_faults inside at c.routine) (unless (count_fits c.routine (length g.trees)) cause.E11 at ++ g.faults) more in
    let (number, last) = nil-parts (unless (count_fits c.routine (length g.trees)) cause.E11 at) g.faults rest in
    let count = unless-passes (count_fits c.routine (length g.trees)) cause.E11 at number in
    let u = callee clear in
    let (no_result, outer) = procedure-is inside at u.called (sym (ap (statement_faults inside at) u.is) ∙ stated) in
    let outside : well.is_function W.exit ≡ false = sym same ∙ outer in
    let v = args (λ e. absurd (true≢false (sym e ∙ outside))) last in
    one-is W (s.Call c.number (a.Of g.trees) at) (g.weight + c.weight) g.known _
    (fits-Call W c.number (a.Of g.trees) at
    ∙ and_from _ _ (ap not outside)
    (ap (λ o. option_map_or (λ (r : Routine). not (is_some r.result) && arguments_fit W r.formals (a.Of g.trees)) o false) u.there
    ∙ and_from _ _ (ap not no_result) (counted W c g u v count))) v.names

-- Choices

pub record AreArms (W : well.Scope) (g : FoundArms) : Type 0 where
  pub fit : list_arms W g.trees ≡ true
  pub names : NamesFit W g.known

pub arm-step : (W : well.Scope) (f : Found) (b : FoundStmts) (g : FoundArms) → IsValue W is_truth f → AreStmts W b → AreArms W g → AreArms W (arm_made f b g)
arm-step W f b g u v w = record { fit = and_from _ _ (is-of W simple.Truth f u) (and_from _ _ v.fit w.fit); names = w.names }

pub if-step : (W : well.Scope) (at : Span) (f : FoundArms) (g : FoundStmts) → AreArms W f → AreStmts W g → AreStmts W (if_made at f g)
if-step W at f g u v = one-is W (s.If f.trees g.trees at) (f.weight + g.weight) g.known _ (fits-If W f.trees g.trees at ∙ and_from _ _ u.fit v.fit) v.names

pub record AreLabels (W : well.Scope) (on : Simple) (g : FoundLabels) : Type 0 where
  pub fit : labels_fit W (Some on) g.trees ≡ true
  pub names : NamesFit W g.known

pub label-step : (W : well.Scope) (on : Simple) (found : Option AnyType) (f : Found) (g : FoundLabels) → found ≡ Some (t.Simple on) → widened on ≡ on → IsValue W (is_comparable found) f → AreLabels W on g → AreLabels W on (label_made f g)
label-step W on found f g is wide u v =
    let passes : same_simple (widened on) (widened u.of) ≡ true = sym (ap (λ o. is_comparable o (t.Simple u.of)) is) ∙ u.passes in
    record {
      fit = and_from _ _ (ap (comparable compare.Equal (Some on)) u.is ∙ (ap (same_simple on) (sym u.wide) ∙ (ap (λ l. same_simple l (widened u.of)) (sym wide) ∙ passes))) v.fit;
      names = v.names;
    }

pub record AreCases (W : well.Scope) (on : Simple) (g : FoundCases) : Type 0 where
  pub fit : list_cases W (Some on) g.trees ≡ true
  pub names : NamesFit W g.known

pub case-step : (W : well.Scope) (on : Simple) (f : FoundLabels) (b : FoundStmts) (g : FoundCases) → AreLabels W on f → AreStmts W b → AreCases W on g → AreCases W on (case_made f b g)
case-step W on f b g u v w = record { fit = and_from _ _ u.fit (and_from _ _ v.fit w.fit); names = w.names }

pub switch-step : (W : well.Scope) (at : Span) (f : Found) (g : FoundCases) (h : FoundStmts) (u : IsValue W is_simple f) → AreCases W u.of g → AreStmts W h → AreStmts W (switch_made at f g h)
switch-step W at f g h u v w =
    one-is W (s.Switch f.tree g.trees h.trees at) (f.weight + (g.weight + h.weight)) h.known _
    (fits-Switch W f.tree g.trees h.trees at ∙ and_from _ _ (ap is_some u.is) (and_from _ _ (ap (λ o. list_cases W o g.trees) u.is ∙ v.fit) w.fit)) w.names

-- Loops

pub for-step : (W : well.Scope) (at : Span) (f : FoundType) (g : FoundStmts) (u : IsSimple W f) → AreStmts (well.binding W u.of) g → AreStmts W (for_made at f g)
for-step W at f g u v =
    one-is W (s.For (simple_or f.type) g.trees at) _ g.known _
    (ap (λ o. stmt_fits W (s.For (simple_or o) g.trees at)) u.is ∙ (fits-For W u.of g.trees at ∙ and_from _ _ u.fine v.fit)) v.names

-- Single words

pub asserted-step : (W : well.Scope) (at : Span) (f : Found) → IsValue W is_truth f → AreStmts W (asserted at f)
asserted-step W at f u = one-is W (s.Assert f.tree at) f.weight f.known f.faults (fits-Assert W f.tree at ∙ is-of W simple.Truth f u) u.names

pub shown-step : (W : well.Scope) (at : Span) (f : Found) → IsValue W is_simple f → AreStmts W (shown at f)
shown-step W at f u = one-is W (s.Put f.tree at) f.weight f.known f.faults (fits-Put W f.tree at ∙ ap is_some u.is) u.names

-- how a body may be left, as typing sees it and as the meaning does
abbrev pub LeavingFits : Leaving → well.Exit → Type 0
LeavingFits AtEnd well.AtEnd = Unit {0}
LeavingFits ByReturn well.ByReturn = Unit {0}
LeavingFits (WithValue (Some of)) (well.WithValue type) = of ≡ type
LeavingFits _ _ = ⊥

pub returned-step : (W : well.Scope) (type : Simple) (at : Span) (f : Found) → W.exit ≡ well.WithValue type → IsValue W (is_result (Some type)) f → AreStmts W (returned at f)
returned-step W type at f exit u =
    let v : IsValue W (has_values_of type) f = record { of = u.of; type = u.type; is = u.is; wide = u.wide; passes = u.passes; names = u.names } in
    one-is W (s.Return f.tree at) f.weight f.known f.faults (fits-Return W f.tree at ∙ (ap (λ e. returns e (type_of W f.tree)) exit ∙ is-of W type f v)) u.names
