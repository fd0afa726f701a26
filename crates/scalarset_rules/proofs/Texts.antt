-- In a well-typed text that breaks no rule each loop over nodes keeps its turns apart.
use Rattle.std.proofs.Common.{◌≡◌, ℕ, zero, suc, ◌≤◌, Bool, true, false, not, ◌&&◌, ◌||◌, List, [], ◌∷◌, ◌++◌, map, reverse, length, Option, None, Some, refl, sym, ap, ◌∙◌, subst, arith, append_assoc, append-nil}
use Rattle.std.specs.Prelude.{slice_get, if◌then◌else◌, nat_lt, nat_eq, is_some}
use Rattle.std.specs.List.{flat_map, filter, list_all}
use Rattle.std.specs.Option.{option_map_or}
use Rattle.std.proofs.lemmas.Bool.{and_parts, and_from, eqb-true, eqb-false}
use Rattle.std.proofs.lemmas.List.{reverse-append, reverse-reverse, length-reverse}
use Rattle.murphi_ast.specs.declared.token.Span.{Span}
use Rattle.murphi_typed.specs.declared.types.Simple.{Simple}
use Rattle.murphi_typed.specs.declared.types.Simple.TheVariants as simple
use Rattle.murphi_typed.specs.declared.types.AnyType.{AnyType}
use Rattle.murphi_typed.specs.declared.expr.Root.{Root}
use Rattle.murphi_typed.specs.declared.expr.Root.TheVariants as root
use Rattle.murphi_typed.specs.declared.stmt.Stmt as s
use Rattle.murphi_typed.specs.declared.stmt.Stmt.{Stmt, Row_of-Stmt, end_of-Stmt, more_of-Stmt, Row_of-Arm, end_of-Arm, more_of-Arm, Row_of-Case, end_of-Case, more_of-Case}
use Rattle.murphi_typed.specs.declared.protocol.Formal.{Formal as DeclaredFormal}
use Rattle.murphi_typed.specs.declared.protocol.Variable.{Variable}
use Rattle.murphi_typed.specs.declared.protocol.Parameter.{Parameter}
use Rattle.murphi_typed.specs.declared.protocol.Routine.{Routine}
use Rattle.murphi_typed.specs.declared.protocol.Rule.{Rule}
use Rattle.murphi_typed.specs.declared.protocol.Start.{Start}
use Rattle.murphi_typed.specs.declared.protocol.NodeType.{NodeType}
use Rattle.murphi_typed.specs.declared.protocol.Typed.{Typed}
use Rattle.murphi_typed.specs.Store.{Owner, Global, Local, Formal}
use Rattle.murphi_typed.specs.WellTyped.{labels_fit, Scope as Typing, binding as typing_inside, variable_type, formal_type, root_type, may_write, is_type, formal_allowed, is_simple_type, are_variables, are_parameter_types, is_of, is_function, stmt_fits, body_fits, arms_fit, cases_fit, type_of, top_scope as typing_top, routine_scope as typing_routine, routine_fits, routines_fit, guard_fits, rule_fits, start_fits}
use Rattle.murphi_typed.specs.Keeping.{Declared}
use Rattle.scalarset_rules.specs.Accesses.{Part, placed_shape, Shape, Stand, Valued, Placed, Scope, binding, called, root_shape, stands_of, Access, OpenedLoops, accesses, all_accesses, opened_in, Loop, loop_from, loops, all_loops, arm_loops, case_loops, loops_in}
use Rattle.scalarset_rules.specs.Rules.{Break, bad_return, Standing, statements, inner_statements, row_statements, arm_statements, case_statements, return_breaks, is_deeper, loop_breaks, node_breaks, routine_breaks, top_scope, routine_scope, breaks, bodies, clear_breaks, for_breaks, size_uses, size_form, breaks_with, node_type_breaks, first_break, sooner, is_before, broken}
use Rattle.scalarset_rules.specs.Turns.{goes_down, is_formal, is_writable, loop_over, KeepsApart}
use Rattle.scalarset_rules.specs.Apart.{Routines, IsApart, AreApart, ArmsApart, CasesApart, either_of, ApartIn, BodyApart, FunctionsHaveNoLoops, UnbrokenTextsKeepApart}
use Rattle.scalarset_rules.proofs.Sameness.{false-true, some_same}
use Rattle.scalarset_rules.proofs.Calling.{nearer}
use Rattle.scalarset_rules.proofs.Staying.{Free, free_from, free_front, free_back}
use Rattle.scalarset_rules.proofs.Fine.{called_unbroken}
use Rattle.scalarset_rules.proofs.Walks.{walks, InScope, inside_scope, AllDown, FormalsStand, OpenedDown, formals_stand}
use Rattle.scalarset_rules.proofs.Downs.{procedure_fits_of, accesses_down, all_down}

-- Lists

abbrev pub AllUnbroken : List Loop → Type 0
AllUnbroken [] = Unit {0}
AllUnbroken (l ∷ ls) = (loop_breaks l ≡ []) × AllUnbroken ls

unbroken_front : (xs ys : List Loop) → AllUnbroken (xs ++ ys) → AllUnbroken xs
unbroken_front [] ys all = tt
unbroken_front (x ∷ xs) ys all = (all.0, unbroken_front xs ys all.1)

unbroken_back : (xs ys : List Loop) → AllUnbroken (xs ++ ys) → AllUnbroken ys
unbroken_back [] ys all = all
unbroken_back (x ∷ xs) ys all = unbroken_back xs ys all.1

unbroken_called : (call : Span) (xs : List Loop) → AllUnbroken (map (loop_from call) xs) → AllUnbroken xs
unbroken_called call [] all = tt
unbroken_called call (x ∷ xs) all = (called_unbroken call x all.0, unbroken_called call xs all.1)

none_left : {A : Type 0} (xs ys : List A) → (xs ++ ys) ≡ [] → (xs ≡ []) × (ys ≡ [])
none_left [] ys e = (refl, e)
none_left (x ∷ xs) ys e = cc

unbroken_from : (xs : List Loop) → flat_map loop_breaks xs ≡ [] → AllUnbroken xs
unbroken_from [] e = tt
unbroken_from (x ∷ xs) e = let (one, more) = none_left (loop_breaks x) (flat_map loop_breaks xs) e in (one, unbroken_from xs more)

none_at : {A B : Type 0} (f : A → List B) (xs : List A) (k : ℕ) (a : A) → flat_map f xs ≡ [] → slice_get xs k ≡ Some a → f a ≡ []
none_at f [] k a e there = cc
none_at f (x ∷ xs) zero a e there = ap f (sym (some_same there)) ∙ (none_left (f x) (flat_map f xs) e).0
none_at f (x ∷ xs) (suc k) a e there = none_at f xs k a (none_left (f x) (flat_map f xs) e).1 there

all_at : {A : Type 0} (test : A → Bool) (xs : List A) (k : ℕ) (a : A) → list_all test xs ≡ true → slice_get xs k ≡ Some a → test a ≡ true
all_at test [] k a e there = cc
all_at test (x ∷ xs) zero a e there = ap test (sym (some_same there)) ∙ (and_parts (test x) (list_all test xs) e).0
all_at test (x ∷ xs) (suc k) a e there = all_at test xs k a (and_parts (test x) (list_all test xs) e).1 there

free_none : (ps : List Standing) → Free ps → flat_map (λ (p : Standing). bad_return p.inside p.statement) ps ≡ []
free_none [] free = refl
free_none (p ∷ ps) free = ap (λ bs. bs ++ flat_map (λ (p : Standing). bad_return p.inside p.statement) ps) free.0 ∙ free_none ps free.1

or_true : (b : Bool) → (b || true) ≡ true
or_true true = refl
or_true false = refl

-- One loop

judged_down : (e : ℕ) (types : Declared) (xs : List Access) → AllDown e types xs → list_all (goes_down types) (filter (λ (a : Access). not (is_deeper e a.shape.owner)) xs) ≡ true
judged_down e types [] down = refl
judged_down e types (x ∷ xs) down = go (is_deeper e x.shape.owner) refl (judged_down e types xs down.1)
  where
    go : (b : Bool) → is_deeper e x.shape.owner ≡ b → list_all (goes_down types) (filter (λ (a : Access). not (is_deeper e a.shape.owner)) xs) ≡ true → list_all (goes_down types) (if not b then x ∷ filter (λ (a : Access). not (is_deeper e a.shape.owner)) xs else filter (λ (a : Access). not (is_deeper e a.shape.owner)) xs) ≡ true
    go true was rest = rest
    go false was rest = and_from (goes_down types x) _ (down.0.0 was) rest

all_writable : (e : ℕ) (types : Declared) (xs : List Access) → AllDown e types xs → list_all is_writable xs ≡ true
all_writable e types [] down = refl
all_writable e types (x ∷ xs) down = and_from (is_writable x) _ down.0.1 (all_writable e types xs down.1)

-- Scopes

abbrev pub HasGlobals : Declared → List Variable → Type 0
HasGlobals types globals = (k : ℕ) → types (Global k) ≡ variable_type (slice_get globals k)

-- the variables of a body at this depth beside others
abbrev pub extended : ℕ → List DeclaredFormal → List Variable → Declared → Declared
extended depth formals locals types (Global k) = types (Global k)
extended depth formals locals types (Local of k) = if nat_eq of depth then variable_type (slice_get locals k) else types (Local of k)
extended depth formals locals types (Formal of k) = if nat_eq of depth then formal_type false (slice_get formals k) else types (Formal of k)

-- each variable of these leads where the types say
abbrev pub HasLocals : ℕ → Declared → ℕ → List DeclaredFormal → List Variable → Type 0
HasLocals e types depth formals locals =
    ((k : ℕ) → is_deeper e (Local depth k) ≡ false → types (Local depth k) ≡ variable_type (slice_get locals k))
    × ((k : ℕ) → is_deeper e (Formal depth k) ≡ false → types (Formal depth k) ≡ formal_type false (slice_get formals k))

same_if : {A : Type 0} (x y : A) (b : Bool) → b ≡ true → (if b then x else y) ≡ x
same_if x y true e = refl
same_if x y false e = false-true e

other_if : {A : Type 0} (x y : A) (b : Bool) → b ≡ false → (if b then x else y) ≡ y
other_if x y true e = false-true (sym e)
other_if x y false e = refl

itself : (k : ℕ) → nat_eq k k ≡ true
itself k = grind arith

not_less : (k : ℕ) → nat_lt k k ≡ false
not_less k = grind arith

has_locals : (e depth : ℕ) (formals : List DeclaredFormal) (locals : List Variable) (types : Declared) → HasLocals e (extended depth formals locals types) depth formals locals
has_locals e depth formals locals types = (
  λ k near. same_if (variable_type (slice_get locals k)) (types (Local depth k)) (nat_eq depth depth) (itself depth),
  λ k near. same_if (formal_type false (slice_get formals k)) (types (Formal depth k)) (nat_eq depth depth) (itself depth),
)

-- the types of what is further out stay
further_out : (depth : ℕ) (formals : List DeclaredFormal) (locals : List Variable) (types : Declared) (owner : Owner) → is_deeper depth owner ≡ false → extended (suc depth) formals locals types owner ≡ types owner
further_out depth formals locals types (Global k) near = refl
further_out depth formals locals types (Local of k) near = other_if (variable_type (slice_get locals k)) (types (Local of k)) (nat_eq of (suc depth)) (grind (arith, near))
further_out depth formals locals types (Formal of k) near = other_if (formal_type false (slice_get formals k)) (types (Formal of k)) (nat_eq of (suc depth)) (grind (arith, near))

-- what stands for a formal by place
place_stand : (e : ℕ) (types : Declared) (depth : ℕ) (formals : List DeclaredFormal) (stands : List Stand) (k : ℕ) (U : AnyType) → FormalsStand e types depth formals stands → formal_type true (slice_get formals k) ≡ Some U
    → (shape : Shape) × ((slice_get stands k ≡ Some (Placed shape)) × ((is_deeper depth shape.owner ≡ false) × ((is_formal shape.owner ≡ false)
    × (is_deeper e shape.owner ≡ false → (qs : List _) → walks (Some U) qs ≡ true → walks (types shape.owner) (shape.parts ++ qs) ≡ true))))
place_stand e types depth [] [] k U fit is = cc
place_stand e types depth [] (s ∷ ss) k U fit is = absurd fit
place_stand e types depth (f ∷ fs) [] k U fit is = absurd fit
place_stand e types depth (f ∷ fs) (Valued m ∷ ss) zero U fit is = cc_none (sym (ap (λ b. if b then Some f.of else None) fit.0) ∙ is)
  where
    cc_none : {A : Type 0} → None ≡ Some U → A
    cc_none e = cc
place_stand e types depth (f ∷ fs) (Placed shape ∷ ss) zero U fit is =
    let same : f.of ≡ U = some_same (sym (ap (λ b. if b then Some f.of else None) fit.0.0) ∙ is) in
    (shape, (refl, (fit.0.1.0, (fit.0.1.1.0, λ near qs f'. fit.0.1.1.1 near qs (ap (λ V. walks (Some V) qs) same ∙ f')))))
place_stand e types depth (f ∷ fs) (s ∷ ss) (suc k) U fit is = place_stand e types depth fs ss k U fit.1 is

callee_scope : (T : Typed) (earlier : List Routine) (r : Routine) (e : ℕ) (types : Declared) (scope : Scope) (stands : List Stand) → e ≤ suc scope.depth → HasGlobals types T.globals → HasLocals e types (suc scope.depth) r.formals r.locals → FormalsStand e types scope.depth r.formals stands → InScope e types (typing_routine T earlier r) (called scope stands)
callee_scope T earlier r e types scope stands inside globals locals fit = record { inside = inside; near = near; leads = leads; writes = writes }
  where
    near : (q : Root) (U : AnyType) → root_type (typing_routine T earlier r) q ≡ Some U → is_deeper (suc scope.depth) (root_shape (called scope stands) q).owner ≡ false
    near (root.Global k) U is = refl
    near (root.Local k) U is = not_less (suc scope.depth)
    near (root.Formal k) U is = not_less (suc scope.depth)
    near (root.Place k) U is =
        let (shape, found) = place_stand e types scope.depth r.formals stands k U fit is in
        subst (λ o. is_deeper (suc scope.depth) (placed_shape (Formal (suc scope.depth) k) o).owner ≡ false) (sym found.0) (nearer scope.depth shape.owner found.1.0)

    leads : (q : Root) (U : AnyType) → root_type (typing_routine T earlier r) q ≡ Some U → is_deeper e (root_shape (called scope stands) q).owner ≡ false → (qs : List Part) → walks (Some U) qs ≡ true → walks (types (root_shape (called scope stands) q).owner) ((root_shape (called scope stands) q).parts ++ qs) ≡ true
    leads (root.Global k) U is out qs f = ap (λ o. walks o qs) (globals k ∙ is) ∙ f
    leads (root.Local k) U is out qs f = ap (λ o. walks o qs) (locals.0 k out ∙ is) ∙ f
    leads (root.Formal k) U is out qs f = ap (λ o. walks o qs) (locals.1 k out ∙ is) ∙ f
    leads (root.Place k) U is out qs f =
        let (shape, found) = place_stand e types scope.depth r.formals stands k U fit is in
        let out' : is_deeper e shape.owner ≡ false = subst (λ o. is_deeper e (placed_shape (Formal (suc scope.depth) k) o).owner ≡ false) found.0 out in
        subst (λ o. walks (types (placed_shape (Formal (suc scope.depth) k) o).owner) ((placed_shape (Formal (suc scope.depth) k) o).parts ++ qs) ≡ true) (sym found.0) (found.1.1.1 out' qs f)

    writes : (q : Root) (U : AnyType) → root_type (typing_routine T earlier r) q ≡ Some U → may_write (typing_routine T earlier r) q ≡ true → is_formal (root_shape (called scope stands) q).owner ≡ false
    writes (root.Global k) U is may = refl
    writes (root.Local k) U is may = refl
    writes (root.Formal k) U is may = false-true may
    writes (root.Place k) U is may =
        let (shape, found) = place_stand e types scope.depth r.formals stands k U fit is in
        subst (λ o. is_formal (placed_shape (Formal (suc scope.depth) k) o).owner ≡ false) (sym found.0) found.1.1.0

-- seen from further out, the variables of a called routine do not matter
deeper_locals : (e depth : ℕ) (types : Declared) (formals : List DeclaredFormal) (locals : List Variable) → e ≤ depth → HasLocals e types (suc depth) formals locals
deeper_locals e depth types formals locals inside = (λ k near. false-true (sym near ∙ deep), λ k near. false-true (sym near ∙ deep))
  where
    deep : nat_lt e (suc depth) ≡ true
    deep = grind (arith, inside)

-- The routines of a list

abbrev pub LatestFit : Typed → List Routine → Type 0
LatestFit T [] = Unit {0}
LatestFit T (r ∷ earlier) = (stmt_fits (typing_routine T (reverse earlier) r) r.body ≡ true) × LatestFit T earlier

pub get_last : {A : Type 0} (xs : List A) (x r : A) (k : ℕ) → slice_get (xs ++ x ∷ []) k ≡ Some r → k ≡ length xs → x ≡ r
get_last [] x r zero e same = some_same e
get_last [] x r (suc k) e same = absurd (omega (arith, same))
get_last (y ∷ xs) x r zero e same = absurd (omega (arith, same))
get_last (y ∷ xs) x r (suc k) e same = get_last xs x r k e (omega (arith, same))

pub get_before : {A : Type 0} (xs : List A) (x r : A) (k : ℕ) → slice_get (xs ++ x ∷ []) k ≡ Some r → (k ≡ length xs → ⊥) → slice_get xs k ≡ Some r
get_before [] x r zero e other = absurd (other refl)
get_before [] x r (suc k) e other = cc
get_before (y ∷ xs) x r zero e other = e
get_before (y ∷ xs) x r (suc k) e other = get_before xs x r k e (λ same. other (ap suc same))

pub reversed : {A : Type 0} (x : A) (xs : List A) → reverse (x ∷ xs) ≡ reverse xs ++ x ∷ []
reversed x xs = reverse-append (x ∷ []) xs

latest_down : (T : Typed) (e : ℕ) (types : Declared) → HasGlobals types T.globals → (rs : List Routine) → LatestFit T rs → OpenedDown e types (opened_in rs) (reverse rs)
latest_down T e types globals [] fit k r found scope stands inside formals = tt
latest_down T e types globals (l ∷ earlier) fit k r found scope stands inside formals =
    go (nat_eq k (length earlier)) refl (subst (λ rs. slice_get rs k ≡ Some r) (reversed l earlier) found) (latest_down T e types globals earlier fit.1)
  where
    go : (b : Bool) → nat_eq k (length earlier) ≡ b → slice_get (reverse earlier ++ l ∷ []) k ≡ Some r → OpenedDown e types (opened_in earlier) (reverse earlier) → AllDown e types (if b then accesses (opened_in earlier) (called scope stands) l.body else opened_in earlier k (called scope stands))
    go true was there before =
        let same : l ≡ r = get_last (reverse earlier) l r k there (eqb-true k (length earlier) was ∙ sym (length-reverse earlier)) in
        accesses_down e types (opened_in earlier) (typing_routine T (reverse earlier) l) (called scope stands) l.body
        (callee_scope T (reverse earlier) l e types scope stands (omega (arith, inside)) globals (deeper_locals e scope.depth types l.formals l.locals inside) (subst (λ q. FormalsStand e types scope.depth q.formals stands) (sym same) formals))
        before fit.0
    go false was there before = before k r (get_before (reverse earlier) l r k there (λ same. eqb-false k (length earlier) was (same ∙ length-reverse earlier))) scope stands inside formals

-- Bodies

-- what holds of each routine of a list, in text order, where a body calls it
abbrev pub CallsApart : List Variable → Routines → OpenedLoops → List Routine → Type 0
CallsApart globals inner found routines =
    (k : ℕ) (r : Routine) → slice_get routines k ≡ Some r → (types : Declared) (scope : Scope) (stands : List Stand) → HasGlobals types globals
    → FormalsStand scope.depth types scope.depth r.formals stands → AllUnbroken (found k (called scope stands)) → inner k (called scope stands)

module _ (globals : List Variable) (rs : List Routine) (downs : (e : ℕ) (types : Declared) → HasGlobals types globals → OpenedDown e types (opened_in rs) (reverse rs)) (calls : CallsApart globals (ApartIn rs) (loops_in rs) (reverse rs)) where
  loop_apart : {n : _} (types : Declared) (ts : Typing) (scope : Scope) (body : Row_of-Stmt n) → ts.routines ≡ reverse rs → HasGlobals types globals → InScope scope.depth types ts scope → body_fits (typing_inside ts simple.Node) body ≡ true → Free (row_statements true body) → loop_breaks (loop_over rs scope body) ≡ [] → KeepsApart types rs scope body
  loop_apart types ts scope body same has stands fits free unbroken =
      record {
        unbroken = unbroken;
        stays = free_none (row_statements true body) free;
        typed = judged_down scope.depth types (all_accesses (opened_in rs) (binding scope) body) down;
        writable = all_writable scope.depth types (all_accesses (opened_in rs) (binding scope) body) down;
      }
    where
      down : AllDown scope.depth types (all_accesses (opened_in rs) (binding scope) body)
      down = all_down scope.depth types (opened_in rs) (typing_inside ts simple.Node) (binding scope) body (inside_scope scope.depth types ts scope simple.Node stands) (subst (OpenedDown scope.depth types (opened_in rs)) (sym same) (downs scope.depth types has)) fits

  mutual
    unfolding loops IsApart inner_statements stmt_fits

    pub is_apart : (types : Declared) (ts : Typing) (scope : Scope) (inside : Bool) (stmt : Stmt) → ts.routines ≡ reverse rs → HasGlobals types globals → InScope scope.depth types ts scope → stmt_fits ts stmt ≡ true → Free (inner_statements inside stmt) → AllUnbroken (loops (opened_in rs) (loops_in rs) scope stmt) → IsApart (ApartIn rs) rs scope stmt
    is_apart types ts scope inside (s.Block' _ body) same has stands fits free unbroken = are_apart types ts scope inside body same has stands fits free unbroken
    is_apart types ts scope inside (s.Call k args at) same has stands fits free unbroken =
        let (r, found) = procedure_fits_of scope.depth types (opened_in rs) (slice_get ts.routines k) ts args (and_parts (not (is_function ts.exit)) _ fits).1 in
        calls k r (subst (λ routines. slice_get routines k ≡ Some r) same found.0) types scope (stands_of scope args) has (formals_stand scope.depth types ts scope r.formals args stands found.1) (unbroken_called at (loops_in rs k (called scope (stands_of scope args))) unbroken)
    is_apart types ts scope inside (s.If' _ arms _ otherwise at) same has stands fits free unbroken =
        let (one, other) = and_parts (arms_fit ts arms) (body_fits ts otherwise) fits in (
          arms_apart types ts scope inside arms same has stands one (free_front (arm_statements inside arms) _ free) (unbroken_front (arm_loops (opened_in rs) (loops_in rs) scope arms) _ unbroken),
          are_apart types ts scope inside otherwise same has stands other (free_back (arm_statements inside arms) _ free) (unbroken_back (arm_loops (opened_in rs) (loops_in rs) scope arms) _ unbroken),
        )
    is_apart types ts scope inside (s.Switch' on _ cases _ otherwise at) same has stands fits free unbroken =
        let (one, other) = and_parts (cases_fit ts (type_of ts on) cases) (body_fits ts otherwise) (and_parts (is_some (type_of ts on)) _ fits).1 in (
          cases_apart types ts scope inside (type_of ts on) cases same has stands one (free_front (case_statements inside cases) _ free) (unbroken_front (case_loops (opened_in rs) (loops_in rs) scope cases) _ unbroken),
          are_apart types ts scope inside otherwise same has stands other (free_back (case_statements inside cases) _ free) (unbroken_back (case_loops (opened_in rs) (loops_in rs) scope cases) _ unbroken),
        )
    is_apart types ts scope inside (s.For' simple.Node _ body at) same has stands fits free unbroken =
        let fit = (and_parts (is_simple_type ts.kinds simple.Node) (body_fits (typing_inside ts simple.Node) body) fits).1 in (
          (types, loop_apart types ts scope body same has stands fit (subst (λ b. Free (row_statements b body)) (or_true inside) free) unbroken.0),
          are_apart types (typing_inside ts simple.Node) (binding scope) (inside || true) body same has (inside_scope scope.depth types ts scope simple.Node stands) fit free unbroken.1,
        )
    is_apart types ts scope inside (s.For' simple.Truth _ body at) same has stands fits free unbroken =
        (tt, are_apart types (typing_inside ts simple.Truth) (binding scope) (inside || false) body same has (inside_scope scope.depth types ts scope simple.Truth stands) (and_parts (is_simple_type ts.kinds simple.Truth) (body_fits (typing_inside ts simple.Truth) body) fits).1 free unbroken)
    is_apart types ts scope inside (s.For' (simple.Range low high) _ body at) same has stands fits free unbroken =
        (tt, are_apart types (typing_inside ts (simple.Range low high)) (binding scope) (inside || false) body same has (inside_scope scope.depth types ts scope (simple.Range low high) stands) (and_parts (is_simple_type ts.kinds (simple.Range low high)) (body_fits (typing_inside ts (simple.Range low high)) body) fits).1 free unbroken)
    is_apart types ts scope inside (s.For' (simple.Listed kind count) _ body at) same has stands fits free unbroken =
        (tt, are_apart types (typing_inside ts (simple.Listed kind count)) (binding scope) (inside || false) body same has (inside_scope scope.depth types ts scope (simple.Listed kind count) stands) (and_parts (is_simple_type ts.kinds (simple.Listed kind count)) (body_fits (typing_inside ts (simple.Listed kind count)) body) fits).1 free unbroken)
    is_apart types ts scope inside (s.For' (simple.Scalarset kind count) _ body at) same has stands fits free unbroken =
        (tt, are_apart types (typing_inside ts (simple.Scalarset kind count)) (binding scope) (inside || false) body same has (inside_scope scope.depth types ts scope (simple.Scalarset kind count) stands) (and_parts (is_simple_type ts.kinds (simple.Scalarset kind count)) (body_fits (typing_inside ts (simple.Scalarset kind count)) body) fits).1 free unbroken)
    is_apart types ts scope inside (s.Assign to into body) same has stands fits free unbroken = tt
    is_apart types ts scope inside (s.Copy to into from) same has stands fits free unbroken = tt
    is_apart types ts scope inside (s.CopyAll to from) same has stands fits free unbroken = tt
    is_apart types ts scope inside (s.Clear place type at) same has stands fits free unbroken = tt
    is_apart types ts scope inside (s.Undefine place at) same has stands fits free unbroken = tt
    is_apart types ts scope inside (s.Error at) same has stands fits free unbroken = tt
    is_apart types ts scope inside (s.Assert test at) same has stands fits free unbroken = tt
    is_apart types ts scope inside (s.PutText at) same has stands fits free unbroken = tt
    is_apart types ts scope inside (s.Put shown at) same has stands fits free unbroken = tt
    is_apart types ts scope inside (s.Leave at) same has stands fits free unbroken = tt
    is_apart types ts scope inside (s.Return body at) same has stands fits free unbroken = tt

    are_apart : {n : _} (types : Declared) (ts : Typing) (scope : Scope) (inside : Bool) (body : Row_of-Stmt n) → ts.routines ≡ reverse rs → HasGlobals types globals → InScope scope.depth types ts scope → body_fits ts body ≡ true → Free (row_statements inside body) → AllUnbroken (all_loops (opened_in rs) (loops_in rs) scope body) → AreApart (ApartIn rs) rs scope body
    are_apart types ts scope inside end_of-Stmt same has stands fits free unbroken = tt
    are_apart types ts scope inside (more_of-Stmt first rest) same has stands fits free unbroken =
        let (one, more) = and_parts (stmt_fits ts first) (body_fits ts rest) fits in (
          is_apart types ts scope inside first same has stands one (free_front (inner_statements inside first) _ free.1) (unbroken_front (loops (opened_in rs) (loops_in rs) scope first) _ unbroken),
          are_apart types ts scope inside rest same has stands more (free_back (inner_statements inside first) _ free.1) (unbroken_back (loops (opened_in rs) (loops_in rs) scope first) _ unbroken),
        )

    arms_apart : {n : _} (types : Declared) (ts : Typing) (scope : Scope) (inside : Bool) (arms : Row_of-Arm n) → ts.routines ≡ reverse rs → HasGlobals types globals → InScope scope.depth types ts scope → arms_fit ts arms ≡ true → Free (arm_statements inside arms) → AllUnbroken (arm_loops (opened_in rs) (loops_in rs) scope arms) → ArmsApart (ApartIn rs) rs scope arms
    arms_apart types ts scope inside end_of-Arm same has stands fits free unbroken = tt
    arms_apart types ts scope inside (more_of-Arm test _ body rest) same has stands fits free unbroken =
        let (one, more) = and_parts (body_fits ts body) (arms_fit ts rest) (and_parts (is_of simple.Truth (type_of ts test)) _ fits).1 in (
          are_apart types ts scope inside body same has stands one (free_front (row_statements inside body) _ free) (unbroken_front (all_loops (opened_in rs) (loops_in rs) scope body) _ unbroken),
          arms_apart types ts scope inside rest same has stands more (free_back (row_statements inside body) _ free) (unbroken_back (all_loops (opened_in rs) (loops_in rs) scope body) _ unbroken),
        )

    cases_apart : {n : _} (types : Declared) (ts : Typing) (scope : Scope) (inside : Bool) (on : Option Simple) (cases : Row_of-Case n) → ts.routines ≡ reverse rs → HasGlobals types globals → InScope scope.depth types ts scope → cases_fit ts on cases ≡ true → Free (case_statements inside cases) → AllUnbroken (case_loops (opened_in rs) (loops_in rs) scope cases) → CasesApart (ApartIn rs) rs scope cases
    cases_apart types ts scope inside on end_of-Case same has stands fits free unbroken = tt
    cases_apart types ts scope inside on (more_of-Case labels _ body rest) same has stands fits free unbroken =
        let (one, more) = and_parts (body_fits ts body) (cases_fit ts on rest) (and_parts (labels_fit ts on labels) _ fits).1 in (
          are_apart types ts scope inside body same has stands one (free_front (row_statements inside body) _ free) (unbroken_front (all_loops (opened_in rs) (loops_in rs) scope body) _ unbroken),
          cases_apart types ts scope inside on rest same has stands more (free_back (row_statements inside body) _ free) (unbroken_back (all_loops (opened_in rs) (loops_in rs) scope body) _ unbroken),
        )

-- each routine's own `return`s are outside of its loops over nodes
abbrev pub LatestFree : List Routine → Type 0
LatestFree [] = Unit {0}
LatestFree (r ∷ earlier) = Free (inner_statements false r.body) × LatestFree earlier

-- the same formals, where the variables of the called routine have types too
formals_extended : (depth : ℕ) (types : Declared) (r : Routine) (formals : List DeclaredFormal) (stands : List Stand) → FormalsStand depth types depth formals stands → FormalsStand (suc depth) (extended (suc depth) r.formals r.locals types) depth formals stands
formals_extended depth types r [] [] fit = tt
formals_extended depth types r [] (s ∷ ss) fit = absurd fit
formals_extended depth types r (f ∷ fs) [] fit = absurd fit
formals_extended depth types r (f ∷ fs) (Valued m ∷ ss) fit = (fit.0, formals_extended depth types r fs ss fit.1)
formals_extended depth types r (f ∷ fs) (Placed shape ∷ ss) fit = (
  (fit.0.0, (fit.0.1.0, (fit.0.1.1.0, λ near qs f'. ap (λ o. walks o (shape.parts ++ qs)) (further_out depth r.formals r.locals types shape.owner fit.0.1.0) ∙ fit.0.1.1.1 fit.0.1.0 qs f'))),
  formals_extended depth types r fs ss fit.1,
)

latest_apart : (T : Typed) (rs : List Routine) → LatestFit T rs → LatestFree rs → CallsApart T.globals (ApartIn rs) (loops_in rs) (reverse rs)
latest_apart T [] fit free k r found types scope stands has formals unbroken = tt
latest_apart T (l ∷ earlier) fit free k r found types scope stands has formals unbroken =
    go (nat_eq k (length earlier)) refl (subst (λ rs. slice_get rs k ≡ Some r) (reversed l earlier) found) unbroken (latest_apart T earlier fit.1 free.1)
  where
    go : (b : Bool) → nat_eq k (length earlier) ≡ b → slice_get (reverse earlier ++ l ∷ []) k ≡ Some r → AllUnbroken (if b then loops (opened_in earlier) (loops_in earlier) (called scope stands) l.body else loops_in earlier k (called scope stands)) → CallsApart T.globals (ApartIn earlier) (loops_in earlier) (reverse earlier)
        → either_of b (IsApart (ApartIn earlier) earlier (called scope stands) l.body) (ApartIn earlier k (called scope stands))
    go true was there unbroken before =
        let same : l ≡ r = get_last (reverse earlier) l r k there (eqb-true k (length earlier) was ∙ sym (length-reverse earlier)) in
        let fit' : FormalsStand (suc scope.depth) (extended (suc scope.depth) l.formals l.locals types) scope.depth l.formals stands = formals_extended scope.depth types l l.formals stands (subst (λ q. FormalsStand scope.depth types scope.depth q.formals stands) (sym same) formals) in
        is_apart T.globals earlier (λ e types has. latest_down T e types has earlier fit.1) before (extended (suc scope.depth) l.formals l.locals types) (typing_routine T (reverse earlier) l) (called scope stands) false l.body refl has
        (callee_scope T (reverse earlier) l (suc scope.depth) (extended (suc scope.depth) l.formals l.locals types) scope stands (omega arith) has (has_locals (suc scope.depth) (suc scope.depth) l.formals l.locals types) fit')
        fit.0 free.0 unbroken
    go false was there unbroken before = before k r (get_before (reverse earlier) l r k there (λ same. eqb-false k (length earlier) was (same ∙ length-reverse earlier))) types scope stands has formals unbroken

-- Texts

latest_fit : (T : Typed) (before rest : List Routine) → LatestFit T (reverse before) → routines_fit T before rest ≡ true → LatestFit T (reverse (before ++ rest))
latest_fit T before [] fit e = subst (λ rs. LatestFit T (reverse rs)) (sym (append-nil before)) fit
latest_fit T before (r ∷ rest) fit e =
    let (one, more) = and_parts (routine_fits T before r) (routines_fit T (before ++ r ∷ []) rest) e in
    let now : LatestFit T (reverse (before ++ r ∷ [])) = subst (LatestFit T) (sym (reverse-append before (r ∷ []))) (subst (λ rs. stmt_fits (typing_routine T rs r) r.body ≡ true) (sym (reverse-reverse before)) (body_of before r one), fit) in
    subst (λ rs. LatestFit T (reverse rs)) (append_assoc before (r ∷ []) rest) (latest_fit T (before ++ r ∷ []) rest now more)
  where
    body_of : (before : List Routine) (r : Routine) → routine_fits T before r ≡ true → stmt_fits (typing_routine T before r) r.body ≡ true
    body_of before r e =
        let (formals, rest) = and_parts (list_all (λ (f : DeclaredFormal). is_type T.kinds f.of && formal_allowed r.result f) r.formals) _ e in
        let (result, more) = and_parts (option_map_or (is_simple_type T.kinds) r.result true) _ rest in
        (and_parts (are_variables T.kinds r.locals) _ more).1

free_append : (xs ys : List Routine) → LatestFree xs → LatestFree ys → LatestFree (xs ++ ys)
free_append [] ys first second = second
free_append (x ∷ xs) ys first second = (first.0, free_append xs ys first.1 second)

latest_free : (rs : List Routine) → ((k : ℕ) (r : Routine) → slice_get rs k ≡ Some r → Free (inner_statements false r.body)) → LatestFree (reverse rs)
latest_free [] each = tt
latest_free (r ∷ rs) each = subst LatestFree (sym (reversed r rs)) (free_append (reverse rs) (r ∷ []) (latest_free rs (λ k q there. each (suc k) q there)) (each 0 r refl, tt))

none_first : (bs : List Break) → first_break bs ≡ None → bs ≡ []
none_first [] e = refl
none_first (b ∷ bs) e = go (first_break bs) e
  where
    pick : (c : Break) (x : Bool) → (if x then Some c else Some b) ≡ None → (b ∷ bs) ≡ []
    pick c true e = cc
    pick c false e = cc

    go : (o : Option Break) → sooner (Some b) o ≡ None → (b ∷ bs) ≡ []
    go None e = cc
    go (Some c) e = pick c (is_before c b) e

-- the variables of a rule or a start state
abbrev pub top_types : Typed → List Variable → Declared
top_types T locals (Global k) = variable_type (slice_get T.globals k)
top_types T locals (Local of k) = if nat_eq of 0 then variable_type (slice_get locals k) else None
top_types T locals (Formal of k) = None

top_stands : (T : Typed) (locals : List Variable) (params : List Parameter) → InScope 0 (top_types T locals) (typing_top T locals params) (top_scope params)
top_stands T locals params = record { inside = omega arith; near = near; leads = leads; writes = writes }
  where
    near : (q : Root) (U : AnyType) → root_type (typing_top T locals params) q ≡ Some U → is_deeper 0 (root_shape (top_scope params) q).owner ≡ false
    near (root.Global k) U is = refl
    near (root.Local k) U is = refl
    near (root.Formal k) U is = cc
    near (root.Place k) U is = cc

    leads : (q : Root) (U : AnyType) → root_type (typing_top T locals params) q ≡ Some U → is_deeper 0 (root_shape (top_scope params) q).owner ≡ false → (qs : List Part) → walks (Some U) qs ≡ true → walks (top_types T locals (root_shape (top_scope params) q).owner) ((root_shape (top_scope params) q).parts ++ qs) ≡ true
    leads (root.Global k) U is out qs f = ap (λ o. walks o qs) is ∙ f
    leads (root.Local k) U is out qs f = ap (λ o. walks o qs) is ∙ f
    leads (root.Formal k) U is out qs f = cc
    leads (root.Place k) U is out qs f = cc

    writes : (q : Root) (U : AnyType) → root_type (typing_top T locals params) q ≡ Some U → may_write (typing_top T locals params) q ≡ true → is_formal (root_shape (top_scope params) q).owner ≡ false
    writes (root.Global k) U is may = refl
    writes (root.Local k) U is may = refl
    writes (root.Formal k) U is may = cc
    writes (root.Place k) U is may = cc

module _ (T : Typed) (node : NodeType) (is_node : T.node ≡ Some node) (unbroken : broken T ≡ None) (fit : routines_fit T [] T.routines ≡ true) where
  no_breaks : breaks_with T node ≡ []
  no_breaks = sym (ap (node_type_breaks T) is_node) ∙ (none_left (flat_map clear_breaks (bodies T)) _ (none_first (breaks T) unbroken)).1

  per_body : (flat_map (routine_breaks T.routines) T.routines ≡ []) × ((flat_map (λ (a : Start). node_breaks T.routines (top_scope a.params) a.body) T.starts ≡ []) × (flat_map (λ (r : Rule). node_breaks T.routines (top_scope r.params) r.body) T.rules ≡ []))
  per_body =
      let (uses, rest) = none_left (size_uses node) _ no_breaks in
      let (form, more) = none_left (size_form node.size node.size_at) _ rest in
      let (routines, last) = none_left (flat_map (routine_breaks T.routines) T.routines) _ more in
      let (starts, rules) = none_left (flat_map (λ (a : Start). node_breaks T.routines (top_scope a.params) a.body) T.starts) _ last in
      (routines, (starts, rules))

  fits : LatestFit T (reverse T.routines)
  fits = latest_fit T [] T.routines tt fit

  frees : LatestFree (reverse T.routines)
  frees = latest_free T.routines (λ k r there. own_free r (none_at (routine_breaks T.routines) T.routines k r per_body.0 there))
    where
      own_free : (r : Routine) → routine_breaks T.routines r ≡ [] → Free (inner_statements false r.body)
      own_free r e =
          let (fors, rest) = none_left (if is_some r.result then for_breaks r.body else []) _ e in
          (free_from (statements r.body) (none_left (return_breaks r.body) _ rest).0).1

  body_apart : (locals : List Variable) (params : List Parameter) (body : Stmt) → stmt_fits (typing_top T locals params) body ≡ true → node_breaks T.routines (top_scope params) body ≡ [] → BodyApart T (top_scope params) body
  body_apart locals params body fits_body none =
      let (returns, own) = none_left (return_breaks body) _ none in
      is_apart T.globals (reverse T.routines) (λ e types has. latest_down T e types has (reverse T.routines) fits) (latest_apart T (reverse T.routines) fits frees)
      (top_types T locals) (typing_top T locals params) (top_scope params) false body (sym (reverse-reverse T.routines)) (λ k. refl) (top_stands T locals params) fits_body
      (free_from (statements body) returns).1 (unbroken_from (loops (opened_in (reverse T.routines)) (loops_in (reverse T.routines)) (top_scope params) body) own)

pub unbroken_texts : UnbrokenTextsKeepApart
unbroken_texts T node typed is_node unbroken =
    let (globals, rest) = and_parts (are_variables T.kinds T.globals) _ typed in
    let (routines, more) = and_parts (routines_fit T [] T.routines) _ rest in
    let (starts, last) = and_parts (list_all (start_fits T) T.starts) _ more in
    let (rules, invariants) = and_parts (list_all (rule_fits T) T.rules) _ last in (
      λ k a there. body_apart T node is_node unbroken routines a.locals a.params a.body (start_body a (all_at (start_fits T) T.starts k a starts there)) (none_at (λ (a : Start). node_breaks T.routines (top_scope a.params) a.body) T.starts k a (per_body T node is_node unbroken routines).1.0 there),
      λ k r there. body_apart T node is_node unbroken routines r.locals r.params r.body (rule_body r (all_at (rule_fits T) T.rules k r rules there)) (none_at (λ (r : Rule). node_breaks T.routines (top_scope r.params) r.body) T.rules k r (per_body T node is_node unbroken routines).1.1 there),
    )
  where
    start_body : (a : Start) → start_fits T a ≡ true → stmt_fits (typing_top T a.locals a.params) a.body ≡ true
    start_body a e =
        let (params, rest) = and_parts (are_parameter_types T.kinds a.params) _ e in
        (and_parts (are_variables T.kinds a.locals) _ rest).1

    rule_body : (r : Rule) → rule_fits T r ≡ true → stmt_fits (typing_top T r.locals r.params) r.body ≡ true
    rule_body r e =
        let (params, rest) = and_parts (are_parameter_types T.kinds r.params) _ e in
        let (locals, more) = and_parts (are_variables T.kinds r.locals) _ rest in
        (and_parts (guard_fits (typing_top T r.locals r.params) r.guard) _ more).1

pub functions_have_no_loops : FunctionsHaveNoLoops
functions_have_no_loops T node k r is_node unbroken there is = go (is_some r.result) is (none_at (routine_breaks T.routines) T.routines k r routines there)
  where
    no_breaks' : breaks_with T node ≡ []
    no_breaks' = sym (ap (node_type_breaks T) is_node) ∙ (none_left (flat_map clear_breaks (bodies T)) _ (none_first (breaks T) unbroken)).1

    routines : flat_map (routine_breaks T.routines) T.routines ≡ []
    routines = (none_left (flat_map (routine_breaks T.routines) T.routines) _ (none_left (size_form node.size node.size_at) _ (none_left (size_uses node) _ no_breaks').1).1).0

    go : (b : Bool) → b ≡ true → ((if b then for_breaks r.body else []) ++ node_breaks T.routines (routine_scope r) r.body) ≡ [] → for_breaks r.body ≡ []
    go true e none = (none_left (for_breaks r.body) _ none).0
    go false e none = false-true e
