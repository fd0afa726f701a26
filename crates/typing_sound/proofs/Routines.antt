-- What is found of routines without faults fits.
use Rattle.std.proofs.Common.{◌≡◌, ℕ, zero, suc, Bool, true, false, not, ◌&&◌, List, [], ◌∷◌, ◌++◌, length, Option, None, Some, refl, sym, ap, subst, ◌∙◌}
use Rattle.std.specs.Prelude.{slice_get, is_some}
use Rattle.std.specs.List.{list_all}
use Rattle.std.specs.Option.{option_map_or}
use Rattle.std.proofs.lemmas.Bool.{and_parts, and_from}
use Rattle.murphi_ast.specs.declared.expr.Named.{Named}
use Rattle.murphi_ast.specs.declared.expr.TypeExpr.{TypeExpr}
use Rattle.murphi_ast.specs.declared.stmt.Stmt.{Stmt}
use Rattle.murphi_ast.specs.declared.decl.Decl.{Row_of-Decl}
use Rattle.murphi_ast.specs.declared.decl.Formal.{Formal}
use Rattle.murphi_typed.specs.Families.{Name}
use Rattle.murphi_typed.specs.declared.types.Kind.{Kind}
use Rattle.murphi_typed.specs.declared.types.Simple.{Simple}
use Rattle.murphi_typed.specs.declared.types.Simple.TheVariants as simple
use Rattle.murphi_typed.specs.declared.types.AnyType.{AnyType}
use Rattle.murphi_typed.specs.declared.expr.Root.TheVariants as root
use Rattle.murphi_typed.specs.declared.protocol.Formal.{Formal as TypedFormal}
use Rattle.murphi_typed.specs.declared.protocol.Variable.{Variable}
use Rattle.murphi_typed.specs.declared.protocol.Routine.{Routine}
use Rattle.murphi_typed.specs.declared.protocol.Typed.{Typed}
use Rattle.murphi_typed.specs.WellTyped.{is_simple_type, is_type, are_variables, formal_type, formal_allowed, exit_of, routine_scope, routine_fits, stmt_fits}
use Rattle.murphi_typed.specs.WellTyped as well
use Rattle.murphi_types.specs.declared.fault.Cause.TheVariants as cause
use Rattle.murphi_types.specs.declared.scope.Meaning.{Meaning}
use Rattle.murphi_types.specs.declared.scope.Meaning.TheVariants as meaning
use Rattle.murphi_types.specs.declared.scope.Entry.{Entry}
use Rattle.murphi_types.specs.declared.scope.Known.{Known}
use Rattle.murphi_types.specs.declared.scope.Scope.{Scope}
use Rattle.murphi_types.specs.Faults.{is_clear}
use Rattle.murphi_types.specs.Places.{type_place_of}
use Rattle.murphi_types.specs.Scopes.{entry}
use Rattle.murphi_types.specs.Fitting.{simple_part}
use Rattle.murphi_types.specs.Types.{FoundType, Unnamed}
use Rattle.murphi_types.specs.Typing.{type_found}
use Rattle.murphi_types.specs.Repeats.{type_repeats}
use Rattle.murphi_types.specs.Written.{in_formals, in_result, in_locals, in_body, record_repeats}
use Rattle.murphi_types.specs.Declarations.{Declared}
use Rattle.murphi_types.specs.Statements.{WithValue, FoundStmts, body_found}
use Rattle.murphi_types.specs.Routines.{FoundFormals, formal_root, one_formal, formals_of_names, formal_faults, group_found, formals_found, FoundResult, result_found, row_declared, locals_of, routine_meaning, typed_routine, routine_made, no_formals}
use Rattle.typing_sound.specs.Spelled.{type_spelled, locals_spelled, formal_spelled, stmt_spelled}
use Rattle.typing_sound.proofs.Grown.{Held, Grown, still, next, held-more, type-grown}
use Rattle.typing_sound.proofs.GrownStatements.{row-locals-grown, body-grown}
use Rattle.typing_sound.proofs.Fits.{Each, each-more, each-map, get-last, NameFits, MeaningFits, EntriesFit, NamesFit, FunctionsHaveNone, Fits, moved}
use Rattle.typing_sound.proofs.ConstantLemmas.{some-of}
use Rattle.typing_sound.proofs.Tests.{nil-parts, unless-passes}
use Rattle.typing_sound.proofs.TypeSteps.{simple-step}
use Rattle.typing_sound.proofs.Expressions.{before, type-fits}
use Rattle.typing_sound.proofs.StatementSteps.{AreStmts, LeavingFits}
use Rattle.typing_sound.proofs.StatementEquations.{fits-Block}
use Rattle.typing_sound.proofs.Statements.{nil-both, repeat-parts, body-fits}
use Rattle.typing_sound.proofs.Locals.{held-then, with-inner, AreLocals, row-locals-fit, row-locals-clear}

-- Formals

-- a formal by the function or procedure that has it
abbrev pub FormalFits : List Kind → Bool → TypedFormal → Bool
FormalFits kinds inside f = is_type kinds f.of && not (inside && f.by_place)

pub record AreFormals (W : well.Scope) (f : FoundFormals) : Type 0 where
  pub fits : Fits W f.scope f.known
  pub all : list_all (FormalFits W.kinds f.scope.in_function) f.formals ≡ true

pub all-last : {A : Type 0} (p : A → Bool) (xs : List A) (x : A) → list_all p xs ≡ true → p x ≡ true → list_all p (xs ++ x ∷ []) ≡ true
all-last p [] x all one = and_from _ _ one refl
all-last p (y ∷ ys) x all one = let (first, rest) = and_parts (p y) (list_all p ys) all in and_from _ _ first (all-last p ys x rest one)

formal-held : (by_place : Bool) (type : Option AnyType) (name : Name) (f : FoundFormals) → Held f.formals (one_formal by_place type name f).formals
formal-held by_place None name f = λ i x e. e
formal-held by_place (Some type) name f = held-more f.formals _

names-held : (by_place : Bool) (type : Option AnyType) (names : List Named) (f : FoundFormals) → Held f.formals (formals_of_names by_place type names f).formals
names-held by_place type [] f = λ i x e. e
names-held by_place type (n ∷ ns) f = held-then f.formals (one_formal by_place type n.name f).formals (formals_of_names by_place type ns (one_formal by_place type n.name f)).formals (formal-held by_place type n.name f) (names-held by_place type ns (one_formal by_place type n.name f))

root-is : (W : well.Scope) (by_place : Bool) (k : ℕ) (name : Name) (type : AnyType) → slice_get W.formals k ≡ Some (record { name = name; by_place = by_place; of = type }) → well.root_type W (formal_root by_place k) ≡ Some type
root-is W true k name type there = ap (formal_type true) there
root-is W false k name type there = ap (formal_type false) there

formals-named : (W : well.Scope) (by_place : Bool) (type : AnyType) (names : List Named) (f : FoundFormals) → AreFormals W f → is_type W.kinds type ≡ true → ((n : Named) (ns : List Named) → names ≡ n ∷ ns → not (f.scope.in_function && by_place) ≡ true)
    → Held (formals_of_names by_place (Some type) names f).formals W.formals → AreFormals W (formals_of_names by_place (Some type) names f)
formals-named W by_place type [] f h fine allowed held = h
formals-named W by_place type (n ∷ ns) f h fine allowed held =
    let one : TypedFormal = record { name = n.name; by_place = by_place; of = type } in
    let g = one_formal by_place (Some type) n.name f in
    let own = held-then g.formals (formals_of_names by_place (Some type) ns g).formals W.formals (names-held by_place (Some type) ns g) held in
    let may = allowed n ns refl in
    formals-named W by_place type ns g
    (record {
      fits = with-inner n.name (meaning.Variable (formal_root by_place (length f.formals)) type) h.fits (root-is W by_place (length f.formals) n.name type (own (length f.formals) one (get-last f.formals one)), fine);
      all = all-last (FormalFits W.kinds f.scope.in_function) f.formals one h.all (and_from _ _ fine may);
    }) fine (λ m ms is. may) held

formal-clear : (inside by_place : Bool) (names : List Named) → formal_faults inside by_place names ≡ [] → (n : Named) (ns : List Named) → names ≡ n ∷ ns → not (inside && by_place) ≡ true
formal-clear inside by_place [] none n ns is = cc
formal-clear inside by_place (m ∷ ms) none n ns is = unless-passes (not (inside && by_place)) cause.E10 m.at none

names-faults : (by_place : Bool) (type : Option AnyType) (names : List Named) (f : FoundFormals) → (formals_of_names by_place type names f).faults ≡ f.faults
names-faults by_place type [] f = refl
names-faults by_place type (n ∷ ns) f = names-faults by_place type ns (one_formal by_place type n.name f)

names-known : (by_place : Bool) (type : Option AnyType) (names : List Named) (f : FoundFormals) → (formals_of_names by_place type names f).known ≡ f.known
names-known by_place type [] f = refl
names-known by_place type (n ∷ ns) f = names-known by_place type ns (one_formal by_place type n.name f)

group-grown : (one : Formal) (f : FoundFormals) → Grown f.known (group_found one f (type_found f.scope f.known Unnamed one.body)).known
group-grown one f =
    let type = type_found f.scope f.known Unnamed one.body in
    let start : FoundFormals = record f { known = type.known; faults = f.faults ++ (formal_faults f.scope.in_function one.by_place one.names ++ type.faults) } in
    subst (Grown f.known) (sym (names-known one.by_place type.type one.names start)) (type-grown f.scope f.known Unnamed one.body)

pub formals-grown : (all : List Formal) (f : FoundFormals) → Grown f.known (formals_found all f).known
formals-grown [] f = still f.known
formals-grown (one ∷ rest) f = next (group-grown one f) (formals-grown rest (group_found one f (type_found f.scope f.known Unnamed one.body)))

group-held : (one : Formal) (f : FoundFormals) (type : FoundType) → Held f.formals (group_found one f type).formals
group-held one f type = names-held one.by_place type.type one.names (record f { known = type.known; faults = f.faults ++ (formal_faults f.scope.in_function one.by_place one.names ++ type.faults) })

formals-held : (all : List Formal) (f : FoundFormals) → Held f.formals (formals_found all f).formals
formals-held [] f = λ i x e. e
formals-held (one ∷ rest) f =
    let g = group_found one f (type_found f.scope f.known Unnamed one.body) in
    held-then f.formals g.formals (formals_found rest g).formals (group-held one f (type_found f.scope f.known Unnamed one.body)) (formals-held rest g)

group-clear : (one : Formal) (f : FoundFormals) (type : FoundType) → (group_found one f type).faults ≡ [] → (f.faults ≡ []) × ((formal_faults f.scope.in_function one.by_place one.names ≡ []) × (type.faults ≡ []))
group-clear one f type none =
    let start : FoundFormals = record f { known = type.known; faults = f.faults ++ (formal_faults f.scope.in_function one.by_place one.names ++ type.faults) } in
    let (first, more) = nil-parts f.faults (formal_faults f.scope.in_function one.by_place one.names ++ type.faults) (sym (names-faults one.by_place type.type one.names start) ∙ none) in
    (first, nil-parts (formal_faults f.scope.in_function one.by_place one.names) type.faults more)

pub formals-clear : (all : List Formal) (f : FoundFormals) → (formals_found all f).faults ≡ [] → f.faults ≡ []
formals-clear [] f none = none
formals-clear (one ∷ rest) f none = (group-clear one f (type_found f.scope f.known Unnamed one.body) (formals-clear rest (group_found one f (type_found f.scope f.known Unnamed one.body)) none)).0

group-fits : (W : well.Scope) (one : Formal) (f : FoundFormals) → AreFormals W f → formal_spelled one ≡ true → type_repeats one.body ≡ [] → Held (group_found one f (type_found f.scope f.known Unnamed one.body)).known.kinds W.kinds
    → Held (group_found one f (type_found f.scope f.known Unnamed one.body)).formals W.formals → (group_found one f (type_found f.scope f.known Unnamed one.body)).faults ≡ [] → AreFormals W (group_found one f (type_found f.scope f.known Unnamed one.body))
group-fits W one f h spelled once held formals none =
    let type = type_found f.scope f.known Unnamed one.body in
    let start : FoundFormals = record f { known = type.known; faults = f.faults ++ (formal_faults f.scope.in_function one.by_place one.names ++ type.faults) } in
    let (first, more) = group-clear one f type none in
    let (allowed, clear) = more in
    let u = type-fits W f.scope f.known Unnamed one.body h.fits spelled once (subst (λ k. Held k.kinds W.kinds) (names-known one.by_place type.type one.names start) held) clear in
    let r = formals-named W one.by_place u.type one.names start (record { fits = moved h.fits (type-grown f.scope f.known Unnamed one.body) u.names; all = h.all }) u.fine
    (formal-clear f.scope.in_function one.by_place one.names allowed) (subst (λ o. Held (formals_of_names one.by_place o one.names start).formals W.formals) u.is formals) in
    subst (λ o. AreFormals W (formals_of_names one.by_place o one.names start)) (sym u.is) r

pub formals-fit : (W : well.Scope) (all : List Formal) (f : FoundFormals) → AreFormals W f → list_all formal_spelled all ≡ true → record_repeats (in_formals all) ≡ [] → Held (formals_found all f).known.kinds W.kinds → Held (formals_found all f).formals W.formals → (formals_found all f).faults ≡ [] → AreFormals W (formals_found all f)
formals-fit W [] f h spelled once held formals none = h
formals-fit W (one ∷ rest) f h spelled once held formals none =
    let g = group_found one f (type_found f.scope f.known Unnamed one.body) in
    let (first, more) = and_parts (formal_spelled one) (list_all formal_spelled rest) spelled in
    let (first_once, rest_once) = nil-parts (type_repeats one.body) (record_repeats (in_formals rest)) once in
    let r = group-fits W one f h first first_once (before W (formals-grown rest g) held) (held-then g.formals (formals_found rest g).formals W.formals (formals-held rest g) formals) (formals-clear rest g none) in
    formals-fit W rest g r more rest_once held formals none

-- the scope stays that of a function or a procedure
names-inside : (by_place : Bool) (type : Option AnyType) (names : List Named) (f : FoundFormals) → (formals_of_names by_place type names f).scope.in_function ≡ f.scope.in_function
names-inside by_place type [] f = refl
names-inside by_place type (n ∷ ns) f = names-inside by_place type ns (one_formal by_place type n.name f)

pub formals-inside : (all : List Formal) (f : FoundFormals) → (formals_found all f).scope.in_function ≡ f.scope.in_function
formals-inside [] f = refl
formals-inside (one ∷ rest) f =
    let type = type_found f.scope f.known Unnamed one.body in
    formals-inside rest (group_found one f type)
    ∙ names-inside one.by_place type.type one.names (record f { known = type.known; faults = f.faults ++ (formal_faults f.scope.in_function one.by_place one.names ++ type.faults) })

-- Results

pub record IsResult (W : well.Scope) (given : Bool) (r : FoundResult) : Type 0 where
  pub there : is_some r.result ≡ given
  pub fine : option_map_or (is_simple_type W.kinds) r.result true ≡ true
  pub leaves : LeavingFits r.leaving (exit_of r.result)
  pub names : NamesFit W r.known

pub result-grown : (s : Scope) (k : Known) (given : Option TypeExpr) → Grown k (result_found s k given).known
result-grown s k None = still k
result-grown s k (Some type) = type-grown s k Unnamed type

pub result-fits : (W : well.Scope) (s : Scope) (k : Known) (given : Option TypeExpr) → Fits W s k → option_map_or type_spelled given true ≡ true → record_repeats (in_result given) ≡ [] → Held (result_found s k given).known.kinds W.kinds → (result_found s k given).faults ≡ [] → IsResult W (is_some given) (result_found s k given)
result-fits W s k None h spelled once held none = record { there = refl; fine = refl; leaves = tt; names = h.names }
result-fits W s k (Some type) h spelled once held none =
    let once = (nil-parts (type_repeats type) [] once).0 in
    let u = simple-step W (type_place_of type) (type_found s k Unnamed type) (λ clear. type-fits W s k Unnamed type h spelled once held clear) none in
    let is : (result_found s k (Some type)).result ≡ Some u.of = ap simple_part u.is in
    record {
      there = ap is_some is;
      fine = ap (λ o. option_map_or (is_simple_type W.kinds) o true) is ∙ u.fine;
      leaves = subst (λ o. LeavingFits (WithValue o) (exit_of o)) (sym is) refl;
      names = u.names;
    }

-- Whole routines

-- the same scope but for how it is left
pub other-exit : {W : well.Scope} {s : Scope} {k : Known} (exit : well.Exit) → well.is_function exit ≡ well.is_function W.exit → Fits W s k → Fits (record W { exit = exit }) s k
other-exit {W = W} {s = s} exit same h =
    record {
      inner = each-map (λ (e : Entry). MeaningFits W e.what) (λ (e : Entry). MeaningFits (record W { exit = exit }) e.what) (λ e u. exit-meaning e.what u) s.inner h.inner;
      names = h.names;
      routines = h.routines;
      function = h.function ∙ sym same;
      bound = h.bound;
      formals = h.formals;
    }
  where
    exit-meaning : (m : Meaning) → MeaningFits W m → MeaningFits (record W { exit = exit }) m
    exit-meaning meaning.Refused u = absurd u
    exit-meaning (meaning.Constant n) u = u
    exit-meaning (meaning.TypeName type) u = u
    exit-meaning (meaning.Variable (root.Global j) of) u = u
    exit-meaning (meaning.Variable (root.Local j) of) u = u
    exit-meaning (meaning.Variable (root.Formal j) of) u = u
    exit-meaning (meaning.Variable (root.Place j) of) u = u
    exit-meaning (meaning.Bound number over) u = u
    exit-meaning (meaning.Member number index count) u = u
    exit-meaning (meaning.Routine number) u = u

abbrev exit-for : Bool → well.Exit
exit-for true = well.WithValue simple.Truth
exit-for false = well.ByReturn

exit-function : (b : Bool) → well.is_function (exit-for b) ≡ b
exit-function true = refl
exit-function false = refl

result-function : (o : Option Simple) → well.is_function (exit_of o) ≡ is_some o
result-function None = refl
result-function (Some u) = refl

formal-of : (kinds : List Kind) (inside : Bool) (result : Option Simple) (f : TypedFormal) → is_some result ≡ inside → FormalFits kinds inside f ≡ true → (is_type kinds f.of && formal_allowed result f) ≡ true
formal-of kinds inside result f there fits = ap (λ b. is_type kinds f.of && not (b && f.by_place)) there ∙ fits

formals-of : (kinds : List Kind) (inside : Bool) (result : Option Simple) (fs : List TypedFormal) → is_some result ≡ inside → list_all (FormalFits kinds inside) fs ≡ true → list_all (λ (f : TypedFormal). is_type kinds f.of && formal_allowed result f) fs ≡ true
formals-of kinds inside result [] there fits = refl
formals-of kinds inside result (f ∷ fs) there fits =
    let (first, rest) = and_parts (FormalFits kinds inside f) (list_all (FormalFits kinds inside) fs) fits in
    and_from _ _ (formal-of kinds inside result f there first) (formals-of kinds inside result fs there rest)

get-either : {A : Type 0} (xs : List A) (y : A) (k : ℕ) (x : A) (P : A → Type 0) → slice_get (xs ++ y ∷ []) k ≡ Some x → ((j : ℕ) → slice_get xs j ≡ Some x → P x) → P y → P x
get-either [] y zero x P is old new = let same : y ≡ x = cc in subst P same new
get-either [] y (suc k) x P is old new = cc
get-either (z ∷ xs) y zero x P is old new = old zero is
get-either (z ∷ xs) y (suc k) x P is old new = get-either xs y k x P is (λ j e. old (suc j) e) new

not-by-place : (kinds : List Kind) (fs : List TypedFormal) → list_all (FormalFits kinds true) fs ≡ true → list_all (λ (f : TypedFormal). not f.by_place) fs ≡ true
not-by-place kinds [] fits = refl
not-by-place kinds (f ∷ fs) fits =
    let (first, rest) = and_parts (FormalFits kinds true f) (list_all (FormalFits kinds true) fs) fits in
    and_from _ _ ((and_parts (is_type kinds f.of) (not f.by_place) first).1) (not-by-place kinds fs rest)

-- a routine that fits behind those before it
pub record IsRoutine (T : Typed) (before : List Routine) (one : Routine) (k : Known) : Type 0 where
  pub fits : routine_fits T before one ≡ true
  pub routines : k.routines ≡ before ++ one ∷ []
  pub names : Each (λ (e : Entry). NameFits T.kinds T.globals (before ++ one ∷ []) e.what) k.names
  pub formals : FunctionsHaveNone (before ++ one ∷ [])

more-name : (kinds : List Kind) (globals : List Variable) (R : List Routine) (one : Routine) (m : Meaning) → NameFits kinds globals R m → NameFits kinds globals (R ++ one ∷ []) m
more-name kinds globals R one meaning.Refused h = absurd h
more-name kinds globals R one (meaning.Constant n) h = h
more-name kinds globals R one (meaning.TypeName type) h = h
more-name kinds globals R one (meaning.Variable root of) h = h
more-name kinds globals R one (meaning.Bound number over) h = absurd h
more-name kinds globals R one (meaning.Member number index count) h = h
more-name kinds globals R one (meaning.Routine number) h = let (r, is) = some-of (slice_get R number) h in ap is_some (held-more R (one ∷ []) number r is)

module _ (s : Scope) (k : Known) (name : Name) (formals : List Formal) (result : Option TypeExpr) {n : _} (locals : Row_of-Decl n) (body : List Stmt) where
  abbrev F : FoundFormals
  F = formals_found formals (no_formals s (is_some result) k)

  abbrev R : FoundResult
  R = result_found F.scope F.known result

  abbrev D : Declared
  D = row_declared locals (locals_of F.scope R F.faults)

  abbrev B : FoundStmts
  B = body_found R.leaving D.scope D.known body

  abbrev one : Routine
  one = typed_routine name F R D B

  pub routine-grown : Grown k B.known
  routine-grown =
      next (formals-grown formals (no_formals s (is_some result) k))
      (next (result-grown F.scope F.known result) (next (row-locals-grown locals (locals_of F.scope R F.faults)) (body-grown R.leaving D.scope D.known body)))

  module _ (T : Typed) where
    abbrev W : well.Scope
    W = routine_scope T k.routines one

    -- the scope before the result is known
    abbrev V : well.Scope
    V = record W { exit = exit-for (is_some result) }

    pub routine-fits : s.inner ≡ [] → s.bound ≡ 0 → NamesFit W k → FunctionsHaveNone k.routines → list_all formal_spelled formals ≡ true → option_map_or type_spelled result true ≡ true → locals_spelled locals ≡ true → list_all stmt_spelled body ≡ true
        → record_repeats (in_formals formals ++ (in_result result ++ (in_locals locals ++ in_body body))) ≡ [] → Held B.known.kinds T.kinds → (routine_made name F R D B).faults ≡ [] → IsRoutine T k.routines one (routine_made name F R D B).known
    routine-fits inner bound names functions s1 s2 s3 s4 once held none =
        let (formals_once, once1) = repeat-parts (in_formals formals) (in_result result ++ (in_locals locals ++ in_body body)) once in
        let (result_once, once2) = repeat-parts (in_result result) (in_locals locals ++ in_body body) once1 in
        let (locals_once, body_once) = repeat-parts (in_locals locals) (in_body body) once2 in
        let (d_clear, more) = nil-parts D.faults (D.limits ++ B.faults) none in
        let (limits, b_clear) = nil-parts D.limits B.faults more in
        let start_clear = row-locals-clear locals (locals_of F.scope R F.faults) d_clear in
        let (f_clear, r_clear) = nil-parts F.faults R.faults start_clear in
        let d_held = before V (body-grown R.leaving D.scope D.known body) held in
        let r_held = before V (row-locals-grown locals (locals_of F.scope R F.faults)) d_held in
        let f_held = before V (result-grown F.scope F.known result) r_held in
        let first : AreFormals V (no_formals s (is_some result) k) =
        record {
          fits = record {
            inner = subst (EntriesFit V) (sym inner) tt;
            names = names;
            routines = refl;
            function = sym (exit-function (is_some result));
            bound = bound;
            formals = functions;
          };
          all = refl;
        } in
        let uf : AreFormals V F = formals-fit V formals (no_formals s (is_some result) k) first s1 formals_once f_held (λ i x e. e) f_clear in
        let ur : IsResult V (is_some result) R = result-fits V F.scope F.known result uf.fits s2 result_once r_held r_clear in
        let same : well.is_function (exit_of R.result) ≡ well.is_function (exit-for (is_some result)) = result-function R.result ∙ (ur.there ∙ sym (exit-function (is_some result))) in
        let inside : F.scope.in_function ≡ is_some result = formals-inside formals (no_formals s (is_some result) k) in
        let after : Fits W F.scope R.known = other-exit (exit_of R.result) same (moved uf.fits (result-grown F.scope F.known result) ur.names) in
        let ul : AreLocals W D = row-locals-fit W locals (locals_of F.scope R F.faults) (record { fits = after; variables = refl }) s3 locals_once d_held (λ i x e. e) d_clear in
        let ub : AreStmts W B = body-fits W R.leaving D.scope D.known body ul.fits ur.leaves s4 body_once held b_clear in
        let all : list_all (FormalFits T.kinds (is_some result)) F.formals ≡ true = subst (λ b. list_all (FormalFits T.kinds b) F.formals ≡ true) inside uf.all in
        let routines : B.known.routines ≡ k.routines = ap (λ p. p.1) routine-grown.lasts in
        let typed : is_clear (D.faults ++ B.faults) ≡ true = ap is_clear (nil-both D.faults B.faults d_clear b_clear) in
        let own : NameFits T.kinds T.globals (k.routines ++ one ∷ []) (routine_meaning (is_clear (D.faults ++ B.faults)) (length B.known.routines)) =
        subst (λ b. NameFits T.kinds T.globals (k.routines ++ one ∷ []) (routine_meaning b (length B.known.routines))) (sym typed)
        (subst (λ l. is_some (slice_get (k.routines ++ one ∷ []) (length l)) ≡ true) (sym routines) (ap is_some (get-last k.routines one))) in
        record {
          fits = and_from _ _ (formals-of T.kinds (is_some result) R.result F.formals ur.there all) (and_from _ _ ur.fine (and_from _ _ ul.variables (fits-Block W B.trees ∙ ub.fit)));
          routines = ap (λ l. l ++ one ∷ []) routines;
          names = each-more (λ (e : Entry). NameFits T.kinds T.globals (k.routines ++ one ∷ []) e.what) B.known.names (entry name (routine_meaning (is_clear (D.faults ++ B.faults)) (length B.known.routines)) ∷ [])
              (each-map (λ (e : Entry). NameFits T.kinds T.globals k.routines e.what) (λ (e : Entry). NameFits T.kinds T.globals (k.routines ++ one ∷ []) e.what) (λ e u. more-name T.kinds T.globals k.routines one e.what u) B.known.names ub.names) (own, tt);
          formals = λ number r is function. get-either k.routines one number r (λ r. is_some r.result ≡ true → list_all (λ (f : TypedFormal). not f.by_place) r.formals ≡ true) is (λ j e. functions j r e)
              (λ function. not-by-place T.kinds F.formals (subst (λ b. list_all (FormalFits T.kinds b) F.formals ≡ true) (sym ur.there ∙ function) all)) function;
        }
