-- What declarations of constants, types and variables leave, without faults: names that fit.
use Rattle.std.proofs.Common.{◌≡◌, Bool, true, false, List, [], ◌∷◌, ◌++◌, length, Option, None, Some, refl, sym, ap, subst, ◌∙◌}
use Rattle.std.specs.Prelude.{slice_get}
use Rattle.std.specs.List.{list_all, flat_map}
use Rattle.std.proofs.lemmas.Bool.{and_parts, and_from}
use Rattle.murphi_ast.specs.declared.expr.Named.{Named}
use Rattle.murphi_ast.specs.declared.decl.Decl as decl
use Rattle.murphi_ast.specs.declared.decl.Decl.{Decl, Row_of-Decl, end_of-Decl, more_of-Decl}
use Rattle.murphi_typed.specs.Families.{Name}
use Rattle.murphi_typed.specs.declared.types.Kind.{Kind}
use Rattle.murphi_typed.specs.declared.types.AnyType.{AnyType}
use Rattle.murphi_typed.specs.declared.expr.Root.TheVariants as root
use Rattle.murphi_typed.specs.declared.protocol.Variable.{Variable}
use Rattle.murphi_typed.specs.WellTyped.{is_type, are_variables, variable_type}
use Rattle.murphi_typed.specs.WellTyped as well
use Rattle.murphi_types.specs.declared.scope.Meaning.{Meaning}
use Rattle.murphi_types.specs.declared.scope.Meaning.TheVariants as meaning
use Rattle.murphi_types.specs.declared.scope.Entry.{Entry}
use Rattle.murphi_types.specs.declared.scope.Known.{Known}
use Rattle.murphi_types.specs.declared.scope.Scope.{Scope}
use Rattle.murphi_types.specs.Places.{place_of}
use Rattle.murphi_types.specs.Scopes.{entry}
use Rattle.murphi_types.specs.Constants.{is_constant}
use Rattle.murphi_types.specs.Types.{number_found, Unnamed}
use Rattle.murphi_types.specs.Typing.{found, type_found}
use Rattle.murphi_types.specs.Repeats.{field_repeats, type_repeats}
use Rattle.murphi_types.specs.Written.{in_simple, in_locals, record_repeats}
use Rattle.murphi_types.specs.Declarations.{Declared, constant_meaning, naming_of, type_meaning, declare_variable, declare_variables, declared, all_declared}
use Rattle.murphi_types.specs.Routines.{row_declared}
use Rattle.typing_sound.specs.Spelled.{simple_spelled, locals_spelled}
use Rattle.typing_sound.proofs.Grown.{Held, held-more, found-grown, type-grown}
use Rattle.typing_sound.proofs.GrownStatements.{names-grown, locals-grown, row-locals-grown}
use Rattle.typing_sound.proofs.Fits.{each-more, get-last, MeaningFits, Fits, moved}
use Rattle.typing_sound.proofs.Tests.{nil-parts}
use Rattle.typing_sound.proofs.TypeSteps.{number-step}
use Rattle.typing_sound.proofs.Expressions.{before, found-fits, type-fits}
use Rattle.typing_sound.proofs.Statements.{repeat-parts}

pub held-then : {A : Type 0} (xs ys zs : List A) → Held xs ys → Held ys zs → Held xs zs
held-then xs ys zs f g i x e = g i x (f i x e)

-- one more name of the innermost scope
pub with-inner : {W : well.Scope} {s : Scope} {k : Known} (name : Name) (m : Meaning) → Fits W s k → MeaningFits W m → Fits W (record s { inner = s.inner ++ entry name m ∷ [] }) k
with-inner {W = W} {s = s} name m h fit =
    record {
      inner = each-more (λ (e : Entry). MeaningFits W e.what) s.inner (entry name m ∷ []) h.inner (fit, tt);
      names = h.names;
      routines = h.routines;
      function = h.function;
      bound = h.bound;
      formals = h.formals;
    }

pub variables-more : (kinds : List Kind) (xs : List Variable) (v : Variable) → are_variables kinds xs ≡ true → is_type kinds v.of ≡ true → are_variables kinds (xs ++ v ∷ []) ≡ true
variables-more kinds [] v all fine = and_from _ _ fine refl
variables-more kinds (x ∷ xs) v all fine = let (first, rest) = and_parts (is_type kinds x.of) (are_variables kinds xs) all in and_from _ _ first (variables-more kinds xs v rest fine)

-- what declarations of locals leave
pub record AreLocals (W : well.Scope) (d : Declared) : Type 0 where
  pub fits : Fits W d.scope d.known
  pub variables : are_variables W.kinds d.locals ≡ true

variable-held : (name : Name) (type : Option AnyType) (d : Declared) → Held d.locals (declare_variable false name type d).locals
variable-held name None d = λ i x e. e
variable-held name (Some type) d = held-more d.locals _

variables-held : (names : List Named) (type : Option AnyType) (d : Declared) → Held d.locals (declare_variables false names type d).locals
variables-held [] type d = λ i x e. e
variables-held (n ∷ ns) type d = held-then d.locals (declare_variable false n.name type d).locals (declare_variables false ns type (declare_variable false n.name type d)).locals (variable-held n.name type d) (variables-held ns type (declare_variable false n.name type d))

variables-fit : (W : well.Scope) (names : List Named) (type : AnyType) (d : Declared) → AreLocals W d → is_type W.kinds type ≡ true → Held (declare_variables false names (Some type) d).locals W.locals → AreLocals W (declare_variables false names (Some type) d)
variables-fit W [] type d h fine held = h
variables-fit W (n ∷ ns) type d h fine held =
    let v : Variable = record { name = n.name; of = type } in
    let e = declare_variable false n.name (Some type) d in
    let own = held-then e.locals (declare_variables false ns (Some type) e).locals W.locals (variables-held ns (Some type) e) held in
    let there : variable_type (slice_get W.locals (length d.locals)) ≡ Some type = ap variable_type (own (length d.locals) v (get-last d.locals v)) in
    variables-fit W ns type e
    (record {
      fits = with-inner n.name (meaning.Variable (root.Local (length d.locals)) type) h.fits (there, fine);
      variables = variables-more W.kinds d.locals v h.variables fine;
    }) fine held

fault-same : (globally : Bool) (name : Name) (type : Option AnyType) (d : Declared) → (declare_variable globally name type d).faults ≡ d.faults
fault-same true name None d = refl
fault-same true name (Some type) d = refl
fault-same false name None d = refl
fault-same false name (Some type) d = refl

-- variables have no faults of their own
pub faults-same : (globally : Bool) (names : List Named) (type : Option AnyType) (d : Declared) → (declare_variables globally names type d).faults ≡ d.faults
faults-same globally [] type d = refl
faults-same globally (n ∷ ns) type d = faults-same globally ns type (declare_variable globally n.name type d) ∙ fault-same globally n.name type d

pub local-held : (one : Decl) (d : Declared) → Held d.locals (declared false one d).locals
local-held (decl.Constant name body) d = λ i x e. e
local-held (decl.TypeName name body) d = λ i x e. e
local-held (decl.Variables names body) d = variables-held names (type_found d.scope d.known Unnamed body).type (record d { known = (type_found d.scope d.known Unnamed body).known; faults = _ })
local-held (decl.Routine' name formals result shape locals body) d = λ i x e. e

pub local-fits : (W : well.Scope) (one : Decl) (d : Declared) → AreLocals W d → simple_spelled one ≡ true → record_repeats (in_simple one) ≡ [] → Held (declared false one d).known.kinds W.kinds → Held (declared false one d).locals W.locals → (declared false one d).faults ≡ [] → AreLocals W (declared false one d)
local-fits W (decl.Constant name body) d h spelled once held locals none =
    let F = number_found (is_constant d.scope d.known body) (place_of body) (found d.scope d.known body) in
    let body_once = (nil-parts (field_repeats body) [] once).0 in
    let clear = (nil-parts d.faults F.faults none).1 in
    let u = number-step W body (is_constant d.scope d.known body) (place_of body) (found d.scope d.known body) (λ clear. found-fits W d.scope d.known body h.fits spelled body_once held clear) clear in
    record {
      fits = subst (λ o. Fits W (record d.scope { inner = d.scope.inner ++ entry name.name (constant_meaning o) ∷ [] }) F.known) (sym u.is)
          (with-inner name.name (meaning.Constant u.number) (moved h.fits (found-grown d.scope d.known body) u.names) u.fine);
      variables = h.variables;
    }
local-fits W (decl.TypeName name body) d h spelled once held locals none =
    let naming = naming_of false d.scope.node name.name in
    let F = type_found d.scope d.known naming body in
    let body_once = (nil-parts (type_repeats body) [] once).0 in
    let clear = (nil-parts d.faults F.faults none).1 in
    let u = type-fits W d.scope d.known naming body h.fits spelled body_once held clear in
    record {
      fits = subst (λ o. Fits W (record d.scope { inner = d.scope.inner ++ entry name.name (type_meaning o) ∷ [] }) F.known) (sym u.is)
          (with-inner name.name (meaning.TypeName u.type) (moved h.fits (type-grown d.scope d.known naming body) u.names) u.fine);
      variables = h.variables;
    }
local-fits W (decl.Variables names body) d h spelled once held locals none =
    let F = type_found d.scope d.known Unnamed body in
    let start : Declared = record d { known = F.known; faults = d.faults ++ F.faults } in
    let body_once = (nil-parts (type_repeats body) [] once).0 in
    let clear = (nil-parts d.faults F.faults (sym (faults-same false names F.type start) ∙ none)).1 in
    let own = before W (names-grown names F.type start) held in
    let u = type-fits W d.scope d.known Unnamed body h.fits spelled body_once own clear in
    let r = variables-fit W names u.type start (record { fits = moved h.fits (type-grown d.scope d.known Unnamed body) u.names; variables = h.variables }) u.fine (subst (λ o. Held (declare_variables false names o start).locals W.locals) u.is locals) in
    let s = subst (λ o. AreLocals W (declare_variables false names o start)) (sym u.is) r in
    record { fits = s.fits; variables = s.variables }
local-fits W (decl.Routine' name formals result shape locals body) d h spelled once held own none = h

-- faults are only added
pub local-clear : (one : Decl) (d : Declared) → (declared false one d).faults ≡ [] → d.faults ≡ []
local-clear (decl.Constant name body) d none = (nil-parts d.faults _ none).0
local-clear (decl.TypeName name body) d none = (nil-parts d.faults _ none).0
local-clear (decl.Variables names body) d none =
    let F = type_found d.scope d.known Unnamed body in
    let start : Declared = record d { known = F.known; faults = d.faults ++ F.faults } in
    (nil-parts d.faults F.faults (sym (faults-same false names F.type start) ∙ none)).0
local-clear (decl.Routine' name formals result shape locals body) d none = none

pub locals-clear : (all : List Decl) (d : Declared) → (all_declared false all d).faults ≡ [] → d.faults ≡ []
locals-clear [] d none = none
locals-clear (one ∷ rest) d none = local-clear one d (locals-clear rest (declared false one d) none)

pub row-locals-clear : {n : _} (all : Row_of-Decl n) (d : Declared) → (row_declared all d).faults ≡ [] → d.faults ≡ []
row-locals-clear end_of-Decl d none = none
row-locals-clear (more_of-Decl one rest) d none = local-clear one d (row-locals-clear rest (declared false one d) none)

locals-held : (all : List Decl) (d : Declared) → Held d.locals (all_declared false all d).locals
locals-held [] d = λ i x e. e
locals-held (one ∷ rest) d = held-then d.locals (declared false one d).locals (all_declared false rest (declared false one d)).locals (local-held one d) (locals-held rest (declared false one d))

row-locals-held : {n : _} (all : Row_of-Decl n) (d : Declared) → Held d.locals (row_declared all d).locals
row-locals-held end_of-Decl d = λ i x e. e
row-locals-held (more_of-Decl one rest) d = held-then d.locals (declared false one d).locals (row_declared rest (declared false one d)).locals (local-held one d) (row-locals-held rest (declared false one d))

pub locals-fit : (W : well.Scope) (all : List Decl) (d : Declared) → AreLocals W d → list_all simple_spelled all ≡ true → record_repeats (flat_map in_simple all) ≡ [] → Held (all_declared false all d).known.kinds W.kinds → Held (all_declared false all d).locals W.locals → (all_declared false all d).faults ≡ [] → AreLocals W (all_declared false all d)
locals-fit W [] d h spelled once held locals none = h
locals-fit W (one ∷ rest) d h spelled once held locals none =
    let e = declared false one d in
    let (first, more) = and_parts (simple_spelled one) (list_all simple_spelled rest) spelled in
    let (first_once, rest_once) = repeat-parts (in_simple one) (flat_map in_simple rest) once in
    let r = local-fits W one d h first first_once (before W (locals-grown rest e) held) (held-then e.locals (all_declared false rest e).locals W.locals (locals-held rest e) locals) (locals-clear rest e none) in
    locals-fit W rest e r more rest_once held locals none

pub row-locals-fit : {n : _} (W : well.Scope) (all : Row_of-Decl n) (d : Declared) → AreLocals W d → locals_spelled all ≡ true → record_repeats (in_locals all) ≡ [] → Held (row_declared all d).known.kinds W.kinds → Held (row_declared all d).locals W.locals → (row_declared all d).faults ≡ [] → AreLocals W (row_declared all d)
row-locals-fit W end_of-Decl d h spelled once held locals none = h
row-locals-fit W (more_of-Decl one rest) d h spelled once held locals none =
    let e = declared false one d in
    let (first, more) = and_parts (simple_spelled one) (locals_spelled rest) spelled in
    let (first_once, rest_once) = repeat-parts (in_simple one) (in_locals rest) once in
    let r = local-fits W one d h first first_once (before W (row-locals-grown rest e) held) (held-then e.locals (row_declared rest e).locals W.locals (row-locals-held rest e) locals) (row-locals-clear rest e none) in
    row-locals-fit W rest e r more rest_once held locals none
