-- What the declarations of a text leave, without faults, fits.
use Rattle.std.proofs.Common.{◌≡◌, true, ◌&&◌, List, [], ◌∷◌, ◌++◌, length, Option, None, Some, refl, sym, ap, subst, ◌∙◌}
use Rattle.std.specs.Prelude.{slice_get}
use Rattle.std.specs.List.{list_all, flat_map}
use Rattle.std.specs.Option.{option_map_or}
use Rattle.std.proofs.lemmas.Bool.{and_parts, and_from}
use Rattle.murphi_ast.specs.declared.expr.Named.{Named}
use Rattle.murphi_ast.specs.declared.decl.Decl as decl
use Rattle.murphi_ast.specs.declared.decl.Decl.{Decl}
use Rattle.murphi_typed.specs.Families.{Name}
use Rattle.murphi_typed.specs.declared.types.AnyType.{AnyType}
use Rattle.murphi_typed.specs.declared.expr.Root.TheVariants as root
use Rattle.murphi_typed.specs.declared.protocol.Variable.{Variable}
use Rattle.murphi_typed.specs.declared.protocol.Routine.{Routine}
use Rattle.murphi_typed.specs.declared.protocol.Typed.{Typed}
use Rattle.murphi_typed.specs.WellTyped.{is_type, are_variables, variable_type, routine_fits, routines_fit}
use Rattle.murphi_typed.specs.WellTyped as well
use Rattle.murphi_types.specs.declared.scope.Meaning.{Meaning}
use Rattle.murphi_types.specs.declared.scope.Meaning.TheVariants as meaning
use Rattle.murphi_types.specs.declared.scope.Entry.{Entry}
use Rattle.murphi_types.specs.declared.scope.Known.{Known}
use Rattle.murphi_types.specs.declared.scope.Scope.{Scope}
use Rattle.murphi_types.specs.Places.{place_of}
use Rattle.murphi_types.specs.Scopes.{entry, with_name}
use Rattle.murphi_types.specs.Constants.{is_constant}
use Rattle.murphi_types.specs.Types.{number_found, Unnamed}
use Rattle.murphi_types.specs.Typing.{found, type_found}
use Rattle.murphi_types.specs.Repeats.{field_repeats, type_repeats, repeats_in}
use Rattle.murphi_types.specs.Written.{in_decl, formal_names, local_names, own_repeats, record_repeats}
use Rattle.murphi_types.specs.Declarations.{Declared, constant_meaning, naming_of, type_meaning, declare_variable, declare_variables}
use Rattle.murphi_types.specs.Routines.{routine_found, globally_declared, text_declared}
use Rattle.typing_sound.specs.Spelled.{type_spelled, formal_spelled, locals_spelled, stmt_spelled, decl_spelled}
use Rattle.typing_sound.proofs.Grown.{Held, Grown, held-more, found-grown, type-grown}
use Rattle.typing_sound.proofs.Fits.{Each, each-more, get-last, NameFits, EntriesFit, NamesFit, FunctionsHaveNone, Fits, moved}
use Rattle.typing_sound.proofs.Tests.{nil-parts}
use Rattle.typing_sound.proofs.TypeSteps.{number-step}
use Rattle.typing_sound.proofs.Expressions.{found-fits, type-fits}
use Rattle.typing_sound.proofs.Locals.{held-then, variables-more, faults-same}
use Rattle.typing_sound.proofs.Routines.{routine-grown, routine-fits}

-- outside of all bodies, where these routines are declared
abbrev pub outer : Typed → List Routine → well.Scope
outer T routines =
    record { kinds = T.kinds; globals = T.globals; routines = routines; formals = []; locals = []; bound = []; exit = well.AtEnd }

pub record IsGlobal (T : Typed) (d : Declared) : Type 0 where
  pub fits : Fits (outer T d.known.routines) d.scope d.known
  pub inner : d.scope.inner ≡ []
  pub variables : are_variables T.kinds d.known.globals ≡ true
  pub routines : routines_fit T [] d.known.routines ≡ true

-- one more name of the whole text
with-global : {W : well.Scope} {s : Scope} {k : Known} (name : Name) (m : Meaning) → Fits W s k → NameFits W.kinds W.globals W.routines m → Fits W s (with_name k name m)
with-global {W = W} {k = k} name m h fit =
    record {
      inner = h.inner;
      names = each-more (λ (e : Entry). NameFits W.kinds W.globals W.routines e.what) k.names (entry name m ∷ []) h.names (fit, tt);
      routines = h.routines;
      function = h.function;
      bound = h.bound;
      formals = h.formals;
    }

-- Kinds and globals are only added

abbrev pub More : Declared → Declared → Type 0
More d e = Held d.known.kinds e.known.kinds × Held d.known.globals e.known.globals

more-then : (d e f : Declared) → More d e → More e f → More d f
more-then d e f u v = (held-then d.known.kinds e.known.kinds f.known.kinds u.0 v.0, held-then d.known.globals e.known.globals f.known.globals u.1 v.1)

one-more : (name : Name) (type : Option AnyType) (d : Declared) → More d (declare_variable true name type d)
one-more name None d = (λ i x e. e, λ i x e. e)
one-more name (Some type) d = (λ i x e. e, held-more d.known.globals _)

names-more : (names : List Named) (type : Option AnyType) (d : Declared) → More d (declare_variables true names type d)
names-more [] type d = (λ i x e. e, λ i x e. e)
names-more (n ∷ ns) type d = more-then d (declare_variable true n.name type d) (declare_variables true ns type (declare_variable true n.name type d)) (one-more n.name type d) (names-more ns type (declare_variable true n.name type d))

same-held : {A : Type 0} (xs ys : List A) → ys ≡ xs → Held xs ys
same-held xs ys same = subst (Held xs) (sym same) (λ i x e. e)

grown-more : (k l : Known) → Grown k l → Held k.globals l.globals
grown-more k l g = same-held k.globals l.globals (ap (λ p. p.0) g.lasts)

pub global-more : (one : Decl) (d : Declared) → More d (globally_declared one d)
global-more (decl.Constant name body) d =
    let g = found-grown d.scope d.known body in (g.kinds, grown-more d.known (found d.scope d.known body).known g)
global-more (decl.TypeName name body) d =
    let naming = naming_of true d.scope.node name.name in
    let g = type-grown d.scope d.known naming body in (g.kinds, grown-more d.known (type_found d.scope d.known naming body).known g)
global-more (decl.Variables names body) d =
    let F = type_found d.scope d.known Unnamed body in
    let g = type-grown d.scope d.known Unnamed body in
    let e : Declared = record d { known = F.known; faults = d.faults ++ F.faults } in
    let u = names-more names F.type e in (
      held-then d.known.kinds F.known.kinds (declare_variables true names F.type e).known.kinds g.kinds u.0,
      held-then d.known.globals F.known.globals (declare_variables true names F.type e).known.globals (grown-more d.known F.known g) u.1,
    )
global-more (decl.Routine' name formals result shape locals body) d =
    let g = routine-grown d.scope d.known name.name formals result locals body in (g.kinds, grown-more d.known _ g)

pub text-more : (decls : List Decl) (d : Declared) → More d (text_declared decls d)
text-more [] d = (λ i x e. e, λ i x e. e)
text-more (one ∷ rest) d = more-then d (globally_declared one d) (text_declared rest (globally_declared one d)) (global-more one d) (text-more rest (globally_declared one d))

-- Faults are only added

global-clear : (one : Decl) (d : Declared) → (globally_declared one d).faults ≡ [] → d.faults ≡ []
global-clear (decl.Constant name body) d none = (nil-parts d.faults _ none).0
global-clear (decl.TypeName name body) d none = (nil-parts d.faults _ none).0
global-clear (decl.Variables names body) d none =
    let F = type_found d.scope d.known Unnamed body in
    let e : Declared = record d { known = F.known; faults = d.faults ++ F.faults } in
    (nil-parts d.faults F.faults (sym (faults-same true names F.type e) ∙ none)).0
global-clear (decl.Routine' name formals result shape locals body) d none = (nil-parts d.faults _ none).0

text-clear : (decls : List Decl) (d : Declared) → (text_declared decls d).faults ≡ [] → d.faults ≡ []
text-clear [] d none = none
text-clear (one ∷ rest) d none = global-clear one d (text-clear rest (globally_declared one d) none)

-- Variables

globals-named : (T : Typed) (names : List Named) (type : AnyType) (d : Declared) → IsGlobal T d → is_type T.kinds type ≡ true → Held (declare_variables true names (Some type) d).known.globals T.globals → IsGlobal T (declare_variables true names (Some type) d)
globals-named T [] type d h fine held = h
globals-named T (n ∷ ns) type d h fine held =
    let v : Variable = record { name = n.name; of = type } in
    let e = declare_variable true n.name (Some type) d in
    let own = held-then e.known.globals (declare_variables true ns (Some type) e).known.globals T.globals ((names-more ns (Some type) e).1) held in
    let there : variable_type (slice_get T.globals (length d.known.globals)) ≡ Some type = ap variable_type (own (length d.known.globals) v (get-last d.known.globals v)) in
    let widened : Fits (outer T d.known.routines) d.scope (record d.known { globals = d.known.globals ++ v ∷ [] }) =
    record { inner = h.fits.inner; names = h.fits.names; routines = h.fits.routines; function = h.fits.function; bound = h.fits.bound; formals = h.fits.formals } in
    globals-named T ns type e
    (record {
      fits = with-global n.name (meaning.Variable (root.Global (length d.known.globals)) type) widened (there, fine);
      inner = h.inner;
      variables = variables-more T.kinds d.known.globals v h.variables fine;
      routines = h.routines;
    }) fine held

-- Routines

append-nil : {A : Type 0} (xs : List A) → xs ++ [] ≡ xs
append-nil [] = refl
append-nil (x ∷ xs) = ap (λ l. x ∷ l) (append-nil xs)

append-one : {A : Type 0} (xs : List A) (y : A) (zs : List A) → (xs ++ y ∷ []) ++ zs ≡ xs ++ y ∷ zs
append-one [] y zs = refl
append-one (x ∷ xs) y zs = ap (λ l. x ∷ l) (append-one xs y zs)

routines-more : (T : Typed) (earlier rs : List Routine) (r : Routine) → routines_fit T earlier rs ≡ true → routine_fits T (earlier ++ rs) r ≡ true → routines_fit T earlier (rs ++ r ∷ []) ≡ true
routines-more T earlier [] r all one = and_from _ _ (ap (λ l. routine_fits T l r) (sym (append-nil earlier)) ∙ one) refl
routines-more T earlier (x ∷ rs) r all one =
    let (first, rest) = and_parts (routine_fits T earlier x) (routines_fit T (earlier ++ x ∷ []) rs) all in
    and_from _ _ first (routines-more T (earlier ++ x ∷ []) rs r rest (ap (λ l. routine_fits T l r) (append-one earlier x rs) ∙ one))

-- what a part leaves, where it is part of a declaration
after-part : (T : Typed) (d : Declared) (l : Known) → IsGlobal T d → Grown d.known l → NamesFit (outer T d.known.routines) l → Fits (outer T l.routines) d.scope l
after-part T d l h g names = subst (λ rs. Fits (outer T rs) d.scope l) (sym (ap (λ p. p.1) g.lasts)) (moved h.fits g names)

global-known : (T : Typed) (d e : Declared) → IsGlobal T d → Grown d.known e.known → e.scope ≡ d.scope → Fits (outer T e.known.routines) e.scope e.known → IsGlobal T e
global-known T d e h g same fits =
    record {
      fits = fits;
      inner = ap (λ (s : Scope). s.inner) same ∙ h.inner;
      variables = ap (are_variables T.kinds) (ap (λ p. p.0) g.lasts) ∙ h.variables;
      routines = ap (routines_fit T []) (ap (λ p. p.1) g.lasts) ∙ h.routines;
    }

pub global-fits : (T : Typed) (one : Decl) (d : Declared) → IsGlobal T d → decl_spelled one ≡ true → own_repeats one ≡ [] → Held (globally_declared one d).known.kinds T.kinds → Held (globally_declared one d).known.globals T.globals → (globally_declared one d).faults ≡ [] → IsGlobal T (globally_declared one d)
global-fits T (decl.Constant name body) d h spelled once held globals none =
    let W = outer T d.known.routines in
    let F = number_found (is_constant d.scope d.known body) (place_of body) (found d.scope d.known body) in
    let body_once = (nil-parts (field_repeats body) [] once).0 in
    let clear = (nil-parts d.faults F.faults none).1 in
    let g = found-grown d.scope d.known body in
    let u = number-step W body (is_constant d.scope d.known body) (place_of body) (found d.scope d.known body) (λ clear. found-fits W d.scope d.known body h.fits spelled body_once held clear) clear in
    let fits = after-part T d F.known h g u.names in
    let r = global-known T d (record d { known = F.known; faults = d.faults ++ F.faults }) h g refl fits in
    record {
      fits = subst (λ o. Fits (outer T F.known.routines) d.scope (with_name F.known name.name (constant_meaning o))) (sym u.is) (with-global name.name (meaning.Constant u.number) fits u.fine);
      inner = h.inner;
      variables = r.variables;
      routines = r.routines;
    }
global-fits T (decl.TypeName name body) d h spelled once held globals none =
    let W = outer T d.known.routines in
    let naming = naming_of true d.scope.node name.name in
    let F = type_found d.scope d.known naming body in
    let body_once = (nil-parts (type_repeats body) [] once).0 in
    let clear = (nil-parts d.faults F.faults none).1 in
    let g = type-grown d.scope d.known naming body in
    let u = type-fits W d.scope d.known naming body h.fits spelled body_once held clear in
    let fits = after-part T d F.known h g u.names in
    let r = global-known T d (record d { known = F.known; faults = d.faults ++ F.faults }) h g refl fits in
    record {
      fits = subst (λ o. Fits (outer T F.known.routines) d.scope (with_name F.known name.name (type_meaning o))) (sym u.is) (with-global name.name (meaning.TypeName u.type) fits u.fine);
      inner = h.inner;
      variables = r.variables;
      routines = r.routines;
    }
global-fits T (decl.Variables names body) d h spelled once held globals none =
    let W = outer T d.known.routines in
    let F = type_found d.scope d.known Unnamed body in
    let e : Declared = record d { known = F.known; faults = d.faults ++ F.faults } in
    let body_once = (nil-parts (type_repeats body) [] once).0 in
    let clear = (nil-parts d.faults F.faults (sym (faults-same true names F.type e) ∙ none)).1 in
    let own = held-then F.known.kinds (declare_variables true names F.type e).known.kinds T.kinds ((names-more names F.type e).0) held in
    let g = type-grown d.scope d.known Unnamed body in
    let u = type-fits W d.scope d.known Unnamed body h.fits spelled body_once own clear in
    let r = global-known T d e h g refl (after-part T d F.known h g u.names) in
    let all = globals-named T names u.type e r u.fine (subst (λ o. Held (declare_variables true names o e).known.globals T.globals) u.is globals) in
    let there = subst (λ o. IsGlobal T (declare_variables true names o e)) (sym u.is) all in
    record { fits = there.fits; inner = there.inner; variables = there.variables; routines = there.routines }
global-fits T (decl.Routine' name formals result shape locals body) d h spelled once held globals none =
    let (s1, more1) = and_parts (list_all formal_spelled formals) (option_map_or type_spelled result true && (locals_spelled locals && list_all stmt_spelled body)) spelled in
    let (s2, more2) = and_parts (option_map_or type_spelled result true) (locals_spelled locals && list_all stmt_spelled body) more1 in
    let (s3, s4) = and_parts (locals_spelled locals) (list_all stmt_spelled body) more2 in
    let made_once = (nil-parts (repeats_in (formal_names formals ++ local_names locals)) (record_repeats (in_decl (decl.Routine' name formals result shape locals body))) once).1 in
    let clear = (nil-parts d.faults (routine_found d.scope d.known name formals result locals body).faults none).1 in
    let g = routine-grown d.scope d.known name.name formals result locals body in
    let r = routine-fits d.scope d.known name.name formals result locals body T h.inner h.fits.bound h.fits.names h.fits.formals s1 s2 s3 s4 made_once held clear in
    let after = (routine_found d.scope d.known name formals result locals body).known in
    record {
      fits = record {
        inner = subst (EntriesFit (outer T after.routines)) (sym h.inner) tt;
        names = subst (λ rs. Each (λ (e : Entry). NameFits T.kinds T.globals rs e.what) after.names) (sym r.routines) r.names;
        routines = refl;
        function = h.fits.function;
        bound = h.fits.bound;
        formals = subst FunctionsHaveNone (sym r.routines) r.formals;
      };
      inner = h.inner;
      variables = ap (are_variables T.kinds) (ap (λ p. p.0) g.lasts) ∙ h.variables;
      routines = ap (routines_fit T []) r.routines ∙ routines-more T [] d.known.routines _ h.routines r.fits;
    }

pub text-fits : (T : Typed) (decls : List Decl) (d : Declared) → IsGlobal T d → list_all decl_spelled decls ≡ true → flat_map own_repeats decls ≡ [] → Held (text_declared decls d).known.kinds T.kinds → Held (text_declared decls d).known.globals T.globals → (text_declared decls d).faults ≡ [] → IsGlobal T (text_declared decls d)
text-fits T [] d h spelled once held globals none = h
text-fits T (one ∷ rest) d h spelled once held globals none =
    let e = globally_declared one d in
    let (first, more) = and_parts (decl_spelled one) (list_all decl_spelled rest) spelled in
    let (first_once, rest_once) = nil-parts (own_repeats one) (flat_map own_repeats rest) once in
    let u = text-more rest e in
    let r = global-fits T one d h first first_once (held-then e.known.kinds (text_declared rest e).known.kinds T.kinds u.0 held) (held-then e.known.globals (text_declared rest e).known.globals T.globals u.1 globals) (text-clear rest e none) in
    text-fits T rest e r more rest_once held globals none
