-- The names of a scope: those of lists one after the other, and the first fault.
use Rattle.std.proofs.Common.{◌≡◌, ℕ, Bool, true, false, not, ◌||◌, List, [], ◌∷◌, ◌++◌, Option, None, Some, refl, ap, sym, ◌∙◌}
use Rattle.std.specs.Prelude.{is_some, if◌then◌else◌}
use Rattle.std.specs.Str.{bytes_eq}
use Rattle.murphi_ast.specs.declared.token.Span.{Span}
use Rattle.murphi_ast.specs.declared.expr.Named.{Named}
use Rattle.murphi_ast.specs.declared.expr.FieldDecl.{FieldDecl}
use Rattle.murphi_typed.specs.Families.{Name}
use Rattle.murphi_types.specs.declared.fault.Cause.{Cause}
use Rattle.murphi_types.specs.declared.fault.Cause.TheVariants as cause
use Rattle.murphi_types.specs.declared.fault.Fault.{Fault}
use Rattle.murphi_types.specs.declared.scope.Meaning.{Meaning}
use Rattle.murphi_types.specs.declared.scope.Meaning.TheVariants as meaning
use Rattle.murphi_types.specs.declared.scope.Entry.{Entry}
use Rattle.murphi_types.specs.Faults.{sooner, first_fault, unless}
use Rattle.murphi_types.specs.Scopes.{earliest, or_else, entry}
use Rattle.murphi_types.specs.Repeats.{is_among, repeats, repeats_in}
use Rattle.type_parts.specs.Judging.{own}
use Rattle.type_parts.proofs.FaultLemmas.{sooner-assoc, sooner-none, first-append, first-unless}
use Rattle.type_names.specs.declared.scope.Scoped.{Scoped}
use Rattle.type_names.specs.Scoping.{no_names, declared_in, all_declared, names_of_fields, fields_declared}
use Rattle.type_names.specs.Laws.{HasNames, RepeatsAreFound}

pub all-append : (D : Scoped) (xs ys : List Named) → all_declared D (xs ++ ys) ≡ all_declared (all_declared D xs) ys
all-append D [] ys = refl
all-append D (x ∷ xs) ys = all-append (declared_in D x) xs ys

pub fields-are : (D : Scoped) (fs : List FieldDecl) → fields_declared D fs ≡ all_declared D (names_of_fields fs)
fields-are D [] = refl
fields-are D (f ∷ fs) = fields-are (all_declared D f.names) fs ∙ sym (all-append D f.names (names_of_fields fs))

-- an entry at the end is found where no other is, or that one
last-found : (es : List Entry) (e : Entry) (name : Name) → is_some (earliest (es ++ e ∷ []) name) ≡ (bytes_eq e.name name || is_some (earliest es name))
last-found [] e name = go (bytes_eq e.name name)
  where
    go : (b : Bool) → is_some (if b then Some e.what else None) ≡ (b || false)
    go true = refl
    go false = refl
last-found (x ∷ es) e name = go (bytes_eq x.name name) (bytes_eq e.name name) (last-found es e name)
  where
    go : (b c : Bool) → is_some (earliest (es ++ e ∷ []) name) ≡ (c || is_some (earliest es name)) → is_some (if b then Some x.what else earliest (es ++ e ∷ []) name) ≡ (c || is_some (if b then Some x.what else earliest es name))
    go true true h = refl
    go true false h = refl
    go false c h = h

more-names : (D : Scoped) (before : List Name) (n : Named) → HasNames D before → HasNames (declared_in D n) (n.name ∷ before)
more-names D before n has name =
    last-found D.names (entry n.name meaning.Refused) name ∙ ap (λ b. bytes_eq n.name name || b) (has name)

pub repeats-are : RepeatsAreFound
repeats-are D before has [] = sym (sooner-none D.fault)
repeats-are D before has (n ∷ ns) =
    repeats-are (declared_in D n) (n.name ∷ before) (more-names D before n has) ns
    ∙ ap (λ b. sooner (sooner D.fault (own (not b) cause.E06 n.at)) (first_fault (repeats (n.name ∷ before) ns))) (has n.name)
    ∙ sooner-assoc D.fault (own (not (is_among n.name before)) cause.E06 n.at) (first_fault (repeats (n.name ∷ before) ns))
    ∙ ap (λ o. sooner D.fault (sooner o (first_fault (repeats (n.name ∷ before) ns)))) (sym (first-unless (not (is_among n.name before)) cause.E06 n.at))
    ∙ ap (sooner D.fault) (sym (first-append (unless (not (is_among n.name before)) cause.E06 n.at) (repeats (n.name ∷ before) ns)))

none-yet : HasNames no_names []
none-yet name = refl

pub repeats-in-are : (ns : List Named) → (all_declared no_names ns).fault ≡ first_fault (repeats_in ns)
repeats-in-are ns = repeats-are no_names [] none-yet ns ∙ go (first_fault (repeats_in ns))
  where
    go : (o : Option Fault) → sooner None o ≡ o
    go None = refl
    go (Some f) = refl

pub ruleset scopes = (sooner-none, first-unless)
