-- Names of a lemma.
use Rattle.std.proofs.Common.{◌≡◌, Bool, true, false, ◌||◌, List, [], ◌∷◌, ◌++◌, map, Option, None, Some, refl, ap, sym, ◌∙◌, append_assoc, append-nil}
use Rattle.std.specs.Prelude.{is_some, if◌then◌else◌}
use Rattle.std.specs.Str.{bytes_eq}
use Rattle.murphi_ast.specs.declared.expr.Named.{Named}
use Rattle.murphi_ast.specs.declared.expr.Expr.{Expr}
use Rattle.murphi_typed.specs.declared.protocol.Declared.{Declared}
use Rattle.murphi_typed.specs.Families.{Name}
use Rattle.murphi_types.specs.declared.fault.Fault.{Fault}
use Rattle.murphi_types.specs.declared.scope.Meaning.{Meaning}
use Rattle.murphi_types.specs.declared.scope.Meaning.TheVariants as meaning
use Rattle.murphi_types.specs.declared.scope.Entry.{Entry}
use Rattle.murphi_types.specs.Faults.{sooner, first_fault}
use Rattle.murphi_types.specs.Repeats.{is_among, repeats, enum_names, field_repeats}
use Rattle.murphi_types.specs.Scopes.{earliest, entry}
use Rattle.murphi_types.specs.Uses.{uses_in}
use Rattle.type_parts.proofs.FaultLemmas.{first-append}
use Rattle.type_names.specs.declared.scope.Scoped.{Scoped}
use Rattle.type_names.specs.declared.gathered.Gathered.{Gathered}
use Rattle.type_names.specs.Scoping.{all_declared}
use Rattle.type_names.specs.Laws.{HasNames}
use Rattle.type_names.specs.Gathering.{in_expr}
use Rattle.type_names.specs.Known.{with_known, known_scope, gathered_of}
use Rattle.type_names.proofs.ScopeLemmas.{repeats-are}

abbrev pub named_entry : Declared → Entry
named_entry g = entry g.name meaning.Refused

known-are : (es : List Entry) (gs : List Declared) → with_known es gs ≡ es ++ map named_entry gs
known-are es [] = sym (append-nil es)
known-are es (g ∷ gs) = known-are (es ++ named_entry g ∷ []) gs ∙ append_assoc es (named_entry g ∷ []) (map named_entry gs)

found-is : (gs : List Declared) (name : Name) → is_some (earliest (map named_entry gs) name) ≡ is_among name (map (λ (g : Declared). g.name) gs)
found-is [] name = refl
found-is (g ∷ gs) name = go (bytes_eq g.name name) (found-is gs name)
  where
    go : (b : Bool) → is_some (earliest (map named_entry gs) name) ≡ is_among name (map (λ (g : Declared). g.name) gs) → is_some (if b then Some meaning.Refused else earliest (map named_entry gs) name) ≡ (b || is_among name (map (λ (g : Declared). g.name) gs))
    go true h = refl
    go false h = h

pub has-known : (gs : List Declared) → HasNames (known_scope gs) (map (λ (g : Declared). g.name) gs)
has-known gs name = ap (λ es. is_some (earliest es name)) (known-are [] gs) ∙ found-is gs name

none-sooner : (f : Option Fault) → sooner None f ≡ f
none-sooner None = refl
none-sooner (Some f) = refl

pub lemma-repeats-are : (name : Name) (e : Expr) (gs : List Declared) →
    sooner (gathered_of name e (known_scope gs)).global.fault (gathered_of name e (known_scope gs)).fault
    ≡ first_fault (repeats (map (λ (g : Declared). g.name) gs) (enum_names e) ++ field_repeats e)
unfolding in_expr
lemma-repeats-are name e gs =
    let before = map (λ (g : Declared). g.name) gs in
    ap (λ f. sooner f (sooner None (first_fault (field_repeats e)))) (repeats-are (known_scope gs) before (has-known gs) (enum_names e) ∙ none-sooner (first_fault (repeats before (enum_names e))))
    ∙ ap (sooner (first_fault (repeats before (enum_names e)))) (none-sooner (first_fault (field_repeats e)))
    ∙ sym (first-append (repeats before (enum_names e)) (field_repeats e))

pub lemma-uses-are : (name : Name) (e : Expr) (D : Scoped) → (gathered_of name e D).uses ≡ uses_in name e
unfolding in_expr
lemma-uses-are name e D = refl

pub ruleset formulas = (lemma-repeats-are, lemma-uses-are)
