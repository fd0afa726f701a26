-- Texts that are not refused are typed as well-typed protocols.
use Rattle.std.proofs.Common.{◌≡◌, Bool, true, false, List, [], ◌∷◌, ◌++◌, Option, None, Some, refl, sym, ap, subst, ◌∙◌}
use Rattle.std.specs.Prelude.{if◌then◌else◌}
use Rattle.std.specs.List.{list_all, flat_map}
use Rattle.std.proofs.lemmas.Bool.{and_parts, and_from}
use Rattle.murphi_ast.specs.declared.rule.Protocol.{Protocol}
use Rattle.murphi_typed.specs.Families.{Name}
use Rattle.murphi_typed.specs.declared.protocol.Typed.{Typed}
use Rattle.murphi_typed.specs.WellTyped.{are_variables, routines_fit, is_well_typed}
use Rattle.murphi_types.specs.declared.fault.Fault.{Fault}
use Rattle.murphi_types.specs.declared.scope.Entry.{Entry}
use Rattle.murphi_types.specs.Faults.{is_before, sooner, first_fault}
use Rattle.murphi_types.specs.Repeats.{repeats_in}
use Rattle.murphi_types.specs.Written.{global_names, enums_in, in_item, own_repeats, record_repeats, local_repeats, text_repeats}
use Rattle.murphi_types.specs.Declarations.{Declared}
use Rattle.murphi_types.specs.Items.{Around, FoundItems}
use Rattle.murphi_types.specs.Texts.{text_scope, nothing_known, declarations_of, no_items, around_nothing, size_name, items_of, faults_of, Refusal, later_refusal, refused, refusal, typed_text}
use Rattle.typing_sound.specs.Spelled.{decl_spelled, item_spelled, text_spelled}
use Rattle.typing_sound.specs.Sound.{TextsAreWellTyped}
use Rattle.typing_sound.proofs.Grown.{Held, Grown}
use Rattle.typing_sound.proofs.Fits.{Each, NameFits, FunctionsHaveNone}
use Rattle.typing_sound.proofs.Tests.{nil-parts}
use Rattle.typing_sound.proofs.Globals.{IsGlobal, text-fits}
use Rattle.typing_sound.proofs.Items.{IsAround, AreItems, items-grown, items-fit}

-- There are no faults

sooner-some : (f : Fault) (o : Option Fault) → sooner (Some f) o ≡ None → ⊥
sooner-some f None e = cc
sooner-some f (Some g) e = go (is_before g f) e
  where
    go : (b : Bool) → (if b then Some g else Some f) ≡ None → ⊥
    go true e = cc
    go false e = cc

none-first : (fs : List Fault) → first_fault fs ≡ None → fs ≡ []
none-first [] e = refl
none-first (f ∷ fs) e = absurd (sooner-some f (first_fault fs) e)

not-refused : (first : Option Fault) (later : Option Refusal) → refused first later ≡ None → first ≡ None
not-refused None later e = refl
not-refused (Some f) later e = cc

pub no-faults : (node : Option Name) (P : Protocol) → refusal node P ≡ None → faults_of node P ≡ []
no-faults node P e = none-first (faults_of node P) (not-refused (first_fault (faults_of node P)) (later_refusal node P) e)

no-functions : FunctionsHaveNone []
no-functions number r e function = cc

module _ (node : Option Name) (P : Protocol) (spelled : text_spelled P ≡ true) (fine : refusal node P ≡ None) where
  abbrev T : Typed
  T = typed_text node P

  abbrev D : Declared
  D = declarations_of node P

  abbrev around : Around
  around = around_nothing (text_scope node P) (size_name node P)

  abbrev I : FoundItems
  I = items_of node P

  abbrev start : Declared
  start = record { scope = text_scope node P; known = nothing_known; locals = []; faults = []; limits = [] }

  grown : Grown D.known I.known
  grown = items-grown around P.rules (no_items D.known)

  globals : T.globals ≡ D.known.globals
  globals = ap (λ p. p.0) grown.lasts

  routines : T.routines ≡ D.known.routines
  routines = ap (λ p. p.1) grown.lasts

  all_spelled : (list_all decl_spelled P.decls ≡ true) × (list_all item_spelled P.rules ≡ true)
  all_spelled = and_parts (list_all decl_spelled P.decls) (list_all item_spelled P.rules) spelled

  clear : (D.faults ≡ []) × ((I.faults ≡ []) × (text_repeats P.decls P.rules ≡ []))
  clear =
      let (decls, more) = nil-parts D.faults (D.limits ++ (I.faults ++ text_repeats P.decls P.rules)) (no-faults node P fine) in
      let (limits, rest) = nil-parts D.limits (I.faults ++ text_repeats P.decls P.rules) more in
      (decls, nil-parts I.faults (text_repeats P.decls P.rules) rest)

  once : (flat_map own_repeats P.decls ≡ []) × (record_repeats (flat_map in_item P.rules) ≡ [])
  once =
      let (names, more) = nil-parts (repeats_in (flat_map global_names P.decls ++ enums_in (flat_map in_item P.rules))) (flat_map own_repeats P.decls ++ (record_repeats (flat_map in_item P.rules) ++ flat_map local_repeats P.rules)) clear.1.1 in
      let (own, rest) = nil-parts (flat_map own_repeats P.decls) (record_repeats (flat_map in_item P.rules) ++ flat_map local_repeats P.rules) more in
      (own, (nil-parts (record_repeats (flat_map in_item P.rules)) (flat_map local_repeats P.rules) rest).0)

  first : IsGlobal T start
  first =
      record {
        fits = record { inner = tt; names = tt; routines = refl; function = refl; bound = refl; formals = no-functions };
        inner = refl;
        variables = refl;
        routines = refl;
      }

  declared : IsGlobal T D
  declared =
      text-fits T P.decls start first all_spelled.0 once.0 grown.kinds
      (subst (λ gs. Held gs T.globals) globals (λ i x e. e)) clear.0

  names : Each (λ (e : Entry). NameFits T.kinds T.globals T.routines e.what) D.known.names
  names = subst (λ rs. Each (λ (e : Entry). NameFits T.kinds T.globals rs e.what) D.known.names) (sym routines) declared.fits.names

  pub functions : FunctionsHaveNone T.routines
  functions = subst FunctionsHaveNone (sym routines) declared.fits.formals

  outermost : IsAround T around D.known
  outermost =
      record {
        fits = record { inner = tt; names = names; routines = sym routines; function = refl; bound = refl; formals = functions };
        params = refl;
      }

  pub items : AreItems T I
  items =
      items-fit T around P.rules (no_items D.known) outermost (record { names = names; starts = refl; rules = refl; invariants = refl }) all_spelled.1 once.1 (λ i x e. e) clear.1.0

  pub well-typed : is_well_typed T ≡ true
  well-typed =
      and_from _ _ (ap (are_variables T.kinds) globals ∙ declared.variables)
      (and_from _ _ (ap (routines_fit T []) routines ∙ declared.routines)
      (and_from _ _ items.starts (and_from _ _ items.rules items.invariants)))

pub texts : TextsAreWellTyped
texts node P spelled fine = well-typed node P spelled fine
