-- When the names in scope fit what the meaning asks for, and what is found of parts.
use Rattle.std.proofs.Common.{◌≡◌, ℕ, suc, Bool, true, false, not, List, [], ◌∷◌, ◌++◌, length, Option, None, Some, refl, sym, ap, ◌∙◌}
use Rattle.std.specs.Prelude.{nat_lt, is_some, slice_get, if◌then◌else◌}
use Rattle.std.specs.List.{list_all}
use Rattle.std.specs.Str.{bytes_eq}
use Rattle.term_core.specs.Values.{is_number}
use Rattle.murphi_typed.specs.Families.{Name}
use Rattle.murphi_typed.specs.declared.types.Kind.{Kind}
use Rattle.murphi_typed.specs.declared.types.Kind.TheVariants as kind
use Rattle.murphi_typed.specs.declared.types.Simple.{Simple}
use Rattle.murphi_typed.specs.declared.types.AnyType.{AnyType}
use Rattle.murphi_typed.specs.declared.expr.Root.{Root}
use Rattle.murphi_typed.specs.declared.expr.Root.TheVariants as root
use Rattle.murphi_typed.specs.declared.protocol.Formal.{Formal}
use Rattle.murphi_typed.specs.declared.protocol.Routine.{Routine}
use Rattle.murphi_typed.specs.declared.protocol.Variable.{Variable}
use Rattle.murphi_typed.specs.WellTyped.{widened, is_simple_type, is_type, root_type, variable_type, is_function}
use Rattle.murphi_typed.specs.WellTyped as well
use Rattle.murphi_types.specs.declared.scope.Meaning.{Meaning}
use Rattle.murphi_types.specs.declared.scope.Meaning.TheVariants as meaning
use Rattle.murphi_types.specs.declared.scope.Entry.{Entry}
use Rattle.murphi_types.specs.declared.scope.Known.{Known}
use Rattle.murphi_types.specs.declared.scope.Scope.{Scope}
use Rattle.murphi_types.specs.Scopes.{earliest, latest, or_else, looked, binding, entry}
use Rattle.typing_sound.proofs.Grown.{Grown, held-more}

-- Lists

abbrev pub Each : {A : Type 0} → (A → Type 0) → List A → Type 0
Each P [] = Unit {0}
Each P (x ∷ xs) = P x × Each P xs

pub each-more : {A : Type 0} (P : A → Type 0) (xs ys : List A) → Each P xs → Each P ys → Each P (xs ++ ys)
each-more P [] ys u v = v
each-more P (x ∷ xs) ys u v = (u.0, each-more P xs ys u.1 v)

pub each-map : {A : Type 0} (P Q : A → Type 0) → ((x : A) → P x → Q x) → (xs : List A) → Each P xs → Each Q xs
each-map P Q f [] u = tt
each-map P Q f (x ∷ xs) u = (f x u.0, each-map P Q f xs u.1)

pub get-last : {A : Type 0} (xs : List A) (y : A) → slice_get (xs ++ y ∷ []) (length xs) ≡ Some y
get-last [] y = refl
get-last (x ∷ xs) y = get-last xs y

pub length-last : {A : Type 0} (xs : List A) (y : A) → length (xs ++ y ∷ []) ≡ suc (length xs)
length-last [] y = refl
length-last (x ∷ xs) y = ap suc (length-last xs y)

-- Names

-- what a root stands for in the whole text
abbrev pub GlobalFits : List Kind → List Variable → Root → AnyType → Type 0
GlobalFits kinds globals (root.Global j) of = (variable_type (slice_get globals j) ≡ Some of) × (is_type kinds of ≡ true)
GlobalFits kinds globals (root.Local j) of = ⊥
GlobalFits kinds globals (root.Formal j) of = ⊥
GlobalFits kinds globals (root.Place j) of = ⊥

-- an enum name is one of its kind
abbrev pub MemberFits : List Kind → ℕ → ℕ → ℕ → Type 0
MemberFits kinds number index count =
    (names : List Name) × (slice_get kinds number ≡ Some (kind.Listed names)) × (length names ≡ count) × (nat_lt index count ≡ true)

-- what a name of the whole text stands for
abbrev pub NameFits : List Kind → List Variable → List Routine → Meaning → Type 0
NameFits kinds globals routines meaning.Refused = ⊥
NameFits kinds globals routines (meaning.Constant n) = is_number n ≡ true
NameFits kinds globals routines (meaning.TypeName type) = is_type kinds type ≡ true
NameFits kinds globals routines (meaning.Variable root of) = GlobalFits kinds globals root of
NameFits kinds globals routines (meaning.Bound number over) = ⊥
NameFits kinds globals routines (meaning.Member number index count) = MemberFits kinds number index count
NameFits kinds globals routines (meaning.Routine number) = is_some (slice_get routines number) ≡ true

-- and what any name in scope stands for
abbrev pub MeaningFits : well.Scope → Meaning → Type 0
MeaningFits W meaning.Refused = ⊥
MeaningFits W (meaning.Constant n) = is_number n ≡ true
MeaningFits W (meaning.TypeName type) = is_type W.kinds type ≡ true
MeaningFits W (meaning.Variable root of) = (root_type W root ≡ Some of) × (is_type W.kinds of ≡ true)
MeaningFits W (meaning.Bound number over) = (slice_get W.bound number ≡ Some over) × (is_simple_type W.kinds over ≡ true)
MeaningFits W (meaning.Member number index count) = MemberFits W.kinds number index count
MeaningFits W (meaning.Routine number) = is_some (slice_get W.routines number) ≡ true

pub name-meaning : (W : well.Scope) (m : Meaning) → NameFits W.kinds W.globals W.routines m → MeaningFits W m
name-meaning W meaning.Refused h = absurd h
name-meaning W (meaning.Variable (root.Local j) of) h = absurd h
name-meaning W (meaning.Variable (root.Formal j) of) h = absurd h
name-meaning W (meaning.Variable (root.Place j) of) h = absurd h
name-meaning W (meaning.Bound number over) h = absurd h
name-meaning W (meaning.Constant n) h = h
name-meaning W (meaning.TypeName type) h = h
name-meaning W (meaning.Variable (root.Global j) of) h = h
name-meaning W (meaning.Member number index count) h = h
name-meaning W (meaning.Routine number) h = h

abbrev pub EntriesFit : well.Scope → List Entry → Type 0
EntriesFit W entries = Each (λ (e : Entry). MeaningFits W e.what) entries

abbrev pub NamesFit : well.Scope → Known → Type 0
NamesFit W k = Each (λ (e : Entry). NameFits W.kinds W.globals W.routines e.what) k.names

-- functions have no `var` formals
abbrev pub FunctionsHaveNone : List Routine → Type 0
FunctionsHaveNone routines =
    (number : ℕ) (r : Routine) → slice_get routines number ≡ Some r → is_some r.result ≡ true
    → list_all (λ (f : Formal). not f.by_place) r.formals ≡ true

-- a place of the text, as typing sees it and as the meaning does
pub record Fits (W : well.Scope) (s : Scope) (k : Known) : Type 0 where
  pub inner : EntriesFit W s.inner
  pub names : NamesFit W k
  pub routines : k.routines ≡ W.routines
  pub function : s.in_function ≡ is_function W.exit
  pub bound : s.bound ≡ length W.bound
  pub formals : FunctionsHaveNone W.routines

-- what a name stands for, if it stands for anything
abbrev pub WhatFits : well.Scope → Option Meaning → Type 0
WhatFits W None = Unit {0}
WhatFits W (Some m) = MeaningFits W m

or-fits : (W : well.Scope) (o p : Option Meaning) → WhatFits W o → WhatFits W p → WhatFits W (or_else o p)
or-fits W None p u v = v
or-fits W (Some m) p u v = u

if-fits : (W : well.Scope) (b : Bool) (m : Meaning) (o : Option Meaning) → MeaningFits W m → WhatFits W o → WhatFits W (if b then Some m else o)
if-fits W true m o u v = u
if-fits W false m o u v = v

latest-fits : (W : well.Scope) (es : List Entry) (name : Name) → EntriesFit W es → WhatFits W (latest es name)
latest-fits W [] name u = tt
latest-fits W (e ∷ es) name u =
    or-fits W (latest es name) (if bytes_eq e.name name then Some e.what else None) (latest-fits W es name u.1)
    (if-fits W (bytes_eq e.name name) e.what None u.0 tt)

earliest-fits : (W : well.Scope) (es : List Entry) (name : Name) → Each (λ (e : Entry). NameFits W.kinds W.globals W.routines e.what) es → WhatFits W (earliest es name)
earliest-fits W [] name u = tt
earliest-fits W (e ∷ es) name u = if-fits W (bytes_eq e.name name) e.what (earliest es name) (name-meaning W e.what u.0) (earliest-fits W es name u.1)

pub looked-fits : (W : well.Scope) (s : Scope) (k : Known) (name : Name) → Fits W s k → WhatFits W (looked s k name)
looked-fits W s k name h =
    or-fits W (latest s.inner name) (earliest k.names name) (latest-fits W s.inner name h.inner) (earliest-fits W k.names name h.names)

-- after a part
pub moved : {W : well.Scope} {s : Scope} {k l : Known} → Fits W s k → Grown k l → NamesFit W l → Fits W s l
moved h g names =
    record {
      inner = h.inner;
      names = names;
      routines = ap (λ p. p.1) g.lasts ∙ h.routines;
      function = h.function;
      bound = h.bound;
      formals = h.formals;
    }

bound-meaning : (W : well.Scope) (over : Simple) (m : Meaning) → MeaningFits W m → MeaningFits (well.binding W over) m
bound-meaning W over meaning.Refused h = absurd h
bound-meaning W over (meaning.Constant n) h = h
bound-meaning W over (meaning.TypeName type) h = h
bound-meaning W over (meaning.Variable (root.Global j) of) h = h
bound-meaning W over (meaning.Variable (root.Local j) of) h = h
bound-meaning W over (meaning.Variable (root.Formal j) of) h = h
bound-meaning W over (meaning.Variable (root.Place j) of) h = h
bound-meaning W over (meaning.Bound number of) h = (held-more W.bound (over ∷ []) number of h.0, h.1)
bound-meaning W over (meaning.Member number index count) h = h
bound-meaning W over (meaning.Routine number) h = h

-- inside a quantifier or a `for`
pub bound-fits : {W : well.Scope} {s : Scope} {k : Known} (name : Name) (over : Simple) → Fits W s k → is_simple_type W.kinds over ≡ true → Fits (well.binding W over) (binding s name (Some over)) k
bound-fits {W = W} {s = s} name over h simple =
    record {
      inner = each-more (λ (e : Entry). MeaningFits (well.binding W over) e.what) s.inner (entry name (meaning.Bound s.bound over) ∷ [])
          (each-map (λ (e : Entry). MeaningFits W e.what) (λ (e : Entry). MeaningFits (well.binding W over) e.what) (λ e u. bound-meaning W over e.what u) s.inner h.inner)
          ((ap (slice_get (W.bound ++ over ∷ [])) h.bound ∙ get-last W.bound over, simple), tt);
      names = h.names;
      routines = h.routines;
      function = h.function;
      bound = ap suc h.bound ∙ sym (length-last W.bound over);
      formals = h.formals;
    }
