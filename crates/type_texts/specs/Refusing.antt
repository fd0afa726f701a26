-- What is answered where there are faults: nothing but the first of them.
use Rattle.std.specs.Prelude.{◌≡◌, List, [], Some, Result, Ok, Err}
use Rattle.murphi_ast.specs.declared.token.Span.{Span}
use Rattle.murphi_types.specs.declared.fault.Cause.{Cause}
use Rattle.murphi_types.specs.declared.fault.Cause.TheVariants as cause
use Rattle.murphi_types.specs.declared.fault.Fault.{Fault}
use Rattle.murphi_types.specs.Faults.{first_fault}
use Rattle.type_texts.specs.declared.refusal.TypeRefusal.{TypeRefusal}
use Rattle.type_texts.specs.declared.refusal.TypeRefusal.TheVariants as refusal

-- a fault, by its code and place; a limit that is passed by the quantity, its count and the limit
abbrev pub told_as : Cause → Span → TypeRefusal
told_as cause.E05 at = refusal.E05 at
told_as cause.E06 at = refusal.E06 at
told_as cause.E07 at = refusal.E07 at
told_as cause.E08 at = refusal.E08 at
told_as cause.E10 at = refusal.E10 at
told_as cause.E11 at = refusal.E11 at
told_as cause.E14 at = refusal.E14 at
told_as (cause.E16 quantity count limit) at = refusal.E16 quantity count limit

abbrev pub told : Fault → TypeRefusal
told f = told_as f.cause f.at

-- a refusal is want of memory, or tells the first fault of a list
pub data TellsFirst (faults : List Fault) : TypeRefusal → Type 0 where
  wants_memory : TellsFirst faults refusal.Memory
  first_of : (f : Fault) → first_fault faults ≡ Some f → TellsFirst faults (told f)

-- the typed part, where there are no faults, else the first of them
abbrev pub Answers : {A : Type 0} → List Fault → A → Result A TypeRefusal → Type 0
Answers faults typed (Ok part) = (faults ≡ []) × (part ≡ typed)
Answers faults typed (Err refused) = TellsFirst faults refused
