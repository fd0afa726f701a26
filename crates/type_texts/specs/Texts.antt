-- What is answered of a text: the typed protocol where it is not refused, else its one refusal.
use Rattle.std.specs.Prelude.{◌≡◌, ℕ, Bool, true, false, List, [], ◌∷◌, map, Option, None, Some, Result, Ok, Err}
use Rattle.murphi_ast.specs.declared.rule.RuleDecl.{RuleDecl}
use Rattle.murphi_ast.specs.declared.rule.Protocol.{Protocol}
use Rattle.murphi_typed.specs.Families.{Name}
use Rattle.murphi_typed.specs.declared.expr.Root.{Root}
use Rattle.murphi_typed.specs.declared.expr.Root.TheVariants as root
use Rattle.murphi_typed.specs.declared.protocol.NodeType.{NodeType}
use Rattle.murphi_typed.specs.declared.protocol.Start.{Start}
use Rattle.murphi_typed.specs.declared.protocol.Typed.{Typed}
use Rattle.murphi_types.specs.declared.fault.Fault.{Fault}
use Rattle.murphi_types.specs.Faults.{sooner, first_fault}
use Rattle.murphi_types.specs.Items.{items_found}
use Rattle.murphi_types.specs.Texts as text
use Rattle.murphi_types.specs.Texts.{Refusal, Placed, NoNodeType, NoStart, declarations_of, no_items}
use Rattle.murphi_types.specs.Texts.{around_nothing, items_of, declared_name, typed_text}
use Rattle.type_declarations.specs.declared.state.Declaring.{Declaring}
use Rattle.type_items.specs.declared.judged.JudgedItems.{JudgedItems}
use Rattle.type_items.specs.Gathering.{items_part}
use Rattle.type_texts.specs.declared.refusal.TypeRefusal.{TypeRefusal}
use Rattle.type_texts.specs.declared.refusal.TypeRefusal.TheVariants as refusal
use Rattle.type_texts.specs.Refusing.{told}

-- how a refusal is told
abbrev pub told_refusal : Refusal → TypeRefusal
told_refusal (Placed f) = told f
told_refusal NoNodeType = refusal.E13
told_refusal NoStart = refusal.E09

-- want of memory, or the refusal if there is one
pub data TellsRefusal (why : Option Refusal) : TypeRefusal → Type 0 where
  lacks_memory : TellsRefusal why refusal.Memory
  refused_by : (r : Refusal) → why ≡ Some r → TellsRefusal why (told_refusal r)

abbrev pub TextAnswers : Option Name → Protocol → Result Typed TypeRefusal → Type 0
TextAnswers node P (Ok T) = (text.refusal node P ≡ None) × (T ≡ typed_text node P)
TextAnswers node P (Err r) = TellsRefusal (text.refusal node P) r

-- the number of a global; a name that declares another variable is not used
abbrev pub global_number : Root → ℕ
global_number (root.Global k) = k
global_number _ = 0

abbrev pub no_starts : List Start → Bool
no_starts [] = true
no_starts (one ∷ rest) = false

-- the typed protocol of items, with what the text has declared
abbrev pub typed_of : Option NodeType → JudgedItems → Typed
typed_of node items =
    record {
      names = map declared_name items.known.names;
      kinds = items.known.kinds;
      node = node;
      globals = items.known.globals;
      routines = items.known.routines;
      weights = items.known.weights;
      starts = items.starts;
      rules = items.rules;
      invariants = items.invariants;
    }

-- items that stand where declarations leave off
abbrev pub items_after : Declaring → Option Name → List RuleDecl → JudgedItems
items_after D size rules =
    items_part (items_found (around_nothing D.context.scope size) rules (no_items D.context.known))

-- the first fault of declarations, their limits, and items
abbrev pub parts_fault : Option Name → Protocol → Option Fault
parts_fault node P =
    sooner (first_fault (declarations_of node P).faults)
    (sooner (first_fault (declarations_of node P).limits) (first_fault (items_of node P).faults))
