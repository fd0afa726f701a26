-- Start states, rules and invariants of a flat protocol in a state. An item goes by its number in the
-- list of items, in text order from 0. After the Murphi manual: a rule is enabled where its guard is
-- true, and firing it runs its body as one step; a start state runs with every variable undefined.
use Rattle.std.specs.Prelude.{ℕ, Bool, true, false, List, Option, None, Some, slice_get}
use Rattle.murphi_ast.specs.declared.expr.Expr.{Expr}
use Rattle.murphi_ast.specs.declared.rule.RuleDecl.{RuleDecl, Rule, Start, Invariant}
use Rattle.murphi_ast.specs.declared.rule.Protocol.{Protocol}
use Rattle.murphi_ast.specs.State.{Name, State, variables, undefined_state}
use Rattle.murphi_ast.specs.Meaning.{Value, value_of, after_all}

-- what comes of firing an item in a state
pub data Firing : Type 0 where
  -- it is no such item, or its guard is false
  Disabled : Firing
  -- its guard faults, or is true and its body faults
  Faults : Firing
  -- its guard is true, and its body ends in this state
  Moves : State → Firing

-- the value of a guard, which is true where none is written
abbrev pub guard_value : List Name → State → Option Expr → Value
guard_value vs cells None = Some true
guard_value vs cells (Some guard) = value_of vs cells guard

-- how a body ends
abbrev pub ended : Option State → Firing
ended None = Faults
ended (Some next) = Moves next

-- a body behind a guard
abbrev pub guarded : Value → Firing → Firing
guarded None body = Faults
guarded (Some false) body = Disabled
guarded (Some true) body = body

-- firing a rule
abbrev pub fired : List Name → State → RuleDecl → Firing
fired vs cells (Rule title guard locals body at) = guarded (guard_value vs cells guard) (ended (after_all vs cells body))
fired vs cells _ = Disabled

-- running a start state
abbrev pub started : List Name → RuleDecl → Firing
started vs (Start title locals body at) = ended (after_all vs (undefined_state vs) body)
started vs _ = Disabled

abbrev pub at_item : (RuleDecl → Firing) → Option RuleDecl → Firing
at_item f None = Disabled
at_item f (Some r) = f r

-- what comes of firing item k as a rule in a state
abbrev pub rule_at : Protocol → ℕ → State → Firing
rule_at p k cells = at_item (fired (variables p) cells) (slice_get p.rules k)

-- what comes of running item k as a start state
abbrev pub start_at : Protocol → ℕ → Firing
start_at p k = at_item (started (variables p)) (slice_get p.rules k)

abbrev pub is_not_true : Value → Bool
is_not_true (Some true) = false
is_not_true _ = true

-- whether an item is an invariant that does not hold in a state: a fault makes it not hold
abbrev pub breaks : List Name → State → RuleDecl → Bool
breaks vs cells (Invariant title body at) = is_not_true (value_of vs cells body)
breaks vs cells _ = false

abbrev pub is_fault : Firing → Bool
is_fault Faults = true
is_fault _ = false

-- whether an item is a rule that faults in a state
abbrev pub faults : List Name → State → RuleDecl → Bool
faults vs cells r = is_fault (fired vs cells r)
