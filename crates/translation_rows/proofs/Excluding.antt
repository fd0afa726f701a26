-- A machine with one rule that leads to another state than the protocol does does not present it.
use Rattle.std.proofs.Common.{◌≡◌, ℕ, zero, suc, ◌≤◌, Bool, true, false, ◌&&◌, List, [], ◌∷◌, length, None, Some, refl, sym, ap, ◌∙◌, subst, arith}
use Rattle.std.specs.Prelude.{slice_get}
use Rattle.std.proofs.lemmas.Bool.{and_parts}
use denote.Hole.Carrier.{hidden}
use Rattle.term_core.specs.declared.term.Term.TheBlock.{hidden-the_row-Term-0, shape-the_row-Term-1, hidden-the_row-Term-1}
use Rattle.term_core.specs.declared.value.Value.{Value}
use Rattle.term_core.specs.declared.value.Value.TheVariants as value
use Rattle.term_core.specs.declared.machine.TermRule.{TermRule}
use Rattle.term_core.specs.declared.machine.TermMachine.{TermMachine}
use Rattle.term_core.specs.Meaning.{value_of as term_value}
use Rattle.term_core.specs.Firing.{next_state}
use Rattle.murphi_typed.specs.declared.protocol.Rule.{Rule}
use Rattle.murphi_typed.specs.declared.protocol.Typed.{Typed}
use Rattle.murphi_typed.specs.Values.{may_hold}
use Rattle.murphi_typed.specs.Families.{Cell, cells, ways, leaf_at}
use Rattle.murphi_typed.specs.Outcome.{Got}
use Rattle.murphi_typed.specs.Expressions.{value_of}
use Rattle.murphi_typed.specs.Execution.{run}
use Rattle.murphi_typed.specs.Steps.{State, are_parameters, fired}
use Rattle.murphi_typed.specs.Keeping.{IsState}
use Rattle.rule_inline.specs.Presents.{state_over, FiresAs, Presents}
use Rattle.translation_rows.specs.Formals as formals
use Rattle.translation_rows.specs.Places as places
use Rattle.translation_rows.specs.Writes as writes

slice_none : {A X : Type 0} {x : A} → None ≡ Some x → X
slice_none e = cc

some_same : {A : Type 0} {a b : A} → Some a ≡ Some b → a ≡ b
some_same e = cc

-- a value for each cell, which it may hold
abbrev pub held : ℕ → List Cell → List Value → Bool
held N [] [] = true
held N (c ∷ cs) (v ∷ vs) = may_hold N c.way.leaf v && held N cs vs
held N _ _ = false

held_at : (N : ℕ) (cs : List Cell) (vs : List Value) (k : ℕ) (c : Cell) (v : Value) → held N cs vs ≡ true → slice_get cs k ≡ Some c → slice_get vs k ≡ Some v → may_hold N c.way.leaf v ≡ true
held_at N [] vs k c v all e f = slice_none e
held_at N (d ∷ cs) [] k c v all e f = slice_none f
held_at N (d ∷ cs) (w ∷ vs) zero c v all e f =
    ap (λ z. may_hold N z.way.leaf v) (sym (some_same e)) ∙ ap (may_hold N d.way.leaf) (sym (some_same f)) ∙ (and_parts (may_hold N d.way.leaf w) (held N cs vs) all).0
held_at N (d ∷ cs) (w ∷ vs) (suc k) c v all e f = held_at N cs vs k c v (and_parts (may_hold N d.way.leaf w) (held N cs vs) all).1 e f

is_state : (N : ℕ) (T : Typed) (s : State) → length s ≡ length (cells N T) → held N (cells N T) s ≡ true → IsState N T s
is_state N T s count all = record { count = count; values = λ k c v e f. held_at N (cells N T) s k c v all e f }

only_rule : (wrong : TermRule) (k : ℕ) (r : TermRule) → slice_get (wrong ∷ []) k ≡ Some r → wrong ≡ r
only_rule wrong zero r e = some_same e
only_rule wrong (suc k) r e = slice_none e

excluded : (T : Typed) (m : TermMachine) (rule : Rule) (wrong : TermRule) (s next : State) → slice_get T.rules 0 ≡ Some rule → m.rules ≡ wrong ∷ [] → are_parameters 1 rule.params [] ≡ true → IsState 1 T s → fired 1 T rule [] s ≡ Got (Some next)
    → (state_over 1 T m.families next ≡ next_state 1 m.families (state_over 1 T m.families s) wrong [] → ⊥) → Presents T m → ⊥
excluded T m rule wrong s next first rules fits state leads differ presents =
    let one : 1 ≤ 1 = omega arith in
    let (r, ns, has) = presents.rules 1 0 rule [] one first fits in
    let same : has.rule ≡ rule = some_same (sym has.found ∙ first) in
    let is : wrong ≡ r = only_rule wrong has.is_instance.number r (sym (ap (λ rs. slice_get rs has.is_instance.number) rules) ∙ has.is_instance.found) in
    let fires : FiresAs 1 T m s r ns (fired 1 T has.rule [] s) = has.fires s state in
    let moved : FiresAs 1 T m s r ns (Got (Some next)) = subst (FiresAs 1 T m s r ns) (ap (λ z. fired 1 T z [] s) same ∙ leads) fires in
    differ (moved.1.next ∙ ap (λ z. next_state 1 m.families (state_over 1 T m.families s) z ns) (sym is) ∙ ap (λ z. next_state 1 m.families (state_over 1 T m.families s) wrong z) (sym has.is_instance.nodes_are))

-- a formal by value read anew

formals_next : fired 1 formals.by_value formals.calling [] (formals.cells false false) ≡ Got (Some (formals.cells true false))
unfolding value_of run ways leaf_at
formals_next = refl

formals_held : held 1 (cells 1 formals.by_value) (formals.cells false false) ≡ true
unfolding ways
formals_held = refl

formals_count : length (formals.cells false false) ≡ length (cells 1 formals.by_value)
unfolding ways
formals_count = refl

formals_right : state_over 1 formals.by_value formals.read_anew.families (formals.cells true false) ≡ value.Truth true ∷ value.Truth false ∷ []
unfolding ways leaf_at
formals_right = refl

formals_wrong : next_state 1 formals.read_anew.families (state_over 1 formals.by_value formals.read_anew.families (formals.cells false false)) formals.anew [] ≡ value.Truth true ∷ value.Truth true ∷ []
unfolding term_value ways leaf_at
formals_wrong = refl

other_values : {X : Type 0} → (value.Truth true ∷ value.Truth false ∷ []) ≡ (value.Truth true ∷ value.Truth true ∷ []) → X
other_values e = cc

pub formals_excluded : Presents formals.by_value formals.read_anew → ⊥
formals_excluded presents =
    excluded formals.by_value formals.read_anew formals.calling formals.anew (formals.cells false false) (formals.cells true false) refl refl refl
    (is_state 1 formals.by_value (formals.cells false false) formals_count formals_held) formals_next
    (λ e. other_values (sym formals_right ∙ e ∙ formals_wrong)) presents

-- a place found anew

places_next : fired 1 places.by_place places.calling [] (places.cells 0 1 false false) ≡ Got (Some (places.cells 1 1 true false))
unfolding value_of run ways leaf_at
places_next = refl

places_held : held 1 (cells 1 places.by_place) (places.cells 0 1 false false) ≡ true
unfolding ways
places_held = refl

places_count : length (places.cells 0 1 false false) ≡ length (cells 1 places.by_place)
unfolding ways
places_count = refl

places_right : state_over 1 places.by_place places.found_anew.families (places.cells 1 1 true false) ≡ places.cells 1 1 true false
unfolding ways leaf_at
places_right = refl

places_wrong : next_state 1 places.found_anew.families (state_over 1 places.by_place places.found_anew.families (places.cells 0 1 false false)) places.anew [] ≡ places.cells 1 1 false true
unfolding term_value ways leaf_at hidden-the_row-Term-0 shape-the_row-Term-1 hidden-the_row-Term-1 hidden
places_wrong = refl

other_cells : {X : Type 0} → places.cells 1 1 true false ≡ places.cells 1 1 false true → X
other_cells e = cc

pub places_excluded : Presents places.by_place places.found_anew → ⊥
places_excluded presents =
    excluded places.by_place places.found_anew places.calling places.anew (places.cells 0 1 false false) (places.cells 1 1 true false) refl refl refl
    (is_state 1 places.by_place (places.cells 0 1 false false) places_count places_held) places_next
    (λ e. other_cells (sym places_right ∙ e ∙ places_wrong)) presents

-- an index read in the first state

writes_next : fired 1 writes.in_turn writes.writing [] (writes.cells 0 1 false false) ≡ Got (Some (writes.cells 1 1 false true))
unfolding value_of run ways leaf_at
writes_next = refl

writes_held : held 1 (cells 1 writes.in_turn) (writes.cells 0 1 false false) ≡ true
unfolding ways
writes_held = refl

writes_count : length (writes.cells 0 1 false false) ≡ length (cells 1 writes.in_turn)
unfolding ways
writes_count = refl

writes_right : state_over 1 writes.in_turn writes.read_before.families (writes.cells 1 1 false true) ≡ writes.cells 1 1 false true
unfolding ways leaf_at
writes_right = refl

writes_wrong : next_state 1 writes.read_before.families (state_over 1 writes.in_turn writes.read_before.families (writes.cells 0 1 false false)) writes.early [] ≡ writes.cells 1 1 true false
unfolding term_value ways leaf_at hidden-the_row-Term-0 shape-the_row-Term-1 hidden-the_row-Term-1 hidden
writes_wrong = refl

other_writes : {X : Type 0} → writes.cells 1 1 false true ≡ writes.cells 1 1 true false → X
other_writes e = cc

pub writes_excluded : Presents writes.in_turn writes.read_before → ⊥
writes_excluded presents =
    excluded writes.in_turn writes.read_before writes.writing writes.early (writes.cells 0 1 false false) (writes.cells 1 1 false true) refl refl refl
    (is_state 1 writes.in_turn (writes.cells 0 1 false false) writes_count writes_held) writes_next
    (λ e. other_writes (sym writes_right ∙ e ∙ writes_wrong)) presents
