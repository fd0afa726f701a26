-- The machine of the flag is whole, and the calls on it are ones that may be made.
use Rattle.std.proofs.Common.{◌≡◌, ℕ, zero, suc, ◌<◌, ◌≤◌, ◌+◌, Bool, true, false, List, [], ◌∷◌, length, Some, refl, sym, subst, ap, ◌∙◌, arith}
use Rattle.std.specs.Prelude.{nat_eq, ◌&&◌, slice_get, IsTrue}
use Rattle.std.specs.List.{All, IsDistinct, list_all}
use Rattle.std.specs.Option.{option_map_or}
use Rattle.term_core.specs.declared.value.Value.{Value}
use Rattle.term_core.specs.declared.value.Sort.TheVariants.{Truth as Truth-sort}
use Rattle.term_core.specs.declared.term.Term.{Term}
use Rattle.term_core.specs.declared.machine.Piece.{Piece}
use Rattle.term_core.specs.declared.machine.Update.{Update}
use Rattle.term_core.specs.declared.machine.CellFamily.{CellFamily}
use Rattle.term_core.specs.declared.machine.TermRule.{TermRule}
use Rattle.term_core.specs.declared.machine.TermMachine.{TermMachine}
use Rattle.term_core.specs.Cells.{cells, is_cell, table_value}
use Rattle.term_core.specs.Nodes.{is_node}
use Rattle.term_core.specs.Firing.{node_parameters}
use Rattle.term_core.specs.Whole.{IsWhole, EachRule, UpdatesOnce, IsWithinPrefix, BindsVariables, ReadsCells, HasBlank, LeavesDefined, axes_of, members_in_range}
use Rattle.term_core.specs.Variables.{free_variables, fits}
use Rattle.term_core.specs.declared.term.Term.TheBlock.{hidden-the_row-Term-0, shape-the_row-Term-1, hidden-the_row-Term-1}
use denote.Hole.Carrier.{hidden}
use Rattle.lemma_strengthen.specs.declared.formula.Formula.{Formula}
use Rattle.other_abstract.specs.declared.node.AbsNode.{AbsNode}
use Rattle.other_abstract.specs.declared.node.AbsNode.TheVariants.{Fired}
use Rattle.other_abstract.specs.declared.value.AbsValue.TheVariants.{Truth, Undefined}
use Rattle.other_abstract.specs.declared.machine.AbstractMachine.{AbstractMachine}
use Rattle.other_abstract.specs.Windows.{Window, size, may_have}
use Rattle.other_abstract.specs.May.{AbsCells}
use Rattle.other_abstract.specs.Machines.{window, IsPattern, FitsWindow}
use Rattle.other_abstract.specs.Making.{IsMade}
use Rattle.abstract_rows.specs.Terms.{truth, family, update, rule}
use Rattle.abstract_rows.specs.Flag.{flag, begins, sets, never, IsFlag}

no_true : false ≡ true → ⊥
no_true h = absurd cc

none : {X : Type 0} (P : X → Type 0) → All P []
none P k d h = absurd (omega arith)

one : {X : Type 0} (P : X → Type 0) (x : X) → P x → All P (x ∷ [])
one P x p zero d h = p
one P x p (suc k) d h = absurd (omega arith)

each : (P : TermRule → Type 0) → P begins → P sets → EachRule flag P
each P a b = (one P begins a, one P sets b)

-- what is written is the flag, once
writes_once : (u : Update) → u.family ≡ 0 → All (λ (u : Update). u.family < length flag.families) (u ∷ [])
writes_once u h =
    let low : u.family < 1 = omega (arith, h) in
    one (λ (u : Update). u.family < length flag.families) u low

binds_of : (r : TermRule) (u : Update) → r.ok ≡ [] → r.updates ≡ u ∷ [] → free_variables r.guard ≤ node_parameters r →
    free_variables u.body ≤ node_parameters r + axes_of flag.families u.family → BindsVariables flag.families r
binds_of r u none_there only guard written = record {
  guard = guard;
  updates = subst (All (λ (u : Update). free_variables u.body ≤ node_parameters r + axes_of flag.families u.family)) (sym only)
      (one (λ (u : Update). free_variables u.body ≤ node_parameters r + axes_of flag.families u.family) u written);
  pieces = subst (All (λ (piece : Piece). free_variables piece.body ≤ node_parameters r + piece.binders)) (sym none_there)
      (none (λ (piece : Piece). free_variables piece.body ≤ node_parameters r + piece.binders));
}

reads_of : (r : TermRule) (u : Update) → r.ok ≡ [] → r.updates ≡ u ∷ [] → IsTrue (fits flag.families r.guard) →
    IsTrue (fits flag.families u.body) → ReadsCells flag.families r
reads_of r u none_there only guard written = record {
  guard = guard;
  updates = subst (All (λ (u : Update). IsTrue (fits flag.families u.body))) (sym only)
      (one (λ (u : Update). IsTrue (fits flag.families u.body)) u written);
  pieces = subst (All (λ (piece : Piece). IsTrue (fits flag.families piece.body))) (sym none_there)
      (none (λ (piece : Piece). IsTrue (fits flag.families piece.body)));
}

none_few : 0 ≤ 3
none_few = omega arith

one_few : 1 ≤ 3
one_few = omega arith

none_of_none : 0 ≤ 0
none_of_none = omega arith

none_of_one : 0 ≤ 1
none_of_one = omega arith

one_of_one : 1 ≤ 1
one_of_one = omega arith

pub flag_is_whole : IsWhole flag
unfolding IsDistinct free_variables fits hidden-the_row-Term-0 shape-the_row-Term-1 hidden-the_row-Term-1 hidden
flag_is_whole = record {
  parameters = each (λ r. node_parameters r ≤ 3) none_few one_few;
  updates = each (UpdatesOnce flag.families)
      (writes_once (update 0 (truth false)) refl, (tt, tt)) (writes_once (update 0 (truth true)) refl, (tt, tt));
  prefixes = each IsWithinPrefix
      (none_of_one, none (λ (piece : Piece). node_parameters begins + piece.binders ≤ begins.prefix))
      (one_of_one, none (λ (piece : Piece). node_parameters sets + piece.binders ≤ sets.prefix));
  variables = each (BindsVariables flag.families)
      (binds_of begins (update 0 (truth false)) refl refl none_of_none none_of_none)
      (binds_of sets (update 0 (truth true)) refl refl none_of_one none_of_one);
  blanks = (
    one HasBlank (family Truth-sort 0) (λ h. absurd (no_true (sym h))),
    one (LeavesDefined flag.families) begins
        (one (λ (u : Update). IsTrue (option_map_or (λ (f : CellFamily). f.undefined) (slice_get flag.families u.family) false))
        (update 0 (truth false)) refl),
  );
  reads = each (ReadsCells flag.families)
      (reads_of begins (update 0 (truth false)) refl refl refl refl)
      (reads_of sets (update 0 (truth true)) refl refl refl refl);
  members = one (λ (f : CellFamily). IsTrue (members_in_range f.sort)) (family Truth-sort 0) refl;
}

-- The machine is made

pub whole_as : (m : TermMachine) → m ≡ flag → IsWhole m
whole_as m is = subst IsWhole (sym is) flag_is_whole

never_fits : All (λ (f : Formula). IsTrue (fits flag.families f.body)) (never ∷ [])
unfolding fits hidden-the_row-Term-0 shape-the_row-Term-1 hidden-the_row-Term-1 hidden
never_fits = one (λ (f : Formula). IsTrue (fits flag.families f.body)) never refl

pub fits_as : (m : TermMachine) (fs : List Formula) → m ≡ flag → fs ≡ never ∷ [] →
    All (λ (f : Formula). IsTrue (fits m.families f.body)) fs
fits_as m fs is are =
    subst (λ (m : TermMachine). All (λ (f : Formula). IsTrue (fits m.families f.body)) fs) (sym is)
    (subst (λ (fs : List Formula). All (λ (f : Formula). IsTrue (fits flag.families f.body)) fs) (sym are) never_fits)

pub flag_as : (M : AbstractMachine) (m : TermMachine) (fs : List Formula) → IsMade M → M.machine ≡ m → m ≡ flag →
    M.formulas ≡ fs → fs ≡ never ∷ [] → M.kept ≡ 1 → IsFlag M
flag_as M m fs made machine is formulas are kept =
    record { made = made; machine = machine ∙ is; formulas = formulas ∙ are; kept = kept }

pub rule_made : (title : List ℕ) (values : List Value) (params : List (List ℕ)) (guard : Term) (ok : List Piece)
    (written us : List Update) → title ≡ [] → params ≡ [] → ok ≡ [] → written ≡ us →
    ◌≡◌ {A = TermRule} (record { title = title; values = values; params = params; prefix = 1; guard = guard; ok = ok; updates = written })
    (rule [] values guard us)
rule_made title values params guard ok written us a b c d = cc

-- Calls on it

some_of_one : 0 < 1
some_of_one = omega arith

pub is_made : (M : AbstractMachine) → IsFlag M → IsMade M
is_made M h = h.made

pub has_rule : (M : AbstractMachine) → IsFlag M → 0 < length M.machine.rules
has_rule M h = subst (λ (m : TermMachine). 0 < length m.rules) (sym h.machine) some_of_one

pub has_start : (M : AbstractMachine) → IsFlag M → 0 < length M.machine.starts
has_start M h = subst (λ (m : TermMachine). 0 < length m.starts) (sym h.machine) some_of_one

pub has_formula : (M : AbstractMachine) → IsFlag M → 0 < length M.formulas
has_formula M h = subst (λ (fs : List Formula). 0 < length fs) (sym h.formulas) some_of_one

some_of : {X : Type 0} {x y : X} → Some x ≡ Some y → x ≡ y
some_of e = cc

pub pattern_of_start : (M : AbstractMachine) (r : TermRule) (p : List AbsNode) → IsFlag M → p ≡ [] →
    slice_get M.machine.starts 0 ≡ Some r → IsPattern M.kept r p
pattern_of_start M r p h is there =
    let r' : begins ≡ r = some_of (subst (λ (m : TermMachine). slice_get m.starts 0 ≡ Some r) h.machine there) in
    subst (λ p. IsPattern M.kept r p) (sym is)
    (subst (λ r. IsPattern M.kept r []) r' (record { count = refl; numbered = refl }))

pub pattern_of_rule : (M : AbstractMachine) (r : TermRule) (p : List AbsNode) → IsFlag M → p ≡ Fired 1 ∷ [] →
    slice_get M.machine.rules 0 ≡ Some r → IsPattern M.kept r p
pattern_of_rule M r p h is there =
    let r' : sets ≡ r = some_of (subst (λ (m : TermMachine). slice_get m.rules 0 ≡ Some r) h.machine there) in
    subst (λ p. IsPattern M.kept r p) (sym is)
    (subst (λ r. IsPattern M.kept r (Fired 1 ∷ [])) r' (record { count = refl; numbered = refl }))

values_fit : (W : Window) (b : Bool) → W.families ≡ flag.families → (f : ℕ) (at : List ℕ) →
    IsTrue (is_cell (size W) flag.families f at) →
    IsTrue (may_have W f (table_value (size W) flag.families Undefined (Truth b ∷ []) f at))
values_fit W b is zero [] h = subst (λ fs. IsTrue (may_have (record W { families = fs }) 0 (Truth b))) (sym is) refl
values_fit W b is zero (n ∷ ns) h =
    let q : nat_eq (length (n ∷ ns)) 0 ≡ false = grind arith in
    absurd (no_true (sym (ap (λ e. e && list_all (is_node (size W)) (n ∷ ns)) q) ∙ h))
values_fit W b is (suc f) at h = absurd (no_true h)

pub state_fits : (M : AbstractMachine) (fired : ℕ) (s : AbsCells) (b : Bool) → IsFlag M → s ≡ Truth b ∷ [] →
    FitsWindow (window M fired) s
state_fits M fired s b h is =
    let families : M.machine.families ≡ flag.families = ap (λ (m : TermMachine). m.families) h.machine in
    subst (λ s. FitsWindow (window M fired) s) (sym is) (record {
      count = subst (λ fs. 1 ≡ length (cells (M.kept + fired) fs)) (sym families) refl;
      values = subst (λ fs. (f : ℕ) (at : List ℕ) → IsTrue (is_cell (M.kept + fired) fs f at) →
          IsTrue (may_have (window M fired) f (table_value (M.kept + fired) fs Undefined (Truth b ∷ []) f at)))
          (sym families) (values_fit (window M fired) b families);
    })

pub ruleset flags = (rule_made, whole_as, fits_as, flag_as, is_made, has_rule, has_start, has_formula, pattern_of_start, pattern_of_rule, state_fits)
