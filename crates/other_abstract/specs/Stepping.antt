-- Whether a state, or two, are as the definitions say: the same as the relations, computed. K is the window of
-- the kept nodes alone, W that of a pattern.
use Rattle.std.specs.Prelude.{Bool, true, false, ◌&&◌, List, [], ◌∷◌, ◌++◌, map, Option, None, Some}
use Rattle.std.specs.List.{list_all, list_any}
use Rattle.term_core.specs.declared.term.Term.{Term}
use Rattle.term_core.specs.declared.machine.Piece.{Piece}
use Rattle.term_core.specs.declared.machine.TermRule.{TermRule}
use Rattle.term_core.specs.declared.machine.Update.{Update}
use Rattle.term_core.specs.Firing.{update_for}
use Rattle.lemma_strengthen.specs.declared.formula.Formula.{Formula}
use Rattle.other_abstract.specs.declared.node.AbsNode.{AbsNode}
use Rattle.other_abstract.specs.declared.value.AbsValue.{AbsValue}
use Rattle.other_abstract.specs.declared.place.Place.{Place}
use Rattle.other_abstract.specs.declared.machine.AbstractMachine.{AbstractMachine}
use Rattle.other_abstract.specs.Windows.{Window, same_value}
use Rattle.other_abstract.specs.May.{AbsCells, value_at}
use Rattle.other_abstract.specs.Tests.{window_nodes, lists_of, passes, may, may_hold}
use Rattle.other_abstract.specs.Machines.{window, fired_of, read_kept, blank, blank_of, settled}
use Rattle.other_abstract.specs.Places.{places}
use Rattle.other_abstract.specs.Lists.{AreValues}

-- whether two lists of values are one
abbrev pub same_values : List AbsValue → List AbsValue → Bool
same_values [] [] = true
same_values (x ∷ xs) (y ∷ ys) = same_value x y && same_values xs ys
same_values _ _ = false

-- the value of a cell in a state of a window, fired nodes read as Other
abbrev pub kept_value : Window → AbsCells → Place → AbsValue
kept_value W w place = read_kept (value_at W w place.family place.at)

-- the values are those that an update may have, where there is one
unfoldable pub AreNewValues : Window → AbsCells → List AbsNode → Option Term → Option (List AbsValue) → Type 0
AreNewValues W w env (Some body) (Some xs) = AreValues W w env body xs
AreNewValues W w env None None = Unit {0}
AreNewValues W w env _ _ = ⊥

-- whether a cell has a value that its update may have, or its old value
abbrev pub may_become : Window → AbsCells → List AbsNode → Option Term → Place → AbsValue → Bool
may_become W w p (Some body) place y = may W w (p ++ place.at) body (λ x. same_value (read_kept x) y)
may_become W w p None place y = same_value (kept_value W w place) y

abbrev pub becomes : Window → Window → AbsCells → AbsCells → List Update → List AbsNode → Place → Bool
becomes K W w t us p place = may_become W w p (update_for us place.family) place (value_at K t place.family place.at)

-- whether a cell has a value that a start may give it
abbrev pub may_begin : Window → Window → List AbsNode → Option Term → Place → AbsValue → Bool
may_begin K W p (Some body) place y = may W (blank W) (p ++ place.at) body (λ x. same_value (settled K place.family (read_kept x)) y)
may_begin K W p None place y = same_value (blank_of W.families place.family) y

abbrev pub begins : Window → Window → AbsCells → List Update → List AbsNode → Place → Bool
begins K W t us p place = may_begin K W p (update_for us place.family) place (value_at K t place.family place.at)

-- whether all formulas may hold
abbrev pub all_may_hold : Window → AbsCells → List Formula → Bool
all_may_hold W w formulas = list_all (λ (f : Formula). may_hold W w f.prefix f.body) formulas

-- whether firing a rule may lead from one kept state to the other, by a wide state
abbrev pub is_step : AbstractMachine → AbsCells → TermRule → List AbsNode → AbsCells → AbsCells → Bool
is_step M s r p w t =
    let K = window M 0 in
    let W = window M (fired_of p) in
    same_values s (map (kept_value W w) (places K))
    && (all_may_hold W w M.formulas && (may W w p r.guard (passes true) && list_all (becomes K W w t r.updates p) (places K)))

-- whether a start may leave a kept state
abbrev pub is_start : AbstractMachine → TermRule → List AbsNode → AbsCells → Bool
is_start M r p t = list_all (begins (window M 0) (window M (fired_of p)) t r.updates p) (places (window M 0))

-- whether a piece of a start may be false for some kept nodes
abbrev pub piece_may_fail : Window → Window → List AbsNode → Piece → Bool
piece_may_fail K W p piece =
    list_any (λ ns. may W (blank W) (p ++ ns) piece.body (passes false)) (lists_of (window_nodes K) piece.binders)

abbrev pub may_fault : AbstractMachine → TermRule → List AbsNode → Bool
may_fault M r p = list_any (piece_may_fail (window M 0) (window M (fired_of p)) p) r.ok
