-- Demands, form by form.
use Rattle.std.proofs.Common.{◌≡◌, ℕ, true, false, List, [], ◌∷◌, ◌++◌, map, refl, ap}
use Rattle.std.specs.Prelude.{if◌then◌else◌}
use denote.Hole.Carrier.{hidden}
use Rattle.term_core.specs.declared.term.Term.{Term}
use Rattle.rule_inline.specs.Demands.{Demand, demand, under_test, one_unless, unless_left, is_constant_false, binding}
use Rattle.rule_terms.specs.declared.demand.Demands as d
use Rattle.rule_terms.specs.declared.demand.Demands.{Demands, the_lemmas}
use Rattle.rule_terms.specs.declared.demand.Demands.TheBlock.{shape-the_row-Demands-0, hidden-the_row-Demands-0}
use Rattle.rule_terms.specs.Gathered.{seen_demands}
use Rattle.rule_terms.proofs.ListLemmas.{after_after, nothing_after}

pub seen-Nothing : seen_demands d.Nothing ≡ []
unfolding seen_demands
seen-Nothing = refl

pub seen-One : (must : Term) → seen_demands (d.One must) ≡ demand must ∷ []
unfolding seen_demands
seen-One must = refl

pub seen-Both : (a b : Demands) → seen_demands (d.Both a b) ≡ seen_demands a ++ seen_demands b
unfolding seen_demands shape-the_row-Demands-0 hidden-the_row-Demands-0 hidden
seen-Both a b = refl

pub seen-Under : (frame : ℕ) (test : Term) (a : Demands) → seen_demands (d.Under frame test a) ≡ under_test frame test (seen_demands a)
unfolding seen_demands shape-the_row-Demands-0 hidden-the_row-Demands-0 hidden
seen-Under frame test a = refl

pub seen-Unless : (frame : ℕ) (left : Term) (a : Demands) → seen_demands (d.Unless frame left a) ≡ map (one_unless frame left) (seen_demands a)
unfolding seen_demands shape-the_row-Demands-0 hidden-the_row-Demands-0 hidden
seen-Unless frame left a = refl

pub seen-Binding : (a : Demands) → seen_demands (d.Binding a) ≡ binding (seen_demands a)
unfolding seen_demands shape-the_row-Demands-0 hidden-the_row-Demands-0 hidden
seen-Binding a = refl

pub unless_straight : (frame : ℕ) (left : Term) (qs : List Demand) → is_constant_false left ≡ true → unless_left frame left qs ≡ qs
unless_straight frame left qs e = ap (λ b. if b then qs else map (one_unless frame left) qs) e

pub unless_open : (frame : ℕ) (left : Term) (qs : List Demand) → is_constant_false left ≡ false → unless_left frame left qs ≡ map (one_unless frame left) qs
unless_open frame left qs e = ap (λ b. if b then qs else map (one_unless frame left) qs) e

pub ruleset demanding = (after_after, nothing_after, seen-Nothing, seen-One, seen-Both, seen-Under, seen-Unless, seen-Binding, unless_straight, unless_open, the_lemmas)
