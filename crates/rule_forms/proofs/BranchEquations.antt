-- Branches and labels, in terms of the parts that code reads.
use Rattle.std.proofs.Common.{◌≡◌, ℕ, zero, suc, ◌+◌, List, [], ◌∷◌, ◌++◌, length, refl, sym, ap, ◌∙◌, arith}
use Rattle.term_core.specs.declared.term.Term as t
use Rattle.term_core.specs.declared.term.Term.{Term}
use Rattle.rule_inline.specs.Demands.{Demand, under_test}
use Rattle.rule_inline.specs.Tables.{Terms}
use Rattle.rule_inline.specs.Parts.{Site, Valued}
use Rattle.rule_inline.specs.Bodies.{one_of_labels}
use Rattle.rule_forms.specs.Words.{label_demands_to, Chain, Worked, one_link, links_over}
use Rattle.rule_forms.proofs.DemandForms.{seen-Nothing, seen-One, layer-Branch, layer-Chosen}
use Rattle.rule_forms.proofs.ListLemmas.{mapped_joined, after_after, nothing_after}

pub demanded_last : (frame : ℕ) (on : Term) (labels : List Valued) (label : Valued) (rest : List Demand) → label_demands_to frame on (labels ++ label ∷ []) rest ≡ label_demands_to frame on labels (label.demands ++ under_test frame (t.Not (t.Same on label.term)) rest)
demanded_last frame on [] label rest = refl
demanded_last frame on (x ∷ labels) label rest = ap (λ ds. x.demands ++ under_test frame (t.Not (t.Same on x.term)) ds) (demanded_last frame on labels label rest)

pub linked_last : (site : Site) (T : Terms) (ws : List Worked) (w : Worked) (last : Chain) → links_over site T (ws ++ w ∷ []) last ≡ links_over site T ws (one_link site T w.test w.body last)
linked_last site T [] w last = refl
linked_last site T (v ∷ ws) w last = ap (one_link site T v.test v.body) (linked_last site T ws w last)

pub one_alone : (front : List Term) (x : Term) → length (front ++ x ∷ []) ≡ 1 → one_of_labels (front ++ x ∷ []) ≡ x
one_alone [] x e = refl
one_alone (y ∷ []) x e = absurd (omega (arith, e))
one_alone (y ∷ z ∷ front) x e = absurd (omega (arith, e))

pub one_other : (tests : List Term) → (length tests ≡ 1 → ⊥) → one_of_labels tests ≡ t.Or tests
one_other [] e = refl
one_other (x ∷ []) e = absurd (e refl)
one_other (x ∷ y ∷ tests) e = refl

pub ruleset branches = (mapped_joined, after_after, nothing_after, demanded_last, linked_last, one_alone, one_other, seen-Nothing, seen-One, layer-Branch, layer-Chosen)
