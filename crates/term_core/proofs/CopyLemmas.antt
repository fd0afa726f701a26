-- Replacing each variable by itself changes nothing.
use Rattle.std.proofs.Common.{◌≡◌, ℕ, suc, ◌∷◌, refl, sym, ap, ◌∙◌}
use denote.Hole.Carrier.{hidden}
use Rattle.term_core.specs.declared.term.Term as t
use Rattle.term_core.specs.declared.term.Term.{Term, Row_of-Term, end_of-Term, more_of-Term, items-the_row-Term, items_shown-the_row-Term-0}
use Rattle.term_core.specs.declared.term.Term.TheBlock.{shape-the_row-Term-1, hidden-the_row-Term-1, backs-Term}
use Rattle.term_core.specs.Forms.{NotForm, IfForm, SameForm, LessForm, ArithForm, QuantifiedForm}
use Rattle.term_core.specs.Substitution.{replaced, row_replaced}

-- each variable by itself
abbrev pub itself : ℕ → ℕ → Term
itself under k = t.Var k

mutual
  unfolding replaced shape-the_row-Term-1 hidden-the_row-Term-1 hidden

  pub replaced_itself : (under : ℕ) (x : Term) → replaced itself under x ≡ x
  replaced_itself under (t.Known x) = refl
  replaced_itself under (t.Var k) = refl
  replaced_itself under (t.Read' f p at) = ap (t.Read f) (row_itself under at ∙ sym (items_shown-the_row-Term-0 p at)) ∙ backs-Term (t.Read' f p at)
  replaced_itself under (NotForm a) = ap t.Not (replaced_itself under a)
  replaced_itself under (t.And' p parts) = ap t.And (row_itself under parts ∙ sym (items_shown-the_row-Term-0 p parts)) ∙ backs-Term (t.And' p parts)
  replaced_itself under (t.Or' p parts) = ap t.Or (row_itself under parts ∙ sym (items_shown-the_row-Term-0 p parts)) ∙ backs-Term (t.Or' p parts)
  replaced_itself under (IfForm a b d) =
      ap (λ x. t.If x (replaced itself under b) (replaced itself under d)) (replaced_itself under a)
      ∙ ap (λ x. t.If a x (replaced itself under d)) (replaced_itself under b)
      ∙ ap (λ x. t.If a b x) (replaced_itself under d)
  replaced_itself under (SameForm a b) = ap (λ x. t.Same x (replaced itself under b)) (replaced_itself under a) ∙ ap (λ x. t.Same a x) (replaced_itself under b)
  replaced_itself under (LessForm a b) = ap (λ x. t.Less x (replaced itself under b)) (replaced_itself under a) ∙ ap (λ x. t.Less a x) (replaced_itself under b)
  replaced_itself under (ArithForm op a b) = ap (λ x. t.Arith op x (replaced itself under b)) (replaced_itself under a) ∙ ap (λ x. t.Arith op a x) (replaced_itself under b)
  replaced_itself under (QuantifiedForm all a) = ap (t.Quantified all) (replaced_itself (suc under) a)

  row_itself : {n : _} (under : ℕ) (row : Row_of-Term n) → row_replaced itself under row ≡ items-the_row-Term n row
  row_itself under end_of-Term = refl
  row_itself under (more_of-Term x rest) = ap (λ y. y ∷ row_replaced itself under rest) (replaced_itself under x) ∙ ap (λ ys. x ∷ ys) (row_itself under rest)
