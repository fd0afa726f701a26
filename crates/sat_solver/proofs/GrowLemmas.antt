-- Trails that grow by implied entries.
use Rattle.std.proofs.Common.{◌≡◌, ℕ, ◌++◌, List, [], ◌∷◌, sym, ◌∙◌, ap, subst, Some}
use Rattle.std.specs.Prelude.{IsSomeAnd}
use Rattle.std.proofs.lemmas.List.{append_assoc, append-nil}
use Rattle.std.proofs.lemmas.List.Elements.{All-append, All-nil, All-cons}
use Rattle.sat_solver.specs.declared.entry.Entry.{Entry}
use Rattle.sat_solver.specs.declared.origin.Origin.{Origin}
use Rattle.sat_solver.specs.Naming.{IsKnown}
use Rattle.sat_solver.specs.Assigned.{IsImplied, Grows}

pub grows_none : (n k : ℕ) (es fs : List Entry) → fs ≡ es → Grows n k es fs
grows_none n k es fs e = ([], e ∙ sym (append-nil es), All-nil (IsImplied n k))

pub grows_one : (n k : ℕ) (es fs : List Entry) (e : Entry) (o : Origin) → fs ≡ es ++ e ∷ [] → e.reason ≡ Some o → IsKnown n k o → Grows n k es fs
grows_one n k es fs e o f r h = (e ∷ [], f, All-cons (IsImplied n k) e [] (subst (λ q. IsSomeAnd q (IsKnown n k)) (sym r) h) (All-nil (IsImplied n k)))

pub grows_then : (n k : ℕ) (es fs gs : List Entry) → Grows n k es fs → Grows n k fs gs → Grows n k es gs
grows_then n k es fs gs g h = (g.0 ++ h.0, h.1 ∙ ap (λ xs. xs ++ h.0) g.1 ∙ append_assoc es g.0 h.0, All-append (IsImplied n k) g.0 h.0 g.2 h.2)
