-- What became of clauses that were to be refuted.
use Rattle.std.specs.Prelude.{◌≡◌, true, List}
use Rattle.clause_core.specs.declared.literal.Lit.{Lit}
use Rattle.clause_core.specs.Truth.{all_true}
use Rattle.inductive_check.specs.Certificates.{Refutes}
use Rattle.ic3_frames.specs.declared.refutation.Refuted.{Refuted}
use Rattle.ic3_frames.specs.declared.refutation.Refuted.TheVariants.{Derived, Satisfied}

-- a log that derives the empty clause from these clauses, or an assignment that satisfies them
abbrev pub IsRefuted : List (List Lit) → Refuted → Type 0
IsRefuted clauses (Derived log) = Refutes clauses log
IsRefuted clauses (Satisfied a) = all_true a clauses ≡ true
