-- Certificates: clauses over the bits of a state, and logs that prove that they hold in each state.
use Rattle.std.specs.Prelude.{◌≡◌, ◌==◌, ◌++◌, ◌||◌, Bool, true, List, [], ◌∷◌, map, All, if◌then◌else◌}
use Rattle.clause_core.specs.declared.literal.Lit.{Lit}
use Rattle.clause_core.specs.Literal.{opposite}
use Rattle.clause_core.specs.Members.{has, NoneTwice}
use Rattle.clause_derivation.specs.declared.chain.Chain.{Chain}
use Rattle.clause_derivation.specs.Derivation.{IsDerivation, EndsEmpty, singles}
use Rattle.cnf_emit.specs.Systems.{System}

-- What callers see of a certificate: its clauses, and for each of them and then for "not bad" a log
-- over the starts and a log over the steps.
pub record Proof : Type 0 where
  pub clauses : List (List Lit)
  pub starts : List (List Chain)
  pub steps : List (List Chain)

-- whether a literal is one of these or the opposite of one
abbrev pub is_over : List Lit → Lit → Bool
is_over lits l = has lits l || has lits (opposite l)

-- a clause that speaks of these literals alone, and has no literal twice
pub record IsOwn (lits c : List Lit) : Type 0 where
  pub over : All (λ l. is_over lits l ≡ true) c
  pub once : NoneTwice c

-- The literal at the same place of the second list as l has in the first, and its opposite where l
-- is the opposite of one of the first.
abbrev pub renamed : List Lit → List Lit → Lit → Lit
renamed [] ns l = l
renamed (c ∷ cs) [] l = l
renamed (c ∷ cs) (n ∷ ns) l =
    if c.code == l.code then n else if c.code == (opposite l).code then opposite n else renamed cs ns l

-- the renamed clause: it says of the state after a step what the clause says of the state before
abbrev pub after : System → List Lit → List Lit
after s c = map (renamed s.current s.next) c

-- a log that is a derivation from these clauses, whose last chain is the empty clause
pub record Refutes (clauses : List (List Lit)) (log : List Chain) : Type 0 where
  pub derived : IsDerivation clauses log
  pub empty : EndsEmpty log

-- The start log of a clause is over the clauses of `start` and the opposite of each literal of it.
abbrev pub start_base : System → List Lit → List (List Lit)
start_base s c = s.start.clauses ++ singles (map opposite c)

-- The last start log, of "not bad", is over the clauses of `start` and `bad`.
abbrev pub start_last : System → List (List Lit)
start_last s = s.start.clauses ++ singles (s.bad ∷ [])

-- The step log of a clause is over the clauses of `step`, all clauses of the certificate, "not bad",
-- and the opposite of each literal of the renamed clause.
abbrev pub step_base : System → List (List Lit) → List Lit → List (List Lit)
step_base s cs c = s.step.clauses ++ cs ++ singles (opposite s.bad ∷ map opposite (after s c))

-- The last step log, of "not bad", is over the clauses of `step`, all clauses of the certificate,
-- "not bad", and `bad_next`.
abbrev pub step_last : System → List (List Lit) → List (List Lit)
step_last s cs = s.step.clauses ++ cs ++ singles (opposite s.bad ∷ s.bad_next ∷ [])

-- One log for each clause, which refutes the `base` of that clause, and one more, which refutes `last`.
abbrev pub AreLogs : (base : List Lit → List (List Lit)) (last : List (List Lit)) → List (List Lit)
    → List (List Chain) → Type 0
AreLogs base last cs [] = ⊥
AreLogs base last [] (g ∷ []) = Refutes last g
AreLogs base last [] (g ∷ h ∷ gs) = ⊥
AreLogs base last (c ∷ cs) (g ∷ gs) = Refutes (base c) g × AreLogs base last cs gs

-- A certificate of a system: each clause is over the bits of a state, the start logs show that each
-- start satisfies all clauses and is not bad, and the step logs that each step from a state that
-- satisfies all clauses and is not bad leads to such a state.
pub record IsCertificate (s : System) (p : Proof) : Type 0 where
  pub own : All (IsOwn s.current) p.clauses
  pub starts : AreLogs (start_base s) (start_last s) p.clauses p.starts
  pub steps : AreLogs (step_base s p.clauses) (step_last s p.clauses) p.clauses p.steps
