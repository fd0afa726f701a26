-- One step of induction over the states of a system that are not bad.
use Rattle.std.specs.Prelude.{◌≡◌, Bool, true, false, List}
use Rattle.clause_core.specs.Truth.{literal_true, all_true}
use Rattle.cnf_emit.specs.Systems.{System}
use Rattle.inductive_check.specs.Certificates.{Proof}
use Rattle.ic3_frames.specs.declared.induction.OneStep.{OneStep}
use Rattle.ic3_frames.specs.declared.induction.OneStep.TheVariants.{Inductive, BadStart, BadStep}

-- a start that is bad
pub record IsBadStart (s : System) (a : List Bool) : Type 0 where
  pub start : all_true a s.start.clauses ≡ true
  pub bad : literal_true a s.bad ≡ true

-- a step from a state that is not bad into a bad one
pub record IsBadStep (s : System) (a : List Bool) : Type 0 where
  pub step : all_true a s.step.clauses ≡ true
  pub before : literal_true a s.bad ≡ false
  pub after : literal_true a s.bad_next ≡ true

-- "Not bad" is inductive by itself: there is no bad start and no bad step.
pub record IsInductive (s : System) : Type 0 where
  pub starts : (a : List Bool) → IsBadStart s a → ⊥
  pub steps : (a : List Bool) → IsBadStep s a → ⊥

-- whether the answer is a certificate
abbrev pub is_inductive : OneStep → Bool
is_inductive (Inductive c) = true
is_inductive (BadStart a) = false
is_inductive (BadStep a) = false

-- what holds of the certificate, if the answer is one
abbrev pub IfInductive : OneStep → (Proof → Type 0) → Type 0
IfInductive (Inductive c) P = P c
IfInductive (BadStart a) P = Unit {0}
IfInductive (BadStep a) P = Unit {0}

-- what holds of the bad start, if the answer is one
abbrev pub IfBadStart : OneStep → (List Bool → Type 0) → Type 0
IfBadStart (Inductive c) P = Unit {0}
IfBadStart (BadStart a) P = P a
IfBadStart (BadStep a) P = Unit {0}

-- what holds of the bad step, if the answer is one
abbrev pub IfBadStep : OneStep → (List Bool → Type 0) → Type 0
IfBadStep (Inductive c) P = Unit {0}
IfBadStep (BadStart a) P = Unit {0}
IfBadStep (BadStep a) P = P a
