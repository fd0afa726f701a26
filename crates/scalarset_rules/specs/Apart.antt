-- Each loop over nodes of an opened body keeps its turns apart: the law of loops holds of each, wherever it stands.
use Rattle.std.specs.Prelude.{◌≡◌, ℕ, Bool, true, false, nat_eq, List, [], ◌∷◌, reverse, length, None, Some, slice_get, is_some, IsTrue}
use Rattle.murphi_typed.specs.declared.types.Simple.{Simple}
use Rattle.murphi_typed.specs.declared.types.Simple.TheVariants as simple
use Rattle.murphi_typed.specs.declared.stmt.Stmt as s
use Rattle.murphi_typed.specs.declared.stmt.Stmt.{Stmt, Row_of-Stmt, end_of-Stmt, more_of-Stmt, Row_of-Arm, end_of-Arm, more_of-Arm, Row_of-Case, end_of-Case, more_of-Case}
use Rattle.murphi_typed.specs.declared.protocol.Routine.{Routine}
use Rattle.murphi_typed.specs.declared.protocol.Rule.{Rule}
use Rattle.murphi_typed.specs.declared.protocol.Start.{Start}
use Rattle.murphi_typed.specs.declared.protocol.NodeType.{NodeType}
use Rattle.murphi_typed.specs.declared.protocol.Typed.{Typed}
use Rattle.murphi_typed.specs.Keeping.{Declared}
use Rattle.murphi_typed.specs.WellTyped.{is_well_typed}
use Rattle.scalarset_rules.specs.Accesses.{Scope, binding, called, stands_of}
use Rattle.scalarset_rules.specs.Rules.{top_scope, for_breaks, broken}
use Rattle.scalarset_rules.specs.Turns.{KeepsApart}

-- a loop over nodes keeps its turns apart, where the variables in scope have some types
abbrev pub LoopApart : {n : _} → List Routine → Scope → Simple → Row_of-Stmt n → Type 0
LoopApart routines scope simple.Node body = (types : Declared) × KeepsApart types routines scope body
LoopApart routines scope _ body = Unit {0}

-- what holds of each routine, by its number, where it stands in a scope
abbrev pub Routines : Type 1
Routines = ℕ → Scope → Type 0

unfoldable mutual
  -- each loop over nodes of a statement keeps its turns apart, and so does each loop of the procedures that it calls
  pub IsApart : Routines → List Routine → Scope → Stmt → Type 0
  IsApart inner routines scope (s.Block' _ body) = AreApart inner routines scope body
  IsApart inner routines scope (s.Call k args at) = inner k (called scope (stands_of scope args))
  IsApart inner routines scope (s.If' _ arms _ otherwise at) =
      ArmsApart inner routines scope arms × AreApart inner routines scope otherwise
  IsApart inner routines scope (s.Switch' on _ cases _ otherwise at) =
      CasesApart inner routines scope cases × AreApart inner routines scope otherwise
  IsApart inner routines scope (s.For' over _ body at) =
      LoopApart routines scope over body × AreApart inner routines (binding scope) body
  IsApart inner routines scope _ = Unit {0}

  pub AreApart : {n : _} → Routines → List Routine → Scope → Row_of-Stmt n → Type 0
  AreApart inner routines scope end_of-Stmt = Unit {0}
  AreApart inner routines scope (more_of-Stmt first rest) =
      IsApart inner routines scope first × AreApart inner routines scope rest

  pub ArmsApart : {n : _} → Routines → List Routine → Scope → Row_of-Arm n → Type 0
  ArmsApart inner routines scope end_of-Arm = Unit {0}
  ArmsApart inner routines scope (more_of-Arm test _ body rest) =
      AreApart inner routines scope body × ArmsApart inner routines scope rest

  pub CasesApart : {n : _} → Routines → List Routine → Scope → Row_of-Case n → Type 0
  CasesApart inner routines scope end_of-Case = Unit {0}
  CasesApart inner routines scope (more_of-Case labels _ body rest) =
      AreApart inner routines scope body × CasesApart inner routines scope rest

abbrev pub either_of : Bool → Type 0 → Type 0 → Type 0
either_of true here there = here
either_of false here there = there

-- the routines of a list, the last of the text first: each calls only those after it in the list
abbrev pub ApartIn : List Routine → Routines
ApartIn [] k scope = Unit {0}
ApartIn (r ∷ earlier) k scope =
    either_of (nat_eq k (length earlier)) (IsApart (ApartIn earlier) earlier scope r.body) (ApartIn earlier k scope)

-- the body of a rule or of a start state, with the routines of its text
abbrev pub BodyApart : Typed → Scope → Stmt → Type 0
BodyApart T scope body = IsApart (ApartIn (reverse T.routines)) (reverse T.routines) scope body

-- in a well-typed text that breaks no rule each loop of each opened rule and start state keeps its turns apart
abbrev pub UnbrokenTextsKeepApart : Type 0
UnbrokenTextsKeepApart =
    (T : Typed) (node : NodeType) → IsTrue (is_well_typed T) → T.node ≡ Some node → broken T ≡ None
    → ((k : ℕ) (a : Start) → slice_get T.starts k ≡ Some a → BodyApart T (top_scope a.params) a.body)
    × ((k : ℕ) (r : Rule) → slice_get T.rules k ≡ Some r → BodyApart T (top_scope r.params) r.body)

-- in a text that breaks no rule no function has a loop over nodes
abbrev pub FunctionsHaveNoLoops : Type 0
FunctionsHaveNoLoops =
    (T : Typed) (node : NodeType) (k : ℕ) (r : Routine) → T.node ≡ Some node → broken T ≡ None
    → slice_get T.routines k ≡ Some r → is_some r.result ≡ true → for_breaks r.body ≡ []
