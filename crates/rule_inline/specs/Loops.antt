-- Bodies without loops over nodes, and what is asked of a protocol.
use Rattle.std.specs.Prelude.{◌≡◌, ◌⊎◌, Bool, true, not, ◌&&◌, None, Some, IsTrue}
use Rattle.std.specs.List.{list_all}
use Rattle.murphi_typed.specs.declared.stmt.Stmt as s
use Rattle.murphi_typed.specs.declared.stmt.Stmt.{Stmt, Row_of-Stmt, end_of-Stmt, more_of-Stmt, Row_of-Arm, end_of-Arm, more_of-Arm, Row_of-Case, end_of-Case, more_of-Case}
use Rattle.murphi_typed.specs.declared.protocol.Routine.{Routine}
use Rattle.murphi_typed.specs.declared.protocol.Rule.{Rule}
use Rattle.murphi_typed.specs.declared.protocol.Start.{Start}
use Rattle.murphi_typed.specs.declared.protocol.NodeType.{NodeType}
use Rattle.murphi_typed.specs.declared.protocol.Typed.{Typed}
use Rattle.murphi_typed.specs.Prefix.{is_over_nodes}
use Rattle.scalarset_rules.specs.Rules.{broken}

unfoldable mutual
  -- no `for` of a statement is over nodes; what is called is judged by itself
  pub is_loopless : Stmt → Bool
  is_loopless (s.Block' _ body) = are_loopless body
  is_loopless (s.If' _ arms _ otherwise at) = loopless_arms arms && are_loopless otherwise
  is_loopless (s.Switch' on _ cases _ otherwise at) = loopless_cases cases && are_loopless otherwise
  is_loopless (s.For' over _ body at) = not (is_over_nodes over) && are_loopless body
  is_loopless _ = true

  pub are_loopless : {n : _} → Row_of-Stmt n → Bool
  are_loopless end_of-Stmt = true
  are_loopless (more_of-Stmt first rest) = is_loopless first && are_loopless rest

  pub loopless_arms : {n : _} → Row_of-Arm n → Bool
  loopless_arms end_of-Arm = true
  loopless_arms (more_of-Arm test _ body rest) = are_loopless body && loopless_arms rest

  pub loopless_cases : {n : _} → Row_of-Case n → Bool
  loopless_cases end_of-Case = true
  loopless_cases (more_of-Case labels _ body rest) = are_loopless body && loopless_cases rest

-- no body has a `for` over nodes, as it is where no type is the node type
pub record IsLoopless (T : Typed) : Type 0 where
  pub routines : IsTrue (list_all (λ (r : Routine). is_loopless r.body) T.routines)
  pub starts : IsTrue (list_all (λ (a : Start). is_loopless a.body) T.starts)
  pub rules : IsTrue (list_all (λ (r : Rule). is_loopless r.body) T.rules)

-- a protocol has a node type and its text breaks no symmetry rule, or it has no loop over nodes
abbrev pub KeepsRules : Typed → Type 0
KeepsRules T = ((node : NodeType) × ((T.node ≡ Some node) × (broken T ≡ None))) ⊎ IsLoopless T
