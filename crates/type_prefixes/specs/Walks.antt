-- The walk over expressions and statements, from left to right: inside how many levels a part stands, and what the
-- parts before it gave.
use Rattle.std.specs.Prelude.{ℕ, ◌+◌, List, [], ◌∷◌, ◌++◌}
use Rattle.murphi_typed.specs.declared.expr.Expr as x
use Rattle.murphi_typed.specs.declared.expr.Expr.{Expr, end_of-Expr, more_of-Expr, Row_of-Link, end_of-Link, more_of-Link}
use Rattle.murphi_typed.specs.declared.expr.Designator as d
use Rattle.murphi_typed.specs.declared.expr.Designator.{Designator, Row_of-Selector, end_of-Selector, more_of-Selector}
use Rattle.murphi_typed.specs.declared.expr.Selector as select
use Rattle.murphi_typed.specs.declared.expr.Arguments as a
use Rattle.murphi_typed.specs.declared.expr.Arguments.{Arguments, Row_of-Argument, end_of-Argument, more_of-Argument}
use Rattle.murphi_typed.specs.declared.expr.Argument as argument
use Rattle.murphi_typed.specs.declared.stmt.Stmt as s
use Rattle.murphi_typed.specs.declared.stmt.Stmt.{Stmt, Row_of-Stmt, end_of-Stmt, more_of-Stmt, Row_of-Arm, end_of-Arm, more_of-Arm, Row_of-Case, end_of-Case, more_of-Case}
use Rattle.murphi_typed.specs.declared.protocol.Routine.{Routine}
use Rattle.murphi_typed.specs.Forms.{NotForm, MinusForm, CompareForm, ImpliesForm, ChoiceForm, QuantifiedForm}
use Rattle.murphi_typed.specs.Prefix.{level}
use Rattle.type_prefixes.specs.declared.depth.Depth.{Depth}
use Rattle.type_prefixes.specs.Summaries.{first_place, later_places, empty, called, touched, root_walked}

unfoldable mutual
  pub walked : List Depth → Expr → ℕ → Depth → Depth
  walked cs (x.Known v) n S = touched n S
  walked cs (x.Bound k) n S = touched n S
  walked cs (x.Read place) n S = place_walked cs place n S
  walked cs (x.Call k args _) n S =
      args_walked cs (called cs k).formals args n (touched (n + (called cs k).own) S)
  walked cs (NotForm body) n S = walked cs body n S
  walked cs (MinusForm body) n S = walked cs body n S
  walked cs (x.Chain' _ (more_of-Expr first end_of-Expr) _ rest) n S =
      links_walked cs rest n (walked cs first n S)
  walked cs (CompareForm op left right) n S = walked cs right n (walked cs left n S)
  walked cs (ImpliesForm left right) n S = walked cs right n (walked cs left n S)
  walked cs (ChoiceForm test then' else') n S =
      walked cs else' n (walked cs then' n (walked cs test n S))
  walked cs (QuantifiedForm all over body) n S = walked cs body (level over n) S
  walked cs (x.IsUndefined place) n S = place_walked cs place n S

  pub links_walked : {m : _} → List Depth → Row_of-Link m → ℕ → Depth → Depth
  links_walked cs end_of-Link n S = touched n S
  links_walked cs (more_of-Link op operand rest) n S = links_walked cs rest n (walked cs operand n S)

  pub place_walked : List Depth → Designator → ℕ → Depth → Depth
  place_walked cs (d.Of' root _ selectors _) n S = indices_walked cs selectors n (root_walked root n S)

  pub indices_walked : {m : _} → List Depth → Row_of-Selector m → ℕ → Depth → Depth
  indices_walked cs end_of-Selector n S = touched n S
  indices_walked cs (more_of-Selector (select.Field name) rest) n S = indices_walked cs rest n S
  indices_walked cs (more_of-Selector (select.Index over index) rest) n S =
      indices_walked cs rest n (walked cs index n S)

  -- arguments, each below the place where its formal is used
  pub args_walked : List Depth → List ℕ → Arguments → ℕ → Depth → Depth
  args_walked cs places (a.Of' _ args) n S = row_walked cs places args n S

  pub row_walked : {m : _} → List Depth → List ℕ → Row_of-Argument m → ℕ → Depth → Depth
  row_walked cs places end_of-Argument n S = touched n S
  row_walked cs places (more_of-Argument first rest) n S =
      row_walked cs (later_places places) rest n (arg_walked cs first (n + first_place places) S)

  pub arg_walked : List Depth → argument.Argument → ℕ → Depth → Depth
  arg_walked cs (argument.Copy place) n S = place_walked cs place n S
  arg_walked cs (argument.CopyAll place) n S = place_walked cs place n S
  arg_walked cs (argument.Value body) n S = walked cs body n S
  arg_walked cs (argument.Place place) n S = place_walked cs place n S

abbrev pub labels_walked : List Depth → List Expr → ℕ → Depth → Depth
labels_walked cs [] n S = touched n S
labels_walked cs (label ∷ labels) n S = labels_walked cs labels n (walked cs label n S)

unfoldable mutual
  pub stmt_walked : List Depth → Stmt → ℕ → Depth → Depth
  stmt_walked cs (s.Block' _ body) n S = body_walked cs body n S
  stmt_walked cs (s.Assign to into body) n S = walked cs body n (place_walked cs to n S)
  stmt_walked cs (s.Copy to into from) n S = place_walked cs from n (place_walked cs to n S)
  stmt_walked cs (s.CopyAll to from) n S = place_walked cs from n (place_walked cs to n S)
  stmt_walked cs (s.Call k args at) n S =
      args_walked cs (called cs k).formals args n (touched (n + (called cs k).own) S)
  stmt_walked cs (s.If' _ arms _ otherwise at) n S = body_walked cs otherwise n (arms_walked cs arms n S)
  stmt_walked cs (s.Switch' on _ cases _ otherwise at) n S =
      body_walked cs otherwise n (cases_walked cs cases n (walked cs on n S))
  stmt_walked cs (s.For' over _ body at) n S = body_walked cs body (level over n) S
  stmt_walked cs (s.Clear place type at) n S = place_walked cs place n S
  stmt_walked cs (s.Undefine place at) n S = place_walked cs place n S
  stmt_walked cs (s.Error at) n S = touched n S
  stmt_walked cs (s.Assert test at) n S = walked cs test n S
  stmt_walked cs (s.PutText at) n S = touched n S
  stmt_walked cs (s.Put shown at) n S = walked cs shown n S
  stmt_walked cs (s.Leave at) n S = touched n S
  stmt_walked cs (s.Return body at) n S = walked cs body n S

  pub body_walked : {m : _} → List Depth → Row_of-Stmt m → ℕ → Depth → Depth
  body_walked cs end_of-Stmt n S = touched n S
  body_walked cs (more_of-Stmt first rest) n S = body_walked cs rest n (stmt_walked cs first n S)

  pub arms_walked : {m : _} → List Depth → Row_of-Arm m → ℕ → Depth → Depth
  arms_walked cs end_of-Arm n S = touched n S
  arms_walked cs (more_of-Arm test _ body rest) n S =
      arms_walked cs rest n (body_walked cs body n (walked cs test n S))

  pub cases_walked : {m : _} → List Depth → Row_of-Case m → ℕ → Depth → Depth
  cases_walked cs end_of-Case n S = touched n S
  cases_walked cs (more_of-Case labels _ body rest) n S =
      cases_walked cs rest n (body_walked cs body n (labels_walked cs labels n S))

-- of a routine, by those of the routines before it
abbrev pub summary : List Depth → Routine → Depth
summary cs r = stmt_walked cs r.body 0 empty

-- of all routines, in their order
abbrev pub with_summaries : List Depth → List Routine → List Depth
with_summaries cs [] = cs
with_summaries cs (r ∷ rs) = with_summaries (cs ++ summary cs r ∷ []) rs

abbrev pub summaries : List Routine → List Depth
summaries rs = with_summaries [] rs
