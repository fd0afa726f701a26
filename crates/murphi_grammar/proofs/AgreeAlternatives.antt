-- The right sides that differ by more than named repetitions are alike, too: items, statements, primaries and
-- types, whose alternatives begin alike.
use Rattle.std.specs.Prelude.{map}
use Rattle.std.proofs.Common.{◌≡◌, List, [], ◌∷◌, ◌++◌, ◌⊎◌, inl, inr, Some, None, refl, sym, ap, ◌∙◌}
use Rattle.grammar_core.specs.Forms.{Grammar, TreeOf, Call, Tree, FormOf, One, Empty, Seq, Choice, Many, Nest}
use Rattle.grammar_core.proofs.Alike.{Alike, same, flip, over, post, valued, named, both, either, seq, choice, many, nest, shared, first_shared, ended, last_shared, parts}
use Rattle.grammar_core.proofs.Alike.{chained as flat}
use Rattle.grammar_core.proofs.Alternatives.{join, alt, exchange, regroup, swap, nest_shared, with_empty, cases, first_cases, second_cases}
use Rattle.murphi_ast.specs.declared.token.Token.{Token}
use Rattle.murphi_ast.specs.declared.expr.Link.{Link}
use Rattle.murphi_ast.specs.declared.expr.Expr.{Expr}
use Rattle.murphi_grammar.specs.declared.symbol.Symbol.{Symbol}
use Rattle.murphi_grammar.specs.declared.symbol.Symbol.TheVariants as t
use Rattle.murphi_grammar.specs.Symbols.{symbol_of}
use Rattle.murphi_grammar.specs.Names.{Name, Piece}
use Rattle.murphi_grammar.specs.Names as n
use Rattle.murphi_grammar.specs.Parts.{Part, ◌▸◌, ◌∥◌, one, form, optional, ending, in_parentheses}
use Rattle.murphi_grammar.specs.Parts.{many as many_of, nest as nest_of}
use Rattle.murphi_ast.specs.declared.decl.Decl.{Decl}
use Rattle.murphi_grammar.specs.Values.{Value, PieceValue, linked, sum_link, product_link, sum_sign, product_sign, selector_of, chained, seconds, arm, case_of}
use Rattle.murphi_grammar.specs.Pieces.{cut, piece, piece_build, name_primary}
use Rattle.murphi_ast.specs.declared.stmt.Stmt.{Stmt}
use Rattle.murphi_ast.specs.declared.rule.RuleDecl.{RuleDecl}
use Rattle.murphi_ast.specs.declared.expr.TypeExpr.{TypeExpr}
use Rattle.murphi_ast.specs.declared.expr.Selector.{Selector}
use Rattle.murphi_ast.specs.declared.text.Text.{Text}
use Rattle.std.specs.Prelude.{Option}
use Rattle.murphi_grammar.proofs.Agree.{by, plain, unchanged, selectors, sum_links, product_links}
use Rattle.murphi_grammar.specs.Grammar as w
use Rattle.murphi_grammar.specs.Factored as f

arms_are : (xs : List (Token × (Expr × (Token × List Stmt)))) → map arm xs ≡ seconds (map (both (λ x. x) (piece_build n.IfArm)) xs)
arms_are [] = refl
arms_are (x ∷ xs) = ap (λ l. arm x ∷ l) (arms_are xs)

module _ (R : Name → Part) (B : (name : Name) → TreeOf Token Value (R name) → Value name) (cuts : (p : Piece) → Alike (by R B) (piece p) (piece_build p) (cut p) (λ v. v)) where
  abbrev g : Grammar
  g = by R B

  -- a form as it is
  abbrev it : (x : FormOf g) → Alike g x (λ v. v) x (λ v. v)
  it x = same g x (λ v. v)

  abbrev Factors : Name → Type 0
  Factors m = Alike g (f.rule m) (f.build m) (form m) (λ v. v)

  -- items
  abbrev guarded : Part
  guarded = form n.Expr ▸ one t.DoubleArrow ▸ form n.Body ▸ ending t.EndRule

  abbrev unguarded : Part
  unguarded = many_of (form n.Declare) ▸ one t.Begin ▸ form n.Stmts ▸ ending t.EndRule

  abbrev a_title : Part
  a_title = optional (one t.Quoted)

  abbrev rest_value : Tree g (guarded ∥ unguarded) → PieceValue n.RuleRest
  rest_value p = piece_build n.RuleRest (either (λ v. v) (both (piece_build n.Locals) (λ v. v)) p)

  rule_rest : Alike g (guarded ∥ unguarded) rest_value (cut n.RuleRest) (λ v. v)
  rule_rest = over (post (piece_build n.RuleRest) (choice (it guarded) (seq (cuts n.Locals) (it (one t.Begin ▸ form n.Stmts ▸ ending t.EndRule)))))
      (valued (cuts n.RuleRest) (cases _ _ (λ x. refl) (λ x. refl)) (λ t. refl))

  rules : Alike g (nest_of t.Rule (a_title ▸ guarded) ∥ nest_of t.Rule (a_title ▸ unguarded)) (λ p. both {A = Token} (λ v. v) (λ z. both (piece_build n.Title) rest_value (shared z)) (shared p)) (nest_of t.Rule (cut n.Title ▸ cut n.RuleRest)) (λ v. v)
  rules = over (post (both (λ v. v) (λ z. both (piece_build n.Title) rest_value (shared z))) (nest_shared g t.Rule (a_title ▸ guarded) (a_title ▸ unguarded)))
      (valued (nest t.Rule (over (post (both (piece_build n.Title) rest_value) (first_shared g a_title guarded unguarded)) (seq (cuts n.Title) rule_rest))) (λ t. refl) (λ t. refl))

  abbrev start_of : Part
  start_of = nest_of t.StartState (a_title ▸ form n.Body ▸ ending t.EndStartState)

  abbrev invariant_of : Part
  invariant_of = nest_of t.Invariant (a_title ▸ form n.Expr)

  abbrev group_of : Part
  group_of = nest_of t.RuleSet (form n.Bind ▸ many_of (one t.Semicolon ▸ form n.Bind) ▸ one t.Do ▸ form n.Items ▸ ending t.EndRuleSet)

  other_items : Alike g (start_of ∥ invariant_of ∥ group_of) (λ p. w.build n.Item (inr (inr p))) (nest_of t.StartState (cut n.Title ▸ form n.Body ▸ ending t.EndStartState) ∥ nest_of t.Invariant (cut n.Title ▸ form n.Expr) ∥ nest_of t.RuleSet (form n.Bind ▸ cut n.MoreBinds ▸ one t.Do ▸ form n.Items ▸ ending t.EndRuleSet)) (λ p. f.build n.Item (inr p))
  other_items = valued (alt (post (λ p. f.build n.Item (inr (inl p))) (nest t.StartState (seq (cuts n.Title) (it (form n.Body ▸ ending t.EndStartState)))))
      (alt (post (λ p. f.build n.Item (inr (inr (inl p)))) (nest t.Invariant (seq (cuts n.Title) (it (form n.Expr)))))
      (post (λ p. f.build n.Item (inr (inr (inr p)))) (nest t.RuleSet (seq (it (form n.Bind)) (seq (cuts n.MoreBinds) (it (one t.Do ▸ form n.Items ▸ ending t.EndRuleSet))))))))
      (cases _ _ (λ x. refl) (cases _ _ (λ x. refl) (λ x. refl))) (cases _ _ (λ x. refl) (cases _ _ (λ x. refl) (λ x. refl)))

  pub item : Alike g (w.rule n.Item) (w.build n.Item) (f.rule n.Item) (f.build n.Item)
  item = valued (over (regroup g (nest_of t.Rule (a_title ▸ guarded)) (nest_of t.Rule (a_title ▸ unguarded)) (start_of ∥ invariant_of ∥ group_of) (λ p. w.build n.Item (inl p)) (λ p. w.build n.Item (inr (inl p))) (λ p. w.build n.Item (inr (inr p))))
      (alt (valued {wx = join (λ p. w.build n.Item (inl p)) (λ p. w.build n.Item (inr (inl p)))} (post (λ p. f.build n.Item (inl p)) rules) (cases _ _ (λ x. refl) (λ x. refl)) (λ t. refl)) other_items))
      (cases _ _ (λ x. refl) (cases _ _ (λ x. refl) (λ x. refl))) (cases _ _ (λ x. refl) (λ x. refl))

  -- primaries
  abbrev called : Part
  called = one t.Name ▸ in_parentheses (optional (form n.Args))

  abbrev bound : Part
  bound = one t.IsUndefined ▸ in_parentheses (form n.Place) ∥ nest_of t.Forall (form n.Bind ▸ one t.Do ▸ form n.Expr ▸ ending t.EndForall) ∥ nest_of t.Exists (form n.Bind ▸ one t.Do ▸ form n.Expr ▸ ending t.EndExists)

  abbrev value_number : Tree g (one t.Number) → Expr
  value_number p = w.build n.Primary (inl p)

  abbrev value_true : Tree g (one t.True) → Expr
  value_true p = w.build n.Primary (inr (inl p))

  abbrev value_false : Tree g (one t.False) → Expr
  value_false p = w.build n.Primary (inr (inr (inl p)))

  abbrev value_group : Tree g (in_parentheses (form n.Expr)) → Expr
  value_group p = w.build n.Primary (inr (inr (inr (inl p))))

  abbrev value_place : Tree g (form n.Place) → Expr
  value_place p = w.build n.Primary (inr (inr (inr (inr (inl p)))))

  abbrev value_called : Tree g called → Expr
  value_called p = w.build n.Primary (inr (inr (inr (inr (inr (inl p))))))

  abbrev value_bound : Tree g bound → Expr
  value_bound p = w.build n.Primary (inr (inr (inr (inr (inr (inr p))))))

  place_first : Factors n.Place → Alike g (form n.Place) value_place (one t.Name ▸ cut n.Selectors) (λ p. piece_build n.NamePrimary (p.0, inr p.1))
  place_first placed = valued (post value_place (flip placed)) (λ t. refl) (λ t. refl)

  called_first : Alike g called value_called (one t.Name ▸ cut n.Arguments) (λ p. piece_build n.NamePrimary (p.0, inl p.1))
  called_first = valued (post {V = Token × List Expr} (λ p. piece_build n.NamePrimary (p.0, inl p.1)) (seq (it (one t.Name)) (cuts n.Arguments))) (λ t. refl) (λ t. refl)

  -- what begins with a name
  named_first : Factors n.Place → Alike g (form n.Place ∥ called) (join value_place value_called) (cut n.NamePrimary) (λ v. v)
  named_first placed =
      over (alt (place_first placed) called_first)
      (over (swap g (one t.Name ▸ cut n.Selectors) (one t.Name ▸ cut n.Arguments) (λ p. piece_build n.NamePrimary (p.0, inr p.1)) (λ p. piece_build n.NamePrimary (p.0, inl p.1)))
      (over (valued {wx = join (λ p. piece_build n.NamePrimary (p.0, inl p.1)) (λ p. piece_build n.NamePrimary (p.0, inr p.1))} (post (λ p. piece_build n.NamePrimary (p.0, piece_build n.NameRest p.1)) (first_shared g (one t.Name) (cut n.Arguments) (cut n.Selectors))) (cases _ _ (λ x. refl) (λ x. refl)) (λ t. refl))
      (over (post (piece_build n.NamePrimary) (seq (it (one t.Name)) (cuts n.NameRest))) (valued (cuts n.NamePrimary) (λ t. refl) (λ t. refl)))))

  abbrev then_bound : Tree g (in_parentheses (form n.Expr) ∥ bound) → Expr
  then_bound = join value_group value_bound

  bound_cut : Alike g bound value_bound (cut n.Binder) (λ v. v)
  bound_cut = valued (cuts n.Binder) (cases _ _ (λ x. refl) (cases _ _ (λ x. refl) (λ x. refl))) (λ t. refl)

  others : Alike g (one t.Number ∥ one t.True ∥ one t.False ∥ in_parentheses (form n.Expr) ∥ bound) (join value_number (join value_true (join value_false then_bound))) (cut n.OtherPrimary) (λ v. v)
  others = over (alt (same g (one t.Number) value_number) (alt (same g (one t.True) value_true) (alt (same g (one t.False) value_false) (alt (same g (in_parentheses (form n.Expr)) value_group) bound_cut))))
      (valued (cuts n.OtherPrimary) (cases _ _ (λ x. refl) (cases _ _ (λ x. refl) (cases _ _ (λ x. refl) (cases _ _ (λ x. refl) (λ x. refl))))) (λ t. refl))

  pub primary : Factors n.Place → Alike g (w.rule n.Primary) (w.build n.Primary) (f.rule n.Primary) (f.build n.Primary)
  primary placed = valued (over four (alt (same g (cut n.NamePrimary) (λ v. v)) others))
      (cases _ _ (λ x. refl) (cases _ _ (λ x. refl) (cases _ _ (λ x. refl) (cases _ _ (λ x. refl) (cases _ _ (λ x. refl) (cases _ _ (λ x. refl) (λ x. refl))))))) (cases _ _ (λ x. refl) (λ x. refl))
    where
      one_up : Alike g (in_parentheses (form n.Expr) ∥ form n.Place ∥ called ∥ bound) (join value_group (join value_place (join value_called value_bound))) (cut n.NamePrimary ∥ in_parentheses (form n.Expr) ∥ bound) (join (λ v. v) then_bound)
      one_up = over (alt (same g (in_parentheses (form n.Expr)) value_group) (over (regroup g (form n.Place) called bound value_place value_called value_bound) (alt (named_first placed) (same g bound value_bound)))) (exchange g (in_parentheses (form n.Expr)) (cut n.NamePrimary) bound value_group (λ v. v) value_bound)

      two : Alike g (one t.False ∥ in_parentheses (form n.Expr) ∥ form n.Place ∥ called ∥ bound) (join value_false (join value_group (join value_place (join value_called value_bound)))) (cut n.NamePrimary ∥ one t.False ∥ in_parentheses (form n.Expr) ∥ bound) (join (λ v. v) (join value_false then_bound))
      two = over (alt (same g (one t.False) value_false) one_up) (exchange g (one t.False) (cut n.NamePrimary) (in_parentheses (form n.Expr) ∥ bound) value_false (λ v. v) then_bound)

      three : Alike g (one t.True ∥ one t.False ∥ in_parentheses (form n.Expr) ∥ form n.Place ∥ called ∥ bound) (join value_true (join value_false (join value_group (join value_place (join value_called value_bound))))) (cut n.NamePrimary ∥ one t.True ∥ one t.False ∥ in_parentheses (form n.Expr) ∥ bound) (join (λ v. v) (join value_true (join value_false then_bound)))
      three = over (alt (same g (one t.True) value_true) two) (exchange g (one t.True) (cut n.NamePrimary) (one t.False ∥ in_parentheses (form n.Expr) ∥ bound) value_true (λ v. v) (join value_false then_bound))

      four : Alike g (w.rule n.Primary) (join value_number (join value_true (join value_false (join value_group (join value_place (join value_called value_bound)))))) (cut n.NamePrimary ∥ one t.Number ∥ one t.True ∥ one t.False ∥ in_parentheses (form n.Expr) ∥ bound) (join (λ v. v) (join value_number (join value_true (join value_false then_bound))))
      four = over (alt (same g (one t.Number) value_number) three) (exchange g (one t.Number) (cut n.NamePrimary) (one t.True ∥ one t.False ∥ in_parentheses (form n.Expr) ∥ bound) value_number (λ v. v) (join value_true (join value_false then_bound)))

  -- statements
  abbrev becomes : Part
  becomes = one t.Becomes ▸ form n.Expr

  abbrev rest_of_stmt : Token × (List Expr ⊎ (List Selector × (Token × Expr))) → Stmt
  rest_of_stmt p = f.build n.Stmt (inl (p.0, piece_build n.StmtRest p.1))

  assigned : Factors n.Place → Alike g (form n.Place ▸ becomes) (λ p. w.build n.Stmt (inl p)) (one t.Name ▸ cut n.Selectors ▸ becomes) (λ p. rest_of_stmt (p.0, inr p.1))
  assigned placed = over
      (valued {wy = λ p. rest_of_stmt ((flat p).0, inr (flat p).1)} (post (λ p. w.build n.Stmt (inl p)) (seq (flip placed) (it becomes))) (λ t. refl) (λ t. refl))
      (post (λ p. rest_of_stmt (p.0, inr p.1)) (parts g (one t.Name) (cut n.Selectors) becomes))

  stmt_called : Alike g called (λ p. w.build n.Stmt (inr (inl p))) (one t.Name ▸ cut n.Arguments) (λ p. rest_of_stmt (p.0, inl p.1))
  stmt_called = valued (post {V = Token × List Expr} (λ p. rest_of_stmt (p.0, inl p.1)) (seq (it (one t.Name)) (cuts n.Arguments))) (λ t. refl) (λ t. refl)

  named_stmt : Factors n.Place → Alike g ((form n.Place ▸ becomes) ∥ called) (join (λ p. w.build n.Stmt (inl p)) (λ p. w.build n.Stmt (inr (inl p)))) (one t.Name ▸ cut n.StmtRest) (λ p. f.build n.Stmt (inl p))
  named_stmt placed =
      over (alt (assigned placed) stmt_called)
      (over (swap g (one t.Name ▸ cut n.Selectors ▸ becomes) (one t.Name ▸ cut n.Arguments) (λ p. rest_of_stmt (p.0, inr p.1)) (λ p. rest_of_stmt (p.0, inl p.1)))
      (over (valued {wx = join (λ p. rest_of_stmt (p.0, inl p.1)) (λ p. rest_of_stmt (p.0, inr p.1))} (post rest_of_stmt (first_shared g (one t.Name) (cut n.Arguments) (cut n.Selectors ▸ becomes))) (cases _ _ (λ x. refl) (λ x. refl)) (λ t. refl))
      (valued (post (λ p. f.build n.Stmt (inl p)) (seq (it (one t.Name)) (cuts n.StmtRest))) (λ t. refl) (λ t. refl))))

  -- three parts as one, before a fourth
  abbrev three_of : {A C D E : Type 0} → (A × (C × D)) × E → A × (C × (D × E))
  three_of ((a, (c, d)), e) = (a, (c, (d, e)))

  grouped : (x y z u : FormOf g) → Alike g (Seq x (Seq y (Seq z u))) (λ t. t) (Seq (Seq x (Seq y z)) u) three_of
  grouped x y z u = valued (over (seq (it x) (flip (parts g y z u))) (post (both (λ t. t) flat) (flip (parts g x (Seq y z) u)))) (λ t. refl) (λ t. refl)

  more_arms : Alike g (many_of (one t.Elsif ▸ form n.Expr ▸ one t.Then ▸ form n.Stmts)) (map arm) (cut n.MoreArms) (λ v. v)
  more_arms = valued (over (post seconds (many (seq (it (one t.Elsif)) (cuts n.IfArm)))) (valued (cuts n.MoreArms) (λ t. ap seconds (plain t)) (λ t. refl))) arms_are (λ t. refl)

  abbrev labels : Part
  labels = many_of (one t.Comma ▸ form n.Implies)

  one_case : Alike g (one t.Case ▸ form n.Implies ▸ labels ▸ one t.Colon ▸ form n.Stmts) case_of (cut n.CaseArm) (λ v. v)
  one_case = over (valued {wx = case_of} (post (piece_build n.CaseArm) (seq (it (one t.Case)) (seq (it (form n.Implies)) (seq (cuts n.MoreLabels) (it (one t.Colon ▸ form n.Stmts)))))) (λ t. refl) (λ t. refl)) (cuts n.CaseArm)

  all_cases : Alike g (many_of (one t.Case ▸ form n.Implies ▸ labels ▸ one t.Colon ▸ form n.Stmts)) (map case_of) (cut n.Cases) (λ v. v)
  all_cases = over (many one_case) (valued (cuts n.Cases) unchanged (λ t. refl))

  abbrev else_of : Part
  else_of = optional (one t.Else ▸ form n.Stmts)

  if_stmt : Alike g (nest_of t.If (form n.Expr ▸ one t.Then ▸ form n.Stmts ▸ many_of (one t.Elsif ▸ form n.Expr ▸ one t.Then ▸ form n.Stmts) ▸ else_of ▸ ending t.EndIf)) (λ p. w.build n.Stmt (inr (inr (inr (inr (inl p)))))) (nest_of t.If (cut n.IfArm ▸ cut n.MoreArms ▸ cut n.Otherwise ▸ ending t.EndIf)) (λ p. f.build n.Stmt (inr (inr (inr (inl p)))))
  if_stmt = valued (over
      (post (λ p. w.build n.Stmt (inr (inr (inr (inr (inl p)))))) (nest t.If (grouped (form n.Expr) (one t.Then) (form n.Stmts) (many_of (one t.Elsif ▸ form n.Expr ▸ one t.Then ▸ form n.Stmts) ▸ else_of ▸ ending t.EndIf))))
      (valued (post (λ p. f.build n.Stmt (inr (inr (inr (inl p))))) (nest t.If (seq (cuts n.IfArm) (seq more_arms (seq (cuts n.Otherwise) (it (ending t.EndIf))))))) (λ t. refl) (λ t. refl)))
      (λ t. refl) (λ t. refl)

  switch_stmt : Alike g (nest_of t.Switch (form n.Expr ▸ many_of (one t.Case ▸ form n.Implies ▸ labels ▸ one t.Colon ▸ form n.Stmts) ▸ else_of ▸ ending t.EndSwitch)) (λ p. w.build n.Stmt (inr (inr (inr (inr (inr (inl p))))))) (nest_of t.Switch (form n.Expr ▸ cut n.Cases ▸ cut n.Otherwise ▸ ending t.EndSwitch)) (λ p. f.build n.Stmt (inr (inr (inr (inr (inl p))))))
  switch_stmt = valued (post (λ p. f.build n.Stmt (inr (inr (inr (inr (inl p)))))) (nest t.Switch (seq (it (form n.Expr)) (seq all_cases (seq (cuts n.Otherwise) (it (ending t.EndSwitch))))))) (λ t. refl) (λ t. refl)

  abbrev for_of : Part
  for_of = nest_of t.For (form n.Bind ▸ one t.Do ▸ form n.Stmts ▸ ending t.EndFor)

  abbrev error_of : Part
  error_of = one t.Error ▸ one t.Quoted

  abbrev assert_of : Part
  assert_of = one t.Assert ▸ form n.Expr ▸ optional (one t.Quoted)

  abbrev put_text : Part
  put_text = one t.Put ▸ one t.Quoted

  abbrev put_value : Part
  put_value = one t.Put ▸ form n.Expr

  abbrev return_of : Part
  return_of = one t.Return ▸ optional (form n.Expr)

  puts : Alike g (put_text ∥ put_value ∥ return_of) (λ p. w.build n.Stmt (inr (inr (inr (inr (inr (inr (inr (inr (inr p)))))))))) ((one t.Put ▸ (one t.Quoted ∥ form n.Expr)) ∥ return_of) (λ p. f.build n.Stmt (inr (inr (inr (inr (inr (inr (inr (inr p)))))))))
  puts = valued (over (regroup g put_text put_value return_of (λ p. w.build n.Stmt (inr (inr (inr (inr (inr (inr (inr (inr (inr (inl p))))))))))) (λ p. w.build n.Stmt (inr (inr (inr (inr (inr (inr (inr (inr (inr (inr (inl p)))))))))))) (λ p. w.build n.Stmt (inr (inr (inr (inr (inr (inr (inr (inr (inr (inr (inr p)))))))))))))
      (alt (valued {wx = join (λ p. w.build n.Stmt (inr (inr (inr (inr (inr (inr (inr (inr (inr (inl p))))))))))) (λ p. w.build n.Stmt (inr (inr (inr (inr (inr (inr (inr (inr (inr (inr (inl p))))))))))))} (post (λ p. f.build n.Stmt (inr (inr (inr (inr (inr (inr (inr (inr (inl p)))))))))) (first_shared g (one t.Put) (one t.Quoted) (form n.Expr))) (cases _ _ (λ x. refl) (λ x. refl)) (λ t. refl))
      (same g return_of (λ p. w.build n.Stmt (inr (inr (inr (inr (inr (inr (inr (inr (inr (inr (inr p)))))))))))))))
      (cases _ _ (λ x. refl) (cases _ _ (λ x. refl) (λ x. refl))) (cases _ _ (λ x. refl) (second_cases _ _ (λ x z. refl) (λ x z. refl)))

  abbrev for_on : Part
  for_on = for_of ∥ error_of ∥ assert_of ∥ put_text ∥ put_value ∥ return_of

  for_rest : Alike g for_on (λ p. w.build n.Stmt (inr (inr (inr (inr (inr (inr p))))))) (for_of ∥ error_of ∥ assert_of ∥ (one t.Put ▸ (one t.Quoted ∥ form n.Expr)) ∥ return_of) (λ p. f.build n.Stmt (inr (inr (inr (inr (inr p))))))
  for_rest = valued (alt (same g for_of (λ p. f.build n.Stmt (inr (inr (inr (inr (inr (inl p)))))))) (alt (same g error_of (λ p. f.build n.Stmt (inr (inr (inr (inr (inr (inr (inl p))))))))) (alt (same g assert_of (λ p. f.build n.Stmt (inr (inr (inr (inr (inr (inr (inr (inl p)))))))))) puts)))
      (cases _ _ (λ x. refl) (cases _ _ (λ x. refl) (cases _ _ (λ x. refl) (λ x. refl)))) (cases _ _ (λ x. refl) (cases _ _ (λ x. refl) (cases _ _ (λ x. refl) (λ x. refl))))

  other_stmts : Alike g (one t.Clear ▸ form n.Place ∥ one t.Undefine ▸ form n.Place ∥ nest_of t.If (form n.Expr ▸ one t.Then ▸ form n.Stmts ▸ many_of (one t.Elsif ▸ form n.Expr ▸ one t.Then ▸ form n.Stmts) ▸ else_of ▸ ending t.EndIf) ∥ nest_of t.Switch (form n.Expr ▸ many_of (one t.Case ▸ form n.Implies ▸ labels ▸ one t.Colon ▸ form n.Stmts) ▸ else_of ▸ ending t.EndSwitch) ∥ for_on) (λ p. w.build n.Stmt (inr (inr p)))
      (one t.Clear ▸ form n.Place ∥ one t.Undefine ▸ form n.Place ∥ nest_of t.If (cut n.IfArm ▸ cut n.MoreArms ▸ cut n.Otherwise ▸ ending t.EndIf) ∥ nest_of t.Switch (form n.Expr ▸ cut n.Cases ▸ cut n.Otherwise ▸ ending t.EndSwitch) ∥ for_of ∥ error_of ∥ assert_of ∥ (one t.Put ▸ (one t.Quoted ∥ form n.Expr)) ∥ return_of) (λ p. f.build n.Stmt (inr p))
  other_stmts = valued (alt (same g (one t.Clear ▸ form n.Place) (λ p. f.build n.Stmt (inr (inl p)))) (alt (same g (one t.Undefine ▸ form n.Place) (λ p. f.build n.Stmt (inr (inr (inl p))))) (alt if_stmt (alt switch_stmt for_rest))))
      (cases _ _ (λ x. refl) (cases _ _ (λ x. refl) (cases _ _ (λ x. refl) (cases _ _ (λ x. refl) (λ x. refl))))) (cases _ _ (λ x. refl) (cases _ _ (λ x. refl) (cases _ _ (λ x. refl) (cases _ _ (λ x. refl) (λ x. refl)))))

  pub stmt : Factors n.Place → Alike g (w.rule n.Stmt) (w.build n.Stmt) (f.rule n.Stmt) (f.build n.Stmt)
  stmt placed = valued (over (regroup g (form n.Place ▸ becomes) called _ (λ p. w.build n.Stmt (inl p)) (λ p. w.build n.Stmt (inr (inl p))) (λ p. w.build n.Stmt (inr (inr p)))) (alt (named_stmt placed) other_stmts))
      (cases _ _ (λ x. refl) (cases _ _ (λ x. refl) (λ x. refl))) (cases _ _ (λ x. refl) (λ x. refl))
