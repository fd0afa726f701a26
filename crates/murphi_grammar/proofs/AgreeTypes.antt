-- The right sides of types are alike: the first name of a range is read before it is known to begin one. And
-- those of fields, one of which goes on by itself.
use Rattle.std.specs.Prelude.{map}
use Rattle.std.proofs.Common.{◌≡◌, List, [], ◌∷◌, ◌++◌, ◌⊎◌, inl, inr, Some, None, refl, sym, ap, ◌∙◌}
use Rattle.grammar_core.specs.Forms.{Grammar, TreeOf, Call, Tree, FormOf, One, Empty, Seq, Choice, Many, Nest}
use Rattle.grammar_core.proofs.Alike.{Alike, same, flip, over, post, valued, named, both, either, seq, choice, many, nest, shared, first_shared, ended, last_shared, parts}
use Rattle.grammar_core.proofs.Alike.{chained as flat}
use Rattle.grammar_core.proofs.Alternatives.{join, alt, exchange, regroup, swap, nest_shared, with_empty, cases, first_cases, second_cases}
use Rattle.murphi_ast.specs.declared.token.Token.{Token}
use Rattle.murphi_ast.specs.declared.expr.Link.{Link}
use Rattle.murphi_ast.specs.declared.expr.Expr.{Expr}
use Rattle.murphi_grammar.specs.declared.symbol.Symbol.{Symbol}
use Rattle.murphi_grammar.specs.declared.symbol.Symbol.TheVariants as t
use Rattle.murphi_grammar.specs.Symbols.{symbol_of}
use Rattle.murphi_grammar.specs.Names.{Name, Piece}
use Rattle.murphi_grammar.specs.Names as n
use Rattle.murphi_grammar.specs.Parts.{Part, ◌▸◌, ◌∥◌, one, form, optional, ending, in_parentheses}
use Rattle.murphi_grammar.specs.Parts.{many as many_of, nest as nest_of}
use Rattle.murphi_ast.specs.declared.decl.Decl.{Decl}
use Rattle.murphi_grammar.specs.Values.{Value, PieceValue, linked, sum_link, product_link, sum_sign, product_sign, selector_of, chained, seconds, arm, case_of}
use Rattle.murphi_grammar.specs.Pieces.{cut, piece, piece_build, name_primary}
use Rattle.murphi_ast.specs.declared.stmt.Stmt.{Stmt}
use Rattle.murphi_ast.specs.declared.rule.RuleDecl.{RuleDecl}
use Rattle.murphi_ast.specs.declared.expr.TypeExpr.{TypeExpr}
use Rattle.murphi_ast.specs.declared.expr.Selector.{Selector}
use Rattle.murphi_ast.specs.declared.text.Text.{Text}
use Rattle.std.specs.Prelude.{Option}
use Rattle.murphi_grammar.proofs.Agree.{by, plain, unchanged, selectors, sum_links, product_links}
use Rattle.murphi_ast.specs.declared.expr.TypeExpr as type
use Rattle.murphi_grammar.specs.Grammar as w
use Rattle.murphi_grammar.specs.Factored as f

module _ (R : Name → Part) (B : (name : Name) → TreeOf Token Value (R name) → Value name) (cuts : (p : Piece) → Alike (by R B) (piece p) (piece_build p) (cut p) (λ v. v)) where
  abbrev g : Grammar
  g = by R B

  -- a form as it is
  abbrev it : (x : FormOf g) → Alike g x (λ v. v) x (λ v. v)
  it x = same g x (λ v. v)

  abbrev Factors : Name → Type 0
  Factors m = Alike g (f.rule m) (f.build m) (form m) (λ v. v)

  abbrev negated : Part
  negated = nest_of t.Minus (form n.Unary)

  abbrev value_negated : Tree g negated → Expr
  value_negated p = f.build n.Unary (inl p)

  -- a unary begins with a name or not, and so do a product and a sum
  unary_split : Factors n.Unary → Factors n.Primary → Alike g (form n.Unary) (λ v. v) (cut n.NamePrimary ∥ cut n.OtherUnary) (join (λ v. v) (λ v. v))
  unary_split u p =
      over (valued {wy = join value_negated (λ v. v)} (flip u) (λ t. refl) (cases _ _ (λ x. refl) (λ x. refl)))
      (over (alt (same g negated value_negated) (valued {x = form n.Primary} {y = cut n.NamePrimary ∥ cut n.OtherPrimary} {wx = λ v. v} {wy = join (λ v. v) (λ v. v)} (flip p) (λ t. refl) (cases _ _ (λ x. refl) (λ x. refl))))
      (over (exchange g negated (cut n.NamePrimary) (cut n.OtherPrimary) value_negated (λ v. v) (λ v. v))
      (alt (it (cut n.NamePrimary)) (valued {wx = join value_negated (λ v. v)} (cuts n.OtherUnary) (cases _ _ (λ x. refl) (λ x. refl)) (λ t. refl)))))

  abbrev named_product : Part
  named_product = cut n.NamePrimary ▸ cut n.ProductLinks

  abbrev value_product : Tree g named_product → Expr
  value_product p = chained p.0 p.1

  product_split : Factors n.Unary → Factors n.Primary → Factors n.Product → Alike g (form n.Product) (λ v. v) (named_product ∥ cut n.OtherProduct) (join value_product (λ v. v))
  product_split u p q =
      over (flip q)
      (over (valued {wx = f.build n.Product} {wy = λ z. chained (join (λ v. v) (λ v. v) z.0) z.1} (post {V = Expr × List Link} (λ z. chained z.0 z.1) (seq (unary_split u p) (it (cut n.ProductLinks)))) (λ t. refl) (λ t. refl))
      (over (post (λ z. chained (join (λ v. v) (λ v. v) z.0) z.1) (flip (last_shared g (cut n.NamePrimary) (cut n.OtherUnary) (cut n.ProductLinks))))
      (valued (alt (same g named_product value_product) (cuts n.OtherProduct)) (cases _ _ (λ x. refl) (λ x. refl)) (λ t. refl))))

  abbrev named_sum : Part
  named_sum = named_product ▸ cut n.SumLinks

  abbrev value_sum : Tree g named_sum → Expr
  value_sum p = chained (value_product p.0) p.1

  sum_split : Factors n.Unary → Factors n.Primary → Factors n.Product → Factors n.Sum → Alike g (form n.Sum) (λ v. v) (named_sum ∥ cut n.OtherSum) (join value_sum (λ v. v))
  sum_split u p q s =
      over (flip s)
      (over (valued {wx = f.build n.Sum} {wy = λ z. chained (join value_product (λ v. v) z.0) z.1} (post {V = Expr × List Link} (λ z. chained z.0 z.1) (seq (product_split u p q) (it (cut n.SumLinks)))) (λ t. refl) (λ t. refl))
      (over (post (λ z. chained (join value_product (λ v. v) z.0) z.1) (flip (last_shared g named_product (cut n.OtherProduct) (cut n.SumLinks))))
      (valued (alt (same g named_sum value_sum) (cuts n.OtherSum)) (cases _ _ (λ x. refl) (λ x. refl)) (λ t. refl))))

  -- ranges
  abbrev to_high : Part
  to_high = one t.DotDot ▸ form n.Sum

  abbrev from_name : Token × PieceValue n.RangeTail → TypeExpr
  from_name p = f.build n.TypeForm (inl (p.0, inl p.1))

  abbrev from_primary : Expr × (List Link × (List Link × (Token × Expr))) → TypeExpr
  from_primary (x, (ms, (ads, (_, high)))) = type.Range (chained (chained x ms) ads) high

  named_range : Alike g (named_sum ▸ to_high) (λ p. type.Range (value_sum p.0) p.1.1) (one t.Name ▸ cut n.RangeTail) from_name
  named_range =
      over (valued {wy = λ p. from_primary (p.0.0, (p.0.1, p.1))} (post (λ p. from_primary (p.0.0, (p.0.1, p.1))) (parts g named_product (cut n.SumLinks) to_high)) (λ t. refl) (λ t. refl))
      (over (valued {wy = from_primary} (post from_primary (parts g (cut n.NamePrimary) (cut n.ProductLinks) (cut n.SumLinks ▸ to_high))) (λ t. refl) (λ t. refl))
      (over (valued {wx = from_primary} {wy = λ p. from_primary (name_primary p.0.0 p.0.1, p.1)} (post from_primary (seq (flip (cuts n.NamePrimary)) (it (cut n.ProductLinks ▸ cut n.SumLinks ▸ to_high)))) (λ t. refl) (λ t. refl))
      (over (valued {wy = λ p. from_primary (name_primary p.0 p.1.0, p.1.1)} (post (λ p. from_primary (name_primary p.0 p.1.0, p.1.1)) (parts g (one t.Name) (cut n.NameRest) (cut n.ProductLinks ▸ cut n.SumLinks ▸ to_high))) (λ t. refl) (λ t. refl))
      (valued (post from_name (seq (it (one t.Name)) (cuts n.RangeTail))) (λ t. refl) (λ t. refl)))))

  abbrev value_range : Tree g (form n.Sum ▸ to_high) → TypeExpr
  value_range p = w.build n.TypeForm (inr (inr (inl p)))

  abbrev value_other_range : Tree g (cut n.OtherSum ▸ to_high) → TypeExpr
  value_other_range p = f.build n.TypeForm (inr (inr (inl p)))

  range : Factors n.Unary → Factors n.Primary → Factors n.Product → Factors n.Sum → Alike g (form n.Sum ▸ to_high) value_range ((one t.Name ▸ cut n.RangeTail) ∥ (cut n.OtherSum ▸ to_high)) (join from_name value_other_range)
  range u p q s =
      over (valued {wx = value_range} {wy = λ z. type.Range (join value_sum (λ v. v) z.0) z.1.1} (post {V = Expr × (Token × Expr)} (λ z. type.Range z.0 z.1.1) (seq (sum_split u p q s) (it to_high))) (λ t. refl) (λ t. refl))
      (over (post (λ z. type.Range (join value_sum (λ v. v) z.0) z.1.1) (flip (last_shared g named_sum (cut n.OtherSum) to_high)))
      (valued (alt named_range (same g (cut n.OtherSum ▸ to_high) value_other_range)) (cases _ _ (λ x. refl) (λ x. refl)) (λ t. refl)))

  abbrev other_types : Part
  other_types =
      one t.Enum ▸ one t.OpenBrace ▸ form n.NameList ▸ one t.CloseBrace ∥
      one t.Scalarset ▸ in_parentheses (form n.Expr) ∥
      nest_of t.Record (form n.Fields ▸ ending t.EndRecord) ∥
      nest_of t.Array (nest_of t.OpenBracket (form n.TypeForm ▸ one t.CloseBracket) ▸ one t.Of ▸ form n.TypeForm)

  abbrev value_known : Tree g (one t.Name) → TypeExpr
  value_known p = w.build n.TypeForm (inl p)

  abbrev value_truth : Tree g (one t.Boolean) → TypeExpr
  value_truth p = w.build n.TypeForm (inr (inl p))

  abbrev value_others : Tree g other_types → TypeExpr
  value_others p = w.build n.TypeForm (inr (inr (inr p)))

  name_or_range : Alike g (one t.Name ∥ one t.Name ▸ cut n.RangeTail) (join value_known from_name) (one t.Name ▸ optional (cut n.RangeTail)) (λ p. f.build n.TypeForm (inl p))
  name_or_range =
      over (alt (valued {wx = value_known} {wy = λ p. value_known p.0} (post (λ p. value_known p.0) (with_empty g (one t.Name))) (λ t. refl) (λ t. refl)) (same g (one t.Name ▸ cut n.RangeTail) from_name))
      (over (swap g (one t.Name ▸ Empty) (one t.Name ▸ cut n.RangeTail) (λ p. value_known p.0) from_name)
      (valued (post (λ p. f.build n.TypeForm (inl p)) (first_shared g (one t.Name) (cut n.RangeTail) Empty)) (cases _ _ (λ x. refl) (λ x. refl)) (λ t. refl)))

  pub type_form : Factors n.Unary → Factors n.Primary → Factors n.Product → Factors n.Sum → Alike g (w.rule n.TypeForm) (w.build n.TypeForm) (f.rule n.TypeForm) (f.build n.TypeForm)
  type_form u p q s = valued
      (over (alt (same g (one t.Name) value_known) (over (alt (same g (one t.Boolean) value_truth) (over (alt (range u p q s) (same g other_types value_others)) (flip (regroup g (one t.Name ▸ cut n.RangeTail) (cut n.OtherSum ▸ to_high) other_types from_name value_other_range value_others)))) (exchange g (one t.Boolean) (one t.Name ▸ cut n.RangeTail) ((cut n.OtherSum ▸ to_high) ∥ other_types) value_truth from_name (join value_other_range value_others))))
      (over (regroup g (one t.Name) (one t.Name ▸ cut n.RangeTail) (one t.Boolean ∥ (cut n.OtherSum ▸ to_high) ∥ other_types) value_known from_name (join value_truth (join value_other_range value_others)))
      (alt name_or_range (same g (one t.Boolean ∥ (cut n.OtherSum ▸ to_high) ∥ other_types) (join value_truth (join value_other_range value_others))))))
      (cases _ _ (λ x. refl) (cases _ _ (λ x. refl) (cases _ _ (λ x. refl) (λ x. refl))))
      (cases _ _ (λ x. refl) (cases _ _ (λ x. refl) (cases _ _ (λ x. refl) (cases _ _ (λ x. refl) (cases _ _ (λ x. refl) (cases _ _ (λ x. refl) (λ x. refl)))))))
