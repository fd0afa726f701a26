-- The right sides of the grammar as it is written and of its left-factored form are alike, in each grammar
-- that has the pieces.
use Rattle.std.specs.Prelude.{map}
use Rattle.std.proofs.Common.{◌≡◌, List, [], ◌∷◌, ◌++◌, ◌⊎◌, inl, inr, Some, None, refl, sym, ap, ◌∙◌}
use Rattle.grammar_core.specs.Forms.{Grammar, TreeOf, Call, Tree, FormOf, One, Empty, Seq, Choice, Many, Nest}
use Rattle.grammar_core.proofs.Alike.{Alike, same, flip, over, post, valued, named, both, either, seq, choice, many, nest, shared, first_shared, ended, last_shared, chained, parts}
use Rattle.grammar_core.proofs.Alternatives.{join, alt, exchange, regroup, swap, nest_shared, with_empty, cases, first_cases, second_cases}
use Rattle.murphi_ast.specs.declared.token.Token.{Token}
use Rattle.murphi_ast.specs.declared.expr.Link.{Link}
use Rattle.murphi_ast.specs.declared.expr.Expr.{Expr}
use Rattle.murphi_grammar.specs.declared.symbol.Symbol.{Symbol}
use Rattle.murphi_grammar.specs.declared.symbol.Symbol.TheVariants as t
use Rattle.murphi_grammar.specs.Symbols.{symbol_of}
use Rattle.murphi_grammar.specs.Names.{Name, Piece}
use Rattle.murphi_grammar.specs.Names as n
use Rattle.murphi_grammar.specs.Parts.{Part, ◌▸◌, ◌∥◌, one, form, optional, ending, in_parentheses}
use Rattle.murphi_grammar.specs.Parts.{many as many_of, nest as nest_of}
use Rattle.murphi_ast.specs.declared.decl.Decl.{Decl}
use Rattle.murphi_grammar.specs.Values.{Value, PieceValue, linked, sum_link, product_link, sum_sign, product_sign, selector_of}
use Rattle.murphi_grammar.specs.Pieces.{cut, piece, piece_build}
use Rattle.murphi_grammar.specs.Grammar as w
use Rattle.murphi_grammar.specs.Factored as f

-- a grammar of these names
abbrev pub by : (rule : Name → Part) → ((name : Name) → TreeOf Token Value (rule name) → Value name) → Grammar
by rule build = record { Token = Token; Symbol = Symbol; symbol = symbol_of; Name = Name; Value = Value; rule = rule; build = build }

sums : (xs : List ((Token ⊎ Token) × Expr)) → map sum_link xs ≡ linked (map (both sum_sign (λ x. x)) xs)
sums [] = refl
sums (x ∷ xs) = ap (λ l. sum_link x ∷ l) (sums xs)

products : (xs : List ((Token ⊎ (Token ⊎ Token)) × Expr)) → map product_link xs ≡ linked (map (both product_sign (λ x. x)) xs)
products [] = refl
products (x ∷ xs) = ap (λ l. product_link x ∷ l) (products xs)

-- nothing is changed
pub unchanged : {A : Type 0} (xs : List A) → map (λ x. x) xs ≡ xs
unchanged [] = refl
unchanged (x ∷ xs) = ap (λ l. x ∷ l) (unchanged xs)

pub plain : {A B : Type 0} (xs : List (A × B)) → map (both {A = A} {B = B} (λ x. x) (λ x. x)) xs ≡ xs
plain [] = refl
plain (x ∷ xs) = ap (λ l. x ∷ l) (plain xs)

module _ (R : Name → Part) (B : (name : Name) → TreeOf Token Value (R name) → Value name) (cuts : (p : Piece) → Alike (by R B) (piece p) (piece_build p) (cut p) (λ v. v)) where
  abbrev g : Grammar
  g = by R B

  -- a form as it is
  abbrev it : (x : FormOf g) → Alike g x (λ v. v) x (λ v. v)
  it x = same g x (λ v. v)

  pub protocol : Alike g (w.rule n.Protocol) (w.build n.Protocol) (f.rule n.Protocol) (f.build n.Protocol)
  protocol = valued (post (f.build n.Protocol) (seq (cuts n.Declarations) (seq (cuts n.Gaps) (seq (it (form n.Item)) (seq (cuts n.MoreItems) (it (one t.EndOfText))))))) (λ t. refl) (λ t. refl)

  pub declare : Alike g (w.rule n.Declare) (w.build n.Declare) (f.rule n.Declare) (f.build n.Declare)
  declare = valued (alt (post {V = Token × List Decl} (λ p. p.1) (seq (it (one t.Const)) (cuts n.Constants))) (alt (post {V = Token × List Decl} (λ p. p.1) (seq (it (one t.Type)) (cuts n.TypeNames))) (post {V = Token × List Decl} (λ p. p.1) (seq (it (one t.Var)) (cuts n.VariableLists)))))
      (cases _ _ (λ x. refl) (cases _ _ (λ x. refl) (λ x. refl))) (cases _ _ (λ x. refl) (cases _ _ (λ x. refl) (λ x. refl)))

  pub name_list : Alike g (w.rule n.NameList) (w.build n.NameList) (f.rule n.NameList) (f.build n.NameList)
  name_list = valued (post (f.build n.NameList) (seq (it (one t.Name)) (cuts n.MoreNames))) (λ t. refl) (λ t. refl)

  pub formals : Alike g (w.rule n.Formals) (w.build n.Formals) (f.rule n.Formals) (f.build n.Formals)
  formals = valued (post (f.build n.Formals) (seq (it (form n.Formal)) (cuts n.MoreFormals))) (λ t. refl) (λ t. refl)

  pub formal : Alike g (w.rule n.Formal) (w.build n.Formal) (f.rule n.Formal) (f.build n.Formal)
  formal = same g (w.rule n.Formal) (w.build n.Formal)

  pub args : Alike g (w.rule n.Args) (w.build n.Args) (f.rule n.Args) (f.build n.Args)
  args = valued (post (f.build n.Args) (seq (it (form n.Expr)) (cuts n.MoreArgs))) (λ t. refl) (λ t. refl)

  pub or : Alike g (w.rule n.Or) (w.build n.Or) (f.rule n.Or) (f.build n.Or)
  or = valued (post (f.build n.Or) (seq (it (form n.And)) (cuts n.OrLinks))) (λ t. refl) (λ t. refl)

  pub and : Alike g (w.rule n.And) (w.build n.And) (f.rule n.And) (f.build n.And)
  and = valued (post (f.build n.And) (seq (it (form n.Not)) (cuts n.AndLinks))) (λ t. refl) (λ t. refl)

  pub sum_links : Alike g (many_of ((one t.Plus ∥ one t.Minus) ▸ form n.Product)) (map sum_link) (cut n.SumLinks) (λ v. v)
  sum_links = valued (over (post linked (many (seq (cuts n.SumSign) (it (form n.Product))))) (valued (cuts n.SumLinks) (λ t. ap linked (plain t)) (λ t. refl))) sums (λ t. refl)

  pub product_links : Alike g (many_of ((one t.Star ∥ one t.Slash ∥ one t.Percent) ▸ form n.Unary)) (map product_link) (cut n.ProductLinks) (λ v. v)
  product_links = valued (over (post linked (many (seq (cuts n.ProductSign) (it (form n.Unary))))) (valued (cuts n.ProductLinks) (λ t. ap linked (plain t)) (λ t. refl))) products (λ t. refl)

  pub selectors : Alike g (many_of (one t.Dot ▸ one t.Name ∥ nest_of t.OpenBracket (form n.Expr ▸ one t.CloseBracket))) (map selector_of) (cut n.Selectors) (λ v. v)
  selectors = over (many (cuts n.OneSelector)) (valued (cuts n.Selectors) unchanged (λ t. refl))

  pub sum : Alike g (w.rule n.Sum) (w.build n.Sum) (f.rule n.Sum) (f.build n.Sum)
  sum = valued (post (f.build n.Sum) (seq (it (form n.Product)) sum_links)) (λ t. refl) (λ t. refl)

  pub product : Alike g (w.rule n.Product) (w.build n.Product) (f.rule n.Product) (f.build n.Product)
  product = valued (post (f.build n.Product) (seq (it (form n.Unary)) product_links)) (λ t. refl) (λ t. refl)

  pub place : Alike g (w.rule n.Place) (w.build n.Place) (f.rule n.Place) (f.build n.Place)
  place = valued (post (f.build n.Place) (seq (it (one t.Name)) selectors)) (λ t. refl) (λ t. refl)

  pub routine : Alike g (w.rule n.Routine) (w.build n.Routine) (f.rule n.Routine) (f.build n.Routine)
  routine = valued (alt
      (post (λ p. f.build n.Routine (inl p)) (nest t.Procedure (seq (it (one t.Name)) (seq (cuts n.FormalsIn) (it (one t.Semicolon ▸ form n.Body ▸ ending t.EndProcedure ▸ one t.Semicolon))))))
      (post (λ p. f.build n.Routine (inr p)) (nest t.Function (seq (it (one t.Name)) (seq (cuts n.FormalsIn) (it (one t.Colon ▸ form n.TypeForm ▸ one t.Semicolon ▸ form n.Body ▸ ending t.EndFunction ▸ one t.Semicolon)))))))
      (cases _ _ (λ x. refl) (λ x. refl)) (cases _ _ (λ x. refl) (λ x. refl))

  pub body : Alike g (w.rule n.Body) (w.build n.Body) (f.rule n.Body) (f.build n.Body)
  body = valued (post (f.build n.Body) (seq (choice (seq (cuts n.Locals) (it (one t.Begin))) (it Empty)) (it (form n.Stmts)))) (first_cases _ _ (λ x z. refl) (λ y z. refl)) (first_cases _ _ (λ x z. refl) (λ y z. refl))

  pub items : Alike g (w.rule n.Items) (w.build n.Items) (f.rule n.Items) (f.build n.Items)
  items = valued (post (f.build n.Items) (seq (it (optional (form n.Item))) (cuts n.MoreItems))) (first_cases _ _ (λ x z. refl) (λ y z. refl)) (λ t. refl)

  pub stmts : Alike g (w.rule n.Stmts) (w.build n.Stmts) (f.rule n.Stmts) (f.build n.Stmts)
  stmts = valued (post (f.build n.Stmts) (seq (it (optional (form n.Stmt))) (cuts n.MoreStmts))) (first_cases _ _ (λ x z. refl) (λ y z. refl)) (λ t. refl)

  pub expr : Alike g (w.rule n.Expr) (w.build n.Expr) (f.rule n.Expr) (f.build n.Expr)
  expr = same g (w.rule n.Expr) (w.build n.Expr)

  pub implies : Alike g (w.rule n.Implies) (w.build n.Implies) (f.rule n.Implies) (f.build n.Implies)
  implies = same g (w.rule n.Implies) (w.build n.Implies)

  pub negation : Alike g (w.rule n.Not) (w.build n.Not) (f.rule n.Not) (f.build n.Not)
  negation = same g (w.rule n.Not) (w.build n.Not)

  pub unary : Alike g (w.rule n.Unary) (w.build n.Unary) (f.rule n.Unary) (f.build n.Unary)
  unary = same g (w.rule n.Unary) (w.build n.Unary)

  pub compare : Alike g (w.rule n.Compare) (w.build n.Compare) (f.rule n.Compare) (f.build n.Compare)
  compare = valued (post (f.build n.Compare) (seq (it (form n.Sum)) (choice (seq (cuts n.CompareSign) (it (form n.Sum))) (it Empty)))) (second_cases _ _ (λ z x. refl) (λ z y. refl)) (second_cases _ _ (λ z x. refl) (λ z y. refl))

  pub bind : Alike g (w.rule n.Bind) (w.build n.Bind) (f.rule n.Bind) (f.build n.Bind)
  bind = valued (post (f.build n.Bind) (over (post (both (λ v. v) (piece_build n.BindRest)) (first_shared g (one t.Name) (one t.Colon ▸ form n.TypeForm) (one t.Becomes ▸ form n.Sum ▸ one t.To ▸ form n.Sum))) (seq (it (one t.Name)) (cuts n.BindRest))))
      (cases _ _ (λ x. refl) (λ x. refl)) (λ t. refl)
