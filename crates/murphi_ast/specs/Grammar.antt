-- How tokens spell a flat protocol: boolean variables, one start state, rules and invariants. From the
-- Murphi manual, in this project's profile. Each form is a list of tokens, cut into the parts that its
-- rule names. Parentheses, empty statements and empty items leave nothing in the tree.
--
-- A number beside a form counts what is open there: `rule`, `startstate`, `invariant`, `(`, `!` with its
-- operand and `->` with its right side. At most 100 of these are open at once.
use Rattle.std.specs.Prelude.{◌≡◌, ℕ, suc, ◌<◌, true, false, List, [], ◌∷◌, ◌++◌, Option, None, Some}
use Rattle.murphi_ast.specs.declared.text.Text.{Text}
use Rattle.murphi_ast.specs.declared.token.Token.{Token}
use Rattle.murphi_ast.specs.declared.terminal.Terminal.{Terminal}
use Rattle.murphi_ast.specs.declared.terminal.Terminal.TheVariants as t
use Rattle.murphi_ast.specs.declared.expr.Named.{Named}
use Rattle.murphi_ast.specs.declared.expr.ChainOp.{ChainOp}
use Rattle.murphi_ast.specs.declared.expr.ChainOp.TheVariants.{Or, And}
use Rattle.murphi_ast.specs.declared.expr.CompareOp.TheVariants.{Equal, NotEqual}
use Rattle.murphi_ast.specs.declared.expr.Designator.{Designator}
use Rattle.murphi_ast.specs.declared.expr.Link.{Link}
use Rattle.murphi_ast.specs.declared.expr.TypeExpr as type
use Rattle.murphi_ast.specs.declared.expr.Expr as e
use Rattle.murphi_ast.specs.declared.expr.Expr.{Expr}
use Rattle.murphi_ast.specs.declared.stmt.Stmt as s
use Rattle.murphi_ast.specs.declared.stmt.Stmt.{Stmt}
use Rattle.murphi_ast.specs.declared.decl.Decl as d
use Rattle.murphi_ast.specs.declared.decl.Decl.{Decl}
use Rattle.murphi_ast.specs.declared.rule.RuleDecl as r
use Rattle.murphi_ast.specs.declared.rule.RuleDecl.{RuleDecl}
use Rattle.murphi_ast.specs.declared.rule.Protocol.{Protocol}
use Rattle.murphi_ast.specs.Terminal.{terminal_of}

-- a token with this symbol
abbrev pub Is : Terminal → Token → Type 0
Is symbol token = terminal_of token ≡ symbol

-- the name that a token writes
abbrev pub named : Token → Named
named token = record { name = token.text; at = token.at }

-- a variable, without fields and indices
abbrev pub variable : Token → Designator
variable token = record { root = named token; selectors = [] }

-- how many forms may be open at once
abbrev pub greatest_nesting : ℕ
greatest_nesting = 100

-- the levels of expressions, from the one that binds least
pub data Level : Type 0 where
  -- `or -> or`, or one `or`
  Implication : Level
  -- `and | and ..`
  Disjunction : Level
  -- `not & not ..`
  Conjunction : Level
  -- `! not`, or a comparison
  Negation : Level
  -- a constant, a name, or an expression in parentheses
  Primary : Level

-- the sign between the operands of a chain
abbrev pub chain_sign : ChainOp → Terminal
chain_sign And = t.Ampersand
chain_sign _ = t.Bar

-- the level of the operands of a chain
abbrev pub operand_level : ChainOp → Level
operand_level And = Negation
operand_level _ = Conjunction

mutual
  -- tokens spell an expression at a level, where so many forms are open
  pub data SpellsExpr : Level → ℕ → List Token → Expr → Type 0 where
    truth : {n : ℕ} (token : Token) → Is t.True token → SpellsExpr Primary n (token ∷ []) (e.Truth true token.at)
    falsity : {n : ℕ} (token : Token) → Is t.False token → SpellsExpr Primary n (token ∷ []) (e.Truth false token.at)
    name : {n : ℕ} (token : Token) → Is t.Name token → SpellsExpr Primary n (token ∷ []) (e.Place (variable token))
    group : {n : ℕ} {all inner : List Token} {body : Expr} (left_sign right_sign : Token) → n < greatest_nesting →
        Is t.Open left_sign → SpellsExpr Implication (suc n) inner body → Is t.Close right_sign →
        all ≡ left_sign ∷ inner ++ right_sign ∷ [] → SpellsExpr Primary n all body
    equal : {n : ℕ} {all before behind : List Token} {left right : Expr} (sign : Token) →
        SpellsExpr Primary n before left → Is t.Equal sign → SpellsExpr Primary n behind right →
        all ≡ before ++ sign ∷ behind → SpellsExpr Negation n all (e.Compare Equal left right)
    not_equal : {n : ℕ} {all before behind : List Token} {left right : Expr} (sign : Token) →
        SpellsExpr Primary n before left → Is t.NotEqual sign → SpellsExpr Primary n behind right →
        all ≡ before ++ sign ∷ behind → SpellsExpr Negation n all (e.Compare NotEqual left right)
    primary : {n : ℕ} {all : List Token} {body : Expr} → SpellsExpr Primary n all body → SpellsExpr Negation n all body
    negation : {n : ℕ} {inner : List Token} {body : Expr} (bang : Token) → n < greatest_nesting → Is t.Bang bang →
        SpellsExpr Negation (suc n) inner body → SpellsExpr Negation n (bang ∷ inner) (e.Not body bang.at)
    conjunction : {n : ℕ} {all before behind : List Token} {first : Expr} {rest : List Link} →
        SpellsExpr Negation n before first → SpellsLinks And n behind rest → all ≡ before ++ behind →
        SpellsExpr Conjunction n all (e.Chain first rest)
    one_conjunct : {n : ℕ} {all : List Token} {body : Expr} → SpellsExpr Negation n all body → SpellsExpr Conjunction n all body
    disjunction : {n : ℕ} {all before behind : List Token} {first : Expr} {rest : List Link} →
        SpellsExpr Conjunction n before first → SpellsLinks Or n behind rest → all ≡ before ++ behind →
        SpellsExpr Disjunction n all (e.Chain first rest)
    one_disjunct : {n : ℕ} {all : List Token} {body : Expr} → SpellsExpr Conjunction n all body → SpellsExpr Disjunction n all body
    implication : {n : ℕ} {all before behind : List Token} {left right : Expr} (arrow : Token) →
        SpellsExpr Disjunction n before left → n < greatest_nesting → Is t.Arrow arrow →
        SpellsExpr Disjunction (suc n) behind right → all ≡ before ++ arrow ∷ behind →
        SpellsExpr Implication n all (e.Implies left right)
    no_implication : {n : ℕ} {all : List Token} {body : Expr} → SpellsExpr Disjunction n all body → SpellsExpr Implication n all body

  -- tokens spell one or more further operands of a chain, each behind its sign
  pub data SpellsLinks : ChainOp → ℕ → List Token → List Link → Type 0 where
    last_link : {op : ChainOp} {n : ℕ} {operand : List Token} {body : Expr} (sign : Token) → Is (chain_sign op) sign →
        SpellsExpr (operand_level op) n operand body →
        SpellsLinks op n (sign ∷ operand) (record { op = op; operand = body } ∷ [])
    one_more_link : {op : ChainOp} {n : ℕ} {all operand behind : List Token} {body : Expr} {rest : List Link} (sign : Token) →
        Is (chain_sign op) sign → SpellsExpr (operand_level op) n operand body → SpellsLinks op n behind rest →
        all ≡ sign ∷ operand ++ behind → SpellsLinks op n all (record { op = op; operand = body } ∷ rest)

-- tokens spell an expression
abbrev pub Spells : ℕ → List Token → Expr → Type 0
Spells n tokens body = SpellsExpr Implication n tokens body

-- tokens spell an assignment: `name := expression`
pub data SpellsStmt : ℕ → List Token → Stmt → Type 0 where
  assignment : {n : ℕ} {behind : List Token} {value : Expr} (to sign : Token) → Is t.Name to → Is t.Becomes sign →
      Spells n behind value → SpellsStmt n (to ∷ sign ∷ behind) (s.Assign (variable to) value)

-- tokens spell statements with semicolons between them, some of which may be empty
pub data SpellsStmts : ℕ → List Token → List Stmt → Type 0 where
  no_stmt : {n : ℕ} → SpellsStmts n [] []
  last_stmt : {n : ℕ} {all : List Token} {stmt : Stmt} → SpellsStmt n all stmt → SpellsStmts n all (stmt ∷ [])
  empty_stmt : {n : ℕ} {behind : List Token} {rest : List Stmt} (semicolon : Token) → Is t.Semicolon semicolon →
      SpellsStmts n behind rest → SpellsStmts n (semicolon ∷ behind) rest
  one_more_stmt : {n : ℕ} {all before behind : List Token} {stmt : Stmt} {rest : List Stmt} (semicolon : Token) →
      SpellsStmt n before stmt → Is t.Semicolon semicolon → SpellsStmts n behind rest →
      all ≡ before ++ semicolon ∷ behind → SpellsStmts n all (stmt ∷ rest)

-- tokens spell an optional title
pub data SpellsTitle : List Token → Option Text → Type 0 where
  untitled : SpellsTitle [] None
  titled : (string : Token) → Is t.Quoted string → SpellsTitle (string ∷ []) (Some string.text)

-- a body ends with `end` or with this word
pub data Ends : Terminal → Token → Type 0 where
  short_end : {word : Terminal} {token : Token} → Is t.End token → Ends word token
  long_end : {word : Terminal} {token : Token} → Is word token → Ends word token

-- tokens spell an item, which is one open form
pub data SpellsItem : List Token → RuleDecl → Type 0 where
  rule : {all title guard body : List Token} {string : Option Text} {test : Expr} {stmts : List Stmt} (word then end : Token) →
      Is t.Rule word → SpellsTitle title string → Spells 1 guard test → Is t.Then then → SpellsStmts 1 body stmts →
      Ends t.EndRule end → all ≡ word ∷ title ++ guard ++ then ∷ body ++ end ∷ [] →
      SpellsItem all (r.Rule string (Some test) [] stmts word.at)
  start : {all title body : List Token} {string : Option Text} {stmts : List Stmt} (word end : Token) →
      Is t.StartState word → SpellsTitle title string → SpellsStmts 1 body stmts → Ends t.EndStartState end →
      all ≡ word ∷ title ++ body ++ end ∷ [] → SpellsItem all (r.Start string [] stmts word.at)
  invariant : {all title body : List Token} {string : Option Text} {claim : Expr} (word : Token) →
      Is t.Invariant word → SpellsTitle title string → Spells 1 body claim → all ≡ word ∷ title ++ body →
      SpellsItem all (r.Invariant string claim word.at)

-- tokens spell items with semicolons between them, some of which may be empty
pub data SpellsItems : List Token → List RuleDecl → Type 0 where
  no_item : SpellsItems [] []
  last_item : {all : List Token} {item : RuleDecl} → SpellsItem all item → SpellsItems all (item ∷ [])
  empty_item : {behind : List Token} {rest : List RuleDecl} (semicolon : Token) → Is t.Semicolon semicolon →
      SpellsItems behind rest → SpellsItems (semicolon ∷ behind) rest
  one_more_item : {all before behind : List Token} {item : RuleDecl} {rest : List RuleDecl} (semicolon : Token) →
      SpellsItem before item → Is t.Semicolon semicolon → SpellsItems behind rest →
      all ≡ before ++ semicolon ∷ behind → SpellsItems all (item ∷ rest)

-- tokens spell names with commas between them
pub data SpellsNames : List Token → List Named → Type 0 where
  last_name : (token : Token) → Is t.Name token → SpellsNames (token ∷ []) (named token ∷ [])
  one_more_name : {behind : List Token} {rest : List Named} (token comma : Token) → Is t.Name token →
      Is t.Comma comma → SpellsNames behind rest → SpellsNames (token ∷ comma ∷ behind) (named token ∷ rest)

mutual
  -- tokens spell declarations: `var`, and behind it any number of `names : boolean ;` and further `var`
  pub data SpellsDecls : List Token → List Decl → Type 0 where
    no_decl : SpellsDecls [] []
    var_word : {behind : List Token} {rest : List Decl} (word : Token) → Is t.Var word → SpellsVariables behind rest →
        SpellsDecls (word ∷ behind) rest

  -- tokens spell what stands behind the first `var`
  pub data SpellsVariables : List Token → List Decl → Type 0 where
    no_more : {tokens : List Token} {rest : List Decl} → SpellsDecls tokens rest → SpellsVariables tokens rest
    variables : {all names behind : List Token} {declared : List Named} {rest : List Decl} (colon word semicolon : Token) →
        SpellsNames names declared → Is t.Colon colon → Is t.Boolean word → Is t.Semicolon semicolon →
        SpellsVariables behind rest → all ≡ names ++ colon ∷ word ∷ semicolon ∷ behind →
        SpellsVariables all (d.Variables declared (type.Truth word.at) ∷ rest)

-- tokens spell a protocol: declarations, items, and the end of the text
pub data SpellsProtocol : List Token → Protocol → Type 0 where
  protocol : {all decls items : List Token} {p : Protocol} (end : Token) → SpellsDecls decls p.decls →
      SpellsItems items p.rules → Is t.EndOfText end → all ≡ decls ++ items ++ end ∷ [] → SpellsProtocol all p
