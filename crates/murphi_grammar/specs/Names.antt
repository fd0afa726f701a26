-- The names of the forms of the grammar of protocols, and of files of lemmas and of flows.

-- the pieces into which the reader cuts forms: the form as it is written calls none of them
pub data Piece : Type 0 where
  -- declarations and routines
  Declarations : Piece
  -- semicolons
  Gaps : Piece
  -- `{ ; item? }`
  MoreItems : Piece
  -- what stands behind `const`, `type` and `var`
  Constants : Piece
  TypeNames : Piece
  VariableLists : Piece
  -- `{ , name }`
  MoreNames : Piece
  -- `( formals? )`
  FormalsIn : Piece
  -- `{ ; formal }`
  MoreFormals : Piece
  -- `{ declare }`
  Locals : Piece
  -- `string?`
  Title : Piece
  -- `{ ; bind }`
  MoreBinds : Piece
  -- what stands behind the name of a bind
  BindRest : Piece
  -- `{ ; stmt? }`
  MoreStmts : Piece
  -- what stands behind the first name of a statement
  StmtRest : Piece
  -- `expr then stmts`
  IfArm : Piece
  -- `{ elsif expr then stmts }`
  MoreArms : Piece
  -- `case implies { , implies } : stmts`
  CaseArm : Piece
  Cases : Piece
  -- `{ , implies }`
  MoreLabels : Piece
  -- `( else stmts )?`
  Otherwise : Piece
  -- `( args? )`
  Arguments : Piece
  -- `{ , expr }`
  MoreArgs : Piece
  OrLinks : Piece
  AndLinks : Piece
  SumLinks : Piece
  ProductLinks : Piece
  CompareSign : Piece
  SumSign : Piece
  ProductSign : Piece
  -- `. name | [ expr ]`
  OneSelector : Piece
  Selectors : Piece
  -- what stands behind the first name of a primary, and that primary
  NameRest : Piece
  NamePrimary : Piece
  -- a primary, unary, product or sum that begins with no name
  OtherPrimary : Piece
  -- `isundefined`, `forall` and `exists`
  Binder : Piece
  OtherUnary : Piece
  OtherProduct : Piece
  OtherSum : Piece
  -- what stands behind the first name of a range
  RangeTail : Piece
  -- what stands behind `rule string?`
  RuleRest : Piece

pub data Name : Type 0 where
  Protocol : Name
  Declare : Name
  NameList : Name
  Routine : Name
  Formals : Name
  Formal : Name
  Body : Name
  TypeForm : Name
  Fields : Name
  Items : Name
  Item : Name
  Bind : Name
  Stmts : Name
  Stmt : Name
  Args : Name
  Expr : Name
  Implies : Name
  Or : Name
  And : Name
  Not : Name
  Compare : Name
  Sum : Name
  Product : Name
  Unary : Name
  Primary : Name
  Place : Name
  -- an item of a file of lemmas or of flows, behind its first word
  LemmaItem : Name
  FlowItem : Name
  -- a piece, which no other form of the grammar as it is written calls
  Cut : Piece → Name
