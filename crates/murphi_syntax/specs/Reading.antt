-- Reading from the front of a list of tokens, computed. A reader gives what it read and the tokens that
-- follow it, or none. It is given how many turns it may take; what is read is what it gives from some
-- number of turns on. The laws of this crate say that it is what the grammar spells.
use Rattle.std.specs.Prelude.{◌≡◌, ℕ, zero, suc, ◌≤◌, nat_lt, Bool, true, false, List, [], ◌∷◌, ◌++◌, Option, None, Some, if◌then◌else◌, drop}
use Rattle.murphi_ast.specs.declared.token.Span.{Span}
use Rattle.murphi_ast.specs.declared.token.Token.{Token}
use Rattle.murphi_ast.specs.declared.terminal.Terminal.{Terminal}
use Rattle.murphi_ast.specs.declared.terminal.Terminal.TheVariants as t
use Rattle.murphi_ast.specs.declared.expr.ChainOp.{ChainOp}
use Rattle.murphi_ast.specs.declared.expr.ChainOp.TheVariants as chain
use Rattle.murphi_syntax.specs.declared.expr.Connective.{Connective}
use Rattle.murphi_syntax.specs.declared.expr.Connective.TheVariants.{Or, And}
use Rattle.murphi_ast.specs.declared.expr.CompareOp.{CompareOp}
use Rattle.murphi_ast.specs.declared.expr.CompareOp.TheVariants.{Equal, NotEqual}
use Rattle.murphi_ast.specs.declared.expr.Link.{Link}
use Rattle.murphi_ast.specs.declared.expr.Expr as e
use Rattle.murphi_ast.specs.declared.expr.Expr.{Expr}
use Rattle.murphi_ast.specs.Terminal.{terminal_of}
use Rattle.murphi_ast.specs.Grammar.{variable, greatest_nesting, Level, Implication, Disjunction, Conjunction, Negation, Primary}

-- what was read, and the tokens behind it
abbrev pub Read : Type 0 → Type 0
Read A = Option (A × List Token)

-- from some number of turns on, the answer is this one
abbrev pub Eventually : {A : Type 0} → (ℕ → A) → A → Type 0
Eventually f a = (n : ℕ) × ((m : ℕ) → n ≤ m → f m ≡ a)

-- goes on with what was read
abbrev pub after : {A B : Type 0} → (A → List Token → Read B) → Read A → Read B
after f None = None
after f (Some x) = f x.0 x.1

-- what is read with these in front
abbrev pub with_front : {A : Type 0} → List A → Read (List A) → Read (List A)
with_front front None = None
with_front front (Some x) = Some (front ++ x.0, x.1)

-- so far these were read between two indices: whatever is read behind them is read with them in front
abbrev pub SoFar : {A : Type 0} → (ℕ → List Token → Read (List A)) → List Token → ℕ → ℕ → List A → Type 0
SoFar {A} f tokens from at front =
    (r : Read (List A)) → Eventually (λ k. f k (drop at tokens)) r → Eventually (λ k. f k (drop from tokens)) (with_front front r)

-- the symbol of the first token
abbrev pub head : List Token → Terminal
head [] = t.EndOfText
head (token ∷ tokens) = terminal_of token

-- how many tokens there are at least, where the first has this symbol
abbrev pub room : Terminal → ℕ
room t.EndOfText = 0
room _ = 1

-- the tokens behind the first
abbrev pub tail : List Token → List Token
tail [] = []
tail (token ∷ tokens) = tokens

-- a reader behind one more opened form
abbrev pub nested : {A : Type 0} → ℕ → Read A → Read A
nested n read = if nat_lt n greatest_nesting then read else None

-- behind the inner of parentheses
abbrev pub closed_by : Expr → Terminal → List Token → Read Expr
closed_by body t.Close rest = Some (body, rest)
closed_by body _ rest = None

abbrev pub closed : Expr → List Token → Read Expr
closed body rest = closed_by body (head rest) (tail rest)

-- behind an opening parenthesis
abbrev pub grouped : (List Token → Read Expr) → ℕ → List Token → Read Expr
grouped inner n rest = nested n (after closed (inner rest))

-- a primary that begins with this token
abbrev pub primary_by : (List Token → Read Expr) → ℕ → Terminal → Token → List Token → Read Expr
primary_by inner n t.True token rest = Some (e.Truth true token.at, rest)
primary_by inner n t.False token rest = Some (e.Truth false token.at, rest)
primary_by inner n t.Name token rest = Some (e.Place (variable token), rest)
primary_by inner n t.Open token rest = grouped inner n rest
primary_by inner n _ token rest = None

abbrev pub primary_at : (List Token → Read Expr) → ℕ → List Token → Read Expr
primary_at inner n [] = None
primary_at inner n (token ∷ rest) = primary_by inner n (terminal_of token) token rest

-- the comparison that a symbol stands for
abbrev pub compare_sign : Terminal → Option CompareOp
compare_sign t.Equal = Some Equal
compare_sign t.NotEqual = Some NotEqual
compare_sign _ = None

-- behind the left side of a comparison
abbrev pub compared_by : (List Token → Read Expr) → Expr → Option CompareOp → List Token → Read Expr
compared_by right left None rest = Some (left, rest)
compared_by right left (Some op) rest = after (λ r rest'. Some (e.Compare op left r, rest')) (right (tail rest))

abbrev pub compared : (List Token → Read Expr) → Expr → List Token → Read Expr
compared right left rest = compared_by right left (compare_sign (head rest)) rest

-- behind a `!` that stands at this place
abbrev pub negated : Span → (List Token → Read Expr) → ℕ → List Token → Read Expr
negated place inner n rest = nested n (after (λ body rest'. Some (e.Not body place, rest')) (inner rest))

-- a negation that begins with this token, or else a comparison
abbrev pub negation_by : (List Token → Read Expr) → Read Expr → ℕ → Terminal → Token → List Token → Read Expr
negation_by inner other n t.Bang token rest = negated token.at inner n rest
negation_by inner other n _ token rest = other

abbrev pub negation_at : (List Token → Read Expr) → Read Expr → ℕ → List Token → Read Expr
negation_at inner other n [] = other
negation_at inner other n (token ∷ rest) = negation_by inner other n (terminal_of token) token rest

-- a chain, or its one operand where no more follow
abbrev pub chain_of : Expr → List Link → Expr
chain_of first [] = first
chain_of first (link ∷ links) = e.Chain first (link ∷ links)

abbrev pub chained : (List Token → Read (List Link)) → Expr → List Token → Read Expr
chained more first rest = after (λ links rest'. Some (chain_of first links, rest')) (more rest)

-- behind the left side of an implication
abbrev pub implied_by : (List Token → Read Expr) → ℕ → Expr → Terminal → List Token → Read Expr
implied_by right n left t.Arrow rest = nested n (after (λ r rest'. Some (e.Implies left r, rest')) (right (tail rest)))
implied_by right n left _ rest = Some (left, rest)

abbrev pub implied : (List Token → Read Expr) → ℕ → Expr → List Token → Read Expr
implied right n left rest = implied_by right n left (head rest) rest

-- the operator of a chain
abbrev pub chain_op : Connective → ChainOp
chain_op Or = chain.Or
chain_op And = chain.And

-- the level of the operands of a chain
abbrev pub operand_of : Connective → Level
operand_of Or = Conjunction
operand_of And = Negation

-- the level of a chain
abbrev pub chain_level : Connective → Level
chain_level Or = Disjunction
chain_level And = Conjunction

-- one more operand, behind its sign
abbrev pub link_of : Connective → Expr → Link
link_of op operand = record { op = chain_op op; operand = operand }

-- one more operand in front
abbrev pub linked : Connective → (List Token → Read (List Link)) → Expr → List Token → Read (List Link)
linked op more operand rest = after (λ links rest'. Some (link_of op operand ∷ links, rest')) (more rest)

-- whether a symbol stands between the operands of a chain
abbrev pub is_sign : Connective → Terminal → Bool
is_sign And t.Ampersand = true
is_sign Or t.Bar = true
is_sign _ _ = false

-- the further operands of a chain, where the first token has this symbol
abbrev pub links_by : Read (List Link) → Connective → Terminal → List Token → Read (List Link)
links_by more op symbol tokens = if is_sign op symbol then more else Some ([], tokens)

unfoldable mutual
  -- an expression at a level, read where so many forms are open
  pub read : ℕ → Level → ℕ → List Token → Read Expr
  read zero level n tokens = None
  read (suc k) Implication n tokens = after (implied (read k Disjunction (suc n)) n) (read k Disjunction n tokens)
  read (suc k) Disjunction n tokens = after (chained (links k Or n)) (read k Conjunction n tokens)
  read (suc k) Conjunction n tokens = after (chained (links k And n)) (read k Negation n tokens)
  read (suc k) Negation n tokens =
      negation_at (read k Negation (suc n)) (after (compared (read k Primary n)) (read k Primary n tokens)) n tokens
  read (suc k) Primary n tokens = primary_at (read k Implication (suc n)) n tokens

  -- the further operands of a chain, each behind its sign
  pub links : ℕ → Connective → ℕ → List Token → Read (List Link)
  links zero op n tokens = None
  links (suc k) op n tokens = links_by (after (linked op (links k op n)) (read k (operand_of op) n (tail tokens))) op (head tokens) tokens

-- what is read at a level
unfoldable pub IsRead : Level → ℕ → List Token → Read Expr → Type 0
IsRead level n tokens answer = Eventually (λ k. read k level n tokens) answer

-- what is read as further operands
unfoldable pub AreLinks : Connective → ℕ → List Token → Read (List Link) → Type 0
AreLinks op n tokens answer = Eventually (λ k. links k op n tokens) answer
