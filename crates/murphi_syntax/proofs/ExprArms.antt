-- One step of reading an expression, for each way that a function of the reader goes.
use Rattle.std.proofs.Common.{◌≡◌, ℕ, suc, ◌+◌, ◌<◌, ◌≤◌, Bool, true, false, cond, List, [], ◌∷◌, ◌++◌, drop, Some, None, refl, sym, ap, ◌∙◌, subst, add-one, lt-ltb, le-ltb, append-nil}
use Rattle.std.specs.Prelude.{slice_get}
use Rattle.murphi_ast.specs.declared.token.Span.{Span}
use Rattle.murphi_ast.specs.declared.token.Token.{Token}
use Rattle.murphi_ast.specs.declared.terminal.Terminal.{Terminal}
use Rattle.murphi_ast.specs.declared.terminal.Terminal.TheVariants as t
use Rattle.murphi_syntax.specs.declared.expr.Connective.{Connective}
use Rattle.murphi_syntax.specs.declared.expr.Connective.TheVariants.{Or, And}
use Rattle.murphi_ast.specs.declared.expr.CompareOp.{CompareOp}
use Rattle.murphi_ast.specs.declared.expr.Link.{Link}
use Rattle.murphi_ast.specs.declared.expr.Expr as e
use Rattle.murphi_ast.specs.declared.expr.Expr.{Expr}
use Rattle.murphi_ast.specs.Terminal.{terminal_of}
use Rattle.murphi_ast.specs.Grammar.{variable, greatest_nesting, Implication, Disjunction, Conjunction, Negation, Primary}
use Rattle.murphi_syntax.specs.Reading.{Read, Eventually, after, with_front, SoFar, head, tail, nested, closed, closed_by, primary_at, primary_by, compared_by, compare_sign, negated, negation_at, negation_by, grouped, is_sign, chain_level, operand_of, link_of, chain_of, chained, implied, implied_by, linked, read, links, IsRead, AreLinks}
use Rattle.murphi_syntax.specs.Answers.{expr_of, IsExpr, IsLinks, IsImplied, IsCompared, IsComparison, IsNegated, IsGroup, IsOperand, IsChain, compared_at}
use Rattle.murphi_syntax.specs.declared.expr.ExprRead.{ExprRead}
use Rattle.murphi_syntax.specs.declared.expr.ExprRead.TheVariants.{Got, Stop}
use Rattle.murphi_syntax.specs.declared.expr.LinksRead.TheVariants as many
use Rattle.murphi_syntax.proofs.Turns.{always, one_more_turn, goes_on, goes_nowhere, same_turns}
use Rattle.murphi_syntax.proofs.SoFar.{begins, with_front-snoc}
use Rattle.murphi_syntax.proofs.Places.{drop_some, drop_none, tail_drop}

-- a form that may be opened here
nested_in : {A : Type 0} (n : ℕ) (r : Read A) → n < greatest_nesting → nested n r ≡ r
nested_in n r h = ap (λ b. cond b r None) (lt-ltb n greatest_nesting h)

-- a form that may not
nested_out : {A : Type 0} (n : ℕ) (r : Read A) → greatest_nesting ≤ n → nested n r ≡ None
nested_out n r h = ap (λ b. cond b r None) (le-ltb n greatest_nesting h)

-- implications

implied_by_not : (right : List Token → Read Expr) (n : ℕ) (left : Expr) (symbol : Terminal) (rest : List Token) → (symbol ≡ t.Arrow → ⊥) → implied_by right n left symbol rest ≡ Some (left, rest)
implied_by_not right n left t.Arrow rest h = absurd (h refl)
implied_by_not right n left _ rest h = refl

pub implication_stop : (n : ℕ) (tokens : List Token) (at : ℕ) (p q : Span) → IsExpr Disjunction n tokens at (Stop p) → IsExpr Implication n tokens at (Stop q)
unfolding IsExpr IsRead read
implication_stop n tokens at p q h =
    one_more_turn (λ k. read k Implication n (drop at tokens)) _ _ (λ k. refl) (goes_nowhere (λ k. read k Disjunction n (drop at tokens)) (λ k. implied (read k Disjunction (suc n)) n) h)

pub implication_goes : (n : ℕ) (tokens : List Token) (at : ℕ) (left : Expr) (next : ℕ) (answer : ExprRead) → IsExpr Disjunction n tokens at (Got left next) → IsImplied n tokens left next answer → IsExpr Implication n tokens at answer
unfolding IsExpr IsRead IsImplied read
implication_goes n tokens at left next answer h g =
    one_more_turn (λ k. read k Implication n (drop at tokens)) _ _ (λ k. refl) (goes_on (λ k. read k Disjunction n (drop at tokens)) (λ k. implied (read k Disjunction (suc n)) n) left (drop next tokens) (expr_of tokens answer) h g)

-- behind the left side of an implication, where the first token has this symbol
implied_with : (n : ℕ) (tokens : List Token) (left : Expr) (at : ℕ) (r : Read Expr) → t.Arrow ≡ head (drop at tokens) → Eventually (λ k. nested n (after (λ right rest. Some (e.Implies left right, rest)) (read k Disjunction (suc n) (drop (at + 1) tokens)))) r → Eventually (λ k. implied (read k Disjunction (suc n)) n left (drop at tokens)) r
implied_with n tokens left at r here g =
    same_turns (λ k. implied (read k Disjunction (suc n)) n left (drop at tokens)) _ r
    (λ k. ap (λ symbol. implied_by (read k Disjunction (suc n)) n left symbol (drop at tokens)) (sym here)
    ∙ ap (λ rest. nested n (after (λ right rest'. Some (e.Implies left right, rest')) (read k Disjunction (suc n) rest))) (tail_drop tokens at)) g

-- an opened form, inside of which something is read
pub opened : {A B : Type 0} (n : ℕ) (f : ℕ → Read A) (g : A → List Token → Read B) (a : A) (rest : List Token) (b : Read B) → n < greatest_nesting → Eventually f (Some (a, rest)) → g a rest ≡ b → Eventually (λ k. nested n (after g (f k))) b
opened n f g a rest b h r e =
    same_turns (λ k. nested n (after g (f k))) (λ k. after g (f k)) b (λ k. nested_in n (after g (f k)) h)
    (goes_on f (λ k. g) a rest b r (always (λ k. g a rest) b (λ k. e)))

-- an opened form, inside of which nothing is read
opened_stop : {A B : Type 0} (n : ℕ) (f : ℕ → Read A) (g : A → List Token → Read B) → n < greatest_nesting → Eventually f None → Eventually (λ k. nested n (after g (f k))) None
opened_stop n f g h r =
    same_turns (λ k. nested n (after g (f k))) (λ k. after g (f k)) None (λ k. nested_in n (after g (f k)) h) (goes_nowhere f (λ k. g) r)

-- a form that opens too deep
opened_deep : {B : Type 0} (n : ℕ) (f : ℕ → Read B) → greatest_nesting ≤ n → Eventually (λ k. nested n (f k)) None
opened_deep n f h = always (λ k. nested n (f k)) None (λ k. nested_out n (f k) h)

pub implied_not : (n : ℕ) (tokens : List Token) (left : Expr) (at : ℕ) → (head (drop at tokens) ≡ t.Arrow → ⊥) → IsImplied n tokens left at (Got left at)
unfolding IsImplied
implied_not n tokens left at h =
    always (λ k. implied (read k Disjunction (suc n)) n left (drop at tokens)) (Some (left, drop at tokens)) (λ k. implied_by_not (read k Disjunction (suc n)) n left (head (drop at tokens)) (drop at tokens) h)

pub implied_deep : (n : ℕ) (tokens : List Token) (left : Expr) (at : ℕ) (p : Span) → t.Arrow ≡ head (drop at tokens) → greatest_nesting ≤ n → IsImplied n tokens left at (Stop p)
unfolding IsImplied
implied_deep n tokens left at p here h = implied_with n tokens left at None here (opened_deep n _ h)

pub implied_stop : (n : ℕ) (tokens : List Token) (left : Expr) (at : ℕ) (p q : Span) → t.Arrow ≡ head (drop at tokens) → n < greatest_nesting → IsExpr Disjunction (n + 1) tokens (at + 1) (Stop p) → IsImplied n tokens left at (Stop q)
unfolding IsImplied IsExpr IsRead
implied_stop n tokens left at p q here h r =
    let inner : Eventually (λ k. read k Disjunction (suc n) (drop (at + 1) tokens)) None = rw (← add-one) r in
    implied_with n tokens left at None here (opened_stop n (λ k. read k Disjunction (suc n) (drop (at + 1) tokens)) _ h inner)

pub implied_goes : (n : ℕ) (tokens : List Token) (left : Expr) (at : ℕ) (right : Expr) (next : ℕ) → t.Arrow ≡ head (drop at tokens) → n < greatest_nesting → IsExpr Disjunction (n + 1) tokens (at + 1) (Got right next) → IsImplied n tokens left at (Got (e.Implies left right) next)
unfolding IsImplied IsExpr IsRead
implied_goes n tokens left at right next here h r =
    let inner : Eventually (λ k. read k Disjunction (suc n) (drop (at + 1) tokens)) (Some (right, drop next tokens)) = rw (← add-one) r in
    implied_with n tokens left at _ here (opened n (λ k. read k Disjunction (suc n) (drop (at + 1) tokens)) _ right (drop next tokens) _ h inner refl)

-- chains

pub chain_stop : (op : Connective) (n : ℕ) (tokens : List Token) (at : ℕ) (p q : Span) → IsOperand op n tokens at (Stop p) → IsChain op n tokens at (Stop q)
unfolding IsExpr IsRead read
chain_stop And n tokens at p q h =
    one_more_turn (λ k. read k Conjunction n (drop at tokens)) _ _ (λ k. refl) (goes_nowhere (λ k. read k Negation n (drop at tokens)) (λ k. chained (links k And n)) h)
chain_stop Or n tokens at p q h =
    one_more_turn (λ k. read k Disjunction n (drop at tokens)) _ _ (λ k. refl) (goes_nowhere (λ k. read k Conjunction n (drop at tokens)) (λ k. chained (links k Or n)) h)

-- a chain, given what comes of its further operands
chain_with : (op : Connective) (n : ℕ) (tokens : List Token) (at : ℕ) (first : Expr) (next : ℕ) (r : Read Expr) → IsOperand op n tokens at (Got first next) → Eventually (λ k. chained (links k op n) first (drop next tokens)) r → IsRead (chain_level op) n (drop at tokens) r
unfolding IsExpr IsRead read
chain_with And n tokens at first next r h g =
    one_more_turn (λ k. read k Conjunction n (drop at tokens)) _ _ (λ k. refl) (goes_on (λ k. read k Negation n (drop at tokens)) (λ k. chained (links k And n)) first (drop next tokens) r h g)
chain_with Or n tokens at first next r h g =
    one_more_turn (λ k. read k Disjunction n (drop at tokens)) _ _ (λ k. refl) (goes_on (λ k. read k Conjunction n (drop at tokens)) (λ k. chained (links k Or n)) first (drop next tokens) r h g)

pub chain_links_stop : (op : Connective) (n : ℕ) (tokens : List Token) (at : ℕ) (first : Expr) (next : ℕ) (p q : Span) → IsOperand op n tokens at (Got first next) → IsLinks op n tokens next (many.Stop p) → IsChain op n tokens at (Stop q)
unfolding IsExpr IsLinks AreLinks
chain_links_stop op n tokens at first next p q h g =
    chain_with op n tokens at first next None h (goes_nowhere (λ k. links k op n (drop next tokens)) (λ k ls rest. Some (chain_of first ls, rest)) g)

pub chain_goes : (op : Connective) (n : ℕ) (tokens : List Token) (at : ℕ) (first : Expr) (next : ℕ) (more : List Link) (behind : ℕ) → IsOperand op n tokens at (Got first next) → IsLinks op n tokens next (many.Got more behind) → IsChain op n tokens at (Got (chain_of first more) behind)
unfolding IsExpr IsLinks AreLinks
chain_goes op n tokens at first next more behind h g =
    chain_with op n tokens at first next (Some (chain_of first more, drop behind tokens)) h
    (goes_on (λ k. links k op n (drop next tokens)) (λ k ls rest. Some (chain_of first ls, rest)) more (drop behind tokens) _ g (always (λ k. Some (chain_of first more, drop behind tokens)) _ (λ k. refl)))

-- the further operands of a chain

-- so far these operands were read between two indices
unfoldable pub LinksSoFar : Connective → ℕ → List Token → ℕ → ℕ → List Link → Type 0
LinksSoFar op n tokens from at front = SoFar (λ k. links k op n) tokens from at front

pub links_begin : (op : Connective) (n : ℕ) (tokens : List Token) (at : ℕ) → LinksSoFar op n tokens at at []
unfolding LinksSoFar
links_begin op n tokens at = begins (λ k. links k op n) tokens at

-- where a sign stands, another operand follows
links_here : (op : Connective) (n : ℕ) (tokens : List Token) (at : ℕ) (r : Read (List Link)) → is_sign op (head (drop at tokens)) ≡ true → Eventually (λ k. after (linked op (links k op n)) (read k (operand_of op) n (drop (at + 1) tokens))) r → AreLinks op n (drop at tokens) r
unfolding AreLinks links
links_here op n tokens at r here h =
    one_more_turn (λ k. links k op n (drop at tokens)) (λ k. after (linked op (links k op n)) (read k (operand_of op) n (drop (at + 1) tokens))) r
    (λ k. ap (λ b. cond b (after (linked op (links k op n)) (read k (operand_of op) n (tail (drop at tokens)))) (Some ([], drop at tokens))) here
    ∙ ap (λ rest. after (linked op (links k op n)) (read k (operand_of op) n rest)) (tail_drop tokens at)) h

pub links_more : (op : Connective) (n : ℕ) (tokens : List Token) (from at : ℕ) (front : List Link) (operand : Expr) (next : ℕ) → LinksSoFar op n tokens from at front → is_sign op (head (drop at tokens)) ≡ true → IsOperand op n tokens (at + 1) (Got operand next) → LinksSoFar op n tokens from next (front ++ link_of op operand ∷ [])
unfolding LinksSoFar IsExpr IsRead AreLinks
links_more op n tokens from at front operand next before here h r g =
    subst (λ x. AreLinks op n (drop from tokens) x) (sym (with_front-snoc front (link_of op operand) r))
    (before (with_front (link_of op operand ∷ []) r)
    (links_here op n tokens at _ here
    (goes_on (λ k. read k (operand_of op) n (drop (at + 1) tokens)) (λ k. linked op (links k op n)) operand (drop next tokens) _ h (one_more r g))))
  where
    one_more : (r : Read (List Link)) → Eventually (λ k. links k op n (drop next tokens)) r → Eventually (λ k. linked op (links k op n) operand (drop next tokens)) (with_front (link_of op operand ∷ []) r)
    one_more None g = goes_nowhere (λ k. links k op n (drop next tokens)) (λ k ls rest. Some (link_of op operand ∷ ls, rest)) g
    one_more (Some x) g = goes_on (λ k. links k op n (drop next tokens)) (λ k ls rest. Some (link_of op operand ∷ ls, rest)) x.0 x.1 _ g (always (λ k. Some (link_of op operand ∷ x.0, x.1)) _ (λ k. refl))

pub links_stop : (op : Connective) (n : ℕ) (tokens : List Token) (from at : ℕ) (front : List Link) (p q : Span) → LinksSoFar op n tokens from at front → is_sign op (head (drop at tokens)) ≡ true → IsOperand op n tokens (at + 1) (Stop p) → IsLinks op n tokens from (many.Stop q)
unfolding LinksSoFar IsLinks IsExpr IsRead AreLinks
links_stop op n tokens from at front p q before here h =
    before None (links_here op n tokens at None here (goes_nowhere (λ k. read k (operand_of op) n (drop (at + 1) tokens)) (λ k. linked op (links k op n)) h))

pub links_end : (op : Connective) (n : ℕ) (tokens : List Token) (from at : ℕ) (front : List Link) → LinksSoFar op n tokens from at front → is_sign op (head (drop at tokens)) ≡ false → IsLinks op n tokens from (many.Got front at)
unfolding LinksSoFar IsLinks AreLinks links
links_end op n tokens from at front before here =
    subst (λ ls. Eventually (λ k. links k op n (drop from tokens)) (Some (ls, drop at tokens))) (append-nil front)
    (before (Some ([], drop at tokens))
    (one_more_turn (λ k. links k op n (drop at tokens)) (λ k. Some ([], drop at tokens)) _
    (λ k. ap (λ b. cond b (after (linked op (links k op n)) (read k (operand_of op) n (tail (drop at tokens)))) (Some ([], drop at tokens))) here)
    (always (λ k. Some ([], drop at tokens)) _ (λ k. refl))))

-- negations

negation_by_not : (inner : List Token → Read Expr) (other : Read Expr) (n : ℕ) (symbol : Terminal) (token : Token) (rest : List Token) → (symbol ≡ t.Bang → ⊥) → negation_by inner other n symbol token rest ≡ other
negation_by_not inner other n t.Bang token rest h = absurd (h refl)
negation_by_not inner other n _ token rest h = refl

pub negated_deep : (n : ℕ) (tokens : List Token) (place : Span) (at : ℕ) (p : Span) → greatest_nesting ≤ n → IsNegated n tokens place at (Stop p)
unfolding IsNegated
negated_deep n tokens place at p h = opened_deep n _ h

pub negated_stop : (n : ℕ) (tokens : List Token) (place : Span) (at : ℕ) (p q : Span) → n < greatest_nesting → IsExpr Negation (n + 1) tokens at (Stop p) → IsNegated n tokens place at (Stop q)
unfolding IsNegated IsExpr IsRead
negated_stop n tokens place at p q h r =
    let inner : Eventually (λ k. read k Negation (suc n) (drop at tokens)) None = rw (← add-one) r in
    opened_stop n (λ k. read k Negation (suc n) (drop at tokens)) (λ body rest. Some (e.Not body place, rest)) h inner

pub negated_goes : (n : ℕ) (tokens : List Token) (place : Span) (at : ℕ) (body : Expr) (next : ℕ) → n < greatest_nesting → IsExpr Negation (n + 1) tokens at (Got body next) → IsNegated n tokens place at (Got (e.Not body place) next)
unfolding IsNegated IsExpr IsRead
negated_goes n tokens place at body next h r =
    let inner : Eventually (λ k. read k Negation (suc n) (drop at tokens)) (Some (body, drop next tokens)) = rw (← add-one) r in
    opened n (λ k. read k Negation (suc n) (drop at tokens)) (λ body rest. Some (e.Not body place, rest)) body (drop next tokens) _ h inner refl

-- a negation, given what its first token makes of it
negation_with : (n : ℕ) (tokens : List Token) (at : ℕ) (token : Token) (r : Read Expr) → slice_get tokens at ≡ Some token → Eventually (λ k. negation_by (read k Negation (suc n)) (after (compared_at k n) (read k Primary n (drop at tokens))) n (terminal_of token) token (drop (at + 1) tokens)) r → IsRead Negation n (drop at tokens) r
unfolding IsRead read
negation_with n tokens at token r here h =
    one_more_turn (λ k. read k Negation n (drop at tokens)) _ r
    (λ k. ap (λ rest. negation_at (read k Negation (suc n)) (after (compared_at k n) (read k Primary n (drop at tokens))) n rest) (drop_some tokens at token here)) h

pub negation_bang : (n : ℕ) (tokens : List Token) (at : ℕ) (token : Token) (answer : ExprRead) → slice_get tokens at ≡ Some token → t.Bang ≡ terminal_of token → IsNegated n tokens token.at (at + 1) answer → IsExpr Negation n tokens at answer
unfolding IsExpr IsNegated
negation_bang n tokens at token answer here symbol h =
    negation_with n tokens at token (expr_of tokens answer) here
    (same_turns _ (λ k. negated token.at (read k Negation (suc n)) n (drop (at + 1) tokens)) _
    (λ k. ap (λ s. negation_by (read k Negation (suc n)) (after (compared_at k n) (read k Primary n (drop at tokens))) n s token (drop (at + 1) tokens)) (sym symbol)) h)

pub negation_other : (n : ℕ) (tokens : List Token) (at : ℕ) (token : Token) (answer : ExprRead) → slice_get tokens at ≡ Some token → (terminal_of token ≡ t.Bang → ⊥) → IsComparison n tokens at answer → IsExpr Negation n tokens at answer
unfolding IsExpr IsComparison
negation_other n tokens at token answer here symbol h =
    negation_with n tokens at token (expr_of tokens answer) here
    (same_turns _ (λ k. after (compared_at k n) (read k Primary n (drop at tokens))) _
    (λ k. negation_by_not (read k Negation (suc n)) (after (compared_at k n) (read k Primary n (drop at tokens))) n (terminal_of token) token (drop (at + 1) tokens) symbol) h)

-- comparisons

pub comparison_stop : (n : ℕ) (tokens : List Token) (at : ℕ) (p q : Span) → IsExpr Primary n tokens at (Stop p) → IsComparison n tokens at (Stop q)
unfolding IsComparison IsExpr IsRead
comparison_stop n tokens at p q h = goes_nowhere (λ k. read k Primary n (drop at tokens)) (λ k. compared_at k n) h

pub comparison_goes : (n : ℕ) (tokens : List Token) (at : ℕ) (left : Expr) (next : ℕ) (answer : ExprRead) → IsExpr Primary n tokens at (Got left next) → IsCompared n tokens left next answer → IsComparison n tokens at answer
unfolding IsComparison IsCompared IsExpr IsRead
comparison_goes n tokens at left next answer h g =
    goes_on (λ k. read k Primary n (drop at tokens)) (λ k. compared_at k n) left (drop next tokens) (expr_of tokens answer) h g

pub compared_not : (n : ℕ) (tokens : List Token) (left : Expr) (at : ℕ) → None ≡ compare_sign (head (drop at tokens)) → IsCompared n tokens left at (Got left at)
unfolding IsCompared
compared_not n tokens left at h =
    always _ _ (λ k. ap (λ s. compared_by (read k Primary n) left s (drop at tokens)) (sym h))

-- behind the left side of a comparison, where a sign stands
compared_with : (n : ℕ) (tokens : List Token) (left : Expr) (at : ℕ) (op : CompareOp) (r : Read Expr) → Some op ≡ compare_sign (head (drop at tokens)) → Eventually (λ k. after (λ right rest. Some (e.Compare op left right, rest)) (read k Primary n (drop (at + 1) tokens))) r → Eventually (λ k. compared_at k n left (drop at tokens)) r
compared_with n tokens left at op r here h =
    same_turns (λ k. compared_at k n left (drop at tokens)) _ r
    (λ k. ap (λ s. compared_by (read k Primary n) left s (drop at tokens)) (sym here)
    ∙ ap (λ rest. after (λ right rest'. Some (e.Compare op left right, rest')) (read k Primary n rest)) (tail_drop tokens at)) h

pub compared_stop : (n : ℕ) (tokens : List Token) (left : Expr) (at : ℕ) (op : CompareOp) (p q : Span) → Some op ≡ compare_sign (head (drop at tokens)) → IsExpr Primary n tokens (at + 1) (Stop p) → IsCompared n tokens left at (Stop q)
unfolding IsCompared IsExpr IsRead
compared_stop n tokens left at op p q here h =
    compared_with n tokens left at op None here (goes_nowhere (λ k. read k Primary n (drop (at + 1) tokens)) (λ k right rest. Some (e.Compare op left right, rest)) h)

pub compared_goes : (n : ℕ) (tokens : List Token) (left : Expr) (at : ℕ) (op : CompareOp) (right : Expr) (next : ℕ) → Some op ≡ compare_sign (head (drop at tokens)) → IsExpr Primary n tokens (at + 1) (Got right next) → IsCompared n tokens left at (Got (e.Compare op left right) next)
unfolding IsCompared IsExpr IsRead
compared_goes n tokens left at op right next here h =
    compared_with n tokens left at op _ here
    (goes_on (λ k. read k Primary n (drop (at + 1) tokens)) (λ k r rest. Some (e.Compare op left r, rest)) right (drop next tokens) _ h (always (λ k. Some (e.Compare op left right, drop next tokens)) _ (λ k. refl)))

-- primaries

-- a primary, given what its first token makes of it
primary_with : (n : ℕ) (tokens : List Token) (at : ℕ) (token : Token) (r : Read Expr) → slice_get tokens at ≡ Some token → Eventually (λ k. primary_by (read k Implication (suc n)) n (terminal_of token) token (drop (at + 1) tokens)) r → IsRead Primary n (drop at tokens) r
unfolding IsRead read
primary_with n tokens at token r here h =
    one_more_turn (λ k. read k Primary n (drop at tokens)) _ r
    (λ k. ap (primary_at (read k Implication (suc n)) n) (drop_some tokens at token here)) h

-- a primary whose first token has a known symbol
primary_as : (n : ℕ) (tokens : List Token) (at : ℕ) (token : Token) (symbol : Terminal) (r : Read Expr) → slice_get tokens at ≡ Some token → symbol ≡ terminal_of token → Eventually (λ k. primary_by (read k Implication (suc n)) n symbol token (drop (at + 1) tokens)) r → IsRead Primary n (drop at tokens) r
primary_as n tokens at token symbol r here is h =
    primary_with n tokens at token r here (subst (λ s. Eventually (λ k. primary_by (read k Implication (suc n)) n s token (drop (at + 1) tokens)) r) is h)

pub primary_true : (n : ℕ) (tokens : List Token) (at : ℕ) (token : Token) → slice_get tokens at ≡ Some token → t.True ≡ terminal_of token → IsExpr Primary n tokens at (Got (e.Truth true token.at) (at + 1))
unfolding IsExpr
primary_true n tokens at token here is = primary_as n tokens at token t.True _ here is (always _ _ (λ k. refl))

pub primary_false : (n : ℕ) (tokens : List Token) (at : ℕ) (token : Token) → slice_get tokens at ≡ Some token → t.False ≡ terminal_of token → IsExpr Primary n tokens at (Got (e.Truth false token.at) (at + 1))
unfolding IsExpr
primary_false n tokens at token here is = primary_as n tokens at token t.False _ here is (always _ _ (λ k. refl))

pub primary_name : (n : ℕ) (tokens : List Token) (at : ℕ) (token : Token) → slice_get tokens at ≡ Some token → t.Name ≡ terminal_of token → IsExpr Primary n tokens at (Got (e.Place (variable token)) (at + 1))
unfolding IsExpr
primary_name n tokens at token here is = primary_as n tokens at token t.Name _ here is (always _ _ (λ k. refl))

pub primary_open : (n : ℕ) (tokens : List Token) (at : ℕ) (token : Token) (answer : ExprRead) → slice_get tokens at ≡ Some token → t.Open ≡ terminal_of token → IsGroup n tokens (at + 1) answer → IsExpr Primary n tokens at answer
unfolding IsExpr IsGroup
primary_open n tokens at token answer here is h = primary_as n tokens at token t.Open (expr_of tokens answer) here is h

-- none of the tokens that begin a primary
abbrev pub begins_primary : Terminal → Bool
begins_primary t.True = true
begins_primary t.False = true
begins_primary t.Name = true
begins_primary t.Open = true
begins_primary _ = false

primary_by_none : (inner : List Token → Read Expr) (n : ℕ) (symbol : Terminal) (token : Token) (rest : List Token) → begins_primary symbol ≡ false → primary_by inner n symbol token rest ≡ None
primary_by_none inner n t.True token rest h = cc
primary_by_none inner n t.False token rest h = cc
primary_by_none inner n t.Name token rest h = cc
primary_by_none inner n t.Open token rest h = cc
primary_by_none inner n _ token rest h = refl

begins_not : (symbol : Terminal) → (symbol ≡ t.True → ⊥) → (symbol ≡ t.False → ⊥) → (symbol ≡ t.Name → ⊥) → (symbol ≡ t.Open → ⊥) → begins_primary symbol ≡ false
begins_not t.True a b c d = absurd (a refl)
begins_not t.False a b c d = absurd (b refl)
begins_not t.Name a b c d = absurd (c refl)
begins_not t.Open a b c d = absurd (d refl)
begins_not _ a b c d = refl

pub primary_other : (n : ℕ) (tokens : List Token) (at : ℕ) (token : Token) (p : Span) → slice_get tokens at ≡ Some token → (terminal_of token ≡ t.True → ⊥) → (terminal_of token ≡ t.False → ⊥) → (terminal_of token ≡ t.Name → ⊥) → (terminal_of token ≡ t.Open → ⊥) → IsExpr Primary n tokens at (Stop p)
unfolding IsExpr
primary_other n tokens at token p here a b c d =
    primary_with n tokens at token None here
    (always _ None (λ k. primary_by_none (read k Implication (suc n)) n (terminal_of token) token (drop (at + 1) tokens) (begins_not (terminal_of token) a b c d)))

primary_none_read : (n : ℕ) (tokens : List Token) (at : ℕ) → slice_get tokens at ≡ None → Eventually (λ k. read k Primary n (drop at tokens)) None
unfolding read
primary_none_read n tokens at here =
    one_more_turn (λ k. read k Primary n (drop at tokens)) (λ k. None) None
    (λ k. ap (primary_at (read k Implication (suc n)) n) (drop_none tokens at here)) (always (λ k. None) None (λ k. refl))

pub primary_none : (n : ℕ) (tokens : List Token) (at : ℕ) (p : Span) → slice_get tokens at ≡ None → IsExpr Primary n tokens at (Stop p)
unfolding IsExpr IsRead
primary_none n tokens at p here = primary_none_read n tokens at here

pub negation_none : (n : ℕ) (tokens : List Token) (at : ℕ) (p : Span) → slice_get tokens at ≡ None → IsExpr Negation n tokens at (Stop p)
unfolding IsExpr IsRead read
negation_none n tokens at p here =
    one_more_turn (λ k. read k Negation n (drop at tokens)) (λ k. after (compared_at k n) (read k Primary n (drop at tokens))) None
    (λ k. ap (λ rest. negation_at (read k Negation (suc n)) (after (compared_at k n) (read k Primary n (drop at tokens))) n rest) (drop_none tokens at here))
    (goes_nowhere (λ k. read k Primary n (drop at tokens)) (λ k. compared_at k n) (primary_none_read n tokens at here))

-- groups

pub group_deep : (n : ℕ) (tokens : List Token) (at : ℕ) (p : Span) → greatest_nesting ≤ n → IsGroup n tokens at (Stop p)
unfolding IsGroup
group_deep n tokens at p h = opened_deep n _ h

pub group_stop : (n : ℕ) (tokens : List Token) (at : ℕ) (p q : Span) → n < greatest_nesting → IsExpr Implication (n + 1) tokens at (Stop p) → IsGroup n tokens at (Stop q)
unfolding IsGroup IsExpr IsRead
group_stop n tokens at p q h r =
    let inner : Eventually (λ k. read k Implication (suc n) (drop at tokens)) None = rw (← add-one) r in
    opened_stop n (λ k. read k Implication (suc n) (drop at tokens)) closed h inner

-- parentheses, given what stands behind their inner
group_with : (n : ℕ) (tokens : List Token) (at : ℕ) (body : Expr) (next : ℕ) (r : Read Expr) → n < greatest_nesting → Eventually (λ k. read k Implication (n + 1) (drop at tokens)) (Some (body, drop next tokens)) → closed body (drop next tokens) ≡ r → Eventually (λ k. grouped (read k Implication (suc n)) n (drop at tokens)) r
group_with n tokens at body next r h g e =
    let inner : Eventually (λ k. read k Implication (suc n) (drop at tokens)) (Some (body, drop next tokens)) = rw (← add-one) g in
    opened n (λ k. read k Implication (suc n) (drop at tokens)) closed body (drop next tokens) r h inner e

pub group_closed : (n : ℕ) (tokens : List Token) (at : ℕ) (body : Expr) (next : ℕ) → n < greatest_nesting → IsExpr Implication (n + 1) tokens at (Got body next) → t.Close ≡ head (drop next tokens) → IsGroup n tokens at (Got body (next + 1))
unfolding IsGroup IsExpr IsRead
group_closed n tokens at body next h r here =
    group_with n tokens at body next _ h r (ap (λ s. closed_by body s (tail (drop next tokens))) (sym here) ∙ ap (λ rest. Some (body, rest)) (tail_drop tokens next))

closed_by_not : (body : Expr) (symbol : Terminal) (rest : List Token) → (symbol ≡ t.Close → ⊥) → closed_by body symbol rest ≡ None
closed_by_not body t.Close rest h = absurd (h refl)
closed_by_not body _ rest h = refl

pub group_unclosed : (n : ℕ) (tokens : List Token) (at : ℕ) (body : Expr) (next : ℕ) (p : Span) → n < greatest_nesting → IsExpr Implication (n + 1) tokens at (Got body next) → (head (drop next tokens) ≡ t.Close → ⊥) → IsGroup n tokens at (Stop p)
unfolding IsGroup IsExpr IsRead
group_unclosed n tokens at body next p h r here =
    group_with n tokens at body next None h r (closed_by_not body (head (drop next tokens)) (tail (drop next tokens)) here)

pub ruleset arms = (implication_stop, implication_goes, implied_not, implied_deep, implied_stop, implied_goes, chain_stop, chain_links_stop, chain_goes, links_begin, links_more, links_stop, links_end, negated_deep, negated_stop, negated_goes, negation_bang, negation_other, negation_none, comparison_stop, comparison_goes, compared_not, compared_stop, compared_goes, primary_true, primary_false, primary_name, primary_open, primary_other, primary_none, group_deep, group_stop, group_closed, group_unclosed)
