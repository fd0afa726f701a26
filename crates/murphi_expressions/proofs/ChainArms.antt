-- One lemma for each way through the readers of chains and comparisons.
use Rattle.std.specs.Prelude.{map}
use Rattle.std.proofs.Common.{◌≡◌, ℕ, ◌+◌, List, [], ◌∷◌, ◌++◌, Some, None, Ok, Err, Result, refl, sym, ap, subst}
use Rattle.grammar_core.specs.Walk as u
use Rattle.grammar_core.specs.Walk.{Run}
use Rattle.murphi_ast.specs.declared.token.Token.{Token}
use Rattle.murphi_ast.specs.declared.expr.CompareOp.{CompareOp}
use Rattle.murphi_ast.specs.declared.expr.ChainOp.{ChainOp}
use Rattle.murphi_ast.specs.declared.expr.ChainOp.TheVariants as chain
use Rattle.murphi_ast.specs.declared.expr.Link.{Link}
use Rattle.murphi_ast.specs.declared.expr.Expr as e
use Rattle.murphi_ast.specs.declared.expr.Expr.{Expr}
use Rattle.murphi_grammar.specs.declared.symbol.Symbol.TheVariants as t
use Rattle.murphi_grammar.specs.Names as n
use Rattle.murphi_grammar.specs.Parts.{◌▸◌, one, form}
use Rattle.murphi_grammar.specs.Pieces.{cut, piece_build}
use Rattle.murphi_grammar.specs.Values.{chained, linked, link}
use Rattle.murphi_expressions.specs.Says.{Says, Gives, IsSign, SoFar, can_begin, itself}
use Rattle.murphi_expressions.specs.Levels.{SaysChain, SaysOperand, SaysLinks, IsLinkSign, LinksSoFar}
use Rattle.murphi_expressions.specs.declared.sign.Level.{Level}
use Rattle.murphi_expressions.specs.declared.sign.Level.TheVariants as level
use Rattle.murphi_expressions.specs.declared.step.Stop.{Stop}
use Rattle.murphi_expressions.specs.declared.step.Stop.TheVariants.{Memory}
use Rattle.murphi_expressions.proofs.Ways.{with_none, nothing_yet, read_more, read_all, read_stops, renamed, said, stops_as, inside, included, excluded, shrunk, no_memory, gives_no_memory}

pub chain_first_stops : (l : Level) (k : ℕ) (ts : List Token) (at : ℕ) (s : Stop) → SaysOperand l k ts at (Err s) →
    SaysChain l k ts at (Err s)
unfolding SaysChain SaysOperand Says
chain_first_stops level.Or k ts at s p = stops_as ts at at s (λ why rest q. u.call_stop (u.seq_first q)) p
chain_first_stops level.And k ts at s p = stops_as ts at at s (λ why rest q. u.call_stop (u.seq_first q)) p
chain_first_stops level.Sum k ts at s p = stops_as ts at at s (λ why rest q. u.call_stop (u.seq_first q)) p
chain_first_stops level.Product k ts at s p = stops_as ts at at s (λ why rest q. u.call_stop (u.seq_first q)) p

pub chain_rest_stops : (l : Level) (k : ℕ) (ts : List Token) (at : ℕ) (x : Expr) (next : ℕ) (s : Stop) →
    SaysOperand l k ts at (Ok (x, next)) → SaysLinks l k ts next (Err s) → SaysChain l k ts at (Err s)
unfolding SaysChain SaysOperand SaysLinks Says
chain_rest_stops level.Or k ts at x next s p h = stops_as ts next at s (λ why rest q. u.call_stop (u.seq_second p q)) h
chain_rest_stops level.And k ts at x next s p h = stops_as ts next at s (λ why rest q. u.call_stop (u.seq_second p q)) h
chain_rest_stops level.Sum k ts at x next s p h = stops_as ts next at s (λ why rest q. u.call_stop (u.seq_second p q)) h
chain_rest_stops level.Product k ts at x next s p h = stops_as ts next at s (λ why rest q. u.call_stop (u.seq_second p q)) h

pub chain_goes : (l : Level) (k : ℕ) (ts : List Token) (at : ℕ) (x : Expr) (next : ℕ) (xs : List Link) (end : ℕ) →
    SaysOperand l k ts at (Ok (x, next)) → SaysLinks l k ts next (Ok (xs, end)) → SaysChain l k ts at (Ok (chained x xs, end))
unfolding SaysChain SaysOperand SaysLinks Says
chain_goes level.Or k ts at x next xs end p q = u.call refl (u.seq p q)
chain_goes level.And k ts at x next xs end p q = u.call refl (u.seq p q)
chain_goes level.Sum k ts at x next xs end p q = u.call refl (u.seq p q)
chain_goes level.Product k ts at x next xs end p q = u.call refl (u.seq p q)

pub chain_no_memory : (l : Level) (k : ℕ) (ts : List Token) (at : ℕ) (s : Stop) → s ≡ Memory → SaysChain l k ts at (Err s)
unfolding SaysChain
chain_no_memory level.Or k ts at s h = no_memory _ k ts at s h
chain_no_memory level.And k ts at s h = no_memory _ k ts at s h
chain_no_memory level.Sum k ts at s h = no_memory _ k ts at s h
chain_no_memory level.Product k ts at s h = no_memory _ k ts at s h

pub links_no_memory : (l : Level) (k : ℕ) (ts : List Token) (at : ℕ) (s : Stop) → s ≡ Memory → SaysLinks l k ts at (Err s)
unfolding SaysLinks
links_no_memory level.Or k ts at s h = no_memory _ k ts at s h
links_no_memory level.And k ts at s h = no_memory _ k ts at s h
links_no_memory level.Sum k ts at s h = no_memory _ k ts at s h
links_no_memory level.Product k ts at s h = no_memory _ k ts at s h

pub ruleset chain_arms = (chain_first_stops, chain_rest_stops, chain_goes, chain_no_memory)

pub links_none : (l : Level) (k : ℕ) (ts : List Token) (at : ℕ) → LinksSoFar l k ts at at []
unfolding LinksSoFar SoFar
links_none level.Or k ts at = λ r p. subst (λ z. Gives (cut n.OrLinks) itself k ts at z) (sym (with_none r)) (renamed (n.Cut n.OrLinks) k ts at r p)
links_none level.And k ts at = λ r p. subst (λ z. Gives (cut n.AndLinks) itself k ts at z) (sym (with_none r)) (renamed (n.Cut n.AndLinks) k ts at r p)
links_none level.Sum k ts at = λ r p. subst (λ z. Gives (cut n.SumLinks) itself k ts at z) (sym (with_none r)) (renamed (n.Cut n.SumLinks) k ts at r p)
links_none level.Product k ts at = λ r p. subst (λ z. Gives (cut n.ProductLinks) itself k ts at z) (sym (with_none r)) (renamed (n.Cut n.ProductLinks) k ts at r p)

pub links_more : (l : Level) (k : ℕ) (ts : List Token) (from at : ℕ) (front : List Link) (op : ChainOp) (x : Expr) (next : ℕ) →
    LinksSoFar l k ts from at front → IsLinkSign l ts at (Some op) → SaysOperand l k ts (at + 1) (Ok (x, next)) →
    LinksSoFar l k ts from next (front ++ record { op = op; operand = x } ∷ [])
unfolding LinksSoFar IsLinkSign IsSign SaysOperand Says
links_more level.Or k ts from at front op x next so (sign, e, run, h) p =
    read_more (one t.Bar ▸ form n.And) (piece_build n.OrLinks) (cut n.OrLinks) itself k ts from at next front (record { op = op; operand = x } ∷ []) (sign, x) so
    (λ xs. ap (λ z. record { op = z; operand = x } ∷ map (link chain.Or) xs) e) (u.seq (run k) p)
links_more level.And k ts from at front op x next so (sign, e, run, h) p =
    read_more (one t.Ampersand ▸ form n.Not) (piece_build n.AndLinks) (cut n.AndLinks) itself k ts from at next front (record { op = op; operand = x } ∷ []) (sign, x) so
    (λ xs. ap (λ z. record { op = z; operand = x } ∷ map (link chain.And) xs) e) (u.seq (run k) p)
links_more level.Sum k ts from at front op x next so (sign, e, run, h) p =
    read_more (cut n.SumSign ▸ form n.Product) (piece_build n.SumLinks) (cut n.SumLinks) itself k ts from at next front (record { op = op; operand = x } ∷ []) (sign, x) so
    (λ xs. ap (λ z. record { op = z; operand = x } ∷ linked xs) e) (u.seq (run k) p)
links_more level.Product k ts from at front op x next so (sign, e, run, h) p =
    read_more (cut n.ProductSign ▸ form n.Unary) (piece_build n.ProductLinks) (cut n.ProductLinks) itself k ts from at next front (record { op = op; operand = x } ∷ []) (sign, x) so
    (λ xs. ap (λ z. record { op = z; operand = x } ∷ linked xs) e) (u.seq (run k) p)

pub links_done : (l : Level) (k : ℕ) (ts : List Token) (from at : ℕ) (front : List Link) → LinksSoFar l k ts from at front →
    IsLinkSign l ts at None → SaysLinks l k ts from (Ok (front, at))
unfolding LinksSoFar IsLinkSign IsSign SaysLinks can_begin
links_done level.Or k ts from at front so h = said (n.Cut n.OrLinks) k ts from (Ok (front, at)) (read_all (one t.Bar ▸ form n.And) (piece_build n.OrLinks) (cut n.OrLinks) itself k ts from at front so refl h)
links_done level.And k ts from at front so h = said (n.Cut n.AndLinks) k ts from (Ok (front, at)) (read_all (one t.Ampersand ▸ form n.Not) (piece_build n.AndLinks) (cut n.AndLinks) itself k ts from at front so refl h)
links_done level.Sum k ts from at front so h = said (n.Cut n.SumLinks) k ts from (Ok (front, at)) (read_all (cut n.SumSign ▸ form n.Product) (piece_build n.SumLinks) (cut n.SumLinks) itself k ts from at front so refl h)
links_done level.Product k ts from at front so h = said (n.Cut n.ProductLinks) k ts from (Ok (front, at)) (read_all (cut n.ProductSign ▸ form n.Unary) (piece_build n.ProductLinks) (cut n.ProductLinks) itself k ts from at front so refl h)

pub links_stop : (l : Level) (k : ℕ) (ts : List Token) (from at : ℕ) (front : List Link) (op : ChainOp) (s : Stop) →
    LinksSoFar l k ts from at front → IsLinkSign l ts at (Some op) → SaysOperand l k ts (at + 1) (Err s) →
    SaysLinks l k ts from (Err s)
unfolding LinksSoFar IsLinkSign IsSign SaysOperand SaysLinks Says can_begin
links_stop level.Or k ts from at front op s so (sign, e, run, h) p = said (n.Cut n.OrLinks) k ts from (Err s)
    (read_stops (one t.Bar ▸ form n.And) (form n.And) (piece_build n.OrLinks) (cut n.OrLinks) itself k k ts from at (at + 1) front s so h (λ why rest q. u.seq_second (run k) q) p)
links_stop level.And k ts from at front op s so (sign, e, run, h) p = said (n.Cut n.AndLinks) k ts from (Err s)
    (read_stops (one t.Ampersand ▸ form n.Not) (form n.Not) (piece_build n.AndLinks) (cut n.AndLinks) itself k k ts from at (at + 1) front s so h (λ why rest q. u.seq_second (run k) q) p)
links_stop level.Sum k ts from at front op s so (sign, e, run, h) p = said (n.Cut n.SumLinks) k ts from (Err s)
    (read_stops (cut n.SumSign ▸ form n.Product) (form n.Product) (piece_build n.SumLinks) (cut n.SumLinks) itself k k ts from at (at + 1) front s so h (λ why rest q. u.seq_second (run k) q) p)
links_stop level.Product k ts from at front op s so (sign, e, run, h) p = said (n.Cut n.ProductLinks) k ts from (Err s)
    (read_stops (cut n.ProductSign ▸ form n.Unary) (form n.Unary) (piece_build n.ProductLinks) (cut n.ProductLinks) itself k k ts from at (at + 1) front s so h (λ why rest q. u.seq_second (run k) q) p)

pub ruleset links_arms = (links_none, links_more, links_done, links_stop, links_no_memory)

pub or_operand : (l : Level) (k : ℕ) (ts : List Token) (at : ℕ) (r : Result (Expr × ℕ) Stop) → l ≡ level.Or → SaysChain level.And k ts at r →
    SaysOperand l k ts at r
unfolding SaysOperand SaysChain
or_operand l k ts at r e p = subst (λ z. SaysOperand z k ts at r) (sym e) p

pub and_operand : (l : Level) (k : ℕ) (ts : List Token) (at : ℕ) (r : Result (Expr × ℕ) Stop) → l ≡ level.And → Says n.Not k ts at r →
    SaysOperand l k ts at r
unfolding SaysOperand SaysChain
and_operand l k ts at r e p = subst (λ z. SaysOperand z k ts at r) (sym e) p

pub sum_operand : (l : Level) (k : ℕ) (ts : List Token) (at : ℕ) (r : Result (Expr × ℕ) Stop) → l ≡ level.Sum → SaysChain level.Product k ts at r →
    SaysOperand l k ts at r
unfolding SaysOperand SaysChain
sum_operand l k ts at r e p = subst (λ z. SaysOperand z k ts at r) (sym e) p

pub product_operand : (l : Level) (k : ℕ) (ts : List Token) (at : ℕ) (r : Result (Expr × ℕ) Stop) → l ≡ level.Product → Says n.Unary k ts at r →
    SaysOperand l k ts at r
unfolding SaysOperand SaysChain
product_operand l k ts at r e p = subst (λ z. SaysOperand z k ts at r) (sym e) p

pub ruleset operand_arms = (or_operand, and_operand, sum_operand, product_operand)

pub compare_first_stops : (k : ℕ) (ts : List Token) (at : ℕ) (s : Stop) → SaysChain level.Sum k ts at (Err s) →
    Says n.Compare k ts at (Err s)
unfolding SaysChain Says
compare_first_stops k ts at s p = stops_as ts at at s (λ why rest q. u.call_stop (u.seq_first q)) p

pub compare_plain : (k : ℕ) (ts : List Token) (at : ℕ) (x : Expr) (next : ℕ) → SaysChain level.Sum k ts at (Ok (x, next)) →
    IsSign (cut n.CompareSign) itself ts next None → Says n.Compare k ts at (Ok (x, next))
unfolding SaysChain Says IsSign can_begin
compare_plain k ts at x next p h = u.call refl (u.seq p (u.right h u.empty))

pub compare_right_stops : (k : ℕ) (ts : List Token) (at : ℕ) (x : Expr) (next : ℕ) (op : CompareOp) (s : Stop) →
    SaysChain level.Sum k ts at (Ok (x, next)) → IsSign (cut n.CompareSign) itself ts next (Some op) →
    SaysChain level.Sum k ts (next + 1) (Err s) → Says n.Compare k ts at (Err s)
unfolding SaysChain Says IsSign can_begin
compare_right_stops k ts at x next op s p (sign, e, run, h) r =
    stops_as ts (next + 1) at s (λ why rest q. u.call_stop (u.seq_second p (u.left_stop h (u.seq_second (run k) q)))) r

pub compare_goes : (k : ℕ) (ts : List Token) (at : ℕ) (x : Expr) (next : ℕ) (op : CompareOp) (y : Expr) (end : ℕ) →
    SaysChain level.Sum k ts at (Ok (x, next)) → IsSign (cut n.CompareSign) itself ts next (Some op) →
    SaysChain level.Sum k ts (next + 1) (Ok (y, end)) → Says n.Compare k ts at (Ok (e.Compare op x y, end))
unfolding SaysChain Says IsSign can_begin
compare_goes k ts at x next op y end p (sign, d, run, h) r =
    u.call (ap (λ z. e.Compare z x y) d) (u.seq p (u.left h (u.seq (run k) r)))

pub ruleset compare_arms = (compare_first_stops, compare_plain, compare_right_stops, compare_goes, no_memory)
