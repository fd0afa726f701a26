-- One step of reading a list, for each way that a function of the reader goes.
use Rattle.std.proofs.Common.{◌≡◌, ℕ, ◌+◌, List, [], ◌∷◌, drop, Some, None, refl, sym, ap, ◌∙◌, subst}
use Rattle.std.specs.Prelude.{slice_get}
use Rattle.murphi_ast.specs.declared.token.Span.{Span}
use Rattle.murphi_ast.specs.declared.token.Token.{Token}
use Rattle.murphi_ast.specs.declared.terminal.Terminal.{Terminal}
use Rattle.murphi_ast.specs.declared.terminal.Terminal.TheVariants as t
use Rattle.murphi_ast.specs.declared.expr.Expr.{Expr}
use Rattle.murphi_ast.specs.declared.stmt.Stmt.{Stmt, Assign}
use Rattle.murphi_ast.specs.Terminal.{terminal_of}
use Rattle.murphi_ast.specs.Grammar.{variable, Implication}
use Rattle.murphi_syntax.specs.Reading.{Read, Eventually, after, with_front, head, read, IsRead}
use Rattle.murphi_syntax.specs.Answers.{IsExpr}
use Rattle.murphi_syntax.specs.Protocols.{one_by, one_then, assigned, assigned_by, stmts_by, stmts_at, stmts}
use Rattle.murphi_syntax.specs.Steps.{read_of, Continues, IsBehind, TakesOne, IsAssigned, AreStmts, StmtsSoFar, StmtStep}
use Rattle.murphi_syntax.specs.declared.expr.ExprRead.TheVariants as expr
use Rattle.murphi_syntax.specs.declared.step.ReadOf.{ReadOf}
use Rattle.murphi_syntax.specs.declared.step.ReadOf.TheVariants as one
use Rattle.murphi_syntax.specs.declared.step.Step.{Step}
use Rattle.murphi_syntax.specs.declared.step.Step.TheVariants.{More, End, Stop}
use Rattle.murphi_syntax.proofs.Turns.{always, one_more_turn, goes_on, goes_nowhere, same_turns}
use Rattle.murphi_syntax.proofs.SoFar.{begins, skips, takes, ends, ends_with, with_one}
use Rattle.murphi_syntax.proofs.Places.{drop_some, drop_none, tail_drop}

-- steps of any list

pub one_by_not : {A : Type 0} (more : List Token → Read (List A)) (tree : A) (symbol : Terminal) (rest : List Token) → (symbol ≡ t.Semicolon → ⊥) → one_by more tree symbol rest ≡ Some (tree ∷ [], rest)
one_by_not more tree t.Semicolon rest h = absurd (h refl)
one_by_not more tree _ rest h = refl

-- behind one of a list, over a semicolon
behind_more : {A : Type 0} (f : ℕ → List Token → Read (List A)) (tokens : List Token) (at next : ℕ) (tree : A) (r : Read (List A)) → IsBehind tokens at (More next) → Eventually (λ k. f k (drop next tokens)) r → Eventually (λ k. one_then (f k) tree (drop at tokens)) (with_front (tree ∷ []) r)
behind_more f tokens at next tree r (here, is) h =
    let h' : Eventually (λ k. f k (drop (at + 1) tokens)) r = subst (λ n. Eventually (λ k. f k (drop n tokens)) r) is h in
    same_turns (λ k. one_then (f k) tree (drop at tokens)) (λ k. with_front (tree ∷ []) (f k (drop (at + 1) tokens))) _
    (λ k. ap (λ s. one_by (f k) tree s (drop at tokens)) (sym here) ∙ ap (λ rest. with_front (tree ∷ []) (f k rest)) (tail_drop tokens at))
    (with_one (λ k. f k (drop (at + 1) tokens)) tree r h')

-- behind one of a list, at its end
behind_end : {A : Type 0} (f : ℕ → List Token → Read (List A)) (tokens : List Token) (at next : ℕ) (tree : A) → IsBehind tokens at (End next) → Eventually (λ k. one_then (f k) tree (drop at tokens)) (Some (tree ∷ [], drop next tokens))
behind_end f tokens at next tree (here, is) =
    subst (λ n. Eventually (λ k. one_then (f k) tree (drop at tokens)) (Some (tree ∷ [], drop n tokens))) (sym is)
    (always _ _ (λ k. one_by_not (f k) tree (head (drop at tokens)) (drop at tokens) here))

-- where a reader of a list goes on with one, a step takes it
pub takes_one : {A : Type 0} (f : ℕ → List Token → Read (List A)) (g : ℕ → Read A) (tokens : List Token) (at : ℕ) (answer : ReadOf A) (old new : List A) (step : Step) → ((r : Read (List A)) → Eventually (λ k. after (one_then (f k)) (g k)) r → Eventually (λ k. f k (drop at tokens)) r) → Eventually g (read_of tokens answer) → TakesOne tokens answer old new step → Continues f tokens at old new step
takes_one f g tokens at (one.Got tree next) old new (More m) here h (is, behind) =
    subst (λ ls. Continues f tokens at old ls (More m)) (sym is)
    (λ from before. takes f tokens from at m old tree before
    (λ r rest. here (with_front (tree ∷ []) r) (goes_on g (λ k. one_then (f k)) tree (drop next tokens) _ h (behind_more f tokens next m tree r behind rest))))
takes_one f g tokens at (one.Got tree next) old new (End m) here h (is, behind) =
    subst (λ ls. Continues f tokens at old ls (End m)) (sym is)
    (λ from before. ends_with f tokens from at m old tree before
    (here (Some (tree ∷ [], drop m tokens)) (goes_on g (λ k. one_then (f k)) tree (drop next tokens) _ h (behind_end f tokens next m tree behind))))
takes_one f g tokens at (one.Got tree next) old new (Stop p) here h (is, behind) = absurd behind
takes_one f g tokens at (one.Stop p) old new (More m) here h absurdly = absurd absurdly
takes_one f g tokens at (one.Stop p) old new (End m) here h absurdly = absurd absurdly
takes_one f g tokens at (one.Stop p) old new (Stop q) here h tt =
    λ from before. before None (here None (goes_nowhere g (λ k. one_then (f k)) h))

-- a step over something that leaves nothing
pub over : {A : Type 0} (f : ℕ → List Token → Read (List A)) (tokens : List Token) (at next : ℕ) (old : List A) → ((r : Read (List A)) → Eventually (λ k. f k (drop next tokens)) r → Eventually (λ k. f k (drop at tokens)) r) → Continues f tokens at old old (More next)
over f tokens at next old here = λ from before. skips f tokens from at next old before here

-- a step at the end
pub at_end : {A : Type 0} (f : ℕ → List Token → Read (List A)) (tokens : List Token) (at next : ℕ) (old : List A) → Eventually (λ k. f k (drop at tokens)) (Some ([], drop next tokens)) → Continues f tokens at old old (End next)
at_end f tokens at next old here = λ from before. ends f tokens from at next old before here

-- statements

assigned_by_not : (value : List Token → Read Expr) (token : Token) (symbol : Terminal) (rest : List Token) → (symbol ≡ t.Becomes → ⊥) → assigned_by value token symbol rest ≡ None
assigned_by_not value token t.Becomes rest h = absurd (h refl)
assigned_by_not value token _ rest h = refl

pub assigned_not : (n : ℕ) (tokens : List Token) (token : Token) (at : ℕ) (p : Span) → (head (drop at tokens) ≡ t.Becomes → ⊥) → IsAssigned n tokens token at (one.Stop p)
unfolding IsAssigned
assigned_not n tokens token at p h = always _ None (λ k. assigned_by_not (read k Implication n) token (head (drop at tokens)) (drop at tokens) h)

-- behind the `:=`
assigned_with : (n : ℕ) (tokens : List Token) (token : Token) (at : ℕ) (r : Read Stmt) → t.Becomes ≡ head (drop at tokens) → Eventually (λ k. after (λ v rest. Some (Assign (variable token) v, rest)) (read k Implication n (drop (at + 1) tokens))) r → Eventually (λ k. assigned (read k Implication n) token (drop at tokens)) r
assigned_with n tokens token at r here h =
    same_turns _ _ r
    (λ k. ap (λ s. assigned_by (read k Implication n) token s (drop at tokens)) (sym here)
    ∙ ap (λ rest. after (λ v rest'. Some (Assign (variable token) v, rest')) (read k Implication n rest)) (tail_drop tokens at)) h

pub assigned_stop : (n : ℕ) (tokens : List Token) (token : Token) (at : ℕ) (p q : Span) → t.Becomes ≡ head (drop at tokens) → IsExpr Implication n tokens (at + 1) (expr.Stop p) → IsAssigned n tokens token at (one.Stop q)
unfolding IsAssigned IsExpr IsRead
assigned_stop n tokens token at p q here h =
    assigned_with n tokens token at None here (goes_nowhere (λ k. read k Implication n (drop (at + 1) tokens)) (λ k v rest. Some (Assign (variable token) v, rest)) h)

pub assigned_goes : (n : ℕ) (tokens : List Token) (token : Token) (at : ℕ) (value : Expr) (next : ℕ) → t.Becomes ≡ head (drop at tokens) → IsExpr Implication n tokens (at + 1) (expr.Got value next) → IsAssigned n tokens token at (one.Got (Assign (variable token) value) next)
unfolding IsAssigned IsExpr IsRead
assigned_goes n tokens token at value next here h =
    assigned_with n tokens token at _ here
    (goes_on (λ k. read k Implication n (drop (at + 1) tokens)) (λ k v rest. Some (Assign (variable token) v, rest)) value (drop next tokens) _ h (always (λ k. Some (Assign (variable token) value, drop next tokens)) _ (λ k. refl)))

-- statements, given what their first token makes of them
stmts_here : (n : ℕ) (tokens : List Token) (at : ℕ) (token : Token) (symbol : Terminal) (r : Read (List Stmt)) → slice_get tokens at ≡ Some token → symbol ≡ terminal_of token → Eventually (λ k. stmts_by (stmts k n) (read k Implication n) symbol token (drop (at + 1) tokens)) r → Eventually (λ k. stmts k n (drop at tokens)) r
unfolding stmts
stmts_here n tokens at token symbol r here is h =
    one_more_turn (λ k. stmts k n (drop at tokens)) (λ k. stmts_by (stmts k n) (read k Implication n) symbol token (drop (at + 1) tokens)) r
    (λ k. ap (stmts_at (stmts k n) (read k Implication n)) (drop_some tokens at token here)
    ∙ ap (λ s. stmts_by (stmts k n) (read k Implication n) s token (drop (at + 1) tokens)) (sym is)) h

pub stmt_skip : (n : ℕ) (tokens : List Token) (at : ℕ) (token : Token) (old : List Stmt) → slice_get tokens at ≡ Some token → t.Semicolon ≡ terminal_of token → StmtStep n tokens at old old (More (at + 1))
unfolding StmtStep
stmt_skip n tokens at token old here is = over (λ k. stmts k n) tokens at (at + 1) old (λ r h. stmts_here n tokens at token t.Semicolon r here is h)

pub stmt_one : (n : ℕ) (tokens : List Token) (at : ℕ) (token : Token) (answer : ReadOf Stmt) (old new : List Stmt) (step : Step) → slice_get tokens at ≡ Some token → t.Name ≡ terminal_of token → IsAssigned n tokens token (at + 1) answer → TakesOne tokens answer old new step → StmtStep n tokens at old new step
unfolding StmtStep IsAssigned
stmt_one n tokens at token answer old new step here is h takes =
    takes_one (λ k. stmts k n) (λ k. assigned (read k Implication n) token (drop (at + 1) tokens)) tokens at answer old new step
    (λ r rest. stmts_here n tokens at token t.Name r here is rest) h takes

stmts_by_not : (more : List Token → Read (List Stmt)) (value : List Token → Read Expr) (symbol : Terminal) (token : Token) (rest : List Token) → (symbol ≡ t.Semicolon → ⊥) → (symbol ≡ t.Name → ⊥) → stmts_by more value symbol token rest ≡ Some ([], token ∷ rest)
stmts_by_not more value t.Semicolon token rest a b = absurd (a refl)
stmts_by_not more value t.Name token rest a b = absurd (b refl)
stmts_by_not more value _ token rest a b = refl

pub stmt_end : (n : ℕ) (tokens : List Token) (at : ℕ) (token : Token) (old : List Stmt) → slice_get tokens at ≡ Some token → (terminal_of token ≡ t.Semicolon → ⊥) → (terminal_of token ≡ t.Name → ⊥) → StmtStep n tokens at old old (End at)
unfolding StmtStep
stmt_end n tokens at token old here a b =
    at_end (λ k. stmts k n) tokens at at old
    (stmts_here n tokens at token (terminal_of token) _ here refl
    (always _ _ (λ k. stmts_by_not (stmts k n) (read k Implication n) (terminal_of token) token (drop (at + 1) tokens) a b ∙ ap (λ rest. Some ([], rest)) (sym (drop_some tokens at token here)))))

pub stmt_none : (n : ℕ) (tokens : List Token) (at : ℕ) (old : List Stmt) → slice_get tokens at ≡ None → StmtStep n tokens at old old (End at)
unfolding StmtStep stmts
stmt_none n tokens at old here =
    at_end (λ k. stmts k n) tokens at at old
    (one_more_turn (λ k. stmts k n (drop at tokens)) (λ k. Some ([], drop at tokens)) _
    (λ k. ap (stmts_at (stmts k n) (read k Implication n)) (drop_none tokens at here) ∙ ap (λ rest. Some ([], rest)) (sym (drop_none tokens at here)))
    (always _ _ (λ k. refl)))

pub stmts_begin : (n : ℕ) (tokens : List Token) (at : ℕ) → StmtsSoFar n tokens at at []
unfolding StmtsSoFar
stmts_begin n tokens at = begins (λ k. stmts k n) tokens at

pub stmts_more : (n : ℕ) (tokens : List Token) (from at : ℕ) (old new : List Stmt) (next : ℕ) → StmtsSoFar n tokens from at old → StmtStep n tokens at old new (More next) → StmtsSoFar n tokens from next new
unfolding StmtsSoFar StmtStep
stmts_more n tokens from at old new next before step = step from before

pub stmts_ended : (n : ℕ) (tokens : List Token) (from at : ℕ) (old new : List Stmt) (next : ℕ) → StmtsSoFar n tokens from at old → StmtStep n tokens at old new (End next) → AreStmts n tokens from (one.Got new next)
unfolding StmtsSoFar StmtStep AreStmts
stmts_ended n tokens from at old new next before step = step from before

pub stmts_stopped : (n : ℕ) (tokens : List Token) (from at : ℕ) (old new : List Stmt) (p q : Span) → StmtsSoFar n tokens from at old → StmtStep n tokens at old new (Stop p) → AreStmts n tokens from (one.Stop q)
unfolding StmtsSoFar StmtStep AreStmts
stmts_stopped n tokens from at old new p q before step = step from before

pub ruleset stmt_arms = (assigned_not, assigned_stop, assigned_goes, stmt_skip, stmt_one, stmt_end, stmt_none, stmts_begin, stmts_more, stmts_ended, stmts_stopped)
