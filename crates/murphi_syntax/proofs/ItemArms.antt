-- One step of reading items, for each way that a function of the reader goes.
use Rattle.std.proofs.Common.{◌≡◌, ℕ, ◌+◌, Bool, true, false, cond, List, [], ◌∷◌, drop, Option, Some, None, refl, sym, ap, ◌∙◌}
use Rattle.std.specs.Prelude.{slice_get}
use Rattle.murphi_ast.specs.declared.text.Text.{Text}
use Rattle.murphi_ast.specs.declared.token.Span.{Span}
use Rattle.murphi_ast.specs.declared.token.Token.{Token}
use Rattle.murphi_ast.specs.declared.terminal.Terminal.{Terminal}
use Rattle.murphi_ast.specs.declared.terminal.Terminal.TheVariants as t
use Rattle.murphi_ast.specs.declared.expr.Expr.{Expr}
use Rattle.murphi_ast.specs.declared.stmt.Stmt.{Stmt}
use Rattle.murphi_ast.specs.declared.rule.RuleDecl.{RuleDecl, Rule, Start, Invariant}
use Rattle.murphi_ast.specs.Terminal.{terminal_of}
use Rattle.murphi_ast.specs.Grammar.{Implication}
use Rattle.murphi_syntax.specs.Reading.{Read, Eventually, after, head, tail, read, IsRead}
use Rattle.murphi_syntax.specs.Answers.{IsExpr}
use Rattle.murphi_syntax.specs.Protocols.{one_then, stmts, title_by, title, behind_title_by, behind_title, ends_rule, ends_start, ended, guarded_by, guarded, rule, start, invariant, item_by, items_by, items_at, items}
use Rattle.murphi_syntax.specs.Steps.{TakesOne, IsTitle, AreStmts, IsGuarded, IsItem, AreItems, ItemsSoFar, ItemStep}
use Rattle.murphi_syntax.specs.declared.expr.ExprRead.TheVariants as expr
use Rattle.murphi_syntax.specs.declared.step.ReadOf.{ReadOf}
use Rattle.murphi_syntax.specs.declared.step.ReadOf.TheVariants as one
use Rattle.murphi_syntax.specs.declared.step.Step.{Step}
use Rattle.murphi_syntax.specs.declared.step.Step.TheVariants.{More, End, Stop}
use Rattle.murphi_syntax.proofs.Turns.{always, one_more_turn, goes_on, goes_nowhere, same_turns}
use Rattle.murphi_syntax.proofs.SoFar.{begins}
use Rattle.murphi_syntax.proofs.ListArms.{takes_one, over, at_end}
use Rattle.murphi_syntax.proofs.Places.{drop_some, drop_none, tail_drop}

-- titles

title_by_not : (symbol : Terminal) (token : Token) → (symbol ≡ t.Quoted → ⊥) → title_by symbol token ≡ None
title_by_not t.Quoted token h = absurd (h refl)
title_by_not _ token h = refl

behind_title_by_not : (symbol : Terminal) (token : Token) (rest : List Token) → (symbol ≡ t.Quoted → ⊥) → behind_title_by symbol token rest ≡ token ∷ rest
behind_title_by_not t.Quoted token rest h = absurd (h refl)
behind_title_by_not _ token rest h = refl

pub title_quoted : (tokens : List Token) (at : ℕ) (token : Token) → slice_get tokens at ≡ Some token → t.Quoted ≡ terminal_of token → IsTitle tokens at (Some token.text) (at + 1)
unfolding IsTitle
title_quoted tokens at token here is = (
  ap title (drop_some tokens at token here) ∙ ap (λ s. title_by s token) (sym is),
  ap behind_title (drop_some tokens at token here) ∙ ap (λ s. behind_title_by s token (drop (at + 1) tokens)) (sym is),
)

pub title_other : (tokens : List Token) (at : ℕ) (token : Token) → slice_get tokens at ≡ Some token → (terminal_of token ≡ t.Quoted → ⊥) → IsTitle tokens at None at
unfolding IsTitle
title_other tokens at token here h = (
  ap title (drop_some tokens at token here) ∙ title_by_not (terminal_of token) token h,
  ap behind_title (drop_some tokens at token here) ∙ behind_title_by_not (terminal_of token) token (drop (at + 1) tokens) h ∙ sym (drop_some tokens at token here),
)

pub title_none : (tokens : List Token) (at : ℕ) → slice_get tokens at ≡ None → IsTitle tokens at None at
unfolding IsTitle
title_none tokens at here =
    (ap title (drop_none tokens at here), ap behind_title (drop_none tokens at here) ∙ sym (drop_none tokens at here))

-- what stands behind the guard of a rule

guarded_by_not : (body : List Token → Read (List Stmt)) (string : Option Text) (place : Span) (guard : Expr) (symbol : Terminal) (rest : List Token) → (symbol ≡ t.Then → ⊥) → guarded_by body string place guard symbol rest ≡ None
guarded_by_not body string place guard t.Then rest h = absurd (h refl)
guarded_by_not body string place guard _ rest h = refl

pub guarded_not : (tokens : List Token) (string : Option Text) (place : Span) (guard : Expr) (at : ℕ) (p : Span) → (head (drop at tokens) ≡ t.Then → ⊥) → IsGuarded tokens string place guard at (one.Stop p)
unfolding IsGuarded
guarded_not tokens string place guard at p h = always _ None (λ k. guarded_by_not (stmts k 1) string place guard (head (drop at tokens)) (drop at tokens) h)

-- a body that ends
ended_here : {A : Type 0} (ends : Terminal → Bool) (item : A) (tokens : List Token) (at : ℕ) → ends (head (drop at tokens)) ≡ true → ended ends item (drop at tokens) ≡ Some (item, drop (at + 1) tokens)
ended_here ends item tokens at h = ap (λ b. cond b (Some (item, tail (drop at tokens))) None) h ∙ ap (λ rest. Some (item, rest)) (tail_drop tokens at)

-- a body that does not
ended_not : {A : Type 0} (ends : Terminal → Bool) (item : A) (tokens : List Token) (at : ℕ) → ends (head (drop at tokens)) ≡ false → ended ends item (drop at tokens) ≡ None
ended_not ends item tokens at h = ap (λ b. cond b (Some (item, tail (drop at tokens))) None) h

-- behind the `==>`
guarded_with : (tokens : List Token) (string : Option Text) (place : Span) (guard : Expr) (at : ℕ) (r : Read RuleDecl) → t.Then ≡ head (drop at tokens) → Eventually (λ k. after (λ body rest. ended ends_rule (Rule string (Some guard) [] body place) rest) (stmts k 1 (drop (at + 1) tokens))) r → Eventually (λ k. guarded (stmts k 1) string place guard (drop at tokens)) r
guarded_with tokens string place guard at r here h =
    same_turns _ _ r
    (λ k. ap (λ s. guarded_by (stmts k 1) string place guard s (drop at tokens)) (sym here)
    ∙ ap (λ rest. after (λ body rest'. ended ends_rule (Rule string (Some guard) [] body place) rest') (stmts k 1 rest)) (tail_drop tokens at)) h

pub guarded_stop : (tokens : List Token) (string : Option Text) (place : Span) (guard : Expr) (at : ℕ) (p q : Span) → t.Then ≡ head (drop at tokens) → AreStmts 1 tokens (at + 1) (one.Stop p) → IsGuarded tokens string place guard at (one.Stop q)
unfolding IsGuarded AreStmts
guarded_stop tokens string place guard at p q here h =
    guarded_with tokens string place guard at None here (goes_nowhere (λ k. stmts k 1 (drop (at + 1) tokens)) (λ k body rest. ended ends_rule (Rule string (Some guard) [] body place) rest) h)

pub guarded_goes : (tokens : List Token) (string : Option Text) (place : Span) (guard : Expr) (at : ℕ) (body : List Stmt) (next : ℕ) → t.Then ≡ head (drop at tokens) → AreStmts 1 tokens (at + 1) (one.Got body next) → ends_rule (head (drop next tokens)) ≡ true → IsGuarded tokens string place guard at (one.Got (Rule string (Some guard) [] body place) (next + 1))
unfolding IsGuarded AreStmts
guarded_goes tokens string place guard at body next here h end =
    guarded_with tokens string place guard at _ here
    (goes_on (λ k. stmts k 1 (drop (at + 1) tokens)) (λ k body rest. ended ends_rule (Rule string (Some guard) [] body place) rest) body (drop next tokens) _ h
    (always _ _ (λ k. ended_here ends_rule (Rule string (Some guard) [] body place) tokens next end)))

pub guarded_open : (tokens : List Token) (string : Option Text) (place : Span) (guard : Expr) (at : ℕ) (body : List Stmt) (next : ℕ) (p : Span) → t.Then ≡ head (drop at tokens) → AreStmts 1 tokens (at + 1) (one.Got body next) → ends_rule (head (drop next tokens)) ≡ false → IsGuarded tokens string place guard at (one.Stop p)
unfolding IsGuarded AreStmts
guarded_open tokens string place guard at body next p here h end =
    guarded_with tokens string place guard at None here
    (goes_on (λ k. stmts k 1 (drop (at + 1) tokens)) (λ k body rest. ended ends_rule (Rule string (Some guard) [] body place) rest) body (drop next tokens) None h
    (always _ None (λ k. ended_not ends_rule (Rule string (Some guard) [] body place) tokens next end)))

-- rules

-- a rule, with its title in view
rule_with : (tokens : List Token) (place : Span) (at : ℕ) (string : Option Text) (next : ℕ) (r : Read RuleDecl) → IsTitle tokens at string next → Eventually (λ k. after (guarded (stmts k 1) string place) (read k Implication 1 (drop next tokens))) r → Eventually (λ k. rule k place (drop at tokens)) r
unfolding IsTitle
rule_with tokens place at string next r (is, behind) h =
    same_turns _ _ r (λ k. ap (λ s. after (guarded (stmts k 1) s place) (read k Implication 1 (behind_title (drop at tokens)))) is
    ∙ ap (λ rest. after (guarded (stmts k 1) string place) (read k Implication 1 rest)) behind) h

pub rule_stop : (tokens : List Token) (place : Span) (at : ℕ) (string : Option Text) (next : ℕ) (p q : Span) → IsTitle tokens at string next → IsExpr Implication 1 tokens next (expr.Stop p) → IsItem t.Rule tokens place at (one.Stop q)
unfolding IsItem IsExpr IsRead
rule_stop tokens place at string next p q titled h =
    rule_with tokens place at string next None titled (goes_nowhere (λ k. read k Implication 1 (drop next tokens)) (λ k. guarded (stmts k 1) string place) h)

pub rule_goes : (tokens : List Token) (place : Span) (at : ℕ) (string : Option Text) (next : ℕ) (guard : Expr) (behind : ℕ) (answer : ReadOf RuleDecl) → IsTitle tokens at string next → IsExpr Implication 1 tokens next (expr.Got guard behind) → IsGuarded tokens string place guard behind answer → IsItem t.Rule tokens place at answer
unfolding IsItem IsExpr IsRead IsGuarded
rule_goes tokens place at string next guard behind answer titled h g =
    rule_with tokens place at string next _ titled (goes_on (λ k. read k Implication 1 (drop next tokens)) (λ k. guarded (stmts k 1) string place) guard (drop behind tokens) _ h g)

-- start states

start_with : (tokens : List Token) (place : Span) (at : ℕ) (string : Option Text) (next : ℕ) (r : Read RuleDecl) → IsTitle tokens at string next → Eventually (λ k. after (λ body rest. ended ends_start (Start string [] body place) rest) (stmts k 1 (drop next tokens))) r → Eventually (λ k. start k place (drop at tokens)) r
unfolding IsTitle
start_with tokens place at string next r (is, behind) h =
    same_turns _ _ r (λ k. ap (λ s. after (λ body rest. ended ends_start (Start s [] body place) rest) (stmts k 1 (behind_title (drop at tokens)))) is
    ∙ ap (λ rest. after (λ body rest'. ended ends_start (Start string [] body place) rest') (stmts k 1 rest)) behind) h

pub start_stop : (tokens : List Token) (place : Span) (at : ℕ) (string : Option Text) (next : ℕ) (p q : Span) → IsTitle tokens at string next → AreStmts 1 tokens next (one.Stop p) → IsItem t.StartState tokens place at (one.Stop q)
unfolding IsItem AreStmts
start_stop tokens place at string next p q titled h =
    start_with tokens place at string next None titled (goes_nowhere (λ k. stmts k 1 (drop next tokens)) (λ k body rest. ended ends_start (Start string [] body place) rest) h)

pub start_goes : (tokens : List Token) (place : Span) (at : ℕ) (string : Option Text) (next : ℕ) (body : List Stmt) (behind : ℕ) → IsTitle tokens at string next → AreStmts 1 tokens next (one.Got body behind) → ends_start (head (drop behind tokens)) ≡ true → IsItem t.StartState tokens place at (one.Got (Start string [] body place) (behind + 1))
unfolding IsItem AreStmts
start_goes tokens place at string next body behind titled h end =
    start_with tokens place at string next _ titled
    (goes_on (λ k. stmts k 1 (drop next tokens)) (λ k body rest. ended ends_start (Start string [] body place) rest) body (drop behind tokens) _ h
    (always _ _ (λ k. ended_here ends_start (Start string [] body place) tokens behind end)))

pub start_open : (tokens : List Token) (place : Span) (at : ℕ) (string : Option Text) (next : ℕ) (body : List Stmt) (behind : ℕ) (p : Span) → IsTitle tokens at string next → AreStmts 1 tokens next (one.Got body behind) → ends_start (head (drop behind tokens)) ≡ false → IsItem t.StartState tokens place at (one.Stop p)
unfolding IsItem AreStmts
start_open tokens place at string next body behind p titled h end =
    start_with tokens place at string next None titled
    (goes_on (λ k. stmts k 1 (drop next tokens)) (λ k body rest. ended ends_start (Start string [] body place) rest) body (drop behind tokens) None h
    (always _ None (λ k. ended_not ends_start (Start string [] body place) tokens behind end)))

-- invariants

invariant_with : (tokens : List Token) (place : Span) (at : ℕ) (string : Option Text) (next : ℕ) (r : Read RuleDecl) → IsTitle tokens at string next → Eventually (λ k. after (λ claim rest. Some (Invariant string claim place, rest)) (read k Implication 1 (drop next tokens))) r → Eventually (λ k. invariant k place (drop at tokens)) r
unfolding IsTitle
invariant_with tokens place at string next r (is, behind) h =
    same_turns _ _ r (λ k. ap (λ s. after (λ claim rest. Some (Invariant s claim place, rest)) (read k Implication 1 (behind_title (drop at tokens)))) is
    ∙ ap (λ rest. after (λ claim rest'. Some (Invariant string claim place, rest')) (read k Implication 1 rest)) behind) h

pub invariant_stop : (tokens : List Token) (place : Span) (at : ℕ) (string : Option Text) (next : ℕ) (p q : Span) → IsTitle tokens at string next → IsExpr Implication 1 tokens next (expr.Stop p) → IsItem t.Invariant tokens place at (one.Stop q)
unfolding IsItem IsExpr IsRead
invariant_stop tokens place at string next p q titled h =
    invariant_with tokens place at string next None titled (goes_nowhere (λ k. read k Implication 1 (drop next tokens)) (λ k claim rest. Some (Invariant string claim place, rest)) h)

pub invariant_goes : (tokens : List Token) (place : Span) (at : ℕ) (string : Option Text) (next : ℕ) (claim : Expr) (behind : ℕ) → IsTitle tokens at string next → IsExpr Implication 1 tokens next (expr.Got claim behind) → IsItem t.Invariant tokens place at (one.Got (Invariant string claim place) behind)
unfolding IsItem IsExpr IsRead
invariant_goes tokens place at string next claim behind titled h =
    invariant_with tokens place at string next _ titled
    (goes_on (λ k. read k Implication 1 (drop next tokens)) (λ k claim rest. Some (Invariant string claim place, rest)) claim (drop behind tokens) _ h (always _ _ (λ k. refl)))

-- items

items_here : (tokens : List Token) (at : ℕ) (token : Token) (symbol : Terminal) (r : Read (List RuleDecl)) → slice_get tokens at ≡ Some token → symbol ≡ terminal_of token → Eventually (λ k. items_by (items k) k symbol token (drop (at + 1) tokens)) r → Eventually (λ k. items k (drop at tokens)) r
unfolding items
items_here tokens at token symbol r here is h =
    one_more_turn (λ k. items k (drop at tokens)) (λ k. items_by (items k) k symbol token (drop (at + 1) tokens)) r
    (λ k. ap (items_at (items k) k) (drop_some tokens at token here)
    ∙ ap (λ s. items_by (items k) k s token (drop (at + 1) tokens)) (sym is)) h

pub item_skip : (tokens : List Token) (at : ℕ) (token : Token) (old : List RuleDecl) → slice_get tokens at ≡ Some token → t.Semicolon ≡ terminal_of token → ItemStep tokens at old old (More (at + 1))
unfolding ItemStep
item_skip tokens at token old here is = over items tokens at (at + 1) old (λ r h. items_here tokens at token t.Semicolon r here is h)

-- an item that one of the three words begins
item_one : (symbol : Terminal) (tokens : List Token) (at : ℕ) (token : Token) (answer : ReadOf RuleDecl) (old new : List RuleDecl) (step : Step) → ((more : List Token → Read (List RuleDecl)) (k : ℕ) (rest : List Token) → items_by more k symbol token rest ≡ after (one_then more) (item_by k symbol token.at rest)) → slice_get tokens at ≡ Some token → symbol ≡ terminal_of token → IsItem symbol tokens token.at (at + 1) answer → TakesOne tokens answer old new step → ItemStep tokens at old new step
unfolding ItemStep IsItem
item_one symbol tokens at token answer old new step begins here is h takes =
    takes_one items (λ k. item_by k symbol token.at (drop (at + 1) tokens)) tokens at answer old new step
    (λ r rest. items_here tokens at token symbol r here is (same_turns _ _ r (λ k. begins (items k) k (drop (at + 1) tokens)) rest)) h takes

pub item_rule : (tokens : List Token) (at : ℕ) (token : Token) (answer : ReadOf RuleDecl) (old new : List RuleDecl) (step : Step) → slice_get tokens at ≡ Some token → t.Rule ≡ terminal_of token → IsItem t.Rule tokens token.at (at + 1) answer → TakesOne tokens answer old new step → ItemStep tokens at old new step
item_rule tokens at token answer old new step = item_one t.Rule tokens at token answer old new step (λ more k rest. refl)

pub item_start : (tokens : List Token) (at : ℕ) (token : Token) (answer : ReadOf RuleDecl) (old new : List RuleDecl) (step : Step) → slice_get tokens at ≡ Some token → t.StartState ≡ terminal_of token → IsItem t.StartState tokens token.at (at + 1) answer → TakesOne tokens answer old new step → ItemStep tokens at old new step
item_start tokens at token answer old new step = item_one t.StartState tokens at token answer old new step (λ more k rest. refl)

pub item_invariant : (tokens : List Token) (at : ℕ) (token : Token) (answer : ReadOf RuleDecl) (old new : List RuleDecl) (step : Step) → slice_get tokens at ≡ Some token → t.Invariant ≡ terminal_of token → IsItem t.Invariant tokens token.at (at + 1) answer → TakesOne tokens answer old new step → ItemStep tokens at old new step
item_invariant tokens at token answer old new step = item_one t.Invariant tokens at token answer old new step (λ more k rest. refl)

items_by_not : (more : List Token → Read (List RuleDecl)) (k : ℕ) (symbol : Terminal) (token : Token) (rest : List Token) → (symbol ≡ t.Semicolon → ⊥) → (symbol ≡ t.Rule → ⊥) → (symbol ≡ t.StartState → ⊥) → (symbol ≡ t.Invariant → ⊥) → items_by more k symbol token rest ≡ Some ([], token ∷ rest)
items_by_not more k t.Semicolon token rest a b c d = absurd (a refl)
items_by_not more k t.Rule token rest a b c d = absurd (b refl)
items_by_not more k t.StartState token rest a b c d = absurd (c refl)
items_by_not more k t.Invariant token rest a b c d = absurd (d refl)
items_by_not more k _ token rest a b c d = refl

pub item_end : (tokens : List Token) (at : ℕ) (token : Token) (old : List RuleDecl) → slice_get tokens at ≡ Some token → (terminal_of token ≡ t.Semicolon → ⊥) → (terminal_of token ≡ t.Rule → ⊥) → (terminal_of token ≡ t.StartState → ⊥) → (terminal_of token ≡ t.Invariant → ⊥) → ItemStep tokens at old old (End at)
unfolding ItemStep
item_end tokens at token old here a b c d =
    at_end items tokens at at old
    (items_here tokens at token (terminal_of token) _ here refl
    (always _ _ (λ k. items_by_not (items k) k (terminal_of token) token (drop (at + 1) tokens) a b c d ∙ ap (λ rest. Some ([], rest)) (sym (drop_some tokens at token here)))))

pub item_none : (tokens : List Token) (at : ℕ) (old : List RuleDecl) → slice_get tokens at ≡ None → ItemStep tokens at old old (End at)
unfolding ItemStep items
item_none tokens at old here =
    at_end items tokens at at old
    (one_more_turn (λ k. items k (drop at tokens)) (λ k. Some ([], drop at tokens)) _
    (λ k. ap (items_at (items k) k) (drop_none tokens at here) ∙ ap (λ rest. Some ([], rest)) (sym (drop_none tokens at here)))
    (always _ _ (λ k. refl)))

pub items_begin : (tokens : List Token) (at : ℕ) → ItemsSoFar tokens at at []
unfolding ItemsSoFar
items_begin tokens at = begins items tokens at

pub items_more : (tokens : List Token) (from at : ℕ) (old new : List RuleDecl) (next : ℕ) → ItemsSoFar tokens from at old → ItemStep tokens at old new (More next) → ItemsSoFar tokens from next new
unfolding ItemsSoFar ItemStep
items_more tokens from at old new next before step = step from before

pub items_ended : (tokens : List Token) (from at : ℕ) (old new : List RuleDecl) (next : ℕ) → ItemsSoFar tokens from at old → ItemStep tokens at old new (End next) → AreItems tokens from (one.Got new next)
unfolding ItemsSoFar ItemStep AreItems
items_ended tokens from at old new next before step = step from before

pub items_stopped : (tokens : List Token) (from at : ℕ) (old new : List RuleDecl) (p q : Span) → ItemsSoFar tokens from at old → ItemStep tokens at old new (Stop p) → AreItems tokens from (one.Stop q)
unfolding ItemsSoFar ItemStep AreItems
items_stopped tokens from at old new p q before step = step from before

pub ruleset title_arms = (title_quoted, title_other, title_none)

pub ruleset item_arms = (guarded_not, guarded_stop, guarded_goes, guarded_open, rule_stop, rule_goes, start_stop, start_goes, start_open, invariant_stop, invariant_goes, item_skip, item_rule, item_start, item_invariant, item_end, item_none, items_begin, items_more, items_ended, items_stopped)
