-- What the functions that read lists answer: they take one step after another, each of which goes over
-- something, or ends the list, or stops.
use Rattle.std.specs.Prelude.{◌≡◌, ℕ, ◌+◌, ◌<◌, ◌≤◌, List, [], ◌∷◌, ◌++◌, Option, None, Some, drop}
use Rattle.murphi_ast.specs.declared.text.Text.{Text}
use Rattle.murphi_ast.specs.declared.token.Span.{Span}
use Rattle.murphi_ast.specs.declared.token.Token.{Token}
use Rattle.murphi_ast.specs.declared.terminal.Terminal.{Terminal}
use Rattle.murphi_ast.specs.declared.terminal.Terminal.TheVariants as t
use Rattle.murphi_ast.specs.declared.expr.Named.{Named}
use Rattle.murphi_ast.specs.declared.expr.Expr.{Expr}
use Rattle.murphi_ast.specs.declared.stmt.Stmt.{Stmt}
use Rattle.murphi_ast.specs.declared.decl.Decl.{Decl}
use Rattle.murphi_ast.specs.declared.rule.RuleDecl.{RuleDecl}
use Rattle.murphi_ast.specs.Grammar.{Implication}
use Rattle.murphi_syntax.specs.Reading.{Read, Eventually, SoFar, head, read}
use Rattle.murphi_syntax.specs.Protocols.{assigned, stmts, title, behind_title, guarded, item_by, items, names, typed, boolean_at, closed_decl, declared, decls}
use Rattle.murphi_syntax.specs.declared.step.ReadOf.{ReadOf}
use Rattle.murphi_syntax.specs.declared.step.ReadOf.TheVariants as one
use Rattle.murphi_syntax.specs.declared.step.Step.{Step}
use Rattle.murphi_syntax.specs.declared.step.Step.TheVariants.{More, End, Stop}

abbrev pub read_of : {A : Type 0} → List Token → ReadOf A → Read A
read_of tokens (one.Got tree next) = Some (tree, drop next tokens)
read_of tokens (one.Stop place) = None

-- the index behind what was read from an index
abbrev pub reached : {A : Type 0} → ℕ → ReadOf A → ℕ
reached at (one.Got tree next) = next
reached at (one.Stop place) = at

-- what was read takes a token at least
abbrev pub IsBeyond : {A : Type 0} → ℕ → ReadOf A → Type 0
IsBeyond at (one.Got tree next) = at < next
IsBeyond at (one.Stop place) = Unit {0}

abbrev pub step_reached : ℕ → Step → ℕ
step_reached at (More next) = next
step_reached at (End next) = next
step_reached at (Stop place) = at

-- a step that goes on goes forward, and one that ends does not go back
abbrev pub IsFurther : ℕ → Step → Type 0
IsFurther at (More next) = at < next
IsFurther at (End next) = at ≤ next
IsFurther at (Stop place) = Unit {0}

-- what is read from an index on is, by a reader, this answer
abbrev pub Answers : {A : Type 0} → (ℕ → List Token → Read A) → List Token → ℕ → ReadOf A → Type 0
Answers f tokens at answer = Eventually (λ k. f k (drop at tokens)) (read_of tokens answer)

-- one step of reading a list, from an index on, with what was read before it and with it
abbrev pub Continues : {A : Type 0} → (ℕ → List Token → Read (List A)) → List Token → ℕ → List A → List A → Step → Type 0
Continues f tokens at old new (More next) = (from : ℕ) → SoFar f tokens from at old → SoFar f tokens from next new
Continues f tokens at old new (End next) =
    (from : ℕ) → SoFar f tokens from at old → Eventually (λ k. f k (drop from tokens)) (Some (new, drop next tokens))
Continues f tokens at old new (Stop place) = (from : ℕ) → SoFar f tokens from at old → Eventually (λ k. f k (drop from tokens)) None

-- behind one of a list: over a semicolon, or at the end
abbrev pub IsBehind : List Token → ℕ → Step → Type 0
IsBehind tokens at (More next) = (t.Semicolon ≡ head (drop at tokens)) × (next ≡ at + 1)
IsBehind tokens at (End next) = (head (drop at tokens) ≡ t.Semicolon → ⊥) × (next ≡ at)
IsBehind tokens at (Stop place) = ⊥

-- the list gains what was read, and the step goes on behind it
abbrev pub TakesOne : {A : Type 0} → List Token → ReadOf A → List A → List A → Step → Type 0
TakesOne tokens (one.Got tree next) old new step = (new ≡ old ++ tree ∷ []) × IsBehind tokens next step
TakesOne tokens (one.Stop place) old new (Stop other) = Unit {0}
TakesOne tokens (one.Stop place) old new _ = ⊥

unfoldable pub IsAssigned : ℕ → List Token → Token → ℕ → ReadOf Stmt → Type 0
IsAssigned n tokens token at answer = Answers (λ k. assigned (read k Implication n) token) tokens at answer

unfoldable pub AreStmts : ℕ → List Token → ℕ → ReadOf (List Stmt) → Type 0
AreStmts n tokens at answer = Answers (λ k. stmts k n) tokens at answer

unfoldable pub StmtsSoFar : ℕ → List Token → ℕ → ℕ → List Stmt → Type 0
StmtsSoFar n tokens from at front = SoFar (λ k. stmts k n) tokens from at front

unfoldable pub StmtStep : ℕ → List Token → ℕ → List Stmt → List Stmt → Step → Type 0
StmtStep n tokens at old new step = Continues (λ k. stmts k n) tokens at old new step

-- the title that stands at an index, if one does, and the index behind it
unfoldable pub IsTitle : List Token → ℕ → Option Text → ℕ → Type 0
IsTitle tokens at string next = (title (drop at tokens) ≡ string) × (behind_title (drop at tokens) ≡ drop next tokens)

unfoldable pub IsGuarded : List Token → Option Text → Span → Expr → ℕ → ReadOf RuleDecl → Type 0
IsGuarded tokens string place guard at answer = Answers (λ k. guarded (stmts k 1) string place guard) tokens at answer

-- what is read behind this word of an item that stands at a place
unfoldable pub IsItem : Terminal → List Token → Span → ℕ → ReadOf RuleDecl → Type 0
IsItem symbol tokens place at answer = Answers (λ k. item_by k symbol place) tokens at answer

unfoldable pub AreItems : List Token → ℕ → ReadOf (List RuleDecl) → Type 0
AreItems tokens at answer = Answers items tokens at answer

unfoldable pub ItemsSoFar : List Token → ℕ → ℕ → List RuleDecl → Type 0
ItemsSoFar tokens from at front = SoFar items tokens from at front

unfoldable pub ItemStep : List Token → ℕ → List RuleDecl → List RuleDecl → Step → Type 0
ItemStep tokens at old new step = Continues items tokens at old new step

unfoldable pub AreNames : List Token → ℕ → ReadOf (List Named) → Type 0
AreNames tokens at answer = Answers names tokens at answer

unfoldable pub NamesSoFar : List Token → ℕ → ℕ → List Named → Type 0
NamesSoFar tokens from at front = SoFar names tokens from at front

unfoldable pub NameStep : List Token → ℕ → List Named → List Named → Step → Type 0
NameStep tokens at old new step = Continues names tokens at old new step

unfoldable pub IsTyped : List Token → List Named → ℕ → ReadOf Decl → Type 0
IsTyped tokens declared at answer = Answers (λ k. typed declared) tokens at answer

unfoldable pub IsBoolean : List Token → List Named → ℕ → ReadOf Decl → Type 0
IsBoolean tokens declared at answer = Answers (λ k. boolean_at declared) tokens at answer

unfoldable pub IsClosedDecl : List Token → List Named → Span → ℕ → ReadOf Decl → Type 0
IsClosedDecl tokens declared place at answer = Answers (λ k. closed_decl declared place) tokens at answer

unfoldable pub AreDeclared : List Token → ℕ → ReadOf (List Decl) → Type 0
AreDeclared tokens at answer = Answers declared tokens at answer

-- what is read as the declarations of a protocol
unfoldable pub AreDecls : List Token → ℕ → ReadOf (List Decl) → Type 0
AreDecls tokens at answer = Answers decls tokens at answer

unfoldable pub DeclaredSoFar : List Token → ℕ → ℕ → List Decl → Type 0
DeclaredSoFar tokens from at front = SoFar declared tokens from at front

unfoldable pub DeclStep : List Token → ℕ → List Decl → List Decl → Step → Type 0
DeclStep tokens at old new step = Continues declared tokens at old new step
