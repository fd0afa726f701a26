-- Reading statements, items, declarations and protocols, computed in turns as expressions are.
use Rattle.std.specs.Prelude.{ℕ, zero, suc, Bool, true, false, List, [], ◌∷◌, Option, None, Some, if◌then◌else◌}
use Rattle.murphi_ast.specs.declared.text.Text.{Text}
use Rattle.murphi_ast.specs.declared.token.Span.{Span}
use Rattle.murphi_ast.specs.declared.token.Token.{Token}
use Rattle.murphi_ast.specs.declared.terminal.Terminal.{Terminal}
use Rattle.murphi_ast.specs.declared.terminal.Terminal.TheVariants as t
use Rattle.murphi_ast.specs.declared.expr.Named.{Named}
use Rattle.murphi_ast.specs.declared.expr.Expr.{Expr}
use Rattle.murphi_ast.specs.declared.expr.TypeExpr as type
use Rattle.murphi_ast.specs.declared.stmt.Stmt.{Stmt, Assign}
use Rattle.murphi_ast.specs.declared.decl.Decl.{Decl, Variables}
use Rattle.murphi_ast.specs.declared.rule.RuleDecl.{RuleDecl, Rule, Start, Invariant}
use Rattle.murphi_ast.specs.declared.rule.Protocol.{Protocol}
use Rattle.murphi_ast.specs.Terminal.{terminal_of}
use Rattle.murphi_ast.specs.Grammar.{named, variable, Implication}
use Rattle.murphi_syntax.specs.Reading.{Read, Eventually, after, with_front, head, tail, read}

-- behind one of a list: a semicolon and more of it, or its end
abbrev pub one_by : {A : Type 0} → (List Token → Read (List A)) → A → Terminal → List Token → Read (List A)
one_by more one t.Semicolon rest = with_front (one ∷ []) (more (tail rest))
one_by more one _ rest = Some (one ∷ [], rest)

abbrev pub one_then : {A : Type 0} → (List Token → Read (List A)) → A → List Token → Read (List A)
one_then more one rest = one_by more one (head rest) rest

-- statements

-- behind the name that is assigned to
abbrev pub assigned_by : (List Token → Read Expr) → Token → Terminal → List Token → Read Stmt
assigned_by value token t.Becomes rest = after (λ v rest'. Some (Assign (variable token) v, rest')) (value (tail rest))
assigned_by value token _ rest = None

abbrev pub assigned : (List Token → Read Expr) → Token → List Token → Read Stmt
assigned value token rest = assigned_by value token (head rest) rest

-- statements, where the first token is this one
abbrev pub stmts_by : (List Token → Read (List Stmt)) → (List Token → Read Expr) → Terminal → Token → List Token → Read (List Stmt)
stmts_by more value t.Semicolon token rest = more rest
stmts_by more value t.Name token rest = after (one_then more) (assigned value token rest)
stmts_by more value _ token rest = Some ([], token ∷ rest)

abbrev pub stmts_at : (List Token → Read (List Stmt)) → (List Token → Read Expr) → List Token → Read (List Stmt)
stmts_at more value [] = Some ([], [])
stmts_at more value (token ∷ rest) = stmts_by more value (terminal_of token) token rest

-- statements, where so many forms are open
unfoldable pub stmts : ℕ → ℕ → List Token → Read (List Stmt)
stmts zero n tokens = None
stmts (suc k) n tokens = stmts_at (stmts k n) (read k Implication n) tokens

-- items

-- the title that stands first, if one does, and the tokens behind it
abbrev pub title_by : Terminal → Token → Option Text
title_by t.Quoted token = Some token.text
title_by _ token = None

abbrev pub title : List Token → Option Text
title [] = None
title (token ∷ rest) = title_by (terminal_of token) token

abbrev pub behind_title_by : Terminal → Token → List Token → List Token
behind_title_by t.Quoted token rest = rest
behind_title_by _ token rest = token ∷ rest

abbrev pub behind_title : List Token → List Token
behind_title [] = []
behind_title (token ∷ rest) = behind_title_by (terminal_of token) token rest

-- whether a symbol ends a rule, and whether it ends a start state
abbrev pub ends_rule : Terminal → Bool
ends_rule t.End = true
ends_rule t.EndRule = true
ends_rule _ = false

abbrev pub ends_start : Terminal → Bool
ends_start t.End = true
ends_start t.EndStartState = true
ends_start _ = false

-- a body that ends where the test says so
abbrev pub ended : {A : Type 0} → (Terminal → Bool) → A → List Token → Read A
ended ends item rest = if ends (head rest) then Some (item, tail rest) else None

-- behind the guard of a rule
abbrev pub guarded_by : (List Token → Read (List Stmt)) → Option Text → Span → Expr → Terminal → List Token → Read RuleDecl
guarded_by body string at guard t.Then rest =
    after (λ stmts rest'. ended ends_rule (Rule string (Some guard) [] stmts at) rest') (body (tail rest))
guarded_by body string at guard _ rest = None

abbrev pub guarded : (List Token → Read (List Stmt)) → Option Text → Span → Expr → List Token → Read RuleDecl
guarded body string at guard rest = guarded_by body string at guard (head rest) rest

-- behind the word of an item that stands at a place
abbrev pub rule : ℕ → Span → List Token → Read RuleDecl
rule k at rest = after (guarded (stmts k 1) (title rest) at) (read k Implication 1 (behind_title rest))

abbrev pub start : ℕ → Span → List Token → Read RuleDecl
start k at rest = after (λ stmts rest'. ended ends_start (Start (title rest) [] stmts at) rest') (stmts k 1 (behind_title rest))

abbrev pub invariant : ℕ → Span → List Token → Read RuleDecl
invariant k at rest = after (λ claim rest'. Some (Invariant (title rest) claim at, rest')) (read k Implication 1 (behind_title rest))

-- whether a symbol is the word of an item
abbrev pub begins_item : Terminal → Bool
begins_item t.Rule = true
begins_item t.StartState = true
begins_item t.Invariant = true
begins_item _ = false

-- behind this word of an item
abbrev pub item_by : ℕ → Terminal → Span → List Token → Read RuleDecl
item_by k t.Rule at rest = rule k at rest
item_by k t.StartState at rest = start k at rest
item_by k t.Invariant at rest = invariant k at rest
item_by k _ at rest = None

-- items, where the first token is this one
abbrev pub items_by : (List Token → Read (List RuleDecl)) → ℕ → Terminal → Token → List Token → Read (List RuleDecl)
items_by more k t.Semicolon token rest = more rest
items_by more k symbol token rest =
    if begins_item symbol then after (one_then more) (item_by k symbol token.at rest) else Some ([], token ∷ rest)

abbrev pub items_at : (List Token → Read (List RuleDecl)) → ℕ → List Token → Read (List RuleDecl)
items_at more k [] = Some ([], [])
items_at more k (token ∷ rest) = items_by more k (terminal_of token) token rest

unfoldable pub items : ℕ → List Token → Read (List RuleDecl)
items zero tokens = None
items (suc k) tokens = items_at (items k) k tokens

-- declarations

-- behind a name of a list: a comma and more of them, or its end
abbrev pub named_by : (List Token → Read (List Named)) → Token → Terminal → List Token → Read (List Named)
named_by more token t.Comma rest = with_front (named token ∷ []) (more (tail rest))
named_by more token _ rest = Some (named token ∷ [], rest)

-- names, where the first token is this one
abbrev pub names_by : (List Token → Read (List Named)) → Terminal → Token → List Token → Read (List Named)
names_by more t.Name token rest = named_by more token (head rest) rest
names_by more _ token rest = None

abbrev pub names_at : (List Token → Read (List Named)) → List Token → Read (List Named)
names_at more [] = None
names_at more (token ∷ rest) = names_by more (terminal_of token) token rest

unfoldable pub names : ℕ → List Token → Read (List Named)
names zero tokens = None
names (suc k) tokens = names_at (names k) tokens

-- the `;` behind names and their type
abbrev pub closed_decl_by : List Named → Span → Terminal → List Token → Read Decl
closed_decl_by declared at t.Semicolon rest = Some (Variables declared (type.Truth at), rest)
closed_decl_by declared at _ rest = None

abbrev pub closed_decl : List Named → Span → List Token → Read Decl
closed_decl declared at rest = closed_decl_by declared at (head rest) (tail rest)

-- `boolean ;` behind names and a colon
abbrev pub boolean_by : List Named → Terminal → Token → List Token → Read Decl
boolean_by declared t.Boolean token rest = closed_decl declared token.at rest
boolean_by declared _ token rest = None

abbrev pub boolean_at : List Named → List Token → Read Decl
boolean_at declared [] = None
boolean_at declared (token ∷ rest) = boolean_by declared (terminal_of token) token rest

-- `: boolean ;` behind names
abbrev pub typed_by : List Named → Terminal → List Token → Read Decl
typed_by declared t.Colon rest = boolean_at declared rest
typed_by declared _ rest = None

abbrev pub typed : List Named → List Token → Read Decl
typed declared rest = typed_by declared (head rest) (tail rest)

-- declarations behind the first `var`, where the first token is this one
abbrev pub declared_by : (List Token → Read (List Decl)) → Read (List Named) → Terminal → Token → List Token → Read (List Decl)
declared_by more names t.Var token rest = more rest
declared_by more names t.Name token rest = after (λ decl rest'. with_front (decl ∷ []) (more rest')) (after typed names)
declared_by more names _ token rest = Some ([], token ∷ rest)

abbrev pub declared_at : (List Token → Read (List Decl)) → (List Token → Read (List Named)) → List Token → Read (List Decl)
declared_at more names [] = Some ([], [])
declared_at more names (token ∷ rest) = declared_by more (names (token ∷ rest)) (terminal_of token) token rest

-- what stands behind the first `var`
unfoldable pub declared : ℕ → List Token → Read (List Decl)
declared zero tokens = None
declared (suc k) tokens = declared_at (declared k) (names k) tokens

abbrev pub decls_by : ℕ → Terminal → List Token → Read (List Decl)
decls_by k t.Var tokens = declared k (tail tokens)
decls_by k _ tokens = Some ([], tokens)

abbrev pub decls : ℕ → List Token → Read (List Decl)
decls k tokens = decls_by k (head tokens) tokens

-- protocols

-- whether the last token of a text stands first, and nothing behind it
abbrev pub is_last : Terminal → List Token → Bool
is_last t.EndOfText [] = true
is_last _ _ = false

abbrev pub is_end : List Token → Bool
is_end [] = false
is_end (token ∷ rest) = is_last (terminal_of token) rest

-- what was read, if nothing but the end of the text follows
abbrev pub finished : Protocol → List Token → Option Protocol
finished p rest = if is_end rest then Some p else None

-- behind the declarations
abbrev pub with_items : List Decl → Read (List RuleDecl) → Option Protocol
with_items decls None = None
with_items decls (Some x) = finished (record { decls = decls; rules = x.0 }) x.1

abbrev pub protocol_of : (List Token → Read (List RuleDecl)) → Read (List Decl) → Option Protocol
protocol_of items None = None
protocol_of items (Some x) = with_items x.0 (items x.1)

abbrev pub protocol : ℕ → List Token → Option Protocol
protocol k tokens = protocol_of (items k) (decls k tokens)

-- the protocol that the tokens are read as
unfoldable pub IsProtocol : List Token → Option Protocol → Type 0
IsProtocol tokens answer = Eventually (λ k. protocol k tokens) answer
