-- One step of reading names and declarations, and the whole of a protocol.
use Rattle.std.proofs.Common.{◌≡◌, ℕ, ◌+◌, true, false, cond, List, [], ◌∷◌, ◌++◌, drop, Option, Some, None, refl, sym, ap, ◌∙◌, subst, arith}
use Rattle.std.specs.Prelude.{slice_get}
use Rattle.murphi_ast.specs.declared.token.Span.{Span}
use Rattle.murphi_ast.specs.declared.token.Token.{Token}
use Rattle.murphi_ast.specs.declared.terminal.Terminal.{Terminal}
use Rattle.murphi_ast.specs.declared.terminal.Terminal.TheVariants as t
use Rattle.murphi_ast.specs.declared.expr.Named.{Named}
use Rattle.murphi_ast.specs.declared.expr.TypeExpr as type
use Rattle.murphi_ast.specs.declared.decl.Decl.{Decl, Variables}
use Rattle.murphi_ast.specs.declared.rule.RuleDecl.{RuleDecl}
use Rattle.murphi_ast.specs.declared.rule.Protocol.{Protocol}
use Rattle.murphi_ast.specs.Terminal.{terminal_of}
use Rattle.murphi_ast.specs.Grammar.{named}
use Rattle.murphi_syntax.specs.Reading.{Read, Eventually, after, with_front, head, tail}
use Rattle.murphi_syntax.specs.Protocols.{named_by, names_by, names_at, names, closed_decl_by, boolean_by, boolean_at, typed_by, typed, declared_by, declared_at, declared, decls_by, items, is_end, finished, with_items, protocol_of, IsProtocol}
use Rattle.murphi_syntax.specs.Steps.{AreNames, NamesSoFar, NameStep, IsTyped, IsBoolean, IsClosedDecl, AreDeclared, DeclaredSoFar, DeclStep, AreDecls, AreItems}
use Rattle.murphi_syntax.specs.declared.step.ReadOf.{ReadOf}
use Rattle.murphi_syntax.specs.declared.step.ReadOf.TheVariants as one
use Rattle.murphi_syntax.specs.declared.step.Step.TheVariants.{More, End, Stop}
use Rattle.murphi_syntax.proofs.Turns.{always, one_more_turn, goes_on, goes_nowhere, same_turns}
use Rattle.murphi_syntax.proofs.SoFar.{begins, takes, ends_with, with_one}
use Rattle.murphi_syntax.proofs.ListArms.{over, at_end}
use Rattle.murphi_syntax.proofs.Places.{drop_some, drop_none, tail_drop}

-- names

names_here : (tokens : List Token) (at : ℕ) (token : Token) (symbol : Terminal) (r : Read (List Named)) → slice_get tokens at ≡ Some token → symbol ≡ terminal_of token → Eventually (λ k. names_by (names k) symbol token (drop (at + 1) tokens)) r → Eventually (λ k. names k (drop at tokens)) r
unfolding names
names_here tokens at token symbol r here is h =
    one_more_turn (λ k. names k (drop at tokens)) (λ k. names_by (names k) symbol token (drop (at + 1) tokens)) r
    (λ k. ap (names_at (names k)) (drop_some tokens at token here)
    ∙ ap (λ s. names_by (names k) s token (drop (at + 1) tokens)) (sym is)) h

pub name_comma : (tokens : List Token) (at : ℕ) (token : Token) (old : List Named) → slice_get tokens at ≡ Some token → t.Name ≡ terminal_of token → t.Comma ≡ head (drop (at + 1) tokens) → NameStep tokens at old (old ++ named token ∷ []) (More (at + 1 + 1))
unfolding NameStep
name_comma tokens at token old here is comma = λ from before.
    takes names tokens from at (at + 1 + 1) old (named token) before
    (λ r rest. names_here tokens at token t.Name _ here is
    (same_turns _ (λ k. with_front (named token ∷ []) (names k (drop (at + 1 + 1) tokens))) _
    (λ k. ap (λ s. named_by (names k) token s (drop (at + 1) tokens)) (sym comma) ∙ ap (λ rest. with_front (named token ∷ []) (names k rest)) (tail_drop tokens (at + 1)))
    (with_one (λ k. names k (drop (at + 1 + 1) tokens)) (named token) r rest)))

named_by_not : (more : List Token → Read (List Named)) (token : Token) (symbol : Terminal) (rest : List Token) → (symbol ≡ t.Comma → ⊥) → named_by more token symbol rest ≡ Some (named token ∷ [], rest)
named_by_not more token t.Comma rest h = absurd (h refl)
named_by_not more token _ rest h = refl

pub name_last : (tokens : List Token) (at : ℕ) (token : Token) (old : List Named) → slice_get tokens at ≡ Some token → t.Name ≡ terminal_of token → (head (drop (at + 1) tokens) ≡ t.Comma → ⊥) → NameStep tokens at old (old ++ named token ∷ []) (End (at + 1))
unfolding NameStep
name_last tokens at token old here is h = λ from before.
    ends_with names tokens from at (at + 1) old (named token) before
    (names_here tokens at token t.Name _ here is (always _ _ (λ k. named_by_not (names k) token (head (drop (at + 1) tokens)) (drop (at + 1) tokens) h)))

names_by_not : (more : List Token → Read (List Named)) (symbol : Terminal) (token : Token) (rest : List Token) → (symbol ≡ t.Name → ⊥) → names_by more symbol token rest ≡ None
names_by_not more t.Name token rest h = absurd (h refl)
names_by_not more _ token rest h = refl

pub name_other : (tokens : List Token) (at : ℕ) (token : Token) (old new : List Named) (p : Span) → slice_get tokens at ≡ Some token → (terminal_of token ≡ t.Name → ⊥) → NameStep tokens at old new (Stop p)
unfolding NameStep
name_other tokens at token old new p here h = λ from before.
    before None (names_here tokens at token (terminal_of token) None here refl (always _ None (λ k. names_by_not (names k) (terminal_of token) token (drop (at + 1) tokens) h)))

pub name_none : (tokens : List Token) (at : ℕ) (old new : List Named) (p : Span) → slice_get tokens at ≡ None → NameStep tokens at old new (Stop p)
unfolding NameStep names
name_none tokens at old new p here = λ from before.
    before None (one_more_turn (λ k. names k (drop at tokens)) (λ k. None) None (λ k. ap (names_at (names k)) (drop_none tokens at here)) (always (λ k. None) None (λ k. refl)))

pub names_begin : (tokens : List Token) (at : ℕ) → NamesSoFar tokens at at []
unfolding NamesSoFar
names_begin tokens at = begins names tokens at

pub names_more : (tokens : List Token) (from at : ℕ) (old new : List Named) (next : ℕ) → NamesSoFar tokens from at old → NameStep tokens at old new (More next) → NamesSoFar tokens from next new
unfolding NamesSoFar NameStep
names_more tokens from at old new next before step = step from before

pub names_ended : (tokens : List Token) (from at : ℕ) (old new : List Named) (next : ℕ) → NamesSoFar tokens from at old → NameStep tokens at old new (End next) → AreNames tokens from (one.Got new next)
unfolding NamesSoFar NameStep AreNames
names_ended tokens from at old new next before step = step from before

pub names_stopped : (tokens : List Token) (from at : ℕ) (old new : List Named) (p q : Span) → NamesSoFar tokens from at old → NameStep tokens at old new (Stop p) → AreNames tokens from (one.Stop q)
unfolding NamesSoFar NameStep AreNames
names_stopped tokens from at old new p q before step = step from before

-- `: boolean ;`

closed_decl_by_not : (declared : List Named) (place : Span) (symbol : Terminal) (rest : List Token) → (symbol ≡ t.Semicolon → ⊥) → closed_decl_by declared place symbol rest ≡ None
closed_decl_by_not declared place t.Semicolon rest h = absurd (h refl)
closed_decl_by_not declared place _ rest h = refl

pub closed_decl_goes : (tokens : List Token) (declared : List Named) (place : Span) (at : ℕ) → t.Semicolon ≡ head (drop at tokens) → IsClosedDecl tokens declared place at (one.Got (Variables declared (type.Truth place)) (at + 1))
unfolding IsClosedDecl
closed_decl_goes tokens declared place at here =
    always _ _ (λ k. ap (λ s. closed_decl_by declared place s (tail (drop at tokens))) (sym here) ∙ ap (λ rest. Some (Variables declared (type.Truth place), rest)) (tail_drop tokens at))

pub closed_decl_not : (tokens : List Token) (declared : List Named) (place : Span) (at : ℕ) (p : Span) → (head (drop at tokens) ≡ t.Semicolon → ⊥) → IsClosedDecl tokens declared place at (one.Stop p)
unfolding IsClosedDecl
closed_decl_not tokens declared place at p h = always _ None (λ k. closed_decl_by_not declared place (head (drop at tokens)) (tail (drop at tokens)) h)

boolean_by_not : (declared : List Named) (symbol : Terminal) (token : Token) (rest : List Token) → (symbol ≡ t.Boolean → ⊥) → boolean_by declared symbol token rest ≡ None
boolean_by_not declared t.Boolean token rest h = absurd (h refl)
boolean_by_not declared _ token rest h = refl

pub boolean_goes : (tokens : List Token) (declared : List Named) (at : ℕ) (token : Token) (answer : ReadOf Decl) → slice_get tokens at ≡ Some token → t.Boolean ≡ terminal_of token → IsClosedDecl tokens declared token.at (at + 1) answer → IsBoolean tokens declared at answer
unfolding IsBoolean IsClosedDecl
boolean_goes tokens declared at token answer here is h =
    same_turns _ _ _ (λ k. ap (boolean_at declared) (drop_some tokens at token here) ∙ ap (λ s. boolean_by declared s token (drop (at + 1) tokens)) (sym is)) h

pub boolean_not : (tokens : List Token) (declared : List Named) (at : ℕ) (token : Token) (p : Span) → slice_get tokens at ≡ Some token → (terminal_of token ≡ t.Boolean → ⊥) → IsBoolean tokens declared at (one.Stop p)
unfolding IsBoolean
boolean_not tokens declared at token p here h =
    always _ None (λ k. ap (boolean_at declared) (drop_some tokens at token here) ∙ boolean_by_not declared (terminal_of token) token (drop (at + 1) tokens) h)

pub boolean_none : (tokens : List Token) (declared : List Named) (at : ℕ) (p : Span) → slice_get tokens at ≡ None → IsBoolean tokens declared at (one.Stop p)
unfolding IsBoolean
boolean_none tokens declared at p here = always _ None (λ k. ap (boolean_at declared) (drop_none tokens at here))

typed_by_not : (declared : List Named) (symbol : Terminal) (rest : List Token) → (symbol ≡ t.Colon → ⊥) → typed_by declared symbol rest ≡ None
typed_by_not declared t.Colon rest h = absurd (h refl)
typed_by_not declared _ rest h = refl

pub typed_goes : (tokens : List Token) (declared : List Named) (at : ℕ) (answer : ReadOf Decl) → t.Colon ≡ head (drop at tokens) → IsBoolean tokens declared (at + 1) answer → IsTyped tokens declared at answer
unfolding IsTyped IsBoolean
typed_goes tokens declared at answer here h =
    same_turns _ _ _ (λ k. ap (λ s. typed_by declared s (tail (drop at tokens))) (sym here) ∙ ap (boolean_at declared) (tail_drop tokens at)) h

pub typed_not : (tokens : List Token) (declared : List Named) (at : ℕ) (p : Span) → (head (drop at tokens) ≡ t.Colon → ⊥) → IsTyped tokens declared at (one.Stop p)
unfolding IsTyped
typed_not tokens declared at p h = always _ None (λ k. typed_by_not declared (head (drop at tokens)) (tail (drop at tokens)) h)

-- declarations

declared_here : (tokens : List Token) (at : ℕ) (token : Token) (symbol : Terminal) (r : Read (List Decl)) → slice_get tokens at ≡ Some token → symbol ≡ terminal_of token → Eventually (λ k. declared_by (declared k) (names k (drop at tokens)) symbol token (drop (at + 1) tokens)) r → Eventually (λ k. declared k (drop at tokens)) r
unfolding declared
declared_here tokens at token symbol r here is h =
    one_more_turn (λ k. declared k (drop at tokens)) (λ k. declared_by (declared k) (names k (drop at tokens)) symbol token (drop (at + 1) tokens)) r
    (λ k. ap (declared_at (declared k) (names k)) (drop_some tokens at token here)
    ∙ ap (λ s. declared_by (declared k) (names k (token ∷ drop (at + 1) tokens)) s token (drop (at + 1) tokens)) (sym is)
    ∙ ap (λ ts. declared_by (declared k) (names k ts) symbol token (drop (at + 1) tokens)) (sym (drop_some tokens at token here))) h

pub decl_skip : (tokens : List Token) (at : ℕ) (token : Token) (old : List Decl) → slice_get tokens at ≡ Some token → t.Var ≡ terminal_of token → DeclStep tokens at old old (More (at + 1))
unfolding DeclStep
decl_skip tokens at token old here is = over declared tokens at (at + 1) old (λ r h. declared_here tokens at token t.Var r here is h)

pub decl_one : (tokens : List Token) (at : ℕ) (token : Token) (old : List Decl) (ns : List Named) (next : ℕ) (decl : Decl) (behind : ℕ) → slice_get tokens at ≡ Some token → t.Name ≡ terminal_of token → AreNames tokens at (one.Got ns next) → IsTyped tokens ns next (one.Got decl behind) → DeclStep tokens at old (old ++ decl ∷ []) (More behind)
unfolding DeclStep AreNames IsTyped
decl_one tokens at token old ns next decl behind here is h g = λ from before.
    takes declared tokens from at behind old decl before
    (λ r rest. declared_here tokens at token t.Name _ here is
    (goes_on (λ k. after typed (names k (drop at tokens))) (λ k decl rest'. with_front (decl ∷ []) (declared k rest')) decl (drop behind tokens) _
    (goes_on (λ k. names k (drop at tokens)) (λ k. typed) ns (drop next tokens) _ h g)
    (with_one (λ k. declared k (drop behind tokens)) decl r rest)))

pub decl_untyped : (tokens : List Token) (at : ℕ) (token : Token) (old new : List Decl) (ns : List Named) (next : ℕ) (p q : Span) → slice_get tokens at ≡ Some token → t.Name ≡ terminal_of token → AreNames tokens at (one.Got ns next) → IsTyped tokens ns next (one.Stop p) → DeclStep tokens at old new (Stop q)
unfolding DeclStep AreNames IsTyped
decl_untyped tokens at token old new ns next p q here is h g = λ from before.
    before None (declared_here tokens at token t.Name None here is
    (goes_nowhere (λ k. after typed (names k (drop at tokens))) (λ k decl rest'. with_front (decl ∷ []) (declared k rest'))
    (goes_on (λ k. names k (drop at tokens)) (λ k. typed) ns (drop next tokens) None h g)))

pub decl_unnamed : (tokens : List Token) (at : ℕ) (token : Token) (old new : List Decl) (p q : Span) → slice_get tokens at ≡ Some token → t.Name ≡ terminal_of token → AreNames tokens at (one.Stop p) → DeclStep tokens at old new (Stop q)
unfolding DeclStep AreNames
decl_unnamed tokens at token old new p q here is h = λ from before.
    before None (declared_here tokens at token t.Name None here is
    (goes_nowhere (λ k. after typed (names k (drop at tokens))) (λ k decl rest'. with_front (decl ∷ []) (declared k rest'))
    (goes_nowhere (λ k. names k (drop at tokens)) (λ k. typed) h)))

declared_by_not : (more : List Token → Read (List Decl)) (names : Read (List Named)) (symbol : Terminal) (token : Token) (rest : List Token) → (symbol ≡ t.Var → ⊥) → (symbol ≡ t.Name → ⊥) → declared_by more names symbol token rest ≡ Some ([], token ∷ rest)
declared_by_not more names t.Var token rest a b = absurd (a refl)
declared_by_not more names t.Name token rest a b = absurd (b refl)
declared_by_not more names _ token rest a b = refl

pub decl_end : (tokens : List Token) (at : ℕ) (token : Token) (old : List Decl) → slice_get tokens at ≡ Some token → (terminal_of token ≡ t.Var → ⊥) → (terminal_of token ≡ t.Name → ⊥) → DeclStep tokens at old old (End at)
unfolding DeclStep
decl_end tokens at token old here a b =
    at_end declared tokens at at old
    (declared_here tokens at token (terminal_of token) _ here refl
    (always _ _ (λ k. declared_by_not (declared k) (names k (drop at tokens)) (terminal_of token) token (drop (at + 1) tokens) a b ∙ ap (λ rest. Some ([], rest)) (sym (drop_some tokens at token here)))))

pub decl_none : (tokens : List Token) (at : ℕ) (old : List Decl) → slice_get tokens at ≡ None → DeclStep tokens at old old (End at)
unfolding DeclStep declared
decl_none tokens at old here =
    at_end declared tokens at at old
    (one_more_turn (λ k. declared k (drop at tokens)) (λ k. Some ([], drop at tokens)) _
    (λ k. ap (declared_at (declared k) (names k)) (drop_none tokens at here) ∙ ap (λ rest. Some ([], rest)) (sym (drop_none tokens at here)))
    (always _ _ (λ k. refl)))

pub declared_begin : (tokens : List Token) (at : ℕ) → DeclaredSoFar tokens at at []
unfolding DeclaredSoFar
declared_begin tokens at = begins declared tokens at

pub declared_more : (tokens : List Token) (from at : ℕ) (old new : List Decl) (next : ℕ) → DeclaredSoFar tokens from at old → DeclStep tokens at old new (More next) → DeclaredSoFar tokens from next new
unfolding DeclaredSoFar DeclStep
declared_more tokens from at old new next before step = step from before

pub declared_ended : (tokens : List Token) (from at : ℕ) (old new : List Decl) (next : ℕ) → DeclaredSoFar tokens from at old → DeclStep tokens at old new (End next) → AreDeclared tokens from (one.Got new next)
unfolding DeclaredSoFar DeclStep AreDeclared
declared_ended tokens from at old new next before step = step from before

pub declared_stopped : (tokens : List Token) (from at : ℕ) (old new : List Decl) (p q : Span) → DeclaredSoFar tokens from at old → DeclStep tokens at old new (Stop p) → AreDeclared tokens from (one.Stop q)
unfolding DeclaredSoFar DeclStep AreDeclared
declared_stopped tokens from at old new p q before step = step from before

pub decls_var : (tokens : List Token) (at : ℕ) (answer : ReadOf (List Decl)) → t.Var ≡ head (drop at tokens) → AreDeclared tokens (at + 1) answer → AreDecls tokens at answer
unfolding AreDecls AreDeclared
decls_var tokens at answer here h =
    same_turns _ (λ k. declared k (drop (at + 1) tokens)) _ (λ k. ap (λ s. decls_by k s (drop at tokens)) (sym here) ∙ ap (declared k) (tail_drop tokens at)) h

decls_by_not : (k : ℕ) (symbol : Terminal) (tokens : List Token) → (symbol ≡ t.Var → ⊥) → decls_by k symbol tokens ≡ Some ([], tokens)
decls_by_not k t.Var tokens h = absurd (h refl)
decls_by_not k _ tokens h = refl

pub decls_none : (tokens : List Token) (at : ℕ) → (head (drop at tokens) ≡ t.Var → ⊥) → AreDecls tokens at (one.Got [] at)
unfolding AreDecls
decls_none tokens at h = always _ _ (λ k. decls_by_not k (head (drop at tokens)) (drop at tokens) h)

-- protocols

pub protocol_decls_stop : (tokens : List Token) (p : Span) → AreDecls tokens 0 (one.Stop p) → IsProtocol tokens None
unfolding IsProtocol AreDecls
protocol_decls_stop tokens p (n, h) = (n, λ m le. ap (protocol_of (items m)) (h m le))

-- a protocol, given its declarations
protocol_with : (tokens : List Token) (ds : List Decl) (next : ℕ) (r : Option Protocol) → AreDecls tokens 0 (one.Got ds next) → Eventually (λ k. with_items ds (items k (drop next tokens))) r → IsProtocol tokens r
unfolding IsProtocol AreDecls
protocol_with tokens ds next r (n, h) (m, g) =
    (n + m, λ j le. ap (protocol_of (items j)) (h j (omega arith)) ∙ g j (omega arith))

pub protocol_items_stop : (tokens : List Token) (ds : List Decl) (next : ℕ) (p : Span) → AreDecls tokens 0 (one.Got ds next) → AreItems tokens next (one.Stop p) → IsProtocol tokens None
unfolding AreItems
protocol_items_stop tokens ds next p h (n, g) =
    protocol_with tokens ds next None h (n, λ m le. ap (with_items ds) (g m le))

pub protocol_read : (tokens : List Token) (ds : List Decl) (next : ℕ) (is : List RuleDecl) (behind : ℕ) → AreDecls tokens 0 (one.Got ds next) → AreItems tokens next (one.Got is behind) → IsProtocol tokens (finished (record { decls = ds; rules = is }) (drop behind tokens))
unfolding AreItems
protocol_read tokens ds next is behind h (n, g) =
    protocol_with tokens ds next _ h (n, λ m le. ap (with_items ds) (g m le))

-- the declarations and items are read, and nothing but the end follows
pub protocol_ends : (tokens : List Token) (ds : List Decl) (next : ℕ) (is : List RuleDecl) (behind : ℕ) → AreDecls tokens 0 (one.Got ds next) → AreItems tokens next (one.Got is behind) → is_end (drop behind tokens) ≡ true → IsProtocol tokens (Some (record { decls = ds; rules = is }))
protocol_ends tokens ds next is behind h g end =
    subst (λ o. IsProtocol tokens o) (ap (λ b. cond b (Some (record { decls = ds; rules = is })) None) end) (protocol_read tokens ds next is behind h g)

-- something else follows
pub protocol_goes_on : (tokens : List Token) (ds : List Decl) (next : ℕ) (is : List RuleDecl) (behind : ℕ) → AreDecls tokens 0 (one.Got ds next) → AreItems tokens next (one.Got is behind) → is_end (drop behind tokens) ≡ false → IsProtocol tokens None
protocol_goes_on tokens ds next is behind h g end =
    subst (λ o. IsProtocol tokens o) (ap (λ b. cond b (Some (record { decls = ds; rules = is })) None) end) (protocol_read tokens ds next is behind h g)

pub ruleset decl_arms = (name_comma, name_last, name_other, name_none, names_begin, names_more, names_ended, names_stopped, closed_decl_goes, closed_decl_not, boolean_goes, boolean_not, boolean_none, typed_goes, typed_not, decl_skip, decl_one, decl_untyped, decl_unnamed, decl_end, decl_none, declared_begin, declared_more, declared_ended, declared_stopped, decls_var, decls_none)

pub ruleset protocol_arms = (protocol_decls_stop, protocol_items_stop, protocol_ends, protocol_goes_on)
