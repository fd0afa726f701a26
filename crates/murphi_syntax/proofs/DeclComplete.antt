-- What spells declarations and a protocol is read as it.
use Rattle.std.proofs.Common.{◌≡◌, ℕ, ◌+◌, Bool, true, false, cond, List, [], ◌∷◌, ◌++◌, Option, Some, None, refl, sym, ap, ◌∙◌, subst, append_assoc, arith}
use Rattle.murphi_ast.specs.declared.token.Token.{Token}
use Rattle.murphi_ast.specs.declared.terminal.Terminal.{Terminal}
use Rattle.murphi_ast.specs.declared.terminal.Terminal.TheVariants as t
use Rattle.murphi_ast.specs.declared.expr.Named.{Named}
use Rattle.murphi_ast.specs.declared.expr.TypeExpr as type
use Rattle.murphi_ast.specs.declared.decl.Decl.{Decl, Variables}
use Rattle.murphi_ast.specs.declared.rule.RuleDecl.{RuleDecl}
use Rattle.murphi_ast.specs.declared.rule.Protocol.{Protocol}
use Rattle.murphi_ast.specs.Terminal.{terminal_of}
use Rattle.murphi_ast.specs.Grammar.{named, Is, SpellsNames, last_name, one_more_name, SpellsDecls, no_decl, var_word, SpellsVariables, no_more, variables, SpellsItem, rule as rule_item, start as start_item, invariant as invariant_item, SpellsItems, no_item, last_item, empty_item, one_more_item, SpellsProtocol, protocol as protocol_form}
use Rattle.murphi_syntax.specs.Reading.{Read, Eventually, after, with_front, head}
use Rattle.murphi_syntax.specs.Protocols.{items, named_by, names_by, names, closed_decl_by, boolean_by, typed_by, typed, declared_by, declared_at, declared, decls_by, decls, is_last, finished, with_items, protocol_of, protocol, IsProtocol}
use Rattle.murphi_syntax.proofs.Turns.{always, one_more_turn, goes_on, same_turns, one_answer}
use Rattle.murphi_syntax.proofs.SoFar.{with_one}
use Rattle.murphi_syntax.proofs.ItemComplete.{items_complete}

-- names, with a colon behind them

names_complete : {front : List Token} {ns : List Named} → SpellsNames front ns → (rest : List Token) → head rest ≡ t.Colon → Eventually (λ k. names k (front ++ rest)) (Some (ns, rest))
unfolding names
names_complete (last_name token is) = λ rest h.
    one_more_turn (λ k. names k (token ∷ rest)) (λ k. Some (named token ∷ [], rest)) _
    (λ k. ap (λ s. names_by (names k) s token rest) is ∙ ap (λ s. named_by (names k) token s rest) h) (always _ _ (λ k. refl))
names_complete (one_more_name {behind = behind} {rest = others} token comma is is' more) = λ rest h.
    one_more_turn (λ k. names k (token ∷ comma ∷ behind ++ rest)) (λ k. with_front (named token ∷ []) (names k (behind ++ rest))) _
    (λ k. ap (λ s. names_by (names k) s token (comma ∷ behind ++ rest)) is ∙ ap (λ s. named_by (names k) token s (comma ∷ behind ++ rest)) is')
    (with_one (λ k. names k (behind ++ rest)) (named token) (Some (others, rest)) (names_complete more rest h))

-- `: boolean ;`
typed_complete : (ns : List Named) (colon word semicolon : Token) (rest : List Token) → Is t.Colon colon → Is t.Boolean word → Is t.Semicolon semicolon → typed ns (colon ∷ word ∷ semicolon ∷ rest) ≡ Some (Variables ns (type.Truth word.at), rest)
typed_complete ns colon word semicolon rest a b c =
    ap (λ s. typed_by ns s (word ∷ semicolon ∷ rest)) a ∙ ap (λ s. boolean_by ns s word (semicolon ∷ rest)) b ∙ ap (λ s. closed_decl_by ns word.at s rest) c

-- the symbols that do not go on with declarations
abbrev stops_decls : Terminal → Bool
stops_decls t.Var = false
stops_decls t.Name = false
stops_decls _ = true

declared_by_stop : (more : List Token → Read (List Decl)) (ns : Read (List Named)) (s : Terminal) (token : Token) (rest : List Token) → stops_decls s ≡ true → declared_by more ns s token rest ≡ Some ([], token ∷ rest)
declared_by_stop more ns t.Var token rest h = cc
declared_by_stop more ns t.Name token rest h = cc
declared_by_stop more ns _ token rest h = refl

decls_by_stop : (k : ℕ) (s : Terminal) (tokens : List Token) → stops_decls s ≡ true → decls_by k s tokens ≡ Some ([], tokens)
decls_by_stop k t.Var tokens h = cc
decls_by_stop k _ tokens h = refl

no_declared : (rest : List Token) → stops_decls (head rest) ≡ true → Eventually (λ k. declared k rest) (Some ([], rest))
unfolding declared
no_declared [] h = one_more_turn (λ k. declared k []) (λ k. Some ([], [])) _ (λ k. refl) (always _ _ (λ k. refl))
no_declared (token ∷ rest) h =
    one_more_turn (λ k. declared k (token ∷ rest)) (λ k. Some ([], token ∷ rest)) _
    (λ k. declared_by_stop (declared k) (names k (token ∷ rest)) (terminal_of token) token rest h) (always _ _ (λ k. refl))

declared_var : (token : Token) (rest : List Token) (r : Read (List Decl)) → Is t.Var token → Eventually (λ k. declared k rest) r → Eventually (λ k. declared k (token ∷ rest)) r
unfolding declared
declared_var token rest r is h =
    one_more_turn (λ k. declared k (token ∷ rest)) (λ k. declared k rest) r (λ k. ap (λ s. declared_by (declared k) (names k (token ∷ rest)) s token rest) is) h

-- the first token of names is a name
record Named' (front : List Token) : Type 0 where
  token : Token
  more : List Token
  cut : front ≡ token ∷ more
  is : Is t.Name token

names_begin : {front : List Token} {ns : List Named} → SpellsNames front ns → Named' front
names_begin (last_name token is) = record { token = token; more = []; cut = refl; is = is }
names_begin (one_more_name token comma is is' more) = record { token = token; more = _; cut = refl; is = is }

declared_names : (front behind : List Token) (r : Read (List Decl)) → Named' front → Eventually (λ k. after (λ decl rest'. with_front (decl ∷ []) (declared k rest')) (after typed (names k (front ++ behind)))) r → Eventually (λ k. declared k (front ++ behind)) r
unfolding declared
declared_names front behind r b h =
    one_more_turn (λ k. declared k (front ++ behind)) (λ k. after (λ decl rest'. with_front (decl ∷ []) (declared k rest')) (after typed (names k (front ++ behind)))) r
    (λ k. ap (λ f. declared_at (declared k) (names k) (f ++ behind)) b.cut
    ∙ ap (λ s. declared_by (declared k) (names k (b.token ∷ b.more ++ behind)) s b.token (b.more ++ behind)) b.is
    ∙ ap (λ f. after (λ decl rest'. with_front (decl ∷ []) (declared k rest')) (after typed (names k (f ++ behind)))) (sym b.cut)) h

variables_with : (names_front behind rest : List Token) (ns : List Named) (others : List Decl) (colon word semicolon : Token) → SpellsNames names_front ns → Is t.Colon colon → Is t.Boolean word → Is t.Semicolon semicolon → Eventually (λ k. declared k behind) (Some (others, rest)) → Eventually (λ k. declared k (names_front ++ (colon ∷ word ∷ semicolon ∷ behind))) (Some (Variables ns (type.Truth word.at) ∷ others, rest))
variables_with nf behind rest ns others colon word semicolon spells a b c h =
    let mid = colon ∷ word ∷ semicolon ∷ behind in
    declared_names nf mid _ (names_begin spells)
    (goes_on (λ k. after typed (names k (nf ++ mid))) (λ k decl rest'. with_front (decl ∷ []) (declared k rest')) (Variables ns (type.Truth word.at)) behind _
    (goes_on (λ k. names k (nf ++ mid)) (λ k. typed) ns mid _ (names_complete spells mid a) (always _ _ (λ k. typed_complete ns colon word semicolon behind a b c)))
    (with_one (λ k. declared k behind) (Variables ns (type.Truth word.at)) (Some (others, rest)) h))

mutual
  as_declared : {front : List Token} {ds : List Decl} → SpellsDecls front ds → (rest : List Token) → stops_decls (head rest) ≡ true → Eventually (λ k. declared k (front ++ rest)) (Some (ds, rest))
  as_declared no_decl = λ rest h. no_declared rest h
  as_declared (var_word {behind = behind} token is more) = λ rest h. declared_var token (behind ++ rest) _ is (declared_complete more rest h)

  declared_complete : {front : List Token} {ds : List Decl} → SpellsVariables front ds → (rest : List Token) → stops_decls (head rest) ≡ true → Eventually (λ k. declared k (front ++ rest)) (Some (ds, rest))
  declared_complete (no_more spells) = as_declared spells
  declared_complete (variables {all = all} {names = nf} {behind = behind} {declared = ns} {rest = others} colon word semicolon spells a b c more cut) = λ rest h.
      subst (λ ts. Eventually (λ k. declared k ts) (Some (Variables ns (type.Truth word.at) ∷ others, rest))) (sym (ap (λ f. f ++ rest) cut ∙ append_assoc nf (colon ∷ word ∷ semicolon ∷ behind) rest))
      (variables_with nf (behind ++ rest) rest ns others colon word semicolon spells a b c (declared_complete more rest h))

decls_complete : {front : List Token} {ds : List Decl} → SpellsDecls front ds → (rest : List Token) → stops_decls (head rest) ≡ true → Eventually (λ k. decls k (front ++ rest)) (Some (ds, rest))
decls_complete no_decl = λ rest h. always _ _ (λ k. decls_by_stop k (head rest) rest h)
decls_complete (var_word {behind = behind} token is more) = λ rest h.
    same_turns _ (λ k. declared k (behind ++ rest)) _ (λ k. ap (λ s. decls_by k s (token ∷ behind ++ rest)) is) (declared_complete more rest h)

-- protocols

item_stops : {front : List Token} {item : RuleDecl} (behind : List Token) → SpellsItem front item → stops_decls (head (front ++ behind)) ≡ true
item_stops behind (rule_item word then end is heading spells is' bodied ends cut) = ap (λ f. stops_decls (head (f ++ behind))) cut ∙ ap stops_decls is
item_stops behind (start_item word end is heading bodied ends cut) = ap (λ f. stops_decls (head (f ++ behind))) cut ∙ ap stops_decls is
item_stops behind (invariant_item word is heading spells cut) = ap (λ f. stops_decls (head (f ++ behind))) cut ∙ ap stops_decls is

items_stop : {front : List Token} {all : List RuleDecl} (end : Token) → Is t.EndOfText end → SpellsItems front all → stops_decls (head (front ++ end ∷ [])) ≡ true
items_stop end is no_item = ap stops_decls is
items_stop end is (last_item spells) = item_stops (end ∷ []) spells
items_stop end is (empty_item token is' more) = ap stops_decls is'
items_stop end is (one_more_item {before = before} {behind = behind} token spells is' more cut) =
    ap (λ f. stops_decls (head (f ++ end ∷ []))) cut ∙ ap (λ f. stops_decls (head f)) (append_assoc before (token ∷ behind) (end ∷ [])) ∙ item_stops (token ∷ behind ++ (end ∷ [])) spells

end_is : (p : Protocol) (end : Token) → Is t.EndOfText end → finished p (end ∷ []) ≡ Some p
end_is p end is = ap (λ s. cond (is_last s []) (Some p) None) is

-- what spells a protocol is read as it
pub protocol_complete : {tokens : List Token} {p : Protocol} → SpellsProtocol tokens p → IsProtocol tokens (Some p)
unfolding IsProtocol
protocol_complete (protocol_form {all = all} {decls = df} {items = itf} {p = p} end ds is' is cut) =
    let (n, h) = decls_complete ds (itf ++ end ∷ []) (items_stop end is is') in
    let (m, g) = items_complete is' (end ∷ []) is in
    (n + m, λ j le. ap (λ ts. protocol j ts) (cut ∙ append_assoc df itf (end ∷ [])) ∙ ap (protocol_of (items j)) (h j (omega arith)) ∙ ap (with_items p.decls) (g j (omega arith)) ∙ end_is p end is)

-- tokens are read as one protocol or none
pub one_protocol : (tokens : List Token) (a b : Option Protocol) → IsProtocol tokens a → IsProtocol tokens b → a ≡ b
unfolding IsProtocol
one_protocol tokens a b h g = one_answer (λ k. protocol k tokens) a b h g
