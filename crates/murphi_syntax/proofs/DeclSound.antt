-- What is read as declarations and as a protocol is spelled so.
use Rattle.std.proofs.Common.{◌≡◌, ℕ, zero, suc, Bool, true, false, cond, List, [], ◌∷◌, ◌++◌, Some, None, refl, sym, ap, ◌∙◌, subst, append_assoc}
use Rattle.murphi_ast.specs.declared.token.Span.{Span}
use Rattle.murphi_ast.specs.declared.token.Token.{Token}
use Rattle.murphi_ast.specs.declared.terminal.Terminal.{Terminal}
use Rattle.murphi_ast.specs.declared.terminal.Terminal.TheVariants as t
use Rattle.murphi_ast.specs.declared.expr.Named.{Named}
use Rattle.murphi_ast.specs.declared.expr.TypeExpr as type
use Rattle.murphi_ast.specs.declared.decl.Decl.{Decl, Variables}
use Rattle.murphi_ast.specs.declared.rule.RuleDecl.{RuleDecl}
use Rattle.murphi_ast.specs.declared.rule.Protocol.{Protocol}
use Rattle.murphi_ast.specs.Terminal.{terminal_of}
use Rattle.murphi_ast.specs.Grammar.{named, Is, SpellsNames, last_name, one_more_name, SpellsDecls, no_decl, var_word, SpellsVariables, no_more, variables, SpellsProtocol, protocol as protocol_form}
use Rattle.murphi_syntax.specs.Reading.{Read, after, with_front, head}
use Rattle.murphi_syntax.specs.Protocols.{items, named_by, names_by, names, closed_decl_by, closed_decl, boolean_by, boolean_at, typed_by, typed, declared_by, declared, decls_by, decls, is_last, is_end, finished, with_items, protocol_of, protocol}
use Rattle.murphi_syntax.proofs.ExprSound.{two, given}
use Rattle.murphi_syntax.proofs.ItemSound.{front_read, items_sound}

-- names

record SpelledNames (tokens : List Token) (all : List Named) (rest : List Token) : Type 0 where
  front : List Token
  cut : tokens ≡ front ++ rest
  spells : SpellsNames front all

abbrev SoundNames : ℕ → Type 0
SoundNames k = (tokens : List Token) (all : List Named) (rest : List Token) → names k tokens ≡ Some (all, rest) → SpelledNames tokens all rest

-- behind a name
named_sound : (k : ℕ) → SoundNames k → (token : Token) (ts : List Token) (all : List Named) (rest : List Token) → Is t.Name token → named_by (names k) token (head ts) ts ≡ Some (all, rest) → SpelledNames (token ∷ ts) all rest
named_sound k ih token [] all rest is h =
    record { front = token ∷ []; cut = ap (λ r. token ∷ r) (given _ _ _ _ h).1; spells = subst (λ y. SpellsNames (token ∷ []) y) (given _ _ _ _ h).0 (last_name token is) }
named_sound k ih token (comma ∷ ts) all rest is h = by_symbol (terminal_of comma) refl h
  where
    by_symbol : (s : Terminal) → terminal_of comma ≡ s → named_by (names k) token s (comma ∷ ts) ≡ Some (all, rest) → SpelledNames (token ∷ comma ∷ ts) all rest
    by_symbol t.Comma is' h =
        let f = front_read (named token) (names k ts) all rest h in
        let others = ih ts f.others rest f.read_others in
        record {
          front = token ∷ comma ∷ others.front;
          cut = ap (λ m. token ∷ comma ∷ m) others.cut;
          spells = subst (λ y. SpellsNames (token ∷ comma ∷ others.front) y) f.same (one_more_name token comma is is' others.spells);
        }
    by_symbol _ is' h =
        record { front = token ∷ []; cut = ap (λ r. token ∷ r) (given _ _ _ _ h).1; spells = subst (λ y. SpellsNames (token ∷ []) y) (given _ _ _ _ h).0 (last_name token is) }

names_step : (k : ℕ) → SoundNames k → SoundNames (suc k)
unfolding names
names_step k ih [] all rest h = cc
names_step k ih (token ∷ ts) all rest h = by_symbol (terminal_of token) refl h
  where
    by_symbol : (s : Terminal) → terminal_of token ≡ s → names_by (names k) s token ts ≡ Some (all, rest) → SpelledNames (token ∷ ts) all rest
    by_symbol t.Name is h = named_sound k ih token ts all rest is h
    by_symbol _ is h = cc

names_sound : (k : ℕ) → SoundNames k
unfolding names
names_sound zero tokens all rest h = cc
names_sound (suc k) tokens all rest h = names_step k (names_sound k) tokens all rest h

-- `: boolean ;`

record Typed (ns : List Named) (mid : List Token) (decl : Decl) (rest : List Token) : Type 0 where
  colon : Token
  word : Token
  semicolon : Token
  cut : mid ≡ colon ∷ word ∷ semicolon ∷ rest
  is_colon : Is t.Colon colon
  is_boolean : Is t.Boolean word
  is_semicolon : Is t.Semicolon semicolon
  same : Variables ns (type.Truth word.at) ≡ decl

record Closed (ns : List Named) (place : Span) (mid : List Token) (decl : Decl) (rest : List Token) : Type 0 where
  semicolon : Token
  cut : mid ≡ semicolon ∷ rest
  is : Is t.Semicolon semicolon
  same : Variables ns (type.Truth place) ≡ decl

closed_sound : (ns : List Named) (place : Span) (mid : List Token) (decl : Decl) (rest : List Token) → closed_decl ns place mid ≡ Some (decl, rest) → Closed ns place mid decl rest
closed_sound ns place [] decl rest h = cc
closed_sound ns place (token ∷ ts) decl rest h = by_symbol (terminal_of token) refl h
  where
    by_symbol : (s : Terminal) → terminal_of token ≡ s → closed_decl_by ns place s ts ≡ Some (decl, rest) → Closed ns place (token ∷ ts) decl rest
    by_symbol t.Semicolon is h = record { semicolon = token; cut = ap (λ r. token ∷ r) (given _ _ _ _ h).1; is = is; same = (given _ _ _ _ h).0 }
    by_symbol _ is h = cc

typed_sound : (ns : List Named) (mid : List Token) (decl : Decl) (rest : List Token) → typed ns mid ≡ Some (decl, rest) → Typed ns mid decl rest
typed_sound ns [] decl rest h = cc
typed_sound ns (colon ∷ ts) decl rest h = by_colon (terminal_of colon) refl h
  where
    by_word : (ts : List Token) → Is t.Colon colon → boolean_at ns ts ≡ Some (decl, rest) → Typed ns (colon ∷ ts) decl rest
    by_word [] is h = cc
    by_word (word ∷ us) is h = by_boolean (terminal_of word) refl h
      where
        by_boolean : (s : Terminal) → terminal_of word ≡ s → boolean_by ns s word us ≡ Some (decl, rest) → Typed ns (colon ∷ word ∷ us) decl rest
        by_boolean t.Boolean is' h =
            let c = closed_sound ns word.at us decl rest h in
            record { colon = colon; word = word; semicolon = c.semicolon; cut = ap (λ m. colon ∷ word ∷ m) c.cut; is_colon = is; is_boolean = is'; is_semicolon = c.is; same = c.same }
        by_boolean _ is' h = cc

    by_colon : (s : Terminal) → terminal_of colon ≡ s → typed_by ns s ts ≡ Some (decl, rest) → Typed ns (colon ∷ ts) decl rest
    by_colon t.Colon is h = by_word ts is h
    by_colon _ is h = cc

-- declarations

record SpelledVariables (tokens : List Token) (all : List Decl) (rest : List Token) : Type 0 where
  front : List Token
  cut : tokens ≡ front ++ rest
  spells : SpellsVariables front all

abbrev SoundVariables : ℕ → Type 0
SoundVariables k = (tokens : List Token) (all : List Decl) (rest : List Token) → declared k tokens ≡ Some (all, rest) → SpelledVariables tokens all rest

variables_sound : (k : ℕ) → SoundVariables k → (tokens : List Token) (all : List Decl) (rest : List Token) → after (λ decl rest'. with_front (decl ∷ []) (declared k rest')) (after typed (names k tokens)) ≡ Some (all, rest) → SpelledVariables tokens all rest
variables_sound k ih tokens all rest h =
    let tw = two (λ decl rest'. with_front (decl ∷ []) (declared k rest')) (after typed (names k tokens)) all rest h in
    let tw' = two typed (names k tokens) tw.first tw.mid tw.read_first in
    let ns = names_sound k tokens tw'.first tw'.mid tw'.read_first in
    let ty = typed_sound tw'.first tw'.mid tw.first tw.mid tw'.read_second in
    let f = front_read tw.first (declared k tw.mid) all rest tw.read_second in
    let others = ih tw.mid f.others rest f.read_others in
    record {
      front = ns.front ++ ty.colon ∷ ty.word ∷ ty.semicolon ∷ others.front;
      cut = ns.cut ∙ ap (λ m. ns.front ++ m) (ty.cut ∙ ap (λ m. ty.colon ∷ ty.word ∷ ty.semicolon ∷ m) others.cut) ∙ sym (append_assoc ns.front (ty.colon ∷ ty.word ∷ ty.semicolon ∷ others.front) rest);
      spells = subst (λ y. SpellsVariables (ns.front ++ ty.colon ∷ ty.word ∷ ty.semicolon ∷ others.front) y) f.same
          (subst (λ d. SpellsVariables (ns.front ++ ty.colon ∷ ty.word ∷ ty.semicolon ∷ others.front) (d ∷ f.others)) ty.same
          (variables ty.colon ty.word ty.semicolon ns.spells ty.is_colon ty.is_boolean ty.is_semicolon others.spells refl));
    }

declared_step : (k : ℕ) → SoundVariables k → SoundVariables (suc k)
unfolding declared
declared_step k ih [] all rest h =
    record { front = []; cut = (given _ _ _ _ h).1; spells = subst (λ y. SpellsVariables [] y) (given _ _ _ _ h).0 (no_more no_decl) }
declared_step k ih (token ∷ ts) all rest h = by_symbol (terminal_of token) refl h
  where
    by_symbol : (s : Terminal) → terminal_of token ≡ s → declared_by (declared k) (names k (token ∷ ts)) s token ts ≡ Some (all, rest) → SpelledVariables (token ∷ ts) all rest
    by_symbol t.Var is h =
        let others = ih ts all rest h in
        record { front = token ∷ others.front; cut = ap (λ m. token ∷ m) others.cut; spells = no_more (var_word token is others.spells) }
    by_symbol t.Name is h = variables_sound k ih (token ∷ ts) all rest h
    by_symbol _ is h =
        record { front = []; cut = (given _ _ _ _ h).1; spells = subst (λ y. SpellsVariables [] y) (given _ _ _ _ h).0 (no_more no_decl) }

declared_sound : (k : ℕ) → SoundVariables k
unfolding declared
declared_sound zero tokens all rest h = cc
declared_sound (suc k) tokens all rest h = declared_step k (declared_sound k) tokens all rest h

record SpelledDecls (tokens : List Token) (all : List Decl) (rest : List Token) : Type 0 where
  front : List Token
  cut : tokens ≡ front ++ rest
  spells : SpellsDecls front all

decls_sound : (k : ℕ) (tokens : List Token) (all : List Decl) (rest : List Token) → decls k tokens ≡ Some (all, rest) → SpelledDecls tokens all rest
decls_sound k [] all rest h =
    record { front = []; cut = (given _ _ _ _ h).1; spells = subst (λ y. SpellsDecls [] y) (given _ _ _ _ h).0 no_decl }
decls_sound k (token ∷ ts) all rest h = by_symbol (terminal_of token) refl h
  where
    by_symbol : (s : Terminal) → terminal_of token ≡ s → decls_by k s (token ∷ ts) ≡ Some (all, rest) → SpelledDecls (token ∷ ts) all rest
    by_symbol t.Var is h =
        let others = declared_sound k ts all rest h in
        record { front = token ∷ others.front; cut = ap (λ m. token ∷ m) others.cut; spells = var_word token is others.spells }
    by_symbol _ is h =
        record { front = []; cut = (given _ _ _ _ h).1; spells = subst (λ y. SpellsDecls [] y) (given _ _ _ _ h).0 no_decl }

-- protocols

record Finished (p made : Protocol) (mid : List Token) : Type 0 where
  end : Token
  cut : mid ≡ end ∷ []
  is : Is t.EndOfText end
  same : p ≡ made

end_sound : (p made : Protocol) (mid : List Token) → (b : Bool) → is_end mid ≡ b → cond b (Some p) None ≡ Some made → Finished p made mid
end_sound p made mid false is h = cc
end_sound p made [] true is h = cc
end_sound p made (token ∷ ts) true is h = by_symbol (terminal_of token) refl ts is
  where
    by_symbol : (s : Terminal) → terminal_of token ≡ s → (ts : List Token) → is_last s ts ≡ true → Finished p made (token ∷ ts)
    by_symbol t.EndOfText is' [] h' = record { end = token; cut = refl; is = is'; same = cc }
    by_symbol t.EndOfText is' (u ∷ us) h' = cc
    by_symbol _ is' ts h' = cc

finished_sound : (p made : Protocol) (mid : List Token) → finished p mid ≡ Some made → Finished p made mid
finished_sound p made mid h = end_sound p made mid (is_end mid) refl h

protocol_sound_items : (k : ℕ) (tokens : List Token) (ds : List Decl) (mid : List Token) (p : Protocol) → decls k tokens ≡ Some (ds, mid) → (r : Read (List RuleDecl)) → items k mid ≡ r → with_items ds r ≡ Some p → SpellsProtocol tokens p
protocol_sound_items k tokens ds mid p h None was g = cc
protocol_sound_items k tokens ds mid p h (Some y) was g =
    let d = decls_sound k tokens ds mid h in
    let i = items_sound k mid y.0 y.1 was in
    let f = finished_sound (record { decls = ds; rules = y.0 }) p y.1 g in
    subst (λ q. SpellsProtocol tokens q) f.same
    (protocol_form f.end d.spells i.spells f.is
    (d.cut ∙ ap (λ m. d.front ++ m) (i.cut ∙ ap (λ m. i.front ++ m) f.cut) ∙ sym (append_assoc d.front i.front (f.end ∷ []))))

-- what is read as a protocol is spelled so
pub protocol_sound : (k : ℕ) (tokens : List Token) (p : Protocol) → protocol k tokens ≡ Some p → SpellsProtocol tokens p
protocol_sound k tokens p h = by_decls (decls k tokens) refl h
  where
    by_decls : (r : Read (List Decl)) → decls k tokens ≡ r → protocol_of (items k) r ≡ Some p → SpellsProtocol tokens p
    by_decls None was h = cc
    by_decls (Some x) was h = protocol_sound_items k tokens x.0 x.1 p was (items k x.1) refl h
