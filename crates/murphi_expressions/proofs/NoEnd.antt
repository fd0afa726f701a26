-- The end of the text stands in no form but that of a protocol.
use Rattle.std.specs.Prelude.{◌&&◌, ◌||◌, not, codes, if◌then◌else◌}
use Rattle.std.specs.Str.{bytes_eq}
use Rattle.std.proofs.Common.{◌≡◌, ℕ, zero, suc, ◌<◌, Bool, true, false, List, [], ◌∷◌, ◌++◌, length, drop, refl, sym, ap, subst, arith}
use Rattle.grammar_core.specs.Forms.{One, Empty, Seq, Choice, Many, Nest, Call, Tree}
use Rattle.grammar_core.specs.Spelling as g
use Rattle.grammar_core.specs.Spelling.{Room, Spells, Begins}
use Rattle.murphi_ast.specs.Bytes.{lowered}
use Rattle.murphi_ast.specs.Spelling as spelling
use Rattle.murphi_ast.specs.Spelling.{ends_once}
use Rattle.murphi_ast.specs.declared.token.Token.{Token}
use Rattle.murphi_ast.specs.declared.token.TokenKind.{TokenKind}
use Rattle.murphi_ast.specs.declared.token.TokenKind.TheVariants as kind
use Rattle.murphi_grammar.specs.declared.symbol.Symbol.{Symbol}
use Rattle.murphi_grammar.specs.declared.symbol.Symbol.TheVariants as t
use Rattle.murphi_grammar.specs.Symbols.{WordTable, key_words, refused_words, found, sign_symbol, symbol_by, symbol_of}
use Rattle.murphi_grammar.specs.Names as n
use Rattle.murphi_grammar.specs.Names.{Name}
use Rattle.murphi_grammar.specs.Parts.{Part}
use Rattle.murphi_grammar.specs.Grammar.{murphi, rule}
use Rattle.murphi_expressions.specs.Ends.{is_end, has_no_end, AreOfText}

-- only the last token of a text has the symbol of its end
not_end_if : (b : Bool) (s r : Symbol) → is_end s ≡ false → is_end r ≡ false → is_end (if b then s else r) ≡ false
not_end_if true s r p q = p
not_end_if false s r p q = q

has_end : WordTable → Bool
has_end [] = false
has_end ((known, s) ∷ rest) = is_end s || has_end rest

found_not_end : (word : List ℕ) (table : WordTable) → has_end table ≡ false → is_end (found word table) ≡ false
unfolding has_end
found_not_end word [] h = refl
found_not_end word ((known, s) ∷ rest) h = go (is_end s) refl h (λ k. found_not_end word rest k)
  where
    go : (b : Bool) → is_end s ≡ b → b || has_end rest ≡ false → (has_end rest ≡ false → is_end (found word rest) ≡ false) → is_end (if bytes_eq word known then s else found word rest) ≡ false
    go true e k more = absurd (cc)
    go false e k more = not_end_if (bytes_eq word known) s (found word rest) e (more k)

sign_not_end : (sign : List ℕ) → is_end (sign_symbol sign) ≡ false
sign_not_end sign =
    not_end_if (bytes_eq sign (codes ":=")) t.Becomes _ refl (
    not_end_if (bytes_eq sign (codes "!=")) t.NotEqual _ refl (
    not_end_if (bytes_eq sign (codes "->")) t.Arrow _ refl (
    not_end_if (bytes_eq sign (codes "==>")) t.DoubleArrow _ refl (
    not_end_if (bytes_eq sign (codes "..")) t.DotDot _ refl (
    not_end_if (bytes_eq sign (codes "<=")) t.LessEqual _ refl (
    not_end_if (bytes_eq sign (codes ">=")) t.GreaterEqual _ refl (
    not_end_if (bytes_eq sign (codes "=")) t.Equal _ refl (
    not_end_if (bytes_eq sign (codes "<")) t.Less _ refl (
    not_end_if (bytes_eq sign (codes ">")) t.Greater _ refl (
    not_end_if (bytes_eq sign (codes "+")) t.Plus _ refl (
    not_end_if (bytes_eq sign (codes "-")) t.Minus _ refl (
    not_end_if (bytes_eq sign (codes "*")) t.Star _ refl (
    not_end_if (bytes_eq sign (codes "/")) t.Slash _ refl (
    not_end_if (bytes_eq sign (codes "%")) t.Percent _ refl (
    not_end_if (bytes_eq sign (codes "&")) t.Ampersand _ refl (
    not_end_if (bytes_eq sign (codes "|")) t.Bar _ refl (
    not_end_if (bytes_eq sign (codes "!")) t.Bang _ refl (
    not_end_if (bytes_eq sign (codes "?")) t.Question _ refl (
    not_end_if (bytes_eq sign (codes ":")) t.Colon _ refl (
    not_end_if (bytes_eq sign (codes ";")) t.Semicolon _ refl (
    not_end_if (bytes_eq sign (codes ",")) t.Comma _ refl (
    not_end_if (bytes_eq sign (codes ".")) t.Dot _ refl (
    not_end_if (bytes_eq sign (codes "(")) t.Open _ refl (
    not_end_if (bytes_eq sign (codes ")")) t.Close _ refl (
    not_end_if (bytes_eq sign (codes "[")) t.OpenBracket _ refl (
    not_end_if (bytes_eq sign (codes "]")) t.CloseBracket _ refl (
    not_end_if (bytes_eq sign (codes "{")) t.OpenBrace _ refl (
    not_end_if (bytes_eq sign (codes "}")) t.CloseBrace _ refl (
    refl)))))))))))))))))))))))))))))

kind_not_end : (kind : TokenKind) (text : List ℕ) → not (spelling.is_end kind) ≡ true → not (is_end (symbol_by kind text)) ≡ true
unfolding has_end
kind_not_end kind.Word text h = ap not (found_not_end (lowered text) (key_words ++ refused_words) refl)
kind_not_end kind.Number text h = refl
kind_not_end kind.Quoted text h = refl
kind_not_end kind.Sign text h = ap not (sign_not_end text)
kind_not_end kind.End text h = absurd (cc)

kind_end : (kind : TokenKind) (text : List ℕ) → spelling.is_end kind ≡ true → symbol_by kind text ≡ t.EndOfText
kind_end kind.Word text h = absurd (cc)
kind_end kind.Number text h = absurd (cc)
kind_end kind.Quoted text h = absurd (cc)
kind_end kind.Sign text h = absurd (cc)
kind_end kind.End text h = refl

first : (a b : Bool) → a && b ≡ true → a ≡ true
first true b h = refl
first false b h = absurd (cc)

second : (a b : Bool) → a && b ≡ true → b ≡ true
second true b h = h
second false b h = absurd (cc)

both : (a b : Bool) → a ≡ true → b ≡ true → a && b ≡ true
both true b p q = q
both false b p q = absurd (cc)

pub of_text : (ts : List Token) → ends_once ts ≡ true → AreOfText ts
of_text [] h = absurd (cc)
of_text (x ∷ []) h = record { front = []; last = x; are = refl; ends = kind_end x.kind x.text h; no_other = refl }
of_text (x ∷ y ∷ us) h =
    let r = of_text (y ∷ us) (second _ _ h) in
    record { front = x ∷ r.front; last = r.last; are = ap (λ z. x ∷ z) r.are; ends = r.ends; no_other = both (not (is_end (symbol_of x))) (has_no_end r.front) (kind_not_end x.kind x.text (first _ _ h)) r.no_other }

-- whether a form is not that of a protocol
abbrev pub other : Name → Bool
other n.Protocol = false
other _ = true

-- whether the end of the text may not stand in a form
unfoldable pub avoids : Part → Bool
avoids (One s) = not (is_end s)
avoids Empty = true
avoids (Seq a b) = avoids a && avoids b
avoids (Choice a b) = avoids a && avoids b
avoids (Many a) = avoids a
avoids (Nest s a) = not (is_end s) && avoids a
avoids (Call name) = other name

rules_avoid : (name : Name) → other name ≡ true → avoids (rule name) ≡ true
unfolding avoids
rules_avoid n.Protocol h = absurd (cc)
rules_avoid (n.Cut n.Declarations) h = refl
rules_avoid (n.Cut n.Gaps) h = refl
rules_avoid (n.Cut n.MoreItems) h = refl
rules_avoid (n.Cut n.Constants) h = refl
rules_avoid (n.Cut n.TypeNames) h = refl
rules_avoid (n.Cut n.VariableLists) h = refl
rules_avoid (n.Cut n.MoreNames) h = refl
rules_avoid (n.Cut n.FormalsIn) h = refl
rules_avoid (n.Cut n.MoreFormals) h = refl
rules_avoid (n.Cut n.Locals) h = refl
rules_avoid (n.Cut n.Title) h = refl
rules_avoid (n.Cut n.MoreBinds) h = refl
rules_avoid (n.Cut n.BindRest) h = refl
rules_avoid (n.Cut n.MoreStmts) h = refl
rules_avoid (n.Cut n.StmtRest) h = refl
rules_avoid (n.Cut n.IfArm) h = refl
rules_avoid (n.Cut n.MoreArms) h = refl
rules_avoid (n.Cut n.CaseArm) h = refl
rules_avoid (n.Cut n.Cases) h = refl
rules_avoid (n.Cut n.MoreLabels) h = refl
rules_avoid (n.Cut n.Otherwise) h = refl
rules_avoid (n.Cut n.Arguments) h = refl
rules_avoid (n.Cut n.MoreArgs) h = refl
rules_avoid (n.Cut n.OrLinks) h = refl
rules_avoid (n.Cut n.AndLinks) h = refl
rules_avoid (n.Cut n.SumLinks) h = refl
rules_avoid (n.Cut n.ProductLinks) h = refl
rules_avoid (n.Cut n.CompareSign) h = refl
rules_avoid (n.Cut n.SumSign) h = refl
rules_avoid (n.Cut n.ProductSign) h = refl
rules_avoid (n.Cut n.OneSelector) h = refl
rules_avoid (n.Cut n.Selectors) h = refl
rules_avoid (n.Cut n.NameRest) h = refl
rules_avoid (n.Cut n.NamePrimary) h = refl
rules_avoid (n.Cut n.OtherPrimary) h = refl
rules_avoid (n.Cut n.Binder) h = refl
rules_avoid (n.Cut n.OtherUnary) h = refl
rules_avoid (n.Cut n.OtherProduct) h = refl
rules_avoid (n.Cut n.OtherSum) h = refl
rules_avoid (n.Cut n.RangeTail) h = refl
rules_avoid (n.Cut n.RuleRest) h = refl
rules_avoid n.Declare h = refl
rules_avoid n.NameList h = refl
rules_avoid n.Routine h = refl
rules_avoid n.Formals h = refl
rules_avoid n.Formal h = refl
rules_avoid n.Body h = refl
rules_avoid n.TypeForm h = refl
rules_avoid n.Fields h = refl
rules_avoid n.Items h = refl
rules_avoid n.Item h = refl
rules_avoid n.Bind h = refl
rules_avoid n.Stmts h = refl
rules_avoid n.Stmt h = refl
rules_avoid n.Args h = refl
rules_avoid n.Expr h = refl
rules_avoid n.Implies h = refl
rules_avoid n.Or h = refl
rules_avoid n.And h = refl
rules_avoid n.Not h = refl
rules_avoid n.Compare h = refl
rules_avoid n.Sum h = refl
rules_avoid n.Product h = refl
rules_avoid n.Unary h = refl
rules_avoid n.Primary h = refl
rules_avoid n.Place h = refl
rules_avoid n.LemmaItem h = refl
rules_avoid n.FlowItem h = refl

no_end_one : (x : Token) (s : Symbol) (us : List Token) → symbol_of x ≡ s → not (is_end s) ≡ true → has_no_end us ≡ true → has_no_end (x ∷ us) ≡ true
no_end_one x s us e h p = go (is_end (symbol_of x)) (subst (λ z. not (is_end z) ≡ true) (sym e) h)
  where
    go : (b : Bool) → not b ≡ true → not b && has_no_end us ≡ true
    go true k = absurd (cc)
    go false k = p

no_end_both : (us vs : List Token) → has_no_end us ≡ true → has_no_end vs ≡ true → has_no_end (us ++ vs) ≡ true
no_end_both [] vs h k = k
no_end_both (x ∷ us) vs h k = go (not (is_end (symbol_of x))) h (λ e. no_end_both us vs e k)
  where
    go : (b : Bool) → b && has_no_end us ≡ true → (has_no_end us ≡ true → has_no_end (us ++ vs) ≡ true) → b && has_no_end (us ++ vs) ≡ true
    go true e more = more e
    go false e more = absurd (cc)

no_end_cut : (all us vs : List Token) → all ≡ us ++ vs → has_no_end us ≡ true → has_no_end vs ≡ true → has_no_end all ≡ true
no_end_cut all us vs e h k = subst (λ z. has_no_end z ≡ true) (sym e) (no_end_both us vs h k)

pub spelled : {r : Room} {f : Part} {us : List Token} {x : Tree murphi f} → Spells murphi r f us x → avoids f ≡ true → has_no_end us ≡ true
unfolding avoids
spelled (g.token x e) h = no_end_one x _ [] e h refl
spelled g.empty h = refl
spelled (g.seq {all = all} {vs = vs} {ws = ws} p q e) h = no_end_cut all vs ws e (spelled p (first _ _ h)) (spelled q (second _ _ h))
spelled (g.left p) h = spelled p (first _ _ h)
spelled (g.right p) h = spelled p (second _ _ h)
spelled g.none h = refl
spelled (g.more {all = all} {vs = vs} {ws = ws} p q e) h = no_end_cut all vs ws e (spelled p h) (spelled q h)
spelled (g.nest {us = us} x e i p) h = no_end_one x _ us e (first _ _ h) (spelled p (second _ _ h))
spelled (g.call {n = name} p e) h = spelled p (rules_avoid name h)

pub begun : {r : Room} {f : Part} {us : List Token} → Begins murphi r f us → avoids f ≡ true → has_no_end us ≡ true
unfolding avoids
begun g.nothing h = refl
begun (g.token x e) h = no_end_one x _ [] e h refl
begun (g.first p) h = begun p (first _ _ h)
begun (g.second {all = all} {vs = vs} {ws = ws} p q e) h = no_end_cut all vs ws e (spelled p (first _ _ h)) (begun q (second _ _ h))
begun (g.left p) h = begun p (first _ _ h)
begun (g.right p) h = begun p (second _ _ h)
begun (g.some {all = all} {vs = vs} {ws = ws} p q e) h = no_end_cut all vs ws e (spelled p h) (begun q h)
begun (g.nest {us = us} x e i p) h = no_end_one x _ us e (first _ _ h) (begun p (second _ _ h))
begun (g.call {n = name} p) h = begun p (rules_avoid name h)

-- from an index within a text on, the end of the text is among the tokens
pub end_ahead : (front : List Token) (last : Token) (at : ℕ) → symbol_of last ≡ t.EndOfText → at < length (front ++ last ∷ []) → has_no_end (drop at (front ++ last ∷ [])) ≡ false
end_ahead [] last zero e h = ap (λ z. not (is_end z) && true) e
end_ahead [] last (suc at) e h = absurd (omega arith)
end_ahead (x ∷ front) last zero e h = go (is_end (symbol_of x)) (end_ahead front last 0 e (short front last))
  where
    short : (front : List Token) (last : Token) → 0 < length (front ++ last ∷ [])
    short [] last = omega arith
    short (x ∷ front) last = omega arith

    go : (b : Bool) → has_no_end (front ++ last ∷ []) ≡ false → not b && has_no_end (front ++ last ∷ []) ≡ false
    go true k = refl
    go false k = k
end_ahead (x ∷ front) last (suc at) e h = end_ahead front last at e (omega arith)

pub ahead : (ts : List Token) (at : ℕ) → AreOfText ts → at < length ts → has_no_end (drop at ts) ≡ false
ahead ts at p h =
    subst (λ z. has_no_end (drop at z) ≡ false) (sym p.are) (end_ahead p.front p.last at p.ends (subst (λ z. at < length z) p.are h))
