-- What is read as statements, items, declarations and a protocol is spelled so.
use Rattle.std.proofs.Common.{◌≡◌, ℕ, zero, suc, cond, List, [], ◌∷◌, ◌++◌, Option, Some, None, refl, sym, ap, ◌∙◌, subst, append_assoc}
use Rattle.murphi_ast.specs.declared.text.Text.{Text}
use Rattle.murphi_ast.specs.declared.token.Span.{Span}
use Rattle.murphi_ast.specs.declared.token.Token.{Token}
use Rattle.murphi_ast.specs.declared.terminal.Terminal.{Terminal}
use Rattle.murphi_ast.specs.declared.terminal.Terminal.TheVariants as t
use Rattle.murphi_ast.specs.declared.expr.Expr.{Expr}
use Rattle.murphi_ast.specs.declared.stmt.Stmt.{Stmt, Assign}
use Rattle.murphi_ast.specs.declared.rule.RuleDecl.{RuleDecl, Rule, Start, Invariant}
use Rattle.murphi_ast.specs.Terminal.{terminal_of}
use Rattle.murphi_ast.specs.Grammar.{variable, Implication, Is, SpellsStmt, assignment, SpellsStmts, no_stmt, last_stmt, empty_stmt, one_more_stmt, SpellsTitle, untitled, titled, Ends, short_end, long_end, SpellsItem, rule as rule_item, start as start_item, invariant as invariant_item, SpellsItems, no_item, last_item, empty_item, one_more_item}
use Rattle.murphi_syntax.specs.Reading.{Read, after, with_front, read}
use Rattle.murphi_syntax.specs.Protocols.{one_by, one_then, assigned_by, assigned, stmts_by, stmts, title_by, title, behind_title_by, behind_title, ends_rule, ends_start, ended, guarded_by, guarded, rule, start, invariant, items_by, items}
use Rattle.murphi_syntax.proofs.ExprSound.{two, given, got, expr_sound}

-- what was read with one in front
pub record Front {A : Type 0} (one : A) (r : Read (List A)) (all : List A) (rest : List Token) : Type 0 where
  pub others : List A
  pub read_others : r ≡ Some (others, rest)
  pub same : one ∷ others ≡ all

pub front_read : {A : Type 0} (one : A) (r : Read (List A)) (all : List A) (rest : List Token) → with_front (one ∷ []) r ≡ Some (all, rest) → Front one r all rest
front_read one None all rest h = cc
front_read one (Some x) all rest h = record { others = x.0; read_others = ap (λ y. Some (x.0, y)) (given _ _ _ _ h).1; same = (given _ _ _ _ h).0 }

-- statements

record SpelledStmt (n : ℕ) (tokens : List Token) (stmt : Stmt) (rest : List Token) : Type 0 where
  front : List Token
  cut : tokens ≡ front ++ rest
  spells : SpellsStmt n front stmt

pub record SpelledStmts (n : ℕ) (tokens : List Token) (body : List Stmt) (rest : List Token) : Type 0 where
  pub front : List Token
  pub cut : tokens ≡ front ++ rest
  pub spells : SpellsStmts n front body

assigned_sound : (k n : ℕ) (token : Token) (ts : List Token) (stmt : Stmt) (rest : List Token) → Is t.Name token → assigned (read k Implication n) token ts ≡ Some (stmt, rest) → SpelledStmt n (token ∷ ts) stmt rest
assigned_sound k n token [] stmt rest is h = cc
assigned_sound k n token (sign ∷ ts) stmt rest is h = by_symbol (terminal_of sign) refl h
  where
    by_symbol : (s : Terminal) → terminal_of sign ≡ s → assigned_by (read k Implication n) token s (sign ∷ ts) ≡ Some (stmt, rest) → SpelledStmt n (token ∷ sign ∷ ts) stmt rest
    by_symbol t.Becomes is' h =
        let tw = two (λ v rest'. Some (Assign (variable token) v, rest')) (read k Implication n ts) stmt rest h in
        let value = expr_sound k n ts tw.first tw.mid tw.read_first in
        let same = given _ _ _ _ tw.read_second in
        record {
          front = token ∷ sign ∷ value.front;
          cut = ap (λ m. token ∷ sign ∷ m) (value.cut ∙ ap (λ m. value.front ++ m) same.1);
          spells = subst (λ y. SpellsStmt n (token ∷ sign ∷ value.front) y) same.0 (assignment token sign is is' value.spells);
        }
    by_symbol _ is' h = cc

abbrev SoundStmts : ℕ → ℕ → Type 0
SoundStmts k n = (tokens : List Token) (body : List Stmt) (rest : List Token) → stmts k n tokens ≡ Some (body, rest) → SpelledStmts n tokens body rest

-- behind a statement
stmt_then_sound : (k n : ℕ) → SoundStmts k n → (before mid : List Token) (stmt : Stmt) (body : List Stmt) (rest : List Token) → SpellsStmt n before stmt → one_then (stmts k n) stmt mid ≡ Some (body, rest) → SpelledStmts n (before ++ mid) body rest
stmt_then_sound k n ih before [] stmt body rest spells h =
    record { front = before; cut = ap (λ r. before ++ r) (given _ _ _ _ h).1; spells = subst (λ y. SpellsStmts n before y) (given _ _ _ _ h).0 (last_stmt spells) }
stmt_then_sound k n ih before (token ∷ ts) stmt body rest spells h = by_symbol (terminal_of token) refl h
  where
    by_symbol : (s : Terminal) → terminal_of token ≡ s → one_by (stmts k n) stmt s (token ∷ ts) ≡ Some (body, rest) → SpelledStmts n (before ++ token ∷ ts) body rest
    by_symbol t.Semicolon is h =
        let f = front_read stmt (stmts k n ts) body rest h in
        let others = ih ts f.others rest f.read_others in
        record {
          front = before ++ token ∷ others.front;
          cut = ap (λ m. before ++ token ∷ m) others.cut ∙ sym (append_assoc before (token ∷ others.front) rest);
          spells = subst (λ y. SpellsStmts n (before ++ token ∷ others.front) y) f.same (one_more_stmt token spells is others.spells refl);
        }
    by_symbol _ is h =
        record { front = before; cut = ap (λ r. before ++ r) (given _ _ _ _ h).1; spells = subst (λ y. SpellsStmts n before y) (given _ _ _ _ h).0 (last_stmt spells) }

stmts_step : (k n : ℕ) → SoundStmts k n → SoundStmts (suc k) n
unfolding stmts
stmts_step k n ih [] body rest h =
    record { front = []; cut = (given _ _ _ _ h).1; spells = subst (λ y. SpellsStmts n [] y) (given _ _ _ _ h).0 no_stmt }
stmts_step k n ih (token ∷ ts) body rest h = by_symbol (terminal_of token) refl h
  where
    by_symbol : (s : Terminal) → terminal_of token ≡ s → stmts_by (stmts k n) (read k Implication n) s token ts ≡ Some (body, rest) → SpelledStmts n (token ∷ ts) body rest
    by_symbol t.Semicolon is h =
        let others = ih ts body rest h in
        record { front = token ∷ others.front; cut = ap (λ m. token ∷ m) others.cut; spells = empty_stmt token is others.spells }
    by_symbol t.Name is h =
        let tw = two (one_then (stmts k n)) (assigned (read k Implication n) token ts) body rest h in
        let stmt = assigned_sound k n token ts tw.first tw.mid is tw.read_first in
        let all = stmt_then_sound k n ih stmt.front tw.mid tw.first body rest stmt.spells tw.read_second in
        record { front = all.front; cut = stmt.cut ∙ all.cut; spells = all.spells }
    by_symbol _ is h =
        record { front = []; cut = (given _ _ _ _ h).1; spells = subst (λ y. SpellsStmts n [] y) (given _ _ _ _ h).0 no_stmt }

pub stmts_sound : (k n : ℕ) → SoundStmts k n
unfolding stmts
stmts_sound zero n tokens body rest h = cc
stmts_sound (suc k) n tokens body rest h = stmts_step k n (stmts_sound k n) tokens body rest h

-- items

record SpelledItem (tokens : List Token) (item : RuleDecl) (rest : List Token) : Type 0 where
  front : List Token
  cut : tokens ≡ front ++ rest
  spells : SpellsItem front item

pub record SpelledItems (tokens : List Token) (all : List RuleDecl) (rest : List Token) : Type 0 where
  pub front : List Token
  pub cut : tokens ≡ front ++ rest
  pub spells : SpellsItems front all

-- the title that a list of tokens begins with, given the symbol of its first token
record TitleBy (symbol : Terminal) (token : Token) (ts : List Token) : Type 0 where
  front : List Token
  cut : token ∷ ts ≡ front ++ behind_title_by symbol token ts
  spells : SpellsTitle front (title_by symbol token)

title_by_sound : (symbol : Terminal) (token : Token) (ts : List Token) → terminal_of token ≡ symbol → TitleBy symbol token ts
title_by_sound t.Quoted token ts is = record { front = token ∷ []; cut = refl; spells = titled token is }
title_by_sound _ token ts is = record { front = []; cut = refl; spells = untitled }

record SpelledTitle (tokens : List Token) : Type 0 where
  front : List Token
  cut : tokens ≡ front ++ behind_title tokens
  spells : SpellsTitle front (title tokens)

title_sound : (tokens : List Token) → SpelledTitle tokens
title_sound [] = record { front = []; cut = refl; spells = untitled }
title_sound (token ∷ ts) =
    let b = title_by_sound (terminal_of token) token ts refl in
    record { front = b.front; cut = b.cut; spells = b.spells }

-- the end of a body
record Ended {A : Type 0} (word : Terminal) (item made : A) (mid rest : List Token) : Type 0 where
  end : Token
  cut : mid ≡ end ∷ rest
  is : Ends word end
  same : item ≡ made

ended_rule_sound : {A : Type 0} (item made : A) (mid rest : List Token) → ended ends_rule item mid ≡ Some (made, rest) → Ended t.EndRule item made mid rest
ended_rule_sound item made [] rest h = cc
ended_rule_sound {A} item made (token ∷ ts) rest h = by_symbol (terminal_of token) refl h
  where
    by_symbol : (s : Terminal) → terminal_of token ≡ s → cond (ends_rule s) (got item ts) None ≡ Some (made, rest) → Ended t.EndRule item made (token ∷ ts) rest
    by_symbol t.End is h = record { end = token; cut = ap (λ r. token ∷ r) (given _ _ _ _ h).1; is = short_end is; same = (given _ _ _ _ h).0 }
    by_symbol t.EndRule is h = record { end = token; cut = ap (λ r. token ∷ r) (given _ _ _ _ h).1; is = long_end is; same = (given _ _ _ _ h).0 }
    by_symbol _ is h = cc

ended_start_sound : {A : Type 0} (item made : A) (mid rest : List Token) → ended ends_start item mid ≡ Some (made, rest) → Ended t.EndStartState item made mid rest
ended_start_sound item made [] rest h = cc
ended_start_sound {A} item made (token ∷ ts) rest h = by_symbol (terminal_of token) refl h
  where
    by_symbol : (s : Terminal) → terminal_of token ≡ s → cond (ends_start s) (got item ts) None ≡ Some (made, rest) → Ended t.EndStartState item made (token ∷ ts) rest
    by_symbol t.End is h = record { end = token; cut = ap (λ r. token ∷ r) (given _ _ _ _ h).1; is = short_end is; same = (given _ _ _ _ h).0 }
    by_symbol t.EndStartState is h = record { end = token; cut = ap (λ r. token ∷ r) (given _ _ _ _ h).1; is = long_end is; same = (given _ _ _ _ h).0 }
    by_symbol _ is h = cc

-- lists cut one behind another
cut_three : (a b c rest : List Token) → ((a ++ b) ++ c) ++ rest ≡ a ++ (b ++ (c ++ rest))
cut_three a b c rest = append_assoc (a ++ b) c rest ∙ append_assoc a b (c ++ rest)

cut_four : (a b c d rest : List Token) → (((a ++ b) ++ c) ++ d) ++ rest ≡ a ++ (b ++ (c ++ (d ++ rest)))
cut_four a b c d rest = append_assoc ((a ++ b) ++ c) d rest ∙ cut_three a b c (d ++ rest)

-- what stands behind the guard of a rule
record SpelledGuarded (string : Option Text) (place : Span) (guard : Expr) (mid : List Token) (item : RuleDecl) (rest : List Token) : Type 0 where
  then : Token
  body : List Token
  stmts : List Stmt
  end : Token
  cut : mid ≡ then ∷ body ++ (end ∷ rest)
  is : Is t.Then then
  spells : SpellsStmts 1 body stmts
  ends : Ends t.EndRule end
  same : Rule string (Some guard) [] stmts place ≡ item

guarded_sound : (k : ℕ) (string : Option Text) (place : Span) (guard : Expr) (mid : List Token) (item : RuleDecl) (rest : List Token) → guarded (stmts k 1) string place guard mid ≡ Some (item, rest) → SpelledGuarded string place guard mid item rest
guarded_sound k string place guard [] item rest h = cc
guarded_sound k string place guard (token ∷ ts) item rest h = by_symbol (terminal_of token) refl h
  where
    by_symbol : (s : Terminal) → terminal_of token ≡ s → guarded_by (stmts k 1) string place guard s (token ∷ ts) ≡ Some (item, rest) → SpelledGuarded string place guard (token ∷ ts) item rest
    by_symbol t.Then is h =
        let tw = two (λ body rest'. ended ends_rule (Rule string (Some guard) [] body place) rest') (stmts k 1 ts) item rest h in
        let body = stmts_sound k 1 ts tw.first tw.mid tw.read_first in
        let end = ended_rule_sound (Rule string (Some guard) [] tw.first place) item tw.mid rest tw.read_second in
        record {
          then = token;
          body = body.front;
          stmts = tw.first;
          end = end.end;
          cut = ap (λ m. token ∷ m) (body.cut ∙ ap (λ m. body.front ++ m) end.cut);
          is = is;
          spells = body.spells;
          ends = end.is;
          same = end.same;
        }
    by_symbol _ is h = cc

rule_sound : (k : ℕ) (word : Token) (ts : List Token) (item : RuleDecl) (rest : List Token) → Is t.Rule word → rule k word.at ts ≡ Some (item, rest) → SpelledItem (word ∷ ts) item rest
rule_sound k word ts item rest is h =
    let string = title_sound ts in
    let tw = two (guarded (stmts k 1) (title ts) word.at) (read k Implication 1 (behind_title ts)) item rest h in
    let guard = expr_sound k 1 (behind_title ts) tw.first tw.mid tw.read_first in
    let g = guarded_sound k (title ts) word.at tw.first tw.mid item rest tw.read_second in
    record {
      front = word ∷ string.front ++ guard.front ++ g.then ∷ g.body ++ g.end ∷ [];
      cut = ap (λ m. word ∷ m) (string.cut ∙ ap (λ m. string.front ++ m) (guard.cut ∙ ap (λ m. guard.front ++ m) g.cut))
          ∙ sym (cut_four (word ∷ string.front) guard.front (g.then ∷ g.body) (g.end ∷ []) rest);
      spells = subst (λ y. SpellsItem (word ∷ string.front ++ guard.front ++ g.then ∷ g.body ++ g.end ∷ []) y) g.same
          (rule_item word g.then g.end is string.spells guard.spells g.is g.spells g.ends refl);
    }

start_sound : (k : ℕ) (word : Token) (ts : List Token) (item : RuleDecl) (rest : List Token) → Is t.StartState word → start k word.at ts ≡ Some (item, rest) → SpelledItem (word ∷ ts) item rest
start_sound k word ts item rest is h =
    let string = title_sound ts in
    let tw = two (λ body rest'. ended ends_start (Start (title ts) [] body word.at) rest') (stmts k 1 (behind_title ts)) item rest h in
    let body = stmts_sound k 1 (behind_title ts) tw.first tw.mid tw.read_first in
    let end = ended_start_sound (Start (title ts) [] tw.first word.at) item tw.mid rest tw.read_second in
    record {
      front = word ∷ string.front ++ body.front ++ end.end ∷ [];
      cut = ap (λ m. word ∷ m) (string.cut ∙ ap (λ m. string.front ++ m) (body.cut ∙ ap (λ m. body.front ++ m) end.cut))
          ∙ sym (cut_three (word ∷ string.front) body.front (end.end ∷ []) rest);
      spells = subst (λ y. SpellsItem (word ∷ string.front ++ body.front ++ end.end ∷ []) y) end.same
          (start_item word end.end is string.spells body.spells end.is refl);
    }

invariant_sound : (k : ℕ) (word : Token) (ts : List Token) (item : RuleDecl) (rest : List Token) → Is t.Invariant word → invariant k word.at ts ≡ Some (item, rest) → SpelledItem (word ∷ ts) item rest
invariant_sound k word ts item rest is h =
    let string = title_sound ts in
    let tw = two (λ claim rest'. Some (Invariant (title ts) claim word.at, rest')) (read k Implication 1 (behind_title ts)) item rest h in
    let claim = expr_sound k 1 (behind_title ts) tw.first tw.mid tw.read_first in
    let same = given _ _ _ _ tw.read_second in
    record {
      front = word ∷ string.front ++ claim.front;
      cut = ap (λ m. word ∷ m) (string.cut ∙ ap (λ m. string.front ++ m) (claim.cut ∙ ap (λ m. claim.front ++ m) same.1))
          ∙ sym (append_assoc (word ∷ string.front) claim.front rest);
      spells = subst (λ y. SpellsItem (word ∷ string.front ++ claim.front) y) same.0
          (invariant_item word is string.spells claim.spells refl);
    }

abbrev SoundItems : ℕ → Type 0
SoundItems k = (tokens : List Token) (all : List RuleDecl) (rest : List Token) → items k tokens ≡ Some (all, rest) → SpelledItems tokens all rest

-- behind an item
item_then_sound : (k : ℕ) → SoundItems k → (before mid : List Token) (item : RuleDecl) (all : List RuleDecl) (rest : List Token) → SpellsItem before item → one_then (items k) item mid ≡ Some (all, rest) → SpelledItems (before ++ mid) all rest
item_then_sound k ih before [] item all rest spells h =
    record { front = before; cut = ap (λ r. before ++ r) (given _ _ _ _ h).1; spells = subst (λ y. SpellsItems before y) (given _ _ _ _ h).0 (last_item spells) }
item_then_sound k ih before (token ∷ ts) item all rest spells h = by_symbol (terminal_of token) refl h
  where
    by_symbol : (s : Terminal) → terminal_of token ≡ s → one_by (items k) item s (token ∷ ts) ≡ Some (all, rest) → SpelledItems (before ++ token ∷ ts) all rest
    by_symbol t.Semicolon is h =
        let f = front_read item (items k ts) all rest h in
        let others = ih ts f.others rest f.read_others in
        record {
          front = before ++ token ∷ others.front;
          cut = ap (λ m. before ++ token ∷ m) others.cut ∙ sym (append_assoc before (token ∷ others.front) rest);
          spells = subst (λ y. SpellsItems (before ++ token ∷ others.front) y) f.same (one_more_item token spells is others.spells refl);
        }
    by_symbol _ is h =
        record { front = before; cut = ap (λ r. before ++ r) (given _ _ _ _ h).1; spells = subst (λ y. SpellsItems before y) (given _ _ _ _ h).0 (last_item spells) }

-- an item, and what stands behind it
item_sound : (k : ℕ) → SoundItems k → (token : Token) (ts : List Token) (r : Read RuleDecl) (all : List RuleDecl) (rest : List Token) → ((item : RuleDecl) (mid : List Token) → r ≡ Some (item, mid) → SpelledItem (token ∷ ts) item mid) → after (one_then (items k)) r ≡ Some (all, rest) → SpelledItems (token ∷ ts) all rest
item_sound k ih token ts r all rest one h =
    let tw = two (one_then (items k)) r all rest h in
    let item = one tw.first tw.mid tw.read_first in
    let others = item_then_sound k ih item.front tw.mid tw.first all rest item.spells tw.read_second in
    record { front = others.front; cut = item.cut ∙ others.cut; spells = others.spells }

items_step : (k : ℕ) → SoundItems k → SoundItems (suc k)
unfolding items
items_step k ih [] all rest h =
    record { front = []; cut = (given _ _ _ _ h).1; spells = subst (λ y. SpellsItems [] y) (given _ _ _ _ h).0 no_item }
items_step k ih (token ∷ ts) all rest h = by_symbol (terminal_of token) refl h
  where
    by_symbol : (s : Terminal) → terminal_of token ≡ s → items_by (items k) k s token ts ≡ Some (all, rest) → SpelledItems (token ∷ ts) all rest
    by_symbol t.Semicolon is h =
        let others = ih ts all rest h in
        record { front = token ∷ others.front; cut = ap (λ m. token ∷ m) others.cut; spells = empty_item token is others.spells }
    by_symbol t.Rule is h = item_sound k ih token ts (rule k token.at ts) all rest (λ item mid r. rule_sound k token ts item mid is r) h
    by_symbol t.StartState is h = item_sound k ih token ts (start k token.at ts) all rest (λ item mid r. start_sound k token ts item mid is r) h
    by_symbol t.Invariant is h = item_sound k ih token ts (invariant k token.at ts) all rest (λ item mid r. invariant_sound k token ts item mid is r) h
    by_symbol _ is h =
        record { front = []; cut = (given _ _ _ _ h).1; spells = subst (λ y. SpellsItems [] y) (given _ _ _ _ h).0 no_item }

pub items_sound : (k : ℕ) → SoundItems k
unfolding items
items_sound zero tokens all rest h = cc
items_sound (suc k) tokens all rest h = items_step k (items_sound k) tokens all rest h
