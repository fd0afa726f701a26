-- A text that spells a flat protocol has no word that none of its forms has.
use Rattle.std.proofs.Common.{◌≡◌, ℕ, Bool, true, false, cond, List, [], ◌∷◌, ◌++◌, Option, Some, None, refl, ap, ◌∙◌}
use Rattle.murphi_ast.specs.declared.text.Text.{Text}
use Rattle.murphi_ast.specs.declared.token.Token.{Token}
use Rattle.murphi_ast.specs.declared.terminal.Terminal.{Terminal}
use Rattle.murphi_ast.specs.declared.terminal.Terminal.TheVariants as t
use Rattle.murphi_ast.specs.declared.expr.ChainOp.{ChainOp}
use Rattle.murphi_ast.specs.declared.expr.ChainOp.TheVariants as chain
use Rattle.murphi_ast.specs.declared.expr.Named.{Named}
use Rattle.murphi_ast.specs.declared.expr.Link.{Link}
use Rattle.murphi_ast.specs.declared.expr.Expr.{Expr}
use Rattle.murphi_ast.specs.declared.stmt.Stmt.{Stmt}
use Rattle.murphi_ast.specs.declared.decl.Decl.{Decl}
use Rattle.murphi_ast.specs.declared.rule.RuleDecl.{RuleDecl}
use Rattle.murphi_ast.specs.declared.rule.Protocol.{Protocol}
use Rattle.murphi_ast.specs.Terminal.{terminal_of}
use Rattle.murphi_ast.specs.Grammar.{Is, Level, chain_sign, SpellsExpr, truth, falsity, name, group, equal, not_equal, primary, negation, conjunction, one_conjunct, disjunction, one_disjunct, implication, no_implication, SpellsLinks, last_link, one_more_link, SpellsStmt, assignment, SpellsStmts, no_stmt, last_stmt, empty_stmt, one_more_stmt, SpellsTitle, untitled, titled, Ends, short_end, long_end, SpellsItem, rule, start, invariant, SpellsItems, no_item, last_item, empty_item, one_more_item, SpellsNames, last_name, one_more_name, SpellsDecls, no_decl, var_word, SpellsVariables, no_more, variables, SpellsProtocol, protocol}
use Rattle.murphi_ast.specs.Flat.{is_other, first_other_word}

abbrev Clean : List Token → Type 0
Clean ts = first_other_word ts ≡ None

behind_clean : (token : Token) (ts : List Token) → is_other (terminal_of token) ≡ false → Clean ts → Clean (token ∷ ts)
behind_clean token ts is h = ap (λ b. cond b (Some token.at) (first_other_word ts)) is ∙ h

-- a token of another symbol in front
on : (s : Terminal) (token : Token) (ts : List Token) → Is s token → is_other s ≡ false → Clean ts → Clean (token ∷ ts)
on s token ts is other h = behind_clean token ts (ap is_other is ∙ other) h

-- a token that stands alone
alone : (s : Terminal) (token : Token) → Is s token → is_other s ≡ false → Clean (token ∷ [])
alone s token is other = on s token [] is other refl

both : (a b : List Token) → Clean a → Clean b → Clean (a ++ b)
both [] b h g = g
both (token ∷ a) b h g = by_symbol (is_other (terminal_of token)) refl h (both a b)
  where
    by_symbol : (o : Bool) → is_other (terminal_of token) ≡ o → cond o (Some token.at) (first_other_word a) ≡ None → (Clean a → Clean b → Clean (a ++ b)) → Clean (token ∷ a ++ b)
    by_symbol true is h again = cc
    by_symbol false is h again = behind_clean token (a ++ b) is (again h g)

sign_clean : (op : ChainOp) → is_other (chain_sign op) ≡ false
sign_clean chain.And = refl
sign_clean _ = refl

mutual
  expr_clean : {level : Level} {n : ℕ} {front : List Token} {body : Expr} → SpellsExpr level n front body → Clean front
  expr_clean (truth token is) = alone t.True token is refl
  expr_clean (falsity token is) = alone t.False token is refl
  expr_clean (name token is) = alone t.Name token is refl
  expr_clean (group {inner = inner} left right deep is spells is' cut) =
      ap first_other_word cut ∙ on t.Open left (inner ++ right ∷ []) is refl (both inner (right ∷ []) (expr_clean spells) (alone t.Close right is' refl))
  expr_clean (equal {before = before} {behind = behind} sign l is r cut) =
      ap first_other_word cut ∙ both before (sign ∷ behind) (expr_clean l) (on t.Equal sign behind is refl (expr_clean r))
  expr_clean (not_equal {before = before} {behind = behind} sign l is r cut) =
      ap first_other_word cut ∙ both before (sign ∷ behind) (expr_clean l) (on t.NotEqual sign behind is refl (expr_clean r))
  expr_clean (primary spells) = expr_clean spells
  expr_clean (negation {inner = inner} bang deep is spells) = on t.Bang bang inner is refl (expr_clean spells)
  expr_clean (conjunction {before = before} {behind = behind} l ls cut) = ap first_other_word cut ∙ both before behind (expr_clean l) (links_clean ls)
  expr_clean (one_conjunct spells) = expr_clean spells
  expr_clean (disjunction {before = before} {behind = behind} l ls cut) = ap first_other_word cut ∙ both before behind (expr_clean l) (links_clean ls)
  expr_clean (one_disjunct spells) = expr_clean spells
  expr_clean (implication {before = before} {behind = behind} arrow l deep is r cut) =
      ap first_other_word cut ∙ both before (arrow ∷ behind) (expr_clean l) (on t.Arrow arrow behind is refl (expr_clean r))
  expr_clean (no_implication spells) = expr_clean spells

  links_clean : {op : ChainOp} {n : ℕ} {front : List Token} {more : List Link} → SpellsLinks op n front more → Clean front
  links_clean (last_link {op = op} {operand = operand} sign is spells) = on (chain_sign op) sign operand is (sign_clean op) (expr_clean spells)
  links_clean (one_more_link {op = op} {operand = operand} {behind = behind} sign is spells ls cut) =
      ap first_other_word cut ∙ on (chain_sign op) sign (operand ++ behind) is (sign_clean op) (both operand behind (expr_clean spells) (links_clean ls))

stmt_clean : {n : ℕ} {front : List Token} {stmt : Stmt} → SpellsStmt n front stmt → Clean front
stmt_clean (assignment {behind = behind} to sign is is' spells) = on t.Name to (sign ∷ behind) is refl (on t.Becomes sign behind is' refl (expr_clean spells))

stmts_clean : {n : ℕ} {front : List Token} {body : List Stmt} → SpellsStmts n front body → Clean front
stmts_clean no_stmt = refl
stmts_clean (last_stmt spells) = stmt_clean spells
stmts_clean (empty_stmt {behind = behind} token is more) = on t.Semicolon token behind is refl (stmts_clean more)
stmts_clean (one_more_stmt {before = before} {behind = behind} token spells is more cut) =
    ap first_other_word cut ∙ both before (token ∷ behind) (stmt_clean spells) (on t.Semicolon token behind is refl (stmts_clean more))

title_clean : {front : List Token} {string : Option Text} → SpellsTitle front string → Clean front
title_clean untitled = refl
title_clean (titled token is) = alone t.Quoted token is refl

end_clean : (word : Terminal) (token : Token) → is_other word ≡ false → Ends word token → Clean (token ∷ [])
end_clean word token other (short_end is) = alone t.End token is refl
end_clean word token other (long_end is) = alone word token is other

item_clean : {front : List Token} {item : RuleDecl} → SpellsItem front item → Clean front
item_clean (rule {title = tf} {guard = guard} {body = body} word then end is heading spells is' bodied ends cut) =
    ap first_other_word cut
    ∙ both ((word ∷ tf ++ guard) ++ then ∷ body) (end ∷ [])
    (both (word ∷ tf ++ guard) (then ∷ body) (both (word ∷ tf) guard (on t.Rule word tf is refl (title_clean heading)) (expr_clean spells)) (on t.Then then body is' refl (stmts_clean bodied)))
    (end_clean t.EndRule end refl ends)
item_clean (start {title = tf} {body = body} word end is heading bodied ends cut) =
    ap first_other_word cut
    ∙ both (word ∷ tf ++ body) (end ∷ []) (both (word ∷ tf) body (on t.StartState word tf is refl (title_clean heading)) (stmts_clean bodied)) (end_clean t.EndStartState end refl ends)
item_clean (invariant {title = tf} {body = body} word is heading spells cut) =
    ap first_other_word cut ∙ both (word ∷ tf) body (on t.Invariant word tf is refl (title_clean heading)) (expr_clean spells)

items_clean : {front : List Token} {all : List RuleDecl} → SpellsItems front all → Clean front
items_clean no_item = refl
items_clean (last_item spells) = item_clean spells
items_clean (empty_item {behind = behind} token is more) = on t.Semicolon token behind is refl (items_clean more)
items_clean (one_more_item {before = before} {behind = behind} token spells is more cut) =
    ap first_other_word cut ∙ both before (token ∷ behind) (item_clean spells) (on t.Semicolon token behind is refl (items_clean more))

names_clean : {front : List Token} {ns : List Named} → SpellsNames front ns → Clean front
names_clean (last_name token is) = alone t.Name token is refl
names_clean (one_more_name {behind = behind} token comma is is' more) = on t.Name token (comma ∷ behind) is refl (on t.Comma comma behind is' refl (names_clean more))

mutual
  decls_clean : {front : List Token} {ds : List Decl} → SpellsDecls front ds → Clean front
  decls_clean no_decl = refl
  decls_clean (var_word {behind = behind} token is more) = on t.Var token behind is refl (variables_clean more)

  variables_clean : {front : List Token} {ds : List Decl} → SpellsVariables front ds → Clean front
  variables_clean (no_more spells) = decls_clean spells
  variables_clean (variables {names = nf} {behind = behind} colon word semicolon spells a b c more cut) =
      ap first_other_word cut ∙ both nf (colon ∷ word ∷ semicolon ∷ behind) (names_clean spells)
      (on t.Colon colon (word ∷ semicolon ∷ behind) a refl (on t.Boolean word (semicolon ∷ behind) b refl (on t.Semicolon semicolon behind c refl (variables_clean more))))

pub protocol_clean : {tokens : List Token} {p : Protocol} → SpellsProtocol tokens p → first_other_word tokens ≡ None
protocol_clean (protocol {decls = df} {items = itf} end ds is' is cut) =
    ap first_other_word cut ∙ both (df ++ itf) (end ∷ []) (both df itf (decls_clean ds) (items_clean is')) (alone t.EndOfText end is refl)
