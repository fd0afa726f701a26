-- What spells statements, items and declarations is read as them.
use Rattle.std.proofs.Common.{◌≡◌, ℕ, Bool, true, false, cond, List, [], ◌∷◌, ◌++◌, Option, Some, None, refl, sym, ap, ◌∙◌, subst, append_assoc}
use Rattle.murphi_ast.specs.declared.text.Text.{Text}
use Rattle.murphi_ast.specs.declared.token.Token.{Token}
use Rattle.murphi_ast.specs.declared.terminal.Terminal.{Terminal}
use Rattle.murphi_ast.specs.declared.terminal.Terminal.TheVariants as t
use Rattle.murphi_ast.specs.declared.expr.Expr.{Expr}
use Rattle.murphi_ast.specs.declared.stmt.Stmt.{Stmt, Assign}
use Rattle.murphi_ast.specs.declared.rule.RuleDecl.{RuleDecl, Rule, Start, Invariant}
use Rattle.murphi_ast.specs.Terminal.{terminal_of}
use Rattle.murphi_ast.specs.Grammar.{variable, Implication, Is, SpellsExpr, SpellsStmt, assignment, SpellsStmts, no_stmt, last_stmt, empty_stmt, one_more_stmt, SpellsTitle, untitled, titled, Ends, short_end, long_end, SpellsItem, rule as rule_item, start as start_item, invariant as invariant_item, SpellsItems, no_item, last_item, empty_item, one_more_item}
use Rattle.murphi_syntax.specs.Reading.{Read, Eventually, after, with_front, head, read}
use Rattle.murphi_syntax.specs.Protocols.{one_by, one_then, assigned_by, assigned, stmts_by, stmts, title_by, title, behind_title_by, behind_title, ends_rule, ends_start, ended, guarded_by, guarded, rule, start, invariant, items_by, items}
use Rattle.murphi_syntax.proofs.Turns.{always, one_more_turn, goes_on, same_turns}
use Rattle.murphi_syntax.proofs.SoFar.{with_one}
use Rattle.murphi_syntax.proofs.ListArms.{one_by_not}
use Rattle.murphi_syntax.proofs.ExprComplete.{stops_implication, expr_complete, begins_expr, expr_begins}

-- lists with semicolons

-- behind one, over a semicolon
semicolon_then : {A : Type 0} (f : ℕ → List Token → Read (List A)) (one : A) (others : List A) (token : Token) (mid rest : List Token) → Is t.Semicolon token → Eventually (λ k. f k mid) (Some (others, rest)) → Eventually (λ k. one_then (f k) one (token ∷ mid)) (Some (one ∷ others, rest))
semicolon_then f one others token mid rest is h =
    same_turns _ (λ k. with_front (one ∷ []) (f k mid)) _ (λ k. ap (λ s. one_by (f k) one s (token ∷ mid)) is) (with_one (λ k. f k mid) one (Some (others, rest)) h)

-- behind one, at the end
end_then : {A : Type 0} (f : ℕ → List Token → Read (List A)) (one : A) (rest : List Token) → (head rest ≡ t.Semicolon → ⊥) → Eventually (λ k. one_then (f k) one rest) (Some (one ∷ [], rest))
end_then f one rest h = always _ _ (λ k. one_by_not (f k) one (head rest) rest h)

-- statements

-- the symbols that end statements
abbrev pub ends_stmts : Terminal → Bool
ends_stmts t.End = true
ends_stmts t.EndRule = true
ends_stmts t.EndStartState = true
ends_stmts _ = false

ends_stops : (s : Terminal) → ends_stmts s ≡ true → stops_implication s ≡ true
ends_stops t.End h = refl
ends_stops t.EndRule h = refl
ends_stops t.EndStartState h = refl
ends_stops _ h = cc

ends_no_semicolon : (s : Terminal) → ends_stmts s ≡ true → s ≡ t.Semicolon → ⊥
ends_no_semicolon t.Semicolon h e = cc
ends_no_semicolon _ h e = cc

stmts_by_end : (more : List Token → Read (List Stmt)) (value : List Token → Read Expr) (s : Terminal) (token : Token) (rest : List Token) → ends_stmts s ≡ true → stmts_by more value s token rest ≡ Some ([], token ∷ rest)
stmts_by_end more value t.End token rest h = refl
stmts_by_end more value t.EndRule token rest h = refl
stmts_by_end more value t.EndStartState token rest h = refl
stmts_by_end more value _ token rest h = cc

abbrev CompleteStmts : ℕ → List Token → List Stmt → Type 0
CompleteStmts n front body = (rest : List Token) → ends_stmts (head rest) ≡ true → Eventually (λ k. stmts k n (front ++ rest)) (Some (body, rest))

no_stmt_complete : (n : ℕ) → CompleteStmts n [] []
unfolding stmts
no_stmt_complete n [] h = cc
no_stmt_complete n (token ∷ rest) h =
    one_more_turn (λ k. stmts k n (token ∷ rest)) (λ k. Some ([], token ∷ rest)) _
    (λ k. stmts_by_end (stmts k n) (read k Implication n) (terminal_of token) token rest h) (always _ _ (λ k. refl))

empty_stmt_complete : (n : ℕ) (token : Token) (behind : List Token) (body : List Stmt) → Is t.Semicolon token → CompleteStmts n behind body → CompleteStmts n (token ∷ behind) body
unfolding stmts
empty_stmt_complete n token behind body is ih rest h =
    one_more_turn (λ k. stmts k n (token ∷ behind ++ rest)) (λ k. stmts k n (behind ++ rest)) _
    (λ k. ap (λ s. stmts_by (stmts k n) (read k Implication n) s token (behind ++ rest)) is) (ih rest h)

-- an assignment, and what stands behind it
stmt_with : (n : ℕ) (front mid : List Token) (stmt : Stmt) (r : Read (List Stmt)) → SpellsStmt n front stmt → stops_implication (head mid) ≡ true → Eventually (λ k. one_then (stmts k n) stmt mid) r → Eventually (λ k. stmts k n (front ++ mid)) r
unfolding stmts
stmt_with n _ mid _ r (assignment {behind = behind} {value = value} to sign is is' spells) h g =
    one_more_turn (λ k. stmts k n (to ∷ sign ∷ behind ++ mid)) (λ k. after (one_then (stmts k n)) (assigned (read k Implication n) to (sign ∷ behind ++ mid))) r
    (λ k. ap (λ s. stmts_by (stmts k n) (read k Implication n) s to (sign ∷ behind ++ mid)) is)
    (goes_on (λ k. assigned (read k Implication n) to (sign ∷ behind ++ mid)) (λ k. one_then (stmts k n)) (Assign (variable to) value) mid r
    (same_turns _ (λ k. after (λ v rest'. Some (Assign (variable to) v, rest')) (read k Implication n (behind ++ mid))) _
    (λ k. ap (λ s. assigned_by (read k Implication n) to s (sign ∷ behind ++ mid)) is')
    (goes_on (λ k. read k Implication n (behind ++ mid)) (λ k v rest'. Some (Assign (variable to) v, rest')) value mid _ (expr_complete n behind value spells mid h) (always _ _ (λ k. refl)))) g)

pub stmts_complete : {n : ℕ} {front : List Token} {body : List Stmt} → SpellsStmts n front body → CompleteStmts n front body
stmts_complete {n} no_stmt = no_stmt_complete n
stmts_complete {n} (last_stmt {all = all} {stmt = stmt} spells) =
    λ rest h. stmt_with n all rest stmt _ spells (ends_stops (head rest) h) (end_then (λ k. stmts k n) stmt rest (ends_no_semicolon (head rest) h))
stmts_complete {n} (empty_stmt {behind = behind} {rest = body} token is spells) = empty_stmt_complete n token behind body is (stmts_complete spells)
stmts_complete {n} (one_more_stmt {before = before} {behind = behind} {stmt = stmt} {rest = others} token spells is more cut) =
    λ rest h. subst (λ ts. Eventually (λ k. stmts k n ts) (Some (stmt ∷ others, rest))) (sym (ap (λ f. f ++ rest) cut ∙ append_assoc before (token ∷ behind) rest))
    (stmt_with n before (token ∷ behind ++ rest) stmt _ spells (ap stops_implication is) (semicolon_then (λ k. stmts k n) stmt others token (behind ++ rest) rest is (stmts_complete more rest h)))

-- titles

title_complete : (front : List Token) (string : Option Text) (token : Token) (rest : List Token) → SpellsTitle front string → (terminal_of token ≡ t.Quoted → ⊥) → (title (front ++ token ∷ rest) ≡ string) × (behind_title (front ++ token ∷ rest) ≡ token ∷ rest)
title_complete front string token rest untitled h = (title_by_not (terminal_of token) h, behind_title_by_not (terminal_of token) h)
  where
    title_by_not : (s : Terminal) → (s ≡ t.Quoted → ⊥) → title_by s token ≡ None
    title_by_not t.Quoted h = absurd (h refl)
    title_by_not _ h = refl

    behind_title_by_not : (s : Terminal) → (s ≡ t.Quoted → ⊥) → behind_title_by s token rest ≡ token ∷ rest
    behind_title_by_not t.Quoted h = absurd (h refl)
    behind_title_by_not _ h = refl
title_complete front string token rest (titled quoted is) h =
    (ap (λ s. title_by s quoted) is, ap (λ s. behind_title_by s quoted (token ∷ rest)) is)

no_quote_expr : (s : Terminal) → begins_expr s ≡ true → s ≡ t.Quoted → ⊥
no_quote_expr t.Quoted h e = cc
no_quote_expr _ h e = cc

-- the end of a body

ends_rule_is : (end : Token) → Ends t.EndRule end → ends_rule (terminal_of end) ≡ true
ends_rule_is end (short_end is) = ap ends_rule is
ends_rule_is end (long_end is) = ap ends_rule is

ends_start_is : (end : Token) → Ends t.EndStartState end → ends_start (terminal_of end) ≡ true
ends_start_is end (short_end is) = ap ends_start is
ends_start_is end (long_end is) = ap ends_start is

ends_rule_stmts : (end : Token) → Ends t.EndRule end → ends_stmts (terminal_of end) ≡ true
ends_rule_stmts end (short_end is) = ap ends_stmts is
ends_rule_stmts end (long_end is) = ap ends_stmts is

ends_start_stmts : (end : Token) → Ends t.EndStartState end → ends_stmts (terminal_of end) ≡ true
ends_start_stmts end (short_end is) = ap ends_stmts is
ends_start_stmts end (long_end is) = ap ends_stmts is

-- a list of tokens that does not begin with a string
record Unquoted (tokens : List Token) : Type 0 where
  token : Token
  more : List Token
  cut : tokens ≡ token ∷ more
  unquoted : terminal_of token ≡ t.Quoted → ⊥

-- the title in front of it
title_before : (front : List Token) (string : Option Text) (tokens : List Token) → SpellsTitle front string → Unquoted tokens → (title (front ++ tokens) ≡ string) × (behind_title (front ++ tokens) ≡ tokens)
title_before front string tokens spells u =
    let both = title_complete front string u.token u.more spells u.unquoted in
    (ap (λ ts. title (front ++ ts)) u.cut ∙ both.0, ap (λ ts. behind_title (front ++ ts)) u.cut ∙ both.1 ∙ sym u.cut)

expr_unquoted : {n : ℕ} {front : List Token} {body : Expr} (behind : List Token) → SpellsExpr Implication n front body → Unquoted (front ++ behind)
expr_unquoted behind spells =
    let b = expr_begins spells in
    record { token = b.token; more = b.more ++ behind; cut = ap (λ f. f ++ behind) b.cut; unquoted = no_quote_expr (terminal_of b.token) b.first }

name_unquoted : (token : Token) (s : Terminal) → Is s token → (s ≡ t.Quoted → ⊥) → terminal_of token ≡ t.Quoted → ⊥
name_unquoted token s is h e = h (sym is ∙ e)

stmt_unquoted : {n : ℕ} {front : List Token} {stmt : Stmt} (behind : List Token) → SpellsStmt n front stmt → Unquoted (front ++ behind)
stmt_unquoted behind (assignment to sign is is' spells) =
    record { token = to; more = _; cut = refl; unquoted = name_unquoted to t.Name is (λ e. cc) }

stmts_unquoted : {n : ℕ} {front : List Token} {body : List Stmt} (end : Token) (mid : List Token) → SpellsStmts n front body → (terminal_of end ≡ t.Quoted → ⊥) → Unquoted (front ++ end ∷ mid)
stmts_unquoted end mid no_stmt h = record { token = end; more = mid; cut = refl; unquoted = h }
stmts_unquoted end mid (last_stmt spells) h = stmt_unquoted (end ∷ mid) spells
stmts_unquoted end mid (empty_stmt token is spells) h = record { token = token; more = _; cut = refl; unquoted = name_unquoted token t.Semicolon is (λ e. cc) }
stmts_unquoted end mid (one_more_stmt {before = before} {behind = behind} token spells is more cut) h =
    let u = stmt_unquoted (token ∷ behind ++ (end ∷ mid)) spells in
    record { token = u.token; more = u.more; cut = ap (λ f. f ++ end ∷ mid) cut ∙ append_assoc before (token ∷ behind) (end ∷ mid) ∙ u.cut; unquoted = u.unquoted }

end_unquoted : (s : Terminal) → ends_stmts s ≡ true → s ≡ t.Quoted → ⊥
end_unquoted t.Quoted h e = cc
end_unquoted _ h e = cc

-- items

-- a body that ends here
ended_is : {A : Type 0} (ends : Terminal → Bool) (item : A) (end : Token) (mid : List Token) → ends (terminal_of end) ≡ true → ended ends item (end ∷ mid) ≡ Some (item, mid)
ended_is ends item end mid h = ap (λ b. cond b (Some (item, mid)) None) h

rule_complete : (word then end : Token) (title_front guard body mid : List Token) (string : Option Text) (test : Expr) (ss : List Stmt) → SpellsTitle title_front string → SpellsExpr Implication 1 guard test → Is t.Then then → SpellsStmts 1 body ss → Ends t.EndRule end → Eventually (λ k. rule k word.at (title_front ++ (guard ++ (then ∷ body ++ (end ∷ mid))))) (Some (Rule string (Some test) [] ss word.at, mid))
rule_complete word then end title_front guard body mid string test ss heading spells is bodied ends =
    let behind = then ∷ body ++ (end ∷ mid) in
    let both = title_before title_front string (guard ++ behind) heading (expr_unquoted behind spells) in
    same_turns _ (λ k. after (guarded (stmts k 1) string word.at) (read k Implication 1 (guard ++ behind))) _
    (λ k. ap (λ s. after (guarded (stmts k 1) s word.at) (read k Implication 1 (behind_title (title_front ++ (guard ++ behind))))) both.0
    ∙ ap (λ ts. after (guarded (stmts k 1) string word.at) (read k Implication 1 ts)) both.1)
    (goes_on (λ k. read k Implication 1 (guard ++ behind)) (λ k. guarded (stmts k 1) string word.at) test behind _ (expr_complete 1 guard test spells behind (ap stops_implication is))
    (same_turns _ (λ k. after (λ b rest'. ended ends_rule (Rule string (Some test) [] b word.at) rest') (stmts k 1 (body ++ (end ∷ mid)))) _
    (λ k. ap (λ s. guarded_by (stmts k 1) string word.at test s behind) is)
    (goes_on (λ k. stmts k 1 (body ++ (end ∷ mid))) (λ k b rest'. ended ends_rule (Rule string (Some test) [] b word.at) rest') ss (end ∷ mid) _ (stmts_complete bodied (end ∷ mid) (ends_rule_stmts end ends))
    (always _ _ (λ k. ended_is ends_rule (Rule string (Some test) [] ss word.at) end mid (ends_rule_is end ends))))))

start_complete : (word end : Token) (title_front body mid : List Token) (string : Option Text) (ss : List Stmt) → SpellsTitle title_front string → SpellsStmts 1 body ss → Ends t.EndStartState end → Eventually (λ k. start k word.at (title_front ++ (body ++ (end ∷ mid)))) (Some (Start string [] ss word.at, mid))
start_complete word end title_front body mid string ss heading bodied ends =
    let both = title_before title_front string (body ++ (end ∷ mid)) heading (stmts_unquoted end mid bodied (end_unquoted (terminal_of end) (ends_start_stmts end ends))) in
    same_turns _ (λ k. after (λ b rest'. ended ends_start (Start string [] b word.at) rest') (stmts k 1 (body ++ (end ∷ mid)))) _
    (λ k. ap (λ s. after (λ b rest'. ended ends_start (Start s [] b word.at) rest') (stmts k 1 (behind_title (title_front ++ (body ++ (end ∷ mid)))))) both.0
    ∙ ap (λ ts. after (λ b rest'. ended ends_start (Start string [] b word.at) rest') (stmts k 1 ts)) both.1)
    (goes_on (λ k. stmts k 1 (body ++ (end ∷ mid))) (λ k b rest'. ended ends_start (Start string [] b word.at) rest') ss (end ∷ mid) _ (stmts_complete bodied (end ∷ mid) (ends_start_stmts end ends))
    (always _ _ (λ k. ended_is ends_start (Start string [] ss word.at) end mid (ends_start_is end ends))))

invariant_complete : (word : Token) (title_front body mid : List Token) (string : Option Text) (claim : Expr) → SpellsTitle title_front string → SpellsExpr Implication 1 body claim → stops_implication (head mid) ≡ true → Eventually (λ k. invariant k word.at (title_front ++ (body ++ mid))) (Some (Invariant string claim word.at, mid))
invariant_complete word title_front body mid string claim heading spells stop =
    let both = title_before title_front string (body ++ mid) heading (expr_unquoted mid spells) in
    same_turns _ (λ k. after (λ c rest'. Some (Invariant string c word.at, rest')) (read k Implication 1 (body ++ mid))) _
    (λ k. ap (λ s. after (λ c rest'. Some (Invariant s c word.at, rest')) (read k Implication 1 (behind_title (title_front ++ (body ++ mid))))) both.0
    ∙ ap (λ ts. after (λ c rest'. Some (Invariant string c word.at, rest')) (read k Implication 1 ts)) both.1)
    (goes_on (λ k. read k Implication 1 (body ++ mid)) (λ k c rest'. Some (Invariant string c word.at, rest')) claim mid _ (expr_complete 1 body claim spells mid stop) (always _ _ (λ k. refl)))

-- items, where one of the three words stands
items_word : (word : Token) (s : Terminal) (ts mid : List Token) (item : RuleDecl) (g : ℕ → Read RuleDecl) (r : Read (List RuleDecl)) → Is s word → ((more : List Token → Read (List RuleDecl)) (k : ℕ) → items_by more k s word ts ≡ after (one_then more) (g k)) → Eventually g (Some (item, mid)) → Eventually (λ k. one_then (items k) item mid) r → Eventually (λ k. items k (word ∷ ts)) r
unfolding items
items_word word s ts mid item g r is make h o =
    one_more_turn (λ k. items k (word ∷ ts)) (λ k. after (one_then (items k)) (g k)) r
    (λ k. ap (λ s. items_by (items k) k s word ts) is ∙ make (items k) k)
    (goes_on g (λ k. one_then (items k)) item mid r h o)

cut_three : (a b c rest : List Token) → ((a ++ b) ++ c) ++ rest ≡ a ++ (b ++ (c ++ rest))
cut_three a b c rest = append_assoc (a ++ b) c rest ∙ append_assoc a b (c ++ rest)

cut_four : (a b c d rest : List Token) → (((a ++ b) ++ c) ++ d) ++ rest ≡ a ++ (b ++ (c ++ (d ++ rest)))
cut_four a b c d rest = append_assoc ((a ++ b) ++ c) d rest ∙ cut_three a b c (d ++ rest)

-- an item, and what stands behind it
item_with : {front : List Token} {item : RuleDecl} (mid : List Token) (r : Read (List RuleDecl)) → SpellsItem front item → stops_implication (head mid) ≡ true → Eventually (λ k. one_then (items k) item mid) r → Eventually (λ k. items k (front ++ mid)) r
item_with mid r (rule_item {title = tf} {guard = guard} {body = body} {string = string} {test = test} {stmts = ss} word then end is heading spells is' bodied ends cut) stop o =
    subst (λ ts. Eventually (λ k. items k ts) r) (sym (ap (λ f. f ++ mid) cut ∙ cut_four (word ∷ tf) guard (then ∷ body) (end ∷ []) mid))
    (items_word word t.Rule (tf ++ (guard ++ (then ∷ body ++ (end ∷ mid)))) mid (Rule string (Some test) [] ss word.at) (λ k. rule k word.at (tf ++ (guard ++ (then ∷ body ++ (end ∷ mid))))) r is (λ more k. refl)
    (rule_complete word then end tf guard body mid string test ss heading spells is' bodied ends) o)
item_with mid r (start_item {title = tf} {body = body} {string = string} {stmts = ss} word end is heading bodied ends cut) stop o =
    subst (λ ts. Eventually (λ k. items k ts) r) (sym (ap (λ f. f ++ mid) cut ∙ cut_three (word ∷ tf) body (end ∷ []) mid))
    (items_word word t.StartState (tf ++ (body ++ (end ∷ mid))) mid (Start string [] ss word.at) (λ k. start k word.at (tf ++ (body ++ (end ∷ mid)))) r is (λ more k. refl)
    (start_complete word end tf body mid string ss heading bodied ends) o)
item_with mid r (invariant_item {title = tf} {body = body} {string = string} {claim = claim} word is heading spells cut) stop o =
    subst (λ ts. Eventually (λ k. items k ts) r) (sym (ap (λ f. f ++ mid) cut ∙ append_assoc (word ∷ tf) body mid))
    (items_word word t.Invariant (tf ++ (body ++ mid)) mid (Invariant string claim word.at) (λ k. invariant k word.at (tf ++ (body ++ mid))) r is (λ more k. refl)
    (invariant_complete word tf body mid string claim heading spells stop) o)

abbrev CompleteItems : List Token → List RuleDecl → Type 0
CompleteItems front all = (rest : List Token) → head rest ≡ t.EndOfText → Eventually (λ k. items k (front ++ rest)) (Some (all, rest))

no_item_complete : CompleteItems [] []
unfolding items
no_item_complete [] h = one_more_turn (λ k. items k []) (λ k. Some ([], [])) _ (λ k. refl) (always _ _ (λ k. refl))
no_item_complete (token ∷ rest) h =
    one_more_turn (λ k. items k (token ∷ rest)) (λ k. Some ([], token ∷ rest)) _ (λ k. ap (λ s. items_by (items k) k s token rest) h) (always _ _ (λ k. refl))

empty_item_complete : (token : Token) (behind : List Token) (all : List RuleDecl) → Is t.Semicolon token → CompleteItems behind all → CompleteItems (token ∷ behind) all
unfolding items
empty_item_complete token behind all is ih rest h =
    one_more_turn (λ k. items k (token ∷ behind ++ rest)) (λ k. items k (behind ++ rest)) _ (λ k. ap (λ s. items_by (items k) k s token (behind ++ rest)) is) (ih rest h)

end_no_semicolon : (s : Terminal) → s ≡ t.EndOfText → s ≡ t.Semicolon → ⊥
end_no_semicolon s h e = let x : t.EndOfText ≡ t.Semicolon = sym h ∙ e in cc

pub items_complete : {front : List Token} {all : List RuleDecl} → SpellsItems front all → CompleteItems front all
items_complete no_item = no_item_complete
items_complete (last_item {all = front} {item = item} spells) =
    λ rest h. item_with rest _ spells (ap stops_implication h) (end_then items item rest (end_no_semicolon (head rest) h))
items_complete (empty_item {behind = behind} {rest = all} token is spells) = empty_item_complete token behind all is (items_complete spells)
items_complete (one_more_item {before = before} {behind = behind} {item = item} {rest = others} token spells is more cut) =
    λ rest h. subst (λ ts. Eventually (λ k. items k ts) (Some (item ∷ others, rest))) (sym (ap (λ f. f ++ rest) cut ∙ append_assoc before (token ∷ behind) rest))
    (item_with (token ∷ behind ++ rest) _ spells (ap stops_implication is) (semicolon_then items item others token (behind ++ rest) rest is (items_complete more rest h)))
