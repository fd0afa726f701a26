-- What spells an expression is read as it, wherever the token behind it does not go on with it.
use Rattle.std.proofs.Common.{◌≡◌, ℕ, suc, ◌<◌, Bool, true, false, cond, List, [], ◌∷◌, ◌++◌, Some, None, refl, sym, ap, ◌∙◌, subst, append_assoc}
use Rattle.murphi_ast.specs.declared.token.Token.{Token}
use Rattle.murphi_ast.specs.declared.terminal.Terminal.{Terminal}
use Rattle.murphi_ast.specs.declared.terminal.Terminal.TheVariants as t
use Rattle.murphi_ast.specs.declared.expr.ChainOp.{ChainOp}
use Rattle.murphi_ast.specs.declared.expr.CompareOp.{CompareOp}
use Rattle.murphi_ast.specs.declared.expr.CompareOp.TheVariants.{Equal, NotEqual}
use Rattle.murphi_ast.specs.declared.expr.Link.{Link}
use Rattle.murphi_ast.specs.declared.expr.Expr as e
use Rattle.murphi_ast.specs.declared.expr.Expr.{Expr}
use Rattle.murphi_ast.specs.Terminal.{terminal_of}
use Rattle.murphi_ast.specs.Grammar.{greatest_nesting, Level, Implication, Disjunction, Conjunction, Negation, Primary, chain_sign, operand_level, Is, SpellsExpr, truth, falsity, name, group, equal, not_equal, primary, negation, conjunction, one_conjunct, disjunction, one_disjunct, implication, no_implication, SpellsLinks, last_link, one_more_link}
use Rattle.murphi_syntax.specs.declared.expr.Connective.{Connective}
use Rattle.murphi_syntax.specs.declared.expr.Connective.TheVariants.{Or, And}
use Rattle.murphi_syntax.specs.Reading.{Read, Eventually, after, head, tail, nested, closed, closed_by, grouped, primary_by, compare_sign, compared, compared_by, negated, negation_at, negation_by, chain_op, chain_level, operand_of, link_of, chain_of, chained, implied, implied_by, linked, is_sign, read, links}
use Rattle.murphi_syntax.proofs.Turns.{always, one_more_turn, goes_on, same_turns}
use Rattle.murphi_syntax.proofs.ExprArms.{opened, begins_primary}
use Rattle.murphi_syntax.proofs.ExprSound.{some_links}

-- the symbols that do not go on with an expression of a level

abbrev pub stops_negation : Terminal → Bool
stops_negation t.Equal = false
stops_negation t.NotEqual = false
stops_negation _ = true

abbrev pub stops_conjunction : Terminal → Bool
stops_conjunction t.Ampersand = false
stops_conjunction s = stops_negation s

abbrev pub stops_disjunction : Terminal → Bool
stops_disjunction t.Bar = false
stops_disjunction s = stops_conjunction s

abbrev pub stops_implication : Terminal → Bool
stops_implication t.Arrow = false
stops_implication s = stops_disjunction s

abbrev pub stops : Level → Terminal → Bool
stops Primary s = true
stops Negation s = stops_negation s
stops Conjunction s = stops_conjunction s
stops Disjunction s = stops_disjunction s
stops Implication s = stops_implication s

stops_less : (op : Connective) (s : Terminal) → stops (chain_level op) s ≡ true → stops (operand_of op) s ≡ true
stops_less Or t.Bar h = cc
stops_less Or _ h = h
stops_less And t.Ampersand h = cc
stops_less And _ h = h

stops_sign : (op : Connective) (s : Terminal) → stops (chain_level op) s ≡ true → is_sign op s ≡ false
stops_sign Or t.Bar h = cc
stops_sign Or _ h = refl
stops_sign And t.Ampersand h = cc
stops_sign And _ h = refl

stops_implied : (s : Terminal) → stops_implication s ≡ true → stops_disjunction s ≡ true
stops_implied t.Arrow h = cc
stops_implied _ h = h

implied_by_end : (right : List Token → Read Expr) (n : ℕ) (left : Expr) (s : Terminal) (rest : List Token) → stops_implication s ≡ true → implied_by right n left s rest ≡ Some (left, rest)
implied_by_end right n left t.Arrow rest h = cc
implied_by_end right n left _ rest h = refl

stops_compare : (s : Terminal) → stops_negation s ≡ true → compare_sign s ≡ None
stops_compare t.Equal h = cc
stops_compare t.NotEqual h = cc
stops_compare _ h = refl

sign_stops : (op : Connective) → stops (operand_of op) (chain_sign (chain_op op)) ≡ true
sign_stops Or = refl
sign_stops And = refl

is_sign_sign : (op : Connective) → is_sign op (chain_sign (chain_op op)) ≡ true
is_sign_sign Or = refl
is_sign_sign And = refl

-- whatever follows that does not go on with it, the expression is read, and what follows is left
abbrev Complete : Level → ℕ → List Token → Expr → Type 0
Complete level n front body = (rest : List Token) → stops level (head rest) ≡ true → Eventually (λ k. read k level n (front ++ rest)) (Some (body, rest))

abbrev CompleteLinks : Connective → ℕ → List Token → List Link → Type 0
CompleteLinks op n front more = (rest : List Token) → stops (chain_level op) (head rest) ≡ true → Eventually (λ k. links k op n (front ++ rest)) (Some (more, rest))

-- primaries

one_token : (n : ℕ) (token : Token) (symbol : Terminal) (body : Expr) → Is symbol token → ((inner : List Token → Read Expr) (rest : List Token) → primary_by inner n symbol token rest ≡ Some (body, rest)) → Complete Primary n (token ∷ []) body
unfolding read
one_token n token symbol body is make rest h =
    one_more_turn (λ k. read k Primary n (token ∷ rest)) (λ k. Some (body, rest)) _
    (λ k. ap (λ s. primary_by (read k Implication (suc n)) n s token rest) is ∙ make (read k Implication (suc n)) rest) (always _ _ (λ k. refl))

group_complete : (n : ℕ) (inner : List Token) (body : Expr) (left right : Token) → n < greatest_nesting → Is t.Open left → Complete Implication (suc n) inner body → Is t.Close right → Complete Primary n (left ∷ inner ++ right ∷ []) body
unfolding read
group_complete n inner body left right deep is ih is' rest h =
    subst (λ ts. Eventually (λ k. read k Primary n (left ∷ ts)) (Some (body, rest))) (sym (append_assoc inner (right ∷ []) rest))
    (one_more_turn (λ k. read k Primary n (left ∷ inner ++ right ∷ rest)) (λ k. grouped (read k Implication (suc n)) n (inner ++ right ∷ rest)) _
    (λ k. ap (λ s. primary_by (read k Implication (suc n)) n s left (inner ++ right ∷ rest)) is)
    (opened n (λ k. read k Implication (suc n) (inner ++ right ∷ rest)) closed body (right ∷ rest) _ deep (ih (right ∷ rest) (ap stops_implication is'))
    (ap (λ s. closed_by body s rest) is')))

-- the first token of a primary
record Begins (front : List Token) : Type 0 where
  token : Token
  more : List Token
  cut : front ≡ token ∷ more
  first : begins_primary (terminal_of token) ≡ true

primary_begins : {n : ℕ} {front : List Token} {body : Expr} → SpellsExpr Primary n front body → Begins front
primary_begins (truth token is) = record { token = token; more = []; cut = refl; first = ap begins_primary is }
primary_begins (falsity token is) = record { token = token; more = []; cut = refl; first = ap begins_primary is }
primary_begins (name token is) = record { token = token; more = []; cut = refl; first = ap begins_primary is }
primary_begins (group left right deep is inner is' cut) = record { token = left; more = _; cut = cut; first = ap begins_primary is }

-- comparisons and negations

negation_by_other : (inner : List Token → Read Expr) (other : Read Expr) (n : ℕ) (symbol : Terminal) (token : Token) (rest : List Token) → begins_primary symbol ≡ true → negation_by inner other n symbol token rest ≡ other
negation_by_other inner other n t.Bang token rest h = cc
negation_by_other inner other n _ token rest h = refl

-- what begins as a primary is read as a comparison
as_comparison : (n : ℕ) (front behind : List Token) (r : Read Expr) → Begins front → Eventually (λ k. after (compared (read k Primary n)) (read k Primary n (front ++ behind))) r → Eventually (λ k. read k Negation n (front ++ behind)) r
unfolding read
as_comparison n front behind r begins h =
    one_more_turn (λ k. read k Negation n (front ++ behind)) (λ k. after (compared (read k Primary n)) (read k Primary n (front ++ behind))) r
    (λ k. ap (λ f. negation_at (read k Negation (suc n)) (after (compared (read k Primary n)) (read k Primary n (front ++ behind))) n (f ++ behind)) begins.cut
    ∙ negation_by_other (read k Negation (suc n)) (after (compared (read k Primary n)) (read k Primary n (front ++ behind))) n (terminal_of begins.token) begins.token (begins.more ++ behind) begins.first) h

primary_complete : (n : ℕ) (front : List Token) (body : Expr) → Begins front → Complete Primary n front body → Complete Negation n front body
primary_complete n front body begins ih rest h =
    as_comparison n front rest (Some (body, rest)) begins
    (goes_on (λ k. read k Primary n (front ++ rest)) (λ k. compared (read k Primary n)) body rest _ (ih rest refl)
    (always _ _ (λ k. ap (λ s. compared_by (read k Primary n) body s rest) (stops_compare (head rest) h))))

compare_complete : (n : ℕ) (op : CompareOp) (symbol : Terminal) (before behind : List Token) (left right : Expr) (sign : Token) → compare_sign symbol ≡ Some op → Begins before → Complete Primary n before left → Is symbol sign → Complete Primary n behind right → Complete Negation n (before ++ sign ∷ behind) (e.Compare op left right)
compare_complete n op symbol before behind left right sign stands begins ihl is ihr rest h =
    subst (λ ts. Eventually (λ k. read k Negation n ts) (Some (e.Compare op left right, rest))) (sym (append_assoc before (sign ∷ behind) rest))
    (as_comparison n before (sign ∷ behind ++ rest) _ begins
    (goes_on (λ k. read k Primary n (before ++ (sign ∷ behind ++ rest))) (λ k. compared (read k Primary n)) left (sign ∷ behind ++ rest) _ (ihl (sign ∷ behind ++ rest) refl)
    (same_turns _ (λ k. after (λ r rest'. Some (e.Compare op left r, rest')) (read k Primary n (behind ++ rest))) _
    (λ k. ap (λ s. compared_by (read k Primary n) left s (sign ∷ behind ++ rest)) (ap compare_sign is ∙ stands))
    (goes_on (λ k. read k Primary n (behind ++ rest)) (λ k r rest'. Some (e.Compare op left r, rest')) right rest _ (ihr rest refl) (always _ _ (λ k. refl))))))

negation_complete : (n : ℕ) (inner : List Token) (body : Expr) (bang : Token) → n < greatest_nesting → Is t.Bang bang → Complete Negation (suc n) inner body → Complete Negation n (bang ∷ inner) (e.Not body bang.at)
unfolding read
negation_complete n inner body bang deep is ih rest h =
    one_more_turn (λ k. read k Negation n (bang ∷ inner ++ rest)) (λ k. negated bang.at (read k Negation (suc n)) n (inner ++ rest)) _
    (λ k. ap (λ s. negation_by (read k Negation (suc n)) (after (compared (read k Primary n)) (read k Primary n (bang ∷ inner ++ rest))) n s bang (inner ++ rest)) is)
    (opened n (λ k. read k Negation (suc n) (inner ++ rest)) (λ b rest'. Some (e.Not b bang.at, rest')) body rest _ deep (ih rest h) refl)

-- chains

chain_some : (first : Expr) (more : List Link) → (more ≡ [] → ⊥) → chain_of first more ≡ e.Chain first more
chain_some first [] h = absurd (h refl)
chain_some first (link ∷ more) h = refl

-- a chain of operands, of which the first and the others are read
chained_complete : (op : Connective) (n : ℕ) (before behind rest : List Token) (first : Expr) (more : List Link) → Eventually (λ k. read k (operand_of op) n (before ++ behind)) (Some (first, behind)) → Eventually (λ k. links k op n behind) (Some (more, rest)) → Eventually (λ k. read k (chain_level op) n (before ++ behind)) (Some (chain_of first more, rest))
unfolding read
chained_complete Or n before behind rest first more h g =
    one_more_turn (λ k. read k Disjunction n (before ++ behind)) (λ k. after (chained (links k Or n)) (read k Conjunction n (before ++ behind))) _ (λ k. refl)
    (goes_on (λ k. read k Conjunction n (before ++ behind)) (λ k. chained (links k Or n)) first behind _ h
    (goes_on (λ k. links k Or n behind) (λ k ls rest'. Some (chain_of first ls, rest')) more rest _ g (always _ _ (λ k. refl))))
chained_complete And n before behind rest first more h g =
    one_more_turn (λ k. read k Conjunction n (before ++ behind)) (λ k. after (chained (links k And n)) (read k Negation n (before ++ behind))) _ (λ k. refl)
    (goes_on (λ k. read k Negation n (before ++ behind)) (λ k. chained (links k And n)) first behind _ h
    (goes_on (λ k. links k And n behind) (λ k ls rest'. Some (chain_of first ls, rest')) more rest _ g (always _ _ (λ k. refl))))

-- where no sign stands, there are no further operands
no_links : (op : Connective) (n : ℕ) (tokens : List Token) → is_sign op (head tokens) ≡ false → Eventually (λ k. links k op n tokens) (Some ([], tokens))
unfolding links
no_links op n tokens h =
    one_more_turn (λ k. links k op n tokens) (λ k. Some ([], tokens)) _
    (λ k. ap (λ b. cond b (after (linked op (links k op n)) (read k (operand_of op) n (tail tokens))) (Some ([], tokens))) h) (always _ _ (λ k. refl))

one_complete : (op : Connective) (n : ℕ) (front : List Token) (body : Expr) → Complete (operand_of op) n front body → Complete (chain_level op) n front body
one_complete op n front body ih rest h =
    chained_complete op n front rest rest body [] (ih rest (stops_less op (head rest) h)) (no_links op n rest (stops_sign op (head rest) h))

-- the first token of further operands
record Signed (op : ChainOp) (front : List Token) : Type 0 where
  sign : Token
  more : List Token
  cut : front ≡ sign ∷ more
  is : Is (chain_sign op) sign

signed : {op : ChainOp} {n : ℕ} {front : List Token} {more : List Link} → SpellsLinks op n front more → Signed op front
signed (last_link sign is spells) = record { sign = sign; more = _; cut = refl; is = is }
signed (one_more_link sign is spells rest cut) = record { sign = sign; more = _; cut = cut; is = is }

-- an operand stops before a sign
operand_stops : (op : Connective) (behind rest : List Token) → Signed (chain_op op) behind → stops (operand_of op) (head (behind ++ rest)) ≡ true
operand_stops op behind rest s =
    ap (λ b. stops (operand_of op) (head (b ++ rest))) s.cut ∙ ap (stops (operand_of op)) s.is ∙ sign_stops op

chain_complete : (op : Connective) (n : ℕ) (before behind : List Token) (first : Expr) (more : List Link) → Complete (operand_of op) n before first → Signed (chain_op op) behind → (more ≡ [] → ⊥) → CompleteLinks op n behind more → Complete (chain_level op) n (before ++ behind) (e.Chain first more)
chain_complete op n before behind first more ih s some ihl rest h =
    subst (λ ts. Eventually (λ k. read k (chain_level op) n ts) (Some (e.Chain first more, rest))) (sym (append_assoc before behind rest))
    (subst (λ c. Eventually (λ k. read k (chain_level op) n (before ++ (behind ++ rest))) (Some (c, rest))) (chain_some first more some)
    (chained_complete op n before (behind ++ rest) rest first more (ih (behind ++ rest) (operand_stops op behind rest s)) (ihl rest h)))

-- further operands: one, and what follows it
links_with : (op : Connective) (n : ℕ) (sign : Token) (operand behind rest : List Token) (body : Expr) (more : List Link) → Is (chain_sign (chain_op op)) sign → Eventually (λ k. read k (operand_of op) n (operand ++ behind)) (Some (body, behind)) → Eventually (λ k. links k op n behind) (Some (more, rest)) → Eventually (λ k. links k op n (sign ∷ operand ++ behind)) (Some (link_of op body ∷ more, rest))
unfolding links
links_with op n sign operand behind rest body more is h g =
    one_more_turn (λ k. links k op n (sign ∷ operand ++ behind)) (λ k. after (linked op (links k op n)) (read k (operand_of op) n (operand ++ behind))) _
    (λ k. ap (λ b. cond b (after (linked op (links k op n)) (read k (operand_of op) n (operand ++ behind))) (Some ([], sign ∷ operand ++ behind))) (ap (is_sign op) is ∙ is_sign_sign op))
    (goes_on (λ k. read k (operand_of op) n (operand ++ behind)) (λ k. linked op (links k op n)) body behind _ h
    (goes_on (λ k. links k op n behind) (λ k ls rest'. Some (link_of op body ∷ ls, rest')) more rest _ g (always _ _ (λ k. refl))))

last_complete : (op : Connective) (n : ℕ) (sign : Token) (operand : List Token) (body : Expr) → Is (chain_sign (chain_op op)) sign → Complete (operand_of op) n operand body → CompleteLinks op n (sign ∷ operand) (link_of op body ∷ [])
last_complete op n sign operand body is ih rest h =
    links_with op n sign operand rest rest body [] is (ih rest (stops_less op (head rest) h)) (no_links op n rest (stops_sign op (head rest) h))

more_complete : (op : Connective) (n : ℕ) (sign : Token) (operand behind : List Token) (body : Expr) (more : List Link) → Is (chain_sign (chain_op op)) sign → Complete (operand_of op) n operand body → Signed (chain_op op) behind → CompleteLinks op n behind more → CompleteLinks op n (sign ∷ operand ++ behind) (link_of op body ∷ more)
more_complete op n sign operand behind body more is ih s ihl rest h =
    subst (λ ts. Eventually (λ k. links k op n (sign ∷ ts)) (Some (link_of op body ∷ more, rest))) (sym (append_assoc operand behind rest))
    (links_with op n sign operand (behind ++ rest) rest body more is (ih (behind ++ rest) (operand_stops op behind rest s)) (ihl rest h))

-- implications

-- behind the left side of an implication
implied_complete : (n : ℕ) (before mid : List Token) (left : Expr) (r : Read Expr) → Eventually (λ k. read k Disjunction n (before ++ mid)) (Some (left, mid)) → Eventually (λ k. implied (read k Disjunction (suc n)) n left mid) r → Eventually (λ k. read k Implication n (before ++ mid)) r
unfolding read
implied_complete n before mid left r h g =
    one_more_turn (λ k. read k Implication n (before ++ mid)) (λ k. after (implied (read k Disjunction (suc n)) n) (read k Disjunction n (before ++ mid))) r (λ k. refl)
    (goes_on (λ k. read k Disjunction n (before ++ mid)) (λ k. implied (read k Disjunction (suc n)) n) left mid r h g)

no_implication_complete : (n : ℕ) (front : List Token) (body : Expr) → Complete Disjunction n front body → Complete Implication n front body
no_implication_complete n front body ih rest h =
    implied_complete n front rest body _ (ih rest (stops_implied (head rest) h))
    (always _ _ (λ k. implied_by_end (read k Disjunction (suc n)) n body (head rest) rest h))

implication_complete : (n : ℕ) (before behind : List Token) (left right : Expr) (arrow : Token) → Complete Disjunction n before left → n < greatest_nesting → Is t.Arrow arrow → Complete Disjunction (suc n) behind right → Complete Implication n (before ++ arrow ∷ behind) (e.Implies left right)
implication_complete n before behind left right arrow ihl deep is ihr rest h =
    subst (λ ts. Eventually (λ k. read k Implication n ts) (Some (e.Implies left right, rest))) (sym (append_assoc before (arrow ∷ behind) rest))
    (implied_complete n before (arrow ∷ behind ++ rest) left _ (ihl (arrow ∷ behind ++ rest) (ap stops_disjunction is))
    (same_turns _ (λ k. nested n (after (λ r rest'. Some (e.Implies left r, rest')) (read k Disjunction (suc n) (behind ++ rest)))) _
    (λ k. ap (λ s. implied_by (read k Disjunction (suc n)) n left s (arrow ∷ behind ++ rest)) is)
    (opened n (λ k. read k Disjunction (suc n) (behind ++ rest)) (λ r rest'. Some (e.Implies left r, rest')) right rest _ deep (ihr rest (stops_implied (head rest) h)) refl)))

-- all levels

operand_level_is : (op : Connective) → operand_level (chain_op op) ≡ operand_of op
operand_level_is Or = refl
operand_level_is And = refl

-- the operator of a link
link_is : (op : Connective) (o : ChainOp) (body : Expr) → o ≡ chain_op op → link_of op body ≡ record { op = o; operand = body }
link_is op o body h = ap (λ x. record { op = x; operand = body }) (sym h)

mutual
  complete : {level : Level} {n : ℕ} {front : List Token} {body : Expr} → SpellsExpr level n front body → Complete level n front body
  complete (truth token is) = one_token _ token t.True _ is (λ inner rest. refl)
  complete (falsity token is) = one_token _ token t.False _ is (λ inner rest. refl)
  complete (name token is) = one_token _ token t.Name _ is (λ inner rest. refl)
  complete (group {n = n} {inner = inner} {body = body} left right deep is spells is' cut) =
      subst (λ f. Complete Primary n f body) (sym cut) (group_complete n inner body left right deep is (complete spells) is')
  complete (equal {n = n} {before = before} {behind = behind} {left = left} {right = right} sign l is r cut) =
      subst (λ f. Complete Negation n f (e.Compare Equal left right)) (sym cut) (compare_complete n Equal t.Equal before behind left right sign refl (primary_begins l) (complete l) is (complete r))
  complete (not_equal {n = n} {before = before} {behind = behind} {left = left} {right = right} sign l is r cut) =
      subst (λ f. Complete Negation n f (e.Compare NotEqual left right)) (sym cut) (compare_complete n NotEqual t.NotEqual before behind left right sign refl (primary_begins l) (complete l) is (complete r))
  complete (primary {n = n} {all = all} {body = body} spells) = primary_complete n all body (primary_begins spells) (complete spells)
  complete (negation {n = n} {inner = inner} {body = body} bang deep is spells) = negation_complete n inner body bang deep is (complete spells)
  complete (conjunction {n = n} {before = before} {behind = behind} {first = first} {rest = more} l ls cut) =
      subst (λ f. Complete Conjunction n f (e.Chain first more)) (sym cut) (chain_complete And n before behind first more (complete l) (signed ls) (some_links ls) (links_complete ls And refl))
  complete (one_conjunct {n = n} {all = all} {body = body} spells) = one_complete And n all body (complete spells)
  complete (disjunction {n = n} {before = before} {behind = behind} {first = first} {rest = more} l ls cut) =
      subst (λ f. Complete Disjunction n f (e.Chain first more)) (sym cut) (chain_complete Or n before behind first more (complete l) (signed ls) (some_links ls) (links_complete ls Or refl))
  complete (one_disjunct {n = n} {all = all} {body = body} spells) = one_complete Or n all body (complete spells)
  complete (implication {n = n} {before = before} {behind = behind} {left = left} {right = right} arrow l deep is r cut) =
      subst (λ f. Complete Implication n f (e.Implies left right)) (sym cut) (implication_complete n before behind left right arrow (complete l) deep is (complete r))
  complete (no_implication {n = n} {all = all} {body = body} spells) = no_implication_complete n all body (complete spells)

  links_complete : {o : ChainOp} {n : ℕ} {front : List Token} {more : List Link} → SpellsLinks o n front more → (op : Connective) → o ≡ chain_op op → CompleteLinks op n front more
  links_complete (last_link {op = o} {n = n} {operand = operand} {body = body} sign is spells) op same =
      subst (λ l. CompleteLinks op n (sign ∷ operand) (l ∷ [])) (link_is op o body same)
      (last_complete op n sign operand body (is ∙ ap chain_sign same) (subst (λ l. Complete l n operand body) (ap operand_level same ∙ operand_level_is op) (complete spells)))
  links_complete (one_more_link {op = o} {n = n} {operand = operand} {behind = behind} {body = body} {rest = more} sign is spells ls cut) op same =
      subst (λ f. CompleteLinks op n f (record { op = o; operand = body } ∷ more)) (sym cut)
      (subst (λ l. CompleteLinks op n (sign ∷ operand ++ behind) (l ∷ more)) (link_is op o body same)
      (more_complete op n sign operand behind body more (is ∙ ap chain_sign same) (subst (λ l. Complete l n operand body) (ap operand_level same ∙ operand_level_is op) (complete spells)) (subst (λ x. Signed x behind) same (signed ls)) (links_complete ls op same)))

-- what spells an expression is read as it
pub expr_complete : (n : ℕ) (front : List Token) (body : Expr) → SpellsExpr Implication n front body → (rest : List Token) → stops_implication (head rest) ≡ true → Eventually (λ k. read k Implication n (front ++ rest)) (Some (body, rest))
expr_complete n front body spells = complete spells

-- the symbols that begin an expression
abbrev pub begins_expr : Terminal → Bool
begins_expr t.Bang = true
begins_expr s = begins_primary s

primary_begins_expr : (s : Terminal) → begins_primary s ≡ true → begins_expr s ≡ true
primary_begins_expr t.Bang h = cc
primary_begins_expr _ h = h

-- the first token of an expression
pub record BeginsExpr (front : List Token) : Type 0 where
  pub token : Token
  pub more : List Token
  pub cut : front ≡ token ∷ more
  pub first : begins_expr (terminal_of token) ≡ true

of_primary : {front : List Token} → Begins front → BeginsExpr front
of_primary b = record { token = b.token; more = b.more; cut = b.cut; first = primary_begins_expr (terminal_of b.token) b.first }

-- with more behind
begins_before : {front : List Token} (behind all : List Token) → BeginsExpr front → all ≡ front ++ behind → BeginsExpr all
begins_before behind all b cut = record { token = b.token; more = b.more ++ behind; cut = cut ∙ ap (λ f. f ++ behind) b.cut; first = b.first }

pub expr_begins : {level : Level} {n : ℕ} {front : List Token} {body : Expr} → SpellsExpr level n front body → BeginsExpr front
expr_begins (truth token is) = of_primary (primary_begins {n = 0} (truth token is))
expr_begins (falsity token is) = of_primary (primary_begins {n = 0} (falsity token is))
expr_begins (name token is) = of_primary (primary_begins {n = 0} (name token is))
expr_begins (group left right deep is spells is' cut) = of_primary (primary_begins (group left right deep is spells is' cut))
expr_begins (equal {all = all} sign l is r cut) = begins_before _ all (expr_begins l) cut
expr_begins (not_equal {all = all} sign l is r cut) = begins_before _ all (expr_begins l) cut
expr_begins (primary spells) = expr_begins spells
expr_begins (negation bang deep is spells) = record { token = bang; more = _; cut = refl; first = ap begins_expr is }
expr_begins (conjunction {all = all} l ls cut) = begins_before _ all (expr_begins l) cut
expr_begins (one_conjunct spells) = expr_begins spells
expr_begins (disjunction {all = all} l ls cut) = begins_before _ all (expr_begins l) cut
expr_begins (one_disjunct spells) = expr_begins spells
expr_begins (implication {all = all} arrow l deep is r cut) = begins_before _ all (expr_begins l) cut
expr_begins (no_implication spells) = expr_begins spells
