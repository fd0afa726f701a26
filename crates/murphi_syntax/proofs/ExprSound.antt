-- What is read as an expression is spelled so: the tokens are those that spell it, and then the rest.
use Rattle.std.proofs.Common.{◌≡◌, ℕ, zero, suc, ◌<◌, ◌⊎◌, inl, inr, Bool, true, false, cond, List, [], ◌∷◌, ◌++◌, Some, None, refl, sym, ap, ◌∙◌, subst, append_assoc, append-nil, ltb-true}
use Rattle.std.specs.Prelude.{nat_lt}
use Rattle.murphi_ast.specs.declared.token.Token.{Token}
use Rattle.murphi_ast.specs.declared.terminal.Terminal.{Terminal}
use Rattle.murphi_ast.specs.declared.terminal.Terminal.TheVariants as t
use Rattle.murphi_ast.specs.declared.expr.CompareOp.{CompareOp}
use Rattle.murphi_ast.specs.declared.expr.CompareOp.TheVariants.{Equal, NotEqual}
use Rattle.murphi_ast.specs.declared.expr.Link.{Link}
use Rattle.murphi_ast.specs.declared.expr.Expr as e
use Rattle.murphi_ast.specs.declared.expr.Expr.{Expr}
use Rattle.murphi_ast.specs.Terminal.{terminal_of}
use Rattle.murphi_ast.specs.Grammar.{greatest_nesting, Level, Implication, Disjunction, Conjunction, Negation, Primary, chain_sign, Is, SpellsExpr, truth, falsity, name, group, equal, not_equal, primary, negation, conjunction, one_conjunct, disjunction, one_disjunct, implication, no_implication, SpellsLinks, last_link, one_more_link}
use Rattle.murphi_syntax.specs.declared.expr.Connective.{Connective}
use Rattle.murphi_syntax.specs.declared.expr.Connective.TheVariants.{Or, And}
use Rattle.murphi_syntax.specs.Reading.{Read, after, nested, closed, closed_by, primary_by, compare_sign, compared, compared_by, negation_by, chain_op, chain_level, operand_of, link_of, chain_of, chained, implied, implied_by, linked, is_sign, read, links}

-- the tokens are those of an expression, and then the rest
pub record Spelled (level : Level) (n : ℕ) (tokens : List Token) (body : Expr) (rest : List Token) : Type 0 where
  pub front : List Token
  pub cut : tokens ≡ front ++ rest
  pub spells : SpellsExpr level n front body

-- the tokens are those of further operands, if there are any, and then the rest
pub record SpelledLinks (op : Connective) (n : ℕ) (tokens : List Token) (more : List Link) (rest : List Token) : Type 0 where
  pub front : List Token
  pub cut : tokens ≡ front ++ rest
  pub spells : ((front ≡ []) × (more ≡ [])) ⊎ SpellsLinks (chain_op op) n front more

abbrev Sound : ℕ → Level → Type 0
Sound k level = (n : ℕ) (tokens : List Token) (body : Expr) (rest : List Token) → read k level n tokens ≡ Some (body, rest) → Spelled level n tokens body rest

abbrev SoundLinks : ℕ → Connective → Type 0
SoundLinks k op = (n : ℕ) (tokens : List Token) (more : List Link) (rest : List Token) → links k op n tokens ≡ Some (more, rest) → SpelledLinks op n tokens more rest

-- what was read before, and what was read behind it
pub record Two {A B : Type 0} (f : A → List Token → Read B) (r : Read A) (b : B) (rest : List Token) : Type 0 where
  pub first : A
  pub mid : List Token
  pub read_first : r ≡ Some (first, mid)
  pub read_second : f first mid ≡ Some (b, rest)

pub two : {A B : Type 0} (f : A → List Token → Read B) (r : Read A) (b : B) (rest : List Token) → after f r ≡ Some (b, rest) → Two f r b rest
two f None b rest h = cc
two f (Some x) b rest h = record { first = x.0; mid = x.1; read_first = refl; read_second = h }

-- an opened form
pub opened_read : {A : Type 0} (n : ℕ) (r : Read A) (a : A) (rest : List Token) → nested n r ≡ Some (a, rest) → (n < greatest_nesting) × (r ≡ Some (a, rest))
opened_read n r a rest h = go (nat_lt n greatest_nesting) refl h
  where
    go : (b : Bool) → nat_lt n greatest_nesting ≡ b → cond b r None ≡ Some (a, rest) → (n < greatest_nesting) × (r ≡ Some (a, rest))
    go true was h = (ltb-true n greatest_nesting was, h)
    go false was h = cc

abbrev pub got : {A : Type 0} → A → List Token → Read A
got a rest = Some (a, rest)

-- what a reader gave, in its two parts
pub given : {A : Type 0} (a b : A) (x y : List Token) → got a x ≡ got b y → (a ≡ b) × (x ≡ y)
given {A} a b x y h = (ap (λ o. of_first o) h, ap (λ o. of_second o) h)
  where
    of_first : Read A → A
    of_first None = a
    of_first (Some z) = z.0

    of_second : Read A → List Token
    of_second None = x
    of_second (Some z) = z.1

-- primaries

record Closing (body inner : Expr) (mid rest : List Token) : Type 0 where
  right_sign : Token
  cut : mid ≡ right_sign ∷ rest
  is : Is t.Close right_sign
  same : inner ≡ body

closed_read : (inner : Expr) (mid : List Token) (body : Expr) (rest : List Token) → closed inner mid ≡ Some (body, rest) → Closing body inner mid rest
closed_read inner [] body rest h = cc
closed_read inner (token ∷ ts) body rest h = by_symbol (terminal_of token) refl h
  where
    by_symbol : (s : Terminal) → terminal_of token ≡ s → closed_by inner s ts ≡ Some (body, rest) → Closing body inner (token ∷ ts) rest
    by_symbol t.Close is h = record { right_sign = token; cut = ap (λ r. token ∷ r) (given _ _ _ _ h).1; is = is; same = (given _ _ _ _ h).0 }
    by_symbol _ is h = cc

primary_sound : (k : ℕ) → Sound k Implication → Sound (suc k) Primary
unfolding read
primary_sound k ih n [] body rest h = cc
primary_sound k ih n (token ∷ ts) body rest h = by_symbol (terminal_of token) refl h
  where
    one : (s : Terminal) (x : Expr) → SpellsExpr Primary n (token ∷ []) x → got x ts ≡ Some (body, rest) → Spelled Primary n (token ∷ ts) body rest
    one s x spells h = record {
      front = token ∷ [];
      cut = ap (λ r. token ∷ r) (given _ _ _ _ h).1;
      spells = subst (λ y. SpellsExpr Primary n (token ∷ []) y) (given _ _ _ _ h).0 spells;
    }

    grouped_sound : Is t.Open token → (o : (n < greatest_nesting) × (after closed (read k Implication (suc n) ts) ≡ Some (body, rest))) → Spelled Primary n (token ∷ ts) body rest
    grouped_sound is o =
        let tw = two closed (read k Implication (suc n) ts) body rest o.1 in
        let inner = ih (suc n) ts tw.first tw.mid tw.read_first in
        let close = closed_read tw.first tw.mid body rest tw.read_second in
        record {
          front = token ∷ inner.front ++ close.right_sign ∷ [];
          cut = ap (λ r. token ∷ r) (inner.cut ∙ ap (λ m. inner.front ++ m) close.cut ∙ sym (append_assoc inner.front (close.right_sign ∷ []) rest));
          spells = group token close.right_sign o.0 is (subst (λ y. SpellsExpr Implication (suc n) inner.front y) close.same inner.spells) close.is refl;
        }

    by_symbol : (s : Terminal) → terminal_of token ≡ s → primary_by (read k Implication (suc n)) n s token ts ≡ Some (body, rest) → Spelled Primary n (token ∷ ts) body rest
    by_symbol t.True is h = one t.True _ (truth token is) h
    by_symbol t.False is h = one t.False _ (falsity token is) h
    by_symbol t.Name is h = one t.Name _ (name token is) h
    by_symbol t.Open is h = grouped_sound is (opened_read n (after closed (read k Implication (suc n) ts)) body rest h)
    by_symbol _ is h = cc

-- comparisons

-- one token, and something behind it
record Sided (k n : ℕ) (level : Level) (symbol : Terminal) (mid : List Token) (body : Expr) (rest : List Token) : Type 0 where
  sign : Token
  is : Is symbol sign
  front : List Token
  cut : mid ≡ sign ∷ front ++ rest
  spells : SpellsExpr level n front body

compared_sound : (k : ℕ) → Sound k Primary → (n : ℕ) (before mid : List Token) (left body : Expr) (rest : List Token) → SpellsExpr Primary n before left → compared (read k Primary n) left mid ≡ Some (body, rest) → Spelled Negation n (before ++ mid) body rest
compared_sound k ih n before [] left body rest spells h =
    record { front = before; cut = ap (λ r. before ++ r) (given _ _ _ _ h).1; spells = subst (λ y. SpellsExpr Negation n before y) (given _ _ _ _ h).0 (primary spells) }
compared_sound k ih n before (token ∷ ts) left body rest spells h = by_symbol (terminal_of token) refl h
  where
    sided : (op : CompareOp) → ((behind : List Token) (right : Expr) → SpellsExpr Primary n behind right → SpellsExpr Negation n (before ++ token ∷ behind) (e.Compare op left right)) → after (λ r rest'. Some (e.Compare op left r, rest')) (read k Primary n ts) ≡ Some (body, rest) → Spelled Negation n (before ++ token ∷ ts) body rest
    sided op make h =
        let tw = two (λ r rest'. Some (e.Compare op left r, rest')) (read k Primary n ts) body rest h in
        let right = ih n ts tw.first tw.mid tw.read_first in
        let same = given _ _ _ _ tw.read_second in
        record {
          front = before ++ token ∷ right.front;
          cut = ap (λ m. before ++ token ∷ m) (right.cut ∙ ap (λ m. right.front ++ m) same.1) ∙ sym (append_assoc before (token ∷ right.front) rest);
          spells = subst (λ y. SpellsExpr Negation n (before ++ token ∷ right.front) y) same.0 (make right.front tw.first right.spells);
        }

    alone : got left (token ∷ ts) ≡ Some (body, rest) → Spelled Negation n (before ++ token ∷ ts) body rest
    alone h = record { front = before; cut = ap (λ r. before ++ r) (given _ _ _ _ h).1; spells = subst (λ y. SpellsExpr Negation n before y) (given _ _ _ _ h).0 (primary spells) }

    by_symbol : (s : Terminal) → terminal_of token ≡ s → compared_by (read k Primary n) left (compare_sign s) (token ∷ ts) ≡ Some (body, rest) → Spelled Negation n (before ++ token ∷ ts) body rest
    by_symbol t.Equal is h = sided Equal (λ behind right r. equal token spells is r refl) h
    by_symbol t.NotEqual is h = sided NotEqual (λ behind right r. not_equal token spells is r refl) h
    by_symbol _ is h = alone h

comparison_sound : (k : ℕ) → Sound k Primary → (n : ℕ) (tokens : List Token) (body : Expr) (rest : List Token) → after (compared (read k Primary n)) (read k Primary n tokens) ≡ Some (body, rest) → Spelled Negation n tokens body rest
comparison_sound k ih n tokens body rest h =
    let tw = two (compared (read k Primary n)) (read k Primary n tokens) body rest h in
    let left = ih n tokens tw.first tw.mid tw.read_first in
    let all = compared_sound k ih n left.front tw.mid tw.first body rest left.spells tw.read_second in
    record { front = all.front; cut = left.cut ∙ all.cut; spells = all.spells }

-- negations

negation_sound : (k : ℕ) → Sound k Negation → Sound k Primary → Sound (suc k) Negation
unfolding read
negation_sound k ih ihp n [] body rest h = comparison_sound k ihp n [] body rest h
negation_sound k ih ihp n (token ∷ ts) body rest h = by_symbol (terminal_of token) refl h
  where
    bang : Is t.Bang token → (o : (n < greatest_nesting) × (after (λ inner rest'. Some (e.Not inner token.at, rest')) (read k Negation (suc n) ts) ≡ Some (body, rest))) → Spelled Negation n (token ∷ ts) body rest
    bang is o =
        let tw = two (λ inner rest'. Some (e.Not inner token.at, rest')) (read k Negation (suc n) ts) body rest o.1 in
        let inner = ih (suc n) ts tw.first tw.mid tw.read_first in
        let same = given _ _ _ _ tw.read_second in
        record {
          front = token ∷ inner.front;
          cut = ap (λ m. token ∷ m) (inner.cut ∙ ap (λ m. inner.front ++ m) same.1);
          spells = subst (λ y. SpellsExpr Negation n (token ∷ inner.front) y) same.0 (negation token o.0 is inner.spells);
        }

    by_symbol : (s : Terminal) → terminal_of token ≡ s → negation_by (read k Negation (suc n)) (after (compared (read k Primary n)) (read k Primary n (token ∷ ts))) n s token ts ≡ Some (body, rest) → Spelled Negation n (token ∷ ts) body rest
    by_symbol t.Bang is h = bang is (opened_read n (after (λ inner rest'. Some (e.Not inner token.at, rest')) (read k Negation (suc n) ts)) body rest h)
    by_symbol _ is h = comparison_sound k ihp n (token ∷ ts) body rest h

-- chains

-- there is one further operand at least
pub some_links : {op : _} {n : ℕ} {tokens : List Token} {more : List Link} → SpellsLinks op n tokens more → more ≡ [] → ⊥
some_links (last_link sign is spells) h = cc
some_links (one_more_link sign is spells rest cut) h = cc

-- a chain, given its operands
chained_sound : (op : Connective) (n : ℕ) (before behind : List Token) (first : Expr) (more : List Link) → SpellsExpr (operand_of op) n before first → ((behind ≡ []) × (more ≡ [])) ⊎ SpellsLinks (chain_op op) n behind more → SpellsExpr (chain_level op) n (before ++ behind) (chain_of first more)
chained_sound op n before behind first [] spells (inl none) = subst (λ b. SpellsExpr (chain_level op) n (before ++ b) first) (sym none.0) (subst (λ b. SpellsExpr (chain_level op) n b first) (sym (append-nil before)) (alone op spells))
  where
    alone : (op : Connective) → SpellsExpr (operand_of op) n before first → SpellsExpr (chain_level op) n before first
    alone Or s = one_disjunct s
    alone And s = one_conjunct s
chained_sound op n before behind first (link ∷ more) spells (inl none) = cc
chained_sound op n before behind first [] spells (inr some) = absurd (some_links some refl)
chained_sound Or n before behind first (link ∷ more) spells (inr some) = disjunction spells some refl
chained_sound And n before behind first (link ∷ more) spells (inr some) = conjunction spells some refl

-- a chain whose operands and further operands are read in k turns
chain_sound : (k : ℕ) (op : Connective) → Sound k (operand_of op) → SoundLinks k op → (n : ℕ) (tokens : List Token) (body : Expr) (rest : List Token) → after (chained (links k op n)) (read k (operand_of op) n tokens) ≡ Some (body, rest) → Spelled (chain_level op) n tokens body rest
chain_sound k op ih ihl n tokens body rest h =
    let tw = two (chained (links k op n)) (read k (operand_of op) n tokens) body rest h in
    let first = ih n tokens tw.first tw.mid tw.read_first in
    let tw' = two (λ more rest'. Some (chain_of tw.first more, rest')) (links k op n tw.mid) body rest tw.read_second in
    let more = ihl n tw.mid tw'.first tw'.mid tw'.read_first in
    let same = given _ _ _ _ tw'.read_second in
    record {
      front = first.front ++ more.front;
      cut = first.cut ∙ ap (λ m. first.front ++ m) (more.cut ∙ ap (λ m. more.front ++ m) same.1) ∙ sym (append_assoc first.front more.front rest);
      spells = subst (λ y. SpellsExpr (chain_level op) n (first.front ++ more.front) y) same.0 (chained_sound op n first.front more.front tw.first tw'.first first.spells more.spells);
    }

-- one more operand, behind its sign
linked_sound : (op : Connective) (n : ℕ) (sign : Token) (before behind : List Token) (operand : Expr) (more : List Link) → Is (chain_sign (chain_op op)) sign → SpellsExpr (operand_of op) n before operand → ((behind ≡ []) × (more ≡ [])) ⊎ SpellsLinks (chain_op op) n behind more → SpellsLinks (chain_op op) n (sign ∷ before ++ behind) (link_of op operand ∷ more)
linked_sound Or n sign before behind operand more is spells (inl none) =
    subst (λ b. SpellsLinks (chain_op Or) n (sign ∷ before ++ b) (link_of Or operand ∷ more)) (sym none.0)
    (subst (λ b. SpellsLinks (chain_op Or) n (sign ∷ b) (link_of Or operand ∷ more)) (sym (append-nil before))
    (subst (λ ls. SpellsLinks (chain_op Or) n (sign ∷ before) (link_of Or operand ∷ ls)) (sym none.1) (last_link sign is spells)))
linked_sound And n sign before behind operand more is spells (inl none) =
    subst (λ b. SpellsLinks (chain_op And) n (sign ∷ before ++ b) (link_of And operand ∷ more)) (sym none.0)
    (subst (λ b. SpellsLinks (chain_op And) n (sign ∷ b) (link_of And operand ∷ more)) (sym (append-nil before))
    (subst (λ ls. SpellsLinks (chain_op And) n (sign ∷ before) (link_of And operand ∷ ls)) (sym none.1) (last_link sign is spells)))
linked_sound Or n sign before behind operand more is spells (inr some) = one_more_link sign is spells some refl
linked_sound And n sign before behind operand more is spells (inr some) = one_more_link sign is spells some refl

-- a sign of a chain is a token of its symbol
sign_is : (op : Connective) (symbol : Terminal) → is_sign op symbol ≡ true → symbol ≡ chain_sign (chain_op op)
sign_is Or t.Bar h = refl
sign_is Or _ h = cc
sign_is And t.Ampersand h = refl
sign_is And _ h = cc

links_sound : (k : ℕ) (op : Connective) → Sound k (operand_of op) → SoundLinks k op → SoundLinks (suc k) op
unfolding links
links_sound k op ih ihl n [] more rest h = at_end (is_sign op t.EndOfText) refl h
  where
    at_end : (b : Bool) → is_sign op t.EndOfText ≡ b → cond b (after (linked op (links k op n)) (read k (operand_of op) n [])) (Some ([], [])) ≡ Some (more, rest) → SpelledLinks op n [] more rest
    at_end true is h = absurd (never op is)
      where
        never : (op : Connective) → is_sign op t.EndOfText ≡ true → ⊥
        never Or h = cc
        never And h = cc
    at_end false is h = record { front = []; cut = (given _ _ _ _ h).1; spells = inl (refl, sym (given _ _ _ _ h).0) }
links_sound k op ih ihl n (token ∷ ts) more rest h = by_sign (is_sign op (terminal_of token)) refl h
  where
    by_sign : (b : Bool) → is_sign op (terminal_of token) ≡ b → cond b (after (linked op (links k op n)) (read k (operand_of op) n ts)) (Some ([], token ∷ ts)) ≡ Some (more, rest) → SpelledLinks op n (token ∷ ts) more rest
    by_sign false is h = record { front = []; cut = (given _ _ _ _ h).1; spells = inl (refl, sym (given _ _ _ _ h).0) }
    by_sign true is h =
        let tw = two (linked op (links k op n)) (read k (operand_of op) n ts) more rest h in
        let operand = ih n ts tw.first tw.mid tw.read_first in
        let tw' = two (λ ls rest'. Some (link_of op tw.first ∷ ls, rest')) (links k op n tw.mid) more rest tw.read_second in
        let others = ihl n tw.mid tw'.first tw'.mid tw'.read_first in
        let same = given _ _ _ _ tw'.read_second in
        record {
          front = token ∷ operand.front ++ others.front;
          cut = ap (λ m. token ∷ m) (operand.cut ∙ ap (λ m. operand.front ++ m) (others.cut ∙ ap (λ m. others.front ++ m) same.1) ∙ sym (append_assoc operand.front others.front rest));
          spells = inr (subst (λ y. SpellsLinks (chain_op op) n (token ∷ operand.front ++ others.front) y) same.0 (linked_sound op n token operand.front others.front tw.first tw'.first (sign_is op (terminal_of token) is) operand.spells others.spells));
        }

-- implications

implied_sound : (k : ℕ) → Sound k Disjunction → (n : ℕ) (before mid : List Token) (left body : Expr) (rest : List Token) → SpellsExpr Disjunction n before left → implied (read k Disjunction (suc n)) n left mid ≡ Some (body, rest) → Spelled Implication n (before ++ mid) body rest
implied_sound k ih n before [] left body rest spells h =
    record { front = before; cut = ap (λ r. before ++ r) (given _ _ _ _ h).1; spells = subst (λ y. SpellsExpr Implication n before y) (given _ _ _ _ h).0 (no_implication spells) }
implied_sound k ih n before (token ∷ ts) left body rest spells h = by_symbol (terminal_of token) refl h
  where
    arrow : Is t.Arrow token → (o : (n < greatest_nesting) × (after (λ r rest'. Some (e.Implies left r, rest')) (read k Disjunction (suc n) ts) ≡ Some (body, rest))) → Spelled Implication n (before ++ token ∷ ts) body rest
    arrow is o =
        let tw = two (λ r rest'. Some (e.Implies left r, rest')) (read k Disjunction (suc n) ts) body rest o.1 in
        let right = ih (suc n) ts tw.first tw.mid tw.read_first in
        let same = given _ _ _ _ tw.read_second in
        record {
          front = before ++ token ∷ right.front;
          cut = ap (λ m. before ++ token ∷ m) (right.cut ∙ ap (λ m. right.front ++ m) same.1) ∙ sym (append_assoc before (token ∷ right.front) rest);
          spells = subst (λ y. SpellsExpr Implication n (before ++ token ∷ right.front) y) same.0 (implication token spells o.0 is right.spells refl);
        }

    by_symbol : (s : Terminal) → terminal_of token ≡ s → implied_by (read k Disjunction (suc n)) n left s (token ∷ ts) ≡ Some (body, rest) → Spelled Implication n (before ++ token ∷ ts) body rest
    by_symbol t.Arrow is h = arrow is (opened_read n (after (λ r rest'. Some (e.Implies left r, rest')) (read k Disjunction (suc n) ts)) body rest h)
    by_symbol _ is h =
        record { front = before; cut = ap (λ r. before ++ r) (given _ _ _ _ h).1; spells = subst (λ y. SpellsExpr Implication n before y) (given _ _ _ _ h).0 (no_implication spells) }

implication_sound : (k : ℕ) → Sound k Disjunction → Sound (suc k) Implication
unfolding read
implication_sound k ih n tokens body rest h =
    let tw = two (implied (read k Disjunction (suc n)) n) (read k Disjunction n tokens) body rest h in
    let left = ih n tokens tw.first tw.mid tw.read_first in
    let all = implied_sound k ih n left.front tw.mid tw.first body rest left.spells tw.read_second in
    record { front = all.front; cut = left.cut ∙ all.cut; spells = all.spells }

-- all levels

mutual
  unfolding read links

  read_sound : (k : ℕ) (level : Level) → Sound k level
  read_sound zero level n tokens body rest h = cc
  read_sound (suc k) Implication n tokens body rest h = implication_sound k (read_sound k Disjunction) n tokens body rest h
  read_sound (suc k) Disjunction n tokens body rest h = chain_sound k Or (read_sound k Conjunction) (links_are_sound k Or) n tokens body rest h
  read_sound (suc k) Conjunction n tokens body rest h = chain_sound k And (read_sound k Negation) (links_are_sound k And) n tokens body rest h
  read_sound (suc k) Negation n tokens body rest h = negation_sound k (read_sound k Negation) (read_sound k Primary) n tokens body rest h
  read_sound (suc k) Primary n tokens body rest h = primary_sound k (read_sound k Implication) n tokens body rest h

  links_are_sound : (k : ℕ) (op : Connective) → SoundLinks k op
  links_are_sound zero op n tokens more rest h = cc
  links_are_sound (suc k) op n tokens more rest h = links_sound k op (read_sound k (operand_of op)) (links_are_sound k op) n tokens more rest h

-- what is read as an expression is spelled so
pub expr_sound : (k : ℕ) (n : ℕ) (tokens : List Token) (body : Expr) (rest : List Token) → read k Implication n tokens ≡ Some (body, rest) → Spelled Implication n tokens body rest
expr_sound k = read_sound k Implication
