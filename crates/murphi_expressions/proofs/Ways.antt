-- What serves every way through the readers: what stops a part stops the whole, the room inside a nesting, what
-- follows of the first token, and lists that are read in a loop.
use Rattle.std.proofs.Common.{◌≡◌, ℕ, suc, ◌+◌, Bool, true, false, List, [], ◌∷◌, ◌++◌, drop, Ok, Err, Result, refl, sym, ap, ◌∙◌, subst, append_assoc, append-nil, arith}
use Rattle.grammar_core.specs.Forms.{TreeOf}
use Rattle.grammar_core.specs.Spelling.{Limit, Inside, one_less}
use Rattle.grammar_core.specs.Reading as read
use Rattle.grammar_core.specs.Reading.{Fault, Got}
use Rattle.grammar_core.specs.Test.{is_in, apart, within, head_in, firsts}
use Rattle.grammar_core.specs.Walk as u
use Rattle.grammar_core.specs.Walk.{Run}
use Rattle.grammar_core.proofs.Sets.{in_within, not_apart}
use Rattle.murphi_ast.specs.declared.token.Token.{Token}
use Rattle.murphi_grammar.specs.Names.{Name}
use Rattle.murphi_grammar.specs.Parts.{Part, many, form}
use Rattle.murphi_grammar.specs.Symbols.{symbol_of}
use Rattle.murphi_grammar.specs.Values.{Value}
use Rattle.murphi_grammar.specs.Factored.{rule, build}
use Rattle.murphi_grammar.specs.Tables.{tables, code}
use Rattle.murphi_expressions.specs.Says.{Stops, Says, Gives, SoFar, can_begin, itself, with_front}
use Rattle.murphi_expressions.specs.declared.step.Stop.{Stop}
use Rattle.murphi_expressions.specs.declared.step.Stop.TheVariants.{Wrong, Deep, Memory}

-- what stops a part stops the whole
pub stops_as : {f g : Part} {k m : ℕ} (ts : List Token) (i at : ℕ) (s : Stop) →
    ((why : Fault) (rest : List Token) → Run tables (Limit m) f (drop i ts) (read.Stop why rest) → Run tables (Limit k) g (drop at ts) (read.Stop why rest)) →
    Stops f m ts i s → Stops g k ts at s
unfolding Stops
stops_as ts i at (Wrong j) h p = h read.Wrong _ p
stops_as ts i at (Deep j) h p = h read.Deep _ p
stops_as ts i at Memory h p = tt

forgotten : (f : Part) (k : ℕ) (ts : List Token) (at : ℕ) (s : Stop) → s ≡ Memory → Stops f k ts at s
unfolding Stops
forgotten f k ts at (Wrong j) h = absurd (cc)
forgotten f k ts at (Deep j) h = absurd (cc)
forgotten f k ts at Memory h = tt

-- want of memory may be answered of every form
pub no_memory : (name : Name) (k : ℕ) (ts : List Token) (at : ℕ) (s : Stop) → s ≡ Memory → Says name k ts at (Err s)
unfolding Says
no_memory name k ts at s h = forgotten (form name) k ts at s h

pub gives_no_memory : {V : Type 0} (f : Part) (made : TreeOf Token Value f → V) (k : ℕ) (ts : List Token) (at : ℕ) (s : Stop) → s ≡ Memory → Gives f made k ts at (Err s)
unfolding Gives
gives_no_memory f made k ts at s h = forgotten f k ts at s h

-- the room inside
pub inside : (k m : ℕ) → k ≡ m + 1 → Inside (Limit k) (Limit m)
inside k m e = let h : suc m ≡ k = omega arith in subst (λ z. Inside (Limit z) (Limit m)) h one_less

-- what the first token begins, where it begins another form
head_within : (xs ys : List ℕ) (rest : List Token) → within xs ys ≡ true → head_in tables xs rest ≡ true → head_in tables ys rest ≡ true
head_within xs ys [] w h = absurd (cc)
head_within xs ys (x ∷ rest) w h = in_within (code (symbol_of x)) xs ys w h

pub included : (f g : Part) (ts : List Token) (at : ℕ) → can_begin f ts at ≡ true → within (firsts tables f) (firsts tables g) ≡ true → can_begin g ts at ≡ true
unfolding can_begin
included f g ts at h w = head_within (firsts tables f) (firsts tables g) (drop at ts) w h

head_apart : (xs ys : List ℕ) (rest : List Token) → apart xs ys ≡ true → head_in tables xs rest ≡ true → head_in tables ys rest ≡ false
head_apart xs ys [] w h = refl
head_apart xs ys (x ∷ rest) w h = go (is_in (code (symbol_of x)) ys) refl
  where
    go : (b : Bool) → is_in (code (symbol_of x)) ys ≡ b → is_in (code (symbol_of x)) ys ≡ false
    go true e = absurd (not_apart (code (symbol_of x)) xs ys w h e)
    go false e = e

pub excluded : (f g : Part) (ts : List Token) (at : ℕ) → can_begin f ts at ≡ true → apart (firsts tables f) (firsts tables g) ≡ true → can_begin g ts at ≡ false
unfolding can_begin
excluded f g ts at h w = head_apart (firsts tables f) (firsts tables g) (drop at ts) w h

pub shrunk : (f g : Part) (ts : List Token) (at : ℕ) → can_begin f ts at ≡ false → within (firsts tables g) (firsts tables f) ≡ true → can_begin g ts at ≡ false
shrunk f g ts at h w = go (can_begin g ts at) refl
  where
    go : (b : Bool) → can_begin g ts at ≡ b → can_begin g ts at ≡ false
    go true e = let z : can_begin f ts at ≡ true = included g f ts at e w in absurd (cc)
    go false e = e

-- the reading of a named form is that of its right side
uncalled : {name : Name} {k : ℕ} {why : Fault} {all rest : List Token} → Run tables (Limit k) (form name) all (read.Stop why rest) → Run tables (Limit k) (rule name) all (read.Stop why rest)
uncalled (u.call_stop p) = p

pub unnamed : (name : Name) (k : ℕ) (ts : List Token) (at : ℕ) (r : Result (Value name × ℕ) Stop) → Gives (form name) itself k ts at r → Gives (rule name) (build name) k ts at r
unfolding Gives
unnamed name k ts at (Ok (x, next)) (v, e, u.call {t = parts} d p) = (parts, e ∙ d, p)
unnamed name k ts at (Err s) p = stops_as ts at at s (λ why rest q. uncalled q) p

pub renamed : (name : Name) (k : ℕ) (ts : List Token) (at : ℕ) (r : Result (Value name × ℕ) Stop) → Gives (rule name) (build name) k ts at r → Gives (form name) itself k ts at r
unfolding Gives
renamed name k ts at (Ok (x, next)) (parts, e, p) = (_, e, u.call refl p)
renamed name k ts at (Err s) p = stops_as ts at at s (λ why rest q. u.call_stop q) p

pub said : (name : Name) (k : ℕ) (ts : List Token) (at : ℕ) (r : Result (Value name × ℕ) Stop) → Gives (form name) itself k ts at r → Says name k ts at r
unfolding Says Gives
said name k ts at (Ok (x, next)) (v, e, p) = subst (λ z. Run tables (Limit k) (form name) (drop at ts) (Got z (drop next ts))) (sym e) p
said name k ts at (Err s) p = p

-- before anything was read
pub nothing_yet : {A : Type 0} (f : Part) (made : TreeOf Token Value f → List A) (k : ℕ) (ts : List Token) (at : ℕ) → SoFar f made f made k ts at at []
unfolding SoFar
nothing_yet f made k ts at (Ok (xs, next)) p = p
nothing_yet f made k ts at (Err s) p = p

-- nothing before an answer
pub with_none : {A : Type 0} (r : Result (List A × ℕ) Stop) → with_front [] r ≡ r
with_none (Ok (xs, next)) = refl
with_none (Err s) = refl

front_front : {A : Type 0} (xs ys : List A) (r : Result (List A × ℕ) Stop) → with_front xs (with_front ys r) ≡ with_front (xs ++ ys) r
front_front xs ys (Ok (zs, next)) = ap (λ l. Ok (l, next)) (sym (append_assoc xs ys zs))
front_front xs ys (Err s) = refl

-- one more of a repetition
one_more : {A : Type 0} (f : Part) (made : List (TreeOf Token Value f) → List A) (k : ℕ) (ts : List Token) (at next : ℕ) (x : TreeOf Token Value f) (front : List A) →
    ((xs : List (TreeOf Token Value f)) → front ++ made xs ≡ made (x ∷ xs)) → Run tables (Limit k) f (drop at ts) (Got x (drop next ts)) →
    (r : Result (List A × ℕ) Stop) → Gives (many f) made k ts next r → Gives (many f) made k ts at (with_front front r)
unfolding Gives
one_more f made k ts at next x front law p (Ok (ys, end)) (xs, e, q) = (x ∷ xs, ap (λ z. front ++ z) e ∙ law xs, u.more p q)
one_more f made k ts at next x front law p (Err s) q = stops_as ts next at s (λ why rest z. u.more_behind p z) q

-- and of a list, which is a repetition, and of which these were read so far
pub read_more : {A : Type 0} (f : Part) (made : List (TreeOf Token Value f) → List A) (whole : Part) (gives : TreeOf Token Value whole → List A) (k : ℕ) (ts : List Token) (from at next : ℕ) (front more : List A) (x : TreeOf Token Value f) →
    SoFar (many f) made whole gives k ts from at front → ((xs : List (TreeOf Token Value f)) → more ++ made xs ≡ made (x ∷ xs)) → Run tables (Limit k) f (drop at ts) (Got x (drop next ts)) →
    SoFar (many f) made whole gives k ts from next (front ++ more)
unfolding SoFar
read_more f made whole gives k ts from at next front more x so law p r q =
    subst (λ z. Gives whole gives k ts from z) (front_front front more r) (so (with_front more r) (one_more f made k ts at next x more law p r q))

-- the list ends where no more of it begins
pub read_all : {A : Type 0} (f : Part) (made : List (TreeOf Token Value f) → List A) (whole : Part) (gives : TreeOf Token Value whole → List A) (k : ℕ) (ts : List Token) (from at : ℕ) (front : List A) →
    SoFar (many f) made whole gives k ts from at front → [] ≡ made [] → can_begin f ts at ≡ false → Gives whole gives k ts from (Ok (front, at))
unfolding SoFar Gives can_begin
read_all f made whole gives k ts from at front so e h =
    subst (λ z. Gives whole gives k ts from (Ok (z, at))) (append-nil front) (so (Ok ([], at)) ([], e, u.none h))

-- what stops one more stops the list
pub read_stops : {A : Type 0} (f g : Part) (made : List (TreeOf Token Value f) → List A) (whole : Part) (gives : TreeOf Token Value whole → List A) (k m : ℕ) (ts : List Token) (from at i : ℕ) (front : List A) (s : Stop) →
    SoFar (many f) made whole gives k ts from at front → can_begin f ts at ≡ true →
    ((why : Fault) (rest : List Token) → Run tables (Limit m) g (drop i ts) (read.Stop why rest) → Run tables (Limit k) f (drop at ts) (read.Stop why rest)) →
    Stops g m ts i s → Gives whole gives k ts from (Err s)
unfolding SoFar Gives can_begin
read_stops f g made whole gives k m ts from at i front s so h step p = so (Err s) (stops_as ts i at s (λ why rest q. u.more_stop h (step why rest q)) p)

-- more behind what was read so far
pub one_behind : {A : Type 0} (rest : Part) (made : TreeOf Token Value rest → List A) (whole : Part) (gives : TreeOf Token Value whole → List A) (k : ℕ) (ts : List Token) (from at next : ℕ) (front more : List A) →
    SoFar rest made whole gives k ts from at front → (r : Result (List A × ℕ) Stop) → Gives rest made k ts at (with_front more r) →
    Gives whole gives k ts from (with_front (front ++ more) r)
unfolding SoFar
one_behind rest made whole gives k ts from at next front more so r q =
    subst (λ z. Gives whole gives k ts from z) (front_front front more r) (so (with_front more r) q)
