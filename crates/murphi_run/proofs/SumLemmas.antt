-- Two lists of names and numbers, each name once, in which each name has the same number: their sums are one.
use Rattle.std.proofs.Common.{◌≡◌, ℕ, ◌+◌, Bool, true, false, not, ◌&&◌, List, [], ◌∷◌, Option, None, Some, refl, sym, ap, ◌∙◌, arith}
use Rattle.std.specs.Prelude.{if◌then◌else◌, is_some}
use Rattle.std.specs.Str.{bytes_eq}
use Rattle.std.proofs.lemmas.Bool.{and_parts, eq-eqb}
use Rattle.murphi_typed.specs.Families.{Name}
use Rattle.murphi_typed.proofs.TestLemmas.{names_true}

-- a name with a number
pub record Weight : Type 0 where
  pub name : Name
  pub many : ℕ

abbrev pub find : Name → List Weight → Option ℕ
find name [] = None
find name (w ∷ ws) = if bytes_eq w.name name then Some w.many else find name ws

-- no name stands twice
abbrev pub distinct : List Weight → Bool
distinct [] = true
distinct (w ∷ ws) = not (is_some (find w.name ws)) && distinct ws

-- the sum of the numbers of the names that pass a test
abbrev pub sum_if : (Name → Bool) → List Weight → ℕ
sum_if passes [] = 0
sum_if passes (w ∷ ws) = if passes w.name then w.many + sum_if passes ws else sum_if passes ws

-- without the first of a name
abbrev without : Name → List Weight → List Weight
without name [] = []
without name (w ∷ ws) = if bytes_eq w.name name then ws else w ∷ without name ws

pub name_self : (xs : List ℕ) → bytes_eq xs xs ≡ true
name_self [] = refl
name_self (x ∷ xs) = ap (λ b. b && bytes_eq xs xs) (eq-eqb x x refl) ∙ name_self xs

none_some : {A : Type 0} {a : A} → None ≡ Some a → ⊥
none_some e = cc

some_one : {A : Type 0} {a b : A} → Some a ≡ Some b → a ≡ b
some_one e = cc

not_there : (o : Option ℕ) → not (is_some o) ≡ true → o ≡ None
not_there None e = refl
not_there (Some k) e = cc

abbrev share : (Name → Bool) → Name → ℕ → ℕ
share passes name many = if passes name then many else 0

sum_without : (passes : Name → Bool) (name : Name) (many : ℕ) (ws : List Weight) → find name ws ≡ Some many → sum_if passes ws ≡ share passes name many + sum_if passes (without name ws)
sum_without passes name many [] e = absurd (none_some e)
sum_without passes name many (w ∷ ws) e = go (bytes_eq w.name name) refl e (sum_without passes name many ws)
  where
    add : (b : Bool) (k s : ℕ) → (if b then k + s else s) ≡ (if b then k else 0) + s
    add true k s = refl
    add false k s = let e : s ≡ 0 + s = omega arith in e

    over : (b c : Bool) (k j s r : ℕ) → s ≡ (if c then j else 0) + r → (if b then k + s else s) ≡ (if c then j else 0) + (if b then k + r else r)
    over true true k j s r e = omega (arith, e)
    over true false k j s r e = omega (arith, e)
    over false true k j s r e = e
    over false false k j s r e = e

    go : (b : Bool) → bytes_eq w.name name ≡ b → (if b then Some w.many else find name ws) ≡ Some many → (find name ws ≡ Some many → sum_if passes ws ≡ share passes name many + sum_if passes (without name ws)) → (if passes w.name then w.many + sum_if passes ws else sum_if passes ws) ≡ share passes name many + sum_if passes (if b then ws else w ∷ without name ws)
    go true was e more =
        add (passes w.name) w.many (sum_if passes ws)
        ∙ ap (λ n. share passes n w.many + sum_if passes ws) (names_true w.name name was)
        ∙ ap (λ k. share passes name k + sum_if passes ws) (some_one e)
    go false was e more = over (passes w.name) (passes name) w.many many (sum_if passes ws) (sum_if passes (without name ws)) (more e)

-- names that are found elsewhere are found as before
others_stay : (name other : Name) (ws : List Weight) → bytes_eq name other ≡ false → find other (without name ws) ≡ find other ws
others_stay name other [] e = refl
others_stay name other (w ∷ ws) e = go (bytes_eq w.name name) refl (others_stay name other ws e)
  where
    go : (b : Bool) → bytes_eq w.name name ≡ b → find other (without name ws) ≡ find other ws → find other (if b then ws else w ∷ without name ws) ≡ (if bytes_eq w.name other then Some w.many else find other ws)
    go true was more =
        let differs : bytes_eq w.name other ≡ false = ap (λ x. bytes_eq x other) (names_true w.name name was) ∙ e in
        sym (ap (λ b. if b then Some w.many else find other ws) differs)
    go false was more = ap (λ o. if bytes_eq w.name other then Some w.many else o) more

itself_gone : (name : Name) (ws : List Weight) → distinct ws ≡ true → find name (without name ws) ≡ None
itself_gone name [] e = refl
itself_gone name (w ∷ ws) e =
    let (once, more) = and_parts (not (is_some (find w.name ws))) (distinct ws) e in
    go (bytes_eq w.name name) refl (not_there (find w.name ws) once) (itself_gone name ws more)
  where
    go : (b : Bool) → bytes_eq w.name name ≡ b → find w.name ws ≡ None → find name (without name ws) ≡ None → find name (if b then ws else w ∷ without name ws) ≡ None
    go true was once more = ap (λ x. find x ws) (sym (names_true w.name name was)) ∙ once
    go false was once more = ap (λ b. if b then Some w.many else find name (without name ws)) was ∙ more

stays_distinct : (name : Name) (ws : List Weight) → distinct ws ≡ true → distinct (without name ws) ≡ true
stays_distinct name [] e = refl
stays_distinct name (w ∷ ws) e =
    let (once, more) = and_parts (not (is_some (find w.name ws))) (distinct ws) e in
    go (bytes_eq w.name name) refl once more (stays_distinct name ws more)
  where
    same : (a b : Name) (c : Bool) → bytes_eq a b ≡ c → bytes_eq b a ≡ true → c ≡ true
    same a b c was e = sym was ∙ ap (bytes_eq a) (names_true b a e) ∙ name_self a

    turned : (a b : Name) → bytes_eq a b ≡ false → bytes_eq b a ≡ false
    turned a b was = by (bytes_eq b a) refl
      where
        by : (c : Bool) → bytes_eq b a ≡ c → c ≡ false
        by false e = refl
        by true e = let wrong : false ≡ true = same a b false was e in cc

    go : (b : Bool) → bytes_eq w.name name ≡ b → not (is_some (find w.name ws)) ≡ true → distinct ws ≡ true → distinct (without name ws) ≡ true → distinct (if b then ws else w ∷ without name ws) ≡ true
    go true was once more less = more
    go false was once more less =
        ap (λ o. not (is_some o) && distinct (without name ws)) (others_stay name w.name ws (turned w.name name was))
        ∙ ap (λ b. b && distinct (without name ws)) once ∙ less

pub sums_alike : (passes : Name → Bool) (ws vs : List Weight) → distinct ws ≡ true → distinct vs ≡ true → ((name : Name) → find name ws ≡ find name vs) → sum_if passes ws ≡ sum_if passes vs
sums_alike passes [] [] e f same = refl
sums_alike passes [] (v ∷ vs) e f same =
    let found : find v.name (v ∷ vs) ≡ Some v.many = ap (λ b. if b then Some v.many else find v.name vs) (name_self v.name) in
    absurd (none_some (same v.name ∙ found))
sums_alike passes (w ∷ ws) vs e f same =
    let (once, more) = and_parts (not (is_some (find w.name ws))) (distinct ws) e in
    let found : find w.name (w ∷ ws) ≡ Some w.many = ap (λ b. if b then Some w.many else find w.name ws) (name_self w.name) in
    let there : find w.name vs ≡ Some w.many = sym (same w.name) ∙ found in
    let rest : sum_if passes ws ≡ sum_if passes (without w.name vs) = sums_alike passes ws (without w.name vs) more (stays_distinct w.name vs f) (λ name. go (not_there (find w.name ws) once) name (bytes_eq w.name name) refl) in
    add (passes w.name) w.many (sum_if passes ws) ∙ ap (λ k. share passes w.name w.many + k) rest ∙ sym (sum_without passes w.name w.many vs there)
  where
    add : (b : Bool) (k s : ℕ) → (if b then k + s else s) ≡ (if b then k else 0) + s
    add true k s = refl
    add false k s = let e : s ≡ 0 + s = omega arith in e

    go : find w.name ws ≡ None → (name : Name) (b : Bool) → bytes_eq w.name name ≡ b → find name ws ≡ find name (without w.name vs)
    go once name true was =
        ap (λ x. find x ws) (sym (names_true w.name name was)) ∙ once
        ∙ sym (itself_gone w.name vs f) ∙ ap (λ x. find x (without w.name vs)) (names_true w.name name was)
    go once name false was =
        sym (ap (λ b. if b then Some w.many else find name ws) was) ∙ same name ∙ sym (others_stay w.name name vs was)
