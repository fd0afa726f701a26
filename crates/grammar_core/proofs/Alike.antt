-- Two forms that are alike: the same tokens spell them, with the same values of their trees, and the same
-- tokens begin them.
use Rattle.std.specs.Prelude.{map}
use Rattle.std.proofs.Common.{◌≡◌, List, [], ◌∷◌, ◌++◌, ◌⊎◌, inl, inr, refl, sym, ap, ◌∙◌, append_assoc}
use Rattle.grammar_core.specs.Forms.{Form, TreeOf, Seq, Choice, Many, Nest, Call, Grammar, FormOf, Tree}
use Rattle.grammar_core.specs.Spelling.{Room, Spells, Begins}
use Rattle.grammar_core.specs.Spelling.{Spells as s}
use Rattle.grammar_core.specs.Spelling.{Begins as b}

-- what spells or begins the one spells or begins the other
pub record Within (g : Grammar) {V : Type 0} (x : FormOf g) (vx : Tree g x → V) (y : FormOf g) (vy : Tree g y → V) : Type 0 where
  pub spells : (r : Room) (us : List g.Token) (t : Tree g x) → Spells g r x us t → (t' : Tree g y) × Spells g r y us t' × (vx t ≡ vy t')
  pub begins : (r : Room) (us : List g.Token) → Begins g r x us → Begins g r y us

pub record Alike (g : Grammar) {V : Type 0} (x : FormOf g) (vx : Tree g x → V) (y : FormOf g) (vy : Tree g y → V) : Type 0 where
  pub there : Within g x vx y vy
  pub back : Within g y vy x vx

pub within_same : (g : Grammar) {V : Type 0} (x : FormOf g) (v : Tree g x → V) → Within g x v x v
within_same g x v = record { spells = λ r us t p. (t, p, refl); begins = λ r us p. p }

pub same : (g : Grammar) {V : Type 0} (x : FormOf g) (v : Tree g x → V) → Alike g x v x v
same g x v = record { there = within_same g x v; back = within_same g x v }

pub flip : {g : Grammar} {V : Type 0} {x y : FormOf g} {vx : Tree g x → V} {vy : Tree g y → V} → Alike g x vx y vy → Alike g y vy x vx
flip p = record { there = p.back; back = p.there }

pub within_over : {g : Grammar} {V : Type 0} {x y z : FormOf g} {vx : Tree g x → V} {vy : Tree g y → V} {vz : Tree g z → V} → Within g x vx y vy → Within g y vy z vz → Within g x vx z vz
within_over p q = record {
  spells = λ r us t w. let m = p.spells r us t w in let n = q.spells r us m.0 m.1 in (n.0, n.1, m.2 ∙ n.2);
  begins = λ r us w. q.begins r us (p.begins r us w);
}

pub over : {g : Grammar} {V : Type 0} {x y z : FormOf g} {vx : Tree g x → V} {vy : Tree g y → V} {vz : Tree g z → V} → Alike g x vx y vy → Alike g y vy z vz → Alike g x vx z vz
over p q = record { there = within_over p.there q.there; back = within_over q.back p.back }

pub within_post : {g : Grammar} {V U : Type 0} {x y : FormOf g} {vx : Tree g x → V} {vy : Tree g y → V} (k : V → U) → Within g x vx y vy → Within g x (λ t. k (vx t)) y (λ t. k (vy t))
within_post k p = record { spells = λ r us t w. let m = p.spells r us t w in (m.0, m.1, ap k m.2); begins = p.begins }

-- a value of the value
pub post : {g : Grammar} {V U : Type 0} {x y : FormOf g} {vx : Tree g x → V} {vy : Tree g y → V} (k : V → U) → Alike g x vx y vy → Alike g x (λ t. k (vx t)) y (λ t. k (vy t))
post k p = record { there = within_post k p.there; back = within_post k p.back }

pub within_as : {g : Grammar} {V : Type 0} {x y : FormOf g} {vx wx : Tree g x → V} {vy wy : Tree g y → V} → ((t : Tree g x) → wx t ≡ vx t) → ((t : Tree g y) → wy t ≡ vy t) → Within g x vx y vy → Within g x wx y wy
within_as hx hy p = record { spells = λ r us t w. let m = p.spells r us t w in (m.0, m.1, hx t ∙ m.2 ∙ sym (hy m.0)); begins = p.begins }

-- the same values, written in another way
pub valued : {g : Grammar} {V : Type 0} {x y : FormOf g} {vx wx : Tree g x → V} {vy wy : Tree g y → V} → Alike g x vx y vy → ((t : Tree g x) → wx t ≡ vx t) → ((t : Tree g y) → wy t ≡ vy t) → Alike g x wx y wy
valued p hx hy = record { there = within_as hx hy p.there; back = within_as hy hx p.back }

-- a named form and its right side
pub named : (g : Grammar) (n : g.Name) → Alike g (g.rule n) (g.build n) (Call n) (λ v. v)
named g n = record {
  there = record { spells = λ r us t p. (g.build n t, s.call p refl, refl); begins = λ r us p. b.call p };
  back = record { spells = λ r us v p. go r us v p; begins = λ r us p. begun r us p };
}
  where
    go : (r : Room) (us : List g.Token) (v : g.Value n) → Spells g r (Call n) us v → (t : Tree g (g.rule n)) × Spells g r (g.rule n) us t × (v ≡ g.build n t)
    go r us v (s.call {t = t} p e) = (t, p, e)

    begun : (r : Room) (us : List g.Token) → Begins g r (Call n) us → Begins g r (g.rule n) us
    begun r us b.nothing = b.nothing
    begun r us (b.call p) = p

abbrev pub both : {A B C D : Type 0} → (A → C) → (B → D) → A × B → C × D
both f h (x, y) = (f x, h y)

abbrev pub either : {A B C D : Type 0} → (A → C) → (B → D) → A ⊎ B → C ⊎ D
either f h (inl x) = inl (f x)
either f h (inr y) = inr (h y)

pair_is : {A B : Type 0} {x x' : A} {y y' : B} → x ≡ x' → y ≡ y' → ◌≡◌ {A = A × B} (x, y) (x', y')
pair_is h k = cc

cons_is : {A : Type 0} {x x' : A} {xs xs' : List A} → x ≡ x' → xs ≡ xs' → x ∷ xs ≡ x' ∷ xs'
cons_is h k = cc

pub within_seq : {g : Grammar} {V U : Type 0} {x y x' y' : FormOf g} {vx : Tree g x → V} {vy : Tree g y → V} {ux : Tree g x' → U} {uy : Tree g y' → U} → Within g x vx y vy → Within g x' ux y' uy → Within g (Seq x x') (both vx ux) (Seq y y') (both vy uy)
within_seq {g} {x = x} {y = y} {x' = x'} {y' = y'} {vx = vx} {vy = vy} {ux = ux} {uy = uy} p q = record { spells = λ r us t w. go r us t w; begins = λ r us w. begun r us w }
  where
    go : (r : Room) (us : List g.Token) (t : Tree g (Seq x x')) → Spells g r (Seq x x') us t → (t' : Tree g (Seq y y')) × Spells g r (Seq y y') us t' × (both vx ux t ≡ both vy uy t')
    go r us (t, t') (s.seq w z e) =
        let m = p.spells r _ t w in let n = q.spells r _ t' z in ((m.0, n.0), s.seq m.1 n.1 e, pair_is m.2 n.2)

    begun : (r : Room) (us : List g.Token) → Begins g r (Seq x x') us → Begins g r (Seq y y') us
    begun r us b.nothing = b.nothing
    begun r us (b.first w) = b.first (p.begins r _ w)
    begun r us (b.second {x = t} w z e) = b.second (p.spells r _ t w).1 (q.begins r _ z) e

-- one behind the other
pub seq : {g : Grammar} {V U : Type 0} {x y x' y' : FormOf g} {vx : Tree g x → V} {vy : Tree g y → V} {ux : Tree g x' → U} {uy : Tree g y' → U} → Alike g x vx y vy → Alike g x' ux y' uy → Alike g (Seq x x') (both vx ux) (Seq y y') (both vy uy)
seq p q = record { there = within_seq p.there q.there; back = within_seq p.back q.back }

pub within_choice : {g : Grammar} {V U : Type 0} {x y x' y' : FormOf g} {vx : Tree g x → V} {vy : Tree g y → V} {ux : Tree g x' → U} {uy : Tree g y' → U} → Within g x vx y vy → Within g x' ux y' uy → Within g (Choice x x') (either vx ux) (Choice y y') (either vy uy)
within_choice {g} {x = x} {y = y} {x' = x'} {y' = y'} {vx = vx} {vy = vy} {ux = ux} {uy = uy} p q = record { spells = λ r us t w. go r us t w; begins = λ r us w. begun r us w }
  where
    go : (r : Room) (us : List g.Token) (t : Tree g (Choice x x')) → Spells g r (Choice x x') us t → (t' : Tree g (Choice y y')) × Spells g r (Choice y y') us t' × (either vx ux t ≡ either vy uy t')
    go r us (inl t) (s.left w) = let m = p.spells r _ t w in (inl m.0, s.left m.1, ap inl m.2)
    go r us (inr t) (s.right w) = let m = q.spells r _ t w in (inr m.0, s.right m.1, ap inr m.2)

    begun : (r : Room) (us : List g.Token) → Begins g r (Choice x x') us → Begins g r (Choice y y') us
    begun r us b.nothing = b.nothing
    begun r us (b.left w) = b.left (p.begins r _ w)
    begun r us (b.right w) = b.right (q.begins r _ w)

-- either
pub choice : {g : Grammar} {V U : Type 0} {x y x' y' : FormOf g} {vx : Tree g x → V} {vy : Tree g y → V} {ux : Tree g x' → U} {uy : Tree g y' → U} → Alike g x vx y vy → Alike g x' ux y' uy → Alike g (Choice x x') (either vx ux) (Choice y y') (either vy uy)
choice p q = record { there = within_choice p.there q.there; back = within_choice p.back q.back }

pub within_many : {g : Grammar} {V : Type 0} {x y : FormOf g} {vx : Tree g x → V} {vy : Tree g y → V} → Within g x vx y vy → Within g (Many x) (map vx) (Many y) (map vy)
within_many {g} {x = x} {y = y} {vx = vx} {vy = vy} p = record { spells = λ r us t w. go r us t w; begins = λ r us w. begun r us w }
  where
    go : (r : Room) (us : List g.Token) (t : List (Tree g x)) → Spells g r (Many x) us t → (t' : List (Tree g y)) × Spells g r (Many y) us t' × (map vx t ≡ map vy t')
    go r us [] s.none = ([], s.none, refl)
    go r us (t ∷ ts) (s.more {ws = ws} w z e) = let m = p.spells r _ t w in let n = go r ws ts z in (m.0 ∷ n.0, s.more m.1 n.1 e, cons_is m.2 n.2)

    begun : (r : Room) (us : List g.Token) → Begins g r (Many x) us → Begins g r (Many y) us
    begun r us b.nothing = b.nothing
    begun r us (b.some {xs = xs} w z e) = b.some (go r _ xs w).1 (p.begins r _ z) e

-- any number
pub many : {g : Grammar} {V : Type 0} {x y : FormOf g} {vx : Tree g x → V} {vy : Tree g y → V} → Alike g x vx y vy → Alike g (Many x) (map vx) (Many y) (map vy)
many p = record { there = within_many p.there; back = within_many p.back }

pub within_nest : {g : Grammar} {V : Type 0} {x y : FormOf g} {vx : Tree g x → V} {vy : Tree g y → V} (c : g.Symbol) → Within g x vx y vy → Within g (Nest c x) (both (λ u. u) vx) (Nest c y) (both (λ u. u) vy)
within_nest {g} {x = x} {y = y} {vx = vx} {vy = vy} c p = record { spells = λ r us t w. go r us t w; begins = λ r us w. begun r us w }
  where
    go : (r : Room) (us : List g.Token) (t : Tree g (Nest c x)) → Spells g r (Nest c x) us t → (t' : Tree g (Nest c y)) × Spells g r (Nest c y) us t' × (both {A = g.Token} (λ u. u) vx t ≡ both (λ u. u) vy t')
    go r us (k, t) (s.nest {q = q} u h i w) = let m = p.spells q _ t w in ((k, m.0), s.nest u h i m.1, pair_is refl m.2)

    begun : (r : Room) (us : List g.Token) → Begins g r (Nest c x) us → Begins g r (Nest c y) us
    begun r us b.nothing = b.nothing
    begun r us (b.nest {q = q} u h i w) = b.nest u h i (p.begins q _ w)

-- a nesting
pub nest : {g : Grammar} {V : Type 0} {x y : FormOf g} {vx : Tree g x → V} {vy : Tree g y → V} (c : g.Symbol) → Alike g x vx y vy → Alike g (Nest c x) (both (λ u. u) vx) (Nest c y) (both (λ u. u) vy)
nest c p = record { there = within_nest c p.there; back = within_nest c p.back }

-- two sequences with the same first part
abbrev pub shared : {A B C : Type 0} → (A × B) ⊎ (A × C) → A × (B ⊎ C)
shared (inl (x, y)) = (x, inl y)
shared (inr (x, y)) = (x, inr y)

pub first_shared : (g : Grammar) (x y z : FormOf g) → Alike g (Choice (Seq x y) (Seq x z)) shared (Seq x (Choice y z)) (λ t. t)
first_shared g x y z = record {
  there = record { spells = λ r us t w. go r us t w; begins = λ r us w. begun r us w };
  back = record { spells = λ r us t w. come r us t w; begins = λ r us w. begin r us w };
}
  where
    go : (r : Room) (us : List g.Token) (t : Tree g (Choice (Seq x y) (Seq x z))) → Spells g r (Choice (Seq x y) (Seq x z)) us t → (t' : Tree g (Seq x (Choice y z))) × Spells g r (Seq x (Choice y z)) us t' × (shared t ≡ t')
    go r us (inl (t, u)) (s.left (s.seq p q e)) = ((t, inl u), s.seq p (s.left q) e, refl)
    go r us (inr (t, u)) (s.right (s.seq p q e)) = ((t, inr u), s.seq p (s.right q) e, refl)

    come : (r : Room) (us : List g.Token) (t : Tree g (Seq x (Choice y z))) → Spells g r (Seq x (Choice y z)) us t → (t' : Tree g (Choice (Seq x y) (Seq x z))) × Spells g r (Choice (Seq x y) (Seq x z)) us t' × (t ≡ shared t')
    come r us (t, inl u) (s.seq p (s.left q) e) = (inl (t, u), s.left (s.seq p q e), refl)
    come r us (t, inr u) (s.seq p (s.right q) e) = (inr (t, u), s.right (s.seq p q e), refl)

    begun : (r : Room) (us : List g.Token) → Begins g r (Choice (Seq x y) (Seq x z)) us → Begins g r (Seq x (Choice y z)) us
    begun r us b.nothing = b.nothing
    begun r us (b.left b.nothing) = b.nothing
    begun r us (b.left (b.first p)) = b.first p
    begun r us (b.left (b.second p q e)) = b.second p (b.left q) e
    begun r us (b.right b.nothing) = b.nothing
    begun r us (b.right (b.first p)) = b.first p
    begun r us (b.right (b.second p q e)) = b.second p (b.right q) e

    begin : (r : Room) (us : List g.Token) → Begins g r (Seq x (Choice y z)) us → Begins g r (Choice (Seq x y) (Seq x z)) us
    begin r us b.nothing = b.nothing
    begin r us (b.first p) = b.left (b.first p)
    begin r us (b.second p b.nothing e) = b.left (b.second p b.nothing e)
    begin r us (b.second p (b.left q) e) = b.left (b.second p q e)
    begin r us (b.second p (b.right q) e) = b.right (b.second p q e)

-- two sequences with the same last part
abbrev pub ended : {A B C : Type 0} → (A × C) ⊎ (B × C) → (A ⊎ B) × C
ended (inl (x, y)) = (inl x, y)
ended (inr (x, y)) = (inr x, y)

pub last_shared : (g : Grammar) (x y z : FormOf g) → Alike g (Choice (Seq x z) (Seq y z)) ended (Seq (Choice x y) z) (λ t. t)
last_shared g x y z = record {
  there = record { spells = λ r us t w. go r us t w; begins = λ r us w. begun r us w };
  back = record { spells = λ r us t w. come r us t w; begins = λ r us w. begin r us w };
}
  where
    go : (r : Room) (us : List g.Token) (t : Tree g (Choice (Seq x z) (Seq y z))) → Spells g r (Choice (Seq x z) (Seq y z)) us t → (t' : Tree g (Seq (Choice x y) z)) × Spells g r (Seq (Choice x y) z) us t' × (ended t ≡ t')
    go r us (inl (t, u)) (s.left (s.seq p q e)) = ((inl t, u), s.seq (s.left p) q e, refl)
    go r us (inr (t, u)) (s.right (s.seq p q e)) = ((inr t, u), s.seq (s.right p) q e, refl)

    come : (r : Room) (us : List g.Token) (t : Tree g (Seq (Choice x y) z)) → Spells g r (Seq (Choice x y) z) us t → (t' : Tree g (Choice (Seq x z) (Seq y z))) × Spells g r (Choice (Seq x z) (Seq y z)) us t' × (t ≡ ended t')
    come r us (inl t, u) (s.seq (s.left p) q e) = (inl (t, u), s.left (s.seq p q e), refl)
    come r us (inr t, u) (s.seq (s.right p) q e) = (inr (t, u), s.right (s.seq p q e), refl)

    begun : (r : Room) (us : List g.Token) → Begins g r (Choice (Seq x z) (Seq y z)) us → Begins g r (Seq (Choice x y) z) us
    begun r us b.nothing = b.nothing
    begun r us (b.left b.nothing) = b.nothing
    begun r us (b.left (b.first p)) = b.first (b.left p)
    begun r us (b.left (b.second p q e)) = b.second (s.left p) q e
    begun r us (b.right b.nothing) = b.nothing
    begun r us (b.right (b.first p)) = b.first (b.right p)
    begun r us (b.right (b.second p q e)) = b.second (s.right p) q e

    begin : (r : Room) (us : List g.Token) → Begins g r (Seq (Choice x y) z) us → Begins g r (Choice (Seq x z) (Seq y z)) us
    begin r us b.nothing = b.nothing
    begin r us (b.first b.nothing) = b.nothing
    begin r us (b.first (b.left p)) = b.left (b.first p)
    begin r us (b.first (b.right p)) = b.right (b.first p)
    begin r us (b.second (s.left p) q e) = b.left (b.second p q e)
    begin r us (b.second (s.right p) q e) = b.right (b.second p q e)

-- three alternatives
abbrev pub regrouped : {A B C : Type 0} → A ⊎ (B ⊎ C) → (A ⊎ B) ⊎ C
regrouped (inl x) = inl (inl x)
regrouped (inr (inl x)) = inl (inr x)
regrouped (inr (inr x)) = inr x

pub choices : (g : Grammar) (x y z : FormOf g) → Alike g (Choice x (Choice y z)) regrouped (Choice (Choice x y) z) (λ t. t)
choices g x y z = record {
  there = record { spells = λ r us t w. go r us t w; begins = λ r us w. begun r us w };
  back = record { spells = λ r us t w. come r us t w; begins = λ r us w. begin r us w };
}
  where
    go : (r : Room) (us : List g.Token) (t : Tree g (Choice x (Choice y z))) → Spells g r (Choice x (Choice y z)) us t → (t' : Tree g (Choice (Choice x y) z)) × Spells g r (Choice (Choice x y) z) us t' × (regrouped t ≡ t')
    go r us (inl t) (s.left p) = (inl (inl t), s.left (s.left p), refl)
    go r us (inr (inl t)) (s.right (s.left p)) = (inl (inr t), s.left (s.right p), refl)
    go r us (inr (inr t)) (s.right (s.right p)) = (inr t, s.right p, refl)

    come : (r : Room) (us : List g.Token) (t : Tree g (Choice (Choice x y) z)) → Spells g r (Choice (Choice x y) z) us t → (t' : Tree g (Choice x (Choice y z))) × Spells g r (Choice x (Choice y z)) us t' × (t ≡ regrouped t')
    come r us (inl (inl t)) (s.left (s.left p)) = (inl t, s.left p, refl)
    come r us (inl (inr t)) (s.left (s.right p)) = (inr (inl t), s.right (s.left p), refl)
    come r us (inr t) (s.right p) = (inr (inr t), s.right (s.right p), refl)

    begun : (r : Room) (us : List g.Token) → Begins g r (Choice x (Choice y z)) us → Begins g r (Choice (Choice x y) z) us
    begun r us b.nothing = b.nothing
    begun r us (b.left p) = b.left (b.left p)
    begun r us (b.right b.nothing) = b.nothing
    begun r us (b.right (b.left p)) = b.left (b.right p)
    begun r us (b.right (b.right p)) = b.right p

    begin : (r : Room) (us : List g.Token) → Begins g r (Choice (Choice x y) z) us → Begins g r (Choice x (Choice y z)) us
    begin r us b.nothing = b.nothing
    begin r us (b.left b.nothing) = b.nothing
    begin r us (b.left (b.left p)) = b.left p
    begin r us (b.left (b.right p)) = b.right (b.left p)
    begin r us (b.right p) = b.right (b.right p)

-- three parts
abbrev pub chained : {A B C : Type 0} → (A × B) × C → A × (B × C)
chained ((x, y), z) = (x, (y, z))

pub parts : (g : Grammar) (x y z : FormOf g) → Alike g (Seq (Seq x y) z) chained (Seq x (Seq y z)) (λ t. t)
parts g x y z = record {
  there = record { spells = λ r us t w. go r us t w; begins = λ r us w. begun r us w };
  back = record { spells = λ r us t w. come r us t w; begins = λ r us w. begin r us w };
}
  where
    go : (r : Room) (us : List g.Token) (t : Tree g (Seq (Seq x y) z)) → Spells g r (Seq (Seq x y) z) us t → (t' : Tree g (Seq x (Seq y z))) × Spells g r (Seq x (Seq y z)) us t' × (chained t ≡ t')
    go r us ((t, u), v) (s.seq {ws = ls} (s.seq {vs = ms} {ws = ns} p q h) w e) =
        ((t, (u, v)), s.seq p (s.seq q w refl) (e ∙ ap (λ l. l ++ ls) h ∙ append_assoc ms ns ls), refl)

    come : (r : Room) (us : List g.Token) (t : Tree g (Seq x (Seq y z))) → Spells g r (Seq x (Seq y z)) us t → (t' : Tree g (Seq (Seq x y) z)) × Spells g r (Seq (Seq x y) z) us t' × (t ≡ chained t')
    come r us (t, (u, v)) (s.seq {vs = ms} p (s.seq {vs = ns} {ws = ls} q w h) e) =
        (((t, u), v), s.seq (s.seq p q refl) w (e ∙ ap (λ l. ms ++ l) h ∙ sym (append_assoc ms ns ls)), refl)

    begun : (r : Room) (us : List g.Token) → Begins g r (Seq (Seq x y) z) us → Begins g r (Seq x (Seq y z)) us
    begun r us b.nothing = b.nothing
    begun r us (b.first b.nothing) = b.nothing
    begun r us (b.first (b.first p)) = b.first p
    begun r us (b.first (b.second p q e)) = b.second p (b.first q) e
    begun r us (b.second {ws = ls} (s.seq {vs = ms} {ws = ns} p q h) w e) = b.second p (b.second q w refl) (e ∙ ap (λ l. l ++ ls) h ∙ append_assoc ms ns ls)

    begin : (r : Room) (us : List g.Token) → Begins g r (Seq x (Seq y z)) us → Begins g r (Seq (Seq x y) z) us
    begin r us b.nothing = b.nothing
    begin r us (b.first p) = b.first (b.first p)
    begin r us (b.second p b.nothing e) = b.first (b.second p b.nothing e)
    begin r us (b.second p (b.first q) e) = b.first (b.second p q e)
    begin r us (b.second {vs = ms} p (b.second {vs = ns} {ws = ls} q w h) e) = b.second (s.seq p q refl) w (e ∙ ap (λ l. ms ++ l) h ∙ sym (append_assoc ms ns ls))

-- two grammars with the same names and values, where what spells or begins each right side of the one, read by
-- the other, does so for that of the other
module _ (Token Symbol : Type 0) (symbol : Token → Symbol) (Name : Type 0) (Value : Name → Type 0) (rule : Name → Form Symbol Name) (build : (n : Name) → TreeOf Token Value (rule n) → Value n) (rule' : Name → Form Symbol Name) (build' : (n : Name) → TreeOf Token Value (rule' n) → Value n) where
  abbrev one : Grammar
  one = record { Token = Token; Symbol = Symbol; symbol = symbol; Name = Name; Value = Value; rule = rule; build = build }

  abbrev other : Grammar
  other = record { Token = Token; Symbol = Symbol; symbol = symbol; Name = Name; Value = Value; rule = rule'; build = build' }

  pub spelled_by : ((n : Name) → Within other (rule n) (build n) (rule' n) (build' n)) → {r : Room} {f : Form Symbol Name} {us : List Token} {t : TreeOf Token Value f} → Spells one r f us t → Spells other r f us t
  spelled_by w (s.token x h) = s.token x h
  spelled_by w s.empty = s.empty
  spelled_by w (s.seq p q e) = s.seq (spelled_by w p) (spelled_by w q) e
  spelled_by w (s.left p) = s.left (spelled_by w p)
  spelled_by w (s.right p) = s.right (spelled_by w p)
  spelled_by w s.none = s.none
  spelled_by w (s.more p q e) = s.more (spelled_by w p) (spelled_by w q) e
  spelled_by w (s.nest x h i p) = s.nest x h i (spelled_by w p)
  spelled_by w (s.call {n = n} {t = t} p e) = let m = (w n).spells _ _ t (spelled_by w p) in s.call m.1 (e ∙ m.2)

  pub begun_by : ((n : Name) → Within other (rule n) (build n) (rule' n) (build' n)) → {r : Room} {f : Form Symbol Name} {us : List Token} → Begins one r f us → Begins other r f us
  begun_by w b.nothing = b.nothing
  begun_by w (b.token x h) = b.token x h
  begun_by w (b.first p) = b.first (begun_by w p)
  begun_by w (b.second p q e) = b.second (spelled_by w p) (begun_by w q) e
  begun_by w (b.left p) = b.left (begun_by w p)
  begun_by w (b.right p) = b.right (begun_by w p)
  begun_by w (b.some p q e) = b.some (spelled_by w p) (begun_by w q) e
  begun_by w (b.nest x h i p) = b.nest x h i (begun_by w p)
  begun_by w (b.call {n = n} p) = b.call ((w n).begins _ _ (begun_by w p))
