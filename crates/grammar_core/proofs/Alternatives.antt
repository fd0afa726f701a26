-- Forms that are alike: alternatives in another order, alternatives that share a nesting, and what is empty.
use Rattle.std.proofs.Common.{◌≡◌, List, ◌⊎◌, inl, inr, refl, sym, ◌∙◌, subst, append-nil}
use Rattle.grammar_core.specs.Forms.{Empty, Seq, Choice, Nest, Grammar, FormOf, Tree}
use Rattle.grammar_core.specs.Spelling.{Room, Spells, Begins}
use Rattle.grammar_core.specs.Spelling.{Spells as s}
use Rattle.grammar_core.specs.Spelling.{Begins as b}
use Rattle.grammar_core.proofs.Alike.{Within, Alike, shared}
use Rattle.grammar_core.proofs.Fronts.{begun}

-- the value of either
abbrev pub join : {A B V : Type 0} → (A → V) → (B → V) → A ⊎ B → V
join f h (inl x) = f x
join f h (inr y) = h y

within_alt : {g : Grammar} {V : Type 0} {x y x' y' : FormOf g} {vx : Tree g x → V} {vy : Tree g y → V} {ux : Tree g x' → V} {uy : Tree g y' → V} → Within g x vx y vy → Within g x' ux y' uy → Within g (Choice x x') (join vx ux) (Choice y y') (join vy uy)
within_alt {g} {x = x} {y = y} {x' = x'} {y' = y'} {vx = vx} {vy = vy} {ux = ux} {uy = uy} p q = record { spells = λ r us t w. go r us t w; begins = λ r us w. begun r us w }
  where
    go : (r : Room) (us : List g.Token) (t : Tree g (Choice x x')) → Spells g r (Choice x x') us t → (t' : Tree g (Choice y y')) × Spells g r (Choice y y') us t' × (join vx ux t ≡ join vy uy t')
    go r us (inl t) (s.left w) = let m = p.spells r _ t w in (inl m.0, s.left m.1, m.2)
    go r us (inr t) (s.right w) = let m = q.spells r _ t w in (inr m.0, s.right m.1, m.2)

    begun : (r : Room) (us : List g.Token) → Begins g r (Choice x x') us → Begins g r (Choice y y') us
    begun r us b.nothing = b.nothing
    begun r us (b.left w) = b.left (p.begins r _ w)
    begun r us (b.right w) = b.right (q.begins r _ w)

-- either, with values of one type
pub alt : {g : Grammar} {V : Type 0} {x y x' y' : FormOf g} {vx : Tree g x → V} {vy : Tree g y → V} {ux : Tree g x' → V} {uy : Tree g y' → V} → Alike g x vx y vy → Alike g x' ux y' uy → Alike g (Choice x x') (join vx ux) (Choice y y') (join vy uy)
alt p q = record { there = within_alt p.there q.there; back = within_alt p.back q.back }

within_exchange : (g : Grammar) {V : Type 0} (x y z : FormOf g) (vx : Tree g x → V) (vy : Tree g y → V) (vz : Tree g z → V) → Within g (Choice x (Choice y z)) (join vx (join vy vz)) (Choice y (Choice x z)) (join vy (join vx vz))
within_exchange g {V} x y z vx vy vz = record { spells = λ r us t w. go r us t w; begins = λ r us w. begun r us w }
  where
    go : (r : Room) (us : List g.Token) (t : Tree g (Choice x (Choice y z))) → Spells g r (Choice x (Choice y z)) us t → (t' : Tree g (Choice y (Choice x z))) × Spells g r (Choice y (Choice x z)) us t' × (join vx (join vy vz) t ≡ join vy (join vx vz) t')
    go r us (inl t) (s.left p) = (inr (inl t), s.right (s.left p), refl)
    go r us (inr (inl t)) (s.right (s.left p)) = (inl t, s.left p, refl)
    go r us (inr (inr t)) (s.right (s.right p)) = (inr (inr t), s.right (s.right p), refl)

    begun : (r : Room) (us : List g.Token) → Begins g r (Choice x (Choice y z)) us → Begins g r (Choice y (Choice x z)) us
    begun r us b.nothing = b.nothing
    begun r us (b.left p) = b.right (b.left p)
    begun r us (b.right b.nothing) = b.nothing
    begun r us (b.right (b.left p)) = b.left p
    begun r us (b.right (b.right p)) = b.right (b.right p)

-- the second of three alternatives first
pub exchange : (g : Grammar) {V : Type 0} (x y z : FormOf g) (vx : Tree g x → V) (vy : Tree g y → V) (vz : Tree g z → V) → Alike g (Choice x (Choice y z)) (join vx (join vy vz)) (Choice y (Choice x z)) (join vy (join vx vz))
exchange g x y z vx vy vz = record { there = within_exchange g x y z vx vy vz; back = within_exchange g y x z vy vx vz }

-- two of three alternatives as one
pub regroup : (g : Grammar) {V : Type 0} (x y z : FormOf g) (vx : Tree g x → V) (vy : Tree g y → V) (vz : Tree g z → V) → Alike g (Choice x (Choice y z)) (join vx (join vy vz)) (Choice (Choice x y) z) (join (join vx vy) vz)
regroup g {V} x y z vx vy vz = record {
  there = record { spells = λ r us t w. go r us t w; begins = λ r us w. begun r us w };
  back = record { spells = λ r us t w. come r us t w; begins = λ r us w. begin r us w };
}
  where
    go : (r : Room) (us : List g.Token) (t : Tree g (Choice x (Choice y z))) → Spells g r (Choice x (Choice y z)) us t → (t' : Tree g (Choice (Choice x y) z)) × Spells g r (Choice (Choice x y) z) us t' × (join vx (join vy vz) t ≡ join (join vx vy) vz t')
    go r us (inl t) (s.left p) = (inl (inl t), s.left (s.left p), refl)
    go r us (inr (inl t)) (s.right (s.left p)) = (inl (inr t), s.left (s.right p), refl)
    go r us (inr (inr t)) (s.right (s.right p)) = (inr t, s.right p, refl)

    come : (r : Room) (us : List g.Token) (t : Tree g (Choice (Choice x y) z)) → Spells g r (Choice (Choice x y) z) us t → (t' : Tree g (Choice x (Choice y z))) × Spells g r (Choice x (Choice y z)) us t' × (join (join vx vy) vz t ≡ join vx (join vy vz) t')
    come r us (inl (inl t)) (s.left (s.left p)) = (inl t, s.left p, refl)
    come r us (inl (inr t)) (s.left (s.right p)) = (inr (inl t), s.right (s.left p), refl)
    come r us (inr t) (s.right p) = (inr (inr t), s.right (s.right p), refl)

    begun : (r : Room) (us : List g.Token) → Begins g r (Choice x (Choice y z)) us → Begins g r (Choice (Choice x y) z) us
    begun r us b.nothing = b.nothing
    begun r us (b.left p) = b.left (b.left p)
    begun r us (b.right b.nothing) = b.nothing
    begun r us (b.right (b.left p)) = b.left (b.right p)
    begun r us (b.right (b.right p)) = b.right p

    begin : (r : Room) (us : List g.Token) → Begins g r (Choice (Choice x y) z) us → Begins g r (Choice x (Choice y z)) us
    begin r us b.nothing = b.nothing
    begin r us (b.left b.nothing) = b.nothing
    begin r us (b.left (b.left p)) = b.left p
    begin r us (b.left (b.right p)) = b.right (b.left p)
    begin r us (b.right p) = b.right (b.right p)

within_swap : (g : Grammar) {V : Type 0} (x y : FormOf g) (vx : Tree g x → V) (vy : Tree g y → V) → Within g (Choice x y) (join vx vy) (Choice y x) (join vy vx)
within_swap g {V} x y vx vy = record { spells = λ r us t w. go r us t w; begins = λ r us w. begun r us w }
  where
    go : (r : Room) (us : List g.Token) (t : Tree g (Choice x y)) → Spells g r (Choice x y) us t → (t' : Tree g (Choice y x)) × Spells g r (Choice y x) us t' × (join vx vy t ≡ join vy vx t')
    go r us (inl t) (s.left p) = (inr t, s.right p, refl)
    go r us (inr t) (s.right p) = (inl t, s.left p, refl)

    begun : (r : Room) (us : List g.Token) → Begins g r (Choice x y) us → Begins g r (Choice y x) us
    begun r us b.nothing = b.nothing
    begun r us (b.left p) = b.right p
    begun r us (b.right p) = b.left p

-- two alternatives in the other order
pub swap : (g : Grammar) {V : Type 0} (x y : FormOf g) (vx : Tree g x → V) (vy : Tree g y → V) → Alike g (Choice x y) (join vx vy) (Choice y x) (join vy vx)
swap g x y vx vy = record { there = within_swap g x y vx vy; back = within_swap g y x vy vx }

-- two nestings that open alike
pub nest_shared : (g : Grammar) (c : g.Symbol) (x y : FormOf g) → Alike g (Choice (Nest c x) (Nest c y)) shared (Nest c (Choice x y)) (λ t. t)
nest_shared g c x y = record {
  there = record { spells = λ r us t w. go r us t w; begins = λ r us w. begun r us w };
  back = record { spells = λ r us t w. come r us t w; begins = λ r us w. begin r us w };
}
  where
    go : (r : Room) (us : List g.Token) (t : Tree g (Choice (Nest c x) (Nest c y))) → Spells g r (Choice (Nest c x) (Nest c y)) us t → (t' : Tree g (Nest c (Choice x y))) × Spells g r (Nest c (Choice x y)) us t' × (shared t ≡ t')
    go r us (inl (k, t)) (s.left (s.nest u h i p)) = ((k, inl t), s.nest u h i (s.left p), refl)
    go r us (inr (k, t)) (s.right (s.nest u h i p)) = ((k, inr t), s.nest u h i (s.right p), refl)

    come : (r : Room) (us : List g.Token) (t : Tree g (Nest c (Choice x y))) → Spells g r (Nest c (Choice x y)) us t → (t' : Tree g (Choice (Nest c x) (Nest c y))) × Spells g r (Choice (Nest c x) (Nest c y)) us t' × (t ≡ shared t')
    come r us (k, inl t) (s.nest u h i (s.left p)) = (inl (k, t), s.left (s.nest u h i p), refl)
    come r us (k, inr t) (s.nest u h i (s.right p)) = (inr (k, t), s.right (s.nest u h i p), refl)

    begun : (r : Room) (us : List g.Token) → Begins g r (Choice (Nest c x) (Nest c y)) us → Begins g r (Nest c (Choice x y)) us
    begun r us b.nothing = b.nothing
    begun r us (b.left b.nothing) = b.nothing
    begun r us (b.left (b.nest u h i p)) = b.nest u h i (b.left p)
    begun r us (b.right b.nothing) = b.nothing
    begun r us (b.right (b.nest u h i p)) = b.nest u h i (b.right p)

    begin : (r : Room) (us : List g.Token) → Begins g r (Nest c (Choice x y)) us → Begins g r (Choice (Nest c x) (Nest c y)) us
    begin r us b.nothing = b.nothing
    begin r us (b.nest u h i b.nothing) = b.left (b.nest u h i b.nothing)
    begin r us (b.nest u h i (b.left p)) = b.left (b.nest u h i p)
    begin r us (b.nest u h i (b.right p)) = b.right (b.nest u h i p)

-- a form with nothing behind it
pub with_empty : (g : Grammar) (x : FormOf g) → Alike g x (λ t. (t, tt)) (Seq x Empty) (λ t. t)
with_empty g x = record {
  there = record { spells = λ r us t p. ((t, tt), s.seq p s.empty (sym (append-nil us)), refl); begins = λ r us p. b.first p };
  back = record { spells = λ r us t p. come r us t p; begins = λ r us p. begin r us p };
}
  where
    come : (r : Room) (us : List g.Token) (t : Tree g (Seq x Empty)) → Spells g r (Seq x Empty) us t → (t' : Tree g x) × Spells g r x us t' × (t ≡ (t', tt))
    come r us (t, tt) (s.seq {vs = vs} p s.empty e) = (t, subst (λ l. Spells g r x l t) (sym (e ∙ append-nil vs)) p, refl)

    begin : (r : Room) (us : List g.Token) → Begins g r (Seq x Empty) us → Begins g r x us
    begin r us b.nothing = b.nothing
    begin r us (b.first p) = p
    begin r us (b.second {vs = vs} p b.nothing e) = subst (λ l. Begins g r x l) (sym (e ∙ append-nil vs)) (begun p)

-- two values agree by cases
pub cases : {A B V : Type 0} (f h : A ⊎ B → V) → ((x : A) → f (inl x) ≡ h (inl x)) → ((y : B) → f (inr y) ≡ h (inr y)) → (t : A ⊎ B) → f t ≡ h t
cases f h p q (inl x) = p x
cases f h p q (inr y) = q y

pub first_cases : {A B C V : Type 0} (f h : (A ⊎ B) × C → V) → ((x : A) (z : C) → f (inl x, z) ≡ h (inl x, z)) → ((y : B) (z : C) → f (inr y, z) ≡ h (inr y, z)) → (t : (A ⊎ B) × C) → f t ≡ h t
first_cases f h p q (inl x, z) = p x z
first_cases f h p q (inr y, z) = q y z

pub second_cases : {A B C V : Type 0} (f h : C × (A ⊎ B) → V) → ((z : C) (x : A) → f (z, inl x) ≡ h (z, inl x)) → ((z : C) (y : B) → f (z, inr y) ≡ h (z, inr y)) → (t : C × (A ⊎ B)) → f t ≡ h t
second_cases f h p q (z, inl x) = p z x
second_cases f h p q (z, inr y) = q z y
