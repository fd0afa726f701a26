-- The law of certificates: no path of a steady system that has one is bad.
use Rattle.std.proofs.Common.{◌≡◌, ◌++◌, ◌||◌, ◌&&◌, Bool, true, false, List, [], ◌∷◌, map, refl, sym, ◌∙◌, ap, subst}
use Rattle.std.specs.Prelude.{not, All}
use Rattle.std.specs.List.{list_all, AllByRecursion}
use Rattle.std.proofs.lemmas.Bool.{both_ways, and_parts, and_from, false_from_ne_true}
use Rattle.std.proofs.lemmas.List.Elements.{recursion_from_All}
use Rattle.clause_core.specs.declared.literal.Lit.{Lit}
use Rattle.clause_core.specs.Literal.{opposite}
use Rattle.clause_core.specs.Truth.{literal_true, clause_true, all_true}
use Rattle.clause_derivation.specs.declared.chain.Chain.{Chain}
use Rattle.clause_derivation.specs.Derivation.{singles, IsDerivation, EndsEmpty}
use Rattle.cnf_emit.specs.Systems.{System}
use Rattle.inductive_check.specs.Paths.{bits, AreSteps, leads_to_bad, IsBadPath, IsSteady}
use Rattle.inductive_check.specs.Certificates.{Proof, IsCertificate, Refutes, AreLogs, is_over, IsOwn, after, start_base, start_last, step_base, step_last}
use Rattle.inductive_check.proofs.LiteralLemmas.{clause_same, clause_at, opposites_hold, opposite_turned}

-- the law of derivations
abbrev pub Sound : Type 0
Sound = (clauses : List (List Lit)) (chains : List Chain) → IsDerivation clauses chains → EndsEmpty chains → (a : List Bool) → all_true a clauses ≡ true → ⊥

all_append : (a : List Bool) (cs ds : List (List Lit)) → all_true a cs ≡ true → all_true a ds ≡ true → all_true a (cs ++ ds) ≡ true
all_append a [] ds h k = k
all_append a (c ∷ cs) ds h k =
    let p : (clause_true a c ≡ true) × (all_true a cs ≡ true) = and_parts (clause_true a c) (all_true a cs) h in
    and_from (clause_true a c) (all_true a (cs ++ ds)) p.0 (all_append a cs ds p.1 k)

single : (a : List Bool) (l : Lit) (ls : List Lit) → literal_true a l ≡ true → all_true a (singles ls) ≡ true → all_true a (singles (l ∷ ls)) ≡ true
single a l ls h k = and_from (literal_true a l || false) (all_true a (singles ls)) (ap (λ x. x || false) h) k

-- a clause whose log refutes its opposites holds
pub holds_by : Sound → (a : List Bool) (base : List (List Lit)) (c : List Lit) (log : List Chain) → ((h : clause_true a c ≡ false) → all_true a base ≡ true) → Refutes base log → clause_true a c ≡ true
holds_by sound a base c log f r = go (clause_true a c) refl where
  go : (x : Bool) → clause_true a c ≡ x → clause_true a c ≡ true
  go true e = e
  go false e = absurd (sound base log r.derived r.empty a (f e))

-- what holds of each clause of a certificate and of the last, by its logs
each_by : (base : List Lit → List (List Lit)) (last : List (List Lit)) (cs : List (List Lit)) (gs : List (List Chain)) (a : List Bool) (f : List Lit → List Lit) → AreLogs base last cs gs → ((c : List Lit) (g : List Chain) → Refutes (base c) g → clause_true a (f c) ≡ true) → all_true a (map f cs) ≡ true
each_by base last [] gs a f h k = refl
each_by base last (c ∷ cs) [] a f h k = absurd h
each_by base last (c ∷ cs) (g ∷ gs) a f h k = and_from (clause_true a (f c)) (all_true a (map f cs)) (k c g h.0) (each_by base last cs gs a f h.1 k)

last_by : (base : List Lit → List (List Lit)) (last : List (List Lit)) (cs : List (List Lit)) (gs : List (List Chain)) → AreLogs base last cs gs → (a : List Bool) → Sound → all_true a last ≡ true → ⊥
last_by base last cs [] h a sound t = h
last_by base last [] (g ∷ []) h a sound t = sound last g h.derived h.empty a t
last_by base last [] (g ∷ k ∷ gs) h a sound t = h
last_by base last (c ∷ cs) (g ∷ gs) h a sound t = last_by base last cs gs h.1 a sound t

map_same : (cs : List (List Lit)) → map (λ c. c) cs ≡ cs
map_same [] = refl
map_same (c ∷ cs) = ap (λ x. c ∷ x) (map_same cs)

-- a clause over some literals, as a test
over_all : (lits c : List Lit) → All (λ l. is_over lits l ≡ true) c → list_all (is_over lits) c ≡ true
over_all lits c h = go c (recursion_from_All (λ l. is_over lits l ≡ true) c h) where
  go : (d : List Lit) → AllByRecursion (λ l. is_over lits l ≡ true) d → list_all (is_over lits) d ≡ true
  go [] i = refl
  go (l ∷ d) i = and_from (is_over lits l) (list_all (is_over lits) d) i.0 (go d i.1)

-- the clauses of a certificate, one after the other
own_by : (s : System) (p : Proof) → IsCertificate s p → AllByRecursion (IsOwn s.current) p.clauses
own_by s p cert = recursion_from_All (IsOwn s.current) p.clauses cert.own

-- the clauses after a step say of the state before the next step what they said after
all_same : (s : System) (a b : List Bool) (cs : List (List Lit)) → bits b s.next ≡ bits a s.current → AllByRecursion (IsOwn s.current) cs → all_true b (map (after s) cs) ≡ all_true a cs
all_same s a b [] e h = refl
all_same s a b (c ∷ cs) e h =
    ap (λ x. x && all_true b (map (after s) cs)) (clause_same a b s.current s.next c e (over_all s.current c h.0.over))
    ∙ ap (λ x. clause_true a c && x) (all_same s a b cs e h.1)

-- where all clauses hold before a step, and the state before is not bad, they hold after it
step_holds : Sound → (s : System) (p : Proof) → IsCertificate s p → (a : List Bool) → all_true a s.step.clauses ≡ true → all_true a p.clauses ≡ true → literal_true a s.bad ≡ false → all_true a (map (after s) p.clauses) ≡ true
step_holds sound s p cert a t h n =
    each_by (step_base s p.clauses) (step_last s p.clauses) p.clauses p.steps a (after s) cert.steps
    (λ c g r. holds_by sound a (step_base s p.clauses c) (after s c) g
    (λ f. all_append a (s.step.clauses ++ p.clauses) (singles (opposite s.bad ∷ map opposite (after s c))) (all_append a s.step.clauses p.clauses t h)
    (single a (opposite s.bad) (map opposite (after s c)) (opposite_turned a s.bad ∙ ap not n) (opposites_hold a (after s c) f))) r)

step_clean : Sound → (s : System) (p : Proof) → IsCertificate s p → (a : List Bool) → all_true a s.step.clauses ≡ true → all_true a p.clauses ≡ true → literal_true a s.bad ≡ false → literal_true a s.bad_next ≡ false
step_clean sound s p cert a t h n = false_from_ne_true (literal_true a s.bad_next) (λ e.
    last_by (step_base s p.clauses) (step_last s p.clauses) p.clauses p.steps cert.steps a sound
    (all_append a (s.step.clauses ++ p.clauses) (singles (opposite s.bad ∷ s.bad_next ∷ [])) (all_append a s.step.clauses p.clauses t h)
    (single a (opposite s.bad) (s.bad_next ∷ []) (opposite_turned a s.bad ∙ ap not n) (single a s.bad_next [] e refl))))

start_holds : Sound → (s : System) (p : Proof) → IsCertificate s p → (a : List Bool) → all_true a s.start.clauses ≡ true → all_true a p.clauses ≡ true
start_holds sound s p cert a t = subst (λ cs. all_true a cs ≡ true) (map_same p.clauses)
    (each_by (start_base s) (start_last s) p.clauses p.starts a (λ c. c) cert.starts
    (λ c g r. holds_by sound a (start_base s c) c g (λ f. all_append a s.start.clauses (singles (map opposite c)) t (opposites_hold a c f)) r))

start_clean : Sound → (s : System) (p : Proof) → IsCertificate s p → (a : List Bool) → all_true a s.start.clauses ≡ true → literal_true a s.bad ≡ false
start_clean sound s p cert a t = false_from_ne_true (literal_true a s.bad) (λ e.
    last_by (start_base s) (start_last s) p.clauses p.starts cert.starts a sound (all_append a s.start.clauses (singles (s.bad ∷ [])) t (single a s.bad [] e refl)))

-- Where a step begins in a state that the clauses hold of, and that was not bad, no further steps end bad.
steps_clean : Sound → (s : System) (p : Proof) → IsSteady s → IsCertificate s p → (a : List Bool) (more : List (List Bool)) → all_true a s.step.clauses ≡ true → all_true a p.clauses ≡ true → literal_true a s.bad ≡ false → AreSteps s (bits a s.next) more → leads_to_bad s (literal_true a s.bad_next) more ≡ false
steps_clean sound s p steady cert a [] t h n w = step_clean sound s p cert a t h n
steps_clean sound s p steady cert a (b ∷ more) t h n w =
    steps_clean sound s p steady cert b more w.0
    (sym (all_same s b a p.clauses (sym w.1) (own_by s p cert)) ∙ step_holds sound s p cert a t h n)
    (false_from_ne_true (literal_true b s.bad) (λ e. both_ways (literal_true a s.bad_next) (step_clean sound s p cert a t h n) (steady.after_step b a w.0 e t (sym w.1))))
    w.2

all_at : (s : System) (a b : List Bool) (cs : List (List Lit)) → bits b s.current ≡ bits a s.current → AllByRecursion (IsOwn s.current) cs → all_true b cs ≡ all_true a cs
all_at s a b [] e h = refl
all_at s a b (c ∷ cs) e h =
    ap (λ x. x && all_true b cs) (clause_at a b s.current c e (over_all s.current c h.0.over))
    ∙ ap (λ x. clause_true a c && x) (all_at s a b cs e h.1)

pub law : Sound → (s : System) (p : Proof) → IsSteady s → IsCertificate s p → (path : List (List Bool)) → IsBadPath s path → ⊥
law sound s p steady cert [] w = w
law sound s p steady cert (a ∷ []) w = both_ways (literal_true a s.bad) (start_clean sound s p cert a w.0.0) w.1
law sound s p steady cert (a ∷ b ∷ more) w =
    both_ways (leads_to_bad s (literal_true b s.bad_next) more)
    (steps_clean sound s p steady cert b more w.0.1.0
    (all_at s a b p.clauses w.0.1.1 (own_by s p cert) ∙ start_holds sound s p cert a w.0.0)
    (false_from_ne_true (literal_true b s.bad) (λ e. both_ways (literal_true a s.bad) (start_clean sound s p cert a w.0.0) (steady.after_start b a w.0.1.0 e w.0.0 (sym w.0.1.1))))
    w.0.1.2)
    w.1
