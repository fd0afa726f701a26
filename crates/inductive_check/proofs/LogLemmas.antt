-- The loop over the clauses of a certificate and their logs: what is left gives the whole.
use Rattle.std.proofs.Common.{◌≡◌, ℕ, ◌+◌, ◌<◌, ◌≤◌, ◌↔◌, List, [], ◌∷◌, length, get_or, drop, sym, ◌∙◌, ap, subst, arith}
use Rattle.std.proofs.lemmas.List.{drop_more, drop_all}
use Rattle.clause_core.specs.declared.literal.Lit.{Lit}
use Rattle.clause_derivation.specs.declared.chain.Chain.{Chain}
use Rattle.std.specs.Prelude.{All}
use Rattle.cnf_emit.specs.Systems.{System}
use Rattle.inductive_check.specs.Certificates.{Refutes, AreLogs, IsOwn, start_base, start_last, step_base, step_last}

pub logs_count : (base : List Lit → List (List Lit)) (last : List (List Lit)) (cs : List (List Lit)) (gs : List (List Chain)) → AreLogs base last cs gs → length gs ≡ length cs + 1
logs_count base last cs [] h = absurd h
logs_count base last [] (g ∷ []) h = omega arith
logs_count base last [] (g ∷ k ∷ gs) h = absurd h
logs_count base last (c ∷ cs) (g ∷ gs) h = let e : length gs ≡ length cs + 1 = logs_count base last cs gs h.1 in omega arith

-- one more clause and its log
logs_next : (base : List Lit → List (List Lit)) (last : List (List Lit)) (cs : List (List Lit)) (gs : List (List Chain)) (i : ℕ) (d : List Lit) (e : List Chain) → i < length cs → length gs ≡ length cs + 1 → AreLogs base last (drop i cs) (drop i gs) ≡ (Refutes (base (get_or cs i d)) (get_or gs i e) × AreLogs base last (drop (i + 1) cs) (drop (i + 1) gs))
logs_next base last cs gs i d e h n =
    let w : i < length gs = omega (arith, n) in
    ap (λ xs. AreLogs base last xs (drop i gs)) (drop_more cs i d h) ∙ ap (λ ys. AreLogs base last (get_or cs i d ∷ drop (i + 1) cs) ys) (drop_more gs i e w)

pub record Left (base : List Lit → List (List Lit)) (last : List (List Lit)) (cs : List (List Lit)) (gs : List (List Chain)) (i : ℕ) : Type 0 where
  pub forth : AreLogs base last (drop i cs) (drop i gs) → AreLogs base last cs gs
  pub back : AreLogs base last cs gs → AreLogs base last (drop i cs) (drop i gs)

pub left_more : (base : List Lit → List (List Lit)) (last : List (List Lit)) (cs : List (List Lit)) (gs : List (List Chain)) (i : ℕ) (d : List Lit) (e : List Chain) → i < length cs → length gs ≡ length cs + 1 → Left base last cs gs i → Refutes (base (get_or cs i d)) (get_or gs i e) → Left base last cs gs (i + 1)
left_more base last cs gs i d e h n l r =
    let same : AreLogs base last (drop i cs) (drop i gs) ≡ (Refutes (base (get_or cs i d)) (get_or gs i e) × AreLogs base last (drop (i + 1) cs) (drop (i + 1) gs)) = logs_next base last cs gs i d e h n in
    record {
      forth = λ m. l.forth (subst (λ (X : Type 0). X) (sym same) (r, m));
      back = λ m. (subst (λ (X : Type 0). X) same (l.back m)).1;
    }

pub left_stop : (base : List Lit → List (List Lit)) (last : List (List Lit)) (cs : List (List Lit)) (gs : List (List Chain)) (i : ℕ) (d : List Lit) (e : List Chain) → i < length cs → length gs ≡ length cs + 1 → Left base last cs gs i → (Refutes (base (get_or cs i d)) (get_or gs i e) → ⊥) → AreLogs base last cs gs → ⊥
left_stop base last cs gs i d e h n l r m = r (subst (λ (X : Type 0). X) (logs_next base last cs gs i d e h n) (l.back m)).0

last_alone : (base : List Lit → List (List Lit)) (last : List (List Lit)) (cs : List (List Lit)) (gs : List (List Chain)) (i : ℕ) (e : List Chain) → length cs ≤ i → i ≤ length cs → length gs ≡ length cs + 1 → AreLogs base last (drop i cs) (drop i gs) ≡ Refutes last (get_or gs (length cs) e)
last_alone base last cs gs i e h k n =
    let same : i ≡ length cs = omega arith in
    let w : length cs < length gs = omega arith in
    let none : drop (length cs) cs ≡ [] = drop_all (length cs) cs (omega arith) in
    let rest : drop (length cs + 1) gs ≡ [] = drop_all (length cs + 1) gs (omega arith) in
    ap (λ j. AreLogs base last (drop j cs) (drop j gs)) same
    ∙ ap (λ xs. AreLogs base last xs (drop (length cs) gs)) none
    ∙ ap (λ ys. AreLogs base last [] ys) (drop_more gs (length cs) e w ∙ ap (λ zs. get_or gs (length cs) e ∷ zs) rest)

pub left_all : (base : List Lit → List (List Lit)) (last : List (List Lit)) (cs : List (List Lit)) (gs : List (List Chain)) (i : ℕ) (e : List Chain) (A : Type 0) → length cs ≤ i → i ≤ length cs → length gs ≡ length cs + 1 → Left base last cs gs i → A ↔ Refutes last (get_or gs (length cs) e) → A ↔ AreLogs base last cs gs
left_all base last cs gs i e A h k n l f =
    let same : AreLogs base last (drop i cs) (drop i gs) ≡ Refutes last (get_or gs (length cs) e) = last_alone base last cs gs i e h k n in (
      λ a. l.forth (subst (λ (X : Type 0). X) (sym same) (f.0 a)),
      λ m. f.1 (subst (λ (X : Type 0). X) same (l.back m)),
    )

-- the parts of a certificate, as the code reads them

pub own_as : (ls ms : List Lit) (cs ds : List (List Lit)) → ls ≡ ms → cs ≡ ds → All (IsOwn ms) ds → All (IsOwn ls) cs
own_as ls ms cs ds e f h = subst (λ xs. All (IsOwn xs) cs) (sym e) (subst (All (IsOwn ms)) (sym f) h)

pub starts_as : (s : System) (cs ds : List (List Lit)) (gs hs : List (List Chain)) → cs ≡ ds → gs ≡ hs → AreLogs (start_base s) (start_last s) ds hs → AreLogs (start_base s) (start_last s) cs gs
starts_as s cs ds gs hs e f h = subst (λ xs. AreLogs (start_base s) (start_last s) xs gs) (sym e) (subst (λ ys. AreLogs (start_base s) (start_last s) ds ys) (sym f) h)

pub steps_as : (s : System) (cs ds : List (List Lit)) (gs hs : List (List Chain)) → cs ≡ ds → gs ≡ hs → AreLogs (step_base s ds) (step_last s ds) ds hs → AreLogs (step_base s cs) (step_last s cs) cs gs
steps_as s cs ds gs hs e f h = subst (λ xs. AreLogs (step_base s xs) (step_last s xs) xs gs) (sym e) (subst (λ ys. AreLogs (step_base s ds) (step_last s ds) ds ys) (sym f) h)
