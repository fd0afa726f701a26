-- No literal stands twice in a clause that is put together from literals that differ.
use Rattle.std.proofs.Common.{◌≡◌, ℕ, ◌+◌, ◌<◌, ◌≤◌, ◌||◌, Bool, true, false, cond, List, [], ◌∷◌, length, get_or, take, eqb, refl, sym, ◌∙◌, ap, subst, arith, inl, inr, ◌⊎◌}
use Rattle.std.specs.List.{list_any}
use Rattle.std.proofs.lemmas.Bool.{cases_Bool, or_parts, eqb-true, cond-false}
use Rattle.std.proofs.lemmas.List.Sums.{count_by_more_yes, count_by_more_no, sum_by-cons}
use Rattle.clause_core.specs.declared.literal.Lit.{Lit}
use Rattle.clause_core.specs.Members.{times, NoneTwice}

times_cons : (l x : Lit) (c : List Lit) → times l (x ∷ c) ≡ cond (eqb x.code l.code) 1 0 + times l c
times_cons l x c = sum_by-cons (λ (k : Lit). cond (eqb k.code l.code) 1 0) x c

-- a literal that is none of those before it
none_of : (l : Lit) (c : List Lit) → list_any (λ (k : Lit). eqb k.code l.code) c ≡ false → times l c ≡ 0
none_of l [] e = refl
none_of l (x ∷ c) e =
    let p : (eqb x.code l.code ≡ false) × (list_any (λ (k : Lit). eqb k.code l.code) c ≡ false) = or_parts (eqb x.code l.code) (list_any (λ (k : Lit). eqb k.code l.code) c) e in
    times_cons l x c ∙ ap (λ n. n + times l c) (cond-false (eqb x.code l.code) 1 0 p.0) ∙ ap (λ n. 0 + n) (none_of l c p.1) ∙ omega arith

pub none_twice_more : (c : List Lit) (i : ℕ) (d : Lit) → i < length c → NoneTwice (take i c) → list_any (λ (k : Lit). eqb k.code (get_or c i d).code) (take i c) ≡ false → NoneTwice (take (i + 1) c)
none_twice_more c i d h once e l = go (cases_Bool (eqb (get_or c i d).code l.code)) where
  at_most : (m n : ℕ) → m ≡ n + 1 → n ≡ 0 → m ≤ 1
  at_most m n f g = omega arith

  go : (eqb (get_or c i d).code l.code ≡ true) ⊎ (eqb (get_or c i d).code l.code ≡ false) → times l (take (i + 1) c) ≤ 1
  go (inl t) =
      at_most _ _ (count_by_more_yes (λ (k : Lit). eqb k.code l.code) c i d h t)
      (none_of l (take i c) (subst (λ n. list_any (λ (k : Lit). eqb k.code n) (take i c) ≡ false) (eqb-true (get_or c i d).code l.code t) e))
  go (inr f) = subst (λ n. n ≤ 1) (sym (count_by_more_no (λ (k : Lit). eqb k.code l.code) c i d h f)) (once l)
