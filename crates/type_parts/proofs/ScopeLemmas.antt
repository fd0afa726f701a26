-- The last entry of a name.
use Rattle.std.proofs.Common.{◌≡◌, ℕ, zero, suc, ◌+◌, ◌-◌, ◌<◌, ◌≤◌, Bool, true, false, cond, List, [], ◌∷◌, ◌++◌, length, get_or, take, Option, None, Some, refl, ap, sym, subst, ◌∙◌, arith}
use Rattle.std.proofs.Math.Seq.{take-suc}
use Rattle.std.specs.Str.{bytes_eq}
use Rattle.murphi_types.specs.declared.scope.Meaning.{Meaning}
use Rattle.murphi_types.specs.declared.scope.Entry.{Entry}
use Rattle.murphi_typed.specs.Families.{Name}
use Rattle.murphi_types.specs.Scopes.{latest, or_else}

pub latest-last : (es : List Entry) (e : Entry) (n : Name) → latest (es ++ e ∷ []) n ≡ cond (bytes_eq e.name n) (Some e.what) (latest es n)
latest-last [] e n = go (bytes_eq e.name n)
  where
    go : (b : Bool) → or_else None (cond b (Some e.what) None) ≡ cond b (Some e.what) None
    go true = refl
    go false = refl
latest-last (x ∷ es) e n = ap (λ o. or_else o (cond (bytes_eq x.name n) (Some x.what) None)) (latest-last es e n) ∙ go (bytes_eq e.name n)
  where
    go : (b : Bool) → or_else (cond b (Some e.what) (latest es n)) (cond (bytes_eq x.name n) (Some x.what) None) ≡ cond b (Some e.what) (or_else (latest es n) (cond (bytes_eq x.name n) (Some x.what) None))
    go true = refl
    go false = refl

-- going back by one entry
pub latest-back : (es : List Entry) (k : ℕ) (e : Entry) (n : Name) → k < length es → e ≡ get_or es k e → latest (take (suc k) es) n ≡ cond (bytes_eq e.name n) (Some e.what) (latest (take k es) n)
latest-back es k e n lt is = ap (λ xs. latest xs n) (take-suc es k e lt ∙ ap (λ x. take k es ++ x ∷ []) (sym is)) ∙ latest-last (take k es) e n

pub latest-same : (es : List Entry) (left : ℕ) (e : Entry) (n : Name) (b : Bool) → 0 < left → left ≤ length es → e ≡ get_or es (left - 1) e → bytes_eq e.name n ≡ b → latest (take left es) n ≡ cond b (Some e.what) (latest (take (left - 1) es) n)
latest-same es zero e n b pos le is eq = absurd (omega arith)
latest-same es (suc k) e n b pos le is eq =
    let m : suc k - 1 ≡ k = omega arith in
    subst (λ j. latest (take (suc k) es) n ≡ cond b (Some e.what) (latest (take j es) n)) (sym m)
    (latest-back es k e n (omega arith) (subst (λ j. e ≡ get_or es j e) m is) ∙ ap (λ x. cond x (Some e.what) (latest (take k es) n)) eq)

pub ruleset steps = (latest-last)
