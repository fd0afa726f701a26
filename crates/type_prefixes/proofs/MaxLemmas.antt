-- Sums and the larger of two, over plain numbers.
use Rattle.std.proofs.Common.{◌≡◌, ℕ, zero, suc, ◌+◌, max, List, [], ◌∷◌, refl, ap, sym, ◌∙◌, arith}
use Rattle.std.specs.Prelude.{Option, slice_get, unwrap_or}
use Rattle.murphi_typed.specs.declared.types.Simple.{Simple}
use Rattle.murphi_typed.specs.declared.types.Simple.TheVariants as simple
use Rattle.murphi_typed.specs.Prefix.{level}

pub touch-step : (own steep n : ℕ) → max (max own n) steep ≡ max (max own steep) (n + 0)
touch-step own steep n = omega arith

pub both-step : (V n a b w1 w2 : ℕ) → w1 ≡ max V (n + a) → w2 ≡ max w1 (n + b) → w2 ≡ max V (n + max a b)
both-step V n a b w1 w2 p q = omega (arith, p, q)

pub below-step : (V n p a b w1 w2 : ℕ) → w1 ≡ max V ((n + p) + a) → w2 ≡ max w1 (n + b) → w2 ≡ max V (n + max (p + a) b)
below-step V n p a b w1 w2 e f = omega (arith, e, f)

pub call-step : (V n own st mo c ad w1 w2 : ℕ) → w1 ≡ max V ((n + own) + 0) → w2 ≡ max w1 (n + st) → max own st ≡ max mo c → ad ≡ mo → w2 ≡ max V (n + max ad c)
call-step V n own st mo c ad w1 w2 p q r s = omega (arith, p, q, r, s)

pub most-step : (d m w : ℕ) → w ≡ m → max d w ≡ max (0 + d) m
most-step d m w p = omega (arith, p)

pub root-step : (own n st sr u : ℕ) → max n sr ≡ max st (n + u) → max (max own n) sr ≡ max (max own st) (n + u)
root-step own n st sr u p = omega (arith, p)

pub raise-none : (n : ℕ) → max n 0 ≡ max 0 (n + 0)
raise-none n = omega arith

pub raise-new : (n d m : ℕ) → max n (max (n + d) m) ≡ max (max (0 + d) m) (n + d)
raise-new n d m = omega arith

pub raise-first : (n a d m : ℕ) → max n (max (max a n + d) m) ≡ max (max (a + d) m) (n + d)
raise-first n a d m = omega arith

pub raise-later : (n p m sr u : ℕ) → max n sr ≡ max m (n + u) → max n (max p sr) ≡ max (max p m) (n + u)
raise-later n p m sr u e = omega (arith, e)

pub level-in : (over : Simple) (n d : ℕ) → level over n + d ≡ n + level over d
level-in simple.Node n d = let e : suc n + d ≡ n + suc d = omega arith in e
level-in simple.Truth n d = refl
level-in (simple.Range low high) n d = refl
level-in (simple.Listed kind count) n d = refl
level-in (simple.Scalarset kind count) n d = refl

pub start-step : (m d w : ℕ) → w ≡ max (max 0 m) (0 + d) → w ≡ max m d
start-step m d w p = omega (arith, p)

pub own-step : (own d : ℕ) → max own 0 ≡ max (max 0 0) (0 + d) → own ≡ d
own-step own d p = omega (arith, p)

pub nothing-step : (m : ℕ) → max 0 m ≡ max m 0
nothing-step m = omega arith
