-- Words that begin with given bytes.
use Rattle.std.proofs.Common.{◌≡◌, ◌≢◌, ℕ, ◌++◌, Bool, true, false, nat_eq, List, [], ◌∷◌, drop, Option, None, Some, refl, ap, sym, ◌∙◌, Bor, MatchOption, arith}
use Rattle.std.specs.Str.Pattern.{FindsTextPrefix, StripsPrefix}
use Rattle.std.proofs.lemmas.Bool.Decides.{nat_tests}
use Rattle.cmp_cli.specs.Reading.{rest_after}

-- what follows the bytes is the rest
pub rest_after-append : (p rest : List ℕ) → rest_after p (p ++ rest) ≡ Some rest
rest_after-append [] rest = refl
rest_after-append (b ∷ bs) rest = grind (arith, nat_tests, rest_after-append bs rest)

lacks_more : (b c : ℕ) (bs cs : List ℕ) → ((rest : List ℕ) → (c ∷ cs) ≢ (b ∷ bs) ++ rest) →
    (((rest : List ℕ) → cs ≢ bs ++ rest) → rest_after bs cs ≡ None) → rest_after (b ∷ bs) (c ∷ cs) ≡ None
lacks_more b c bs cs h more = at_first (nat_eq b c) refl
  where
    at_first : (t : Bool) → nat_eq b c ≡ t → rest_after (b ∷ bs) (c ∷ cs) ≡ None
    at_first true e = grind (arith, nat_tests, more (λ rest r. h rest (grind (arith, nat_tests))))
    at_first false e = grind (arith, nat_tests)

-- no rest: the word does not begin with the bytes
pub rest_after-lacks : (p s : List ℕ) → ((rest : List ℕ) → s ≢ p ++ rest) → rest_after p s ≡ None
rest_after-lacks [] s h = absurd (h s refl)
rest_after-lacks (b ∷ bs) [] h = refl
rest_after-lacks (b ∷ bs) (c ∷ cs) h = lacks_more b c bs cs h (rest_after-lacks bs cs)

-- what `strip_prefix` answers
pub strip_is : (p s : List ℕ) (r : Option (Bor (List ℕ))) →
    MatchOption r (FindsTextPrefix p s None) (λ x. StripsPrefix (FindsTextPrefix p) s x.now) →
    MatchOption r (rest_after p s ≡ None) (λ x. rest_after p s ≡ Some x.now)
strip_is p s None h = rest_after-lacks p s h
strip_is p s (Some x) h = ap (rest_after p) h.1.1 ∙ rest_after-append p (drop h.0 s) ∙ ap Some (sym h.2)
