-- The order of names.
use Rattle.std.proofs.Common.{◌≡◌, true, false, ◌⊎◌, inl, inr, refl, ap, ◌∙◌}
use Rattle.std.specs.Ordering.{nat_cmp, is_lt, ordering_reverse}
use Rattle.std.specs.declared.cmp.Ordering.{Ordering}
use Rattle.std.specs.declared.cmp.Ordering.TheVariants.{Less, Equal, Greater}
use Rattle.std.specs.Cmp.Lexicographic.{slice_cmp}
use Rattle.std.specs.FinMap.{nat_cmp-IsAntisymmetric, slice_cmp-IsAntisymmetric}
use Rattle.std.proofs.lemmas.Cmp.{nat_list_cmp_total, tied_itself}
use Rattle.murphi_typed.specs.Families.{Name}
use Rattle.murphi_run.specs.Layout.{name_before}

less : (o : Ordering) → is_lt o ≡ true → o ≡ Less
less Less e = refl
less Equal e = cc
less Greater e = cc

-- no name stands before itself
pub not_itself : (a : Name) → name_before a a ≡ false
not_itself a = ap is_lt (tied_itself nat_list_cmp_total a)

pub before_trans : (a b c : Name) → name_before a b ≡ true → name_before b c ≡ true → name_before a c ≡ true
before_trans a b c p q = ap is_lt (nat_list_cmp_total.trans a b c (less (slice_cmp nat_cmp a b) p) (less (slice_cmp nat_cmp b c) q))

-- of two names, one stands before the other, or they are one
pub order_cases : (a b : Name) → (a ≡ b) ⊎ ((name_before a b ≡ true) ⊎ (name_before b a ≡ true))
order_cases a b = go (slice_cmp nat_cmp a b) refl
  where
    go : (o : Ordering) → slice_cmp nat_cmp a b ≡ o → (a ≡ b) ⊎ ((name_before a b ≡ true) ⊎ (name_before b a ≡ true))
    go Less was = inr (inl (ap is_lt was))
    go Equal was = inl (slice_cmp-IsAntisymmetric nat_cmp-IsAntisymmetric a b was)
    go Greater was = inr (inr (ap is_lt (nat_list_cmp_total.antisymm b a ∙ ap ordering_reverse was)))
