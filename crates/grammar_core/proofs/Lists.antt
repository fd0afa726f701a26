-- Lists of tokens cut in two ways.
use Rattle.std.proofs.Common.{◌≡◌, List, [], ◌∷◌, ◌++◌, ◌⊎◌, inl, inr, refl, sym}

-- two cuts of one list: the first part of one is within the first part of the other
pub compare : {A : Type 0} (us vs ps ws : List A) → us ++ vs ≡ ps ++ ws → ((d : List A) × (ps ≡ us ++ d) × (vs ≡ d ++ ws)) ⊎ ((d : List A) × (us ≡ ps ++ d) × (ws ≡ d ++ vs))
compare [] vs ps ws e = inl (ps, refl, e)
compare (u ∷ us) vs [] ws e = inr (u ∷ us, refl, sym e)
compare (u ∷ us) vs (p ∷ ps) ws e = go (compare us vs ps ws (cc)) (cc)
  where
    go : ((d : List _) × (ps ≡ us ++ d) × (vs ≡ d ++ ws)) ⊎ ((d : List _) × (us ≡ ps ++ d) × (ws ≡ d ++ vs)) → u ≡ p → ((d : List _) × (p ∷ ps ≡ (u ∷ us) ++ d) × (vs ≡ d ++ ws)) ⊎ ((d : List _) × (u ∷ us ≡ (p ∷ ps) ++ d) × (ws ≡ d ++ vs))
    go (inl (d, e1, e2)) h = inl (d, cc, e2)
    go (inr (d, e1, e2)) h = inr (d, cc, e2)
