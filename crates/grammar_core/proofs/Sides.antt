-- Two fronts of one list of tokens, the shorter of which is whole: what carries it on.
use Rattle.std.proofs.Common.{◌≡◌, ℕ, true, List, [], ◌∷◌, ◌++◌, refl, sym, ap, ◌∙◌, subst, append_assoc, append-nil}
use Rattle.grammar_core.specs.Test.{is_in, apart}
use Rattle.grammar_core.proofs.Sets.{not_apart}

pub data Side {A : Type 0} (key : A → ℕ) (n : List ℕ) (us vs : List A) : Type 0 where
  same : us ≡ vs → Side key n us vs
  longer : (c : A) (d : List A) → vs ≡ us ++ c ∷ d → is_in (key c) n ≡ true → Side key n us vs
  shorter : (c : A) (d : List A) → us ≡ vs ++ c ∷ d → is_in (key c) n ≡ true → Side key n us vs

pub cancel : {A : Type 0} (us xs ys : List A) → us ++ xs ≡ us ++ ys → xs ≡ ys
cancel [] xs ys e = e
cancel (u ∷ us) xs ys e = cancel us xs ys (cc)

pub not_longer : {A : Type 0} (us : List A) (c : A) (d : List A) → [] ≡ us ++ c ∷ d → ⊥
not_longer [] c d e = absurd (cc)
not_longer (u ∷ us) c d e = absurd (cc)

-- where the front has more, that begins the rest
pub beyond : {A : Type 0} (us xs vs ys : List A) (c : A) (d : List A) → us ++ xs ≡ vs ++ ys → vs ≡ us ++ c ∷ d → xs ≡ c ∷ (d ++ ys)
beyond us xs vs ys c d e k = cancel us _ _ (e ∙ ap (λ z. z ++ ys) k ∙ append_assoc us (c ∷ d) ys)

pub wider : {A : Type 0} {key : A → ℕ} {n m : List ℕ} {us vs : List A} → ((s : ℕ) → is_in s n ≡ true → is_in s m ≡ true) → Side key n us vs → Side key m us vs
wider w (same e) = same e
wider w (longer c d e i) = longer c d e (w _ i)
wider w (shorter c d e i) = shorter c d e (w _ i)

pub flip : {A : Type 0} {key : A → ℕ} {n : List ℕ} {us vs : List A} → Side key n us vs → Side key n vs us
flip (same e) = same (sym e)
flip (longer c d e i) = shorter c d e i
flip (shorter c d e i) = longer c d e i

pub side_at : {A : Type 0} {key : A → ℕ} {n : List ℕ} {us vs ps qs : List A} → us ≡ ps → vs ≡ qs → Side key n ps qs → Side key n us vs
side_at h k (same e) = same (h ∙ e ∙ sym k)
side_at h k (longer c d e i) = longer c d (k ∙ e ∙ ap (λ z. z ++ c ∷ d) (sym h)) i
side_at h k (shorter c d e i) = shorter c d (h ∙ e ∙ ap (λ z. z ++ c ∷ d) (sym k)) i

-- one more token at both
pub under : {A : Type 0} {key : A → ℕ} {n : List ℕ} {us vs : List A} (x y : A) → x ≡ y → Side key n us vs → Side key n (x ∷ us) (y ∷ vs)
under x y h (same e) = same (cc)
under x y h (longer c d e i) = longer c d (cc) i
under x y h (shorter c d e i) = shorter c d (cc) i

-- the heads of a list are in a set
abbrev pub Heads : {A : Type 0} (key : A → ℕ) → List ℕ → List A → Type 0
Heads key f us = (x : _) (xs : List _) → us ≡ x ∷ xs → is_in (key x) f ≡ true

-- all of one set are in the other
abbrev pub Sub : List ℕ → List ℕ → Type 0
Sub n m = (s : ℕ) → is_in s n ≡ true → is_in s m ≡ true

over : {A : Type 0} (key : A → ℕ) (a f n : List ℕ) (us1 us2 vs1 vs2 l m : List A) → us1 ++ (us2 ++ l) ≡ vs1 ++ (vs2 ++ m) → apart a f ≡ true → Heads key f us2 → (us2 ≡ [] → Sub a n) → (c : A) (d : List A) → vs1 ≡ us1 ++ c ∷ d → is_in (key c) a ≡ true → Side key n (us1 ++ us2) (vs1 ++ vs2)
over key a f n us1 [] vs1 vs2 l m e ap1 hu nu c d k i =
    longer c (d ++ vs2) (ap (λ z. z ++ vs2) k ∙ append_assoc us1 (c ∷ d) vs2 ∙ ap (λ z. z ++ c ∷ (d ++ vs2)) (sym (append-nil us1))) (nu refl _ i)
over key a f n us1 (x ∷ xs) vs1 vs2 l m e ap1 hu nu c d k i =
    let h = beyond us1 _ vs1 _ c d e k in
    absurd (not_apart (key c) a f ap1 i (hu c xs (cc)))

finish : {A : Type 0} (key : A → ℕ) (n : List ℕ) (us1 us2 vs1 vs2 : List A) → us1 ≡ vs1 → Side key n us2 vs2 → Side key n (us1 ++ us2) (vs1 ++ vs2)
finish key n us1 us2 vs1 vs2 k (same q) = same (ap (λ z. z ++ us2) k ∙ ap (λ z. vs1 ++ z) q)
finish key n us1 us2 vs1 vs2 k (longer c d q i) = longer c d (ap (λ z. vs1 ++ z) q ∙ sym (append_assoc vs1 us2 (c ∷ d)) ∙ ap (λ z. (z ++ us2) ++ c ∷ d) (sym k)) i
finish key n us1 us2 vs1 vs2 k (shorter c d q i) = shorter c d (ap (λ z. us1 ++ z) q ∙ sym (append_assoc us1 vs2 (c ∷ d)) ∙ ap (λ z. (z ++ vs2) ++ c ∷ d) k) i

-- two forms, one behind the other
pub glue : {A : Type 0} (key : A → ℕ) (a f n : List ℕ) (us1 us2 vs1 vs2 l m : List A) → (us1 ++ us2) ++ l ≡ (vs1 ++ vs2) ++ m → apart a f ≡ true → Heads key f us2 → Heads key f vs2 → (us2 ≡ [] → Sub a n) → (vs2 ≡ [] → Sub a n) → Side key a us1 vs1 → (us2 ++ l ≡ vs2 ++ m → Side key n us2 vs2) → Side key n (us1 ++ us2) (vs1 ++ vs2)
glue key a f n us1 us2 vs1 vs2 l m e ap1 hu hv nu nv (same k) rest =
    finish key n us1 us2 vs1 vs2 k (rest (cancel vs1 _ _ (ap (λ z. z ++ (us2 ++ l)) (sym k) ∙ sym (append_assoc us1 us2 l) ∙ e ∙ append_assoc vs1 vs2 m)))
glue key a f n us1 us2 vs1 vs2 l m e ap1 hu hv nu nv (longer c d k i) rest =
    over key a f n us1 us2 vs1 vs2 l m (sym (append_assoc us1 us2 l) ∙ e ∙ append_assoc vs1 vs2 m) ap1 hu nu c d k i
glue key a f n us1 us2 vs1 vs2 l m e ap1 hu hv nu nv (shorter c d k i) rest =
    flip (over key a f n vs1 vs2 us1 us2 m l (sym (append_assoc vs1 vs2 m) ∙ sym e ∙ append_assoc us1 us2 l) ap1 hv nv c d k i)

-- the cuts agree
pub agree : {A : Type 0} (key : A → ℕ) (a f : List ℕ) (us1 us2 vs1 vs2 : List A) → us1 ++ us2 ≡ vs1 ++ vs2 → apart a f ≡ true → Heads key f us2 → Heads key f vs2 → Side key a us1 vs1 → (us1 ≡ vs1) × (us2 ≡ vs2)
agree key a f us1 us2 vs1 vs2 e ap1 hu hv (same k) = (k, cancel vs1 _ _ (ap (λ z. z ++ us2) (sym k) ∙ e))
agree key a f us1 us2 vs1 vs2 e ap1 hu hv (longer c d k i) = absurd (not_apart (key c) a f ap1 i (hu c _ (beyond us1 us2 vs1 vs2 c d e k)))
agree key a f us1 us2 vs1 vs2 e ap1 hu hv (shorter c d k i) = absurd (not_apart (key c) a f ap1 i (hv c _ (beyond vs1 vs2 us1 us2 c d (sym e) k)))

-- what carries on two forms, where only the first of the longer list is begun
pub carried_first : {A : Type 0} (key : A → ℕ) (a f n : List ℕ) (us1 us2 all : List A) (c : A) (d : List A) → all ≡ (us1 ++ us2) ++ c ∷ d → apart a f ≡ true → Heads key f us2 → (us2 ≡ [] → Sub a n) → ((x : A) (xs : List A) → all ≡ us1 ++ x ∷ xs → is_in (key x) a ≡ true) → is_in (key c) n ≡ true
carried_first key a f n us1 [] all c d e ap1 hu nu rec = nu refl _ (rec c d (e ∙ ap (λ z. z ++ c ∷ d) (append-nil us1)))
carried_first key a f n us1 (x ∷ xs) all c d e ap1 hu nu rec =
    absurd (not_apart (key x) a f ap1 (rec x (xs ++ c ∷ d) (e ∙ append_assoc us1 (x ∷ xs) (c ∷ d))) (hu x xs refl))

carried_over : {A : Type 0} (key : A → ℕ) (a f n : List ℕ) (us2 vs2 : List A) (c c' : A) (d d' : List A) → us2 ++ c ∷ d ≡ c' ∷ (d' ++ vs2) → apart a f ≡ true → Heads key f us2 → (us2 ≡ [] → Sub a n) → is_in (key c') a ≡ true → is_in (key c) n ≡ true
carried_over key a f n [] vs2 c c' d d' e ap1 hu nu i = nu refl _ (subst (λ z. is_in (key z) a ≡ true) (cc) i)
carried_over key a f n (x ∷ xs) vs2 c c' d d' e ap1 hu nu i = absurd (not_apart (key c') a f ap1 i (hu c' xs (cc)))

-- what carries on two forms, where the second of the longer list is begun too
pub carried : {A : Type 0} (key : A → ℕ) (a f n : List ℕ) (us1 us2 vs1 vs2 : List A) (c : A) (d : List A) → vs1 ++ vs2 ≡ (us1 ++ us2) ++ c ∷ d → apart a f ≡ true → Heads key f us2 → Heads key f vs2 → (us2 ≡ [] → Sub a n) → Side key a us1 vs1 → (vs2 ≡ us2 ++ c ∷ d → is_in (key c) n ≡ true) → is_in (key c) n ≡ true
carried key a f n us1 us2 vs1 vs2 c d e ap1 hu hv nu (same k) rest =
    rest (cancel vs1 _ _ (e ∙ append_assoc us1 us2 (c ∷ d) ∙ ap (λ z. z ++ (us2 ++ c ∷ d)) k))
carried key a f n us1 us2 vs1 vs2 c d e ap1 hu hv nu (longer c' d' k i) rest =
    carried_over key a f n us2 vs2 c c' d d' (beyond us1 _ vs1 vs2 c' d' (sym (e ∙ append_assoc us1 us2 (c ∷ d))) k) ap1 hu nu i
carried key a f n us1 us2 vs1 vs2 c d e ap1 hu hv nu (shorter c' d' k i) rest =
    absurd (not_apart (key c') a f ap1 i (hv c' _ (beyond vs1 vs2 us1 _ c' d' (e ∙ append_assoc us1 us2 (c ∷ d)) k)))
