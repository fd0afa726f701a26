-- Writing lines one after another.
use Rattle.std.proofs.Common.{◌≡◌, ℕ, ◌+◌, ◌<◌, List, [], ◌∷◌, ◌++◌, take, drop, length, get_or, refl, ap, subst, ◌∙◌, sym, append_assoc, append-nil, Option}
use Rattle.std.specs.List.{concat}
use Rattle.std.proofs.lemmas.List.{take_more, take-append-drop}
use Rattle.cmp_outside.specs.Sink.{Gains, GainsPrefix, gains_both, prefix_first, prefix_second}

pub concat-append : (xs ys : List (List ℕ)) → concat (xs ++ ys) ≡ concat xs ++ concat ys
concat-append [] ys = refl
concat-append (x ∷ xs) ys =
    ap (λ z. x ++ z) (concat-append xs ys) ∙ sym (append_assoc x (concat xs) (concat ys))

-- the lines up to the next index are those before it and the one at it
pub concat-take : (lines : List (List ℕ)) (i : ℕ) (line : List ℕ) → i < length lines →
    line ≡ get_or lines i line →
    concat (take (i + 1) lines) ≡ concat (take i lines) ++ line
concat-take lines i line h e =
    ap concat (take_more lines i line h) ∙ concat-append (take i lines) (get_or lines i line ∷ [])
    ∙ ap (λ z. concat (take i lines) ++ z) (append-nil (get_or lines i line) ∙ sym e)

-- one line more was written
pub line_gained : (old mid new : Option (List ℕ)) (lines : List (List ℕ)) (i : ℕ) (line : List ℕ) →
    i < length lines → line ≡ get_or lines i line →
    Gains old mid (concat (take i lines)) → Gains mid new line →
    Gains old new (concat (take (i + 1) lines))
line_gained old mid new lines i line h e p q =
    let P : List ℕ → Type 0 = λ z. Gains old new z in
    subst P (sym (concat-take lines i line h e)) (gains_both old mid new (concat (take i lines)) line p q)

-- a prefix of the next line was written: a prefix of all
pub line_cut : (old mid new : Option (List ℕ)) (lines : List (List ℕ)) (i : ℕ) (line : List ℕ) →
    i < length lines → line ≡ get_or lines i line →
    Gains old mid (concat (take i lines)) → GainsPrefix mid new line →
    GainsPrefix old new (concat lines)
line_cut old mid new lines i line h e p q =
    let P : List ℕ → Type 0 = λ z. GainsPrefix old new z in
    let whole : concat lines ≡ (concat (take i lines) ++ line) ++ concat (drop (i + 1) lines) =
    sym (ap concat (take-append-drop (i + 1) lines)) ∙ concat-append (take (i + 1) lines) (drop (i + 1) lines)
    ∙ ap (λ z. z ++ concat (drop (i + 1) lines)) (concat-take lines i line h e) in
    subst P (sym whole)
    (prefix_first old new (concat (take i lines) ++ line) (concat (drop (i + 1) lines))
    (prefix_second old mid new (concat (take i lines)) line p q))

pub ruleset lines = (line_gained, line_cut)
