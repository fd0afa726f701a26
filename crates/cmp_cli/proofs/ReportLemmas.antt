-- How the parts of a report make up the whole.
use Rattle.std.proofs.Common.{◌≡◌, ℕ, suc, ◌+◌, ◌<◌, List, [], ◌∷◌, ◌++◌, length, get_or, drop, drop-cons, add-one, ap, ◌∙◌, append_assoc}
use Rattle.std.specs.Prelude.{flat_map}
use Rattle.murphi_ast.specs.declared.decl.Decl.{Decl}
use Rattle.murphi_ast.specs.State.{Name, declared_by}

-- the names that one more declaration adds
pub names_next : (decls : List Decl) (i : ℕ) (d : Decl) (names more : List Name) → i < length decls → d ≡ get_or decls i d → more ≡ declared_by d →
    (names ++ more) ++ flat_map declared_by (drop (i + 1) decls) ≡ names ++ flat_map declared_by (drop i decls)
names_next decls i d names more h is e =
    let rest = flat_map declared_by (drop (suc i) decls) in
    let whole : drop i decls ≡ get_or decls i d ∷ drop (suc i) decls = drop-cons decls i d h in
    rw (add-one, whole, append_assoc) (ap (λ t. names ++ (t ++ rest)) (e ∙ ap declared_by is))

-- three lines and more, added one after another
pub three_and_more : {A : Type 0} (l l1 l2 l3 l4 : List A) (a b c : A) (d : List A) → l1 ≡ l ++ a ∷ [] → l2 ≡ l1 ++ b ∷ [] → l3 ≡ l2 ++ c ∷ [] →
    l4 ≡ l3 ++ d → l4 ≡ l ++ (a ∷ b ∷ c ∷ d)
three_and_more l l1 l2 l3 l4 a b c d e1 e2 e3 e4 =
    e4 ∙ ap (λ z. z ++ d) (e3 ∙ ap (λ z. z ++ c ∷ []) (e2 ∙ ap (λ z. z ++ b ∷ []) e1))
    ∙ append_assoc ((l ++ a ∷ []) ++ b ∷ []) (c ∷ []) d
    ∙ append_assoc (l ++ a ∷ []) (b ∷ []) (c ∷ d)
    ∙ append_assoc l (a ∷ []) (b ∷ c ∷ d)

-- one line and more
pub one_and_more : {A : Type 0} (l l1 l2 : List A) (a : A) (d : List A) → l1 ≡ l ++ a ∷ [] → l2 ≡ l1 ++ d → l2 ≡ l ++ (a ∷ d)
one_and_more l l1 l2 a d e1 e2 = e2 ∙ ap (λ z. z ++ d) e1 ∙ append_assoc l (a ∷ []) d

-- two parts
pub both_parts : {A : Type 0} (l l1 l2 : List A) (a d : List A) → l1 ≡ l ++ a → l2 ≡ l1 ++ d → l2 ≡ l ++ (a ++ d)
both_parts l l1 l2 a d e1 e2 = e2 ∙ ap (λ z. z ++ d) e1 ∙ append_assoc l a d
