-- Loops over declarations, and over names that leave scope.
use Rattle.std.proofs.Common.{◌≡◌, ℕ, ◌+◌, ◌-◌, ◌<◌, ◌≤◌, Bool, List, [], ◌∷◌, ◌++◌, length, take, get_or, Option, None, Some, ap, sym, ◌∙◌, MatchOption, arith}
use Rattle.std.proofs.lemmas.List.{length-append, take_more, take-append-le}
use Rattle.murphi_types.specs.declared.scope.Entry.{Entry}
use Rattle.murphi_ast.specs.declared.decl.Decl.{Decl}
use Rattle.murphi_types.specs.Declarations.{Declared}
use Rattle.type_declarations.specs.declared.state.Declaring.{Declaring}
use Rattle.type_declarations.specs.Declaring.{declaring}

-- one declaration more, of those that go over a list
pub turn : (g : Bool) (all : List Decl → Declared → Declared) (one : Decl → Declared → Declared) →
    ((xs : List Decl) (x : Decl) (d : Declared) → all (xs ++ x ∷ []) d ≡ one x (all xs d)) →
    (xs : List Decl) (i : ℕ) (x : Decl) (start p p' : Declaring) →
    i < length xs → x ≡ get_or xs i x →
    ((d : Declared) → start ≡ declaring g d → p ≡ declaring g (all (take i xs) d)) →
    ((d : Declared) → p ≡ declaring g d → p' ≡ declaring g (one x d)) →
    (d : Declared) → start ≡ declaring g d → p' ≡ declaring g (all (take (i + 1) xs) d)
turn g all one last xs i x start p p' inside is so_far next d h =
    next (all (take i xs) d) (so_far d h)
    ∙ ap (declaring g)
    (sym (last (take i xs) x d)
    ∙ ap (λ ys. all ys d) (ap (λ z. take i xs ++ z ∷ []) is ∙ sym (take_more xs i x inside)))

-- one name fewer
pub popped : (n left : ℕ) (start before after : List Entry) (o : Option Entry) →
    MatchOption o ((before ≡ []) × (after ≡ [])) (λ last. before ≡ after ++ last ∷ []) →
    n < left → take n before ≡ take n start → length before ≡ left →
    (take n after ≡ take n start) × (length after ≡ left - 1)
popped n left start before after None h lt t l =
    let z : left ≡ 0 = sym l ∙ ap length h.0 in
    absurd (omega arith)
popped n left start before after (Some last) h lt t l =
    let m : length before ≡ length after + 1 = ap length h ∙ length-append after (last ∷ []) in
    let inside : n ≤ length after = omega arith in
    (sym (ap (take n) h ∙ take-append-le n after (last ∷ []) inside) ∙ t, omega arith)
