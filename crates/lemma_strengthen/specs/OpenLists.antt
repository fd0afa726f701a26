-- Opening lists of terms, and instances, as code goes over them.
use Rattle.std.specs.Prelude.{ℕ, zero, suc, ◌+◌, ◌-◌, max, Bool, List, [], ◌∷◌, ◌++◌}
use Rattle.std.specs.List.{flat_map}
use Rattle.term_core.specs.declared.term.Term as t
use Rattle.term_core.specs.declared.term.Term.{Term}
use Rattle.term_core.specs.Values.{below}
use Rattle.term_core.specs.Substitution.{placed}
use Rattle.lemma_strengthen.specs.Opening.{taken, opened}

abbrev pub shared_taken : Bool → ℕ → List Term → ℕ
shared_taken sign left [] = 0
shared_taken sign left (x ∷ xs) = max (taken sign left x) (shared_taken sign left xs)

abbrev pub turn_taken : Bool → ℕ → List Term → ℕ
turn_taken sign left [] = 0
turn_taken sign left (x ∷ xs) = taken sign left x + turn_taken sign (left - taken sign left x) xs

abbrev pub turn_opened : ℕ → Bool → List Term → ℕ → ℕ → List Term → List Term
turn_opened to sign vs next left [] = []
turn_opened to sign vs next left (x ∷ xs) =
    opened to sign vs next left x ∷ turn_opened to sign vs (next + taken sign left x) (left - taken sign left x) xs

-- the instances of a body where the window nodes of its first variables are chosen, with so many left
abbrev pub instances_after : ℕ → Term → ℕ → List Term → List Term
instances_after window body zero names = placed window names body ∷ []
instances_after window body (suc left) names = flat_map (λ k. instances_after window body left (names ++ t.Var k ∷ [])) (below window)
