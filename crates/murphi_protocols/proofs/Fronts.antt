-- Lists behind what stands in front of them.
use Rattle.std.specs.Prelude.{Option}
use Rattle.std.proofs.Common.{inl, inr, ◌≡◌, ℕ, List, [], ◌∷◌, ◌++◌, ◌⊎◌, Some, None, Ok, Err, Result, refl, ap}
use Rattle.grammar_core.specs.Forms.{TreeOf}
use Rattle.murphi_ast.specs.declared.token.Token.{Token}
use Rattle.murphi_ast.specs.declared.decl.Decl.{Decl}
use Rattle.murphi_grammar.specs.Parts.{Part}
use Rattle.murphi_grammar.specs.Values.{Value, present, declared}
use Rattle.murphi_expressions.specs.Says.{Gives, with_front}
use Rattle.murphi_expressions.specs.declared.step.Stop.{Stop}
use Rattle.murphi_protocols.specs.Parts.{added, option_of, decls_of}

-- what is made of a list, with these in front
pub fronted : {A : Type 0} (f : Part) (made : TreeOf Token Value f → List A) (front : List A) (k : ℕ) (ts : List Token) (at : ℕ) (r : Result (List A × ℕ) Stop) →
    Gives f made k ts at r → Gives f (λ x. front ++ made x) k ts at (with_front front r)
unfolding Gives
fronted f made front k ts at (Ok (xs, next)) (parts, e, p) = (parts, ap (λ z. front ++ z) e, p)
fronted f made front k ts at (Err s) p = p

-- one more that may be there
pub present_more : {A B : Type 0} (p : A ⊎ Unit {0}) (x : Option A) → x ≡ option_of p → (y : B) (xs : List (B × (A ⊎ Unit {0}))) →
    added x ++ present xs ≡ present ((y, p) ∷ xs)
present_more (inl z) x e y xs = ap (λ w. added w ++ present xs) e
present_more (inr z) x e y xs = ap (λ w. added w ++ present xs) e

-- declarations behind one word, or a routine
pub declared_more : (p : List Decl ⊎ Decl) (x : List Decl) → x ≡ decls_of p → (xs : List (List Decl ⊎ Decl)) → x ++ declared xs ≡ declared (p ∷ xs)
declared_more (inl ds) x e xs = ap (λ z. z ++ declared xs) e
declared_more (inr d) x e xs = ap (λ z. z ++ declared xs) e
