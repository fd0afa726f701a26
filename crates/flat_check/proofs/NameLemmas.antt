-- The variables of a protocol, declaration by declaration.
use Rattle.std.proofs.Common.{◌≡◌, ℕ, suc, ◌+◌, ◌<◌, List, ◌∷◌, ◌++◌, length, get_or, drop, drop-cons, add-one, ap, ◌∙◌, append_assoc}
use Rattle.std.specs.Prelude.{flat_map}
use Rattle.murphi_ast.specs.declared.decl.Decl.{Decl}
use Rattle.murphi_ast.specs.State.{Name, declared_by}

-- the names that one more declaration adds
pub names_next : (decls : List Decl) (i : ℕ) (d : Decl) (names more : List Name) → i < length decls → d ≡ get_or decls i d → more ≡ declared_by d →
    (names ++ more) ++ flat_map declared_by (drop (i + 1) decls) ≡ names ++ flat_map declared_by (drop i decls)
names_next decls i d names more h is e =
    let rest = flat_map declared_by (drop (suc i) decls) in
    let whole : drop i decls ≡ get_or decls i d ∷ drop (suc i) decls = drop-cons decls i d h in
    rw (add-one, whole, append_assoc) (ap (λ t. names ++ (t ++ rest)) (e ∙ ap declared_by is))
