use Rattle.std.proofs.Common.{◌≡◌, ℕ, ◌∙◌, ◌++◌, ◌∷◌, [], Some, None, true, false, sym, ap, subst, is_some, length}
use Rattle.std.specs.Str.{bytes_eq}
use Rattle.std.specs.Map.{lookup}
use Rattle.murphi_types.specs.Table.{IsTable}
use Rattle.murphi_types.proofs.TableLemmas.{table-again, table-new, new_last}
use Rattle.murphi_types.proofs.names.Names.push.Goals as goal

pub invariant_of-self-then-contains_key : goal.invariant_of-self-then-contains_key
invariant_of-self-then-contains_key c =
    let there : is_some (lookup (λ k. bytes_eq c.args.entry.name k.items) c.self.inside.first.entries) ≡ true =
    ap (λ n. is_some (lookup (λ k. bytes_eq n k.items) c.self.inside.first.entries)) (sym c.bytes.ensures) ∙ sym c.contains_key.ensures ∙ c.if-contains_key.true in
    subst (λ es. IsTable es c.self.inside.first.entries) (sym c.in_ok-push.ensures.ok)
    (table-again c.self.inside.entries c.self.inside.first.entries c.args.entry c.self.invariant there)

pub invariant_of-self-in-Ok : goal.invariant_of-self-in-Ok
invariant_of-self-in-Ok c =
    let out : is_some (lookup (λ k. bytes_eq c.args.entry.name k.items) c.self.inside.first.entries) ≡ false =
    ap (λ n. is_some (lookup (λ k. bytes_eq n k.items) c.self.inside.first.entries)) (sym c.bytes.ensures) ∙ sym c.contains_key.ensures ∙ c.if-contains_key.false in
    let entries : c.insert.new.self.entries ≡ c.self.inside.first.entries ++ (c.in_ok-name.name, length c.self.inside.entries) ∷ [] =
    c.in-Ok.ensures.entries ∙ new_last c.self.inside.first.entries c.in_ok-name.name c.len-at.result (ap (λ n. is_some (lookup (λ k. bytes_eq n k.items) c.self.inside.first.entries)) c.in_ok-name.ensures ∙ out)
    ∙ ap (λ (n : ℕ). c.self.inside.first.entries ++ (c.in_ok-name.name, n) ∷ []) c.len-at.ensures in
    subst (λ m. IsTable c.push-2.new.self m) (sym entries)
    (subst (λ es. IsTable es (c.self.inside.first.entries ++ (c.in_ok-name.name, length c.self.inside.entries) ∷ [])) (sym c.in_ok-push-2.ensures.ok)
    (table-new c.self.inside.entries c.self.inside.first.entries c.args.entry c.in_ok-name.name c.in_ok-name.ensures c.self.invariant out))
