use Rattle.std.proofs.Common.{◌≡◌, ◌∙◌, Some, None, sym, ap}
use Rattle.std.specs.Str.{bytes_eq}
use Rattle.std.specs.Map.{lookup}
use Rattle.murphi_types.specs.Scopes.{earliest}
use Rattle.murphi_types.specs.Table.{first_of, what_at}
use Rattle.murphi_types.proofs.TableLemmas.{earliest_at, earliest_none}
use Rattle.murphi_types.proofs.names.Names.look.Goals as goal

pub returns-in-None : goal.returns-in-None
returns-in-None c =
    let at : lookup (λ k. bytes_eq c.args.name.now k.items) c.self.inside.first.entries ≡ None =
    ap (λ n. lookup (λ k. bytes_eq n k.items) c.self.inside.first.entries) (sym c.bytes.ensures) ∙ sym c.in-None.ensures.value in
    sym (ap (λ es. earliest es c.args.name.now) (sym c.self.view_is) ∙ earliest_none c.self.inside.entries c.args.name.now (sym (c.self.invariant c.args.name.now) ∙ at))

pub returns-in_ok-found-in-Some : goal.returns-in_ok-found-in-Some
returns-in_ok-found-in-Some c =
    let at : lookup (λ k. bytes_eq c.args.name.now k.items) c.self.inside.first.entries ≡ Some c.in-Some.at.now =
    ap (λ n. lookup (λ k. bytes_eq n k.items) c.self.inside.first.entries) (sym c.bytes.ensures) ∙ sym c.in-Some.ensures.value in
    c.in_ok-found-in-Some.ensures ∙ ap (λ es. what_at es c.in-Some.at.now) c.as_slice.ensures
    ∙ sym (ap (λ es. earliest es c.args.name.now) (sym c.self.view_is) ∙ earliest_at c.self.inside.entries c.args.name.now c.in-Some.at.now (sym (c.self.invariant c.args.name.now) ∙ at))
