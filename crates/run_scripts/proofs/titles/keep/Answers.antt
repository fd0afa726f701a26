use Rattle.std.proofs.Common.{◌≡◌, ◌∙◌, ◌++◌, ◌∷◌, [], true, false, sym, ap, subst, is_some}
use Rattle.std.specs.Str.{bytes_eq}
use Rattle.std.specs.Map.{lookup}
use Rattle.run_scripts.specs.Reading.{IsTable}
use Rattle.run_scripts.proofs.TitleLemmas.{new_last, table-again, table-new}
use Rattle.run_scripts.proofs.titles.keep.Goals as goal

pub returns-then-contains_key : goal.returns-then-contains_key
returns-then-contains_key c = λ names at table.
    let there : is_some (lookup (λ k. bytes_eq c.args.title.now k.items) c.args.first.now.entries) ≡ true =
    ap (λ n. is_some (lookup (λ k. bytes_eq n k.items) c.args.first.now.entries)) (sym c.bytes.ensures) ∙ sym c.contains_key.ensures ∙ c.if-contains_key.true in
    table-again names c.args.first.now.entries c.args.title.now table there

pub returns-in-Ok : goal.returns-in-Ok
returns-in-Ok c = λ names at table.
    let out : is_some (lookup (λ k. bytes_eq c.args.title.now k.items) c.args.first.now.entries) ≡ false =
    ap (λ n. is_some (lookup (λ k. bytes_eq n k.items) c.args.first.now.entries)) (sym c.bytes.ensures) ∙ sym c.contains_key.ensures ∙ c.if-contains_key.false in
    subst (λ m. IsTable (names ++ c.args.title.now ∷ []) m)
    (sym (c.in-Ok.ensures.entries
    ∙ new_last c.args.first.now.entries c.in_ok-key.key c.args.at (ap (λ n. is_some (lookup (λ k. bytes_eq n k.items) c.args.first.now.entries)) c.in_ok-key.ensures ∙ out)
    ∙ ap (λ n. c.args.first.now.entries ++ (c.in_ok-key.key, n) ∷ []) at))
    (table-new names c.args.first.now.entries c.args.title.now c.in_ok-key.key c.in_ok-key.ensures table)
