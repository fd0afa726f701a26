use Rattle.std.proofs.Common.{◌≡◌, ◌∙◌, ◌++◌, ◌∷◌, [], ap, true, false, subst, sym}
use Rattle.std.specs.List.{list_any}
use Rattle.std.specs.Str.{bytes_eq}
use Rattle.job_files.specs.Uses.{names_in}
use Rattle.job_files.proofs.UseLemmas.{kept_is}
use Rattle.job_files.proofs.uses.keep.Goals as goal

pub returns-in-Ok : goal.returns-in-Ok
returns-in-Ok c = λ h.
    ap names_in c.in-Ok.ensures.entries
    ∙ kept_is c.in_ok-key.key true c.args.used.now.entries (subst (λ n. list_any (bytes_eq n) (names_in c.args.used.now.entries) ≡ false) (sym c.in_ok-key.ensures) h)
    ∙ ap (λ n. names_in c.args.used.now.entries ++ n ∷ []) c.in_ok-key.ensures
