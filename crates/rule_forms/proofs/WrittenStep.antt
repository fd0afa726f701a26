-- What a write does, once it is known what is shown.
use Rattle.std.proofs.Common.{◌≡◌, ℕ, List, ap, ◌∙◌}
use Rattle.rule_inline.specs.Demands.{Demand}
use Rattle.rule_inline.specs.Tables.{Terms, Spot, Shown, written}
use Rattle.rule_inline.specs.Parts.{Done}

pub written_shown : (frame : ℕ) (T : Terms) (spot : Spot) (shown new : Shown) (demands : List Demand) (d : Done) → d.change ≡ written frame T spot shown → d.demands ≡ demands → shown ≡ new → d ≡ record { change = written frame T spot new; demands = demands }
written_shown frame T spot shown new demands d a b e =
    ap (λ ch. record { change = ch; demands = d.demands }) (a ∙ ap (written frame T spot) e)
    ∙ ap (λ ds. record { change = written frame T spot new; demands = ds }) b
