use Rattle.std.proofs.Common.{◌≡◌, ℕ, ◌*◌, ◌<◌, Bool, List, map, Option, Some, sym, ap, ◌∙◌, arith, rules}
use Rattle.std.specs.Prelude.{slice_get}
use Rattle.std.specs.declared.rc.Rc.{Rc}
use Rattle.std.specs.declared.alloc.Global.{Global}
use Rattle.rule_parts.specs.declared.layer.Shown.{Shown}
use Rattle.rule_parts.specs.declared.layer.Given as g
use Rattle.rule_parts.specs.Seen.{seen_family}
use Rattle.rule_parts.specs.Layers.{seen_shown}
use Rattle.rule_parts.proofs.LayerWeights.{shown_weight, givens_weight, weight-Filled, in_givens}
use Rattle.rule_parts.proofs.NowEquations.{shown-Cleared}
use Rattle.rule_parts.proofs.now.+now.Goals as goal

-- what is given weighs more than what is shown of one of it
filled_less : (gs : List g.Given) (k : ℕ) (mark : Option ℕ) (plain : Bool) (shown : Rc Shown Global) (y : Shown) → slice_get gs k ≡ Some (g.Filled mark plain shown) → y ≡ shown.value → 4 * shown_weight y < 4 * givens_weight gs
filled_less gs k mark plain shown y got same =
    let less = in_givens gs k (g.Filled mark plain shown) got in
    let weight = weight-Filled mark plain shown in
    let inner = ap shown_weight same in
    omega (arith, less, weight, inner)

pub given_term-shown-requires : goal.given_term-shown-requires
given_term-shown-requires t c =
    let f = c.in-Some-Filled in
    let got : slice_get c.args.given.now c.args.k ≡ Some (g.Filled f.field-0-0 f.field-0-1 f.new) = cc (f.ensures, f.is, f.field-0-is, f.new-is) in
    let less = filled_less c.args.given.now c.args.k f.field-0-0 f.field-0-1 f.new c.deref.result.now got c.deref.ensures in
    search (rules, less)

pub shown-returns-in-Cleared : goal.shown-returns-in-Cleared
shown-returns-in-Cleared t c =
    let fs = map seen_family c.args.families.now in
    let same = ap (λ n. seen_shown n fs c.args.path.now c.args.key.now) c.in-Cleared.is in
    c.cleared.ensures c.args.key.now ∙ sym (same ∙ shown-Cleared fs c.in-Cleared.of c.args.path.now c.args.key.now)
