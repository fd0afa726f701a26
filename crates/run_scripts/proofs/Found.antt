-- Members that are looked for.
use Rattle.std.proofs.Common.{◌≡◌, ◌∙◌, ℕ, suc, ◌+◌, ◌-◌, ◌<◌, ◌≤◌, cond, List, None, Some, ap, arith}
use Rattle.std.specs.Str.{bytes_eq}
use Rattle.murphi_typed.specs.declared.types.Kind.{Kind}
use Rattle.run_scripts.specs.Values.{plain_text, search}

-- one more number is looked at
pub search_more : (k : Kind) (text : List ℕ) (at bound : ℕ) → at < bound → search k text at (bound - at) ≡ cond (bytes_eq text (plain_text k at)) (Some at) (search k text (at + 1) (bound - (at + 1)))
search_more k text at bound h =
    let e : bound - at ≡ suc (bound - (at + 1)) = omega arith in
    ap (search k text at) e ∙ ap (λ n. cond (bytes_eq text (plain_text k at)) (Some at) (search k text n (bound - (at + 1)))) (suc_is at)
  where
    suc_is : (n : ℕ) → suc n ≡ n + 1
    suc_is n = omega arith

pub search_none : (k : Kind) (text : List ℕ) (at bound : ℕ) → bound ≤ at → search k text at (bound - at) ≡ None
search_none k text at bound h =
    let e : bound - at ≡ 0 = omega arith in
    ap (search k text at) e

pub ruleset finding = (search_more, search_none)
