-- The block of a variable, by its number.
use Rattle.std.proofs.Common.{◌≡◌, ℕ, zero, suc, ◌+◌, ◌≤◌, List, [], ◌∷◌, length, None, Some, refl, ap, ◌∙◌, arith}
use Rattle.std.specs.Prelude.{slice_get}
use Rattle.murphi_typed.specs.declared.protocol.Variable.{Variable}
use Rattle.murphi_run.specs.Layout.{size}
use Rattle.murphi_run.specs.Blocks.{blocks_from, firsts_from}

none_some : {A : Type 0} {a : A} → None ≡ Some a → ⊥
none_some e = cc

pub block_none : (N first number : ℕ) (vs : List Variable) → length vs ≤ number → slice_get (blocks_from N first vs) number ≡ None
block_none N first number [] e = refl
block_none N first zero (v ∷ vs) e = absurd (omega (arith, e))
block_none N first (suc number) (v ∷ vs) e = block_none N (first + size N v.of) number vs (omega (arith, e))

pub block_some : (N first number start : ℕ) (vs : List Variable) (v : Variable) → slice_get vs number ≡ Some v → slice_get (firsts_from N first vs) number ≡ Some start → slice_get (blocks_from N first vs) number ≡ Some (record { first = start; of = v.of })
block_some N first number start [] v e f = absurd (none_some e)
block_some N first zero start (w ∷ vs) v e f =
    let one : w ≡ v = cc in
    let at : first ≡ start = cc in
    ap (λ (x : Variable). Some (record { first = first; of = x.of })) one ∙ ap (λ n. Some (record { first = n; of = v.of })) at
block_some N first (suc number) start (w ∷ vs) v e f = block_some N (first + size N w.of) number start vs v e f

firsts_length : (N first : ℕ) (vs : List Variable) → length (firsts_from N first vs) ≡ length vs
firsts_length N first [] = refl
firsts_length N first (v ∷ vs) = ap suc (firsts_length N (first + size N v.of) vs)

pub block_short : (N first number : ℕ) (vs : List Variable) (fs : List ℕ) → fs ≡ firsts_from N first vs → length fs ≤ number → slice_get (blocks_from N first vs) number ≡ None
block_short N first number vs fs e low =
    let same : length fs ≡ length vs = ap length e ∙ firsts_length N first vs in
    block_none N first number vs (omega (arith, same, low))

pub ruleset variables = (block_none, block_some, block_short)
