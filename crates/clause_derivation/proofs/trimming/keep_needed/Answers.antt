use Rattle.std.proofs.Common.{◌≡◌, ◌∙◌, ◌-◌, ◌+◌, ◌++◌, ◌∷◌, [], ℕ, List, length, false, get_or, ap, sym, subst, arith}
use Rattle.std.specs.Prelude.{if◌then◌else◌}
use Rattle.clause_derivation.specs.Trimming.{lowered_chain}
use Rattle.clause_derivation.proofs.TrimLemmas.{Kept, kept_more, kept_last}
use Rattle.clause_derivation.proofs.trimming.keep_needed.Goals as goal

pub loop-i-preserved : goal.loop-i-preserved
loop-i-preserved c =
    let n : ℕ = c.loop-i.i - c.len.result in
    let e : c.loop-i.i - c.len.result ≡ c.loop-i.i - length c.loop-i.out.items = omega (arith, c.len.ensures) in
    subst (λ ds. Kept c.args.base c.args.chains.now c.args.needed.now (c.loop-i.i + 1) ds c.keep_one.new.out.items) (sym c.in_ok-push.ensures.items)
    (kept_more c.args.base c.args.chains.now c.args.needed.now c.loop-i.i c.loop-i.dropped.items c.loop-i.out.items c.keep_one.new.out.items n c.index-chains-i.result c.loop-i-test.true e c.index-chains-i.is c.requires.closed c.loop-i.invariant
    (c.in_ok-keep_one.ensures ∙ ap (λ (ds : List ℕ). if get_or c.args.needed.now c.loop-i.i false then c.loop-i.out.items ++ lowered_chain c.args.base ds c.index-chains-i.result ∷ [] else c.loop-i.out.items) (c.as_slice.ensures.value ∙ c.in_ok-push.ensures.items)))

pub returns-clause-last : goal.returns-clause-last
returns-clause-last c t = kept_last c.args.base c.args.chains.now c.args.needed.now c.loop-i.i c.loop-i.dropped.items c.loop-i.out.items c.loop-i-test.false c.loop-i.auto.i-end c.loop-i.invariant t
