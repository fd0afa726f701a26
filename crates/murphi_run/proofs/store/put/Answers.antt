use Rattle.std.proofs.Common.{◌∙◌, ap}
use Rattle.std.specs.Prelude.{slice_set}
use Rattle.murphi_run.proofs.PutLemmas.{put_more}
use Rattle.murphi_run.proofs.store.put.Goals as goal

pub loop-k-preserved : goal.loop-k-preserved
loop-k-preserved c =
    put_more c.args.number c.loop-k.k _ c.args.new.now c.args.values.now c.loop-k.values _ c.loop-k.invariant c.value_at-value.ensures c.requires
    (c.set.ensures ∙ ap (λ n. slice_set c.loop-k.values n c.value_at-value.result) c.place_behind-place.ensures)
