use Rattle.type_items.proofs.MadeLemmas.{invariant-put}
use Rattle.type_items.proofs.steps.invariant_made.Goals as goal

pub returns : goal.returns
returns c =
    invariant-put c.args.opened.now c.args.size.now c.args.title.now c.args.written.now c.args.at c.args.claimed c.args.made c.in_ok-made.made c.with_fault-inside.result
    c.as_slice.result.now c.as_slice-params.result.now c.instances-own.result c.plus-count.result c.claim_fault-fault.result
    c.as_slice.ensures c.instances-own.ensures c.plus-count.ensures c.claim_fault-fault.ensures c.as_slice-params.ensures c.in_ok-made.ensures c.with_fault-inside.ensures
