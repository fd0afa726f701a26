use Rattle.other_abstract.proofs.DecidingLemmas.{violates_decided, shown}
use Rattle.other_abstract.proofs.machine.AbstractMachine.violates.Goals as goal

pub returns : goal.returns
returns c = λ f at.
    let M = c.args.self.now in
    let g = c.index-as_slice-formula.result in
    let there = shown M.formulas c.as_slice.result.now c.args.formula g c.as_slice.ensures c.requires.formula c.index-as_slice-formula.is in
    violates_decided M c.args.state.now.values c.as_slice-2.result.now c.args.formula g f c.in_ok-b.b there c.as_slice-2.ensures c.in_ok-b.ensures at
