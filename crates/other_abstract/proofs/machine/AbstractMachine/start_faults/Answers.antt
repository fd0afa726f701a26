use Rattle.other_abstract.proofs.DecidingLemmas.{faults_decided, shown}
use Rattle.other_abstract.proofs.machine.AbstractMachine.start_faults.Goals as goal

pub returns : goal.returns
returns c = λ r at.
    let M = c.args.self.now in
    let g = c.index-as_slice-start.result in
    let there = shown M.machine.starts c.as_slice.result.now c.args.start g c.as_slice.ensures c.requires.start c.index-as_slice-start.is in
    faults_decided M c.args.start g r c.args.pattern.now c.nodes.result.now c.in_ok-b.b there c.nodes.ensures c.in_ok-b.ensures at
