use Rattle.type_routines.proofs.TextLemmas.{text-done}
use Rattle.type_routines.proofs.texts.declarations.Goals as goal

pub returns : goal.returns
returns c =
    text-done c.args.node c.args.tree.now c.as_slice-all.result.now c.in_ok-routines.routines c.begun-start.result c.in_ok-done.done
    c.as_slice-all.ensures c.in_ok-routines.ensures c.begun-start.ensures c.in_ok-done.ensures
