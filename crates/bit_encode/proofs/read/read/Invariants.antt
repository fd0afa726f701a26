use Rattle.std.proofs.Common.{◌&&◌, take, []}
use Rattle.other_abstract.specs.Lists.{window_in}
use Rattle.bit_encode.specs.declared.leads.PossibleLead.{PossibleLead}
use Rattle.bit_encode.specs.Leads.{read_held}
use Rattle.bit_encode.proofs.Gaining.{Gains}
use Rattle.bit_encode.proofs.read.read.Given as goal

abbrev pub invariant-loop-one : goal.invariant-loop-one
invariant-loop-one l = Gains l.fn.circuit l.circuit [] l.out (λ val p (o : PossibleLead). read_held val l.scene.cells.now (window_in l.scene.window) l.family p o.lead && val o.edge) (take l.one-index l.leads)
