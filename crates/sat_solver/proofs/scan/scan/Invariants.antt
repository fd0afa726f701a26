use Rattle.std.proofs.Common.{take}
use Rattle.sat_solver.specs.Assigned.{literals_of}
use Rattle.sat_solver.proofs.ScanLemmas.{Scanned}
use Rattle.sat_solver.proofs.scan.scan.Given as goal

abbrev pub invariant-loop-l : goal.invariant-loop-l
invariant-loop-l l = Scanned (literals_of l.trail.entries) (take l.l-index l.lits) l.free
