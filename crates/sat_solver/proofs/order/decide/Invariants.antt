use Rattle.std.specs.BinaryHeap.{heap_len}
use Rattle.sat_solver.proofs.order.decide.Given as goal

abbrev pub decreases-loop-variable : goal.decreases-loop-variable
decreases-loop-variable l = heap_len l.order.heap
