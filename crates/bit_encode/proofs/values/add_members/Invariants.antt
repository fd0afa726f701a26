use Rattle.std.proofs.Common.{◌≡◌, ◌-◌, ◌++◌, map}
use Rattle.term_core.specs.Nodes.{nodes_from}
use Rattle.other_abstract.specs.declared.value.AbsValue.TheVariants.{Member}
use Rattle.bit_encode.proofs.values.add_members.Given as goal

abbrev pub invariant-loop-index : goal.invariant-loop-index
invariant-loop-index l =
    l.out.items ++ map (λ index. Member l.kind index) (nodes_from l.index (l.count - l.index))
    ≡ l.fn.out.items ++ map (λ index. Member l.kind index) (nodes_from 0 l.count)
