use Rattle.std.proofs.Common.{◌≡◌, ◌-◌, Bool, ◌||◌, map}
use Rattle.std.specs.List.{list_any}
use Rattle.term_core.specs.Nodes.{nodes_from}
use Rattle.other_abstract.specs.declared.value.AbsValue.{AbsValue}
use Rattle.other_abstract.specs.declared.value.AbsValue.TheVariants.{Member}
use Rattle.other_abstract.proofs.read.add_members.Given as goal

abbrev pub invariant-loop-index : goal.invariant-loop-index
invariant-loop-index l =
    (p : AbsValue → Bool)
    → (list_any p l.out || list_any p (map (λ index. Member l.kind index) (nodes_from l.index (l.count - l.index))))
    ≡ (list_any p l.fn.out || list_any p (map (λ index. Member l.kind index) (nodes_from 0 l.count)))
