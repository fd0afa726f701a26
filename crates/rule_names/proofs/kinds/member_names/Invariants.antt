use Rattle.std.proofs.Common.{◌≡◌, ◌-◌, ◌++◌, map, Some}
use Rattle.term_core.specs.Nodes.{nodes_from}
use Rattle.murphi_typed.specs.Names.{member_text}
use Rattle.rule_inline.specs.Machine.{member_count}
use Rattle.rule_names.proofs.kinds.member_names.Given as goal

abbrev pub invariant-loop-index : goal.invariant-loop-index
invariant-loop-index l =
    l.names ++ map (member_text (Some l.kind)) (nodes_from l.index (member_count l.kind - l.index))
    ≡ map (member_text (Some l.kind)) (nodes_from 0 (member_count l.kind))
