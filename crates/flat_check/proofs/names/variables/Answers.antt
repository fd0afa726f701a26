use Rattle.std.proofs.Common.{List, ◌+◌, ◌++◌, ◌∙◌, ap, drop, arith}
use Rattle.std.specs.Prelude.{flat_map}
use Rattle.murphi_ast.specs.State.{Name, declared_by}
use Rattle.flat_check.proofs.NameLemmas.{names_next}
use Rattle.flat_check.proofs.names.variables.Goals as goal

pub loop-decl-preserved : goal.loop-decl-preserved
loop-decl-preserved c =
    ap (λ (names : List Name). names ++ flat_map declared_by (drop (c.loop-decl.decl-index + 1) c.as_slice-decl-items.result.now)) c.in_ok-append.ensures
    ∙ names_next c.as_slice-decl-items.result.now c.loop-decl.decl-index c.decl-item.result c.loop-decl.names c.in_ok-more.more (omega arith) c.decl-item.is c.in_ok-more.ensures
    ∙ c.loop-decl.invariant
