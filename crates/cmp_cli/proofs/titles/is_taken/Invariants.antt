use Rattle.std.proofs.Common.{◌≡◌, drop, filter}
use Rattle.std.specs.List.{list_any}
use Rattle.murphi_ast.specs.Title.{is_of, has_string}
use Rattle.cmp_cli.specs.Titles.{kind_of}
use Rattle.cmp_cli.proofs.titles.is_taken.Given as goal

-- no item so far has the string
abbrev pub invariant-loop-item : goal.invariant-loop-item
invariant-loop-item l =
    list_any (has_string l.string) (filter (is_of (kind_of l.kind)) (drop l.item-index l.items))
    ≡ list_any (has_string l.fn.string) (filter (is_of (kind_of l.fn.kind)) l.fn.items)
