-- The kinds of items, as the code names them.
use Rattle.murphi_ast.specs.Title.{RuleKind, StartKind, InvariantKind}
use Rattle.murphi_ast.specs.Title as title
use Rattle.cmp_cli.specs.declared.titles.Kind.{Kind}
use Rattle.cmp_cli.specs.declared.titles.Kind.TheVariants as kind

-- the kind that is meant
abbrev pub kind_of : Kind → title.Kind
kind_of kind.Rule = RuleKind
kind_of kind.Start = StartKind
kind_of kind.Invariant = InvariantKind
