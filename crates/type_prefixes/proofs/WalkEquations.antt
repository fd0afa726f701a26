-- The walk over each form, in terms of the parts that code reads.
use Rattle.std.proofs.Common.{◌≡◌, ℕ, ◌+◌, Bool, List, [], ◌∷◌, refl, ap, ◌∙◌}
use denote.Hole.Carrier.{hidden}
use Rattle.term_core.specs.declared.value.Value.{Value}
use Rattle.murphi_ast.specs.declared.token.Span.{Span}
use Rattle.murphi_ast.specs.declared.expr.CompareOp.{CompareOp}
use Rattle.murphi_typed.specs.declared.types.Simple.{Simple}
use Rattle.murphi_typed.specs.declared.expr.Root.{Root}
use Rattle.murphi_typed.specs.declared.expr.Link.{Link}
use Rattle.murphi_typed.specs.declared.expr.Selector as select
use Rattle.murphi_typed.specs.declared.expr.Selector.{Selector}
use Rattle.murphi_typed.specs.declared.expr.Argument as argument
use Rattle.murphi_typed.specs.declared.expr.Argument.{Argument}
use Rattle.murphi_typed.specs.declared.expr.Arguments as a
use Rattle.murphi_typed.specs.declared.expr.Arguments.{Arguments, Row_of-Argument, end_of-Argument, more_of-Argument, items-the_row-Argument, items_hidden-the_row-Argument-0}
use Rattle.murphi_typed.specs.declared.expr.Designator as d
use Rattle.murphi_typed.specs.declared.expr.Designator.{Designator, Row_of-Selector, end_of-Selector, more_of-Selector, items-the_row-Selector, items_hidden-the_row-Selector-1}
use Rattle.murphi_typed.specs.declared.expr.Expr as x
use Rattle.murphi_typed.specs.declared.expr.Expr.{Expr, Row_of-Link, end_of-Link, more_of-Link, items-the_row-Link, items_hidden-the_row-Link-3, the_lemmas}
use Rattle.murphi_typed.specs.declared.expr.Argument.TheBlock.{shape-the_row-Expr-2, hidden-the_row-Expr-2, hidden-the_row-Link-3, hidden-the_row-Selector-1, hidden-the_row-Argument-0}
use Rattle.murphi_typed.specs.Prefix.{level}
use Rattle.type_prefixes.specs.declared.depth.Depth.{Depth}
use Rattle.type_prefixes.specs.Summaries.{first_place, later_places, called, touched, root_walked}
use Rattle.type_prefixes.specs.Walks.{walked, links_walked, place_walked, indices_walked, args_walked, row_walked, arg_walked}
use Rattle.type_prefixes.specs.WalkLists.{list_links, list_indices, selector_walked, list_args}

links-are : {m : _} (cs : List Depth) (row : Row_of-Link m) (n : ℕ) (S : Depth) → links_walked cs row n S ≡ list_links cs (items-the_row-Link m row) n S
unfolding walked
links-are cs end_of-Link n S = refl
links-are cs (more_of-Link op operand rest) n S = links-are cs rest n (walked cs operand n S)

indices-are : {m : _} (cs : List Depth) (row : Row_of-Selector m) (n : ℕ) (S : Depth) → indices_walked cs row n S ≡ list_indices cs (items-the_row-Selector m row) n S
unfolding walked
indices-are cs end_of-Selector n S = refl
indices-are cs (more_of-Selector (select.Field name) rest) n S = indices-are cs rest n S
indices-are cs (more_of-Selector (select.Index over index) rest) n S = indices-are cs rest n (walked cs index n S)

args-are : {m : _} (cs : List Depth) (places : List ℕ) (row : Row_of-Argument m) (n : ℕ) (S : Depth) → row_walked cs places row n S ≡ list_args cs places (items-the_row-Argument m row) n S
unfolding walked
args-are cs places end_of-Argument n S = refl
args-are cs places (more_of-Argument first rest) n S = args-are cs (later_places places) rest n (arg_walked cs first (n + first_place places) S)

pub walk-Known : (cs : List Depth) (v : Value) (n : ℕ) (S : Depth) → walked cs (x.Known v) n S ≡ touched n S
unfolding walked
walk-Known cs v n S = refl

pub walk-Bound : (cs : List Depth) (k : ℕ) (n : ℕ) (S : Depth) → walked cs (x.Bound k) n S ≡ touched n S
unfolding walked
walk-Bound cs k n S = refl

pub walk-Read : (cs : List Depth) (place : Designator) (n : ℕ) (S : Depth) → walked cs (x.Read place) n S ≡ place_walked cs place n S
unfolding walked
walk-Read cs place n S = refl

pub walk-IsUndefined : (cs : List Depth) (place : Designator) (n : ℕ) (S : Depth) → walked cs (x.IsUndefined place) n S ≡ place_walked cs place n S
unfolding walked
walk-IsUndefined cs place n S = refl

pub walk-Call : (cs : List Depth) (k : ℕ) (args : Arguments) (at : Span) (n : ℕ) (S : Depth) → walked cs (x.Call k args at) n S ≡ args_walked cs (called cs k).formals args n (touched (n + (called cs k).own) S)
unfolding walked
walk-Call cs k args at n S = refl

pub walk-Not : (cs : List Depth) (body : Expr) (n : ℕ) (S : Depth) → walked cs (x.Not body) n S ≡ walked cs body n S
unfolding walked shape-the_row-Expr-2 hidden-the_row-Expr-2 hidden
walk-Not cs body n S = refl

pub walk-Minus : (cs : List Depth) (body : Expr) (n : ℕ) (S : Depth) → walked cs (x.Minus body) n S ≡ walked cs body n S
unfolding walked shape-the_row-Expr-2 hidden-the_row-Expr-2 hidden
walk-Minus cs body n S = refl

pub walk-Chain : (cs : List Depth) (first : Expr) (rest : List Link) (n : ℕ) (S : Depth) → walked cs (x.Chain first rest) n S ≡ list_links cs rest n (walked cs first n S)
unfolding walked shape-the_row-Expr-2 hidden-the_row-Expr-2 hidden
walk-Chain cs first rest n S =
    links-are cs (hidden-the_row-Link-3 rest) n (walked cs first n S) ∙ ap (λ ls. list_links cs ls n (walked cs first n S)) (items_hidden-the_row-Link-3 rest)

pub walk-Compare : (cs : List Depth) (op : CompareOp) (left right : Expr) (n : ℕ) (S : Depth) → walked cs (x.Compare op left right) n S ≡ walked cs right n (walked cs left n S)
unfolding walked shape-the_row-Expr-2 hidden-the_row-Expr-2 hidden
walk-Compare cs op left right n S = refl

pub walk-Implies : (cs : List Depth) (left right : Expr) (n : ℕ) (S : Depth) → walked cs (x.Implies left right) n S ≡ walked cs right n (walked cs left n S)
unfolding walked shape-the_row-Expr-2 hidden-the_row-Expr-2 hidden
walk-Implies cs left right n S = refl

pub walk-Choice : (cs : List Depth) (test a b : Expr) (n : ℕ) (S : Depth) → walked cs (x.Choice test a b) n S ≡ walked cs b n (walked cs a n (walked cs test n S))
unfolding walked shape-the_row-Expr-2 hidden-the_row-Expr-2 hidden
walk-Choice cs test a b n S = refl

pub walk-Quantified : (cs : List Depth) (all : Bool) (over : Simple) (body : Expr) (n : ℕ) (S : Depth) → walked cs (x.Quantified all over body) n S ≡ walked cs body (level over n) S
unfolding walked shape-the_row-Expr-2 hidden-the_row-Expr-2 hidden
walk-Quantified cs all over body n S = refl

pub walk-place : (cs : List Depth) (root : Root) (selectors : List Selector) (at : Span) (n : ℕ) (S : Depth) → place_walked cs (d.Of root selectors at) n S ≡ list_indices cs selectors n (root_walked root n S)
unfolding walked
walk-place cs root selectors at n S =
    indices-are cs (hidden-the_row-Selector-1 selectors) n (root_walked root n S) ∙ ap (λ ss. list_indices cs ss n (root_walked root n S)) (items_hidden-the_row-Selector-1 selectors)

pub walk-args : (cs : List Depth) (places : List ℕ) (args : List Argument) (n : ℕ) (S : Depth) → args_walked cs places (a.Of args) n S ≡ list_args cs places args n S
unfolding walked
walk-args cs places args n S =
    args-are cs places (hidden-the_row-Argument-0 args) n S ∙ ap (λ as'. list_args cs places as' n S) (items_hidden-the_row-Argument-0 args)

pub walk-arg-Copy : (cs : List Depth) (place : Designator) (n : ℕ) (S : Depth) → arg_walked cs (argument.Copy place) n S ≡ place_walked cs place n S
unfolding walked
walk-arg-Copy cs place n S = refl

pub walk-arg-CopyAll : (cs : List Depth) (place : Designator) (n : ℕ) (S : Depth) → arg_walked cs (argument.CopyAll place) n S ≡ place_walked cs place n S
unfolding walked
walk-arg-CopyAll cs place n S = refl

pub walk-arg-Value : (cs : List Depth) (body : Expr) (n : ℕ) (S : Depth) → arg_walked cs (argument.Value body) n S ≡ walked cs body n S
unfolding walked
walk-arg-Value cs body n S = refl

pub walk-arg-Place : (cs : List Depth) (place : Designator) (n : ℕ) (S : Depth) → arg_walked cs (argument.Place place) n S ≡ place_walked cs place n S
unfolding walked
walk-arg-Place cs place n S = refl

pub ruleset walks = (walk-Known, walk-Bound, walk-Read, walk-IsUndefined, walk-Call, walk-Not, walk-Minus, walk-Chain, walk-Compare, walk-Implies, walk-Choice, walk-Quantified, walk-place, walk-args, walk-arg-Copy, walk-arg-CopyAll, walk-arg-Value, walk-arg-Place, the_lemmas)
