-- Sites and designators, in terms of the parts that code reads.
use Rattle.std.proofs.Common.{◌≡◌, ℕ, zero, suc, Bool, List, [], ◌∷◌, ◌++◌, map, Option, None, Some, refl, sym, ap, ◌∙◌}
use Rattle.std.specs.Prelude.{slice_get, option_map}
use denote.Hole.Carrier.{hidden}
use Rattle.std.specs.declared.rc.Rc.{Rc}
use Rattle.std.specs.declared.alloc.Global.{Global}
use Rattle.murphi_ast.specs.declared.expr.CompareOp.{CompareOp}
use Rattle.murphi_typed.specs.declared.types.Simple.{Simple}
use Rattle.murphi_typed.specs.declared.expr.Link.{Link}
use Rattle.murphi_typed.specs.declared.expr.Expr as x
use Rattle.murphi_typed.specs.declared.expr.Expr.{Expr}
use Rattle.murphi_typed.specs.declared.expr.Designator as d
use Rattle.murphi_typed.specs.declared.expr.Designator.{Designator, Row_of-Selector, end_of-Selector, more_of-Selector, items-the_row-Selector}
use Rattle.murphi_typed.specs.declared.expr.Selector as select
use Rattle.murphi_typed.specs.declared.expr.Argument.TheBlock.{hidden-the_row-Expr-2, shape-the_row-Expr-2}
use Rattle.murphi_typed.specs.WellTyped.{root_of}
use Rattle.murphi_typed.specs.Expressions.{row_path}
use Rattle.term_core.specs.declared.term.Term.{Term}
use Rattle.rule_inline.specs.Parts.{Given, lifted_given, Site, mark_if_whole, root_mark, place_mark, mark_of}
use Rattle.rule_inline.specs.Machine.{CellsOf}
use Rattle.rule_parts.specs.declared.layer.Shown as s
use Rattle.rule_parts.specs.declared.layer.Given as g
use Rattle.rule_parts.specs.declared.place.Spot.{Spot as HeldSpot}
use Rattle.rule_parts.specs.Seen.{seen_spot}
use Rattle.rule_parts.specs.Layers.{over, givens, seen_shown, seen_given}
use Rattle.rule_inline.specs.Parts.{Filled, Standing}
use Rattle.rule_forms.specs.Words.{lifted_in, list_path, selectors_of, lone, filled_in, standing_in}
use Rattle.rule_forms.proofs.ListLemmas.{mapped_joined, after_after, nothing_after}

pub got_mapped : {A B : Type 0} (f : A → B) (xs : List A) (k : ℕ) → slice_get (map f xs) k ≡ option_map f (slice_get xs k)
got_mapped f [] k = refl
got_mapped f (x ∷ xs) zero = refl
got_mapped f (x ∷ xs) (suc k) = got_mapped f xs k

pub given-Filled : (mark : Option ℕ) (plain : Bool) (shown : Rc s.Shown Global) → seen_given (g.Filled mark plain shown) ≡ filled_in mark plain (seen_shown shown.value)
unfolding seen_given
given-Filled mark plain shown = refl

pub given-Standing : (spot : HeldSpot) → seen_given (g.Standing spot) ≡ standing_in (seen_spot spot)
unfolding seen_given
given-Standing spot = refl

pub lifted_over : (frame : ℕ) (fs : List CellsOf) (gs : List (List CellsOf → Given)) → map (over fs) (map (lifted_in frame) gs) ≡ map (lifted_given frame) (map (over fs) gs)
lifted_over frame fs [] = refl
lifted_over frame fs (g ∷ gs) = ap (λ ys. lifted_given frame (g fs) ∷ ys) (lifted_over frame fs gs)

whole_row : {n : _} (row : Row_of-Selector n) (m : Option ℕ) → mark_if_whole m row ≡ lone (slice_get (items-the_row-Selector n row) 0) m
whole_row end_of-Selector m = refl
whole_row (more_of-Selector selector rest) m = refl

pub mark-Of : (site : Site) (place : Designator) → place_mark site place ≡ lone (slice_get (selectors_of place) 0) (root_mark site (root_of place))
mark-Of site (d.Of' r _ row at) = whole_row row (root_mark site r)

path_row : {n : _} (row : Row_of-Selector n) → row_path row ≡ list_path (items-the_row-Selector n row)
path_row end_of-Selector = refl
path_row (more_of-Selector (select.Field name) rest) = ap (λ p. name ∷ p) (path_row rest)
path_row (more_of-Selector (select.Index over index) rest) = path_row rest

pub mark-Not : (site : Site) (b : Expr) → mark_of site (x.Not b) ≡ None
unfolding shape-the_row-Expr-2 hidden-the_row-Expr-2 hidden
mark-Not site b = refl

pub mark-Minus : (site : Site) (b : Expr) → mark_of site (x.Minus b) ≡ None
unfolding shape-the_row-Expr-2 hidden-the_row-Expr-2 hidden
mark-Minus site b = refl

pub mark-Chain : (site : Site) (first : Expr) (rest : List Link) → mark_of site (x.Chain first rest) ≡ None
unfolding shape-the_row-Expr-2 hidden-the_row-Expr-2 hidden
mark-Chain site first rest = refl

pub mark-Compare : (site : Site) (op : CompareOp) (l r : Expr) → mark_of site (x.Compare op l r) ≡ None
unfolding shape-the_row-Expr-2 hidden-the_row-Expr-2 hidden
mark-Compare site op l r = refl

pub mark-Implies : (site : Site) (l r : Expr) → mark_of site (x.Implies l r) ≡ None
unfolding shape-the_row-Expr-2 hidden-the_row-Expr-2 hidden
mark-Implies site l r = refl

pub mark-Choice : (site : Site) (t l r : Expr) → mark_of site (x.Choice t l r) ≡ None
unfolding shape-the_row-Expr-2 hidden-the_row-Expr-2 hidden
mark-Choice site t l r = refl

pub mark-Quantified : (site : Site) (all : Bool) (over : Simple) (b : Expr) → mark_of site (x.Quantified all over b) ≡ None
unfolding shape-the_row-Expr-2 hidden-the_row-Expr-2 hidden
mark-Quantified site all over b = refl

pub ruleset sites = (mapped_joined, after_after, nothing_after, got_mapped, given-Filled, given-Standing, lifted_over, mark-Of, mark-Not, mark-Minus, mark-Chain, mark-Compare, mark-Implies, mark-Choice, mark-Quantified)
