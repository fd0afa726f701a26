-- The entry of a body, in terms of the parts that code reads.
use Rattle.std.proofs.Common.{◌≡◌, ℕ, zero, suc, ◌+◌, ◌<◌, ◌≤◌, Bool, List, [], ◌∷◌, ◌++◌, map, drop, length, Option, None, Some, refl, sym, ap, ◌∙◌, arith, append_assoc, append-nil}
use Rattle.std.specs.Prelude.{slice_get, option_map}
use denote.Hole.Carrier.{hidden}
use Rattle.std.specs.declared.rc.Rc.{Rc}
use Rattle.std.specs.declared.alloc.Global.{Global}
use Rattle.murphi_typed.specs.declared.types.Simple.{Simple}
use Rattle.murphi_typed.specs.declared.types.Field.{Field}
use Rattle.murphi_typed.specs.declared.types.AnyType as ty
use Rattle.murphi_typed.specs.declared.types.AnyType.{AnyType}
use Rattle.murphi_typed.specs.declared.types.AnyType.TheBlock.{hidden-the_row-Field-0, shape-the_row-AnyType-1, hidden-the_row-AnyType-1}
use Rattle.murphi_typed.specs.declared.protocol.Formal.{Formal as DeclaredFormal}
use Rattle.murphi_typed.specs.Execution.{simple_type}
use Rattle.rule_inline.specs.Demands.{Demand}
use Rattle.rule_inline.specs.Tables.{unchanged}
use Rattle.rule_inline.specs.Parts.{Given}
use Rattle.rule_inline.specs.Bodies.{entered, formal_fits, formals_fit}
use Rattle.rule_inline.specs.Machine.{CellsOf}
use Rattle.rule_terms.specs.declared.demand.Demands as d
use Rattle.rule_terms.specs.Gathered.{seen_demands}
use Rattle.rule_parts.specs.declared.place.Spot.{Spot as HeldSpot}
use Rattle.rule_parts.specs.declared.layer.Layer as l
use Rattle.rule_parts.specs.declared.layer.Layer.{Layer}
use Rattle.rule_parts.specs.declared.layer.Shown as s
use Rattle.rule_parts.specs.declared.layer.Given as g
use Rattle.rule_parts.specs.declared.layer.Layer.{Row_of-Given, end_of-Given, more_of-Given, items-the_row-Given, items_hidden-the_row-Given-0}
use Rattle.rule_parts.specs.declared.layer.Given.TheBlock.{hidden-the_row-Given-0}
use Rattle.rule_parts.specs.Seen.{seen_spot}
use Rattle.rule_parts.specs.Layers.{over, givens, seen_layer, seen_shown, seen_given, row_given}
use Rattle.rule_forms.specs.Words.{filled_in, standing_in}
use Rattle.rule_pieces.proofs.ListLemmas.{mapped_joined, after_after, nothing_after, drop_at, drop_end}

pub seen-Nothing : seen_demands d.Nothing ≡ []
unfolding seen_demands
seen-Nothing = refl

row_given_is : {n : _} (fs : List CellsOf) (row : Row_of-Given n) → row_given row fs ≡ givens fs (items-the_row-Given n row)
unfolding seen_layer
row_given_is fs end_of-Given = refl
row_given_is fs (more_of-Given first rest) = ap (λ gs. seen_given first fs ∷ gs) (row_given_is fs rest)

pub layer-Entered : (depth : ℕ) (given : List g.Given) (before : Rc Layer Global) (fs : List CellsOf) → seen_layer (l.Entered depth given before) fs ≡ unchanged (entered depth (givens fs given) (seen_layer before.value fs).now)
unfolding seen_layer
layer-Entered depth given before fs = ap (λ gs. unchanged (entered depth gs (seen_layer before.value fs).now)) (row_given_is fs (hidden-the_row-Given-0 given) ∙ ap (givens fs) (items_hidden-the_row-Given-0 given))

pub given-Filled : (mark : Option ℕ) (plain : Bool) (shown : Rc s.Shown Global) → seen_given (g.Filled mark plain shown) ≡ filled_in mark plain (seen_shown shown.value)
unfolding seen_given
given-Filled mark plain shown = refl

pub given-Standing : (spot : HeldSpot) → seen_given (g.Standing spot) ≡ standing_in (seen_spot spot)
unfolding seen_given
given-Standing spot = refl

pub type-Record : (fields : List Field) → simple_type (ty.Record fields) ≡ None
unfolding hidden-the_row-Field-0 hidden
type-Record fields = refl

pub type-Array : (index : Simple) (item : AnyType) → simple_type (ty.Array index item) ≡ None
unfolding shape-the_row-AnyType-1 hidden-the_row-AnyType-1 hidden
type-Array index item = refl

pub fits_at : (fs : List CellsOf) (formals : List DeclaredFormal) (given : List g.Given) (i : ℕ) (f : DeclaredFormal) (x : g.Given) → slice_get formals i ≡ Some f → slice_get given i ≡ Some x → formals_fit (drop i formals) (givens fs (drop i given)) ≡ formal_fits (simple_type f.of) (seen_given x fs) ++ formals_fit (drop (i + 1) formals) (givens fs (drop (i + 1) given))
fits_at fs formals given i f x e h = ap (λ ys. formals_fit ys (givens fs (drop i given))) (drop_at formals i f e) ∙ ap (λ ys. formals_fit (f ∷ drop (i + 1) formals) (givens fs ys)) (drop_at given i x h)

no_given : (formals : List DeclaredFormal) → formals_fit formals [] ≡ []
no_given [] = refl
no_given (f ∷ formals) = refl

pub fits_out : (fs : List CellsOf) (formals : List DeclaredFormal) (given : List g.Given) (i : ℕ) → length given ≤ i → formals_fit (drop i formals) (givens fs (drop i given)) ≡ []
fits_out fs formals given i e = ap (λ ys. formals_fit (drop i formals) (givens fs ys)) (drop_end given i e) ∙ no_given (drop i formals)

pub fits_end : (fs : List CellsOf) (formals : List DeclaredFormal) (given : List g.Given) (i : ℕ) → length formals ≤ i → formals_fit (drop i formals) (givens fs (drop i given)) ≡ []
fits_end fs formals given i e = ap (λ ys. formals_fit ys (givens fs (drop i given))) (drop_end formals i e)

pub ruleset entering = (mapped_joined, after_after, nothing_after, seen-Nothing, layer-Entered, given-Filled, given-Standing, type-Record, type-Array, fits_at, fits_out, fits_end)
