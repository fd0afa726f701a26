-- Families, in terms of the parts that code reads.
use Rattle.std.proofs.Common.{◌≡◌, ℕ, suc, ◌+◌, List, [], ◌∷◌, ◌++◌, map, refl, sym, ap, ◌∙◌, arith, append_assoc, append-nil}
use Rattle.std.specs.List.{flat_map}
use denote.Hole.Carrier.{hidden}
use Rattle.term_core.specs.declared.value.Value.{Value}
use Rattle.murphi_typed.specs.declared.types.Simple.{Simple}
use Rattle.murphi_typed.specs.declared.types.Field.{Field}
use Rattle.murphi_typed.specs.declared.types.AnyType as t
use Rattle.murphi_typed.specs.declared.types.AnyType.{AnyType, Row_of-Field, end_of-Field, more_of-Field, items-the_row-Field, items_hidden-the_row-Field-0, the_lemmas}
use Rattle.murphi_typed.specs.declared.types.AnyType.TheBlock.{hidden-the_row-Field-0, shape-the_row-AnyType-1, hidden-the_row-AnyType-1}
use Rattle.murphi_typed.specs.declared.protocol.Variable.{Variable}
use Rattle.murphi_typed.specs.declared.protocol.Typed.{Typed}
use Rattle.murphi_typed.specs.Families.{Step, Into, Over, Way, one_more, ways, row_ways, axes_of, choices, cells_on, cells_from}
use Rattle.rule_inline.specs.Machine.{fixed, family_of, families_of}
use Rattle.rule_families.specs.Under.{keyed, families_on, on_ways, families_under, fields_under, families_from}
use Rattle.rule_families.proofs.ListLemmas.{mapped_joined, after_after, nothing_after, flat_joined}

-- down a type

stepped : (global : ℕ) (steps : List Step) (step : Step) (ws : List Way) → on_ways global steps (map (one_more step) ws) ≡ on_ways global (steps ++ step ∷ []) ws
stepped global steps step [] = refl
stepped global steps step (w ∷ ws) =
    ap (λ ss. families_on global ss w.leaf ++ on_ways global steps (map (one_more step) ws)) (sym (append_assoc steps (step ∷ []) w.steps))
    ∙ ap (λ xs. families_on global ((steps ++ step ∷ []) ++ w.steps) w.leaf ++ xs) (stepped global steps step ws)

under_row : {n : _} (global : ℕ) (steps : List Step) (row : Row_of-Field n) → on_ways global steps (row_ways row) ≡ fields_under global steps (items-the_row-Field n row)
unfolding ways
under_row global steps end_of-Field = refl
under_row global steps (more_of-Field name type rest) =
    flat_joined (λ (w : Way). families_on global (steps ++ w.steps) w.leaf) (map (one_more (Into name)) (ways type)) (row_ways rest)
    ∙ ap (λ xs. xs ++ on_ways global steps (row_ways rest)) (stepped global steps (Into name) (ways type))
    ∙ ap (λ xs. on_ways global (steps ++ Into name ∷ []) (ways type) ++ xs) (under_row global steps rest)

pub under-Simple : (global : ℕ) (steps : List Step) (leaf : Simple) → families_under global steps (t.Simple leaf) ≡ families_on global steps leaf
unfolding ways
under-Simple global steps leaf = append-nil (families_on global (steps ++ []) leaf) ∙ ap (λ ss. families_on global ss leaf) (append-nil steps)

pub under-Record : (global : ℕ) (steps : List Step) (fields : List Field) → families_under global steps (t.Record fields) ≡ fields_under global steps fields
unfolding ways
under-Record global steps fields = under_row global steps (hidden-the_row-Field-0 fields) ∙ ap (fields_under global steps) (items_hidden-the_row-Field-0 fields)

pub under-Array : (global : ℕ) (steps : List Step) (index : Simple) (item : AnyType) → families_under global steps (t.Array index item) ≡ families_under global (steps ++ Over index ∷ []) item
unfolding ways shape-the_row-AnyType-1 hidden-the_row-AnyType-1 hidden
under-Array global steps index item = stepped global steps (Over index) (ways item)

-- all globals

one_way : (global : ℕ) (w : Way) (cs : List (List Value)) → map family_of (map (λ at. record { global = global; way = w; at = at }) cs) ≡ map (keyed global w.steps w.leaf) (map (map fixed) cs)
one_way global w [] = refl
one_way global w (c ∷ cs) = ap (λ xs. keyed global w.steps w.leaf (map fixed c) ∷ xs) (one_way global w cs)

all_ways : (global : ℕ) (ws : List Way) → map family_of (flat_map (cells_on 1 global) ws) ≡ on_ways global [] ws
all_ways global [] = refl
all_ways global (w ∷ ws) =
    mapped_joined family_of (cells_on 1 global w) (flat_map (cells_on 1 global) ws)
    ∙ ap (λ xs. xs ++ map family_of (flat_map (cells_on 1 global) ws)) (one_way global w (choices 1 (axes_of w.steps)))
    ∙ ap (λ xs. families_on global w.steps w.leaf ++ xs) (all_ways global ws)

from_is : (global : ℕ) (vs : List Variable) → families_from global vs ≡ map family_of (cells_from 1 global vs)
from_is global [] = refl
from_is global (v ∷ vs) =
    let next : global + 1 ≡ suc global = omega arith in
    ap (λ k. families_under global [] v.of ++ families_from k vs) next
    ∙ ap (λ xs. families_under global [] v.of ++ xs) (from_is (suc global) vs)
    ∙ ap (λ xs. xs ++ map family_of (cells_from 1 (suc global) vs)) (sym (all_ways global (ways v.of)))
    ∙ sym (mapped_joined family_of (flat_map (cells_on 1 global) (ways v.of)) (cells_from 1 (suc global) vs))

pub all_families : (typed : Typed) → families_from 0 typed.globals ≡ families_of typed
all_families typed = from_is 0 typed.globals

pub ruleset walking = (mapped_joined, after_after, nothing_after, under-Simple, under-Record, under-Array, all_families, the_lemmas)
