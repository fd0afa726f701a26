-- Choices, in terms of the parts that code reads.
use Rattle.std.proofs.Common.{◌≡◌, ℕ, List, [], ◌∷◌, ◌++◌, map, Option, None, Some, refl, sym, ap, ◌∙◌, append_assoc, append-nil}
use Rattle.std.specs.Prelude.{ℤ, ◌-ℤ◌}
use Rattle.std.specs.List.{flat_map}
use Rattle.term_core.specs.declared.value.Value.{Value}
use Rattle.term_core.specs.declared.value.Value.TheVariants as value
use Rattle.term_core.specs.Nodes.{nodes_from}
use Rattle.murphi_typed.specs.declared.types.Simple.{Simple}
use Rattle.murphi_typed.specs.declared.types.Simple.TheVariants as simple
use Rattle.murphi_typed.specs.Families.{choices}
use Rattle.murphi_typed.specs.Values.{numbers_from, numbers_within, values}
use Rattle.rule_inline.specs.Tables.{Key}
use Rattle.rule_inline.specs.Parts.{fixed_values}
use Rattle.rule_inline.specs.Machine.{fixed}
use Rattle.rule_families.specs.Choices.{part_on, keys_on, keys_to}
use Rattle.rule_families.proofs.ListLemmas.{mapped_joined, after_after, nothing_after, flat_joined}

-- the values of a type, with holes for nodes

numbers_fixed : (zs : List ℤ) → map Some (map value.Number zs) ≡ map fixed (map value.Number zs)
numbers_fixed [] = refl
numbers_fixed (z ∷ zs) = ap (λ ps. Some (value.Number z) ∷ ps) (numbers_fixed zs)

members_fixed : (kind : ℕ) (ks : List ℕ) → map Some (map (λ k. value.Member kind k) ks) ≡ map fixed (map (λ k. value.Member kind k) ks)
members_fixed kind [] = refl
members_fixed kind (k ∷ ks) = ap (λ ps. Some (value.Member kind k) ∷ ps) (members_fixed kind ks)

pub parts-Node : None ∷ [] ≡ map fixed (values 1 simple.Node)
parts-Node = refl

pub parts-Truth : map Some (fixed_values simple.Truth) ≡ map fixed (values 1 simple.Truth)
parts-Truth = refl

pub parts-Range : (low high : ℤ) → map Some (fixed_values (simple.Range low high)) ≡ map fixed (values 1 (simple.Range low high))
parts-Range low high = numbers_fixed (numbers_from low (numbers_within (high -ℤ low)))

pub parts-Listed : (kind count : ℕ) → map Some (fixed_values (simple.Listed kind count)) ≡ map fixed (values 1 (simple.Listed kind count))
parts-Listed kind count = members_fixed kind (nodes_from 0 count)

pub parts-Scalarset : (kind count : ℕ) → map Some (fixed_values (simple.Scalarset kind count)) ≡ map fixed (values 1 (simple.Scalarset kind count))
parts-Scalarset kind count = members_fixed kind (nodes_from 0 count)

-- all choices

abbrev all_on : List Key → List Key → List Key
all_on ks ends = flat_map (λ k. map (λ e. k ++ e) ends) ks

abbrev each_before : List (Option Value) → List Key → List Key
each_before parts ends = flat_map (λ p. map (λ e. p ∷ e) ends) parts

one_more : (k : Key) (p : Option Value) (ends : List Key) → map (λ e. part_on k p ++ e) ends ≡ map (λ e. k ++ e) (map (λ e. p ∷ e) ends)
one_more k p [] = refl
one_more k p (e ∷ ends) = ap (λ x. x ∷ map (λ e. part_on k p ++ e) ends) (append_assoc k (p ∷ []) e) ∙ ap (λ xs. (k ++ p ∷ e) ∷ xs) (one_more k p ends)

parts_more : (k : Key) (parts : List (Option Value)) (ends : List Key) → all_on (map (part_on k) parts) ends ≡ map (λ e. k ++ e) (each_before parts ends)
parts_more k [] ends = refl
parts_more k (p ∷ parts) ends =
    ap (λ xs. xs ++ all_on (map (part_on k) parts) ends) (one_more k p ends)
    ∙ ap (λ xs. map (λ e. k ++ e) (map (λ e. p ∷ e) ends) ++ xs) (parts_more k parts ends)
    ∙ sym (mapped_joined (λ e. k ++ e) (map (λ e. p ∷ e) ends) (each_before parts ends))

all_more : (ks : List Key) (parts : List (Option Value)) (ends : List Key) → all_on (keys_on ks parts) ends ≡ all_on ks (each_before parts ends)
all_more [] parts ends = refl
all_more (k ∷ ks) parts ends =
    flat_joined (λ k. map (λ e. k ++ e) ends) (map (part_on k) parts) (keys_on ks parts)
    ∙ ap (λ xs. xs ++ all_on (keys_on ks parts) ends) (parts_more k parts ends)
    ∙ ap (λ xs. map (λ e. k ++ e) (each_before parts ends) ++ xs) (all_more ks parts ends)

one_fixed : (v : Value) (cs : List (List Value)) → map (map fixed) (map (λ c. v ∷ c) cs) ≡ map (λ e. fixed v ∷ e) (map (map fixed) cs)
one_fixed v [] = refl
one_fixed v (c ∷ cs) = ap (λ xs. (fixed v ∷ map fixed c) ∷ xs) (one_fixed v cs)

each_fixed : (vs : List Value) (cs : List (List Value)) → map (map fixed) (flat_map (λ v. map (λ c. v ∷ c) cs) vs) ≡ each_before (map fixed vs) (map (map fixed) cs)
each_fixed [] cs = refl
each_fixed (v ∷ vs) cs =
    mapped_joined (map fixed) (map (λ c. v ∷ c) cs) (flat_map (λ v. map (λ c. v ∷ c) cs) vs)
    ∙ ap (λ xs. xs ++ map (map fixed) (flat_map (λ v. map (λ c. v ∷ c) cs) vs)) (one_fixed v cs)
    ∙ ap (λ xs. map (λ e. fixed v ∷ e) (map (map fixed) cs) ++ xs) (each_fixed vs cs)

all_none : (ks : List Key) → ks ≡ all_on ks ([] ∷ [])
all_none [] = refl
all_none (k ∷ ks) = ap (λ x. x ∷ ks) (sym (append-nil k)) ∙ ap (λ xs. (k ++ []) ∷ xs) (all_none ks)

keys_are : (ks : List Key) (types : List Simple) → keys_to ks types ≡ all_on ks (map (map fixed) (choices 1 types))
keys_are ks [] = all_none ks
keys_are ks (type ∷ types) =
    keys_are (keys_on ks (map fixed (values 1 type))) types
    ∙ all_more ks (map fixed (values 1 type)) (map (map fixed) (choices 1 types))
    ∙ ap (all_on ks) (sym (each_fixed (values 1 type) (choices 1 types)))

unchanged_each : (ends : List Key) → map (λ e. [] ++ e) ends ≡ ends
unchanged_each [] = refl
unchanged_each (e ∷ ends) = ap (λ xs. e ∷ xs) (unchanged_each ends)

pub keys_first : (types : List Simple) → keys_to ([] ∷ []) types ≡ map (map fixed) (choices 1 types)
keys_first types = keys_are ([] ∷ []) types ∙ append-nil (map (λ e. [] ++ e) (map (map fixed) (choices 1 types))) ∙ unchanged_each (map (map fixed) (choices 1 types))

pub ruleset choosing = (mapped_joined, after_after, nothing_after, flat_joined, parts-Node, parts-Truth, parts-Range, parts-Listed, parts-Scalarset, keys_first)
