-- The pieces of a formula have no more binders than its prefix in the source.
use Rattle.std.proofs.Common.{◌≡◌, ℕ, ◌+◌, ◌≤◌, max, true, false, cond, List, [], ◌∷◌, map, reverse, refl, sym, ap, ◌∙◌, arith}
use Rattle.std.specs.List.{All, flat_map}
use Rattle.std.proofs.lemmas.List.Elements.{All-nil, All-cons, All-head, All-tail, All-append, All-map}
use Rattle.std.proofs.lemmas.List.Sums.{sum_by-cons}
use Rattle.term_core.specs.declared.value.Value.{Value}
use Rattle.term_core.specs.declared.value.Value.TheVariants as v
use Rattle.term_core.specs.declared.machine.Piece.{Piece}
use Rattle.term_core.specs.Nodes.{nodes, nodes_from}
use Rattle.murphi_typed.specs.declared.types.Simple.{Simple}
use Rattle.murphi_typed.specs.declared.types.Simple.TheVariants as simple
use Rattle.murphi_typed.specs.declared.protocol.Parameter.{Parameter}
use Rattle.murphi_typed.specs.Values.{values}
use Rattle.murphi_typed.specs.Families.{choices}
use Rattle.murphi_typed.specs.Prefix.{is_over_nodes, node_parameters, depth_of, up, routine_depths, formula_prefix}
use Rattle.rule_inline.specs.Demands.{Demand, piece_of}
use Rattle.rule_inline.specs.Tables.{Key, holes}
use Rattle.rule_inline.specs.Parts.{Valued, valued_of}
use Rattle.rule_inline.specs.Machine.{fixed, instances, more_binders, pieces_with, pieces_at, top_site, top_terms, calls_of}
use Rattle.rule_inline.specs.Laws.{PiecesWithinPrefix}
use Rattle.rule_inline.proofs.PrefixLemmas.{Within, value_within, calls_within}

-- Lists

pub all_of : {X : Type 0} (P : X → Type 0) (xs : List X) → ((x : X) → P x) → All P xs
all_of P [] f = All-nil P
all_of P (x ∷ xs) f = All-cons P x xs (f x) (all_of P xs f)

pub all_flat : {X A : Type 0} (P : A → Type 0) (Q : X → Type 0) (f : X → List A) → ((x : X) → Q x → All P (f x)) → (xs : List X) → All Q xs → All P (flat_map f xs)
all_flat P Q f each [] q = All-nil P
all_flat P Q f each (x ∷ xs) q = All-append P (f x) (flat_map f xs) (each x (All-head Q x xs q)) (all_flat P Q f each xs (All-tail Q x xs q))

-- Holes

abbrev HoleOf : Simple → Value → Type 0
HoleOf u w = (key : Key) → holes (fixed w ∷ key) ≡ cond (is_over_nodes u) 1 0 + holes key

mapped : {Y : Type 0} (P : Value → Type 0) (f : Y → Value) (ys : List Y) → ((y : Y) → P (f y)) → All P (map f ys)
mapped P f ys each = All-map P f ys (all_of (λ y. P (f y)) ys each)

value_holes : (u : Simple) → All (HoleOf u) (values 1 u)
value_holes simple.Truth = All-cons (HoleOf simple.Truth) (v.Truth false) (v.Truth true ∷ []) (λ key. omega arith) (All-cons (HoleOf simple.Truth) (v.Truth true) [] (λ key. omega arith) (All-nil (HoleOf simple.Truth)))
value_holes (simple.Range low high) = mapped (HoleOf (simple.Range low high)) v.Number _ (λ y key. omega arith)
value_holes (simple.Listed kind count) = mapped (HoleOf (simple.Listed kind count)) (λ index. v.Member kind index) (nodes_from 0 count) (λ y key. omega arith)
value_holes (simple.Scalarset kind count) = mapped (HoleOf (simple.Scalarset kind count)) (λ index. v.Member kind index) (nodes_from 0 count) (λ y key. omega arith)
value_holes simple.Node = mapped (HoleOf simple.Node) v.Node (nodes 1) (λ y key. omega arith)

abbrev counted : List Simple → ℕ
counted [] = 0
counted (u ∷ us) = cond (is_over_nodes u) 1 0 + counted us

abbrev HolesAre : ℕ → List Value → Type 0
HolesAre n vs = holes (map fixed vs) ≡ n

choice_holes : (us : List Simple) → All (HolesAre (counted us)) (choices 1 us)
choice_holes [] = All-cons (HolesAre 0) [] [] refl (All-nil (HolesAre 0))
choice_holes (u ∷ us) =
    all_flat (HolesAre (counted (u ∷ us))) (HoleOf u) (λ w. map (λ vs. w ∷ vs) (choices 1 us))
    (λ w hole. All-map (HolesAre (counted (u ∷ us))) (λ vs. w ∷ vs) (choices 1 us) (λ k d lt. hole _ ∙ ap (λ n. cond (is_over_nodes u) 1 0 + n) (choice_holes us k d lt)))
    (values 1 u) (value_holes u)

counted_parameters : (params : List Parameter) → counted (map (λ (p : Parameter). p.over) params) ≡ node_parameters params
counted_parameters [] = refl
counted_parameters (p ∷ params) = ap (λ n. cond (is_over_nodes p.over) 1 0 + n) (counted_parameters params) ∙ sym (sum_by-cons (λ (q : Parameter). cond (is_over_nodes q.over) 1 0) p params)

-- an instance has as many holes as there are node parameters
pub instance_holes : (params : List Parameter) → All (λ key. holes key ≡ node_parameters params) (instances params)
instance_holes params =
    All-map (λ key. holes key ≡ node_parameters params) (map fixed) (choices 1 (map (λ (p : Parameter). p.over) params))
    (λ k d lt. choice_holes (map (λ (p : Parameter). p.over) params) k d lt ∙ counted_parameters params)

-- Pieces

demands_within : (n : ℕ) (qs : List Demand) → Within n qs → All (λ (q : Demand). q.binders ≤ n) qs
demands_within n [] w = All-nil (λ (q : Demand). q.binders ≤ n)
demands_within n (q ∷ qs) (one, w) = All-cons (λ (p : Demand). p.binders ≤ n) q qs one (demands_within n qs w)

with_within : (count n m : ℕ) (e : Valued) → count + n ≤ m → Within n e.demands → All (λ (q : Piece). q.binders ≤ m) (pieces_with count e)
with_within count n m e h w =
    All-cons (λ (q : Piece). q.binders ≤ m) (more_binders count (record { binders = 0; body = e.term })) (map (more_binders count) (map piece_of e.demands)) (omega (arith, h))
    (All-map (λ (q : Piece). q.binders ≤ m) (more_binders count) (map piece_of e.demands)
    (All-map (λ (q : Piece). count + q.binders ≤ m) piece_of e.demands (λ k d lt. let one = demands_within n e.demands w k d lt in omega (arith, h, one))))

pub pieces_within : PiecesWithinPrefix
pieces_within T f =
    all_flat (λ (q : Piece). q.binders ≤ formula_prefix T.routines f.params f.body) (λ key. holes key ≡ node_parameters f.params) (pieces_at T f)
    (λ key is. with_within (holes key) (depth_of (routine_depths T.routines) [] f.body) (formula_prefix T.routines f.params f.body) (valued_of (calls_of T) (top_site key) (top_terms T key) f.body) (within_prefix (holes key) (node_parameters f.params) (depth_of (routine_depths T.routines) [] f.body) (up f.body) is)
    (value_within (calls_of T) (routine_depths T.routines) (calls_within (reverse T.routines)) [] (top_site key) (top_terms T key) f.body))
    (instances f.params) (instance_holes f.params)
  where
    within_prefix : (a b c d : ℕ) → a ≡ b → a + c ≤ b + max c d
    within_prefix a b c d e = omega (arith, e)
