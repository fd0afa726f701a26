-- One more mark.
use Rattle.std.proofs.Common.{◌≡◌, ℕ, ◌+◌, ◌<◌, ◌≤◌, Bool, true, false, List, length, get_or, set, take, sym, ◌∙◌, ap, subst, inl, inr, arith, ◌++◌, replicate}
use Rattle.std.specs.Prelude.{All}
use Rattle.std.proofs.lemmas.Bool.{cases_eq, cases_lt, both_ways}
use Rattle.std.proofs.Math.Seq.{take-append_seam}
use Rattle.std.proofs.lemmas.List.{get_or-set_same, get_or-set_other, take_all, get_or_default, get_or-replicate, get_or_past, length-replicate}
use Rattle.std.proofs.lemmas.List.Elements.{All-more, All-weaker}
use Rattle.circuit_core.specs.declared.edge.Edge.{Edge}
use Rattle.circuit_core.specs.declared.edge.Gate.{Gate}
use Rattle.circuit_core.specs.declared.edge.Gate.TheVariants.{Input, And}
use Rattle.circuit_core.specs.Edges.{node_of}
use Rattle.cnf_emit.specs.Reach.{is_marked, IsMarked, HasMarks, HasRoots, IsWithin, IsClosedFrom, Marks}

pub set_keeps : (marks : List Bool) (n k : ℕ) → n < length marks → is_marked marks k ≡ true → is_marked (set marks n true) k ≡ true
set_keeps marks n k h m = elim (cases_eq n k) [
  | inl e ↦ ap (λ j. get_or (set marks n true) j false) (sym e) ∙ get_or-set_same marks n true false h
  | inr other ↦ get_or-set_other marks n k true false (λ e. other (sym e)) ∙ m
]

pub one_more_root : (marks : List Bool) (roots : List Edge) (i : ℕ) (d : Edge) → i < length roots → node_of (get_or roots i d) < length marks
    → All (IsMarked marks) (take i roots) → All (IsMarked (set marks (node_of (get_or roots i d)) true)) (take (i + 1) roots)
one_more_root marks roots i d h inside had =
    let n : ℕ = node_of (get_or roots i d) in
    All-more (IsMarked (set marks n true)) roots i d h
    (All-weaker (IsMarked marks) (IsMarked (set marks n true)) (λ e m. set_keeps marks n (node_of e) inside m) (take i roots) had)
    (get_or-set_same marks n true false inside)

pub all_roots : (marks : List Bool) (roots : List Edge) (i : ℕ) → length roots ≤ i → All (IsMarked marks) (take i roots) → All (IsMarked marks) roots
all_roots marks roots i h had = subst (All (IsMarked marks)) (take_all i roots h) had

-- the first edges are marked, and nothing that a set with all of them lacks
pub record RootsMarked (old now : List Bool) (roots : List Edge) (i : ℕ) : Type 0 where
  pub marked : All (IsMarked now) (take i roots)
  pub within : (p : ℕ → Bool) → HasRoots p roots → IsWithin old p → IsWithin now p

pub set_within : (marks : List Bool) (n : ℕ) (p : ℕ → Bool) → n < length marks → p n ≡ true → IsWithin marks p → IsWithin (set marks n true) p
set_within marks n p h here within k m = elim (cases_eq n k) [
  | inl e ↦ ap p (sym e) ∙ here
  | inr other ↦ within k (sym (get_or-set_other marks n k true false (λ e. other (sym e))) ∙ m)
]

pub roots_step : (old now : List Bool) (roots : List Edge) (i n : ℕ) (d : Edge) → n ≡ node_of (get_or roots i d) → i < length roots → node_of (get_or roots i d) < length now → RootsMarked old now roots i → RootsMarked old (set now n true) roots (i + 1)
roots_step old now roots i n d node h inside had = record {
  marked = subst (λ k. All (IsMarked (set now k true)) (take (i + 1) roots)) (sym node) (one_more_root now roots i d h inside had.marked);
  within = λ p all was. set_within now n p (omega arith) (ap p node ∙ all i d h) (had.within p all was);
}

-- one more gate's marks, from the last gate down
marks_kept : (old new : List Bool) (n : ℕ) (g : Gate) → Marks old new n → HasMarks old g → HasMarks new g
marks_kept old new n (Input k) more h = tt
marks_kept old new n (And a b) more h = (more.kept (node_of a) h.0, more.kept (node_of b) h.1)

pub closed_step : (gates : List Gate) (old new : List Bool) (i j : ℕ) (e : Gate) → j + 1 ≡ i → j < length gates → IsClosedFrom i gates old → Marks old new j
    → (is_marked old (j + 1) ≡ true → HasMarks new (get_or gates j e)) → IsClosedFrom j gates new
closed_step gates old new i j e next inside closed more has n d low h m = elim (cases_eq n j) [
  | inl same ↦
      let here : is_marked old (j + 1) ≡ true = sym (more.above (j + 1) (omega arith)) ∙ ap (λ k. is_marked new (k + 1)) (sym same) ∙ m in
      subst (HasMarks new) (get_or_default gates j e d inside ∙ ap (λ k. get_or gates k d) (sym same)) (has here)
  | inr other ↦
      let past : i ≤ n = omega arith in
      marks_kept old new j (get_or gates n d) more (closed n d past h (sym (more.above (n + 1) (omega arith)) ∙ m))
]

-- what is written back to a vector
pub written : (len : ℕ) (new rest : List Bool) → length new ≡ len → take len (new ++ rest) ≡ new
written len new rest e = ap (λ k. take k (new ++ rest)) (sym e) ∙ take-append_seam new rest

-- nothing is marked
none_marked : (n k : ℕ) → get_or (replicate n false) k false ≡ false
none_marked n k = elim (cases_lt k n) [
  | inl h ↦ get_or-replicate n k false false h
  | inr past ↦ get_or_past (replicate n false) k false (omega (arith, length-replicate n false))
]

pub clear_within : (marks : List Bool) (n : ℕ) (p : ℕ → Bool) → marks ≡ replicate n false → IsWithin marks p
clear_within marks n p e k m = absurd (both_ways (is_marked marks k) (ap (λ l. get_or l k false) e ∙ none_marked n k) m)

-- the marks that code leaves are within each closed set that has the roots
pub reached_within : (gates : List Gate) (roots : List Edge) (items first rooted second new rest : List Bool) (n len : ℕ) (p : ℕ → Bool) → items ≡ replicate n false → first ≡ items → second ≡ rooted → length new ≡ len
    → (HasRoots p roots → IsWithin first p → IsWithin rooted p) → (IsWithin second p → IsWithin new p)
    → HasRoots p roots → IsWithin (take len (new ++ rest)) p
reached_within gates roots items first rooted second new rest n len p clear one two long by_roots below all =
    subst (λ l. IsWithin l p) (sym (written len new rest long))
    (below (subst (λ l. IsWithin l p) (sym two) (by_roots all (clear_within first n p (one ∙ clear)))))
