-- A state and the cells that it is made of have the same values.
use Rattle.std.proofs.Common.{◌≡◌, ℕ, zero, suc, Bool, true, false, ◌&&◌, List, [], ◌∷◌, map, Some, refl, sym, ap, ◌∙◌}
use Rattle.std.specs.Prelude.{nat_eq, if◌then◌else◌, slice_get, pos, negsuc}
use Rattle.std.specs.Str.{bytes_eq}
use Rattle.std.proofs.lemmas.Bool.{and_parts, eq-eqb}
use Rattle.term_core.specs.declared.value.Value.{Value}
use Rattle.term_core.specs.declared.value.Value.TheVariants.{Undefined, Truth, Number, Member, Node}
use Rattle.term_core.specs.Values.{same_value}
use Rattle.murphi_typed.specs.declared.protocol.Typed.{Typed}
use Rattle.murphi_typed.specs.Families.{Cell, cells, path_of}
use Rattle.murphi_typed.specs.Store.{Global, same_owner, Cells}
use Rattle.murphi_typed.specs.Steps.{same_list, is_cell, listed, cells_of, value_in, state_of}
use Rattle.murphi_typed.proofs.TestLemmas.{owners_true, names_true, values_true, lists_true}
use Rattle.murphi_typed.proofs.LeafLemmas.{some_same, not_some}

same_self : (v : Value) → same_value v v ≡ true
same_self Undefined = refl
same_self (Truth true) = refl
same_self (Truth false) = refl
same_self (Number (pos n)) = eq-eqb n n refl
same_self (Number (negsuc n)) = eq-eqb n n refl
same_self (Member k n) = ap (λ b. b && nat_eq n n) (eq-eqb k k refl) ∙ eq-eqb n n refl
same_self (Node n) = eq-eqb n n refl

name_self : (xs : List ℕ) → bytes_eq xs xs ≡ true
name_self [] = refl
name_self (x ∷ xs) = ap (λ b. b && bytes_eq xs xs) (eq-eqb x x refl) ∙ name_self xs

list_self : {A : Type 0} (same : A → A → Bool) → ((x : A) → same x x ≡ true) → (xs : List A) → same_list same xs xs ≡ true
list_self same self [] = refl
list_self same self (x ∷ xs) = ap (λ b. b && same_list same xs xs) (self x) ∙ list_self same self xs

cell_self : (c : Cell) → is_cell c (Global c.global) (path_of c.way.steps) c.at ≡ true
cell_self c =
    ap (λ b. b && (same_list bytes_eq (path_of c.way.steps) (path_of c.way.steps) && same_list same_value c.at c.at)) (eq-eqb c.global c.global refl)
    ∙ ap (λ b. b && same_list same_value c.at c.at) (list_self bytes_eq name_self (path_of c.way.steps))
    ∙ list_self same_value same_self c.at

listed_value : (cs : List Cell) (now : Cells) (k : ℕ) (c : Cell) → slice_get cs k ≡ Some c → listed cs (map (value_in now) cs) (Global c.global) (path_of c.way.steps) c.at ≡ value_in now c
listed_value [] now k c there = absurd (not_some there)
listed_value (d ∷ cs) now k c there = go (is_cell d (Global c.global) (path_of c.way.steps) c.at) refl k there (λ k there. listed_value cs now k c there)
  where
    go : (b : Bool) → is_cell d (Global c.global) (path_of c.way.steps) c.at ≡ b → (k : ℕ) → slice_get (d ∷ cs) k ≡ Some c → ((k : ℕ) → slice_get cs k ≡ Some c → listed cs (map (value_in now) cs) (Global c.global) (path_of c.way.steps) c.at ≡ value_in now c) → (if b then value_in now d else listed cs (map (value_in now) cs) (Global c.global) (path_of c.way.steps) c.at) ≡ value_in now c
    go true was k there more =
        let (o, rest) = and_parts (same_owner (Global d.global) (Global c.global)) (same_list bytes_eq (path_of d.way.steps) (path_of c.way.steps) && same_list same_value d.at c.at) was in
        let (p, a) = and_parts (same_list bytes_eq (path_of d.way.steps) (path_of c.way.steps)) (same_list same_value d.at c.at) rest in
        ap (λ owner. now owner (path_of d.way.steps) d.at) (owners_true (Global d.global) (Global c.global) o)
        ∙ ap (λ path. now (Global c.global) path d.at) (lists_true bytes_eq names_true (path_of d.way.steps) (path_of c.way.steps) p)
        ∙ ap (now (Global c.global) (path_of c.way.steps)) (lists_true same_value values_true d.at c.at a)
    go false was zero there more =
        let same : is_cell d (Global d.global) (path_of d.way.steps) d.at ≡ false = ap (λ e. is_cell d (Global e.global) (path_of e.way.steps) e.at) (some_same there) ∙ was in
        let wrong : true ≡ false = sym (cell_self d) ∙ same in
        cc
    go false was (suc k) there more = more k there

-- the cells of the state that cells make up have their values
pub state_has : (N : ℕ) (T : Typed) (now : Cells) (k : ℕ) (c : Cell) → slice_get (cells N T) k ≡ Some c → cells_of N T (state_of N T now) (Global c.global) (path_of c.way.steps) c.at ≡ value_in now c
state_has N T now k c there = listed_value (cells N T) now k c there
