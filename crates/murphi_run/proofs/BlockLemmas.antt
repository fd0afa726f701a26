-- Blocks one behind the other.
use Rattle.std.proofs.Common.{◌≡◌, ℕ, zero, suc, ◌+◌, ◌<◌, ◌≤◌, true, false, ◌⊎◌, inl, inr, List, [], ◌∷◌, ◌++◌, length, replicate, None, Some, refl, sym, ap, ◌∙◌, arith}
use Rattle.std.specs.Prelude.{slice_get}
use Rattle.std.proofs.lemmas.Bool.{eqb-false}
use Rattle.term_core.specs.declared.value.Value.{Value}
use Rattle.term_core.specs.declared.value.Value.TheVariants.{Undefined}
use Rattle.murphi_typed.specs.declared.protocol.Variable.{Variable}
use Rattle.murphi_typed.specs.declared.protocol.Typed.{Typed}
use Rattle.murphi_typed.specs.Families.{Path}
use Rattle.murphi_typed.specs.Store.{Owner, Global, Local, Formal, same_owner, Cells, blank}
use Rattle.murphi_run.specs.Layout.{size, has_cell, offset}
use Rattle.murphi_run.specs.Holding.{Block, number_in, Holds, IsLayout}
use Rattle.murphi_run.specs.Blocks.{sizes, blocks_from, top_layout}
use Rattle.murphi_run.proofs.NumberLemmas.{cell_within}

none_some : {A : Type 0} {a : A} → None ≡ Some a → ⊥
none_some e = cc

some_one : {A : Type 0} {a b : A} → Some a ≡ Some b → a ≡ b
some_one e = cc

-- a block lies among those of its list
pub block_within : (N first : ℕ) (vs : List Variable) (k : ℕ) (b : Block) → slice_get (blocks_from N first vs) k ≡ Some b → (first ≤ b.first) × (b.first + size N b.of ≤ first + sizes N vs)
block_within N first [] k b e = absurd (none_some e)
block_within N first (v ∷ vs) zero b e =
    let start : first ≡ b.first = ap (λ (c : Block). c.first) (some_one e) in
    let many : size N v.of ≡ size N b.of = ap (λ (c : Block). size N c.of) (some_one e) in
    (omega (arith, start), omega (arith, start, many))
block_within N first (v ∷ vs) (suc k) b e =
    let (low, high) = block_within N (first + size N v.of) vs k b e in
    (omega (arith, low), omega (arith, high))

-- the first of a list lies before all that follow
first_apart : (N first : ℕ) (v : Variable) (vs : List Variable) (k : ℕ) (b c : Block) → Some (record { first = first; of = v.of }) ≡ Some b → slice_get (blocks_from N (first + size N v.of) vs) k ≡ Some c → b.first + size N b.of ≤ c.first
first_apart N first v vs k b c e f =
    let start : first ≡ b.first = ap (λ (d : Block). d.first) (some_one e) in
    let many : size N v.of ≡ size N b.of = ap (λ (d : Block). size N d.of) (some_one e) in
    let (low, high) = block_within N (first + size N v.of) vs k c f in
    omega (arith, start, many, low)

pub blocks_apart : (N first : ℕ) (vs : List Variable) (j k : ℕ) (b c : Block) → slice_get (blocks_from N first vs) j ≡ Some b → slice_get (blocks_from N first vs) k ≡ Some c → (j ≡ k → ⊥) → (b.first + size N b.of ≤ c.first) ⊎ (c.first + size N c.of ≤ b.first)
blocks_apart N first [] j k b c e f apart = absurd (none_some e)
blocks_apart N first (v ∷ vs) zero zero b c e f apart = absurd (apart refl)
blocks_apart N first (v ∷ vs) zero (suc k) b c e f apart = inl (first_apart N first v vs k b c e f)
blocks_apart N first (v ∷ vs) (suc j) zero b c e f apart = inr (first_apart N first v vs j c b f e)
blocks_apart N first (v ∷ vs) (suc j) (suc k) b c e f apart = blocks_apart N (first + size N v.of) vs j k b c e f (λ same. apart (ap suc same))

-- globals lie before locals
global_first : (N : ℕ) (vs ls : List Variable) (j k : ℕ) (b c : Block) → slice_get (blocks_from N 0 vs) j ≡ Some b → slice_get (blocks_from N (sizes N vs) ls) k ≡ Some c → b.first + size N b.of ≤ c.first
global_first N vs ls j k b c e f =
    let (blow, bhigh) = block_within N 0 vs j b e in
    let (clow, chigh) = block_within N (sizes N vs) ls k c f in
    omega (arith, bhigh, clow)

top_within : (N : ℕ) (T : Typed) (locals : List Variable) (owner : Owner) (b : Block) → top_layout N T locals owner ≡ Some b → b.first + size N b.of ≤ sizes N T.globals + sizes N locals
top_within N T locals (Global k) b e = let (low, high) = block_within N 0 T.globals k b e in omega (arith, high)
top_within N T locals (Local zero k) b e = let (low, high) = block_within N (sizes N T.globals) locals k b e in high
top_within N T locals (Local (suc depth) k) b e = absurd (none_some e)
top_within N T locals (Formal depth k) b e = absurd (none_some e)

top_apart : (N : ℕ) (T : Typed) (locals : List Variable) (owner other : Owner) (b c : Block) → top_layout N T locals owner ≡ Some b → top_layout N T locals other ≡ Some c → same_owner owner other ≡ false → (b.first + size N b.of ≤ c.first) ⊎ (c.first + size N c.of ≤ b.first)
top_apart N T locals (Global j) (Global k) b c e f apart = blocks_apart N 0 T.globals j k b c e f (eqb-false j k apart)
top_apart N T locals (Global j) (Local zero k) b c e f apart = inl (global_first N T.globals locals j k b c e f)
top_apart N T locals (Local zero j) (Global k) b c e f apart = inr (global_first N T.globals locals k j c b f e)
top_apart N T locals (Local zero j) (Local zero k) b c e f apart = blocks_apart N (sizes N T.globals) locals j k b c e f (eqb-false j k apart)
top_apart N T locals (Local (suc depth) j) other b c e f apart = absurd (none_some e)
top_apart N T locals (Formal depth j) other b c e f apart = absurd (none_some e)
top_apart N T locals (Global j) (Local (suc depth) k) b c e f apart = absurd (none_some f)
top_apart N T locals (Global j) (Formal depth k) b c e f apart = absurd (none_some f)
top_apart N T locals (Local zero j) (Local (suc depth) k) b c e f apart = absurd (none_some f)
top_apart N T locals (Local zero j) (Formal depth k) b c e f apart = absurd (none_some f)

pub top_is_layout : (N : ℕ) (T : Typed) (locals : List Variable) → IsLayout N (top_layout N T locals) (sizes N T.globals + sizes N locals)
top_is_layout N T locals = record { within = top_within N T locals; apart = top_apart N T locals }

pub get_blank : (n k : ℕ) → k < n → slice_get (replicate n Undefined) k ≡ Some Undefined
get_blank zero k e = absurd (omega (arith, e))
get_blank (suc n) zero e = refl
get_blank (suc n) (suc k) e = get_blank n k (omega (arith, e))

below : (a b s n : ℕ) → b < s → a + s ≤ n → a + b < n
below a b s n low high = omega (arith, low, high)

pub blank_holds : (N : ℕ) (T : Typed) (locals : List Variable) → Holds N (top_layout N T locals) (replicate (sizes N T.globals + sizes N locals) Undefined) blank
blank_holds N T locals owner b e path at has =
    get_blank (sizes N T.globals + sizes N locals) (number_in N b path at)
    (below b.first (offset N b.of path at) (size N b.of) (sizes N T.globals + sizes N locals) (cell_within N b.of path at has) (top_within N T locals owner b e))

get_left : {A : Type 0} (xs ys : List A) (k : ℕ) (x : A) → slice_get xs k ≡ Some x → slice_get (xs ++ ys) k ≡ Some x
get_left [] ys k x e = absurd (none_some e)
get_left (y ∷ xs) ys zero x e = e
get_left (y ∷ xs) ys (suc k) x e = get_left xs ys k x e

get_right : {A : Type 0} (xs ys : List A) (j k : ℕ) (x : A) → k ≡ length xs + j → slice_get ys j ≡ Some x → slice_get (xs ++ ys) k ≡ Some x
get_right [] ys j k x e f = let same : k ≡ j = omega (arith, e) in ap (slice_get ys) same ∙ f
get_right (y ∷ xs) ys j zero x e f = absurd (omega (arith, e))
get_right (y ∷ xs) ys j (suc k) x e f = get_right xs ys j k x (omega (arith, e)) f

module _ (N : ℕ) (T : Typed) (locals : List Variable) (values : List Value) (cells : Cells) (whole : length values ≡ sizes N T.globals) (holds : Holds N (top_layout N T []) values cells) (fresh : (k : ℕ) (path : Path) (at : List Value) → cells (Local zero k) path at ≡ Undefined) where
  local_held : (k : ℕ) (b : Block) → slice_get (blocks_from N (sizes N T.globals) locals) k ≡ Some b → (path : Path) (at : List Value) → has_cell N b.of path at ≡ true → slice_get (values ++ replicate (sizes N locals) Undefined) (number_in N b path at) ≡ Some (cells (Local zero k) path at)
  local_held k b e path at has =
      let (low, high) = block_within N (sizes N T.globals) locals k b e in
      let (j, is) = behind (length values) (number_in N b path at) (from low) in
      let number : number_in N b path at < sizes N T.globals + sizes N locals = below b.first (offset N b.of path at) (size N b.of) (sizes N T.globals + sizes N locals) (cell_within N b.of path at has) high in
      get_right values (replicate (sizes N locals) Undefined) j (number_in N b path at) (cells (Local zero k) path at) is
      (get_blank (sizes N locals) j (omega (arith, number, is, whole)) ∙ ap Some (sym (fresh k path at)))
    where
      behind : (n m : ℕ) → n ≤ m → (j : ℕ) × (m ≡ n + j)
      behind zero m e = (m, omega arith)
      behind (suc n) zero e = absurd (omega (arith, e))
      behind (suc n) (suc m) e = let (j, is) = behind n m (omega (arith, e)) in (j, omega (arith, is))

      from : sizes N T.globals ≤ b.first → length values ≤ b.first + offset N b.of path at
      from low = omega (arith, low, whole)

  pub entry_holds : Holds N (top_layout N T locals) (values ++ replicate (sizes N locals) Undefined) cells
  entry_holds (Global k) b e path at has = get_left values (replicate (sizes N locals) Undefined) (number_in N b path at) (cells (Global k) path at) (holds (Global k) b e path at has)
  entry_holds (Local zero k) b e path at has = local_held k b e path at has
  entry_holds (Local (suc depth) k) b e path at has = absurd (none_some e)
  entry_holds (Formal depth k) b e path at has = absurd (none_some e)
