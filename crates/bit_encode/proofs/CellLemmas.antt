-- Cells that inputs code.
use Rattle.std.proofs.Common.{◌≡◌, ℕ, zero, suc, ◌+◌, ◌*◌, ◌<◌, ◌≤◌, ◌^◌, ◌&&◌, Bool, true, false, List, [], ◌∷◌, ◌++◌, length, map, get_or, take, cond, refl, sym, ◌∙◌, ap, subst, arith}
use Rattle.std.specs.Prelude.{nat_le, nat_lt}
use Rattle.std.specs.List.{list_all}
use Rattle.std.proofs.lemmas.Bool.{and_parts}
use Rattle.std.proofs.lemmas.Bool.Decides.{nat_tests}
use Rattle.std.proofs.lemmas.Grind.{pow_more}
use Rattle.std.proofs.lemmas.List.{take_more, take_all}
use Rattle.std.proofs.lemmas.List.Elements.{All-append}
use Rattle.circuit_core.specs.declared.edge.Edge.{Edge}
use Rattle.circuit_core.specs.Network.{Network, IsEdge}
use Rattle.circuit_core.specs.Growth.{KeepsEdges}
use Rattle.other_abstract.specs.declared.value.AbsValue.{AbsValue}
use Rattle.other_abstract.specs.declared.value.AbsValue.TheVariants.{Undefined}
use Rattle.other_abstract.specs.Windows.{same_value}
use Rattle.other_abstract.specs.Machines.{read_kept}
use Rattle.other_abstract.specs.May.{AbsCells}
use Rattle.bit_encode.specs.declared.set.Possible.{Possible}
use Rattle.bit_encode.specs.Codes.{number_of, bits_of, bits_at, picked, width, width_from, coded_place, coded_state, is_legal, bit_count}
use Rattle.bit_encode.specs.MaySets.{Agrees, HasEdges, held}
use Rattle.bit_encode.specs.Coding.{HasCells, IsExactly, Shows, AreCoded, legal_edges}
use Rattle.bit_encode.proofs.Growing.{keeps_all, keeps_self, agrees_before}
use Rattle.bit_encode.proofs.SetLemmas.{and_true}
use Rattle.bit_encode.proofs.CodeLemmas.{bits_are_read, below_power, more_needed}

-- the value at a position
picked_value : (p : AbsValue → Bool) (vs : List AbsValue) (n : ℕ) → n < length vs → picked p vs n ≡ p (get_or vs n Undefined)
picked_value p [] n h = absurd (omega arith)
picked_value p (v ∷ vs) zero h = refl
picked_value p (v ∷ vs) (suc n) h = picked_value p vs n (omega arith)

-- some value stands at a position exactly where it is one of the list
picked_any : (vs : List AbsValue) (n : ℕ) → picked (λ v. true) vs n ≡ nat_lt n (length vs)
picked_any [] n = grind (arith, nat_tests)
picked_any (v ∷ vs) zero = grind (arith, nat_tests)
picked_any (v ∷ vs) (suc n) = picked_any vs n ∙ same_less n (length vs)
  where
    same_less : (a b : ℕ) → nat_lt a b ≡ nat_lt (suc a) (suc b)
    same_less a b = grind (arith, nat_tests)

is_less : (a b : ℕ) → nat_lt a b ≡ true → a < b
is_less a b h = grind (arith, nat_tests)

shows_none : (val : Edge → Bool) → Shows val [] []
shows_none val = record { count = refl; cell = λ k h. absurd (omega arith) }

shows_more : (val : Edge → Bool) (s : List Possible) (v : AbsValue) (ss : List (List Possible)) (w : AbsCells) → IsExactly val s v → Shows val ss w → Shows val (s ∷ ss) (v ∷ w)
shows_more val s v ss w one rest = record { count = omega (arith, rest.count); cell = go }
  where
    go : (k : ℕ) → k < length (v ∷ w) → IsExactly val (get_or (s ∷ ss) k []) (get_or (v ∷ w) k Undefined)
    go zero h = one
    go (suc k) h = rest.cell k (omega arith)

-- a legal code shows the coded state
pub code_shows : (val : Edge → Bool) (x : ℕ → Bool) (first : ℕ) (ls : List (List AbsValue)) (ss : List (List Possible)) → AreCoded val x first ls ss → is_legal x first ls ≡ true → Shows val ss (coded_state x first ls)
code_shows val x first [] [] h legal = shows_none val
code_shows val x first [] (s ∷ ss) h legal = absurd h
code_shows val x first (l ∷ ls) [] h legal = absurd h
code_shows val x first (l ∷ ls) (s ∷ ss) h legal =
    let parts = and_parts (nat_lt (coded_place x first l) (length l)) (is_legal x (first + width (length l)) ls) legal in
    shows_more val s (get_or l (coded_place x first l) Undefined) ss (coded_state x (first + width (length l)) ls)
    (λ p. h.0 p ∙ picked_value p l (coded_place x first l) (is_less (coded_place x first l) (length l) parts.0))
    (code_shows val x (first + width (length l)) ls ss h.1 parts.1)

-- and the edges say whether it is legal
pub code_is_seen : (val : Edge → Bool) (x : ℕ → Bool) (first : ℕ) (ls : List (List AbsValue)) (ss : List (List Possible)) → AreCoded val x first ls ss → legal_edges val ss ≡ is_legal x first ls
code_is_seen val x first [] [] h = refl
code_is_seen val x first [] (s ∷ ss) h = absurd h
code_is_seen val x first (l ∷ ls) [] h = absurd h
code_is_seen val x first (l ∷ ls) (s ∷ ss) h =
    ap (λ b. b && legal_edges val ss) (h.0 (λ v. true) ∙ picked_any l (coded_place x first l))
    ∙ ap (λ b. nat_lt (coded_place x first l) (length l) && b) (code_is_seen val x (first + width (length l)) ls ss h.1)

-- how many bits are enough
enough_from : (more b n : ℕ) → n ≤ 2 ^ (b + more) → n ≤ 2 ^ width_from more b n
enough_from zero b n h = let e : b + zero ≡ b = omega arith in subst (λ k. n ≤ 2 ^ k) e h
enough_from (suc more) b n h = go (nat_le n (2 ^ b)) refl (enough_from more (suc b) n (let e : b + suc more ≡ suc b + more = omega arith in subst (λ k. n ≤ 2 ^ k) e h))
  where
    go : (t : Bool) → nat_le n (2 ^ b) ≡ t → n ≤ 2 ^ width_from more (suc b) n → n ≤ 2 ^ cond t b (width_from more (suc b) n)
    go true e rest = grind (arith, nat_tests)
    go false e rest = rest

pub enough_bits : (n : ℕ) → n ≤ 2 ^ width n
enough_bits n = let e : n ≡ 0 + n = omega arith in enough_from n 0 n (subst (λ k. n ≤ 2 ^ k) e (below_power n))

powers_grow : (b k : ℕ) → 2 ^ b ≤ 2 ^ (b + k)
powers_grow b zero = let e : b + zero ≡ b = omega arith in let p : 2 ^ (b + zero) ≡ 2 ^ b = ap (λ j. 2 ^ j) e in omega (arith, p)
powers_grow b (suc k) =
    let e : b + suc k ≡ (b + k) + 1 = omega arith in
    let p : 2 ^ (b + suc k) ≡ 2 ^ (b + k) * 2 = ap (λ j. 2 ^ j) e ∙ pow_more 2 (b + k) in
    let l : 2 ^ b ≤ 2 ^ (b + k) = powers_grow b k in
    omega (arith, p, l)

-- and no fewer are
fewest_from : (more b n c : ℕ) → n ≤ 2 ^ c → b ≤ c → width_from more b n ≤ c
fewest_from zero b n c h l = l
fewest_from (suc more) b n c h l = go (nat_le n (2 ^ b)) refl (λ m. fewest_from more (suc b) n c h m)
  where
    go : (t : Bool) → nat_le n (2 ^ b) ≡ t → (suc b ≤ c → width_from more (suc b) n ≤ c) → cond t b (width_from more (suc b) n) ≤ c
    go true e rest = l
    go false e rest = rest (above (more_than n b e))
      where
        more_than : (n b : ℕ) → nat_le n (2 ^ b) ≡ false → 2 ^ b < n
        more_than n b e = grind (arith, nat_tests)

        above : 2 ^ b < n → suc b ≤ c
        above short = let q : b + 1 ≤ c = more_needed n b c short h l in omega (arith, q)

pub least_bits : (n b : ℕ) → n ≤ 2 ^ b → width n ≤ b
least_bits n b h = fewest_from n 0 n b h (omega arith)

-- each position of a list has a code
pub place_has_code : (x : ℕ → Bool) (first : ℕ) (values : List AbsValue) (place : ℕ) → place < length values → bits_at x first (width (length values)) ≡ bits_of (width (length values)) place → coded_place x first values ≡ place
place_has_code x first values place h same =
    ap number_of same ∙ bits_are_read (width (length values)) place (omega (arith, enough_bits (length values), h))

-- one more cell
count_ends : (a b : ℕ) → b ≡ a + 0 → b ≡ a
count_ends a b e = omega (arith, e)

count_on : (a w r at : ℕ) → at ≡ a + (w + r) → at ≡ (a + w) + r
count_on a w r at e = omega (arith, e)

coded_push : (val : Edge → Bool) (x : ℕ → Bool) (first : ℕ) (ls : List (List AbsValue)) (ss : List (List Possible)) (l : List AbsValue) (s : List Possible) (at : ℕ)
    → AreCoded val x first ls ss → at ≡ first + bit_count ls → ((p : AbsValue → Bool) → held val p s ≡ picked p l (coded_place x at l)) → AreCoded val x first (ls ++ l ∷ []) (ss ++ s ∷ [])
coded_push val x first [] [] l s at h e one = (λ p. one p ∙ ap (λ k. picked p l (coded_place x k l)) (count_ends first at e), tt)
coded_push val x first [] (t ∷ ss) l s at h e one = absurd h
coded_push val x first (k ∷ ls) [] l s at h e one = absurd h
coded_push val x first (k ∷ ls) (t ∷ ss) l s at h e one = (h.0, coded_push val x (first + width (length k)) ls ss l s at h.1 (count_on first (width (length k)) (bit_count ls) at e) one)

count_push : (ls : List (List AbsValue)) (l : List AbsValue) → bit_count (ls ++ l ∷ []) ≡ bit_count ls + width (length l)
count_push [] l = swap (width (length l))
  where
    swap : (w : ℕ) → w + 0 ≡ 0 + w
    swap w = omega arith
count_push (k ∷ ls) l = ap (λ n. width (length k) + n) (count_push ls l) ∙ assoc (width (length k)) (bit_count ls) (width (length l))
  where
    assoc : (a b c : ℕ) → a + (b + c) ≡ (a + b) + c
    assoc a b c = omega arith

-- what a loop that makes cells has made of the first lists
pub record AreMade (old now : Network) (lists : List (List AbsValue)) (cells : List (List Possible)) : Type 0 where
  pub keeps : KeepsEdges old now
  pub edges : HasCells now cells
  pub inputs : now.inputs ≡ old.inputs + bit_count lists
  pub coded : (x : ℕ → Bool) (val : Edge → Bool) → Agrees now x val → AreCoded val x old.inputs lists cells

pub made_none : (c : Network) → AreMade c c [] []
made_none c = record { keeps = keeps_self c; edges = λ k d h. absurd (omega arith); inputs = omega arith; coded = λ x val a. tt }

cells_after : (old new : Network) (cells : List (List Possible)) → KeepsEdges old new → HasCells old cells → HasCells new cells
cells_after old new cells k h n d l = λ i e m. k.edges _ (h n d l i e m)

pub made_more : (old mid new : Network) (lists : List (List AbsValue)) (i : ℕ) (d : List AbsValue) (cells after : List (List Possible)) (s : List Possible) (l : List AbsValue)
    → i < length lists → l ≡ get_or lists i d → AreMade old mid (take i lists) cells → KeepsEdges mid new → HasEdges new s
    → ((x : ℕ → Bool) (val : Edge → Bool) (p : AbsValue → Bool) → Agrees new x val → held val p s ≡ picked p l (coded_place x mid.inputs l))
    → new.inputs ≡ mid.inputs + width (length l) → after ≡ cells ++ s ∷ [] → AreMade old new (take (i + 1) lists) after
made_more old mid new lists i d cells after s l inside is had keeps edges value count pushed =
    let more : take (i + 1) lists ≡ take i lists ++ l ∷ [] = take_more lists i d inside ∙ ap (λ k. take i lists ++ k ∷ []) (sym is) in
    subst (AreMade old new (take (i + 1) lists)) (sym pushed) (subst (λ ls. AreMade old new ls (cells ++ s ∷ [])) (sym more) (record {
      keeps = keeps_all old mid new had.keeps keeps;
      edges = All-append (HasEdges new) cells (s ∷ []) (cells_after mid new cells keeps had.edges) (one_cell new s edges);
      inputs = added old.inputs mid.inputs new.inputs (bit_count (take i lists)) (width (length l)) had.inputs count ∙ ap (λ n. old.inputs + n) (sym (count_push (take i lists) l));
      coded = λ x val a. coded_push val x old.inputs (take i lists) cells l s mid.inputs (had.coded x val (agrees_before mid new x val keeps a)) had.inputs (λ p. value x val p a);
    }))
  where
    one_cell : (c : Network) (s : List Possible) → HasEdges c s → HasCells c (s ∷ [])
    one_cell c s h zero e l = h
    one_cell c s h (suc k) e l = absurd (omega arith)

    added : (o m n b w : ℕ) → m ≡ o + b → n ≡ m + w → n ≡ o + (b + w)
    added o m n b w e f = omega (arith, e, f)

pub made_all : (old new : Network) (lists : List (List AbsValue)) (cells : List (List Possible)) (i : ℕ) → length lists ≤ i → AreMade old new (take i lists) cells → AreMade old new lists cells
made_all old new lists cells i h had = subst (λ ls. AreMade old new ls cells) (take_all i lists h) had

-- the edge that is true where the first cells have some value
pub record AreLegal (old now : Network) (e : Edge) (cells : List (List Possible)) : Type 0 where
  pub keeps : KeepsEdges old now
  pub edge : IsEdge now e
  pub value : (x : ℕ → Bool) (val : Edge → Bool) → Agrees now x val → val e ≡ legal_edges val cells

pub all_push : {T : Type 0} (g : T → Bool) (s : List T) (t : T) → list_all g (s ++ t ∷ []) ≡ (list_all g s && g t)
all_push g [] t = and_true (g t)
all_push g (o ∷ s) t = ap (λ b. g o && b) (all_push g s t) ∙ go (g o) (list_all g s) (g t)
  where
    go : (a b c : Bool) → (a && (b && c)) ≡ ((a && b) && c)
    go true b c = refl
    go false b c = refl

pub legal_none : (c : Network) (e : Edge) → IsEdge c e → ((x : ℕ → Bool) (val : Edge → Bool) → Agrees c x val → val e ≡ true) → AreLegal c c e []
legal_none c e h v = record { keeps = keeps_self c; edge = h; value = v }

pub legal_more : (old mid new : Network) (e f : Edge) (cells : List (List Possible)) (i : ℕ) (d s : List Possible) → i < length cells → s ≡ get_or cells i d
    → AreLegal old mid e (take i cells) → KeepsEdges mid new → IsEdge new f
    → ((x : ℕ → Bool) (val : Edge → Bool) → Agrees new x val → val f ≡ (val e && held val (λ v. true) s))
    → AreLegal old new f (take (i + 1) cells)
legal_more old mid new e f cells i d s inside is had keeps edge value = record {
  keeps = keeps_all old mid new had.keeps keeps;
  edge = edge;
  value = λ x val a.
      value x val a
      ∙ ap (λ b. b && held val (λ v. true) s) (had.value x val (agrees_before mid new x val keeps a))
      ∙ ap (λ t. legal_edges val (take i cells) && held val (λ v. true) t) is
      ∙ sym (ap (legal_edges val) (take_more cells i d inside) ∙ all_push (held val (λ v. true)) (take i cells) (get_or cells i d));
}

pub legal_all : (old new : Network) (e : Edge) (cells : List (List Possible)) (i : ℕ) → length cells ≤ i → AreLegal old new e (take i cells) → AreLegal old new e cells
legal_all old new e cells i h had = subst (AreLegal old new e) (take_all i cells h) had

pub ruleset cells = (made_none, made_all, legal_none, legal_all)

-- the value of a cell by its inputs
pub cell_value : (val : Edge → Bool) (x : ℕ → Bool) (p : AbsValue → Bool) (vs : List AbsValue) (first n : ℕ) (bits seen : List Edge) (s : List Possible)
    → held val p s ≡ picked p vs (number_of (map val seen)) → seen ≡ bits → map val bits ≡ bits_at x first n → n ≡ width (length vs) → held val p s ≡ picked p vs (coded_place x first vs)
cell_value val x p vs first n bits seen s held_is same read count =
    held_is ∙ ap (λ b. picked p vs (number_of (map val b))) same ∙ ap (λ b. picked p vs (number_of b)) read ∙ ap (λ k. picked p vs (number_of (bits_at x first k))) count

-- two sets of one value each agree where the values do
pub agreement_seen : (val : Edge → Bool) (from to : List Possible) (v w : AbsValue) → IsExactly val from v → IsExactly val to w → held val (λ u. held val (same_value (read_kept u)) to) from ≡ same_value (read_kept v) w
agreement_seen val from to v w one other = one (λ u. held val (same_value (read_kept u)) to) ∙ other (same_value (read_kept v))
