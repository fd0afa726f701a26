-- Entering and leaving a routine that is called.
use Rattle.std.proofs.Common.{◌≡◌, ℕ, zero, suc, ◌+◌, ◌<◌, ◌≤◌, Bool, true, false, ◌&&◌, ◌⊎◌, inl, inr, List, [], ◌∷◌, ◌++◌, reverse, length, replicate, take, Option, None, Some, refl, sym, ap, ◌∙◌, subst, arith, append_assoc}
use Rattle.std.specs.Prelude.{nat_eq, nat_lt, if◌then◌else◌, slice_get}
use Rattle.std.proofs.lemmas.Bool.{eq-eqb, eqb-true, eqb-false, lt-ltb, ltb-true}
use Rattle.std.proofs.lemmas.List.{reverse-reverse, length-reverse, length-append}
use Rattle.term_core.specs.declared.value.Value.{Value}
use Rattle.term_core.specs.declared.value.Value.TheVariants.{Undefined}
use Rattle.murphi_ast.specs.declared.token.Span.{Span}
use Rattle.murphi_typed.specs.declared.types.AnyType.{AnyType}
use Rattle.murphi_typed.specs.declared.protocol.Variable.{Variable}
use Rattle.murphi_typed.specs.declared.protocol.Routine.{Routine}
use Rattle.murphi_typed.specs.Store.{Owner, Global, Local, Formal, same_owner, Place, Cells, only}
use Rattle.murphi_typed.specs.Expressions.{Given, Filled, Standing, Scene}
use Rattle.murphi_typed.specs.Execution.{call_of, calls_of, routine_calls, entered, filled}
use Rattle.murphi_typed.proofs.RoutineLemmas.{get_last, get_before, reversed}
use Rattle.murphi_run.specs.Layout.{size, offset}
use Rattle.murphi_run.specs.Holding.{Block, Layout, number_in, HoldsVariable, Holds, IsLayout}
use Rattle.murphi_run.specs.Blocks.{sizes, blocks_from}
use Rattle.murphi_run.specs.Places.{IsPlaced, at_number}
use Rattle.murphi_run.specs.Calls.{Seat, Held, Stood, seat_values, seat_blocks, SeatsFit, seated, inner_layout, called_layout, called_values, NoneDeeper}
use Rattle.murphi_run.proofs.NumberLemmas.{cell_within}
use Rattle.murphi_run.proofs.BlockLemmas.{block_within, blocks_apart, get_blank}

some_one : {A : Type 0} {a b : A} → Some a ≡ Some b → a ≡ b
some_one e = cc

none_some : {A : Type 0} {a : A} → None ≡ Some a → ⊥
none_some e = cc

-- Calls go back

below_length : {A : Type 0} (xs : List A) (k : ℕ) (x : A) → slice_get xs k ≡ Some x → k < length xs
below_length [] k x e = absurd (none_some e)
below_length (y ∷ xs) zero x e = omega arith
below_length (y ∷ xs) (suc k) x e = let low : k < length xs = below_length xs k x e in omega (arith, low)

take_front : {A : Type 0} (xs ys : List A) (k : ℕ) → k ≤ length xs → take k (xs ++ ys) ≡ take k xs
take_front xs ys zero e = refl
take_front [] ys (suc k) e = absurd (omega (arith, e))
take_front (x ∷ xs) ys (suc k) e = ap (λ zs. x ∷ zs) (take_front xs ys k (omega (arith, e)))

take_whole : {A : Type 0} (xs : List A) (k : ℕ) → k ≡ length xs → take k xs ≡ xs
take_whole [] zero e = refl
take_whole [] (suc k) e = absurd (omega (arith, e))
take_whole (x ∷ xs) zero e = absurd (omega (arith, e))
take_whole (x ∷ xs) (suc k) e = ap (λ zs. x ∷ zs) (take_whole xs k (omega (arith, e)))

at_most : (a b : ℕ) → a ≡ b → a ≤ b
at_most a b e = omega (arith, e)

less_most : (a b : ℕ) → a < b → a ≤ b
less_most a b e = omega (arith, e)

calls_back : (latest : List Routine) (k : ℕ) (r : Routine) (scene : Scene) (at : Span) (gs : List Given) (cells : Cells) → slice_get (reverse latest) k ≡ Some r → calls_of latest k scene at gs cells ≡ call_of (calls_of (reverse (take k (reverse latest)))) r scene at gs cells
calls_back [] k r scene at gs cells e = absurd (none_some e)
calls_back (l ∷ earlier) k r scene at gs cells e = go (nat_eq k (length earlier)) refl (λ before. calls_back earlier k r scene at gs cells before)
  where
    there : slice_get (reverse earlier ++ l ∷ []) k ≡ Some r
    there = ap (λ xs. slice_get xs k) (sym (reversed l earlier)) ∙ e

    front : k ≤ length (reverse earlier) → reverse (take k (reverse (l ∷ earlier))) ≡ reverse (take k (reverse earlier))
    front low = ap (λ xs. reverse (take k xs)) (reversed l earlier) ∙ ap reverse (take_front (reverse earlier) (l ∷ []) k low)

    go : (b : Bool) → nat_eq k (length earlier) ≡ b → (slice_get (reverse earlier) k ≡ Some r → calls_of earlier k scene at gs cells ≡ call_of (calls_of (reverse (take k (reverse earlier)))) r scene at gs cells) → (if b then call_of (calls_of earlier) l scene at gs cells else calls_of earlier k scene at gs cells) ≡ call_of (calls_of (reverse (take k (reverse (l ∷ earlier))))) r scene at gs cells
    go true was more =
        let is : k ≡ length (reverse earlier) = eqb-true k (length earlier) was ∙ sym (length-reverse earlier) in
        let same : l ≡ r = get_last (reverse earlier) l r k there is in
        let all : reverse (take k (reverse (l ∷ earlier))) ≡ earlier = front (at_most k (length (reverse earlier)) is) ∙ ap reverse (take_whole (reverse earlier) k is) ∙ reverse-reverse earlier in
        ap (λ x. call_of (calls_of earlier) x scene at gs cells) same ∙ ap (λ xs. call_of (calls_of xs) r scene at gs cells) (sym all)
    go false was more =
        let before : slice_get (reverse earlier) k ≡ Some r = get_before (reverse earlier) l r k there (λ same. eqb-false k (length earlier) was (same ∙ length-reverse earlier)) in
        more before
        ∙ ap (λ xs. call_of (calls_of xs) r scene at gs cells) (sym (front (less_most k (length (reverse earlier)) (below_length (reverse earlier) k r before))))

pub calls_go_back : (routines : List Routine) (k : ℕ) (r : Routine) (scene : Scene) (at : Span) (gs : List Given) (cells : Cells) → slice_get routines k ≡ Some r → routine_calls routines k scene at gs cells ≡ call_of (routine_calls (take k routines)) r scene at gs cells
calls_go_back routines k r scene at gs cells e =
    calls_back (reverse routines) k r scene at gs cells (ap (λ xs. slice_get xs k) (reverse-reverse routines) ∙ e)
    ∙ ap (λ xs. call_of (calls_of (reverse (take k xs))) r scene at gs cells) (reverse-reverse routines)

-- Items of lists

get_left : {A : Type 0} (xs ys : List A) (k : ℕ) (x : A) → slice_get xs k ≡ Some x → slice_get (xs ++ ys) k ≡ Some x
get_left [] ys k x e = absurd (none_some e)
get_left (y ∷ xs) ys zero x e = e
get_left (y ∷ xs) ys (suc k) x e = get_left xs ys k x e

get_right : {A : Type 0} (xs ys : List A) (j k : ℕ) (x : A) → k ≡ length xs + j → slice_get ys j ≡ Some x → slice_get (xs ++ ys) k ≡ Some x
get_right [] ys j k x e f = let same : k ≡ j = omega (arith, e) in ap (slice_get ys) same ∙ f
get_right (y ∷ xs) ys j zero x e f = absurd (omega (arith, e))
get_right (y ∷ xs) ys j (suc k) x e f = get_right xs ys j k x (omega (arith, e)) f

get_taken : {A : Type 0} (xs : List A) (n k : ℕ) → k < n → slice_get (take n xs) k ≡ slice_get xs k
get_taken xs zero k e = absurd (omega (arith, e))
get_taken [] (suc n) k e = refl
get_taken (x ∷ xs) (suc n) zero e = refl
get_taken (x ∷ xs) (suc n) (suc k) e = get_taken xs n k (omega (arith, e))

-- Formals

shifted : (a b c : ℕ) → a ≡ b → a + c ≡ b + (0 + c)
shifted a b c e = omega (arith, e)

longer : (a b c d : ℕ) → a ≡ b → d ≡ b + c → a + c ≡ d
longer a b c d e f = omega (arith, e, f)

pub seat_held : (N : ℕ) (layout : Layout) (first : ℕ) (seats : List Seat) (gs : List Given) (k : ℕ) (b : Block) (values rest : List Value) → SeatsFit N layout seats gs → seated (slice_get (seat_blocks first seats) k) ≡ Some b → first ≡ length values → HoldsVariable N b (values ++ (seat_values seats ++ rest)) (filled (slice_get gs k))
seat_held N layout first [] gs k b values rest fit e is = absurd (none_some e)
seat_held N layout first (Held type held ∷ seats) [] k b values rest fit e is = absurd fit
seat_held N layout first (Held type held ∷ seats) (Standing p ∷ gs) k b values rest fit e is = absurd fit
seat_held N layout first (Held type held ∷ seats) (Filled contents ∷ gs) zero b values rest fit e is =
    let (many, holds, more) = fit in
    subst (λ c. HoldsVariable N c (values ++ ((held ++ seat_values seats) ++ rest)) contents) (some_one e)
    (λ path at has. get_right values ((held ++ seat_values seats) ++ rest) (0 + offset N type path at) (first + offset N type path at) (contents path at)
    (shifted first (length values) (offset N type path at) is)
    (get_left (held ++ seat_values seats) rest (0 + offset N type path at) (contents path at) (get_left held (seat_values seats) (0 + offset N type path at) (contents path at) (holds path at has))))
seat_held N layout first (Held type held ∷ seats) (Filled contents ∷ gs) (suc k) b values rest fit e is =
    let (many, holds, more) = fit in
    let one : (values ++ held) ++ (seat_values seats ++ rest) ≡ values ++ ((held ++ seat_values seats) ++ rest) = append_assoc values held (seat_values seats ++ rest) ∙ ap (λ xs. values ++ xs) (sym (append_assoc held (seat_values seats) rest)) in
    subst (λ xs. HoldsVariable N b xs (filled (slice_get gs k))) one
    (seat_held N layout (first + length held) seats gs k b (values ++ held) rest more e (longer first (length values) (length held) (length (values ++ held)) is (length-append values held)))
seat_held N layout first (Stood c ∷ seats) [] k b values rest fit e is = absurd fit
seat_held N layout first (Stood c ∷ seats) (Filled contents ∷ gs) k b values rest fit e is = absurd fit
seat_held N layout first (Stood c ∷ seats) (Standing p ∷ gs) zero b values rest fit e is = absurd (none_some e)
seat_held N layout first (Stood c ∷ seats) (Standing p ∷ gs) (suc k) b values rest fit e is =
    let (there, more) = fit in seat_held N layout first seats gs k b values rest more e is

starts : (a b s t u w : ℕ) → a ≡ b → t ≡ s → u ≡ t + w → (a ≤ b) × (b + s ≤ a + u)
starts a b s t u w e f g = (omega (arith, e), omega (arith, e, f, g))

later : (a b s t u w : ℕ) → u ≡ t + w → a + t ≤ b → b + s ≤ (a + t) + w → (a ≤ b) × (b + s ≤ a + u)
later a b s t u w e f g = (omega (arith, f), omega (arith, e, g))

pub seat_within : (N : ℕ) (layout : Layout) (first : ℕ) (seats : List Seat) (gs : List Given) (k : ℕ) (b : Block) → SeatsFit N layout seats gs → seated (slice_get (seat_blocks first seats) k) ≡ Some b → (first ≤ b.first) × (b.first + size N b.of ≤ first + length (seat_values seats))
seat_within N layout first [] gs k b fit e = absurd (none_some e)
seat_within N layout first (Held type held ∷ seats) [] k b fit e = absurd fit
seat_within N layout first (Held type held ∷ seats) (Standing p ∷ gs) k b fit e = absurd fit
seat_within N layout first (Held type held ∷ seats) (Filled contents ∷ gs) zero b fit e =
    let (many, holds, more) = fit in
    starts first b.first (size N b.of) (length held) (length (held ++ seat_values seats)) (length (seat_values seats)) (ap (λ (c : Block). c.first) (some_one e)) (many ∙ ap (λ (c : Block). size N c.of) (some_one e)) (length-append held (seat_values seats))
seat_within N layout first (Held type held ∷ seats) (Filled contents ∷ gs) (suc k) b fit e =
    let (many, holds, more) = fit in
    let (low, high) = seat_within N layout (first + length held) seats gs k b more e in
    later first b.first (size N b.of) (length held) (length (held ++ seat_values seats)) (length (seat_values seats)) (length-append held (seat_values seats)) low high
seat_within N layout first (Stood c ∷ seats) [] k b fit e = absurd fit
seat_within N layout first (Stood c ∷ seats) (Filled contents ∷ gs) k b fit e = absurd fit
seat_within N layout first (Stood c ∷ seats) (Standing p ∷ gs) zero b fit e = absurd (none_some e)
seat_within N layout first (Stood c ∷ seats) (Standing p ∷ gs) (suc k) b fit e =
    let (there, more) = fit in seat_within N layout first seats gs k b more e

first_ends : (a b s t c : ℕ) → a ≡ b → t ≡ s → a + t ≤ c → b + s ≤ c
first_ends a b s t c e f g = omega (arith, e, f, g)

first_seat : (N : ℕ) (layout : Layout) (first : ℕ) (type : AnyType) (held : List Value) (seats : List Seat) (gs : List Given) (k : ℕ) (b c : Block) → length held ≡ size N type → SeatsFit N layout seats gs → Some (at_number first type) ≡ Some b → seated (slice_get (seat_blocks (first + length held) seats) k) ≡ Some c → b.first + size N b.of ≤ c.first
first_seat N layout first type held seats gs k b c many fit e f =
    let (low, high) = seat_within N layout (first + length held) seats gs k c fit f in
    first_ends first b.first (size N b.of) (length held) c.first (ap (λ (d : Block). d.first) (some_one e)) (many ∙ ap (λ (d : Block). size N d.of) (some_one e)) low

pub seats_apart : (N : ℕ) (layout : Layout) (first : ℕ) (seats : List Seat) (gs : List Given) (j k : ℕ) (b c : Block) → SeatsFit N layout seats gs → seated (slice_get (seat_blocks first seats) j) ≡ Some b → seated (slice_get (seat_blocks first seats) k) ≡ Some c → (j ≡ k → ⊥) → (b.first + size N b.of ≤ c.first) ⊎ (c.first + size N c.of ≤ b.first)
seats_apart N layout first [] gs j k b c fit e f apart = absurd (none_some e)
seats_apart N layout first (Held type held ∷ seats) [] j k b c fit e f apart = absurd fit
seats_apart N layout first (Held type held ∷ seats) (Standing p ∷ gs) j k b c fit e f apart = absurd fit
seats_apart N layout first (Held type held ∷ seats) (Filled contents ∷ gs) zero zero b c fit e f apart = absurd (apart refl)
seats_apart N layout first (Held type held ∷ seats) (Filled contents ∷ gs) zero (suc k) b c fit e f apart = let (many, holds, more) = fit in inl (first_seat N layout first type held seats gs k b c many more e f)
seats_apart N layout first (Held type held ∷ seats) (Filled contents ∷ gs) (suc j) zero b c fit e f apart = let (many, holds, more) = fit in inr (first_seat N layout first type held seats gs j c b many more f e)
seats_apart N layout first (Held type held ∷ seats) (Filled contents ∷ gs) (suc j) (suc k) b c fit e f apart = let (many, holds, more) = fit in seats_apart N layout (first + length held) seats gs j k b c more e f (λ same. apart (ap suc same))
seats_apart N layout first (Stood d ∷ seats) [] j k b c fit e f apart = absurd fit
seats_apart N layout first (Stood d ∷ seats) (Filled contents ∷ gs) j k b c fit e f apart = absurd fit
seats_apart N layout first (Stood d ∷ seats) (Standing p ∷ gs) zero k b c fit e f apart = absurd (none_some e)
seats_apart N layout first (Stood d ∷ seats) (Standing p ∷ gs) (suc j) zero b c fit e f apart = absurd (none_some f)
seats_apart N layout first (Stood d ∷ seats) (Standing p ∷ gs) (suc j) (suc k) b c fit e f apart = let (there, more) = fit in seats_apart N layout first seats gs j k b c more e f (λ same. apart (ap suc same))

-- Whose a variable is

data Whose (depth : ℕ) (formals : List (Option Block)) (locals : List Block) (layout : Layout) (owner : Owner) (b : Block) : Type 0 where
  Older : layout owner ≡ Some b → Whose depth formals locals layout owner b
  OfFormal : (k : ℕ) → owner ≡ Formal depth k → seated (slice_get formals k) ≡ Some b → Whose depth formals locals layout owner b
  OfLocal : (k : ℕ) → owner ≡ Local depth k → slice_get locals k ≡ Some b → Whose depth formals locals layout owner b

whose : (depth : ℕ) (formals : List (Option Block)) (locals : List Block) (layout : Layout) (owner : Owner) (b : Block) → inner_layout depth formals locals layout owner ≡ Some b → Whose depth formals locals layout owner b
whose depth formals locals layout (Global k) b e = Older e
whose depth formals locals layout (Local of k) b e = go (nat_eq of depth) refl e
  where
    go : (t : Bool) → nat_eq of depth ≡ t → (if t then slice_get locals k else layout (Local of k)) ≡ Some b → Whose depth formals locals layout (Local of k) b
    go true was e = OfLocal k (ap (λ d. Local d k) (eqb-true of depth was)) e
    go false was e = Older e
whose depth formals locals layout (Formal of k) b e = go (nat_eq of depth) refl e
  where
    go : (t : Bool) → nat_eq of depth ≡ t → (if t then seated (slice_get formals k) else layout (Formal of k)) ≡ Some b → Whose depth formals locals layout (Formal of k) b
    go true was e = OfFormal k (ap (λ d. Formal d k) (eqb-true of depth was)) e
    go false was e = Older e

owner_self : (o : Owner) → same_owner o o ≡ true
owner_self (Global k) = eq-eqb k k refl
owner_self (Local of k) = ap (λ b. b && nat_eq k k) (eq-eqb of of refl) ∙ eq-eqb k k refl
owner_self (Formal of k) = ap (λ b. b && nat_eq k k) (eq-eqb of of refl) ∙ eq-eqb k k refl

not_both : (b : Bool) → b ≡ true → b ≡ false → ⊥
not_both b e f = cc

not_one : (o p : Owner) → same_owner o p ≡ false → o ≡ p → ⊥
not_one o p apart e = not_both (same_owner o p) (ap (same_owner o) (sym e) ∙ owner_self o) apart

behind_one : (a n b : ℕ) → a ≤ n → n ≤ b → a ≤ b
behind_one a n b e f = omega (arith, e, f)

behind_two : (a n m b : ℕ) → a ≤ n → n + m ≤ b → a ≤ b
behind_two a n m b e f = omega (arith, e, f)

module _ (N depth : ℕ) (layout : Layout) (count : ℕ) (seats : List Seat) (gs : List Given) (locals : List Variable) (fits : IsLayout N layout count) (fit : SeatsFit N layout seats gs) where
  abbrev formals : List (Option Block)
  formals = seat_blocks count seats

  abbrev blocks : List Block
  blocks = blocks_from N (count + length (seat_values seats)) locals

  kinds_apart : (owner other : Owner) (b c : Block) → Whose (suc depth) formals blocks layout owner b → Whose (suc depth) formals blocks layout other c → same_owner owner other ≡ false → (b.first + size N b.of ≤ c.first) ⊎ (c.first + size N c.of ≤ b.first)
  kinds_apart owner other b c (Older e) (Older f) apart = fits.apart owner other b c e f apart
  kinds_apart owner other b c (Older e) (OfFormal k is f) apart =
      let (low, high) = seat_within N layout count seats gs k c fit f in
      inl (behind_one (b.first + size N b.of) count c.first (fits.within owner b e) low)
  kinds_apart owner other b c (Older e) (OfLocal k is f) apart =
      let (low, high) = block_within N (count + length (seat_values seats)) locals k c f in
      inl (behind_two (b.first + size N b.of) count (length (seat_values seats)) c.first (fits.within owner b e) low)
  kinds_apart owner other b c (OfFormal j is e) (Older f) apart =
      let (low, high) = seat_within N layout count seats gs j b fit e in
      inr (behind_one (c.first + size N c.of) count b.first (fits.within other c f) low)
  kinds_apart owner other b c (OfFormal j is e) (OfFormal k same f) apart =
      seats_apart N layout count seats gs j k b c fit e f (λ one. not_one owner other apart (is ∙ ap (Formal (suc depth)) one ∙ sym same))
  kinds_apart owner other b c (OfFormal j is e) (OfLocal k same f) apart =
      let (low, high) = seat_within N layout count seats gs j b fit e in
      let (from, to) = block_within N (count + length (seat_values seats)) locals k c f in
      inl (behind_one (b.first + size N b.of) (count + length (seat_values seats)) c.first high from)
  kinds_apart owner other b c (OfLocal j is e) (Older f) apart =
      let (low, high) = block_within N (count + length (seat_values seats)) locals j b e in
      inr (behind_two (c.first + size N c.of) count (length (seat_values seats)) b.first (fits.within other c f) low)
  kinds_apart owner other b c (OfLocal j is e) (OfFormal k same f) apart =
      let (low, high) = seat_within N layout count seats gs k c fit f in
      let (from, to) = block_within N (count + length (seat_values seats)) locals j b e in
      inr (behind_one (c.first + size N c.of) (count + length (seat_values seats)) b.first high from)
  kinds_apart owner other b c (OfLocal j is e) (OfLocal k same f) apart =
      blocks_apart N (count + length (seat_values seats)) locals j k b c e f (λ one. not_one owner other apart (is ∙ ap (Local (suc depth)) one ∙ sym same))

  whole_count : ℕ
  whole_count = count + (length (seat_values seats) + sizes N locals)

  kind_within : (owner : Owner) (b : Block) → Whose (suc depth) formals blocks layout owner b → b.first + size N b.of ≤ count + (length (seat_values seats) + sizes N locals)
  kind_within owner b (Older e) = let low : b.first + size N b.of ≤ count = fits.within owner b e in omega (arith, low)
  kind_within owner b (OfFormal k is e) = let (low, high) = seat_within N layout count seats gs k b fit e in omega (arith, high)
  kind_within owner b (OfLocal k is e) = let (low, high) = block_within N (count + length (seat_values seats)) locals k b e in omega (arith, high)

  pub called_layout_is : IsLayout N (called_layout N count depth seats locals layout) (count + (length (seat_values seats) + sizes N locals))
  called_layout_is = record {
    within = λ owner b e. kind_within owner b (whose (suc depth) formals blocks layout owner b e);
    apart = λ owner other b c e f apart. kinds_apart owner other b c (whose (suc depth) formals blocks layout owner b e) (whose (suc depth) formals blocks layout other c f) apart;
  }

blank_length : (n : ℕ) → length (replicate n Undefined) ≡ n
blank_length zero = refl
blank_length (suc n) = ap suc (blank_length n)

sums : (a b c d e f : ℕ) → a ≡ b + c → c ≡ d + e → e ≡ f → b + (d + f) ≡ a
sums a b c d e f g h i = omega (arith, g, h, i)

pub called_apart : (N depth : ℕ) (layout : Layout) (values : List Value) (seats : List Seat) (gs : List Given) (locals : List Variable) → IsLayout N layout (length values) → SeatsFit N layout seats gs → IsLayout N (called_layout N (length values) depth seats locals layout) (length (called_values N values seats locals))
called_apart N depth layout values seats gs locals fits fit =
    subst (IsLayout N (called_layout N (length values) depth seats locals layout))
    (sums (length (called_values N values seats locals)) (length values) (length (seat_values seats ++ replicate (sizes N locals) Undefined)) (length (seat_values seats)) (length (replicate (sizes N locals) Undefined)) (sizes N locals)
    (length-append values (seat_values seats ++ replicate (sizes N locals) Undefined)) (length-append (seat_values seats) (replicate (sizes N locals) Undefined)) (blank_length (sizes N locals)))
    (called_layout_is N depth layout (length values) seats gs locals fits fit)

-- The entry

behind : (n m : ℕ) → n ≤ m → (j : ℕ) × (m ≡ n + j)
behind zero m e = (m, omega arith)
behind (suc n) zero e = absurd (omega (arith, e))
behind (suc n) (suc m) e = let (j, is) = behind n m (omega (arith, e)) in (j, omega (arith, is))

past : (a b o : ℕ) → a ≤ b → a ≤ b + o
past a b o e = omega (arith, e)

inside : (a b s o n j : ℕ) → b + o ≡ a + j → o < s → b + s ≤ a + n → j < n
inside a b s o n j e f g = omega (arith, e, f, g)

local_blank : (N : ℕ) (values : List Value) (locals : List Variable) (first k : ℕ) (b : Block) → first ≡ length values → slice_get (blocks_from N first locals) k ≡ Some b → HoldsVariable N b (values ++ replicate (sizes N locals) Undefined) (only Undefined)
local_blank N values locals first k b is e path at has =
    let (low, high) = block_within N first locals k b e in
    let (j, number) = behind first (number_in N b path at) (past first b.first (offset N b.of path at) low) in
    get_right values (replicate (sizes N locals) Undefined) j (number_in N b path at) Undefined (number ∙ ap (λ n. n + j) is)
    (get_blank (sizes N locals) j (inside first b.first (size N b.of) (offset N b.of path at) (sizes N locals) j number (cell_within N b.of path at has) high))

pub called_held : (N depth : ℕ) (layout : Layout) (values : List Value) (cells : Cells) (seats : List Seat) (gs : List Given) (locals : List Variable) → Holds N layout values cells → SeatsFit N layout seats gs → Holds N (called_layout N (length values) depth seats locals layout) (called_values N values seats locals) (entered (suc depth) gs cells)
called_held N depth layout values cells seats gs locals holds fit (Global k) b e path at has =
    get_left values (seat_values seats ++ replicate (sizes N locals) Undefined) (number_in N b path at) (cells (Global k) path at) (holds (Global k) b e path at has)
called_held N depth layout values cells seats gs locals holds fit (Local of k) b e path at has = go (nat_eq of (suc depth)) e path at has
  where
    go : (t : Bool) → (if t then slice_get (blocks_from N (length values + length (seat_values seats)) locals) k else layout (Local of k)) ≡ Some b → HoldsVariable N b (called_values N values seats locals) (if t then only Undefined else cells (Local of k))
    go true e =
        subst (λ xs. HoldsVariable N b xs (only Undefined)) (append_assoc values (seat_values seats) (replicate (sizes N locals) Undefined))
        (local_blank N (values ++ seat_values seats) locals (length values + length (seat_values seats)) k b (sym (length-append values (seat_values seats))) e)
    go false e = λ path at has. get_left values (seat_values seats ++ replicate (sizes N locals) Undefined) (number_in N b path at) (cells (Local of k) path at) (holds (Local of k) b e path at has)
called_held N depth layout values cells seats gs locals holds fit (Formal of k) b e path at has = go (nat_eq of (suc depth)) e path at has
  where
    go : (t : Bool) → (if t then seated (slice_get (seat_blocks (length values) seats) k) else layout (Formal of k)) ≡ Some b → HoldsVariable N b (called_values N values seats locals) (if t then filled (slice_get gs k) else cells (Formal of k))
    go true e = seat_held N layout (length values) seats gs k b values (replicate (sizes N locals) Undefined) fit e refl
    go false e = λ path at has. get_left values (seat_values seats ++ replicate (sizes N locals) Undefined) (number_in N b path at) (cells (Formal of k) path at) (holds (Formal of k) b e path at has)

-- What was in scope before

next_deeper : (depth of : ℕ) → of ≡ suc depth → nat_lt depth of ≡ true
next_deeper depth of e = lt-ltb depth of (subst (λ n. depth < n) (sym e) (omega arith))

pub still : (depth : ℕ) (seats : List (Option Block)) (locals : List Block) (layout : Layout) → NoneDeeper layout depth → (owner : Owner) (b : Block) → layout owner ≡ Some b → inner_layout (suc depth) seats locals layout owner ≡ Some b
still depth seats locals layout shallow (Global k) b e = e
still depth seats locals layout shallow (Local of k) b e = go (nat_eq of (suc depth)) refl
  where
    go : (t : Bool) → nat_eq of (suc depth) ≡ t → (if t then slice_get locals k else layout (Local of k)) ≡ Some b
    go false was = e
    go true was = let (none, other) = shallow of k (next_deeper depth of (eqb-true of (suc depth) was)) in absurd (none_some (sym none ∙ e))
still depth seats locals layout shallow (Formal of k) b e = go (nat_eq of (suc depth)) refl
  where
    go : (t : Bool) → nat_eq of (suc depth) ≡ t → (if t then seated (slice_get seats k) else layout (Formal of k)) ≡ Some b
    go false was = e
    go true was = let (other, none) = shallow of k (next_deeper depth of (eqb-true of (suc depth) was)) in absurd (none_some (sym none ∙ e))

pub places_stay : (N count depth : ℕ) (layout : Layout) (seats : List Seat) (locals : List Variable) (p : Place) (b : Block) → NoneDeeper layout depth → IsPlaced N layout p b → IsPlaced N (called_layout N count depth seats locals layout) p b
places_stay N count depth layout seats locals p b shallow there = record {
  whole = there.whole;
  found = still depth (seat_blocks count seats) (blocks_from N (count + length (seat_values seats)) locals) layout shallow p.owner there.whole there.found;
  below = there.below;
}

pub deepest : (N count depth : ℕ) (layout : Layout) (seats : List Seat) (locals : List Variable) → NoneDeeper layout depth → NoneDeeper (called_layout N count depth seats locals layout) (suc depth)
deepest N count depth layout seats locals shallow of k deep =
    let further : suc depth < of = ltb-true (suc depth) of deep in
    let deeper : nat_lt depth of ≡ true = lt-ltb depth of (omega (arith, further)) in
    let (a, b) = shallow of k deeper in (
      go (nat_eq of (suc depth)) refl (slice_get (blocks_from N (count + length (seat_values seats)) locals) k) (layout (Local of k)) a,
      go (nat_eq of (suc depth)) refl (seated (slice_get (seat_blocks count seats) k)) (layout (Formal of k)) b,
    )
  where
    go : (c : Bool) → nat_eq of (suc depth) ≡ c → (o p : Option Block) → p ≡ None → (if c then o else p) ≡ None
    go false was o p none = none
    go true was o p none =
        let same : of ≡ suc depth = eqb-true of (suc depth) was in
        let further : suc depth < of = ltb-true (suc depth) of deep in
        absurd (omega (arith, same, further))

below_count : (a b s n : ℕ) → b < s → a + s ≤ n → a + b < n
below_count a b s n low high = omega (arith, low, high)

pub called_left : (N count depth : ℕ) (layout : Layout) (seats : List Seat) (locals : List Variable) (after : List Value) (cells : Cells) → IsLayout N layout count → NoneDeeper layout depth → Holds N (called_layout N count depth seats locals layout) after cells → Holds N layout (take count after) cells
called_left N count depth layout seats locals after cells fits shallow holds owner b e path at has =
    get_taken after count (number_in N b path at) (below_count b.first (offset N b.of path at) (size N b.of) count (cell_within N b.of path at has) (fits.within owner b e))
    ∙ holds owner b (still depth (seat_blocks count seats) (blocks_from N (count + length (seat_values seats)) locals) layout shallow owner b e) path at has
