-- A log without the chains that its last one does not stand on is a derivation still.
use Rattle.std.proofs.Common.{◌≡◌, ℕ, ◌+◌, ◌-◌, ◌<◌, ◌≤◌, ◌++◌, ◌⊎◌, zero, suc, Bool, true, false, List, [], ◌∷◌, length, get_or, take, drop, map, refl, sym, ◌∙◌, ap, subst, inl, inr, arith, Some, None, Option}
use Rattle.std.specs.Prelude.{All, IsSomeAnd, slice_get, fold, option_map, if◌then◌else◌}
use Rattle.std.specs.List.{AllByRecursion}
use Rattle.std.specs.Option.{option_and_then}
use Rattle.std.proofs.lemmas.Bool.{both_ways, cases_lt, cases_Bool, lt-ltb, le-ltb}
use Rattle.std.proofs.lemmas.List.{length-append, length-map, get_or_append_left, get_or-append_right, take_more, drop_more, map_push, take-append-drop, take_all, nil_from_length}
use Rattle.std.proofs.lemmas.List.Elements.{recursion_from_All, All-weaker}
use Rattle.std.proofs.lemmas.Option.{slice_get-map, slice_get-get_or, slice_get_within, get_or_from_slice_get}
use Rattle.clause_core.specs.declared.literal.Lit.{Lit}
use Rattle.clause_derivation.specs.declared.chain.Chain.{Chain}
use Rattle.clause_derivation.specs.declared.chain.Resolve.{Resolve}
use Rattle.clause_derivation.specs.Resolution.{resolvent, IsSameSet}
use Rattle.clause_derivation.specs.Derivation.{next, chain_end, Derives, IsDerivation, results, last_result}
use Rattle.clause_derivation.specs.Trimming.{numbers, IsWanted, AreClosed, lowered, lowered_step, lowered_chain}
use Rattle.clause_derivation.proofs.NumberLemmas.{slice_get-append_left, slice_get-append_right}
use Rattle.clause_derivation.proofs.DerivationLemmas.{grows, parts}
use Rattle.clause_derivation.proofs.RangeLemmas.{Used, used}

-- A chain with other numbers derives the same where these name the same clauses.

next_same : (old new : List (List Lit)) (base : ℕ) (dropped : List ℕ) (o : Option (List Lit)) (s : Resolve) → slice_get new (lowered base dropped s.with) ≡ slice_get old s.with → next new o (lowered_step base dropped s) ≡ next old o s
next_same old new base dropped None s e = refl
next_same old new base dropped (Some c) s e = ap (option_and_then (resolvent s.pivot c)) e

steps_same : (old new : List (List Lit)) (base : ℕ) (dropped : List ℕ) (o : Option (List Lit)) (steps : List Resolve) → AllByRecursion (λ s. slice_get new (lowered base dropped s.with) ≡ slice_get old s.with) steps → fold (next new) o (map (lowered_step base dropped) steps) ≡ fold (next old) o steps
steps_same old new base dropped o [] h = refl
steps_same old new base dropped o (s ∷ steps) h =
    ap (λ p. fold (next new) p (map (lowered_step base dropped) steps)) (next_same old new base dropped o s h.0)
    ∙ steps_same old new base dropped (next old o s) steps h.1

agree_steps : (old new : List (List Lit)) (base i count : ℕ) (needed : List Bool) (dropped : List ℕ) (steps : List Resolve) → AllByRecursion (λ s. s.with < count) steps → AllByRecursion (IsWanted base i needed) (map (λ s. s.with) steps) → ((n : ℕ) → n < count → IsWanted base i needed n → slice_get new (lowered base dropped n) ≡ slice_get old n) → AllByRecursion (λ s. slice_get new (lowered base dropped s.with) ≡ slice_get old s.with) steps
agree_steps old new base i count needed dropped [] u w f = tt
agree_steps old new base i count needed dropped (s ∷ steps) u w f = (f s.with u.0 w.0, agree_steps old new base i count needed dropped steps u.1 w.1 f)

end_same : (old new : List (List Lit)) (base i count : ℕ) (needed : List Bool) (dropped : List ℕ) (ch : Chain) → Used count ch → AllByRecursion (IsWanted base i needed) (numbers ch) → ((n : ℕ) → n < count → IsWanted base i needed n → slice_get new (lowered base dropped n) ≡ slice_get old n) → chain_end new (lowered_chain base dropped ch) ≡ chain_end old ch
end_same old new base i count needed dropped ch u w f =
    ap (λ o. fold (next new) o (map (lowered_step base dropped) ch.steps)) (f ch.first u.first w.0)
    ∙ steps_same old new base dropped (slice_get old ch.first) ch.steps (agree_steps old new base i count needed dropped ch.steps u.steps w.1 f)

-- What the loop over the chains keeps: each needed chain so far is kept, lower by as many as were
-- dropped before it, and what is kept is a derivation where the log is one.
pub record Kept (base : ℕ) (chains : List Chain) (needed : List Bool) (i : ℕ) (dropped : List ℕ) (out : List Chain) : Type 0 where
  pub count : length dropped ≡ i
  pub fewer : length out ≤ i
  pub found : (j : ℕ) → j < i → get_or needed j false ≡ true → (get_or dropped j 0 ≤ j) × (slice_get (results out) (j - get_or dropped j 0) ≡ slice_get (results chains) j)
  pub derived : (clauses : List (List Lit)) → length clauses ≡ base → IsDerivation clauses chains → IsDerivation clauses out
  pub last : 0 < i → get_or needed (i - 1) false ≡ true → last_result out ≡ last_result (take i chains)

front_same : (chains : List Chain) (i j : ℕ) → j < i → slice_get (results (take i chains)) j ≡ slice_get (results chains) j
front_same chains zero j h = absurd (omega arith)
front_same [] (suc i) j h = refl
front_same (ch ∷ chains) (suc i) zero h = refl
front_same (ch ∷ chains) (suc i) (suc j) h = front_same chains i j (omega arith)

-- a number that is used names the same clause as before
number_same : (base : ℕ) (chains : List Chain) (needed : List Bool) (i : ℕ) (dropped more : List ℕ) (out : List Chain) (clauses : List (List Lit)) → length clauses ≡ base → i ≤ length chains → Kept base chains needed i dropped out → (n : ℕ) → n < base + i → IsWanted base i needed n → slice_get (clauses ++ results out) (lowered base (dropped ++ more) n) ≡ slice_get (clauses ++ results (take i chains)) n
number_same base chains needed i dropped more out clauses e h k n b w = elim (cases_lt n base) [
  | inl lt ↦
      let c : n < length clauses = omega arith in
      rw (lt-ltb n base lt) (slice_get-append_left clauses (results out) n c ∙ sym (slice_get-append_left clauses (results (take i chains)) n c))
  | inr le ↦
      let j : ℕ = n - base in
      let small : n - base < i = omega arith in
      let own : get_or (dropped ++ more) (n - base) 0 ≡ get_or dropped (n - base) 0 = get_or_append_left dropped more 0 (n - base) (subst (λ m. n - base < m) (sym k.count) small) in
      let f : (get_or dropped (n - base) 0 ≤ n - base) × (slice_get (results out) (n - base - get_or dropped (n - base) 0) ≡ slice_get (results chains) (n - base)) = k.found (n - base) small (w le b) in
      let bound : get_or dropped (n - base) 0 ≤ n - base = f.0 in
      let place : n - get_or dropped (n - base) 0 ≡ length clauses + (n - base - get_or dropped (n - base) 0) = omega (arith, e) in
      let whole : length clauses + (n - base) ≡ n = omega (arith, e) in
      rw (le-ltb n base le, own, place)
      (slice_get-append_right clauses (results out) (n - base - get_or dropped (n - base) 0)
      ∙ f.1 ∙ sym (front_same chains i (n - base) small)
      ∙ sym (slice_get-append_right clauses (results (take i chains)) (n - base))
      ∙ ap (slice_get (clauses ++ results (take i chains))) whole)
]

-- the needed chain derives its result still
lowered_derives : (base : ℕ) (chains : List Chain) (needed : List Bool) (i : ℕ) (dropped more : List ℕ) (out : List Chain) (clauses : List (List Lit)) (ch : Chain) → length clauses ≡ base → i ≤ length chains → Kept base chains needed i dropped out → AllByRecursion (IsWanted base i needed) (numbers ch) → Derives (clauses ++ results (take i chains)) ch → Derives (clauses ++ results out) (lowered_chain base (dropped ++ more) ch)
lowered_derives base chains needed i dropped more out clauses ch e h k w d =
    let old : List (List Lit) = clauses ++ results (take i chains) in
    let new : List (List Lit) = clauses ++ results out in
    let size : length (clauses ++ results (take i chains)) ≤ base + i = size_of in
    let u : Used (length old) ch = used old ch d in
    subst (λ o. IsSomeAnd o (λ c. IsSameSet c ch.result))
    (sym (end_same old new base i (length old) needed (dropped ++ more) ch u w (λ n b v. number_same base chains needed i dropped more out clauses e h k n (omega arith) v))) d where
      taken : (xs : List Chain) (m : ℕ) → length (take m xs) ≤ m
      taken xs zero = omega arith
      taken [] (suc m) = omega arith
      taken (x ∷ xs) (suc m) = let r : length (take m xs) ≤ m = taken xs m in omega arith

      size_of : length (clauses ++ results (take i chains)) ≤ base + i
      size_of = let t : length (take i chains) ≤ i = taken chains i in omega (arith, length-append clauses (results (take i chains)), length-map (take i chains) (λ (c : Chain). c.result), e)

last_push : (xs : List Chain) (x : Chain) → last_result (xs ++ x ∷ []) ≡ Some x.result
last_push xs x =
    let n : length (xs ++ x ∷ []) - 1 ≡ length xs + 0 = omega (arith, length-append xs (x ∷ [])) in
    ap (λ k. option_map (λ (ch : Chain). ch.result) (slice_get (xs ++ x ∷ []) k)) n
    ∙ ap (option_map (λ (ch : Chain). ch.result)) (slice_get-append_right xs (x ∷ []) 0)

-- one more chain, which is not needed
kept_without : (base : ℕ) (chains : List Chain) (needed : List Bool) (i : ℕ) (dropped : List ℕ) (out : List Chain) (n : ℕ) → Kept base chains needed i dropped out → get_or needed i false ≡ false → Kept base chains needed (i + 1) (dropped ++ n ∷ []) out
kept_without base chains needed i dropped out n k no_need = record {
  count = omega (arith, length-append dropped (n ∷ []), k.count);
  fewer = let f : length out ≤ i = k.fewer in omega arith;
  found = λ j h t. elim (cases_lt j i) [
    | inl lt ↦
        let own : get_or (dropped ++ n ∷ []) j 0 ≡ get_or dropped j 0 = get_or_append_left dropped (n ∷ []) 0 j (subst (λ m. j < m) (sym k.count) lt) in
        subst (λ m. (m ≤ j) × (slice_get (results out) (j - m) ≡ slice_get (results chains) j)) (sym own) (k.found j lt t)
    | inr le ↦ absurd (let e : j ≡ i = omega arith in both_ways (get_or needed i false) no_need (subst (λ m. get_or needed m false ≡ true) e t))
  ];
  derived = k.derived;
  last = λ h t. absurd (let e : i + 1 - 1 ≡ i = omega arith in both_ways (get_or needed i false) no_need (subst (λ m. get_or needed m false ≡ true) e t));
}

-- one more chain, which is needed
kept_with : (base : ℕ) (chains : List Chain) (needed : List Bool) (i : ℕ) (dropped : List ℕ) (out : List Chain) (n : ℕ) (ch : Chain) → i < length chains → n ≡ i - length out → ch ≡ get_or chains i ch → AllByRecursion (IsWanted base i needed) (numbers ch) → Kept base chains needed i dropped out → Kept base chains needed (i + 1) (dropped ++ n ∷ []) (out ++ lowered_chain base (dropped ++ n ∷ []) ch ∷ [])
kept_with base chains needed i dropped out n ch h e is w k = record {
  count = omega (arith, length-append dropped (n ∷ []), k.count);
  fewer = let f : length out ≤ i = k.fewer in omega (arith, length-append out (low ∷ []));
  found = λ j b t. elim (cases_lt j i) [
    | inl lt ↦ subst (λ m. (m ≤ j) × (slice_get (results (out ++ low ∷ [])) (j - m) ≡ slice_get (results chains) j))
        (sym (get_or_append_left dropped (n ∷ []) 0 j (subst (λ m. j < m) (sym k.count) lt)))
        (earlier j lt (k.found j lt t))
    | inr le ↦ let s : i ≡ j = omega arith in subst (λ m. (get_or (dropped ++ n ∷ []) m 0 ≤ m) × (slice_get (results (out ++ low ∷ [])) (m - get_or (dropped ++ n ∷ []) m 0) ≡ slice_get (results chains) m)) s here
  ];
  derived = λ clauses s d. grows clauses out low (k.derived clauses s d)
      (lowered_derives base chains needed i dropped (n ∷ []) out clauses ch s (omega arith) k w
      (parts clauses (take i chains) (drop (i + 1) chains) ch (subst (IsDerivation clauses) split d)));
  last = λ b t. last_push out low ∙ sym (ap last_result more ∙ last_push (take i chains) ch);
} where
  low : Chain
  low = lowered_chain base (dropped ++ n ∷ []) ch

  pushed : results (out ++ low ∷ []) ≡ results out ++ ch.result ∷ []
  pushed = map_push (λ (x : Chain). x.result) out low

  result_at : (j : ℕ) → j < length chains → (c : Chain) → slice_get (results chains) j ≡ Some ((get_or chains j c).result)
  result_at j b c = slice_get-map (λ (x : Chain). x.result) chains j ∙ ap (option_map (λ (x : Chain). x.result)) (slice_get-get_or chains j c b)

  earlier : (j : ℕ) → j < i → (get_or dropped j 0 ≤ j) × (slice_get (results out) (j - get_or dropped j 0) ≡ slice_get (results chains) j) → (get_or dropped j 0 ≤ j) × (slice_get (results (out ++ low ∷ [])) (j - get_or dropped j 0) ≡ slice_get (results chains) j)
  earlier j lt f =
      let inside : j - get_or dropped j 0 < length (results out) = slice_get_within (results out) (j - get_or dropped j 0) ((get_or chains j ch).result) (f.1 ∙ result_at j (omega arith) ch) in
      (f.0, ap (λ (xs : List (List Lit)). slice_get xs (j - get_or dropped j 0)) pushed ∙ slice_get-append_left (results out) (ch.result ∷ []) (j - get_or dropped j 0) inside ∙ f.1)

  own : get_or (dropped ++ n ∷ []) i 0 ≡ n
  own = get_or-append_right dropped (n ∷ []) i i 0 k.count (omega arith) ∙ (let z : i - i ≡ 0 = omega arith in ap (λ m. get_or (n ∷ []) m 0) z)

  place : i - n ≡ length (results out) + 0
  place = let f : length out ≤ i = k.fewer in omega (arith, e, length-map out (λ (x : Chain). x.result))

  here : (get_or (dropped ++ n ∷ []) i 0 ≤ i) × (slice_get (results (out ++ low ∷ [])) (i - get_or (dropped ++ n ∷ []) i 0) ≡ slice_get (results chains) i)
  here = subst (λ m. (m ≤ i) × (slice_get (results (out ++ low ∷ [])) (i - m) ≡ slice_get (results chains) i)) (sym own) (
    omega (arith, e),
    ap (λ (xs : List (List Lit)). slice_get xs (i - n)) pushed ∙ ap (slice_get (results out ++ ch.result ∷ [])) place
        ∙ slice_get-append_right (results out) (ch.result ∷ []) 0 ∙ sym (result_at i h ch ∙ ap (λ (c : Chain). Some c.result) (sym is)),
  )

  more : take (i + 1) chains ≡ take i chains ++ ch ∷ []
  more = take_more chains i ch h ∙ ap (λ c. take i chains ++ c ∷ []) (sym is)

  split : chains ≡ take i chains ++ ch ∷ drop (i + 1) chains
  split = sym (take-append-drop i chains) ∙ ap (λ cs. take i chains ++ cs) (drop_more chains i ch h ∙ ap (λ c. c ∷ drop (i + 1) chains) (sym is))

pub kept_more : (base : ℕ) (chains : List Chain) (needed : List Bool) (i : ℕ) (dropped : List ℕ) (out new : List Chain) (n : ℕ) (ch : Chain) → i < length chains → n ≡ i - length out → ch ≡ get_or chains i ch → AreClosed base 0 chains needed → Kept base chains needed i dropped out → new ≡ (if get_or needed i false then out ++ lowered_chain base (dropped ++ n ∷ []) ch ∷ [] else out) → Kept base chains needed (i + 1) (dropped ++ n ∷ []) new
kept_more base chains needed i dropped out new n ch h e is closed k same = go (cases_Bool (get_or needed i false)) where
  go : (get_or needed i false ≡ true) ⊎ (get_or needed i false ≡ false) → Kept base chains needed (i + 1) (dropped ++ n ∷ []) new
  go (inl t) = subst (Kept base chains needed (i + 1) (dropped ++ n ∷ [])) (sym (same ∙ ap (λ b. if b then out ++ lowered_chain base (dropped ++ n ∷ []) ch ∷ [] else out) t))
      (kept_with base chains needed i dropped out n ch h e is
      (recursion_from_All (IsWanted base i needed) (numbers ch) (closed i ch (omega arith) (slice_get-get_or chains i ch h ∙ ap (λ (c : Chain). Some c) (sym is)) t)) k)
  go (inr f) = subst (Kept base chains needed (i + 1) (dropped ++ n ∷ [])) (sym (same ∙ ap (λ b. if b then out ++ lowered_chain base (dropped ++ n ∷ []) ch ∷ [] else out) f))
      (kept_without base chains needed i dropped out n k f)

pub kept_none : (base : ℕ) (chains : List Chain) (needed : List Bool) → Kept base chains needed 0 [] []
kept_none base chains needed = record {
  count = refl;
  fewer = omega arith;
  found = λ j h t. absurd (omega arith);
  derived = λ clauses e d. tt;
  last = λ h t. absurd (omega arith);
}

pub kept_last : (base : ℕ) (chains : List Chain) (needed : List Bool) (i : ℕ) (dropped : List ℕ) (out : List Chain) → length chains ≤ i → i ≤ length chains → Kept base chains needed i dropped out → (0 < length chains → get_or needed (length chains - 1) false ≡ true) → last_result out ≡ last_result chains
kept_last base chains needed i dropped out h g k t = elim (cases_lt 0 (length chains)) [
  | inl some ↦
      let e : length chains ≡ i = omega arith in
      k.last (omega arith) (subst (λ m. get_or needed (m - 1) false ≡ true) e (t some)) ∙ ap last_result (take_all i chains h)
  | inr none ↦
      let f : length out ≤ i = k.fewer in
      ap last_result (nil_from_length out (omega arith) ∙ sym (nil_from_length chains (omega arith)))
]

-- the front of a derivation is one
pub front_derived : (clauses : List (List Lit)) (chains : List Chain) (n : ℕ) → IsDerivation clauses chains → IsDerivation clauses (take n chains)
front_derived clauses chains zero d = tt
front_derived clauses [] (suc n) d = tt
front_derived clauses (ch ∷ chains) (suc n) d = (d.0, front_derived (clauses ++ ch.result ∷ []) chains n d.1)

-- What is wanted stays so where more is marked.
pub wanted_kept : (base below : ℕ) (old new : List Bool) (n : ℕ) → ((k : ℕ) → get_or old k false ≡ true → get_or new k false ≡ true) → IsWanted base below old n → IsWanted base below new n
wanted_kept base below old new n f w a b = f (n - base) (w a b)

-- one chain less is left
pub closed_more : (base i j : ℕ) (chains : List Chain) (old new : List Bool) (d : Chain) → j ≡ i - 1 → 0 < i → i ≤ length chains → AreClosed base i chains old → All (IsWanted base j new) (numbers (get_or chains j d)) → ((k : ℕ) → get_or old k false ≡ true → get_or new k false ≡ true) → ((k : ℕ) → j ≤ k → get_or new k false ≡ get_or old k false) → AreClosed base j chains new
closed_more base i j chains old new d e some h closed w kept later m ch b is t = elim (cases_lt j m) [
  | inl lt ↦ All-weaker (IsWanted base m old) (IsWanted base m new) (λ n v. wanted_kept base m old new n kept v) (numbers ch)
      (closed m ch (omega arith) is (sym (later m b) ∙ t))
  | inr le ↦
      let s : j ≡ m = omega arith in
      let own : ch ≡ get_or chains j d = sym (get_or_from_slice_get chains j ch d (subst (λ n. slice_get chains n ≡ Some ch) (sym s) is)) in
      subst (λ n. All (IsWanted base n new) (numbers ch)) s (subst (λ (x : Chain). All (IsWanted base j new) (numbers x)) (sym own) w)
]

-- a chain that is not needed wants nothing
pub closed_without : (base i j : ℕ) (chains : List Chain) (needed : List Bool) → j ≡ i - 1 → 0 < i → get_or needed j false ≡ false → AreClosed base i chains needed → AreClosed base j chains needed
closed_without base i j chains needed e some no_need closed m ch b is t = elim (cases_lt j m) [
  | inl lt ↦ closed m ch (omega arith) is t
  | inr le ↦ absurd (let s : m ≡ j = omega arith in both_ways (get_or needed j false) no_need (subst (λ n. get_or needed n false ≡ true) s t))
]

pub closed_none : (base i : ℕ) (chains : List Chain) (needed : List Bool) → length chains ≤ i → AreClosed base i chains needed
closed_none base i chains needed h m ch b is t = absurd (let w : m < length chains = slice_get_within chains m ch is in omega arith)
