-- Choices with more nodes after them.
use Rattle.std.proofs.Common.{◌≡◌, ℕ, zero, suc, ◌+◌, ◌-◌, ◌<◌, ◌≤◌, max, Bool, true, false, ◌&&◌, cond, List, [], ◌∷◌, ◌++◌, length, map, length-append, refl, sym, ap, ◌∙◌, subst, arith, append_assoc}
use Rattle.std.specs.Prelude.{nat_lt, nat_eq}
use Rattle.std.specs.List.{list_all}
use Rattle.std.proofs.lemmas.Bool.{and_parts}
use Rattle.std.proofs.lemmas.List.{append-nil}
use Rattle.std.proofs.lemmas.List.Folds.{list_all-append}
use Rattle.term_core.specs.declared.value.Value.{Value}
use Rattle.term_core.specs.declared.value.Value.TheVariants as v
use Rattle.term_core.specs.Nodes.{is_node}
use Rattle.other_abstract.specs.declared.node.AbsNode.{AbsNode}
use Rattle.other_abstract.specs.declared.node.AbsNode.TheVariants.{Kept, Fired, Other}
use Rattle.other_abstract.specs.declared.value.AbsValue.TheVariants as a
use Rattle.other_abstract.specs.Windows.{numbered_node}
use Rattle.other_abstract.specs.Machines.{read_kept, is_numbered, fired_after}
use Rattle.other_abstract.specs.Images.{is_chosen, later, place_in, are_distinct, IsChoice, renamed_node, renamed, extended}
use Rattle.other_abstract.proofs.ImageLemmas.{place_bound}

-- a place in the second of two lists
abbrev pub shifted : ℕ → ℕ → ℕ
shifted k zero = 0
shifted k (suc j) = k + suc j

later_shifted : (k p : ℕ) → later (shifted k p) ≡ shifted (suc k) p
later_shifted k zero = refl
later_shifted k (suc j) = let e : k + suc j ≡ suc (k + j) = omega arith in let f : suc (suc (k + j)) ≡ suc k + suc j = omega arith in ap later e ∙ f

pub place_append : (c more : List ℕ) (n : ℕ) → place_in (c ++ more) n ≡ cond (nat_eq (place_in c n) 0) (shifted (length c) (place_in more n)) (place_in c n)
place_append [] more n = go (place_in more n)
  where
    go : (p : ℕ) → p ≡ cond (nat_eq 0 0) (shifted 0 p) 0
    go zero = refl
    go (suc p) = omega arith
place_append (x ∷ xs) more n = go (nat_eq n x) (place_in xs n) (place_append xs more n)
  where
    go : (b : Bool) (p : ℕ) → place_in (xs ++ more) n ≡ cond (nat_eq p 0) (shifted (length xs) (place_in more n)) p → cond b 1 (later (place_in (xs ++ more) n)) ≡ cond (nat_eq (cond b 1 (later p)) 0) (shifted (suc (length xs)) (place_in more n)) (cond b 1 (later p))
    go true p e = refl
    go false zero e = ap later e ∙ later_shifted (length xs) (place_in more n)
    go false (suc p) e =
        let q : nat_eq (suc p) 0 ≡ false = grind arith in let r : nat_eq (suc (suc p)) 0 ≡ false = grind arith in
        ap later (e ∙ ap (λ b. cond b (shifted (length xs) (place_in more n)) (suc p)) q) ∙ sym (ap (λ b. cond b (shifted (suc (length xs)) (place_in more n)) (suc (suc p))) r)

pub place_first : (c more : List ℕ) (n : ℕ) → is_chosen c n ≡ true → place_in (c ++ more) n ≡ place_in c n
place_first c more n h = let e : nat_eq (place_in c n) 0 ≡ false = grind (arith, h) in place_append c more n ∙ ap (λ b. cond b (shifted (length c) (place_in more n)) (place_in c n)) e

pub place_second : (c more : List ℕ) (n : ℕ) → place_in c n ≡ 0 → place_in (c ++ more) n ≡ shifted (length c) (place_in more n)
place_second c more n h = let e : nat_eq (place_in c n) 0 ≡ true = grind (arith, h) in place_append c more n ∙ ap (λ b. cond b (shifted (length c) (place_in more n)) (place_in c n)) e

-- reading fired nodes as Other
fired_number : (m k : ℕ) → m < k → (j : ℕ) × (numbered_node m k ≡ Fired j)
fired_number m zero h = absurd (omega (arith, h))
fired_number m (suc k) h = let e : nat_lt k m ≡ false = grind (arith, h) in (suc k - m, ap (λ b. cond b (Kept (suc k)) (Fired (suc k - m))) e)

kept_number : (m k : ℕ) → k ≤ m → read_kept (a.Node (numbered_node m k)) ≡ a.Node (numbered_node m k)
kept_number m zero h = refl
kept_number m (suc k) h = let e : nat_lt k m ≡ true = grind (arith, h) in ap (λ b. read_kept (a.Node (cond b (Kept (suc k)) (Fired (suc k - m))))) e ∙ sym (ap (λ b. a.Node (cond b (Kept (suc k)) (Fired (suc k - m)))) e)

kept_name : (c more : List ℕ) (m n : ℕ) → length c ≡ m → read_kept (a.Node (numbered_node m (place_in (c ++ more) n))) ≡ a.Node (numbered_node m (place_in c n))
kept_name c more m n long = go (place_in c n) refl
  where
    go : (p : ℕ) → place_in c n ≡ p → read_kept (a.Node (numbered_node m (place_in (c ++ more) n))) ≡ a.Node (numbered_node m (place_in c n))
    go zero e = ap (λ k. read_kept (a.Node (numbered_node m k))) (place_second c more n e) ∙ past (place_in more n) ∙ ap (λ k. a.Node (numbered_node m k)) (sym e)
      where
        past : (q : ℕ) → read_kept (a.Node (numbered_node m (shifted (length c) q))) ≡ a.Node Other
        past zero = refl
        past (suc q) = let f = fired_number m (length c + suc q) (omega (arith, long)) in ap (λ x. read_kept (a.Node x)) f.1
    go (suc p) e =
        let h : is_chosen c n ≡ true = ap (nat_lt 0) e ∙ (grind arith) in
        ap (λ k. read_kept (a.Node (numbered_node m k))) (place_first c more n h) ∙ kept_number m (place_in c n) (subst (λ k. place_in c n ≤ k) long (place_bound c n))

pub kept_renamed : (c more : List ℕ) (m : ℕ) (x : Value) → length c ≡ m → read_kept (renamed m (c ++ more) x) ≡ renamed m c x
kept_renamed c more m v.Undefined long = refl
kept_renamed c more m (v.Truth b) long = refl
kept_renamed c more m (v.Number z) long = refl
kept_renamed c more m (v.Member k i) long = refl
kept_renamed c more m (v.Node n) long = kept_name c more m n long

-- one node more
distinct_more : (c : List ℕ) (n : ℕ) → are_distinct c ≡ true → place_in c n ≡ 0 → are_distinct (c ++ n ∷ []) ≡ true
distinct_more [] n once lacks = refl
distinct_more (x ∷ xs) n once lacks = go (nat_eq n x) refl lacks (λ q. distinct_more xs n p.1 q)
  where
    p : (nat_eq (place_in xs x) 0 ≡ true) × (are_distinct xs ≡ true)
    p = and_parts (nat_eq (place_in xs x) 0) (are_distinct xs) once

    none_later : (q : ℕ) → later q ≡ 0 → q ≡ 0
    none_later zero e = refl
    none_later (suc q) e = absurd (omega (arith, e))

    go : (b : Bool) → nat_eq n x ≡ b → cond b 1 (later (place_in xs n)) ≡ 0 → (place_in xs n ≡ 0 → are_distinct (xs ++ n ∷ []) ≡ true) → (nat_eq (place_in (xs ++ n ∷ []) x) 0 && are_distinct (xs ++ n ∷ [])) ≡ true
    go true was e rest = absurd (omega (arith, e))
    go false was e rest =
        let z : place_in xs x ≡ 0 = grind (arith, p.0) in
        let other : nat_eq x n ≡ false = grind (arith, was) in
        let f : place_in (xs ++ n ∷ []) x ≡ 0 = place_second xs (n ∷ []) x z ∙ ap (λ b. shifted (length xs) (cond b 1 (later 0))) other in
        let g : nat_eq (place_in (xs ++ n ∷ []) x) 0 ≡ true = grind (arith, f) in
        ap (λ b. b && are_distinct (xs ++ n ∷ [])) g ∙ rest (none_later (place_in xs n) e)

-- an extended choice begins with the choice
pub record Extends (N m : ℕ) (c ps : List ℕ) : Type 0 where
  pub more : List ℕ
  pub is : extended c ps ≡ c ++ more
  pub choice : IsChoice N m (extended c ps)
  pub chosen : list_all (is_chosen (extended c ps)) ps ≡ true

chosen_last : (c : List ℕ) (n : ℕ) → place_in c n ≡ 0 → place_in (c ++ n ∷ []) n ≡ length c + 1
chosen_last c n e = let q : nat_eq n n ≡ true = grind arith in place_second c (n ∷ []) n e ∙ ap (λ b. shifted (length c) (cond b 1 (later 0))) q

pub still_chosen : (c more : List ℕ) (n : ℕ) → is_chosen c n ≡ true → is_chosen (c ++ more) n ≡ true
still_chosen c more n h = ap (nat_lt 0) (place_first c more n h) ∙ h

pub extends : (N m : ℕ) (c ps : List ℕ) → IsChoice N m c → list_all (is_node N) ps ≡ true → Extends N m c ps
extends N m c [] choice are = record { more = []; is = sym (append-nil c); choice = choice; chosen = refl }
extends N m c (n ∷ ns) choice are = go (nat_eq (place_in c n) 0) refl (λ q. extends N m c ns choice p.1) (λ q. extends N m (c ++ n ∷ []) ns (choice_more q) p.1)
  where
    p : (is_node N n ≡ true) × (list_all (is_node N) ns ≡ true)
    p = and_parts (is_node N n) (list_all (is_node N) ns) are

    choice_more : place_in c n ≡ 0 → IsChoice N m (c ++ n ∷ [])
    choice_more q = record {
      nodes = list_all-append (is_node N) c (n ∷ []) ∙ ap (λ b. b && (is_node N n && true)) choice.nodes ∙ ap (λ b. b && true) p.0;
      once = distinct_more c n choice.once q;
      kept = omega (arith, choice.kept, length-append c (n ∷ []));
    }

    go : (b : Bool) → nat_eq (place_in c n) 0 ≡ b → (is_chosen c n ≡ true → Extends N m c ns) → (place_in c n ≡ 0 → Extends N m (c ++ n ∷ []) ns) → Extends N m c (n ∷ ns)
    go true was here later =
        let z : place_in c n ≡ 0 = grind (arith, was) in
        let r = later z in
        let e : extended c (n ∷ ns) ≡ extended (c ++ n ∷ []) ns = ap (λ b. cond b (extended (c ++ n ∷ []) ns) (extended c ns)) was in
        let h : is_chosen (c ++ n ∷ []) n ≡ true = ap (nat_lt 0) (chosen_last c n z) ∙ (grind arith) in
        record {
          more = n ∷ r.more;
          is = e ∙ r.is ∙ append_assoc c (n ∷ []) r.more;
          choice = subst (λ d. IsChoice N m d) (sym e) r.choice;
          chosen = ap (λ d. list_all (is_chosen d) (n ∷ ns)) e ∙ ap (λ b. b && list_all (is_chosen (extended (c ++ n ∷ []) ns)) ns) (ap (λ d. is_chosen d n) r.is ∙ still_chosen (c ++ n ∷ []) r.more n h) ∙ r.chosen;
        }
    go false was here later =
        let h : is_chosen c n ≡ true = grind (arith, was) in
        let r = here h in
        let e : extended c (n ∷ ns) ≡ extended c ns = ap (λ b. cond b (extended (c ++ n ∷ []) ns) (extended c ns)) was in
        record {
          more = r.more;
          is = e ∙ r.is;
          choice = subst (λ d. IsChoice N m d) (sym e) r.choice;
          chosen = ap (λ d. list_all (is_chosen d) (n ∷ ns)) e ∙ ap (λ b. b && list_all (is_chosen (extended c ns)) ns) (ap (λ d. is_chosen d n) r.is ∙ still_chosen c r.more n h) ∙ r.chosen;
        }

-- the pattern is numbered by first use
pub record Numbered (m fired : ℕ) (d ps : List ℕ) : Type 0 where
  pub numbered : is_numbered m fired (map (renamed_node m (extended d ps)) ps) ≡ true
  pub fired_is : fired_after fired (map (renamed_node m (extended d ps)) ps) ≡ length (extended d ps) - m

one_numbered : (m fired k : ℕ) (ns : List AbsNode) → 0 < k → k ≤ m + suc fired → (is_numbered m (max fired (k - m)) ns ≡ true) → (is_numbered m fired (numbered_node m k ∷ ns) ≡ true) × (fired_after fired (numbered_node m k ∷ ns) ≡ fired_after (max fired (k - m)) ns)
one_numbered m fired zero ns low high h = absurd (omega (arith, low))
one_numbered m fired (suc k) ns low high h = go (nat_lt k m) refl
  where
    go : (b : Bool) → nat_lt k m ≡ b → (is_numbered m fired (cond b (Kept (suc k)) (Fired (suc k - m)) ∷ ns) ≡ true) × (fired_after fired (cond b (Kept (suc k)) (Fired (suc k - m)) ∷ ns) ≡ fired_after (max fired (suc k - m)) ns)
    go true was =
        let l : k < m = grind (arith, was) in
        let z : suc k - m ≡ 0 = omega (arith, l) in
        let y : max fired (suc k - m) ≡ fired = grind (arith, z) in
        let q : is_node m (suc k) ≡ true = grind (arith, l) in
        (ap (λ b. b && is_numbered m fired ns) q ∙ sym (ap (λ j. is_numbered m j ns) y) ∙ h, sym (ap (λ j. fired_after j ns) y))
    go false was =
        let l : m ≤ k = grind (arith, was) in
        let x : 1 ≤ suc k - m = omega (arith, l) in let y : suc k - m ≤ suc fired = omega (arith, high) in
        let q : is_node (suc fired) (suc k - m) ≡ true = grind (arith, x, y) in
        (ap (λ b. b && is_numbered m (max fired (suc k - m)) ns) q ∙ h, refl)

pub numbered : (N m fired : ℕ) (d ps : List ℕ) → IsChoice N m d → list_all (is_node N) ps ≡ true → length d ≡ m + fired → Numbered m fired d ps
numbered N m fired d [] choice are long = record { numbered = refl; fired_is = omega (arith, long) }
numbered N m fired d (n ∷ ns) choice are long = go (nat_eq (place_in d n) 0) refl (λ q. (numbered N m fired d ns choice p.1 long, extends N m d ns choice p.1)) (λ q. (numbered N m (suc fired) (d ++ n ∷ []) ns (choice_more q) p.1 (omega (arith, long, length-append d (n ∷ []))), extends N m (d ++ n ∷ []) ns (choice_more q) p.1))
  where
    p : (is_node N n ≡ true) × (list_all (is_node N) ns ≡ true)
    p = and_parts (is_node N n) (list_all (is_node N) ns) are

    choice_more : place_in d n ≡ 0 → IsChoice N m (d ++ n ∷ [])
    choice_more q = record {
      nodes = list_all-append (is_node N) d (n ∷ []) ∙ ap (λ b. b && (is_node N n && true)) choice.nodes ∙ ap (λ b. b && true) p.0;
      once = distinct_more d n choice.once q;
      kept = omega (arith, choice.kept, length-append d (n ∷ []));
    }

    at_place : (k next : ℕ) (e : List ℕ) → place_in e n ≡ k → 0 < k → k ≤ m + suc fired → max fired (k - m) ≡ next → is_numbered m next (map (renamed_node m e) ns) ≡ true → fired_after next (map (renamed_node m e) ns) ≡ length e - m
        → (is_numbered m fired (map (renamed_node m e) (n ∷ ns)) ≡ true) × (fired_after fired (map (renamed_node m e) (n ∷ ns)) ≡ length e - m)
    at_place k next e is low high top f g =
        let r = one_numbered m fired k (map (renamed_node m e) ns) low high (ap (λ j. is_numbered m j (map (renamed_node m e) ns)) top ∙ f) in (
          ap (λ j. is_numbered m fired (numbered_node m j ∷ map (renamed_node m e) ns)) is ∙ r.0,
          ap (λ j. fired_after fired (numbered_node m j ∷ map (renamed_node m e) ns)) is ∙ r.1 ∙ ap (λ j. fired_after j (map (renamed_node m e) ns)) top ∙ g,
        )

    go : (b : Bool) → nat_eq (place_in d n) 0 ≡ b → (is_chosen d n ≡ true → Numbered m fired d ns × Extends N m d ns) → (place_in d n ≡ 0 → Numbered m (suc fired) (d ++ n ∷ []) ns × Extends N m (d ++ n ∷ []) ns) → Numbered m fired d (n ∷ ns)
    go true was here later =
        let z : place_in d n ≡ 0 = grind (arith, was) in
        let r = later z in
        let e : extended d (n ∷ ns) ≡ extended (d ++ n ∷ []) ns = ap (λ b. cond b (extended (d ++ n ∷ []) ns) (extended d ns)) was in
        let h : is_chosen (d ++ n ∷ []) n ≡ true = ap (nat_lt 0) (chosen_last d n z) ∙ (grind arith) in
        let k : place_in (extended (d ++ n ∷ []) ns) n ≡ length d + 1 = ap (λ x. place_in x n) r.1.is ∙ place_first (d ++ n ∷ []) r.1.more n h ∙ chosen_last d n z in
        let t : max fired (length d + 1 - m) ≡ suc fired = (let w : length d + 1 - m ≡ suc fired = omega (arith, long) in grind (arith, w)) in
        let s = at_place (length d + 1) (suc fired) (extended (d ++ n ∷ []) ns) k (omega arith) (omega (arith, long)) t r.0.numbered r.0.fired_is in
        record {
          numbered = ap (λ x. is_numbered m fired (map (renamed_node m x) (n ∷ ns))) e ∙ s.0;
          fired_is = ap (λ x. fired_after fired (map (renamed_node m x) (n ∷ ns))) e ∙ s.1 ∙ ap (λ x. length x - m) (sym e);
        }
    go false was here later =
        let h : is_chosen d n ≡ true = grind (arith, was) in
        let r = here h in
        let e : extended d (n ∷ ns) ≡ extended d ns = ap (λ b. cond b (extended (d ++ n ∷ []) ns) (extended d ns)) was in
        let k : place_in (extended d ns) n ≡ place_in d n = ap (λ x. place_in x n) r.1.is ∙ place_first d r.1.more n h in
        let u : place_in d n ≤ length d = place_bound d n in
        let l : 0 < place_in d n = grind (arith, h) in
        let t : max fired (place_in d n - m) ≡ fired = (let w : place_in d n - m ≤ fired = omega (arith, u, long) in grind (arith, w)) in
        let s = at_place (place_in d n) fired (extended d ns) k l (omega (arith, u, long)) t r.0.numbered r.0.fired_is in
        record {
          numbered = ap (λ x. is_numbered m fired (map (renamed_node m x) (n ∷ ns))) e ∙ s.0;
          fired_is = ap (λ x. fired_after fired (map (renamed_node m x) (n ∷ ns))) e ∙ s.1 ∙ ap (λ x. length x - m) (sym e);
        }
