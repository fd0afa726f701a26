-- What an opened term says in a frame of its prefix.
use Rattle.std.proofs.Common.{◌≡◌, ℕ, suc, ◌+◌, ◌-◌, ◌<◌, ◌≤◌, max, Bool, true, false, not, ◌&&◌, ◌||◌, cond, List, [], ◌∷◌, ◌++◌, length, Some, refl, sym, ap, ◌∙◌, arith}
use Rattle.std.specs.Prelude.{nat_lt, slice_get}
use Rattle.std.specs.List.{list_all, list_any}
use Rattle.std.proofs.lemmas.Bool.{and_parts}
use Rattle.term_core.specs.declared.value.Value.{Value}
use Rattle.term_core.specs.declared.term.Term as t
use Rattle.term_core.specs.declared.term.Term.{Term, Row_of-Term, end_of-Term, more_of-Term}
use Rattle.term_core.specs.Nodes.{nodes, is_node}
use Rattle.term_core.specs.Values.{truth, same_truth}
use Rattle.term_core.specs.Forms.{NotForm, IfForm, SameForm, LessForm, ArithForm, QuantifiedForm}
use Rattle.term_core.specs.Meaning.{Cells, value_of, row_all, row_any, holds_at}
use Rattle.term_core.specs.Substitution.{placed}
use Rattle.term_core.specs.Laws.{PlacingBinds}
use Rattle.lemma_strengthen.specs.Opening.{signed, joined, quantified, takes, splits, both_take, passed, taken, row_taken, opened, row_opened}
use Rattle.lemma_strengthen.proofs.TermLemmas.{list_all_same, value-Not, value-And, value-Or, value-Quantified}
use Rattle.lemma_strengthen.proofs.PlacingLemmas.{Picks, placed_is, picks_more}
use Rattle.lemma_strengthen.proofs.NodeLemmas.{quantified_at, quantified_fails, frame_node, not_not, any_is}

-- both or one of two
abbrev both : Bool → Bool → Bool → Bool
both true a b = a && b
both false a b = a || b

-- all of a list or one of it
abbrev says : {X : Type 0} → Bool → (X → Bool) → List X → Bool
says shares p [] = shares
says shares p (x ∷ xs) = both shares (p x) (says shares p xs)

says_all : {X : Type 0} (p : X → Bool) (xs : List X) → list_all p xs ≡ says true p xs
says_all p [] = refl
says_all p (x ∷ xs) = ap (λ b. p x && b) (says_all p xs)

says_any : {X : Type 0} (p : X → Bool) (xs : List X) → list_any p xs ≡ says false p xs
says_any p [] = refl
says_any p (x ∷ xs) = ap (λ b. p x || b) (says_any p xs)

sign_not : (sign b : Bool) → same_truth sign (not b) ≡ same_truth (not sign) b
sign_not true b = refl
sign_not false b = not_not b

sign_and : (sign a b : Bool) → same_truth sign (a && b) ≡ both sign (same_truth sign a) (same_truth sign b)
sign_and true a b = refl
sign_and false true b = refl
sign_and false false b = refl

sign_or : (sign a b : Bool) → same_truth sign (a || b) ≡ both (not sign) (same_truth sign a) (same_truth sign b)
sign_or true a b = refl
sign_or false true b = refl
sign_or false false b = refl

truth_if : (b : Bool) (x y : Value) → truth (cond b x y) ≡ cond b (truth x) (truth y)
truth_if true x y = refl
truth_if false x y = refl

both_true : (shares a b a' b' : Bool) → both shares a b ≡ true → (a ≡ true → a' ≡ true) → (b ≡ true → b' ≡ true) → both shares a' b' ≡ true
both_true true true true a' b' h f g = ap (λ x. x && b') (f refl) ∙ g refl
both_true true true false a' b' h f g = cc
both_true true false b a' b' h f g = cc
both_true false true b a' b' h f g = ap (λ x. x || b') (f refl)
both_true false false true true b' h f g = refl
both_true false false true false b' h f g = g refl
both_true false false false a' b' h f g = cc

module _ (binds : PlacingBinds) (N : ℕ) (c : Cells) where
  -- what the parts of a row say under a sign
  row_says : {n : _} → Bool → Bool → List ℕ → Row_of-Term n → Bool
  row_says shares sign front end_of-Term = shares
  row_says shares sign front (more_of-Term x rest) = both shares (same_truth sign (truth (value_of N c front x))) (row_says shares sign front rest)

  all_says : {n : _} (sign : Bool) (front : List ℕ) (row : Row_of-Term n) → same_truth sign (row_all N c front row) ≡ row_says sign sign front row
  unfolding value_of row_says
  all_says true front end_of-Term = refl
  all_says false front end_of-Term = refl
  all_says sign front (more_of-Term x rest) =
      sign_and sign (truth (value_of N c front x)) (row_all N c front rest) ∙ ap (both sign (same_truth sign (truth (value_of N c front x)))) (all_says sign front rest)

  any_says : {n : _} (sign : Bool) (front : List ℕ) (row : Row_of-Term n) → same_truth sign (row_any N c front row) ≡ row_says (not sign) sign front row
  unfolding value_of row_says
  any_says true front end_of-Term = refl
  any_says false front end_of-Term = refl
  any_says sign front (more_of-Term x rest) =
      sign_or sign (truth (value_of N c front x)) (row_any N c front rest) ∙ ap (both (not sign) (same_truth sign (truth (value_of N c front x)))) (any_says sign front rest)

  joined_says : (shares : Bool) (frame : List ℕ) (ts : List Term) → truth (value_of N c frame (joined shares ts)) ≡ says shares (λ x. truth (value_of N c frame x)) ts
  joined_says true frame ts = ap truth (value-And N c frame ts) ∙ says_all _ ts
  joined_says false frame ts = ap truth (value-Or N c frame ts) ∙ says_any _ ts

  two_says : (frame : List ℕ) (a b d e : Term) → truth (value_of N c frame (t.And (t.Or (a ∷ b ∷ []) ∷ t.Or (d ∷ e ∷ []) ∷ []))) ≡ (truth (value_of N c frame a) || truth (value_of N c frame b)) && (truth (value_of N c frame d) || truth (value_of N c frame e))
  two_says frame a b d e =
      joined_says true frame (t.Or (a ∷ b ∷ []) ∷ t.Or (d ∷ e ∷ []) ∷ [])
      ∙ ap (λ x. x && (truth (value_of N c frame (t.Or (d ∷ e ∷ []))) && true)) (two a b)
      ∙ ap (λ x. (truth (value_of N c frame a) || truth (value_of N c frame b)) && (x && true)) (two d e)
      ∙ ap (λ x. (truth (value_of N c frame a) || truth (value_of N c frame b)) && x) (and_true _)
    where
      or_false : (x : Bool) → (x || false) ≡ x
      or_false true = refl
      or_false false = refl

      and_true : (x : Bool) → (x && true) ≡ x
      and_true true = refl
      and_true false = refl

      two : (x y : Term) → truth (value_of N c frame (t.Or (x ∷ y ∷ []))) ≡ (truth (value_of N c frame x) || truth (value_of N c frame y))
      two x y = joined_says false frame (x ∷ y ∷ []) ∙ ap (λ b. truth (value_of N c frame x) || b) (or_false _)

  leaf_value : (to : ℕ) (sign : Bool) (frame : List ℕ) (vs : List Term) (front : List ℕ) (x : Term) → length frame ≡ to → Picks N c frame vs front → truth (value_of N c frame (signed sign (placed to vs x))) ≡ same_truth sign (truth (value_of N c front x))
  leaf_value to true frame vs front x long picks = ap truth (placed_is binds N c to frame vs front x long picks)
  leaf_value to false frame vs front x long picks = ap truth (value-Not N c frame (placed to vs x)) ∙ ap (λ y. not (truth y)) (placed_is binds N c to frame vs front x long picks)

  -- a quantifier that stays, under a sign
  quantified_value : (sign all : Bool) (front : List ℕ) (x : Term) → truth (value_of N c front (quantified sign all x)) ≡ same_truth sign (holds_at all (λ n. truth (value_of N c (front ++ n ∷ []) x)) (nodes N))
  quantified_value true all front x = ap truth (value-Quantified N c front all x)
  quantified_value false true front x = ap truth (value-Not N c front (t.Quantified true x)) ∙ ap (λ y. not (truth y)) (value-Quantified N c front true x)
  quantified_value false false front x =
      ap truth (value-Quantified N c front true (t.Not x))
      ∙ list_all_same _ (λ n. not (truth (value_of N c (front ++ n ∷ []) x))) (nodes N) (λ n. ap truth (value-Not N c (front ++ n ∷ []) x))
      ∙ sym (not_not _) ∙ ap not (sym (any_is (λ n. truth (value_of N c (front ++ n ∷ []) x)) (nodes N)))

  stays_value : (to : ℕ) (sign all : Bool) (frame : List ℕ) (vs : List Term) (front : List ℕ) (x : Term) → length frame ≡ to → Picks N c frame vs front
      → truth (value_of N c frame (placed to vs (quantified sign all x))) ≡ same_truth sign (holds_at all (λ n. truth (value_of N c (front ++ n ∷ []) x)) (nodes N))
  stays_value to sign all frame vs front x long picks = ap truth (placed_is binds N c to frame vs front (quantified sign all x) long picks) ∙ quantified_value sign all front x

  if_says : (sign ta tb td na ob pa od : Bool) → same_truth sign (cond ta tb td) ≡ true → (not ta ≡ true → na ≡ true) → (same_truth sign tb ≡ true → ob ≡ true) → (ta ≡ true → pa ≡ true) → (same_truth sign td ≡ true → od ≡ true)
      → ((na || ob) && (pa || od)) ≡ true
  if_says sign true tb td na ob pa od h f g i j = ap (λ x. (na || x) && (pa || od)) (g h) ∙ ap (λ x. (na || true) && (x || od)) (i refl) ∙ ap (λ x. x && true) (or_true na)
    where
      or_true : (x : Bool) → (x || true) ≡ true
      or_true true = refl
      or_true false = refl
  if_says sign false tb td na ob pa od h f g i j = ap (λ x. (x || ob) && (pa || od)) (f refl) ∙ ap (λ x. pa || x) (j h) ∙ or_true pa
    where
      or_true : (x : Bool) → (x || true) ≡ true
      or_true true = refl
      or_true false = refl

  module _ (to : ℕ) (frame : List ℕ) (long : length frame ≡ to) (within : list_all (is_node N) frame ≡ true) where
    -- one quantifier is opened
    quantifier_true : (sign all : Bool) (vs : List Term) (front : List ℕ) (next left : ℕ) (x : Term) (o : Term) → Picks N c frame vs front → left ≤ to - next
        → ((n : ℕ) → Picks N c frame (vs ++ t.Var next ∷ []) (front ++ n ∷ []) → left - 1 ≤ to - suc next → same_truth sign (truth (value_of N c (front ++ n ∷ []) x)) ≡ true → truth (value_of N c frame o) ≡ true)
        → same_truth sign (holds_at all (λ n. truth (value_of N c (front ++ n ∷ []) x)) (nodes N)) ≡ true
        → (b : Bool) → takes sign all left ≡ b
        → truth (value_of N c frame (cond b o (placed to vs (quantified sign all x)))) ≡ true
    quantifier_true sign all vs front next left x o picks room step h true was =
        let s = and_parts (same_truth sign all) (nat_lt 0 left) was in
        let some : 0 < left = grind (arith, s.1) in
        let here = frame_node N frame next within (omega (arith, room, some, long)) in
        step here.node (picks_more N c frame vs front next here.node picks here.there) (omega (arith, room))
        (quantified_at N sign all (λ n. truth (value_of N c (front ++ n ∷ []) x)) here.node s.0 h here.is)
    quantifier_true sign all vs front next left x o picks room step h false was = stays_value to sign all frame vs front x long picks ∙ h

    mutual
      unfolding value_of taken opened row_says

      pub opened_true : (sign : Bool) (vs : List Term) (front : List ℕ) (next left : ℕ) (x : Term) → Picks N c frame vs front → left ≤ to - next → same_truth sign (truth (value_of N c front x)) ≡ true → truth (value_of N c frame (opened to sign vs next left x)) ≡ true
      opened_true sign vs front next left (t.Known x) picks room h = leaf_value to sign frame vs front (t.Known x) long picks ∙ h
      opened_true sign vs front next left (t.Var k) picks room h = leaf_value to sign frame vs front (t.Var k) long picks ∙ h
      opened_true sign vs front next left (t.Read' f p at) picks room h = leaf_value to sign frame vs front (t.Read' f p at) long picks ∙ h
      opened_true sign vs front next left (SameForm a b) picks room h = leaf_value to sign frame vs front (SameForm a b) long picks ∙ h
      opened_true sign vs front next left (LessForm a b) picks room h = leaf_value to sign frame vs front (LessForm a b) long picks ∙ h
      opened_true sign vs front next left (ArithForm op a b) picks room h = leaf_value to sign frame vs front (ArithForm op a b) long picks ∙ h
      opened_true sign vs front next left (NotForm a) picks room h = opened_true (not sign) vs front next left a picks room (sym (sign_not sign _) ∙ h)
      opened_true sign vs front next left (t.And' _ parts) picks room h =
          joined_says sign frame (row_opened to sign sign vs next left parts) ∙ row_true sign sign vs front next left parts picks room (sym (all_says sign front parts) ∙ h)
      opened_true sign vs front next left (t.Or' _ parts) picks room h =
          joined_says (not sign) frame (row_opened to (not sign) sign vs next left parts) ∙ row_true (not sign) sign vs front next left parts picks room (sym (any_says sign front parts) ∙ h)
      opened_true sign vs front next left (IfForm a b d) picks room h =
          elim (splits a b d) as (λ q. truth (value_of N c frame (cond q (t.And (t.Or (opened to false vs next left a ∷ opened to sign vs (next + taken false left a) (left - taken false left a) b ∷ []) ∷ t.Or (opened to true vs next left a ∷ opened to sign vs (next + taken true left a) (left - taken true left a) d ∷ []) ∷ [])) (signed sign (placed to vs (IfForm a b d))))) ≡ true) [
            | true ↦ two_says frame (opened to false vs next left a) (opened to sign vs (next + taken false left a) (left - taken false left a) b) (opened to true vs next left a) (opened to sign vs (next + taken true left a) (left - taken true left a) d)
                ∙ if_says sign (truth (value_of N c front a)) (truth (value_of N c front b)) (truth (value_of N c front d)) _ _ _ _ (sym (ap (same_truth sign) (truth_if (truth (value_of N c front a)) _ _)) ∙ h)
                (λ e. opened_true false vs front next left a picks room e)
                (λ e. opened_true sign vs front (next + taken false left a) (left - taken false left a) b picks (omega (arith, room)) e)
                (λ e. opened_true true vs front next left a picks room e)
                (λ e. opened_true sign vs front (next + taken true left a) (left - taken true left a) d picks (omega (arith, room)) e)
            | false ↦ leaf_value to sign frame vs front (IfForm a b d) long picks ∙ h
          ]
      opened_true sign vs front next left (QuantifiedForm all a) picks room h =
          quantifier_true sign all vs front next left a (opened to sign (vs ++ t.Var next ∷ []) (suc next) (left - 1) a) picks room
          (λ n p r e. opened_true sign (vs ++ t.Var next ∷ []) (front ++ n ∷ []) (suc next) (left - 1) a p r e) h (takes sign all left) refl

      row_true : {n : _} (shares sign : Bool) (vs : List Term) (front : List ℕ) (next left : ℕ) (row : Row_of-Term n) → Picks N c frame vs front → left ≤ to - next → row_says shares sign front row ≡ true → says shares (λ x. truth (value_of N c frame x)) (row_opened to shares sign vs next left row) ≡ true
      row_true shares sign vs front next left end_of-Term picks room h = h
      row_true shares sign vs front next left (more_of-Term x rest) picks room h =
          both_true shares _ _ _ _ h (λ e. opened_true sign vs front next left x picks room e)
          (λ e. row_true shares sign vs front (next + passed shares (taken sign left x)) (left - passed shares (taken sign left x)) rest picks (omega (arith, room)) e)

-- nodes for the variables from this one on, so that a term is false in each frame that has them
abbrev pub Assigns : ℕ → ℕ → (ℕ → ℕ) → List ℕ → Type 0
Assigns next count a frame = (i : ℕ) → next ≤ i → i < next + count → slice_get frame i ≡ Some (a i)

pub record Refutes (N : ℕ) (c : Cells) (to : ℕ) (vs : List Term) (front : List ℕ) (next count : ℕ) (x : Term) : Type 0 where
  pub nodes : ℕ → ℕ
  pub are : (i : ℕ) → is_node N (nodes i) ≡ true
  pub false_there : (frame : List ℕ) → length frame ≡ to → Picks N c frame vs front → Assigns next count nodes frame → truth (value_of N c frame x) ≡ false

-- the same of a list of terms
record RefutesParts (N : ℕ) (c : Cells) (to : ℕ) (shares : Bool) (vs : List Term) (front : List ℕ) (next count : ℕ) (xs : List Term) : Type 0 where
  pub nodes : ℕ → ℕ
  pub are : (i : ℕ) → is_node N (nodes i) ≡ true
  pub false_there : (frame : List ℕ) → length frame ≡ to → Picks N c frame vs front → Assigns next count nodes frame → says shares (λ x. truth (value_of N c frame x)) xs ≡ false

-- nodes up to a variable, and others from there on
abbrev split_at : ℕ → (ℕ → ℕ) → (ℕ → ℕ) → ℕ → ℕ
split_at mid a b i = cond (nat_lt i mid) (a i) (b i)

split_are : (N mid : ℕ) (a b : ℕ → ℕ) → ((i : ℕ) → is_node N (a i) ≡ true) → ((i : ℕ) → is_node N (b i) ≡ true) → (i : ℕ) → is_node N (split_at mid a b i) ≡ true
split_are N mid a b f g i = go (nat_lt i mid)
  where
    go : (q : Bool) → is_node N (cond q (a i) (b i)) ≡ true
    go true = f i
    go false = g i

split_low : (next first count : ℕ) (a b : ℕ → ℕ) (frame : List ℕ) → first ≤ count → Assigns next count (split_at (next + first) a b) frame → Assigns next first a frame
split_low next first count a b frame less all i low high =
    let e : nat_lt i (next + first) ≡ true = grind (arith, high) in
    all i low (omega (arith, high, less)) ∙ ap (λ q. Some (cond q (a i) (b i))) e

split_high : (next first second count : ℕ) (a b : ℕ → ℕ) (frame : List ℕ) → first + second ≤ count → Assigns next count (split_at (next + first) a b) frame → Assigns (next + first) second b frame
split_high next first second count a b frame less all i low high =
    let e : nat_lt i (next + first) ≡ false = grind (arith, low) in
    all i (omega (arith, low)) (omega (arith, high, less)) ∙ ap (λ q. Some (cond q (a i) (b i))) e

assigns_less : (next first count : ℕ) (a : ℕ → ℕ) (frame : List ℕ) → first ≤ count → Assigns next count a frame → Assigns next first a frame
assigns_less next first count a frame less all i low high = all i low (omega (arith, high, less))

max_first : (a b : ℕ) → a ≤ max a b
max_first a b = grind arith

max_second : (a b : ℕ) → b ≤ max a b
max_second a b = grind arith

if_within : (left u w a b : ℕ) → u ≤ left → w ≤ left → a ≤ left - u → b ≤ left - w → max (u + a) (w + b) ≤ left
if_within left u w a b f g h i = grind (arith, f, g, h, i)

one_within : (sign all : Bool) (left u : ℕ) → u ≤ left - 1 → (b : Bool) → takes sign all left ≡ b → cond b (suc u) 0 ≤ left
one_within sign all left u less true was = let s : nat_lt 0 left ≡ true = (and_parts (same_truth sign all) (nat_lt 0 left) was).1 in let h : 0 < left = grind (arith, s) in omega (arith, h, less)
one_within sign all left u less false was = omega arith

part_within : (shares : Bool) (left u w : ℕ) → u ≤ left → w ≤ left - passed shares u → both_take shares u w ≤ left
part_within true left u w f g = grind (arith, f, g)
part_within false left u w f g = omega (arith, f, g)

mutual
  unfolding taken

  -- opening takes no more variables than are left
  pub taken_within : (sign : Bool) (left : ℕ) (x : Term) → taken sign left x ≤ left
  taken_within sign left (t.Known x) = omega arith
  taken_within sign left (t.Var k) = omega arith
  taken_within sign left (t.Read' f _ at) = omega arith
  taken_within sign left (SameForm a b) = omega arith
  taken_within sign left (LessForm a b) = omega arith
  taken_within sign left (ArithForm op a b) = omega arith
  taken_within sign left (NotForm a) = taken_within (not sign) left a
  taken_within sign left (t.And' _ parts) = row_within sign sign left parts
  taken_within sign left (t.Or' _ parts) = row_within (not sign) sign left parts
  taken_within sign left (IfForm a b d) =
      elim (splits a b d) as (λ q. cond q (max (taken false left a + taken sign (left - taken false left a) b) (taken true left a + taken sign (left - taken true left a) d)) 0 ≤ left) [
        | true ↦ if_within left (taken false left a) (taken true left a) _ _ (taken_within false left a) (taken_within true left a) (taken_within sign (left - taken false left a) b) (taken_within sign (left - taken true left a) d)
        | false ↦ omega arith
      ]
  taken_within sign left (QuantifiedForm all a) = one_within sign all left (taken sign (left - 1) a) (taken_within sign (left - 1) a) (takes sign all left) refl

  row_within : {n : _} (shares sign : Bool) (left : ℕ) (row : Row_of-Term n) → row_taken shares sign left row ≤ left
  row_within shares sign left end_of-Term = omega arith
  row_within shares sign left (more_of-Term x rest) = part_within shares left (taken sign left x) _ (taken_within sign left x) (row_within shares sign (left - passed shares (taken sign left x)) rest)

module _ (binds : PlacingBinds) (N : ℕ) (c : Cells) (some : 1 ≤ N) (to : ℕ) where
  quantifier_false : (sign all : Bool) (vs : List Term) (front : List ℕ) (next left count : ℕ) (x o : Term)
      → ((n : ℕ) → same_truth sign (truth (value_of N c (front ++ n ∷ []) x)) ≡ false → Refutes N c to (vs ++ t.Var next ∷ []) (front ++ n ∷ []) (suc next) count o)
      → same_truth sign (holds_at all (λ n. truth (value_of N c (front ++ n ∷ []) x)) (nodes N)) ≡ false
      → (b : Bool) → takes sign all left ≡ b
      → Refutes N c to vs front next (cond b (suc count) 0) (cond b o (placed to vs (quantified sign all x)))
  quantifier_false sign all vs front next left count x o step h true was =
      let s = and_parts (same_truth sign all) (nat_lt 0 left) was in
      let f = quantified_fails N sign all (λ n. truth (value_of N c (front ++ n ∷ []) x)) s.0 h in
      let r = step f.at f.fails in
      record {
        nodes = split_at (next + 1) (λ i. f.at) r.nodes;
        are = split_are N (next + 1) (λ i. f.at) r.nodes (λ i. f.node) r.are;
        false_there = λ frame long picks taken. r.false_there frame long
            (picks_more N c frame vs front next f.at picks (split_low next 1 (suc count) (λ i. f.at) r.nodes frame (omega arith) taken next (omega arith) (omega arith)))
            (λ i low high. split_high next 1 count (suc count) (λ i. f.at) r.nodes frame (omega arith) taken i (omega (arith, low)) (omega (arith, high)));
      }
  quantifier_false sign all vs front next left count x o step h false was =
      record { nodes = λ i. 1; are = λ i. grind (arith, some); false_there = λ frame long picks taken. stays_value binds N c to sign all frame vs front x long picks ∙ h }

  leaf_false : (sign : Bool) (vs : List Term) (front : List ℕ) (next : ℕ) (x : Term) → same_truth sign (truth (value_of N c front x)) ≡ false → Refutes N c to vs front next 0 (signed sign (placed to vs x))
  leaf_false sign vs front next x h = record { nodes = λ i. 1; are = λ i. grind (arith, some); false_there = λ frame long picks all. leaf_value binds N c to sign frame vs front x long picks ∙ h }

  -- a clause of two parts, of which the second takes what the first left
  clause_false : (vs : List Term) (front : List ℕ) (next first second count : ℕ) (x y : Term) → first + second ≤ count → Refutes N c to vs front next first x → Refutes N c to vs front (next + first) second y → (frame : List ℕ) → length frame ≡ to → Picks N c frame vs front
      → (r : Refutes N c to vs front next first x) → (s : Refutes N c to vs front (next + first) second y) → Assigns next count (split_at (next + first) r.nodes s.nodes) frame → (truth (value_of N c frame x) || truth (value_of N c frame y)) ≡ false
  clause_false vs front next first second count x y less ra sa frame long picks r s all =
      ap (λ b. b || truth (value_of N c frame y)) (r.false_there frame long picks (split_low next first count r.nodes s.nodes frame (omega (arith, less)) all))
      ∙ s.false_there frame long picks (split_high next first second count r.nodes s.nodes frame less all)

  and_false : (x : Bool) → (x && false) ≡ false
  and_false true = refl
  and_false false = refl

  if_false : (sign : Bool) (vs : List Term) (front : List ℕ) (next u w uu ww : ℕ) (ta tb td : Bool) (a b p d : Term) → same_truth sign (cond ta tb td) ≡ false
      → (ta ≡ true → Refutes N c to vs front next u a) → (same_truth sign tb ≡ false → Refutes N c to vs front (next + u) uu b) → (ta ≡ false → Refutes N c to vs front next w p) → (same_truth sign td ≡ false → Refutes N c to vs front (next + w) ww d)
      → Refutes N c to vs front next (max (u + uu) (w + ww)) (t.And (t.Or (a ∷ b ∷ []) ∷ t.Or (p ∷ d ∷ []) ∷ []))
  if_false sign vs front next u w uu ww true tb td a b p d h f g i j =
      let r = f refl in let s = g h in
      record {
        nodes = split_at (next + u) r.nodes s.nodes;
        are = split_are N (next + u) r.nodes s.nodes r.are s.are;
        false_there = λ frame long picks all. two_says binds N c frame a b p d ∙ ap (λ x. x && (truth (value_of N c frame p) || truth (value_of N c frame d))) (clause_false vs front next u uu (max (u + uu) (w + ww)) a b (max_first (u + uu) (w + ww)) r s frame long picks r s all);
      }
  if_false sign vs front next u w uu ww false tb td a b p d h f g i j =
      let r = i refl in let s = j h in
      record {
        nodes = split_at (next + w) r.nodes s.nodes;
        are = split_are N (next + w) r.nodes s.nodes r.are s.are;
        false_there = λ frame long picks all. two_says binds N c frame a b p d ∙ ap (λ x. (truth (value_of N c frame a) || truth (value_of N c frame b)) && x) (clause_false vs front next w ww (max (u + uu) (w + ww)) p d (max_second (u + uu) (w + ww)) r s frame long picks r s all) ∙ and_false _;
      }

  -- one part more
  part_false : (shares bx br : Bool) (vs : List Term) (front : List ℕ) (next u w : ℕ) (x : Term) (xs : List Term) → both shares bx br ≡ false
      → (bx ≡ false → Refutes N c to vs front next u x) → (br ≡ false → RefutesParts N c to shares vs front (next + passed shares u) w xs)
      → RefutesParts N c to shares vs front next (both_take shares u w) (x ∷ xs)
  part_false true false br vs front next u w x xs h f g =
      let r = f refl in
      record {
        nodes = r.nodes;
        are = r.are;
        false_there = λ frame long picks all. ap (λ b. b && says true (λ x. truth (value_of N c frame x)) xs) (r.false_there frame long picks (assigns_less next u (max u w) r.nodes frame (max_first u w) all));
      }
  part_false true true br vs front next u w x xs h f g =
      let r = g h in
      record {
        nodes = r.nodes;
        are = r.are;
        false_there = λ frame long picks all. ap (λ b. truth (value_of N c frame x) && b) (r.false_there frame long picks (λ i low high. all i (omega (arith, low)) (omega (arith, high, max_second u w)))) ∙ and_false _;
      }
  part_false false true br vs front next u w x xs h f g = cc
  part_false false false br vs front next u w x xs h f g =
      let r = f refl in let s = g h in
      record {
        nodes = split_at (next + u) r.nodes s.nodes;
        are = split_are N (next + u) r.nodes s.nodes r.are s.are;
        false_there = λ frame long picks all.
            ap (λ b. b || says false (λ x. truth (value_of N c frame x)) xs) (r.false_there frame long picks (split_low next u (u + w) r.nodes s.nodes frame (omega arith) all))
            ∙ s.false_there frame long picks (split_high next u w (u + w) r.nodes s.nodes frame (omega arith) all);
      }

  joined_false : (shares : Bool) (vs : List Term) (front : List ℕ) (next count : ℕ) (xs : List Term) → RefutesParts N c to shares vs front next count xs → Refutes N c to vs front next count (joined shares xs)
  joined_false shares vs front next count xs r = record { nodes = r.nodes; are = r.are; false_there = λ frame long picks all. joined_says binds N c shares frame xs ∙ r.false_there frame long picks all }

  not_of : (b : Bool) → same_truth false b ≡ false → b ≡ true
  not_of true h = refl
  not_of false h = cc

  mutual
    unfolding value_of taken opened row_says

    pub opened_false : (sign : Bool) (vs : List Term) (front : List ℕ) (next left : ℕ) (x : Term) → same_truth sign (truth (value_of N c front x)) ≡ false → Refutes N c to vs front next (taken sign left x) (opened to sign vs next left x)
    opened_false sign vs front next left (t.Known x) h = leaf_false sign vs front next (t.Known x) h
    opened_false sign vs front next left (t.Var k) h = leaf_false sign vs front next (t.Var k) h
    opened_false sign vs front next left (t.Read' f p at) h = leaf_false sign vs front next (t.Read' f p at) h
    opened_false sign vs front next left (SameForm a b) h = leaf_false sign vs front next (SameForm a b) h
    opened_false sign vs front next left (LessForm a b) h = leaf_false sign vs front next (LessForm a b) h
    opened_false sign vs front next left (ArithForm op a b) h = leaf_false sign vs front next (ArithForm op a b) h
    opened_false sign vs front next left (NotForm a) h = opened_false (not sign) vs front next left a (sym (sign_not sign _) ∙ h)
    opened_false sign vs front next left (t.And' _ parts) h = joined_false sign vs front next _ _ (row_false sign sign vs front next left parts (sym (all_says binds N c sign front parts) ∙ h))
    opened_false sign vs front next left (t.Or' _ parts) h = joined_false (not sign) vs front next _ _ (row_false (not sign) sign vs front next left parts (sym (any_says binds N c sign front parts) ∙ h))
    opened_false sign vs front next left (IfForm a b d) h =
        elim (splits a b d) as (λ q. Refutes N c to vs front next (cond q (max (taken false left a + taken sign (left - taken false left a) b) (taken true left a + taken sign (left - taken true left a) d)) 0) (cond q (t.And (t.Or (opened to false vs next left a ∷ opened to sign vs (next + taken false left a) (left - taken false left a) b ∷ []) ∷ t.Or (opened to true vs next left a ∷ opened to sign vs (next + taken true left a) (left - taken true left a) d ∷ []) ∷ [])) (signed sign (placed to vs (IfForm a b d))))) [
          | true ↦ if_false sign vs front next (taken false left a) (taken true left a) (taken sign (left - taken false left a) b) (taken sign (left - taken true left a) d) (truth (value_of N c front a)) (truth (value_of N c front b)) (truth (value_of N c front d)) _ _ _ _
              (sym (ap (same_truth sign) (truth_if (truth (value_of N c front a)) _ _)) ∙ h)
              (λ e. opened_false false vs front next left a (ap not e))
              (λ e. opened_false sign vs front (next + taken false left a) (left - taken false left a) b e)
              (λ e. opened_false true vs front next left a e)
              (λ e. opened_false sign vs front (next + taken true left a) (left - taken true left a) d e)
          | false ↦ leaf_false sign vs front next (IfForm a b d) h
        ]
    opened_false sign vs front next left (QuantifiedForm all a) h =
        quantifier_false sign all vs front next left (taken sign (left - 1) a) a (opened to sign (vs ++ t.Var next ∷ []) (suc next) (left - 1) a)
        (λ n e. opened_false sign (vs ++ t.Var next ∷ []) (front ++ n ∷ []) (suc next) (left - 1) a e) h (takes sign all left) refl

    row_false : {n : _} (shares sign : Bool) (vs : List Term) (front : List ℕ) (next left : ℕ) (row : Row_of-Term n) → row_says binds N c shares sign front row ≡ false → RefutesParts N c to shares vs front next (row_taken shares sign left row) (row_opened to shares sign vs next left row)
    row_false shares sign vs front next left end_of-Term h = record { nodes = λ i. 1; are = λ i. grind (arith, some); false_there = λ frame long picks all. h }
    row_false shares sign vs front next left (more_of-Term x rest) h =
        part_false shares _ _ vs front next (taken sign left x) (row_taken shares sign (left - passed shares (taken sign left x)) rest) _ _ h (λ e. opened_false sign vs front next left x e)
        (λ e. row_false shares sign vs front (next + passed shares (taken sign left x)) (left - passed shares (taken sign left x)) rest e)
