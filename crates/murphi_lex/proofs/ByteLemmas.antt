-- How a run of bytes, a closing `*/` and the value of digits go on by one byte, and how far each goes.
use Rattle.std.proofs.Common.{◌≡◌, ℕ, zero, suc, ◌+◌, ◌*◌, ◌-◌, ◌<◌, ◌≤◌, Bool, true, false, cond, ◌&&◌, List, [], ◌∷◌, length, drop, get_or, refl, ap, sym, ◌∙◌, subst, drop-cons, arith, Option, None, Some}
use Rattle.std.specs.Prelude.{option_map, if◌then◌else◌, ◌==◌, slice_index, nat_le}
use Rattle.std.specs.List.{prefix_len}
use Rattle.std.proofs.lemmas.Grind.{common_steps}
use Rattle.murphi_ast.specs.Bytes.{decimal_from, greatest_number, is_line_byte, is_word_byte, is_letter, is_digit}
use Rattle.murphi_ast.specs.Spelling.{opens_comment}
use Rattle.murphi_lex.specs.Scanning.{closing, number_value, sign_length, belongs}
use Rattle.murphi_lex.specs.declared.bytes.Run.TheVariants as run

and_none : (b : Bool) (x y : Option ℕ) → y ≡ None → cond (b && false) x y ≡ None
and_none true x y e = e
and_none false x y e = e

-- a comment that is not closed at its first byte is closed behind it
pub closing-drop : (bs : List ℕ) (i : ℕ) → i < length bs →
    closing (drop i bs) ≡ (if slice_index bs i == 42 && slice_index bs (suc i) == 47 then Some 2 else option_map (λ n. n + 1) (closing (drop (suc i) bs)))
closing-drop [] i h = absurd (omega arith)
closing-drop (b ∷ []) zero h = sym (and_none (b == 42) _ _ refl)
closing-drop (b ∷ c ∷ bs) zero h = refl
closing-drop (b ∷ bs) (suc i) h = closing-drop bs i (omega arith)

map_plus : (o whole : Option ℕ) (i : ℕ) → option_map (λ n. n + i) (option_map (λ n. n + 1) o) ≡ whole → option_map (λ n. n + (i + 1)) o ≡ whole
map_plus None whole i h = h
map_plus (Some n) whole i h = let e : n + (i + 1) ≡ n + 1 + i = omega arith in rw e h

not_closed : (t : Bool) (x y o whole : Option ℕ) (i : ℕ) → t ≡ false → o ≡ (if t then x else y) → option_map (λ n. n + i) o ≡ whole → option_map (λ n. n + i) y ≡ whole
not_closed true x y o whole i f e h = cc
not_closed false x y o whole i f e h = ap (option_map (λ n. n + i)) (sym e) ∙ h

closed_here : (t : Bool) (y o whole : Option ℕ) (i : ℕ) → t ≡ true → o ≡ (if t then Some 2 else y) → option_map (λ n. n + i) o ≡ whole → Some (i + 2) ≡ whole
closed_here true y o whole i f e h = let k : i + 2 ≡ 2 + i = omega arith in ap Some k ∙ ap (option_map (λ n. n + i)) (sym e) ∙ h
closed_here false y o whole i f e h = cc

-- where no `*/` stands at an index, the bytes behind it say where one is
pub closing_more : (bs : List ℕ) (i : ℕ) (whole : Option ℕ) → i < length bs → (slice_index bs i == 42 && slice_index bs (i + 1) == 47) ≡ false →
    option_map (λ n. n + i) (closing (drop i bs)) ≡ whole → option_map (λ n. n + (i + 1)) (closing (drop (i + 1) bs)) ≡ whole
closing_more bs i whole h f e =
    let k : i + 1 ≡ suc i = omega arith in
    let f' : (slice_index bs i == 42 && slice_index bs (suc i) == 47) ≡ false = subst (λ (j : ℕ). (slice_index bs i == 42 && slice_index bs j == 47) ≡ false) k f in
    let r : option_map (λ n. n + (i + 1)) (closing (drop (suc i) bs)) ≡ whole =
    map_plus (closing (drop (suc i) bs)) whole i (not_closed _ (Some 2) (option_map (λ n. n + 1) (closing (drop (suc i) bs))) _ whole i f' (closing-drop bs i h) e) in
    subst (λ (j : ℕ). option_map (λ n. n + (i + 1)) (closing (drop j bs)) ≡ whole) (sym k) r

-- where `*/` stands at an index and nowhere before, it is the first
pub closing_here : (bs : List ℕ) (i : ℕ) (whole : Option ℕ) → i < length bs → (slice_index bs i == 42 && slice_index bs (i + 1) == 47) ≡ true →
    option_map (λ n. n + i) (closing (drop i bs)) ≡ whole → Some (i + 2) ≡ whole
closing_here bs i whole h f e =
    let k : i + 1 ≡ suc i = omega arith in
    let f' : (slice_index bs i == 42 && slice_index bs (suc i) == 47) ≡ true = subst (λ (j : ℕ). (slice_index bs i == 42 && slice_index bs j == 47) ≡ true) k f in
    closed_here _ (option_map (λ n. n + 1) (closing (drop (suc i) bs))) _ whole i f' (closing-drop bs i h) e

pub ruleset closings = (closing_more, closing_here)

-- digits behind others make the value no smaller
pub decimal_from-ge : (n : ℕ) (ds : List ℕ) → n ≤ decimal_from n ds
decimal_from-ge n [] = omega arith
decimal_from-ge n (d ∷ ds) = omega (arith, decimal_from-ge (n * 10 + (d - 48)) ds)

no_value : (n : ℕ) → 32767 < n → (if nat_le n greatest_number then Some n else None) ≡ None
no_value n h = grind (arith, common_steps)

-- digits whose value is too great already have none
pub too_great : (digits : List ℕ) (i value : ℕ) → i < length digits → decimal_from value (drop i digits) ≡ decimal_from 0 digits → 32767 < value * 10 + (get_or digits i 0 - 48) → number_value digits ≡ None
too_great digits i value h e g =
    let k : drop i digits ≡ get_or digits i 0 ∷ drop (suc i) digits = drop-cons digits i 0 h in
    let m : decimal_from value (get_or digits i 0 ∷ drop (suc i) digits) ≡ decimal_from 0 digits = subst (λ (ds : List ℕ). decimal_from value ds ≡ decimal_from 0 digits) k e in
    no_value (decimal_from 0 digits) (omega (arith, decimal_from-ge (value * 10 + (get_or digits i 0 - 48)) (drop (suc i) digits), m))

letter_is : (b : ℕ) → is_letter b ≡ true → is_word_byte b ≡ true
letter_is b e = grind (arith, e)

-- a run is not empty where its first byte belongs to it
pub run_begins : (p : ℕ → Bool) (b : ℕ) (bs : List ℕ) → p b ≡ true → 0 < prefix_len p (b ∷ bs)
run_begins p b bs e = grind (arith, e)

pub letter_first : (bs : List ℕ) → is_letter (slice_index bs 0) ≡ true → 0 < prefix_len (belongs run.Word) bs
letter_first [] e = cc
letter_first (b ∷ bs) e = run_begins is_word_byte b bs (letter_is b e)

pub digit_first : (bs : List ℕ) → is_digit (slice_index bs 0) ≡ true → 0 < prefix_len (belongs run.Digits) bs
digit_first [] e = cc
digit_first (b ∷ bs) e = run_begins is_digit b bs e

pub ruleset runs = (letter_first, digit_first)

-- a sign has no more bytes than there are
pub sign_length-le : (bs : List ℕ) → sign_length bs ≤ length bs
sign_length-le [] = omega arith
sign_length-le (b ∷ []) = grind (arith, common_steps)
sign_length-le (b ∷ c ∷ []) = grind (arith, common_steps)
sign_length-le (b ∷ c ∷ d ∷ bs) = grind (arith, common_steps)

pub ruleset sign_lengths = (sign_length-le)

pub comment_long : (bs : List ℕ) → opens_comment bs ≡ true → 2 ≤ length bs
comment_long [] e = cc
comment_long (b ∷ []) e = cc
comment_long (b ∷ c ∷ bs) e = omega arith

pub line_begins : (bs : List ℕ) → opens_comment bs ≡ true → slice_index bs 0 ≡ 45 → 0 < prefix_len is_line_byte bs
line_begins [] e f = cc
line_begins (b ∷ bs) e f = run_begins is_line_byte b bs (subst (λ (x : ℕ). is_line_byte x ≡ true) (sym f) refl)

pub ruleset comments = (comment_long, line_begins)
