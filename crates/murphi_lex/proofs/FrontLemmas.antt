-- What is computed to stand at the front of bytes does stand there: a gap, the longest token, or a fault.
use Rattle.std.proofs.Common.{◌≡◌, ℕ, zero, suc, ◌+◌, ◌<◌, ◌≤◌, Bool, true, false, not, ◌&&◌, List, [], ◌∷◌, ◌++◌, length, take, drop, get_or, refl, ap, sym, ◌∙◌, subst, append_assoc, length-append, arith, inl, inr, Option, None, Some, drop-cons}
use Rattle.std.specs.Prelude.{◌==◌, if◌then◌else◌, nat_le, slice_index}
use Rattle.std.specs.List.{prefix_len}
use Rattle.std.proofs.lemmas.Bool.{and_parts, or_cases, eqb-true, eqb-false, leb-true, leb-false, not-true, not-false}
use Rattle.std.proofs.lemmas.List.{take-append-drop, length-take}
use Rattle.std.proofs.Math.Seq.{get_or-append_seam}
use Rattle.std.proofs.lemmas.List.Folds.{length-prefix_len}
use Rattle.murphi_ast.specs.Bytes.{is_letter, is_digit, is_word_byte, is_white, is_allowed, is_string_byte, is_line_byte, decimal, greatest_number}
use Rattle.murphi_ast.specs.Spelling.{IsGap, white, line_comment, block_comment, IsLongest, NoneLonger, LacksToken, open_comment, no_form, too_great, opens_comment, is_sign}
use Rattle.murphi_ast.specs.declared.token.TokenKind.TheVariants.{Number, Quoted, Sign}
use Rattle.murphi_lex.specs.Scanning.{Front, Gap, Taken, BadByte, NoToken, front_of, comment_of, closed, closing, token_of, word_of, numbered, string_of, sign_of, sign_length}
use Rattle.murphi_lex.proofs.PrefixLemmas.{prefix_len-more, list_all-run, ends_line-run, closing-some, closing-rejects}
use Rattle.murphi_lex.proofs.FormLemmas.{word-longest, number-longest, string-front, sign-longest, sign_length-signs, letter_word}
use Rattle.murphi_lex.proofs.ByteLemmas.{sign_length-le}

-- this stands at the front of the bytes
abbrev pub FrontIs : List ℕ → Front → Type 0
FrontIs bs (Gap n) = (gap : List ℕ) × (rest : List ℕ) × (bs ≡ gap ++ rest) × (length gap ≡ n) × IsGap gap rest
FrontIs bs (Taken l n) = (spelled : List ℕ) × (rest : List ℕ) × (bs ≡ spelled ++ rest) × (length spelled ≡ n) × IsLongest bs spelled l × (l.number ≤ greatest_number)
FrontIs bs BadByte = is_allowed (slice_index bs 0) ≡ false
FrontIs bs NoToken = LacksToken bs

choose : (P : Front → Type 0) (t : Bool) (x y : Front) → (t ≡ true → P x) → (t ≡ false → P y) → P (if t then x else y)
choose P true x y f g = f refl
choose P false x y f g = g refl

line_is : (more : List ℕ) → FrontIs (45 ∷ 45 ∷ more) (Gap (prefix_len is_line_byte (45 ∷ 45 ∷ more)))
line_is more =
    let m : ℕ = prefix_len is_line_byte more in
    let e : 45 ∷ 45 ∷ more ≡ 45 ∷ 45 ∷ (take m more ++ drop m more) = ap (λ (v : List ℕ). 45 ∷ 45 ∷ v) (sym (take-append-drop m more)) in
    let n : suc (suc (length (take m more))) ≡ 1 + (1 + m) = omega (arith, length-prefix_len is_line_byte more) in
    (45 ∷ 45 ∷ take m more, drop m more, e, n, line_comment _ (take m more) (drop m more) refl (list_all-run is_line_byte more) (ends_line-run more))

block_is : (more : List ℕ) (o : Option ℕ) → closing more ≡ o → FrontIs (47 ∷ 42 ∷ more) (closed o)
block_is more None e = open_comment _ more refl (closing-rejects more e)
block_is more (Some n) e =
    let r = closing-some more n e in
    let k : 47 ∷ 42 ∷ more ≡ 47 ∷ 42 ∷ ((r.0 ++ 42 ∷ 47 ∷ []) ++ r.1) = ap (λ (v : List ℕ). 47 ∷ 42 ∷ v) (r.2 ∙ sym (append_assoc r.0 (42 ∷ 47 ∷ []) r.1)) in
    let m : suc (suc (length (r.0 ++ 42 ∷ 47 ∷ []))) ≡ n + 2 = omega (arith, length-append r.0 (42 ∷ 47 ∷ []), r.3) in
    (47 ∷ 42 ∷ (r.0 ++ 42 ∷ 47 ∷ []), r.1, k, m, block_comment _ r.0 r.1 refl r.4)

comment_is : (bs : List ℕ) → opens_comment bs ≡ true → FrontIs bs (comment_of bs)
comment_is [] h = cc
comment_is (b ∷ []) h = cc
comment_is (b ∷ c ∷ more) h =
    elim (or_cases (b == 45 && c == 45) (b == 47 && c == 42) h) [
      | inl e ↦ (
          let k = and_parts (b == 45) (c == 45) e in
          subst (λ (v : ℕ). FrontIs (v ∷ c ∷ more) (comment_of (v ∷ c ∷ more))) (sym (eqb-true b 45 k.0))
          (subst (λ (v : ℕ). FrontIs (45 ∷ v ∷ more) (comment_of (45 ∷ v ∷ more))) (sym (eqb-true c 45 k.1)) (line_is more)))
      | inr e ↦ (
          let k = and_parts (b == 47) (c == 42) e in
          subst (λ (v : ℕ). FrontIs (v ∷ c ∷ more) (comment_of (v ∷ c ∷ more))) (sym (eqb-true b 47 k.0))
          (subst (λ (v : ℕ). FrontIs (47 ∷ v ∷ more) (comment_of (47 ∷ v ∷ more))) (sym (eqb-true c 42 k.1)) (block_is more (closing more) refl)))
    ]

word_is : (b : ℕ) (more : List ℕ) → opens_comment (b ∷ more) ≡ false → is_letter b ≡ true → FrontIs (b ∷ more) (word_of (b ∷ more))
word_is b more c h =
    let m : ℕ = prefix_len is_word_byte more in
    let n : ℕ = prefix_len is_word_byte (b ∷ more) in
    let e : take n (b ∷ more) ≡ b ∷ take m more = ap (λ (k : ℕ). take k (b ∷ more)) (prefix_len-more is_word_byte b more (letter_word b h)) in
    let l : length (take n (b ∷ more)) ≡ n = length-prefix_len is_word_byte (b ∷ more) in (
      take n (b ∷ more),
      drop n (b ∷ more),
      sym (take-append-drop n (b ∷ more)),
      l,
      record { no_comment = c; spells = (b, take m more, e, h, list_all-run is_word_byte more, refl, refl); longest = subst (λ (k : ℕ). NoneLonger (b ∷ more) k) (sym l) (word-longest b more h) },
      omega arith,
    )

number_form : (b : ℕ) (more : List ℕ) (value : ℕ) → opens_comment (b ∷ more) ≡ false → is_digit b ≡ true → (let n : ℕ = prefix_len is_digit (b ∷ more) in value ≡ decimal (take n (b ∷ more))) →
    (let n : ℕ = prefix_len is_digit (b ∷ more) in IsLongest (b ∷ more) (take n (b ∷ more)) (record { kind = Number; text = take n (b ∷ more); number = value }))
number_form b more value c h v =
    let m : ℕ = prefix_len is_digit more in
    let n : ℕ = prefix_len is_digit (b ∷ more) in
    let e : take n (b ∷ more) ≡ b ∷ take m more = ap (λ (k : ℕ). take k (b ∷ more)) (prefix_len-more is_digit b more h) in
    let l : length (take n (b ∷ more)) ≡ n = length-prefix_len is_digit (b ∷ more) in
    record { no_comment = c; spells = (b, take m more, e, list_all-run is_digit (b ∷ more), refl, v); longest = subst (λ (k : ℕ). NoneLonger (b ∷ more) k) (sym l) (number-longest b more h) }

-- what a value that may be written, or not, says of the number
abbrev ValueSays : ℕ → Option ℕ → Type 0
ValueSays n None = greatest_number < n
ValueSays n (Some v) = (v ≡ n) × (n ≤ greatest_number)

value_says : (n : ℕ) (t : Bool) (o : Option ℕ) → nat_le n greatest_number ≡ t → (if t then Some n else None) ≡ o → ValueSays n o
value_says n true None e f = cc
value_says n true (Some v) e f = (let k : n ≡ v = cc in sym k, leb-true n greatest_number e)
value_says n false None e f = leb-false n greatest_number e
value_says n false (Some v) e f = cc

number_is : (b : ℕ) (more : List ℕ) (o : Option ℕ) → opens_comment (b ∷ more) ≡ false → is_digit b ≡ true →
    (let n : ℕ = prefix_len is_digit (b ∷ more) in ValueSays (decimal (take n (b ∷ more))) o → FrontIs (b ∷ more) (numbered (take n (b ∷ more)) n o))
number_is b more None c h v =
    let n : ℕ = prefix_len is_digit (b ∷ more) in
    too_great _ (take n (b ∷ more)) (drop n (b ∷ more)) _ (sym (take-append-drop n (b ∷ more))) (number_form b more (decimal (take n (b ∷ more))) c h refl) v
number_is b more (Some value) c h v =
    let n : ℕ = prefix_len is_digit (b ∷ more) in
    (take n (b ∷ more), drop n (b ∷ more), sym (take-append-drop n (b ∷ more)), length-prefix_len is_digit (b ∷ more), number_form b more value c h v.0, omega (arith, v.0, v.1))

quote_inside : (xs : List ℕ) (n : ℕ) → (get_or xs n 0 == 34) ≡ true → n < length xs
quote_inside [] n h = cc
quote_inside (x ∷ xs) zero h = omega arith
quote_inside (x ∷ xs) (suc n) h = omega (arith, quote_inside xs n h)

string_closed : (more : List ℕ) → opens_comment (34 ∷ more) ≡ false → (let n : ℕ = prefix_len is_string_byte more in (get_or more n 0 == 34) ≡ true →
    FrontIs (34 ∷ more) (Taken (record { kind = Quoted; text = take n more; number = 0 }) (n + 2)))
string_closed more c q =
    let n : ℕ = prefix_len is_string_byte more in
    let rest : List ℕ = drop (suc n) more in
    let d : drop n more ≡ 34 ∷ rest = drop-cons more n 0 (quote_inside more n q) ∙ ap (λ (v : ℕ). v ∷ rest) (eqb-true (get_or more n 0) 34 q) in
    let e : more ≡ take n more ++ 34 ∷ rest = sym (take-append-drop n more) ∙ ap (λ (v : List ℕ). take n more ++ v) d in
    let f : 34 ∷ more ≡ 34 ∷ ((take n more ++ 34 ∷ []) ++ rest) = ap (λ (v : List ℕ). 34 ∷ v) (e ∙ sym (append_assoc (take n more) (34 ∷ []) rest)) in
    let k : suc (length (take n more ++ 34 ∷ [])) ≡ n + 2 = omega (arith, length-append (take n more) (34 ∷ []), length-prefix_len is_string_byte more) in (
      34 ∷ (take n more ++ 34 ∷ []),
      rest,
      f,
      k,
      record { no_comment = c; spells = (refl, list_all-run is_string_byte more, refl); longest = λ spelled rest l e s. (let g = string-front more spelled rest l e s in omega (arith, g.1, g.2, k)) },
      omega arith,
    )

string_open : (more : List ℕ) → (let n : ℕ = prefix_len is_string_byte more in (get_or more n 0 == 34) ≡ false → NoneLonger (34 ∷ more) 0)
string_open more q spelled rest l e s =
    let n : ℕ = prefix_len is_string_byte more in
    let g = string-front more spelled rest l e s in
    let r : get_or more n 0 ≡ 34 = ap (λ (v : List ℕ). get_or v n 0) g.0 ∙ ap (λ (k : ℕ). get_or (l.text ++ 34 ∷ rest) k 0) g.1 ∙ get_or-append_seam l.text 34 rest 0 in
    absurd (eqb-false (get_or more n 0) 34 q r)

string_is : (more : List ℕ) → opens_comment (34 ∷ more) ≡ false → FrontIs (34 ∷ more) (string_of (34 ∷ more))
string_is more c =
    let n : ℕ = prefix_len is_string_byte more in
    let k : n + 1 ≡ suc n = omega arith in
    let t : (get_or (34 ∷ more) (n + 1) 0 == 34) ≡ (get_or more n 0 == 34) = ap (λ (j : ℕ). get_or (34 ∷ more) j 0 == 34) k in
    choose (FrontIs (34 ∷ more)) (get_or (34 ∷ more) (n + 1) 0 == 34) _ _
    (λ q. string_closed more c (sym t ∙ q))
    (λ q. no_form 34 more refl refl c (string_open more (sym t ∙ q)))

sign_is : (b : ℕ) (more : List ℕ) → is_white b ≡ false → is_allowed b ≡ true → opens_comment (b ∷ more) ≡ false → is_letter b ≡ false → is_digit b ≡ false → (b == 34) ≡ false → FrontIs (b ∷ more) (sign_of (b ∷ more))
sign_is b more w a c t u v =
    let n : ℕ = sign_length (b ∷ more) in
    choose (FrontIs (b ∷ more)) (n == 0) NoToken _
    (λ e. no_form b more a w c (subst (λ (k : ℕ). NoneLonger (b ∷ more) k) (eqb-true n 0 e) (sign-longest b more t u v)))
    (λ e. sign_taken n (b ∷ more) c (let k : n ≡ 0 → ⊥ = eqb-false n 0 e in omega (arith, k)) (sign_length-le (b ∷ more)) (sign_length-signs (b ∷ more)) (sign-longest b more t u v))
  where
    sign_taken : (n : ℕ) (bs : List ℕ) → opens_comment bs ≡ false → 0 < n → n ≤ length bs → (0 < n → is_sign (take n bs) ≡ true) → NoneLonger bs n →
        FrontIs bs (Taken (record { kind = Sign; text = take n bs; number = 0 }) n)
    sign_taken n bs c p q s l =
        let k : length (take n bs) ≡ n = omega (arith, length-take n bs) in
        (take n bs, drop n bs, sym (take-append-drop n bs), k, record { no_comment = c; spells = (s p, refl, refl); longest = subst (λ (j : ℕ). NoneLonger bs j) (sym k) l }, omega arith)

token_is : (b : ℕ) (more : List ℕ) → is_white b ≡ false → is_allowed b ≡ true → opens_comment (b ∷ more) ≡ false → FrontIs (b ∷ more) (token_of (b ∷ more))
token_is b more w a c =
    choose (FrontIs (b ∷ more)) (is_letter b) _ _ (λ t. word_is b more c t)
    (λ t. choose (FrontIs (b ∷ more)) (is_digit b) _ _
    (λ u. number_is b more _ c u (value_says _ (nat_le _ greatest_number) _ refl refl))
    (λ u. choose (FrontIs (b ∷ more)) (b == 34) _ _
    (λ v. quote_is b more c (eqb-true b 34 v))
    (λ v. sign_is b more w a c t u v)))
  where
    quote_is : (b : ℕ) (more : List ℕ) → opens_comment (b ∷ more) ≡ false → b ≡ 34 → FrontIs (b ∷ more) (string_of (b ∷ more))
    quote_is b more c e = subst (λ (v : ℕ). FrontIs (v ∷ more) (string_of (v ∷ more))) (sym e) (string_is more (subst (λ (v : ℕ). opens_comment (v ∷ more) ≡ false) e c))

-- what is computed to stand at the front stands there
pub front_is : (b : ℕ) (more : List ℕ) → FrontIs (b ∷ more) (front_of (b ∷ more))
front_is b more =
    choose (FrontIs (b ∷ more)) (is_white b) _ _ (λ w. (b ∷ [], more, refl, refl, white b more w))
    (λ w. choose (FrontIs (b ∷ more)) (not (is_allowed b)) _ _ (λ a. not-true _ a)
    (λ a. choose (FrontIs (b ∷ more)) (opens_comment (b ∷ more)) _ _
    (λ c. comment_is (b ∷ more) c)
    (λ c. token_is b more w (not-false _ a) c)))
