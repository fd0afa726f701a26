-- Forms of tokens: the first byte says the kind, the bytes say the rest, and how long a sign is.
use Rattle.std.proofs.Common.{◌≡◌, ℕ, suc, ◌+◌, ◌<◌, ◌≤◌, Bool, true, false, not, ◌&&◌, ◌||◌, List, [], ◌∷◌, ◌++◌, length, take, refl, ap, sym, ◌∙◌, subst, append_assoc, length-append, arith, inl, inr}
use Rattle.std.specs.Prelude.{◌==◌, if◌then◌else◌, nat_eq, codes, slice_index}
use Rattle.std.specs.List.{prefix_len, list_all, list_any}
use Rattle.std.specs.Cmp.Lexicographic.{pointwise, same_text}
use Rattle.std.proofs.lemmas.Bool.{and_parts, and_from, or_cases, eqb-true, not-true}
use Rattle.std.proofs.lemmas.List.{append_cancel_right}
use Rattle.std.proofs.lemmas.Grind.{common_steps}
use Rattle.murphi_ast.specs.Bytes.{is_letter, is_digit, is_word_byte, is_white, is_allowed, is_string_byte}
use Rattle.murphi_ast.specs.Spelling.{Lexeme, IsForm, IsSpelling, is_sign, signs, NoneLonger}
use Rattle.murphi_ast.specs.declared.token.TokenKind.{TokenKind}
use Rattle.murphi_ast.specs.declared.token.TokenKind.TheVariants.{Word, Number, Quoted, Sign, End}
use Rattle.murphi_lex.specs.Scanning.{sign_length, is_sign_byte, is_sign_pair}
use Rattle.murphi_lex.proofs.PrefixLemmas.{no_both, prefix_len-over}

-- what holds of each sign holds of what is one
sign_found : (w : List ℕ) (P : List ℕ → Bool) (ss : List (List ℕ)) → list_any (pointwise nat_eq w) ss ≡ true → list_all P ss ≡ true → P w ≡ true
sign_found w P [] h a = cc
sign_found w P (s ∷ ss) h a =
    let k = and_parts (P s) (list_all P ss) a in
    elim (or_cases (pointwise nat_eq w s) (list_any (pointwise nat_eq w) ss) h) [
      | inl e ↦ subst (λ (v : List ℕ). P v ≡ true) (sym (same_text w s (sym e))) k.0
      | inr e ↦ sign_found w P ss e k.1
    ]

byte_found : (b : ℕ) (P : ℕ → Bool) (cs : List ℕ) → list_any (nat_eq b) cs ≡ true → list_all P cs ≡ true → P b ≡ true
byte_found b P [] h a = cc
byte_found b P (c ∷ cs) h a =
    let k = and_parts (P c) (list_all P cs) a in
    elim (or_cases (nat_eq b c) (list_any (nat_eq b) cs) h) [
      | inl e ↦ subst (λ (v : ℕ). P v ≡ true) (sym (eqb-true b c e)) k.0
      | inr e ↦ byte_found b P cs e k.1
    ]

-- what the bytes of a sign are, by how many there are
known : List ℕ → Bool
known [] = false
known (b ∷ []) = is_sign_byte b
known (b ∷ c ∷ []) = is_sign_pair b c
known (b ∷ c ∷ d ∷ []) = b == 61 && c == 61 && d == 62
known (b ∷ c ∷ d ∷ e ∷ more) = false

second_set : List ℕ → Bool
second_set [] = true
second_set (b ∷ []) = true
second_set (b ∷ c ∷ more) = not (c == 0)

-- no other token begins with the byte that a sign begins with
begins_sign : ℕ → Bool
begins_sign b = (not (is_white b) && is_allowed b) && (not (is_letter b) && not (is_digit b)) && not (b == 34)

first_begins : List ℕ → Bool
first_begins [] = false
first_begins (b ∷ more) = begins_sign b

sign_known : (w : List ℕ) → is_sign w ≡ true → known w ≡ true
unfolding known
sign_known w h = sign_found w known signs h refl

sign_begins : (w : List ℕ) → is_sign w ≡ true → first_begins w ≡ true
unfolding first_begins begins_sign
sign_begins w h = sign_found w first_begins signs h refl

byte_signs : (b : ℕ) → is_sign_byte b ≡ true → is_sign (b ∷ []) ≡ true
byte_signs b h = byte_found b (λ (x : ℕ). is_sign (x ∷ [])) (codes "=<>+-*/%&|!?:;,.()[]{}") h refl

both_are : (b c x y : ℕ) (P : ℕ → ℕ → Bool) → (b == x && c == y) ≡ true → P x y ≡ true → P b c ≡ true
both_are b c x y P h k =
    let e = and_parts (b == x) (c == y) h in
    let m : b ≡ x = eqb-true b x e.0 in
    let n : c ≡ y = eqb-true c y e.1 in
    subst (λ (v : ℕ). P v c ≡ true) (sym m) (subst (λ (v : ℕ). P x v ≡ true) (sym n) k)

pair_signs : (b c : ℕ) → is_sign_pair b c ≡ true → is_sign (b ∷ c ∷ []) ≡ true
pair_signs b c h =
    let P : ℕ → ℕ → Bool = λ x y. is_sign (x ∷ y ∷ []) in
    elim (or_cases ((list_any (nat_eq b) (codes ":!<>") && c == 61) || (b == 45 && c == 62)) (b == 46 && c == 46) h) [
      | inl e ↦ elim (or_cases (list_any (nat_eq b) (codes ":!<>") && c == 61) (b == 45 && c == 62) e) [
        | inl f ↦ (
            let k = and_parts (list_any (nat_eq b) (codes ":!<>")) (c == 61) f in
            let m : c ≡ 61 = eqb-true c 61 k.1 in
            subst (λ (v : ℕ). is_sign (b ∷ v ∷ []) ≡ true) (sym m) (byte_found b (λ (x : ℕ). is_sign (x ∷ 61 ∷ [])) (codes ":!<>") k.0 refl))
        | inr f ↦ both_are b c 45 62 P f refl
      ]
      | inr e ↦ both_are b c 46 46 P e refl
    ]

-- no sign goes on with the byte 0
pair_second : (b : ℕ) → is_sign_pair b 0 ≡ true → ⊥
unfolding second_set
pair_second b h = no_both (second_set (b ∷ 0 ∷ [])) (sign_found (b ∷ 0 ∷ []) second_set signs (pair_signs b 0 h) refl) refl

three_signs : (b c d : ℕ) → (b == 61 && c == 61 && d == 62) ≡ true → is_sign (b ∷ c ∷ d ∷ []) ≡ true
three_signs b c d t =
    let k = and_parts (b == 61 && c == 61) (d == 62) t in
    let e : d ≡ 62 = eqb-true d 62 k.1 in
    subst (λ (v : ℕ). is_sign (b ∷ c ∷ v ∷ []) ≡ true) (sym e) (both_are b c 61 61 (λ (x y : ℕ). is_sign (x ∷ y ∷ 62 ∷ [])) k.0 refl)

-- which length is chosen
picked : (t u v : Bool) (P : ℕ → Type 0) → (t ≡ true → P 3) → (u ≡ true → P 2) → (u ≡ false → v ≡ true → P 1) → (t ≡ false → u ≡ false → v ≡ false → P 0) →
    P (if t then 3 else (if u then 2 else (if v then 1 else 0)))
picked true u v P a b c d = a refl
picked false true v P a b c d = b refl
picked false false true P a b c d = c refl refl
picked false false false P a b c d = d refl refl refl

-- what is found is a sign
pub sign_length-signs : (bs : List ℕ) → 0 < sign_length bs → is_sign (take (sign_length bs) bs) ≡ true
sign_length-signs [] h = absurd (omega arith)
sign_length-signs (b ∷ []) h =
    picked (b == 61 && 0 == 61 && 0 == 62) (is_sign_pair b 0) (is_sign_byte b) (λ (n : ℕ). 0 < n → is_sign (take n (b ∷ [])) ≡ true)
    (λ t k. absurd (no_both (0 == 62) (and_parts (b == 61 && 0 == 61) (0 == 62) t).1 refl)) (λ u k. absurd (pair_second b u)) (λ u v k. byte_signs b v) (λ t u v k. absurd (omega arith)) h
sign_length-signs (b ∷ c ∷ []) h =
    picked (b == 61 && c == 61 && 0 == 62) (is_sign_pair b c) (is_sign_byte b) (λ (n : ℕ). 0 < n → is_sign (take n (b ∷ c ∷ [])) ≡ true)
    (λ t k. absurd (no_both (0 == 62) (and_parts (b == 61 && c == 61) (0 == 62) t).1 refl)) (λ u k. pair_signs b c u) (λ u v k. byte_signs b v) (λ t u v k. absurd (omega arith)) h
sign_length-signs (b ∷ c ∷ d ∷ bs) h =
    picked (b == 61 && c == 61 && d == 62) (is_sign_pair b c) (is_sign_byte b) (λ (n : ℕ). 0 < n → is_sign (take n (b ∷ c ∷ d ∷ bs)) ≡ true)
    (λ t k. three_signs b c d t) (λ u k. pair_signs b c u) (λ u v k. byte_signs b v) (λ t u v k. absurd (omega arith)) h

ap_long : (t : Bool) (n : ℕ) → t ≡ true → 3 ≤ (if t then 3 else n)
ap_long true n e = omega arith
ap_long false n e = cc

known_long : (w rest : List ℕ) → known w ≡ true → length w ≤ sign_length (w ++ rest)
unfolding known
known_long [] rest k = cc
known_long (b ∷ []) rest k = picked (b == 61 && slice_index rest 0 == 61 && slice_index rest 1 == 62) (is_sign_pair b (slice_index rest 0)) (is_sign_byte b) (λ (n : ℕ). 1 ≤ n)
    (λ t. omega arith) (λ u. omega arith) (λ u v. omega arith) (λ t u v. absurd (no_both _ k v))
known_long (b ∷ c ∷ []) rest k = picked (b == 61 && c == 61 && slice_index rest 0 == 62) (is_sign_pair b c) (is_sign_byte b) (λ (n : ℕ). 2 ≤ n)
    (λ t. omega arith) (λ u. omega arith) (λ u v. absurd (no_both _ k u)) (λ t u v. absurd (no_both _ k u))
known_long (b ∷ c ∷ d ∷ []) rest k = ap_long (b == 61 && c == 61 && d == 62) _ k
known_long (b ∷ c ∷ d ∷ e ∷ more) rest k = cc

-- no sign at the front is longer
pub sign_length-longest : (w rest : List ℕ) → is_sign w ≡ true → length w ≤ sign_length (w ++ rest)
sign_length-longest w rest h = known_long w rest (sign_known w h)

-- the kind of a token, by its first byte
abbrev pub kind_first : ℕ → TokenKind
kind_first b = if is_letter b then Word else (if is_digit b then Number else (if b == 34 then Quoted else Sign))

abbrev kinds : (t u v : Bool) → TokenKind
kinds t u v = if t then Word else (if u then Number else (if v then Quoted else Sign))

is_word_kind : (t u v : Bool) → t ≡ true → Word ≡ kinds t u v
is_word_kind true u v e = refl
is_word_kind false u v e = cc

is_number_kind : (t u v : Bool) → t ≡ false → u ≡ true → Number ≡ kinds t u v
is_number_kind true u v e f = cc
is_number_kind false true v e f = refl
is_number_kind false false v e f = cc

is_sign_kind : (t u v : Bool) → t ≡ false → u ≡ false → v ≡ false → Sign ≡ kinds t u v
is_sign_kind true u v e f g = cc
is_sign_kind false true v e f g = cc
is_sign_kind false false true e f g = cc
is_sign_kind false false false e f g = refl

digit_no_letter : (b : ℕ) → is_digit b ≡ true → is_letter b ≡ false
digit_no_letter b h = grind (arith, common_steps)

letter_stands : (b : ℕ) → is_letter b ≡ true → (is_white b ≡ false) × (is_allowed b ≡ true)
letter_stands b h = (grind (arith, common_steps), grind (arith, common_steps))

digit_stands : (b : ℕ) → is_digit b ≡ true → (is_white b ≡ false) × (is_allowed b ≡ true)
digit_stands b h = (grind (arith, common_steps), grind (arith, common_steps))

-- how the bytes of a token begin
abbrev pub Begins : TokenKind → List ℕ → Type 0
Begins k w = (first : ℕ) × (more : List ℕ) × (w ≡ first ∷ more) × (k ≡ kind_first first) × (is_white first ≡ false) × (is_allowed first ≡ true)

sign_stands : (w : List ℕ) → first_begins w ≡ true → Begins Sign w
unfolding first_begins begins_sign
sign_stands [] h = cc
sign_stands (b ∷ more) h =
    let k = and_parts ((not (is_white b) && is_allowed b) && (not (is_letter b) && not (is_digit b))) (not (b == 34)) h in
    let m = and_parts (not (is_white b) && is_allowed b) (not (is_letter b) && not (is_digit b)) k.0 in
    let stands = and_parts (not (is_white b)) (is_allowed b) m.0 in
    let others = and_parts (not (is_letter b)) (not (is_digit b)) m.1 in
    (b, more, refl, is_sign_kind (is_letter b) (is_digit b) (b == 34) (not-true _ others.0) (not-true _ others.1) (not-true _ k.1), not-true _ stands.0, stands.1)

pub form_begins : (k : TokenKind) (w text : List ℕ) (n : ℕ) → IsForm k w text n → Begins k w
form_begins Word w text n h =
    let stands = letter_stands h.0 h.3 in
    (h.0, h.1, h.2, is_word_kind (is_letter h.0) _ _ h.3, stands.0, stands.1)
form_begins Number w text n h =
    let d : is_digit h.0 ≡ true = (and_parts (is_digit h.0) (list_all is_digit h.1) (subst (λ (v : List ℕ). list_all is_digit v ≡ true) h.2 h.3)).0 in
    let stands = digit_stands h.0 d in
    (h.0, h.1, h.2, is_number_kind (is_letter h.0) (is_digit h.0) _ (digit_no_letter h.0 d) d, stands.0, stands.1)
form_begins Quoted w text n h = (34, text ++ 34 ∷ [], h.0, refl, refl, refl)
form_begins Sign w text n h = sign_stands w (sign_begins w h.0)
form_begins End w text n h = absurd h

-- what is spelled has a byte at least
pub spelled_some : (w : List ℕ) (l : Lexeme) → IsSpelling w l → 0 < length w
spelled_some w l h = let b = form_begins l.kind w l.text l.number h in let e : length w ≡ suc (length b.1) = ap length b.2 in omega arith

-- the first byte says of which kind a token at the front is
pub front_form : (b : ℕ) (more spelled rest : List ℕ) (l : Lexeme) → b ∷ more ≡ spelled ++ rest → IsSpelling spelled l → IsForm (kind_first b) spelled l.text l.number
front_form b more spelled rest l e h =
    let f = form_begins l.kind spelled l.text l.number h in
    let e' : b ∷ more ≡ f.0 ∷ (f.1 ++ rest) = e ∙ ap (λ (v : List ℕ). v ++ rest) f.2 in
    let m : f.0 ≡ b = cc in
    subst (λ (k : TokenKind). IsForm k spelled l.text l.number) (f.3 ∙ ap kind_first m) h

-- the bytes say what a token of one kind is
form_same : (k : TokenKind) (w t u : List ℕ) (m n : ℕ) → IsForm k w t m → IsForm k w u n → (t ≡ u) × (m ≡ n)
form_same Word w t u m n g h = (g.5 ∙ sym h.5, g.6 ∙ sym h.6)
form_same Number w t u m n g h = (g.4 ∙ sym h.4, g.5 ∙ sym h.5)
form_same Quoted w t u m n g h =
    let e : 34 ∷ (t ++ 34 ∷ []) ≡ 34 ∷ (u ++ 34 ∷ []) = sym g.0 ∙ h.0 in
    let e' : t ++ 34 ∷ [] ≡ u ++ 34 ∷ [] = cc in
    (append_cancel_right t u (34 ∷ []) e', g.2 ∙ sym h.2)
form_same Sign w t u m n g h = (g.1 ∙ sym h.1, g.2 ∙ sym h.2)
form_same End w t u m n g h = absurd g

lexeme : TokenKind → List ℕ → ℕ → Lexeme
lexeme k t n = record { kind = k; text = t; number = n }

-- no bytes spell two tokens
pub spelled_once : (w : List ℕ) (l m : Lexeme) → IsSpelling w l → IsSpelling w m → l ≡ m
unfolding lexeme
spelled_once w l m g h =
    let a = form_begins l.kind w l.text l.number g in
    let b = form_begins m.kind w m.text m.number h in
    let f : a.0 ≡ b.0 = (let e : a.0 ∷ a.1 ≡ b.0 ∷ b.1 = sym a.2 ∙ b.2 in cc) in
    let k : l.kind ≡ m.kind = a.3 ∙ ap kind_first f ∙ sym b.3 in
    let same = form_same m.kind w l.text m.text l.number m.number (subst (λ (q : TokenKind). IsForm q w l.text l.number) k g) h in
    ap (λ (q : TokenKind). lexeme q l.text l.number) k ∙ ap (λ (q : List ℕ). lexeme m.kind q l.number) same.0 ∙ ap (λ (q : ℕ). lexeme m.kind m.text q) same.1

pub letter_word : (b : ℕ) → is_letter b ≡ true → is_word_byte b ≡ true
letter_word b h = grind (arith, h)

run_longest : (p : ℕ → Bool) (bs spelled rest : List ℕ) → bs ≡ spelled ++ rest → list_all p spelled ≡ true → length spelled ≤ prefix_len p bs
run_longest p bs spelled rest e h = subst (λ (v : List ℕ). length spelled ≤ prefix_len p v) (sym e) (omega (arith, prefix_len-over p spelled rest h))

-- no token at the front of a word is longer
pub word-longest : (b : ℕ) (more : List ℕ) → is_letter b ≡ true → NoneLonger (b ∷ more) (prefix_len is_word_byte (b ∷ more))
word-longest b more h spelled rest l e s =
    let f : IsForm Word spelled l.text l.number = subst (λ (k : TokenKind). IsForm k spelled l.text l.number) (sym (is_word_kind (is_letter b) _ _ h)) (front_form b more spelled rest l e s) in
    let all : list_all is_word_byte spelled ≡ true = subst (λ (v : List ℕ). list_all is_word_byte v ≡ true) (sym f.2) (and_from _ _ (letter_word f.0 f.3) f.4) in
    run_longest is_word_byte (b ∷ more) spelled rest e all

pub number-longest : (b : ℕ) (more : List ℕ) → is_digit b ≡ true → NoneLonger (b ∷ more) (prefix_len is_digit (b ∷ more))
number-longest b more h spelled rest l e s =
    let f : IsForm Number spelled l.text l.number = subst (λ (k : TokenKind). IsForm k spelled l.text l.number) (sym (is_number_kind (is_letter b) (is_digit b) _ (digit_no_letter b h) h)) (front_form b more spelled rest l e s) in
    run_longest is_digit (b ∷ more) spelled rest e f.3

-- a string at the front ends at the first quote behind its own
pub string-front : (more spelled rest : List ℕ) (l : Lexeme) → 34 ∷ more ≡ spelled ++ rest → IsSpelling spelled l →
    (more ≡ l.text ++ 34 ∷ rest) × (prefix_len is_string_byte more ≡ length l.text) × (length spelled ≡ length l.text + 2)
string-front more spelled rest l e s =
    let f : IsForm Quoted spelled l.text l.number = front_form 34 more spelled rest l e s in
    let e' : 34 ∷ more ≡ 34 ∷ ((l.text ++ 34 ∷ []) ++ rest) = e ∙ ap (λ (v : List ℕ). v ++ rest) f.0 in
    let m : more ≡ (l.text ++ 34 ∷ []) ++ rest = cc in
    let m' : more ≡ l.text ++ 34 ∷ rest = m ∙ append_assoc l.text (34 ∷ []) rest in
    let n : prefix_len is_string_byte more ≡ length l.text = ap (prefix_len is_string_byte) m' ∙ (let r : prefix_len is_string_byte (l.text ++ 34 ∷ rest) ≡ length l.text + 0 = prefix_len-over is_string_byte l.text (34 ∷ rest) f.1 in omega arith) in
    let k : length spelled ≡ suc (length (l.text ++ 34 ∷ [])) = ap length f.0 in
    (m', n, omega (arith, k, length-append l.text (34 ∷ [])))

pub sign-longest : (b : ℕ) (more : List ℕ) → is_letter b ≡ false → is_digit b ≡ false → (b == 34) ≡ false → NoneLonger (b ∷ more) (sign_length (b ∷ more))
sign-longest b more t u v spelled rest l e s =
    let f : IsForm Sign spelled l.text l.number = subst (λ (k : TokenKind). IsForm k spelled l.text l.number) (sym (is_sign_kind (is_letter b) (is_digit b) (b == 34) t u v)) (front_form b more spelled rest l e s) in
    subst (λ (w : List ℕ). length spelled ≤ sign_length w) (sym e) (sign_length-longest spelled rest f.0)
