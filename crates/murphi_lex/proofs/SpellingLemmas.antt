-- The computed reading of a text is the one that its spelling relates to its bytes.
use Rattle.std.proofs.Common.{◌≡◌, ℕ, zero, suc, ◌+◌, ◌<◌, ◌≤◌, Bool, true, false, not, List, [], ◌∷◌, ◌++◌, length, take, drop, refl, ap, sym, ◌∙◌, subst, append_assoc, length-append, arith, Option, None, Some}
use Rattle.std.specs.Prelude.{if◌then◌else◌, slice_index}
use Rattle.std.specs.List.{prefix_len, list_all}
use Rattle.std.proofs.lemmas.Bool.{and_from}
use Rattle.std.proofs.Math.Seq.{take-append_seam, drop-append_seam}
use Rattle.murphi_ast.specs.Bytes.{is_white, is_printed, is_allowed, is_line_byte, past, start, greatest_number}
use Rattle.murphi_ast.specs.Spelling.{Lexeme, token_at, is_end, ends_once, IsEnded, IsForm, IsSpelling, IsGap, white, line_comment, block_comment, IsLongest, NoneLonger, LacksToken, open_comment, no_form, too_great, opens_comment, holds_close, ends_line, Reads, at_end, over_gap, over_token, at_bad_byte, at_no_token}
use Rattle.murphi_ast.specs.declared.token.Span.{Span}
use Rattle.murphi_ast.specs.declared.token.TokenKind.{TokenKind}
use Rattle.murphi_ast.specs.declared.token.TokenKind.TheVariants.{Word, Number, Quoted, Sign, End}
use Rattle.murphi_ast.specs.declared.token.Token.{Token}
use Rattle.murphi_ast.specs.declared.token.Fault.{Fault}
use Rattle.murphi_lex.specs.Scanning.{Front, Gap, Taken, BadByte, NoToken, front_of, closed, Reading, joined, reading, text_reading}
use Rattle.murphi_lex.proofs.PrefixLemmas.{or_none, no_both, prefix_len-over, ends_line-stops, same_front, closing-closes, closing-none}
use Rattle.murphi_lex.proofs.FormLemmas.{form_begins, spelled_once, spelled_some}
use Rattle.murphi_lex.proofs.FrontLemmas.{FrontIs, front_is}
use Rattle.murphi_lex.proofs.ReadingLemmas.{reading-gap, reading-token, reading-bad, reading-none, reading-end}

when_true : (t : Bool) (x y : Front) → t ≡ true → (if t then x else y) ≡ x
when_true true x y e = refl
when_true false x y e = cc

when_false : (t : Bool) (x y : Front) → t ≡ false → (if t then x else y) ≡ y
when_false true x y e = cc
when_false false x y e = refl

pub front_stands : (bs : List ℕ) → 0 < length bs → FrontIs bs (front_of bs)
front_stands [] h = absurd (omega arith)
front_stands (b ∷ more) h = front_is b more

-- a gap at the front is found
line_front : (body rest : List ℕ) → list_all is_line_byte body ≡ true → ends_line rest ≡ true → front_of (45 ∷ 45 ∷ (body ++ rest)) ≡ Gap (suc (suc (length body)))
line_front body rest a l =
    let k : 1 + (1 + prefix_len is_line_byte (body ++ rest)) ≡ suc (suc (length body)) = omega (arith, prefix_len-over is_line_byte body rest a, ends_line-stops rest l) in
    ap Gap k

block_front : (body rest : List ℕ) → holds_close (body ++ 42 ∷ []) ≡ false → front_of (47 ∷ 42 ∷ (body ++ 42 ∷ 47 ∷ rest)) ≡ Gap (length body + 2 + 2)
block_front body rest h = ap closed (closing-closes body rest h)

pub gap_front : (bs gap rest : List ℕ) → bs ≡ gap ++ rest → IsGap gap rest → (front_of bs ≡ Gap (length gap)) × (0 < length gap)
gap_front bs gap rest e (white b rest' w) = (ap front_of e ∙ when_true (is_white b) (Gap 1) _ w, omega arith)
gap_front bs gap rest e (line_comment gap' body rest' g a l) =
    let f : bs ≡ 45 ∷ 45 ∷ (body ++ rest) = e ∙ ap (λ (v : List ℕ). v ++ rest) g in
    let k : length gap ≡ suc (suc (length body)) = ap length g in
    (ap front_of f ∙ line_front body rest a l ∙ ap Gap (sym k), omega arith)
gap_front bs gap rest e (block_comment gap' body rest' g h) =
    let f : bs ≡ 47 ∷ 42 ∷ (body ++ 42 ∷ 47 ∷ rest) = e ∙ ap (λ (v : List ℕ). v ++ rest) g ∙ ap (λ (v : List ℕ). 47 ∷ 42 ∷ v) (append_assoc body (42 ∷ 47 ∷ []) rest) in
    let k : length gap ≡ suc (suc (length (body ++ 42 ∷ 47 ∷ []))) = ap length g in
    let m : length body + 2 + 2 ≡ length gap = omega (arith, k, length-append body (42 ∷ 47 ∷ [])) in
    (ap front_of f ∙ block_front body rest h ∙ ap Gap m, omega arith)

-- where no comment starts and no white byte stands, no gap does
no_gap : (first : ℕ) (more gap rest : List ℕ) → first ∷ more ≡ gap ++ rest → is_white first ≡ false → opens_comment (first ∷ more) ≡ false → IsGap gap rest → ⊥
no_gap first more gap rest e w c (white b rest' v) = (let k : first ≡ b = cc in no_both (is_white b) v (sym (ap is_white k) ∙ w))
no_gap first more gap rest e w c (line_comment gap' body rest' g a l) =
    no_both true refl (sym (ap opens_comment (e ∙ ap (λ (v : List ℕ). v ++ rest) g)) ∙ c)
no_gap first more gap rest e w c (block_comment gap' body rest' g h) =
    no_both true refl (sym (ap opens_comment (e ∙ ap (λ (v : List ℕ). v ++ rest) g)) ∙ c)

-- the longest tokens at the front are one
longest_once : (bs spelled rest spelled' rest' : List ℕ) (l m : Lexeme) → bs ≡ spelled ++ rest → bs ≡ spelled' ++ rest' → IsLongest bs spelled l → IsLongest bs spelled' m → (l ≡ m) × (spelled ≡ spelled')
longest_once bs spelled rest spelled' rest' l m e f g h =
    let k : length spelled ≡ length spelled' = omega (arith, h.longest spelled rest l e g.spells, g.longest spelled' rest' m f h.spells) in
    let s : spelled ≡ spelled' = same_front spelled spelled' rest rest' (sym e ∙ f) k in
    (spelled_once spelled' l m (subst (λ (v : List ℕ). IsSpelling v l) s g.spells) h.spells, s)

-- how bytes begin that a token is spelled by a front of
bytes_begin : (bs spelled rest : List ℕ) (l : Lexeme) → bs ≡ spelled ++ rest → IsSpelling spelled l → (first : ℕ) × (more : List ℕ) × (bs ≡ first ∷ more) × (is_white first ≡ false) × (is_allowed first ≡ true)
bytes_begin bs spelled rest l e h =
    let b = form_begins l.kind spelled l.text l.number h in
    (b.0, b.1 ++ rest, e ∙ ap (λ (v : List ℕ). v ++ rest) b.2, b.4, b.5)

no_gap_at_token : (bs spelled rest gap rest' : List ℕ) (l : Lexeme) → bs ≡ spelled ++ rest → IsLongest bs spelled l → bs ≡ gap ++ rest' → IsGap gap rest' → ⊥
no_gap_at_token bs spelled rest gap rest' l e h f g =
    let b = bytes_begin bs spelled rest l e h.spells in
    no_gap b.0 b.1 gap rest' (sym b.2 ∙ f) b.3 (sym (ap opens_comment b.2) ∙ h.no_comment) g

allowed_at_token : (bs spelled rest : List ℕ) (l : Lexeme) → bs ≡ spelled ++ rest → IsSpelling spelled l → is_allowed (slice_index bs 0) ≡ false → ⊥
allowed_at_token bs spelled rest l e h g =
    let b = bytes_begin bs spelled rest l e h in
    no_both (is_allowed b.0) b.4 (sym (ap (λ (v : List ℕ). is_allowed (slice_index v 0)) b.2) ∙ g)

not_lacking : (bs spelled rest : List ℕ) (l : Lexeme) → bs ≡ spelled ++ rest → IsLongest bs spelled l → l.number ≤ greatest_number → LacksToken bs → ⊥
not_lacking bs spelled rest l e h k (open_comment bs' body f c) = no_both true refl (sym (ap opens_comment f) ∙ h.no_comment)
not_lacking bs spelled rest l e h k (no_form first more a w c n) = omega (arith, n spelled rest l e h.spells, spelled_some spelled l h.spells)
not_lacking bs spelled rest l e h k (too_great bs' spelled' rest' m f g v) =
    let r = longest_once bs spelled rest spelled' rest' l m e f h g in
    let q : l.number ≡ m.number = ap (λ (x : Lexeme). x.number) r.0 in
    omega arith

-- the longest token at the front is found
token_front_is : (bs spelled rest : List ℕ) (l : Lexeme) (f : Front) → bs ≡ spelled ++ rest → IsLongest bs spelled l → l.number ≤ greatest_number → FrontIs bs f → f ≡ Taken l (length spelled)
token_front_is bs spelled rest l (Gap n) e h k g = absurd (no_gap_at_token bs spelled rest g.0 g.1 l e h g.2 g.4)
token_front_is bs spelled rest l (Taken m n) e h k g =
    let r = longest_once bs spelled rest g.0 g.1 l m e g.2 h g.4 in
    ap (λ (q : Lexeme). Taken q n) (sym r.0) ∙ ap (Taken l) (sym g.3 ∙ ap length (sym r.1))
token_front_is bs spelled rest l BadByte e h k g = absurd (allowed_at_token bs spelled rest l e h.spells g)
token_front_is bs spelled rest l NoToken e h k g = absurd (not_lacking bs spelled rest l e h k g)

-- where no token is, none is found
none_front_is : (first : ℕ) (more : List ℕ) (f : Front) → is_allowed first ≡ true → is_white first ≡ false → opens_comment (first ∷ more) ≡ false → NoneLonger (first ∷ more) 0 → FrontIs (first ∷ more) f → f ≡ NoToken
none_front_is first more (Gap n) a w c h g = absurd (no_gap first more g.0 g.1 g.2 w c g.4)
none_front_is first more (Taken m n) a w c h g = absurd (let k : length g.0 ≤ 0 = h g.0 g.1 m g.2 g.4.spells in omega (arith, k, spelled_some g.0 m g.4.spells))
none_front_is first more BadByte a w c h g = absurd (no_both (is_allowed first) a g)
none_front_is first more NoToken a w c h g = refl

great_front_is : (bs spelled rest : List ℕ) (l : Lexeme) (f : Front) → bs ≡ spelled ++ rest → IsLongest bs spelled l → greatest_number < l.number → FrontIs bs f → f ≡ NoToken
great_front_is bs spelled rest l (Gap n) e h k g = absurd (no_gap_at_token bs spelled rest g.0 g.1 l e h g.2 g.4)
great_front_is bs spelled rest l (Taken m n) e h k g =
    absurd (
    let r = longest_once bs spelled rest g.0 g.1 l m e g.2 h g.4 in
    let q : l.number ≡ m.number = ap (λ (x : Lexeme). x.number) r.0 in
    omega (arith, g.5))
great_front_is bs spelled rest l BadByte e h k g = absurd (allowed_at_token bs spelled rest l e h.spells g)
great_front_is bs spelled rest l NoToken e h k g = refl

longer : (bs spelled rest : List ℕ) → bs ≡ spelled ++ rest → 0 < length spelled → 0 < length bs
longer bs spelled rest e h = omega (arith, ap length e, length-append spelled rest)

pub lacks_front : (bs : List ℕ) → LacksToken bs → (front_of bs ≡ NoToken) × (0 < length bs)
lacks_front bs (open_comment bs' body e h) =
    let k : length bs ≡ suc (suc (length body)) = ap length e in
    (ap front_of e ∙ ap closed (closing-none body h), omega arith)
lacks_front bs (no_form first more a w c h) = (none_front_is first more _ a w c h (front_is first more), omega arith)
lacks_front bs (too_great bs' spelled rest l e h v) =
    let some : 0 < length bs = longer bs spelled rest e (spelled_some spelled l h.spells) in
    (great_front_is bs spelled rest l _ e h v (front_stands bs some), some)

pub bad_front : (first : ℕ) (more : List ℕ) → is_allowed first ≡ false → front_of (first ∷ more) ≡ BadByte
bad_front first more h =
    let w = or_none (is_printed first) (is_white first) h in
    when_false (is_white first) (Gap 1) _ w.1 ∙ when_true (not (is_allowed first)) BadByte _ (ap not h)

-- a front and the rest, by how long the front is
taken : (bs front rest : List ℕ) → bs ≡ front ++ rest → take (length front) bs ≡ front
taken bs front rest e = ap (take (length front)) e ∙ take-append_seam front rest

dropped : (bs front rest : List ℕ) → bs ≡ front ++ rest → drop (length front) bs ≡ rest
dropped bs front rest e = ap (drop (length front)) e ∙ drop-append_seam front rest

past_front : (at : Span) (bs front rest : List ℕ) → bs ≡ front ++ rest → reading 0 (past (take (length front) bs) at) (drop (length front) bs) ≡ reading 0 (past front at) rest
past_front at bs front rest e =
    ap (λ (q : List ℕ). reading 0 (past q at) (drop (length front) bs)) (taken bs front rest e) ∙ ap (reading 0 (past front at)) (dropped bs front rest e)

reading-over_gap : (at : Span) (bs gap rest : List ℕ) → bs ≡ gap ++ rest → IsGap gap rest → reading 0 at bs ≡ reading 0 (past gap at) rest
reading-over_gap at bs gap rest e g =
    let k = gap_front bs gap rest e g in
    reading-gap bs at (length gap) (longer bs gap rest e k.1) k.1 k.0 ∙ past_front at bs gap rest e

reading-over_token : (at : Span) (bs spelled rest : List ℕ) (l : Lexeme) → bs ≡ spelled ++ rest → IsLongest bs spelled l → l.number ≤ greatest_number → reading 0 at bs ≡ joined (token_at at l ∷ []) (reading 0 (past spelled at) rest)
reading-over_token at bs spelled rest l e h v =
    let some : 0 < length spelled = spelled_some spelled l h.spells in
    let bytes : 0 < length bs = longer bs spelled rest e some in
    let f : front_of bs ≡ Taken l (length spelled) = token_front_is bs spelled rest l _ e h v (front_stands bs bytes) in
    reading-token bs at l (length spelled) bytes some f ∙ ap (joined (token_at at l ∷ [])) (past_front at bs spelled rest e)

abbrev pub read_as : List Token → Option Fault → Reading
read_as tokens fault = record { tokens = tokens; fault = fault }

-- the reading that the spelling relates to the bytes is the computed one
pub reads-reading : (at : Span) (bs : List ℕ) (ts : List Token) (f : Option Fault) → Reads at bs ts f → reading 0 at bs ≡ read_as ts f
reads-reading at bs ts f (at_end at' tokens e) = reading-end at ∙ ap (λ (q : List Token). read_as q None) (sym e)
reads-reading at bs ts f (over_gap at' bs' gap rest ts' f' e g r) = reading-over_gap at bs gap rest e g ∙ reads-reading (past gap at) rest ts f r
reads-reading at bs ts f (over_token at' bs' spelled rest l token tokens f' e h v t r) =
    reading-over_token at bs spelled rest l e h v ∙ ap (joined (token_at at l ∷ [])) (reads-reading (past spelled at) rest tokens f r) ∙ ap (λ (q : Token). read_as (q ∷ tokens) f) (sym t)
reads-reading at bs ts f (at_bad_byte at' first more f' h e) = reading-bad (first ∷ more) at (omega arith) (bad_front first more h) ∙ ap (read_as []) (sym e)
reads-reading at bs ts f (at_no_token at' bs' f' h e) = (let k = lacks_front bs h in reading-none bs at k.1 k.0) ∙ ap (read_as []) (sym e)

-- the computed reading is one
abbrev ReadsOn : ℕ → Type 0
ReadsOn k = (bs : List ℕ) → length bs ≤ k → (at : Span) → Reads at bs (reading 0 at bs).tokens (reading 0 at bs).fault

over : (at : Span) (bs : List ℕ) (r : Reading) → reading 0 at bs ≡ r → Reads at bs r.tokens r.fault → Reads at bs (reading 0 at bs).tokens (reading 0 at bs).fault
over at bs r e h = subst (λ (q : Reading). Reads at bs q.tokens q.fault) (sym e) h

reads_front : (k : ℕ) → ReadsOn k → (first : ℕ) (more : List ℕ) → length more ≤ k → (at : Span) (f : Front) → front_of (first ∷ more) ≡ f → FrontIs (first ∷ more) f →
    Reads at (first ∷ more) (reading 0 at (first ∷ more)).tokens (reading 0 at (first ∷ more)).fault
reads_front k ih first more h at (Gap n) e g =
    let bs : List ℕ = first ∷ more in
    let some = gap_front bs g.0 g.1 g.2 g.4 in
    let len : length g.1 ≤ k = omega (arith, ap length g.2, length-append g.0 g.1, some.1) in
    over at bs _ (reading-over_gap at bs g.0 g.1 g.2 g.4) (over_gap at bs g.0 g.1 _ _ g.2 g.4 (ih g.1 len (past g.0 at)))
reads_front k ih first more h at (Taken l n) e g =
    let bs : List ℕ = first ∷ more in
    let len : length g.1 ≤ k = omega (arith, ap length g.2, length-append g.0 g.1, spelled_some g.0 l g.4.spells) in
    over at bs _ (reading-over_token at bs g.0 g.1 l g.2 g.4 g.5) (over_token at bs g.0 g.1 l _ _ _ g.2 g.4 g.5 refl (ih g.1 len (past g.0 at)))
reads_front k ih first more h at BadByte e g = over at (first ∷ more) _ (reading-bad (first ∷ more) at (omega arith) e) (at_bad_byte at first more _ g refl)
reads_front k ih first more h at NoToken e g = over at (first ∷ more) _ (reading-none (first ∷ more) at (omega arith) e) (at_no_token at (first ∷ more) _ g refl)

reads_on : (k : ℕ) → ReadsOn k
reads_on k [] h at = over at [] _ (reading-end at) (at_end at _ refl)
reads_on zero (b ∷ bs) h at = absurd (omega arith)
reads_on (suc k) (b ∷ bs) h at = reads_front k (reads_on k) b bs (omega arith) at (front_of (b ∷ bs)) refl (front_is b bs)

pub reading-reads : (bs : List ℕ) (at : Span) → Reads at bs (reading 0 at bs).tokens (reading 0 at bs).fault
reading-reads bs at = reads_on (length bs) bs (omega arith) at

-- a text has one reading
pub reading_once : (bs : List ℕ) (ts us : List Token) (e f : Option Fault) → Reads start bs ts e → Reads start bs us f → (ts ≡ us) × (e ≡ f)
reading_once bs ts us e f g h =
    let k : read_as ts e ≡ read_as us f = sym (reads-reading start bs ts e g) ∙ reads-reading start bs us f h in
    (ap (λ (r : Reading). r.tokens) k, ap (λ (r : Reading). r.fault) k)

-- what equals the computed reading is the reading, and the only one
pub computed_reads : (bs : List ℕ) (r : Reading) → r ≡ text_reading bs → Reads start bs r.tokens r.fault
computed_reads bs r e = subst (λ (q : Reading). Reads start bs q.tokens q.fault) (sym e) (reading-reads bs start)

pub computed_only : (bs : List ℕ) (r : Reading) → r ≡ text_reading bs → (ts : List Token) (f : Option Fault) → Reads start bs ts f → (r.tokens ≡ ts) × (r.fault ≡ f)
computed_only bs r e ts f h = reading_once bs r.tokens ts r.fault f (computed_reads bs r e) h

form_no_end : (k : TokenKind) (w text : List ℕ) (n : ℕ) → IsForm k w text n → not (is_end k) ≡ true
form_no_end Word w text n h = refl
form_no_end Number w text n h = refl
form_no_end Quoted w text n h = refl
form_no_end Sign w text n h = refl
form_no_end End w text n h = absurd h

ended_more : (t : Token) (ts : List Token) (f : Option Fault) → not (is_end t.kind) ≡ true → IsEnded ts f → IsEnded (t ∷ ts) f
ended_more t [] None h e = cc
ended_more t (u ∷ us) None h e = and_from (not (is_end t.kind)) (ends_once (u ∷ us)) h e
ended_more t ts (Some f) h e = and_from (not (is_end t.kind)) (list_all (λ u. not (is_end u.kind)) ts) h e

-- End is the last of what is read without a fault
pub reads_ended : (at : Span) (bs : List ℕ) (ts : List Token) (f : Option Fault) → Reads at bs ts f → IsEnded ts f
reads_ended at bs ts f (at_end at' tokens e) = subst (λ (q : List Token). IsEnded q None) (sym e) refl
reads_ended at bs ts f (over_gap at' bs' gap rest ts' f' e g r) = reads_ended (past gap at) rest ts f r
reads_ended at bs ts f (over_token at' bs' spelled rest l token tokens f' e h v t r) =
    let k : not (is_end token.kind) ≡ true = subst (λ (q : Token). not (is_end q.kind) ≡ true) (sym t) (form_no_end l.kind spelled l.text l.number h.spells) in
    ended_more token tokens f k (reads_ended (past spelled at) rest tokens f r)
reads_ended at bs ts f (at_bad_byte at' first more f' h e) = subst (λ (q : Option Fault). IsEnded [] q) (sym e) refl
reads_ended at bs ts f (at_no_token at' bs' f' h e) = subst (λ (q : Option Fault). IsEnded [] q) (sym e) refl
