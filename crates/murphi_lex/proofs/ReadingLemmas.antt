-- How the reading of a text goes on over one piece of a gap or one token, and how it ends.
use Rattle.std.proofs.Common.{◌≡◌, ℕ, zero, suc, ◌-◌, ◌<◌, List, [], ◌∷◌, ◌++◌, length, take, drop, refl, ap, sym, ◌∙◌, arith, Option, None, Some, append_assoc}
use Rattle.murphi_ast.specs.Bytes.{after, past}
use Rattle.murphi_ast.specs.Spelling.{Lexeme, token_at, end_token}
use Rattle.murphi_ast.specs.declared.token.Span.{Span}
use Rattle.murphi_ast.specs.declared.token.Token.{Token}
use Rattle.murphi_ast.specs.declared.token.Fault.{Fault}
use Rattle.murphi_ast.specs.declared.token.Fault.TheVariants.{E02, E03}
use Rattle.murphi_lex.specs.Scanning.{Front, Gap, Taken, BadByte, NoToken, front_of, Reading, joined, reading}

append_none : (ts : List Token) → ts ++ [] ≡ ts
append_none [] = refl
append_none (t ∷ ts) = ap (λ (us : List Token). t ∷ us) (append_none ts)

-- the bytes of what began before are passed over
pub reading-past : (n : ℕ) (at : Span) (bs : List ℕ) → reading n at bs ≡ reading 0 (past (take n bs) at) (drop n bs)
unfolding reading
reading-past zero at bs = refl
reading-past (suc n) at [] = refl
reading-past (suc n) at (b ∷ bs) = reading-past n (after b at) bs

-- what is read where this stands at the front
abbrev turn : Front → Span → ℕ → List ℕ → Reading
turn f at b bs =
    elim f [
      | Gap n ↦ reading (n - 1) (after b at) bs
      | Taken l n ↦ joined (token_at at l ∷ []) (reading (n - 1) (after b at) bs)
      | BadByte ↦ record { tokens = []; fault = Some (E02 at) }
      | NoToken ↦ record { tokens = []; fault = Some (E03 at) }
    ]

turned : (b : ℕ) (bs : List ℕ) (at : Span) (f : Front) → front_of (b ∷ bs) ≡ f → reading 0 at (b ∷ bs) ≡ turn f at b bs
unfolding reading
turned b bs at f e = ap (λ (g : Front). turn g at b bs) e

-- behind a gap
pub reading-gap : (bs : List ℕ) (at : Span) (n : ℕ) → 0 < length bs → 0 < n → front_of bs ≡ Gap n → reading 0 at bs ≡ reading 0 (past (take n bs) at) (drop n bs)
reading-gap [] at n h k e = absurd (omega arith)
reading-gap (b ∷ bs) at zero h k e = absurd (omega arith)
reading-gap (b ∷ bs) at (suc n) h k e =
    let m : suc n - 1 ≡ n = omega arith in
    turned b bs at (Gap (suc n)) e ∙ ap (λ (j : ℕ). reading j (after b at) bs) m ∙ reading-past n (after b at) bs

-- behind a token
pub reading-token : (bs : List ℕ) (at : Span) (l : Lexeme) (n : ℕ) → 0 < length bs → 0 < n → front_of bs ≡ Taken l n → reading 0 at bs ≡ joined (token_at at l ∷ []) (reading 0 (past (take n bs) at) (drop n bs))
reading-token [] at l n h k e = absurd (omega arith)
reading-token (b ∷ bs) at l zero h k e = absurd (omega arith)
reading-token (b ∷ bs) at l (suc n) h k e =
    let m : suc n - 1 ≡ n = omega arith in
    turned b bs at (Taken l (suc n)) e ∙ ap (λ (j : ℕ). joined (token_at at l ∷ []) (reading j (after b at) bs)) m ∙ ap (joined (token_at at l ∷ [])) (reading-past n (after b at) bs)

pub reading-bad : (bs : List ℕ) (at : Span) → 0 < length bs → front_of bs ≡ BadByte → reading 0 at bs ≡ record { tokens = []; fault = Some (E02 at) }
reading-bad [] at h e = absurd (omega arith)
reading-bad (b ∷ bs) at h e = turned b bs at BadByte e

pub reading-none : (bs : List ℕ) (at : Span) → 0 < length bs → front_of bs ≡ NoToken → reading 0 at bs ≡ record { tokens = []; fault = Some (E03 at) }
reading-none [] at h e = absurd (omega arith)
reading-none (b ∷ bs) at h e = turned b bs at NoToken e

pub reading-end : (at : Span) → reading 0 at [] ≡ record { tokens = end_token at ∷ []; fault = None }
unfolding reading
reading-end at = refl

abbrev reading_with : Option Fault → List Token → Reading
reading_with f ts = record { tokens = ts; fault = f }

-- the turns of the loop, with the tokens so far
pub gap_turn : (ts : List Token) (bs : List ℕ) (at : Span) (n : ℕ) (whole : Reading) → 0 < length bs → 0 < n → front_of bs ≡ Gap n → joined ts (reading 0 at bs) ≡ whole →
    joined ts (reading 0 (past (take n bs) at) (drop n bs)) ≡ whole
gap_turn ts bs at n whole h k e w = ap (joined ts) (sym (reading-gap bs at n h k e)) ∙ w

pub token_turn : (ts : List Token) (bs : List ℕ) (at : Span) (l : Lexeme) (n : ℕ) (whole : Reading) → 0 < length bs → 0 < n → front_of bs ≡ Taken l n → joined ts (reading 0 at bs) ≡ whole →
    joined (ts ++ token_at at l ∷ []) (reading 0 (past (take n bs) at) (drop n bs)) ≡ whole
token_turn ts bs at l n whole h k e w =
    let r : Reading = reading 0 (past (take n bs) at) (drop n bs) in
    ap (reading_with r.fault) (append_assoc ts (token_at at l ∷ []) r.tokens)
    ∙ ap (joined ts) (sym (reading-token bs at l n h k e)) ∙ w

-- the same, of what the code holds behind the token
pub token_turned : (ts ts' : List Token) (t : Token) (bs piece left : List ℕ) (at at' : Span) (l : Lexeme) (n : ℕ) (whole : Reading) → 0 < length bs → 0 < n → front_of bs ≡ Taken l n →
    ts' ≡ ts ++ t ∷ [] → t ≡ token_at at l → piece ≡ take n bs → left ≡ drop n bs → at' ≡ past piece at → joined ts (reading 0 at bs) ≡ whole → joined ts' (reading 0 at' left) ≡ whole
token_turned ts ts' t bs piece left at at' l n whole h k e i j p d a w =
    let i' : ts' ≡ ts ++ token_at at l ∷ [] = i ∙ ap (λ (u : Token). ts ++ u ∷ []) j in
    let a' : at' ≡ past (take n bs) at = a ∙ ap (λ (q : List ℕ). past q at) p in
    ap (λ (us : List Token). joined us (reading 0 at' left)) i'
    ∙ ap (λ (q : Span). joined (ts ++ token_at at l ∷ []) (reading 0 q left)) a'
    ∙ ap (λ (q : List ℕ). joined (ts ++ token_at at l ∷ []) (reading 0 (past (take n bs) at) q)) d
    ∙ token_turn ts bs at l n whole h k e w

pub bad_turn : (ts : List Token) (bs : List ℕ) (at : Span) (whole : Reading) → 0 < length bs → front_of bs ≡ BadByte → joined ts (reading 0 at bs) ≡ whole →
    record { tokens = ts; fault = Some (E02 at) } ≡ whole
bad_turn ts bs at whole h e w = ap (reading_with (Some (E02 at))) (sym (append_none ts)) ∙ ap (joined ts) (sym (reading-bad bs at h e)) ∙ w

pub none_turn : (ts : List Token) (bs : List ℕ) (at : Span) (whole : Reading) → 0 < length bs → front_of bs ≡ NoToken → joined ts (reading 0 at bs) ≡ whole →
    record { tokens = ts; fault = Some (E03 at) } ≡ whole
none_turn ts bs at whole h e w = ap (reading_with (Some (E03 at))) (sym (append_none ts)) ∙ ap (joined ts) (sym (reading-none bs at h e)) ∙ w

pub end_turn : (ts : List Token) (bs : List ℕ) (at : Span) (whole : Reading) → length bs ≡ 0 → joined ts (reading 0 at bs) ≡ whole →
    record { tokens = ts ++ end_token at ∷ []; fault = None } ≡ whole
end_turn ts [] at whole h w = ap (joined ts) (sym (reading-end at)) ∙ w
end_turn ts (b ∷ bs) at whole h w = absurd (omega arith)

pub ruleset turns = (gap_turn, end_turn)
