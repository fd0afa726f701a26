-- Lists of bytes: how far a run goes, where a comment closes, and fronts of one list.
use Rattle.std.proofs.Common.{◌≡◌, ℕ, suc, ◌+◌, Bool, true, false, cond, not, ◌&&◌, ◌||◌, List, [], ◌∷◌, ◌++◌, length, take, drop, refl, ap, sym, ◌∙◌, subst, arith, inl, inr, Option, None, Some}
use Rattle.std.specs.Prelude.{option_map, ◌==◌, if◌then◌else◌}
use Rattle.std.specs.List.{prefix_len, list_all}
use Rattle.std.proofs.lemmas.Bool.{cases_Bool, and_parts, and_from, eqb-true, not-false}
use Rattle.std.proofs.Math.Seq.{take-append_seam, drop-append_seam}
use Rattle.murphi_ast.specs.Bytes.{is_line_byte}
use Rattle.murphi_ast.specs.Spelling.{holds_close, ends_line}
use Rattle.murphi_lex.specs.Scanning.{closing}

pub or_none : (x y : Bool) → (x || y) ≡ false → (x ≡ false) × (y ≡ false)
or_none true y h = cc
or_none false y h = (refl, h)

pub no_both : (t : Bool) → t ≡ true → t ≡ false → ⊥
no_both t e f = cc

pub prefix_len-more : (p : ℕ → Bool) (x : ℕ) (xs : List ℕ) → p x ≡ true → prefix_len p (x ∷ xs) ≡ suc (prefix_len p xs)
prefix_len-more p x xs e = let k : 1 + prefix_len p xs ≡ suc (prefix_len p xs) = omega arith in ap (λ (b : Bool). cond b (1 + prefix_len p xs) 0) e ∙ k

pub prefix_len-stop : (p : ℕ → Bool) (x : ℕ) (xs : List ℕ) → p x ≡ false → prefix_len p (x ∷ xs) ≡ 0
prefix_len-stop p x xs e = ap (λ (b : Bool). cond b (1 + prefix_len p xs) 0) e

-- a run goes on over all that belongs to it
pub prefix_len-over : (p : ℕ → Bool) (xs ys : List ℕ) → list_all p xs ≡ true → prefix_len p (xs ++ ys) ≡ length xs + prefix_len p ys
prefix_len-over p [] ys h = omega arith
prefix_len-over p (x ∷ xs) ys h =
    let e = and_parts (p x) (list_all p xs) h in
    let k : suc (prefix_len p (xs ++ ys)) ≡ suc (length xs) + prefix_len p ys = omega (arith, prefix_len-over p xs ys e.1) in
    prefix_len-more p x (xs ++ ys) e.0 ∙ k

-- all of a run belongs to it
pub list_all-run : (p : ℕ → Bool) (xs : List ℕ) → list_all p (take (prefix_len p xs) xs) ≡ true
list_all-run p [] = refl
list_all-run p (x ∷ xs) =
    elim (cases_Bool (p x)) [
      | inl e ↦ subst (λ (n : ℕ). list_all p (take n (x ∷ xs)) ≡ true) (sym (prefix_len-more p x xs e)) (and_from (p x) (list_all p (take (prefix_len p xs) xs)) e (list_all-run p xs))
      | inr e ↦ subst (λ (n : ℕ). list_all p (take n (x ∷ xs)) ≡ true) (sym (prefix_len-stop p x xs e)) refl
    ]

-- a comment behind `--` goes up to the end of its line
pub ends_line-run : (xs : List ℕ) → ends_line (drop (prefix_len is_line_byte xs) xs) ≡ true
ends_line-run [] = refl
ends_line-run (x ∷ xs) =
    elim (cases_Bool (is_line_byte x)) [
      | inl e ↦ subst (λ (n : ℕ). ends_line (drop n (x ∷ xs)) ≡ true) (sym (prefix_len-more is_line_byte x xs e)) (ends_line-run xs)
      | inr e ↦ subst (λ (n : ℕ). ends_line (drop n (x ∷ xs)) ≡ true) (sym (prefix_len-stop is_line_byte x xs e)) (not-false (x == 10) e)
    ]

pub ends_line-stops : (xs : List ℕ) → ends_line xs ≡ true → prefix_len is_line_byte xs ≡ 0
ends_line-stops [] h = refl
ends_line-stops (x ∷ xs) h = prefix_len-stop is_line_byte x xs (ap not h)

-- fronts of one list that are as long are the same
pub same_front : (u v x y : List ℕ) → u ++ x ≡ v ++ y → length u ≡ length v → u ≡ v
same_front u v x y e h = sym (take-append_seam u x) ∙ ap (take (length u)) e ∙ ap (λ (n : ℕ). take n (v ++ y)) h ∙ take-append_seam v y

pub same_rest : (u v x y : List ℕ) → u ++ x ≡ v ++ y → length u ≡ length v → x ≡ y
same_rest u v x y e h = sym (drop-append_seam u x) ∙ ap (drop (length u)) e ∙ ap (λ (n : ℕ). drop n (v ++ y)) h ∙ drop-append_seam v y

chosen : (t : Bool) (x y : Option ℕ) → t ≡ false → (if t then x else y) ≡ y
chosen true x y e = cc
chosen false x y e = refl

and_no : (t : Bool) → (t && false) ≡ false
and_no true = refl
and_no false = refl

-- the first `*/` closes a comment
pub closing-closes : (body rest : List ℕ) → holds_close (body ++ 42 ∷ []) ≡ false → closing (body ++ 42 ∷ 47 ∷ rest) ≡ Some (length body + 2)
closing-closes [] rest h = refl
closing-closes (b ∷ []) rest h = chosen _ _ _ (and_no (b == 42))
closing-closes (b ∷ c ∷ body) rest h =
    let e = or_none (b == 42 && c == 47) (holds_close (c ∷ body ++ 42 ∷ [])) h in
    let k : length (c ∷ body) + 2 + 1 ≡ length (b ∷ c ∷ body) + 2 = omega arith in
    chosen _ (Some 2) _ e.0 ∙ ap (option_map (λ n. n + 1)) (closing-closes (c ∷ body) rest e.1) ∙ ap Some k

-- where no `*/` stands, none closes
pub closing-none : (body : List ℕ) → holds_close body ≡ false → closing body ≡ None
closing-none [] h = refl
closing-none (b ∷ []) h = refl
closing-none (b ∷ c ∷ body) h =
    let e = or_none (b == 42 && c == 47) (holds_close (c ∷ body)) h in
    chosen _ (Some 2) _ e.0 ∙ ap (option_map (λ n. n + 1)) (closing-none (c ∷ body) e.1)

-- Where a comment closes: the bytes before have no `*/`, not even with the star of the one behind them.
abbrev pub ClosedBy : List ℕ → ℕ → Type 0
ClosedBy bs n = (body : List ℕ) × (rest : List ℕ) × (bs ≡ body ++ 42 ∷ 47 ∷ rest) × (n ≡ length body + 2) × (holds_close (body ++ 42 ∷ []) ≡ false)

holds_close-cons : (b c : ℕ) (xs body rest : List ℕ) → c ∷ xs ≡ body ++ 42 ∷ 47 ∷ rest → (b == 42 && c == 47) ≡ false → holds_close (body ++ 42 ∷ []) ≡ false → holds_close (b ∷ body ++ 42 ∷ []) ≡ false
holds_close-cons b c xs [] rest e t h = ap (λ (x : Bool). x || false) (and_no (b == 42))
holds_close-cons b c xs (d ∷ body) rest e t h =
    let k : c ≡ d = cc in
    let t' : (b == 42 && d == 47) ≡ false = subst (λ (x : ℕ). (b == 42 && x == 47) ≡ false) k t in
    ap (λ (x : Bool). x || holds_close (d ∷ body ++ 42 ∷ [])) t' ∙ h

closed_here : (b c n : ℕ) (bs : List ℕ) → (b == 42 && c == 47) ≡ true → Some 2 ≡ Some n → ClosedBy (b ∷ c ∷ bs) n
closed_here b c n bs t e =
    let k = and_parts (b == 42) (c == 47) t in
    let x : b ≡ 42 = eqb-true b 42 k.0 in
    let y : c ≡ 47 = eqb-true c 47 k.1 in
    let m : 2 ≡ n = cc in
    let r : b ∷ c ∷ bs ≡ 42 ∷ 47 ∷ bs = cc in
    ([], bs, r, sym m, refl)

closed_later : (b c n : ℕ) (bs : List ℕ) (o : Option ℕ) → ((m : ℕ) → o ≡ Some m → ClosedBy (c ∷ bs) m) → (b == 42 && c == 47) ≡ false → option_map (λ k. k + 1) o ≡ Some n → ClosedBy (b ∷ c ∷ bs) n
closed_later b c n bs None h t e = cc
closed_later b c n bs (Some m) h t e =
    let r = h m refl in
    let k : m + 1 ≡ n = cc in
    let l : n ≡ length (b ∷ r.0) + 2 = omega (arith, k, r.3) in
    (b ∷ r.0, r.1, ap (λ (xs : List ℕ). b ∷ xs) r.2, l, holds_close-cons b c bs r.0 r.1 r.2 t r.4)

pub closing-some : (bs : List ℕ) (n : ℕ) → closing bs ≡ Some n → ClosedBy bs n
closing-some [] n e = cc
closing-some (b ∷ []) n e = cc
closing-some (b ∷ c ∷ bs) n e =
    elim (cases_Bool (b == 42 && c == 47)) [
      | inl t ↦ closed_here b c n bs t (sym (ap (λ (x : Bool). if x then Some 2 else option_map (λ k. k + 1) (closing (c ∷ bs))) t) ∙ e)
      | inr t ↦ closed_later b c n bs (closing (c ∷ bs)) (λ (m : ℕ) (r : closing (c ∷ bs) ≡ Some m). closing-some (c ∷ bs) m r) t (sym (chosen _ (Some 2) _ t) ∙ e)
    ]

not_mapped : (o : Option ℕ) → option_map (λ k. k + 1) o ≡ None → o ≡ None
not_mapped None e = refl
not_mapped (Some m) e = cc

two_is_none : {P : Type 0} → (let o : Option ℕ = Some 2 in o ≡ None) → P
two_is_none e = cc

pub closing-rejects : (bs : List ℕ) → closing bs ≡ None → holds_close bs ≡ false
closing-rejects [] e = refl
closing-rejects (b ∷ []) e = refl
closing-rejects (b ∷ c ∷ bs) e =
    elim (cases_Bool (b == 42 && c == 47)) [
      | inl t ↦ two_is_none (sym (ap (λ (x : Bool). if x then Some 2 else option_map (λ k. k + 1) (closing (c ∷ bs))) t) ∙ e)
      | inr t ↦ ap (λ (x : Bool). x || holds_close (c ∷ bs)) t ∙ closing-rejects (c ∷ bs) (not_mapped (closing (c ∷ bs)) (sym (chosen _ (Some 2) _ t) ∙ e))
    ]
