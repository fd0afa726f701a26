-- Symbols of tokens, and lists that are taken apart.
use Rattle.std.specs.Prelude.{nat_eq, ◌&&◌, slice_get}
use Rattle.std.specs.Str.{bytes_eq}
use Rattle.std.proofs.Common.{◌≡◌, ℕ, zero, suc, Bool, true, false, List, [], ◌∷◌, ◌++◌, drop, length, Option, Some, None, Result, Ok, Err, refl, sym, ap, ◌∙◌}
use Rattle.std.proofs.lemmas.Slice.Eq.{bytes_eq-Decides}
use Rattle.murphi_ast.specs.declared.token.Token.{Token}
use Rattle.murphi_ast.specs.declared.token.TokenKind.{TokenKind}
use Rattle.murphi_ast.specs.declared.token.TokenKind.TheVariants as token
use Rattle.murphi_grammar.specs.declared.symbol.Symbol.{Symbol}
use Rattle.murphi_grammar.specs.declared.symbol.Symbol.TheVariants as t
use Rattle.murphi_grammar.specs.Symbols.{symbol_by}
use Rattle.murphi_grammar.specs.Tables.{code}
use Rattle.run_scripts.specs.Values.{has, is_end_kind, is_number_kind, is_quoted_kind, is_sign, is_sign_kind, is_word, is_word_kind}
use Rattle.run_scripts.specs.Scripts.{IsWord, IsSign, IsMinus, IsNumber}

pub true_false : {A : Type 0} {b : Bool} → b ≡ true → b ≡ false → A
true_false h k = absurd cc

pub ok_err : {A X Y : Type 0} {r : Result X Y} {x : X} {y : Y} → r ≡ Ok x → r ≡ Err y → A
ok_err h k = absurd cc

pub some_none : {A X : Type 0} {r : Option X} {x : X} → r ≡ Some x → r ≡ None → A
some_none h k = absurd cc

abbrev ok_of : {X Y : Type 0} → X → Result X Y
ok_of x = Ok x

abbrev err_of : {X Y : Type 0} → Y → Result X Y
err_of y = Err y

pub ok_is : {X Y : Type 0} {x y : X} → ok_of {X = X} {Y = Y} x ≡ ok_of {X = X} {Y = Y} y → x ≡ y
ok_is h = cc

pub err_is : {X Y : Type 0} {x y : Y} → err_of {X = X} {Y = Y} x ≡ err_of {X = X} {Y = Y} y → x ≡ y
err_is h = cc

pub some_is : {X : Type 0} {x y : X} → Some x ≡ Some y → x ≡ y
some_is h = cc

-- what a token is

pub word_kind : (k : TokenKind) → is_word_kind k ≡ true → k ≡ token.Word
word_kind token.Word h = refl
word_kind token.Number h = absurd cc
word_kind token.Quoted h = absurd cc
word_kind token.Sign h = absurd cc
word_kind token.End h = absurd cc

pub number_kind : (k : TokenKind) → is_number_kind k ≡ true → k ≡ token.Number
number_kind token.Word h = absurd cc
number_kind token.Number h = refl
number_kind token.Quoted h = absurd cc
number_kind token.Sign h = absurd cc
number_kind token.End h = absurd cc

pub quoted_kind : (k : TokenKind) → is_quoted_kind k ≡ true → k ≡ token.Quoted
quoted_kind token.Word h = absurd cc
quoted_kind token.Number h = absurd cc
quoted_kind token.Quoted h = refl
quoted_kind token.Sign h = absurd cc
quoted_kind token.End h = absurd cc

pub sign_kind : (k : TokenKind) → is_sign_kind k ≡ true → k ≡ token.Sign
sign_kind token.Word h = absurd cc
sign_kind token.Number h = absurd cc
sign_kind token.Quoted h = absurd cc
sign_kind token.Sign h = refl
sign_kind token.End h = absurd cc

pub end_kind : (k : TokenKind) → is_end_kind k ≡ true → k ≡ token.End
end_kind token.Word h = absurd cc
end_kind token.Number h = absurd cc
end_kind token.Quoted h = absurd cc
end_kind token.Sign h = absurd cc
end_kind token.End h = refl

-- a key word is no sign
pub sign_no_word : (s : Symbol) (x : Token) → IsMinus x → nat_eq (code t.Minus) (code s) ≡ false → has s x ≡ false
sign_no_word s x h e = ap (λ k. nat_eq (code (symbol_by k x.text)) (code s)) h.0 ∙ ap (λ w. nat_eq (code (symbol_by token.Sign w)) (code s)) h.1 ∙ e

-- words

pub same_bytes : (a b : List ℕ) → bytes_eq a b ≡ true → a ≡ b
same_bytes a b h = (bytes_eq-Decides a b).0 h

pub bytes_same : (a b : List ℕ) → a ≡ b → bytes_eq a b ≡ true
bytes_same a b h = (bytes_eq-Decides a b).1 h

pub and_left : (a b : Bool) → a && b ≡ true → a ≡ true
and_left true b h = refl
and_left false b h = absurd cc

pub and_right : (a b : Bool) → a && b ≡ true → b ≡ true
and_right true b h = h
and_right false b h = absurd cc

pub and_both : (a b : Bool) → a ≡ true → b ≡ true → a && b ≡ true
and_both true b h k = k
and_both false b h k = absurd cc

pub word_is : (word : List ℕ) (x : Token) → is_word word x ≡ true → IsWord word x
word_is word x h = (word_kind x.kind (and_left _ _ h), same_bytes x.text word (and_right (is_word_kind x.kind) _ h))

pub is_word_it : (word : List ℕ) (x : Token) → IsWord word x → is_word word x ≡ true
is_word_it word x h = and_both _ _ (ap is_word_kind h.0) (bytes_same x.text word h.1)

pub sign_is : (sign : List ℕ) (x : Token) → is_sign sign x ≡ true → IsSign sign x
sign_is sign x h = (sign_kind x.kind (and_left _ _ h), same_bytes x.text sign (and_right (is_sign_kind x.kind) _ h))

pub is_sign_it : (sign : List ℕ) (x : Token) → IsSign sign x → is_sign sign x ≡ true
is_sign_it sign x h = and_both _ _ (ap is_sign_kind h.0) (bytes_same x.text sign h.1)

-- a number is no sign, and a sign is no number
pub number_no_sign : (sign : List ℕ) (x : Token) → IsNumber x → is_sign sign x ≡ false
number_no_sign sign x h = ap (λ k. is_sign_kind k && bytes_eq x.text sign) h

pub word_no_sign : (sign : List ℕ) (x : Token) → x.kind ≡ token.Word → is_sign sign x ≡ false
word_no_sign sign x h = ap (λ k. is_sign_kind k && bytes_eq x.text sign) h

pub sign_no_number : {A : Type 0} (sign : List ℕ) (x : Token) → IsSign sign x → IsNumber x → A
sign_no_number sign x h k = true_false (ap is_sign_kind h.0) (ap is_sign_kind k)

-- what stands at the front of the rest of a list

pub drop_head : {X : Type 0} (n : ℕ) (xs : List X) (x : X) (ys : List X) → drop n xs ≡ x ∷ ys → slice_get xs n ≡ Some x
drop_head zero [] x ys h = absurd cc
drop_head zero (z ∷ zs) x ys h = let e : z ≡ x = cc in ap Some e
drop_head (suc n) [] x ys h = absurd cc
drop_head (suc n) (z ∷ zs) x ys h = drop_head n zs x ys h

pub drop_tail : {X : Type 0} (n : ℕ) (xs : List X) (x : X) (ys : List X) → drop n xs ≡ x ∷ ys → drop (suc n) xs ≡ ys
drop_tail zero [] x ys h = absurd cc
drop_tail zero (z ∷ zs) x ys h = cc
drop_tail (suc n) [] x ys h = absurd cc
drop_tail (suc n) (z ∷ zs) x ys h = drop_tail n zs x ys h

pub drop_none : {X : Type 0} (n : ℕ) (xs : List X) → drop n xs ≡ [] → slice_get xs n ≡ None
drop_none zero [] h = refl
drop_none zero (z ∷ zs) h = absurd cc
drop_none (suc n) [] h = refl
drop_none (suc n) (z ∷ zs) h = drop_none n zs h

pub none_drop : {X : Type 0} (n : ℕ) (xs : List X) → slice_get xs n ≡ None → drop n xs ≡ []
none_drop zero [] h = refl
none_drop zero (z ∷ zs) h = absurd cc
none_drop (suc n) [] h = refl
none_drop (suc n) (z ∷ zs) h = none_drop n zs h

pub some_drop : {X : Type 0} (n : ℕ) (xs : List X) (x : X) → slice_get xs n ≡ Some x → drop n xs ≡ x ∷ drop (suc n) xs
some_drop zero [] x h = absurd cc
some_drop zero (z ∷ zs) x h = let e : z ≡ x = cc in ap (λ y. y ∷ zs) e
some_drop (suc n) [] x h = absurd cc
some_drop (suc n) (z ∷ zs) x h = some_drop n zs x h

pub length_last : {X : Type 0} (xs : List X) (x : X) → length (xs ++ x ∷ []) ≡ suc (length xs)
length_last [] x = refl
length_last (y ∷ xs) x = ap suc (length_last xs x)

-- the rest behind one more value
pub drop_more : {X Y : Type 0} (g : List Y) (v : Y) (xs : List X) (x : X) (ys : List X) → drop (length g) xs ≡ x ∷ ys → drop (length (g ++ v ∷ [])) xs ≡ ys
drop_more g v xs x ys h = ap (λ n. drop n xs) (length_last g v) ∙ drop_tail (length g) xs x ys h

pub never_last : {A X : Type 0} (xs : List X) (x : X) → xs ++ x ∷ [] ≡ [] → A
never_last [] x h = absurd cc
never_last (a ∷ xs) x h = absurd cc

pub last_same : {X : Type 0} (xs ys : List X) (x y : X) → xs ++ x ∷ [] ≡ ys ++ y ∷ [] → (xs ≡ ys) × (x ≡ y)
last_same [] [] x y h = (refl, cc)
last_same [] (z ∷ ys) x y h = let t : [] ≡ ys ++ y ∷ [] = cc in never_last ys y (sym t)
last_same (z ∷ xs) [] x y h = let t : xs ++ x ∷ [] ≡ [] = cc in never_last xs x t
last_same (z ∷ xs) (w ∷ ys) x y h =
    let e : z ≡ w = cc in
    let t : xs ++ x ∷ [] ≡ ys ++ y ∷ [] = cc in
    let r = last_same xs ys x y t in
    (ap (λ l. z ∷ l) r.0 ∙ ap (λ a. a ∷ ys) e, r.1)
