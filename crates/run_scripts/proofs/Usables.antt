-- Which types have a value that tokens write: where one is written there is one, and where there is one some
-- tokens write it.
use Rattle.std.specs.Prelude.{codes, nat_lt, nat_le, ◌&&◌, min, is_some, option_map, slice_get, if◌then◌else◌, ℤ, pos, negsuc, ◌-ℤ◌, int_le, ◌≤ℤ◌}
use Rattle.std.proofs.Common.{◌≡◌, ℕ, zero, suc, ◌<◌, ◌≤◌, Bool, true, false, cond, List, [], ◌∷◌, ◌++◌, length, Option, Some, None, refl, ap, ◌∙◌, arith, lt-ltb, le-leb, leb-true, ltb-true}
use Rattle.std.proofs.lemmas.Option.{slice_get_within}
use Rattle.term_core.specs.declared.value.Value.{Value}
use Rattle.term_core.specs.declared.value.Value.TheVariants as value
use Rattle.murphi_ast.specs.declared.token.Token.{Token}
use Rattle.murphi_ast.specs.declared.token.Span.{Span}
use Rattle.murphi_ast.specs.declared.token.TokenKind.TheVariants as token
use Rattle.murphi_grammar.specs.declared.symbol.Symbol.TheVariants as t
use Rattle.murphi_typed.specs.declared.types.Simple.{Simple}
use Rattle.murphi_typed.specs.declared.types.Simple.TheVariants as simple
use Rattle.murphi_typed.specs.declared.types.Kind.{Kind}
use Rattle.murphi_typed.specs.Values.{is_value}
use Rattle.run_scripts.specs.Values.{fitting, has, is_number_kind, is_sign, is_word_kind, member, member_of, minus_value, number_value, one_value, plain_text, search, truth_value, word_value}
use Rattle.run_scripts.specs.Usable.{are_writable, can_range, can_write, takes_minus}
use Rattle.run_scripts.specs.Scripts.{WritesValue, WritesValues, minus, more, none, one}
use Rattle.run_scripts.proofs.SymbolFacts.{and_both, and_left, and_right, bytes_same, number_kind, number_no_sign, sign_is, sign_no_word, some_none, word_kind, word_no_sign}

-- what is written is of the type

pub fitting_is : (N : ℕ) (over : Simple) (v w : Value) → fitting N over v ≡ Some w → is_value N over v ≡ true
fitting_is N over v w h = go (is_value N over v) refl h
  where
    go : (b : Bool) → is_value N over v ≡ b → cond b (Some v) None ≡ Some w → is_value N over v ≡ true
    go true e h = e
    go false e h = absurd cc

pub fits : (N : ℕ) (over : Simple) (v : Value) → is_value N over v ≡ true → fitting N over v ≡ Some v
fits N over v h = ap (λ b. cond b (Some v) None) h

pub cond_some : {X : Type 0} {x : X} (b : Bool) (o : Option X) → cond b o None ≡ Some x → (b ≡ true) × (o ≡ Some x)
cond_some true o h = (refl, h)
cond_some false o h = absurd cc

-- a number of a range
range_some : (low high z : ℤ) → (negsuc 32766) ≤ℤ z → z ≤ℤ (pos 32767) → int_le low z && int_le z high ≡ true → can_range low high ≡ true
range_some low high z a b h =
    let c : int_le low z ≡ true = and_left _ _ h in
    let d : int_le z high ≡ true = and_right (int_le low z) _ h in
    let e : int_le low high ≡ true = grind (arith, c, d) in
    let f : int_le (negsuc 32766) high ≡ true = grind (arith, a, d) in
    let g : int_le low (pos 32767) ≡ true = grind (arith, b, c) in
    and_both (int_le low high) (int_le (negsuc 32766) high && int_le low (pos 32767)) e
    (and_both (int_le (negsuc 32766) high) (int_le low (pos 32767)) f g)

least : (n : ℕ) → n ≤ 32767 → (negsuc 32766) ≤ℤ (pos 0 -ℤ pos n)
least n h = grind (arith, h)

below_zero : (n : ℕ) → (pos 0 -ℤ pos n) ≤ℤ pos 0
below_zero n = grind arith

node_can : (N n : ℕ) → nat_le 1 n && nat_le n N ≡ true → nat_lt 0 N ≡ true
node_can N n h =
    let a : 1 ≤ n = leb-true _ _ (and_left _ _ h) in
    let b : n ≤ N = leb-true _ _ (and_right (nat_le 1 n) _ h) in
    lt-ltb 0 N (omega (arith, a, b))

-- a number that is written is small enough, and of the type
pub number_fits : (N : ℕ) (over : Simple) (w v : Value) (n : ℕ) → number_value N over w n ≡ Some v → (n ≤ 32767) × (is_value N over w ≡ true)
number_fits N over w v n h =
    let (s, k) = cond_some (nat_le n 32767) (fitting N over w) h in
    (leb-true _ _ s, fitting_is N over w v k)

pub minus_takes : (N : ℕ) (over : Simple) (n : ℕ) (v : Value) → minus_value N over n ≡ Some v → takes_minus over ≡ true
minus_takes N (simple.Range low high) n v h =
    let (s, e) = number_fits N (simple.Range low high) (value.Number (pos 0 -ℤ pos n)) v n h in
    let a : int_le low (pos 0 -ℤ pos n) ≡ true = and_left _ _ e in
    let b = below_zero n in
    let f : int_le low (pos 0) ≡ true = grind (arith, a, b) in
    and_both (int_le low (pos 0)) (can_range low high) f (range_some low high (pos 0 -ℤ pos n) (least n s) (grind (arith, b)) e)
minus_takes N simple.Node n v h = absurd cc
minus_takes N simple.Truth n v h = absurd cc
minus_takes N (simple.Listed a b) n v h = absurd cc
minus_takes N (simple.Scalarset a b) n v h = absurd cc

pub takes_can : (N : ℕ) (kinds : List Kind) (over : Simple) → takes_minus over ≡ true → can_write N kinds over ≡ true
takes_can N kinds (simple.Range low high) h = and_right (int_le low (pos 0)) _ h
takes_can N kinds simple.Node h = absurd cc
takes_can N kinds simple.Truth h = absurd cc
takes_can N kinds (simple.Listed a b) h = absurd cc
takes_can N kinds (simple.Scalarset a b) h = absurd cc

-- a member that is found shows that the kind has one
found_kind : (kinds : List Kind) (number count : ℕ) (text : List ℕ) (v : Value) → member kinds number count text ≡ Some v → nat_lt 0 count && nat_lt number (length kinds) ≡ true
found_kind kinds number count text v h = go (slice_get kinds number) refl h
  where
    some_count : (k : Kind) (count : ℕ) → option_map (value.Member number) (search k text 0 (min count 256)) ≡ Some v → nat_lt 0 count ≡ true
    some_count k zero h = absurd cc
    some_count k (suc count) h = lt-ltb 0 (suc count) (omega arith)

    go : (o : Option Kind) → slice_get kinds number ≡ o → member_of o number count text ≡ Some v → nat_lt 0 count && nat_lt number (length kinds) ≡ true
    go None e h = absurd cc
    go (Some k) e h = and_both _ _ (some_count k count h) (lt-ltb _ _ (slice_get_within kinds number k e))

word_can : (kinds : List Kind) (number count : ℕ) (x : Token) (v : Value) → word_value kinds number count x ≡ Some v → nat_lt 0 count && nat_lt number (length kinds) ≡ true
word_can kinds number count x v h = found_kind kinds number count x.text v (cond_some (is_word_kind x.kind) (member kinds number count x.text) h).1

one_can : (N : ℕ) (kinds : List Kind) (over : Simple) (x : Token) (v : Value) → one_value N kinds over x ≡ Some v → can_write N kinds over ≡ true
one_can N kinds simple.Truth x v h = refl
one_can N kinds (simple.Range low high) x v h =
    let k = (cond_some (is_number_kind x.kind) (number_value N (simple.Range low high) (value.Number (pos x.number)) x.number) h).1 in
    let (s, e) = number_fits N (simple.Range low high) (value.Number (pos x.number)) v x.number k in
    range_some low high (pos x.number) (grind (arith, s)) (grind (arith, s)) e
one_can N kinds simple.Node x v h =
    let k = (cond_some (is_number_kind x.kind) (number_value N simple.Node (value.Node x.number) x.number) h).1 in
    node_can N x.number (number_fits N simple.Node (value.Node x.number) v x.number k).1
one_can N kinds (simple.Listed number count) x v h = word_can kinds number count x v h
one_can N kinds (simple.Scalarset number count) x v h = word_can kinds number count x v h

pub value_can : {N : ℕ} {kinds : List Kind} {over : Simple} {us : List Token} {v : Value} → WritesValue N kinds over us v → can_write N kinds over ≡ true
value_can {N} {kinds} {over} {us} {v} (one x h) = one_can N kinds over x v h
value_can {N} {kinds} {over} {us} {v} (minus m x i j h) = takes_can N kinds over (minus_takes N over x.number v h)

pub values_can : {N : ℕ} {kinds : List Kind} {overs : List Simple} {us : List Token} {vs : List Value} → WritesValues N kinds overs us vs → are_writable N kinds overs ≡ true
values_can none = refl
values_can (more p q e) = and_both _ _ (value_can p) (values_can q)

-- one token that writes a value is no `-`
number_no : (x : Token) (o : Option Value) (v : Value) → (if is_number_kind x.kind then o else None) ≡ Some v → is_sign (codes "-") x ≡ false
number_no x o v h = number_no_sign (codes "-") x (number_kind x.kind (cond_some (is_number_kind x.kind) o h).0)

word_no : (kinds : List Kind) (number count : ℕ) (x : Token) (v : Value) → word_value kinds number count x ≡ Some v → is_sign (codes "-") x ≡ false
word_no kinds number count x v h =
    word_no_sign (codes "-") x (word_kind x.kind (cond_some (is_word_kind x.kind) (member kinds number count x.text) h).0)

truth_no : (x : Token) (v : Value) → truth_value x ≡ Some v → is_sign (codes "-") x ≡ false
truth_no x v h = go (is_sign (codes "-") x) refl
  where
    go : (b : Bool) → is_sign (codes "-") x ≡ b → is_sign (codes "-") x ≡ false
    go false e = e
    go true e =
        let m = sign_is (codes "-") x e in
        some_none h
        (ap (λ b. cond b (Some (value.Truth true)) (cond (has t.False x) (Some (value.Truth false)) None)) (sign_no_word t.True x m refl)
        ∙ ap (λ b. cond b (Some (value.Truth false)) None) (sign_no_word t.False x m refl))

pub one_no_minus : (N : ℕ) (kinds : List Kind) (over : Simple) (x : Token) (v : Value) → one_value N kinds over x ≡ Some v → is_sign (codes "-") x ≡ false
one_no_minus N kinds simple.Truth x v h = truth_no x v h
one_no_minus N kinds (simple.Range low high) x v h = number_no x (number_value N (simple.Range low high) (value.Number (pos x.number)) x.number) v h
one_no_minus N kinds simple.Node x v h = number_no x (number_value N simple.Node (value.Node x.number) x.number) v h
one_no_minus N kinds (simple.Listed number count) x v h = word_no kinds number count x v h
one_no_minus N kinds (simple.Scalarset number count) x v h = word_no kinds number count x v h

-- Some tokens write a value of a type that has one

abbrev nowhere : Span
nowhere = record { line = 1; column = 1 }

abbrev pub number_token : ℕ → Token
number_token n = record { kind = token.Number; text = []; number = n; at = nowhere }

abbrev pub word_token : List ℕ → Token
word_token text = record { kind = token.Word; text = text; number = 0; at = nowhere }

abbrev pub sign_token : List ℕ → Token
sign_token text = record { kind = token.Sign; text = text; number = 0; at = nowhere }

abbrev pub end_token : Token
end_token = record { kind = token.End; text = []; number = 0; at = nowhere }

abbrev pub quoted_token : List ℕ → Token
quoted_token text = record { kind = token.Quoted; text = text; number = 0; at = nowhere }

-- some tokens write a value
pub record HasWriting (N : ℕ) (kinds : List Kind) (over : Simple) : Type 0 where
  pub tokens : List Token
  pub value : Value
  pub writes : WritesValue N kinds over tokens value

numbered : (N : ℕ) (over : Simple) (v : Value) (n : ℕ) → n ≤ 32767 → is_value N over v ≡ true → number_value N over v n ≡ Some v
numbered N over v n s h = ap (λ b. cond b (fitting N over v) None) (le-leb n 32767 s) ∙ fits N over v h

-- a number behind `-` in a range with one that is not above 0
pub record HasMinus (N : ℕ) (over : Simple) : Type 0 where
  pub number : ℕ
  pub value : Value
  pub is : minus_value N over number ≡ Some value

minus_in : (N : ℕ) (low high : ℤ) (n : ℕ) (z : ℤ) → n ≤ 32767 → pos 0 -ℤ pos n ≡ z → int_le low z && int_le z high ≡ true → HasMinus N (simple.Range low high)
minus_in N low high n z s e h =
    record { number = n; value = value.Number z; is = ap (λ z. number_value N (simple.Range low high) (value.Number z) n) e ∙ numbered N (simple.Range low high) (value.Number z) n s h }

has_minus : (N : ℕ) (low high : ℤ) → takes_minus (simple.Range low high) ≡ true → HasMinus N (simple.Range low high)
has_minus N low (pos h) k =
    let a : int_le low (pos 0) ≡ true = and_left _ _ k in
    let b : int_le (pos 0) (pos h) ≡ true = grind arith in
    minus_in N low (pos h) 0 (pos 0) (omega arith) refl (and_both (int_le low (pos 0)) (int_le (pos 0) (pos h)) a b)
has_minus N low (negsuc h) k =
    let c = and_right (int_le low (pos 0)) _ k in
    let a : int_le low (negsuc h) ≡ true = and_left _ _ c in
    let d = and_right (int_le low (negsuc h)) _ c in
    let b : int_le (negsuc 32766) (negsuc h) ≡ true = and_left _ _ d in
    let f : int_le (negsuc h) (negsuc h) ≡ true = grind arith in
    minus_in N low (negsuc h) (suc h) (negsuc h) (grind (arith, b)) (grind arith) (and_both (int_le low (negsuc h)) (int_le (negsuc h) (negsuc h)) a f)

pub takes_has : (N : ℕ) (over : Simple) → takes_minus over ≡ true → HasMinus N over
takes_has N (simple.Range low high) h = has_minus N low high h
takes_has N simple.Node h = absurd cc
takes_has N simple.Truth h = absurd cc
takes_has N (simple.Listed a b) h = absurd cc
takes_has N (simple.Scalarset a b) h = absurd cc

range_has : (N : ℕ) (kinds : List Kind) (low high : ℤ) → can_range low high ≡ true → HasWriting N kinds (simple.Range low high)
range_has N kinds (pos l) high k =
    let a : int_le (pos l) high ≡ true = and_left _ _ k in
    let d = and_right (int_le (pos l) high) _ k in
    let b : int_le (pos l) (pos 32767) ≡ true = and_right (int_le (negsuc 32766) high) _ d in
    record { tokens = number_token l ∷ []; value = value.Number (pos l); writes = one (number_token l) (numbered N (simple.Range (pos l) high) (value.Number (pos l)) l (grind (arith, b)) (and_both (int_le (pos l) (pos l)) (int_le (pos l) high) (grind arith) a)) }
range_has N kinds (negsuc l) high k =
    let m = has_minus N (negsuc l) high (and_both (int_le (negsuc l) (pos 0)) (can_range (negsuc l) high) refl k) in
    record { tokens = sign_token (codes "-") ∷ number_token m.number ∷ []; value = m.value; writes = minus (sign_token (codes "-")) (number_token m.number) (refl, refl) refl m.is }

-- the first member is found by its own name
first_found : (k : Kind) (count : ℕ) → nat_lt 0 count ≡ true → search k (plain_text k 0) 0 (min count 256) ≡ Some 0
first_found k zero h = absurd cc
first_found k (suc count) h =
    let e : min (suc count) 256 ≡ suc (min count 255) = omega arith in
    ap (search k (plain_text k 0) 0) e
    ∙ ap (λ b. cond b (Some 0) (search k (plain_text k 0) 1 (min count 255))) (bytes_same (plain_text k 0) (plain_text k 0) refl)

abbrev first_name : Option Kind → List ℕ
first_name None = []
first_name (Some k) = plain_text k 0

member_found : (o : Option Kind) (number count : ℕ) → is_some o ≡ true → nat_lt 0 count ≡ true → member_of o number count (first_name o) ≡ Some (value.Member number 0)
member_found None number count h k = absurd cc
member_found (Some kind) number count h k = ap (option_map (value.Member number)) (first_found kind count k)

within_some : (ks : List Kind) (n : ℕ) → n < length ks → is_some (slice_get ks n) ≡ true
within_some [] n h = absurd (omega (arith, h))
within_some (k ∷ ks) zero h = refl
within_some (k ∷ ks) (suc n) h = within_some ks n (omega (arith, h))

member_has : (N : ℕ) (kinds : List Kind) (over : Simple) (number count : ℕ) → ((x : Token) → one_value N kinds over x ≡ word_value kinds number count x) → nat_lt 0 count && nat_lt number (length kinds) ≡ true → HasWriting N kinds over
member_has N kinds over number count is h =
    let there : is_some (slice_get kinds number) ≡ true = within_some kinds number (ltb-true _ _ (and_right (nat_lt 0 count) _ h)) in
    let x = word_token (first_name (slice_get kinds number)) in
    record { tokens = x ∷ []; value = value.Member number 0; writes = one x (is x ∙ member_found (slice_get kinds number) number count there (and_left _ _ h)) }

pub can_has : (N : ℕ) (kinds : List Kind) (over : Simple) → can_write N kinds over ≡ true → HasWriting N kinds over
can_has N kinds simple.Truth h =
    record { tokens = word_token (codes "true") ∷ []; value = value.Truth true; writes = one (word_token (codes "true")) refl }
can_has N kinds (simple.Range low high) h = range_has N kinds low high h
can_has N kinds simple.Node h =
    let a : 0 < N = ltb-true _ _ h in
    let b : nat_le 1 N ≡ true = le-leb 1 N (omega (arith, a)) in
    record { tokens = number_token 1 ∷ []; value = value.Node 1; writes = one (number_token 1) (numbered N simple.Node (value.Node 1) 1 (omega arith) (and_both _ _ refl b)) }
can_has N kinds (simple.Listed number count) h = member_has N kinds (simple.Listed number count) number count (λ x. refl) h
can_has N kinds (simple.Scalarset number count) h = member_has N kinds (simple.Scalarset number count) number count (λ x. refl) h

-- and values of a list of types
pub record HasWritings (N : ℕ) (kinds : List Kind) (overs : List Simple) : Type 0 where
  pub tokens : List Token
  pub values : List Value
  pub writes : WritesValues N kinds overs tokens values

pub all_have : (N : ℕ) (kinds : List Kind) (overs : List Simple) → are_writable N kinds overs ≡ true → HasWritings N kinds overs
all_have N kinds [] h = record { tokens = []; values = []; writes = none }
all_have N kinds (over ∷ overs) h =
    let a = can_has N kinds over (and_left _ _ h) in
    let b = all_have N kinds overs (and_right (can_write N kinds over) _ h) in
    record { tokens = a.tokens ++ b.tokens; values = a.value ∷ b.values; writes = more a.writes b.writes refl }
