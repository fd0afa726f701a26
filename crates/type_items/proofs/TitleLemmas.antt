-- Titles: what code keeps of the items of one kind, and of one item more.
use Rattle.std.proofs.Common.{◌≡◌, ℕ, ◌+◌, Bool, true, false, not, ◌&&◌, ◌||◌, cond, List, [], ◌∷◌, ◌++◌, length, filter, Option, None, Some, refl, ap, sym, ◌∙◌}
use Rattle.std.specs.Prelude.{is_some}
use Rattle.std.specs.List.{list_any}
use Rattle.std.specs.Str.{bytes_eq}
use Rattle.std.proofs.Math.Bool.{or-false, or_assoc}
use Rattle.std.proofs.lemmas.List.{append-nil, length-append}
use Rattle.std.proofs.lemmas.List.Elements.{filter-append}
use Rattle.murphi_ast.specs.declared.text.Text.{Text}
use Rattle.murphi_ast.specs.declared.rule.RuleDecl as r
use Rattle.murphi_ast.specs.declared.rule.RuleDecl.{RuleDecl}
use Rattle.murphi_ast.specs.Title.{Kind, is_of, string_of, is_usable, has_string, numbered, title_after}
use Rattle.murphi_typed.specs.Families.{Name}
use Rattle.murphi_types.specs.declared.scope.Meaning.TheVariants as meaning
use Rattle.murphi_types.specs.declared.scope.Entry.{Entry}
use Rattle.murphi_types.specs.Scopes.{entry, earliest}
use Rattle.murphi_types.specs.Weights.{stopped}
use Rattle.type_parts.proofs.WeightLemmas.{stopped-left, stopped-right}
use Rattle.type_items.specs.Titles.{with_string, titled, numbered_on, strings_of, numbering}

-- Strings

there-last : (es : List Entry) (e : Entry) (n : Name) → is_some (earliest (es ++ e ∷ []) n) ≡ (is_some (earliest es n) || bytes_eq e.name n)
there-last [] e n = go (bytes_eq e.name n)
  where
    go : (b : Bool) → is_some (cond b (Some e.what) None) ≡ b
    go true = refl
    go false = refl
there-last (x ∷ es) e n = go (bytes_eq x.name n) (there-last es e n)
  where
    go : (b : Bool) → is_some (earliest (es ++ e ∷ []) n) ≡ (is_some (earliest es n) || bytes_eq e.name n) → is_some (cond b (Some x.what) (earliest (es ++ e ∷ []) n)) ≡ (is_some (cond b (Some x.what) (earliest es n)) || bytes_eq e.name n)
    go true later = refl
    go false later = later

-- whether a string is this one
abbrev is_same : Option Text → Name → Bool
is_same None s = false
is_same (Some t) s = bytes_eq t s

there-with : (w : Option Text) (es : List Entry) (s : Name) → is_some (earliest (with_string w es) s) ≡ (is_some (earliest es s) || is_same w s)
there-with None es s = sym (or-false (is_some (earliest es s)))
there-with (Some t) es s = there-last es (entry t meaning.Refused) s

same-string : (s : Name) (one : RuleDecl) → is_same (string_of one) s ≡ has_string s one
same-string s (r.Rule None guard locals body at) = refl
same-string s (r.Rule (Some t) guard locals body at) = refl
same-string s (r.Start None locals body at) = refl
same-string s (r.Start (Some t) locals body at) = refl
same-string s (r.Invariant None body at) = refl
same-string s (r.Invariant (Some t) body at) = refl
same-string s (r.Group' binds shape inner at) = refl

there-all : (xs : List RuleDecl) (es : List Entry) (s : Name) → is_some (earliest (strings_of xs es) s) ≡ (is_some (earliest es s) || list_any (has_string s) xs)
there-all [] es s = sym (or-false (is_some (earliest es s)))
there-all (x ∷ xs) es s =
    there-all xs (with_string (string_of x) es) s
    ∙ ap (λ b. b || list_any (has_string s) xs) (there-with (string_of x) es s ∙ ap (λ b. is_some (earliest es s) || b) (same-string s x))
    ∙ or_assoc (is_some (earliest es s)) (has_string s x) (list_any (has_string s) xs)

strings-last : (xs : List RuleDecl) (one : RuleDecl) (es : List Entry) → strings_of (xs ++ one ∷ []) es ≡ with_string (string_of one) (strings_of xs es)
strings-last [] one es = refl
strings-last (x ∷ xs) one es = strings-last xs one (with_string (string_of x) es)

-- The title of the next item

pub title-is : (K : Kind) (written : List RuleDecl) (n : ℕ) (w : Option Text) → title_after (filter (is_of K) written) w ≡ titled (numbering K written n) w
title-is K written n None = refl
title-is K written n (Some s) =
    let earlier = filter (is_of K) written in
    ap (λ b. cond (is_usable s && not b) s (numbered (length earlier + 1))) (sym (there-all earlier [] s))

-- One item more

kept-last : (K : Kind) (written : List RuleDecl) (one : RuleDecl) (b : Bool) → is_of K one ≡ b → filter (is_of K) (written ++ one ∷ []) ≡ filter (is_of K) written ++ cond b (one ∷ []) []
kept-last K written one b is = filter-append (is_of K) written (one ∷ []) ∙ ap (λ c. filter (is_of K) written ++ cond c (one ∷ []) []) is

pub other-kind : (K : Kind) (written : List RuleDecl) (one : RuleDecl) (n : ℕ) → is_of K one ≡ false → numbering K (written ++ one ∷ []) n ≡ numbering K written n
other-kind K written one n is =
    ap (λ xs. record { strings = strings_of xs []; count = length xs; instances = stopped n })
    (kept-last K written one false is ∙ append-nil (filter (is_of K) written))

pub same-kind : (K : Kind) (written : List RuleDecl) (one : RuleDecl) (n m : ℕ) → is_of K one ≡ true → numbering K (written ++ one ∷ []) (n + m) ≡ numbered_on (string_of one) (stopped m) (numbering K written n)
same-kind K written one n m is =
    let xs = filter (is_of K) written in
    ap (λ ys. record { strings = strings_of ys []; count = length ys; instances = stopped (n + m) }) (kept-last K written one true is)
    ∙ ap (λ es. record { strings = es; count = length (xs ++ one ∷ []); instances = stopped (n + m) }) (strings-last xs one [])
    ∙ ap (λ k. record { strings = with_string (string_of one) (strings_of xs []); count = k; instances = stopped (n + m) }) (length-append xs (one ∷ []))
    ∙ ap (λ k. record { strings = with_string (string_of one) (strings_of xs []); count = length xs + 1; instances = k })
    (sym (stopped-left n (stopped m) ∙ stopped-right n m))
