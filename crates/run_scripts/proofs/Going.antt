-- What is written is read: over tokens that write a part, reading goes on behind it.
use Rattle.std.specs.Prelude.{codes, ◌&&◌, ◌||◌, option_map, slice_get}
use Rattle.std.specs.Str.{bytes_eq}
use Rattle.std.proofs.Common.{◌≡◌, ℕ, zero, suc, ◌+◌, Bool, true, false, cond, List, [], ◌∷◌, ◌++◌, drop, length, Option, Some, None, Result, Ok, Err, refl, sym, ap, ◌∙◌, subst, arith, append-nil, append_assoc}
use Rattle.std.proofs.lemmas.Bool.{eq-eqb}
use Rattle.term_core.specs.declared.value.Value.{Value}
use Rattle.murphi_ast.specs.declared.token.Token.{Token}
use Rattle.murphi_ast.specs.declared.token.Span.{Span}
use Rattle.murphi_typed.specs.declared.types.Simple.{Simple}
use Rattle.murphi_typed.specs.declared.protocol.Typed.{Typed}
use Rattle.run_scripts.specs.declared.refusal.Line.{Line}
use Rattle.run_scripts.specs.declared.phase.Phase.TheVariants.{Naming, Giving, Signed, Between, Done}
use Rattle.run_scripts.specs.declared.phase.Progress.{Progress}
use Rattle.run_scripts.specs.Values.{is_end_kind, is_number_kind, is_quoted_kind, is_word_kind, minus_value, one_value}
use Rattle.run_scripts.specs.Usable.{are_writable, takes_minus}
use Rattle.run_scripts.specs.Scripts.{IsEnd, IsNumber, IsSign, IsString, IsWord, WritesFires, WritesLine, WritesScript, WritesValue, WritesValues, first_of, line_word, params, titles}
use Rattle.run_scripts.specs.Scripts as w
use Rattle.run_scripts.specs.Reading.{fresh, give_step, go_on, in_phase, is_done, is_number_of, opens, opens_from, sign_step, step, steps, title_step, value_step}
use Rattle.run_scripts.proofs.SymbolFacts.{and_both, drop_head, drop_more, drop_none, is_sign_it, is_word_it, same_bytes}
use Rattle.run_scripts.proofs.Usables.{minus_takes, one_no_minus, values_can}

abbrev pub naming : Bool → ℕ → List Line → Progress
naming f k ls = record { phase = Naming; firing = f; which = k; given = []; lines = ls }

abbrev pub giving : Bool → ℕ → List Value → List Line → Progress
giving f k g ls = record { phase = Giving; firing = f; which = k; given = g; lines = ls }

abbrev pub signed : Span → Bool → ℕ → List Value → List Line → Progress
signed at f k g ls = record { phase = Signed at; firing = f; which = k; given = g; lines = ls }

abbrev pub between : Bool → ℕ → List Line → Progress
between f k ls = record { phase = Between; firing = f; which = k; given = []; lines = ls }

-- the first of a title: its own number

pub found_first : (xs : List (List ℕ)) (name : List ℕ) (k : ℕ) → first_of xs name ≡ Some k → (found : List ℕ) × (slice_get xs k ≡ Some found) × (found ≡ name)
found_first [] name k h = absurd cc
found_first (x ∷ xs) name k h = go (bytes_eq x name) refl (first_of xs name) (λ j e. found_first xs name j e) h
  where
    go : (b : Bool) → bytes_eq x name ≡ b → (o : Option ℕ) → ((j : ℕ) → o ≡ Some j → (found : List ℕ) × (slice_get xs j ≡ Some found) × (found ≡ name)) → cond b (Some 0) (option_map suc o) ≡ Some k →
        (found : List ℕ) × (slice_get (x ∷ xs) k ≡ Some found) × (found ≡ name)
    go true e o ih h = let z : 0 ≡ k = cc in (x, ap (slice_get (x ∷ xs)) (sym z), same_bytes x name e)
    go false e None ih h = absurd cc
    go false e (Some j) ih h =
        let z : suc j ≡ k = cc in
        let r = ih j refl in
        (r.0, ap (slice_get (x ∷ xs)) (sym z) ∙ r.1, r.2)

module _ (N : ℕ) (T : Typed) where
  abbrev can_open : Bool → ℕ → List ℕ → Bool
  can_open f k name = is_number_of (first_of (titles T f) name) k && are_writable N T.kinds (params T f k)

  opens_at : (f : Bool) (from : ℕ) (names : List (List ℕ)) (i : ℕ) (name : List ℕ) → slice_get names i ≡ Some name → can_open f (from + i) name ≡ true → opens_from N T f from names ≡ true
  opens_at f from [] i name e h = absurd cc
  opens_at f from (x ∷ names) zero name e h =
      let z : x ≡ name = cc in
      let k : can_open f from x ≡ true = subst (λ n. can_open f n x ≡ true) (omega arith) (subst (λ y. can_open f (from + 0) y ≡ true) (sym z) h) in
      ap (λ b. b || opens_from N T f (suc from) names) k
  opens_at f from (x ∷ names) (suc i) name e h =
      or_right (can_open f from x) (opens_from N T f (suc from) names)
      (opens_at f (suc from) names i name e (subst (λ n. can_open f n name ≡ true) (omega arith) h))
    where
      or_right : (a b : Bool) → b ≡ true → a || b ≡ true
      or_right true b h = refl
      or_right false b h = h

  -- where a title is found whose values can be written, a line can be opened
  pub title_opens : (f : Bool) (name : List ℕ) (k : ℕ) → first_of (titles T f) name ≡ Some k → are_writable N T.kinds (params T f k) ≡ true → opens N T f ≡ true
  title_opens f name k h u =
      let r = found_first (titles T f) name k h in
      let e : first_of (titles T f) r.0 ≡ Some k = subst (λ n. first_of (titles T f) n ≡ Some k) (sym r.2) h in
      opens_at f 0 (titles T f) k r.0 r.1
      (subst (λ n. can_open f n r.0 ≡ true) (omega arith)
      (and_both _ _ (ap (λ o. is_number_of o k) e ∙ eq-eqb k k refl) u))

  -- steps

  pub steps_on : (p q : Progress) (x : Token) (xs : List Token) → step N T p x ≡ Ok q → steps N T p (x ∷ xs) ≡ steps N T q xs
  steps_on p q x xs h = ap (λ r. go_on r (λ q. steps N T q xs)) h

  pub steps_off : (p : Progress) (x : Token) (xs : List Token) (at : Span) → step N T p x ≡ Err at → steps N T p (x ∷ xs) ≡ Err at
  steps_off p x xs at h = ap (λ r. go_on r (λ q. steps N T q xs)) h

  go_both : (r : Result Progress Span) (us xs : List Token) → ((q : Progress) → steps N T q (us ++ xs) ≡ go_on (steps N T q us) (λ q. steps N T q xs)) → go_on r (λ q. steps N T q (us ++ xs)) ≡ go_on (go_on r (λ q. steps N T q us)) (λ q. steps N T q xs)
  go_both (Ok q) us xs h = h q
  go_both (Err at) us xs h = refl

  pub steps_both : (p : Progress) (us xs : List Token) → steps N T p (us ++ xs) ≡ go_on (steps N T p us) (λ q. steps N T q xs)
  steps_both p [] xs = refl
  steps_both p (u ∷ us) xs = go_both (step N T p u) us xs (λ q. steps_both q us xs)

  value_goes : {over : Simple} {us : List Token} {v : Value} (f : Bool) (k : ℕ) (g : List Value) (ls : List Line) (r : List Token) → WritesValue N T.kinds over us v → slice_get (params T f k) (length g) ≡ Some over →
      steps N T (giving f k g ls) (us ++ r) ≡ steps N T (giving f k (g ++ v ∷ []) ls) r
  value_goes {over} {us} {v} f k g ls r (w.one x h) e =
      steps_on (giving f k g ls) (giving f k (g ++ v ∷ []) ls) x r (ap (give_step N T (giving f k g ls) x) e
      ∙ ap (λ b. cond b (cond (takes_minus over) (Ok (in_phase (giving f k g ls) (Signed x.at))) (Err x.at)) (value_step (giving f k g ls) x.at (one_value N T.kinds over x))) (one_no_minus N T.kinds over x v h)
      ∙ ap (value_step (giving f k g ls) x.at) h)
  value_goes {over} {us} {v} f k g ls r (w.minus m x i j h) e =
      steps_on (giving f k g ls) (signed m.at f k g ls) m (x ∷ r) (ap (give_step N T (giving f k g ls) m) e
      ∙ ap (λ b. cond b (cond (takes_minus over) (Ok (in_phase (giving f k g ls) (Signed m.at))) (Err m.at)) (value_step (giving f k g ls) m.at (one_value N T.kinds over m))) (is_sign_it (codes "-") m i)
      ∙ ap (λ b. cond b (Ok (in_phase (giving f k g ls) (Signed m.at))) (Err m.at)) (minus_takes N over x.number v h))
      ∙ steps_on (signed m.at f k g ls) (giving f k (g ++ v ∷ []) ls) x r (ap (sign_step N (signed m.at f k g ls) m.at x) e
      ∙ ap (λ b. cond b (value_step (signed m.at f k g ls) m.at (minus_value N over x.number)) (Err x.at)) (ap is_number_kind j)
      ∙ ap (value_step (signed m.at f k g ls) m.at) h)

  pub values_go : {overs : List Simple} {us : List Token} {vs : List Value} (f : Bool) (k : ℕ) (g : List Value) (ls : List Line) (r : List Token) → WritesValues N T.kinds overs us vs → drop (length g) (params T f k) ≡ overs →
      steps N T (giving f k g ls) (us ++ r) ≡ steps N T (giving f k (g ++ vs) ls) r
  values_go f k g ls r w.none e = ap (λ l. steps N T (giving f k l ls) r) (sym (append-nil g))
  values_go f k g ls r (w.more {over} {overs} {us} {ts} {all} {v} {vs} p q a) e =
      ap (λ l. steps N T (giving f k g ls) (l ++ r)) a
      ∙ ap (steps N T (giving f k g ls)) (append_assoc us ts r)
      ∙ value_goes f k g ls (ts ++ r) p (drop_head (length g) (params T f k) over overs e)
      ∙ values_go f k (g ++ v ∷ []) ls r q (drop_more g v (params T f k) over overs e)
      ∙ ap (λ l. steps N T (giving f k l ls) r) (append_assoc g (v ∷ []) vs)

  -- behind the last value stands the end of the line
  pub line_closes : (f : Bool) (k : ℕ) (g : List Value) (ls : List Line) (z : Token) (r : List Token) → drop (length g) (params T f k) ≡ [] → IsSign (codes ";") z →
      steps N T (giving f k g ls) (z ∷ r) ≡ steps N T (between f k (ls ++ record { which = k; values = g } ∷ [])) r
  line_closes f k g ls z r e h =
      steps_on (giving f k g ls) (between f k (ls ++ record { which = k; values = g } ∷ [])) z r (ap (give_step N T (giving f k g ls) z) (drop_none (length g) (params T f k) e)
      ∙ ap (λ b. cond b (Ok (between f k (ls ++ record { which = k; values = g } ∷ []))) (Err z.at)) (is_sign_it (codes ";") z h))

  values_end : {overs : List Simple} {us : List Token} {vs : List Value} (xs : List Simple) (g : List Value) → WritesValues N T.kinds overs us vs → drop (length g) xs ≡ overs → drop (length (g ++ vs)) xs ≡ []
  values_end xs g w.none e = ap (λ l. drop (length l) xs) (append-nil g) ∙ e
  values_end xs g (w.more {over} {overs} {us} {ts} {all} {v} {vs} p q a) e =
      ap (λ l. drop (length l) xs) (sym (append_assoc g (v ∷ []) vs)) ∙ values_end xs (g ++ v ∷ []) q (drop_more g v xs over overs e)

  -- values and the end of the line
  pub rest_goes : {overs : List Simple} {us : List Token} {vs : List Value} (f : Bool) (k : ℕ) (g : List Value) (ls : List Line) (z : Token) (r : List Token) → WritesValues N T.kinds overs us vs → drop (length g) (params T f k) ≡ overs → IsSign (codes ";") z →
      steps N T (giving f k g ls) (us ++ z ∷ r) ≡ steps N T (between f k (ls ++ record { which = k; values = g ++ vs } ∷ [])) r
  rest_goes {overs} {us} {vs} f k g ls z r p e h =
      values_go f k g ls (z ∷ r) p e ∙ line_closes f k (g ++ vs) ls z r (values_end (params T f k) g p e) h

  -- a title with its values and the end of the line
  pub title_goes : {us : List Token} {vs : List Value} {k : ℕ} (f : Bool) (j : ℕ) (ls : List Line) (y z : Token) (r : List Token) → IsString y → first_of (titles T f) y.text ≡ Some k → WritesValues N T.kinds (params T f k) us vs → IsSign (codes ";") z →
      steps N T (naming f j ls) (y ∷ (us ++ z ∷ r)) ≡ steps N T (between f k (ls ++ record { which = k; values = vs } ∷ [])) r
  title_goes {us} {vs} {k} f j ls y z r q found p h =
      steps_on (naming f j ls) (giving f k [] ls) y (us ++ z ∷ r) (ap (λ b. cond b (title_step N T (naming f j ls) y (first_of (titles T f) y.text)) (Err y.at)) (ap is_quoted_kind q)
      ∙ ap (title_step N T (naming f j ls) y) found
      ∙ ap (λ b. cond b (Ok (giving f k [] ls)) (Err y.at)) (values_can p))
      ∙ rest_goes f k [] ls z r p refl h

  pub fires_go : {us : List Token} {more : List Line} (f : Bool) (j : ℕ) (ls : List Line) → WritesFires N T us more → (q : Progress) × (steps N T (between f j ls) us ≡ Ok q) × (is_done q.phase ≡ true) × (q.lines ≡ ls ++ more)
  fires_go {us} {more} f j ls (w.ended x e) = (
    in_phase (between f j ls) Done,
    steps_on (between f j ls) (in_phase (between f j ls) Done) x [] (ap (λ b. cond b (Ok (naming true j ls)) (cond (is_end_kind x.kind) (Ok (in_phase (between f j ls) Done)) (Err x.at))) (ap (λ k. (is_word_kind k && bytes_eq x.text (line_word true)) && opens N T true) e)
        ∙ ap (λ b. cond b (Ok (in_phase (between f j ls) Done)) (Err x.at)) (ap is_end_kind e)),
    refl,
    sym (append-nil ls),
  )
  fires_go {us} {more} f j ls (w.more {ts = ts} (w.line {us = values} {which = k} {vs = vs} x y z i q found p h is) rest a) =
      let (end, goes, done, lines) = fires_go true k (ls ++ record { which = k; values = vs } ∷ []) rest in (
        end,
        ap (steps N T (between f j ls)) (a ∙ ap (λ l. l ++ ts) is ∙ ap (λ l. x ∷ y ∷ l) (append_assoc values (z ∷ []) ts))
            ∙ steps_on (between f j ls) (naming true j ls) x (y ∷ (values ++ z ∷ ts)) (ap (λ b. cond b (Ok (naming true j ls)) (cond (is_end_kind x.kind) (Ok (in_phase (between f j ls) Done)) (Err x.at))) (and_both _ _ (is_word_it (line_word true) x i) (title_opens true y.text k found (values_can p))))
            ∙ title_goes true j ls y z ts q found p h
            ∙ goes,
        done,
        lines ∙ append_assoc ls (record { which = k; values = vs } ∷ []) _,
      )

  -- what is written is read
  pub script_goes : {ts : List Token} {lines : List Line} → WritesScript N T ts lines → (q : Progress) × (steps N T fresh ts ≡ Ok q) × (is_done q.phase ≡ true) × (q.lines ≡ lines)
  script_goes (w.script {ts = ts} (w.line {us = values} {which = k} {vs = vs} x y z i q found p h is) rest a) =
      let (end, goes, done, lines) = fires_go false k (record { which = k; values = vs } ∷ []) rest in (
        end,
        ap (steps N T fresh) (a ∙ ap (λ l. l ++ ts) is ∙ ap (λ l. x ∷ y ∷ l) (append_assoc values (z ∷ []) ts))
            ∙ steps_on fresh (naming false 0 []) x (y ∷ (values ++ z ∷ ts)) (ap (λ b. cond b (Ok (naming false 0 [])) (Err x.at)) (and_both _ _ (is_word_it (line_word false) x i) (title_opens false y.text k found (values_can p))))
            ∙ title_goes false 0 [] y z ts q found p h
            ∙ goes,
        done,
        lines,
      )
