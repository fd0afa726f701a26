-- What reading tells of a script: the lines that the tokens write, or where they stop.
use Rattle.std.specs.Prelude.{codes, pos, nat_eq, ◌&&◌, not}
use Rattle.std.specs.Str.{bytes_eq}
use Rattle.std.proofs.Common.{◌≡◌, ℕ, Bool, true, false, cond, List, [], ◌∷◌, ◌++◌, length, Option, Some, None, Result, Ok, Err, refl, sym, ap, ◌∙◌, subst, append-nil, append_assoc}
use Rattle.term_core.specs.declared.value.Value.{Value}
use Rattle.term_core.specs.declared.value.Value.TheVariants as value
use Rattle.murphi_ast.specs.Spelling as bytes
use Rattle.murphi_ast.specs.Spelling.{ends_once, FaultsFirst}
use Rattle.murphi_ast.specs.declared.token.Token.{Token}
use Rattle.murphi_ast.specs.declared.token.Span.{Span}
use Rattle.murphi_ast.specs.declared.token.TokenKind.{TokenKind}
use Rattle.murphi_ast.specs.declared.token.TokenKind.TheVariants as token
use Rattle.murphi_ast.specs.declared.token.Fault.{Fault}
use Rattle.murphi_ast.specs.declared.token.Fault.TheVariants as fault
use Rattle.murphi_lex.specs.declared.scanning.LexRefusal.{LexRefusal}
use Rattle.murphi_lex.specs.declared.scanning.LexRefusal.TheVariants as lex
use Rattle.murphi_lex.specs.Refusals.{IsRefusal}
use Rattle.murphi_lex.specs.Refusals.{Tells as TellsFault}
use Rattle.murphi_grammar.specs.declared.symbol.Symbol.TheVariants as t
use Rattle.murphi_grammar.specs.Symbols.{symbol_by}
use Rattle.murphi_grammar.specs.Tables.{code}
use Rattle.murphi_typed.specs.declared.types.Simple.{Simple}
use Rattle.murphi_typed.specs.declared.types.Simple.TheVariants as simple
use Rattle.murphi_typed.specs.declared.protocol.Typed.{Typed}
use Rattle.run_scripts.specs.declared.refusal.Line.{Line}
use Rattle.run_scripts.specs.declared.refusal.ScriptRefusal.{ScriptRefusal}
use Rattle.run_scripts.specs.declared.refusal.ScriptRefusal.TheVariants as refusal
use Rattle.run_scripts.specs.declared.phase.Phase.{Phase}
use Rattle.run_scripts.specs.declared.phase.Phase.TheVariants.{Opening, Naming, Giving, Signed, Between, Done}
use Rattle.run_scripts.specs.declared.phase.Progress.{Progress}
use Rattle.run_scripts.specs.Values.{is_end_kind, is_number_kind, is_quoted_kind, is_sign, is_sign_kind, is_word, is_word_kind, member, minus_value, number_value, one_value}
use Rattle.run_scripts.specs.Usable.{are_writable, takes_minus}
use Rattle.run_scripts.specs.Scripts.{Begins, CountsAsOne, EndsInMinus, IsMinus, IsNumber, StartsWithNumber, StopsAt, WritesScript, first_of, line_word, pair, params, single, titles}
use Rattle.run_scripts.specs.Reading.{Finished, IsReadAs, fresh, give_step, go_on, in_phase, is_done, line_ended, line_opened, next_param, opens, sign_step, step, step_in, steps, title_step, titled, value_step}
use Rattle.run_scripts.specs.Told.{IsAnswered, Tells, TellsBytes, lexed}
use Rattle.run_scripts.proofs.SymbolFacts.{and_left, and_right, drop_head, err_is, is_sign_it, last_same, never_last, number_kind, ok_err, ok_is, sign_is, sign_no_number, true_false}
use Rattle.run_scripts.proofs.Going.{script_goes, steps_both, steps_off, steps_on}
use Rattle.run_scripts.proofs.Rests.{Good, GoodIn, GoodSigned, cond_ok, step_good}
use Rattle.run_scripts.proofs.Written.{read_writes}
use Rattle.run_scripts.proofs.Alive.{leads}

cond_err : {X Y : Type 0} {x y : Y} (b : Bool) (r : X) → cond b (Ok r) (Err x) ≡ Err y → y ≡ x
cond_err true r h = absurd cc
cond_err false r h = sym (err_is h)

module _ (N : ℕ) (T : Typed) where
  -- where a step stops

  value_stop : (p : Progress) (at to : Span) (o : Option Value) → value_step p at o ≡ Err to → to ≡ at
  value_stop p at to None h = sym (err_is h)
  value_stop p at to (Some v) h = absurd cc

  title_stop : (p : Progress) (x : Token) (to : Span) (o : Option ℕ) → title_step N T p x o ≡ Err to → to ≡ x.at
  title_stop p x to None h = sym (err_is h)
  title_stop p x to (Some k) h = cond_err (are_writable N T.kinds (params T p.firing k)) (titled p k) h

  give_stop : (p : Progress) (x : Token) (to : Span) (o : Option Simple) → give_step N T p x o ≡ Err to → to ≡ x.at
  give_stop p x to None h = cond_err (is_sign (codes ";") x) (line_ended p) h
  give_stop p x to (Some over) h = go (is_sign (codes "-") x) h
    where
      go : (b : Bool) → cond b (cond (takes_minus over) (Ok (in_phase p (Signed x.at))) (Err x.at)) (value_step p x.at (one_value N T.kinds over x)) ≡ Err to → to ≡ x.at
      go true h = cond_err (takes_minus over) (in_phase p (Signed x.at)) h
      go false h = value_stop p x.at to (one_value N T.kinds over x) h

  -- behind a `-`: at the `-` where a number comes, else at what comes
  sign_number : (p : Progress) (at : Span) (x : Token) (to : Span) → GoodSigned N T p → IsNumber x → sign_step N p at x (next_param T p) ≡ Err to → to ≡ at
  sign_number p at x to g n h =
      let e : next_param T p ≡ Some g.over = drop_head (length p.given) (params T p.firing p.which) g.over g.later g.first in
      value_stop p at to (minus_value N g.over x.number)
      (sym (ap (sign_step N p at x) e ∙ ap (λ b. cond b (value_step p at (minus_value N g.over x.number)) (Err x.at)) (ap is_number_kind n)) ∙ h)

  sign_other : (p : Progress) (at : Span) (x : Token) (to : Span) (o : Option Simple) → is_number_kind x.kind ≡ false → sign_step N p at x o ≡ Err to → to ≡ x.at
  sign_other p at x to None n h = sym (err_is h)
  sign_other p at x to (Some over) n h = sym (err_is (sym (ap (λ b. cond b (value_step p at (minus_value N over x.number)) (Err x.at)) n) ∙ h))

  between_stop : (p : Progress) (x : Token) (to : Span) (b c : Bool) → cond b (Ok (line_opened p true)) (cond c (Ok (in_phase p Done)) (Err x.at)) ≡ Err to → to ≡ x.at
  between_stop p x to true c h = absurd cc
  between_stop p x to false c h = cond_err c (in_phase p Done) h

  -- a step stops at its token, but behind a `-` where a number comes
  plain_at : (p : Progress) (x : Token) (to : Span) → step N T p x ≡ Err to → ((at : Span) → p.phase ≡ Signed at → is_number_kind x.kind ≡ false) → to ≡ x.at
  plain_at p x to h other = go p.phase refl h
    where
      go : (phase : Phase) → p.phase ≡ phase → step_in N T p x phase ≡ Err to → to ≡ x.at
      go Opening e h = cond_err (is_word (line_word false) x && opens N T false) (line_opened p false) h
      go Naming e h = named (is_quoted_kind x.kind) h
        where
          named : (b : Bool) → cond b (title_step N T p x (first_of (titles T p.firing) x.text)) (Err x.at) ≡ Err to → to ≡ x.at
          named true h = title_stop p x to (first_of (titles T p.firing) x.text) h
          named false h = sym (err_is h)
      go Giving e h = give_stop p x to (next_param T p) h
      go (Signed at) e h = sign_other p at x to (next_param T p) (other at e) h
      go Between e h = between_stop p x to (is_word (line_word true) x && opens N T true) (is_end_kind x.kind) h
      go Done e h = sym (err_is h)

  -- the phase after a token: it is signed exactly behind a `-`
  abbrev Came : Token → Phase → Type 0
  Came x Opening = ⊥
  Came x Naming = IsMinus x → ⊥
  Came x Giving = IsMinus x → ⊥
  Came x (Signed at) = IsMinus x × (at ≡ x.at)
  Came x Between = IsMinus x → ⊥
  Came x Done = IsMinus x → ⊥

  no_minus : (x : Token) → is_sign_kind x.kind ≡ false → IsMinus x → ⊥
  no_minus x h m = true_false (ap is_sign_kind m.0) h

  came_word : (word : List ℕ) (x : Token) → is_word word x ≡ true → IsMinus x → ⊥
  came_word word x h m = true_false h (ap (λ k. is_word_kind k && bytes_eq x.text word) m.0)

  came_title : (p : Progress) (x : Token) (q : Progress) (o : Option ℕ) → is_quoted_kind x.kind ≡ true → title_step N T p x o ≡ Ok q → Came x q.phase
  came_title p x q None s h = absurd cc
  came_title p x q (Some k) s h =
      subst (λ (q : Progress). Came x q.phase) (ok_is (cond_ok (are_writable N T.kinds (params T p.firing k)) (Ok (titled p k)) x.at h).1) (λ m. true_false s (ap is_quoted_kind m.0))

  came_value : (p : Progress) (at : Span) (x : Token) (q : Progress) (o : Option Value) → (IsMinus x → ⊥) → value_step p at o ≡ Ok q → Came x q.phase
  came_value p at x q None s h = absurd cc
  came_value p at x q (Some v) s h = subst (λ (q : Progress). Came x q.phase) (ok_is h) s

  came_give : (p : Progress) (x : Token) (q : Progress) (o : Option Simple) → give_step N T p x o ≡ Ok q → Came x q.phase
  came_give p x q None h =
      let (s, k) = cond_ok (is_sign (codes ";") x) (Ok (line_ended p)) x.at h in
      subst (λ (q : Progress). Came x q.phase) (ok_is k) (λ m. apart (sym (sign_is (codes ";") x s).1 ∙ m.1))
    where
      apart : codes ";" ≡ codes "-" → ⊥
      apart h = cc
  came_give p x q (Some over) h = go (is_sign (codes "-") x) refl h
    where
      go : (b : Bool) → is_sign (codes "-") x ≡ b → cond b (cond (takes_minus over) (Ok (in_phase p (Signed x.at))) (Err x.at)) (value_step p x.at (one_value N T.kinds over x)) ≡ Ok q → Came x q.phase
      go true m h = subst (λ (q : Progress). Came x q.phase) (ok_is (cond_ok (takes_minus over) (Ok (in_phase p (Signed x.at))) x.at h).1) (sign_is (codes "-") x m, refl)
      go false m h = came_value p x.at x q (one_value N T.kinds over x) (λ i. true_false (is_sign_it (codes "-") x i) m) h

  came_sign : (p : Progress) (at : Span) (x : Token) (q : Progress) (o : Option Simple) → sign_step N p at x o ≡ Ok q → Came x q.phase
  came_sign p at x q None h = absurd cc
  came_sign p at x q (Some over) h =
      let (n, k) = cond_ok (is_number_kind x.kind) (value_step p at (minus_value N over x.number)) x.at h in
      came_value p at x q (minus_value N over x.number) (λ m. sign_no_number (codes "-") x m (number_kind x.kind n)) k

  came : (p : Progress) (x : Token) (q : Progress) → step N T p x ≡ Ok q → Came x q.phase
  came p x q h = go p.phase h
    where
      between : (b : Bool) → is_word (line_word true) x && opens N T true ≡ b → cond b (Ok (line_opened p true)) (cond (is_end_kind x.kind) (Ok (in_phase p Done)) (Err x.at)) ≡ Ok q → Came x q.phase
      between true e h = subst (λ (q : Progress). Came x q.phase) (ok_is h) (came_word (line_word true) x (and_left _ _ e))
      between false e h =
          let (n, k) = cond_ok (is_end_kind x.kind) (Ok (in_phase p Done)) x.at h in
          subst (λ (q : Progress). Came x q.phase) (ok_is k) (λ m. true_false n (ap is_end_kind m.0))

      go : (phase : Phase) → step_in N T p x phase ≡ Ok q → Came x q.phase
      go Opening h =
          let (e, k) = cond_ok (is_word (line_word false) x && opens N T false) (Ok (line_opened p false)) x.at h in
          subst (λ (q : Progress). Came x q.phase) (ok_is k) (came_word (line_word false) x (and_left _ _ e))
      go Naming h =
          let (s, k) = cond_ok (is_quoted_kind x.kind) (title_step N T p x (first_of (titles T p.firing) x.text)) x.at h in
          came_title p x q (first_of (titles T p.firing) x.text) s k
      go Giving h = came_give p x q (next_param T p) h
      go (Signed at) h = came_sign p at x q (next_param T p) h
      go Between h = between (is_word (line_word true) x && opens N T true) refl h
      go Done h = absurd cc

  -- what stands in front: where the phase is signed a `-` that has the place, and else none
  abbrev Behind : List Token → Phase → Type 0
  Behind front (Signed at) =
      (before : List Token) × (m : Token) × (p : Progress) × (front ≡ before ++ m ∷ []) × IsMinus m × (at ≡ m.at) × (steps N T fresh before ≡ Ok p)
  Behind front Opening = front ≡ []
  Behind front Naming = EndsInMinus front → ⊥
  Behind front Giving = EndsInMinus front → ⊥
  Behind front Between = EndsInMinus front → ⊥
  Behind front Done = EndsInMinus front → ⊥

  record Reached (front : List Token) (p : Progress) : Type 0 where
    goes : steps N T fresh front ≡ Ok p
    good : Good N T p
    behind : Behind front p.phase

  behind_came : (front : List Token) (x : Token) (p : Progress) (phase : Phase) → steps N T fresh front ≡ Ok p → Came x phase → Behind (front ++ x ∷ []) phase
  behind_came front x p Opening h c = absurd c
  behind_came front x p Naming h c = λ (f, m, e, i). c (subst (λ y. IsMinus y) (sym (last_same front f x m e).1) i)
  behind_came front x p Giving h c = λ (f, m, e, i). c (subst (λ y. IsMinus y) (sym (last_same front f x m e).1) i)
  behind_came front x p (Signed at) h c = (front, x, p, refl, c.0, c.1, h)
  behind_came front x p Between h c = λ (f, m, e, i). c (subst (λ y. IsMinus y) (sym (last_same front f x m e).1) i)
  behind_came front x p Done h c = λ (f, m, e, i). c (subst (λ y. IsMinus y) (sym (last_same front f x m e).1) i)

  from_front : (front us : List Token) (p : Progress) → steps N T fresh front ≡ Ok p → steps N T fresh (front ++ us) ≡ steps N T p us
  from_front front us p h = steps_both N T fresh front us ∙ ap (λ r. go_on r (λ q. steps N T q us)) h

  one_more : (front : List Token) (x : Token) (p q : Progress) → Reached front p → step N T p x ≡ Ok q → Reached (front ++ x ∷ []) q
  one_more front x p q r h =
      record { goes = from_front front (x ∷ []) p r.goes ∙ steps_on N T p q x [] h; good = step_good N T p x q r.good h; behind = behind_came front x p q.phase r.goes (came p x q h) }

  at_first : Reached [] fresh
  at_first = record { goes = refl; good = refl; behind = refl }

  reached_from : (front : List Token) (p : Progress) (us : List Token) (q : Progress) → Reached front p → steps N T p us ≡ Ok q → Reached (front ++ us) q
  reached_from front p [] q r h = subst (λ l. Reached l q) (sym (append-nil front)) (subst (λ p. Reached front p) (ok_is h) r)
  reached_from front p (x ∷ us) q r h = go (step N T p x) refl h (λ s z k. reached_from (front ++ x ∷ []) s us q z k)
    where
      by : (s : Progress) → Reached ((front ++ x ∷ []) ++ us) q → Reached (front ++ x ∷ us) q
      by s z = subst (λ l. Reached l q) (append_assoc front (x ∷ []) us) z

      go : (s : Result Progress Span) → step N T p x ≡ s → go_on s (λ q. steps N T q us) ≡ Ok q → ((s : Progress) → Reached (front ++ x ∷ []) s → steps N T s us ≡ Ok q → Reached ((front ++ x ∷ []) ++ us) q) → Reached (front ++ x ∷ us) q
      go (Ok s) e h more = by s (more s (one_more front x p s r e) h)
      go (Err at) e h more = absurd cc

  reached : (front : List Token) (p : Progress) → steps N T fresh front ≡ Ok p → Reached front p
  reached front p h = reached_from [] fresh front p at_first h

  -- what was read begins a script
  begun : (front : List Token) (p : Progress) → Reached front p → Begins N T front
  begun [] p r = tt
  begun (x ∷ xs) p r =
      let l = leads N T p r.good (λ e. some_front (subst (λ a. Behind (x ∷ xs) a) e r.behind)) in
      record { behind = l.tokens; lines = l.end.lines; whole = read_writes N T ((x ∷ xs) ++ l.tokens) l.end (from_front (x ∷ xs) l.tokens p r.goes ∙ l.goes) l.done }
    where
      some_front : x ∷ xs ≡ [] → ⊥
      some_front h = cc

  -- where reading stopped no script begins
  err_ends : (us : List Token) (at : Span) → steps N T fresh us ≡ Err at → Begins N T us → ⊥
  err_ends [] at h b = absurd cc
  err_ends (x ∷ xs) at h b =
      let q = script_goes N T b.whole in
      ok_err q.1 (steps_both N T fresh (x ∷ xs) b.behind ∙ ap (λ r. go_on r (λ q. steps N T q b.behind)) h)

  one_stop : (front : List Token) (p : Progress) (x : Token) (xs : List Token) (at : Span) → Reached front p → step N T p x ≡ Err at → at ≡ x.at → (EndsInMinus front → IsNumber x → ⊥) → (IsMinus x → StartsWithNumber xs → ⊥) → StopsAt N T (front ++ x ∷ xs) at
  one_stop front p x xs at r h e a b =
      record { front = front; token = x; rest = []; behind = xs; are = refl; counts = single x b a; place = e; begun = begun front p r; ends = err_ends (front ++ x ∷ []) at (from_front front (x ∷ []) p r.goes ∙ steps_off N T p x [] at h) }

  two_stop : (front : List Token) (p : Progress) (m x : Token) (xs : List Token) (at : Span) → Reached front p → steps N T p (m ∷ x ∷ []) ≡ Err at → at ≡ m.at → IsMinus m → IsNumber x → StopsAt N T (front ++ m ∷ x ∷ xs) at
  two_stop front p m x xs at r h e a b =
      record { front = front; token = m; rest = x ∷ []; behind = xs; are = refl; counts = pair m x a b; place = e; begun = begun front p r; ends = err_ends (front ++ m ∷ x ∷ []) at (from_front front (m ∷ x ∷ []) p r.goes ∙ h) }

  head_of : {x y : Token} {xs ys : List Token} → x ∷ xs ≡ y ∷ ys → x ≡ y
  head_of h = cc

  plain_stop : (front : List Token) (p : Progress) (x : Token) (xs : List Token) (at : Span) → Reached front p → step N T p x ≡ Err at → at ≡ x.at → (EndsInMinus front → IsNumber x → ⊥) → StopsAt N T (front ++ x ∷ xs) at
  plain_stop front p x xs at r h e a = go (is_sign (codes "-") x) refl
    where
      next : (xs : List Token) → IsMinus x → StopsAt N T (front ++ x ∷ xs) at
      next [] m = one_stop front p x [] at r h e a (λ i (y, ys, k, n). nothing k)
        where
          nothing : {y : Token} {ys : List Token} → [] ≡ y ∷ ys → ⊥
          nothing k = cc
      next (y ∷ ys) m = by (is_number_kind y.kind) refl
        where
          by : (b : Bool) → is_number_kind y.kind ≡ b → StopsAt N T (front ++ x ∷ y ∷ ys) at
          by true n = two_stop front p x y ys at r (steps_off N T p x (y ∷ []) at h) e m (number_kind y.kind n)
          by false n = one_stop front p x (y ∷ ys) at r h e a (λ i (z, zs, k, o). true_false (ap is_number_kind (subst (λ w. IsNumber w) (sym (head_of k)) o)) n)

      go : (b : Bool) → is_sign (codes "-") x ≡ b → StopsAt N T (front ++ x ∷ xs) at
      go true m = next xs (sign_is (codes "-") x m)
      go false m = one_stop front p x xs at r h e a (λ i s. true_false (is_sign_it (codes "-") x i) m)

  -- behind a `-`, at a number
  signed_stop : (front : List Token) (p : Progress) (x : Token) (xs : List Token) (at place : Span) → Reached front p → step N T p x ≡ Err at → at ≡ place → IsNumber x → Behind front (Signed place) → StopsAt N T (front ++ x ∷ xs) at
  signed_stop front p x xs at place r h e n (before, m, q, is, i, k, g) =
      subst (λ l. StopsAt N T l at) (sym (ap (λ l. l ++ x ∷ xs) is ∙ append_assoc before (m ∷ []) (x ∷ xs)))
      (two_stop before q m x xs at (reached before q g)
      (sym (from_front before (m ∷ x ∷ []) q g) ∙ ap (steps N T fresh) (sym (ap (λ l. l ++ x ∷ []) is ∙ append_assoc before (m ∷ []) (x ∷ []))) ∙ from_front front (x ∷ []) p r.goes ∙ steps_off N T p x [] at h)
      (e ∙ k) i n)

  stop_here : (front : List Token) (p : Progress) (x : Token) (xs : List Token) (at : Span) → Reached front p → step N T p x ≡ Err at → StopsAt N T (front ++ x ∷ xs) at
  stop_here front p x xs at r h = go p.phase refl r.good r.behind
    where
      plain : (phase : Phase) → p.phase ≡ phase → ((to : Span) → phase ≡ Signed to → ⊥) → (EndsInMinus front → ⊥) → StopsAt N T (front ++ x ∷ xs) at
      plain phase e never none = plain_stop front p x xs at r h (plain_at p x at h (λ to k. absurd (never to (sym e ∙ k)))) (λ m n. none m)

      no_front : front ≡ [] → EndsInMinus front → ⊥
      no_front e (f, m, k, i) = never_last f m (sym k ∙ e)

      signed : (to : Span) → p.phase ≡ Signed to → GoodSigned N T p → Behind front (Signed to) → (b : Bool) → is_number_kind x.kind ≡ b → StopsAt N T (front ++ x ∷ xs) at
      signed to e g b true n =
          signed_stop front p x xs at to r h (sign_number p to x at g (number_kind x.kind n) (sym (ap (step_in N T p x) e) ∙ h)) (number_kind x.kind n) b
      signed to e g b false n = plain_stop front p x xs at r h (plain_at p x at h (λ t k. n)) (λ m i. true_false (ap is_number_kind i) n)

      go : (phase : Phase) → p.phase ≡ phase → GoodIn N T p phase → Behind front phase → StopsAt N T (front ++ x ∷ xs) at
      go Opening e g b = plain Opening e (λ to k. absurd cc) (no_front b)
      go Naming e g b = plain Naming e (λ to k. absurd cc) b
      go Giving e g b = plain Giving e (λ to k. absurd cc) b
      go (Signed to) e g b = signed to e g b (is_number_kind x.kind) refl
      go Between e g b = plain Between e (λ to k. absurd cc) b
      go Done e g b = plain Done e (λ to k. absurd cc) b

  stop_from : (front : List Token) (p : Progress) (us : List Token) (at : Span) → Reached front p → steps N T p us ≡ Err at → StopsAt N T (front ++ us) at
  stop_from front p [] at r h = absurd cc
  stop_from front p (x ∷ us) at r h = go (step N T p x) refl h (λ s z k. stop_from (front ++ x ∷ []) s us at z k)
    where
      by : StopsAt N T ((front ++ x ∷ []) ++ us) at → StopsAt N T (front ++ x ∷ us) at
      by z = subst (λ l. StopsAt N T l at) (append_assoc front (x ∷ []) us) z

      go : (s : Result Progress Span) → step N T p x ≡ s → go_on s (λ q. steps N T q us) ≡ Err at → ((s : Progress) → Reached (front ++ x ∷ []) s → steps N T s us ≡ Err at → StopsAt N T ((front ++ x ∷ []) ++ us) at) → StopsAt N T (front ++ x ∷ us) at
      go (Ok s) e h more = by (more s (one_more front x p s r e) h)
      go (Err to) e h more = stop_here front p x us at r (e ∙ h)

  pub stops : (ts : List Token) (at : Span) → steps N T fresh ts ≡ Err at → StopsAt N T ts at
  stops ts at h = stop_from [] fresh ts at at_first h

  -- and reading stops where a script does

  ok_front : (r : Result Progress Span) (us : List Token) (q : Progress) → go_on r (λ q. steps N T q us) ≡ Ok q → (p : Progress) × (r ≡ Ok p)
  ok_front (Ok p) us q h = (p, refl)
  ok_front (Err at) us q h = absurd cc

  begun_reads : (front : List Token) → Begins N T front → (p : Progress) × (steps N T fresh front ≡ Ok p)
  begun_reads [] b = (fresh, refl)
  begun_reads (x ∷ xs) b =
      let q = script_goes N T b.whole in
      ok_front (steps N T fresh (x ∷ xs)) b.behind q.0 (sym (steps_both N T fresh (x ∷ xs) b.behind) ∙ q.1)

  one_place : (front : List Token) (p : Progress) (x : Token) (to : Span) → Reached front p → step N T p x ≡ Err to → (EndsInMinus front → IsNumber x → ⊥) → to ≡ x.at
  one_place front p x to r h a = plain_at p x to h (λ at e. go at (subst (λ f. Behind front f) e r.behind) (is_number_kind x.kind) refl)
    where
      go : (at : Span) → Behind front (Signed at) → (b : Bool) → is_number_kind x.kind ≡ b → is_number_kind x.kind ≡ false
      go at b false n = n
      go at (before, m, q, is, i, k, g) true n = absurd (a (before, m, is, i) (number_kind x.kind n))

  signed_at : (phase : Phase) (m : Token) → IsMinus m → Came m phase → phase ≡ Signed m.at
  signed_at Opening m i c = absurd c
  signed_at Naming m i c = absurd (c i)
  signed_at Giving m i c = absurd (c i)
  signed_at (Signed at) m i c = ap Signed c.1
  signed_at Between m i c = absurd (c i)
  signed_at Done m i c = absurd (c i)

  two_place : (front : List Token) (p : Progress) (m x : Token) (to : Span) → Reached front p → steps N T p (m ∷ x ∷ []) ≡ Err to → IsMinus m → IsNumber x → to ≡ m.at
  two_place front p m x to r h i n = go (step N T p m) refl h
    where
      last : (s : Result Progress Span) → go_on s (λ q. Ok q) ≡ Err to → s ≡ Err to
      last (Ok q) h = absurd cc
      last (Err at) h = h

      second : (q : Progress) → Good N T q → q.phase ≡ Signed m.at → step N T q x ≡ Err to → to ≡ m.at
      second q g e h = sign_number q m.at x to (subst (λ f. GoodIn N T q f) e g) n (sym (ap (step_in N T q x) e) ∙ h)

      go : (s : Result Progress Span) → step N T p m ≡ s → go_on s (λ q. steps N T q (x ∷ [])) ≡ Err to → to ≡ m.at
      go (Ok q) e h = second q (step_good N T p m q r.good e) (signed_at q.phase m i (came p m q e)) (last (step N T q x) h)
      go (Err at) e h = one_place front p m to r (e ∙ h) (λ f k. sign_no_number (codes "-") m i k)

  pub stopped : (ts : List Token) (at : Span) → StopsAt N T ts at → steps N T fresh ts ≡ Err at
  stopped ts at s = by (begun_reads s.front s.begun)
    where
      place_of : (p : Progress) (us : List Token) (to : Span) → us ≡ s.token ∷ s.rest → Reached s.front p → steps N T p us ≡ Err to → CountsAsOne s.front us s.behind → to ≡ s.token.at
      place_of p us to e r h (single x b a) = one_place s.front p x to r (last (step N T p x) h) a ∙ ap (λ (y : Token). y.at) (head_of e)
        where
          last : (s : Result Progress Span) → go_on s (λ q. Ok q) ≡ Err to → s ≡ Err to
          last (Ok q) h = absurd cc
          last (Err at) h = h
      place_of p us to e r h (pair m x i n) = two_place s.front p m x to r h i n ∙ ap (λ (y : Token). y.at) (head_of e)

      part : (p : Progress) → Reached s.front p → (z : Result Progress Span) → steps N T p (s.token ∷ s.rest) ≡ z → z ≡ Err at
      part p r (Ok q) h = absurd (s.ends (begun (s.front ++ (s.token ∷ s.rest)) q (reached_from s.front p (s.token ∷ s.rest) q r h)))
      part p r (Err to) h = ap Err (place_of p (s.token ∷ s.rest) to refl r h s.counts ∙ sym s.place)

      by : (p : Progress) × (steps N T fresh s.front ≡ Ok p) → steps N T fresh ts ≡ Err at
      by (p, h) =
          ap (steps N T fresh) s.are
          ∙ from_front s.front ((s.token ∷ s.rest) ++ s.behind) p h
          ∙ steps_both N T p (s.token ∷ s.rest) s.behind
          ∙ ap (λ r. go_on r (λ q. steps N T q s.behind)) (part p (reached s.front p h) (steps N T p (s.token ∷ s.rest)) refl)

  -- at the end of a text all is read

  end_no_value : (over : Simple) (x : Token) → x.kind ≡ token.End → one_value N T.kinds over x ≡ None
  end_no_value simple.Truth x e =
      ap (λ k. cond (nat_eq (code (symbol_by k x.text)) (code t.True)) (Some (value.Truth true)) (cond (nat_eq (code (symbol_by k x.text)) (code t.False)) (Some (value.Truth false)) None)) e
  end_no_value (simple.Range low high) x e = ap (λ k. cond (is_number_kind k) (number_value N (simple.Range low high) (value.Number (pos x.number)) x.number) None) e
  end_no_value simple.Node x e = ap (λ k. cond (is_number_kind k) (number_value N simple.Node (value.Node x.number) x.number) None) e
  end_no_value (simple.Listed number count) x e = ap (λ k. cond (is_word_kind k) (member T.kinds number count x.text) None) e
  end_no_value (simple.Scalarset number count) x e = ap (λ k. cond (is_word_kind k) (member T.kinds number count x.text) None) e

  end_step : (p : Progress) (x : Token) (q : Progress) → x.kind ≡ token.End → step N T p x ≡ Ok q → is_done q.phase ≡ true
  end_step p x q e h = go p.phase h
    where
      no_word : (word : List ℕ) → is_word word x ≡ false
      no_word word = ap (λ k. is_word_kind k && bytes_eq x.text word) e

      no_number : is_number_kind x.kind ≡ false
      no_number = ap is_number_kind e

      ended : (r : Result Progress Span) (b : Bool) → b ≡ false → cond b r (Err x.at) ≡ Ok q → is_done q.phase ≡ true
      ended r true e h = absurd cc
      ended r false e h = absurd cc

      between : (b c : Bool) → b ≡ false → cond b (Ok (line_opened p true)) (cond c (Ok (in_phase p Done)) (Err x.at)) ≡ Ok q → is_done q.phase ≡ true
      between true c e h = absurd cc
      between false true e h = subst (λ (q : Progress). is_done q.phase ≡ true) (ok_is h) refl
      between false false e h = absurd cc

      give : (o : Option Simple) → give_step N T p x o ≡ Ok q → is_done q.phase ≡ true
      give None h = ended _ (is_sign (codes ";") x) (ap (λ k. is_sign_kind k && bytes_eq x.text (codes ";")) e) h
      give (Some over) h =
          ok_err h
          (ap (λ b. cond b (cond (takes_minus over) (Ok (in_phase p (Signed x.at))) (Err x.at)) (value_step p x.at (one_value N T.kinds over x))) (ap (λ k. is_sign_kind k && bytes_eq x.text (codes "-")) e)
          ∙ ap (value_step p x.at) (end_no_value over x e))

      sign : (at : Span) (o : Option Simple) → sign_step N p at x o ≡ Ok q → is_done q.phase ≡ true
      sign at None h = absurd cc
      sign at (Some over) h = ended _ (is_number_kind x.kind) no_number h

      go : (phase : Phase) → step_in N T p x phase ≡ Ok q → is_done q.phase ≡ true
      go Opening h = ended _ (is_word (line_word false) x && opens N T false) (ap (λ b. b && opens N T false) (no_word (line_word false))) h
      go Naming h = ended _ (is_quoted_kind x.kind) (ap is_quoted_kind e) h
      go Giving h = give (next_param T p) h
      go (Signed at) h = sign at (next_param T p) h
      go Between h = between (is_word (line_word true) x && opens N T true) (is_end_kind x.kind) (ap (λ b. b && opens N T true) (no_word (line_word true))) h
      go Done h = absurd cc

  kind_end : (k : TokenKind) → bytes.is_end k ≡ true → k ≡ token.End
  kind_end token.End h = refl
  kind_end token.Word h = absurd cc
  kind_end token.Number h = absurd cc
  kind_end token.Quoted h = absurd cc
  kind_end token.Sign h = absurd cc

  pub whole : (p : Progress) (ts : List Token) (q : Progress) → ends_once ts ≡ true → steps N T p ts ≡ Ok q → is_done q.phase ≡ true
  whole p [] q e h = absurd cc
  whole p (x ∷ []) q e h = go (step N T p x) refl h
    where
      go : (s : Result Progress Span) → step N T p x ≡ s → go_on s (λ q. Ok q) ≡ Ok q → is_done q.phase ≡ true
      go (Ok s) k h = end_step p x q (kind_end x.kind e) (k ∙ h)
      go (Err at) k h = absurd cc
  whole p (x ∷ y ∷ us) q e h = go (step N T p x) h (λ s k. whole s (y ∷ us) q (and_right (not (bytes.is_end x.kind)) _ e) k)
    where
      go : (s : Result Progress Span) → go_on s (λ q. steps N T q (y ∷ us)) ≡ Ok q → ((s : Progress) → steps N T s (y ∷ us) ≡ Ok q → is_done q.phase ≡ true) → is_done q.phase ≡ true
      go (Ok s) h more = more s h
      go (Err at) h more = absurd cc

  -- Answers

  pub read_told : (ts : List Token) (r : Result (List Line) ScriptRefusal) → IsReadAs N T ts r → Tells N T ts r
  read_told ts (Ok lines) (q, h, d, e) = subst (λ l. WritesScript N T ts l) (sym e) (read_writes N T ts q h d)
  read_told ts (Err (refusal.E19 at)) h = stops ts at h
  read_told ts (Err (refusal.E02 at)) h = absurd h
  read_told ts (Err (refusal.E03 at)) h = absurd h
  read_told ts (Err refusal.Memory) h = tt

  pub read_only : (ts : List Token) (r a : Result (List Line) ScriptRefusal) → IsReadAs N T ts r → Tells N T ts a → IsAnswered r a
  read_only ts r (Err refusal.Memory) h t = tt
  read_only ts r (Err (refusal.E02 at)) h t = absurd t
  read_only ts r (Err (refusal.E03 at)) h t = absurd t
  read_only ts (Ok lines) (Ok others) (q, h, d, e) t =
      let (p, k, c, l) = script_goes N T t in
      ap Ok (e ∙ ap (λ (z : Progress). z.lines) (ok_is (sym h ∙ k)) ∙ l)
  read_only ts (Ok lines) (Err (refusal.E19 at)) (q, h, d, e) t = ok_err h (stopped ts at t)
  read_only ts (Err (refusal.E19 at)) (Ok others) h t = ok_err (script_goes N T t).1 h
  read_only ts (Err (refusal.E19 at)) (Err (refusal.E19 to)) h t = ap (λ z. Err (refusal.E19 z)) (err_is (sym h ∙ stopped ts to t))
  read_only ts (Err (refusal.E02 at)) (Ok others) h t = absurd h
  read_only ts (Err (refusal.E03 at)) (Ok others) h t = absurd h
  read_only ts (Err refusal.Memory) (Ok others) h t = tt
  read_only ts (Err (refusal.E02 at)) (Err (refusal.E19 to)) h t = absurd h
  read_only ts (Err (refusal.E03 at)) (Err (refusal.E19 to)) h t = absurd h
  read_only ts (Err refusal.Memory) (Err (refusal.E19 to)) h t = tt

  -- what the code answers at the end of the tokens
  pub read_done : (ts : List Token) (q : Progress) (r : Result (List Line) ScriptRefusal) → ends_once ts ≡ true → steps N T fresh ts ≡ Ok q → Finished q r → IsReadAs N T ts r
  read_done ts q (Ok lines) e h (d, l) = (q, h, d, l)
  read_done ts q (Err (refusal.E19 at)) e h f = true_false (whole fresh ts q e h) f
  read_done ts q (Err (refusal.E02 at)) e h f = absurd f
  read_done ts q (Err (refusal.E03 at)) e h f = absurd f
  read_done ts q (Err refusal.Memory) e h f = absurd f

  -- bytes

  pub bytes_told : (bs : List ℕ) (ts : List Token) (r : Result (List Line) ScriptRefusal) → bytes.Spells bs ts → Tells N T ts r → TellsBytes N T bs r
  bytes_told bs ts (Ok lines) s p = (ts, s, p)
  bytes_told bs ts (Err (refusal.E02 at)) s p = absurd p
  bytes_told bs ts (Err (refusal.E03 at)) s p = absurd p
  bytes_told bs ts (Err (refusal.E19 at)) s p = (ts, s, p)
  bytes_told bs ts (Err refusal.Memory) s p = tt

  pub bytes_only : (bs : List ℕ) (ts : List Token) (r a : Result (List Line) ScriptRefusal) → ((other : List Token) → bytes.Spells bs other → ts ≡ other) → ((f : Fault) → FaultsFirst bs f → ⊥) → IsReadAs N T ts r → TellsBytes N T bs a → IsAnswered r a
  bytes_only bs ts r (Ok lines) one never p (other, s, q) = read_only ts r (Ok lines) p (subst (λ z. WritesScript N T z lines) (sym (one other s)) q)
  bytes_only bs ts r (Err (refusal.E02 at)) one never p q = absurd (never (fault.E02 at) q)
  bytes_only bs ts r (Err (refusal.E03 at)) one never p q = absurd (never (fault.E03 at) q)
  bytes_only bs ts r (Err (refusal.E19 at)) one never p (other, s, q) = read_only ts r (Err (refusal.E19 at)) p (subst (λ z. StopsAt N T z at) (sym (one other s)) q)
  bytes_only bs ts r (Err refusal.Memory) one never p q = tt

  same_place : {a b : Span} → fault.E02 a ≡ fault.E02 b → b ≡ a
  same_place h = cc

  same_place_3 : {a b : Span} → fault.E03 a ≡ fault.E03 b → b ≡ a
  same_place_3 h = cc

  fault_only_E02 : (bs : List ℕ) (at : Span) (a : Result (List Line) ScriptRefusal) → ((ts : List Token) → bytes.Spells bs ts → ⊥) → ((f : Fault) → FaultsFirst bs f → f ≡ fault.E02 at) → TellsBytes N T bs a → IsAnswered (Err (refusal.E02 at)) a
  fault_only_E02 bs at (Ok lines) never one (ts, s, q) = absurd (never ts s)
  fault_only_E02 bs at (Err (refusal.E02 to)) never one q = ap (λ z. Err (refusal.E02 z)) (same_place (one (fault.E02 to) q))
  fault_only_E02 bs at (Err (refusal.E03 to)) never one q = absurd (apart (one (fault.E03 to) q))
    where
      apart : fault.E03 to ≡ fault.E02 at → ⊥
      apart h = cc
  fault_only_E02 bs at (Err (refusal.E19 to)) never one (ts, s, q) = absurd (never ts s)
  fault_only_E02 bs at (Err refusal.Memory) never one q = tt

  fault_only_E03 : (bs : List ℕ) (at : Span) (a : Result (List Line) ScriptRefusal) → ((ts : List Token) → bytes.Spells bs ts → ⊥) → ((f : Fault) → FaultsFirst bs f → f ≡ fault.E03 at) → TellsBytes N T bs a → IsAnswered (Err (refusal.E03 at)) a
  fault_only_E03 bs at (Ok lines) never one (ts, s, q) = absurd (never ts s)
  fault_only_E03 bs at (Err (refusal.E03 to)) never one q = ap (λ z. Err (refusal.E03 z)) (same_place_3 (one (fault.E03 to) q))
  fault_only_E03 bs at (Err (refusal.E02 to)) never one q = absurd (apart (one (fault.E02 to) q))
    where
      apart : fault.E02 to ≡ fault.E03 at → ⊥
      apart h = cc
  fault_only_E03 bs at (Err (refusal.E19 to)) never one (ts, s, q) = absurd (never ts s)
  fault_only_E03 bs at (Err refusal.Memory) never one q = tt

  memory_only : (a : Result (List Line) ScriptRefusal) → IsAnswered (Err refusal.Memory) a
  memory_only (Ok lines) = tt
  memory_only (Err refusal.Memory) = tt
  memory_only (Err (refusal.E02 to)) = tt
  memory_only (Err (refusal.E03 to)) = tt
  memory_only (Err (refusal.E19 to)) = tt

  pub lexed_told : (bs : List ℕ) (e : LexRefusal) → IsRefusal bs e → TellsBytes N T bs (Err (lexed e))
  lexed_told bs (lex.E02 at) h = h
  lexed_told bs (lex.E03 at) h = h
  lexed_told bs lex.Memory h = tt

  pub lexed_only : (bs : List ℕ) (e : LexRefusal) (a : Result (List Line) ScriptRefusal) → ((ts : List Token) → bytes.Spells bs ts → e ≡ lex.Memory) → ((f : Fault) → FaultsFirst bs f → TellsFault e f) → TellsBytes N T bs a → IsAnswered (Err (lexed e)) a
  lexed_only bs (lex.E02 at) a never one q = fault_only_E02 bs at a (λ ts s. apart (never ts s)) one q
    where
      apart : lex.E02 at ≡ lex.Memory → ⊥
      apart h = cc
  lexed_only bs (lex.E03 at) a never one q = fault_only_E03 bs at a (λ ts s. apart (never ts s)) one q
    where
      apart : lex.E03 at ≡ lex.Memory → ⊥
      apart h = cc
  lexed_only bs lex.Memory a never one q = memory_only a

pub ruleset telling = (read_done)
