-- What is read to the end is what the tokens write.
use Rattle.std.specs.Prelude.{codes, ◌&&◌}
use Rattle.std.proofs.Common.{◌≡◌, ℕ, suc, Bool, true, false, cond, List, [], ◌∷◌, ◌++◌, drop, length, Option, Some, None, Result, Ok, Err, refl, sym, ap, ◌∙◌, subst, append-nil, append_assoc}
use Rattle.term_core.specs.declared.value.Value.{Value}
use Rattle.murphi_ast.specs.declared.token.Token.{Token}
use Rattle.murphi_ast.specs.declared.token.Span.{Span}
use Rattle.murphi_typed.specs.declared.types.Simple.{Simple}
use Rattle.murphi_typed.specs.declared.protocol.Typed.{Typed}
use Rattle.run_scripts.specs.declared.refusal.Line.{Line}
use Rattle.run_scripts.specs.declared.phase.Phase.{Phase}
use Rattle.run_scripts.specs.declared.phase.Phase.TheVariants.{Opening, Naming, Giving, Signed, Between, Done}
use Rattle.run_scripts.specs.declared.phase.Progress.{Progress}
use Rattle.run_scripts.specs.Values.{is_end_kind, is_number_kind, is_quoted_kind, is_sign, is_word, minus_value, one_value}
use Rattle.run_scripts.specs.Usable.{are_writable, takes_minus}
use Rattle.run_scripts.specs.Scripts.{IsEnd, IsMinus, IsNumber, IsSign, IsString, IsWord, WritesFires, WritesLine, WritesScript, WritesValue, WritesValues, first_of, line_word, params, titles}
use Rattle.run_scripts.specs.Scripts as w
use Rattle.run_scripts.specs.Reading.{fresh, give_step, go_on, in_phase, is_done, line_ended, line_opened, next_param, opens, sign_step, step, step_in, steps, title_step, titled, value_step, with_value}
use Rattle.run_scripts.proofs.SymbolFacts.{and_left, drop_head, drop_more, end_kind, none_drop, number_kind, ok_is, quoted_kind, sign_is, some_drop, word_is}
use Rattle.run_scripts.proofs.Rests.{Good, GoodIn, GoodSigned, Rest, RestIn, SignedRest, TitleRest, ValuesRest, cond_ok, left, step_good}

module _ (N : ℕ) (T : Typed) where
  -- what is left before a step, from what is left after it

  line_rest : (firing : Bool) (x : Token) (ts : List Token) (more : List Line) → IsWord (line_word firing) x → (r : TitleRest N T firing ts more) →
      WritesLine N T firing (x ∷ r.y ∷ (r.values ++ r.z ∷ [])) (record { which = r.which; values = r.vs })
  line_rest firing x ts more i r = w.line x r.y r.z i r.string r.found r.writes r.closes refl

  split : (x : Token) (ts : List Token) (firing : Bool) (more : List Line) (r : TitleRest N T firing ts more) → x ∷ ts ≡ (x ∷ r.y ∷ (r.values ++ r.z ∷ [])) ++ r.back
  split x ts firing more r = ap (λ l. x ∷ l) r.are ∙ ap (λ l. x ∷ r.y ∷ l) (sym (append_assoc r.values (r.z ∷ []) r.back))

  opening_rest : (x : Token) (ts : List Token) (more : List Line) → IsWord (line_word false) x → TitleRest N T false ts more → WritesScript N T (x ∷ ts) more
  opening_rest x ts more i r = subst (λ l. WritesScript N T (x ∷ ts) l) (sym r.lines) (w.script (line_rest false x ts more i r) r.fires (split x ts false more r))

  between_rest : (x : Token) (ts : List Token) (more : List Line) → IsWord (line_word true) x → TitleRest N T true ts more → WritesFires N T (x ∷ ts) more
  between_rest x ts more i r = subst (λ l. WritesFires N T (x ∷ ts) l) (sym r.lines) (w.more (line_rest true x ts more i r) r.fires (split x ts true more r))

  title_rest : (firing : Bool) (k : ℕ) (g : List Value) (x : Token) (ts : List Token) (more : List Line) → g ≡ [] → IsString x → first_of (titles T firing) x.text ≡ Some k → ValuesRest N T (drop (length g) (params T firing k)) k g ts more → TitleRest N T firing (x ∷ ts) more
  title_rest firing k g x ts more e s found r =
      let r' : ValuesRest N T (params T firing k) k [] ts more = subst (λ g. ValuesRest N T (drop (length g) (params T firing k)) k g ts more) e r in
      record { y = x; z = r'.z; values = r'.values; back = r'.back; which = k; vs = r'.vs; ls = r'.ls; are = ap (λ l. x ∷ l) r'.are; lines = r'.lines; string = s; found = found; writes = r'.writes; closes = r'.closes; fires = r'.fires }

  closing_rest : (overs : List Simple) (k : ℕ) (g : List Value) (x : Token) (ts : List Token) (more : List Line) → overs ≡ [] → IsSign (codes ";") x → WritesFires N T ts more → ValuesRest N T overs k g (x ∷ ts) (record { which = k; values = g } ∷ more)
  closing_rest overs k g x ts more e s f =
      record { z = x; values = []; back = ts; vs = []; ls = more; are = refl; lines = ap (λ l. record { which = k; values = l } ∷ more) (sym (append-nil g)); writes = subst (λ o. WritesValues N T.kinds o [] []) (sym e) w.none; closes = s; fires = f }

  value_rest : (over : Simple) (overs : List Simple) (k : ℕ) (g : List Value) (v : Value) (us ts all : List Token) (more : List Line) → WritesValue N T.kinds over us v → all ≡ us ++ ts → ValuesRest N T overs k (g ++ v ∷ []) ts more → ValuesRest N T (over ∷ overs) k g all more
  value_rest over overs k g v us ts all more p e r =
      record { z = r.z; values = us ++ r.values; back = r.back; vs = v ∷ r.vs; ls = r.ls; are = e ∙ ap (λ l. us ++ l) r.are ∙ sym (append_assoc us r.values (r.z ∷ r.back)); lines = r.lines ∙ ap (λ l. record { which = k; values = l } ∷ r.ls) (append_assoc g (v ∷ []) r.vs); writes = w.more p r.writes refl; closes = r.closes; fires = r.fires }

  signed_rest : (over : Simple) (overs : List Simple) (k : ℕ) (g : List Value) (m : Token) (ts : List Token) (more : List Line) → IsMinus m → SignedRest N T (over ∷ overs) k g ts more → ValuesRest N T (over ∷ overs) k g (m ∷ ts) more
  signed_rest over overs k g m ts more i r =
      let o : over ≡ r.over = head_same r.first in
      let l : overs ≡ r.later = tail_same r.first in
      value_rest over overs k g r.v (m ∷ r.x ∷ []) r.behind (m ∷ ts) more
      (w.minus m r.x i r.number (subst (λ o. minus_value N o r.x.number ≡ Some r.v) (sym o) r.writes)) (ap (λ l. m ∷ l) r.are)
      (subst (λ l. ValuesRest N T l k (g ++ r.v ∷ []) r.behind more) (sym l) r.rest)
    where
      head_same : {a b : Simple} {cs bs : List Simple} → a ∷ cs ≡ b ∷ bs → a ≡ b
      head_same h = cc

      tail_same : {a b : Simple} {cs bs : List Simple} → a ∷ cs ≡ b ∷ bs → cs ≡ bs
      tail_same h = cc

  -- by the step that was made

  abbrev Back : Progress → Token → List Token → List Line → Phase → Type 0
  Back p x ts all phase = (more : List Line) × (all ≡ p.lines ++ more) × RestIn N T p (x ∷ ts) more phase

  same_rest : (p q : Progress) (ts : List Token) (all : List Line) → p ≡ q → Rest N T q ts all → Rest N T p ts all
  same_rest p q ts all e r = subst (λ p. Rest N T p ts all) (sym e) r

  title_back : (p : Progress) (x : Token) (q : Progress) (ts : List Token) (all : List Line) (o : Option ℕ) → p.given ≡ [] → IsString x → first_of (titles T p.firing) x.text ≡ o → title_step N T p x o ≡ Ok q → Rest N T q ts all → Back p x ts all Naming
  title_back p x q ts all None g s e h r = absurd cc
  title_back p x q ts all (Some k) g s e h r =
      let r' = same_rest (titled p k) q ts all (ok_is (cond_ok (are_writable N T.kinds (params T p.firing k)) (Ok (titled p k)) x.at h).1) r in
      (r'.more, r'.lines, title_rest p.firing k p.given x ts r'.more g s e r'.rest)

  value_back : (p : Progress) (at : Span) (q : Progress) (ts : List Token) (all : List Line) (o : Option Value) → value_step p at o ≡ Ok q → Rest N T q ts all → (v : Value) × (o ≡ Some v) × Rest N T (with_value p v) ts all
  value_back p at q ts all None h r = absurd cc
  value_back p at q ts all (Some v) h r = (v, refl, same_rest (with_value p v) q ts all (ok_is h) r)

  later_is : (p : Progress) (v : Value) (over : Simple) (overs : List Simple) (ts : List Token) (more : List Line) → left T p ≡ over ∷ overs → ValuesRest N T (left T (with_value p v)) p.which (p.given ++ v ∷ []) ts more → ValuesRest N T overs p.which (p.given ++ v ∷ []) ts more
  later_is p v over overs ts more e r = subst (λ l. ValuesRest N T l p.which (p.given ++ v ∷ []) ts more) (drop_more p.given v (params T p.firing p.which) over overs e) r

  give_back : (p : Progress) (x : Token) (q : Progress) (ts : List Token) (all : List Line) (o : Option Simple) → next_param T p ≡ o → give_step N T p x o ≡ Ok q → Rest N T q ts all → Back p x ts all Giving
  give_back p x q ts all None e h r =
      let (s, k) = cond_ok (is_sign (codes ";") x) (Ok (line_ended p)) x.at h in
      let r' = same_rest (line_ended p) q ts all (ok_is k) r in (
        record { which = p.which; values = p.given } ∷ r'.more,
        r'.lines ∙ append_assoc p.lines (record { which = p.which; values = p.given } ∷ []) r'.more,
        closing_rest (left T p) p.which p.given x ts r'.more (none_drop (length p.given) (params T p.firing p.which) e) (sign_is (codes ";") x s) r'.rest,
      )
  give_back p x q ts all (Some over) e h r = go (is_sign (codes "-") x) refl h
    where
      go : (b : Bool) → is_sign (codes "-") x ≡ b → cond b (cond (takes_minus over) (Ok (in_phase p (Signed x.at))) (Err x.at)) (value_step p x.at (one_value N T.kinds over x)) ≡ Ok q → Back p x ts all Giving
      go true m h =
          let first : left T p ≡ over ∷ drop (suc (length p.given)) (params T p.firing p.which) = some_drop (length p.given) (params T p.firing p.which) over e in
          let r' = same_rest (in_phase p (Signed x.at)) q ts all (ok_is (cond_ok (takes_minus over) (Ok (in_phase p (Signed x.at))) x.at h).1) r in
          let s : SignedRest N T (left T p) p.which p.given ts r'.more = r'.rest in (
            r'.more,
            r'.lines,
            subst (λ l. ValuesRest N T l p.which p.given (x ∷ ts) r'.more) (sym first)
                (signed_rest over (drop (suc (length p.given)) (params T p.firing p.which)) p.which p.given x ts r'.more (sign_is (codes "-") x m) (subst (λ l. SignedRest N T l p.which p.given ts r'.more) first s)),
          )
      go false m h =
          let first : left T p ≡ over ∷ drop (suc (length p.given)) (params T p.firing p.which) = some_drop (length p.given) (params T p.firing p.which) over e in
          let (v, is, r') = value_back p x.at q ts all (one_value N T.kinds over x) h r in (
            r'.more,
            r'.lines,
            subst (λ l. ValuesRest N T l p.which p.given (x ∷ ts) r'.more) (sym first)
                (value_rest over (drop (suc (length p.given)) (params T p.firing p.which)) p.which p.given v (x ∷ []) ts (x ∷ ts) r'.more (w.one x is) refl
                (later_is p v over (drop (suc (length p.given)) (params T p.firing p.which)) ts r'.more first r'.rest)),
          )

  sign_back : (p : Progress) (at : Span) (x : Token) (q : Progress) (ts : List Token) (all : List Line) → GoodSigned N T p → sign_step N p at x (next_param T p) ≡ Ok q → Rest N T q ts all → Back p x ts all (Signed at)
  sign_back p at x q ts all g h r =
      let e : next_param T p ≡ Some g.over = drop_head (length p.given) (params T p.firing p.which) g.over g.later g.first in
      let (n, k) = cond_ok (is_number_kind x.kind) (value_step p at (minus_value N g.over x.number)) x.at (sym (ap (sign_step N p at x) e) ∙ h) in
      let (v, is, r') = value_back p at q ts all (minus_value N g.over x.number) k r in (
        r'.more,
        r'.lines,
        record { over = g.over; later = g.later; x = x; v = v; behind = ts; first = g.first; are = refl; number = number_kind x.kind n; writes = is; rest = later_is p v g.over g.later ts r'.more g.first r'.rest },
      )

  step_back : (p : Progress) (x : Token) (q : Progress) (ts : List Token) (all : List Line) → Good N T p → step N T p x ≡ Ok q → Rest N T q ts all → Back p x ts all p.phase
  step_back p x q ts all g h r = go p.phase g h
    where
      between : (b : Bool) → is_word (line_word true) x && opens N T true ≡ b → cond b (Ok (line_opened p true)) (cond (is_end_kind x.kind) (Ok (in_phase p Done)) (Err x.at)) ≡ Ok q → Back p x ts all Between
      between true e h =
          let r' = same_rest (line_opened p true) q ts all (ok_is h) r in
          (r'.more, r'.lines, between_rest x ts r'.more (word_is (line_word true) x (and_left _ _ e)) r'.rest)
      between false e h =
          let (n, k) = cond_ok (is_end_kind x.kind) (Ok (in_phase p Done)) x.at h in
          let r' = same_rest (in_phase p Done) q ts all (ok_is k) r in
          (r'.more, r'.lines, ended r'.more r'.rest.0 r'.rest.1 (end_kind x.kind n))
        where
          ended : (more : List Line) → ts ≡ [] → more ≡ [] → IsEnd x → WritesFires N T (x ∷ ts) more
          ended more a b n = subst (λ l. WritesFires N T (x ∷ l) more) (sym a) (subst (λ l. WritesFires N T (x ∷ []) l) (sym b) (w.ended x n))

      go : (phase : Phase) → GoodIn N T p phase → step_in N T p x phase ≡ Ok q → Back p x ts all phase
      go Opening g h =
          let (e, k) = cond_ok (is_word (line_word false) x && opens N T false) (Ok (line_opened p false)) x.at h in
          let r' = same_rest (line_opened p false) q ts all (ok_is k) r in
          (r'.more, r'.lines, opening_rest x ts r'.more (word_is (line_word false) x (and_left _ _ e)) r'.rest)
      go Naming g h =
          let (s, k) = cond_ok (is_quoted_kind x.kind) (title_step N T p x (first_of (titles T p.firing) x.text)) x.at h in
          title_back p x q ts all (first_of (titles T p.firing) x.text) g.0 (quoted_kind x.kind s) refl k r
      go Giving g h = give_back p x q ts all (next_param T p) refl h r
      go (Signed at) g h = sign_back p at x q ts all g h r
      go Between g h = between (is_word (line_word true) x && opens N T true) refl h
      go Done g h = absurd cc

  -- at the end of a text nothing is left
  done_rest : (p : Progress) → is_done p.phase ≡ true → Rest N T p [] p.lines
  done_rest p h = record { more = []; lines = sym (append-nil p.lines); rest = go p.phase h }
    where
      go : (phase : Phase) → is_done phase ≡ true → RestIn N T p [] [] phase
      go Done h = (refl, refl)
      go Opening h = absurd cc
      go Naming h = absurd cc
      go Giving h = absurd cc
      go (Signed at) h = absurd cc
      go Between h = absurd cc

  pub steps_rest : (p : Progress) (ts : List Token) (q : Progress) → Good N T p → steps N T p ts ≡ Ok q → is_done q.phase ≡ true → Rest N T p ts q.lines
  steps_rest p [] q g h d = same_rest p q [] q.lines (ok_is h) (done_rest q d)
  steps_rest p (x ∷ ts) q g h d = go (step N T p x) refl h (λ r w k. steps_rest r ts q w k d)
    where
      by : (r : Progress) → step N T p x ≡ Ok r → Rest N T r ts q.lines → Rest N T p (x ∷ ts) q.lines
      by r e rest = let b = step_back p x r ts q.lines g e rest in record { more = b.0; lines = b.1; rest = b.2 }

      go : (r : Result Progress Span) → step N T p x ≡ r → go_on r (λ q. steps N T q ts) ≡ Ok q → ((r : Progress) → Good N T r → steps N T r ts ≡ Ok q → Rest N T r ts q.lines) → Rest N T p (x ∷ ts) q.lines
      go (Ok r) e h more = by r e (more r (step_good N T p x r g e) h)
      go (Err at) e h more = absurd cc

  -- what is read from the front of a script is the script
  pub read_writes : (ts : List Token) (q : Progress) → steps N T fresh ts ≡ Ok q → is_done q.phase ≡ true → WritesScript N T ts q.lines
  read_writes ts q h d = let r = steps_rest fresh ts q refl h d in subst (λ l. WritesScript N T ts l) (sym r.lines) r.rest
