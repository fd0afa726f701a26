-- What is read is written: by how far reading came, what the tokens that are left write.
use Rattle.std.specs.Prelude.{codes, ◌&&◌}
use Rattle.std.proofs.Common.{◌≡◌, ℕ, suc, Bool, true, false, cond, List, [], ◌∷◌, ◌++◌, drop, length, Option, Some, None, Result, Ok, Err, refl, sym, ap, ◌∙◌, subst}
use Rattle.term_core.specs.declared.value.Value.{Value}
use Rattle.murphi_ast.specs.declared.token.Token.{Token}
use Rattle.murphi_ast.specs.declared.token.Span.{Span}
use Rattle.murphi_typed.specs.declared.types.Simple.{Simple}
use Rattle.murphi_typed.specs.declared.protocol.Typed.{Typed}
use Rattle.run_scripts.specs.declared.refusal.Line.{Line}
use Rattle.run_scripts.specs.declared.phase.Phase.{Phase}
use Rattle.run_scripts.specs.declared.phase.Phase.TheVariants.{Opening, Naming, Giving, Signed, Between, Done}
use Rattle.run_scripts.specs.declared.phase.Progress.{Progress}
use Rattle.run_scripts.specs.Values.{is_end_kind, is_number_kind, is_quoted_kind, is_sign, is_word, minus_value, one_value}
use Rattle.run_scripts.specs.Usable.{are_writable, takes_minus}
use Rattle.run_scripts.specs.Scripts.{IsNumber, IsSign, IsString, WritesFires, WritesScript, WritesValues, first_of, line_word, params, titles}
use Rattle.run_scripts.specs.Reading.{give_step, in_phase, line_ended, line_opened, next_param, opens, sign_step, step, step_in, title_step, titled, value_step}
use Rattle.run_scripts.proofs.SymbolFacts.{and_right, drop_head, drop_more, ok_is, some_drop}

-- a title, values, the end of the line, and then lines that fire
pub record TitleRest (N : ℕ) (T : Typed) (firing : Bool) (ts : List Token) (more : List Line) : Type 0 where
  pub y : Token
  pub z : Token
  pub values : List Token
  pub back : List Token
  pub which : ℕ
  pub vs : List Value
  pub ls : List Line
  pub are : ts ≡ y ∷ (values ++ z ∷ back)
  pub lines : more ≡ record { which = which; values = vs } ∷ ls
  pub string : IsString y
  pub found : first_of (titles T firing) y.text ≡ Some which
  pub writes : WritesValues N T.kinds (params T firing which) values vs
  pub closes : IsSign (codes ";") z
  pub fires : WritesFires N T back ls

-- values of these types, the end of the line, and then lines that fire
pub record ValuesRest (N : ℕ) (T : Typed) (overs : List Simple) (which : ℕ) (given : List Value) (ts : List Token) (more : List Line) : Type 0 where
  pub z : Token
  pub values : List Token
  pub back : List Token
  pub vs : List Value
  pub ls : List Line
  pub are : ts ≡ values ++ z ∷ back
  pub lines : more ≡ record { which = which; values = given ++ vs } ∷ ls
  pub writes : WritesValues N T.kinds overs values vs
  pub closes : IsSign (codes ";") z
  pub fires : WritesFires N T back ls

-- the number behind a `-`, and what a line holds behind it
pub record SignedRest (N : ℕ) (T : Typed) (overs : List Simple) (which : ℕ) (given : List Value) (ts : List Token) (more : List Line) : Type 0 where
  pub over : Simple
  pub later : List Simple
  pub x : Token
  pub v : Value
  pub behind : List Token
  pub first : overs ≡ over ∷ later
  pub are : ts ≡ x ∷ behind
  pub number : IsNumber x
  pub writes : minus_value N over x.number ≡ Some v
  pub rest : ValuesRest N T later which (given ++ v ∷ []) behind more

abbrev pub left : Typed → Progress → List Simple
left T p = drop (length p.given) (params T p.firing p.which)

abbrev pub RestIn : ℕ → Typed → Progress → List Token → List Line → Phase → Type 0
RestIn N T p ts more Opening = WritesScript N T ts more
RestIn N T p ts more Naming = TitleRest N T p.firing ts more
RestIn N T p ts more Giving = ValuesRest N T (left T p) p.which p.given ts more
RestIn N T p ts more (Signed at) = SignedRest N T (left T p) p.which p.given ts more
RestIn N T p ts more Between = WritesFires N T ts more
RestIn N T p ts more Done = (ts ≡ []) × (more ≡ [])

-- the lines that are still written
pub record Rest (N : ℕ) (T : Typed) (p : Progress) (ts : List Token) (all : List Line) : Type 0 where
  pub more : List Line
  pub lines : all ≡ p.lines ++ more
  pub rest : RestIn N T p ts more p.phase

-- what is kept while reading: a line begins with no values, and what was taken can be carried on
pub record GoodSigned (N : ℕ) (T : Typed) (p : Progress) : Type 0 where
  pub over : Simple
  pub later : List Simple
  pub first : left T p ≡ over ∷ later
  pub minus : takes_minus over ≡ true
  pub can : are_writable N T.kinds later ≡ true

abbrev pub GoodIn : ℕ → Typed → Progress → Phase → Type 0
GoodIn N T p Opening = p.given ≡ []
GoodIn N T p Naming = (p.given ≡ []) × (opens N T p.firing ≡ true)
GoodIn N T p Giving = are_writable N T.kinds (left T p) ≡ true
GoodIn N T p (Signed at) = GoodSigned N T p
GoodIn N T p Between = p.given ≡ []
GoodIn N T p Done = Unit {0}

abbrev pub Good : ℕ → Typed → Progress → Type 0
Good N T p = GoodIn N T p p.phase

-- the two ways of a test
pub cond_ok : {X Y : Type 0} {x : X} (b : Bool) (r : Result X Y) (y : Y) → cond b r (Err y) ≡ Ok x → (b ≡ true) × (r ≡ Ok x)
cond_ok true r y h = (refl, h)
cond_ok false r y h = absurd cc

module _ (N : ℕ) (T : Typed) where
  -- a step shows what it led to, and what holds then

  title_good : (p : Progress) (x : Token) (q : Progress) (o : Option ℕ) → p.given ≡ [] → title_step N T p x o ≡ Ok q → Good N T q
  title_good p x q None g h = absurd cc
  title_good p x q (Some k) g h =
      let (u, e) = cond_ok (are_writable N T.kinds (params T p.firing k)) (Ok (titled p k)) x.at h in
      subst (λ q. Good N T q) (ok_is e) (subst (λ l. are_writable N T.kinds (drop (length l) (params T p.firing k)) ≡ true) (sym g) u)

  value_good : (p : Progress) (at : Span) (q : Progress) (over : Simple) (overs : List Simple) (o : Option Value) → left T p ≡ over ∷ overs → are_writable N T.kinds overs ≡ true → value_step p at o ≡ Ok q → Good N T q
  value_good p at q over overs None e u h = absurd cc
  value_good p at q over overs (Some v) e u h =
      subst (λ q. Good N T q) (ok_is h) (subst (λ l. are_writable N T.kinds l ≡ true) (sym (drop_more p.given v (params T p.firing p.which) over overs e)) u)

  give_good : (p : Progress) (x : Token) (q : Progress) (o : Option Simple) → next_param T p ≡ o → are_writable N T.kinds (left T p) ≡ true → give_step N T p x o ≡ Ok q → Good N T q
  give_good p x q None e u h =
      let (s, k) = cond_ok (is_sign (codes ";") x) (Ok (line_ended p)) x.at h in
      subst (λ q. Good N T q) (ok_is k) refl
  give_good p x q (Some over) e u h = go (is_sign (codes "-") x) h
    where
      later : List Simple
      later = drop (suc (length p.given)) (params T p.firing p.which)

      go : (b : Bool) → cond b (cond (takes_minus over) (Ok (in_phase p (Signed x.at))) (Err x.at)) (value_step p x.at (one_value N T.kinds over x)) ≡ Ok q → Good N T q
      go true h =
          let (m, k) = cond_ok (takes_minus over) (Ok (in_phase p (Signed x.at))) x.at h in
          let first = some_drop (length p.given) (params T p.firing p.which) over e in
          subst (λ q. Good N T q) (ok_is k)
          (record { over = over; later = drop (suc (length p.given)) (params T p.firing p.which); first = first; minus = m; can = and_right _ _ (subst (λ l. are_writable N T.kinds l ≡ true) first u) })
      go false h =
          let first = some_drop (length p.given) (params T p.firing p.which) over e in
          value_good p x.at q over (drop (suc (length p.given)) (params T p.firing p.which)) (one_value N T.kinds over x) first (and_right _ _ (subst (λ l. are_writable N T.kinds l ≡ true) first u)) h

  sign_good : (p : Progress) (at : Span) (x : Token) (q : Progress) → GoodSigned N T p → sign_step N p at x (next_param T p) ≡ Ok q → Good N T q
  sign_good p at x q g h =
      let e : next_param T p ≡ Some g.over = drop_head (length p.given) (params T p.firing p.which) g.over g.later g.first in
      let (n, k) = cond_ok (is_number_kind x.kind) (value_step p at (minus_value N g.over x.number)) x.at (sym (ap (sign_step N p at x) e) ∙ h) in
      value_good p at q g.over g.later (minus_value N g.over x.number) g.first g.can k

  pub step_good : (p : Progress) (x : Token) (q : Progress) → Good N T p → step N T p x ≡ Ok q → Good N T q
  step_good p x q g h = go p.phase g h
    where
      between : (b : Bool) → (is_word (line_word true) x && opens N T true ≡ b) → p.given ≡ [] → cond b (Ok (line_opened p true)) (cond (is_end_kind x.kind) (Ok (in_phase p Done)) (Err x.at)) ≡ Ok q → Good N T q
      between true e g h = subst (λ q. Good N T q) (ok_is h) (g, and_right (is_word (line_word true) x) _ e)
      between false e g h = subst (λ q. Good N T q) (ok_is (cond_ok (is_end_kind x.kind) (Ok (in_phase p Done)) x.at h).1) tt

      go : (phase : Phase) → GoodIn N T p phase → step_in N T p x phase ≡ Ok q → Good N T q
      go Opening g h =
          let (e, k) = cond_ok (is_word (line_word false) x && opens N T false) (Ok (line_opened p false)) x.at h in
          subst (λ q. Good N T q) (ok_is k) (g, and_right (is_word (line_word false) x) _ e)
      go Naming g h = title_good p x q (first_of (titles T p.firing) x.text) g.0 (cond_ok (is_quoted_kind x.kind) (title_step N T p x (first_of (titles T p.firing) x.text)) x.at h).1
      go Giving g h = give_good p x q (next_param T p) refl g h
      go (Signed at) g h = sign_good p at x q g h
      go Between g h = between (is_word (line_word true) x && opens N T true) refl g h
      go Done g h = absurd cc
