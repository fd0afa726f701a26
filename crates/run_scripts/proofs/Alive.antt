-- What was read can be carried on: some tokens behind it make a script of it.
use Rattle.std.specs.Prelude.{codes, ◌&&◌, ◌||◌, slice_get}
use Rattle.std.proofs.Common.{◌≡◌, ℕ, suc, Bool, true, false, List, [], ◌∷◌, ◌++◌, drop, length, Option, Some, None, Ok, refl, sym, ap, ◌∙◌, subst}
use Rattle.std.proofs.lemmas.Bool.{eqb-true}
use Rattle.term_core.specs.declared.value.Value.{Value}
use Rattle.murphi_ast.specs.declared.token.Token.{Token}
use Rattle.murphi_ast.specs.declared.token.Span.{Span}
use Rattle.murphi_typed.specs.declared.types.Simple.{Simple}
use Rattle.murphi_typed.specs.declared.protocol.Typed.{Typed}
use Rattle.run_scripts.specs.declared.refusal.Line.{Line}
use Rattle.run_scripts.specs.declared.phase.Phase.{Phase}
use Rattle.run_scripts.specs.declared.phase.Phase.TheVariants.{Opening, Naming, Giving, Signed, Between, Done}
use Rattle.run_scripts.specs.declared.phase.Progress.{Progress}
use Rattle.run_scripts.specs.Usable.{are_writable}
use Rattle.run_scripts.specs.Scripts.{first_of, params, titles}
use Rattle.run_scripts.specs.Scripts as w
use Rattle.run_scripts.specs.Reading.{is_done, is_number_of, opens, opens_from, sign_step, steps, value_step}
use Rattle.run_scripts.proofs.SymbolFacts.{and_left, and_right, drop_head, drop_more}
use Rattle.run_scripts.proofs.Usables.{all_have, end_token, number_token, quoted_token, sign_token, takes_has}
use Rattle.run_scripts.proofs.Going.{between, fires_go, giving, naming, rest_goes, signed, steps_on, title_goes}
use Rattle.run_scripts.proofs.Rests.{Good, GoodIn, GoodSigned, left}

-- where a line can be opened there is a title that is found, with values that can be written
pub record HasTitle (N : ℕ) (T : Typed) (firing : Bool) : Type 0 where
  pub title : List ℕ
  pub which : ℕ
  pub found : first_of (titles T firing) title ≡ Some which
  pub can : are_writable N T.kinds (params T firing which) ≡ true

module _ (N : ℕ) (T : Typed) where
  title_of : (f : Bool) (from : ℕ) (names : List (List ℕ)) → opens_from N T f from names ≡ true → HasTitle N T f
  title_of f from [] h = absurd cc
  title_of f from (name ∷ names) h = go (is_number_of (first_of (titles T f) name) from && are_writable N T.kinds (params T f from)) refl h (λ k. title_of f (suc from) names k)
    where
      number : (o : Option ℕ) → is_number_of o from ≡ true → o ≡ Some from
      number None h = absurd cc
      number (Some k) h = ap Some (sym (eqb-true from k h))

      go : (b : Bool) → is_number_of (first_of (titles T f) name) from && are_writable N T.kinds (params T f from) ≡ b → b || opens_from N T f (suc from) names ≡ true → (opens_from N T f (suc from) names ≡ true → HasTitle N T f) → HasTitle N T f
      go true e h more = record { title = name; which = from; found = number (first_of (titles T f) name) (and_left _ _ e); can = and_right (is_number_of (first_of (titles T f) name) from) _ e }
      go false e h more = more h

  -- tokens that lead to the end
  pub record Leads (p : Progress) : Type 0 where
    pub tokens : List Token
    pub end : Progress
    pub goes : steps N T p tokens ≡ Ok end
    pub done : is_done end.phase ≡ true

  between_leads : (f : Bool) (k : ℕ) (ls : List Line) → Leads (between f k ls)
  between_leads f k ls =
      let r = fires_go N T f k ls (w.ended end_token refl) in
      record { tokens = end_token ∷ []; end = r.0; goes = r.1; done = r.2 }

  giving_leads : (f : Bool) (k : ℕ) (g : List Value) (ls : List Line) (overs : List Simple) → drop (length g) (params T f k) ≡ overs → are_writable N T.kinds overs ≡ true → Leads (giving f k g ls)
  giving_leads f k g ls overs e can =
      let a = all_have N T.kinds overs can in
      let b = between_leads f k (ls ++ record { which = k; values = g ++ a.values } ∷ []) in
      record { tokens = a.tokens ++ sign_token (codes ";") ∷ b.tokens; end = b.end; goes = rest_goes N T f k g ls (sign_token (codes ";")) b.tokens a.writes e (refl, refl) ∙ b.goes; done = b.done }

  signed_leads : (at : Span) (f : Bool) (k : ℕ) (g : List Value) (ls : List Line) → GoodSigned N T (signed at f k g ls) → Leads (signed at f k g ls)
  signed_leads at f k g ls good =
      let m = takes_has N good.over good.minus in
      let x = number_token m.number in
      let e : slice_get (params T f k) (length g) ≡ Some good.over = drop_head (length g) (params T f k) good.over good.later good.first in
      let b = giving_leads f k (g ++ m.value ∷ []) ls good.later (drop_more g m.value (params T f k) good.over good.later good.first) good.can in
      record {
        tokens = x ∷ b.tokens;
        end = b.end;
        goes =
            steps_on N T (signed at f k g ls) (giving f k (g ++ m.value ∷ []) ls) x b.tokens (ap (sign_step N (signed at f k g ls) at x) e ∙ ap (value_step (signed at f k g ls) at) m.is)
            ∙ b.goes;
        done = b.done;
      }

  naming_leads : (f : Bool) (k : ℕ) (ls : List Line) → opens N T f ≡ true → Leads (naming f k ls)
  naming_leads f k ls h =
      let t = title_of f 0 (titles T f) h in
      let a = all_have N T.kinds (params T f t.which) t.can in
      let b = between_leads f t.which (ls ++ record { which = t.which; values = a.values } ∷ []) in
      record { tokens = quoted_token t.title ∷ (a.tokens ++ sign_token (codes ";") ∷ b.tokens); end = b.end; goes = title_goes N T f k ls (quoted_token t.title) (sign_token (codes ";")) b.tokens refl t.found a.writes (refl, refl) ∙ b.goes; done = b.done }

  is_in : (p : Progress) (phase : Phase) → p.phase ≡ phase → p ≡ record { phase = phase; firing = p.firing; which = p.which; given = p.given; lines = p.lines }
  is_in p phase h = ap (λ a. record { phase = a; firing = p.firing; which = p.which; given = p.given; lines = p.lines }) h

  is_bare : (p : Progress) (phase : Phase) → p.phase ≡ phase → p.given ≡ [] → p ≡ record { phase = phase; firing = p.firing; which = p.which; given = []; lines = p.lines }
  is_bare p phase h g = is_in p phase h ∙ ap (λ l. record { phase = phase; firing = p.firing; which = p.which; given = l; lines = p.lines }) g

  pub leads : (p : Progress) → Good N T p → (p.phase ≡ Opening → ⊥) → Leads p
  leads p g never = go p.phase refl g
    where
      go : (phase : Phase) → p.phase ≡ phase → GoodIn N T p phase → Leads p
      go Opening e g = absurd (never e)
      go Naming e g = subst (λ q. Leads q) (sym (is_bare p Naming e g.0)) (naming_leads p.firing p.which p.lines g.1)
      go Giving e g = subst (λ q. Leads q) (sym (is_in p Giving e)) (giving_leads p.firing p.which p.given p.lines (left T p) refl g)
      go (Signed at) e g = subst (λ q. Leads q) (sym (is_in p (Signed at) e)) (signed_leads at p.firing p.which p.given p.lines (record { over = g.over; later = g.later; first = g.first; minus = g.minus; can = g.can }))
      go Between e g = subst (λ q. Leads q) (sym (is_bare p Between e g)) (between_leads p.firing p.which p.lines)
      go Done e g = record { tokens = []; end = p; goes = refl; done = ap is_done e }
