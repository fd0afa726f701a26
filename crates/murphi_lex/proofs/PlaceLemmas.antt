-- Each token and each fault of a text has one of its places.
use Rattle.std.proofs.Common.{◌≡◌, ℕ, zero, suc, List, [], ◌∷◌, ◌++◌, Option, None, Some, refl, ap, sym, ◌∙◌, append_assoc, subst}
use Rattle.std.specs.Prelude.{slice_get}
use Rattle.murphi_ast.specs.Bytes.{after, past, start}
use Rattle.murphi_ast.specs.Spelling.{end_token, Reads, at_end, over_gap, over_token, at_bad_byte, at_no_token}
use Rattle.murphi_ast.specs.declared.token.Span.{Span}
use Rattle.murphi_ast.specs.declared.token.Token.{Token}
use Rattle.murphi_ast.specs.declared.token.Fault.{Fault}
use Rattle.murphi_ast.specs.declared.token.Fault.TheVariants.{E02, E03}
use Rattle.murphi_lex.specs.Places.{IsBehind, IsPlace, fault_place, StandsAt}

past-append : (a b : List ℕ) (at : Span) → past (a ++ b) at ≡ past b (past a at)
past-append [] b at = refl
past-append (x ∷ a) b at = past-append a b (after x at)

-- a place behind more bytes in front
further : (at : Span) (bytes front rest : List ℕ) (place : Span) → bytes ≡ front ++ rest → IsBehind (past front at) rest place → IsBehind at bytes place
further at bytes front rest place e p = record {
  front = front ++ p.front;
  back = p.back;
  split = e ∙ ap (λ z. front ++ z) p.split ∙ sym (append_assoc front p.front p.back);
  is = p.is ∙ sym (past-append front p.front at);
}

-- the first place
here : (at : Span) (bytes : List ℕ) (place : Span) → place ≡ at → IsBehind at bytes place
here at bytes place e = record { front = []; back = bytes; split = refl; is = e }

tokens_stand : (at : Span) (bytes : List ℕ) (tokens : List Token) (fault : Option Fault) → Reads at bytes tokens fault →
    (k : ℕ) (t : Token) → slice_get tokens k ≡ Some t → IsBehind at bytes t.at
tokens_stand at bytes tokens fault (at_end _ _ e) zero t q =
    let same : Some (end_token at) ≡ Some t = sym (ap (λ ts. slice_get ts 0) e) ∙ q in
    let is : t ≡ end_token at = cc in here at bytes t.at (ap (λ (z : Token). z.at) is)
tokens_stand at bytes tokens fault (at_end _ _ e) (suc k) t q =
    let nothing : None ≡ Some t = sym (ap (λ ts. slice_get ts (suc k)) e) ∙ q in cc
tokens_stand at bytes tokens fault (over_gap _ _ gap rest _ _ e g more) k t q =
    further at bytes gap rest t.at e (tokens_stand (past gap at) rest tokens fault more k t q)
tokens_stand at bytes (token ∷ tokens) fault (over_token _ _ spelled rest l _ _ _ e longest small is more) zero t q =
    let same : t ≡ token = cc in here at bytes t.at (ap (λ (z : Token). z.at) (same ∙ is))
tokens_stand at bytes (token ∷ tokens) fault (over_token _ _ spelled rest l _ _ _ e longest small is more) (suc k) t q =
    further at bytes spelled rest t.at e (tokens_stand (past spelled at) rest tokens fault more k t q)
tokens_stand at bytes tokens fault (at_bad_byte _ first rest _ bad is) k t q = let nothing : None ≡ Some t = q in cc
tokens_stand at bytes tokens fault (at_no_token _ _ _ lacks is) k t q = let nothing : None ≡ Some t = q in cc

fault_stands : (at : Span) (bytes : List ℕ) (tokens : List Token) (fault : Option Fault) → Reads at bytes tokens fault →
    (f : Fault) → fault ≡ Some f → IsBehind at bytes (fault_place f)
fault_stands at bytes tokens fault (at_end _ _ e) f q = cc
fault_stands at bytes tokens fault (over_gap _ _ gap rest _ _ e g more) f q =
    further at bytes gap rest (fault_place f) e (fault_stands (past gap at) rest tokens fault more f q)
fault_stands at bytes (token ∷ tokens) fault (over_token _ _ spelled rest l _ _ _ e longest small is more) f q =
    further at bytes spelled rest (fault_place f) e (fault_stands (past spelled at) rest tokens fault more f q)
fault_stands at bytes tokens fault (at_bad_byte _ first rest _ bad is) f q =
    let same : Some f ≡ Some (E02 at) = sym q ∙ is in let f_is : f ≡ E02 at = cc in here at bytes (fault_place f) (ap fault_place f_is)
fault_stands at bytes tokens fault (at_no_token _ _ _ lacks is) f q =
    let same : Some f ≡ Some (E03 at) = sym q ∙ is in let f_is : f ≡ E03 at = cc in here at bytes (fault_place f) (ap fault_place f_is)

pub tokens_have_places : (bytes : List ℕ) (tokens : List Token) (fault : Option Fault) (at : Span) → Reads start bytes tokens fault →
    StandsAt tokens at → IsPlace bytes at
tokens_have_places bytes tokens fault at reads stands =
    subst (λ z. IsPlace bytes z) (sym stands.is) (tokens_stand start bytes tokens fault reads stands.number stands.token stands.there)

pub faults_have_places : (bytes : List ℕ) (tokens : List Token) (fault : Fault) → Reads start bytes tokens (Some fault) → IsPlace bytes (fault_place fault)
faults_have_places bytes tokens fault reads = fault_stands start bytes tokens (Some fault) reads fault refl
