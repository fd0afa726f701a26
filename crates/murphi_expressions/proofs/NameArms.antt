-- One lemma for each way through the reader of lists of names.
use Rattle.std.specs.Prelude.{map}
use Rattle.std.proofs.Common.{◌≡◌, ℕ, ◌+◌, true, false, List, [], ◌∷◌, ◌++◌, Ok, Err, refl, ap, ◌∙◌}
use Rattle.grammar_core.specs.Walk as u
use Rattle.grammar_core.specs.Walk.{Run}
use Rattle.murphi_ast.specs.declared.token.Token.{Token}
use Rattle.murphi_ast.specs.declared.expr.Named.{Named}
use Rattle.murphi_grammar.specs.declared.symbol.Symbol.TheVariants as t
use Rattle.murphi_grammar.specs.Names as n
use Rattle.murphi_grammar.specs.Parts.{◌▸◌, one, form}
use Rattle.murphi_grammar.specs.Pieces.{piece_build}
use Rattle.murphi_grammar.specs.Values.{named, seconds}
use Rattle.murphi_expressions.specs.Says.{Says, Gives, Takes, SoFar, can_begin, itself}
use Rattle.murphi_expressions.specs.Parts.{NamesSoFar}
use Rattle.murphi_expressions.specs.declared.step.Stop.{Stop}
use Rattle.murphi_expressions.proofs.Heads.{token_here}
use Rattle.murphi_expressions.proofs.Steps.{full, takes_no_memory}
use Rattle.murphi_expressions.proofs.Ways.{read_more, read_all, read_stops, said, stops_as}

pub names_first_stops : (ts : List Token) (at : ℕ) (s : Stop) → Takes (one t.Name) named ts at (Err s) →
    Takes (form n.NameList) itself ts at (Err s)
unfolding Takes
names_first_stops ts at s p = λ k. stops_as ts at at s (λ why rest q. u.call_stop (u.seq_first q)) (p k)

pub names_first : (ts : List Token) (at : ℕ) (x : Named) (next : ℕ) → Takes (one t.Name) named ts at (Ok (x, next)) →
    NamesSoFar ts at next (x ∷ [])
unfolding NamesSoFar SoFar Takes Gives
names_first ts at x next (w, e, p) k (Ok (xs, end)) (parts, d, q) =
    (_, ap (λ z. z ∷ xs) e ∙ ap (λ z. named w ∷ z) d, u.call refl (u.seq (p k) (u.call refl q)))
names_first ts at x next (w, e, p) k (Err s) q =
    stops_as ts next at s (λ why rest z. u.call_stop (u.seq_second (p k) (u.call_stop z))) q

pub names_more : (ts : List Token) (from at : ℕ) (front : List Named) (x : Named) (next : ℕ) → NamesSoFar ts from at front →
    can_begin (one t.Comma) ts at ≡ true → Takes (one t.Name) named ts (at + 1) (Ok (x, next)) →
    NamesSoFar ts from next (front ++ x ∷ [])
unfolding NamesSoFar Takes
names_more ts from at front x next so h (name, e, p) k =
    let w = token_here t.Comma ts at h in
    read_more (one t.Comma ▸ one t.Name) (piece_build n.MoreNames) (form n.NameList) itself k ts from at next front (x ∷ []) (w.0, name) (so k)
    (λ xs. ap (λ z. z ∷ map named (seconds xs)) e) (u.seq (u.token w.1 w.2) (p k))

pub names_done : (ts : List Token) (from at : ℕ) (front : List Named) → NamesSoFar ts from at front →
    can_begin (one t.Comma) ts at ≡ false → Takes (form n.NameList) itself ts from (Ok (front, at))
unfolding NamesSoFar Takes Says can_begin
names_done ts from at front so h =
    (front, refl, λ k. said n.NameList k ts from (Ok (front, at)) (read_all (one t.Comma ▸ one t.Name) (piece_build n.MoreNames) (form n.NameList) itself k ts from at front (so k) refl h))

pub names_stop : (ts : List Token) (from at : ℕ) (front : List Named) (s : Stop) → NamesSoFar ts from at front →
    can_begin (one t.Comma) ts at ≡ true → Takes (one t.Name) named ts (at + 1) (Err s) →
    Takes (form n.NameList) itself ts from (Err s)
unfolding NamesSoFar Takes Says Gives can_begin
names_stop ts from at front s so h p = λ k.
    let w = token_here t.Comma ts at h in
    read_stops (one t.Comma ▸ one t.Name) (one t.Name) (piece_build n.MoreNames) (form n.NameList) itself k k ts from at (at + 1) front s (so k) h
    (λ why rest q. u.seq_second (u.token w.1 w.2) q) (p k)

pub ruleset names_arms = (names_first_stops, names_first, names_more, names_done, names_stop, takes_no_memory)
