-- What the reader answers, told in the words of the grammar as it is written.
use Rattle.std.specs.Prelude.{Option, ◌&&◌, not}
use Rattle.std.proofs.Common.{◌≡◌, ℕ, zero, suc, ◌+◌, Bool, true, false, List, [], ◌∷◌, ◌++◌, length, drop, Some, None, Ok, Err, Result, refl, sym, ap, ◌∙◌, subst, append-nil}
use Rattle.grammar_core.specs.Forms.{Form, One, Seq, Tree}
use Rattle.grammar_core.specs.Spelling as g
use Rattle.grammar_core.specs.Spelling.{Room, Limit, Any, Spells, Begins, any_more}
use Rattle.grammar_core.specs.Reading as read
use Rattle.grammar_core.specs.Reading.{Reading, Got, Reads, IsGot, IsWrong, IsDeep}
use Rattle.murphi_ast.specs.declared.token.Token.{Token}
use Rattle.murphi_ast.specs.declared.token.Span.{Span}
use Rattle.murphi_ast.specs.declared.rule.Protocol.{Protocol}
use Rattle.murphi_grammar.specs.declared.symbol.Symbol.TheVariants as t
use Rattle.murphi_grammar.specs.Symbols.{symbol_of}
use Rattle.murphi_grammar.specs.Names as n
use Rattle.murphi_grammar.specs.Names.{Name}
use Rattle.murphi_grammar.specs.Parts.{Part, form}
use Rattle.murphi_grammar.specs.Grammar.{murphi}
use Rattle.murphi_grammar.specs.Laws.{ReadsOneWay, WalksAreReadings}
use Rattle.murphi_expressions.specs.Says.{Says, Stops, place_of}
use Rattle.murphi_expressions.specs.Ends.{is_end, has_no_end, AreOfText}
use Rattle.murphi_ast.specs.Spelling.{ends_once}
use Rattle.murphi_expressions.specs.Expression.{first_refused, StopsAt, IsAnswered}
use Rattle.murphi_expressions.specs.declared.refusal.SyntaxRefusal.{SyntaxRefusal}
use Rattle.murphi_expressions.specs.declared.refusal.SyntaxRefusal.TheVariants as refusal
use Rattle.murphi_expressions.specs.declared.step.Stop.TheVariants.{Wrong, Deep, Memory}
use Rattle.murphi_expressions.proofs.NoEnd.{of_text, avoids, spelled, begun}
use Rattle.murphi_expressions.proofs.Telling.{first_of, one_stop, deep_at}
use Rattle.murphi_protocols.specs.Protocols.{TellsProtocol}

-- the end of the text is among tokens where it is among the last of them
end_right : (us vs : List Token) → has_no_end vs ≡ false → has_no_end (us ++ vs) ≡ false
end_right [] vs h = h
end_right (x ∷ us) vs h = go (not (is_end (symbol_of x))) (end_right us vs h)
  where
    go : (b : Bool) → has_no_end (us ++ vs) ≡ false → b && has_no_end (us ++ vs) ≡ false
    go true k = k
    go false k = refl

end_cut : (all us vs : List Token) → all ≡ us ++ vs → has_no_end vs ≡ false → has_no_end all ≡ false
end_cut all us vs e h = subst (λ z. has_no_end z ≡ false) (sym e) (end_right us vs h)

end_one : (x : Token) → symbol_of x ≡ t.EndOfText → has_no_end (x ∷ []) ≡ false
end_one x e = ap (λ z. not (is_end z) && true) e

-- and behind tokens that it is not among
end_behind : (us vs : List Token) → has_no_end us ≡ true → has_no_end (us ++ vs) ≡ false → has_no_end vs ≡ false
end_behind [] vs h k = k
end_behind (x ∷ us) vs h k = go (not (is_end (symbol_of x))) h k (λ p q. end_behind us vs p q)
  where
    go : (b : Bool) → b && has_no_end us ≡ true → b && has_no_end (us ++ vs) ≡ false →
        (has_no_end us ≡ true → has_no_end (us ++ vs) ≡ false → has_no_end vs ≡ false) → has_no_end vs ≡ false
    go true p q more = more p q
    go false p q more = absurd (cc)

-- what a protocol is spelled by ends with the end of the text
protocol_ends : {r : Room} {us : List Token} {x : Protocol} → Spells murphi r (form n.Protocol) us x → has_no_end us ≡ false
protocol_ends (g.call (g.seq {all = a1} {vs = v1} {ws = w1} a (g.seq {all = a2} {vs = v2} {ws = w2} b (g.seq {all = a3} {vs = v3} {ws = w3} c (g.seq {all = a4} {vs = v4} d (g.token x e) e4) e3) e2) e1) k) =
    end_cut a1 v1 w1 e1 (end_cut a2 v2 w2 e2 (end_cut a3 v3 w3 e3 (end_cut a4 v4 (x ∷ []) e4 (end_one x e))))

-- a front of a text that leaves a token has no end of the text
no_end_before : (us : List Token) (c : Token) (d front : List Token) (last : Token) → us ++ c ∷ d ≡ front ++ last ∷ [] → has_no_end front ≡ true → has_no_end us ≡ true
no_end_before [] c d front last e h = refl
no_end_before (x ∷ []) c d [] last e h = absurd (cc)
no_end_before (x ∷ y ∷ us) c d [] last e h = absurd (cc)
no_end_before (x ∷ us) c d (y ∷ front) last e h =
    let z : x ≡ y = cc in
    let k : us ++ c ∷ d ≡ front ++ last ∷ [] = cc in
    subst (λ w. not (is_end (symbol_of w)) && has_no_end us ≡ true) (sym z) (go (not (is_end (symbol_of y))) h (λ p. no_end_before us c d front last k p))
  where
    go : (b : Bool) → b && has_no_end front ≡ true → (has_no_end front ≡ true → has_no_end us ≡ true) → b && has_no_end us ≡ true
    go true p more = more p
    go false p more = absurd (cc)

all_read : (ts front rest : List Token) → AreOfText ts → ts ≡ front ++ rest → has_no_end front ≡ false → rest ≡ []
all_read ts front [] text e h = refl
all_read ts front (c ∷ d) text e h = let k : has_no_end front ≡ true = no_end_before front c d text.front text.last (sym e ∙ text.are) text.no_other in absurd (cc)

whole_text : (ts : List Token) → AreOfText ts → has_no_end ts ≡ false
whole_text ts text = end_cut ts text.front (text.last ∷ []) text.are (end_one text.last text.ends)

-- what is spelled within a room is spelled within any
widened : {r : Room} {f : Part} {us : List Token} {x : Tree murphi f} → Spells murphi r f us x → Spells murphi Any f us x
widened (g.token x e) = g.token x e
widened g.empty = g.empty
widened (g.seq p q e) = g.seq (widened p) (widened q) e
widened (g.left p) = g.left (widened p)
widened (g.right p) = g.right (widened p)
widened g.none = g.none
widened (g.more p q e) = g.more (widened p) (widened q) e
widened (g.nest x e i p) = g.nest x e any_more (widened p)
widened (g.call p e) = g.call (widened p) e

-- a sequence that is begun by tokens with the end of the text, which may not stand in its first part
past : {r : Room} {a b : Part} {us : List Token} → Begins murphi r (Seq a b) us → avoids a ≡ true → has_no_end us ≡ false →
    (vs : List Token) × (ws : List Token) × (x : Tree murphi a) × Spells murphi r a vs x × Begins murphi r b ws × (us ≡ vs ++ ws) × (has_no_end ws ≡ false)
past g.nothing h k = absurd (cc)
past (g.first p) h k = let z : _ ≡ true = begun p h in absurd (cc)
past {us = us} (g.second {vs = vs} {ws = ws} p q e) h k = (vs, ws, _, p, q, e, end_behind vs ws (spelled p h) (ap has_no_end (sym e) ∙ k))

ended : {r : Room} {us : List Token} → Begins murphi r (One t.EndOfText) us → has_no_end us ≡ false → (x : Token) × Spells murphi r (One t.EndOfText) us x
ended g.nothing k = absurd (cc)
ended (g.token x e) k = (x, g.token x e)

right_side : {r : Room} {name : Name} {us : List Token} → Begins murphi r (form name) us → has_no_end us ≡ false → Begins murphi r (murphi.rule name) us
right_side g.nothing k = absurd (cc)
right_side (g.call p) k = p

-- a protocol that is begun by tokens with the end of the text is spelled by them
begun_whole : {r : Room} {us : List Token} → Begins murphi r (form n.Protocol) us → has_no_end us ≡ false → (x : Protocol) × Spells murphi r (form n.Protocol) us x
unfolding avoids
begun_whole p k =
    let a = past (right_side p k) refl k in
    let b = past a.4 refl a.6 in
    let c = past b.4 refl b.6 in
    let d = past c.4 refl c.6 in
    let e = ended d.4 d.6 in
    (_, g.call (g.seq a.3 (g.seq b.3 (g.seq c.3 (g.seq d.3 e.1 d.5) c.5) b.5) a.5) refl)

-- what is told

pub tells_refused : (ts : List Token) (place : Span) → first_refused ts ≡ Some place → TellsProtocol ts (Err (refusal.E10 place))
tells_refused ts place h = h

got_whole : (ts rest : List Token) (x : Protocol) → AreOfText ts → IsGot murphi (Limit 100) (form n.Protocol) ts x rest → Spells murphi (Limit 100) (form n.Protocol) ts x
got_whole ts rest x text p =
    let none : rest ≡ [] = all_read ts p.front rest text p.is (protocol_ends p.spelled) in
    let all : ts ≡ p.front = p.is ∙ ap (λ z. p.front ++ z) none ∙ append-nil p.front in
    subst (λ z. Spells murphi (Limit 100) (form n.Protocol) z x) (sym all) p.spelled

pub tells_got : (ts : List Token) (x : Protocol) (next : ℕ) → ends_once ts ≡ true → WalksAreReadings → first_refused ts ≡ None → Says n.Protocol 100 ts 0 (Ok (x, next)) → TellsProtocol ts (Ok x)
unfolding Says Reads
tells_got ts x next text law h p = (h, got_whole ts (drop next ts) x (of_text ts text) (law _ _ _ _ p))

wrong_leaves : (ts rest : List Token) → AreOfText ts → IsWrong murphi (Limit 100) (form n.Protocol) ts rest → rest ≡ [] → ⊥
wrong_leaves ts rest text p q =
    let all : ts ≡ p.front = p.is ∙ ap (λ z. p.front ++ z) q ∙ append-nil p.front in
    let w = begun_whole p.begun (ap has_no_end (sym all) ∙ whole_text ts text) in
    p.unspelled w.0 (widened w.1)

wrong_at : (ts rest : List Token) → AreOfText ts → IsWrong murphi (Limit 100) (form n.Protocol) ts rest → StopsAt read.Wrong n.Protocol ts (place_of rest)
unfolding Reads
wrong_at ts rest text p =
    let w = first_of rest (wrong_leaves ts rest text p) in
    (w.0, w.1, subst (λ z. IsWrong murphi (Limit 100) (form n.Protocol) ts z) w.2 p, w.3)

pub tells_wrong : (ts : List Token) (j : ℕ) → ends_once ts ≡ true → WalksAreReadings → first_refused ts ≡ None → Says n.Protocol 100 ts 0 (Err (Wrong j)) → TellsProtocol ts (Err (refusal.E04 (place_of (drop j ts))))
unfolding Says Stops Reads
tells_wrong ts j text law h p = (h, wrong_at ts (drop j ts) (of_text ts text) (law _ _ _ _ p))

pub tells_deep : (ts : List Token) (j : ℕ) → WalksAreReadings → first_refused ts ≡ None → Says n.Protocol 100 ts 0 (Err (Deep j)) → TellsProtocol ts (Err (refusal.E15 (place_of (drop j ts))))
unfolding Says Stops Reads
tells_deep ts j law h p = (h, deep_at n.Protocol ts 0 j (law _ _ _ _ p))

-- a whole text that is spelled is read
reads_whole : (ts : List Token) (x : Protocol) → Spells murphi (Limit 100) (form n.Protocol) ts x → Reads murphi (Limit 100) (form n.Protocol) ts (Got x [])
unfolding Reads
reads_whole ts x p = record { front = ts; is = sym (append-nil ts); spelled = p; ends = λ c d e z. absurd (cc) }

pub answers_once : (ts : List Token) (r a : Result Protocol SyntaxRefusal) → ReadsOneWay → TellsProtocol ts r → TellsProtocol ts a → IsAnswered r a
answers_once ts (Ok x) (Ok y) law (h, p) (g, q) =
    let k : Got x [] ≡ Got y [] = law _ _ _ _ _ (reads_whole ts x p) (reads_whole ts y q) in
    let z : x ≡ y = cc in
    ap Ok z
answers_once ts (Ok x) (Err (refusal.E04 q)) law (h, p) (g, (y, b, s, e)) =
    let k : Got x [] ≡ read.Stop read.Wrong (y ∷ b) = law _ _ _ _ _ (reads_whole ts x p) s in absurd (cc)
answers_once ts (Ok x) (Err (refusal.E15 q)) law (h, p) (g, (y, b, s, e)) =
    let k : Got x [] ≡ read.Stop read.Deep (y ∷ b) = law _ _ _ _ _ (reads_whole ts x p) s in absurd (cc)
answers_once ts (Ok x) (Err (refusal.E10 q)) law (h, p) g = absurd (cc)
answers_once ts (Err (refusal.E04 q)) (Ok x) law (g, (y, b, s, e)) (h, p) =
    let k : Got x [] ≡ read.Stop read.Wrong (y ∷ b) = law _ _ _ _ _ (reads_whole ts x p) s in absurd (cc)
answers_once ts (Err (refusal.E15 q)) (Ok x) law (g, (y, b, s, e)) (h, p) =
    let k : Got x [] ≡ read.Stop read.Deep (y ∷ b) = law _ _ _ _ _ (reads_whole ts x p) s in absurd (cc)
answers_once ts (Err (refusal.E10 q)) (Ok x) law g (h, p) = absurd (cc)
answers_once ts (Err (refusal.E04 p)) (Err (refusal.E04 q)) law (h, s) (g, r) = ap (λ z. Err (refusal.E04 z)) (one_stop n.Protocol ts read.Wrong read.Wrong p q law s r).1
answers_once ts (Err (refusal.E04 p)) (Err (refusal.E15 q)) law (h, s) (g, r) = let k : read.Wrong ≡ read.Deep = (one_stop n.Protocol ts read.Wrong read.Deep p q law s r).0 in absurd (cc)
answers_once ts (Err (refusal.E15 p)) (Err (refusal.E04 q)) law (h, s) (g, r) = let k : read.Deep ≡ read.Wrong = (one_stop n.Protocol ts read.Deep read.Wrong p q law s r).0 in absurd (cc)
answers_once ts (Err (refusal.E15 p)) (Err (refusal.E15 q)) law (h, s) (g, r) = ap (λ z. Err (refusal.E15 z)) (one_stop n.Protocol ts read.Deep read.Deep p q law s r).1
answers_once ts (Err (refusal.E10 p)) (Err (refusal.E10 q)) law h g = let k : p ≡ q = cc in ap (λ z. Err (refusal.E10 z)) k
answers_once ts (Err (refusal.E10 p)) (Err (refusal.E04 q)) law h (g, r) = absurd (cc)
answers_once ts (Err (refusal.E10 p)) (Err (refusal.E15 q)) law h (g, r) = absurd (cc)
answers_once ts (Err (refusal.E04 p)) (Err (refusal.E10 q)) law (h, r) g = absurd (cc)
answers_once ts (Err (refusal.E15 p)) (Err (refusal.E10 q)) law (h, r) g = absurd (cc)
answers_once ts (Err refusal.Memory) (Ok a) law h g = tt
answers_once ts (Err refusal.Memory) (Err (refusal.E04 q)) law h g = tt
answers_once ts (Err refusal.Memory) (Err (refusal.E10 q)) law h g = tt
answers_once ts (Err refusal.Memory) (Err (refusal.E15 q)) law h g = tt
answers_once ts (Ok x) (Err refusal.Memory) law h g = tt
answers_once ts (Err e) (Err refusal.Memory) law h g = tt

pub ruleset telling = (tells_refused, tells_got, tells_wrong, tells_deep, answers_once)
