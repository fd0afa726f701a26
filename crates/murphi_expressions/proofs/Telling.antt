-- What the readers answer, told in the words of the grammar as it is written.
use Rattle.std.proofs.Common.{◌≡◌, ℕ, ◌-◌, ◌<◌, ◌≤◌, true, false, List, [], ◌∷◌, ◌++◌, length, drop, Some, None, Ok, Err, Result, refl, sym, ap, ◌∙◌, subst, append-nil, length-drop, arith}
use Rattle.grammar_core.specs.Spelling.{Limit}
use Rattle.grammar_core.specs.Reading as read
use Rattle.grammar_core.specs.Reading.{Fault, Reading, Got, Reads, IsWrong, IsDeep}
use Rattle.murphi_ast.specs.declared.token.Token.{Token}
use Rattle.murphi_ast.specs.declared.token.Span.{Span}
use Rattle.murphi_ast.specs.declared.expr.Expr.{Expr}
use Rattle.murphi_grammar.specs.Names as n
use Rattle.murphi_grammar.specs.Names.{Name}
use Rattle.murphi_grammar.specs.Parts.{form}
use Rattle.murphi_grammar.specs.Grammar.{murphi}
use Rattle.murphi_grammar.specs.Laws.{ReadsOneWay, WalksAreReadings}
use Rattle.murphi_expressions.specs.Says.{Says, Stops, Goes, place_of}
use Rattle.murphi_expressions.specs.Ends.{has_no_end, AreOfText}
use Rattle.murphi_ast.specs.Spelling.{ends_once}
use Rattle.murphi_expressions.specs.Expression.{first_refused, StopsAt, TellsExpression, IsAnswered}
use Rattle.murphi_expressions.specs.declared.refusal.SyntaxRefusal.{SyntaxRefusal}
use Rattle.murphi_expressions.specs.declared.refusal.SyntaxRefusal.TheVariants as refusal
use Rattle.murphi_expressions.specs.declared.step.Stop.TheVariants.{Wrong, Deep}
use Rattle.murphi_expressions.proofs.NoEnd.{of_text, avoids, begun, ahead}

-- a list with the place of its first token
pub first_of : (rest : List Token) → (rest ≡ [] → ⊥) → (x : Token) × (behind : List Token) × (rest ≡ x ∷ behind) × (place_of rest ≡ x.at)
first_of [] h = absurd (h refl)
first_of (x ∷ behind) h = (x, behind, refl, refl)

-- within a text, what begins an expression leaves a token
left_over : (ts : List Token) (at : ℕ) (front rest : List Token) → AreOfText ts → at < length ts → drop at ts ≡ front ++ rest → has_no_end front ≡ true → rest ≡ [] → ⊥
left_over ts at front rest text h e p q =
    let whole : drop at ts ≡ front = e ∙ ap (λ z. front ++ z) q ∙ append-nil front in
    let a : has_no_end (drop at ts) ≡ false = ahead ts at text h in
    let b : has_no_end (drop at ts) ≡ true = ap has_no_end whole ∙ p in
    absurd (cc)

pub tells_refused : (ts : List Token) (at : ℕ) (place : Span) → first_refused ts ≡ Some place → TellsExpression ts at (Err (refusal.E10 place))
tells_refused ts at place h = h

pub tells_got : (ts : List Token) (at : ℕ) (x : Expr) (next : ℕ) → WalksAreReadings → first_refused ts ≡ None → Says n.Expr 100 ts at (Ok (x, next)) → Goes at ts (Ok (x, next)) → TellsExpression ts at (Ok (x, next))
unfolding Says
tells_got ts at x next law h p g = (h, g.1, law _ _ _ _ p)

wrong_at : (ts : List Token) (at j : ℕ) → AreOfText ts → at < length ts → IsWrong murphi (Limit 100) (form n.Expr) (drop at ts) (drop j ts) → StopsAt read.Wrong n.Expr (drop at ts) (place_of (drop j ts))
unfolding Reads avoids
wrong_at ts at j text h p =
    let w = first_of (drop j ts) (left_over ts at p.front (drop j ts) text h p.is (begun p.begun refl)) in
    (w.0, w.1, subst (λ z. IsWrong murphi (Limit 100) (form n.Expr) (drop at ts) z) w.2 p, w.3)

pub tells_wrong : (ts : List Token) (at j : ℕ) → ends_once ts ≡ true → at < length ts → WalksAreReadings → first_refused ts ≡ None → Says n.Expr 100 ts at (Err (Wrong j)) → TellsExpression ts at (Err (refusal.E04 (place_of (drop j ts))))
unfolding Says Stops Reads
tells_wrong ts at j text w law h p = (h, wrong_at ts at j (of_text ts text) w (law _ _ _ _ p))

pub deep_at : (name : Name) (ts : List Token) (at j : ℕ) → IsDeep murphi (Limit 100) (form name) (drop at ts) (drop j ts) → StopsAt read.Deep name (drop at ts) (place_of (drop j ts))
unfolding Reads
deep_at name ts at j p = (p.opens, p.behind, subst (λ z. IsDeep murphi (Limit 100) (form name) (drop at ts) z) p.next p, ap place_of p.next)

pub tells_deep : (ts : List Token) (at j : ℕ) → WalksAreReadings → first_refused ts ≡ None → Says n.Expr 100 ts at (Err (Deep j)) → TellsExpression ts at (Err (refusal.E15 (place_of (drop j ts))))
unfolding Says Stops Reads
tells_deep ts at j law h p = (h, deep_at n.Expr ts at j (law _ _ _ _ p))

-- one way of reading, one answer

same_index : (ts : List Token) (i j : ℕ) → i ≤ length ts → j ≤ length ts → drop i ts ≡ drop j ts → i ≡ j
same_index ts i j p q e = let k : length ts - i ≡ length ts - j = sym (length-drop i ts) ∙ ap length e ∙ length-drop j ts in omega arith

pub one_stop : (name : Name) (ts : List Token) (why other : Fault) (p q : Span) → ReadsOneWay → StopsAt why name ts p → StopsAt other name ts q → (why ≡ other) × (p ≡ q)
one_stop name ts why other p q law (x, b, r, e) (y, d, s, f) =
    let k : read.Stop why (x ∷ b) ≡ read.Stop other (y ∷ d) = law _ _ _ _ _ r s in
    let z : x ≡ y = cc in
    (cc, e ∙ ap (λ w. w.at) z ∙ sym f)

pub answers_once : (ts : List Token) (at : ℕ) (r a : Result (Expr × ℕ) SyntaxRefusal) → ReadsOneWay → TellsExpression ts at r → TellsExpression ts at a → IsAnswered r a
answers_once ts at (Ok (x, i)) (Ok (y, j)) law (h, l, p) (g, m, q) =
    let k : Got x (drop i ts) ≡ Got y (drop j ts) = law _ _ _ _ _ p q in
    let d : drop i ts ≡ drop j ts = cc in
    let z : x ≡ y = cc in
    let e : i ≡ j = same_index ts i j l m d in
    ap (λ w. Ok (w, i)) z ∙ ap (λ w. Ok (y, w)) e
answers_once ts at (Ok (x, i)) (Err (refusal.E04 q)) law (h, l, p) (g, (y, b, s, e)) =
    let k : Got x (drop i ts) ≡ read.Stop read.Wrong (y ∷ b) = law _ _ _ _ _ p s in absurd (cc)
answers_once ts at (Ok (x, i)) (Err (refusal.E15 q)) law (h, l, p) (g, (y, b, s, e)) =
    let k : Got x (drop i ts) ≡ read.Stop read.Deep (y ∷ b) = law _ _ _ _ _ p s in absurd (cc)
answers_once ts at (Ok (x, i)) (Err (refusal.E10 q)) law (h, l, p) g = absurd (cc)
answers_once ts at (Err (refusal.E04 q)) (Ok (x, i)) law (g, (y, b, s, e)) (h, l, p) =
    let k : Got x (drop i ts) ≡ read.Stop read.Wrong (y ∷ b) = law _ _ _ _ _ p s in absurd (cc)
answers_once ts at (Err (refusal.E15 q)) (Ok (x, i)) law (g, (y, b, s, e)) (h, l, p) =
    let k : Got x (drop i ts) ≡ read.Stop read.Deep (y ∷ b) = law _ _ _ _ _ p s in absurd (cc)
answers_once ts at (Err (refusal.E10 q)) (Ok (x, i)) law g (h, l, p) = absurd (cc)
answers_once ts at (Err (refusal.E04 p)) (Err (refusal.E04 q)) law (h, s) (g, r) = ap (λ z. Err (refusal.E04 z)) (one_stop n.Expr (drop at ts) read.Wrong read.Wrong p q law s r).1
answers_once ts at (Err (refusal.E04 p)) (Err (refusal.E15 q)) law (h, s) (g, r) = let k : read.Wrong ≡ read.Deep = (one_stop n.Expr (drop at ts) read.Wrong read.Deep p q law s r).0 in absurd (cc)
answers_once ts at (Err (refusal.E15 p)) (Err (refusal.E04 q)) law (h, s) (g, r) = let k : read.Deep ≡ read.Wrong = (one_stop n.Expr (drop at ts) read.Deep read.Wrong p q law s r).0 in absurd (cc)
answers_once ts at (Err (refusal.E15 p)) (Err (refusal.E15 q)) law (h, s) (g, r) = ap (λ z. Err (refusal.E15 z)) (one_stop n.Expr (drop at ts) read.Deep read.Deep p q law s r).1
answers_once ts at (Err (refusal.E10 p)) (Err (refusal.E10 q)) law h g = let k : p ≡ q = cc in ap (λ z. Err (refusal.E10 z)) k
answers_once ts at (Err (refusal.E10 p)) (Err (refusal.E04 q)) law h (g, r) = absurd (cc)
answers_once ts at (Err (refusal.E10 p)) (Err (refusal.E15 q)) law h (g, r) = absurd (cc)
answers_once ts at (Err (refusal.E04 p)) (Err (refusal.E10 q)) law (h, r) g = absurd (cc)
answers_once ts at (Err (refusal.E15 p)) (Err (refusal.E10 q)) law (h, r) g = absurd (cc)
answers_once ts at (Err refusal.Memory) (Ok a) law h g = tt
answers_once ts at (Err refusal.Memory) (Err (refusal.E04 q)) law h g = tt
answers_once ts at (Err refusal.Memory) (Err (refusal.E10 q)) law h g = tt
answers_once ts at (Err refusal.Memory) (Err (refusal.E15 q)) law h g = tt
answers_once ts at (Ok x) (Err refusal.Memory) law h g = tt
answers_once ts at (Err e) (Err refusal.Memory) law h g = tt

pub ruleset telling = (tells_refused, tells_got, tells_wrong, tells_deep, answers_once)
