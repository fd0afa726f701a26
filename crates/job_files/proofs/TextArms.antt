-- One lemma for each way through the readers of files.
use Rattle.std.specs.Prelude.{nat_eq, ◌||◌}
use Rattle.std.proofs.Common.{◌≡◌, ℕ, zero, suc, ◌+◌, ◌<◌, ◌≤◌, Bool, true, false, List, [], ◌∷◌, ◌++◌, drop, length, Option, Some, None, Ok, Err, Result, refl, sym, ap, ◌∙◌, subst, append-nil, append_assoc, arith}
use Rattle.std.proofs.lemmas.Bool.{eq-eqb}
use Rattle.grammar_core.specs.Forms.{Call}
use Rattle.grammar_core.specs.Spelling.{Limit}
use Rattle.grammar_core.specs.Reading as read
use Rattle.grammar_core.specs.Reading.{Got}
use Rattle.grammar_core.specs.Test.{head_in, is_in}
use Rattle.grammar_core.specs.Walk as u
use Rattle.grammar_core.specs.Walk.{Run}
use Rattle.murphi_ast.specs.declared.token.Token.{Token}
use Rattle.murphi_ast.specs.declared.job.Flow.{Flow}
use Rattle.murphi_ast.specs.declared.job.Lemma.{Lemma}
use Rattle.murphi_grammar.specs.declared.symbol.Symbol.{Symbol}
use Rattle.murphi_grammar.specs.declared.symbol.Symbol.TheVariants as t
use Rattle.murphi_grammar.specs.Symbols.{symbol_of}
use Rattle.murphi_grammar.specs.Names as n
use Rattle.murphi_grammar.specs.Names.{Name}
use Rattle.murphi_grammar.specs.Parts.{one, form}
use Rattle.murphi_grammar.specs.Values.{Value}
use Rattle.murphi_grammar.specs.Tables.{code, tables}
use Rattle.murphi_expressions.specs.Says.{Stops, Says, Passes, can_begin, with_front}
use Rattle.murphi_expressions.specs.declared.step.Stop.{Stop}
use Rattle.murphi_expressions.specs.declared.step.Stop.TheVariants.{Wrong, Deep, Memory}
use Rattle.murphi_expressions.proofs.Heads.{token_here}
use Rattle.job_files.specs.Files.{IsWord, IsOne, flow_word, flows_word, lemma_word}
use Rattle.job_files.specs.Walks.{IsNext, IsNotNext, Has, Walk, FlowsWalk, SaysText, TextSoFar, SaysVersion, SaysFlows}
use Rattle.job_files.specs.Walks.{Walk as w}
use Rattle.job_files.specs.Walks.{FlowsWalk as f}

-- texts of items

text_memory : (word : List ℕ) (entry : Name) (k : ℕ) (ts : List Token) (at : ℕ) (s : Stop) → s ≡ Memory → SaysText word entry k ts at (Err s)
unfolding SaysText
text_memory word entry k ts at (Wrong j) h = absurd (cc)
text_memory word entry k ts at (Deep j) h = absurd (cc)
text_memory word entry k ts at Memory h = tt

text_start : (word : List ℕ) (entry : Name) (k : ℕ) (ts : List Token) (at : ℕ) → TextSoFar word entry k ts at at []
unfolding TextSoFar
text_start word entry k ts at (Ok (xs, next)) p = p
text_start word entry k ts at (Err s) p = p

-- what is behind the next token
behind_head : (ts : List Token) (at : ℕ) (x : Token) (rest : List Token) → drop at ts ≡ x ∷ rest → drop (at + 1) ts ≡ rest
behind_head [] zero x rest h = absurd (cc)
behind_head [] (suc at) x rest h = absurd (cc)
behind_head (y ∷ ts) zero x rest h = cc
behind_head (y ∷ ts) (suc at) x rest h = let k : suc at + 1 ≡ suc (at + 1) = omega arith in ap (λ i. drop i (y ∷ ts)) k ∙ behind_head ts at x rest h

-- an item, and what is read behind it
item_behind : (word : List ℕ) (entry : Name) (k : ℕ) (ts : List Token) (at next : ℕ) (v : Value entry) → IsNext (IsWord word) (drop at ts) →
    Says entry k ts (at + 1) (Ok (v, next)) → (r : Result (List (Value entry) × ℕ) Stop) → SaysText word entry k ts next r → SaysText word entry k ts at (with_front (v ∷ []) r)
unfolding SaysText Says
item_behind word entry k ts at next v (x, rest, h, i) p (Ok (xs, end)) q = w.more h i (subst (λ z. Run tables (Limit k) (Call entry) z (Got v (drop next ts))) (behind_head ts at x rest h) p) q
item_behind word entry k ts at next v (x, rest, h, i) p (Err (Wrong j)) q = w.behind h i (subst (λ z. Run tables (Limit k) (Call entry) z (Got v (drop next ts))) (behind_head ts at x rest h) p) q
item_behind word entry k ts at next v (x, rest, h, i) p (Err (Deep j)) q = w.behind h i (subst (λ z. Run tables (Limit k) (Call entry) z (Got v (drop next ts))) (behind_head ts at x rest h) p) q
item_behind word entry k ts at next v (x, rest, h, i) p (Err Memory) q = tt

front_front : {A : Type 0} (xs ys : List A) (r : Result (List A × ℕ) Stop) → with_front xs (with_front ys r) ≡ with_front (xs ++ ys) r
front_front xs ys (Ok (zs, next)) = ap (λ l. Ok (l, next)) (sym (append_assoc xs ys zs))
front_front xs ys (Err s) = refl

text_more : (word : List ℕ) (entry : Name) (k : ℕ) (ts : List Token) (from at : ℕ) (front : List (Value entry)) (v : Value entry) (next : ℕ) → TextSoFar word entry k ts from at front → IsNext (IsWord word) (drop at ts) →
    Says entry k ts (at + 1) (Ok (v, next)) → TextSoFar word entry k ts from next (front ++ (v ∷ []))
unfolding TextSoFar
text_more word entry k ts from at front v next so i p r q =
    subst (λ z. SaysText word entry k ts from z) (front_front front (v ∷ []) r) (so (with_front (v ∷ []) r) (item_behind word entry k ts at next v i p r q))

text_stop : (word : List ℕ) (entry : Name) (k : ℕ) (ts : List Token) (from at : ℕ) (front : List (Value entry)) (s : Stop) → TextSoFar word entry k ts from at front → IsNext (IsWord word) (drop at ts) →
    Says entry k ts (at + 1) (Err s) → SaysText word entry k ts from (Err s)
unfolding TextSoFar SaysText Says Stops
text_stop word entry k ts from at front (Wrong j) so (x, rest, h, i) p = so (Err (Wrong j)) (w.stop h i (subst (λ z. Run tables (Limit k) (Call entry) z (read.Stop read.Wrong (drop j ts))) (behind_head ts at x rest h) p))
text_stop word entry k ts from at front (Deep j) so (x, rest, h, i) p = so (Err (Deep j)) (w.stop h i (subst (λ z. Run tables (Limit k) (Call entry) z (read.Stop read.Deep (drop j ts))) (behind_head ts at x rest h) p))
text_stop word entry k ts from at front Memory so i p = tt

-- one token
one_read : (s : Symbol) (k : ℕ) (ts rest : List Token) (x : Token) → Run tables (Limit k) (one s) ts (Got x rest) → (ts ≡ x ∷ rest) × (symbol_of x ≡ s)
one_read s k ts rest x (u.token h i) = (h, i)

one_not_read : (s : Symbol) (k : ℕ) (ts rest : List Token) → Run tables (Limit k) (one s) ts (read.Stop read.Wrong rest) → (rest ≡ ts) × (head_in tables (code s ∷ []) ts ≡ false)
one_not_read s k ts rest (u.token_not h) = (refl, h)

no_deep : (s : Symbol) (k : ℕ) (ts rest : List Token) → Run tables (Limit k) (one s) ts (read.Stop read.Deep rest) → ⊥
no_deep s k ts rest p = deep_is s k ts (read.Stop read.Deep rest) p refl
  where
    deep_is : (s : Symbol) (k : ℕ) (ts : List Token) (a : read.Reading Token Token) → Run tables (Limit k) (one s) ts a → a ≡ read.Stop read.Deep rest → ⊥
    deep_is s k ts a (u.token h i) e = cc
    deep_is s k ts a (u.token_not h) e = cc

pub not_next : (s : Symbol) (ts : List Token) → head_in tables (code s ∷ []) ts ≡ false → IsNotNext (Has s) ts
unfolding is_in
not_next s ts h x rest k i = absurd (never (sym here ∙ h))
  where
    same : (m : ℕ) → nat_eq m m || false ≡ true
    same m = ap (λ b. b || false) (eq-eqb m m refl)

    here : head_in tables (code s ∷ []) ts ≡ true
    here = ap (head_in tables (code s ∷ [])) k ∙ ap (λ z. nat_eq (code z) (code s) || false) i ∙ same (code s)

    never : true ≡ false → ⊥
    never e = cc

text_done : (word : List ℕ) (entry : Name) (k : ℕ) (ts : List Token) (from at : ℕ) (front : List (Value entry)) (end : ℕ) → TextSoFar word entry k ts from at front →
    Passes (one t.EndOfText) ts at (Ok end) → SaysText word entry k ts from (Ok (front, end))
unfolding TextSoFar SaysText Passes
text_done word entry k ts from at front end so (x, p) =
    let e = one_read t.EndOfText k (drop at ts) (drop end ts) x (p k) in
    subst (λ z. Walk word entry k (drop from ts) (Got z (drop end ts))) (append-nil front) (so (Ok ([], end)) (w.ended e.0 e.1))

text_other : (word : List ℕ) (entry : Name) (k : ℕ) (ts : List Token) (from at : ℕ) (front : List (Value entry)) (s : Stop) → TextSoFar word entry k ts from at front →
    IsNotNext (IsWord word) (drop at ts) → Passes (one t.EndOfText) ts at (Err s) → SaysText word entry k ts from (Err s)
unfolding TextSoFar SaysText Passes Stops
text_other word entry k ts from at front (Wrong j) so i p =
    let e = one_not_read t.EndOfText k (drop at ts) (drop j ts) (p k) in
    so (Err (Wrong j)) (subst (λ z. Walk word entry k (drop at ts) (read.Stop read.Wrong z)) (sym e.0) (w.other i (not_next t.EndOfText (drop at ts) e.1)))
text_other word entry k ts from at front (Deep j) so i p = absurd (no_deep t.EndOfText k (drop at ts) (drop j ts) (p k))
text_other word entry k ts from at front Memory so i p = tt

pub lemmas_start : (k : ℕ) (ts : List Token) (at : ℕ) → TextSoFar lemma_word n.LemmaItem k ts at at []
lemmas_start k ts at = text_start lemma_word n.LemmaItem k ts at

pub lemmas_more : (k : ℕ) (ts : List Token) (from at : ℕ) (front : List Lemma) (v : Lemma) (next : ℕ) → TextSoFar lemma_word n.LemmaItem k ts from at front → IsNext (IsWord lemma_word) (drop at ts) → Says n.LemmaItem k ts (at + 1) (Ok (v, next)) → TextSoFar lemma_word n.LemmaItem k ts from next (front ++ (v ∷ []))
lemmas_more k ts from at front v next so i p = text_more lemma_word n.LemmaItem k ts from at front v next so i p

pub lemmas_stop : (k : ℕ) (ts : List Token) (from at : ℕ) (front : List Lemma) (s : Stop) → TextSoFar lemma_word n.LemmaItem k ts from at front → IsNext (IsWord lemma_word) (drop at ts) → Says n.LemmaItem k ts (at + 1) (Err s) → SaysText lemma_word n.LemmaItem k ts from (Err s)
lemmas_stop k ts from at front s so i p = text_stop lemma_word n.LemmaItem k ts from at front s so i p

pub lemmas_done : (k : ℕ) (ts : List Token) (from at : ℕ) (front : List Lemma) (end : ℕ) → TextSoFar lemma_word n.LemmaItem k ts from at front → Passes (one t.EndOfText) ts at (Ok end) → SaysText lemma_word n.LemmaItem k ts from (Ok (front, end))
lemmas_done k ts from at front end so p = text_done lemma_word n.LemmaItem k ts from at front end so p

pub lemmas_other : (k : ℕ) (ts : List Token) (from at : ℕ) (front : List Lemma) (s : Stop) → TextSoFar lemma_word n.LemmaItem k ts from at front → IsNotNext (IsWord lemma_word) (drop at ts) → Passes (one t.EndOfText) ts at (Err s) → SaysText lemma_word n.LemmaItem k ts from (Err s)
lemmas_other k ts from at front s so i p = text_other lemma_word n.LemmaItem k ts from at front s so i p

pub lemmas_memory : (k : ℕ) (ts : List Token) (at : ℕ) (s : Stop) → s ≡ Memory → SaysText lemma_word n.LemmaItem k ts at (Err s)
lemmas_memory k ts at s h = text_memory lemma_word n.LemmaItem k ts at s h

pub ruleset lemmas_arms = (lemmas_start, lemmas_more, lemmas_stop, lemmas_done, lemmas_other, lemmas_memory)

pub flows_start : (k : ℕ) (ts : List Token) (at : ℕ) → TextSoFar flow_word n.FlowItem k ts at at []
flows_start k ts at = text_start flow_word n.FlowItem k ts at

pub flows_more : (k : ℕ) (ts : List Token) (from at : ℕ) (front : List Flow) (v : Flow) (next : ℕ) → TextSoFar flow_word n.FlowItem k ts from at front → IsNext (IsWord flow_word) (drop at ts) → Says n.FlowItem k ts (at + 1) (Ok (v, next)) → TextSoFar flow_word n.FlowItem k ts from next (front ++ (v ∷ []))
flows_more k ts from at front v next so i p = text_more flow_word n.FlowItem k ts from at front v next so i p

pub flows_stop : (k : ℕ) (ts : List Token) (from at : ℕ) (front : List Flow) (s : Stop) → TextSoFar flow_word n.FlowItem k ts from at front → IsNext (IsWord flow_word) (drop at ts) → Says n.FlowItem k ts (at + 1) (Err s) → SaysText flow_word n.FlowItem k ts from (Err s)
flows_stop k ts from at front s so i p = text_stop flow_word n.FlowItem k ts from at front s so i p

pub flows_done : (k : ℕ) (ts : List Token) (from at : ℕ) (front : List Flow) (end : ℕ) → TextSoFar flow_word n.FlowItem k ts from at front → Passes (one t.EndOfText) ts at (Ok end) → SaysText flow_word n.FlowItem k ts from (Ok (front, end))
flows_done k ts from at front end so p = text_done flow_word n.FlowItem k ts from at front end so p

pub flows_other : (k : ℕ) (ts : List Token) (from at : ℕ) (front : List Flow) (s : Stop) → TextSoFar flow_word n.FlowItem k ts from at front → IsNotNext (IsWord flow_word) (drop at ts) → Passes (one t.EndOfText) ts at (Err s) → SaysText flow_word n.FlowItem k ts from (Err s)
flows_other k ts from at front s so i p = text_other flow_word n.FlowItem k ts from at front s so i p

pub flows_memory : (k : ℕ) (ts : List Token) (at : ℕ) (s : Stop) → s ≡ Memory → SaysText flow_word n.FlowItem k ts at (Err s)
flows_memory k ts at s h = text_memory flow_word n.FlowItem k ts at s h

pub ruleset flows_arms = (flows_start, flows_more, flows_stop, flows_done, flows_other, flows_memory)

-- `flows 1 ;`

pub version_word : (ts : List Token) → IsNotNext (IsWord flows_word) (drop 0 ts) → SaysVersion ts (Err (Wrong 0))
unfolding SaysVersion
version_word ts h = λ k e. f.no_word h e

pub version_number : (ts : List Token) → IsNext (IsWord flows_word) (drop 0 ts) → IsNotNext IsOne (drop 1 ts) → SaysVersion ts (Err (Wrong 1))
unfolding SaysVersion
version_number ts (x, rest, h, i) g = λ k e. f.no_number (h ∙ ap (λ l. x ∷ l) (sym (behind_head ts 0 x rest h))) i g

second_is : (ts : List Token) (x : Token) (rest : List Token) (y : Token) (more : List Token) → ts ≡ x ∷ rest → drop 1 ts ≡ y ∷ more → ts ≡ x ∷ y ∷ drop 2 ts
second_is ts x rest y more h k =
    h ∙ ap (λ l. x ∷ l) (sym (behind_head ts 0 x rest h) ∙ k ∙ ap (λ l. y ∷ l) (sym (behind_head ts 1 y more k)))

pub version_sign : (ts : List Token) → IsNext (IsWord flows_word) (drop 0 ts) → IsNext IsOne (drop 1 ts) → can_begin (one t.Semicolon) ts 2 ≡ false → SaysVersion ts (Err (Wrong 2))
unfolding SaysVersion can_begin
version_sign ts (x, rest, h, i) (y, more, g, j) c = λ k e. f.no_sign (second_is ts x rest y more h g) i j (not_next t.Semicolon (drop 2 ts) c)

pub version_here : (ts : List Token) → IsNext (IsWord flows_word) (drop 0 ts) → IsNext IsOne (drop 1 ts) → can_begin (one t.Semicolon) ts 2 ≡ true → SaysVersion ts (Ok 3)
unfolding SaysVersion
version_here ts (x, rest, h, i) (y, more, g, j) c =
    let z = token_here t.Semicolon ts 2 c in
    (x, y, z.0, second_is ts x rest y more h g ∙ ap (λ l. x ∷ y ∷ l) z.1, i, j, z.2)

pub ruleset version_arms = (version_word, version_number, version_sign, version_here)

-- files of flows

pub file_nothing : (k : ℕ) (ts : List Token) → can_begin (one t.EndOfText) ts 0 ≡ true → SaysFlows k ts (Ok ([], 1))
unfolding SaysFlows
file_nothing k ts h = let z = token_here t.EndOfText ts 0 h in f.nothing z.1 z.2

pub file_head : (k : ℕ) (ts : List Token) (s : Stop) → can_begin (one t.EndOfText) ts 0 ≡ false → SaysVersion ts (Err s) → SaysFlows k ts (Err s)
unfolding SaysFlows SaysVersion can_begin
file_head k ts (Wrong j) h p = p k (not_next t.EndOfText ts h)
file_head k ts (Deep j) h p = absurd p
file_head k ts Memory h p = absurd p

pub file_stop : (k : ℕ) (ts : List Token) (start : ℕ) (s : Stop) → SaysVersion ts (Ok start) → SaysText flow_word n.FlowItem k ts start (Err s) → SaysFlows k ts (Err s)
unfolding SaysFlows SaysVersion SaysText
file_stop k ts start (Wrong j) (x, y, z, h, i, g, c) p = f.stop h i g c p
file_stop k ts start (Deep j) (x, y, z, h, i, g, c) p = f.stop h i g c p
file_stop k ts start Memory v p = tt

pub file_done : (k : ℕ) (ts : List Token) (start : ℕ) (fs : List Flow) (end : ℕ) → SaysVersion ts (Ok start) → SaysText flow_word n.FlowItem k ts start (Ok (fs, end)) → SaysFlows k ts (Ok (fs, end))
unfolding SaysFlows SaysVersion SaysText
file_done k ts start fs end (x, y, z, h, i, g, c) p = f.version h i g c p

pub ruleset file_arms = (file_nothing, file_head, file_stop, file_done)
