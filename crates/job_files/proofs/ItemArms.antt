-- One lemma for each way through the readers of items.
use Rattle.std.specs.Prelude.{map}
use Rattle.std.proofs.Common.{◌≡◌, ℕ, ◌+◌, Bool, true, false, List, [], ◌∷◌, ◌++◌, drop, Some, None, Ok, Err, Result, refl, sym, ap, ◌∙◌, subst}
use Rattle.std.specs.Prelude.{slice_get}
use Rattle.grammar_core.specs.Forms.{Call, TreeOf}
use Rattle.grammar_core.specs.Spelling.{Limit}
use Rattle.grammar_core.specs.Reading as read
use Rattle.grammar_core.specs.Reading.{Got}
use Rattle.grammar_core.specs.Walk as u
use Rattle.grammar_core.specs.Walk.{Run}
use Rattle.murphi_ast.specs.declared.token.Token.{Token}
use Rattle.murphi_ast.specs.declared.token.Span.{Span}
use Rattle.murphi_ast.specs.declared.expr.Named.{Named}
use Rattle.murphi_ast.specs.declared.expr.Expr.{Expr}
use Rattle.murphi_ast.specs.declared.job.Event.{Event}
use Rattle.murphi_ast.specs.declared.job.Flow.{Flow}
use Rattle.murphi_ast.specs.declared.job.Lemma.{Lemma}
use Rattle.murphi_grammar.specs.declared.symbol.Symbol.TheVariants as t
use Rattle.murphi_grammar.specs.Names as n
use Rattle.murphi_grammar.specs.Parts.{Part, ◌▸◌, one, form, many, event_form}
use Rattle.murphi_grammar.specs.Values as v
use Rattle.murphi_grammar.specs.Values.{named, seconds}
use Rattle.murphi_grammar.specs.Tables.{tables}
use Rattle.murphi_expressions.specs.Says.{Stops, Says, Gives, Takes, Passes, SoFar, can_begin, with_front}
use Rattle.murphi_expressions.specs.declared.step.Stop.{Stop}
use Rattle.murphi_expressions.specs.declared.step.Stop.TheVariants.{Wrong, Deep, Memory}
use Rattle.murphi_expressions.proofs.Heads.{token_here, drop_some, at_none}
use Rattle.murphi_expressions.proofs.Steps.{takes_no_memory}
use Rattle.murphi_expressions.proofs.Ways.{stops_as, no_memory, gives_no_memory, read_more, read_all, read_stops}
use Rattle.job_files.specs.Items.{one_more_event, events_behind, after_events, GivesEvents, EventsSoFar, events_form, events_of}

-- lemmas

pub lemma_1 : (k : ℕ) (ts : List Token) (at : ℕ) (s : Stop) → Takes (one t.Name) named ts at (Err s) → Says n.LemmaItem k ts at (Err s)
unfolding Says Takes
lemma_1 k ts at s h1 = stops_as ts at at s (λ why rest q. u.call_stop (u.seq_first q)) (h1 k)

pub lemma_2 : (k : ℕ) (ts : List Token) (at : ℕ) (x : Named) (next : ℕ) (s : Stop) → Takes (one t.Name) named ts at (Ok (x, next)) → Passes (one t.Colon) ts next (Err s) → Says n.LemmaItem k ts at (Err s)
unfolding Says Takes Passes
lemma_2 k ts at x next s h1 h2 = stops_as ts next at s (λ why rest q. u.call_stop (u.seq_second (h1.2 k) (u.seq_first q))) (h2 k)

pub lemma_3 : (k : ℕ) (ts : List Token) (at : ℕ) (x : Named) (next behind : ℕ) (s : Stop) → Takes (one t.Name) named ts at (Ok (x, next)) → Passes (one t.Colon) ts next (Ok behind) → Says n.Expr k ts behind (Err s) → Says n.LemmaItem k ts at (Err s)
unfolding Says Takes Passes
lemma_3 k ts at x next behind s h1 h2 h3 = stops_as ts behind at s (λ why rest q. u.call_stop (u.seq_second (h1.2 k) (u.seq_second (h2.1 k) (u.seq_first q)))) h3

pub lemma_4 : (k : ℕ) (ts : List Token) (at : ℕ) (x : Named) (next behind : ℕ) (body : Expr) (last : ℕ) (s : Stop) → Takes (one t.Name) named ts at (Ok (x, next)) → Passes (one t.Colon) ts next (Ok behind) → Says n.Expr k ts behind (Ok (body, last)) → Passes (one t.Semicolon) ts last (Err s) → Says n.LemmaItem k ts at (Err s)
unfolding Says Takes Passes
lemma_4 k ts at x next behind body last s h1 h2 h3 h4 = stops_as ts last at s (λ why rest q. u.call_stop (u.seq_second (h1.2 k) (u.seq_second (h2.1 k) (u.seq_second h3 q)))) (h4 k)

pub lemma_5 : (k : ℕ) (ts : List Token) (at : ℕ) (x : Named) (next behind : ℕ) (body : Expr) (last end : ℕ) → Takes (one t.Name) named ts at (Ok (x, next)) → Passes (one t.Colon) ts next (Ok behind) → Says n.Expr k ts behind (Ok (body, last)) → Passes (one t.Semicolon) ts last (Ok end) → Says n.LemmaItem k ts at (Ok (record { name = x; body = body }, end))
unfolding Says Takes Passes
lemma_5 k ts at x next behind body last end h1 h2 h3 h4 = u.call (ap (λ (z : Named). record { name = z; body = body }) h1.1) (u.seq (h1.2 k) (u.seq (h2.1 k) (u.seq h3 (h4.1 k))))

pub ruleset lemma_arms = (lemma_1, lemma_2, lemma_3, lemma_4, lemma_5, no_memory)

-- strings

pub no_string : (ts : List Token) (at : ℕ) → can_begin (one t.Quoted) ts at ≡ false → Takes (one t.Quoted) named ts at (Err (Wrong at))
unfolding Takes Stops can_begin
no_string ts at h = λ k. u.token_not h

pub no_token : (ts : List Token) (at : ℕ) → slice_get ts at ≡ None → Takes (one t.Quoted) named ts at (Err (Wrong at))
no_token ts at h = no_string ts at (sym (at_none t.Quoted ts at h))

pub string_here : (ts : List Token) (at : ℕ) (x : Token) → slice_get ts at ≡ Some x → can_begin (one t.Quoted) ts at ≡ true → Takes (one t.Quoted) named ts at (Ok (named x, at + 1))
unfolding Takes
string_here ts at x e h =
    let w = token_here t.Quoted ts at h in
    let q : x ∷ drop (at + 1) ts ≡ w.0 ∷ drop (at + 1) ts = sym (drop_some ts at x e) ∙ w.1 in
    let k : x ≡ w.0 = cc in
    (w.0, ap named k, λ m. u.token w.1 w.2)

pub ruleset string_arms = (no_string, no_token, string_here, takes_no_memory)

-- events

event_is : (r p : Named) (x y : Token) → r ≡ named x → p ≡ named y → ◌≡◌ {A = Event} (record { rule = r.name; param = p.name; at = r.at }) (record { rule = x.text; param = y.text; at = x.at })
event_is r p x y h k = ap (λ (z : Named). record { rule = z.name; param = p.name; at = z.at }) h ∙ ap (λ (z : Named). record { rule = x.text; param = z.name; at = x.at }) k

pub event_1 : (ts : List Token) (at : ℕ) (s : Stop) → Takes (one t.Quoted) named ts at (Err s) → Takes event_form v.event ts at (Err s)
unfolding Takes
event_1 ts at s h1 = λ k. stops_as ts at at s (λ why rest q. u.seq_first q) (h1 k)

pub event_2 : (ts : List Token) (at : ℕ) (r : Named) (next : ℕ) (s : Stop) → Takes (one t.Quoted) named ts at (Ok (r, next)) → Passes (one t.Dot) ts next (Err s) → Takes event_form v.event ts at (Err s)
unfolding Takes Passes
event_2 ts at r next s h1 h2 = λ k. stops_as ts next at s (λ why rest q. u.seq_second (h1.2 k) (u.seq_first q)) (h2 k)

pub event_3 : (ts : List Token) (at : ℕ) (r : Named) (next behind : ℕ) (s : Stop) → Takes (one t.Quoted) named ts at (Ok (r, next)) → Passes (one t.Dot) ts next (Ok behind) → Takes (one t.Name) named ts behind (Err s) → Takes event_form v.event ts at (Err s)
unfolding Takes Passes
event_3 ts at r next behind s h1 h2 h3 = λ k. stops_as ts behind at s (λ why rest q. u.seq_second (h1.2 k) (u.seq_second (h2.1 k) q)) (h3 k)

pub event_4 : (ts : List Token) (at : ℕ) (r : Named) (next behind : ℕ) (p : Named) (end : ℕ) → Takes (one t.Quoted) named ts at (Ok (r, next)) → Passes (one t.Dot) ts next (Ok behind) → Takes (one t.Name) named ts behind (Ok (p, end)) → Takes event_form v.event ts at (Ok (record { rule = r.name; param = p.name; at = r.at }, end))
unfolding Takes Passes
event_4 ts at r next behind p end h1 h2 h3 = ((h1.0, (h2.0, h3.0)), event_is r p h1.0 h3.0 h1.1 h3.1, λ k. u.seq (h1.2 k) (u.seq (h2.1 k) (h3.2 k)))

pub ruleset event_arms = (event_1, event_2, event_3, event_4, takes_no_memory)

pub more_events_start : (front : List Event) (ts : List Token) (at : ℕ) → EventsSoFar front ts at at front
unfolding EventsSoFar SoFar Gives after_events
more_events_start front ts at = λ k r p. go k r p
  where
    go : (k : ℕ) (r : Result (List Event × ℕ) Stop) → Gives (many one_more_event) events_behind k ts at r → Gives (many one_more_event) (after_events front) k ts at (with_front front r)
    go k (Ok (xs, next)) p = (p.0, ap (λ z. front ++ z) p.1, p.2)
    go k (Err s) p = p

pub more_events_more : (front : List Event) (ts : List Token) (from at : ℕ) (list : List Event) (x : Event) (next : ℕ) → EventsSoFar front ts from at list → can_begin (one t.Comma) ts at ≡ true → Takes event_form v.event ts (at + 1) (Ok (x, next)) → EventsSoFar front ts from next (list ++ (x ∷ []))
unfolding EventsSoFar Takes can_begin
more_events_more front ts from at list x next so h p =
    let w = token_here t.Comma ts at h in
    λ k. read_more one_more_event events_behind (many one_more_event) (after_events front) k ts from at next list (x ∷ []) (w.0, p.0) (so k) (λ xs. ap (λ z. z ∷ events_behind xs) p.1) (u.seq (u.token w.1 w.2) (p.2 k))

pub more_events_done : (front : List Event) (ts : List Token) (from at : ℕ) (list : List Event) → EventsSoFar front ts from at list → can_begin (one t.Comma) ts at ≡ false → GivesEvents front ts from (Ok (list, at))
unfolding EventsSoFar GivesEvents can_begin
more_events_done front ts from at list so h = λ k. read_all one_more_event events_behind (many one_more_event) (after_events front) k ts from at list (so k) refl h

pub more_events_stop : (front : List Event) (ts : List Token) (from at : ℕ) (list : List Event) (s : Stop) → EventsSoFar front ts from at list → can_begin (one t.Comma) ts at ≡ true → Takes event_form v.event ts (at + 1) (Err s) → GivesEvents front ts from (Err s)
unfolding EventsSoFar GivesEvents Takes can_begin
more_events_stop front ts from at list s so h p =
    let w = token_here t.Comma ts at h in
    λ k. read_stops one_more_event event_form events_behind (many one_more_event) (after_events front) k k ts from at (at + 1) list s (so k) h (λ why rest q. u.seq_second (u.token w.1 w.2) q) (p k)

pub more_events_memory : (front : List Event) (ts : List Token) (from : ℕ) (s : Stop) → s ≡ Memory → GivesEvents front ts from (Err s)
unfolding GivesEvents
more_events_memory front ts from s h = λ k. gives_no_memory (many one_more_event) (after_events front) k ts from s h

pub ruleset more_events_arms = (more_events_start, more_events_more, more_events_done, more_events_stop, more_events_memory)

pub events_1 : (k : ℕ) (ts : List Token) (at : ℕ) (s : Stop) → Takes event_form v.event ts at (Err s) → Gives events_form events_of k ts at (Err s)
unfolding Gives Takes
events_1 k ts at s h1 = stops_as ts at at s (λ why rest q. u.seq_first q) (h1 k)

pub events_2 : (k : ℕ) (ts : List Token) (at : ℕ) (x : Event) (next : ℕ) (s : Stop) → Takes event_form v.event ts at (Ok (x, next)) → Passes (one t.Comma) ts next (Err s) → Gives events_form events_of k ts at (Err s)
unfolding Gives Takes Passes
events_2 k ts at x next s h1 h2 = stops_as ts next at s (λ why rest q. u.seq_second (h1.2 k) (u.seq_first q)) (h2 k)

pub events_3 : (k : ℕ) (ts : List Token) (at : ℕ) (x : Event) (next behind : ℕ) (s : Stop) → Takes event_form v.event ts at (Ok (x, next)) → Passes (one t.Comma) ts next (Ok behind) → Takes event_form v.event ts behind (Err s) → Gives events_form events_of k ts at (Err s)
unfolding Gives Takes Passes
events_3 k ts at x next behind s h1 h2 h3 = stops_as ts behind at s (λ why rest q. u.seq_second (h1.2 k) (u.seq_second (h2.1 k) (u.seq_first q))) (h3 k)

pub events_4 : (k : ℕ) (ts : List Token) (at : ℕ) (x : Event) (next behind : ℕ) (y : Event) (last : ℕ) (two : List Event) (s : Stop) → Takes event_form v.event ts at (Ok (x, next)) → Passes (one t.Comma) ts next (Ok behind) → Takes event_form v.event ts behind (Ok (y, last)) → GivesEvents two ts last (Err s) → Gives events_form events_of k ts at (Err s)
unfolding Gives GivesEvents Takes Passes
events_4 k ts at x next behind y last two s h1 h2 h3 h4 = stops_as ts last at s (λ why rest q. u.seq_second (h1.2 k) (u.seq_second (h2.1 k) (u.seq_second (h3.2 k) (u.seq_first q)))) (h4 k)

pub events_5 : (k : ℕ) (ts : List Token) (at : ℕ) (x : Event) (next behind : ℕ) (y : Event) (last : ℕ) (two all : List Event) (end : ℕ) (s : Stop) → Takes event_form v.event ts at (Ok (x, next)) → Passes (one t.Comma) ts next (Ok behind) → Takes event_form v.event ts behind (Ok (y, last)) → GivesEvents two ts last (Ok (all, end)) → Passes (one t.Semicolon) ts end (Err s) → Gives events_form events_of k ts at (Err s)
unfolding Gives GivesEvents Takes Passes
events_5 k ts at x next behind y last two all end s h1 h2 h3 h4 h5 = stops_as ts end at s (λ why rest q. u.seq_second (h1.2 k) (u.seq_second (h2.1 k) (u.seq_second (h3.2 k) (u.seq_second (h4 k).2 q)))) (h5 k)

pub events_6 : (k : ℕ) (ts : List Token) (at : ℕ) (x : Event) (next behind : ℕ) (y : Event) (last : ℕ) (all : List Event) (end over : ℕ) → Takes event_form v.event ts at (Ok (x, next)) → Passes (one t.Comma) ts next (Ok behind) → Takes event_form v.event ts behind (Ok (y, last)) → GivesEvents (x ∷ y ∷ []) ts last (Ok (all, end)) → Passes (one t.Semicolon) ts end (Ok over) → Gives events_form events_of k ts at (Ok (all, over))
unfolding Gives GivesEvents Takes Passes after_events
events_6 k ts at x next behind y last all end over h1 h2 h3 h4 h5 = (
  (h1.0, (h2.0, (h3.0, ((h4 k).0, h5.0)))),
  (h4 k).1 ∙ ap (λ z. z ∷ y ∷ events_behind (h4 k).0) h1.1 ∙ ap (λ z. v.event h1.0 ∷ z ∷ events_behind (h4 k).0) h3.1,
  u.seq (h1.2 k) (u.seq (h2.1 k) (u.seq (h3.2 k) (u.seq (h4 k).2 (h5.1 k)))),
)

pub ruleset events_arms = (events_1, events_2, events_3, events_4, events_5, events_6, gives_no_memory)

-- flows

pub flow_1 : (k : ℕ) (ts : List Token) (at : ℕ) (s : Stop) → Takes (one t.Name) named ts at (Err s) → Says n.FlowItem k ts at (Err s)
unfolding Says Takes
flow_1 k ts at s h1 = stops_as ts at at s (λ why rest q. u.call_stop (u.seq_first q)) (h1 k)

pub flow_2 : (k : ℕ) (ts : List Token) (at : ℕ) (x : Named) (next : ℕ) (s : Stop) → Takes (one t.Name) named ts at (Ok (x, next)) → Passes (one t.Colon) ts next (Err s) → Says n.FlowItem k ts at (Err s)
unfolding Says Takes Passes
flow_2 k ts at x next s h1 h2 = stops_as ts next at s (λ why rest q. u.call_stop (u.seq_second (h1.2 k) (u.seq_first q))) (h2 k)

pub flow_3 : (k : ℕ) (ts : List Token) (at : ℕ) (x : Named) (next behind : ℕ) (s : Stop) → Takes (one t.Name) named ts at (Ok (x, next)) → Passes (one t.Colon) ts next (Ok behind) → Gives events_form events_of k ts behind (Err s) → Says n.FlowItem k ts at (Err s)
unfolding Says Takes Passes Gives
flow_3 k ts at x next behind s h1 h2 h3 = stops_as ts behind at s (λ why rest q. u.call_stop (u.seq_second (h1.2 k) (u.seq_second (h2.1 k) q))) h3

pub flow_4 : (k : ℕ) (ts : List Token) (at : ℕ) (x : Named) (next behind : ℕ) (es : List Event) (end : ℕ) → Takes (one t.Name) named ts at (Ok (x, next)) → Passes (one t.Colon) ts next (Ok behind) → Gives events_form events_of k ts behind (Ok (es, end)) → Says n.FlowItem k ts at (Ok (record { name = x; events = es }, end))
unfolding Says Takes Passes Gives
flow_4 k ts at x next behind es end h1 h2 ((f, (c, (g, (m, e)))), q, run) =
    u.call (ap (λ (z : Named). record { name = z; events = es }) h1.1 ∙ ap (λ z. record { name = named h1.0; events = z }) q) (u.seq (h1.2 k) (u.seq (h2.1 k) run))

pub ruleset flow_arms = (flow_1, flow_2, flow_3, flow_4, no_memory)
