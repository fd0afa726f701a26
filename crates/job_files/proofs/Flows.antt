-- Files of flows: their fronts, that they are spelled in one way, and what reading them as it goes comes to.
use Rattle.std.specs.Prelude.{◌&&◌, not}
use Rattle.std.proofs.Common.{◌≡◌, ℕ, Bool, true, false, List, [], ◌∷◌, ◌++◌, refl, sym, ap, ◌∙◌, subst}
use Rattle.grammar_core.specs.Spelling.{Room, Any, Limit}
use Rattle.grammar_core.specs.Reading as read
use Rattle.grammar_core.specs.Reading.{Got}
use Rattle.murphi_ast.specs.declared.token.Token.{Token}
use Rattle.murphi_ast.specs.declared.job.Flow.{Flow}
use Rattle.murphi_grammar.specs.declared.symbol.Symbol.TheVariants as t
use Rattle.murphi_grammar.specs.Symbols.{symbol_of}
use Rattle.murphi_grammar.specs.Names as n
use Rattle.murphi_expressions.specs.Ends.{is_end, has_no_end}
use Rattle.murphi_expressions.proofs.NoEnd.{avoids}
use Rattle.job_files.specs.Files.{IsWord, IsOne, flow_word, flows_word, BeginsText, SpellsFlows, BeginsFlows}
use Rattle.job_files.specs.Files.{SpellsFlows as s}
use Rattle.job_files.specs.Files.{BeginsFlows as e}
use Rattle.job_files.specs.Walks.{Has, IsNotNext, FlowsWalk}
use Rattle.job_files.specs.Walks.{FlowsWalk as w}
use Rattle.job_files.proofs.Texts.{text_begun, text_any, text_front, one_text, same_head, same_tail}
use Rattle.job_files.proofs.TextStops.{HaltsWrong, HaltsDeep, stops_wrong, stops_deep, got_last, got_spelled, no_end_word}

pub flows_begun : {r : Room} {us : List Token} {fs : List Flow} → SpellsFlows r us fs → BeginsFlows r us
flows_begun (s.nothing x h) = e.ended x h
flows_begun (s.version x y z a b c p) = e.version x y z a b c (text_begun p)

pub flows_any : {r : Room} {us : List Token} → BeginsFlows r us → BeginsFlows Any us
flows_any e.nothing = e.nothing
flows_any (e.ended x h) = e.ended x h
flows_any (e.word x a) = e.word x a
flows_any (e.number x y a b) = e.number x y a b
flows_any (e.version x y z a b c p) = e.version x y z a b c (text_any p)

word_at : {x v : Token} → x ≡ v → IsWord flows_word x → IsWord flows_word v
word_at h a = subst (λ z. IsWord flows_word z) h a

one_at : {x v : Token} → x ≡ v → IsOne x → IsOne v
one_at h a = subst (λ z. IsOne z) h a

pub flows_front : {r : Room} {us : List Token} → BeginsFlows r us → (vs ws : List Token) → us ≡ vs ++ ws → BeginsFlows r vs
flows_front e.nothing [] ws k = e.nothing
flows_front e.nothing (v ∷ vs) ws k = absurd (cc)
flows_front (e.ended x h) [] ws k = e.nothing
flows_front (e.ended x h) (v ∷ []) ws k = e.ended v (ap symbol_of (sym (same_head k)) ∙ h)
flows_front (e.ended x h) (v ∷ v2 ∷ vs) ws k = absurd (cc)
flows_front (e.word x a) [] ws k = e.nothing
flows_front (e.word x a) (v ∷ []) ws k = e.word v (word_at (same_head k) a)
flows_front (e.word x a) (v ∷ v2 ∷ vs) ws k = absurd (cc)
flows_front (e.number x y a b) [] ws k = e.nothing
flows_front (e.number x y a b) (v ∷ []) ws k = e.word v (word_at (same_head k) a)
flows_front (e.number x y a b) (v ∷ v2 ∷ []) ws k = e.number v v2 (word_at (same_head k) a) (one_at (same_head (same_tail k)) b)
flows_front (e.number x y a b) (v ∷ v2 ∷ v3 ∷ vs) ws k = absurd (cc)
flows_front (e.version x y z a b c p) [] ws k = e.nothing
flows_front (e.version x y z a b c p) (v ∷ []) ws k = e.word v (word_at (same_head k) a)
flows_front (e.version x y z a b c p) (v ∷ v2 ∷ []) ws k = e.number v v2 (word_at (same_head k) a) (one_at (same_head (same_tail k)) b)
flows_front (e.version x y z a b c p) (v ∷ v2 ∷ v3 ∷ vs) ws k =
    e.version v v2 v3 (word_at (same_head k) a) (one_at (same_head (same_tail k)) b) (ap symbol_of (sym (same_head (same_tail (same_tail k)))) ∙ c)
    (text_front p vs ws (same_tail (same_tail (same_tail k))))

pub one_flows : {r q : Room} {us : List Token} {fs gs : List Flow} → SpellsFlows r us fs → SpellsFlows q us gs → fs ≡ gs
one_flows (s.nothing x h) (s.nothing y k) = refl
one_flows (s.version x y z a b c p) (s.version x2 y2 z2 a2 b2 c2 p2) = one_text refl p p2

-- where reading stops

no_end_one : (y : Token) (us : List Token) → IsOne y → has_no_end us ≡ true → has_no_end (y ∷ us) ≡ true
no_end_one y us h k = ap (λ z. not (is_end z) && has_no_end us) h.0 ∙ k

no_end_sign : (z : Token) (us : List Token) → symbol_of z ≡ t.Semicolon → has_no_end us ≡ true → has_no_end (z ∷ us) ≡ true
no_end_sign z us h k = ap (λ z. not (is_end z) && has_no_end us) h ∙ k

no_end_head : (x y z : Token) (us : List Token) → IsWord flows_word x → IsOne y → symbol_of z ≡ t.Semicolon → has_no_end us ≡ true → has_no_end (x ∷ y ∷ z ∷ us) ≡ true
no_end_head x y z us a b c k = no_end_word flows_word x (y ∷ z ∷ us) a (no_end_one y (z ∷ us) b (no_end_sign z us c k))

first_end : (ts : List Token) → IsNotNext (IsWord flows_word) ts → IsNotNext (Has t.EndOfText) ts → (c : Token) (d : List Token) → ts ≡ c ∷ d → BeginsFlows Any (c ∷ []) → ⊥
first_end ts a b c d h (e.ended x k) = b c d h k
first_end ts a b c d h (e.word x k) = a c d h k

second_end : (x : Token) (mid : List Token) → IsNotNext IsOne mid → (c : Token) (d : List Token) → mid ≡ c ∷ d → BeginsFlows Any (x ∷ c ∷ []) → ⊥
second_end x mid b c d m (e.number x2 y a2 b2) = b c d m b2

third_end : (x y : Token) (mid : List Token) → IsNotNext (Has t.Semicolon) mid → (c : Token) (d : List Token) → mid ≡ c ∷ d → BeginsFlows Any (x ∷ y ∷ c ∷ []) → ⊥
third_end x y mid b c d m (e.version x2 y2 z a2 b2 c2 p) = b c d m c2

last_end : {r : Room} (x y z : Token) (us : List Token) → (BeginsText flow_word n.FlowItem r us → ⊥) → BeginsFlows r (x ∷ y ∷ z ∷ us) → ⊥
last_end x y z us never (e.version x2 y2 z2 a2 b2 c2 p) = never p

pub flows_wrong : {k : ℕ} {ts rest : List Token} → FlowsWalk k ts (read.Stop read.Wrong rest) → HaltsWrong BeginsFlows k ts rest
unfolding avoids
flows_wrong {ts = ts} (w.no_word a b) = record { front = []; is = refl; begun = e.nothing; clean = refl; ends = λ c d h z. first_end ts a b c d h z }
flows_wrong {rest = rest} (w.no_number {x = x} h a b) =
    record { front = x ∷ []; is = h; begun = e.word x a; clean = no_end_word flows_word x [] a refl; ends = λ c d m z. second_end x rest b c d m z }
flows_wrong {rest = rest} (w.no_sign {x = x} {y = y} h a b c) =
    record { front = x ∷ y ∷ []; is = h; begun = e.number x y a b; clean = no_end_word flows_word x (y ∷ []) a (no_end_one y [] b refl); ends = λ c2 d m z. third_end x y rest c c2 d m z }
flows_wrong (w.stop {x = x} {y = y} {z = z} h a b c walk) =
    let p = stops_wrong refl refl walk in
    record {
      front = x ∷ y ∷ z ∷ p.front;
      is = h ∙ ap (λ l. x ∷ y ∷ z ∷ l) p.is;
      begun = e.version x y z a b c p.begun;
      clean = no_end_head x y z p.front a b c p.clean;
      ends = λ c2 d m q. last_end x y z (p.front ++ c2 ∷ []) (p.ends c2 d m) q;
    }

pub flows_deep : {k : ℕ} {ts rest : List Token} → FlowsWalk k ts (read.Stop read.Deep rest) → HaltsDeep BeginsFlows k ts rest
flows_deep (w.stop {x = x} {y = y} {z = z} h a b c walk) =
    let p = stops_deep refl walk in
    record {
      front = x ∷ y ∷ z ∷ p.front;
      opens = p.opens;
      behind = p.behind;
      is = h ∙ ap (λ l. x ∷ y ∷ z ∷ l) p.is;
      next = p.next;
      begun = e.version x y z a b c p.begun;
      deeper = e.version x y z a b c p.deeper;
      ends = λ c2 d m q. last_end x y z (p.front ++ c2 ∷ []) (p.ends c2 d m) q;
    }

pub flows_last : {k : ℕ} {ts rest : List Token} {fs : List Flow} → FlowsWalk k ts (Got fs rest) → (front : List Token) × (last : Token) × (ts ≡ front ++ last ∷ rest) × (symbol_of last ≡ t.EndOfText)
flows_last (w.nothing {x = x} h m) = ([], x, h, m)
flows_last (w.version {x = x} {y = y} {z = z} h a b c walk) =
    let q = got_last walk in
    (x ∷ y ∷ z ∷ q.0, q.1, h ∙ ap (λ l. x ∷ y ∷ z ∷ l) q.2, q.3)

pub flows_spelled : {k : ℕ} {ts rest : List Token} {fs : List Flow} → rest ≡ [] → FlowsWalk k ts (Got fs rest) → SpellsFlows (Limit k) ts fs
flows_spelled {k} e0 (w.nothing {x = x} h m) = subst (λ l. SpellsFlows (Limit k) l []) (sym (h ∙ ap (λ l. x ∷ l) e0)) (s.nothing x m)
flows_spelled {k} {fs = fs} e0 (w.version {x = x} {y = y} {z = z} h a b c walk) =
    subst (λ l. SpellsFlows (Limit k) l fs) (sym h) (s.version x y z a b c (got_spelled e0 walk))
