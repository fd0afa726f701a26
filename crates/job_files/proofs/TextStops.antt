-- What reading a text of items as it goes comes to: the list that the text spells, or where it stops.
use Rattle.std.specs.Prelude.{◌&&◌, not}
use Rattle.std.proofs.Common.{◌≡◌, ℕ, Bool, true, false, List, [], ◌∷◌, ◌++◌, ◌⊎◌, inl, inr, refl, sym, ap, ◌∙◌, subst, append-nil, append_assoc}
use Rattle.grammar_core.specs.Forms.{Call}
use Rattle.grammar_core.specs.Spelling.{Room, Any, Limit, Spells, Begins}
use Rattle.grammar_core.specs.Reading as read
use Rattle.grammar_core.specs.Reading.{Got, Reads, IsGot, IsWrong, IsDeep}
use Rattle.grammar_core.specs.Walk.{Run}
use Rattle.grammar_core.proofs.Lists.{compare}
use Rattle.grammar_core.proofs.Fronts.{begun, begins_any, spells_any}
use Rattle.murphi_ast.specs.declared.token.Token.{Token}
use Rattle.murphi_grammar.specs.declared.symbol.Symbol.TheVariants as t
use Rattle.murphi_grammar.specs.Symbols.{symbol_of}
use Rattle.murphi_grammar.specs.Names.{Name}
use Rattle.murphi_grammar.specs.Parts.{form}
use Rattle.murphi_grammar.specs.Values.{Value}
use Rattle.murphi_grammar.specs.Grammar.{murphi}
use Rattle.murphi_grammar.specs.Tables.{tables}
use Rattle.murphi_grammar.proofs.Readings.{walked}
use Rattle.murphi_expressions.specs.Ends.{is_end, has_no_end}
use Rattle.murphi_expressions.proofs.NoEnd.{avoids, spelled}
use Rattle.murphi_expressions.proofs.NoEnd.{begun as begun_without}
use Rattle.job_files.specs.Files.{IsWord, SpellsText, BeginsText}
use Rattle.job_files.specs.Files.{SpellsText as s}
use Rattle.job_files.specs.Files.{BeginsText as e}
use Rattle.job_files.specs.Walks.{Has, IsNotNext, Walk}
use Rattle.job_files.specs.Walks.{Walk as w}
use Rattle.job_files.proofs.Cuts.{closed, one_cut}
use Rattle.job_files.proofs.Texts.{no_word_ends, same_tail, same_head}

-- the front is begun within the room, the end of the text is not in it, and with the next token it is begun no
-- longer, at any depth
pub record HaltsWrong (begins : Room → List Token → Type 0) (k : ℕ) (ts rest : List Token) : Type 0 where
  pub front : List Token
  pub is : ts ≡ front ++ rest
  pub begun : begins (Limit k) front
  pub clean : has_no_end front ≡ true
  pub ends : (c : Token) (d : List Token) → rest ≡ c ∷ d → begins Any (front ++ c ∷ []) → ⊥

-- or it is begun only where more nestings may be open
pub record HaltsDeep (begins : Room → List Token → Type 0) (k : ℕ) (ts rest : List Token) : Type 0 where
  pub front : List Token
  pub opens : Token
  pub behind : List Token
  pub is : ts ≡ front ++ rest
  pub next : rest ≡ opens ∷ behind
  pub begun : begins (Limit k) front
  pub deeper : begins Any (front ++ opens ∷ [])
  pub ends : (c : Token) (d : List Token) → rest ≡ c ∷ d → begins (Limit k) (front ++ c ∷ []) → ⊥

pub no_end_join : (us vs : List Token) → has_no_end us ≡ true → has_no_end vs ≡ true → has_no_end (us ++ vs) ≡ true
no_end_join [] vs h k = k
no_end_join (x ∷ us) vs h k = go (not (is_end (symbol_of x))) h (λ p. no_end_join us vs p k)
  where
    go : (c : Bool) → c && has_no_end us ≡ true → (has_no_end us ≡ true → has_no_end (us ++ vs) ≡ true) → c && has_no_end (us ++ vs) ≡ true
    go true p more = more p
    go false p more = absurd (cc)

-- a word is no end of the text, nor is there one among what follows
pub no_end_word : (word : List ℕ) (x : Token) (us : List Token) → IsWord word x → has_no_end us ≡ true → has_no_end (x ∷ us) ≡ true
no_end_word word x us h k = ap (λ z. not (is_end z) && has_no_end us) h.0 ∙ k

-- a text of items that begins with a word begins with what begins its item, or with its item
data View (word : List ℕ) (entry : Name) (r : Room) (us : List Token) : Type 0 where
  partly : Begins murphi r (form entry) us → View word entry r us
  past : {vs ws : List Token} {v : Value entry} → Spells murphi r (form entry) vs v → BeginsText word entry r ws → us ≡ vs ++ ws → View word entry r us

view : {word : List ℕ} {entry : Name} {r : Room} (x : Token) (us : List Token) → IsWord word x → BeginsText word entry r (x ∷ us) → View word entry r us
view {word} x us h (e.ended y k) = absurd (no_word_ends word x h k)
view x us h (e.part y k p) = partly p
view x us h (e.more y k p q m) = past p q (same_tail m)

-- with one token more, behind what begins an item and spells none
not_one_more : {word : List ℕ} {entry : Name} {r q : Room} (x : Token) (front : List Token) (c : Token) → tables.goes_on entry ≡ [] → IsWord word x → Begins murphi q (form entry) front →
    ((v : Value entry) → Spells murphi r (form entry) front v → ⊥) → (Begins murphi r (form entry) (front ++ c ∷ []) → ⊥) → BeginsText word entry r (x ∷ (front ++ c ∷ [])) → ⊥
not_one_more {word} {entry} {r} {q} x front c none h p unspelled ends z = go (view x (front ++ c ∷ []) h z)
  where
    longer : {vs : List Token} {v : Value entry} (ws : List Token) → Spells murphi r (form entry) vs v → (d : List Token) → vs ≡ front ++ d → c ∷ [] ≡ d ++ ws → ⊥
    longer {v = v} ws m [] n o = unspelled v (subst (λ l. Spells murphi r (form entry) l v) (n ∙ append-nil front) m)
    longer ws m (y ∷ []) n o = ends (subst (λ l. Begins murphi r (form entry) l) (n ∙ ap (λ l. front ++ l ∷ []) (sym (same_head o))) (begun m))
    longer ws m (y ∷ y' ∷ d) n o = absurd (cc)

    shorter : {vs : List Token} {v : Value entry} → Spells murphi r (form entry) vs v → (d : List Token) → front ≡ vs ++ d → ⊥
    shorter {vs = vs} {v = v} m [] n = unspelled v (subst (λ l. Spells murphi r (form entry) l v) (sym (append-nil vs) ∙ sym n) m)
    shorter m (y ∷ d) n = closed none m y d (subst (λ l. Begins murphi q (form entry) l) n p)

    cut : {vs : List Token} {v : Value entry} (ws : List Token) → Spells murphi r (form entry) vs v → ((d : List Token) × (vs ≡ front ++ d) × (c ∷ [] ≡ d ++ ws)) ⊎ ((d : List Token) × (front ≡ vs ++ d) × (ws ≡ d ++ c ∷ [])) → ⊥
    cut ws m (inl (d, n, o)) = longer ws m d n o
    cut ws m (inr (d, n, o)) = shorter m d n

    go : View word entry r (front ++ c ∷ []) → ⊥
    go (partly m) = ends m
    go (past {vs = vs} {ws = ws} m n o) = cut ws m (compare front (c ∷ []) vs ws o)

-- behind an item, the rest begins a text of items
behind_item : {word : List ℕ} {entry : Name} {r q : Room} {us : List Token} {v : Value entry} (x : Token) (front : List Token) (c : Token) → tables.goes_on entry ≡ [] → IsWord word x → Spells murphi q (form entry) us v →
    BeginsText word entry r (x ∷ (us ++ (front ++ c ∷ []))) → BeginsText word entry r (front ++ c ∷ [])
behind_item {word} {entry} {r} {q} {us} x front c none h p z = go (view x (us ++ (front ++ c ∷ [])) h z)
  where
    never : (l : List Token) → l ≡ front ++ c ∷ [] → Begins murphi r (form entry) (us ++ l) → BeginsText word entry r (front ++ c ∷ [])
    never [] k m = absurd (empty front k)
      where
        empty : (f : List Token) → [] ≡ f ++ c ∷ [] → ⊥
        empty [] k = cc
        empty (y ∷ f) k = cc
    never (y ∷ l) k m = absurd (closed none p y l m)

    go : View word entry r (us ++ (front ++ c ∷ [])) → BeginsText word entry r (front ++ c ∷ [])
    go (partly m) = never (front ++ c ∷ []) refl m
    go (past m n o) = let k = one_cut none p m o in subst (λ l. BeginsText word entry r l) (sym k.1) n

-- where reading stops

first_end : {word : List ℕ} {entry : Name} (ts : List Token) → IsNotNext (IsWord word) ts → IsNotNext (Has t.EndOfText) ts → (c : Token) (d : List Token) → ts ≡ c ∷ d → BeginsText word entry Any (c ∷ []) → ⊥
first_end ts a b c d h (e.ended x k) = b c d h k
first_end ts a b c d h (e.part x k p) = a c d h k
first_end {word} ts a b c d h (e.more x k p q m) = a c d h (subst (λ z. IsWord word z) (sym (same_head m)) k)

assoc_in : (x : Token) (us vs ws : List Token) → (x ∷ (us ++ vs)) ++ ws ≡ x ∷ (us ++ (vs ++ ws))
assoc_in x us vs ws = ap (λ l. x ∷ l) (append_assoc us vs ws)

behind_is : (ts mid left front rest : List Token) (x : Token) (us : List Token) → ts ≡ x ∷ mid → mid ≡ us ++ left → left ≡ front ++ rest → ts ≡ (x ∷ (us ++ front)) ++ rest
behind_is ts mid left front rest x us h k m = h ∙ ap (λ l. x ∷ l) (k ∙ ap (λ l. us ++ l) m) ∙ sym (assoc_in x us front rest)

pub stops_wrong : {word : List ℕ} {entry : Name} {k : ℕ} {ts rest : List Token} → tables.goes_on entry ≡ [] → avoids (form entry) ≡ true → Walk word entry k ts (read.Stop read.Wrong rest) → HaltsWrong (λ r us. BeginsText word entry r us) k ts rest
unfolding Reads
stops_wrong {word} {entry} {k} {ts} none free (w.other a b) =
    record { front = []; is = refl; begun = e.nothing; clean = refl; ends = λ c d h z. first_end ts a b c d h z }
stops_wrong {word} {entry} {k} {ts} none free (w.stop {mid = mid} {rest = rest} {x = x} h u run) =
    let p = walked (Limit k) entry mid (read.Stop read.Wrong rest) run in
    record {
      front = x ∷ p.front;
      is = h ∙ ap (λ l. x ∷ l) p.is;
      begun = e.part x u p.begun;
      clean = no_end_word word x p.front u (begun_without p.begun free);
      ends = λ c d m z. not_one_more x p.front c none u p.begun p.unspelled (p.ends c d m) z;
    }
stops_wrong {word} {entry} {k} {ts} none free (w.behind {mid = mid} {left = left} {rest = rest} {x = x} {v = v} h u run later) =
    let p = walked (Limit k) entry mid (Got v left) run in
    let q = stops_wrong none free later in
    record {
      front = x ∷ (p.front ++ q.front);
      is = behind_is ts mid left q.front rest x p.front h p.is q.is;
      begun = e.more x u p.spelled q.begun refl;
      clean = no_end_word word x (p.front ++ q.front) u (no_end_join p.front q.front (spelled p.spelled free) q.clean);
      ends = λ c d m z. q.ends c d m (behind_item x q.front c none u p.spelled (subst (λ l. BeginsText word entry Any l) (assoc_in x p.front q.front (c ∷ [])) z));
    }

pub stops_deep : {word : List ℕ} {entry : Name} {k : ℕ} {ts rest : List Token} → tables.goes_on entry ≡ [] → Walk word entry k ts (read.Stop read.Deep rest) → HaltsDeep (λ r us. BeginsText word entry r us) k ts rest
unfolding Reads
stops_deep {word} {entry} {k} {ts} none (w.stop {mid = mid} {rest = rest} {x = x} h u run) =
    let p = walked (Limit k) entry mid (read.Stop read.Deep rest) run in
    record {
      front = x ∷ p.front;
      opens = p.opens;
      behind = p.behind;
      is = h ∙ ap (λ l. x ∷ l) p.is;
      next = p.next;
      begun = e.part x u p.begun;
      deeper = e.part x u p.deeper;
      ends = λ c d m z. not_one_more x p.front c none u p.begun (λ v y. closed none y p.opens [] p.deeper) (p.ends c d m) z;
    }
stops_deep {word} {entry} {k} {ts} none (w.behind {mid = mid} {left = left} {rest = rest} {x = x} {v = v} h u run later) =
    let p = walked (Limit k) entry mid (Got v left) run in
    let q = stops_deep none later in
    record {
      front = x ∷ (p.front ++ q.front);
      opens = q.opens;
      behind = q.behind;
      is = behind_is ts mid left q.front rest x p.front h p.is q.is;
      next = q.next;
      begun = e.more x u p.spelled q.begun refl;
      deeper = e.more x u (spells_any p.spelled) q.deeper (assoc_in x p.front q.front (q.opens ∷ []));
      ends = λ c d m z. q.ends c d m (behind_item x q.front c none u p.spelled (subst (λ l. BeginsText word entry (Limit k) l) (assoc_in x p.front q.front (c ∷ [])) z));
    }

-- what is read

pub got_last : {word : List ℕ} {entry : Name} {k : ℕ} {ts rest : List Token} {vs : List (Value entry)} → Walk word entry k ts (Got vs rest) → (front : List Token) × (last : Token) × (ts ≡ front ++ last ∷ rest) × (symbol_of last ≡ t.EndOfText)
unfolding Reads
got_last (w.ended {x = x} h m) = ([], x, h, m)
got_last {k = k} {ts = ts} {rest = rest} (w.more {mid = mid} {left = left} {x = x} {v = v} h u run later) =
    let p = walked (Limit k) _ mid (Got v left) run in
    let q = got_last later in
    (x ∷ (p.front ++ q.0), q.1, behind_is ts mid left q.0 (q.1 ∷ rest) x p.front h p.is q.2, q.3)

pub got_spelled : {word : List ℕ} {entry : Name} {k : ℕ} {ts rest : List Token} {vs : List (Value entry)} → rest ≡ [] → Walk word entry k ts (Got vs rest) → SpellsText word entry (Limit k) ts vs
unfolding Reads
got_spelled {word} {entry} {k} {ts} {rest} e0 (w.ended {x = x} h m) = subst (λ l. SpellsText word entry (Limit k) l []) (sym (h ∙ ap (λ l. x ∷ l) e0)) (s.ended x m)
got_spelled {word} {entry} {k} {ts} e0 (w.more {mid = mid} {left = left} {x = x} {v = v} h u run later) =
    let p = walked (Limit k) entry mid (Got v left) run in
    s.more x u p.spelled (got_spelled e0 later) (h ∙ ap (λ l. x ∷ l) p.is)
