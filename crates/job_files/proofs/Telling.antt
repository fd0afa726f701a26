-- What is told of a file, from what reading it as it goes comes to; and that one thing alone may be told.
use Rattle.std.specs.Prelude.{◌&&◌, not, map}
use Rattle.std.proofs.Common.{◌≡◌, ℕ, Bool, true, false, List, [], ◌∷◌, ◌++◌, ◌⊎◌, inl, inr, Option, None, Some, Result, Ok, Err, refl, sym, ap, ◌∙◌, subst, append-nil, append_assoc}
use Rattle.grammar_core.specs.Spelling.{Room, Any, Limit}
use Rattle.grammar_core.proofs.Lists.{compare}
use Rattle.murphi_ast.specs.declared.token.Token.{Token}
use Rattle.murphi_ast.specs.declared.token.Span.{Span}
use Rattle.murphi_ast.specs.declared.expr.Named.{Named}
use Rattle.murphi_grammar.specs.declared.symbol.Symbol.TheVariants as t
use Rattle.murphi_grammar.specs.Symbols.{symbol_of}
use Rattle.murphi_expressions.specs.Says.{place_of}
use Rattle.murphi_expressions.specs.Expression.{greatest_nesting, first_refused}
use Rattle.murphi_expressions.specs.Ends.{is_end, has_no_end, AreOfText}
use Rattle.murphi_expressions.proofs.Telling.{first_of}
use Rattle.job_files.specs.declared.refusal.JobRefusal.{JobRefusal}
use Rattle.job_files.specs.declared.refusal.JobRefusal.TheVariants as refusal
use Rattle.job_files.specs.Told.{StopsWrong, StopsDeep, second_use, TellsFile, IsAnswered}
use Rattle.job_files.proofs.Texts.{same_head, same_tail}
use Rattle.job_files.proofs.TextStops.{HaltsWrong, HaltsDeep}

-- the end of a text

ends_there : (front : List Token) (last : Token) → symbol_of last ≡ t.EndOfText → has_no_end (front ++ last ∷ []) ≡ false
ends_there [] last h = ap (λ z. not (is_end z) && true) h
ends_there (x ∷ front) last h = go (not (is_end (symbol_of x))) (ends_there front last h)
  where
    go : (b : Bool) → has_no_end (front ++ last ∷ []) ≡ false → b && has_no_end (front ++ last ∷ []) ≡ false
    go true k = k
    go false k = refl

-- reading stops at a token
left_over : (ts front rest : List Token) → AreOfText ts → ts ≡ front ++ rest → has_no_end front ≡ true → rest ≡ [] → ⊥
left_over ts front rest text h k m =
    let a : has_no_end ts ≡ false = ap has_no_end text.are ∙ ends_there text.front text.last text.ends in
    let b : has_no_end ts ≡ true = ap has_no_end (h ∙ ap (λ l. front ++ l) m ∙ append-nil front) ∙ k in
    absurd (cc)

no_cons : {A : Type 0} (us : List A) (x : A) (vs : List A) → us ++ x ∷ vs ≡ [] → ⊥
no_cons [] x vs h = cc
no_cons (u ∷ us) x vs h = cc

and_right : (a b : Bool) → a && b ≡ true → b ≡ true
and_right true b h = h
and_right false b h = absurd (cc)

-- nothing is left behind the end of a text
all_read : (front : List Token) (last : Token) (rest tf : List Token) (tl : Token) → front ++ last ∷ rest ≡ tf ++ tl ∷ [] → symbol_of last ≡ t.EndOfText → has_no_end tf ≡ true → rest ≡ []
all_read [] last rest [] tl h k m = same_tail h
all_read [] last rest (y ∷ tf) tl h k m =
    let p : not (is_end t.EndOfText) && has_no_end tf ≡ true = subst (λ z. not (is_end z) && has_no_end tf ≡ true) (ap symbol_of (sym (same_head h)) ∙ k) m in
    absurd (cc)
all_read (x ∷ front) last rest [] tl h k m = absurd (no_cons front last rest (same_tail h))
all_read (x ∷ front) last rest (y ∷ tf) tl h k m = all_read front last rest tf tl (same_tail h) k (and_right (not (is_end (symbol_of y))) (has_no_end tf) m)

pub none_left : (ts front : List Token) (last : Token) (rest : List Token) → AreOfText ts → ts ≡ front ++ last ∷ rest → symbol_of last ≡ t.EndOfText → rest ≡ []
none_left ts front last rest text h k = all_read front last rest text.front text.last (sym h ∙ text.are) k text.no_other

pub halts_wrong : (begins : Room → List Token → Type 0) (ts rest : List Token) → AreOfText ts → HaltsWrong begins greatest_nesting ts rest → StopsWrong begins ts (place_of rest)
halts_wrong begins ts rest text p =
    let x = first_of rest (left_over ts p.front rest text p.is p.clean) in
    record { front = p.front; token = x.0; behind = x.1; are = p.is ∙ ap (λ l. p.front ++ l) x.2; place = x.3; begun = p.begun; ends = p.ends x.0 x.1 x.2 }

pub halts_deep : (begins : Room → List Token → Type 0) (ts rest : List Token) → HaltsDeep begins greatest_nesting ts rest → StopsDeep begins ts (place_of rest)
halts_deep begins ts rest p =
    record { front = p.front; token = p.opens; behind = p.behind; are = p.is ∙ ap (λ l. p.front ++ l) p.next; place = ap place_of p.next; begun = p.begun; deeper = p.deeper; ends = p.ends p.opens p.behind p.next }

-- What keeps two things from being told

pub record IsReadable {V : Type 0} (spells : Room → List Token → List V → Type 0) (begins : Room → List Token → Type 0) : Type 0 where
  pub begun : (r : Room) (us : List Token) (vs : List V) → spells r us vs → begins r us
  pub any : (r : Room) (us : List Token) → begins r us → begins Any us
  pub fronts : (r : Room) (us : List Token) → begins r us → (vs ws : List Token) → us ≡ vs ++ ws → begins r vs
  pub one : (r q : Room) (us : List Token) (vs ws : List V) → spells r us vs → spells q us ws → vs ≡ ws

module _ {V : Type 0} (spells : Room → List Token → List V → Type 0) (begins : Room → List Token → Type 0) (name : V → Named) (can : IsReadable spells begins) where
  -- two places where reading stops are one
  same_stop : (ts front other : List Token) (x y : Token) (d e : List Token) → ts ≡ front ++ x ∷ d → ts ≡ other ++ y ∷ e → begins (Limit greatest_nesting) front → begins (Limit greatest_nesting) other →
      (begins (Limit greatest_nesting) (front ++ x ∷ []) → ⊥) → (begins (Limit greatest_nesting) (other ++ y ∷ []) → ⊥) → (front ≡ other) × (x ≡ y)
  same_stop ts front other x y d e h k p q never nevermore = go (compare front (x ∷ d) other (y ∷ e) (sym h ∙ k))
    where
      further : (us vs : List Token) (c : Token) (l m n : List Token) → begins (Limit greatest_nesting) vs → (begins (Limit greatest_nesting) (us ++ c ∷ []) → ⊥) → vs ≡ us ++ c ∷ l → ⊥
      further us vs c l m n b never h = never (can.fronts (Limit greatest_nesting) vs b (us ++ c ∷ []) l (h ∙ sym (append_assoc us (c ∷ []) l)))

      on : (f : List Token) → other ≡ front ++ f → x ∷ d ≡ f ++ y ∷ e → (front ≡ other) × (x ≡ y)
      on [] m o = (sym (append-nil front) ∙ sym m, same_head o)
      on (c ∷ f) m o = absurd (further front other x f [] [] q never (m ∙ ap (λ z. front ++ z ∷ f) (sym (same_head o))))

      off : (f : List Token) → front ≡ other ++ f → y ∷ e ≡ f ++ x ∷ d → (front ≡ other) × (x ≡ y)
      off [] m o = (m ∙ append-nil other, sym (same_head o))
      off (c ∷ f) m o = absurd (further other front y f [] [] p nevermore (m ∙ ap (λ z. other ++ z ∷ f) (sym (same_head o))))

      go : ((f : List Token) × (other ≡ front ++ f) × (x ∷ d ≡ f ++ y ∷ e)) ⊎ ((f : List Token) × (front ≡ other ++ f) × (y ∷ e ≡ f ++ x ∷ d)) → (front ≡ other) × (x ≡ y)
      go (inl (f, m, o)) = on f m o
      go (inr (f, m, o)) = off f m o

  not_both : (ts : List Token) (vs : List V) (front : List Token) (x : Token) (d : List Token) → spells (Limit greatest_nesting) ts vs → ts ≡ front ++ x ∷ d → (begins (Limit greatest_nesting) (front ++ x ∷ []) → ⊥) → ⊥
  not_both ts vs front x d p h never =
      never (can.fronts (Limit greatest_nesting) ts (can.begun (Limit greatest_nesting) ts vs p) (front ++ x ∷ []) d (h ∙ sym (append_assoc front (x ∷ []) d)))

  wrong_ends : (ts : List Token) (at : Span) (s : StopsWrong begins ts at) → begins (Limit greatest_nesting) (s.front ++ s.token ∷ []) → ⊥
  wrong_ends ts at s b = s.ends (can.any (Limit greatest_nesting) (s.front ++ s.token ∷ []) b)

  two_wrong : (ts : List Token) (at to : Span) → StopsWrong begins ts at → StopsWrong begins ts to → at ≡ to
  two_wrong ts at to s q =
      let h = same_stop ts s.front q.front s.token q.token s.behind q.behind s.are q.are s.begun q.begun (wrong_ends ts at s) (wrong_ends ts to q) in
      s.place ∙ ap (λ (x : Token). x.at) h.1 ∙ sym q.place

  two_deep : (ts : List Token) (at to : Span) → StopsDeep begins ts at → StopsDeep begins ts to → at ≡ to
  two_deep ts at to s q =
      let h = same_stop ts s.front q.front s.token q.token s.behind q.behind s.are q.are s.begun q.begun s.ends q.ends in
      s.place ∙ ap (λ (x : Token). x.at) h.1 ∙ sym q.place

  wrong_deep : (ts : List Token) (at to : Span) → StopsWrong begins ts at → StopsDeep begins ts to → ⊥
  wrong_deep ts at to s q =
      let h = same_stop ts s.front q.front s.token q.token s.behind q.behind s.are q.are s.begun q.begun (wrong_ends ts at s) q.ends in
      s.ends (subst (λ x. begins Any (s.front ++ x ∷ [])) (sym h.1) (subst (λ l. begins Any (l ++ q.token ∷ [])) (sym h.0) q.deeper))

  some_none : {A : Type 0} {x : A} {o : Option A} → o ≡ None → o ≡ Some x → ⊥
  some_none h k = cc

  same_uses : (ts : List Token) (vs ws : List V) → spells (Limit greatest_nesting) ts vs → spells (Limit greatest_nesting) ts ws → second_use (map name vs) ≡ second_use (map name ws)
  same_uses ts vs ws p q = ap (λ l. second_use (map name l)) (can.one (Limit greatest_nesting) (Limit greatest_nesting) ts vs ws p q)

  some_is : {A : Type 0} {x y : A} → Some x ≡ Some y → x ≡ y
  some_is h = cc

  abbrev Tells : List Token → Result (List V) JobRefusal → Type 0
  Tells ts answer = TellsFile spells begins name ts answer

  pub answers_once : (ts : List Token) (r a : Result (List V) JobRefusal) → Tells ts r → Tells ts a → IsAnswered r a
  answers_once ts (Ok vs) (Ok ws) (h, p, u) (g, q, o) = ap Ok (can.one (Limit greatest_nesting) (Limit greatest_nesting) ts vs ws p q)
  answers_once ts (Ok vs) (Err (refusal.E02 to)) x a = absurd a
  answers_once ts (Ok vs) (Err (refusal.E03 to)) x a = absurd a
  answers_once ts (Ok vs) (Err (refusal.E04 to)) (h, p, u) (g, q) = absurd (not_both ts vs q.front q.token q.behind p q.are (wrong_ends ts to q))
  answers_once ts (Ok vs) (Err (refusal.E06 to)) (h, p, u) (ws, g, q, o) = absurd (some_none u (same_uses ts vs ws p q ∙ o))
  answers_once ts (Ok vs) (Err (refusal.E10 to)) (h, p, u) g = absurd (some_none h g)
  answers_once ts (Ok vs) (Err (refusal.E15 to)) (h, p, u) (g, q) = absurd (not_both ts vs q.front q.token q.behind p q.are q.ends)
  answers_once ts (Ok vs) (Err refusal.Memory) x a = tt
  answers_once ts (Err (refusal.E02 at)) a x b = absurd x
  answers_once ts (Err (refusal.E03 at)) a x b = absurd x
  answers_once ts (Err (refusal.E04 at)) (Ok ws) (g, q) (h, p, u) = absurd (not_both ts ws q.front q.token q.behind p q.are (wrong_ends ts at q))
  answers_once ts (Err (refusal.E04 at)) (Err (refusal.E02 to)) x a = absurd a
  answers_once ts (Err (refusal.E04 at)) (Err (refusal.E03 to)) x a = absurd a
  answers_once ts (Err (refusal.E04 at)) (Err (refusal.E04 to)) (h, p) (g, q) = ap (λ z. Err (refusal.E04 z)) (two_wrong ts at to p q)
  answers_once ts (Err (refusal.E04 at)) (Err (refusal.E06 to)) (h, q) (ws, g, p, o) = absurd (not_both ts ws q.front q.token q.behind p q.are (wrong_ends ts at q))
  answers_once ts (Err (refusal.E04 at)) (Err (refusal.E10 to)) (h, p) g = absurd (some_none h g)
  answers_once ts (Err (refusal.E04 at)) (Err (refusal.E15 to)) (h, p) (g, q) = absurd (wrong_deep ts at to p q)
  answers_once ts (Err (refusal.E04 at)) (Err refusal.Memory) x a = tt
  answers_once ts (Err (refusal.E06 at)) (Ok ws) (vs, g, q, o) (h, p, u) = absurd (some_none u (same_uses ts ws vs p q ∙ o))
  answers_once ts (Err (refusal.E06 at)) (Err (refusal.E02 to)) x a = absurd a
  answers_once ts (Err (refusal.E06 at)) (Err (refusal.E03 to)) x a = absurd a
  answers_once ts (Err (refusal.E06 at)) (Err (refusal.E04 to)) (ws, g, p, o) (h, q) = absurd (not_both ts ws q.front q.token q.behind p q.are (wrong_ends ts to q))
  answers_once ts (Err (refusal.E06 at)) (Err (refusal.E06 to)) (vs, g, q, o) (ws, h, p, u) = ap (λ z. Err (refusal.E06 z)) (some_is (sym o ∙ same_uses ts vs ws q p ∙ u))
  answers_once ts (Err (refusal.E06 at)) (Err (refusal.E10 to)) (vs, g, q, o) h = absurd (some_none g h)
  answers_once ts (Err (refusal.E06 at)) (Err (refusal.E15 to)) (ws, g, p, o) (h, q) = absurd (not_both ts ws q.front q.token q.behind p q.are q.ends)
  answers_once ts (Err (refusal.E06 at)) (Err refusal.Memory) x a = tt
  answers_once ts (Err (refusal.E10 at)) (Ok ws) g (h, p, u) = absurd (some_none h g)
  answers_once ts (Err (refusal.E10 at)) (Err (refusal.E02 to)) x a = absurd a
  answers_once ts (Err (refusal.E10 at)) (Err (refusal.E03 to)) x a = absurd a
  answers_once ts (Err (refusal.E10 at)) (Err (refusal.E04 to)) g (h, p) = absurd (some_none h g)
  answers_once ts (Err (refusal.E10 at)) (Err (refusal.E06 to)) g (ws, h, p, u) = absurd (some_none h g)
  answers_once ts (Err (refusal.E10 at)) (Err (refusal.E10 to)) g h = ap (λ z. Err (refusal.E10 z)) (some_is (sym g ∙ h))
  answers_once ts (Err (refusal.E10 at)) (Err (refusal.E15 to)) g (h, p) = absurd (some_none h g)
  answers_once ts (Err (refusal.E10 at)) (Err refusal.Memory) x a = tt
  answers_once ts (Err (refusal.E15 at)) (Ok ws) (g, q) (h, p, u) = absurd (not_both ts ws q.front q.token q.behind p q.are q.ends)
  answers_once ts (Err (refusal.E15 at)) (Err (refusal.E02 to)) x a = absurd a
  answers_once ts (Err (refusal.E15 at)) (Err (refusal.E03 to)) x a = absurd a
  answers_once ts (Err (refusal.E15 at)) (Err (refusal.E04 to)) (h, p) (g, q) = absurd (wrong_deep ts to at q p)
  answers_once ts (Err (refusal.E15 at)) (Err (refusal.E06 to)) (h, q) (ws, g, p, o) = absurd (not_both ts ws q.front q.token q.behind p q.are q.ends)
  answers_once ts (Err (refusal.E15 at)) (Err (refusal.E10 to)) (h, p) g = absurd (some_none h g)
  answers_once ts (Err (refusal.E15 at)) (Err (refusal.E15 to)) (h, p) (g, q) = ap (λ z. Err (refusal.E15 z)) (two_deep ts at to p q)
  answers_once ts (Err (refusal.E15 at)) (Err refusal.Memory) x a = tt
  answers_once ts (Err refusal.Memory) a x b = none_told a b
    where
      none_told : (a : Result (List V) JobRefusal) → Tells ts a → IsAnswered {A = List V} (Err refusal.Memory) a
      none_told (Ok x) b = tt
      none_told (Err refusal.Memory) b = tt
      none_told (Err (refusal.E02 to)) b = tt
      none_told (Err (refusal.E03 to)) b = tt
      none_told (Err (refusal.E04 to)) b = tt
      none_told (Err (refusal.E06 to)) b = tt
      none_told (Err (refusal.E10 to)) b = tt
      none_told (Err (refusal.E15 to)) b = tt
