-- What follows for every grammar: what is spelled begins, fronts of what begins begin, and any room will do
-- where some room does.
use Rattle.std.proofs.Common.{◌≡◌, List, [], ◌∷◌, ◌++◌, inl, inr, refl, sym, ap, ◌∙◌, append_assoc, append-nil}
use Rattle.grammar_core.specs.Forms.{One, Many, Tree, Grammar, FormOf}
use Rattle.grammar_core.specs.Spelling.{Room, Any, Inside, any_more, Spells, Begins}
use Rattle.grammar_core.specs.Spelling.{Spells as s}
use Rattle.grammar_core.specs.Spelling.{Begins as b}
use Rattle.grammar_core.proofs.Lists.{compare}

pub begun : {g : Grammar} {r : Room} {f : FormOf g} {us : List g.Token} {t : Tree g f} → Spells g r f us t → Begins g r f us
begun (s.token x e) = b.token x e
begun s.empty = b.nothing
begun (s.seq p q e) = b.second p (begun q) e
begun (s.left p) = b.left (begun p)
begun (s.right p) = b.right (begun p)
begun s.none = b.nothing
begun (s.more p q e) = b.some (s.more p q e) b.nothing (sym (append-nil _))
begun (s.nest x e i p) = b.nest x e i (begun p)
begun (s.call p e) = b.call (begun p)

inside_any : {r q : Room} → Inside r q → Inside Any Any
inside_any i = any_more

pub spells_any : {g : Grammar} {r : Room} {f : FormOf g} {us : List g.Token} {t : Tree g f} → Spells g r f us t → Spells g Any f us t
spells_any (s.token x e) = s.token x e
spells_any s.empty = s.empty
spells_any (s.seq p q e) = s.seq (spells_any p) (spells_any q) e
spells_any (s.left p) = s.left (spells_any p)
spells_any (s.right p) = s.right (spells_any p)
spells_any s.none = s.none
spells_any (s.more p q e) = s.more (spells_any p) (spells_any q) e
spells_any (s.nest x e i p) = s.nest x e any_more (spells_any p)
spells_any (s.call p e) = s.call (spells_any p) e

pub begins_any : {g : Grammar} {r : Room} {f : FormOf g} {us : List g.Token} → Begins g r f us → Begins g Any f us
begins_any b.nothing = b.nothing
begins_any (b.token x e) = b.token x e
begins_any (b.first p) = b.first (begins_any p)
begins_any (b.second p q e) = b.second (spells_any p) (begins_any q) e
begins_any (b.left p) = b.left (begins_any p)
begins_any (b.right p) = b.right (begins_any p)
begins_any (b.some p q e) = b.some (spells_any p) (begins_any q) e
begins_any (b.nest x e i p) = b.nest x e any_more (begins_any p)
begins_any (b.call p) = b.call (begins_any p)

token_front : {g : Grammar} {r : Room} {s : g.Symbol} (x : g.Token) → g.symbol x ≡ s → (vs ws : List g.Token) → x ∷ [] ≡ vs ++ ws → Begins g r (One s) vs
token_front x h [] ws e = b.nothing
token_front {g} x h (v ∷ []) ws e = b.token v (ap g.symbol (cc) ∙ h)
token_front x h (v ∷ w ∷ vs) ws e = absurd (cc)

no_front : {g : Grammar} {r : Room} {f : FormOf g} (vs ws : List g.Token) → [] ≡ vs ++ ws → Begins g r f vs
no_front [] ws e = b.nothing
no_front (v ∷ vs) ws e = absurd (cc)

pub one_more : {g : Grammar} {r : Room} {a : FormOf g} {all ps us : List g.Token} {x : Tree g a} → Spells g r a ps x → Begins g r (Many a) us → all ≡ ps ++ us → Begins g r (Many a) all
one_more {ps = ps} p b.nothing e = b.some (s.more p s.none refl) b.nothing (e ∙ sym (append-nil (ps ++ [])))
one_more {ps = ps} p (b.some {vs = vs} {ws = ws} q h e') e = b.some (s.more p q refl) h (e ∙ ap (λ l. ps ++ l) e' ∙ sym (append_assoc ps vs ws))

-- a front of what is spelled begins the form
pub front_spelled : {g : Grammar} {r : Room} {f : FormOf g} {us : List g.Token} {t : Tree g f} → Spells g r f us t → (vs ws : List g.Token) → us ≡ vs ++ ws → Begins g r f vs
front_spelled (s.token x h) vs ws e = token_front x h vs ws e
front_spelled s.empty vs ws e = no_front vs ws e
front_spelled (s.seq {vs = ps} {ws = qs} p q h) vs ws e =
    elim (compare vs ws ps qs (sym e ∙ h)) [ inl (d, e1, e2) ↦ b.first (front_spelled p vs d e1) | inr (d, e1, e2) ↦ b.second p (front_spelled q d ws e2) e1 ]
front_spelled (s.left p) vs ws e = b.left (front_spelled p vs ws e)
front_spelled (s.right p) vs ws e = b.right (front_spelled p vs ws e)
front_spelled s.none vs ws e = no_front vs ws e
front_spelled (s.more {vs = ps} {ws = qs} p q h) vs ws e =
    elim (compare vs ws ps qs (sym e ∙ h)) [ inl (d, e1, e2) ↦ b.some s.none (front_spelled p vs d e1) refl | inr (d, e1, e2) ↦ one_more p (front_spelled q d ws e2) e1 ]
front_spelled (s.nest x h i p) [] ws e = b.nothing
front_spelled {g} (s.nest x h i p) (v ∷ vs) ws e = b.nest v (ap g.symbol (cc) ∙ h) i (front_spelled p vs ws (cc))
front_spelled (s.call p h) vs ws e = b.call (front_spelled p vs ws e)

-- a front of what begins the form begins it
pub front : {g : Grammar} {r : Room} {f : FormOf g} {us : List g.Token} → Begins g r f us → (vs ws : List g.Token) → us ≡ vs ++ ws → Begins g r f vs
front b.nothing vs ws e = no_front vs ws e
front (b.token x h) vs ws e = token_front x h vs ws e
front (b.first p) vs ws e = b.first (front p vs ws e)
front (b.second {vs = ps} {ws = qs} p q h) vs ws e =
    elim (compare vs ws ps qs (sym e ∙ h)) [ inl (d, e1, e2) ↦ b.first (front_spelled p vs d e1) | inr (d, e1, e2) ↦ b.second p (front q d ws e2) e1 ]
front (b.left p) vs ws e = b.left (front p vs ws e)
front (b.right p) vs ws e = b.right (front p vs ws e)
front (b.some {vs = ps} {ws = qs} p q h) vs ws e =
    elim (compare vs ws ps qs (sym e ∙ h)) [ inl (d, e1, e2) ↦ front_spelled p vs d e1 | inr (d, e1, e2) ↦ b.some p (front q d ws e2) e1 ]
front (b.nest x h i p) [] ws e = b.nothing
front {g} (b.nest x h i p) (v ∷ vs) ws e = b.nest v (ap g.symbol (cc) ∙ h) i (front p vs ws (cc))
front (b.call p) vs ws e = b.call (front p vs ws e)
